-- The run of a book before and after an edit of its facts: the words that stay, those of before or the new ones between
-- them, and the zeros. By the words of both. Assumes nothing.
use Prim.Native.Nat.{ℕ, ◌-◌}
use mathlib.Core.Path.{◌≡◌, sym, ap, ◌∙◌}
use mathlib.Core.List.{List, ◌∷◌, ◌++◌, map, map-append, append_assoc}
use native.Mathlib.Omega.{arith}
use lib.Dec.{T}
use lib.ListN.{length, replicate, length-map}
use Rattle.word.specs.Codec.{Word, Head, packed}
use Rattle.book.specs.Facts.{Facts}
use Rattle.book.specs.Layout.{used, counter_words, head_words, facts_of}
use Rattle.book.specs.Uncounted.{uncounted}
use Rattle.book.specs.Books.{is_book}
use Rattle.book.proofs.Layouts.{book_facts}
use Rattle.book.proofs.Splices.{Spliced}
use Rattle.book.proofs.Runs.{run_parts}

module _
    (ws : List ℕ) (t : T (is_book ws)) {at : ℕ} {old new : List Word} {g : Facts}
    (s : Spliced at old new (facts_of ws) g) where
  abbrev f : Facts
  f = facts_of ws

  abbrev pub front : List ℕ
  front = map packed (head_words f ++ s.front)

  abbrev pub back : List ℕ
  back = map packed s.back

  abbrev pub zeros : List ℕ
  zeros = replicate (length ws - used f) 0

  pub place_is : at ≡ length front
  place_is = omega (arith, s.place, length-map s.front packed)

  pub run_was : ws ≡ front ++ (map packed old ++ (back ++ zeros))
  run_was =
      sym (book_facts ws t).1
      ∙ run_parts (length ws) f (head_words f ++ s.front) old s.back
      (ap (λ (l : List Word). head_words f ++ l) s.was)

  -- the run after an edit that leaves `count` words used, and the counters as they were
  pub run_is :
      (count : ℕ) → used g ≡ count
      → packed (Head f.now count)
      ∷ (map packed (counter_words f.classes)
      ++ (map packed s.front ++ (map packed new ++ (back ++ replicate (length ws - count) 0))))
      ≡ uncounted (length ws) f g
  unfolding uncounted
  run_is count e =
      let past : List ℕ = replicate (length ws - used g) 0 in
      let parts :
      map packed (s.front ++ (new ++ s.back)) ++ past
      ≡ map packed s.front ++ (map packed new ++ (back ++ past)) =
      simp (map-append, append_assoc) in
      sym
      (ap
      (λ (l : List Word). map packed (Head g.now (used g) ∷ (counter_words f.classes ++ l)) ++ past)
      s.is
      ∙ ap
      (λ (l : List ℕ). packed (Head g.now (used g)) ∷ (map packed (counter_words f.classes) ++ l))
      parts
      ∙ (λ i.
      packed (Head (s.month i) (e i))
      ∷ (map packed (counter_words f.classes)
      ++ (map packed s.front ++ (map packed new ++ (back ++ replicate (length ws - e i) 0))))))
