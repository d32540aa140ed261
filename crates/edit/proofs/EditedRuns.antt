-- What is read in the run of a book, and what words stored and words put in make of it: the run in the parts that an
-- edit leaves and replaces. Assumes nothing.
use Prim.Native.Nat.{ℕ, suc, ◌+◌, ◌-◌}
use mathlib.Core.Path.{◌≡◌, refl, sym, ap, ◌∙◌}
use mathlib.Core.List.{List, [], ◌∷◌, ◌++◌, map, append_assoc}
use native.Mathlib.Omega.{arith}
use lib.Dec.{T}
use lib.ListN.{length, get_or, set, take, drop, replicate, length-append, length-map}
use lib.Seq.{append_snoc, drop-append-add, get_or-append_seam, set-append_seam, take_at, drop_at, sets}
use Rattle.word.specs.Codec.{Word, Head, packed}
use Rattle.book.specs.Facts.{Facts}
use Rattle.book.specs.Layout.{used, counter_words, facts_of}
use Rattle.book.specs.Uncounted.{uncounted}
use Rattle.book.specs.Books.{is_book}
use Rattle.book.proofs.Splices.{Spliced, used_spliced}
use Rattle.book.proofs.SplicedRuns.{front, back, zeros, place_is, run_was, run_is}
use Rattle.edit.specs.Insertion.{insert_words}
use Rattle.logic.proofs.Slices.{drop_zeros}

-- ---- words stored, and words put in

-- new words over as many old ones
sets_between :
    (front old new back : List ℕ) → length old ≡ length new
    → sets (front ++ (old ++ back)) (length front) new ≡ front ++ (new ++ back)
sets_between front [] [] back e = refl
sets_between front [] (v ∷ new) back e = absurd (omega arith)
sets_between front (w ∷ old) [] back e = absurd (omega arith)
sets_between front (w ∷ old) (v ∷ new) back e =
    let next : suc (length front) ≡ length (front ++ (v ∷ [])) = sym (simp length-append (omega arith)) in
    (λ i. sets (set-append_seam front w (old ++ back) v i) (next i) new)
    ∙ ap (λ (l : List ℕ). sets l (length (front ++ (v ∷ []))) new) (sym (append_snoc front v (old ++ back)))
    ∙ sets_between (front ++ (v ∷ [])) old new back (omega arith)
    ∙ append_snoc front v (new ++ back)

-- new words before those of `back`, which take the place of as many of `zeros`
put_between :
    (front new back zeros : List ℕ) (at end : ℕ) → at ≡ length front → end ≡ length front + length back
    → take at (front ++ (back ++ zeros))
    ++ (new
    ++ (take (end - at) (drop at (front ++ (back ++ zeros))) ++ drop (end + length new) (front ++ (back ++ zeros))))
    ≡ front ++ (new ++ (back ++ drop (length new) zeros))
put_between front new back zeros at end e e' =
    let last : drop (end + length new) (front ++ (back ++ zeros)) ≡ drop (length new) zeros =
    ap (drop (end + length new)) (sym (append_assoc front back zeros))
    ∙ ap (λ (n : ℕ). drop (n + length new) ((front ++ back) ++ zeros)) (e' ∙ sym (length-append front back))
    ∙ drop-append-add (front ++ back) zeros (length new) in
    rw (
      take_at front (back ++ zeros) at (sym e),
      drop_at front (back ++ zeros) at (sym e),
      take_at back zeros (end - at) (omega arith),
      last,
    )

-- ---- the run of edited facts

module _
    (ws : List ℕ) (t : T (is_book ws)) {at : ℕ} {old new : List Word} {g : Facts}
    (s : Spliced at old new (facts_of ws) g) where
  abbrev f : Facts
  f = facts_of ws

  abbrev before : List ℕ
  before = front ws t s

  abbrev after : List ℕ
  after = back ws t s

  abbrev past : List ℕ
  past = zeros ws t s

  pub old_read : {w : Word} → old ≡ w ∷ [] → get_or ws at 0 ≡ packed w
  old_read {w} e =
      (λ i. get_or (run_was ws t s i) (place_is ws t s i) 0)
      ∙ ap (λ (l : List Word). get_or (before ++ (map packed l ++ (after ++ past))) (length before) 0) e
      ∙ get_or-append_seam before (packed w) (after ++ past) 0

  pub stored : length old ≡ length new → sets ws at (map packed new) ≡ uncounted (length ws) f g
  stored e =
      (λ i. sets (run_was ws t s i) (place_is ws t s i) (map packed new))
      ∙ sets_between before (map packed old) (map packed new) (after ++ past)
      (length-map old packed ∙ e ∙ sym (length-map new packed))
      ∙ run_is ws t s (used f) (omega (arith, used_spliced s))

  pub inserted : old ≡ [] → insert_words at (map packed new) ws ≡ uncounted (length ws) f g
  unfolding insert_words
  inserted none =
      ap
      (λ (l : List ℕ).
      set (take at l ++ (map packed new ++ (take (used f - at) (drop at l) ++ drop (used f + k) l))) 0 head)
      (run_was ws t s ∙ ap (λ (l : List Word). before ++ (map packed l ++ (after ++ past))) none)
      ∙ ap (λ (l : List ℕ). set l 0 head)
      (put_between before (map packed new) after past at (used f) (place_is ws t s) all)
      ∙ ap
      (λ (l : List ℕ).
      head ∷ (map packed (counter_words f.classes) ++ (map packed s.front ++ (map packed new ++ (after ++ l)))))
      (drop_zeros k (length ws - used f) ∙ ap (λ (j : ℕ). replicate j 0) fewer)
      ∙ run_is ws t s (used f + k) (omega (arith, used_spliced s, ap length none, length-map new packed))
    where
      k : ℕ
      k = length (map packed new)

      head : ℕ
      head = packed (Head f.now (used f + k))

      all : used f ≡ length before + length after
      all =
          omega (
            arith,
            ap length (s.was ∙ ap (λ (l : List Word). s.front ++ (l ++ s.back)) none)
                ∙ length-append s.front s.back,
            length-map s.front packed,
            length-map s.back packed,
          )

      fewer : length ws - used f - k ≡ length ws - (used f + k)
      fewer = omega arith
