-- The answers of the lookups of an expiration and of a strike in an open class: by whether the expiration's word stands
-- where it would. Assumes nothing.
use Prim.Native.Nat.{ℕ, ◌+◌, ◌^◌, ◌≤◌, ◌<◌}
use mathlib.Core.Path.{◌≡◌, sym, ap, ◌∙◌}
use mathlib.Core.Bool.{Bool, true, false, cond, ◌&&◌}
use mathlib.Core.List.{List, []}
use Rattle.std.specs.Option.{MatchOption}
use Rattle.std.specs.Prelude.{Option, Some, None}
use native.Mathlib.Omega.{arith}
use lib.ListN.{length, get_or}
use lib.Dec.{T, eqb, ltb}
use borrow.Author.Tests.{lt-ltb, le-ltb}
use Rattle.word.specs.Figures.{figures_length}
use Rattle.word.specs.Limits.{last_month}
use Rattle.word.specs.Kinds.{expiration_kind, strike_kind, kind_field}
use Rattle.word.specs.Codec.{Expiration as ExpirationWord, packed}
use Rattle.logic.specs.Lists.{some, only, first_at}
use Rattle.book.specs.Facts.{Series, Facts, is_class_open, in_month}
use Rattle.book.specs.Layout.{used, facts_of}
use Rattle.book.specs.Books.{is_book}
use Rattle.book.specs.Views.{view_of, class, is_standing}
use Rattle.book.specs.Places.{class_place, has_expiration, expiration_place, strikes_place, strikes_end, strike_place}
use Rattle.logic.proofs.Parts.{is_under, is_equal, some_both}
use Rattle.book.proofs.SeriesParts.{month_of, strike_of}
use Rattle.place.specs.Search.{is_holding, is_up_to}
use Rattle.place.specs.Lookups.{expiration_of, strike_search_of}
use Rattle.place.proofs.Found.{used_part, none_in, expiration_sought, expiration_found, strikes_ended, strike_sought, strike_found}

-- ---- a test of a word, where it is one of those used

pub used_test :
    {Told : ℕ → Type 0} (ws : List ℕ) (at end : ℕ) (word : Option ℕ) (b : Bool) (test : ℕ → Bool)
    → MatchOption word (end ≤ at) (λ w. (at < end) × (w ≡ get_or ws at 0)) → MatchOption word (b ≡ false) Told
    → ((w : ℕ) → Told w → b ≡ test w) → b ≡ (ltb at end && test (get_or ws at 0))
used_test ws at end None b test past e told =
    e ∙ ap (λ (x : Bool). x && test (get_or ws at 0)) (sym (le-ltb at end past))
used_test ws at end (Some w) b test h e told =
    told w e ∙ ap test h.1 ∙ ap (λ (x : Bool). x && test (get_or ws at 0)) (sym (lt-ltb at end h.0))

-- ---- the answers

module _
    (ws : List ℕ) (b : T (is_book ws)) (c : ℕ) (o : T (is_class_open c (facts_of ws).classes)) (m : ℕ)
    (month : m ≤ last_month) where
  abbrev facts : Facts
  facts = facts_of ws

  abbrev here : List Series
  here = in_month m (class facts c).series

  -- where its search stops, and whether its word stands there
  pub strikes_begun :
      (from place w : ℕ) (there : Bool) → from ≡ class_place c facts + figures_length
      → place ≡ from + first_at (is_up_to expiration_kind m) (used_part ws b from) → w ≡ packed (ExpirationWord m)
      → there ≡ (ltb place (used facts) && eqb (get_or ws place 0) w)
      → (there ≡ has_expiration c m facts) × (place + cond {A = ℕ} there 1 0 ≡ strikes_place c m facts)
  strikes_begun from place w there begin stop word said =
      let at : place ≡ expiration_place c m facts = stop ∙ expiration_sought ws b c o m month from begin in
      let is : there ≡ has_expiration c m facts =
      said
      ∙ ap (λ (v : ℕ). ltb place (used facts) && eqb (get_or ws place 0) v) word
      ∙ expiration_found ws b c o m month place at in
      (is, omega (arith, at, ap (λ (s : Bool). cond {A = ℕ} s 1 0) is))

  module _
      (absent : has_expiration c m facts ≡ false) (place : ℕ) (place_absent : place ≡ strikes_place c m facts) where
    none : here ≡ []
    none = none_in ws b c o m month absent

    pub no_expiration : record { from = place; to = place } ≡ expiration_of c m facts
    no_expiration =
        let end : place ≡ strikes_end c m facts = omega (arith, place_absent, ap length none) in
        λ i. record { from = place_absent i; to = end i }

    pub no_strike : (h : ℕ) → record { at = place; expiration = false; standing = false } ≡ strike_search_of c m h facts
    no_strike h =
        let at : place ≡ strike_place c m h facts =
        omega (arith, place_absent, ap (λ (l : List Series). length (only (is_under strike_of h) l)) none) in
        let standing : false ≡ is_standing (view_of c facts) m h =
        ap (some (is_equal strike_of h)) (sym none)
        ∙ some_both (is_equal month_of m) (is_equal strike_of h) (class facts c).series in
        λ i. record { at = at i; expiration = sym absent i; standing = standing i }

  module _ (stands : has_expiration c m facts ≡ true) (from : ℕ) (begin : from ≡ strikes_place c m facts) where
    after : from ≡ expiration_place c m facts + 1
    after = omega (arith, begin, ap (λ (s : Bool). cond {A = ℕ} s 1 0) stands)

    pub its_strikes :
        (k : ℕ) → k ≡ first_at (is_up_to expiration_kind 0) (used_part ws b from)
        → record { from = from; to = from + k } ≡ expiration_of c m facts
    its_strikes k q =
        let to : from + k ≡ strikes_end c m facts =
        omega (arith, begin, q ∙ strikes_ended ws b c o m month stands from after) in
        λ i. record { from = begin i; to = to i }

    pub its_strike :
        (h k : ℕ) (standing : Bool) → h < 2 ^ kind_field.low
        → k ≡ first_at (is_up_to strike_kind h) (used_part ws b from)
        → standing ≡ (ltb (from + k) (used facts) && is_holding strike_kind h (get_or ws (from + k) 0))
        → record { at = from + k; expiration = true; standing = standing } ≡ strike_search_of c m h facts
    its_strike h k standing small q s =
        let at : from + k ≡ strike_place c m h facts =
        omega (arith, begin, q ∙ strike_sought ws b c o m month stands h small from after) in
        let is : standing ≡ is_standing (view_of c facts) m h =
        s ∙ strike_found ws b c o m month stands h small (from + k) at in
        λ i. record { at = at i; expiration = sym stands i; standing = is i }
