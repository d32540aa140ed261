-- The decision over the rows of the grounds is that of the place of the first row that passes. Of the spacing it needs
-- only which ground is the first that passes. Assumes nothing.
use mathlib.Core.Path.{◌≡◌, refl, sym, ap, ◌∙◌}
use mathlib.Core.Bool.{Bool, true, false, cond, not, ◌&&◌, ◌||◌, or_self, and-false}
use mathlib.Core.List.{List, [], ◌∷◌, map}
use Prim.Native.Nat.{ℕ, zero, suc, ◌+◌, ◌≤◌, ◌<◌}
use native.Mathlib.Numerals.{add-one, one-add}
use native.Mathlib.Omega.{arith}
use lib.ListN.{length, get_or, set}
use lib.Dec.{ltb, leb-suc-suc}
use borrow.Author.Tests.{eq-eqb, ne_eqb, lt-ltb}
use Rattle.std.specs.Prelude.{Option, Some, None, MatchOption, position, Ok, Err}
use Rattle.std.specs.List.{list_any, position_or_len}
use Rattle.word.specs.Limits.{highest_price}
use Rattle.word.specs.declared.answer.Refusal.TheVariants.{OffGrid, OutOfRange, TooClose}
use Rattle.word.specs.Answers.{Answer}
use Rattle.word.specs.declared.answer.Accepted.TheVariants.{Ground}
use Rattle.rule.specs.declared.terms.Setting.{Setting}
use Rattle.logic.specs.Lists.{some, up_from, first_from}
use Rattle.logic.proofs.Tests.{parts}
use Rattle.logic.proofs.Walks.{first_found}
use Rattle.rule.specs.Grids.{grounds}
use Rattle.rule.specs.Ranges.{on_grid, in_range}
use Rattle.word.specs.Answers.{is_accepted}
use Rattle.rule.specs.Spacing.{Standing}
use Rattle.rule.specs.Judgement.{row_of, rows_of, passes, passes_grid, passes_range, refusal_of, ground_from, decided}
use Rattle.rule.specs.Judgement.{found_row, found_rows, rows_at, none_passes, either_rows, first_ground, judgement, Judged}

-- the library's search of a list and ours
pub some_any : {A : Type 0} (test : A → Bool) (xs : List A) → some test xs ≡ list_any test xs
some_any test [] = refl
some_any test (x ∷ xs) = ap (λ (t : Bool). test x || t) (some_any test xs)

-- the first ground that passes, by the place of its row
ground_at : (v : Answer) (rows : List (List Bool)) (g k : ℕ) → k ≡ g + position_or_len passes rows →
    ground_from v g rows ≡ cond (ltb (position_or_len passes rows) (length rows)) (Ok (Ground k)) v
ground_at v [] g k e = refl
ground_at v (row ∷ rows) g k e = go (passes row) (ground_at v rows (g + 1) k) e
  where
    n : ℕ
    n = position_or_len passes rows

    go : (t : Bool) → (k ≡ g + 1 + n → ground_from v (g + 1) rows ≡ cond (ltb n (length rows)) (Ok (Ground k)) v) →
        k ≡ g + cond (not t) (1 + n) 0 →
        cond t (Ok (Ground g)) (ground_from v (g + 1) rows)
        ≡ cond (ltb (cond (not t) (1 + n) 0) (suc (length rows))) (Ok (Ground k)) v
    go true later e = rw (lt-ltb 0 (suc (length rows)) (omega arith)) (ap (λ (n : ℕ). Ok (Ground n)) (omega arith))
    go false later e = rw (one-add n, leb-suc-suc (suc n) (length rows)) (later (omega arith))

-- what the place of the first row that passes decides
pub place_decides : (rows : List (List Bool)) (r : Option ℕ) → r ≡ position passes rows →
    MatchOption r (Err (refusal_of rows) ≡ decided rows) (λ g. Ok (Ground g) ≡ decided rows)
place_decides rows r e =
    rw e
    (go (ltb (position_or_len passes rows) (length rows))
    (ground_at (Err (refusal_of rows)) rows 0 (position_or_len passes rows) (omega arith)))
  where
    go : (t : Bool) → decided rows ≡ cond t (Ok (Ground (position_or_len passes rows))) (Err (refusal_of rows)) →
        MatchOption (cond t (Some (position_or_len passes rows)) None) (Err (refusal_of rows) ≡ decided rows)
        (λ g. Ok (Ground g) ≡ decided rows)
    go true e = sym e
    go false e = sym e

-- the refusal, by what the library's search says of the rows
pub refusal_told : (rows : List (List Bool)) (in_range on_grid : Bool) → in_range ≡ list_any passes_range rows →
    on_grid ≡ list_any passes_grid rows → cond in_range TooClose (cond on_grid OutOfRange OffGrid) ≡ refusal_of rows
refusal_told rows in_range on_grid e f = rw (some_any passes_range rows, some_any passes_grid rows, e, f)

accepted_from : (v : Answer) → is_accepted v ≡ false → (g : ℕ) (rows : List (List Bool)) →
    is_accepted (ground_from v g rows) ≡ some passes rows
accepted_from v e g [] = e
accepted_from v e g (row ∷ rows) = go (passes row) (accepted_from v e (g + 1) rows)
  where
    go : (t : Bool) → is_accepted (ground_from v (g + 1) rows) ≡ some passes rows →
        is_accepted (cond t (Ok (Ground g)) (ground_from v (g + 1) rows)) ≡ (t || some passes rows)
    go true r = refl
    go false r = r

-- a strike is accepted exactly when some ground passes
pub accepted_passes : (rows : List (List Bool)) → is_accepted (decided rows) ≡ some passes rows
accepted_passes rows =
    accepted_from (Err (refusal_of rows)) (go (some passes_range rows) (some passes_grid rows)) 0 rows
  where
    go : (t u : Bool) → is_accepted (Err (cond t TooClose (cond u OutOfRange OffGrid))) ≡ false
    go true u = refl
    go false true = refl
    go false false = refl

-- ---- the rows as the search leaves them

module _ (s : Setting) (h : ℕ) where
  -- those of one price, where the low is the high, and those of two
  pub one_price : s.class.low ≡ s.class.high → rows_at s s.class.low h ≡ found_rows s h (length grounds)
  one_price e = rw (← e) (simp or_self)

  two_prices :
      either_rows (rows_at s s.class.low h) (rows_at s s.class.high h) ≡ found_rows s h (length grounds)
  two_prices = refl

  -- what is joined when the price p is to be read: nothing before the low, the rows at the low before the high
  pub data Joined : ℕ → List (List Bool) → Type 0 where
    none : Joined s.class.low none_passes
    low : Joined s.class.high (rows_at s s.class.low h)

  pub joined_price : {p : ℕ} {rows : List (List Bool)} → Joined p rows → Judged s h → p ≤ highest_price
  joined_price none j = j.low
  joined_price low j = j.high

  pub joined_next :
      {p : ℕ} {rows : List (List Bool)} → Joined p rows → (p ≡ s.class.high → ⊥)
      → Joined s.class.high (either_rows rows (rows_at s p h))
  joined_next none other = low
  joined_next low other = absurd (other refl)

  pub joined_all :
      {p : ℕ} {rows : List (List Bool)} → Joined p rows → p ≡ s.class.high
      → either_rows rows (rows_at s p h) ≡ found_rows s h (length grounds)
  joined_all none e = one_price e
  joined_all low e = two_prices

  pub found_range : (g : ℕ) → g < length grounds →
      passes_range (get_or (found_rows s h (length grounds)) g []) ≡ (on_grid s g h && in_range s g h)
  found_range zero l = refl
  found_range (suc zero) l = refl
  found_range (suc (suc zero)) l = refl
  found_range (suc (suc (suc zero))) l = refl
  found_range (suc (suc (suc (suc zero)))) l = refl
  found_range (suc (suc (suc (suc (suc g))))) l = absurd (omega arith)

  module _ (standing : List Standing) where
    abbrev passes_at : ℕ → Bool
    passes_at g = passes (row_of s standing h g)

    -- of the n grounds from g up the first that passes is the one that was found
    found_from : (v : Answer) (n g : ℕ) →
        ground_from v g (map (found_row s h (first_from passes_at n g)) (up_from n g))
        ≡ ground_from v g (map (row_of s standing h) (up_from n g))
    found_from v zero g = refl
    found_from v (suc n) g =
        go (passes_at g) refl
        (ap (λ (k : ℕ). ground_from v k (map (found_row s h (first_from passes_at n k)) (up_from n (suc g))))
        (add-one g)
        ∙ found_from v n (suc g)
        ∙ ap (λ (k : ℕ). ground_from v k (map (row_of s standing h) (up_from n (suc g)))) (sym (add-one g)))
      where
        go : (t : Bool) → passes_at g ≡ t →
            ground_from v (g + 1) (map (found_row s h (first_from passes_at n (g + 1))) (up_from n (suc g)))
            ≡ ground_from v (g + 1) (map (row_of s standing h) (up_from n (suc g))) →
            ground_from v g (map (found_row s h (cond t g (first_from passes_at n (g + 1)))) (up_from (suc n) g))
            ≡ cond t (Ok (Ground g)) (ground_from v (g + 1) (map (row_of s standing h) (up_from n (suc g))))
        go true e r =
            let both : (on_grid s g h && in_range s g h) ≡ true = search parts in
            rw (both, eq-eqb g g refl)
        go false e r =
            let later : g + 1 ≤ first_from passes_at n (g + 1) = (first_found passes_at n (g + 1)).least in
            rw (ne_eqb (first_from passes_at n (g + 1)) g (λ q. omega arith), and-false) r

    -- the rows in which that of the ground that was found passes
    pub found_noted :
        (g : ℕ) → g < length grounds → g ≡ first_ground s standing h →
        set (found_rows s h (length grounds)) g (true ∷ true ∷ true ∷ []) ≡ found_rows s h g
    found_noted g l e =
        let here : passes_at g ≡ true = rw e ((first_found passes_at (length grounds) 0).passes_here (omega arith)) in
        go g l (search parts) (search parts)
      where
        go : (g : ℕ) → g < length grounds → on_grid s g h ≡ true → in_range s g h ≡ true →
            set (found_rows s h (length grounds)) g (true ∷ true ∷ true ∷ []) ≡ found_rows s h g
        go zero l on within = rw (on, within)
        go (suc zero) l on within = rw (on, within)
        go (suc (suc zero)) l on within = rw (on, within)
        go (suc (suc (suc zero))) l on within = rw (on, within)
        go (suc (suc (suc (suc zero)))) l on within = rw (on, within)
        go (suc (suc (suc (suc (suc g))))) l on within = absurd (omega arith)

    -- the rows as the search leaves them decide the judgement
    pub found_judgement : decided (found_rows s h (first_ground s standing h)) ≡ judgement s standing h
    found_judgement = found_from (Err (refusal_of (rows_of s standing h))) (length grounds) 0
