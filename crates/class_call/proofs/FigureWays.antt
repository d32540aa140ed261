-- The ways out of `C`, `H` and `V`, over plain variables: by one law of calls that store the figures of an open class.
-- Assumes nothing.
use Prim.Native.Nat.{ℕ}
use mathlib.Core.Path.{◌≡◌, refl, sym, ap, ◌∙◌}
use mathlib.Core.Bool.{true, false, not, ◌&&◌, ◌||◌}
use mathlib.Core.List.{List, [], ◌∷◌}
use lib.ListN.{length}
use lib.Dec.{T, eqb, ltb}
use borrow.Author.Tests.{eq-eqb, ne_eqb}
use Rattle.std.specs.Prelude.{Ok, Err}
use Rattle.word.specs.declared.class.ClassRecord.{ClassRecord}
use Rattle.word.specs.declared.answer.Accepted.TheVariants.{Done}
use Rattle.word.specs.declared.answer.Refusal.TheVariants.{NoClose, CloseOutside}
use Rattle.word.specs.Limits.{is_class_number, is_price, is_volume}
use Rattle.word.specs.Class.{with_close, with_low_high, with_volume}
use Rattle.book.specs.Facts.{with_figures}
use Rattle.book.specs.Layout.{layout, facts_of}
use Rattle.word.specs.Figures.{are_figures}
use Rattle.book.specs.Books.{is_book}
use Rattle.book.specs.Views.{class}
use Rattle.book.specs.Changes.{update, list_of}
use Rattle.book.specs.Calls.{Call, on, call_c, call_h, call_v, draws, first_or, effect_on, effect, answer_to, accepted_facts}
use Rattle.book.specs.Places.{class_place}
use Rattle.book.specs.Made.{over, Made}
use Rattle.logic.proofs.Tests.{ands, and_intro, false_T, passed}
use Rattle.book.proofs.Keep.{close_between, close_alone}
use Rattle.book.proofs.Answered.{made_refused, made_accepted}
use Rattle.edit.specs.EditsAsked.{Storable, Refigured}
use Rattle.class_call.proofs.Ways.{found_seen, found_number, found_limits}
use Rattle.place.specs.Lookups.{ClassFound}

-- what `store_figures` leaves
abbrev pub Stored : List ℕ → ClassRecord → List ℕ → Type 0
Stored w new w' = w' ≡ layout (length w) (update (with_figures new (class (facts_of w) new.number)) (facts_of w))

-- the class c found, with a change of its figures
module _
    (w : List ℕ) (book : T (is_book w)) (c at : ℕ) (r : ClassRecord) (found : ClassFound w c at r)
    (change : ClassRecord → ClassRecord) (keeps : (change r).number ≡ r.number) (new : ClassRecord)
    (e : new ≡ change r) where
  pub number : new.number ≡ c
  number = ap (λ (y : ClassRecord). y.number) e ∙ keeps ∙ found_number w c at r found

  pub storable : T (are_figures (change r)) → Storable w at new
  storable limits =
      record {
        book = book;
        limits = rw e limits;
        is_open = rw number found.is_open;
        place = found.place ∙ ap (λ (k : ℕ). class_place k (facts_of w)) (sym number);
      }

  -- .. with the designations that the class has
  pub refigured : (change r).designations ≡ r.designations → Refigured w new
  refigured kept =
      ap (λ (y : ClassRecord). y.designations) e
      ∙ kept
      ∙ ap (λ (y : ClassRecord). y.designations) found.figures
      ∙ ap (λ (k : ℕ). (class (facts_of w) k).figures.designations) (sym number)

  -- a call that makes this change
  pub figures_set :
      (x : Call)
      → accepted_facts x (facts_of w)
      ≡ update (with_figures (change (class (facts_of w) c).figures) (class (facts_of w) c)) (facts_of w)
      → (w' : List ℕ) → answer_to (length w) 0 x (facts_of w) ≡ (Ok Done) → Stored w new w'
      → Made x w [] (Ok Done) w' (over (list_of (effect x (facts_of w)).does) [])
  figures_set x changes w' done stored =
      let figures : new ≡ change (class (facts_of w) c).figures = e ∙ ap change found.figures in
      made_accepted x w [] book (Ok Done) w' refl done
      (stored
      ∙ (λ i. layout (length w) (update (with_figures (figures i) (class (facts_of w) (number i))) (facts_of w)))
      ∙ ap (layout (length w)) (sym changes))

-- ---- `C`

module _
    (c p : ℕ) (w : List ℕ) (book : T (is_book w)) (within : not (is_class_number c && is_price p) ≡ false) (at : ℕ)
    (r : ClassRecord) (found : ClassFound w c at r) (new : ClassRecord) (e : new ≡ with_close p r) where
  pub close_storable : Storable w at new × Refigured w new
  close_storable =
      let old = found_limits w c at r found book in
      let given = passed (is_class_number c && is_price p) within in
      let prices = close_alone p (search ands) in (
        storable w book c at r found (with_close p) refl new e (search (ands, and_intro) depth 12),
        refigured w book c at r found (with_close p) refl new e refl,
      )

  pub close_set : (w' : List ℕ) → Stored w new w' → Made (on c (call_c p)) w [] (Ok Done) w' []
  unfolding answer_to effect_on
  close_set w' stored =
      figures_set w book c at r found (with_close p) refl new e (on c (call_c p)) refl w'
      (rw (within, found_seen w c at r found)) stored

-- ---- `H`

module _
    (c low high : ℕ) (w : List ℕ) (book : T (is_book w))
    (within : not (is_class_number c && (is_price low && is_price high)) ≡ false) (at : ℕ) (r : ClassRecord)
    (found : ClassFound w c at r) where
  -- the first of what it asks of an open class
  low_high_answer :
      answer_to (length w) 0 (on c (call_h low high)) (facts_of w)
      ≡ first_or (Ok Done)
      (draws NoClose (eqb r.close 0) ∷ draws CloseOutside (ltb r.close low || ltb high r.close) ∷ [])
  unfolding answer_to effect_on
  low_high_answer = rw (within, found_seen w c at r found, ← found.figures)

  pub low_high_no_close : r.close ≡ 0 → Made (on c (call_h low high)) w [] (Err NoClose) w []
  low_high_no_close none =
      made_refused (on c (call_h low high)) w [] book (Err NoClose) refl
      (low_high_answer ∙ rw (eq-eqb r.close 0 none))

  module _ (closed : r.close ≡ 0 → ⊥) where
    pub low_high_outside :
        (ltb r.close low || ltb high r.close) ≡ true
        → Made (on c (call_h low high)) w [] (Err CloseOutside) w []
    low_high_outside outside =
        made_refused (on c (call_h low high)) w [] book (Err CloseOutside) refl
        (low_high_answer ∙ rw (ne_eqb r.close 0 closed, outside))

    module _
        (inside : (ltb r.close low || ltb high r.close) ≡ false) (new : ClassRecord)
        (e : new ≡ with_low_high low high r) where
      pub low_high_storable : Storable w at new × Refigured w new
      low_high_storable =
          let old = found_limits w c at r found book in
          let given = passed (is_class_number c && (is_price low && is_price high)) within in
          let prices = close_between low r.close high (search ands) (search ands) (false_T _ inside) in (
            storable w book c at r found (with_low_high low high) refl new e (search (ands, and_intro) depth 12),
            refigured w book c at r found (with_low_high low high) refl new e refl,
          )

      pub low_high_set : (w' : List ℕ) → Stored w new w' → Made (on c (call_h low high)) w [] (Ok Done) w' []
      unfolding effect_on
      low_high_set w' stored =
          figures_set w book c at r found (with_low_high low high) refl new e (on c (call_h low high)) refl w'
          (low_high_answer ∙ rw (ne_eqb r.close 0 closed, inside)) stored

-- ---- `V`

module _
    (c n : ℕ) (w : List ℕ) (book : T (is_book w)) (within : not (is_class_number c && is_volume n) ≡ false) (at : ℕ)
    (r : ClassRecord) (found : ClassFound w c at r) (new : ClassRecord) (e : new ≡ with_volume n r) where
  pub volume_storable : Storable w at new × Refigured w new
  volume_storable =
      let old = found_limits w c at r found book in
      let given = passed (is_class_number c && is_volume n) within in (
        storable w book c at r found (with_volume n) refl new e (search (ands, and_intro) depth 12),
        refigured w book c at r found (with_volume n) refl new e refl,
      )

  pub volume_set : (w' : List ℕ) → Stored w new w' → Made (on c (call_v n)) w [] (Ok Done) w' []
  unfolding answer_to effect_on
  volume_set w' stored =
      figures_set w book c at r found (with_volume n) refl new e (on c (call_v n)) refl w'
      (rw (within, found_seen w c at r found)) stored
