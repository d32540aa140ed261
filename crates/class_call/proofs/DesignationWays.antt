-- The ways out of `claim_of` and of `D`, over plain variables: what a claim draws is the first of what `D` asks of an
-- open class. Assumes nothing.
use Prim.Native.Nat.{ℕ, ◌-◌, ◌≤◌}
use mathlib.Core.Path.{◌≡◌, refl, sym, ap, ◌∙◌}
use mathlib.Core.Logic.{⊎_elim}
use mathlib.Core.Bool.{true, false, not, ◌&&◌}
use mathlib.Core.List.{List, [], ◌∷◌, ◌++◌}
use lib.ListN.{length}
use lib.Dec.{T, eqb, leb→le}
use borrow.Author.Tests.{not-true, not-false, eqb-false}
use Rattle.std.specs.Prelude.{Ok, Err}
use Rattle.word.specs.declared.class.ClassRecord.{ClassRecord}
use Rattle.word.specs.Answers.{Answer}
use Rattle.word.specs.declared.answer.Accepted.TheVariants.{Done}
use Rattle.word.specs.declared.answer.Refusal.TheVariants.{NoClose, NotQualified, CapReached}
use Rattle.word.specs.Limits.{is_class_number, is_designation}
use Rattle.word.specs.Programs.{programs, program_count, is_program, program, are_designations}
use Rattle.word.specs.Class.{designation, with_designation}
use Rattle.word.specs.Answers.{is_accepted}
use Rattle.book.specs.Facts.{Facts}
use Rattle.book.specs.Layout.{facts_of}
use Rattle.word.specs.Figures.{are_figures}
use Rattle.book.specs.Books.{is_book}
use Rattle.book.specs.Views.{class, is_new, lacks_close}
use Rattle.book.specs.Calls.{on, call_d, Condition, first_or, claiming, effect_on, is_cap_reached, capping, answer_to}
use Rattle.book.specs.Made.{Made}
use Rattle.logic.proofs.Tests.{ands, and_intro, passed}
use Rattle.book.proofs.ProgramTable.{designations_set}
use Rattle.book.proofs.Keep.{set_designation}
use Rattle.book.proofs.Order.{granted_answer}
use Rattle.book.proofs.Answered.{made_refused}
use Rattle.edit.specs.EditsAsked.{Redesignable}
use Rattle.class_call.proofs.Ways.{found_seen, found_limits}
use Rattle.place.specs.Lookups.{ClassFound}
use Rattle.class_call.proofs.FigureWays.{Stored, number, storable, figures_set}

-- ---- what a claim draws

-- what `D` asks of an open class with the figures r
abbrev claim_asks : ℕ → ℕ → ClassRecord → Facts → List Condition
claim_asks p d r f = claiming p d r ++ (capping p d r f ∷ [])

module _ (f : Facts) (r : ClassRecord) (p d : ℕ) where
  pub claim_untested : not (is_new p d r) ≡ true → (Ok Done) ≡ first_or (Ok Done) (claim_asks p d r f)
  claim_untested e = rw (not-true (is_new p d r) e)

  module _ (new : not (is_new p d r) ≡ false) where
    is_new_lem : is_new p d r ≡ true
    is_new_lem = not-false (is_new p d r) new

    pub claim_no_close : lacks_close p r ≡ true → Err NoClose ≡ first_or (Ok Done) (claim_asks p d r f)
    claim_no_close e = rw (is_new_lem, e)

    module _ (close : lacks_close p r ≡ false) where
      pub claim_not_qualified :
          not ((program p).qualifies r) ≡ true → Err NotQualified ≡ first_or (Ok Done) (claim_asks p d r f)
      claim_not_qualified e = rw (is_new_lem, close, e)

      module _ (qualified : not ((program p).qualifies r) ≡ false) where
        pub claim_capped : is_cap_reached p f ≡ true → Err CapReached ≡ first_or (Ok Done) (claim_asks p d r f)
        claim_capped e = rw (is_new_lem, close, qualified, e)

        pub claim_granted : is_cap_reached p f ≡ false → (Ok Done) ≡ first_or (Ok Done) (claim_asks p d r f)
        claim_granted e = rw (is_new_lem, close, qualified, e)

-- ---- the ways out of `D`

-- the figures with the designation d in the program p
in_limits :
    (p d : ℕ) (r : ClassRecord) → T (are_figures r) → T (is_designation d) → T (are_figures (with_designation p d r))
in_limits p d r old given =
    let each = designations_set programs r.designations (p - 1) d given (search ands) in
    search (ands, and_intro) depth 12

-- another program keeps its own
other :
    (p q d : ℕ) (r : ClassRecord) → T (is_program p) → T (is_program q) → T (are_designations programs r.designations)
    → eqb q p ≡ false → designation q (with_designation p d r) ≡ designation q r
other p q d r k j all apart =
    ⊎_elim (λ e. e) (λ e. absurd (eqb-false q p apart (sym e.1))) (set_designation p q d r k j all)

module _
    (c p d : ℕ) (w : List ℕ) (book : T (is_book w))
    (within : not (is_class_number c && (is_program p && is_designation d)) ≡ false) where
  pub designation_program : (1 ≤ p) × (p ≤ program_count)
  designation_program =
      let given = passed (is_class_number c && (is_program p && is_designation d)) within in
      (leb→le 1 p (search ands), leb→le p program_count (search ands))

  module _
      (at : ℕ) (r : ClassRecord) (found : ClassFound w c at r) (claim : Answer)
      (drawn : claim ≡ first_or (Ok Done) (claim_asks p d r (facts_of w))) where
    answer : answer_to (length w) 0 (on c (call_d p d)) (facts_of w) ≡ claim
    unfolding answer_to effect_on
    answer = rw (within, found_seen w c at r found, ← found.figures) (sym drawn)

    pub designation_refused : is_accepted claim ≡ false → Made (on c (call_d p d)) w [] claim w []
    designation_refused refused = made_refused (on c (call_d p d)) w [] book claim refused answer

    module _ (new : ClassRecord) (e : new ≡ with_designation p d r) where
      pub designation_storable : (was : ℕ) → was ≡ designation p r → Redesignable w at new p was
      designation_storable was told =
          let given = passed (is_class_number c && (is_program p && is_designation d)) within in
          let limits = found_limits w c at r found book in
          let of : (class (facts_of w) new.number).figures ≡ r =
          ap (λ (k : ℕ). (class (facts_of w) k).figures) (number w book c at r found (with_designation p d) refl new e)
          ∙ sym found.figures in
          record {
            storable =
                storable w book c at r found (with_designation p d) refl new e (in_limits p d r limits (search ands));
            numbered = search ands;
            before = told ∙ ap (designation p) (sym of);
            others = λ q k apart.
                ap (designation q) e
                ∙ other p q d r (search ands) k (search ands) apart
                ∙ ap (designation q) (sym of);
          }

      pub designation_set :
          (w' : List ℕ) → is_accepted claim ≡ true → Stored w new w' → Made (on c (call_d p d)) w [] (Ok Done) w' []
      unfolding effect_on
      designation_set w' granted stored =
          figures_set w book c at r found (with_designation p d) refl new e (on c (call_d p d)) refl w'
          (answer
          ∙ drawn
          ∙ granted_answer (Ok Done) (claim_asks p d r (facts_of w)) (sym (ap is_accepted drawn) ∙ granted))
          stored
