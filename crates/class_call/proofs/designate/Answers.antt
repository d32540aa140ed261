-- `designate` keeps the contract of `D`: each way out by its law, over the number of the program. Assumes nothing.
use Rattle.std.proofs.Common.{◌≡◌, ◌&&◌, false, not, refl, rules}
use Rattle.logic.proofs.Results.{passed_on}
use Rattle.word.specs.Limits.{is_class_number, is_designation}
use Rattle.word.specs.Programs.{is_program, number_of}
use Rattle.word.proofs.EachProgram.{named}
use Rattle.book.specs.Calls.{on, call_d, effect_on}
use Rattle.book.proofs.Answered.{made_beyond}
use Rattle.place.proofs.OpenClasses.{made_absent}
use Rattle.class_call.proofs.DesignationWays.{designation_refused, designation_storable, designation_set}
use Rattle.class_call.proofs.designate.Goals as goal
use Rattle.class_call.proofs.designate.Goals.{Else-not-is_class_number-is_designation}

within :
    (c : Else-not-is_class_number-is_designation)
    → let p = number_of c.in_ok-program.program in
    not (is_class_number c.args.c && (is_program p && is_designation c.args.d)) ≡ false
within c = let known = named c.in_ok-program.program in search rules

pub returns-in_err-program : goal.returns-in_err-program
unfolding effect_on
returns-in_err-program c =
    let none = c.in_err-program.ensures in
    rw (passed_on _ c.from_residual.ensures.1, none.0)
    (made_beyond (on _ (call_d _ _)) _ _ c.requires (search rules))

pub returns-then-not-is_class_number-is_designation : goal.returns-then-not-is_class_number-is_designation
unfolding effect_on
returns-then-not-is_class_number-is_designation c =
    let known = named c.in_ok-program.program in
    rw (← c.in_ok-program.ensures) (made_beyond (on _ (call_d _ _)) _ _ c.requires (search rules))

pub returns-in_err-class : goal.returns-in_err-class
unfolding effect_on
returns-in_err-class c =
    let w = within (goal.at.returns-in_err-class c).Else-not-is_class_number-is_designation in
    rw (← c.in_ok-program.ensures, passed_on _ c.from_residual-in_err-class.ensures.1)
    (made_absent _ (call_d _ _) _ _ c.requires _ refl w _ c.in_err-class.ensures)

pub returns-in_err-claim_of : goal.returns-in_err-claim_of
returns-in_err-claim_of c =
    let w = within (goal.at.returns-in_err-claim_of c).Else-not-is_class_number-is_designation in
    rw (← c.in_ok-program.ensures, passed_on _ c.from_residual-in_err-claim_of.ensures.1)
    (designation_refused _ _ _ _ c.requires w _ _ c.in_ok-class.ensures _ c.in_err-claim_of.ensures refl)

pub store_designation-requires : goal.store_designation-requires
store_designation-requires c =
    let w = within (goal.at.store_designation-requires c).Else-not-is_class_number-is_designation in
    designation_storable _ _ c.args.d _ c.requires w _ _ c.in_ok-class.ensures _ c.in_ok-claim_of.ensures _
    c.with_designation.ensures _ c.designation-was.ensures

pub returns : goal.returns
returns c =
    let w = within (goal.at.returns c).Else-not-is_class_number-is_designation in
    rw (← c.in_ok-program.ensures)
    (designation_set _ _ _ _ c.requires w _ _ c.in_ok-class.ensures _ c.in_ok-claim_of.ensures _
    c.with_designation.ensures _ refl c.store_designation.ensures)
