-- `strikes_from` finds where strikes begin: its search stops where the expiration's word stands or would stand, and the
-- word there is that word exactly where the expiration has strikes. Assumes nothing.
use Rattle.std.proofs.Common.{◌≡◌, ℕ, ◌+◌, ◌≤◌, Bool, false, cond, eqb, List, length, Option, Some, None, MatchOption, ap, sym, leb→le, arith}
use Rattle.std.specs.Option.{option_eq}
use Rattle.word.specs.Kinds.{expiration_kind}
use Rattle.word.specs.Limits.{last_month}
use Rattle.word.specs.Figures.{figures_length}
use Rattle.book.specs.Layout.{used, facts_of}
use Rattle.book.specs.Places.{ClassBegins, has_expiration, strikes_place}
use Rattle.logic.specs.Lists.{first_at}
use Rattle.place.specs.Search.{is_up_to}
use Rattle.place.specs.Lookups.{Searchable}
use Rattle.place.proofs.Heads.{book_room}
use Rattle.place.proofs.Found.{used_part, begins_room}
use Rattle.place.proofs.LookedUp.{used_test, strikes_begun}
use Rattle.place.proofs.lookup.strikes_from.Goals as goal
use Rattle.place.proofs.lookup.strikes_from.Goals.{After-eq}

-- the class's words are among those used, which are words of the run
within :
    {ws : List ℕ} {class m : ℕ} → Searchable ws class m
    → (class + figures_length ≤ used (facts_of ws)) × (used (facts_of ws) ≤ length ws)
within s = (begins_room _ s.book _ s.begins, book_room _ s.book)

pub overflow_add-begin : goal.overflow_add-begin
overflow_add-begin c = omega (arith, within c.requires)

pub used_from-requires : goal.used_from-requires
used_from-requires c = (c.requires.book, omega (arith, within c.requires))

pub overflow_add-at : goal.overflow_add-at
overflow_add-at c = omega (arith, within c.requires)

-- an equal `Option` holds an equal word
equal : (o : Option ℕ) (w : ℕ) (b : Bool) → b ≡ option_eq eqb o (Some w) → MatchOption o (b ≡ false) (λ v. b ≡ eqb v w)
equal None w b e = e
equal (Some v) w b e = e

begun :
    (c : After-eq) (x : ClassBegins (facts_of c.args.run.now) c.args.class)
    → let place = c.args.class + figures_length + c.first.result in
    (c.eq.result ≡ has_expiration x.number c.args.m (facts_of c.args.run.now))
    × (place + cond {A = ℕ} c.eq.result 1 0 ≡ strikes_place x.number c.args.m (facts_of c.args.run.now))
begun c x =
    let a = c.args in
    let r = c.requires in
    let from = a.class + figures_length in
    let place = from + c.first.result in
    let stop : place ≡ from + first_at (is_up_to expiration_kind a.m) (used_part a.run.now r.book from) =
    ap (λ (k : ℕ). from + k) (rw c.used_from.ensures.words at c.first.ensures.0) in
    let said =
    used_test a.run.now place _ _ _ (λ w. eqb w c.expiration_word.result) c.used_word.ensures
    (equal _ c.expiration_word.result _ c.eq.ensures) (λ w e. e) in
    strikes_begun _ r.book _ x.is_open a.m (leb→le a.m last_month r.month) from place _ _ (omega (arith, x.place)) stop
    c.expiration_word.ensures said

pub returns-then-eq-clause-place : goal.returns-then-eq-clause-place
returns-then-eq-clause-place c =
    λ x.
    let p = rw c.if-eq.true at (begun (goal.at.returns-then-eq-clause-place c).After-eq x) in
    (sym p.0, p.1)

pub returns-else-eq-clause-place : goal.returns-else-eq-clause-place
returns-else-eq-clause-place c =
    λ x.
    let p = rw c.if-eq.false at (begun (goal.at.returns-else-eq-clause-place c).After-eq x) in
    (sym p.0, omega (arith, p.1))
