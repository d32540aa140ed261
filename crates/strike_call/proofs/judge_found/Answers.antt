-- `judge_found` meets its contract: each test is the condition of the facts in its turn, and the rules judge beside the
-- words next to the strike's place that are strikes.
use Rattle.std.proofs.Common.{◌≡◌, ℕ, ◌+◌, ◌-◌, ◌≤◌, ◌&&◌, cond, length, sym, ◌∙◌, arith}
use Rattle.place.proofs.Heads.{book_month, book_room, book_long}
use Rattle.strike_call.proofs.Beside.{is_strike_at, beside_within}
use Rattle.strike_call.proofs.Judgements.{class_prices, place_among, strike_most, found_no_close, found_judged}
use Rattle.strike_call.proofs.judge_found.Goals as goal
use Rattle.strike_call.proofs.judge_found.Goals.{Joined-is_strike_at-2, then-found-2+then-is_strike_at, else-found-2, else-found-2-via-then-found-2+else-is_strike_at, else-found-2-via-else-found-2, then-is_strike_at-2, else-is_strike_at-2}

-- the part that is lent begins with the word before the place, where that is a strike of the expiration
begins :
    (c : Joined-is_strike_at-2)
    → let r = c.args.found in
    c.if-found-2.from
    ≡ cond {A = ℕ} (r.expiration && is_strike_at c.args.run.now (r.at - 1)) (r.at - 1) r.at
begins c =
    elim c.if-found-2.branch [
      | then-found-2+then-is_strike_at x ↦
          rw (x.if-found-2.true, sym x.is_strike_at.ensures ∙ x.if-is_strike_at.true) x.from-is
      | else-found-2 x ↦
          elim x.else-found-2.branch [
            | else-found-2-via-then-found-2+else-is_strike_at y ↦
                rw (y.if-found-2.true, sym y.is_strike_at.ensures ∙ y.if-is_strike_at.false) x.from-is
            | else-found-2-via-else-found-2 y ↦ rw y.if-found-2.false x.from-is
          ]
    ]

-- .. and ends with the word there, where that is a strike
ends :
    (c : Joined-is_strike_at-2)
    → let at = c.args.found.at in
    c.if-is_strike_at-2.to ≡ cond {A = ℕ} (is_strike_at c.args.run.now at) (at + 1) at
ends c =
    elim c.if-is_strike_at-2.branch [
      | then-is_strike_at-2 x ↦ rw (sym c.is_strike_at-2.ensures ∙ x.if-is_strike_at-2.true) x.to-is
      | else-is_strike_at-2 x ↦ rw (sym c.is_strike_at-2.ensures ∙ x.if-is_strike_at-2.false) x.to-is
    ]

-- .. so that it is a part of the run
within :
    (c : Joined-is_strike_at-2)
    → (c.if-found-2.from ≤ c.if-is_strike_at-2.to) × (c.if-is_strike_at-2.to ≤ length c.args.run.now)
within c =
    let w = c.args.run.now in
    let r = c.args.found in
    let p =
    beside_within w r.at _ _ (r.expiration && is_strike_at w (r.at - 1)) (begins c) (ends c)
    (place_among c.requires).1 in
    (p.0, omega (arith, p.1, book_room w c.requires.book))

pub returns-then-figures-eq0 : goal.returns-then-figures-eq0
returns-then-figures-eq0 c =
    λ x.
    found_no_close x _ c.current.ensures (sym c.if-is_outside.ensures) c.if-found.false
    c.if-figures-eq0.true

pub offset_bounds-words-from : goal.offset_bounds-words-from
offset_bounds-words-from c =
    let p = within (goal.at.offset_bounds-words-from c).Joined-is_strike_at-2 in
    omega (arith, p, book_long c.args.run.now c.requires.book)

pub slice_bounds-judge-end : goal.slice_bounds-judge-end
slice_bounds-judge-end c = (within (goal.at.slice_bounds-judge-end c).Joined-is_strike_at-2).1

pub judge-requires : goal.judge-requires
judge-requires c =
    let prices = class_prices c.requires in
    record {
      low = omega (arith, prices.below, prices.above, prices.most);
      high = prices.most;
      current = omega (arith, book_month c.args.run.now c.requires.book, c.current.ensures);
      strike = strike_most c.requires;
    }

pub returns : goal.returns
returns c =
    let j = (goal.at.returns c).Joined-is_strike_at-2 in
    λ x.
    found_judged x _ c.current.ensures (sym c.if-is_outside.ensures) c.if-found.false
    c.if-figures-eq0.false _ _ (begins j) (ends j) _ c.judge.ensures
