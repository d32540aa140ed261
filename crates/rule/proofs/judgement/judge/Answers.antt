-- `judge` meets its contract: the rows in which that of the ground found passes (`found_noted`) decide the judgement
-- (`found_judgement`). Assumes nothing.
use Rattle.std.proofs.Common.{◌≡◌, true, [], ◌∷◌, map, set, sym, ap, ◌∙◌}
use Rattle.rule.specs.Spacing.{standing_of}
use Rattle.rule.specs.Judgement.{decided, first_ground, found_rows}
use Rattle.rule.proofs.Rows.{found_judgement, found_noted}
use Rattle.rule.proofs.judgement.judge.Goals as goal
use Rattle.rule.proofs.judgement.judge.Goals.{in-Some, in_default}

pub returns : goal.returns
returns c =
    let s = c.args.s in
    let h = c.args.strike.0 in
    let standing = map standing_of c.args.standing.now in
    let all : c.match-first_ground.rows ≡ found_rows s h (first_ground s standing h) =
    elim c.match-first_ground.branch [
      | in-Some w ↦
          w.rows-is
          ∙ ap (λ rows. set rows w.in-Some.g (true ∷ true ∷ true ∷ [])) c.rows_of-rows.ensures
          ∙ found_noted s h standing w.in-Some.g w.in-Some.ensures.0 w.in-Some.ensures.1
          ∙ ap (found_rows s h) w.in-Some.ensures.1
      | in_default w ↦
          w.rows-is ∙ c.rows_of-rows.ensures ∙ ap (found_rows s h) (sym w.in_default.ensures)
    ] in
    c.decide.ensures ∙ ap decided all ∙ found_judgement s h standing
