-- `move_to`: the words are copied within the run, or stand there already.
use Rattle.std.proofs.Common.{refl}
use Rattle.removal.proofs.MovedStretches.{moved_down_lem, moved_nowhere}
use Rattle.removal.proofs.expiry.move_to.Goals as goal
use Rattle.removal.proofs.expiry.move_to.Goals.{then-to-from, else-to-from}

pub returns : goal.returns
returns c =
    let asked = c.requires in (
      refl,
      elim c.if-to-from.branch [
        | then-to-from w ↦
            rw w.run-is
            (moved_down_lem _ _ _ _ asked.down asked.part asked.inside _ w.copy_within.ensures.after)
        | else-to-from w ↦ rw w.run-is (moved_nowhere _ _ _ _ asked.down asked.part w.if-to-from.false)
      ],
    )
