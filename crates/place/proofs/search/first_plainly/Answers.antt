-- At the start of `first_plainly` no word before the index passes. Assumes nothing.
use Rattle.logic.proofs.Firsts.{seek_before}
use Rattle.place.proofs.search.first_plainly.Goals as goal

pub loop-i-init : goal.loop-i-init
loop-i-init c = seek_before _ _ _ c.requires.0
