-- `store_figures`: the words written are those of the figures, and stand in their place.
use Rattle.std.proofs.Common.{◌∙◌}
use Rattle.edit.proofs.Edits.{figures_room, figures_stored}
use Rattle.edit.proofs.store_figures.Goals as goal

pub write-requires : goal.write-requires
write-requires c = let asked = c.requires.0 in (figures_room _ _ _ asked, asked.limits)

pub returns : goal.returns
returns c = c.write.ensures ∙ figures_stored _ _ _ c.requires.0 c.requires.1
