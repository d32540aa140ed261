-- `next_held` finds the next word of the kind: where no word is of a lower kind, that is the first one that passes a
-- search for the kind with any key. Assumes nothing.
use Rattle.std.proofs.Common.{◌+◌, ◌-◌, length, ap, ◌∙◌, arith}
use Rattle.word.specs.Kinds.{key_of}
use Rattle.logic.proofs.Tests.{parts}
use Rattle.logic.proofs.Firsts.{part_passes}
use Rattle.place.specs.Search.{is_from}
use Rattle.place.proofs.KeyedWords.{part_from}
use Rattle.place.proofs.search.next_held.Goals as goal

pub returns : goal.returns
returns c =
    let a = c.args in
    let ws = a.words.now in
    let next = a.from + c.first.result in
    let there = c.in_ok-get.ensures.lookup.3 in
    let is_next =
    c.first.ensures.0 ∙ part_from a.kind 0 (omega arith) ws (length ws - a.from) a.from c.requires.2 in
    let passes = part_passes ws _ _ (omega arith) (is_from a.kind 0) 0 _ is_next there.0 in
    (omega arith, there.0, search parts, c.key_of-held.ensures ∙ ap (key_of a.kind) (there.1 0))
