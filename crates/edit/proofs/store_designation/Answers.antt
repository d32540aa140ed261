-- `store_designation`: the words of the figures stand in their place, and the counter counts the class by its new
-- designation.
use Rattle.std.proofs.Common.{◌+◌, ◌^◌, ◌≡◌, ◌≤◌, ◌<◌, ap, ◌∙◌, arith}
use Rattle.word.specs.declared.counter.Counts.{Counts}
use Rattle.word.specs.Caps.{own}
use Rattle.word.specs.Counters.{own_set}
use Rattle.word.specs.Kinds.{counter_kind}
use Rattle.word.specs.Programs.{number_of}
use Rattle.word.proofs.Counts.{own_at_most_one}
use Rattle.book.specs.Facts.{owned}
use Rattle.book.specs.Layout.{facts_of}
use Rattle.place.proofs.Heads.{book_long}
use Rattle.edit.proofs.Edits.{figures_room, figures_written, own_room, designation_stored}
use Rattle.edit.proofs.store_designation.Goals as goal
use Rattle.edit.proofs.store_designation.Goals.{After-counts_of}

-- what the counter says, which counts the class as it was and has room for one more
reckoned :
    (c : After-counts_of)
    → let all = owned (number_of c.args.program) (facts_of c.args.run.now).classes in
    (c.counts_of.result.own ≡ all) × ((own c.args.was ≤ all) × (all + 1 < 2 ^ counter_kind.width))
reckoned c = (ap (λ (r : Counts). r.own) c.counts_of.ensures, own_room _ _ _ _ _ c.requires)

pub overflow_sub-others : goal.overflow_sub-others
overflow_sub-others c = omega (arith, reckoned (goal.at.overflow_sub-others c).After-counts_of)

pub write-requires : goal.write-requires
write-requires c = let asked = c.requires.storable in (figures_room _ _ _ asked, asked.limits)

pub overflow_add-others : goal.overflow_add-others
overflow_add-others c =
    omega (
      arith,
      reckoned (goal.at.overflow_add-others c).After-counts_of,
      own_at_most_one c.designation.result,
      c.own_class-2.ensures,
    )

pub set_own-requires : goal.set_own-requires
set_own-requires c = record {
  room = omega (arith, c.write.auto.run, book_long _ c.requires.storable.book);
  small =
      omega (
        arith,
        reckoned (goal.at.set_own-requires c).After-counts_of,
        own_at_most_one c.designation.result,
        c.own_class-2.ensures,
      );
}

pub returns : goal.returns
returns c =
    let a = c.args in
    c.set_own.ensures
    ∙ ap (own_set (number_of a.program) _) (c.write.ensures ∙ figures_written _ _ a.figures c.requires.storable)
    ∙ designation_stored _ _ a.figures (number_of a.program) a.was c.requires _
    (omega (
      arith,
      reckoned (goal.at.returns c).After-counts_of,
      c.own_class-2.ensures,
      ap own c.designation.ensures,
    ))
