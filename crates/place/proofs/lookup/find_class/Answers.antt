-- `find_class` reads the figures where the class stands: a book has room for them, and they are those of its facts.
use Rattle.std.proofs.Common.{T, sym, ◌∙◌, arith}
use Rattle.logic.proofs.Tests.{true_T}
use Rattle.book.specs.Facts.{is_class_open}
use Rattle.book.specs.Layout.{facts_of}
use Rattle.place.proofs.Found.{class_room, figures_found}
use Rattle.place.proofs.Heads.{book_room}
use Rattle.place.proofs.lookup.find_class.Goals as goal
use Rattle.place.proofs.lookup.find_class.Goals.{Else-not-is_open_at}

open_class : (c : Else-not-is_open_at) → T (is_class_open c.args.c (facts_of c.args.run.now).classes)
open_class c = true_T _ (sym c.is_open_at.ensures ∙ c.if-not-is_open_at.false)

pub read-figures-requires : goal.read-figures-requires
read-figures-requires c =
    let w = c.args.run.now in
    let opened = open_class (goal.at.read-figures-requires c).Else-not-is_open_at in
    omega (arith, c.class_at-at.ensures, class_room w c.requires.0 c.args.c opened, book_room w c.requires.0)

pub returns : goal.returns
returns c =
    let opened = open_class (goal.at.returns c).Else-not-is_open_at in
    let found = figures_found c.args.run.now c.requires.0 c.args.c opened _ c.class_at-at.ensures in
    record { is_open = opened; place = c.class_at-at.ensures; figures = c.read-figures.ensures ∙ found }
