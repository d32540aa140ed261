-- `class_sought` finds a class: the first class word from its number on stands where the class does or would. Assumes
-- nothing.
use Rattle.std.proofs.Common.{arith}
use Rattle.word.specs.Limits.{is_class_number}
use Rattle.word.proofs.RangeTests.{between_high}
use Rattle.logic.proofs.Tests.{T_true}
use Rattle.place.proofs.Found.{body_short, body_kinds, class_rises, class_sought}
use Rattle.place.proofs.lookup.class_sought.Goals as goal

pub first_rising-requires : goal.first_rising-requires
first_rising-requires c =
    let book = c.requires.0 in
    rw c.used_from.ensures.words
    record {
      is_kind = omega arith;
      narrow = omega arith;
      small = omega (arith, between_high 1 16383 c.args.c (T_true (is_class_number c.args.c) c.requires.1));
      no_lower = body_kinds _ book;
      few = body_short _ book;
      rises = class_rises _ book _;
    }

pub returns : goal.returns
returns c = class_sought _ c.requires.0 _ _ (rw c.used_from.ensures.words at c.first_rising.ensures.0)
