-- Well-formed facts as a record of facts, numbers where sums are compared, the same for every program: by the parts of
-- the test. Assumes nothing.
use Prim.Native.Nat.{ℕ, ◌≤◌}
use mathlib.Core.Bool.{Bool, ◌&&◌}
use mathlib.Core.List.{List}
use lib.Dec.{T, leb→le, le→leb}
use Rattle.logic.specs.Lists.{rises, every}
use Rattle.word.specs.Limits.{is_length, is_month}
use Rattle.word.specs.Programs.{is_program, program}
use Rattle.book.specs.Facts.{Series, Facts, is_below, precedes, owned, words_taken}
use Rattle.book.specs.Books.{is_series, is_class, is_well_formed}
use Rattle.logic.proofs.Tests.{and_intro, ands}
use Rattle.book.proofs.ProgramTable.{caps_at, caps_kept}

-- the series of a class
abbrev pub are_series : ℕ → List Series → Bool
are_series now ss = every (is_series now) ss && rises precedes ss

pub record Well (n : ℕ) (f : Facts) : Type 0 where
  pub run : T (is_length n)
  pub room : words_taken f ≤ n
  pub month : T (is_month f.now)
  pub limits : T (every (is_class f.now) f.classes)
  pub order : T (rises is_below f.classes)
  pub caps : (p : ℕ) → T (is_program p) → owned p f.classes ≤ (program p).cap

pub well : (n : ℕ) (f : Facts) → T (is_well_formed n f) → Well n f
unfolding is_well_formed
well n f t =
    record {
      run = search ands;
      room = leb→le (words_taken f) n (search ands);
      month = search ands;
      limits = search ands;
      order = search ands;
      caps = caps_at (λ p. owned p f.classes) (search ands depth 12);
    }

pub well_formed : (n : ℕ) (f : Facts) → Well n f → T (is_well_formed n f)
unfolding is_well_formed
well_formed n f w =
    let run = w.run in
    let month = w.month in
    let limits = w.limits in
    let order = w.order in
    let room = le→leb (words_taken f) n w.room in
    let caps = caps_kept (λ p. owned p f.classes) w.caps in
    search and_intro depth 12
