-- Inner: what is lent to the calls of a sheet is lent on from line to line. Assumes nothing.
use Rattle.std.specs.Prelude.{◌≡◌, length}
use Rattle.sheet_calls.specs.declared.lent.Lent.{Lent}

-- the same words are lent, as many as before
pub record LentOn (before after : Lent) : Type 0 where
  pub run : after.run.ghost_name ≡ before.run.ghost_name
  pub second : after.second.ghost_name ≡ before.second.ghost_name
  pub places : after.places.ghost_name ≡ before.places.ghost_name
  pub size : length after.run.now ≡ length before.run.now
  pub room : length after.second.now ≡ length before.second.now
