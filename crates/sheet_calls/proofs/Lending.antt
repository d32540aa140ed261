-- What is lent on, and then lent on again, is lent on. Assumes nothing.
use mathlib.Core.Path.{◌∙◌}
use Rattle.sheet_calls.specs.declared.lent.Lent.{Lent}
use Rattle.sheet_calls.specs.Lending.{LentOn}

pub lent_again : {a b c : Lent} → LentOn a b → LentOn b c → LentOn a c
lent_again first then =
    record {
      run = then.run ∙ first.run;
      second = then.second ∙ first.second;
      places = then.places ∙ first.places;
      size = then.size ∙ first.size;
      room = then.room ∙ first.room;
    }
