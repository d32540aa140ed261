-- `is_qualified` tells whether figures qualify: what is left is the last program, which asks nothing.
use Rattle.word.proofs.programs.Program.is_qualified.Goals as goal

pub returns-in-TwoFifty : goal.returns-in-TwoFifty
returns-in-TwoFifty c = rw c.in-TwoFifty.is
