-- Inner: how far next strikes go, words each of which is a strike that may follow the word before it. Assumes nothing.
use Rattle.std.specs.Prelude.{ℕ, suc, cond, List, [], ◌∷◌}
use Rattle.word.specs.Strikes.{is_next_strike}

-- how many words at the front are next strikes, each after the one before it
abbrev pub next_length : ℕ → List ℕ → ℕ
next_length before [] = 0
next_length before (w ∷ ws) = cond {A = ℕ} (is_next_strike before w) (suc (next_length w ws)) 0
