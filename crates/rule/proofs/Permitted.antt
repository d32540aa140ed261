-- The list of permitted strikes rises and holds exactly the strikes that are permitted, by two laws on what passes a
-- test among the numbers from one on. Assumes nothing.
use mathlib.Core.Path.{◌≡◌, ap, ◌∙◌}
use mathlib.Core.Bool.{Bool, ◌&&◌}
use mathlib.Core.List.{List}
use Prim.Native.Nat.{ℕ}
use lib.Dec.{leb, eqb, leb-suc-suc}
use Rattle.logic.specs.Lists.{some, Rising}
use Rattle.logic.proofs.Numbers.{only_rises, only_exactly}
use Rattle.word.specs.Limits.{highest_strike, is_strike}
use Rattle.rule.specs.declared.terms.Setting.{Setting}
use Rattle.rule.specs.Spacing.{Standing}
use Rattle.rule.specs.Judgement.{is_permitted_beside, permitted}

pub permitted_rises : (s : Setting) (standing : List Standing) → Rising (permitted s standing)
unfolding permitted
permitted_rises s standing = only_rises (is_permitted_beside s standing) highest_strike 1

pub permitted_exactly : (s : Setting) (standing : List Standing) (h : ℕ) →
    some (eqb h) (permitted s standing) ≡ (is_strike h && is_permitted_beside s standing h)
unfolding permitted
permitted_exactly s standing h =
    only_exactly (is_permitted_beside s standing) highest_strike 1 h
    ∙ ap (λ (t : Bool). leb 1 h && t && is_permitted_beside s standing h) (leb-suc-suc h highest_strike)
