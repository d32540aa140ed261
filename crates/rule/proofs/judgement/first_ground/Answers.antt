-- `first_ground` meets its contract: whether a row passes is told by its grid and range and by the standing words
-- (`row_at`). Assumes nothing.
use Rattle.std.proofs.Common.{◌≡◌, ℕ, ◌<◌, Bool, true, false, ◌&&◌, List, [], map, length, get_or, sym, ap, ap₂, ◌∙◌}
use Rattle.std.proofs.Common.{arith, rules}
use Rattle.logic.specs.Lists.{every}
use Rattle.logic.proofs.Lists.{every_mapped}
use Rattle.logic.proofs.Walks.{passed_here, passed_next, passed_all, cleared_not, cleared_all}
use Rattle.rule.specs.declared.terms.Setting.{Setting}
use Rattle.rule.specs.Grids.{grounds}
use Rattle.rule.specs.Spacing.{clears, standing_of}
use Rattle.rule.specs.Judgement.{passes, passes_range, row_of, found_rows}
use Rattle.rule.proofs.Rows.{found_range}
use Rattle.rule.proofs.judgement.first_ground.Goals as goal

-- whether the row of the ground passes, from its grid and range and the standing words
row_at : (s : Setting) (h g : ℕ) (rows : List (List Bool)) (words : List ℕ) (t : Bool)
    → rows ≡ found_rows s h (length grounds) → g < length grounds → passes_range (get_or rows g []) ≡ t
    → passes (row_of s (map standing_of words) h g) ≡ (t && every (λ w. clears s g h (standing_of w)) words)
row_at s h g rows words t all l e =
    let both = ap (λ (rows : List (List Bool)). passes_range (get_or rows g [])) all ∙ found_range s h g l in
    ap₂ ◌&&◌ (sym both ∙ e) (every_mapped (clears s g h) standing_of words)

pub grounds-preserved-then-not-is_clear : goal.grounds-preserved-then-not-is_clear
grounds-preserved-then-not-is_clear c =
    passed_next c.grounds.invariant (omega arith)
    (row_at c.args.s c.args.strike.0 c.grounds.g c.args.rows c.args.standing.now true c.requires.1 (omega arith)
    c.if-grid-range.true
    ∙ cleared_not 0 c.loop-w.invariant (omega arith) (search rules))

pub grounds-preserved : goal.grounds-preserved
grounds-preserved c =
    passed_next c.grounds.invariant (omega arith)
    (row_at c.args.s c.args.strike.0 c.grounds.g c.args.rows c.args.standing.now false c.requires.1 (omega arith)
    c.if-grid-range.false)

pub returns-after-loop-w : goal.returns-after-loop-w
returns-after-loop-w c = (
  omega arith,
  passed_here c.grounds.invariant (omega arith)
      (row_at c.args.s c.args.strike.0 c.grounds.g c.args.rows c.args.standing.now true c.requires.1 (omega arith)
      c.if-grid-range.true
      ∙ cleared_all 0 c.loop-w.invariant (omega arith)),
)

pub returns-after-grounds : goal.returns-after-grounds
returns-after-grounds c = sym (passed_all c.grounds.invariant (omega arith)) ∙ omega arith
