-- Document 01, "Spacing", and request #101, "For spacing it counts as Standard.": how near a new strike may stand to
-- those of its expiration. Assumes nothing.
use Rattle.std.specs.Prelude.{ℕ, ◌%◌, Bool, not, ◌&&◌, ◌||◌, List, leb, eqb}
use Rattle.word.specs.Field.{field}
use Rattle.word.specs.Kinds.{key_of, strike_kind, ground_field}
use Rattle.rule.specs.declared.terms.Setting.{Setting}
use Rattle.logic.specs.Lists.{every}
use Rattle.word.specs.Limits.{half_dollar, cents}
use Rattle.rule.specs.Terms.{is_long, apart}
use Rattle.word.specs.Grounds.{standard_ground, dollar_ground, two_fifty_ground}
use Rattle.rule.specs.Grids.{one_dollar, two_fifty, five_dollars}

-- a strike that stands, in half dollars, and its ground
pub record Standing : Type 0 where
  pub strike : ℕ
  pub on_ground : ℕ

-- the strike of a strike word: "h in bits 0–14, ground in 15–17"
abbrev pub standing_of : ℕ → Standing
standing_of w = record { strike = key_of strike_kind w; on_ground = field w ground_field }

-- "a Dollar strike and a Standard strike at an odd multiple of $2.50 stay more than $0.50 from each other": here they
-- don't
abbrev pub crowds : ℕ → ℕ → Bool
crowds dollar standard =
    eqb (cents standard % five_dollars) two_fifty && leb (apart (cents dollar) (cents standard)) half_dollar

-- #101: "For spacing it counts as Standard."
abbrev pub counts_as_standard : ℕ → Bool
counts_as_standard g = eqb g standard_ground || eqb g two_fifty_ground

-- the new strike h on ground g may stand beside t: "whichever came first"; "In a long expiration a new strike stays
-- more than $1 from every standing one, on any ground."
abbrev pub clears : Setting → ℕ → ℕ → Standing → Bool
clears s g h t =
    not (eqb g dollar_ground && counts_as_standard t.on_ground && crowds h t.strike)
    && not (counts_as_standard g && eqb t.on_ground dollar_ground && crowds t.strike h)
    && not (is_long s && leb (apart (cents h) (cents t.strike)) one_dollar)

abbrev pub spacing_of : Setting → List Standing → ℕ → ℕ → Bool
spacing_of s standing g h = every (clears s g h) standing
