-- Document 01, "It judges each call by what it then holds", "A repeat of the present d ..", "It removes each strike of
-- ground 1 or 3 ..": what a call sees of the plain book, the current month and the class that it names, and what it
-- asks of it. Assumes nothing.
use Rattle.std.specs.Prelude.{ℕ, Bool, not, ◌&&◌, ◌||◌, List, map, ltb, eqb}
use Rattle.word.specs.declared.class.ClassRecord.{ClassRecord}
use Rattle.word.specs.Class.{designation}
use Rattle.word.specs.Answers.{answer_value}
use Rattle.rule.specs.declared.terms.Setting.{Setting}
use Rattle.logic.specs.Lists.{every, some, only}
use Rattle.word.specs.Limits.{cents}
use Rattle.word.specs.Grounds.{dollar_ground, wing_ground}
use Rattle.rule.specs.Terms.{apart}
use Rattle.rule.specs.Spacing.{Standing}
use Rattle.rule.specs.Judgement.{rows_of, judgement}
use Rattle.word.specs.Programs.{program}
use Rattle.book.specs.Facts.{Series, OpenClass, Facts, is_class_open, class_of, is_at, stands, in_month, is_marked}

-- what a call sees
pub record View : Type 0 where
  -- the current month
  pub now : ℕ
  -- whether the class that it names is open, and what the book holds of it; where it is not open, a class as `O` would
  -- add it
  pub is_there : Bool
  pub class : OpenClass

abbrev pub class : Facts → ℕ → OpenClass
class f c = class_of c f.classes

-- what a call that names the class c sees
abbrev pub view_of : ℕ → Facts → View
view_of c f = record { now = f.now; is_there = is_class_open c f.classes; class = class f c }

-- ---- what the calls ask of it

module _ (v : View) where
  abbrev pub is_not_open : Bool
  is_not_open = not v.is_there

  abbrev pub is_standing : ℕ → ℕ → Bool
  is_standing m h = stands m h v.class.series

  abbrev pub has_open_interest : ℕ → ℕ → Bool
  has_open_interest m h = some (λ s. is_at m h s && is_marked s) v.class.series

  abbrev pub has_no_close : Bool
  has_no_close = eqb v.class.figures.close 0

  -- #103: "a low above the close or a high below it"
  abbrev pub is_close_outside : ℕ → ℕ → Bool
  is_close_outside low high = ltb v.class.figures.close low || ltb high v.class.figures.close

  abbrev pub setting : ℕ → Setting
  setting m = record { class = v.class.figures; current = v.now; month = m }

  -- the strikes that stand in the expiration
  abbrev pub standing_in : ℕ → List Standing
  standing_in m = map (λ s. record { strike = s.strike; on_ground = s.on_ground }) (in_month m v.class.series)

  abbrev pub rows : ℕ → ℕ → List (List Bool)
  rows m h = rows_of (setting m) (standing_in m) h

  -- the ground that the rules give, where they give one
  abbrev pub ground_of : ℕ → ℕ → ℕ
  ground_of m h = answer_value (judgement (setting m) (standing_in m) h)

-- ---- designations

-- "A new d of 1": "A repeat of the present d is accepted unchanged, untested."
abbrev pub is_new : ℕ → ℕ → ClassRecord → Bool
is_new p d r = eqb d 1 && not (eqb (designation p r) 1)

-- "8 no close yet (.. and `D` to a new 1)", where the program needs one
abbrev pub lacks_close : ℕ → ClassRecord → Bool
lacks_close p r = (program p).needs_close && eqb r.close 0

-- ---- the review

-- the marked strikes of the expiration of s
abbrev pub marked_with : Series → List Series → List Series
marked_with s ss = only (λ t. eqb t.month s.month && is_marked t) ss

-- "h above the highest or below the lowest marked strike of its expiration .. with none marked, every strike counts as
-- outside"
abbrev pub is_beyond_marked : Series → List Series → Bool
is_beyond_marked s ss =
    every (λ t. ltb t.strike s.strike) (marked_with s ss)
    || every (λ t. ltb s.strike t.strike) (marked_with s ss)

-- ".. with |K − P| above 500", in cents
abbrev pub review_distance : ℕ
review_distance = 500

-- "It removes each strike of ground 1 or 3 with |K − P| above 500, both marks 0, and h above .. or below .."
abbrev pub is_reviewed : OpenClass → Series → Bool
is_reviewed x s =
    (eqb s.on_ground dollar_ground || eqb s.on_ground wing_ground)
    && (ltb review_distance (apart (cents s.strike) x.figures.close)
    && (not (is_marked s) && is_beyond_marked s x.series))
