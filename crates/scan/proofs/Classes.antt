-- What the loop over classes keeps, and a law for each way through it: by the words of figures at its place, the counts
-- and the end of the series. Assumes nothing.
use Prim.Native.Nat.{ℕ, ◌+◌, ◌-◌, ◌≤◌, ◌<◌}
use mathlib.Core.Path.{◌≡◌, sym, ap, ◌∙◌}
use mathlib.Core.Logic.Iff
use mathlib.Core.Logic.{◌↔◌}
use mathlib.Core.Bool.{Bool, true, false, not, ◌&&◌, ◌||◌}
use mathlib.Core.List.{List, [], ◌∷◌, map}
use native.Mathlib.Omega.{arith}
use lib.ListN.{length, drop, get_or, drop_of_length-le}
use lib.Dec.{T, eqb, ltb, eqb→eq}
use borrow.Author.Tests.{le-ltb, ltb-false}
use Rattle.word.specs.Kinds.{key_of, class_kind}
use Rattle.word.specs.Head.{first_place, own_in}
use Rattle.word.specs.Limits.{longest_run}
use Rattle.word.specs.Figures.{figures_length, are_figures_at}
use Rattle.word.specs.Caps.{own}
use Rattle.word.specs.Codec.{packed}
use Rattle.word.specs.Programs.{program, is_program, designation_in, dollar_program, half_program, two_fifty_program}
use Rattle.logic.specs.Lists.{every}
use Rattle.book.specs.Facts.{OpenClass, owned}
use Rattle.book.specs.Layout.{classes_words}
use Rattle.book.specs.Books.{is_class}
use Rattle.logic.proofs.Tests.{and_intro, ands, nors, true_T, equal_test}
use Rattle.word.proofs.EachProgram.{each_program}
use Rattle.word.proofs.Counts.{own_at_most_one}
use Rattle.scan.specs.Stretches.{may_follow, SeriesThen, ClassesWhere, Classes, AllClasses, SeriesEnd}
use Rattle.scan.proofs.FiguresFirst.{FiguresThen, figures}

-- the counts of own classes, by program number
abbrev pub count_of : ℕ → ℕ → ℕ → ℕ → ℕ
count_of dollars halves two_fifties p = get_or (dollars ∷ halves ∷ two_fifties ∷ []) (p - 1) 0

-- as many own classes of every program as the counters of ws say, within the caps
abbrev pub Agree : (ℕ → ℕ) → List ℕ → Type 0
Agree counts ws = (p : ℕ) → T (is_program p) → (counts p ≡ own_in p ws) × (own_in p ws ≤ (program p).cap)

-- of one program, by what its counter says and whether the count is over its cap
agree_one :
    {said cap count : ℕ} {over : Bool} → over ≡ ltb cap count → T (eqb count said) → over ≡ false
    → (count ≡ said) × (said ≤ cap)
agree_one {said} {cap} {count} o same kept =
    let e = eqb→eq count said same in
    (e, omega (arith, ltb-false cap count (sym o ∙ kept)))

-- a count that agrees is not over its cap
kept_one : {said cap count : ℕ} {over : Bool} → over ≡ ltb cap count → (count ≡ said) × (said ≤ cap) → over ≡ false
kept_one {said} {cap} {count} o agree = o ∙ le-ltb cap count (omega arith)

-- what the code tests where no class is left: each count against what its counter says, and against its cap
module _
    (dollars halves two_fifties : ℕ) (ws : List ℕ) {one two three : ℕ} {over₁ over₂ over₃ : Bool}
    (said₁ : one ≡ own_in 1 ws) (said₂ : two ≡ own_in 2 ws) (said₃ : three ≡ own_in 3 ws)
    (above₁ : over₁ ≡ ltb dollar_program.cap dollars) (above₂ : over₂ ≡ ltb half_program.cap halves)
    (above₃ : over₃ ≡ ltb two_fifty_program.cap two_fifties) where
  pub counts_tested :
      T (eqb dollars one && (eqb halves two && (eqb two_fifties three && not (over₁ || over₂ || over₃))))
      ↔ Agree (count_of dollars halves two_fifties) ws
  counts_tested =
      rw (said₁, said₂, said₃) (
        λ t.
            let kept : T (not (over₁ || over₂ || over₃)) = search ands in
            each_program _ (
              agree_one above₁ (search ands) (search nors),
              (
                agree_one above₂ (search ands) (search nors),
                (agree_one above₃ (search ands) (search nors), tt),
              ),
            ),
        λ agree.
            let first = equal_test dollars (own_in 1 ws) (agree 1 tt).0 in
            let second = equal_test halves (own_in 2 ws) (agree 2 tt).0 in
            let third = equal_test two_fifties (own_in 3 ws) (agree 3 tt).0 in
            let kept : T (not (over₁ || over₂ || over₃)) =
            rw (
              kept_one above₁ (agree 1 tt),
              kept_one above₂ (agree 2 tt),
              kept_one above₃ (agree 3 tt),
            )
            tt in
            search and_intro,
      )

-- the classes after the head are what they are after those before i, of which `last` is the last number
pub record Walked (now : ℕ) (ws : List ℕ) (i last : ℕ) (counts : ℕ → ℕ) : Type 0 where
  pub within : i ≤ length ws
  pub few : (p : ℕ) → T (is_program p) → counts p < i
  pub same : AllClasses now ws ↔ Classes now last counts (λ p. own_in p ws) (drop i ws)

-- the same after the figures at i
pub record Counted (now : ℕ) (ws : List ℕ) (i last : ℕ) (counts : ℕ → ℕ) : Type 0 where
  pub few : (p : ℕ) → T (is_program p) → counts p ≤ i
  pub same :
      AllClasses now ws
      ↔ ClassesWhere now last counts (λ p. own_in p ws)
      (λ xs. SeriesThen now 0 (may_follow 0) xs (drop (i + figures_length) ws))

-- counts that are the same of every program serve alike
alike :
    {now last : ℕ} {counts counts' said : ℕ → ℕ} {Holds : List OpenClass → Type 0}
    → ((p : ℕ) → T (is_program p) → counts' p ≡ counts p) → ClassesWhere now last counts said Holds
    → ClassesWhere now last counts' said Holds
alike e c =
    record {
      classes = c.classes;
      holds = c.holds;
      legal = c.legal;
      rising = c.rising;
      leading = c.leading;
      counted = λ p k. rw (e p k) (c.counted p k);
      capped = c.capped;
    }

pub counted_same :
    {now : ℕ} {ws : List ℕ} {i last last' : ℕ} {counts counts' : ℕ → ℕ} → Counted now ws i last counts
    → last' ≡ last → ((p : ℕ) → T (is_program p) → counts' p ≡ counts p) → Counted now ws i last' counts'
counted_same v l e =
    rw l
    (record {
      few = λ p k. rw (e p k) (v.few p k);
      same = (λ r. alike e (v.same.0 r), λ r. v.same.1 (alike (λ p k. sym (e p k)) r));
    })

pub walked_start :
    (now : ℕ) (ws : List ℕ) {counts : ℕ → ℕ} → first_place ≤ length ws → ((p : ℕ) → T (is_program p) → counts p ≡ 0)
    → Walked now ws first_place 0 counts
walked_start now ws head none =
    record {
      within = head;
      few = λ p k. rw (none p k) (omega arith);
      same = (alike none, alike (λ p k. sym (none p k)));
    }

module _ {now : ℕ} {ws : List ℕ} {i last : ℕ} {counts : ℕ → ℕ} (v : Walked now ws i last counts) where
  -- so few are counted that one more can be
  pub walked_small : length ws ≤ longest_run → (p : ℕ) → T (is_program p) → counts p < longest_run
  walked_small most p k = omega (arith, v.few p k, v.within)

  -- where no class is left, the counts decide
  pub walked_end : length ws ≤ i → Agree counts ws ↔ AllClasses now ws
  walked_end l = (
    λ agree.
        v.same.1
        (record {
          classes = [];
          holds = sym (drop_of_length-le ws l);
          legal = tt;
          rising = tt;
          leading = tt;
          counted = λ p k. omega (arith, agree p k);
          capped = λ p k. (agree p k).1;
        }),
    λ r.
        let c = v.same.0 r in
        none_left c.classes (c.holds ∙ drop_of_length-le ws l) c.counted c.capped,
  )
    where
      none_left :
          (xs : List OpenClass) → map packed (classes_words xs []) ≡ []
          → ((p : ℕ) → T (is_program p) → counts p + owned p xs ≡ own_in p ws)
          → ((p : ℕ) → T (is_program p) → own_in p ws ≤ (program p).cap) → Agree counts ws
      none_left [] e counted capped = λ p k. (omega (arith, counted p k), capped p k)
      none_left (x ∷ xs) e counted capped = absurd (omega (arith, ap length e))

  module _ (room : figures_length ≤ length ws - i) where
    step : AllClasses now ws ↔ FiguresThen now last counts (λ p. own_in p ws) i ws
    step = Iff.trans v.same (figures now last counts (λ p. own_in p ws) i ws (omega arith))

    pub walked_wrong : are_figures_at last i ws ≡ false → AllClasses now ws → ⊥
    walked_wrong t r = rw t at (step.0 r).figures

    pub walked_counted :
        are_figures_at last i ws ≡ true
        → let w = get_or ws i 0 in
        Counted now ws i (key_of class_kind w) (λ p. counts p + own (designation_in (program p) w))
    walked_counted t =
        record {
          few = λ p k. omega (arith, v.few p k, own_at_most_one (designation_in (program p) (get_or ws i 0)));
          same = (
            λ r. (step.0 r).rest,
            λ r. step.1 (record { figures = true_T (are_figures_at last i ws) t; rest = r }),
          );
        }

-- what holds of the classes gives way to what follows from it
replaced :
    {now last : ℕ} {counts said : ℕ → ℕ} {A B : List OpenClass → Type 0}
    → ((xs : List OpenClass) → T (every (is_class now) xs) → A xs → B xs)
    → ClassesWhere now last counts said A → ClassesWhere now last counts said B
replaced f c =
    record {
      classes = c.classes;
      holds = f c.classes c.legal c.holds;
      legal = c.legal;
      rising = c.rising;
      leading = c.leading;
      counted = c.counted;
      capped = c.capped;
    }

module _ {now : ℕ} {ws : List ℕ} {i last : ℕ} {counts : ℕ → ℕ} (v : Counted now ws i last counts) where
  pub counted_breaks :
      ((xs : List OpenClass) → T (every (is_class now) xs)
      → SeriesThen now 0 (may_follow 0) xs (drop (i + figures_length) ws) → ⊥)
      → AllClasses now ws → ⊥
  counted_breaks breaks r = let c = v.same.0 r in breaks c.classes c.legal c.holds

  pub counted_more :
      (j : ℕ) → SeriesEnd now ws (i + figures_length) j → Walked now ws j last counts
  counted_more j e =
      record {
        within = e.within;
        few = λ p k. omega (arith, v.few p k, e.onward);
        same = (
          λ r. replaced (λ xs legal. (e.rest xs legal).0) (v.same.0 r),
          λ r. v.same.1 (replaced (λ xs legal. (e.rest xs legal).1) r),
        );
      }
