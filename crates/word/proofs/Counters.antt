-- What counters hold is small enough for their bits; and strikes counted word by word: a word more adds its own, and
-- the counts and what the words from the index on add are together those of all words. Assumes nothing.
use Rattle.std.proofs.Common.{◌≡◌, ℕ, ◌+◌, ◌-◌, ◌^◌, ◌<◌, ◌≤◌, Bool, true, false, cond, ◌&&◌, ◌||◌, T, eqb, leb, List, [], ◌∷◌, length, get_or, take, drop, sym, refl, ap, ◌∙◌, add-one, arith, le→leb, drop_of_length-le, drop-cons, eq-eqb, ne_eqb, eqb-true}
use borrow.Author.Tests.{eqb-false}
use Rattle.logic.specs.Lists.{sum}
use Rattle.logic.proofs.Tests.{choose, and_intro}
use Rattle.logic.proofs.Lists.{sum_append, sum_few}
use Rattle.std.proofs.Math.Seq.{take-suc}
use Rattle.word.specs.Kinds.{kind_of, is_of_kind, strike_kind, ground_field, counter_kind, strikes_field}
use Rattle.word.specs.Field.{field}
use Rattle.word.specs.Limits.{longest_run}
use Rattle.word.specs.Programs.{program, program_count, is_program, IsProgram, is_of}
use Rattle.word.specs.Grounds.{dollar_ground, half_ground, wing_ground, two_fifty_ground}
use Rattle.word.specs.Counters.{by_program, strikes_for, AreFew, ground_key, key_on, is_key_of, one_of, strike_of, strikes_among, strike_among, together, strikes_said, without}
use Rattle.word.specs.Head.{own_in, strikes_in}
use Rattle.word.proofs.Fields.{field_less}
use Rattle.word.proofs.EachProgram.{each_program}

-- of so many of each program, those of one
pub by_program_lem : (count : ℕ → ℕ) (p : ℕ) → T (is_program p) → strikes_for (by_program count) p ≡ count p
by_program_lem count = each_program _ (refl, (refl, (refl, tt)))

-- what a counter holds
pub own_small : (p : ℕ) (ws : List ℕ) → own_in p ws < 2 ^ counter_kind.width
own_small p ws =
    field_less (get_or ws p 0) (record { low = 0; width = counter_kind.width }) counter_kind.width (omega arith)

pub strikes_small : (p : ℕ) (ws : List ℕ) → strikes_in p ws < 2 ^ strikes_field.width
strikes_small p ws = field_less (get_or ws p 0) strikes_field strikes_field.width (omega arith)

pub one_at_most : (on_ground p : ℕ) → one_of on_ground p ≤ 1
one_at_most on_ground p = choose (λ n. n ≤ 1) (is_of on_ground (program p)) 1 0 (λ e. omega arith) (λ e. omega arith)

pub strike_at_most : (p w : ℕ) → strike_of p w ≤ 1
strike_at_most p w =
    let one = one_of (field w ground_field) p in
    choose (λ n. n ≤ 1) (is_of_kind strike_kind w) one 0 (λ e. one_at_most (field w ground_field) p) (λ e. omega arith)

-- what counters say, one strike, and what is left of what they say
pub said_few : (ws : List ℕ) → AreFew (strikes_said ws)
said_few ws p k = omega (arith, by_program_lem (λ q. strikes_in q ws) p k, strikes_small p ws)

pub one_few : (w : ℕ) → AreFew (strike_among w)
one_few w p k = omega (arith, by_program_lem (λ q. strike_of q w) p k, strike_at_most p w)

pub left_few : (ws some : List ℕ) → AreFew (without (strikes_said ws) some)
left_few ws some p k =
    omega (arith, by_program_lem (λ q. strikes_for (strikes_said ws) q - strikes_for some q) p k, said_few ws p k)

pub among_few : (ws strikes : List ℕ) → strikes ≡ strikes_among ws → length ws ≤ longest_run → AreFew strikes
among_few ws strikes e l p k =
    omega (
      arith,
      ap (λ (s : List ℕ). strikes_for s p) e ∙ by_program_lem (λ q. sum (strike_of q) ws) p k,
      sum_few (strike_of p) (strike_at_most p) ws,
    )

-- kind and ground compared as one number
key_same :
    (w on_ground : ℕ) → on_ground < 2 ^ ground_field.width
    → eqb (ground_key w) (key_on on_ground) ≡ (is_of_kind strike_kind w && eqb (field w ground_field) on_ground)
key_same w on_ground l =
    go (is_of_kind strike_kind w) refl (eqb (field w ground_field) on_ground) refl
    (field_less w ground_field ground_field.width (omega arith))
  where
    go :
        (a : Bool) → is_of_kind strike_kind w ≡ a → (b : Bool) → eqb (field w ground_field) on_ground ≡ b
        → field w ground_field < 2 ^ ground_field.width
        → eqb (ground_key w) (key_on on_ground) ≡ (a && b)
    go true d true e r =
        eq-eqb (ground_key w) (key_on on_ground)
        (omega (arith, eqb-true (kind_of w) strike_kind.number d, eqb-true (field w ground_field) on_ground e))
    go true d false e r =
        ne_eqb (ground_key w) (key_on on_ground)
        (λ q. omega (arith, eqb-true (kind_of w) strike_kind.number d, eqb-false (field w ground_field) on_ground e, q))
    go false d b e r =
        ne_eqb (ground_key w) (key_on on_ground)
        (λ q. omega (arith, eqb-false (kind_of w) strike_kind.number d, q))

key_strike :
    (w p : ℕ) → T (is_program p)
    → is_key_of (ground_key w) (program p) ≡ (is_of_kind strike_kind w && is_of (field w ground_field) (program p))
key_strike w =
    each_program _ (
      rw (key_same w dollar_ground (omega arith), key_same w wing_ground (omega arith))
          (two (is_of_kind strike_kind w) (eqb (field w ground_field) dollar_ground)
          (eqb (field w ground_field) wing_ground)),
      (
        rw (key_same w half_ground (omega arith))
            (one (is_of_kind strike_kind w) (eqb (field w ground_field) half_ground)),
        (
          rw (key_same w two_fifty_ground (omega arith))
              (one (is_of_kind strike_kind w) (eqb (field w ground_field) two_fifty_ground)),
          tt,
        ),
      ),
    )
  where
    one : (a b : Bool) → (a && b || false) ≡ (a && (b || false))
    one true b = refl
    one false b = refl

    two : (a b c : Bool) → (a && b || (a && c || false)) ≡ (a && (b || (c || false)))
    two true b c = refl
    two false b c = refl

-- so that by this number a word tells what it adds
pub strike_keyed :
    (w p : ℕ) → IsProgram p → strike_of p w ≡ cond {A = ℕ} (is_key_of (ground_key w) (program p)) 1 0
strike_keyed w p k =
    let number : T (is_program p) =
    and_intro (leb 1 p) (leb p program_count) (le→leb 1 p k.0) (le→leb p program_count k.1) in
    both (is_of_kind strike_kind w) (is_of (field w ground_field) (program p))
    ∙ ap (λ (b : Bool). cond {A = ℕ} b 1 0) (sym (key_strike w p number))
  where
    both : (a b : Bool) → cond {A = ℕ} a (cond {A = ℕ} b 1 0) 0 ≡ cond {A = ℕ} (a && b) 1 0
    both true b = refl
    both false b = refl

-- the strikes among the words before an index, and that of the word there
pub among_next :
    (ws : List ℕ) (i : ℕ) → i < length ws
    → together (strikes_among (take i ws)) (strike_among (get_or ws i 0)) ≡ strikes_among (take (i + 1) ws)
among_next ws i l = rw (next 1, next 2, next 3)
  where
    next : (p : ℕ) → sum (strike_of p) (take (i + 1) ws) ≡ sum (strike_of p) (take i ws) + strike_of p (get_or ws i 0)
    next p =
        let last : sum (strike_of p) (get_or ws i 0 ∷ []) ≡ strike_of p (get_or ws i 0) = omega arith in
        ap (sum (strike_of p)) (ap (λ (n : ℕ). take n ws) (add-one i) ∙ take-suc ws i 0 l)
        ∙ (sum_append (strike_of p) (take i ws) (get_or ws i 0 ∷ []) ∙ ap (λ (n : ℕ). sum (strike_of p) (take i ws) + n) last)

-- the count has come to the index i
pub record Counting (ws : List ℕ) (i : ℕ) (strikes : List ℕ) : Type 0 where
  pub within : i ≤ length ws
  pub few : (p : ℕ) → T (is_program p) → strikes_for strikes p ≤ i
  pub total : (p : ℕ) → T (is_program p) → strikes_for strikes p + sum (strike_of p) (drop i ws) ≡ sum (strike_of p) ws

pub count_start : (ws : List ℕ) → Counting ws 0 (0 ∷ 0 ∷ 0 ∷ [])
count_start ws = record {
  within = omega arith;
  few = each_program _ (omega arith, (omega arith, (omega arith, tt)));
  total = each_program _ (omega arith, (omega arith, (omega arith, tt)));
}

module _ {ws : List ℕ} {i : ℕ} {strikes : List ℕ} (c : Counting ws i strikes) where
  pub count_more :
      (more : List ℕ) → i < length ws
      → ((p : ℕ) → T (is_program p) → strikes_for more p ≡ strikes_for strikes p + strike_of p (get_or ws i 0))
      → Counting ws (i + 1) more
  count_more more l e = record {
    within = omega arith;
    few = λ p k. omega (arith, e p k, c.few p k, strike_at_most p (get_or ws i 0));
    total = λ p k. omega (arith, e p k, c.total p k, here p);
  }
    where
      here :
          (p : ℕ)
          → sum (strike_of p) (drop i ws) ≡ strike_of p (get_or ws i 0) + sum (strike_of p) (drop (i + 1) ws)
      here p =
          ap (sum (strike_of p)) (drop-cons ws i 0 l)
          ∙ ap (λ (n : ℕ). strike_of p (get_or ws i 0) + sum (strike_of p) (drop n ws)) (sym (add-one i))

  pub count_done : length ws ≤ i → (p : ℕ) → T (is_program p) → strikes_for strikes p ≡ sum (strike_of p) ws
  count_done l p k = omega (arith, c.total p k, ap (sum (strike_of p)) (drop_of_length-le ws l))
