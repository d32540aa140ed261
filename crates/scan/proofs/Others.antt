-- What is told ahead of a word, and the search for the next other: each way through the methods is one law. Assumes
-- nothing.
use Prim.Native.Nat.{ℕ, suc, ◌+◌, ◌-◌, ◌*◌, ◌/◌, ◌%◌, ◌^◌, ◌<◌, ◌≤◌}
use mathlib.Core.Path.{◌≡◌, refl, sym, ◌∙◌}
use mathlib.Core.List.{List}
use native.Mathlib.Omega.{arith}
use native.Mathlib.Nat.{div-one, pow-succ', mul-zero, mul_comm, mul-div_right, mul_assoc, pos_of_ne-zero, eq_of_mul-eq-mul_left}
use lib.ListN.{length, drop, get_or, take}
use lib.Pow.{pow_pos, pow-add, shr-shr, shl_exact}
use lib.Bits.{bit_and, bit_or, or_add_and, and_mask}
use lib.Count.{count_trailing_zeros}
use Rattle.word.proofs.Digits.{trailing_lowest, and_lowest}
use Rattle.scan.specs.NextStrikes.{next_length}
use Rattle.scan.specs.Ahead.{Tells, other_bits, bits_at, block_length}
use Rattle.scan.specs.declared.ahead.Blocks.{Blocks}
use Rattle.scan.proofs.OtherBits.{next_at, FirstOther, bits_lt, bits_later, next_on, next_all, first_other}

-- `bits | 1`
or_one : (bits : ℕ) → bit_or bits 1 ≡ 1 + 2 * (bits / 2)
or_one bits = omega (arith, or_add_and bits 1, and_mask bits 1)

-- `next` is the block after the first one, and the one after that
abbrev pub IsNext : List ℕ → Blocks → Blocks → Type 0
IsNext ws blocks next =
    (next.base ≡ blocks.base + block_length)
    × ((next.bits ≡ blocks.more)
    × (next.more ≡ bits_at ws (blocks.base + block_length + block_length) block_length))

module _ (ws : List ℕ) where
  -- the bits of the words after i, as far as the block from `base` on reaches
  abbrev bits_after : ℕ → ℕ → ℕ
  bits_after base i = bits_at ws (i + 1) (base + block_length - (i + 1))

  -- told by the word at i and the words after it
  pub bits_after_lem :
      (base i : ℕ)
      → other_bits (get_or ws i 0) (take (base + block_length - suc i) (drop (suc i) ws))
      ≡ bits_at ws (suc i) (base + block_length - suc i)
  bits_after_lem base i = let before : suc i - 1 ≡ i = omega arith in rw before refl

  -- of a word of the block, from the bits of the block
  bits_from :
      (base at : ℕ) → base ≤ at → at < base + block_length
      → bits_at ws base block_length / 2 ^ (at - base) / 2 ≡ bits_after base at
  bits_from base at l h =
      let j = at - base in
      let k = base + block_length - (at + 1) in
      let all : j + 1 + k ≡ block_length = omega arith in
      let here : base + (j + 1) ≡ at + 1 = omega arith in
      shr-shr (bits_at ws base block_length) j 1 ∙ rw (all, here) at (bits_later ws (j + 1) base k)

  pub tells_start :
      (at : ℕ) (blocks : Blocks) → 1 ≤ at → at ≤ length ws → blocks.base ≡ at
      → blocks.bits ≡ bits_at ws at block_length → blocks.more ≡ bits_at ws (at + block_length) block_length
      → Tells ws at (record { base = blocks.base; bits = bit_or blocks.bits 1; more = blocks.more })
  tells_start at blocks h l here bits more =
      let none : at - at ≡ 0 = omega arith in
      let half : bits_at ws at block_length / 2 ≡ bits_after at at =
      rw (none, div-one) at (bits_from at at (omega arith) (omega arith)) in
      rw (or_one blocks.bits, here, bits, more)
      (record {
        first = h;
        onward = omega arith;
        within = l;
        reached = λ m. omega arith;
        told = λ m. rw (none, half) (omega arith);
        further = refl;
      })

  -- of a later word of the block, from those after `at`
  bits_past :
      {at : ℕ} {blocks : Blocks} (to : ℕ) → Tells ws at blocks → at ≤ to → to < length ws
      → to < blocks.base + block_length → blocks.bits / 2 ^ (to - blocks.base) / 2 ≡ bits_after blocks.base to
  bits_past {at} {blocks} to t l m h =
      let g = at - blocks.base in
      let j = to - at in
      let k = blocks.base + block_length - (to + 1) in
      let x = bits_at ws (at + 1) (j + k) in
      let parts : blocks.base + block_length - (at + 1) ≡ j + k = omega arith in
      let passed : to - blocks.base ≡ g + j = omega (arith, t.onward) in
      let here : at + 1 + j ≡ to + 1 = omega arith in
      let told : blocks.bits ≡ 2 ^ g * (1 + 2 * x) = rw parts at (t.told (omega arith)) in
      let next : j + 1 ≡ 1 + j = omega arith in
      let half : (1 + 2 * x) / 2 ^ 1 ≡ x = omega arith in
      rw (passed, told, ← shr-shr (2 ^ g * (1 + 2 * x)) g j, mul-div_right (1 + 2 * x) (pow_pos g))
      (shr-shr (1 + 2 * x) j 1
      ∙ rw (next, ← shr-shr (1 + 2 * x) 1 j, half) (rw here at (bits_later ws j (at + 1) k)))

  -- on the way to the word at `to`, which the first block does not begin after: its bits tell the others after that
  -- word, if it reaches the word
  pub record Towards (to : ℕ) (blocks : Blocks) : Type 0 where
    pub first : 1 ≤ blocks.base
    pub onward : blocks.base ≤ to
    pub told :
        to < length ws → to < blocks.base + block_length
        → blocks.bits / 2 ^ (to - blocks.base) / 2 ≡ bits_after blocks.base to
    pub further : blocks.more ≡ bits_at ws (blocks.base + block_length) block_length

  pub towards_start : {at to : ℕ} {blocks : Blocks} → Tells ws at blocks → at ≤ to → Towards to blocks
  towards_start {at} {to} t l =
      record {
        first = t.first;
        onward = omega (arith, t.onward);
        told = bits_past to t l;
        further = t.further;
      }

  module _ {to : ℕ} {blocks : Blocks} (towards : Towards to blocks) where
    pub towards_on :
        {next : Blocks} → blocks.base + block_length ≤ to → IsNext ws blocks next → Towards to next
    towards_on {next} l e =
        record {
          first = omega (arith, e.0);
          onward = omega (arith, e.0);
          told = λ m h. rw (e.0, e.1.0, towards.further)
              (bits_from (blocks.base + block_length) to l (omega (arith, e.0)));
          further = rw e.0 e.1.1;
        }

    pub tells_there :
        to ≤ length ws → to < blocks.base + block_length
        → Tells ws to
        (record {
          base = blocks.base;
          bits = bit_or (blocks.bits / 2 ^ (to - blocks.base)) 1 * 2 ^ (to - blocks.base) % 2 ^ 64;
          more = blocks.more;
        })
    tells_there m h =
        let p = to - blocks.base in
        let k = blocks.base + block_length - (to + 1) in
        let rest = bits_after blocks.base to in
        let small : 1 + 2 * rest < 2 ^ suc k = omega (arith, pow-succ' 2 k, bits_lt ws (to + 1) k) in
        record {
          first = towards.first;
          onward = towards.onward;
          within = m;
          reached = λ x. h;
          told = λ x. rw (or_one (blocks.bits / 2 ^ p), towards.told x h, shl_exact (suc k) p 64 small (omega arith))
              (mul_comm (1 + 2 * rest) (2 ^ p));
          further = towards.further;
        }

  -- the words from the start of the search up to `from` are next strikes, the bits of the first block are those of the
  -- others from there on, and `end` is the next other
  pub record Searched (end : ℕ) (blocks : Blocks) : Type 0 where
    pub from : ℕ
    pub first : 1 ≤ blocks.base
    pub onward : blocks.base ≤ from
    pub within : from ≤ length ws
    pub near : from ≤ blocks.base + block_length
    pub told : blocks.bits ≡ 2 ^ (from - blocks.base) * bits_at ws from (blocks.base + block_length - from)
    pub further : blocks.more ≡ bits_at ws (blocks.base + block_length) block_length
    pub reaches : from + next_at ws from ≡ end

  module _ {end : ℕ} {blocks : Blocks} (searched : Searched end blocks) where
    told_none : blocks.bits ≡ 0 → bits_at ws searched.from (blocks.base + block_length - searched.from) ≡ 0
    told_none e =
        let g = searched.from - blocks.base in
        let x = bits_at ws searched.from (blocks.base + block_length - searched.from) in
        eq_of_mul-eq-mul_left (2 ^ g) (pow_pos g) x 0 (sym searched.told ∙ e ∙ sym (mul-zero (2 ^ g)))

    pub searched_on :
        {next : Blocks} → blocks.bits ≡ 0 → blocks.base + block_length < length ws → IsNext ws blocks next
        → Searched end next
    searched_on {next} e l n =
        let k = blocks.base + block_length - searched.from in
        let base = blocks.base + block_length in
        let onward : searched.from + k ≡ base = omega arith in
        let none : base - base ≡ 0 = omega arith in
        let all : base + block_length - base ≡ block_length = omega arith in
        record {
          from = base;
          first = omega (arith, n.0);
          onward = omega (arith, n.0);
          within = omega arith;
          near = omega (arith, n.0);
          told = rw (n.0, n.1.0, none, all, searched.further) (omega arith);
          further = rw n.0 n.1.1;
          reaches =
              omega (
                arith,
                rw onward at (next_on ws k searched.from (omega arith) (told_none e)),
                searched.reaches,
              );
        }

    pub searched_all : blocks.bits ≡ 0 → length ws ≤ blocks.base + block_length → length ws ≡ end
    searched_all e l =
        let k = blocks.base + block_length - searched.from in
        sym (next_all ws k searched.from searched.within (omega arith) (told_none e)) ∙ searched.reaches

    other : (blocks.bits ≡ 0 → ⊥) → FirstOther ws searched.from (blocks.base + block_length - searched.from)
    other e =
        first_other ws (blocks.base + block_length - searched.from) searched.from
        (pos_of_ne-zero (λ z. e (searched.told ∙ rw z (mul-zero (2 ^ (searched.from - blocks.base))))))

    pub searched_found :
        (blocks.bits ≡ 0 → ⊥)
        → let at = blocks.base + count_trailing_zeros 64 blocks.bits in
        Tells ws at blocks × (at ≡ end)
    searched_found e =
        let base = blocks.base in
        let bits = blocks.bits in
        let o = other e in
        let i = searched.from in
        let g = i - base in
        let k = base + block_length - i in
        let m = next_at ws i in
        let odd = 1 + 2 * o.higher in
        let told : bits ≡ 2 ^ (g + m) * odd =
        searched.told ∙ rw (o.told, pow-add 2 g m) (sym (mul_assoc (2 ^ g) (2 ^ m) odd)) in
        let zeros : count_trailing_zeros 64 bits ≡ g + m =
        rw told (trailing_lowest (g + m) 64 o.higher (omega (arith, o.below))) in
        let place : base + count_trailing_zeros 64 bits ≡ i + m = omega arith in
        let passed : i + m - base ≡ g + m = omega arith in
        let all : m + 1 + (base + block_length - (i + m + 1)) ≡ k = omega (arith, o.below) in
        let next : i + (m + 1) ≡ i + m + 1 = omega arith in
        let half : odd / 2 ^ 1 ≡ o.higher = omega arith in
        let split : bits_at ws i k / 2 ^ (m + 1) ≡ o.higher =
        rw (o.told, ← shr-shr (2 ^ m * odd) m 1, mul-div_right odd (pow_pos m)) half in
        let later : o.higher ≡ bits_after base (i + m) =
        sym split ∙ rw (all, next) at (bits_later ws (m + 1) i (base + block_length - (i + m + 1))) in
        rw place (
          record {
            first = searched.first;
            onward = omega arith;
            within = omega (arith, o.within);
            reached = λ l. omega (arith, o.below);
            told = λ l. rw (passed, ← later) told;
            further = searched.further;
          },
          searched.reaches,
        )

-- the search begins after the word at `at`
pub searched_start :
    (ws : List ℕ) {at : ℕ} {blocks : Blocks} → Tells ws at blocks → at < length ws
    → Searched ws (suc at + next_length (get_or ws at 0) (drop (suc at) ws))
    (record { base = blocks.base; bits = bit_and blocks.bits (blocks.bits - 1); more = blocks.more })
searched_start ws {at} {blocks} tells l =
    let g = at - blocks.base in
    let before : suc at - 1 ≡ at = omega arith in
    let passed : suc at - blocks.base ≡ suc g = omega (arith, tells.onward) in
    let plus : at + 1 ≡ suc at = omega arith in
    record {
      from = suc at;
      first = tells.first;
      onward = omega (arith, tells.onward);
      within = l;
      near = omega (arith, tells.reached l);
      told =
          rw (tells.told l, passed, plus)
          (and_lowest g (bits_at ws (suc at) (blocks.base + block_length - suc at)));
      further = tells.further;
      reaches = rw before refl;
    }
