-- Fields of words by position and width: shifts are division and multiplication by powers of two, masks are remainders.
-- Assumes nothing.
use Rattle.std.proofs.Common.{◌≡◌, ℕ, ◌+◌, ◌-◌, ◌*◌, ◌/◌, ◌%◌, ◌^◌, ◌<◌, ◌≤◌, min, eqb, leb, sym, ap, ◌∙◌, add_assoc, mod-lt, mod-eq_of_lt, mul_assoc, add-mul, add_comm, one-mul, arith, le→leb, eqb→eq, leb→le, pow_pos, pow_mono, pow-add, shr-shr}
use lib.Bits.{bit_and, bit_or, and_mask, and_shr, and_step, or_shifted_r}
use lib.Pow.{pow-lt, high, low, ones_split, ones_lt}
use Rattle.logic.proofs.Tests.{same_bool, equal_test}
use Rattle.word.specs.declared.field.Field.{Field}
use Rattle.word.specs.Field.{field}

-- `1 << width` in 32 bits
pub one_shifted : (width : ℕ) → width < 32 → 1 * 2 ^ width % 2 ^ 32 ≡ 2 ^ width
one_shifted width h = rw (one-mul (2 ^ width)) (mod-eq_of_lt (pow-lt h))

-- `(w >> low) & ((1 << width) - 1)` reads a field
pub masked :
    (w : ℕ) (f : Field) → f.width < 32 → bit_and (w / 2 ^ f.low) (1 * 2 ^ f.width % 2 ^ 32 - 1) ≡ field w f
masked w f h = rw (one_shifted f.width h) (and_mask (w / 2 ^ f.low) f.width)

-- `below | (value << position)` in 32 bits writes a field above those already there
pub put : (below value position : ℕ) → below < 2 ^ position → value * 2 ^ position < 2 ^ 32
    → bit_or below (value * 2 ^ position % 2 ^ 32) ≡ below + value * 2 ^ position
put below value position hbelow hvalue =
    rw (mod-eq_of_lt hvalue, or_shifted_r value position below hbelow) (add_comm (value * 2 ^ position) below)

-- a field of a packed word is the value that was packed there, whatever stands below and above it
pub field_packed :
    (w below value above : ℕ) (f : Field) → w ≡ above * 2 ^ (f.width + f.low) + (value * 2 ^ f.low + below)
    → value < 2 ^ f.width → below < 2 ^ f.low → field w f ≡ value
field_packed w below value above f e hvalue hbelow =
    rw (e, regroup, high (above * 2 ^ f.width + value) f.low hbelow) (low above f.width hvalue)
  where
    regroup :
        above * 2 ^ (f.width + f.low) + (value * 2 ^ f.low + below)
        ≡ (above * 2 ^ f.width + value) * 2 ^ f.low + below
    regroup = simp (pow-add, add-mul, mul_assoc, add_assoc)

-- a field is less than any power of two with at least as many bits
pub field_less : (w : ℕ) (f : Field) (more : ℕ) → f.width ≤ more → field w f < 2 ^ more
field_less w f more l =
    let a = mod-lt (w / 2 ^ f.low) (pow_pos f.width) in
    let b = pow_mono l in
    omega arith

-- a mask cut from a longer one
mask_cut : (width more : ℕ) → width ≤ more → (2 ^ more - 1) / 2 ^ (more - width) ≡ 2 ^ width - 1
mask_cut width more l =
    let k = more - width in
    let parts : more ≡ width + k = omega arith in
    ap (λ (n : ℕ). (2 ^ n - 1) / 2 ^ k) parts
    ∙ ap (λ (n : ℕ). n / 2 ^ k) (ones_split width k)
    ∙ high (2 ^ width - 1) k (ones_lt k)

-- .. which reads the lowest field
pub masked_lowest :
    (w width more : ℕ) → width ≤ more
    → bit_and w ((2 ^ more - 1) / 2 ^ (more - width)) ≡ field w (record { low = 0; width = width })
masked_lowest w width more l =
    let whole : w ≡ w / 2 ^ 0 = omega arith in
    ap (bit_and w) (mask_cut width more l) ∙ and_mask w width ∙ ap (λ (n : ℕ). n % 2 ^ width) whole

-- the least of the lowest two bits of q is 0 where they are not both 1
pair_bits : (q x : ℕ) → eqb ((x * 2 + min (q % 2) (q / 2 % 2)) % 2) 0 ≡ leb (q % 4) 2
pair_bits q x =
    let both = min (q % 2) (q / 2 % 2) in
    let lowest : (x * 2 + both) % 2 ≡ both = low x 1 (omega arith) in
    let two : q % 4 ≡ q % 2 + 2 * (q / 2 % 2) = omega arith in
    rw lowest
    (same_bool (eqb both 0) (leb (q % 4) 2) (λ t. le→leb (q % 4) 2 (omega (arith, two, eqb→eq both 0 t)))
    (λ t. equal_test both 0 (omega (arith, two, leb→le (q % 4) 2 t))))

-- `w & (w >> 1)` has a bit where w has it and the one above it
pub both_bits :
    (w position : ℕ)
    → eqb (field (bit_and w (w / 2 ^ 1)) (record { low = position; width = 1 })) 0
    ≡ leb (field w (record { low = position; width = 2 })) 2
both_bits w position =
    let q = w / 2 ^ position in
    let half : w / 2 ^ 1 / 2 ^ position ≡ q / 2 ^ 1 =
    shr-shr w 1 position ∙ ap (λ (n : ℕ). w / 2 ^ n) (add_comm 1 position) ∙ sym (shr-shr w position 1) in
    rw (and_shr w (w / 2 ^ 1) position, half, and_step q (q / 2)) (pair_bits q (bit_and (q / 2) (q / 2 / 2)))
