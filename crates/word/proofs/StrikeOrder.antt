-- The order of words by which strikes follow each other: a strike word comes after an expiration word and after a
-- strike word of a lower strike, and no other word comes after a strike word. Assumes nothing.
use Rattle.std.proofs.Common.{◌≡◌, ℕ, ◌+◌, ◌-◌, ◌*◌, ◌/◌, ◌%◌, ◌^◌, ◌<◌, ◌≤◌, T, leb, ⊎_elim, arith, le→leb, eqb→eq, leb→le, shr-shr, le-ltb, lt-ltb}
use Rattle.logic.proofs.Tests.{ands, and_intro, equal_test, lt_or_le}
use Rattle.word.specs.Limits.{is_ground, highest_ground}
use Rattle.word.specs.Field.{field, end}
use Rattle.word.specs.Kinds.{kind_field, kind_of, key_of, is_bare, expiration_kind, strike_kind, ground_field, put_field, call_field}
use Rattle.word.specs.Codec.{shifted}
use Rattle.word.specs.Strikes.{signed, order_of, unmarked, lowest_word, highest_word, is_strike_word}
use Rattle.word.proofs.RawWords.{IsStrike}

-- numbers without the highest bit, with it, and those that 32 bits don't hold
signed_low : (n : ℕ) → n < 2 ^ 31 → signed n ≡ n + 2 ^ 31
signed_low n l = rw (lt-ltb n (2 ^ 31) l)

signed_high : (n : ℕ) → 2 ^ 31 ≤ n → n < 2 ^ 32 → signed n ≡ n - 2 ^ 31
signed_high n l k = rw (le-ltb n (2 ^ 31) l, lt-ltb n (2 ^ 32) k)

signed_past : (n : ℕ) → 2 ^ 32 ≤ n → signed n ≡ n
signed_past n l = rw (le-ltb n (2 ^ 31) (omega arith), le-ltb n (2 ^ 32) l)

module _ (w : ℕ) where
  -- the kind and the strike as one number
  abbrev number : ℕ
  number = shifted (kind_of w) kind_field + key_of strike_kind w

  pub strike_order : IsStrike w → order_of w ≡ order_of lowest_word + key_of strike_kind w
  strike_order top = omega (arith, signed_low number (omega arith))

  pub expiration_order : kind_of w ≡ expiration_kind.number → order_of w < order_of lowest_word
  expiration_order kind = omega (arith, signed_low number (omega arith))

  unmarked_parts : unmarked w ≡ w / 2 ^ end call_field * 2 ^ end call_field + w % 2 ^ put_field.low
  unmarked_parts =
      let a : w / 2 ^ put_field.low / 2 ^ 2 ≡ w / 2 ^ end call_field = shr-shr w put_field.low 2 in
      omega arith

  unmarked_kind : unmarked w / 2 ^ kind_field.low ≡ kind_of w
  unmarked_kind =
      let a : w / 2 ^ end call_field / 2 ^ 8 ≡ w / 2 ^ kind_field.low = shr-shr w (end call_field) 8 in
      omega (arith, unmarked_parts)

  -- a word from the lowest strike word to the highest, but for its marks
  strike_between : lowest_word ≤ unmarked w → unmarked w ≤ highest_word → T (is_strike_word w)
  strike_between low high =
      let on_ground : w / 2 ^ ground_field.low / 2 ^ ground_field.width ≡ w / 2 ^ put_field.low =
      shr-shr w ground_field.low ground_field.width in
      and_intro (is_bare strike_kind (end call_field) w) (is_ground (field w ground_field))
      (equal_test (w / 2 ^ end call_field) (strike_kind.number * 2 ^ 8) (omega (arith, unmarked_parts)))
      (le→leb (field w ground_field) highest_ground (omega (arith, unmarked_parts)))

  pub strike_passes : T (is_strike_word w) → T (leb (signed (unmarked w)) (signed highest_word))
  strike_passes t =
      let kind : w / 2 ^ end call_field ≡ strike_kind.number * 2 ^ 8 =
      eqb→eq (w / 2 ^ end call_field) (strike_kind.number * 2 ^ 8) (search ands) in
      let most : field w ground_field ≤ highest_ground = leb→le (field w ground_field) highest_ground (search ands) in
      let on_ground : w / 2 ^ ground_field.low / 2 ^ ground_field.width ≡ w / 2 ^ put_field.low =
      shr-shr w ground_field.low ground_field.width in
      le→leb (signed (unmarked w)) (signed highest_word)
      (omega (arith, unmarked_parts, signed_low (unmarked w) (omega (arith, unmarked_parts))))

  -- a word that passes, and whose order is no lower than that of strike words, is one
  pub passes_strike :
      T (leb (signed (unmarked w)) (signed highest_word)) → order_of lowest_word ≤ order_of w → T (is_strike_word w)
  passes_strike t low =
      let most : signed (unmarked w) ≤ signed highest_word = leb→le (signed (unmarked w)) (signed highest_word) t in
      ⊎_elim
      (λ l.
      let few : unmarked w < 2 ^ 31 = omega (arith, unmarked_kind) in
      strike_between (omega (arith, unmarked_kind, signed_low number l))
      (omega (arith, signed_low (unmarked w) few)))
      (λ l.
      ⊎_elim
      (λ k. absurd (omega (arith, signed_high number l k)))
      (λ k. absurd (omega (arith, unmarked_kind, signed_past (unmarked w) (omega (arith, unmarked_kind)))))
      (lt_or_le number (2 ^ 32)))
      (lt_or_le number (2 ^ 31))
