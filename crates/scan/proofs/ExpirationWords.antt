-- The word of an expiration that may follow others is one between two words: those of the first and of the last month
-- that may. Assumes nothing.
use Prim.Native.Nat.{ℕ, ◌+◌, max}
use mathlib.Core.Path.{◌≡◌}
use mathlib.Core.Bool.{Bool, ◌&&◌}
use native.Mathlib.Omega.{arith}
use lib.Dec.{T, leb, leb→le, le→leb}
use Rattle.word.specs.Limits.{between, last_month, latest_month, months_ahead}
use Rattle.word.specs.Kinds.{kind_of, below_kind, expiration_kind}
use Rattle.word.specs.Codec.{Expiration, packed}
use Rattle.book.specs.Books.{is_listed}
use Rattle.logic.proofs.Tests.{and_intro, ands, same_bool}

-- of an expiration word: its month is at least p, and may stand in a book of the month `now`
abbrev pub is_expiration_from : ℕ → ℕ → ℕ → Bool
is_expiration_from now p w = leb p (below_kind w) && is_listed now (below_kind w)

-- the word is between those of the first and the last month that may follow the expiration p
abbrev pub is_between : ℕ → ℕ → ℕ → Bool
is_between now p w = between (packed (Expiration (max p now))) (packed (Expiration (latest_month now))) w

module _ (now p w : ℕ) where
  pub between_kind : T (is_between now p w) → kind_of w ≡ expiration_kind.number
  between_kind t =
      let low = leb→le (packed (Expiration (max p now))) w (search ands) in
      let high = leb→le w (packed (Expiration (latest_month now))) (search ands) in
      omega arith

  pub between_from : kind_of w ≡ expiration_kind.number → is_between now p w ≡ is_expiration_from now p w
  between_from kind = same_bool (is_between now p w) (is_expiration_from now p w) from to
    where
      from : T (is_between now p w) → T (is_expiration_from now p w)
      from t =
          let m = below_kind w in
          let low = leb→le (packed (Expiration (max p now))) w (search ands) in
          let high = leb→le w (packed (Expiration (latest_month now))) (search ands) in
          let a : T (leb p m) = le→leb p m (omega arith) in
          let b : T (leb now m) = le→leb now m (omega arith) in
          let c : T (leb m (now + months_ahead)) = le→leb m (now + months_ahead) (omega arith) in
          let d : T (leb m last_month) = le→leb m last_month (omega arith) in
          search and_intro

      to : T (is_expiration_from now p w) → T (is_between now p w)
      to t =
          let m = below_kind w in
          let a = leb→le p m (search ands) in
          let b = leb→le now m (search ands) in
          let c = leb→le m (now + months_ahead) (search ands) in
          let d = leb→le m last_month (search ands) in
          let low = le→leb (packed (Expiration (max p now))) w (omega arith) in
          let high = le→leb w (packed (Expiration (latest_month now))) (omega arith) in
          search and_intro
