-- What the loop over a class's expirations keeps, and a law for each way through it: by the word at its place. Assumes
-- nothing.
use Prim.Native.Nat.{ℕ, suc, ◌+◌, ◌-◌, ◌≤◌, ◌<◌, max}
use mathlib.Core.Path.{◌≡◌, sym}
use mathlib.Core.Logic.Iff
use mathlib.Core.Logic.{◌↔◌}
use mathlib.Core.Bool.{Bool, true, false}
use mathlib.Core.List.{List}
use Rattle.std.specs.Prelude.{None}
use native.Mathlib.Omega.{arith}
use lib.ListN.{length, drop, get_or}
use lib.Seq.{drop-cons, drop-drop, get_or-drop}
use lib.Dec.{T, leb→le}
use Rattle.word.specs.Limits.{between, latest_month}
use Rattle.word.specs.Kinds.{kind_of, below_kind, expiration_kind}
use Rattle.word.specs.Codec.{Expiration, packed}
use Rattle.logic.specs.Lists.{every}
use Rattle.book.specs.Facts.{OpenClass}
use Rattle.book.specs.Books.{is_class}
use Rattle.logic.proofs.Tests.{ands, true_T}
use Rattle.scan.specs.NextStrikes.{next_length}
use Rattle.scan.specs.Stretches.{may_follow, SeriesThen, SeriesEnd, Stretched, are_strikes}
use Rattle.scan.proofs.ExpirationWords.{is_expiration_from, is_between, between_from}
use Rattle.scan.proofs.NextStrikes.{last_next, HasStrikes}
use Rattle.scan.proofs.Series.{expiration_more, expiration_none}

-- the series from `from` on are what they are after those before i, and `least` is the first expiration word that may
-- follow them
pub record Expirations (now : ℕ) (ws : List ℕ) (from least i : ℕ) : Type 0 where
  -- the month after the last expiration's, 0 for none
  pub next : ℕ
  pub first : least ≡ packed (Expiration (max next now))
  pub onward : from ≤ i
  pub within : i ≤ length ws
  pub same :
      (xs : List OpenClass) → T (every (is_class now) xs)
      → SeriesThen now 0 (may_follow 0) xs (drop from ws) ↔ SeriesThen now next (may_follow next) xs (drop i ws)

module _ {now : ℕ} {ws : List ℕ} {from least i : ℕ} (v : Expirations now ws from least i) where
  -- the word at i is compared with those of the first and the last month that may follow
  pub expirations_compared :
      (latest : ℕ) (test : Bool) → latest ≡ packed (Expiration (latest_month now))
      → test ≡ between least latest (get_or ws i 0) → is_between now v.next (get_or ws i 0) ≡ test
  expirations_compared latest test last e = sym (rw (v.first, last) at e)

  module _ (inside : i < length ws) where
    pub expirations_stop : (kind_of (get_or ws i 0) ≡ expiration_kind.number → ⊥) → SeriesEnd now ws from i
    expirations_stop other =
        record {
          onward = v.onward;
          within = v.within;
          rest = λ xs legal.
              Iff.trans (v.same xs legal) (rw (drop-cons ws i 0 inside) (expiration_none now xs legal other));
        }

    module _ (kind : kind_of (get_or ws i 0) ≡ expiration_kind.number) where
      step :
          (xs : List OpenClass) → T (every (is_class now) xs)
          → SeriesThen now 0 (may_follow 0) xs (drop from ws)
          ↔ (T (is_between now v.next (get_or ws i 0))
          × HasStrikes (get_or ws i 0) (drop (suc i) ws)
          × SeriesThen now (suc (below_kind (get_or ws i 0))) (may_follow (suc (below_kind (get_or ws i 0)))) xs
          (drop (suc i + next_length (get_or ws i 0) (drop (suc i) ws)) ws))
      step xs legal =
          Iff.trans (v.same xs legal)
          (rw (
            between_from now v.next (get_or ws i 0) kind,
            drop-cons ws i 0 inside,
            ← drop-drop (next_length (get_or ws i 0) (drop (suc i) ws)) (suc i) ws,
          )
          (expiration_more now xs legal kind))

      pub expirations_wrong : is_between now v.next (get_or ws i 0) ≡ false → Stretched now ws from None
      expirations_wrong t xs legal r = rw t at ((step xs legal).0 r).0

      -- the next strikes after it end at j
      module _ (j : ℕ) (end : j ≡ suc i + next_length (get_or ws i 0) (drop (suc i) ws)) where
        pub expirations_empty : j ≤ i + 1 → Stretched now ws from None
        expirations_empty none xs legal r = omega (arith, ((step xs legal).0 r).1.0)

        -- the first and the last of them, by their places in the run
        strikes_at :
            are_strikes (get_or (drop (suc i) ws) 0 0) (last_next (get_or ws i 0) (drop (suc i) ws))
            ≡ are_strikes (get_or ws (i + 1) 0) (get_or ws (j - 1) 0)
        strikes_at =
            let n = next_length (get_or ws i 0) (drop (suc i) ws) in
            let one : suc i + 0 ≡ i + 1 = omega arith in
            let before : i + n ≡ j - 1 = omega arith in
            rw (← drop-cons ws i 0 inside, get_or-drop (suc i) ws 0 0, one, get_or-drop i ws n 0, before)

        pub expirations_outside :
            are_strikes (get_or ws (i + 1) 0) (get_or ws (j - 1) 0) ≡ false → Stretched now ws from None
        expirations_outside t xs legal r = rw (strikes_at, t) at ((step xs legal).0 r).1.1

        pub expirations_more :
            T (is_between now v.next (get_or ws i 0)) → i + 1 < j
            → are_strikes (get_or ws (i + 1) 0) (get_or ws (j - 1) 0) ≡ true → j ≤ length ws
            → Expirations now ws from (get_or ws i 0 + 1) j
        expirations_more t some strikes within =
            let w = get_or ws i 0 in
            let m = below_kind w in
            let listed : T (is_expiration_from now v.next w) = rw (between_from now v.next w kind) at t in
            let low : now ≤ m = leb→le now m (search ands) in
            let has : HasStrikes w (drop (suc i) ws) =
            (omega arith, rw strikes_at (true_T (are_strikes (get_or ws (i + 1) 0) (get_or ws (j - 1) 0)) strikes)) in
            record {
              next = suc m;
              first = omega arith;
              onward = omega (arith, v.onward);
              within = within;
              same = λ xs legal. rw end (λ r. ((step xs legal).0 r).2, λ r. (step xs legal).1 (t, has, r));
            }
