-- A list in the making: below a height all permitted strikes of a range are listed, and from there on the same strikes
-- are permitted beside the standing ones that are left. Assumes nothing.
use mathlib.Core.Path.{◌≡◌, refl, sym}
use mathlib.Core.Bool.{Bool, false, cond}
use mathlib.Core.List.{List, ◌∷◌, map}
use Prim.Native.Nat.{ℕ, zero, suc, ◌+◌, ◌-◌, ◌≤◌, ◌<◌, min}
use native.Mathlib.Omega.{arith}
use lib.Dec.{T}
use Rattle.logic.specs.Lists.{Rising, only, up_from}
use Rattle.logic.proofs.Tests.{refuted}
use Rattle.logic.proofs.Numbers.{left}
use Rattle.logic.proofs.Stores.{Filling}
use Rattle.rule.specs.declared.terms.Setting.{Setting}
use Rattle.rule.specs.Ends.{is_open_strike}
use Rattle.rule.specs.Spacing.{standing_of}
use Rattle.rule.specs.Judgement.{is_permitted_beside}
use Rattle.rule.proofs.Open.{permitted_open}
use Rattle.permitted.specs.declared.Range.{Range}
use Rattle.permitted.specs.declared.Listing.{Listing}
use Rattle.permitted.specs.Listing.{strike_in, Listable, permitted_between, permitted_in, above, Alike}

pub closed_refused : (s : Setting) (ws : List ℕ) (h : ℕ) → (T (is_open_strike s h) → ⊥) →
    is_permitted_beside s (map standing_of ws) h ≡ false
closed_refused s ws h closed =
    sym
    (refuted (is_permitted_beside s (map standing_of ws) h) (λ t. closed (permitted_open s h (map standing_of ws) t)))

same_only : (f g : ℕ → Bool) (n low : ℕ) → ((x : ℕ) → low ≤ x → f x ≡ g x) →
    only f (up_from n low) ≡ only g (up_from n low)
same_only f g zero low same = refl
same_only f g (suc n) low same =
    let here = same low (omega arith) in
    let rest = same_only f g n (suc low) (λ x l. same x (omega arith)) in
    λ i. cond (here i) (low ∷ rest i) (rest i)

-- what is permitted beside the one as beside the other words
pub same_between : {s : Setting} {ws ws' : List ℕ} {h : ℕ} → Alike s ws ws' h → (low high : ℕ) → h ≤ low →
    permitted_between s ws low high ≡ permitted_between s ws' low high
same_between {s} {ws} {ws'} alike low high l =
    same_only (is_permitted_beside s (map standing_of ws)) (is_permitted_beside s (map standing_of ws'))
    (high + 1 - low) low (λ x k. alike.same x (omega arith))

pub still_listable : {s : Setting} {ws ws' : List ℕ} → Listable s ws → Rising (map strike_in ws') → Listable s ws'
still_listable fits rising =
    record { measurable = fits.measurable; close = fits.close; order = fits.order; rising = rising }

-- the permitted strikes of the range below h are listed: l is the list as it began, l' as it is
pub record Listed (l : Listing) (range : Range) (l' : Listing) (h : ℕ) : Type 0 where
  pub least : range.low ≤ h
  pub setting : l'.setting ≡ l.setting
  pub place : l'.out.ghost_name ≡ l.out.ghost_name
  pub alike : Alike l.setting l.standing.now l'.standing.now (min h (above range))
  pub fewer : l'.count < min h (above range)
  pub filling :
      Filling (permitted_in l range) l.out.now l.count l'.out.now l'.count
      (left (is_permitted_beside l.setting (map standing_of l.standing.now)) (range.high + 1) h)
