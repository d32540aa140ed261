-- Only the standing strikes within reach of a strike bear on it, $1 in a long expiration and else $0.50: it clears each
-- that is farther on any ground, so that a test of all is one of those between. Of strikes that rise, one that is clear
-- of the next below it and the next above has no other within reach, so that a judgement beside these is one beside
-- all. Assumes nothing.
use mathlib.Core.Path.{◌≡◌, refl, sym, ap, ap₂, ◌∙◌, fun_ext, subst}
use mathlib.Core.Bool.{Bool, true, false, not, cond, ◌&&◌, ◌||◌, and-false}
use mathlib.Core.List.{List, [], ◌∷◌, ◌++◌, map, map-append}
use mathlib.Core.Logic.{⊎_elim}
use Prim.Native.Nat.{ℕ, ◌+◌, ◌-◌, ◌≤◌, ◌<◌, min}
use native.Mathlib.Omega.{arith}
use lib.Dec.{T, leb, ltb, eqb, ltb→lt, lt→ltb, nleb→lt}
use lib.ListN.{length, get_or, take, drop, length-drop, length-take}
use lib.Seq.{get_or-take, get_or-drop}
use borrow.Author.Tests.{lt-leb, ne_eqb}
use Rattle.logic.specs.Lists.{every, Rising}
use Rattle.logic.proofs.Tests.{ands, true_T, or_left, or_right, or_cases}
use Rattle.logic.proofs.Lists.{not_some, every_at, every_places, every_mapped, rising_at}
use Rattle.logic.proofs.Splits.{every_between, every_failed, parted}
use Rattle.rule.specs.declared.terms.Setting.{Setting}
use Rattle.word.specs.Limits.{half_dollar, cents}
use Rattle.rule.specs.Terms.{is_long, apart}
use Rattle.rule.specs.Ends.{reach_of}
use Rattle.word.specs.Grounds.{dollar_ground}
use Rattle.rule.specs.Grids.{one_dollar, grounds}
use Rattle.rule.specs.Ranges.{on_grid, in_range}
use Rattle.rule.specs.Spacing.{Standing, standing_of, crowds, counts_as_standard, clears, spacing_of}
use Rattle.word.specs.Answers.{is_accepted}
use Rattle.rule.specs.Judgement.{decided, judgement, is_permitted_beside}

-- the strike t stands out of reach of h
abbrev is_far : Setting → ℕ → Standing → Bool
is_far s h t = ltb (t.strike + reach_of s) h || ltb (h + reach_of s) t.strike

pub reach_most : (s : Setting) → reach_of s ≤ 2
reach_most s = go (is_long s)
  where
    go : (long : Bool) → cond {A = ℕ} long 2 1 ≤ 2
    go true = omega arith
    go false = omega arith

module _ (s : Setting) (h : ℕ) where
  far_apart : (t : Standing) → T (is_far s h t) → reach_of s < apart h t.strike
  far_apart t u =
      ⊎_elim
      (λ (a : T (ltb (t.strike + reach_of s) h)). omega (arith, ltb→lt (t.strike + reach_of s) h a))
      (λ (a : T (ltb (h + reach_of s) t.strike)). omega (arith, ltb→lt (h + reach_of s) t.strike a))
      (or_cases (ltb (t.strike + reach_of s) h) (ltb (h + reach_of s) t.strike) u)

  far_absent : (t : Standing) → T (is_far s h t) → T (not (eqb t.strike h))
  far_absent t u =
      let far = far_apart t u in
      rw (ne_eqb t.strike h (λ q. omega arith)) tt

  far_clears : (g : ℕ) (t : Standing) → T (is_far s h t) → T (clears s g h t)
  far_clears g t u = true_T (clears s g h t) (go (is_long s) (far_apart t u))
    where
      go : (long : Bool) → cond {A = ℕ} long 2 1 < apart h t.strike →
          (not (eqb g dollar_ground && counts_as_standard t.on_ground && crowds h t.strike)
          && not (counts_as_standard g && eqb t.on_ground dollar_ground && crowds t.strike h)
          && not (long && leb (apart (cents h) (cents t.strike)) one_dollar))
          ≡ true
      go true far =
          let there : ℕ = apart (cents h) (cents t.strike) in
          let back : ℕ = apart (cents t.strike) (cents h) in
          simp (
            lt-leb there half_dollar (omega arith),
            lt-leb back half_dollar (omega arith),
            lt-leb there one_dollar (omega arith),
            and-false,
          )
      go false far =
          let there : ℕ = apart (cents h) (cents t.strike) in
          let back : ℕ = apart (cents t.strike) (cents h) in
          simp (lt-leb there half_dollar (omega arith), lt-leb back half_dollar (omega arith), and-false)

  -- a strike that h clears on some ground is no nearer than the reach
  clears_apart : (g : ℕ) (t : Standing) → T (clears s g h t) → 0 < apart h t.strike → reach_of s ≤ apart h t.strike
  clears_apart g t u other = go (is_long s) (search ands)
    where
      go : (long : Bool) → T (not (long && leb (apart (cents h) (cents t.strike)) one_dollar)) →
          cond {A = ℕ} long 2 1 ≤ apart h t.strike
      go true q = omega (arith, nleb→lt (apart (cents h) (cents t.strike)) one_dollar q)
      go false q = omega arith

  -- where the spacing is the same, so is the judgement
  spaced_judged : (standing near : List Standing) → ((g : ℕ) → spacing_of s standing g h ≡ spacing_of s near g h) →
      judgement s standing h ≡ judgement s near h
  spaced_judged standing near spaced =
      ap (λ (spacing : ℕ → Bool). decided (map (λ g. on_grid s g h ∷ in_range s g h ∷ spacing g ∷ []) grounds))
      (fun_ext spaced)

  -- those before and behind are out of reach
  module _ (before near behind : List Standing)
      (b : T (every (is_far s h) before)) (a : T (every (is_far s h) behind)) where
    -- the spacing beside all is the one beside those between
    near_spaced : (g : ℕ) → spacing_of s (before ++ (near ++ behind)) g h ≡ spacing_of s near g h
    near_spaced g = every_between (clears s g h) (is_far s h) (far_clears g) before near behind b a

    near_permitted : is_permitted_beside s (before ++ (near ++ behind)) h ≡ is_permitted_beside s near h
    near_permitted =
        ap₂ ◌&&◌
        (not_some (λ t. eqb t.strike h) (before ++ (near ++ behind))
        ∙ every_between (λ t. not (eqb t.strike h)) (is_far s h) far_absent before near behind b a
        ∙ sym (not_some (λ t. eqb t.strike h) near))
        (ap is_accepted (spaced_judged (before ++ (near ++ behind)) near near_spaced))

-- ---- the words of strikes that stand

-- the strike of the word at the index i
abbrev strike_standing : List ℕ → ℕ → ℕ
strike_standing ws i = (standing_of (get_or ws i 0)).strike

-- the strikes before the index `from` and those from the index `to` on stand out of reach of h
pub record Between (s : Setting) (h : ℕ) (ws : List ℕ) (from to : ℕ) : Type 0 where
  pub order : from ≤ to
  pub below : (i : ℕ) → i < from → strike_standing ws i + reach_of s < h
  pub above : (i : ℕ) → to ≤ i → i < length ws → h + reach_of s < strike_standing ws i

-- the strikes before, between and behind two indices
module _ (ws : List ℕ) (from to : ℕ) where
  abbrev earlier : List Standing
  earlier = map standing_of (take from ws)

  abbrev near : List Standing
  near = map standing_of (take (to - from) (drop from ws))

  abbrev later : List Standing
  later = map standing_of (drop to ws)

  strikes_parted : from ≤ to → earlier ++ (near ++ later) ≡ map standing_of ws
  strikes_parted order = rw (← map-append, ← map-append, parted ws from to order)

module _ {s : Setting} {h : ℕ} {ws : List ℕ} {from to : ℕ} (between : Between s h ws from to) where
  -- a test of the strike of a word
  abbrev far : ℕ → Bool
  far w = is_far s h (standing_of w)

  far_before : T (every (is_far s h) (earlier ws from to))
  far_before = rw (every_mapped (is_far s h) standing_of (take from ws)) (every_places far 0 (take from ws) each)
    where
      each : (i : ℕ) → i < length (take from ws) → T (far (get_or (take from ws) i 0))
      each i l =
          let k : i < from = omega (arith, length-take from ws) in
          rw (get_or-take from ws i 0 k)
          (or_left (ltb (strike_standing ws i + reach_of s) h) (ltb (h + reach_of s) (strike_standing ws i))
          (lt→ltb (strike_standing ws i + reach_of s) h (between.below i k)))

  far_behind : T (every (is_far s h) (later ws from to))
  far_behind = rw (every_mapped (is_far s h) standing_of (drop to ws)) (every_places far 0 (drop to ws) each)
    where
      each : (i : ℕ) → i < length (drop to ws) → T (far (get_or (drop to ws) i 0))
      each i l =
          let k : to + i < length ws = omega (arith, length-drop to ws) in
          let there : ℕ = strike_standing ws (to + i) in
          rw (get_or-drop to ws i 0)
          (or_right (ltb (there + reach_of s) h) (ltb (h + reach_of s) there)
          (lt→ltb (h + reach_of s) there (between.above (to + i) (omega arith) k)))

  words_spaced : (g : ℕ) → spacing_of s (map standing_of ws) g h ≡ spacing_of s (near ws from to) g h
  words_spaced g =
      ap (λ (standing : List Standing). spacing_of s standing g h) (sym (strikes_parted ws from to between.order))
      ∙ near_spaced s h (earlier ws from to) (near ws from to) (later ws from to) far_before far_behind g

  pub words_permitted : is_permitted_beside s (near ws from to) h ≡ is_permitted_beside s (map standing_of ws) h
  words_permitted =
      sym (near_permitted s h (earlier ws from to) (near ws from to) (later ws from to) far_before far_behind)
      ∙ ap (λ (standing : List Standing). is_permitted_beside s standing h) (strikes_parted ws from to between.order)

-- ---- strikes that rise

-- the strikes before the index k are below h and the others above it, and those from the index `from` to the index `to`
-- have the one before k and the one at k
pub record Nearest (h : ℕ) (ws : List ℕ) (k from to : ℕ) : Type 0 where
  pub rising : Rising (map (λ w. (standing_of w).strike) ws)
  pub within : k ≤ length ws
  pub under : (i : ℕ) → i < k → strike_standing ws i < h
  pub over : (i : ℕ) → k ≤ i → i < length ws → h < strike_standing ws i
  pub start : from ≤ k - 1
  pub stop : min (k + 1) (length ws) ≤ to

module _ (s : Setting) {h : ℕ} {ws : List ℕ} {k from to : ℕ} (n : Nearest h ws k from to) where
  -- the words that are lent
  abbrev lent : List ℕ
  lent = take (to - from) (drop from ws)

  order : from ≤ to
  order = omega (arith, n.start, n.stop, n.within)

  -- the strike at an index of the part that is lent is no nearer than the reach, where h clears the part
  reached : (g : ℕ) → T (spacing_of s (map standing_of lent) g h) → (i : ℕ) → from ≤ i → i < to → i < length ws →
      0 < apart h (strike_standing ws i) → reach_of s ≤ apart h (strike_standing ws i)
  reached g clear i l m j other =
      let at : ℕ = i - from in
      let sum : from + at ≡ i = omega arith in
      let less : at < to - from = omega arith in
      let here : get_or lent at 0 ≡ get_or ws i 0 =
      get_or-take (to - from) (drop from ws) at 0 less ∙ get_or-drop from ws at 0 ∙ ap (λ (n : ℕ). get_or ws n 0) sum in
      let each : T (every (λ w. clears s g h (standing_of w)) lent) =
      subst T (every_mapped (clears s g h) standing_of lent) clear in
      let inside : at < length lent = omega (arith, length-take (to - from) (drop from ws), length-drop from ws) in
      clears_apart s h g (standing_of (get_or ws i 0))
      (subst (λ (w : ℕ). T (clears s g h (standing_of w))) here
      (every_at (λ w. clears s g h (standing_of w)) 0 lent at inside each))
      other

  between : (g : ℕ) → T (spacing_of s (map standing_of lent) g h) → Between s h ws from to
  between g clear =
      record {
        order = order;
        below = λ i l.
            let last : ℕ = k - 1 in
            let a = n.under last (omega arith) in
            let b =
            rising_at (λ w. (standing_of w).strike) 0 ws n.rising i last (omega arith) (omega (arith, n.within)) in
            let before : last < to = omega (arith, n.within, n.stop) in
            omega (arith, reached g clear last n.start before (omega (arith, n.within)) (omega arith));
        above = λ i l m.
            let a = n.over k (omega arith) (omega arith) in
            let b = rising_at (λ w. (standing_of w).strike) 0 ws n.rising k i (omega arith) m in
            let after : from ≤ k = omega (arith, n.start) in
            omega (arith, reached g clear k after (omega (arith, n.stop)) (omega arith) (omega arith));
      }

  spaced : (g : ℕ) (b : Bool) → spacing_of s (map standing_of lent) g h ≡ b →
      spacing_of s (map standing_of ws) g h ≡ spacing_of s (map standing_of lent) g h
  spaced g true e = words_spaced (between g (true_T (spacing_of s (map standing_of lent) g h) e)) g
  spaced g false e =
      ap (λ (standing : List Standing). spacing_of s standing g h) (sym (strikes_parted ws from to order))
      ∙ every_failed (clears s g h) (earlier ws from to) (near ws from to) (later ws from to) e
      ∙ sym e

  -- a judgement beside these is one beside all
  pub nearest_judged : judgement s (map standing_of lent) h ≡ judgement s (map standing_of ws) h
  nearest_judged =
      sym
      (spaced_judged s h (map standing_of ws) (map standing_of lent)
      (λ g. spaced g (spacing_of s (map standing_of lent) g h) refl))
