-- What a deed to one class leaves of the views: another class's is unchanged, and the class's own follows from what it
-- was; by cases on the deeds and by induction on the classes. Assumes nothing.
use Prim.Native.Nat.{ℕ}
use mathlib.Core.Path.{◌≡◌, refl, sym, ap, ◌∙◌}
use mathlib.Core.Bool.{Bool, true, false, cond, ◌||◌}
use mathlib.Core.List.{List, [], ◌∷◌, ◌++◌}
use lib.Dec.{T, eqb, ltb}
use borrow.Author.Tests.{eqb-true, ne_eqb, eq-eqb}
use Rattle.logic.specs.Lists.{some}
use Rattle.book.specs.Facts.{OpenClass, Facts, number, new_class, is_class_open, class_of, put_class, insert_class, is_below}
use Rattle.book.specs.Views.{View, class, view_of}
use Rattle.book.specs.Changes.{Deed, month_becomes, opens, becomes, grows, designates, writes, nothing, update, designation_set, class_opened, class_grown, facts_after}
use Rattle.book.specs.Calls.{ClassCall, on, Condition, draws, none_applies, Effect, effect_on, needing, is_granted}
use Rattle.logic.proofs.Tests.{ands}
use Rattle.logic.proofs.Lists.{some_map, some_inserted}
use Rattle.book.proofs.ClassLaws.{number_of, numbers_put, class_of_inserted}
use Rattle.book.proofs.Order.{Sound, effect_sound}

-- ---- a class put in its place, and a new class, seen from any number

open_put : (y : OpenClass) (e : ℕ) (xs : List OpenClass) → is_class_open e (put_class y xs) ≡ is_class_open e xs
open_put y e xs =
    sym (some_map (λ k. eqb k e) (λ x. eqb (number x) e) number (λ x. refl) (put_class y xs))
    ∙ ap (some (λ k. eqb k e)) (numbers_put y xs)
    ∙ some_map (λ k. eqb k e) (λ x. eqb (number x) e) number (λ x. refl) xs

class_put_other :
    (y : OpenClass) (e : ℕ) → eqb (number y) e ≡ false → (xs : List OpenClass)
    → class_of e (put_class y xs) ≡ class_of e xs
class_put_other y e other [] = refl
class_put_other y e other (x ∷ xs) = go (eqb (number x) (number y)) refl (class_put_other y e other xs)
  where
    go : (b : Bool) → eqb (number x) (number y) ≡ b → class_of e (put_class y xs) ≡ class_of e xs
        → class_of e (cond b (y ∷ xs) (x ∷ put_class y xs)) ≡ class_of e (x ∷ xs)
    go true q r = rw (eqb-true (number x) (number y) q, other)
    go false q r = ap (cond (eqb (number x) e) x) r

class_put_here :
    (y : OpenClass) (xs : List OpenClass)
    → class_of (number y) (put_class y xs) ≡ cond (is_class_open (number y) xs) y (class_of (number y) xs)
class_put_here y [] = refl
class_put_here y (x ∷ xs) = go (eqb (number x) (number y)) refl (class_put_here y xs)
  where
    go : (b : Bool) → eqb (number x) (number y) ≡ b
        → class_of (number y) (put_class y xs) ≡ cond (is_class_open (number y) xs) y (class_of (number y) xs)
        → class_of (number y) (cond b (y ∷ xs) (x ∷ put_class y xs))
        ≡ cond (b || is_class_open (number y) xs) y (cond b x (class_of (number y) xs))
    go true q r = rw (eq-eqb (number y) (number y) refl)
    go false q r = rw q r

class_inserted_other :
    (c e : ℕ) → eqb c e ≡ false → (xs : List OpenClass) → class_of e (insert_class (new_class c) xs) ≡ class_of e xs
class_inserted_other c e other [] = rw other
class_inserted_other c e other (x ∷ xs) = go (ltb c (number x)) (class_inserted_other c e other xs)
  where
    go : (b : Bool) → class_of e (insert_class (new_class c) xs) ≡ class_of e xs
        → class_of e (cond b (new_class c ∷ x ∷ xs) (x ∷ insert_class (new_class c) xs)) ≡ class_of e (x ∷ xs)
    go true r = rw other
    go false r = ap (cond (eqb (number x) e) x) r

-- ---- views after a deed

put_elsewhere : (y : OpenClass) (e : ℕ) (f : Facts) → (number y ≡ e → ⊥) → view_of e (update y f) ≡ view_of e f
put_elsewhere y e f apart =
    let there = open_put y e f.classes in
    let same = class_put_other y e (ne_eqb (number y) e apart) f.classes in
    λ i. record { now = f.now; is_there = there i; class = same i }

-- the class y in its place, where it is open
abbrev pub view_with : OpenClass → View → View
view_with y v = record { now = v.now; is_there = v.is_there; class = cond v.is_there y v.class }

put_here : (c : ℕ) (y : OpenClass) (f : Facts) → number y ≡ c → view_of c (update y f) ≡ view_with y (view_of c f)
put_here c y f e =
    let there = open_put y c f.classes in
    let same : class_of c (put_class y f.classes) ≡ cond (is_class_open c f.classes) y (class_of c f.classes) =
    rw (sym e) (class_put_here y f.classes) in
    λ i. record { now = f.now; is_there = there i; class = same i }

-- what the class's own view becomes
abbrev pub view_after : Deed → View → View
view_after (month_becomes m) v = v
view_after opens v = record { now = v.now; is_there = true; class = v.class }
view_after (becomes y) v = view_with y v
view_after (grows y) v = view_with y v
view_after (designates p d) v = view_with (designation_set p d v.class) v
view_after (writes ws) v = v
view_after nothing v = v

module _ (c : ℕ) (f : Facts) where
  abbrev numbered : number (class f c) ≡ c
  numbered = number_of c f.classes

  module _ (asks : List Condition) where
    -- the view of another class
    pub deed_elsewhere :
        (deed : Deed) → Sound (view_of c f) asks deed → (e : ℕ) → (c ≡ e → ⊥)
        → view_of e (facts_after c deed f) ≡ view_of e f
    unfolding class_opened class_grown
    deed_elsewhere (month_becomes m) s e apart = absurd s
    deed_elsewhere opens s e apart =
        let other = ne_eqb c e apart in
        let there : is_class_open e (insert_class (new_class c) f.classes) ≡ is_class_open e f.classes =
        some_inserted is_below (λ y. eqb (number y) e) (new_class c) f.classes ∙ rw other in
        let same = class_inserted_other c e other f.classes in
        λ i. record { now = f.now; is_there = there i; class = same i }
    deed_elsewhere (becomes y) s e apart = put_elsewhere y e f (λ q. apart (sym (s ∙ numbered) ∙ q))
    deed_elsewhere (grows y) s e apart = put_elsewhere y e f (λ q. apart (sym (s ∙ numbered) ∙ q))
    deed_elsewhere (designates p d) s e apart =
        put_elsewhere (designation_set p d (class f c)) e f (λ q. apart (sym numbered ∙ q))
    deed_elsewhere (writes ws) s e apart = refl
    deed_elsewhere nothing s e apart = refl

    -- the class's own
    pub deed_here :
        (deed : Deed) → Sound (view_of c f) asks deed → T (none_applies asks)
        → view_of c (facts_after c deed f) ≡ view_after deed (view_of c f)
    unfolding class_opened class_grown
    deed_here (month_becomes m) s t = absurd s
    deed_here opens s t =
        let there : is_class_open c (insert_class (new_class c) f.classes) ≡ true =
        some_inserted is_below (λ y. eqb (number y) c) (new_class c) f.classes ∙ rw (eq-eqb c c refl) in
        let same = class_of_inserted c c f.classes (s t) in
        λ i. record { now = f.now; is_there = there i; class = same i }
    deed_here (becomes y) s t = put_here c y f (s ∙ numbered)
    deed_here (grows y) s t = put_here c y f (s ∙ numbered)
    deed_here (designates p d) s t = put_here c (designation_set p d (class f c)) f numbered
    deed_here (writes ws) s t = refl
    deed_here nothing s t = refl

-- ---- views after a call that is accepted

-- conditions none of which applies, with others after them
none_front : (cs ds : List Condition) → T (none_applies (cs ++ ds)) → T (none_applies cs)
none_front [] ds t = tt
none_front (draws why true ∷ cs) ds t = t
none_front (draws why false ∷ cs) ds t = none_front cs ds t

module _ (n c : ℕ) (x : ClassCall) (f : Facts) where
  abbrev pub effect_here : Effect
  effect_here = effect_on c x (view_of c f)

  pub sound : Sound (view_of c f) effect_here.asks effect_here.does
  sound = (effect_sound n 0 c x f).1

  pub call_elsewhere : (e : ℕ) → (c ≡ e → ⊥) → view_of e (facts_after c effect_here.does f) ≡ view_of e f
  call_elsewhere = deed_elsewhere c f effect_here.asks effect_here.does sound

  pub call_here :
      T (is_granted n (on c x) f)
      → view_of c (facts_after c effect_here.does f) ≡ view_after effect_here.does (view_of c f)
  call_here t =
      deed_here c f effect_here.asks effect_here.does sound
      (none_front effect_here.asks (needing n c effect_here.does f) (search ands))
