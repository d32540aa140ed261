-- Well-formed facts are equal exactly when they agree point by point: two lists in a strict order are equal where every
-- place finds the same in both, for the series of a class and then for the classes. Assumes nothing.
use Prim.Native.Nat.{ℕ}
use mathlib.Core.Path.{◌≡◌, refl, sym, ap, ◌∙◌, subst}
use mathlib.Core.Bool.{Bool, true, false, cond, not, ◌||◌}
use mathlib.Core.List.{List, [], ◌∷◌}
use mathlib.Core.Logic.{◌⊎◌, inl, inr, ◌↔◌}
use native.Mathlib.Omega.{arith}
use lib.Dec.{T, eqb→eq}
use borrow.Author.Tests.{not-true}
use Rattle.logic.specs.Lists.{rises, every}
use Rattle.book.specs.Facts.{Series, OpenClass, Facts, number, class_of, precedes, is_below}
use Rattle.book.specs.Books.{is_well_formed}
use Rattle.book.specs.Points.{StrikeFact, absent, standing, ClassFact, not_open, opened, strike_at, class_at, SameFacts}
use Rattle.logic.proofs.Tests.{and_intro, ands, T_true, or_cases, nor_left, nor_right}
use Rattle.logic.proofs.Lists.{every_true, StrictOrder, ordered, before_every, rises_ordered}
use Rattle.book.proofs.Forms.{Well, well}
use Rattle.book.proofs.SeriesLaws.{is_with, series_order}
use Rattle.book.proofs.ClassLaws.{is_numbered, class_order, series_of}

-- a look into a list finds the value of the first element that has the place of k
record Lookup {A R : Type 0} (same : A → A → Bool) (none : R) (value : A → R) (look : A → List A → R) : Type 0 where
  nowhere : (k : A) → look k [] ≡ none
  onward : (k x : A) (xs : List A) → look k (x ∷ xs) ≡ cond (same k x) (value x) (look k xs)
  something : (x : A) → none ≡ value x → ⊥
  injective : (x y : A) → T (same x y) → value x ≡ value y → x ≡ y

module _
    {A R : Type 0} (same before : A → A → Bool) (order : StrictOrder same before) (none : R) (value : A → R)
    (look : A → List A → R) (lookup : Lookup same none value look) where
  look_here : (k x : A) (xs : List A) → T (same k x) → look k (x ∷ xs) ≡ value x
  look_here k x xs s = lookup.onward k x xs ∙ rw (T_true (same k x) s)

  look_past : (k x : A) (xs : List A) → T (not (same k x)) → look k (x ∷ xs) ≡ look k xs
  look_past k x xs n = lookup.onward k x xs ∙ rw (not-true (same k x) (T_true (not (same k x)) n))

  look_before : (k : A) (xs : List A) → T (every (before k) xs) → look k xs ≡ none
  look_before k [] t = lookup.nowhere k
  look_before k (x ∷ xs) t =
      look_past k x xs (nor_left (same k x) (same x k) (order.apart k x (search ands)))
      ∙ look_before k xs (search ands)

  -- where p holds of all elements and of what comes after, and each such place finds the same in both lists
  equal_lists :
      (p : A → Bool) → ((x k : A) → T (before x k) → T (p x) → T (p k)) → (xs ys : List A) → T (every p xs)
      → T (every p ys) → T (ordered before xs) → T (ordered before ys) → ((k : A) → T (p k) → look k xs ≡ look k ys)
      → xs ≡ ys
  equal_lists p up [] [] px py ox oy e = refl
  equal_lists p up [] (y ∷ ys) px py ox oy e =
      absurd (lookup.something y (sym (lookup.nowhere y) ∙ e y (search ands) ∙ look_here y y ys (order.reflexive y)))
  equal_lists p up (x ∷ xs) [] px py ox oy e =
      absurd (lookup.something x
      (sym (lookup.nowhere x) ∙ sym (e x (search ands)) ∙ look_here x x xs (order.reflexive x)))
  equal_lists p up (x ∷ xs) (y ∷ ys) px py ox oy e =
      go (or_cases (same x y) (before x y || before y x) (order.total x y))
      (λ q r.
      equal_lists (before x) (λ y k b c. order.transitive x y k c b) xs ys (search ands) q (search ands) (search ands)
      r)
    where
      found_x : look x (y ∷ ys) ≡ value x
      found_x = sym (e x (search ands)) ∙ look_here x x xs (order.reflexive x)

      found_y : look y (x ∷ xs) ≡ value y
      found_y = e y (search ands) ∙ look_here y y ys (order.reflexive y)

      apart : T (before x y || before y x) → ⊥
      apart t = elim (or_cases (before x y) (before y x) t) [
        | inl b ↦
            let a : T (every (before x) ys) = before_every same before order x y ys b (search ands) in
            lookup.something x (sym (look_before x (y ∷ ys) (search and_intro)) ∙ found_x)
        | inr b ↦
            let a : T (every (before y) xs) = before_every same before order y x xs b (search ands) in
            lookup.something y (sym (look_before y (x ∷ xs) (search and_intro)) ∙ found_y)
      ]

      go :
          T (same x y) ⊎ T (before x y || before y x)
          → (T (every (before x) ys) → ((k : A) → T (before x k) → look k xs ≡ look k ys) → xs ≡ ys) → x ∷ xs ≡ y ∷ ys
      go (inr t) rest = absurd (apart t)
      go (inl s) rest =
          let xy : x ≡ y = lookup.injective x y s (sym found_x ∙ look_here x y ys s) in
          let t : xs ≡ ys =
          rest (subst (λ (z : A). T (every (before z) ys)) (sym xy) (search ands)) (λ k b. past xy k b) in
          cc
        where
          past : x ≡ y → (k : A) → T (before x k) → look k xs ≡ look k ys
          past xy k b =
              sym (look_past k x xs (nor_right (same x k) (same k x) (order.apart x k b)))
              ∙ e k (up x k b (search ands))
              ∙ look_past k y ys (nor_right (same y k) (same k y)
              (order.apart y k (subst (λ (z : A). T (before z k)) xy b)))

  equal_rising :
      (xs ys : List A) → T (rises before xs) → T (rises before ys) → ((k : A) → look k xs ≡ look k ys) → xs ≡ ys
  equal_rising xs ys rx ry e =
      equal_lists (λ k. true) (λ x k b t. tt) xs ys (every_true xs) (every_true ys)
      (rises_ordered same before order xs rx) (rises_ordered same before order ys ry) (λ k t. e k)

-- ---- the series of a class

abbrev strike_fact : Series → StrikeFact
strike_fact s = standing s.on_ground s.put s.call

abbrev strike_found : Series → List Series → StrikeFact
strike_found k ss = strike_at k.month k.strike ss

series_lookup : Lookup is_with absent strike_fact strike_found
series_lookup = record {
  nowhere = λ k. refl;
  onward = λ k s ss. refl;
  something = λ s e. let z : ◌≡◌ {A = ℕ} 0 1 = cc in omega arith;
  injective = λ s t w e.
      let month : s.month ≡ t.month = sym (eqb→eq t.month s.month (search ands)) in
      let strike : s.strike ≡ t.strike = sym (eqb→eq t.strike s.strike (search ands)) in
      let on_ground : s.on_ground ≡ t.on_ground = cc in
      let put : s.put ≡ t.put = cc in
      let call : s.call ≡ t.call = cc in
      λ i. record { month = month i; strike = strike i; on_ground = on_ground i; put = put i; call = call i };
}

-- ---- the classes

-- what is open under a class number, and its series
record ClassWithSeries : Type 0 where
  fact : ClassFact
  series : List Series

abbrev no_class : ClassWithSeries
no_class = record { fact = not_open; series = [] }

abbrev class_fact : OpenClass → ClassWithSeries
class_fact x = record { fact = opened x.figures; series = x.series }

abbrev class_found : OpenClass → List OpenClass → ClassWithSeries
class_found k xs = record { fact = class_at (number k) xs; series = (class_of (number k) xs).series }

class_lookup : Lookup is_numbered no_class class_fact class_found
class_lookup = record {
  nowhere = λ k. refl;
  onward = λ k x xs. go k x xs (is_numbered k x);
  something = λ x c.
      let d : not_open ≡ opened x.figures = ap (λ (r : ClassWithSeries). r.fact) c in
      let z : ◌≡◌ {A = ℕ} 0 1 = cc in
      omega arith;
  injective = λ x y s c.
      let d : opened x.figures ≡ opened y.figures = ap (λ (r : ClassWithSeries). r.fact) c in
      let figures : x.figures ≡ y.figures = cc in
      let series : x.series ≡ y.series = ap (λ (r : ClassWithSeries). r.series) c in
      λ i. record { figures = figures i; series = series i };
}
  where
    go : (k x : OpenClass) (xs : List OpenClass) (b : Bool)
        → ◌≡◌ {A = ClassWithSeries}
        (record {
          fact = cond b (opened x.figures) (class_at (number k) xs);
          series = (cond b x (class_of (number k) xs)).series;
        })
        (cond b (class_fact x) (class_found k xs))
    go k x xs true = refl
    go k x xs false = refl

pub same_facts : (n n' : ℕ) (f g : Facts) → T (is_well_formed n f) → T (is_well_formed n' g) → (f ≡ g) ↔ SameFacts f g
same_facts n n' f g t u = (points, whole)
  where
    v : Well n f
    v = well n f t

    w : Well n' g
    w = well n' g u

    points : f ≡ g → SameFacts f g
    points e = record {
      now = ap (λ (x : Facts). x.now) e;
      classes = λ c. ap (λ (x : Facts). class_at c x.classes) e;
      strikes = λ c m h. ap (λ (x : Facts). strike_at m h (class_of c x.classes).series) e;
    }

    whole : SameFacts f g → f ≡ g
    whole s =
        let now : f.now ≡ g.now = s.now in
        let classes : f.classes ≡ g.classes =
        equal_rising is_numbered is_below class_order no_class class_fact class_found class_lookup
        f.classes g.classes v.order w.order
        (λ k. let fact = s.classes (number k) in let same = series (number k) in λ i.
        record { fact = fact i; series = same i }) in
        λ i. record { now = now i; classes = classes i }
      where
        series : (c : ℕ) → (class_of c f.classes).series ≡ (class_of c g.classes).series
        series c =
            let a = series_of f.now c f.classes v.limits in
            let b = series_of g.now c g.classes w.limits in
            equal_rising is_with precedes series_order absent strike_fact strike_found series_lookup
            (class_of c f.classes).series (class_of c g.classes).series (search ands) (search ands)
            (λ k. s.strikes c k.month k.strike)
