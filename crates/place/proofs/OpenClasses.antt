-- Of a class that was looked for: where it is open its words begin there; where it is not, a call on it that asks that
-- first draws 4. Assumes nothing.
use Rattle.std.proofs.Common.{◌≡◌, ℕ, false, not, T, List, ◌∷◌, ap, Err}
use Rattle.word.specs.declared.class.ClassRecord.{ClassRecord}
use Rattle.word.specs.declared.answer.Refusal.{Refusal}
use Rattle.word.specs.declared.answer.Refusal.TheVariants.{NotOpen}
use Rattle.book.specs.Layout.{facts_of}
use Rattle.book.specs.Books.{is_book}
use Rattle.book.specs.Views.{view_of, is_not_open}
use Rattle.book.specs.Calls.{ClassCall, Condition, draws, effect_on, on}
use Rattle.book.specs.Places.{ClassBegins}
use Rattle.book.specs.Made.{Made}
use Rattle.book.proofs.Answered.{made_not_open}
use Rattle.place.specs.Lookups.{ClassAbsent, ClassFound}

-- the words of an open class begin at its place
abbrev pub begun : {w : List ℕ} {c at : ℕ} {r : ClassRecord} → ClassFound w c at r → ClassBegins (facts_of w) at
begun {c = c} found = record { number = c; is_open = found.is_open; place = found.place }

pub made_absent :
    (c : ℕ) (x : ClassCall) (w v : List ℕ) → T (is_book w) → (rest : List Condition)
    → (effect_on c x (view_of c (facts_of w))).asks ≡ draws NotOpen (is_not_open (view_of c (facts_of w))) ∷ rest
    → not (effect_on c x (view_of c (facts_of w))).limits ≡ false → (why : Refusal) → ClassAbsent (facts_of w) c why
    → Made (on c x) w v (Err why) w v
made_absent c x w v book rest asks within why absent =
    rw absent.refusal (made_not_open c x w v book rest asks within (ap not absent.closed))
