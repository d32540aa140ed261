-- How an answer keeps a call's contract: one law for each way out, over any call. Assumes nothing.
use Prim.Native.Nat.{ℕ}
use mathlib.Core.Path.{◌≡◌, refl, sym, ap, ◌∙◌}
use mathlib.Core.Bool.{Bool, true, false, cond, not}
use mathlib.Core.List.{List, [], ◌∷◌}
use lib.ListN.{length}
use lib.Dec.{T}
use Rattle.std.specs.Prelude.{Err}
use Rattle.word.specs.Answers.{Answer}
use Rattle.word.specs.declared.answer.Refusal.TheVariants.{NotABook, BeyondLimits, NotOpen}
use Rattle.word.specs.Answers.{is_accepted}
use Rattle.book.specs.Layout.{layout, facts_of}
use Rattle.book.specs.Books.{is_book}
use Rattle.book.specs.Views.{view_of, is_not_open}
use Rattle.book.specs.Changes.{list_of}
use Rattle.book.specs.Calls.{ClassCall, Call, on, Condition, draws, effect_on, effect, answer_to, written, step, accepted_facts}
use Rattle.book.specs.Made.{over, Made}
use Rattle.logic.proofs.Tests.{T_true}
use Rattle.book.proofs.Order.{accepted_granted, any_room, refused_unchanged}
use Rattle.book.proofs.Layouts.{book_facts}

-- over a run that is no book
pub made_no_book : (x : Call) (w v : List ℕ) → is_book w ≡ false → Made x w v (Err NotABook) w v
made_no_book x w v e = record { answer = rw e; words = rw e; second = rw e }

module _ (x : Call) (w v : List ℕ) (book : T (is_book w)) where
  is : is_book w ≡ true
  is = T_true (is_book w) book

  -- refused: nothing changes
  pub made_refused :
      (r : Answer) → is_accepted r ≡ false → answer_to (length w) (length v) x (facts_of w) ≡ r → Made x w v r w v
  made_refused r is-refused e =
      let same = refused_unchanged (length w) (length v) x (facts_of w) (ap is_accepted e ∙ is-refused) in
      record {
        answer = rw (is, e);
        words = rw (is, same.0) (sym (book_facts w book).1);
        second = rw (is, same.1);
      }

  -- "2 a number beyond its limits", before all else
  pub made_beyond : not (effect x (facts_of w)).limits ≡ true → Made x w v (Err BeyondLimits) w v
  unfolding answer_to
  made_beyond beyond = made_refused (Err BeyondLimits) refl (rw beyond)

  -- accepted: the facts change as the call's line says, and its words are written
  pub made_accepted :
      (r : Answer) (w' : List ℕ) → is_accepted r ≡ true → answer_to (length w) (length v) x (facts_of w) ≡ r
      → w' ≡ layout (length w) (accepted_facts x (facts_of w))
      → Made x w v r w' (over (list_of (effect x (facts_of w)).does) v)
  unfolding step written
  made_accepted r w' is-accepted e words =
      let granted = accepted_granted (length w) (length v) x (facts_of w) (ap is_accepted e ∙ is-accepted) in
      record {
        answer = rw (is, e);
        words = rw (is, granted) words;
        second = rw (is, e, is-accepted);
      }

  -- a call that writes nothing leaves any second run as it is
  pub made_anyhow :
      {r : Answer} {w' : List ℕ} → list_of (effect x (facts_of w)).does ≡ [] → Made x w [] r w' [] → Made x w v r w' v
  unfolding written
  made_anyhow none m =
      record {
        answer = m.answer ∙ ap (λ (a : Answer). cond (is_book w) a (Err NotABook)) (sym same);
        words = m.words;
        second = rw (is, none) (unwritten (is_accepted (answer_to (length w) (length v) x (facts_of w))));
      }
    where
      same : answer_to (length w) (length v) x (facts_of w) ≡ answer_to (length w) 0 x (facts_of w)
      same = any_room (length w) (length v) x (facts_of w) none

      unwritten : (b : Bool) → v ≡ over (cond b [] []) v
      unwritten true = refl
      unwritten false = refl

-- then "4 class not open", of any call on a class that asks it first
pub made_not_open :
    (c : ℕ) (x : ClassCall) (w v : List ℕ) → T (is_book w) → (rest : List Condition)
    → (effect_on c x (view_of c (facts_of w))).asks ≡ draws NotOpen (is_not_open (view_of c (facts_of w))) ∷ rest
    → not (effect_on c x (view_of c (facts_of w))).limits ≡ false → is_not_open (view_of c (facts_of w)) ≡ true
    → Made (on c x) w v (Err NotOpen) w v
unfolding answer_to
made_not_open c x w v book rest asks within closed =
    made_refused (on c x) w v book (Err NotOpen) refl (rw (within, asks, closed))
