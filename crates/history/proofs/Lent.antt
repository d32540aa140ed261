-- A call that is lent the front of a pool leaves the rest of it, since what it writes fits its room. Assumes nothing.
use Prim.Native.Nat.{ℕ, ◌≤◌}
use mathlib.Core.Path.{◌≡◌, sym, ap, ◌∙◌}
use mathlib.Core.List.{List, ◌++◌, append_assoc}
use native.Mathlib.Omega.{arith}
use lib.ListN.{length, take, drop, length-take, take-append-drop}
use lib.Seq.{drop-append-le}
use lib.Dec.{T}
use Rattle.word.specs.Answers.{Answer}
use Rattle.book.specs.Layout.{facts_of}
use Rattle.book.specs.Books.{is_book}
use Rattle.book.specs.Calls.{written}
use Rattle.book.specs.Made.{over, Made}
use Rattle.book.specs.CallLists.{LentCall}
use Rattle.logic.proofs.Tests.{T_true}
use Rattle.book.proofs.Order.{written_fits}
use Rattle.history.specs.ExecutedLists.{lent_within, Lent}

-- the front written over, and then the rest, is the pool written over
over_front :
    (s pool : List ℕ) (k : ℕ) → length s ≤ k → k ≤ length pool
    → over s (take k pool) ++ drop k pool ≡ over s pool
over_front s pool k fits inside =
    let front : length s ≤ length (take k pool) = simp length-take (omega arith) in
    append_assoc s (drop (length s) (take k pool)) (drop k pool)
    ∙ ap (λ (l : List ℕ). s ++ l)
    (sym (drop-append-le (length s) (take k pool) (drop k pool) front) ∙ ap (drop (length s)) (take-append-drop k pool))

-- made with the first k words of the pool, as many as it asks for or all
pub lent_front :
    {w pool w' v' : List ℕ} {r : Answer} (x : LentCall) (k : ℕ) → k ≡ (lent_within (length pool) x).room → T (is_book w)
    → Made x.call w (take k pool) r w' v' → Lent x w pool r w' (v' ++ drop k pool)
lent_front {w} {pool} x k e book m =
    let is = T_true (is_book w) book in
    let room = (lent_within (length pool) x).room in
    let long : length (take k pool) ≡ room = simp length-take (omega arith) in
    let s = written (length w) room x.call (facts_of w) in
    let fits : length s ≤ k = omega (arith, e, written_fits (length w) room x.call (facts_of w)) in
    record {
      answer = rw (is, long) at m.answer;
      words = rw is at m.words;
      second =
          ap (λ (l : List ℕ). l ++ drop k pool) (rw (is, long) at m.second) ∙ over_front s pool k fits (omega arith);
    }
