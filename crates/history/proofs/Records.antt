-- Every list of calls is read from its records, which fit words where its numbers do, so that the comparison of two
-- lists speaks of any two: by cases on the call, computed. Assumes nothing.
use Prim.Native.Nat.{ℕ}
use mathlib.Core.Path.{◌≡◌, refl, ap, ◌∙◌}
use mathlib.Core.Bool.{true}
use mathlib.Core.List.{List, [], ◌∷◌, ◌++◌}
use mathlib.Core.Logic.{◌↔◌}
use lib.ListN.{length}
use lib.Dec.{T}
use Rattle.logic.specs.Lists.{every}
use Rattle.book.specs.Calls.{Call, call_m, on, call_o, call_c, call_h, call_v, call_d, call_l, call_j, call_x, call_i, call_r, call_a, malformed, after}
use Rattle.book.specs.CallLists.{LentCall, calls_alone}
use Rattle.book.specs.Letters.{call_of}
use Rattle.book.specs.Points.{SameFacts}
use Rattle.logic.proofs.Tests.{ands}
use Rattle.logic.proofs.Parts.{every_append}
use Rattle.history.specs.declared.Comparison.{Comparison}
use Rattle.history.specs.declared.Comparison.TheVariants.{Equal}
use Rattle.history.specs.Records.{calls_of, record_of, records_of, is_word, fits_words}
use Rattle.history.specs.Comparisons.{are_lengths, Compared}

-- a record is read as its call, whatever words follow it, and fits words where the call's numbers do
record_sound :
    (x : Call) (room : ℕ)
    → let y : LentCall = record { call = x; room = room } in
    ((rest : List ℕ) → calls_of (record_of y ++ rest) ≡ y ∷ calls_of rest)
    × (T (fits_words y) → T (every is_word (record_of y)))
unfolding call_of calls_of
record_sound (call_m m) room = (λ rest. refl, λ t. t)
record_sound (on c call_o) room = (λ rest. refl, λ t. t)
record_sound (on c (call_c p)) room = (λ rest. refl, λ t. t)
record_sound (on c (call_h low high)) room = (λ rest. refl, λ t. t)
record_sound (on c (call_v n)) room = (λ rest. refl, λ t. t)
record_sound (on c (call_d p d)) room = (λ rest. refl, λ t. t)
record_sound (on c (call_l m h)) room = (λ rest. refl, λ t. t)
record_sound (on c (call_j m h)) room = (λ rest. refl, λ t. t)
record_sound (on c (call_x m h)) room = (λ rest. refl, λ t. t)
record_sound (on c (call_i m h a b)) room = (λ rest. refl, λ t. t)
record_sound (on c call_r) room = (λ rest. refl, λ t. t)
record_sound (on c (call_a m)) room = (λ rest. refl, λ t. t)
record_sound malformed room = (λ rest. refl, λ t. t)

pub records_read : (xs : List LentCall) → calls_of (records_of xs) ≡ xs
unfolding calls_of
records_read [] = refl
records_read (x ∷ xs) =
    (record_sound x.call x.room).0 (records_of xs) ∙ ap (λ (l : List LentCall). x ∷ l) (records_read xs)

pub records_fit : (xs : List LentCall) → T (every fits_words xs) → T (every is_word (records_of xs))
records_fit [] t = t
records_fit (x ∷ xs) t =
    every_append is_word (record_of x) (records_of xs) ((record_sound x.call x.room).1 (search ands))
    (records_fit xs (search ands))

-- ---- any two lists

-- what `compare_lists` answers to their records, which `records_fit` lets a caller lend
pub any_two_lists :
    {left right pool left' right' pool' : List ℕ} {r : Comparison} (xs ys : List LentCall)
    → are_lengths (length left) (length right) ≡ true
    → Compared left right pool (records_of xs) (records_of ys) r left' right' pool'
    → (r ≡ Equal) ↔ SameFacts (after (length left) (calls_alone xs)) (after (length left) (calls_alone ys))
any_two_lists xs ys are compared =
    rw (records_read xs, records_read ys) at (compared.accepted are).by_points
