-- A strike stands in the words that a whole list of calls leaves exactly when some `L` of the list added it and no
-- later call removed it: the words are the layout of the facts after the list. Assumes nothing.
use Prim.Native.Nat.{ℕ}
use mathlib.Core.Path.{◌≡◌, ap, ◌∙◌}
use mathlib.Core.List.{List}
use mathlib.Core.Logic.{◌↔◌}
use lib.Dec.{T}
use Rattle.word.specs.Limits.{is_length}
use Rattle.book.specs.Layout.{facts_of}
use Rattle.book.specs.Calls.{Call, after}
use Rattle.book.specs.Added.{stands_on, Added}
use Rattle.book.proofs.Layouts.{facts_of_layout}
use Rattle.book.proofs.Keep.{after_well_formed}
use Rattle.book.proofs.Added.{stands_exactly}
use Rattle.history.specs.Turns.{Whole}
use Rattle.history.proofs.WholeLists.{whole_words}

pub strike_stands_exactly :
    {n : ℕ} {xs : List Call} {w : List ℕ} (g c m h : ℕ) → T (is_length n) → Whole n xs w
    → T (stands_on g c m h (facts_of w)) ↔ Added n xs g c m h
strike_stands_exactly {n} {xs} {w} g c m h long whole =
    let good = after_well_formed n xs long in
    let facts : facts_of w ≡ after n xs = ap facts_of (whole_words long whole) ∙ facts_of_layout n (after n xs) good in
    rw facts (stands_exactly xs g c m h long)
