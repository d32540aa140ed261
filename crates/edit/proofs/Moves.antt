-- New words put before those of a part that was lent: the part back in its place, by the parts of the run. Assumes
-- nothing.
use Prim.Native.Nat.{ℕ, ◌+◌, ◌-◌, ◌≤◌}
use mathlib.Core.Path.{◌≡◌, ap, ◌∙◌}
use mathlib.Core.List.{List, ◌++◌, append_assoc}
use native.Mathlib.Omega.{arith}
use lib.ListN.{length, set, take, drop}
use lib.Seq.{take-take}
use borrow.Rule.Slice.PartMut.{mid_of, put_mid, Post-is, mid_len}
use Rattle.word.specs.Codec.{Head, packed}
use Rattle.book.specs.Layout.{used, facts_of}
use Rattle.edit.specs.Insertion.{insert_words}

-- k new words in the part from `at` to k words past the count, and the head that counts them
pub pushed_between :
    (ws new part : List ℕ) (at count k month total : ℕ) → count ≡ used (facts_of ws) → month ≡ (facts_of ws).now
    → length new ≡ k
    → at ≤ count → count + k ≤ length ws → total ≡ count + k
    → (let mid = mid_of at (count + k - at) ws in part ≡ new ++ take (length mid - k) mid)
    → set (put_mid at (count + k - at) ws part) 0 (packed (Head month total)) ≡ insert_words at new ws
unfolding insert_words
pushed_between ws new part at count k month total all now e inside room counted moved =
    (λ i.
    set (take at ws ++ (put i ++ Post-is at (count + k) ws (omega arith) i)) 0
    (packed (Head (now i) (counted i))))
    ∙ ap (λ (l : List ℕ). set (take at ws ++ l) 0 (head_of (count + k)))
    (append_assoc new (take (count - at) (drop at ws)) (drop (count + k) ws))
    ∙ (λ i. set (take at ws ++ (new ++ (take (all i - at) (drop at ws) ++ drop (end i) ws))) 0 (head_of (end i)))
  where
    head_of : ℕ → ℕ
    head_of = λ n. packed (Head (facts_of ws).now n)

    end : count + k ≡ used (facts_of ws) + length new
    end = omega arith

    put : part ≡ new ++ take (count - at) (drop at ws)
    put =
        let mid = mid_of at (count + k - at) ws in
        let kept : length mid - k ≡ count - at = omega (arith, mid_len at (count + k) ws room) in
        moved
        ∙ ap (λ (n : ℕ). new ++ take n mid) kept
        ∙ ap (λ (l : List ℕ). new ++ l) (take-take (count - at) (count + k - at) (drop at ws) (omega arith))
