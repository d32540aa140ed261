-- A gap inside of a list is closed: what follows it moves to its front, and as many zeros come behind that. On the
-- list's parts. Assumes nothing.
use Prim.Native.Nat.{ℕ}
use mathlib.Core.Path.{◌≡◌, ap, ◌∙◌}
use mathlib.Core.List.{List, ◌++◌, append_assoc}
use lib.ListN.{length, replicate}
use lib.Seq.{drop_at}
use borrow.Rule.Slice.PartMut.{mid_of, put_mid}
use Rattle.logic.proofs.Slices.{part_is, put_part}
use Rattle.gap.specs.Gaps.{closed}

-- a gap b of k words at the index `at`, and c after it, `long` words together
module _
    (a b c d : List ℕ) (at long k : ℕ) (place : length a ≡ at) (size : length (b ++ c) ≡ long) (gap : length b ≡ k)
  where
    abbrev whole : List ℕ
    whole = a ++ ((b ++ c) ++ d)

    pub closed_inside : put_mid at long whole (closed k (mid_of at long whole)) ≡ a ++ (c ++ (replicate k 0 ++ d))
    closed_inside =
        ap (put_mid at long whole)
        (ap (closed k) (part_is a (b ++ c) d at long place size)
        ∙ ap (λ (l : List ℕ). l ++ replicate k 0) (drop_at b c k gap))
        ∙ put_part a (b ++ c) d at long place size (c ++ replicate k 0)
        ∙ ap (λ (l : List ℕ). a ++ l) (append_assoc c (replicate k 0) d)
