-- Words are all zero exactly where their bits joined are. Assumes nothing.
use Rattle.std.proofs.Common.{ℕ, zero, suc, ◌+◌, ◌*◌, zero-mul, arith, ◌&&◌, eqb, List, [], ◌∷◌, bit_or, drop, take, fold, ◌≡◌, sym, ap, ◌∙◌}
use lib.ListN.{take-append-drop}
use lib.Seq.{drop-drop}
use Rattle.std.specs.Simd.{first_chunks}
use Rattle.std.proofs.lemmas.List.Sums.{fold-append}
use Rattle.logic.specs.Lists.{every}
use Rattle.scan.specs.Stretches.{is_zero}
use Rattle.scan.proofs.Zeros.{zeros_more, zeros_done}

-- block by block, and then what is left
blocks_joined :
    (n k all : ℕ) (ws : List ℕ)
    → fold bit_or (fold (fold bit_or) all (first_chunks n k ws)) (drop (k * n) ws) ≡ fold bit_or all ws
blocks_joined n zero all ws = ap (λ (i : ℕ). fold bit_or all (drop i ws)) (zero-mul n)
blocks_joined n (suc k) all ws =
    let past : suc k * n ≡ n + k * n = omega arith in
    rw (past, ← drop-drop (k * n) n ws) (blocks_joined n k (fold bit_or all (take n ws)) (drop n ws))
    ∙ sym (fold-append bit_or all (take n ws) (drop n ws))
    ∙ ap (fold bit_or all) (take-append-drop n ws)

-- the bits are zero exactly where all words are
joined_zero : (all : ℕ) (ws : List ℕ) → eqb (fold bit_or all ws) 0 ≡ (eqb all 0 && every is_zero ws)
joined_zero all [] = sym (zeros_done all 0 [] (omega arith))
joined_zero all (w ∷ ws) = joined_zero (bit_or all w) ws ∙ sym (zeros_more all 0 (w ∷ ws) (omega arith))

pub blocks_zero :
    (n k : ℕ) (ws : List ℕ)
    → eqb (fold bit_or (fold (fold bit_or) 0 (first_chunks n k ws)) (drop (k * n) ws)) 0 ≡ every is_zero ws
blocks_zero n k ws = ap (λ (bits : ℕ). eqb bits 0) (blocks_joined n k 0 ws) ∙ joined_zero 0 ws
