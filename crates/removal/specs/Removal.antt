-- Inner: words taken out of a run. Assumes nothing.
use Rattle.std.specs.Prelude.{ℕ, ◌+◌, ◌-◌, ◌≤◌, List, ◌++◌, T, length, take, drop, set}
use Rattle.gap.specs.Gaps.{closed}
use Rattle.word.specs.Codec.{Head, packed}
use Rattle.book.specs.Books.{is_book}
use Rattle.book.specs.Layout.{used, facts_of}

-- the book ws uses k words from `at` on, of those that it has
pub record Removable (k at : ℕ) (ws : List ℕ) : Type 0 where
  pub book : T (is_book ws)
  pub inside : at + k ≤ used (facts_of ws)
  pub room : used (facts_of ws) ≤ length ws

-- the book ws without k words from the index `at` on, which its head no longer counts
unfoldable pub remove_words : ℕ → ℕ → List ℕ → List ℕ
remove_words k at ws =
    let f = facts_of ws in
    let end = used f in
    set (take at ws ++ (closed k (take (end - at) (drop at ws)) ++ drop end ws)) 0 (packed (Head f.now (end - k)))
