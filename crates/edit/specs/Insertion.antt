-- Inner: new words put into a run. Assumes nothing.
use Rattle.std.specs.Prelude.{ℕ, ◌+◌, ◌-◌, ◌≤◌, List, ◌++◌, T, length, take, drop, set}
use Rattle.word.specs.Codec.{Head, packed}
use Rattle.book.specs.Books.{is_book}
use Rattle.book.specs.Layout.{used, facts_of}

-- the book ws has room for k more words, and `at` is not past the words that it uses
pub record HasRoom (k at : ℕ) (ws : List ℕ) : Type 0 where
  pub book : T (is_book ws)
  pub inside : at ≤ used (facts_of ws)
  pub room : used (facts_of ws) + k ≤ length ws

-- the book ws with `new` before the word at the index `at`, counted in its head
unfoldable pub insert_words : ℕ → List ℕ → List ℕ → List ℕ
insert_words at new ws =
    let f = facts_of ws in
    let end = used f + length new in
    set (take at ws ++ (new ++ (take (used f - at) (drop at ws) ++ drop end ws))) 0 (packed (Head f.now end))
