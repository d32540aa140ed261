-- A book is the layout of its facts, and its head says the current month and the words used: by the fields of a head
-- word. Assumes nothing.
use Prim.Native.Nat.{ℕ, ◌≤◌}
use mathlib.Core.Path.{◌≡◌, refl, sym}
use mathlib.Core.List.{List, [], ◌++◌}
use native.Mathlib.Omega.{arith}
use lib.ListN.{length, get_or}
use lib.Dec.{T, leb→le}
use Rattle.word.specs.Limits.{last_month, longest_run}
use Rattle.word.specs.Head.{first_place, month_in, used_in}
use Rattle.word.specs.Codec.{Head, packed}
use Rattle.word.proofs.Words.{head_fields}
use Rattle.book.specs.Layout.{used, head_words, layout, facts_of, classes_words}
use Rattle.book.specs.Books.{is_well_formed, is_book}
use Rattle.logic.proofs.Tests.{ands}
use Rattle.book.proofs.Forms.{Well, well}
use Rattle.book.proofs.Layouts.{book_facts}
use Rattle.book.proofs.Runs.{run_word, used_within}

module _ (ws : List ℕ) (b : T (is_book ws)) where
  pub book_good : T (is_well_formed (length ws) (facts_of ws))
  book_good = (book_facts ws b).0

  pub book_form : Well (length ws) (facts_of ws)
  book_form = well (length ws) (facts_of ws) book_good

  pub book_is : layout (length ws) (facts_of ws) ≡ ws
  book_is = (book_facts ws b).1

  pub book_room : used (facts_of ws) ≤ length ws
  book_room = used_within (length ws) (facts_of ws) book_good

  pub book_long : (first_place ≤ length ws) × (length ws ≤ longest_run)
  book_long =
      let w = book_form.run in
      (leb→le first_place (length ws) (search ands), leb→le (length ws) longest_run (search ands))

  head_is : get_or ws 0 0 ≡ packed (Head (facts_of ws).now (used (facts_of ws)))
  head_is =
      let f = facts_of ws in
      let e = run_word (length ws) f 0 0 [] (head_words f ++ classes_words f.classes []) refl refl in
      rw book_is at e

  pub book_month : (facts_of ws).now ≤ last_month
  book_month = leb→le (facts_of ws).now last_month book_form.month

  pub head_says : (month_in ws ≡ (facts_of ws).now) × (used_in ws ≡ used (facts_of ws))
  head_says =
      head_fields (get_or ws 0 0) (facts_of ws).now (used (facts_of ws))
      (omega (arith, book_month, book_room, book_long)) (sym head_is)
