-- `is_book` tests what a book is: each return is one law of the parts of a book.
use Rattle.std.proofs.Common.{◌≤◌, ◌↔◌, T, ◌&&◌, ◌∙◌, sym, length}
use Rattle.word.specs.Head.{month_in, used_in}
use Rattle.logic.proofs.Tests.{true_T}
use Rattle.scan.specs.Stretches.{AllClasses}
use Rattle.scan.proofs.BookParts.{words_used, wrong_length, wrong_head, wrong_classes, head_within, counts_further}
use Rattle.scan.proofs.CountedZeros.{end_within}
use Rattle.scan.proofs.is_book.Goals as goal
use Rattle.scan.proofs.is_book.Goals.{After-are_classes}

-- the classes are tested as the head says
classes :
    (c : After-are_classes)
    → T c.are_classes.result ↔ AllClasses (month_in c.args.run.now) (words_used c.args.run.now)
classes c = rw (← c.month.ensures, ← c.used-used.ensures) c.are_classes.ensures

pub returns-then-not-is_length : goal.returns-then-not-is_length
returns-then-not-is_length c = wrong_length c.args.run.now (sym c.is_length.ensures ∙ c.if-not-is_length.true)

pub returns-then-not-is_head : goal.returns-then-not-is_head
returns-then-not-is_head c =
    wrong_head c.args.run.now (sym c.is_head.ensures ∙ c.if-not-is_head.true)

pub returns-then-not-are_classes : goal.returns-then-not-are_classes
returns-then-not-are_classes c =
    wrong_classes c.args.run.now
    (λ r.
    rw c.if-not-are_classes.true
    at ((classes (goal.at.returns-then-not-are_classes c).After-are_classes).1 r))

pub returns : goal.returns
returns c =
    let ws = c.args.run.now in
    let long = sym c.is_length.ensures ∙ c.if-not-is_length.false in
    let headed = sym c.is_head.ensures ∙ c.if-not-is_head.false in
    let past = rw c.used-used.ensures at c.are_zero.ensures in
    let to : (used_in ws ≤ c.counted_end-end.result) × (c.counted_end-end.result ≤ length ws) =
    rw (c.counted_end-end.ensures, c.used-used.ensures) (end_within _ _ (head_within ws headed).1) in
    (λ i. c.are_counted.ensures i && past i)
    ∙ counts_further ws c.counted_end-end.result to.0 to.1 long headed
    ((classes (goal.at.returns c).After-are_classes).0
    (true_T c.are_classes.result c.if-not-are_classes.false))
