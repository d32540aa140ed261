-- The numbers before the index are written, and next is where they end.
use Rattle.std.proofs.Common.{◌≡◌, ◌+◌, length, take}
use Rattle.std.proofs.lemmas.List.Edits.{sets}
use Rattle.text.specs.Printing.{spaced_numbers}
use Rattle.text.proofs.print.put_numbers.Given as goal

abbrev pub invariant-loop-number : goal.invariant-loop-number
invariant-loop-number l = record {
  place : l.next ≡ l.at + length (spaced_numbers (take l.number-index l.numbers));
  written : l.out ≡ sets l.fn.out l.at (spaced_numbers (take l.number-index l.numbers));
}
