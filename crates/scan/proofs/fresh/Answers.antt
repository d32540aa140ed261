-- `fresh` makes a fresh book: the zeros with the head and the counters are its layout.
use Rattle.std.proofs.Common.{◌∙◌, sym}
use Rattle.scan.proofs.FreshBooks.{begun}
use Rattle.scan.proofs.fresh.Goals as goal

pub returns : goal.returns
returns c =
    begun c.args.run.now (sym c.is_length.ensures ∙ c.if-not-is_length.false) (c.fill.ensures.after (λ y e. e)) c.write.ensures
    c.write-2.ensures c.write-3.ensures c.write-4.ensures
