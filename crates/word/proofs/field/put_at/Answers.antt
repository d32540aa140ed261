-- `put_at` writes a field: `|` is a sum where the two sides share no bit.
use Rattle.word.proofs.Fields.{put}
use Rattle.word.proofs.field.put_at.Goals as goal

pub returns : goal.returns
returns c = put c.args.below c.args.value c.args.f.low c.requires.above c.requires.small
