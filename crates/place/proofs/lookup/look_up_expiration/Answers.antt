-- `look_up_expiration` finds the strikes of an expiration: from where they begin to the next word that is no strike.
-- Assumes nothing.
use Rattle.std.proofs.Common.{leb→le}
use Rattle.word.specs.Limits.{last_month}
use Rattle.place.proofs.LookedUp.{no_expiration, its_strikes}
use Rattle.place.proofs.lookup.look_up_expiration.Goals as goal

pub returns-in-Err : goal.returns-in-Err
returns-in-Err c =
    let r = c.requires in
    λ x.
    let e = c.in-Err.ensures.place x in
    no_expiration _ r.book _ x.is_open _ (leb→le c.args.m last_month r.month) e.0 _ e.1

pub returns-in-Ok : goal.returns-in-Ok
returns-in-Ok c =
    let r = c.requires in
    λ x.
    let e = c.in-Ok.ensures.place x in
    its_strikes _ r.book _ x.is_open _ (leb→le c.args.m last_month r.month) e.0 _ e.1 _
    (rw c.used_from.ensures.words at c.first.ensures.0)
