-- No refusal is numbered 0, so that a call is accepted exactly when its number is 0: by cases. Assumes nothing.
use Rattle.std.proofs.Common.{◌≡◌, false, eqb, sym, refl, Ok, Err}
use Rattle.word.specs.Answers.{refusal_number, answer_number, is_accepted}
use Rattle.word.specs.declared.answer.Refusal.{Refusal}
use Rattle.word.specs.declared.answer.Refusal.TheVariants.{NotABook, BeyondLimits, AlreadyOpen, NotOpen, MonthOutside, AlreadyStanding, NotStanding, NoClose, NotQualified, CapReached, OffGrid, OutOfRange, TooClose, OpenInterest, OutOfWords, CloseOutside}
use Rattle.word.specs.Answers.{Answer}
use Rattle.word.specs.declared.answer.Accepted.TheVariants.{Done, Ground, Removed, Listed}

pub refusal_not_zero : (why : Refusal) → eqb (refusal_number why) 0 ≡ false
refusal_not_zero NotABook = refl
refusal_not_zero BeyondLimits = refl
refusal_not_zero AlreadyOpen = refl
refusal_not_zero NotOpen = refl
refusal_not_zero MonthOutside = refl
refusal_not_zero AlreadyStanding = refl
refusal_not_zero NotStanding = refl
refusal_not_zero NoClose = refl
refusal_not_zero NotQualified = refl
refusal_not_zero CapReached = refl
refusal_not_zero OffGrid = refl
refusal_not_zero OutOfRange = refl
refusal_not_zero TooClose = refl
refusal_not_zero OpenInterest = refl
refusal_not_zero (OutOfWords count) = refl
refusal_not_zero CloseOutside = refl

-- "An accepted call answers 0"
pub accepted_zero : (a : Answer) → is_accepted a ≡ eqb (answer_number a) 0
accepted_zero (Ok Done) = refl
accepted_zero (Ok (Ground g)) = refl
accepted_zero (Ok (Removed count)) = refl
accepted_zero (Ok (Listed count)) = refl
accepted_zero (Err why) = sym (refusal_not_zero why)
