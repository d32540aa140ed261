-- `used_word` reads the words used, which are the first of the run. Assumes nothing.
use Rattle.std.proofs.Common.{◌≡◌, ℕ, ◌<◌, ◌≤◌, List, length, take, get_or, Option, Some, None, MatchOption, Bor, sym, ◌∙◌, arith, length-take-le, get_or-take}
use Rattle.std.specs.List.{HoldsAt}
use Rattle.std.specs.Option.{option_copied}
use Rattle.place.proofs.Heads.{book_room}
use Rattle.place.proofs.lookup.used_word.Goals as goal

got :
    (ws : List ℕ) (n at : ℕ) → n ≡ length (take n ws) → (r : Option (Bor ℕ))
    → MatchOption r (length (take n ws) ≤ at) (λ x. (at < length (take n ws)) × HoldsAt (λ y. x.now ≡ y) (take n ws) at)
    → MatchOption (option_copied r) (n ≤ at) (λ w. (at < n) × (w ≡ get_or ws at 0))
got ws n at e None past = omega arith
got ws n at e (Some x) h =
    let within : at < n = omega (arith, h.0) in
    (within, h.1 0 ∙ get_or-take n ws at 0 within)

pub slice_bounds-get-end : goal.slice_bounds-get-end
slice_bounds-get-end c = sym (length-take-le _ _ (omega (arith, book_room _ c.requires)))

pub returns : goal.returns
returns c =
    let long = sym (length-take-le c.used.result c.args.run.now (omega (arith, book_room _ c.requires))) in
    rw (c.copied.ensures, ← c.used.ensures)
    (got c.args.run.now c.used.result c.args.at long c.get.result c.get.ensures.lookup.3)
