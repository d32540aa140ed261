-- Document 01, "`L` adds (m, h, the ground, 0, 0).", "`X`, `R` and `M` alone remove strikes: these are delisting,
-- review and expiry.": where a standing strike comes from, and what takes it away. Assumes nothing.
use Rattle.std.specs.Prelude.{ℕ, ◌≡◌, Bool, true, false, not, ◌&&◌, List, [], ◌∷◌, ◌++◌, T, eqb, ltb}
use Rattle.logic.specs.Lists.{some}
use Rattle.book.specs.Facts.{OpenClass, Facts, is_at}
use Rattle.book.specs.Views.{view_of, class, ground_of, is_reviewed}
use Rattle.book.specs.Calls.{ClassCall, Call, call_m, on, call_o, call_c, call_h, call_v, call_d, call_l, call_j, call_x, call_i, call_r, call_a, malformed, is_granted, step, after}
use Rattle.book.specs.Permission.{is_permitted, are_words_left}

-- the strike h of the class c and the month m stands on the ground g
abbrev pub stands_on : ℕ → ℕ → ℕ → ℕ → Facts → Bool
stands_on g c m h f = some (λ s. is_at m h s && eqb s.on_ground g) (class f c).series

-- a call on the class x that is accepted takes its strike away: by delisting, or by the review
unfoldable pub takes_from : ClassCall → ℕ → ℕ → OpenClass → Bool
takes_from call_o m h x = false
takes_from (call_c p) m h x = false
takes_from (call_h low high) m h x = false
takes_from (call_v n) m h x = false
takes_from (call_d p d) m h x = false
takes_from (call_l k i) m h x = false
takes_from (call_j k i) m h x = false
takes_from (call_x k i) m h x = eqb k m && eqb i h
takes_from (call_i k i a b) m h x = false
takes_from call_r m h x = some (λ s. is_at m h s && is_reviewed x s) x.series
takes_from (call_a k) m h x = false

-- .. or by expiry
abbrev pub takes_away : Call → ℕ → ℕ → ℕ → Facts → Bool
takes_away (call_m k) c m h f = ltb m k
takes_away (on d x) c m h f = eqb d c && takes_from x m h (class f c)
takes_away malformed c m h f = false

-- a refused call removes nothing
abbrev pub removes : ℕ → Call → ℕ → ℕ → ℕ → Facts → Bool
removes n x c m h f = is_granted n x f && takes_away x c m h f

-- no call of the list removes the strike, from the facts f on
unfoldable pub stays_through : ℕ → List Call → ℕ → ℕ → ℕ → Facts → Bool
stays_through n [] c m h f = true
stays_through n (x ∷ xs) c m h f = not (removes n x c m h f) && stays_through n xs c m h (step n x f)

-- some `L` of the list added the strike, permitted on the ground g then, with words left for it, and no later call
-- removed it
pub record Added (n : ℕ) (xs : List Call) (g c m h : ℕ) : Type 0 where
  pub earlier : List Call
  pub later : List Call
  pub split : xs ≡ earlier ++ (on c (call_l m h) ∷ later)
  pub permitted : T (is_permitted c m h (after n earlier))
  pub on_ground : ground_of (view_of c (after n earlier)) m h ≡ g
  pub room : T (are_words_left n c m h (after n earlier))
  pub stays : T (stays_through n later c m h (step n (on c (call_l m h)) (after n earlier)))
