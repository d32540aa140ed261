-- When an index is amid words, by the tests of the definition. Assumes nothing.
use Prim.Native.Nat.{ℕ, ◌+◌, ◌-◌, ◌≤◌, ◌<◌}
use mathlib.Core.Path.{◌≡◌, refl}
use mathlib.Core.Bool.{Bool, true, false, ◌&&◌}
use mathlib.Core.List.{List}
use lib.Dec.{leb, ltb}
use lib.ListN.{length}
use borrow.Author.Tests.{leb-true, lt-ltb, le-ltb, le-leb}
use Rattle.place.specs.Search.{about_count, before_count, is_amid}

module _ (near : ℕ) (ws : List ℕ) where
  -- where the words about `near` end
  abbrev end : ℕ
  end = near + (about_count - before_count)

  pub is_amid_lem : before_count ≤ near → end < length ws → is_amid near ws ≡ true
  is_amid_lem low high = rw (le-leb before_count near low, lt-ltb end (length ws) high)

  pub not_amid : (before_count ≤ near → length ws ≤ end) → is_amid near ws ≡ false
  not_amid high = go (leb before_count near) refl
    where
      go : (b : Bool) → leb before_count near ≡ b → (b && ltb end (length ws)) ≡ false
      go true e = le-ltb end (length ws) (high (leb-true before_count near e))
      go false e = refl
