-- Inner: where the parts of a book stand in its run, which the searches find and the edits are told. Assumes nothing.
use Rattle.std.specs.Prelude.{ℕ, ◌+◌, ◌≡◌, Bool, cond, [], length, T, eqb, ltb}
use Rattle.logic.specs.Lists.{some, only}
use Rattle.word.specs.Head.{first_place}
use Rattle.word.specs.Figures.{figures_length}
use Rattle.book.specs.Facts.{Facts, number, is_class_open, in_month}
use Rattle.book.specs.Layout.{series_words, classes_words}
use Rattle.book.specs.Views.{class, view_of, is_standing}

-- the index of the class word c, or of the word before which it would stand
abbrev pub class_place : ℕ → Facts → ℕ
class_place c f = first_place + length (classes_words (only (λ x. ltb (number x) c) f.classes) [])

-- whether the expiration m of the class c has strikes
abbrev pub has_expiration : ℕ → ℕ → Facts → Bool
has_expiration c m f = some (λ s. eqb s.month m) (class f c).series

-- of the open class c: the index of the expiration word m, or of the word before which it would stand
abbrev pub expiration_place : ℕ → ℕ → Facts → ℕ
expiration_place c m f =
    class_place c f + figures_length + length (series_words 0 (only (λ s. ltb s.month m) (class f c).series) [])

-- the index of the first strike of the expiration m; where it has none, of the word before which the expiration word
-- would stand
abbrev pub strikes_place : ℕ → ℕ → Facts → ℕ
strikes_place c m f = expiration_place c m f + cond {A = ℕ} (has_expiration c m f) 1 0

-- the index after the last strike of the expiration m
abbrev pub strikes_end : ℕ → ℕ → Facts → ℕ
strikes_end c m f = strikes_place c m f + length (in_month m (class f c).series)

-- the index of the strike h of the expiration m, or of the word before which it would stand
abbrev pub strike_place : ℕ → ℕ → ℕ → Facts → ℕ
strike_place c m h f = strikes_place c m f + length (only (λ s. ltb s.strike h) (in_month m (class f c).series))

-- a class is open whose words begin at the index `at`
pub record ClassBegins (f : Facts) (at : ℕ) : Type 0 where
  pub number : ℕ
  pub is_open : T (is_class_open number f.classes)
  pub place : at ≡ class_place number f

-- a strike stands at the index `at`
pub record StrikeStands (f : Facts) (at : ℕ) : Type 0 where
  pub class : ℕ
  pub month : ℕ
  pub strike : ℕ
  pub is_open : T (is_class_open class f.classes)
  pub standing : T (is_standing (view_of class f) month strike)
  pub place : at ≡ strike_place class month strike f
