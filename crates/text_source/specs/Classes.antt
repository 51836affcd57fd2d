-- The class of each byte.
use Rattle.std.specs.Prelude.{ℕ, Bool, cond, ◌||◌, ◌==◌}
use Rattle.token.specs.Law.{between, is_digit, is_letter, is_mark}
use Rattle.text_source.specs.declared.class.Class.{Class}
use Rattle.text_source.specs.declared.class.Class.TheVariants.{Blank, Letter, Digit, Quote, Symbol, Other}

-- tab, line feed, vertical tab, form feed, carriage return, space
abbrev pub is_blank : ℕ → Bool
is_blank b = between 9 13 b || b == 32

-- " or '
abbrev pub is_quote : ℕ → Bool
is_quote b = b == 34 || b == 39

unfoldable pub class_of : ℕ → Class
class_of b =
    cond (is_blank b) Blank (cond (is_letter b) Letter (cond (is_digit b) Digit (cond (is_quote b) Quote (cond (is_mark b) Symbol Other))))
