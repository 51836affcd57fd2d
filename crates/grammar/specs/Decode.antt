-- Strings: their escapes, UTF-8 (RFC 3629), and what an import path may be.
use Rattle.std.specs.Prelude.{ℕ, zero, suc, ◌+◌, ◌-◌, ◌*◌, Bool, true, false, ◌||◌, List, [], ◌∷◌, ◌++◌, Some as some, None as none, codes, Option, ◌==◌, nat_le}
use Rattle.token.specs.Token.{Bytes}
use Rattle.token.specs.Law.{between}
use Rattle.grammar.specs.declared.fault.ParserError.{ParserError}
use Rattle.grammar.specs.declared.fault.ParserError.TheVariants.{PathEmpty, PathBackslashes, ComponentEmpty, ComponentDot, ComponentDotDot}
use Rattle.grammar.specs.Parse.{same}

-- ---- escapes
-- a b f n r t v, backslash and both quotes, each with the byte that it stands for
abbrev pub letters : List (ℕ × ℕ)
letters = (97, 7) ∷ (98, 8) ∷ (102, 12) ∷ (110, 10) ∷ (114, 13) ∷ (116, 9) ∷ (118, 11) ∷ (92, 92) ∷ (39, 39) ∷ (34, 34) ∷ []

abbrev pub lookup : ℕ → List (ℕ × ℕ) → Option ℕ
lookup b [] = none
lookup b (e ∷ es) = elim (b == e.0) [ true ↦ some e.1 | false ↦ lookup b es ]

abbrev pub octal_digit : ℕ → Option ℕ
octal_digit b = elim (between 48 55 b) [ true ↦ some (b - 48) | false ↦ none ]

abbrev pub hex_digit : ℕ → Option ℕ
hex_digit b =
    elim (between 48 57 b) [
      | true ↦ some (b - 48)
      | false ↦
          elim (between 97 102 b) [
            | true ↦ some (b - 87)
            | false ↦
                elim (between 65 70 b) [ true ↦ some (b - 55) | false ↦ none ]
          ]
    ]

-- where a reader of an undecoded string stands
pub data Within : Type 0 where
  -- outside any escape
  plain : Within
  -- after a backslash
  backslash : Within
  -- after \x, and after one digit more, of that value
  hex_due : Within
  hex_one : ℕ → Within
  -- after one octal digit, after two, of that value
  octal_one octal_two : ℕ → Within

-- one byte read: the bytes it completes, and where the reader stands then; or none, refused
abbrev pub Step : Type 0
Step = Option (Bytes × Within)

abbrev pub plain_step : ℕ → Bytes → Step
plain_step c out = elim (c == 92) [ true ↦ some (out, backslash) | false ↦ some (out ++ c ∷ [], plain) ]

abbrev pub octal_step : ℕ → Step
octal_step c = elim (octal_digit c) [ none ↦ none | some d ↦ some ([], octal_one d) ]

abbrev pub backslash_step : ℕ → Step
backslash_step c =
    elim (lookup c letters) [
      | some b ↦ some (b ∷ [], plain)
      | none ↦
          elim (c == 120 || c == 88) [ true ↦ some ([], hex_due) | false ↦ octal_step c ]
    ]

abbrev pub step : Within → ℕ → Step
step plain c = plain_step c []
step backslash c = backslash_step c
step hex_due c = elim (hex_digit c) [ none ↦ none | some d ↦ some ([], hex_one d) ]
step (hex_one v) c = elim (hex_digit c) [ none ↦ plain_step c (v ∷ []) | some d ↦ some ((v * 16 + d) ∷ [], plain) ]
step (octal_one v) c = elim (octal_digit c) [ none ↦ plain_step c (v ∷ []) | some d ↦ some ([], octal_two (v * 8 + d)) ]
step (octal_two v) c = elim (octal_digit c) [ none ↦ plain_step c (v ∷ []) | some d ↦ elim (nat_le (v * 8 + d) 255) [ true ↦ some ((v * 8 + d) ∷ [], plain) | false ↦ none ] ]

-- what is complete at the end of the string
abbrev pub finish : Within → Option Bytes
finish plain = some []
finish backslash = none
finish hex_due = none
finish (hex_one v) = some (v ∷ [])
finish (octal_one v) = some (v ∷ [])
finish (octal_two v) = some (v ∷ [])

abbrev pub behind : Bytes → Option Bytes → Option Bytes
behind out none = none
behind out (some bs) = some (out ++ bs)

unfoldable pub unescape : Within → Bytes → Option Bytes
unescape w [] = finish w
unescape w (c ∷ cs) = elim (step w c) [ none ↦ none | some s ↦ behind s.0 (unescape s.1 cs) ]

-- ---- UTF-8
-- first bytes from, to; so many more bytes, the second of them from low to high and the others from 128 to 191
pub record Row : Type 0 where
  pub from : ℕ
  pub to : ℕ
  pub more : ℕ
  pub low : ℕ
  pub high : ℕ

abbrev pub row : ℕ → ℕ → ℕ → ℕ → ℕ → Row
row f t m l h = record { from = f; to = t; more = m; low = l; high = h }

abbrev pub rows : List Row
rows =
    row 0 127 0 128 191 ∷ row 194 223 1 128 191 ∷ row 224 224 2 160 191 ∷ row 225 236 2 128 191 ∷ row 237 237 2 128 159 ∷
    row 238 239 2 128 191 ∷ row 240 240 3 144 191 ∷ row 241 243 3 128 191 ∷ row 244 244 3 128 143 ∷ []

abbrev pub row_of : ℕ → List Row → Option Row
row_of b [] = none
row_of b (r ∷ rs) = elim (between r.from r.to b) [ true ↦ some r | false ↦ row_of b rs ]

-- so many bytes are still due, the next of them from low to high
unfoldable pub utf8_from : ℕ → ℕ → ℕ → Bytes → Bool
utf8_from zero low high [] = true
utf8_from (suc due) low high [] = false
utf8_from zero low high (b ∷ bs) = elim (row_of b rows) [ none ↦ false | some r ↦ utf8_from r.more r.low r.high bs ]
utf8_from (suc due) low high (b ∷ bs) = elim (between low high b) [ true ↦ utf8_from due 128 191 bs | false ↦ false ]

abbrev pub utf8 : Bytes → Bool
utf8 bs = utf8_from 0 128 191 bs

-- the decoded string, or none where it is refused
unfoldable pub decode : Bytes → Option Bytes
decode text = elim (unescape plain text) [ none ↦ none | some bs ↦ elim (utf8 bs) [ true ↦ some bs | false ↦ none ] ]

-- ---- import paths
-- the parts between separators: one more than there are separators
abbrev pub longer : ℕ → List Bytes → List Bytes
longer c [] = (c ∷ []) ∷ []
longer c (w ∷ ws) = (c ∷ w) ∷ ws

unfoldable pub parts : ℕ → Bytes → List Bytes
parts s [] = [] ∷ []
parts s (c ∷ cs) = elim (c == s) [ true ↦ [] ∷ parts s cs | false ↦ longer c (parts s cs) ]

abbrev pub holds : ℕ → Bytes → Bool
holds b [] = false
holds b (c ∷ cs) = c == b || holds b cs

abbrev pub component_refusal : Bytes → Option ParserError
component_refusal w =
    elim (same w []) [
      | true ↦ some ComponentEmpty
      | false ↦
          elim (same w (codes ".")) [
            | true ↦ some ComponentDot
            | false ↦
                elim (same w (codes "..")) [ true ↦ some ComponentDotDot | false ↦ none ]
          ]
    ]

abbrev pub components_refusal : List Bytes → Option ParserError
components_refusal [] = none
components_refusal (w ∷ ws) = elim (component_refusal w) [ some n ↦ some n | none ↦ components_refusal ws ]

unfoldable pub path_refusal : Bytes → Option ParserError
path_refusal path =
    elim (same path []) [
      | true ↦ some PathEmpty
      | false ↦
          elim (holds 92 path) [ true ↦ some PathBackslashes | false ↦ components_refusal (parts 47 path) ]
    ]

-- ---- all of this file, for a proof that computes
unfoldable pub opened : Unit {0}
unfolding unescape utf8_from decode parts path_refusal
opened = tt
