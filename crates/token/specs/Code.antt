-- What is ahead as plain data, by which two of it are told apart: the list of its tokens with their places, and its ending.
use Rattle.std.specs.Prelude.{◌≡◌, refl, ℕ, ◌-◌, List, [], ◌∷◌, ◌⊎◌, Option, Some, None, slice_index_or}
use Rattle.std.proofs.Common.{ap, inl, inr}
use Rattle.std.specs.Coded.{Coded, code_by, coded_ℕ, coded_list, coded×, coded⊎, coded_option}
use Rattle.token.specs.declared.answer.Place.{Place}
use Rattle.token.specs.declared.answer.Fault.{Fault}
use Rattle.token.specs.declared.answer.Fault.TheVariants.{BadByte, BadNumber, UnclosedString, UnclosedComment, TokenTooLong, CutTape, BadWord, InputTooLong}
use Rattle.token.specs.Fault.{fault_number}
use Rattle.token.specs.Token.{at, Bytes, Token, symbol, number, ident, float, string, Ahead, next, end, fault}

-- ---- a fault by its number
abbrev faults : List Fault
faults = BadByte ∷ BadNumber ∷ UnclosedString ∷ UnclosedComment ∷ TokenTooLong ∷ CutTape ∷ BadWord ∷ InputTooLong ∷ []

abbrev fault_of : ℕ → Fault
fault_of n = slice_index_or faults (n - 1) BadByte

pub fault_back : (f : Fault) → fault_of (fault_number f) ≡ f
fault_back BadByte = refl
fault_back BadNumber = refl
fault_back UnclosedString = refl
fault_back UnclosedComment = refl
fault_back TokenTooLong = refl
fault_back CutTape = refl
fault_back BadWord = refl
fault_back InputTooLong = refl

abbrev pub fault_code : Coded Fault
fault_code = code_by ℕ coded_ℕ fault_number fault_of fault_back

abbrev pub place_code : Coded Place
place_code = code_by (ℕ × ℕ) (coded× coded_ℕ coded_ℕ) (λ p. (p.line, p.column)) (λ p. at p.0 p.1) (λ _. refl)

-- ---- a token by its kind and its value
abbrev Parts : Type 0
Parts = ℕ ⊎ (ℕ ⊎ (Bytes ⊎ (Bytes ⊎ Bytes)))

abbrev parts : Token → Parts
parts (symbol c) = inl c
parts (number n) = inr (inl n)
parts (ident w) = inr (inr (inl w))
parts (float w) = inr (inr (inr (inl w)))
parts (string w) = inr (inr (inr (inr w)))

abbrev token_of : Parts → Token
token_of (inl c) = symbol c
token_of (inr (inl n)) = number n
token_of (inr (inr (inl w))) = ident w
token_of (inr (inr (inr (inl w)))) = float w
token_of (inr (inr (inr (inr w)))) = string w

pub token_back : (t : Token) → token_of (parts t) ≡ t
token_back (symbol c) = refl
token_back (number n) = refl
token_back (ident w) = refl
token_back (float w) = refl
token_back (string w) = refl

abbrev pub token_code : Coded Token
token_code =
    let bytes = coded_list coded_ℕ in
    code_by Parts (coded⊎ coded_ℕ (coded⊎ coded_ℕ (coded⊎ bytes (coded⊎ bytes bytes)))) parts token_of token_back

-- ---- what is ahead
abbrev tokens : Ahead → List (Token × Place)
tokens (next t p a) = (t, p) ∷ tokens a
tokens (end p) = []
tokens (fault f p) = []

abbrev ending : Ahead → Option Fault × Place
ending (next t p a) = ending a
ending (end p) = (None, p)
ending (fault f p) = (Some f, p)

abbrev ended : Option Fault → Place → Ahead
ended None p = end p
ended (Some f) p = fault f p

abbrev joined : List (Token × Place) → Option Fault × Place → Ahead
joined [] e = ended e.0 e.1
joined (x ∷ xs) e = next x.0 x.1 (joined xs e)

pub ahead_back : (a : Ahead) → joined (tokens a) (ending a) ≡ a
ahead_back (next t p a) = ap (next t p) (ahead_back a)
ahead_back (end p) = refl
ahead_back (fault f p) = refl

abbrev pub ahead_code : Coded Ahead
ahead_code =
    code_by (List (Token × Place) × (Option Fault × Place)) (coded× (coded_list (coded× token_code place_code)) (coded× (coded_option fault_code) place_code)) (λ a. (tokens a, ending a)) (λ p. joined p.0 p.1) ahead_back
