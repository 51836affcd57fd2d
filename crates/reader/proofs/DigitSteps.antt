-- A digit below a radix is what the definitions have, in the two radices of escapes.
use Rattle.std.proofs.Common.{◌≡◌, ℕ, arith}
use Rattle.std.proofs.lemmas.Bool.Decides.{nat_tests}
use Rattle.grammar.specs.Decode.{hex_digit, octal_digit}
use Rattle.reader.specs.Digits.{digit_below}

pub digit_below-hex : (c : ℕ) → digit_below 16 c ≡ hex_digit c
digit_below-hex c = grind (arith, nat_tests)

pub digit_below-octal : (c : ℕ) → digit_below 8 c ≡ octal_digit c
digit_below-octal c = grind (arith, nat_tests)
