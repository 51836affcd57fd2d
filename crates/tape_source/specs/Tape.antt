-- What a tape of 32-bit words means.
use Rattle.std.specs.Prelude.{ℕ, zero, suc, ◌+◌, ◌*◌, ◌/◌, ◌%◌, ◌^◌, Bool, true, cond, ◌&&◌, ◌||◌, List, [], ◌∷◌, ◌++◌, length, drop, ◌==◌, nat_le, nat_lt, slice_index}
use Rattle.token.specs.declared.answer.Place.{Place}
use Rattle.token.specs.declared.answer.Fault.{Fault}
use Rattle.token.specs.declared.answer.Fault.TheVariants.{CutTape, BadWord, InputTooLong}
use Rattle.token.specs.Token.{at, nowhere, Bytes, Token, Ahead, next, fault}
use Rattle.token.specs.Law.{well, longest_input}

-- a tape has no more words than this
abbrev pub most_words : ℕ
most_words = longest_input

-- byte k of words, four a word, the first in the lowest bits
abbrev pub byte_in : List ℕ → ℕ → ℕ
byte_in ws k = slice_index ws (k / 4) / 2 ^ (8 * (k % 4)) % 256

-- the first n values of f
abbrev pub tab : (ℕ → ℕ) → ℕ → List ℕ
tab f zero = []
tab f (suc n) = tab f n ++ f n ∷ []

-- past n bytes the last word is zero
abbrev pub padded : List ℕ → ℕ → Bool
padded ws n = n % 4 == 0 || nat_lt (slice_index ws (n / 4)) (2 ^ (8 * (n % 4)))

-- what stands at the front of the words: a token with how many words after its first, the end, or a fault
pub data Step : Type 0 where
  token : Token → ℕ → Step
  end : Step
  wrong : Fault → Step

-- m more words are due for t; first that they stand, then the content
abbrev pub due : List ℕ → ℕ → Token → Bool → Step
due ws m t fit = cond (nat_le m (length ws)) (cond (well t && fit) (token t m) (wrong BadWord)) (wrong CutTape)

-- a text of n bytes, where n has ten bits
abbrev pub long : (Bytes → Token) → ℕ → List ℕ → Step
long made n ws = cond (nat_lt n 1024) (due ws ((n + 3) / 4) (made (tab (byte_in ws) n)) (padded ws n)) (wrong BadWord)

-- by the first word's kind and its other bits
abbrev pub by_kind : ℕ → ℕ → List ℕ → Step
by_kind k low ws =
    cond (k == 0) (cond (low == 0) end (wrong BadWord))
    (cond (k == 1) (due ws 0 (Token.symbol low) true)
    (cond (k == 2) (cond (low == 0) (due ws 2 (Token.number (slice_index ws 0 + 2 ^ 32 * slice_index ws 1)) true) (wrong BadWord))
    (cond (k == 3) (long Token.ident low ws)
    (cond (k == 4) (long Token.float low ws)
    (cond (k == 5) (long Token.string low ws)
    (wrong BadWord))))))

-- the kind is in bits 31 to 29
abbrev pub step : List ℕ → Step
step [] = wrong CutTape
step (w ∷ ws) = by_kind (w / 2 ^ 29) (w % 2 ^ 29) ws

-- line 0 and the first word's index
abbrev pub at_word : ℕ → Place
at_word i = at 0 i

-- what is ahead from a step at word i, and from the words after it
abbrev pub follow : Step → ℕ → (ℕ → Ahead) → Ahead
follow (token t n) i more = next t (at_word i) (more n)
follow end i more = Ahead.end (at_word i)
follow (wrong f) i more = fault f (at_word i)

-- the words from index i on, of which the first k belong to a token before
unfoldable pub scan : ℕ → ℕ → List ℕ → Ahead
scan zero i [] = fault CutTape (at_word i)
scan zero i (w ∷ ws) = follow (step (w ∷ ws)) i (λ n. scan n (i + 1) ws)
scan (suc k) i [] = fault CutTape (at_word i)
scan (suc k) i (w ∷ ws) = scan k (i + 1) ws

-- what is ahead from word i on
abbrev pub from : List ℕ → ℕ → Ahead
from ws i = cond (nat_le (length ws) most_words) (scan 0 i (drop i ws)) (fault InputTooLong nowhere)

-- what a tape means
abbrev pub tape : List ℕ → Ahead
tape ws = from ws 0
