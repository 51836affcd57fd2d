-- The text of a token at the front of a tape.
use Rattle.std.proofs.Common.{◌≡◌, ℕ, ◌<◌, ◌≤◌, List, length, get_or, sym, refl, ap, ◌∙◌, arith}
use lib.ListN.{get_or-eq_default}
use Rattle.token.specs.Token.{Bytes, bytes}
use Rattle.tape_source.specs.declared.front.Span.{Span}
use Rattle.tape_source.specs.declared.front.Span.TheVariants as spans
use Rattle.tape_source.specs.declared.text.Text.{Text}
use Rattle.tape_source.specs.declared.text.Text.TheVariants as texts
use Rattle.tape_source.specs.Tape.{byte_in, tab}
use Rattle.tape_source.specs.Front.{made, token_of}
use Rattle.tape_source.proofs.Tabs.{length-tab, getD_tab}

made_bytes : (t : Text) (w : Bytes) → bytes (made t w) ≡ w
made_bytes texts.Ident w = refl
made_bytes texts.Float w = refl
made_bytes texts.Str w = refl

module _ (rest : List ℕ) (x : Span) (t : Text) (n : ℕ) (is : x ≡ spans.Text t n) where
  text_is : bytes (token_of rest x) ≡ tab (byte_in rest) n
  text_is = ap (λ (y : Span). bytes (token_of rest y)) is ∙ made_bytes t (tab (byte_in rest) n)

  pub text_len : n ≡ length (bytes (token_of rest x))
  text_len = sym (ap length text_is ∙ length-tab (byte_in rest) n)

  pub text_byte : (k : ℕ) → k < n → byte_in rest k ≡ get_or (bytes (token_of rest x)) k 0
  text_byte k h = sym (ap (λ w. get_or w k 0) text_is ∙ getD_tab (byte_in rest) n k h)

  pub text_beyond : (k : ℕ) → n ≤ k → 0 ≡ get_or (bytes (token_of rest x)) k 0
  text_beyond k h = sym (get_or-eq_default (bytes (token_of rest x)) 0 (omega (arith, text_len)))
