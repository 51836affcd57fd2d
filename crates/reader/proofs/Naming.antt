-- How names are read.
use Rattle.std.proofs.Common.{◌≡◌, Bool, true, false, [], ◌∷◌, ◌++◌, Option, refl, append_assoc, append-nil}
use Rattle.token.specs.Token.{Bytes, Ahead}
use Rattle.grammar.specs.declared.fault.ReadFault.{ReadFault}
use Rattle.grammar.specs.declared.fault.ParserError.TheVariants.{ExpectIdent}
use Rattle.grammar.specs.Parse.{ok, refused, Parser, ◌>>=◌, ◌>>◌, ◌<$>◌, return, given◌then◌else◌, symbol_if, symbol_due, ident_due, ident_of, many, after_next}
use Rattle.grammar.specs.Grammar.{dot, slash, paren, paren_end, bracket, bracket_end, dotted, full_ident, option_part, key, key_end}
use Rattle.grammar.specs.Tree.{Item, Key, Forest, nothing, one, ◌beside◌}
use Rattle.store.proofs.Forests.{beside_none, beside_assoc}
use Rattle.grammar.specs.Progress.{Consumes}
use Rattle.grammar.proofs.Progress.{turn-after, takes-map, takes-expect}
use Rattle.reader.proofs.Runs.{Monoid}

abbrev pub dot_item : Parser Bytes
dot_item = (λ w. dot ∷ w) <$> ident_due

abbrev pub dot_turn : Parser (Option Bytes)
dot_turn = after_next dot dot_item

pub dot_consumes : Consumes dot_turn
dot_consumes = (turn-after dot dot_item (takes-map _ ident_due (takes-expect ExpectIdent ident_of))).onward

pub texts : Monoid {M = Bytes} ◌++◌ []
texts = record { left = λ x. refl; right = append-nil; assoc = append_assoc }

module _ (a : Ahead) {b : Ahead} where
  pub item-is : {w : Bytes} → ident_due a ≡ ok w b → dot_item a ≡ ok (dot ∷ w) b
  unfolding ◌<$>◌
  item-is e = rw e

  pub item_refuses : {i : ReadFault} → ident_due a ≡ refused i b → dot_item a ≡ refused i b
  unfolding ◌<$>◌
  item_refuses e = rw e

  pub dotted-is : {w v : Bytes} {c : Ahead} → ident_due a ≡ ok w b → many ◌++◌ [] dot_turn b ≡ ok v c → dotted a ≡ ok (w ++ v) c
  unfolding dotted ◌>>=◌ return
  dotted-is e h = rw (e, h)

  pub dotted_refuses_more : {w : Bytes} {i : ReadFault} {c : Ahead} → ident_due a ≡ ok w b → many ◌++◌ [] dot_turn b ≡ refused i c → dotted a ≡ refused i c
  unfolding dotted ◌>>=◌
  dotted_refuses_more e h = rw (e, h)

  pub absolute_is : {w : Bytes} {c : Ahead} → symbol_if dot a ≡ ok true b → dotted b ≡ ok w c → full_ident a ≡ ok (dot ∷ w) c
  unfolding full_ident ◌>>=◌ return
  absolute_is e h = rw (e, h)

  pub full_refuses_name : {x : Bool} {i : ReadFault} {c : Ahead} → symbol_if dot a ≡ ok x b → dotted b ≡ refused i c → full_ident a ≡ refused i c
  unfolding full_ident ◌>>=◌
  full_refuses_name e h = rw (e, h)

-- ---- the parts of an option's name
module _ (a : Ahead) {b : Ahead} where
  pub extension-is : {n : Bytes} {c d : Ahead} → symbol_if paren a ≡ ok true b → full_ident b ≡ ok n c → symbol_due paren_end c ≡ ok tt d → option_part a ≡ ok (one (Item.extension_part n) nothing) d
  unfolding option_part ◌>>=◌ ◌>>◌ return given◌then◌else◌
  extension-is e h k = rw (e, h, k)

  pub direct_is : {n : Bytes} {c : Ahead} → symbol_if paren a ≡ ok false b → ident_due b ≡ ok n c → option_part a ≡ ok (one (Item.direct_part n) nothing) c
  unfolding option_part ◌>>=◌ ◌<$>◌ given◌then◌else◌
  direct_is e h = rw (e, h)

pub forests : Monoid {M = Forest} ◌beside◌ nothing
forests = record { left = λ x. refl; right = beside_none; assoc = beside_assoc }

-- ---- names in message constants
module _ (a : Ahead) {b : Ahead} where
  pub plain-is : {n : Bytes} {c : Ahead} → symbol_if bracket a ≡ ok false b → ident_due b ≡ ok n c → key a ≡ ok (Key.plain n) c
  unfolding key ◌>>=◌ ◌<$>◌ given◌then◌else◌
  plain-is e h = rw (e, h)

  pub bracketed_is : {n : Bytes} {c d f : Ahead} → symbol_if bracket a ≡ ok true b → full_ident b ≡ ok n c → symbol_if slash c ≡ ok false d → symbol_due bracket_end d ≡ ok tt f → key a ≡ ok (Key.extension n) f
  unfolding key key_end ◌>>=◌ ◌>>◌ return given◌then◌else◌
  bracketed_is e h k l = rw (e, h, k, l)

  pub any_is : {n t : Bytes} {c d f j : Ahead} → symbol_if bracket a ≡ ok true b → full_ident b ≡ ok n c → symbol_if slash c ≡ ok true d → full_ident d ≡ ok t f → symbol_due bracket_end f ≡ ok tt j → key a ≡ ok (Key.any_type n t) j
  unfolding key key_end ◌>>=◌ ◌>>◌ return given◌then◌else◌
  any_is e h k l m = rw (e, h, k, l, m)
