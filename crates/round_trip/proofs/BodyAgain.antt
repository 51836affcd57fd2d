-- The way back for enums, oneofs, extensions and messages.
use Rattle.std.proofs.Common.{◌≡◌, ℕ, zero, suc, List, [], ◌∷◌, ℤ, pos, negsuc, Some as some, codes, Option, refl, ap, ◌∙◌}
use Prim.Native.String.{String}
use Rattle.token.specs.Token.{Bytes, Token, nowhere, place, unplaced}
use Rattle.grammar.specs.Parse.{ok, Parser, ◌>>=◌, ◌>>◌, ◌<$>◌, return, given◌then◌else◌, with_some, due, here, look, take, peek, accept, expect, choose, word_forbidden, words_forbidden, unless_next}
use Rattle.grammar.specs.declared.kinds.Syntax.{Syntax}
use Rattle.grammar.specs.declared.kinds.Syntax.TheVariants.{Proto2, Proto3}
use Rattle.grammar.specs.Tree.{Item, Forest, nothing, one, ◌beside◌}
use Rattle.grammar.specs.Grammar as g
use Rattle.grammar.specs.Model.{ProtoOption, Field, OneOf, Member, Range, Extension, EnumValue, Enumeration, Contents, Messages, no_messages, next_message}
use Rattle.grammar.specs.Print as p
use Rattle.grammar.proofs.ManyLaw.{run}
use Rattle.grammar.proofs.Progress.{Turns, turn_unless}
use Rattle.grammar.proofs.GrammarProgress.{enum_statement-takes, nested-takes}
use Rattle.round_trip.proofs.ConstantAgain.{full_read}
use Rattle.round_trip.proofs.Again.{choose-skips, All, adding, trees, trees_beside, Reads, Runs, run-one, run-all, beside_nothing}
use Rattle.round_trip.proofs.Canon.{option_tree, range_tree, name_tree, field_tree, member_tree, extension_tree, value_tree, enum_tree, contents_tree, messages_tree, Opens, OptionOk, RangeOk, TextOk, FieldOk, OneofOk, MemberOk, ExtensionOk, NumberOk, ValueOk, EnumOk, ExtensibleOk, ContentsOk, MessagesOk}
use Rattle.round_trip.proofs.OptionAgain.{option_statement_read, bracketed_read, numbers_read, reserved_names_read, extensions_read}
use Rattle.round_trip.proofs.FieldAgain.{body_turn, body_turns, closes, body_read, field_read}

-- a statement of a list, if it is not empty
pub listed-run : {X : Type 0} (turn : Parser (Option Forest)) (turns : Turns turn) (shown : X → p.Printer) (w : String) (tree : X → Forest) (P : X → Type 0) →
    ((x : X) (xs : List X) → P x → All P xs → Reads turn (p.listed shown w (x ∷ xs)) (some (trees tree (x ∷ xs)))) →
    (xs : List X) → All P xs → Runs ◌beside◌ nothing turn (p.listed shown w xs) (adding ◌beside◌ tree xs)
listed-run turn turns shown w tree P h [] ps us rest y b e = e
listed-run turn turns shown w tree P h (x ∷ xs) ps us rest y b e =
    run-one ◌beside◌ nothing turn turns (p.listed shown w (x ∷ xs)) (trees tree (x ∷ xs)) (h x xs ps.0 ps.1) us rest y b e ∙ ap (λ f. ok f b) (trees_beside tree (x ∷ xs) y)

-- ---- enums
module _ (s : Syntax) (room : ℕ) where
  abbrev enum_turn : Parser (Option Forest)
  enum_turn = unless_next g.brace_end (g.enum_statement (g.nested s room))

  enum_turns : Turns enum_turn
  enum_turns = turn_unless _ _ (enum_statement-takes (g.nested s room) (nested-takes s room))

  enum-option : (o : ProtoOption) → OptionOk room o → Reads enum_turn (p.option_statement o) (some (option_tree o))
  unfolding unless_next g.enum_statement choose ◌>>=◌ ◌>>◌ ◌<$>◌ return look take accept peek with_some given◌then◌else◌
  enum-option o h us rest = run _ (option_statement_read s room o h us rest) refl

  enum-numbers : (r : Range) (rs : List Range) → RangeOk r → All RangeOk rs → Reads enum_turn (p.listed p.range "reserved" (r ∷ rs)) (some (trees (range_tree Item.reserved_range) (r ∷ rs)))
  unfolding unless_next g.enum_statement choose ◌>>=◌ ◌>>◌ ◌<$>◌ return look take accept peek with_some given◌then◌else◌
  enum-numbers r rs h hs us rest = run _ (numbers_read 2147483647 r rs h hs us rest) refl

  enum-names : (n : Bytes) (ns : List Bytes) → TextOk n → All TextOk ns → Reads enum_turn (p.listed (λ x. p.say (p.quoted x)) "reserved" (n ∷ ns)) (some (trees name_tree (n ∷ ns)))
  unfolding unless_next g.enum_statement choose ◌>>=◌ ◌>>◌ ◌<$>◌ return look take accept peek with_some given◌then◌else◌
  enum-names n ns h hs us rest = run _ (reserved_names_read 2147483647 n ns h hs us rest) refl

  enum_number_read : (k : ℤ) → NumberOk k → Reads g.enum_number (p.signed k) k
  unfolding g.enum_number ◌>>=◌ ◌>>◌ return look take accept peek expect due with_some given◌then◌else◌
  enum_number_read (pos n) h us rest = rw h refl
  enum_number_read (negsuc n) h us rest = rw h refl

  value_read : (v : EnumValue) → ValueOk room v → Reads enum_turn (p.enum_value v) (some (value_tree v))
  unfolding unless_next g.enum_statement g.enum_value ◌>>=◌ ◌>>◌ ◌<$>◌ return look take accept peek expect due with_some given◌then◌else◌
  value_read v h us rest =
      run _ (choose-skips (Token.ident v.name) nowhere _ ((codes "reserved", g.reserved 2147483647) ∷ (codes "option", g.option_statement (g.nested s room)) ∷ []) (g.enum_value (g.nested s room)) h.name-ok
      ∙ run _ (enum_number_read v.number h.number_ok _ rest) (run _ (bracketed_read s room v.options h.options-ok us rest) refl)) refl

  pub enum_read : (e : Enumeration) → EnumOk room e →
      Reads (g.enum (g.nested s room) nowhere) (p.◌·◌ (p.name e.name) (p.body (p.◌·◌ (p.all p.option_statement e.options) (p.◌·◌ (p.reserved e.numbers e.names) (p.all p.enum_value e.values))))) (enum_tree e)
  unfolding g.enum ◌>>=◌ ◌>>◌ return look take expect due with_some
  enum_read e h us rest =
      run _ (run-all ◌beside◌ nothing enum_turn enum_turns p.option_statement option_tree (OptionOk room) enum-option e.options h.options-ok _ rest _ _
      (listed-run enum_turn enum_turns p.range "reserved" (range_tree Item.reserved_range) RangeOk enum-numbers e.numbers h.numbers-ok _ rest _ _
      (listed-run enum_turn enum_turns (λ x. p.say (p.quoted x)) "reserved" name_tree TextOk enum-names e.names h.names-ok _ rest _ _
      (run-all ◌beside◌ nothing enum_turn enum_turns p.enum_value value_tree (ValueOk room) value_read e.values h.values-ok _ rest _ _
      (closes _ enum_turns us rest))))) refl

-- ---- in a message
module _ (s : Syntax) (room : ℕ) where
  abbrev here_turn : Parser (Option Forest)
  here_turn = body_turn s room g.Mode.message

  numbers-turn : (r : Range) (rs : List Range) → RangeOk r → All RangeOk rs → Reads here_turn (p.listed p.range "reserved" (r ∷ rs)) (some (trees (range_tree Item.reserved_range) (r ∷ rs)))
  unfolding unless_next g.statement g.declaration here choose ◌>>=◌ ◌>>◌ ◌<$>◌ return look take accept peek with_some given◌then◌else◌
  numbers-turn r rs h hs us rest = run _ (numbers_read 536870911 r rs h hs us rest) refl

  names-turn : (n : Bytes) (ns : List Bytes) → TextOk n → All TextOk ns → Reads here_turn (p.listed (λ x. p.say (p.quoted x)) "reserved" (n ∷ ns)) (some (trees name_tree (n ∷ ns)))
  unfolding unless_next g.statement g.declaration here choose ◌>>=◌ ◌>>◌ ◌<$>◌ return look take accept peek with_some given◌then◌else◌
  names-turn n ns h hs us rest = run _ (reserved_names_read 536870911 n ns h hs us rest) refl

  enum_turn_read : (e : Enumeration) → EnumOk room e → Reads here_turn (p.enum e) (some (enum_tree e))
  unfolding unless_next g.statement g.declaration here choose ◌>>=◌ ◌>>◌ ◌<$>◌ return look take accept peek with_some given◌then◌else◌
  enum_turn_read e h us rest = run _ (enum_read s room e h us rest) refl

-- ---- extensions
abbrev pub extend_printer : Extension → p.Printer
extend_printer e = p.◌·◌ (p.path e.extendee) (p.body (p.field e.extends))

extends-body : (s : Syntax) (f : Field) (r : ℕ) → Opens (FieldOk s f g.Mode.extend) r → Reads (g.nested s r (g.Bracket.body g.Mode.extend)) (p.body (p.field f)) (field_tree f)
extends-body s f zero h us rest = absurd h
extends-body s f (suc r) h us rest =
    body_read s r g.Mode.extend (p.field f) (λ y. field_tree f beside y) (run-one ◌beside◌ nothing _ (body_turns s r g.Mode.extend) (p.field f) (field_tree f) (field_read s f g.Mode.extend r h)) us rest
    ∙ ap (λ x. ok x (unplaced us rest)) (beside_nothing (field_tree f))

extension_of_tree : (x : Bytes) (f : Field) → g.extensions_of x (field_tree f) ≡ one (Item.extension x) (field_tree f)
unfolding field_tree
extension_of_tree x (Field.field r t n k os place) = refl

pub extension_read : (s : Syntax) (room : ℕ) (e : Extension) → ExtensionOk s room e → Reads (g.extend_fields (g.nested s room)) (extend_printer e) (extension_tree e)
unfolding g.extend_fields accept peek look with_some given◌then◌else◌ ◌>>=◌ ◌>>◌ return
extension_read s room e h us rest =
    run _ (full_read h.extendee-ok (p.body (p.field e.extends) us) rest refl)
    (run _ (extends-body s e.extends room h.extends-ok us rest) (ap (λ x. ok x (unplaced us rest)) (extension_of_tree e.extendee e.extends)))

-- `option` in a message, for each syntax
option_turn : (s : Syntax) (room : ℕ) (o : ProtoOption) → OptionOk room o → Reads (body_turn s room g.Mode.message) (p.option_statement o) (some (option_tree o))
unfolding unless_next g.statement g.declaration g.option_or_field word_forbidden words_forbidden here choose ◌>>=◌ ◌>>◌ ◌<$>◌ return look take accept peek with_some given◌then◌else◌
option_turn Proto2 room o h us rest = run _ (option_statement_read Proto2 room o h us rest) refl
option_turn Proto3 room o h us rest = run _ (option_statement_read Proto3 room o h us rest) refl

oneof-option_turn : (s : Syntax) (room : ℕ) (o : ProtoOption) → OptionOk room o → Reads (body_turn s room g.Mode.oneof) (p.option_statement o) (some (option_tree o))
unfolding unless_next g.statement g.declaration g.option_or_field word_forbidden words_forbidden here choose ◌>>=◌ ◌>>◌ ◌<$>◌ return look take accept peek with_some given◌then◌else◌
oneof-option_turn s room o h us rest = run _ (option_statement_read s room o h us rest) refl

extensible-run : (s : Syntax) (room : ℕ) (rs : List Range) → ExtensibleOk s rs → Runs ◌beside◌ nothing (body_turn s room g.Mode.message) (p.listed p.range "extensions" rs) (adding ◌beside◌ (range_tree Item.extension_range) rs)
unfolding unless_next g.statement g.declaration here choose ◌>>=◌ ◌>>◌ ◌<$>◌ return look take accept peek with_some given◌then◌else◌
extensible-run Proto2 room rs h = listed-run _ (body_turns Proto2 room g.Mode.message) p.range "extensions" (range_tree Item.extension_range) RangeOk (λ r rs k ks us rest. run _ (extensions_read r rs k ks us rest) refl) rs h
extensible-run Proto3 room [] h = λ us rest y b e. e
extensible-run Proto3 room (r ∷ rs) h = absurd h

oneof-body : (s : Syntax) (o : OneOf) (r : ℕ) → Opens (OneofOk s o) r →
    Reads (g.nested s r (g.Bracket.body g.Mode.oneof)) (p.body (p.◌·◌ (p.all p.option_statement o.options) (p.all p.field o.fields))) (adding ◌beside◌ option_tree o.options (trees field_tree o.fields))
oneof-body s o zero h = absurd h
oneof-body s o (suc r) h =
    body_read s r g.Mode.oneof _ (λ y. adding ◌beside◌ option_tree o.options (adding ◌beside◌ field_tree o.fields y))
    (λ us rest y b e. run-all ◌beside◌ nothing _ (body_turns s r g.Mode.oneof) p.option_statement option_tree (OptionOk r) (oneof-option_turn s r) o.options h.options-ok _ rest _ b
    (run-all ◌beside◌ nothing _ (body_turns s r g.Mode.oneof) p.field field_tree (λ f. FieldOk s f g.Mode.oneof r) (λ f k. field_read s f g.Mode.oneof r k) o.fields h.fields-ok us rest y b e))

member_read : (s : Syntax) (room : ℕ) (x : Member) → MemberOk s room x → Reads (body_turn s room g.Mode.message) (p.member x) (some (member_tree x))
unfolding unless_next g.statement g.declaration g.named_body here choose ◌>>=◌ ◌>>◌ ◌<$>◌ return look take accept peek expect due with_some given◌then◌else◌
member_read s room (Member.field f) h us rest = field_read s f g.Mode.message room h us rest
member_read s room (Member.oneof o) h us rest = run _ (run _ (oneof-body s o room h us rest) refl) refl

extension-turn : (s : Syntax) (room : ℕ) (e : Extension) → ExtensionOk s room e → Reads (body_turn s room g.Mode.message) (p.extension e) (some (extension_tree e))
unfolding unless_next g.statement g.declaration here choose ◌>>=◌ ◌>>◌ ◌<$>◌ return look take accept peek with_some given◌then◌else◌
extension-turn s room e h us rest = run _ (extension_read s room e h us rest) refl

-- ---- messages
abbrev pub message_printer : Contents → Messages → p.Printer
message_printer c inner =
    p.◌·◌ (p.all p.option_statement c.options)
    (p.◌·◌ (p.reserved c.numbers c.names)
    (p.◌·◌ (p.listed p.range "extensions" c.extensible)
    (p.◌·◌ (p.all p.member c.members)
    (p.◌·◌ (p.messages inner)
    (p.◌·◌ (p.all p.enum c.enums)
    (p.all p.extension c.extensions))))))

module _ (s : Syntax) (room : ℕ) (n : Bytes) (c : Contents) (h : ContentsOk s room c) (inner : Messages)
    (inner_run : Runs ◌beside◌ nothing (body_turn s room g.Mode.message) (p.messages inner) (messages_tree inner)) where
  pub message_read : Reads (g.named_body (g.nested s (suc room)) g.Mode.message (λ name. Item.message name nowhere)) (p.◌·◌ (p.name n) (p.body (message_printer c inner))) (one (Item.message n nowhere) (contents_tree c (messages_tree inner)))
  unfolding g.named_body ◌>>=◌ ◌>>◌ return look take expect due with_some
  message_read us rest =
      let turns = body_turns s room g.Mode.message in
      run _ (body_read s room g.Mode.message (message_printer c inner)
      (λ y. adding ◌beside◌ option_tree c.options (
      adding ◌beside◌ (range_tree Item.reserved_range) c.numbers (adding ◌beside◌ name_tree c.names (
      adding ◌beside◌ (range_tree Item.extension_range) c.extensible (
      adding ◌beside◌ member_tree c.members (
      messages_tree inner (
      adding ◌beside◌ enum_tree c.enums (
      adding ◌beside◌ extension_tree c.extensions y))))))))
      (λ us rest y b e.
      run-all ◌beside◌ nothing _ turns p.option_statement option_tree (OptionOk room) (option_turn s room) c.options h.options-ok _ rest _ b
      (listed-run _ turns p.range "reserved" (range_tree Item.reserved_range) RangeOk (numbers-turn s room) c.numbers h.numbers-ok _ rest _ b
      (listed-run _ turns (λ x. p.say (p.quoted x)) "reserved" name_tree TextOk (names-turn s room) c.names h.names-ok _ rest _ b
      (extensible-run s room c.extensible h.extensible-ok _ rest _ b
      (run-all ◌beside◌ nothing _ turns p.member member_tree (MemberOk s room) (member_read s room) c.members h.members-ok _ rest _ b
      (inner_run _ rest _ b
      (run-all ◌beside◌ nothing _ turns p.enum enum_tree (EnumOk room) (enum_turn_read s room) c.enums h.enums-ok _ rest _ b
      (run-all ◌beside◌ nothing _ turns p.extension extension_tree (ExtensionOk s room) (extension-turn s room) c.extensions h.extensions-ok us rest y b e))))))))
      us rest) refl

message-turn : (s : Syntax) (room : ℕ) (pr : p.Printer) (x : Forest) → Reads (g.named_body (g.nested s room) g.Mode.message (λ name. Item.message name nowhere)) pr x → Reads (body_turn s room g.Mode.message) (p.◌·◌ (p.keyword "message") pr) (some x)
unfolding unless_next g.statement g.declaration here choose ◌>>=◌ ◌>>◌ ◌<$>◌ return look take accept peek with_some given◌then◌else◌
message-turn s room pr x h us rest = run _ (h us rest) refl

pub messages-run : (s : Syntax) (ms : Messages) (room : ℕ) → MessagesOk s ms room → Runs ◌beside◌ nothing (body_turn s room g.Mode.message) (p.messages ms) (messages_tree ms)
unfolding p.messages messages_tree
messages-run s no_messages room h us rest y b e = e
messages-run s (next_message n c place inner more) zero h us rest y b e = absurd h
messages-run s (next_message n c place inner more) (suc room) h us rest y b e =
    run-one ◌beside◌ nothing _ (body_turns s (suc room) g.Mode.message) (p.◌·◌ (p.keyword "message") (p.◌·◌ (p.name n) (p.body (message_printer c inner)))) _
    (message-turn s (suc room) (p.◌·◌ (p.name n) (p.body (message_printer c inner))) _ (message_read s room n c h.0 inner (messages-run s inner room h.1))) _ rest _ b
    (messages-run s more (suc room) h.2 us rest y b e)
