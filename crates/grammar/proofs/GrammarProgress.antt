-- Each production of the grammar takes a token where it succeeds, so each repetition in it unfolds by `many-turn`.
use Rattle.std.proofs.Common.{ℕ, zero, suc, Bool, true, false, List, [], ◌∷◌, None as none, Option}
use Rattle.token.specs.declared.answer.Place.{Place}
use Rattle.token.specs.Token.{Token, Bytes}
use Rattle.grammar.specs.Parse.{Parser, return, refuse, given◌then◌else◌, expect}
use Rattle.grammar.specs.declared.kinds.Syntax.{Syntax}
use Rattle.grammar.specs.Tree.{Forest, nothing}
use Rattle.grammar.specs.declared.fault.ParserError.{ParserError}
use Rattle.grammar.specs.declared.fault.ParserError.TheVariants.{ExpectIdent, IncorrectInput, ExpectConstant, IntegerOverflow, LabelRequired, GroupNameShouldStartWithUpperCase}
use Rattle.grammar.specs.Kinds.{scalars}
use Rattle.grammar.specs.Progress.{Keeps, Takes, ProductionsTake, RepetitionsUnfold}
use Rattle.grammar.proofs.ManyLaw.{many-turn}
use Rattle.grammar.specs.Grammar as g
use Rattle.grammar.proofs.Progress.{TakesAt, Turns, keeping, taking, takes-keeps, takes-bind, takes_bindʳ, takes_thenʳ, takes-accept, takes_if, takes-due, takes-expect, takes-map, turn-after, turn_unless, at_with, at_if, at_take, at-refuse, at_takes, keeps-return, keeps-bind, keeps_if, keeps_here, keeps-accept, keeps-peek}

ruleset rules = (taking, keeping, takes-keeps)

pub dotted-takes : Takes g.dotted
unfolding g.dotted
dotted-takes = search (taking, keeping) depth 12

pub full_ident-takes : Takes g.full_ident
unfolding g.full_ident
full_ident-takes = takes_bindʳ _ _ (keeps-accept _) (λ b. search (rules, dotted-takes) depth 12)

expect-keeps : {A : Type 0} (n : ParserError) (pick : Token → Option A) → Keeps (expect n pick)
expect-keeps n pick = takes-keeps _ (takes-expect n pick)

full_ident-keeps : Keeps g.full_ident
full_ident-keeps = takes-keeps _ full_ident-takes

pub group_name-takes : Takes g.group_name
unfolding g.group_name
group_name-takes = takes-due _ (λ t. at_with _ _ _ (λ w. at_if _ _ _ (at_take _ (keeps-return w)) (at-refuse GroupNameShouldStartWithUpperCase)) (at-refuse ExpectIdent))

pub field_number-takes : Takes g.field_number
unfolding g.field_number
field_number-takes = takes-due _ (λ t. at_with _ _ _ (λ n. at_if _ _ _ (at_take _ (keeps-return n)) (at-refuse IntegerOverflow)) (at-refuse IncorrectInput))

pub enum_number-takes : Takes g.enum_number
unfolding g.enum_number
enum_number-takes = takes_bindʳ _ _ (keeps-accept _) (λ b. search rules depth 12)

pub decoded_string-takes : Takes g.decoded_string
unfolding g.decoded_string
decoded_string-takes = search rules depth 12

ruleset basics = (rules, dotted-takes, full_ident-takes, group_name-takes, field_number-takes, enum_number-takes, decoded_string-takes)

pub separated-takes : (s : ℕ) (item : Parser Forest) → Takes item → Takes (g.separated s item)
unfolding g.separated
separated-takes s item h = search rules depth 12

pub until-keeps : (s : ℕ) (item : Parser Forest) → Takes item → Keeps (g.forests_until s item)
until-keeps s item h = search rules depth 12

pub signed_number-takes : (b : Bool) → Takes (g.signed_number b)
unfolding g.signed_number
signed_number-takes b = search rules depth 12

pub key_end-takes : (name : Bytes) → Takes (g.key_end name)
unfolding g.key_end
key_end-takes name = takes-accept _ _ _ (search basics depth 12) (search basics depth 12)

pub key-takes : Takes g.key
unfolding g.key
key-takes = takes-accept _ _ _ (search (basics, key_end-takes) depth 12) (search basics depth 12)

pub option_part-takes : Takes g.option_part
unfolding g.option_part
option_part-takes = takes-accept _ _ _ (search basics depth 12) (search basics depth 12)

pub range-takes : (item : ℕ → ℕ → _) (max : ℕ) → Takes (g.range item max)
unfolding g.range
range-takes item max = search basics depth 16

pub extensions-takes : Takes g.extensions
unfolding g.extensions
extensions-takes = search (basics, separated-takes, range-takes) depth 12

pub reserved-takes : (max : ℕ) → Takes (g.reserved max)
unfolding g.reserved
reserved-takes max =
    takes-bind _ _
    (takes-due _ (λ t. at_takes _ (takes_if _ _ _ (search (basics, separated-takes) depth 12) (search (basics, separated-takes, range-takes) depth 12))))
    (λ f. search basics depth 12)

pub empty_statement-takes : Takes g.empty_statement
unfolding g.empty_statement
empty_statement-takes = takes-accept _ _ _ (keeps-return nothing) (search rules depth 5)

ruleset pieces = (basics, separated-takes, until-keeps, option_part-takes, range-takes, extensions-takes, reserved-takes, empty_statement-takes)

module _ (inner : g.Inner) (inner_takes : (b : g.Bracket) → Takes (inner b)) where
  pub constant_at-takes : (t : Token) → TakesAt (g.constant_at inner t)
  unfolding g.constant_at
  constant_at-takes (Token.symbol b) =
      at_if _ _ _ (at_takes _ (inner_takes _)) (at_if _ _ _ (at_takes _ (inner_takes _))
      (at_if _ _ _ (at_take _ (takes-keeps _ (signed_number-takes false))) (at_if _ _ _ (at_take _ (takes-keeps _ (signed_number-takes true))) (at-refuse ExpectConstant))))
  constant_at-takes (Token.number n) = at_take _ (keeps-return _)
  constant_at-takes (Token.ident w) = at_takes _ (search basics depth 12)
  constant_at-takes (Token.float w) = at_take _ (keeps-return _)
  constant_at-takes (Token.string w) = at_take _ (keeps-return _)

  pub constant-takes : Takes (g.constant inner)
  constant-takes = takes-due _ constant_at-takes

  pub entry-takes : Takes (g.entry inner)
  unfolding g.entry
  entry-takes = search (basics, key-takes, constant-takes, inner_takes) depth 16

  pub list_items-takes : Takes (g.list_items inner)
  unfolding g.list_items
  list_items-takes = takes-accept _ _ _ (keeps-return nothing) (search (basics, separated-takes, constant-takes) depth 16)

  pub option-takes : Takes (g.option inner)
  unfolding g.option
  option-takes = search (pieces, constant-takes) depth 16

  pub option_statement-takes : Takes (g.option_statement inner)
  unfolding g.option_statement
  option_statement-takes = search (pieces, option-takes) depth 16

  pub bracketed_options-keeps : Keeps (g.bracketed_options inner)
  unfolding g.bracketed_options
  bracketed_options-keeps = search (pieces, option-takes) depth 16

  scalar_or-takes : (ss : List _) (q : Parser Forest) → Takes q → Takes (g.scalar_or ss q)
  unfolding g.scalar_or
  scalar_or-takes [] q h = record { takes = λ a. h.takes a }
  scalar_or-takes (s ∷ ss) q h = record { takes = λ a. (takes-accept _ _ _ (keeps-return _) (scalar_or-takes ss q h)).takes a }

  pub type-takes : Takes (g.type inner)
  unfolding g.type
  type-takes = scalar_or-takes scalars _ (search (pieces, inner_takes) depth 16)

  pub group-takes : (r : _) (p : Place) → Takes (g.group inner r p)
  unfolding g.group
  group-takes r p = search (pieces, inner_takes) depth 20

  pub plain_field-takes : (r : _) (p : Place) → Takes (g.plain_field inner r p)
  unfolding g.plain_field
  plain_field-takes r p = search (pieces, type-takes, bracketed_options-keeps) depth 20

  label_in-keeps : (s : Syntax) (mode : g.Mode) (rs : List _) → Keeps (g.label_in s mode rs)
  unfolding g.label_in
  label_in-keeps s mode [] = record { keeps = λ a. (let h : Keeps (given g.label_required s mode then refuse LabelRequired else return none) = search rules depth 8 in h).keeps a }
  label_in-keeps s mode (r ∷ rs) = record { keeps = λ a. (keeps-bind _ _ (keeps-peek _) (λ b. keeps_if b _ _ (search rules depth 8) (label_in-keeps s mode rs))).keeps a }

  label-keeps : (s : Syntax) (mode : g.Mode) → Keeps (g.label s mode)
  unfolding g.label
  label-keeps s mode = search (rules, label_in-keeps) depth 12

  pub field-takes : (s : Syntax) (mode : g.Mode) → Takes (g.field s inner mode)
  unfolding g.field
  field-takes s mode = takes_bindʳ _ _ keeps_here (λ p. takes_bindʳ _ _ (label-keeps s mode) (λ r. search (rules, group-takes, plain_field-takes) depth 12))

  pub enum_value-takes : Takes (g.enum_value inner)
  unfolding g.enum_value
  enum_value-takes = search (pieces, bracketed_options-keeps) depth 20

  pub enum_statement-takes : Takes (g.enum_statement inner)
  unfolding g.enum_statement
  enum_statement-takes = takes-accept _ _ _ (keeps-return nothing) (search (pieces, option_statement-takes, enum_value-takes) depth 12)

  pub enum-takes : (p : Place) → Takes (g.enum inner p)
  unfolding g.enum
  enum-takes p = search (pieces, enum_statement-takes) depth 20

  pub extend_fields-takes : Takes (g.extend_fields inner)
  unfolding g.extend_fields
  extend_fields-takes = search (pieces, inner_takes) depth 12

  pub named_body-takes : (mode : g.Mode) (item : Bytes → _) → Takes (g.named_body inner mode item)
  unfolding g.named_body
  named_body-takes mode item = search (pieces, inner_takes) depth 12

  pub option_or_field-takes : (s : Syntax) (mode : g.Mode) → Takes (g.option_or_field s inner mode)
  unfolding g.option_or_field
  option_or_field-takes s mode = search (rules, option_statement-takes, field-takes) depth 12

  extensions_or-takes : (s : Syntax) (q : Parser Forest) → Takes q → Takes (g.extensions_or s q)
  extensions_or-takes Syntax.Proto2 q h = search (rules, extensions-takes) depth 12
  extensions_or-takes Syntax.Proto3 q h = takes_thenʳ _ _ (search rules) h

  pub declaration-takes : (s : Syntax) (p : Place) (mode : g.Mode) → Takes (g.declaration s inner p mode)
  unfolding g.declaration
  declaration-takes s p g.Mode.message = search (rules, reserved-takes, named_body-takes, extend_fields-takes, enum-takes, extensions_or-takes, option_or_field-takes) depth 16
  declaration-takes s p g.Mode.oneof = takes_thenʳ _ _ (search rules) (option_or_field-takes s g.Mode.oneof)
  declaration-takes s p g.Mode.extend = takes_thenʳ _ _ (search rules) (field-takes s g.Mode.extend)

  pub statement-takes : (s : Syntax) (mode : g.Mode) → Takes (g.statement s inner mode)
  unfolding g.statement
  statement-takes s mode = takes_bindʳ _ _ keeps_here (λ p. takes-accept _ _ _ (keeps-return nothing) (declaration-takes s p mode))

  pub layer-takes : (s : Syntax) (b : g.Bracket) → Takes (g.layer s inner b)
  unfolding g.message_of g.list_of g.map_of g.body_of
  layer-takes s g.Bracket.message_constant = search (pieces, entry-takes) depth 16
  layer-takes s g.Bracket.list_constant = search (pieces, list_items-takes) depth 16
  layer-takes s g.Bracket.map_type = search (pieces, type-takes) depth 16
  layer-takes s (g.Bracket.body mode) = search (pieces, statement-takes) depth 16

  pub method_options-takes : Takes (g.method_options inner)
  unfolding g.method_options
  method_options-takes = takes-accept _ _ _ (search (pieces, option_statement-takes) depth 16) (search rules depth 8)

  method_options-keeps : Keeps (g.method_options inner)
  method_options-keeps = takes-keeps _ method_options-takes

  pub stream-takes : Takes (g.stream inner)
  unfolding g.stream
  stream-takes = search (pieces, method_options-takes) depth 24

  pub rpc-takes : Takes (g.rpc inner)
  unfolding g.rpc
  rpc-takes = takes-bind _ _ (takes-expect _ _) (λ n. search (keeping, expect-keeps, full_ident-keeps, method_options-keeps) depth 30)

  stream_or-takes : (s : Syntax) (q : Parser Forest) → Takes q → Takes (g.stream_or s inner q)
  stream_or-takes Syntax.Proto2 q h = search (rules, stream-takes) depth 12
  stream_or-takes Syntax.Proto3 q h = h

  pub service_statement-takes : (s : Syntax) → Takes (g.service_statement s inner)
  unfolding g.service_statement
  service_statement-takes s = search (rules, rpc-takes, stream_or-takes, option_statement-takes, empty_statement-takes) depth 12

  pub service-takes : (s : Syntax) (p : Place) → Takes (g.service s inner p)
  unfolding g.service
  service-takes s p = search (pieces, service_statement-takes) depth 20

pub no_room-takes : (s : ℕ) → Takes (g.no_room s)
unfolding g.no_room
no_room-takes s = takes_bindʳ _ _ (keeps-peek _) (λ b. takes_if b _ _ (search rules) (search rules depth 8))

-- every bracket, at every depth
pub nested-takes : (s : Syntax) (room : ℕ) (b : g.Bracket) → Takes (g.nested s room b)
unfolding g.nested
nested-takes s zero b = record { takes = λ a. (no_room-takes (g.opening b)).takes a }
nested-takes s (suc room) b = record { takes = λ a. (layer-takes (g.nested s room) (nested-takes s room) s b).takes a }

pub import-takes : Takes g.import
unfolding g.import
import-takes = takes_bindʳ _ _ (search rules depth 8) (λ v. search basics depth 16)

pub top_statement-takes : (s : Syntax) → Takes (g.top_statement s)
unfolding g.top_statement g.package_statement
top_statement-takes s = takes_bindʳ _ _ keeps_here (λ p. search (basics, import-takes, option_statement-takes, named_body-takes, enum-takes, extend_fields-takes, service-takes, empty_statement-takes, nested-takes) depth 20)

-- so the repetition of the file unfolds, as all others do
pub top_turns : (s : Syntax) → Turns (g.top_turn s)
unfolding g.top_turn
top_turns s = search (rules, top_statement-takes) depth 12

-- ---- the theorems
pub productions_take : ProductionsTake
productions_take = record {
  names = (dotted-takes, full_ident-takes, group_name-takes);
  numbers = (field_number-takes, enum_number-takes, signed_number-takes);
  strings = decoded_string-takes;
  keys = key-takes;
  option_parts = option_part-takes;
  ranges = (extensions-takes, reserved-takes);
  imports = import-takes;
  brackets = nested-takes;
  constants = λ s n. constant-takes (g.nested s n) (nested-takes s n);
  options = λ s n. option-takes (g.nested s n) (nested-takes s n);
  types = λ s n. type-takes (g.nested s n) (nested-takes s n);
  fields = λ s n mode. field-takes (g.nested s n) (nested-takes s n) s mode;
  enums = λ s n p. enum-takes (g.nested s n) (nested-takes s n) p;
  statements = λ s n mode. statement-takes (g.nested s n) (nested-takes s n) s mode;
  services = λ s n p. service-takes (g.nested s n) (nested-takes s n) s p;
  top_level = top_statement-takes;
}

pub repetitions_unfold : RepetitionsUnfold
repetitions_unfold = record {
  dots = many-turn _ _ _ (turn-after _ _ (takes-map _ _ (takes-expect _ _))).onward;
  separated_by = λ s item h. many-turn _ _ _ (turn-after s item h).onward;
  until = λ s item h. many-turn _ _ _ (turn_unless s item h).onward;
  statements = λ s. many-turn _ _ _ (top_turns s).onward;
}
