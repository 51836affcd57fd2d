-- Each production of the grammar is blind to places.
use Rattle.std.proofs.Common.{◌≡◌, ℕ, zero, suc, Bool, ◌||◌, List, [], ◌∷◌, None as none, Option, sym, refl, ap, ap₂}
use Rattle.token.specs.declared.answer.Place.{Place}
use Rattle.token.specs.Token.{Token, Bytes, nowhere}
use Rattle.grammar.specs.Parse.{Parser, ◌<$>◌}
use Rattle.grammar.specs.declared.kinds.Syntax.{Syntax}
use Rattle.grammar.specs.declared.kinds.Rule.{Rule}
use Rattle.grammar.specs.Tree.{Item, Forest, nothing, node, one, Tree}
use Rattle.grammar.specs.Grammar as g
use Rattle.grammar.specs.declared.fault.ParserError.TheVariants.{LabelRequired}
use Rattle.grammar.specs.Kinds.{scalars}
use Rattle.round_trip.specs.Alike.{item_erased, forest_erased, tree_erased}
use Rattle.round_trip.proofs.Blind.{kept, on_some, Blind, blinding, blind_return, blind_refuse, blind_if, blind_with, blind_look, bind-kept, then_kept, map_forest, return_kept, return_forest, blind_due, blind_peek, blind_accept, blind_expect, turn_stop, turn_goes, blind_many, erased_beside}

-- a reader of a value without places; a reader of a forest
abbrev Plain : {A : Type 0} → Parser A → Type 0
Plain p = Blind kept p p

abbrev Reads : Parser Forest → Type 0
Reads p = Blind forest_erased p p

pub dotted_blind : Plain g.dotted
unfolding g.dotted
dotted_blind = search blinding depth 12

pub full_ident_blind : Plain g.full_ident
unfolding g.full_ident
full_ident_blind = search (blinding, dotted_blind) depth 12

pub group_name_blind : Plain g.group_name
unfolding g.group_name
group_name_blind = search blinding depth 12

pub field_number_blind : Plain g.field_number
unfolding g.field_number
field_number_blind = search blinding depth 12

pub enum_number_blind : Plain g.enum_number
unfolding g.enum_number
enum_number_blind = search blinding depth 12

pub decoded_string_blind : Plain g.decoded_string
unfolding g.decoded_string
decoded_string_blind = search blinding depth 12

ruleset basics = (blinding, dotted_blind, full_ident_blind, group_name_blind, field_number_blind, enum_number_blind, decoded_string_blind)

pub separated_blind : (s : ℕ) (item : Parser Forest) → Reads item → Reads (g.separated s item)
unfolding g.separated
separated_blind s item h = search blinding depth 12

pub signed_number_blind : (b : Bool) → Reads (g.signed_number b)
unfolding g.signed_number
signed_number_blind b = search blinding depth 12

pub key_end_blind : (name : Bytes) → Plain (g.key_end name)
unfolding g.key_end
key_end_blind name = search basics depth 12

pub key_blind : Plain g.key
unfolding g.key
key_blind = search (basics, key_end_blind) depth 12

pub option_part_blind : Reads g.option_part
unfolding g.option_part
option_part_blind = search basics depth 12

pub range_blind : (item : ℕ → ℕ → Item) (plain : (m n : ℕ) → item m n ≡ item_erased (item m n)) (max : ℕ) → Reads (g.range item max)
unfolding g.range
range_blind item plain max = search basics depth 12

pub extensions_blind : Reads g.extensions
unfolding g.extensions
extensions_blind = search (basics, separated_blind, range_blind) depth 12

pub reserved_blind : (max : ℕ) → Reads (g.reserved max)
unfolding g.reserved
reserved_blind max = search (basics, separated_blind, range_blind) depth 16

pub empty_statement_blind : Reads g.empty_statement
unfolding g.empty_statement
empty_statement_blind = search blinding depth 8

ruleset pieces = (basics, separated_blind, option_part_blind, range_blind, extensions_blind, reserved_blind, empty_statement_blind)

has_oneof-erased : (f : Forest) → g.has_oneof (forest_erased f) ≡ g.has_oneof f
has_oneof-erased nothing = refl
has_oneof-erased (node i p r) = ap₂ ◌||◌ (item-same i) (has_oneof-erased r)
  where
    item-same : (i : Item) → g.is_oneof (item_erased i) ≡ g.is_oneof i
    item-same (Item.import v p) = refl
    item-same Item.option = refl
    item-same (Item.direct_part n) = refl
    item-same (Item.extension_part p) = refl
    item-same (Item.constant v) = refl
    item-same (Item.key k) = refl
    item-same (Item.reserved_range m n) = refl
    item-same (Item.extension_range m n) = refl
    item-same (Item.reserved_name n) = refl
    item-same (Item.message n p) = refl
    item-same (Item.field r n k p) = refl
    item-same (Item.type s) = refl
    item-same (Item.oneof n p) = refl
    item-same (Item.extension p) = refl
    item-same (Item.enum n p) = refl
    item-same (Item.enum_value n k) = refl
    item-same (Item.service n p) = refl
    item-same (Item.method n ci i co o) = refl

extensions_of-erased : (w : Bytes) (f : Forest) → g.extensions_of w (forest_erased f) ≡ forest_erased (g.extensions_of w f)
extensions_of-erased w nothing = refl
extensions_of-erased w (node i p r) = ap (node (Item.extension w) (one (item_erased i) (forest_erased p))) (extensions_of-erased w r)

-- what a body's kind does with a name, and the place that it was handed erased
abbrev Erases : (Bytes → Item) → (Bytes → Item) → Type 0
Erases i j = (n : Bytes) → i n ≡ item_erased (j n)

module _ (inner : g.Inner) (inner_blind : (b : g.Bracket) → Reads (inner b)) where
  pub constant_at_blind : (t : Token) → Reads (g.constant_at inner t)
  unfolding g.constant_at
  constant_at_blind (Token.symbol b) = search (basics, inner_blind, signed_number_blind) depth 12
  constant_at_blind (Token.number n) = search basics depth 12
  constant_at_blind (Token.ident w) = search basics depth 12
  constant_at_blind (Token.float w) = search basics depth 12
  constant_at_blind (Token.string w) = search basics depth 12

  pub constant_blind : Reads (g.constant inner)
  constant_blind = blind_due _ _ _ constant_at_blind

  pub entry_blind : Reads (g.entry inner)
  unfolding g.entry
  entry_blind = search (basics, key_blind, constant_blind, inner_blind) depth 16

  pub list_items_blind : Reads (g.list_items inner)
  unfolding g.list_items
  list_items_blind = search (basics, separated_blind, constant_blind) depth 16

  pub option_blind : Reads (g.option inner)
  unfolding g.option
  option_blind = search (pieces, constant_blind) depth 16

  pub option_statement_blind : Reads (g.option_statement inner)
  unfolding g.option_statement
  option_statement_blind = search (pieces, option_blind) depth 16

  pub bracketed_options_blind : Reads (g.bracketed_options inner)
  unfolding g.bracketed_options
  bracketed_options_blind = search (pieces, option_blind) depth 16

  scalar_or_blind : (ss : List _) (q : Parser Forest) → Reads q → Reads (g.scalar_or ss q)
  unfolding g.scalar_or
  scalar_or_blind [] q h = record { blind = λ a. h.blind a }
  scalar_or_blind (s ∷ ss) q h = record { blind = λ a. (bind-kept forest_erased _ _ _ _ (blind_accept _) (λ b. blind_if forest_erased b _ _ _ _ (return_forest _ _ refl) (scalar_or_blind ss q h))).blind a }

  pub type_blind : Reads (g.type inner)
  unfolding g.type
  type_blind = scalar_or_blind scalars _ (search (pieces, inner_blind) depth 16)

  pub group_blind : (r : Option Rule) (p : Place) → Blind forest_erased (g.group inner r nowhere) (g.group inner r p)
  unfolding g.group
  group_blind r p = search (pieces, inner_blind, has_oneof-erased) depth 20

  pub plain_field_blind : (r : Option Rule) (p : Place) → Blind forest_erased (g.plain_field inner r nowhere) (g.plain_field inner r p)
  unfolding g.plain_field
  plain_field_blind r p = search (pieces, type_blind, bracketed_options_blind) depth 20

  label_in_blind : (s : Syntax) (mode : g.Mode) (rs : List Rule) → Plain (g.label_in s mode rs)
  unfolding g.label_in
  label_in_blind s mode [] = record { blind = λ a. (blind_if kept (g.label_required s mode) _ _ _ _ (blind_refuse kept LabelRequired) (return_kept none)).blind a }
  label_in_blind s mode (r ∷ rs) = record { blind = λ a. (bind-kept kept _ _ _ _ (blind_peek _) (λ b. blind_if kept b _ _ _ _ (search blinding depth 8) (label_in_blind s mode rs))).blind a }

  label_blind : (s : Syntax) (mode : g.Mode) → Plain (g.label s mode)
  unfolding g.label
  label_blind s mode = search (blinding, label_in_blind) depth 12

  pub field_blind : (s : Syntax) (mode : g.Mode) → Reads (g.field s inner mode)
  unfolding g.field
  field_blind s mode = search (blinding, label_blind, group_blind, plain_field_blind) depth 12

  pub enum_value_blind : Reads (g.enum_value inner)
  unfolding g.enum_value
  enum_value_blind = search (pieces, bracketed_options_blind) depth 20

  pub enum_statement_blind : Reads (g.enum_statement inner)
  unfolding g.enum_statement
  enum_statement_blind = search (pieces, option_statement_blind, enum_value_blind) depth 12

  pub enum_blind : (p : Place) → Blind forest_erased (g.enum inner nowhere) (g.enum inner p)
  unfolding g.enum
  enum_blind p = search (pieces, enum_statement_blind) depth 20

  pub extend_fields_blind : Reads (g.extend_fields inner)
  unfolding g.extend_fields
  extend_fields_blind = search (pieces, inner_blind, extensions_of-erased) depth 12

  pub named_body_blind : (mode : g.Mode) (i j : Bytes → Item) → Erases i j → Blind forest_erased (g.named_body inner mode i) (g.named_body inner mode j)
  unfolding g.named_body
  named_body_blind mode i j h = search (pieces, inner_blind) depth 12

  pub option_or_field_blind : (s : Syntax) (mode : g.Mode) → Reads (g.option_or_field s inner mode)
  unfolding g.option_or_field
  option_or_field_blind s mode = search (blinding, option_statement_blind, field_blind) depth 12

  extensions_or_blind : (s : Syntax) (q : Parser Forest) → Reads q → Reads (g.extensions_or s q)
  extensions_or_blind Syntax.Proto2 q h = search (blinding, extensions_blind) depth 12
  extensions_or_blind Syntax.Proto3 q h = search blinding depth 12

  pub declaration_blind : (s : Syntax) (p : Place) (mode : g.Mode) → Blind forest_erased (g.declaration s inner nowhere mode) (g.declaration s inner p mode)
  unfolding g.declaration
  declaration_blind s p g.Mode.message = search (blinding, reserved_blind, named_body_blind, extend_fields_blind, enum_blind, extensions_or_blind, option_or_field_blind) depth 16
  declaration_blind s p g.Mode.oneof = search (blinding, option_or_field_blind) depth 8
  declaration_blind s p g.Mode.extend = search (blinding, field_blind) depth 8

  pub statement_blind : (s : Syntax) (mode : g.Mode) → Reads (g.statement s inner mode)
  unfolding g.statement
  statement_blind s mode = search (blinding, declaration_blind) depth 12

  pub layer_blind : (s : Syntax) (b : g.Bracket) → Reads (g.layer s inner b)
  unfolding g.message_of g.list_of g.map_of g.body_of
  layer_blind s g.Bracket.message_constant = search (pieces, entry_blind) depth 16
  layer_blind s g.Bracket.list_constant = search (pieces, list_items_blind) depth 16
  layer_blind s g.Bracket.map_type = search (pieces, type_blind) depth 16
  layer_blind s (g.Bracket.body mode) = search (pieces, statement_blind) depth 16

  pub method_options_blind : Reads (g.method_options inner)
  unfolding g.method_options
  method_options_blind = search (pieces, option_statement_blind) depth 16

  pub stream_blind : Reads (g.stream inner)
  unfolding g.stream
  stream_blind = search (pieces, method_options_blind) depth 24

  pub rpc_blind : Reads (g.rpc inner)
  unfolding g.rpc
  rpc_blind = search (basics, method_options_blind) depth 30

  stream_or_blind : (s : Syntax) (q : Parser Forest) → Reads q → Reads (g.stream_or s inner q)
  stream_or_blind Syntax.Proto2 q h = search (blinding, stream_blind) depth 12
  stream_or_blind Syntax.Proto3 q h = h

  pub service_statement_blind : (s : Syntax) → Reads (g.service_statement s inner)
  unfolding g.service_statement
  service_statement_blind s = search (blinding, rpc_blind, stream_or_blind, option_statement_blind, empty_statement_blind) depth 12

  pub service_blind : (s : Syntax) (p : Place) → Blind forest_erased (g.service s inner nowhere) (g.service s inner p)
  unfolding g.service
  service_blind s p = search (pieces, service_statement_blind) depth 20

pub no_room_blind : (s : ℕ) → Reads (g.no_room s)
unfolding g.no_room
no_room_blind s = search blinding depth 12

-- every bracket, at every depth
pub nested_blind : (s : Syntax) (room : ℕ) (b : g.Bracket) → Reads (g.nested s room b)
unfolding g.nested
nested_blind s zero b = record { blind = λ a. (no_room_blind (g.opening b)).blind a }
nested_blind s (suc room) b = record { blind = λ a. (layer_blind (g.nested s room) (nested_blind s room) s b).blind a }

pub import_blind : Reads g.import
unfolding g.import
import_blind = search basics depth 16

pub syntax_blind : Plain g.syntax
unfolding g.syntax
syntax_blind = search basics depth 16

-- ---- the file
abbrev top_erased : g.Top → g.Top
top_erased (g.Top.in_package p) = g.Top.in_package p
top_erased (g.Top.items f) = g.Top.items (forest_erased f)

map-items : (p q : Parser Forest) → Blind forest_erased p q → Blind top_erased (g.Top.items <$> p) (g.Top.items <$> q)
map-items p q h = map_forest top_erased g.Top.items g.Top.items p q (λ x. refl) h

package_blind : Blind top_erased g.package_statement g.package_statement
unfolding g.package_statement
package_blind = bind-kept top_erased _ _ _ _ dotted_blind (λ n. then_kept top_erased _ _ _ _ (blind_expect _ _) (blind_return top_erased _ _ refl))

pub top_statement_blind : (s : Syntax) → Blind top_erased (g.top_statement s) (g.top_statement s)
unfolding g.top_statement
top_statement_blind s = search (blinding, map-items, package_blind, import_blind, option_statement_blind, named_body_blind, enum_blind, extend_fields_blind, service_blind, empty_statement_blind, nested_blind) depth 16

add_top-erased : (x : g.Top) (t : Tree) → g.add_top (top_erased x) (tree_erased t) ≡ tree_erased (g.add_top x t)
add_top-erased (g.Top.in_package p) t = refl
add_top-erased (g.Top.items f) t = ap (λ i. record { syntax = t.syntax; packages = t.packages; items = i }) (sym (erased_beside f t.items))

pub top_turn_blind : (s : Syntax) → Blind (on_some top_erased) (g.top_turn s) (g.top_turn s)
unfolding g.top_turn
top_turn_blind s = bind-kept (on_some top_erased) _ _ _ _ blind_look (λ t. blind_with (on_some top_erased) t _ _ _ _ (λ x. turn_goes top_erased _ _ (top_statement_blind s)) (turn_stop top_erased))

-- the whole reader is blind to places
pub file_blind : Blind tree_erased g.file g.file
unfolding g.file
file_blind =
    bind-kept tree_erased _ _ _ _ syntax_blind (λ s.
    blind_many top_erased tree_erased g.add_top (g.empty_tree s) refl add_top-erased _ _
    (top_turn_blind s))
