-- Reading goes on: a production takes a token where it succeeds, so a repetition is one turn and then the repetition again.
use Rattle.std.specs.Prelude.{◌≡◌, ℕ, suc, ◌<◌, [], ◌∷◌, ◌++◌, Some as some, None as none, Option}
use Rattle.grammar.specs.declared.kinds.Syntax.{Syntax}
use Rattle.token.specs.declared.answer.Place.{Place}
use Rattle.token.specs.Token.{Ahead, count}
use Rattle.grammar.specs.Parse.{Reply, ok, refused, Parser, ◌>>=◌, ◌<$>◌, ident_due, after_turn, many, unless_next, after_next}
use Rattle.grammar.specs.Tree.{Forest, nothing, ◌beside◌}
use Rattle.grammar.specs.Grammar as g

-- fewer than so many tokens are left, where the reader succeeds
abbrev pub Left : {A : Type 0} → ℕ → Reply A → Type 0
Left n (ok x b) = count b < n
Left n (refused e b) = Unit {0}

-- a reader adds no token
pub record Keeps {A : Type 0} (p : Parser A) : Type 0 where
  pub keeps : (a : Ahead) → Left (suc (count a)) (p a)

-- a reader takes a token where it succeeds
pub record Takes {A : Type 0} (p : Parser A) : Type 0 where
  pub takes : (a : Ahead) → Left (count a) (p a)

-- a turn that goes on takes a token
abbrev pub Onward : {A : Type 0} → Ahead → Reply (Option A) → Type 0
Onward a (ok none b) = Unit {0}
Onward a (ok (some x) b) = count b < count a
Onward a (refused e b) = Unit {0}

abbrev pub Consumes : {A : Type 0} → Parser (Option A) → Type 0
Consumes turn = (a : Ahead) → Onward a (turn a)

-- `many` is one turn, and then `many` again
abbrev pub Unfolds : {A B : Type 0} → (A → B → B) → B → Parser (Option A) → Type 0
Unfolds add stop turn = (a : Ahead) → many add stop turn a ≡ (turn >>= after_turn add stop (many add stop turn)) a

-- ---- the theorems
-- every production takes a token where it succeeds, with so many brackets still to open
pub record ProductionsTake : Type 0 where
  pub names : Takes g.dotted × Takes g.full_ident × Takes g.group_name
  pub numbers : Takes g.field_number × Takes g.enum_number × ((negative : _) → Takes (g.signed_number negative))
  pub strings : Takes g.decoded_string
  pub keys : Takes g.key
  pub option_parts : Takes g.option_part
  pub ranges : Takes g.extensions × ((max : ℕ) → Takes (g.reserved max))
  pub imports : Takes g.import
  pub brackets : (s : Syntax) (n : ℕ) (b : g.Bracket) → Takes (g.nested s n b)
  pub constants : (s : Syntax) (n : ℕ) → Takes (g.constant (g.nested s n))
  pub options : (s : Syntax) (n : ℕ) → Takes (g.option (g.nested s n))
  pub types : (s : Syntax) (n : ℕ) → Takes (g.type (g.nested s n))
  pub fields : (s : Syntax) (n : ℕ) (mode : g.Mode) → Takes (g.field s (g.nested s n) mode)
  pub enums : (s : Syntax) (n : ℕ) (p : Place) → Takes (g.enum (g.nested s n) p)
  pub statements : (s : Syntax) (n : ℕ) (mode : g.Mode) → Takes (g.statement s (g.nested s n) mode)
  pub services : (s : Syntax) (n : ℕ) (p : Place) → Takes (g.service s (g.nested s n) p)
  pub top_level : (s : Syntax) → Takes (g.top_statement s)

-- every repetition of the grammar unfolds
pub record RepetitionsUnfold : Type 0 where
  pub dots : Unfolds ◌++◌ [] (after_next g.dot ((λ w. g.dot ∷ w) <$> ident_due))
  pub separated_by : (s : ℕ) (item : Parser Forest) → Takes item → Unfolds ◌beside◌ nothing (after_next s item)
  pub until : (s : ℕ) (item : Parser Forest) → Takes item → Unfolds ◌beside◌ nothing (unless_next s item)
  pub statements : (s : Syntax) → Unfolds g.add_top (g.empty_tree s) (g.top_turn s)
