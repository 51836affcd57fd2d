-- What a call answers, as a reply of the definitions, and what it has kept in the store.
use Rattle.std.specs.Prelude.{◌≡◌, ◌≤◌, length, Ok, Err, Result}
use Rattle.token.specs.Token.{Bytes, Ahead, next, end, fault, spelled, taken}
use Rattle.grammar.specs.declared.fault.ReadFault.{ReadFault}
use Rattle.grammar.specs.declared.fault.ParserError.{ParserError}
use Rattle.grammar.specs.declared.fault.ParserError.TheVariants.{EndOfFile}
use Rattle.grammar.specs.Parse as grammar
use Rattle.grammar.specs.Parse.{Reply, ok, refused}
use Rattle.grammar.specs.Tree as tree
use Rattle.grammar.specs.Tree.{Forest}
use Rattle.store.specs.declared.parts.Item.{Item}
use Rattle.store.specs.declared.parts.Key.{Key}
use Rattle.store.specs.declared.parts.Span.{Span}
use Rattle.store.specs.Items.{bytes_of}
use Rattle.store.specs.Held.{Held, held, most_text}
use Rattle.store.specs.Means.{Grew, Kept, Texted, Reads}
use Rattle.reader.specs.declared.parser.Parser.{Parser}

-- the reply that a call gave, where this is ahead of its source then
abbrev pub gave : {A : Type 0} → Result A ReadFault → Ahead → Reply A
gave (Ok x) a = ok x a
gave (Err e) a = refused e a

-- what is refused where another token was due: at the end, that the file ends
abbrev pub missing : ParserError → Ahead → ParserError
missing n (next t p a) = n
missing n (end p) = EndOfFile
missing n (fault f p) = n

-- these bytes were appended: where the text table holds all, they are its last
pub record Wrote (old new : Held) (w : Bytes) : Type 0 where
  pub texted : Texted old new (length w)
  pub is : new.used ≤ most_text → bytes_of new.bytes (record { from = old.used; to = new.used }) ≡ w

-- where the text that was appended stands
abbrev pub appended : Held → Held → Span
appended old new = record { from = old.used; to = new.used }

-- a call that reads a text: its bytes are appended, and the span is where they stand
abbrev pub GivesText : Held → Held → Result Span ReadFault → Ahead → Reply Bytes → Type 0
GivesText old new (Ok s) b reply = (w : Bytes) × (reply ≡ ok w b) × (s ≡ appended old new) × Wrote old new w
GivesText old new (Err e) b reply = (reply ≡ refused e b) × Grew old new

-- a call that reads a forest: its records are appended at the innermost level
abbrev pub GivesForest : Held → Held → Result (Unit {0}) ReadFault → Ahead → Reply Forest → Type 0
GivesForest old new (Ok u) b reply = (f : Forest) × (reply ≡ ok f b) × Kept old new f
GivesForest old new (Err e) b reply = (reply ≡ refused e b) × Grew old new

-- a call that reads a name in a message constant: its texts are appended, and its record is still to be made
abbrev pub GivesKey : Held → Held → Result Key ReadFault → Ahead → Reply tree.Key → Type 0
GivesKey old new (Ok k) b reply = (x : tree.Key) × (reply ≡ ok x b) × Texted old new (tree.key_text x) × (new.used ≤ most_text → Reads new (Item.Name k) (tree.Item.key x))
GivesKey old new (Err e) b reply = (reply ≡ refused e b) × Grew old new

-- ---- the same of a parser, which takes its tokens and keeps what it reads in its store
module _ {S : Type 0} where
  -- what its store holds
  abbrev pub kept : Parser S → Held
  kept p = held p.out.now

  -- the store and the source that were lent to it are still the same
  pub record KeepsLoans (old new : Parser S) : Type 0 where
    pub store : new.out.ghost_name ≡ old.out.ghost_name
    pub source : new.source.ghost_name ≡ old.source.ghost_name

  -- in each of these, what is ahead of a source comes first
  module _ (ahead : S → Ahead) where
    -- the text of what comes next is appended, and nothing is taken
    pub record Copies (old new : Parser S) : Type 0 where
      pub text : Wrote (kept old) (kept new) (spelled (ahead old.source.now))
      pub rest : ahead new.source.now ≡ ahead old.source.now
      pub same : KeepsLoans old new

    -- a token is taken, and its text is kept
    pub record TakesText (old new : Parser S) (span : Span) : Type 0 where
      pub text : Wrote (kept old) (kept new) (spelled (ahead old.source.now))
      pub at : span ≡ appended (kept old) (kept new)
      pub rest : ahead new.source.now ≡ taken (ahead old.source.now)
      pub same : KeepsLoans old new

    abbrev pub ReadsText : Parser S → Parser S → Result Span ReadFault → grammar.Parser Bytes → Type 0
    ReadsText old new r production = GivesText (kept old) (kept new) r (ahead new.source.now) (production (ahead old.source.now))

    abbrev pub ReadsForest : Parser S → Parser S → Result (Unit {0}) ReadFault → grammar.Parser Forest → Type 0
    ReadsForest old new r production = GivesForest (kept old) (kept new) r (ahead new.source.now) (production (ahead old.source.now))

    abbrev pub ReadsKey : Parser S → Parser S → Result Key ReadFault → grammar.Parser tree.Key → Type 0
    ReadsKey old new r production = GivesKey (kept old) (kept new) r (ahead new.source.now) (production (ahead old.source.now))
