-- What is still to be read of a constant or a type, where a reader stands that loops over the brackets that are open.
use Rattle.std.specs.Prelude.{ℕ, suc, Bool, ◌||◌, List, [], ◌∷◌, ◌++◌, Option}
use Rattle.token.specs.Token.{Token, Ahead}
use Rattle.grammar.specs.declared.kinds.Syntax.{Syntax}
use Rattle.grammar.specs.Parse.{Reply, ok, refused, Parser, bind, accept, is_symbol, symbol_due, many, after_next, unless_next}
use Rattle.grammar.specs.Tree.{Forest, nothing, ◌beside◌}
use Rattle.grammar.specs.Grammar as g
use Rattle.reader.specs.declared.frames.Frame.{Frame}
use Rattle.reader.specs.declared.frames.Due.{Due}
use Rattle.reader.specs.Events.{Event, closes, events}

-- what has been done, before what is still to be done
abbrev pub after : List Event → Reply (List Event) → Reply (List Event)
after es (ok fs b) = ok (es ++ fs) b
after es (refused why b) = refused why b

abbrev pub Rest : Type 0
Rest = Ahead → Reply (List Event)

abbrev pub done : Rest
done a = ok [] a

-- the innermost record is closed, and then k
abbrev pub closing : Rest → Rest
closing k a = after (closes ∷ []) (k a)

-- a forest, and then k
unfoldable pub run : Parser Forest → Rest → Rest
run p k a = bind (p a) (λ f b. after (events f) (k b))

-- the closing bracket of a map, and then k
abbrev pub map_ends : Rest → Rest
map_ends k a = bind (symbol_due g.angle_end a) (λ _. closing k)

-- items until none follows, their closing bracket, and then k
unfoldable pub row_then : Parser (Option Forest) → ℕ → Rest → Rest
row_then turn bracket k a = bind (many ◌beside◌ nothing turn a) (λ f b. after (events f) (bind (symbol_due bracket b) (λ _. closing k)))

abbrev pub separator : Token → Bool
separator t = is_symbol g.comma t || is_symbol g.semicolon t

module _ (s : Syntax) where
  abbrev pub item_turn : ℕ → Parser (Option Forest)
  item_turn room = after_next g.comma (g.constant (g.nested s room))

  abbrev pub entry_turn : ℕ → Parser (Option Forest)
  entry_turn room = unless_next g.brace_end (g.entry (g.nested s room))

  -- what the open brackets, the innermost first, have still to do after a constant, in a map after a type
  unfoldable pub resume : ℕ → List Frame → Rest
  resume room [] a = ok [] a
  resume room (Frame.ListConstant ∷ fs) a = row_then (item_turn room) g.bracket_end (resume (suc room) fs) a
  resume room (Frame.MessageConstant ∷ fs) a = closing (λ b. bind (accept separator b) (λ _. row_then (entry_turn room) g.brace_end (resume (suc room) fs))) a
  resume room (Frame.MapKey ∷ fs) a = bind (symbol_due g.comma a) (λ _. run (g.type (g.nested s room)) (map_ends (resume (suc room) fs)))
  resume room (Frame.MapValue ∷ fs) a = map_ends (resume (suc room) fs) a

  -- where the innermost bracket is closed
  abbrev pub popped : ℕ → List Frame → Rest
  popped room [] = done
  popped room (f ∷ fs) = resume (suc room) fs

  abbrev pub ahead : ℕ → List Frame → Due → Rest
  ahead room fs Due.Constant = run (g.constant (g.nested s room)) (resume room fs)
  ahead room fs Due.Message = run (g.nested s room g.message_constant) (resume room fs)
  ahead room fs Due.List = run (g.nested s room g.list_constant) (resume room fs)
  ahead room fs Due.Entry = row_then (entry_turn room) g.brace_end (popped room fs)
  ahead room fs Due.Nothing = resume room fs
  ahead room fs Due.Type = run (g.type (g.nested s room)) (resume room fs)
  ahead room fs Due.Map = run (g.nested s room g.map_type) (resume room fs)
