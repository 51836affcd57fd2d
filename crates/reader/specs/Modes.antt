-- The bodies in which fields stand, as the grammar has them.
use Rattle.std.specs.Prelude.{Bool, true, false}
use Rattle.grammar.specs.declared.kinds.Syntax.{Syntax}
use Rattle.grammar.specs.declared.kinds.Syntax.TheVariants.{Proto2, Proto3}
use Rattle.grammar.specs.declared.kinds.Rule.{Rule}
use Rattle.grammar.specs.declared.fault.ParserError.TheVariants.{LabelNotAllowed}
use Rattle.grammar.specs.Kinds.{rule_word}
use Rattle.grammar.specs.Parse.{Parser, ◌>>=◌, ◌>>◌, return, refuse, given◌then◌else◌, take, next_is_word}
use Rattle.grammar.specs.Grammar.{Mode, message, oneof, extend, label_allowed}
use Rattle.reader.specs.declared.modes.MessageBodyParseMode.{MessageBodyParseMode}
use Rattle.reader.specs.declared.modes.MessageBodyParseMode.TheVariants.{MessageProto2, MessageProto3, Oneof, ExtendProto2, ExtendProto3}

-- in a oneof the syntax does not matter
abbrev pub syntax_in : MessageBodyParseMode → Syntax
syntax_in MessageProto2 = Proto2
syntax_in MessageProto3 = Proto3
syntax_in Oneof = Proto3
syntax_in ExtendProto2 = Proto2
syntax_in ExtendProto3 = Proto3

abbrev pub mode_in : MessageBodyParseMode → Mode
mode_in MessageProto2 = message
mode_in MessageProto3 = message
mode_in Oneof = oneof
mode_in ExtendProto2 = extend
mode_in ExtendProto3 = extend

-- this label is taken if it comes and is allowed
unfoldable pub label_if : Syntax → Mode → Rule → Parser Bool
label_if s mode r = do
  it_is ← next_is_word (rule_word r)
  given it_is
      then (given label_allowed s mode r then (do take; return true) else refuse LabelNotAllowed)
      else return false
