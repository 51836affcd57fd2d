-- The numbers, layers and places of refusals.
use Rattle.std.specs.Prelude.{ℕ}
use Rattle.token.specs.declared.answer.Place.{Place}
use Rattle.token.specs.Fault.{fault_number}
use Rattle.grammar.specs.declared.fault.ParserError.{ParserError}
use Rattle.grammar.specs.declared.fault.ReadFault.{ReadFault}
use Rattle.grammar.specs.declared.fault.CatalogueFault.{CatalogueFault}

-- layer 2, the reader
abbrev pub error_number : ParserError → ℕ
error_number ParserError.EndOfFile = 10
error_number ParserError.ExpectSymbol = 11
error_number ParserError.ExpectIdent = 12
error_number ParserError.ExpectWord = 13
error_number ParserError.ExpectString = 14
error_number ParserError.ForbiddenWord = 15
error_number ParserError.IncorrectInput = 20
error_number ParserError.ExpectConstant = 21
error_number ParserError.UnknownSyntax = 22
error_number ParserError.IntegerOverflow = 23
error_number ParserError.LabelNotAllowed = 24
error_number ParserError.LabelRequired = 25
error_number ParserError.GroupNameShouldStartWithUpperCase = 26
error_number ParserError.MapFieldNotAllowed = 27
error_number ParserError.StrLitDecodeError = 28
error_number ParserError.OneOfInGroup = 29
error_number ParserError.PathEmpty = 30
error_number ParserError.PathBackslashes = 31
error_number ParserError.ComponentEmpty = 32
error_number ParserError.ComponentDot = 33
error_number ParserError.ComponentDotDot = 34
error_number ParserError.NestingTooDeep = 35

-- layer 3, the catalogue
abbrev pub catalogue_number : CatalogueFault → ℕ
catalogue_number CatalogueFault.NoFile = 40
catalogue_number CatalogueFault.NoRecords = 41
catalogue_number CatalogueFault.NoText = 42
catalogue_number CatalogueFault.NoSlot = 43
catalogue_number CatalogueFault.BufferShort = 44

-- what stopped the reading: the source, layer 1, or the reader
abbrev pub read_layer : ReadFault → ℕ
read_layer (ReadFault.Source f) = 1
read_layer (ReadFault.Reader f) = 2

abbrev pub read_number : ReadFault → ℕ
read_number (ReadFault.Source f) = fault_number f.fault
read_number (ReadFault.Reader f) = error_number f.error

abbrev pub read_place : ReadFault → Place
read_place (ReadFault.Source f) = f.place
read_place (ReadFault.Reader f) = f.place
