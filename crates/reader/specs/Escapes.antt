-- Where a decoder of escapes stands, as the definitions have it.
use Rattle.std.specs.Prelude.{ℕ, [], ◌∷◌, ◌++◌, Some, None, Option}
use Rattle.token.specs.Token.{Bytes}
use Rattle.grammar.specs.Decode as d
use Rattle.reader.specs.declared.decode.escapes.Within.{Within}
use Rattle.reader.specs.declared.decode.escapes.Within.TheVariants.{Plain, Backslash, HexDue, HexOne, OctalOne, OctalTwo}
use Rattle.reader.specs.declared.decode.escapes.Turn.{Turn}

abbrev pub within_of : Within → d.Within
within_of Plain = d.plain
within_of Backslash = d.backslash
within_of HexDue = d.hex_due
within_of (HexOne v) = d.hex_one v.value
within_of (OctalOne v) = d.octal_one v.value
within_of (OctalTwo v) = d.octal_two v.value

abbrev pub listed : Option ℕ → Bytes
listed None = []
listed (Some b) = b ∷ []

-- the bytes that a turn completes
abbrev pub completed : Turn → Bytes
completed t = listed t.first ++ listed t.second

abbrev pub turned : Option Turn → d.Step
turned None = None
turned (Some t) = Some (completed t, within_of t.within)

-- ---- what is complete at the end of the string
abbrev pub finished : Option Turn → Option Bytes
finished None = None
finished (Some t) = Some (completed t)
