-- How a string is decoded into the store, as the definitions have it.
use Rattle.std.specs.Prelude.{◌≡◌, ℕ, true, false, Some, None, Option, ◌==◌}
use Rattle.token.specs.Token.{Bytes}
use Rattle.grammar.specs.Decode as d
use Rattle.grammar.specs.Decode.{step, finish}
use Rattle.store.specs.Held.{Held}
use Rattle.store.specs.Means.{Grew}
use Rattle.reader.specs.Replies.{Wrote}
use Rattle.reader.specs.Escapes.{within_of}
use Rattle.reader.specs.Utf8.{utf8_after}
use Rattle.reader.specs.declared.decode.utf8.Utf8.{Utf8}
use Rattle.reader.specs.declared.decode.Decoder.{Decoder}

-- between two characters
abbrev pub whole : Utf8
whole = record { due = 0; low = 128; high = 191 }

-- bytes that are complete, and where a decoder stands then; or none, refused
abbrev pub Stepped : Type 0
Stepped = Option (Bytes × (d.Within × Utf8))

-- these bytes are complete, unless a reader of characters that stands at u refuses them
abbrev pub passed : Utf8 → Bytes → d.Within → Stepped
passed u o v = elim (utf8_after u o) [ None ↦ None | Some n ↦ Some (o, (v, n)) ]

-- one byte more of the undecoded string
abbrev pub decode_step : d.Within → Utf8 → ℕ → Stepped
decode_step w u c = elim (step w c) [ None ↦ None | Some s ↦ passed u s.0 s.1 ]

abbrev pub if_whole : Utf8 → Bytes → Option Bytes
if_whole u o = elim (u.due == 0) [ true ↦ Some o | false ↦ None ]

-- what is complete at the end of the string, where no character may be open
abbrev pub ended : Stepped → Option Bytes
ended None = None
ended (Some s) = if_whole s.1.1 s.0

abbrev pub decode_end : d.Within → Utf8 → Option Bytes
decode_end w u = elim (finish w) [ None ↦ None | Some o ↦ ended (passed u o d.plain) ]

-- these bytes are appended, unless a reader of characters that stands at u refuses them
abbrev pub Appends : Held → Held → Option Utf8 → Utf8 → Bytes → Type 0
Appends old new None u w = (utf8_after u w ≡ None) × Grew old new
Appends old new (Some n) u w = (utf8_after u w ≡ Some n) × Wrote old new w

-- the bytes that are complete are appended, or there are none
abbrev pub Steps : Held → Held → Option Decoder → Stepped → Type 0
Steps old new None reply = (reply ≡ None) × Grew old new
Steps old new (Some n) reply = (o : Bytes) × (reply ≡ Some (o, (within_of n.within, n.utf8))) × Wrote old new o

-- the decoded string is appended, or there is none
abbrev pub Decodes : Held → Held → Option (Unit {0}) → Option Bytes → Type 0
Decodes old new (Some u) reply = (w : Bytes) × (reply ≡ Some w) × Wrote old new w
Decodes old new None reply = (reply ≡ None) × Grew old new
