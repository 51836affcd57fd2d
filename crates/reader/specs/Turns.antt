-- One turn of the loop over the brackets of a constant or a type: what it reads, what it does, and that it comes nearer to the end.
use Rattle.std.specs.Prelude.{◌≡◌, ℕ, ◌+◌, ◌-◌, ◌*◌, ◌<◌, Bool, false, List, ◌∷◌, reverse, length, Ok, Err, Result, ◌==◌}
use Rattle.token.specs.Token.{Ahead, count}
use Rattle.grammar.specs.declared.kinds.Syntax.{Syntax}
use Rattle.grammar.specs.declared.fault.ReadFault.{ReadFault}
use Rattle.grammar.specs.Parse as Parse
use Rattle.grammar.specs.Parse.{refused, return}
use Rattle.grammar.specs.Tree.{Forest, nothing}
use Rattle.grammar.specs.Grammar.{Inner, message_constant, list_constant, map_type, constant, type}
use Rattle.store.specs.declared.stack.Stack.{Stack}
use Rattle.store.specs.Stacks.{items, room}
use Rattle.store.specs.Held.{Held}
use Rattle.store.specs.Means.{Grew}
use Rattle.reader.specs.declared.frames.Frame.{Frame}
use Rattle.reader.specs.declared.frames.Due.{Due}
use Rattle.reader.specs.declared.parser.Parser.{Parser}
use Rattle.reader.specs.Replies.{kept}
use Rattle.reader.specs.Begun.{Begun}
use Rattle.reader.specs.BegunType.{BegunType}
use Rattle.reader.specs.Events.{Event, Did}
use Rattle.reader.specs.Brackets.{after, Rest, ahead}

-- the open brackets, the innermost first
abbrev pub open_in : Stack Frame → List Frame
open_in st = reverse (items st)

-- how many more may be opened
abbrev pub left : Stack Frame → ℕ
left st = room st - length (items st)

abbrev pub ahead_of : Syntax → Stack Frame → Due → Rest
ahead_of s st = ahead s (left st) (open_in st)

-- a turn that takes no token brings this down
abbrev pub weight : Due → ℕ
weight Due.Constant = 2
weight Due.Message = 1
weight Due.List = 1
weight Due.Entry = 0
weight Due.Nothing = 1
weight Due.Type = 2
weight Due.Map = 1

abbrev pub fuel : Due → Ahead → ℕ
fuel due a = 3 * count a + weight due

-- this bracket is the innermost
abbrev pub Innermost : Frame → List Frame → Type 0
Innermost f fs = (outer : List Frame) × (fs ≡ f ∷ outer)

-- an entry is due only inside a message
abbrev pub Within : Due → List Frame → Type 0
Within Due.Constant fs = Unit {0}
Within Due.Message fs = Unit {0}
Within Due.List fs = Unit {0}
Within Due.Entry fs = Innermost Frame.MessageConstant fs
Within Due.Nothing fs = Unit {0}
Within Due.Type fs = Unit {0}
Within Due.Map fs = Unit {0}

pub record Turned (old_frames new_frames : Stack Frame) (due then : Due) (a b : Ahead) (old new : Held) : Type 0 where
  pub written : List Event
  pub same : (s : Syntax) → ahead_of s old_frames due a ≡ after written (ahead_of s new_frames then b)
  pub did : Did old new written
  pub on : fuel then b < fuel due a
  pub within : Within then (open_in new_frames)
  pub room_stays : room new_frames ≡ room old_frames

abbrev pub Turn : Stack Frame → Stack Frame → Due → Result Due ReadFault → Ahead → Ahead → Held → Held → Type 0
Turn f g due (Ok then) a b old new = Turned f g due then a b old new
Turn f g due (Err why) a b old new = ((s : Syntax) → ahead_of s f due a ≡ refused why b) × Grew old new

-- What is read in all where this is due and no bracket is open. An entry is due only inside a message.
abbrev pub whole : Inner → Due → Parse.Parser Forest
whole inner Due.Constant = constant inner
whole inner Due.Message = inner message_constant
whole inner Due.List = inner list_constant
whole inner Due.Entry = return nothing
whole inner Due.Nothing = return nothing
whole inner Due.Type = type inner
whole inner Due.Map = inner map_type

-- it is complete where it has ended and no bracket is open
abbrev pub complete : Due → List Frame → Bool
complete Due.Constant fs = false
complete Due.Message fs = false
complete Due.List fs = false
complete Due.Entry fs = false
complete Due.Nothing fs = length fs == 0
complete Due.Type fs = false
complete Due.Map fs = false

-- ---- the same of a parser; what is ahead of a source comes first
module _ {S : Type 0} (ahead_in : S → Ahead) where
  abbrev pub Begins : Parser S → Parser S → Result Due ReadFault → Type 0
  Begins old new r = Begun (kept old) (kept new) r (ahead_in old.source.now) (ahead_in new.source.now)

  abbrev pub BeginsType : Parser S → Parser S → Result Due ReadFault → Type 0
  BeginsType old new r = BegunType (kept old) (kept new) r (ahead_in old.source.now) (ahead_in new.source.now)

  abbrev pub Turns : Stack Frame → Stack Frame → Due → Result Due ReadFault → Parser S → Parser S → Type 0
  Turns f g due r old new = Turn f g due r (ahead_in old.source.now) (ahead_in new.source.now) (kept old) (kept new)
