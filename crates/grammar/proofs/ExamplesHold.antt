-- The worked examples hold, by computation.
use Rattle.std.proofs.Common.{refl}
use Rattle.token.specs.Token.{Bytes, Ahead}
use Rattle.text_source.specs.Classes.{class_of}
use Rattle.text_source.specs.Lexemes.{word, numeral, quoted, comment, mark, lexeme}
use Rattle.text_source.specs.Text.{stream, text}
use Rattle.grammar.specs.Everything.{everything}
use Rattle.grammar.specs.Examples.{EmptyText, EnumValues, Labels, OpenBodies, Oneofs, RepeatedNames, GroupNames, ImportPaths, Streams, Nesting, Finds, Examples}

-- all that a text and its file unfold to
computed : Bytes → Ahead
unfolding class_of word numeral quoted comment mark lexeme stream text everything
computed bs = text bs

empty_text : EmptyText
unfolding computed
empty_text = refl

enum_values : EnumValues
unfolding computed
enum_values = (refl, refl, refl, refl)

labels : Labels
unfolding computed
labels = (refl, refl)

open_bodies : OpenBodies
unfolding computed
open_bodies = (refl, refl)

oneofs : Oneofs
unfolding computed
oneofs = (refl, refl, refl)

repeated_names : RepeatedNames
unfolding computed
repeated_names = refl

group-names : GroupNames
unfolding computed
group-names = refl

import_paths : ImportPaths
unfolding computed
import_paths = refl

streams : Streams
unfolding computed
streams = refl

nesting : Nesting
unfolding computed
nesting = (refl, refl)

finds : Finds
unfolding computed
finds = (refl, refl)

pub examples : Examples
examples = (empty_text, enum_values, labels, open_bodies, oneofs, repeated_names, group-names, import_paths, streams, nesting, finds)
