-- The worked examples hold, by computation.
use Rattle.std.proofs.Common.{◌≡◌, T, [], ◌∷◌, refl}
use Rattle.token.specs.Token.{Bytes, Ahead}
use Rattle.token.specs.Law.{lawful}
use Rattle.text_source.specs.Classes.{class_of}
use Rattle.text_source.specs.Lexemes.{word, numeral, quoted, comment, mark, lexeme}
use Rattle.text_source.specs.Text.{stream, text}
use Rattle.tape_source.specs.Tape.{scan}
use Rattle.grammar.specs.declared.kinds.Syntax.TheVariants.{Proto2}
use Rattle.grammar.specs.Parse.{Reply, ok, refused}
use Rattle.grammar.specs.Tree.{Tree}
use Rattle.grammar.specs.Grammar.{empty_tree, file}
use Rattle.grammar.specs.Model.{model}
use Rattle.grammar.specs.Everything.{everything}
use Rattle.grammar.specs.Examples.{models}
use Rattle.round_trip.specs.Calls.{left}
use Rattle.round_trip.specs.Examples.{sample, SampleReads, SampleAgain, Takes, RoomTaken, Finds, Found, Refused, Stand, Examples}

-- all that a text, a tape and a file unfold to
computed : Bytes → Ahead
unfolding class_of word numeral quoted comment mark lexeme stream text scan everything
computed bs = text bs

abbrev tree_read : Reply Tree → Tree
tree_read (ok t a) = t
tree_read (refused why a) = empty_tree Proto2

abbrev rest_read : Reply Tree → Ahead
rest_read (ok t a) = a
rest_read (refused why a) = a

abbrev Succeeds : Reply Tree → Type 0
Succeeds (ok t a) = Unit {0}
Succeeds (refused why a) = ⊥

as_read : (r : Reply Tree) → Succeeds r → r ≡ ok (tree_read r) (rest_read r)
as_read (ok t a) h = refl
as_read (refused why a) h = absurd h

is_read : file (text sample) ≡ ok (tree_read (file (text sample))) (rest_read (file (text sample)))
unfolding computed
is_read = as_read (file (text sample)) tt

is_lawful : T (lawful (text sample))
unfolding computed
is_lawful = tt

is_one : models sample ≡ model (tree_read (file (text sample))) ∷ []
unfolding computed
is_one = refl

sample_reads : SampleReads
sample_reads =
    let t = tree_read (file (text sample)) in
    (model t, is_one, record { source = text sample; law = is_lawful; tree = t; rest = rest_read (file (text sample)); is_read = is_read; is_model = refl })

sample-again : SampleAgain
unfolding computed
sample-again = refl

room-taken : RoomTaken
unfolding computed Takes
room-taken = (refl, refl, refl, refl, refl, refl, refl, refl, refl, refl)

found : Found
unfolding computed Finds
found = (refl, refl, refl, refl, refl, refl, refl, refl, refl, refl, refl)

refuses : Refused
unfolding computed
refuses = (refl, refl, refl, refl, refl, refl, refl, refl, refl, refl, refl, refl)

stand : Stand
unfolding computed left
stand h k = (refl, refl, refl, refl)

pub examples : Examples
examples = (sample_reads, sample-again, room-taken, found, refuses, stand)
