-- The scalar types of fields, tried one after another.
use Rattle.std.specs.Prelude.{List, [], ◌∷◌, Some as some, None as none, Option}
use Rattle.grammar.specs.declared.kinds.Scalar.{Scalar}
use Rattle.grammar.specs.Kinds.{scalar_word}
use Rattle.grammar.specs.Parse.{Parser, ◌>>=◌, return, given◌then◌else◌, word_if}

-- the first of these whose word comes next is taken, if there is one
unfoldable pub scalar_in : List Scalar → Parser (Option Scalar)
scalar_in [] a = return none a
scalar_in (s ∷ ss) a = (do it_is ← word_if (scalar_word s); given it_is then return (some s) else scalar_in ss) a
