-- A constant that begins with an identifier: "true" | "false" | fullIdent.
use Rattle.std.specs.Prelude.{true, false, [], ◌∷◌, codes}
use Rattle.grammar.specs.Parse.{Parser, ◌>>=◌, choose}
use Rattle.grammar.specs.Tree.{Value, Forest}
use Rattle.grammar.specs.Grammar.{constant_of, full_ident}

abbrev pub word_constant : Parser Forest
word_constant = choose ((codes "true", constant_of (Value.truth true)) ∷ (codes "false", constant_of (Value.truth false)) ∷ []) (do p ← full_ident; constant_of (Value.path p))
