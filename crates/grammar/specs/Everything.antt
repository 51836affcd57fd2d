-- For a proof by computation: `unfolding everything` opens all definitions of a file's meaning.
use Rattle.grammar.specs.Parse as parse
use Rattle.grammar.specs.Tree as tree
use Rattle.grammar.specs.Decode as decode
use Rattle.grammar.specs.Grammar as grammar
use Rattle.grammar.specs.Model as model
use Rattle.grammar.specs.Erase as erase
use Rattle.grammar.specs.Print as print
use Rattle.grammar.specs.Places as places
use Rattle.grammar.specs.Ledger as ledger

unfoldable pub everything : Unit {0}
unfolding parse.opened tree.opened decode.opened grammar.opened model.opened erase.opened print.opened places.opened ledger.opened
everything = tt
