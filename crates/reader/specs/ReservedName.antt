-- One reserved name.
use Rattle.std.specs.Prelude.{ℕ}
use Rattle.token.specs.Token.{Token}
use Rattle.grammar.specs.Parse.{Parser, ◌<$>◌, given◌then◌else◌, is_string}
use Rattle.grammar.specs.Tree.{Item, Forest, nothing, one}
use Rattle.grammar.specs.Grammar.{comma, separated, decoded_string, range}

abbrev pub reserved_name : Parser Forest
reserved_name = (λ w. one (Item.reserved_name w) nothing) <$> decoded_string

-- what is reserved, by the token that comes: names or numbers
abbrev pub reserved_at : ℕ → Token → Parser Forest
reserved_at max t = given is_string t then separated comma reserved_name else separated comma (range Item.reserved_range max)
