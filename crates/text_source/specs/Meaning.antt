-- What a text that is being read means, and the law of its tokens.
use Rattle.std.proofs.Common.{sym, subst}
use Rattle.std.specs.Prelude.{T}
use Rattle.token.specs.Token.{Ahead}
use Rattle.token.specs.Law.{lawful}
use Rattle.text_source.specs.declared.source.TextSource.{TextSource}
use Rattle.text_source.specs.Found.{found}

abbrev pub means : TextSource → Ahead
means s = found s.cursor.place s.cursor.rest.now s.next

pub all_formed : (s : TextSource) → T (lawful (means s))
all_formed s = subst T (sym s.law) tt
