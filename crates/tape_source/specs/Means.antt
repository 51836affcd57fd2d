-- What a tape source means, and that it keeps the law of sources.
use Rattle.std.specs.Prelude.{T}
use Rattle.token.specs.Token.{Ahead}
use Rattle.token.specs.Law.{lawful}
use Rattle.tape_source.specs.declared.tape.TapeSource.{TapeSource}
use Rattle.tape_source.specs.Front.{found}

abbrev pub means : TapeSource → Ahead
means s = found s.at s.rest.now s.next

pub keeps_law : (s : TapeSource) → T (lawful (means s))
keeps_law s = s.law
