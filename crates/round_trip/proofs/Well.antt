-- Every token of a lawful source is well formed.
use Rattle.std.proofs.Common.{◌≡◌, Bool, true, false, ◌&&◌, T, refl}
use Rattle.token.specs.Token.{Ahead, next, end, fault}
use Rattle.token.specs.Law.{well, in_range, lawful}

unfoldable pub Well : Ahead → Type 0
Well (next t p a) = (well t ≡ true) × Well a
Well (end p) = Unit {0}
Well (fault n p) = Unit {0}

pub T_true : (b : Bool) → T b → b ≡ true
T_true true h = refl
T_true false h = absurd h

T-left : (a b : Bool) → T (a && b) → T a
T-left true b h = tt
T-left false b h = h

T-right : (a b : Bool) → T (a && b) → T b
T-right true b h = h
T-right false b h = absurd h

pub well_of : (a : Ahead) → T (lawful a) → Well a
unfolding Well
well_of (next t p a) h = (T_true (well t) (T-left (well t) (in_range p) (T-left (well t && in_range p) (lawful a) h)), well_of a (T-right (well t && in_range p) (lawful a) h))
well_of (end p) h = tt
well_of (fault n p) h = tt
