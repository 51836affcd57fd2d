-- What is appended to the listing.
use Rattle.std.proofs.Common.{◌≡◌, ℕ, ◌<◌, true, false, List, [], ◌++◌, refl, ap, ◌∙◌, append_assoc, arith}
use Rattle.token.specs.Token.{Ahead, next, end, fault, taken, count}
use Rattle.listing.specs.Listing.{is_last, first_line, listing, spent, Later, here, past}

-- ---- the loop over the tokens
-- what is listed so far, and the listing of what is still ahead, make up the listing of the start
pub record Sofar (start a : Ahead) (out : List ℕ) : Type 0 where
  pub whole : out ++ listing a ≡ listing start
  pub ends : spent a ≡ spent start
  pub later : Later start a

pub begun : (a : Ahead) (out : List ℕ) → out ≡ [] → Sofar a a out
begun a out e = record { whole = ap (λ (ys : List ℕ). ys ++ listing a) e; ends = refl; later = here }

pub one_more : (start a : Ahead) (out new : List ℕ) → is_last a ≡ false → Sofar start a out → new ≡ out ++ first_line a → Sofar start (taken a) new
unfolding listing
one_more start (next t p a) out new g s e = record {
  whole = ap (λ (ys : List ℕ). ys ++ listing a) e ∙ append_assoc out (first_line (next t p a)) (listing a) ∙ s.whole;
  ends = s.ends;
  later = past s.later;
}
one_more start (end p) out new g s e = absurd (cc)
one_more start (fault f p) out new g s e = absurd (cc)

pub record Listed (start a : Ahead) (out : List ℕ) : Type 0 where
  pub lines : out ≡ listing start
  pub rest : a ≡ spent start

pub the_last : (start a : Ahead) (out new : List ℕ) → is_last a ≡ true → Sofar start a out → new ≡ out ++ first_line a → Listed start a new
unfolding listing
the_last start (next t p a) out new g s e = absurd (cc)
the_last start (end p) out new g s e = record { lines = e ∙ s.whole; rest = s.ends }
the_last start (fault f p) out new g s e = record { lines = e ∙ s.whole; rest = s.ends }

pub fewer : (a : Ahead) → is_last a ≡ false → count (taken a) < count a
fewer (next t p a) g = omega arith
fewer (end p) g = absurd (cc)
fewer (fault f p) g = absurd (cc)
