-- The way back for paths: the tokens that a path is printed as are read as that path.
use Rattle.std.proofs.Common.{◌≡◌, ℕ, Bool, true, false, ◌||◌, eqb, List, [], ◌∷◌, ◌++◌, Some as some, None as none, Option, refl, ap, ◌∙◌, true≢false}
use Rattle.token.specs.Token.{Bytes, Token, Ahead, next, nowhere, unplaced}
use Rattle.grammar.specs.Parse.{ok, Parser, ◌>>=◌, ◌>>◌, ◌<$>◌, return, given◌then◌else◌, with_some, due, look, take, peek, accept, expect, symbol_if, ident_due, after_next, many}
use Rattle.grammar.specs.Decode.{holds, parts, longer}
use Rattle.grammar.specs.Grammar as g
use Rattle.grammar.specs.Print as p
use Rattle.grammar.proofs.ManyLaw.{run, many_stops, many_goes}
use Rattle.grammar.proofs.Progress.{Turns, turn-after, takes-map, takes-expect}

-- identifiers after the first, each with its dot
abbrev pub tail : List Bytes → Bytes
tail [] = []
tail (w ∷ ws) = (g.dot ∷ w) ++ tail ws

-- words that are not empty and hold no dot
pub data Words : List Bytes → Type 0 where
  done : Words []
  more : {c : ℕ} {cs : Bytes} {ws : List Bytes} → holds g.dot (c ∷ cs) ≡ false → Words ws → Words ((c ∷ cs) ∷ ws)

-- ---- splitting
parts_cons : (c : ℕ) (cs : Bytes) → eqb c g.dot ≡ false → parts g.dot (c ∷ cs) ≡ longer c (parts g.dot cs)
unfolding parts
parts_cons c cs e = ap (λ b. elim b [ true ↦ [] ∷ parts g.dot cs | false ↦ longer c (parts g.dot cs) ]) e

or_left : (a b : Bool) → (a || b) ≡ false → a ≡ false
or_left true b e = e
or_left false b e = refl

or_right : (a b : Bool) → (a || b) ≡ false → b ≡ false
or_right true b e = absurd (true≢false e)
or_right false b e = e

parts-word : (w r : Bytes) (ws : List Bytes) → holds g.dot w ≡ false → parts g.dot r ≡ [] ∷ ws → parts g.dot (w ++ r) ≡ w ∷ ws
parts-word [] r ws e h = h
parts-word (c ∷ cs) r ws e h = parts_cons c (cs ++ r) (or_left _ _ e) ∙ ap (longer c) (parts-word cs r ws (or_right _ _ e) h)

parts-tail : (ws : List Bytes) → Words ws → parts g.dot (tail ws) ≡ [] ∷ ws
unfolding parts
parts-tail [] hs = refl
parts-tail ([] ∷ ws) hs = elim hs [ ]
parts-tail ((c ∷ cs) ∷ ws) (more h hs) = ap (λ r. [] ∷ r) (parts-word (c ∷ cs) (tail ws) ws h (parts-tail ws hs))

-- ---- reading
abbrev turn : Parser (Option Bytes)
turn = after_next g.dot ((λ w. g.dot ∷ w) <$> ident_due)

turn_turns : Turns turn
turn_turns = turn-after _ _ (takes-map _ _ (takes-expect _ _))

-- no dot comes next
abbrev pub NoDotNext : Ahead → Type 0
NoDotNext a = symbol_if g.dot a ≡ ok false a

unfoldable pub words : List Bytes → p.Printer
words ws = p.all_after p.after_dot g.dot ws

-- where no dot comes the turn stops, and a dot and a word are one turn
turn_stops : (rest : Ahead) → NoDotNext rest → turn rest ≡ ok none rest
unfolding after_next ◌>>=◌ given◌then◌else◌ return
turn_stops rest e = rw e refl

turn-word : (w : Bytes) (rest : Ahead) → turn (next (p.sign g.dot) nowhere (next (Token.ident w) nowhere rest)) ≡ ok (some (g.dot ∷ w)) rest
unfolding after_next ◌>>=◌ ◌>>◌ ◌<$>◌ given◌then◌else◌ return accept peek look take expect due with_some
turn-word w rest = refl

module _ (ts : p.Tokens) (rest : Ahead) (e : NoDotNext (unplaced ts rest)) where
  tail-again : (ws : List Bytes) → Words ws → many ◌++◌ [] turn (unplaced (words ws ts) rest) ≡ ok (tail ws) (unplaced ts rest)
  unfolding words
  tail-again [] hs = many_stops ◌++◌ [] turn turn_turns.onward (turn_stops _ e)
  tail-again ([] ∷ ws) hs = elim hs [ ]
  tail-again ((c ∷ cs) ∷ ws) (more h hs) = many_goes ◌++◌ [] turn turn_turns.onward (turn-word (c ∷ cs) (unplaced (words ws ts) rest)) (tail-again ws hs)

  pub dotted-again : (w : Bytes) (ws : List Bytes) → Words ws → g.dotted (next (Token.ident w) nowhere (unplaced (words ws ts) rest)) ≡ ok (w ++ tail ws) (unplaced ts rest)
  unfolding g.dotted ◌>>=◌ ◌>>◌ return look take expect due with_some
  dotted-again w ws hs = run (λ t. return (w ++ t)) (tail-again ws hs) refl

pub path-parts : (c : ℕ) (cs : Bytes) (ws : List Bytes) → Words ((c ∷ cs) ∷ ws) → parts g.dot ((c ∷ cs) ++ tail ws) ≡ (c ∷ cs) ∷ ws
path-parts c cs ws (more h hs) = parts-word (c ∷ cs) (tail ws) ws h (parts-tail ws hs)

pub path_starts : (c : ℕ) (cs : Bytes) (ws : List Bytes) → Words ((c ∷ cs) ∷ ws) → (ts : p.Tokens) → p.path ((c ∷ cs) ++ tail ws) ts ≡ Token.ident (c ∷ cs) ∷ words ws ts
unfolding p.path words
path_starts c cs ws (more h hs) ts = ap (λ l. p.separated p.after_dot g.dot l ts) (parts-word (c ∷ cs) (tail ws) ws h (parts-tail ws hs))

-- a relative path, in front of other tokens
pub path-again : (c : ℕ) (cs : Bytes) (ws : List Bytes) → Words ((c ∷ cs) ∷ ws) → (ts : p.Tokens) (rest : Ahead) → NoDotNext (unplaced ts rest) →
    g.full_ident (unplaced (p.path ((c ∷ cs) ++ tail ws) ts) rest) ≡ ok ((c ∷ cs) ++ tail ws) (unplaced ts rest)
unfolding g.full_ident ◌>>=◌ ◌>>◌ return look take accept peek given◌then◌else◌ with_some
path-again c cs ws (more h hs) ts rest e =
    ap (λ l. g.full_ident (unplaced l rest)) (path_starts c cs ws (more h hs) ts)
    ∙ run (λ n. return n) (dotted-again ts rest e (c ∷ cs) ws hs) refl
