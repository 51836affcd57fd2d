-- Every token of a tape is well formed, and every place in range.
use Rattle.std.proofs.Common.{◌≡◌, ℕ, zero, suc, ◌+◌, ◌^◌, ◌≤◌, Bool, true, false, cond, ◌&&◌, T, leb, List, [], ◌∷◌, length, drop, refl, arith, lt→ltb, length-drop}
use Rattle.std.proofs.lemmas.Bool.{leb-true}
use Rattle.token.specs.declared.answer.Fault.TheVariants.{InputTooLong}
use Rattle.token.specs.Token.{nowhere, Ahead, fault}
use Rattle.token.specs.Law.{well, in_range, lawful}
use Rattle.tape_source.specs.Tape.{most_words, Step, token, wrong, step, at_word, follow, scan, from}
use Rattle.tape_source.proofs.Steps.{step_each}

abbrev Good : Step → Type 0
Good (token t n) = T (well t)
Good Step.end = Unit {0}
Good (wrong f) = Unit {0}

holds : (b : Bool) → b ≡ true → T b
holds b e = rw e tt

good_step : (w : ℕ) (ws : List ℕ) → Good (step (w ∷ ws))
good_step w ws = step_each Good w ws (record {
  ends = tt;
  wrongs = λ f. tt;
  symbols = λ e. holds _ e;
  numbers = λ l e. holds _ e;
  longs = λ s n l e. holds _ e;
})

and : (a b : Bool) → T a → T b → T (a && b)
and true b h k = k
and false b h k = h

here : (i : ℕ) → i ≤ most_words → T (in_range (at_word i))
here i h = lt→ltb i (2 ^ 32) (omega arith)

lawful-follow : (s : Step) (i : ℕ) (more : ℕ → Ahead) → i ≤ most_words → Good s → ((n : ℕ) → T (lawful (more n))) → T (lawful (follow s i more))
lawful-follow (token t n) i more h g f = and (well t && in_range (at_word i)) (lawful (more n)) (and (well t) (in_range (at_word i)) g (here i h)) (f n)
lawful-follow Step.end i more h g f = here i h
lawful-follow (wrong x) i more h g f = here i h

pub lawful-scan : (k i : ℕ) (ws : List ℕ) → i + length ws ≤ most_words → T (lawful (scan k i ws))
unfolding scan
lawful-scan zero i [] h = here i (omega arith)
lawful-scan zero i (w ∷ ws) h = lawful-follow (step (w ∷ ws)) i _ (omega arith) (good_step w ws) (λ n. lawful-scan n (i + 1) ws (omega arith))
lawful-scan (suc k) i [] h = here i (omega arith)
lawful-scan (suc k) i (w ∷ ws) h = lawful-scan k (i + 1) ws (omega arith)

pub lawful-from : (ws : List ℕ) (i : ℕ) → i ≤ length ws → T (lawful (from ws i))
lawful-from ws i h = go (leb (length ws) most_words) refl
  where
    go : (b : Bool) → leb (length ws) most_words ≡ b → T (lawful (cond b (scan 0 i (drop i ws)) (fault InputTooLong nowhere)))
    go true e = lawful-scan 0 i (drop i ws) (simp length-drop (omega (arith, leb-true _ _ e)))
    go false e = tt
