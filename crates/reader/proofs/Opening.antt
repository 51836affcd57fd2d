-- What a stack's entries are after a push and a pop, and that a symbol was taken.
use Rattle.std.proofs.Common.{◌≡◌, ℕ, suc, ◌+◌, ◌-◌, ◌<◌, ◌≤◌, Bool, true, false, ltb, List, [], ◌∷◌, ◌++◌, reverse, length, take, if◌then◌else◌, is_some, Some, None, Option, sym, ap, ◌∙◌, subst, arith, length-append, length-take}
use mathlib.Core.List.{reverse-append}
use lib.ListN.{length-reverse}
use Rattle.std.specs.Option.{option_to_list}
use Rattle.std.proofs.lemmas.List.{reverse-reverse}
use Rattle.std.proofs.lemmas.Grind.{reverse_onto}
use Rattle.std.proofs.Math.Seq.{take-append_seam}
use Rattle.std.proofs.lemmas.Bool.Decides.{nat_tests}
use Rattle.token.specs.Token.{Ahead, count}
use Rattle.grammar.specs.declared.fault.ParserError.TheVariants.{ExpectSymbol}
use Rattle.grammar.specs.Parse.{ok, when, is_symbol, symbol_due, symbol_if}
use Rattle.grammar.specs.Progress.{Left}
use Rattle.grammar.proofs.Progress.{takes-expect}
use Rattle.store.specs.declared.stack.Stack.{Stack}
use Rattle.store.specs.Stacks.{items, room}
use Rattle.reader.specs.declared.frames.Frame.{Frame}
use Rattle.reader.specs.Turns.{open_in, left}
use Rattle.reader.proofs.Replaying.{came, other}

-- a symbol that was due was taken
pub due-took : (c : ℕ) (a : Ahead) {b : Ahead} → symbol_due c a ≡ ok tt b → count b < count a
due-took c a e = subst (Left (count a)) e ((takes-expect ExpectSymbol (λ t. when (is_symbol c t) tt)).takes a)

pub if_took : (c : ℕ) (a : Ahead) {b : Ahead} → symbol_if c a ≡ ok true b → count b < count a
if_took c a e = due-took c a (came c a e).due_too

pub if_not : (c : ℕ) (a : Ahead) {b : Ahead} → symbol_if c a ≡ ok false b → count b ≡ count a
if_not c a e = ap count (other c a e).stays

pub in_slots : (f : Stack Frame) → length (items f) ≤ room f
in_slots f = let z = f.sound in let y = length-take f.len f.slots.now in omega arith

module _ (f : Stack Frame) where
  -- with one bracket more
  module _ (h : Stack Frame) (x : Frame) (pushed : items h ≡ items f ++ x ∷ []) (stays : room h ≡ room f) (fits : length (items f) < room f) where
    pub frames_pushed : open_in h ≡ x ∷ open_in f
    frames_pushed = ap reverse pushed ∙ reverse-append (items f) (x ∷ [])

    pub left-pushed : left f ≡ suc (left h)
    left-pushed =
        let n : length (items h) ≡ length (items f) + 1 = ap length pushed ∙ length-append (items f) (x ∷ []) in
        omega arith

  -- with the innermost bracket closed
  module _ (h : Stack Frame) (x : Frame) (fs : List Frame) (top : open_in f ≡ x ∷ fs) (r : Option Frame) (popped : items f ≡ items h ++ option_to_list r) (some_is : is_some r ≡ ltb 0 (length (items f))) where
    many : length (items f) ≡ suc (length fs)
    many = sym (length-reverse (items f)) ∙ ap length top

    pub frames_popped : open_in h ≡ fs
    frames_popped = go r popped some_is
      where
        go : (r : Option Frame) → items f ≡ items h ++ option_to_list r → is_some r ≡ ltb 0 (length (items f)) → open_in h ≡ fs
        go None p e = let n = many in absurd (grind (arith, nat_tests))
        go (Some y) p e =
            let both : y ∷ open_in h ≡ x ∷ fs = sym (ap reverse p ∙ reverse-append (items h) (y ∷ [])) ∙ top in
            cc

    pub left-popped : room h ≡ room f → left h ≡ suc (left f)
    left-popped stays =
        let n = many in
        let k : length (items h) ≡ length fs = sym (length-reverse (items h)) ∙ ap length frames_popped in
        let z = in_slots f in
        omega arith

  -- with another bracket in the place of the innermost
  module _ (h : Stack Frame) (x y : Frame) (fs : List Frame) (top : open_in f ≡ x ∷ fs) (r : Bool) (set : items h ≡ (if r then take (length (items f) - 1) (items f) ++ y ∷ [] else items f)) (some_is : r ≡ ltb 0 (length (items f))) where
    was : items f ≡ reverse fs ++ x ∷ []
    was = sym (reverse-reverse (items f)) ∙ ap reverse top ∙ reverse_onto fs x []

    becomes : items h ≡ reverse fs ++ y ∷ []
    becomes = go r set some_is
      where
        one_more : length (items f) ≡ length (reverse fs) + 1
        one_more = ap length was ∙ length-append (reverse fs) (x ∷ [])

        go : (r : Bool) → items h ≡ (if r then take (length (items f) - 1) (items f) ++ y ∷ [] else items f) → r ≡ ltb 0 (length (items f)) → items h ≡ reverse fs ++ y ∷ []
        go true p e =
            let n : length (items f) - 1 ≡ length (reverse fs) = let z = one_more in omega arith in
            p ∙ ap (λ m. take m (items f) ++ y ∷ []) n ∙ ap (λ l. take (length (reverse fs)) l ++ y ∷ []) was ∙ ap (λ l. l ++ y ∷ []) (take-append_seam (reverse fs) (x ∷ []))
        go false p e = let z = one_more in absurd (grind (arith, nat_tests))

    pub frames-set : open_in h ≡ y ∷ fs
    frames-set = ap reverse becomes ∙ reverse-append (reverse fs) (y ∷ []) ∙ ap (λ l. y ∷ l) (reverse-reverse fs)

    pub left-set : room h ≡ room f → left h ≡ left f
    left-set stays =
        let n : length (items h) ≡ length (items f) = ap length becomes ∙ length-append (reverse fs) (y ∷ []) ∙ sym (length-append (reverse fs) (x ∷ [])) ∙ sym (ap length was) in
        omega arith
