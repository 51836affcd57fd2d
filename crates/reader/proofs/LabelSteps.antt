-- The labels are tried one after another.
use Rattle.std.proofs.Common.{◌≡◌, ℕ, suc, ◌+◌, ◌<◌, ◌≤◌, Bool, true, false, List, [], ◌∷◌, get_or, drop, Some as some, None as none, Option, sym, refl, ap, ◌∙◌, drop-cons, add-one}
use Rattle.std.proofs.lemmas.List.{at_drop_all}
use Rattle.grammar.specs.declared.fault.ReadFault.{ReadFault}
use Rattle.token.specs.Token.{Ahead}
use Rattle.grammar.specs.declared.fault.ParserError.TheVariants.{LabelNotAllowed, LabelRequired}
use Rattle.grammar.specs.declared.kinds.Syntax.{Syntax}
use Rattle.grammar.specs.declared.kinds.Rule.{Rule}
use Rattle.grammar.specs.Kinds.{rule_word}
use Rattle.grammar.specs.Parse.{Reply, ok, refused, bind, ◌>>=◌, ◌>>◌, return, refuse, given◌then◌else◌, take, next_is_word}
use Rattle.grammar.specs.Grammar.{Mode, label_allowed, label_required, label_in}
use Rattle.reader.specs.Modes.{label_if}

module _ (s : Syntax) (mode : Mode) (r : Rule) (rs : List Rule) where
  pub label-step : (a : Ahead) → label_in s mode (r ∷ rs) a ≡ bind (label_if s mode r a) (λ it_is. given it_is then return (some r) else label_in s mode rs)
  unfolding label_in label_if ◌>>=◌ ◌>>◌ return refuse given◌then◌else◌ take
  label-step a = go (next_is_word (rule_word r) a) (label_allowed s mode r)
    where
      go : (reply : Reply Bool) (allowed : Bool)
          → bind reply (λ it_is. given it_is then (given allowed then (do take; return (some r)) else refuse LabelNotAllowed) else label_in s mode rs)
          ≡ bind (bind reply (λ it_is. given it_is then (given allowed then (do take; return true) else refuse LabelNotAllowed) else return false)) (λ it_is. given it_is then return (some r) else label_in s mode rs)
      go (ok true b) true = refl
      go (ok true b) false = refl
      go (ok false b) allowed = refl
      go (refused e b) allowed = refl

-- the labels in the order in which they are tried, of which the first k were not there
abbrev pub tried : List Rule
tried = Rule.Optional ∷ Rule.Repeated ∷ Rule.Required ∷ []

module _ (s : Syntax) (mode : Mode) (k : ℕ) where
  -- what follows the trial of label k
  abbrev after_trial : Reply Bool → Reply (Option Rule)
  after_trial x = bind x (λ it_is. given it_is then return (some (get_or tried k Rule.Optional)) else label_in s mode (drop (suc k) tried))

  left-step : k < 3 → (a : Ahead) → label_in s mode (drop k tried) a ≡ after_trial (label_if s mode (get_or tried k Rule.Optional) a)
  left-step less a = ap (λ rs. label_in s mode rs a) (drop-cons tried k Rule.Optional less) ∙ label-step s mode (get_or tried k Rule.Optional) (drop (suc k) tried) a

  module _ (less : k < 3) (a : Ahead) {b : Ahead} where
    pub label-refused : {i : ReadFault} → label_if s mode (get_or tried k Rule.Optional) a ≡ refused i b → label_in s mode (drop k tried) a ≡ refused i b
    label-refused e = left-step less a ∙ ap after_trial e

    pub label-found : label_if s mode (get_or tried k Rule.Optional) a ≡ ok true b → label_in s mode (drop k tried) a ≡ ok (some (get_or tried k Rule.Optional)) b
    unfolding return given◌then◌else◌
    label-found e = left-step less a ∙ ap after_trial e

    pub label-next : label_if s mode (get_or tried k Rule.Optional) a ≡ ok false b → label_in s mode (drop k tried) a ≡ label_in s mode (drop (k + 1) tried) b
    unfolding given◌then◌else◌
    label-next e = left-step less a ∙ ap after_trial e ∙ ap (λ n. label_in s mode (drop n tried) b) (sym (add-one k))

  -- all were tried
  module _ (all : 3 ≤ k) (a : Ahead) where
    pub label-due : label_required s mode ≡ true → label_in s mode (drop k tried) a ≡ refuse LabelRequired a
    unfolding label_in given◌then◌else◌
    label-due e = ap (λ f. f a) (at_drop_all (label_in s mode) tried k all) ∙ rw e

    pub label_free : label_required s mode ≡ false → label_in s mode (drop k tried) a ≡ ok none a
    unfolding label_in given◌then◌else◌ return
    label_free e = ap (λ f. f a) (at_drop_all (label_in s mode) tried k all) ∙ rw e
