-- What is alike is read alike.
use Rattle.std.proofs.Common.{◌≡◌, ℕ, ◌+◌, sym, refl, ap, ◌∙◌, subst, arith}
use Rattle.token.specs.Token.{nowhere, Ahead, next, end, fault}
use Rattle.grammar.specs.Parse.{Reply, ok, refused}
use Rattle.grammar.specs.Tree.{Tree, lengths, tree_records, tree_text}
use Rattle.grammar.specs.Grammar.{file}
use Rattle.grammar.specs.Model.{model}
use Rattle.grammar.specs.declared.fault.ReadFault.{ReadFault}
use Rattle.grammar.specs.declared.fault.ReadFault.TheVariants.{Source, Reader}
use Rattle.grammar.specs.Refusals.{read_layer, read_number}
use Rattle.round_trip.specs.Alike.{Alike, both_next, both_end, both_fault, bare, tree_erased, Agree, both_ok, both_refused, PlacesApart, KeptApart}
use Rattle.round_trip.proofs.Blind.{fault_bare, remap}
use Rattle.round_trip.proofs.GrammarBlind.{file_blind}
use Rattle.round_trip.proofs.ModelErased.{model-erased, records-same, text_same}

pub alike-bare : {a b : Ahead} → Alike a b → bare a ≡ bare b
alike-bare (both_next {t} h) = ap (next t nowhere) (alike-bare h)
alike-bare both_end = refl
alike-bare both_fault = refl

pub to-bare : (a : Ahead) → Alike a (bare a)
to-bare (next t p a) = both_next (to-bare a)
to-bare (end p) = both_end
to-bare (fault f p) = both_fault

from-bare : (a b : Ahead) → Alike a (bare b) → Alike a b
from-bare a (next t p b) (both_next h) = both_next (from-bare _ b h)
from-bare a (end p) both_end = both_end
from-bare a (fault f p) both_fault = both_fault

pub bare_alike : (a b : Ahead) → bare a ≡ bare b → Alike a b
bare_alike a b e = from-bare a b (subst (Alike a) e (to-bare a))

-- without its place a refusal has the same layer and the same number
layer-bare : (e : ReadFault) → read_layer (fault_bare e) ≡ read_layer e
layer-bare (Source f) = refl
layer-bare (Reader f) = refl

number-bare : (e : ReadFault) → read_number (fault_bare e) ≡ read_number e
number-bare (Source f) = refl
number-bare (Reader f) = refl

replies_agree : (r s : Reply Tree) → remap tree_erased r ≡ remap tree_erased s → Agree r s
replies_agree (ok t a) (ok u b) e = both_ok (cc) (bare_alike a b (cc))
replies_agree (ok t a) (refused why b) e = absurd (let z : ◌≡◌ {A = ℕ} 0 1 = cc in omega arith)
replies_agree (refused why a) (ok u b) e = absurd (let z : ◌≡◌ {A = ℕ} 0 1 = cc in omega arith)
replies_agree (refused why a) (refused whence b) e =
    let p : fault_bare why ≡ fault_bare whence = cc in
    both_refused
    (sym (layer-bare why) ∙ ap read_layer p ∙ layer-bare whence)
    (sym (number-bare why) ∙ ap read_number p ∙ number-bare whence)
    (bare_alike a b (cc))

pub places-apart : PlacesApart
places-apart a b h = replies_agree (file a) (file b) (sym (file_blind.blind a) ∙ ap file (alike-bare h) ∙ file_blind.blind b)

pub kept-apart : KeptApart
kept-apart t u e = record {
  models = sym (model-erased t) ∙ ap model e ∙ model-erased u;
  as_many_records = sym (records-same t.items) ∙ ap tree_records e ∙ records-same u.items;
  as_much_text = sym (ap (λ n. lengths t.packages + n) (text_same t.items)) ∙ ap tree_text e ∙ ap (λ n. lengths u.packages + n) (text_same u.items);
}
