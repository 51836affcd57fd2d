-- The way back for strings, options, ranges and reserved names.
use Rattle.std.proofs.Common.{◌≡◌, ℕ, Bool, true, false, T, eqb, leb, List, [], ◌∷◌, Some as some, sym, refl, ap, ◌∙◌, subst, eqb→eq}
use Rattle.token.specs.declared.answer.Place.{Place}
use Rattle.token.specs.Token.{Bytes, Token, Ahead, next, nowhere, unplaced}
use Rattle.grammar.specs.Parse.{ok, Parser, ◌>>=◌, ◌>>◌, ◌<$>◌, return, given◌then◌else◌, with_some, due, look, take, peek, accept, expect, choose}
use Rattle.grammar.specs.declared.kinds.Syntax.{Syntax}
use Rattle.grammar.specs.Tree.{Item, nothing, one}
use Rattle.grammar.specs.Decode.{Within, behind, unescape, decode}
use Rattle.grammar.specs.Grammar as g
use Rattle.grammar.specs.Model.{NamePart, ProtoOption, Range}
use Rattle.grammar.specs.Print as p
use Rattle.grammar.proofs.ManyLaw.{run}
use Rattle.grammar.proofs.Progress.{takes-map}
use Rattle.grammar.proofs.GrammarProgress.{option_part-takes, option-takes, nested-takes, range-takes, decoded_string-takes}
use Rattle.round_trip.proofs.PathAgain.{NoDotNext}
use Rattle.round_trip.proofs.ConstantAgain.{full_read, constant_read}
use Rattle.round_trip.proofs.Again.{All, trees, Reads, ReadsBefore, separated_read}
use Rattle.round_trip.proofs.Canon.{part_tree, option_tree, range_tree, name_tree, NonEmpty, PartOk, OptionOk, RangeOk, TextOk}

-- ---- strings
truth : {b : Bool} → b ≡ true → T b
truth e = subst T (sym e) tt

unescape-escaped : (bs : Bytes) → unescape Within.plain (p.escaped bs) ≡ some bs
unfolding unescape
unescape-escaped [] = refl
unescape-escaped (c ∷ cs) = go (eqb c 92) refl (unescape-escaped cs)
  where
    go : (b : Bool) → eqb c 92 ≡ b → unescape Within.plain (p.escaped cs) ≡ some cs →
        unescape Within.plain (elim b [ true ↦ 92 ∷ 92 ∷ p.escaped cs | false ↦ c ∷ p.escaped cs ]) ≡ some (c ∷ cs)
    go true e h = ap (λ r. behind [] (behind (92 ∷ []) r)) h ∙ ap (λ d. some (d ∷ cs)) (sym (eqb→eq c 92 (truth e)))
    go false e h = rw (e, unescape) (ap (behind (c ∷ [])) h)

pub decode-escaped : (bs : Bytes) → TextOk bs → decode (p.escaped bs) ≡ some bs
unfolding decode
decode-escaped bs h = rw (unescape-escaped bs, decode) (rw h.is-utf8 refl)

pub string_read : (bs : Bytes) → TextOk bs → Reads g.decoded_string (p.say (p.quoted bs)) bs
unfolding g.decoded_string ◌>>=◌ ◌>>◌ return look take expect due with_some
string_read bs h us rest = rw (decode-escaped bs h) refl

-- ---- options
part_read : (x : NamePart) → PartOk x → Reads g.option_part (p.option_part x) (part_tree x)
unfolding g.option_part ◌>>=◌ ◌>>◌ ◌<$>◌ return look take accept peek expect due with_some given◌then◌else◌
part_read (NamePart.direct n) h us rest = refl
part_read (NamePart.extension t) h us rest = run _ (full_read h (p.sign g.paren_end ∷ us) rest refl) refl

name_read : (ns : List NamePart) → NonEmpty PartOk ns → (us : p.Tokens) (rest : Ahead) →
    g.separated g.dot g.option_part (unplaced (p.separated p.option_part g.dot ns (p.sign g.equals ∷ us)) rest) ≡ ok (trees part_tree ns) (next (p.sign g.equals) nowhere (unplaced us rest))
name_read [] h us rest = absurd h
name_read (x ∷ xs) h us rest =
    separated_read g.option_part option_part-takes p.option_part part_tree PartOk (λ b. Unit {0}) (λ y k b u vs r. part_read y k (p.sign b ∷ vs) r) g.dot g.equals tt tt refl refl x xs h.0 h.1 us rest

-- before any symbol but a dot
abbrev pub NoDot : ℕ → Type 0
NoDot b = eqb b g.dot ≡ false

no_dot : (b : ℕ) (us : p.Tokens) (rest : Ahead) → NoDot b → NoDotNext (unplaced (p.sign b ∷ us) rest)
unfolding accept peek look with_some return given◌then◌else◌ ◌>>=◌ ◌>>◌
no_dot b us rest e = rw e refl

module _ (s : Syntax) (room : ℕ) where
  pub option_read : (o : ProtoOption) → OptionOk room o → ReadsBefore (g.option (g.nested s room)) NoDot (p.option o) (option_tree o)
  unfolding g.option p.option ◌>>=◌ ◌>>◌ return look take expect due with_some
  option_read o h b e us rest =
      run _ (name_read o.name h.name-ok (p.constant o.value (p.sign b ∷ us)) rest)
      (run _ (constant_read s o.value room h.value-ok (p.sign b ∷ us) rest (no_dot b us rest e)) refl)

  pub option_statement_read : (o : ProtoOption) → OptionOk room o → Reads (g.option_statement (g.nested s room)) (p.◌·◌ (p.option o) (p.mark g.semicolon)) (option_tree o)
  unfolding g.option_statement ◌>>=◌ ◌>>◌ return look take expect due with_some
  option_statement_read o h us rest = run _ (option_read o h g.semicolon refl us rest) refl

  pub bracketed_read : (os : List ProtoOption) → All (OptionOk room) os → (us : p.Tokens) (rest : Ahead) →
      g.bracketed_options (g.nested s room) (unplaced (p.bracketed_options os (p.sign g.semicolon ∷ us)) rest) ≡ ok (trees option_tree os) (next (p.sign g.semicolon) nowhere (unplaced us rest))
  unfolding g.bracketed_options p.bracketed_options ◌>>=◌ ◌>>◌ return look take accept peek expect due with_some given◌then◌else◌
  bracketed_read [] h us rest = refl
  bracketed_read (o ∷ os) h us rest =
      run _ (separated_read (g.option (g.nested s room)) (option-takes _ (nested-takes s room)) p.option option_tree (OptionOk room) NoDot option_read g.comma g.bracket_end refl refl refl refl o os h.0 h.1 (p.sign g.semicolon ∷ us) rest) refl

-- ---- ranges and reserved names
range-rest : Range → p.Printer
range-rest r us = elim (eqb r.from r.to) [ true ↦ us | false ↦ p.word "to" ∷ Token.number r.to ∷ us ]

range_starts : (r : Range) (us : p.Tokens) → p.range r us ≡ Token.number r.from ∷ range-rest r us
unfolding range-rest
range_starts r us = go (eqb r.from r.to)
  where
    go : (b : Bool) → (let f : p.Printer = elim b [ true ↦ p.integer r.from | false ↦ p.◌·◌ (p.integer r.from) (p.◌·◌ (p.keyword "to") (p.integer r.to)) ] in f us)
        ≡ Token.number r.from ∷ elim b [ true ↦ us | false ↦ p.word "to" ∷ Token.number r.to ∷ us ]
    go true = refl
    go false = refl

module _ (item : ℕ → ℕ → Item) (max : ℕ) where
  range_at : (m n b : ℕ) (us : p.Tokens) (rest : Ahead) → leb m 2147483647 ≡ true → leb n 2147483647 ≡ true → (c : Bool) → eqb m n ≡ c →
      g.range item max (next (Token.number m) nowhere (unplaced (elim c [ true ↦ p.sign b ∷ us | false ↦ p.word "to" ∷ Token.number n ∷ p.sign b ∷ us ]) rest)) ≡ ok (one (item m n) nothing) (next (p.sign b) nowhere (unplaced us rest))
  unfolding g.range g.field_number choose ◌>>=◌ ◌>>◌ return look take accept peek expect due with_some given◌then◌else◌
  range_at m n b us rest h k true e = rw h (ap (λ x. ok (one (item m x) nothing) (next (p.sign b) nowhere (unplaced us rest))) (eqb→eq m n (truth e)))
  range_at m n b us rest h k false e = rw h (rw k refl)

  pub range_read : (r : Range) → RangeOk r → ReadsBefore (g.range item max) (λ b. Unit {0}) (p.range r) (range_tree item r)
  unfolding range-rest
  range_read r h b u us rest = ap (λ l. g.range item max (unplaced l rest)) (range_starts r (p.sign b ∷ us)) ∙ range_at r.from r.to b us rest h.from-ok h.to-ok (eqb r.from r.to) refl

  pub ranges_read : (r : Range) (rs : List Range) → RangeOk r → All RangeOk rs → (us : p.Tokens) (rest : Ahead) →
      g.separated g.comma (g.range item max) (unplaced (p.separated p.range g.comma (r ∷ rs) (p.sign g.semicolon ∷ us)) rest) ≡ ok (trees (range_tree item) (r ∷ rs)) (next (p.sign g.semicolon) nowhere (unplaced us rest))
  ranges_read r rs h hs us rest = separated_read (g.range item max) (range-takes item max) p.range (range_tree item) RangeOk (λ b. Unit {0}) range_read g.comma g.semicolon tt tt refl refl r rs h hs us rest

pub names_read : (n : Bytes) (ns : List Bytes) → TextOk n → All TextOk ns → (us : p.Tokens) (rest : Ahead) →
    g.separated g.comma ((λ w. one (Item.reserved_name w) nothing) <$> g.decoded_string) (unplaced (p.separated (λ x. p.say (p.quoted x)) g.comma (n ∷ ns) (p.sign g.semicolon ∷ us)) rest) ≡ ok (trees name_tree (n ∷ ns)) (next (p.sign g.semicolon) nowhere (unplaced us rest))
unfolding ◌<$>◌
names_read n ns h hs us rest =
    separated_read _ (takes-map _ _ decoded_string-takes) (λ x. p.say (p.quoted x)) name_tree TextOk (λ b. Unit {0}) (λ x k b u vs r. run _ (string_read x k (p.sign b ∷ vs) r) refl) g.comma g.semicolon tt tt refl refl n ns h hs us rest

-- what is due, where it is known what comes
due-at : {A : Type 0} (f : Token → Parser A) {a b : Ahead} {t : Token} {q : Place} → a ≡ next t q b → due f a ≡ f t a
unfolding due look with_some ◌>>=◌
due-at f {t = t} e = subst (λ a. due f a ≡ f t a) (sym e) refl

pub extensions_read : (r : Range) (rs : List Range) → RangeOk r → All RangeOk rs → Reads g.extensions (p.◌·◌ (p.separated p.range g.comma (r ∷ rs)) (p.mark g.semicolon)) (trees (range_tree Item.extension_range) (r ∷ rs))
unfolding g.extensions ◌>>=◌ ◌>>◌ return look take expect due with_some
extensions_read r rs h hs us rest = run _ (ranges_read Item.extension_range 536870911 r rs h hs us rest) refl

module _ (max : ℕ) where
  pub numbers_read : (r : Range) (rs : List Range) → RangeOk r → All RangeOk rs → Reads (g.reserved max) (p.◌·◌ (p.separated p.range g.comma (r ∷ rs)) (p.mark g.semicolon)) (trees (range_tree Item.reserved_range) (r ∷ rs))
  unfolding g.reserved ◌>>=◌ ◌>>◌ return look take expect due with_some given◌then◌else◌
  numbers_read r rs h hs us rest = run _ (due-at _ (ap (λ l. unplaced l rest) (range_starts r _)) ∙ ranges_read Item.reserved_range max r rs h hs us rest) refl

  pub reserved_names_read : (n : Bytes) (ns : List Bytes) → TextOk n → All TextOk ns → Reads (g.reserved max) (p.◌·◌ (p.separated (λ x. p.say (p.quoted x)) g.comma (n ∷ ns)) (p.mark g.semicolon)) (trees name_tree (n ∷ ns))
  unfolding g.reserved ◌>>=◌ ◌>>◌ return look take expect due with_some given◌then◌else◌
  reserved_names_read n ns h hs us rest = run _ (names_read n ns h hs us rest) refl
