-- Every file that is read can be printed and read again.
use Rattle.std.proofs.Common.{◌≡◌, ℕ, Bool, true, false, List, [], ◌∷◌, codes, sym, refl, subst}
use Rattle.token.specs.declared.answer.Place.{Place}
use Rattle.token.specs.Token.{Bytes, Ahead}
use Rattle.grammar.specs.Parse.{Reply, ok, refused, Parser, bind, ◌>>=◌, given◌then◌else◌, choose, word_if}
use Rattle.grammar.specs.declared.kinds.Syntax.{Syntax}
use Rattle.grammar.specs.declared.kinds.Syntax.TheVariants.{Proto2, Proto3}
use Rattle.grammar.specs.Tree.{Item, Forest, nothing, one, Tree}
use Rattle.grammar.specs.declared.fault.ParserError.TheVariants.{IncorrectInput, UnknownSyntax}
use Rattle.round_trip.proofs.Well.{Well}
use Rattle.grammar.specs.Grammar as g
use Rattle.grammar.specs.Model as m
use Rattle.grammar.specs.Model.{parts_of, model}
use Rattle.round_trip.proofs.ConstantAgain.{WordOk}
use Rattle.round_trip.proofs.Again.{All}
use Rattle.round_trip.proofs.Canon.{StreamOk, PackageOk, FileOk}
use Rattle.round_trip.proofs.Outcome.{Result, Gives, then_result, g_bind, g_then, g_map, g_return, g_refuse, g_weaken, g_if, g_with, g_any, g_accept, g_here, g_look, g_many, g_choose, HeadSkips, word_result}
use Rattle.round_trip.proofs.Leaves.{ident_gives, full_gives, full_result, FullAt, path_skips_of, dotted_gives, decoded_gives}
use Rattle.round_trip.proofs.ConstantReads.{g_until}
use Rattle.round_trip.proofs.PartsRead.{Fine, fine_beside, fine_nothing, fine_one, options_good, imports_good, methods_good, services_good, enums_good, extensions_good, messages_good, option_statement_gives}
use Rattle.round_trip.proofs.FieldsRead.{InnerGood}
use Rattle.round_trip.proofs.BodiesRead.{nested_good, enum_gives, extend_gives, message_gives}

-- ---- services
-- where there is no room for fields, any mode will do
abbrev top : g.Mode
top = g.Mode.message

-- a type that is streamed, or not
abbrev streamed : {A : Type 0} → (Bool → Bytes → Parser A) → Parser A
streamed k = word_if (codes "stream") >>= (λ b. g.full_ident >>= (λ t. k b t))

streamed_gives : {A : Type 0} (Q : A → Type 0) (k : Bool → Bytes → Parser A) → ((b : Bool) (t : Bytes) → StreamOk b t → Gives (k b t) Q) → Gives (streamed k) Q
streamed_gives {A} Q k h = record { gives = λ a l. subst (Result (λ x b. Q x)) (split a) (word_result (λ x b. Q x) (codes "stream") _ _ a l (λ i b l'. yes_stream b l') (λ e. no_stream a l e)) }
  where
    split : (a : Ahead) → (word_if (codes "stream") >>= (λ c. given c then (g.full_ident >>= (λ t. k true t)) else (g.full_ident >>= (λ t. k false t)))) a ≡ streamed k a
    split a = unfold ◌>>=◌ in go (word_if (codes "stream") a)
      where
        go : (r : Reply Bool) → bind r (λ c. given c then (g.full_ident >>= (λ t. k true t)) else (g.full_ident >>= (λ t. k false t))) ≡ bind r (λ b. g.full_ident >>= (λ t. k b t))
        go (ok true b) = unfold given◌then◌else◌ in refl
        go (ok false b) = unfold given◌then◌else◌ in refl
        go (refused why b) = refl

    yes_stream : (b : Ahead) → Well b → Result (λ x b. Q x) ((g.full_ident >>= (λ t. k true t)) b)
    yes_stream b l = (g_bind full_gives (λ t f. h true t f)).gives b l

    no_stream : (a : Ahead) → Well a → HeadSkips (codes "stream" ∷ []) a → Result (λ x b. Q x) ((g.full_ident >>= (λ t. k false t)) a)
    no_stream a l e = unfold ◌>>=◌ in then_result (λ t b. FullAt a t) (λ x b. Q x) (g.full_ident a) (λ t. k false t) (full_result a l) (λ t b f l'. (h false t (f.0, path_skips_of (codes "stream" ∷ []) a t f e)).gives b l')

module _ (s : Syntax) (room : ℕ) (inner : g.Inner) (inner_good : InnerGood s room inner) where
  abbrev Ok : Forest → Type 0
  Ok f = Fine s top room f

  empty_gives : Gives g.empty_statement Ok
  unfolding g.empty_statement
  empty_gives = g_bind (g_accept _) (λ b u. g_if (λ e. g_return _ (fine_nothing s top room)) (λ e. g_refuse IncorrectInput))

  option_or_empty : Gives (choose ((codes "option", g.option_statement inner) ∷ []) g.empty_statement) Ok
  option_or_empty = g_choose _ _ (option_statement_gives s top room inner inner_good.constants, tt) empty_gives

  method_options_gives : Gives (g.method_options inner) Ok
  unfolding g.method_options
  method_options_gives =
      g_bind (g_accept _) (λ b u. g_if
      (λ e. g_bind (g_until g.brace_end Ok Ok option_or_empty (fine_nothing s top room) (fine_beside s top room)) (λ f h. g_then (g_any _ _) (g_return _ h)))
      (λ e. g_then (g_any _ _) (g_return _ (fine_nothing s top room))))

  method-made : (n : Bytes) (ci : Bool) (i : Bytes) (co : Bool) (o : Bytes) (f : Forest) → WordOk n → StreamOk ci i → StreamOk co o → Ok f → Ok (one (Item.method n ci i co o) f)
  method-made n ci i co o f w h k e = fine_one s top room (Item.method n ci i co o) f (record { word_ok = w; input_ok = h; output-ok = k; options-ok = options_good s top room (parts_of f) e })

  stream_gives : Gives (g.stream inner) Ok
  unfolding g.stream
  stream_gives =
      g_bind ident_gives (λ n w. g_then (g_any _ _) (g_bind full_gives (λ i h. g_then (g_any _ _) (g_bind full_gives (λ o k. g_then (g_any _ _) (g_bind method_options_gives (λ f e. g_return _ (method-made n true i true o f w h k e))))))))

  rpc_gives : Gives (g.rpc inner) Ok
  unfolding g.rpc
  rpc_gives =
      g_bind ident_gives (λ n w. g_then (g_any _ _) (streamed_gives Ok _ (λ ci i h. g_then (g_any _ _) (g_then (g_any _ _) (g_then (g_any _ _) (streamed_gives Ok _ (λ co o k.
      g_then (g_any _ _) (g_bind method_options_gives (λ f e. g_return _ (method-made n ci i co o f w h k e))))))))))

  service_made : (n : Bytes) (p : Place) (f : Forest) → WordOk n → Ok f → Ok (one (Item.service n p) f)
  service_made n p f w h = fine_one s top room (Item.service n p) f (record { word_ok = w; options-ok = options_good s top room (parts_of f) h; methods-ok = methods_good s top room (parts_of f) h })

stream_or_gives : (s x : Syntax) (room : ℕ) (inner : g.Inner) (inner_good : InnerGood s room inner) (other : Parser Forest) → Gives other (Fine s top room) → Gives (g.stream_or x inner other) (Fine s top room)
stream_or_gives s Proto2 room inner inner_good other h = g_choose _ _ (stream_gives s room inner inner_good, tt) h
stream_or_gives s Proto3 room inner inner_good other h = h

service_gives : (s : Syntax) (room : ℕ) (inner : g.Inner) (inner_good : InnerGood s room inner) (p : Place) → Gives (g.service s inner p) (Fine s top room)
unfolding g.service g.service_statement
service_gives s room inner inner_good p =
    g_bind ident_gives (λ n w. g_then (g_any _ _) (g_bind
    (g_until g.brace_end (Fine s top room) (Fine s top room) (g_choose _ _ (rpc_gives s room inner inner_good, tt) (stream_or_gives s s room inner inner_good _ (option_or_empty s room inner inner_good))) (fine_nothing s top room) (fine_beside s top room))
    (λ f h. g_then (g_any _ _) (g_return _ (service_made s room inner inner_good n p f w h)))))

-- ---- the top level
import_gives : (s : Syntax) (room : ℕ) → Gives g.import (Fine s top room)
unfolding g.import
import_gives s room =
    g_bind {P = λ v. Unit {0}} (g_choose _ _ (g_return _ tt, (g_return _ tt, tt)) (g_return _ tt)) (λ v u. g_bind decoded_gives (λ t h. g_then (g_any _ _)
    (g_with (λ n e. g_refuse n) (λ e. g_return _ (fine_one s top room (Item.import v t) nothing (record { text-ok = h; path-ok = e }))))))

abbrev TopGood : Syntax → g.Top → Type 0
TopGood s (g.in_package t) = PackageOk t
TopGood s (g.items f) = Fine s top 32 f

top_gives : (s : Syntax) → Gives (g.top_statement s) (TopGood s)
unfolding g.top_statement g.package_statement
top_gives s =
    let inner = g.outermost s in
    let good = nested_good s 32 in
    g_bind g_here (λ p u. g_choose _ _ (
      g_map _ (import_gives s 32) (λ f h. h),
      (
        g_bind dotted_gives (λ t h. g_then (g_any _ _) (g_return _ (refl, h))),
        (
          g_map _ (option_statement_gives s top 32 inner good.constants) (λ f h. h),
          (
            g_map _ (message_gives s top 32 inner good p) (λ f h. h),
            (
              g_map _ (enum_gives s top 32 inner good.constants p) (λ f h. h),
              (
                g_map _ (extend_gives s top 32 inner good) (λ f h. h),
                (g_map _ (service_gives s 32 inner good p) (λ f h. h), tt),
              ),
            ),
          ),
        ),
      ),
    )
    (g_map _ (empty_gives s 32 inner good) (λ f h. h)))

record TreeGood (s : Syntax) (t : Tree) : Type 0 where
  is-syntax : t.syntax ≡ s
  packages_good : All PackageOk t.packages
  items_good : Fine s top 32 t.items

top-added : (s : Syntax) (x : g.Top) (t : Tree) → TopGood s x → TreeGood s t → TreeGood s (g.add_top x t)
top-added s (g.in_package p) t h k = record { is-syntax = k.is-syntax; packages_good = (h, k.packages_good); items_good = k.items_good }
top-added s (g.items f) t h k = record { is-syntax = k.is-syntax; packages_good = k.packages_good; items_good = fine_beside s top 32 f t.items h k.items_good }

syntax_gives : Gives g.syntax (λ s. Unit {0})
unfolding g.syntax
syntax_gives =
    g_choose _ _ (g_then (g_any _ _) (g_bind decoded_gives (λ w h. g_bind {P = λ s. Unit {0}} (g_if (λ e. g_return _ tt) (λ e. g_if (λ e. g_return _ tt) (λ e. g_refuse UnknownSyntax))) (λ s u. g_then (g_any _ _) (g_return _ tt)))), tt) (g_return _ tt)

file_gives : Gives g.file (λ t. TreeGood t.syntax t)
unfolding g.file g.top_turn
file_gives =
    g_bind {P = λ s. Unit {0}} syntax_gives (λ s u. g_weaken
    (g_many g.add_top (g.empty_tree s) (TopGood s) (g_bind g_look (λ o v. g_with (λ x e. g_map _ (top_gives s) (λ x h. h)) (λ e. g_return _ tt)))
    (record { is-syntax = refl; packages_good = tt; items_good = fine_nothing s top 32 })
    (top-added s))
    (λ t h. subst (λ x. TreeGood x t) (sym h.is-syntax) h))

last_good : (d : Bytes) (ps : List Bytes) → PackageOk d → All PackageOk ps → PackageOk (m.last_or d ps)
last_good d [] h k = h
last_good d (p ∷ ps) h k = last_good p ps k.0 k.1

model_good : (t : Tree) → TreeGood t.syntax t → FileOk (model t)
unfolding model
model_good t h =
    let s = t.syntax in
    let ps = parts_of t.items in
    let k = h.items_good in
    record {
      imports-ok = imports_good s top 32 ps k;
      package_ok = last_good [] t.packages tt h.packages_good;
      options-ok = options_good s top 32 ps k;
      messages-ok = messages_good s top 32 ps k;
      enums-ok = enums_good s top 32 ps k;
      extensions-ok = extensions_good s top 32 ps k;
      services-ok = services_good s top 32 ps k;
    }

-- a file that was read from lawful tokens is good
pub readable : (a : Ahead) → Well a → (t : Tree) (b : Ahead) → g.file a ≡ ok t b → FileOk (model t)
readable a l t b e = model_good t (subst (Result (λ x c. TreeGood x.syntax x)) e (file_gives.gives a l)).0
