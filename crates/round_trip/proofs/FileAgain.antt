-- The way back for services, imports and whole files.
use Rattle.std.proofs.Common.{◌≡◌, ℕ, Bool, true, false, List, [], ◌∷◌, ◌++◌, Some as some, codes, Option, sym, refl, ap, ◌∙◌, subst, append-nil}
use Rattle.token.specs.declared.answer.Place.{Place}
use Rattle.token.specs.Token.{Bytes, Token, Ahead, next, end, nowhere, place, unplaced}
use Rattle.grammar.specs.Parse.{ok, Parser, ◌>>=◌, ◌>>◌, ◌<$>◌, return, given◌then◌else◌, with_some, due, here, look, take, peek, accept, expect, choose, word_if, unless_next, many}
use Rattle.grammar.specs.declared.kinds.Syntax.{Syntax}
use Rattle.grammar.specs.declared.kinds.Syntax.TheVariants.{Proto2, Proto3}
use Rattle.grammar.specs.declared.kinds.ImportVis.{ImportVis}
use Rattle.grammar.specs.Tree.{Item, Forest, nothing, ◌beside◌, Tree}
use Rattle.grammar.specs.Decode.{decode, unescape, utf8_from}
use Rattle.grammar.specs.Grammar as g
use Rattle.grammar.specs.Model.{ProtoOption, Extension, Enumeration, Messages, no_messages, next_message, Method, Service, Import, FileDescriptor}
use Rattle.grammar.specs.Print as p
use Rattle.grammar.proofs.ManyLaw.{run, many_stops}
use Rattle.grammar.proofs.Progress.{Turns, turn_unless, takes-keeps, takes-choose, takes_choose_none}
use Rattle.grammar.proofs.GrammarProgress.{service_statement-takes, nested-takes, option_statement-takes, empty_statement-takes, top_turns}
use Rattle.round_trip.proofs.PathAgain.{dotted-again}
use Rattle.round_trip.proofs.ConstantAgain.{PathOk, FullOk, first_token, full_starts, full_read, starts, others_words}
use Rattle.round_trip.proofs.Again.{skips-first, not_word, All, adding, trees, Reads, Runs, run-one, run-all}
use Rattle.round_trip.proofs.Canon.{option_tree, extension_tree, enum_tree, messages_tree, method_tree, service_tree, import_tree, package_list, tree_of, OptionOk, ExtensionOk, EnumOk, MessagesOk, StreamOk, MethodOk, ServiceOk, ImportOk, PackageOk, FileOk}
use Rattle.round_trip.proofs.OptionAgain.{string_read, option_statement_read}
use Rattle.round_trip.proofs.FieldAgain.{closes, path-skips}
use Rattle.round_trip.proofs.BodyAgain.{enum_read, extension_read, message_printer, message_read, messages-run}

-- ---- methods
stream_read : (b : Bool) (t : Bytes) → StreamOk b t → (us : p.Tokens) (rest : Ahead) →
    word_if (codes "stream") (unplaced (p.when b (p.keyword "stream") (p.path t us)) rest) ≡ ok b (unplaced (p.path t us) rest)
unfolding accept peek look take with_some return given◌then◌else◌ ◌>>=◌ ◌>>◌
stream_read true t h us rest = refl
stream_read false t h us rest =
    subst (λ l. word_if (codes "stream") (unplaced l rest) ≡ ok false (unplaced l rest)) (sym (full_starts h.0 us))
    (not_word (first_token h.0) nowhere _ (codes "stream") (skips-first (first_token h.0) (codes "stream") [] (path-skips h.0 (codes "stream" ∷ []) h.1)))

stream-path : (b : Bool) (t : Bytes) → StreamOk b t → FullOk t
stream-path true t h = h
stream-path false t h = h.0

module _ (s : Syntax) (room : ℕ) where
  abbrev options_item : Parser Forest
  options_item = choose ((codes "option", g.option_statement (g.nested s room)) ∷ []) g.empty_statement

  turns : Turns (unless_next g.brace_end options_item)
  turns = turn_unless _ _ (takes-choose _ _ _ _ (takes-keeps _ (option_statement-takes _ (nested-takes s room))) (takes_choose_none _ empty_statement-takes))

  method-option : (o : ProtoOption) → OptionOk room o → Reads (unless_next g.brace_end options_item) (p.option_statement o) (some (option_tree o))
  unfolding unless_next choose ◌>>=◌ ◌>>◌ ◌<$>◌ return look take accept peek with_some given◌then◌else◌
  method-option o h us rest = run _ (option_statement_read s room o h us rest) refl

  method_end_read : (os : List ProtoOption) → All (OptionOk room) os → Reads (g.method_options (g.nested s room)) (p.method_end os) (trees option_tree os)
  unfolding g.method_options ◌>>=◌ ◌>>◌ return look take accept peek expect due with_some given◌then◌else◌
  method_end_read [] h us rest = refl
  method_end_read (o ∷ os) h us rest =
      run _ (run-all ◌beside◌ nothing _ turns p.option_statement option_tree (OptionOk room) method-option (o ∷ os) h _ rest _ _ (closes _ turns us rest)) refl

  method_read : (m : Method) → MethodOk room m →
      Reads (g.rpc (g.nested s room)) (p.◌·◌ (p.name m.name) (p.◌·◌ (p.method_type m.from_client m.input) (p.◌·◌ (p.keyword "returns") (p.◌·◌ (p.method_type m.from_server m.output) (p.method_end m.options))))) (method_tree m)
  unfolding g.rpc ◌>>=◌ ◌>>◌ return look take accept peek expect due with_some given◌then◌else◌
  method_read m h us rest =
      run _ (stream_read m.from_client m.input h.input_ok _ rest)
      (run _ (full_read (stream-path m.from_client m.input h.input_ok) (p.sign g.paren_end ∷ p.word "returns" ∷ p.method_type m.from_server m.output (p.method_end m.options us)) rest refl)
      (run _ (stream_read m.from_server m.output h.output-ok _ rest)
      (run _ (full_read (stream-path m.from_server m.output h.output-ok) (p.sign g.paren_end ∷ p.method_end m.options us) rest refl)
      (run _ (method_end_read m.options h.options-ok us rest) refl))))

  -- ---- services
  abbrev service_turn : Parser (Option Forest)
  service_turn = unless_next g.brace_end (g.service_statement s (g.nested s room))

  service_turns : Turns service_turn
  service_turns = turn_unless _ _ (service_statement-takes (g.nested s room) (nested-takes s room) s)

  method-turn : (m : Method) → MethodOk room m → Reads service_turn (p.method m) (some (method_tree m))
  unfolding unless_next g.service_statement choose ◌>>=◌ ◌>>◌ ◌<$>◌ return look take accept peek with_some given◌then◌else◌
  method-turn m h us rest = run _ (method_read m h us rest) refl

service-option : (s : Syntax) (room : ℕ) (o : ProtoOption) → OptionOk room o → Reads (service_turn s room) (p.option_statement o) (some (option_tree o))
unfolding unless_next g.service_statement choose ◌>>=◌ ◌>>◌ ◌<$>◌ return look take accept peek with_some given◌then◌else◌
service-option Proto2 room o h us rest = run _ (option_statement_read Proto2 room o h us rest) refl
service-option Proto3 room o h us rest = run _ (option_statement_read Proto3 room o h us rest) refl

service_read : (s : Syntax) (room : ℕ) (v : Service) → ServiceOk room v →
    Reads (g.service s (g.nested s room) nowhere) (p.◌·◌ (p.name v.name) (p.body (p.◌·◌ (p.all p.option_statement v.options) (p.all p.method v.methods)))) (service_tree v)
unfolding g.service ◌>>=◌ ◌>>◌ return look take expect due with_some
service_read s room v h us rest =
    run _ (run-all ◌beside◌ nothing _ (service_turns s room) p.option_statement option_tree (OptionOk room) (service-option s room) v.options h.options-ok _ rest _ _
    (run-all ◌beside◌ nothing _ (service_turns s room) p.method method_tree (MethodOk room) (method-turn s room) v.methods h.methods-ok _ rest _ _
    (closes _ (service_turns s room) us rest))) refl

-- ---- the top level
abbrev TopRuns : Syntax → p.Printer → (Tree → Tree) → Type 0
TopRuns s pr f = Runs g.add_top (g.empty_tree s) (g.top_turn s) pr f

-- what is added to the items
abbrev in_items : (Forest → Forest) → Tree → Tree
in_items f t = record { syntax = t.syntax; packages = t.packages; items = f t.items }

top-all : {X : Type 0} (s : Syntax) (shown : X → p.Printer) (tree : X → Forest) (P : X → Type 0) → ((x : X) → P x → Reads (g.top_turn s) (shown x) (some (g.items (tree x)))) →
    (xs : List X) → All P xs → TopRuns s (p.all shown xs) (in_items (adding ◌beside◌ tree xs))
top-all s shown tree P h [] ps us rest y b e = e
top-all s shown tree P h (x ∷ xs) ps us rest y b e = run-one g.add_top (g.empty_tree s) (g.top_turn s) (top_turns s) (shown x) (g.items (tree x)) (h x ps.0) _ rest _ b (top-all s shown tree P h xs ps.1 us rest y b e)

module _ (s : Syntax) where
  visibility_read : (v : ImportVis) (t : Bytes) (a : Ahead) →
      choose ((codes "weak", return ImportVis.Weak) ∷ (codes "public", return ImportVis.Public) ∷ []) (return ImportVis.Default) (unplaced (p.visibility v (Token.string t ∷ [])) a) ≡ ok v (next (Token.string t) nowhere a)
  unfolding choose ◌>>=◌ ◌>>◌ return look take accept peek with_some given◌then◌else◌
  visibility_read ImportVis.Default t a = refl
  visibility_read ImportVis.Weak t a = refl
  visibility_read ImportVis.Public t a = refl

  visibility_front : (v : ImportVis) (t : Token) (us : p.Tokens) (rest : Ahead) → unplaced (p.visibility v (t ∷ us)) rest ≡ unplaced (p.visibility v (t ∷ [])) (unplaced us rest)
  visibility_front ImportVis.Default t us rest = refl
  visibility_front ImportVis.Weak t us rest = refl
  visibility_front ImportVis.Public t us rest = refl

  import_read : (i : Import) → ImportOk i → Reads (g.top_turn s) (p.import i) (some (g.items (import_tree i)))
  unfolding g.top_turn g.top_statement g.import here choose ◌>>=◌ ◌>>◌ ◌<$>◌ return look take accept peek expect due with_some given◌then◌else◌
  import_read i h us rest =
      run _ (run _ (run _ (ap (choose ((codes "weak", return ImportVis.Weak) ∷ (codes "public", return ImportVis.Public) ∷ []) (return ImportVis.Default)) (visibility_front i.visibility (p.quoted i.path) (p.sign g.semicolon ∷ us) rest) ∙ visibility_read i.visibility (p.escaped i.path) _)
      (run _ (string_read i.path h.text-ok (p.sign g.semicolon ∷ us) rest) (rw h.path-ok refl))) refl) refl

  option-top : (o : ProtoOption) → OptionOk 32 o → Reads (g.top_turn s) (p.option_statement o) (some (g.items (option_tree o)))
  unfolding g.top_turn g.top_statement here choose ◌>>=◌ ◌>>◌ ◌<$>◌ return look take accept peek with_some given◌then◌else◌
  option-top o h us rest = run _ (run _ (option_statement_read s 32 o h us rest) refl) refl

  enum-top : (e : Enumeration) → EnumOk 32 e → Reads (g.top_turn s) (p.enum e) (some (g.items (enum_tree e)))
  unfolding g.top_turn g.top_statement here choose ◌>>=◌ ◌>>◌ ◌<$>◌ return look take accept peek with_some given◌then◌else◌
  enum-top e h us rest = run _ (run _ (enum_read s 32 e h us rest) refl) refl

  extension-top : (e : Extension) → ExtensionOk s 32 e → Reads (g.top_turn s) (p.extension e) (some (g.items (extension_tree e)))
  unfolding g.top_turn g.top_statement here choose ◌>>=◌ ◌>>◌ ◌<$>◌ return look take accept peek with_some given◌then◌else◌
  extension-top e h us rest = run _ (run _ (extension_read s 32 e h us rest) refl) refl

  service-top : (v : Service) → ServiceOk 32 v → Reads (g.top_turn s) (p.service v) (some (g.items (service_tree v)))
  unfolding g.top_turn g.top_statement here choose ◌>>=◌ ◌>>◌ ◌<$>◌ return look take accept peek with_some given◌then◌else◌
  service-top v h us rest = run _ (run _ (service_read s 32 v h us rest) refl) refl

  message-top : (pr : p.Printer) (x : Forest) → Reads (g.named_body (g.nested s 32) g.Mode.message (λ name. Item.message name nowhere)) pr x → Reads (g.top_turn s) (p.◌·◌ (p.keyword "message") pr) (some (g.items x))
  unfolding g.top_turn g.top_statement here choose ◌>>=◌ ◌>>◌ ◌<$>◌ return look take accept peek with_some given◌then◌else◌
  message-top pr x h us rest = run _ (run _ (h us rest) refl) refl

  messages-top : (ms : Messages) → MessagesOk s ms 32 → TopRuns s (p.messages ms) (in_items (messages_tree ms))
  unfolding p.messages messages_tree
  messages-top no_messages h us rest y b e = e
  messages-top (next_message n c place inner more) h us rest y b e =
      run-one g.add_top (g.empty_tree s) (g.top_turn s) (top_turns s) (p.◌·◌ (p.keyword "message") (p.◌·◌ (p.name n) (p.body (message_printer c inner)))) _
      (message-top (p.◌·◌ (p.name n) (p.body (message_printer c inner))) _ (message_read s 31 n c h.0 inner (messages-run s inner 31 h.1))) _ rest _ b
      (messages-top more h.2 us rest y b e)

  -- a package's path
  dotted_read : (t : Bytes) → PathOk t → (us : p.Tokens) (rest : Ahead) → g.dotted (unplaced (p.path t (p.sign g.semicolon ∷ us)) rest) ≡ ok t (next (p.sign g.semicolon) nowhere (unplaced us rest))
  unfolding accept peek look with_some return given◌then◌else◌ ◌>>=◌ ◌>>◌
  dotted_read t h us rest =
      ap (λ l. g.dotted (unplaced l rest)) (starts t h (p.sign g.semicolon ∷ us))
      ∙ dotted-again (p.sign g.semicolon ∷ us) rest refl (h.first ∷ h.letters) h.others (others_words h.are_words)
      ∙ ap (λ u. ok u (next (p.sign g.semicolon) nowhere (unplaced us rest))) (sym h.joined)

  package_read : (c : ℕ) (cs : Bytes) → PackageOk (c ∷ cs) → Reads (g.top_turn s) (p.package_statement (c ∷ cs)) (some (g.in_package (c ∷ cs)))
  unfolding g.top_turn g.top_statement g.package_statement here choose ◌>>=◌ ◌>>◌ ◌<$>◌ return look take accept peek expect due with_some given◌then◌else◌
  package_read c cs h us rest = run _ (run _ (dotted_read cs h.1 us rest) (ap (λ d. ok (g.in_package (d ∷ cs)) (unplaced us rest)) (sym h.0))) refl

  package_run : (t : Bytes) → PackageOk t → TopRuns s (p.package_statement t) (λ y. record { syntax = y.syntax; packages = package_list t ++ y.packages; items = y.items })
  package_run [] h us rest y b e = e
  package_run (c ∷ cs) h us rest y b e = run-one g.add_top (g.empty_tree s) (g.top_turn s) (top_turns s) (p.package_statement (c ∷ cs)) (g.in_package (c ∷ cs)) (package_read c cs h) us rest y b e

  -- the end
  top-ends : (q : Place) → many g.add_top (g.empty_tree s) (g.top_turn s) (end q) ≡ ok (g.empty_tree s) (end q)
  unfolding g.top_turn look with_some return ◌>>=◌
  top-ends q = many_stops g.add_top (g.empty_tree s) (g.top_turn s) (top_turns s).onward refl

syntax_read : (s : Syntax) (us : p.Tokens) (rest : Ahead) → g.syntax (unplaced (p.word "syntax" ∷ p.sign g.equals ∷ Token.string (p.syntax_name s) ∷ p.sign g.semicolon ∷ us) rest) ≡ ok s (unplaced us rest)
unfolding g.syntax g.decoded_string decode unescape utf8_from choose ◌>>=◌ ◌>>◌ return look take accept peek expect due with_some given◌then◌else◌
syntax_read Proto2 us rest = refl
syntax_read Proto3 us rest = refl

-- ---- a file that is printed is read again
pub file_read : (m : FileDescriptor) → FileOk m → (q : Place) → g.file (unplaced (p.print_tokens m) (end q)) ≡ ok (tree_of m) (end q)
unfolding g.file p.file tree_of ◌>>=◌
file_read m h q =
    let s = m.syntax in
    run _ (syntax_read s _ (end q))
    (top-all s p.import import_tree ImportOk (import_read s) m.imports h.imports-ok _ (end q) _ _
    (package_run s m.package_path h.package_ok _ (end q) _ _
    (top-all s p.option_statement option_tree (OptionOk 32) (option-top s) m.options h.options-ok _ (end q) _ _
    (messages-top s m.messages h.messages-ok _ (end q) _ _
    (top-all s p.enum enum_tree (EnumOk 32) (enum-top s) m.enums h.enums-ok _ (end q) _ _
    (top-all s p.extension extension_tree (ExtensionOk s 32) (extension-top s) m.extensions h.extensions-ok _ (end q) _ _
    (top-all s p.service service_tree (ServiceOk 32) (service-top s) m.services h.services-ok [] (end q) _ _ (top-ends s q))))))))
    ∙ ap (λ ps. ok (record { syntax = m.syntax; packages = ps; items = (tree_of m).items }) (end q)) (append-nil (package_list m.package_path))
