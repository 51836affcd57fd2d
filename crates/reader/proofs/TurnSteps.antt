-- What a turn of the loop over the brackets of a constant or a type does, from what its calls gave.
use Rattle.std.proofs.Common.{◌≡◌, ℕ, suc, ◌-◌, ◌<◌, ◌≤◌, Bool, true, false, eqb, List, [], ◌∷◌, ◌++◌, reverse, length, take, Some, Ok, Err, Option, Result, sym, refl, ap, ◌∙◌, subst, append-nil, arith}
use mathlib.Core.List.{reverse-append}
use Rattle.std.specs.Option.{option_to_list}
use Rattle.std.proofs.lemmas.Bool.Decides.{nat_tests}
use Rattle.token.specs.Token.{Ahead, count}
use Rattle.grammar.specs.declared.kinds.Syntax.{Syntax}
use Rattle.grammar.specs.declared.fault.ReadFault.{ReadFault}
use Rattle.grammar.specs.Parse.{bind, ok, refused, return, accept, symbol_due, symbol_if}
use Rattle.grammar.specs.Progress.{Left}
use Rattle.grammar.specs.Grammar as g
use Rattle.grammar.specs.Tree.{Item, Value, Shape, Key, Forest, nothing}
use Rattle.grammar.proofs.Progress.{keeps-accept}
use Rattle.grammar.proofs.GrammarProgress.{key-takes, constant-takes, type-takes, nested-takes}
use Rattle.store.specs.declared.stack.Stack.{Stack}
use Rattle.store.specs.Stacks.{items, room}
use Rattle.store.specs.Held.{Held, held}
use Rattle.store.specs.Means.{Kept}
use Rattle.store.specs.declared.table.Store.{Store}
use Rattle.reader.specs.declared.frames.Frame.{Frame}
use Rattle.reader.specs.declared.frames.Due.{Due}
use Rattle.reader.specs.Events.{Event, opens, closes, events, Did}
use Rattle.reader.specs.Brackets.{after, run, separator, resume, ahead}
use Rattle.reader.specs.Turns.{ahead_of, Turned, Turn, Innermost, Within, complete, open_in, left, whole}
use Rattle.reader.specs.Begun.{Begun}
use Rattle.reader.specs.BegunType.{BegunType}
use Rattle.reader.proofs.Doing.{did_none, did_join, did_forest, kept-events}
use Rattle.grammar.specs.declared.kinds.Syntax.TheVariants.{Proto2}
use Rattle.reader.proofs.Opening.{due-took, if_took, if_not, frames_pushed, left-pushed}
use Rattle.reader.proofs.Replaying.{after-after, ended_ok, ended_refused, after_none, other}
use Rattle.reader.proofs.Resume.{message-opens, message_refuses, message_full, list-opens, list_empty, list_refuses, list_open_refuses, list_full, entry_closes, entry_end_refuses, entry_refuses, colon_refuses, entry_any, entry-message, ended_in_message, ended_refuses, ended_comma, comma_refuses, ended_closes, ended_open, due-plain, due-message, due-list, due_refuses, type-map, type-plain, type_refuses, map-opens, map_refuses, map_full, key_ended, key_end_refuses, value_ended, value_end_refuses}

module _ (f : Stack Frame) where
  module _ (a : Ahead) {b : Ahead} where
    pub message-turned : (h : Stack Frame) {old new : Held} → items h ≡ items f ++ Frame.MessageConstant ∷ [] → room h ≡ room f → length (items f) < room f
        → symbol_due g.brace a ≡ ok tt b → Did old new (opens (Item.constant Value.message) ∷ []) → Turned f h Due.Message Due.Entry a b old new
    message-turned h pushed stays fits e did =
        let took = due-took g.brace a e in
        record {
          written = opens (Item.constant Value.message) ∷ [];
          same = λ s.
              ap (λ n. ahead s n (open_in f) Due.Message a) (left-pushed f h Frame.MessageConstant pushed stays fits)
              ∙ message-opens s (left h) (open_in f) a e
              ∙ ap (λ fs. after (opens (Item.constant Value.message) ∷ []) (ahead s (left h) fs Due.Entry b)) (sym (frames_pushed f h Frame.MessageConstant pushed stays fits));
          did = did;
          on = omega arith;
          within = (open_in f, frames_pushed f h Frame.MessageConstant pushed stays fits);
          room_stays = stays;
        }

    pub message_turn_refuses : {why : ReadFault} → length (items f) < room f → symbol_due g.brace a ≡ refused why b → (s : Syntax) → ahead_of s f Due.Message a ≡ refused why b
    message_turn_refuses fits e s =
        let n : left f ≡ suc (left f - 1) = omega arith in
        ap (λ n. ahead s n (open_in f) Due.Message a) n ∙ message_refuses s (left f - 1) (open_in f) a e

    pub message_turn_full : {why : ReadFault} → room f ≤ length (items f) → g.no_room g.brace a ≡ refused why b → (s : Syntax) → ahead_of s f Due.Message a ≡ refused why b
    message_turn_full full e s =
        let n : left f ≡ 0 = omega arith in
        ap (λ n. ahead s n (open_in f) Due.Message a) n ∙ message_full s 0 (open_in f) a e

  -- ---- lists
  module _ (a : Ahead) {b : Ahead} where
    pub list_turn_refuses : {why : ReadFault} → length (items f) < room f → symbol_due g.bracket a ≡ refused why b → (s : Syntax) → ahead_of s f Due.List a ≡ refused why b
    list_turn_refuses fits e s =
        let n : left f ≡ suc (left f - 1) = omega arith in
        ap (λ n. ahead s n (open_in f) Due.List a) n ∙ list_refuses s (left f - 1) (open_in f) a e

    pub list_turn_full : {why : ReadFault} → room f ≤ length (items f) → g.no_room g.bracket a ≡ refused why b → (s : Syntax) → ahead_of s f Due.List a ≡ refused why b
    list_turn_full full e s =
        let n : left f ≡ 0 = omega arith in
        ap (λ n. ahead s n (open_in f) Due.List a) n ∙ list_full s 0 (open_in f) a e

    module _ (fits : length (items f) < room f) (e : symbol_due g.bracket a ≡ ok tt b) {c : Ahead} where
      pub list_turn_open_refuses : {why : ReadFault} → symbol_if g.bracket_end b ≡ refused why c → (s : Syntax) → ahead_of s f Due.List a ≡ refused why c
      list_turn_open_refuses k s =
          let n : left f ≡ suc (left f - 1) = omega arith in
          ap (λ n. ahead s n (open_in f) Due.List a) n ∙ list_open_refuses s (left f - 1) (open_in f) a e k

      pub list-turned : (h : Stack Frame) {old new : Held} → items h ≡ items f ++ Frame.ListConstant ∷ [] → room h ≡ room f
          → symbol_if g.bracket_end b ≡ ok false c → Did old new (opens (Item.constant Value.list) ∷ []) → Turned f h Due.List Due.Constant a c old new
      list-turned h pushed stays k did =
          let took = due-took g.bracket a e in
          let not = if_not g.bracket_end b k in
          record {
            written = opens (Item.constant Value.list) ∷ [];
            same = λ s.
                ap (λ n. ahead s n (open_in f) Due.List a) (left-pushed f h Frame.ListConstant pushed stays fits)
                ∙ list-opens s (left h) (open_in f) a e k
                ∙ ap (λ fs. after (opens (Item.constant Value.list) ∷ []) (ahead s (left h) fs Due.Constant c)) (sym (frames_pushed f h Frame.ListConstant pushed stays fits));
            did = did;
            on = omega arith;
            within = tt;
            room_stays = stays;
          }

      pub list_turned_empty : (h : Stack Frame) {old new : Held} → open_in h ≡ open_in f → left h ≡ left f → room h ≡ room f
          → symbol_if g.bracket_end b ≡ ok true c → Did old new (opens (Item.constant Value.list) ∷ closes ∷ []) → Turned f h Due.List Due.Nothing a c old new
      list_turned_empty h same_frames same_left stays k did =
          let took = due-took g.bracket a e in
          let too = if_took g.bracket_end b k in
          let n : left f ≡ suc (left f - 1) = omega arith in
          record {
            written = opens (Item.constant Value.list) ∷ closes ∷ [];
            same = λ s.
                ap (λ n. ahead s n (open_in f) Due.List a) n
                ∙ list_empty s (left f - 1) (open_in f) a e k
                ∙ (λ i. after (opens (Item.constant Value.list) ∷ closes ∷ []) (ahead s ((sym n ∙ sym same_left) i) (sym same_frames i) Due.Nothing c));
            did = did;
            on = omega arith;
            within = tt;
            room_stays = stays;
          }

  -- ---- entries of a message
  module _ (outer : List Frame) (top : open_in f ≡ Frame.MessageConstant ∷ outer) (a : Ahead) where
    at_entry : (s : Syntax) → ahead_of s f Due.Entry a ≡ ahead s (left f) (Frame.MessageConstant ∷ outer) Due.Entry a
    at_entry s = ap (λ fs. ahead s (left f) fs Due.Entry a) top

    at-end : (s : Syntax) → ahead_of s f Due.Nothing a ≡ ahead s (left f) (Frame.MessageConstant ∷ outer) Due.Nothing a
    at-end s = ap (λ fs. ahead s (left f) fs Due.Nothing a) top

    module _ {b : Ahead} where
      pub entry_turn_refuses : {why : ReadFault} → symbol_if g.brace_end a ≡ refused why b → (s : Syntax) → ahead_of s f Due.Entry a ≡ refused why b
      entry_turn_refuses e s = at_entry s ∙ entry_end_refuses s (left f) outer a e

      pub entry-turned-closes : (h : Stack Frame) {old new : Held} → open_in h ≡ outer → left h ≡ suc (left f) → room h ≡ room f → symbol_if g.brace_end a ≡ ok true b → Did old new (closes ∷ []) → Turned f h Due.Entry Due.Nothing a b old new
      entry-turned-closes h back more stays e did =
          let took = if_took g.brace_end a e in
          record {
            written = closes ∷ [];
            same = λ s. at_entry s ∙ entry_closes s (left f) outer a e ∙ (λ i. after (closes ∷ []) (ahead s (sym more i) (sym back i) Due.Nothing b));
            did = did;
            on = omega arith;
            within = tt;
            room_stays = stays;
          }

      module _ (e : symbol_if g.brace_end a ≡ ok false b) where
        same_place : b ≡ a
        same_place = (other g.brace_end a e).stays

        not_closed : symbol_if g.brace_end a ≡ ok false a
        not_closed = e ∙ ap (λ x. ok false x) same_place

        module _ {c : Ahead} where
          pub key_turn_refuses : {why : ReadFault} → g.key b ≡ refused why c → (s : Syntax) → ahead_of s f Due.Entry a ≡ refused why c
          key_turn_refuses {why} k s = at_entry s ∙ entry_refuses s (left f) outer a not_closed (subst (λ x. g.key x ≡ refused why c) same_place k)

          module _ {k : Key} (key_is : g.key b ≡ ok k c) where
            key_here : g.key a ≡ ok k c
            key_here = subst (λ x. g.key x ≡ ok k c) same_place key_is

            key-took : count c < count a
            key-took = subst (Left (count a)) key_here (key-takes.takes a)

            module _ {d : Ahead} where
              pub colon_turn_refuses : {why : ReadFault} → symbol_if g.colon c ≡ refused why d → (s : Syntax) → ahead_of s f Due.Entry a ≡ refused why d
              colon_turn_refuses l s = at_entry s ∙ colon_refuses s (left f) outer a not_closed key_here l

              pub entry_turned_any : {old new : Held} → symbol_if g.colon c ≡ ok true d → Did old new (opens (Item.key k) ∷ []) → Turned f f Due.Entry Due.Constant a d old new
              entry_turned_any l did =
                  let took = key-took in
                  let too = if_took g.colon c l in
                  record {
                    written = opens (Item.key k) ∷ [];
                    same = λ s. at_entry s ∙ entry_any s (left f) outer a not_closed key_here l ∙ ap (λ fs. after (opens (Item.key k) ∷ []) (ahead s (left f) fs Due.Constant d)) (sym top);
                    did = did;
                    on = omega arith;
                    within = tt;
                    room_stays = refl;
                  }

              pub entry-turned-message : {old new : Held} → symbol_if g.colon c ≡ ok false d → Did old new (opens (Item.key k) ∷ []) → Turned f f Due.Entry Due.Message a d old new
              entry-turned-message l did =
                  let took = key-took in
                  let not = if_not g.colon c l in
                  record {
                    written = opens (Item.key k) ∷ [];
                    same = λ s. at_entry s ∙ entry-message s (left f) outer a not_closed key_here l ∙ ap (λ fs. after (opens (Item.key k) ∷ []) (ahead s (left f) fs Due.Message d)) (sym top);
                    did = did;
                    on = omega arith;
                    within = tt;
                    room_stays = refl;
                  }

      -- a constant has ended in a message
      pub ended_turned : {x : Bool} {old new : Held} → accept separator a ≡ ok x b → Did old new (closes ∷ []) → Turned f f Due.Nothing Due.Entry a b old new
      ended_turned e did =
          let kept : count b < suc (count a) = subst (Left (suc (count a))) e ((keeps-accept separator).keeps a) in
          record {
            written = closes ∷ [];
            same = λ s. at-end s ∙ ended_in_message s (left f) outer a e ∙ ap (λ fs. after (closes ∷ []) (ahead s (left f) fs Due.Entry b)) (sym top);
            did = did;
            on = omega arith;
            within = (outer, top);
            room_stays = refl;
          }

      pub ended_turn_refuses : {why : ReadFault} → accept separator a ≡ refused why b → (s : Syntax) → ahead_of s f Due.Nothing a ≡ refused why b
      ended_turn_refuses e s = at-end s ∙ ended_refuses s (left f) outer a e

  -- ---- a constant has ended in a list
  module _ (outer : List Frame) (top : open_in f ≡ Frame.ListConstant ∷ outer) (a : Ahead) where
    at_item : (s : Syntax) → ahead_of s f Due.Nothing a ≡ ahead s (left f) (Frame.ListConstant ∷ outer) Due.Nothing a
    at_item s = ap (λ fs. ahead s (left f) fs Due.Nothing a) top

    module _ {b : Ahead} where
      pub comma-turned : {old new : Held} → symbol_if g.comma a ≡ ok true b → Did old new [] → Turned f f Due.Nothing Due.Constant a b old new
      comma-turned e did =
          let took = if_took g.comma a e in
          record {
            written = [];
            same = λ s. at_item s ∙ ended_comma s (left f) outer a e ∙ ap (λ fs. ahead s (left f) fs Due.Constant b) (sym top) ∙ sym (after_none _);
            did = did;
            on = omega arith;
            within = tt;
            room_stays = refl;
          }

      pub comma_turn_refuses : {why : ReadFault} → symbol_if g.comma a ≡ refused why b → (s : Syntax) → ahead_of s f Due.Nothing a ≡ refused why b
      comma_turn_refuses e s = at_item s ∙ comma_refuses s (left f) outer a e

      module _ (e : symbol_if g.comma a ≡ ok false b) {c : Ahead} where
        pub list-turned-closes : (h : Stack Frame) {old new : Held} → open_in h ≡ outer → left h ≡ suc (left f) → room h ≡ room f → symbol_due g.bracket_end b ≡ ok tt c → Did old new (closes ∷ []) → Turned f h Due.Nothing Due.Nothing a c old new
        list-turned-closes h back more stays k did =
            let not = if_not g.comma a e in
            let took = due-took g.bracket_end b k in
            record {
              written = closes ∷ [];
              same = λ s. at_item s ∙ ended_closes s (left f) outer a e k ∙ (λ i. after (closes ∷ []) (ahead s (sym more i) (sym back i) Due.Nothing c));
              did = did;
              on = omega arith;
              within = tt;
              room_stays = stays;
            }

        pub list_turn_unclosed : {why : ReadFault} → symbol_due g.bracket_end b ≡ refused why c → (s : Syntax) → ahead_of s f Due.Nothing a ≡ refused why c
        list_turn_unclosed k s = at_item s ∙ ended_open s (left f) outer a e k

  -- ---- maps
  module _ (a : Ahead) {b : Ahead} where
    pub map-turned : (h : Stack Frame) {old new : Held} → items h ≡ items f ++ Frame.MapKey ∷ [] → room h ≡ room f → length (items f) < room f
        → symbol_due g.angle a ≡ ok tt b → Did old new (opens (Item.type Shape.map) ∷ []) → Turned f h Due.Map Due.Type a b old new
    map-turned h pushed stays fits e did =
        let took = due-took g.angle a e in
        record {
          written = opens (Item.type Shape.map) ∷ [];
          same = λ s.
              ap (λ n. ahead s n (open_in f) Due.Map a) (left-pushed f h Frame.MapKey pushed stays fits)
              ∙ map-opens s (left h) (open_in f) a e
              ∙ ap (λ fs. after (opens (Item.type Shape.map) ∷ []) (ahead s (left h) fs Due.Type b)) (sym (frames_pushed f h Frame.MapKey pushed stays fits));
          did = did;
          on = omega arith;
          within = tt;
          room_stays = stays;
        }

    pub map_turn_refuses : {why : ReadFault} → length (items f) < room f → symbol_due g.angle a ≡ refused why b → (s : Syntax) → ahead_of s f Due.Map a ≡ refused why b
    map_turn_refuses fits e s =
        let n : left f ≡ suc (left f - 1) = omega arith in
        ap (λ n. ahead s n (open_in f) Due.Map a) n ∙ map_refuses s (left f - 1) (open_in f) a e

    pub map_turn_full : {why : ReadFault} → room f ≤ length (items f) → g.no_room g.angle a ≡ refused why b → (s : Syntax) → ahead_of s f Due.Map a ≡ refused why b
    map_turn_full full e s =
        let n : left f ≡ 0 = omega arith in
        ap (λ n. ahead s n (open_in f) Due.Map a) n ∙ map_full s 0 (open_in f) a e

  -- ---- a type has ended in a map: as its key
  module _ (outer : List Frame) (top : open_in f ≡ Frame.MapKey ∷ outer) (a : Ahead) where
    at_key : (s : Syntax) → ahead_of s f Due.Nothing a ≡ ahead s (left f) (Frame.MapKey ∷ outer) Due.Nothing a
    at_key s = ap (λ fs. ahead s (left f) fs Due.Nothing a) top

    module _ {b : Ahead} where
      pub key-turned : (h : Stack Frame) {old new : Held} → open_in h ≡ Frame.MapValue ∷ outer → left h ≡ left f → room h ≡ room f
          → symbol_due g.comma a ≡ ok tt b → Did old new [] → Turned f h Due.Nothing Due.Type a b old new
      key-turned h set same_left stays e did =
          let took = due-took g.comma a e in
          record {
            written = [];
            same = λ s. at_key s ∙ key_ended s (left f) outer a e ∙ (λ i. ahead s (sym same_left i) (sym set i) Due.Type b) ∙ sym (after_none _);
            did = did;
            on = omega arith;
            within = tt;
            room_stays = stays;
          }

      pub key_turn_unended : {why : ReadFault} → symbol_due g.comma a ≡ refused why b → (s : Syntax) → ahead_of s f Due.Nothing a ≡ refused why b
      key_turn_unended e s = at_key s ∙ key_end_refuses s (left f) outer a e

  -- as its value
  module _ (outer : List Frame) (top : open_in f ≡ Frame.MapValue ∷ outer) (a : Ahead) where
    at_value : (s : Syntax) → ahead_of s f Due.Nothing a ≡ ahead s (left f) (Frame.MapValue ∷ outer) Due.Nothing a
    at_value s = ap (λ fs. ahead s (left f) fs Due.Nothing a) top

    module _ {b : Ahead} where
      pub value-turned : (h : Stack Frame) {old new : Held} → open_in h ≡ outer → left h ≡ suc (left f) → room h ≡ room f
          → symbol_due g.angle_end a ≡ ok tt b → Did old new (closes ∷ []) → Turned f h Due.Nothing Due.Nothing a b old new
      value-turned h back more stays e did =
          let took = due-took g.angle_end a e in
          record {
            written = closes ∷ [];
            same = λ s. at_value s ∙ value_ended s (left f) outer a e ∙ (λ i. after (closes ∷ []) (ahead s (sym more i) (sym back i) Due.Nothing b));
            did = did;
            on = omega arith;
            within = tt;
            room_stays = stays;
          }

      pub value_turn_unclosed : {why : ReadFault} → symbol_due g.angle_end a ≡ refused why b → (s : Syntax) → ahead_of s f Due.Nothing a ≡ refused why b
      value_turn_unclosed e s = at_value s ∙ value_end_refuses s (left f) outer a e

-- a constant that is due has begun
pub begun-turn : (f : Stack Frame) (a b : Ahead) (out : Store) (new : Held) (r : Result Due ReadFault) → Begun (held out) new r a b → Turn f f Due.Constant r a b (held out) new
begun-turn f a b out new (Ok Due.Nothing) e =
    let took : count b < count a = subst (Left (count a)) (e.1 (g.nested Proto2 0)) ((constant-takes (g.nested Proto2 0) (nested-takes Proto2 0)).takes a) in
    record { written = events e.0; same = λ s. due-plain s (left f) (open_in f) a e.1; did = did_forest e.2; on = omega arith; within = tt; room_stays = refl }
begun-turn f a b out new (Ok Due.Message) e =
    record {
      written = [];
      same = λ s. due-message s (left f) (open_in f) a e.is ∙ ap (ahead_of s f Due.Message) (sym e.stays) ∙ sym (after_none _);
      did = subst (λ h. Did (held out) h []) (sym e.same) (did_none (held out) out.counted out.measured);
      on = let z = ap count e.stays in omega arith;
      within = tt;
      room_stays = refl;
    }
begun-turn f a b out new (Ok Due.List) e =
    record {
      written = [];
      same = λ s. due-list s (left f) (open_in f) a e.is ∙ ap (ahead_of s f Due.List) (sym e.stays) ∙ sym (after_none _);
      did = subst (λ h. Did (held out) h []) (sym e.same) (did_none (held out) out.counted out.measured);
      on = let z = ap count e.stays in omega arith;
      within = tt;
      room_stays = refl;
    }
begun-turn f a b out new (Ok Due.Constant) e = absurd e
begun-turn f a b out new (Ok Due.Entry) e = absurd e
begun-turn f a b out new (Ok Due.Type) e = absurd e
begun-turn f a b out new (Ok Due.Map) e = absurd e
begun-turn f a b out new (Err why) e = (λ s. due_refuses s (left f) (open_in f) a e.0, e.1)

-- a type that is due has begun
pub begun_type-turn : (f : Stack Frame) (a b : Ahead) (out : Store) (new : Held) (r : Result Due ReadFault) → BegunType (held out) new r a b → Turn f f Due.Type r a b (held out) new
begun_type-turn f a b out new (Ok Due.Nothing) e =
    let took : count b < count a = subst (Left (count a)) (e.1 (g.nested Proto2 0)) ((type-takes (g.nested Proto2 0) (nested-takes Proto2 0)).takes a) in
    record { written = events e.0; same = λ s. type-plain s (left f) (open_in f) a e.1; did = did_forest e.2; on = omega arith; within = tt; room_stays = refl }
begun_type-turn f a b out new (Ok Due.Map) e =
    record {
      written = [];
      same = λ s. type-map s (left f) (open_in f) a e.is ∙ sym (after_none _);
      did = subst (λ h. Did (held out) h []) (sym e.same) (did_none (held out) out.counted out.measured);
      on = let z = e.took in omega arith;
      within = tt;
      room_stays = refl;
    }
begun_type-turn f a b out new (Ok Due.Constant) e = absurd e
begun_type-turn f a b out new (Ok Due.Message) e = absurd e
begun_type-turn f a b out new (Ok Due.List) e = absurd e
begun_type-turn f a b out new (Ok Due.Entry) e = absurd e
begun_type-turn f a b out new (Ok Due.Type) e = absurd e
begun_type-turn f a b out new (Err why) e = (λ s. type_refuses s (left f) (open_in f) a e.0, e.1)

empty_list : (fs : List Frame) → eqb (length fs) 0 ≡ true → fs ≡ []
empty_list [] e = refl
empty_list (f ∷ fs) e = absurd (grind (arith, nat_tests))

-- the top of a stack is its innermost bracket
pub top-is : (f : Stack Frame) (x : Frame) (r : Option Frame) → r ≡ Some x → items f ≡ take (length (items f) - 1) (items f) ++ option_to_list r → Innermost x (open_in f)
top-is f x r e h =
    let below = take (length (items f) - 1) (items f) in
    (reverse below, ap reverse (h ∙ ap (λ o. below ++ option_to_list o) e) ∙ reverse-append below (x ∷ []))

-- ---- how far the loop has come: what was ahead is what has been done, and then what is ahead now
pub record Reached (f₀ f : Stack Frame) (first due : Due) (a₀ a : Ahead) (old new : Held) : Type 0 where
  pub written : List Event
  pub same : (s : Syntax) → ahead_of s f₀ first a₀ ≡ after written (ahead_of s f due a)
  pub did : Did old new written
  pub within : Within due (open_in f)
  pub room_stays : room f ≡ room f₀

pub reached_start : (f : Stack Frame) (first : Due) (a : Ahead) (out : Store) → Within first (open_in f) → Reached f f first first a a (held out) (held out)
reached_start f first a out within = record { written = []; same = λ s. sym (after_none _); did = did_none (held out) out.counted out.measured; within = within; room_stays = refl }

module _ {f₀ f : Stack Frame} {first due : Due} {a₀ a : Ahead} {old mid : Held} (r : Reached f₀ f first due a₀ a old mid) {b : Ahead} where
  pub reached_on : {h : Stack Frame} {new : Held} {then : Due} → Turned f h due then a b mid new → Reached f₀ h first then a₀ b old new
  reached_on t = record {
    written = r.written ++ t.written;
    same = λ s. r.same s ∙ ap (after r.written) (t.same s) ∙ after-after r.written t.written _;
    did = did_join r.did t.did;
    within = t.within;
    room_stays = t.room_stays ∙ r.room_stays;
  }

  pub reached_refuses : {why : ReadFault} → ((s : Syntax) → ahead_of s f due a ≡ refused why b) → (s : Syntax) → ahead_of s f₀ first a₀ ≡ refused why b
  reached_refuses e s = r.same s ∙ ap (after r.written) (e s)

-- the stack is new, and no entry is due
module _ (f : Stack Frame) (s : Syntax) {n : ℕ} (none_open : items f ≡ []) (size : room f ≡ n) (first : Due) (outside : Within first []) (a : Ahead) where
  at_start : ahead_of s f first a ≡ bind (whole (g.nested s n) first a) (λ x b. after (events x) (ok [] b))
  unfolding run resume return events
  at_start =
      let k : left f ≡ n = let z = ap length none_open in omega arith in
      ap (λ m. ahead s m (open_in f) first a) k ∙ ap (λ fs. ahead s n fs first a) (ap reverse none_open) ∙ go first outside
    where
      go : (first : Due) → Within first [] → ahead s n [] first a ≡ bind (whole (g.nested s n) first a) (λ x b. after (events x) (ok [] b))
      go Due.Constant w = refl
      go Due.Message w = refl
      go Due.List w = refl
      go Due.Nothing w = refl
      go Due.Type w = refl
      go Due.Map w = refl
      go Due.Entry w = let z : 0 ≡ suc (length w.0) = ap length w.1 in absurd (omega arith)

  pub nested_refuses : {why : ReadFault} {b : Ahead} → ahead_of s f first a ≡ refused why b → whole (g.nested s n) first a ≡ refused why b
  nested_refuses e = ended_refused _ (sym at_start ∙ e)

  pub nested_gives : {h : Stack Frame} {due : Due} {b : Ahead} {old new : Held} → Reached f h first due a b old new → complete due (items h) ≡ true → (x : Forest) × (whole (g.nested s n) first a ≡ ok x b) × Kept old new x
  unfolding resume
  nested_gives {h} {due} {b} {old} {new} r done =
      let e : ahead_of s f first a ≡ ok (r.written ++ []) b = r.same s ∙ ap (after r.written) (at-end due done) in
      let x = ended_ok _ (sym at_start ∙ e) in
      (x.0, x.1, kept-events (subst (Did old new) (sym (append-nil _) ∙ sym x.2 ∙ append-nil _) r.did))
    where
      at-end : (due : Due) → complete due (items h) ≡ true → ahead_of s h due b ≡ ok [] b
      at-end Due.Nothing e = ap (λ fs. ahead s (left h) fs Due.Nothing b) (ap reverse (empty_list (items h) e))
      at-end Due.Constant e = absurd (grind (arith, nat_tests))
      at-end Due.Message e = absurd (grind (arith, nat_tests))
      at-end Due.List e = absurd (grind (arith, nat_tests))
      at-end Due.Entry e = absurd (grind (arith, nat_tests))
      at-end Due.Type e = absurd (grind (arith, nat_tests))
      at-end Due.Map e = absurd (grind (arith, nat_tests))
