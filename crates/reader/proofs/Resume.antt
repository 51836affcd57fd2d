-- What each step of the loop leaves of what is still to be read.
use Rattle.std.proofs.Common.{◌≡◌, ℕ, suc, Bool, true, false, List, [], ◌∷◌, ◌++◌, Some as some, None as none, ap, ◌∙◌}
use Rattle.token.specs.Token.{Ahead}
use Rattle.grammar.specs.declared.kinds.Syntax.{Syntax}
use Rattle.grammar.specs.declared.fault.ReadFault.{ReadFault}
use Rattle.grammar.specs.Parse.{ok, refused, bind, ◌>>=◌, ◌>>◌, ◌<$>◌, return, given◌then◌else◌, accept, symbol_if, symbol_due, many, after_turn, after_next, unless_next}
use Rattle.grammar.specs.Tree.{Item, Value, Shape, Key, Forest, nothing, ◌beside◌}
use Rattle.grammar.specs.Grammar as g
use Rattle.grammar.specs.Progress.{Consumes}
use Rattle.grammar.proofs.ManyLaw.{many-turn, many_stops}
use Rattle.grammar.proofs.Progress.{turn_unless, turn-after}
use Rattle.grammar.proofs.GrammarProgress.{nested-takes, constant-takes, entry-takes}
use Rattle.reader.specs.declared.frames.Frame.{Frame}
use Rattle.reader.specs.declared.frames.Due.{Due}
use Rattle.reader.specs.Events.{Event, opens, closes, events}
use Rattle.reader.specs.Brackets.{after, Rest, closing, map_ends, run, row_then, separator, item_turn, entry_turn, resume, ahead}
use Rattle.reader.proofs.Runs.{after_stops}
use Rattle.reader.proofs.Replaying.{after_none, events_none, events-one, wrap, wrap_list, wrap_map, wrap_item, wrap_entry, came, other, unseen}

module _ (s : Syntax) (room : ℕ) (fs : List Frame) where
  items_consume : Consumes (item_turn s room)
  items_consume = (turn-after g.comma _ (constant-takes (g.nested s room) (nested-takes s room))).onward

  entries_consume : Consumes (entry_turn s room)
  entries_consume = (turn_unless g.brace_end _ (entry-takes (g.nested s room) (nested-takes s room))).onward

  -- a bracket comes where a constant is due
  module _ (a : Ahead) where
    pub due-message : ((inner : g.Inner) → g.constant inner a ≡ inner g.message_constant a) → ahead s room fs Due.Constant a ≡ ahead s room fs Due.Message a
    unfolding run
    due-message e = ap (λ r. bind r (λ f b. after (events f) (resume s room fs b))) (e (g.nested s room))

    pub due-list : ((inner : g.Inner) → g.constant inner a ≡ inner g.list_constant a) → ahead s room fs Due.Constant a ≡ ahead s room fs Due.List a
    unfolding run
    due-list e = ap (λ r. bind r (λ f b. after (events f) (resume s room fs b))) (e (g.nested s room))

  -- a constant is due
  module _ (a : Ahead) {b : Ahead} where
    pub due-plain : {f : Forest} → ((inner : g.Inner) → g.constant inner a ≡ ok f b) → ahead s room fs Due.Constant a ≡ after (events f) (ahead s room fs Due.Nothing b)
    unfolding run
    due-plain e = ap (λ r. bind r (λ f b. after (events f) (resume s room fs b))) (e (g.nested s room))

    pub due_refuses : {why : ReadFault} → ((inner : g.Inner) → g.constant inner a ≡ refused why b) → ahead s room fs Due.Constant a ≡ refused why b
    unfolding run
    due_refuses e = ap (λ r. bind r (λ f b. after (events f) (resume s room fs b))) (e (g.nested s room))

    -- a message is due, or a list
    pub message-opens : symbol_due g.brace a ≡ ok tt b → ahead s (suc room) fs Due.Message a ≡ after (opens (Item.constant Value.message) ∷ []) (ahead s room (Frame.MessageConstant ∷ fs) Due.Entry b)
    unfolding run row_then g.nested g.message_of ◌>>=◌ ◌>>◌ return
    message-opens e = rw e (wrap (many ◌beside◌ nothing (entry_turn s room) b) (symbol_due g.brace_end) (Item.constant Value.message) (resume s (suc room) fs))

    pub message_refuses : {why : ReadFault} → symbol_due g.brace a ≡ refused why b → ahead s (suc room) fs Due.Message a ≡ refused why b
    unfolding run g.nested g.message_of ◌>>=◌ ◌>>◌
    message_refuses e = rw e

    pub message_full : {why : ReadFault} → g.no_room g.brace a ≡ refused why b → ahead s 0 fs Due.Message a ≡ refused why b
    unfolding run g.nested
    message_full e = rw e

    pub list_refuses : {why : ReadFault} → symbol_due g.bracket a ≡ refused why b → ahead s (suc room) fs Due.List a ≡ refused why b
    unfolding run g.nested g.list_of ◌>>=◌ ◌>>◌
    list_refuses e = rw e

    pub list_full : {why : ReadFault} → g.no_room g.bracket a ≡ refused why b → ahead s 0 fs Due.List a ≡ refused why b
    unfolding run g.nested
    list_full e = rw e

    module _ (e : symbol_due g.bracket a ≡ ok tt b) {c : Ahead} where
      pub list_empty : symbol_if g.bracket_end b ≡ ok true c → ahead s (suc room) fs Due.List a ≡ after (opens (Item.constant Value.list) ∷ closes ∷ []) (ahead s (suc room) fs Due.Nothing c)
      unfolding run g.nested g.list_of g.list_items ◌>>=◌ ◌>>◌ return given◌then◌else◌
      list_empty h = rw (e, h) (ap (λ (l : List Event). after l (resume s (suc room) fs c)) (events-one (Item.constant Value.list) nothing ∙ ap (λ (l : List Event). opens (Item.constant Value.list) ∷ (l ++ closes ∷ [])) events_none))

      pub list-opens : symbol_if g.bracket_end b ≡ ok false c → ahead s (suc room) fs Due.List a ≡ after (opens (Item.constant Value.list) ∷ []) (ahead s room (Frame.ListConstant ∷ fs) Due.Constant c)
      unfolding run row_then resume g.nested g.list_of g.list_items g.separated ◌>>=◌ ◌>>◌ return given◌then◌else◌
      list-opens h = rw (e, h) (wrap_list (g.constant (g.nested s room) c) (many ◌beside◌ nothing (item_turn s room)) (symbol_due g.bracket_end) (Item.constant Value.list) (resume s (suc room) fs))

      pub list_open_refuses : {why : ReadFault} → symbol_if g.bracket_end b ≡ refused why c → ahead s (suc room) fs Due.List a ≡ refused why c
      unfolding run g.nested g.list_of g.list_items ◌>>=◌ ◌>>◌
      list_open_refuses h = rw (e, h)

  -- an entry of a message, or its end
  module _ (a : Ahead) where
    abbrev inside : List Frame
    inside = Frame.MessageConstant ∷ fs

    abbrev close : Rest
    close b = bind (symbol_due g.brace_end b) (λ _. closing (resume s (suc room) fs))

    pub entry_closes : {b : Ahead} → symbol_if g.brace_end a ≡ ok true b → ahead s room inside Due.Entry a ≡ after (closes ∷ []) (ahead s (suc room) fs Due.Nothing b)
    unfolding row_then unless_next ◌>>=◌ return given◌then◌else◌
    entry_closes {b} h =
        let c = came g.brace_end a h in
        let stop : entry_turn s room a ≡ ok none a = rw c.seen in
        ap (λ r. bind r (λ f b. after (events f) (close b))) (many_stops ◌beside◌ nothing (entry_turn s room) entries_consume stop)
        ∙ ap (λ (l : List Event). after l (close a)) events_none
        ∙ after_none _ ∙ ap (λ r. bind r (λ _. closing (resume s (suc room) fs))) c.due_too

    pub entry_end_refuses : {why : ReadFault} {b : Ahead} → symbol_if g.brace_end a ≡ refused why b → ahead s room inside Due.Entry a ≡ refused why b
    unfolding row_then unless_next ◌>>=◌
    entry_end_refuses {why} {b} h =
        let z : many ◌beside◌ nothing (entry_turn s room) a ≡ refused why b = many-turn ◌beside◌ nothing (entry_turn s room) entries_consume a ∙ rw (unseen g.brace_end a h) in
        ap (λ r. bind r (λ f b. after (events f) (close b))) z

    -- another entry
    module _ (h : symbol_if g.brace_end a ≡ ok false a) where
      again : many ◌beside◌ nothing (entry_turn s room) a ≡ bind (bind (g.entry (g.nested s room) a) (λ x b. ok (some x) b)) (after_turn ◌beside◌ nothing (many ◌beside◌ nothing (entry_turn s room)))
      unfolding unless_next ◌>>=◌ ◌<$>◌ given◌then◌else◌
      again = many-turn ◌beside◌ nothing (entry_turn s room) entries_consume a ∙ rw (other g.brace_end a h).seen

      pub entry_refuses : {why : ReadFault} {b : Ahead} → g.key a ≡ refused why b → ahead s room inside Due.Entry a ≡ refused why b
      unfolding row_then g.entry ◌>>=◌
      entry_refuses {why} {b} k =
          let z : many ◌beside◌ nothing (entry_turn s room) a ≡ refused why b = again ∙ rw k in
          ap (λ r. bind r (λ f b. after (events f) (close b))) z

      module _ {k : Key} {b : Ahead} (key_is : g.key a ≡ ok k b) {c : Ahead} where
        pub colon_refuses : {why : ReadFault} → symbol_if g.colon b ≡ refused why c → ahead s room inside Due.Entry a ≡ refused why c
        unfolding row_then g.entry ◌>>=◌
        colon_refuses {why} l =
            let z : many ◌beside◌ nothing (entry_turn s room) a ≡ refused why c = again ∙ rw (key_is, l) in
            ap (λ r. bind r (λ f b. after (events f) (close b))) z

        pub entry_any : symbol_if g.colon b ≡ ok true c → ahead s room inside Due.Entry a ≡ after (opens (Item.key k) ∷ []) (ahead s room inside Due.Constant c)
        unfolding row_then run resume g.entry ◌>>=◌ ◌>>◌ return given◌then◌else◌
        entry_any l =
            ap (λ r. bind r (λ f b. after (events f) (close b))) (again ∙ rw (key_is, l))
            ∙ wrap_entry (g.constant (g.nested s room) c) (accept separator) (many ◌beside◌ nothing (entry_turn s room)) (Item.key k) close

        pub entry-message : symbol_if g.colon b ≡ ok false c → ahead s room inside Due.Entry a ≡ after (opens (Item.key k) ∷ []) (ahead s room inside Due.Message c)
        unfolding row_then run resume g.entry ◌>>=◌ ◌>>◌ return given◌then◌else◌
        entry-message l =
            ap (λ r. bind r (λ f b. after (events f) (close b))) (again ∙ rw (key_is, l))
            ∙ wrap_entry (g.nested s room g.message_constant c) (accept separator) (many ◌beside◌ nothing (entry_turn s room)) (Item.key k) close

    -- a constant has ended in a message
    pub ended_in_message : {x : Bool} {b : Ahead} → accept separator a ≡ ok x b → ahead s room inside Due.Nothing a ≡ after (closes ∷ []) (ahead s room inside Due.Entry b)
    unfolding resume
    ended_in_message h = rw h

    pub ended_refuses : {why : ReadFault} {b : Ahead} → accept separator a ≡ refused why b → ahead s room inside Due.Nothing a ≡ refused why b
    unfolding resume
    ended_refuses h = rw h

    -- a constant has ended in a list
    abbrev in_list : List Frame
    in_list = Frame.ListConstant ∷ fs

    abbrev close_list : Rest
    close_list b = bind (symbol_due g.bracket_end b) (λ _. closing (resume s (suc room) fs))

    pub ended_comma : {b : Ahead} → symbol_if g.comma a ≡ ok true b → ahead s room in_list Due.Nothing a ≡ ahead s room in_list Due.Constant b
    unfolding resume row_then run after_next ◌>>=◌ ◌<$>◌ given◌then◌else◌
    ended_comma {b} h =
        ap (λ r. bind r (λ f b. after (events f) (close_list b))) (many-turn ◌beside◌ nothing (item_turn s room) items_consume a ∙ rw h)
        ∙ wrap_item (g.constant (g.nested s room) b) (many ◌beside◌ nothing (item_turn s room)) close_list

    pub comma_refuses : {why : ReadFault} {b : Ahead} → symbol_if g.comma a ≡ refused why b → ahead s room in_list Due.Nothing a ≡ refused why b
    unfolding resume row_then after_next ◌>>=◌
    comma_refuses {why} {b} h =
        let z : many ◌beside◌ nothing (item_turn s room) a ≡ refused why b = many-turn ◌beside◌ nothing (item_turn s room) items_consume a ∙ rw h in
        ap (λ r. bind r (λ f b. after (events f) (close_list b))) z

    module _ {b : Ahead} (h : symbol_if g.comma a ≡ ok false b) where
      last : ahead s room in_list Due.Nothing a ≡ close_list b
      unfolding resume row_then
      last =
          ap (λ r. bind r (λ f b. after (events f) (close_list b))) (many_stops ◌beside◌ nothing (item_turn s room) items_consume (after_stops g.comma _ a h))
          ∙ ap (λ (l : List Event). after l (close_list b)) events_none ∙ after_none _

      pub ended_closes : {c : Ahead} → symbol_due g.bracket_end b ≡ ok tt c → ahead s room in_list Due.Nothing a ≡ after (closes ∷ []) (ahead s (suc room) fs Due.Nothing c)
      ended_closes k = last ∙ ap (λ r. bind r (λ _. closing (resume s (suc room) fs))) k

      pub ended_open : {why : ReadFault} {c : Ahead} → symbol_due g.bracket_end b ≡ refused why c → ahead s room in_list Due.Nothing a ≡ refused why c
      ended_open k = last ∙ ap (λ r. bind r (λ _. closing (resume s (suc room) fs))) k

  -- a type is due
  module _ (a : Ahead) {b : Ahead} where
    pub type-map : ((inner : g.Inner) → g.type inner a ≡ inner g.map_type b) → ahead s room fs Due.Type a ≡ ahead s room fs Due.Map b
    unfolding run
    type-map e = ap (λ r. bind r (λ f b. after (events f) (resume s room fs b))) (e (g.nested s room))

    pub type-plain : {f : Forest} → ((inner : g.Inner) → g.type inner a ≡ ok f b) → ahead s room fs Due.Type a ≡ after (events f) (ahead s room fs Due.Nothing b)
    unfolding run
    type-plain e = ap (λ r. bind r (λ f b. after (events f) (resume s room fs b))) (e (g.nested s room))

    pub type_refuses : {why : ReadFault} → ((inner : g.Inner) → g.type inner a ≡ refused why b) → ahead s room fs Due.Type a ≡ refused why b
    unfolding run
    type_refuses e = ap (λ r. bind r (λ f b. after (events f) (resume s room fs b))) (e (g.nested s room))

    -- the types of a map
    pub map-opens : symbol_due g.angle a ≡ ok tt b → ahead s (suc room) fs Due.Map a ≡ after (opens (Item.type Shape.map) ∷ []) (ahead s room (Frame.MapKey ∷ fs) Due.Type b)
    unfolding run resume g.nested g.map_of ◌>>=◌ ◌>>◌ return
    map-opens e = rw e (wrap_map (g.type (g.nested s room) b) (symbol_due g.comma) (g.type (g.nested s room)) (symbol_due g.angle_end) (Item.type Shape.map) (resume s (suc room) fs))

    pub map_refuses : {why : ReadFault} → symbol_due g.angle a ≡ refused why b → ahead s (suc room) fs Due.Map a ≡ refused why b
    unfolding run g.nested g.map_of ◌>>=◌ ◌>>◌
    map_refuses e = rw e

    pub map_full : {why : ReadFault} → g.no_room g.angle a ≡ refused why b → ahead s 0 fs Due.Map a ≡ refused why b
    unfolding run g.nested
    map_full e = rw e

    -- a type has ended in a map: its key, and then its value
    pub key_ended : symbol_due g.comma a ≡ ok tt b → ahead s room (Frame.MapKey ∷ fs) Due.Nothing a ≡ ahead s room (Frame.MapValue ∷ fs) Due.Type b
    unfolding resume run
    key_ended e = rw e

    pub key_end_refuses : {why : ReadFault} → symbol_due g.comma a ≡ refused why b → ahead s room (Frame.MapKey ∷ fs) Due.Nothing a ≡ refused why b
    unfolding resume
    key_end_refuses e = rw e

    pub value_ended : symbol_due g.angle_end a ≡ ok tt b → ahead s room (Frame.MapValue ∷ fs) Due.Nothing a ≡ after (closes ∷ []) (ahead s (suc room) fs Due.Nothing b)
    unfolding resume
    value_ended e = rw e

    pub value_end_refuses : {why : ReadFault} → symbol_due g.angle_end a ≡ refused why b → ahead s room (Frame.MapValue ∷ fs) Due.Nothing a ≡ refused why b
    unfolding resume
    value_end_refuses e = rw e
