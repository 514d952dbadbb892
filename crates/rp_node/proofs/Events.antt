-- Calls of a node as events.
use Rattle.std.proofs.Common.{◌≡◌, ◌≢◌, ℕ, Bool, true, false, cond, List, [], ◌∷◌, Option, Some, None, Ok, Err, refl, sym, ap, ◌∙◌, subst}
use Rattle.std.specs.Option.{option_map_or}
use Rattle.std.specs.Cmp.Lexicographic.{pointwise}
use Rattle.rp_value.specs.declared.value.Value.{Value}
use Rattle.rp_value.specs.declared.row.RowFault.{RowFault}
use Rattle.rp_value.specs.contracts.value.ValuePartialEq.TheImpl.{eq-value}
use Rattle.rp_query.specs.Keys.{key_of, same_key}
use Rattle.rp_query.specs.declared.item.Item.{Item}
use Rattle.rp_query.specs.declared.query.QueryData.{QueryData}
use Rattle.rp_feed.specs.declared.answer.Taken.{Taken}
use Rattle.rp_feed.specs.declared.answer.Taken.TheVariants.{New}
use Rattle.rp_feed.specs.Fed.{IsFree, with_taken, with_close}
use Rattle.rp_feed.specs.Answers.{Answer, IsDue, NewRowsAreDue}
use Rattle.rp_feed.specs.declared.packet.Packet.TheVariants.{Row as RowPacket, Close as ClosePacket}
use Rattle.rp_schedules.specs.Schedules.{StaysElsewhere, Act, Event}
use Rattle.rp_schedules.specs.Records.{Held, Fits, PollFits, or_fresh, record_at, with_fed, Calls, CallsBySame, row_taken, close_taken, polled, no_memory}
use Rattle.rp_node.specs.declared.fault.NodeFault.TheVariants as node
use Rattle.rp_node.specs.NodeSeen.{Entries, NodeSeen, entry_at, with_entry}
use Rattle.rp_node.specs.Accepting.{feed_answer, packet_fault, record_for, told}
use Rattle.rp_node.specs.Events.{World, Wholes, IsCallOf, RowsAreEvents, ClosesAreEvents, PollsAreEvents, RefusedPollsAreEvents}
use Rattle.rp_node.proofs.Nodes.{SameKeys}
use Rattle.rp_node.proofs.Entries.{entry_there}

-- ---- other keys

-- what is put in at a key is not seen at another
entry_other : SameKeys → {V : Type 0} (key other : List Value) (v : V) (es : Entries V) → other ≢ key → entry_at (with_entry key v es) other ≡ entry_at es other
entry_other exact key other v [] apart = go (same_key other key) refl
  where
    go : (b : Bool) → same_key other key ≡ b → cond b (Some v) None ≡ None
    go true e = absurd (apart ((exact other key).0 e))
    go false e = refl
entry_other exact key other v (e ∷ es) apart = go (same_key key e.0) (same_key other e.0) refl refl (entry_other exact key other v es apart)
  where
    go : (b c : Bool) → same_key key e.0 ≡ b → same_key other e.0 ≡ c → entry_at (with_entry key v es) other ≡ entry_at es other
        → entry_at (cond b ((e.0, v) ∷ es) (e ∷ with_entry key v es)) other ≡ cond c (Some e.1) (entry_at es other)
    go true true h k later = absurd (apart ((exact other e.0).0 k ∙ sym ((exact key e.0).0 h)))
    go true false h k later = ap (λ b. cond b (Some v) (entry_at es other)) k
    go false true h k later = ap (λ b. cond b (Some e.1) (entry_at (with_entry key v es) other)) k
    go false false h k later = ap (λ b. cond b (Some e.1) (entry_at (with_entry key v es) other)) k ∙ later

module _ (exact : SameKeys) (a : ℕ) (q : QueryData) (w w' : World) (old new : NodeSeen) (call : IsCallOf q a w w' old new) (key : List Value) (held : Held) (put : new.records ≡ with_entry key held old.records) where
  stays : StaysElsewhere a key w w'
  stays = record {
    nodes = call.nodes;
    keys = λ other apart. call.after other ∙ ap (λ es. entry_at es other) put ∙ entry_other exact key other held old.records apart ∙ sym (call.before other);
    saves = call.saves;
  }

  now : w'.now a key ≡ Some held
  now = call.after key ∙ ap (λ es. entry_at es key) put ∙ entry_there key held old.records ((exact key key).1 refl)

  was : record_at w a key ≡ or_fresh (entry_at old.records key)
  was = ap or_fresh (call.before key)

module _ {q : QueryData} {whole : Wholes} {a : ℕ} {w w' : World} {old new : NodeSeen} {e : Event (List Value) Item} (call : IsCallOf q a w w' old new) where
  -- what it does by the node's own query
  by_same : Calls old.query whole w e w' → CallsBySame q whole w e w'
  by_same calls = record { query = old.query; same = call.same; sound = call.sound; calls = calls }

-- ---- rows and closes

abbrev as_answer : Taken → Answer
as_answer t = Ok t

answered_new : (fault : Option RowFault) (answer : Answer) → option_map_or (λ f. Err (node.BadRow f)) fault (told answer) ≡ Ok New → answer ≡ Ok New
answered_new (Some f) answer h = absurd (cc)
answered_new None (Ok t) h = let e : t ≡ New = cc in ap (λ (t : Taken). as_answer t) e
answered_new None (Err f) h = absurd (cc)

pub rows_are_events : SameKeys → NewRowsAreDue → RowsAreEvents
rows_are_events exact due q whole a w w' old new n row call answer accepted there =
    let key : List Value = key_of old.query row in
    let before : Held = record_for old (RowPacket n row) in
    let is : IsDue before.feed n = due (pointwise eq-value.it) before.feed n row (answered_new (packet_fault old.query (RowPacket n row)) (feed_answer before.feed (RowPacket n row)) answer) in
    let same = was exact a q w w' old new call key (with_fed before (with_taken n row before.feed)) accepted.records in
    by_same call
    (row_taken n row is.least there
    (subst (λ (h : Held). IsFree h.feed n) (sym same) is.free)
    (now exact a q w w' old new call key (with_fed before (with_taken n row before.feed)) accepted.records ∙ ap (λ (h : Held). Some (with_fed h (with_taken n row h.feed))) (sym same))
    (stays exact a q w w' old new call key (with_fed before (with_taken n row before.feed)) accepted.records))

pub closes_are_events : SameKeys → ClosesAreEvents
closes_are_events exact q whole a w w' old new key count call accepted all =
    let before : Held = record_for old (ClosePacket key count) in
    let same = was exact a q w w' old new call key (with_fed before (with_close count before.feed)) accepted.records in
    by_same call
    (close_taken
    (now exact a q w w' old new call key (with_fed before (with_close count before.feed)) accepted.records
    ∙ ap (λ (h : Held). Some (with_fed h (with_close count h.feed))) (sym same)
    ∙ ap (λ c. Some (with_fed (record_at w a key) (with_close c (record_at w a key).feed))) all)
    (stays exact a q w w' old new call key (with_fed before (with_close count before.feed)) accepted.records))

-- ---- polls

module _ (exact : SameKeys) (whole : Wholes) (a : ℕ) (q : QueryData) (w w' : World) (old new : NodeSeen) (key : List Value) (call : IsCallOf q a w w' old new) where
  -- the record before a poll and after it are those of the world
  fits_on : (before after : Held) → entry_at old.records key ≡ Some before → new.records ≡ with_entry key after old.records → {act : Act Item} → (Fits old.query (whole key) before → PollFits old.query (whole key) before after act)
      → Fits old.query (whole key) (record_at w a key) → PollFits old.query (whole key) (record_at w a key) (record_at w' a key) act
  fits_on before after there put {act} polls =
      let is_before : record_at w a key ≡ before = ap or_fresh (call.before key ∙ there) in
      let is_after : record_at w' a key ≡ after = ap or_fresh (now exact a q w w' old new call key after put) in
      subst (λ (h : Held). Fits old.query (whole key) h → PollFits old.query (whole key) h (record_at w' a key) act) (sym is_before)
      (subst (λ (h : Held). Fits old.query (whole key) before → PollFits old.query (whole key) before h act) (sym is_after) polls)

pub polls_are_events : SameKeys → PollsAreEvents
polls_are_events exact q whole a w w' old new key answer call p =
    by_same call
    (polled (fits_on exact whole a q w w' old new key call p.before p.after p.there p.records (p.polled.polls (whole key)))
    (stays exact a q w w' old new call key p.after p.records))

pub refused_polls_are_events : SameKeys → RefusedPollsAreEvents
refused_polls_are_events exact q whole a w w' old new key call p =
    by_same call
    (no_memory (fits_on exact whole a q w w' old new key call p.before p.after p.there p.records (p.polled.polls (whole key)))
    (stays exact a q w w' old new call key p.after p.records))
