-- What calls make of a node's map.
use Rattle.std.proofs.Common.{◌≡◌, ◌≢◌, ◌⊎◌, inl, inr, ℕ, zero, suc, ◌≤◌, Bool, true, false, cond, ◌||◌, ◌+◌, ◌-◌, arith, Option, List, [], ◌∷◌, None, Some, Result, Ok, Err, refl, sym, ap, ◌∙◌, subst}
use Rattle.std.specs.Prelude.{◌↔◌, slice_get, position, is_some, nat_lt, ◌==◌, OnOk, OnErr, IfOk}
use Rattle.std.specs.Option.{option_map_or}
use Rattle.std.proofs.lemmas.Bool.Decides.{nat_tests}
use Rattle.std.specs.declared.alloc.AllocError.{AllocError}
use Rattle.std_collections.proofs.HashLookup.{IsFirst}
use Rattle.std.specs.Map.{keys_of, values_of, lookup}
use Rattle.std.specs.declared.vec.Vec.{Vec}
use Rattle.std.specs.declared.alloc.Global.{Global}
use Rattle.indexmap.specs.IndexMap.{insert_entry, set_value_at}
use Rattle.indexmap.proofs.MapLemmas.{Found-position}
use Rattle.rp_value.specs.declared.value.Value.{Value}
use Rattle.rp_value.specs.declared.table.Column.{Column}
use Rattle.rp_value.specs.Rows.{row_fault}
use Rattle.rp_value.specs.Tables.{kinds_of}
use Rattle.rp_words.specs.PatternForm.{form_of}
use Rattle.rp_words.specs.Turns.{all_turns}
use Rattle.rp_query.specs.declared.query.QueryData.{QueryData}
use Rattle.rp_query.specs.Keys.{KeysFit, same_key}
use Rattle.rp_feed.specs.declared.answer.Taken.{Taken}
use Rattle.rp_feed.specs.declared.answer.Taken.TheVariants.{New, Repeat, Old}
use Rattle.rp_feed.specs.Fed.{Fed, fed_from, front_of}
use Rattle.rp_feed.specs.declared.answer.FeedFault.TheVariants as fault
use Rattle.rp_feed.specs.Limits.{greatest_number, most_beyond}
use Rattle.rp_feed.specs.Answers.{Answer, after, memory_aside, has_above}
use Rattle.rp_feed.specs.declared.packet.Packet.{Packet}
use Rattle.rp_feed.specs.declared.packet.Packet.TheVariants.{Row as RowPacket, Close as ClosePacket}
use Rattle.rp_walker.specs.declared.poll.Poll.{Poll}
use Rattle.rp_walker.specs.declared.poll.Poll.TheVariants.{Idle as IdlePoll, Paused as PausedPoll}
use Rattle.rp_node.specs.declared.fault.NodeFault.{NodeFault}
use Rattle.rp_walker.specs.Records.{first_state}
use Rattle.rp_walker.specs.Walking.{record_of}
use Rattle.rp_walker.specs.LeftLaw.{LeftIsBounded}
use Rattle.rp_walker.specs.Bound.{SearchSeen, SeenRises, SeenWorks}
use Rattle.rp_walker.specs.Polls.{entered_by, PollLowers, PollTakes, TurnsAreCounted}
use Rattle.rp_schedules.specs.Records.{Held, with_fed, or_fresh, fresh}
use Rattle.rp_partition.specs.declared.partition.Partition.{Partition}
use Rattle.rp_partition.specs.PartRows.{known_by, known_count, end_of}
use Rattle.rp_partition.specs.Joined.{Joined, Work, held_of, work_of}
use Rattle.rp_node.specs.Keyed.{IsOfKey, IsPartition}
use Rattle.rp_node.specs.NodeSeen.{Map, AllJoined, IsBounded, AreBounded, entries_by, node_by, entry_at, with_entry, or_no_work, work_at}
use Rattle.rp_node.specs.declared.fault.NodeFault.TheVariants as node
use Rattle.rp_node.specs.Bound.{KeyWorks}
use Rattle.rp_node.specs.Accepting.{rows_taken, feed_answer, fed_with, packet_fault, packet_key, packet_answer, record_for, told, Accepted}
use Rattle.rp_partition.specs.Polling.{HoldsNoMore, PolledTo}
use Rattle.rp_node.specs.Polling.{told_poll, HoldsNoMoreAt, PolledAt, IsUnknown, NodePolls}
use Rattle.rp_node.specs.Taking.{TakesPacket, TakenAt, IsAdded, AddedAs, MapTakes, PolledPlace, held_at, work_done}
use Rattle.rp_node.proofs.Keys.{packet_keeps, packet_begins}
use Rattle.rp_node.proofs.Entries.{at_is, at_none, insert_is, set_is, set_same, entry_there}

-- ---- all partitions

pub joined_at : (q : QueryData) (es : Map) (i : ℕ) (p : Partition) → AllJoined q es → slice_get (values_of es) i ≡ Some p → Joined q p
joined_at q [] i p a h = absurd (cc)
joined_at q (e ∷ es) zero p a h = let s : e.1 ≡ p = cc in subst (λ z. Joined q z) s a.0.joined
joined_at q (e ∷ es) (suc i) p a h = joined_at q es i p a.1 h

-- the partition at the place of a key is another, whose rows still have the key
pub joined_set : (q : QueryData) (key : List Value) (es : Map) (i : ℕ) (before p : Partition) → AllJoined q es → IsFirst (λ k. same_key key k.items) es i → slice_get (values_of es) i ≡ Some before → Joined q p
    → ((k : List Value) → same_key key k ≡ true → IsOfKey q k before.feed.rows → IsOfKey q k p.feed.rows) → AllJoined q (set_value_at es i p)
joined_set q key [] i before p a first there j keeps = a
joined_set q key (e ∷ es) zero before p a first there j keeps =
    let s : e.1 ≡ before = cc in
    (record { joined = j; of_key = keeps e.0.items first (subst (λ (z : Partition). IsOfKey q e.0.items z.feed.rows) s a.0.of_key) }, a.1)
joined_set q key (e ∷ es) (suc i) before p a first there j keeps = (a.0, joined_set q key es i before p a.1 first.1 there j keeps)

-- one partition more, of a key that had none
pub joined_insert : (q : QueryData) (key : Vec Value Global) (p : Partition) (es : Map) → AllJoined q es → is_some (lookup (λ k. same_key key.items k.items) es) ≡ false → IsPartition q key.items p
    → AllJoined q (insert_entry (λ j k. same_key j.items k.items) es key p)
joined_insert q key p [] a none j = (j, tt)
joined_insert q key p (e ∷ es) a none j = go (same_key key.items e.0.items) none (joined_insert q key p es a.1)
  where
    go : (b : Bool) → is_some (cond b (Some e.1) (lookup (λ k. same_key key.items k.items) es)) ≡ false
        → (is_some (lookup (λ k. same_key key.items k.items) es) ≡ false → IsPartition q key.items p → AllJoined q (insert_entry (λ j k. same_key j.items k.items) es key p))
        → AllJoined q (cond b ((e.0, p) ∷ es) (e ∷ insert_entry (λ j k. same_key j.items k.items) es key p))
    go true h later = absurd (cc)
    go false h later = (a.0, later h j)

-- no partition has more turns left than all starts of its known rows take
pub all_bounded : LeftIsBounded → (q : QueryData) (es : Map) → AllJoined q es → AreBounded q (entries_by held_of es) (entries_by (work_of q) es)
all_bounded bounded q [] a = tt
all_bounded bounded q (e ∷ es) a = (one a.0.joined, all_bounded bounded q es a.1)
  where
    one : Joined q e.1 → IsBounded q (held_of e.1) (work_of q e.1)
    one j =
        let b = bounded q (known_by e.1.feed) e.1.walker j.stands in
        record { feed = j.feed; left = subst (λ n. (work_of q e.1).left ≤ all_turns n (end_of e.1.feed) (form_of q.pattern)) (known_count e.1.feed j.feed.ordered.least) b }

-- keys are the same where their values are equal
abbrev pub SameKeys : Type 0
SameKeys = (left right : List Value) → (same_key left right ≡ true) ↔ (left ≡ right)

-- ---- a packet

module _ (exact : SameKeys) (keys : KeysFit) (q : QueryData) (packet : Packet) (key : Vec Value Global) where
  abbrev same : Vec Value Global → Bool
  same k = same_key key.items k.items

  -- of a partition that is there
  pub taken_there : (es new : Map) (i : ℕ) (result : Answer) → AllJoined q es → position same (keys_of es) ≡ Some i → TakenAt q packet es i new result → MapTakes q packet key.items es new result
  taken_there es new i result all at t =
      let f = Found-position same es i at in
      let p = t.before in
      let there : lookup same es ≡ Some p = f.value ∙ t.there in
      let held : entry_at (entries_by held_of es) key.items ≡ Some (held_of p) = at_is held_of key.items es p there in
      let work : entry_at (entries_by (work_of q) es) key.items ≡ Some (work_of q p) = at_is (work_of q) key.items es p there in
      record {
        answer = t.taken.answer ∙ ap (λ o. feed_answer (or_fresh o).feed packet) (sym held);
        joined = λ fits is. subst (AllJoined q) (sym t.now)
            (joined_set q key.items es i p t.later all f.first t.there t.taken.joined
            (λ k sought of. packet_keeps q packet k p.feed t.later.feed result fits (sym ((exact key.items k).0 sought) ∙ is) t.taken.feed of));
        taken = λ is.
            (let feed : t.later.feed ≡ fed_with packet p.feed = t.taken.feed ∙ ap (λ r. after r (fed_with packet p.feed) p.feed) is in
            let now : held_of t.later ≡ with_fed (or_fresh (entry_at (entries_by held_of es) key.items)) (fed_with packet (or_fresh (entry_at (entries_by held_of es) key.items)).feed) =
            held_now p t.later feed t.taken.walker ∙ ap (λ o. with_fed (or_fresh o) (fed_with packet (or_fresh o).feed)) (sym held) in
            record {
              records = ap (entries_by held_of) t.now ∙ set_is held_of key.items t.later es i f.first ∙ ap (λ r. with_entry key.items r (entries_by held_of es)) now;
              left = (work_of q t.later).left;
              search = (work_of q t.later).search;
              rises = subst (λ o. SeenRises (rows_taken (or_fresh o).feed packet) (work_done q es key.items).search (work_of q t.later).search) (sym held)
                  (subst (λ o. SeenRises (rows_taken p.feed packet) (or_no_work o).search (work_of q t.later).search) (sym work)
                  (subst (λ (f : Fed). SeenRises (front_of f - front_of p.feed) (work_of q p).search (work_of q t.later).search) feed t.taken.search));
              work = ap (entries_by (work_of q)) t.now ∙ set_is (work_of q) key.items t.later es i f.first
                  ∙ ap (λ n. with_entry key.items (record { left = (work_of q t.later).left; entered = n; search = (work_of q t.later).search }) (entries_by (work_of q) es)) (ap entered_by t.taken.walker ∙ ap (λ o. (or_no_work o).entered) (sym work));
            });
        unchanged = λ d. t.now ∙ ap (set_value_at es i) (same_part p t.later (t.taken.feed ∙ unchanged_by result (fed_with packet p.feed) p.feed d) t.taken.walker) ∙ set_same es i p t.there;
      }
    where
      held_now : (p p' : Partition) → p'.feed ≡ fed_with packet p.feed → p'.walker ≡ p.walker → held_of p' ≡ with_fed (held_of p) (fed_with packet p.feed)
      held_now p p' e f = rw (e, f) refl

      same_part : (p p' : Partition) → p'.feed ≡ p.feed → p'.walker ≡ p.walker → p' ≡ p
      same_part p p' e f = λ i. record { feed = e i; walker = f i }

      unchanged_by : (r : Answer) (changed fed : Fed) → r ≢ Ok New → after r changed fed ≡ fed
      unchanged_by (Ok New) changed fed d = absurd (d refl)
      unchanged_by (Ok Repeat) changed fed d = refl
      unchanged_by (Ok Old) changed fed d = refl
      unchanged_by (Err e) changed fed d = refl

  -- of a partition that is new
  module _ (es new : Map) where
    added_joined : (result : Answer) → AllJoined q es → is_some (lookup same es) ≡ false → OnOk result (IsAdded q packet es key new result) → OnErr result (new ≡ es) → packet_fault q packet ≡ None → key.items ≡ packet_key q packet → AllJoined q new
    added_joined (Ok t) all none a r fits is =
        let feed : a.later.feed ≡ fed_with packet (fed_from 1) = ap (λ (h : Held). h.feed) a.held in
        let of : IsOfKey q key.items a.later.feed.rows = subst (λ (f : Fed). IsOfKey q key.items f.rows) (sym feed) (packet_begins keys q packet key.items fits is) in
        subst (AllJoined q) (sym a.now) (joined_insert q key a.later es all none (record { joined = a.joined; of_key = of }))
    added_joined (Err e) all none a r fits is = subst (AllJoined q) (sym r) all

    added_kept : (result : Answer) → result ≢ Ok New → OnOk result (IsAdded q packet es key new result) → OnErr result (new ≡ es) → new ≡ es
    added_kept (Ok t) differs a r = absurd (differs a.is)
    added_kept (Err e) differs a r = r

    added_when : (result : Answer) → result ≡ Ok New → OnOk result (IsAdded q packet es key new result) → IsAdded q packet es key new result
    added_when (Ok t) is a = a
    added_when (Err e) is a = absurd (cc)

    pub taken_new : (result : Answer) → AllJoined q es → is_some (lookup same es) ≡ false → AddedAs q packet es key new result → MapTakes q packet key.items es new result
    taken_new result all none t =
        let held : entry_at (entries_by held_of es) key.items ≡ None = at_none held_of key.items es none in
        let work : entry_at (entries_by (work_of q) es) key.items ≡ None = at_none (work_of q) key.items es none in
        record {
          answer = t.answer ∙ ap (λ o. feed_answer (or_fresh o).feed packet) (sym held);
          joined = added_joined result all none t.added t.refused;
          taken = λ is.
              (let a = added_when result is t.added in
              record {
                records = ap (entries_by held_of) a.now ∙ insert_is held_of key a.later es
                    ∙ ap (λ r. with_entry key.items r (entries_by held_of es)) (a.held ∙ ap (λ o. with_fed (or_fresh o) (fed_with packet (or_fresh o).feed)) (sym held));
                left = (work_of q a.later).left;
                search = (work_of q a.later).search;
                rises = subst (λ o. SeenRises (rows_taken (held_at es key.items).feed packet) (or_no_work o).search (work_of q a.later).search) (sym work) a.search;
                work = ap (entries_by (work_of q)) a.now ∙ insert_is (work_of q) key a.later es
                    ∙ ap (λ n. with_entry key.items (record { left = (work_of q a.later).left; entered = n; search = (work_of q a.later).search }) (entries_by (work_of q) es)) (a.entered ∙ ap (λ o. (or_no_work o).entered) (sym work));
              });
          unchanged = λ differs. added_kept result differs t.added t.refused;
        }

-- ---- a partition that is added

abbrev as_answer : Taken → Answer
as_answer t = Ok t

fresh_taken : (packet : Packet) (t : Taken) → feed_answer (fed_from 1) packet ≡ Ok t → t ≡ New
fresh_taken (RowPacket n cells) t h = go (n == 0 || nat_lt greatest_number n) (nat_lt n 1) (nat_lt (front_of (fed_from 1) + most_beyond) n) refl refl h
  where
    last : (b : Bool) → cond b (Err fault.TooFar) (Ok New) ≡ Ok t → t ≡ New
    last true e = absurd (cc)
    last false e = cc

    go : (a b d : Bool) → n == 0 || nat_lt greatest_number n ≡ a → nat_lt n 1 ≡ b → cond a (Err fault.NumberRange) (cond b (Ok Old) (cond d (Err fault.TooFar) (Ok New))) ≡ Ok t → t ≡ New
    go true b d e f g = absurd (cc)
    go false true d e f g = absurd (either (n == 0) (nat_lt greatest_number n) refl e)
      where
        either : (x y : Bool) → n == 0 ≡ x → x || y ≡ false → ⊥
        either true y i j = cc
        either false y i j = grind (arith, nat_tests)
    go false false d e f g = last d g
fresh_taken (ClosePacket key count) t h = go (nat_lt greatest_number count) (has_above (fed_from 1) count) h
  where
    go : (a b : Bool) → cond a (Err fault.NumberRange) (cond b (Err fault.CloseBelow) (Ok New)) ≡ Ok t → t ≡ New
    go true b e = absurd (cc)
    go false true e = absurd (cc)
    go false false e = cc

module _ (q : QueryData) (packet : Packet) (es : Map) (key : Vec Value Global) (p p' : Partition) (held : held_of p ≡ fresh) where
  feed_is : p.feed ≡ fed_from 1
  feed_is = ap (λ (h : Held). h.feed) held

  told_of : (r : Answer) → TakesPacket q packet p p' r → memory_aside r ≡ feed_answer (fed_from 1) packet
  told_of r t = t.answer ∙ ap (λ f. feed_answer f packet) feed_is

  held_taken : (r : Answer) → r ≡ Ok New → TakesPacket q packet p p' r → held_of p' ≡ with_fed fresh (fed_with packet fresh.feed)
  held_taken r e t =
      let feed : p'.feed ≡ fed_with packet (fed_from 1) = t.feed ∙ ap (λ z. after z (fed_with packet p.feed) p.feed) e ∙ ap (fed_with packet) feed_is in
      let state : record_of p'.walker ≡ first_state = ap record_of t.walker ∙ ap (λ (h : Held). h.state) held in
      λ i. record { feed = feed i; state = state i }

  none_seen : (o o' : Option SearchSeen) (rows : ℕ) → o ≡ None → SeenRises rows o o' → o' ≡ None
  none_seen o o' rows none rises = subst (λ z. SeenRises rows z o') none rises

  pub added_ok : (new : Map) (taken : Taken) → entered_by p.walker ≡ 0 → (work_of q p).search ≡ None → TakesPacket q packet p p' (Ok taken) → new ≡ insert_entry (λ j k. same_key j.items k.items) es key p' → AddedAs q packet es key new (Ok taken)
  added_ok new taken entered none t now =
      let is : ◌≡◌ {A = Answer} (Ok taken) (Ok New) = ap (λ (z : Taken). as_answer z) (fresh_taken packet taken (sym (told_of (Ok taken) t))) in
      record {
        answer = told_of (Ok taken) t;
        added = record { is = is; later = p'; joined = t.joined; held = held_taken (Ok taken) is t; entered = ap entered_by t.walker ∙ entered; search = none_seen (work_of q p).search (work_of q p').search (front_of p'.feed - front_of p.feed) none t.search; now = now };
        refused = tt;
      }

  pub added_no_memory : (new : Map) (taken : Taken) → TakesPacket q packet p p' (Ok taken) → new ≡ es → AddedAs q packet es key new (Err fault.OutOfMemory)
  added_no_memory new taken t now =
      let is : ◌≡◌ {A = Answer} (Ok taken) (Ok New) = ap (λ (z : Taken). as_answer z) (fresh_taken packet taken (sym (told_of (Ok taken) t))) in
      record { answer = sym is ∙ told_of (Ok taken) t; added = tt; refused = now }

-- ---- what is told of a packet

module _ (q : QueryData) (packet : Packet) (es new : Map) (result : Answer) (fits : packet_fault q packet ≡ None) (t : MapTakes q packet (packet_key q packet) es new result) where
  told_answer : packet_answer (node_by q es) packet ≡ told (feed_answer (record_for (node_by q es) packet).feed packet)
  told_answer = ap (λ o. option_map_or (λ f. Err (node.BadRow f)) o (told (feed_answer (record_for (node_by q es) packet).feed packet))) fits

  pub accept_answer : (told result ≡ Err node.OutOfMemory) ⊎ (told result ≡ packet_answer (node_by q es) packet)
  accept_answer = go result t.answer
    where
      there : (r : Answer) → memory_aside r ≡ r → memory_aside r ≡ feed_answer (record_for (node_by q es) packet).feed packet → (told r ≡ Err node.OutOfMemory) ⊎ (told r ≡ packet_answer (node_by q es) packet)
      there r e h = inr (ap told (sym e ∙ h) ∙ sym told_answer)

      go : (r : Answer) → memory_aside r ≡ feed_answer (record_for (node_by q es) packet).feed packet → (told r ≡ Err node.OutOfMemory) ⊎ (told r ≡ packet_answer (node_by q es) packet)
      go (Ok s) h = there (Ok s) refl h
      go (Err fault.NumberRange) h = there (Err fault.NumberRange) refl h
      go (Err fault.PastClose) h = there (Err fault.PastClose) refl h
      go (Err fault.Conflict) h = there (Err fault.Conflict) refl h
      go (Err fault.TooFar) h = there (Err fault.TooFar) refl h
      go (Err fault.CloseDiffers) h = there (Err fault.CloseDiffers) refl h
      go (Err fault.CloseBelow) h = there (Err fault.CloseBelow) refl h
      go (Err fault.OutOfMemory) h = inl refl

  new_told : (r : Answer) → told r ≡ Ok New → r ≡ Ok New
  new_told (Ok s) e = cc
  new_told (Err f) e = absurd (cc)

  pub accept_taken : told result ≡ Ok New → Accepted (node_by q es) packet (node_by q new)
  accept_taken e = let m = t.taken (new_told result e) in record { query = refl; records = m.records; left = m.left; search = m.search; rises = m.rises; work = m.work }

  pub accept_unchanged : told result ≢ Ok New → node_by q new ≡ node_by q es
  accept_unchanged d = ap (node_by q) (t.unchanged (λ e. d (ap told e)))

-- ---- a poll

abbrev part_answer : Poll → Result Poll AllocError
part_answer a = Ok a

module _ (q : QueryData) (key : List Value) (es new : Map) (i : ℕ) (all : AllJoined q es) (at : position (λ k. same_key key k.items) (keys_of es) ≡ Some i) (itself : same_key key key ≡ true)
    (budget s s' : ℕ) (result : Result Poll AllocError) (t : PolledPlace q es i new budget s s' result) where
  first : IsFirst (λ k. same_key key k.items) es i
  first = (Found-position (λ (k : Vec Value Global). same_key key k.items) es i at).first

  found : lookup (λ k. same_key key k.items) es ≡ Some t.before
  found = (Found-position (λ (k : Vec Value Global). same_key key k.items) es i at).value ∙ t.there

  work_before : work_at (node_by q es) key ≡ work_of q t.before
  work_before = ap or_no_work (at_is (work_of q) key es t.before found)

  work_set : entries_by (work_of q) new ≡ with_entry key (work_of q t.later) (entries_by (work_of q) es)
  work_set = ap (entries_by (work_of q)) t.now ∙ set_is (work_of q) key t.later es i first

  work_after : work_at (node_by q new) key ≡ work_of q t.later
  work_after = ap (λ es'. or_no_work (entry_at es' key)) work_set ∙ ap or_no_work (entry_there key (work_of q t.later) (entries_by (work_of q) es) itself)

  pub poll_joined : AllJoined q new
  poll_joined = subst (AllJoined q) (sym t.now) (joined_set q key es i t.before t.later all first t.there t.joined (λ k sought. t.keeps k))

  polled_told : (r : Result Poll AllocError) → PolledTo q (held_of t.before) (held_of t.later) r → PolledAt (node_by q es) (node_by q new) key (told_poll r)
  polled_told r p = record {
    before = held_of t.before;
    after = held_of t.later;
    there = at_is held_of key es t.before found;
    records = ap (entries_by held_of) t.now ∙ set_is held_of key t.later es i first;
    polled = same_told r p;
    working = work_of q t.later;
    work = work_set;
  }
    where
      ok_is : (answer : Poll) → ◌≡◌ {A = Result Poll NodeFault} (Ok answer) (Ok IdlePoll) → ◌≡◌ {A = Result Poll AllocError} (Ok answer) (Ok IdlePoll)
      ok_is answer e = let i : answer ≡ IdlePoll = cc in ap (λ (a : Poll). part_answer a) i

      same_told : (z : Result Poll AllocError) → PolledTo q (held_of t.before) (held_of t.later) z → PolledTo q (held_of t.before) (held_of t.later) (told_poll z)
      same_told (Ok answer) h = record { polls = h.polls; drops = h.drops; refused = tt; given = h.given; last = λ e. h.last (ok_is answer e) }
      same_told (Err e) h = record { polls = h.polls; drops = h.drops; refused = h.refused; given = h.given; last = λ i. absurd (cc) }

  pub poll_polls : NodePolls (node_by q es) (node_by q new) key (told_poll result)
  poll_polls = go result t.polled
    where
      go : (r : Result Poll AllocError) → PolledTo q (held_of t.before) (held_of t.later) r → NodePolls (node_by q es) (node_by q new) key (told_poll r)
      go (Ok answer) h = polled_told (Ok answer) h
      go (Err e) h = polled_told (Err e) h

  pub poll_lowers : IfOk (told_poll result) (PollLowers budget (work_at (node_by q es) key).left (work_at (node_by q new) key).left)
  poll_lowers = subst (λ (w : Work). IfOk (told_poll result) (PollLowers budget w.left (work_at (node_by q new) key).left)) (sym work_before)
      (subst (λ (w : Work). IfOk (told_poll result) (PollLowers budget (work_of q t.before).left w.left)) (sym work_after) (go result t.lowers))
    where
      go : (r : Result Poll AllocError) → IfOk r (PollLowers budget (work_of q t.before).left (work_of q t.later).left) → IfOk (told_poll r) (PollLowers budget (work_of q t.before).left (work_of q t.later).left)
      go (Ok answer) h = h
      go (Err e) h = tt

  pub poll_takes : IfOk (told_poll result) (PollTakes budget s s')
  poll_takes = go result t.takes
    where
      go : (r : Result Poll AllocError) → IfOk r (PollTakes budget s s') → IfOk (told_poll r) (PollTakes budget s s')
      go (Ok answer) h = h
      go (Err e) h = tt

  pub poll_turns : TurnsAreCounted budget s s' (work_at (node_by q es) key).entered (work_at (node_by q new) key).entered
  poll_turns = subst (λ (w : Work). TurnsAreCounted budget s s' w.entered (work_at (node_by q new) key).entered) (sym work_before)
      (subst (λ (w : Work). TurnsAreCounted budget s s' (work_of q t.before).entered w.entered) (sym work_after) t.turns)

  record_before : entry_at (entries_by held_of es) key ≡ Some (held_of t.before)
  record_before = at_is held_of key es t.before found

  record_after : entry_at (entries_by held_of new) key ≡ Some (held_of t.later)
  record_after = ap (λ es'. entry_at es' key) (ap (entries_by held_of) t.now ∙ set_is held_of key t.later es i first) ∙ entry_there key (held_of t.later) (entries_by held_of es) itself

  abbrev PartWorks : Held → Held → Work → Work → Poll → Type 0
  PartWorks b a w w' answer = SeenWorks (s' - s) q (known_by b.feed) w.search w'.search b.state a.state answer

  key_works : (answer : Poll) → PartWorks (held_of t.before) (held_of t.later) (work_of q t.before) (work_of q t.later) answer → KeyWorks (s' - s) (node_by q es) (node_by q new) key answer
  key_works answer h b a before after =
      let b_is : held_of t.before ≡ b = is_some_of (sym record_before ∙ before) in
      let a_is : held_of t.later ≡ a = is_some_of (sym record_after ∙ after) in
      subst (λ (z : Held). PartWorks z a (work_at (node_by q es) key) (work_at (node_by q new) key) answer) b_is
      (subst (λ (z : Held). PartWorks (held_of t.before) z (work_at (node_by q es) key) (work_at (node_by q new) key) answer) a_is
      (subst (λ (w : Work). PartWorks (held_of t.before) (held_of t.later) w (work_at (node_by q new) key) answer) (sym work_before)
      (subst (λ (w : Work). PartWorks (held_of t.before) (held_of t.later) (work_of q t.before) w answer) (sym work_after) h)))
    where
      is_some_of : {x y : Held} → Some x ≡ Some y → x ≡ y
      is_some_of e = cc

  pub poll_works : IfOk (told_poll result) (KeyWorks (s' - s) (node_by q es) (node_by q new) key)
  poll_works = go result t.works
    where
      go : (r : Result Poll AllocError) → IfOk r (PartWorks (held_of t.before) (held_of t.later) (work_of q t.before) (work_of q t.later)) → IfOk (told_poll r) (KeyWorks (s' - s) (node_by q es) (node_by q new) key)
      go (Ok answer) h = key_works answer h
      go (Err e) h = tt

  pub poll_held : OnOk (told_poll result) (1 ≤ budget → HoldsNoMoreAt (node_by q new) key)
  poll_held = go result t.held
    where
      records_after : entry_at (entries_by held_of new) key ≡ Some (held_of t.later)
      records_after = ap (λ es'. entry_at es' key) (ap (entries_by held_of) t.now ∙ set_is held_of key t.later es i first) ∙ entry_there key (held_of t.later) (entries_by held_of es) itself

      at_key_held : HoldsNoMore q (held_of t.later) → HoldsNoMoreAt (node_by q new) key
      at_key_held h = λ r e. (let is : Some r ≡ Some (held_of t.later) = sym e ∙ records_after in let same_held : held_of t.later ≡ r = some_is (sym is) in subst (λ (z : Held). HoldsNoMore q z) same_held h)
        where
          some_is : {x y : Held} → Some x ≡ Some y → x ≡ y
          some_is e = cc

      go : (r : Result Poll AllocError) → OnOk r (1 ≤ budget → HoldsNoMore q (held_of t.later)) → OnOk (told_poll r) (1 ≤ budget → HoldsNoMoreAt (node_by q new) key)
      go (Ok answer) h = λ b. at_key_held (h b)
      go (Err e) h = tt

  pub poll_paused : budget ≡ 0 → told_poll result ≡ Ok PausedPoll
  poll_paused z = ap told_poll (t.none z).0

  pub poll_nothing : budget ≡ 0 → (node_by q new ≡ node_by q es) × (s' ≡ s)
  poll_nothing z = let n = t.none z in (ap (node_by q) (t.now ∙ ap (set_value_at es i) n.1 ∙ set_same es i t.before t.there), n.2)

pub poll_unknown : (q : QueryData) (key : List Value) (es : Map) → is_some (lookup (λ k. same_key key k.items) es) ≡ false → IsUnknown (node_by q es) (node_by q es) key
poll_unknown q key es h = record { none = at_none held_of key es h; kept = refl }

pub row_fits : (columns table : List Column) (cells row : List Value) → columns ≡ table → cells ≡ row → row_fault (kinds_of columns) cells ≡ None → row_fault (kinds_of table) row ≡ None
row_fits columns table cells row e f h = rw (sym e, sym f) h
