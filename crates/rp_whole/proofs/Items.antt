-- The items of a partition that are written one by one.
use Rattle.std.proofs.Common.{◌≡◌, ◌∙◌, ℕ, zero, suc, ◌+◌, List, [], ◌∷◌, ◌++◌, length, take, drop, Option, Some, None, refl, sym, ap, subst, append_assoc, append-nil, arith}
use Rattle.std.proofs.lemmas.List.{append_cancel_right}
use Rattle.std.specs.List.{flat_map}
use Rattle.rp_value.specs.declared.value.Value.{Value}
use Rattle.std.specs.Io.KnownBytes.{Appends}
use Rattle.rp_query.specs.declared.query.QueryData.{QueryData}
use Rattle.rp_query.specs.declared.item.Item.{Item}
use Rattle.rp_known.specs.Walk.{known}
use Rattle.rp_io.specs.Devices.{AppendsFront, Moves}
use Rattle.rp_numbering.specs.Partitions.{Part}
use Rattle.rp_walker.specs.declared.poll.Poll.TheVariants.{Item as ItemPoll}
use Rattle.rp_walker.specs.declared.record.MatcherState.{MatcherState}
use Rattle.rp_walker.specs.Polls.{AnswerIs}
use Rattle.rp_walker.specs.Records.{first_state}
use Rattle.rp_whole.specs.Answers.{Form, IsByLimit, bytes_from, closed, part_bytes}
use Rattle.rp_whole.specs.Writing.{NoneToCome, WritesOn, WritesPart, bytes_to_come, stops_to_come}
use Rattle.rp_whole.specs.declared.stopped.Stopped.{Stopped}
use Rattle.rp_whole.proofs.AllShown.{all_is_shown, all_taken}
use Rattle.rp_whole.proofs.ToCome.{next_bytes, next_stops, same_bytes, same_stops}
use Rattle.rp_io.proofs.Writes.{front_longer, moves_front, moves_more, moves_none}

-- all that was gathered is written
pub moves_all : (a b : Option (List ℕ)) (text : List ℕ) → Appends a b text → Moves a text b []
moves_all None b text wrote = tt
moves_all (Some xs) None text wrote = absurd wrote
moves_all (Some xs) (Some ys) text wrote = (text, sym (append-nil text), wrote)

module _ (form : Form) (q : QueryData) (part : Part) (old new : MatcherState) (place : ℕ) (x : Item) (is : AnswerIs q (closed part.1) old new (ItemPoll place x)) where
  -- the bytes of the item come next
  next : bytes_to_come form q part old ≡ form.bytes q part.0 place x ++ bytes_to_come form q part new
  next = next_bytes form q part old new x is.1 is.2 ∙ ap (λ n. form.bytes q part.0 n x ++ bytes_to_come form q part new) (sym is.0)

  pub item_front : (a b : Option (List ℕ)) (gathered more : List ℕ) → more ≡ gathered ++ form.bytes q part.0 place x → AppendsFront a b more → AppendsFront a b (gathered ++ bytes_to_come form q part old)
  item_front a b gathered more with_item front =
      subst (AppendsFront a b) (append_assoc gathered (form.bytes q part.0 place x) (bytes_to_come form q part new) ∙ ap (λ t. gathered ++ t) (sym next))
      (front_longer a b (gathered ++ form.bytes q part.0 place x) (bytes_to_come form q part new) (subst (AppendsFront a b) with_item front))

module _ {form : Form} {q : QueryData} {part : Part} {old new : MatcherState} where
  -- the item was added to what was gathered, of which a front was written
  pub item_written : {a b : Option (List ℕ)} {gathered more rest : List ℕ} {s t u : List Stopped} (place : ℕ) (x : Item) → AnswerIs q (closed part.1) old new (ItemPoll place x)
      → more ≡ gathered ++ form.bytes q part.0 place x → Moves a more b rest → t ≡ s ++ form.stops part.0 x → u ≡ t → WritesOn form q part old new a gathered b rest s u
  item_written {a = a} {b = b} {rest = rest} place x is with_item moves told same = record {
    bytes = form.bytes q part.0 place x;
    come = next form q part old new place x is;
    moves = subst (λ bytes. Moves a bytes b rest) with_item moves;
    stops = form.stops part.0 x;
    tell = next_stops form q part old new x is.1 is.2;
    told = same ∙ told;
  }

  -- no item came: of what was gathered a front was written, perhaps none or all
  pub none_moved : {a b : Option (List ℕ)} {gathered rest : List ℕ} {s t : List Stopped} → new.given ≡ old.given → Moves a gathered b rest → t ≡ s → WritesOn form q part old new a gathered b rest s t
  none_moved {a = a} {b = b} {gathered = gathered} {rest = rest} {s = s} same moves told = record {
    bytes = [];
    come = same_bytes form q part old new same;
    moves = subst (λ bytes. Moves a bytes b rest) (sym (append-nil gathered)) moves;
    stops = [];
    tell = same_stops form q part old new same;
    told = told ∙ sym (append-nil s);
  }

  pub none_written : {a : Option (List ℕ)} {gathered : List ℕ} {s : List Stopped} → new.given ≡ old.given → WritesOn form q part old new a gathered a gathered s s
  none_written {a = a} {gathered = gathered} same = none_moved same (moves_none a gathered gathered refl) refl

module _ {form : Form} {q : QueryData} {part : Part} {r s : MatcherState} {a b : Option (List ℕ)} {first second : List ℕ} {x y : List Stopped} (one : WritesOn form q part r s a first b second x y) where
  pub written_more : {t : MatcherState} {c : Option (List ℕ)} {third : List ℕ} {z : List Stopped} → WritesOn form q part s t b second c third y z → WritesOn form q part r t a first c third x z
  written_more {t = t} {c = c} {third = third} two = record {
    bytes = one.bytes ++ two.bytes;
    come = one.come ∙ ap (λ l. one.bytes ++ l) two.come ∙ sym (append_assoc one.bytes two.bytes (bytes_to_come form q part t));
    moves = subst (λ l. Moves a l c third) (append_assoc first one.bytes two.bytes) (moves_more a b c (first ++ one.bytes) second two.bytes third one.moves two.moves);
    stops = one.stops ++ two.stops;
    tell = one.tell ∙ ap (λ l. one.stops ++ l) two.tell ∙ sym (append_assoc one.stops two.stops (stops_to_come form q part t));
    told = two.told ∙ ap (λ l. l ++ two.stops) one.told ∙ append_assoc x one.stops two.stops;
  }

  pub written_front : (c : Option (List ℕ)) → AppendsFront b c (second ++ bytes_to_come form q part s) → AppendsFront a c (first ++ bytes_to_come form q part r)
  written_front c front =
      subst (AppendsFront a c) (append_assoc first one.bytes (bytes_to_come form q part s) ∙ ap (λ t. first ++ t) (sym one.come))
      (moves_front a b c (first ++ one.bytes) second (bytes_to_come form q part s) one.moves front)

-- ---- first items

-- the bytes of items are those of the first ones, and then those of the rest
first_bytes : (form : Form) (q : QueryData) (key : List Value) (n place : ℕ) (items : List Item)
    → bytes_from form q key place items ≡ bytes_from form q key place (take n items) ++ bytes_from form q key (place + n) (drop n items)
first_bytes form q key zero place items = let same : place ≡ place + 0 = omega arith in ap (λ p. bytes_from form q key p items) same
first_bytes form q key (suc n) place [] = refl
first_bytes form q key (suc n) place (item ∷ items) =
    let same : suc place + n ≡ place + suc n = omega arith in
    ap (λ t. form.bytes q key place item ++ t) (first_bytes form q key n (suc place) items)
    ∙ sym (append_assoc (form.bytes q key place item) (bytes_from form q key (suc place) (take n items)) (bytes_from form q key (suc place + n) (drop n items)))
    ∙ ap (λ p. (form.bytes q key place item ++ bytes_from form q key (suc place) (take n items)) ++ bytes_from form q key p (drop n items)) same

first_stops : (stops : Item → List Stopped) (n : ℕ) (items : List Item) → flat_map stops items ≡ flat_map stops (take n items) ++ flat_map stops (drop n items)
first_stops stops zero items = refl
first_stops stops (suc n) [] = refl
first_stops stops (suc n) (item ∷ items) =
    ap (λ t. stops item ++ t) (first_stops stops n items)
    ∙ sym (append_assoc (stops item) (flat_map stops (take n items)) (flat_map stops (drop n items)))

-- ---- a partition's answer

module _ {limit : Option ℕ} {form : Form} {q : QueryData} {part : Part} {last : MatcherState} {a b : Option (List ℕ)} {gathered rest : List ℕ} {s t : List Stopped}
    (wrote : WritesOn form q part first_state last a gathered b rest s t) where
  -- the answer is given up where the walk stands
  pub part_given_up : (row : ℕ) → IsByLimit limit q part.1 last.given row → WritesPart limit form q part (Some row) a gathered b rest s t
  part_given_up row by_limit =
      let shown = bytes_from form q part.0 1 (take last.given (known q (closed part.1))) in
      let place : 1 + last.given ≡ last.given + 1 = omega arith in
      let bytes : bytes_to_come form q part first_state ≡ shown ++ bytes_to_come form q part last =
      first_bytes form q part.0 last.given 1 (known q (closed part.1))
      ∙ ap (λ p. shown ++ bytes_from form q part.0 p (drop last.given (known q (closed part.1)))) place in
      let stops = flat_map (form.stops part.0) (take last.given (known q (closed part.1))) in
      let told : stops_to_come form q part first_state ≡ stops ++ stops_to_come form q part last = first_stops (form.stops part.0) last.given (known q (closed part.1)) in
      let same : wrote.bytes ≡ shown = append_cancel_right wrote.bytes shown (bytes_to_come form q part last) (sym wrote.come ∙ bytes) in
      let same_stops : wrote.stops ≡ stops = append_cancel_right wrote.stops stops (stops_to_come form q part last) (sym wrote.tell ∙ told) in
      record {
        count = last.given;
        is = record { all = λ none. absurd cc; by_limit = by_limit };
        moves = subst (λ l. Moves a (gathered ++ l) b rest) same wrote.moves;
        told = wrote.told ∙ ap (λ l. s ++ l) same_stops;
      }

  -- all of its items are given
  pub part_written : NoneToCome form q part last → WritesPart limit form q part None a gathered b rest s t
  part_written none =
      let items = all_taken q part in
      let all : wrote.bytes ≡ part_bytes form q part = sym (wrote.come ∙ ap (λ l. wrote.bytes ++ l) none.0 ∙ append-nil wrote.bytes) in
      let all_told : wrote.stops ≡ flat_map (form.stops part.0) (known q (closed part.1)) = sym (wrote.tell ∙ ap (λ l. wrote.stops ++ l) none.1 ∙ append-nil wrote.stops) in
      record {
        count = length (known q (closed part.1));
        is = all_is_shown limit q part;
        moves = subst (λ l. Moves a (gathered ++ l) b rest) (all ∙ sym (ap (bytes_from form q part.0 1) items)) wrote.moves;
        told = wrote.told ∙ ap (λ l. s ++ l) (all_told ∙ sym (ap (flat_map (form.stops part.0)) items));
      }
