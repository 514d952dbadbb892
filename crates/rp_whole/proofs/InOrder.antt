-- Partitions that are put in order and written one after another.
use Rattle.std.proofs.Common.{◌≡◌, ◌∙◌, ℕ, List, [], ◌∷◌, ◌++◌, Option, map, refl, sym, ap, subst, append_assoc, append-nil}
use Rattle.std.proofs.lemmas.Grind.{flat_map-append}
use Rattle.std.proofs.lemmas.List.{map-append}
use Rattle.std.proofs.lemmas.List.Elements.{All-append, All-cons, All-nil, All-push}
use Rattle.std.specs.Prelude.{All}
use Rattle.std.specs.Io.KnownBytes.{Appends}
use Rattle.std.specs.List.{flat_map}
use Rattle.rp_value.specs.declared.value.Value.{Value}
use Rattle.rp_query.specs.declared.query.QueryData.{QueryData}
use Rattle.rp_io.specs.Devices.{AppendsFront, Moves}
use Rattle.rp_numbering.specs.Gathering.{parts_of}
use Rattle.rp_numbering.specs.Numbered.{AreOrdered}
use Rattle.rp_numbering.specs.Orders.{IsOrdered, OrderExists}
use Rattle.rp_numbering.specs.Partitions.{Part}
use Rattle.rp_numbering.specs.declared.partition.Part.{Part as Kept}
use Rattle.rp_whole.specs.Answers.{Form, IsShown, Shown, bytes_from, halted_at, part_bytes, shown_bytes, shown_halted, shown_stops}
use Rattle.rp_whole.specs.Writing.{WritesPart, WritesParts, WritesPartsFront, shown_of}
use Rattle.rp_whole.specs.declared.halted.Halted.{Halted}
use Rattle.rp_whole.specs.declared.stopped.Stopped.{Stopped}
use Rattle.rp_whole.proofs.AllShown.{all_is_shown, all_of, all_taken, part_shown}
use Rattle.rp_io.proofs.Writes.{front_longer, front_none, moves_end, moves_front, moves_more, moves_none, moves_part}

-- partitions can be put in order, and all of their answers shown
pub all_ordered : OrderExists → (limit : Option ℕ) (q : QueryData) (parts : List Part)
    → (shown : List Shown) × AreOrdered q.order.items parts (map part_shown shown) × All (IsShown limit q) shown
all_ordered law limit q [] = ([], tt, All-nil (IsShown limit q))
all_ordered law limit q (part ∷ parts) =
    let rest = all_ordered law limit q parts in
    let one = all_of q (part.0, (law q.order.items part.1).0) in
    (one ∷ rest.0, (refl, (law q.order.items part.1).1, rest.1), All-cons (IsShown limit q) one rest.0 (all_is_shown limit q one.part) rest.2)

-- ---- some are written

-- What is shown of some partitions, in order, is written or gathered, behind what was gathered at the start, and what they tell is
-- told; with those that are left, in order, they are all.
pub record HasWritten (limit : Option ℕ) (form : Form) (q : QueryData) (all left : List Part) (old : Option (List ℕ)) (start : List ℕ) (s : List Stopped)
    (new : Option (List ℕ)) (gathered : List ℕ) (t : List Stopped) (halted : List Halted) : Type 0 where
  pub done : List Shown
  pub follow : (later : List Part) → AreOrdered q.order.items left later → AreOrdered q.order.items all (map part_shown done ++ later)
  pub are_shown : All (IsShown limit q) done
  pub moves : Moves old (start ++ flat_map (shown_bytes form q) done) new gathered
  pub told : t ≡ s ++ flat_map (shown_stops form q) done
  pub halts : halted ≡ flat_map shown_halted done

module _ {X Y : Type 0} (bytes : Y → List X) (start : List X) where
  -- what more come to is behind what those before came to
  more_parts : (done later : List Y) → start ++ flat_map bytes (done ++ later) ≡ (start ++ flat_map bytes done) ++ flat_map bytes later
  more_parts done later = ap (λ t. start ++ t) (flat_map-append bytes done later) ∙ sym (append_assoc start (flat_map bytes done) (flat_map bytes later))

  one_more : (done : List Y) (part : Y) → start ++ flat_map bytes (done ++ part ∷ []) ≡ (start ++ flat_map bytes done) ++ bytes part
  one_more done part = more_parts done (part ∷ []) ∙ ap (λ t. (start ++ flat_map bytes done) ++ t) (append-nil (bytes part))

-- Before the first is taken, none is written.
pub none_written : {limit : Option ℕ} {form : Form} {q : QueryData} {parts left : List Kept} {a : Option (List ℕ)} {start : List ℕ} {s : List Stopped} {halted : List Halted}
    → left ≡ parts → halted ≡ [] → HasWritten limit form q (parts_of parts) (parts_of left) a start s a start s halted
none_written {limit = limit} {q = q} {a = a} {start = start} {s = s} whole none = record {
  done = [];
  follow = λ later. subst (λ items. AreOrdered q.order.items (parts_of items) later) whole;
  are_shown = All-nil (IsShown limit q);
  moves = moves_none a start (start ++ []) (append-nil start);
  told = sym (append-nil s);
  halts = none;
}

module _ (form : Form) (q : QueryData) (a : Option (List ℕ)) (start : List ℕ) where
  -- a front of what is shown of some partitions is one of what is shown of more
  longer : (c : Option (List ℕ)) (done later : List Shown) → AppendsFront a c (start ++ flat_map (shown_bytes form q) done) → AppendsFront a c (start ++ flat_map (shown_bytes form q) (done ++ later))
  longer c done later front =
      subst (AppendsFront a c) (sym (more_parts (shown_bytes form q) start done later))
      (front_longer a c (start ++ flat_map (shown_bytes form q) done) (flat_map (shown_bytes form q) later) front)

module _ {limit : Option ℕ} {form : Form} {q : QueryData} {all : List Part} {a b : Option (List ℕ)} {start : List ℕ} {s : List Stopped} {gathered : List ℕ} {t : List Stopped} {halted : List Halted} where
  -- The next partition is taken from those that are left, and put in order.
  module _ {items left : List Kept} {kept : Kept} (c : Option (List ℕ)) (ordered : List (List Value)) (before : HasWritten limit form q all (parts_of items) a start s b gathered t halted)
      (gives : items ≡ kept ∷ left) (is : IsOrdered q.order.items kept.rows.items ordered) where
    abbrev part : Part
    part = (kept.key, ordered)

    follow_one : (one : Shown) → one.part ≡ part → (later : List Part) → AreOrdered q.order.items (parts_of left) later → AreOrdered q.order.items all (map part_shown (before.done ++ one ∷ []) ++ later)
    follow_one one of_part later h =
        let places : map part_shown (before.done ++ one ∷ []) ++ later ≡ map part_shown before.done ++ part ∷ later =
        ap (λ l. l ++ later) (map-append part_shown before.done (one ∷ []) ∙ ap (λ p. map part_shown before.done ++ p ∷ []) of_part)
        ∙ append_assoc (map part_shown before.done) (part ∷ []) later in
        let in_order = subst (λ l. AreOrdered q.order.items (parts_of l) (part ∷ later)) (sym gives) (refl, is, h) in
        subst (AreOrdered q.order.items all) (sym places) (before.follow (part ∷ later) in_order)

    -- what was written of it is added
    pub part_written : {l : Option ℕ} {given_up : Option ℕ} {rest : List ℕ} {u : List Stopped} {more : List Halted} → WritesPart l form q part given_up b gathered c rest t u → l ≡ limit
        → more ≡ halted ++ halted_at kept.key given_up → HasWritten limit form q all (parts_of left) a start s c rest u more
    part_written {given_up = given_up} {rest = rest} wrote same adds =
        let one = shown_of part wrote.count given_up in
        record {
          done = before.done ++ one ∷ [];
          follow = follow_one one refl;
          are_shown = All-push (IsShown limit q) before.done one before.are_shown (subst (λ l. IsShown l q one) same wrote.is);
          moves = subst (λ text. Moves a text c rest) (sym (one_more (shown_bytes form q) start before.done one))
              (moves_more a b c (start ++ flat_map (shown_bytes form q) before.done) gathered (shown_bytes form q one) rest before.moves wrote.moves);
          told = wrote.told ∙ ap (λ l. l ++ shown_stops form q one) before.told ∙ sym (one_more (shown_stops form q) s before.done one);
          halts = adds ∙ ap (λ l. l ++ halted_at kept.key given_up) before.halts ∙ sym (one_more shown_halted [] before.done one);
        }

    -- a front of what is shown of it was written
    pub part_front : OrderExists → AppendsFront b c (gathered ++ part_bytes form q part) → WritesPartsFront limit form q all a start c
    part_front law front =
        let later = all_ordered law limit q (parts_of left) in
        let one = all_of q part in
        let done = before.done ++ one ∷ [] in
        let whole : AppendsFront b c (gathered ++ shown_bytes form q one) = subst (λ items. AppendsFront b c (gathered ++ bytes_from form q kept.key 1 items)) (sym (all_taken q part)) front in
        let here = moves_front a b c (start ++ flat_map (shown_bytes form q) before.done) gathered (shown_bytes form q one) before.moves whole in (
          done ++ later.0,
          subst (AreOrdered q.order.items all) (sym (map-append part_shown done later.0)) (follow_one one refl (map part_shown later.0) later.1),
          All-append (IsShown limit q) done later.0 (All-push (IsShown limit q) before.done one before.are_shown (all_is_shown limit q part)) later.2,
          longer form q a start c done later.0 (subst (AppendsFront a c) (sym (one_more (shown_bytes form q) start before.done one)) here),
        )

  -- nothing more is written of what is gathered or left
  pub stopped_front : {left : List Part} → HasWritten limit form q all left a start s b gathered t halted → OrderExists → WritesPartsFront limit form q all a start b
  stopped_front {left = left} before law =
      let later = all_ordered law limit q left in
      let here = moves_part a b b (start ++ flat_map (shown_bytes form q) before.done) gathered before.moves (front_none b gathered) in (
        before.done ++ later.0,
        subst (AreOrdered q.order.items all) (sym (map-append part_shown before.done later.0)) (before.follow (map part_shown later.0) later.1),
        All-append (IsShown limit q) before.done later.0 before.are_shown later.2,
        longer form q a start b before.done later.0 here,
      )

  -- None is left.
  module _ {items : List Kept} (c : Option (List ℕ)) (before : HasWritten limit form q all (parts_of items) a start s b gathered t halted) (none : items ≡ []) where
    are : AreOrdered q.order.items all (map part_shown before.done)
    are =
        subst (AreOrdered q.order.items all) (append-nil (map part_shown before.done))
        (before.follow [] (subst (λ l. AreOrdered q.order.items (parts_of l) []) (sym none) tt))

    pub all_front : AppendsFront b c gathered → WritesPartsFront limit form q all a start c
    all_front front = (before.done, are, before.are_shown, moves_part a b c (start ++ flat_map (shown_bytes form q) before.done) gathered before.moves front)

    pub all_written : {u : List Stopped} → u ≡ t → Appends b c gathered → WritesParts limit form q all a start c s u halted
    all_written same wrote =
        (before.done, are, before.are_shown, moves_end a b c (start ++ flat_map (shown_bytes form q) before.done) gathered before.moves wrote, same ∙ before.told, before.halts)
