-- Names head the cells of an answer's rows: those of a CSV's header, and those of an object's members.
use Rattle.std.proofs.Common.{◌≡◌, ◌∙◌, ℕ, suc, List, [], ◌∷◌, ◌++◌, map, length, refl, sym, ap, subst}
use Rattle.std.proofs.lemmas.Grind.{flat_map-append}
use Rattle.std.specs.Prelude.{All, Contains, Option, Some, None}
use Rattle.std.specs.List.{AllByRecursion, flat_map, slice_index_or}
use Rattle.std.proofs.lemmas.List.{length-map}
use Rattle.std.proofs.lemmas.List.Elements.{All-contains_itself, All-from_recursion, All-weaker, recursion_from_All}
use Rattle.std.proofs.lemmas.Slice.Zip.{AllZip-long}
use Rattle.rp_value.specs.declared.value.Value.{Value}
use Rattle.rp_query.specs.declared.query.QueryData.{QueryData}
use Rattle.rp_query.specs.declared.item.Item.{Item}
use Rattle.rp_query.specs.declared.item.Item.TheVariants.{Row, Fault, End}
use Rattle.rp_query.specs.Keys.{AreRowsOver}
use Rattle.rp_query.specs.Sound.{IsSound}
use Rattle.rp_eval.specs.declared.cell.Cell.TheVariants.{Ready}
use Rattle.rp_known.specs.Known.{Known}
use Rattle.rp_known.specs.Named.{IsNamed, KnownIsNamed}
use Rattle.rp_known.specs.Plans.{setting_of, shown_in, shown_alone}
use Rattle.rp_known.specs.Typed.{AreTyped, IsTyped, KnownIsTyped}
use Rattle.rp_known.specs.Walk.{known}
use Rattle.rp_protocol.specs.ObjectsRead.{HasCells, ObjectsHaveCells, ObjectsReadBack}
use Rattle.rp_numbering.specs.Partitions.{Part}
use Rattle.rp_table.specs.ReadBack.{Reads, ReadsBack, records_text}
use Rattle.rp_table.specs.RecordTexts.{field_of, cells_record}
use Rattle.rp_whole.specs.Answers.{bytes_from, closed, part_bytes}
use Rattle.rp_whole.specs.AnswerObjects.{object_line}
use Rattle.rp_whole.specs.AnswerRecords.{header_text}
use Rattle.rp_whole.specs.AnswerRows.{output_names, row_form}
use Rattle.rp_whole.specs.Fitting.{PartsFit}
use Rattle.rp_whole.specs.Named.{AreOfTable, AreOutputRows, HeaderNames, HeaderNamesOf, IsOutputRow, ObjectsName, header_and_rows, part_rows, row_of}

abbrev rows_in : List Item → List (List Value)
rows_in items = flat_map row_of items

-- what holds of the cells of each row of some items, and of each row of some lists of them
module _ (P : List Value → Type 0) where
  both_rows : (xs ys : List (List Value)) → AllByRecursion P xs → AllByRecursion P ys → AllByRecursion P (xs ++ ys)
  both_rows [] ys h k = k
  both_rows (x ∷ xs) ys h k = (h.0, both_rows xs ys h.1 k)

  each_row : {X : Type 0} (rows : X → List (List Value)) (xs : List X) → AllByRecursion (λ x. AllByRecursion P (rows x)) xs → AllByRecursion P (flat_map rows xs)
  each_row rows [] h = tt
  each_row rows (x ∷ xs) h = both_rows (rows x) (flat_map rows xs) h.0 (each_row rows xs h.1)

  rows_by_items : (Q : Item → Type 0) → ((number : Option ℕ) (cells : List Value) → Q (Row number cells) → P cells)
      → (items : List Item) → AllByRecursion Q items → AllByRecursion P (rows_in items)
  rows_by_items Q holds [] h = tt
  rows_by_items Q holds (Row number cells ∷ items) h = (holds number cells h.0, rows_by_items Q holds items h.1)
  rows_by_items Q holds (Fault fault ∷ items) h = rows_by_items Q holds items h.1
  rows_by_items Q holds (End ∷ items) h = rows_by_items Q holds items h.1

module _ (q : QueryData) where
  -- ---- names

  part_named : KnownIsNamed → (parts : List Part) (part : Part) → Contains parts part → AllByRecursion (IsOutputRow q parts) (part_rows q part)
  part_named law parts part among =
      rows_by_items (IsOutputRow q parts) (IsNamed q (closed part.1)) (λ number cells h. (part, number, among, h)) (known q (closed part.1))
      (recursion_from_All (IsNamed q (closed part.1)) (known q (closed part.1)) (law q (closed part.1)))

  named_each : KnownIsNamed → (parts some : List Part) → AllByRecursion (Contains parts) some → AllByRecursion (λ part. AllByRecursion (IsOutputRow q parts) (part_rows q part)) some
  named_each law parts [] h = tt
  named_each law parts (part ∷ some) h = (part_named law parts part h.0, named_each law parts some h.1)

  parts_named : KnownIsNamed → (parts : List Part) → All (IsOutputRow q parts) (flat_map (part_rows q) parts)
  parts_named law parts =
      All-from_recursion (IsOutputRow q parts) (flat_map (part_rows q) parts)
      (each_row (IsOutputRow q parts) (part_rows q) parts (named_each law parts parts (recursion_from_All (Contains parts) parts (All-contains_itself parts))))

  -- ---- kinds

  part_typed : KnownIsTyped → IsSound q → (part : Part) → AreRowsOver q.table part.1 → AllByRecursion (AreTyped q.output.items) (part_rows q part)
  part_typed law sound part over =
      rows_by_items (AreTyped q.output.items) (IsTyped q) (λ number cells h. h) (known q (closed part.1))
      (recursion_from_All (IsTyped q) (known q (closed part.1)) (law q (closed part.1) sound over))

  typed_each : KnownIsTyped → IsSound q → (parts : List Part) → AllByRecursion (λ part. AreRowsOver q.table part.1) parts → AllByRecursion (λ part. AllByRecursion (AreTyped q.output.items) (part_rows q part)) parts
  typed_each law sound [] h = tt
  typed_each law sound (part ∷ parts) h = (part_typed law sound part h.0, typed_each law sound parts h.1)

  parts_typed : KnownIsTyped → IsSound q → (parts : List Part) → AreOfTable q parts → All (AreTyped q.output.items) (flat_map (part_rows q) parts)
  parts_typed law sound parts over =
      All-from_recursion (AreTyped q.output.items) (flat_map (part_rows q) parts)
      (each_row (AreTyped q.output.items) (part_rows q) parts (typed_each law sound parts (recursion_from_All (λ (part : Part). AreRowsOver q.table part.1) parts over)))

  -- ---- there are as many cells as names

  as_many : (p : Known) (number : Option ℕ) (cells : List Value) → IsNamed q p (Row number cells) → length cells ≡ length q.output.items
  as_many p (Some number) cells h = AllZip-long (λ o v. shown_in q (setting_of q p h.place.start h.labels number h.row) o.from ≡ Ready v) q.output.items cells h.named
  as_many p None cells h = AllZip-long (λ o v. Ready (shown_alone p.rows h.place.start o.from) ≡ Ready v) q.output.items cells h.named

  output_rows : KnownIsNamed → KnownIsTyped → (parts : List Part) → AreOutputRows q parts (flat_map (part_rows q) parts)
  output_rows names kinds parts =
      let rows = flat_map (part_rows q) parts in
      let named : All (IsOutputRow q parts) rows = parts_named names parts in
      record {
        all = refl;
        many = All-weaker (IsOutputRow q parts) (λ cells. length cells ≡ length (output_names q))
            (λ cells h. as_many (closed h.0.1) h.1 cells h.3 ∙ sym (length-map q.output.items (λ o. o.name))) rows named;
        named = named;
        typed = λ sound over. parts_typed kinds sound parts over;
      }

-- ---- the bytes of rows

module _ (head : QueryData → List ℕ) (row : QueryData → List Value → List ℕ) (q : QueryData) where
  items_rows : (key : List Value) (place : ℕ) (items : List Item) → bytes_from (row_form head row) q key place items ≡ flat_map (row q) (rows_in items)
  items_rows key place [] = refl
  items_rows key place (Row number cells ∷ items) = ap (λ t. row q cells ++ t) (items_rows key (suc place) items)
  items_rows key place (Fault fault ∷ items) = items_rows key (suc place) items
  items_rows key place (End ∷ items) = items_rows key (suc place) items

  parts_bytes : (parts : List Part) → flat_map (part_bytes (row_form head row) q) parts ≡ flat_map (row q) (flat_map (part_rows q) parts)
  parts_bytes [] = refl
  parts_bytes (part ∷ parts) =
      ap (λ t. t ++ flat_map (part_bytes (row_form head row) q) parts) (items_rows part.0 1 (known q (closed part.1)))
      ∙ ap (λ t. flat_map (row q) (part_rows q part) ++ t) (parts_bytes parts)
      ∙ sym (flat_map-append (row q) (part_rows q part) (flat_map (part_rows q) parts))

records_rows : (rows : List (List Value)) → flat_map cells_record rows ≡ records_text (map (map field_of) rows)
records_rows [] = refl
records_rows (cells ∷ rows) = ap (λ t. cells_record cells ++ t) (records_rows rows)

-- ---- the laws

pub header_names : KnownIsNamed → KnownIsTyped → ReadsBack → HeaderNames
header_names names kinds reads q rows csv stopped records =
    let shown = flat_map (part_rows q) records.parts in
    let below : flat_map (part_bytes (row_form header_text (λ q cells. cells_record cells)) q) records.parts ≡ records_text (map (map field_of) shown) =
    parts_bytes header_text (λ q cells. cells_record cells) q records.parts ∙ records_rows shown in
    let is : csv ≡ records_text (header_and_rows (output_names q) shown) = records.are ∙ ap (λ t. header_text q ++ t) below in
    record {
      rows = shown;
      are = is;
      shown = output_rows q names kinds records.parts;
      read = subst (λ t. Reads t (header_and_rows (output_names q) shown)) (sym is) (reads (header_and_rows (output_names q) shown));
    }

pub header_names_of : KnownIsNamed → KnownIsTyped → PartsFit → ReadsBack → HeaderNamesOf
header_names_of names kinds fits reads q text csv stopped records = (
  header_names names kinds reads q records.rows csv stopped records.over,
  fits q.table q.partition.items q.order.items text records.rows records.over.parts records.read records.over.ordered,
)

pub objects_name : KnownIsNamed → KnownIsTyped → ObjectsReadBack → ObjectsHaveCells → ObjectsName
objects_name names kinds read have q rows text stopped objects =
    let shown = flat_map (part_rows q) objects.parts in
    let of_parts : AreOutputRows q objects.parts shown = output_rows q names kinds objects.parts in
    record {
      rows = shown;
      are = objects.are ∙ parts_bytes (λ q. []) object_line q objects.parts;
      shown = of_parts;
      read = λ k d low. read q.output.items (slice_index_or shown k d);
      found = λ apart. All-weaker (λ cells. length cells ≡ length (output_names q)) (HasCells q.output.items)
          (λ cells many. have q.output.items cells (many ∙ length-map q.output.items (λ o. o.name)) apart) shown of_parts.many;
    }
