-- Answers by the text of a clause over the texts of inputs, as their readers read them.
use Rattle.std.proofs.Common.{◌≡◌, ℕ, List, [], ◌∷◌, None, sym, subst}
use Rattle.std.specs.Prelude.{All}
use Rattle.std.specs.Cmp.{IsStrictWeakOrder}
use Rattle.std.specs.List.{AllByRecursion}
use Rattle.std.proofs.lemmas.List.Elements.{All-contains, All-from_recursion, All-weaker, recursion_from_All}
use Rattle.rp_value.specs.Rows.{row_fault}
use Rattle.rp_value.specs.Tables.{kinds_of}
use Rattle.rp_value.specs.declared.table.Column.{Column}
use Rattle.rp_value.specs.declared.value.Value.{Value}
use Rattle.rp_query.specs.Keys.{AreRowsOver}
use Rattle.rp_query.specs.declared.item.Item.TheVariants.{Row}
use Rattle.rp_query.specs.declared.query.OrderColumn.{OrderColumn}
use Rattle.rp_query.specs.declared.query.QueryData.{QueryData}
use Rattle.rp_protocol.specs.Within.{AreCells}
use Rattle.rp_numbering.specs.Numbered.{AreOrderedParts}
use Rattle.rp_numbering.specs.Orders.{is_before}
use Rattle.rp_numbering.specs.Partitions.{Part}
use Rattle.rp_compile.specs.Compiled.{IsCompiled}
use Rattle.rp_whole.specs.Answers.{closed}
use Rattle.rp_whole.specs.AnswerObjects.{object_form}
use Rattle.rp_whole.specs.AnswerRecords.{record_form}
use Rattle.rp_whole.specs.Fitting.{PartsFit, PartsFitColumns}
use Rattle.rp_whole.specs.Limits.{WholeUnlessHalted}
use Rattle.rp_whole.specs.Named.{AreOfTable, AreOutputRows, HeaderNames, IsOutputRow, ObjectsName}
use Rattle.rp_question.specs.Asked.{AreRowsAsked}
use Rattle.rp_question.specs.Read.{columns_seen}
use Rattle.rp_question.specs.declared.question.Question.{Question}
use Rattle.rp_named_answers.specs.NamedAnswers.{AreRowsOfCells, AreShown, Asks, ObjectsAreRead, RecordsAreRead}
use Rattle.rp_named_answers.proofs.Apart.{names_apart}
use Rattle.rp_named_answers.proofs.Fits.{Fit, rows_fit}
use Rattle.rp_named_answers.proofs.Parts.{OfParts, of_inputs, of_kept, of_parts}
use Rattle.rp_named_answers.proofs.Within.{row_within}

-- the laws of the crates below
pub record Below : Type 0 where
  pub weak : (order : List OrderColumn) → IsStrictWeakOrder (is_before order)
  pub table : PartsFit
  pub columns : PartsFitColumns
  pub whole : WholeUnlessHalted
  pub records : HeaderNames
  pub objects : ObjectsName

-- the rows of each partition, as all of them
over_table : (q : QueryData) (parts : List Part) → OfParts (λ row. row_fault (kinds_of q.table) row ≡ None) parts → AllByRecursion (λ (part : Part). AreRowsOver q.table part.1) parts
over_table q [] h = tt
over_table q (part ∷ parts) h = (All-from_recursion (λ row. row_fault (kinds_of q.table) row ≡ None) part.1 h.0, over_table q parts h.1)

within_each : (parts : List Part) → OfParts AreCells parts → AllByRecursion (λ (part : Part). AreRowsOfCells part.1) parts
within_each [] h = tt
within_each (part ∷ parts) h = (All-from_recursion AreCells part.1 h.0, within_each parts h.1)

module _ (below : Below) where
  -- rows that are asked of are rows of the table that the clause sees
  asked_fit : (question : Question) (texts : List (List ℕ)) (rows : List (List Value)) → AreRowsAsked question texts rows → Fit (columns_seen question.reading.shape.now) rows
  asked_fit question texts rows asked =
      let shape = question.reading.shape.now in
      let fits = λ (row : List Value). row_fault (kinds_of (columns_seen shape)) row ≡ None in
      subst (Fit (columns_seen shape)) (sym asked.are)
      (of_kept fits question.filter asked.all
      (of_inputs fits question.reading (rows_fit below.table below.columns shape question.reading.layout question.reading.nulls.now) texts asked.all asked.read))

  of_table : (q : QueryData) (columns : List Column) (rows : List (List Value)) (parts : List Part) → q.table ≡ columns → AreOrderedParts q.partition.items q.order.items rows parts → Fit columns rows → AreOfTable q parts
  of_table q columns rows parts same ordered fit =
      All-from_recursion (λ (part : Part). AreRowsOver q.table part.1) parts
      (over_table q parts
      (of_parts (λ row. row_fault (kinds_of q.table) row ≡ None) below.weak q.partition.items q.order.items rows parts ordered (subst (λ table. Fit table rows) (sym same) fit)))

  -- rows of the partitions of those that are asked of are shown in their kinds
  all_shown : (clause : List ℕ) (question : Question) (texts : List (List ℕ)) (rows : List (List Value)) (parts : List Part) (shown : List (List Value))
      → Asks question clause → AreRowsAsked question texts rows → AreOrderedParts question.query.partition.items question.query.order.items rows parts
      → AreOutputRows question.query parts shown → AreShown question.query rows shown
  all_shown clause question texts rows parts shown asks asked ordered are = record {
    parts = parts;
    ordered = ordered;
    all = are.all;
    named = are.named;
    typed = are.typed asks.sound
        (of_table question.query (columns_seen question.reading.shape.now) rows parts asks.compiled.is.table ordered (asked_fit question texts rows asked));
  }

  pub records_read : RecordsAreRead
  records_read clause question texts rows limit csv stopped asks asked answers =
      let over = below.whole limit record_form question.query rows csv stopped answers in
      let named = below.records question.query rows csv stopped over in
      record {
        shown = named.rows;
        are = all_shown clause question texts rows over.parts named.rows asks asked over.ordered named.shown;
        text = named.are;
        read = named.read;
      }

  -- the cells of output rows of the partitions of rows whose cells have 64 bits
  shown_within : (clause : List ℕ) (columns : List Column) (q : QueryData) (rows : List (List Value)) (parts : List Part) (shown : List (List Value))
      → IsCompiled clause columns q → AreOrderedParts q.partition.items q.order.items rows parts → AreRowsOfCells rows → All (IsOutputRow q parts) shown → All AreCells shown
  shown_within clause columns q rows parts shown compiled ordered all named =
      let within : All (λ (part : Part). AreRowsOfCells part.1) parts =
      All-from_recursion (λ (part : Part). AreRowsOfCells part.1) parts
      (within_each parts (of_parts AreCells below.weak q.partition.items q.order.items rows parts ordered (recursion_from_All AreCells rows all))) in
      All-weaker (IsOutputRow q parts) AreCells
      (λ cells h. row_within clause columns q (closed h.0.1) compiled (All-contains (λ (part : Part). AreRowsOfCells part.1) parts h.0 within h.2) (Row h.1 cells) h.3)
      shown named

  pub objects_read : ObjectsAreRead
  objects_read clause question texts rows limit text stopped asks asked all answers =
      let columns = columns_seen question.reading.shape.now in
      let over = below.whole limit object_form question.query rows text stopped answers in
      let named = below.objects question.query rows text stopped over in
      let cells = shown_within clause columns question.query rows over.parts named.rows asks.compiled over.ordered all named.shown.named in
      record {
        shown = named.rows;
        are = all_shown clause question texts rows over.parts named.rows asks asked over.ordered named.shown;
        lines = named.are;
        read = λ k d low. named.read k d low (cells k d low);
        found = named.found (names_apart clause columns question.query asks.table asks.compiled);
      }
