-- A text has one list of columns.
use Rattle.std.proofs.Common.{◌≡◌, ◌∙◌, ℕ, List, [], ◌∷◌, refl, ap}
use Rattle.std.specs.Prelude.{Option, Some}
use Rattle.rp_lexer.specs.Laws.{OneTokenList}
use Rattle.rp_grammar.proofs.Texts.{text_only}
use Rattle.rp_columns.specs.ColumnsGrammar.{WrittenTree, columns}
use Rattle.rp_columns.specs.ColumnsText.{AreColumnsOf}
use Rattle.rp_columns.specs.Resolved.{AreColumns, column_of}
use Rattle.rp_columns.specs.declared.columns.InputColumn.{InputColumn}
use Rattle.rp_columns.proofs.ColumnsLaws.{columns_lawful}

one_of_two : (o : Option InputColumn) (c d : InputColumn) → o ≡ Some c → o ≡ Some d → c ≡ d
one_of_two o c d a b = cc

one_meaning : (ws : List WrittenTree) (cs ds : List InputColumn) → AreColumns ws cs → AreColumns ws ds → cs ≡ ds
one_meaning [] [] [] a b = refl
one_meaning [] [] (d ∷ ds) a b = absurd b
one_meaning [] (c ∷ cs) ds a b = absurd a
one_meaning (w ∷ ws) [] ds a b = absurd a
one_meaning (w ∷ ws) (c ∷ cs) [] a b = absurd b
one_meaning (w ∷ ws) (c ∷ cs) (d ∷ ds) a b =
    ap (λ x. x ∷ cs) (one_of_two (column_of w) c d a.0 b.0) ∙ ap (λ xs. d ∷ xs) (one_meaning ws cs ds a.1 b.1)

pub one_text : (text : List ℕ) (cs ds : List InputColumn) → OneTokenList → AreColumnsOf text cs → AreColumnsOf text ds → cs ≡ ds
one_text text cs ds one a b =
    let same = text_only columns (columns_lawful text) one a.written b.written a.is b.is in
    one_meaning b.written cs ds (rw same at a.mean) b.mean
