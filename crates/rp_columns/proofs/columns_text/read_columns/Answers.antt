use Rattle.std.proofs.Common.{◌∙◌, ℕ, List, map, rules, subst, sym}
use Rattle.rp_columns.specs.ColumnsGrammar.{AreWritten, written_tree}
use Rattle.rp_columns.specs.ColumnsText.{AreColumnsOf}
use Rattle.rp_columns.specs.Resolved.{AreColumns}
use Rattle.rp_columns.specs.declared.columns.InputColumn.{InputColumn}
use Rattle.rp_columns.specs.declared.written.Written.{Written}
use Rattle.rp_columns.proofs.OneText.{one_text}
use Rattle.rp_columns.proofs.columns_text.read_columns.Goals as goal

-- what is written means them, so they are the text's
are_of : (text : List ℕ) (written : List Written) (columns : List InputColumn) → AreWritten text (map written_tree written) → AreColumns (map written_tree written) columns → AreColumnsOf text columns
are_of text written columns is mean = record { written = map written_tree written; is = is; mean = mean }

pub returns-in-Ok-new-clause-columns : goal.returns-in-Ok-new-clause-columns
returns-in-Ok-new-clause-columns c =
    let mine = are_of c.args.text.now c.in_ok-written.written.items c.in_ok-columns.columns.items c.in_ok-written.ensures.written (rw c.as_slice-2.ensures.value at c.in_ok-columns.ensures.columns) in
    subst (AreColumnsOf c.args.text.now) (sym c.in-Ok-new.ensures.ok.0) mine

pub returns-in-Ok-new-clause-only : goal.returns-in-Ok-new-clause-only
returns-in-Ok-new-clause-only c = λ others is.
    let mine = are_of c.args.text.now c.in_ok-written.written.items c.in_ok-columns.columns.items c.in_ok-written.ensures.written (rw c.as_slice-2.ensures.value at c.in_ok-columns.ensures.columns) in
    c.in-Ok-new.ensures.ok.0 ∙ one_text c.args.text.now c.in_ok-columns.columns.items others c.law_lexes.ensures.one_list mine is

pub returns : goal.returns
returns c = record {
  columns = tt;
  only = tt;
  fault = record {
    columns = c.in_ok-columns.columns.items;
    are = are_of c.args.text.now c.in_ok-written.written.items c.in_ok-columns.columns.items c.in_ok-written.ensures.written (rw c.as_slice-2.ensures.value at c.in_ok-columns.ensures.columns);
    because = search rules;
  };
}
