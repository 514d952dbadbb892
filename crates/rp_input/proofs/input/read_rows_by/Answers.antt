use Rattle.rp_input.proofs.Telling.{columns_text_told}
use Rattle.rp_input.proofs.input.read_rows_by.Goals as goal

pub returns-clause-reads : goal.returns-clause-reads
returns-clause-reads g c = columns_text_told _ _ _ _ _ _ _ c.in_ok-text.ensures.reads c.rows_by.result c.rows_by.ensures.err
