use Rattle.rp_input.proofs.Telling.{text_told}
use Rattle.rp_input.proofs.input.read_rows.Goals as goal

pub returns-clause-reads : goal.returns-clause-reads
returns-clause-reads g c = text_told _ _ _ _ _ c.in_ok-text.ensures.reads c.rows_of.result c.rows_of.ensures.err
