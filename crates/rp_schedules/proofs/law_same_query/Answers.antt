use Rattle.rp_schedules.proofs.SameFits.{Formulas, same_either_way, known_is_same, walk_is_same, fit_is_same, calls_are_same, key_is_same, kinds_are_same, first_read_is_same}
use Rattle.rp_schedules.proofs.law_same_query.Goals as goal

formulas : goal.After-law_formulas → Formulas
formulas c = record { judgements = c.law_formulas.ensures.judgements; values = c.law_formulas.ensures.values; patterns = c.law_same_words.ensures }

pub returns-clause-turned : goal.returns-clause-turned
returns-clause-turned c = same_either_way

pub returns-clause-known : goal.returns-clause-known
returns-clause-known c = known_is_same (formulas c)

pub returns-clause-walk : goal.returns-clause-walk
returns-clause-walk c = walk_is_same (formulas c)

pub returns-clause-fits : goal.returns-clause-fits
returns-clause-fits c = fit_is_same (formulas c)

pub returns-clause-calls : goal.returns-clause-calls
returns-clause-calls c = calls_are_same (formulas c) _

pub returns-clause-key : goal.returns-clause-key
returns-clause-key c = key_is_same

pub returns-clause-kinds : goal.returns-clause-kinds
returns-clause-kinds c = kinds_are_same

pub returns-clause-reads : goal.returns-clause-reads
returns-clause-reads c = first_read_is_same
