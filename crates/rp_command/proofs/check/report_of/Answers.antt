use Rattle.std.proofs.Common.{codes, rules}
use Rattle.clap.specs.Words.{found_of, rows_of}
use Rattle.rp_command.proofs.Words.{is_other}
use Rattle.rp_command.specs.Jobs.{report_word}
use Rattle.rp_command.proofs.check.report_of.Goals as goal

pub returns-in-None-clause-other : goal.returns-in-None-clause-other
returns-in-None-clause-other c = λ error is. (
  c.no_such_word.ensures error (search rules),
  is_other report_word (codes "format") (rows_of (found_of c.args.matches.now)) _ c.given_word-word.ensures (λ one same. c.in-None.ensures.other (search rules) one (search rules)),
)
