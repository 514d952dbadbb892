use Rattle.std.proofs.Common.{refl, sym, true≢false}
use Rattle.rp_quotes.proofs.Firsts.{none_at_start, no_blank_at_start, no_quote_at_start}
use Rattle.rp_quotes.proofs.Seen.{at_start, line_at_start}
use Rattle.rp_quotes.proofs.watch.QuoteWatch.new.Goals as goal

pub returns : goal.returns
returns c = record {
  same = refl;
  mark = refl;
  at = at_start c.args.delimiter;
  opened = λ is. absurd (true≢false (sym is));
  line = line_at_start;
  stray = none_at_start c.args.delimiter;
  blank = λ is. absurd (true≢false (sym is));
  blank_only = λ has. absurd (no_blank_at_start c.args.delimiter has);
  behind_blank = no_quote_at_start c.args.delimiter;
}
