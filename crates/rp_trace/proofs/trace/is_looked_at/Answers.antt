use Rattle.std.proofs.Common.{rules, tests, ◌≡◌, length, leb, true, arith}
use Rattle.std.proofs.lemmas.Iterator.{YieldsList-from_slice}
use Rattle.std.proofs.lemmas.Iterator.Search.{all_from_yields_List}
use Rattle.std.proofs.lemmas.Bool.Decides.{nat_tests}
use Rattle.rp_trace.specs.Replies.{is_letter}
use Rattle.rp_trace.proofs.trace.is_looked_at.Goals as goal

pub returns-then-line-le-MAX_LINE : goal.returns-then-line-le-MAX_LINE
returns-then-line-le-MAX_LINE c =
    let few : leb (length c.args.line.now) 4096 ≡ true = grind (arith, nat_tests) in
    rw few (all_from_yields_List is_letter _ _ _ c.all.ensures.ran (YieldsList-from_slice c.args.line.now cc) (λ x b q k. search (rules, tests)))
