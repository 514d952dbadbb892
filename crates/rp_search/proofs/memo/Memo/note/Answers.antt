use Rattle.std.proofs.Common.{◌≤◌, ◌<◌, rules}
use Rattle.rp_words.specs.Numbers.{most_u64}
use Rattle.rp_search.specs.Table.{KeepsFrom}
use Rattle.rp_search.proofs.Spending.{noted_for_ever}
use Rattle.rp_search.proofs.memo.Memo.note.Goals as goal

pub returns-then-kept-clause-noted : goal.returns-then-kept-clause-noted
returns-then-kept-clause-noted c = λ all q r low known.
    let old = c.args.self.now.failed in
    let new = c.add-2.new.self in
    let mark = c.args.mark in
    let room : c.args.start < most_u64 = search rules in
    let high : most_u64 ≤ mark.until = search rules in
    let kept : KeepsFrom c.args.start mark.place mark.row old new = c.add-2.ensures.kept (search rules) in
    noted_for_ever old new mark c.args.start high c.requires.some (search rules) kept q r low room known
