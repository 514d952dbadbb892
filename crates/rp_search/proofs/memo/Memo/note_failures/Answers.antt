use Rattle.std.proofs.Common.{◌≡◌, length, rules}
use Rattle.rp_search.proofs.Marks.{none_marked}
use Rattle.rp_search.proofs.memo.Memo.note_failures.Goals as goal

pub returns-then-height-eq0-clause-remembers : goal.returns-then-height-eq0-clause-remembers
returns-then-height-eq0-clause-remembers g c =
    let none : length c.args.self.now.marks ≡ 0 = search rules in
    none_marked c.args.choices.now (g.T.Tests.asked (g.T.Tests.subject c.args.tests.now)) c.args.self.now c.args.until none c.requires
