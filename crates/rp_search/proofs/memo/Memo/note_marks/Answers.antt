use Rattle.rp_pattern.specs.Choices.{kept, start_of}
use Rattle.rp_search.proofs.Fresh.{fresh_same}
use Rattle.rp_search.proofs.Marks.{remembers_lessened}
use Rattle.rp_search.proofs.Spending.{lessened_less, same_less}
use Rattle.rp_search.proofs.memo.Memo.note_marks.Goals as goal

pub marks-init : goal.marks-init
marks-init g c =
    let old = c.args.self.now in
    let new = c.lessen.new.self in
    let is = c.lessen.ensures in (
      remembers_lessened c.args.until old new c.args.choices.now _ is.marks is.failed c.requires,
      λ less. same_less c.args.choices.now (g.T.Tests.asked (g.T.Tests.subject c.args.tests.now)) _ new.marks is.marks (lessened_less c.args.choices.now (g.T.Tests.asked (g.T.Tests.subject c.args.tests.now)) c.args.until old.marks less),
      λ all. (is.keeps all, λ rows. fresh_same (kept c.args.choices.now) old new c.args.until (start_of c.args.choices.now) rows is.marks is.failed),
      λ few either lasts. is.lasts either lasts,
    )
