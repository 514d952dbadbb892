use Rattle.std.proofs.Common.{◌∷◌, ◌<◌, ◌≤◌, ◌∙◌, suc, length, drop, sym, ap, subst, arith, rules}
use Rattle.rp_pattern.specs.Choices.{start_of, height, kept}
use Rattle.rp_search.specs.declared.memo.Mark.{Mark}
use Rattle.rp_search.specs.Asked.{Asked}
use Rattle.rp_search.specs.Memo.{Above, AreMarksUnder, lessened}
use Rattle.rp_search.proofs.Marks.{left_dead, length-lessened, failures_more, marked_named, noted}
use Rattle.rp_words.specs.Numbers.{most_u64}
use Rattle.rp_search.specs.Table.{until_of}
use Rattle.rp_search.proofs.Fresh.{fresh_left}
use Rattle.rp_search.proofs.Spending.{lessened_less, passes, same_less}
use Rattle.rp_search.proofs.memo.Memo.note_top.Goals as goal

pub returns-then-mark-start-clause-remembers : goal.returns-then-mark-start-clause-remembers
returns-then-mark-start-clause-remembers g c =
    let asked : Asked = g.T.Tests.asked (g.T.Tests.subject c.args._tests.now) in
    let choices = c.args.choices.now in
    let old = c.args.self.now in
    let mark : Mark = c.in-Some.mark.now in
    let marks : AreMarksUnder (suc (height choices)) choices asked (Above choices) (mark ∷ drop 1 old.marks) = subst (λ ms. AreMarksUnder (suc (height choices)) choices asked (Above choices) ms) c.in-Some.ensures c.requires.marks in
    let named = marked_named (suc (height choices)) (Above choices) choices asked mark (drop 1 old.marks) old c.in-Some.ensures c.requires in
    let is = c.lessen.ensures in (
      noted choices asked mark (drop 1 old.marks) old.failed c.lessen.new.self
          (is.marks ∙ ap (lessened mark.until) c.drop_top.ensures) is.failed marks c.requires.failures named,
      omega (arith, ap length is.marks, length-lessened mark.until c.drop_top.new.self, ap length c.drop_top.ensures, ap length c.in-Some.ensures),
    )

pub returns-clause-remembers : goal.returns-clause-remembers
returns-clause-remembers g c =
    let asked : Asked = g.T.Tests.asked (g.T.Tests.subject c.args._tests.now) in
    let choices = c.args.choices.now in
    let old = c.args.self.now in
    let mark : Mark = c.in-Some.mark.now in
    let low : c.height.result ≤ mark.height = search rules in
    let high : start_of choices < mark.until = search rules in
    let marks : AreMarksUnder (suc (height choices)) choices asked (Above choices) (mark ∷ drop 1 old.marks) = subst (λ ms. AreMarksUnder (suc (height choices)) choices asked (Above choices) ms) c.in-Some.ensures c.requires.marks in
    let named = marked_named (suc (height choices)) (Above choices) choices asked mark (drop 1 old.marks) old c.in-Some.ensures c.requires in
    let is = c.lessen-2.ensures in (
      noted choices asked mark (drop 1 old.marks) c.note.new.self.failed c.lessen-2.new.self (is.marks ∙ ap (lessened mark.until) (c.note.ensures.marks ∙ c.drop_top.ensures)) is.failed marks
          (failures_more old.failed c.note.new.self.failed choices asked mark c.note.ensures.only
          (left_dead choices asked mark.until mark (marks.1 mark.until high (omega arith)) (λ n e. c.height.ensures.none mark.height n e low)) c.requires.failures) named,
      omega (arith, ap length is.marks, length-lessened mark.until c.note.new.self.marks, ap length c.note.ensures.marks, ap length c.drop_top.ensures, ap length c.in-Some.ensures),
    )

pub returns-then-mark-start-clause-less : goal.returns-then-mark-start-clause-less
returns-then-mark-start-clause-less g c = λ less.
    let mark : Mark = c.in-Some.mark.now in
    same_less c.args.choices.now (g.T.Tests.asked (g.T.Tests.subject c.args._tests.now)) _ c.lessen.new.self.marks (c.lessen.ensures.marks ∙ ap (lessened mark.until) c.drop_top.ensures)
    (lessened_less c.args.choices.now (g.T.Tests.asked (g.T.Tests.subject c.args._tests.now)) mark.until (drop 1 c.args.self.now.marks) (same_less c.args.choices.now (g.T.Tests.asked (g.T.Tests.subject c.args._tests.now)) _ (mark ∷ drop 1 c.args.self.now.marks) (sym c.in-Some.ensures) less).1)

pub returns-then-mark-start-clause-notes : goal.returns-then-mark-start-clause-notes
returns-then-mark-start-clause-notes g c = λ all. absurd (passes (c.lessen.ensures.keeps all).1)

pub returns-clause-less : goal.returns-clause-less
returns-clause-less g c = λ less.
    let mark : Mark = c.in-Some.mark.now in
    same_less c.args.choices.now (g.T.Tests.asked (g.T.Tests.subject c.args._tests.now)) _ c.lessen-2.new.self.marks (c.lessen-2.ensures.marks ∙ ap (lessened mark.until) (c.note.ensures.marks ∙ c.drop_top.ensures))
    (lessened_less c.args.choices.now (g.T.Tests.asked (g.T.Tests.subject c.args._tests.now)) mark.until (drop 1 c.args.self.now.marks) (same_less c.args.choices.now (g.T.Tests.asked (g.T.Tests.subject c.args._tests.now)) _ (mark ∷ drop 1 c.args.self.now.marks) (sym c.in-Some.ensures) less).1)

pub returns-clause-notes : goal.returns-clause-notes
returns-clause-notes g c = λ all.
    let choices = c.args.choices.now in
    let old = c.args.self.now in
    let mark : Mark = c.in-Some.mark.now in
    let noted = c.lessen-2.ensures.keeps all in (
      c.note.ensures.keeps noted,
      λ rows. fresh_left (kept choices) old c.lessen-2.new.self mark (drop 1 old.marks) mark.until (start_of choices) rows c.in-Some.ensures
          (c.lessen-2.ensures.marks ∙ ap (lessened mark.until) (c.note.ensures.marks ∙ c.drop_top.ensures))
          (λ q r low known. subst (λ t. most_u64 ≤ until_of t q r) (sym c.lessen-2.ensures.failed) (c.note.ensures.noted noted q r (subst (λ s. s ≤ r) (sym c.start-2.ensures) low) known)),
    )
