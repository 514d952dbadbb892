use Rattle.std.proofs.Common.{◌<◌, ◌≤◌, arith, rules}
use Rattle.std.proofs.lemmas.Result.{IfOk-weaker}
use Rattle.rp_pattern.specs.Choices.{start_of}
use Rattle.rp_search.specs.Asked.{Asked}
use Rattle.rp_search.specs.Search.{start_of_search}
use Rattle.rp_search.specs.Fits.{ChoicesStand, LabelsStand, MemoStands}
use Rattle.rp_search.specs.Lasting.{OfPattern, OpensAlike}
use Rattle.rp_search.specs.Memo.{IsMarkOfTop}
use Rattle.rp_search.specs.Work.{added_by, counted, unmarked}
use Rattle.rp_search.proofs.Marks.{dead_alike, dead_top, of_pattern}
use Rattle.rp_search.proofs.TurnEnds.{admitted_plainly}
use Rattle.rp_search.proofs.Spending.{adds_most, fresh_top, spent_more}
use Rattle.rp_search.proofs.search.Search.take_up.Goals as goal

pub pass_over-requires-clause-dead : goal.pass_over-requires-clause-dead
unfolding ChoicesStand LabelsStand MemoStands
pass_over-requires-clause-dead g c =
    let asked : Asked = g.T.Tests.asked (g.T.Tests.subject c.args.tests.now) in
    let choices = c.args.self.now.choices in
    let fits = c.requires.can_turn.running.searches.fits in
    let lt : start_of choices < c.failed_until-until.result = search rules in
    dead_top (λ m. OpensAlike (OfPattern asked.pattern) asked) choices asked c.args.self.now.memo _ c.failed_until-until.result c.failed_until-until.ensures c.mark_of-mark.ensures.mark lt c.requires.can_turn.running.memo
    fits.stands (admitted_plainly choices c.args.self.now.outlook _ _ _ c.requires.none fits.labels)

pub pass_over-requires-clause-alike : goal.pass_over-requires-clause-alike
pass_over-requires-clause-alike g c =
    let asked : Asked = g.T.Tests.asked (g.T.Tests.subject c.args.tests.now) in
    let choices = c.args.self.now.choices in
    let lt : start_of choices < c.failed_until-until.result = search rules in
    dead_alike (λ m. IsMarkOfTop choices m) asked.pattern choices asked c.args.self.now.memo _ c.failed_until-until.result c.failed_until-until.ensures c.mark_of-mark.ensures.mark lt (of_pattern asked.pattern c.args.self.now c.requires.can_turn.covers.pattern)

pub take_up_at-requires-clause-can_mark : goal.take_up_at-requires-clause-can_mark
unfolding start_of_search
take_up_at-requires-clause-can_mark g c =
    let choices = c.args.self.now.choices in
    let le : c.failed_until-until.result ≤ start_of choices = search rules in
    record {
      marked = search rules;
      named = c.mark_of-mark.ensures.named;
      fresh = fresh_top c.args.self.now.memo _ c.failed_until-until.result (start_of choices) c.failed_until-until.ensures le
          (omega (arith, c.requires.can_turn.covers.known, g.met.T.Tests.few c.args.tests.now));
    }

pub returns-clause-took : goal.returns-clause-took
returns-clause-took g c =
    let asked : Asked = g.T.Tests.asked (g.T.Tests.subject c.args.tests.now) in
    let old = c.args.self.now in
    let mark = c.mark_of-mark.result in
    IfOk-weaker c.take_up_at.result _ _
    (λ outcome took. record {
      turned = took.turned;
      spent = λ always none.
          spent_more (counted outcome) (unmarked mark old.choices) (added_by c.args.remembers old.choices) old.choices _ old.memo _ asked
          (λ numbered. adds_most c.args.remembers mark old.choices (λ remembers unset. c.mark_of-mark.ensures.none always remembers numbered unset) (c.take_up_at.ensures.most numbered)) (took.spent tt none);
      lasts = λ always. took.lasts (always, c.mark_of-mark.ensures.ever);
      held = took.held;
    })
    c.take_up_at.ensures.took
