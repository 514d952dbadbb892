use Rattle.std.proofs.Common.{ap, arith, refl, subst, sym}
use Rattle.rp_pattern.specs.Choices.{start_of, entered, height}
use Rattle.rp_search.specs.Asked.{Asked}
use Rattle.rp_search.specs.Search.{start_of_search, labels_of_search}
use Rattle.rp_search.specs.Fits.{ChoicesStand, LabelsStand, LabelsBelow, MarksStand, MemoStands}
use Rattle.rp_search.specs.Memo.{Above, Remembers, RemembersUpTo}
use Rattle.rp_search.specs.Turned.{Goes}
use Rattle.rp_search.proofs.ChoiceSteps.{goes_dead}
use Rattle.rp_search.proofs.Marks.{dead_passes, passed_remembers}
use Rattle.rp_search.proofs.TurnEnds.{admitted_plainly, below_front, searches_plainly}
use Rattle.rp_search.proofs.Spending.{gave_sinks, noted_less, notes_spends, remembered_high}
use Rattle.rp_search.proofs.search.Search.pass_over.Goals as goal

pub note_failures-requires : goal.note_failures-requires
unfolding start_of_search MemoStands
note_failures-requires g c =
    let asked : Asked = g.T.Tests.asked (g.T.Tests.subject c.args.tests.now) in
    let old = c.args.self.now.choices in
    let new = c.give_up.new.self in
    let gave = c.give_up.ensures in
    subst (λ s. RemembersUpTo c.args.until c.args.self.now.memo new (g.T.Tests.asked s)) (sym c.cut_back.ensures.subject)
    (passed_remembers old new asked gave.whole c.args.until c.args.self.now.memo (λ h lt. omega (arith, lt, gave.height)) (λ lt. dead_passes old new asked c.args.until c.requires.alike c.requires.dead gave.above) c.requires.can_turn.running.memo)

pub returns-clause-running : goal.returns-clause-running
unfolding start_of_search labels_of_search ChoicesStand LabelsStand LabelsBelow MarksStand MemoStands
returns-clause-running g c =
    let asked : Asked = g.T.Tests.asked (g.T.Tests.subject c.args.tests.now) in
    let old = c.args.self.now.choices in
    let new = c.give_up.new.self in
    let gave = c.give_up.ensures in
    let running = c.requires.can_turn.running in
    let fits = running.searches.fits in
    let marks = c.args.self.now.memo.marks in
    let admitted = admitted_plainly old c.args.self.now.outlook _ _ _ c.requires.none fits.labels in
    let goes : Goes old new asked.known asked.end (asked.outcome (start_of old)) =
    goes_dead old new _ _ _ fits.stands admitted gave.whole (record { cut = gave.labels; cut_off = gave.cut_off; words = gave.remaining; turns = gave.left; fall = gave.height; over = gave.rest })
    gave.passed gave.above c.requires.dead.refused c.requires.dead.turns in
    record {
      searches = searches_plainly _ asked (start_of old) gave.whole.start c.requires.none goes.stands goes.admitted (below_front asked.variables (entered new) (entered old) gave.labels fits.below);
      memo = subst (Remembers c.note_failures.new.self new) (ap g.T.Tests.asked c.cut_back.ensures.subject) c.note_failures.ensures.remembers;
      marks = noted_less old new asked _ marks marks _ (ap g.T.Tests.asked c.cut_back.ensures.subject) refl
          (gave_sinks old new asked.known asked.end gave.keeps gave.under gave.left (λ n e later. omega (arith, c.requires.dead.turns n e)))
          (remembered_high (height old) (Above old) c.args.self.now.memo old asked running.memo) c.note_failures.ensures.less running.marks;
      entered = c.cut_back.ensures.entered;
    }

pub returns-clause-spent : goal.returns-clause-spent
returns-clause-spent g c =
    let asked : Asked = g.T.Tests.asked (g.T.Tests.subject c.args.tests.now) in
    let gave = c.give_up.ensures in
    notes_spends c.args.self.now.choices c.give_up.new.self c.args.self.now.memo c.note_failures.new.self asked 1 0 gave.keeps gave.whole.start c.note_failures.ensures.notes (λ numbered. omega (arith, gave.costs))
