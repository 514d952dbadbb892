use Rattle.std.proofs.Common.{◌≡◌, ◌∙◌, ◌<◌, ◌≤◌, IfOk, OnOk, ap, arith, inr, refl, subst, sym}
use Rattle.std.proofs.lemmas.Result.{IfOk-from_err}
use Rattle.rp_words.specs.Numbers.{most_u64}
use Rattle.rp_pattern.specs.declared.outlook.Sight.TheVariants.{Further, Word, Nothing}
use Rattle.rp_pattern.specs.Choices.{start_of, entered, height, whole, whole_from}
use Rattle.rp_pattern.specs.Outlooks.{SeenAs}
use Rattle.rp_search.specs.declared.search.Search.{Search}
use Rattle.rp_search.specs.Asked.{Asked}
use Rattle.rp_search.specs.Found.{found}
use Rattle.rp_search.specs.Search.{found_by, start_of_search, labels_of_search, words_from}
use Rattle.rp_search.specs.Fits.{left_by, ChoicesStand, LabelsStand, LabelsBelow, MarksStand, MemoStands}
use Rattle.rp_search.specs.Memo.{Above, Remembers, RemembersUpTo}
use Rattle.rp_search.specs.Turned.{CanTurn, Goes, IsRunning, TookTurn, exploring}
use Rattle.rp_search.specs.Work.{added_by}
use Rattle.rp_search.proofs.ChoiceSteps.{now_later}
use Rattle.rp_search.proofs.RunSoFar.{covers_same, same_then}
use Rattle.rp_search.proofs.Marks.{explored_passes, nothing_remembers, up_to_any}
use Rattle.rp_search.proofs.TurnEnds.{same_itself, same_search}
use Rattle.rp_search.proofs.TurnEnds.{at_known, below_front, open_end, searches_plainly, left_exploring, left_plainly, explored_word, explored_nothing, turned_after}
use Rattle.rp_search.proofs.Spending.{each_ok, gave_sinks, noted_less, remembered_high, row_fewer}
use Rattle.rp_search.proofs.search.Search.explore.Goals as goal

pub returns-in-Further-clause-took : goal.returns-in-Further-clause-took
unfolding start_of_search labels_of_search words_from left_by ChoicesStand LabelsStand LabelsBelow whole whole_from start_of
returns-in-Further-clause-took g c =
    let asked : Asked = g.T.Tests.asked (g.T.Tests.subject c.args.tests.now) in
    let choices = c.args.self.now.choices in
    let read : SeenAs c.args.outlook c.take_up.new.self c.known.result c.end.result Further = rw c.in-Further.is at c.in_ok-take_up.ensures in
    let seen = at_known (λ n e. SeenAs c.args.outlook c.take_up.new.self n e Further) _ _ _ _ c.known.ensures c.end.ensures read in
    let test = asked.outcome (start_of choices) in
    let fits = c.requires.can_turn.running.searches.fits in
    let is_open = c.requires.can_turn.running.searches.is_open in
    record {
      turned = omega (arith, left_exploring choices c.args.outlook asked.known asked.end test is_open, left_exploring choices c.take_up.new.self asked.known asked.end test is_open, seen.less asked.known asked.end (now_later asked.known asked.end));
      spent = λ always none. absurd (none (start_of c.args.self.now.choices) (entered c.args.self.now.choices) (omega (arith, fits.stands.known, c.requires.can_turn.covers.known)) is_open);
      lasts = λ always all. all;
      held = λ none. absurd cc;
    }

pub returns-in-Word-clause-took : goal.returns-in-Word-clause-took
unfolding start_of_search labels_of_search words_from left_by ChoicesStand LabelsStand LabelsBelow whole whole_from start_of
returns-in-Word-clause-took g c =
    let asked : Asked = g.T.Tests.asked (g.T.Tests.subject c.args.tests.now) in
    let choices = c.args.self.now.choices in
    let read : SeenAs c.args.outlook c.take_up.new.self c.known.result c.end.result Word = rw c.in-Word.is at c.in_ok-take_up.ensures in
    let seen = at_known (λ n e. SeenAs c.args.outlook c.take_up.new.self n e Word) _ _ _ _ c.known.ensures c.end.ensures read in
    let fits = c.requires.can_turn.running.searches.fits in
    let is_open = c.requires.can_turn.running.searches.is_open in
    let test = asked.outcome (start_of choices) in
    record {
      turned = (
        explored_word choices c.args.outlook _ _ _ fits.stands fits.labels is_open seen.1,
        open_end asked.end (λ h. g.met.T.Tests.decided c.args.tests.now (start_of choices) (entered choices) h is_open),
        omega (arith, left_exploring choices c.args.outlook asked.known asked.end test is_open, left_exploring choices c.take_up.new.self asked.known asked.end test is_open, seen.0.turns asked.known asked.end),
      );
      spent = λ always none. absurd (none (start_of c.args.self.now.choices) (entered c.args.self.now.choices) (omega (arith, fits.stands.known, c.requires.can_turn.covers.known)) is_open);
      lasts = λ always all. all;
      held = λ none. absurd cc;
    }

pub note_failures-requires : goal.note_failures-requires
unfolding start_of_search ChoicesStand LabelsStand MemoStands
note_failures-requires g c =
    let asked : Asked = g.T.Tests.asked (g.T.Tests.subject c.args.tests.now) in
    let choices = c.args.self.now.choices in
    let new = c.give_up.new.self in
    let read : SeenAs c.args.outlook c.take_up.new.self c.known.result c.end.result Nothing = rw c.in-Nothing.is at c.in_ok-take_up.ensures in
    let fits = c.requires.can_turn.running.searches.fits in
    let gave = c.give_up.ensures in
    subst (λ s. RemembersUpTo 18446744073709551615 c.args.self.now.memo new (g.T.Tests.asked s)) (sym c.cut_back.ensures.subject)
    (up_to_any 18446744073709551615 c.args.self.now.memo new asked
    (nothing_remembers choices new asked gave.whole c.args.self.now.memo (λ h lt. omega (arith, lt, gave.height))
    (explored_passes choices new c.args.outlook asked 0 fits.stands fits.labels read.1 (record { cut = gave.labels; cut_off = gave.cut_off; words = gave.remaining; turns = gave.left; fall = gave.height; over = gave.rest }))
    c.requires.can_turn.running.memo))

pub take_up-requires-in-Nothing-clause-can_turn : goal.take_up-requires-in-Nothing-clause-can_turn
unfolding start_of_search labels_of_search words_from left_by ChoicesStand LabelsStand LabelsBelow MarksStand MemoStands whole whole_from start_of
take_up-requires-in-Nothing-clause-can_turn g c =
    let asked : Asked = g.T.Tests.asked (g.T.Tests.subject c.args.tests.now) in
    let old = c.args.self.now.choices in
    let new = c.give_up.new.self in
    let read : SeenAs c.args.outlook c.take_up.new.self c.known.result c.end.result Nothing = rw c.in-Nothing.is at c.in_ok-take_up.ensures in
    let running = c.requires.can_turn.running in
    let fits = running.searches.fits in
    let gave = c.give_up.ensures in
    let marks = c.args.self.now.memo.marks in
    let same = ap g.T.Tests.asked c.cut_back.ensures.subject in
    let goes : Goes old new asked.known asked.end (asked.outcome (start_of old)) =
    explored_nothing old new c.args.outlook _ _ _ fits.stands fits.labels read.1 gave.whole (record { cut = gave.labels; cut_off = gave.cut_off; words = gave.remaining; turns = gave.left; fall = gave.height; over = gave.rest }) in
    let after : Search = record { choices = new; outlook = c.args.self.now.outlook; memo = c.note_failures.new.self; taken = c.args.self.now.taken; turns = c.args.self.now.turns } in
    subst (λ a. CanTurn after a (g.T.Tests.entered c.cut_back.new.tests)) (sym same)
    (record {
      covers = covers_same _ after asked (same_search _ after gave.whole) c.requires.can_turn.covers;
      running = record {
        searches = searches_plainly after asked (start_of old) gave.whole.start c.requires.none goes.stands goes.admitted (below_front asked.variables (entered new) (entered old) gave.labels fits.below);
        memo = subst (Remembers c.note_failures.new.self new) same c.note_failures.ensures.remembers;
        marks = noted_less old new asked _ marks marks _ same refl
            (gave_sinks old new asked.known asked.end gave.keeps gave.under gave.left (row_fewer old asked.known asked.end fits.labels.row.divides))
            (remembered_high (height old) (Above old) c.args.self.now.memo old asked running.memo) c.note_failures.ensures.less running.marks;
        entered = c.cut_back.ensures.entered;
      };
    })

pub returns-in-Nothing-clause-took : goal.returns-in-Nothing-clause-took
unfolding start_of_search labels_of_search words_from left_by ChoicesStand LabelsStand whole whole_from start_of
returns-in-Nothing-clause-took g c =
    let asked : Asked = g.T.Tests.asked (g.T.Tests.subject c.args.tests.now) in
    let old = c.args.self.now.choices in
    let new = c.give_up.new.self in
    let gave = c.give_up.ensures in
    let fits = c.requires.can_turn.running.searches.fits in
    let is_open = c.requires.can_turn.running.searches.is_open in
    let taken = c.take_up-in-Nothing.new.self in
    let known = c.requires.can_turn.covers.known in
    let after : Search = record { choices = new; outlook = c.args.self.now.outlook; memo = c.note_failures.new.self; taken = c.args.self.now.taken; turns = c.args.self.now.turns } in
    let low : start_of new < most_u64 = omega (arith, gave.whole.start, known, g.met.T.Tests.few c.args.tests.now) in
    let same : found_by after asked ≡ found_by c.args.self.now asked = ap (λ i. found (asked.outcome i) (whole new asked.known asked.end)) gave.whole.start ∙ ap (found (asked.outcome (start_of old))) (gave.whole.words asked.known asked.end) in
    let fewer : left_by after asked ≤ left_by (exploring c.args.self.now c.args.outlook) asked =
    omega (arith, left_plainly new c.args.self.now.outlook asked.known asked.end (asked.outcome (start_of new)) c.requires.none, gave.left asked.known asked.end, left_exploring old c.args.outlook asked.known asked.end (asked.outcome (start_of old)) is_open) in
    each_ok _ _ c.take_up-in-Nothing.result
    (λ o t. record {
      turned = turned_after o c.args.self.now after taken asked _ _ same fewer t.turned;
      spent = λ always none. absurd (none (start_of old) (entered old) (omega (arith, fits.stands.known, known)) is_open);
      lasts = λ always all. t.lasts always (c.note_failures.ensures.lasts low (inr (omega arith)) all);
      held = t.held;
    })
    (subst (λ s. IfOk c.take_up-in-Nothing.result (TookTurn (added_by c.args.remembers) (g.T.Tests.always s) (g.T.Tests.always s) after taken (g.T.Tests.asked s))) c.cut_back.ensures.subject c.take_up-in-Nothing.ensures.took)

pub take_up-requires : goal.take_up-requires
take_up-requires g c = omega (arith, c.known.ensures, g.met.T.Tests.few c.args.tests.now)

pub returns-in_err-take_up-clause-same : goal.returns-in_err-take_up-clause-same
returns-in_err-take_up-clause-same g c = same_search c.args.self.now _ (same_itself c.args.self.now.choices)

pub returns-in_err-take_up-clause-subject : goal.returns-in_err-take_up-clause-subject
returns-in_err-take_up-clause-subject g c = refl

pub returns-in_err-take_up-clause-entries : goal.returns-in_err-take_up-clause-entries
returns-in_err-take_up-clause-entries g c = (omega arith, omega arith)

pub returns-in_err-take_up-clause-running : goal.returns-in_err-take_up-clause-running
returns-in_err-take_up-clause-running g c = IfOk-from_err c.from_residual.result _ c.from_residual.ensures.0

pub returns-in_err-take_up-clause-took : goal.returns-in_err-take_up-clause-took
returns-in_err-take_up-clause-took g c = IfOk-from_err c.from_residual.result _ c.from_residual.ensures.0

pub take_up-requires-in-Nothing-clause-none : goal.take_up-requires-in-Nothing-clause-none
take_up-requires-in-Nothing-clause-none g c = c.requires.none

pub returns-in-Further-clause-same : goal.returns-in-Further-clause-same
returns-in-Further-clause-same g c = same_search c.args.self.now _ (same_itself c.args.self.now.choices)

pub returns-in-Further-clause-subject : goal.returns-in-Further-clause-subject
returns-in-Further-clause-subject g c = refl

pub returns-in-Further-clause-entries : goal.returns-in-Further-clause-entries
returns-in-Further-clause-entries g c = (omega arith, omega arith)

pub returns-in-Word-clause-same : goal.returns-in-Word-clause-same
returns-in-Word-clause-same g c = same_search c.args.self.now _ (same_itself c.args.self.now.choices)

pub returns-in-Word-clause-subject : goal.returns-in-Word-clause-subject
returns-in-Word-clause-subject g c = refl

pub returns-in-Word-clause-entries : goal.returns-in-Word-clause-entries
returns-in-Word-clause-entries g c = (omega arith, omega arith)

pub returns-in-Nothing-clause-same : goal.returns-in-Nothing-clause-same
returns-in-Nothing-clause-same g c =
    same_then c.args.self.now (record c.args.self.now { choices = c.give_up.new.self; memo = c.note_failures.new.self }) c.take_up-in-Nothing.new.self
    (same_search c.args.self.now _ c.give_up.ensures.whole) c.take_up-in-Nothing.ensures.same

pub returns-in-Nothing-clause-subject : goal.returns-in-Nothing-clause-subject
returns-in-Nothing-clause-subject g c = c.take_up-in-Nothing.ensures.subject ∙ c.cut_back.ensures.subject

pub returns-in-Nothing-clause-entries : goal.returns-in-Nothing-clause-entries
returns-in-Nothing-clause-entries g c = (omega (arith, c.take_up-in-Nothing.ensures.entries.0, c.cut_back.ensures.entries), omega (arith, c.take_up-in-Nothing.ensures.entries.1, c.cut_back.ensures.entries))

pub returns-in-Nothing-clause-running : goal.returns-in-Nothing-clause-running
returns-in-Nothing-clause-running g c =
    subst (λ s. OnOk c.take_up-in-Nothing.result (IsRunning c.take_up-in-Nothing.new.self (g.T.Tests.asked s) (g.T.Tests.entered c.take_up-in-Nothing.new.tests)))
    c.cut_back.ensures.subject c.take_up-in-Nothing.ensures.running
