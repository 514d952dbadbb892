use Rattle.std.proofs.Common.{◌<◌, ap, arith, inr, refl, subst, sym}
use Rattle.std.proofs.lemmas.Result.{IfOk-from_err}
use Rattle.rp_words.specs.Numbers.{most_u64}
use Rattle.rp_pattern.specs.declared.choices.Taken.TheVariants.{Row as RowTaken, Split as SplitTaken, Full as FullTaken, Open as OpenTaken, Nothing as NothingTaken}
use Rattle.rp_pattern.specs.Choices.{start_of, Spends, TakenAs}
use Rattle.rp_search.specs.Asked.{Asked}
use Rattle.rp_search.specs.Search.{start_of_search, labels_of_search}
use Rattle.rp_search.specs.Fits.{ChoicesStand, LabelsStand, MarksStand, MemoStands}
use Rattle.rp_search.specs.Memo.{Remembers, RemembersUpTo}
use Rattle.rp_search.proofs.RunSoFar.{covers_same, same_then}
use Rattle.rp_search.proofs.Marks.{sets, up_to_any}
use Rattle.rp_search.proofs.TurnEnds.{admitted_plainly, same_search}
use Rattle.rp_search.proofs.TakingUp.{answer_running, answer_took, cuts_back, fewer_at_row, high, less_on, maps_new, remembers_on, splits_fewer, splits_within, taken_as}
use Rattle.rp_search.proofs.Spending.{set_noted, spent_after, spent_more, split_spends, taken_sinks}
use Rattle.rp_search.proofs.search.Search.take_up_at.Goals as goal

pub map_row-requires-clause-maps : goal.map_row-requires-clause-maps
map_row-requires-clause-maps g c =
    let asked : Asked = g.T.Tests.asked (g.T.Tests.subject c.args.tests.now) in
    let took = c.in_ok-take_up.ensures in
    maps_new c.args.self.now c.take_up.new.self asked _ c.requires.none c.requires.can_turn.running took.whole took.keeps took.under
    (taken_as _ _ _ _ _ _ _ RowTaken c.in-Row.is c.known.ensures c.end.ensures took.taken)

pub map_row-requires-clause-memo : goal.map_row-requires-clause-memo
unfolding MemoStands
map_row-requires-clause-memo g c =
    let asked : Asked = g.T.Tests.asked (g.T.Tests.subject c.args.tests.now) in
    let took = c.in_ok-take_up.ensures in
    let taken : TakenAs c.args.self.now.choices c.take_up.new.self asked.known asked.end RowTaken = taken_as _ _ _ _ _ _ _ RowTaken c.in-Row.is c.known.ensures c.end.ensures took.taken in
    remembers_on c.args.self.now c.take_up.new.self asked _ c.requires.none c.requires.can_turn.running took.whole took.keeps took.under taken.keeps

pub map_row-requires-clause-marks : goal.map_row-requires-clause-marks
unfolding MarksStand
map_row-requires-clause-marks g c =
    let asked : Asked = g.T.Tests.asked (g.T.Tests.subject c.args.tests.now) in
    let took = c.in_ok-take_up.ensures in
    less_on c.args.self.now c.take_up.new.self asked _ c.requires.none c.requires.can_turn.running took.whole took.keeps took.under RowTaken
    (taken_as _ _ _ _ _ _ _ RowTaken c.in-Row.is c.known.ensures c.end.ensures took.taken)

pub returns-in_ok-map_row-in-Row-clause-took : goal.returns-in_ok-map_row-in-Row-clause-took
returns-in_ok-map_row-in-Row-clause-took g c =
    let asked : Asked = g.T.Tests.asked (g.T.Tests.subject c.args.tests.now) in
    let old = c.args.self.now in
    let mid = c.take_up.new.self in
    let new = c.map_row.new.self in
    let took = c.in_ok-take_up.ensures in
    let mapped = c.in_ok-map_row-in-Row.ensures in
    let taken : TakenAs old.choices mid asked.known asked.end RowTaken = taken_as _ _ _ _ _ _ _ RowTaken c.in-Row.is c.known.ensures c.end.ensures took.taken in
    let read : Spends old.choices mid RowTaken = rw c.in-Row.is at took.costs in
    record {
      turned = omega (arith, mapped.left, fewer_at_row old mid asked _ c.requires.none c.requires.can_turn.running took.whole took.keeps took.under taken);
      spent = λ anyway none.
          spent_more 1 0 _ old.choices new.choices old.memo new.memo asked (λ numbered. omega arith)
          (spent_after 1 0 old.choices mid new.choices old.memo new.memo asked took.keeps took.whole.start read (mapped.spent none));
      lasts = λ premise. mapped.lasts premise.0;
      held = λ none. absurd cc;
    }

pub note_failures-requires : goal.note_failures-requires
unfolding ChoicesStand LabelsStand MemoStands
note_failures-requires g c =
    let asked : Asked = g.T.Tests.asked (g.T.Tests.subject c.args.tests.now) in
    let old = c.args.self.now.choices in
    let new = c.take_up.new.self in
    let took = c.in_ok-take_up.ensures in
    let running = c.requires.can_turn.running in
    let fits = running.searches.fits in
    let can_mark = c.requires.can_mark in
    let admitted = admitted_plainly old c.args.self.now.outlook _ _ _ c.requires.none fits.labels in
    let taken : TakenAs old new asked.known asked.end SplitTaken = taken_as _ _ _ _ _ _ _ SplitTaken c.in-Split.is c.known.ensures c.end.ensures took.taken in
    subst (λ s. RemembersUpTo 18446744073709551615 c.set.new.self new (g.T.Tests.asked s)) (sym c.cut_back.ensures.subject)
    (up_to_any 18446744073709551615 c.set.new.self new asked
    (sets old new asked took.whole taken fits.stands admitted c.args.mark c.args.self.now.memo c.set.new.self c.set.result can_mark.marked can_mark.named c.set.ensures.set c.set.ensures.refused c.set.ensures.failed running.memo))

pub returns-in-Split-clause-running : goal.returns-in-Split-clause-running
unfolding start_of_search labels_of_search MarksStand MemoStands
returns-in-Split-clause-running g c =
    let asked : Asked = g.T.Tests.asked (g.T.Tests.subject c.args.tests.now) in
    let old = c.args.self.now in
    let new = c.take_up.new.self in
    let took = c.in_ok-take_up.ensures in
    let running = c.requires.can_turn.running in
    let taken : TakenAs old.choices new asked.known asked.end SplitTaken = taken_as _ _ _ _ _ _ _ SplitTaken c.in-Split.is c.known.ensures c.end.ensures took.taken in
    record {
      searches = splits_within old new asked _ c.requires.none running took.whole took.keeps took.under c.note_failures.new.self taken;
      memo = subst (Remembers c.note_failures.new.self new) (ap g.T.Tests.asked c.cut_back.ensures.subject) c.note_failures.ensures.remembers;
      marks = set_noted old.choices new asked _ c.args.mark old.memo.marks c.set.new.self.marks _ c.set.result c.set.ensures.set c.set.ensures.refused c.requires.can_mark.marked taken
          (taken_sinks old.choices new asked.known asked.end SplitTaken took.keeps took.under taken) (high old new asked _ c.requires.none running took.whole took.keeps took.under) running.marks
          (ap g.T.Tests.asked c.cut_back.ensures.subject) c.note_failures.ensures.less;
      entered = c.cut_back.ensures.entered;
    }

pub returns-in-Split-clause-took : goal.returns-in-Split-clause-took
unfolding start_of_search ChoicesStand MarksStand MemoStands
returns-in-Split-clause-took g c =
    let asked : Asked = g.T.Tests.asked (g.T.Tests.subject c.args.tests.now) in
    let old = c.args.self.now in
    let new = c.take_up.new.self in
    let took = c.in_ok-take_up.ensures in
    let running = c.requires.can_turn.running in
    let can_mark = c.requires.can_mark in
    let taken : TakenAs old.choices new asked.known asked.end SplitTaken = taken_as _ _ _ _ _ _ _ SplitTaken c.in-Split.is c.known.ensures c.end.ensures took.taken in
    let read : Spends old.choices new SplitTaken = rw c.in-Split.is at took.costs in
    let low : start_of new < most_u64 = omega (arith, took.whole.start, c.requires.can_turn.covers.known, g.met.T.Tests.few c.args.tests.now) in
    record {
      turned = splits_fewer old new asked _ c.requires.none running took.whole took.keeps took.under c.note_failures.new.self taken;
      spent = λ anyway none.
          split_spends old.choices new old.memo c.set.new.self c.note_failures.new.self asked c.args.mark can_mark.marked can_mark.fresh (high old new asked _ c.requires.none running took.whole took.keeps took.under) running.marks
          running.searches.fits.stands.known took.keeps took.whole.start read c.set.ensures.keeps c.set.ensures.failed c.note_failures.ensures.notes;
      lasts = λ premise all. c.note_failures.ensures.lasts low (inr (omega arith)) (c.set.ensures.lasts premise.1 all);
      held = λ none. absurd cc;
    }

pub returns-in-Full-clause-running : goal.returns-in-Full-clause-running
returns-in-Full-clause-running g c =
    let took = c.in_ok-take_up.ensures in
    answer_running c.args.self.now c.take_up.new.self _ _ c.requires.none c.requires.can_turn.running took.whole took.keeps took.under _ FullTaken tt
    (taken_as _ _ _ _ _ _ _ FullTaken c.in-Full.is c.known.ensures c.end.ensures took.taken) c.cut_back-in-Full.ensures.entered

pub returns-in-Full-clause-took : goal.returns-in-Full-clause-took
returns-in-Full-clause-took g c =
    let took = c.in_ok-take_up.ensures in
    answer_took c.args.self.now c.take_up.new.self _ _ c.requires.none c.requires.can_turn.running took.whole took.keeps took.under _ _ _ FullTaken tt
    (taken_as _ _ _ _ _ _ _ FullTaken c.in-Full.is c.known.ensures c.end.ensures took.taken) (rw c.in-Full.is at took.costs)

pub returns-in-Open-clause-running : goal.returns-in-Open-clause-running
returns-in-Open-clause-running g c =
    let took = c.in_ok-take_up.ensures in
    answer_running c.args.self.now c.take_up.new.self _ _ c.requires.none c.requires.can_turn.running took.whole took.keeps took.under _ OpenTaken tt
    (taken_as _ _ _ _ _ _ _ OpenTaken c.in-Open.is c.known.ensures c.end.ensures took.taken) c.cut_back-in-Open.ensures.entered

pub returns-in-Open-clause-took : goal.returns-in-Open-clause-took
returns-in-Open-clause-took g c =
    let took = c.in_ok-take_up.ensures in
    answer_took c.args.self.now c.take_up.new.self _ _ c.requires.none c.requires.can_turn.running took.whole took.keeps took.under _ _ _ OpenTaken tt
    (taken_as _ _ _ _ _ _ _ OpenTaken c.in-Open.is c.known.ensures c.end.ensures took.taken) (rw c.in-Open.is at took.costs)

pub returns-in-Nothing-clause-running : goal.returns-in-Nothing-clause-running
returns-in-Nothing-clause-running g c =
    let took = c.in_ok-take_up.ensures in
    answer_running c.args.self.now c.take_up.new.self _ _ c.requires.none c.requires.can_turn.running took.whole took.keeps took.under _ NothingTaken tt
    (taken_as _ _ _ _ _ _ _ NothingTaken c.in-Nothing.is c.known.ensures c.end.ensures took.taken) c.cut_back-in-Nothing.ensures.entered

pub returns-in-Nothing-clause-took : goal.returns-in-Nothing-clause-took
returns-in-Nothing-clause-took g c =
    let took = c.in_ok-take_up.ensures in
    answer_took c.args.self.now c.take_up.new.self _ _ c.requires.none c.requires.can_turn.running took.whole took.keeps took.under _ _ _ NothingTaken tt
    (taken_as _ _ _ _ _ _ _ NothingTaken c.in-Nothing.is c.known.ensures c.end.ensures took.taken) (rw c.in-Nothing.is at took.costs)

pub take_up-requires : goal.take_up-requires
take_up-requires g c = omega (arith, c.known.ensures, g.met.T.Tests.few c.args.tests.now)

pub map_row-requires-clause-covers : goal.map_row-requires-clause-covers
map_row-requires-clause-covers g c = covers_same c.args.self.now (record c.args.self.now { choices = c.take_up.new.self }) _ (same_search c.args.self.now _ c.take_up.ensures.whole) c.requires.can_turn.covers

pub map_row-requires-clause-none : goal.map_row-requires-clause-none
map_row-requires-clause-none g c = c.requires.none

pub cut_back-requires : goal.cut_back-requires
cut_back-requires g c =
    let asked : Asked = g.T.Tests.asked (g.T.Tests.subject c.args.tests.now) in
    let took = c.in_ok-take_up.ensures in
    let taken : TakenAs c.args.self.now.choices c.take_up.new.self asked.known asked.end SplitTaken = taken_as _ _ _ _ _ _ _ SplitTaken c.in-Split.is c.known.ensures c.end.ensures took.taken in
    cuts_back c.args.self.now c.take_up.new.self asked _ c.requires.none c.requires.can_turn.running took.whole took.keeps took.under taken.cut

pub returns-in-Split-clause-same : goal.returns-in-Split-clause-same
returns-in-Split-clause-same g c = same_search c.args.self.now _ c.take_up.ensures.whole

pub returns-in-Split-clause-subject : goal.returns-in-Split-clause-subject
returns-in-Split-clause-subject g c = c.cut_back.ensures.subject

pub returns-in-Split-clause-entries : goal.returns-in-Split-clause-entries
returns-in-Split-clause-entries g c = (omega (arith, c.cut_back.ensures.entries), omega (arith, c.cut_back.ensures.entries))

pub returns-in-Split-clause-most : goal.returns-in-Split-clause-most
returns-in-Split-clause-most g c = c.take_up.ensures.most

pub cut_back-requires-in-Full : goal.cut_back-requires-in-Full
cut_back-requires-in-Full g c =
    let asked : Asked = g.T.Tests.asked (g.T.Tests.subject c.args.tests.now) in
    let took = c.in_ok-take_up.ensures in
    let taken : TakenAs c.args.self.now.choices c.take_up.new.self asked.known asked.end FullTaken = taken_as _ _ _ _ _ _ _ FullTaken c.in-Full.is c.known.ensures c.end.ensures took.taken in
    cuts_back c.args.self.now c.take_up.new.self asked _ c.requires.none c.requires.can_turn.running took.whole took.keeps took.under taken.cut

pub returns-in-Full-clause-same : goal.returns-in-Full-clause-same
returns-in-Full-clause-same g c = same_search c.args.self.now _ c.take_up.ensures.whole

pub returns-in-Full-clause-subject : goal.returns-in-Full-clause-subject
returns-in-Full-clause-subject g c = c.cut_back-in-Full.ensures.subject

pub returns-in-Full-clause-entries : goal.returns-in-Full-clause-entries
returns-in-Full-clause-entries g c = (omega (arith, c.cut_back-in-Full.ensures.entries), omega (arith, c.cut_back-in-Full.ensures.entries))

pub returns-in-Full-clause-most : goal.returns-in-Full-clause-most
returns-in-Full-clause-most g c = c.take_up.ensures.most

pub cut_back-requires-in-Open : goal.cut_back-requires-in-Open
cut_back-requires-in-Open g c =
    let asked : Asked = g.T.Tests.asked (g.T.Tests.subject c.args.tests.now) in
    let took = c.in_ok-take_up.ensures in
    let taken : TakenAs c.args.self.now.choices c.take_up.new.self asked.known asked.end OpenTaken = taken_as _ _ _ _ _ _ _ OpenTaken c.in-Open.is c.known.ensures c.end.ensures took.taken in
    cuts_back c.args.self.now c.take_up.new.self asked _ c.requires.none c.requires.can_turn.running took.whole took.keeps took.under taken.cut

pub returns-in-Open-clause-same : goal.returns-in-Open-clause-same
returns-in-Open-clause-same g c = same_search c.args.self.now _ c.take_up.ensures.whole

pub returns-in-Open-clause-subject : goal.returns-in-Open-clause-subject
returns-in-Open-clause-subject g c = c.cut_back-in-Open.ensures.subject

pub returns-in-Open-clause-entries : goal.returns-in-Open-clause-entries
returns-in-Open-clause-entries g c = (omega (arith, c.cut_back-in-Open.ensures.entries), omega (arith, c.cut_back-in-Open.ensures.entries))

pub returns-in-Open-clause-most : goal.returns-in-Open-clause-most
returns-in-Open-clause-most g c = c.take_up.ensures.most

pub cut_back-requires-in-Nothing : goal.cut_back-requires-in-Nothing
cut_back-requires-in-Nothing g c =
    let asked : Asked = g.T.Tests.asked (g.T.Tests.subject c.args.tests.now) in
    let took = c.in_ok-take_up.ensures in
    let taken : TakenAs c.args.self.now.choices c.take_up.new.self asked.known asked.end NothingTaken = taken_as _ _ _ _ _ _ _ NothingTaken c.in-Nothing.is c.known.ensures c.end.ensures took.taken in
    cuts_back c.args.self.now c.take_up.new.self asked _ c.requires.none c.requires.can_turn.running took.whole took.keeps took.under taken.cut

pub returns-in-Nothing-clause-same : goal.returns-in-Nothing-clause-same
returns-in-Nothing-clause-same g c = same_search c.args.self.now _ c.take_up.ensures.whole

pub returns-in-Nothing-clause-subject : goal.returns-in-Nothing-clause-subject
returns-in-Nothing-clause-subject g c = c.cut_back-in-Nothing.ensures.subject

pub returns-in-Nothing-clause-entries : goal.returns-in-Nothing-clause-entries
returns-in-Nothing-clause-entries g c = (omega (arith, c.cut_back-in-Nothing.ensures.entries), omega (arith, c.cut_back-in-Nothing.ensures.entries))

pub returns-in-Nothing-clause-most : goal.returns-in-Nothing-clause-most
returns-in-Nothing-clause-most g c = c.take_up.ensures.most

pub returns-in_err-take_up-clause-same : goal.returns-in_err-take_up-clause-same
returns-in_err-take_up-clause-same g c = same_search c.args.self.now _ c.take_up.ensures.whole

pub returns-in_err-take_up-clause-subject : goal.returns-in_err-take_up-clause-subject
returns-in_err-take_up-clause-subject g c = refl

pub returns-in_err-take_up-clause-entries : goal.returns-in_err-take_up-clause-entries
returns-in_err-take_up-clause-entries g c = (omega arith, omega arith)

pub returns-in_err-take_up-clause-most : goal.returns-in_err-take_up-clause-most
returns-in_err-take_up-clause-most g c = c.take_up.ensures.most

pub returns-in_err-take_up-clause-running : goal.returns-in_err-take_up-clause-running
returns-in_err-take_up-clause-running g c = IfOk-from_err c.from_residual.result _ c.from_residual.ensures.0

pub returns-in_err-take_up-clause-took : goal.returns-in_err-take_up-clause-took
returns-in_err-take_up-clause-took g c = IfOk-from_err c.from_residual.result _ c.from_residual.ensures.0

pub returns-in_err-map_row-in-Row-clause-same : goal.returns-in_err-map_row-in-Row-clause-same
returns-in_err-map_row-in-Row-clause-same g c = same_then c.args.self.now (record c.args.self.now { choices = c.take_up.new.self }) c.map_row.new.self (same_search c.args.self.now _ c.take_up.ensures.whole) c.map_row.ensures.same

pub returns-in_err-map_row-in-Row-clause-subject : goal.returns-in_err-map_row-in-Row-clause-subject
returns-in_err-map_row-in-Row-clause-subject g c = c.map_row.ensures.subject

pub returns-in_err-map_row-in-Row-clause-entries : goal.returns-in_err-map_row-in-Row-clause-entries
returns-in_err-map_row-in-Row-clause-entries g c = c.map_row.ensures.entries

pub returns-in_err-map_row-in-Row-clause-most : goal.returns-in_err-map_row-in-Row-clause-most
returns-in_err-map_row-in-Row-clause-most g c = c.take_up.ensures.most

pub returns-in_err-map_row-in-Row-clause-running : goal.returns-in_err-map_row-in-Row-clause-running
returns-in_err-map_row-in-Row-clause-running g c = IfOk-from_err c.from_residual-in_err-map_row-in-Row.result _ c.from_residual-in_err-map_row-in-Row.ensures.0

pub returns-in_err-map_row-in-Row-clause-took : goal.returns-in_err-map_row-in-Row-clause-took
returns-in_err-map_row-in-Row-clause-took g c = IfOk-from_err c.from_residual-in_err-map_row-in-Row.result _ c.from_residual-in_err-map_row-in-Row.ensures.0

pub returns-in_ok-map_row-in-Row-clause-same : goal.returns-in_ok-map_row-in-Row-clause-same
returns-in_ok-map_row-in-Row-clause-same g c = same_then c.args.self.now (record c.args.self.now { choices = c.take_up.new.self }) c.map_row.new.self (same_search c.args.self.now _ c.take_up.ensures.whole) c.map_row.ensures.same

pub returns-in_ok-map_row-in-Row-clause-subject : goal.returns-in_ok-map_row-in-Row-clause-subject
returns-in_ok-map_row-in-Row-clause-subject g c = c.map_row.ensures.subject

pub returns-in_ok-map_row-in-Row-clause-entries : goal.returns-in_ok-map_row-in-Row-clause-entries
returns-in_ok-map_row-in-Row-clause-entries g c = c.map_row.ensures.entries

pub returns-in_ok-map_row-in-Row-clause-most : goal.returns-in_ok-map_row-in-Row-clause-most
returns-in_ok-map_row-in-Row-clause-most g c = c.take_up.ensures.most

pub returns-in_ok-map_row-in-Row-clause-running : goal.returns-in_ok-map_row-in-Row-clause-running
returns-in_ok-map_row-in-Row-clause-running g c = c.in_ok-map_row-in-Row.ensures.running
