use Rattle.std.proofs.Common.{◌≡◌, ◌<◌, ◌∙◌, ap, arith, refl, subst, sym}
use Rattle.std.proofs.lemmas.Result.{IfOk-from_err}
use Rattle.rp_words.specs.Numbers.{most_u64}
use Rattle.rp_words.specs.declared.word.Seen.TheVariants.{Open as OpenTest}
use Rattle.rp_pattern.specs.Choices.{entered, height, kept, start_of}
use Rattle.rp_search.specs.Asked.{Asked}
use Rattle.rp_search.specs.Fits.{AreAdmitted, ChoicesStand, LabelsBelow, LabelsStand, MarksStand, MemoStands, test_from}
use Rattle.rp_search.specs.Search.{start_of_search, labels_of_search}
use Rattle.rp_search.specs.Memo.{Above, Remembers}
use Rattle.rp_search.proofs.Marks.{remembers_same, remembers_settled, of_searched}
use Rattle.rp_search.specs.Turned.{IsOpenAt, Settled}
use Rattle.rp_search.specs.Work.{TakeLess}
use Rattle.rp_search.proofs.TurnEnds.{fits_within, left_stays, left_where_settled, same_itself, same_search, searches_settled}
use Rattle.rp_search.proofs.Spending.{noted_less, notes_equal, notes_spends, notes_then, remembered_high, same_less, same_spends, settled_cost, settled_ever}
use Rattle.rp_search.proofs.search.Search.resume.Goals as goal

pub settle-requires-clause-pattern : goal.settle-requires-clause-pattern
settle-requires-clause-pattern g c = of_searched _ c.args.self.now c.requires.pattern

pub note_failures-requires : goal.note_failures-requires
unfolding MemoStands
note_failures-requires g c =
    let asked : Asked = g.T.Tests.asked (g.T.Tests.subject c.args.tests.now) in
    let old = c.args.self.now.choices in
    let settled = c.in_ok-settle.ensures in
    let spent : Remembers c.spend.new.self old asked = remembers_same c.args.self.now.memo c.spend.new.self old asked (c.spend.ensures.marks ∙ c.looks-until.ensures.marks) (c.spend.ensures.failed ∙ c.looks-until.ensures.failed) c.requires.fits.memo in
    remembers_settled c.spend.new.self old c.settle.new.choices asked _ _ c.settle.new.until (ap g.T.Tests.asked (sym settled.subject)) settled.same c.in-True.is settled.settled settled.until spent

pub returns-in-True-clause-running : goal.returns-in-True-clause-running
unfolding start_of_search labels_of_search MarksStand MemoStands
returns-in-True-clause-running g c =
    let asked : Asked = g.T.Tests.asked (g.T.Tests.subject c.args.tests.now) in
    let old = c.args.self.now.choices in
    let new = c.settle.new.choices in
    let settled = c.in_ok-settle.ensures in
    record {
      searches = searches_settled _ old asked asked _ c.take.ensures.after refl c.in-True.is settled.settled;
      memo = subst (Remembers c.note_failures.new.self new) (ap g.T.Tests.asked settled.subject) c.note_failures.ensures.remembers;
      marks = noted_less old new asked _ c.args.self.now.memo.marks c.spend.new.self.marks _ (ap g.T.Tests.asked settled.subject) (c.spend.ensures.marks ∙ c.looks-until.ensures.marks) settled.sinks
          (remembered_high (height old) (Above old) c.args.self.now.memo old asked c.requires.fits.memo) c.note_failures.ensures.less c.requires.fits.marks;
      entered = settled.entered;
    }

pub returns-in-True-clause-spent : goal.returns-in-True-clause-spent
returns-in-True-clause-spent g c = λ none.
    let asked : Asked = g.T.Tests.asked (g.T.Tests.subject c.args.tests.now) in
    let old = c.args.self.now.choices in
    let new = c.settle.new.choices in
    let settled = c.in_ok-settle.ensures in
    let memo = c.args.self.now.memo in
    notes_spends old new memo c.note_failures.new.self asked 0 0 settled.sinks.plan settled.same.start
    (notes_then (kept new) (start_of new) memo c.spend.new.self c.note_failures.new.self
    (notes_equal (kept new) (start_of new) memo c.spend.new.self (c.spend.ensures.marks ∙ c.looks-until.ensures.marks) (c.spend.ensures.failed ∙ c.looks-until.ensures.failed) (λ all. c.looks-until.ensures.keeps (c.spend.ensures.keeps all)))
    c.note_failures.ensures.notes)
    (λ numbered. omega (arith, settled_cost old new _ c.in-True.is settled.costs numbered))

pub returns-in_default-clause-same : goal.returns-in_default-clause-same
returns-in_default-clause-same g c = same_search c.args.self.now _ (same_itself c.args.self.now.choices)

pub returns-in_default-clause-running : goal.returns-in_default-clause-running
unfolding start_of_search labels_of_search MarksStand MemoStands
returns-in_default-clause-running g c =
    let asked : Asked = g.T.Tests.asked (g.T.Tests.subject c.args.tests.now) in
    let same = c.take.ensures.after ∙ sym c.in_default.is ∙ c.take.ensures.value in
    record {
      searches = fits_within c.args.self.now _ asked same refl c.requires.fits (subst (λ p. IsOpenAt p c.args.self.now.choices (test_from c.args.self.now.choices asked)) (sym c.take.ensures.after) tt);
      memo = c.requires.fits.memo;
      marks = c.requires.fits.marks;
      entered = c.requires.entered;
    }

pub returns-in_default-clause-left : goal.returns-in_default-clause-left
returns-in_default-clause-left g c = left_stays c.args.self.now _ _ (c.take.ensures.after ∙ sym c.in_default.is ∙ c.take.ensures.value) refl

pub returns-in_default-clause-spent : goal.returns-in_default-clause-spent
returns-in_default-clause-spent g c = λ none. same_spends c.args.self.now.choices c.args.self.now.choices c.args.self.now.memo _ 0 refl refl (omega arith)

pub returns-in_default-clause-lasts : goal.returns-in_default-clause-lasts
returns-in_default-clause-lasts g c = λ always all. all

pub settle-requires-clause-can_ask : goal.settle-requires-clause-can_ask
unfolding start_of_search labels_of_search ChoicesStand LabelsStand LabelsBelow
settle-requires-clause-can_ask g c =
    let asked : Asked = g.T.Tests.asked (g.T.Tests.subject c.args.tests.now) in
    let choices = c.args.self.now.choices in
    let explores = subst (λ p. AreAdmitted p choices asked.known asked.end (test_from choices asked)) (sym c.take.ensures.value ∙ c.in-Some.is) c.requires.fits.labels in
    record { known = c.requires.known; stands = c.requires.fits.stands; row = explores.row; below = c.requires.fits.below; labels = c.requires.entered }

pub returns-in_err-settle-clause-same : goal.returns-in_err-settle-clause-same
returns-in_err-settle-clause-same g c = same_search c.args.self.now _ c.settle.ensures.same

pub returns-in_err-settle-clause-subject : goal.returns-in_err-settle-clause-subject
returns-in_err-settle-clause-subject g c = c.settle.ensures.subject

pub returns-in_err-settle-clause-entries : goal.returns-in_err-settle-clause-entries
returns-in_err-settle-clause-entries g c = c.settle.ensures.entries

pub returns-in_err-settle-clause-running : goal.returns-in_err-settle-clause-running
returns-in_err-settle-clause-running g c = IfOk-from_err c.from_residual.result _ c.from_residual.ensures.0

pub returns-in_err-settle-clause-left : goal.returns-in_err-settle-clause-left
returns-in_err-settle-clause-left g c = IfOk-from_err c.from_residual.result _ c.from_residual.ensures.0

pub returns-in_err-settle-clause-spent : goal.returns-in_err-settle-clause-spent
returns-in_err-settle-clause-spent g c = IfOk-from_err c.from_residual.result _ c.from_residual.ensures.0

pub returns-in_err-settle-clause-lasts : goal.returns-in_err-settle-clause-lasts
returns-in_err-settle-clause-lasts g c = IfOk-from_err c.from_residual.result _ c.from_residual.ensures.0

pub returns-in-Open-clause-same : goal.returns-in-Open-clause-same
returns-in-Open-clause-same g c = same_search c.args.self.now _ c.settle.ensures.same

pub returns-in-Open-clause-subject : goal.returns-in-Open-clause-subject
returns-in-Open-clause-subject g c = c.settle.ensures.subject

pub returns-in-Open-clause-entries : goal.returns-in-Open-clause-entries
returns-in-Open-clause-entries g c = c.settle.ensures.entries

pub returns-in-True-clause-same : goal.returns-in-True-clause-same
returns-in-True-clause-same g c = same_search c.args.self.now _ c.settle.ensures.same

pub returns-in-True-clause-subject : goal.returns-in-True-clause-subject
returns-in-True-clause-subject g c = c.settle.ensures.subject

pub returns-in-True-clause-entries : goal.returns-in-True-clause-entries
returns-in-True-clause-entries g c = c.settle.ensures.entries

pub returns-in-Open-clause-running : goal.returns-in-Open-clause-running
unfolding start_of_search labels_of_search MarksStand MemoStands
returns-in-Open-clause-running g c =
    let asked : Asked = g.T.Tests.asked (g.T.Tests.subject c.args.tests.now) in
    let old = c.args.self.now.choices in
    let settled : Settled old c.settle.new.choices asked OpenTest = rw c.in-Open.is at c.in_ok-settle.ensures.settled in
    let looked = c.looks-until.ensures in
    record {
      searches = fits_within c.args.self.now _ asked (sym c.in-Some.is ∙ c.take.ensures.value) settled.0 c.requires.fits (subst (λ ch. test_from ch asked (entered ch) ≡ OpenTest) (sym settled.0) settled.1);
      memo = subst (λ ch. Remembers c.looks-until.new.self ch asked) (sym settled.0) (remembers_same c.args.self.now.memo c.looks-until.new.self old asked looked.marks looked.failed c.requires.fits.memo);
      marks = subst (λ ch. TakeLess ch asked c.looks-until.new.self.marks) (sym settled.0) (same_less old asked c.args.self.now.memo.marks c.looks-until.new.self.marks looked.marks c.requires.fits.marks);
      entered = c.in_ok-settle.ensures.entered;
    }

pub returns-in-Open-clause-left : goal.returns-in-Open-clause-left
returns-in-Open-clause-left g c =
    let asked : Asked = g.T.Tests.asked (g.T.Tests.subject c.args.tests.now) in
    let old = c.args.self.now.choices in
    let settled : Settled old c.settle.new.choices asked OpenTest = rw c.in-Open.is at c.in_ok-settle.ensures.settled in
    left_stays c.args.self.now _ asked (sym c.in-Some.is ∙ c.take.ensures.value) settled.0

pub returns-in-Open-clause-spent : goal.returns-in-Open-clause-spent
unfolding start_of_search ChoicesStand
returns-in-Open-clause-spent g c = λ none.
    let asked : Asked = g.T.Tests.asked (g.T.Tests.subject c.args.tests.now) in
    let old = c.args.self.now.choices in
    let settled : Settled old c.settle.new.choices asked OpenTest = rw c.in-Open.is at c.in_ok-settle.ensures.settled in
    absurd (none (start_of old) (entered old) (omega (arith, c.requires.fits.stands.known, c.requires.known)) settled.1)

pub returns-in-Open-clause-lasts : goal.returns-in-Open-clause-lasts
returns-in-Open-clause-lasts g c = λ always all. c.looks-until.ensures.lasts all

pub returns-in-True-clause-left : goal.returns-in-True-clause-left
returns-in-True-clause-left g c =
    let settled = c.in_ok-settle.ensures in
    left_where_settled c.args.self.now _ c.in-Some.outlook _ _ (sym c.take.ensures.value ∙ c.in-Some.is) c.take.ensures.after c.in-True.is settled.seen settled.settled

pub returns-in-True-clause-lasts : goal.returns-in-True-clause-lasts
unfolding start_of_search
returns-in-True-clause-lasts g c =
    let settled = c.in_ok-settle.ensures in
    let low : start_of c.settle.new.choices < most_u64 = omega (arith, settled.same.start, c.requires.known, g.met.T.Tests.few c.args.tests.now) in
    λ always all. c.note_failures.ensures.lasts low
    (settled_ever _ _ _ _ _ c.spend.ensures.marks c.in-True.is (c.looks-until.ensures.asks all) (settled.ever always))
    (c.spend.ensures.lasts (c.looks-until.ensures.lasts all))
