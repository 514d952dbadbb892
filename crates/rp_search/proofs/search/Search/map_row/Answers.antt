use Rattle.std.proofs.Common.{◌≡◌, ◌<◌, take, refl, ap, inr, subst, sym, arith, ◌∙◌}
use Rattle.std.proofs.lemmas.Result.{IfOk-from_err}
use Rattle.rp_words.specs.Numbers.{most_u64}
use Rattle.rp_words.specs.declared.word.Seen.TheVariants.{Open as OpenTest}
use Rattle.rp_pattern.specs.Choices.{start_of, entered, height, kept, whole, whole_from, AtRow}
use Rattle.rp_search.specs.Asked.{Asked, AreBelow}
use Rattle.rp_search.specs.Search.{start_of_search, labels_of_search, words_from}
use Rattle.rp_search.specs.Fits.{StandsBy, StandsAtRowBy, left_by, test_from, ChoicesStand, LabelsStand, LabelsBelow, MarksStand, MemoStands}
use Rattle.rp_search.specs.Memo.{Above, Remembers, RemembersUpTo, AreOfPattern}
use Rattle.rp_search.specs.Turned.{AreCutBack, CanAsk, Goes, Settled}
use Rattle.rp_search.proofs.ChoiceSteps.{goes_wordless, now_later}
use Rattle.rp_search.proofs.Marks.{nothing_remembers, of_pattern, remembers_same, remembers_settled, up_to_any, wordless_passes}
use Rattle.rp_search.proofs.TurnEnds.{below_added, below_cut, cut_added, explored_lowers, left_lowered, none_untested, same_itself}
use Rattle.rp_search.proofs.TurnEnds.{same_search, searches_exploring, searches_plainly, searches_settled, settled_lowers, some_label, untested_none, yes_tested}
use Rattle.rp_search.proofs.Spending.{gave_sinks, noted_less, notes_equal, notes_spends, notes_then, remembered_high, row_fewer, settled_cost, settled_ever, sinks_asked}
use Rattle.rp_search.proofs.search.Search.map_row.Goals as goal

pub returns-then-not-is_tested-clause-running : goal.returns-then-not-is_tested-clause-running
unfolding start_of_search labels_of_search words_from left_by ChoicesStand LabelsStand LabelsBelow MarksStand MemoStands whole whole_from start_of
returns-then-not-is_tested-clause-running g c =
    let asked : Asked = g.T.Tests.asked (g.T.Tests.subject c.args.tests.now) in
    let old = c.args.self.now.choices in
    let gave = c.give_up.ensures in
    let row = c.requires.maps.row in
    let none = untested_none old _ _ _ asked.variables c.requires.maps.stands row (λ n e. c.requires.covers.variables n e (start_of old))
    (none_untested asked.variables row.before row.last (entered old) c.is_tested.result row.labels (c.is_tested.ensures row.before row.last row.labels) c.if-not-is_tested.true) in
    let goes : Goes old c.give_up.new.self asked.known asked.end (asked.outcome (start_of old)) =
    goes_wordless old c.give_up.new.self _ _ _ c.requires.maps.stands row none gave.whole (record { cut = gave.labels; cut_off = gave.cut_off; words = gave.remaining; turns = gave.left; fall = gave.height; over = gave.rest }) in
    let new = c.give_up.new.self in
    let marks = c.args.self.now.memo.marks in
    record {
      searches = searches_plainly _ asked (start_of old) gave.whole.start c.requires.none goes.stands goes.admitted
          (below_cut asked.variables (entered c.give_up.new.self) (cut_added (λ ms. AreBelow asked.variables ms) (entered c.give_up.new.self) (entered old) c.requires.maps.below (gave.cut_off row.at_row)));
      memo = subst (Remembers c.note_failures.new.self new) (ap g.T.Tests.asked c.cut_back.ensures.subject) c.note_failures.ensures.remembers;
      marks = noted_less old new asked _ marks marks _ (ap g.T.Tests.asked c.cut_back.ensures.subject) refl
          (gave_sinks old new asked.known asked.end gave.keeps gave.under gave.left (row_fewer old asked.known asked.end c.requires.maps.row.divides))
          (remembered_high (height old) (Above old) c.args.self.now.memo old asked c.requires.memo) c.note_failures.ensures.less c.requires.marks;
      entered = c.cut_back.ensures.entered;
    }

pub cut_back-requires : goal.cut_back-requires
unfolding start_of_search labels_of_search
cut_back-requires g c =
    let old = c.args.self.now.choices in
    let gave = c.give_up.ensures in
    subst (λ s. AreCutBack (g.T.Tests.entered c.args.tests.now s) (entered c.give_up.new.self)) (sym gave.whole.start)
    (cut_added (g.T.Tests.entered c.args.tests.now (start_of old)) (entered c.give_up.new.self) (entered old) c.requires.maps.labels (gave.cut_off c.requires.maps.row.at_row))

pub enter_row-requires-clause-below : goal.enter_row-requires-clause-below
unfolding labels_of_search
enter_row-requires-clause-below g c =
    let asked : Asked = g.T.Tests.asked (g.T.Tests.subject c.args.tests.now) in
    let below = c.requires.maps.below in
    below_added asked.variables (entered c.args.self.now.choices) below
    (yes_tested _ c.is_tested.result (c.is_tested.ensures (take below.depth below.before) below.label below.added) c.if-not-is_tested.false)

pub settle-requires-clause-can_ask : goal.settle-requires-clause-can_ask
unfolding start_of_search labels_of_search
settle-requires-clause-can_ask g c =
    let asked : Asked = g.T.Tests.asked (g.T.Tests.subject c.args.tests.now) in
    let maps = c.requires.maps in
    let below = maps.below in
    subst (λ s. CanAsk c.args.self.now.choices (g.T.Tests.asked s) (g.T.Tests.entered c.enter_row.new.tests)) (sym c.in_ok-enter_row.ensures.subject)
    (record {
      known = c.requires.covers.known;
      stands = maps.stands;
      row = maps.row;
      below = below_added asked.variables (entered c.args.self.now.choices) below
          (yes_tested _ c.is_tested.result (c.is_tested.ensures (take below.depth below.before) below.label below.added) c.if-not-is_tested.false);
      labels = c.in_ok-enter_row.ensures.entered;
    })

pub returns-in_ok-after_row-in-Open-clause-running : goal.returns-in_ok-after_row-in-Open-clause-running
unfolding start_of_search labels_of_search MarksStand MemoStands
returns-in_ok-after_row-in-Open-clause-running g c =
    let asked : Asked = g.T.Tests.asked (g.T.Tests.subject c.args.tests.now) in
    let old = c.args.self.now.choices in
    let new = c.settle.new.choices in
    let below = c.requires.maps.below in
    let settled : Settled old new (g.T.Tests.asked (g.T.Tests.subject c.enter_row.new.tests)) OpenTest = rw c.in-Open.is at c.in_ok-settle.ensures.settled in
    let same : old ≡ new = sym settled.0 in
    let seen : test_from old asked (entered old) ≡ OpenTest = subst (λ s. test_from old (g.T.Tests.asked s) (entered old) ≡ OpenTest) c.in_ok-enter_row.ensures.subject settled.1 in
    let labels = below_added asked.variables (entered old) below (yes_tested _ c.is_tested.result (c.is_tested.ensures (take below.depth below.before) below.label below.added) c.if-not-is_tested.false) in
    let next = c.in_ok-after_row-in-Open.ensures in
    let entered_is = ap g.T.Tests.asked c.in_ok-enter_row.ensures.subject in
    record {
      searches = searches_exploring _ c.in_ok-after_row-in-Open.field-0 asked refl
          (subst (λ ch. StandsBy ch asked) same c.requires.maps.stands)
          (subst (λ ch. StandsAtRowBy ch asked) same c.requires.maps.row)
          (subst (λ ch. AreBelow asked.variables (entered ch)) same labels)
          next.words next.turns
          (subst (λ ch. test_from ch asked (entered ch) ≡ OpenTest) same seen);
      memo = subst (λ ch. Remembers c.looks-until.new.self ch asked) same
          (remembers_same c.args.self.now.memo c.looks-until.new.self old asked c.looks-until.ensures.marks c.looks-until.ensures.failed c.requires.memo);
      marks = noted_less old new asked asked c.args.self.now.memo.marks c.looks-until.new.self.marks c.looks-until.new.self.marks refl c.looks-until.ensures.marks
          (sinks_asked old new asked _ entered_is c.in_ok-settle.ensures.sinks)
          (remembered_high (height old) (Above old) c.args.self.now.memo old asked c.requires.memo) (λ h. h) c.requires.marks;
      entered = c.in_ok-settle.ensures.entered;
    }

pub settle-requires-clause-pattern : goal.settle-requires-clause-pattern
settle-requires-clause-pattern g c =
    let asked : Asked = g.T.Tests.asked (g.T.Tests.subject c.args.tests.now) in
    subst (λ s. AreOfPattern (g.T.Tests.asked s).pattern c.args.self.now.choices) (sym c.in_ok-enter_row.ensures.subject)
    (of_pattern asked.pattern c.args.self.now c.requires.covers.pattern)

pub note_failures-requires : goal.note_failures-requires
unfolding start_of_search labels_of_search words_from left_by ChoicesStand LabelsStand LabelsBelow MemoStands whole whole_from start_of
note_failures-requires g c =
    let asked : Asked = g.T.Tests.asked (g.T.Tests.subject c.args.tests.now) in
    let old = c.args.self.now.choices in
    let new = c.give_up.new.self in
    let gave = c.give_up.ensures in
    let row = c.requires.maps.row in
    let none = untested_none old _ _ _ asked.variables c.requires.maps.stands row (λ n e. c.requires.covers.variables n e (start_of old))
    (none_untested asked.variables row.before row.last (entered old) c.is_tested.result row.labels (c.is_tested.ensures row.before row.last row.labels) c.if-not-is_tested.true) in
    subst (λ s. RemembersUpTo 18446744073709551615 c.args.self.now.memo new (g.T.Tests.asked s)) (sym c.cut_back.ensures.subject)
    (up_to_any 18446744073709551615 c.args.self.now.memo new asked
    (nothing_remembers old new asked gave.whole c.args.self.now.memo (λ h lt. omega (arith, lt, gave.height))
    (wordless_passes old new asked 0 c.requires.maps.stands row (record { cut = gave.labels; cut_off = gave.cut_off; words = gave.remaining; turns = gave.left; fall = gave.height; over = gave.rest }) none)
    c.requires.memo))

pub note_failures-requires-in-True : goal.note_failures-requires-in-True
unfolding MemoStands
note_failures-requires-in-True g c =
    let old = c.args.self.now.choices in
    let settled = c.in_ok-settle.ensures in
    let asked : Asked = g.T.Tests.asked (g.T.Tests.subject c.enter_row.new.tests) in
    let before : Remembers c.args.self.now.memo old asked = subst (λ s. Remembers c.args.self.now.memo old (g.T.Tests.asked s)) (sym c.in_ok-enter_row.ensures.subject) c.requires.memo in
    let spent : Remembers c.spend.new.self old asked = remembers_same c.args.self.now.memo c.spend.new.self old asked (c.spend.ensures.marks ∙ c.looks-until.ensures.marks) (c.spend.ensures.failed ∙ c.looks-until.ensures.failed) before in
    remembers_settled c.spend.new.self old c.settle.new.choices asked _ _ c.settle.new.until (ap g.T.Tests.asked (sym settled.subject)) settled.same c.in-True.is settled.settled settled.until spent

pub returns-then-not-is_tested-clause-spent : goal.returns-then-not-is_tested-clause-spent
returns-then-not-is_tested-clause-spent g c = λ none.
    let asked : Asked = g.T.Tests.asked (g.T.Tests.subject c.args.tests.now) in
    let gave = c.give_up.ensures in
    notes_spends c.args.self.now.choices c.give_up.new.self c.args.self.now.memo c.note_failures.new.self asked 1 0 gave.keeps gave.whole.start c.note_failures.ensures.notes (λ numbered. omega (arith, gave.costs))

pub returns-in-True-clause-running : goal.returns-in-True-clause-running
unfolding start_of_search labels_of_search MarksStand MemoStands
returns-in-True-clause-running g c =
    let asked : Asked = g.T.Tests.asked (g.T.Tests.subject c.args.tests.now) in
    let old = c.args.self.now.choices in
    let new = c.settle.new.choices in
    let settled = c.in_ok-settle.ensures in
    let entered_is = ap g.T.Tests.asked c.in_ok-enter_row.ensures.subject in
    record {
      searches = searches_settled _ old asked _ _ c.requires.none entered_is c.in-True.is settled.settled;
      memo = subst (Remembers c.note_failures-in-True.new.self new) (ap g.T.Tests.asked settled.subject ∙ entered_is) c.note_failures-in-True.ensures.remembers;
      marks = noted_less old new asked _ c.args.self.now.memo.marks c.spend.new.self.marks _ (ap g.T.Tests.asked settled.subject ∙ entered_is) (c.spend.ensures.marks ∙ c.looks-until.ensures.marks)
          (sinks_asked old new asked _ entered_is settled.sinks)
          (remembered_high (height old) (Above old) c.args.self.now.memo old asked c.requires.memo) c.note_failures-in-True.ensures.less c.requires.marks;
      entered = settled.entered;
    }

pub returns-in-True-clause-spent : goal.returns-in-True-clause-spent
returns-in-True-clause-spent g c = λ none.
    let asked : Asked = g.T.Tests.asked (g.T.Tests.subject c.args.tests.now) in
    let old = c.args.self.now.choices in
    let new = c.settle.new.choices in
    let settled = c.in_ok-settle.ensures in
    let memo = c.args.self.now.memo in
    notes_spends old new memo c.note_failures-in-True.new.self asked 1 0 settled.sinks.plan settled.same.start
    (notes_then (kept new) (start_of new) memo c.spend.new.self c.note_failures-in-True.new.self
    (notes_equal (kept new) (start_of new) memo c.spend.new.self (c.spend.ensures.marks ∙ c.looks-until.ensures.marks) (c.spend.ensures.failed ∙ c.looks-until.ensures.failed) (λ all. c.looks-until.ensures.keeps (c.spend.ensures.keeps all)))
    c.note_failures-in-True.ensures.notes)
    (λ numbered. omega (arith, settled_cost old new _ c.in-True.is settled.costs numbered))

pub returns-in_ok-after_row-in-Open-clause-spent : goal.returns-in_ok-after_row-in-Open-clause-spent
unfolding start_of_search
returns-in_ok-after_row-in-Open-clause-spent g c = λ none.
    let asked : Asked = g.T.Tests.asked (g.T.Tests.subject c.args.tests.now) in
    let old = c.args.self.now.choices in
    let settled : Settled old c.settle.new.choices (g.T.Tests.asked (g.T.Tests.subject c.enter_row.new.tests)) OpenTest = rw c.in-Open.is at c.in_ok-settle.ensures.settled in
    absurd (none (start_of old) (entered old) (omega (arith, c.requires.maps.stands.known, c.requires.covers.known)) (subst (λ s. test_from old (g.T.Tests.asked s) (entered old) ≡ OpenTest) c.in_ok-enter_row.ensures.subject settled.1))

pub is_tested-requires : goal.is_tested-requires
is_tested-requires g c = some_label (entered c.args.self.now.choices) _ _ c.requires.maps.row.labels

pub give_up-requires : goal.give_up-requires
give_up-requires g c = c.requires.maps.row.has_top

pub returns-then-not-is_tested-clause-same : goal.returns-then-not-is_tested-clause-same
returns-then-not-is_tested-clause-same g c = same_search c.args.self.now _ c.give_up.ensures.whole

pub returns-then-not-is_tested-clause-subject : goal.returns-then-not-is_tested-clause-subject
returns-then-not-is_tested-clause-subject g c = c.cut_back.ensures.subject

pub returns-then-not-is_tested-clause-entries : goal.returns-then-not-is_tested-clause-entries
returns-then-not-is_tested-clause-entries g c = (omega (arith, c.cut_back.ensures.entries), omega (arith, c.cut_back.ensures.entries))

pub returns-then-not-is_tested-clause-left : goal.returns-then-not-is_tested-clause-left
returns-then-not-is_tested-clause-left g c =
    let asked : Asked = g.T.Tests.asked (g.T.Tests.subject c.args.tests.now) in
    let row = c.requires.maps.row.divides.turns asked.known asked.end (now_later asked.known asked.end) in
    left_lowered c.args.self.now _ asked c.requires.none c.requires.none (omega (arith, row, c.give_up.ensures.left asked.known asked.end))

pub returns-then-not-is_tested-clause-lasts : goal.returns-then-not-is_tested-clause-lasts
unfolding start_of_search
returns-then-not-is_tested-clause-lasts g c =
    let low : start_of c.give_up.new.self < most_u64 = omega (arith, c.give_up.ensures.whole.start, c.requires.covers.known, g.met.T.Tests.few c.args.tests.now) in
    λ always all. c.note_failures.ensures.lasts low (inr (omega arith)) all

pub enter_row-requires-clause-from_one : goal.enter_row-requires-clause-from_one
enter_row-requires-clause-from_one g c = c.requires.maps.stands.from_one

pub enter_row-requires-clause-known : goal.enter_row-requires-clause-known
unfolding start_of_search
enter_row-requires-clause-known g c = omega (arith, c.requires.maps.stands.known, c.requires.covers.known)

pub enter_row-requires-clause-new : goal.enter_row-requires-clause-new
enter_row-requires-clause-new g c = c.requires.maps.labels

pub returns-in_err-enter_row-clause-subject : goal.returns-in_err-enter_row-clause-subject
returns-in_err-enter_row-clause-subject g c = c.enter_row.ensures.subject

pub returns-in_err-enter_row-clause-entries : goal.returns-in_err-enter_row-clause-entries
returns-in_err-enter_row-clause-entries g c = c.enter_row.ensures.entries

pub returns-in_err-enter_row-clause-running : goal.returns-in_err-enter_row-clause-running
returns-in_err-enter_row-clause-running g c = IfOk-from_err c.from_residual.result _ c.from_residual.ensures.0

pub returns-in_err-enter_row-clause-left : goal.returns-in_err-enter_row-clause-left
returns-in_err-enter_row-clause-left g c = IfOk-from_err c.from_residual.result _ c.from_residual.ensures.0

pub returns-in_err-enter_row-clause-spent : goal.returns-in_err-enter_row-clause-spent
returns-in_err-enter_row-clause-spent g c = IfOk-from_err c.from_residual.result _ c.from_residual.ensures.0

pub returns-in_err-enter_row-clause-lasts : goal.returns-in_err-enter_row-clause-lasts
returns-in_err-enter_row-clause-lasts g c = IfOk-from_err c.from_residual.result _ c.from_residual.ensures.0

pub returns-in_err-settle-clause-same : goal.returns-in_err-settle-clause-same
returns-in_err-settle-clause-same g c = same_search c.args.self.now _ c.settle.ensures.same

pub returns-in_err-settle-clause-subject : goal.returns-in_err-settle-clause-subject
returns-in_err-settle-clause-subject g c = c.settle.ensures.subject ∙ c.enter_row.ensures.subject

pub returns-in_err-settle-clause-entries : goal.returns-in_err-settle-clause-entries
returns-in_err-settle-clause-entries g c = (omega (arith, c.enter_row.ensures.entries.0, c.settle.ensures.entries), omega (arith, c.enter_row.ensures.entries.1, c.settle.ensures.entries))

pub returns-in_err-settle-clause-running : goal.returns-in_err-settle-clause-running
returns-in_err-settle-clause-running g c = IfOk-from_err c.from_residual-in_err-settle.result _ c.from_residual-in_err-settle.ensures.0

pub returns-in_err-settle-clause-left : goal.returns-in_err-settle-clause-left
returns-in_err-settle-clause-left g c = IfOk-from_err c.from_residual-in_err-settle.result _ c.from_residual-in_err-settle.ensures.0

pub returns-in_err-settle-clause-spent : goal.returns-in_err-settle-clause-spent
returns-in_err-settle-clause-spent g c = IfOk-from_err c.from_residual-in_err-settle.result _ c.from_residual-in_err-settle.ensures.0

pub returns-in_err-settle-clause-lasts : goal.returns-in_err-settle-clause-lasts
returns-in_err-settle-clause-lasts g c = IfOk-from_err c.from_residual-in_err-settle.result _ c.from_residual-in_err-settle.ensures.0

pub returns-in_err-after_row-in-Open-clause-same : goal.returns-in_err-after_row-in-Open-clause-same
returns-in_err-after_row-in-Open-clause-same g c = same_search c.args.self.now _ c.settle.ensures.same

pub returns-in_err-after_row-in-Open-clause-subject : goal.returns-in_err-after_row-in-Open-clause-subject
returns-in_err-after_row-in-Open-clause-subject g c = c.settle.ensures.subject ∙ c.enter_row.ensures.subject

pub returns-in_err-after_row-in-Open-clause-entries : goal.returns-in_err-after_row-in-Open-clause-entries
returns-in_err-after_row-in-Open-clause-entries g c = (omega (arith, c.enter_row.ensures.entries.0, c.settle.ensures.entries), omega (arith, c.enter_row.ensures.entries.1, c.settle.ensures.entries))

pub returns-in_err-after_row-in-Open-clause-running : goal.returns-in_err-after_row-in-Open-clause-running
returns-in_err-after_row-in-Open-clause-running g c = IfOk-from_err c.from_residual-in_err-after_row-in-Open.result _ c.from_residual-in_err-after_row-in-Open.ensures.0

pub returns-in_err-after_row-in-Open-clause-left : goal.returns-in_err-after_row-in-Open-clause-left
returns-in_err-after_row-in-Open-clause-left g c = IfOk-from_err c.from_residual-in_err-after_row-in-Open.result _ c.from_residual-in_err-after_row-in-Open.ensures.0

pub returns-in_err-after_row-in-Open-clause-spent : goal.returns-in_err-after_row-in-Open-clause-spent
returns-in_err-after_row-in-Open-clause-spent g c = IfOk-from_err c.from_residual-in_err-after_row-in-Open.result _ c.from_residual-in_err-after_row-in-Open.ensures.0

pub returns-in_err-after_row-in-Open-clause-lasts : goal.returns-in_err-after_row-in-Open-clause-lasts
returns-in_err-after_row-in-Open-clause-lasts g c = IfOk-from_err c.from_residual-in_err-after_row-in-Open.result _ c.from_residual-in_err-after_row-in-Open.ensures.0

pub returns-in_ok-after_row-in-Open-clause-same : goal.returns-in_ok-after_row-in-Open-clause-same
returns-in_ok-after_row-in-Open-clause-same g c = same_search c.args.self.now _ c.settle.ensures.same

pub returns-in_ok-after_row-in-Open-clause-subject : goal.returns-in_ok-after_row-in-Open-clause-subject
returns-in_ok-after_row-in-Open-clause-subject g c = c.settle.ensures.subject ∙ c.enter_row.ensures.subject

pub returns-in_ok-after_row-in-Open-clause-entries : goal.returns-in_ok-after_row-in-Open-clause-entries
returns-in_ok-after_row-in-Open-clause-entries g c = (omega (arith, c.enter_row.ensures.entries.0, c.settle.ensures.entries), omega (arith, c.enter_row.ensures.entries.1, c.settle.ensures.entries))

pub returns-in-True-clause-same : goal.returns-in-True-clause-same
returns-in-True-clause-same g c = same_search c.args.self.now _ c.settle.ensures.same

pub returns-in-True-clause-subject : goal.returns-in-True-clause-subject
returns-in-True-clause-subject g c = c.settle.ensures.subject ∙ c.enter_row.ensures.subject

pub returns-in-True-clause-entries : goal.returns-in-True-clause-entries
returns-in-True-clause-entries g c = (omega (arith, c.enter_row.ensures.entries.0, c.settle.ensures.entries), omega (arith, c.enter_row.ensures.entries.1, c.settle.ensures.entries))

pub after_row-requires : goal.after_row-requires
after_row-requires g c =
    let settled : Settled c.args.self.now.choices c.settle.new.choices (g.T.Tests.asked (g.T.Tests.subject c.enter_row.new.tests)) OpenTest = rw c.in-Open.is at c.in_ok-settle.ensures.settled in
    subst AtRow (sym settled.0) c.requires.maps.row.at_row

pub returns-in_ok-after_row-in-Open-clause-left : goal.returns-in_ok-after_row-in-Open-clause-left
returns-in_ok-after_row-in-Open-clause-left g c =
    let asked : Asked = g.T.Tests.asked (g.T.Tests.subject c.args.tests.now) in
    let old = c.args.self.now.choices in
    let settled : Settled old c.settle.new.choices (g.T.Tests.asked (g.T.Tests.subject c.enter_row.new.tests)) OpenTest = rw c.in-Open.is at c.in_ok-settle.ensures.settled in
    let seen : test_from old asked (entered old) ≡ OpenTest = subst (λ s. test_from old (g.T.Tests.asked s) (entered old) ≡ OpenTest) c.in_ok-enter_row.ensures.subject settled.1 in
    explored_lowers c.args.self.now _ c.in_ok-after_row-in-Open.field-0 asked c.requires.none refl settled.0 c.requires.maps.row (c.in_ok-after_row-in-Open.ensures.turns asked.known asked.end) seen

pub returns-in_ok-after_row-in-Open-clause-lasts : goal.returns-in_ok-after_row-in-Open-clause-lasts
returns-in_ok-after_row-in-Open-clause-lasts g c = λ always all. c.looks-until.ensures.lasts all

pub returns-in-True-clause-left : goal.returns-in-True-clause-left
returns-in-True-clause-left g c =
    let settled = settled_lowers c.args.self.now.choices c.settle.new.choices _ _ _ (ap g.T.Tests.asked c.in_ok-enter_row.ensures.subject) c.in-True.is c.in_ok-settle.ensures.settled in
    left_lowered c.args.self.now _ _ c.requires.none c.requires.none settled

pub returns-in-True-clause-lasts : goal.returns-in-True-clause-lasts
unfolding start_of_search
returns-in-True-clause-lasts g c =
    let settled = c.in_ok-settle.ensures in
    let low : start_of c.settle.new.choices < most_u64 = omega (arith, settled.same.start, c.requires.covers.known, g.met.T.Tests.few c.args.tests.now) in
    λ always all. c.note_failures-in-True.ensures.lasts low
    (settled_ever _ _ _ _ _ c.spend.ensures.marks c.in-True.is (c.looks-until.ensures.asks all) (settled.ever (subst (λ s. g.T.Tests.always s) (sym c.in_ok-enter_row.ensures.subject) always)))
    (c.spend.ensures.lasts (c.looks-until.ensures.lasts all))

pub returns-in_err-enter_row-clause-same : goal.returns-in_err-enter_row-clause-same
returns-in_err-enter_row-clause-same g c = same_search c.args.self.now _ (same_itself c.args.self.now.choices)
