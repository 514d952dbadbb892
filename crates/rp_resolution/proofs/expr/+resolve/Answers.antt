use Rattle.std.proofs.Common.{rules, ◌≡◌, ◌∙◌, ◌+◌, [], map, drop, refl, sym, ap}
use Rattle.std.proofs.lemmas.List.{drop_all}
use Rattle.rp_tree.specs.Paths.{path_of}
use Rattle.rp_tree.specs.Terms.{Number, Literal, Navigation, Aggregated, MatchNumber, Classifier, Negative, Not, IsNull, Operate, from_left, from_right, Term, term_step, term_of, operand_of}
use Rattle.rp_tree.specs.declared.tree.Expr.TheOpen as E
use Rattle.rp_tree.specs.declared.tree.Expr.TheVariants as V
use Rattle.rp_tree.specs.declared.tree.Expr.TheFolds.{fold-roll-Expr}
use Rattle.rp_query.specs.Formulas.{plain_total}
use Rattle.rp_resolution.specs.Context.{context_of}
use Rattle.rp_resolution.specs.ExprFaults.{expr_faults}
use Rattle.rp_resolution.specs.Checked.{Tells}
use Rattle.rp_resolution.proofs.Telling.{tells_memory}
use Rattle.rp_resolution.proofs.Chains.{negative_fails, negative_checks, not_fails, not_checks, null_fails, null_checks, left_operand_fails, right_fails, operator_checks, first_fails, next_sum, operand_fails, sum_fails, all_summed, first_of_right_fails, taken, next_last, last_fails}
use Rattle.rp_resolution.proofs.expr.+resolve.Goals as goal

pub returns-in-Number : goal.returns-in-Number
returns-in-Number t c =
    let whole : term_of c.args.expr.now ≡ Number c.in-Number.at c.in-Number.value = ap term_of c.in-Number.is ∙ (ap term_of (sym (V.rolls-Number c.in-Number.at c.in-Number.value)) ∙ fold-roll-Expr Term term_step (E.Number c.in-Number.at c.in-Number.value)) in
    rw whole c.number.ensures

pub returns-in-Text : goal.returns-in-Text
returns-in-Text t c =
    let whole : term_of c.args.expr.now ≡ Literal c.in-Text.at c.in-Text.text = ap term_of c.in-Text.is ∙ (ap term_of (sym (V.rolls-Text c.in-Text.at c.in-Text.text)) ∙ fold-roll-Expr Term term_step (E.Text c.in-Text.at c.in-Text.text)) in
    rw whole c.text_literal.ensures

pub returns-in-Navigation : goal.returns-in-Navigation
returns-in-Navigation t c =
    let whole : term_of c.args.expr.now ≡ Navigation (path_of c.in-Navigation.path) = ap term_of c.in-Navigation.is ∙ (ap term_of (sym (V.rolls-Navigation c.in-Navigation.path)) ∙ fold-roll-Expr Term term_step (E.Navigation c.in-Navigation.path)) in
    rw whole c.placed.ensures

pub returns-in-Aggregate : goal.returns-in-Aggregate
returns-in-Aggregate t c =
    let whole : term_of c.args.expr.now ≡ Aggregated c.in-Aggregate.written = ap term_of c.in-Aggregate.is ∙ (ap term_of (sym (V.rolls-Aggregate c.in-Aggregate.written)) ∙ fold-roll-Expr Term term_step (E.Aggregate c.in-Aggregate.written)) in
    rw whole c.aggregate.ensures

pub returns-in-MatchNumber : goal.returns-in-MatchNumber
returns-in-MatchNumber t c =
    let whole : term_of c.args.expr.now ≡ MatchNumber c.in-MatchNumber.at = ap term_of c.in-MatchNumber.is ∙ (ap term_of (sym (V.rolls-MatchNumber c.in-MatchNumber.at)) ∙ fold-roll-Expr Term term_step (E.MatchNumber c.in-MatchNumber.at)) in
    rw whole c.match_number.ensures

pub returns-in-Classifier : goal.returns-in-Classifier
returns-in-Classifier t c =
    let whole : term_of c.args.expr.now ≡ Classifier c.in-Classifier.at = ap term_of c.in-Classifier.is ∙ (ap term_of (sym (V.rolls-Classifier c.in-Classifier.at)) ∙ fold-roll-Expr Term term_step (E.Classifier c.in-Classifier.at)) in
    rw whole c.classifier.ensures

pub returns-in_err-body-in-Negative : goal.returns-in_err-body-in-Negative
returns-in_err-body-in-Negative t c =
    let same0 : c.deref.result.now ≡ c.in-Negative.body.value = c.deref.ensures in
    let whole : term_of c.args.expr.now ≡ Negative c.in-Negative.at (term_of c.in-Negative.body.value) = ap term_of c.in-Negative.is ∙ (ap term_of (sym (V.rolls-Negative c.in-Negative.at c.in-Negative.body)) ∙ fold-roll-Expr Term term_step (E.Negative c.in-Negative.at c.in-Negative.body)) in
    let told = rw same0 at (negative_fails (context_of c.args.names.now) c.in-Negative.at (term_of c.deref.result.now) c.in_err-body-in-Negative.field-0.0 c.in_err-body-in-Negative.ensures) in
    let all : Tells c.in_err-body-in-Negative.field-0.0 (expr_faults (context_of c.args.names.now) (term_of c.args.expr.now)) = rw whole told in
    search (rules, all)

pub returns-in_ok-body-in-Negative : goal.returns-in_ok-body-in-Negative
returns-in_ok-body-in-Negative t c =
    let same0 : c.deref.result.now ≡ c.in-Negative.body.value = c.deref.ensures in
    let whole : term_of c.args.expr.now ≡ Negative c.in-Negative.at (term_of c.in-Negative.body.value) = ap term_of c.in-Negative.is ∙ (ap term_of (sym (V.rolls-Negative c.in-Negative.at c.in-Negative.body)) ∙ fold-roll-Expr Term term_step (E.Negative c.in-Negative.at c.in-Negative.body)) in
    rw whole (rw same0 at (negative_checks (context_of c.args.names.now) (map plain_total c.args.totals.now.items) (map plain_total c.resolve.new.totals.items) c.in-Negative.at (term_of c.deref.result.now) c.in_ok-body-in-Negative.body c.negative.result c.in_ok-body-in-Negative.ensures c.negative.ensures))

pub returns-in_err-body-in-Not : goal.returns-in_err-body-in-Not
returns-in_err-body-in-Not t c =
    let same0 : c.deref-in-Not.result.now ≡ c.in-Not.body.value = c.deref-in-Not.ensures in
    let whole : term_of c.args.expr.now ≡ Not c.in-Not.at (term_of c.in-Not.body.value) = ap term_of c.in-Not.is ∙ (ap term_of (sym (V.rolls-Not c.in-Not.at c.in-Not.body)) ∙ fold-roll-Expr Term term_step (E.Not c.in-Not.at c.in-Not.body)) in
    let told = rw same0 at (not_fails (context_of c.args.names.now) c.in-Not.at (term_of c.deref-in-Not.result.now) c.in_err-body-in-Not.field-0.0 c.in_err-body-in-Not.ensures) in
    let all : Tells c.in_err-body-in-Not.field-0.0 (expr_faults (context_of c.args.names.now) (term_of c.args.expr.now)) = rw whole told in
    search (rules, all)

pub returns-in_ok-body-in-Not : goal.returns-in_ok-body-in-Not
returns-in_ok-body-in-Not t c =
    let same0 : c.deref-in-Not.result.now ≡ c.in-Not.body.value = c.deref-in-Not.ensures in
    let whole : term_of c.args.expr.now ≡ Not c.in-Not.at (term_of c.in-Not.body.value) = ap term_of c.in-Not.is ∙ (ap term_of (sym (V.rolls-Not c.in-Not.at c.in-Not.body)) ∙ fold-roll-Expr Term term_step (E.Not c.in-Not.at c.in-Not.body)) in
    rw whole (rw same0 at (not_checks (context_of c.args.names.now) (map plain_total c.args.totals.now.items) (map plain_total c.resolve-in-Not.new.totals.items) c.in-Not.at (term_of c.deref-in-Not.result.now) c.in_ok-body-in-Not.body c.inverted.result c.in_ok-body-in-Not.ensures c.inverted.ensures))

pub returns-in_err-body-in-IsNull : goal.returns-in_err-body-in-IsNull
returns-in_err-body-in-IsNull t c =
    let same0 : c.deref-in-IsNull.result.now ≡ c.in-IsNull.body.value = c.deref-in-IsNull.ensures in
    let whole : term_of c.args.expr.now ≡ IsNull c.in-IsNull.at c.in-IsNull.negated (term_of c.in-IsNull.body.value) = ap term_of c.in-IsNull.is ∙ (ap term_of (sym (V.rolls-IsNull c.in-IsNull.at c.in-IsNull.body c.in-IsNull.negated)) ∙ fold-roll-Expr Term term_step (E.IsNull c.in-IsNull.at c.in-IsNull.body c.in-IsNull.negated)) in
    let told = rw same0 at (null_fails (context_of c.args.names.now) c.in-IsNull.at c.in-IsNull.negated (term_of c.deref-in-IsNull.result.now) c.in_err-body-in-IsNull.field-0.0 c.in_err-body-in-IsNull.ensures) in
    let all : Tells c.in_err-body-in-IsNull.field-0.0 (expr_faults (context_of c.args.names.now) (term_of c.args.expr.now)) = rw whole told in
    search (rules, all)

pub returns-in_ok-body-in-IsNull : goal.returns-in_ok-body-in-IsNull
returns-in_ok-body-in-IsNull t c =
    let same0 : c.deref-in-IsNull.result.now ≡ c.in-IsNull.body.value = c.deref-in-IsNull.ensures in
    let whole : term_of c.args.expr.now ≡ IsNull c.in-IsNull.at c.in-IsNull.negated (term_of c.in-IsNull.body.value) = ap term_of c.in-IsNull.is ∙ (ap term_of (sym (V.rolls-IsNull c.in-IsNull.at c.in-IsNull.body c.in-IsNull.negated)) ∙ fold-roll-Expr Term term_step (E.IsNull c.in-IsNull.at c.in-IsNull.body c.in-IsNull.negated)) in
    rw whole (rw same0 at (null_checks (context_of c.args.names.now) (map plain_total c.args.totals.now.items) (map plain_total c.resolve-in-IsNull.new.totals.items) c.in-IsNull.at c.in-IsNull.negated (term_of c.deref-in-IsNull.result.now) c.in_ok-body-in-IsNull.body c.null_test.result c.in_ok-body-in-IsNull.ensures c.null_test.ensures))

pub returns-in_err-left-in-Comparison : goal.returns-in_err-left-in-Comparison
returns-in_err-left-in-Comparison t c =
    let same0 : c.deref-in-Comparison.result.now ≡ c.in-Comparison.left.value = c.deref-in-Comparison.ensures in
    let whole : term_of c.args.expr.now ≡ Operate (term_of c.in-Comparison.left.value) c.in-Comparison.operation (term_of c.in-Comparison.right.value) = ap term_of c.in-Comparison.is ∙ (ap term_of (sym (V.rolls-Comparison c.in-Comparison.left c.in-Comparison.operation c.in-Comparison.right)) ∙ fold-roll-Expr Term term_step (E.Comparison c.in-Comparison.left c.in-Comparison.operation c.in-Comparison.right)) in
    let told = rw same0 at (left_operand_fails (context_of c.args.names.now) (term_of c.deref-in-Comparison.result.now) (term_of c.in-Comparison.right.value) c.in-Comparison.operation c.in_err-left-in-Comparison.field-0.0 c.in_err-left-in-Comparison.ensures) in
    let all : Tells c.in_err-left-in-Comparison.field-0.0 (expr_faults (context_of c.args.names.now) (term_of c.args.expr.now)) = rw whole told in
    search (rules, all)

pub returns-in_err-right-in-Comparison : goal.returns-in_err-right-in-Comparison
returns-in_err-right-in-Comparison t c =
    let same0 : c.deref-in-Comparison.result.now ≡ c.in-Comparison.left.value = c.deref-in-Comparison.ensures in
    let same1 : c.deref-in-Comparison-2.result.now ≡ c.in-Comparison.right.value = c.deref-in-Comparison-2.ensures in
    let whole : term_of c.args.expr.now ≡ Operate (term_of c.in-Comparison.left.value) c.in-Comparison.operation (term_of c.in-Comparison.right.value) = ap term_of c.in-Comparison.is ∙ (ap term_of (sym (V.rolls-Comparison c.in-Comparison.left c.in-Comparison.operation c.in-Comparison.right)) ∙ fold-roll-Expr Term term_step (E.Comparison c.in-Comparison.left c.in-Comparison.operation c.in-Comparison.right)) in
    let told = rw (same0, same1) at (right_fails (context_of c.args.names.now) (map plain_total c.args.totals.now.items) (map plain_total c.resolve-in-Comparison.new.totals.items) (term_of c.deref-in-Comparison.result.now) (term_of c.deref-in-Comparison-2.result.now) c.in-Comparison.operation c.in_ok-left-in-Comparison.left c.in_err-right-in-Comparison.field-0.0 c.in_ok-left-in-Comparison.ensures c.in_err-right-in-Comparison.ensures) in
    let all : Tells c.in_err-right-in-Comparison.field-0.0 (expr_faults (context_of c.args.names.now) (term_of c.args.expr.now)) = rw whole told in
    search (rules, all)

pub returns-in_ok-right-in-Comparison : goal.returns-in_ok-right-in-Comparison
returns-in_ok-right-in-Comparison t c =
    let same0 : c.deref-in-Comparison.result.now ≡ c.in-Comparison.left.value = c.deref-in-Comparison.ensures in
    let same1 : c.deref-in-Comparison-2.result.now ≡ c.in-Comparison.right.value = c.deref-in-Comparison-2.ensures in
    let whole : term_of c.args.expr.now ≡ Operate (term_of c.in-Comparison.left.value) c.in-Comparison.operation (term_of c.in-Comparison.right.value) = ap term_of c.in-Comparison.is ∙ (ap term_of (sym (V.rolls-Comparison c.in-Comparison.left c.in-Comparison.operation c.in-Comparison.right)) ∙ fold-roll-Expr Term term_step (E.Comparison c.in-Comparison.left c.in-Comparison.operation c.in-Comparison.right)) in
    rw whole (rw (same0, same1) at (operator_checks (context_of c.args.names.now) (map plain_total c.args.totals.now.items) (map plain_total c.resolve-in-Comparison.new.totals.items) (map plain_total c.resolve-in-Comparison-2.new.totals.items) (term_of c.deref-in-Comparison.result.now) (term_of c.deref-in-Comparison-2.result.now) c.in-Comparison.operation c.in_ok-left-in-Comparison.left c.in_ok-right-in-Comparison.right c.operated.result c.in_ok-left-in-Comparison.ensures c.in_ok-right-in-Comparison.ensures c.operated.ensures))

pub returns-in_err-sum-in-FromLeft : goal.returns-in_err-sum-in-FromLeft
returns-in_err-sum-in-FromLeft t c =
    let same0 : c.deref-in-FromLeft.result.now ≡ c.in-FromLeft.first.value = c.deref-in-FromLeft.ensures in
    let whole : term_of c.args.expr.now ≡ from_left (term_of c.in-FromLeft.first.value) (map operand_of c.in-FromLeft.rest.items) = ap term_of c.in-FromLeft.is ∙ (ap term_of (sym (V.rolls-FromLeft c.in-FromLeft.first c.in-FromLeft.rest)) ∙ fold-roll-Expr Term term_step (E.FromLeft c.in-FromLeft.first c.in-FromLeft.rest)) in
    let told = rw same0 at (first_fails (context_of c.args.names.now) (term_of c.deref-in-FromLeft.result.now) (map operand_of c.in-FromLeft.rest.items) c.in_err-sum-in-FromLeft.field-0.0 c.in_err-sum-in-FromLeft.ensures) in
    let all = rw (← whole) at told in
    search (rules, all)

pub sums-init : goal.sums-init
sums-init t c =
    let same0 : c.deref-in-FromLeft.result.now ≡ c.in-FromLeft.first.value = c.deref-in-FromLeft.ensures in
    let whole : term_of c.args.expr.now ≡ from_left (term_of c.in-FromLeft.first.value) (map operand_of c.in-FromLeft.rest.items) = ap term_of c.in-FromLeft.is ∙ (ap term_of (sym (V.rolls-FromLeft c.in-FromLeft.first c.in-FromLeft.rest)) ∙ fold-roll-Expr Term term_step (E.FromLeft c.in-FromLeft.first c.in-FromLeft.rest)) in
    record { t = term_of c.deref-in-FromLeft.result.now; stands = c.in_ok-sum-in-FromLeft.ensures; is_whole = rw (same0, c.deref-operation-items.ensures.value) whole }

pub returns-in_err-right-in-FromLeft : goal.returns-in_err-right-in-FromLeft
returns-in_err-right-in-FromLeft t c =
    let cut = taken c.deref-operation-items.result.now c.sums.operation-index c.sums-item.result c.sums-test.true c.sums-item.is in
    let so = rw cut at c.sums.invariant in
    let told = operand_fails (context_of c.args.names.now) (map plain_total c.args.totals.now.items) (map plain_total c.sums.totals.items) (term_of c.args.expr.now) c.sums.sum c.sums-item.result.0 (term_of c.sums-item.result.1) (map operand_of (drop (c.sums.operation-index + 1) c.deref-operation-items.result.now)) c.in_err-right-in-FromLeft.field-0.0 so c.in_err-right-in-FromLeft.ensures in
    search (rules, told)

pub returns-in_err-sum-in-FromLeft-2 : goal.returns-in_err-sum-in-FromLeft-2
returns-in_err-sum-in-FromLeft-2 t c =
    let cut = taken c.deref-operation-items.result.now c.sums.operation-index c.sums-item.result c.sums-test.true c.sums-item.is in
    let so = rw cut at c.sums.invariant in
    let told = sum_fails (context_of c.args.names.now) (map plain_total c.args.totals.now.items) (map plain_total c.sums.totals.items) (map plain_total c.resolve-in-sums.new.totals.items) (term_of c.args.expr.now) c.sums.sum c.in_ok-right-in-FromLeft.right c.sums-item.result.0 (term_of c.sums-item.result.1) (map operand_of (drop (c.sums.operation-index + 1) c.deref-operation-items.result.now)) c.in_err-sum-in-FromLeft-2.field-0.0 so c.in_ok-right-in-FromLeft.ensures c.in_err-sum-in-FromLeft-2.ensures in
    search (rules, told)

pub sums-preserved : goal.sums-preserved
sums-preserved t c =
    let cut = taken c.deref-operation-items.result.now c.sums.operation-index c.sums-item.result c.sums-test.true c.sums-item.is in
    let so = rw cut at c.sums.invariant in
    next_sum (context_of c.args.names.now) (map plain_total c.args.totals.now.items) (map plain_total c.sums.totals.items) (map plain_total c.resolve-in-sums.new.totals.items) (term_of c.args.expr.now) c.sums.sum c.in_ok-right-in-FromLeft.right c.in_ok-sum-in-FromLeft-2.sum c.sums-item.result.0 (term_of c.sums-item.result.1) (map operand_of (drop (c.sums.operation-index + 1) c.deref-operation-items.result.now)) so c.in_ok-right-in-FromLeft.ensures c.in_ok-sum-in-FromLeft-2.ensures

pub returns-after-sums : goal.returns-after-sums
returns-after-sums t c =
    let so = rw (drop_all c.sums.operation-index c.deref-operation-items.result.now c.sums-test.false) at c.sums.invariant in
    all_summed (context_of c.args.names.now) (map plain_total c.args.totals.now.items) (term_of c.args.expr.now) c.sums.sum (map plain_total c.sums.totals.items) so

pub returns-in_err-last-in-FromRight : goal.returns-in_err-last-in-FromRight
returns-in_err-last-in-FromRight t c =
    let same0 : c.deref-in-FromRight.result.now ≡ c.in-FromRight.first.value = c.deref-in-FromRight.ensures in
    let whole : term_of c.args.expr.now ≡ from_right (term_of c.in-FromRight.first.value) (map operand_of c.in-FromRight.rest.items) = ap term_of c.in-FromRight.is ∙ (ap term_of (sym (V.rolls-FromRight c.in-FromRight.first c.in-FromRight.rest)) ∙ fold-roll-Expr Term term_step (E.FromRight c.in-FromRight.first c.in-FromRight.rest)) in
    let told = rw same0 at (first_of_right_fails (context_of c.args.names.now) (term_of c.deref-in-FromRight.result.now) (map operand_of c.in-FromRight.rest.items) c.in_err-last-in-FromRight.field-0.0 c.in_err-last-in-FromRight.ensures) in
    let all = rw (← whole) at told in
    search (rules, all)

pub lasts-init : goal.lasts-init
lasts-init t c =
    let same0 : c.deref-in-FromRight.result.now ≡ c.in-FromRight.first.value = c.deref-in-FromRight.ensures in
    let whole : term_of c.args.expr.now ≡ from_right (term_of c.in-FromRight.first.value) (map operand_of c.in-FromRight.rest.items) = ap term_of c.in-FromRight.is ∙ (ap term_of (sym (V.rolls-FromRight c.in-FromRight.first c.in-FromRight.rest)) ∙ fold-roll-Expr Term term_step (E.FromRight c.in-FromRight.first c.in-FromRight.rest)) in
    record { ps = []; mid = (map plain_total c.args.totals.now.items); t = term_of c.deref-in-FromRight.result.now; are = (c.new-lefts.ensures.items, refl); stands = c.in_ok-last-in-FromRight.ensures; is_whole = rw (same0, c.deref-operation-items-in-FromRight.ensures.value) whole }

pub returns-in_err-push-in-FromRight : goal.returns-in_err-push-in-FromRight
returns-in_err-push-in-FromRight t c = search (rules, tells_memory)

pub returns-in_err-last-in-FromRight-2 : goal.returns-in_err-last-in-FromRight-2
returns-in_err-last-in-FromRight-2 t c =
    let cut = taken c.deref-operation-items-in-FromRight.result.now c.lasts.operation-index c.lasts-item.result c.lasts-test.true c.lasts-item.is in
    let so = rw cut at c.lasts.invariant in
    let told = last_fails (context_of c.args.names.now) (map plain_total c.args.totals.now.items) (map plain_total c.lasts.totals.items) (term_of c.args.expr.now) c.lasts.lefts.items c.lasts.last c.lasts-item.result.0 (term_of c.lasts-item.result.1) (map operand_of (drop (c.lasts.operation-index + 1) c.deref-operation-items-in-FromRight.result.now)) c.in_err-last-in-FromRight-2.field-0.0 so c.in_err-last-in-FromRight-2.ensures in
    search (rules, told)

pub lasts-preserved : goal.lasts-preserved
lasts-preserved t c =
    let cut = taken c.deref-operation-items-in-FromRight.result.now c.lasts.operation-index c.lasts-item.result c.lasts-test.true c.lasts-item.is in
    let so = rw cut at c.lasts.invariant in
    rw c.in_ok-push-in-FromRight.ensures.items (next_last (context_of c.args.names.now) (map plain_total c.args.totals.now.items) (map plain_total c.lasts.totals.items) (map plain_total c.resolve-in-lasts.new.totals.items) (term_of c.args.expr.now) c.lasts.lefts.items c.lasts.last c.in_ok-last-in-FromRight-2.last c.lasts-item.result.0 (term_of c.lasts-item.result.1) (map operand_of (drop (c.lasts.operation-index + 1) c.deref-operation-items-in-FromRight.result.now)) so c.in_ok-last-in-FromRight-2.ensures)

pub returns-after-lasts : goal.returns-after-lasts
returns-after-lasts t c =
    let so = rw (drop_all c.lasts.operation-index c.deref-operation-items-in-FromRight.result.now c.lasts-test.false) at c.lasts.invariant in
    rw so.is_whole (c.grouped.ensures (context_of c.args.names.now) (map plain_total c.args.totals.now.items) so.ps so.mid so.t (map plain_total c.lasts.totals.items) so.are so.stands)
