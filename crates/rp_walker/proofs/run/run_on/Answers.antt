use Rattle.std.specs.Box.{with_value}
use Rattle.rp_walker.specs.declared.run.Run.{Run}
use Rattle.std.proofs.Common.{◌≡◌, ℕ, ◌-◌, ◌≤◌, sym, subst, ap, ◌∙◌, arith}
use Rattle.rp_words.specs.PatternForm.{form_of}
use Rattle.rp_search.specs.Fits.{SearchFits}
use Rattle.rp_search.specs.declared.search.Search.{Search}
use Rattle.rp_search.specs.Bound.{RunWorks}
use Rattle.rp_search.specs.Search.{CanRun, HasVariablesBelow, IsSearchFor, labels_of_search, start_of_search, turns_of_run}
use Rattle.rp_search.specs.Work.{NoneIsOpen}
use Rattle.rp_query.specs.declared.locality.Locality.TheVariants.{Row}
use Rattle.rp_query.specs.Locality.{ConditionsAreLocal}
use Rattle.rp_eval.specs.Entered.{AreTotals}
use Rattle.rp_query.specs.QueryView.{totals_in}
use Rattle.rp_conditions.specs.Tested.{Tested, asked_of}
use Rattle.rp_conditions.specs.Entered.{tested_by as tester_of, HasEntered}
use Rattle.rp_known.specs.Known.{known_in}
use Rattle.rp_known.specs.Plans.{tested_by}
use Rattle.rp_walker.specs.Stages.{asked_by}
use Rattle.rp_walker.proofs.Running.{ran_of}
use Rattle.rp_walker.proofs.run.run_on.Goals as goal

pub run-ran-requires : goal.run-ran-requires
run-ran-requires g c =
    let q = c.args.query.now in
    let p = known_in g.R.Rows.known g.R.Rows.ending c.args.rows.now in
    let s = c.args.run.search.value in
    let h = c.requires.searches in
    let is : c.deref_mut.result.now ≡ s = c.deref_mut.ensures.value in
    let same : tested_by q p ≡ tester_of c.new-tester.result = sym c.new-tester.ensures.subject in
    subst (λ (x : Search). CanRun x (asked_of (tester_of c.new-tester.result)) (HasEntered c.new-tester.result)) (sym is)
    (record {
      known = subst (λ (t : Tested). start_of_search s ≤ (asked_of t).known) same (omega (arith, h.begins, h.known));
      variables = subst (λ (t : Tested). HasVariablesBelow (asked_of t).variables s) same
          (c.law_search.ensures.variables (form_of q.pattern) s _ h.pattern c.plan-plan.ensures.sound.variables);
      pattern = subst (λ (t : Tested). IsSearchFor (form_of t.query.pattern) s) same h.pattern;
      fits = subst (λ (t : Tested). SearchFits s (asked_of t)) same h.fits;
      entered = c.new-tester.ensures.entered (start_of_search s) (labels_of_search s)
          (subst (λ i. AreTotals c.args.run.totals p.rows i (labels_of_search s)) (sym h.begins) h.totalled.totals);
    })

pub returns-clause-taken : goal.returns-clause-taken
returns-clause-taken g c = c.in_ok-outcome.ensures.taken c.requires.some

pub returns-clause-ran : goal.returns-clause-ran
returns-clause-ran g c =
    let q = c.args.query.now in
    let p = known_in g.R.Rows.known g.R.Rows.ending c.args.rows.now in
    let s = c.run-ran.new.self in
    let is : c.deref_mut.result.now ≡ c.args.run.search.value = c.deref_mut.ensures.value in
    let totals = c.into_parts-totals.result.0 in
    let new : Run = record { search = with_value c.args.run.search s; totals = totals } in
    let same : tester_of c.run-ran.new.tests ≡ tested_by q p = c.run-ran.ensures.subject ∙ c.new-tester.ensures.subject in
    let same_start : start_of_search s ≡ c.args.start = c.run-ran.ensures.same.start ∙ ap start_of_search is ∙ c.requires.searches.begins in
    let here = c.into_parts-totals.ensures.entered (start_of_search s) (labels_of_search s) c.run-ran.ensures.entered in
    ran_of q p c.args.start c.args.run new c.deref_mut.result.now c.in_ok-outcome.outcome (asked_of (tester_of c.new-tester.result)) (c.run-ran.new.steps - c.args.steps.now) is
    (ap asked_of c.new-tester.ensures.subject) c.requires.searches c.run-ran.ensures.same c.run-ran.ensures.fits
    c.in_ok-outcome.ensures.answers c.in_ok-outcome.ensures.left (omega (arith, c.in_ok-outcome.ensures.taken c.requires.some))
    (c.into_parts-totals.ensures.totals ∙ ap (λ (t : Tested). totals_in t.query) same)
    (subst (λ i. AreTotals totals p.rows i (labels_of_search s)) same_start (subst (λ (t : Tested). AreTotals totals t.rows (start_of_search s) (labels_of_search s)) same here))

pub returns-clause-works : goal.returns-clause-works
returns-clause-works g c = λ alone decided.
    let q = c.args.query.now in
    let p = known_in g.R.Rows.known g.R.Rows.ending c.args.rows.now in
    let s = c.run-ran.new.self in
    let o = c.in_ok-outcome.outcome in
    let steps : ℕ = c.run-ran.new.steps - c.args.steps.now in
    let is : c.deref_mut.result.now ≡ c.args.run.search.value = c.deref_mut.ensures.value in
    let subject : tester_of c.new-tester.result ≡ tested_by q p = c.new-tester.ensures.subject in
    let taken : steps ≡ turns_of_run s = omega (arith, c.in_ok-outcome.ensures.taken c.requires.some) in
    let works =
    c.in_ok-outcome.ensures.works (subst (λ (t : Tested). ConditionsAreLocal Row t.query.plan) (sym subject) alone) (subst (λ (t : Tested). NoneIsOpen (asked_of t)) (sym subject) decided) in
    subst (λ t. RunWorks t c.args.run.search.value s (asked_by q p) o) taken
    (subst (λ (x : Search). RunWorks steps x s (asked_by q p) o) is (subst (λ (t : Tested). RunWorks steps c.deref_mut.result.now s (asked_of t) o) subject works))
