use Rattle.std.proofs.Common.{◌≡◌, ◌≤◌, sym, subst, ap, ◌∙◌, arith}
use Rattle.rp_words.specs.PatternForm.{form_of}
use Rattle.rp_search.specs.Fits.{SearchFits}
use Rattle.rp_search.specs.Search.{HasVariablesBelow, IsSearchFor, RunAnswers, labels_of_search, start_of_search}
use Rattle.rp_eval.specs.Entered.{AreTotals}
use Rattle.rp_conditions.specs.Tested.{Tested, asked_of}
use Rattle.rp_conditions.specs.Entered.{tested_by as tester_of}
use Rattle.rp_known.specs.Plans.{tested_by}
use Rattle.rp_why.specs.Seeking.{closed_by}
use Rattle.rp_why.proofs.Running.{came_to, found_same}
use Rattle.rp_why.proofs.seeking.run_on.Goals as goal

pub run-ran-requires : goal.run-ran-requires
run-ran-requires g c =
    let q = c.args.query.now in
    let p = closed_by c.args.rows.now.rows.items in
    let s = c.args.run.search in
    let h = c.requires.searches in
    let same : tested_by q p ≡ tester_of c.new-tester.result =
    ap (λ e. record { rows = p.rows; ending = e; query = q }) (sym c.requires.closed) ∙ sym c.new-tester.ensures.subject in
    record {
      known = subst (λ (t : Tested). start_of_search s ≤ (asked_of t).known) same (omega (arith, h.serves.begins, h.known));
      variables = subst (λ (t : Tested). HasVariablesBelow (asked_of t).variables s) same
          (c.law_search.ensures.variables (form_of q.pattern) s _ h.serves.pattern c.plan-plan.ensures.sound.variables);
      pattern = subst (λ (t : Tested). IsSearchFor (form_of t.query.pattern) s) same h.serves.pattern;
      fits = subst (λ (t : Tested). SearchFits s (asked_of t)) same h.serves.fits;
      entered = c.new-tester.ensures.entered (start_of_search s) (labels_of_search s)
          (subst (λ i. AreTotals c.args.run.totals p.rows i (labels_of_search s)) (sym h.serves.begins) h.totals);
    }

pub returns-clause-came : goal.returns-clause-came
returns-clause-came g c =
    let q = c.args.query.now in
    let p = closed_by c.args.rows.now.rows.items in
    let s = c.args.run.search in
    let h = c.requires.searches.serves in
    let subject : tester_of c.new-tester.result ≡ tested_by q p =
    c.new-tester.ensures.subject ∙ ap (λ e. record { rows = p.rows; ending = e; query = q }) c.requires.closed in
    came_to q p c.args.start s (record { search = c.run-ran.new.self; totals = c.into_parts-totals.result.0 }) c.in_ok-outcome.outcome
    (found_same q p c.args.start s h.begins h.pattern)
    (subst (λ (t : Tested). RunAnswers s c.run-ran.new.self (asked_of t) c.in_ok-outcome.outcome) subject c.in_ok-outcome.ensures.answers)
