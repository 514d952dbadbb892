use Rattle.std.proofs.Common.{List, length, ap, sym, ◌∙◌, ◌-◌, arith, false}
use Rattle.std.proofs.lemmas.Option.{slice_get-get_or}
use Rattle.rp_words.specs.declared.word.Label.{Label}
use Rattle.rp_query.specs.declared.plan.Total.{Total}
use Rattle.rp_eval.specs.ValueOf.{judged, seen_as}
use Rattle.rp_conditions.specs.Tested.{seen_by, seen_at, last_row}
use Rattle.rp_conditions.specs.Entered.{tested_by}
use Rattle.rp_conditions.proofs.tester.TesterTests.test.Goals as goal

pub returns-in-Some : goal.returns-in-Some
unfolding tested_by
returns-in-Some g c =
    let x = tested_by c.args.self.now in
    let ls = c.args.labels.now in
    let none : Label = record { var = 0; excluded = false } in
    let s = last_row x c.args.start ls in
    c.condition.ensures
    ∙ ap (λ (p : List Total). seen_as (judged (record s { totals = p }) c.in-Some.defined.now)) c.args.self.now.for_query
    ∙ ap (seen_by s) c.in-Some.ensures
    ∙ ap (seen_at x s) (sym (slice_get-get_or ls (length ls - 1) none (omega (arith, c.requires.some))))
