use Rattle.std.proofs.Common.{List, ap, subst, ◌∙◌}
use Rattle.rp_words.specs.declared.word.Label.{Label}
use Rattle.rp_query.specs.declared.plan.Total.{Total}
use Rattle.rp_query.specs.Definitions.{definition_of}
use Rattle.rp_eval.specs.Locality.{RefusesUntil}
use Rattle.rp_conditions.specs.Tested.{last_row}
use Rattle.rp_conditions.specs.Entered.{tested_by}
use Rattle.rp_conditions.proofs.Refusals.{last_label_is, not_yet_below, refused_below}
use Rattle.rp_conditions.proofs.tester.Tester.refuses_until.Goals as goal

pub returns-in-None : goal.returns-in-None
unfolding tested_by
returns-in-None g c = not_yet_below (tested_by c.args.self.now) c.args.start c.args.labels.now

pub returns-in-Some : goal.returns-in-Some
unfolding tested_by
returns-in-Some g c =
    let x = tested_by c.args.self.now in
    let s = last_row x c.args.start c.args.labels.now in
    refused_below c.law_agreement.ensures.heads x c.lead.result c.lead.ensures c.args.start c.args.labels.now c.refused_until.result c.in-Some.defined.now
    (λ before label is. c.in-Some.ensures ∙ ap (λ (l : Label). definition_of x.query.plan l.var) (last_label_is c.args.labels.now before label is))
    (subst (λ (p : List Total). RefusesUntil c.lead.result (record s { totals = p }) c.in-Some.defined.now c.refused_until.result) c.args.self.now.for_query c.refused_until.ensures)
