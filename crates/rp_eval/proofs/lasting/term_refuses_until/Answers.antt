use Rattle.std.proofs.Common.{◌≡◌, ◌≢◌, ℕ, ◌-◌, true, false, List, [], ◌∷◌, length, sym, ap, subst, arith, rules, length-append}
use Rattle.std.specs.Prelude.{get_or}
use Rattle.rp_value.specs.declared.truth.Tri.TheVariants.{True}
use Rattle.rp_value.specs.declared.truth.Judged.TheVariants.{Told}
use Rattle.rp_words.specs.declared.word.Label.{Label}
use Rattle.rp_query.specs.declared.locality.Locality.TheVariants.{Row, Led}
use Rattle.rp_query.specs.declared.plan.Total.{Total}
use Rattle.rp_query.specs.Formulas.{condition_formula}
use Rattle.rp_query.specs.Locality.{is_local}
use Rattle.rp_eval.specs.Looks.{setting_of}
use Rattle.rp_eval.specs.Locality.{at_last, RefusesUntil}
use Rattle.rp_eval.specs.ValueOf.{Setting, judged}
use Rattle.rp_eval.proofs.Refusing.{last_label_is, refuses_always, refuses_led}
use Rattle.rp_eval.proofs.lasting.term_refuses_until.Goals as goal

pub returns-then-condition_is_local : goal.returns-then-condition_is_local
returns-then-condition_is_local g c =
    let v = c.args.view.now in
    let s : Setting = setting_of g.R.Rows.known g.R.Rows.ending v in
    let none : Label = record { var = 0; excluded = false } in
    let var : ℕ = (get_or v.labels.now (length v.labels.now - 1) none).var in
    let refused : judged s c.args.term.now ≢ Told True = subst (λ j. j ≢ Told True) c.judge.ensures (c.refuses.ensures (search rules)) in
    let local : is_local Row c.args.totals.now var (condition_formula c.args.term.now) ≡ true = search rules in
    refuses_always c.args.lead s c.args.term.now refused
    (λ before label is. omega (arith, c.requires.last, ap (λ (ls : List Label). length ls) is, length-append before (label ∷ [])))
    c.law_locality.ensures.rows var _
    (λ before label is. ap (λ (l : Label). l.var) (sym (last_label_is v.labels.now before label is)))
    (subst (λ (ts : List Total). is_local Row ts var (condition_formula c.args.term.now) ≡ true) c.requires.totals local)

pub returns : goal.returns
returns g c =
    let v = c.args.view.now in
    let s : Setting = setting_of g.R.Rows.known g.R.Rows.ending v in
    let none : Label = record { var = 0; excluded = false } in
    let var : ℕ = (get_or v.labels.now (length v.labels.now - 1) none).var in
    let leader = c.in-Some.leader in
    let until = c.refuses_from.result in
    let refused : judged s c.args.term.now ≢ Told True = subst (λ j. j ≢ Told True) c.judge.ensures (c.refuses.ensures (search rules)) in
    let local : is_local (Led leader.variable leader.alone) c.args.totals.now var (condition_formula c.args.term.now) ≡ true = search rules in
    subst (λ l. RefusesUntil l s c.args.term.now until) (sym c.in-Some.is)
    (refuses_led c.law_locality.ensures.led leader s c.args.term.now var until refused
    (λ before label is. omega (arith, c.requires.last, ap (λ (ls : List Label). length ls) is, length-append before (label ∷ [])))
    (λ before label is. ap (λ (l : Label). l.var) (sym (last_label_is v.labels.now before label is)))
    (subst (λ (ts : List Total). is_local (Led leader.variable leader.alone) ts var (condition_formula c.args.term.now) ≡ true) c.requires.totals local)
    (λ start after lt before label own at headed.
    subst (λ (ts : List Total). judged (record (at_last s start before label) { totals = ts }) c.args.term.now ≢ Told True) c.requires.totals
    (c.refuses_from.ensures start after lt before label own at headed)))
