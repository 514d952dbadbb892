use Rattle.std.proofs.Common.{◌≡◌, ap, ◌∙◌}
use Rattle.rp_words.specs.declared.word.End.TheVariants.{Open}
use Rattle.rp_answer.specs.MatcherData.{MatcherData}
use Rattle.rp_answer.proofs.Keeping.{closed_on, same_rows}
use Rattle.rp_answer.proofs.Readiness.{ready_on}
use Rattle.rp_answer.proofs.matcher.Matcher.close.Goals as goal

pub invariant_of-self : goal.invariant_of-self
invariant_of-self c =
    let m = c.self.inside in
    let is_open : m.rows.end ≡ Open = ap (λ (d : MatcherData). d.known.end) c.self.view_is ∙ c.requires in
    ready_on c.law_walkers.ensures.stay c.law_legs.ensures.continuing m.query m.rows c.close.new.self m.walker c.plan-plan.ensures.sound c.close.ensures.first
    (closed_on m.rows c.close.new.self is_open c.close.ensures.first (ap (λ d. d.items) c.close.ensures.rows)) c.self.invariant

pub returns-clause-rows : goal.returns-clause-rows
returns-clause-rows c =
    rw (← c.self.view_is) (same_rows c.self.inside.rows c.close.new.self c.close.ensures.first (ap (λ d. d.items) c.close.ensures.rows))
