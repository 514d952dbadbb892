use Rattle.std.proofs.Common.{◌≡◌, ◌-◌, ◌^◌, ◌<◌, length, ap, ◌∙◌, subst, sym, arith}
use Rattle.rp_words.specs.declared.word.End.TheVariants.{Open}
use Rattle.rp_answer.specs.MatcherData.{MatcherData}
use Rattle.rp_answer.specs.Kept.{kept_rows, kept_count}
use Rattle.rp_answer.proofs.Keeping.{pushed_on, pushed_rows, refused_matcher}
use Rattle.rp_answer.proofs.Readiness.{ready_on}
use Rattle.rp_answer.proofs.matcher.Matcher.push.Goals as goal

pub push-requires : goal.push-requires
push-requires c =
    let m = c.self.inside in
    let room : length (kept_rows m.rows) < 2 ^ 64 - 2 = subst (λ (d : MatcherData). length d.known.rows < 2 ^ 64 - 2) (sym c.self.view_is) c.requires.room in
    omega (arith, room, kept_count m.rows, m.rows.from_one)

pub invariant_of-self : goal.invariant_of-self
invariant_of-self c =
    let m = c.self.inside in
    let is_open : m.rows.end ≡ Open = ap (λ (d : MatcherData). d.known.end) c.self.view_is ∙ c.requires.open in
    ready_on c.law_walkers.ensures.stay c.law_legs.ensures.continuing m.query m.rows c.push.new.self m.walker c.plan-plan.ensures.sound c.push.ensures.first
    (pushed_on m.rows c.push.new.self c.args.row c.push.result is_open c.push.ensures.first c.push.ensures.pushed c.push.ensures.out_of_memory) c.self.invariant

pub returns-clause-pushed : goal.returns-clause-pushed
returns-clause-pushed c =
    rw (← c.self.view_is) (pushed_rows c.self.inside.rows c.push.new.self c.args.row c.push.result c.push.ensures.first c.push.ensures.pushed)

pub returns-clause-out_of_memory : goal.returns-clause-out_of_memory
returns-clause-out_of_memory c =
    let m = c.self.inside in
    let e = c.push.ensures in
    rw (← c.self.view_is) (refused_matcher m.query m.rows c.push.new.self m.walker c.push.result e.first e.end e.out_of_memory)
