use Rattle.std.proofs.Common.{rules, ◌≡◌, ◌∙◌, ap}
use Rattle.rp_program.specs.declared.program.Program.{Program}
use Rattle.rp_program.specs.Programs.{first_place}
use Rattle.rp_pattern.proofs.PlacedChoices.{first_put}
use Rattle.rp_pattern.proofs.compiled.Compiled.begin.Goals as goal

pub returns-clause-put : goal.returns-clause-put
returns-clause-put c =
    let old = c.args.self.now in
    let same : c.deref.result.now ≡ old.program.value = search rules in
    first_put old.program.value old.stack c.push.new.self c.first-place.result c.args.start c.requires (c.first-place.ensures.place ∙ ap (λ (z : Program). first_place z) same) c.push.result c.push.ensures.ok
