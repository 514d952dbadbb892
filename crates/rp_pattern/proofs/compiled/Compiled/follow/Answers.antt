use Rattle.std.proofs.Common.{rules, ◌≡◌, ◌∙◌, ap}
use Rattle.rp_program.specs.declared.program.Program.{Program}
use Rattle.rp_program.specs.Programs.{next_place}
use Rattle.rp_pattern.proofs.PlacedChoices.{next_follows}
use Rattle.rp_pattern.proofs.compiled.Compiled.follow.Goals as goal

pub returns-clause-put : goal.returns-clause-put
returns-clause-put c =
    let old = c.args.self.now in
    let same : c.deref.result.now ≡ old.program.value = search rules in
    next_follows old.program.value old.stack c.set_top.new.stack c.in-Some.choice.now c.args.row c.args.depth c.after_row-next.result c.in-Some.ensures (c.after_row-next.ensures.next ∙ ap (λ (z : Program). next_place z c.in-Some.choice.now.place) same) c.set_top.ensures
