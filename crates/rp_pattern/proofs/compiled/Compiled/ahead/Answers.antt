use Rattle.std.proofs.Common.{rules, ◌≡◌, [], subst, sym, ap, ◌∙◌}
use Rattle.rp_program.specs.declared.program.Program.{Program}
use Rattle.rp_program.specs.Programs.{next_place}
use Rattle.rp_pattern.specs.Placed.{placed_ways}
use Rattle.rp_pattern.specs.Rests.{IsPut, first_later}
use Rattle.rp_pattern.proofs.PlacedChoices.{next_put}
use Rattle.rp_pattern.proofs.compiled.Compiled.ahead.Goals as goal

pub returns : goal.returns
returns c =
    let p = c.args.self.now.program.value in
    let old = c.args.self.now.stack in
    let same : c.in_ok-clone.field-0.value ≡ p = search rules in
    let from : c.deref.result.now ≡ p = search rules in
    let new = c.in_ok-stack_at.field-0 in
    subst (λ (z : Program). IsPut (first_later (placed_ways p old)) c.args.row 0 [] (placed_ways z new)) (sym same)
    (next_put p old [] new c.in-Some.choice.now c.args.row 0 c.after_row-next.result c.in-Some.ensures (c.after_row-next.ensures.next ∙ ap (λ (z : Program). next_place z c.in-Some.choice.now.place) from) c.in_ok-stack_at.ensures)
