use Rattle.std.proofs.Common.{◌≡◌, ◌∷◌, ◌-◌, ◌+◌, length, drop, ap, ◌∙◌, arith}
use Rattle.std.proofs.lemmas.List.{length-reverse}
use Rattle.rp_words.proofs.LastElement.{set_last}
use Rattle.rp_pattern.proofs.stack.Stack.set_top.Goals as goal

pub returns : goal.returns
returns g c =
    let s = c.self.inside in
    let long : c.len-last.result - 1 + 1 ≡ length s.elements.items = omega (arith, c.len-last.ensures, s.elements.ok.0, ap length c.self.view_is, length-reverse s.elements.items, c.requires) in
    set_last s.elements.items (c.len-last.result - 1) c.args.element long
    ∙ ap (λ z. c.args.element ∷ drop 1 z) c.self.view_is
