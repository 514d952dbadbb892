use Rattle.std.proofs.Common.{◌≡◌, true, rules, sym, ap, ◌∙◌, map}
use Rattle.rp_words.specs.Variables.{all_true}
use Rattle.rp_words.specs.Leading.{leads_before}
use Rattle.rp_words.proofs.Leaders.{leads_permute}
use Rattle.rp_words.proofs.form.Form.+leads_before.Goals as goal

pub loop-part-init : goal.loop-part-init
loop-part-init t c =
    let known : c.args.rest ≡ true = search rules in
    ap (λ z. all_true (map (λ p. leads_before c.args.variable p.value true) z)) c.deref-part-items.ensures.value
    ∙ sym (leads_permute c.args.variable c.in-Permute.parts true) ∙ ap (λ f. leads_before c.args.variable f true) (sym c.in-Permute.is) ∙ ap (leads_before c.args.variable c.args.self.now) (sym known)
