use Rattle.std.proofs.Common.{false, sym, ap, ◌∙◌, map}
use Rattle.rp_words.specs.Variables.{all_true}
use Rattle.rp_words.specs.Leading.{stands_where}
use Rattle.rp_words.proofs.Leaders.{stands_permute}
use Rattle.rp_words.proofs.form.Form.+stands_where.Goals as goal

pub loop-part-init : goal.loop-part-init
loop-part-init t c =
    ap (λ z. all_true (map (λ p. stands_where c.args.variable p.value false) z)) c.deref-part-items.ensures.value
    ∙ sym (stands_permute c.args.variable c.in-Permute.parts c.args.may) ∙ ap (λ f. stands_where c.args.variable f c.args.may) (sym c.in-Permute.is)
