use Rattle.std.proofs.Common.{refl, ap, ◌∙◌}
use Rattle.rp_words.specs.Words.{words}
use Rattle.rp_words.specs.Turns.{turns}
use Rattle.rp_words.specs.PatternForm.{form_of}
use Rattle.rp_pattern.proofs.LinkedChoices.{whole_words, whole_turns}
use Rattle.rp_pattern.proofs.linked.Linked.new.Goals as goal

pub returns-clause-words : goal.returns-clause-words
returns-clause-words c = λ n e row.
    let is = c.in_ok-form.ensures.ok in
    let same = c.in_ok-share.ensures in
    let w = ap (words n e) is ∙ same.words n e ∙ ap (words n e) c.form.ensures.tree in
    let t = ap (turns n e) is ∙ same.turns n e ∙ ap (turns n e) c.form.ensures.tree in
    whole_words _ _ (form_of c.args.pattern.now) n e row c.in_ok-linked.ensures refl w t

pub returns-clause-turns : goal.returns-clause-turns
returns-clause-turns c = λ n e row.
    let is = c.in_ok-form.ensures.ok in
    let same = c.in_ok-share.ensures in
    let w = ap (words n e) is ∙ same.words n e ∙ ap (words n e) c.form.ensures.tree in
    let t = ap (turns n e) is ∙ same.turns n e ∙ ap (turns n e) c.form.ensures.tree in
    whole_turns _ _ (form_of c.args.pattern.now) n e row c.in_ok-linked.ensures refl w t
