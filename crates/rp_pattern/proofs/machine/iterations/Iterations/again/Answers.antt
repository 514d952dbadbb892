use Rattle.std.proofs.Common.{◌≡◌, ◌∷◌, ℕ, sym, ap, ◌∙◌}
use Rattle.rp_words.specs.declared.word.End.{End}
use Rattle.rp_pattern.specs.declared.machine.link.Part.TheVariants.{Times}
use Rattle.rp_words.specs.Turns.{iterations}
use Rattle.rp_pattern.specs.Continuations.{guarded, node_part, still, tail_links, tail_parts}
use Rattle.rp_pattern.specs.Splits.{ComesAgain}
use Rattle.rp_pattern.proofs.OrderRests.{IfOk-map}
use Rattle.rp_pattern.proofs.Steps.{iterations_as, linked_parts, comes_moving, comes_past}
use Rattle.rp_pattern.proofs.machine.iterations.Iterations.again.Goals as goal
use Rattle.rp_pattern.proofs.machine.iterations.Iterations.again.Goals.{then-self, else-self}

pub returns : goal.returns
returns c =
    let it = c.args.self.now in
    let further = c.args.further in
    let then = c.args.then.now in
    let copy = c.in_ok-iterations.iterations in
    let shared = c.in_ok-share.field-0 in
    let since = c.if-self.since in
    IfOk-map (λ tail. tail_links tail ≡ (since, Times 0 copy) ∷ tail_links shared) (λ tail. (n : ℕ) (e : End) → ComesAgain n e c.args.row it further (tail_parts n e then) (tail_parts n e tail))
    (λ tail h n e.
    let ts = tail_parts n e then in
    let more = iterations 0 (still n further) it.reluctant (node_part n e it.body) in
    let is : tail_parts n e tail ≡ guarded since more ∷ ts = linked_parts n e tail shared then since (Times 0 copy) h c.in_ok-share.ensures ∙ ap (λ z. guarded since z ∷ ts) (iterations_as n e 0 it copy further c.in_ok-iterations.ensures) in
    elim c.if-self.branch [
      | then-self w ↦ comes_moving n e c.args.row it further ts (tail_parts n e tail) (sym it.known ∙ w.if-self.true) (is ∙ ap (λ s. guarded s more ∷ ts) w.since-is)
      | else-self w ↦ comes_past n e c.args.row it further ts (tail_parts n e tail) (is ∙ ap (λ s. guarded s more ∷ ts) w.since-is)
    ])
    c.linked.result c.linked.ensures
