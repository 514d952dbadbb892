use Rattle.std.proofs.Common.{◌≡◌, ◌∷◌, None, Some, refl, sym, ap, ◌∙◌, subst}
use Rattle.rp_pattern.specs.declared.machine.link.Part.TheVariants.{Times}
use Rattle.rp_pattern.specs.declared.machine.link.Link.TheViews.{out-Link}
use Rattle.rp_words.specs.Turns.{iterations}
use Rattle.rp_pattern.specs.Continuations.{IsOneLess, guarded, iterations_part, links_from, links_parts, node_part, part_as, reached_parts, still, tail_parts}
use Rattle.rp_pattern.specs.Splits.{AlwaysSplits, StandsFor}
use Rattle.rp_pattern.proofs.Steps.{OnOk-map, splits_as, comes_moving}
use Rattle.rp_pattern.proofs.Tails.{reached_as, tail_out}
use Rattle.rp_pattern.proofs.machine.link.take_again.Goals as goal

pub returns : goal.returns
returns c =
    let row = c.args.row in
    let l = c.args.link.now.value in
    let it = c.args.iterations.now in
    let copy = c.in_ok-clone.field-0 in
    let known = c.requires.again in
    let since = known.0 in
    let none = known.2 in
    let split = c.another_or.new.split in
    OnOk-map _ (AlwaysSplits row (λ n e. reached_parts n e (links_from l)) split)
    (λ h n e.
    let p = node_part n e it.body in
    let ts = tail_parts n e (out-Link l).then in
    let more = iterations 0 (still n None) it.reluctant p in
    let first : part_as n e (out-Link l).part ≡ more =
    ap (part_as n e) c.requires.times ∙ ap (λ k. iterations k (still n it.further) it.reluctant p) known.1 ∙ ap (λ k. iterations 0 (still n k) it.reluctant p) none in
    let again : tail_parts n e (Some copy) ≡ more ∷ ts =
    ap (λ k. links_parts n e (links_from k)) c.in_ok-clone.ensures.cases ∙ tail_out n e l ∙ ap (λ s. guarded s (part_as n e (out-Link l).part) ∷ ts) since ∙ ap (λ z. z ∷ ts) first in
    let stop : StandsFor n e row ts c.in_ok-stop.stop = subst (λ k. StandsFor n e row (tail_parts n e (out-Link k).then) c.in_ok-stop.stop) c.deref.ensures (c.in_ok-stop.ensures n e) in
    let mine : iterations_part n e 0 it ∷ ts ≡ reached_parts n e (links_from l) =
    ap (λ k. iterations_part n e k it ∷ ts) (sym known.1) ∙ reached_as n e l l l (Times c.args.lower it) refl refl c.requires.times in
    splits_as n e row _ (reached_parts n e (links_from l)) split mine
    (h row n e None ts (subst (λ k. IsOneLess k None) (sym none) refl) (comes_moving n e row it None ts (tail_parts n e (Some copy)) known.3 again) stop))
    c.another_or.result c.another_or.ensures
