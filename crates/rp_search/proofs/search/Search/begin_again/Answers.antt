use Rattle.std.proofs.Common.{◌≤◌, ◌∙◌, refl, subst, sym}
use Rattle.rp_search.specs.Search.{start_of_search}
use Rattle.rp_search.proofs.TurnEnds.{at_start}
use Rattle.rp_search.proofs.search.Search.begin_again.Goals as goal

pub returns-clause-at_start : goal.returns-clause-at_start
unfolding start_of_search
returns-clause-at_start g c =
    let reset = c.reset.ensures in
    at_start _ refl (subst (λ i. 1 ≤ i) (sym reset.whole.start) c.requires) reset.labels
    (λ n e. reset.remaining n e ∙ sym (reset.whole.words n e)) (λ n e. reset.left n e ∙ sym (reset.whole.left n e)) c.forget.ensures.blank
