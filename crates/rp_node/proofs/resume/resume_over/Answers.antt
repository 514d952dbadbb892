use Rattle.std.proofs.Common.{◌≡◌, ℕ, true, sym, ◌∙◌, subst}
use Rattle.rp_walker.specs.declared.record.MatcherState.{MatcherState}
use Rattle.rp_partition.specs.Joined.{held_of}
use Rattle.rp_node.specs.Resuming.{has_place}
use Rattle.rp_node.proofs.Resumings.{resumed}
use Rattle.rp_node.proofs.resume.resume_over.Goals as goal

pub returns : goal.returns
returns c =
    let q = c.args.query.now in
    let p = c.args.kept.now in
    resumed c.law_again.ensures.same c.law_same_rows.ensures q p c.args.feed c.resume.result c.requires
    c.as_slice-rows.ensures.ascend
    (sym c.if-not-has_kinds.ensures)
    (subst (λ (n : ℕ). has_place q n p ≡ true) c.front-front.ensures.front (sym c.if-not-has_place.ensures))
    (sym c.in_ok-fits_all.ensures ∙ c.if-not-branch.false)
    c.front-front.ensures.feed
    (subst (λ (r : MatcherState). held_of c.resume.result ≡ record { feed = c.args.feed; state = r }) c.state_of.ensures c.resume.ensures.held)
    (c.resume.ensures.joined q)
