use Rattle.std.proofs.Common.{◌∙◌, Option, IfSome, ap, sym, subst, arith}
use Rattle.rp_words.specs.declared.form.Form.{Form}
use Rattle.rp_search.specs.Search.{IsSearchFor, start_of_search}
use Rattle.rp_pattern_tests.proofs.Standing.{named_search}
use Rattle.rp_pattern_tests.proofs.searches.script.counted.Goals as goal

pub stages-init : goal.stages-init
stages-init g c =
    let made = c.in_ok-search.ensures in (
      made.start,
      ap (λ v. v.items) c.in_ok-name.ensures.none ∙ c.requires.none ∙ sym made.at_start.labels,
      made.variables,
      named_search _ _ _ c.in_ok-name.ensures.named made.pattern,
      made.at_start.fits _,
    )

pub decide-requires : goal.decide-requires
decide-requires g c =
    let inv = c.stages.invariant in
    let yes = c.if-not-advance.false in
    record {
      can_run = record {
        known = omega (arith, c.advance.ensures.some yes, inv.0);
        variables = inv.2;
        pattern = subst (λ (o : Option Form). IfSome o (λ f. IsSearchFor f c.stages.search)) (sym c.advance.ensures.named) inv.3;
        fits = c.law_search.ensures.stays c.stages.search _ _ (c.advance.ensures.extends yes (start_of_search c.stages.search)) inv.4;
        entered = ap (λ v. v.items) c.advance.ensures.none ∙ inv.1;
      };
    }
