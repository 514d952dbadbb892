use Rattle.std.proofs.Common.{◌∙◌, Option, IfSome, ap, sym, subst, arith}
use Rattle.rp_words.specs.declared.form.Form.{Form}
use Rattle.rp_search.specs.Search.{IsSearchFor}
use Rattle.rp_pattern_tests.proofs.Standing.{named_search}
use Rattle.rp_pattern_tests.proofs.searches.table.counted.Goals as goal

pub decide-requires : goal.decide-requires
decide-requires g c =
    let made = c.in_ok-search.ensures in
    let yes = c.if-not-advance.false in
    record {
      can_run = record {
        known = omega (arith, c.advance.ensures.some yes, made.start);
        variables = made.variables;
        pattern = subst (λ (o : Option Form). IfSome o (λ f. IsSearchFor f c.in_ok-search.search)) (sym c.advance.ensures.named)
            (named_search _ _ _ c.in_ok-name.ensures.named made.pattern);
        fits = made.at_start.fits _;
        entered = ap (λ v. v.items) c.advance.ensures.none ∙ ap (λ v. v.items) c.in_ok-name.ensures.none ∙ c.begin.ensures.none ∙ sym made.at_start.labels;
      };
    }
