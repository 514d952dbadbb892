use Rattle.std.proofs.Common.{◌≡◌, ◌∙◌, IfSome, None, Option, ap, arith, refl, rules, subst, sym}
use Rattle.std.specs.List.{AllByRecursion}
use Rattle.rp_words.specs.declared.form.Form.{Form}
use Rattle.rp_words.specs.LabelLaws.{IsBelow}
use Rattle.rp_search.specs.Asked.{Asked}
use Rattle.rp_search.specs.Search.{IsSearchFor}
use Rattle.rp_pattern_tests.proofs.searches.restarted.Goals as goal

pub run-requires : goal.run-requires
run-requires g c =
    let two : c.advance.new.self.known ≡ 2 = search rules in
    let unnamed : c.advance.new.self.named ≡ None = c.advance.ensures.named ∙ c.new-grid.ensures.unnamed in
    let search' = c.in_ok-search.search in
    let made = c.in_ok-search.ensures in
    record {
      known = omega (arith, two, made.start);
      variables = made.variables;
      pattern = subst (λ (o : Option Form). IfSome o (λ f. IsSearchFor f search')) (sym unnamed) tt;
      fits = made.at_start.fits _;
      entered = ap (λ v. v.items) c.advance.ensures.none ∙ c.new-grid.ensures.none ∙ sym made.at_start.labels;
    }

pub run-requires-2 : goal.run-requires-2
run-requires-2 g c =
    let restart = c.restart.ensures in
    let first = c.in_ok-first.ensures in
    let same : c.cut.new.self.known ≡ c.advance.new.self.known = ap (λ (a : Asked). a.known) (c.cut.ensures.subject ∙ first.subject) in
    let two : c.advance.new.self.known ≡ 2 = search rules in
    let unnamed : c.cut.new.self.named ≡ None = ap (λ (a : Asked). a.pattern) (c.cut.ensures.subject ∙ first.subject) ∙ c.advance.ensures.named ∙ c.new-grid.ensures.unnamed in
    record {
      known = omega (arith, same, two, restart.start);
      variables = λ n e row. subst (λ ws. AllByRecursion (IsBelow 2) ws) (sym (restart.pattern.words n e row ∙ first.same.pattern.words n e row)) (c.in_ok-search.ensures.variables n e row);
      pattern = subst (λ (o : Option Form). IfSome o (λ f. IsSearchFor f c.restart.new.self)) (sym unnamed) tt;
      fits = restart.at_start.fits _;
      entered = c.cut.ensures.none refl 2 ∙ sym restart.at_start.labels;
    }
