use Rattle.std.proofs.Common.{◌∙◌, ap, subst, sym}
use Rattle.rp_words.specs.declared.form.Form.{Form}
use Rattle.std.specs.Prelude.{Option, IfSome}
use Rattle.rp_search.specs.Search.{IsSearchFor, start_of_search}
use Rattle.rp_pattern_tests.specs.Grid.{grid_asked}
use Rattle.rp_pattern_tests.proofs.searches.random.advanced.Goals as goal

pub returns : goal.returns
returns c = λ yes.
    let old = c.args.grid.now in
    let new = c.advance.new.self in
    record {
      from_one = c.requires.from_one;
      variables = c.requires.variables;
      pattern = subst (λ (o : Option Form). IfSome o (λ f. IsSearchFor f c.args.search.now)) (sym c.advance.ensures.named) c.requires.pattern;
      fits = c.law_search.ensures.stays c.args.search.now (grid_asked old.first.items old.second.items old.reach old.known old.end old.named) (grid_asked new.first.items new.second.items new.reach new.known new.end new.named)
          (c.advance.ensures.extends yes (start_of_search c.args.search.now)) c.requires.fits;
      labels = ap (λ v. v.items) c.advance.ensures.none ∙ c.requires.labels;
    }
