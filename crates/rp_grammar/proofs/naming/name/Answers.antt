use Rattle.std.proofs.Common.{rules, ◌≡◌, ◌∷◌}
use Rattle.std.proofs.lemmas.List.Elements.{All-rest}
use Rattle.rp_lexer.specs.Lexes.{IsToken}
use Rattle.rp_grammar.proofs.naming.name.Goals as goal

pub returns-in_ok-named-in-Some : goal.returns-in_ok-named-in-Some
returns-in_ok-named-in-Some c =
    let front : c.args.tokens.now ≡ c.in-Some.first.now ∷ c.in-Some.rest.now = search rules in
    record {
      exact = search rules;
      stands = All-rest (IsToken c.args.text.now) _ _ _ front c.requires.stands;
      shorter = search rules;
    }

pub returns-in_ok-named-in-Some-2 : goal.returns-in_ok-named-in-Some-2
returns-in_ok-named-in-Some-2 c =
    let front : c.args.tokens.now ≡ c.in-Some.first.now ∷ c.in-Some.rest.now = search rules in
    record {
      exact = search rules;
      stands = All-rest (IsToken c.args.text.now) _ _ _ front c.requires.stands;
      shorter = search rules;
    }
