use Rattle.std.proofs.Common.{rules, ◌≡◌, ◌∷◌}
use Rattle.std.proofs.lemmas.List.Elements.{All-rest}
use Rattle.rp_lexer.specs.Lexes.{IsToken}
use Rattle.rp_grammar.proofs.cursor.token.Goals as goal

pub returns-in-Some-clause-reads : goal.returns-in-Some-clause-reads
returns-in-Some-clause-reads c =
    let front : c.args.tokens.now ≡ c.in-Some.first.now ∷ c.in-Some.rest.now = search rules in
    record {
      exact = search rules;
      stands = All-rest (IsToken c.args.text.now) _ _ _ front c.requires.stands;
      shorter = search rules;
    }
