use Rattle.std.proofs.Common.{◌≡◌, [], ◌∷◌, ◌++◌, sym, ap, ◌∙◌}
use Rattle.std.proofs.lemmas.Result.{IfOk-weaker}
use Rattle.std.specs.String.{string_bytes}
use Rattle.rp_lexer.specs.Forms.{doubled, enclosed}
use Rattle.rp_lexer.specs.Meanings.{bytes_of}
use Rattle.rp_lexer.proofs.Edges.{inside_start, inside_end, between_quotes}
use Rattle.rp_lexer.proofs.meaning.unquoted.Goals as goal
use Rattle.rp_lexer.proofs.meaning.unquoted.Goals.{After-range}

pub range-requires-clause-start_boundary : goal.range-requires-clause-start_boundary
range-requires-clause-start_boundary c = λ some.
    let token = c.args.token in
    let longest = c.requires.stands.longest in
    inside_start c.args.text.now c.utf8.text token.start token.end c.args.quote c.requires.ascii longest.order longest.within c.requires.quotes.0 c.requires.quotes.1

pub range-requires-clause-end_boundary : goal.range-requires-clause-end_boundary
range-requires-clause-end_boundary c =
    let token = c.args.token in
    let longest = c.requires.stands.longest in
    inside_end c.args.text.now c.utf8.text token.start token.end c.args.quote c.requires.ascii longest.order longest.within c.requires.quotes.0 c.requires.quotes.1

-- what stands between the quotes is doubled
between : (c : After-range) → c.range.result.now ≡ doubled c.args.quote c.requires.quotes.0
between c =
    let token = c.args.token in
    let longest = c.requires.stands.longest in
    c.range.ensures.value
    ∙ between_quotes c.args.text.now c.utf8.text token.start token.end c.args.quote c.requires.ascii longest.order longest.within c.requires.quotes.0 c.requires.quotes.1

pub undoubled-requires-clause-doubled : goal.undoubled-requires-clause-doubled
undoubled-requires-clause-doubled c = (c.requires.quotes.0, between (goal.at.undoubled-requires-clause-doubled c).After-range)

pub returns : goal.returns
returns c =
    let quote = c.args.quote in
    let here = between (goal.at.returns c).After-range in
    IfOk-weaker c.undoubled.result (λ inside. c.range.result.now ≡ doubled quote (string_bytes inside)) (λ inside. bytes_of c.args.text.now c.args.token ≡ enclosed quote (string_bytes inside))
    (λ inside is. c.requires.quotes.1 ∙ ap (λ l. quote ∷ (l ++ quote ∷ [])) (sym here ∙ is)) c.undoubled.ensures
