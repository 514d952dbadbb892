use Rattle.std.proofs.Common.{subst}
use Rattle.rp_lexer.specs.Lexes.{IsLongest}
use Rattle.rp_lexer.proofs.Edges.{name_end}
use Rattle.rp_lexer.proofs.meaning.upper_case.Goals as goal

pub range-requires-clause-end_boundary : goal.range-requires-clause-end_boundary
range-requires-clause-end_boundary c =
    let text = c.args.text.now in
    let token = c.args.token in
    name_end text c.utf8.text token.start token.end (subst (λ k. IsLongest text k token.start token.end) c.requires.name c.requires.stands.longest)
