use Rattle.std.proofs.Common.{is_ok, sym, ap, subst}
use Rattle.std.proofs.ResultArms.{chosen}
use Rattle.std.proofs.lemmas.Result.{err_from_is_err_and}
use Rattle.std.proofs.lemmas.Str.{IsCharBoundary-start}
use Rattle.rp_lexer.proofs.Characters.{fault_character}
use Rattle.std.specs.Prelude.{All}
use Rattle.rp_lexer.specs.Lexes.{IsToken, LexesUpTo}
use Rattle.rp_lexer.proofs.Readings.{each_stands_from}
use Rattle.rp_lexer.proofs.Lexed.{lexed_more}
use Rattle.rp_lexer.proofs.lexer.lex.Goals as goal

pub loop-at-preserved : goal.loop-at-preserved
loop-at-preserved c =
    let pushed = chosen _ _ _ _ c.push.ensures.items (ap is_ok c.in_ok-push.was) in
    let text = c.as_bytes-bytes.result.now in
    let end = c.gap_end-at-in-loop-at.result in
    record {
      lexed = subst (λ l. LexesUpTo text 0 l end) (sym pushed)
          (lexed_more text 0 c.loop-at.tokens.items c.in_ok-token.token c.loop-at.at end c.loop-at.invariant.lexed c.in_ok-token.ensures.ok.0 c.in_ok-token.ensures.ok.1 c.gap_end-at-in-loop-at.ensures.gap);
      stops = c.gap_end-at-in-loop-at.ensures.stops;
      within = c.gap_end-at-in-loop-at.ensures.within.1;
    }

pub returns-clause-each_stands : goal.returns-clause-each_stands
returns-clause-each_stands c =
    let text = c.as_bytes-bytes.result.now in
    subst (λ l. All (IsToken l) c.loop-at.tokens.items) c.as_bytes-bytes.ensures.value
    (each_stands_from text 0 c.loop-at.tokens.items c.loop-at.at c.loop-at.invariant.lexed)

pub returns-in_err-token-clause-character : goal.returns-in_err-token-clause-character
returns-in_err-token-clause-character c =
    let p = err_from_is_err_and c.from_residual.result c.from_residual.ensures.1 in
    rw (p.1, p.2)
    (fault_character c.args.text.now c.as_bytes-bytes.result.now c.as_bytes-bytes.ensures.value c.utf8.text c.loop-at.tokens.items c.loop-at.at c.loop-at.invariant.lexed c.in_err-token.field-0.0 c.in_err-token.ensures.err.1)

pub returns-in_err-push-clause-character : goal.returns-in_err-push-clause-character
returns-in_err-push-clause-character c =
    let p = err_from_is_err_and c.from_residual-in_err-push.result c.from_residual-in_err-push.ensures.1 in
    rw (p.1, p.2) (IsCharBoundary-start c.args.text.now c.utf8.text)
