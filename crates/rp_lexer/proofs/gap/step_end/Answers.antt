use Rattle.std.proofs.Common.{sym, ◌∙◌, arith, add-one}
use Rattle.rp_lexer.specs.Lexes.{separator, comment}
use Rattle.rp_lexer.proofs.gap.step_end.Goals as goal

pub returns-then-is_separator-clause-some : goal.returns-then-is_separator-clause-some
returns-then-is_separator-clause-some c =
    record {
      order = omega arith;
      within = omega arith;
      gap = λ last gap. separator (sym c.is_separator.ensures ∙ c.if-is_separator.true) (rw add-one at gap);
    }

pub returns-then-begins_comment-clause-some : goal.returns-then-begins_comment-clause-some
returns-then-begins_comment-clause-some c =
    let comment' = c.comment_end.ensures in
    record {
      order = omega arith;
      within = comment'.within;
      gap = λ last gap. comment c.comment_end.result comment' gap;
    }
