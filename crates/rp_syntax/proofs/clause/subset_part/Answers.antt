use Rattle.rp_lexer.specs.Lexes.{IsToken}
use Rattle.rp_grammar.specs.Grammar.{listed}
use Rattle.rp_syntax.specs.ClauseGrammar.{subset_part, union}
use Rattle.rp_syntax.proofs.Following.{all_after, part_behind, shorter_after, still_no_longer}
use Rattle.rp_syntax.proofs.clause.subset_part.Goals as goal

pub unions-requires : goal.unions-requires
unions-requires c = record { stands = all_after (IsToken c.args.text.now) c.in-Some.ensures c.requires.stands }

pub returns-in-Some : goal.returns-in-Some
unfolding subset_part
returns-in-Some c = record {
  exact = rw (part_behind c.args.text.now (listed (union c.args.room)) c.in-Some.ensures) c.unions.ensures.exact;
  stands = c.unions.ensures.stands;
  no_longer = still_no_longer _ _ c.unions.result (shorter_after c.in-Some.ensures) c.unions.ensures.shorter;
}
