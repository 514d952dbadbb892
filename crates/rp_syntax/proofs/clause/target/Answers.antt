use Rattle.rp_lexer.specs.Lexes.{IsToken}
use Rattle.rp_tree.specs.declared.tree.Skip.TheVariants as skip_as
use Rattle.rp_grammar.specs.Names.{name}
use Rattle.rp_syntax.specs.ClauseGrammar.{target}
use Rattle.rp_syntax.proofs.Following.{all_after, behind_word, shorter_after, starts_after, still_shorter}
use Rattle.rp_syntax.proofs.clause.target.Goals as goal

pub to_first-requires : goal.to_first-requires
to_first-requires c = record { stands = all_after (IsToken c.args.text.now) c.in-Some.ensures c.requires.stands }

pub to_last-requires : goal.to_last-requires
to_last-requires c = record { stands = all_after (IsToken c.args.text.now) c.in-Some-after.ensures c.requires.stands }

pub returns-then-begins : goal.returns-then-begins
unfolding target
returns-then-begins c = record {
  exact = rw (← c.if-begins.ensures) c.to_next_row.ensures.exact;
  stands = c.to_next_row.ensures.stands;
  shorter = c.to_next_row.ensures.shorter;
}

pub returns-in-Some : goal.returns-in-Some
unfolding target
returns-in-Some c = record {
  exact = rw (← c.if-begins.ensures, starts_after c.in-Some.ensures, behind_word c.args.text.now skip_as.ToFirst name c.in-Some.ensures) c.to_first.ensures.exact;
  stands = c.to_first.ensures.stands;
  shorter = still_shorter _ _ c.to_first.result (shorter_after c.in-Some.ensures) c.to_first.ensures.shorter;
}

pub returns-in-Some-after : goal.returns-in-Some-after
unfolding target
returns-in-Some-after c = record {
  exact = rw (← c.if-begins.ensures, c.in_default.ensures, starts_after c.in-Some-after.ensures, behind_word c.args.text.now skip_as.ToLast name c.in-Some-after.ensures) c.to_last.ensures.exact;
  stands = c.to_last.ensures.stands;
  shorter = still_shorter _ _ c.to_last.result (shorter_after c.in-Some-after.ensures) c.to_last.ensures.shorter;
}

pub returns : goal.returns
unfolding target
returns c = record {
  exact = rw (← c.if-begins.ensures, c.in_default.ensures, c.in_default-after.ensures) c.to_last-2.ensures.exact;
  stands = c.to_last-2.ensures.stands;
  shorter = c.to_last-2.ensures.shorter;
}
