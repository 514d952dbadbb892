use Rattle.std.proofs.Common.{refl}
use Rattle.rp_lexer.specs.declared.kind.TokenKind.TheVariants as kind
use Rattle.rp_lexer.specs.declared.kind.Mark.TheVariants as mark
use Rattle.rp_grammar.specs.Grammar.{word}
use Rattle.rp_patterns.specs.PatternGrammar.{bounds, quantifier}
use Rattle.rp_patterns.proofs.Patterns.{behind_front, still_shorter}
use Rattle.rp_patterns.proofs.quantifier.quantifier.Goals as goal

pub returns-then-begins : goal.returns-then-begins
unfolding quantifier
returns-then-begins c = record {
  exact = rw (← c.if-begins.ensures, c.in_ok-at.ensures.exact, c.repeated.ensures, c.unwritten.ensures) refl;
  stands = c.in_ok-at.ensures.stands;
  shorter = c.in_ok-at.ensures.shorter;
}

pub returns-then-begins-2 : goal.returns-then-begins-2
unfolding quantifier
returns-then-begins-2 c = record {
  exact = rw (← c.if-begins.ensures, ← c.if-begins-2.ensures, c.in_ok-at-2.ensures.exact, c.repeated-then-begins-2.ensures, c.unwritten-then-begins-2.ensures) refl;
  stands = c.in_ok-at-2.ensures.stands;
  shorter = c.in_ok-at-2.ensures.shorter;
}

pub returns-then-begins-3 : goal.returns-then-begins-3
unfolding quantifier
returns-then-begins-3 c = record {
  exact = rw (← c.if-begins.ensures, ← c.if-begins-2.ensures, ← c.if-begins-3.ensures, c.in_ok-at-3.ensures.exact, c.repeated-then-begins-3.ensures, c.unwritten-then-begins-3.ensures, c.unwritten-then-begins-3-2.ensures) refl;
  stands = c.in_ok-at-3.ensures.stands;
  shorter = c.in_ok-at-3.ensures.shorter;
}

pub returns : goal.returns
unfolding quantifier
returns c = record {
  exact = rw (← c.if-begins.ensures, ← c.if-begins-2.ensures, ← c.if-begins-3.ensures, behind_front c.args.text.now (λ x. x.1 x.0) (word (kind.Mark mark.LeftBrace)) bounds c.in_ok-at-4.ensures.exact) c.bounds.ensures.exact;
  stands = c.bounds.ensures.stands;
  shorter = still_shorter _ _ c.bounds.result c.in_ok-at-4.ensures.shorter c.bounds.ensures.shorter;
}
