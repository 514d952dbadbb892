use Rattle.std.proofs.Common.{refl, arith}
use Rattle.rp_lexer.specs.declared.kind.Keyword.TheVariants as keyword
use Rattle.rp_grammar.specs.Grammar.{◌then◌, optional, word}
use Rattle.rp_tree.specs.declared.tree.Movement.TheVariants.{First, Last}
use Rattle.rp_expressions.specs.NavigationGrammar.{argument, column, edge, inside_path, key, moved, path, plain, scope}
use Rattle.rp_expressions.proofs.Steps.{shorter_behind, told, told_before}
use Rattle.rp_expressions.proofs.navigation.+navigation.Goals as goal

pub argument-returns : goal.argument-returns
unfolding argument
argument-returns t c = record {
  exact = rw (c.in_ok-rest.ensures.reads.exact, c.in_ok-path.ensures.exact, c.in_ok-rows.ensures.exact) refl;
  stands = c.in_ok-rows.ensures.stands;
  shorter = omega (arith, c.in_ok-rest.ensures.reads.shorter, c.in_ok-path.ensures.shorter, c.in_ok-rows.ensures.shorter);
}

pub edge-returns-then-begins : goal.edge-returns-then-begins
unfolding edge
edge-returns-then-begins t c =
    let read = word (key keyword.First) then argument c.args.room (inside_path c.args.room) in
    record {
      exact = rw (← c.if-begins.ensures, told c.args.text.now c.args.tokens.now c.args.scope (λ x s. moved (First s) x) read) c.movement.ensures.exact;
      stands = c.movement.ensures.stands;
      shorter = c.movement.ensures.shorter;
    }

pub edge-returns : goal.edge-returns
unfolding edge
edge-returns t c =
    let read = word (key keyword.Last) then argument c.args.room (inside_path c.args.room) in
    record {
      exact = rw (← c.if-begins.ensures, told c.args.text.now c.args.tokens.now c.args.scope (λ x s. moved (Last s) x) read) c.movement-2.ensures.exact;
      stands = c.movement-2.ensures.stands;
      shorter = c.movement-2.ensures.shorter;
    }

pub movement-returns : goal.movement-returns
movement-returns t c = record {
  exact = rw (c.in_ok-at.ensures.exact, c.in_ok-path.ensures.exact, c.in_ok-moved.ensures) refl;
  stands = c.in_ok-path.ensures.stands;
  shorter = omega (arith, c.in_ok-at.ensures.shorter, c.in_ok-path.ensures.shorter);
}

pub path-returns-then-begins_plain : goal.path-returns-then-begins_plain
unfolding path plain column
path-returns-then-begins_plain t c = record {
  exact = rw (← c.if-begins_plain.ensures) c.plain.ensures.exact;
  stands = c.plain.ensures.stands;
  shorter = c.plain.ensures.shorter;
}

pub path-returns : goal.path-returns
unfolding path plain column
path-returns t c = record {
  exact = rw (← c.if-begins_plain.ensures, told_before c.args.text.now (optional scope) (edge c.args.room (inside_path c.args.room)) c.in_ok-scope.ensures.exact) c.edge.ensures.exact;
  stands = c.edge.ensures.stands;
  shorter = shorter_behind _ _ c.edge.result c.in_ok-scope.ensures.no_longer c.edge.ensures.shorter;
}

pub plain-returns-then-begins : goal.plain-returns-then-begins
unfolding plain column
plain-returns-then-begins t c = record {
  exact = rw (← c.if-begins_name.ensures, ← c.if-begins.ensures) c.movement.ensures.exact;
  stands = c.movement.ensures.stands;
  shorter = c.movement.ensures.shorter;
}

pub plain-returns : goal.plain-returns
unfolding plain column
plain-returns t c = record {
  exact = rw (← c.if-begins_name.ensures, ← c.if-begins.ensures) c.movement-2.ensures.exact;
  stands = c.movement-2.ensures.stands;
  shorter = c.movement-2.ensures.shorter;
}
