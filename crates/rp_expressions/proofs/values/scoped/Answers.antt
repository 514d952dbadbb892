use Rattle.std.proofs.Common.{◌≡◌, [], ◌∷◌, false, true, refl, sym, arith}
use Rattle.rp_lexer.specs.declared.kind.Keyword.TheVariants as keyword
use Rattle.rp_grammar.specs.Grammar.{optional}
use Rattle.rp_grammar.specs.Reading.{starts}
use Rattle.rp_grammar.proofs.FirstTokens.{starts_append, starts_left, starts_right}
use Rattle.rp_tree.specs.declared.tree.Expr.TheOpen as E
use Rattle.rp_tree.specs.declared.tree.Expr.TheViews as V
use Rattle.rp_tree.specs.declared.tree.Expr.TheFolds.{fold-roll-Expr}
use Rattle.rp_tree.specs.Terms.{Aggregated, Navigation, Term, term_step}
use Rattle.rp_expressions.specs.NavigationGrammar.{edge, inside_path, key, scope}
use Rattle.rp_expressions.specs.ExprGrammar.{aggregate, scoped, under_scope}
use Rattle.rp_expressions.proofs.Steps.{made_before, told_before}
use Rattle.rp_expressions.proofs.values.scoped.Goals as goal
use Rattle.rp_expressions.proofs.values.scoped.Goals.{then-begins-via-then-begins, then-begins-via-else-begins+then-begins-2}

pub returns-then-begins : goal.returns-then-begins
unfolding scoped under_scope edge
returns-then-begins c =
    let rest = c.in_ok-scope.rest.now in
    let some : starts (key keyword.First ∷ key keyword.Last ∷ []) rest ≡ true = elim c.then-begins.branch [
      | then-begins-via-then-begins w ↦ starts_left (key keyword.First ∷ []) (key keyword.Last ∷ []) rest (sym w.if-begins.ensures)
      | then-begins-via-else-begins+then-begins-2 w ↦ starts_right (key keyword.First ∷ []) (key keyword.Last ∷ []) rest (sym w.if-begins-2.ensures)
    ] in
    record {
      exact = rw (
        told_before c.args.text.now (optional scope) (under_scope c.args.room) c.in_ok-scope.ensures.exact,
        some,
        made_before c.args.text.now rest c.in_ok-scope.scope Navigation (edge c.args.room (inside_path c.args.room)),
        c.in_ok-path.ensures.exact,
        ← V.rolls-Navigation c.in_ok-path.path,
        fold-roll-Expr Term term_step (E.Navigation c.in_ok-path.path),
      ) refl;
      stands = c.in_ok-path.ensures.stands;
      shorter = omega (arith, c.in_ok-scope.ensures.no_longer, c.in_ok-path.ensures.shorter);
    }

pub returns : goal.returns
unfolding scoped under_scope edge
returns c =
    let rest = c.in_ok-scope.rest.now in
    let none : starts (key keyword.First ∷ key keyword.Last ∷ []) rest ≡ false =
    rw (starts_append (key keyword.First ∷ []) (key keyword.Last ∷ []) rest, ← c.if-begins.ensures, ← c.if-begins-2.ensures) refl in
    record {
      exact = rw (
        told_before c.args.text.now (optional scope) (under_scope c.args.room) c.in_ok-scope.ensures.exact,
        none,
        made_before c.args.text.now rest c.in_ok-scope.scope Aggregated (aggregate c.args.room),
        c.in_ok-aggregate.ensures.exact,
        ← V.rolls-Aggregate c.in_ok-aggregate.aggregate,
        fold-roll-Expr Term term_step (E.Aggregate c.in_ok-aggregate.aggregate),
      ) refl;
      stands = c.in_ok-aggregate.ensures.stands;
      shorter = omega (arith, c.in_ok-scope.ensures.no_longer, c.in_ok-aggregate.ensures.shorter);
    }
