-- The literals of a clause's measures have 64 bits: a number outside of them is null.
use Rattle.std.proofs.Common.{ℕ, pos, Bool, true, false, List, [], ◌∷◌, ◌++◌, map, sym, subst, arith}
use Rattle.std.specs.Prelude.{⊤, All}
use Rattle.std.specs.List.{AllByRecursion}
use Rattle.std.proofs.lemmas.List.Elements.{All-from_recursion}
use Rattle.rp_value.specs.declared.table.Column.{Column}
use Rattle.rp_value.specs.declared.value.Value.TheVariants as value
use Rattle.rp_tree.specs.Clauses.{ClauseTree}
use Rattle.rp_tree.specs.Terms.{Term, Number, Literal, Navigation, Aggregated, MatchNumber, Classifier, Negative, Not, IsNull, Operate}
use Rattle.rp_tree.specs.declared.tree.Operator.{Operator}
use Rattle.rp_tree.specs.declared.tree.Operator.TheVariants as operator
use Rattle.rp_query.specs.Formulas as F
use Rattle.rp_query.specs.Formulas.{Formula, PlainTotal, value_formula}
use Rattle.rp_query.specs.declared.plan.Expr.{Expr}
use Rattle.rp_query.specs.declared.query.QueryData.{QueryData}
use Rattle.rp_protocol.specs.Within.{IsCell}
use Rattle.rp_resolution.specs.Context.{Context}
use Rattle.rp_resolution.specs.Queries.{formulas, terms_of_measures}
use Rattle.rp_resolution.specs.Resolved.{nullness, operated, resolved, totals}
use Rattle.rp_resolution.specs.Variables.{variables_of}
use Rattle.rp_check.specs.QueryOf.{IsQueryOf, measuring}
use Rattle.rp_named_answers.proofs.Numbers.{fitted_within}

-- each literal in it has 64 bits
abbrev pub HoldsCells : Formula → Type 0
HoldsCells (F.Literal v) = IsCell v
HoldsCells (F.Classifier names) = AllByRecursion IsCell names
HoldsCells (F.Arithmetic o a b) = HoldsCells a × HoldsCells b
HoldsCells _ = ⊤

operated_holds : (o : Operator) (f g : Formula) → HoldsCells f → HoldsCells g → HoldsCells (operated o f g)
operated_holds operator.Or f g h k = tt
operated_holds operator.And f g h k = tt
operated_holds operator.Equals f g h k = tt
operated_holds operator.NotEquals f g h k = tt
operated_holds operator.Less f g h k = tt
operated_holds operator.LessOrEquals f g h k = tt
operated_holds operator.Greater f g h k = tt
operated_holds operator.GreaterOrEquals f g h k = tt
operated_holds operator.Plus f g h k = (h, k)
operated_holds operator.Minus f g h k = (h, k)
operated_holds operator.Times f g h k = (h, k)

nullness_holds : (negated : Bool) (f : Formula) → HoldsCells (nullness negated f)
nullness_holds true f = tt
nullness_holds false f = tt

module _ (x : Context) (classes : AllByRecursion IsCell x.classes) where
  resolved_holds : (before : List PlainTotal) (t : Term) → HoldsCells (resolved x before t)
  resolved_holds before (Number at n) = fitted_within (pos n)
  resolved_holds before (Literal at text) = tt
  resolved_holds before (Navigation path) = tt
  resolved_holds before (Aggregated a) = tt
  resolved_holds before (MatchNumber at) = tt
  resolved_holds before (Classifier at) = classes
  resolved_holds before (Negative at body) = (omega arith, resolved_holds before body)
  resolved_holds before (Not at body) = tt
  resolved_holds before (IsNull at negated body) = nullness_holds negated (resolved x before body)
  resolved_holds before (Operate a o b) =
      operated_holds o.operator (resolved x before a) (resolved x (before ++ totals x a) b) (resolved_holds before a) (resolved_holds (before ++ totals x a) b)

  formulas_hold : (before : List PlainTotal) (ts : List Term) → AllByRecursion HoldsCells (formulas x before ts)
  formulas_hold before [] = tt
  formulas_hold before (t ∷ ts) = (resolved_holds before t, formulas_hold (before ++ totals x t) ts)

names_hold : (names : List (List ℕ)) → AllByRecursion IsCell (map value.Text names)
names_hold [] = tt
names_hold (n ∷ ns) = (tt, names_hold ns)

each_formula : (es : List Expr) → AllByRecursion HoldsCells (map value_formula es) → AllByRecursion (λ e. HoldsCells (value_formula e)) es
each_formula [] h = tt
each_formula (e ∷ es) h = (h.0, each_formula es h.1)

pub measures_hold : (c : ClauseTree) (text : List ℕ) (columns : List Column) (q : QueryData) → IsQueryOf c text columns q → All (λ e. HoldsCells (value_formula e)) q.plan.measures.items
measures_hold c text columns q is =
    All-from_recursion (λ e. HoldsCells (value_formula e)) q.plan.measures.items
    (each_formula q.plan.measures.items
    (subst (AllByRecursion HoldsCells) (sym is.measures) (formulas_hold (measuring c columns) (names_hold (variables_of c.pattern)) [] (terms_of_measures c.measures))))
