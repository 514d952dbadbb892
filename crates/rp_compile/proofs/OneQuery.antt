-- A text has one query over a table, or a fault.
use Rattle.std.proofs.Common.{◌≡◌, ◌∙◌, ℕ, List, [], ◌∷◌, map, refl, sym, ap, subst}
use Rattle.std.specs.Prelude.{max}
use Rattle.rp_value.specs.declared.table.Column.{Column}
use Rattle.rp_lexer.specs.Laws.{OneTokenList, NoTokensWithFault}
use Rattle.rp_tree.specs.Clauses.{ClauseTree}
use Rattle.rp_syntax.specs.ClauseGrammar.{Derives}
use Rattle.rp_compile.specs.declared.compiling.CompileFault.TheVariants as fault
use Rattle.rp_resolution.specs.declared.fault.Fault.{Fault}
use Rattle.rp_query.specs.declared.query.QueryData.{QueryData}
use Rattle.rp_query.specs.declared.plan.Expr.{Expr}
use Rattle.rp_query.specs.declared.plan.Expr.TheOpen.{Expr-F, Literal, Navigation, Aggregate, MatchNumber, Classifier, Arithmetic}
use Rattle.rp_query.specs.declared.plan.Expr.TheViews.{roll-Expr}
use Rattle.rp_query.specs.declared.plan.Expr.TheFolds.{map-Expr, fold-roll-Expr, ind-Expr}
use Rattle.rp_query.specs.declared.plan.Condition.{Condition}
use Rattle.rp_query.specs.declared.plan.Condition.TheOpen.{Condition-F, Compare, IsNull, Not, And, Or}
use Rattle.rp_query.specs.declared.plan.Condition.TheViews.{roll-Condition}
use Rattle.rp_query.specs.declared.plan.Condition.TheFolds.{map-Condition, fold-roll-Condition, ind-Condition}
use Rattle.rp_check.specs.ClauseFaults.{faults}
use Rattle.rp_compile.specs.Compiled.{IsClauseOf}
use Rattle.rp_query.specs.Formulas as F
use Rattle.rp_query.specs.Formulas.{Formula, value_formula, value_step, condition_formula, condition_step}
use Rattle.rp_compile.specs.OneQuery.{OneQuery, NoQueryWithFault}
use Rattle.rp_same_query.specs.SameQuery.{IsSameQuery}
use Rattle.rp_resolution.specs.Queries.{greatest}
use Rattle.rp_check.specs.QueryOf.{IsQueryOf}
use Rattle.rp_query.specs.Reach.{rows_back, reach, reach_step, condition_reach, condition_reach_step}

-- how far back a formula looks
abbrev formula_reach : Formula → ℕ
formula_reach (F.Literal v) = 0
formula_reach (F.Cell n) = rows_back n.step
formula_reach (F.Aggregated number is_final) = 0
formula_reach F.MatchNumber = 0
formula_reach (F.Classifier names) = 0
formula_reach (F.Arithmetic o a b) = max (formula_reach a) (formula_reach b)
formula_reach (F.Compare c a b) = max (formula_reach a) (formula_reach b)
formula_reach (F.IsNull a) = formula_reach a
formula_reach (F.Not a) = formula_reach a
formula_reach (F.And a b) = max (formula_reach a) (formula_reach b)
formula_reach (F.Or a b) = max (formula_reach a) (formula_reach b)

abbrev HasReach : Expr → Type 0
HasReach x = reach x ≡ formula_reach (value_formula x)

abbrev exprs : Expr-F ((x : Expr) × HasReach x) → Expr-F Expr
exprs y = map-Expr ((x : Expr) × HasReach x) Expr (λ t. t.0) y

layer : (y : Expr-F ((x : Expr) × HasReach x)) → reach_step (map-Expr Expr ℕ reach (exprs y)) ≡ formula_reach (value_step (map-Expr Expr Formula value_formula (exprs y)))
layer (Literal v) = refl
layer (Navigation n) = refl
layer (Aggregate number is_final) = refl
layer MatchNumber = refl
layer (Classifier names) = refl
layer (Arithmetic o a b) = rw (a.value.1, b.value.1) refl

reach_by_formula : (x : Expr) → HasReach x
reach_by_formula = ind-Expr HasReach (λ x y is.
    subst (λ z. HasReach (roll-Expr z)) is
    (rw (fold-roll-Expr ℕ reach_step (exprs y), fold-roll-Expr Formula value_step (exprs y)) (layer y)))

abbrev HasReachToo : Condition → Type 0
HasReachToo c = condition_reach c ≡ formula_reach (condition_formula c)

abbrev conditions : Condition-F ((c : Condition) × HasReachToo c) → Condition-F Condition
conditions y = map-Condition ((c : Condition) × HasReachToo c) Condition (λ t. t.0) y

layer_too : (y : Condition-F ((c : Condition) × HasReachToo c))
    → condition_reach_step (map-Condition Condition ℕ condition_reach (conditions y)) ≡ formula_reach (condition_step (map-Condition Condition Formula condition_formula (conditions y)))
layer_too (Compare o a b) = rw (reach_by_formula a, reach_by_formula b) refl
layer_too (IsNull a) = reach_by_formula a
layer_too (Not a) = a.value.1
layer_too (And a b) = rw (a.value.1, b.value.1) refl
layer_too (Or a b) = rw (a.value.1, b.value.1) refl

condition_reach_by_formula : (c : Condition) → HasReachToo c
condition_reach_by_formula = ind-Condition HasReachToo (λ x y is.
    subst (λ z. HasReachToo (roll-Condition z)) is
    (rw (fold-roll-Condition ℕ condition_reach_step (conditions y), fold-roll-Condition Formula condition_step (conditions y)) (layer_too y)))

module _ {A : Type 0} (f : A → ℕ) (view : A → Formula) (by : (x : A) → f x ≡ formula_reach (view x)) where
  each_by : (xs : List A) → map f xs ≡ map formula_reach (map view xs)
  each_by [] = refl
  each_by (x ∷ xs) = rw (by x) (ap (λ ns. formula_reach (view x) ∷ ns) (each_by xs))

  -- what has the same formulas has the same reaches
  same_reach : (xs ys : List A) → map view xs ≡ map view ys → map f xs ≡ map f ys
  same_reach xs ys e = each_by xs ∙ (ap (map formula_reach) e ∙ sym (each_by ys))

one_is_same : (c : ClauseTree) (text : List ℕ) (columns : List Column) (q r : QueryData) → IsQueryOf c text columns q → IsQueryOf c text columns r → IsSameQuery q r
one_is_same c text columns q r a b =
    let measures : map value_formula q.plan.measures.items ≡ map value_formula r.plan.measures.items = a.measures ∙ sym b.measures in
    let truths : map condition_formula q.plan.conditions.items ≡ map condition_formula r.plan.conditions.items = a.conditions ∙ sym b.conditions in
    let back = same_reach reach value_formula reach_by_formula q.plan.measures.items r.plan.measures.items measures in
    let back_too = same_reach condition_reach condition_formula condition_reach_by_formula q.plan.conditions.items r.plan.conditions.items truths in
    record {
      text = a.text ∙ sym b.text;
      table = a.table ∙ sym b.table;
      pattern = a.pattern ∙ sym b.pattern;
      variables = a.variables ∙ sym b.variables;
      output = a.output ∙ sym b.output;
      reach =
          a.reach ∙ (ap (λ ns. max (greatest ns) (greatest (map condition_reach q.plan.conditions.items))) back
          ∙ (ap (λ ns. max (greatest (map reach r.plan.measures.items)) (greatest ns)) back_too ∙ sym b.reach));
      partition = a.partition ∙ sym b.partition;
      order = a.order ∙ sym b.order;
      measures = measures;
      rows = a.rows ∙ sym b.rows;
      skip = a.skip ∙ sym b.skip;
      conditions = truths;
      definitions = a.definitions ∙ sym b.definitions;
      totals = a.totals ∙ sym b.totals;
    }

module _ (lists : OneTokenList) (text : List ℕ) where
  same_clause : (c d : ClauseTree) → IsClauseOf text c → IsClauseOf text d → c ≡ d
  same_clause c d a b = a.only d (subst (λ ts. Derives text ts d) (lists text b.tokens a.tokens b.lexed a.lexed) b.derived)

pub one_query : OneTokenList → OneQuery
one_query lists text columns q r a b =
    let same = same_clause lists text a.clause b.clause a.written b.written in
    one_is_same a.clause text columns q r a.is (subst (λ c. IsQueryOf c text columns r) (sym same) b.is)

not_both : (fs : List Fault) (f : Fault) (others : List Fault) → fs ≡ [] → fs ≡ f ∷ others → ⊥
not_both fs f others none some = let clash : [] ≡ f ∷ others = sym none ∙ some in cc

pub no_query_with_fault : OneTokenList → NoTokensWithFault → NoQueryWithFault
no_query_with_fault lists apart text columns q (fault.Lex why) a h = absurd (apart text a.written.tokens why a.written.lexed h)
no_query_with_fault lists apart text columns q (fault.Parse why) a h =
    absurd (h.none a.clause (subst (λ ts. Derives text ts a.clause) (lists text a.written.tokens h.tokens a.written.lexed h.lexed) a.written.derived))
no_query_with_fault lists apart text columns q (fault.Check why) a h =
    let same = same_clause lists text a.clause h.clause a.written h.written in
    absurd (not_both (faults a.clause columns) why h.others a.clean (ap (λ c. faults c columns) same ∙ h.first))
no_query_with_fault lists apart text columns q fault.OutOfMemory a h = refl
