-- Chains of operators.
use Rattle.std.proofs.Common.{◌≡◌, ◌∙◌, ℕ, pos, Bool, List, [], ◌∷◌, ◌++◌, map, Some, Ok, Err, Result, refl, sym, ap, append_assoc, length, arith, drop, get_or, suc, ◌+◌, ◌<◌, add-one, drop-cons}
use Rattle.std.specs.Prelude.{MatchResult}
use Rattle.rp_tree.specs.declared.tree.Operation.{Operation}
use Rattle.rp_value.specs.declared.value.Value.TheVariants as value
use Rattle.rp_value.specs.declared.value.Kind.TheVariants as kind
use Rattle.rp_tree.specs.Terms.{Term, operand_of, Operate, Negative, Not, IsNull, from_left, from_right}
use Rattle.rp_query.specs.declared.plan.Operation.TheVariants.{Minus}
use Rattle.rp_tree.specs.declared.tree.Expr.{Expr}
use Rattle.rp_query.specs.Formulas as formula
use Rattle.rp_resolution.specs.declared.fault.CheckKind.TheVariants.{KindMismatch}
use Rattle.rp_resolution.specs.declared.fault.CheckFault.{CheckFault}
use Rattle.rp_resolution.specs.declared.fault.CheckFault.TheVariants as refusal
use Rattle.rp_resolution.specs.declared.resolved.Resolved.{Resolved}
use Rattle.rp_query.specs.Formulas.{Formula, PlainTotal}
use Rattle.rp_resolution.specs.Context.{Context}
use Rattle.rp_resolution.specs.Sorts.{Sort, Valued, Truth, sort_of, takes, operator_sort, may_be_number, may_be_condition, may_be_value}
use Rattle.rp_resolution.specs.ExprFaults.{unless, expr_faults}
use Rattle.rp_resolution.specs.Resolved.{operated, nullness, resolved, totals}
use Rattle.rp_resolution.specs.Checked.{Tells, FirstFaultOr, Is, Checks, Resolves, sort_in, formula_in}
use Rattle.rp_resolution.specs.Grouping.{wrapped, AreLefts}
use Rattle.rp_resolution.proofs.Telling.{tells_front, tells_behind, none_in_both, tells_memory}

-- what an operator makes of two operands
abbrev pub Operated : Operation → Resolved → Resolved → Result Resolved CheckFault → Type 0
Operated o a b result =
    FirstFaultOr (unless (takes o.operator (Some (sort_in a)) (Some (sort_in b))) KindMismatch o.at) (λ r. (sort_in r ≡ operator_sort o.operator) × (formula_in r ≡ operated o.operator (formula_in a) (formula_in b))) result

pub operate : (x : Context) (before mid now : List PlainTotal) (t u : Term) (o : Operation) (a b r : Resolved)
    → Resolves x before t a mid → Resolves x mid u b now → Operated o a b (Ok r) → Resolves x before (Operate t o u) r now
operate x before mid now t u o a b r left right done = record {
  clean = none_in_both (expr_faults x t) _ left.clean (none_in_both (expr_faults x u) _ right.clean (rw (left.sort, right.sort) done.0));
  sort = ap Some (sym done.1.0);
  formula = done.1.1 ∙ rw (left.formula, right.formula, left.totals) refl;
  totals = right.totals ∙ rw left.totals (append_assoc before (totals x t) (totals x u));
}

pub operate_fails : (x : Context) (before mid now : List PlainTotal) (t u : Term) (o : Operation) (a b : Resolved) (e : CheckFault)
    → Resolves x before t a mid → Resolves x mid u b now → Operated o a b (Err e) → Tells e (expr_faults x (Operate t o u))
operate_fails x before mid now t u o a b e left right told =
    tells_behind e (expr_faults x t) _ left.clean (tells_behind e (expr_faults x u) _ right.clean (rw (left.sort, right.sort) told))

-- a right operand's first fault, where the left has none
pub right_fails : (x : Context) (before mid : List PlainTotal) (t u : Term) (o : Operation) (a : Resolved) (e : CheckFault)
    → Resolves x before t a mid → Tells e (expr_faults x u) → Tells e (expr_faults x (Operate t o u))
right_fails x before mid t u o a e left told = tells_behind e (expr_faults x t) _ left.clean (tells_front e (expr_faults x u) _ told)

-- a fault of the first of a chain from the left
pub chain_fails : (x : Context) (e : CheckFault) (t : Term) (rest : List (Operation × Term)) → Tells e (expr_faults x t) → Tells e (expr_faults x (from_left t rest))
chain_fails x e t [] told = told
chain_fails x e t (p ∷ ps) told = chain_fails x e (Operate t p.0 p.1) ps (tells_front e (expr_faults x t) _ told)

-- a fault on the right of what is resolved
pub wrapped_fails : (x : Context) (before : List PlainTotal) (e : CheckFault) (ps : List (Term × Operation)) (lefts : List (Resolved × Operation)) (mid : List PlainTotal) (t : Term)
    → AreLefts x before ps lefts mid → Tells e (expr_faults x t) → Tells e (expr_faults x (wrapped ps t))
wrapped_fails x before e [] lefts mid t are told = told
wrapped_fails x before e (p ∷ ps) lefts mid t are told =
    wrapped_fails x before e ps are.0 are.2 (Operate p.0 p.1 t) are.4 (tells_behind e (expr_faults x p.0) _ are.5.clean (tells_front e (expr_faults x t) _ told))

-- what is still to be done
pub record GoesOn (x : Context) (before : List PlainTotal) (whole : Term) (lefts : List (Resolved × Operation)) (right : Resolved) (now : List PlainTotal) : Type 0 where
  pub ps : List (Term × Operation)
  pub mid : List PlainTotal
  pub t : Term
  pub are : AreLefts x before ps lefts mid
  pub stands : Resolves x mid t right now
  pub is_whole : whole ≡ wrapped ps t

no_snoc : {A : Type 0} (xs : List A) (x : A) → xs ++ x ∷ [] ≡ [] → ⊥
no_snoc [] x e = cc
no_snoc (y ∷ ys) x e = cc

same_snoc : {A : Type 0} (xs ys : List A) (x y : A) → xs ++ x ∷ [] ≡ ys ++ y ∷ [] → (xs ≡ ys) × (x ≡ y)
same_snoc [] [] x y e = (refl, cc)
same_snoc [] (b ∷ bs) x y e = absurd (no_snoc bs y (let f : [] ≡ bs ++ y ∷ [] = cc in sym f))
same_snoc (a ∷ as') [] x y e = absurd (no_snoc as' x (let f : as' ++ x ∷ [] ≡ [] = cc in f))
same_snoc (a ∷ as') (b ∷ bs) x y e =
    let f : as' ++ x ∷ [] ≡ bs ++ y ∷ [] = cc in
    let h : a ≡ b = cc in
    let g = same_snoc as' bs x y f in
    (rw (h, g.0) refl, g.1)

-- the nearest on the left is taken
pub goes_on : (x : Context) (before now : List PlainTotal) (whole : Term) (items others : List (Resolved × Operation)) (l right r : Resolved) (o : Operation)
    → GoesOn x before whole items right now → items ≡ others ++ (l, o) ∷ [] → Operated o l right (Ok r) → GoesOn x before whole others r now
goes_on x before now whole items others l right r o g is done = go g.ps g.are g.is_whole
  where
    go : (ps : List (Term × Operation)) → AreLefts x before ps items g.mid → whole ≡ wrapped ps g.t → GoesOn x before whole others r now
    go [] are w = absurd (no_snoc others (l, o) (sym is ∙ are.0))
    go (p ∷ ps) are w =
        let same = same_snoc others are.0 (l, o) (are.1, p.1) (sym is ∙ are.3) in
        let left : are.1 ≡ l = sym (ap (λ (q : Resolved × Operation). q.0) same.1) in
        let sign : p.1 ≡ o = sym (ap (λ (q : Resolved × Operation). q.1) same.1) in
        record {
          ps = ps;
          mid = are.2;
          t = Operate p.0 p.1 g.t;
          are = rw same.0 are.4;
          stands = operate x are.2 g.mid now p.0 g.t p.1 are.1 right r are.5 g.stands (rw (left, sign) done);
          is_whole = w;
        }

pub goes_wrong : (x : Context) (before now : List PlainTotal) (whole : Term) (items others : List (Resolved × Operation)) (l right : Resolved) (e : CheckFault) (o : Operation)
    → GoesOn x before whole items right now → items ≡ others ++ (l, o) ∷ [] → Operated o l right (Err e) → Tells e (expr_faults x whole)
goes_wrong x before now whole items others l right e o g is told = go g.ps g.are g.is_whole
  where
    go : (ps : List (Term × Operation)) → AreLefts x before ps items g.mid → whole ≡ wrapped ps g.t → Tells e (expr_faults x whole)
    go [] are w = absurd (no_snoc others (l, o) (sym is ∙ are.0))
    go (p ∷ ps) are w =
        let same = same_snoc others are.0 (l, o) (are.1, p.1) (sym is ∙ are.3) in
        let left : are.1 ≡ l = sym (ap (λ (q : Resolved × Operation). q.0) same.1) in
        let sign : p.1 ≡ o = sym (ap (λ (q : Resolved × Operation). q.1) same.1) in
        rw w (wrapped_fails x before e ps are.0 are.2 (Operate p.0 p.1 g.t) are.4 (operate_fails x are.2 g.mid now p.0 g.t p.1 are.1 right e are.5 g.stands (rw (left, sign) told)))

no_length : {A : Type 0} (xs : List A) → length xs ≡ 0 → xs ≡ []
no_length [] e = refl
no_length (x ∷ xs) e = absurd (omega arith)

-- nothing is left of it
pub goes_home : (x : Context) (before now : List PlainTotal) (whole : Term) (items : List (Resolved × Operation)) (right : Resolved)
    → GoesOn x before whole items right now → length items ≡ 0 → Resolves x before whole right now
goes_home x before now whole items right g none = go g.ps g.are g.is_whole
  where
    is : items ≡ []
    is = no_length items none

    go : (ps : List (Term × Operation)) → AreLefts x before ps items g.mid → whole ≡ wrapped ps g.t → Resolves x before whole right now
    go [] are w = rw (w, sym are.1) g.stands
    go (p ∷ ps) are w = absurd (no_snoc are.0 (are.1, p.1) (sym are.3 ∙ is))

-- one more on the left
pub one_more : (x : Context) (before mid now : List PlainTotal) (ps : List (Term × Operation)) (items : List (Resolved × Operation)) (t : Term) (o : Operation) (r : Resolved)
    → AreLefts x before ps items mid → Resolves x mid t r now → AreLefts x before ((t, o) ∷ ps) (items ++ (r, o) ∷ []) now
one_more x before mid now ps items t o r are stands = (items, r, mid, refl, are, stands)

-- a chain from the right, of which so much was gone through
pub record GoneThrough (x : Context) (before : List PlainTotal) (whole : Term) (lefts : List (Resolved × Operation)) (last : Resolved) (now : List PlainTotal) (rest : List (Operation × Term)) : Type 0 where
  pub ps : List (Term × Operation)
  pub mid : List PlainTotal
  pub t : Term
  pub are : AreLefts x before ps lefts mid
  pub stands : Resolves x mid t last now
  pub is_whole : whole ≡ wrapped ps (from_right t rest)

-- a chain from the left, of which so much was gone through
pub record SoFar (x : Context) (before : List PlainTotal) (whole : Term) (sum : Resolved) (now : List PlainTotal) (rest : List (Operation × Term)) : Type 0 where
  pub t : Term
  pub stands : Resolves x before t sum now
  pub is_whole : whole ≡ from_left t rest

pub next_sum : (x : Context) (before mid now : List PlainTotal) (whole : Term) (sum right r : Resolved) (o : Operation) (u : Term) (rest : List (Operation × Term))
    → SoFar x before whole sum mid ((o, u) ∷ rest) → Resolves x mid u right now → Operated o sum right (Ok r) → SoFar x before whole r now rest
next_sum x before mid now whole sum right r o u rest s stands done = record {
  t = Operate s.t o u;
  stands = operate x before mid now s.t u o sum right r s.stands stands done;
  is_whole = s.is_whole;
}

pub operand_fails : (x : Context) (before mid : List PlainTotal) (whole : Term) (sum : Resolved) (o : Operation) (u : Term) (rest : List (Operation × Term)) (e : CheckFault)
    → SoFar x before whole sum mid ((o, u) ∷ rest) → Tells e (expr_faults x u) → Tells e (expr_faults x whole)
operand_fails x before mid whole sum o u rest e s told = rw s.is_whole (chain_fails x e (Operate s.t o u) rest (right_fails x before mid s.t u o sum e s.stands told))

pub sum_fails : (x : Context) (before mid now : List PlainTotal) (whole : Term) (sum right : Resolved) (o : Operation) (u : Term) (rest : List (Operation × Term)) (e : CheckFault)
    → SoFar x before whole sum mid ((o, u) ∷ rest) → Resolves x mid u right now → Operated o sum right (Err e) → Tells e (expr_faults x whole)
sum_fails x before mid now whole sum right o u rest e s stands told = rw s.is_whole (chain_fails x e (Operate s.t o u) rest (operate_fails x before mid now s.t u o sum right e s.stands stands told))

pub all_summed : (x : Context) (before : List PlainTotal) (whole : Term) (sum : Resolved) (now : List PlainTotal) → SoFar x before whole sum now [] → Resolves x before whole sum now
all_summed x before whole sum now s = rw s.is_whole s.stands

pub next_last : (x : Context) (before mid now : List PlainTotal) (whole : Term) (lefts : List (Resolved × Operation)) (last next : Resolved) (o : Operation) (u : Term) (rest : List (Operation × Term))
    → GoneThrough x before whole lefts last mid ((o, u) ∷ rest) → Resolves x mid u next now → GoneThrough x before whole (lefts ++ (last, o) ∷ []) next now rest
next_last x before mid now whole lefts last next o u rest g stands = record {
  ps = (g.t, o) ∷ g.ps;
  mid = mid;
  t = u;
  are = one_more x before g.mid mid g.ps lefts g.t o last g.are g.stands;
  stands = stands;
  is_whole = g.is_whole;
}

right_chain_fails : (x : Context) (e : CheckFault) (t : Term) (rest : List (Operation × Term)) → Tells e (expr_faults x t) → Tells e (expr_faults x (from_right t rest))
right_chain_fails x e t [] told = told
right_chain_fails x e t (p ∷ ps) told = tells_front e (expr_faults x t) _ told

pub last_fails : (x : Context) (before mid : List PlainTotal) (whole : Term) (lefts : List (Resolved × Operation)) (last : Resolved) (o : Operation) (u : Term) (rest : List (Operation × Term)) (e : CheckFault)
    → GoneThrough x before whole lefts last mid ((o, u) ∷ rest) → Tells e (expr_faults x u) → Tells e (expr_faults x whole)
last_fails x before mid whole lefts last o u rest e g told =
    rw g.is_whole (wrapped_fails x before e g.ps lefts g.mid (Operate g.t o (from_right u rest)) g.are
    (tells_behind e (expr_faults x g.t) _ g.stands.clean (tells_front e (expr_faults x (from_right u rest)) _ (right_chain_fails x e u rest told))))

-- operators before one operand
pub negative_fails : (x : Context) (at : ℕ) (t : Term) (e : CheckFault) → Tells e (expr_faults x t) → Tells e (expr_faults x (Negative at t))
negative_fails x at t e told = tells_front e (expr_faults x t) _ told

pub not_fails : (x : Context) (at : ℕ) (t : Term) (e : CheckFault) → Tells e (expr_faults x t) → Tells e (expr_faults x (Not at t))
not_fails x at t e told = tells_front e (expr_faults x t) _ told

pub null_fails : (x : Context) (at : ℕ) (negated : Bool) (t : Term) (e : CheckFault) → Tells e (expr_faults x t) → Tells e (expr_faults x (IsNull at negated t))
null_fails x at negated t e told = tells_front e (expr_faults x t) _ told

pub left_operand_fails : (x : Context) (t u : Term) (o : Operation) (e : CheckFault) → Tells e (expr_faults x t) → Tells e (expr_faults x (Operate t o u))
left_operand_fails x t u o e told = tells_front e (expr_faults x t) _ told

pub first_fails : (x : Context) (t : Term) (rest : List (Operation × Term)) (e : CheckFault) → Tells e (expr_faults x t) → Tells e (expr_faults x (from_left t rest))
first_fails x t rest e told = chain_fails x e t rest told

pub first_of_right_fails : (x : Context) (t : Term) (rest : List (Operation × Term)) (e : CheckFault) → Tells e (expr_faults x t) → Tells e (expr_faults x (from_right t rest))
first_of_right_fails x t rest e told = right_chain_fails x e t rest told

pub operator_checks : (x : Context) (before mid now : List PlainTotal) (t u : Term) (o : Operation) (a b : Resolved) (result : Result Resolved CheckFault)
    → Resolves x before t a mid → Resolves x mid u b now → Operated o a b result → Checks x before (Operate t o u) result now
operator_checks x before mid now t u o a b (Ok r) left right done = operate x before mid now t u o a b r left right done
operator_checks x before mid now t u o a b (Err e) left right told = operate_fails x before mid now t u o a b e left right told

pub negative_checks : (x : Context) (before now : List PlainTotal) (at : ℕ) (t : Term) (b : Resolved) (result : Result Resolved CheckFault) → Resolves x before t b now
    → FirstFaultOr (unless (may_be_number (Some (sort_in b))) KindMismatch at) (λ r. (sort_in r ≡ Valued kind.Int) × (formula_in r ≡ formula.Arithmetic Minus (formula.Literal (value.Int (pos 0))) (formula_in b))) result
    → Checks x before (Negative at t) result now
negative_checks x before now at t b (Ok r) body done = record {
  clean = none_in_both (expr_faults x t) _ body.clean (rw body.sort done.0);
  sort = ap Some (sym done.1.0);
  formula = done.1.1 ∙ rw body.formula refl;
  totals = body.totals;
}
negative_checks x before now at t b (Err e) body told = tells_behind e (expr_faults x t) _ body.clean (rw body.sort told)

pub not_checks : (x : Context) (before now : List PlainTotal) (at : ℕ) (t : Term) (b : Resolved) (result : Result Resolved CheckFault) → Resolves x before t b now
    → FirstFaultOr (unless (may_be_condition (Some (sort_in b))) KindMismatch at) (λ r. (sort_in r ≡ Truth) × (formula_in r ≡ formula.Not (formula_in b))) result
    → Checks x before (Not at t) result now
not_checks x before now at t b (Ok r) body done = record {
  clean = none_in_both (expr_faults x t) _ body.clean (rw body.sort done.0);
  sort = ap Some (sym done.1.0);
  formula = done.1.1 ∙ rw body.formula refl;
  totals = body.totals;
}
not_checks x before now at t b (Err e) body told = tells_behind e (expr_faults x t) _ body.clean (rw body.sort told)

pub null_checks : (x : Context) (before now : List PlainTotal) (at : ℕ) (negated : Bool) (t : Term) (b : Resolved) (result : Result Resolved CheckFault) → Resolves x before t b now
    → FirstFaultOr (unless (may_be_value (Some (sort_in b))) KindMismatch at) (λ r. (sort_in r ≡ Truth) × (formula_in r ≡ nullness negated (formula_in b))) result
    → Checks x before (IsNull at negated t) result now
null_checks x before now at negated t b (Ok r) body done = record {
  clean = none_in_both (expr_faults x t) _ body.clean (rw body.sort done.0);
  sort = ap Some (sym done.1.0);
  formula = done.1.1 ∙ rw body.formula refl;
  totals = body.totals;
}
null_checks x before now at negated t b (Err e) body told = tells_behind e (expr_faults x t) _ body.clean (rw body.sort told)

-- a value alone, where nothing is at fault
pub value_checks : (x : Context) (before now : List PlainTotal) (t : Term) (sort : Sort) (f : Formula) (result : Result Resolved CheckFault)
    → expr_faults x t ≡ [] → sort_of x t ≡ Some sort → f ≡ resolved x before t → now ≡ before ++ totals x t
    → MatchResult result (Is sort f) (λ e. e ≡ refusal.OutOfMemory) → Checks x before t result now
value_checks x before now t sort f (Ok r) clean known meant added is = record {
  clean = clean;
  sort = known ∙ ap Some (sym is.0);
  formula = is.1 ∙ meant;
  totals = added;
}
value_checks x before now t sort f (Err e) clean known meant added is = tells_memory e (expr_faults x t) is

-- the first of what is still to be gone through
pub taken : (items : List (Operation × Expr)) (i : ℕ) (p : Operation × Expr) → i < length items → p ≡ get_or items i p
    → map operand_of (drop i items) ≡ operand_of p ∷ map operand_of (drop (i + 1) items)
taken items i p h e = rw (add-one, drop-cons items i p) (ap (λ (z : Operation × Expr). operand_of z ∷ map operand_of (drop (suc i) items)) (sym e))
