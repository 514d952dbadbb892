-- The variables that a clause without faults names are those of its pattern.
use Rattle.std.proofs.Common.{◌≡◌, ◌∙◌, ℕ, ◌<◌, ◌+◌, Bool, true, false, Option, None, Some, List, [], ◌∷◌, ◌++◌, map, length, refl, sym, ap, arith, cond, subst}
use Rattle.std.specs.Prelude.{is_some, nat_eq, nat_lt, ◌&&◌}
use Rattle.std.specs.List.{AllByRecursion, list_any}
use Rattle.std.proofs.lemmas.Bool.Decides.{nat_tests}
use Rattle.std.proofs.lemmas.List.Folds.{list_all-append}
use Rattle.rp_value.specs.declared.table.Column.{Column}
use Rattle.rp_grammar.specs.declared.written.Name.{Name}
use Rattle.rp_tree.specs.declared.tree.AggregateFunction.{AggregateFunction}
use Rattle.rp_tree.specs.declared.tree.AggregateFunction.TheVariants as computed
use Rattle.rp_tree.specs.declared.tree.Counted.{Counted}
use Rattle.rp_tree.specs.declared.tree.Counted.TheVariants as counted
use Rattle.rp_tree.specs.declared.tree.Skip.{Skip}
use Rattle.rp_tree.specs.declared.tree.Skip.TheVariants as written
use Rattle.rp_tree.specs.Paths.{Path}
use Rattle.rp_tree.specs.Terms.{Term, Number, Literal, Navigation, Aggregated, MatchNumber, Classifier, Negative, Not, IsNull, Operate}
use Rattle.rp_tree.specs.Clauses.{UnionTree}
use Rattle.rp_query.specs.Allowed.{are_variables, may_mean, is_of_variables, skips_to_variables}
use Rattle.rp_resolution.specs.PartFaults.{each, each_after, member_faults, union_faults, skip_faults}
use Rattle.rp_resolution.specs.Context.{Context, Naming, members_named, is_name}
use Rattle.rp_query.specs.Formulas.{PlainTotal}
use Rattle.rp_resolution.specs.Queries.{totals_of, rule_meant}
use Rattle.rp_query.specs.SkipRules.{SkipRule, ToFirst, ToLast}
use Rattle.rp_resolution.specs.Resolved.{column_in, members_meant, listing_total, path_members, total_counted, total_over, totals}
use Rattle.rp_resolution.specs.Variables.{is_among, number_of, numbered, with_member, with_members, union_of, context}
use Rattle.rp_resolution.proofs.Clean.{none_left, none_right, holds, both, each_clean}
use Rattle.rp_resolution.proofs.Joining.{among_place}

pub all_both : {A : Type 0} (P : A → Type 0) (xs ys : List A) → AllByRecursion P xs → AllByRecursion P ys → AllByRecursion P (xs ++ ys)
all_both P [] ys h g = g
all_both P (x ∷ xs) ys h g = (h.0, all_both P xs ys h.1 g)

abbrev NamesVariables : ℕ → Naming → Type 0
NamesVariables count s = are_variables count s.members ≡ true

abbrev IsMeant : ℕ → PlainTotal → Type 0
IsMeant count t = is_of_variables count t ≡ true

below : (k count : ℕ) → k < count → nat_lt k count ≡ true
below k count h = grind (arith, nat_tests)

-- a variable stands for itself
variables_named : (count k : ℕ) (names : List (List ℕ)) → k + length names ≡ count → AllByRecursion (NamesVariables count) (numbered k names)
variables_named count k [] e = tt
variables_named count k (n ∷ ns) e = (both _ _ (below k count (omega (arith, e))) refl, variables_named count (k + 1) ns (omega (arith, e)))

module _ (variables : List (List ℕ)) where
  member_below : (m : Name) → is_among m.text variables ≡ true → nat_lt (number_of m.text variables) (length variables) ≡ true
  member_below m e = sym (among_place (λ other. is_name m.text other) variables) ∙ e

  member_added : (numbers : List ℕ) (m : Name) → is_among m.text variables ≡ true → are_variables (length variables) numbers ≡ true
      → are_variables (length variables) (with_member variables numbers m) ≡ true
  member_added numbers m e h = go (list_any (λ k. nat_eq k (number_of m.text variables)) numbers)
    where
      go : (b : Bool) → are_variables (length variables) (cond b numbers (numbers ++ number_of m.text variables ∷ [])) ≡ true
      go true = h
      go false = list_all-append (λ k. nat_lt k (length variables)) numbers (number_of m.text variables ∷ []) ∙ both _ _ h (both _ _ (member_below m e) refl)

  members_added : (numbers : List ℕ) (ms : List Name) → AllByRecursion (λ m. is_among m.text variables ≡ true) ms → are_variables (length variables) numbers ≡ true
      → are_variables (length variables) (with_members variables numbers ms) ≡ true
  members_added numbers [] e h = h
  members_added numbers (m ∷ ms) e h = members_added (with_member variables numbers m) ms e.1 (member_added numbers m e.0 h)

  union_named : (earlier : List UnionTree) (u : UnionTree) → union_faults variables earlier u ≡ [] → NamesVariables (length variables) (union_of variables u)
  union_named earlier u e =
      members_added [] u.members
      (each_clean (λ m. is_among m.text variables ≡ true) (member_faults variables) (λ before m none. holds _ _ _ none) [] u.members (none_right _ (each (member_faults variables) u.members) e))
      refl

  unions_named : (us : List UnionTree) → each (union_faults variables) us ≡ [] → AllByRecursion (NamesVariables (length variables)) (map (union_of variables) us)
  unions_named us e = go us (each_clean (λ u. NamesVariables (length variables) (union_of variables u)) (union_faults variables) union_named [] us e)
    where
      go : (vs : List UnionTree) → AllByRecursion (λ u. NamesVariables (length variables) (union_of variables u)) vs → AllByRecursion (NamesVariables (length variables)) (map (union_of variables) vs)
      go [] h = tt
      go (v ∷ vs) h = (h.0, go vs h.1)

  -- what an expression may name are variables and sets of them
  pub sets_named : (us : List UnionTree) (columns : List Column) (in_define : Bool) → each (union_faults variables) us ≡ []
      → AllByRecursion (NamesVariables (length variables)) (context variables us columns in_define).sets
  sets_named us columns in_define e =
      all_both (NamesVariables (length variables)) (numbered 0 variables) (map (union_of variables) us) (variables_named (length variables) 0 variables (omega arith)) (unions_named us e)

module _ (x : Context) (count : ℕ) (sets : AllByRecursion (NamesVariables count) x.sets) where
  found_named : (name : List ℕ) (ss : List Naming) → AllByRecursion (NamesVariables count) ss → may_mean count (members_named name ss) ≡ true
  found_named name [] h = refl
  found_named name (s ∷ ss) h = go (is_name name s.name) (found_named name ss h.1)
    where
      go : (b : Bool) → may_mean count (members_named name ss) ≡ true → may_mean count (cond b (Some s.members) (members_named name ss)) ≡ true
      go true rest = h.0
      go false rest = rest

  meant : (qualifier : Option Name) → may_mean count (members_meant x qualifier) ≡ true
  meant None = refl
  meant (Some name) = found_named name.text x.sets sets

  listing_named : (o : Option (List ℕ)) → may_mean count o ≡ true → AllByRecursion (IsMeant count) (listing_total o)
  listing_named None h = tt
  listing_named (Some members) h = (h, tt)

  counted_named : (c : Counted) → IsMeant count (total_counted x c)
  counted_named counted.Rows = refl
  counted_named (counted.RowsOf name) = found_named name.text x.sets sets
  counted_named (counted.Column c) = meant c.qualifier

  total_named : (f : AggregateFunction) → IsMeant count (total_over x f)
  total_named (computed.Count c) = counted_named c
  total_named (computed.Sum c) = meant c.qualifier
  total_named (computed.Min c) = meant c.qualifier
  total_named (computed.Max c) = meant c.qualifier

  totals_named : (t : Term) → AllByRecursion (IsMeant count) (totals x t)
  totals_named (Number at value) = tt
  totals_named (Literal at text) = tt
  totals_named (Navigation path) = listing_named (path_members x path) (meant (column_in path).qualifier)
  totals_named (Aggregated a) = (total_named a.function, tt)
  totals_named (MatchNumber at) = tt
  totals_named (Classifier at) = tt
  totals_named (Negative at body) = totals_named body
  totals_named (Not at body) = totals_named body
  totals_named (IsNull at negated body) = totals_named body
  totals_named (Operate a o b) = all_both (IsMeant count) (totals x a) (totals x b) (totals_named a) (totals_named b)

  pub all_totals_named : (ts : List Term) → AllByRecursion (IsMeant count) (totals_of x ts)
  all_totals_named [] = tt
  all_totals_named (t ∷ ts) = all_both (IsMeant count) (totals x t) (totals_of x ts) (totals_named t) (all_totals_named ts)

  skips_to : (o : Option (List ℕ)) → is_some o ≡ true → may_mean count o ≡ true → (skips_to_variables count (ToFirst o) ≡ true) × (skips_to_variables count (ToLast o) ≡ true)
  skips_to None e h = absurd cc
  skips_to (Some numbers) e h = (h, h)

  pub skip_named : (s : Skip) → skip_faults x s ≡ [] → skips_to_variables count (rule_meant x s) ≡ true
  skip_named written.PastLastRow e = refl
  skip_named written.ToNextRow e = refl
  skip_named (written.ToFirst name) e = (skips_to (members_named name.text x.sets) (holds _ _ _ e) (found_named name.text x.sets sets)).0
  skip_named (written.ToLast name) e = (skips_to (members_named name.text x.sets) (holds _ _ _ e) (found_named name.text x.sets sets)).1
