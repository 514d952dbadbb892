-- The faults of the parts of a clause over a table, each check, in the order in which they are looked for.
-- Which names and bounds a clause may have is ISO/IEC 9075-2:2016, 7.7 to 7.9; the order is this project's own.
use Rattle.std.specs.Prelude.{ℕ, Bool, suc, nat_le, true, false, not, ◌||◌, List, [], ◌∷◌, ◌++◌, map, Option, None, Some, is_some, option_map}
use Rattle.rp_value.specs.declared.table.Column.{Column}
use Rattle.rp_words.specs.Bounds.{bounds_hold}
use Rattle.rp_grammar.specs.declared.written.Name.{Name}
use Rattle.rp_tree.specs.declared.tree.Quantifier.{Quantifier}
use Rattle.rp_tree.specs.declared.tree.RowsPerMatch.{RowsPerMatch}
use Rattle.rp_tree.specs.declared.tree.RowsPerMatch.TheVariants.{One, AllShowEmpty, AllOmitEmpty, AllWithUnmatched}
use Rattle.rp_tree.specs.declared.tree.Skip.{Skip}
use Rattle.rp_tree.specs.declared.tree.Skip.TheVariants.{PastLastRow, ToNextRow, ToFirst, ToLast}
use Rattle.rp_tree.specs.Tree as tree
use Rattle.rp_tree.specs.Tree.{Tree}
use Rattle.rp_tree.specs.Terms.{Term}
use Rattle.rp_tree.specs.Clauses.{MeasureTree, UnionTree, DefinitionTree}
use Rattle.rp_resolution.specs.declared.fault.Fault.{Fault}
use Rattle.rp_resolution.specs.declared.fault.CheckKind.TheVariants.{UnknownColumn, UnknownVariable, DoubleName, KindMismatch, BadBounds, TooManyPermuted, ExclusionWithUnmatched}
use Rattle.rp_resolution.specs.Context.{Context, column_named}
use Rattle.rp_resolution.specs.Variables.{is_among}
use Rattle.rp_resolution.specs.Sorts.{sort_of, may_be_value, may_be_condition}
use Rattle.rp_resolution.specs.ExprFaults.{unless, variable_faults, expr_faults}

-- the faults of each element, which is looked at beside those before it
abbrev pub each_after : {A : Type 0} → (List A → A → List Fault) → List A → List A → List Fault
each_after look earlier [] = []
each_after look earlier (x ∷ xs) = look earlier x ++ each_after look (earlier ++ x ∷ []) xs

abbrev pub each : {A : Type 0} → (List A → A → List Fault) → List A → List Fault
each look xs = each_after look [] xs

-- 1. the pattern
abbrev pub quantifier_faults : Quantifier → List Fault
quantifier_faults q = unless (bounds_hold q.lower.count (option_map (λ b. b.count) q.upper)) BadBounds q.at

-- how many parts stand beside each other
abbrev pub part_count : Tree → ℕ
part_count (tree.Beside a b) = suc (part_count b)
part_count t = 1

abbrev pub pattern_faults : Tree → List Fault
pattern_faults (tree.Variable name) = []
pattern_faults tree.Empty = []
pattern_faults tree.PartitionStart = []
pattern_faults tree.PartitionEnd = []
pattern_faults (tree.Concatenation a b) = pattern_faults a ++ pattern_faults b
pattern_faults (tree.Alternation a b) = pattern_faults a ++ pattern_faults b
pattern_faults (tree.Beside a b) = pattern_faults a ++ pattern_faults b
pattern_faults (tree.Permute at body) = unless (nat_le (part_count body) 8) TooManyPermuted at ++ pattern_faults body
pattern_faults (tree.Exclusion at body) = pattern_faults body
pattern_faults (tree.Quantified q body) = pattern_faults body ++ quantifier_faults q

-- 2. SUBSET
abbrev pub member_faults : List (List ℕ) → List Name → Name → List Fault
member_faults variables earlier m = unless (is_among m.text variables) UnknownVariable m.at

-- whether a name is one of these, or of those
abbrev pub is_in_either : List ℕ → List (List ℕ) → List (List ℕ) → Bool
is_in_either name these those = is_among name these || is_among name those

abbrev pub union_faults : List (List ℕ) → List UnionTree → UnionTree → List Fault
union_faults variables earlier u =
    unless (not (is_in_either u.name.text variables (map (λ v. v.name.text) earlier))) DoubleName u.name.at
    ++ each (member_faults variables) u.members

-- 3. PARTITION BY, and then ORDER BY with the partition's columns before it
abbrev pub partition_faults : List Column → List Name → Name → List Fault
partition_faults columns earlier n =
    unless (is_some (column_named n.text columns)) UnknownColumn n.at
    ++ unless (not (is_among n.text (map (λ m. m.text) earlier))) DoubleName n.at

abbrev pub order_faults : List Column → List Name → List Name → Name → List Fault
order_faults columns partition earlier n =
    unless (is_some (column_named n.text columns)) UnknownColumn n.at
    ++ unless (not (is_in_either n.text (map (λ m. m.text) partition) (map (λ m. m.text) earlier))) DoubleName n.at

-- 4. the names of DEFINE
abbrev pub defined_faults : List (List ℕ) → List DefinitionTree → DefinitionTree → List Fault
defined_faults variables earlier d =
    unless (is_among d.name.text variables) UnknownVariable d.name.at
    ++ unless (not (is_among d.name.text (map (λ e. e.name.text) earlier))) DoubleName d.name.at

-- 5. the expressions of MEASURES, then of DEFINE
abbrev pub value_faults : Context → Term → ℕ → List Fault
value_faults x t at = expr_faults x t ++ unless (may_be_value (sort_of x t)) KindMismatch at

abbrev pub condition_faults : Context → Term → ℕ → List Fault
condition_faults x t at = expr_faults x t ++ unless (may_be_condition (sort_of x t)) KindMismatch at

abbrev pub measure_faults : Context → List MeasureTree → MeasureTree → List Fault
measure_faults x earlier m = value_faults x m.term m.at

abbrev pub definition_faults : Context → List DefinitionTree → DefinitionTree → List Fault
definition_faults x earlier d = condition_faults x d.term d.at

-- 6. the skip's variable
abbrev pub skip_faults : Context → Skip → List Fault
skip_faults x PastLastRow = []
skip_faults x ToNextRow = []
skip_faults x (ToFirst name) = variable_faults x name
skip_faults x (ToLast name) = variable_faults x name

-- 7. the first exclusion, with unmatched rows
abbrev pub first_of : Option ℕ → Option ℕ → Option ℕ
first_of None b = b
first_of (Some at) b = Some at

abbrev pub first_exclusion : Tree → Option ℕ
first_exclusion (tree.Variable name) = None
first_exclusion tree.Empty = None
first_exclusion tree.PartitionStart = None
first_exclusion tree.PartitionEnd = None
first_exclusion (tree.Concatenation a b) = first_of (first_exclusion a) (first_exclusion b)
first_exclusion (tree.Alternation a b) = first_of (first_exclusion a) (first_exclusion b)
first_exclusion (tree.Beside a b) = first_of (first_exclusion a) (first_exclusion b)
first_exclusion (tree.Permute at body) = first_exclusion body
first_exclusion (tree.Exclusion at body) = Some at
first_exclusion (tree.Quantified q body) = first_exclusion body

abbrev pub exclusion_faults : Option ℕ → List Fault
exclusion_faults None = []
exclusion_faults (Some at) = record { kind = ExclusionWithUnmatched; offset = at } ∷ []

abbrev pub unmatched_faults : RowsPerMatch → Tree → List Fault
unmatched_faults One t = []
unmatched_faults AllShowEmpty t = []
unmatched_faults AllOmitEmpty t = []
unmatched_faults AllWithUnmatched t = exclusion_faults (first_exclusion t)

-- 8. the names of measures beside those that stand in the output with them
abbrev pub shown_names : RowsPerMatch → List Name → List Column → List (List ℕ)
shown_names One partition columns = map (λ n. n.text) partition
shown_names AllShowEmpty partition columns = map (λ c. c.name) columns
shown_names AllOmitEmpty partition columns = map (λ c. c.name) columns
shown_names AllWithUnmatched partition columns = map (λ c. c.name) columns

abbrev pub output_faults : List (List ℕ) → List MeasureTree → MeasureTree → List Fault
output_faults shown earlier m =
    unless (not (is_in_either m.name.text shown (map (λ e. e.name.text) earlier))) DoubleName m.name.at
