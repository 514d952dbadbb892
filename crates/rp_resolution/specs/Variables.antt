-- The variables of a pattern, numbered by first appearance, and the unions beside them.
use Rattle.std.specs.Prelude.{ℕ, ◌+◌, Bool, List, [], ◌∷◌, ◌++◌, map, cond, nat_eq}
use Rattle.std.specs.List.{list_any, position_or_len}
use Rattle.rp_value.specs.declared.table.Column.{Column}
use Rattle.rp_value.specs.declared.value.Value.TheVariants as value
use Rattle.rp_grammar.specs.declared.written.Name.{Name}
use Rattle.rp_tree.specs.Tree as tree
use Rattle.rp_tree.specs.Tree.{Tree}
use Rattle.rp_tree.specs.Clauses.{UnionTree}
use Rattle.rp_resolution.specs.Context.{Context, Naming, is_name}

-- whether the name is among these
abbrev pub is_among : List ℕ → List (List ℕ) → Bool
is_among name names = list_any (λ other. is_name name other) names

-- the number of the name, from 0: how many stand before it
abbrev pub number_of : List ℕ → List (List ℕ) → ℕ
number_of name names = position_or_len (λ other. is_name name other) names

abbrev pub added : List (List ℕ) → List ℕ → List (List ℕ)
added names name = cond (is_among name names) names (names ++ name ∷ [])

-- these names, and then the variables of a pattern, each once, by first appearance
abbrev pub variables_after : List (List ℕ) → Tree → List (List ℕ)
variables_after names (tree.Variable name) = added names name.text
variables_after names tree.Empty = names
variables_after names tree.PartitionStart = names
variables_after names tree.PartitionEnd = names
variables_after names (tree.Concatenation a b) = variables_after (variables_after names a) b
variables_after names (tree.Alternation a b) = variables_after (variables_after names a) b
variables_after names (tree.Beside a b) = variables_after (variables_after names a) b
variables_after names (tree.Permute at body) = variables_after names body
variables_after names (tree.Exclusion at body) = variables_after names body
variables_after names (tree.Quantified q body) = variables_after names body

abbrev pub variables_of : Tree → List (List ℕ)
variables_of t = variables_after [] t

abbrev pub numbered : ℕ → List (List ℕ) → List Naming
numbered k [] = []
numbered k (n ∷ ns) = record { name = n; members = k ∷ [] } ∷ numbered (k + 1) ns

-- the numbers of members, each once
abbrev pub with_member : List (List ℕ) → List ℕ → Name → List ℕ
with_member variables numbers m =
    let number = number_of m.text variables in
    cond (list_any (λ k. nat_eq k number) numbers) numbers (numbers ++ number ∷ [])

abbrev pub with_members : List (List ℕ) → List ℕ → List Name → List ℕ
with_members variables numbers [] = numbers
with_members variables numbers (m ∷ ms) = with_members variables (with_member variables numbers m) ms

abbrev pub union_of : List (List ℕ) → UnionTree → Naming
union_of variables u = record { name = u.name.text; members = with_members variables [] u.members }

-- what an expression may name: the variables, each of which stands for itself, and the unions
abbrev pub context : List (List ℕ) → List UnionTree → List Column → Bool → Context
context variables unions columns in_define = record {
  sets = numbered 0 variables ++ map (union_of variables) unions;
  columns = columns;
  in_define = in_define;
  classes = map value.Text variables;
}
