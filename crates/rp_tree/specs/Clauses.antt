-- A clause as plain data, wherever its parts are kept.
use Rattle.std.specs.Prelude.{ℕ, List, map}
use Rattle.rp_grammar.specs.declared.written.Name.{Name}
use Rattle.rp_tree.specs.declared.tree.Order.{Order}
use Rattle.rp_tree.specs.declared.tree.Measure.{Measure}
use Rattle.rp_tree.specs.declared.tree.RowsPerMatch.{RowsPerMatch}
use Rattle.rp_tree.specs.declared.tree.Skip.{Skip}
use Rattle.rp_tree.specs.declared.tree.Union.{Union}
use Rattle.rp_tree.specs.declared.tree.Definition.{Definition}
use Rattle.rp_tree.specs.declared.tree.Pattern.{Pattern}
use Rattle.rp_tree.specs.declared.tree.Clause.{Clause}
use Rattle.rp_tree.specs.Tree.{Tree, tree_of}
use Rattle.rp_tree.specs.Terms.{Term, term_of}

-- expr AS name, with the offset of the expression's first token
pub record MeasureTree : Type 0 where
  pub at : ℕ
  pub term : Term
  pub name : Name

-- name = (members)
pub record UnionTree : Type 0 where
  pub name : Name
  pub members : List Name

-- name AS expr, with the offset of the expression's first token
pub record DefinitionTree : Type 0 where
  pub name : Name
  pub at : ℕ
  pub term : Term

-- the parts of a clause
pub record ClauseTree : Type 0 where
  pub partition : List Name
  pub order : List Order
  pub measures : List MeasureTree
  pub rows : RowsPerMatch
  pub skip : Skip
  pub pattern : Tree
  pub subsets : List UnionTree
  pub definitions : List DefinitionTree

abbrev pub measure_tree : Measure → MeasureTree
measure_tree m = record { at = m.at; term = term_of m.expr; name = m.name }

abbrev pub union_tree : Union → UnionTree
union_tree u = record { name = u.name; members = u.members.items }

abbrev pub definition_tree : Definition → DefinitionTree
definition_tree d = record { name = d.name; at = d.at; term = term_of d.expr }

-- a skip, a pattern, unions and definitions as plain data
abbrev pub later_trees : Skip → Pattern → List Union → List Definition → Skip × (Tree × (List UnionTree × List DefinitionTree))
later_trees s p us ds = (s, (tree_of p, (map union_tree us, map definition_tree ds)))

-- what a clause says, its text left aside
abbrev pub clause_tree : Clause → ClauseTree
clause_tree c = record {
  partition = c.partition.items;
  order = c.order.items;
  measures = map measure_tree c.measures.items;
  rows = c.rows;
  skip = c.skip;
  pattern = tree_of c.pattern;
  subsets = map union_tree c.subsets.items;
  definitions = map definition_tree c.definitions.items;
}
