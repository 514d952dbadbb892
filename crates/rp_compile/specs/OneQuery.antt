-- That the text of a clause has one query over a table, wherever the parts of this are kept, or a fault, and not both.
use Rattle.std.specs.Prelude.{◌≡◌, ℕ, List}
use Rattle.rp_value.specs.declared.table.Column.{Column}
use Rattle.rp_compile.specs.declared.compiling.CompileFault.{CompileFault}
use Rattle.rp_compile.specs.declared.compiling.CompileFault.TheVariants.{OutOfMemory}
use Rattle.rp_query.specs.declared.query.QueryData.{QueryData}
use Rattle.rp_same_query.specs.SameQuery.{IsSameQuery}
use Rattle.rp_compile.specs.Compiled.{IsCompiled, IsCompileFault}

-- what one text is compiled to over one table is one query
abbrev pub OneQuery : Type 0
OneQuery =
    (text : List ℕ) (columns : List Column) (one other : QueryData)
    → IsCompiled text columns one → IsCompiled text columns other → IsSameQuery one other

-- a text that has a query has no fault
abbrev pub NoQueryWithFault : Type 0
NoQueryWithFault =
    (text : List ℕ) (columns : List Column) (query : QueryData) (why : CompileFault)
    → IsCompiled text columns query → IsCompileFault text columns why → why ≡ OutOfMemory
