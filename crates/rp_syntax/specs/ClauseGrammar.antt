-- The grammar of clauses.
use Rattle.std.specs.Prelude.{ℕ, ◌-◌, List, [], Option, Some, None, true, false}
use Rattle.rp_lexer.specs.declared.token.Token.{Token}
use Rattle.rp_lexer.specs.declared.kind.TokenKind.TheVariants as kind
use Rattle.rp_lexer.specs.declared.kind.Mark.TheVariants as mark
use Rattle.rp_lexer.specs.declared.kind.Keyword.{Keyword}
use Rattle.rp_lexer.specs.declared.kind.Keyword.TheVariants as keyword
use Rattle.rp_grammar.specs.declared.written.Name.{Name}
use Rattle.rp_tree.specs.declared.tree.Order.{Order}
use Rattle.rp_tree.specs.declared.tree.RowsPerMatch.{RowsPerMatch}
use Rattle.rp_tree.specs.declared.tree.RowsPerMatch.TheVariants as rows_as
use Rattle.rp_tree.specs.declared.tree.Skip.{Skip}
use Rattle.rp_tree.specs.declared.tree.Skip.TheVariants as skip_as
use Rattle.rp_grammar.specs.Grammar.{Grammar, word, nothing, here, ◌then◌, ◌or◌, gives, optional, opening, second, listed}
use Rattle.rp_tree.specs.Tree.{Tree}
use Rattle.rp_tree.specs.Terms.{Term}
use Rattle.rp_tree.specs.Clauses.{MeasureTree, UnionTree, DefinitionTree, ClauseTree}
use Rattle.rp_grammar.specs.Names.{name}
use Rattle.rp_patterns.specs.PatternGrammar.{inside}
use Rattle.rp_expressions.specs.NavigationGrammar.{key}
use Rattle.rp_expressions.specs.ExprGrammar.{as_expr, expr, inside_expr, open_mark, close_mark}

-- an expression in which so many brackets may be open
abbrev pub whole_expr : ℕ → Grammar Term
whole_expr room = as_expr (expr room (inside_expr room))

-- name [ASC | DESC]
unfoldable pub order : Grammar Order
order =
    gives (λ x. record { name = x.0; descending = x.1 })
    (name then (gives (λ at. false) (word (key keyword.Asc)) or gives (λ at. true) (word (key keyword.Desc)) or nothing false))

-- expr AS name
unfoldable pub measure : ℕ → Grammar MeasureTree
measure room = gives (λ x. record { at = x.0; term = x.1.0; name = x.1.1 }) (here then whole_expr room then gives second (word (key keyword.As) then name))

-- two reserved words and three, with the offset of the first
abbrev pub two_words : Keyword → Keyword → Grammar ℕ
two_words a b = gives (λ x. x.0) (word (key a) then word (key b))

abbrev pub three_words : Keyword → Keyword → Keyword → Grammar ℕ
three_words a b c = gives (λ x. x.0) (two_words a b then word (key c))

-- SHOW EMPTY MATCHES | OMIT EMPTY MATCHES | WITH UNMATCHED ROWS, or nothing
unfoldable pub shown : Grammar RowsPerMatch
shown =
    gives (λ at. rows_as.AllShowEmpty) (three_words keyword.Show keyword.Empty keyword.Matches)
    or gives (λ at. rows_as.AllOmitEmpty) (three_words keyword.Omit keyword.Empty keyword.Matches)
    or gives (λ at. rows_as.AllWithUnmatched) (three_words keyword.With keyword.Unmatched keyword.Rows)
    or nothing rows_as.AllShowEmpty

-- ONE ROW PER MATCH
abbrev pub one_row : Grammar RowsPerMatch
one_row = gives (λ x. rows_as.One) (two_words keyword.One keyword.Row then two_words keyword.Per keyword.Match)

-- ALL ROWS PER MATCH shown
abbrev pub all_rows : Grammar RowsPerMatch
all_rows = gives (λ x. x.1.1) (two_words keyword.All keyword.Rows then two_words keyword.Per keyword.Match then shown)

-- one_row | all_rows
unfoldable pub rows : Grammar RowsPerMatch
rows = one_row or all_rows

-- NEXT ROW | FIRST name | LAST name | name
unfoldable pub target : Grammar Skip
target =
    gives (λ at. skip_as.ToNextRow) (two_words keyword.Next keyword.Row)
    or gives (λ x. skip_as.ToFirst x.1) (word (key keyword.First) then name)
    or gives (λ x. skip_as.ToLast x.1) (word (key keyword.Last) then name)
    or gives skip_as.ToLast name

-- AFTER MATCH SKIP (PAST LAST ROW | TO target)
unfoldable pub skip : Grammar Skip
skip =
    gives second (three_words keyword.After keyword.Match keyword.Skip then (
    gives (λ at. skip_as.PastLastRow) (three_words keyword.Past keyword.Last keyword.Row)
    or gives second (word (key keyword.To) then target)))

-- name "=" "(" name , .. ")"
unfoldable pub union : ℕ → Grammar UnionTree
union room =
    gives (λ x. record { name = x.0; members = x.1.1.1.0 }) (name then word (kind.Mark mark.Equals) then opening room open_mark then listed name then word close_mark)

-- name AS expr
unfoldable pub definition : ℕ → Grammar DefinitionTree
definition room =
    gives (λ x. record { name = x.0; at = x.1.1.0; term = x.1.1.1 }) (name then word (key keyword.As) then here then whole_expr room)

abbrev pub or_none : {A : Type 0} → Option (List A) → List A
or_none None = []
or_none (Some xs) = xs

abbrev pub or_one : Option RowsPerMatch → RowsPerMatch
or_one None = rows_as.One
or_one (Some r) = r

abbrev pub or_past : Option Skip → Skip
or_past None = skip_as.PastLastRow
or_past (Some s) = s

-- [PARTITION BY name , ..]
unfoldable pub partition_part : Grammar (List Name)
partition_part = gives or_none (optional (gives second (two_words keyword.Partition keyword.By then listed name)))

-- [ORDER BY order , ..]
unfoldable pub order_part : Grammar (List Order)
order_part = gives or_none (optional (gives second (two_words keyword.Order keyword.By then listed order)))

-- [MEASURES measure , ..]
unfoldable pub measures_part : ℕ → Grammar (List MeasureTree)
measures_part room = gives or_none (optional (gives second (word (key keyword.Measures) then listed (measure room))))

-- [rows]
unfoldable pub rows_part : Grammar RowsPerMatch
rows_part = gives or_one (optional rows)

-- [skip]
unfoldable pub skip_part : Grammar Skip
skip_part = gives or_past (optional skip)

-- PATTERN "(" pattern ")"
unfoldable pub pattern_part : ℕ → Grammar Tree
pattern_part room = gives (λ x. x.1.1.0) (word (key keyword.Pattern) then opening room open_mark then inside room then word close_mark)

-- [SUBSET union , ..]
unfoldable pub subset_part : ℕ → Grammar (List UnionTree)
subset_part room = gives or_none (optional (gives second (word (key keyword.Subset) then listed (union room))))

-- DEFINE definition , ..
unfoldable pub define_part : ℕ → Grammar (List DefinitionTree)
define_part room = gives second (word (key keyword.Define) then listed (definition room))

-- skip_part, pattern_part, subset_part, define_part
abbrev pub later_parts : ℕ → Grammar (Skip × (Tree × (List UnionTree × List DefinitionTree)))
later_parts room = skip_part then pattern_part room then subset_part room then define_part room

-- the parts in their order
unfoldable pub body : ℕ → Grammar ClauseTree
body room =
    gives (λ x. record { partition = x.0; order = x.1.0; measures = x.1.1.0; rows = x.1.1.1.0; skip = x.1.1.1.1.0; pattern = x.1.1.1.1.1.0; subsets = x.1.1.1.1.1.1.0; definitions = x.1.1.1.1.1.1.1 })
    (partition_part then order_part then measures_part room then rows_part then later_parts room)

-- So many brackets may be open at once, MATCH_RECOGNIZE's among them, so that a parser needs few levels of calls. (own)
abbrev pub max_open : ℕ
max_open = 100

-- "(" body ")"
abbrev pub bracketed : Grammar ClauseTree
bracketed = gives (λ x. x.1.0) (opening max_open open_mark then body (max_open - 1) then word close_mark)

-- body | MATCH_RECOGNIZE bracketed
unfoldable pub clause : Grammar ClauseTree
clause = gives second (word (key keyword.MatchRecognize) then bracketed) or body max_open

-- the tokens of the text derive the clause
abbrev pub Derives : List ℕ → List Token → ClauseTree → Type 0
Derives text tokens tree = clause.derives text tokens tree []
