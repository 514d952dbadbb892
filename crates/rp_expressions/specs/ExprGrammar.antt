-- The grammar of expressions.
use Rattle.std.specs.Prelude.{ℕ, zero, suc, List, [], ◌∷◌, Option, Some, None, Bool, true, false}
use Rattle.rp_lexer.specs.declared.kind.TokenKind.{TokenKind}
use Rattle.rp_lexer.specs.declared.kind.TokenKind.TheVariants as kind
use Rattle.rp_lexer.specs.declared.kind.Mark.TheVariants as mark
use Rattle.rp_lexer.specs.declared.kind.Keyword.TheVariants as keyword
use Rattle.rp_grammar.specs.declared.written.Name.{Name}
use Rattle.rp_tree.specs.declared.tree.Column.{Column}
use Rattle.rp_tree.specs.declared.tree.Scope.{Scope}
use Rattle.rp_tree.specs.declared.tree.Counted.{Counted}
use Rattle.rp_tree.specs.declared.tree.Counted.TheVariants as counted_as
use Rattle.rp_tree.specs.declared.tree.AggregateFunction.{AggregateFunction}
use Rattle.rp_tree.specs.declared.tree.AggregateFunction.TheVariants as function_as
use Rattle.rp_tree.specs.declared.tree.Aggregate.{Aggregate}
use Rattle.rp_tree.specs.declared.tree.Operator.{Operator}
use Rattle.rp_tree.specs.declared.tree.Operator.TheVariants as operator_as
use Rattle.rp_tree.specs.declared.tree.Operation.{Operation}
use Rattle.rp_expressions.specs.declared.operators.Level.{Level}
use Rattle.rp_expressions.specs.declared.operators.Level.TheVariants as level
use Rattle.rp_grammar.specs.Grammar.{Grammar, one_of, word, number, here, ◌then◌, ◌or◌, gives, optional, many, never, opening, second, under}
use Rattle.rp_tree.specs.Terms.{Term, Number, Literal, Navigation, Aggregated, MatchNumber, Classifier, Negative, Not, IsNull, Operate, from_left, from_right}
use Rattle.rp_grammar.specs.Names.{name, text_in}
use Rattle.rp_expressions.specs.NavigationGrammar.{key, column, scope, plain, edge, inside_path}

abbrev pub open_mark : TokenKind
open_mark = kind.Mark mark.LeftParenthesis

abbrev pub close_mark : TokenKind
close_mark = kind.Mark mark.RightParenthesis

abbrev pub counted_of : Name → Option (Option Name) → Counted
counted_of n None = counted_as.Column (record { qualifier = None; name = n })
counted_of n (Some None) = counted_as.RowsOf n
counted_of n (Some (Some m)) = counted_as.Column (record { qualifier = Some n; name = m })

-- "*" | name | name "." "*" | name "." name
unfoldable pub counted : Grammar Counted
counted =
    gives (λ at. counted_as.Rows) (word (kind.Mark mark.Asterisk))
    or gives (λ x. counted_of x.0 x.1) (name then optional (gives second (word (kind.Mark mark.Period) then (gives (λ at. None) (word (kind.Mark mark.Asterisk)) or gives Some name))))

-- a word, "(" column ")"
abbrev pub over_column : ℕ → TokenKind → Grammar (ℕ × Column)
over_column room w = gives (λ x. (x.0, x.1.1.0)) (word w then opening room open_mark then column then word close_mark)

abbrev pub aggregated : AggregateFunction → ℕ → Option Scope → Aggregate
aggregated f at s = record { scope = s; at = at; function = f }

-- COUNT "(" counted ")", to which RUNNING or FINAL belongs
abbrev pub counting : ℕ → Grammar (Option Scope → Aggregate)
counting room = gives (λ x. aggregated (function_as.Count x.1.1.0) x.0) (word (key keyword.Count) then opening room open_mark then counted then word close_mark)

-- COUNT, SUM, MIN or MAX
unfoldable pub aggregate : ℕ → Grammar (Option Scope → Aggregate)
aggregate room =
    counting room
    or gives (λ x. aggregated (function_as.Sum x.1) x.0) (over_column room (key keyword.Sum))
    or gives (λ x. aggregated (function_as.Min x.1) x.0) (over_column room (key keyword.Min))
    or gives (λ x. aggregated (function_as.Max x.1) x.0) (over_column room (key keyword.Max))

-- FIRST, LAST or an aggregate, to which RUNNING or FINAL belongs
unfoldable pub under_scope : ℕ → Grammar (Option Scope → Term)
under_scope room =
    gives (λ f s. Navigation (f s)) (edge room (inside_path room))
    or gives (λ f s. Aggregated (f s)) (aggregate room)

-- [RUNNING | FINAL] and what it belongs to
unfoldable pub scoped : ℕ → Grammar Term
scoped room = gives (λ x. x.1 x.0) (optional scope then under_scope room)

-- "(" expr ")"
abbrev pub bracketed : ℕ → Grammar Term → Grammar Term
bracketed room inner = gives (λ x. x.1.0) (opening room open_mark then inner then word close_mark)

-- a word, "(" ")"
abbrev pub call : ℕ → TokenKind → Grammar ℕ
call room w = gives (λ x. x.0) (word w then opening room open_mark then word close_mark)

-- number | text | "(" expr ")" | column | navigation | aggregate | MATCH_NUMBER "(" ")" | CLASSIFIER "(" ")"
unfoldable pub value : ℕ → Grammar Term → Grammar Term
value room inner =
    gives (λ x. Number x.0 x.1) (here then number)
    or one_of (kind.Text ∷ []) (λ text t. Literal t.start (text_in text t))
    or bracketed room inner
    or gives Navigation (plain room (inside_path room))
    or gives MatchNumber (call room (key keyword.MatchNumber))
    or gives Classifier (call room (key keyword.Classifier))
    or scoped room

abbrev pub is_some : {A : Type 0} → Option A → Bool
is_some (Some x) = true
is_some None = false

abbrev pub perhaps : (ℕ → Term → Term) → Option ℕ → Term → Term
perhaps f None t = t
perhaps f (Some at) t = f at t

-- ["-"] value
unfoldable pub signed : ℕ → Grammar Term → Grammar Term
signed room inner = gives (λ x. perhaps Negative x.0 x.1) (optional (word (kind.Mark mark.Minus)) then value room inner)

abbrev pub operation : Operator → TokenKind → Grammar Operation
operation o k = gives (λ at. record { operator = o; at = at }) (word k)

-- an operator of a level
abbrev pub operator : Level → Grammar Operation
operator level.Or = operation operator_as.Or (key keyword.Or)
operator level.And = operation operator_as.And (key keyword.And)
operator level.Sum = operation operator_as.Plus (kind.Mark mark.Plus) or operation operator_as.Minus (kind.Mark mark.Minus)
operator level.Product = operation operator_as.Times (kind.Mark mark.Asterisk)

-- an expression and the operators and operands after it: logical ones group from the right, those of arithmetic from the left
abbrev pub joined : Level → Term → List (Operation × Term) → Term
joined level.Or = from_right
joined level.And = from_right
joined level.Sum = from_left
joined level.Product = from_left

-- operands with operators of a level between them
abbrev pub chain_of : Level → Grammar Term → Grammar Term
chain_of l g = gives (λ x. joined l x.0 x.1) (g then many (operator l then g))

-- signed, then any number of "*" signed
unfoldable pub product : ℕ → Grammar Term → Grammar Term
product room inner = chain_of level.Product (signed room inner)

-- product, then any number of ("+" | "-") product
unfoldable pub sum : ℕ → Grammar Term → Grammar Term
sum room inner = chain_of level.Sum (product room inner)

-- "=" | "<>" | "<" | "<=" | ">" | ">="
unfoldable pub comparison : Grammar Operation
comparison =
    operation operator_as.Equals (kind.Mark mark.Equals)
    or operation operator_as.NotEquals (kind.Mark mark.NotEquals)
    or operation operator_as.Less (kind.Mark mark.LessThan)
    or operation operator_as.LessOrEquals (kind.Mark mark.LessThanOrEquals)
    or operation operator_as.Greater (kind.Mark mark.GreaterThan)
    or operation operator_as.GreaterOrEquals (kind.Mark mark.GreaterThanOrEquals)

-- IS [NOT] NULL
unfoldable pub nullness : Grammar (ℕ × Bool)
nullness = gives (λ x. (x.0, is_some x.1.0)) (word (key keyword.Is) then optional (word (key keyword.Not)) then word (key keyword.Null))

abbrev pub null_tested : ℕ × Bool → Term → Term
null_tested x t = IsNull x.0 x.1 t

abbrev pub compared : Operation × Term → Term → Term
compared x t = Operate t x.0 x.1

abbrev pub tested : Term → Option (Term → Term) → Term
tested t None = t
tested t (Some f) = f t

-- sum [nullness | comparison sum]
unfoldable pub predicate : ℕ → Grammar Term → Grammar Term
predicate room inner =
    gives (λ x. tested x.0 x.1)
    (sum room inner then optional (
    gives null_tested nullness
    or gives compared (comparison then sum room inner)))

-- [NOT] predicate
unfoldable pub negation : ℕ → Grammar Term → Grammar Term
negation room inner = gives (λ x. perhaps Not x.0 x.1) (optional (word (key keyword.Not)) then predicate room inner)

-- negations with AND between them
unfoldable pub conjunction : ℕ → Grammar Term → Grammar Term
conjunction room inner = chain_of level.And (negation room inner)

-- conjunctions with OR between them
unfoldable pub expr : ℕ → Grammar Term → Grammar Term
expr room inner = chain_of level.Or (conjunction room inner)

-- what stands between operators of a level
unfoldable pub operand : Level → ℕ → Grammar Term → Grammar Term
operand level.Or = conjunction
operand level.And = negation
operand level.Sum = product
operand level.Product = signed

abbrev pub link : Level → ℕ → Grammar Term → Grammar (Operation × Term)
link l room inner = operator l then operand l room inner

abbrev pub chain : Level → ℕ → Grammar Term → Grammar Term
chain l room inner = chain_of l (operand l room inner)

abbrev pub expr_kinds : List TokenKind
expr_kinds =
    key keyword.Not ∷ kind.Mark mark.Minus ∷ kind.Number ∷ kind.Text ∷ open_mark ∷ kind.Name ∷ kind.Quoted ∷ key keyword.Prev ∷ key keyword.Next ∷ key keyword.MatchNumber ∷ key keyword.Classifier
    ∷ key keyword.Running ∷ key keyword.Final ∷ key keyword.First ∷ key keyword.Last ∷ key keyword.Count ∷ key keyword.Sum ∷ key keyword.Min ∷ key keyword.Max ∷ []

abbrev pub after_expr : List TokenKind
after_expr =
    key keyword.Or ∷ key keyword.And ∷ key keyword.Is ∷ kind.Mark mark.Period ∷ kind.Mark mark.Asterisk ∷ kind.Mark mark.Plus ∷ kind.Mark mark.Minus
    ∷ kind.Mark mark.Equals ∷ kind.Mark mark.NotEquals ∷ kind.Mark mark.LessThan ∷ kind.Mark mark.LessThanOrEquals ∷ kind.Mark mark.GreaterThan ∷ kind.Mark mark.GreaterThanOrEquals ∷ []

-- an expression, under the kinds that each has
abbrev pub as_expr : Grammar Term → Grammar Term
as_expr = under expr_kinds after_expr

-- an expression inside a bracket, with so much room before that bracket was opened
unfoldable pub deeper_expr : ℕ → Grammar Term
deeper_expr zero = never
deeper_expr (suc room) = expr room (as_expr (deeper_expr room))

abbrev pub inside_expr : ℕ → Grammar Term
inside_expr room = as_expr (deeper_expr room)

abbrev pub operator_kinds : Level → List TokenKind
operator_kinds level.Or = key keyword.Or ∷ []
operator_kinds level.And = key keyword.And ∷ []
operator_kinds level.Sum = kind.Mark mark.Plus ∷ kind.Mark mark.Minus ∷ []
operator_kinds level.Product = kind.Mark mark.Asterisk ∷ []

abbrev pub comparison_kinds : List TokenKind
comparison_kinds =
    kind.Mark mark.Equals ∷ kind.Mark mark.NotEquals ∷ kind.Mark mark.LessThan ∷ kind.Mark mark.LessThanOrEquals ∷ kind.Mark mark.GreaterThan ∷ kind.Mark mark.GreaterThanOrEquals ∷ []
