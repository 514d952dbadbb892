-- The grammar of row patterns.
use Rattle.std.specs.Prelude.{ℕ, zero, suc, List, [], ◌∷◌, ◌++◌, Option, Some, None, Bool, true, false}
use Rattle.rp_lexer.specs.declared.kind.TokenKind.{TokenKind}
use Rattle.rp_lexer.specs.declared.kind.TokenKind.TheVariants as kind
use Rattle.rp_lexer.specs.declared.kind.Mark.TheVariants as mark
use Rattle.rp_lexer.specs.declared.kind.Keyword.TheVariants as keyword
use Rattle.rp_tree.specs.declared.tree.Bound.{Bound}
use Rattle.rp_tree.specs.declared.tree.Quantifier.{Quantifier}
use Rattle.rp_tree.specs.Tree.{Tree, Variable, Empty, PartitionStart, PartitionEnd, Concatenation, Alternation, Permute, Beside, Exclusion, Quantified, joined, joined_all}
use Rattle.rp_grammar.specs.Grammar.{Grammar, word, number, here, ◌then◌, ◌or◌, gives, optional, many, never, opening, second, listed, under}
use Rattle.rp_grammar.specs.Names.{name}

-- a bound, where it stands
unfoldable pub bound : Grammar Bound
bound = gives (λ x. record { at = x.0; count = x.1 }) (here then number)

-- a greedy quantifier
abbrev pub repeated : ℕ → Bound → Option Bound → Quantifier
repeated at lower upper = record { at = at; lower = lower; upper = upper; reluctant = false }

-- a bound that isn't written stands at the quantifier
abbrev pub unwritten : ℕ → ℕ → Bound
unwritten at count = record { at = at; count = count }

-- `{n}` is n to n, `{n,}` n and more
abbrev pub from_lower : Bound → Option (ℕ × Option Bound) → ℕ → Quantifier
from_lower lower None at = repeated at lower (Some lower)
from_lower lower (Some (comma, upper)) at = repeated at lower upper

-- ["," [number]]
abbrev pub above : Grammar (Option (ℕ × Option Bound))
above = optional (word (kind.Mark mark.Comma) then optional bound)

-- number above "}"
abbrev pub from_bound : Grammar (ℕ → Quantifier)
from_bound = gives (λ x. from_lower x.0 x.1.0) (bound then above then word (kind.Mark mark.RightBrace))

-- "," number "}"
abbrev pub upper_alone : Grammar (ℕ → Quantifier)
upper_alone = gives (λ x at. repeated at (unwritten at 0) (Some x.1.0)) (word (kind.Mark mark.Comma) then bound then word (kind.Mark mark.RightBrace))

-- number "}" | number "," "}" | number "," number "}" | "," number "}"
unfoldable pub bounds : Grammar (ℕ → Quantifier)
bounds = from_bound or upper_alone

-- "*" | "+" | "?" | "{" bounds
unfoldable pub quantifier : Grammar Quantifier
quantifier =
    gives (λ at. repeated at (unwritten at 0) None) (word (kind.Mark mark.Asterisk))
    or gives (λ at. repeated at (unwritten at 1) None) (word (kind.Mark mark.Plus))
    or gives (λ at. repeated at (unwritten at 0) (Some (unwritten at 1))) (word (kind.Mark mark.QuestionMark))
    or gives (λ x. x.1 x.0) (word (kind.Mark mark.LeftBrace) then bounds)

abbrev pub lazily : Quantifier → Quantifier
lazily q = record q { reluctant = true }

abbrev pub perhaps_lazily : Quantifier → Option ℕ → Quantifier
perhaps_lazily q None = q
perhaps_lazily q (Some at) = lazily q

-- quantifier ["?"]
abbrev pub repetition : Grammar Quantifier
repetition = gives (λ x. perhaps_lazily x.0 x.1) (quantifier then optional (word (kind.Mark mark.QuestionMark)))

abbrev pub with_quantifier : Tree → Option Quantifier → Tree
with_quantifier t None = t
with_quantifier t (Some q) = Quantified q t

abbrev pub or_empty : Option Tree → Tree
or_empty None = Empty
or_empty (Some t) = t

-- "(" [pattern] ")"
unfoldable pub group : ℕ → Grammar Tree → Grammar Tree
group room inner = gives (λ x. or_empty x.1.0) (opening room (kind.Mark mark.LeftParenthesis) then optional inner then word (kind.Mark mark.RightParenthesis))

-- PERMUTE "(" pattern , .. ")"
unfoldable pub permute : ℕ → Grammar Tree → Grammar Tree
permute room inner =
    gives (λ x. Permute x.0 (joined_all Beside x.1.1.0))
    (word (kind.Keyword keyword.Permute) then opening room (kind.Mark mark.LeftParenthesis) then listed inner then word (kind.Mark mark.RightParenthesis))

-- "{-" pattern "-}"
unfoldable pub exclusion : ℕ → Grammar Tree → Grammar Tree
exclusion room inner = gives (λ x. Exclusion x.0 x.1.0) (opening room (kind.Mark mark.LeftBraceMinus) then inner then word (kind.Mark mark.RightBraceMinus))

-- name | "^" | "$" | group | permute | exclusion
unfoldable pub primary : ℕ → Grammar Tree → Grammar Tree
primary room inner =
    gives Variable name
    or gives (λ at. PartitionStart) (word (kind.Mark mark.Circumflex))
    or gives (λ at. PartitionEnd) (word (kind.Mark mark.DollarSign))
    or group room inner
    or permute room inner
    or exclusion room inner

-- primary [repetition]
unfoldable pub factor : ℕ → Grammar Tree → Grammar Tree
factor room inner = gives (λ x. with_quantifier x.0 x.1) (primary room inner then optional repetition)

-- one or more factors
unfoldable pub sequence : ℕ → Grammar Tree → Grammar Tree
sequence room inner = gives (λ x. joined Concatenation x.0 x.1) (factor room inner then many (factor room inner))

-- sequences with "|" between them
unfoldable pub alternatives : ℕ → Grammar Tree → Grammar Tree
alternatives room inner = gives (λ x. joined Alternation x.0 x.1) (sequence room inner then many (gives second (word (kind.Mark mark.VerticalBar) then sequence room inner)))

-- the kinds that a quantifier and a pattern begin with
abbrev pub quantifier_kinds : List TokenKind
quantifier_kinds = kind.Mark mark.Asterisk ∷ kind.Mark mark.Plus ∷ kind.Mark mark.QuestionMark ∷ kind.Mark mark.LeftBrace ∷ []

abbrev pub pattern_kinds : List TokenKind
pattern_kinds = kind.Name ∷ kind.Quoted ∷ kind.Mark mark.Circumflex ∷ kind.Mark mark.DollarSign ∷ kind.Mark mark.LeftParenthesis ∷ kind.Keyword keyword.Permute ∷ kind.Mark mark.LeftBraceMinus ∷ []

-- the kinds with which a pattern may go on
abbrev pub after_pattern : List TokenKind
after_pattern = kind.Mark mark.VerticalBar ∷ kind.Mark mark.QuestionMark ∷ (quantifier_kinds ++ pattern_kinds)

-- a pattern, under the kinds that each has
abbrev pub as_pattern : Grammar Tree → Grammar Tree
as_pattern = under pattern_kinds after_pattern

-- a pattern inside a bracket, with so much room before that bracket was opened
unfoldable pub deeper : ℕ → Grammar Tree
deeper zero = never
deeper (suc room) = alternatives room (as_pattern (deeper room))

abbrev pub inside : ℕ → Grammar Tree
inside room = as_pattern (deeper room)
