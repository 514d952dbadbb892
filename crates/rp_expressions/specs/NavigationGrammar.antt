-- The grammar of columns and navigations.
use Rattle.std.specs.Prelude.{ℕ, zero, suc, List, [], ◌∷◌, Option, Some, None, true, false}
use Rattle.rp_lexer.specs.declared.kind.TokenKind.{TokenKind}
use Rattle.rp_lexer.specs.declared.kind.TokenKind.TheVariants as kind
use Rattle.rp_lexer.specs.declared.kind.Mark.TheVariants as mark
use Rattle.rp_lexer.specs.declared.kind.Keyword.{Keyword}
use Rattle.rp_lexer.specs.declared.kind.Keyword.TheVariants as keyword
use Rattle.rp_grammar.specs.declared.written.Name.{Name}
use Rattle.rp_tree.specs.declared.tree.Column.{Column}
use Rattle.rp_tree.specs.declared.tree.Scope.{Scope}
use Rattle.rp_tree.specs.declared.tree.Offset.{Offset}
use Rattle.rp_tree.specs.declared.tree.Movement.{Movement}
use Rattle.rp_tree.specs.declared.tree.Movement.TheVariants.{Prev, Next, First, Last}
use Rattle.rp_grammar.specs.Grammar.{Grammar, word, number, here, ◌then◌, ◌or◌, gives, optional, never, opening, second, under}
use Rattle.rp_tree.specs.Paths.{Path, At, Move}
use Rattle.rp_grammar.specs.Names.{name}

abbrev pub key : Keyword → TokenKind
key = kind.Keyword

abbrev pub column_of : Name → Option Name → Column
column_of first None = record { qualifier = None; name = first }
column_of first (Some second) = record { qualifier = Some first; name = second }

-- name | name "." name
unfoldable pub column : Grammar Column
column = gives (λ x. column_of x.0 x.1) (name then optional (gives second (word (kind.Mark mark.Period) then name)))

unfoldable pub offset : Grammar Offset
offset = gives (λ x. record { at = x.0; rows = x.1 }) (here then number)

-- RUNNING | FINAL
unfoldable pub scope : Grammar Scope
scope =
    gives (λ at. record { at = at; is_final = false }) (word (key keyword.Running))
    or gives (λ at. record { at = at; is_final = true }) (word (key keyword.Final))

-- ["," number] ")"
unfoldable pub ending : Grammar (Option Offset)
ending = gives (λ x. x.0) (optional (gives second (word (kind.Mark mark.Comma) then offset)) then word (kind.Mark mark.RightParenthesis))

-- "(" (column | navigation) ending
unfoldable pub argument : ℕ → Grammar Path → Grammar (Path × Option Offset)
argument room inner = gives (λ x. (x.1.0, x.1.1)) (opening room (kind.Mark mark.LeftParenthesis) then inner then ending)

abbrev pub moved : Movement → ℕ × (Path × Option Offset) → Path
moved movement x = Move movement x.0 x.1.0 x.1.1

-- column | (PREV | NEXT) argument
unfoldable pub plain : ℕ → Grammar Path → Grammar Path
plain room inner =
    gives At column
    or gives (moved Prev) (word (key keyword.Prev) then argument room inner)
    or gives (moved Next) (word (key keyword.Next) then argument room inner)

-- (FIRST | LAST) argument, to which RUNNING or FINAL belongs
unfoldable pub edge : ℕ → Grammar Path → Grammar (Option Scope → Path)
edge room inner =
    gives (λ x scope. moved (First scope) x) (word (key keyword.First) then argument room inner)
    or gives (λ x scope. moved (Last scope) x) (word (key keyword.Last) then argument room inner)

-- column | (PREV | NEXT) argument | [RUNNING | FINAL] (FIRST | LAST) argument
unfoldable pub path : ℕ → Grammar Path → Grammar Path
path room inner = plain room inner or gives (λ x. x.1 x.0) (optional scope then edge room inner)

abbrev pub path_kinds : List TokenKind
path_kinds = kind.Name ∷ kind.Quoted ∷ key keyword.Prev ∷ key keyword.Next ∷ key keyword.Running ∷ key keyword.Final ∷ key keyword.First ∷ key keyword.Last ∷ []

-- a navigation, under the kinds that each has
abbrev pub as_path : Grammar Path → Grammar Path
as_path = under path_kinds (kind.Mark mark.Period ∷ [])

-- a navigation inside a bracket, with so much room before that bracket was opened
unfoldable pub deeper_path : ℕ → Grammar Path
deeper_path zero = never
deeper_path (suc room) = path room (as_path (deeper_path room))

abbrev pub inside_path : ℕ → Grammar Path
inside_path room = as_path (deeper_path room)

abbrev pub plain_kinds : List TokenKind
plain_kinds = kind.Name ∷ kind.Quoted ∷ key keyword.Prev ∷ key keyword.Next ∷ []
