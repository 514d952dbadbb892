-- Names and texts, and what they mean as a function of their bytes.
use Rattle.std.specs.Prelude.{ℕ, List, [], ◌∷◌, Bool, true, false, if◌then◌else◌, map, ◌==◌}
use Rattle.std.specs.Char.{to_ascii_uppercase}
use Rattle.rp_lexer.specs.Meanings.{bytes_of}
use Rattle.rp_lexer.specs.declared.kind.TokenKind.{TokenKind}
use Rattle.rp_lexer.specs.declared.kind.TokenKind.TheVariants as kind
use Rattle.rp_lexer.specs.declared.token.Token.{Token}
use Rattle.rp_grammar.specs.Grammar.{Grammar, one_of}
use Rattle.rp_grammar.specs.declared.written.Name.{Name}

-- a Name that is no reserved word, or a quoted name
abbrev pub name_kinds : List TokenKind
name_kinds = kind.Name ∷ kind.Quoted ∷ []

-- what stands between quotes, whose inner quotes are doubled; pending: the byte before was such a quote
abbrev pub unquoted : Bool → ℕ → List ℕ → List ℕ
unquoted pending quote [] = []
unquoted false quote (b ∷ bytes) = if b == quote then unquoted true quote bytes else b ∷ unquoted false quote bytes
unquoted true quote (b ∷ bytes) = b ∷ unquoted false quote bytes

-- all but the first byte
abbrev pub behind_first : List ℕ → List ℕ
behind_first [] = []
behind_first (b ∷ bytes) = bytes

-- what the bytes of a name of this kind mean
unfoldable pub name_meaning : TokenKind → List ℕ → List ℕ
name_meaning kind.Quoted bytes = unquoted false 34 (behind_first bytes)
name_meaning kind.Name bytes = map to_ascii_uppercase bytes
name_meaning (kind.Keyword k) bytes = []
name_meaning kind.Text bytes = []
name_meaning kind.Number bytes = []
name_meaning (kind.Mark m) bytes = []

-- what a token means as a name, and where it stands
abbrev pub name_in : List ℕ → Token → Name
name_in text t = record { text = name_meaning t.kind (bytes_of text t); at = t.start }

-- what a token means as a text
abbrev pub text_in : List ℕ → Token → List ℕ
text_in text t = unquoted false 39 (behind_first (bytes_of text t))

-- an unreserved Name or a quoted one
abbrev pub name : Grammar Name
name = one_of name_kinds name_in
