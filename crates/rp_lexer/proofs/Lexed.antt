-- One more token at the end of those that were cut.
use Rattle.std.proofs.Common.{◌≡◌, ℕ, List, [], ◌∷◌, ◌++◌, sym, subst}
use Rattle.rp_lexer.specs.Lexes.{IsGap, IsToken, LexesUpTo}
use Rattle.rp_lexer.specs.declared.token.Token.{Token}

pub lexed_more : (text : List ℕ) (at : ℕ) (tokens : List Token) (token : Token) (place end : ℕ) → LexesUpTo text at tokens place → IsToken text token → token.start ≡ place → IsGap text token.end end → LexesUpTo text at (tokens ++ token ∷ []) end
lexed_more text at [] token place end lexed is starts gap = (subst (IsGap text at) (sym starts) lexed, is, gap)
lexed_more text at (t ∷ ts) token place end lexed is starts gap = (lexed.0, lexed.1, lexed_more text t.end ts token place end lexed.2 is starts gap)
