-- The front of a list: what each element of it has, and of which kind a token is.
use Rattle.std.proofs.Common.{◌≡◌, zero, suc, true, List, ◌∷◌, All, subst, arith, rules}
use Rattle.rp_lexer.specs.declared.kind.TokenKind.{TokenKind}
use Rattle.rp_lexer.specs.contracts.kind.TokenKindPartialEq.TheImpl.{ghosts}

-- what each element has, the first has, and each of the rest
pub All-front : {X : Type 0} (P : X → Type 0) (xs rest : List X) (x : X) → xs ≡ x ∷ rest → All P xs → P x × All P rest
All-front P xs rest x front all =
    let whole : All P (x ∷ rest) = subst (All P) front all in
    (whole zero x (omega arith), λ k d inside. whole (suc k) d (omega (arith, inside)))

-- kinds that compare equal are the same
pub same_kind : (kind other : TokenKind) → ghosts.eq kind other ≡ true → kind ≡ other
same_kind kind other equal = search (equal, rules)
