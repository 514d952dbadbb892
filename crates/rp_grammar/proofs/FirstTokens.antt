-- Tokens that begin with one of some kinds.
use Rattle.std.proofs.Common.{◌≡◌, List, [], ◌∷◌, ◌++◌, Bool, true, false, ◌&&◌, ◌||◌, not, refl, ap, sym, ◌∙◌, rules, if◌then◌else◌}
use Rattle.rp_lexer.specs.declared.kind.TokenKind.{TokenKind}
use Rattle.rp_lexer.specs.declared.token.Token.{Token}
use Rattle.rp_grammar.specs.Reading.{same_kind, among, starts}
use Rattle.rp_grammar.specs.Grammar.{apart}

pub and_both : (a b : Bool) → a && b ≡ true → (a ≡ true) × (b ≡ true)
and_both true b e = (refl, e)
and_both false b e = let no : false ≡ true = e in absurd (cc)

pub or_either : (a b : Bool) → a || b ≡ false → (a ≡ false) × (b ≡ false)
or_either true b e = let no : true ≡ false = e in absurd (cc)
or_either false b e = (refl, e)

pub not_true : (b : Bool) → not b ≡ true → b ≡ false
not_true true e = let no : false ≡ true = e in absurd (cc)
not_true false e = refl

kinds_equal : (a b : TokenKind) → same_kind a b ≡ true → a ≡ b
kinds_equal a b e = search (e, rules)

among-append : (ks js : List TokenKind) (k : TokenKind) → among (ks ++ js) k ≡ (among ks k || among js k)
among-append [] js k = refl
among-append (a ∷ ks) js k = step (same_kind k a) (among-append ks js k)
  where
    step : (b : Bool) → among (ks ++ js) k ≡ (among ks k || among js k) → (b || among (ks ++ js) k) ≡ ((b || among ks k) || among js k)
    step true e = refl
    step false e = e

pub among_apart : (ks js : List TokenKind) (k : TokenKind) → apart ks js ≡ true → among ks k ≡ true → among js k ≡ false
among_apart [] js k clear is = let no : false ≡ true = is in absurd (cc)
among_apart (a ∷ ks) js k clear is =
    let both = and_both (not (among js a)) (apart ks js) clear in
    step (same_kind k a) refl is (not_true (among js a) both.0) (among_apart ks js k both.1)
  where
    step : (b : Bool) → same_kind k a ≡ b → (b || among ks k) ≡ true → among js a ≡ false → (among ks k ≡ true → among js k ≡ false) → among js k ≡ false
    step true same is other rest = ap (among js) (kinds_equal k a same) ∙ other
    step false same is other rest = rest is

pub starts_apart : (ks js : List TokenKind) (s : List Token) → apart ks js ≡ true → starts ks s ≡ true → starts js s ≡ false
starts_apart ks js [] clear is = let no : false ≡ true = is in absurd (cc)
starts_apart ks js (t ∷ rest) clear is = among_apart ks js t.kind clear is

pub starts_append : (ks js : List TokenKind) (s : List Token) → starts (ks ++ js) s ≡ (starts ks s || starts js s)
starts_append ks js [] = refl
starts_append ks js (t ∷ rest) = among-append ks js t.kind

or_true : (a b : Bool) → b ≡ true → (a || b) ≡ true
or_true true b e = refl
or_true false b e = e

pub starts_left : (ks js : List TokenKind) (s : List Token) → starts ks s ≡ true → starts (ks ++ js) s ≡ true
starts_left ks js s e = starts_append ks js s ∙ ap (λ b. b || starts js s) e

pub starts_right : (ks js : List TokenKind) (s : List Token) → starts js s ≡ true → starts (ks ++ js) s ≡ true
starts_right ks js s e = starts_append ks js s ∙ or_true (starts ks s) (starts js s) e

pub starts_neither : (ks js : List TokenKind) (s : List Token) → starts (ks ++ js) s ≡ false → (starts ks s ≡ false) × (starts js s ≡ false)
starts_neither ks js s e = or_either (starts ks s) (starts js s) (sym (starts_append ks js s) ∙ e)

-- the same, where the second kinds count only if a test says so
pub if_left : (b : Bool) (ks js : List TokenKind) (s : List Token) → starts ks s ≡ true → starts (if b then ks ++ js else ks) s ≡ true
if_left true ks js s e = starts_left ks js s e
if_left false ks js s e = e

pub if_right : (b : Bool) (ks js : List TokenKind) (s : List Token) → b ≡ true → starts js s ≡ true → starts (if b then ks ++ js else ks) s ≡ true
if_right true ks js s is e = starts_right ks js s e
if_right false ks js s is e = absurd (cc)

pub if_neither : (b : Bool) (ks js : List TokenKind) (s : List Token) → starts (if b then ks ++ js else ks) s ≡ false → (starts ks s ≡ false) × (b ≡ true → starts js s ≡ false)
if_neither true ks js s e = let both = starts_neither ks js s e in (both.0, λ is. both.1)
if_neither false ks js s e = (e, λ is. absurd (cc))

pub apart_nothing : (ks : List TokenKind) → apart ks [] ≡ true
apart_nothing [] = refl
apart_nothing (k ∷ ks) = apart_nothing ks

-- each of the first kinds is one of the others
abbrev pub within : List TokenKind → List TokenKind → Bool
within [] js = true
within (k ∷ ks) js = among js k && within ks js

among_within : (ks js : List TokenKind) (k : TokenKind) → within ks js ≡ true → among ks k ≡ true → among js k ≡ true
among_within [] js k in_all is = let no : false ≡ true = is in absurd (cc)
among_within (a ∷ ks) js k in_all is =
    let both = and_both (among js a) (within ks js) in_all in
    step (same_kind k a) refl is both.0 (among_within ks js k both.1)
  where
    step : (b : Bool) → same_kind k a ≡ b → (b || among ks k) ≡ true → among js a ≡ true → (among ks k ≡ true → among js k ≡ true) → among js k ≡ true
    step true same is other rest = ap (among js) (kinds_equal k a same) ∙ other
    step false same is other rest = rest is

pub starts_within : (ks js : List TokenKind) (s : List Token) → within ks js ≡ true → starts ks s ≡ true → starts js s ≡ true
starts_within ks js [] in_all is = let no : false ≡ true = is in absurd (cc)
starts_within ks js (t ∷ rest) in_all is = among_within ks js t.kind in_all is

pub stops_within : (ks js : List TokenKind) (s : List Token) → within ks js ≡ true → starts js s ≡ false → starts ks s ≡ false
stops_within ks js s in_all is = go (starts ks s) refl
  where
    go : (b : Bool) → starts ks s ≡ b → b ≡ false
    go true begun = let both : starts js s ≡ true = starts_within ks js s in_all begun in absurd (cc)
    go false begun = refl
