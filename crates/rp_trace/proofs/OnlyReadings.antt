-- Each choice that a parse makes is the only one.
use Rattle.std.proofs.Common.{◌≡◌, ℕ, ◌+◌, ◌<◌, List, [], ◌∷◌, ◌++◌, Bool, true, false, refl, ap, ◌∙◌, sym, append_assoc, append-nil, arith, eqb, leb, ◌||◌}
use Rattle.std.proofs.lemmas.Bool.Decides.{nat_tests}
use Rattle.rp_trace.specs.Grammar.{Tree, Letter, Nothing, Both, Either, Star, Level, Alternatives, Sequences, Factors, Primaries, Derives, one_sequence, either, one_factor, both, one_primary, starred, letter, nothing, group}
use Rattle.rp_trace.specs.Reading.{Lacks, Ends, ReadsNone, ReadsOnly, begins_primary}

-- the first symbols of two equal lists, and what follows them
head_same : (a b : ℕ) (s t : List ℕ) → a ∷ s ≡ b ∷ t → a ≡ b
head_same a b s t e = cc

tail_same : (a b : ℕ) (s t : List ℕ) → a ∷ s ≡ b ∷ t → s ≡ t
tail_same a b s t e = cc

other_mark : (a b : ℕ) (s : List ℕ) → (a ≡ b → ⊥) → Lacks b (a ∷ s)
other_mark a b s other rest e = other (head_same a b s rest e)

letter_begins : (v : ℕ) (rest : List ℕ) → v < 26 → begins_primary ((v + 65) ∷ rest) ≡ true
letter_begins v rest few =
    let low : leb 65 (v + 65) ≡ true = grind (arith, nat_tests) in
    let high : leb (v + 65) 90 ≡ true = grind (arith, nat_tests) in
    rw (low, high) (either_way (eqb (v + 65) 40))
  where
    either_way : (b : Bool) → (b || true) ≡ true
    either_way true = refl
    either_way false = refl

-- what a derivation reads begins with a letter or an opening bracket
begins : {level : Level} {s : List ℕ} {t : Tree} → Derives level s t → (rest : List ℕ) → begins_primary (s ++ rest) ≡ true
begins (one_sequence d) rest = begins d rest
begins (either {s} {s'} d d') rest = ap begins_primary (append_assoc s (124 ∷ s') rest) ∙ begins d ((124 ∷ s') ++ rest)
begins (one_factor d) rest = begins d rest
begins (both {s} {s'} d d') rest = ap begins_primary (append_assoc s s' rest) ∙ begins d (s' ++ rest)
begins (one_primary d) rest = begins d rest
begins (starred {s} d) rest = ap begins_primary (append_assoc s (42 ∷ []) rest) ∙ begins d ((42 ∷ []) ++ rest)
begins (letter v few) rest = letter_begins v rest few
begins nothing rest = refl
begins (group d) rest = refl

-- a front that derives something goes on, whatever its level
begins-some : {level : Level} {s : List ℕ} {t : Tree} (rest symbols : List ℕ) → Derives level s t → symbols ≡ s ++ rest → begins_primary symbols ≡ true
begins-some rest symbols d is = ap begins_primary is ∙ begins d rest

no_star : (symbols : List ℕ) → begins_primary symbols ≡ true → Lacks 42 symbols
no_star symbols some rest is = let star : begins_primary (42 ∷ rest) ≡ true = sym (ap begins_primary is) ∙ some in cc

split : (s s' symbols rest : List ℕ) → symbols ≡ (s ++ s') ++ rest → symbols ≡ s ++ (s' ++ rest)
split s s' symbols rest is = is ∙ append_assoc s s' rest

bar_ends : (rest : List ℕ) → Ends Sequences (124 ∷ rest)
bar_ends rest = (other_mark 124 42 rest (λ e. cc), refl)

close_ends : (rest : List ℕ) → Ends Alternatives (41 ∷ rest)
close_ends rest = (other_mark 41 42 rest (λ e. cc), refl, other_mark 41 124 rest (λ e. cc))

pub nothing_ends : Ends Alternatives []
nothing_ends = ((λ rest e. cc), refl, (λ rest e. cc))

-- sequences
pub alternatives-none : (s : List ℕ) → ReadsNone Sequences s → ReadsNone Alternatives s
alternatives-none s none used rest tree (one_sequence d) is ends = none used rest tree d is (ends.0, ends.1)
alternatives-none s none used rest tree (either {s = a} {s' = b} {t} d d') is ends = none a (124 ∷ (b ++ rest)) t d (split a (124 ∷ b) s rest is) (bar_ends (b ++ rest))

pub alternatives-one : (s r : List ℕ) (t : Tree) → ReadsOnly Sequences s t r → Lacks 124 r → ReadsOnly Alternatives s t r
alternatives-one s r t only lacks used rest tree (one_sequence d) is ends = only used rest tree d is (ends.0, ends.1)
alternatives-one s r t only lacks used rest tree (either {s = a} {s' = b} {t = x} d d') is ends =
    absurd (lacks (b ++ rest) (only a (124 ∷ (b ++ rest)) x d (split a (124 ∷ b) s rest is) (bar_ends (b ++ rest))).1)

pub alternatives-second_none : (s r r' : List ℕ) (t : Tree) → ReadsOnly Sequences s t r → r ≡ 124 ∷ r' → ReadsNone Alternatives r' → ReadsNone Alternatives s
alternatives-second_none s r r' t only bar none used rest tree (one_sequence d) is ends = ends.2 r' (sym (only used rest tree d is (ends.0, ends.1)).1 ∙ bar)
alternatives-second_none s r r' t only bar none used rest tree (either {s = a} {s' = b} {t = x} {t' = y} d d') is ends =
    let same = (only a (124 ∷ (b ++ rest)) x d (split a (124 ∷ b) s rest is) (bar_ends (b ++ rest))).1 in
    none b rest y d' (tail_same 124 124 r' (b ++ rest) (sym bar ∙ same)) ends

pub alternatives-either : (s r r' end : List ℕ) (t t' : Tree) → ReadsOnly Sequences s t r → r ≡ 124 ∷ r' → ReadsOnly Alternatives r' t' end → ReadsOnly Alternatives s (Either t t') end
alternatives-either s r r' end t t' only bar second used rest tree (one_sequence d) is ends = absurd (ends.2 r' (sym (only used rest tree d is (ends.0, ends.1)).1 ∙ bar))
alternatives-either s r r' end t t' only bar second used rest tree (either {s = a} {s' = b} {t = x} {t' = y} d d') is ends =
    let first = only a (124 ∷ (b ++ rest)) x d (split a (124 ∷ b) s rest is) (bar_ends (b ++ rest)) in
    let later = second b rest y d' (tail_same 124 124 r' (b ++ rest) (sym bar ∙ first.1)) ends in
    (ap (λ u. Either u t') first.0 ∙ ap (λ u. Either x u) later.0, later.1)

-- factors
more_ends : (a b rest : List ℕ) (t : Tree) → Derives Sequences b t → Ends Factors (b ++ rest)
more_ends a b rest t d = no_star (b ++ rest) (begins d rest)

pub sequences-none : (s : List ℕ) → ReadsNone Factors s → ReadsNone Sequences s
sequences-none s none used rest tree (one_factor d) is ends = none used rest tree d is ends.0
sequences-none s none used rest tree (both {s = a} {s' = b} {t = x} {t' = y} d d') is ends = none a (b ++ rest) x d (split a b s rest is) (more_ends a b rest y d')

pub sequences-one : (s r : List ℕ) (t : Tree) → ReadsOnly Factors s t r → begins_primary r ≡ false → ReadsOnly Sequences s t r
sequences-one s r t only stops used rest tree (one_factor d) is ends = only used rest tree d is ends.0
sequences-one s r t only stops used rest tree (both {s = a} {s' = b} {t = x} {t' = y} d d') is ends =
    let same = (only a (b ++ rest) x d (split a b s rest is) (more_ends a b rest y d')).1 in
    let goes : begins_primary r ≡ true = begins-some rest r d' same in
    absurd (cc)

pub sequences-second_none : (s r : List ℕ) (t : Tree) → ReadsOnly Factors s t r → begins_primary r ≡ true → ReadsNone Sequences r → ReadsNone Sequences s
sequences-second_none s r t only goes none used rest tree (one_factor d) is ends =
    let stops : begins_primary r ≡ false = ap begins_primary (only used rest tree d is ends.0).1 ∙ ends.1 in
    cc
sequences-second_none s r t only goes none used rest tree (both {s = a} {s' = b} {t = x} {t' = y} d d') is ends =
    none b rest y d' (only a (b ++ rest) x d (split a b s rest is) (more_ends a b rest y d')).1 ends

pub sequences-both : (s r end : List ℕ) (t t' : Tree) → ReadsOnly Factors s t r → begins_primary r ≡ true → ReadsOnly Sequences r t' end → ReadsOnly Sequences s (Both t t') end
sequences-both s r end t t' only goes second used rest tree (one_factor d) is ends =
    let stops : begins_primary r ≡ false = ap begins_primary (only used rest tree d is ends.0).1 ∙ ends.1 in
    absurd (cc)
sequences-both s r end t t' only goes second used rest tree (both {s = a} {s' = b} {t = x} {t' = y} d d') is ends =
    let first = only a (b ++ rest) x d (split a b s rest is) (more_ends a b rest y d') in
    let later = second b rest y d' first.1 ends in
    (ap (λ u. Both u t') first.0 ∙ ap (λ u. Both x u) later.0, later.1)

-- primaries with a star
pub factors-none : (s : List ℕ) → ReadsNone Primaries s → ReadsNone Factors s
factors-none s none used rest tree (one_primary d) is ends = none used rest tree d is tt
factors-none s none used rest tree (starred {s = a} {t = x} d) is ends = none a (42 ∷ rest) x d (split a (42 ∷ []) s rest is) tt

pub factors-one : (s r : List ℕ) (t : Tree) → ReadsOnly Primaries s t r → Lacks 42 r → ReadsOnly Factors s t r
factors-one s r t only lacks used rest tree (one_primary d) is ends = only used rest tree d is tt
factors-one s r t only lacks used rest tree (starred {s = a} {t = x} d) is ends = absurd (lacks rest (only a (42 ∷ rest) x d (split a (42 ∷ []) s rest is) tt).1)

pub factors-starred : (s r r' : List ℕ) (t : Tree) → ReadsOnly Primaries s t r → r ≡ 42 ∷ r' → ReadsOnly Factors s (Star t) r'
factors-starred s r r' t only star used rest tree (one_primary d) is ends = absurd (ends r' (sym (only used rest tree d is tt).1 ∙ star))
factors-starred s r r' t only star used rest tree (starred {s = a} {t = x} d) is ends =
    let read = only a (42 ∷ rest) x d (split a (42 ∷ []) s rest is) tt in
    (ap Star read.0, tail_same 42 42 r' rest (sym star ∙ read.1))

-- letters and brackets
inner : (a symbols m rest : List ℕ) → symbols ≡ 40 ∷ ((a ++ 41 ∷ []) ++ rest) → symbols ≡ 40 ∷ m → m ≡ a ++ 41 ∷ rest
inner a symbols m rest is left = tail_same 40 40 m ((a ++ 41 ∷ []) ++ rest) (sym left ∙ is) ∙ append_assoc a (41 ∷ []) rest

pub primaries-letter : (s r : List ℕ) (v : ℕ) → s ≡ (v + 65) ∷ r → ReadsOnly Primaries s (Letter v) r
primaries-letter s r v first used rest tree (letter w few) is ends =
    let same : v + 65 ≡ w + 65 = head_same (v + 65) (w + 65) r rest (sym first ∙ is) in
    let one : v ≡ w = omega arith in
    (ap Letter one, tail_same (v + 65) (w + 65) r rest (sym first ∙ is))
primaries-letter s r v first used rest tree nothing is ends =
    let same : v + 65 ≡ 40 = head_same (v + 65) 40 r (41 ∷ rest) (sym first ∙ is) in
    absurd (omega arith)
primaries-letter s r v first used rest tree (group {s = a} d) is ends =
    let same : v + 65 ≡ 40 = head_same (v + 65) 40 r ((a ++ 41 ∷ []) ++ rest) (sym first ∙ is) in
    absurd (omega arith)

pub primaries-none : (s : List ℕ) → ((v : ℕ) → v < 26 → Lacks (v + 65) s) → Lacks 40 s → ReadsNone Primaries s
primaries-none s letters bracket used rest tree (letter v few) is ends = letters v few rest is
primaries-none s letters bracket used rest tree nothing is ends = bracket (41 ∷ rest) is
primaries-none s letters bracket used rest tree (group {s = a} d) is ends = bracket ((a ++ 41 ∷ []) ++ rest) is

bracket_first : (s m rest : List ℕ) (v : ℕ) → s ≡ 40 ∷ m → s ≡ (v + 65) ∷ rest → ⊥
bracket_first s m rest v left is =
    let same : 40 ≡ v + 65 = head_same 40 (v + 65) m rest (sym left ∙ is) in
    omega arith

pub primaries-nothing : (s m r : List ℕ) → s ≡ 40 ∷ m → m ≡ 41 ∷ r → ReadsOnly Primaries s Nothing r
primaries-nothing s m r left right used rest tree (letter v few) is ends = absurd (bracket_first s m rest v left is)
primaries-nothing s m r left right used rest tree nothing is ends =
    (refl, tail_same 41 41 r rest (sym right ∙ tail_same 40 40 m (41 ∷ rest) (sym left ∙ is)))
primaries-nothing s m r left right used rest tree (group {s = a} d) is ends =
    let closes : begins_primary m ≡ false = ap begins_primary right in
    let opens : begins_primary m ≡ true = begins-some (41 ∷ rest) m d (inner a s m rest is left) in
    absurd (cc)

pub primaries-inner_none : (s m : List ℕ) → s ≡ 40 ∷ m → Lacks 41 m → ReadsNone Alternatives m → ReadsNone Primaries s
primaries-inner_none s m left some none used rest tree (letter v few) is ends = bracket_first s m rest v left is
primaries-inner_none s m left some none used rest tree nothing is ends = some rest (tail_same 40 40 m (41 ∷ rest) (sym left ∙ is))
primaries-inner_none s m left some none used rest tree (group {s = a} d) is ends = none a (41 ∷ rest) tree d (inner a s m rest is left) (close_ends rest)

pub primaries-unclosed : (s m r : List ℕ) (t : Tree) → s ≡ 40 ∷ m → Lacks 41 m → ReadsOnly Alternatives m t r → Lacks 41 r → ReadsNone Primaries s
primaries-unclosed s m r t left some only unclosed used rest tree (letter v few) is ends = bracket_first s m rest v left is
primaries-unclosed s m r t left some only unclosed used rest tree nothing is ends = some rest (tail_same 40 40 m (41 ∷ rest) (sym left ∙ is))
primaries-unclosed s m r t left some only unclosed used rest tree (group {s = a} d) is ends =
    unclosed rest (only a (41 ∷ rest) tree d (inner a s m rest is left) (close_ends rest)).1

pub primaries-group : (s m r r' : List ℕ) (t : Tree) → s ≡ 40 ∷ m → Lacks 41 m → ReadsOnly Alternatives m t r → r ≡ 41 ∷ r' → ReadsOnly Primaries s t r'
primaries-group s m r r' t left some only right used rest tree (letter v few) is ends = absurd (bracket_first s m rest v left is)
primaries-group s m r r' t left some only right used rest tree nothing is ends = absurd (some rest (tail_same 40 40 m (41 ∷ rest) (sym left ∙ is)))
primaries-group s m r r' t left some only right used rest tree (group {s = a} d) is ends =
    let read = only a (41 ∷ rest) tree d (inner a s m rest is left) (close_ends rest) in
    (read.0, tail_same 41 41 r' rest (sym right ∙ read.1))

-- the whole of the symbols
pub rest-nothing : (s text r : List ℕ) (t tree : Tree) → s ≡ text → ReadsOnly Alternatives s t r → Derives Alternatives text tree → r ≡ []
rest-nothing s text r t tree is only d = (only text [] tree d (is ∙ sym (append-nil text)) nothing_ends).1

pub nothing-derived : (s text : List ℕ) (tree : Tree) → s ≡ text → ReadsNone Alternatives s → Derives Alternatives text tree → ⊥
nothing-derived s text tree is none d = none text [] tree d (is ∙ sym (append-nil text)) nothing_ends
