-- The parts of a path, one after another.
use Rattle.std.proofs.Common.{◌≡◌, ◌∙◌, ◌==◌, ◌+◌, ℕ, true, false, List, [], ◌∷◌, ◌++◌, cond, append-nil, refl, ap}
use Rattle.rp_objects.specs.Paths.{dot, onto_first, path_of}

-- bytes before the first name
abbrev pub onto : List ℕ → List (List ℕ) → List (List ℕ)
onto [] parts = parts
onto (b ∷ bytes) parts = onto_first b (onto bytes parts)

pub onto_one : (bytes part : List ℕ) (parts : List (List ℕ)) → onto bytes (part ∷ parts) ≡ (bytes ++ part) ∷ parts
onto_one [] part parts = refl
onto_one (b ∷ bytes) part parts = ap (onto_first b) (onto_one bytes part parts)

onto_more : (bytes : List ℕ) (b : ℕ) (parts : List (List ℕ)) → onto bytes (onto_first b parts) ≡ onto (bytes ++ b ∷ []) parts
onto_more [] b parts = refl
onto_more (c ∷ bytes) b parts = ap (onto_first c) (onto_more bytes b parts)

-- a byte that is no dot belongs to the first name
pub no_dot : (before : List ℕ) (b : ℕ) (rest : List ℕ) → (b == dot) ≡ false → onto before (path_of (b ∷ rest)) ≡ onto (before ++ b ∷ []) (path_of rest)
no_dot before b rest other =
    ap (λ t. onto before (cond t ([] ∷ path_of rest) (onto_first b (path_of rest)))) other ∙ onto_more before b (path_of rest)

-- a dot ends it
pub at_dot : (before : List ℕ) (b : ℕ) (rest : List ℕ) → (b == dot) ≡ true → onto before (path_of (b ∷ rest)) ≡ before ∷ path_of rest
at_dot before b rest same =
    ap (λ t. onto before (cond t ([] ∷ path_of rest) (onto_first b (path_of rest)))) same ∙ onto_one before [] (path_of rest) ∙ ap (λ l. l ∷ path_of rest) (append-nil before)
