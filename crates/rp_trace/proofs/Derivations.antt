-- What a parse has read.
use Rattle.std.proofs.Common.{◌≡◌, ℕ, ◌+◌, ◌<◌, List, [], ◌∷◌, ◌++◌, ap, ◌∙◌, sym, append_assoc}
use Rattle.rp_trace.specs.Grammar.{Tree, Letter, Nothing, Both, Either, Star, Alternatives, Sequences, Factors, Primaries, one_sequence, either, one_factor, both, one_primary, starred, letter, nothing, group}
use Rattle.rp_trace.specs.Reading.{ReadsTree}

pub reads_one_sequence : (s r : List ℕ) (t : Tree) → ReadsTree Sequences s t r → ReadsTree Alternatives s t r
reads_one_sequence s r t read = (read.0, one_sequence read.1, read.2)

pub reads_either : (s m n r : List ℕ) (a b : Tree) → ReadsTree Sequences s a m → m ≡ 124 ∷ n → ReadsTree Alternatives n b r → ReadsTree Alternatives s (Either a b) r
reads_either s m n r a b first bar second =
    (first.0 ++ 124 ∷ second.0, either first.1 second.1, first.2 ∙ ap (λ t. first.0 ++ t) (bar ∙ ap (λ t. 124 ∷ t) second.2) ∙ sym (append_assoc first.0 (124 ∷ second.0) r))

pub reads_one_factor : (s r : List ℕ) (t : Tree) → ReadsTree Factors s t r → ReadsTree Sequences s t r
reads_one_factor s r t read = (read.0, one_factor read.1, read.2)

pub reads_both : (s m r : List ℕ) (a b : Tree) → ReadsTree Factors s a m → ReadsTree Sequences m b r → ReadsTree Sequences s (Both a b) r
reads_both s m r a b first second =
    (first.0 ++ second.0, both first.1 second.1, first.2 ∙ ap (λ t. first.0 ++ t) second.2 ∙ sym (append_assoc first.0 second.0 r))

pub reads_one_primary : (s r : List ℕ) (t : Tree) → ReadsTree Primaries s t r → ReadsTree Factors s t r
reads_one_primary s r t read = (read.0, one_primary read.1, read.2)

pub reads_starred : (s m r : List ℕ) (a : Tree) → ReadsTree Primaries s a m → m ≡ 42 ∷ r → ReadsTree Factors s (Star a) r
reads_starred s m r a read star = (read.0 ++ 42 ∷ [], starred read.1, read.2 ∙ ap (λ t. read.0 ++ t) star ∙ sym (append_assoc read.0 (42 ∷ []) r))

pub reads_letter : (s r : List ℕ) (v : ℕ) → v < 26 → s ≡ (v + 65) ∷ r → ReadsTree Primaries s (Letter v) r
reads_letter s r v few is = ((v + 65) ∷ [], letter v few, is)

pub reads_nothing : (s m r : List ℕ) → s ≡ 40 ∷ m → m ≡ 41 ∷ r → ReadsTree Primaries s Nothing r
reads_nothing s m r left right = (40 ∷ 41 ∷ [], nothing, left ∙ ap (λ t. 40 ∷ t) right)

pub reads_group : (s m n r : List ℕ) (t : Tree) → s ≡ 40 ∷ m → ReadsTree Alternatives m t n → n ≡ 41 ∷ r → ReadsTree Primaries s t r
reads_group s m n r t left inner right =
    (40 ∷ (inner.0 ++ 41 ∷ []), group inner.1, left ∙ ap (λ t. 40 ∷ t) (inner.2 ∙ ap (λ t. inner.0 ++ t) right ∙ sym (append_assoc inner.0 (41 ∷ []) r)))
