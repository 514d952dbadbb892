-- Byte order marks: whether a text begins with one, and what is behind it.
use Rattle.std.proofs.Common.{◌≡◌, ℕ, Bool, true, false, List, [], ◌∷◌, ◌++◌, ◌==◌, refl, ap, ◌∙◌, sym, append_assoc, subst, arith, eqb}
use Rattle.std.proofs.lemmas.Bool.Decides.{nat_tests}
use Rattle.csv.specs.Reading.{strip_bom}
use Rattle.rp_quotes.specs.Watching.{HasMark, IsSettled}
use Rattle.rp_quotes.specs.declared.mark.Mark.{Mark}
use Rattle.rp_quotes.specs.declared.mark.Mark.TheVariants as mark

-- a text that begins otherwise
pub other_first : (b : ℕ) → (b ≡ 0xEF → ⊥) → (rest : List ℕ) → strip_bom (b ∷ rest) ≡ b ∷ rest
unfolding strip_bom
other_first b other [] = refl
other_first b other (c ∷ []) = refl
other_first b other (c ∷ d ∷ rest) = let no : eqb b 0xEF ≡ false = grind (arith, nat_tests) in rw no refl

pub other_second : (b : ℕ) → (b ≡ 0xBB → ⊥) → (rest : List ℕ) → strip_bom (0xEF ∷ b ∷ rest) ≡ 0xEF ∷ b ∷ rest
unfolding strip_bom
other_second b other [] = refl
other_second b other (d ∷ rest) = let no : eqb b 0xBB ≡ false = grind (arith, nat_tests) in rw no refl

pub other_third : (b : ℕ) → (b ≡ 0xBF → ⊥) → (rest : List ℕ) → strip_bom (0xEF ∷ 0xBB ∷ b ∷ rest) ≡ 0xEF ∷ 0xBB ∷ b ∷ rest
unfolding strip_bom
other_third b other rest = let no : eqb b 0xBF ≡ false = grind (arith, nat_tests) in rw no refl

-- whatever the third byte is
third_by : (b : ℕ) (rest : List ℕ) (whole : Bool) → (b == 0xBF) ≡ whole → strip_bom (0xEF ∷ 0xBB ∷ b ∷ rest) ≡ strip_bom (0xEF ∷ 0xBB ∷ b ∷ []) ++ rest
unfolding strip_bom
third_by b rest true is = rw is refl
third_by b rest false is = rw is refl

pub settled-third : (b : ℕ) → IsSettled (0xEF ∷ 0xBB ∷ b ∷ [])
settled-third b rest = third_by b rest (b == 0xBF) refl

pub settled-more : (text : List ℕ) (b : ℕ) → IsSettled text → IsSettled (text ++ b ∷ [])
settled-more text b settled rest =
    ap strip_bom (append_assoc text (b ∷ []) rest) ∙ settled (b ∷ rest) ∙ sym (append_assoc (strip_bom text) (b ∷ []) rest) ∙ ap (λ front. front ++ rest) (sym (settled (b ∷ [])))

-- one byte more, unless the mark ends with it
pub stripped_last : (m : Mark) (text : List ℕ) (b : ℕ) → HasMark m text → (m ≡ mark.Second → b ≡ 0xBF → ⊥) → strip_bom (text ++ b ∷ []) ≡ strip_bom text ++ b ∷ []
unfolding strip_bom
stripped_last mark.Nothing text b is other = subst (λ t. strip_bom (t ++ b ∷ []) ≡ strip_bom t ++ b ∷ []) (sym is) refl
stripped_last mark.First text b is other = subst (λ t. strip_bom (t ++ b ∷ []) ≡ strip_bom t ++ b ∷ []) (sym is) refl
stripped_last mark.Second text b is other = subst (λ t. strip_bom (t ++ b ∷ []) ≡ strip_bom t ++ b ∷ []) (sym is) (other_third b (other refl) [])
stripped_last mark.Settled text b settled other = settled (b ∷ [])

-- what is told behind a byte by which the text begins otherwise
pub told_nothing : (m : Mark) (b : ℕ) (text : List ℕ) → m ≡ mark.Nothing → (b ≡ 0xEF → ⊥) → HasMark m text → IsSettled (text ++ b ∷ [])
unfolding strip_bom
told_nothing m b text is other has rest =
    let empty : text ≡ [] = subst (λ n. HasMark n text) is has in
    subst (λ t. strip_bom ((t ++ b ∷ []) ++ rest) ≡ strip_bom (t ++ b ∷ []) ++ rest) (sym empty) (other_first b other rest)

pub told_first : (m : Mark) (b : ℕ) (text : List ℕ) → m ≡ mark.First → (b ≡ 0xBB → ⊥) → HasMark m text → IsSettled (text ++ b ∷ [])
unfolding strip_bom
told_first m b text is other has rest =
    let one : text ≡ 0xEF ∷ [] = subst (λ n. HasMark n text) is has in
    subst (λ t. strip_bom ((t ++ b ∷ []) ++ rest) ≡ strip_bom (t ++ b ∷ []) ++ rest) (sym one) (other_second b other rest)

pub told_second : (m : Mark) (b : ℕ) (text : List ℕ) → m ≡ mark.Second → HasMark m text → IsSettled (text ++ b ∷ [])
told_second m b text is has =
    let two : text ≡ 0xEF ∷ 0xBB ∷ [] = subst (λ n. HasMark n text) is has in
    subst (λ t. IsSettled (t ++ b ∷ [])) (sym two) (settled-third b)
