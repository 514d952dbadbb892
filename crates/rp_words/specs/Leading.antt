-- The variable that the words of a pattern begin with, and whether it is mapped to no other row of them. Both may say no where
-- it is so. Own.
use Rattle.std.specs.Prelude.{◌≡◌, ◌≢◌, ℕ, Bool, true, false, not, ◌&&◌, ◌||◌, List, [], ◌∷◌, map, nat_eq, nat_lt, nat_le, Option, None, Some, ⊤}
use Rattle.std.specs.List.{AllByRecursion}
use Rattle.rp_words.specs.declared.form.Form.{Form}
use Rattle.rp_words.specs.declared.form.Form.TheOpen.{Form-F, Variable, Empty, Concatenation, Alternation, PartitionStart, PartitionEnd, Permute, Exclusion, Quantified}
use Rattle.rp_words.specs.declared.form.Form.TheFolds.{fold-Form}
use Rattle.rp_words.specs.declared.word.End.{End}
use Rattle.rp_words.specs.declared.word.Label.{Label}
use Rattle.rp_words.specs.Mapping.{labels_of}
use Rattle.rp_words.specs.Variables.{all_true}
use Rattle.rp_words.specs.Words.{words}

-- ---- what is known of a pattern

-- one layer of a pattern, with whether each part leads in its place, by whether what follows does
abbrev pub leads_step : ℕ → Form-F (Bool → Bool) → Bool → Bool
leads_step v (Variable u) rest = nat_eq u v
leads_step v Empty rest = rest
leads_step v (Concatenation p q) rest = p.value (q.value rest)
leads_step v (Alternation p q) rest = p.value rest && q.value rest
leads_step v PartitionStart rest = rest
leads_step v PartitionEnd rest = rest
leads_step v (Permute ps) rest = rest && all_true (map (λ p. p.value true) ps.items)
leads_step v (Exclusion p) rest = p.value rest
leads_step v (Quantified p lower upper reluctant) rest = p.value rest && (rest || nat_lt 0 lower)

-- A pattern and what follows it begin with a row of the variable, wherever they take one. Whether that is known of what
-- follows is given: where it isn't, the pattern itself has to take a row.
abbrev pub leads_before : ℕ → Form → Bool → Bool
leads_before v = fold-Form (Bool → Bool) (leads_step v)

-- each word of a pattern that takes a row begins with one of the variable
abbrev pub leads : ℕ → Form → Bool
leads v f = leads_before v f true

-- a quantifier iterates once at most
abbrev pub iterates_once : ℕ → Option ℕ → Bool
iterates_once lower None = false
iterates_once lower (Some upper) = nat_le lower 1 && nat_le upper 1

-- one layer of a pattern, with whether each part in its place has the variable once at most, where it may, or never
abbrev pub stands_step : ℕ → Form-F (Bool → Bool) → Bool → Bool
stands_step v (Variable u) may = may || not (nat_eq u v)
stands_step v Empty may = true
stands_step v (Concatenation p q) may = p.value may && q.value false || p.value false && q.value may
stands_step v (Alternation p q) may = p.value may && q.value may
stands_step v PartitionStart may = true
stands_step v PartitionEnd may = true
stands_step v (Permute ps) may = all_true (map (λ p. p.value false) ps.items)
stands_step v (Exclusion p) may = p.value may
stands_step v (Quantified p lower upper reluctant) may = p.value false || p.value may && iterates_once lower upper

-- each word of a pattern maps one row at most to the variable, where it may, or none
abbrev pub stands_where : ℕ → Form → Bool → Bool
stands_where v = fold-Form (Bool → Bool) (stands_step v)

-- each word of a pattern maps one row at most to the variable
abbrev pub stands_once : ℕ → Form → Bool
stands_once v f = stands_where v f true

-- ---- what it says of the labels

-- where there are labels, the first one is of the variable
abbrev pub IsLedBy : ℕ → List Label → Type 0
IsLedBy v [] = ⊤
IsLedBy v (l ∷ ls) = l.var ≡ v

-- no label but the first is of the variable
abbrev pub IsFirstAlone : ℕ → List Label → Type 0
IsFirstAlone v [] = ⊤
IsFirstAlone v (l ∷ ls) = AllByRecursion (λ m. m.var ≢ v) ls

-- The labels are headed by the variable: they begin with it, and where it is to stand alone, no other one is of it.
pub record IsHeadedBy (v : ℕ) (is_alone : Bool) (labels : List Label) : Type 0 where
  pub led : IsLedBy v labels
  pub alone : is_alone ≡ true → IsFirstAlone v labels

-- Where a variable leads, each word's labels are headed by it, and where it stands once by it alone.
abbrev pub LeadersHead : Type 0
LeadersHead = (v : ℕ) (f : Form) → leads v f ≡ true →
    (n : ℕ) (e : End) (i : ℕ) → AllByRecursion (λ w. IsHeadedBy v (stands_once v f) (labels_of w)) (words n e f i)
