-- Inside: A PERMUTE of variables, by the sets of those that are still to be mapped. A set is a number: read from the first
-- variable on, the sets without it come before those with it.
use Rattle.std.specs.Prelude.{ℕ, zero, suc, ◌+◌, ◌-◌, Bool, List, [], ◌∷◌, map, length, drop, get_or, nat_le, if◌then◌else◌, Option, Some, None, ⊤}
use Rattle.rp_words.specs.declared.form.Form.TheVariants.{Variable}
use Rattle.rp_words.specs.declared.word.End.{End}
use Rattle.rp_words.specs.Turns.{WordsAndTurns}
use Rattle.rp_words.specs.Permutations.{factorial}
use Rattle.rp_program.specs.declared.place.Place.{Place}
use Rattle.rp_program.specs.Parts.{form_part, joined, either, from_row, no_way}
use Rattle.rp_program.specs.Places.{at, parts}
use Rattle.rp_program.specs.Drafts.{Puts}

-- how many sets there are of so many things
abbrev pub sets : ℕ → ℕ
sets zero = 1
sets (suc k) = sets k + sets k

-- the variables of the set with this number
abbrev pub in_set : List ℕ → ℕ → List ℕ
in_set [] number = []
in_set (v ∷ vs) number = if nat_le (sets (length vs)) number then v ∷ in_set vs (number - sets (length vs)) else in_set vs number

-- of the set whose number is the length of the table, each variable, and what the table has for the set of the others
abbrev pub ways : List ℕ → List ℕ → List (ℕ × ℕ)
ways [] table = []
ways (v ∷ vs) table =
    if nat_le (sets (length vs)) (length table)
    then (v, get_or table (length table - sets (length vs)) 0) ∷ ways vs (drop (sets (length vs)) table)
    else ways vs table

-- each of these variables as a part
abbrev pub variable_parts : ℕ → End → List ℕ → Bool → List WordsAndTurns
variable_parts n e vars excluded = map (λ v. form_part n e (Variable v) excluded) vars

-- a row mapped to the variable, and then what the place beside it stands for
abbrev pub one_way : ℕ → End → List WordsAndTurns → Bool → ℕ × ℕ → WordsAndTurns
one_way n e ps excluded way = joined (form_part n e (Variable way.0) excluded) (at ps way.1)

-- any of these ways, the first ones preferred
abbrev pub any_way : ℕ → End → List WordsAndTurns → Bool → ℕ → List (ℕ × ℕ) → WordsAndTurns
any_way n e ps excluded others [] = no_way
any_way n e ps excluded others (way ∷ []) = one_way n e ps excluded way
any_way n e ps excluded others (way ∷ next ∷ ways) =
    from_row n e others (either (one_way n e ps excluded way) (any_way n e ps excluded others (next ∷ ways)))

-- one way, or else a place, if there is one
abbrev pub way_or : ℕ → End → List WordsAndTurns → Bool → ℕ → ℕ × ℕ → Option ℕ → WordsAndTurns
way_or n e ps excluded others way None = one_way n e ps excluded way
way_or n e ps excluded others way (Some other) = from_row n e others (either (one_way n e ps excluded way) (at ps other))

-- there is a place where there are ways
abbrev pub IsThere : List (ℕ × ℕ) → Option ℕ → Type 0
IsThere [] None = ⊤
IsThere [] (Some q) = ⊥
IsThere (way ∷ ways) None = ⊥
IsThere (way ∷ ways) (Some q) = ⊤

-- the new places begin with one for any of these ways
pub record PutsWays (ways : List (ℕ × ℕ)) (excluded : Bool) (others : ℕ) (old new : List Place) (result : Option ℕ) : Type 0 where
  pub puts : Puts (λ n e i. any_way n e (parts n e old) excluded others ways) old new result
  pub there : IsThere ways result

-- how many orders of the variables in a set there are besides the first one
abbrev pub other_orders : List ℕ → ℕ → ℕ
other_orders vars number = factorial (length (in_set vars number)) - 1
