-- Inside: a pattern that is read, the names of its variables behind those before it.
use Rattle.std.specs.Prelude.{◌≡◌, ℕ, true, List, [], ◌∷◌, ◌++◌, map, Option, None}
use Rattle.rp_words.specs.declared.form.Form.{Form}
use Rattle.rp_words.specs.declared.form.Form.TheVariants as form
use Rattle.rp_words.specs.Bounds.{is_allowed}
use Rattle.rp_words.specs.Variables.{all_true}
use Rattle.rp_tree.specs.Tree.{Tree}
use Rattle.rp_resolution.specs.declared.fault.Fault.{Fault}
use Rattle.rp_resolution.specs.PartFaults.{pattern_faults, first_of, first_exclusion}
use Rattle.rp_resolution.specs.Variables.{variables_after}
use Rattle.rp_same_query.specs.Shapes.{shape_of}
use Rattle.rp_resolution.specs.Shapes.{shaped}

-- its form is allowed and has the shape of the tree, also where more names follow
pub record Reads (before : List (List ℕ)) (t : Tree) (now : List (List ℕ)) (f : Form) : Type 0 where
  pub allowed : is_allowed f ≡ true
  pub names : now ≡ variables_after before t
  pub extra : List (List ℕ)
  pub grown : now ≡ before ++ extra
  pub shape : (more : List (List ℕ)) → shape_of f ≡ shaped (now ++ more) t

abbrev pub all_after : List (List ℕ) → List Tree → List (List ℕ)
all_after names [] = names
all_after names (t ∷ ts) = all_after (variables_after names t) ts

abbrev pub all_faults : List Tree → List Fault
all_faults [] = []
all_faults (t ∷ ts) = pattern_faults t ++ all_faults ts

-- the same of several
pub record ReadsAll (before : List (List ℕ)) (ts : List Tree) (now : List (List ℕ)) (fs : List Form) : Type 0 where
  pub allowed : all_true (map is_allowed fs) ≡ true
  pub names : now ≡ all_after before ts
  pub extra : List (List ℕ)
  pub grown : now ≡ before ++ extra
  pub shapes : (more : List (List ℕ)) → map shape_of fs ≡ map (shaped (now ++ more)) ts

-- where the first exclusion in one of these stands
abbrev pub exclusion_among : List Tree → Option ℕ
exclusion_among [] = None
exclusion_among (t ∷ ts) = first_of (first_exclusion t) (exclusion_among ts)

-- the forms, or the empty one where there are none
abbrev pub one_at_least : List Form → List Form
one_at_least [] = form.Empty ∷ []
one_at_least (f ∷ fs) = f ∷ fs
