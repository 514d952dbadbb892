-- Reading a list element by element: before the first and behind the last.
use Rattle.std.proofs.Common.{◌≡◌, ◌≤◌, ℕ, List, [], ◌++◌, length, drop, Option, Some, None, option_map, refl, ap, append-nil, drop_of_length-le}
use Rattle.serde_json.specs.Data.{Data}
use Rattle.serde_json.specs.View.{items_view}
use Rattle.serde_json.specs.declared.value.Value.{Value as Json}
use Rattle.rp_json.specs.Forms.{list_in}
use Rattle.rp_json.proofs.Steps.{joined}

nothing_before : {A : Type 0} (read : Option (List A)) → read ≡ option_map (λ vs. [] ++ vs) read
nothing_before None = refl
nothing_before (Some vs) = refl

pub joined_first : {A : Type 0} (form : Data → Option A) (js : List Json) → list_in form (items_view js) ≡ joined form [] js
joined_first form js = nothing_before (list_in form (items_view js))

pub joined_all : {A : Type 0} (form : Data → Option A) (done : List A) (js : List Json) (i : ℕ) → length js ≤ i → joined form done (drop i js) ≡ Some done
joined_all form done js i h = rw (drop_of_length-le js h) (ap Some (append-nil done))
