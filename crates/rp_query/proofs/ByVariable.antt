-- What rows of variables change that no total names.
use Rattle.std.proofs.Common.{◌≡◌, ℕ, zero, suc, ◌≤◌, ◌<◌, false, ◌||◌, List, [], ◌∷◌, map, length, Option, Some, None, refl, sym, ap, ◌∙◌, arith}
use Rattle.std.specs.Prelude.{nat_eq, slice_get}
use Rattle.std.specs.List.{AllByRecursion, list_any}
use Rattle.std.specs.declared.alloc.Global.{Global}
use Rattle.std.specs.declared.vec.Vec.{Vec}
use Rattle.std.proofs.lemmas.Bool.{ne_eqb}
use Rattle.std.proofs.lemmas.Option.{slice_get_within}
use Rattle.rp_query.specs.declared.changes.Change.{Change}
use Rattle.rp_query.specs.declared.plan.Total.{Total}
use Rattle.rp_query.specs.declared.plan.Variables.{Variables}
use Rattle.rp_query.specs.declared.plan.Variables.TheVariants.{Universal, Among}
use Rattle.rp_query.specs.Changes.{changed_by, change_of, or_others, IsUpTo, NamesUpTo}
use Rattle.rp_query.specs.Scopes.{includes}

not_among : (greatest : ℕ) (ms : List ℕ) (v : ℕ) → AllByRecursion (λ m. m ≤ greatest) ms → greatest < v → list_any (nat_eq v) ms ≡ false
not_among greatest [] v up lt = refl
not_among greatest (m ∷ ms) v up lt =
    let differs : nat_eq v m ≡ false = ne_eqb v m (λ e. omega (arith, up.0)) in
    let rest = not_among greatest ms v up.1 lt in
    ap (λ b. b || list_any (nat_eq v) ms) differs ∙ rest

other_included : (greatest : ℕ) (vs : Variables) (v w : ℕ) → IsUpTo greatest vs → greatest < v → greatest < w → includes vs v ≡ includes vs w
other_included greatest Universal v w up lv lw = refl
other_included greatest (Among members) v w up lv lw = not_among greatest members.items v up lv ∙ sym (not_among greatest members.items w up lw)

-- they change the same, whichever variables these are
others_change : (greatest : ℕ) (totals : List Total) (v w : ℕ) → NamesUpTo greatest totals → greatest < v → greatest < w → map (change_of v) totals ≡ map (change_of w) totals
others_change greatest [] v w up lv lw = refl
others_change greatest (t ∷ totals) v w up lv lw =
    let one = ap (changed_by t.function) (other_included greatest t.variables v w up.0 lv lw) in
    let more = others_change greatest totals v w up.1 lv lw in
    cc (one, more)

none_past : {X : Type 0} (xs : List X) (k : ℕ) → slice_get xs k ≡ None → length xs ≤ k
none_past {X} [] k is = omega arith
none_past {X} (x ∷ xs) zero is = absurd (cc)
none_past {X} (x ∷ xs) (suc k) is = omega (arith, none_past xs k is)

-- so what is kept of one serves for all
pub all_kept : (greatest : ℕ) (totals : List Total) (lists : List (Vec Change Global)) (others : List Change) → NamesUpTo greatest totals → greatest < length lists →
    ((v : ℕ) → v < length lists → or_others [] (slice_get lists v) ≡ map (change_of v) totals) → others ≡ map (change_of (length lists)) totals →
    (v : ℕ) → or_others others (slice_get lists v) ≡ map (change_of v) totals
all_kept greatest totals lists others up few kept rest v = go (slice_get lists v) refl
  where
    go : (o : Option (Vec Change Global)) → slice_get lists v ≡ o → or_others others o ≡ map (change_of v) totals
    go (Some changes) is = sym (ap (or_others []) is) ∙ kept v (slice_get_within lists v changes is)
    go None is = rest ∙ others_change greatest totals (length lists) v up few (omega (arith, few, none_past lists v is))
