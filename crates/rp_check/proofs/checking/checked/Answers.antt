use Rattle.std.proofs.Common.{rules, ◌≡◌, [], false, true}
use Rattle.rp_tree.specs.Clauses.{clause_tree}
use Rattle.rp_check.specs.QueryOf.{IsQueryOf}
use Rattle.rp_resolution.specs.Checked.{Tells}
use Rattle.rp_check.specs.Checking.{ArePlaces, IsPlanned, spoken}
use Rattle.rp_check.specs.ClauseFaults.{faults, name_faults, listing_faults, expression_faults, shown_faults}
use Rattle.rp_check.proofs.Soundness.{sound}
use Rattle.rp_resolution.proofs.Telling.{telling, tells_front}
use Rattle.rp_check.proofs.Whole.{planned_in, is_query, allowed_pattern, list_wrong, plan_wrong, output_wrong, none_wrong}
use Rattle.rp_check.proofs.checking.checked.Goals as goal

pub returns-in_err-named : goal.returns-in_err-named
returns-in_err-named c =
    let told : Tells c.in_err-named.field-0.0 (faults (clause_tree c.args.clause.now) c.args.table.now) = tells_front c.in_err-named.field-0.0 (name_faults (clause_tree c.args.clause.now)) _ c.in_err-named.ensures in
    search (rules, told)

pub returns-in_err-places : goal.returns-in_err-places
returns-in_err-places c =
    let t = clause_tree c.args.clause.now in
    let n = c.in_ok-named.named.value in
    let same : c.deref-known.result.now ≡ n = search rules in
    let here : Tells c.in_err-places.field-0.0 (listing_faults n.variables.items c.args.table.now t) = rw (← same, ← c.as_slice.ensures.value, ← c.columns-columns.ensures.columns) c.in_err-places.ensures in
    let told = list_wrong t c.args.table.now n c.in_err-places.field-0.0 c.in_ok-named.ensures.0 c.in_ok-named.ensures.1 here in
    search (rules, told)

pub returns-in_err-planned : goal.returns-in_err-planned
returns-in_err-planned c =
    let t = clause_tree c.args.clause.now in
    let n = c.in_ok-named.named.value in
    let same : c.deref-known.result.now ≡ n = search rules in
    let listed : listing_faults n.variables.items c.args.table.now t ≡ [] = rw (← same, ← c.as_slice.ensures.value, ← c.columns-columns.ensures.columns) c.in_ok-places.ensures.0 in
    let here : Tells c.in_err-planned.field-0.0 (expression_faults (spoken n.sets.items c.args.table.now n.classes false) (spoken n.sets.items c.args.table.now n.classes true) t) = rw (← same, ← c.as_slice-2.ensures.value, ← c.columns-columns.ensures.columns) c.in_err-planned.ensures in
    let told = plan_wrong t c.args.table.now n c.in_err-planned.field-0.0 c.in_ok-named.ensures.0 c.in_ok-named.ensures.1 listed here in
    search (rules, told)

pub returns-in_err-allow_output : goal.returns-in_err-allow_output
returns-in_err-allow_output c =
    let t = clause_tree c.args.clause.now in
    let n = c.in_ok-named.named.value in
    let same : c.deref-known.result.now ≡ n = search rules in
    let listed : listing_faults n.variables.items c.args.table.now t ≡ [] = rw (← same, ← c.as_slice.ensures.value, ← c.columns-columns.ensures.columns) c.in_ok-places.ensures.0 in
    let planned : expression_faults (spoken n.sets.items c.args.table.now n.classes false) (spoken n.sets.items c.args.table.now n.classes true) t ≡ [] = rw (← same, ← c.as_slice-2.ensures.value, ← c.columns-columns.ensures.columns) c.in_ok-planned.ensures.0 in
    let here : Tells c.in_err-allow_output.field-0.0 (shown_faults c.args.table.now t) = rw (← c.columns-columns.ensures.columns) c.in_err-allow_output.ensures in
    let told = output_wrong t c.args.table.now n c.in_err-allow_output.field-0.0 c.in_ok-named.ensures.0 c.in_ok-named.ensures.1 listed planned here in
    search (rules, told)

pub returns-in_err-data : goal.returns-in_err-data
returns-in_err-data c = search (rules, telling)

pub returns : goal.returns
returns c =
    let t = clause_tree c.args.clause.now in
    let columns = c.args.table.now in
    let n = c.in_ok-named.named.value in
    let same : c.deref-known.result.now ≡ n = search rules in
    let l = c.in_ok-places.places.value in
    let p = c.in_ok-planned.planned.value in
    let listed : listing_faults n.variables.items columns t ≡ [] = rw (← same, ← c.as_slice.ensures.value, ← c.columns-columns.ensures.columns) c.in_ok-places.ensures.0 in
    let planned : expression_faults (spoken n.sets.items columns n.classes false) (spoken n.sets.items columns n.classes true) t ≡ [] = rw (← same, ← c.as_slice-2.ensures.value, ← c.columns-columns.ensures.columns) c.in_ok-planned.ensures.0 in
    let shown : shown_faults columns t ≡ [] = rw (← c.columns-columns.ensures.columns) c.in_ok-allow_output.ensures.0 in
    let are_places : ArePlaces n.variables.items columns t l = rw (← same, ← c.as_slice.ensures.value, ← c.columns-columns.ensures.columns) c.in_ok-places.ensures.1 in
    let is_planned : IsPlanned (spoken n.sets.items columns n.classes false) (spoken n.sets.items columns n.classes true) t p = rw (← same, ← c.as_slice-2.ensures.value, ← c.columns-columns.ensures.columns) c.in_ok-planned.ensures.1 in
    let clean : faults t columns ≡ [] = none_wrong t columns n c.in_ok-named.ensures.0 c.in_ok-named.ensures.1 listed planned shown in
    let is : IsQueryOf t c.args.clause.now.text columns c.in_ok-data.data = is_query t c.args.clause.now.text columns n l p c.in_ok-data.data c.in_ok-named.ensures.1 are_places (planned_in t columns n p c.in_ok-named.ensures.1 is_planned) c.in_ok-data.ensures in
    let allowed = allowed_pattern t c.args.clause.now.text columns n l p c.in_ok-data.data c.in_ok-named.ensures.1 c.in_ok-data.ensures in
    (clean, (is, sound t columns c.args.clause.now.text c.in_ok-data.data clean is allowed))
