use Rattle.std.proofs.Common.{◌≡◌, ◌∙◌, [], ◌<◌, ℕ, List, get_or, length, sym, Some, None, position, true, false, rules}
use Rattle.std.proofs.lemmas.List.Quantifiers.{position-Some}
use Rattle.std.specs.Map.{keys_of, lookup}
use Rattle.rp_value.specs.declared.value.Value.{Value}
use Rattle.rp_query.specs.Keys.{same_key}
use Rattle.rp_numbering.proofs.Gathering.{with_row_at, with_row_new}
use Rattle.rp_numbering.proofs.partition.add_row.Goals as goal

pub returns-in_ok-push-in-Some : goal.returns-in_ok-push-in-Some
returns-in_ok-push-in-Some c =
    let entries = c.args.parts.now.entries in
    let found : position (same_key c.args.key) (keys_of entries) ≡ Some c.in-Some.index = sym c.in-Some.ensures.index in
    let at : (d : List Value) → (c.in-Some.index < length (keys_of entries)) × (same_key c.args.key (get_or (keys_of entries) c.in-Some.index d) ≡ true) × ((k : ℕ) → k < c.in-Some.index → same_key c.args.key (get_or (keys_of entries) k d) ≡ false) =
    λ d. position-Some (same_key c.args.key) (keys_of entries) c.in-Some.index d found in
    with_row_at entries c.in-Some.index c.args.key c.args.cells.now.items c.index_mut.result.now c.push.new.self (at []).0 (λ d. (at d).1) (λ d. (at d).2) c.index_mut.ensures.value c.in_ok-push-in-Some.ensures.ok

pub returns-in_ok-add_part-in-None : goal.returns-in_ok-add_part-in-None
returns-in_ok-add_part-in-None c =
    let none : lookup (same_key c.args.key) c.args.parts.now.entries ≡ None = search rules in
    c.in_ok-add_part-in-None.ensures ∙ sym (with_row_new c.args.parts.now.entries c.args.key c.args.cells.now.items none)
