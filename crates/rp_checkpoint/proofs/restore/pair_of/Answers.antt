use Rattle.std.proofs.Common.{◌≡◌, rules, refl, List, [], ◌∷◌, length}
use Rattle.std.specs.Prelude.{Some, None, ◌≢◌}
use Rattle.serde_json.specs.Find.{as_array}
use Rattle.serde_json.specs.View.{view, items_view}
use Rattle.serde_json.specs.declared.value.Value.{Value as Json}
use Rattle.rp_checkpoint.specs.Checkpoints.{two_of}
use Rattle.rp_checkpoint.proofs.restore.pair_of.Goals as goal

two_other : (js : List Json) → length js ≢ 2 → two_of (items_view js) ≡ None
two_other [] h = refl
two_other (a ∷ []) h = refl
two_other (a ∷ b ∷ []) h = absurd (h refl)
two_other (a ∷ b ∷ c ∷ js) h = refl

pub returns-then-list-ne2 : goal.returns-then-list-ne2
returns-then-list-ne2 c =
    let e : as_array (view c.args.json.now) ≡ Some (items_view c.as_slice-list.result.now) = search rules in
    rw (e, two_other c.as_slice-list.result.now c.if-list-ne2.true) refl
