use Rattle.std.proofs.Common.{◌≡◌, ◌∙◌, ap, sym}
use Rattle.json.specs.Json.{object}
use Rattle.json.specs.Value.{members_view, value_view}
use Rattle.json.proofs.Trees.{view-Object}
use Rattle.rp_objects.specs.Paths.{among, inside, nowhere, once, one_of, twice}
use Rattle.rp_objects.specs.Seen.{seen_among}
use Rattle.rp_objects.proofs.path.inside.Goals as goal

pub returns-in-Nowhere : goal.returns-in-Nowhere
returns-in-Nowhere c =
    let part = c.args.part.now in
    let value : value_view c.args.value.now ≡ object (members_view c.in-Object.members.items) = ap value_view c.in-Object.is ∙ view-Object c.in-Object.members in
    let found : among part (members_view c.in-Object.members.items) ≡ nowhere =
    ap (λ ms. among part (members_view ms)) (sym c.as_slice.ensures.value) ∙ sym c.find_part.ensures ∙ ap seen_among c.in-Nowhere.is in
    sym (ap (inside part) value ∙ ap one_of found)

pub returns-in-Once : goal.returns-in-Once
returns-in-Once c =
    let part = c.args.part.now in
    let value : value_view c.args.value.now ≡ object (members_view c.in-Object.members.items) = ap value_view c.in-Object.is ∙ view-Object c.in-Object.members in
    let found : among part (members_view c.in-Object.members.items) ≡ once (value_view c.in-Once.next.now) =
    ap (λ ms. among part (members_view ms)) (sym c.as_slice.ensures.value) ∙ sym c.find_part.ensures ∙ ap seen_among c.in-Once.is in
    sym (ap (inside part) value ∙ ap one_of found)

pub returns-in-Twice : goal.returns-in-Twice
returns-in-Twice c =
    let part = c.args.part.now in
    let value : value_view c.args.value.now ≡ object (members_view c.in-Object.members.items) = ap value_view c.in-Object.is ∙ view-Object c.in-Object.members in
    let found : among part (members_view c.in-Object.members.items) ≡ twice =
    ap (λ ms. among part (members_view ms)) (sym c.as_slice.ensures.value) ∙ sym c.find_part.ensures ∙ ap seen_among c.in-Twice.is in
    sym (ap (inside part) value ∙ ap one_of found)
