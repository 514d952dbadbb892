use Rattle.std.proofs.Common.{◌≡◌, ◌+◌, ◌-◌, ◌<◌, ◌∷◌, ◌∙◌, drop, length, sym, ap, arith}
use Rattle.std.proofs.lemmas.List.{drop_all, drop_more}
use Rattle.json.specs.Value.{members_view, value_view}
use Rattle.rp_objects.specs.Paths.{among, names_part, with_member}
use Rattle.rp_objects.specs.Seen.{seen_among}
use Rattle.rp_objects.proofs.MembersFound.{among_more}
use Rattle.rp_objects.proofs.path.find_part.Goals as goal

pub loop-left-init : goal.loop-left-init
loop-left-init c = record {
  found = ap (λ ms. among c.args.part.now (members_view ms)) (sym (drop_all (length c.args.members.now) c.args.members.now (omega arith)));
  within = omega arith;
}

pub loop-left-preserved : goal.loop-left-preserved
loop-left-preserved c =
    let part = c.args.part.now in
    let ms = c.args.members.now in
    let i = c.loop-left.left - 1 in
    let m = c.index-members-left.result in
    let at : c.loop-left.left ≡ i + 1 = omega arith in
    let within = c.loop-left.invariant.within in
    let low : i < length ms = omega (arith, within) in
    let next : drop i ms ≡ m ∷ drop (i + 1) ms = drop_more ms i m low ∙ ap (λ x. x ∷ drop (i + 1) ms) (sym c.index-members-left.is) in
    let named : c.names_part.result ≡ names_part part m.0.now = c.names_part.ensures ∙ ap (names_part part) c.as_bytes.ensures.value in
    record {
      found = c.with_member-found.ensures ∙ ap (λ b. with_member b (value_view m.1) (seen_among c.loop-left.found)) named
          ∙ among_more part ms m i c.loop-left.left (seen_among c.loop-left.found) at next c.loop-left.invariant.found;
      within = omega (arith, within);
    }

pub returns : goal.returns
returns c =
    let none : c.loop-left.left ≡ 0 = omega arith in
    c.loop-left.invariant.found ∙ ap (λ n. among c.args.part.now (members_view (drop n c.args.members.now))) none
