-- Where a part of a path stands among members, one more member in front.
use Rattle.std.proofs.Common.{◌≡◌, ◌∙◌, ◌+◌, ℕ, List, ◌∷◌, Bor, drop, sym, ap}
use Rattle.json.specs.Value.{members_view, value_view}
use Rattle.json.specs.declared.value.Value.{Value}
use Rattle.rp_objects.specs.Paths.{Among, among, names_part, with_member}

pub among_more : {A : Type 0} (part : List ℕ) (ms : List (Bor (List ℕ) × Value A)) (m : Bor (List ℕ) × Value A) (i left : ℕ) (later : Among)
    → left ≡ i + 1 → drop i ms ≡ m ∷ drop (i + 1) ms → later ≡ among part (members_view (drop left ms))
    → with_member (names_part part m.0.now) (value_view m.1) later ≡ among part (members_view (drop i ms))
among_more part ms m i left later at next is =
    ap (with_member (names_part part m.0.now) (value_view m.1)) (is ∙ ap (λ k. among part (members_view (drop k ms))) at)
    ∙ sym (ap (λ xs. among part (members_view xs)) next)
