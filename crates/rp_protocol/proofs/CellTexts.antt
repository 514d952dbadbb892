-- The text of a list of cells, cell by cell.
use Rattle.std.proofs.Common.{◌≡◌, ◌∙◌, ℕ, List, [], ◌∷◌, ◌++◌, refl, ap, sym, append_assoc, append-nil}
use Rattle.std.specs.Prelude.{codes, flat_map}
use Rattle.std.proofs.lemmas.List.Concat.{flat_map-append}
use Rattle.json.specs.Print.{escape, quoted}
use Rattle.rp_value.specs.declared.value.Value.{Value}
use Rattle.rp_protocol.specs.ReplyLines.{more_values, value_text, values_text}

-- further values, without the closing bracket
abbrev pub later_values : List Value → List ℕ
later_values = flat_map (λ v. codes "," ++ value_text v)

closed : (vs : List Value) (rest : List ℕ) → later_values vs ++ (codes "]" ++ rest) ≡ more_values vs ++ rest
closed [] rest = refl
closed (v ∷ vs) rest =
    append_assoc (codes "," ++ value_text v) (later_values vs) (codes "]" ++ rest)
    ∙ ap (λ t. codes "," ++ (value_text v ++ t)) (closed vs rest)
    ∙ ap (λ t. codes "," ++ t) (sym (append_assoc (value_text v) (more_values vs) rest))

pub later_more : (vs : List Value) (v : Value) (rest : List ℕ) → later_values vs ++ (codes "," ++ (value_text v ++ rest)) ≡ later_values (vs ++ v ∷ []) ++ rest
later_more vs v rest =
    sym (append_assoc (later_values vs) (codes "," ++ value_text v) rest)
    ∙ ap (λ t. (later_values vs ++ t) ++ rest) (sym (append-nil (codes "," ++ value_text v)))
    ∙ ap (λ t. t ++ rest) (sym (flat_map-append (λ w. codes "," ++ value_text w) vs (v ∷ [])))

pub whole_list : (v : Value) (vs : List Value) (rest : List ℕ) → codes "[" ++ (value_text v ++ (later_values vs ++ (codes "]" ++ rest))) ≡ values_text (v ∷ vs) ++ rest
whole_list v vs rest =
    ap (λ t. codes "[" ++ (value_text v ++ t)) (closed vs rest)
    ∙ ap (λ t. codes "[" ++ t) (sym (append_assoc (value_text v) (more_values vs) rest))

-- a text without escapes, between its quotes
pub plain_quoted : (s text rest : List ℕ) → escape s ≡ s → text ≡ s ++ (codes "\"" ++ rest) → codes "\"" ++ text ≡ quoted s ++ rest
plain_quoted s text rest plain is = rw (plain, is) (ap (λ t. codes "\"" ++ t) (sym (append_assoc s (codes "\"") rest)))
