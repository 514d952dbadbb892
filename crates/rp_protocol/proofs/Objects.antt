-- The text of the tokens of an output row's object.
use Rattle.std.proofs.Common.{◌≡◌, ◌∙◌, ℕ, ◌≤◌, min, List, [], ◌∷◌, ◌++◌, length, drop, refl, ap, sym, append_assoc, arith}
use Rattle.std.proofs.lemmas.List.{length-drop}
use Rattle.std.proofs.lemmas.Slice.Zip.{length-zip}
use Rattle.std.specs.Prelude.{codes, zip, true, false}
use Rattle.std.specs.List.{flat_map}
use Rattle.json.specs.Token.{Token, end_object, begin_object, key}
use Rattle.json.specs.Print.{print, print_from, quoted}
use Rattle.json.proofs.OnLiterals.{json_on_literals}
use Rattle.rp_value.specs.declared.value.Value.{Value}
use Rattle.rp_query.specs.declared.query.OutputColumn.{OutputColumn}
use Rattle.rp_protocol.specs.ReplyLines.{value_text}
use Rattle.rp_protocol.specs.ObjectTexts.{Field, field_text, more_fields, fields_text, object_text}
use Rattle.rp_protocol.specs.Tokens.{value_token, field_tokens, object_tokens}
use Rattle.rp_protocol.proofs.Texts.{value_first}

next_field : (name : List ℕ) (ts : List Token) → print_from true (key name ∷ ts) ≡ codes "," ++ ((quoted name ++ codes ":") ++ print_from false ts)
unfolding print_from
next_field name ts = refl

first_field : (name : List ℕ) (ts : List Token) → print_from false (begin_object ∷ key name ∷ ts) ≡ codes "{" ++ ((quoted name ++ codes ":") ++ print_from false ts)
unfolding print_from
first_field name ts = refl

closed : print_from true (end_object ∷ []) ≡ codes "}"
unfolding json_on_literals
closed = refl

empty : print_from false (begin_object ∷ end_object ∷ []) ≡ codes "{}"
unfolding json_on_literals
empty = refl

value_and_more : (o : OutputColumn) (v : Value) (ts : List Token) (more : List ℕ) → print_from true ts ≡ more
    → (quoted o.name ++ codes ":") ++ print_from false (value_token v ∷ ts) ≡ field_text (o, v) ++ more
value_and_more o v ts more is =
    append_assoc (quoted o.name) (codes ":") (print_from false (value_token v ∷ ts))
    ∙ ap (λ t. quoted o.name ++ (codes ":" ++ t)) (value_first v ts ∙ ap (λ t. value_text v ++ t) is)
    ∙ sym (append_assoc (quoted o.name) (codes ":" ++ value_text v) more)

fields_print : (fs : List Field) → print_from true (flat_map field_tokens fs ++ end_object ∷ []) ≡ more_fields fs
fields_print [] = closed
fields_print (f ∷ fs) =
    next_field f.0.name (value_token f.1 ∷ (flat_map field_tokens fs ++ end_object ∷ []))
    ∙ ap (λ t. codes "," ++ t) (value_and_more f.0 f.1 (flat_map field_tokens fs ++ end_object ∷ []) (more_fields fs) (fields_print fs))

all_print : (fs : List Field) → print_from false (begin_object ∷ (flat_map field_tokens fs ++ end_object ∷ [])) ≡ fields_text fs
all_print [] = empty
all_print (f ∷ fs) =
    first_field f.0.name (value_token f.1 ∷ (flat_map field_tokens fs ++ end_object ∷ []))
    ∙ ap (λ t. codes "{" ++ t) (value_and_more f.0 f.1 (flat_map field_tokens fs ++ end_object ∷ []) (more_fields fs) (fields_print fs))

pub object_print : (columns : List OutputColumn) (cells : List Value) → print (object_tokens columns cells) ≡ object_text columns cells
object_print columns cells = all_print (zip columns cells)

nothing_left : {A : Type 0} (xs : List A) → length xs ≡ 0 → xs ≡ []
nothing_left [] e = refl
nothing_left (x ∷ xs) e = absurd (omega (arith, e))

-- past the end of the shorter list there is no pair
pub no_pair : (columns : List OutputColumn) (cells : List Value) (n : ℕ) → min (length columns) (length cells) ≤ n → zip (drop n columns) (drop n cells) ≡ []
no_pair columns cells n h =
    nothing_left (zip (drop n columns) (drop n cells)) (length-zip (drop n columns) (drop n cells) ∙ omega (arith, length-drop n columns, length-drop n cells, h))
