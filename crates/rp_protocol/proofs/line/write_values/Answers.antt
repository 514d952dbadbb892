use Rattle.std.proofs.Common.{◌≡◌, ◌∙◌, ◌++◌, List, [], ◌∷◌, ap, take, map, append_assoc}
use Rattle.std.proofs.lemmas.List.{map-append, take_more}
use Rattle.std.proofs.lemmas.List.Elements.{All-append, All-cons, All-nil}
use Rattle.json.specs.Token.{Token, begin_array}
use Rattle.rp_value.specs.declared.value.Value.{Value}
use Rattle.rp_protocol.specs.Tokens.{value_token}
use Rattle.rp_protocol.specs.Within.{IsCell}
use Rattle.rp_protocol.proofs.line.write_values.Goals as goal

one_more : (before : List Token) (vs : List Value) (v : Value) → (before ++ begin_array ∷ map value_token vs) ++ value_token v ∷ [] ≡ before ++ begin_array ∷ map value_token (vs ++ v ∷ [])
one_more before vs v = rw (map-append value_token vs (v ∷ [])) (append_assoc before (begin_array ∷ map value_token vs) (value_token v ∷ []))

pub loop-value-preserved : goal.loop-value-preserved
loop-value-preserved c =
    let value = c.value-item.result in
    let done = take c.loop-value.value-index c.args.values.now in
    let cut = take_more c.args.values.now c.loop-value.value-index value c.loop-value-test.true in
    record {
      written = rw (cut, ← c.value-item.is) (c.in_ok-write_value.ensures.ok ∙ ap (λ ts. ts ++ value_token value ∷ []) c.loop-value.invariant.written ∙ one_more _ done value);
      within = rw (cut, ← c.value-item.is) (All-append IsCell done (value ∷ []) c.loop-value.invariant.within (All-cons IsCell value [] c.in_ok-write_value.ensures.within (All-nil IsCell)));
      before = c.write_value.ensures.before ∙ c.loop-value.invariant.before;
    }
