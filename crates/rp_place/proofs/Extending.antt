-- What `extend` adds to a text.
use Rattle.std.proofs.Common.{◌≡◌, ◌∙◌, ℕ, List, ◌++◌, Option, sym, ap, string_bytes}
use Rattle.std.proofs.Math.Utf8.{encodes}
use Rattle.std.proofs.lemmas.Iterator.{YieldsList, items_from_drains}
use Rattle.std.proofs.lemmas.List.{map-id}
use Rattle.std.specs.Iterator.{ExtendsWithItems}
use Rattle.std.specs.Result.{OnOk}
use Rattle.std.specs.declared.result.Result.{Result}
use Rattle.std.specs.declared.result.Result.TheVariants.{Ok, Err}
use Rattle.std.specs.declared.string.String.{String}

pub extended : {S Z E : Type 0} {steps : S → Option ℕ → S → Type 0} {iter : S} {all : List ℕ} (old new : String Z) (r : Result (Unit {0}) E)
    → ExtendsWithItems (λ (s it : S). it ≡ s) steps (λ (s : String Z) (cs : List ℕ) (t : String Z). string_bytes t ≡ string_bytes s ++ encodes cs) iter old new r
    → YieldsList steps (λ c. c) iter all
    → OnOk r (string_bytes new ≡ string_bytes old ++ encodes all)
extended old new (Err e) ran gives = tt
extended old new (Ok x) (it, xs, is, added, drained) gives =
    let (u, (t, yields, ends)) = rw is at drained in
    added ∙ ap (λ cs. string_bytes old ++ encodes cs) (sym (map-id xs) ∙ items_from_drains xs (t, yields, λ _. (u, ends)) gives)
