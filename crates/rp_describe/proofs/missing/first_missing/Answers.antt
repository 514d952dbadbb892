use Rattle.std.proofs.Common.{ℕ, List, [], ◌∷◌, Some, IfSome, refl, sym, ◌∙◌, subst}
use Rattle.std.specs.Prelude.{slice_get}
use Rattle.std.specs.List.{AllByRecursion}
use Rattle.rp_words.specs.declared.form.Form.{Form}
use Rattle.rp_describe.specs.Missing.{AreMissing, IsMissing}
use Rattle.rp_describe.proofs.missing.first_missing.Goals as goal

first_is : (f : Form) (variable : ℕ) (members : List ℕ) → AllByRecursion (IsMissing f variable) members → IfSome (slice_get members 0) (AreMissing f variable (Some members))
first_is f variable [] all = tt
first_is f variable (m ∷ ms) all = record { others = ms; among = refl; missing = all }

pub returns : goal.returns
returns c =
    subst (λ o. IfSome o (AreMissing c.args.looker.now.form.now c.args.looker.now.variable (Some c.args.members.now))) (sym (c.copied.ensures ∙ c.first.ensures.value))
    (first_is c.args.looker.now.form.now c.args.looker.now.variable c.args.members.now (c.are_missing.ensures c.if-not-are_missing.false))
