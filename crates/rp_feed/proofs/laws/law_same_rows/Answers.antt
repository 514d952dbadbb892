use Rattle.std.proofs.Common.{rules, refl}
use Rattle.std.proofs.lemmas.Slice.Eq.{slice_eq-Decides}
use Rattle.rp_value.specs.declared.value.Value.{Value}
use Rattle.rp_feed.proofs.laws.law_same_rows.Goals as goal

pub returns : goal.returns
returns c = λ a b. slice_eq-Decides (λ (x y : Value). search rules) a b _ refl
