use Rattle.std.proofs.Common.{◌≡◌, refl}
use Rattle.std.specs.Prelude.{IfSome, Option, Some, None}
use Rattle.rp_words.specs.PatternForm.{form_of}
use Rattle.rp_query.specs.declared.locality.Leader.{Leader}
use Rattle.rp_query.specs.Locality.{IsLeaderOf}
use Rattle.rp_query.proofs.query.Query.lead.Goals as goal

if_some : (P : Leader → Type 0) (o : Option Leader) → ((x : Leader) → o ≡ Some x → P x) → IfSome o P
if_some P None h = tt
if_some P (Some x) h = h x refl

pub returns : goal.returns
returns c = rw (← c.self.view_is) (if_some (IsLeaderOf (form_of c.self.inside.parts.value.pattern)) c.self.inside.lead c.self.inside.led)
