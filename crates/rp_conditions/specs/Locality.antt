-- Where the conditions of a query are local, so are its tests.
use Rattle.std.specs.Prelude.{◌≡◌, ◌≢◌, ℕ, ◌+◌, Bool, List, [], ◌∷◌, ◌++◌, length, Some}
use Rattle.rp_words.specs.declared.word.Label.{Label}
use Rattle.rp_words.specs.declared.word.End.{End}
use Rattle.rp_words.specs.declared.word.Seen.TheVariants.{True}
use Rattle.rp_words.specs.Mapping.{Mapping, labels_of}
use Rattle.rp_words.specs.PatternForm.{form_of}
use Rattle.rp_search.specs.Lasting.{OfPattern, Says}
use Rattle.rp_query.specs.declared.locality.Locality.TheVariants.{Row, Span, Led}
use Rattle.rp_query.specs.Locality.{ConditionsAreLocal}
use Rattle.rp_search.specs.Locality.{IsLocal, IsSpanLocal, IsLedLocal}
use Rattle.rp_conditions.specs.Tested.{Tested, asked_of}

abbrev pub RowsAreTestedAlone : Type 0
RowsAreTestedAlone = (t : Tested) → ConditionsAreLocal Row t.query.plan → IsLocal (asked_of t)

abbrev pub SpansAreTestedAlone : Type 0
SpansAreTestedAlone = (t : Tested) → ConditionsAreLocal Span t.query.plan → IsSpanLocal (asked_of t)

abbrev pub LedAreTestedAlone : Type 0
LedAreTestedAlone = (leader : ℕ) (alone : Bool) (t : Tested) → ConditionsAreLocal (Led leader alone) t.query.plan → IsLedLocal leader alone (asked_of t)

-- The condition of the last of these labels isn't true of its row, from each start row below that one, whatever is mapped before, in
-- each word of the pattern.
abbrev pub RefusedBelow : Tested → ℕ → List Label → ℕ → Type 0
RefusedBelow t start labels until = (before : List Label) (label : Label) (after : List Label) (n : ℕ) (e : End) (w : Mapping) →
    labels ≡ before ++ label ∷ [] → OfPattern (Some (form_of t.query.pattern)) start n e w → labels_of w ≡ before ++ label ∷ after →
    Says (OfPattern (Some (form_of t.query.pattern))) (asked_of t) (λ seen. seen ≢ True) start until (start + length before) label
