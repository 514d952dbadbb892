-- The text that a field has, and what it names.
use Rattle.std.proofs.Common.{◌≡◌, ◌∙◌, ℕ, List, Option, Some, ap, sym}
use Rattle.std.specs.Prelude.{option_and_then}
use Rattle.serde_json.specs.Data.{Data}
use Rattle.serde_json.specs.Find.{get, as_str}
use Rattle.rp_json.specs.Objects.{field}

-- what a field is whose text is this word
pub by_word : {A : Type 0} (name : List ℕ) (of : List ℕ → Option A) (d value : Data) (text word : List ℕ) → text ≡ word → Some value ≡ get name d → Some text ≡ as_str value
    → of word ≡ field name (λ v. option_and_then of (as_str v)) d
by_word name of d value text word is there has = ap of (sym is) ∙ ap (option_and_then of) has ∙ ap (option_and_then (λ v. option_and_then of (as_str v))) there
