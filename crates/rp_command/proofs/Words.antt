-- What clap found, in what it makes of the words.
use Rattle.std.proofs.Common.{◌≡◌, List, subst}
use Rattle.clap.specs.Words.{App, Row, Text}
use Rattle.rp_command.specs.Commands.{rows_by}
use Rattle.rp_command.specs.Values.{HasOther, HasText}

-- what holds of the rows that were found holds of those that clap makes of the words for a command
pub in_words : (P : List Row → Type 0) (app made : App) (words : List Text) (rows : List Row) → made ≡ app → rows ≡ rows_by made words → P rows
    → P (rows_by app words)
in_words P app made words rows is are has = subst (λ a. P (rows_by a words)) is (subst P are has)

-- a word was found for an option, and is none of its words
pub is_other : {A : Type 0} (word : A → Text) (id : Text) (rows : List Row) (text : Text) → HasText rows id text
    → ((one : A) → text ≡ word one → ⊥) → HasOther rows id word
is_other word id rows text has none = (text, has, none)
