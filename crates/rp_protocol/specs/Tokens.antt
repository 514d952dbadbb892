-- Inside: the tokens of a reply's line, and of an output row's object.
use Rattle.std.specs.Prelude.{ℕ, ◌++◌, List, [], ◌∷◌, map, true, Option, Some, None, codes, decimal, zip}
use Rattle.std.specs.List.{flat_map}
use Rattle.std.specs.Fmt.{signed_decimal}
use Rattle.json.specs.Token.{Token, begin_object, end_object, begin_array, end_array}
use Rattle.json.specs.Token.{key, string, number, boolean, null}
use Rattle.rp_value.specs.declared.value.Value.{Value}
use Rattle.rp_value.specs.declared.value.Value.TheVariants.{Null, Int, Text}
use Rattle.rp_protocol.specs.ObjectTexts.{Field}
use Rattle.rp_protocol.specs.ReplyLines.{name_of_fault, name_of_taken}
use Rattle.rp_protocol.specs.Refusals.{refusal_text}
use Rattle.rp_protocol.specs.declared.reply.Reply.{Reply}
use Rattle.rp_protocol.specs.declared.reply.Reply.TheVariants.{Taken, Item, Idle, Paused, Refused}
use Rattle.rp_query.specs.declared.query.OutputColumn.{OutputColumn}
use Rattle.rp_query.specs.declared.item.Item.{Item as Given}
use Rattle.rp_query.specs.declared.item.Item.TheVariants.{Row, Fault, End}

abbrev pub value_token : Value → Token
value_token Null = null
value_token (Int z) = number (signed_decimal z)
value_token (Text s) = string s

abbrev pub values_tokens : List Value → List Token
values_tokens values = begin_array ∷ (map value_token values ++ end_array ∷ [])

abbrev pub number_token : Option ℕ → Token
number_token None = null
number_token (Some n) = number (decimal n)

abbrev pub key_tokens : List Value → List Token
key_tokens values = key (codes "key") ∷ values_tokens values

-- the place, and the end of the object
abbrev pub place_tokens : ℕ → List Token
place_tokens place = key (codes "place") ∷ string (decimal place) ∷ end_object ∷ []

abbrev pub item_tokens : List Value → ℕ → Given → List Token
item_tokens at place (Row n cells) =
    begin_object ∷ key (codes "cells")
    ∷ (values_tokens cells ++ (key_tokens at ++ key (codes "number") ∷ number_token n ∷ place_tokens place))
item_tokens at place (Fault fault) =
    begin_object ∷ key (codes "fault") ∷ string (name_of_fault fault) ∷ (key_tokens at ++ place_tokens place)
item_tokens at place End = begin_object ∷ key (codes "end") ∷ boolean true ∷ (key_tokens at ++ place_tokens place)

-- an object with one text
abbrev pub word_tokens : List ℕ → List ℕ → List Token
word_tokens name word = begin_object ∷ key name ∷ string word ∷ end_object ∷ []

-- an object with one list of values
abbrev pub list_tokens : List ℕ → List Value → List Token
list_tokens name values = begin_object ∷ key name ∷ (values_tokens values ++ end_object ∷ [])

abbrev pub reply_tokens : Reply → List Token
reply_tokens (Taken taken) = word_tokens (codes "taken") (name_of_taken taken)
reply_tokens (Item at place given) = item_tokens at place given
reply_tokens (Idle values) = list_tokens (codes "idle") values
reply_tokens (Paused values) = list_tokens (codes "paused") values
reply_tokens (Refused refusal) = word_tokens (codes "refused") (refusal_text refusal)

-- the field of an output column
abbrev pub field_tokens : Field → List Token
field_tokens f = key f.0.name ∷ value_token f.1 ∷ []

-- the object of an output row
abbrev pub object_tokens : List OutputColumn → List Value → List Token
object_tokens columns cells = begin_object ∷ (flat_map field_tokens (zip columns cells) ++ end_object ∷ [])
