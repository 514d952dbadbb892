-- The lines of replies.
use Rattle.std.specs.Prelude.{ℕ, ◌++◌, List, [], ◌∷◌, Option, Some, None, codes, decimal}
use Rattle.std.specs.Fmt.{signed_decimal}
use Rattle.json.specs.Print.{quoted}
use Rattle.rp_value.specs.declared.value.Value.{Value}
use Rattle.rp_value.specs.declared.value.Value.TheVariants.{Null, Int, Text}
use Rattle.rp_query.specs.declared.item.Item.{Item as Given}
use Rattle.rp_query.specs.declared.item.Item.TheVariants.{Row, Fault, End}
use Rattle.rp_protocol.specs.declared.reply.Reply.{Reply}
use Rattle.rp_protocol.specs.declared.reply.Reply.TheVariants.{Taken, Item, Idle, Paused, Refused}
use Rattle.rp_protocol.specs.Refusals.{refusal_text}
use Rattle.rp_feed.specs.declared.answer.Taken.{Taken as Became}
use Rattle.rp_feed.specs.declared.answer.Taken.TheVariants.{New, Repeat, Old}
use Rattle.rp_query.specs.declared.item.SkipFault.{SkipFault}
use Rattle.rp_query.specs.declared.item.SkipFault.TheVariants.{SkipNoRow, SkipSame}

-- the text of a value
abbrev pub value_text : Value → List ℕ
value_text Null = codes "null"
value_text (Int z) = signed_decimal z
value_text (Text s) = quoted s

-- further values, each after a comma, and the closing bracket
abbrev pub more_values : List Value → List ℕ
more_values [] = codes "]"
more_values (v ∷ vs) = codes "," ++ (value_text v ++ more_values vs)

-- a list of values
abbrev pub values_text : List Value → List ℕ
values_text [] = codes "[]"
values_text (v ∷ vs) = codes "[" ++ (value_text v ++ more_values vs)

-- the number of a match
abbrev pub number_text : Option ℕ → List ℕ
number_text None = codes "null"
number_text (Some n) = decimal n

abbrev pub name_of_fault : SkipFault → List ℕ
name_of_fault SkipNoRow = codes "SkipNoRow"
name_of_fault SkipSame = codes "SkipSame"

-- a place, and the end of the object
abbrev pub place_text : ℕ → List ℕ
place_text place = codes ",\"place\":\"" ++ (decimal place ++ codes "\"}")

-- the key of a partition, and what follows it
abbrev pub key_text : List Value → List ℕ → List ℕ
key_text key rest = codes ",\"key\":" ++ (values_text key ++ rest)

-- the line of an item of a partition's answer, without its line feed
abbrev pub item_text : List Value → ℕ → Given → List ℕ
item_text key place (Row count cells) =
    codes "{\"cells\":"
    ++ (values_text cells ++ key_text key (codes ",\"number\":" ++ (number_text count ++ place_text place)))
item_text key place (Fault fault) =
    codes "{\"fault\":\"" ++ (name_of_fault fault ++ (codes "\"" ++ key_text key (place_text place)))
item_text key place End = codes "{\"end\":true" ++ key_text key (place_text place)

abbrev pub name_of_taken : Became → List ℕ
name_of_taken New = codes "new"
name_of_taken Repeat = codes "repeat"
name_of_taken Old = codes "old"

-- the line of a reply, without its line feed
abbrev pub reply_text : Reply → List ℕ
reply_text (Taken taken) = codes "{\"taken\":\"" ++ (name_of_taken taken ++ codes "\"}")
reply_text (Item key place given) = item_text key place given
reply_text (Idle key) = codes "{\"idle\":" ++ (values_text key ++ codes "}")
reply_text (Paused key) = codes "{\"paused\":" ++ (values_text key ++ codes "}")
reply_text (Refused refusal) = codes "{\"refused\":\"" ++ (refusal_text refusal ++ codes "\"}")
