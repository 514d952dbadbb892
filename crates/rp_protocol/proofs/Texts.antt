-- The text of a line's tokens.
use Rattle.std.proofs.Common.{◌≡◌, ◌<◌, ◌+◌, ◌∙◌, ℕ, zero, suc, ◌%◌, ap₂, List, [], ◌∷◌, ◌++◌, map, refl, ap, sym, append_assoc, arith, true, false, Option, Some, None}
use Rattle.std.specs.Prelude.{codes, decimal, ◌^◌}
use Rattle.std.proofs.Common.{mod-lt, zero-lt-suc}
use Rattle.std.proofs.lemmas.List.Concat.{flat_map-append}
use Rattle.std.proofs.lemmas.Fmt.{decimal_by_steps_wide}
use Rattle.json.specs.Token.{Token, end_object, begin_object, begin_array, end_array, key, string, boolean}
use Rattle.json.specs.Print.{print, print_from, escape, escape_byte, quoted}
use Rattle.json.proofs.OnLiterals.{json_on_literals}
use Rattle.rp_value.specs.declared.value.Value.{Value}
use Rattle.rp_value.specs.declared.value.Value.TheVariants.{Null, Int, Text}
use Rattle.rp_protocol.specs.ReplyLines.{reply_text, item_text, key_text, place_text, more_values, values_text, value_text, number_text, name_of_fault}
use Rattle.rp_protocol.specs.Tokens.{reply_tokens, list_tokens, item_tokens, key_tokens, number_token, place_tokens, value_token, values_tokens}
use Rattle.rp_query.specs.declared.item.Item.{Item as Given}
use Rattle.rp_query.specs.declared.item.Item.TheVariants.{Row, Fault, End}
use Rattle.rp_query.specs.declared.item.SkipFault.{SkipFault}
use Rattle.rp_query.specs.declared.item.SkipFault.TheVariants.{SkipNoRow, SkipSame}
use Rattle.rp_feed.specs.declared.answer.Taken.{Taken as Became}
use Rattle.rp_feed.specs.declared.answer.Taken.TheVariants.{New, Repeat, Old}
use Rattle.rp_protocol.specs.Within.{IsRefusal, IsWithin}
use Rattle.rp_protocol.specs.declared.refusal.Field.{Field}
use Rattle.rp_protocol.specs.declared.refusal.Field.TheVariants as f
use Rattle.rp_protocol.specs.declared.refusal.Refusal.{Refusal}
use Rattle.rp_protocol.specs.declared.refusal.Refusal.TheVariants as r
use Rattle.rp_protocol.specs.declared.reply.Reply.{Reply}
use Rattle.rp_protocol.specs.declared.reply.Reply.TheVariants as reply

-- a digit stands for itself in a string
digit_plain : (k : ℕ) → k < 10 → escape_byte (48 + k) ≡ (48 + k) ∷ []
unfolding escape_byte
digit_plain zero h = refl
digit_plain (suc zero) h = refl
digit_plain (suc (suc zero)) h = refl
digit_plain (suc (suc (suc zero))) h = refl
digit_plain (suc (suc (suc (suc zero)))) h = refl
digit_plain (suc (suc (suc (suc (suc zero))))) h = refl
digit_plain (suc (suc (suc (suc (suc (suc zero)))))) h = refl
digit_plain (suc (suc (suc (suc (suc (suc (suc zero))))))) h = refl
digit_plain (suc (suc (suc (suc (suc (suc (suc (suc zero)))))))) h = refl
digit_plain (suc (suc (suc (suc (suc (suc (suc (suc (suc zero))))))))) h = refl
digit_plain (suc (suc (suc (suc (suc (suc (suc (suc (suc (suc k)))))))))) h = absurd (omega arith)

more_digits : (n : ℕ) (ds : List ℕ) → escape ds ≡ ds → escape (ds ++ ((48 + n % 10) ∷ [])) ≡ ds ++ ((48 + n % 10) ∷ [])
more_digits n ds is = flat_map-append escape_byte ds ((48 + n % 10) ∷ []) ∙ ap₂ ◌++◌ is (rw (digit_plain (n % 10) (mod-lt n (zero-lt-suc 9))) refl)

-- a number in a string needs no escape
pub digits_plain : (n : ℕ) → n < 10 ^ 64 → escape (decimal n) ≡ decimal n
digits_plain n small =
    decimal_by_steps_wide (λ n ds. escape ds ≡ ds) (λ n h. rw (digit_plain n h) refl) (λ n ds h is. more_digits n ds is) n small

-- the values, and then other tokens
values_print : (vs : List Value) (rest : List Token) → print_from true (map value_token vs ++ end_array ∷ rest) ≡ more_values vs ++ print_from true rest
unfolding print_from
values_print [] rest = refl
values_print (Null ∷ vs) rest = simp (values_print vs rest, append_assoc)
values_print (Int z ∷ vs) rest = simp (values_print vs rest, append_assoc)
values_print (Text s ∷ vs) rest = simp (values_print vs rest, append_assoc)

pub value_first : (v : Value) (ts : List Token) → print_from false (value_token v ∷ ts) ≡ value_text v ++ print_from true ts
unfolding print_from
value_first Null ts = refl
value_first (Int z) ts = refl
value_first (Text s) ts = refl

begun : (ts : List Token) → print_from false (begin_array ∷ ts) ≡ codes "[" ++ print_from false ts
unfolding print_from
begun ts = refl

pub all_values_print : (vs : List Value) (rest : List Token) → print_from false (values_tokens vs ++ rest) ≡ values_text vs ++ print_from true rest
unfolding print_from
all_values_print [] rest = refl
all_values_print (v ∷ vs) rest =
    ap (λ ts. print_from false (begin_array ∷ value_token v ∷ ts)) (append_assoc (map value_token vs) (end_array ∷ []) rest)
    ∙ ap (λ t. codes "[" ++ t) (value_first v (map value_token vs ++ end_array ∷ rest) ∙ ap (λ t. value_text v ++ t) (values_print vs rest) ∙ sym (append_assoc (value_text v) (more_values vs) (print_from true rest)))

pub place_print : (place : ℕ) → place < 10 ^ 64 → print_from true (place_tokens place) ≡ place_text place
unfolding json_on_literals
place_print place small =
    ap (λ t. codes ",\"place\":\"" ++ ((t ++ 34 ∷ []) ++ codes "}")) (digits_plain place small)
    ∙ ap (λ t. codes ",\"place\":\"" ++ t) (append_assoc (decimal place) (34 ∷ []) (codes "}"))

number_print : (n : Option ℕ) (rest : List Token) → print_from true (key (codes "number") ∷ number_token n ∷ rest) ≡ codes ",\"number\":" ++ (number_text n ++ print_from true rest)
unfolding json_on_literals
number_print None rest = refl
number_print (Some n) rest = refl

key_print : (vs : List Value) (rest : List Token) → print_from true (key_tokens vs ++ rest) ≡ key_text vs (print_from true rest)
unfolding json_on_literals
key_print vs rest = ap (λ t. codes ",\"key\":" ++ t) (all_values_print vs rest)

end_print : (rest : List Token) → print_from false (begin_object ∷ key (codes "end") ∷ boolean true ∷ rest) ≡ codes "{\"end\":true" ++ print_from true rest
unfolding json_on_literals
end_print rest = refl

fault_print : (fault : SkipFault) (rest : List Token) → print_from false (begin_object ∷ key (codes "fault") ∷ string (name_of_fault fault) ∷ rest) ≡ codes "{\"fault\":\"" ++ (name_of_fault fault ++ (codes "\"" ++ print_from true rest))
unfolding json_on_literals
fault_print SkipNoRow rest = refl
fault_print SkipSame rest = refl

pub cells_print : (vs : List Value) (rest : List Token) → print_from false (begin_object ∷ key (codes "cells") ∷ (values_tokens vs ++ rest)) ≡ codes "{\"cells\":" ++ (values_text vs ++ print_from true rest)
unfolding json_on_literals
cells_print vs rest = ap (λ t. codes "{\"cells\":" ++ t) (all_values_print vs rest)

tail_print : (at : List Value) (place : ℕ) → place < 10 ^ 64 → print_from true (key_tokens at ++ place_tokens place) ≡ key_text at (place_text place)
tail_print at place small = key_print at (place_tokens place) ∙ ap (key_text at) (place_print place small)

row_tail_print : (at : List Value) (count : Option ℕ) (place : ℕ) → place < 10 ^ 64
    → print_from true (key_tokens at ++ key (codes "number") ∷ number_token count ∷ place_tokens place) ≡ key_text at (codes ",\"number\":" ++ (number_text count ++ place_text place))
row_tail_print at count place small =
    key_print at (key (codes "number") ∷ number_token count ∷ place_tokens place)
    ∙ ap (key_text at) (number_print count (place_tokens place) ∙ ap (λ t. codes ",\"number\":" ++ (number_text count ++ t)) (place_print place small))

-- the text of the tokens of an item's line is its line
pub item_print : (at : List Value) (place : ℕ) (given : Given) → place < 10 ^ 64 → print (item_tokens at place given) ≡ item_text at place given
item_print at place (Row count cells) small =
    cells_print cells (key_tokens at ++ key (codes "number") ∷ number_token count ∷ place_tokens place)
    ∙ ap (λ t. codes "{\"cells\":" ++ (values_text cells ++ t)) (row_tail_print at count place small)
item_print at place (Fault fault) small =
    fault_print fault (key_tokens at ++ place_tokens place)
    ∙ ap (λ t. codes "{\"fault\":\"" ++ (name_of_fault fault ++ (codes "\"" ++ t))) (tail_print at place small)
item_print at place End small = end_print (key_tokens at ++ place_tokens place) ∙ ap (λ t. codes "{\"end\":true" ++ t) (tail_print at place small)

alone_print : (name : List ℕ) (vs : List Value) → print (list_tokens name vs) ≡ codes "{" ++ ((quoted name ++ codes ":") ++ (values_text vs ++ codes "}"))
unfolding json_on_literals
alone_print name vs = ap (λ t. codes "{" ++ ((quoted name ++ codes ":") ++ t)) (all_values_print vs (end_object ∷ []))

taken_print : (taken : Became) → print (reply_tokens (reply.Taken taken)) ≡ reply_text (reply.Taken taken)
unfolding json_on_literals
taken_print New = refl
taken_print Repeat = refl
taken_print Old = refl

idle_print : (vs : List Value) → print (reply_tokens (reply.Idle vs)) ≡ reply_text (reply.Idle vs)
unfolding json_on_literals
idle_print vs = alone_print (codes "idle") vs

paused_print : (vs : List Value) → print (reply_tokens (reply.Paused vs)) ≡ reply_text (reply.Paused vs)
unfolding json_on_literals
paused_print vs = alone_print (codes "paused") vs

field_print : (field : Field) → print (reply_tokens (reply.Refused (r.BadField field))) ≡ reply_text (reply.Refused (r.BadField field))
unfolding json_on_literals
field_print f.Row = refl
field_print f.Cells = refl
field_print f.Close = refl
field_print f.Key = refl
field_print f.Poll = refl
field_print f.Budget = refl
field_print f.Other = refl

refused_print : (refusal : Refusal) → IsRefusal refusal → print (reply_tokens (reply.Refused refusal)) ≡ reply_text (reply.Refused refusal)
unfolding json_on_literals
refused_print r.TooLong h = refl
refused_print r.NotJson h = refl
refused_print (r.BadField field) h = field_print field
refused_print r.BadRowWidth h = refl
refused_print (r.BadRowKind n) h =
    ap (λ t. codes "{\"refused\":\"BadRow kind " ++ ((t ++ 34 ∷ []) ++ codes "}")) (digits_plain n (omega (arith, h)))
    ∙ ap (λ t. codes "{\"refused\":\"BadRow kind " ++ t) (append_assoc (decimal n) (34 ∷ []) (codes "}"))
refused_print r.NumberRange h = refl
refused_print r.PastClose h = refl
refused_print r.Conflict h = refl
refused_print r.TooFar h = refl
refused_print r.CloseDiffers h = refl
refused_print r.CloseBelow h = refl
refused_print r.UnknownPartition h = refl

-- the text of the tokens of a reply's line is its line
pub reply_print : (given : Reply) → IsWithin given → print (reply_tokens given) ≡ reply_text given
reply_print (reply.Taken taken) h = taken_print taken
reply_print (reply.Item at place given) h = let small = h.1 in item_print at place given (omega (arith, small))
reply_print (reply.Idle vs) h = idle_print vs
reply_print (reply.Paused vs) h = paused_print vs
reply_print (reply.Refused refusal) h = refused_print refusal h
