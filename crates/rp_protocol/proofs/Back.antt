-- The object of a reply reads as the reply.
use Rattle.std.proofs.Common.{◌≡◌, ◌≤◌, ◌<◌, ℕ, List, [], ◌∷◌, refl, ap, ◌∙◌, arith, length, true}
use Rattle.std.specs.Prelude.{Some, None, Ok, pos, negsuc, ◌^◌, decimal, is_some, IsUtf8}
use Rattle.std.proofs.lemmas.Bool.{lt-ltb, le-ltb, ne_eqb}
use Rattle.std.proofs.lemmas.List.Elements.{All-head, All-tail}
use Rattle.serde_json.specs.Read.{read}
use Rattle.serde_json.specs.Find.{as_object}
use Rattle.serde_json.proofs.OnLiterals.{serde_json_on_literals}
use Rattle.rp_value.specs.declared.value.Value.{Value}
use Rattle.rp_value.specs.declared.value.Value.TheVariants.{Null, Int, Text}
use Rattle.rp_feed.specs.declared.answer.Taken.TheVariants.{New, Repeat, Old}
use Rattle.rp_query.specs.declared.item.Item.TheVariants as item
use Rattle.rp_query.specs.declared.item.SkipFault.TheVariants.{SkipNoRow, SkipSame}
use Rattle.rp_protocol.specs.ReplyLines.{reply_text}
use Rattle.rp_protocol.specs.Refusals.{refusal_text}
use Rattle.rp_protocol.specs.Within.{AreCells, IsCell, IsWithin, IsRefusal}
use Rattle.rp_protocol.specs.declared.refusal.Field.TheVariants as f
use Rattle.rp_protocol.specs.declared.refusal.Refusal.{Refusal}
use Rattle.rp_protocol.specs.declared.refusal.Refusal.TheVariants as r
use Rattle.rp_protocol.specs.declared.reply.Reply.{Reply}
use Rattle.rp_protocol.specs.declared.reply.Reply.TheVariants as reply
use Rattle.rp_json.specs.Digits.{short_digits_of}
use Rattle.rp_json.specs.Forms.{cell_data, cell_of, list_in, list_items}
use Rattle.rp_json.proofs.Parsed.{digits_of-decimal}
use Rattle.rp_json.proofs.Reading.{object_read}
use Rattle.rp_protocol.specs.RefusalTexts.{refusal_of}
use Rattle.rp_protocol.specs.Replies.{NamesColumn, answered_within, reply_data, reply_in}
use Rattle.rp_protocol.proofs.Law.{reply_read}
use Rattle.rp_protocol.proofs.LineTexts.{reply_written}

pub cells_in : (cs : List Value) → AreCells cs → list_in cell_of (list_items cell_data cs) ≡ Some cs
cells_in [] h = refl
cells_in (Null ∷ cs) h = rw (cells_in cs (All-tail IsCell _ cs h)) refl
cells_in (Int (pos n) ∷ cs) h =
    let small : n < 2 ^ 63 = All-head IsCell _ cs h in
    rw (lt-ltb n (2 ^ 63) small, cells_in cs (All-tail IsCell _ cs h)) refl
cells_in (Int (negsuc n) ∷ cs) h = rw (cells_in cs (All-tail IsCell _ cs h)) refl
cells_in (Text s ∷ cs) h = rw (cells_in cs (All-tail IsCell _ cs h)) refl

short_digits-decimal : (n : ℕ) → n < 2 ^ 64 → short_digits_of (decimal n) ≡ Some n
short_digits-decimal n small = rw (digits_of-decimal n (omega (arith, small)), lt-ltb n (2 ^ 64) small) refl

refusal-back : (refusal : Refusal) → IsRefusal refusal → NamesColumn (reply.Refused refusal) → refusal_of (refusal_text refusal) ≡ Some refusal
unfolding serde_json_on_literals
refusal-back r.TooLong h named = refl
refusal-back r.NotJson h named = refl
refusal-back (r.BadField f.Row) h named = refl
refusal-back (r.BadField f.Cells) h named = refl
refusal-back (r.BadField f.Close) h named = refl
refusal-back (r.BadField f.Key) h named = refl
refusal-back (r.BadField f.Poll) h named = refl
refusal-back (r.BadField f.Budget) h named = refl
refusal-back (r.BadField f.Other) h named = refl
refusal-back r.BadRowWidth h named = refl
refusal-back (r.BadRowKind n) h named = rw (short_digits-decimal n h, ne_eqb n 0 (λ e. omega (arith, e, named))) refl
refusal-back r.NumberRange h named = refl
refusal-back r.PastClose h named = refl
refusal-back r.Conflict h named = refl
refusal-back r.TooFar h named = refl
refusal-back r.CloseDiffers h named = refl
refusal-back r.CloseBelow h named = refl
refusal-back r.UnknownPartition h named = refl

reply_back : (given : Reply) → IsWithin given → NamesColumn given → reply_in (reply_data given) ≡ Some given
unfolding serde_json_on_literals
reply_back (reply.Taken New) h named = refl
reply_back (reply.Taken Repeat) h named = refl
reply_back (reply.Taken Old) h named = refl
reply_back (reply.Item key place (item.Row None cells)) h named = rw (cells_in key h.0, digits_of-decimal place h.1, cells_in cells h.2.1) refl
reply_back (reply.Item key place (item.Row (Some n) cells)) h named = rw (cells_in key h.0, digits_of-decimal place h.1, cells_in cells h.2.1) refl
reply_back (reply.Item key place (item.Fault SkipNoRow)) h named = rw (cells_in key h.0, digits_of-decimal place h.1) refl
reply_back (reply.Item key place (item.Fault SkipSame)) h named = rw (cells_in key h.0, digits_of-decimal place h.1) refl
reply_back (reply.Item key place item.End) h named = rw (cells_in key h.0, digits_of-decimal place h.1) refl
reply_back (reply.Idle key) h named = rw (cells_in key h) refl
reply_back (reply.Paused key) h named = rw (cells_in key h) refl
reply_back (reply.Refused refusal) h named = rw (refusal-back refusal h named) refl

reply_is_object : (given : Reply) → is_some (as_object (reply_data given)) ≡ true
reply_is_object (reply.Taken taken) = refl
reply_is_object (reply.Item key place (item.Row n cells)) = refl
reply_is_object (reply.Item key place (item.Fault fault)) = refl
reply_is_object (reply.Item key place item.End) = refl
reply_is_object (reply.Idle key) = refl
reply_is_object (reply.Paused key) = refl
reply_is_object (reply.Refused refusal) = refl

pub answered_text : (limit : ℕ) (line : List ℕ) (given : Reply) → IsUtf8 line → line ≡ reply_text given → IsWithin given → length line ≤ limit → NamesColumn given → answered_within limit line ≡ Ok given
answered_text limit line given utf8 is h short named =
    let whole : read line ≡ Some (reply_data given) = ap (λ t. read t) (is ∙ reply_written given h) ∙ reply_read given h in
    rw (le-ltb limit (length line) short, object_read line (reply_data given) utf8 whole (reply_is_object given), reply_back given h named) refl
