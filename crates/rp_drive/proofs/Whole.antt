-- From the first packet to the end.
use Rattle.std.proofs.Common.{◌≡◌, ℕ, Bool, false, List, [], ◌++◌, Option, Some, None, option_map, refl, sym, subst, if◌then◌else◌, Result, Err, IfErr, IfSome}
use Rattle.std.specs.Io.KnownBytes.{prepend_known}
use Rattle.rp_query.specs.declared.query.QueryData.{QueryData}
use Rattle.rp_protocol.specs.declared.refusal.Refusal.{Refusal}
use Rattle.rp_protocol.specs.declared.reply.Reply.{Reply}
use Rattle.rp_io.specs.Devices.{AppendsFront}
use Rattle.rp_drive.specs.Exchanged.{Ends, EndsInPart, EndsUnheard, KnownReplies, StopsBy}
use Rattle.rp_drive.specs.Lines.{item_line, item_lines, line_of, replies_within, request_lines}
use Rattle.rp_drive.specs.Exchange.{Due, Ending, Finished, Packets, WasBad, WasRefused, exchange}
use Rattle.rp_drive.specs.declared.fault.DriveFault.{DriveFault}
use Rattle.rp_drive.specs.declared.fault.DriveFault.TheVariants.{Read, Write, BadReply, Refused, Turns, OutOfMemory}
use Rattle.rp_drive.proofs.Going.{all_left, are_left}
use Rattle.rp_drive.proofs.Longer.{exchange_longer}
use Rattle.rp_io.proofs.Writes.{appends_none, front_all, front_longer}
use Rattle.std.proofs.lemmas.Grind.{flat_map-append}

-- before anything was read all replies of the input are left
pub left_start : (limit now : ℕ) (over : Bool) (pending : List ℕ) (input : Option (List ℕ)) → now ≡ limit → over ≡ false → pending ≡ []
    → replies_within limit input ≡ (if over then option_map (λ bytes. []) input else replies_within now (prepend_known pending input))
left_start limit now over pending None is off none = rw off refl
left_start limit now over pending (Some xs) is off none = rw (is, off, none) refl

-- the fault that an error is
pub if_err_is : {X : Type 0} (r : Result X DriveFault) (why : DriveFault) (P : DriveFault → Type 0) → r ≡ Err why → P why → IfErr r P
if_err_is r why P is h = subst (λ t. IfErr t P) (sym is) h

module _ (q : QueryData) (budget number : ℕ) where
  -- no packet is left
  pub ends_none : (left : KnownReplies) (w o : Option (List ℕ)) → Ends q budget number Finished (Packets []) left w w o o
  ends_none left w o = record { replies = all_left left; are = are_left left; ends = refl; asked = appends_none w; given = appends_none o }

  module _ (due : Due) (all : KnownReplies) (w w' o o' : Option (List ℕ)) where
    ends_part : (ending : Ending) → Ends q budget number ending due all w w' o o' → EndsInPart q budget number due all w w' o o'
    ends_part ending ends = record {
      replies = ends.replies;
      are = ends.are;
      asked = front_all w w' (request_lines (exchange q budget due ends.replies).asked) ends.asked;
      given = front_all o o' (item_lines number (exchange q budget due ends.replies).given) ends.given;
    }

    unheard_part : EndsUnheard q budget number due all w w' o o' → EndsInPart q budget number due all w w' o o'
    unheard_part unheard = known all refl unheard.are
      where
        part : (later : List (Option Reply)) → IfSome all (λ xs. xs ≡ unheard.came ++ later) → EndsInPart q budget number due all w w' o o'
        part later are =
            let longer = exchange_longer q budget due unheard.came later in
            record {
              replies = unheard.came ++ later;
              are = are;
              asked = subst (λ t. AppendsFront w w' (request_lines t)) (sym longer.asked)
                  (subst (AppendsFront w w') (sym (flat_map-append line_of (exchange q budget due unheard.came).asked longer.requests))
                  (front_longer w w' (request_lines (exchange q budget due unheard.came).asked) (request_lines longer.requests) (front_all w w' (request_lines (exchange q budget due unheard.came).asked) unheard.asked)));
              given = subst (λ t. AppendsFront o o' (item_lines number t)) (sym longer.given)
                  (subst (AppendsFront o o') (sym (flat_map-append (item_line number) (exchange q budget due unheard.came).given longer.items))
                  (front_longer o o' (item_lines number (exchange q budget due unheard.came).given) (item_lines number longer.items) (front_all o o' (item_lines number (exchange q budget due unheard.came).given) unheard.given)));
            }

        known : (xs : KnownReplies) → xs ≡ all → IfSome xs (λ ys. (later : List (Option Reply)) × (ys ≡ unheard.came ++ later)) → EndsInPart q budget number due all w w' o o'
        known None same are = part [] (subst (λ t. IfSome t (λ ys. ys ≡ unheard.came ++ [])) same tt)
        known (Some ys) same are = part are.0 (subst (λ t. IfSome t (λ zs. zs ≡ unheard.came ++ are.0)) same are.1)

    pub stops_part : (refusal : Option Refusal) (why : DriveFault) → StopsBy q budget number refusal why due all w w' o o' → EndsInPart q budget number due all w w' o o'
    stops_part refusal Read stops = unheard_part stops
    stops_part refusal Write stops = stops
    stops_part refusal BadReply stops = ends_part WasBad stops
    stops_part refusal Refused (why, is, stops) = ends_part (WasRefused why) stops
    stops_part refusal Turns stops = unheard_part stops
    stops_part refusal OutOfMemory stops = stops
