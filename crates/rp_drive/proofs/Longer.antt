-- What more replies add to an exchange.
use Rattle.std.proofs.Common.{◌≡◌, ◌∙◌, ℕ, List, [], ◌∷◌, ◌++◌, Option, Some, None, refl, sym, ap, append_assoc, append-nil}
use Rattle.rp_protocol.specs.declared.reply.Reply.{Reply}
use Rattle.rp_protocol.specs.declared.reply.Reply.TheVariants.{Taken, Item, Idle, Paused, Refused as RefusedReply}
use Rattle.rp_query.specs.declared.query.QueryData.{QueryData}
use Rattle.rp_protocol.specs.declared.request.Request.{Request}
use Rattle.rp_protocol.specs.declared.request.Request.TheVariants as request
use Rattle.rp_drive.specs.Exchange.{Due, Ending, Exchange, Finished, Packets, Poll, WasBad, WasRefused, after_packet, after_poll, ended, exchange, onto}
use Rattle.rp_drive.specs.Keys.{packet_key}

-- By more replies more is asked and given: all that is by the first ones, and then perhaps more.
pub record Longer (short long : Exchange) : Type 0 where
  pub requests : List Request
  pub asked : long.asked ≡ short.asked ++ requests
  pub items : List Reply
  pub given : long.given ≡ short.given ++ items

module _ (q : QueryData) (budget : ℕ) where
  -- the same after a first request and what it gives
  longer_onto : (r : Request) (g : List Reply) (short long : Exchange) → Longer short long → Longer (onto (r ∷ []) g short) (onto (r ∷ []) g long)
  longer_onto r g short long more = record {
    requests = more.requests;
    asked = ap (λ t. r ∷ t) more.asked;
    items = more.items;
    given = ap (λ t. g ++ t) more.given ∙ sym (append_assoc g short.given more.items);
  }

  longer_same : (e : Exchange) → Longer e e
  longer_same e = record { requests = []; asked = sym (append-nil e.asked); items = []; given = sym (append-nil e.given) }

  longer_ended : (r : Request) (ending : Ending) (long : Exchange) → Longer (onto (r ∷ []) [] (ended ending)) (onto (r ∷ []) [] long)
  longer_ended r ending long = record { requests = long.asked; asked = refl; items = long.given; given = refl }

  pub exchange_longer : (due : Due) (came later : List (Option Reply)) → Longer (exchange q budget due came) (exchange q budget due (came ++ later))
  exchange_longer (Packets []) came later = longer_same (ended Finished)
  exchange_longer (Packets (p ∷ ps)) [] [] = longer_same (exchange q budget (Packets (p ∷ ps)) [])
  exchange_longer (Packets (p ∷ ps)) [] (x ∷ xs) = longer_ended (request.Packet p) WasBad (after_packet x (exchange q budget (Poll (packet_key q p) ps) xs))
  exchange_longer (Packets (p ∷ ps)) (Some (Taken taken) ∷ came) later =
      longer_onto (request.Packet p) [] (exchange q budget (Poll (packet_key q p) ps) came) (exchange q budget (Poll (packet_key q p) ps) (came ++ later)) (exchange_longer (Poll (packet_key q p) ps) came later)
  exchange_longer (Packets (p ∷ ps)) (Some (Item key place given) ∷ came) later = longer_same (onto (request.Packet p ∷ []) [] (ended WasBad))
  exchange_longer (Packets (p ∷ ps)) (Some (Idle key) ∷ came) later = longer_same (onto (request.Packet p ∷ []) [] (ended WasBad))
  exchange_longer (Packets (p ∷ ps)) (Some (Paused key) ∷ came) later = longer_same (onto (request.Packet p ∷ []) [] (ended WasBad))
  exchange_longer (Packets (p ∷ ps)) (Some (RefusedReply why) ∷ came) later = longer_same (onto (request.Packet p ∷ []) [] (ended (WasRefused why)))
  exchange_longer (Packets (p ∷ ps)) (None ∷ came) later = longer_same (onto (request.Packet p ∷ []) [] (ended WasBad))
  exchange_longer (Poll of ps) [] [] = longer_same (exchange q budget (Poll of ps) [])
  exchange_longer (Poll of ps) [] (x ∷ xs) = longer_ended (request.Poll of budget) WasBad (after_poll x (exchange q budget (Poll of ps) xs) (exchange q budget (Packets ps) xs))
  exchange_longer (Poll of ps) (Some (Taken taken) ∷ came) later = longer_same (onto (request.Poll of budget ∷ []) [] (ended WasBad))
  exchange_longer (Poll of ps) (Some (Item key place given) ∷ came) later =
      longer_onto (request.Poll of budget) (Item key place given ∷ []) (exchange q budget (Poll of ps) came) (exchange q budget (Poll of ps) (came ++ later)) (exchange_longer (Poll of ps) came later)
  exchange_longer (Poll of ps) (Some (Idle key) ∷ came) later =
      longer_onto (request.Poll of budget) [] (exchange q budget (Packets ps) came) (exchange q budget (Packets ps) (came ++ later)) (exchange_longer (Packets ps) came later)
  exchange_longer (Poll of ps) (Some (Paused key) ∷ came) later =
      longer_onto (request.Poll of budget) [] (exchange q budget (Poll of ps) came) (exchange q budget (Poll of ps) (came ++ later)) (exchange_longer (Poll of ps) came later)
  exchange_longer (Poll of ps) (Some (RefusedReply why) ∷ came) later = longer_same (onto (request.Poll of budget ∷ []) [] (ended (WasRefused why)))
  exchange_longer (Poll of ps) (None ∷ came) later = longer_same (onto (request.Poll of budget ∷ []) [] (ended WasBad))
