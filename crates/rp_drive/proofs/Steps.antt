-- What one request and its reply make of a conversation.
use Rattle.std.proofs.Common.{◌≡◌, ◌∙◌, ℕ, List, [], ◌∷◌, ◌++◌, Option, Some, None, IfSome, refl, sym, ap, subst, append-nil, inl, inr}
use Rattle.std.specs.Io.KnownBytes.{Appends}
use Rattle.rp_value.specs.declared.value.Value.{Value}
use Rattle.rp_query.specs.declared.query.QueryData.{QueryData}
use Rattle.rp_feed.specs.declared.packet.Packet.{Packet}
use Rattle.rp_protocol.specs.declared.refusal.Refusal.{Refusal}
use Rattle.rp_protocol.specs.declared.reply.Reply.{Reply}
use Rattle.rp_protocol.specs.declared.reply.Reply.TheVariants.{Taken, Item, Idle, Paused, Refused}
use Rattle.rp_feed.specs.declared.answer.Taken.{Taken as Became}
use Rattle.rp_query.specs.declared.item.Item.{Item as Given}
use Rattle.rp_io.specs.Devices.{AppendsFront}
use Rattle.rp_protocol.specs.declared.request.Request.{Request}
use Rattle.rp_protocol.specs.declared.request.Request.TheVariants as request
use Rattle.rp_drive.specs.Faults.{IsOfReading, IsOfWriting, packet_fault}
use Rattle.rp_drive.specs.Exchanged.{ComeFirst, Ends, EndsInPart, EndsUnheard, GoesOn, KnownReplies, SendsLine, StopsBy}
use Rattle.rp_drive.specs.Lines.{item_line, item_lines, line_of, request_lines}
use Rattle.rp_drive.specs.Listening.{Comes}
use Rattle.rp_drive.specs.Exchange.{Due, Ending, Exchange, Packets, Poll, WasBad, WasRefused, after_packet, after_poll, ended, onto, exchange}
use Rattle.rp_drive.specs.Keys.{packet_key}
use Rattle.rp_drive.specs.declared.fault.DriveFault.{DriveFault}
use Rattle.rp_drive.specs.declared.fault.DriveFault.TheVariants as fault
use Rattle.rp_drive.proofs.Going.{all_left, are_left}
use Rattle.rp_io.proofs.Writes.{appends_none, front_all, front_longer, front_none}

come_one : (all left : KnownReplies) (reply : Reply) → Comes all left (Some reply) → ComeFirst all left (Some reply ∷ [])
come_one None left reply comes = tt
come_one (Some xs) None reply comes = absurd comes
come_one (Some xs) (Some ys) reply (inl is) = is
come_one (Some xs) (Some ys) reply (inr none) = let e : Some reply ≡ None = none.2 in cc

-- all replies where this one came first, or none where it is none
abbrev pub replies_with : KnownReplies → KnownReplies → Option Reply → List (Option Reply)
replies_with None left reply = reply ∷ []
replies_with (Some xs) left reply = xs

module _ (q : QueryData) (budget number : ℕ) (all left : KnownReplies) (w w' : Option (List ℕ)) where
  module _ (due : Due) (r : Request) where
    -- a fault before the reply came
    pub part_front : (o : Option (List ℕ)) → ((replies : List (Option Reply)) → (more : List Request) × ((exchange q budget due replies).asked ≡ r ∷ more)) → AppendsFront w w' (line_of r)
        → EndsInPart q budget number due all w w' o o
    part_front o asks front =
        let begin = asks (all_left all) in
        record {
          replies = all_left all;
          are = are_left all;
          asked = subst (λ t. AppendsFront w w' (request_lines t)) (sym begin.1) (front_longer w w' (line_of r) (request_lines begin.0) front);
          given = front_none o (item_lines number (exchange q budget due (all_left all)).given);
        }

    -- none came
    unheard : (o : Option (List ℕ)) → exchange q budget due [] ≡ onto (r ∷ []) [] (ended WasBad) → Appends w w' (line_of r) → EndsUnheard q budget number due all w w' o o
    unheard o is sent = record {
      came = [];
      are = all_later all;
      asked = subst (Appends w w') (sym (ap (λ t. request_lines t.asked) is ∙ append-nil (line_of r))) sent;
      given = subst (λ t. Appends o o (item_lines number t.given)) (sym is) (appends_none o);
    }
      where
        all_later : (all : KnownReplies) → IfSome all (λ xs. (later : List (Option Reply)) × (xs ≡ [] ++ later))
        all_later None = tt
        all_later (Some xs) = (xs, refl)

    -- a fault came in its place
    pub ask_stops : (o : Option (List ℕ)) (refusal : Option Refusal) (why : DriveFault) → exchange q budget due [] ≡ onto (r ∷ []) [] (ended WasBad)
        → ((replies : List (Option Reply)) → (more : List Request) × ((exchange q budget due replies).asked ≡ r ∷ more)) → SendsLine why w w' (line_of r)
        → StopsBy q budget number refusal why due all w w' o o
    ask_stops o refusal fault.Read is asks sends = unheard o is sends
    ask_stops o refusal fault.Turns is asks sends = unheard o is sends
    ask_stops o refusal fault.Write is asks sends = part_front o asks sends
    ask_stops o refusal fault.OutOfMemory is asks sends = part_front o asks sends
    ask_stops o refusal fault.BadReply is asks sends = absurd sends
    ask_stops o refusal fault.Refused is asks sends = absurd sends

    ends_by : (o : Option (List ℕ)) (ending : Ending) (replies : List (Option Reply)) → IfSome all (λ xs. xs ≡ replies) → exchange q budget due replies ≡ onto (r ∷ []) [] (ended ending)
        → Appends w w' (line_of r) → Ends q budget number ending due all w w' o o
    ends_by o ending replies are is sent = record {
      replies = replies;
      are = are;
      ends = ap (λ t. t.ending) is;
      asked = subst (Appends w w') (sym (ap (λ t. request_lines t.asked) is ∙ append-nil (line_of r))) sent;
      given = subst (λ t. Appends o o (item_lines number t.given)) (sym is) (appends_none o);
    }

  -- a reply that ends the conversation, or none
  pub ends_with : (due : Due) (r : Request) (o : Option (List ℕ)) (ending : Ending) (reply : Option Reply)
      → ((later : List (Option Reply)) → exchange q budget due (reply ∷ later) ≡ onto (r ∷ []) [] (ended ending)) → (reply ≡ None → exchange q budget due [] ≡ onto (r ∷ []) [] (ended ending))
      → Comes all left reply → Appends w w' (line_of r) → Ends q budget number ending due all w w' o o
  ends_with due r o ending reply one none comes sent = ends_by due r o ending (replies_with all left reply) (are all left comes) (is all left comes) sent
    where
      are : (all left : KnownReplies) → Comes all left reply → IfSome all (λ xs. xs ≡ replies_with all left reply)
      are None left comes = tt
      are (Some xs) left comes = refl

      is : (all left : KnownReplies) → Comes all left reply → exchange q budget due (replies_with all left reply) ≡ onto (r ∷ []) [] (ended ending)
      is None left comes = one []
      is (Some xs) None comes = absurd comes
      is (Some xs) (Some ys) (inl come) = ap (exchange q budget due) come ∙ one ys
      is (Some xs) (Some ys) (inr (come, over, lacks)) = ap (exchange q budget due) come ∙ none lacks

  -- ---- a packet
  module _ (p : Packet) (rest : List Packet) where
    packet_asks : (replies : List (Option Reply)) → (more : List Request) × ((exchange q budget (Packets (p ∷ rest)) replies).asked ≡ request.Packet p ∷ more)
    packet_asks [] = ([], refl)
    packet_asks (x ∷ xs) = ((after_packet x (exchange q budget (Poll (packet_key q p) rest) xs)).asked, refl)

    pub send_unheard : (o : Option (List ℕ)) (refusal : Option Refusal) (why : DriveFault) → SendsLine why w w' (line_of (request.Packet p)) → StopsBy q budget number refusal why (Packets (p ∷ rest)) all w w' o o
    send_unheard o refusal why sends = ask_stops (Packets (p ∷ rest)) (request.Packet p) o refusal why refl packet_asks sends

    pub send_goes : (o : Option (List ℕ)) (reply : Option Reply) → packet_fault reply ≡ None → Comes all left reply → Appends w w' (line_of (request.Packet p))
        → GoesOn q budget number (Packets (p ∷ rest)) (Poll (packet_key q p) rest) all left w w' o o
    send_goes o (Some (Taken taken)) none comes sent = record {
      came = Some (Taken taken) ∷ [];
      come = come_one all left (Taken taken) comes;
      asked = request.Packet p ∷ [];
      given = [];
      follow = λ later. refl;
      sent = subst (Appends w w') (sym (append-nil (line_of (request.Packet p)))) sent;
      told = appends_none o;
    }
    send_goes o (Some (Item key place given)) none comes sent = cc
    send_goes o (Some (Idle key)) none comes sent = cc
    send_goes o (Some (Paused key)) none comes sent = cc
    send_goes o (Some (Refused why)) none comes sent = cc
    send_goes o None none comes sent = cc

    send_bad : (o : Option (List ℕ)) (reply : Option Reply) → ((next : Exchange) → after_packet reply next ≡ ended WasBad) → Comes all left reply → Appends w w' (line_of (request.Packet p))
        → Ends q budget number WasBad (Packets (p ∷ rest)) all w w' o o
    send_bad o reply bad comes sent =
        ends_with (Packets (p ∷ rest)) (request.Packet p) o WasBad reply (λ later. ap (onto (request.Packet p ∷ []) []) (bad (exchange q budget (Poll (packet_key q p) rest) later))) (λ none. refl) comes sent

    pub send_stops : (o : Option (List ℕ)) (reply : Option Reply) (refusal : Option Refusal) (why : DriveFault) → packet_fault reply ≡ Some why
        → ((because : Refusal) → reply ≡ Some (Refused because) → refusal ≡ Some because) → Comes all left reply → Appends w w' (line_of (request.Packet p))
        → StopsBy q budget number refusal why (Packets (p ∷ rest)) all w w' o o
    send_stops o (Some (Taken taken)) refusal why is told comes sent = cc
    send_stops o (Some (Item key place given)) refusal why is told comes sent =
        let e : fault.BadReply ≡ why = cc in subst (λ f. StopsBy q budget number refusal f (Packets (p ∷ rest)) all w w' o o) e (send_bad o (Some (Item key place given)) (λ next. refl) comes sent)
    send_stops o (Some (Idle key)) refusal why is told comes sent =
        let e : fault.BadReply ≡ why = cc in subst (λ f. StopsBy q budget number refusal f (Packets (p ∷ rest)) all w w' o o) e (send_bad o (Some (Idle key)) (λ next. refl) comes sent)
    send_stops o (Some (Paused key)) refusal why is told comes sent =
        let e : fault.BadReply ≡ why = cc in subst (λ f. StopsBy q budget number refusal f (Packets (p ∷ rest)) all w w' o o) e (send_bad o (Some (Paused key)) (λ next. refl) comes sent)
    send_stops o (Some (Refused because)) refusal why is told comes sent =
        let e : fault.Refused ≡ why = cc in
        subst (λ f. StopsBy q budget number refusal f (Packets (p ∷ rest)) all w w' o o) e (
          because,
          told because refl,
          ends_with (Packets (p ∷ rest)) (request.Packet p) o (WasRefused because) (Some (Refused because)) (λ later. refl) (λ none. cc) comes sent,
        )
    send_stops o None refusal why is told comes sent =
        let e : fault.BadReply ≡ why = cc in subst (λ f. StopsBy q budget number refusal f (Packets (p ∷ rest)) all w w' o o) e (send_bad o None (λ next. refl) comes sent)

  -- ---- a poll
  module _ (key : List Value) (rest : List Packet) where
    poll_asks : (replies : List (Option Reply)) → (more : List Request) × ((exchange q budget (Poll key rest) replies).asked ≡ request.Poll key budget ∷ more)
    poll_asks [] = ([], refl)
    poll_asks (x ∷ xs) = ((after_poll x (exchange q budget (Poll key rest) xs) (exchange q budget (Packets rest) xs)).asked, refl)

    pub poll_unheard : (o : Option (List ℕ)) (refusal : Option Refusal) (why : DriveFault) → SendsLine why w w' (line_of (request.Poll key budget)) → StopsBy q budget number refusal why (Poll key rest) all w w' o o
    poll_unheard o refusal why sends = ask_stops (Poll key rest) (request.Poll key budget) o refusal why refl poll_asks sends

    poll_next : (o o' : Option (List ℕ)) (reply : Reply) (given : List Reply) (due : Due)
        → ((later : List (Option Reply)) → exchange q budget (Poll key rest) (Some reply ∷ later) ≡ onto (request.Poll key budget ∷ []) given (exchange q budget due later))
        → Comes all left (Some reply) → Appends w w' (line_of (request.Poll key budget)) → Appends o o' (item_lines number given) → GoesOn q budget number (Poll key rest) due all left w w' o o'
    poll_next o o' reply given due follow comes sent told = record {
      came = Some reply ∷ [];
      come = come_one all left reply comes;
      asked = request.Poll key budget ∷ [];
      given = given;
      follow = follow;
      sent = subst (Appends w w') (sym (append-nil (line_of (request.Poll key budget)))) sent;
      told = told;
    }

    pub poll_item : (o o' : Option (List ℕ)) (of : List Value) (place : ℕ) (given : Given) → Comes all left (Some (Item of place given)) → Appends w w' (line_of (request.Poll key budget))
        → Appends o o' (item_line number (Item of place given)) → GoesOn q budget number (Poll key rest) (Poll key rest) all left w w' o o'
    poll_item o o' of place given comes sent told =
        poll_next o o' (Item of place given) (Item of place given ∷ []) (Poll key rest) (λ later. refl) comes sent (subst (Appends o o') (sym (append-nil (item_line number (Item of place given)))) told)

    pub poll_paused : (o : Option (List ℕ)) (of : List Value) → Comes all left (Some (Paused of)) → Appends w w' (line_of (request.Poll key budget))
        → GoesOn q budget number (Poll key rest) (Poll key rest) all left w w' o o
    poll_paused o of comes sent = poll_next o o (Paused of) [] (Poll key rest) (λ later. refl) comes sent (appends_none o)

    pub poll_idle : (o : Option (List ℕ)) (of : List Value) → Comes all left (Some (Idle of)) → Appends w w' (line_of (request.Poll key budget))
        → GoesOn q budget number (Poll key rest) (Packets rest) all left w w' o o
    poll_idle o of comes sent = poll_next o o (Idle of) [] (Packets rest) (λ later. refl) comes sent (appends_none o)

    pub poll_refused : (o : Option (List ℕ)) (why : Refusal) → Comes all left (Some (Refused why)) → Appends w w' (line_of (request.Poll key budget))
        → Ends q budget number (WasRefused why) (Poll key rest) all w w' o o
    poll_refused o why comes sent = ends_with (Poll key rest) (request.Poll key budget) o (WasRefused why) (Some (Refused why)) (λ later. refl) (λ none. cc) comes sent

    pub poll_taken : (o : Option (List ℕ)) (taken : Became) → Comes all left (Some (Taken taken)) → Appends w w' (line_of (request.Poll key budget))
        → Ends q budget number WasBad (Poll key rest) all w w' o o
    poll_taken o taken comes sent = ends_with (Poll key rest) (request.Poll key budget) o WasBad (Some (Taken taken)) (λ later. refl) (λ none. cc) comes sent

    pub poll_none : (o : Option (List ℕ)) → Comes all left None → Appends w w' (line_of (request.Poll key budget)) → Ends q budget number WasBad (Poll key rest) all w w' o o
    poll_none o comes sent = ends_with (Poll key rest) (request.Poll key budget) o WasBad None (λ later. refl) (λ none. refl) comes sent

    -- an item came, and a front of its line was told
    pub item_part : (o o' : Option (List ℕ)) (of : List Value) (place : ℕ) (given : Given) → Comes all left (Some (Item of place given)) → Appends w w' (line_of (request.Poll key budget))
        → AppendsFront o o' (item_line number (Item of place given)) → EndsInPart q budget number (Poll key rest) all w w' o o'
    item_part o o' of place given comes sent front =
        let reply : Option Reply = Some (Item of place given) in
        let later = all_left left in
        let again = exchange q budget (Poll key rest) later in
        record {
          replies = reply ∷ later;
          are = known all left comes;
          asked = front_longer w w' (line_of (request.Poll key budget)) (request_lines again.asked) (front_all w w' (line_of (request.Poll key budget)) sent);
          given = front_longer o o' (item_line number (Item of place given)) (item_lines number again.given) front;
        }
      where
        known : (all left : KnownReplies) → Comes all left (Some (Item of place given)) → IfSome all (λ xs. xs ≡ Some (Item of place given) ∷ all_left left)
        known None left comes = tt
        known (Some xs) None comes = absurd comes
        known (Some xs) (Some ys) (inl is) = is
        known (Some xs) (Some ys) (inr none) = let e : Some (Item of place given) ≡ None = none.2 in cc

-- ---- faults of writing

module _ (q : QueryData) (budget number : ℕ) where
  pub writing_stops : (due : Due) (left : KnownReplies) (w w' o o' : Option (List ℕ)) (refusal : Option Refusal) (why : DriveFault) → IsOfWriting why → EndsInPart q budget number due left w w' o o'
      → StopsBy q budget number refusal why due left w w' o o'
  writing_stops due left w w' o o' refusal fault.Read writing part = absurd writing
  writing_stops due left w w' o o' refusal fault.Write writing part = part
  writing_stops due left w w' o o' refusal fault.BadReply writing part = absurd writing
  writing_stops due left w w' o o' refusal fault.Refused writing part = absurd writing
  writing_stops due left w w' o o' refusal fault.Turns writing part = absurd writing
  writing_stops due left w w' o o' refusal fault.OutOfMemory writing part = part

-- what a fault of reading says of a line that was sent
pub reading_sends : (w w' : Option (List ℕ)) (line : List ℕ) (why : DriveFault) → IsOfReading why → Appends w w' line → SendsLine why w w' line
reading_sends w w' line fault.Read reading sent = sent
reading_sends w w' line fault.Turns reading sent = sent
reading_sends w w' line fault.OutOfMemory reading sent = front_all w w' line sent
reading_sends w w' line fault.Write reading sent = absurd reading
reading_sends w w' line fault.BadReply reading sent = absurd reading
reading_sends w w' line fault.Refused reading sent = absurd reading
