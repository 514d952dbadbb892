use Rattle.std.proofs.Common.{rules, ◌≡◌, ◌∙◌, ◌∷◌, [], Result, Option, ap, sym, subst, refl, List, ℕ, ◌+◌, suc, drop, length, false, None, Ok, Err, arith, add-one, drop-cons}
use Rattle.std.proofs.lemmas.List.{drop_all}
use Rattle.rp_feed.specs.declared.packet.Packet.{Packet}
use Rattle.rp_query.specs.declared.query.QueryData.{QueryData}
use Rattle.rp_protocol.specs.declared.refusal.Refusal.{Refusal}
use Rattle.rp_io.proofs.Cutting.{on_err_from}
use Rattle.rp_io.specs.Pending.{pending_of}
use Rattle.rp_drive.specs.Exchanged.{GoesOn, KnownReplies, StopsBy}
use Rattle.rp_drive.specs.Lines.{replies_within}
use Rattle.rp_drive.specs.Listening.{HearsBy, cut_by, replies_left}
use Rattle.rp_drive.specs.Exchange.{Finished, Packets}
use Rattle.rp_drive.proofs.Going.{goes_both, goes_ends, goes_none, goes_stops}
use Rattle.rp_drive.proofs.Whole.{ends_none, if_err_is, left_start, stops_part}
use Rattle.rp_drive.proofs.ReadParts.{hears_all, hears_both, hears_none}
use Rattle.std.proofs.Common.{◌<◌, get_or}
use Rattle.rp_drive.specs.declared.fault.DriveFault.{DriveFault}
use Rattle.rp_drive.proofs.conversation.Conversation.hand_all.Goals as goal

-- the packet at i comes first of those from i on
cut : (packets : List Packet) (i : ℕ) (p : Packet) → i < length packets → p ≡ get_or packets i p → drop i packets ≡ p ∷ drop (i + 1) packets
cut packets i p below is = drop-cons packets i p below ∙ ap (λ x. x ∷ drop (suc i) packets) (sym is) ∙ ap (λ n. p ∷ drop n packets) (sym (add-one i))

-- so what goes on before that packet does so before it and those behind it
behind : {q : QueryData} {budget number : ℕ} {all mid : KnownReplies} {w w1 o o1 : Option (List ℕ)} (packets : List Packet) (i : ℕ) (p : Packet) → i < length packets → p ≡ get_or packets i p
    → GoesOn q budget number (Packets packets) (Packets (drop i packets)) all mid w w1 o o1 → GoesOn q budget number (Packets packets) (Packets (p ∷ drop (i + 1) packets)) all mid w w1 o o1
behind {q = q} {budget = budget} {number = number} {all = all} {mid = mid} {w = w} {w1 = w1} {o = o} {o1 = o1} packets i p below is goes =
    subst (λ ps. GoesOn q budget number (Packets packets) (Packets ps) all mid w w1 o o1) (cut packets i p below is) goes

-- and what stops at it, whatever is behind it, stops the whole
stopped : {q : QueryData} {budget number : ℕ} {all mid : KnownReplies} {w w1 o o1 : Option (List ℕ)} (packets : List Packet) (i : ℕ) (p : Packet) (refusal : Option Refusal) (why : DriveFault) (w2 o2 : Option (List ℕ))
    → i < length packets → p ≡ get_or packets i p → GoesOn q budget number (Packets packets) (Packets (drop i packets)) all mid w w1 o o1
    → ((rest : List Packet) → StopsBy q budget number refusal why (Packets (p ∷ rest)) mid w1 w2 o1 o2) → StopsBy q budget number refusal why (Packets packets) all w w2 o o2
stopped {q = q} {budget = budget} {number = number} {all = all} {mid = mid} {w = w} {w1 = w1} {o = o} {o1 = o1} packets i p refusal why w2 o2 below is goes stops =
    goes_stops q budget number (Packets packets) (Packets (p ∷ drop (i + 1) packets)) all mid w w1 o o1 (behind packets i p below is goes) refusal why w2 o2 (stops (drop (i + 1) packets))

-- the fault of a call that gives nothing
abbrev as_unit : DriveFault → Result (Unit {0}) DriveFault
as_unit why = Err why

-- what a run gives that ends without one
abbrev all_done : Result (Unit {0}) DriveFault
all_done = Ok tt

pub loop-packet-init : goal.loop-packet-init
loop-packet-init g c =
    let input = (g.R.Intake.seen c.args.reader.now).remaining in
    record {
      goes = goes_none c.args.self.now.query.now c.args.self.now.budget c.args.self.now.node_number (Packets c.args.self.now.packets.now) (replies_within c.args.limit input) (replies_left c.new-replies.result (g.R.Intake.seen c.args.reader.now))
          (g.W.Outlet.contents c.args.writer.now) (g.O.Outlet.contents c.args.out.now)
          (left_start c.args.limit c.new-replies.result.limit c.new-replies.result.over (pending_of c.new-replies.result.lines) input c.new-replies.ensures.limit c.new-replies.ensures.over c.new-replies.ensures.pending);
      at = c.requires.place;
      write = refl;
      told = refl;
      reads = rw (c.new-replies.ensures.over, c.new-replies.ensures.reads) (hears_none false c.args.self.now.reads _);
    }

pub returns-in_err-hand_over-clause-stops : goal.returns-in_err-hand_over-clause-stops
returns-in_err-hand_over-clause-stops g c =
    let why = c.in_err-hand_over.field-0.0 in
    let same : c.from_residual.result ≡ Err why = search rules in
    if_err_is c.from_residual.result why _ same
    (stopped c.args.self.now.packets.now c.loop-packet.packet-index c.packet-item.result c.hand_over.new.refusal why (g.W.Outlet.contents c.hand_over.new.writer) (g.O.Outlet.contents c.hand_over.new.out)
    c.loop-packet-test.true c.packet-item.is c.loop-packet.invariant.goes c.in_err-hand_over.ensures.stops)

pub returns-in_err-hand_over-clause-front : goal.returns-in_err-hand_over-clause-front
returns-in_err-hand_over-clause-front g c =
    let packets = c.args.self.now.packets.now in
    let why = c.in_err-hand_over.field-0.0 in
    let w = g.W.Outlet.contents c.hand_over.new.writer in
    let o = g.O.Outlet.contents c.hand_over.new.out in
    on_err_from _ (stops_part c.args.self.now.query.now c.args.self.now.budget c.args.self.now.node_number (Packets packets) (replies_within c.args.limit (g.R.Intake.seen c.args.reader.now).remaining)
    (g.W.Outlet.contents c.args.writer.now) w (g.O.Outlet.contents c.args.out.now) o c.hand_over.new.refusal why
    (stopped packets c.loop-packet.packet-index c.packet-item.result c.hand_over.new.refusal why w o c.loop-packet-test.true c.packet-item.is c.loop-packet.invariant.goes c.in_err-hand_over.ensures.stops))

pub returns-in_err-hand_over-clause-at : goal.returns-in_err-hand_over-clause-at
returns-in_err-hand_over-clause-at g c =
    let packets = c.args.self.now.packets.now in
    let i = c.loop-packet.packet-index in
    let why = c.in_err-hand_over.field-0.0 in
    let same : c.from_residual.result ≡ Err why = search rules in
    if_err_is c.from_residual.result why _ same (record {
      packet = c.packet-item.result;
      later = drop (i + 1) packets;
      at = ap (λ n. drop n packets) c.loop-packet.invariant.at ∙ cut packets i c.packet-item.result c.loop-packet-test.true c.packet-item.is;
      mid = replies_left c.loop-packet.replies (g.R.Intake.seen c.loop-packet.reader);
      sent = g.W.Outlet.contents c.loop-packet.writer;
      told = g.O.Outlet.contents c.loop-packet.out;
      before = behind packets i c.packet-item.result c.loop-packet-test.true c.packet-item.is c.loop-packet.invariant.goes;
      stops = c.in_err-hand_over.ensures.stops [];
    })

pub loop-packet-preserved : goal.loop-packet-preserved
loop-packet-preserved g c =
    let packets = c.args.self.now.packets.now in
    let i = c.loop-packet.packet-index in
    record {
      goes = goes_both c.args.self.now.query.now c.args.self.now.budget c.args.self.now.node_number (Packets packets) (Packets (c.packet-item.result ∷ drop (i + 1) packets))
          (replies_within c.args.limit (g.R.Intake.seen c.args.reader.now).remaining) (replies_left c.loop-packet.replies (g.R.Intake.seen c.loop-packet.reader))
          (g.W.Outlet.contents c.args.writer.now) (g.W.Outlet.contents c.loop-packet.writer) (g.O.Outlet.contents c.args.out.now) (g.O.Outlet.contents c.loop-packet.out)
          (behind packets i c.packet-item.result c.loop-packet-test.true c.packet-item.is c.loop-packet.invariant.goes)
          (Packets (drop (i + 1) packets)) (replies_left c.hand_over.new.replies (g.R.Intake.seen c.hand_over.new.reader)) (g.W.Outlet.contents c.hand_over.new.writer) (g.O.Outlet.contents c.hand_over.new.out)
          (c.in_ok-hand_over.ensures.goes (drop (i + 1) packets));
      at = ap (λ n. n + 1) c.loop-packet.invariant.at;
      write = c.in_ok-hand_over.ensures.write.0 ∙ c.loop-packet.invariant.write;
      told = c.in_ok-hand_over.ensures.write.1 ∙ c.loop-packet.invariant.told;
      reads = hears_both _ _ _ _ _ _ false None c.loop-packet.replies.over c.hand_over.new.replies.over c.loop-packet.invariant.reads c.in_ok-hand_over.ensures.reads;
    }

pub returns-clause-done : goal.returns-clause-done
returns-clause-done g c =
    let q = c.args.self.now.query.now in
    let packets = c.args.self.now.packets.now in
    let input = (g.R.Intake.seen c.args.reader.now).remaining in
    let mid = replies_left c.loop-packet.replies (g.R.Intake.seen c.loop-packet.reader) in
    let w = g.W.Outlet.contents c.args.writer.now in
    let w1 = g.W.Outlet.contents c.loop-packet.writer in
    let o = g.O.Outlet.contents c.args.out.now in
    let o1 = g.O.Outlet.contents c.loop-packet.out in
    let none : drop c.loop-packet.packet-index packets ≡ [] = drop_all c.loop-packet.packet-index packets (omega arith) in
    let now = subst (λ ps. GoesOn q c.args.self.now.budget c.args.self.now.node_number (Packets packets) (Packets ps) (replies_within c.args.limit input) mid w w1 o o1) none c.loop-packet.invariant.goes in
    goes_ends q c.args.self.now.budget c.args.self.now.node_number (Packets packets) (Packets []) (replies_within c.args.limit input) mid w w1 o o1 now Finished w1 o1 (ends_none q c.args.self.now.budget c.args.self.now.node_number mid w1 o1)

pub returns-in_err-hand_over-clause-reads : goal.returns-in_err-hand_over-clause-reads
returns-in_err-hand_over-clause-reads g c =
    let why = c.in_err-hand_over.field-0.0 in
    let is : c.from_residual.result ≡ Err why = search rules in
    let heard : HearsBy (cut_by c.from_residual.result) false c.hand_over.new.replies.over c.args.self.now.reads c.hand_over.new.replies.lines.reads
    (g.R.Intake.seen c.args.reader.now) (g.R.Intake.seen c.hand_over.new.reader) =
    rw is (hears_both _ _ _ _ _ _ false (cut_by (as_unit why)) c.loop-packet.replies.over c.hand_over.new.replies.over c.loop-packet.invariant.reads c.in_err-hand_over.ensures.reads) in
    hears_all false _ _ _ _ c.from_residual.result c.hand_over.new.replies.over heard

pub returns-clause-reads : goal.returns-clause-reads
returns-clause-reads g c = hears_all false _ _ _ _ all_done c.loop-packet.replies.over c.loop-packet.invariant.reads
