use Rattle.std.proofs.Common.{ℕ, List, Option, Result, Ok, Err, IfOk, sym, subst}
use Rattle.rp_protocol.specs.declared.reply.Reply.{Reply}
use Rattle.rp_protocol.specs.declared.request.Request.{Request}
use Rattle.rp_serve.specs.Rounds.{IsRound, IsSavedAs, Keeping, Session, kept_bytes}
use Rattle.rp_serve.specs.declared.fault.ServeFault.{ServeFault}
use Rattle.rp_serve.proofs.Ends.{stops_keep}
use Rattle.rp_serve.proofs.Watching.{all_of_node, all_still, stopped_still, stops_by, stops_of_node}
use Rattle.rp_serve.proofs.connection.round_on.Goals as goal

pub kept_after-requires : goal.kept_after-requires
kept_after-requires g c = λ current same.
    subst (λ x. IsSavedAs g.N.Keeps.is_saved x (kept_bytes c.args.saved))
    (sym (all_still c.serve_counted.new.node g.N.Answers.step g.N.Answers.cut_short (λ x. x.node) (λ x. x.has_changed)
    (g.R.Intake.seen c.args.reader.now).remaining _ (g.W.Outlet.contents c.args.writer.now) (g.W.Outlet.contents c.serve_counted.new.writer) c.serve_counted.new.count
    (λ old request reply new done same. g.met.N.Keeps.unchanged old request reply new done same) c.in-Ok.ensures.served same)) (c.requires.known current)

pub kept_after-requires-in-Err-Read : goal.kept_after-requires-in-Err-Read
kept_after-requires-in-Err-Read g c = λ current same.
    subst (λ x. IsSavedAs g.N.Keeps.is_saved x (kept_bytes c.args.saved))
    (sym (stopped_still c.serve_counted.new.node g.N.Answers.step g.N.Answers.cut_short (λ x. x.node) (λ x. x.has_changed)
    (g.R.Intake.seen c.args.reader.now).remaining _ (g.W.Outlet.contents c.args.writer.now) (g.W.Outlet.contents c.serve_counted.new.writer) c.serve_counted.new.count
    (λ old request reply new done same. g.met.N.Keeps.unchanged old request reply new done same) c.in-Err-Read.field-0 c.in-Err-Read.field-0-is (λ serves. serves) c.in-Err-Read.ensures.stops same)) (c.requires.known current)

pub kept_after-requires-in-Err-Turns : goal.kept_after-requires-in-Err-Turns
kept_after-requires-in-Err-Turns g c = λ current same.
    subst (λ x. IsSavedAs g.N.Keeps.is_saved x (kept_bytes c.args.saved))
    (sym (stopped_still c.serve_counted.new.node g.N.Answers.step g.N.Answers.cut_short (λ x. x.node) (λ x. x.has_changed)
    (g.R.Intake.seen c.args.reader.now).remaining _ (g.W.Outlet.contents c.args.writer.now) (g.W.Outlet.contents c.serve_counted.new.writer) c.serve_counted.new.count
    (λ old request reply new done same. g.met.N.Keeps.unchanged old request reply new done same) c.in-Err-Turns.field-0 c.in-Err-Turns.field-0-is (λ serves. serves) c.in-Err-Turns.ensures.stops same)) (c.requires.known current)

pub gone_back-requires : goal.gone_back-requires
gone_back-requires g c = λ bytes is.
    stops_keep g.N.Answers.step g.N.Answers.cut_short (λ x. g.N.Keeps.can_go_back x bytes.items)
    (λ old request reply new done has. g.met.N.Keeps.keeps old request reply new bytes.items done has) (λ old request new cut has. g.met.N.Keeps.keeps_cut old request new bytes.items cut has)
    c.in-Err-Write.field-0 (g.R.Intake.seen c.args.reader.now).remaining c.args.node c.serve_counted.new.node.node (g.W.Outlet.contents c.args.writer.now) (g.W.Outlet.contents c.serve_counted.new.writer) c.serve_counted.new.count
    (stops_of_node c.serve_counted.new.node g.N.Answers.step g.N.Answers.cut_short (λ x. x.node) (λ x. x.has_changed)
    (g.R.Intake.seen c.args.reader.now).remaining _ (g.W.Outlet.contents c.args.writer.now) (g.W.Outlet.contents c.serve_counted.new.writer) c.serve_counted.new.count c.in-Err-Write.field-0 c.in-Err-Write.ensures.stops) (c.requires.back bytes is)

pub gone_back-requires-in-Err-OutOfMemory : goal.gone_back-requires-in-Err-OutOfMemory
gone_back-requires-in-Err-OutOfMemory g c = λ bytes is.
    stops_keep g.N.Answers.step g.N.Answers.cut_short (λ x. g.N.Keeps.can_go_back x bytes.items)
    (λ old request reply new done has. g.met.N.Keeps.keeps old request reply new bytes.items done has) (λ old request new cut has. g.met.N.Keeps.keeps_cut old request new bytes.items cut has)
    c.in-Err-OutOfMemory.field-0 (g.R.Intake.seen c.args.reader.now).remaining c.args.node c.serve_counted.new.node.node (g.W.Outlet.contents c.args.writer.now) (g.W.Outlet.contents c.serve_counted.new.writer) c.serve_counted.new.count
    (stops_of_node c.serve_counted.new.node g.N.Answers.step g.N.Answers.cut_short (λ x. x.node) (λ x. x.has_changed)
    (g.R.Intake.seen c.args.reader.now).remaining _ (g.W.Outlet.contents c.args.writer.now) (g.W.Outlet.contents c.serve_counted.new.writer) c.serve_counted.new.count c.in-Err-OutOfMemory.field-0 c.in-Err-OutOfMemory.ensures.stops) (c.requires.back bytes is)

-- three facts of a value that is there make a fourth
of_all : {T E : Type 0} (r : Result T E) (P Q R S : T → Type 0) → ((x : T) → P x → Q x → R x → S x) → IfOk r P → IfOk r Q → IfOk r R → IfOk r S
of_all (Ok x) P Q R S make p q r = make x p q r
of_all (Err e) P Q R S make p q r = tt

-- how a session that left this, and what is kept of it, make a round
round : {X : Type 0} {step : X → Request → Reply → X → Type 0} {cut_short : X → Request → X → Type 0} {is_saved : X → List ℕ → Type 0}
    {goes_back : X → Option (List ℕ) → X → Type 0} {fault : Option ServeFault} {count : ℕ} {input : Option (List ℕ)} {old new : X}
    {w w' saved saved' : Option (List ℕ)} (left : X) → Session step cut_short fault count input old left w w'
    → Keeping is_saved goes_back fault left new saved saved' → IsRound step cut_short is_saved goes_back fault count input old new w w' saved saved'
round left session keeping = record { left = left; session = session; keeping = keeping }

pub returns-in-Ok-clause-round : goal.returns-in-Ok-clause-round
returns-in-Ok-clause-round g c =
    of_all c.kept_after.result _ _ _ _
    (λ end node saved told. rw (told.0, told.1) (round c.serve_counted.new.node.node
    (all_of_node c.serve_counted.new.node g.N.Answers.step g.N.Answers.cut_short (λ x. x.node) (λ x. x.has_changed)
    (g.R.Intake.seen c.args.reader.now).remaining _ (g.W.Outlet.contents c.args.writer.now) (g.W.Outlet.contents c.serve_counted.new.writer) c.serve_counted.new.count c.in-Ok.ensures.served) (node, saved))) c.kept_after.ensures.node c.kept_after.ensures.saved c.kept_after.ensures.ended

pub returns-in-Err-Read-clause-round : goal.returns-in-Err-Read-clause-round
returns-in-Err-Read-clause-round g c =
    of_all c.kept_after-in-Err-Read.result _ _ _ _
    (λ end node saved told. rw (told.0, told.1) (round c.serve_counted.new.node.node
    (stops_by c.serve_counted.new.node g.N.Answers.step g.N.Answers.cut_short (λ x. x.node) (λ x. x.has_changed)
    (g.R.Intake.seen c.args.reader.now).remaining _ (g.W.Outlet.contents c.args.writer.now) (g.W.Outlet.contents c.serve_counted.new.writer) c.serve_counted.new.count c.in-Err-Read.field-0 c.in-Err-Read.field-0-is c.in-Err-Read.ensures.stops) (node, saved))) c.kept_after-in-Err-Read.ensures.node c.kept_after-in-Err-Read.ensures.saved c.kept_after-in-Err-Read.ensures.ended

pub returns-in-Err-Turns-clause-round : goal.returns-in-Err-Turns-clause-round
returns-in-Err-Turns-clause-round g c =
    of_all c.kept_after-in-Err-Turns.result _ _ _ _
    (λ end node saved told. rw (told.0, told.1) (round c.serve_counted.new.node.node
    (stops_by c.serve_counted.new.node g.N.Answers.step g.N.Answers.cut_short (λ x. x.node) (λ x. x.has_changed)
    (g.R.Intake.seen c.args.reader.now).remaining _ (g.W.Outlet.contents c.args.writer.now) (g.W.Outlet.contents c.serve_counted.new.writer) c.serve_counted.new.count c.in-Err-Turns.field-0 c.in-Err-Turns.field-0-is c.in-Err-Turns.ensures.stops) (node, saved))) c.kept_after-in-Err-Turns.ensures.node c.kept_after-in-Err-Turns.ensures.saved c.kept_after-in-Err-Turns.ensures.ended

pub returns-in-Err-Write-clause-round : goal.returns-in-Err-Write-clause-round
returns-in-Err-Write-clause-round g c =
    of_all c.gone_back.result _ _ _ _
    (λ end node saved told. rw (told.0, told.1) (round c.serve_counted.new.node.node
    (stops_by c.serve_counted.new.node g.N.Answers.step g.N.Answers.cut_short (λ x. x.node) (λ x. x.has_changed)
    (g.R.Intake.seen c.args.reader.now).remaining _ (g.W.Outlet.contents c.args.writer.now) (g.W.Outlet.contents c.serve_counted.new.writer) c.serve_counted.new.count c.in-Err-Write.field-0 c.in-Err-Write.field-0-is c.in-Err-Write.ensures.stops) (node, saved))) c.gone_back.ensures.node c.gone_back.ensures.saved c.gone_back.ensures.ended

pub returns-in-Err-OutOfMemory-clause-round : goal.returns-in-Err-OutOfMemory-clause-round
returns-in-Err-OutOfMemory-clause-round g c =
    of_all c.gone_back-in-Err-OutOfMemory.result _ _ _ _
    (λ end node saved told. rw (told.0, told.1) (round c.serve_counted.new.node.node
    (stops_by c.serve_counted.new.node g.N.Answers.step g.N.Answers.cut_short (λ x. x.node) (λ x. x.has_changed)
    (g.R.Intake.seen c.args.reader.now).remaining _ (g.W.Outlet.contents c.args.writer.now) (g.W.Outlet.contents c.serve_counted.new.writer) c.serve_counted.new.count c.in-Err-OutOfMemory.field-0 c.in-Err-OutOfMemory.field-0-is c.in-Err-OutOfMemory.ensures.stops) (node, saved))) c.gone_back-in-Err-OutOfMemory.ensures.node c.gone_back-in-Err-OutOfMemory.ensures.saved c.gone_back-in-Err-OutOfMemory.ensures.ended
