use Rattle.std.proofs.Common.{ℕ, ◌-◌, inl, ◌∙◌, ◌≤◌, Result, IfOk, OnOk, refl, sym, subst}
use Rattle.rp_walker.specs.declared.poll.Poll.{Poll}
use Rattle.rp_walker.specs.Polls.{PollLowers}
use Rattle.rp_node.specs.declared.fault.NodeFault.{NodeFault}
use Rattle.rp_node.specs.NodeSeen.{node_by, work_at}
use Rattle.rp_node.specs.Bound.{KeyWorks}
use Rattle.rp_node.specs.Polling.{HoldsNoMoreAt, NodePolls}
use Rattle.rp_node.proofs.Nodes.{joined_at, all_bounded, poll_unknown, poll_joined, poll_polls, poll_lowers, poll_turns, poll_held, poll_works, poll_paused, poll_nothing}
use Rattle.rp_node.proofs.node.Node.poll.Goals as goal

pub poll_at-answer-requires-clause-joined : goal.poll_at-answer-requires-clause-joined
poll_at-answer-requires-clause-joined g c = λ p h. joined_at c.self.inside.query c.self.inside.partitions.entries c.in-Some.place p c.self.invariant h

pub invariant_of-self : goal.invariant_of-self
invariant_of-self g c =
    poll_joined c.self.inside.query c.args.key.now c.self.inside.partitions.entries c.poll_at-answer.new.partitions.entries c.in-Some.place c.self.invariant (sym c.in-Some.ensures.index)
    ((c.law_same_rows.ensures c.args.key.now c.args.key.now).1 refl) c.args.budget c.args.steps.now c.poll_at-answer.new.steps c.poll_at-answer.result c.poll_at-answer.ensures.polled

pub returns-in-None-clause-polls : goal.returns-in-None-clause-polls
returns-in-None-clause-polls g c = rw (← c.self.view_is) (poll_unknown c.self.inside.query c.args.key.now c.self.inside.partitions.entries (sym c.in-None.ensures.found))

pub returns-in-None-clause-bounded : goal.returns-in-None-clause-bounded
returns-in-None-clause-bounded g c = rw (← c.self.view_is) (all_bounded c.law_left.ensures.bounded c.self.inside.query c.self.inside.partitions.entries c.self.invariant)

pub returns-in-Some-clause-polls : goal.returns-in-Some-clause-polls
returns-in-Some-clause-polls g c =
    let q = c.self.inside.query in
    let es = c.self.inside.partitions.entries in
    let new = c.poll_at-answer.new.partitions.entries in
    rw (← c.self.view_is) (subst (λ (r : Result Poll NodeFault). NodePolls (node_by q es) (node_by q new) c.args.key.now r) (sym c.told_poll.ensures)
    (poll_polls q c.args.key.now es new c.in-Some.place c.self.invariant (sym c.in-Some.ensures.index)
    ((c.law_same_rows.ensures c.args.key.now c.args.key.now).1 refl) c.args.budget c.args.steps.now c.poll_at-answer.new.steps c.poll_at-answer.result c.poll_at-answer.ensures.polled))

pub returns-in-Some-clause-lowers : goal.returns-in-Some-clause-lowers
returns-in-Some-clause-lowers g c =
    let q = c.self.inside.query in
    let es = c.self.inside.partitions.entries in
    let new = c.poll_at-answer.new.partitions.entries in
    rw (← c.self.view_is) (subst (λ (r : Result Poll NodeFault). IfOk r (PollLowers c.args.budget (work_at (node_by q es) c.args.key.now).left (work_at (node_by q new) c.args.key.now).left)) (sym c.told_poll.ensures)
    (poll_lowers q c.args.key.now es new c.in-Some.place c.self.invariant (sym c.in-Some.ensures.index)
    ((c.law_same_rows.ensures c.args.key.now c.args.key.now).1 refl) c.args.budget c.args.steps.now c.poll_at-answer.new.steps c.poll_at-answer.result c.poll_at-answer.ensures.polled))

pub returns-in-Some-clause-bounded : goal.returns-in-Some-clause-bounded
returns-in-Some-clause-bounded g c =
    let q = c.self.inside.query in
    let new = c.poll_at-answer.new.partitions.entries in
    all_bounded c.law_left.ensures.bounded q new
    (poll_joined q c.args.key.now c.self.inside.partitions.entries new c.in-Some.place c.self.invariant (sym c.in-Some.ensures.index)
    ((c.law_same_rows.ensures c.args.key.now c.args.key.now).1 refl) c.args.budget c.args.steps.now c.poll_at-answer.new.steps c.poll_at-answer.result c.poll_at-answer.ensures.polled)

pub returns-in-Some-clause-turns : goal.returns-in-Some-clause-turns
returns-in-Some-clause-turns g c =
    let q = c.self.inside.query in
    let es = c.self.inside.partitions.entries in
    let new = c.poll_at-answer.new.partitions.entries in
    rw (← c.self.view_is)
    (poll_turns q c.args.key.now es new c.in-Some.place c.self.invariant (sym c.in-Some.ensures.index)
    ((c.law_same_rows.ensures c.args.key.now c.args.key.now).1 refl) c.args.budget c.args.steps.now c.poll_at-answer.new.steps c.poll_at-answer.result c.poll_at-answer.ensures.polled)

pub returns-in-Some-clause-nothing : goal.returns-in-Some-clause-nothing
returns-in-Some-clause-nothing g c =
    let q = c.self.inside.query in
    let es = c.self.inside.partitions.entries in
    let new = c.poll_at-answer.new.partitions.entries in
    rw (← c.self.view_is)
    (poll_nothing q c.args.key.now es new c.in-Some.place c.self.invariant (sym c.in-Some.ensures.index)
    ((c.law_same_rows.ensures c.args.key.now c.args.key.now).1 refl) c.args.budget c.args.steps.now c.poll_at-answer.new.steps c.poll_at-answer.result c.poll_at-answer.ensures.polled)

pub returns-in-Some-clause-held : goal.returns-in-Some-clause-held
returns-in-Some-clause-held g c =
    let q = c.self.inside.query in
    let es = c.self.inside.partitions.entries in
    let new = c.poll_at-answer.new.partitions.entries in
    subst (λ (r : Result Poll NodeFault). OnOk r (1 ≤ c.args.budget → HoldsNoMoreAt (node_by q new) c.args.key.now)) (sym c.told_poll.ensures)
    (poll_held q c.args.key.now es new c.in-Some.place c.self.invariant (sym c.in-Some.ensures.index)
    ((c.law_same_rows.ensures c.args.key.now c.args.key.now).1 refl) c.args.budget c.args.steps.now c.poll_at-answer.new.steps c.poll_at-answer.result c.poll_at-answer.ensures.polled)

pub returns-in-Some-clause-paused : goal.returns-in-Some-clause-paused
returns-in-Some-clause-paused g c = λ z. inl (c.told_poll.ensures
    ∙ poll_paused c.self.inside.query c.args.key.now c.self.inside.partitions.entries c.poll_at-answer.new.partitions.entries c.in-Some.place c.self.invariant (sym c.in-Some.ensures.index)
    ((c.law_same_rows.ensures c.args.key.now c.args.key.now).1 refl) c.args.budget c.args.steps.now c.poll_at-answer.new.steps c.poll_at-answer.result c.poll_at-answer.ensures.polled z)

pub returns-in-Some-clause-works : goal.returns-in-Some-clause-works
returns-in-Some-clause-works g c =
    let q = c.self.inside.query in
    let es = c.self.inside.partitions.entries in
    let new = c.poll_at-answer.new.partitions.entries in
    let taken : ℕ = c.poll_at-answer.new.steps - c.args.steps.now in
    rw (← c.self.view_is) (subst (λ (r : Result Poll NodeFault). IfOk r (KeyWorks taken (node_by q es) (node_by q new) c.args.key.now)) (sym c.told_poll.ensures)
    (poll_works q c.args.key.now es new c.in-Some.place c.self.invariant (sym c.in-Some.ensures.index)
    ((c.law_same_rows.ensures c.args.key.now c.args.key.now).1 refl) c.args.budget c.args.steps.now c.poll_at-answer.new.steps c.poll_at-answer.result c.poll_at-answer.ensures.polled))
