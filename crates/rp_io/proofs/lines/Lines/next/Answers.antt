use Rattle.std.proofs.Common.{rules, ◌++◌, ◌∙◌, ap, take}
use Rattle.rp_io.specs.Pending.{pending_of, coming}
use Rattle.rp_io.proofs.Cutting.{lf_in, cut-whole, cut-part, fill-more, end-part, when_true, when_false}
use Rattle.rp_io.proofs.Calls.{UsesCalls-trans}
use Rattle.rp_io.proofs.Giving.{AsManyBytesAsReads-trans}
use Rattle.rp_io.proofs.lines.Lines.next.Goals as goal

pub returns-then-branch-clause-line : goal.returns-then-branch-clause-line
returns-then-branch-clause-line g c = λ is.
    let whole = when_true _ _ c.in_ok-cut.field-0 c.if-branch.true c.in_ok-cut.ensures.cut in
    cut-whole c.args.self.now.kept (coming c.args.self.now (g.R.Intake.seen c.args.reader.now)) (pending_of c.loop-self.self) (pending_of c.cut.new.self)
    whole.0 c.loop-self.line.items c.cut.new.line.items (g.R.Intake.seen c.loop-self.reader).remaining c.loop-self.invariant.read whole.1 whole.2 (whole.3 ∙ ap (λ k. take k (c.loop-self.line.items ++ whole.0)) c.loop-self.invariant.kept)

pub returns-then-not-branch-clause-last : goal.returns-then-not-branch-clause-last
returns-then-not-branch-clause-last g c = λ is.
    let kept = c.args.self.now.kept in
    let old = coming c.args.self.now (g.R.Intake.seen c.args.reader.now) in
    let part = when_false _ _ c.in_ok-cut.field-0 c.if-branch.false c.in_ok-cut.ensures.cut in
    let first = cut-part kept old (pending_of c.loop-self.self) (pending_of c.cut.new.self) c.loop-self.line.items c.cut.new.line.items (g.R.Intake.seen c.loop-self.reader).remaining
    c.loop-self.invariant.read part.0 part.1 (part.2 ∙ ap (λ k. take k (c.loop-self.line.items ++ pending_of c.loop-self.self)) c.loop-self.invariant.kept) in
    let more = fill-more kept old (pending_of c.cut.new.self) (pending_of c.fill.new.self) c.cut.new.line.items (g.R.Intake.seen c.loop-self.reader).remaining (g.R.Intake.seen c.fill.new.reader).remaining
    first part.1 c.in_ok-fill.ensures.ok in
    end-part kept old (pending_of c.fill.new.self) c.cut.new.line.items (g.R.Intake.seen c.fill.new.reader).remaining more
    (c.in_ok-fill.ensures.none (search rules)) (c.in_ok-fill.ensures.end (search rules))

pub loop-self-preserved : goal.loop-self-preserved
loop-self-preserved g c =
    let kept = c.args.self.now.kept in
    let old = coming c.args.self.now (g.R.Intake.seen c.args.reader.now) in
    let part = when_false _ _ c.in_ok-cut.field-0 c.if-branch.false c.in_ok-cut.ensures.cut in
    let first = cut-part kept old (pending_of c.loop-self.self) (pending_of c.cut.new.self) c.loop-self.line.items c.cut.new.line.items (g.R.Intake.seen c.loop-self.reader).remaining
    c.loop-self.invariant.read part.0 part.1 (part.2 ∙ ap (λ k. take k (c.loop-self.line.items ++ pending_of c.loop-self.self)) c.loop-self.invariant.kept) in
    record {
      read = fill-more kept old (pending_of c.cut.new.self) (pending_of c.fill.new.self) c.cut.new.line.items (g.R.Intake.seen c.loop-self.reader).remaining (g.R.Intake.seen c.fill.new.reader).remaining
          first part.1 c.in_ok-fill.ensures.ok;
      fits = search rules;
      kept = search rules;
      goes = search rules;
      calls = UsesCalls-trans _ _ _ _ _ _ c.loop-self.invariant.calls (rw c.in_ok-cut.ensures.reads at c.in_ok-fill.ensures.calls);
      ended = search rules;
      gives = AsManyBytesAsReads-trans _ _ _ _ _ _ c.loop-self.invariant.gives (rw c.in_ok-cut.ensures.reads at c.in_ok-fill.ensures.gives (search rules));
      left = search rules;
      unread = λ has. absurd (lf_in has.0 has.1 (pending_of c.loop-self.self) (ap pending_of (c.loop-self.invariant.unread has).0 ∙ has.2) part.0);
    }

pub returns-in_err-fill-clause-calls : goal.returns-in_err-fill-clause-calls
returns-in_err-fill-clause-calls g c = UsesCalls-trans _ _ _ _ _ _ c.loop-self.invariant.calls (rw c.in_ok-cut.ensures.reads at c.in_err-fill.ensures.calls)

pub returns-then-not-branch-clause-calls : goal.returns-then-not-branch-clause-calls
returns-then-not-branch-clause-calls g c = UsesCalls-trans _ _ _ _ _ _ c.loop-self.invariant.calls (rw c.in_ok-cut.ensures.reads at c.in_ok-fill.ensures.calls)

pub returns-then-not-branch-clause-unread : goal.returns-then-not-branch-clause-unread
returns-then-not-branch-clause-unread g c = λ has.
    let part = when_false _ _ c.in_ok-cut.field-0 c.if-branch.false c.in_ok-cut.ensures.cut in
    absurd (lf_in has.0 has.1 (pending_of c.loop-self.self) (ap pending_of (c.loop-self.invariant.unread has).0 ∙ has.2) part.0)

pub returns-in_err-fill-clause-unread : goal.returns-in_err-fill-clause-unread
returns-in_err-fill-clause-unread g c = λ has.
    let part = when_false _ _ c.in_ok-cut.field-0 c.if-branch.false c.in_ok-cut.ensures.cut in
    absurd (lf_in has.0 has.1 (pending_of c.loop-self.self) (ap pending_of (c.loop-self.invariant.unread has).0 ∙ has.2) part.0)
