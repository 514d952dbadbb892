use Rattle.std.proofs.Common.{◌≡◌, Err, [], rules, subst}
use Rattle.rp_numbering.specs.Gathering.{parts_of}
use Rattle.rp_numbering.specs.Partitions.{partitions}
use Rattle.rp_whole.specs.Answers.{limit_of}
use Rattle.rp_whole.specs.declared.fault.WholeFault.TheVariants.{OutOfMemory}
use Rattle.rp_whole.specs.Writing.{WritesParts, WritesPartsFront}
use Rattle.rp_whole.proofs.Wrote.{front_within, none_within, wrote_within}
use Rattle.rp_whole.proofs.answers.write_answers.Goals as goal

pub returns-clause-answers : goal.returns-clause-answers
returns-clause-answers g c =
    let limit = limit_of c.args.limit in
    let form = g.G.Gathered.form in
    let q = c.args.query.now in
    let rows = c.args.rows.items in
    let parts = parts_of c.in_ok-parts.parts.items in
    let are : parts ≡ partitions q.partition.items rows = c.in_ok-parts.ensures in
    let old = g.W.Outlet.contents c.args.writer.now in
    let new = g.W.Outlet.contents c.write_parts.new.writer in
    let begun = c.in_ok-gathered.gathered in
    let stopped = g.G.Gathered.stopped c.write_parts.new.gathered in
    let halted = c.in_ok-halted.halted.items in
    let below : WritesParts limit form q parts old (form.head q) new (g.G.Gathered.stopped begun) stopped halted =
    subst (λ text. WritesParts limit form q parts old text new (g.G.Gathered.stopped begun) stopped halted) c.in_ok-gathered.ensures.bytes c.in_ok-halted.ensures.written in
    let wrote : WritesParts limit form q parts old (form.head q) new [] stopped halted =
    subst (λ before. WritesParts limit form q parts old (form.head q) new before stopped halted) c.in_ok-gathered.ensures.stopped below in
    rw c.into_stopped-stopped.ensures (wrote_within limit form q rows parts are old new stopped halted wrote)

pub returns-in_err-halted-clause-answers : goal.returns-in_err-halted-clause-answers
returns-in_err-halted-clause-answers g c =
    let limit = limit_of c.args.limit in
    let form = g.G.Gathered.form in
    let q = c.args.query.now in
    let parts = parts_of c.in_ok-parts.parts.items in
    let are : parts ≡ partitions q.partition.items c.args.rows.items = c.in_ok-parts.ensures in
    let old = g.W.Outlet.contents c.args.writer.now in
    let new = g.W.Outlet.contents c.write_parts.new.writer in
    let wrote : WritesPartsFront limit form q parts old (form.head q) new =
    subst (λ text. WritesPartsFront limit form q parts old text new) c.in_ok-gathered.ensures.bytes c.in_err-halted.ensures.front in
    let is : c.from_residual-in_err-halted.result ≡ Err c.in_err-halted.field-0.0 = search rules in
    rw is (front_within limit form q c.args.rows.items parts are old new wrote, c.in_err-halted.ensures.fault)

-- nothing was written

pub returns-in_err-parts-clause-answers : goal.returns-in_err-parts-clause-answers
returns-in_err-parts-clause-answers g c =
    let is : c.from_residual.result ≡ Err OutOfMemory = search rules in
    rw is (none_within c.law_orders.ensures (limit_of c.args.limit) g.G.Gathered.form c.args.query.now c.args.rows.items (g.W.Outlet.contents c.args.writer.now), tt)

pub returns-in_err-gathered-clause-answers : goal.returns-in_err-gathered-clause-answers
returns-in_err-gathered-clause-answers g c =
    let is : c.from_residual-in_err-gathered.result ≡ Err OutOfMemory = search rules in
    rw is (none_within c.law_orders.ensures (limit_of c.args.limit) g.G.Gathered.form c.args.query.now c.args.rows.items (g.W.Outlet.contents c.args.writer.now), tt)
