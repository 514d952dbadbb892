use Rattle.std.specs.Prelude.{IfOk}
use Rattle.std.specs.declared.result.Result.{Result}
use Rattle.std.specs.declared.result.Result.TheVariants.{Ok, Err}
use Rattle.std.specs.declared.alloc.AllocError.{AllocError}
use Rattle.rp_pattern.specs.declared.choices.Taken.{Taken}
use Rattle.rp_pattern.specs.Choices.{TakenAs}
use Rattle.rp_pattern.proofs.BegunChoices.{taken_from}
use Rattle.rp_pattern.proofs.Costs.{all_spends, all_under, top_most}
use Rattle.rp_pattern.proofs.choices.Choices.take_up.Goals as goal

if_ok : (P Q : Taken → Type 0) → ((t : Taken) → P t → Q t) → (r : Result Taken AllocError) → IfOk r P → IfOk r Q
if_ok P Q f (Ok t) h = f t h
if_ok P Q f (Err x) h = tt

pub returns-clause-taken : goal.returns-clause-taken
returns-clause-taken c =
    let old = c.args.self.now in
    let mid = c.begin.new.self in
    let new = c.take_up_top.new.self in
    let b = c.in_ok-begin.ensures in
    if_ok (TakenAs mid new c.args.n c.args.end) (TakenAs old new c.args.n c.args.end)
    (λ t h. taken_from old mid new c.args.n c.args.end b.cut b.remaining b.left b.height b.above t h)
    c.take_up_top.result c.take_up_top.ensures.taken

pub returns-clause-under : goal.returns-clause-under
returns-clause-under c =
    let b = c.in_ok-begin.ensures in
    all_under c.args.self.now c.begin.new.self c.take_up_top.new.self b.height b.under c.take_up_top.result c.take_up_top.ensures.under

pub returns-clause-costs : goal.returns-clause-costs
returns-clause-costs c =
    all_spends c.args.self.now c.begin.new.self c.take_up_top.new.self c.in_ok-begin.ensures.costs c.take_up_top.result c.take_up_top.ensures.costs

pub returns-clause-most : goal.returns-clause-most
returns-clause-most c = top_most c.args.self.now

pub returns-in_err-begin-clause-most : goal.returns-in_err-begin-clause-most
returns-in_err-begin-clause-most c = top_most c.args.self.now
