use Rattle.std.proofs.Common.{length, refl, subst, arith}
use Rattle.rp_program.specs.Drafts.{IsOption}
use Rattle.rp_program.proofs.Growth.{option_more}
use Rattle.rp_program.proofs.Closing.{no_loop, loop_leads_same, loop_leads}
use Rattle.rp_program.proofs.draft.Draft.close_loop.Goals as goal

pub returns-in_default : goal.returns-in_default
returns-in_default c = λ start back.
    no_loop c.args.body.now.value c.args.excluded c.args.reluctant c.args.next c.args.place c.args.another start c.args.self.now.places.items back c.truncate.new.self.items c.args.next c.in_default.is c.truncate.ensures.items refl

pub returns-then-is_same : goal.returns-then-is_same
returns-then-is_same c = λ start back.
    loop_leads_same c.args.body.now.value c.args.excluded c.args.reluctant c.args.next c.args.place c.args.another start c.args.self.now.places.items back c.in-Some.another c.in-Some.is c.set_loop.new.self.places.items c.in_ok-set_loop.ensures
    c.same.result (c.if-is_same.ensures refl) c.same.ensures

pub stop_or_none-requires-clause-another : goal.stop_or_none-requires-clause-another
stop_or_none-requires-clause-another c =
    let within = subst (IsOption (length c.args.self.now.places.items)) c.in-Some.is c.requires.another in
    omega (arith, within, c.in_ok-set_loop.ensures.long)

pub stop_or_none-requires-clause-stop : goal.stop_or_none-requires-clause-stop
stop_or_none-requires-clause-stop c =
    option_more c.args.place (length c.set_loop.new.self.places.items) c.args.next.unmoved (omega (arith, c.requires.place, c.in_ok-set_loop.ensures.long)) c.requires.next.unmoved

pub returns : goal.returns
returns c = λ start back.
    loop_leads c.args.body.now.value c.args.excluded c.args.reluctant c.args.next c.args.place c.args.another start c.args.self.now.places.items back c.in-Some.another c.in-Some.is c.set_loop.new.self.places.items c.in_ok-set_loop.ensures
    c.stop_or_none.new.self.places.items c.in_ok-unmoved.unmoved c.in_ok-unmoved.ensures
