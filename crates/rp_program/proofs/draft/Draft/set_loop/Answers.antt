use Rattle.rp_program.proofs.Closing.{closes_lazy, closes_greedy}
use Rattle.rp_program.proofs.draft.Draft.set_loop.Goals as goal

pub returns-then-reluctant : goal.returns-then-reluctant
returns-then-reluctant c =
    closes_lazy c.args.body.now.value c.in_ok-body.body c.args.excluded c.args.reluctant c.args.next c.args.place c.args.another c.args.self.now.places.items c.in_ok-body.ensures.cases c.requires c.if-reluctant.true

pub returns : goal.returns
returns c =
    closes_greedy c.args.body.now.value c.in_ok-body.body c.args.excluded c.args.reluctant c.args.next c.args.place c.args.another c.args.self.now.places.items c.in_ok-body.ensures.cases c.requires c.if-reluctant.false
