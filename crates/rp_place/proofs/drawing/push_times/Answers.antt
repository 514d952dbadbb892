use Rattle.std.proofs.Common.{◌≡◌, ℕ}
use Rattle.std.proofs.lemmas.Iterator.Adapters.{YieldsList-from_repeat_n}
use Rattle.rp_place.proofs.Extending.{extended}
use Rattle.rp_place.proofs.drawing.push_times.Goals as goal

pub returns : goal.returns
returns c =
    extended c.args.out.now c.extend.new.self c.extend.result c.extend.ensures.ran
    (YieldsList-from_repeat_n (λ (x y : ℕ). y ≡ x) c.args.times c.args.character c.repeat_n.ensures.count c.repeat_n.ensures.item (λ y same. same))
