use Rattle.std.proofs.Common.{◌∷◌, ℕ, List}
use Rattle.rp_words.specs.declared.word.End.{End}
use Rattle.rp_pattern.specs.declared.machine.link.Part.TheVariants.{Whole, Orders}
use Rattle.rp_pattern.specs.declared.machine.link.Link.TheViews.{out-Link}
use Rattle.rp_words.specs.Turns.{WordsAndTurns}
use Rattle.rp_pattern.specs.Continuations.{links_from, node_part, reached_parts, tail_parts}
use Rattle.rp_pattern.specs.Splits.{TakenUp}
use Rattle.rp_pattern.proofs.OrderRests.{IfOk-map}
use Rattle.rp_pattern.proofs.Steps.{always_splits, splits_as, taken_as}
use Rattle.rp_pattern.proofs.Tails.{reached_as}
use Rattle.rp_pattern.proofs.machine.link.take_part_apart.Goals as goal

pub returns-in-Whole : goal.returns-in-Whole
returns-in-Whole c =
    let a = c.args in
    let l = a.link.now.value in
    let d = c.deref-in-Whole in
    let node = c.in-Whole.node in
    let ps : ℕ → End → List WordsAndTurns = λ n e. node_part n e node ∷ tail_parts n e (out-Link d.result.now).then in
    let qs : ℕ → End → List WordsAndTurns = λ n e. reached_parts n e (links_from l) in
    IfOk-map _ (λ taken. TakenUp a.n a.end a.row qs taken.1 taken.0)
    (λ taken h. taken_as a.n a.end a.row ps qs (λ n e. reached_as n e l c.deref.result.now d.result.now (Whole node) c.deref.ensures d.ensures c.in-Whole.is) taken.1 taken.0 h)
    c.take_apart.result c.take_apart.ensures

pub returns-in_ok-split-in-Orders : goal.returns-in_ok-split-in-Orders
returns-in_ok-split-in-Orders c =
    let a = c.args in
    let l = a.link.now.value in
    let d = c.deref-in-Orders in
    let w = c.in-Orders in
    let taken = c.in_ok-split-in-Orders in
    let qs : ℕ → End → List WordsAndTurns = λ n e. reached_parts n e (links_from l) in
    always_splits a.n a.end a.row qs taken.split (λ n e.
    splits_as n e a.row _ (qs n e) taken.split (reached_as n e l c.deref.result.now d.result.now (Orders w.orders) c.deref.ensures d.ensures w.is) (taken.ensures n e))
