use Rattle.std.proofs.Common.{◌≡◌, ◌+◌, ◌≤◌}
use Rattle.rp_search.specs.Turned.{IsRunning}
use Rattle.rp_search.specs.Work.{LastsAll, NoneIsOpen}
use Rattle.rp_search.proofs.RunSoFar.{RunsFor, RunSpends}
use Rattle.rp_search.proofs.search.Search.go_on.Given as goal

abbrev pub invariant-loop-turn : goal.invariant-loop-turn
invariant-loop-turn g l =
    RunsFor l.turn l.fn.self l.self (g.T.Tests.asked (g.T.Tests.subject l.fn.tests))
    × (g.T.Tests.subject l.tests ≡ g.T.Tests.subject l.fn.tests)
    × IsRunning l.self (g.T.Tests.asked (g.T.Tests.subject l.fn.tests)) (g.T.Tests.entered l.tests)
    × (g.T.Tests.entries l.tests ≤ g.T.Tests.entries l.fn.tests + l.turn)
    × (g.T.Tests.entries l.fn.tests ≤ g.T.Tests.entries l.tests)
    × (l.steps ≡ l.fn.steps + l.turn)
    × (g.T.Tests.always (g.T.Tests.subject l.fn.tests) → NoneIsOpen (g.T.Tests.asked (g.T.Tests.subject l.fn.tests)) →
    RunSpends l.fn.asleep l.turn l.fn.self l.self (g.T.Tests.asked (g.T.Tests.subject l.fn.tests)))
    × (g.T.Tests.always (g.T.Tests.subject l.fn.tests) → LastsAll l.fn.self.memo → LastsAll l.self.memo)
