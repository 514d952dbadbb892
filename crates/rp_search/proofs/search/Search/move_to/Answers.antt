use Rattle.std.proofs.Common.{arith, refl, subst, sym}
use Rattle.rp_pattern.specs.Choices.{start_of}
use Rattle.rp_search.specs.Fits.{MemoStands}
use Rattle.rp_search.specs.Memo.{IsOf}
use Rattle.rp_search.proofs.Marks.{moved_remembers}
use Rattle.rp_search.proofs.TurnEnds.{moved}
use Rattle.rp_search.proofs.Moving.{moves_work}
use Rattle.rp_search.proofs.search.Search.move_to.Goals as goal

pub returns-clause-moved : goal.returns-clause-moved
unfolding MemoStands
returns-clause-moved c =
    let new = c.restart.ensures in
    let old = c.args.self.now in
    moved _ refl (omega (arith, new.start, c.requires)) new.labels new.remaining new.left old c.move_on.ensures.of.marks
    (λ asked r. moved_remembers old.memo c.move_on.new.self old.choices c.restart.new.self asked
    (subst (λ z. IsOf (start_of old.choices) z old.memo c.move_on.new.self) (sym new.start) (subst (λ z. IsOf z c.args.start old.memo c.move_on.new.self) c.start.ensures c.move_on.ensures.of))
    new.pattern.words new.pattern.places r)

pub returns-clause-works : goal.returns-clause-works
returns-clause-works c =
    let old = c.args.self.now in
    let new = c.restart.ensures in
    moves_work old _ new.keeps new.costs c.move_on.ensures.of.marks
    (λ le. c.move_on.ensures.same (omega (arith, le, new.start, c.start.ensures))) c.move_on.ensures.keeps c.move_on.ensures.lasts refl
