use Rattle.std.proofs.Common.{sym, ◌∙◌, arith}
use Rattle.rp_pattern.proofs.Heights.{none_above, top_above, some_height, height_begun, no_height}
use Rattle.rp_pattern.proofs.choices.Choices.height.Goals as goal

pub returns-then-self-clause-height : goal.returns-then-self-clause-height
returns-then-self-clause-height c = c.height.ensures ∙ height_begun c.args.self.now c.if-self.true

pub returns-then-self-clause-some : goal.returns-then-self-clause-some
returns-then-self-clause-some c = λ top.
    omega (arith, some_height c.args.self.now top, c.height.ensures, height_begun c.args.self.now c.if-self.true)

pub returns-then-self-clause-none : goal.returns-then-self-clause-none
returns-then-self-clause-none c = λ h n e le.
    none_above c.args.self.now h n e (omega (arith, le, c.height.ensures, height_begun c.args.self.now c.if-self.true))

pub returns-then-self-clause-top : goal.returns-then-self-clause-top
returns-then-self-clause-top c = λ h n e at.
    top_above c.args.self.now h n e (at ∙ c.height.ensures ∙ height_begun c.args.self.now c.if-self.true)

pub returns-else-self-clause-height : goal.returns-else-self-clause-height
returns-else-self-clause-height c = sym (no_height c.args.self.now c.if-self.false)

pub returns-else-self-clause-some : goal.returns-else-self-clause-some
returns-else-self-clause-some c = λ top.
    omega (arith, some_height c.args.self.now top, no_height c.args.self.now c.if-self.false)

pub returns-else-self-clause-none : goal.returns-else-self-clause-none
returns-else-self-clause-none c = λ h n e le. none_above c.args.self.now h n e (omega (arith, le, no_height c.args.self.now c.if-self.false))
