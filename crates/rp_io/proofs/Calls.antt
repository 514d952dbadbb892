-- Calls that are made one after another.
use Rattle.std.proofs.Common.{◌≡◌, ℕ, zero, suc, ◌+◌, ◌∙◌, refl, ap, arith}
use Rattle.rp_io.specs.Counts.{raised}
use Rattle.rp_io.specs.Devices.{MakesCalls, UsesCalls, after_calls}

after_both : (a b all count : ℕ) → all ≡ a + b → after_calls b (after_calls a count) ≡ after_calls all count
after_both zero b all count is = let e : b ≡ all = omega arith in ap (λ n. after_calls n count) e
after_both (suc a) b all count is =
    let e : suc (a + b) ≡ all = omega arith in
    after_both a b (a + b) (raised count) refl ∙ ap (λ n. after_calls n count) e

pub UsesCalls-none : (before after old new : ℕ) → after ≡ before → new ≡ old → UsesCalls before after old new
UsesCalls-none before after old new same is = (0, omega arith, is)

pub UsesCalls-one : (before after old new : ℕ) → after + 1 ≡ before → new ≡ raised old → UsesCalls before after old new
UsesCalls-one before after old new one is = (1, omega arith, is)

pub UsesCalls-trans : (a b c old now new : ℕ) → UsesCalls a b old now → UsesCalls b c now new → UsesCalls a c old new
UsesCalls-trans a b c old now new first second =
    (first.0 + second.0, omega arith, second.2 ∙ ap (after_calls second.0) first.2 ∙ after_both first.0 second.0 (first.0 + second.0) old refl)

-- as many calls at most as were allowed, and as many where none is allowed any more
pub UsesCalls-at_most : (before after old new : ℕ) → UsesCalls before after old new → MakesCalls 0 before old new
UsesCalls-at_most before after old new uses = (uses.0, omega arith, omega arith, uses.2)

pub UsesCalls-used : (before after old new : ℕ) → after ≡ 0 → UsesCalls before after old new → new ≡ after_calls before old
UsesCalls-used before after old new none uses =
    let e : uses.0 ≡ before = let all = uses.1 in omega arith in
    uses.2 ∙ ap (λ n. after_calls n old) e
