use Rattle.std.proofs.Common.{◌≡◌, ◌+◌, [], length, ◌∙◌, refl, ap, arith}
use Rattle.rp_pattern.specs.Rests.{option_words, option_turns}
use Rattle.rp_pattern.specs.Ways.{stack_of}
use Rattle.rp_pattern.proofs.ChoiceStacks.{row_some, followed_words, followed_left}
use Rattle.rp_pattern.proofs.Outlooks.{words_at, turns_at}
use Rattle.rp_pattern.proofs.Rising.{put_rises}
use Rattle.rp_pattern.proofs.choices.Choices.after_row.Goals as goal

pub ahead-requires : goal.ahead-requires
ahead-requires c = row_some c.args.self.now c.requires

pub at-requires : goal.at-requires
at-requires c = put_rises _ _ 0 [] (stack_of c.in_ok-ways.ways) c.in_ok-ways.ensures refl

pub returns-clause-words : goal.returns-clause-words
returns-clause-words c = λ n e.
    let old = c.args.self.now in
    let put = c.in_ok-ways.ensures in
    let long : c.len.result ≡ length old.labels.items = omega (arith, c.len.ensures, old.labels.ok.0) in
    words_at c.at.result put.rest n e (ap stack_of c.at.ensures.ways ∙ put.is)
    ∙ ap (λ i. length (option_words n e put.rest i)) c.at.ensures.start
    ∙ followed_words old put.rest n e (old.start + c.len.result) (ap (λ k. old.start + k) long) (put.stands n e)

pub returns-clause-turns : goal.returns-clause-turns
returns-clause-turns c = λ n e.
    let old = c.args.self.now in
    let put = c.in_ok-ways.ensures in
    let long : c.len.result ≡ length old.labels.items = omega (arith, c.len.ensures, old.labels.ok.0) in
    turns_at c.at.result put.rest n e (ap stack_of c.at.ensures.ways ∙ put.is)
    ∙ ap (λ i. option_turns n e put.rest i + length (option_words n e put.rest i)) c.at.ensures.start
    ∙ followed_left old put.rest n e (old.start + c.len.result) (ap (λ k. old.start + k) long) (put.stands n e)
