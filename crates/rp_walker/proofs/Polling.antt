-- What a step adds to those before it.
use Rattle.std.proofs.Common.{◌≡◌, ℕ, refl, ◌∙◌, inl, arith}
use Rattle.rp_query.specs.declared.query.QueryData.{QueryData}
use Rattle.rp_query.specs.declared.item.Item.{Item}
use Rattle.rp_known.specs.Known.{Known}
use Rattle.rp_known.specs.WalkLaws.{LegsLeadOn}
use Rattle.rp_walker.specs.declared.poll.Poll.TheVariants.{Item as ItemPoll, Idle as IdlePoll}
use Rattle.rp_walker.specs.declared.record.MatcherState.{MatcherState}
use Rattle.rp_walker.specs.declared.stage.Stage.{Stage}
use Rattle.rp_walker.specs.declared.stage.Step.{Step}
use Rattle.rp_walker.specs.declared.stage.Step.TheVariants.{Gave, Idle}
use Rattle.rp_walker.specs.declared.walker.Walker.{Walker}
use Rattle.rp_walker.specs.Records.{place_of}
use Rattle.rp_walker.specs.Steps.{Moves}
use Rattle.rp_walker.specs.Stages.{StepIs}
use Rattle.rp_walker.specs.Walking.{KeepsGoing}
use Rattle.rp_walker.specs.Polls.{Polled}
use Rattle.rp_walker.proofs.Moving.{moves_more, next_in_walk, next_before}

-- the walk's part of a step after others
pub record Further (q : QueryData) (p : Known) (first now next : MatcherState) (step : Step) : Type 0 where
  pub before : Moves q p first now
  pub moves : Moves q p first next
  pub is : StepIs q p now next step

module _ (leads : LegsLeadOn) (q : QueryData) (p : Known) (first : MatcherState) (now : Walker) (next : Walker) (moved : Moves q p first now.state) where
  pub further : (taken : ℕ) (stage : Stage) (step : Step) → KeepsGoing taken q p now.state stage next step → Further q p first now.state next.state step
  further taken stage step k = let f = k.follows moved.within in record { before = moved; moves = moves_more leads q p moved f.moves; is = f.is }

  pub polled_gave : (x : Item) → now.state.given ≡ first.given → Further q p first now.state next.state (Gave x) → Polled q p first next.state (ItemPoll next.state.given x)
  polled_gave x same f =
      record {
        moves = f.moves;
        is = (refl, omega (arith, f.is.0, same), next_before leads q p first now.state x f.before same (next_in_walk leads q p (place_of now.state) now.state.here x f.is.1));
      }

  pub polled_idle : now.state.given ≡ first.given → Further q p first now.state next.state Idle → Polled q p first next.state IdlePoll
  polled_idle same f = record { moves = f.moves; is = (f.is.0 ∙ same, inl f.is.1) }
