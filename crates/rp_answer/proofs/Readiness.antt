-- A matcher whose rows go on.
use Rattle.std.proofs.Common.{ℕ, ◌≤◌, sym, ◌∙◌, ◌≡◌, arith}
use Rattle.rp_query.specs.declared.query.QueryData.{QueryData}
use Rattle.rp_query.specs.Sound.{IsSound}
use Rattle.rp_known.specs.Known.{Known}
use Rattle.rp_known.specs.WalkLaws.{Continues, ContinuationsGoOn, GoesOnFrom}
use Rattle.rp_known.specs.Plans.{first_read}
use Rattle.rp_walker.specs.declared.walker.Walker.{Walker}
use Rattle.rp_walker.specs.Walking.{record_of, StandsStays}
use Rattle.rp_answer.specs.declared.kept.Kept.{Kept}
use Rattle.rp_answer.specs.Matching.{known_by, Ready}

-- rows that go on from a row on go on from a later one on
pub goes_from : (first later : ℕ) (p p' : Known) → first ≤ later → GoesOnFrom first p p' → GoesOnFrom later p p'
goes_from first later p p' le g = record { later = g.later; same = λ row from known. g.same row (omega (arith, le, from)) known }

pub ready_on : StandsStays → ContinuationsGoOn → (q : QueryData) (k n : Kept) (w : Walker) → IsSound q → n.first ≡ k.first → Continues (known_by k) (known_by n) → Ready q k w → Ready q n w
ready_on stays on q k n w sound f c h =
    record {
      stands = stays q (known_by k) (known_by n) w sound (λ going. goes_from 1 (first_read q (record_of w).at) (known_by k) (known_by n) (omega arith) (on (known_by k) (known_by n) c)) h.stands;
      first = h.first ∙ sym f;
    }
