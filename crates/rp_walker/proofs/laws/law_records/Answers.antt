use Rattle.rp_walker.proofs.Continuing.{fits_later, first_fits, fits_in_rows}
use Rattle.rp_walker.proofs.EarlierFits.{fits_still}
use Rattle.rp_walker.proofs.laws.law_records.Goals as goal

pub returns-clause-stay : goal.returns-clause-stay
returns-clause-stay c = λ q r p p' sound k f.
    fits_later c.law_known.ensures.leg c.law_known.ensures.walk c.law_legs.ensures.lead q sound p p' k (c.law_legs.ensures.continuing p p' k) r f

pub returns-clause-first : goal.returns-clause-first
returns-clause-first c = λ q p. first_fits q p

pub returns-clause-in_rows : goal.returns-clause-in_rows
returns-clause-in_rows c = λ q r p going h. fits_in_rows c.law_legs.ensures.in_rows q r p going h

pub returns-clause-earlier : goal.returns-clause-earlier
returns-clause-earlier c = λ q r p fitted. fits_still c.law_earlier.ensures.walk c.law_earlier.ensures.leg c.law_legs.ensures.lead q r p fitted
