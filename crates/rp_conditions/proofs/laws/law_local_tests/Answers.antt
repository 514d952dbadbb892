use Rattle.rp_conditions.proofs.Localities.{rows_alone, spans_alone, led_alone}
use Rattle.rp_conditions.proofs.laws.law_local_tests.Goals as goal

pub returns : goal.returns
returns c =
    record {
      rows = rows_alone c.law_locality.ensures.rows;
      spans = spans_alone c.law_locality.ensures.spans;
      led = led_alone c.law_locality.ensures.led;
    }
