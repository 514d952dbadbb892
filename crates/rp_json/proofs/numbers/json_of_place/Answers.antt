use Rattle.std.proofs.Common.{ap, ◌∙◌}
use Rattle.std.proofs.lemmas.Result.{IfOk-weaker}
use Rattle.serde_json.specs.Data.{string}
use Rattle.rp_json.specs.Forms.{place_of}
use Rattle.rp_json.proofs.Parsed.{digits_of-decimal}
use Rattle.rp_json.proofs.numbers.json_of_place.Goals as goal

pub returns-clause-back : goal.returns-clause-back
returns-clause-back c = IfOk-weaker c.try_from_str.result _ _ (λ j h. ap place_of (h ∙ ap string c.format.ensures.text) ∙ digits_of-decimal c.args.place c.ranges.place.fits) c.try_from_str.ensures
