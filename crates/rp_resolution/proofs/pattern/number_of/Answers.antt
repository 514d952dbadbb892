use Rattle.std.proofs.Common.{◌∙◌, ap, length}
use Rattle.std.specs.Prelude.{unwrap_or}
use Rattle.rp_resolution.specs.Context.{is_name}
use Rattle.rp_resolution.proofs.Joining.{place_or_length}
use Rattle.rp_resolution.proofs.pattern.number_of.Goals as goal

pub returns-clause-number : goal.returns-clause-number
returns-clause-number c =
    c.unwrap_or.ensures ∙ (ap (λ p. unwrap_or p (length c.args.names.now)) c.place_of.ensures.place ∙ place_or_length (λ other. is_name c.args.name.now other) c.args.names.now)
