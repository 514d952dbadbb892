use Rattle.std.proofs.Common.{◌≡◌, ◌∙◌, [], sym, Some}
use Rattle.rp_tree.specs.Tree.{tree_of}
use Rattle.rp_resolution.specs.declared.fault.CheckKind.TheVariants.{ExclusionWithUnmatched}
use Rattle.rp_resolution.specs.Checked.{first_fault}
use Rattle.rp_resolution.specs.PartFaults.{first_exclusion}
use Rattle.rp_resolution.proofs.pattern.allow_unmatched.Goals as goal

pub returns-in-Some : goal.returns-in-Some
returns-in-Some c =
    let here : first_exclusion (tree_of c.args.pattern.now) ≡ Some c.in-Some.at = sym c.first_exclusion.ensures ∙ c.in-Some.is in
    rw (c.in-AllWithUnmatched.is, c.fault.ensures, here) (first_fault (record { kind = ExclusionWithUnmatched; offset = c.in-Some.at }) [])
