use Rattle.std.proofs.Common.{rules, ◌∙◌, ◌+◌, ◌++◌, [], ◌∷◌, drop, ap, sym, cond}
use Rattle.std.specs.List.{list_any}
use Rattle.std.specs.Prelude.{nat_eq}
use Rattle.std.proofs.lemmas.List.{drop_all}
use Rattle.rp_resolution.proofs.Telling.{telling}
use Rattle.rp_resolution.specs.PartFaults.{member_faults}
use Rattle.rp_resolution.specs.Variables.{with_members}
use Rattle.rp_resolution.proofs.Each.{next_of, goes_on_by, goes_wrong_by, ends_by}
use Rattle.rp_resolution.proofs.lists.members.Goals as goal

pub returns-in_err-number : goal.returns-in_err-number
returns-in_err-number c =
    let told = goes_wrong_by (member_faults c.args.variables.now) c.args.names.now c.loop-i.i c.index-names-i.result c.in_err-number.field-0.0 c.loop-i-test.true c.index-names-i.is c.loop-i.invariant.clean c.in_err-number.ensures in
    search (rules, told)

pub returns-in_err-add_number : goal.returns-in_err-add_number
returns-in_err-add_number c = search (rules, telling)

pub loop-i-preserved : goal.loop-i-preserved
loop-i-preserved c =
    let vs = c.args.variables.now in
    let xs = c.args.names.now in
    let i = c.loop-i.i in
    let x = c.index-names-i.result in
    let ns = c.loop-i.numbers.items in
    let new = c.in_ok-add_number.ensures ∙ ap (λ k. cond (list_any (λ j. nat_eq j k) ns) ns (ns ++ k ∷ [])) c.in_ok-number.ensures.1 in
    record {
      clean = goes_on_by (member_faults vs) xs i x c.loop-i-test.true c.index-names-i.is c.loop-i.invariant.clean c.in_ok-number.ensures.0;
      numbers = ap (λ z. with_members vs z (drop (i + 1) xs)) new ∙ (ap (with_members vs ns) (sym (next_of xs i x c.loop-i-test.true c.index-names-i.is)) ∙ c.loop-i.invariant.numbers);
    }

pub returns : goal.returns
returns c =
    let vs = c.args.variables.now in (
      ends_by (member_faults vs) c.args.names.now c.loop-i.i c.loop-i-test.false c.loop-i.invariant.clean,
      ap (with_members vs c.loop-i.numbers.items) (sym (drop_all c.loop-i.i c.args.names.now c.loop-i-test.false)) ∙ c.loop-i.invariant.numbers,
    )
