use Rattle.std.proofs.Common.{rules, ◌≡◌, ◌∙◌, [], ◌∷◌, ◌++◌, map, take, ap, sym, append_assoc, append-nil}
use Rattle.std.proofs.lemmas.List.{map_push, take_all}
use Rattle.rp_tree.specs.Clauses.{union_tree}
use Rattle.rp_resolution.specs.Context.{naming_of}
use Rattle.rp_resolution.specs.PartFaults.{union_faults}
use Rattle.rp_resolution.specs.Variables.{union_of}
use Rattle.rp_resolution.proofs.Telling.{telling}
use Rattle.rp_resolution.proofs.Each.{begins, one_taken, goes_on, goes_wrong, ends}
use Rattle.rp_resolution.proofs.lists.add_unions.Goals as goal

pub loop-i-init : goal.loop-i-init
loop-i-init c = record {
  clean = begins union_tree (union_faults c.args.variables.now) c.args.unions.now;
  sets = sym (append-nil (map naming_of c.args.sets.now.items));
}

pub returns-in_err-set : goal.returns-in_err-set
returns-in_err-set c =
    let told = goes_wrong union_tree (union_faults c.args.variables.now) c.args.unions.now c.loop-i.i c.index-unions-i.result c.in_err-set.field-0.0 c.loop-i-test.true c.index-unions-i.is c.loop-i.invariant.clean c.in_err-set.ensures in
    search (rules, told)

pub returns-in_err-push : goal.returns-in_err-push
returns-in_err-push c = search (rules, telling)

pub loop-i-preserved : goal.loop-i-preserved
loop-i-preserved c =
    let vs = c.args.variables.now in
    let xs = c.args.unions.now in
    let i = c.loop-i.i in
    let x = c.index-unions-i.result in
    let before = map naming_of c.args.sets.now.items in
    let so_far = map naming_of c.loop-i.sets.items in
    let done = map union_tree (take i xs) in
    let new = union_of vs (union_tree x) ∷ [] in
    let pushed : map naming_of c.push.new.self.items ≡ so_far ++ new =
    ap (map naming_of) c.in_ok-push.ensures.items ∙ (map_push naming_of c.loop-i.sets.items c.in_ok-set.set ∙ ap (λ s. so_far ++ s ∷ []) c.in_ok-set.ensures.1) in
    let one_more = ap (map (union_of vs)) (one_taken union_tree xs i x c.loop-i-test.true c.index-unions-i.is) ∙ map_push (union_of vs) done (union_tree x) in
    record {
      clean = goes_on union_tree (union_faults vs) xs i x c.loop-i-test.true c.index-unions-i.is c.loop-i.invariant.clean c.in_ok-set.ensures.0;
      sets = pushed ∙ (ap (λ z. z ++ new) c.loop-i.invariant.sets ∙ (append_assoc before (map (union_of vs) done) new ∙ ap (λ z. before ++ z) (sym one_more)));
    }

pub returns : goal.returns
returns c =
    let vs = c.args.variables.now in
    let xs = c.args.unions.now in
    let before = map naming_of c.args.sets.now.items in (
      ends union_tree (union_faults vs) xs c.loop-i.i c.loop-i-test.false c.loop-i.invariant.clean,
      c.loop-i.invariant.sets ∙ ap (λ z. before ++ map (union_of vs) (map union_tree z)) (take_all c.loop-i.i xs c.loop-i-test.false),
    )
