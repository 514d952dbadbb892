use Rattle.std.proofs.Common.{rules, ◌≡◌, ◌∙◌, true, ◌≤◌, ◌+◌, [], ◌++◌, map, take, drop, length, ap, sym, arith}
use Rattle.std.specs.Prelude.{nat_le, option_map}
use Rattle.std.proofs.lemmas.List.{drop_all, take_all, length-map}
use Rattle.std.proofs.lemmas.Bool.Decides.{nat_tests}
use Rattle.rp_tree.specs.Tree as tree
use Rattle.rp_tree.specs.Tree.{Tree, tree_of, tree_step}
use Rattle.rp_tree.specs.declared.tree.Pattern.TheOpen as P
use Rattle.rp_tree.specs.declared.tree.Pattern.TheVariants as V
use Rattle.rp_tree.specs.declared.tree.Pattern.TheFolds.{fold-roll-Pattern}
use Rattle.rp_resolution.specs.declared.fault.CheckKind.TheVariants.{TooManyPermuted}
use Rattle.rp_resolution.specs.ExprFaults.{unless}
use Rattle.rp_resolution.specs.PartFaults.{pattern_faults, quantifier_faults, part_count}
use Rattle.rp_resolution.specs.Joints.{tree_joint, shape_joint}
use Rattle.rp_same_query.specs.Shapes as shape
use Rattle.rp_same_query.specs.Shapes.{shape_of}
use Rattle.rp_resolution.specs.Shapes.{shaped}
use Rattle.rp_resolution.specs.Reading.{Reads}
use Rattle.rp_words.specs.Bounds.{is_allowed}
use Rattle.rp_words.specs.Variables.{all_true}
use Rattle.rp_resolution.proofs.Telling.{telling, tells_front, tells_behind, none_in_both, right_or_memory}
use Rattle.rp_resolution.proofs.Each.{cut, one_taken}
use Rattle.rp_resolution.proofs.Joining.{beside, by_joint, faults_joined, reads_joined, reads_permuted, reads_hidden, reads_repeated}
use Rattle.rp_resolution.proofs.OneTree.{few_parts}
use Rattle.rp_resolution.proofs.Parts.{none_read, one_read, one_wrong, all_read}
use Rattle.rp_resolution.proofs.pattern.+read.Goals as goal

pub quantified-returns-in_err-body : goal.quantified-returns-in_err-body
quantified-returns-in_err-body t c = search (rules, telling)

pub permutation-returns-in_err-require : goal.permutation-returns-in_err-require
permutation-returns-in_err-require t c =
    let told = rw (few_parts c.args.parts.now) at c.in_err-require.ensures in
    let all = tells_front c.in_err-require.field-0.0 (unless (nat_le (part_count (tree.joined_all tree.Beside (map tree_of c.args.parts.now))) 8) TooManyPermuted c.args.at) (pattern_faults (tree.joined_all tree.Beside (map tree_of c.args.parts.now))) told in
    search (rules, all)

pub permutation-returns-in_err-forms : goal.permutation-returns-in_err-forms
permutation-returns-in_err-forms t c =
    let ts = map tree_of c.args.parts.now in
    let none = rw (few_parts c.args.parts.now) at c.in_ok-require.ensures.0 in
    let told = rw (← faults_joined tree.Beside shape.Beside beside ts) at c.in_err-forms.ensures in
    let all = tells_behind c.in_err-forms.field-0.0 (unless (nat_le (part_count (tree.joined_all tree.Beside ts)) 8) TooManyPermuted c.args.at) (pattern_faults (tree.joined_all tree.Beside ts)) none told in
    search (rules, all)

pub permutation-in_any_order-requires : goal.permutation-in_any_order-requires
permutation-in_any_order-requires t c =
    let ts = map tree_of c.args.parts.now in
    let few : length c.args.parts.now ≤ 8 = let e = c.in_ok-require.ensures.1 in grind (arith, nat_tests) in
    let same : length (map shape_of c.in_ok-forms.forms.items) ≡ length (map (shaped (c.read_all.new.names.items ++ [])) ts) = ap length (c.in_ok-forms.ensures.1.shapes []) in
    omega (arith, same, length-map c.in_ok-forms.forms.items shape_of, length-map ts (shaped (c.read_all.new.names.items ++ [])), length-map c.args.parts.now tree_of)

pub permutation-returns : goal.permutation-returns
permutation-returns t c =
    let ts = map tree_of c.args.parts.now in
    let whole = tree.Permute c.args.at (tree.joined_all tree.Beside ts) in
    let none = rw (few_parts c.args.parts.now) at c.in_ok-require.ensures.0 in
    let clean : pattern_faults whole ≡ [] = rw (none, faults_joined tree.Beside shape.Beside beside ts) c.in_ok-forms.ensures.0 in
    let forms = c.in_ok-forms.forms.items in
    right_or_memory (pattern_faults whole) (λ f. shape_of f ≡ shape.Permute (shape.joined_all shape.Beside (map shape_of forms))) (λ f. all_true (map is_allowed forms) ≡ true → is_allowed f ≡ true)
    (Reads c.args.names.now.items whole c.read_all.new.names.items) c.in_any_order.result clean
    (λ f is allowed. reads_permuted c.args.names.now.items c.args.at ts c.read_all.new.names.items forms f c.in_ok-forms.ensures.1 is (allowed c.in_ok-forms.ensures.1.allowed))
    c.in_any_order.ensures.shape c.in_any_order.ensures.allowed c.in_any_order.ensures.refused

pub joined-returns-in_err-forms : goal.joined-returns-in_err-forms
joined-returns-in_err-forms t c =
    let told = rw (← faults_joined (tree_joint c.args.joint) (shape_joint c.args.joint) (by_joint c.args.joint) (map tree_of c.args.parts.now)) at c.in_err-forms.ensures in
    search (rules, told)

pub joined-returns : goal.joined-returns
joined-returns t c =
    let ts = map tree_of c.args.parts.now in
    let joins = by_joint c.args.joint in
    let whole = tree.joined_all (tree_joint c.args.joint) ts in
    let clean : pattern_faults whole ≡ [] = rw (faults_joined (tree_joint c.args.joint) (shape_joint c.args.joint) joins ts) c.in_ok-forms.ensures.0 in
    let forms = c.in_ok-forms.forms.items in
    right_or_memory (pattern_faults whole) (λ f. shape_of f ≡ shape.joined_all (shape_joint c.args.joint) (map shape_of forms)) (λ f. all_true (map is_allowed forms) ≡ true → is_allowed f ≡ true)
    (Reads c.args.names.now.items whole c.read_all.new.names.items) c.join_all.result clean
    (λ f is allowed. reads_joined (tree_joint c.args.joint) (shape_joint c.args.joint) joins c.args.names.now.items ts c.read_all.new.names.items forms f c.in_ok-forms.ensures.1 is (allowed c.in_ok-forms.ensures.1.allowed))
    c.join_all.ensures.shape c.join_all.ensures.allowed c.join_all.ensures.refused

pub exclusion-returns : goal.exclusion-returns
exclusion-returns t c =
    let part = tree_of c.args.body.now in
    let whole = tree.Exclusion c.args.at part in
    let body = c.in_ok-body.body in
    right_or_memory (pattern_faults whole) (λ f. shape_of f ≡ shape.Exclusion (shape_of body)) (λ f. is_allowed f ≡ is_allowed body)
    (Reads c.args.names.now.items whole c.read.new.names.items) c.hidden.result c.in_ok-body.ensures.0
    (λ f is allowed. reads_hidden c.args.names.now.items c.args.at part c.read.new.names.items body f c.in_ok-body.ensures.1 is allowed)
    c.hidden.ensures.shape c.hidden.ensures.allowed c.hidden.ensures.refused

pub quantified-returns : goal.quantified-returns
quantified-returns t c =
    let part = tree_of c.args.body.now in
    let q = c.args.quantifier in
    let whole = tree.Quantified q part in
    let body = c.in_ok-body.body in
    let within = rw c.bounds_hold-holds.ensures at c.in_ok-require.ensures.0 in
    right_or_memory (pattern_faults whole) (λ f. shape_of f ≡ shape.Quantified (shape_of body) q.lower.count (option_map (λ b. b.count) q.upper) q.reluctant) (λ f. is_allowed f ≡ is_allowed body)
    (Reads c.args.names.now.items whole c.read.new.names.items) c.repeated.result (none_in_both (pattern_faults part) (quantifier_faults q) c.in_ok-body.ensures.0 within)
    (λ f is allowed. reads_repeated c.args.names.now.items q part c.read.new.names.items body f c.in_ok-body.ensures.1 is allowed)
    c.repeated.ensures.shape c.repeated.ensures.allowed c.repeated.ensures.refused

pub read_all-loop-part-init : goal.read_all-loop-part-init
read_all-loop-part-init t c = rw c.new-forms.ensures.items (none_read c.args.names.now.items (map tree_of c.args.parts.now))

pub read_all-loop-part-preserved : goal.read_all-loop-part-preserved
read_all-loop-part-preserved t c =
    let xs = c.args.parts.now in
    let i = c.loop-part.part-index in
    let next = cut tree_of xs i c.part-item.result c.loop-part-test.true c.part-item.is in
    let so = rw next at c.loop-part.invariant in
    rw (one_taken tree_of xs i c.part-item.result c.loop-part-test.true c.part-item.is, c.in_ok-push.ensures.items)
    (one_read c.args.names.now.items (map tree_of xs) (map tree_of (take i xs)) (map tree_of (drop (i + 1) xs)) c.loop-part.names.items c.read.new.names.items c.loop-part.forms.items (tree_of c.part-item.result) c.in_ok-form.form so c.in_ok-form.ensures.0 c.in_ok-form.ensures.1)

pub read_all-returns-in_err-form : goal.read_all-returns-in_err-form
read_all-returns-in_err-form t c =
    let xs = c.args.parts.now in
    let i = c.loop-part.part-index in
    let next = cut tree_of xs i c.part-item.result c.loop-part-test.true c.part-item.is in
    let so = rw next at c.loop-part.invariant in
    let told = one_wrong c.args.names.now.items (map tree_of xs) (map tree_of (take i xs)) (map tree_of (drop (i + 1) xs)) c.loop-part.names.items c.loop-part.forms.items (tree_of c.part-item.result) c.in_err-form.field-0.0 so c.in_err-form.ensures in
    search (rules, told)

pub read_all-returns-in_err-push : goal.read_all-returns-in_err-push
read_all-returns-in_err-push t c = search (rules, telling)

pub read_all-returns : goal.read_all-returns
read_all-returns t c =
    let xs = c.args.parts.now in
    let i = c.loop-part.part-index in
    let so = rw (drop_all i xs c.loop-part-test.false, take_all i xs c.loop-part-test.false) at c.loop-part.invariant in
    all_read c.args.names.now.items (map tree_of xs) c.loop-part.names.items c.loop-part.forms.items so

pub read-returns-in-Variable : goal.read-returns-in-Variable
read-returns-in-Variable t c =
    let whole : tree_of c.args.pattern.now ≡ tree.Variable c.in-Variable.name = ap tree_of c.in-Variable.is ∙ (ap tree_of (sym (V.rolls-Variable c.in-Variable.name)) ∙ fold-roll-Pattern Tree tree_step (P.Variable c.in-Variable.name)) in
    rw whole c.variable.ensures

pub read-returns-in-Concatenation : goal.read-returns-in-Concatenation
read-returns-in-Concatenation t c =
    let whole : tree_of c.args.pattern.now ≡ tree.joined_all tree.Concatenation (map tree_of c.in-Concatenation.parts.items) = ap tree_of c.in-Concatenation.is ∙ (ap tree_of (sym (V.rolls-Concatenation c.in-Concatenation.parts)) ∙ fold-roll-Pattern Tree tree_step (P.Concatenation c.in-Concatenation.parts)) in
    rw whole (rw c.as_slice.ensures.value at c.joined.ensures)

pub read-returns-in-Alternation : goal.read-returns-in-Alternation
read-returns-in-Alternation t c =
    let whole : tree_of c.args.pattern.now ≡ tree.joined_all tree.Alternation (map tree_of c.in-Alternation.parts.items) = ap tree_of c.in-Alternation.is ∙ (ap tree_of (sym (V.rolls-Alternation c.in-Alternation.parts)) ∙ fold-roll-Pattern Tree tree_step (P.Alternation c.in-Alternation.parts)) in
    rw whole (rw c.as_slice-in-Alternation.ensures.value at c.joined-in-Alternation.ensures)

pub read-returns-in-Permute : goal.read-returns-in-Permute
read-returns-in-Permute t c =
    let whole : tree_of c.args.pattern.now ≡ tree.Permute c.in-Permute.at (tree.joined_all tree.Beside (map tree_of c.in-Permute.parts.items)) = ap tree_of c.in-Permute.is ∙ (ap tree_of (sym (V.rolls-Permute c.in-Permute.at c.in-Permute.parts)) ∙ fold-roll-Pattern Tree tree_step (P.Permute c.in-Permute.at c.in-Permute.parts)) in
    rw whole (rw c.as_slice-in-Permute.ensures.value at c.permutation.ensures)

pub read-returns-in-Exclusion : goal.read-returns-in-Exclusion
read-returns-in-Exclusion t c =
    let whole : tree_of c.args.pattern.now ≡ tree.Exclusion c.in-Exclusion.at (tree_of c.in-Exclusion.body.value) = ap tree_of c.in-Exclusion.is ∙ (ap tree_of (sym (V.rolls-Exclusion c.in-Exclusion.at c.in-Exclusion.body)) ∙ fold-roll-Pattern Tree tree_step (P.Exclusion c.in-Exclusion.at c.in-Exclusion.body)) in
    let same : c.deref.result.now ≡ c.in-Exclusion.body.value = c.deref.ensures in
    rw whole (rw same at c.exclusion.ensures)

pub read-returns-in-Quantified : goal.read-returns-in-Quantified
read-returns-in-Quantified t c =
    let whole : tree_of c.args.pattern.now ≡ tree.Quantified c.in-Quantified.quantifier (tree_of c.in-Quantified.body.value) = ap tree_of c.in-Quantified.is ∙ (ap tree_of (sym (V.rolls-Quantified c.in-Quantified.body c.in-Quantified.quantifier)) ∙ fold-roll-Pattern Tree tree_step (P.Quantified c.in-Quantified.body c.in-Quantified.quantifier)) in
    let same : c.deref-in-Quantified.result.now ≡ c.in-Quantified.body.value = c.deref-in-Quantified.ensures in
    rw whole (rw same at c.quantified.ensures)
