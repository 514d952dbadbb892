use Rattle.std.proofs.Common.{Option, sym, ◌∙◌, subst}
use Rattle.rp_partition.specs.declared.partition.Partition.{Partition}
use Rattle.rp_node.specs.Resuming.{Resumed}
use Rattle.rp_node.proofs.Restarts.{not_next, one_restored}
use Rattle.rp_node.proofs.restart.restore_one.Goals as goal

pub returns-then-contains_key : goal.returns-then-contains_key
returns-then-contains_key c =
    not_next c.args.query.now c.args.partitions.now.entries c.args.kept.now c.as_slice.result.now c.as_slice.ensures (sym c.if-contains_key.ensures)

pub returns-in_ok-add-in-Some : goal.returns-in_ok-add-in-Some
returns-in_ok-add-in-Some c =
    one_restored c.args.query.now c.args.partitions.now.entries c.add.new.partitions.entries c.args.kept.now c.as_slice.result.now c.into_vec.result c.in-Some.partition
    c.as_slice.ensures (sym c.if-contains_key.ensures) (c.into_vec.ensures ∙ c.in_ok-key-in-Some.ensures)
    (subst (λ (o : Option Partition). Resumed c.args.query.now c.args.kept.now o) c.in-Some.is c.in_ok-resume.ensures)
    c.requires.joined c.in_ok-add-in-Some.ensures
