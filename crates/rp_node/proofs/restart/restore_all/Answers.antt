use Rattle.std.proofs.Common.{Bool, sym, ap, ◌∙◌, subst, drop, ◌+◌, ◌∷◌}
use Rattle.std.proofs.lemmas.List.{drop_all, drop_more}
use Rattle.rp_checkpoint.specs.declared.node_data.PartitionData.{PartitionData}
use Rattle.rp_partition.specs.Joined.{held_of}
use Rattle.rp_node.specs.NodeSeen.{AllJoined, Map, entries_by}
use Rattle.rp_node.specs.Restarting.{records_from, RestoredOne}
use Rattle.rp_node.proofs.Restarts.{goes_on, stops_at}
use Rattle.rp_node.proofs.restart.restore_all.Goals as goal

pub loop-one-init : goal.loop-one-init
loop-one-init c = record {
  joined = subst (AllJoined c.args.query.now) (sym c.with_hasher-partitions.ensures.empty) tt;
  so_far = ap (λ (es : Map). records_from c.args.query.now (entries_by held_of es) c.args.kept.now) (sym c.with_hasher-partitions.ensures.empty);
}

pub loop-one-preserved : goal.loop-one-preserved
loop-one-preserved c =
    let q = c.args.query.now in
    let before = c.loop-one.partitions.entries in
    let rest = drop (c.loop-one.one-index + 1) c.args.kept.now in
    let one = subst (λ (b : Bool). RestoredOne q before c.one-item.result c.restore_one.new.partitions.entries b) c.if-not-branch.false c.in_ok-restore_one.ensures in
    record {
      joined = one.2;
      so_far = c.loop-one.invariant.so_far ∙ ap (records_from q (entries_by held_of before)) (drop_more c.args.kept.now c.loop-one.one-index c.one-item.result c.loop-one-test.true ∙ ap (λ (p : PartitionData). p ∷ rest) (sym c.one-item.is))
          ∙ goes_on q before c.restore_one.new.partitions.entries c.one-item.result rest one;
    }

pub returns : goal.returns
returns c = (
  c.loop-one.invariant.so_far ∙ ap (records_from c.args.query.now (entries_by held_of c.loop-one.partitions.entries)) (drop_all c.loop-one.one-index c.args.kept.now c.loop-one-test.false),
  c.loop-one.invariant.joined,
)

pub returns-then-not-branch : goal.returns-then-not-branch
returns-then-not-branch c =
    let q = c.args.query.now in
    let before = c.loop-one.partitions.entries in
    let rest = drop (c.loop-one.one-index + 1) c.args.kept.now in
    let one = subst (λ (b : Bool). RestoredOne q before c.one-item.result c.restore_one.new.partitions.entries b) c.if-not-branch.true c.in_ok-restore_one.ensures in
    c.loop-one.invariant.so_far ∙ ap (records_from q (entries_by held_of before)) (drop_more c.args.kept.now c.loop-one.one-index c.one-item.result c.loop-one-test.true ∙ ap (λ (p : PartitionData). p ∷ rest) (sym c.one-item.is))
    ∙ stops_at q before c.restore_one.new.partitions.entries c.one-item.result rest one
