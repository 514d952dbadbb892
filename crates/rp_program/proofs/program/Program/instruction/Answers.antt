use Rattle.std.proofs.Common.{refl}
use Rattle.rp_program.specs.declared.place.Place.TheVariants.{Match, Row, Split, PartitionStart, PartitionEnd}
use Rattle.rp_program.proofs.Running.{place_read, is_below, match_stands, row_stands, row_split_stands, start_stands, end_stands}
use Rattle.rp_program.proofs.Costs.{weight_at, start_takes, end_takes, split_takes}
use Rattle.rp_program.proofs.program.Program.instruction.Goals as goal

pub returns-in-Match-clause-stands : goal.returns-in-Match-clause-stands
returns-in-Match-clause-stands c =
    let p = c.args.self.now in
    match_stands p c.args.place (is_below p c.args.place c.requires) (place_read p c.args.place c.index.result.now Match c.requires c.index.ensures c.in-Match.is)

pub returns-in-Row-clause-stands : goal.returns-in-Row-clause-stands
returns-in-Row-clause-stands c =
    let p = c.args.self.now in
    let x = c.in-Row in
    row_stands p c.args.place (is_below p c.args.place c.requires) x.var x.excluded x.next (place_read p c.args.place c.index.result.now (Row x.var x.excluded x.next) c.requires c.index.ensures x.is)

pub returns-in-RowSplit-clause-stands : goal.returns-in-RowSplit-clause-stands
returns-in-RowSplit-clause-stands c =
    let p = c.args.self.now in
    let x = c.in-RowSplit in
    row_split_stands p c.args.place (is_below p c.args.place c.requires) x.preferred x.other _ (place_read p c.args.place c.index.result.now _ c.requires c.index.ensures x.is)

pub returns-in-PartitionStart-clause-stands : goal.returns-in-PartitionStart-clause-stands
returns-in-PartitionStart-clause-stands c =
    let p = c.args.self.now in
    let x = c.in-PartitionStart in
    start_stands p c.args.place (is_below p c.args.place c.requires) x.next (place_read p c.args.place c.index.result.now (PartitionStart x.next) c.requires c.index.ensures x.is)

pub returns-in-PartitionEnd-clause-stands : goal.returns-in-PartitionEnd-clause-stands
returns-in-PartitionEnd-clause-stands c =
    let p = c.args.self.now in
    let x = c.in-PartitionEnd in
    end_stands p c.args.place (is_below p c.args.place c.requires) x.next (place_read p c.args.place c.index.result.now (PartitionEnd x.next) c.requires c.index.ensures x.is)

pub returns-in-Match-clause-takes : goal.returns-in-Match-clause-takes
returns-in-Match-clause-takes c =
    let p = c.args.self.now in
    weight_at p c.args.place (is_below p c.args.place c.requires) Match (place_read p c.args.place c.index.result.now Match c.requires c.index.ensures c.in-Match.is)

pub returns-in-Row-clause-takes : goal.returns-in-Row-clause-takes
returns-in-Row-clause-takes c =
    let p = c.args.self.now in
    let x = c.in-Row in
    weight_at p c.args.place (is_below p c.args.place c.requires) (Row x.var x.excluded x.next) (place_read p c.args.place c.index.result.now (Row x.var x.excluded x.next) c.requires c.index.ensures x.is)

pub returns-in-PartitionStart-clause-takes : goal.returns-in-PartitionStart-clause-takes
returns-in-PartitionStart-clause-takes c =
    let p = c.args.self.now in
    let x = c.in-PartitionStart in
    start_takes p c.args.place (is_below p c.args.place c.requires) x.next (place_read p c.args.place c.index.result.now (PartitionStart x.next) c.requires c.index.ensures x.is)

pub returns-in-PartitionEnd-clause-takes : goal.returns-in-PartitionEnd-clause-takes
returns-in-PartitionEnd-clause-takes c =
    let p = c.args.self.now in
    let x = c.in-PartitionEnd in
    end_takes p c.args.place (is_below p c.args.place c.requires) x.next (place_read p c.args.place c.index.result.now (PartitionEnd x.next) c.requires c.index.ensures x.is)

pub returns-in-Split-clause-takes : goal.returns-in-Split-clause-takes
returns-in-Split-clause-takes c =
    let p = c.args.self.now in
    let x = c.in-Split in
    split_takes p c.args.place (is_below p c.args.place c.requires) x.preferred x.other (Split x.preferred x.other) (place_read p c.args.place c.index.result.now (Split x.preferred x.other) c.requires c.index.ensures x.is) (λ fs. refl)

pub returns-in-RowSplit-clause-takes : goal.returns-in-RowSplit-clause-takes
returns-in-RowSplit-clause-takes c =
    let p = c.args.self.now in
    let x = c.in-RowSplit in
    split_takes p c.args.place (is_below p c.args.place c.requires) x.preferred x.other _ (place_read p c.args.place c.index.result.now _ c.requires c.index.ensures x.is) (λ fs. refl)

pub returns-in-Loop-clause-takes : goal.returns-in-Loop-clause-takes
returns-in-Loop-clause-takes c =
    let p = c.args.self.now in
    let x = c.in-Loop in
    split_takes p c.args.place (is_below p c.args.place c.requires) x.preferred x.other _ (place_read p c.args.place c.index.result.now _ c.requires c.index.ensures x.is) (λ fs. refl)
