use Rattle.std.proofs.Common.{rules, ◌≡◌, ◌<◌, Some, refl, length, slice_get}
use Rattle.std.proofs.lemmas.Option.{slice_get_read}
use Rattle.rp_search.proofs.Tables.{taken_over}
use Rattle.rp_search.proofs.table.Rows.take_over.Goals as goal

pub returns-clause-taken : goal.returns-clause-taken
returns-clause-taken c r low high either =
    let found : slice_get c.args.others.now.slots.items c.args.at ≡ Some c.index.result.now =
    slice_get_read c.args.others.now.slots.items (length c.args.others.now.slots.items) c.args.at c.index.result.now refl c.requires.at c.index.ensures in
    let some : c.args.from < c.until-until.result = search rules in
    taken_over c.args.others.now c.args.self.now c.set.new.self c.args.at c.args.from c.index.result.now.row c.until-until.result c.index.result.now found refl
    c.until-until.ensures some c.requires.twice c.set.ensures.held c.set.ensures.others r high either
