use Rattle.std.proofs.Common.{rules, ◌≡◌, true, Some, List, length, refl, slice_get}
use Rattle.std.proofs.lemmas.Option.{slice_get_read}
use Rattle.rp_search.specs.declared.table.Rows.{Rows}
use Rattle.rp_search.specs.Table.{until_of}
use Rattle.rp_search.proofs.Tables.{kept_at, until_set}
use Rattle.rp_search.proofs.table.Table.add.Goals as goal

pub returns-clause-kept : goal.returns-clause-kept
unfolding until_of
returns-clause-kept c kept = λ q r low high.
    let mid : List Rows = c.make_room.new.self.places.items in
    let same = c.in_ok-make_room.ensures.same q r in
    let all : c.in_ok-added.added.kept ≡ true = search (rules, kept) in
    let found : slice_get mid c.args.place ≡ Some c.index_mut.result.now =
    slice_get_read mid (length mid) c.args.place c.index_mut.result.now refl c.in_ok-make_room.ensures.room c.index_mut.ensures.value in
    let either = kept_at mid c.index_mut.result.now c.add.new.self c.args.place c.args.row c.args.from q r found (c.in_ok-added.ensures.kept all) low (rw same high) in
    rw same at either

pub returns-clause-only : goal.returns-clause-only
unfolding until_of
returns-clause-only c = λ q r some.
    let mid : List Rows = c.make_room.new.self.places.items in
    let same = c.in_ok-make_room.ensures.same q r in
    let found : slice_get mid c.args.place ≡ Some c.index_mut.result.now =
    slice_get_read mid (length mid) c.args.place c.index_mut.result.now refl c.in_ok-make_room.ensures.room c.index_mut.ensures.value in
    let either = until_set mid c.index_mut.result.now c.add.new.self c.args.place c.args.row c.args.until q r found c.in_ok-added.ensures.only some in
    rw same at either
