use Rattle.std.proofs.Common.{◌≡◌, ◌∷◌, ◌-◌, length, drop, get_or, refl, arith, rules}
use Rattle.rp_program.proofs.Picking.{sets_positive}
use Rattle.rp_program.proofs.Growth.{grows_length}
use Rattle.rp_program.proofs.Setting.{next_within, any_way_more}
use Rattle.rp_program.proofs.draft.Draft.+any_way.Goals as goal

pub bounds-table-table : goal.bounds-table-table
bounds-table-table t c = omega (arith, c.sets-without.ensures, c.if-table-without.false, sets_positive (length c.in-Some.rest.now))

pub way_or-requires-clause-next : goal.way_or-requires-clause-next
way_or-requires-clause-next t c =
    let there = next_within c.args.self.now.places.items c.args.table.now c.in-Some.rest.now c.sets-without.result c.sets-without.ensures (omega (arith, c.if-table-without.false)) c.requires.table in
    omega (arith, there, grows_length c.args.self.now.places.items c.any_way-2.new.self.places.items c.in_ok-other.ensures.puts.grows)

pub returns : goal.returns
returns t c =
    let a = c.args in
    let x = c.in-Some in
    let is : a.vars.now ≡ x.var.now ∷ x.rest.now = search rules in
    let back : c.split_at.result.1.now ≡ drop c.sets-without.result a.table.now = search rules in
    any_way_more a.excluded a.others a.vars.now x.var.now x.rest.now a.table.now c.split_at.result.1.now c.sets-without.result (get_or a.table.now (length a.table.now - c.sets-without.result) 0)
    a.self.now.places.items c.any_way-2.new.self.places.items c.way_or.new.self.places.items c.in_ok-other.other c.in_ok-place.place
    is c.sets-without.ensures (omega (arith, c.if-table-without.false)) back refl c.requires.table c.in_ok-other.ensures c.in_ok-place.ensures
