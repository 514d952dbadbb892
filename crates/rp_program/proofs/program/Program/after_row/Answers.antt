use Rattle.std.proofs.Common.{◌≡◌, ℕ, Bool, None, refl, sym, ap, ◌∙◌}
use Rattle.rp_program.specs.declared.place.Place.{Place}
use Rattle.rp_program.specs.Programs.{row_next, next_place}
use Rattle.rp_program.specs.declared.place.Place.TheVariants.{Match, Row, Split, RowSplit, PartitionStart, PartitionEnd, Loop}
use Rattle.rp_program.proofs.Costs.{row_takes, some_cost}
use Rattle.rp_program.proofs.Running.{place_read, is_below}
use Rattle.rp_program.proofs.program.Program.after_row.Goals as goal

pub returns-in-Row-clause-takes : goal.returns-in-Row-clause-takes
returns-in-Row-clause-takes c =
    let p = c.args.self.now in
    let x = c.in-Row in
    row_takes p c.args.place (is_below p c.args.place c.requires) _ (place_read p c.args.place c.index.result.now _ c.requires c.index.ensures x.is)

none_next : {x : Place} → ((v : ℕ) (b : Bool) (n : ℕ) → x ≡ Row v b n → ⊥) → None ≡ row_next x
none_next {x} h = go x refl
  where
    go : (y : Place) → x ≡ y → None ≡ row_next x
    go Match is = ap row_next (sym is)
    go (Row v b n) is = absurd (h v b n is)
    go (Split a b) is = ap row_next (sym is)
    go (RowSplit a b others) is = ap row_next (sym is)
    go (PartitionStart n) is = ap row_next (sym is)
    go (PartitionEnd n) is = ap row_next (sym is)
    go (Loop a b body b' r n) is = ap row_next (sym is)

pub returns-in_default : goal.returns-in_default
unfolding next_place
returns-in_default c = record { next = none_next (λ v b n is. c.in_default.not-Row v b n is) ∙ sym (ap row_next (place_read c.args.self.now c.args.place c.index.result.now c.index.result.now c.requires c.index.ensures refl)); there = tt; takes = some_cost c.args.self.now c.args.place }
