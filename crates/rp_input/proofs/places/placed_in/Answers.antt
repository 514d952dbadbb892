use Rattle.std.proofs.Common.{◌≡◌, ◌∙◌, ◌+◌, ◌++◌, ◌∷◌, [], take, ap, sym, refl}
use Rattle.std.proofs.lemmas.List.{take_more}
use Rattle.csv.specs.Records.{fields_of}
use Rattle.rp_input.specs.Placed.{HasPlace}
use Rattle.rp_input.proofs.Placing.{column_at, found_nowhere, found_once, found_twice, placed_more}
use Rattle.rp_input.proofs.places.placed_in.Goals as goal

pub returns-in-Nowhere-clause-fault : goal.returns-in-Nowhere-clause-fault
returns-in-Nowhere-clause-fault c =
    let column = c.index-columns-index.result in
    let why = found_nowhere column (fields_of c.args.header.now) (rw c.in-Nowhere.is at c.in_ok-place_for.ensures) in
    record {
      placed = c.loop-index.placed.items;
      before = c.loop-index.invariant;
      column = column;
      is = column_at c.args.columns.now c.loop-index.index column c.loop-index-test.true c.index-columns-index.is;
      reads = why.0;
      why = why.1;
    }

pub returns-in-Twice-clause-fault : goal.returns-in-Twice-clause-fault
returns-in-Twice-clause-fault c =
    let column = c.index-columns-index.result in
    let why = found_twice column (fields_of c.args.header.now) (rw c.in-Twice.is at c.in_ok-place_for.ensures) in
    record {
      placed = c.loop-index.placed.items;
      before = c.loop-index.invariant;
      column = column;
      is = column_at c.args.columns.now c.loop-index.index column c.loop-index-test.true c.index-columns-index.is;
      reads = why.0;
      why = why.1;
    }

pub loop-index-preserved : goal.loop-index-preserved
loop-index-preserved c =
    let column = c.index-columns-index.result in
    let i = c.loop-index.index in
    let only : HasPlace (fields_of c.args.header.now) column c.in-Once.place = found_once column (fields_of c.args.header.now) c.in-Once.place (rw c.in-Once.is at c.in_ok-place_for.ensures) in
    let taken : take (i + 1) c.args.columns.now ≡ take i c.args.columns.now ++ column ∷ [] = take_more c.args.columns.now i column c.loop-index-test.true ∙ ap (λ x. take i c.args.columns.now ++ x ∷ []) (sym c.index-columns-index.is) in
    rw (taken, c.in_ok-push-in-Once.ensures.items)
    (placed_more (fields_of c.args.header.now) (take i c.args.columns.now) c.loop-index.placed.items column (record { reading = c.in_ok-reading-in-Once.reading; place = c.in-Once.place }) c.loop-index.invariant c.in_ok-reading-in-Once.ensures only)
