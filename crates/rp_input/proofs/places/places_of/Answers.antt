use Rattle.rp_input.proofs.TakenByColumns.{if_below, if_headless}
use Rattle.rp_input.proofs.places.places_of.Goals as goal

pub returns-then-layout-clause-ok : goal.returns-then-layout-clause-ok
returns-then-layout-clause-ok c = if_below c.args.layout c.args.columns.now c.args.reader.now c.places_below.new.reader c.if-layout.true c.places_below.result c.places_below.ensures.ok

pub returns-then-layout-clause-err : goal.returns-then-layout-clause-err
returns-then-layout-clause-err c = if_headless c.args.layout c.args.columns.now c.args.reader.now c.if-layout.true c.places_below.result c.places_below.ensures.err
