use Rattle.rp_resolution.proofs.Telling.{tells_test}
use Rattle.rp_resolution.proofs.place.require.Goals as goal

pub returns : goal.returns
returns c = tells_test c.fault.result c.args.test c.args.kind c.args.offset c.fault.ensures c.if-test.false
