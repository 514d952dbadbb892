use Rattle.csv.specs.Records.{fields_of}
use Rattle.rp_input.proofs.Takes.{takes}
use Rattle.rp_input.proofs.records.take_record.Goals as goal

pub returns : goal.returns
returns c = λ d text before at.
    takes d text before c.args.reader.now c.read_byte_record.new.self (fields_of c.read_byte_record.new.row) c.in-Ok.found at (c.in-Ok.ensures.reads at.trims at.ready) (c.in-Ok.ensures.ready at.trims)
