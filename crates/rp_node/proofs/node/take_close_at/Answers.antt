use Rattle.std.proofs.Common.{refl, sym}
use Rattle.rp_node.proofs.node.take_close_at.Goals as goal

pub close-requires : goal.close-requires
close-requires c = record { joined = c.requires.joined c.in-Some.partition.now (sym c.in-Some.ensures.value) }

pub returns-in-Some : goal.returns-in-Some
returns-in-Some c = record {
  takes = λ key. record {
    before = c.in-Some.partition.now;
    later = c.close.new.self;
    there = sym c.in-Some.ensures.value;
    now = refl;
    taken = c.close.ensures.taken;
  };
}
