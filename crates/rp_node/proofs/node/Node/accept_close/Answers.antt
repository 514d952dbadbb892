use Rattle.std.proofs.Common.{◌≡◌, None, List, refl, sym, ap, ◌∙◌, subst}
use Rattle.rp_value.specs.declared.value.Value.{Value}
use Rattle.rp_value.specs.Rows.{row_fault}
use Rattle.rp_query.specs.declared.query.QueryData.{QueryData}
use Rattle.rp_query.specs.Keys.{key_kinds}
use Rattle.rp_feed.specs.declared.packet.Packet.{Packet}
use Rattle.rp_feed.specs.declared.packet.Packet.TheVariants.{Close as ClosePacket}
use Rattle.rp_node.specs.Accepting.{packet_fault, packet_key}
use Rattle.rp_node.specs.NodeSeen.{AllJoined}
use Rattle.rp_node.specs.Taking.{MapTakes}
use Rattle.rp_node.proofs.Nodes.{all_bounded, accept_taken}
use Rattle.rp_node.proofs.node.Node.accept_close.Goals as goal

pub returns-in-Some-clause-bounded : goal.returns-in-Some-clause-bounded
returns-in-Some-clause-bounded c = rw (← c.self.view_is) (all_bounded c.law_left.ensures.bounded c.self.inside.query c.self.inside.partitions.entries c.self.invariant)

module _ (c : goal.After-told) where
  abbrev q : QueryData
  q = c.self.inside.query

  abbrev packet : Packet
  packet = ClosePacket c.args.key c.args.count

  fits : packet_fault q packet ≡ None
  fits = ap (λ (k : List Value). row_fault (key_kinds q) k) (sym c.as_slice.ensures) ∙ sym c.key_fault.ensures ∙ c.in_default.is

  takes : MapTakes q packet (packet_key q packet) c.self.inside.partitions.entries c.take_close-answer.new.partitions.entries c.take_close-answer.result
  takes =
      subst (λ (k : List Value). MapTakes q (ClosePacket k c.args.count) k c.self.inside.partitions.entries c.take_close-answer.new.partitions.entries c.take_close-answer.result) c.into_vec.ensures
      c.take_close-answer.ensures.takes

  all : AllJoined q c.take_close-answer.new.partitions.entries
  all = takes.joined fits refl

pub invariant_of-self : goal.invariant_of-self
invariant_of-self c = all c

pub returns-clause-bounded : goal.returns-clause-bounded
returns-clause-bounded c = all_bounded c.law_left.ensures.bounded (q c) c.take_close-answer.new.partitions.entries (all c)

pub returns-clause-taken : goal.returns-clause-taken
returns-clause-taken c =
    rw (← c.self.view_is) (λ e. accept_taken (q c) (packet c) c.self.inside.partitions.entries c.take_close-answer.new.partitions.entries c.take_close-answer.result (fits c) (takes c) (sym c.told.ensures ∙ e))
