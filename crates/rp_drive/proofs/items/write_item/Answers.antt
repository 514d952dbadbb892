use Rattle.rp_protocol.specs.declared.reply.Reply.TheVariants as reply
use Rattle.rp_drive.specs.Lines.{item_line}
use Rattle.rp_io.proofs.Cutting.{on_err_from}
use Rattle.rp_io.proofs.Writes.{front_none}
use Rattle.rp_drive.proofs.items.write_item.Goals as goal

pub returns-in_err-text-clause-front : goal.returns-in_err-text-clause-front
returns-in_err-text-clause-front g c =
    on_err_from _ (front_none (g.O.Outlet.contents c.args.out.now) (item_line c.args.node_number (reply.Item c.args.key.now c.args.place c.args.item.now)))
