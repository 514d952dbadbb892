use Rattle.std.proofs.Common.{rules}
use Rattle.serde_json.proofs.Views.{members_len-members_view, view-Object}
use Rattle.rp_json.proofs.fields.has_fields.Goals as goal

pub returns-in-Object : goal.returns-in-Object
returns-in-Object c = rw (c.in-Object.is, view-Object c.in-Object.map, members_len-members_view c.in-Object.map.entries) (rw c.len.ensures.len (search rules))
