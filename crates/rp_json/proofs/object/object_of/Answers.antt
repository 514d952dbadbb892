use Rattle.std.proofs.Common.{refl, rules, sym, ◌∙◌}
use Rattle.serde_json.specs.View.{view}
use Rattle.rp_json.proofs.Reading.{none_read, object_read, other_read}
use Rattle.rp_json.proofs.object.object_of.Goals as goal

pub returns-in-Err : goal.returns-in-Err
returns-in-Err c = sym (none_read c.args.text.now (c.in-Err.ensures.err (search rules)))

pub returns-then-is_object : goal.returns-then-is_object
returns-then-is_object c = sym (object_read c.args.text.now (view c.in-Ok.json) c.in-Ok.ensures.ok.0 c.in-Ok.ensures.ok.1 (sym c.is_object.ensures ∙ c.if-is_object.true))

pub returns-else-is_object : goal.returns-else-is_object
returns-else-is_object c = sym (other_read c.args.text.now (view c.in-Ok.json) c.in-Ok.ensures.ok.0 c.in-Ok.ensures.ok.1 (sym c.is_object.ensures ∙ c.if-is_object.false))
