-- What clap has of an argument that is listed among those of a command.
use Rattle.std.specs.Prelude.{true, [], ◌∷◌, map}
use Rattle.clap.specs.Words.{App, Rule, Text, new_app}
use Rattle.rp_command.specs.Commands.{by_each_name, by_flag, by_name_if_any, by_number, by_place_if_any, by_places_if_any, with_rules}
use Rattle.rp_command.specs.declared.argument.Argument.{Argument}
use Rattle.rp_command.specs.declared.argument.Form.{Form}
use Rattle.rp_command.specs.declared.argument.Form.TheVariants as form
use Rattle.rp_command.specs.declared.argument.Presence.{Presence}
use Rattle.rp_command.specs.declared.argument.Presence.TheVariants as presence
use Rattle.rp_command.specs.declared.commands.CommandText.{CommandText}

-- an argument of this form and name, which needn't be given
abbrev pub by_form : Form → Text → Rule
by_form form.Text id = by_name_if_any id
by_form form.Texts id = by_each_name id
by_form form.Number id = by_number id
by_form form.Flag id = by_flag id
by_form form.Place id = by_place_if_any id
by_form form.Places id = by_places_if_any id

-- one that must be given, needn't be, or is this text where it isn't
abbrev pub as_present : Presence → Rule → Rule
as_present presence.Required rule = record rule { required = true }
as_present presence.Optional rule = rule
as_present (presence.Usual text) rule = record rule { defaults = text.now ∷ [] }

-- the argument that is listed
abbrev pub rule_by : Argument → Rule
rule_by argument = as_present argument.presence (by_form argument.form argument.name.now)

-- the command with the arguments that are listed for it
abbrev pub app_with : CommandText → App
app_with text = with_rules (new_app text.name.now) (map rule_by text.arguments.now)
