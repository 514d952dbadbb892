-- A command with the arguments that were added to it.
use Rattle.std.proofs.Common.{◌≡◌, ◌∙◌, not, true, false, List, [], ◌∷◌, is_some, map, ap, refl, sym}
use Rattle.std.specs.List.{list_all}
use Rattle.clap.proofs.SimpleLemmas.{is_false}
use Rattle.clap.proofs.WalkLemmas.{both}
use Rattle.clap.specs.Walk.{is_empty, is_simple_arg}
use Rattle.clap.specs.Words.{AddsArg, AddsInTurn, Rule, Text, app_of, rule_of}
use Rattle.clap.specs.declared.builder.arg.Arg.{Arg}
use Rattle.clap.specs.declared.builder.command.Command.{Command}
use Rattle.rp_command.specs.Commands.{with_rules}
use Rattle.rp_command.specs.Listed.{as_present, by_form, rule_by}
use Rattle.rp_command.specs.declared.argument.Argument.{Argument}
use Rattle.rp_command.specs.declared.argument.Form.{Form}
use Rattle.rp_command.specs.declared.argument.Form.TheVariants as form
use Rattle.rp_command.specs.declared.argument.Presence.{Presence}
use Rattle.rp_command.specs.declared.argument.Presence.TheVariants as presence

-- an argument whose rule is simple is of its command alone, and of no command below it
own : (argument : Arg) → is_simple_arg argument ≡ true → argument.global ≡ false
own argument simple =
    let second = both (is_empty argument.overrides.items) _ simple in
    let third = both (is_empty argument.default_vals_ifs.items) _ second.1 in
    let fourth = both (is_empty argument.groups.items) _ third.1 in
    let fifth = both (not (is_some argument.val_delim)) _ fourth.1 in
    let sixth = both (not (is_some argument.terminator)) _ fifth.1 in
    let seventh = both (not argument.allow_hyphen_values) _ sixth.1 in
    let eighth = both (not argument.allow_negative_numbers) _ seventh.1 in
    let ninth = both (not argument.require_equals) _ eighth.1 in
    is_false argument.global (both (not argument.last) _ ninth.1).1

pub added : (arguments : List Arg) (old new : Command) → list_all (λ rule. rule.is_simple) (map rule_of arguments) ≡ true
    → AddsInTurn AddsArg old arguments new → app_of new ≡ with_rules (app_of old) (map rule_of arguments)
added [] old new simple same = ap app_of (sym same)
added (argument ∷ arguments) old new simple adds =
    let each = both _ _ simple in
    added arguments adds.0 new each.1 adds.2 ∙ ap (λ app. with_rules app (map rule_of arguments)) (adds.1.shape (own argument each.0))

-- each argument that is listed has a simple rule
form_simple : (f : Form) (id : Text) → (by_form f id).is_simple ≡ true
form_simple form.Text id = refl
form_simple form.Texts id = refl
form_simple form.Number id = refl
form_simple form.Flag id = refl
form_simple form.Place id = refl
form_simple form.Places id = refl

present_simple : (p : Presence) (rule : Rule) → rule.is_simple ≡ true → (as_present p rule).is_simple ≡ true
present_simple presence.Required rule simple = simple
present_simple presence.Optional rule simple = simple
present_simple (presence.Usual text) rule simple = simple

pub all_simple : (listed : List Argument) → list_all (λ rule. rule.is_simple) (map rule_by listed) ≡ true
all_simple [] = refl
all_simple (argument ∷ listed) = rw (present_simple argument.presence (by_form argument.form argument.name.now) (form_simple argument.form argument.name.now)) (all_simple listed)
