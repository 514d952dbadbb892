use Rattle.std.proofs.Common.{◌≡◌, ◌∙◌, ap, map, true}
use Rattle.std.specs.List.{list_all}
use Rattle.std.proofs.lemmas.Result.{IfOk-weaker}
use Rattle.clap.specs.Simple.{app_of_fields}
use Rattle.clap.specs.Words.{app_of, new_app, rule_of}
use Rattle.rp_command.proofs.Added.{added, all_simple}
use Rattle.rp_command.specs.Commands.{with_rules}
use Rattle.rp_command.proofs.commands.command_with.Goals as goal

pub returns : goal.returns
returns c =
    let rules = c.in_ok-arguments.ensures in
    let empty : app_of c.after_help.result ≡ new_app c.args.text.now.name.now =
    ap app_of_fields c.after_help.ensures ∙ (ap app_of_fields c.about.ensures ∙ (ap app_of_fields c.in_ok-command.ensures.0 ∙ c.new.ensures.app)) in
    let simple : list_all (λ rule. rule.is_simple) (map rule_of c.in_ok-arguments.arguments.items) ≡ true =
    ap (list_all (λ rule. rule.is_simple)) rules ∙ all_simple c.args.text.now.arguments.now in
    IfOk-weaker c.args-2.result _ _
    (λ made adds. added _ _ made simple adds ∙ (ap (λ app. with_rules app (map rule_of c.in_ok-arguments.arguments.items)) empty ∙ ap (with_rules (new_app c.args.text.now.name.now)) rules))
    c.args-2.ensures
