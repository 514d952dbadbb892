-- What holds of each command's arguments.
use Rattle.std.proofs.Common.{◌≡◌, Bool, cond, true, false, suc, List, [], ◌∷◌, Option, Some, refl, arith, ap, subst}
use Rattle.std.specs.Prelude.{unwrap_or}
use Rattle.std.specs.List.{All, find}
use Rattle.std.specs.Str.{bytes_eq}
use Rattle.clap.specs.Words.{App, IsParsedFrom, Rule, app_of, is_simple}
use Rattle.clap.specs.declared.builder.command.Command.{Command}
use Rattle.clap.specs.declared.builder.value_parser.ValueParser.{ValueParser}
use Rattle.clap.specs.declared.parser.matches.ArgMatches.{ArgMatches}
use Rattle.rp_command.proofs.Rules.{is_separate, meets_rules}
use Rattle.rp_command.specs.Commands.{check_app, is_ruled, node_app, source_app, trace_app, whole_app, why_app}
use Rattle.rp_command.specs.Jobs.{app_by}
use Rattle.rp_command.specs.Values.{HasValue, MeetsRule, MeetsRules, Passes, always_has_value}
use Rattle.rp_command.specs.declared.job.CommandName.{CommandName}
use Rattle.rp_command.specs.declared.job.CommandName.TheVariants as command_name

simple_by : (command : CommandName) → is_simple (app_by command) ≡ true
unfolding trace_app whole_app node_app source_app check_app why_app
simple_by command_name.Trace = refl
simple_by command_name.Whole = refl
simple_by command_name.Node = refl
simple_by command_name.Source = refl
simple_by command_name.Check = refl
simple_by command_name.Why = refl

pub simple : (command : CommandName) (app : App) → app ≡ app_by command → is_simple app ≡ true
simple command app is = rw is (simple_by command)

pub ruled : (command : CommandName) → is_ruled (app_by command) ≡ true
unfolding trace_app whole_app node_app source_app check_app why_app is_ruled
ruled command_name.Trace = refl
ruled command_name.Whole = refl
ruled command_name.Node = refl
ruled command_name.Source = refl
ruled command_name.Check = refl
ruled command_name.Why = refl

separate : (command : CommandName) → is_separate (app_by command) ≡ true
unfolding trace_app whole_app node_app source_app check_app why_app
separate command_name.Trace = refl
separate command_name.Whole = refl
separate command_name.Node = refl
separate command_name.Source = refl
separate command_name.Check = refl
separate command_name.Why = refl

pub meets : (command : CommandName) (made : Command) (m : ArgMatches) → app_of made ≡ app_by command → IsParsedFrom made m
    → MeetsRules (app_by command) m
meets command made m is parsed = meets_rules made (app_by command) m is (separate command) parsed

-- ---- one argument

found_holds : (P : Rule → Type 0) (test : Rule → Bool) (rules : List Rule) (rule : Rule) → All P rules → find test rules ≡ Some rule → P rule
found_holds P test [] rule all is = cc
found_holds P test (first ∷ rules) rule all is =
    at (test first) is (all 0 first (omega arith)) (found_holds P test rules rule (λ k d lt. all (suc k) d (omega (arith, lt))))
  where
    at : (b : Bool) → cond b (Some first) (find test rules) ≡ Some rule → P first → (find test rules ≡ Some rule → P rule) → P rule
    at true here holds later = subst P (ap (λ (o : Option Rule). unwrap_or o first) here) holds
    at false there holds later = later there

-- the command has the argument with this rule
abbrev pub takes_one : App → Rule → Type 0
takes_one app rule = find (λ other. bytes_eq other.id rule.id) app.top.rules ≡ Some rule

-- an argument that must be given, or has a default, has a value
pub has_value : (app : App) (rule : Rule) (m : ArgMatches) → takes_one app rule → always_has_value rule ≡ true → MeetsRules app m
    → HasValue rule.id m
has_value app rule m takes always meets = (found_holds (MeetsRule m) _ app.top.rules rule meets takes).0 always

-- each value of an argument with a parser passed it
pub passed : (app : App) (rule : Rule) (parser : ValueParser) (m : ArgMatches) → takes_one app rule → rule.parser ≡ Some parser → MeetsRules app m
    → Passes rule.ignore_case parser rule.id m
passed app rule parser m takes has meets = (found_holds (MeetsRule m) _ app.top.rules rule meets takes).1 parser has
