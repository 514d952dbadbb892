-- The values of a job's arguments, in what clap makes of the words.
use Rattle.std.specs.Prelude.{◌≡◌, ◌&&◌, ◌<◌, ◌≤◌, ◌||◌, ℕ, Bool, true, false, not, List, [], Option, Some, None, codes, is_some, length, nat_le, pos, unwrap_or}
use Rattle.std.specs.List.{All}
use Rattle.std.specs.Str.Parse.{IsNumeral, digits_value, without_leading_plus}
use Rattle.clap.specs.Facts.{unwrap_or_range}
use Rattle.clap.specs.Walk.{is_empty}
use Rattle.clap.specs.Words.{Accepts, App, Row, Rule, Text, all_of, first_of, first_value, found_of, one_text, read_as, reading_of}
use Rattle.clap.specs.declared.builder.action.ArgAction.{ArgAction}
use Rattle.clap.specs.declared.builder.action.ArgAction.TheVariants.{Set}
use Rattle.clap.specs.declared.builder.value_parser.ValueParser.{ValueParser}
use Rattle.clap.specs.declared.builder.value_parser.ValueParser.TheVariants.{Signed}
use Rattle.clap.specs.declared.parser.matches.ArgMatches.{ArgMatches}

-- the value of an argument
abbrev pub HasText : List Row → Text → Text → Type 0
HasText rows id text = first_of id rows ≡ Some text

-- the value of an argument, or none where the argument has no value
abbrev pub HasTextIfAny : List Row → Text → Option Text → Type 0
HasTextIfAny rows id text = first_of id rows ≡ text

-- the value of an argument is the word for none of these
abbrev pub HasOther : {A : Type 0} → List Row → Text → (A → Text) → Type 0
HasOther {A} rows id word = (text : Text) × HasText rows id text × ((one : A) → text ≡ word one → ⊥)

-- the values of an argument, one at least
abbrev pub HasTexts : List Row → Text → List Text → Type 0
HasTexts rows id texts = (all_of id rows ≡ Some texts) × (0 < length texts)

-- the values of an argument, none where it has none
abbrev pub HasTextsIfAny : List Row → Text → List Text → Type 0
HasTextsIfAny rows id texts = texts ≡ unwrap_or (all_of id rows) []

-- the text is the number in decimal digits, perhaps after a plus sign
abbrev pub ReadsAs : Text → ℕ → Type 0
ReadsAs text number =
    IsNumeral 10 (without_leading_plus text) × (number ≡ digits_value 10 (without_leading_plus text))

-- the value of an argument is a number from 1 to 4,294,967,295
abbrev pub HasNumber : List Row → Text → ℕ → Type 0
HasNumber rows id number =
    (text : Text) × HasText rows id text × ReadsAs text number × (1 ≤ number) × (number ≤ 4294967295)

-- the number of an argument, or none where the argument has no value
abbrev pub HasNumberIfAny : List Row → Text → Option ℕ → Type 0
HasNumberIfAny rows id None = first_of id rows ≡ None
HasNumberIfAny rows id (Some number) = HasNumber rows id number

-- a flag is set where its value is the word `true`, and only there
abbrev pub HasFlag : List Row → Text → Bool → Type 0
HasFlag rows id true = HasText rows id (codes "true")
HasFlag rows id false = HasText rows id (codes "true") → ⊥

-- ---- what a parse has found, by the rules of the command's arguments

-- numbers from 1 to 4,294,967,295
abbrev pub number_parser : ValueParser
number_parser = Signed (pos 1) (pos 4294967295)

-- the argument has a value
abbrev pub HasValue : Text → ArgMatches → Type 0
HasValue id matches = is_some (first_value (found_of matches) id) ≡ true

-- the value of the argument, where it has one, passed the parser and is read as that says
abbrev pub Passes : Bool → ValueParser → Text → ArgMatches → Type 0
Passes ignore_case parser id matches = (text : Text) → first_value (found_of matches) id ≡ Some text
    → Accepts ignore_case parser text × (one_text (found_of matches) id ≡ Some (read_as (reading_of parser) text))

abbrev pub is_set : Option ArgAction → Bool
is_set (Some Set) = true
is_set _ = false

-- the argument must be given, or has a default, and each use has a value
abbrev pub always_has_value : Rule → Bool
always_has_value rule = (rule.required || not (is_empty rule.defaults))
    && (is_set rule.action && nat_le 1 (unwrap_or_range rule.range).start_inclusive)

-- such an argument has a value, and a value passed the argument's parser
abbrev pub MeetsRule : ArgMatches → Rule → Type 0
MeetsRule matches rule = (always_has_value rule ≡ true → HasValue rule.id matches)
    × ((parser : ValueParser) → rule.parser ≡ Some parser → Passes rule.ignore_case parser rule.id matches)

abbrev pub MeetsRules : App → ArgMatches → Type 0
MeetsRules app matches = All (MeetsRule matches) app.top.rules
