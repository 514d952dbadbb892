-- What holds of the values that a parse found, by the rules of the command's arguments.
use Rattle.std.proofs.Common.{◌≡◌, ◌∙◌, ◌<◌, ◌≤◌, ◌&&◌, ◌||◌, ℕ, Bool, true, false, not, zero, suc, List, [], ◌∷◌, map, length, Option, Some, None, is_some, refl, sym, ap, subst, inl, inr, arith, codes, true≢false}
use Rattle.std.specs.Prelude.{find, option_and_then, option_map, slice_get, unwrap_or}
use Rattle.std.specs.Borrow.{Bor}
use Rattle.std.specs.List.{All, list_all, slice_index_or}
use Rattle.std.specs.Str.{bytes_eq}
use Rattle.std.proofs.lemmas.Bool.{leb-true}
use Rattle.std.proofs.lemmas.Slice.Eq.{bytes_eq-Decides}
use Rattle.clap.proofs.CallerLemmas.{default_present, entry_by_id, present_has_entry, required_present, same_rules_by_id}
use Rattle.clap.proofs.SimpleLemmas.{is_false, is_nil, plain_fields}
use Rattle.clap.proofs.WalkLemmas.{both}
use Rattle.clap.specs.Built.{IsAuto, IsParsedFrom, IsPlain, IsPlainArg, SameRules}
use Rattle.clap.specs.Facts.{Entry, EntryPasses, HasId, PassesArg, ValuesPass, WantsDefault, args_of, groups_of, least_values, parser_of, parser_of_value}
use Rattle.clap.specs.Matches.{first_value, found_of, matched_of, one_text}
use Rattle.clap.specs.Simple.{App, app_of}
use Rattle.clap.specs.Texts.{items_of}
use Rattle.clap.specs.Values.{Accepts, read_as, reading_of}
use Rattle.clap.specs.Walk.{Rule, Text, is_empty, is_simple_arg, rule_of}
use Rattle.clap.specs.declared.builder.action.ArgAction.{ArgAction}
use Rattle.clap.specs.declared.builder.action.ArgAction.TheVariants.{Count, Set}
use Rattle.clap.specs.declared.builder.arg.Arg.{Arg}
use Rattle.clap.specs.declared.builder.command.Command.{Command}
use Rattle.clap.specs.declared.builder.command.Command.TheViews.{out-Command}
use Rattle.clap.specs.declared.builder.value_parser.Reading.{Reading}
use Rattle.clap.specs.declared.builder.value_parser.ValueParser.{ValueParser}
use Rattle.clap.specs.declared.parser.matches.ArgMatches.{ArgMatches}
use Rattle.clap.specs.declared.parser.matches.Found.{Found}
use Rattle.clap.specs.declared.parser.matches.MatchedArg.{MatchedArg}
use Rattle.rp_command.specs.Values.{MeetsRule, MeetsRules, always_has_value, is_set}

-- ---- what is asked of a command's rules

-- the argument has a name, which clap gives to none of its own
abbrev is_own : Text → Bool
is_own id = not (is_empty id) && (not (bytes_eq id (codes "help")) && not (bytes_eq id (codes "version")))

-- the argument is one of which clap's function tells the values, and has no rule on another
abbrev is_alone : Rule → Bool
is_alone rule = rule.is_simple && (rule.is_free && is_own rule.id)

abbrev has_distinct_ids : List Rule → Bool
has_distinct_ids [] = true
has_distinct_ids (rule ∷ rules) = list_all (λ other. not (bytes_eq other.id rule.id)) rules && has_distinct_ids rules

-- each argument stands alone, under an id of its own
abbrev pub is_separate : App → Bool
is_separate app = app.top.is_plain
    && (not app.top.subcommand_negates_reqs && (list_all is_alone app.top.rules && has_distinct_ids app.top.rules))

-- ---- from rules to arguments

each_rule : (p : Rule → Bool) (xs : List Arg) → list_all p (map rule_of xs) ≡ true → All (λ a. p (rule_of a) ≡ true) xs
each_rule p [] e k d lt = absurd (omega (arith, lt))
each_rule p (x ∷ xs) e zero d lt = (both _ _ e).0
each_rule p (x ∷ xs) e (suc k) d lt = each_rule p xs (both _ _ e).1 k d (omega (arith, lt))

all_mapped : (P : Rule → Type 0) (xs : List Arg) → All (λ a. P (rule_of a)) xs → All P (map rule_of xs)
all_mapped P [] h k d lt = absurd (omega (arith, lt))
all_mapped P (x ∷ xs) h zero d lt = h 0 x (omega arith)
all_mapped P (x ∷ xs) h (suc k) d lt = all_mapped P xs (λ j e l. h (suc j) e (omega (arith, l))) k d (omega (arith, lt))

is_none : {X : Type 0} (o : Option X) → not (is_some o) ≡ true → o ≡ None
is_none None e = refl
is_none (Some x) e = absurd (true≢false (sym e))

differs : (s t : Text) → not (bytes_eq s t) ≡ true → s ≡ t → ⊥
differs s t e same = absurd (true≢false (sym ((bytes_eq-Decides s t).1 same) ∙ is_false _ e))

distinct : (xs : List Arg) → has_distinct_ids (map rule_of xs) ≡ true → (j k : ℕ) (e d : Arg) → j < length xs → k < length xs
    → (slice_index_or xs j e).id.now ≡ (slice_index_or xs k d).id.now → j ≡ k
distinct [] h j k e d low high same = absurd (omega (arith, low))
distinct (x ∷ xs) h zero zero e d low high same = refl
distinct (x ∷ xs) h zero (suc k) e d low high same =
    absurd (differs _ _ (each_rule (λ other. not (bytes_eq other.id x.id.now)) xs (both _ _ h).0 k d (omega (arith, high))) (sym same))
distinct (x ∷ xs) h (suc j) zero e d low high same =
    absurd (differs _ _ (each_rule (λ other. not (bytes_eq other.id x.id.now)) xs (both _ _ h).0 j e (omega (arith, low))) same)
distinct (x ∷ xs) h (suc j) (suc k) e d low high same = ap suc (distinct xs (both _ _ h).1 j k e d (omega (arith, low)) (omega (arith, high)) same)

-- what a rule's test tells of an argument
simple_facts : (a : Arg) → is_simple_arg a ≡ true → (a.overrides.items ≡ []) × (a.default_vals_ifs.items ≡ []) × (a.groups.items ≡ []) × (a.val_delim ≡ None)
simple_facts a simple =
    let s = both _ _ simple in
    let t = both _ _ s.1 in
    let u = both _ _ t.1 in
    let v = both _ _ u.1 in
    (is_nil _ s.0, is_nil _ t.0, is_nil _ u.0, is_none _ v.0)

plain_arg : (a : Arg) → is_alone (rule_of a) ≡ true → IsPlainArg a
plain_arg a h =
    let s = both _ _ h in
    let facts = simple_facts a s.0 in
    let free = both _ _ s.1 in
    let f = both _ _ free.0 in
    let g = both _ _ f.1 in
    (is_false _ f.0, is_nil _ g.0, facts.0, facts.2)

alone_is_own : (a : Arg) → is_alone (rule_of a) ≡ true → is_own a.id.now ≡ true
alone_is_own a h =
    let s = both _ _ h in
    (both _ _ s.1).1

named : (a : Arg) → is_own a.id.now ≡ true → a.id.now ≡ [] → ⊥
named a own none = absurd (true≢false (sym (ap is_empty none) ∙ is_false _ (both _ _ own).0))

not_auto : (a : Arg) → is_own a.id.now ≡ true → IsAuto a → ⊥
not_auto a own auto =
    let other = both _ _ own in
    let each = both _ _ other.1 in
    elim auto [
      | inl help ↦ differs _ _ each.0 help
      | inr version ↦ differs _ _ each.1 version
    ]

-- what clap's lemmas ask of a command whose arguments are separate
record IsSeparate (cmd : Command) : Type 0 where
  plain : IsPlain cmd
  globals : (out-Command cmd).has_globals ≡ false
  negates : (out-Command cmd).subcommand_negates_reqs ≡ false
  alone : All (λ a. is_alone (rule_of a) ≡ true) (args_of cmd)
  unique : (j k : ℕ) (e d : Arg) → j < length (args_of cmd) → k < length (args_of cmd)
      → (slice_index_or (args_of cmd) j e).id.now ≡ (slice_index_or (args_of cmd) k d).id.now → j ≡ k

separate : (cmd : Command) → is_separate (app_of cmd) ≡ true → IsSeparate cmd
separate cmd h =
    let s = both _ _ h in
    let t = both _ _ s.1 in
    let u = both _ _ t.1 in
    let fields = plain_fields cmd s.0 in
    let alone = each_rule is_alone (args_of cmd) u.0 in
    record {
      plain = ((λ k d lt. plain_arg (slice_index_or (args_of cmd) k d) (alone k d lt)), fields.groups);
      globals = fields.globals;
      negates = is_false _ t.0;
      alone = alone;
      unique = distinct (args_of cmd) u.1;
    }

-- ---- what clap's lemmas say of one argument

record IsHeld (built : Command) (f : Found) (a : Arg) : Type 0 where
  alone : is_alone (rule_of a) ≡ true
  kept : (j : ℕ) (x : Arg) → j < length (args_of built) → slice_index_or (args_of built) j x ≡ x
      → bytes_eq x.id.now a.id.now ≡ true → SameRules a x
  groups : groups_of built ≡ []
  values : ValuesPass built f
  required : a.required ≡ true → is_some (matched_of f a.id.now) ≡ true
  default : WantsDefault a → HasId f a.id.now

held : (cmd : Command) (m : ArgMatches) (p : IsParsedFrom cmd m) → IsSeparate cmd → (k : ℕ) (d : Arg) → k < length (args_of cmd)
    → IsHeld p.built (found_of m) (slice_index_or (args_of cmd) k d)
held cmd m p s k d lt =
    let a = slice_index_or (args_of cmd) k d in
    record {
      alone = s.alone k d lt;
      kept = same_rules_by_id cmd m p k d lt (λ j e low same. s.unique j k e d low lt ((bytes_eq-Decides _ _).0 same)) (not_auto a (alone_is_own a (s.alone k d lt)));
      groups = (p.from.plain s.plain).1;
      values = (p.parsed (p.from.globals ∙ s.globals)).values;
      required = λ r. present_has_entry (found_of m) a.id.now (required_present cmd m p s.plain s.globals s.negates k d lt r);
      default = default_present cmd m p s.globals k d lt;
    }

no_group : (built : Command) (f : Found) (a : Arg) (e : Entry) → IsHeld built f a → EntryPasses built e → e.0.now ≡ a.id.now → e.1.is_group ≡ true → ⊥
no_group built f a e h pass key g = elim (pass.3 g) [
  | inl none ↦ named a (alone_is_own a h.alone) (sym key ∙ none)
  | inr some ↦
      let bad : 0 < 0 = subst (λ gs. 0 < length gs) h.groups some in
      absurd (omega (arith, bad))
]

-- ---- an argument that must be given, or has a default, has a value

at_first : (x : Entry) (xs : List Entry) (id : Text) (b : Bool) → bytes_eq x.0.now id ≡ b
    → (b ≡ false → is_some (option_map (λ e. e.1) (find (λ e. bytes_eq e.0.now id) xs)) ≡ true)
    → is_some (option_map (λ e. e.1) (find (λ e. bytes_eq e.0.now id) (x ∷ xs))) ≡ true
at_first x xs id true is rest = rw is refl
at_first x xs id false is rest = rw is (rest refl)

has_entry : (xs : List Entry) (id : Text) (k : ℕ) → k < length xs → ((d : Entry) → bytes_eq (slice_index_or xs k d).0.now id ≡ true)
    → is_some (option_map (λ e. e.1) (find (λ e. bytes_eq e.0.now id) xs)) ≡ true
has_entry [] id k lt at = absurd (omega (arith, lt))
has_entry (x ∷ xs) id zero lt at = at_first x xs id true (at x) (λ bad. absurd (true≢false bad))
has_entry (x ∷ xs) id (suc k) lt at = at_first x xs id (bytes_eq x.0.now id) refl (λ no. has_entry xs id k (omega (arith, lt)) at)

some_text : (vs : List (Bor Text)) → not (is_empty (map (λ s. s.now) vs)) ≡ true → 0 < length vs
some_text [] some = absurd (true≢false (sym some))
some_text (v ∷ vs) some = omega arith

entry_there : (built : Command) (f : Found) (a : Arg) → IsHeld built f a → (a.required || not (is_empty (rule_of a).defaults)) ≡ true
    → is_some (matched_of f a.id.now) ≡ true
entry_there built f a h always = go a.required refl always
  where
    go : (b : Bool) → a.required ≡ b → (b || not (is_empty (rule_of a).defaults)) ≡ true → is_some (matched_of f a.id.now) ≡ true
    go true is always = h.required is
    go false is always =
        let has = h.default ((simple_facts a (both _ _ h.alone).0).1, some_text (items_of a.default_vals) always) in
        has_entry f.entries.items a.id.now has.0 has.1 has.2

value_there : (built : Command) (f : Found) (a : Arg) (e : Entry) → IsHeld built f a → EntryPasses built e → e.0.now ≡ a.id.now
    → a.action ≡ Some Set → 1 ≤ least_values a → 0 < length e.1.vals.items
value_there built f a e h pass key set least = elim pass.1 [
  | inl g ↦ absurd (no_group built f a e h pass key g.0)
  | inr (inl v) ↦ v
  | inr (inr (inl c)) ↦
      let any = c.1 in
      let s = h.kept any.0 any.1 any.2 any.3 (subst (λ id. bytes_eq any.1.id.now id ≡ true) key any.4.0) in
      let bad : Set ≡ Count = ap (λ (o : Option ArgAction). unwrap_or o Set) (sym (s.action Set set)) ∙ any.4.1 in
      cc
  | inr (inr (inr any)) ↦
      let s = h.kept any.0 any.1 any.2 any.3 (subst (λ id. bytes_eq any.1.id.now id ≡ true) key any.4.0) in
      elim any.4.1 [
        | inl none ↦
            let one = s.least set least in
            absurd (omega (arith, one, none))
        | inr some ↦
            let none : is_some any.1.val_delim ≡ false = ap is_some (s.val_delim ∙ (simple_facts a (both _ _ h.alone).0).3) in
            absurd (true≢false (sym some ∙ none))
      ]
]

first_some : (vs : List (Bor Text)) → 0 < length vs → is_some (option_map (λ s. s.now) (slice_get vs 0)) ≡ true
first_some [] some = absurd (omega (arith, some))
first_some (v ∷ vs) some = refl

filled : (built : Command) (f : Found) (a : Arg) → IsHeld built f a → a.action ≡ Some Set → 1 ≤ least_values a
    → is_some (matched_of f a.id.now) ≡ true → is_some (first_value f a.id.now) ≡ true
filled built f a h set least some = go (matched_of f a.id.now) refl some
  where
    go : (o : Option MatchedArg) → matched_of f a.id.now ≡ o → is_some o ≡ true → is_some (first_value f a.id.now) ≡ true
    go None e some = absurd (true≢false (sym some))
    go (Some x) e some =
        let got = entry_by_id (EntryPasses built) f.entries.items a.id.now x h.values e in
        let there = value_there built f a got.0 h got.3 ((bytes_eq-Decides _ _).0 got.2) set least in
        rw e (first_some x.vals.items (subst (λ (y : MatchedArg). 0 < length y.vals.items) got.1 there))

set_is : (o : Option ArgAction) → is_set o ≡ true → o ≡ Some Set
set_is None h = absurd (true≢false (sym h))
set_is (Some Set) h = refl
set_is (Some x) h = absurd (true≢false (sym h))

has_value : (built : Command) (f : Found) (a : Arg) → IsHeld built f a → always_has_value (rule_of a) ≡ true → is_some (first_value f a.id.now) ≡ true
has_value built f a h always =
    let parts = both _ _ always in
    let one = both _ _ parts.1 in
    filled built f a h (set_is a.action one.0) (leb-true _ _ one.1) (entry_there built f a h parts.0)

-- ---- each value passed the parser of its argument

first_passes : (P : Text → Type 0) (vs : List (Bor Text)) (text : Text) → All (λ v. P v.now) vs
    → option_map (λ s. s.now) (slice_get vs 0) ≡ Some text → P text
first_passes P [] text all is = cc
first_passes P (v ∷ vs) text all is = subst P (ap (λ (o : Option Text). unwrap_or o []) is) (all 0 v (omega arith))

read_first : (vs : List (Bor Text)) (text : Text) (how : Reading) → option_map (λ s. s.now) (slice_get vs 0) ≡ Some text
    → option_map (λ s. read_as how s.now) (slice_get vs 0) ≡ Some (read_as how text)
read_first [] text how is = cc
read_first (v ∷ vs) text how is = ap (λ (o : Option Text). Some (read_as how (unwrap_or o []))) is

accepted : (a y : Arg) (q : ValueParser) (text : Text) → SameRules a y → a.value_parser ≡ Some q
    → Accepts y.ignore_case (parser_of y) text → Accepts a.ignore_case q text
accepted a y q text s parser passed =
    subst (λ (b : Bool). Accepts b q text) s.ignore_case
    (subst (λ (w : ValueParser). Accepts y.ignore_case w text) (ap parser_of_value (s.parser q parser)) passed)

entry_passes : (built : Command) (f : Found) (a : Arg) (q : ValueParser) (text : Text) (e : Entry) → IsHeld built f a → a.value_parser ≡ Some q
    → EntryPasses built e → e.0.now ≡ a.id.now → option_map (λ s. s.now) (slice_get e.1.vals.items 0) ≡ Some text
    → Accepts a.ignore_case q text × (e.1.reading ≡ reading_of q)
entry_passes built f a q text e h parser pass key is = (
  elim pass.0 [
    | inl g ↦ absurd (no_group built f a e h pass key g)
    | inr all ↦
        let any = first_passes (PassesArg built e.0.now) e.1.vals.items text all is in
        accepted a any.1 q text (h.kept any.0 any.1 any.2 any.3 (subst (λ id. bytes_eq any.1.id.now id ≡ true) key any.4.0)) parser any.4.1
  ],
  elim pass.4 [
    | inl g ↦ absurd (no_group built f a e h pass key g)
    | inr any ↦
        let s = h.kept any.0 any.1 any.2 any.3 (subst (λ id. bytes_eq any.1.id.now id ≡ true) key any.4.0) in
        sym any.4.1 ∙ ap (λ (o : Option ValueParser). reading_of (parser_of_value o)) (s.parser q parser)
  ],
)

passes : (built : Command) (f : Found) (a : Arg) (q : ValueParser) (text : Text) → IsHeld built f a → a.value_parser ≡ Some q
    → first_value f a.id.now ≡ Some text → Accepts a.ignore_case q text × (one_text f a.id.now ≡ Some (read_as (reading_of q) text))
passes built f a q text h parser is = go (matched_of f a.id.now) refl is
  where
    go : (o : Option MatchedArg) → matched_of f a.id.now ≡ o → option_and_then (λ x. option_map (λ s. s.now) (slice_get x.vals.items 0)) o ≡ Some text
        → Accepts a.ignore_case q text × (one_text f a.id.now ≡ Some (read_as (reading_of q) text))
    go None e is = cc
    go (Some x) e is =
        let got = entry_by_id (EntryPasses built) f.entries.items a.id.now x h.values e in
        let first : option_map (λ s. s.now) (slice_get got.0.1.vals.items 0) ≡ Some text = rw got.1 is in
        let both = entry_passes built f a q text got.0 h parser got.3 ((bytes_eq-Decides _ _).0 got.2) first in
        let how : x.reading ≡ reading_of q = ap (λ (y : MatchedArg). y.reading) (sym got.1) ∙ both.1 in
        (both.0, rw (e, how) (read_first x.vals.items text (reading_of q) is))

-- ---- all rules

meets : (cmd : Command) (m : ArgMatches) → IsSeparate cmd → (p : IsParsedFrom cmd m) → MeetsRules (app_of cmd) m
meets cmd m s p = all_mapped (MeetsRule m) (args_of cmd) (λ k d lt.
    let a = slice_index_or (args_of cmd) k d in
    let h = held cmd m p s k d lt in
    (has_value p.built (found_of m) a h, λ q parser text is. passes p.built (found_of m) a q text h parser is))

-- a parse of a command with the rules of an app meets these
pub meets_rules : (cmd : Command) (app : App) (m : ArgMatches) → app_of cmd ≡ app → is_separate app ≡ true → IsParsedFrom cmd m → MeetsRules app m
meets_rules cmd app m is h p = subst (λ (a : App). MeetsRules a m) is (meets cmd m (separate cmd (ap is_separate is ∙ h)) p)
