-- Rows of variables that have none.
use Rattle.std.proofs.Common.{◌≡◌, ◌≢◌, ℕ, zero, suc, ◌+◌, ◌-◌, Bool, true, false, cond, ◌||◌, List, [], ◌∷◌, ◌++◌, take, Option, Some, None, refl, sym, ap, ap₂, ◌∙◌, subst}
use Rattle.std.specs.Prelude.{nat_eq, slice_get}
use Rattle.std.specs.List.{AllByRecursion, list_any}
use Rattle.std.proofs.lemmas.Bool.{eqb-true}
use Rattle.std.proofs.lemmas.List.Elements.{All-from_recursion, All-contains}
use Rattle.rp_words.specs.declared.form.Form.{Form}
use Rattle.rp_words.specs.declared.word.Label.{Label}
use Rattle.rp_words.specs.Mapping.{labels_of}
use Rattle.rp_words.specs.Words.{words}
use Rattle.rp_words.proofs.Lists.{All-append}
use Rattle.rp_query.specs.declared.plan.Edge.{Edge}
use Rattle.rp_query.specs.declared.plan.Edge.TheVariants.{First, Last}
use Rattle.rp_query.specs.declared.plan.Function.{Function}
use Rattle.rp_query.specs.declared.plan.Function.TheVariants as function
use Rattle.rp_query.specs.declared.plan.RowsOf.{RowsOf}
use Rattle.rp_query.specs.declared.plan.RowsOf.TheVariants.{Universal, Listed}
use Rattle.rp_query.specs.declared.plan.Total.{Total}
use Rattle.rp_query.specs.declared.plan.Variables.{Variables}
use Rattle.rp_query.specs.declared.plan.Variables.TheVariants as variables
use Rattle.rp_query.specs.Formulas.{members_of}
use Rattle.rp_query.specs.Scopes.{includes}
use Rattle.rp_eval.specs.Locality.{at_last}
use Rattle.rp_eval.specs.Mapped.{rows_of, place_in, listed}
use Rattle.rp_eval.specs.ValueOf.{Setting, seen_labels, rows_listed, rows_among, cell_from}
use Rattle.rp_describe.specs.Precedes.{NoneIsOf, NoneComesBefore, BeginsWord}
use Rattle.rp_describe.specs.Missing.{IsMissing, members_in, goes_among}
use Rattle.rp_describe.specs.MissingLaws.{MissingAreNull}

differs : (a b : ℕ) → b ≢ a → nat_eq a b ≡ false
differs a b ne = go (nat_eq a b) refl
  where
    go : (x : Bool) → nat_eq a b ≡ x → x ≡ false
    go true e = absurd (ne (sym (eqb-true a b e)))
    go false e = refl

-- this variable is none of the members
abbrev IsNone : List ℕ → ℕ → Type 0
IsNone ms var = AllByRecursion (λ m. m ≢ var) ms

not_among : (ms : List ℕ) (var : ℕ) → IsNone ms var → list_any (nat_eq var) ms ≡ false
not_among [] var none = refl
not_among (m ∷ ms) var none = ap₂ (λ a b. a || b) (differs var m none.0) (not_among ms var none.1)

not_included : (vs : Variables) (ms : List ℕ) (var : ℕ) → members_of vs ≡ Some ms → IsNone ms var → includes vs var ≡ false
not_included variables.Universal ms var is none = absurd (cc)
not_included (variables.Among members) ms var is none =
    let same : members.items ≡ ms = cc in
    ap (list_any (nat_eq var)) same ∙ not_among ms var none

no_rows : (vs : Variables) (row : ℕ) (ls : List Label) → AllByRecursion (λ l. includes vs l.var ≡ false) ls → rows_of vs row ls ≡ []
no_rows vs row [] none = refl
no_rows vs row (l ∷ ls) none =
    ap (λ b. cond b (row ∷ rows_of vs (row + 1) ls) (rows_of vs (row + 1) ls)) none.0 ∙ no_rows vs (row + 1) ls none.1

first_labels : (P : Label → Type 0) (k : ℕ) (ls : List Label) → AllByRecursion P ls → AllByRecursion P (take k ls)
first_labels P zero ls all = tt
first_labels P (suc k) [] all = tt
first_labels P (suc k) (l ∷ ls) all = (all.0, first_labels P k ls all.1)

seen_too : (P : Label → Type 0) (s : Setting) (is_final : Bool) → AllByRecursion P s.labels → AllByRecursion P (seen_labels s is_final)
seen_too P s true all = all
seen_too P s false all = first_labels P (s.current + 1 - s.start) s.labels all

nothing_listed : (f : Function) → listed f [] ≡ []
nothing_listed function.Listed = refl
nothing_listed function.Rows = refl
nothing_listed (function.Count c) = refl
nothing_listed (function.Sum c) = refl
nothing_listed (function.Least c) = refl
nothing_listed (function.Greatest c) = refl

nowhere : (edge : Edge) (places : ℕ) → place_in edge places [] ≡ None
nowhere First places = refl
nowhere Last places = refl

-- ---- what comes before a row of the variable

behind : (v : ℕ) (ls : List Label) (label : Label) (after : List Label) → label.var ≡ v → NoneIsOf v (ls ++ label ∷ after) → ⊥
behind v [] label after is none = none.0 is
behind v (l ∷ ls) label after is none = behind v ls label after is none.1

none_there : (v u : ℕ) (ls : List Label) (label : Label) (after : List Label) → label.var ≡ u → NoneComesBefore v u (ls ++ label ∷ after) → NoneIsOf v ls
none_there v u [] label after is none = tt
none_there v u (l ∷ ls) label after is none = ((λ same. behind u ls label after is (none.0 same)), none_there v u ls label after is none.1)

next_label : (ls : List Label) (label : Label) (after : List Label) → (ls ++ label ∷ []) ++ after ≡ ls ++ label ∷ after
next_label [] label after = refl
next_label (l ∷ ls) label after = ap (λ rest. l ∷ rest) (next_label ls label after)

heads : (ms : List ℕ) (l : Label) (ls : List Label) → AllByRecursion (λ m. NoneIsOf m (l ∷ ls)) ms → IsNone ms l.var
heads [] l ls all = tt
heads (m ∷ ms) l ls all = ((λ same. all.0.0 (sym same)), heads ms l ls all.1)

tails : (ms : List ℕ) (l : Label) (ls : List Label) → AllByRecursion (λ m. NoneIsOf m (l ∷ ls)) ms → AllByRecursion (λ m. NoneIsOf m ls) ms
tails [] l ls all = tt
tails (m ∷ ms) l ls all = (all.0.1, tails ms l ls all.1)

each_label : (ms : List ℕ) (ls : List Label) → AllByRecursion (λ m. NoneIsOf m ls) ms → AllByRecursion (λ l. IsNone ms l.var) ls
each_label ms [] all = tt
each_label ms (l ∷ ls) all = (heads ms l ls all, each_label ms ls (tails ms l ls all))

all_weaker : {X : Type 0} (P R : X → Type 0) → ((x : X) → P x → R x) → (xs : List X) → AllByRecursion P xs → AllByRecursion R xs
all_weaker P R h [] a = tt
all_weaker P R h (x ∷ xs) a = (h x a.0, all_weaker P R h xs a.1)

module _ (f : Form) (variable : ℕ) (start : ℕ) (before : List Label) (label : Label) (is : label.var ≡ variable) (begins : BeginsWord f start (before ++ label ∷ [])) where
  none_before : (m : ℕ) → IsMissing f variable m → NoneIsOf m before
  none_before m missing =
      let ws = words begins.rows begins.ending f start in
      let holds = All-contains (λ x. NoneComesBefore m variable (labels_of x)) ws begins.word
      (All-from_recursion (λ x. NoneComesBefore m variable (labels_of x)) ws (missing.1 begins.rows begins.ending start)) begins.listed in
      none_there m variable before label begins.after is (subst (NoneComesBefore m variable) (begins.labels_are ∙ next_label before label begins.after) holds)

  each_none : (ms : List ℕ) → AllByRecursion (IsMissing f variable) ms → AllByRecursion (λ l. IsNone ms l.var) (before ++ label ∷ [])
  each_none ms missing =
      All-append (λ l. IsNone ms l.var) before (label ∷ []) (each_label ms before (all_weaker (IsMissing f variable) (λ m. NoneIsOf m before) none_before ms missing))
      (all_weaker (IsMissing f variable) (λ m. m ≢ label.var) (λ m h same. h.0 (same ∙ is)) ms missing, tt)

  none_listed : (s : Setting) (is_final : Bool) (t : Total) (ms : List ℕ) → members_of t.variables ≡ Some ms → AllByRecursion (IsMissing f variable) ms →
      rows_listed (at_last s start before label) is_final (Some t) ≡ []
  none_listed s is_final t ms among missing =
      let all = all_weaker (λ l. IsNone ms l.var) (λ l. includes t.variables l.var ≡ false) (λ l none. not_included t.variables ms l.var among none) (before ++ label ∷ []) (each_none ms missing) in
      ap (listed t.function) (no_rows t.variables start (seen_labels (at_last s start before label) is_final) (seen_too (λ l. includes t.variables l.var ≡ false) (at_last s start before label) is_final all))
      ∙ nothing_listed t.function

  none_by : (s : Setting) (is_final : Bool) (o : Option Total) (ms : List ℕ) → members_in o ≡ Some ms → AllByRecursion (IsMissing f variable) ms →
      rows_listed (at_last s start before label) is_final o ≡ []
  none_by s is_final None ms among missing = absurd (cc)
  none_by s is_final (Some t) ms among missing = none_listed s is_final t ms among missing

  none_among : (s : Setting) (is_final : Bool) (r : RowsOf) (ms : List ℕ) → goes_among s.totals r ≡ Some ms → AllByRecursion (IsMissing f variable) ms →
      rows_among (at_last s start before label) is_final r ≡ []
  none_among s is_final Universal ms among missing = absurd (cc)
  none_among s is_final (Listed number) ms among missing = none_by s is_final (slice_get s.totals number) ms among missing

pub missing_are_null : MissingAreNull
missing_are_null f s variable other n missing start before label is begins =
    ap (λ rows. cell_from s.rows s.ending n.column n.step (place_in n.edge n.places rows))
    (none_among f variable start before label is begins s n.is_final n.rows_of (other ∷ missing.others) missing.among missing.missing)
    ∙ ap (cell_from s.rows s.ending n.column n.step) (nowhere n.edge n.places)
