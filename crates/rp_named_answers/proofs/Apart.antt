-- No two output columns of a clause without faults have one name.
use Rattle.std.proofs.Common.{◌≡◌, ◌∙◌, ℕ, ◌+◌, ◌<◌, Bool, true, false, ◌||◌, cond, List, [], ◌∷◌, ◌++◌, map, length, get_or, Option, Some, None, refl, sym, ap, subst, append_assoc, ⊎_elim, arith}
use Rattle.std.specs.Prelude.{Contains, is_some}
use Rattle.std.specs.Cmp.Lexicographic.{bytes_decides}
use Rattle.std.proofs.lemmas.Bool.{not-true}
use Rattle.std.proofs.lemmas.List.{append-nil, get_or-map, length-map, map-append}
use Rattle.std.proofs.lemmas.List.Elements.{Contains-get_or, Contains-append_cases, Contains-append_right, Contains-push_cases}
use Rattle.std.proofs.lemmas.List.Quantifiers.{position-Some}
use Rattle.rp_value.specs.Tables.{has_bad_name, has_double_name, has_name, table_fault}
use Rattle.rp_value.specs.declared.table.Column.{Column}
use Rattle.rp_value.specs.declared.table.TableFault.{TableFault}
use Rattle.rp_value.specs.declared.table.TableFault.TheVariants.{BadName, DoubleName as DoubleColumn}
use Rattle.rp_grammar.specs.declared.written.Name.{Name}
use Rattle.rp_tree.specs.Clauses.{ClauseTree, MeasureTree}
use Rattle.rp_tree.specs.declared.tree.RowsPerMatch.{RowsPerMatch}
use Rattle.rp_tree.specs.declared.tree.RowsPerMatch.TheVariants.{One, AllShowEmpty, AllOmitEmpty, AllWithUnmatched}
use Rattle.rp_query.specs.declared.query.OutputColumn.{OutputColumn}
use Rattle.rp_query.specs.declared.query.Source.TheVariants as source
use Rattle.rp_protocol.specs.ObjectsRead.{AreNamedApart, names_of}
use Rattle.rp_resolution.specs.Context.{Context, column_named, is_name}
use Rattle.rp_resolution.specs.Output.{in_order, key_columns, measure_columns, other_columns, output_of, texts}
use Rattle.rp_resolution.specs.PartFaults.{each, each_after, order_faults, output_faults, partition_faults, shown_names, unmatched_faults}
use Rattle.rp_resolution.specs.Variables.{is_among, variables_of}
use Rattle.rp_resolution.specs.declared.fault.CheckKind.TheVariants.{DoubleName, UnknownColumn}
use Rattle.rp_resolution.proofs.Clean.{holds, none_left, none_right}
use Rattle.rp_check.specs.ClauseFaults.{expression_faults, faults, listing_faults, name_faults, shown_faults}
use Rattle.rp_check.specs.QueryOf.{defining, measuring}
use Rattle.rp_named_answers.specs.NamedAnswers.{IsTable, NamesAreApart}
use Rattle.rp_named_answers.proofs.Fresh.{AreFresh, IsNone, is_none, none_of_both, fresh_both, distinct}

-- ---- tests that hold

either_false : (a b : Bool) → (a || b) ≡ false → (a ≡ false) × (b ≡ false)
either_false false b e = (refl, e)
either_false true b e = cc

-- the names of columns
abbrev columns_names : List Column → List (List ℕ)
columns_names columns = map (λ c. c.name) columns

abbrev measures_names : List MeasureTree → List (List ℕ)
measures_names ms = map (λ m. m.name.text) ms

-- all of these are among those
abbrev AreAmong : List (List ℕ) → List (List ℕ) → Type 0
AreAmong some names = (name : List ℕ) → Contains some name → Contains names name

-- none of these is among those
abbrev AreNone : List (List ℕ) → List (List ℕ) → Type 0
AreNone some names = (name : List ℕ) → Contains some name → IsNone names name

nothing_in : (name : List ℕ) → IsNone [] name
nothing_in name c = omega (arith, c.1)

cons_cases : (n : List ℕ) (ns : List (List ℕ)) (P : List ℕ → Type 0) → P n → ((name : List ℕ) → Contains ns name → P name) → (name : List ℕ) → Contains (n ∷ ns) name → P name
cons_cases n ns P here later name c =
    ⊎_elim (λ h. ⊎_elim (λ (g : Contains [] name). absurd (nothing_in name g)) (λ e. subst P e here) (Contains-push_cases [] n name h)) (later name) (Contains-append_cases (n ∷ []) ns name c)

-- ---- the columns of PARTITION BY and ORDER BY

-- a name that is a column's is among their names
found_at : (columns : List Column) (name : List ℕ) (i : ℕ) → column_named name columns ≡ Some i → Contains (columns_names columns) name
found_at [] name i e = cc
found_at (c ∷ cs) name i e =
    let at = position-Some (λ x. is_name name x.name) (c ∷ cs) i c e in
    let within : i < length (columns_names (c ∷ cs)) = rw (length-map (c ∷ cs) (λ x. x.name)) at.0 in
    subst (Contains (columns_names (c ∷ cs)))
    (get_or-map (λ x. x.name) (c ∷ cs) i c c.name at.0 ∙ (bytes_decides (get_or (c ∷ cs) i c).name name).0 at.1)
    (Contains-get_or (columns_names (c ∷ cs)) i c.name within)

known_column : (columns : List Column) (name : List ℕ) → is_some (column_named name columns) ≡ true → Contains (columns_names columns) name
known_column columns name = go (column_named name columns) refl
  where
    go : (o : Option ℕ) → column_named name columns ≡ o → is_some o ≡ true → Contains (columns_names columns) name
    go None is e = cc
    go (Some i) is e = found_at columns name i is

module _ (columns : List Column) where
  partition_fresh : (earlier ns : List Name) → each_after (partition_faults columns) earlier ns ≡ [] → AreFresh (texts earlier) (texts ns)
  partition_fresh earlier [] e = tt
  partition_fresh earlier (n ∷ ns) e =
      let here = none_left (partition_faults columns earlier n) _ e in
      let apart = not-true _ (holds _ DoubleName n.at (none_right _ _ here)) in (
        is_none (texts earlier) n.text apart,
        subst (λ names. AreFresh names (texts ns)) (map-append (λ (m : Name). m.text) earlier (n ∷ [])) (partition_fresh (earlier ++ n ∷ []) ns (none_right (partition_faults columns earlier n) _ e)),
      )

  partition_known : (earlier ns : List Name) → each_after (partition_faults columns) earlier ns ≡ [] → AreAmong (texts ns) (columns_names columns)
  partition_known earlier [] e = λ name c. absurd (nothing_in name c)
  partition_known earlier (n ∷ ns) e =
      let here = none_left (partition_faults columns earlier n) _ e in
      cons_cases n.text (texts ns) (Contains (columns_names columns)) (known_column columns n.text (holds _ UnknownColumn n.at (none_left _ _ here)))
      (partition_known (earlier ++ n ∷ []) ns (none_right (partition_faults columns earlier n) _ e))

  order_fresh : (partition earlier ns : List Name) → each_after (order_faults columns partition) earlier ns ≡ [] → AreFresh (texts partition ++ texts earlier) (texts ns)
  order_fresh partition earlier [] e = tt
  order_fresh partition earlier (n ∷ ns) e =
      let here = none_left (order_faults columns partition earlier n) _ e in
      let apart = either_false _ _ (not-true _ (holds _ DoubleName n.at (none_right _ _ here))) in (
        none_of_both (texts partition) (texts earlier) n.text (is_none (texts partition) n.text apart.0) (is_none (texts earlier) n.text apart.1),
        subst (λ names. AreFresh names (texts ns))
            (ap (λ names. texts partition ++ names) (map-append (λ (m : Name). m.text) earlier (n ∷ [])) ∙ sym (append_assoc (texts partition) (texts earlier) (n.text ∷ [])))
            (order_fresh partition (earlier ++ n ∷ []) ns (none_right (order_faults columns partition earlier n) _ e)),
      )

  order_known : (partition earlier ns : List Name) → each_after (order_faults columns partition) earlier ns ≡ [] → AreAmong (texts ns) (columns_names columns)
  order_known partition earlier [] e = λ name c. absurd (nothing_in name c)
  order_known partition earlier (n ∷ ns) e =
      let here = none_left (order_faults columns partition earlier n) _ e in
      cons_cases n.text (texts ns) (Contains (columns_names columns)) (known_column columns n.text (holds _ UnknownColumn n.at (none_left _ _ here)))
      (order_known partition (earlier ++ n ∷ []) ns (none_right (order_faults columns partition earlier n) _ e))

-- ---- measures

module _ (shown : List (List ℕ)) where
  measures_none : (earlier ms : List MeasureTree) → each_after (output_faults shown) earlier ms ≡ [] → AreNone (measures_names ms) shown
  measures_none earlier [] e = λ name c. absurd (nothing_in name c)
  measures_none earlier (m ∷ ms) e =
      let apart = either_false _ _ (not-true _ (holds _ DoubleName m.name.at (none_left (output_faults shown earlier m) _ e))) in
      cons_cases m.name.text (measures_names ms) (IsNone shown) (is_none shown m.name.text apart.0)
      (measures_none (earlier ++ m ∷ []) ms (none_right (output_faults shown earlier m) _ e))

  -- behind names that are among these
  measures_fresh : (before : List (List ℕ)) → AreAmong before shown → (earlier ms : List MeasureTree) → each_after (output_faults shown) earlier ms ≡ []
      → AreFresh (before ++ measures_names earlier) (measures_names ms)
  measures_fresh before among earlier [] e = tt
  measures_fresh before among earlier (m ∷ ms) e =
      let apart = either_false _ _ (not-true _ (holds _ DoubleName m.name.at (none_left (output_faults shown earlier m) _ e))) in (
        none_of_both before (measures_names earlier) m.name.text (λ c. is_none shown m.name.text apart.0 (among m.name.text c)) (is_none (measures_names earlier) m.name.text apart.1),
        subst (λ names. AreFresh names (measures_names ms))
            (ap (λ names. before ++ names) (map-append (λ (x : MeasureTree). x.name.text) earlier (m ∷ [])) ∙ sym (append_assoc before (measures_names earlier) (m.name.text ∷ [])))
            (measures_fresh before among (earlier ++ m ∷ []) ms (none_right (output_faults shown earlier m) _ e)),
      )

-- ---- the other columns of a table

has_name-is_among : (name : List ℕ) (cs : List Column) → has_name name cs ≡ is_among name (columns_names cs)
has_name-is_among name [] = refl
has_name-is_among name (c ∷ cs) = ap (λ b. is_name name c.name || b) (has_name-is_among name cs)

-- a name that neither PARTITION BY nor ORDER BY has
abbrev IsOther : List (List ℕ) → List (List ℕ) → List ℕ → Type 0
IsOther partition order name = (is_among name partition || is_among name order) ≡ false

-- a column is behind these names, or left out
one_more : (before : List (List ℕ)) (b : Bool) (o : OutputColumn) (more : List OutputColumn) → (b ≡ true → AreFresh before (names_of more))
    → (b ≡ false → IsNone before o.name × AreFresh (before ++ o.name ∷ []) (names_of more)) → AreFresh before (names_of (cond b [] (o ∷ []) ++ more))
one_more before true o more out shown = out refl
one_more before false o more out shown = shown refl

later : (c : Column) (cs : List Column) (name : List ℕ) → Contains (columns_names cs) name → Contains (columns_names (c ∷ cs)) name
later c cs name h = Contains-append_right (c.name ∷ []) (columns_names cs) name h

module _ (partition order : List (List ℕ)) where
  -- none of these names is an other column's
  abbrev AreApartFrom : List (List ℕ) → List Column → Type 0
  AreApartFrom before cs = (name : List ℕ) → Contains (columns_names cs) name → IsOther partition order name → IsNone before name

  others_fresh : (before : List (List ℕ)) (number : ℕ) (cs : List Column) → AreApartFrom before cs → has_double_name cs ≡ false
      → AreFresh before (names_of (other_columns partition order number cs))
  others_fresh before number [] apart single = tt
  others_fresh before number (c ∷ cs) apart single =
      let both = either_false (has_name c.name cs) (has_double_name cs) single in
      let itself : IsNone (columns_names cs) c.name = is_none (columns_names cs) c.name (sym (has_name-is_among c.name cs) ∙ both.0) in
      one_more before (is_among c.name partition || is_among c.name order) (record { name = c.name; kind = c.kind; from = source.Column number })
      (other_columns partition order (number + 1) cs)
      (λ out. others_fresh before (number + 1) cs (λ name h. apart name (later c cs name h)) both.1)
      (λ other. (
        apart c.name (0, omega arith, refl) other,
        others_fresh (before ++ c.name ∷ []) (number + 1) cs
            (λ name h is k. ⊎_elim (apart name (later c cs name h) is) (λ e. itself (subst (Contains (columns_names cs)) (sym e) h)) (Contains-push_cases before c.name name k))
            both.1,
      ))

single_name : (bad double : Bool) (why next : TableFault) → cond bad (Some why) (cond double (Some next) None) ≡ None → double ≡ false
single_name true double why next e = cc
single_name false true why next e = cc
single_name false false why next e = refl

single_names : (columns : List Column) → table_fault columns ≡ None → has_double_name columns ≡ false
single_names [] e = cc
single_names (c ∷ cs) e = single_name (has_bad_name (c ∷ cs)) (has_double_name (c ∷ cs)) BadName DoubleColumn e

-- ---- the names of an output

key_names : (columns : List Column) (names : List (List ℕ)) → names_of (key_columns columns names) ≡ names
key_names columns [] = refl
key_names columns (n ∷ ns) = ap (λ more. n ∷ more) (key_names columns ns)

measured_names : (x : Context) (place : ℕ) (ms : List MeasureTree) → names_of (measure_columns x place ms) ≡ measures_names ms
measured_names x place [] = refl
measured_names x place (m ∷ ms) = ap (λ more. m.name.text ∷ more) (measured_names x (place + 1) ms)

-- ---- the output of a clause

-- PARTITION BY, ORDER BY and the measures of a clause without such faults over columns
module _ (columns : List Column) (partition order : List Name) (measures : List MeasureTree)
    (first : each (partition_faults columns) partition ≡ []) (second : each (order_faults columns partition) order ≡ []) where
  key_fresh : AreFresh [] (texts partition)
  key_fresh = partition_fresh columns [] partition first

  keys_fresh : AreFresh [] (texts partition ++ texts order)
  keys_fresh =
      fresh_both [] (texts partition) (texts order) key_fresh
      (subst (λ names. AreFresh names (texts order)) (append-nil (texts partition)) (order_fresh columns partition [] order second))

  keys_known : AreAmong (texts partition ++ texts order) (columns_names columns)
  keys_known name c =
      ⊎_elim (partition_known columns [] partition first name) (order_known columns partition [] order second name)
      (Contains-append_cases (texts partition) (texts order) name c)

  -- with ONE ROW PER MATCH
  of_one : each (output_faults (texts partition)) measures ≡ [] → AreFresh [] (texts partition ++ measures_names measures)
  of_one third =
      fresh_both [] (texts partition) (measures_names measures) key_fresh
      (subst (λ names. AreFresh names (measures_names measures)) (append-nil (texts partition))
      (measures_fresh (texts partition) (texts partition) (λ name c. c) [] measures third))

  -- with ALL ROWS PER MATCH
  of_all : has_double_name columns ≡ false → each (output_faults (columns_names columns)) measures ≡ []
      → AreFresh [] (((texts partition ++ texts order) ++ measures_names measures) ++ names_of (other_columns (texts partition) (texts order) 1 columns))
  of_all single third =
      let keys = texts partition ++ texts order in
      let before = keys ++ measures_names measures in
      let shown : AreFresh [] before =
      fresh_both [] keys (measures_names measures) keys_fresh
      (subst (λ names. AreFresh names (measures_names measures)) (append-nil keys)
      (measures_fresh (columns_names columns) keys keys_known [] measures third)) in
      let apart : AreApartFrom (texts partition) (texts order) before columns =
      λ name known other.
      none_of_both keys (measures_names measures) name
      (none_of_both (texts partition) (texts order) name
      (is_none (texts partition) name (either_false _ _ other).0) (is_none (texts order) name (either_false _ _ other).1))
      (λ c. measures_none (columns_names columns) [] measures third name c known) in
      fresh_both [] before (names_of (other_columns (texts partition) (texts order) 1 columns)) shown
      (others_fresh (texts partition) (texts order) before 1 columns apart single)

-- the names of columns one after another
names_both : (some others : List OutputColumn) → names_of (some ++ others) ≡ names_of some ++ names_of others
names_both some others = map-append (λ (o : OutputColumn). o.name) some others

module _ (c : ClauseTree) (columns : List Column) where
  abbrev order_names : List Name
  order_names = map (λ o. o.name) c.order

  -- the columns that an output is made of
  abbrev by_key : List OutputColumn
  by_key = key_columns columns (texts c.partition)

  abbrev by_order : List OutputColumn
  by_order = key_columns columns (texts order_names)

  abbrev others : List OutputColumn
  others = other_columns (texts c.partition) (texts order_names) 1 columns

  one_names : (measures : List OutputColumn) → names_of measures ≡ measures_names c.measures → texts c.partition ++ measures_names c.measures ≡ names_of (by_key ++ measures)
  one_names measures named = sym (names_both by_key measures ∙ rw (key_names columns (texts c.partition), named) refl)

  all_names : (measures : List OutputColumn) → names_of measures ≡ measures_names c.measures
      → ((texts c.partition ++ texts order_names) ++ measures_names c.measures) ++ names_of others ≡ names_of (((by_key ++ by_order) ++ measures) ++ others)
  all_names measures named = sym (
      names_both ((by_key ++ by_order) ++ measures) others
      ∙ rw (names_both (by_key ++ by_order) measures, names_both by_key by_order, key_names columns (texts c.partition), key_names columns (texts order_names), named) refl
      )

  output_fresh : has_double_name columns ≡ false → each (partition_faults columns) c.partition ≡ [] → each (order_faults columns c.partition) order_names ≡ []
      → (measures : List OutputColumn) → names_of measures ≡ measures_names c.measures
      → (rows : RowsPerMatch) → each (output_faults (shown_names rows c.partition columns)) c.measures ≡ []
      → AreFresh [] (names_of (in_order rows by_key by_order measures others))
  output_fresh single first second measures named One third =
      subst (AreFresh []) (one_names measures named) (of_one columns c.partition order_names c.measures first second third)
  output_fresh single first second measures named AllShowEmpty third =
      subst (AreFresh []) (all_names measures named) (of_all columns c.partition order_names c.measures first second single third)
  output_fresh single first second measures named AllOmitEmpty third =
      subst (AreFresh []) (all_names measures named) (of_all columns c.partition order_names c.measures first second single third)
  output_fresh single first second measures named AllWithUnmatched third =
      subst (AreFresh []) (all_names measures named) (of_all columns c.partition order_names c.measures first second single third)

-- ---- the law

-- the output of a clause without faults
pub output_apart : (c : ClauseTree) (columns : List Column) → IsTable columns → faults c columns ≡ [] → AreNamedApart (output_of c columns)
output_apart c columns table clean =
    let listing : listing_faults (variables_of c.pattern) columns c ≡ [] =
    none_left (listing_faults (variables_of c.pattern) columns c) _ (none_right (name_faults c) _ clean) in
    let shown : shown_faults columns c ≡ [] =
    none_right (expression_faults (measuring c columns) (defining c columns) c) _
    (none_right (listing_faults (variables_of c.pattern) columns c) _ (none_right (name_faults c) _ clean)) in
    let keys = each (partition_faults columns) c.partition in
    let ordered = each (order_faults columns c.partition) (order_names c columns) in
    distinct (names_of (output_of c columns))
    (output_fresh c columns (single_names columns table) (none_left keys _ listing) (none_left ordered _ (none_right keys _ listing))
    (measure_columns (measuring c columns) 0 c.measures) (measured_names (measuring c columns) 0 c.measures) c.rows
    (none_right (unmatched_faults c.rows c.pattern) _ shown))

pub names_apart : NamesAreApart
names_apart clause columns q table compiled =
    subst AreNamedApart (sym compiled.is.output) (output_apart compiled.clause columns table compiled.clean)
