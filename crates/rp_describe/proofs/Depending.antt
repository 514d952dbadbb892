-- What a condition comes to depends on the rows that it is said to look at.
use Rattle.std.proofs.Common.{◌≡◌, ◌≢◌, ℕ, zero, suc, ◌+◌, ◌-◌, ◌<◌, ◌≤◌, max, true, false, List, [], ◌∷◌, ◌++◌, length, take, Option, Some, None, IfSome, refl, sym, ap, ap₂, ◌∙◌, subst, arith}
use Rattle.std.specs.Prelude.{slice_get}
use Rattle.std.specs.List.{AllByRecursion}
use Rattle.std.proofs.lemmas.List.Elements.{All-from_recursion, All-contains}
use Rattle.std.proofs.lemmas.Bool.{or_parts}
use Rattle.std.proofs.lemmas.List.{length-take-le}
use Rattle.rp_value.specs.declared.truth.Judged.{Judged}
use Rattle.rp_value.specs.declared.truth.Judged.TheVariants.{Told, Open as OpenJudgement}
use Rattle.rp_value.specs.TruthLaws.{KeepsTold}
use Rattle.rp_words.specs.declared.word.End.{End}
use Rattle.rp_words.specs.declared.word.End.TheVariants.{Open as OpenEnd, Closed as ClosedEnd}
use Rattle.rp_words.specs.declared.word.Label.{Label}
use Rattle.rp_words.specs.declared.form.Form.{Form}
use Rattle.rp_words.specs.Leading.{stands_once, IsLedBy, IsFirstAlone, IsHeadedBy, LeadersHead}
use Rattle.rp_words.specs.Mapping.{labels_of}
use Rattle.rp_words.specs.PatternForm.{form_of}
use Rattle.rp_words.specs.Words.{words}
use Rattle.rp_query.specs.declared.locality.Leader.{Leader}
use Rattle.rp_query.specs.declared.locality.Locality.TheVariants.{Row, Led}
use Rattle.rp_query.specs.declared.plan.Condition.{Condition}
use Rattle.rp_query.specs.declared.plan.Total.{Total}
use Rattle.rp_query.specs.declared.query.QueryData.{QueryData}
use Rattle.rp_query.specs.QueryView.{totals_in}
use Rattle.rp_query.specs.Formulas.{condition_formula}
use Rattle.rp_query.specs.Locality.{is_local, IsLeaderOf}
use Rattle.rp_query.specs.Reach.{condition_reach}
use Rattle.rp_eval.specs.Dropped.{row_known}
use Rattle.rp_eval.specs.GoesOn.{GoesOn}
use Rattle.rp_eval.specs.Laws.{LiesOnRows, over, JudgementsStay}
use Rattle.rp_eval.specs.Locality.{at_last, RowsDecide, LeadersDecide}
use Rattle.rp_eval.specs.Partition.{Rows, row_at}
use Rattle.rp_eval.specs.ValueOf.{Setting, judged}
use Rattle.rp_describe.specs.declared.looks.Looks.{Looks}
use Rattle.rp_describe.specs.Looks.{together, looks_of}
use Rattle.rp_describe.specs.Precedes.{BeginsWord}
use Rattle.rp_describe.specs.Said.{HaveInCommon, DependsOnNear, DependsOnRows, DependsOnFirst, WaitsFor, IsSaidOf}
use Rattle.rp_describe.proofs.Looking.{LooksNear, local_near, local_led, unled, condition_within}
use Rattle.rp_describe.proofs.Waiting.{waits_for}

-- the first elements have each of theirs
taken : {X : Type 0} (xs : List X) (k i : ℕ) → i < k → slice_get (take k xs) i ≡ slice_get xs i
taken xs zero i less = absurd (omega (arith, less))
taken [] (suc k) i less = refl
taken (x ∷ xs) (suc k) zero less = refl
taken (x ∷ xs) (suc k) (suc i) less = taken xs k i (omega (arith, less))

row_taken : (p : Rows) (k row : ℕ) → 1 ≤ row → row ≤ k → row_at (take k p) row ≡ row_at p row
row_taken p k row one within = row_known (take k p) row one ∙ taken p k (row - 1) (omega (arith, one, within)) ∙ sym (row_known p row one)

never_both : (e : End) → e ≡ OpenEnd → e ≡ ClosedEnd → ⊥
never_both OpenEnd h k = cc
never_both ClosedEnd h k = cc

-- what is told of one stays of both
told_both : (a b c : Judged) → a ≢ OpenJudgement → KeepsTold a b → KeepsTold a c → c ≡ b
told_both (Told t) b c told keeps keeps' = keeps' ∙ sym keeps
told_both OpenJudgement b c told keeps keeps' = absurd (told refl)

module _ (stay : JudgementsStay) (c : Condition) (back ahead : ℕ) (waits : WaitsFor ahead c) (near : condition_reach c ≤ back) where
  -- a look at a row without labels before it, in two partitions that have the rows near it in common
  same_there : (s : Setting) (p' : Rows) (e' : End) (row : ℕ) (label : Label) → 1 ≤ row → HaveInCommon (row - back) (row + ahead) s.rows p' →
      judged (at_last (over s p' e') row [] label) c ≡ judged (at_last s row [] label) c
  same_there s p' e' row label one common =
      let front = take (row + ahead) s.rows in
      let size : length front ≡ row + ahead = length-take-le (row + ahead) s.rows common.known in
      let short = over (at_last s row [] label) front OpenEnd in
      let lies : LiesOnRows short = record { from_one = one; on_rows = omega (arith, size) } in
      told_both (judged short c) (judged (at_last s row [] label) c) (judged (at_last (over s p' e') row [] label) c) (waits short one (omega (arith, size)))
      (stay short s.rows s.ending c lies (front_goes_on s.rows s.ending size (omega (arith, size, common.known)) (λ r some from to. refl)))
      (stay short p' e' c lies (front_goes_on p' e' size (omega (arith, size, common.known_there)) (λ r some from to. common.same r from to)))
    where
      front_goes_on : (p : Rows) (e : End) → length (take (row + ahead) s.rows) ≡ row + ahead → length (take (row + ahead) s.rows) ≤ length p →
          ((r : ℕ) → 1 ≤ r → row - back ≤ r → r ≤ row + ahead → row_at p r ≡ row_at s.rows r) →
          GoesOn (max 1 (row - condition_reach c)) (take (row + ahead) s.rows) OpenEnd p e
      front_goes_on p e size shorter same =
          record {
            later = (shorter, λ closed. absurd (never_both OpenEnd refl closed));
            same = λ r from to.
                let some : 1 ≤ r = omega (arith, from) in
                same r some (omega (arith, near, from)) (omega (arith, to, size)) ∙ sym (row_taken s.rows (row + ahead) r some (omega (arith, to, size)));
          }

  depends_on_near : RowsDecide → (totals : List Total) (variable : ℕ) → is_local Row totals variable (condition_formula c) ≡ true → DependsOnNear back ahead totals variable c
  depends_on_near decide totals variable local s p' e' row start start' before before' label is_totals is_variable common comes comes' =
      let here : is_local Row s.totals label.var (condition_formula c) ≡ true = ap₂ (λ ts v. is_local Row ts v (condition_formula c)) is_totals is_variable ∙ local in
      let one : 1 ≤ row = omega (arith, comes.from_one, comes.last) in
      decide (over s p' e') start' row before' [] label c here (omega (arith, comes'.last))
      ∙ same_there s p' e' row label one common
      ∙ decide s row start [] before label c here (omega (arith, comes.last))

depends_on_rows : RowsDecide → (totals : List Total) (variable : ℕ) (c : Condition) → is_local Row totals variable (condition_formula c) ≡ true → DependsOnRows totals variable c
depends_on_rows decide totals variable c local s start start' before before' label is_totals is_variable at =
    decide s start' start before' before label c (ap₂ (λ ts v. is_local Row ts v (condition_formula c)) is_totals is_variable ∙ local) (sym at)

-- ---- in words that a variable leads

all_before : {X : Type 0} (P : X → Type 0) (xs ys : List X) → AllByRecursion P (xs ++ ys) → AllByRecursion P xs
all_before P [] ys all = tt
all_before P (x ∷ xs) ys all = (all.0, all_before P xs ys all.1)

led_before : (v : ℕ) (ls after : List Label) → IsLedBy v (ls ++ after) → IsLedBy v ls
led_before v [] after h = tt
led_before v (l ∷ ls) after h = h

alone_before : (v : ℕ) (ls after : List Label) → IsFirstAlone v (ls ++ after) → IsFirstAlone v ls
alone_before v [] after h = tt
alone_before v (l ∷ ls) after h = all_before (λ m. m.var ≢ v) ls after h

headed : LeadersHead → (f : Form) (lead : Leader) → IsLeaderOf f lead → (start : ℕ) (labels : List Label) → BeginsWord f start labels → IsHeadedBy lead.variable lead.alone labels
headed heads f lead is start labels begins =
    let ws = words begins.rows begins.ending f start in
    let holds = All-contains (λ w. IsHeadedBy lead.variable (stands_once lead.variable f) (labels_of w)) ws begins.word
    (All-from_recursion (λ w. IsHeadedBy lead.variable (stands_once lead.variable f) (labels_of w)) ws (heads lead.variable f is.0 begins.rows begins.ending start)) begins.listed in
    let whole = subst (IsHeadedBy lead.variable (stands_once lead.variable f)) begins.labels_are holds in
    record { led = led_before lead.variable labels begins.after whole.led; alone = λ once. alone_before lead.variable labels begins.after (whole.alone (sym is.1 ∙ once)) }

depends_on_first : RowsDecide → LeadersDecide → LeadersHead → (f : Form) (lead : Option Leader) → IfSome lead (IsLeaderOf f) → (totals : List Total) (variable : ℕ) (c : Condition) →
    (looks_of lead totals variable (condition_formula c)).elsewhere ≡ false → DependsOnFirst f totals variable c
depends_on_first decide decide_led heads f None leads totals variable c none s start before before' label is_totals is_variable size begins begins' =
    let near : LooksNear (looks_of None totals variable (condition_formula c)) = record { first = unled totals variable (condition_formula c); elsewhere = none } in
    depends_on_rows decide totals variable c (local_near None totals variable (condition_formula c) near) s start start before before' label is_totals is_variable (ap (λ k. start + k) size)
depends_on_first decide decide_led heads f (Some lead) leads totals variable c none s start before before' label is_totals is_variable size begins begins' =
    let local : is_local (Led lead.variable lead.alone) s.totals label.var (condition_formula c) ≡ true =
    ap₂ (λ ts v. is_local (Led lead.variable lead.alone) ts v (condition_formula c)) is_totals is_variable ∙ local_led lead totals variable (condition_formula c) none in
    sym (decide_led lead.variable lead.alone s start before before' label c local size
    (headed heads f lead leads start (before ++ label ∷ []) begins) (headed heads f lead leads start (before' ++ label ∷ []) begins'))

-- ---- what is said of a condition holds

module _ (decide : RowsDecide) (decide_led : LeadersDecide) (heads : LeadersHead) (stay : JudgementsStay) where
  pub is_said : (q : QueryData) (lead : Option Leader) → IfSome lead (IsLeaderOf (form_of q.pattern)) → (variable : ℕ) (c : Condition) →
      IsSaidOf q variable c (looks_of lead (totals_in q) variable (condition_formula c))
  is_said q lead leads variable c =
      let looks = looks_of lead (totals_in q) variable (condition_formula c) in
      record {
        near = λ first elsewhere.
            let near : LooksNear looks = record { first = first; elsewhere = elsewhere } in
            depends_on_near stay c looks.back looks.ahead (waits_for lead (totals_in q) variable c) (condition_within lead (totals_in q) variable c near)
            decide (totals_in q) variable (local_near lead (totals_in q) variable (condition_formula c) near);
        local = λ first elsewhere. local_near lead (totals_in q) variable (condition_formula c) (record { first = first; elsewhere = elsewhere });
        rows = λ first elsewhere. depends_on_rows decide (totals_in q) variable c (local_near lead (totals_in q) variable (condition_formula c) (record { first = first; elsewhere = elsewhere }));
        ends = depends_on_first decide decide_led heads (form_of q.pattern) lead leads (totals_in q) variable c;
        waits = waits_for lead (totals_in q) variable c;
      }

-- ---- together with others

fewer_in_common : (back back' ahead ahead' row : ℕ) (p p' : Rows) → back ≤ back' → ahead ≤ ahead' → HaveInCommon (row - back') (row + ahead') p p' → HaveInCommon (row - back) (row + ahead) p p'
fewer_in_common back back' ahead ahead' row p p' less fewer common =
    record {
      known = omega (arith, fewer, common.known);
      known_there = omega (arith, fewer, common.known_there);
      same = λ r from to. common.same r (omega (arith, less, from)) (omega (arith, fewer, to));
    }

-- what holds of few rows holds of more
said_wider : (a b : Looks) (q : QueryData) (variable : ℕ) (c : Condition) → a.back ≤ b.back → a.ahead ≤ b.ahead → (b.first ≡ false → a.first ≡ false) → (b.elsewhere ≡ false → a.elsewhere ≡ false) →
    IsSaidOf q variable c a → IsSaidOf q variable c b
said_wider a b q variable c back ahead first elsewhere said =
    record {
      near = λ no_first none s p' e' row start start' before before' label is_totals is_variable common.
          said.near (first no_first) (elsewhere none) s p' e' row start start' before before' label is_totals is_variable (fewer_in_common a.back b.back a.ahead b.ahead row s.rows p' back ahead common);
      local = λ no_first none. said.local (first no_first) (elsewhere none);
      rows = λ no_first none. said.rows (first no_first) (elsewhere none);
      ends = λ none. said.ends (elsewhere none);
      waits = λ s one on. said.waits s one (omega (arith, ahead, on));
    }

pub said_left : (a b : Looks) (q : QueryData) (variable : ℕ) (c : Condition) → IsSaidOf q variable c a → IsSaidOf q variable c (together a b)
said_left a b q variable c =
    said_wider a (together a b) q variable c (omega arith) (omega arith) (λ none. (or_parts a.first b.first none).0) (λ none. (or_parts a.elsewhere b.elsewhere none).0)

pub said_right : (a b : Looks) (q : QueryData) (variable : ℕ) (c : Condition) → IsSaidOf q variable c b → IsSaidOf q variable c (together a b)
said_right a b q variable c =
    said_wider b (together a b) q variable c (omega arith) (omega arith) (λ none. (or_parts a.first b.first none).1) (λ none. (or_parts a.elsewhere b.elsewhere none).1)
