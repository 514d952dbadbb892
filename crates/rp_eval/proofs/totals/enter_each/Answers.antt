use Rattle.std.proofs.Common.{◌≡◌, ℕ, List, ◌<◌, ◌≤◌, ◌+◌, ◌-◌, ◌^◌, ◌∷◌, [], map, length, take, get_or, set, refl, sym, ap, ◌∙◌, subst, arith, rules, length-append}
use Rattle.rp_query.specs.Changes.{change_of}
use Rattle.rp_query.specs.declared.changes.Change.{Change}
use Rattle.rp_query.specs.declared.plan.Total.{Total}
use Rattle.rp_words.specs.declared.word.Label.{Label}
use Rattle.rp_eval.specs.Partition.{Rows}
use Rattle.rp_eval.specs.Kept.{Kept, NextOfEach, kept_of, tally_at, cut_back, changed}
use Rattle.rp_eval.proofs.Tallied.{IsWithin}
use Rattle.rp_eval.proofs.KeptSeries.{partly, partly_cut, mixed_set, mixed_get, set_same, all_but_last, item_of, get_mapped, same_get, entered_next, entered_few}
use Rattle.rp_eval.proofs.totals.enter_each.Goals as goal

-- what is kept of a total that isn't entered yet
pub record Waits (p : Rows) (start : ℕ) (before : List Label) (plan : List Total) (n : ℕ) (k : Kept) : Type 0 where
  pub total : Total
  pub lt : n < length plan
  pub is : get_or plan n total ≡ total
  pub kept : k ≡ kept_of p start before total

waits : (p : Rows) (start : ℕ) (ls : List Label) (plan : List Total) (changes : List Change) (n : ℕ) (old series : List Kept) (k : Kept) (new : NextOfEach old p start ls plan changes) →
    n < length plan → series ≡ partly p start (take (length ls - 1) ls) ls plan n → k ≡ get_or series n k → Waits p start new.before plan n k
waits p start ls plan changes n old series k new lt mixed here =
    let some = item_of plan n lt in
    record {
      total = get_or plan n some;
      lt = lt;
      is = same_get plan n some (get_or plan n some) lt;
      kept =
          mixed_get (kept_of p start ls) (kept_of p start (take (length ls - 1) ls)) plan n some k series lt mixed here
          ∙ ap (λ b. kept_of p start b (get_or plan n some)) (all_but_last ls new.before new.label new.is);
    }

pub enter-requires-clause-row : goal.enter-requires-clause-row
enter-requires-clause-row g c = omega (arith, c.requires.on_rows, g.met.R.Rows.few c.args.rows.now)

room : (p : Rows) (start : ℕ) (ls : List Label) (plan : List Total) (changes : List Change) (n : ℕ) (old : List Kept) (k : Kept) (new : NextOfEach old p start ls plan changes) →
    Waits p start new.before plan n k → IsWithin (length new.before) (tally_at k.tallies (length ls - 1))
room p start ls plan changes n old k new w =
    subst (λ (z : Kept). IsWithin (length new.before) (tally_at z.tallies (length ls - 1))) (sym w.kept)
    (entered_few p start (length ls - 1) ls new.before new.label w.total new.is refl)

entered_at : (p : Rows) (start : ℕ) (ls : List Label) (plan : List Total) (changes : List Change) (n : ℕ) (old : List Kept) (k same : Kept) (new : NextOfEach old p start ls plan changes) →
    (w : Waits p start new.before plan n k) → same ≡ k → (c : Change) → changed p start (length ls - 1) (get_or changes n c) same ≡ kept_of p start ls w.total
entered_at p start ls plan changes n old k same new w is c =
    let change : get_or changes n c ≡ change_of new.label.var w.total =
    ap (λ z. get_or z n c) new.known ∙ get_mapped (change_of new.label.var) plan n w.total c w.lt ∙ ap (change_of new.label.var) w.is in
    ap (changed p start (length ls - 1) (get_or changes n c)) (is ∙ w.kept)
    ∙ ap (λ z. changed p start (length ls - 1) z (kept_of p start new.before w.total)) change
    ∙ entered_next p start (length ls - 1) ls new.before new.label w.total new.is refl

few : (p : Rows) (start : ℕ) (ls : List Label) (plan : List Total) (changes : List Change) (old : List Kept) (new : NextOfEach old p start ls plan changes) →
    1 ≤ start → start + length ls ≤ length p + 1 → length p < 2 ^ 64 - 1 → length new.before < 2 ^ 64 - 1
few p start ls plan changes old new from on rows = omega (arith, ap length new.is, length-append new.before (new.label ∷ []))

waits_here : (g : _) (c : goal.After-enter-arg-1 g) →
    Waits (g.R.Rows.known c.args.rows.now) c.args.start c.requires.new.before c.args.plan.now c.loop-number.number (get_or c.loop-number.series c.loop-number.number c.index-series-number.result)
waits_here g c =
    let k = c.index-series-number.result in
    waits (g.R.Rows.known c.args.rows.now) c.args.start c.args.labels.now c.args.plan.now c.args.changes.now c.loop-number.number c.args.series.now c.loop-number.series
    (get_or c.loop-number.series c.loop-number.number k) c.requires.new (omega (arith, c.loop-number-test.true)) c.loop-number.invariant (ap (get_or c.loop-number.series c.loop-number.number) c.index-series-number.is)

room_here : (g : _) (c : goal.After-enter-arg-1 g) →
    IsWithin (length c.requires.new.before) (tally_at (get_or c.loop-number.series c.loop-number.number c.index-series-number.result).tallies (length c.args.labels.now - 1))
room_here g c =
    room (g.R.Rows.known c.args.rows.now) c.args.start c.args.labels.now c.args.plan.now c.args.changes.now c.loop-number.number c.args.series.now
    (get_or c.loop-number.series c.loop-number.number c.index-series-number.result) c.requires.new (waits_here g c)

few_here : (g : _) (c : goal.After-enter-arg-1 g) → length c.requires.new.before < 2 ^ 64 - 1
few_here g c =
    few (g.R.Rows.known c.args.rows.now) c.args.start c.args.labels.now c.args.plan.now c.args.changes.now c.args.series.now c.requires.new c.requires.from_one c.requires.on_rows (g.met.R.Rows.few c.args.rows.now)

pub enter-requires-clause-count : goal.enter-requires-clause-count
enter-requires-clause-count g c = let r = room_here g c in omega (arith, r.count, few_here g c)

pub enter-requires-clause-sum : goal.enter-requires-clause-sum
enter-requires-clause-sum g c = let r = room_here g c in omega (arith, r.sum, few_here g c)

pub loop-number-preserved : goal.loop-number-preserved
loop-number-preserved g c =
    let p = g.R.Rows.known c.args.rows.now in
    let ls = c.args.labels.now in
    let plan = c.args.plan.now in
    let n = c.loop-number.number in
    let k = c.index-series-number.result in
    let w = waits p c.args.start ls plan c.args.changes.now n c.args.series.now c.loop-number.series k c.requires.new (omega (arith, c.loop-number-test.true)) c.loop-number.invariant c.index-series-number.is in
    mixed_set (kept_of p c.args.start ls) (kept_of p c.args.start (take (length ls - 1) ls)) plan n (n + 1) w.total c.enter.new.self c.loop-number.series w.lt refl c.loop-number.invariant
    (c.in-Ok.ensures.entered ∙ entered_at p c.args.start ls plan c.args.changes.now n c.args.series.now k _ c.requires.new w (sym c.index-series-number.is) _ ∙ sym (ap (kept_of p c.args.start ls) w.is))

pub returns-in-Err-clause-err : goal.returns-in-Err-clause-err
returns-in-Err-clause-err g c =
    let p = g.R.Rows.known c.args.rows.now in
    let ls = c.args.labels.now in
    let new = c.requires.new in
    let plan = c.args.plan.now in
    let items = c.loop-number.series in
    let n = c.loop-number.number in
    let m = length ls - 1 in
    let k = c.index-series-number.result in
    let here : k ≡ get_or items n k = search rules in
    ap (λ k. map (cut_back m) (set items n k)) (c.in-Err.ensures.err ∙ sym here)
    ∙ ap (map (cut_back m)) (set_same items n k here ∙ c.loop-number.invariant)
    ∙ ap (λ b. map (cut_back m) (partly p c.args.start b ls plan n)) (all_but_last ls new.before new.label new.is)
    ∙ partly_cut p c.args.start new.before ls new.label plan n m new.is refl
    ∙ sym new.kept
