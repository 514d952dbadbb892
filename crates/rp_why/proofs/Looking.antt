-- What a look says, by what its search came to.
use Rattle.std.proofs.Common.{◌≡◌, ℕ, ◌+◌, ◌<◌, ◌≤◌, ◌∷◌, Bool, false, true, List, [], ◌⊎◌, inl, inr, Result, Ok, Err, IfOk, refl, sym, ap, subst, ◌∙◌, arith}
use Rattle.std.proofs.Math.Nat.{eq-or-lt_of_le}
use Rattle.std.specs.declared.alloc.AllocError.{AllocError}
use Rattle.rp_words.specs.declared.word.Label.{Label}
use Rattle.rp_search.specs.declared.search.Outcome.{Outcome}
use Rattle.rp_search.specs.declared.search.Outcome.TheVariants.{Match as MatchOutcome, NoMatch as NoMatchOutcome, Waits as WaitsOutcome, Paused as PausedOutcome}
use Rattle.rp_search.specs.Found.{Match}
use Rattle.rp_search.specs.Search.{labels_of_search}
use Rattle.rp_query.specs.declared.query.QueryData.{QueryData}
use Rattle.rp_known.specs.Known.{Known}
use Rattle.rp_known.specs.Walk.{found_at}
use Rattle.rp_why.specs.declared.seeking.Run.{Run}
use Rattle.rp_why.specs.declared.seeking.Sought.{Sought}
use Rattle.rp_why.specs.declared.seeking.Sought.TheVariants.{Found as FoundIt, NotFound, GivenUp}
use Rattle.rp_why.specs.declared.seeking.Wanted.{Wanted}
use Rattle.rp_why.specs.Seeking.{CameTo, IsFoundAt, LooksAt, look_of}
use Rattle.rp_why.specs.Sought.{IsSought, NoneFrom, is_match, is_wanted}

looks_match : (q : QueryData) (p : Known) (start : ℕ) (w : Bool) (run : Run) (labels : List Label) → labels_of_search run.search ≡ labels → found_at q p start ≡ Match (labels_of_search run.search) → LooksAt q p start w run (look_of MatchOutcome w labels)
looks_match q p start true run [] is came = ap (is_wanted true) (came ∙ ap (λ ls. Match ls) is)
looks_match q p start true run (l ∷ ls) is came = (came, ap (is_match true) is)
looks_match q p start false run [] is came = (came, ap (is_match false) is)
looks_match q p start false run (l ∷ ls) is came = (came, ap (is_match false) is)

pub looks_at : (q : QueryData) (p : Known) (start : ℕ) (w : Bool) (run : Run) (o : Outcome) → CameTo q p start run o → LooksAt q p start w run (look_of o w (labels_of_search run.search))
looks_at q p start w run MatchOutcome came = looks_match q p start w run (labels_of_search run.search) refl came
looks_at q p start w run NoMatchOutcome came = ap (is_wanted w) came
looks_at q p start w run WaitsOutcome came = tt
looks_at q p start w run PausedOutcome came = tt

-- no row is before the first
pub none_yet : (q : QueryData) (p : Known) (w : Bool) (first : ℕ) → NoneFrom q p w first first
none_yet q p w first row from to = absurd (omega (arith, from, to))

-- one row more begins none
pub one_more : (q : QueryData) (p : Known) (w : Bool) (first start : ℕ) → NoneFrom q p w first start → is_wanted w (found_at q p start) ≡ false → NoneFrom q p w first (start + 1)
one_more q p w first start none here row from to = go (eq-or-lt_of_le (omega (arith, to)))
  where
    go : (row ≡ start) ⊎ (row < start) → is_wanted w (found_at q p row) ≡ false
    go (inl same) = subst (λ r. is_wanted w (found_at q p r) ≡ false) (sym same) here
    go (inr lt) = none row from lt

-- the match at a row is the first that is looked for
pub is_sought : (q : QueryData) (p : Known) (wanted : Wanted) (start : ℕ) (labels : List Label) (s : Sought) → found_at q p start ≡ Match labels → is_match wanted.with_rows labels ≡ true →
    wanted.first ≤ start → start ≤ wanted.last → NoneFrom q p wanted.with_rows wanted.first start → IsFoundAt start labels s → IsSought q p wanted s
is_sought q p wanted start labels (FoundIt m) found has begun within none is = record {
  found = ap (found_at q p) is.0 ∙ found ∙ ap (λ ls. Match ls) (sym is.1);
  has_rows = ap (is_match wanted.with_rows) is.1 ∙ has;
  within = subst (λ r. wanted.first ≤ r) (sym is.0) begun;
  not_past = subst (λ r. r ≤ wanted.last) (sym is.0) within;
  none_before = subst (λ r. NoneFrom q p wanted.with_rows wanted.first r) (sym is.0) none;
}
is_sought q p wanted start labels NotFound found has begun within none is = absurd is
is_sought q p wanted start labels GivenUp found has begun within none is = absurd is

pub sought_of : (q : QueryData) (p : Known) (wanted : Wanted) (start : ℕ) (labels : List Label) (s : Result Sought AllocError) → found_at q p start ≡ Match labels → is_match wanted.with_rows labels ≡ true →
    wanted.first ≤ start → start ≤ wanted.last → NoneFrom q p wanted.with_rows wanted.first start → IfOk s (IsFoundAt start labels) → IfOk s (IsSought q p wanted)
sought_of q p wanted start labels (Ok s) found has begun within none is = is_sought q p wanted start labels s found has begun within none is
sought_of q p wanted start labels (Err e) found has begun within none is = is
