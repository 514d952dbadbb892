-- Queries that are the same are met by the same records and the same calls.
use Rattle.std.proofs.Common.{◌≡◌, ◌∙◌, ◌≤◌, ℕ, Bool, true, false, List, map, length, sym, ap, subst}
use Rattle.std.specs.Prelude.{◌-◌, max, slice_get}
use Rattle.rp_query.specs.declared.query.QueryData.{QueryData}
use Rattle.rp_query.specs.declared.item.Item.{Item}
use Rattle.rp_query.specs.Keys.{kind_at, values_in}
use Rattle.rp_query.specs.Sound.{IsSound}
use Rattle.rp_same_query.specs.SameQuery.{IsSameQuery, WordsFollow}
use Rattle.rp_eval.specs.ByFormula.{ValuesFollow, JudgementsFollow}
use Rattle.rp_known.specs.declared.place.Place.{Place}
use Rattle.rp_known.specs.Known.{Known}
use Rattle.rp_known.specs.Walk.{leg_items, known, ComesTo}
use Rattle.rp_walker.specs.declared.record.MatcherState.{MatcherState}
use Rattle.rp_walker.specs.Records.{place_of, fits_by}
use Rattle.rp_schedules.specs.Schedules.{Act, Pauses, Event}
use Rattle.rp_schedules.specs.Records.{Row, Held, Fits, seen_part, Polls, item, idle, paused, PollFits, Nodes, record_at, Calls, row_taken, close_taken, polled, no_memory, saved, restarted, begun_anew, nothing_done, CallsBySame}
use Rattle.rp_schedules.specs.SameKnown.{SameEitherWay, KnownIsSame, WalkIsSame, FitIsSame, CallsAreSame, KeyIsSame, KindsAreSame, FirstReadIsSame}
use Rattle.rp_schedules.proofs.SameKnown.{leg_same, known_same, comes_same}

-- the laws of the crates below
pub record Formulas : Type 0 where
  pub judgements : JudgementsFollow
  pub values : ValuesFollow
  pub patterns : WordsFollow

pub same_either_way : SameEitherWay
same_either_way q r s = record {
  text = sym s.text;
  table = sym s.table;
  pattern = sym s.pattern;
  variables = sym s.variables;
  output = sym s.output;
  reach = sym s.reach;
  partition = sym s.partition;
  order = sym s.order;
  measures = sym s.measures;
  rows = sym s.rows;
  skip = sym s.skip;
  conditions = sym s.conditions;
  definitions = sym s.definitions;
  totals = sym s.totals;
}

pub key_is_same : KeyIsSame
key_is_same q r row s = ap (λ columns. values_in columns row) (sym s.partition)

pub kinds_are_same : KindsAreSame
kinds_are_same q r s = ap (λ table. map (kind_at table) r.partition.items) (sym s.table) ∙ ap (map (kind_at q.table)) (sym s.partition)

pub first_read_is_same : FirstReadIsSame
first_read_is_same q r start s = ap (λ reach. max 1 (start - reach)) (sym s.reach)

module _ (f : Formulas) where
  pub known_is_same : KnownIsSame
  known_is_same q r p s a b = known_same f.judgements f.values f.patterns q r s a b p

  -- where a walk by the one comes to, one by the other does
  comes : (q r : QueryData) (p : Known) (d : ℕ) (from to : Place) → IsSameQuery q r → IsSound q → IsSound r → ComesTo r p from d to → ComesTo q p from d to
  comes q r p d from to s a b c = comes_same f.judgements f.values f.patterns q r s a b p c

  pub walk_is_same : WalkIsSame
  walk_is_same q r p d from to s a b = (comes r q p d from to (same_either_way q r s) b a, comes q r p d from to s a b)

  state_fits : (q r : QueryData) (p : Known) (state : MatcherState) (over : Bool) → IsSameQuery q r → IsSound q → IsSound r → fits_by over r state p → fits_by over q state p
  state_fits q r p state true s a b fits =
      let e : known r p ≡ known q p = known_is_same q r p s a b in
      record { front = fits.front; last = fits.last; is = sym e ∙ fits.is; ends = fits.ends; counted = fits.counted ∙ ap length e }
  state_fits q r p state false s a b fits =
      record {
        before = fits.before;
        comes = comes q r p fits.before _ (place_of state) s a b fits.comes;
        counted = fits.counted;
        within = subst (λ gone. state.here ≤ length (leg_items gone)) (leg_same f.judgements f.values f.patterns q r s a b p (place_of state)) fits.within;
        kept = subst (λ row. state.first ≤ row) (first_read_is_same q r state.at s) fits.kept;
      }

  pub fits_too : (q r : QueryData) (whole : List Row) (held : Held) → IsSameQuery q r → IsSound q → IsSound r → Fits r whole held → Fits q whole held
  fits_too q r whole held s a b fits = record { feed = fits.feed; first = fits.first; stands = state_fits q r (seen_part whole held.feed) held.state held.state.over s a b fits.stands }

  pub fit_is_same : FitIsSame
  fit_is_same q r whole held s a b = (fits_too r q whole held (same_either_way q r s) b a, fits_too q r whole held s a b)

  module _ (q r : QueryData) (s : IsSameQuery q r) (a : IsSound q) (b : IsSound r) (whole : List Row) (old new : Held) where
    same_length : known r (seen_part whole old.feed) ≡ known q (seen_part whole old.feed)
    same_length = known_is_same q r (seen_part whole old.feed) s a b

    polls_too : (act : Act Item) → Polls r whole old new act → Polls q whole old new act
    polls_too act (item there given) = item (ap (λ xs. slice_get xs old.state.given) (sym same_length) ∙ there) given
    polls_too act (idle all given) = idle (all ∙ ap length same_length) given
    polls_too act (paused given) = paused given

    pub poll_fits_too : (act : Act Item) → PollFits r whole old new act → PollFits q whole old new act
    poll_fits_too act p = record { fits = fits_too q r whole new s a b p.fits; taken = p.taken; closed = p.closed; polls = polls_too act p.polls }

  -- a call by the one is a call by the other
  module _ {Key : Type 0} (q r : QueryData) (s : IsSameQuery q r) (a : IsSound q) (b : IsSound r) (whole : Key → List Row) where
    either : (key : Key) (before after : Held) (act : Act Item) → (Fits r (whole key) before → PollFits r (whole key) before after act)
        → Fits q (whole key) before → PollFits q (whole key) before after act
    either key before after act polls fits =
        poll_fits_too q r s a b (whole key) before after act (polls (fits_too r q (whole key) before (same_either_way q r s) b a fits))

    calls_too : {old new : Nodes Key} {e : Event Key Item} → Calls r whole old e new → Calls q whole old e new
    calls_too (row_taken k row one there free is stays) = row_taken k row one there free is stays
    calls_too (close_taken is stays) = close_taken is stays
    calls_too {old = old} {new = new} (polled {a = n} {key = key} {act = act} polls stays) =
        polled (either key (record_at old n key) (record_at new n key) act polls) stays
    calls_too {old = old} {new = new} (no_memory {a = n} {key = key} polls stays) =
        no_memory (either key (record_at old n key) (record_at new n key) Pauses polls) stays
    calls_too (saved is) = saved is
    calls_too (restarted at is) = restarted at is
    calls_too (begun_anew is) = begun_anew is
    calls_too nothing_done = nothing_done

  pub calls_by_same : {Key : Type 0} (q : QueryData) (whole : Key → List Row) (old new : Nodes Key) (e : Event Key Item) → IsSound q
      → CallsBySame q whole old e new → Calls q whole old e new
  calls_by_same q whole old new e sound c = calls_too q c.query c.same sound c.sound whole c.calls

  pub calls_are_same : (Key : Type 0) → CallsAreSame Key
  calls_are_same Key q r whole old new e s a b = (calls_too r q (same_either_way q r s) b a whole, calls_too q r s a b whole)
