-- A packet that is taken leaves the walk standing.
use Rattle.std.proofs.Common.{◌≡◌, ◌≤◌, ◌-◌, ap, ℕ, Bool, true, false, cond, List, Option, Some, None, Ok, Err, refl, sym, ◌∙◌, subst, arith}
use Rattle.std.specs.Prelude.{nat_lt, ◌==◌}
use Rattle.rp_value.specs.declared.value.Value.{Value}
use Rattle.rp_feed.specs.declared.answer.Taken.TheVariants.{New, Repeat, Old}
use Rattle.rp_feed.specs.declared.answer.FeedFault.TheVariants as fault
use Rattle.rp_feed.specs.Limits.{greatest_number}
use Rattle.rp_feed.specs.Fed.{Fed, IsOrdered, IsFeed, front_of, with_taken, with_close}
use Rattle.rp_feed.specs.Answers.{Answer, IsDue, IsDueClose, after, memory_aside, close_answer, closed_answer, has_above}
use Rattle.rp_query.specs.declared.query.QueryData.{QueryData}
use Rattle.rp_query.specs.Sound.{IsSound}
use Rattle.rp_known.specs.Known.{count}
use Rattle.rp_known.specs.WalkLaws.{GoesOnFrom}
use Rattle.rp_known.specs.Plans.{first_read}
use Rattle.rp_walker.specs.Bound.{SeenGrows, SeenRises, search_seen}
use Rattle.rp_walker.specs.Walking.{record_of, StandsStays, StandsCanGoOn}
use Rattle.rp_partition.specs.declared.partition.Partition.{Partition}
use Rattle.rp_partition.specs.Feeds.{Feeds}
use Rattle.rp_partition.specs.PartRows.{known_by, known_count}
use Rattle.rp_partition.specs.Joined.{Joined}
use Rattle.rp_partition.proofs.Feeds.{row_goes_on, close_goes_on}
use Rattle.rp_partition.proofs.Dropping.{goes_from}

-- the feed goes on, with the same rows dropped
pub record Later (fed new : Fed) : Type 0 where
  pub goes : GoesOnFrom fed.first (known_by fed) (known_by new)
  pub first : new.first ≡ fed.first

same_later : (fed new : Fed) → new ≡ fed → Later fed new
same_later fed new e =
    subst (λ (f : Fed). Later fed f) (sym e) (record { goes = record { later = (omega arith, λ c. (refl, c)); same = λ k low high. refl }; first = refl })

pub row_later : Feeds → (fed new : Fed) (n : ℕ) (row : List Value) (result : Answer) → IsOrdered fed → (result ≡ Ok New → IsDue fed n) → new ≡ after result (with_taken n row fed) fed → Later fed new
row_later laws fed new n row (Ok New) is due e =
    subst (λ (f : Fed). Later fed f) (sym e) (record { goes = row_goes_on laws fed n row is (due refl); first = refl })
row_later laws fed new n row (Ok Repeat) is due e = same_later fed new e
row_later laws fed new n row (Ok Old) is due e = same_later fed new e
row_later laws fed new n row (Err f) is due e = same_later fed new e

pub close_later : Feeds → (fed new : Fed) (count : ℕ) (result : Answer) → IsOrdered fed → (result ≡ Ok New → IsDueClose fed count) → new ≡ after result (with_close count fed) fed → Later fed new
close_later laws fed new count (Ok New) is due e =
    subst (λ (f : Fed). Later fed f) (sym e) (record { goes = close_goes_on laws fed count is (due refl).unclosed; first = refl })
close_later laws fed new count (Ok Repeat) is due e = same_later fed new e
close_later laws fed new count (Ok Old) is due e = same_later fed new e
close_later laws fed new count (Err f) is due e = same_later fed new e

pub joined_later : StandsStays → StandsCanGoOn → (q : QueryData) → IsSound q → (p : Partition) (new : Fed) → Joined q p → IsFeed new → Later p.feed new → Joined q (record { feed = new; walker = p.walker })
joined_later stays can q sound p new j is later = record {
  feed = is;
  stands = stays q (known_by p.feed) (known_by new) p.walker sound
      (λ going. goes_from p.feed.first (first_read q (record_of p.walker).at) (known_by p.feed) (known_by new)
      (subst (λ n. n ≤ first_read q (record_of p.walker).at) j.first ((can q (known_by p.feed) p.walker j.stands).going going).2) later.goes)
      j.stands;
  first = j.first ∙ sym later.first;
  in_rows = (omega (arith, j.in_rows.0, later.goes.later.0), λ going. omega (arith, j.in_rows.1 going, later.goes.later.0));
}

-- What is seen of its search rises with the rows that become known.
pub search_later : SeenGrows → (q : QueryData) (p : Partition) (new : Fed) → IsOrdered p.feed → IsOrdered new → Later p.feed new →
    SeenRises (front_of new - front_of p.feed) (search_seen q (known_by p.feed) p.walker) (search_seen q (known_by new) p.walker)
search_later grows q p new is is' later =
    let rows : count (known_by new) - count (known_by p.feed) ≡ front_of new - front_of p.feed =
    ap (λ n. n - count (known_by p.feed)) (known_count new is'.least) ∙ ap (λ n. front_of new - n) (known_count p.feed is.least) in
    subst (λ n. SeenRises n (search_seen q (known_by p.feed) p.walker) (search_seen q (known_by new) p.walker)) rows
    (grows q (known_by p.feed) (known_by new) p.walker later.goes.later.0)

-- a close takes no memory
pub close_no_memory : (fed : Fed) (count : ℕ) → memory_aside (close_answer fed count) ≡ close_answer fed count
close_no_memory fed count = go (nat_lt greatest_number count) fed.closed
  where
    last : (b : Bool) → memory_aside (cond b (Err fault.CloseBelow) (Ok New)) ≡ cond b (Err fault.CloseBelow) (Ok New)
    last true = refl
    last false = refl

    earlier : (b : Bool) → memory_aside (cond b (Ok Repeat) (Err fault.CloseDiffers)) ≡ cond b (Ok Repeat) (Err fault.CloseDiffers)
    earlier true = refl
    earlier false = refl

    go : (b : Bool) (o : Option ℕ) → memory_aside (cond b (Err fault.NumberRange) (closed_answer o count (cond (has_above fed count) (Err fault.CloseBelow) (Ok New))))
        ≡ cond b (Err fault.NumberRange) (closed_answer o count (cond (has_above fed count) (Err fault.CloseBelow) (Ok New)))
    go true o = refl
    go false None = last (has_above fed count)
    go false (Some c) = earlier (c == count)
