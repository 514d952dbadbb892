-- What is still to come.
use Rattle.std.proofs.Common.{◌≡◌, ◌∙◌, ℕ, zero, suc, ◌+◌, List, [], ◌∷◌, ◌++◌, drop, Some, refl, sym, ap, arith, slice_get}
use Rattle.std.proofs.lemmas.List.{drop_all}
use Rattle.std.specs.List.{flat_map}
use Rattle.rp_query.specs.declared.query.QueryData.{QueryData}
use Rattle.rp_query.specs.declared.item.Item.{Item}
use Rattle.rp_known.specs.Known.{Known}
use Rattle.rp_known.specs.WalkLaws.{GoesOnFrom}
use Rattle.rp_known.specs.Walk.{known}
use Rattle.rp_numbering.specs.Partitions.{Part}
use Rattle.rp_walker.specs.FitLaws.{AgreesFrom}
use Rattle.rp_walker.specs.declared.poll.Poll.TheVariants.{Idle as IdlePoll}
use Rattle.rp_walker.specs.declared.record.MatcherState.{MatcherState}
use Rattle.rp_walker.specs.Polls.{AnswerIs}
use Rattle.rp_whole.specs.Answers.{Form, bytes_from, closed}
use Rattle.rp_whole.specs.Writing.{NoneToCome, bytes_to_come, stops_to_come}

goes_on : (first : ℕ) (p : Known) → GoesOnFrom first p p
goes_on first p = record { later = (omega arith, λ e. (refl, e)); same = λ row low high. refl }

-- known rows agree with themselves
pub agrees : (first : ℕ) (p : Known) → AgreesFrom first p p
agrees first p = record { on = goes_on first p; back = goes_on first p }

pub drop_next : {X : Type 0} (xs : List X) (n : ℕ) (x : X) → slice_get xs n ≡ Some x → drop n xs ≡ x ∷ drop (suc n) xs
drop_next [] n x is = cc
drop_next (y ∷ xs) zero x is = cc
drop_next (y ∷ xs) (suc n) x is = drop_next xs n x is

module _ (form : Form) (q : QueryData) (part : Part) where
  module _ (old new : MatcherState) (x : Item) (one : new.given ≡ old.given + 1) (is : slice_get (known q (closed part.1)) old.given ≡ Some x) where
    -- the next item is the first to come
    next_item : drop old.given (known q (closed part.1)) ≡ x ∷ drop new.given (known q (closed part.1))
    next_item =
        let after : suc old.given ≡ new.given = omega arith in
        drop_next (known q (closed part.1)) old.given x is ∙ ap (λ n. x ∷ drop n (known q (closed part.1))) after

    pub next_bytes : bytes_to_come form q part old ≡ form.bytes q part.0 (old.given + 1) x ++ bytes_to_come form q part new
    next_bytes =
        let place : suc (old.given + 1) ≡ new.given + 1 = omega arith in
        ap (bytes_from form q part.0 (old.given + 1)) next_item
        ∙ ap (λ n. form.bytes q part.0 (old.given + 1) x ++ bytes_from form q part.0 n (drop new.given (known q (closed part.1)))) place

    pub next_stops : stops_to_come form q part old ≡ form.stops part.0 x ++ stops_to_come form q part new
    next_stops = ap (flat_map (form.stops part.0)) next_item

  -- after an idle poll no item is still to be given
  pub none_to_come : (old new : MatcherState) → AnswerIs q (closed part.1) old new IdlePoll → NoneToCome form q part new
  none_to_come old new is =
      let items : drop new.given (known q (closed part.1)) ≡ [] = drop_all new.given (known q (closed part.1)) (omega (arith, is.0, is.1)) in
      (ap (bytes_from form q part.0 (new.given + 1)) items, ap (flat_map (form.stops part.0)) items)

  module _ (old new : MatcherState) (same : new.given ≡ old.given) where
    pub same_bytes : bytes_to_come form q part old ≡ bytes_to_come form q part new
    same_bytes = ap (λ given. bytes_from form q part.0 (given + 1) (drop given (known q (closed part.1)))) (sym same)

    pub same_stops : stops_to_come form q part old ≡ stops_to_come form q part new
    same_stops = ap (λ given. flat_map (form.stops part.0) (drop given (known q (closed part.1)))) (sym same)
