-- What becomes of choices at places of a program.
use Rattle.std.proofs.Common.{◌≡◌, ℕ, ◌<◌, ◌≤◌, List, [], ◌∷◌, drop, true, false, Option, Some, None, Result, Ok, Err, OnOk, refl, sym, ap, ◌∙◌, subst, arith}
use Rattle.std.specs.declared.alloc.AllocError.{AllocError}
use Rattle.rp_words.specs.declared.word.End.{End}
use Rattle.rp_words.specs.declared.word.End.TheVariants.{Open as OpenEnd, Closed as ClosedEnd}
use Rattle.rp_program.specs.declared.program.Program.{Program}
use Rattle.rp_program.specs.Programs.{place_words, place_turns, next_place, first_place, option_words as next_words, option_turns as next_turns, IsStart, IsSplit, IsRowSplit, IsEnd}
use Rattle.rp_pattern.specs.declared.compiled.PlacedChoice.{PlacedChoice}
use Rattle.rp_pattern.specs.declared.machine.split.Expansion.TheVariants.{Split as SplitExpansion}
use Rattle.rp_pattern.specs.Placed.{place_rest, placed_ways, placed}
use Rattle.rp_pattern.specs.Rests.{Way, IsPut, GivesWay, TakenUp, Waits, first_later}

-- a choice, as a way to go on
abbrev pub placed_way : Program → PlacedChoice → Way
placed_way p c = record { depth = c.depth; rest = place_rest p c.place }

put_at : (p : Program) (c : PlacedChoice) (cs under : List PlacedChoice) (row depth : ℕ) (next : Option ℕ) → next ≡ next_place p c.place →
    IsPut (first_later (placed_ways p (c ∷ cs))) row depth (placed_ways p under) (placed_ways p (placed depth next under))
put_at p c cs under row depth None at = record {
  rest = None;
  is = refl;
  stands = λ n e. record { words = ap (λ q. next_words p n e q row) at; turns = ap (λ q. next_turns p n e q row) at };
}
put_at p c cs under row depth (Some q) at = record {
  rest = Some (place_rest p q);
  is = refl;
  stands = λ n e. record { words = ap (λ q. next_words p n e q row) at; turns = ap (λ q. next_turns p n e q row) at };
}

-- what follows a row, on other choices
pub next_put : (p : Program) (old under new : List PlacedChoice) (c : PlacedChoice) (row depth : ℕ) (next : Option ℕ) → old ≡ c ∷ drop 1 old → next ≡ next_place p c.place →
    new ≡ placed depth next under → IsPut (first_later (placed_ways p old)) row depth (placed_ways p under) (placed_ways p new)
next_put p old under new c row depth next on at set =
    subst (λ zs. IsPut (first_later (placed_ways p zs)) row depth (placed_ways p under) (placed_ways p new)) (sym on)
    (subst (λ zs. IsPut (first_later (placed_ways p (c ∷ drop 1 old))) row depth (placed_ways p under) (placed_ways p zs)) (sym set)
    (put_at p c (drop 1 old) under row depth next at))

-- the same, in the place of the first choice
pub next_follows : (p : Program) (old new : List PlacedChoice) (c : PlacedChoice) (row depth : ℕ) (next : Option ℕ) → old ≡ c ∷ drop 1 old → next ≡ next_place p c.place →
    new ≡ placed depth next (drop 1 old) → IsPut (first_later (placed_ways p old)) row depth (drop 1 (placed_ways p old)) (placed_ways p new)
next_follows p old new c row depth next on at set =
    subst (λ ws. IsPut (first_later (placed_ways p old)) row depth ws (placed_ways p new)) (ap (λ zs. drop 1 (placed_ways p zs)) (sym on))
    (next_put p old (drop 1 old) new c row depth next on at set)

-- the first place of a program, on an empty stack
pub first_put : (p : Program) (old new : List PlacedChoice) (first row : ℕ) → old ≡ [] → first ≡ first_place p → (r : Result Unit AllocError) →
    OnOk r (new ≡ (record { depth = 0; place = first }) ∷ old) → OnOk r (IsPut (place_rest p (first_place p)).left row 0 [] (placed_ways p new))
first_put p old new first row none at (Err x) h = tt
first_put p old new first row none at (Ok x) h = record {
  rest = Some (place_rest p (first_place p));
  is = ap (placed_ways p) (h ∙ ap (λ zs. (record { depth = 0; place = first }) ∷ zs) none) ∙ ap (λ q. (record { depth = 0; rest = place_rest p q }) ∷ []) at;
  stands = λ n e. record { words = refl; turns = refl };
}

-- a choice gave way to others
pub gave_way : (Stays : Type 0) (p : Program) (old new : List PlacedChoice) (c : PlacedChoice) (n : ℕ) (e : End) (i : ℕ) → old ≡ c ∷ drop 1 old →
    GivesWay n e i (placed_way p c) (placed_ways p (drop 1 old)) (placed_ways p new) → TakenUp Stays n e i (placed_ways p old) (placed_ways p new) SplitExpansion
gave_way Stays p old new c n e i on g = subst (λ zs. TakenUp Stays n e i (placed_ways p zs) (placed_ways p new) SplitExpansion) (sym on) g

never : false ≡ true → ⊥
never h = cc

module _ (p : Program) (c : PlacedChoice) (cs new : List PlacedChoice) (n : ℕ) (e : End) (i : ℕ) where
  pub splits_in_two : (a b : ℕ) → IsSplit p c.place a b → new ≡ (record { depth = c.depth; place = a }) ∷ (record { depth = c.depth; place = b }) ∷ cs →
      GivesWay n e i (placed_way p c) (placed_ways p cs) (placed_ways p new)
  splits_in_two a b s set = record {
    preferred = Some (place_rest p a);
    other = Some (place_rest p b);
    is = ap (placed_ways p) set;
    splits = record { words = λ n' e' later. sym (s.words n' e' i); turns = λ n' e' later. s.turns n' e' i };
  }

  pub splits_from_row : (a b : ℕ) → IsRowSplit p c.place a b → i ≤ n → new ≡ (record { depth = c.depth; place = a }) ∷ (record { depth = c.depth; place = b }) ∷ cs →
      GivesWay n e i (placed_way p c) (placed_ways p cs) (placed_ways p new)
  splits_from_row a b s le set = record {
    preferred = Some (place_rest p a);
    other = Some (place_rest p b);
    is = ap (placed_ways p) set;
    splits = record { words = λ n' e' later. sym (s.words n' e' i (omega (arith, le, later.0))); turns = λ n' e' later. s.turns n' e' i (omega (arith, le, later.0)) };
  }

  -- past the last row of a closed partition
  pub no_row : (a b : ℕ) → IsRowSplit p c.place a b → n < i → e ≡ ClosedEnd → new ≡ cs → GivesWay n e i (placed_way p c) (placed_ways p cs) (placed_ways p new)
  no_row a b s past closed set = record {
    preferred = None;
    other = None;
    is = ap (placed_ways p) set;
    splits = record {
      words = λ n' e' later. let at = later.1 closed in sym (ap (λ m. place_words p m e' c.place i) at.0 ∙ ap (λ x. place_words p n x c.place i) at.1 ∙ s.closed n i past);
      turns = λ n' e' later. s.some n' e' i;
    };
  }

  pub waits_for_row : (a b : ℕ) → IsRowSplit p c.place a b → n < i → e ≡ OpenEnd → Waits n e i (place_rest p c.place)
  waits_for_row a b s past is = record { end = is; more = s.more; alone = λ no. absurd (never no); alike = s.alike; words = ap (λ x. place_words p n x c.place i) is ∙ s.waits n i past; turns = λ n' e'. s.some n' e' i }

  pub starts : (next : ℕ) → IsStart p c.place next → i ≡ 1 → new ≡ (record { depth = c.depth; place = next }) ∷ cs → GivesWay n e i (placed_way p c) (placed_ways p cs) (placed_ways p new)
  starts next s at set = record {
    preferred = None;
    other = Some (place_rest p next);
    is = ap (placed_ways p) set;
    splits = record {
      words = λ n' e' later. ap (place_words p n' e' next) at ∙ sym (ap (place_words p n' e' c.place) at ∙ s.words n' e');
      turns = λ n' e' later. omega (arith, s.turns n' e', ap (place_turns p n' e' next) at, ap (place_turns p n' e' c.place) at);
    };
  }

  pub ends : (next : Option ℕ) → IsEnd p c.place next → n < i → e ≡ ClosedEnd → new ≡ placed c.depth next cs → GivesWay n e i (placed_way p c) (placed_ways p cs) (placed_ways p new)
  ends None s past closed set = record {
    preferred = None;
    other = None;
    is = ap (placed_ways p) set;
    splits = record {
      words = λ n' e' later. let at = later.1 closed in sym (ap (λ m. place_words p m e' c.place i) at.0 ∙ ap (λ x. place_words p n x c.place i) at.1 ∙ s.words n i past);
      turns = λ n' e' later.
          let at = later.1 closed in
          omega (arith, s.turns n i past, ap (λ m. place_turns p m e' c.place i) at.0, ap (λ x. place_turns p n x c.place i) at.1);
    };
  }
  ends (Some q) s past closed set = record {
    preferred = None;
    other = Some (place_rest p q);
    is = ap (placed_ways p) set;
    splits = record {
      words = λ n' e' later.
          let at = later.1 closed in
          ap (λ m. place_words p m e' q i) at.0 ∙ ap (λ x. place_words p n x q i) at.1
          ∙ sym (ap (λ m. place_words p m e' c.place i) at.0 ∙ ap (λ x. place_words p n x c.place i) at.1 ∙ s.words n i past);
      turns = λ n' e' later.
          let at = later.1 closed in
          omega (
            arith,
            s.turns n i past,
            ap (λ m. place_turns p m e' c.place i) at.0,
            ap (λ x. place_turns p n x c.place i) at.1,
            ap (λ m. place_turns p m e' q i) at.0,
            ap (λ x. place_turns p n x q i) at.1,
          );
    };
  }
