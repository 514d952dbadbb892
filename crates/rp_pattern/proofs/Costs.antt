-- What taking up choices costs where each split that they come to has failed before, and which choices stay under a height.
use Rattle.std.proofs.Common.{◌≡◌, ℕ, zero, suc, ◌+◌, ◌-◌, ◌<◌, ◌≤◌, ◌&&◌, IsTrue, List, [], ◌∷◌, length, drop, Bool, true, false, cond, Option, Some, None, Result, Ok, Err, OnOk, IfOk, refl, sym, ap, ◌∙◌, subst, arith}
use Rattle.std.specs.declared.alloc.AllocError.{AllocError}
use Rattle.std.specs.Prelude.{nat_lt}
use Rattle.std.proofs.lemmas.Bool.Decides.{nat_tests}
use Rattle.rp_words.specs.declared.word.End.{End}
use Rattle.rp_words.specs.declared.word.Label.{Label}
use Rattle.rp_words.specs.Turns.{WordsAndTurns}
use Rattle.rp_program.specs.declared.program.Program.{Program}
use Rattle.rp_program.specs.Programs.{first_place, place_count}
use Rattle.rp_program.specs.Costs.{place_cost, place_weight, option_cost}
use Rattle.rp_pattern.specs.declared.choices.Choices.{Choices}
use Rattle.rp_pattern.specs.declared.choices.Taken.{Taken}
use Rattle.rp_pattern.specs.declared.choices.Taken.TheVariants.{Row, Split, Full as FullTaken, Open as OpenTaken, Nothing}
use Rattle.rp_pattern.specs.declared.compiled.PlacedChoice.{PlacedChoice}
use Rattle.rp_pattern.specs.declared.machine.continuation.Choice.{Choice}
use Rattle.rp_pattern.specs.declared.machine.split.Expansion.{Expansion}
use Rattle.rp_pattern.specs.declared.machine.split.Expansion.TheVariants.{Full as FullExpansion, Row as RowExpansion, Open as OpenExpansion, Split as SplitExpansion}
use Rattle.rp_pattern.specs.Placed.{are_placed, placed_ways, placed}
use Rattle.rp_pattern.specs.Linked.{linked_ways}
use Rattle.rp_pattern.specs.Rests.{Rest, Way, stack_left, stack_cost, first_weight, pushed, IsPut, TakenUp, SpendsWays}
use Rattle.rp_pattern.specs.declared.ways.Ways.{Ways}
use Rattle.rp_pattern.specs.declared.ways.Ways.TheVariants.{Linked, Compiled}
use Rattle.rp_pattern.specs.Ways.{IsNumbered, all_weight, kept_of, kept_weight, stack_of, weight_below, whole_cost}
use Rattle.rp_pattern.specs.Choices.{height, spared, turns_under, costs, top_weight, kept, BeginsWith, KeepsUnder, Spends}
use Rattle.rp_pattern.proofs.ChoiceStacks.{Stack, height_is}

abbrev first_cost_of : List Way → ℕ
first_cost_of [] = 0
first_cost_of (w ∷ ws) = w.rest.cost

-- ---- places of a program

pub some_cost : (p : Program) (place : ℕ) → 0 < place_cost p place
unfolding place_cost
some_cost p place = omega arith

pub dropped_cost : (p : Program) (old new : List PlacedChoice) (c : PlacedChoice) → old ≡ c ∷ drop 1 old → new ≡ drop 1 old →
    stack_cost (placed_ways p new) < stack_cost (placed_ways p old)
dropped_cost p old new c on set =
    let a = ap (λ zs. stack_cost (placed_ways p zs)) on in
    let b = ap (λ zs. stack_cost (placed_ways p zs)) set in
    omega (arith, a, b, some_cost p c.place)

-- what comes next, in the place of the first choice
pub next_cost : (p : Program) (old new : List PlacedChoice) (c : PlacedChoice) (depth : ℕ) (next : Option ℕ) → old ≡ c ∷ drop 1 old →
    option_cost p next < place_cost p c.place → new ≡ placed depth next (drop 1 old) → stack_cost (placed_ways p new) < stack_cost (placed_ways p old)
next_cost p old new c depth None on less set = dropped_cost p old new c on set
next_cost p old new c depth (Some q) on less set =
    let a = ap (λ zs. stack_cost (placed_ways p zs)) on in
    let b = ap (λ zs. stack_cost (placed_ways p zs)) set in
    omega (arith, a, b, less)

-- where they fall, they fall but for what a split takes
pub falls_spend : (p : Program) (old new : List PlacedChoice) → stack_cost (placed_ways p new) < stack_cost (placed_ways p old) →
    SpendsWays (placed_ways p old) (placed_ways p new) SplitExpansion
falls_spend p old new less = omega (arith, less)

pub split_cost : (p : Program) (old new : List PlacedChoice) (c : PlacedChoice) (a b : ℕ) → old ≡ c ∷ drop 1 old → place_weight p c.place ≡ place_cost p a + place_cost p b →
    new ≡ (record { depth = c.depth; place = a }) ∷ (record { depth = c.depth; place = b }) ∷ drop 1 old → SpendsWays (placed_ways p old) (placed_ways p new) SplitExpansion
split_cost p old new c a b on both set =
    let x = ap (λ zs. stack_cost (placed_ways p zs)) on in
    let w = ap (λ zs. first_weight (placed_ways p zs)) on in
    let y = ap (λ zs. stack_cost (placed_ways p zs)) set in
    omega (arith, x, w, y, both, some_cost p c.place)

-- the first place, on an empty stack
pub first_cost : (p : Program) (old new : List PlacedChoice) (first : ℕ) → old ≡ [] → first ≡ first_place p → (r : Result Unit AllocError) →
    OnOk r (new ≡ (record { depth = 0; place = first }) ∷ old) →
    OnOk r (stack_cost (placed_ways p new) + first_weight (placed_ways p new) ≤ place_cost p (first_place p) + place_weight p (first_place p))
first_cost p old new first none at (Err x) h = tt
first_cost p old new first none at (Ok x) h =
    let set : new ≡ (record { depth = 0; place = first_place p }) ∷ [] = h ∙ ap (λ zs. (record { depth = 0; place = first }) ∷ zs) none ∙ ap (λ q. (record { depth = 0; place = q }) ∷ []) at in
    let a = ap (λ zs. stack_cost (placed_ways p zs)) set in
    let b = ap (λ zs. first_weight (placed_ways p zs)) set in
    omega (arith, a, b)

-- a first choice at a place that doesn't split
pub top_weightless : (p : Program) (cs : List PlacedChoice) (c : PlacedChoice) → cs ≡ c ∷ drop 1 cs → place_weight p c.place ≡ 0 → first_weight (placed_ways p cs) ≡ 0
top_weightless p cs c on none = ap (λ zs. first_weight (placed_ways p zs)) on ∙ none

-- ---- linked parts

linked_cost : (cs : List Choice) → stack_cost (linked_ways cs) ≡ length (linked_ways cs)
linked_cost [] = refl
linked_cost (c ∷ cs) = omega (arith, linked_cost cs)

pushed_most : (d : ℕ) (r : Option Rest) (ws : List Way) → length (pushed d r ws) ≤ length ws + 1
pushed_most d None ws = omega arith
pushed_most d (Some r) ws = omega arith

pub linked_spends : (Stays : Type 0) (n : ℕ) (e : End) (i : ℕ) (old new : List Choice) (x : Expansion) → TakenUp Stays n e i (linked_ways old) (linked_ways new) x →
    SpendsWays (linked_ways old) (linked_ways new) x
linked_spends Stays n e i [] new x h = absurd h
linked_spends Stays n e i (c ∷ cs) new FullExpansion h = tt
linked_spends Stays n e i (c ∷ cs) new (RowExpansion l) h = tt
linked_spends Stays n e i (c ∷ cs) new OpenExpansion h = tt
linked_spends Stays n e i (c ∷ cs) new SplitExpansion h =
    let one = pushed_most c.depth h.other (linked_ways cs) in
    let two = pushed_most c.depth h.preferred (pushed c.depth h.other (linked_ways cs)) in
    omega (arith, linked_cost cs, linked_cost new, ap length h.is, one, two)

pub all_linked : (Stays : Type 0) (n : ℕ) (e : End) (i : ℕ) (old new : List Choice) (r : Result Expansion AllocError) →
    IfOk r (TakenUp Stays n e i (linked_ways old) (linked_ways new)) → IfOk r (SpendsWays (linked_ways old) (linked_ways new))
all_linked Stays n e i old new (Ok x) h = linked_spends Stays n e i old new x h
all_linked Stays n e i old new (Err x) h = tt

first_two : (cs : List Choice) → first_weight (linked_ways cs) ≤ 2
first_two [] = omega arith
first_two (c ∷ cs) = omega arith

pub linked_begins : (p : ℕ → End → WordsAndTurns) (i depth : ℕ) (new : List Choice) (r : Result Unit AllocError) → OnOk r (IsPut p i depth [] (linked_ways new)) →
    OnOk r (stack_cost (linked_ways new) + first_weight (linked_ways new) ≤ 3)
linked_begins p i depth new (Err x) h = tt
linked_begins p i depth new (Ok x) h = omega (arith, linked_cost new, ap length h.is, pushed_most depth h.rest [], first_two new)

-- ---- choices

-- a way takes a turn at least
some_way : (w : Ways) (t : Way) (ts : List Way) → stack_of w ≡ t ∷ ts → 0 < t.rest.cost
some_way (Linked l) t ts on = linked_first l.stack on
  where
    linked_first : (cs : List Choice) → linked_ways cs ≡ t ∷ ts → 0 < t.rest.cost
    linked_first [] h = absurd cc
    linked_first (c ∷ cs) h = omega (arith, ap (λ ws. first_cost_of ws) h)
some_way (Compiled k) t ts on = placed_first k.stack on
  where
    placed_first : (cs : List PlacedChoice) → placed_ways k.program.value cs ≡ t ∷ ts → 0 < t.rest.cost
    placed_first [] h = absurd cc
    placed_first (c ∷ cs) h = omega (arith, ap (λ ws. first_cost_of ws) h, some_cost k.program.value c.place)

one_below : (k i : ℕ) (f : ℕ → ℕ) → i < k → f i ≤ weight_below k f
one_below zero i f lt = absurd (omega (arith, lt))
one_below (suc k) i f lt = go (nat_lt i k) refl (λ before. one_below k i f before)
  where
    go : (b : Bool) → nat_lt i k ≡ b → (i < k → f i ≤ weight_below k f) → f i ≤ weight_below k f + f k
    go true e more = let before : i < k = grind (arith, nat_tests) in omega (arith, more before)
    go false e more = let at : i ≡ k = grind (arith, nat_tests) in omega (arith, ap f at)

first_placed : (k : ℕ) (c : PlacedChoice) (cs : List PlacedChoice) → IsTrue (are_placed k (c ∷ cs)) → c.place < k
first_placed k c cs h = go (nat_lt c.place k) refl h
  where
    go : (b : Bool) → nat_lt c.place k ≡ b → IsTrue (b && are_placed k cs) → c.place < k
    go true e h = grind (arith, nat_tests)
    go false e h = absurd cc

-- no split takes more than all of them
weighs_most : (w : Ways) → IsNumbered (kept_of w) → first_weight (stack_of w) ≤ all_weight (kept_of w)
weighs_most (Linked l) h = absurd h
weighs_most (Compiled k) h = go k.stack k.placed
  where
    go : (cs : List PlacedChoice) → IsTrue (are_placed (place_count k.program.value) cs) → first_weight (placed_ways k.program.value cs) ≤ all_weight (kept_of (Compiled k))
    go [] t = omega arith
    go (c ∷ cs) t = one_below (place_count k.program.value) c.place (kept_weight (kept_of (Compiled k))) (first_placed (place_count k.program.value) c cs t)

module _ (c : Choices) where
  pub costs_begun : c.begun ≡ true → costs c ≡ stack_cost (stack_of c.ways)
  unfolding costs
  costs_begun h = ap (λ b. cond b (stack_cost (stack_of c.ways)) (whole_cost (kept_of c.ways))) h

  pub costs_not : c.begun ≡ false → costs c ≡ whole_cost (kept_of c.ways)
  unfolding costs
  costs_not h = ap (λ b. cond b (stack_cost (stack_of c.ways)) (whole_cost (kept_of c.ways))) h

  pub weight_begun : c.begun ≡ true → top_weight c ≡ first_weight (stack_of c.ways)
  unfolding top_weight
  weight_begun h = ap (λ b. cond b (first_weight (stack_of c.ways)) 0) h

  pub weight_not : c.begun ≡ false → top_weight c ≡ 0
  unfolding top_weight
  weight_not h = ap (λ b. cond b (first_weight (stack_of c.ways)) 0) h

  pub kept_is : kept c ≡ kept_of c.ways
  unfolding kept
  kept_is = refl

pub top_most : (c : Choices) → IsNumbered (kept c) → top_weight c ≤ all_weight (kept c)
unfolding top_weight kept
top_most c h = go c.begun
  where
    go : (b : Bool) → cond b (first_weight (stack_of c.ways)) 0 ≤ all_weight (kept_of c.ways)
    go true = weighs_most c.ways h
    go false = omega arith

pub same_kept : (old new : Choices) → kept_of new.ways ≡ kept_of old.ways → kept new ≡ kept old
same_kept old new h = kept_is new ∙ h ∙ sym (kept_is old)

-- an empty one
pub empty_costs : (old new : Choices) → new.begun ≡ false → kept_of new.ways ≡ kept_of old.ways → costs new ≡ whole_cost (kept old)
empty_costs old new not h = costs_not new not ∙ ap whole_cost (h ∙ sym (kept_is old))

pub begins_same : (old : Choices) → BeginsWith old old
begins_same old = record { most = omega arith; with_top = omega arith }

pub begins_put : (old new : Choices) → old.begun ≡ false → new.begun ≡ true → stack_cost (stack_of new.ways) + first_weight (stack_of new.ways) ≤ whole_cost (kept_of old.ways) →
    BeginsWith old new
begins_put old new not begun h =
    let a = costs_not old not in
    let b = costs_begun new begun in
    let w = weight_begun new begun in
    record { most = omega (arith, a, b, h); with_top = omega (arith, a, b, w, h) }

-- nothing was taken up yet
pub new_costs : (c : Choices) → c.begun ≡ false → costs c ≡ whole_cost (kept c)
new_costs c not = empty_costs c c not refl

-- the first one is dropped
pub dropped_less : (old new : Choices) → old.begun ≡ true → new.begun ≡ true → (t : Way) → stack_of old.ways ≡ t ∷ drop 1 (stack_of old.ways) → stack_of new.ways ≡ drop 1 (stack_of old.ways) →
    costs new < costs old
dropped_less old new b b' t on dropped =
    let a = costs_begun old b in
    let d = costs_begun new b' in
    let p = some_way old.ways t (drop 1 (stack_of old.ways)) on in
    omega (arith, a, d, ap stack_cost on, ap stack_cost dropped, p)

-- what follows takes the place of the row
pub admitted_costs : (old new : Choices) → old.begun ≡ true → new.begun ≡ true → (r : Result Unit AllocError) →
    OnOk r (IsNumbered (kept_of old.ways) → stack_cost (stack_of new.ways) < stack_cost (stack_of old.ways)) → OnOk r (IsNumbered (kept old) → costs new < costs old)
admitted_costs old new b b' (Err x) h = tt
admitted_costs old new b b' (Ok x) h = λ numbered. omega (arith, costs_begun old b, costs_begun new b', h (subst IsNumbered (kept_is old) numbered))

-- what an expansion costs
pub taken_spends : (old new : Choices) → old.begun ≡ true → new.begun ≡ true → SpendsWays (stack_of old.ways) (stack_of new.ways) SplitExpansion → Spends old new Split
taken_spends old new b b' h = omega (arith, h, costs_begun old b, costs_begun new b', weight_begun old b)

pub same_spends : (old new : Choices) → old.begun ≡ true → new.begun ≡ true → stack_of new.ways ≡ stack_of old.ways → costs new ≤ costs old
same_spends old new b b' h = omega (arith, costs_begun old b, costs_begun new b', ap stack_cost h)

-- the whole was put on the stack before
pub spends_from : (old mid new : Choices) → BeginsWith old mid → (t : Taken) → Spends mid new t → Spends old new t
spends_from old mid new b Row h = omega (arith, b.most, h)
spends_from old mid new b Split h = omega (arith, b.with_top, h)
spends_from old mid new b FullTaken h = omega (arith, b.most, h)
spends_from old mid new b OpenTaken h = omega (arith, b.most, h)
spends_from old mid new b Nothing h = (omega (arith, b.most, h.0), h.1)

pub all_spends : (old mid new : Choices) → BeginsWith old mid → (r : Result Taken AllocError) → IfOk r (Spends mid new) → IfOk r (Spends old new)
all_spends old mid new b (Ok t) h = spends_from old mid new b t h
all_spends old mid new b (Err x) h = tt

-- ---- choices under a height

pub under_is : (c : Choices) (s : ℕ) (ls : List Label) (ds : List Way) → Stack c s ls ds → (h n : ℕ) (e : End) →
    turns_under c h n e ≡ spared c n e + stack_left n e s (drop (length ds - h) ds)
unfolding turns_under
under_is c s ls ds q h n e =
    ap (λ z. spared c n e + stack_left n e z (drop (height c - h) (stack_of c.ways))) q.start
    ∙ ap (λ z. spared c n e + stack_left n e s (drop (height c - h) z)) q.choices
    ∙ ap (λ z. spared c n e + stack_left n e s (drop (z - h) ds)) (height_is c s ls ds q)

pub pushed_drop : (d h : ℕ) (r : Option Rest) (cs : List Way) → h ≤ length cs → drop (length (pushed d r cs) - h) (pushed d r cs) ≡ drop (length cs - h) cs
pushed_drop d h None cs le = refl
pushed_drop d h (Some r) cs le =
    let x : Way = record { depth = d; rest = r } in
    let i : length (x ∷ cs) - h ≡ suc (length cs - h) = omega (arith, le) in
    ap (λ z. drop z (x ∷ cs)) i

pushed_longer : (d : ℕ) (r : Option Rest) (cs : List Way) → length cs ≤ length (pushed d r cs)
pushed_longer d None cs = omega arith
pushed_longer d (Some r) cs = omega arith

-- two on others
pub split_drop : (d h : ℕ) (x y : Option Rest) (cs : List Way) → h ≤ length cs →
    drop (length (pushed d x (pushed d y cs)) - h) (pushed d x (pushed d y cs)) ≡ drop (length cs - h) cs
split_drop d h x y cs le = pushed_drop d h x (pushed d y cs) (omega (arith, le, pushed_longer d y cs)) ∙ pushed_drop d h y cs le

pub top_drop : (t : Way) (cs : List Way) (h : ℕ) → h ≤ length cs → drop (length (t ∷ cs) - h) (t ∷ cs) ≡ drop (length cs - h) cs
top_drop t cs h le =
    let i : length (t ∷ cs) - h ≡ suc (length cs - h) = omega (arith, le) in
    ap (λ z. drop z (t ∷ cs)) i

-- what comes on the choices below the preferred one leaves those under a height
pub keeps_under : (old new : Choices) (s : ℕ) (ls ms : List Label) (t : Way) (cs ds : List Way) → Stack old s ls (t ∷ cs) → Stack new s ms ds →
    ((n : ℕ) (e : End) → spared new n e ≡ spared old n e) → ((h : ℕ) → h ≤ length cs → drop (length ds - h) ds ≡ drop (length cs - h) cs) → KeepsUnder old new
keeps_under old new s ls ms t cs ds k m q same h n e lt =
    let le : h ≤ length cs = omega (arith, lt, height_is old s ls (t ∷ cs) k) in
    let now : stack_left n e s (drop (length ds - h) ds) ≡ stack_left n e s (drop (length (t ∷ cs) - h) (t ∷ cs)) = ap (stack_left n e s) (same h le ∙ sym (top_drop t cs h le)) in
    omega (arith, under_is new s ms ds m h n e, under_is old s ls (t ∷ cs) k h n e, q n e, now)

-- no choice is on the stack
pub none_under : (old new : Choices) (s : ℕ) (ls : List Label) → Stack old s ls [] → KeepsUnder old new
none_under old new s ls k h n e lt = absurd (omega (arith, lt, height_is old s ls [] k))

pub under_from : (old mid new : Choices) → ((h : ℕ) → h < height old → h < height mid) → KeepsUnder old mid → KeepsUnder mid new → KeepsUnder old new
under_from old mid new high k m h n e lt = m h n e (high h lt) ∙ k h n e lt

pub all_under : {T : Type 0} (old mid new : Choices) → ((h : ℕ) → h < height old → h < height mid) → KeepsUnder old mid → (r : Result T AllocError) → OnOk r (KeepsUnder mid new) → OnOk r (KeepsUnder old new)
all_under old mid new high k (Ok t) h = under_from old mid new high k h
all_under old mid new high k (Err x) h = tt

-- fewer choices take fewer turns
pub drop_left : (n : ℕ) (e : End) (s k : ℕ) (ws : List Way) → stack_left n e s (drop k ws) ≤ stack_left n e s ws
drop_left n e s zero ws = omega arith
drop_left n e s (suc k) [] = omega arith
drop_left n e s (suc k) (w ∷ ws) = omega (arith, drop_left n e s k ws)

-- a row is mapped, and what follows it takes its place
pub row_under : (old new : Choices) (r : Option Rest) → old.begun ≡ true → new.begun ≡ true → new.start ≡ old.start →
    stack_of new.ways ≡ pushed (length old.labels.items) r (drop 1 (stack_of old.ways)) → 0 < length (stack_of old.ways) → ((n : ℕ) (e : End) → spared new n e ≡ spared old n e) → KeepsUnder old new
row_under old new r b b' s on some q = go (stack_of old.ways) refl
  where
    go : (ws : List Way) → stack_of old.ways ≡ ws → KeepsUnder old new
    go [] is = absurd (omega (arith, some, ap length is))
    go (t ∷ cs) is =
        let d = length old.labels.items in
        keeps_under old new old.start old.labels.items new.labels.items t cs (pushed d r cs) (record { begun = b; start = refl; labels = refl; choices = is })
        (record { begun = b'; start = s; labels = refl; choices = on ∙ ap (λ ws. pushed d r (drop 1 ws)) is }) q (λ k le. pushed_drop d k r cs le)
