-- What taking up the preferred choice came to, from what its way came to.
use Rattle.std.proofs.Common.{◌≡◌, ◌≤◌, ℕ, ◌+◌, List, [], ◌∷◌, ◌++◌, length, take, drop, true, IsTrue, refl, ap, ◌∙◌, subst}
use Rattle.rp_words.specs.declared.word.End.{End}
use Rattle.rp_words.specs.declared.word.Label.{Label}
use Rattle.rp_pattern.specs.declared.choices.Choices.{Choices}
use Rattle.rp_pattern.specs.declared.choices.Taken.{Taken}
use Rattle.rp_pattern.specs.declared.choices.Taken.TheVariants.{Row, Split, Full as FullTaken, Open as OpenTaken}
use Rattle.rp_pattern.specs.declared.machine.split.Expansion.{Expansion}
use Rattle.rp_pattern.specs.declared.machine.split.Expansion.TheVariants.{Full as FullExpansion, Row as RowExpansion, Open as OpenExpansion, Split as SplitExpansion}
use Rattle.rp_pattern.specs.declared.ways.Ways.{Ways}
use Rattle.rp_pattern.specs.Rests.{Way, TakenUp, SpendsWays, HasDepth, pushed, rises}
use Rattle.rp_pattern.specs.Ways.{kept_of, stack_of}
use Rattle.rp_pattern.specs.Choices.{costs, spared, TakenAs, KeepsUnder, Spends}
use Rattle.rp_pattern.proofs.ChoiceStacks.{Stack, same_spared, is_full, is_open, is_split, maps_row}
use Rattle.rp_pattern.proofs.Rising.{taken_first}
use Rattle.rp_pattern.proofs.Costs.{keeps_under, same_spends, split_drop, taken_spends, top_drop}

-- what the choice came to, by what its way came to
abbrev pub taken_of : Expansion → Taken
taken_of FullExpansion = FullTaken
taken_of (RowExpansion l) = Row
taken_of OpenExpansion = OpenTaken
taken_of SplitExpansion = Split

-- the labels before it, and that of the row that it maps
abbrev pub labels_of : List Label → Expansion → List Label
labels_of before FullExpansion = before
labels_of before (RowExpansion l) = before ++ l ∷ []
labels_of before OpenExpansion = before
labels_of before SplitExpansion = before

-- The first way, which has so many labels before it, came to this, and now these ways and labels are there.
pub record IsTopTaken (old : Choices) (ways : Ways) (labels : List Label) (n : ℕ) (e : End) (depth : ℕ) (x : Expansion) : Type 0 where
  pub begun : old.begun ≡ true
  pub top : HasDepth depth (stack_of old.ways) (drop 1 (stack_of old.ways))
  pub cut : labels ≡ labels_of (take depth old.labels.items) x
  pub kept : kept_of ways ≡ kept_of old.ways
  pub taken : TakenUp (ways ≡ old.ways) n e (old.start + depth) (stack_of old.ways) (stack_of ways) x
  pub spends : SpendsWays (stack_of old.ways) (stack_of ways) x

-- Where the way came to x, which is y, the facts are read at y.
pub top_came : {old : Choices} {ways : Ways} {labels : List Label} {n : ℕ} {e : End} {depth : ℕ} (x y : Expansion) → x ≡ y →
    old.begun ≡ true → HasDepth depth (stack_of old.ways) (drop 1 (stack_of old.ways)) → labels ≡ labels_of (take depth old.labels.items) y → kept_of ways ≡ kept_of old.ways →
    TakenUp (ways ≡ old.ways) n e (old.start + depth) (stack_of old.ways) (stack_of ways) x → SpendsWays (stack_of old.ways) (stack_of ways) x → IsTopTaken old ways labels n e depth y
top_came {old} {ways} {labels} {n} {e} {depth} x y is begun top cut kept taken spends =
    let came = subst (λ z. TakenUp (ways ≡ old.ways) n e (old.start + depth) (stack_of old.ways) (stack_of ways) z) is taken in
    record { begun = begun; top = top; cut = cut; kept = kept; taken = came; spends = subst (SpendsWays (stack_of old.ways) (stack_of ways)) is spends }

module _ (old new : Choices) (n : ℕ) (e : End) (depth : ℕ) (begun : new.begun ≡ true) (start : new.start ≡ old.start) where
  abbrev Came : Expansion → Type 0
  Came x = IsTopTaken old new.ways new.labels.items n e depth x

  abbrev way : (x : Expansion) → Came x → Way
  way x h = record { depth = depth; rest = h.top.rest }

  abbrev below : List Way
  below = drop 1 (stack_of old.ways)

  came : (x : Expansion) (h : Came x) → TakenUp (new.ways ≡ old.ways) n e (old.start + depth) (way x h ∷ below) (stack_of new.ways) x
  came x h = taken_first old.ways new.ways (way x h) below n e (old.start + depth) x x h.top.is refl h.taken

  before : (x : Expansion) (h : Came x) → Stack old old.start old.labels.items (way x h ∷ below)
  before x h = record { begun = h.begun; start = refl; labels = refl; choices = h.top.is }

  now : (x : Expansion) (h : Came x) (ws : List Way) → stack_of new.ways ≡ ws → Stack new old.start (labels_of (take depth old.labels.items) x) ws
  now x h ws is = record { begun = begun; start = start; labels = h.cut; choices = is }

  stays : (x : Expansion) (h : Came x) → new.ways ≡ old.ways → Stack new old.start (labels_of (take depth old.labels.items) x) (way x h ∷ below)
  stays x h same = now x h (way x h ∷ below) (ap stack_of same ∙ h.top.is)

  rising : (x : Expansion) (h : Came x) → IsTrue (rises (length old.labels.items) (way x h ∷ below))
  rising x h = subst (λ ws. IsTrue (rises (length old.labels.items) ws)) h.top.is old.rises

  same : (x : Expansion) → Came x → (n' : ℕ) (e' : End) → spared new n' e' ≡ spared old n' e'
  same x h = same_spared old new start h.kept

  pub top_taken_as : (x : Expansion) → Came x → TakenAs old new n e (taken_of x)
  top_taken_as FullExpansion h =
      let x = FullExpansion in is_full old new old.start old.labels.items (way x h) below n e (before x h) (rising x h) (same x h) (stays x h (came x h).0) (came x h).1
  top_taken_as (RowExpansion l) h =
      let x = RowExpansion l in maps_row old new old.start old.labels.items (way x h) below n e (before x h) (rising x h) (same x h) l (stays x h (came x h).0) (came x h).1
  top_taken_as OpenExpansion h =
      let x = OpenExpansion in is_open old new old.start old.labels.items (way x h) below n e (before x h) (rising x h) (same x h) (stays x h (came x h).0) (came x h).1
  top_taken_as SplitExpansion h =
      let x = SplitExpansion in let w = came x h in
      is_split old new old.start old.labels.items (way x h) below n e (before x h) (rising x h) (same x h) w.preferred w.other (now x h _ w.is) w.splits

  stays_under : (x : Expansion) (h : Came x) → new.ways ≡ old.ways → KeepsUnder old new
  stays_under x h is =
      let w = way x h in
      keeps_under old new old.start old.labels.items (labels_of (take depth old.labels.items) x) w below (w ∷ below) (before x h) (stays x h is) (same x h) (top_drop w below)

  pub top_under : (x : Expansion) → Came x → KeepsUnder old new
  top_under FullExpansion h = stays_under FullExpansion h (came FullExpansion h).0
  top_under (RowExpansion l) h = stays_under (RowExpansion l) h (came (RowExpansion l) h).0
  top_under OpenExpansion h = stays_under OpenExpansion h (came OpenExpansion h).0
  top_under SplitExpansion h =
      let x = SplitExpansion in let w = came x h in
      keeps_under old new old.start old.labels.items (take depth old.labels.items) (way x h) below (pushed depth w.preferred (pushed depth w.other below))
      (before x h) (now x h _ w.is) (same x h) (λ k le. split_drop depth k w.preferred w.other below le)

  stays_spends : (x : Expansion) → Came x → new.ways ≡ old.ways → costs new ≤ costs old
  stays_spends x h is = same_spends old new h.begun begun (ap stack_of is)

  pub top_spends : (x : Expansion) → Came x → Spends old new (taken_of x)
  top_spends FullExpansion h = stays_spends FullExpansion h (came FullExpansion h).0
  top_spends (RowExpansion l) h = stays_spends (RowExpansion l) h (came (RowExpansion l) h).0
  top_spends OpenExpansion h = stays_spends OpenExpansion h (came OpenExpansion h).0
  top_spends SplitExpansion h = taken_spends old new h.begun begun h.spends
