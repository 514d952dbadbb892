-- Inside: what a stack of choices stands for. A choice is a way to go on: so many labels come before it, and this much is left of
-- the pattern. The preferred one is on top.
use Rattle.std.specs.Prelude.{◌≡◌, ℕ, ◌+◌, ◌-◌, ◌<◌, ◌≤◌, true, cond, List, [], ◌∷◌, ◌++◌, map, length, take, drop}
use Rattle.std.specs.List.{AllByRecursion}
use Rattle.rp_words.specs.declared.word.End.{End}
use Rattle.rp_words.specs.declared.form.Form.{Form}
use Rattle.rp_words.specs.Words.{words}
use Rattle.rp_words.specs.Turns.{turns}
use Rattle.rp_words.specs.declared.word.End.TheVariants.{Open as OpenEnd}
use Rattle.rp_words.specs.declared.word.Label.{Label}
use Rattle.rp_pattern.specs.declared.choices.Choices.{Choices}
use Rattle.rp_pattern.specs.declared.choices.SplitPoint.{SplitPoint}
use Rattle.rp_pattern.specs.declared.choices.Taken.{Taken}
use Rattle.rp_pattern.specs.declared.choices.Taken.TheVariants.{Row, Split, Full as FullTaken, Open as OpenTaken, Nothing}
use Rattle.rp_words.specs.Mapping.{Mapping, Full, Open, preceded}
use Rattle.rp_words.specs.Later.{AtEachLater}
use Rattle.rp_pattern.specs.Rests.{Way, left_at, stack_words, stack_left, stack_cost, first_weight, first_later, OfFirst}
use Rattle.rp_pattern.specs.Ways.{Kept, IsNumbered, kept_of, stack_of, origin, most_turns, kept_place_words, kept_place_left, kept_places, kept_weight, whole_cost}

-- the start row
unfoldable pub start_of : Choices → ℕ
start_of c = c.start

-- the labels as they stand: those before the choice that was taken up or given up last and, until it is given up, that
-- of the row that it maps. The preferred choice may have fewer before it; when it is taken up, they are cut back to it.
unfoldable pub entered : Choices → List Label
entered c = c.labels.items

-- the words of its pattern from any row, over the rows 1 to n and that end
unfoldable pub whole_from : Choices → ℕ → End → ℕ → List Mapping
whole_from c n e row = (origin (kept_of c.ways) n e).0 row

-- how many turns these words take at most, and one more for each of them
unfoldable pub whole_turns_from : Choices → ℕ → End → ℕ → ℕ
whole_turns_from c n e row = most_turns (kept_of c.ways) n e row + length ((origin (kept_of c.ways) n e).0 row)

-- the whole: the words of its pattern from the start row
unfoldable pub whole : Choices → ℕ → End → List Mapping
whole c n e = (origin (kept_of c.ways) n e).0 c.start

-- how many turns the whole takes at most, and one more for each of its words
unfoldable pub whole_turns : Choices → ℕ → End → ℕ
whole_turns c n e = most_turns (kept_of c.ways) n e c.start + length ((origin (kept_of c.ways) n e).0 c.start)

-- by how many turns the pattern, as it is kept, goes below those that its words take at most
unfoldable pub spared : Choices → ℕ → End → ℕ
spared c n e = most_turns (kept_of c.ways) n e c.start - (origin (kept_of c.ways) n e).1 c.start

-- the words of the choices on the stack, which are not given up, in preferment order. Before the first is taken up,
-- they are the whole.
unfoldable pub remaining : Choices → ℕ → End → List Mapping
remaining c n e =
    cond c.begun (stack_words n e c.start c.labels.items (stack_of c.ways)) ((origin (kept_of c.ways) n e).0 c.start)

-- how many turns the remaining words take at most, and one more for each of them
unfoldable pub turns_left : Choices → ℕ → End → ℕ
turns_left c n e =
    cond c.begun (spared c n e + stack_left n e c.start (stack_of c.ways)) (most_turns (kept_of c.ways) n e c.start + length ((origin (kept_of c.ways) n e).0 c.start))

-- the words of the choices under the preferred one
unfoldable pub below : Choices → ℕ → End → List Mapping
below c n e = stack_words n e c.start c.labels.items (drop 1 (stack_of c.ways))

-- how many choices are on the stack. None is before the first is taken up.
unfoldable pub height : Choices → ℕ
height c = cond c.begun (length (stack_of c.ways)) 0

-- the words of the preferred choice
unfoldable pub of_top : Choices → ℕ → End → List Mapping
of_top c n e = stack_words n e c.start c.labels.items (take 1 (stack_of c.ways))

-- the labels before the preferred choice
abbrev pub cut_to : List Way → List Label → List Label
cut_to [] labels = []
cut_to (w ∷ ws) labels = take w.depth labels

unfoldable pub before_top : Choices → List Label
before_top c = cut_to (stack_of c.ways) c.labels.items

-- the words of the choices above the lowest h of the stack
unfoldable pub above : Choices → ℕ → ℕ → End → List Mapping
above c h n e = stack_words n e c.start c.labels.items (take (height c - h) (stack_of c.ways))

-- the words of the choices above the lowest h, but for the preferred one
unfoldable pub above_below : Choices → ℕ → ℕ → End → List Mapping
above_below c h n e = stack_words n e c.start c.labels.items (take (length (drop 1 (stack_of c.ways)) - h) (drop 1 (stack_of c.ways)))

-- the words of a place of the pattern from a row, over the rows 1 to n and that end
unfoldable pub place_words : Choices → ℕ → ℕ → End → ℕ → List Mapping
place_words c place n e row = kept_place_words (kept_of c.ways) place n e row

-- how many turns those below take at most, and one more for each of them
unfoldable pub turns_left_below : Choices → ℕ → End → ℕ
turns_left_below c n e = spared c n e + stack_left n e c.start (drop 1 (stack_of c.ways))

-- the words that may follow the row that the preferred choice maps
unfoldable pub after : Choices → ℕ → End → List Mapping
after c n e = (first_later (stack_of c.ways) n e).0 (c.start + length c.labels.items)

-- how many turns those after take at most, and one more for each of them
unfoldable pub turns_left_after : Choices → ℕ → End → ℕ
turns_left_after c n e = left_at (first_later (stack_of c.ways) n e) (c.start + length c.labels.items)

-- the same of the choices that aren't above that height, with the turns spared
unfoldable pub turns_under : Choices → ℕ → ℕ → End → ℕ
turns_under c h n e = spared c n e + stack_left n e c.start (drop (height c - h) (stack_of c.ways))

-- how its pattern is kept
unfoldable pub kept : Choices → Kept
kept c = kept_of c.ways

-- how many turns the choices on the stack take, where each split that they come to has failed before
unfoldable pub costs : Choices → ℕ
costs c = cond c.begun (stack_cost (stack_of c.ways)) (whole_cost (kept_of c.ways))

-- how many more the preferred choice takes, where it splits and hasn't failed
unfoldable pub top_weight : Choices → ℕ
top_weight c = cond c.begun (first_weight (stack_of c.ways)) 0

-- there is a preferred choice, so that it can be given up
unfoldable pub HasTop : Choices → Type 0
HasTop c = (c.begun ≡ true) × OfFirst (λ w. Unit {0}) (stack_of c.ways)

-- There is a preferred choice, and one label more than come before it, as where that choice maps a row: the last label is that
-- row's.
unfoldable pub AtRow : Choices → Type 0
AtRow c = (c.begun ≡ true) × OfFirst (λ w. w.depth + 1 ≡ length c.labels.items) (stack_of c.ways)

-- ---- what an operation does

-- the stack has been filled with the whole, for its first choice to be taken up
abbrev pub HasBegun : Choices → Type 0
HasBegun c = c.begun ≡ true

-- labels cut back: the first k of these, for some k
abbrev pub AreFirstOf : List Label → List Label → Type 0
AreFirstOf ls of = (k : ℕ) × (ls ≡ take k of)

-- labels cut back by one at least: the first k of these, for some k less than their number
abbrev pub AreStrictlyFirstOf : List Label → List Label → Type 0
AreStrictlyFirstOf ls of = (k : ℕ) × (k < length of) × (ls ≡ take k of)

-- labels cut back, with one more behind them: the first ones of these, as many as `depth`, and then the label
pub record AreFirstAndOne (ls of : List Label) : Type 0 where
  pub depth : ℕ
  pub label : Label
  pub is : ls ≡ take depth of ++ label ∷ []

-- The pattern stays: from every row it has the words that it had, and as many turns, and so has each of its places.
pub record IsSamePattern (old new : Choices) : Type 0 where
  pub words : (n : ℕ) (e : End) (row : ℕ) → whole_from new n e row ≡ whole_from old n e row
  pub left : (n : ℕ) (e : End) (row : ℕ) → whole_turns_from new n e row ≡ whole_turns_from old n e row
  pub places : (place n : ℕ) (e : End) (row : ℕ) → place_words new place n e row ≡ place_words old place n e row

-- It lists the words of this pattern from the start row on, and takes as many turns.
pub record IsListOf (f : Form) (start : ℕ) (c : Choices) : Type 0 where
  pub from : (n : ℕ) (e : End) (row : ℕ) → whole_from c n e row ≡ words n e f row
  pub left_from : (n : ℕ) (e : End) (row : ℕ) → whole_turns_from c n e row ≡ turns n e f row + length (words n e f row)
  pub all : (n : ℕ) (e : End) → whole c n e ≡ words n e f start
  pub all_turns : (n : ℕ) (e : End) → whole_turns c n e ≡ turns n e f start + length (words n e f start)

-- The start row and the pattern stay, and so do the whole, the words from the start row, and its turns.
pub record IsSameWhole (old new : Choices) : Type 0 where
  pub start : start_of new ≡ start_of old
  pub words : (n : ℕ) (e : End) → whole new n e ≡ whole old n e
  pub left : (n : ℕ) (e : End) → whole_turns new n e ≡ whole_turns old n e
  pub pattern : IsSamePattern old new

-- The remaining words stay, and so does the number of turns left for them, now and whatever comes later.
pub record IsSameRemaining (old new : Choices) (n : ℕ) (e : End) : Type 0 where
  pub words : AtEachLater n e (λ n' e'. remaining new n' e' ≡ remaining old n' e')
  pub turns : AtEachLater n e (λ n' e'. turns_left new n' e' ≡ turns_left old n' e')

-- The words of the choices above any height stay, now and whatever comes later.
abbrev pub KeepsAbove : Choices → Choices → ℕ → End → Type 0
KeepsAbove old new n e =
    (h : ℕ) → h < height old → (h < height new) × AtEachLater n e (λ n' e'. above new h n' e' ≡ above old h n' e')

-- The preferred choice maps a row: the remaining words are those that may follow the row, each behind the labels up to
-- it, and then those below. So are the words above any height, and the turns left, with one for the row itself.
pub record DividesAtRow (c : Choices) (n : ℕ) (e : End) : Type 0 where
  pub words : AtEachLater n e (λ n' e'. remaining c n' e' ≡ map (preceded (entered c)) (after c n' e') ++ below c n' e')
  pub turns : AtEachLater n e (λ n' e'. turns_left c n' e' ≡ 1 + turns_left_after c n' e' + turns_left_below c n' e')
  pub over : (h : ℕ) → h < height c → AtEachLater n e (λ n' e'.
      above c h n' e' ≡ map (preceded (entered c)) (after c n' e') ++ above_below c h n' e')

-- The preferred choice gave way to others: the labels are cut back, the remaining words stay, and fewer turns are left for
-- them. The words above any height below the choice stay too.
pub record IsSplit (old new : Choices) (n : ℕ) (e : End) : Type 0 where
  pub cut : AreFirstOf (entered new) (entered old)
  pub same : AtEachLater n e (λ n' e'. remaining new n' e' ≡ remaining old n' e')
  pub less : AtEachLater n e (λ n' e'. turns_left new n' e' < turns_left old n' e')
  pub keeps : (h : ℕ) → h < height old → (h ≤ height new) × AtEachLater n e (λ n' e'. above new h n' e' ≡ above old h n' e')

-- The preferred choice maps a known row, the next one: its label is entered behind those before the choice. The
-- remaining words and the turns left for them stay, and divide at that row.
pub record IsMappedRow (old new : Choices) (n : ℕ) (e : End) : Type 0 where
  pub enters : AreFirstAndOne (entered new) (entered old)
  pub known : start_of new + length (entered new) ≤ n + 1
  pub at_row : AtRow new
  pub has_top : HasTop new
  pub same : IsSameRemaining old new n e
  pub divides : DividesAtRow new n e
  pub keeps : KeepsAbove old new n e

-- The preferred choice is a full word, of the labels entered. The remaining words and the turns left for them stay: it is the first, and the others
-- are those below, for which fewer turns are left.
pub record IsFullWord (old new : Choices) (n : ℕ) (e : End) : Type 0 where
  pub cut : AreFirstOf (entered new) (entered old)
  pub has_top : HasTop new
  pub keeps : KeepsAbove old new n e
  pub same : IsSameRemaining old new n e
  pub first : AtEachLater n e (λ n' e'. remaining new n' e' ≡ Full (entered new) ∷ below new n' e')
  pub less_below : AtEachLater n e (λ n' e'. turns_left_below new n' e' < turns_left new n' e')

-- Over an open end the preferred choice runs into the row after the last known one. The remaining words and their turns stay: over the known rows an
-- open word, of the labels entered, is the first, and the others are those below, for which fewer turns are left. Where
-- the pattern has places, the choice may stand for more words, which are the same open one.
pub record IsOpenWord (old new : Choices) (n : ℕ) (e : End) : Type 0 where
  pub end : e ≡ OpenEnd
  pub cut : AreFirstOf (entered new) (entered old)
  pub has_top : HasTop new
  pub keeps : KeepsAbove old new n e
  pub same : IsSameRemaining old new n e
  pub more : List Mapping
  pub alone : (IsNumbered (kept new) → ⊥) → more ≡ []
  pub alike : AllByRecursion (λ w. w ≡ Open (entered new)) more
  pub first : remaining new n e ≡ Open (entered new) ∷ more ++ below new n e
  pub less_below : AtEachLater n e (λ n' e'. turns_left_below new n' e' < turns_left new n' e')

-- No word remains, now and whatever comes later, and none did before. The labels are cut back.
pub record IsNothing (old new : Choices) (n : ℕ) (e : End) : Type 0 where
  pub cut : AreFirstOf (entered new) (entered old)
  pub keeps : KeepsAbove old new n e
  pub same : IsSameRemaining old new n e
  pub none : AtEachLater n e (λ n' e'. remaining new n' e' ≡ [])

-- what the preferred choice came to when it was taken up, over the rows 1 to n and that end: a row, other choices, a
-- full word, an open one, or that there was none
abbrev pub TakenAs : Choices → Choices → ℕ → End → Taken → Type 0
TakenAs old new n e Row = IsMappedRow old new n e
TakenAs old new n e Split = IsSplit old new n e
TakenAs old new n e FullTaken = IsFullWord old new n e
TakenAs old new n e OpenTaken = IsOpenWord old new n e
TakenAs old new n e Nothing = IsNothing old new n e

-- The choices that aren't above a height below the top stay.
abbrev pub KeepsUnder : Choices → Choices → Type 0
KeepsUnder old new = (h n : ℕ) (e : End) → h < height old → turns_under new h n e ≡ turns_under old h n e

-- Where the whole was put on the stack, its turns are those that it had before, or fewer.
pub record BeginsWith (old new : Choices) : Type 0 where
  pub most : costs new ≤ costs old
  pub with_top : costs new + top_weight new ≤ costs old + top_weight old

-- What taking up the preferred choice costs: where it gave way to others the turns of all fall, but for what a split takes that
-- hasn't failed, and else they don't rise. Where there was none, none is on the stack.
abbrev pub Spends : Choices → Choices → Taken → Type 0
Spends old new Row = costs new ≤ costs old
Spends old new Split = costs new < costs old + top_weight old
Spends old new FullTaken = costs new ≤ costs old
Spends old new OpenTaken = costs new ≤ costs old
Spends old new Nothing = (costs new ≤ costs old) × (height new ≡ 0)

-- ---- places

-- The preferred choice is at this place of the pattern: its words are those of the place from its row, behind the labels
-- before it. They are the first of those that remain. It takes a turn at least.
pub record IsAtPlace (c : Choices) (place : ℕ) : Type 0 where
  pub has_top : HasTop c
  pub cut : AreFirstOf (before_top c) (entered c)
  pub words : (n : ℕ) (e : End) →
      of_top c n e ≡ map (preceded (before_top c)) (place_words c place n e (start_of c + length (before_top c)))
  pub divides : (n : ℕ) (e : End) → remaining c n e ≡ of_top c n e ++ below c n e
  pub turns : (n : ℕ) (e : End) → turns_left_below c n e < turns_left c n e
  pub there : place < kept_places (kept c)
  pub weighs : top_weight c ≡ kept_weight (kept c) place
  pub takes : (n : ℕ) (e : End) → turns_left c n e ≡
      kept_place_left (kept c) place n e (start_of c + length (before_top c)) + turns_left_below c n e
  pub under : (h n : ℕ) (e : End) → h < height c → turns_under c h n e ≤ turns_left_below c n e
  pub under_top : (h n : ℕ) (e : End) → h + 1 ≡ height c → turns_under c h n e ≡ turns_left_below c n e

-- The preferred choice gives way to two others, or may: it is at this place, goes on at this row, and is alone above so many choices.
pub record IsAtSplitPoint (c : Choices) (s : SplitPoint) : Type 0 where
  pub at : IsAtPlace c s.place
  pub row : s.row ≡ start_of c + length (before_top c)
  pub top : s.height + 1 ≡ height c
  pub words : (n : ℕ) (e : End) → above c s.height n e ≡ of_top c n e
