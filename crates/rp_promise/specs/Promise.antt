-- What nodes promise of the text of a clause and the columns of a table, from which each of them has compiled a query of its own. (own)
use Rattle.std.specs.Prelude.{◌≡◌, ℕ, ◌≤◌, ◌↔◌, List, [], ◌∷◌, ◌++◌, length, None, Contains}
use Rattle.rp_value.specs.declared.table.Column.{Column}
use Rattle.rp_query.specs.declared.query.QueryData.{QueryData}
use Rattle.rp_query.specs.declared.item.Item.{Item}
use Rattle.rp_query.specs.Sound.{IsSound}
use Rattle.rp_compile.specs.Compiled.{IsCompiled}
use Rattle.rp_schedules.specs.Schedules.{Event, Done, Gives, Idles, IsAtPlace}
use Rattle.rp_schedules.specs.Records.{Row, Nodes, Calls, CallsBySame, HoldsWhole, answer_on, record_at}

-- The text was compiled to this query over these columns. Each query that there is is sound.
pub record IsQueryOfText (text : List ℕ) (columns : List Column) (query : QueryData) : Type 0 where
  pub compiled : IsCompiled text columns query
  pub sound : IsSound query

-- The clause's answer on a whole partition, by a query of its text.
pub record IsAnswerOn (text : List ℕ) (columns : List Column) (whole : List Row) (answer : List Item) : Type 0 where
  pub query : QueryData
  pub of_text : IsQueryOfText text columns query
  pub is : answer ≡ answer_on query whole

-- A call of a node, whose query was compiled from the text: another one than that of any other node, or of an earlier call.
pub record CallsByText {Key : Type 0} (text : List ℕ) (columns : List Column) (whole : Key → List Row) (old : Nodes Key)
    (e : Event Key Item) (new : Nodes Key) : Type 0 where
  pub query : QueryData
  pub of_text : IsQueryOfText text columns query
  pub calls : Calls query whole old e new

-- a run of nodes from fresh ones, each call by a query of the text
pub data RunsByText {Key : Type 0} (text : List ℕ) (columns : List Column) (whole : Key → List Row)
    : List (Event Key Item) → Nodes Key → Type 0 where
  none : RunsByText text columns whole [] (record { now = λ _ _. None; saved = λ _. [] })
  more : {events : List (Event Key Item)} {e : Event Key Item} {old new : Nodes Key} → RunsByText text columns whole events old
      → CallsByText text columns whole old e new → RunsByText text columns whole (events ++ e ∷ []) new

-- What a node has given of a key's partition, in all its lives: the first items of the answer, each with its place; and all of them
-- where it holds all rows and the close and a poll is idle.
pub record GivesFrontOf {Key : Type 0} (text : List ℕ) (columns : List Column) (whole : Key → List Row)
    (events : List (Event Key Item)) (nodes : Nodes Key) (answer : List Item) (a : ℕ) (key : Key) : Type 0 where
  pub count : ℕ
  pub within : count ≤ length answer
  pub given : (place : ℕ) (x : Item) → Contains events (Done a key (Gives place x)) ↔ IsAtPlace count answer place x
  pub all : HoldsWhole (whole key) (record_at nodes a key).feed →
      (after : Nodes Key) → CallsByText text columns whole nodes (Done a key Idles) after → count ≡ length answer

-- ---- laws

-- The text has one answer on a whole partition, whichever query is compiled from it.
abbrev pub AnswersAreOne : Type 0
AnswersAreOne =
    (text : List ℕ) (columns : List Column) (whole : List Row) (one other : List Item)
    → IsAnswerOn text columns whole one → IsAnswerOn text columns whole other → one ≡ other

-- Of every run, what any two nodes have given are first items of the one answer.
abbrev pub BothGiveFronts : Type 0 → Type 0
BothGiveFronts Key =
    (text : List ℕ) (columns : List Column) (whole : Key → List Row) (events : List (Event Key Item)) (nodes : Nodes Key)
    (answer : List Item) (a b : ℕ) (key : Key)
    → RunsByText text columns whole events nodes → IsAnswerOn text columns (whole key) answer
    → GivesFrontOf text columns whole events nodes answer a key × GivesFrontOf text columns whole events nodes answer b key

-- A call by a query that is the same as one of the text is a call by the text: so is each call of a node that has such a query.
abbrev pub CallsAreByText : Type 0 → Type 0
CallsAreByText Key =
    (text : List ℕ) (columns : List Column) (query : QueryData) (whole : Key → List Row) (old new : Nodes Key) (e : Event Key Item)
    → IsQueryOfText text columns query → CallsBySame query whole old e new → CallsByText text columns whole old e new
