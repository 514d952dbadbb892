-- Runs by a text are runs by each query of it.
use Rattle.std.proofs.Common.{◌≡◌, ℕ, List, length, ◌∙◌, sym, ap, subst}
use Rattle.std.specs.Prelude.{Contains, ◌↔◌}
use Rattle.rp_value.specs.declared.table.Column.{Column}
use Rattle.rp_words.specs.declared.word.End.TheVariants.{Closed}
use Rattle.rp_query.specs.declared.query.QueryData.{QueryData}
use Rattle.rp_query.specs.declared.item.Item.{Item}
use Rattle.rp_compile.specs.OneQuery.{OneQuery}
use Rattle.rp_schedules.specs.Schedules.{Event, Done, Gives, IsAtPlace}
use Rattle.rp_schedules.specs.Records.{Row, Nodes, CallsBySame, Runs, none as no_call, more as one_more, RunGivesFront, answer_on}
use Rattle.rp_schedules.specs.Laws.{RunsGiveFronts}
use Rattle.rp_schedules.specs.SameKnown.{CallsAreSame, KnownIsSame}
use Rattle.rp_promise.specs.Promise.{IsQueryOfText, IsAnswerOn, CallsByText, RunsByText, none, more, GivesFrontOf, AnswersAreOne, BothGiveFronts, CallsAreByText}

-- the laws of the crates below
pub record Below (Key : Type 0) : Type 0 where
  pub one_query : OneQuery
  pub known : KnownIsSame
  pub calls : CallsAreSame Key
  pub runs : RunsGiveFronts Key

module _ {Key : Type 0} (below : Below Key) where
  pub answers_are_one : AnswersAreOne
  answers_are_one text columns whole one other p q =
      p.is
      ∙ sym (below.known p.query q.query (record { rows = whole; end = Closed }) (below.one_query text columns p.query q.query p.of_text.compiled q.of_text.compiled) p.of_text.sound q.of_text.sound)
      ∙ sym q.is

  pub calls_are_by_text : CallsAreByText Key
  calls_are_by_text text columns query whole old new e of_text c = record {
    query = query;
    of_text = of_text;
    calls = (below.calls query c.query whole old new e c.same of_text.sound c.sound).1 c.calls;
  }

  module _ (text : List ℕ) (columns : List Column) (whole : Key → List Row) (query : QueryData) (of_text : IsQueryOfText text columns query) where
    by_same : {old new : Nodes Key} {e : Event Key Item} → CallsByText text columns whole old e new → CallsBySame query whole old e new
    by_same c = record {
      query = c.query;
      same = below.one_query text columns query c.query of_text.compiled c.of_text.compiled;
      sound = c.of_text.sound;
      calls = c.calls;
    }

    runs_by : {events : List (Event Key Item)} {nodes : Nodes Key} → RunsByText text columns whole events nodes → Runs query whole events nodes
    runs_by none = no_call
    runs_by (more before c) = one_more (runs_by before) (by_same c)

    front_of : (events : List (Event Key Item)) (nodes : Nodes Key) (a : ℕ) (key : Key) → RunGivesFront query whole events nodes a key →
        GivesFrontOf text columns whole events nodes (answer_on query (whole key)) a key
    front_of events nodes a key f = record {
      count = f.count;
      within = f.within;
      given = f.given;
      all = λ holds after c. f.all holds after (by_same c);
    }

  pub both_give_fronts : BothGiveFronts Key
  both_give_fronts text columns whole events nodes answer a b key runs is =
      let by = runs_by text columns whole is.query is.of_text runs in
      let front : (n : ℕ) → GivesFrontOf text columns whole events nodes answer n key =
      λ n. subst (λ items. GivesFrontOf text columns whole events nodes items n key) (sym is.is)
      (front_of text columns whole is.query is.of_text events nodes n key (below.runs is.query whole events nodes n key is.of_text.sound by)) in
      (front a, front b)
