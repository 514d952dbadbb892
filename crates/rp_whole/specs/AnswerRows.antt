-- Forms that have something for output rows alone.
use Rattle.std.specs.Prelude.{ℕ, List, [], ◌∷◌, map}
use Rattle.rp_value.specs.declared.value.Value.{Value}
use Rattle.rp_query.specs.declared.query.QueryData.{QueryData}
use Rattle.rp_query.specs.declared.item.Item.{Item}
use Rattle.rp_query.specs.declared.item.Item.TheVariants.{Row, Fault, End}
use Rattle.rp_whole.specs.Answers.{Form}
use Rattle.rp_whole.specs.declared.stopped.Stopped.{Stopped}

-- what an item comes to by its cells: nothing but an output row has any
abbrev pub row_bytes : (List Value → List ℕ) → Item → List ℕ
row_bytes of_cells (Row number cells) = of_cells cells
row_bytes of_cells (Fault fault) = []
row_bytes of_cells End = []

-- what an item tells of the partition of this key: that a skip fault ended its answer
abbrev pub stops_of : List Value → Item → List Stopped
stops_of key (Row number cells) = []
stops_of key (Fault fault) = record { key = key; fault = fault } ∷ []
stops_of key End = []

-- a form with this head and these bytes of an output row, in which skip faults are told
abbrev pub row_form : (QueryData → List ℕ) → (QueryData → List Value → List ℕ) → Form
row_form head row = record {
  head = head;
  bytes = λ q key place item. row_bytes (row q) item;
  stops = stops_of;
}

-- the names of the output columns
abbrev pub output_names : QueryData → List (List ℕ)
output_names q = map (λ o. o.name) q.output.items
