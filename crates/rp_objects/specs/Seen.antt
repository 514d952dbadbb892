-- Inside: what is found under a path, as contracts see it.
use Rattle.std.specs.Prelude.{ℕ, List, [], Option, Some, None, Result, Ok, Err, option_map}
use Rattle.std.specs.Borrow.{Bor}
use Rattle.std.specs.declared.alloc.Global.{Global}
use Rattle.json.specs.Json.{Json}
use Rattle.json.specs.Value.{value_view}
use Rattle.json.specs.declared.value.Value.{Value}
use Rattle.rp_objects.specs.Paths.{Among, nowhere, once, twice, path_of}
use Rattle.rp_objects.specs.declared.fault.FieldFault.{FieldFault}
use Rattle.rp_objects.specs.declared.path.Among.{Among as Found}
use Rattle.rp_objects.specs.declared.path.Among.TheVariants.{Nowhere, Once, Twice}

abbrev pub seen_among : Found → Among
seen_among Nowhere = nowhere
seen_among (Once value) = once (value_view value.now)
seen_among Twice = twice

abbrev pub seen_field : Result (Option (Bor (List ℕ))) FieldFault → Result (Option (List ℕ)) FieldFault
seen_field (Ok field) = Ok (option_map (λ bytes. bytes.now) field)
seen_field (Err why) = Err why

-- the rest of a path, if there is one
abbrev pub parts_behind : Option (Bor (List ℕ)) → List (List ℕ)
parts_behind None = []
parts_behind (Some path) = path_of path.now

abbrev pub seen_value : Result (Option (Bor (Value Global))) FieldFault → Result (Option Json) FieldFault
seen_value (Ok found) = Ok (option_map (λ value. value_view value.now) found)
seen_value (Err why) = Err why
