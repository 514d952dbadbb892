-- Inside: what follows a search, as a leg of the walk without its items.
use Rattle.std.specs.Prelude.{[], ◌∷◌, Result, Ok, Err}
use Rattle.rp_query.specs.declared.item.Item.TheVariants.{Fault as FaultItem}
use Rattle.rp_query.specs.declared.item.SkipFault.{SkipFault}
use Rattle.rp_known.specs.declared.place.Place.{Place}
use Rattle.rp_known.specs.Walk.{Leg, Goes, Ends}

abbrev pub leg_by : Result Place SkipFault → Leg
leg_by (Ok next) = Goes [] next
leg_by (Err fault) = Ends (FaultItem fault ∷ [])
