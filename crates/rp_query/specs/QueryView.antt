-- What contracts see of a query.
use Rattle.std.specs.Prelude.{List}
use Rattle.rp_query.specs.declared.plan.Total.{Total}
use Rattle.rp_query.specs.declared.query.QueryData.{QueryData}

-- the totals of a query's plan
abbrev pub totals_in : QueryData → List Total
totals_in q = q.plan.totals.value.items
