-- Inside: the laws of feeds that the walk over their rows rests on.
use Rattle.rp_feed.specs.FedLaws.{RowIsAdded, RowsAreDropped, TakenStays, OrderStays, OrderIsKept, FrontIsOne, FrontGrows, FrontStays}

pub record Feeds : Type 0 where
  pub added : RowIsAdded
  pub dropped : RowsAreDropped
  pub stays : TakenStays
  pub ordered : OrderStays
  pub kept : OrderIsKept
  pub one : FrontIsOne
  pub grows : FrontGrows
  pub front_stays : FrontStays
