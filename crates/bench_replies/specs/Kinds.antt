-- The kinds of orders. Assumes nothing.
use Rattle.bench_orders.specs.declared.Order.{Order}

-- count: answered with one number; records: an event or a notice, answered with the records that it writes; the last three are on saves, on names inside names, and on plans
pub data Kind : Type 0 where
  blank count lookup records saves layers plans : Kind

abbrev pub kind_of : Order → Kind
kind_of Order.Blank = Kind.blank
kind_of Order.Bad = Kind.count
kind_of (Order.Start n) = Kind.count
kind_of (Order.Room n) = Kind.count
kind_of (Order.Take n w) = Kind.records
kind_of (Order.Join w) = Kind.records
kind_of (Order.Leave w) = Kind.records
kind_of (Order.Route w n) = Kind.records
kind_of (Order.Label n) = Kind.lookup
kind_of (Order.Tree w) = Kind.lookup
kind_of Order.Free = Kind.count
kind_of (Order.Notice n k w) = Kind.records
kind_of (Order.Save b) = Kind.saves
kind_of (Order.Restore b w) = Kind.saves
kind_of (Order.Lost n) = Kind.records
kind_of (Order.Move b w) = Kind.saves
kind_of (Order.Layers w) = Kind.layers
kind_of (Order.Wrap r d w) = Kind.layers
kind_of (Order.Unwrap w) = Kind.layers
kind_of (Order.Plan n w) = Kind.plans
kind_of (Order.Vet n p w) = Kind.plans
