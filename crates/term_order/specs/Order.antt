-- The code's answer for each order of two terms. Assumes nothing.
use Prim.Native.Nat.{Ordering}
use Rattle.std.specs.declared.cmp.Ordering as std
use Rattle.std.specs.declared.cmp.Ordering.TheVariants.{Less, Equal, Greater}

abbrev pub order_of : Ordering → std.Ordering
order_of Ordering.lt = Less
order_of Ordering.eq = Equal
order_of Ordering.gt = Greater
