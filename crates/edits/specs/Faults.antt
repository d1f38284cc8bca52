-- What an insertion's fault is called by the call above it.
use Rattle.pool.specs.declared.refusal.GrowRefusal.{GrowRefusal}
use Rattle.pool.specs.declared.refusal.GrowRefusal.TheVariants as grow
use Rattle.edits.specs.declared.fault.InsertFault.{InsertFault}
use Rattle.edits.specs.declared.fault.InsertFault.TheVariants.{OutOfOrder, TooFewNodes}

abbrev pub as_refusal : InsertFault → GrowRefusal
as_refusal OutOfOrder = grow.OutOfOrder
as_refusal TooFewNodes = grow.TooFewNodes
