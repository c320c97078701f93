-- What holds of the dispatchers behind handles.
use Rattle.std.specs.Prelude.{◌≡◌}
use Rattle.std.specs.declared.option.Option.TheVariants.{None, Some}
use Rattle.pfair_replica.specs.Replica.{replica_of, absorbed}
use Rattle.pfair_replica.specs.Faults.{IsPartlyMerged}
use Rattle.pfair_table.specs.Refinement.{Dispatch}
use Rattle.pfair_handle.specs.Kept.{Kept}

-- a dispatcher is there, and this holds of it
abbrev pub Of : Kept → (Dispatch → Type 0) → Type 0
Of (Some x) P = P x.dispatcher
Of None P = ⊥

-- one dispatcher is there, and another: before and after a call, or behind two handles
abbrev pub Between : Kept → Kept → (Dispatch → Dispatch → Type 0) → Type 0
Between (Some x) (Some y) P = P x.dispatcher y.dispatcher
Between _ _ P = ⊥

-- the dispatcher x, behind a handle, takes all that o, behind another, holds, and is y then
abbrev pub IsAbsorbedTo : Kept → Kept → Kept → Type 0
IsAbsorbedTo (Some x) (Some o) (Some y) = replica_of y.dispatcher.replica ≡ absorbed (replica_of x.dispatcher.replica) (replica_of o.dispatcher.replica)
IsAbsorbedTo _ _ _ = ⊥

-- or it takes a part of that
abbrev pub IsPartlyAbsorbedTo : Kept → Kept → Kept → Type 0
IsPartlyAbsorbedTo (Some x) (Some o) (Some y) = IsPartlyMerged (replica_of x.dispatcher.replica) (replica_of o.dispatcher.replica) (replica_of y.dispatcher.replica)
IsPartlyAbsorbedTo _ _ _ = ⊥
