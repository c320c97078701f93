-- What a take and a merge answer.
use Rattle.std.specs.Prelude.{ℕ, ◌≡◌, ◌≢◌, ◌<◌, ◌≤◌, ◌⊎◌, Some, None}
use Rattle.pfair_lattice.specs.declared.join_map.Flat.TheVariants.{One}
use Rattle.pfair_lattice.specs.Held.{Held}
use Rattle.pfair_entry.specs.Entry.{Logged}
use Rattle.pfair_replica.specs.Replica.{Replica, join, Below, ReplicaRows, held, SameShape}
use Rattle.pfair_replica.specs.declared.answer.Taken.{Taken}
use Rattle.pfair_replica.specs.declared.answer.Taken.TheVariants as taken
use Rattle.pfair_replica.specs.declared.answer.TakeFault.{TakeFault}
use Rattle.pfair_replica.specs.declared.answer.TakeFault.TheVariants as take
use Rattle.pfair_replica.specs.declared.answer.MergeFault.{MergeFault}
use Rattle.pfair_replica.specs.declared.answer.MergeFault.TheVariants as merge

-- (k, n) names an entry of one of the logs
abbrev pub IsKeyOf : ReplicaRows → ℕ → ℕ → Type 0
IsKeyOf x k n = (k < x.processors) × (1 ≤ n) × (n ≤ x.capacity)

-- how an entry is taken at a key that held this: missing, equal content, or anything else
abbrev pub IsTakenAs : Held Logged → Logged → Taken → Type 0
IsTakenAs before e taken.New = before ≡ None
IsTakenAs before e taken.Known = before ≡ Some (One e)
IsTakenAs before e taken.Torn = (before ≢ None) × (before ≢ Some (One e))

-- why nothing is taken at (k, n): the first that applies; memory is wanted for a missing key alone
abbrev pub IsTakeFaultOf : ReplicaRows → ℕ → ℕ → TakeFault → Type 0
IsTakeFaultOf x k n take.NoSuchProcessor = x.processors ≤ k
IsTakeFaultOf x k n take.NumberOutOfRange = (k < x.processors) × ((n ≡ 0) ⊎ (x.capacity < n))
IsTakeFaultOf x k n take.Memory = IsKeyOf x k n × (held x k n ≡ None)

-- y holds something at a key at which x holds nothing
abbrev pub HoldsMore : ReplicaRows → ReplicaRows → Type 0
HoldsMore x y = (k : ℕ) × (n : ℕ) × (held x k n ≡ None) × (held y k n ≢ None)

-- why y isn't merged into x, or not all of it; memory is wanted only for a key at which x holds nothing
abbrev pub IsMergeFaultOf : ReplicaRows → ReplicaRows → MergeFault → Type 0
IsMergeFaultOf x y merge.OtherShape = SameShape x y → ⊥
IsMergeFaultOf x y merge.Memory = SameShape x y × HoldsMore x y

-- now is old with a part of other joined in, and joining other again gives what joining it to old gives
pub record IsPartlyMerged (old other now : Replica) : Type 0 where
  pub each : (k n : ℕ) → (now.at k n ≡ old.at k n) ⊎ (now.at k n ≡ (join old other).at k n)
  pub kept : Below old now
  pub within : Below now (join old other)
  pub again : join now other ≡ join old other

-- under which numbers they are reported
abbrev pub take_fault_number : TakeFault → ℕ
take_fault_number take.NoSuchProcessor = 13
take_fault_number take.NumberOutOfRange = 14
take_fault_number take.Memory = 90

abbrev pub merge_fault_number : MergeFault → ℕ
merge_fault_number merge.OtherShape = 15
merge_fault_number merge.Memory = 90
