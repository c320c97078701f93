-- Lists by slot.
use Rattle.std.specs.Prelude.{ℕ, ◌==◌, List, [], ◌∷◌, Option, Some, None, Vec, if◌then◌else◌}
use Rattle.std.specs.declared.alloc.Global.{Global}
use Rattle.std.specs.Ordering.{nat_cmp}
use Rattle.std.specs.BTreeMap.{BTreeMap, get}

-- the values of a list, or none
abbrev pub listed : {T : Type 0} → Option (Vec T Global) → List T
listed None = []
listed (Some list) = list.items

-- what is listed under a key
abbrev pub listed_at : {T : Type 0} → BTreeMap ℕ (Vec T Global) → ℕ → List T
listed_at lists key = listed (get nat_cmp lists key)

-- one value, listed under its key
abbrev pub one_at : {T : Type 0} → ℕ → T → ℕ → List T
one_at key value t = if key == t then value ∷ [] else []
