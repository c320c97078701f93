-- How a desk's notes and what it holds fit together.
use Rattle.std.specs.Prelude.{ℕ, List, Option, Some, None, slice_set, ◌≡◌, ◌+◌, ◌*◌, ◌<◌, ◌≤◌, length, slice_index_or}
use Rattle.pfair_entry.specs.Entry.{Logged}
use Rattle.pfair_lattice.specs.Held.{Held}
use Rattle.pfair_lattice.specs.declared.join_map.Flat.TheVariants.{One, Torn}
use Rattle.pfair_replica.specs.Replica.{Replica, IsShape}
use Rattle.pfair_desk.specs.Desks.{place_of}

-- What the notes of cells say.

-- the name of each note's cell, and the entry that it knows the cell to hold for good
pub record Knowledge : Type 0 where
  pub cells : List ℕ
  pub known : List (Option Logged)

-- the note at that place knows e
abbrev pub knowing : Knowledge → ℕ → Logged → Knowledge
knowing w place e = record w { known = slice_set w.known place (Some e) }

-- what a note knows that knew k, once it learned j
abbrev pub shared : {X : Type 0} → Option X → Option X → Option X
shared k None = k
shared k (Some x) = Some x

-- one entry is held at a key, and the key's note knows it
abbrev pub IsNoted : Held Logged → Option Logged → Type 0
IsNoted None known = Unit {0}
IsNoted (Some (One e)) known = known ≡ Some e
IsNoted (Some Torn) known = ⊥

-- what the row holds is noted
abbrev pub RowNoted : Replica → List (Option Logged) → ℕ → Type 0
RowNoted x known k = (n : ℕ) → IsNoted (x.at k n) (slice_index_or known (place_of x.capacity k n) None)

-- the contents are noted
abbrev pub AllNoted : Replica → List (Option Logged) → Type 0
AllNoted x known = (k : ℕ) → RowNoted x known k

-- a desk's fields fit together: a note for each key, its row and its next number, and each entry that it holds is what the key's note knows
pub record IsInOrder (processor next_number : ℕ) (x : Replica) (notes : Knowledge) : Type 0 where
  pub shape : IsShape x.processors x.capacity
  pub cells : length notes.cells ≡ x.processors * x.capacity
  pub known : length notes.known ≡ x.processors * x.capacity
  pub row : processor < x.processors
  pub numbered : 1 ≤ next_number
  pub room : next_number ≤ x.capacity + 1
  pub noted : AllNoted x notes.known

-- what was known is known
abbrev pub Grows : List (Option Logged) → List (Option Logged) → Type 0
Grows old new = (p : ℕ) (e : Logged) → slice_index_or old p None ≡ Some e → slice_index_or new p None ≡ Some e

-- notes of the same cells, which know no less
pub record KnowMore (old new : Knowledge) : Type 0 where
  pub cells : new.cells ≡ old.cells
  pub long : length new.known ≡ length old.known
  pub grows : Grows old.known new.known
