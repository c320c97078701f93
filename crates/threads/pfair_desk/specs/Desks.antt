-- What a desk is to its callers.
use Rattle.std.specs.Prelude.{ℕ, ◌+◌, ◌-◌, ◌*◌, ◌<◌, ◌≤◌, List, ◌≡◌, Some, suc, zero, Bool, not, ◌&&◌, cond, is_some, None, IsSome, ◌≢◌}
use Rattle.pfair_lattice.specs.declared.join_map.Flat.{Flat}
use Rattle.pfair_lattice.specs.declared.join_map.Flat.TheVariants.{One}
use Rattle.pfair_entry.specs.Entry.{Logged}
use Rattle.pfair_replica.specs.Replica.{Replica, join, with_entry, empty_replica, ReplicaRows, held, replica_of}
use Rattle.pfair_replica.specs.Faults.{IsPartlyMerged}
use Rattle.pfair_desk.specs.declared.fault.PublishFault.{PublishFault}
use Rattle.pfair_desk.specs.declared.fault.PublishFault.TheVariants as publish

-- What is fixed of a board.

-- its shape, and the name of each cell: the cell (k, n) stands at place k * capacity + n - 1
pub record BoardFrame : Type 0 where
  pub processors : ℕ
  pub capacity : ℕ
  pub cells : List ℕ

-- (k, n) names a cell
pub record IsKey (processors capacity k n : ℕ) : Type 0 where
  pub row : k < processors
  pub first : 1 ≤ n
  pub last : n ≤ capacity

-- where the cell (k, n) stands
abbrev pub place_of : (capacity k n : ℕ) → ℕ
place_of capacity k n = k * capacity + (n - 1)

-- a desk as a contract sees it: its row, its next number there, the cells that it has notes of, and what it holds
pub record DeskView : Type 0 where
  pub processor : ℕ
  pub next_number : ℕ
  pub cells : List ℕ
  pub replica : ReplicaRows

-- the same, with the replica that the definitions speak of
pub record DeskState : Type 0 where
  pub processor : ℕ
  pub next_number : ℕ
  pub cells : List ℕ
  pub replica : Replica

abbrev pub state_of : DeskView → DeskState
state_of d = record { processor = d.processor; next_number = d.next_number; cells = d.cells; replica = replica_of d.replica }

-- the desk has a note for each cell of the board, in the same order
pub record IsDeskOf (desk : DeskView) (board : BoardFrame) : Type 0 where
  pub processors : desk.replica.processors ≡ board.processors
  pub capacity : desk.replica.capacity ≡ board.capacity
  pub cells : desk.cells ≡ board.cells

-- the two have notes of the same cells, in the same order
pub record OfOneBoard (one other : DeskView) : Type 0 where
  pub processors : one.replica.processors ≡ other.replica.processors
  pub capacity : one.replica.capacity ≡ other.replica.capacity
  pub cells : one.cells ≡ other.cells

-- the desk of row k, as the board makes it
abbrev pub fresh_desk : BoardFrame → ℕ → DeskState
fresh_desk b k = record { processor = k; next_number = 1; cells = b.cells; replica = empty_replica b.processors b.capacity }

-- the desk with e learned at (k, n)
abbrev pub learned : DeskState → ℕ → ℕ → Logged → DeskState
learned d k n e = record d { replica = with_entry d.replica k n e }

-- the same, after which e stands there, and nothing else with it
pub record IsLearned (old now : DeskView) (k n : ℕ) (e : Logged) : Type 0 where
  pub state : state_of now ≡ learned (state_of old) k n e
  pub there : held now.replica k n ≡ Some (One e)

-- the desk with e learned at its own next number, and one number further
abbrev pub numbered : DeskState → Logged → DeskState
numbered d e = record d { next_number = d.next_number + 1; replica = with_entry d.replica d.processor d.next_number e }

-- the desk with all that another one holds joined in
abbrev pub met : DeskState → DeskState → DeskState
met d other = record d { replica = join d.replica other.replica }

-- the desk as it was, but with a part of what the other holds joined in
pub record IsPartlyMet (old other now : DeskView) : Type 0 where
  pub rest : now ≡ record old { replica = now.replica }
  pub replica : IsPartlyMerged (replica_of old.replica) (replica_of other.replica) (replica_of now.replica)

-- what was held is held unchanged
abbrev pub Keeps : Replica → Replica → Type 0
Keeps x y = (k n : ℕ) (f : Flat Logged) → x.at k n ≡ Some f → y.at k n ≡ Some f

-- the desk of the same row and cells, which holds all that it held
pub record GrownDesk (old now : DeskView) : Type 0 where
  pub processor : now.processor ≡ old.processor
  pub cells : now.cells ≡ old.cells
  pub processors : now.replica.processors ≡ old.replica.processors
  pub capacity : now.replica.capacity ≡ old.replica.capacity
  pub kept : Keeps (replica_of old.replica) (replica_of now.replica)

-- What a desk gains.

-- (k, n) is held in y and was missing in x
abbrev pub is_gained : Replica → Replica → ℕ → ℕ → Bool
is_gained x y k n = not (is_some (x.at k n)) && is_some (y.at k n)

-- how many of the numbers 1 to n of row k are newly held
abbrev pub gained_in_row : Replica → Replica → ℕ → ℕ → ℕ
gained_in_row x y k zero = 0
gained_in_row x y k (suc n) = gained_in_row x y k n + cond (is_gained x y k (suc n)) 1 0

-- how many keys of the rows below k are newly held
abbrev pub gained_in_rows : Replica → Replica → ℕ → ℕ
gained_in_rows x y zero = 0
gained_in_rows x y (suc k) = gained_in_rows x y k + gained_in_row x y k y.capacity

-- how many keys are newly held
abbrev pub gained : Replica → Replica → ℕ
gained x y = gained_in_rows x y y.processors

-- in the row, no number up to a newly held one is missing
abbrev pub NoGapInRow : Replica → Replica → ℕ → Type 0
NoGapInRow x y k = (n j : ℕ) → x.at k n ≡ None → IsSome (y.at k n) → 1 ≤ j → j ≤ n → IsSome (y.at k j)

-- a key of the board that isn't held
pub record LacksSome (rows : ReplicaRows) : Type 0 where
  pub processor : ℕ
  pub number : ℕ
  pub key : IsKey rows.processors rows.capacity processor number
  pub missing : held rows processor number ≡ None

-- the desk as it was but for what it holds
pub record SameDesk (old now : DeskView) : Type 0 where
  pub processor : now.processor ≡ old.processor
  pub next_number : now.next_number ≡ old.next_number
  pub cells : now.cells ≡ old.cells
  pub processors : now.replica.processors ≡ old.replica.processors
  pub capacity : now.replica.capacity ≡ old.replica.capacity

-- the desk after more of one processor's row was read: no number up to a new one is missing there, and other rows are as they were
pub record HasReadRow (old now : DeskView) (processor : ℕ) : Type 0 where
  pub same : SameDesk old now
  pub kept : Keeps (replica_of old.replica) (replica_of now.replica)
  pub others : (k n : ℕ) → (k ≡ processor → ⊥) → held now.replica k n ≡ held old.replica k n
  pub no_gap : NoGapInRow (replica_of old.replica) (replica_of now.replica) processor

-- Why a desk refuses.

-- why e isn't published, and what the desk is then; memory is wanted for a missing key alone
abbrev pub IsPublishFaultOf : (old now : DeskView) → Logged → PublishFault → Type 0
IsPublishFaultOf old now e publish.RowFull = (old.replica.capacity < old.next_number) × (now ≡ old)
IsPublishFaultOf old now e (publish.Taken standing) = (old.next_number ≤ old.replica.capacity) × (standing ≢ e) × (state_of now ≡ numbered (state_of old) standing) × (held now.replica old.processor old.next_number ≡ Some (One standing))
IsPublishFaultOf old now e publish.Memory = (old.next_number ≤ old.replica.capacity) × (held old.replica old.processor old.next_number ≡ None) × (now ≡ old)

-- under which numbers they are reported
abbrev pub publish_fault_number : PublishFault → ℕ
publish_fault_number publish.RowFull = 50
publish_fault_number (publish.Taken standing) = 51
publish_fault_number publish.Memory = 90
