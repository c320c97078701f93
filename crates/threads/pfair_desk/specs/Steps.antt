-- What desks do on a board of cells that are set once: they learn from the cells and from one another.
use Rattle.std.specs.Prelude.{ℕ, ⊤, ◌==◌, ◌&&◌, List, [], ◌∷◌, Option, Some, None, unwrap_or, if◌then◌else◌}
use Rattle.pfair_lattice.specs.Held.{Held, HeldBelow}
use Rattle.pfair_lattice.specs.declared.join_map.Flat.TheVariants.{One}
use Rattle.pfair_entry.specs.Entry.{Logged, IsEntry}
use Rattle.pfair_replica.specs.Replica.{Contents, Replica, nothing_held, only, contents_join, Agree, IsReplica}
use Rattle.pfair_desk.specs.Desks.{IsKey}
use Rattle.std.specs.List.{AllByRecursion}

-- the entry of each cell that is set, and what each desk holds
pub record State : Type 0 where
  pub cells : ℕ → ℕ → Option Logged
  pub desks : ℕ → Contents

-- a desk sets a cell, or gets it, or meets another desk
pub data Step : Type 0 where
  Set : (desk processor number : ℕ) → (entry : Logged) → Step
  Get : (desk processor number : ℕ) → Step
  Meet : (desk other : ℕ) → Step

-- an entry is set at a key of the board
abbrev pub IsStep : (processors capacity : ℕ) → Step → Type 0
IsStep processors capacity (Set d k n e) = IsKey processors capacity k n × IsEntry e
IsStep processors capacity _ = ⊤

abbrev pub empty_board : State
empty_board = record { cells = λ k n. None; desks = λ d. nothing_held }

-- the cell with that entry, unless it is set already
abbrev pub set_cell : (ℕ → ℕ → Option Logged) → ℕ → ℕ → Logged → ℕ → ℕ → Option Logged
set_cell cells j m e k n = if k == j && n == m then Some (unwrap_or (cells j m) e) else cells k n

-- what a desk learns from a cell
abbrev pub with_cell : Contents → ℕ → ℕ → Option Logged → Contents
with_cell held k n None = held
with_cell held k n (Some e) = contents_join held (only k n e)

-- that desk holds this from now on, and the others what they held
abbrev pub with_desk : (ℕ → Contents) → ℕ → Contents → ℕ → Contents
with_desk desks d held c = if c == d then held else desks c

abbrev pub after_get : State → ℕ → ℕ → ℕ → State
after_get b d k n = record b { desks = with_desk b.desks d (with_cell (b.desks d) k n (b.cells k n)) }

abbrev pub after_step : State → Step → State
after_step b (Set d k n e) = after_get (record b { cells = set_cell b.cells k n e }) d k n
after_step b (Get d k n) = after_get b d k n
after_step b (Meet d c) = record b { desks = with_desk b.desks d (contents_join (b.desks d) (b.desks c)) }

abbrev pub after_steps : List Step → State → State
after_steps [] b = b
after_steps (step ∷ steps) b = after_steps steps (after_step b step)

-- the map of the set cells
abbrev pub one_of : Option Logged → Held Logged
one_of None = None
one_of (Some e) = Some (One e)

abbrev pub set_cells : State → Contents
set_cells b k n = one_of (b.cells k n)

-- every desk holds entries of set cells only, as they stand there
abbrev pub EachDeskBelow : State → Type 0
EachDeskBelow b = (d k n : ℕ) → HeldBelow (b.desks d k n) (set_cells b k n)

-- what a desk holds, as a replica
abbrev pub desk_replica : (processors capacity : ℕ) → State → ℕ → Replica
desk_replica processors capacity b d = record { processors = processors; capacity = capacity; at = b.desks d }

-- What holds of every board, whatever the desks do.

-- After any steps of any desks, from empty cells and desks, what each desk holds is below the map of the set cells.
abbrev pub DesksStayBelow : Type 0
DesksStayBelow = (steps : List Step) → EachDeskBelow (after_steps steps empty_board)

-- So no two desks disagree
abbrev pub DesksAgree : Type 0
DesksAgree =
    (steps : List Step) (c d processors capacity : ℕ)
    → let b = after_steps steps empty_board in Agree (desk_replica processors capacity b c) (desk_replica processors capacity b d)

-- and if entries are set at keys of the board, each desk holds a replica.
abbrev pub DesksHoldReplicas : Type 0
DesksHoldReplicas =
    (processors capacity : ℕ) (steps : List Step) → AllByRecursion (IsStep processors capacity) steps
    → (d : ℕ)
    → IsReplica (desk_replica processors capacity (after_steps steps empty_board) d)
