-- What the desks of a board plan, whatever they do.
use Rattle.std.specs.Prelude.{ℕ, ◌≡◌, ◌<◌, ◌⊎◌, List, None}
use Rattle.std.specs.List.{AllByRecursion}
use Rattle.pfair_replica.specs.Replica.{frontier, said}
use Rattle.pfair_table.specs.Events.{IsPrefixOf}
use Rattle.pfair_table.specs.Table.{Settings, plan, table}
use Rattle.pfair_desk.specs.Steps.{Step, IsStep, empty_board, after_steps, desk_replica}

-- After any steps of any desks, from empty cells and desks, no slot gets two different tables.
abbrev pub DesksPlanAlike : Type 0
DesksPlanAlike =
    (s : Settings) (capacity : ℕ) (steps : List Step) → AllByRecursion (IsStep s.processors capacity) steps
    → (c d t : ℕ)
    → let x = desk_replica s.processors capacity (after_steps steps empty_board) c in
    let y = desk_replica s.processors capacity (after_steps steps empty_board) d in
    t < frontier x → t < frontier y → table None s (said x) t ≡ table None s (said y) t

-- and of the plans of two desks, at equal settings, the shorter begins the longer.
abbrev pub DesksShareAPlan : Type 0
DesksShareAPlan =
    (s : Settings) (capacity : ℕ) (steps : List Step) → AllByRecursion (IsStep s.processors capacity) steps
    → (c d : ℕ)
    → let x = desk_replica s.processors capacity (after_steps steps empty_board) c in
    let y = desk_replica s.processors capacity (after_steps steps empty_board) d in
    IsPrefixOf (plan None s x) (plan None s y) ⊎ IsPrefixOf (plan None s y) (plan None s x)
