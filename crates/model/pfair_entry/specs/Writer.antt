-- Logs as they are written.
use Rattle.std.specs.Prelude.{ℕ, ◌≡◌, ◌+◌, ◌<◌, ◌≤◌, List, [], ◌∷◌, length, slice_get, Some, AllPairs}
use Rattle.pfair_entry.specs.declared.writer.NoteFault.{NoteFault}
use Rattle.pfair_entry.specs.declared.writer.NoteFault.TheVariants.{LogFull, FloorFell, Refused}
use Rattle.pfair_entry.specs.Entry.{Logged, IsEntry, entry_fault, entry_fault_number}

-- a log with room for so many entries, of which so many are written, the last with that floor (0 if there is none)
pub record Written : Type 0 where
  pub capacity : ℕ
  pub written : ℕ
  pub floor : ℕ

-- why the entry is not the next of the log: the first that applies
abbrev pub IsNoteFaultOf : Written → Logged → NoteFault → Type 0
IsNoteFaultOf w e LogFull = w.written ≡ w.capacity
IsNoteFaultOf w e FloorFell = (w.written < w.capacity) × (e.floor < w.floor)
IsNoteFaultOf w e (Refused fault) = (w.written < w.capacity) × (w.floor ≤ e.floor) × (entry_fault e ≡ Some fault)

-- under which number it is reported
abbrev pub note_fault_number : NoteFault → ℕ
note_fault_number FloorFell = 11
note_fault_number LogFull = 12
note_fault_number (Refused fault) = entry_fault_number fault

-- what an accepted note gives, its number and the entry, and what log it leaves
pub record IsNote (before : Written) (given : ℕ × Logged) (after : Written) : Type 0 where
  pub number : given.0 ≡ before.written + 1
  pub room : before.written < before.capacity
  pub floor : before.floor ≤ given.1.floor
  pub entry : IsEntry given.1
  pub left : after ≡ record before { written = given.0; floor = given.1.floor }

-- what accepted notes give one after the other, from one log to another
abbrev pub AreNotes : Written → List (ℕ × Logged) → Written → Type 0
AreNotes before [] after = before ≡ after
AreNotes before (n ∷ notes) after = (between : Written) × IsNote before n between × AreNotes between notes after

-- the accepted notes of a log that was empty are numbered from 1 on, as many as are written, and their floors never fall
pub record NotesRise (capacity : ℕ) (notes : List (ℕ × Logged)) (after : Written) : Type 0 where
  pub numbered : (i : ℕ) (n : ℕ × Logged) → slice_get notes i ≡ Some n → n.0 ≡ i + 1
  pub floors : AllPairs (λ m n. m.1.floor ≤ n.1.floor) notes
  pub written : after.written ≡ length notes
  pub room : length notes ≤ capacity

abbrev pub EveryLogRises : Type 0
EveryLogRises =
    (capacity : ℕ) (notes : List (ℕ × Logged)) (after : Written)
    → AreNotes (record { capacity = capacity; written = 0; floor = 0 }) notes after → NotesRise capacity notes after
