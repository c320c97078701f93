-- The notes of a log, one after the other.
use Rattle.std.proofs.Common.{ℕ, zero, suc, ◌≡◌, ◌+◌, ◌<◌, ◌≤◌, List, [], ◌∷◌, length, get_or, Some, ap, arith, slice_get, AllPairs}
use Rattle.pfair_entry.specs.Entry.{Logged}
use Rattle.pfair_entry.specs.Writer.{Written, AreNotes, EveryLogRises}

-- a note is numbered by its place
numbered_from : (before after : Written) (notes : List (ℕ × Logged)) → AreNotes before notes after → (i : ℕ) (n : ℕ × Logged) → slice_get notes i ≡ Some n → n.0 ≡ before.written + (i + 1)
numbered_from before after [] are i n e = absurd (cc)
numbered_from before after (m ∷ notes) are zero n e = grind arith
numbered_from before after (m ∷ notes) are (suc i) n e = grind (arith, numbered_from are.0 after notes are.2 i n e)

-- no floor is below that of the log before
above : (before after : Written) (notes : List (ℕ × Logged)) → AreNotes before notes after → (i : ℕ) (d : ℕ × Logged) → i < length notes → before.floor ≤ (get_or notes i d).1.floor
above before after [] are i d within = absurd (omega arith)
above before after (m ∷ notes) are zero d within = are.1.floor
above before after (m ∷ notes) are (suc i) d within = grind (arith, above are.0 after notes are.2 i d)

floors_from : (before after : Written) (notes : List (ℕ × Logged)) → AreNotes before notes after → AllPairs (λ m n. m.1.floor ≤ n.1.floor) notes
floors_from before after [] are i j d earlier within = absurd (omega arith)
floors_from before after (m ∷ notes) are zero zero d earlier within = absurd (omega arith)
floors_from before after (m ∷ notes) are zero (suc j) d earlier within = grind (arith, above)
floors_from before after (m ∷ notes) are (suc i) zero d earlier within = absurd (omega arith)
floors_from before after (m ∷ notes) are (suc i) (suc j) d earlier within = floors_from are.0 after notes are.2 i j d (omega (arith, earlier)) (omega (arith, within))

-- the log has as many more entries, and room for them
written_from : (before after : Written) (notes : List (ℕ × Logged)) → before.written ≤ before.capacity → AreNotes before notes after
    → (after.written ≡ before.written + length notes) × (before.written + length notes ≤ before.capacity)
written_from before after [] fits are = (let same = ap (λ (w : Written). w.written) are in omega (arith, same), omega (arith, fits))
written_from before after (m ∷ notes) fits are = grind (arith, written_from are.0 after notes)

pub every_log_rises : EveryLogRises
every_log_rises capacity notes after are =
    let empty : Written = record { capacity = capacity; written = 0; floor = 0 } in
    let all = written_from empty after notes (omega arith) are in
    let count = all.0 in
    let within = all.1 in
    record {
      numbered = λ i n e. (let number = numbered_from empty after notes are i n e in omega (arith, number));
      floors = floors_from empty after notes are;
      written = omega (arith, count);
      room = omega (arith, within);
    }
