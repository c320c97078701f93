-- How long rows are.
use Rattle.pfair_entry_row.proofs.Common.{join_with_byte, decimal, Announcement, Arrive, Depart, Late, IsNamed, IsWellSaid, truth, announced_fields, said_fields, IsSpelled, IsSpelledOut, common_steps, ℕ, Bool, true, false, List, [], ◌∷◌, ◌<◌, ◌≤◌, ◌+◌, ◌^◌, arith, length, Option, None, Some, length-append, length-decimal-le, RowsAreShort}
use Rattle.pfair_entry_row.proofs.Refused.{sayable}

-- the bytes of fields, each with a comma
abbrev pub room : List (List ℕ) → ℕ
room [] = 0
room (f ∷ fs) = length f + 1 + room fs

joined : (fields : List (List ℕ)) → length (join_with_byte 44 fields) ≤ room fields
joined [] = omega arith
joined (f ∷ []) = omega arith
joined (f ∷ g ∷ fs) = let rest = joined (g ∷ fs) in omega (arith, length-append f (44 ∷ join_with_byte 44 (g ∷ fs)))

number : (n : ℕ) → n < 2 ^ 64 → length (decimal n) ≤ 20
number n fits = length-decimal-le 20 n (omega arith) (omega arith) fits

truth_short : (b : Bool) → length (truth b) ≤ 5
truth_short true = omega arith
truth_short false = omega arith

announced : (a : Announcement) → IsNamed a → IsSpelled a → room (announced_fields a) ≤ 85
announced (Arrive name weight early) named s = grind (arith, number, truth_short)
announced (Depart name) named s = omega (arith, named.not_too_long)
announced (Late name index by) named s = grind (arith, number)

said : (s : Option (ℕ × Announcement)) → IsWellSaid s → IsSpelledOut s → room (said_fields s) ≤ 106
said None well s = omega arith
said (Some s) well spelled = grind (arith, number, announced)

pub rows_are_short : RowsAreShort
rows_are_short p n e h = grind (arith, common_steps, sayable, number, said, joined)
