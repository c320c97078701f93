-- A task's name stands in a line as it is.
use Rattle.std.proofs.Common.{ℕ, ◌≡◌, true, false, List, arith, slice_index, ◌==◌, nat_le}
use Rattle.std.proofs.lemmas.Bool.{and_parts, or_cases, ne_eqb, leb-true, eqb-true}
use Rattle.pfair_weight.specs.Name.{is_letter, is_digit, may_stand, IsTaskName}
use Rattle.pfair_text.specs.Rows.{is_mark, is_plain}
use Rattle.pfair_text.proofs.RowFacts.{is_plain-by_bytes}

-- no mark is a letter, a digit or an underscore
letter : (b : ℕ) → is_letter b ≡ true → is_mark b ≡ false
letter b h =
    let parts = and_parts (nat_le 97 b) (nat_le b 122) h in
    grind (arith, leb-true, ne_eqb)

digit : (b : ℕ) → is_digit b ≡ true → is_mark b ≡ false
digit b h = grind (arith, and_parts, leb-true, ne_eqb)

underscore : (b : ℕ) → (b == 95) ≡ true → is_mark b ≡ false
underscore b h = grind (arith, eqb-true, ne_eqb)

unmarked : (place b : ℕ) → may_stand place b ≡ true → is_mark b ≡ false
unmarked place b h = grind (arith, or_cases, letter, and_parts, digit, underscore)

-- a task's name is plain
pub is_plain-name : (bytes : List ℕ) → IsTaskName bytes → is_plain bytes ≡ true
is_plain-name bytes name = is_plain-by_bytes bytes name.not_empty (λ place inside. unmarked place (slice_index bytes place) (name.each_may_stand place inside))
