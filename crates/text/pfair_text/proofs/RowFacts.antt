-- Fields without marks stand in a CSV row as they are, and decimal numbers are such fields.
use Rattle.std.proofs.Common.{ℕ, List, [], ◌∷◌, ◌++◌, ◌≡◌, ◌∙◌, ◌+◌, ◌%◌, ◌<◌, ◌^◌, Bool, true, false, Some, length, drop, refl, ap, arith, zero, suc, slice_get, slice_index, ◌||◌, ◌==◌, not}
use Rattle.std.specs.Fmt.{decimal}
use Rattle.std.specs.List.{join_with_byte, list_all, list_any}
use Rattle.std.proofs.lemmas.Bool.{and_parts, ne_eqb}
use Rattle.std.proofs.lemmas.Fmt.{decimal_by_steps, decimal_nonempty}
use Rattle.std.proofs.lemmas.List.Folds.{list_any-append}
use Rattle.std.proofs.lemmas.List.{append-nil}
use Rattle.std.proofs.lemmas.Grind.{flat_map-append}
use Rattle.csv.specs.Quoting.{needs_byte}
use Rattle.csv.specs.Writing.{field_text, fields_text, is_blank, row_text}
use Rattle.pfair_text.specs.Rows.{is_mark, is_plain, line, lines_text, row_writer}

same_or : (p q r s : Bool) → ((((p || q) || (r || s)) || false) || false) ≡ (((p || q) || r) || s)
same_or true q r s = refl
same_or false true r s = refl
same_or false false true s = refl
same_or false false false true = refl
same_or false false false false = refl

any_congr : (p q : ℕ → Bool) → ((b : ℕ) → p b ≡ q b) → (bs : List ℕ) → list_any p bs ≡ list_any q bs
any_congr p q same [] = refl
any_congr p q same (b ∷ bs) = rw (same b, any_congr p q same bs) refl

needs-mark : (b : ℕ) → needs_byte row_writer b ≡ is_mark b
needs-mark b = same_or (b == 44) (b == 34) (b == 13) (b == 10)

no-mark : (b : Bool) → not b ≡ true → b ≡ false
no-mark false e = refl
no-mark true e = cc e

-- a plain field is written as it is
pub field_text-plain : (field : List ℕ) → is_plain field ≡ true → field_text row_writer field ≡ field
field_text-plain field h = grind (arith, and_parts, any_congr, needs_byte, needs-mark, no-mark)

-- the fields after the first
rest-plain : (first : List ℕ) (rest : List (List ℕ)) → list_all is_plain rest ≡ true → (first ++ fields_text row_writer rest) ≡ join_with_byte 44 (first ∷ rest)
unfolding fields_text
rest-plain first [] h = append-nil first
rest-plain first (next ∷ rest) h =
    let parts = and_parts (is_plain next) (list_all is_plain rest) h in
    rw (field_text-plain next parts.0, rest-plain next rest parts.1) refl

shows : (first : List ℕ) (rest : List (List ℕ)) → is_plain first ≡ true → is_blank row_writer (first ∷ rest) ≡ false
unfolding is_blank
shows first [] h =
    let parts = and_parts (not (length first == 0)) (not (list_any is_mark first)) h in
    rw (field_text-plain first h) (no-mark (length first == 0) parts.0)
shows first (next ∷ rest) h = refl

-- a row of plain fields is their line
pub row_text-plain : (fields : List (List ℕ)) → 0 < length fields → list_all is_plain fields ≡ true → row_text row_writer fields ≡ line fields
row_text-plain [] some h = absurd (omega arith)
row_text-plain (first ∷ rest) some h = grind (arith, and_parts, list_all, shows, field_text-plain, rest-plain)

digit : (n : ℕ) → n < 10 → list_any is_mark ((48 + n) ∷ []) ≡ false
digit n h = rw (ne_eqb (48 + n) 44 (omega arith), ne_eqb (48 + n) 34 (omega arith), ne_eqb (48 + n) 13 (omega arith), ne_eqb (48 + n) 10 (omega arith)) refl

unmarked-decimal : (n : ℕ) → n < 2 ^ 64 → list_any is_mark (decimal n) ≡ false
unmarked-decimal = decimal_by_steps (λ n ds. list_any is_mark ds ≡ false) digit
    (λ n ds big h. rw (list_any-append is_mark ds ((48 + n % 10) ∷ []), h) (digit (n % 10) (omega arith)))

-- a decimal number is plain
pub is_plain-decimal : (n : ℕ) → n < 2 ^ 64 → is_plain (decimal n) ≡ true
is_plain-decimal n h = grind (arith, decimal_nonempty, ne_eqb, decimal, unmarked-decimal)

-- ---- fields by their bytes

unmarked_by_bytes : (bytes : List ℕ) → ((place : ℕ) → place < length bytes → is_mark (slice_index bytes place) ≡ false) → list_any is_mark bytes ≡ false
unmarked_by_bytes [] each = refl
unmarked_by_bytes (b ∷ bytes) each =
    rw (each 0 (omega arith), unmarked_by_bytes bytes (λ place inside. each (suc place) (omega arith))) refl

-- a field that isn't empty, and none of whose bytes is a mark, is plain
pub is_plain-by_bytes : (bytes : List ℕ) → 0 < length bytes → ((place : ℕ) → place < length bytes → is_mark (slice_index bytes place) ≡ false) → is_plain bytes ≡ true
is_plain-by_bytes bytes some each = grind (arith, ne_eqb, unmarked_by_bytes)

-- a text of lines, and then of more
pub lines_text-append : (rows more : List (List (List ℕ))) → lines_text (rows ++ more) ≡ lines_text rows ++ lines_text more
lines_text-append rows more = flat_map-append line rows more

-- ---- what is left of a list

-- the first of what is left
pub first_left : {A : Type 0} (xs : List A) (i : ℕ) → i < length xs → (x : A) × (slice_get xs i ≡ Some x) × (drop i xs ≡ x ∷ drop (i + 1) xs)
first_left {A} xs i inside = let t = at xs i inside in (t.0, t.1, t.2 ∙ ap (λ n. t.0 ∷ drop n xs) (let n : suc i ≡ i + 1 = omega arith in n))
  where
    at : (xs : List A) (i : ℕ) → i < length xs → (x : A) × (slice_get xs i ≡ Some x) × (drop i xs ≡ x ∷ drop (suc i) xs)
    at [] i h = absurd (omega arith)
    at (y ∷ ys) zero h = (y, refl, refl)
    at (y ∷ ys) (suc i) h = at ys i (omega arith)
