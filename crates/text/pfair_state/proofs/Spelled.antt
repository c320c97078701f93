-- Rows that are spelled stand in a text as they are: no field has a comma, and no row a line break.
use Rattle.pfair_state.proofs.Common.{decimal, AllByRecursion, join_with_byte, list_all, list_any, decimal_by_steps, decimal_injective, IsTaskName, is_plain, lines_text, is_plain-decimal, is_plain-name, IsSpelled, fields_of, line_of, slot_field, MemberRow, Row, First, Late, Ran, End, ℕ, Bool, true, false, List, [], ◌∷◌, ◌++◌, ◌≡◌, ◌≢◌, ◌+◌, ◌%◌, ◌<◌, ◌^◌, ◌∙◌, arith, refl, sym, ap, length, map, Option, None, Some, append_assoc, IfSome, ◌==◌, ne_eqb, parts, parts_at, truth, and_parts, join_with_byte-slice_split, slice_split_at, IsNameFaultOf, dash, HasNone}
use Rattle.std.proofs.lemmas.List.Folds.{list_any-append}
use Rattle.pfair_weight.specs.Window.{IsWeight, IsFaultOf as IsWeightFaultOf}
use Rattle.pfair_weight.specs.declared.name.NameFault.{NameFault}
use Rattle.pfair_weight.specs.declared.name.NameFault.TheVariants.{Empty, TooLong, BadByte}
use Rattle.pfair_weight.specs.declared.weight.WeightFault.{WeightFault}
use Rattle.pfair_weight.specs.declared.weight.WeightFault.TheVariants.{ZeroCost, CostOverPeriod, PeriodTooLong}
use Rattle.pfair_entry_row.proofs.RowFields.{HaveNoCommas, parts-join, no_comma-plain, truth_injective}
use Rattle.pfair_entry_row.proofs.Refused.{at_each, joined, truth_is_plain}
use Rattle.pfair_state.specs.declared.rows.Row.TheVariants.{Member}

-- ---- what is right has no fault

pub no_name_fault : (bytes : List ℕ) (f : NameFault) → IsTaskName bytes → IsNameFaultOf bytes f → ⊥
no_name_fault bytes Empty h is = (let some = h.not_empty in let none = ap length is in omega (arith, some, none))
no_name_fault bytes TooLong h is = (let few = h.not_too_long in omega (arith, few, is))
no_name_fault bytes (BadByte at) h is = (let may = h.each_may_stand at is.inside in let bad = is.bad in cc)

pub no_weight_fault : (cost period : ℕ) (f : WeightFault) → IsWeight cost period → IsWeightFaultOf cost period f → ⊥
no_weight_fault cost period ZeroCost h is = (let some = h.some_cost in omega (arith, some, is))
no_weight_fault cost period CostOverPeriod h is = (let most = h.at_most_one in omega (arith, most, is.1))
no_weight_fault cost period PeriodTooLong h is = (let range = h.period_in_range in omega (arith, range, is.2))

-- ---- fields

slot_is_plain : (slot : Option ℕ) → IfSome slot (λ t. t < 2 ^ 64) → is_plain (slot_field slot) ≡ true
slot_is_plain None h = refl
slot_is_plain (Some t) h = is_plain-decimal t h

pub plain_fields : (row : Row) → IsSpelled row → list_all is_plain (fields_of row) ≡ true
plain_fields (First f) h = grind (arith, is_plain-decimal)
plain_fields (Member m) h = grind (arith, slot_is_plain, is_plain-decimal, is_plain-name, truth_is_plain)
plain_fields (Late l) h = grind (arith, is_plain-decimal, is_plain-name)
plain_fields (Ran p place) h = grind (arith, is_plain-decimal, is_plain-name)
plain_fields (End rows) h = grind (arith, is_plain-decimal)

no_commas : (fields : List (List ℕ)) → list_all is_plain fields ≡ true → HaveNoCommas fields
no_commas [] h = tt
no_commas (f ∷ fields) h = (let each = and_parts (is_plain f) (list_all is_plain fields) h in (no_comma-plain f each.0, no_commas fields each.1))

word_and_more : (row : Row) → IsSpelled row → (word : List ℕ) × (more : List (List ℕ)) × (fields_of row ≡ word ∷ more)
word_and_more (First f) h = (_, _, refl)
word_and_more (Member m) h = (_, _, refl)
word_and_more (Late l) h = (_, _, refl)
word_and_more (Ran p place) h = (_, _, refl)
word_and_more (End rows) h = (_, _, refl)

joined_parts : (fields : List (List ℕ)) (word : List ℕ) (more : List (List ℕ)) → fields ≡ word ∷ more → HaveNoCommas fields → parts (join_with_byte 44 fields) ≡ fields
joined_parts [] word more is h = absurd (cc)
joined_parts (f ∷ fields) word more is h = parts-join f fields h.0 h.1

-- what stands between the commas of a row's line are its fields
pub parts_of_line : (row : Row) → IsSpelled row → parts (line_of row) ≡ fields_of row
parts_of_line row h =
    let w = word_and_more row h in
    joined_parts (fields_of row) w.0 w.1 w.2 (no_commas (fields_of row) (plain_fields row h))

-- a text that is one part is that part
pub whole : (text part : List ℕ) → parts text ≡ part ∷ [] → text ≡ part
whole text part is = sym (join_with_byte-slice_split 44 text) ∙ ap (join_with_byte 44) is

-- ---- a dash is no number

not_hyphen : (n : ℕ) → n < 10 → list_any (λ b. b == 45) ((48 + n) ∷ []) ≡ false
not_hyphen n h = rw (ne_eqb (48 + n) 45 (omega arith)) refl

no_hyphen : (n : ℕ) → n < 2 ^ 64 → list_any (λ b. b == 45) (decimal n) ≡ false
no_hyphen = decimal_by_steps (λ n ds. list_any (λ b. b == 45) ds ≡ false) not_hyphen
    (λ n ds big h. rw (list_any-append (λ b. b == 45) ds ((48 + n % 10) ∷ []), h) (not_hyphen (n % 10) (omega arith)))

pub dash_is_no_number : (n : ℕ) → n < 2 ^ 64 → dash ≢ decimal n
dash_is_no_number n h is = (let none = no_hyphen n h in let same = ap (list_any (λ b. b == 45)) is in cc)

-- fields that are read are what was written
pub ruleset whole_fields = (decimal_injective, whole, dash_is_no_number, no_weight_fault)

-- numbers and a truth of equal texts are equal
pub same_member : (a b : MemberRow) → a.name ≡ b.name → a.weight ≡ b.weight → truth a.early ≡ truth b.early → decimal a.joined ≡ decimal b.joined → decimal a.next ≡ decimal b.next → a.freed_at ≡ b.freed_at
    → a.joined < 2 ^ 64 → b.joined < 2 ^ 64 → a.next < 2 ^ 64 → b.next < 2 ^ 64 → a ≡ b
same_member a b name weight early joined next freed_at a_joined b_joined a_next b_next = grind (arith, truth_injective, decimal_injective, joined)

-- ---- lines

one_line : (row : Row) → IsSpelled row → HasNone 10 (line_of row)
one_line row h = at_each (line_of row) (joined (fields_of row) (plain_fields row h))

-- a text of lines is cut into them, and nothing is behind them
pub parts_of_text : (rows : List Row) → AllByRecursion IsSpelled rows → parts_at 10 (lines_text (map fields_of rows)) ≡ map line_of rows ++ [] ∷ []
parts_of_text [] h = refl
parts_of_text (row ∷ rows) h = grind (arith, append_assoc, slice_split_at, one_line, parts_of_text rows h.1)
