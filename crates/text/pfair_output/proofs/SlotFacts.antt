-- Texts that grow by the rows of one slot after another.
use Rattle.pfair_output.proofs.Common.{same_Some, first_left, line, lines_text, Table, placed_row, placed_rows_from, ℕ, ◌+◌, ◌<◌, ◌≡◌, arith, List, ◌++◌, Some, length, drop, slice_get, append_assoc, Pick, is_plain, is_plain-decimal, suc, true, ◌∷◌, ℤ, decimal, signed_decimal, to_z-of_z, append-nil, drop_all, IsOpen, TextWriter, text_so_far, lines_text-append, slots_from, ◌≤◌, sym, ap, ◌∙◌, pos, negsuc, FitsSigned}
use Rattle.std.specs.Int.{w64}
use Rattle.std.proofs.lemmas.Bool.{and_parts, ne_eqb}
use Rattle.pfair_text.proofs.NameFacts.{is_plain-name}

-- Texts that grow by one row after another, each with its place.

-- one row more
pub row_more : (places : List ℕ) (slot : ℕ) (table : Table) (row : ℕ) (pick : Pick) (before after : List ℕ) → row < length table → slice_get table row ≡ Some pick
    → after ≡ before ++ line (placed_row slot row pick (slice_get places row))
    → after ++ lines_text (placed_rows_from places slot (row + 1) (drop (row + 1) table)) ≡ before ++ lines_text (placed_rows_from places slot row (drop row table))
row_more places slot table row pick before after inside here grown =
    let t = first_left table row inside in
    grind (arith, same_Some, append_assoc)

-- A signed decimal number stands in a line as it is.

-- a minus sign before a plain field
after_minus : (field : List ℕ) → is_plain field ≡ true → is_plain (45 ∷ field) ≡ true
after_minus field h = grind (arith, and_parts, ne_eqb)

pub is_plain-signed : (z : ℤ) → FitsSigned w64 z → is_plain (signed_decimal z) ≡ true
is_plain-signed (pos n) fits = is_plain-decimal n (omega (arith, fits))
is_plain-signed (negsuc n) fits = after_minus (decimal (suc n)) (is_plain-decimal (suc n) (omega (arith, fits)))

-- Numbers and names stand in a line as they are.

pub ruleset plain_fields = (is_plain-decimal, is_plain-name, is_plain-signed, to_z-of_z)

module _ {A : Type 0} (rows : ℕ → A → List (List (List ℕ))) where
  -- the rows of one slot more
  pub slot_more : (xs : List A) (slot : ℕ) (before after : List ℕ) → slot < length xs → ((x : A) → slice_get xs slot ≡ Some x → after ≡ before ++ lines_text (rows slot x))
      → after ++ lines_text (slots_from rows (slot + 1) (drop (slot + 1) xs)) ≡ before ++ lines_text (slots_from rows slot (drop slot xs))
  slot_more xs slot before after inside grown =
      let t = first_left xs slot inside in
      grind (arith, lines_text-append, append_assoc)

  -- after the last slot nothing is left
  pub slots_done : (xs : List A) (slot : ℕ) (text : List ℕ) → length xs ≤ slot → text ++ lines_text (slots_from rows slot (drop slot xs)) ≡ text
  slots_done xs slot text past = ap (λ left. text ++ lines_text (slots_from rows slot left)) (drop_all slot xs past) ∙ append-nil text

-- ---- a writer in a loop over slots

module _ {A : Type 0} (rows : ℕ → A → List (List (List ℕ))) (all : List A) (from : ℕ) (start : TextWriter) where
  -- its text, with the rows of the slots that are left, is the whole
  pub record IsOnTheWay (slot : ℕ) (now : TextWriter) : Type 0 where
    pub open_still : IsOpen now
    pub whole : (text_so_far now ++ lines_text (slots_from rows slot (drop slot all))) ≡ (text_so_far start ++ lines_text (slots_from rows from (drop from all)))
    pub begun : from ≤ slot

  pub on_the_way : (slot : ℕ) (now next : TextWriter) → IsOnTheWay slot now → slot < length all → IsOpen next → ((x : A) → slice_get all slot ≡ Some x → text_so_far next ≡ text_so_far now ++ lines_text (rows slot x)) → IsOnTheWay (slot + 1) next
  on_the_way slot now next on inside opened grown = record {
    open_still = opened;
    whole = slot_more rows all slot (text_so_far now) (text_so_far next) inside grown ∙ on.whole;
    begun = (let b = on.begun in omega (arith, b));
  }

  pub at_the_end : (slot : ℕ) (now : TextWriter) → IsOnTheWay slot now → length all ≤ slot → text_so_far now ≡ text_so_far start ++ lines_text (slots_from rows from (drop from all))
  at_the_end slot now on past = sym (slots_done rows all slot (text_so_far now) past) ∙ on.whole
