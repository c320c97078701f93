-- Texts that grow by the rows of one thing after another, and how many rows these are.
use Rattle.pfair_state.proofs.Common.{flat_map, length-append, line, lines_text, first_left, lines_text-append, Table, ran_row, ran_rows, ℕ, zero, suc, ◌+◌, ◌<◌, ◌≡◌, refl, ap, ◌∙◌, arith, List, [], ◌∷◌, ◌++◌, Some, length, drop, slice_get, append_assoc, Pick}
use Rattle.pfair_state.specs.Rows.{Row}

module _ {A : Type 0} (rows : A → List Row) where
  -- the rows of what is left are those of its first and of the others
  pub rows_left : (xs : List A) (i : ℕ) (x : A) → i < length xs → slice_get xs i ≡ Some x → flat_map rows (drop i xs) ≡ rows x ++ flat_map rows (drop (i + 1) xs)
  rows_left xs i x inside at =
      let t = first_left xs i inside in
      let same : t.0 ≡ x = (let here = t.1 in cc) in ap (flat_map rows) t.2 ∙ ap (λ y. rows y ++ flat_map rows (drop (i + 1) xs)) same

  pub text_more : (xs : List A) (i : ℕ) (x : A) (before after : List ℕ) → i < length xs → slice_get xs i ≡ Some x → after ≡ before ++ lines_text (rows x)
      → after ++ lines_text (flat_map rows (drop (i + 1) xs)) ≡ before ++ lines_text (flat_map rows (drop i xs))
  text_more xs i x before after inside at grown =
      rw (grown, rows_left xs i x inside at, lines_text-append (rows x) (flat_map rows (drop (i + 1) xs))) (append_assoc before (lines_text (rows x)) (lines_text (flat_map rows (drop (i + 1) xs))))

  pub count_left : (xs : List A) (i : ℕ) (x : A) → i < length xs → slice_get xs i ≡ Some x → length (flat_map rows (drop i xs)) ≡ length (rows x) + length (flat_map rows (drop (i + 1) xs))
  count_left xs i x inside at = ap length (rows_left xs i x inside at) ∙ length-append (rows x) (flat_map rows (drop (i + 1) xs))

-- ---- a table

-- the first of the rows that are left
ran_next : (table : Table) (places : List ℕ) (i : ℕ) (p : Pick) (k : ℕ) → slice_get table i ≡ Some p → slice_get places i ≡ Some k
    → ran_rows (drop i table) (drop i places) ≡ ran_row p k ∷ ran_rows (drop (suc i) table) (drop (suc i) places)
ran_next [] places i p k at place = absurd (cc)
ran_next (q ∷ table) [] i p k at place = absurd (cc)
ran_next (q ∷ table) (j ∷ places) zero p k at place = (let is : q ≡ p = cc in let stands : j ≡ k = cc in λ n. ran_row (is n) (stands n) ∷ ran_rows table places)
ran_next (q ∷ table) (j ∷ places) (suc i) p k at place = ran_next table places i p k at place

pub ran_left : (table : Table) (places : List ℕ) (i : ℕ) (p : Pick) (k : ℕ) → slice_get table i ≡ Some p → slice_get places i ≡ Some k
    → ran_rows (drop i table) (drop i places) ≡ ran_row p k ∷ ran_rows (drop (i + 1) table) (drop (i + 1) places)
ran_left table places i p k at place =
    ran_next table places i p k at place ∙ ap (λ n. ran_row p k ∷ ran_rows (drop n table) (drop n places)) (let n : suc i ≡ i + 1 = omega arith in n)

pub ran_more : (table : Table) (places : List ℕ) (i : ℕ) (p : Pick) (k : ℕ) (before after : List ℕ) → slice_get table i ≡ Some p → slice_get places i ≡ Some k → after ≡ before ++ line (ran_row p k)
    → after ++ lines_text (ran_rows (drop (i + 1) table) (drop (i + 1) places)) ≡ before ++ lines_text (ran_rows (drop i table) (drop i places))
ran_more table places i p k before after at place grown = grind (arith, ran_left, append_assoc)

pub count_ran : (table : Table) (places : List ℕ) → length places ≡ length table → length (ran_rows table places) ≡ length table
count_ran [] places same = refl
count_ran (p ∷ table) (k ∷ places) same = grind (arith, count_ran table places)
count_ran _ _ same = absurd (omega (arith, same))
