-- Processors in use as bits, and the rows that take the least ones that are not.
use Rattle.pfair_table.proofs.Common.{AllByRecursion, append_assoc, drop_more, eqb-true, eq-eqb, cases_lt, is_used, free_place, all_kept, filled, ℕ, ◌+◌, ◌-◌, ◌*◌, ◌^◌, ◌%◌, ◌<◌, ◌≤◌, ◌≡◌, refl, ap, ◌∙◌, arith, inl, inr, bit_or, Bool, true, false, List, [], ◌∷◌, ◌++◌, length, drop, get_or, subst, Option, Some, None, ◌||◌, if◌then◌else◌, AreInUse, cases_eq, length-set, length-replicate, get_or-set_same, get_or-set_other, name_eq, name_exact, name_itself, Pick, Table, nat_list_eq_equiv, NamesApart, apart_head, apart_tail, place_of, common_steps, zero, suc, sym, ◌≢◌, slice_get, slice_index, set, Name, w64, replicate, or_lt, bucket, AreBucketsOf}
use Rattle.std.specs.Int.{bit_at, trailing_ones}
use Rattle.std.proofs.lemmas.Nat.Bits.{bit_at-trailing_ones, bit_at_set_same, bit_at_set_other, bit_at_ones, bit_at-zero}
use Rattle.pfair_table.proofs.PlacesKept.{pigeons, free_is, count_others}
use Rattle.pfair_order.proofs.RankLemmas.{at_each}

-- ---- bits

is_clear : (b : Bool) (n : ℕ) → n ≡ (if b then 1 else 0) → n ≡ 0 → b ≡ false
is_clear b n e z = grind arith

is_set : (b : Bool) (n : ℕ) → n ≡ (if b then 1 else 0) → n ≡ 1 → b ≡ true
is_set b n e z = grind arith

pub none_in_use : AreInUse 0 []
none_in_use k l = bit_at-zero k

-- while fewer than 64 are in use, some bit is clear
pub not_full : (bits : ℕ) (used : List ℕ) → bits < 2 ^ 64 → AreInUse bits used → length used < 64 → bits + 1 < 2 ^ 64
not_full bits used fits in_use few =
    elim (cases_lt (bits + 1) (2 ^ 64)) [
      | inl l ↦ l
      | inr g ↦ (let full : bits ≡ 2 ^ 64 - 1 = omega (arith, g, fits) in
          absurd (omega (arith, few, pigeons 64 used (λ k l. is_set (is_used used k) (bit_at bits k) (in_use k l) (ap (λ n. bit_at n k) full ∙ bit_at_ones 64 k l)))))
    ]

-- the lowest bit that is clear is that of the free place
pub lowest_is_free : (bits : ℕ) (used : List ℕ) → bits + 1 < 2 ^ 64 → AreInUse bits used → (trailing_ones w64 bits ≡ free_place used) × (trailing_ones w64 bits < 64)
lowest_is_free bits used fits in_use =
    let lowest = bit_at-trailing_ones w64 bits fits in
    let k = trailing_ones w64 bits in
    grind (arith, free_is, is_clear, is_set)

pub in_use_with : (bits : ℕ) (used : List ℕ) (k : ℕ) → k < 64 → AreInUse bits used → AreInUse (bit_or bits (1 * 2 ^ k % 2 ^ 64)) (k ∷ used)
in_use_with bits used k within in_use i l = grind (arith, eqb-true, eq-eqb, bit_at_set_same w64 bits k within, bit_at_set_other w64 bits k within i, in_use i l)

-- so that bit is taken
pub least_taken : (bits : ℕ) (used : List ℕ) (k : ℕ) → k ≡ trailing_ones w64 bits → bits < 2 ^ 64 → AreInUse bits used → length used < 64
    → (k ≡ free_place used) × AreInUse (bit_or bits (1 * 2 ^ k % 2 ^ 64)) (free_place used ∷ used) × (bit_or bits (1 * 2 ^ k % 2 ^ 64) < 2 ^ 64) × (k < 64)
least_taken bits used k is fits in_use few =
    let lowest = lowest_is_free bits used (not_full bits used fits in_use few) in_use in
    let free : k ≡ free_place used = is ∙ lowest.0 in
    let within : k < 64 = omega (arith, is, lowest.1) in
    (free, subst (λ j. AreInUse (bit_or bits (1 * 2 ^ k % 2 ^ 64)) (j ∷ used)) free (in_use_with bits used k within in_use), or_lt 64 bits (1 * 2 ^ k % 2 ^ 64) fits (omega arith), within)

-- ---- the rows that keep a place

-- what some rows keep is in use, and what the others keep is still to come
pub record AreUsedSoFar (bits : ℕ) (rest kept : List (Option ℕ)) : Type 0 where
  pub used : List ℕ
  pub in_use : AreInUse bits used
  pub same : (k : ℕ) → (is_used used k || is_used (all_kept rest) k) ≡ is_used (all_kept kept) k
  pub below : AllByRecursion (λ k. k < 64) (all_kept rest)

pub used_start : (kept : List (Option ℕ)) → AllByRecursion (λ k. k < 64) (all_kept kept) → AreUsedSoFar 0 kept kept
used_start kept below = record { used = []; in_use = none_in_use; same = λ k. refl; below = below }

pub used_other : (bits : ℕ) (rest kept : List (Option ℕ)) → AreUsedSoFar bits (None ∷ rest) kept → AreUsedSoFar bits rest kept
used_other bits rest kept s = record { used = s.used; in_use = s.in_use; same = s.same; below = s.below }

pub used_kept : (bits : ℕ) (j : ℕ) (rest kept : List (Option ℕ)) → AreUsedSoFar bits (Some j ∷ rest) kept → AreUsedSoFar (bit_or bits (1 * 2 ^ j % 2 ^ 64)) rest kept
used_kept bits j rest kept s = record {
  used = j ∷ s.used;
  in_use = in_use_with bits s.used j s.below.0 s.in_use;
  same = λ k. (let same = s.same k in grind (arith, same));
  below = s.below.1;
}

pub used_end : (bits : ℕ) (kept : List (Option ℕ)) → AreUsedSoFar bits [] kept → AreInUse bits (all_kept kept)
used_end bits kept s k l = grind arith

-- ---- row after row

-- some rows have their places, and the others' are still to come
pub record AreFilledSoFar (bits : ℕ) (places : List ℕ) (rest : List (Option ℕ)) (whole : List ℕ) : Type 0 where
  pub used : List ℕ
  pub in_use : AreInUse bits used
  pub fits : bits < 2 ^ 64
  pub so_far : places ++ filled used rest ≡ whole
  pub room : length used + count_others rest ≤ 64

-- the next row
pub next_row : {bits : ℕ} {places : List ℕ} {whole : List ℕ} (kept : List (Option ℕ)) {i : ℕ} {o : Option ℕ} → i < length kept → get_or kept i None ≡ o → AreFilledSoFar bits places (drop i kept) whole
    → AreFilledSoFar bits places (o ∷ drop (i + 1) kept) whole
next_row {bits} {places} {whole} kept {i} inside is = subst (λ (rest : List (Option ℕ)). AreFilledSoFar bits places rest whole) (drop_more kept i None inside ∙ ap (λ (o : Option ℕ). o ∷ drop (i + 1) kept) is)

pub filled_kept : (bits : ℕ) (places : List ℕ) (j : ℕ) (rest : List (Option ℕ)) (whole : List ℕ) → AreFilledSoFar bits places (Some j ∷ rest) whole → AreFilledSoFar bits (places ++ j ∷ []) rest whole
filled_kept bits places j rest whole s = grind (arith, append_assoc)

-- a row that keeps none takes the free place
pub filled_free : (bits bits2 : ℕ) (places : List ℕ) (k : ℕ) (rest : List (Option ℕ)) (whole : List ℕ) → (s : AreFilledSoFar bits places (None ∷ rest) whole)
    → k ≡ free_place s.used → AreInUse bits2 (free_place s.used ∷ s.used) → bits2 < 2 ^ 64 → AreFilledSoFar bits2 (places ++ k ∷ []) rest whole
filled_free bits bits2 places k rest whole s free in_use fits =
    let room = s.room in
    record {
      used = free_place s.used ∷ s.used;
      in_use = in_use;
      fits = fits;
      so_far = ap (λ j. (places ++ j ∷ []) ++ filled (free_place s.used ∷ s.used) rest) free ∙ append_assoc places (free_place s.used ∷ []) (filled (free_place s.used ∷ s.used) rest) ∙ s.so_far;
      room = omega (arith, room);
    }

pub room_left : (bits : ℕ) (places : List ℕ) (rest : List (Option ℕ)) (whole : List ℕ) → (s : AreFilledSoFar bits places (None ∷ rest) whole) → length s.used < 64
room_left bits places rest whole s = omega (arith, s.room)

-- Rows found by their buckets.

-- a task that no row names has no place
no_place : (rows : Table) (places : List ℕ) (name : Name) → ((r : ℕ) (p : Pick) → slice_get rows r ≡ Some p → name ≡ p.name → ⊥) → place_of rows places name ≡ None
no_place [] places name none = refl
no_place (p ∷ rows) [] name none = refl
no_place (p ∷ rows) (k ∷ places) name none = grind (arith, name_exact, none 0 p refl, no_place rows places name (λ r q h. none (suc r) q h))

pub none_by_bucket : (rows : Table) (ends places : List ℕ) (name : Name) → AreBucketsOf rows ends → slice_index ends (bucket name) ≡ 0 → None ≡ place_of rows places name
none_by_bucket rows ends places name of none = sym (no_place rows places name (λ r p h e. of.found r p h (ap (λ n. slice_index ends (bucket n)) (sym e) ∙ none)))

-- the place of the one row that names a task
pub place_by_row : (rows : Table) (places : List ℕ) (name : Name) (r : ℕ) (p : Pick) → NamesApart (λ (p : Pick). p.name) rows → slice_get rows r ≡ Some p → p.name ≡ name → slice_get places r ≡ place_of rows places name
place_by_row [] places name r p once h same = absurd (cc)
place_by_row (q ∷ rows) [] name r p once h same = refl
place_by_row (q ∷ rows) (k ∷ places) name zero p once h same = grind (arith, name_itself)
place_by_row (q ∷ rows) (k ∷ places) name (suc r) p once h same =
    let unlike : name_eq q.name p.name ≡ false = at_each (λ (x : Pick). name_eq q.name x.name ≡ false) rows r p (apart_head (λ (p : Pick). p.name) q rows once) h in
    grind (arith, unlike, nat_list_eq_equiv.symm, place_by_row rows places name r p (apart_tail (λ (p : Pick). p.name) q rows once) h same)

-- ---- the rows entered so far

pub record AreBucketsBelow (rows : Table) (ends : List ℕ) (i : ℕ) : Type 0 where
  pub long : length ends ≡ 256
  pub within : (b : ℕ) → slice_index ends b ≤ i
  pub found : (r : ℕ) (p : Pick) → r < i → slice_get rows r ≡ Some p → slice_index ends (bucket p.name) ≢ 0

pub one_more : (rows : Table) (ends : List ℕ) (i b : ℕ) (p : Pick) → AreBucketsBelow rows ends i → slice_get rows i ≡ Some p → b ≡ bucket p.name → b < 256 → AreBucketsBelow rows (set ends b (i + 1)) (i + 1)
one_more rows ends i b p below at_i is room = grind (arith, length-set, get_or-set_same, get_or-set_other, cases_eq)

zeros : (n b : ℕ) → slice_index (replicate n 0) b ≡ 0
zeros n b = grind (arith, common_steps)

-- no row yet
pub no_rows_yet : (rows : Table) → AreBucketsBelow rows (replicate 256 0) 0
no_rows_yet rows = record {
  long = length-replicate {A = ℕ} 256 0;
  within = λ b. (let none = zeros 256 b in omega (arith, none));
  found = λ r p l h e. absurd (omega (arith, l));
}
