-- What ran before a time, in which windows, and sums over it.
use Rattle.pfair_optimal.proofs.Common.{and_parts, and_from, false_from_ne_true, false≢true, or_cases, or_left, or_right, is_among, NoneTwice, ◌≡◌, Bool, true, List, [], ◌∷◌, ◌++◌, ap, refl, sym, ◌∙◌, inl, inr, ⊎_elim, arith, ◌↔◌, ◌⊎◌, ◌&&◌, filter, list_any, eqb-true, eq-eqb, Task, Subtask, same_task, same_subtask, next_of, previous_of, Schedule, is_row, has_run, IsRunBelow, ℕ, zero, suc, ◌+◌, ◌-◌, ◌<◌, ◌≤◌, false, true≢false, cases_lt, cases_Bool, not_from_false, ◌*◌, cond, not, length, subst, release, deadline, b_bit, busy_bound, GoesFirst, release_rises, deadline_rises_strictly, windows_overlap, b_bit_at_most_one, sum_by, window_not_empty}
use Rattle.std.proofs.lemmas.List.Folds.{list_any-append}
use Rattle.std.proofs.lemmas.Map.Views.{any-filter_same}
use Rattle.std.specs.Cmp.Lexicographic.{bytes_decides}
use Rattle.std.proofs.lemmas.List.Sums.{sum_by-cons}

-- What is among lists, by a test of being the same.

module _ {A : Type 0} (same : A → A → Bool) (exact : (a b : A) → (same a b ≡ true) ↔ (a ≡ b)) where
  pub among_here : (xs : List A) (x : A) → is_among same (x ∷ xs) x ≡ true
  among_here xs x = or_left (same x x) (list_any (same x) xs) ((exact x x).1 refl)

  pub among_more : (y : A) (xs : List A) (x : A) → is_among same xs x ≡ true → is_among same (y ∷ xs) x ≡ true
  among_more y xs x h = or_right (same x y) (list_any (same x) xs) h

  pub among_cases : (y : A) (ys : List A) (x : A) → is_among same (y ∷ ys) x ≡ true → (x ≡ y) ⊎ (is_among same ys x ≡ true)
  among_cases y ys x h = ⊎_elim (λ e. inl ((exact x y).0 e)) (λ m. inr m) (or_cases (same x y) (list_any (same x) ys) h)

  pub among_left : (xs ys : List A) (x : A) → is_among same xs x ≡ true → is_among same (xs ++ ys) x ≡ true
  among_left xs ys x h = list_any-append (same x) xs ys ∙ or_left (is_among same xs x) (is_among same ys x) h

  pub among_right : (xs ys : List A) (x : A) → is_among same ys x ≡ true → is_among same (xs ++ ys) x ≡ true
  among_right xs ys x h = list_any-append (same x) xs ys ∙ or_right (is_among same xs x) (is_among same ys x) h

  pub among_append : (xs ys : List A) (x : A) → is_among same (xs ++ ys) x ≡ true → (is_among same xs x ≡ true) ⊎ (is_among same ys x ≡ true)
  among_append xs ys x h = or_cases (is_among same xs x) (is_among same ys x) (sym (list_any-append (same x) xs ys) ∙ h)

  -- what passes a test
  filter_is : (p : A → Bool) (xs : List A) (x : A) → is_among same (filter p xs) x ≡ (p x && is_among same xs x)
  filter_is p xs x = any-filter_same (same x) p (p x) (λ y e. ap p (sym ((exact x y).0 e))) xs

  pub among_filter : (p : A → Bool) (xs : List A) (x : A) → is_among same (filter p xs) x ≡ true → (is_among same xs x ≡ true) × (p x ≡ true)
  among_filter p xs x h = let t = and_parts (p x) (is_among same xs x) (sym (filter_is p xs x) ∙ h) in (t.1, t.0)

  pub filter_among : (p : A → Bool) (xs : List A) (x : A) → is_among same xs x ≡ true → p x ≡ true → is_among same (filter p xs) x ≡ true
  filter_among p xs x h e = filter_is p xs x ∙ and_from (p x) (is_among same xs x) e h

  -- some one passes a test
  pub any_from : (p : A → Bool) (xs : List A) (x : A) → is_among same xs x ≡ true → p x ≡ true → list_any p xs ≡ true
  any_from p [] x h e = absurd (false≢true h)
  any_from p (y ∷ ys) x h e = grind (arith, among_cases, any_from p ys x)

  pub any_some : (p : A → Bool) (xs : List A) → list_any p xs ≡ true → (x : A) × (is_among same xs x ≡ true) × (p x ≡ true)
  any_some p [] h = absurd (false≢true h)
  any_some p (y ∷ ys) h = grind (arith, among_here, among_more, any_some p ys)

  pub any_same : (p : A → Bool) (xs ys : List A) → ((x : A) → p x ≡ true → (is_among same xs x ≡ true) ↔ (is_among same ys x ≡ true)) → list_any p xs ≡ list_any p ys
  any_same p xs ys alike = grind (arith, any_some p xs, any_some p ys, any_from)

  -- none twice
  pub twice_filter : (p : A → Bool) (xs : List A) → NoneTwice same xs → NoneTwice same (filter p xs)
  twice_filter p [] h = tt
  twice_filter p (y ∷ ys) h = grind (arith, false_from_ne_true, among_filter, twice_filter p ys h.1)

  pub twice_append : (xs ys : List A) → NoneTwice same xs → NoneTwice same ys → ((x : A) → is_among same xs x ≡ true → is_among same ys x ≡ true → ⊥) → NoneTwice same (xs ++ ys)
  twice_append [] ys a b apart = b
  twice_append (x ∷ xs) ys a b apart = grind (arith, among_here, among_append, among_more, twice_append xs ys a.1 b)

-- Subtasks that are the same, and those that ran before a time.

pub task_exact : (a b : Task) → (same_task a b ≡ true) ↔ (a ≡ b)
task_exact a b = grind (arith, and_parts, bytes_decides, eqb-true, and_from, eq-eqb)

pub subtask_exact : (a b : Subtask) → (same_subtask a b ≡ true) ↔ (a ≡ b)
subtask_exact a b = grind (arith, and_parts, task_exact, eqb-true, and_from, eq-eqb)

-- the one before the next, and the one after the previous
pub previous_next : (z : Subtask) → previous_of (next_of z) ≡ z
previous_next z = let e : z.index + 1 - 1 ≡ z.index = omega arith in λ i. record { task = z.task; index = e i }

pub next_previous : (z : Subtask) → 1 ≤ z.index → next_of (previous_of z) ≡ z
next_previous z some = let e : z.index - 1 + 1 ≡ z.index = omega arith in λ i. record { task = z.task; index = e i }

-- what ran before a time is a row of an earlier slot
pub ran_at : (x : Schedule) (z : Subtask) (t : ℕ) → has_run x z t ≡ true → (s : ℕ) × (s < t) × (is_row x s z ≡ true)
ran_at x z zero h = absurd (false≢true h)
ran_at x z (suc t) h = grind (arith, ran_at x z t)

pub ran_by : (x : Schedule) (z : Subtask) (s t : ℕ) → s < t → is_row x s z ≡ true → has_run x z t ≡ true
ran_by x z s zero less row = absurd (omega arith)
ran_by x z s (suc t) less row = grind (arith, ran_by x z s t)

-- what ran before a time ran before each later one
pub ran_more : (x : Schedule) (z : Subtask) (s t : ℕ) → s ≤ t → has_run x z s ≡ true → has_run x z t ≡ true
ran_more x z s t le ran = (let p = ran_at x z s ran in ran_by x z p.0 t (omega arith) p.2)

module _ (x : Schedule) {n : ℕ} (is : IsRunBelow x n) where
  -- a row of a slot has not run before
  pub row_not_before : (z : Subtask) (s t : ℕ) → s < n → is_row x s z ≡ true → t ≤ s → has_run x z t ≡ false
  row_not_before z s t early row le = grind (arith, ran_at)

  -- the rows of one task run in order
  pub next_after : (z : Subtask) (s t : ℕ) → s < n → t < n → is_row x s z ≡ true → is_row x t (next_of z) ≡ true → s < t
  next_after z s t before early row next = grind (arith, previous_next, ran_at)

  pub next_not_run : (z : Subtask) (t : ℕ) → t < n → is_row x t z ≡ true → has_run x (next_of z) (suc t) ≡ false
  next_not_run z t early row = grind (arith, ran_at, next_after)

-- Sums over lists.

abbrev pub total : {A : Type 0} → (A → ℕ) → List A → ℕ
total f [] = 0
total f (x ∷ xs) = f x + total f xs

module _ {A : Type 0} where
  pub total_sum : (f : A → ℕ) (xs : List A) → sum_by f xs ≡ total f xs
  total_sum f [] = refl
  total_sum f (x ∷ xs) = sum_by-cons f x xs ∙ ap (λ (n : ℕ). f x + n) (total_sum f xs)

  pub total_plus : (f g : A → ℕ) (xs : List A) → total (λ a. f a + g a) xs ≡ total f xs + total g xs
  total_plus f g [] = omega arith
  total_plus f g (x ∷ xs) = let rest = total_plus f g xs in omega arith

  pub total_times : (k : ℕ) (f : A → ℕ) (xs : List A) → total (λ a. k * f a) xs ≡ k * total f xs
  total_times k f [] = omega arith
  total_times k f (x ∷ xs) = let rest = total_times k f xs in omega arith

  pub total_constant : (k : ℕ) (xs : List A) → total (λ _. k) xs ≡ length xs * k
  total_constant k [] = omega arith
  total_constant k (x ∷ xs) = let rest = total_constant k xs in omega arith

  -- at most, each or all
  pub total_all_le : (f g : A → ℕ) (xs : List A) → ((a : A) → f a ≤ g a) → total f xs ≤ total g xs
  total_all_le f g [] h = omega arith
  total_all_le f g (x ∷ xs) h = let here = h x in let rest = total_all_le f g xs h in omega arith

  pub total_all_same : (f g : A → ℕ) (xs : List A) → ((a : A) → f a ≡ g a) → total f xs ≡ total g xs
  total_all_same f g [] h = refl
  total_all_same f g (x ∷ xs) h = let here = h x in let rest = total_all_same f g xs h in omega arith

  pub total_none : (xs : List A) → total (λ _. 0) xs ≡ 0
  total_none [] = refl
  total_none (x ∷ xs) = let rest = total_none xs in omega arith

module _ {A : Type 0} (same : A → A → Bool) (exact : (a b : A) → (same a b ≡ true) ↔ (a ≡ b)) where
  pub total_same : (f g : A → ℕ) (xs : List A) → ((a : A) → is_among same xs a ≡ true → f a ≡ g a) → total f xs ≡ total g xs
  total_same f g [] h = refl
  total_same f g (x ∷ xs) h = let here = h x (among_here same exact xs x) in let rest = total_same f g xs (λ a i. h a (among_more same exact x xs a i)) in omega arith

  -- if a sum is above 0, one of its terms is
  pub total_some : (f : A → ℕ) (xs : List A) → 0 < total f xs → (a : A) × (is_among same xs a ≡ true) × (0 < f a)
  total_some f [] h = absurd (omega arith)
  total_some f (x ∷ xs) h =
      elim (cases_lt 0 (f x)) [
        | inl some ↦ (x, among_here same exact xs x, some)
        | inr none ↦ (let t = total_some f xs (omega arith) in (t.0, among_more same exact x xs t.0 t.1, t.2))
      ]

  -- the others of a list
  total_others_le : (f : A → ℕ) (a : A) (xs : List A) → total f (filter (λ b. not (same a b)) xs) ≤ total f xs
  total_others_le f a [] = omega arith
  total_others_le f a (x ∷ xs) = grind (arith, total_others_le f a xs)

  total_without : (f : A → ℕ) (a : A) (xs : List A) → is_among same xs a ≡ true → f a + total f (filter (λ b. not (same a b)) xs) ≤ total f xs
  total_without f a [] h = absurd (false≢true h)
  total_without f a (x ∷ xs) h = grind (arith, total_others_le, among_cases, total_without f a xs)

  -- if all terms above 0 stand in another list, the sum is at most the sum over that list
  pub total_among : (f : A → ℕ) (xs ys : List A) → NoneTwice same xs → ((a : A) → is_among same xs a ≡ true → 0 < f a → is_among same ys a ≡ true) → total f xs ≤ total f ys
  total_among f [] ys apart h = omega arith
  total_among f (x ∷ xs) ys apart h =
      elim (cases_lt 0 (f x)) [
        | inl some ↦
            let here = h x (among_here same exact xs x) some in
            let without = total_without f x ys here in
            grind (arith, total_among f xs, filter_among, among_more, other, cases_Bool)
        | inr none ↦ (let rest = total_among f xs ys apart.1 (λ a i s. h a (among_more same exact x xs a i) s) in omega arith)
      ]
    where
      other : (a : A) → is_among same xs a ≡ true → (same x a ≡ true) ⊎ (same x a ≡ false) → not (same x a) ≡ true
      other a i (inr e) = not_from_false (same x a) e
      other a i (inl e) = absurd (true≢false (sym (subst (λ (b : A). is_among same xs b ≡ true) (sym ((exact x a).0 e)) i) ∙ apart.0))

  -- one term stands for itself
  pub total_zero : (k : ℕ) (b : A) (xs : List A) → is_among same xs b ≡ false → total (λ a. cond (same b a) k 0) xs ≡ 0
  total_zero k b xs h = grind (arith, total_some)

  pub total_one : (k : ℕ) (b : A) (xs : List A) → NoneTwice same xs → is_among same xs b ≡ true → total (λ a. cond (same b a) k 0) xs ≡ k
  total_one k b [] apart h = absurd (false≢true h)
  total_one k b (x ∷ xs) apart h = grind (arith, among_cases, total_zero, total_one k b xs apart.1)

-- Windows in a run.

module _ (x : Schedule) {n : ℕ} (is : IsRunBelow x n) where
  -- offsets never fall
  pub offsets : (a : Task) (i j : ℕ) → 1 ≤ i → i ≤ j → x.offset a i ≤ x.offset a j
  offsets a i zero first le = absurd (omega arith)
  offsets a i (suc j) first le = grind (arith, offsets a i j first)

  -- the next window opens where this one closes less the b-bit, and the delay between them
  pub next_release : (z : Subtask) → 1 ≤ z.index → release x (next_of z) + b_bit x z + x.offset z.task z.index ≡ deadline x z + x.offset z.task (z.index + 1)
  next_release z first = grind (arith, windows_overlap)

  pub next_release_late : (z : Subtask) → 1 ≤ z.index → deadline x z ≤ release x (next_of z) + b_bit x z
  next_release_late z first = grind (arith, next_release)

  pub b_bit_small : (z : Subtask) → b_bit x z ≤ 1
  b_bit_small z = b_bit_at_most_one (x.weight z.task) z.index

  pub release_before : (z : Subtask) → 1 ≤ z.index → release x z < deadline x z
  release_before z first = window_not_empty (x.weight z.task) z.index (x.offset z.task z.index) (is.weights z.task) first

  -- a window with b-bit 1 has two slots at least
  pub release_two_before : (z : Subtask) → 1 ≤ z.index → b_bit x z ≡ 1 → release x z + 1 < deadline x z
  release_two_before z first bit = grind (arith, release_rises, windows_overlap)

  pub release_joined : (z : Subtask) → 1 ≤ z.index → z.task.joined ≤ release x z
  release_joined z first = let start = is.offsets_start z.task z.index first in omega arith

  -- releases and deadlines rise with the index
  pub releases : (a : Task) (i j : ℕ) → 1 ≤ i → i < j → release x (record { task = a; index = i }) < release x (record { task = a; index = j })
  releases a i j first less = grind (arith, offsets, release_rises (x.weight a) i j 0 (is.weights a) first less)

  pub deadlines : (a : Task) (i j : ℕ) → 1 ≤ i → i < j → deadline x (record { task = a; index = i }) < deadline x (record { task = a; index = j })
  deadlines a i j first less = grind (arith, offsets, deadline_rises_strictly (x.weight a) i j 0 (is.weights a) less)

  pub next_deadline : (z : Subtask) → 1 ≤ z.index → deadline x z < deadline x (next_of z)
  next_deadline z first = deadlines z.task z.index (z.index + 1) first (omega arith)

  -- of two with one deadline and b-bit 1 the one that goes first is bound no earlier
  pub first_bound : (w z : Subtask) → GoesFirst x w z → (deadline x w ≤ deadline x z) × (deadline x w ≡ deadline x z → b_bit x z ≡ 1 → (b_bit x w ≡ 1) × (busy_bound x z ≤ busy_bound x w))
  first_bound w z before = grind (arith, b_bit_small)
