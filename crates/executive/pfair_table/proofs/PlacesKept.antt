-- Places are processors, no two of a table are equal, and a task that goes on running keeps its own.
use Rattle.pfair_table.proofs.Common.{true≢false, eqb-true, eq-eqb, ne_eqb, or_cases, or_left, or_right, cases_lt, numbers_below, Among, filter_among, among_below, is_used, free_place, ℕ, zero, suc, ◌<◌, ◌≤◌, ◌≡◌, refl, sym, ap, ◌∙◌, arith, inl, inr, Bool, true, false, cond, List, [], ◌∷◌, ◌++◌, length, Option, Some, None, AllByRecursion, length-map, name_eq, name_exact, name_itself, Settings, Origin, Table, names_task, Pick, NamesApart, apart_head, apart_tail, place_of, kept_places, all_kept, filled, places_after, places_before, places_from, table_before, IsFit, AllDiffer, ArePlacesOf, IsOrigin, all_among, among_all, none-some, same_Some, ◌+◌, subst, ◌≢◌, ◌||◌, slice_get, if◌then◌else◌, Name, length-filter, count_by-le-length, KeepPlace, PlacesAreKept, PlacesFollowTables}
use Rattle.std.specs.Prelude.{◌⊎◌, ◌==◌, find, filter, not, unwrap_or}

-- The least processor that is not in use.

-- ---- the first that passes

find_left : {A : Type 0} (p : A → Bool) (xs ys : List A) (x : A) → find p xs ≡ Some x → find p (xs ++ ys) ≡ Some x
find_left p [] ys x e = absurd (cc)
find_left {A} p (y ∷ xs) ys x e = grind (arith, find_left p xs ys x)

find_right : {A : Type 0} (p : A → Bool) (xs ys : List A) → ((x : A) → Among xs x → p x ≡ false) → find p (xs ++ ys) ≡ find p ys
find_right p [] ys none = refl
find_right p (x ∷ xs) ys none = ap (λ b. cond b (Some x) (find p (xs ++ ys))) (none x (inl refl)) ∙ find_right p xs ys (λ y h. none y (inr h))

-- if a number passes and none below it does
find_number : (p : ℕ → Bool) (n k : ℕ) → k < n → p k ≡ true → ((i : ℕ) → i < k → p i ≡ false) → find p (numbers_below n) ≡ Some k
find_number p zero k l e least = absurd (omega (arith, l))
find_number p (suc n) k l e least = grind (arith, cases_lt k n, find_left p (numbers_below n) (n ∷ []) k, find_right p (numbers_below n) (n ∷ []), among_below, find_number p n k)

find_no_number : (p : ℕ → Bool) (n : ℕ) → ((i : ℕ) → i < n → p i ≡ false) → find p (numbers_below n) ≡ None
find_no_number p n none = grind (arith, find_right, among_below)

-- ---- in use

pub used_among : (used : List ℕ) (k : ℕ) → is_used used k ≡ true → Among used k
used_among [] k e = absurd (true≢false (sym e))
used_among (j ∷ used) k e = elim (or_cases (j == k) (is_used used k) e) [ inl i ↦ inl (sym (eqb-true j k i)) | inr i ↦ inr (used_among used k i) ]

pub among_used : (used : List ℕ) (k : ℕ) → Among used k → is_used used k ≡ true
among_used [] k h = absurd h
among_used (j ∷ used) k (inl e) = or_left (j == k) (is_used used k) (eq-eqb j k (sym e))
among_used (j ∷ used) k (inr h) = or_right (j == k) (is_used used k) (among_used used k h)

count_short : {A : Type 0} (p : A → Bool) (xs : List A) (x : A) → Among xs x → p x ≡ false → length (filter p xs) < length xs
count_short p [] x h e = absurd h
count_short {A} p (y ∷ ys) x h e = grind (arith, true≢false, count_by-le-length, length-filter, count_short p ys x)

-- a list that has each number below n is no shorter than n
pub pigeons : (n : ℕ) (used : List ℕ) → ((k : ℕ) → k < n → is_used used k ≡ true) → n ≤ length used
pigeons zero used f = omega arith
pigeons (suc n) used f =
    let others = λ (j : ℕ). not (j == n) in
    let more = pigeons n (filter others used) (λ k l. among_used (filter others used) k (filter_among others used k (used_among used k (f k (omega (arith, l)))) (ap not (ne_eqb k n (λ e. omega (arith, l, e)))))) in
    let short = count_short others used n (used_among used n (f n (omega arith))) (ap not (eq-eqb n n refl)) in
    omega (arith, more, short)

-- A number that is not in use, while all below it are, is the free place, and not above the count of those in use.
pub free_is : (used : List ℕ) (k : ℕ) → is_used used k ≡ false → ((i : ℕ) → i < k → is_used used i ≡ true) → (free_place used ≡ k) × (k ≤ length used)
free_is used k e least =
    let le = pigeons k used least in
    let free = λ (i : ℕ). not (is_used used i) in (
      elim (cases_lt k (length used)) [
        | inl l ↦ ap (λ (o : Option ℕ). unwrap_or o (length used)) (find_number free (length used) k l (ap not e) (λ i h. ap not (least i h)))
        | inr g ↦ (grind (arith, find_no_number))
      ],
      le,
    )

-- there is such a number: of the first ones, or the next
least_free : (used : List ℕ) (n : ℕ) → ((k : ℕ) → k < n → is_used used k ≡ true) ⊎ ((k : ℕ) × (is_used used k ≡ false) × ((i : ℕ) → i < k → is_used used i ≡ true))
least_free used zero = inl (λ k l. absurd (omega (arith, l)))
least_free used (suc n) = elim (least_free used n) [ inl f ↦ by (is_used used n) refl f | inr t ↦ inr t ]
  where
    by : (b : Bool) → is_used used n ≡ b → ((k : ℕ) → k < n → is_used used k ≡ true) → ((k : ℕ) → k < suc n → is_used used k ≡ true) ⊎ ((k : ℕ) × (is_used used k ≡ false) × ((i : ℕ) → i < k → is_used used i ≡ true))
    by true e f = inl (λ k l. grind (arith, cases_lt, f k))
    by false e f = inr (n, e, f)

-- The free place is not in use, and not above the count of those that are.
pub free_place_is_free : (used : List ℕ) → (is_used used (free_place used) ≡ false) × (free_place used ≤ length used)
free_place_is_free used =
    elim (least_free used (suc (length used))) [
      | inl f ↦ absurd (omega (arith, pigeons (suc (length used)) used f))
      | inr t ↦ (let is = free_is used t.0 t.1 t.2 in (ap (is_used used) is.0 ∙ t.1, omega (arith, is)))
    ]

-- ---- a task that goes on running

kept_place : (used : List ℕ) (before : Table) (old : List ℕ) (now : Table) (name : Name) (k : ℕ) → place_of before old name ≡ Some k → names_task name now ≡ true → place_of now (filled used (kept_places before old now)) name ≡ Some k
kept_place used before old [] name k e h = absurd (true≢false (sym h))
kept_place used before old (p ∷ picks) name k e h =
    let more : (u : List ℕ) → names_task name picks ≡ true → place_of picks (filled u (kept_places before old picks)) name ≡ Some k = λ u i. kept_place u before old picks name k e i in
    grind (arith, name_exact name p.name, more used, more (free_place used ∷ used))

-- a task of a table has a place, if each row has one
has_place : (rows : Table) (places : List ℕ) → length places ≡ length rows → (name : Name) → names_task name rows ≡ true → (k : ℕ) × (place_of rows places name ≡ Some k)
has_place [] places long name h = absurd (true≢false (sym h))
has_place (p ∷ picks) [] long name h = absurd (omega (arith, long))
has_place (p ∷ picks) (j ∷ places) long name h = by (name_eq name p.name) h (λ i. has_place picks places (omega (arith, long)) name i)
  where
    by : (b : Bool) → (b || names_task name picks) ≡ true → (names_task name picks ≡ true → (k : ℕ) × (place_of picks places name ≡ Some k)) → (k : ℕ) × ((if b then Some j else place_of picks places name) ≡ Some k)
    by true h more = (j, refl)
    by false h more = more h

-- ---- the rows

abbrev pub count_others : List (Option ℕ) → ℕ
count_others [] = 0
count_others (None ∷ kept) = suc (count_others kept)
count_others (Some k ∷ kept) = count_others kept

-- the free place is a processor, while there are fewer in use
free_below : (m : ℕ) (used : List ℕ) → length used < m → free_place used < m
free_below m used room = let le = (free_place_is_free used).1 in omega (arith, le, room)

free_apart : (used : List ℕ) → Among used (free_place used) → ⊥
free_apart used h = true≢false (sym (among_used used (free_place used) h) ∙ (free_place_is_free used).0)

-- each place is a processor, and kept or not in use
filled_in : (m : ℕ) (used : List ℕ) (kept : List (Option ℕ)) → ((k : ℕ) → Among (all_kept kept) k → k < m) → length used + count_others kept ≤ m
    → (k : ℕ) → Among (filled used kept) k → (k < m) × (Among (all_kept kept) k ⊎ (Among used k → ⊥))
filled_in m used [] below room k h = absurd h
filled_in m used (Some j ∷ kept) below room k h = grind (arith, below k, filled_in m used kept (λ i l. below i (inr l)) room k)
filled_in m used (None ∷ kept) below room k h = grind (arith, free_below m used, free_apart used, filled_in m (free_place used ∷ used) kept below (omega (arith, room)) k)

filled_differ : (m : ℕ) (used : List ℕ) (kept : List (Option ℕ)) → ((k : ℕ) → Among (all_kept kept) k → k < m) → length used + count_others kept ≤ m
    → AllDiffer (all_kept kept) → ((k : ℕ) → Among (all_kept kept) k → Among used k) → AllDiffer (filled used kept)
filled_differ m used [] below room differ in_use = tt
filled_differ m used (Some k ∷ kept) below room differ in_use = (
  all_among (λ j. k ≢ j) (filled used kept) (λ j h. grind (arith, filled_in m used kept (λ i l. below i (inr l)) room j h, among_all (λ j. k ≢ j) (all_kept kept) differ.0 j, in_use k)),
  filled_differ m used kept (λ i l. below i (inr l)) room differ.1 (λ i l. in_use i (inr l)),
)
filled_differ m used (None ∷ kept) below room differ in_use = (
  all_among (λ j. free_place used ≢ j) (filled (free_place used ∷ used) kept) (λ j h. grind (arith, free_apart used, filled_in m (free_place used ∷ used) kept below (omega (arith, room)) j h, in_use j)),
  filled_differ m (free_place used ∷ used) kept below (omega (arith, room)) differ (λ i l. inr (in_use i l)),
)

filled_long : (used : List ℕ) (kept : List (Option ℕ)) → length (filled used kept) ≡ length kept
filled_long used [] = refl
filled_long used (Some k ∷ kept) = ap suc (filled_long used kept)
filled_long used (None ∷ kept) = ap suc (filled_long (free_place used ∷ used) kept)

pub kept_long : (before : Table) (old : List ℕ) (now : Table) → length (kept_places before old now) ≡ length now
kept_long before old now = length-map now (λ p. place_of before old p.name)

pub kept_count : (kept : List (Option ℕ)) → length (all_kept kept) + count_others kept ≡ length kept
kept_count [] = refl
kept_count (None ∷ kept) = omega (arith, kept_count kept)
kept_count (Some k ∷ kept) = omega (arith, kept_count kept)

-- a place that is found is one of the places
place_among : (before : Table) (old : List ℕ) (name : Name) (k : ℕ) → place_of before old name ≡ Some k → Among old k
place_among [] old name k e = absurd (cc)
place_among (p ∷ picks) [] name k e = absurd (cc)
place_among (p ∷ picks) (j ∷ old) name k e = grind (arith, place_among picks old name k)

-- a place leads back to its task
place_once : (before : Table) (old : List ℕ) → AllDiffer old → (a b : Name) (k : ℕ) → place_of before old a ≡ Some k → place_of before old b ≡ Some k → a ≡ b
place_once [] old differ a b k e f = absurd (cc)
place_once (p ∷ picks) [] differ a b k e f = absurd (cc)
place_once (p ∷ picks) (j ∷ old) differ a b k e f = grind (arith, place_of, name_exact a p.name, name_exact b p.name, same_Some, place_among picks old a k, place_among picks old b k, among_all (λ i. j ≢ i) old differ.0 k, place_once picks old differ.1 a b k)

-- what is kept is the place of some row
kept_from : (before : Table) (old : List ℕ) (now : Table) (k : ℕ) → Among (all_kept (kept_places before old now)) k → (p : Pick) × Among now p × (place_of before old p.name ≡ Some k)
kept_from before old [] k h = absurd h
kept_from before old (p ∷ picks) k h = grind (arith, kept_from before old picks k)

-- what is kept was a place before
pub kept_among : (before : Table) (old : List ℕ) (now : Table) (k : ℕ) → Among (all_kept (kept_places before old now)) k → Among old k
kept_among before old now k h = let t = kept_from before old now k h in place_among before old t.0.name k t.2

kept_differ : (before : Table) (old : List ℕ) → AllDiffer old → (now : Table) → NamesApart (λ (p : Pick). p.name) now → AllDiffer (all_kept (kept_places before old now))
kept_differ before old differ [] once = tt
kept_differ before old differ (p ∷ picks) once = by (place_of before old p.name) refl (kept_differ before old differ picks (apart_tail (λ (p : Pick). p.name) p picks once))
  where
    by : (o : Option ℕ) → place_of before old p.name ≡ o → AllDiffer (all_kept (kept_places before old picks)) → AllDiffer (all_kept (o ∷ kept_places before old picks))
    by None e more = more
    by (Some k) e more = (
      all_among (λ j. k ≢ j) (all_kept (kept_places before old picks)) (λ j h same. (let t = kept_from before old picks j h in
          let one : p.name ≡ t.0.name = place_once before old differ p.name t.0.name k e (t.2 ∙ ap (λ n. Some n) (sym same)) in
          true≢false (sym (subst (λ n. name_eq p.name n ≡ true) one (name_itself p.name)) ∙ among_all (λ (r : Pick). name_eq p.name r.name ≡ false) picks (apart_head (λ (p : Pick). p.name) p picks once) t.0 t.1))),
      more,
    )

-- ---- table after table

-- the places of the next table are such as those before it
pub next_places : (m : ℕ) (before : Table) (old : List ℕ) → ArePlacesOf m before old → (now : Table) → IsFit m now → ArePlacesOf m now (places_after before old now)
next_places m before old are now fit =
    let kept = kept_places before old now in
    let below : (k : ℕ) → Among (all_kept kept) k → k < m = λ k h. among_all (λ k. k < m) old are.below k (kept_among before old now k h) in
    let room : length (all_kept kept) + count_others kept ≤ m = omega (arith, kept_count kept, kept_long before old now, fit.0) in
    record {
      one_each = filled_long (all_kept kept) kept ∙ kept_long before old now;
      below = all_among (λ k. k < m) (places_after before old now) (λ k h. (filled_in m (all_kept kept) kept below room k h).0);
      differ = filled_differ m (all_kept kept) kept below room (kept_differ before old are.differ now fit.1) (λ k h. h);
    }

stays : (before : Table) (old : List ℕ) → length old ≡ length before → (now : Table) → KeepPlace before old now (places_after before old now)
stays before old long now name h g = let t = has_place before old long name h in t.1 ∙ sym (kept_place (all_kept (kept_places before old now)) before old now name t.0 t.1 g)

-- ---- the law, from any table on

each_on : (m : ℕ) (before : Table) (old : List ℕ) → ArePlacesOf m before old → (tables : List Table) → AllByRecursion (IsFit m) tables
    → (t : ℕ) (rows : Table) (places : List ℕ) → slice_get tables t ≡ Some rows → slice_get (places_from before old tables) t ≡ Some places → ArePlacesOf m rows places
each_on m before old are [] fit t rows places e f = absurd (cc)
each_on m before old are (now ∷ tables) fit zero rows places e f = grind (arith, same_Some, next_places m before old are now fit.0)
each_on m before old are (now ∷ tables) fit (suc t) rows places e f = each_on m now (places_after before old now) (next_places m before old are now fit.0) tables fit.1 t rows places e f

first_on : (before : Table) (old : List ℕ) → length old ≡ length before → (tables : List Table) (next : Table) (there : List ℕ)
    → slice_get tables 0 ≡ Some next → slice_get (places_from before old tables) 0 ≡ Some there → KeepPlace before old next there
first_on before old long [] next there e f = absurd (cc)
first_on before old long (now ∷ tables) next there e f = grind (arith, same_Some, stays before old long now)

slots_on : (m : ℕ) (before : Table) (old : List ℕ) → ArePlacesOf m before old → (tables : List Table) → AllByRecursion (IsFit m) tables
    → (t : ℕ) (rows next : Table) (places there : List ℕ) → slice_get tables t ≡ Some rows → slice_get (places_from before old tables) t ≡ Some places
    → slice_get tables (suc t) ≡ Some next → slice_get (places_from before old tables) (suc t) ≡ Some there → KeepPlace rows places next there
slots_on m before old are [] fit t rows next places there e f g h = absurd (cc)
slots_on m before old are (now ∷ tables) fit zero rows next places there e f g h = grind (arith, first_on, next_places, same_Some)
slots_on m before old are (now ∷ tables) fit (suc t) rows next places there e f g h =
    slots_on m now (places_after before old now) (next_places m before old are now fit.0) tables fit.1 t rows next places there e f g h

pub places_before_are : (o : Origin) (s : Settings) → IsOrigin o s → ArePlacesOf s.processors (table_before o) (places_before o)
places_before_are None s began = record { one_each = refl; below = tt; differ = tt }
places_before_are (Some c) s began = began.places

pub places_are_kept : PlacesAreKept
places_are_kept = record {
  each = λ o s tables began fit. each_on s.processors (table_before o) (places_before o) (places_before_are o s began) tables fit;
  slots = λ o s tables began fit. slots_on s.processors (table_before o) (places_before o) (places_before_are o s began) tables fit;
  runs = λ o s tables began. first_on (table_before o) (places_before o) (places_before_are o s began).one_each tables;
}

-- ---- the places follow from the tables

pub follow_on : (before : Table) (old : List ℕ) (xs ys : List Table) (t : ℕ) → ((u : ℕ) → u ≤ t → slice_get xs u ≡ slice_get ys u) → slice_get (places_from before old xs) t ≡ slice_get (places_from before old ys) t
follow_on before old [] [] t same = refl
follow_on before old [] (y ∷ ys) t same = absurd (none-some y (same zero (omega arith)))
follow_on before old (x ∷ xs) [] t same = absurd (none-some x (sym (same zero (omega arith))))
follow_on before old (x ∷ xs) (y ∷ ys) zero same = ap (λ (r : Table). Some (places_after before old r)) (same_Some x y (same zero (omega arith)))
follow_on before old (x ∷ xs) (y ∷ ys) (suc t) same =
    ap (λ (r : Table). slice_get (places_from r (places_after before old r) xs) t) (same_Some x y (same zero (omega arith)))
    ∙ follow_on y (places_after before old y) xs ys t (λ u l. same (suc u) (omega (arith, l)))

pub places_follow_tables : PlacesFollowTables
places_follow_tables o xs ys t same = follow_on (table_before o) (places_before o) xs ys t same
