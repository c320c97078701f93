-- Keys that stand once can be put in order, so their first by rank are the first.
use Rattle.pfair_order.proofs.Common.{All, Contains, count_by, slice_get, Ordering, IsTotalOrder, cases_lt, false_from_ne_true, eqb-true, eq-eqb, Contains-append_cases, All-contains, All-contains_itself, All-filter, filter_passes, get_or_from_slice_get, slice_get_within, rank, of_rank, first_by_rank, ◌≡◌, ℕ, zero, suc, ◌+◌, ◌<◌, ◌≤◌, inl, inr, Bool, true, false, cond, List, [], ◌∷◌, ◌++◌, length, take, refl, sym, ap, subst, ◌∙◌, arith, Some, sum_by-IsPermutation, Contains-permutation, sum_by-append, sum_by-cons, AllByRecursion, Less, is_lt, is_eq, true≢false, All-from_recursion, recursion_from_All, same_Some, none-some, AreFirst, EachOnce, ◌⊎◌, IsPermutation, All-permutation, IsPermutation-sym, IsPermutation-trans, bytes_decides, slice_get-get_or, Equal-is, Key, pd2_cmp, ◌≢◌, get_or, ◌==◌, drop, AllPairs, length-filter, nil_from_length, append-nil, take_all, take-append-drop, length-take, drop_all, IsPermutation-refl, IsPermutation-cons, IsPermutation-middle, name_eq, NamesApart}
use Rattle.std.proofs.Math.Seq.{take-suc}
use Rattle.pfair_order.proofs.RankLemmas.{IsSplit, place_of, at_place, none_counted, rank_given, rank_rest, each_place, all_map, Rising, first_of_split, first_unique, first_of_permutation, less_of, is_less, is_eq_back, itself_not_before, apart_from_head, count_of_tail, at_each}
use Rattle.pfair_weight.proofs.NamesApart.{apart_head, apart_tail, pairs_from_apart, apart_from_pairs}
use Rattle.pfair_order.proofs.KeyLaws.{keys_total, keys_exact}

-- The keys of the least ranks, rank by rank, are the front of a split.

apart : (x y : ℕ) → (x ≡ y → ⊥) → (x == y) ≡ false
apart x y differ = false_from_ne_true (x == y) (λ e. differ (eqb-true x y e))

one_item : {A : Type 0} (xs : List A) → length xs ≡ 1 → (x : A) × (xs ≡ x ∷ [])
one_item [] e = absurd (omega arith)
one_item (x ∷ xs) e = (x, ap (λ l. x ∷ l) (nil_from_length xs (omega arith)))

-- a number that tells the place is met once
count_at : {A : Type 0} (f : A → ℕ) (t : ℕ) (xs : List A) (n r : ℕ) → t ≡ n + r → r < length xs → ((i : ℕ) (x : A) → slice_get xs i ≡ Some x → f x ≡ n + i) → count_by (λ x. f x == t) xs ≡ 1
count_at f t [] n r e within at = absurd (omega arith)
count_at f t (x ∷ xs) n zero e within at =
    let here : f x ≡ n + 0 = at 0 x refl in
    let none : count_by (λ y. f y == t) xs ≡ 0 =
    none_counted (λ y. f y == t) xs (each_place (λ y. (f y == t) ≡ false) xs (λ i y g. let later : f y ≡ n + suc i = at (suc i) y g in apart (f y) t (λ same. omega arith))) in
    sum_by-cons (λ y. cond (f y == t) 1 0) x xs ∙ rw (eq-eqb (f x) t (omega arith)) (rw none refl)
count_at f t (x ∷ xs) n (suc r) e within at =
    let here : f x ≡ n + 0 = at 0 x refl in
    let rest : count_by (λ y. f y == t) xs ≡ 1 = count_at f t xs (suc n) r (omega arith) (omega arith) (λ i y g. let later : f y ≡ n + suc i = at (suc i) y g in omega arith) in
    sum_by-cons (λ y. cond (f y == t) 1 0) x xs ∙ rw (apart (f x) t (λ same. omega arith)) (rw rest refl)

module _ {K : Type 0} {R : K → K → Ordering} (o : IsTotalOrder R) where
  module _ (keys given rest : List K) (s : IsSplit o keys given rest) where
    count_parts : (p : K → Bool) → count_by p keys ≡ count_by p given + count_by p rest
    count_parts p = sym (sum_by-IsPermutation (λ y. cond (p y) 1 0) keys (given ++ rest) s.parts) ∙ sum_by-append (λ y. cond (p y) 1 0) given rest

    none_of_rest : (r : ℕ) → r < length given → count_by (λ k. rank R keys k == r) rest ≡ 0
    none_of_rest r within =
        none_counted (λ k. rank R keys k == r) rest (each_place (λ k. (rank R keys k == r) ≡ false) rest (λ i k e.
        let far : length given ≤ rank R keys k = rank_rest o keys given rest s k (at_place rest i k e) in
        apart (rank R keys k) r (λ same. omega arith)))

    -- a key of that rank is the one at that place
    given_of_rank : (r : ℕ) (k : K) → r < length given → Contains keys k → rank R keys k ≡ r → slice_get given r ≡ Some k
    given_of_rank r k within there is =
        elim (Contains-append_cases given rest k (Contains-permutation keys (given ++ rest) k s.parts there)) [
          | inl in_given ↦
              let at = place_of given k in_given in
              subst (λ j. slice_get given j ≡ Some k) (sym (rank_given o keys given rest s at.0 k at.1) ∙ is) at.1
          | inr in_rest ↦ absurd (let far : length given ≤ rank R keys k = rank_rest o keys given rest s k in_rest in omega arith)
        ]

    of_rank_within : (r : ℕ) → r < length given → (k : K) × (of_rank R keys r ≡ k ∷ []) × (slice_get given r ≡ Some k)
    of_rank_within r within =
        let counted : count_by (λ k. rank R keys k == r) given ≡ 1 =
        count_at (rank R keys) r given 0 r (omega arith) within (λ i k e. rank_given o keys given rest s i k e ∙ (let z : i ≡ 0 + i = omega arith in z)) in
        let none : count_by (λ k. rank R keys k == r) rest ≡ 0 = none_of_rest r within in
        let parts : count_by (λ k. rank R keys k == r) keys ≡ count_by (λ k. rank R keys k == r) given + count_by (λ k. rank R keys k == r) rest = count_parts (λ k. rank R keys k == r) in
        let single = one_item (of_rank R keys r) (length-filter (λ k. rank R keys k == r) keys ∙ omega arith) in
        let among = subst (All (Contains keys)) single.1 (All-filter (λ k. rank R keys k == r) (Contains keys) keys (All-contains_itself keys)) in
        let passed = subst (All (λ k. (rank R keys k == r) ≡ true)) single.1 (filter_passes (λ k. rank R keys k == r) keys) in
        let here : Contains (single.0 ∷ []) single.0 = at_place (single.0 ∷ []) 0 single.0 refl in
        let of_r = eqb-true (rank R keys single.0) r (All-contains (λ k. (rank R keys k == r) ≡ true) (single.0 ∷ []) single.0 passed here) in
        (single.0, single.1, given_of_rank r single.0 within (All-contains (Contains keys) (single.0 ∷ []) single.0 among here) of_r)

    -- with no rest there are no later ranks
    of_rank_past : (r : ℕ) → length given ≤ r → rest ≡ [] → of_rank R keys r ≡ []
    of_rank_past r past empty =
        let none : count_by (λ k. rank R keys k == r) given ≡ 0 =
        none_counted (λ k. rank R keys k == r) given (each_place (λ k. (rank R keys k == r) ≡ false) given (λ i k e.
        let place : rank R keys k ≡ i = rank_given o keys given rest s i k e in
        let within : i < length given = slice_get_within given i k e in
        apart (rank R keys k) r (λ same. omega arith))) in
        let none' : count_by (λ k. rank R keys k == r) rest ≡ 0 = subst (λ l. count_by (λ k. rank R keys k == r) l ≡ 0) (sym empty) refl in
        let parts : count_by (λ k. rank R keys k == r) keys ≡ count_by (λ k. rank R keys k == r) given + count_by (λ k. rank R keys k == r) rest = count_parts (λ k. rank R keys k == r) in
        nil_from_length (of_rank R keys r) (length-filter (λ k. rank R keys k == r) keys ∙ omega arith)

    front_by_rank : (m : ℕ) → (length given < m → rest ≡ []) → (r : ℕ) → r ≤ m → first_by_rank R r keys ≡ take r given
    front_by_rank m all zero within = refl
    front_by_rank m all (suc r) within =
        let so_far : first_by_rank R r keys ≡ take r given = front_by_rank m all r (omega arith) in
        elim (cases_lt r (length given)) [
          | inl inside ↦
              let here = of_rank_within r inside in
              let next = take-suc given r here.0 inside ∙ ap (λ k. take r given ++ k ∷ []) (get_or_from_slice_get given r here.0 here.0 here.2) in
              ap (λ l. l ++ of_rank R keys r) so_far ∙ ap (λ l. take r given ++ l) here.1 ∙ sym next
          | inr past ↦ grind (arith, of_rank_past, append-nil, take_all)
        ]

    -- the front is the first m by rank, if it is not more than m, and less than m only if nothing is left
    pub by_rank_of_split : (m : ℕ) → length given ≤ m → (length given < m → rest ≡ []) → given ≡ first_by_rank R m keys
    by_rank_of_split m within all = sym (front_by_rank m all m (omega arith) ∙ take_all m given within)

-- a key at its place among keys that rise
abbrev put_in : {K : Type 0} → (K → K → Ordering) → K → List K → List K
put_in R x [] = x ∷ []
put_in R x (y ∷ ys) = cond (is_lt (R x y)) (x ∷ y ∷ ys) (y ∷ put_in R x ys)

abbrev in_order : {K : Type 0} → (K → K → Ordering) → List K → List K
in_order R [] = []
in_order R (x ∷ xs) = put_in R x (in_order R xs)

in_empty : {A : Type 0} (x : A) → Contains [] x → ⊥
in_empty x c = none-some x (place_of [] x c).1

in_cons : {A : Type 0} (y : A) (ys : List A) (x : A) → Contains (y ∷ ys) x → (y ≡ x) ⊎ Contains ys x
in_cons {A} y ys x c = grind (arith, same_Some, at_place)

in_head : {A : Type 0} (y : A) (ys : List A) → Contains (y ∷ ys) y
in_head y ys = at_place (y ∷ ys) 0 y refl

in_tail : {A : Type 0} (y : A) (ys : List A) (x : A) → Contains ys x → Contains (y ∷ ys) x
in_tail y ys x c = let at = place_of ys x c in at_place (y ∷ ys) (suc at.0) x at.1

of_all : {A : Type 0} (P : A → Type 0) (xs : List A) (x : A) → AllByRecursion P xs → Contains xs x → P x
of_all P xs x h c = All-contains P xs x (All-from_recursion P xs h) c

both : {A : Type 0} (P Q : A → Type 0) (xs : List A) → AllByRecursion P xs → AllByRecursion Q xs → AllByRecursion (λ x. P x × Q x) xs
both P Q [] h k = tt
both P Q (x ∷ xs) h k = ((h.0, k.0), both P Q xs h.1 k.1)

pub each_trivial : {A : Type 0} (xs : List A) → AllByRecursion (λ _. Unit {0}) xs
each_trivial [] = tt
each_trivial (x ∷ xs) = (tt, each_trivial xs)

all_parts : {A : Type 0} (P : A → Type 0) (xs ys : List A) → AllByRecursion P (xs ++ ys) → AllByRecursion P xs × AllByRecursion P ys
all_parts P [] ys h = (tt, h)
all_parts P (x ∷ xs) ys h = let rest = all_parts P xs ys h.1 in ((h.0, rest.0), rest.1)

all_moved : {A : Type 0} (P : A → Type 0) (xs ys : List A) → IsPermutation xs ys → AllByRecursion P xs → AllByRecursion P ys
all_moved P xs ys moved h = recursion_from_All P ys (All-permutation P xs ys moved (All-from_recursion P xs h))

module _ {K : Type 0} {R : K → K → Ordering} (o : IsTotalOrder R) where
  put_in_moves : (x : K) (ys : List K) → IsPermutation (x ∷ ys) (put_in R x ys)
  put_in_moves x [] = IsPermutation-refl (x ∷ [])
  put_in_moves x (y ∷ ys) =
      elim (is_lt (R x y)) as (λ b. IsPermutation (x ∷ y ∷ ys) (cond b (x ∷ y ∷ ys) (y ∷ put_in R x ys))) [
        | true ↦ IsPermutation-refl (x ∷ y ∷ ys)
        | false ↦
            IsPermutation-trans (x ∷ y ∷ ys) (y ∷ x ∷ ys) (y ∷ put_in R x ys)
            (IsPermutation-sym (y ∷ x ∷ ys) (x ∷ y ∷ ys) (IsPermutation-middle (y ∷ []) x ys))
            (IsPermutation-cons y (x ∷ ys) (put_in R x ys) (put_in_moves x ys))
      ]

  in_order_moves : (xs : List K) → IsPermutation xs (in_order R xs)
  in_order_moves [] = IsPermutation-refl []
  in_order_moves (x ∷ xs) =
      IsPermutation-trans (x ∷ xs) (x ∷ in_order R xs) (put_in R x (in_order R xs))
      (IsPermutation-cons x xs (in_order R xs) (in_order_moves xs)) (put_in_moves x (in_order R xs))

  less_all : (x y : K) (zs : List K) → R x y ≡ Less → AllByRecursion (λ z. R y z ≡ Less) zs → AllByRecursion (λ z. R x z ≡ Less) zs
  less_all x y zs e h = all_map (λ z. R y z ≡ Less) (λ z. R x z ≡ Less) zs (λ z. o.trans x y z e) h

  rising_put : (x : K) (ys : List K) → Rising R ys → AllByRecursion (λ y. is_eq (R y x) ≡ false) ys → Rising R (put_in R x ys)
  rising_put x [] up differ = (tt, tt)
  rising_put x (y ∷ ys) up differ =
      grind (arith, is_less, less_all, less_of, is_eq_back, all_moved (λ z. R y z ≡ Less) (x ∷ ys) (put_in R x ys) (put_in_moves x ys), rising_put x ys up.1 differ.1)

  rising_in_order : (xs : List K) → EachOnce R xs → Rising R (in_order R xs)
  rising_in_order [] once = tt
  rising_in_order (x ∷ xs) once =
      rising_put x (in_order R xs) (rising_in_order xs (λ k. count_of_tail o (λ z. is_eq (R z k)) x xs (once k)))
      (all_moved (λ z. is_eq (R z x) ≡ false) xs (in_order R xs) (in_order_moves xs) (apart_from_head o x xs once))

  -- the front of a rising list rises, and goes before the rest
  rising_parts : (xs ys : List K) → Rising R (xs ++ ys) → Rising R xs × AllByRecursion (λ z. AllByRecursion (λ k. R k z ≡ Less) xs) ys
  rising_parts [] ys up = (tt, each_trivial ys)
  rising_parts (x ∷ xs) ys up =
      let here = all_parts (λ z. R x z ≡ Less) xs ys up.0 in
      let rest = rising_parts xs ys up.1 in
      ((here.0, rest.0), both (λ z. R x z ≡ Less) (λ z. AllByRecursion (λ k. R k z ≡ Less) xs) ys here.1 rest.1)

  -- the first m in order are a split of keys that stand once
  split_in_order : (m : ℕ) (keys : List K) → EachOnce R keys → IsSplit o keys (take m (in_order R keys)) (drop m (in_order R keys))
  split_in_order m keys once =
      let whole = sym (take-append-drop m (in_order R keys)) in
      let rises = rising_parts (take m (in_order R keys)) (drop m (in_order R keys)) (subst (Rising R) whole (rising_in_order keys once)) in
      record { parts = subst (IsPermutation keys) whole (in_order_moves keys); rising = rises.0; after = rises.1 }

  -- the keys of rank below m, rank by rank, are the first m of keys that stand once
  pub by_rank_first : (m : ℕ) (keys : List K) → EachOnce R keys → AreFirst R m keys (first_by_rank R m keys)
  by_rank_first m keys once =
      let front : List K = take m (in_order R keys) in
      let rest : List K = drop m (in_order R keys) in
      let split : IsSplit o keys front rest = split_in_order m keys once in
      let within : length front ≤ m = omega (arith, length-take m (in_order R keys)) in
      let all : length front < m → rest ≡ [] = λ less. drop_all m (in_order R keys) (omega (arith, length-take m (in_order R keys))) in
      subst (AreFirst R m keys) (by_rank_of_split o keys front rest split m within all) (first_of_split o m keys front rest split within all)

  pub first_by_rank_unique : (m : ℕ) (keys first : List K) → EachOnce R keys → AreFirst R m keys first → first ≡ first_by_rank R m keys
  first_by_rank_unique m keys first once a = first_unique o m keys first (first_by_rank R m keys) a (by_rank_first m keys once)

  never : (x : K) → R x x ≡ Less → ⊥
  never x e = true≢false (ap is_lt (sym e) ∙ itself_not_before o x)

  -- lists that rise and have the same keys are one
  same_rising : (xs ys : List K) → Rising R xs → Rising R ys → ((k : K) → Contains xs k → Contains ys k) → ((k : K) → Contains ys k → Contains xs k) → xs ≡ ys
  same_rising [] [] a b f g = refl
  same_rising [] (y ∷ ys) a b f g = absurd (in_empty y (g y (in_head y ys)))
  same_rising (x ∷ xs) [] a b f g = absurd (in_empty x (f x (in_head x xs)))
  same_rising (x ∷ xs) (y ∷ ys) a b f g =
      let later : (k : K) → Contains xs k → R x k ≡ Less = λ k c. of_all (λ z. R x z ≡ Less) xs k a.0 c in
      let later' : (k : K) → Contains ys k → R y k ≡ Less = λ k c. of_all (λ z. R y z ≡ Less) ys k b.0 c in
      let heads : x ≡ y =
      elim (in_cons y ys x (f x (in_head x xs))) [
        | inl e ↦ sym e
        | inr c ↦ elim (in_cons x xs y (g y (in_head y ys))) [
          | inl e ↦ e
          | inr d ↦ absurd (never x (o.trans x y x (later y d) (later' x c)))
        ]
      ] in
      ap (λ z. z ∷ xs) heads ∙ ap (λ l. y ∷ l) (same_rising xs ys a.1 b.1
      (λ k c. elim (in_cons y ys k (f k (in_tail x xs k c))) [
        | inl e ↦ absurd (never x (later x (subst (Contains xs) (sym (heads ∙ e)) c)))
        | inr d ↦ d
      ])
      (λ k c. elim (in_cons x xs k (g k (in_tail y ys k c))) [
        | inl e ↦ absurd (never y (later' y (subst (Contains ys) (sym (sym heads ∙ e)) c)))
        | inr d ↦ d
      ]))

  -- lists of the same keys, each of which stands once, are permutations of one another
  pub same_keys_move : (keys others : List K) → EachOnce R keys → EachOnce R others → ((k : K) → Contains keys k → Contains others k) → ((k : K) → Contains others k → Contains keys k) → IsPermutation keys others
  same_keys_move keys others once once' f g =
      let same : in_order R keys ≡ in_order R others =
      same_rising (in_order R keys) (in_order R others) (rising_in_order keys once) (rising_in_order others once')
      (λ k c. Contains-permutation others (in_order R others) k (in_order_moves others) (f k (Contains-permutation (in_order R keys) keys k (IsPermutation-sym keys (in_order R keys) (in_order_moves keys)) c)))
      (λ k c. Contains-permutation keys (in_order R keys) k (in_order_moves keys) (g k (Contains-permutation (in_order R others) others k (IsPermutation-sym others (in_order R others) (in_order_moves others)) c))) in
      IsPermutation-trans keys (in_order R keys) others (in_order_moves keys)
      (subst (λ l. IsPermutation l others) (sym same) (IsPermutation-sym others (in_order R others) (in_order_moves others)))

  -- so their first by rank are the same
  pub by_rank_of_same : (m : ℕ) (keys others : List K) → EachOnce R keys → EachOnce R others → ((k : K) → Contains keys k → Contains others k) → ((k : K) → Contains others k → Contains keys k) → first_by_rank R m keys ≡ first_by_rank R m others
  by_rank_of_same m keys others once once' f g =
      first_by_rank_unique m others (first_by_rank R m keys) once'
      (first_of_permutation o m keys others (first_by_rank R m keys) (same_keys_move keys others once once' f g) (by_rank_first m keys once))

-- Keys of different names stand once, and so do the names of the first.

-- the names at two places differ
apart_at : (keys : List Key) → AllPairs (λ k l. k.name ≢ l.name) keys → (i j : ℕ) (k l : Key) → slice_get keys i ≡ Some k → slice_get keys j ≡ Some l → i < j → k.name ≢ l.name
apart_at keys names i j k l e f earlier same =
    let within : j < length keys = slice_get_within keys j l f in
    let there : k ≡ get_or keys i k = same_Some k (get_or keys i k) (sym e ∙ slice_get-get_or keys i k (omega arith)) in
    let there' : l ≡ get_or keys j k = same_Some l (get_or keys j k) (sym f ∙ slice_get-get_or keys j k within) in
    names i j k earlier within (ap (λ (x : Key). x.name) (sym there) ∙ same ∙ ap (λ (x : Key). x.name) there')

same_place : (keys : List Key) → AllPairs (λ k l. k.name ≢ l.name) keys → (i j : ℕ) (k l : Key) → slice_get keys i ≡ Some k → slice_get keys j ≡ Some l → k.name ≡ l.name → i ≡ j
same_place keys names i j k l e f same = grind (arith, apart_at)

pub once_from_names : (keys : List Key) → NamesApart (λ (k : Key). k.name) keys → EachOnce pd2_cmp keys
once_from_names [] apart k = omega arith
once_from_names (x ∷ xs) apart k =
    let rest : count_by (λ y. is_eq (pd2_cmp y k)) xs ≤ 1 = once_from_names xs (apart_tail (λ (k : Key). k.name) x xs apart) k in
    let sum : count_by (λ y. is_eq (pd2_cmp y k)) (x ∷ xs) ≡ cond (is_eq (pd2_cmp x k)) 1 0 + count_by (λ y. is_eq (pd2_cmp y k)) xs = sum_by-cons (λ y. cond (is_eq (pd2_cmp y k)) 1 0) x xs in
    let bound : cond (is_eq (pd2_cmp x k)) 1 0 + count_by (λ y. is_eq (pd2_cmp y k)) xs ≤ 1 =
    elim (is_eq (pd2_cmp x k)) as (λ b. is_eq (pd2_cmp x k) ≡ b → cond b 1 0 + count_by (λ y. is_eq (pd2_cmp y k)) xs ≤ 1) [
      | true ↦ λ t.
          let none : count_by (λ y. is_eq (pd2_cmp y k)) xs ≡ 0 =
          none_counted (λ y. is_eq (pd2_cmp y k)) xs (each_place (λ y. is_eq (pd2_cmp y k) ≡ false) xs (λ i y e.
          false_from_ne_true (is_eq (pd2_cmp y k)) (λ u.
          let one : x ≡ y = keys_exact x k ((Equal-is (pd2_cmp x k)).0 t) ∙ sym (keys_exact y k ((Equal-is (pd2_cmp y k)).0 u)) in
          true≢false (sym ((bytes_decides x.name y.name).1 (ap (λ (z : Key). z.name) one)) ∙ at_each (λ (z : Key). name_eq x.name z.name ≡ false) xs i y (apart_head (λ (k : Key). k.name) x xs apart) e)))) in
          omega arith
      | false ↦ λ _. omega arith
    ] refl in
    omega arith

-- no two of the first have one name
pub first_names : (m : ℕ) (keys : List Key) → NamesApart (λ (k : Key). k.name) keys → NamesApart (λ (k : Key). k.name) (first_by_rank pd2_cmp m keys)
first_names m keys apart =
    let first : List Key = first_by_rank pd2_cmp m keys in
    apart_from_pairs (λ (k : Key). k.name) first (λ i j d earlier within same.
    let a : AreFirst pd2_cmp m keys first = by_rank_first keys_total m keys (once_from_names keys apart) in
    grind (arith, slice_get-get_or, same_place, pairs_from_apart, same_Some))
