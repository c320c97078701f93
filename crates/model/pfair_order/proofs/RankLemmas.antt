-- What a split of the keys into a rising front and a rest says of ranks.
use Rattle.pfair_order.proofs.Common.{All, AllByRecursion, Contains, count_by, slice_get, Ordering, Less, is_lt, is_eq, ordering_reverse, IsTotalOrder, tied_itself, All-contains, Contains-get_or, Contains-append_left, Contains-append_cases, recursion_from_All, All-from_recursion, All-from_get_or, get_or_from_slice_get, slice_get_within, slice_get-get_or, same_Some, none-some, leb-true, leb-false, rank, AreFirst, EachOnce, common_steps, ◌≡◌, ℕ, zero, suc, ◌+◌, ◌<◌, ◌≤◌, inl, inr, Bool, true, false, cond, List, [], ◌∷◌, ◌++◌, length, refl, sym, ap, subst, ◌∙◌, arith, get_or, Some, IsPermutation, sum_by-IsPermutation, Contains-permutation, IsPermutation-sym, IsPermutation-trans, All-permutation, sum_by-append, sum_by-cons, append_assoc, nat_le, IsSortedBy, IsPermutation-append_right, sorted_far, ranks_by}

-- an element of a list stands at some place, and the other way round
pub place_of : {A : Type 0} (xs : List A) (x : A) → Contains xs x → (i : ℕ) × (slice_get xs i ≡ Some x)
place_of xs x (i, within, is) = (i, slice_get-get_or xs i x within ∙ ap Some is)

pub at_place : {A : Type 0} (xs : List A) (i : ℕ) (x : A) → slice_get xs i ≡ Some x → Contains xs x
at_place xs i x e = subst (Contains xs) (get_or_from_slice_get xs i x x e) (Contains-get_or xs i x (slice_get_within xs i x e))

-- what holds of each element holds at each place
pub at_each : {A : Type 0} (P : A → Type 0) (xs : List A) (i : ℕ) (x : A) → AllByRecursion P xs → slice_get xs i ≡ Some x → P x
at_each P xs i x h e = All-contains P xs x (All-from_recursion P xs h) (at_place xs i x e)

-- what holds at each place holds of each element
pub each_place : {A : Type 0} (P : A → Type 0) (xs : List A) → ((i : ℕ) (x : A) → slice_get xs i ≡ Some x → P x) → AllByRecursion P xs
each_place P [] f = tt
each_place P (x ∷ xs) f = (f 0 x refl, each_place P xs (λ i y e. f (suc i) y e))

-- what holds of each element gives what follows of each
pub all_map : {A : Type 0} (P Q : A → Type 0) (xs : List A) → ((x : A) → P x → Q x) → AllByRecursion P xs → AllByRecursion Q xs
all_map P Q [] f h = tt
all_map P Q (x ∷ xs) f h = (f x h.0, all_map P Q xs f h.1)

count_append : {A : Type 0} (p : A → Bool) (xs ys : List A) → count_by p (xs ++ ys) ≡ count_by p xs + count_by p ys
count_append p xs ys = sum_by-append (λ x. cond (p x) 1 0) xs ys

count_head : {A : Type 0} (p : A → Bool) (x : A) (xs : List A) → count_by p (x ∷ xs) ≡ cond (p x) 1 0 + count_by p xs
count_head p x xs = sum_by-cons (λ y. cond (p y) 1 0) x xs

count_cons : {A : Type 0} (p : A → Bool) (x : A) (xs : List A) (n : ℕ) → count_by p xs ≡ n → count_by p (x ∷ xs) ≡ cond (p x) 1 0 + n
count_cons p x xs n e = count_head p x xs ∙ ap (λ m. cond (p x) 1 0 + m) e

pub none_counted : {A : Type 0} (p : A → Bool) (xs : List A) → AllByRecursion (λ x. p x ≡ false) xs → count_by p xs ≡ 0
none_counted p [] h = refl
none_counted p (x ∷ xs) h = count_cons p x xs 0 (none_counted p xs h.1) ∙ rw h.0 refl

pub all_counted : {A : Type 0} (p : A → Bool) (xs : List A) → AllByRecursion (λ x. p x ≡ true) xs → count_by p xs ≡ length xs
all_counted p [] h = refl
all_counted p (x ∷ xs) h = count_cons p x xs (length xs) (all_counted p xs h.1) ∙ rw h.0 (omega arith)

-- lists with the same elements at the same places are one
pub same_places : {A : Type 0} (xs ys : List A) → ((i : ℕ) (x : A) → slice_get xs i ≡ Some x → slice_get ys i ≡ Some x) → ((i : ℕ) (x : A) → slice_get ys i ≡ Some x → slice_get xs i ≡ Some x) → xs ≡ ys
same_places [] [] f g = refl
same_places [] (y ∷ ys) f g = absurd (none-some y (g 0 y refl))
same_places (x ∷ xs) [] f g = absurd (none-some x (f 0 x refl))
same_places (x ∷ xs) (y ∷ ys) f g =
    ap (λ z. z ∷ xs) (sym (same_Some y x (f 0 x refl))) ∙ ap (λ l. y ∷ l) (same_places xs ys (λ i z e. f (suc i) z e) (λ i z e. g (suc i) z e))

-- each key goes before all later ones
abbrev pub Rising : {K : Type 0} → (K → K → Ordering) → List K → Type 0
Rising R [] = Unit {0}
Rising R (x ∷ xs) = AllByRecursion (λ y. R x y ≡ Less) xs × Rising R xs

less_not_back : (r s : Ordering) → r ≡ ordering_reverse s → s ≡ Less → is_lt r ≡ false
less_not_back r s e f = rw e (rw f refl)

module _ {K : Type 0} {R : K → K → Ordering} (o : IsTotalOrder R) where
  pub not_back : (x y : K) → R x y ≡ Less → is_lt (R y x) ≡ false
  not_back x y e = less_not_back (R y x) (R x y) (o.antisymm y x) e

  pub itself_not_before : (x : K) → is_lt (R x x) ≡ false
  itself_not_before x = grind (arith, not_back)

  -- a key of a rising list has its place as its rank there
  pub rank_rising : (xs : List K) (i : ℕ) (k : K) → Rising R xs → slice_get xs i ≡ Some k → rank R xs k ≡ i
  rank_rising [] i k h e = absurd (none-some k e)
  rank_rising (x ∷ xs) zero k h e =
      subst (λ v. rank R (x ∷ xs) v ≡ 0) (same_Some x k e) (count_cons (λ y. is_lt (R y x)) x xs 0 (none_counted (λ y. is_lt (R y x)) xs (all_map (λ y. R x y ≡ Less) (λ y. is_lt (R y x) ≡ false) xs (not_back x) h.0)) ∙ rw (itself_not_before x) refl)
  rank_rising (x ∷ xs) (suc i) k h e =
      let before : R x k ≡ Less = at_each (λ y. R x y ≡ Less) xs i k h.0 e in
      let rest : rank R xs k ≡ i = rank_rising xs i k h.1 e in
      count_cons (λ y. is_lt (R y k)) x xs i rest ∙ rw before (omega arith)

  -- the parts of a list of keys: those that are given, in rising order, and the rest, which all go after these
  pub record IsSplit (keys given rest : List K) : Type 0 where
    pub parts : IsPermutation keys (given ++ rest)
    pub rising : Rising R given
    pub after : AllByRecursion (λ z. AllByRecursion (λ k. R k z ≡ Less) given) rest

  rank_parts : (keys given rest : List K) (k : K) → IsPermutation keys (given ++ rest) → rank R keys k ≡ rank R given k + rank R rest k
  rank_parts keys given rest k p = sym (sum_by-IsPermutation (λ y. cond (is_lt (R y k)) 1 0) keys (given ++ rest) p) ∙ sum_by-append (λ y. cond (is_lt (R y k)) 1 0) given rest

  -- the rank of a given key is its place
  pub rank_given : (keys given rest : List K) → IsSplit keys given rest → (i : ℕ) (k : K) → slice_get given i ≡ Some k → rank R keys k ≡ i
  rank_given keys given rest s i k e =
      let own : rank R given k ≡ i = rank_rising given i k s.rising e in
      let others : rank R rest k ≡ 0 = none_counted (λ z. is_lt (R z k)) rest (all_map (λ z. AllByRecursion (λ k. R k z ≡ Less) given) (λ z. is_lt (R z k) ≡ false) rest (λ z h. not_back k z (at_each (λ k. R k z ≡ Less) given i k h e)) s.after) in
      rank_parts keys given rest k s.parts ∙ rw own (rw others (omega arith))

  -- a key of the rest has no less than all the given ones before it
  pub rank_rest : (keys given rest : List K) → IsSplit keys given rest → (k : K) → Contains rest k → length given ≤ rank R keys k
  rank_rest keys given rest s k c =
      let at = place_of rest k c in
      let before : AllByRecursion (λ g. R g k ≡ Less) given = at_each (λ z. AllByRecursion (λ g. R g z ≡ Less) given) rest at.0 k s.after at.1 in
      let own : rank R given k ≡ length given = all_counted (λ g. is_lt (R g k)) given (all_map (λ g. R g k ≡ Less) (λ g. is_lt (R g k) ≡ true) given (λ g. ap is_lt) before) in
      rw (rank_parts keys given rest k s.parts) (rw own (omega arith))

  no_rest : (rest : List K) (k : K) → rest ≡ [] → Contains rest k → ⊥
  no_rest rest k e c = subst (λ l. Contains l k → ⊥) (sym e) (λ (d : Contains [] k). none-some k (place_of [] k d).1) c

  -- what is given is the first m, if it is not more than m, and less than m only if nothing is left
  pub first_of_split : (m : ℕ) (keys given rest : List K) → IsSplit keys given rest → length given ≤ m → (length given < m → rest ≡ []) → AreFirst R m keys given
  first_of_split m keys given rest s within all = record {
    at_rank = λ i k e. (
      Contains-permutation (given ++ rest) keys k (IsPermutation-sym keys (given ++ rest) s.parts) (Contains-append_left given rest k (at_place given i k e)),
      rank_given keys given rest s i k e,
      omega (arith, slice_get_within given i k e),
    );
    complete = λ k c below.
        elim (Contains-append_cases given rest k (Contains-permutation keys (given ++ rest) k s.parts c)) [
          | inl in_given ↦ let at = place_of given k in_given in rw (rank_given keys given rest s at.0 k at.1) at.1
          | inr in_rest ↦
              let far : length given ≤ rank R keys k = rank_rest keys given rest s k in_rest in
              absurd (no_rest rest k (all (omega arith)) in_rest)
        ];
  }

  zero_counted : (p : K → Bool) (xs : List K) → count_by p xs ≡ 0 → AllByRecursion (λ x. p x ≡ false) xs
  zero_counted p [] e = tt
  zero_counted p (x ∷ xs) e = grind (arith, count_cons, zero_counted p xs)

  pub count_of_tail : (p : K → Bool) (x : K) (xs : List K) → count_by p (x ∷ xs) ≤ 1 → count_by p xs ≤ 1
  count_of_tail p x xs h = omega (arith, count_head p x xs)

  pub less_of : (r s : Ordering) → r ≡ ordering_reverse s → is_lt r ≡ false → is_eq r ≡ false → s ≡ Less
  less_of r s e f g = grind arith

  pub is_eq_back : (r s : Ordering) → r ≡ ordering_reverse s → is_eq s ≡ false → is_eq r ≡ false
  is_eq_back r s e f = grind arith

  all_less : (x : K) (zs : List K) → AllByRecursion (λ z. is_lt (R z x) ≡ false) zs → AllByRecursion (λ z. is_eq (R z x) ≡ false) zs → AllByRecursion (λ z. R x z ≡ Less) zs
  all_less x [] f g = tt
  all_less x (z ∷ zs) f g = (less_of (R z x) (R x z) (o.antisymm z x) f.0 g.0, all_less x zs f.1 g.1)

  sorted_tail : (x : K) (xs : List K) → IsSortedBy (λ a b. is_lt (R a b)) (x ∷ xs) → IsSortedBy (λ a b. is_lt (R a b)) xs
  sorted_tail x xs up k d low high =
      subst (λ j. is_lt (R (get_or (x ∷ xs) j d) (get_or xs k d)) ≡ false) (let e : suc k + 1 ≡ suc (k + 1) = omega arith in e) (up (suc k) d (omega arith) (omega arith))

  sorted_head : (x : K) (xs : List K) → IsSortedBy (λ a b. is_lt (R a b)) (x ∷ xs) → AllByRecursion (λ z. is_lt (R z x) ≡ false) xs
  sorted_head x xs up =
      recursion_from_All (λ z. is_lt (R z x) ≡ false) xs (All-from_get_or (λ z. is_lt (R z x) ≡ false) xs x (λ j within.
      sorted_far (λ a b. is_lt (R a b)) (ranks_by o (λ k. k)) (x ∷ xs) up 0 (suc j) x (omega arith) (omega arith)))

  itself_equal : (x : K) → is_eq (R x x) ≡ true
  itself_equal x = ap is_eq (tied_itself o x)

  pub apart_from_head : (x : K) (xs : List K) → EachOnce R (x ∷ xs) → AllByRecursion (λ z. is_eq (R z x) ≡ false) xs
  apart_from_head x xs once =
      zero_counted (λ z. is_eq (R z x)) xs (omega (arith, count_head (λ z. is_eq (R z x)) x xs, ap {B = ℕ} (λ b. cond b 1 0) (itself_equal x), once x))

  rising_from_sorted : (xs : List K) → IsSortedBy (λ a b. is_lt (R a b)) xs → EachOnce R xs → Rising R xs
  rising_from_sorted [] up once = tt
  rising_from_sorted (x ∷ xs) up once =
      grind (arith, all_less, sorted_head, apart_from_head, sorted_tail, count_of_tail, rising_from_sorted xs (sorted_tail x xs up) (λ k. count_of_tail (λ z. is_eq (R z k)) x xs (once k)))

  once_permutation : (xs ys : List K) → IsPermutation xs ys → EachOnce R xs → EachOnce R ys
  once_permutation xs ys p once k = rw (sum_by-IsPermutation (λ x. cond (is_eq (R x k)) 1 0) xs ys p) (once k)

  once_front : (xs ys : List K) → EachOnce R (xs ++ ys) → EachOnce R xs
  once_front xs ys once k = omega (arith, count_append (λ x. is_eq (R x k)) xs ys, once k)

  -- a key of the second part ties with none of the first
  apart_parts : (xs ys : List K) (z : K) → EachOnce R (xs ++ z ∷ ys) → AllByRecursion (λ x. is_eq (R x z) ≡ false) xs
  apart_parts xs ys z once =
      zero_counted (λ x. is_eq (R x z)) xs
      (omega (arith, count_append (λ x. is_eq (R x z)) xs (z ∷ ys), count_head (λ x. is_eq (R x z)) z ys, ap {B = ℕ} (λ b. cond b 1 0) (itself_equal z), once z))

  once_without : (xs ys : List K) (z : K) → EachOnce R (xs ++ z ∷ ys) → EachOnce R (xs ++ ys)
  once_without xs ys z once k =
      omega (arith, count_append (λ x. is_eq (R x k)) xs (z ∷ ys), count_head (λ x. is_eq (R x k)) z ys, count_append (λ x. is_eq (R x k)) xs ys, once k)

  all_given_less : (z : K) (ks : List K) → AllByRecursion (λ r. is_lt (R z r) ≡ false) ks → AllByRecursion (λ r. is_eq (R r z) ≡ false) ks → AllByRecursion (λ r. R r z ≡ Less) ks
  all_given_less z [] f g = tt
  all_given_less z (k ∷ ks) f g = grind (arith, less_of, is_eq_back, all_given_less z ks f.1 g.1)

  after_from_all : (given rest : List K) → EachOnce R (given ++ rest) → AllByRecursion (λ z. All (λ r. is_lt (R z r) ≡ false) given) rest → AllByRecursion (λ z. AllByRecursion (λ k. R k z ≡ Less) given) rest
  after_from_all given [] once h = tt
  after_from_all given (z ∷ rest) once h = (
    all_given_less z given (recursion_from_All (λ r. is_lt (R z r) ≡ false) given h.0) (apart_parts given rest z once),
    after_from_all given rest (once_without given rest z once) h.1,
  )

  -- the least of keys that stand once split them
  pub split_from_least : (keys given rest : List K) → EachOnce R keys → IsSortedBy (λ a b. is_lt (R a b)) given → IsPermutation keys (given ++ rest) → All (λ z. All (λ r. is_lt (R z r) ≡ false) given) rest → IsSplit keys given rest
  split_from_least keys given rest once up p least =
      let once' : EachOnce R (given ++ rest) = once_permutation keys (given ++ rest) p once in
      record {
        parts = p;
        rising = rising_from_sorted given up (once_front given rest once');
        after = after_from_all given rest once' (recursion_from_All (λ z. All (λ r. is_lt (R z r) ≡ false) given) rest least);
      }

  -- a split does not depend on the order in which the keys are listed
  pub split_of_permutation : (keys others given rest : List K) → IsPermutation keys others → IsSplit keys given rest → IsSplit others given rest
  split_of_permutation keys others given rest p s = record {
    parts = IsPermutation-trans others keys (given ++ rest) (IsPermutation-sym keys others p) s.parts;
    rising = s.rising;
    after = s.after;
  }

  -- nor do ranks
  pub first_of_permutation : (m : ℕ) (keys others first : List K) → IsPermutation keys others → AreFirst R m keys first → AreFirst R m others first
  first_of_permutation m keys others first p a =
      let same : (k : K) → rank R others k ≡ rank R keys k = λ k. sum_by-IsPermutation (λ y. cond (is_lt (R y k)) 1 0) keys others p in
      record {
        at_rank = λ i k e.
            let f = a.at_rank i k e in
            (Contains-permutation keys others k p f.0, same k ∙ f.1, f.2);
        complete = λ k c below. rw (same k) (a.complete k (Contains-permutation others keys k (IsPermutation-sym keys others p) c) (rw (same k) at below));
      }

  all_push : (P : K → Type 0) (xs : List K) (x : K) → AllByRecursion P xs → P x → AllByRecursion P (xs ++ x ∷ [])
  all_push P xs x h p = grind (arith, common_steps)

  rising_push : (xs : List K) (x : K) → Rising R xs → AllByRecursion (λ g. R g x ≡ Less) xs → Rising R (xs ++ x ∷ [])
  rising_push [] x h b = (tt, tt)
  rising_push (y ∷ ys) x h b = (all_push (λ z. R y z ≡ Less) ys x h.0 b.0, rising_push ys x h.1 b.1)

  after_push : (given : List K) (k : K) (others : List K) → AllByRecursion (λ z. AllByRecursion (λ g. R g z ≡ Less) given) others → AllByRecursion (λ z. R k z ≡ Less) others → AllByRecursion (λ z. AllByRecursion (λ g. R g z ≡ Less) (given ++ k ∷ [])) others
  after_push given k [] h l = tt
  after_push given k (z ∷ others) h l = (all_push (λ g. R g z ≡ Less) given k h.0 l.0, after_push given k others h.1 l.1)

  -- the least of the rest may be given next
  pub split_more : (keys given rest others : List K) (k : K) → IsSplit keys given rest → IsPermutation rest (k ∷ others) → AllByRecursion (λ z. R k z ≡ Less) others → IsSplit keys (given ++ k ∷ []) others
  split_more keys given rest others k s p least =
      let moved : AllByRecursion (λ z. AllByRecursion (λ g. R g z ≡ Less) given) (k ∷ others) =
      recursion_from_All (λ z. AllByRecursion (λ g. R g z ≡ Less) given) (k ∷ others) (All-permutation (λ z. AllByRecursion (λ g. R g z ≡ Less) given) rest (k ∷ others) p (All-from_recursion (λ z. AllByRecursion (λ g. R g z ≡ Less) given) rest s.after)) in
      record {
        parts = rw append_assoc (IsPermutation-trans keys (given ++ rest) (given ++ (k ∷ others)) s.parts (IsPermutation-append_right given rest (k ∷ others) p));
        rising = rising_push given k s.rising moved.0;
        after = after_push given k others moved.1 least;
      }

  -- one list alone has the first m keys
  pub first_unique : (m : ℕ) (keys xs ys : List K) → AreFirst R m keys xs → AreFirst R m keys ys → xs ≡ ys
  first_unique m keys xs ys a b =
      same_places xs ys
      (λ i k e. let f = a.at_rank i k e in subst (λ j. slice_get ys j ≡ Some k) f.1 (b.complete k f.0 (rw f.1 f.2)))
      (λ i k e. let f = b.at_rank i k e in subst (λ j. slice_get xs j ≡ Some k) f.1 (a.complete k f.0 (rw f.1 f.2)))

  -- a key that does not go before another has all before it that the other has
  counted_too : (p q : K → Bool) → ((x : K) → p x ≡ true → q x ≡ true) → (xs : List K) → count_by p xs ≤ count_by q xs
  counted_too p q more [] = omega arith
  counted_too p q more (x ∷ xs) = grind (arith, count_cons, counted_too p q more xs)

  pub is_less : (r : Ordering) → is_lt r ≡ true → r ≡ Less
  is_less r e = grind arith

  -- of two keys the one of the less rank goes first
  pub less_by_rank : (keys : List K) (x y : K) → rank R keys x < rank R keys y → R x y ≡ Less
  less_by_rank keys x y lower = grind (arith, counted_too, is_less)

  -- the first m keys are not more than m
  pub first_within : (m : ℕ) (keys first : List K) → AreFirst R m keys first → length first ≤ m
  first_within m keys [] a = omega arith
  first_within m keys (x ∷ xs) a =
      elim (nat_le (length (x ∷ xs)) m) as (λ b. nat_le (length (x ∷ xs)) m ≡ b → length (x ∷ xs) ≤ m) [
        | true ↦ λ t. leb-true (length (x ∷ xs)) m t
        | false ↦ λ t.
            let over : m < length (x ∷ xs) = leb-false (length (x ∷ xs)) m t in
            let below : m < m = (a.at_rank m (get_or (x ∷ xs) m x) (slice_get-get_or (x ∷ xs) m x over)).2 in
            absurd (omega arith)
      ] refl

  -- and each of them goes before all later ones
  pub first_pairs : (m : ℕ) (keys first : List K) → AreFirst R m keys first → (i j : ℕ) (d : K) → i < j → j < length first → R (get_or first i d) (get_or first j d) ≡ Less
  first_pairs m keys first a i j d earlier within = grind (arith, slice_get-get_or, less_by_rank, counted_too, is_less)
