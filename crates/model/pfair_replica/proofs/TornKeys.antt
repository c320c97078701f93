-- The torn keys, the first of them, and the test that there is one.
use Rattle.pfair_replica.proofs.Common.{map-append, option_or, Replica, IsLeastMissing, missing, numbers_below, numbers_to, ℕ, zero, suc, ◌+◌, ◌-◌, ◌<◌, ◌≤◌, ◌≡◌, sym, ap, ◌∙◌, subst, arith, Bool, true, false, cond, [], ◌∷◌, ◌++◌, Option, Some, None, find, add-one, option_map, true≢false, or_parts, cases_lt, append-nil, flat_map-append, Held, Torn, Logged, Among, below_among, IsReplica, Untorn, is_torn, has_torn, entry_key, torn_in, torn_keys, refl, inl, inr, List, ◌≢◌, ◌↔◌, map, filter, flat_map, slice_get, is_some, find-append, ◌||◌, list_any}

-- Numbers gone through one after another.

pub numbers_more : (b : ℕ) → numbers_to (b + 1) ≡ numbers_to b ++ (b + 1) ∷ []
numbers_more b = ap numbers_to (add-one b) ∙ map-append suc (numbers_below b) (b ∷ []) ∙ ap (λ n. numbers_to b ++ n ∷ []) (sym (add-one b))

-- ---- the first number that meets a test

module _ (p : ℕ → Bool) where
  find_step : (b : ℕ) → find p (numbers_to (b + 1)) ≡ option_or (find p (numbers_to b)) (find p ((b + 1) ∷ []))
  find_step b = ap (find p) (numbers_more b) ∙ find-append p (numbers_to b) ((b + 1) ∷ [])

  pub find_none : (b : ℕ) → find p (numbers_to b) ≡ None → p (b + 1) ≡ false → find p (numbers_to (b + 1)) ≡ None
  find_none b e f = find_step b ∙ ap (λ o. option_or o (find p ((b + 1) ∷ []))) e ∙ ap (λ t. cond t (Some (b + 1)) None) f

  find_here : (b : ℕ) → find p (numbers_to b) ≡ None → p (b + 1) ≡ true → find p (numbers_to (b + 1)) ≡ Some (b + 1)
  find_here b e f = find_step b ∙ ap (λ o. option_or o (find p ((b + 1) ∷ []))) e ∙ ap (λ t. cond t (Some (b + 1)) None) f

  find_further : (c b n : ℕ) → find p (numbers_to b) ≡ Some n → find p (numbers_to (b + c)) ≡ Some n
  find_further zero b n e = ap (λ q. find p (numbers_to q)) (let same : b + 0 ≡ b = omega arith in same) ∙ e
  find_further (suc c) b n e =
      ap (λ q. find p (numbers_to q)) (let same : b + suc c ≡ b + c + 1 = omega arith in same)
      ∙ find_step (b + c) ∙ ap (λ o. option_or o (find p ((b + c + 1) ∷ []))) (find_further c b n e)

  pub find_first : (b capacity : ℕ) → b < capacity → find p (numbers_to b) ≡ None → p (b + 1) ≡ true → find p (numbers_to capacity) ≡ Some (b + 1)
  find_first b capacity room e f =
      subst (λ (q : ℕ). find p (numbers_to q) ≡ Some (b + 1)) (let same : b + 1 + (capacity - (b + 1)) ≡ capacity = omega arith in same) (find_further (capacity - (b + 1)) (b + 1) (b + 1) (find_here b e f))

-- none of the numbers up to b meets the test, or the least that does is this
abbrev IsFirst : (ℕ → Bool) → ℕ → Option ℕ → Type 0
IsFirst p b None = (n : ℕ) → 1 ≤ n → n ≤ b → p n ≡ false
IsFirst p b (Some n) = (1 ≤ n) × (n ≤ b) × (p n ≡ true) × ((j : ℕ) → 1 ≤ j → j < n → p j ≡ false)

first_found : (p : ℕ → Bool) (b : ℕ) → IsFirst p b (find p (numbers_to b))
first_found p zero = λ n low high. absurd (omega arith)
first_found p (suc b) = grind (arith, map-append, find-append, first_found p b)

pub missing_is_least : (x : Replica) (k : ℕ) → IsLeastMissing x k (missing x k)
missing_is_least x k = grind (arith, first_found)

-- ---- the first torn key

first_filter : (p : ℕ → Bool) (xs : List ℕ) → slice_get (filter p xs) 0 ≡ find p xs
first_filter p [] = refl
first_filter p (x ∷ xs) = grind (arith, first_filter p xs)

first_map : {A B : Type 0} (f : A → B) (xs : List A) → slice_get (map f xs) 0 ≡ option_map f (slice_get xs 0)
first_map f [] = refl
first_map f (x ∷ xs) = refl

-- the first torn key of one processor
pub torn_first : (x : Replica) (k : ℕ) → slice_get (torn_in x k) 0 ≡ option_map (entry_key k) (find (λ n. is_torn (x.at k n)) (numbers_to x.capacity))
torn_first x k = grind (arith, first_map, first_filter)

module _ {A : Type 0} (f : ℕ → List A) where
  pub flat_more : (p : ℕ) → flat_map f (numbers_below (suc p)) ≡ flat_map f (numbers_below p) ++ f p
  flat_more p = flat_map-append f (numbers_below p) (p ∷ []) ∙ ap (λ xs. flat_map f (numbers_below p) ++ xs) (append-nil (f p))

  -- one more number
  pub flat_next : (p : ℕ) → flat_map f (numbers_below (p + 1)) ≡ flat_map f (numbers_below p) ++ f p
  flat_next p = ap (λ n. flat_map f (numbers_below n)) (let next : p + 1 ≡ suc p = omega arith in next) ∙ flat_more p

  some_left : (xs ys : List A) → xs ≢ [] → xs ++ ys ≢ []
  some_left [] ys some none = some refl
  some_left (x ∷ xs) ys some none = cc

  some_right : (xs ys : List A) → ys ≢ [] → xs ++ ys ≢ []
  some_right [] ys some none = some none
  some_right (x ∷ xs) ys some none = cc

  -- a number that gives something
  pub flat_some : (m p : ℕ) → p < m → f p ≢ [] → flat_map f (numbers_below m) ≢ []
  flat_some zero p below some none = absurd (omega arith)
  flat_some (suc m) p below some none = grind (arith, cases_lt, some_left, flat_more, some_right, flat_some m p)

  empty : (xs : List A) → slice_get xs 0 ≡ None → xs ≡ []
  empty [] e = refl
  empty (x ∷ xs) e = absurd (cc)

  -- one more number that gives nothing
  pub flat_none : (p : ℕ) → flat_map f (numbers_below p) ≡ [] → slice_get (f p) 0 ≡ None → flat_map f (numbers_below (p + 1)) ≡ []
  flat_none p none here = grind (arith, flat_next, empty)

  kept : (xs ys : List A) (a : A) → slice_get xs 0 ≡ Some a → slice_get (xs ++ ys) 0 ≡ Some a
  kept [] ys a e = absurd (cc)
  kept (x ∷ xs) ys a e = e

  -- the first that is given
  pub flat_first : (m p : ℕ) (a : A) → p < m → flat_map f (numbers_below p) ≡ [] → slice_get (f p) 0 ≡ Some a → slice_get (flat_map f (numbers_below m)) 0 ≡ Some a
  flat_first zero p a below none here = absurd (omega arith)
  flat_first (suc m) p a below none here = grind (arith, cases_lt, flat_more, kept, flat_first m p a)

-- ---- the test

abbrev is_more : {A : Type 0} → List A → Bool
is_more [] = false
is_more (x ∷ xs) = true

some_more : {A : Type 0} (xs : List A) → is_some (slice_get xs 0) ≡ is_more xs
some_more xs = grind arith

more_append : {A : Type 0} (xs ys : List A) → is_more (xs ++ ys) ≡ (is_more xs || is_more ys)
more_append xs ys = grind arith

more_flat : {A : Type 0} (f : ℕ → List A) (xs : List ℕ) → is_more (flat_map f xs) ≡ list_any (λ k. is_more (f k)) xs
more_flat f [] = refl
more_flat f (x ∷ xs) = more_append (f x) (flat_map f xs) ∙ ap (λ b. is_more (f x) || b) (more_flat f xs)

more_filter : {A : Type 0} (g : ℕ → A) (p : ℕ → Bool) (xs : List ℕ) → is_more (map g (filter p (map suc xs))) ≡ list_any (λ n. p (suc n)) xs
more_filter g p [] = refl
more_filter g p (x ∷ xs) = grind (arith, more_filter g p xs)

torn_more : (x : Replica) → is_more (torn_keys x) ≡ has_torn x
torn_more x = more_flat (torn_in x) (numbers_below x.processors) ∙ (λ i. list_any (λ k. more_filter (entry_key k) (λ n. is_torn (x.at k n)) (numbers_below x.capacity) i) (numbers_below x.processors))

-- there is a first torn key exactly if the test finds one
pub torn_test : (x : Replica) → is_some (slice_get (torn_keys x) 0) ≡ has_torn x
torn_test x = some_more (torn_keys x) ∙ torn_more x

pub no_key_no_torn : (x : Replica) → torn_keys x ≡ [] ↔ (has_torn x ≡ false)
no_key_no_torn x = grind (arith, torn_more)

-- ---- the test, and the contents

any_false : (p : ℕ → Bool) (xs : List ℕ) → list_any p xs ≡ false → (x : ℕ) → Among xs x → p x ≡ false
any_false p [] e x h = absurd h
any_false p (y ∷ ys) e x (inl i) = ap p i ∙ (or_parts (p y) (list_any p ys) e).0
any_false p (y ∷ ys) e x (inr h) = any_false p ys (or_parts (p y) (list_any p ys) e).1 x h

none_any : (p : ℕ → Bool) → ((x : ℕ) → p x ≡ false) → (xs : List ℕ) → list_any p xs ≡ false
none_any p h [] = refl
none_any p h (y ∷ ys) = ap (λ b. b || list_any p ys) (h y) ∙ none_any p h ys

pub not_torn : (c : Held Logged) → c ≢ Some Torn → is_torn c ≡ false
not_torn c h = grind arith

pub untorn_by_test : (x : Replica) → IsReplica x → has_torn x ≡ false → Untorn x
untorn_by_test x r e k n torn = at n torn (r.in_range k n Torn torn)
  where
    at : (n : ℕ) → x.at k n ≡ Some Torn → (k < x.processors) × (0 < n) × (n ≤ x.capacity) → ⊥
    at zero torn range = (let pos = range.1 in absurd (omega (arith, pos)))
    at (suc m) torn range =
        (let row = any_false (λ k. list_any (λ n. is_torn (x.at k (suc n))) (numbers_below x.capacity)) (numbers_below x.processors) e k (below_among x.processors k range.0) in
        let le = range.2 in
        let here = any_false (λ n. is_torn (x.at k (suc n))) (numbers_below x.capacity) row m (below_among x.capacity m (omega (arith, le))) in
        true≢false (sym (ap is_torn torn) ∙ here))

-- a torn key of a processor is listed
pub torn_listed : (x : Replica) (k b : ℕ) → b < x.capacity → x.at k (b + 1) ≡ Some Torn → torn_in x k ≢ []
torn_listed x k b low torn none =
    let test : list_any (λ n. is_torn (x.at k (suc n))) (numbers_below x.capacity) ≡ false = sym (more_filter (entry_key k) (λ n. is_torn (x.at k n)) (numbers_below x.capacity)) ∙ ap is_more none in
    let here = any_false (λ n. is_torn (x.at k (suc n))) (numbers_below x.capacity) test b (below_among x.capacity b low) in
    grind arith

pub test_by_untorn : (x : Replica) → Untorn x → has_torn x ≡ false
test_by_untorn x untorn = grind (arith, none_any, not_torn)
