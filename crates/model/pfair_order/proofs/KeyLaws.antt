-- The order of keys: strict and total, kept if all times come later.
use Rattle.pfair_order.proofs.Common.{Ordering, Less, Equal, nat_cmp, ordering_then, slice_cmp, Key, pd2_cmp, tie_group_of, GoesBefore, earlier_deadline, greater_b_bit, later_group, smaller_name, smaller_group, ◌≡◌, ◌≢◌, ℕ, ◌<◌, List, arith, sym, ◌∙◌, ◌⊎◌, Greater, is_eq, ordering_reverse, pointwise, IsTotalOrder, tied_itself, refl, ap, inl, inr, nat_cmp_is, cases_order, filter_agree, of_rank, first_by_rank, common_steps, zero, suc, ◌+◌, Bool, ◌∷◌, [], tied_names, rules, nat_eq, ◌&&◌, map, filter, map-append}
use Rattle.std.proofs.lemmas.Bool.Decides.{nat_tests}
use Rattle.std.specs.Cmp.Rules.{comparing}
use Rattle.std.specs.FinMap.{IsAntisymmetric}

-- The composed order of keys is the order by what differs first.

nat_equal : (x y : ℕ) → nat_cmp x y ≡ Equal → x ≡ y
nat_equal x y h = grind (arith, nat_tests)

equal_nat : (x y : ℕ) → x ≡ y → nat_cmp x y ≡ Equal
equal_nat x y h = grind (arith, nat_tests)

then_less : (o p : Ordering) → ordering_then o p ≡ Less → (o ≡ Less) ⊎ ((o ≡ Equal) × (p ≡ Less))
then_less o p h = grind arith

less_first : (o p : Ordering) → o ≡ Less → ordering_then o p ≡ Less
less_first o p h = grind arith

equal_first : (o p : Ordering) → o ≡ Equal → ordering_then o p ≡ p
equal_first o p h = grind arith

same_bytes : (xs ys : List ℕ) → slice_cmp nat_cmp xs ys ≡ Equal → xs ≡ ys
same_bytes xs ys tied = (tied_names xs ys).0 tied

bytes_same : (xs ys : List ℕ) → xs ≡ ys → slice_cmp nat_cmp xs ys ≡ Equal
bytes_same xs ys same = (tied_names xs ys).1 same

tie_one : (k : Key) → k.b ≡ 1 → tie_group_of k ≡ k.group
tie_one k h = grind (arith, nat_tests)

-- at equal b-bits the tie groups differ as the group deadlines of b-bits of 1 do
ties : (k l : Key) → k.b ≡ l.b → (k.b ≡ 1 → k.group ≡ l.group) → tie_group_of k ≡ tie_group_of l
ties k l same groups = grind (arith, tie_one)

same_groups : (k l : Key) → k.b ≡ l.b → tie_group_of k ≡ tie_group_of l → k.b ≡ 1 → k.group ≡ l.group
same_groups k l same tied one = let left = tie_one k one in let right = tie_one l (sym same ∙ one) in cc

less_tie : (k l : Key) → k.d ≡ l.d → k.b ≡ l.b → tie_group_of l < tie_group_of k → GoesBefore k l
less_tie k l d same lower = grind (arith, tie_one, later_group)

other_b_bit : (k l : Key) → (k.b ≡ 1 → k.group ≡ l.group) → k.group < l.group → k.b ≢ 1
other_b_bit k l groups lower one = let same : k.group ≡ l.group = groups one in omega arith

pub goes_before : (k l : Key) → pd2_cmp k l ≡ Less → GoesBefore k l
goes_before k l h = grind (arith, then_less, earlier_deadline, nat_equal, greater_b_bit, less_tie, same_groups, slice_cmp, smaller_name, smaller_group, other_b_bit, same_bytes, nat_tests)

past_d : (k l : Key) → k.d ≡ l.d → (o : Ordering) → ordering_then (nat_cmp k.d l.d) o ≡ o
past_d k l d o = equal_first (nat_cmp k.d l.d) o (equal_nat k.d l.d d)

past_b : (k l : Key) → k.b ≡ l.b → (o : Ordering) → ordering_then (nat_cmp l.b k.b) o ≡ o
past_b k l b o = equal_first (nat_cmp l.b k.b) o (equal_nat l.b k.b (sym b))

past_tie : (k l : Key) → tie_group_of k ≡ tie_group_of l → (o : Ordering) → ordering_then (nat_cmp (tie_group_of l) (tie_group_of k)) o ≡ o
past_tie k l t o = equal_first (nat_cmp (tie_group_of l) (tie_group_of k)) o (equal_nat (tie_group_of l) (tie_group_of k) (sym t))

past_name : (k l : Key) → k.name ≡ l.name → (o : Ordering) → ordering_then (slice_cmp nat_cmp k.name l.name) o ≡ o
past_name k l n o = equal_first (slice_cmp nat_cmp k.name l.name) o (bytes_same k.name l.name n)

pub compares_less : (k l : Key) → GoesBefore k l → pd2_cmp k l ≡ Less
compares_less k l h = grind (arith, earlier_deadline, less_first, greater_b_bit, past_d, later_group, past_b, tie_one, smaller_name, past_tie, ties, smaller_group, past_name, nat_tests)

pub same_key : (k l : Key) → pd2_cmp k l ≡ Equal → k ≡ l
same_key k l h = grind (arith, slice_cmp, nat_equal, same_bytes, nat_tests, tied_names)

pub compares_equal : (k l : Key) → k ≡ l → pd2_cmp k l ≡ Equal
compares_equal k l e = grind (arith, past_d, past_b, past_tie, past_name, equal_nat)

-- The order of keys is strict and total, and only one key ties with a key.

pub keys_total : IsTotalOrder pd2_cmp
keys_total = search (comparing, rules) depth 9

pub keys_exact : IsAntisymmetric pd2_cmp
keys_exact k l e = same_key k l e

-- what `==` of keys says is what their order says
pub equal_keys : (k l : Key) → (nat_eq k.d l.d && (nat_eq k.b l.b && (nat_eq k.group l.group && pointwise nat_eq k.name l.name))) ≡ is_eq (pd2_cmp k l)
equal_keys k l = search (comparing, rules) depth 9

not_both : (o : Ordering) → o ≡ Less → o ≡ Equal → ⊥
not_both o less equal = cc

pub never_before_itself : (k : Key) → GoesBefore k k → ⊥
never_before_itself k b = not_both (pd2_cmp k k) (compares_less k k b) (tied_itself keys_total k)

pub before_through : (k l m : Key) → GoesBefore k l → GoesBefore l m → GoesBefore k m
before_through k l m a b = goes_before k m (keys_total.trans k l m (compares_less k l a) (compares_less l m b))

pub one_way : (k l : Key) → GoesBefore k l ⊎ ((k ≡ l) ⊎ GoesBefore l k)
one_way k l =
    elim (pd2_cmp k l) as (λ o. pd2_cmp k l ≡ o → GoesBefore k l ⊎ ((k ≡ l) ⊎ GoesBefore l k)) [
      | Less ↦ λ e. inl (goes_before k l e)
      | Equal ↦ λ e. inr (inl (same_key k l e))
      | Greater ↦ λ e. inr (inr (goes_before l k (keys_total.antisymm l k ∙ ap ordering_reverse e)))
    ] refl

-- The order of keys is kept if all times come later by one amount, and so are the first keys.

-- ---- keys

-- a group deadline so much later; there is still none if there was none
abbrev pub group_later : ℕ → ℕ → ℕ
group_later by zero = zero
group_later by (suc group) = suc group + by

abbrev pub key_later : ℕ → Key → Key
key_later by k = record k { d = k.d + by; group = group_later by k.group }

same_cmp : (x y u v : ℕ) → (x < y → u < v) → (x ≡ y → u ≡ v) → (y < x → v < u) → nat_cmp u v ≡ nat_cmp x y
same_cmp x y u v less same more = grind (arith, cases_order, nat_cmp_is)

tie_later : (by : ℕ) (k : Key) → tie_group_of (key_later by k) ≡ group_later by (tie_group_of k)
tie_later by k = grind arith

pub later_same : (by : ℕ) (k l : Key) → pd2_cmp (key_later by k) (key_later by l) ≡ pd2_cmp k l
later_same by k l = grind (arith, slice_cmp, same_cmp, tie_later, common_steps)

-- ---- the first of them

pub filter_mapped : {A B : Type 0} (p : B → Bool) (f : A → B) (xs : List A) → filter p (map f xs) ≡ map f (filter (λ x. p (f x)) xs)
filter_mapped p f [] = refl
filter_mapped p f (x ∷ xs) = grind (arith, map, filter_mapped p f xs)

module _ {K : Type 0} (R : K → K → Ordering) (f : K → K) (keeps : (k l : K) → R (f k) (f l) ≡ R k l) where
  of_rank_mapped : (keys : List K) (r : ℕ) → of_rank R (map f keys) r ≡ map f (of_rank R keys r)
  of_rank_mapped keys r = grind (arith, filter_mapped, map, filter_agree, common_steps)

  pub first_mapped : (m : ℕ) (keys : List K) → first_by_rank R m (map f keys) ≡ map f (first_by_rank R m keys)
  first_mapped zero keys = refl
  first_mapped (suc m) keys = grind (arith, of_rank_mapped, map-append, first_mapped m keys)

pub first_later : (by m : ℕ) (keys : List Key) → first_by_rank pd2_cmp m (map (key_later by) keys) ≡ map (key_later by) (first_by_rank pd2_cmp m keys)
first_later by m keys = first_mapped pd2_cmp (key_later by) (later_same by) m keys
