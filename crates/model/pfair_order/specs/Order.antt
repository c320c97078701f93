-- The PD2 order of keys.
use Rattle.std.specs.Prelude.{ℕ, ◌≡◌, ◌≢◌, ◌<◌, ◌==◌, if◌then◌else◌, zero, suc, ◌≤◌, List, [], ◌++◌, Some, filter, count_by, slice_get, Contains, refl}
use Rattle.std.specs.declared.cmp.Ordering.{Ordering}
use Rattle.std.specs.declared.cmp.Ordering.TheVariants.{Less}
use Rattle.std.specs.Ordering.{nat_cmp, on, flip_args, then_cmp, is_lt, is_eq}
use Rattle.std.specs.Cmp.Lexicographic.{slice_cmp}
use Rattle.pfair_order.specs.declared.Key.{Key}
use Rattle.std.specs.Coded.{Coded, code_by, coded×, coded_ℕ, coded_list}

-- the group deadline if it counts, that is, if the b-bit is 1
abbrev pub tie_group_of : Key → ℕ
tie_group_of k = if k.b == 1 then k.group else 0

-- the order of keys, by what differs first
abbrev pub pd2_cmp : Key → Key → Ordering
pd2_cmp =
    then_cmp (on (λ k. k.d) nat_cmp)
    (then_cmp (flip_args (on (λ k. k.b) nat_cmp))
    (then_cmp (flip_args (on tie_group_of nat_cmp))
    (then_cmp (on (λ k. k.name) (slice_cmp nat_cmp))
    (on (λ k. k.group) nat_cmp))))

-- one key goes before another, by the first of these that differs: the earlier deadline; the greater b-bit; if
-- both b-bits are 1 the later group deadline; the smaller name in bytes, a proper prefix first; the smaller group
-- deadline, which is left only if the b-bits are not 1
pub data GoesBefore (k l : Key) : Type 0 where
  earlier_deadline : k.d < l.d → GoesBefore k l
  greater_b_bit : k.d ≡ l.d → l.b < k.b → GoesBefore k l
  later_group : k.d ≡ l.d → k.b ≡ 1 → l.b ≡ 1 → l.group < k.group → GoesBefore k l
  smaller_name : k.d ≡ l.d → k.b ≡ l.b → (k.b ≡ 1 → k.group ≡ l.group)
      → slice_cmp nat_cmp k.name l.name ≡ Less → GoesBefore k l
  smaller_group : k.d ≡ l.d → k.b ≡ l.b → k.b ≢ 1
      → k.name ≡ l.name → k.group < l.group → GoesBefore k l

-- The rank of a key among others, and the keys of the least ranks.

-- how many of the keys go before k
abbrev pub rank : {K : Type 0} → (K → K → Ordering) → List K → K → ℕ
rank R keys k = count_by (λ other. is_lt (R other k)) keys

-- the keys of rank r
abbrev pub of_rank : {K : Type 0} → (K → K → Ordering) → List K → ℕ → List K
of_rank R keys r = filter (λ k. rank R keys k == r) keys

-- the keys of rank below m, rank by rank
abbrev pub first_by_rank : {K : Type 0} → (K → K → Ordering) → ℕ → List K → List K
first_by_rank R zero keys = []
first_by_rank R (suc m) keys = first_by_rank R m keys ++ of_rank R keys m

-- the list has the keys of rank below m, each at the place of its rank
pub record AreFirst {K : Type 0} (R : K → K → Ordering) (m : ℕ) (keys first : List K) : Type 0 where
  pub at_rank : (i : ℕ) (k : K) → slice_get first i ≡ Some k → Contains keys k × (rank R keys k ≡ i) × (i < m)
  pub complete : (k : K) → Contains keys k → rank R keys k < m → slice_get first (rank R keys k) ≡ Some k

-- no key ties with another one of the list
abbrev pub EachOnce : {K : Type 0} → (K → K → Ordering) → List K → Type 0
EachOnce {K} R keys = (k : K) → count_by (λ other. is_eq (R other k)) keys ≤ 1

-- A key as a value that can be stored.

-- a key is stored as its three numbers and its name's bytes
abbrev pub key_code : Coded Key
key_code =
    code_by (ℕ × (ℕ × (ℕ × List ℕ)))
    (coded× coded_ℕ (coded× coded_ℕ (coded× coded_ℕ (coded_list coded_ℕ))))
    (λ k. (k.d, (k.b, (k.group, k.name))))
    (λ p. record { d = p.0; b = p.1.0; group = p.1.1.0; name = p.1.1.1 })
    (λ _. refl)
