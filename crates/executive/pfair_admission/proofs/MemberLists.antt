-- Lists of members: who is freed, and what they claim.
use Rattle.pfair_admission.proofs.Common.{common_steps, AllByRecursion, filter, ◌≡◌, ◌<◌, ℕ, Bool, true, List, [], ◌∷◌, get_or, length, map, arith, sum_by, sum_by-cons, ◌≤◌, all_by_recursion_push, sum_by_push, take_more, carried, same_Some, slice_get-get_or, slice_get_within, sum_by_more_le, nat_tests, units_of, Member, claimed, change, is_freed, present, earlier_of, IsNotBefore, NoneFreedBefore, NoneFreed, ◌+◌, false, cond, ◌++◌, take, Option, Some, refl, sym, ap, subst, ◌∙◌, not, slice_get}

-- What holds of each element of a list.

pub each : {A : Type 0} (P Q : A → Type 0) → ((x : A) → P x → Q x) → (xs : List A) → AllByRecursion P xs → AllByRecursion Q xs
each P Q to [] h = tt
each P Q to (x ∷ xs) h = (to x h.0, each P Q to xs h.1)

pub each_map : {A B : Type 0} (P : A → Type 0) (Q : B → Type 0) (f : A → B) → ((x : A) → P x → Q (f x)) → (xs : List A) → AllByRecursion P xs → AllByRecursion Q (map f xs)
each_map P Q f to [] h = tt
each_map P Q f to (x ∷ xs) h = (to x h.0, each_map P Q f to xs h.1)

pub both : {A : Type 0} (P Q R : A → Type 0) → ((x : A) → P x → Q x → R x) → (xs : List A) → AllByRecursion P xs → AllByRecursion Q xs → AllByRecursion R xs
both P Q R to [] h g = tt
both P Q R to (x ∷ xs) h g = (to x h.0 g.0, both P Q R to xs h.1 g.1)

-- those that a test keeps pass it
pub each_kept : {A : Type 0} (P Q : A → Type 0) (p : A → Bool) → ((x : A) → p x ≡ true → P x → Q x) → (xs : List A) → AllByRecursion P xs → AllByRecursion Q (filter p xs)
each_kept P Q p to [] h = tt
each_kept P Q p to (x ∷ xs) h = grind (arith, each_kept P Q p to xs h.1)

pub each_filter : {A : Type 0} (P : A → Type 0) (p : A → Bool) (xs : List A) → AllByRecursion P xs → AllByRecursion P (filter p xs)
each_filter P p xs h = each_kept P P p (λ x _ is. is) xs h

pub each_at : {A : Type 0} (P : A → Type 0) (xs : List A) (k : ℕ) (d : A) → AllByRecursion P xs → k < length xs → P (get_or xs k d)
each_at P xs k d h within = grind (arith, common_steps)

-- Sums over a part of a list.

-- a part of the items sums to no more than all of them
pub sum_filter : {A : Type 0} (f : A → ℕ) (p : A → Bool) (xs : List A) → sum_by f (filter p xs) ≤ sum_by f xs
sum_filter f p [] = omega arith
sum_filter f p (x ∷ xs) = grind (arith, sum_by-cons, sum_filter f p xs)

-- ---- who is freed

-- none goes if none is freed
pub present_all : (t : ℕ) (ms : List Member) → NoneFreed t ms → present t ms ≡ ms
present_all t [] h = refl
present_all t (m ∷ ms) h = ap (λ b. cond (not b) (m ∷ present t ms) (present t ms)) h.0 ∙ ap (λ (l : List Member). m ∷ l) (present_all t ms h.1)

-- and none is freed of those that stay
pub none_freed_present : (t : ℕ) (ms : List Member) → NoneFreed t (present t ms)
none_freed_present t [] = tt
none_freed_present t (m ∷ ms) = grind (arith, none_freed_present t ms)

-- before the first freeing slot nobody is freed
later_stays : (t : ℕ) (first slot : Option ℕ) → is_freed t first ≡ false → IsNotBefore first slot → is_freed t slot ≡ false
later_stays t first slot before not_before = grind (arith, nat_tests)

pub none_freed_before : (t : ℕ) (first : Option ℕ) (ms : List Member) → is_freed t first ≡ false → NoneFreedBefore first ms → NoneFreed t ms
none_freed_before t first [] before h = tt
none_freed_before t first (m ∷ ms) before h = (later_stays t first m.freed_at before h.0, none_freed_before t first ms before h.1)

-- ---- the first freeing slot

pub not_before_left : (first other slot : Option ℕ) → IsNotBefore first slot → IsNotBefore (earlier_of first other) slot
not_before_left first other slot h = grind arith

pub not_before_own : (first slot : Option ℕ) → IsNotBefore (earlier_of first slot) slot
not_before_own first slot = grind arith

pub first_earlier : (first other : Option ℕ) (ms : List Member) → NoneFreedBefore first ms → NoneFreedBefore (earlier_of first other) ms
first_earlier first other [] h = tt
first_earlier first other (m ∷ ms) h = (not_before_left first other m.freed_at h.0, first_earlier first other ms h.1)

-- ---- one member more

pub take_one : (ms : List Member) (place : ℕ) (m : Member) → slice_get ms place ≡ Some m → take (place + 1) ms ≡ take place ms ++ m ∷ []
take_one ms place m at =
    let inside = slice_get_within ms place m at in
    take_more ms place m inside ∙ ap (λ (x : Member). take place ms ++ x ∷ []) (same_Some (get_or ms place m) m (sym (slice_get-get_or ms place m inside) ∙ at))

pub each_more : (P : Member → Type 0) (ms : List Member) (place : ℕ) (m : Member) → slice_get ms place ≡ Some m → P m → AllByRecursion P (take place ms) → AllByRecursion P (take (place + 1) ms)
each_more P ms place m at own before = subst (AllByRecursion P) (sym (take_one ms place m at)) (all_by_recursion_push P (take place ms) m before own)

pub first_more : (first : Option ℕ) (ms : List Member) (place : ℕ) (m : Member) → slice_get ms place ≡ Some m → NoneFreedBefore first (take place ms) → NoneFreedBefore (earlier_of first m.freed_at) (take (place + 1) ms)
first_more first ms place m at h = each_more (λ x. IsNotBefore (earlier_of first m.freed_at) x.freed_at) ms place m at (not_before_own first m.freed_at) (first_earlier first m.freed_at (take place ms) h)

-- ---- what is claimed

-- a change that keeps the weight keeps the claim
pub claimed_change : (frame : ℕ) (name : List ℕ) (f : Member → Member) → ((m : Member) → (f m).weight ≡ m.weight) → (ms : List Member) → claimed frame (change name f ms) ≡ claimed frame ms
claimed_change frame name f keeps ms = grind (arith, sum_by-cons, common_steps)

-- and so does carrying
pub claimed_carried : (frame : ℕ) (ms : List Member) → claimed frame (map carried ms) ≡ claimed frame ms
claimed_carried frame ms = grind (arith, sum_by-cons, map, common_steps)

pub claimed_present : (frame t : ℕ) (ms : List Member) → claimed frame (present t ms) ≤ claimed frame ms
claimed_present frame t ms = sum_filter (λ (m : Member). units_of m.weight frame) (λ (m : Member). not (is_freed t m.freed_at)) ms

-- one member more
pub claimed_more : (frame : ℕ) (ms : List Member) (place : ℕ) (m : Member) → slice_get ms place ≡ Some m → claimed frame (take (place + 1) ms) ≡ claimed frame (take place ms) + units_of m.weight frame
claimed_more frame ms place m at = ap (claimed frame) (take_one ms place m at) ∙ sum_by_push (λ (x : Member). units_of x.weight frame) (take place ms) m

pub claimed_part : (frame : ℕ) (ms : List Member) (place : ℕ) (m : Member) → slice_get ms place ≡ Some m → claimed frame (take place ms) + units_of m.weight frame ≤ claimed frame ms
claimed_part frame ms place m at =
    let is = same_Some (get_or ms place m) m (sym (slice_get-get_or ms place m (slice_get_within ms place m at)) ∙ at) in
    subst (λ (x : Member). claimed frame (take place ms) + units_of x.weight frame ≤ claimed frame ms) is (sum_by_more_le (λ (x : Member). units_of x.weight frame) ms place m (slice_get_within ms place m at))
