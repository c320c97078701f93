-- The first torn key, as a replica keeps it.
use Rattle.pfair_replica.proofs.Common.{option_map, Torn, EntryKey, Contents, Replica, IsReplica, is_torn, entry_key, numbers_below, numbers_to, torn_in, torn_keys, ComesFirst, IsFirst, IsTornAt, IsFirstTornIn, IsEarlier, ℕ, zero, suc, ◌+◌, ◌-◌, ◌≤◌, ◌≡◌, refl, sym, ap, ◌∙◌, subst, arith, inl, inr, ⊎_elim, true, [], Option, Some, None, ◌⊎◌, find, flat_map, slice_get, IsSomeAnd}
use Rattle.pfair_replica.proofs.TornKeys.{find_none, find_first, torn_first, flat_none, flat_first, not_torn, no_key_no_torn, test_by_untorn}

-- ---- the first of some keys

comes_later : (a b : EntryKey) (k n : ℕ) → ComesFirst a b.0 b.1 → ComesFirst b k n → ComesFirst a k n
comes_later a b k n h h2 = grind arith

first_bounds : (P : ℕ → ℕ → Type 0) (first : Option EntryKey) → IsFirst P first → (k n : ℕ) → P k n → (key : EntryKey) × (first ≡ Some key) × ComesFirst key k n
first_bounds P first h k n here = grind arith

-- of two first keys the earlier one
pub earlier_first : (P Q R : ℕ → ℕ → Type 0) (first other result : Option EntryKey) → IsFirst P first → IsFirst Q other → IsEarlier first other result
    → ((k n : ℕ) → P k n → R k n) → ((k n : ℕ) → Q k n → R k n) → ((k n : ℕ) → R k n → P k n ⊎ Q k n) → IsFirst R result
earlier_first P Q R first other result p q e one two from = by result e.either (λ k n r. ⊎_elim
    (λ here. (let f = first_bounds P first p k n here in later result f.0 k n (e.before_first f.0 f.1) f.2))
    (λ here. (let f = first_bounds Q other q k n here in later result f.0 k n (e.before_other f.0 f.1) f.2))
    (from k n r))
  where
    later : (o : Option EntryKey) (f : EntryKey) (k n : ℕ) → IsSomeAnd o (λ key. ComesFirst key f.0 f.1) → ComesFirst f k n → IsSomeAnd o (λ key. ComesFirst key k n)
    later None f k n h g = absurd h
    later (Some key) f k n h g = comes_later key f k n h g

    by : (o : Option EntryKey) → (o ≡ first) ⊎ (o ≡ other) → ((k n : ℕ) → R k n → IsSomeAnd o (λ key. ComesFirst key k n)) → IsFirst R o
    by None is h = λ k n r. h k n r
    by (Some key) (inl is) h = (let own : IsFirst P (Some key) = subst (IsFirst P) (sym is) p in (one key.0 key.1 own.0, h))
    by (Some key) (inr is) h = (let own : IsFirst Q (Some key) = subst (IsFirst Q) (sym is) q in (two key.0 key.1 own.0, h))

-- ---- the first torn key of a row

module _ (at : Contents) (k b : ℕ) (untorn : (n : ℕ) → 1 ≤ n → n ≤ b → IsTornAt at k n → ⊥) where
  pub torn_not_yet : (IsTornAt at k (b + 1) → ⊥) → (n : ℕ) → 1 ≤ n → n ≤ b + 1 → IsTornAt at k n → ⊥
  torn_not_yet not_here n low high torn = grind arith

pub torn_nowhere : (at : Contents) (k capacity : ℕ) → ((n : ℕ) → IsTornAt at k n → (1 ≤ n) × (n ≤ capacity)) → ((n : ℕ) → 1 ≤ n → n ≤ capacity → IsTornAt at k n → ⊥) → IsFirstTornIn at k None
torn_nowhere at k capacity within untorn = λ j n h. (let here : IsTornAt at k n = subst (λ (i : ℕ). IsTornAt at i n) h.0 h.1 in untorn n (within n here).0 (within n here).1 here)

-- ---- it is the first of the list of torn keys

module _ (x : Replica) where
  -- no number up to b is torn
  none_found : (k b : ℕ) → ((n : ℕ) → 1 ≤ n → n ≤ b → IsTornAt x.at k n → ⊥) → find (λ n. is_torn (x.at k n)) (numbers_to b) ≡ None
  none_found k zero untorn = refl
  none_found k (suc b) untorn =
      subst (λ (m : ℕ). find (λ n. is_torn (x.at k n)) (numbers_to m) ≡ None) (let next : b + 1 ≡ suc b = omega arith in next)
      (find_none (λ n. is_torn (x.at k n)) b (none_found k b (λ n low high. untorn n low (omega (arith, high)))) (not_torn (x.at k (b + 1)) (untorn (b + 1) (omega arith) (omega arith))))

  none_before : (p : ℕ) → ((k n : ℕ) → IsTornAt x.at k n → p ≤ k) → flat_map (torn_in x) (numbers_below p) ≡ []
  none_before zero later = refl
  none_before (suc p) later =
      subst (λ (m : ℕ). flat_map (torn_in x) (numbers_below m) ≡ []) (let next : p + 1 ≡ suc p = omega arith in next)
      (flat_none (torn_in x) p (none_before p (λ k n torn. (let high = later k n torn in omega (arith, high))))
      (torn_first x p ∙ ap (option_map (entry_key p)) (none_found p x.capacity (λ n low high torn. (let high = later p n torn in omega (arith, high))))))

  pub first_listed : IsReplica x → (first : Option EntryKey) → IsFirst (IsTornAt x.at) first → first ≡ slice_get (torn_keys x) 0
  first_listed r None h = sym (ap (λ keys. slice_get keys 0) ((no_key_no_torn x).1 (test_by_untorn x h)))
  first_listed r (Some key) h =
      let range = r.in_range key.0 key.1 Torn h.0 in
      let row = range.0 in
      let low = range.1 in
      let high = range.2 in
      let number : key.1 - 1 + 1 ≡ key.1 = omega (arith, low) in
      let here : is_torn (x.at key.0 (key.1 - 1 + 1)) ≡ true = ap (λ n. is_torn (x.at key.0 n)) number ∙ ap is_torn h.0 in
      let found = find_first (λ n. is_torn (x.at key.0 n)) (key.1 - 1) x.capacity (omega (arith, low, high))
      (none_found key.0 (key.1 - 1) (λ n first last torn. not_before n last (h.1 key.0 n torn))) here in
      sym (flat_first (torn_in x) x.processors key.0 key row (none_before key.0 (λ k n torn. not_above k n (h.1 k n torn)))
      (torn_first x key.0 ∙ ap (option_map (entry_key key.0)) found ∙ ap (λ n. Some (entry_key key.0 n)) number))
    where
      not_above : (k n : ℕ) → ComesFirst key k n → key.0 ≤ k
      not_above k n (inl l) = omega (arith, l)
      not_above k n (inr e) = (let same = e.0 in omega (arith, same))

      not_before : (n : ℕ) → n ≤ key.1 - 1 → ComesFirst key key.0 n → ⊥
      not_before n last (inl l) = omega (arith, l)
      not_before n last (inr e) = (let high = e.1 in let low = (r.in_range key.0 key.1 Torn h.0).1 in omega (arith, high, last, low))
