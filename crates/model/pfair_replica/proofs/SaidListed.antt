-- What the lists of what is said contain, and in which order the lists stand.
use Rattle.pfair_replica.proofs.Common.{true≢false, ltb-true, lt-ltb, One, Torn, Held, Logged, EntryKey, Replica, IsReplica, sound_beginning, mark, is_torn, entry_key, numbers_below, numbers_to, torn_in, torn_keys, fallen_at, fallen_in, fallen_keys, IsListed, Among, among_contains, contains_among, among_filter, filter_among, among_map, map_among, among_flat, flat_among, below_among, ℕ, zero, suc, ◌+◌, ◌<◌, ◌≤◌, ◌≡◌, refl, sym, ap, subst, arith, inl, true, cond, [], ◌∷◌, length, Some, filter, Contains, eqb-true, eq-eqb, map-append, said_by, said_in, said, among_left, among_right, among_append, among_at, among_below, ◌∙◌, inr, ⊎_elim, Bool, List, ◌++◌, map, flat_map, slice_get, Option, Announcement, Said, append-nil, drop_all, drop_more, slice_get_within, get_or_from_slice_get, said_behind, None, append_assoc, ◌≢◌, IsSome, get_or, AllPairs, drop, IsSaidAt, ComesBefore, key_of, IsSaid, held_after}
use Rattle.pfair_replica.proofs.Marks.{least_join, agreement, below_agree, longest_run, read_by_number, beginnings_grow, least_mark, mark_le, frontier_le, same_said}
use Rattle.pfair_replica.proofs.Merging.{known_by_held, offered_stays}
use Rattle.pfair_replica.proofs.TornKeys.{flat_more, no_key_no_torn, untorn_by_test, test_by_untorn}

-- What the lists of torn and of fallen keys contain.

-- ---- torn keys

torn_true : (c : Held Logged) → is_torn c ≡ true → c ≡ Some Torn
torn_true c e = grind (arith, true≢false)

number_to : (m n : ℕ) → 1 ≤ n → n ≤ m → Among (numbers_to m) n
number_to m zero low high = absurd (omega (arith, low))
number_to m (suc b) low high = map_among suc (numbers_below m) b (below_among m b (omega (arith, high)))

module _ (x : Replica) where
  torn_from : (k n : ℕ) → Contains (torn_keys x) (entry_key k n) → x.at k n ≡ Some Torn
  torn_from k n h =
      let row = among_flat (torn_in x) (numbers_below x.processors) (entry_key k n) (contains_among (torn_keys x) (entry_key k n) h) in
      grind (arith, among_map, torn_true, among_filter)

  torn_to_list : IsReplica x → (k n : ℕ) → x.at k n ≡ Some Torn → Contains (torn_keys x) (entry_key k n)
  torn_to_list r k n torn =
      let range = r.in_range k n Torn torn in
      let low = range.1 in
      among_contains (torn_keys x) (entry_key k n)
      (flat_among (torn_in x) (numbers_below x.processors) (entry_key k n) k (below_among x.processors k range.0)
      (map_among (entry_key k) (filter (λ i. is_torn (x.at k i)) (numbers_to x.capacity)) n
      (filter_among (λ i. is_torn (x.at k i)) (numbers_to x.capacity) n (number_to x.capacity n (omega (arith, low)) range.2) (ap is_torn torn))))

-- ---- fallen keys

pub fallen_one : (j i mark : ℕ) (c : Held Logged) (v : EntryKey) → Among (fallen_at j i mark c) v → (v ≡ entry_key j i) × ((e : Logged) × (c ≡ Some (One e)) × (e.floor < mark))
fallen_one j i mark c v h = grind (arith, ltb-true)

fallen_here : (j i mark : ℕ) (e : Logged) → e.floor < mark → Among (fallen_at j i mark (Some (One e))) (entry_key j i)
fallen_here j i mark e lower = subst (λ b. Among (cond b (entry_key j i ∷ []) []) (entry_key j i)) (sym (lt-ltb e.floor mark lower)) (inl refl)

module _ (x : Replica) where
  fallen_from : (k n : ℕ) → Contains (fallen_keys x) (entry_key k n) → (n ≡ length (sound_beginning x k) + 1) × ((e : Logged) × (x.at k n ≡ Some (One e)) × (e.floor < mark x k))
  fallen_from k n h =
      let row = among_flat (fallen_in x) (numbers_below x.processors) (entry_key k n) (contains_among (fallen_keys x) (entry_key k n) h) in
      grind (arith, fallen_one)

  fallen_to_list : IsReplica x → (k n : ℕ) → (n ≡ length (sound_beginning x k) + 1) × ((e : Logged) × (x.at k n ≡ Some (One e)) × (e.floor < mark x k)) → Contains (fallen_keys x) (entry_key k n)
  fallen_to_list r k n h =
      let at = h.1 in
      among_contains (fallen_keys x) (entry_key k n)
      (flat_among (fallen_in x) (numbers_below x.processors) (entry_key k n) k (below_among x.processors k (r.in_range k n (One at.0) at.1).0)
      (grind (arith, fallen_here)))

pub listed : IsListed
listed = record {
  torn = λ x r k n. (torn_from x k n, torn_to_list x r k n);
  fallen = λ x r k n. (fallen_from x k n, fallen_to_list x r k n);
}

-- ---- what one processor says

said_one : (t k n : ℕ) (o : Option (ℕ × Announcement)) (s : Said) → Among (said_by t k n o) s → (s ≡ record { proc = k; number = n; announcement = s.announcement }) × (o ≡ Some (t, s.announcement))
said_one t k n o s h = grind (arith, eqb-true)

said_here : (t k n : ℕ) (o : Option (ℕ × Announcement)) (a : Announcement) → o ≡ Some (t, a) → Among (said_by t k n o) (record { proc = k; number = n; announcement = a })
said_here t k n o a e = grind (arith, eq-eqb)

said_from : (t k n : ℕ) (es : List Logged) (s : Said) → Among (said_in t k n es) s → (s.proc ≡ k) × ((i : ℕ) × (e : Logged) × (s.number ≡ n + i) × (slice_get es i ≡ Some e) × (e.said ≡ Some (t, s.announcement)))
said_from t k n [] s h = absurd h
said_from t k n (e ∷ es) s h = ⊎_elim
    (λ l. (let one = said_one t k n e.said s l in
    (ap (λ (a : Said). a.proc) one.0, (0, e, ap (λ (a : Said). a.number) one.0 ∙ (let same : n ≡ n + 0 = omega arith in same), refl, one.1))))
    (λ r. (let more = said_from t k (suc n) es s r in let at = more.1 in
    (more.0, (suc at.0, at.1, (let number = at.2 in omega (arith, number)), at.3, at.4))))
    (among_append (said_by t k n e.said) (said_in t k (suc n) es) s h)

pub said_to : (t k n : ℕ) (es : List Logged) (i : ℕ) (e : Logged) (a : Announcement) → slice_get es i ≡ Some e → e.said ≡ Some (t, a) → Among (said_in t k n es) (record { proc = k; number = n + i; announcement = a })
said_to t k n [] i e a at says = absurd (cc)
said_to t k n (d ∷ es) zero e a at says = grind (arith, among_left, said_here)
said_to t k n (d ∷ es) (suc i) e a at says = grind (arith, among_right, said_to t k (suc n) es i e a at says)

module _ (x : Replica) (t : ℕ) where
  members_from : (s : Said) → Contains (said x t) s → IsSaidAt x t s
  members_from s h =
      let row = among_flat (λ k. said_in t k 1 (sound_beginning x k)) (numbers_below x.processors) s (contains_among (said x t) s h) in
      grind (arith, said_from, among_below)

  members_to : (s : Said) → IsSaidAt x t s → Contains (said x t) s
  members_to s (low, (i, e, number, at, says)) =
      among_contains (said x t) s (flat_among (λ k. said_in t k 1 (sound_beginning x k)) (numbers_below x.processors) s s.proc (below_among x.processors s.proc low)
      (subst (λ (m : ℕ). Among (said_in t s.proc 1 (sound_beginning x s.proc)) (record { proc = s.proc; number = m; announcement = s.announcement }))
      (let same : 1 + i ≡ s.number = omega (arith, number) in same)
      (said_to t s.proc 1 (sound_beginning x s.proc) i e s.announcement at says)))

-- ---- the order

module _ {A : Type 0} (key : A → EntryKey) where
  abbrev AllAfter : A → List A → Type 0
  AllAfter a xs = (b : A) → Among xs b → ComesBefore (key a) (key b)

  abbrev InOrder : List A → Type 0
  InOrder [] = Unit {0}
  InOrder (x ∷ xs) = AllAfter x xs × InOrder xs

  joined : (xs ys : List A) → InOrder xs → InOrder ys → ((a b : A) → Among xs a → Among ys b → ComesBefore (key a) (key b)) → InOrder (xs ++ ys)
  joined [] ys p q h = q
  joined (x ∷ xs) ys p q h = grind (arith, among_append, joined xs ys p.1 q (λ a b m n. h a b (inr m) n))

  pairs : (xs : List A) → InOrder xs → AllPairs (λ a b. ComesBefore (key a) (key b)) xs
  pairs [] p i j d earlier within = absurd (omega arith)
  pairs (x ∷ xs) p zero zero d earlier within = absurd (omega arith)
  pairs (x ∷ xs) p zero (suc j) d earlier within = p.0 (get_or xs j d) (among_at xs j d (omega (arith, within)))
  pairs (x ∷ xs) p (suc i) zero d earlier within = absurd (omega arith)
  pairs (x ∷ xs) p (suc i) (suc j) d earlier within = pairs xs p.1 i j d (omega (arith, earlier)) (omega (arith, within))

  module _ (f : ℕ → List A) (own : (k : ℕ) (a : A) → Among (f k) a → (key a).0 ≡ k) (each : (k : ℕ) → InOrder (f k)) where
    of_each : (m : ℕ) → InOrder (flat_map f (numbers_below m))
    of_each zero = tt
    of_each (suc m) = grind (arith, flat_more, joined, among_flat, among_below, of_each m)

said_order : (t k n : ℕ) (es : List Logged) → InOrder key_of (said_in t k n es)
said_order t k n [] = tt
said_order t k n (e ∷ es) = grind (arith, said_one, said_from, said_order t k (suc n) es)

-- ---- the order of keys

numbers_rise : (k m : ℕ) → InOrder (entry_key k) (numbers_to m)
numbers_rise k zero = tt
numbers_rise k (suc m) = grind (arith, map-append, joined, among_map, among_below, numbers_rise k m)

kept_order : (k : ℕ) (p : ℕ → Bool) (xs : List ℕ) → InOrder (entry_key k) xs → InOrder (λ e. e) (map (entry_key k) (filter p xs))
kept_order k p [] h = tt
kept_order k p (x ∷ xs) h = grind (arith, among_map, among_filter, kept_order k p xs h.1)

torn_own : (x : Replica) (k : ℕ) (e : EntryKey) → Among (torn_in x k) e → e.0 ≡ k
torn_own x k e h = ap (λ (e : EntryKey). e.0) (among_map (entry_key k) (filter (λ n. is_torn (x.at k n)) (numbers_to x.capacity)) e h).2

fallen_own : (x : Replica) (k : ℕ) (e : EntryKey) → Among (fallen_in x k) e → e.0 ≡ k
fallen_own x k e h = ap (λ (e : EntryKey). e.0) (fallen_one k (length (sound_beginning x k) + 1) (mark x k) (x.at k (length (sound_beginning x k) + 1)) e h).0

fallen_alone : (k n mark : ℕ) (c : Held Logged) → InOrder (λ e. e) (fallen_at k n mark c)
fallen_alone k n mark c = grind arith

pub is_said : IsSaid
is_said = record {
  members = λ x t s. (members_from x t s, members_to x t s);
  order = λ x t. pairs key_of (said x t) (of_each key_of (λ k. said_in t k 1 (sound_beginning x k)) (λ k a h. (said_from t k 1 (sound_beginning x k) a h).0) (λ k. said_order t k 1 (sound_beginning x k)) x.processors);
  torn_order = λ x. pairs (λ e. e) (torn_keys x) (of_each (λ e. e) (torn_in x) (torn_own x) (λ k. kept_order k (λ n. is_torn (x.at k n)) (numbers_to x.capacity) (numbers_rise k x.capacity)) x.processors);
  fallen_order = λ x. pairs (λ e. e) (fallen_keys x) (of_each (λ e. e) (fallen_in x) (fallen_own x)
      (λ k. fallen_alone k (length (sound_beginning x k) + 1) (mark x k) (x.at k (length (sound_beginning x k) + 1))) x.processors);
}

-- What is said in a sound beginning behind some of its entries.

module _ (x : Replica) (k place : ℕ) where
  -- the next entry says the first of it
  behind_next : (t : ℕ) (e : Logged) → slice_get (sound_beginning x k) place ≡ Some e → said_behind x t k place ≡ said_by t k (place + 1) e.said ++ said_behind x t k (place + 1)
  behind_next t e is =
      let es = sound_beginning x k in
      let next : suc (place + 1) ≡ place + 1 + 1 = omega arith in
      ap (said_in t k (place + 1)) (drop_more es place e (slice_get_within es place e is))
      ∙ (λ i. said_by t k (place + 1) (get_or_from_slice_get es place e e is i).said ++ said_in t k (next i) (drop (place + 1) es))

  -- so if that is noted the rest is what is behind it
  pub noted_next : (t : ℕ) (e : Logged) (all now then_now : List Said) → slice_get (sound_beginning x k) place ≡ Some e → then_now ≡ now ++ said_by t k (place + 1) e.said → now ++ said_behind x t k place ≡ all → then_now ++ said_behind x t k (place + 1) ≡ all
  noted_next t e all now then_now is noted so_far = grind (arith, append_assoc, behind_next)

  -- behind the last entry nothing is left
  pub all_noted : (t : ℕ) (came all : List Said) → length (sound_beginning x k) ≤ place → came ++ said_behind x t k place ≡ all → came ≡ all
  all_noted t came all past so_far = grind (arith, drop_all, append-nil)

still_said : (k n from place : ℕ) (es : List Logged) (e : Logged) (s : ℕ × Announcement) → from ≤ place → slice_get es place ≡ Some e → e.said ≡ Some s → said_in s.0 k n (drop from es) ≢ []
still_said k n zero place es e s le is says none = subst (λ (l : List Said). Among l (record { proc = k; number = n + place; announcement = s.1 })) none (said_to s.0 k n es place e s.1 is says)
still_said k n (suc from) place [] e s le is says none = cc
still_said k n (suc from) zero (d ∷ es) e s le is says none = omega arith
still_said k n (suc from) (suc place) (d ∷ es) e s le is says none = still_said k n from place es e s (omega arith) is says none

-- an entry behind them that says something
pub some_behind : (x : Replica) (k from place : ℕ) (e : Logged) → from ≤ place → slice_get (sound_beginning x k) place ≡ Some e → IsSome e.said → (t : ℕ) × (said_behind x t k from ≢ [])
some_behind x k from place e le is some = by e.said refl some
  where
    by : (o : Option (ℕ × Announcement)) → e.said ≡ o → IsSome o → (t : ℕ) × (said_behind x t k from ≢ [])
    by None says none = absurd (cc)
    by (Some s) says some = (s.0, still_said k (from + 1) from place (sound_beginning x k) e s le is says)

-- the laws of replicas
pub ruleset laws = (least_join, known_by_held, held_after, offered_stays, agreement, below_agree, longest_run, read_by_number, beginnings_grow, least_mark, mark_le, frontier_le, same_said, no_key_no_torn, untorn_by_test, test_by_untorn, listed, is_said)
