-- What holds of replicas, their join, and sound beginnings.
use Rattle.std.specs.Prelude.{ℕ, suc, false, ◌≡◌, ◌<◌, ◌≤◌, List, [], ◌∷◌, ◌++◌, ◌+◌, length, slice_get, Some, ⊤, ◌↔◌, refl, ◌==◌, None, zero, ◌⊎◌, Bool, true, map, filter, flat_map, slice_index_or}
use Rattle.std.specs.List.{Contains, AllByRecursion}
use Rattle.pfair_lattice.specs.declared.join_map.Flat.TheVariants.{One, Torn}
use Rattle.pfair_lattice.specs.Held.{Held, held_join, join_idem}
use Rattle.pfair_entry.specs.Entry.{Logged, IsEntry, entry_eq, entry_exact}
use Rattle.pfair_replica.specs.Replica.{Replica, IsReplica, Below, join, with_entry, Untorn, Agree, sound_beginning, mark, frontier, said, has_torn, entry_key, torn_keys, fallen_keys, taken, absorbed, only, numbers_below}
use Rattle.std.proofs.Common.{◌∙◌, ap, sym, subst, ⊎_elim, cond, arith, inl, inr}
use Rattle.std.proofs.lemmas.Bool.{eq-eqb, ne_eqb, cases_eq, true≢false}

-- Below is an order, and the join is the least that is above both; so it is commutative, associative and idempotent.
pub record IsLeastJoin : Type 0 where
  pub itself : (x : Replica) → Below x x
  pub trans : (x y z : Replica) → Below x y → Below y z → Below x z
  pub antisym : (x y : Replica) → Below x y → Below y x → x.at ≡ y.at
  pub first : (x y : Replica) → Below x (join x y)
  pub second : (x y : Replica) → Below y (join x y)
  pub least : (x y z : Replica) → Below x z → Below y z → Below (join x y) z
  pub comm : (x y : Replica) → (join x y).at ≡ (join y x).at
  pub assoc : (x y z : Replica) → join (join x y) z ≡ join x (join y z)
  pub idem : (x : Replica) → join x x ≡ x

-- entries that a row holds from number n on, none of whose floors is lower than the one before
abbrev pub IsRun : (ℕ → Held Logged) → (n floor : ℕ) → List Logged → Type 0
IsRun row n floor [] = ⊤
IsRun row n floor (e ∷ es) = (row n ≡ Some (One e)) × (floor ≤ e.floor) × IsRun row (suc n) e.floor es

-- The sound beginning is such a run from number 1 on, and each such run begins it.
abbrev pub IsLongestRun : Type 0
IsLongestRun =
    (x : Replica) → IsReplica x → (k : ℕ)
    → IsRun (x.at k) 1 0 (sound_beginning x k) × ((es : List Logged) → IsRun (x.at k) 1 0 es → (rest : List Logged) × (es ++ rest ≡ sound_beginning x k))

-- What a sound beginning has at a place is held at the number of that place, counted from 1, and it has no more entries than the logs can have.
pub record IsReadByNumber : Type 0 where
  pub entry : (x : Replica) (k i : ℕ) (e : Logged) → slice_get (sound_beginning x k) i ≡ Some e → x.at k (i + 1) ≡ Some (One e)
  pub within : (x : Replica) (k : ℕ) → length (sound_beginning x k) ≤ x.capacity

-- A replica that holds more, with nothing torn, has sound beginnings that go on those of the other.
abbrev pub BeginningsGrow : Type 0
BeginningsGrow = (x y : Replica) → IsReplica y → Below x y → Untorn y → (k : ℕ) → (rest : List Logged) × (sound_beginning x k ++ rest ≡ sound_beginning y k)

-- The frontier is no greater than any mark, and it is one of them.
pub record IsLeastMark : Type 0 where
  pub below : (x : Replica) (k : ℕ) → k < x.processors → frontier x ≤ mark x k
  pub reached : (x : Replica) → 1 ≤ x.processors → (k : ℕ) × (k < x.processors) × (frontier x ≡ mark x k)

-- The contents after an entry was joined in, which changes nothing if the entry was held already, and after a merge.
pub record IsHeldAfter : Type 0 where
  pub same : (x : Replica) (k n : ℕ) (e : Logged) → (with_entry x k n e).at k n ≡ held_join entry_eq (x.at k n) (Some (One e))
  pub other : (x : Replica) (k n : ℕ) (e : Logged) (k' n' : ℕ) → ((k' ≡ k) × (n' ≡ n) → ⊥) → (with_entry x k n e).at k' n' ≡ x.at k' n'
  pub known : (x : Replica) (k n : ℕ) (e : Logged) → x.at k n ≡ Some (One e) → with_entry x k n e ≡ x
  pub joined : (x y : Replica) (k n : ℕ) → (join x y).at k n ≡ held_join entry_eq (x.at k n) (y.at k n)

-- Replicas agree exactly if neither has anything torn and no key has two entries.
abbrev pub IsAgreement : Type 0
IsAgreement =
    (x y : Replica)
    → Agree x y ↔ (Untorn x × Untorn y × ((k n : ℕ) (e f : Logged) → x.at k n ≡ Some (One e) → y.at k n ≡ Some (One f) → e ≡ f))

-- A replica that is below one with nothing torn agrees with it.
abbrev pub BelowAgrees : Type 0
BelowAgrees = (x y : Replica) → Below x y → Untorn y → Agree x y

-- Replicas of as many processors that agree say the same at a slot below both frontiers.
abbrev pub SayTheSame : Type 0
SayTheSame =
    (x y : Replica) → IsReplica x → IsReplica y → x.processors ≡ y.processors → Agree x y
    → (slot : ℕ) → slot < frontier x → slot < frontier y → said x slot ≡ said y slot

-- A replica that holds more, with nothing torn, has no lower mark, and no lower frontier if it has as many processors.
pub record MarksNeverFall : Type 0 where
  pub mark : (x y : Replica) → IsReplica y → Below x y → Untorn y → (k : ℕ) → mark x k ≤ mark y k
  pub frontier : (x y : Replica) → IsReplica y → x.processors ≡ y.processors → Below x y → Untorn y → frontier x ≤ frontier y

-- No key is listed as torn exactly if the test finds none, and exactly if nothing is torn.
pub record IsTornTest : Type 0 where
  pub listed : (x : Replica) → (torn_keys x ≡ []) ↔ (has_torn x ≡ false)
  pub held : (x : Replica) → IsReplica x → ((has_torn x ≡ false) ↔ Untorn x)

-- The torn keys are those of which the content is torn; and the fallen ones are those of one entry, right after a sound beginning, whose floor is lower than the mark.
pub record IsListed : Type 0 where
  pub torn : (x : Replica) → IsReplica x → (k n : ℕ) → (Contains (torn_keys x) (entry_key k n) ↔ (x.at k n ≡ Some Torn))
  pub fallen : (x : Replica) → IsReplica x → (k n : ℕ)
      → (Contains (fallen_keys x) (entry_key k n) ↔ ((n ≡ length (sound_beginning x k) + 1) × ((e : Logged) × (x.at k n ≡ Some (One e)) × (e.floor < mark x k))))

-- What is offered takes nothing away, changes no shape, and leaves a replica a replica.
pub record OfferedStays : Type 0 where
  pub taken_above : (x : Replica) (k n : ℕ) (e : Logged) → Below x (taken x k n e)
  pub taken_shape : (x : Replica) (k n : ℕ) (e : Logged) → ((taken x k n e).processors ≡ x.processors) × ((taken x k n e).capacity ≡ x.capacity)
  pub taken_replica : (x : Replica) (k n : ℕ) (e : Logged) → IsReplica x → IsEntry e → IsReplica (taken x k n e)
  pub absorbed_above : (x y : Replica) → Below x (absorbed x y)
  pub absorbed_shape : (x y : Replica) → ((absorbed x y).processors ≡ x.processors) × ((absorbed x y).capacity ≡ x.capacity)
  pub absorbed_replica : (x y : Replica) → IsReplica x → IsReplica y → IsReplica (absorbed x y)

-- The contents after an entry was joined in, and after a merge.

pub join_none : (a : Held Logged) → held_join entry_eq a None ≡ a
join_none None = refl
join_none (Some x) = refl

pub only_here : (k n : ℕ) (e : Logged) → only k n e k n ≡ Some (One e)
only_here k n e = rw (eq-eqb k k refl, eq-eqb n n refl) refl

only_there : (k n : ℕ) (e : Logged) (k' n' : ℕ) → ((k' ≡ k) × (n' ≡ n) → ⊥) → only k n e k' n' ≡ None
only_there k n e k' n' apart = ⊎_elim
    (λ p. ap (λ b. cond b (cond (n' == n) (Some (One e)) None) None) (eq-eqb k' k p) ∙ ap (λ b. cond b (Some (One e)) None) (ne_eqb n' n (λ q. apart (p, q))))
    (λ ne. ap (λ b. cond b (cond (n' == n) (Some (One e)) None) None) (ne_eqb k' k ne))
    (cases_eq k' k)

same_here : (x : Replica) (k n : ℕ) (e : Logged) → (with_entry x k n e).at k n ≡ held_join entry_eq (x.at k n) (Some (One e))
same_here x k n e = ap (held_join entry_eq (x.at k n)) (only_here k n e)

other_there : (x : Replica) (k n : ℕ) (e : Logged) (k' n' : ℕ) → ((k' ≡ k) × (n' ≡ n) → ⊥) → (with_entry x k n e).at k' n' ≡ x.at k' n'
other_there x k n e k' n' apart = ap (held_join entry_eq (x.at k' n')) (only_there k n e k' n' apart) ∙ join_none (x.at k' n')

known_stays : (x : Replica) (k n : ℕ) (e : Logged) → x.at k n ≡ Some (One e) → (k' n' : ℕ) → (with_entry x k n e).at k' n' ≡ x.at k' n'
known_stays x k n e known k' n' = ⊎_elim
    (λ p. ⊎_elim
    (λ q. subst (λ (j : ℕ). (with_entry x k n e).at j n' ≡ x.at j n') (sym p) (subst (λ (m : ℕ). (with_entry x k n e).at k m ≡ x.at k m) (sym q)
    (same_here x k n e ∙ ap (λ a. held_join entry_eq a (Some (One e))) known ∙ join_idem entry_eq entry_exact (Some (One e)) ∙ sym known)))
    (λ ne. other_there x k n e k' n' (λ h. ne h.1))
    (cases_eq n' n))
    (λ ne. other_there x k n e k' n' (λ h. ne h.0))
    (cases_eq k' k)

pub held_after : IsHeldAfter
held_after = record {
  same = same_here;
  other = other_there;
  known = λ x k n e known i. record x { at = λ k' n'. known_stays x k n e known k' n' i };
  joined = λ x y k n. refl;
}

-- What is among a list, and what is among the lists made of it.

-- x is one of xs
abbrev pub Among : {A : Type 0} → List A → A → Type 0
Among [] x = ⊥
Among (y ∷ ys) x = (x ≡ y) ⊎ Among ys x

module _ {A : Type 0} where
  pub among_left : (xs ys : List A) (x : A) → Among xs x → Among (xs ++ ys) x
  among_left [] ys x h = absurd h
  among_left (y ∷ xs) ys x (inl e) = inl e
  among_left (y ∷ xs) ys x (inr h) = inr (among_left xs ys x h)

  pub among_right : (xs ys : List A) (x : A) → Among ys x → Among (xs ++ ys) x
  among_right [] ys x h = h
  among_right (y ∷ xs) ys x h = inr (among_right xs ys x h)

  pub among_append : (xs ys : List A) (x : A) → Among (xs ++ ys) x → Among xs x ⊎ Among ys x
  among_append [] ys x h = inr h
  among_append (y ∷ xs) ys x (inl e) = inl (inl e)
  among_append (y ∷ xs) ys x (inr h) = ⊎_elim (λ l. inl (inr l)) (λ r. inr r) (among_append xs ys x h)

  -- what is at a place
  pub among_at : (xs : List A) (k : ℕ) (d : A) → k < length xs → Among xs (slice_index_or xs k d)
  among_at [] k d l = absurd (omega (arith, l))
  among_at (y ∷ ys) zero d l = inl refl
  among_at (y ∷ ys) (suc k) d l = inr (among_at ys k d (omega (arith, l)))

  pub among_contains : (xs : List A) (x : A) → Among xs x → Contains xs x
  among_contains [] x h = absurd h
  among_contains (y ∷ ys) x (inl e) = (zero, omega arith, sym e)
  among_contains (y ∷ ys) x (inr h) = (let t = among_contains ys x h in (suc t.0, (let l = t.1 in omega (arith, l)), t.2))

  pub contains_among : (xs : List A) (x : A) → Contains xs x → Among xs x
  contains_among xs x (k, l, e) = subst (Among xs) e (among_at xs k x l)

  -- what holds of each
  pub all_among : (P : A → Type 0) (xs : List A) → ((x : A) → Among xs x → P x) → AllByRecursion P xs
  all_among P [] f = tt
  all_among P (x ∷ xs) f = (f x (inl refl), all_among P xs (λ y h. f y (inr h)))

  pub among_all : (P : A → Type 0) (xs : List A) → AllByRecursion P xs → (x : A) → Among xs x → P x
  among_all P [] all x h = absurd h
  among_all P (y ∷ ys) all x (inl e) = subst P (sym e) all.0
  among_all P (y ∷ ys) all x (inr h) = among_all P ys all.1 x h

  -- what passes a test
  pub among_filter : (p : A → Bool) (xs : List A) (x : A) → Among (filter p xs) x → Among xs x × (p x ≡ true)
  among_filter p [] x h = absurd h
  among_filter p (y ∷ ys) x h = by (p y) refl (among_filter p ys x) h
    where
      by : (b : Bool) → p y ≡ b → (Among (filter p ys) x → Among ys x × (p x ≡ true)) → Among (cond b (y ∷ filter p ys) (filter p ys)) x → Among (y ∷ ys) x × (p x ≡ true)
      by true e more (inl i) = (inl i, ap p i ∙ e)
      by true e more (inr k) = let t = more k in (inr t.0, t.1)
      by false e more k = let t = more k in (inr t.0, t.1)

  pub filter_among : (p : A → Bool) (xs : List A) (x : A) → Among xs x → p x ≡ true → Among (filter p xs) x
  filter_among p [] x h e = absurd h
  filter_among p (y ∷ ys) x h e = by (p y) refl h (λ i. filter_among p ys x i e)
    where
      by : (b : Bool) → p y ≡ b → Among (y ∷ ys) x → (Among ys x → Among (filter p ys) x) → Among (cond b (y ∷ filter p ys) (filter p ys)) x
      by true q (inl i) more = inl i
      by true q (inr i) more = inr (more i)
      by false q (inl i) more = absurd (true≢false (sym e ∙ ap p i ∙ q))
      by false q (inr i) more = more i

module _ {A B : Type 0} where
  -- what is made of each
  pub among_map : (f : A → B) (xs : List A) (y : B) → Among (map f xs) y → (x : A) × Among xs x × (y ≡ f x)
  among_map f [] y h = absurd h
  among_map f (x ∷ xs) y (inl e) = (x, inl refl, e)
  among_map f (x ∷ xs) y (inr h) = let t = among_map f xs y h in (t.0, inr t.1, t.2)

  pub map_among : (f : A → B) (xs : List A) (x : A) → Among xs x → Among (map f xs) (f x)
  map_among f [] x h = absurd h
  map_among f (y ∷ ys) x (inl e) = inl (ap f e)
  map_among f (y ∷ ys) x (inr h) = inr (map_among f ys x h)

  pub among_flat : (f : A → List B) (xs : List A) (y : B) → Among (flat_map f xs) y → (x : A) × Among xs x × Among (f x) y
  among_flat f [] y h = absurd h
  among_flat f (x ∷ xs) y h = ⊎_elim (λ l. (x, inl refl, l)) (λ r. (let t = among_flat f xs y r in (t.0, inr t.1, t.2))) (among_append (f x) (flat_map f xs) y h)

  pub flat_among : (f : A → List B) (xs : List A) (y : B) (x : A) → Among xs x → Among (f x) y → Among (flat_map f xs) y
  flat_among f [] y x h i = absurd h
  flat_among f (z ∷ xs) y x (inl e) i = among_left (f z) (flat_map f xs) y (subst (λ (q : A). Among (f q) y) e i)
  flat_among f (z ∷ xs) y x (inr h) i = among_right (f z) (flat_map f xs) y (flat_among f xs y x h i)

  -- functions that agree on them
  pub map_same : (f g : A → B) (xs : List A) → ((x : A) → Among xs x → f x ≡ g x) → map f xs ≡ map g xs
  map_same f g [] h = refl
  map_same f g (x ∷ xs) h = λ i. h x (inl refl) i ∷ map_same f g xs (λ y j. h y (inr j)) i

  pub flat_same : (f g : A → List B) (xs : List A) → ((x : A) → Among xs x → f x ≡ g x) → flat_map f xs ≡ flat_map g xs
  flat_same f g [] h = refl
  flat_same f g (x ∷ xs) h = λ i. h x (inl refl) i ++ flat_same f g xs (λ y j. h y (inr j)) i

-- the numbers below m
pub below_among : (m k : ℕ) → k < m → Among (numbers_below m) k
below_among zero k h = absurd (omega (arith, h))
below_among (suc m) k h = ⊎_elim
    (λ same. among_right (numbers_below m) (m ∷ []) k (inl same))
    (λ ne. among_left (numbers_below m) (m ∷ []) k (below_among m k (omega (arith, h, ne))))
    (cases_eq k m)

pub among_below : (m k : ℕ) → Among (numbers_below m) k → k < m
among_below zero k h = absurd h
among_below (suc m) k h = ⊎_elim
    (λ l. (let low = among_below m k l in omega (arith, low)))
    (λ r. ⊎_elim (λ same. omega (arith, same)) (λ none. absurd none) r)
    (among_append (numbers_below m) (m ∷ []) k h)
