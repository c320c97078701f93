-- Rows of entries: written, joined, and compared.
use Rattle.pfair_replica.proofs.Common.{nat_cmp, option_and_then, eqb-true, get, MapJoins, MapPartly, Held, held_join, HeldBelow, Flat, One, joins_held, below_itself, join_first, join_assoc, join_idem, Logged, IsEntry, entry_eq, entry_exact, Contents, Replica, IsReplica, only, Row, held_in, IsFull, IsReplicaRows, ◌≡◌, inr, ⊎_elim, arith, ◌⊎◌, ◌<◌, ◌≤◌, ℕ, Option, Some, List, Result, OnErr, FlatJoins, join_none, ltb-true, leb-true, and_parts, Below, contents_join, join, with_entry, OfferedStays, refl, subst, sym, Bool, true, false, cond, ◌==◌, common_steps, eq_by_cmp, cases_Bool, cases_eq, eq-eqb, ne_eqb, none-some, IsOrdered, ◌∙◌, ap, ◌≢◌, None, [], ◌∷◌, IsSome, is_at, nat_cmp_total, exact_unsigned, cases_lt, IsKnownByHeld, IsSomeAnd, IsShape, AreEmptyRows, is_eq, MapBelow, MapOutgrows, none_below, below_held, held_below, inl, ◌↔◌, length, OnOk, ◌&&◌, nat_lt, nat_le, if◌then◌else◌, IsTrue, nat_eq, IsPartlyMerged, has_key, has_shape, taken, absorbed, Equal-is, eq_by_cmp_equiv, tied_itself, same_entries, FlatBelow}
use Rattle.pfair_lattice.specs.Order.{OptionJoins, OptionPartly, OptionOutgrows}
use Rattle.std.specs.Map.{set_value}
use Rattle.std.proofs.lemmas.Map.{lookup-set_value, keys-set_value}
use Rattle.std.proofs.lemmas.Map.Steps.{set_value_same}
use Rattle.std.specs.List.Sorted.{IsStrictlySortedBy}
use Rattle.std.proofs.lemmas.Map.Entries.{lookup_head}

-- Rows joined, and what stays true of what they hold.

abbrev in_row : Option Row → ℕ → Held Logged
in_row r n = option_and_then (λ row. get nat_cmp row n) r

-- ---- what joined rows hold

row_joined : (a b c : Option Row) (n : ℕ) → OptionJoins (MapJoins nat_cmp FlatJoins) a b c → in_row c n ≡ held_join entry_eq (in_row a n) (in_row b n)
row_joined a b c n j = grind (arith, join_none, joins_held, entry_exact)

pub joined_held : (a b c : List (ℕ × Row)) → MapJoins nat_cmp (MapJoins nat_cmp FlatJoins) a b c → (k n : ℕ) → held_in c k n ≡ held_join entry_eq (held_in a k n) (held_in b k n)
joined_held a b c j k n = row_joined (get nat_cmp a k) (get nat_cmp b k) (get nat_cmp c k) n (j.each k)

-- a content as it was, or joined
abbrev pub Between : Held Logged → Held Logged → Held Logged → Type 0
Between a b c = (c ≡ a) ⊎ (c ≡ held_join entry_eq a b)

row_between : (a b c : Option Row) (n : ℕ) → OptionPartly (MapJoins nat_cmp FlatJoins) (MapPartly nat_cmp FlatJoins (λ _ _ _. ⊥)) a b c → Between (in_row a n) (in_row b n) (in_row c n)
row_between a b c n h = grind (arith, row_joined, joins_held, entry_exact)

abbrev pub PartlyJoins : List (ℕ × Row) → List (ℕ × Row) → List (ℕ × Row) → Type 0
PartlyJoins = MapPartly nat_cmp (MapJoins nat_cmp FlatJoins) (MapPartly nat_cmp FlatJoins (λ _ _ _. ⊥))

pub between_held : (a b c : List (ℕ × Row)) → PartlyJoins a b c → (k n : ℕ) → Between (held_in a k n) (held_in b k n) (held_in c k n)
between_held a b c j k n = row_between (get nat_cmp a k) (get nat_cmp b k) (get nat_cmp c k) n (j.each k)

-- ---- all rows are still there

pub full_joined : (m : ℕ) (a b c : List (ℕ × Row)) → IsFull m a → IsFull m b → MapJoins nat_cmp (MapJoins nat_cmp FlatJoins) a b c → IsFull m c
full_joined m a b c f g j = grind arith

pub full_between : (m : ℕ) (a b c : List (ℕ × Row)) → IsFull m a → IsFull m b → PartlyJoins a b c → IsFull m c
full_between m a b c f g j = grind arith

-- ---- keys stay in range, and entries stamped

-- what may be held at (k, n)
pub record MayHold (processors capacity k n : ℕ) (h : Held Logged) : Type 0 where
  pub in_range : (c : Flat Logged) → h ≡ Some c → (k < processors) × (0 < n) × (n ≤ capacity)
  pub stamped : (e : Logged) → h ≡ Some (One e) → IsEntry e

some_side : (a b : Held Logged) (c : Flat Logged) → held_join entry_eq a b ≡ Some c → ((d : Flat Logged) × (a ≡ Some d)) ⊎ ((d : Flat Logged) × (b ≡ Some d))
some_side a b c e = grind arith

pub one_side : (a b : Held Logged) (e : Logged) → held_join entry_eq a b ≡ Some (One e) → (a ≡ Some (One e)) ⊎ (b ≡ Some (One e))
one_side a b e p = grind arith

module _ (m c k n : ℕ) where
  may_join : (a b : Held Logged) → MayHold m c k n a → MayHold m c k n b → MayHold m c k n (held_join entry_eq a b)
  may_join a b p q = record {
    in_range = λ d e. ⊎_elim (λ s. p.in_range s.0 s.1) (λ s. q.in_range s.0 s.1) (some_side a b d e);
    stamped = λ x e. ⊎_elim (λ s. p.stamped x s) (λ s. q.stamped x s) (one_side a b x e);
  }

  may_between : (a b d : Held Logged) → MayHold m c k n a → MayHold m c k n b → Between a b d → MayHold m c k n d
  may_between a b d p q h = grind (arith, may_join)

may_hold : (x : Replica) → IsReplica x → (k n : ℕ) → MayHold x.processors x.capacity k n (x.at k n)
may_hold x r k n = record { in_range = r.in_range k n; stamped = r.stamped k n }

replica_held : (m c : ℕ) (at : Contents) → ((k n : ℕ) → MayHold m c k n (at k n)) → IsReplica (record { processors = m; capacity = c; at = at })
replica_held m c at h = record { in_range = λ k n. (h k n).in_range; stamped = λ k n. (h k n).stamped }

may_only : (m c p i : ℕ) (e : Logged) → IsEntry e → p < m → 0 < i → i ≤ c → (k n : ℕ) → MayHold m c k n (only p i e k n)
may_only m c p i e good row first last k n = grind (arith, eqb-true)

-- after an entry was joined in
pub replica_taken : (x : Replica) (p i : ℕ) (e : Logged) (at : Contents) → IsReplica x → IsEntry e → p < x.processors → 0 < i → i ≤ x.capacity
    → ((k n : ℕ) → at k n ≡ held_join entry_eq (x.at k n) (only p i e k n)) → IsReplica (record { processors = x.processors; capacity = x.capacity; at = at })
replica_taken x p i e at r good row first last h =
    replica_held x.processors x.capacity at (λ k n. may_between x.processors x.capacity k n (x.at k n) (only p i e k n) (at k n) (may_hold x r k n) (may_only x.processors x.capacity p i e good row first last k n) (inr (h k n)))

-- after a replica was joined in, or a part of it
pub replica_between : (m c : ℕ) (x y at : Contents) → IsReplica (record { processors = m; capacity = c; at = x }) → IsReplica (record { processors = m; capacity = c; at = y })
    → ((k n : ℕ) → Between (x k n) (y k n) (at k n)) → IsReplica (record { processors = m; capacity = c; at = at })
replica_between m c x y at r s h =
    replica_held m c at (λ k n. may_between m c k n (x k n) (y k n) (at k n) (may_hold (record { processors = m; capacity = c; at = x }) r k n) (may_hold (record { processors = m; capacity = c; at = y }) s k n) (h k n))

-- ---- what is left after want of memory

pub between_below : (a b c : Held Logged) → Between a b c → HeldBelow a c
between_below a b c h = grind (arith, below_itself, join_first, entry_exact)

pub partly_merged : (m c m' c' : ℕ) (x y z : Contents) → ((k n : ℕ) → Between (x k n) (y k n) (z k n))
    → IsPartlyMerged (record { processors = m; capacity = c; at = x }) (record { processors = m'; capacity = c'; at = y }) (record { processors = m; capacity = c; at = z })
partly_merged m c m' c' x y z h = grind (arith, between_below, below_itself, join_first, entry_exact, join_assoc, join_idem)

-- ---- the rows of a replica after a merge

same_shape : (m c m' c' : ℕ) (b : List (ℕ × Row)) → m ≡ m' → c ≡ c' → IsReplicaRows (record { processors = m'; capacity = c'; rows = b }) → IsReplicaRows (record { processors = m; capacity = c; rows = b })
same_shape m c m' c' b em ec h = grind arith

module _ (m c m' c' : ℕ) (a b z : List (ℕ × Row)) (em : m ≡ m') (ec : c ≡ c') (h : IsReplicaRows (record { processors = m; capacity = c; rows = a })) (h' : IsReplicaRows (record { processors = m'; capacity = c'; rows = b })) where
  pub between_rows : ((k n : ℕ) → Between (held_in a k n) (held_in b k n) (held_in z k n)) → IsReplica (record { processors = m; capacity = c; at = held_in z })
  between_rows = let g = same_shape m c m' c' b em ec h' in replica_between m c (held_in a) (held_in b) (held_in z) h.entries g.entries

  pub merged_rows : MapJoins nat_cmp (MapJoins nat_cmp FlatJoins) a b z → IsReplicaRows (record { processors = m; capacity = c; rows = z })
  merged_rows j =
      let g = same_shape m c m' c' b em ec h' in
      record {
        shape = h.shape;
        full = full_joined m a b z h.full g.full j;
        entries = replica_between m c (held_in a) (held_in b) (held_in z) h.entries g.entries (λ k n. inr (joined_held a b z j k n));
      }

  pub partly_rows : PartlyJoins a b z → IsReplicaRows (record { processors = m; capacity = c; rows = z })
  partly_rows j =
      let g = same_shape m c m' c' b em ec h' in
      record {
        shape = h.shape;
        full = full_between m a b z h.full g.full j;
        entries = replica_between m c (held_in a) (held_in b) (held_in z) h.entries g.entries (between_held a b z j);
      }

-- whatever the join answered, each content is as it was, or joined
pub either_held : {A E : Type 0} (r : Result A E) (a b z : List (ℕ × Row)) → OnOk r (MapJoins nat_cmp (MapJoins nat_cmp FlatJoins) a b z) → OnErr r (PartlyJoins a b z)
    → (k n : ℕ) → Between (held_in a k n) (held_in b k n) (held_in z k n)
either_held r a b z joined partly k n = grind (arith, joined_held, between_held)

pub on_err_here : {A E P : Type 0} (r : Result A E) → P → OnErr r P
on_err_here r p = grind arith

-- The contents after an entry or a replica was offered.

above : (x z : Replica) → Below x z → (b : Bool) → Below x (cond b z x)
above x z h b = grind (arith, below_itself)

shape : (x z : Replica) → z.processors ≡ x.processors → z.capacity ≡ x.capacity → (b : Bool) → ((cond b z x).processors ≡ x.processors) × ((cond b z x).capacity ≡ x.capacity)
shape x z p c b = grind arith

taken_replica : (x : Replica) (k n : ℕ) (e : Logged) → IsReplica x → IsEntry e → IsReplica (taken x k n e)
taken_replica x j m e r good = by (has_key x j m) refl
  where
    by : (b : Bool) → has_key x j m ≡ b → IsReplica (cond b (with_entry x j m e) x)
    by true p =
        (let q = and_parts (nat_lt j x.processors) (nat_lt 0 m && nat_le m x.capacity) p in
        let s = and_parts (nat_lt 0 m) (nat_le m x.capacity) q.1 in
        replica_taken x j m e (contents_join x.at (only j m e)) r good (ltb-true j x.processors q.0) (ltb-true 0 m s.0) (leb-true m x.capacity s.1) (λ k n. refl))
    by false p = r

absorbed_replica : (x y : Replica) → IsReplica x → IsReplica y → IsReplica (absorbed x y)
absorbed_replica x y r s = by (has_shape x y) refl
  where
    by : (b : Bool) → has_shape x y ≡ b → IsReplica (cond b (join x y) x)
    by true p =
        (let q = and_parts (x.processors == y.processors) (x.capacity == y.capacity) p in
        let ep = eqb-true x.processors y.processors q.0 in
        let ec = eqb-true x.capacity y.capacity q.1 in
        let other : IsReplica (record { processors = x.processors; capacity = x.capacity; at = y.at }) =
        subst (λ m. IsReplica (record { processors = m; capacity = x.capacity; at = y.at })) (sym ep) (subst (λ c. IsReplica (record { processors = y.processors; capacity = c; at = y.at })) (sym ec) s) in
        replica_between x.processors x.capacity x.at y.at (contents_join x.at y.at) r other (λ k n. inr refl))
    by false p = r

pub offered_stays : OfferedStays
offered_stays = grind (arith, above, join_first, entry_exact, shape, taken_replica, absorbed_replica)

-- Rows of entries, one of them changed.

pub apart : (p q : ℕ) → q ≢ p → eq_by_cmp nat_cmp p q ≡ false
apart p q ne = ⊎_elim (λ e. absurd (ne (sym (exact_unsigned p q ((Equal-is (nat_cmp p q)).0 e))))) (λ f. f) (cases_Bool (eq_by_cmp nat_cmp p q))

module _ {X : Type 0} where
  at_set : (es : List (ℕ × X)) (p q : ℕ) (w : X) → IsSome (get nat_cmp es p) → get nat_cmp (set_value (is_at (nat_cmp p)) es w) q ≡ cond (eq_by_cmp nat_cmp p q) (Some w) (get nat_cmp es q)
  at_set es p q w h = let laws = eq_by_cmp_equiv nat_cmp_total in lookup-set_value laws (is_at (nat_cmp p)) (λ x y e. laws.congr p x y e) q w es h

  get_set : (es : List (ℕ × X)) (p : ℕ) (w : X) → IsSome (get nat_cmp es p) → get nat_cmp (set_value (is_at (nat_cmp p)) es w) p ≡ Some w
  get_set es p w h = at_set es p p w h ∙ ap (λ b. cond b (Some w) (get nat_cmp es p)) ((eq_by_cmp_equiv nat_cmp_total).refl p)

none_if : {X : Type 0} (o : Option X) → (IsSome o → ⊥) → o ≡ None
none_if o h = grind arith

module _ (rows : List (ℕ × Row)) (p : ℕ) (row after : Row) (was : get nat_cmp rows p ≡ Some row) where
  there : IsSome (get nat_cmp rows p)
  there = subst IsSome (sym was) refl

  -- a row that refuses a key is as it was
  pub set_refused : (n : ℕ) → (IsSome (get nat_cmp row n) → ⊥) → (get nat_cmp row n ≡ None → after ≡ row) → set_value (is_at (nat_cmp p)) rows after ≡ rows
  set_refused n some none = set_value_same (is_at (nat_cmp p)) rows after (was ∙ ap Some (sym (none (none_if (get nat_cmp row n) some))))

  module _ (m : ℕ) (e : Logged) (j : MapJoins nat_cmp FlatJoins row ((m, One e) ∷ []) after) where
    one_joined : (n : ℕ) → get nat_cmp after n ≡ held_join entry_eq (get nat_cmp row n) (if n == m then Some (One e) else None)
    one_joined n = grind (arith, joins_held, entry_exact)

    own_row : (n : ℕ) → held_in (set_value (is_at (nat_cmp p)) rows after) p n ≡ held_join entry_eq (held_in rows p n) (only p m e p n)
    own_row n = grind (arith, one_joined, eq-eqb, get_set, there)

    -- an entry joined into one row
    pub put_held : (k n : ℕ) → held_in (set_value (is_at (nat_cmp p)) rows after) k n ≡ held_join entry_eq (held_in rows k n) (only p m e k n)
    put_held k n = grind (arith, own_row, ne_eqb, join_none, cases_eq, common_steps, there, at_set, apart)

-- rows that are all there stay so
pub full_set : (m p : ℕ) (rows : List (ℕ × Row)) (row after : Row) → get nat_cmp rows p ≡ Some row → IsOrdered nat_cmp after → IsFull m rows → IsFull m (set_value (is_at (nat_cmp p)) rows after)
full_set m p rows row after was s f = grind (arith, at_set, keys-set_value, there, none-some, exact_unsigned)

-- Rows that hold the same are the same rows.

same_row : (a b : Option Row) → IsSomeAnd a (IsOrdered nat_cmp) → IsSomeAnd b (IsOrdered nat_cmp)
    → ((n : ℕ) → option_and_then (λ (r : Row). get nat_cmp r n) a ≡ option_and_then (λ (r : Row). get nat_cmp r n) b) → a ≡ b
same_row None b p q h = absurd p
same_row (Some v) None p q h = absurd q
same_row (Some v) (Some w) p q h = ap Some (same_entries nat_cmp_total exact_unsigned v w p q h)

pub same_rows : (m : ℕ) (a b : List (ℕ × Row)) → IsFull m a → IsFull m b → ((k n : ℕ) → held_in a k n ≡ held_in b k n) → a ≡ b
same_rows m a b f g h =
    same_entries nat_cmp_total exact_unsigned a b f.ordered g.ordered (λ k. ⊎_elim
    (λ i. same_row (get nat_cmp a k) (get nat_cmp b k) (f.there k i) (g.there k i) (h k))
    (λ o. f.beyond k o ∙ sym (g.beyond k o))
    (cases_lt k m))

pub known_by_held : IsKnownByHeld
known_by_held x y h g e =
    let m : x.processors ≡ y.processors = ap (λ r. r.processors) e in
    let c : x.capacity ≡ y.capacity = ap (λ r. r.capacity) e in
    let rows : x.rows ≡ y.rows = same_rows x.processors x.rows y.rows h.full (subst (λ (q : ℕ). IsFull q y.rows) (sym m) g.full) (λ k n. ap (λ r. r.at k n) e) in
    λ i. record { processors = m i; capacity = c i; rows = rows i }

-- Rows that hold nothing.

sorted_nothing : IsSomeAnd {T = Row} (Some []) (IsOrdered nat_cmp)
unfolding IsStrictlySortedBy
sorted_nothing = tt

module _ (m c : ℕ) (rows : List (ℕ × Row)) (e : AreEmptyRows m rows) where
  pub holds_nothing : (k n : ℕ) → held_in rows k n ≡ None
  holds_nothing k n = grind arith

  pub replica_rows_empty : IsShape m c → IsReplicaRows (record { processors = m; capacity = c; rows = rows })
  replica_rows_empty s = grind (arith, sorted_nothing, holds_nothing)

-- Rows compared, read cell by cell.

module _ (v w : Row) where
  pub row_below : MapBelow nat_cmp FlatBelow v w → (n : ℕ) → HeldBelow (get nat_cmp v n) (get nat_cmp w n)
  row_below h n = ⊎_elim
      (λ e. subst (λ (u : Row). HeldBelow (get nat_cmp v n) (get nat_cmp u n)) e (below_itself (get nat_cmp v n)))
      (λ c. below_held (get nat_cmp v n) (get nat_cmp w n) (c.each n))
      h

  pub below_row : IsOrdered nat_cmp v → IsOrdered nat_cmp w → ((n : ℕ) → HeldBelow (get nat_cmp v n) (get nat_cmp w n)) → MapBelow nat_cmp FlatBelow v w
  below_row s t h = inr (record { ordered_first = s; ordered_second = t; each = λ n. held_below (get nat_cmp v n) (get nat_cmp w n) (h n) })

not_none : (c : Flat Logged) (o : Held Logged) → o ≡ Some c → HeldBelow o None → ⊥
not_none c o e h = elim (h c e) [ inl k ↦ absurd (cc) | inr k ↦ absurd (cc) ]

-- only the empty row is below one that isn't there
pub nothing_below : (v : Row) → ((n : ℕ) → HeldBelow (get nat_cmp v n) None) → length v ≡ 0
nothing_below [] h = refl
nothing_below (x ∷ xs) h = absurd (not_none x.1 (get nat_cmp (x ∷ xs) x.0) (lookup_head (is_at (nat_cmp x.0)) x xs (ap is_eq (tied_itself nat_cmp_total x.0))) (h x.0))

pub empty_below : (v : Row) → length v ≡ 0 → (n : ℕ) → HeldBelow (get nat_cmp v n) None
empty_below v e n = grind (arith, none_below, common_steps)

pub below_as : (x x' y y' : Held Logged) → x' ≡ x → y' ≡ y → HeldBelow x y → HeldBelow x' y'
below_as x x' y y' e f h = subst (λ (u : Held Logged). HeldBelow u y') (sym e) (subst (HeldBelow x) (sym f) h)

-- what a row holds, by the rows
at_row : (rows : List (ℕ × Row)) (p : ℕ) (o : Option Row) → get nat_cmp rows p ≡ o → (n : ℕ) → held_in rows p n ≡ option_and_then (λ (r : Row). get nat_cmp r n) o
at_row rows p o e n = ap (option_and_then (λ (r : Row). get nat_cmp r n)) e

module _ (a b : List (ℕ × Row)) (p : ℕ) (v : Row) (ea : get nat_cmp a p ≡ Some v) where
  pub rows_both : (w : Row) → get nat_cmp b p ≡ Some w → IsOrdered nat_cmp v → IsOrdered nat_cmp w → (r : Bool) → (IsTrue r ↔ MapBelow nat_cmp FlatBelow v w)
      → (IsTrue r ↔ ((n : ℕ) → HeldBelow (held_in a p n) (held_in b p n)))
  rows_both w eb s t r h = (
    λ i n. below_as (get nat_cmp v n) (held_in a p n) (get nat_cmp w n) (held_in b p n) (at_row a p (Some v) ea n) (at_row b p (Some w) eb n) (row_below v w (h.0 i) n),
    λ q. h.1 (below_row v w s t (λ n. below_as (held_in a p n) (get nat_cmp v n) (held_in b p n) (get nat_cmp w n) (sym (at_row a p (Some v) ea n)) (sym (at_row b p (Some w) eb n)) (q n))),
  )

  pub rows_first : get nat_cmp b p ≡ None → (l : ℕ) → l ≡ length v → (IsTrue (nat_eq l 0) ↔ ((n : ℕ) → HeldBelow (held_in a p n) (held_in b p n)))
  rows_first eb l e = (
    λ i n. below_as (get nat_cmp v n) (held_in a p n) None (held_in b p n) (at_row a p (Some v) ea n) (at_row b p None eb n) (empty_below v (sym e ∙ eqb-true l 0 i) n),
    λ q. eq-eqb l 0 (e ∙ nothing_below v (λ n. below_as (held_in a p n) (get nat_cmp v n) (held_in b p n) None (sym (at_row a p (Some v) ea n)) (sym (at_row b p None eb n)) (q n))),
  )

-- ---- all rows of two replicas of one shape

-- if the second row has something for which the first has no place, it holds a key at which the first holds nothing
cell_outgrown : (a b : Held Logged) → OptionOutgrows (λ _ _. ⊥) a b → (a ≡ None) × (b ≢ None)
cell_outgrown a b h = grind arith

pub rows_outgrown : (m m' : ℕ) (a b : List (ℕ × Row)) → m ≡ m' → IsFull m a → IsFull m' b → MapOutgrows nat_cmp (MapOutgrows nat_cmp (λ _ _. ⊥)) a b
    → (k : ℕ) × (n : ℕ) × (held_in a k n ≡ None) × (held_in b k n ≢ None)
rows_outgrown m m' a b same f g (k, more) = by (get nat_cmp a k) (get nat_cmp b k) refl refl more
  where
    by : (u v : Option Row) → get nat_cmp a k ≡ u → get nat_cmp b k ≡ v → OptionOutgrows (MapOutgrows nat_cmp (λ _ _. ⊥)) u v → (k : ℕ) × (n : ℕ) × (held_in a k n ≡ None) × (held_in b k n ≢ None)
    by None None p q h = absurd h
    by (Some u) None p q h = absurd h
    by None (Some v) p q h = grind (arith, nat_cmp, cases_lt)
    by (Some u) (Some v) p q (n, h) =
        (let cell = cell_outgrown (get nat_cmp u n) (get nat_cmp v n) h in
        (k, n, at_row a k (Some u) p n ∙ cell.0, λ none. cell.1 (sym (at_row b k (Some v) q n) ∙ none)))
