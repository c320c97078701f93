-- A loop over the entries of one map that joins them into another, or compares them, with `rest` still to come.
use Rattle.std.proofs.Common.{◌≡◌, refl, sym, ◌∙◌, ap, subst, ⊎_elim, false, List, [], ◌∷◌, inl, arith, Option, None, Some}
use Rattle.std.specs.declared.cmp.Ordering.{Ordering}
use Rattle.std.specs.List.Sorted.{IsStrictlySortedBy}
use Rattle.std.specs.Ordering.{is_eq, eq_by_cmp}
use Rattle.std.specs.BTreeMap.{is_at}
use Rattle.std.specs.Cmp.{IsTotalOrder, Equal-is, eq_by_cmp_equiv, tied_itself}
use Rattle.std.proofs.lemmas.Bool.{cases_Bool}
use Rattle.std.proofs.lemmas.Map.Entries.{lookup_head, lookup_tail, none_past_head}
use Rattle.std.proofs.lemmas.Map.Lookups.{CmpEqualImpliesEq}
use Rattle.pfair_lattice.specs.Order.{IsJoin, OptionJoins, OptionPartly, IsOrder, OptionBelow, OptionOutgrows}
use Rattle.pfair_lattice.specs.Entries.{IsOrdered, get, MapJoins, MapPartly, MapBelow, MapOutgrows, covers, entries_from_get}
use Rattle.std.specs.Map.{keys_of}
use Rattle.std.proofs.lemmas.Map.{lookup-none}
use Rattle.std.proofs.lemmas.Map.Keys.{sorted_tail, IsDistinct-from_sorted}

-- One pair joined into a map.

-- at the key k, and at each other
pub by_key : {K : Type 0} {cmp : K → K → Ordering} → CmpEqualImpliesEq cmp → (P : K → Type 0) (k q : K) → P k → (eq_by_cmp cmp k q ≡ false → P q) → P q
by_key {cmp = cmp} x P k q here apart = ⊎_elim (λ e. subst P (x k q ((Equal-is (cmp k q)).0 e)) here) apart (cases_Bool (eq_by_cmp cmp k q))

pub keeps : {X : Type 0} (joins : X → X → X → Type 0) (a : Option X) → OptionJoins joins a None a
keeps joins a = grind arith

ordered_one : {K X : Type 0} (cmp : K → K → Ordering) (k : K) (v : X) → IsOrdered cmp ((k, v) ∷ [])
unfolding IsStrictlySortedBy
ordered_one cmp k v = (tt, tt)

module _ {K X : Type 0} {cmp : K → K → Ordering} (o : IsTotalOrder cmp) where
  pub head_at : (k : K) (v : X) (es : List (K × X)) → get cmp ((k, v) ∷ es) k ≡ Some v
  head_at k v es = lookup_head (is_at (cmp k)) (k, v) es (ap is_eq (tied_itself o k))

  pub tail_at : (k q : K) (v : X) (es : List (K × X)) → eq_by_cmp cmp k q ≡ false → get cmp ((k, v) ∷ es) q ≡ get cmp es q
  tail_at k q v es h = lookup_tail (is_at (cmp q)) (k, v) es ((eq_by_cmp_equiv o).symm q k ∙ h)

  module _ (x : CmpEqualImpliesEq cmp) {below : X → X → Type 0} {joins : X → X → X → Type 0} (l : IsJoin below joins) where
    pub joins_put : (es gs : List (K × X)) (k : K) (v : X) → IsOrdered cmp es → IsOrdered cmp gs → OptionJoins joins (get cmp es k) (Some v) (get cmp gs k)
        → ((q : K) → eq_by_cmp cmp k q ≡ false → get cmp gs q ≡ get cmp es q) → MapJoins cmp joins es ((k, v) ∷ []) gs
    joins_put es gs k v p r here apart = record {
      ordered_first = p;
      ordered_second = ordered_one cmp k v;
      ordered = r;
      each = λ q. by_key x (λ q'. OptionJoins joins (get cmp es q') (get cmp ((k, v) ∷ []) q') (get cmp gs q')) k q
          (subst (λ (b : Option X). OptionJoins joins (get cmp es k) b (get cmp gs k)) (sym (head_at k v [])) here)
          (λ h. subst (λ (b : Option X). OptionJoins joins (get cmp es q) b (get cmp gs q)) (sym (tail_at k q v [] h)) (subst (λ (c : Option X). OptionJoins joins (get cmp es q) None c) (sym (apart q h)) (keeps joins (get cmp es q))));
    }

    pub partly_put : {partly : X → X → X → Type 0} (es gs : List (K × X)) (k : K) (v : X) → IsOrdered cmp es → IsOrdered cmp gs → OptionPartly joins partly (get cmp es k) (Some v) (get cmp gs k)
        → ((q : K) → eq_by_cmp cmp k q ≡ false → get cmp gs q ≡ get cmp es q) → MapPartly cmp joins partly es ((k, v) ∷ []) gs
    partly_put {partly} es gs k v p r here apart = record {
      ordered_first = p;
      ordered_second = ordered_one cmp k v;
      ordered = r;
      each = λ q. by_key x (λ q'. OptionPartly joins partly (get cmp es q') (get cmp ((k, v) ∷ []) q') (get cmp gs q')) k q
          (subst (λ (b : Option X). OptionPartly joins partly (get cmp es k) b (get cmp gs k)) (sym (head_at k v [])) here)
          (λ h. inl (apart q h));
    }

    -- nothing changed
    pub partly_unchanged : {partly : X → X → X → Type 0} (es gs : List (K × X)) (k : K) (v : X) → IsOrdered cmp es → gs ≡ es → MapPartly cmp joins partly es ((k, v) ∷ []) gs
    partly_unchanged {partly} es gs k v p e = subst (λ (hs : List (K × X)). MapPartly cmp joins partly es ((k, v) ∷ []) hs) (sym e)
        (record { ordered_first = p; ordered_second = ordered_one cmp k v; ordered = p; each = λ q. inl refl })

-- at a key that the map lacks
pub absent : {X : Type 0} (joins : X → X → X → Type 0) (a c : Option X) (v : X) → a ≡ None → c ≡ Some v → OptionJoins joins a (Some v) c
absent {X} joins a c v p q = subst (λ (a' : Option X). OptionJoins joins a' (Some v) c) (sym p) q

-- at a key that it has
pub present : {X : Type 0} (joins : X → X → X → Type 0) (a c : Option X) (u v w : X) → a ≡ Some u → c ≡ Some w → joins u v w → OptionJoins joins a (Some v) c
present {X} joins a c u v w p q j = subst (λ (a' : Option X). OptionJoins joins a' (Some v) c) (sym p) (subst (λ (c' : Option X). OptionJoins joins (Some u) (Some v) c') (sym q) j)

-- a value there that is partly joined
pub present_partly : {X : Type 0} (joins partly : X → X → X → Type 0) (a c : Option X) (u v w : X) → a ≡ Some u → c ≡ Some w → partly u v w → OptionPartly joins partly a (Some v) c
present_partly {X} joins partly a c u v w p q j = grind arith

-- at a key: joined, or still to come, and then as it was
abbrev pub JoinedSoFar : {X : Type 0} → (X → X → X → Type 0) → Option X → Option X → Option X → Option X → Type 0
JoinedSoFar joins a b None c = OptionJoins joins a b c
JoinedSoFar joins a b (Some w) c = (b ≡ Some w) × (c ≡ a)

-- at a key: below, or still to come
abbrev pub BelowSoFar : {X : Type 0} → (X → X → Type 0) → Option X → Option X → Option X → Type 0
BelowSoFar below a None b = OptionBelow below a b
BelowSoFar below a (Some w) b = a ≡ Some w

module _ {K X : Type 0} (cmp : K → K → Ordering) where
  -- `now` is `old` with the entries of `other` before `rest` joined in
  pub record IsJoinedUpTo (joins : X → X → X → Type 0) (old other rest now : List (K × X)) : Type 0 where
    pub ordered_first : IsOrdered cmp old
    pub ordered_second : IsOrdered cmp other
    pub ordered_rest : IsOrdered cmp rest
    pub ordered : IsOrdered cmp now
    pub each : (q : K) → JoinedSoFar joins (get cmp old q) (get cmp other q) (get cmp rest q) (get cmp now q)

  -- the entries of es before `rest` are covered by fs
  pub record IsCoveredUpTo (below : X → X → Type 0) (es fs rest : List (K × X)) : Type 0 where
    pub ordered_first : IsOrdered cmp es
    pub ordered_rest : IsOrdered cmp rest
    pub each : (q : K) → BelowSoFar below (get cmp es q) (get cmp rest q) (get cmp fs q)

module _ {K X : Type 0} {cmp : K → K → Ordering} (o : IsTotalOrder cmp) (x : CmpEqualImpliesEq cmp) where
  past : (k : K) (w : X) (rest : List (K × X)) → IsOrdered cmp ((k, w) ∷ rest) → get cmp rest k ≡ None
  past k w rest s = lookup-none (is_at (cmp k)) rest (none_past_head (eq_by_cmp_equiv o) k (k, w) rest (IsDistinct-from_sorted cmp _ s) (ap is_eq (tied_itself o k)))

  module _ {below : X → X → Type 0} where
    -- the value of the next entry is the one at its key
    pub covered_next : (es fs rest : List (K × X)) (k : K) (v : X) → IsCoveredUpTo cmp below es fs ((k, v) ∷ rest) → get cmp es k ≡ Some v
    covered_next es fs rest k v h = subst (λ (r : Option X). BelowSoFar below (get cmp es k) r (get cmp fs k)) (head_at o k v rest) (h.each k)

    pub covered_step : (es fs rest : List (K × X)) (k : K) (v w : X) → IsCoveredUpTo cmp below es fs ((k, v) ∷ rest) → get cmp fs k ≡ Some w → below v w → IsCoveredUpTo cmp below es fs rest
    covered_step es fs rest k v w h found le = record {
      ordered_first = h.ordered_first;
      ordered_rest = sorted_tail cmp k (keys_of rest) h.ordered_rest;
      each = λ q. by_key x (λ q'. BelowSoFar below (get cmp es q') (get cmp rest q') (get cmp fs q')) k q
          (subst (λ (r : Option X). BelowSoFar below (get cmp es k) r (get cmp fs k)) (sym (past k v rest h.ordered_rest))
          (subst (λ (a : Option X). OptionBelow below a (get cmp fs k)) (sym (covered_next es fs rest k v h))
          (subst (λ (b : Option X). OptionBelow below (Some v) b) (sym found) le)))
          (λ n. subst (λ (r : Option X). BelowSoFar below (get cmp es q) r (get cmp fs q)) (tail_at o k q v rest n) (h.each q));
    }

    -- a value that is not below
    pub uncovered_above : IsOrder below → (es fs rest : List (K × X)) (k : K) (v w : X) → IsCoveredUpTo cmp below es fs ((k, v) ∷ rest) → get cmp fs k ≡ Some w → (below v w → ⊥) → MapBelow cmp below es fs → ⊥
    uncovered_above l es fs rest k v w h found not_below m = grind (arith, covers, covered_next)

    module _ {joins : X → X → X → Type 0} (l : IsJoin below joins) where
      -- at the next entry's key
      joined_next : (old other rest now : List (K × X)) (k : K) (w : X) → IsJoinedUpTo cmp joins old other ((k, w) ∷ rest) now → (get cmp other k ≡ Some w) × (get cmp now k ≡ get cmp old k)
      joined_next old other rest now k w h = subst (λ (r : Option X). JoinedSoFar joins (get cmp old k) (get cmp other k) r (get cmp now k)) (head_at o k w rest) (h.each k)

      pub joined_up_to_step : (old other rest now then : List (K × X)) (k : K) (w : X) → IsJoinedUpTo cmp joins old other ((k, w) ∷ rest) now → MapJoins cmp joins now ((k, w) ∷ []) then
          → ((q : K) → eq_by_cmp cmp k q ≡ false → get cmp then q ≡ get cmp now q) → IsJoinedUpTo cmp joins old other rest then
      joined_up_to_step old other rest now then k w h j apart =
          let n = joined_next old other rest now k w h in
          let here : OptionJoins joins (get cmp now k) (Some w) (get cmp then k) = subst (λ (b : Option X). OptionJoins joins (get cmp now k) b (get cmp then k)) (head_at o k w []) (j.each k) in
          record {
            ordered_first = h.ordered_first;
            ordered_second = h.ordered_second;
            ordered_rest = sorted_tail cmp k (keys_of rest) h.ordered_rest;
            ordered = j.ordered;
            each = λ q. by_key x (λ q'. JoinedSoFar joins (get cmp old q') (get cmp other q') (get cmp rest q') (get cmp then q')) k q
                (subst (λ (r : Option X). JoinedSoFar joins (get cmp old k) (get cmp other k) r (get cmp then k)) (sym (past k w rest h.ordered_rest))
                (subst (λ (b : Option X). OptionJoins joins (get cmp old k) b (get cmp then k)) (sym n.0)
                (subst (λ (a : Option X). OptionJoins joins a (Some w) (get cmp then k)) n.1 here)))
                (λ e. subst (λ (r : Option X). JoinedSoFar joins (get cmp old q) (get cmp other q) r (get cmp then q)) (tail_at o k q w rest e)
                (subst (λ (c : Option X). JoinedSoFar joins (get cmp old q) (get cmp other q) (get cmp ((k, w) ∷ rest) q) c) (sym (apart q e)) (h.each q)));
          }

      -- the entry at which the loop stops isn't below what the map had, so the other map isn't below it
      pub not_below_failed : (old other rest now : List (K × X)) (k : K) (w : X) → IsJoinedUpTo cmp joins old other ((k, w) ∷ rest) now
          → (OptionBelow below (Some w) (get cmp now k) → ⊥) → MapBelow cmp below other old → ⊥
      not_below_failed old other rest now k w h lacking m = grind (arith, joined_next, covers)

      -- and it has something for which the map had no place
      pub outgrown_failed : (outgrows : X → X → Type 0) (old other rest now : List (K × X)) (k : K) (w : X) → IsJoinedUpTo cmp joins old other ((k, w) ∷ rest) now
          → OptionOutgrows outgrows (get cmp now k) (Some w) → MapOutgrows cmp outgrows old other
      outgrown_failed outgrows old other rest now k w h more = grind (arith, joined_next)

      -- the empty map with es joined in is es
      pub copied : (es gs : List (K × X)) → MapJoins cmp joins [] es gs → gs ≡ es
      copied es gs j = entries_from_get o x gs es j.ordered j.ordered_second j.each
