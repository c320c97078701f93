-- Maps seen as the list of their entries, compared and joined key by key.
use Rattle.std.specs.Prelude.{◌≡◌, refl, true, Option, None, Some, unwrap_or, List, [], ◌∷◌, ◌≢◌, ◌⊎◌, ◌↔◌}
use Rattle.std.specs.declared.cmp.Ordering.{Ordering}
use Rattle.std.specs.declared.cmp.Ordering.TheVariants.{Less, Equal, Greater}
use Rattle.std.specs.List.Sorted.{IsStrictlySortedBy}
use Rattle.std.specs.Map.{keys_of, lookup}
use Rattle.std.specs.BTreeMap.{is_at}
use Rattle.std.specs.Ordering.{is_eq, eq_by_cmp, ordering_reverse}
use Rattle.std.specs.Cmp.{IsTotalOrder, eq_by_cmp_equiv, tied_itself}
use Rattle.std.proofs.Common.{sym, ◌∙◌, ap, ⊎_elim, subst, inl, inr}
use Rattle.std.proofs.lemmas.Bool.{cases_Bool}
use Rattle.std.proofs.lemmas.Map.{lookup-none}
use Rattle.std.proofs.lemmas.Map.Keys.{sorted_tail, IsDistinct-from_sorted}
use Rattle.std.proofs.lemmas.Map.Entries.{lookup_head, lookup_tail, none_past_head, none_below_head}
use Rattle.std.proofs.lemmas.Map.Lookups.{CmpEqualImpliesEq}
use Rattle.pfair_lattice.specs.Order.{IsOrder, IsLeastUpperBound, IsPartlyJoined, IsJoin, OptionBelow, OptionJoins, OptionPartly, OptionOutgrows, option_order, option_join, option_resumes}

-- Entries in order with equal look-ups are the same entries.

not_None : {X : Type 0} (v : X) → Some v ≢ None
not_None v e = cc

module _ {K X : Type 0} {R : K → K → Ordering} (o : IsTotalOrder R) where
  abbrev find : List (K × X) → K → Option X
  find es q = lookup (is_at (R q)) es

  at_head : (x : K × X) (xs : List (K × X)) → find (x ∷ xs) x.0 ≡ Some x.1
  at_head x xs = lookup_head (is_at (R x.0)) x xs (ap is_eq (tied_itself o x.0))

  past_head : (q : K) (x : K × X) (xs : List (K × X)) → IsStrictlySortedBy R (keys_of (x ∷ xs)) → eq_by_cmp R q x.0 ≡ true → find xs q ≡ None
  past_head q x xs s t = lookup-none (is_at (R q)) xs (none_past_head (eq_by_cmp_equiv o) q x xs (IsDistinct-from_sorted R _ s) t)

  module _ (x y : K × X) (xs ys : List (K × X)) (s : IsStrictlySortedBy R (keys_of (x ∷ xs))) (t : IsStrictlySortedBy R (keys_of (y ∷ ys))) (h : (q : K) → find (x ∷ xs) q ≡ find (y ∷ ys) q) where
    by_heads : (r : Ordering) → R x.0 y.0 ≡ r → R x.0 y.0 ≡ Equal
    by_heads Less p = absurd (not_None x.1 (sym (at_head x xs) ∙ h x.0 ∙ lookup-none _ (y ∷ ys) (none_below_head o x.0 y ys t p)))
    by_heads Equal p = p
    by_heads Greater p = absurd (not_None y.1 (sym (at_head y ys) ∙ sym (h y.0) ∙ lookup-none _ (x ∷ xs) (none_below_head o y.0 x xs s (o.antisymm y.0 x.0 ∙ ap ordering_reverse p))))

    heads : R x.0 y.0 ≡ Equal
    heads = by_heads (R x.0 y.0) refl

    head_values : x.1 ≡ y.1
    head_values = ap (λ u. unwrap_or u x.1) (sym (at_head x xs) ∙ h x.0 ∙ lookup_head (is_at (R x.0)) y ys (ap is_eq heads))

    tails : (q : K) → find xs q ≡ find ys q
    tails q =
        let t' = eq_by_cmp_equiv o in
        let e : eq_by_cmp R q y.0 ≡ eq_by_cmp R q x.0 = t'.symm q y.0 ∙ sym (t'.congr x.0 y.0 q (ap is_eq heads)) ∙ t'.symm x.0 q in
        ⊎_elim
        (λ b. past_head q x xs s b ∙ sym (past_head q y ys t (e ∙ b)))
        (λ b. sym (lookup_tail (is_at (R q)) x xs b) ∙ h q ∙ lookup_tail (is_at (R q)) y ys (e ∙ b))
        (cases_Bool (eq_by_cmp R q x.0))

  -- entries in order that a look-up can't tell apart are the same
  pub same_entries : CmpEqualImpliesEq R → (es fs : List (K × X)) → IsStrictlySortedBy R (keys_of es) → IsStrictlySortedBy R (keys_of fs) → ((q : K) → find es q ≡ find fs q) → es ≡ fs
  same_entries exact [] [] s t h = refl
  same_entries exact [] (y ∷ ys) s t h = absurd (not_None y.1 (sym (h y.0 ∙ at_head y ys)))
  same_entries exact (x ∷ xs) [] s t h = absurd (not_None x.1 (sym (at_head x xs) ∙ h x.0))
  same_entries exact (x ∷ xs) (y ∷ ys) s t h =
      let r = same_entries exact xs ys (sorted_tail R x.0 (keys_of xs) s) (sorted_tail R y.0 (keys_of ys) t) (tails x y xs ys s t h) in
      λ i. (exact x.0 y.0 (heads x y xs ys s t h) i, head_values x y xs ys s t h i) ∷ r i

module _ {K X : Type 0} (cmp : K → K → Ordering) where
  -- the keys rise
  abbrev pub IsOrdered : List (K × X) → Type 0
  IsOrdered es = IsStrictlySortedBy cmp (keys_of es)

  -- what the entries hold at k
  abbrev pub get : List (K × X) → K → Option X
  get es k = lookup (is_at (cmp k)) es

-- entries in order that hold the same at every key are the same entries
abbrev pub IsKnownByKeys : {K : Type 0} → (K → K → Ordering) → Type 0 → Type 0
IsKnownByKeys {K} cmp X = (es fs : List (K × X)) → IsOrdered cmp es → IsOrdered cmp fs → ((k : K) → get cmp es k ≡ get cmp fs k) → es ≡ fs

module _ {K X : Type 0} (cmp : K → K → Ordering) where
  -- each key of es is a key of fs, with a value below the one there
  pub record IsCovered (below : X → X → Type 0) (es fs : List (K × X)) : Type 0 where
    pub ordered_first : IsOrdered cmp es
    pub ordered_second : IsOrdered cmp fs
    pub each : (k : K) → OptionBelow below (get cmp es k) (get cmp fs k)

  -- the same entries, or covered ones
  abbrev pub MapBelow : (X → X → Type 0) → List (K × X) → List (K × X) → Type 0
  MapBelow below es fs = (es ≡ fs) ⊎ IsCovered below es fs

  -- entries in order compare as what they hold at every key
  abbrev pub IsComparedByKeys : (X → X → Type 0) → Type 0
  IsComparedByKeys below = (es fs : List (K × X)) → IsOrdered cmp es → IsOrdered cmp fs → (MapBelow below es fs ↔ ((k : K) → OptionBelow below (get cmp es k) (get cmp fs k)))

  -- gs has the keys of both, with what either side holds, and the join if both hold something
  pub record MapJoins (joins : X → X → X → Type 0) (es fs gs : List (K × X)) : Type 0 where
    pub ordered_first : IsOrdered cmp es
    pub ordered_second : IsOrdered cmp fs
    pub ordered : IsOrdered cmp gs
    pub each : (k : K) → OptionJoins joins (get cmp es k) (get cmp fs k) (get cmp gs k)

  -- gs has at each key what es has there, or the join, or a part of it
  pub record MapPartly (joins partly : X → X → X → Type 0) (es fs gs : List (K × X)) : Type 0 where
    pub ordered_first : IsOrdered cmp es
    pub ordered_second : IsOrdered cmp fs
    pub ordered : IsOrdered cmp gs
    pub each : (k : K) → OptionPartly joins partly (get cmp es k) (get cmp fs k) (get cmp gs k)

  -- at some key fs has something for which es has no place
  abbrev pub MapOutgrows : (X → X → Type 0) → List (K × X) → List (K × X) → Type 0
  MapOutgrows outgrows es fs = (k : K) × OptionOutgrows outgrows (get cmp es k) (get cmp fs k)

module _ {K X : Type 0} {cmp : K → K → Ordering} where
  -- entries in order that hold the same are the same
  pub entries_from_get : IsTotalOrder cmp → CmpEqualImpliesEq cmp → (es fs : List (K × X)) → IsOrdered cmp es → IsOrdered cmp fs → ((k : K) → get cmp es k ≡ get cmp fs k) → es ≡ fs
  entries_from_get o x es fs p q h = same_entries o x es fs p q h

  module _ {below : X → X → Type 0} where
    pub covers : IsOrder below → (es fs : List (K × X)) → IsOrdered cmp es → MapBelow cmp below es fs → IsCovered cmp below es fs
    covers l es fs p h = ⊎_elim
        (λ e. subst (λ (gs : List (K × X)). IsCovered cmp below es gs) e (record { ordered_first = p; ordered_second = p; each = λ k. (option_order l).reflexive (get cmp es k) }))
        (λ c. c)
        h

    map_trans : IsOrder below → (es fs gs : List (K × X)) → MapBelow cmp below es fs → MapBelow cmp below fs gs → MapBelow cmp below es gs
    map_trans l es fs gs p q = ⊎_elim
        (λ e. subst (λ (hs : List (K × X)). MapBelow cmp below hs gs) (sym e) q)
        (λ c. let d = covers l fs gs c.ordered_second q in
        inr (record { ordered_first = c.ordered_first; ordered_second = d.ordered_second; each = λ k. (option_order l).transitive (get cmp es k) (get cmp fs k) (get cmp gs k) (c.each k) (d.each k) }))
        p

    map_antisymm : IsTotalOrder cmp → CmpEqualImpliesEq cmp → IsOrder below → (es fs : List (K × X)) → MapBelow cmp below es fs → MapBelow cmp below fs es → es ≡ fs
    map_antisymm o x l es fs p q = ⊎_elim
        (λ e. e)
        (λ c. let d = covers l fs es c.ordered_second q in
        entries_from_get o x es fs c.ordered_first c.ordered_second (λ k. (option_order l).antisymmetric (get cmp es k) (get cmp fs k) (c.each k) (d.each k)))
        p

    pub map_order : IsTotalOrder cmp → CmpEqualImpliesEq cmp → IsOrder below → IsOrder (MapBelow cmp below)
    map_order o x l = record { reflexive = λ es. inl refl; transitive = map_trans l; antisymmetric = map_antisymm o x l }

    module _ {joins : X → X → X → Type 0} where
      pub map_least : IsJoin below joins → (es fs gs : List (K × X)) → MapJoins cmp joins es fs gs → IsLeastUpperBound (MapBelow cmp below) es fs gs
      map_least l es fs gs j =
          let p : (k : K) → IsLeastUpperBound (OptionBelow below) (get cmp es k) (get cmp fs k) (get cmp gs k) = λ k. (option_join l).least (get cmp es k) (get cmp fs k) (get cmp gs k) (j.each k) in
          record {
            above_first = inr (record { ordered_first = j.ordered_first; ordered_second = j.ordered; each = λ k. (p k).above_first });
            above_second = inr (record { ordered_first = j.ordered_second; ordered_second = j.ordered; each = λ k. (p k).above_second });
            least = λ hs a b.
                let a' = covers l.order es hs j.ordered_first a in
                let b' = covers l.order fs hs j.ordered_second b in
                inr (record { ordered_first = j.ordered; ordered_second = a'.ordered_second; each = λ k. (p k).least (get cmp hs k) (a'.each k) (b'.each k) });
          }

      pub map_resumes : {partly : X → X → X → Type 0} → IsJoin below joins → ((x y z : X) → partly x y z → IsPartlyJoined below joins x y z) → (old other now : List (K × X))
          → MapPartly cmp joins partly old other now → IsPartlyJoined (MapBelow cmp below) (MapJoins cmp joins) old other now
      map_resumes l resumes old other now m =
          let h = λ (k : K). option_resumes l resumes (get cmp old k) (get cmp other k) (get cmp now k) (m.each k) in
          record {
            kept = inr (record { ordered_first = m.ordered_first; ordered_second = m.ordered; each = λ k. (h k).kept });
            within = λ hs a b.
                let a' = covers l.order old hs m.ordered_first a in
                let b' = covers l.order other hs m.ordered_second b in
                inr (record { ordered_first = m.ordered; ordered_second = a'.ordered_second; each = λ k. (h k).within (get cmp hs k) (a'.each k) (b'.each k) });
            again = λ hs j. record { ordered_first = m.ordered_first; ordered_second = m.ordered_second; ordered = j.ordered; each = λ k. (h k).again (get cmp hs k) (j.each k) };
          }
