-- The entries of names, as the map of what waits under them.
use Rattle.pfair_ready.proofs.Common.{AllByRecursion, filter, Less, Equal, Greater, is_eq, eq_by_cmp_equiv, put, find, entries-insert, get-entries, get-from_entries, get-remove, get-retain_keys, from_entries_push, same_map, IsPermutation, Key, keys_total, IsSplit, split_from_least, split_of_permutation, first_by_rank, pd2_cmp, apart_head, apart_tail, apart_filter, apart_map, bytes_decides, nat_list_eq_equiv, NameValue, name_cmp, name_eq, Queue, released, map-append, nil_from_length, none-some, queue_of, first_named, ◌≡◌, ℕ, Bool, true, false, cond, not, List, [], ◌∷◌, ◌++◌, map, refl, sym, ap, subst, ◌∙◌, Option, Some, None, arith, nat_le, option_map, by_rank_of_split, IsKLeast, by_cmp, PlainEntry, Equal-is, get-insert, same_Some, slice_get-map, HeldKey, Entries, held_under, live, queue_in, with_entry, IsEntryOf, IfSome, slice_get, ◌<◌, zero, suc, length, Entry, IsPermutation-refl, IsPermutation-cons, IsPermutation-trans, IsPermutation-middle, once_from_names, NamesApart, get_or, position, keys-with_value_at, updates-with_value_at}
use Rattle.std.specs.Option.{is_some}
use Rattle.pfair_ready.proofs.Names.{names_total, names_exact, same_name, tied_names}
use Rattle.std.proofs.lemmas.List.Quantifiers.{position-Some}
use Rattle.std.specs.List.{IsDistinct}
use Rattle.std.specs.Map.{lookup, keys_of}
use Rattle.std.specs.BTreeMap.{is_at}
use Rattle.std.proofs.lemmas.Map.Entries.{hash_map_get_place}
use Rattle.indexmap.specs.IndexMap.{IndexMap, set_value_at, values, with_value_at, IsUnique}
use Rattle.std.specs.FinMap as finmap
use Rattle.std.specs.List as list

-- The list of waiting keys and the map that it holds.

module _ {X Y : Type 0} (q : X → Bool) (f : X → Y) where
  -- what is made of the values that pass
  abbrev pub chosen : List (NameValue × X) → List Y
  chosen es = map f (filter q (map (λ e. e.1) es))

  chosen_cons : (e : NameValue × X) (es fs : List (NameValue × X)) → IsPermutation (chosen es) (chosen fs) → IsPermutation (chosen (e ∷ es)) (chosen (e ∷ fs))
  chosen_cons e es fs p =
      elim (q e.1) as (λ b. IsPermutation (map f (cond b (e.1 ∷ filter q (map (λ e. e.1) es)) (filter q (map (λ e. e.1) es)))) (map f (cond b (e.1 ∷ filter q (map (λ e. e.1) fs)) (filter q (map (λ e. e.1) fs))))) [
        | true ↦ IsPermutation-cons (f e.1) (chosen es) (chosen fs) p
        | false ↦ p
      ]

  chosen_swap : (d e : NameValue × X) (es : List (NameValue × X)) → IsPermutation (chosen (d ∷ e ∷ es)) (chosen (e ∷ d ∷ es))
  chosen_swap d e es =
      let l : List X = filter q (map (λ e. e.1) es) in
      elim (q d.1) as (λ b. IsPermutation (map f (cond b (d.1 ∷ cond (q e.1) (e.1 ∷ l) l) (cond (q e.1) (e.1 ∷ l) l))) (map f (cond (q e.1) (e.1 ∷ cond b (d.1 ∷ l) l) (cond b (d.1 ∷ l) l)))) [
        | true ↦ elim (q e.1) as (λ c. IsPermutation (map f (d.1 ∷ cond c (e.1 ∷ l) l)) (map f (cond c (e.1 ∷ (d.1 ∷ l)) (d.1 ∷ l)))) [
          | true ↦ IsPermutation-middle (f d.1 ∷ []) (f e.1) (map f l)
          | false ↦ IsPermutation-refl (map f (d.1 ∷ l))
        ]
        | false ↦ IsPermutation-refl (map f (cond (q e.1) (e.1 ∷ l) l))
      ]

  -- to put an entry whose key is new is to have one more
  pub chosen_put : (k : NameValue) (v : X) (es : List (NameValue × X)) → find name_cmp k es ≡ None → IsPermutation (chosen ((k, v) ∷ es)) (chosen (put name_cmp k v es))
  chosen_put k v [] none = IsPermutation-refl (chosen ((k, v) ∷ []))
  chosen_put k v (e ∷ es) none =
      elim (name_cmp k e.0) as (λ r. name_cmp k e.0 ≡ r → IsPermutation (chosen ((k, v) ∷ e ∷ es)) (chosen (finmap.Entries.by_order r ((k, v) ∷ e ∷ es) ((e.0, v) ∷ es) (e ∷ put name_cmp k v es)))) [
        | Less ↦ λ _. IsPermutation-refl (chosen ((k, v) ∷ e ∷ es))
        | Equal ↦ λ t. absurd (none-some e.1 (sym (ap (λ r. cond (is_eq r) (Some e.1) (find name_cmp k es)) (sym t) ∙ none)))
        | Greater ↦ λ t. IsPermutation-trans (chosen ((k, v) ∷ e ∷ es)) (chosen (e ∷ (k, v) ∷ es)) (chosen (e ∷ put name_cmp k v es)) (chosen_swap (k, v) e es) (chosen_cons e ((k, v) ∷ es) (put name_cmp k v es) (chosen_put k v es (ap (λ r. cond (is_eq r) (Some e.1) (find name_cmp k es)) (sym t) ∙ none)))
      ] refl

abbrev pub entry : PlainEntry → NameValue × (ℕ × Key)
entry w = (w.key.name, (w.release, w.key))

find_entry : (ws : List PlainEntry) (q : NameValue) → find name_cmp q (map entry ws) ≡ first_named q ws
find_entry [] q = refl
find_entry (w ∷ ws) q = grind (arith, map, same_name, find_entry ws q)

-- the contents under a name
pub get_held : (ws : List PlainEntry) (q : NameValue) → finmap.get (queue_of ws) q ≡ first_named q ws
get_held ws q = get-from_entries names_total (map entry ws) q ∙ find_entry ws q

-- whether something is held under a name, by a search of the list
pub contained : (held : Queue) (ws seen : List PlainEntry) (name : NameValue) (o : Option (ℕ × Key)) (b : Bool) → queue_of ws ≡ held → seen ≡ ws → o ≡ first_named name seen → b ≡ is_some o → finmap.contains_key held name ≡ b
contained held ws seen name o b view same found is = grind (arith, get_held)

-- one more with a new name
pub queue_of_push : (ws : List PlainEntry) (w : PlainEntry) → first_named w.key.name ws ≡ None → queue_of (ws ++ w ∷ []) ≡ finmap.insert (queue_of ws) w.key.name (w.release, w.key)
queue_of_push ws w none = grind (arith, map-append, from_entries_push, names_total, names_exact, find_entry)

abbrev shown : PlainEntry → ℕ × Key
shown w = (w.release, w.key)

named_filter : (p : NameValue → Bool) (ws : List PlainEntry) (q : NameValue) → first_named q (filter (λ w. p w.key.name) ws) ≡ cond (p q) (first_named q ws) None
named_filter p [] q = elim (p q) as (λ b. let e : Option (ℕ × Key) = None in e ≡ cond b e e) [ true ↦ refl | false ↦ refl ]
named_filter p (w ∷ ws) q = grind (arith, bytes_decides, named_filter p ws q)

-- those whose names pass stay
pub queue_of_filter : (p : NameValue → Bool) (ws : List PlainEntry) → queue_of (filter (λ w. p w.key.name) ws) ≡ finmap.retain_keys (queue_of ws) p
queue_of_filter p ws =
    same_map names_total names_exact _ _ (λ q.
    get_held (filter (λ w. p w.key.name) ws) q ∙ named_filter p ws q ∙ ap (λ o. cond (p q) o None) (sym (get_held ws q))
    ∙ sym (get-retain_keys (queue_of ws) p q (λ x t. ap p (sym (names_exact q x t)))))

-- to retain all names but one is to remove it
pub retain_but : (m : Queue) (name : NameValue) → finmap.retain_keys m (λ n. not (name_eq n name)) ≡ finmap.remove m name
retain_but m name =
    same_map names_total names_exact _ _ (λ q.
    get-retain_keys m (λ n. not (name_eq n name)) q (λ x t. ap (λ n. not (name_eq n name)) (sym (names_exact q x t)))
    ∙ elim (name_eq q name) as (λ b. cond (not b) (finmap.get m q) None ≡ cond b None (finmap.get m q)) [ true ↦ refl | false ↦ refl ]
    ∙ ap (λ b. cond b None (finmap.get m q)) (sym (same_name name q) ∙ (eq_by_cmp_equiv names_total).symm name q)
    ∙ sym (get-remove names_total m name q))

abbrev pub name_of : PlainEntry → NameValue
name_of w = w.key.name

-- a name that is not found is no other's, and the other way round
pub none_named : (q : NameValue) (ws : List PlainEntry) → first_named q ws ≡ None → AllByRecursion (λ w. name_eq w.key.name q ≡ false) ws
none_named q [] none = tt
none_named q (w ∷ ws) none = grind (arith, none-some, none_named q ws)

none_found : (q : NameValue) (ws : List PlainEntry) → AllByRecursion (λ w. name_eq q w.key.name ≡ false) ws → first_named q ws ≡ None
none_found q [] other = refl
none_found q (w ∷ ws) other = ap (λ b. option_map shown (cond b (Some w) (list.find (λ (w : PlainEntry). name_eq w.key.name q) ws))) (nat_list_eq_equiv.symm w.key.name q ∙ other.0) ∙ none_found q ws other.1

abbrev pub released_of : ℕ → List PlainEntry → List Key
released_of slot ws = map (λ w. w.key) (filter (λ w. nat_le w.release slot) ws)

empty_entries : finmap.entries (finmap.empty {X = ℕ × Key} {R = name_cmp}) ≡ []
empty_entries = nil_from_length _ (sym (finmap.len-entries finmap.empty) ∙ finmap.len-empty name_cmp (ℕ × Key))

-- the released keys of the list are those of what it holds, in another order
pub released_held : (slot : ℕ) (ws : List PlainEntry) → NamesApart name_of ws → IsPermutation (released_of slot ws) (released slot (queue_of ws))
released_held slot [] once = subst (λ es. IsPermutation [] (map (λ e. e.1) (filter (λ e. nat_le e.0 slot) (map (λ e. e.1) es)))) (sym empty_entries) (IsPermutation-refl [])
released_held slot (w ∷ ws) once =
    let passes : ℕ × Key → Bool = λ e. nat_le e.0 slot in
    let es : List (NameValue × (ℕ × Key)) = finmap.entries (queue_of ws) in
    let rest : IsPermutation (released_of slot ws) (chosen passes (λ e. e.1) es) = released_held slot ws (apart_tail name_of w ws once) in
    let new : find name_cmp w.key.name es ≡ None = sym (get-entries (queue_of ws) w.key.name) ∙ get_held ws w.key.name ∙ none_found w.key.name ws (apart_head name_of w ws once) in
    let more : IsPermutation (released_of slot (w ∷ ws)) (chosen passes (λ e. e.1) (entry w ∷ es)) =
    elim (nat_le w.release slot) as (λ b. IsPermutation (map (λ w. w.key) (cond b (w ∷ filter (λ w. nat_le w.release slot) ws) (filter (λ w. nat_le w.release slot) ws))) (map (λ e. e.1) (cond b ((w.release, w.key) ∷ filter passes (map (λ e. e.1) es)) (filter passes (map (λ e. e.1) es))))) [
      | true ↦ IsPermutation-cons w.key (released_of slot ws) (chosen passes (λ e. e.1) es) rest
      | false ↦ rest
    ] in
    subst (λ l. IsPermutation (released_of slot (w ∷ ws)) (chosen passes (λ e. e.1) l)) (sym (entries-insert names_total (queue_of ws) w.key.name (w.release, w.key)))
    (IsPermutation-trans (released_of slot (w ∷ ws)) (chosen passes (λ e. e.1) (entry w ∷ es)) (chosen passes (λ e. e.1) (put name_cmp w.key.name (w.release, w.key) es)) more (chosen_put passes (λ e. e.1) w.key.name (w.release, w.key) es new))

-- the least of the list are the first by rank of what it holds
pub first_from_least : (slot m : ℕ) (ws : List PlainEntry) (first : List Key) → NamesApart name_of ws → IsKLeast (by_cmp pd2_cmp) m (released_of slot ws) first → first ≡ first_by_rank pd2_cmp m (released slot (queue_of ws))
first_from_least slot m ws first once least =
    let split : IsSplit keys_total (released_of slot ws) first least.2 = split_from_least keys_total (released_of slot ws) first least.2 (once_from_names (released_of slot ws) (apart_map name_of (λ (k : Key). k.name) (λ w. w.key) (λ _. refl) (filter (λ w. nat_le w.release slot) ws) (apart_filter name_of (λ w. nat_le w.release slot) ws once))) least.0 least.3 least.5 in
    by_rank_of_split keys_total (released slot (queue_of ws)) first least.2
    (split_of_permutation keys_total (released_of slot ws) (released slot (queue_of ws)) first least.2 (released_held slot ws once) split) m least.1 least.4

module _ {X : Type 0} where
  -- what stands under a name
  abbrev pub found : List (NameValue × X) → NameValue → Option X
  found es q = lookup (is_at (name_cmp q)) es

  pub find_found : (es : List (NameValue × X)) (q : NameValue) → find name_cmp q es ≡ found es q
  find_found es q = grind arith

  pub get_found : (es : List (NameValue × X)) (q : NameValue) → finmap.get (finmap.from_entries {R = name_cmp} es) q ≡ found es q
  get_found es q = get-from_entries names_total es q ∙ find_found es q

-- what waits under a name by its entry, if there is one
abbrev pub flat : NameValue → Option Entry → Option (ℕ × Key)
flat q None = None
flat q (Some e) = held_under q e.held

pub is_some_under : (q : NameValue) (o : Option HeldKey) → is_some (held_under q o) ≡ is_some o
is_some_under q None = refl
is_some_under q (Some h) = refl

abbrev pub at : Entries → NameValue → Option Entry
at es q = lookup (name_eq q) es

-- an entry of another name
other_entry : (n : NameValue) (o : Option (ℕ × Key)) (es : List (NameValue × (ℕ × Key))) (q : NameValue) → name_eq q n ≡ false → found (with_entry n o es) q ≡ found es q
other_entry n o es q e = grind (arith, tied_names)

no_live : (es : Entries) (q : NameValue) → AllByRecursion (λ y. name_eq q y ≡ false) (keys_of es) → found (live es) q ≡ None
no_live [] q h = refl
no_live (e ∷ es) q h = other_entry e.0 (held_under e.0 e.1.held) (live es) q h.0 ∙ no_live es q h.1

own_entry : (n : NameValue) (o : Option (ℕ × Key)) (es : List (NameValue × (ℕ × Key))) (q : NameValue) → name_eq q n ≡ true → found es q ≡ None → found (with_entry n o es) q ≡ o
own_entry n o es q e none = grind (arith, tied_names)

pub live_found : (es : Entries) (q : NameValue) → IsDistinct name_eq (keys_of es) → found (live es) q ≡ flat q (at es q)
unfolding IsDistinct
live_found [] q h = refl
live_found (e ∷ es) q h =
    elim (name_eq q e.0) as (λ b. name_eq q e.0 ≡ b → found (with_entry e.0 (held_under e.0 e.1.held) (live es)) q ≡ flat q (cond b (Some e.1) (at es q))) [
      | true ↦ λ t.
          let same : q ≡ e.0 = names_exact q e.0 ((Equal-is (name_cmp q e.0)).0 (tied_names q e.0 ∙ t)) in
          own_entry e.0 (held_under e.0 e.1.held) (live es) q t (subst (λ x. found (live es) x ≡ None) (sym same) (no_live es e.0 h.0)) ∙ ap (λ n. held_under n e.1.held) (sym same)
      | false ↦ λ t. other_entry e.0 (held_under e.0 e.1.held) (live es) q t ∙ live_found es q h.1
    ] refl

-- what waits under a name
pub queue_at : (es : Entries) (q : NameValue) → IsDistinct name_eq (keys_of es) → finmap.get (queue_in es) q ≡ flat q (at es q)
queue_at es q h = get_found (live es) q ∙ live_found es q h

symm : (a b : NameValue) → is_at (name_cmp a) b ≡ name_eq b a
symm a b = (eq_by_cmp_equiv names_total).symm a b ∙ tied_names b a

module _ (es fs : Entries) (one : IsDistinct name_eq (keys_of es)) (two : IsDistinct name_eq (keys_of fs)) where
  -- entries of which one name's is another make the map with that
  pub queue_put : (s : NameValue) (w : Entry) (v : ℕ × Key) → held_under s w.held ≡ Some v → ((q : NameValue) → at fs q ≡ cond (name_eq s q) (Some w) (at es q)) → queue_in fs ≡ finmap.insert (queue_in es) s v
  queue_put s w v has h = same_map names_total names_exact _ _ (λ q.
      queue_at fs q two ∙ ap (flat q) (h q)
      ∙ elim (name_eq s q) as (λ b. name_eq s q ≡ b → flat q (cond b (Some w) (at es q)) ≡ cond b (Some v) (flat q (at es q))) [
        | true ↦ λ t. ap (λ n. held_under n w.held) (sym ((bytes_decides s q).0 t)) ∙ has
        | false ↦ λ _. refl
      ] refl
      ∙ ap (λ o. cond (name_eq s q) (Some v) o) (sym (queue_at es q one))
      ∙ sym (get-insert names_total (queue_in es) s v q ∙ ap (λ b. cond b (Some v) (finmap.get (queue_in es) q)) (symm q s)))

  -- or has none
  pub queue_taken : (s : NameValue) (w : Option Entry) → flat s w ≡ None → ((q : NameValue) → at fs q ≡ cond (name_eq s q) w (at es q)) → queue_in fs ≡ finmap.remove (queue_in es) s
  queue_taken s w none h = same_map names_total names_exact _ _ (λ q.
      queue_at fs q two ∙ ap (flat q) (h q)
      ∙ elim (name_eq s q) as (λ b. name_eq s q ≡ b → flat q (cond b w (at es q)) ≡ cond b None (flat q (at es q))) [
        | true ↦ λ t. ap (λ n. flat n w) (sym ((bytes_decides s q).0 t)) ∙ none
        | false ↦ λ _. refl
      ] refl
      ∙ ap (λ o. cond (name_eq s q) None o) (sym (queue_at es q one))
      ∙ sym (get-remove names_total (queue_in es) s q ∙ ap (λ b. cond b None (finmap.get (queue_in es) q)) (symm q s)))

-- entries without a key make no difference
pub live_kept : (es : Entries) → live (filter (λ (e : NameValue × Entry). is_some e.1.held) es) ≡ live es
live_kept [] = refl
live_kept (e ∷ es) = grind (arith, filter, live_kept es)

-- nothing waits under a name that has no entry
pub none_there : (es : Entries) (name : NameValue) → IsDistinct name_eq (keys_of es) → at es name ≡ None → finmap.get (queue_in es) name ≡ None
none_there es name h none = queue_at es name h ∙ ap (flat name) none

key_entry : (es : Entries) (i : ℕ) (d : NameValue) → i < length (keys_of es) → IsEntryOf es (get_or (keys_of es) i d) i
key_entry [] i d h = absurd (omega (arith, h))
key_entry (e ∷ es) zero d h = (e.1, refl)
key_entry (e ∷ es) (suc i) d h = key_entry es i d (omega (arith, h))

pub entry_at : (es : Entries) (n : NameValue) (i : ℕ) → position (name_eq n) (keys_of es) ≡ Some i → IsEntryOf es n i
entry_at es n i p =
    let q = position-Some (name_eq n) (keys_of es) i n p in
    subst (λ x. IsEntryOf es x i) (sym ((bytes_decides n (get_or (keys_of es) i n)).0 q.1)) (key_entry es i n q.0)

pub each_entry : (es : Entries) (n : NameValue) (o : Option ℕ) → o ≡ position (name_eq n) (keys_of es) → IfSome o (IsEntryOf es n)
each_entry es n o e = grind (arith, entry_at)

module _ (es : Entries) (name : NameValue) (h : IsDistinct name_eq (keys_of es)) where
  -- what an entry has waits under its name
  pub held_there : (w : Entry) → at es name ≡ Some w → finmap.get (queue_in es) name ≡ held_under name w.held
  held_there w e = queue_at es name h ∙ ap (flat name) e

  pub held_contained : (w : Entry) (b : Bool) → at es name ≡ Some w → b ≡ is_some w.held → finmap.contains_key (queue_in es) name ≡ b
  held_contained w b e is = ap is_some (held_there w e) ∙ is_some_under name w.held ∙ sym is

  pub absent : at es name ≡ None → finmap.contains_key (queue_in es) name ≡ false
  absent none = ap is_some (none_there es name h none)

set_same : (es : Entries) (i : ℕ) (w : Entry) → slice_get (map (λ e. e.1) es) i ≡ Some w → set_value_at es i w ≡ es
set_same [] i w e = refl
set_same (e ∷ es) zero w at = ap (λ (x : Entry). (e.0, x) ∷ es) (sym (same_Some e.1 w at))
set_same (e ∷ es) (suc i) w at = ap (λ l. e ∷ l) (set_same es i w at)

module _ {S : Type 0} (m : IndexMap NameValue Entry S) (i : ℕ) (name : NameValue) (unique : IsUnique name_eq m) (there : IsEntryOf m.entries name i) where
  -- what the entry has that is read at the index waits under its name
  pub entry_read : (w : Entry) → slice_get (values m) i ≡ Some w → finmap.get (queue_in m.entries) name ≡ held_under name w.held
  entry_read w e =
      let same : there.0 ≡ w = same_Some there.0 w (sym (slice_get-map (λ e. e.1) m.entries i ∙ ap (option_map (λ e. e.1)) there.1) ∙ e) in
      held_there m.entries name unique there.0 (hash_map_get_place nat_list_eq_equiv m i name there.0 unique there.1) ∙ ap (λ (e : Entry). held_under name e.held) same

  -- if it is written back nothing changes
  pub entry_kept : (w : Entry) → slice_get (values m) i ≡ Some w → queue_in (with_value_at m i w).entries ≡ queue_in m.entries
  entry_kept w e = ap queue_in (set_same m.entries i w e)

  still_unique : (w : Entry) → IsUnique name_eq (with_value_at m i w)
  still_unique w = subst (IsDistinct name_eq) (sym (keys-with_value_at m i w)) unique

  -- another one in its place makes the map with that
  pub entry_filled : (w : Entry) (v : ℕ × Key) → held_under name w.held ≡ Some v → queue_in (with_value_at m i w).entries ≡ finmap.insert (queue_in m.entries) name v
  entry_filled w v has = queue_put m.entries (with_value_at m i w).entries unique (still_unique w) name w v has (updates-with_value_at m i w nat_list_eq_equiv unique name there.0 there.1).0

  -- or has none
  pub entry_vacated : (w : Entry) → w.held ≡ None → queue_in (with_value_at m i w).entries ≡ finmap.remove (queue_in m.entries) name
  entry_vacated w none = queue_taken m.entries (with_value_at m i w).entries unique (still_unique w) name (Some w) (ap (held_under name) none) (updates-with_value_at m i w nat_list_eq_equiv unique name there.0 there.1).0
