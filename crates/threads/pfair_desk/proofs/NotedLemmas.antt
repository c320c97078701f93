-- What the notes know of the contents.
use Rattle.pfair_desk.proofs.Common.{get_or_past, length-set, get_or-set_same, get_or-set_other, length-replicate, One, Logged, Replica, with_entry, empty_replica, join, Below, Untorn, ReplicaRows, IsShape, SameShape, IsKey, place_of, DeskView, Keeps, Knowledge, knowing, IsNoted, AllNoted, Grows, KnowMore, IsInOrder, common_steps, ◌≡◌, ⊎_elim, ℕ, ◌+◌, ◌*◌, ◌<◌, ◌≤◌, List, length, Option, Some, None, slice_index_or, slice_set, replicate, sym, ap, ◌∙◌, subst, arith, IfSome, Held, HeldBelow, Flat, entry_eq, entry_exact, held_after, map-append, take_more, replicate_more, get_or-map, length-map, map-set, Agrees, shared, [], ◌∷◌, ◌++◌, map, take, get_or-set_at, held_join, HoldsMore, IsMergeFaultOf}
use Rattle.std.proofs.lemmas.Nat.{mul-add-lt}
use Rattle.std.proofs.Math.Nat.{mul_comm}
use Rattle.pfair_replica.specs.declared.answer.MergeFault.{MergeFault}
use Rattle.pfair_replica.specs.declared.answer.MergeFault.TheVariants.{OtherShape, Memory}
use Rattle.std.proofs.Math.Seq.{map-set_same}
use Rattle.std.proofs.Math.ListN.{get_or-map as seen_or}
use Rattle.once_cell.specs.declared.race.note.Note.{Note}

-- a note that comes to know e
noted_known : (h : Held Logged) (known : Option Logged) (e : Logged) → IsNoted h known → IfSome known (λ y. y ≡ e) → IsNoted h (Some e)
noted_known h known e is agrees = grind arith

-- the entry of a note that knows e is joined in
noted_joined : (h : Held Logged) (known : Option Logged) (e : Logged) → IsNoted h known → IfSome known (λ y. y ≡ e) → held_join entry_eq h (Some (One e)) ≡ Some (One e)
noted_joined h known e is agrees = grind (arith, entry_exact.itself)

noted_one : (h : Held Logged) (known : Option Logged) (e : Logged) (f : Flat Logged) → IsNoted h known → IfSome known (λ y. y ≡ e) → h ≡ Some f → h ≡ Some (One e)
noted_one h known e f is agrees some = grind arith

-- what the key itself holds once the entry that its note knows was joined in
pub joined_now : (x : Replica) (ks : List (Option Logged)) (k n : ℕ) (e : Logged) → AllNoted x ks → IfSome (slice_index_or ks (place_of x.capacity k n) None) (λ y. y ≡ e)
    → (with_entry x k n e).at k n ≡ Some (One e)
joined_now x ks k n e all agrees = held_after.same x k n e ∙ noted_joined (x.at k n) (slice_index_or ks (place_of x.capacity k n) None) e (all k n) agrees

remember : (x : Replica) (ks : List (Option Logged)) (p : ℕ) (e : Logged) → AllNoted x ks → p < length ks
    → IfSome (slice_index_or ks p None) (λ y. y ≡ e) → AllNoted x (slice_set ks p (Some e))
remember x ks p e all within agrees k n = grind (arith, get_or-set_at, noted_known, get_or-set_other)

-- a fact of the key itself and of all others holds of every key
by_keys : (k n : ℕ) (Goal : ℕ → ℕ → Type 0) → Goal k n → ((i j : ℕ) → ((i ≡ k) × (j ≡ n) → ⊥) → Goal i j) → (i j : ℕ) → Goal i j
by_keys k n Goal here rest i j = grind arith

learn : (x : Replica) (ks : List (Option Logged)) (k n : ℕ) (e : Logged) → AllNoted x ks → place_of x.capacity k n < length ks
    → IfSome (slice_index_or ks (place_of x.capacity k n) None) (λ y. y ≡ e) → AllNoted (with_entry x k n e) (slice_set ks (place_of x.capacity k n) (Some e))
learn x ks k n e all within agrees = grind (arith, common_steps, joined_now, get_or-set_same, by_keys, remember)

-- what a desk holds stays when it learns
keeps_learned : (x : Replica) (ks : List (Option Logged)) (k n : ℕ) (e : Logged) → AllNoted x ks → IfSome (slice_index_or ks (place_of x.capacity k n) None) (λ y. y ≡ e)
    → Keeps x (with_entry x k n e)
keeps_learned x ks k n e all agrees i j f = grind (arith, common_steps, joined_now, by_keys, noted_one)

pub place_within : (m c k n : ℕ) → IsKey m c k n → place_of c k n < m * c
place_within m c k n key = grind (arith, mul-add-lt, mul_comm)

-- a key's cell stands at the same place among those of the same desk
pub place_there : (d e : DeskView) (k n p : ℕ) → d ≡ e → p ≡ place_of e.replica.capacity k n → p ≡ place_of d.replica.capacity k n
place_there d e k n p same at = at ∙ sym (ap (λ (x : DeskView). place_of x.replica.capacity k n) same)

-- the same for the values that a body has
pub in_order_after : (processor next : ℕ) (x : Replica) (w : Knowledge) (k n p : ℕ) (e : Logged) (y : Replica) (v : Knowledge) → IsInOrder processor next x w → IsKey x.processors x.capacity k n
    → p ≡ place_of x.capacity k n → v ≡ knowing w p e → IfSome (slice_index_or w.known p None) (λ z. z ≡ e) → y ≡ with_entry x k n e → IsInOrder processor next y v
in_order_after processor next x w k n p e y v is key at known agrees learned = grind (arith, length-set, learn, place_within)

pub keeps_after : (x : Replica) (w : Knowledge) (k n p : ℕ) (e : Logged) (y : Replica) → AllNoted x w.known
    → p ≡ place_of x.capacity k n → IfSome (slice_index_or w.known p None) (λ z. z ≡ e) → y ≡ with_entry x k n e → Keeps x y
keeps_after x w k n p e y all at agrees learned = grind (arith, keeps_learned)

-- what the key holds after that
pub now_one : (x : Replica) (w : Knowledge) (k n p : ℕ) (e : Logged) (y : Replica) → AllNoted x w.known
    → p ≡ place_of x.capacity k n → IfSome (slice_index_or w.known p None) (λ z. z ≡ e) → y ≡ with_entry x k n e → y.at k n ≡ Some (One e)
now_one x w k n p e y all at agrees learned = grind (arith, joined_now)

-- a new desk's fields
pub in_order_fresh : (m c processor : ℕ) (x : Replica) (w : Knowledge) → IsShape m c → x ≡ empty_replica m c → length w.cells ≡ m * c → w.known ≡ replicate (m * c) None → processor < m → IsInOrder processor 1 x w
in_order_fresh m c processor x w shape is cells known row = grind (arith, length-replicate)

-- a merge of equal shapes allocates only for a key at which nothing is held
pub holds_more : (x y : ReplicaRows) (f : MergeFault) → SameShape x y → IsMergeFaultOf x y f → HoldsMore x y
holds_more x y OtherShape same is = absurd (is same)
holds_more x y Memory same is = is.1

pub in_order_next : (processor next : ℕ) (x : Replica) (w : Knowledge) → IsInOrder processor next x w → next ≤ x.capacity → IsInOrder processor (next + 1) x w
in_order_next processor next x w is room = grind arith

pub more_refl : (w : Knowledge) → KnowMore w w
more_refl w = grind arith

pub more_trans : (u v w : Knowledge) → KnowMore u v → KnowMore v w → KnowMore u w
more_trans u v w a b = grind arith

pub noted_more : (h : Held Logged) (old new : Option Logged) → ((e : Logged) → old ≡ Some e → new ≡ Some e) → IsNoted h old → IsNoted h new
noted_more h old new more is = grind arith

pub all_noted_more : (x : Replica) (v w : List (Option Logged)) → Grows v w → AllNoted x v → AllNoted x w
all_noted_more x v w grows all k n = noted_more (x.at k n) _ _ (grows (place_of x.capacity k n)) (all k n)

pub learned_at : (w v : Knowledge) (p : ℕ) (e : Logged) → v ≡ knowing w p e → p < length w.known → slice_index_or v.known p None ≡ Some e
learned_at w v p e is within = rw is (get_or-set_same w.known p (Some e) None within)

pub more_learned : (w v : Knowledge) (p : ℕ) (e : Logged) → v ≡ knowing w p e → IfSome (slice_index_or w.known p None) (λ y. y ≡ e) → KnowMore w v
more_learned w v p e is agrees = grind (arith, length-set, get_or-set_at, get_or_past, get_or-set_other)

-- two contents of which one note knows
noted_join : (h g : Held Logged) (known : Option Logged) → IsNoted h known → IsNoted g known → IsNoted (held_join entry_eq h g) known
noted_join h g known a b = grind (arith, entry_exact.itself)

noted_below : (h g : Held Logged) (known : Option Logged) → HeldBelow h g → IsNoted g known → IsNoted h known
noted_below h g known below is = grind arith

pub join_noted : (x o : Replica) (ks : List (Option Logged)) → x.capacity ≡ o.capacity → AllNoted x ks → AllNoted o ks → AllNoted (join x o) ks
join_noted x o ks same a b k n = grind (arith, noted_join)

pub below_noted : (y z : Replica) (ks : List (Option Logged)) → y.capacity ≡ z.capacity → Below y z → AllNoted z ks → AllNoted y ks
below_noted y z ks same below all k n = grind (arith, noted_below)

pub noted_whole : (z : Replica) (ks : List (Option Logged)) → AllNoted z ks → Untorn z
noted_whole z ks all k n torn = subst (λ c. IsNoted c (slice_index_or ks (place_of z.capacity k n) None)) torn (all k n)

pub kept_noted : (x y : Replica) (ks : List (Option Logged)) → Below x y → AllNoted y ks → Keeps x y
kept_noted x y ks below all k n f is = ⊎_elim (λ same. same) (λ torn. absurd (noted_whole y ks all k n torn)) (below k n f is)

pub in_order_met : (processor next : ℕ) (x y : Replica) (v w : Knowledge) → IsInOrder processor next x v → KnowMore v w → (x.processors ≡ y.processors) × (x.capacity ≡ y.capacity) → AllNoted y w.known → IsInOrder processor next y w
in_order_met processor next x y v w is more same all = grind arith

-- A list seen through a function of its elements, after a push or a write.

abbrev pub says : List (Note Logged) → Knowledge
says ns = record { cells = map (λ x. x.cell) ns; known = map (λ x. x.known) ns }

pub names_push : {N C : Type 0} (f : N → ℕ) (g : C → ℕ) (ns : List N) (n : N) (cs : List C) (i : ℕ) (cell : C)
    → map f ns ≡ take i (map g cs) → i < length cs → cell ≡ slice_index_or cs i cell → f n ≡ g cell → map f (ns ++ n ∷ []) ≡ take (i + 1) (map g cs)
names_push f g ns n cs i cell so_far within is same =
    let long : i < length (map g cs) = omega (arith, length-map cs g) in
    let at : slice_index_or (map g cs) i 0 ≡ f n = get_or-map g cs i cell 0 within ∙ (ap g (sym is) ∙ sym same) in
    map-append f ns (n ∷ []) ∙ (ap (λ l. l ++ f n ∷ []) so_far ∙ (ap (λ y. take i (map g cs) ++ y ∷ []) (sym at) ∙ sym (take_more (map g cs) i 0 long)))

pub blank_push : {N X : Type 0} (f : N → Option X) (ns : List N) (n : N) (i : ℕ) → map f ns ≡ replicate i None → f n ≡ None → map f (ns ++ n ∷ []) ≡ replicate (i + 1) None
blank_push f ns n i so_far none = grind (arith, map-append, replicate_more)

-- what stands at a place, through the function
pub seen_at : {N X : Type 0} (f : N → X) (ns : List N) (p : ℕ) (n : N) (z : X) → p < length ns → n ≡ slice_index_or ns p n → slice_index_or (map f ns) p z ≡ f n
seen_at f ns p n z within is = get_or-map f ns p n z within ∙ ap f (sym is)

-- two lists that look alike, look alike at a place
pub alike_at : {N M X : Type 0} (f : N → X) (g : M → X) (ns : List N) (ms : List M) (p : ℕ) (n : N) (m : M) → map f ns ≡ map g ms → p < length ns → p < length ms
    → n ≡ slice_index_or ns p n → m ≡ slice_index_or ms p m → f n ≡ g m
alike_at f g ns ms p n m alike a b is_n is_m = sym (seen_at f ns p n (f n) a is_n) ∙ (ap (λ l. slice_index_or l p (f n)) alike ∙ seen_at g ms p m (f n) b is_m)

-- what a note list says after one note was put in the place of another of its cell
pub view_learned : (ns : List (Note Logged)) (p : ℕ) (n m : Note Logged) (e : Logged) → n ≡ slice_index_or ns p n → m.cell ≡ n.cell → m.known ≡ Some e
    → says (slice_set ns p m) ≡ knowing (says ns) p e
view_learned ns p n m e is cell known = grind (arith, map-set_same, map-set)

pub view_same : (ns : List (Note Logged)) (p : ℕ) (n m : Note Logged) → n ≡ slice_index_or ns p n → m.cell ≡ n.cell → m.known ≡ n.known
    → says (slice_set ns p m) ≡ says ns
view_same ns p n m is cell known = grind (arith, map-set_same)

pub unknown_at : (ns : List (Note Logged)) (p : ℕ) (n : Note Logged) → n ≡ slice_index_or ns p n → n.known ≡ None → slice_index_or (says ns).known p None ≡ None
unknown_at ns p n is none = ap (λ z. slice_index_or (says ns).known p z) (sym none) ∙ (seen_or (λ x. x.known) ns p n ∙ (ap (λ x. x.known) (sym is) ∙ none))

-- a note list after one note learned what another of its cell knows: it knows no less
pub more_shared : (ns : List (Note Logged)) (p : ℕ) (n m : Note Logged) (theirs : Option Logged) → p < length ns → n ≡ slice_index_or ns p n → m.cell ≡ n.cell → m.known ≡ shared n.known theirs
    → IfSome theirs (Agrees n.known) → KnowMore (says ns) (says (slice_set ns p m))
more_shared ns p n m None within is cell known agrees = rw (view_same ns p n m is cell known) (more_refl (says ns))
more_shared ns p n m (Some e) within is cell known agrees =
    let mine : slice_index_or (says ns).known p None ≡ n.known = seen_at (λ x. x.known) ns p n None within is in
    more_learned (says ns) (says (slice_set ns p m)) p e (view_learned ns p n m e is cell known) (rw mine agrees)

-- and what the other knows
pub shared_at : (ns : List (Note Logged)) (p : ℕ) (n m : Note Logged) (theirs : Option Logged) (e : Logged) → p < length ns → n ≡ slice_index_or ns p n → m.cell ≡ n.cell → m.known ≡ shared n.known theirs
    → theirs ≡ Some e → slice_index_or (says (slice_set ns p m)).known p None ≡ Some e
shared_at ns p n m theirs e within is cell known some =
    let long : p < length (says ns).known = omega (arith, length-map ns (λ (x : Note Logged). x.known)) in
    learned_at (says ns) (says (slice_set ns p m)) p e (view_learned ns p n m e is cell (known ∙ ap (shared n.known) some)) long
