-- The turns of a heap, the calendar that fills it, and what both hold of what waits.
use Rattle.pfair_ready.proofs.Common.{IsPermutation, Key, Less, Equal, Greater, NameValue, PopsGreatest, is_due, is_turn_of, name_cmp, nat_cmp, ordering_then, pd2_cmp, AreTurns, HasTurn, KeepsTurns, Turn, turn_cmp, turn_of, ◌≡◌, ℕ, ◌≤◌, true, ◌&&◌, List, ◌∷◌, refl, ◌∙◌, arith, Some, Ordering, All-permutation, IsTaskName, IsNumber, name_of, is_number, name_back, Contains-append_right, same_Some, place_of, at_place, common_steps, ◌<◌, ◌⊎◌, [], length, Option, Contains, IfNone, IfSome, slice_get, slice_index_or, IsHeap, Reverse, Date, later_cmp, Moves, cases_order, leb-true, leb-false, slice_get_past, slice_get-get_or, Calendar, in_bucket, under, IsAmong, IsNear, IsNoted, Keeps, KeepsHeap, heap_items, zero, suc, ◌+◌, inl, inr, Vec, Global, sym, ap, subst, ◌%◌, is_eq, eq_by_cmp, Equal-is, tied_itself, get-empty, get-insert, get-remove, same_map, none-some, Queue, IsCovered, Bool, false, cond, None, nat_eq, slice_set, All-tail, number_of, numbers_order, Contains-permutation, nothing}
use Rattle.std.proofs.lemmas.Bool.Decides.{nat_tests}
use Rattle.pfair_ready.proofs.Names.{names_exact, names_total}
use Rattle.std.proofs.Math.Nat.{div-add-mod}
use Rattle.std.specs.FinMap as finmap

-- The turns of a heap, and their order.

decided : (r s : Ordering) → (r ≡ Equal → ⊥) → ordering_then r s ≡ r
decided Less s apart = refl
decided Equal s apart = absurd (apart refl)
decided Greater s apart = refl

number_cmp : (a b : NameValue) → IsTaskName a → IsTaskName b → nat_cmp (number_of a) (number_of b) ≡ name_cmp a b
number_cmp a b p q = numbers_order (number_of a) (number_of b) (is_number a p) (is_number b q) ∙ (λ i. name_cmp (name_back a p i) (name_back b q i))

-- of keys of different names the order of turns is that of the keys
pub same_order : (k l : Key) (h i : ℕ) → IsTaskName k.name → IsTaskName l.name → (k.name ≡ l.name → ⊥) → pd2_cmp k l ≡ turn_cmp (turn_of l h) (turn_of k i)
same_order k l h i p q apart =
    let other : name_cmp k.name l.name ≡ Equal → ⊥ = λ e. apart (names_exact k.name l.name e) in
    grind (arith, ordering_then, nat_cmp, number_cmp)

same_parts : (a b c d e f : ℕ) → (nat_eq a b && (nat_eq c d && nat_eq e f)) ≡ true → (a ≡ b) × (c ≡ d) × (e ≡ f)
same_parts a b c d e f same = (grind (arith, nat_tests), grind (arith, nat_tests), grind (arith, nat_tests))

-- a turn that is a key's is the one that the key makes
pub own_turn : (t : Turn) (k : Key) → IsNumber t.name.0 → k.name ≡ name_of t.name.0 → is_turn_of k t ≡ true → t ≡ turn_of k t.hint
own_turn t k n named is = grind (arith, same_parts)

pub due_of : (k : Key) (hint slot r : ℕ) → r ≤ slot → is_due (turn_of k hint) slot (Some (r, k)) ≡ true
due_of k hint slot r within = grind (arith, nat_tests)

module _ {turns turns' : List Turn} where
  pub kept_turn : {k : Key} → KeepsTurns turns turns' → HasTurn turns k → HasTurn turns' k
  kept_turn {k} keeps h = grind arith

  pub keeps_both : {more : List Turn} → KeepsTurns turns turns' → KeepsTurns turns' more → KeepsTurns turns more
  keeps_both a b = grind arith

  pub popped_turns : (top : Turn) → IsPermutation turns (top ∷ turns') → PopsGreatest turn_cmp turns top turns' → AreTurns turns → AreTurns turns'
  popped_turns top p greatest h = record {
    order = (greatest h.order).0;
    numbered = All-tail (λ t. IsNumber t.name.0) top turns' (All-permutation (λ t. IsNumber t.name.0) turns (top ∷ turns') p h.numbered);
  }

  pub top_number : (top : Turn) → IsPermutation turns (top ∷ turns') → AreTurns turns → IsNumber top.name.0
  top_number top p h = All-permutation (λ t. IsNumber t.name.0) turns (top ∷ turns') p h.numbered 0 top (omega arith)

-- What a heap has after an element was put in or taken out.

in_cons : {A : Type 0} (y : A) (xs : List A) (x : A) (i : ℕ) → slice_get (y ∷ xs) i ≡ Some x → (y ≡ x) ⊎ Contains xs x
in_cons y xs x i e = grind (arith, same_Some, at_place)

-- an element is the top or stays
pub top_or_stays : {A : Type 0} (top x : A) (xs ys : List A) → IsPermutation xs (top ∷ ys) → Contains xs x → (top ≡ x) ⊎ Contains ys x
top_or_stays top x xs ys p c =
    let at = place_of (top ∷ ys) x (Contains-permutation xs (top ∷ ys) x p c) in
    in_cons top ys x at.0 at.1

pub pushed_more : {A : Type 0} (item x : A) (xs ys : List A) → IsPermutation (item ∷ xs) ys → Contains xs x → Contains ys x
pushed_more item x xs ys p h = Contains-permutation (item ∷ xs) ys x p (Contains-append_right (item ∷ []) xs x h)

pub pushed_top : {A : Type 0} (item : A) (xs ys : List A) → IsPermutation (item ∷ xs) ys → Contains ys item
pushed_top item xs ys p = Contains-permutation (item ∷ xs) ys item p (0, omega arith, refl)

-- a heap's top is taken out
pub popped : {A : Type 0} (o : Option A) (xs ys : List A) (top : A) (n : ℕ) → n ≡ length xs → 0 < length xs → top ≡ slice_index_or xs 0 top
    → IfNone o (n ≡ 0) → IfSome o (λ x. x ≡ slice_index_or xs 0 x) → IfSome o (λ x. IsPermutation xs (x ∷ ys)) → IsPermutation xs (top ∷ ys)
popped o xs ys top n e some t none at p = grind (arith, common_steps)

-- Dates in a heap, and what moves from there to the turns.

pub popped_order : (o : Option (Reverse Date)) (xs ys : List (Reverse Date)) (n : ℕ) → n ≡ length xs → 0 < length xs → IfNone o (n ≡ 0) → IfSome o (λ x. PopsGreatest later_cmp xs x ys) → IsHeap later_cmp xs → IsHeap later_cmp ys
popped_order o xs ys n e some none h up = grind arith

-- one date more has gone
pub moves_more : (slot : ℕ) (date : Date) (Was Is Is' : Date → Type 0) (turns0 turns turns' : List Turn) → Moves slot Was Is turns0 turns
    → KeepsTurns turns turns' → ((d : Date) → Is d → (date ≡ d) ⊎ Is' d) → (Was date → (date.release ≤ slot) × HasTurn turns' date.key)
    → Moves slot Was Is' turns0 turns'
moves_more slot date Was Is Is' turns0 turns turns' m keeps left there = grind (arith, keeps_both, kept_turn)

-- and none
pub moves_kept : (slot : ℕ) (Was Is : Date → Type 0) (turns0 turns turns' : List Turn) → Moves slot Was Is turns0 turns → KeepsTurns turns turns' → Moves slot Was Is turns0 turns'
moves_kept slot Was Is turns0 turns turns' m keeps = grind (arith, keeps_both, kept_turn)

-- The lists of a calendar's near slots, and what moves out of them.

abbrev pub Buckets : Type 0
Buckets = List (Vec Date Global)

abbrev pub Turned : Type 0
Turned = List Turn

-- what stands in a list stands there still, or went with the one that was changed
pub stays_or : (near : Buckets) (i j : ℕ) (d : Date) (b : Vec Date Global) (X : Type 0) → (i ≡ j → Contains (in_bucket (slice_get near i)) d → Contains b.items d ⊎ X) → Contains (in_bucket (slice_get near j)) d → Contains (in_bucket (slice_get (slice_set near i b) j)) d ⊎ X
stays_or [] i j d b X goes h = inl h
stays_or (x ∷ near) zero zero d b X goes h = goes refl h
stays_or (x ∷ near) zero (suc j) d b X goes h = inl h
stays_or (x ∷ near) (suc i) zero d b X goes h = inl h
stays_or (x ∷ near) (suc i) (suc j) d b X goes h = stays_or near i j d b X (λ e. goes (ap suc e)) h

-- the one that was changed
pub at_set : (near : Buckets) (i : ℕ) (b : Vec Date Global) → i < length near → in_bucket (slice_get (slice_set near i b) i) ≡ b.items
at_set [] i b h = absurd (omega (arith, h))
at_set (x ∷ near) zero b h = refl
at_set (x ∷ near) (suc i) b h = at_set near i b (omega (arith, h))

-- a near date is in its list if that has it
pub near_there : (turned : ℕ) (near : Buckets) (i : ℕ) (b : Vec Date Global) (d : Date) → i ≡ d.release % 64 → i < length near → turned < d.release → d.release ≤ turned + 64 → Contains b.items d → IsNear turned (slice_set near i b) d
near_there turned near i b d here inside after within there = grind (arith, slice_set, at_set)

-- an empty one stays empty if another is emptied
none_set : (near : Buckets) (i j : ℕ) (b : Vec Date Global) → b.items ≡ [] → in_bucket (slice_get near j) ≡ [] → in_bucket (slice_get (slice_set near i b) j) ≡ []
none_set [] i j b empty h = h
none_set (x ∷ near) zero zero b empty h = empty
none_set (x ∷ near) zero (suc j) b empty h = h
none_set (x ∷ near) (suc i) zero b empty h = h
none_set (x ∷ near) (suc i) (suc j) b empty h = none_set near i j b empty h

-- two of 64 slots that have one list are the same
same_slot : (from r s : ℕ) → from < r → r ≤ from + 64 → from < s → s ≤ from + 64 → r % 64 ≡ s % 64 → r ≡ s
same_slot from r s a b c d e = let x = div-add-mod r 64 in let y = div-add-mod s 64 in omega (arith, a, b, c, d, e, x, y)

-- a near date stays one if the list of its slot still has it
still_near : (turned turned' : ℕ) (near near' : Buckets) (d : Date) → turned' ≡ turned → Contains (under near' d.release) d → IsNear turned near d → IsNear turned' near' d
still_near turned turned' near near' d same there n = let after = n.after in let within = n.within in record { after = omega (arith, same, after); within = omega (arith, same, within); there = there }

-- a list that has lost nothing
pub keeps_near : (was c c' : Calendar) (i : ℕ) (b : Vec Date Global) → Keeps was c → ((d : Date) → Contains (in_bucket (slice_get c.near.items i)) d → Contains b.items d) → c'.turned ≡ c.turned → c'.near.items ≡ slice_set c.near.items i b → c'.far ≡ c.far
    → Keeps was c'
keeps_near was c c' i b k more turned near far =
    record {
      noted = λ d noted. elim (k.noted d noted) [
        | inl n ↦ inl (still_near _ _ _ _ d turned (subst (λ (x : Buckets). Contains (under x d.release) d) (sym near)
            (elim (stays_or c.near.items i (d.release % 64) d b ⊥ (λ _ h. inl (more d h)) n.there) [ inl there ↦ there | inr none ↦ absurd none ])) n)
        | inr f ↦ inr (subst (λ x. IsAmong (heap_items x) d) (sym far) f)
      ];
      turned = turned ∙ k.turned;
      order = λ h. subst (λ x. IsHeap later_cmp (heap_items x)) (sym far) (k.order h);
    }

-- far dates that have lost none
pub keeps_far : (was c c' : Calendar) → Keeps was c → ((x : Reverse Date) → Contains (heap_items c.far) x → Contains (heap_items c'.far) x) → KeepsHeap later_cmp (heap_items c.far) (heap_items c'.far) → c'.turned ≡ c.turned → c'.near.items ≡ c.near.items → Keeps was c'
keeps_far was c c' k more order turned near =
    record {
      noted = λ d noted. elim (k.noted d noted) [
        | inl n ↦ inl (still_near _ _ _ _ d turned (subst (λ (x : Buckets). Contains (under x d.release) d) (sym near) n.there) n)
        | inr f ↦ inr (more (record { 0 = d }) f)
      ];
      turned = turned ∙ k.turned;
      order = λ h. order (k.order h);
    }

-- nothing is noted if there is neither
pub none_noted : (c : Calendar) → c.near.items ≡ [] → heap_items c.far ≡ [] → (d : Date) → IsNoted c d → ⊥
none_noted c near far d noted = grind arith

-- ---- what moves

-- the date stands at a place of a list, or behind it
abbrev pub IsFrom : List Date → ℕ → Date → Type 0
IsFrom dates place d = (k : ℕ) × (place ≤ k) × (k < length dates) × (slice_index_or dates k d ≡ d)

pub from_next : (dates : List Date) (place : ℕ) (date : Date) → date ≡ slice_index_or dates place date → (d : Date) → IsFrom dates place d → (date ≡ d) ⊎ IsFrom dates (place + 1) d
from_next dates place date at d h = grind (arith, at, slice_get-get_or, same_Some, cases_order)

-- the list of a slot that has come was emptied
pub moves_bucket : (slot s : ℕ) (Was : Date → Type 0) (c c' : Calendar) (dates : List Date) (place : ℕ) (b : Vec Date Global) (turns0 turns turns' : Turned) → Moves slot Was (IsNoted c) turns0 turns
    → c.turned < s → s ≤ c.turned + 64 → s ≤ slot → in_bucket (slice_get c.near.items (s % 64)) ≡ dates → Moves slot (λ d. (d.release ≤ slot) × Contains dates d) (IsFrom dates place) turns turns' → length dates ≤ place
    → c'.turned ≡ c.turned → c'.near.items ≡ slice_set c.near.items (s % 64) b → c'.far ≡ c.far
    → Moves slot Was (IsNoted c') turns0 turns'
moves_bucket slot s Was c c' dates place b turns0 turns turns' m after until come here e past turned near far =
    record {
      keeps = keeps_both m.keeps e.keeps;
      moved = λ d was. elim (m.moved d was) [
        | inl noted ↦ elim noted [
          | inl n ↦
              let there = stays_or c.near.items (s % 64) (d.release % 64) d b ((d.release ≤ slot) × HasTurn turns' d.key)
              (λ same h.
              let is : d.release ≡ s = same_slot c.turned d.release s n.after n.within after until (sym same) in
              elim (e.moved d (omega (arith, is, come), subst (λ (l : List Date). Contains l d) here h)) [
                | inl from ↦ absurd (omega (arith, from.1, from.2, past))
                | inr gone ↦ inr gone
              ]) n.there in
              elim there [
                | inl stays ↦ inl (inl (still_near _ _ _ _ d turned (subst (λ (x : Buckets). Contains (under x d.release) d) (sym near) stays) n))
                | inr gone ↦ inr gone
              ]
          | inr f ↦ inl (inr (subst (λ x. IsAmong (heap_items x) d) (sym far) f))
        ]
        | inr gone ↦ inr (gone.0, kept_turn e.keeps gone.1)
      ];
    }

-- ---- the lists of one slot after another

-- the next one is empty too
pub emptied_next : (near : Buckets) (from ahead : ℕ) (b : Vec Date Global) → b.items ≡ [] → (from + 1 + ahead) % 64 < length near → ((s : ℕ) → from < s → s ≤ from + ahead → under near s ≡ [])
    → (s : ℕ) → from < s → s ≤ from + (ahead + 1) → under (slice_set near ((from + 1 + ahead) % 64) b) s ≡ []
emptied_next near from ahead b empty inside before s after until = grind (arith, none_set, leb-true, leb-false, at_set)

-- or there is none
pub emptied_past : (near : Buckets) (from ahead : ℕ) → length near ≤ (from + 1 + ahead) % 64 → ((s : ℕ) → from < s → s ≤ from + ahead → under near s ≡ []) → (s : ℕ) → from < s → s ≤ from + (ahead + 1) → under near s ≡ []
emptied_past near from ahead past before s after until = grind (arith, leb-true, leb-false, slice_get_past)

-- What waits is in the calendar, or has a turn.

abbrev pub HasDate : Calendar → ℕ → Key → Type 0
HasDate dates r k = (hint : ℕ) × IsNoted dates (record { release = r; hint = hint; key = k })

-- nothing waits
pub covered_none : (held : Queue) (dates : Calendar) (turns : List Turn) → held ≡ finmap.empty → dates.turned ≡ 0 → IsHeap later_cmp (heap_items dates.far) → AreTurns turns → IsCovered 0 held dates turns
covered_none held dates turns none turned order sound = grind (arith, none-some, get-empty)

-- dates and turns that have lost nothing
pub covered_kept : (now : ℕ) (held : Queue) (dates dates' : Calendar) (turns turns' : List Turn) → Keeps dates dates'
    → KeepsTurns turns turns' → IsCovered now held dates turns → IsCovered now held dates' turns'
covered_kept now held dates dates' turns turns' keeps loses_none c =
    record {
      named = c.named;
      turned = let before = c.turned in let same = keeps.turned in omega (arith, same, before);
      order = keeps.order c.order;
      sound = loses_none.sound c.sound;
      covered = λ q r k at. elim (c.covered q r k at) [ inl d ↦ inl (d.0, keeps.noted (record { release = r; hint = d.0; key = k }) d.1) | inr t ↦ inr (t.0, kept_turn loses_none t.1) ];
    }

pub covered_moved : (now slot : ℕ) (held : Queue) (dates dates' : Calendar) (turns turns' : List Turn) → IsCovered now held dates turns → now ≤ slot → Moves slot (IsNoted dates) (IsNoted dates') turns turns' → dates'.turned ≤ slot → IsHeap later_cmp (heap_items dates'.far) → IsCovered slot held dates' turns'
covered_moved now slot held dates dates' turns turns' c within m turned order =
    record {
      named = c.named;
      turned = turned;
      order = order;
      sound = m.keeps.sound c.sound;
      covered = λ q r k at. elim (c.covered q r k at) [
        | inl d ↦ elim (m.moved (record { release = r; hint = d.0; key = k }) d.1) [ inl stays ↦ inl (d.0, stays) | inr gone ↦ inr gone ]
        | inr t ↦ inr (omega (arith, t.0, within), kept_turn m.keeps t.1)
      ];
    }

one_or : {A : Type 0} (b : Bool) (x y : A) (o : Option A) → cond b (Some x) o ≡ Some y → ((b ≡ true) × (x ≡ y)) ⊎ (o ≡ Some y)
one_or b x y o e = grind (arith, same_Some)

-- a key more, with its date or its turn
pub covered_more : (now r : ℕ) (k : Key) (held : Queue) (dates : Calendar) (turns : List Turn) → HasDate dates r k ⊎ ((r ≤ now) × HasTurn turns k) → IsCovered now held dates turns → IsCovered now (finmap.insert held k.name (r, k)) dates turns
covered_more now r k held dates turns here c =
    record {
      named = λ q r' k' at. grind (arith, one_or, eq_by_cmp, get-insert, names_total, names_exact);
      turned = c.turned;
      order = c.order;
      sound = c.sound;
      covered = λ q r' k' at. elim (one_or (eq_by_cmp name_cmp q k.name) (r, k) (r', k') (finmap.get held q) (sym (get-insert names_total held k.name (r, k) q) ∙ at)) [
        | inl own ↦
            subst (λ (x : ℕ × Key). HasDate dates x.0 x.1 ⊎ ((x.0 ≤ now) × HasTurn turns x.1)) own.1 here
        | inr other ↦ c.covered q r' k' other
      ];
    }

kept_entry : {A : Type 0} (b : Bool) (o : Option A) (x : A) → cond b None o ≡ Some x → (b ≡ false) × (o ≡ Some x)
kept_entry b o x e = grind (arith, none-some)

-- what waits under a name after another's key was taken out
pub still_there : (held : Queue) (s q : NameValue) (v : ℕ × Key) → finmap.get (finmap.remove held s) q ≡ Some v → (q ≡ s → ⊥) × (finmap.get held q ≡ Some v)
still_there held s q v at = grind (arith, kept_entry, eq_by_cmp, get-remove, names_total, is_eq, tied_itself)

-- a key less
pub covered_less : (now : ℕ) (held : Queue) (s : NameValue) (dates : Calendar) (turns : List Turn) → IsCovered now held dates turns → IsCovered now (finmap.remove held s) dates turns
covered_less now held s dates turns c = grind (arith, still_there)

-- a key that was put where nothing waited, and taken out again
pub put_back : (held : Queue) (s : NameValue) (v : ℕ × Key) → finmap.contains_key held s ≡ false → finmap.remove (finmap.insert held s v) s ≡ held
put_back held s v vacant = same_map names_total names_exact _ _ (λ q.
    get-remove names_total (finmap.insert held s v) s q ∙ ap (λ o. cond (eq_by_cmp name_cmp q s) None o) (get-insert names_total held s v q) ∙ at q (eq_by_cmp name_cmp q s) refl)
  where
    at : (q : NameValue) (own : Bool) → eq_by_cmp name_cmp q s ≡ own → cond own None (cond own (Some v) (finmap.get held q)) ≡ finmap.get held q
    at q true e = sym (ap (λ (n : NameValue). finmap.get held n) (names_exact q s ((Equal-is (name_cmp q s)).0 e)) ∙ nothing (finmap.get held s) vacant)
    at q false e = refl

-- a turn less, of a key that isn't due
pub covered_popped : (slot : ℕ) (held : Queue) (dates : Calendar) (turns turns' : List Turn) (top : Turn) → IsPermutation turns (top ∷ turns') → AreTurns turns'
    → ((q : NameValue) (r : ℕ) (k : Key) (hint : ℕ) → finmap.get held q ≡ Some (r, k) → r ≤ slot → IsTaskName k.name → top ≡ turn_of k hint → ⊥)
    → IsCovered slot held dates turns → IsCovered slot held dates turns'
covered_popped slot held dates turns turns' top p sound dead c =
    record {
      named = c.named;
      turned = c.turned;
      order = c.order;
      sound = sound;
      covered = λ q r k at. elim (c.covered q r k at) [
        | inl there ↦ inl there
        | inr both ↦ elim (top_or_stays top (turn_of k both.1.hint) turns turns' p both.1.there) [
          | inl same ↦ absurd (dead q r k both.1.hint at both.0 both.1.named same)
          | inr stays ↦ inr (both.0, record { hint = both.1.hint; there = stays; named = both.1.named })
        ]
      ];
    }
