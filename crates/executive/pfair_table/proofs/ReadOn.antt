-- Readings of sound beginnings: one entry more, and what a replica that holds more makes of them.
use Rattle.std.proofs.Common.{append_assoc, sum_by}
use Rattle.pfair_table.proofs.Common.{take-append-le, length-append, length-set, get_or-set_other, cases_eq, get_or_from_slice_get, slice_get-get_or, slice_get_within, take-length, take-suc, One, Torn, Logged, Replica, IsReplica, Below, Untorn, numbers_below, sound_beginning, sound_total, said_in, said_behind, said, some_at, held_within, beginnings_grow, IsReadingOf, AreReadFrom, AreReadingsOf, AreSilentAfter, AreWhole, Readings, entries_read, said_by_all, ℕ, zero, suc, ◌+◌, ◌≤◌, ◌<◌, ◌≡◌, refl, sym, ap, subst, same_Some, ◌∙◌, ⊎_elim, arith, List, [], ◌∷◌, ◌++◌, length, take, drop, Some, ◌≢◌, ◌⊎◌, flat_map, slice_get, set, sum_by_push, Reading, flat_map-append, get_or-set_at}
use Rattle.pfair_replica.specs.Counters.{said_at}

-- what some entries say and then the others
said_split : (t k n m : ℕ) (es : List Logged) → said_in t k n (take m es) ++ said_in t k (n + m) (drop m es) ≡ said_in t k n es
said_split t k n zero es = ap (λ j. said_in t k j es) (let none : n + 0 ≡ n = omega arith in none)
said_split t k n (suc m) [] = refl
said_split t k n (suc m) (e ∷ es) = grind (arith, append_assoc, said_split t k (suc n) m es)

-- what is behind the entries that were read, read too
pub read_whole : (x : Replica) (k : ℕ) (before after : Reading) → IsReadingOf k (sound_beginning x k) before → after.count ≡ length (sound_beginning x k)
    → ((t : ℕ) → said_at after.agenda t ≡ said_at before.agenda t ++ said_behind x t k before.count) → IsReadingOf k (sound_beginning x k) after
read_whole x k before after read count says =
    let es = sound_beginning x k in
    record {
      within = omega (arith, count);
      says = λ t. says t
          ∙ ap (λ xs. xs ++ said_behind x t k before.count) (read.says t)
          ∙ ap (λ j. said_in t k 1 (take before.count es) ++ said_in t k j (drop before.count es)) (let next : before.count + 1 ≡ 1 + before.count = omega arith in next)
          ∙ said_split t k 1 before.count es
          ∙ ap (said_in t k 1) (sym (ap (λ n. take n es) count ∙ take-length es));
    }

-- ---- all of them

-- nothing was read of any
abbrev pub AreUnread : List Reading → Type 0
AreUnread rs = (k : ℕ) (r : Reading) → slice_get rs k ≡ Some r → (r.count ≡ 0) × ((t : ℕ) → said_at r.agenda t ≡ [])

-- with one more of which nothing was read
pub unread_push : (rs : List Reading) (r : Reading) → AreUnread rs → (r.count ≡ 0) × ((t : ℕ) → said_at r.agenda t ≡ []) → AreUnread (rs ++ r ∷ [])
unread_push [] r unread none zero q e = subst (λ (q : Reading). (q.count ≡ 0) × ((t : ℕ) → said_at q.agenda t ≡ [])) (same_Some r q e) none
unread_push [] r unread none (suc k) q e = absurd (cc)
unread_push (x ∷ rs) r unread none zero q e = unread zero q e
unread_push (x ∷ rs) r unread none (suc k) q e = unread_push rs r (λ k q e. unread (suc k) q e) none k q e

-- those below p are read to their ends
abbrev pub AreWholeBelow : Replica → List Reading → ℕ → Type 0
AreWholeBelow x rs p = (k : ℕ) (r : Reading) → k < p → slice_get rs k ≡ Some r → r.count ≡ length (sound_beginning x k)

-- ---- one of them read on

module _ (x : Replica) (rs : List Reading) (p : ℕ) (r : Reading) (room : p < length rs) where
  -- the one at that place, or another one, which was there before
  put_at : (k : ℕ) (q : Reading) → slice_get (set rs p r) k ≡ Some q → ((k ≡ p) × (q ≡ r)) ⊎ ((k ≢ p) × (slice_get rs k ≡ Some q))
  put_at k q e =
      let here = get_or_from_slice_get (set rs p r) k q q e in
      grind (arith, slice_get_within, set, length-set, get_or-set_at, slice_get-get_or, get_or-set_other, cases_eq)

  pub readings_put : AreReadingsOf x rs → IsReadingOf p (sound_beginning x p) r → AreReadingsOf x (set rs p r)
  readings_put all read = record { one_each = length-set rs p r ∙ all.one_each; each = λ sound whole k q e. grind (arith, put_at) }

  pub silent_put : {last later : ℕ} → AreSilentAfter last rs → last ≤ later → ((t : ℕ) → later < t → said_at r.agenda t ≡ []) → AreSilentAfter later (set rs p r)
  silent_put silent more here k q t e late = grind (arith, put_at k q e, here t late, silent k q t)

  pub whole_put : AreWholeBelow x rs p → r.count ≡ length (sound_beginning x p) → AreWholeBelow x (set rs p r) (p + 1)
  whole_put below count k q low e = grind (arith, put_at)

-- ---- how many entries were read

-- of readings that are no longer than what g says of their places, so many are first
module _ (g : ℕ → ℕ) (rs : List Reading) where
  count_next : (n : ℕ) → suc n ≤ length rs
      → (r : Reading) × (slice_get rs n ≡ Some r) × (entries_read (take (suc n) rs) ≡ entries_read (take n rs) + r.count) × (sum_by g (numbers_below (suc n)) ≡ sum_by g (numbers_below n) + g n)
  count_next n le =
      let r = some_at rs n (omega (arith, le)) in (
        r.0,
        r.1,
        ap entries_read (take-suc rs n r.0 (omega (arith, le)) ∙ ap (λ y. take n rs ++ y ∷ []) (get_or_from_slice_get rs n r.0 r.0 r.1)) ∙ sum_by_push (λ (r : Reading). r.count) (take n rs) r.0,
        sum_by_push g (numbers_below n) n,
      )

  counts_are : ((k : ℕ) (r : Reading) → slice_get rs k ≡ Some r → r.count ≡ g k) → (n : ℕ) → n ≤ length rs → entries_read (take n rs) ≡ sum_by g (numbers_below n)
  counts_are same zero le = refl
  counts_are same (suc n) le = (let next = count_next n le in omega (arith, next.2, next.3, counts_are same n (omega (arith, le)), same n next.0 next.1))

  counts_within : ((k : ℕ) (r : Reading) → slice_get rs k ≡ Some r → r.count ≤ g k) → (n : ℕ) → n ≤ length rs → entries_read (take n rs) ≤ sum_by g (numbers_below n)
  counts_within within zero le = omega arith
  counts_within within (suc n) le = (let next = count_next n le in omega (arith, next.2, next.3, counts_within within n (omega (arith, le)), within n next.0 next.1))

  -- equal sums of counts that are within their bounds are of equal counts
  same_counts : ((k : ℕ) (r : Reading) → slice_get rs k ≡ Some r → r.count ≤ g k) → (n : ℕ) → n ≤ length rs → sum_by g (numbers_below n) ≤ entries_read (take n rs)
      → (k : ℕ) (r : Reading) → k < n → slice_get rs k ≡ Some r → r.count ≡ g k
  same_counts within zero le all k r low is = absurd (omega (arith, low))
  same_counts within (suc n) le all k r low is =
      let next = count_next n le in
      let so_far = counts_within within n (omega (arith, le)) in
      let here = within n next.0 next.1 in
      let most : sum_by g (numbers_below n) ≤ entries_read (take n rs) = omega (arith, next.2, next.3, all, here) in
      ⊎_elim
      (λ same. (let one : Some r ≡ Some next.0 = sym is ∙ ap (slice_get rs) same ∙ next.1 in let last : r ≡ next.0 = cc in ap (λ (q : Reading). q.count) last ∙ (let e : next.0.count ≡ g n = omega (arith, next.2, next.3, all, here, so_far) in e) ∙ ap g (sym same)))
      (λ ne. same_counts within n (omega (arith, le)) most k r (omega (arith, low, ne)) is)
      (cases_eq k n)

-- ---- a replica that holds more

replica_below : (x y : Replica) → Below x y → y.processors ≡ x.processors → y.capacity ≡ x.capacity → IsReplica y → Untorn y → IsReplica x
replica_below x y below same_p same_c sound whole = record {
  in_range = λ k n c h. (let r = sound.in_range k n c (held_within x y below whole k n c h) in (omega (arith, r.0, same_p), r.1, omega (arith, r.2, same_c)));
  stamped = λ k n e h. sound.stamped k n e (held_within x y below whole k n (One e) h);
}

untorn_below : (x y : Replica) → Below x y → Untorn y → Untorn x
untorn_below x y below whole k n h = whole k n (held_within x y below whole k n Torn h)

-- what was read of a replica was read of one that holds more
pub readings_above : {x y : Replica} {rs : Readings} → AreReadFrom x rs → Below x y → y.processors ≡ x.processors → y.capacity ≡ x.capacity → AreReadFrom y rs
readings_above {x} {y} all below same_p same_c = record {
  are = record {
    one_each = all.are.one_each ∙ sym same_p;
    each = λ sound whole k r h.
        (let read = all.are.each (replica_below x y below same_p same_c sound whole) (untorn_below x y below whole) k r h in
        let grown = beginnings_grow x y sound below whole k in
        grind (arith, length-append, take-append-le));
  };
  counted = all.counted;
  silent = all.silent;
}

-- ---- what all of them say

maps_to : {A B : Type 0} (f : A → List B) (g : ℕ → List B) (xs : List A) → ((k : ℕ) (x : A) → slice_get xs k ≡ Some x → f x ≡ g k) → (n : ℕ) → n ≤ length xs → flat_map f (take n xs) ≡ flat_map g (numbers_below n)
maps_to f g xs same zero le = refl
maps_to f g xs same (suc n) le =
    let x = some_at xs n (omega (arith, le)) in
    let more = take-suc xs n x.0 (omega (arith, le)) ∙ ap (λ y. take n xs ++ y ∷ []) (get_or_from_slice_get xs n x.0 x.0 x.1) in
    grind (arith, more, flat_map-append, maps_to f g xs same n, same n x.0 x.1)

pub whole_at_end : (x : Replica) (rs : List Reading) (p : ℕ) → length rs ≤ p → AreWholeBelow x rs p → AreWhole x rs
whole_at_end x rs p le below k r is = below k r (omega (arith, le, slice_get_within rs k r is)) is

-- all are read to their ends if as many entries were read as there are, and then as many were read
pub whole_by_total : (x : Replica) (rs : List Reading) → AreReadingsOf x rs → IsReplica x → Untorn x → sound_total x ≤ entries_read rs → AreWhole x rs
whole_by_total x rs all sound whole most k r is = grind (arith, same_counts, take-length, slice_get_within)

pub total_by_whole : (x : Replica) (rs : List Reading) → length rs ≡ x.processors → AreWhole x rs → sound_total x ≤ entries_read rs
total_by_whole x rs one_each ends =
    let sums = counts_are (λ (j : ℕ). length (sound_beginning x j)) rs ends (length rs) (omega arith) in
    grind (arith, sums, take-length, one_each)

-- what is read for no slot of any processor isn't said
pub none_said : (rs : List Reading) (t : ℕ) → ((k : ℕ) (r : Reading) → slice_get rs k ≡ Some r → said_at r.agenda t ≡ []) → said_by_all rs t ≡ []
none_said [] t silent = refl
none_said (r ∷ rs) t silent = λ i. silent 0 r refl i ++ none_said rs t (λ k q is. silent (suc k) q is) i

-- readings that are whole say what the replica says
pub whole_said : (x : Replica) (rs : List Reading) → AreReadingsOf x rs → IsReplica x → Untorn x → AreWhole x rs → (t : ℕ) → said_by_all rs t ≡ said x t
whole_said x rs all sound whole ends t =
    ap (flat_map (λ (r : Reading). said_at r.agenda t)) (sym (take-length rs))
    ∙ maps_to (λ (r : Reading). said_at r.agenda t) (λ k. said_in t k 1 (sound_beginning x k)) rs
    (λ k r h. (all.each sound whole k r h).says t ∙ ap (said_in t k 1) (ap (λ n. take n (sound_beginning x k)) (ends k r h) ∙ take-length (sound_beginning x k)))
    (length rs) (omega arith)
    ∙ ap (λ m. flat_map (λ k. said_in t k 1 (sound_beginning x k)) (numbers_below m)) all.one_each
