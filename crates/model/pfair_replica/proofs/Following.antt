-- Counters that follow what comes into the rows.
use Rattle.pfair_replica.proofs.Common.{map-append, get_or_from_slice_get, Beginning, beginning_in, first_mark, least_mark, total_count, Replica, numbers_below, mark, frontier, sound_total, ℕ, zero, suc, ◌+◌, ◌≤◌, ◌≡◌, refl, sym, ap, ◌∙◌, arith, min, List, [], ◌∷◌, length, take, map, Some, fold, slice_get, replicate, common_steps, cases_eq, append-nil, length_push, Flat, One, Torn, Held, HeldBelow, Logged, run_from, last_floor, IsRun, IsPart, IsRunBefore, IsLeftAt, ◌-◌, ◌<◌, subst, inl, inr, ⊎_elim, ◌++◌, None, ◌⊎◌, ◌≢◌, eq-eqb, ne_eqb, length-set, get_or-set_other, length-replicate, get_or-replicate, get_or-set_at, slice_get_within, slice_get-get_or, held_join, below_itself, entry_eq, EntryKey, Contents, IsReplica, sound_beginning, entry_key, only, IsTornAt, IsFirstTornIn, IsEarlier, AreCounters, WereBefore, WereApart, cond, Option, ◌==◌, join_none, fold-map, sum_by-replicate, set, held_after}
use Rattle.std.proofs.Math.Seq.{take-length, take-suc}
use Rattle.pfair_replica.proofs.Marks.{some_at, run_is_run, run_ends, run_more, run_begins, last_more, kept_run, run_room}
use Rattle.pfair_replica.proofs.Merging.{Between, between_below}
use Rattle.pfair_replica.proofs.FirstTorn.{earlier_first}

-- What all sound beginnings come to: their least mark, and how many entries they have.

-- ---- of empty rows

abbrev pub none : Beginning
none = record { count = 0; mark = 0 }

least_from_none : (n : ℕ) → fold (λ (least : ℕ) (b : Beginning). min least b.mark) 0 (replicate n none) ≡ 0
least_from_none zero = refl
least_from_none (suc n) = least_from_none n

pub least_of_none : (n : ℕ) → least_mark (replicate n none) ≡ 0
least_of_none zero = refl
least_of_none (suc n) = least_from_none n

pub total_of_none : (n : ℕ) → total_count (replicate n none) ≡ 0
total_of_none n = grind (arith, sum_by-replicate)

-- ---- of those of a replica

all_made : {A : Type 0} (g : ℕ → A) (xs : List A) → ((k : ℕ) (x : A) → slice_get xs k ≡ Some x → x ≡ g k) → (n : ℕ) → n ≤ length xs → take n xs ≡ map g (numbers_below n)
all_made g xs is zero le = refl
all_made g xs is (suc n) le =
    let x = some_at xs n (omega (arith, le)) in
    let here = get_or_from_slice_get xs n x.0 x.0 x.1 ∙ is n x.0 x.1 in
    grind (arith, all_made g xs is n, take-suc, map-append)

module _ (x : Replica) (bs : List Beginning) (so_many : length bs ≡ x.processors) (are : (k : ℕ) (b : Beginning) → slice_get bs k ≡ Some b → b ≡ beginning_in x.capacity (x.at k)) where
  abbrev of_row : ℕ → Beginning
  of_row k = beginning_in x.capacity (x.at k)

  made : bs ≡ map of_row (numbers_below x.processors)
  made = sym (take-length bs) ∙ all_made of_row bs are (length bs) (omega arith) ∙ ap (λ n. map of_row (numbers_below n)) so_many

  pub total_is : total_count bs ≡ sound_total x
  total_is = ap total_count made ∙ fold-map (λ (n : ℕ) (b : Beginning). n + b.count) of_row 0 (numbers_below x.processors)

  first_is : 1 ≤ x.processors → first_mark bs ≡ mark x 0
  first_is some = by bs (omega (arith, some, so_many)) are
    where
      by : (cs : List Beginning) → 1 ≤ length cs → ((k : ℕ) (b : Beginning) → slice_get cs k ≡ Some b → b ≡ of_row k) → first_mark cs ≡ mark x 0
      by [] low each = absurd (omega (arith, low))
      by (b ∷ cs) low each = ap (λ (c : Beginning). c.mark) (each 0 b refl)

  pub least_is : 1 ≤ x.processors → least_mark bs ≡ frontier x
  least_is some =
      (λ i. fold (λ (least : ℕ) (b : Beginning). min least b.mark) (first_is some i) (made i))
      ∙ fold-map (λ (least : ℕ) (b : Beginning). min least b.mark) of_row (mark x 0) (numbers_below x.processors)
      ∙ sym (fold-map min (mark x) (mark x 0) (numbers_below x.processors))

-- Parts of sound beginnings, and what stays of one when something comes into its row.

-- ---- runs

module _ (row : ℕ → Held Logged) where
  -- the whole sound beginning is a part of itself
  pub whole_part : (capacity : ℕ) → IsPart row (beginning_in capacity row)
  whole_part capacity = record { entries = run_from row capacity 1 0; run = run_is_run row capacity 1 0; count = refl; mark = refl }

  -- so many entries of a run are a run
  pub shorter_run : (es : List Logged) (j n floor : ℕ) → j ≤ length es → IsRun row n floor es → (fs : List Logged) × IsRun row n floor fs × (length fs ≡ j)
  shorter_run es zero n floor short run = ([], tt, refl)
  shorter_run [] (suc j) n floor short run = absurd (omega arith)
  shorter_run (e ∷ es) (suc j) n floor short run =
      let more = shorter_run es j (suc n) e.floor (omega arith) run.2 in (e ∷ more.0, (run.0, run.1, more.1), ap suc more.2)

  -- a part with the entry that goes on it
  pub part_more : (part : Beginning) (e : Logged) → IsPart row part → row (part.count + 1) ≡ Some (One e) → part.mark ≤ e.floor → IsPart row (record { count = part.count + 1; mark = e.floor })
  part_more part e p held on =
      let count = p.count in
      let mark = p.mark in
      record {
        entries = p.entries ++ e ∷ [];
        run = run_more row p.entries 1 0 (part.count + 1) e p.run (omega (arith, count)) held (omega (arith, mark, on));
        count = length_push p.entries e ∙ ap (λ n. n + 1) count;
        mark = last_more p.entries 0 e;
      }

  module _ (capacity : ℕ) (part : Beginning) (p : IsPart row part) (room : part.count ≤ capacity) where
    whole_if : run_from row (capacity - part.count) (part.count + 1) (last_floor 0 p.entries) ≡ [] → part ≡ beginning_in capacity row
    whole_if rest =
        let count = p.count in
        let whole : p.entries ≡ run_from row capacity 1 0 =
        sym (append-nil p.entries) ∙ ap (λ es. p.entries ++ es) (sym rest) ∙ run_begins row p.entries 1 0 (capacity - part.count) capacity (part.count + 1) p.run (omega (arith, count, room)) (omega (arith, count)) in
        λ i. record { count = (sym p.count ∙ ap length whole) i; mark = (sym p.mark ∙ ap (last_floor 0) whole) i }

    -- a part that fills the row is the whole
    pub part_full : capacity ≤ part.count → part ≡ beginning_in capacity row
    part_full full = grind (arith, whole_if)

    -- a part on which no entry goes is the whole
    pub part_stops : ((e : Logged) → row (part.count + 1) ≡ Some (One e) → part.mark ≤ e.floor → ⊥) → part ≡ beginning_in capacity row
    part_stops none = let mark = p.mark in whole_if (run_ends row (capacity - part.count) (part.count + 1) (last_floor 0 p.entries) (λ e held on. none e held (omega (arith, mark, on))))

  -- a run's entries are held
  pub run_entry : (es : List Logged) (n floor m : ℕ) → IsRun row n floor es → n ≤ m → m < n + length es → (e : Logged) × (row m ≡ Some (One e))
  run_entry [] n floor m run low high = absurd (omega arith)
  run_entry (e ∷ es) n floor m run low high = ⊎_elim
      (λ same. (e, ap row same ∙ run.0))
      (λ ne. run_entry es (suc n) e.floor m run.2 (omega (arith, low, ne)) (omega (arith, high)))
      (cases_eq m n)

  -- the last entry of a run, if it has any
  last_of : (es : List Logged) (n floor m : ℕ) → IsRun row n floor es → m + 1 ≡ n + length es → (length es ≡ 0) ⊎ ((e : Logged) × (row m ≡ Some (One e)) × (last_floor floor es ≡ e.floor))
  last_of [] n floor m run at = inl refl
  last_of (e ∷ []) n floor m run at = inr (e, ap row (let here : m ≡ n = omega arith in here) ∙ run.0, refl)
  last_of (e ∷ f ∷ es) n floor m run at = ⊎_elim (λ none. absurd (omega (arith, none))) inr (last_of (f ∷ es) (suc n) e.floor m run.2 (omega arith))

  module _ (number : ℕ) (before : IsRunBefore row number) where
    last_before : (length before.entries ≡ 0) ⊎ ((e : Logged) × (row (number - 1) ≡ Some (One e)) × (last_floor 0 before.entries ≡ e.floor))
    last_before = let count = before.count in last_of before.entries 1 0 (number - 1) before.run (omega (arith, count))

    part_to : (floor : ℕ) → last_floor 0 before.entries ≡ floor → IsPart row (record { count = number - 1; mark = floor })
    part_to floor mark = let count = before.count in record { entries = before.entries; run = before.run; count = omega (arith, count); mark = mark }

    no_floor : (es : List Logged) → length es ≡ 0 → last_floor 0 es ≡ 0
    no_floor es none = grind (arith, common_steps)

    -- the part before that number ends with the entry that is held there
    pub part_to_entry : (e : Logged) → row (number - 1) ≡ Some (One e) → IsPart row (record { count = number - 1; mark = e.floor })
    part_to_entry e held = grind (arith, part_to, last_before)

    -- or it is empty
    pub part_to_none : ((e : Logged) → row (number - 1) ≡ Some (One e) → ⊥) → IsPart row (record { count = number - 1; mark = 0 })
    part_to_none nothing = ⊎_elim (λ none. part_to 0 (no_floor before.entries none)) (λ last. absurd (nothing last.0 last.1)) last_before

-- ---- a row that differs at one number

module _ (old now : ℕ → Held Logged) where
  -- a part that ends before that number, or of which none is changed, stays a part
  pub moved_part : (part : Beginning) → ((m : ℕ) → 1 ≤ m → m ≤ part.count → now m ≡ old m) → IsPart old part → IsPart now part
  moved_part part same p = grind (arith, kept_run)

  pub moved_before : (capacity number : ℕ) → 1 ≤ number → number ≤ length (run_from old capacity 1 0) → ((m : ℕ) → 1 ≤ m → m < number → now m ≡ old m) → now 0 ≡ None → IsRunBefore now number
  moved_before capacity number first within same nothing =
      let short = shorter_run old (run_from old capacity 1 0) (number - 1) 1 0 (omega (arith, within)) (run_is_run old capacity 1 0) in
      grind (arith, kept_run)

-- what is left of a sound beginning after something came at one number, and nothing was taken away
pub left_at : (capacity number : ℕ) (old now : ℕ → Held Logged) → 1 ≤ number → now 0 ≡ None → ((m : ℕ) → m ≢ number → now m ≡ old m) → HeldBelow (old number) (now number)
    → IsLeftAt now number (beginning_in capacity old)
left_at capacity number old now first nothing elsewhere below = record {
  stands = λ untorn. moved_part old now (beginning_in capacity old) (λ m low high. ⊎_elim
      (λ same. subst (λ n. now n ≡ old n) (sym same) (kept (untorn (subst (λ n. n ≤ length (run_from old capacity 1 0)) same high)) (entry_at same low high)))
      (λ ne. elsewhere m ne)
      (cases_eq m number)) (whole_part old capacity);
  before = λ within. moved_before old now capacity number first within (λ m low high. elsewhere m (λ same. omega (arith, same, high))) nothing;
}
  where
    kept : now number ≢ Some Torn → ((c : Flat Logged) × (old number ≡ Some c)) → now number ≡ old number
    kept untorn held = ⊎_elim (λ h. h ∙ sym held.1) (λ h. absurd (untorn h)) (below held.0 held.1)

    entry_at : {m : ℕ} → m ≡ number → 1 ≤ m → m ≤ length (run_from old capacity 1 0) → (c : Flat Logged) × (old number ≡ Some c)
    entry_at same low high = (let e = run_entry old (run_from old capacity 1 0) 1 0 number (run_is_run old capacity 1 0) (omega (arith, low, same)) (omega (arith, high, same)) in (One e.0, e.1))

-- ---- one counter changed

set_at : (xs : List Beginning) (p k : ℕ) (y b : Beginning) → p < length xs → slice_get (set xs p y) k ≡ Some b → ((k ≡ p) × (b ≡ y)) ⊎ ((k ≢ p) × (slice_get xs k ≡ Some b))
set_at xs p k y b room e =
    let here = get_or_from_slice_get (set xs p y) k b b e in
    grind (arith, slice_get_within, set, length-set, get_or-set_at, slice_get-get_or, get_or-set_other, cases_eq)

-- the beginnings of a list of rows
abbrev Beginnings : ℕ → Contents → List Beginning → Type 0
Beginnings capacity at xs = (k : ℕ) (b : Beginning) → slice_get xs k ≡ Some b → b ≡ beginning_in capacity (at k)

one_followed : (capacity p : ℕ) (old now : Contents) (xs : List Beginning) (y : Beginning) → p < length xs → y ≡ beginning_in capacity (now p)
    → ((k n : ℕ) → k ≢ p → now k n ≡ old k n) → Beginnings capacity old xs → Beginnings capacity now (set xs p y)
one_followed capacity p old now xs y room is elsewhere h k b e = grind (arith, set_at)

still_torn : (a b : Held Logged) → HeldBelow a b → a ≡ Some Torn → b ≡ Some Torn
still_torn a b below torn = ⊎_elim (λ h. h) (λ h. h) (below Torn torn)

-- ---- after something came at one key

module _ (capacity p i : ℕ) (now : Contents) (xs : List Beginning) (first : Option EntryKey) (w : WereBefore capacity p i now xs first) where
  pub left_by_entry : (b : Beginning) → slice_get xs p ≡ Some b → IsLeftAt (now p) i b
  left_by_entry b e =
      subst (IsLeftAt (now p) i) (sym (w.counters.beginnings p b e))
      (left_at capacity i (w.old p) (now p) w.number w.zero (λ m ne. w.elsewhere p m (λ h. ne h.1)) (w.below p i))

  pub room_by_entry : (b part : Beginning) → slice_get xs p ≡ Some b → part.count ≤ b.count → part.count ≤ capacity
  room_by_entry b part e shorter = grind (arith, run_room)

  elsewhere_torn : (k n : ℕ) → IsTornAt now k n → IsTornAt w.old k n ⊎ ((k ≡ p) × (n ≡ i))
  elsewhere_torn k n torn = grind arith

  module _ (y : Beginning) (room : p < length xs) (is : y ≡ beginning_in capacity (now p)) where
    beginnings_followed : Beginnings capacity now (set xs p y)
    beginnings_followed = one_followed capacity p w.old now xs y room is (λ k n ne. w.elsewhere k n (λ h. ne h.0)) w.counters.beginnings

    pub entry_torn : (result : Option EntryKey) → IsTornAt now p i → IsEarlier first (Some (entry_key p i)) result → AreCounters capacity now (set xs p y) result
    entry_torn result torn e = record {
      beginnings = beginnings_followed;
      torn = earlier_first (IsTornAt w.old) (λ k n. (k ≡ p) × (n ≡ i)) (IsTornAt now) first (Some (entry_key p i)) result w.counters.torn
          ((refl, refl), λ k n h. inr (sym h.0, (let same = h.1 in omega (arith, same)))) e
          (λ k n. still_torn (w.old k n) (now k n) (w.below k n))
          (λ k n h. subst (λ (j : ℕ). IsTornAt now j n) (sym h.0) (subst (IsTornAt now p) (sym h.1) torn))
          elsewhere_torn;
    }

    pub entry_untorn : (IsTornAt now p i → ⊥) → AreCounters capacity now (set xs p y) first
    entry_untorn untorn = grind (arith, beginnings_followed, still_torn, elsewhere_torn)

-- ---- after other rows came in

-- the rows below p have been gone through
pub record Midway (capacity p : ℕ) (other now : Contents) (xs : List Beginning) (first : Option EntryKey) : Type 0 where
  pub apart : WereApart capacity other now xs first
  pub done : (k n : ℕ) → k < p → apart.old k n ≡ now k n

module _ (capacity : ℕ) (other now : Contents) (xs : List Beginning) (first : Option EntryKey) where
  pub midway_end : (p : ℕ) → length xs ≤ p → Midway capacity p other now xs first → AreCounters capacity now xs first
  midway_end p whole m = grind (arith, slice_get_within, still_torn)

  module _ (p : ℕ) (m : Midway capacity p other now xs first) where
    pub midway_as_it_was : ((n : ℕ) → other p n ≡ None) → Midway capacity (p + 1) other now xs first
    midway_as_it_was nothing = record {
      apart = m.apart;
      done = grind (arith, cases_eq);
    }

    abbrev mid : Contents
    mid k n = cond (k == p) (now k n) (m.apart.old k n)

    mid_here : (k n : ℕ) → k ≡ p → mid k n ≡ now k n
    mid_here k n same = ap (λ b. cond b (now k n) (m.apart.old k n)) (eq-eqb k p same)

    mid_there : (k n : ℕ) → k ≢ p → mid k n ≡ m.apart.old k n
    mid_there k n ne = ap (λ b. cond b (now k n) (m.apart.old k n)) (ne_eqb k p ne)

    pub midway_next : (y : Beginning) (found result : Option EntryKey) → p < length xs → y ≡ beginning_in capacity (now p) → IsFirstTornIn now p found → IsEarlier first found result
        → Midway capacity (p + 1) other now (set xs p y) result
    midway_next y found result room is torn e =
        let w = m.apart in
        record {
          apart = record {
            old = mid;
            counters = record {
              beginnings = one_followed capacity p w.old mid xs y room (is ∙ sym (λ i. beginning_in capacity (λ n. mid_here p n refl i))) mid_there w.counters.beginnings;
              torn = earlier_first (IsTornAt w.old) (λ k n. (k ≡ p) × IsTornAt now k n) (IsTornAt mid) first found result w.counters.torn torn e
                  (grind (arith, mid_here, still_torn, mid_there, cases_eq))
                  (λ k n h. mid_here k n h.0 ∙ h.1)
                  (grind (arith, mid_here, mid_there, cases_eq));
            };
            same = λ k nothing n. ⊎_elim (λ same. sym (mid_here k n same)) (λ ne. w.same k nothing n ∙ sym (mid_there k n ne)) (cases_eq k p);
            below = grind (arith, mid_here, below_itself, mid_there, cases_eq);
            within = λ k n h. subst (λ (l : ℕ). (k < l) × (1 ≤ n) × (n ≤ capacity)) (sym (length-set xs p y)) (w.within k n h);
          };
          done = grind (arith, mid_here, mid_there, cases_eq);
        }

-- ---- the counters of a replica

nothing_if : (h : Held Logged) → ((c : Flat Logged) → h ≡ Some c → ⊥) → h ≡ None
nothing_if h none = grind arith

-- a number that no log has
pub none_at_zero : (x : Replica) → IsReplica x → (k : ℕ) → x.at k 0 ≡ None
none_at_zero x r k = nothing_if (x.at k 0) (λ c e. (let low = (r.in_range k 0 c e).1 in omega (arith, low)))

module _ (x : Replica) (xs : List Beginning) (first : Option EntryKey) (counters : AreCounters x.capacity x.at xs first) where
  -- after an entry was joined in
  pub before_entry : (p i : ℕ) (e : Logged) (now : Contents) → 1 ≤ i → IsReplica (record { processors = x.processors; capacity = x.capacity; at = now })
      → ((k n : ℕ) → now k n ≡ held_join entry_eq (x.at k n) (only p i e k n)) → WereBefore x.capacity p i now xs first
  before_entry p i e now low r joined = record {
    old = x.at;
    counters = counters;
    elsewhere = λ k n apart. joined k n ∙ held_after.other x p i e k n apart;
    below = λ k n. between_below (x.at k n) (only p i e k n) (now k n) (inr (joined k n));
    number = low;
    zero = none_at_zero (record { processors = x.processors; capacity = x.capacity; at = now }) r p;
  }

  -- after other rows were joined in, or a part of them
  pub before_join : (other now : Contents) → length xs ≡ x.processors → IsReplica (record { processors = x.processors; capacity = x.capacity; at = now })
      → ((k n : ℕ) → Between (x.at k n) (other k n) (now k n)) → WereApart x.capacity other now xs first
  before_join other now so_many r between = grind (arith, join_none, between_below)

-- if nothing is held
begins_empty : (row : ℕ → Held Logged) → ((n : ℕ) → row n ≡ None) → (capacity : ℕ) → beginning_in capacity row ≡ record { count = 0; mark = 0 }
begins_empty row nothing capacity = grind arith

pub counters_of_nothing : (m capacity : ℕ) (at : Contents) → ((k n : ℕ) → at k n ≡ None) → AreCounters capacity at (replicate m (record { count = 0; mark = 0 })) None
counters_of_nothing m capacity at nothing = record {
  beginnings = λ k b e.
      (let empty : Beginning = record { count = 0; mark = 0 } in
      let within = slice_get_within (replicate m empty) k b e in
      let many = length-replicate m empty in
      sym (get_or_from_slice_get (replicate m empty) k b b e) ∙ get_or-replicate m k empty b (omega (arith, within, many)) ∙ sym (begins_empty (at k) (nothing k) capacity));
  torn = λ k n torn. (let none = sym (nothing k n) ∙ torn in absurd (cc));
}

-- how far the sound beginning of a processor goes
module _ (x : Replica) (r : IsReplica x) (xs : List Beginning) (first : Option EntryKey) (so_many : length xs ≡ x.processors) (counters : AreCounters x.capacity x.at xs first) (k : ℕ) where
  pub counted : (b : Beginning) → slice_get xs k ≡ Some b → (b.count ≡ length (sound_beginning x k)) × (b.count ≤ x.capacity) × (b.mark ≡ mark x k)
  counted b e = grind (arith, run_room)
