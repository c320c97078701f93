-- A book that is notified of a run's slots has the members that stay, with their lags.
use Rattle.pfair_output.proofs.Common.{AllByRecursion, flat_map, map-append, append-nil, flat_map-append, Replica, frontier, said, numbers_below, replica_of, Settings, Origin, Story, Table, machine, members_before, names_task, slot_of, history, world, table, decisions, with_decisions, Tally, Book, empty_book, tally_of, has_run, entered_with, slot_more, is_staying, lag_row, lag_rows, booked, all_booked, slot_booked, all_slots_booked, tally_row, book_rows, rows_booked, all_entered, entered_again, first_book, ℕ, zero, suc, ◌+◌, ◌-◌, ◌≤◌, ◌≡◌, refl, sym, ap, ◌∙◌, arith, subst, true, not, List, [], ◌∷◌, ◌++◌, Some, None, map, length, append_assoc, min, NameValue, Share, Announcement, Arrive, Depart, Late, Dispatch, Decision, Member, Pick, Decided, option_map, none-some, same_Some, first_left, ◌<◌, take, slice_get, length-map, lines_text, lines_text-append, decided_rows, slots_from, decided_below, Bool, false, cond, filter, NamesApart, name_eq, IsWholePlan}
use Rattle.std.specs.Cmp.Lexicographic.{nat_list_eq_equiv}
use Rattle.std.specs.Map.{lookup}
use Rattle.pfair_weight.proofs.NamesApart.{apart_head, apart_nil, apart_tail}
use Rattle.pfair_entry.specs.declared.entry.Said.{Said}
use Rattle.pfair_admission.specs.declared.decision.Decision.TheVariants.{Admitted, Departing, Delayed}
use Rattle.pfair_admission.specs.Admission.{Machine, member_named, decision, newcomer, with_freeing, with_delay, change, effect, present, all_decided, all_decisions, announcements}
use Rattle.pfair_admission.proofs.Deciding.{admitted_new}
use Rattle.pfair_admission.proofs.MemberLists.{each_map}
use Rattle.pfair_table.proofs.TableLaws.{label, named_from, after_table, all_ran_is, each_boundary, rows_apart}
use Rattle.pfair_table.proofs.RunsOn.{slot_more as slot_later}
use Rattle.pfair_output.proofs.BookedFacts.{time-all_booked}
use Rattle.pfair_table.proofs.Runs.{length_numbers}

-- what a book has of a member
abbrev pub shown : ℕ → Member → NameValue × Tally
shown time m = (m.name, record { weight = m.weight; slots = time - m.joined; ran = m.next - 1 })

abbrev pub shown_all : ℕ → List Member → List (NameValue × Tally)
shown_all time ms = map (shown time) (filter is_staying ms)

-- ---- who is present

staying_present : (t : ℕ) (ms : List Member) → filter is_staying (present t ms) ≡ filter is_staying ms
staying_present t [] = refl
staying_present t (m ∷ ms) = grind (arith, staying_present t ms)

-- ---- who enters

no_entry : (time : ℕ) (name : NameValue) (ms : List Member) → member_named ms name ≡ None → lookup (name_eq name) (shown_all time ms) ≡ None
no_entry time name [] none = refl
no_entry time name (m ∷ ms) none = grind (arith, no_entry time name ms)

staying_push : (ms : List Member) (m : Member) → is_staying m ≡ true → filter is_staying (ms ++ m ∷ []) ≡ filter is_staying ms ++ m ∷ []
staying_push [] m e = grind arith
staying_push (x ∷ ms) m e = grind (arith, staying_push ms m e)

-- a newcomer has had no slot and no quantum
new_shown : (t : ℕ) (name : NameValue) (w : Share) (early : Bool) → shown t (newcomer t name w early) ≡ (name, record { weight = w; slots = 0; ran = 0 })
new_shown t name w early = grind arith

entered_new : (t : ℕ) (ms : List Member) (name : NameValue) (w : Share) (early : Bool) (book : Book)
    → book.entered ≡ shown_all t ms → member_named ms name ≡ None
    → (entered_with name w book).entered ≡ shown_all t (ms ++ newcomer t name w early ∷ [])
entered_new t ms name w early book is none = grind (arith, no_entry t name ms, new_shown t name w early, staying_push ms (newcomer t name w early) refl, map-append)

-- ---- who leaves

shown_left : (t : ℕ) (name : NameValue) (slot : ℕ) (ms : List Member) → filter (λ (e : NameValue × Tally). not (name_eq name e.0)) (shown_all t ms) ≡ shown_all t (change name (with_freeing slot) ms)
shown_left t name slot [] = refl
shown_left t name slot (m ∷ ms) = grind (arith, shown_left t name slot ms)

-- ---- who is late

shown_late : (t : ℕ) (name : NameValue) (index by : ℕ) (ms : List Member) → shown_all t (change name (with_delay index by) ms) ≡ shown_all t ms
shown_late t name index by [] = refl
shown_late t name index by (m ∷ ms) = grind (arith, shown_late t name index by ms)

-- ---- one announcement

one_booked : (machine : Machine) (t : ℕ) (ms : List Member) (a : Announcement) (d : Decision) (book : Book)
    → d ≡ decision machine t ms a → book.entered ≡ shown_all t ms
    → (booked a d book).entered ≡ shown_all t (effect t ms a d)
one_booked machine t ms (Arrive name w early) Admitted book is at = entered_new t ms name w early book at (admitted_new machine ms name w is)
one_booked machine t ms (Depart name) (Departing slot) book is at = ap (filter (λ (e : NameValue × Tally). not (name_eq name e.0))) at ∙ shown_left t name slot ms
one_booked machine t ms (Late name index by) Delayed book is at = at ∙ sym (shown_late t name index by ms)
one_booked machine t ms _ _ book is at = at

-- ---- all of a slot

all_of_slot : (machine : Machine) (t : ℕ) (announced : List Said) (ms : List Member) (book : Book)
    → book.entered ≡ shown_all t ms
    → (all_booked (with_decisions announced (all_decisions machine t ms (announcements announced))) book).entered ≡ shown_all t (all_decided machine t ms (announcements announced))
all_of_slot machine t [] ms book at = at
all_of_slot machine t (a ∷ more) ms book at =
    let d = decision machine t ms a.announcement in
    let after = effect t ms a.announcement d in
    all_of_slot machine t more (present t after) (booked a.announcement d book) (one_booked machine t ms a.announcement d book refl at ∙ ap (map (shown t)) (sym (staying_present t after)))

-- ---- the table of a slot

any_of_names : (name : NameValue) (table : Table) → has_run (map (λ (p : Pick). p.name) table) name ≡ names_task name table
any_of_names name [] = refl
any_of_names name (p ∷ table) = grind (arith, any_of_names name table)

turned : (a b : NameValue) → name_eq a b ≡ false → name_eq b a ≡ false
turned a b e = nat_list_eq_equiv.symm b a ∙ e

-- a member has joined by that slot, and its subtasks count from 1
abbrev pub HasJoined : ℕ → Member → Type 0
HasJoined slot m = (m.joined ≤ slot) × (1 ≤ m.next)

shown_more : (slot : ℕ) (rows : Table) (m : Member) → HasJoined slot m → (m.name, slot_more (map (λ (p : Pick). p.name) rows) m.name (shown slot m).1) ≡ shown (slot + 1) (after_table rows m)
shown_more slot rows m h = grind (arith, any_of_names)

stays_after : (rows : Table) (m : Member) → is_staying (after_table rows m) ≡ is_staying m
stays_after rows m = grind arith

all_recorded : (slot : ℕ) (rows : Table) (ms : List Member) → AllByRecursion (HasJoined slot) ms
    → map (λ (e : NameValue × Tally). (e.0, slot_more (map (λ (p : Pick). p.name) rows) e.0 e.1)) (shown_all slot ms) ≡ shown_all (slot + 1) (map (after_table rows) ms)
all_recorded slot rows [] j = refl
all_recorded slot rows (m ∷ ms) j = grind (arith, shown_more, stays_after, all_recorded slot rows ms j.1)

-- ---- slot after slot

module _ (o : Origin) (s : Settings) (x : Story) (named : NamesApart label (members_before o)) (begun : AllByRecursion (HasJoined (slot_of o 0)) (members_before o)) where
  joined_at : (slot : ℕ) (booked : List Said) (members : List Member) → AllByRecursion (HasJoined slot) members → AllByRecursion (HasJoined slot) (all_decided (machine s) slot (present slot members) (announcements booked))
  joined_at slot booked members all = grind (arith, each_boundary)

  ran_is : (t : ℕ) → (history o s x (suc t)).members ≡ map (after_table (table o s x t)) (world o s x t)
  ran_is t = all_ran_is (table o s x t) (rows_apart s.processors (slot_of o t) (world o s x t) (named_from o s named x t)) (world o s x t)

  joined_ran : (slot : ℕ) (rows : Table) (m : Member) → HasJoined slot m → HasJoined (suc slot) (after_table rows m)
  joined_ran slot rows m h = grind arith

  joined_history : (t : ℕ) → AllByRecursion (HasJoined (slot_of o t)) (history o s x t).members
  joined_history zero = begun
  joined_history (suc t) =
      subst (λ (q : ℕ × List Member). AllByRecursion (HasJoined q.0) q.1) (λ i. (sym (slot_later o t) i, sym (ran_is t) i))
      (each_map (HasJoined (slot_of o t)) (HasJoined (suc (slot_of o t))) (after_table (table o s x t)) (joined_ran (slot_of o t) (table o s x t)) (world o s x t) (joined_at (slot_of o t) (x t) (history o s x t).members (joined_history t)))

  -- a book that was notified of so many slots
  abbrev pub book_over : Book → ℕ → Book
  book_over book zero = book
  book_over book (suc t) = slot_booked (decisions o s x t) (table o s x t) (book_over book t)

  pub record IsAfter (t : ℕ) (book : Book) : Type 0 where
    pub time_is : book.time ≡ t
    pub entered_is : book.entered ≡ shown_all (slot_of o t) (history o s x t).members

  -- a slot more
  after_more : (t : ℕ) (book : Book) → IsAfter t book → IsAfter (suc t) (slot_booked (decisions o s x t) (table o s x t) book)
  after_more t book a =
      let slot = slot_of o t in
      let start = (history o s x t).members in
      let world = world o s x t in
      let rows = table o s x t in
      let next : suc slot ≡ slot + 1 = omega arith in
      let opened : book.entered ≡ shown_all slot (present slot start) = a.entered_is ∙ ap (map (shown slot)) (sym (staying_present slot start)) in
      let booked : (all_booked (decisions o s x t) book).entered ≡ shown_all slot world = all_of_slot (machine s) slot (x t) (present slot start) book opened in
      let closed : (slot_booked (decisions o s x t) rows book).entered ≡ shown_all (slot + 1) (map (after_table rows) world) =
      ap (map (λ (e : NameValue × Tally). (e.0, slot_more (map (λ (p : Pick). p.name) rows) e.0 e.1))) booked ∙ all_recorded slot rows world (joined_at slot (x t) start (joined_history t)) in
      let now : t + 1 ≡ suc t = omega arith in
      record {
        time_is = ap (λ n. n + 1) (time-all_booked (decisions o s x t) book ∙ a.time_is) ∙ now;
        entered_is = closed ∙ (λ i. shown_all ((sym next ∙ sym (slot_later o t)) i) (sym (ran_is t) i));
      }

  pub after_all : (book : Book) → IsAfter 0 book → (t : ℕ) → IsAfter t (book_over book t)
  after_all book a zero = a
  after_all book a (suc t) = after_more t (book_over book t) (after_all book a t)

-- ---- where a run begins

lookup_push : (name other : NameValue) (t : Tally) (es : List (NameValue × Tally)) → lookup (name_eq name) es ≡ None → name_eq name other ≡ false → lookup (name_eq name) (es ++ (other, t) ∷ []) ≡ None
lookup_push name other t [] none differ = ap (λ b. cond b (Some t) None) differ
lookup_push name other t (e ∷ es) none differ = grind (arith, lookup_push name other t es)

all_entered_are : (slot : ℕ) (ms : List Member) (book : Book) → NamesApart label ms → AllByRecursion (λ m. tally_of m.name book ≡ None) ms → (all_entered slot ms book).entered ≡ book.entered ++ shown_all slot ms
all_entered_are slot [] book apart none = sym (append-nil book.entered)
all_entered_are slot (m ∷ ms) book apart none =
    let same = all_entered_are slot ms book (apart_tail label m ms apart) none.1 in
    let more = all_entered_are slot ms grown (apart_tail label m ms apart) (others ms (apart_head label m ms apart) none.1) in
    grind (arith, append_assoc)
  where
    entry : NameValue × Tally
    entry = shown slot m

    grown : Book
    grown = record book { entered = book.entered ++ entry ∷ [] }

    others : (ns : List Member) → AllByRecursion (λ (n : Member). name_eq m.name n.name ≡ false) ns → AllByRecursion (λ (n : Member). tally_of n.name book ≡ None) ns → AllByRecursion (λ (n : Member). tally_of n.name grown ≡ None) ns
    others [] differ gone = tt
    others (n ∷ ns) differ gone = (lookup_push n.name m.name entry.1 book.entered gone.0 (turned m.name n.name differ.0), others ns differ.1 gone.1)

none_entered : (ms : List Member) → AllByRecursion (λ (m : Member). tally_of m.name empty_book ≡ None) ms
none_entered [] = tt
none_entered (m ∷ ms) = (refl, none_entered ms)

pub entered_time : (slot : ℕ) (ms : List Member) (book : Book) → (all_entered slot ms book).time ≡ book.time
entered_time slot [] book = refl
entered_time slot (m ∷ ms) book = grind (arith, entered_time slot ms (entered_again slot m book))

pub begins_after : (o : Origin) (s : Settings) (x : Story) (named : NamesApart label (members_before o)) (begun : AllByRecursion (HasJoined (slot_of o 0)) (members_before o)) → IsAfter o s x named begun 0 (first_book o)
begins_after None s x named begun = record { time_is = refl; entered_is = refl }
begins_after (Some c) s x named begun =
    let at : c.slot ≡ c.slot + 0 = omega arith in
    record { time_is = entered_time c.slot c.members empty_book; entered_is = all_entered_are c.slot c.members empty_book named (none_entered c.members) ∙ ap (λ slot. shown_all slot c.members) at }

-- ---- a first run

module _ (s : Settings) (x : Replica) where
  abbrev pub book_after : ℕ → Book
  book_after t = book_over None s (said x) (apart_nil label) tt empty_book t

  pub after_first : (t : ℕ) → IsAfter None s (said x) (apart_nil label) tt t (book_after t)
  after_first t = after_all None s (said x) (apart_nil label) tt empty_book (record { time_is = refl; entered_is = refl }) t

  same_rows : (time : ℕ) (ms : List Member) → map (tally_row time) (map (shown time) ms) ≡ map (lag_row time) ms
  same_rows time [] = refl
  same_rows time (m ∷ ms) = grind (arith, same_rows time ms)

  -- the rows after a slot
  pub rows_after : (t : ℕ) → book_rows (book_after (suc t)) ≡ lag_rows s x t
  rows_after t =
      let a = after_first (suc t) in
      grind (arith, same_rows)

-- ---- the whole

rows_push : (book : Book) (ds : List (List Decided)) (ts : List Table) (d : List Decided) (t : Table) → length ds ≡ length ts
    → rows_booked book (ds ++ d ∷ []) (ts ++ t ∷ []) ≡ rows_booked book ds ts ++ book_rows (slot_booked d t (all_slots_booked book ds ts))
rows_push book [] [] d t e = grind (arith, append-nil)
rows_push book (c ∷ ds) (u ∷ ts) d t e = grind (arith, append_assoc, rows_push (slot_booked c u book) ds ts d t)
rows_push book _ _ d t e = absurd (omega (arith, e))

over_push : (book : Book) (ds : List (List Decided)) (ts : List Table) (d : List Decided) (t : Table) → length ds ≡ length ts
    → all_slots_booked book (ds ++ d ∷ []) (ts ++ t ∷ []) ≡ slot_booked d t (all_slots_booked book ds ts)
over_push book [] [] d t e = refl
over_push book (c ∷ ds) (u ∷ ts) d t e = over_push (slot_booked c u book) ds ts d t (omega arith)
over_push book _ _ d t e = absurd (omega (arith, e))

same_length : {A B C : Type 0} (f : A → B) (g : A → C) (xs : List A) → length (map f xs) ≡ length (map g xs)
same_length f g [] = refl
same_length f g (y ∷ ys) = ap suc (same_length f g ys)

module _ (o : Origin) (s : Settings) (x : Story) (named : NamesApart label (members_before o)) (begun : AllByRecursion (HasJoined (slot_of o 0)) (members_before o)) (book : Book) where
  pub over_slots : (n : ℕ) → all_slots_booked book (map (decisions o s x) (numbers_below n)) (map (table o s x) (numbers_below n)) ≡ book_over o s x named begun book n
  over_slots zero = refl
  over_slots (suc n) = grind (arith, over_slots n, over_push, same_length, map-append)

module _ (s : Settings) (x : Replica) where
  -- the rows of the book that is notified of the first n slots are those of the members
  pub rows_of_slots : (n : ℕ) → rows_booked empty_book (map (decisions None s (said x)) (numbers_below n)) (map (table None s (said x)) (numbers_below n)) ≡ flat_map (lag_rows s x) (numbers_below n)
  rows_of_slots zero = refl
  rows_of_slots (suc n) =
      let ds = decisions None s (said x) in
      let ts = table None s (said x) in
      let more = rows_push empty_book (map ds (numbers_below n)) (map ts (numbers_below n)) (ds n) (ts n) (same_length ds ts (numbers_below n)) in
      rw (map-append ds (numbers_below n) (n ∷ []), map-append ts (numbers_below n) (n ∷ []), more, rows_of_slots n, over_slots None s (said x) (apart_nil label) tt empty_book n, flat_map-append (lag_rows s x) (numbers_below n) (n ∷ []), append-nil (lag_rows s x n))
      (ap (λ l. flat_map (lag_rows s x) (numbers_below n) ++ l) (rows_after s x n))

-- the rows of a first run's whole plan
pub whole_rows : (d : Dispatch) → d.origin ≡ None → IsWholePlan d → rows_booked empty_book d.decided d.tables ≡ flat_map (lag_rows d.settings (replica_of d.replica)) (numbers_below (min (frontier (replica_of d.replica)) d.settings.slots))
whole_rows d first whole = grind (arith, rows_of_slots)

-- The book before a run's first slot.

entered_more : (slot : ℕ) (ms : List Member) (place : ℕ) (m : Member) (b : Book) → slice_get ms place ≡ Some m
    → all_entered slot (take (place + 1) ms) b ≡ entered_again slot m (all_entered slot (take place ms) b)
entered_more slot [] place m b at = absurd (none-some m at)
entered_more slot (x ∷ ms) zero m b at = ap (λ (x : Member). entered_again slot x b) (same_Some x m at)
entered_more slot (x ∷ ms) (suc place) m b at = grind (arith, entered_more slot ms place m (entered_again slot x b) at)

pub entered_next : (slot : ℕ) (ms : List Member) (place : ℕ) (before after : Book) → place < length ms → before ≡ all_entered slot (take place ms) empty_book
    → ((m : Member) → slice_get ms place ≡ Some m → after ≡ entered_again slot m before) → after ≡ all_entered slot (take (place + 1) ms) empty_book
entered_next slot ms place before after inside is next =
    let here = first_left ms place inside in
    next here.0 here.1 ∙ ap (entered_again slot here.0) is ∙ sym (entered_more slot ms place here.0 empty_book here.1)

pub first_time : (o : Origin) → (first_book o).time ≡ 0
first_time None = refl
first_time (Some c) = entered_time c.slot c.members empty_book

pub begun_with : (o : Origin) (slot : ℕ) (ms : List Member) (book : Book) → Some ms ≡ option_map (λ c. c.members) o → Some slot ≡ option_map (λ c. c.slot) o → book ≡ all_entered slot ms empty_book → book ≡ first_book o
begun_with None slot ms book members_are slot_is made = absurd (none-some ms (sym members_are))
begun_with (Some c) slot ms book members_are slot_is made = grind arith

-- What one slot of a script's run adds.

-- how many slots of a script are planned, if its logs settle all of them
pub all_slots : (s t : Settings) (x y : Replica) → s ≡ t → x ≡ y → s.slots ≤ frontier x → s.slots ≡ min (frontier y) t.slots
all_slots s t x y settings held settled = let slots = ap (λ (s : Settings). s.slots) settings in let mark = ap frontier held in omega (arith, slots, mark, settled)

-- ---- the rows of one slot more

pub slots_more : {A : Type 0} (rows : ℕ → A → List (List (List ℕ))) (from to : ℕ) (xs : List A) (x : A) → to ≡ from + length xs → slots_from rows from (xs ++ x ∷ []) ≡ slots_from rows from xs ++ rows to x
slots_more rows from to [] x e = append-nil (rows from x) ∙ ap (λ n. rows n x) (let here : from ≡ to = omega (arith, e) in here)
slots_more rows from to (y ∷ ys) x e = grind (arith, slots_more rows (suc from) to ys x, append_assoc)

-- a text with some rows, and then with more
pub text_more : (start before after : List ℕ) (rows more : List (List (List ℕ))) → before ≡ start ++ lines_text rows → after ≡ before ++ lines_text more → after ≡ start ++ lines_text (rows ++ more)
text_more start before after rows more had has = rw (has, had, lines_text-append rows more) (append_assoc start (lines_text rows) (lines_text more))

module _ (s : Settings) (x : Replica) (n : ℕ) (start before after : List ℕ) where
  next_number : n + 1 ≡ suc n
  next_number = omega arith

  -- a text with the decisions of the slots so far, and then with those of the next one
  pub decisions_more : before ≡ start ++ lines_text (slots_from decided_rows 0 (decided_below s x n)) → after ≡ before ++ lines_text (decided_rows n (decisions None s (said x) n))
      → after ≡ start ++ lines_text (slots_from decided_rows 0 (decided_below s x (n + 1)))
  decisions_more had has =
      let so_far : List (List Decided) = decided_below s x n in
      let long : length so_far ≡ n = length-map (numbers_below n) (decisions None s (said x)) ∙ length_numbers n in
      text_more start before after (slots_from decided_rows 0 so_far) (decided_rows n (decisions None s (said x) n)) had has
      ∙ ap (λ rows. start ++ lines_text rows) (sym (slots_more decided_rows 0 n so_far (decisions None s (said x) n) (omega (arith, long))))
      ∙ ap (λ ds. start ++ lines_text (slots_from decided_rows 0 ds)) (sym (map-append (decisions None s (said x)) (numbers_below n) (n ∷ [])) ∙ ap (decided_below s x) (sym next_number))

  -- a book that was notified of the slots so far, and then of the next one
  pub book_more : (old new : Book) → old ≡ book_after s x n → new ≡ slot_booked (decisions None s (said x) n) (table None s (said x) n) old → new ≡ book_after s x (n + 1)
  book_more old new had has = has ∙ ap (slot_booked (decisions None s (said x) n) (table None s (said x) n)) had ∙ ap (book_after s x) (sym next_number)

  -- a text with the lags of the slots so far, and then with those of the next one
  pub lags_more : (book : Book) → book ≡ book_after s x (n + 1) → before ≡ start ++ lines_text (flat_map (lag_rows s x) (numbers_below n)) → after ≡ before ++ lines_text (book_rows book)
      → after ≡ start ++ lines_text (flat_map (lag_rows s x) (numbers_below (n + 1)))
  lags_more book booked had has = grind (arith, next_number, rows_after, text_more, flat_map, append-nil, flat_map-append)
