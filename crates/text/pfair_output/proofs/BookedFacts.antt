-- The rows of a book that is notified of one slot after another.
use Rattle.pfair_output.proofs.Common.{option_map, append-nil, drop_all, length-drop, length-take, same_Some, line, lines_text, first_left, lines_text-append, Table, Tally, Book, lag_of, entered_with, booked, all_booked, slot_booked, all_slots_booked, tally_row, book_rows, rows_booked, ℕ, suc, ◌+◌, ◌-◌, ◌<◌, ◌≤◌, ◌≡◌, refl, ap, ◌∙◌, arith, List, [], ◌∷◌, ◌++◌, Some, map, length, min, take, drop, append_assoc, slice_get, ℤ, decimal, signed_decimal, Share, Announcement, Arrive, Depart, Late, Decision, Decided, NameValue}

-- ---- time

entered_time : (name : NameValue) (weight : Share) (book : Book) → (entered_with name weight book).time ≡ book.time
entered_time name weight book = grind arith

time-booked : (a : Announcement) (d : Decision) (book : Book) → (booked a d book).time ≡ book.time
time-booked (Arrive name weight early) d book = grind (arith, entered_time)
time-booked (Depart name) d book = grind arith
time-booked (Late name index by) d book = refl

pub time-all_booked : (ds : List Decided) (book : Book) → (all_booked ds book).time ≡ book.time
time-all_booked [] book = refl
time-all_booked (d ∷ ds) book = time-all_booked ds (booked d.announcement d.decision book) ∙ time-booked d.announcement d.decision book

-- ---- the task at a place

pub named_at : (book : Book) (place : ℕ) (name : NameValue) (e : NameValue × Tally) → Some name ≡ option_map (λ (e : NameValue × Tally). e.0) (slice_get book.entered place) → slice_get book.entered place ≡ Some e → name ≡ e.0
named_at book place name e named at = same_Some name e.0 (named ∙ ap (option_map (λ (e : NameValue × Tally). e.0)) at)

pub lag_at : (book : Book) (place : ℕ) (e : NameValue × Tally) (numerator : ℤ) (period : ℕ) → Some (numerator, period) ≡ option_map (λ (e : NameValue × Tally). lag_of e.1) (slice_get book.entered place) → slice_get book.entered place ≡ Some e → (numerator, period) ≡ lag_of e.1
lag_at book place e numerator period shown at = same_Some (numerator, period) (lag_of e.1) (shown ∙ ap (option_map (λ (e : NameValue × Tally). lag_of e.1)) at)

pub row_is : (time time' : ℕ) (name : NameValue) (e : NameValue × Tally) (numerator : ℤ) (period : ℕ) → time' ≡ time → name ≡ e.0 → (numerator, period) ≡ lag_of e.1
    → (decimal time' ∷ name ∷ signed_decimal numerator ∷ decimal period ∷ []) ≡ tally_row time e
row_is time time' name e numerator period t n same = λ i. decimal (t i) ∷ n i ∷ signed_decimal (same i).0 ∷ decimal (same i).1 ∷ []

-- ---- rows

-- one task more
pub task_more : (row : NameValue × Tally → List (List ℕ)) (es : List (NameValue × Tally)) (place : ℕ) (before after : List ℕ) → place < length es
    → ((e : NameValue × Tally) → slice_get es place ≡ Some e → after ≡ before ++ line (row e))
    → after ++ lines_text (map row (drop (place + 1) es)) ≡ before ++ lines_text (map row (drop place es))
task_more row es place before after inside grown =
    let t = first_left es place inside in
    rw (grown t.0 t.1, t.2) (append_assoc before (line (row t.0)) (lines_text (map row (drop (place + 1) es))))

-- one slot more
pub booked_more : (ds : List (List Decided)) (ts : List Table) (slot : ℕ) (book book' : Book) (before after : List ℕ) → slot < length ds → slot < length ts
    → ((d : List Decided) (t : Table) → slice_get ds slot ≡ Some d → slice_get ts slot ≡ Some t → book' ≡ slot_booked d t book)
    → ((d : List Decided) (t : Table) → slice_get ds slot ≡ Some d → slice_get ts slot ≡ Some t → after ≡ before ++ lines_text (book_rows (slot_booked d t book)))
    → after ++ lines_text (rows_booked book' (drop (slot + 1) ds) (drop (slot + 1) ts)) ≡ before ++ lines_text (rows_booked book (drop slot ds) (drop slot ts))
booked_more ds ts slot book book' before after inside inside' moved grown =
    let d = first_left ds slot inside in
    let t = first_left ts slot inside' in
    grind (arith, lines_text-append, append_assoc)

pub booked_time : (ds : List (List Decided)) (ts : List Table) (slot : ℕ) (book book' : Book) → slot < length ds → slot < length ts
    → ((d : List Decided) (t : Table) → slice_get ds slot ≡ Some d → slice_get ts slot ≡ Some t → book' ≡ slot_booked d t book)
    → book'.time ≡ book.time + 1
booked_time ds ts slot book book' inside inside' moved =
    let d = first_left ds slot inside in
    let t = first_left ts slot inside' in
    ap (λ (b : Book). b.time) (moved d.0 t.0 d.1 t.1) ∙ ap (λ n. n + 1) (time-all_booked d.0 book)

-- after the last slot nothing is left
pub booked_done : (ds : List (List Decided)) (ts : List Table) (slot : ℕ) (book : Book) (text : List ℕ) → length ds ≤ slot → text ++ lines_text (rows_booked book (drop slot ds) (drop slot ts)) ≡ text
booked_done ds ts slot book text past = ap (λ (l : List (List Decided)). text ++ lines_text (rows_booked book l (drop slot ts))) (drop_all slot ds past) ∙ append-nil text

-- ---- the book, slot after slot

pub over_more : (ds : List (List Decided)) (ts : List Table) (slot : ℕ) (book book' : Book) → slot < length ds → slot < length ts
    → ((d : List Decided) (t : Table) → slice_get ds slot ≡ Some d → slice_get ts slot ≡ Some t → book' ≡ slot_booked d t book)
    → all_slots_booked book' (drop (slot + 1) ds) (drop (slot + 1) ts) ≡ all_slots_booked book (drop slot ds) (drop slot ts)
over_more ds ts slot book book' inside inside' moved =
    let d = first_left ds slot inside in
    let t = first_left ts slot inside' in
    rw (moved d.0 t.0 d.1 t.1, d.2, t.2) refl

pub over_done : (ds : List (List Decided)) (ts : List Table) (slot : ℕ) (book : Book) → length ds ≤ slot → all_slots_booked book (drop slot ds) (drop slot ts) ≡ book
over_done ds ts slot book past = ap (λ (l : List (List Decided)). all_slots_booked book l (drop slot ts)) (drop_all slot ds past)

-- of the slots up to `to` some are left
pub over_more_to : (ds : List (List Decided)) (ts : List Table) (slot to : ℕ) (book book' : Book) → slot < to → slot < length ds → slot < length ts
    → ((d : List Decided) (t : Table) → slice_get ds slot ≡ Some d → slice_get ts slot ≡ Some t → book' ≡ slot_booked d t book)
    → all_slots_booked book' (take (to - (slot + 1)) (drop (slot + 1) ds)) (take (to - (slot + 1)) (drop (slot + 1) ts)) ≡ all_slots_booked book (take (to - slot) (drop slot ds)) (take (to - slot) (drop slot ts))
over_more_to ds ts slot to book book' early inside inside' moved =
    let d = first_left ds slot inside in
    let t = first_left ts slot inside' in
    let next : to - slot ≡ suc (to - (slot + 1)) = omega arith in
    rw (moved d.0 t.0 d.1 t.1, d.2, t.2, next) refl

pub over_done_to : (ds : List (List Decided)) (ts : List Table) (slot to : ℕ) (book : Book) → min (length ds) to ≤ slot
    → all_slots_booked book (take (to - slot) (drop slot ds)) (take (to - slot) (drop slot ts)) ≡ book
over_done_to ds ts slot to book past = none (take (to - slot) (drop slot ds)) (take (to - slot) (drop slot ts)) (let size = length-drop slot ds in let few = length-take (to - slot) (drop slot ds) in omega arith)
  where
    none : (ds : List (List Decided)) (ts : List Table) → length ds ≡ 0 → all_slots_booked book ds ts ≡ book
    none [] ts e = refl
    none (d ∷ ds) ts e = absurd (omega arith)
