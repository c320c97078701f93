-- The quanta of several slots, row by row and slot by slot.
use Rattle.pfair_c.proofs.Common.{◌≡◌, ◌∙◌, ◌+◌, ℕ, zero, suc, ◌<◌, ◌≤◌, List, [], ◌∷◌, ◌++◌, Some, map, refl, take, drop, set, slice_get, length, get_or, ap, arith, sym, get_or_from_slice_get, windows_of, first_left, ◌-◌, min, append_assoc, length-append, Table, PfairQuantum, quanta_at, quanta_in, rows_of, slot_of, written_over, length-map, Book, Decided, Dispatch, first_time, none-some, same_Some, book_after, book_rows, lags_at, IsPlannedOn, window_row, quantum_row, drop-drop, Origin, Settings, max, course_of, IsStepOf}
use Rattle.pfair_weight.specs.Window.{Share}
use Rattle.pfair_c.specs.declared.window.PfairWindow.{PfairWindow}
use Rattle.pfair_table.specs.declared.slot.Pick.{Pick}
use Rattle.std.proofs.Math.Seq.{take-append_seam, drop-append_seam}
use Rattle.pfair_table.specs.Places.{places_in, IsFit}
use Rattle.std.specs.List.{AllByRecursion}
use Rattle.pfair_output.specs.Lags.{slot_booked, all_slots_booked, first_book}
use Rattle.pfair_output.proofs.BookedFacts.{time-all_booked}
use Rattle.std.proofs.Math.Nat.{le-max_right}
use Rattle.pfair_table.specs.declared.run.Event.TheVariants.{Plan}
use Rattle.pfair_table.specs.declared.answer.Step.TheVariants.{Planned}
use Rattle.pfair_table.specs.Events.{happens, Course}

-- One row more is written over the first of those that were there.

pub one-more-at : {A B : Type 0} (f : A → B) (xs : List A) (rows : List B) (i : ℕ) (d : A)
    → i < length xs → length xs ≤ length rows
    → set (map f (take i xs) ++ drop i rows) i (f (get_or xs i d)) ≡ map f (take (suc i) xs) ++ drop (suc i) rows
one-more-at f [] rows i d inside room = absurd (omega arith)
one-more-at f (a ∷ xs) [] i d inside room = absurd (omega arith)
one-more-at f (a ∷ xs) (b ∷ rows) zero d inside room = refl
one-more-at f (a ∷ xs) (b ∷ rows) (suc i) d inside room = grind (arith, one-more-at f xs rows i d)

pub one-more : {A B : Type 0} (f : A → B) (xs : List A) (rows : List B) (i : ℕ) (x : A)
    → i < length xs → length xs ≤ length rows → x ≡ get_or xs i x
    → set (map f (take i xs) ++ drop i rows) i (f x) ≡ map f (take (suc i) xs) ++ drop (suc i) rows
one-more f xs rows i x inside room is = ap (λ y. set (map f (take i xs) ++ drop i rows) i (f y)) is ∙ one-more-at f xs rows i x inside room

-- the row of what stands at a place is written there
pub one-found-more : {A B : Type 0} (f : A → B) (xs : List A) (old rows new : List B) (i : ℕ) → i < length xs → length xs ≤ length old
    → rows ≡ map f (take i xs) ++ drop i old
    → ((x : A) → slice_get xs i ≡ Some x → new ≡ set rows i (f x))
    → new ≡ map f (take (i + 1) xs) ++ drop (i + 1) old
one-found-more f xs old rows new i inside room before written =
    let here = first_left xs i inside in
    written here.0 here.1
    ∙ ap (λ r. set r i (f here.0)) before
    ∙ one-more f xs old i here.0 inside room (sym (get_or_from_slice_get xs i here.0 here.0 here.1))
    ∙ (let further : suc i ≡ i + 1 = omega arith in ap (λ n. map f (take n xs) ++ drop n old) further)

-- ---- one window more is written over the first of the rows that were there

pub one-window-more : (w : Share) (theta first : ℕ) (rows : List PfairWindow) (i j : ℕ)
    → i < length rows → j ≡ first + i
    → set (windows_of w theta first i ++ drop i rows) i (window_row w j theta) ≡ windows_of w theta first (suc i) ++ drop (suc i) rows
one-window-more w theta first [] i j inside at = absurd (omega arith)
one-window-more w theta first (b ∷ rows) zero j inside at = grind arith
one-window-more w theta first (b ∷ rows) (suc i) j inside at = grind (arith, one-window-more w theta (suc first) rows i j)

so-many : (w : Share) (theta first count : ℕ) → length (windows_of w theta first count) ≡ count
so-many w theta first zero = refl
so-many w theta first (suc n) = ap suc (so-many w theta (suc first) n)

-- a slot has a quantum for each row of its table
pub as-many : (places : List ℕ) (slot k : ℕ) (table : Table) → length (quanta_in places slot k table) ≡ length table
as-many places slot k [] = refl
as-many places slot k (p ∷ more) = ap suc (as-many places slot (suc k) more)

pub as-many-at : (o : Origin) (tables : List Table) (t : ℕ) → length (quanta_at o tables t) ≡ length (slot_of tables t)
as-many-at o tables t = as-many (slot_of (places_in o tables) t) t 0 (slot_of tables t)

-- one row more of a slot's
pub one-quantum-more : (places : List ℕ) (slot k : ℕ) (xs : Table) (rows : List PfairQuantum) (i j : ℕ) (x : Pick)
    → i < length xs → length xs ≤ length rows → j ≡ k + i → x ≡ get_or xs i x
    → set (quanta_in places slot k (take i xs) ++ drop i rows) i (quantum_row slot j x (slice_get places j)) ≡ quanta_in places slot k (take (suc i) xs) ++ drop (suc i) rows
one-quantum-more places slot k [] rows i j x inside room at is = absurd (omega arith)
one-quantum-more places slot k (a ∷ xs) [] i j x inside room at is = absurd (omega arith)
one-quantum-more places slot k (a ∷ xs) (b ∷ rows) zero j x inside room at is = grind arith
one-quantum-more places slot k (a ∷ xs) (b ∷ rows) (suc i) j x inside room at is = grind (arith, one-quantum-more places slot (suc k) xs rows i j x)

-- ---- slots

pub one-slot-more : {B : Type 0} (rows_at : ℕ → List B) (from slot : ℕ) → from ≤ slot
    → rows_of rows_at from (slot + 1 - from) ≡ rows_of rows_at from (slot - from) ++ rows_at slot
one-slot-more rows_at from slot after = grind arith

-- no table has more rows than there are processors
pub rows-fit : (processors : ℕ) (tables : List Table) (t : ℕ) → AllByRecursion (IsFit processors) tables → length (slot_of tables t) ≤ processors
rows-fit processors [] t fit = omega arith
rows-fit processors (table ∷ more) zero fit = fit.0.0
rows-fit processors (table ∷ more) (suc t) fit = rows-fit processors more t fit.1

-- ---- some rows, and then others behind them

pub behind : {B : Type 0} (written more old : List B) → length written ≤ length old
    → take (length written) (written_over written old) ++ written_over more (drop (length written) (written_over written old)) ≡ written_over (written ++ more) old
behind written more old room =
    let first : take (length written) (written_over written old) ≡ written = take-append_seam written (drop (length written) old) in
    let rest : drop (length written) (written_over written old) ≡ drop (length written) old = drop-append_seam written (drop (length written) old) in
    let far : drop (length more) (drop (length written) old) ≡ drop (length (written ++ more)) old =
    drop-drop (length more) (length written) old ∙ ap (λ n. drop n old) (sym (length-append written more)) in
    ap (λ xs. xs ++ written_over more (drop (length written) (written_over written old))) first
    ∙ ap (λ ys. written ++ written_over more ys) rest
    ∙ ap (λ zs. written ++ (more ++ zs)) far
    ∙ sym (append_assoc written more (drop (length (written ++ more)) old))

-- ---- one slot more

-- how many rows are counted
pub slot-counted : {B : Type 0} (rows_at : ℕ → List B) (from slot at more : ℕ) → from ≤ slot → at ≡ length (rows_of rows_at from (slot - from))
    → more ≡ length (rows_at slot) → at + more ≡ length (rows_of rows_at from (slot + 1 - from))
slot-counted rows_at from slot at more after at_is more_is = grind (arith, one-slot-more, length-append)

slot-written : {B : Type 0} (rows_at : ℕ → List B) (from slot at : ℕ) (old rows new : List B) → from ≤ slot
    → at ≡ length (rows_of rows_at from (slot - from)) → length (rows_of rows_at from (slot - from)) ≤ length old
    → rows ≡ written_over (rows_of rows_at from (slot - from)) old
    → new ≡ take at rows ++ written_over (rows_at slot) (drop at rows)
    → new ≡ written_over (rows_of rows_at from (slot + 1 - from)) old
slot-written {B} rows_at from slot at old rows new after at_is room rows_are new_are =
    let before : List B = rows_of rows_at from (slot - from) in
    new_are
    ∙ ap (λ xs. take at xs ++ written_over (rows_at slot) (drop at xs)) rows_are
    ∙ ap (λ n. take n (written_over before old) ++ written_over (rows_at slot) (drop n (written_over before old))) at_is
    ∙ behind before (rows_at slot) old room
    ∙ ap (λ xs. written_over xs old) (sym (one-slot-more rows_at from slot after))

-- the rows of one slot more are written, if there is room
pub written-further : {B : Type 0} (rows_at : ℕ → List B) (from slot at : ℕ) (old rows new : List B) → from ≤ slot
    → (length (rows_of rows_at from (slot - from)) ≤ length old → at ≡ length (rows_of rows_at from (slot - from)))
    → (length (rows_of rows_at from (slot - from)) ≤ length old → rows ≡ written_over (rows_of rows_at from (slot - from)) old)
    → (at + length (rows_at slot) ≤ length old → new ≡ take at rows ++ written_over (rows_at slot) (drop at rows))
    → length (rows_of rows_at from (slot + 1 - from)) ≤ length old → new ≡ written_over (rows_of rows_at from (slot + 1 - from)) old
written-further rows_at from slot at old rows new after at_is rows_are new_are room =
    let whole : length (rows_of rows_at from (slot + 1 - from)) ≡ length (rows_of rows_at from (slot - from)) + length (rows_at slot) =
    ap length (one-slot-more rows_at from slot after) ∙ length-append (rows_of rows_at from (slot - from)) (rows_at slot) in
    let before : length (rows_of rows_at from (slot - from)) ≤ length old = omega arith in
    let here : at ≡ length (rows_of rows_at from (slot - from)) = at_is before in
    slot-written rows_at from slot at old rows new after here before (rows_are before) (new_are (omega arith))

-- no more than fit are counted
pub counted-within : (rows more all most counted next : ℕ) → counted ≡ min rows most → next ≡ min (counted + more) most → all ≡ rows + more → next ≡ min all most
counted-within rows more all most counted next before is whole = omega arith

-- A book of lags that is notified slot by slot, and its rows.

-- ---- what the book is notified of

no_decisions : (b : Book) (n : ℕ) (ts : List Table) → all_slots_booked b (take n []) ts ≡ b
no_decisions b zero ts = refl
no_decisions b (suc n) ts = refl

no_tables : (b : Book) (n : ℕ) (ds : List (List Decided)) → all_slots_booked b ds (take n []) ≡ b
no_tables b n [] = refl
no_tables b zero (d ∷ ds) = refl
no_tables b (suc n) (d ∷ ds) = refl

-- the slots before m, and then n more
given_on : (ds : List (List Decided)) (ts : List Table) (b : Book) (m n k : ℕ) → k ≡ m + n
    → all_slots_booked (all_slots_booked b (take m ds) (take m ts)) (take n (drop m ds)) (take n (drop m ts)) ≡ all_slots_booked b (take k ds) (take k ts)
given_on ds ts b zero n k is = grind arith
given_on ds ts b (suc m) n zero is = absurd (omega arith)
given_on [] ts b (suc m) n (suc k) is = no_decisions b n (take n (drop (suc m) ts))
given_on (d ∷ ds) [] b (suc m) n (suc k) is = no_tables b n (take n (drop m ds))
given_on (d ∷ ds) (t ∷ ts) b (suc m) n (suc k) is = given_on ds ts (slot_booked d t b) m n k (omega arith)

time_after : (ds : List (List Decided)) (ts : List Table) (b : Book) (n : ℕ) → n ≤ length ds → n ≤ length ts
    → (all_slots_booked b (take n ds) (take n ts)).time ≡ b.time + n
time_after ds ts b zero enough enough' = omega arith
time_after [] ts b (suc n) enough enough' = absurd (omega arith)
time_after (d ∷ ds) [] b (suc n) enough enough' = absurd (omega arith)
time_after (d ∷ ds) (t ∷ ts) b (suc n) enough enough' = grind (arith, time-all_booked, time_after ds ts (slot_booked d t b) n)

pub book_time : (d : Dispatch) (n : ℕ) (book : Book) → n ≤ length d.decided → n ≤ length d.tables → book ≡ book_after d n → book.time ≡ n
book_time d n book enough enough' is = grind (arith, time_after, first_time)

pub booked_first : (d : Dispatch) (slots : ℕ) (book next : Book) → book ≡ first_book d.origin
    → next ≡ all_slots_booked book (take (slots - book.time) (drop book.time d.decided)) (take (slots - book.time) (drop book.time d.tables)) → next ≡ book_after d slots
booked_first d slots book next first is = grind (arith, first_time)

pub next_booked : (d : Dispatch) (slot : ℕ) (book next : Book) → slot < length d.decided → slot < length d.tables → book ≡ book_after d slot
    → next ≡ all_slots_booked book (take (slot + 1 - book.time) (drop book.time d.decided)) (take (slot + 1 - book.time) (drop book.time d.tables))
    → next ≡ book_after d (slot + 1)
next_booked d slot book next inside inside' before is = grind (arith, book_time, given_on)

-- ---- rows

-- the lags of one slot more
pub one-more-slot : (d : Dispatch) (from slot : ℕ) (book : Book) → from ≤ slot → book ≡ book_after d (slot + 1)
    → rows_of (lags_at d) from (slot + 1 - from) ≡ rows_of (lags_at d) from (slot - from) ++ book_rows book
one-more-slot d from slot book after given =
    one-slot-more (lags_at d) from slot after ∙ ap (λ (b : Book). rows_of (lags_at d) from (slot - from) ++ book_rows b) (sym given)

pub as-many-more : (d : Dispatch) (from slot : ℕ) (book : Book) → from ≤ slot → book ≡ book_after d (slot + 1)
    → length (rows_of (lags_at d) from (slot + 1 - from)) ≡ length (rows_of (lags_at d) from (slot - from)) + length book.entered
as-many-more d from slot book after given = grind (arith, one-more-slot d from slot book after given, length-append, length-map)

further : {A B : Type 0} (f : A → B) (xs : List A) (i : ℕ) (x : A) → slice_get xs i ≡ Some x → map f (take (suc i) xs) ≡ map f (take i xs) ++ f x ∷ []
further f [] i x at = absurd (none-some x at)
further f (a ∷ xs) zero x at = ap (λ b. f b ∷ []) (same_Some a x at)
further f (a ∷ xs) (suc i) x at = ap (λ l. f a ∷ l) (further f xs i x at)

-- one more is appended
pub one-appended : {A B : Type 0} (f : A → B) (xs : List A) (old rows new : List B) (i : ℕ) → i < length xs → rows ≡ old ++ map f (take i xs)
    → ((x : A) → slice_get xs i ≡ Some x → new ≡ rows ++ f x ∷ []) → new ≡ old ++ map f (take (i + 1) xs)
one-appended f xs old rows new i inside before written =
    let here = first_left xs i inside in
    written here.0 here.1
    ∙ ap (λ r. r ++ f here.0 ∷ []) before
    ∙ append_assoc old (map f (take i xs)) (f here.0 ∷ [])
    ∙ ap (λ l. old ++ l) (sym (further f xs i here.0 here.1))
    ∙ (let next : suc i ≡ i + 1 = omega arith in ap (λ n. old ++ map f (take n xs)) next)

-- the lags of one slot more are appended, if there is room for all
pub pushed : {B : Type 0} (before more all old new : List B) (many room : ℕ) → old ≡ before → all ≡ before ++ more → many ≡ length more
    → (length old + many ≤ room → new ≡ old ++ more) → length all ≤ room → new ≡ all
pushed before more all old new many room was whole are push fit =
    let long : length all ≡ length before + length more = ap length whole ∙ length-append before more in
    let short : length old ≡ length before = ap length was in
    push (omega arith) ∙ ap (λ l. l ++ more) was ∙ sym whole

-- One plan more.

-- a plan that planned a slot has one table more
one-longer : (m e : Dispatch) (slot : ℕ) → course_of e ≡ happens m.settings (course_of m) Plan → IsStepOf m (Planned slot)
    → length e.tables ≡ length m.tables + 1
one-longer m e slot course step = grind (arith, length-append)

pub one-more-plan : (until : ℕ) (d m e : Dispatch) (slot : ℕ) → IsPlannedOn until d m → length m.tables < until
    → course_of e ≡ happens m.settings (course_of m) Plan → e ≡ record m { tables = e.tables; decided = e.decided }
    → IsStepOf m (Planned slot) → IsPlannedOn until d e
one-more-plan until d m e slot on early course rest step =
    let settings : m.settings ≡ d.settings = ap (λ (x : Dispatch). x.settings) on.rest in
    let longer : length e.tables ≡ length m.tables + 1 = one-longer m e slot course step in
    let most : until ≤ max (length d.tables) until = le-max_right (length d.tables) until in
    record {
      count = suc on.count;
      course = course ∙ ap (λ (s : Settings). happens s (course_of m) Plan) settings ∙ ap (λ (c : Course). happens d.settings c Plan) on.course;
      rest = rest ∙ ap (λ (x : Dispatch). record x { tables = e.tables; decided = e.decided }) on.rest;
      no_more = omega arith;
    }
