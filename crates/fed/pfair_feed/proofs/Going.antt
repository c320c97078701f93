-- Followers that go on, and the rows and books of what they plan.
use Rattle.pfair_feed.proofs.Common.{append-nil, length-append, IsPrefixOf, Dispatch, IsGrown, ◌≡◌, ◌≤◌, sym, ap, ◌∙◌, arith, List, [], ◌++◌, length, append_assoc, length-map, replica_of, frontier, numbers_below, empty_replica, mark, IsWholePlan, course_of, Origin, plan, Settings, plan_decisions, Course, begin_at, ℕ, None, map, min, zero, suc, refl, ◌∷◌, fold, cases_order, drop_all, length-take, take_all, take-append-drop, take-append-le, Table, IsBookIfAny, IsBookOf, KeepsUnwritten, Output, book_before, rows_in, ◌+◌, ◌-◌, subst, take, drop, Option, Some, max, Book, Decided, first_book, rows_booked, Lags, drop-append-le, length-drop, header_of, lines_text, ◌<◌, slice_get, slots_from, Tables, PlacedTables, Decisions, WholeRows, appends-more, Appends, Keeps, Follow, news, HasGoneOn, IsCaughtUp, Result, Ok, Err, IsErrAnd, lines_text-append, length_numbers, take-add, drop-append_seam, all_slots_booked, slot_booked, places_after, places_from, places_in, placed_table_rows, table_rows, decided_rows, RowsGoOn}
use Rattle.pfair_output.proofs.BookedFacts.{time-all_booked}
use Rattle.pfair_output.proofs.WorldFacts.{first_time, whole_rows}

-- What plans add to what was planned.

pub prefix_same : {A : Type 0} (xs ys : List A) → ys ≡ xs → IsPrefixOf xs ys
prefix_same xs ys e = ([], append-nil xs ∙ sym e)

pub prefix_trans : {A : Type 0} (xs ys zs : List A) → IsPrefixOf xs ys → IsPrefixOf ys zs → IsPrefixOf xs zs
prefix_trans xs ys zs p q = (p.0 ++ q.0, sym (append_assoc xs p.0 q.0) ∙ ap (λ l. l ++ q.0) p.1 ∙ q.1)

pub longer : {A : Type 0} (xs ys : List A) → IsPrefixOf xs ys → length xs ≤ length ys
longer xs ys p = let l = length-append xs p.0 in let e = ap length p.1 in omega (arith, l, e)

pub grown_same : (d e : Dispatch) → e ≡ d → IsGrown d e
grown_same d e same = grind (arith, prefix_same)

-- The slots of a whole plan.

pub so_many : {A : Type 0} (f : ℕ → A) (n : ℕ) → length (map f (numbers_below n)) ≡ n
so_many f n = length-map (numbers_below n) f ∙ length_numbers n

-- as many slots are planned as are settled
pub planned : (d : Dispatch) → IsWholePlan d → length d.tables ≡ min (frontier (replica_of d.replica)) d.settings.slots
planned d whole = grind (arith, so_many)

-- the tables and the decisions of a first run's whole plan
module _ (d : Dispatch) (first : d.origin ≡ None) (whole : IsWholePlan d) where
  pub tables_first : d.tables ≡ plan None d.settings (replica_of d.replica)
  tables_first = whole.tables_are ∙ ap (λ (o : Origin). plan o d.settings (replica_of d.replica)) first

  pub decided_first : d.decided ≡ plan_decisions None d.settings (replica_of d.replica)
  decided_first = whole.decided_are ∙ ap (λ (o : Origin). plan_decisions o d.settings (replica_of d.replica)) first

-- ---- a dispatcher that holds nothing has planned all that this settles: nothing

mark_none : (processors capacity k : ℕ) → mark (empty_replica processors capacity) k ≡ 0
mark_none processors zero k = refl
mark_none processors (suc capacity) k = refl

least_none : (least : ℕ) (marks : List ℕ) → least ≡ 0 → fold min least marks ≡ 0
least_none least [] e = e
least_none least (m ∷ marks) e = least_none (min least m) marks (omega arith)

frontier_none : (processors capacity : ℕ) → frontier (empty_replica processors capacity) ≡ 0
frontier_none processors capacity = least_none (mark (empty_replica processors capacity) 0) (map (mark (empty_replica processors capacity)) (numbers_below processors)) (mark_none processors capacity 0)

pub whole_start : (o : Origin) (d : Dispatch) (s : Settings) (capacity : ℕ) → course_of d ≡ begin_at o s capacity → IsWholePlan d
whole_start o d s capacity course =
    let held : replica_of d.replica ≡ empty_replica s.processors capacity = ap (λ (c : Course). c.replica) course in
    let settled : frontier (replica_of d.replica) ≡ 0 = ap frontier held ∙ frontier_none s.processors capacity in
    grind arith

-- Books of lags that are notified of some slots, and then of more.

pub booked-append : (book : Book) (ds es : List (List Decided)) (ts us : List Table) → length ds ≡ length ts
    → all_slots_booked book (ds ++ es) (ts ++ us) ≡ all_slots_booked (all_slots_booked book ds ts) es us
booked-append book [] es [] us e = refl
booked-append book [] es (t ∷ ts) us e = absurd (omega arith)
booked-append book (d ∷ ds) es [] us e = absurd (omega arith)
booked-append book (d ∷ ds) es (t ∷ ts) us e = booked-append (slot_booked d t book) ds es ts us (omega arith)

pub rows-append : (book : Book) (ds es : List (List Decided)) (ts us : List Table) → length ds ≡ length ts
    → rows_booked book (ds ++ es) (ts ++ us) ≡ rows_booked book ds ts ++ rows_booked (all_slots_booked book ds ts) es us
rows-append book [] es [] us e = refl
rows-append book [] es (t ∷ ts) us e = absurd (omega arith)
rows-append book (d ∷ ds) es [] us e = absurd (omega arith)
rows-append book (d ∷ ds) es (t ∷ ts) us e = grind (arith, rows-append (slot_booked d t book) ds es ts us, append_assoc)

time-booked : (book : Book) (ds : List (List Decided)) (ts : List Table) → length ds ≡ length ts → (all_slots_booked book ds ts).time ≡ book.time + length ds
time-booked book [] [] e = omega arith
time-booked book [] (t ∷ ts) e = absurd (omega arith)
time-booked book (d ∷ ds) [] e = absurd (omega arith)
time-booked book (d ∷ ds) (t ∷ ts) e = grind (arith, time-all_booked, time-booked (slot_booked d t book) ds ts)

-- the first slots, and those from there up to a later one
joined : {A : Type 0} (xs : List A) (early late : ℕ) → early ≤ late → take early xs ++ take (late - early) (drop early xs) ≡ take late xs
joined xs early late h = sym (take-add early (late - early) xs) ∙ ap (λ n. take n xs) (let e : early + (late - early) ≡ late = omega arith in e)

-- if no slot is behind a place, the place doesn't matter
left_at : {A : Type 0} (xs : List A) (n slot : ℕ) → n ≡ min slot (length xs) → drop n xs ≡ drop slot xs
left_at xs n slot e = grind (arith, cases_order, drop_all)

pub book_grown : (o : Origin) (slot : ℕ) (ts us : List Table) (ds es : List (List Decided)) (book : Book) → length ts ≡ length ds → IsPrefixOf ts us → IsPrefixOf ds es → IsBookOf o slot ts ds book → IsBookOf o slot us es book
book_grown o slot ts us ds es book same more_ts more_ds b = grind (arith, take-append-le, longer)

-- an entry was taken, and more is planned
pub book_after_plans : (output : Output) (slot : ℕ) (d taken after : Dispatch) (book : Option Book) → length d.tables ≡ length d.decided → taken ≡ record d { replica = taken.replica } → IsGrown taken after
    → after.forgotten ≡ taken.forgotten → IsBookIfAny d.origin slot d.tables d.decided book × KeepsUnwritten output d.forgotten slot
    → IsBookIfAny after.origin slot after.tables after.decided book × KeepsUnwritten output after.forgotten slot
book_after_plans output slot d taken after book same rest grown forgotten (b, keeps) = grind (arith, there)
  where
    there : (book : Option Book) → IsBookIfAny d.origin slot d.tables d.decided book → IsBookIfAny after.origin slot after.tables after.decided book
    there None b = tt
    there (Some book) b =
        subst (λ (o : Origin). IsBookOf o slot after.tables after.decided book) (sym (grown.origin_is ∙ ap (λ (x : Dispatch). x.origin) rest))
        (book_grown d.origin slot d.tables after.tables d.decided after.decided book same
        (subst (λ (l : List Table). IsPrefixOf l after.tables) (ap (λ (x : Dispatch). x.tables) rest) grown.tables_go_on)
        (subst (λ (l : List (List Decided)). IsPrefixOf l after.decided) (ap (λ (x : Dispatch). x.decided) rest) grown.decided_go_on) b)

-- ---- the book before a run's first slot

pub book_first : (o : Origin) (slot : ℕ) (ts : List Table) (ds : List (List Decided)) (book : Book) → book ≡ first_book o → IsBookOf o slot ts ds book
book_first o slot ts ds book is =
    let none : book.time ≡ 0 = ap (λ (b : Book). b.time) is ∙ first_time o in
    record {
      early = omega (arith, none);
      there = omega (arith, none);
      booked_is = is ∙ sym (ap (λ n. all_slots_booked (first_book o) (take n ds) (take n ts)) none);
    }

module _ (o : Origin) (ds : List (List Decided)) (ts : List Table) (same : length ts ≡ length ds) where
  -- a book that catches up to a slot
  caught_up : (slot : ℕ) (b0 b1 : Book) → IsBookOf o slot ts ds b0 → b1 ≡ all_slots_booked b0 (take (slot - b0.time) (drop b0.time ds)) (take (slot - b0.time) (drop b0.time ts)) → b1 ≡ book_before o slot ts ds
  caught_up slot b0 b1 b e = e ∙ ap (λ (book : Book). all_slots_booked book (take (slot - b0.time) (drop b0.time ds)) (take (slot - b0.time) (drop b0.time ts))) b.booked_is ∙ from b0.time b.early
    where
      from : (early : ℕ) → early ≤ slot → all_slots_booked (book_before o early ts ds) (take (slot - early) (drop early ds)) (take (slot - early) (drop early ts)) ≡ book_before o slot ts ds
      from early h =
          let n = length-take early ds in
          let m = length-take early ts in
          sym (booked-append (first_book o) (take early ds) (take (slot - early) (drop early ds)) (take early ts) (take (slot - early) (drop early ts)) (omega arith))
          ∙ (λ i. all_slots_booked (first_book o) (joined ds early slot h i) (joined ts early slot h i))

  time_before : (slot : ℕ) → (book_before o slot ts ds).time ≡ min slot (length ts)
  time_before slot = grind (arith, length-take, time-booked, first_time)

  -- the rows from there on
  pub rows_on : (slot : ℕ) (b0 b1 : Book) → IsBookOf o slot ts ds b0 → b1 ≡ all_slots_booked b0 (take (slot - b0.time) (drop b0.time ds)) (take (slot - b0.time) (drop b0.time ts))
      → rows_booked b1 (drop b1.time ds) (drop b1.time ts) ≡ rows_in o Lags slot ts ds
  rows_on slot b0 b1 b e = let caught = caught_up slot b0 b1 b e in grind (arith, caught, time_before, left_at)

  -- the book after all slots
  pub all_booked_before : (slot : ℕ) → all_slots_booked (book_before o slot ts ds) (drop slot ds) (drop slot ts) ≡ all_slots_booked (first_book o) ds ts
  all_booked_before slot =
      let n = length-take slot ds in
      let m = length-take slot ts in
      sym (booked-append (first_book o) (take slot ds) (drop slot ds) (take slot ts) (drop slot ts) (omega arith))
      ∙ (λ i. all_slots_booked (first_book o) (take-append-drop slot ds i) (take-append-drop slot ts i))

  pub book_whole : (slot : ℕ) (b0 b1 b2 : Book) → IsBookOf o slot ts ds b0 → b1 ≡ all_slots_booked b0 (take (slot - b0.time) (drop b0.time ds)) (take (slot - b0.time) (drop b0.time ts))
      → b2 ≡ all_slots_booked b1 (drop b1.time ds) (drop b1.time ts) → IsBookOf o (max slot (length ts)) ts ds b2
  book_whole slot b0 b1 b2 b e e' = let caught = caught_up slot b0 b1 b e in grind (arith, caught, time_before, left_at, all_booked_before, time-booked, first_time, take_all)

-- The rows of slots, and then of more behind them.

-- ---- slot after slot

slots-append : {A : Type 0} (rows : ℕ → A → List (List (List ℕ))) (slot : ℕ) (xs ys : List A) → slots_from rows slot (xs ++ ys) ≡ slots_from rows slot xs ++ slots_from rows (slot + length xs) ys
slots-append rows slot [] ys = ap (λ n. slots_from rows n ys) (let e : slot ≡ slot + 0 = omega arith in e)
slots-append rows slot (x ∷ xs) ys = grind (arith, slots-append rows (suc slot) xs ys, append_assoc)

-- from a slot that isn't behind the first ones
slots_on : {A : Type 0} (rows : ℕ → A → List (List (List ℕ))) (slot : ℕ) (xs ys : List A) → slot ≤ length xs
    → slots_from rows slot (drop slot (xs ++ ys)) ≡ slots_from rows slot (drop slot xs) ++ slots_from rows (length xs) (drop (length xs) (xs ++ ys))
slots_on rows slot xs ys h = grind (arith, length-drop, drop-append-le, slots-append, drop-append_seam)

-- rows that are the same for the slots that there are
slots_same : {A : Type 0} (rows rows' : ℕ → A → List (List (List ℕ))) (slot : ℕ) (xs : List A)
    → ((t : ℕ) (x : A) → slot ≤ t → t < slot + length xs → rows t x ≡ rows' t x) → slots_from rows slot xs ≡ slots_from rows' slot xs
slots_same rows rows' slot [] same = refl
slots_same rows rows' slot (x ∷ xs) same = grind (arith, same, slots_same rows rows' (suc slot) xs)

-- the places of the first tables don't speak of those behind them
places_first : (before : Table) (places : List ℕ) (xs ys : List Table) (t : ℕ) → t < length xs → slice_get (places_from before places (xs ++ ys)) t ≡ slice_get (places_from before places xs) t
places_first before places [] ys t h = absurd (omega arith)
places_first before places (x ∷ xs) ys zero h = refl
places_first before places (x ∷ xs) ys (suc t) h = places_first x (places_after before places x) xs ys t (omega arith)

placed_same : (o : Origin) (ts more : List Table) (slot : ℕ) → slot ≤ length ts
    → slots_from (placed_table_rows (places_in o (ts ++ more))) slot (drop slot ts) ≡ slots_from (placed_table_rows (places_in o ts)) slot (drop slot ts)
placed_same o ts more slot h = grind (arith, length-drop, slots_same, places_first)

-- ---- the law

going : (o : Origin) (output : Output) (slot : ℕ) (ts more : List Table) (ds rest : List (List Decided)) → length ts ≡ length ds → slot ≤ length ts
    → rows_in o output slot (ts ++ more) (ds ++ rest) ≡ rows_in o output slot ts ds ++ rows_in o output (length ts) (ts ++ more) (ds ++ rest)
going o Tables slot ts more ds rest same h = slots_on table_rows slot ts more h
going o PlacedTables slot ts more ds rest same h = grind (arith, slots_on, placed_same)
going o Decisions slot ts more ds rest same h = grind (arith, slots_on)
going o Lags slot ts more ds rest same h = grind (arith, length-drop, take-append-le, take_all, drop-append_seam, drop-append-le, rows-append, all_booked_before)

-- behind the first ones they have no rows
pub none_behind : (o : Origin) (output : Output) (slot : ℕ) (ts : List Table) (ds : List (List Decided)) → length ts ≡ length ds → length ts ≤ slot → rows_in o output slot ts ds ≡ []
none_behind o Tables slot ts ds same h = ap (slots_from table_rows slot) (drop_all slot ts h)
none_behind o PlacedTables slot ts ds same h = ap (slots_from (placed_table_rows (places_in o ts)) slot) (drop_all slot ts h)
none_behind o Decisions slot ts ds same h = ap (slots_from decided_rows slot) (drop_all slot ds (omega arith))
none_behind o Lags slot ts ds same h = ap (λ (l : List (List Decided)). rows_booked (book_before o slot ts ds) l (drop slot ts)) (drop_all slot ds (omega arith))

pub rows_go_on : RowsGoOn
rows_go_on o output slot ts more ds rest same = grind (arith, cases_order, none_behind, going)

-- ---- whole plans

pub whole_texts : WholeRows
whole_texts Tables d first whole = ap (λ (ts : List Table). lines_text (header_of Tables ∷ slots_from table_rows 0 ts)) (tables_first d first whole)
whole_texts PlacedTables d first whole = ap (λ (ts : List Table). lines_text (header_of PlacedTables ∷ slots_from (placed_table_rows (places_in None ts)) 0 ts)) (tables_first d first whole)
whole_texts Decisions d first whole = ap (λ (ds : List (List Decided)). lines_text (header_of Decisions ∷ slots_from decided_rows 0 ds)) (decided_first d first whole)
whole_texts Lags d first whole = ap (λ rows. lines_text (header_of Lags ∷ rows)) (whole_rows d first whole)

-- Followers that go on, one step after another.

pub even : (d : Dispatch) → IsWholePlan d → length d.tables ≡ length d.decided
even d whole = grind (arith, length-map)

pub keeps_all : (old new : Option (List ℕ)) (bs : List ℕ) → bs ≡ [] → Keeps old new → Appends old new bs
keeps_all None new bs e k = tt
keeps_all (Some xs) None bs e k = k
keeps_all (Some xs) (Some ys) bs e k = k ∙ sym (append-nil xs) ∙ ap (λ l. xs ++ l) (sym e)

-- the fault that a function passes on
pub own_err : {T E : Type 0} (r : Result T E) (own e : E) → IsErrAnd r (λ x. x ≡ own) → r ≡ Err e → own ≡ e
own_err (Ok x) own e is same = absurd is
own_err (Err d) own e is same = let h : d ≡ e = cc same in sym is ∙ h

-- nothing happens
pub stays : (f : Follow) (old new : Option (List ℕ)) → IsCaughtUp f → Keeps old new → HasGoneOn f f old new
stays f old new caught k = record {
  output_is = refl;
  grown = grown_same f.dispatch f.dispatch refl;
  caught_up = caught;
  unwritten_is = (let h = caught.all_written in omega (arith, h));
  sound = λ none. none;
  written = keeps_all old new (news f f) (ap lines_text (none_behind f.dispatch.origin f.output f.unwritten f.dispatch.tables f.dispatch.decided (even f.dispatch caught.whole) caught.all_written)) k;
}

news_more : (f g h : Follow) → g.output ≡ f.output → h.dispatch.origin ≡ g.dispatch.origin → g.unwritten ≡ max f.unwritten (length g.dispatch.tables) → length g.dispatch.tables ≡ length g.dispatch.decided
    → IsPrefixOf g.dispatch.tables h.dispatch.tables → IsPrefixOf g.dispatch.decided h.dispatch.decided → news f g ++ news g h ≡ news f h
news_more f g h output origins unwritten same p q = grind (arith, lines_text-append, rows_go_on)

-- one step more
pub gone_trans : (f g h : Follow) (u v w : Option (List ℕ)) → HasGoneOn f g u v → HasGoneOn g h v w → HasGoneOn f h u w
gone_trans f g h u v w a b =
    let long = longer g.dispatch.tables h.dispatch.tables b.grown.tables_go_on in
    let unwritten : h.unwritten ≡ max f.unwritten (length h.dispatch.tables) = (let s = a.unwritten_is in let t = b.unwritten_is in omega (arith, long, s, t)) in
    record {
      output_is = b.output_is ∙ a.output_is;
      grown = record {
        settings_are = b.grown.settings_are ∙ a.grown.settings_are;
        origin_is = b.grown.origin_is ∙ a.grown.origin_is;
        held_are = refl;
        tables_go_on = prefix_trans f.dispatch.tables g.dispatch.tables h.dispatch.tables a.grown.tables_go_on b.grown.tables_go_on;
        decided_go_on = prefix_trans f.dispatch.decided g.dispatch.decided h.dispatch.decided a.grown.decided_go_on b.grown.decided_go_on;
      };
      caught_up = b.caught_up;
      unwritten_is = unwritten;
      sound = λ none. b.sound (a.sound none);
      written = grind (arith, news_more, even, appends-more);
    }
