-- What is written of the lags of a run.
use Rattle.std.specs.Prelude.{ℕ, suc, ◌+◌, Bool, not, List, [], ◌∷◌, map, filter, codes, None, ◌-◌, Some, true, false, if◌then◌else◌, ◌++◌}
use Rattle.std.specs.List.{flat_map}
use Rattle.std.specs.Fmt.{decimal, signed_decimal}
use Rattle.pfair_text.specs.Rows.{lines_text}
use Rattle.pfair_replica.specs.Replica.{Replica, said}
use Rattle.pfair_admission.specs.Member.{Member, is_departing, lag_at}
use Rattle.pfair_table.specs.Table.{Settings, history, settled_slots, Origin, Table}
use Rattle.pfair_entry.specs.declared.entry.Announcement.{Announcement}
use Rattle.pfair_entry.specs.declared.entry.Announcement.TheVariants.{Arrive, Depart, Late}
use Rattle.pfair_admission.specs.declared.decision.Decision.{Decision}
use Rattle.pfair_admission.specs.declared.decision.Decision.TheVariants.{Admitted, Departing, Delayed, Refused}
use Rattle.pfair_table.specs.declared.slot.Decided.{Decided}
use Rattle.pfair_weight.specs.Name.{NameValue}
use Rattle.pfair_lag.specs.Book.{Tally, Book, empty_book, entered_after, entered_with, lag_of, left, recorded}

abbrev pub lags_header : List (List ℕ)
lags_header = codes "time" ∷ codes "task" ∷ codes "numerator" ∷ codes "period" ∷ []

-- a member's lag at a time
abbrev pub lag_row : ℕ → Member → List (List ℕ)
lag_row time m = decimal time ∷ m.name ∷ signed_decimal (lag_at time m) ∷ decimal m.weight.period ∷ []

abbrev pub is_staying : Member → Bool
is_staying m = not (is_departing m)

-- after slot t: a row for each member that isn't departing, in the order of admission
abbrev pub lag_rows : Settings → Replica → ℕ → List (List (List ℕ))
lag_rows s x t = map (lag_row (t + 1)) (filter is_staying (history None s (said x) (suc t)).members)

-- a header, and these rows for each slot that is planned of the contents
abbrev pub lags_text : Settings → Replica → List ℕ
lags_text s x = lines_text (lags_header ∷ flat_map (lag_rows s x) (settled_slots s x))

-- A book of lags that is notified of what was planned, slot by slot, and its rows.

abbrev pub is_admitted : Decision → Bool
is_admitted Admitted = true
is_admitted (Departing slot) = false
is_admitted Delayed = false
is_admitted (Refused why) = false

abbrev pub is_leave : Decision → Bool
is_leave Admitted = false
is_leave (Departing slot) = true
is_leave Delayed = false
is_leave (Refused why) = false

-- who is admitted enters, and who departs leaves
abbrev pub booked : Announcement → Decision → Book → Book
booked (Arrive name weight early) d book = if is_admitted d then entered_with name weight book else book
booked (Depart name) d book = if is_leave d then left name book else book
booked (Late name index by) d book = book

abbrev pub all_booked : List Decided → Book → Book
all_booked [] book = book
all_booked (d ∷ more) book = all_booked more (booked d.announcement d.decision book)

-- the decisions of a slot, and then its table
abbrev pub slot_booked : List Decided → Table → Book → Book
slot_booked decided table book = recorded (map (λ p. p.name) table) (all_booked decided book)

-- ---- where a run begins

-- a member that was carried into a run that begins at a slot: its lag goes on, unless it is departing
abbrev pub entered_again : ℕ → Member → Book → Book
entered_again slot m book = if is_departing m then book else entered_after (slot - m.joined) (m.next - 1) m.name m.weight book

abbrev pub all_entered : ℕ → List Member → Book → Book
all_entered slot [] book = book
all_entered slot (m ∷ more) book = all_entered slot more (entered_again slot m book)

-- the book before a run's first slot
abbrev pub first_book : Origin → Book
first_book None = empty_book
first_book (Some c) = all_entered c.slot c.members empty_book

-- ---- slot after slot

abbrev pub all_slots_booked : Book → List (List Decided) → List Table → Book
all_slots_booked book [] tables = book
all_slots_booked book (d ∷ ds) [] = book
all_slots_booked book (d ∷ ds) (t ∷ ts) = all_slots_booked (slot_booked d t book) ds ts

abbrev pub tally_row : ℕ → NameValue × Tally → List (List ℕ)
tally_row time e = decimal time ∷ e.0 ∷ signed_decimal (lag_of e.1).0 ∷ decimal (lag_of e.1).1 ∷ []

-- a row for each task of the book, in order of entering
abbrev pub book_rows : Book → List (List (List ℕ))
book_rows book = map (tally_row book.time) book.entered

-- the rows after each slot
abbrev pub rows_booked : Book → List (List Decided) → List Table → List (List (List ℕ))
rows_booked book [] tables = []
rows_booked book (d ∷ ds) [] = []
rows_booked book (d ∷ ds) (t ∷ ts) = book_rows (slot_booked d t book) ++ rows_booked (slot_booked d t book) ds ts
