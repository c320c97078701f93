-- What a log may have is refused by no rule.
use Rattle.pfair_entry_row.proofs.Common.{Logged, IsEntry, IsWeighed, IsNamed, IsWellSaid, Announcement, Arrive, Depart, Late, IsEntryAt, IsSayable, IsSpelled, IsSpelledOut, ℕ, ◌≡◌, arith, Option, None, Some, Ok, nat_tests, is_plain-name, All, AllByRecursion, join_with_byte, list_all, list_any, slice_split_at, is_plain-decimal, truth, announced_fields, said_fields, entry_fields, Bool, true, false, List, [], ◌∷◌, ◌≢◌, ◌==◌, refl, length, is_plain, entry_row, sym, ◌∙◌, ap, Err, SaysNothing, keyed, IsRowFaultOf, SaysWhatIsRefused, ◌++◌, zero, suc, append_assoc, not, ◌⊎◌, inl, inr, and_from, and_parts, eqb-false, ne_eqb, not-true, or_parts, is_mark, RowsAreLines, TextsAreRows, RowsAreReadOneWay}
use Rattle.pfair_entry.proofs.Refusals.{no_refusal}
use Rattle.pfair_entry_row.proofs.RowFields.{Same, no_comma-plain, entry_row_injective}
use Rattle.pfair_entry_row.specs.declared.fault.RowFault.{RowFault}
use Rattle.pfair_entry_row.specs.declared.fault.RowFault.TheVariants.{NoRow, Refused, NoSuchProcessor, NumberOutOfRange}

-- ---- a row may say it

spelled : (a : Announcement) → IsNamed a → IsWeighed a → (floor stamp : ℕ) → IsEntry (record { floor = floor; said = Some (stamp, a) }) → IsSpelled a
spelled (Arrive name weight early) named weighed floor stamp e = grind (arith, no_comma-plain, is_plain-name)
spelled (Depart name) named weighed floor stamp e = grind (arith, no_comma-plain, is_plain-name)
spelled (Late name index by) named weighed floor stamp e = grind (arith, no_comma-plain, is_plain-name)

spelled_out : (floor : ℕ) (s : Option (ℕ × Announcement)) → IsWellSaid s → IsEntry (record { floor = floor; said = s }) → IsSpelledOut s
spelled_out floor None well e = tt
spelled_out floor (Some s) well e = (omega (arith, e.stamp_in_range), spelled s.1 well.0 well.1 floor s.0 e)

pub sayable : (p n : ℕ) (e : Logged) → IsEntryAt p n e → IsSayable p n e
sayable p n e h = record {
  processor_fits = omega arith;
  number_fits = omega arith;
  floor_fits = omega (arith, h.loggable.entry.floor_in_range);
  spelled = spelled_out e.floor e.said h.loggable.well_said h.loggable.entry;
}

-- ---- no rule refuses it

keyed-self : (p n : ℕ) (e : Logged) → IsEntryAt p n e → keyed p n e ≡ Ok (p, n, e)
keyed-self p n e h = grind (arith, nat_tests, no_refusal)

-- it is the answer to what its row says, which is the same
pub read_back : (p n : ℕ) (e : Logged) (q m : ℕ) (f : Logged) → IsEntryAt p n e → Same p n e q m f → keyed q m f ≡ Ok (p, n, e)
read_back p n e q m f h same = grind (arith, keyed-self)

-- Rows as lines of a text.

-- no line ends in these bytes
abbrev pub IsOneLine : List ℕ → Type 0
IsOneLine bytes = AllByRecursion (λ b. b ≢ 10) bytes

both_lines : (xs ys : List ℕ) → IsOneLine xs → IsOneLine ys → IsOneLine (xs ++ ys)
both_lines [] ys h k = k
both_lines (x ∷ xs) ys h k = (h.0, both_lines xs ys h.1 k)

unmarked : (bytes : List ℕ) → list_any is_mark bytes ≡ false → IsOneLine bytes
unmarked [] h = tt
unmarked (b ∷ bytes) h = grind (arith, or_parts, eqb-false, unmarked bytes)

plain : (field : List ℕ) → is_plain field ≡ true → IsOneLine field
plain field h = unmarked field (not-true (list_any is_mark field) (and_parts (not (length field == 0)) (not (list_any is_mark field)) h).1)

pub joined : (fields : List (List ℕ)) → list_all is_plain fields ≡ true → IsOneLine (join_with_byte 44 fields)
joined [] h = tt
joined (f ∷ []) h = plain f (and_parts (is_plain f) true h).0
joined (f ∷ g ∷ fs) h = grind (arith, joined (g ∷ fs), and_parts, list_all, both_lines, join_with_byte, plain, eqb-false)

-- ---- the fields of an entry are plain

pub truth_is_plain : (b : Bool) → is_plain (truth b) ≡ true
truth_is_plain true = refl
truth_is_plain false = refl

announced : (a : Announcement) → IsNamed a → IsSpelled a → list_all is_plain (announced_fields a) ≡ true
announced (Arrive name weight early) named s = grind (arith, is_plain-name, is_plain-decimal, truth_is_plain)
announced (Depart name) named s = let first = is_plain-name name named in rw first refl
announced (Late name index by) named s = grind (arith, is_plain-name, is_plain-decimal)

said : (s : Option (ℕ × Announcement)) → IsWellSaid s → IsSpelledOut s → list_all is_plain (said_fields s) ≡ true
said None well spelled = refl
said (Some s) well spelled = and_from _ _ (is_plain-decimal s.0 spelled.0) (announced s.1 well.0 spelled.1)

fields_are_plain : (p n : ℕ) (e : Logged) → IsEntryAt p n e → list_all is_plain (entry_fields p n e) ≡ true
fields_are_plain p n e h =
    let fits = sayable p n e h in
    and_from _ _ (is_plain-decimal p fits.processor_fits) (and_from _ _ (is_plain-decimal n fits.number_fits)
    (and_from _ _ (is_plain-decimal e.floor fits.floor_fits) (said e.said h.loggable.well_said fits.spelled)))

pub rows_are_lines : RowsAreLines
rows_are_lines p n e h = joined (entry_fields p n e) (fields_are_plain p n e h)

-- ---- texts

pub at_each : (bytes : List ℕ) → IsOneLine bytes → All (λ b. (b == 10) ≡ false) bytes
at_each [] h k d inside = absurd (omega arith)
at_each (b ∷ bytes) h zero d inside = ne_eqb b 10 h.0
at_each (b ∷ bytes) h (suc k) d inside = at_each bytes h.1 k d (omega arith)

pub texts_are_rows : TextsAreRows
texts_are_rows [] h = refl
texts_are_rows (x ∷ entries) h = grind (arith, texts_are_rows entries h.1, append_assoc, slice_split_at, at_each, rows_are_lines)

-- A row is read one way.

-- nothing is said, or what is said is refused
in_parts : (row : List ℕ) (f : RowFault) → IsRowFaultOf row f → ((f ≡ NoRow) × SaysNothing row) ⊎ SaysWhatIsRefused row f
in_parts row NoRow h = inl (refl, h)
in_parts row (Refused f) h = inr h
in_parts row NoSuchProcessor h = inr h
in_parts row NumberOutOfRange h = inr h

no_entry : (row : List ℕ) (p n : ℕ) (e : Logged) (f : RowFault) → IsEntryAt p n e → row ≡ entry_row p n e → SaysWhatIsRefused row f → ⊥
no_entry row p n e f h is s =
    let same = entry_row_injective p n e s.processor s.number s.entry (sayable p n e h) s.sayable (sym is ∙ s.row_is) in
    let read = read_back p n e s.processor s.number s.entry h same in
    grind arith

entry_or_fault : (row : List ℕ) (p n : ℕ) (e : Logged) (f : RowFault) → IsEntryAt p n e → row ≡ entry_row p n e → IsRowFaultOf row f → ⊥
entry_or_fault row p n e f h is fault =
    elim (in_parts row f fault) [ inl nothing ↦ nothing.1 p n e (sayable p n e h) is | inr refused ↦ no_entry row p n e f h is refused ]

both_refused : (row : List ℕ) (f g : RowFault) → SaysWhatIsRefused row f → SaysWhatIsRefused row g → f ≡ g
both_refused row f g s t = grind (arith, entry_row_injective, sayable)

one_fault : (row : List ℕ) (f g : RowFault) → IsRowFaultOf row f → IsRowFaultOf row g → f ≡ g
one_fault row f g h k = grind (arith, in_parts, both_refused, sayable)

pub one_way : RowsAreReadOneWay
one_way row (Ok x) (Ok y) h k =
    let same = entry_row_injective x.0 x.1 x.2 y.0 y.1 y.2 (sayable x.0 x.1 x.2 h.ok.0) (sayable y.0 y.1 y.2 k.ok.0) (sym h.ok.1 ∙ k.ok.1) in
    λ i. Ok (same.processor i, same.number i, same.entry i)
one_way row (Ok x) (Err g) h k = absurd (entry_or_fault row x.0 x.1 x.2 g h.ok.0 h.ok.1 k.err)
one_way row (Err f) (Ok y) h k = absurd (entry_or_fault row y.0 y.1 y.2 f k.ok.0 k.ok.1 h.err)
one_way row (Err f) (Err g) h k = ap Err (one_fault row f g h.err k.err)
