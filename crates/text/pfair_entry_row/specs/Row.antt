-- The row of an entry: eleven fields.
use Rattle.std.specs.Prelude.{ℕ, Bool, true, false, List, [], ◌∷◌, ◌<◌, ◌≡◌, ◌==◌, ◌^◌, Option, None, Some, IfSome, codes, ◌≢◌, nat_lt, if◌then◌else◌, Result, Ok, Err, IfOk, IfErr}
use Rattle.std.specs.List.{All, join_with_byte, slice_split}
use Rattle.std.specs.Fmt.{decimal}
use Rattle.pfair_entry.specs.Entry.{Logged}
use Rattle.pfair_entry.specs.Notice.{IsLoggable, checked, notice_fault_number}
use Rattle.pfair_entry.specs.declared.entry.Announcement.{Announcement}
use Rattle.pfair_entry.specs.declared.entry.Announcement.TheVariants.{Arrive, Depart, Late}
use Rattle.pfair_entry_row.specs.declared.write.StampedFields.{StampedFields}
use Rattle.pfair_entry_row.specs.declared.line.Fields.{Fields}
use Rattle.pfair_entry.specs.declared.notice.NoticeFault.{NoticeFault}
use Rattle.pfair_entry_row.specs.declared.fault.RowFault.{RowFault}
use Rattle.pfair_entry_row.specs.declared.fault.RowFault.TheVariants.{NoRow, Refused, NoSuchProcessor, NumberOutOfRange}

-- what stands where an entry has nothing
abbrev pub dash : List ℕ
dash = codes "-"

abbrev pub truth : Bool → List ℕ
truth true = codes "true"
truth false = codes "false"

-- from the kind on
abbrev pub announced_fields : Announcement → List (List ℕ)
announced_fields (Arrive name weight early) = codes "arrive" ∷ name ∷ decimal weight.cost ∷ decimal weight.period ∷ truth early ∷ dash ∷ dash ∷ []
announced_fields (Depart name) = codes "depart" ∷ name ∷ dash ∷ dash ∷ dash ∷ dash ∷ dash ∷ []
announced_fields (Late name index by) = codes "late" ∷ name ∷ dash ∷ dash ∷ dash ∷ decimal index ∷ decimal by ∷ []

-- from the stamp on
abbrev pub said_fields : Option (ℕ × Announcement) → List (List ℕ)
said_fields None = dash ∷ dash ∷ dash ∷ dash ∷ dash ∷ dash ∷ dash ∷ dash ∷ []
said_fields (Some s) = decimal s.0 ∷ announced_fields s.1

-- what a row has from the stamp on, field by field
abbrev pub fields_of : StampedFields → List (List ℕ)
fields_of s = s.at.now ∷ s.kind.now ∷ s.name.now ∷ s.cost.now ∷ s.period.now ∷ s.early.now ∷ s.index.now ∷ s.by.now ∷ []

-- an entry after its processor and its number
abbrev pub entry_fields : (processor number : ℕ) → Logged → List (List ℕ)
entry_fields processor number e = decimal processor ∷ decimal number ∷ decimal e.floor ∷ said_fields e.said

-- the fields with commas between
abbrev pub entry_row : (processor number : ℕ) → Logged → List ℕ
entry_row processor number e = join_with_byte 44 (entry_fields processor number e)

-- ---- what the fields of a row may say

abbrev pub HasNone : ℕ → List ℕ → Type 0
HasNone separator bytes = All (λ b. (b == separator) ≡ false) bytes

abbrev pub HasNoComma : List ℕ → Type 0
HasNoComma bytes = HasNone 44 bytes

-- any numbers of 64 bits, and any name in which no field ends
abbrev pub IsSpelled : Announcement → Type 0
IsSpelled (Arrive name weight early) = HasNoComma name × (weight.cost < 2 ^ 64) × (weight.period < 2 ^ 64)
IsSpelled (Depart name) = HasNoComma name
IsSpelled (Late name index by) = HasNoComma name × (index < 2 ^ 64) × (by < 2 ^ 64)

abbrev pub IsSpelledOut : Option (ℕ × Announcement) → Type 0
IsSpelledOut said = IfSome said (λ s. (s.0 < 2 ^ 64) × IsSpelled s.1)

-- what a row may say, whether or not a rule of entries refuses it
pub record IsSayable (processor number : ℕ) (e : Logged) : Type 0 where
  pub processor_fits : processor < 2 ^ 64
  pub number_fits : number < 2 ^ 64
  pub floor_fits : e.floor < 2 ^ 64
  pub spelled : IsSpelledOut e.said

-- an entry of a log, with the processor of the log and its number there
pub record IsEntryAt (processor number : ℕ) (e : Logged) : Type 0 where
  pub processor_fits : processor < 2 ^ 8
  pub number_fits : number < 2 ^ 32
  pub loggable : IsLoggable e

-- What stands between the separators of a text, and between the commas of a row.

abbrev pub parts_at : (separator : ℕ) → List ℕ → List (List ℕ)
parts_at separator text = slice_split (λ b. b == separator) text

abbrev pub parts : List ℕ → List (List ℕ)
parts row = parts_at 44 row

abbrev pub texts : Fields → List (List ℕ)
texts f =
    f.processor.now ∷ f.number.now ∷ f.floor.now ∷ f.at.now ∷ f.kind.now ∷ f.name.now ∷ f.cost.now ∷ f.period.now ∷ f.early.now ∷ f.index.now ∷ f.by.now ∷ []

-- Why a row is refused: the cases exclude each other, and each excludes that the row is an entry's.

-- the number under which each is reported
abbrev pub row_fault_number : RowFault → ℕ
row_fault_number NoRow = 67
row_fault_number (Refused f) = notice_fault_number f
row_fault_number NoSuchProcessor = 13
row_fault_number NumberOutOfRange = 14

-- what a row may be read as
abbrev pub Reading : Type 0
Reading = Result (ℕ × ℕ × Logged) RowFault

-- an entry of a log with this processor and this number, if there is such a log
abbrev pub keyed_entry : (processor number : ℕ) → Result Logged NoticeFault → Reading
keyed_entry processor number (Err f) = Err (Refused f)
keyed_entry processor number (Ok e) =
    if nat_lt processor (2 ^ 8) then (if nat_lt number (2 ^ 32) then Ok (processor, number, e) else Err NumberOutOfRange) else Err NoSuchProcessor

-- what a row says, or the first rule that refuses it: first those of entries, then the processor's and the number's range
abbrev pub keyed : (processor number : ℕ) → Logged → Reading
keyed processor number e = keyed_entry processor number (checked e)

-- the row says something, and a rule refuses that
pub record SaysWhatIsRefused (row : List ℕ) (f : RowFault) : Type 0 where
  pub processor : ℕ
  pub number : ℕ
  pub entry : Logged
  pub sayable : IsSayable processor number entry
  pub row_is : row ≡ entry_row processor number entry
  pub refused : keyed processor number entry ≡ Err f

-- nothing that may be said has this row
abbrev pub SaysNothing : List ℕ → Type 0
SaysNothing row = (processor number : ℕ) (e : Logged) → IsSayable processor number e → row ≢ entry_row processor number e

abbrev pub IsRowFaultOf : List ℕ → RowFault → Type 0
IsRowFaultOf row NoRow = SaysNothing row
IsRowFaultOf row (Refused f) = SaysWhatIsRefused row (Refused f)
IsRowFaultOf row NoSuchProcessor = SaysWhatIsRefused row NoSuchProcessor
IsRowFaultOf row NumberOutOfRange = SaysWhatIsRefused row NumberOutOfRange

-- as the entry of which it is the row, or as what is wrong with it
pub record IsReadingOf (row : List ℕ) (r : Reading) : Type 0 where
  pub ok : IfOk r (λ x. IsEntryAt x.0 x.1 x.2 × (row ≡ entry_row x.0 x.1 x.2))
  pub err : IfErr r (IsRowFaultOf row)
