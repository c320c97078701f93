-- The laws of rows.
use Rattle.std.specs.Prelude.{ℕ, ◌≡◌, ◌≢◌, ◌≤◌, ◌==◌, List, [], ◌∷◌, ◌++◌, length, map}
use Rattle.std.specs.List.{AllByRecursion, slice_split}
use Rattle.pfair_text.specs.Rows.{lines_text}
use Rattle.pfair_entry.specs.Entry.{Logged}
use Rattle.pfair_entry_row.specs.Row.{Reading, IsReadingOf, entry_fields, entry_row, IsEntryAt}

abbrev pub EachEntryHasItsRow : Type 0
EachEntryHasItsRow =
    (p n : ℕ) (e : Logged) (q m : ℕ) (f : Logged) → IsEntryAt p n e → IsEntryAt q m f → entry_row p n e ≡ entry_row q m f → (p ≡ q) × (n ≡ m) × (e ≡ f)

abbrev pub RowsAreReadOneWay : Type 0
RowsAreReadOneWay = (row : List ℕ) (r s : Reading) → IsReadingOf row r → IsReadingOf row s → r ≡ s

abbrev pub RowsAreLines : Type 0
RowsAreLines = (p n : ℕ) (e : Logged) → IsEntryAt p n e → AllByRecursion (λ b. b ≢ 10) (entry_row p n e)

-- an entry with the processor of its log and its number there
abbrev pub Keyed : Type 0
Keyed = ℕ × ℕ × Logged

-- lines of entries
abbrev pub entries_text : List Keyed → List ℕ
entries_text entries = lines_text (map (λ x. entry_fields x.0 x.1 x.2) entries)

-- a text of lines is cut at its line ends into the rows of the entries, and nothing behind them
abbrev pub TextsAreRows : Type 0
TextsAreRows =
    (entries : List Keyed) → AllByRecursion (λ x. IsEntryAt x.0 x.1 x.2) entries
    → slice_split (λ b. b == 10) (entries_text entries) ≡ map (λ x. entry_row x.0 x.1 x.2) entries ++ [] ∷ []

abbrev pub RowsAreShort : Type 0
RowsAreShort = (p n : ℕ) (e : Logged) → IsEntryAt p n e → length (entry_row p n e) ≤ 256
