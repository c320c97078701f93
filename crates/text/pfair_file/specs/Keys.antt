-- What a key of a table is asked to hold, and the first fault if it doesn't: it is missing, of wrong kind, out of range.
use Rattle.std.specs.Prelude.{ℕ, List, codes, ℤ, pos, negsuc, Result, Ok, Err, ok_or, nat_le, ◌&&◌, if◌then◌else◌}
use Rattle.pfair_file.specs.declared.field.Field.{Field}
use Rattle.pfair_file.specs.declared.field.Field.TheVariants.{Version, Processors, Frame, Slots, Entries, Processor, Floor, Kind, At, Name, Cost, Period, Early, Index, By}
use Rattle.toml.specs.Data.{Data, Members, as_integer, as_str, get_member}
use Rattle.pfair_entry.specs.Kinds.{and_then}
use Rattle.pfair_file.specs.declared.fault.FileFault.{FileFault}
use Rattle.pfair_file.specs.declared.fault.FileFault.TheVariants.{Missing, WrongKind, Range}
use Rattle.pfair_table.specs.Table.{Settings}
use Rattle.pfair_table.specs.declared.settings.TheConstants.Settings.{MAX_PROCESSORS, MAX_FRAME, MAX_SLOTS}
use Rattle.pfair_file.specs.declared.field.Field.TheVariants as field
use Rattle.pfair_file.specs.declared.fault.FileFault.TheVariants as fault

-- The keys as they stand in a file.

abbrev pub key_of : Field → List ℕ
key_of Version = codes "version"
key_of Processors = codes "processors"
key_of Frame = codes "frame"
key_of Slots = codes "slots"
key_of Entries = codes "entry"
key_of Processor = codes "processor"
key_of Floor = codes "floor"
key_of Kind = codes "kind"
key_of At = codes "at"
key_of Name = codes "name"
key_of Cost = codes "cost"
key_of Period = codes "period"
key_of Early = codes "early"
key_of Index = codes "index"
key_of By = codes "by"

-- the value at a key
abbrev pub value_at : Members → ℕ → Field → Result Data FileFault
value_at table place field = ok_or (get_member (key_of field) table) (Missing place field)

-- the integer at a key
abbrev pub integer_at : Members → ℕ → Field → Result ℤ FileFault
integer_at table place field = and_then (λ d. ok_or (as_integer d) (WrongKind place field)) (value_at table place field)

-- the text at a key
abbrev pub text_at : Members → ℕ → Field → Result (List ℕ) FileFault
text_at table place field = and_then (λ d. ok_or (as_str d) (WrongKind place field)) (value_at table place field)

-- an integer that isn't negative
abbrev pub natural : FileFault → ℤ → Result ℕ FileFault
natural fault (pos n) = Ok n
natural fault (negsuc n) = Err fault

-- an integer from `low` to `high`
abbrev pub ranged : ℕ → ℕ → FileFault → ℤ → Result ℕ FileFault
ranged low high fault z = and_then (λ n. if nat_le low n && nat_le n high then Ok n else Err fault) (natural fault z)

-- the number at a key, from `low` to `high`
abbrev pub number_at : Members → ℕ → Field → ℕ → ℕ → Result ℕ FileFault
number_at table place field low high = and_then (λ z. ranged low high (Range place field) z) (integer_at table place field)

-- the number at a key, which isn't negative
abbrev pub natural_at : Members → ℕ → Field → Result ℕ FileFault
natural_at table place field = and_then (λ z. natural (Range place field) z) (integer_at table place field)

-- The header of a file: its keys in order, each with the first of its faults.

-- the version of the format, 1 or 2
abbrev pub version_of : Members → Result ℕ FileFault
version_of table = and_then (λ z. ranged 1 2 fault.Version z) (integer_at table 0 field.Version)

-- what the run is set to
abbrev pub settings_of : Members → Result Settings FileFault
settings_of table =
    and_then (λ processors.
    and_then (λ frame.
    and_then (λ slots. Ok (record { processors = processors; frame = frame; slots = slots }))
    (number_at table 0 field.Slots 1 MAX_SLOTS))
    (number_at table 0 field.Frame 1 MAX_FRAME))
    (number_at table 0 field.Processors 1 MAX_PROCESSORS)
