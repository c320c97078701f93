-- What the keys of an entry's table hold, in their order, each with the first of its faults.
use Rattle.std.specs.Prelude.{ℕ, ◌-◌, nat_lt, if◌then◌else◌, Bool, false, Option, None, Some, Result, Ok, ok_or}
use Rattle.toml.specs.Data.{Data, Members, as_bool, as_str, get_member}
use Rattle.pfair_entry.specs.Notice.{announced, checked}
use Rattle.pfair_entry.specs.declared.entry.Announcement.{Announcement}
use Rattle.pfair_entry.specs.Kinds.{change_of, kind_named, and_then}
use Rattle.pfair_entry.specs.declared.notice.ChangeFields.{ChangeFields}
use Rattle.pfair_entry.specs.declared.notice.Kind.{Kind}
use Rattle.pfair_file.specs.Keys.{key_of, natural_at, number_at, text_at}
use Rattle.pfair_file.specs.declared.field.Field.TheVariants as field
use Rattle.pfair_file.specs.declared.fault.FileFault.{FileFault}
use Rattle.pfair_file.specs.declared.fault.FileFault.TheVariants.{Range, WrongKind}
use Rattle.pfair_entry.specs.Entry.{Logged}
use Rattle.pfair_entry.specs.declared.notice.NoticeFault.{NoticeFault}

-- the kind, which may be missing
abbrev pub kind_in : ℕ → Option Data → Result (Option Kind) FileFault
kind_in place None = Ok None
kind_in place (Some d) =
    and_then (λ name. and_then (λ kind. Ok (Some kind)) (ok_or (kind_named name) (Range place field.Kind)))
    (ok_or (as_str d) (WrongKind place field.Kind))

abbrev pub kind_at : ℕ → Members → Result (Option Kind) FileFault
kind_at place table = kind_in place (get_member (key_of field.Kind) table)

-- whether a task may run early: false if nothing says so, and in version 1
abbrev pub early_in : ℕ → Option Data → Result Bool FileFault
early_in place None = Ok false
early_in place (Some d) = ok_or (as_bool d) (WrongKind place field.Early)

abbrev pub early_at : ℕ → ℕ → Members → Result Bool FileFault
early_at version place table = if nat_lt version 2 then Ok false else early_in place (get_member (key_of field.Early) table)

-- the keys of all kinds
abbrev pub fields_at : ℕ → ℕ → Members → ChangeFields FileFault
fields_at version place table = record {
  cost = natural_at table place field.Cost;
  period = natural_at table place field.Period;
  early = early_at version place table;
  index = natural_at table place field.Index;
  by = natural_at table place field.By;
}

-- the keys of an announcement, with its stamp
abbrev pub notice_of : ℕ → ℕ → Kind → Members → Result (ℕ × Announcement) FileFault
notice_of version place kind table =
    and_then (λ at.
    and_then (λ name.
    and_then (λ change. Ok (at, announced name change))
    (change_of kind (fields_at version place table)))
    (text_at table place field.Name))
    (natural_at table place field.At)

-- the announcement, if there is a kind
abbrev pub notice_in : ℕ → ℕ → Members → Option Kind → Result (Option (ℕ × Announcement)) FileFault
notice_in version place table None = Ok None
notice_in version place table (Some kind) = and_then (λ notice. Ok (Some notice)) (notice_of version place kind table)

abbrev pub notice_at : ℕ → ℕ → Members → Result (Option (ℕ × Announcement)) FileFault
notice_at version place table = and_then (λ kind. notice_in version place table kind) (kind_at place table)

-- what a table makes: an entry of the processor's log, or why there is none
pub record Made : Type 0 where
  pub processor : ℕ
  pub entry : Result Logged NoticeFault

-- what it makes once all its keys are read
abbrev pub made_at : ℕ → ℕ → ℕ → Members → Result Made FileFault
made_at version processors place table =
    and_then (λ processor.
    and_then (λ floor.
    and_then (λ said. Ok (record { processor = processor; entry = checked (record { floor = floor; said = said }) }))
    (notice_at version place table))
    (natural_at table place field.Floor))
    (number_at table place field.Processor 0 (processors - 1))
