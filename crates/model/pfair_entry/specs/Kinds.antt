-- The kinds of announcements: their names, and the fields of each.
use Rattle.std.specs.Prelude.{Result, Ok, Err, ℕ, List, Option, None, Some, bytes_eq, codes, if◌then◌else◌}
use Rattle.pfair_entry.specs.declared.notice.ChangeFields.{ChangeFields}
use Rattle.pfair_entry.specs.declared.notice.Kind.{Kind}
use Rattle.pfair_entry.specs.declared.notice.Kind.TheVariants.{Arrive, Depart, Late}
use Rattle.pfair_entry.specs.declared.notice.Change.{Change}
use Rattle.pfair_entry.specs.declared.notice.Change.TheVariants as change

-- Steps that may fail, one after the other.

-- `r.and_then(f)`
abbrev pub and_then : {A B E : Type 0} → (A → Result B E) → Result A E → Result B E
and_then f (Ok x) = f x
and_then f (Err e) = Err e

abbrev pub kind_name : Kind → List ℕ
kind_name Arrive = codes "arrive"
kind_name Depart = codes "depart"
kind_name Late = codes "late"

abbrev pub kind_named : List ℕ → Option Kind
kind_named name =
    if bytes_eq name (kind_name Arrive) then Some Arrive
    else (if bytes_eq name (kind_name Depart) then Some Depart
    else (if bytes_eq name (kind_name Late) then Some Late else None))

-- the change of a kind, or why the first of its fields isn't there
abbrev pub change_of : {E : Type 0} → Kind → ChangeFields E → Result Change E
change_of Arrive f = and_then (λ cost. and_then (λ period. and_then (λ early. Ok (change.Arrive cost period early)) f.early) f.period) f.cost
change_of Depart f = Ok change.Depart
change_of Late f = and_then (λ index. and_then (λ by. Ok (change.Late index by)) f.by) f.index
