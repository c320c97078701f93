-- How an incarnation is seen as a member, and what it keeps beside.
use Rattle.std.specs.Prelude.{ℕ, ◌≡◌, ◌<◌, ◌==◌, Bool, List, sum_by, filter, Option, Some, None, if◌then◌else◌}
use Rattle.std.specs.List.{list_any}
use Rattle.std.specs.Ordering.{nat_cmp}
use Rattle.std.specs.BTreeMap as map
use Rattle.std.specs.BTreeMap.{BTreeMap}
use Rattle.pfair_weight.specs.Window.{Position}
use Rattle.pfair_admission.specs.declared.delay.Delay.{Delay}
use Rattle.pfair_admission.specs.Member.{Member, IsMember, theta, is_delayed_at}
use Rattle.pfair_admission.specs.declared.incarnation.Incarnation.TheInside.{Inside}

abbrev pub member_of : Inside → Member
member_of a = record { name = a.name; weight = a.weight; early = a.early; joined = a.joined; delays = a.delays.items; next = a.stepper.index; freed_at = a.freed_at }

-- by how many slots the delays with exactly this index put the subtask off, if there are any
abbrev pub own_delay : List Delay → ℕ → Option ℕ
own_delay delays i =
    if list_any (λ d. d.index == i) delays
    then Some (sum_by (λ d. d.by) (filter (λ d. d.index == i) delays))
    else None

-- the stepper stands at the next subtask, with the delays up to it, and the delays of later subtasks are still to come
pub record StandsAtNext (m : Member) (stepper : Position) (is_put_off : Bool) (delays : BTreeMap ℕ ℕ) : Type 0 where
  pub position : stepper ≡ record { weight = m.weight; index = m.next; theta = theta m m.next }
  pub put_off : is_put_off ≡ is_delayed_at m m.next
  pub coming : (i : ℕ) → m.next < i → map.get nat_cmp delays i ≡ own_delay m.delays i

pub record IsIncarnation (a : Inside) : Type 0 where
  pub member : IsMember (member_of a)
  pub stands : StandsAtNext (member_of a) a.stepper a.is_put_off a.coming
