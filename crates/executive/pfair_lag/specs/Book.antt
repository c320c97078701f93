-- A book of lags: for each task that is entered, the slots that have passed since, and those of them in which it ran.
use Rattle.std.specs.Prelude.{ℕ, ℤ, pos, ◌+◌, ◌*◌, ◌-ℤ◌, ◌++◌, Bool, not, if◌then◌else◌, List, [], ◌∷◌, map, filter, Option, is_some, ◌≡◌, ◌&&◌, length, count_by, Some, None, ◌-◌, ◌^◌, ◌≤◌, ◌<◌, nat_lt}
use Rattle.std.specs.List.{list_any, AllByRecursion, IsDistinct}
use Rattle.std.specs.Map.{lookup, keys_of}
use Rattle.pfair_weight.specs.Name.{NameValue, name_eq}
use Rattle.pfair_weight.specs.Window.{Share}
use Rattle.std.specs.Option.{option_map}
use Rattle.pfair_weight.specs.declared.window.TheConstants.{MAX_INDEX}
use Rattle.pfair_lag.specs.declared.TheConstants.{MAX_HORIZON}
use Rattle.pfair_lag.specs.declared.book.TheConstants.{START}
use Rattle.pfair_lag.specs.declared.book.Account.{Account}

-- a task's weight, how many slots its lag counts, and in how many of them it ran
pub record Tally : Type 0 where
  pub weight : Share
  pub slots : ℕ
  pub ran : ℕ

-- the number of slots recorded so far, and the tasks that are entered, in order of entering
pub record Book : Type 0 where
  pub time : ℕ
  pub entered : List (NameValue × Tally)

abbrev pub empty_book : Book
empty_book = record { time = 0; entered = [] }

abbrev pub tally_of : NameValue → Book → Option Tally
tally_of name book = lookup (name_eq name) book.entered

-- the lag, as a numerator over the period: the share of the slots recorded less the quanta of the task in them
abbrev pub lag_of : Tally → ℤ × ℕ
lag_of t = (pos (t.weight.cost * t.slots) -ℤ pos (t.weight.period * t.ran), t.weight.period)

-- whether the task is one of those that ran
abbrev pub has_run : List NameValue → NameValue → Bool
has_run names name = list_any (name_eq name) names

-- a task is entered, after all others, unless it is there; its lag counts some slots before, in some of which it ran
abbrev pub entered_after : (slots ran : ℕ) → NameValue → Share → Book → Book
entered_after slots ran name weight book =
    if is_some (tally_of name book) then book
    else record book { entered = book.entered ++ (name, record { weight = weight; slots = slots; ran = ran }) ∷ [] }

-- a task is entered, and its lag counts no slots before
abbrev pub entered_with : NameValue → Share → Book → Book
entered_with name weight book = entered_after 0 0 name weight book

-- a task leaves, and the others keep their order
abbrev pub left : NameValue → Book → Book
left name book = record book { entered = filter (λ e. not (name_eq name e.0)) book.entered }

-- a slot more, in which the tasks of these names ran
abbrev pub slot_more : List NameValue → NameValue → Tally → Tally
slot_more names name t = record t { slots = t.slots + 1; ran = t.ran + (if has_run names name then 1 else 0) }

abbrev pub recorded : List NameValue → Book → Book
recorded names book = record { time = book.time + 1; entered = map (λ e. (e.0, slot_more names e.0 e.1)) book.entered }

-- What a book holds after any calls.

-- what a book is notified of: that a task enters, with some slots and quanta before that its lag counts, or none; that it leaves; or that
-- a slot has passed in which these tasks ran
pub data Call : Type 0 where
  Enter : (slots ran : ℕ) → NameValue → Share → Call
  Leave : NameValue → Call
  Record : List NameValue → Call

-- the book after some calls on an empty one; the last call stands first
abbrev pub book_after : List Call → Book
book_after [] = empty_book
book_after (Enter slots ran name weight ∷ before) = entered_after slots ran name weight (book_after before)
book_after (Leave name ∷ before) = left name (book_after before)
book_after (Record names ∷ before) = recorded names (book_after before)

-- a task's weight, what it was entered with, and the lists of those that ran in each slot since, if it has not left since; the last
-- call stands first, and so does the last list
pub record Stay : Type 0 where
  pub weight : Share
  pub slots_before : ℕ
  pub ran_before : ℕ
  pub slots : List (List NameValue)

abbrev pub slot_passed : List NameValue → Stay → Stay
slot_passed names s = record s { slots = names ∷ s.slots }

abbrev pub stay_after : NameValue → List Call → Option Stay
stay_after name [] = None
stay_after name (Enter slots ran other weight ∷ before) =
    if name_eq name other && not (is_some (stay_after name before)) then Some (record { weight = weight; slots_before = slots; ran_before = ran; slots = [] })
    else stay_after name before
stay_after name (Leave other ∷ before) = if name_eq name other then None else stay_after name before
stay_after name (Record names ∷ before) = option_map (slot_passed names) (stay_after name before)

-- those slots and the ones recorded since, and the quanta before and those of the slots whose list names the task
abbrev pub tally_in : NameValue → Stay → Tally
tally_in name s = record { weight = s.weight; slots = s.slots_before + length s.slots; ran = s.ran_before + count_by (λ names. has_run names name) s.slots }

-- A book counts, for each task, the slots since it was entered and those of them whose list names it, with those that it was entered with.
abbrev pub CountsSinceEntering : Type 0
CountsSinceEntering = (name : NameValue) (calls : List Call) → tally_of name (book_after calls) ≡ option_map (tally_in name) (stay_after name calls)

-- What is kept of each task of a book.

abbrev pub tally_shown : ℕ → Account → Tally
tally_shown time a = record { weight = a.weight; slots = time - a.since; ran = a.ran }

abbrev pub entered_shown : ℕ → List (NameValue × Account) → List (NameValue × Tally)
entered_shown time accounts = map (λ e. (e.0, tally_shown time e.1)) accounts

-- a task's slots and its last quantum aren't after the time, it had one quantum at most in each slot of the book beside those that it was
-- entered with, and the numerators of its lags fit into 64 bits
pub record IsSound (time : ℕ) (a : Account) : Type 0 where
  pub since : a.since ≤ time
  pub past : a.last ≤ time
  pub counted : START + a.ran ≤ a.last + MAX_INDEX
  pub fits : a.weight.cost * (START + MAX_HORIZON - a.since) < 2 ^ 63

pub record IsKept (time : ℕ) (accounts : List (NameValue × Account)) : Type 0 where
  pub begun : START ≤ time
  pub short : time ≤ START + MAX_HORIZON
  pub unique : IsDistinct name_eq (keys_of accounts)
  pub each : AllByRecursion (λ e. IsSound time e.1) accounts

-- no more quanta than the time of the last of them
abbrev pub EachFits : List (NameValue × Account) → Type 0
EachFits accounts = AllByRecursion (λ e. e.1.ran ≤ e.1.last) accounts

-- a quantum of the slot that ends at the time, unless it is counted
abbrev pub counted_at : ℕ → Account → Account
counted_at time a = if nat_lt a.last time then record a { last = time; ran = a.ran + 1 } else a

-- the accounts after a quantum of one task
abbrev pub with_quantum : ℕ → NameValue → List (NameValue × Account) → List (NameValue × Account)
with_quantum time name accounts = map (λ e. (e.0, (if name_eq name e.0 then counted_at time e.1 else e.1))) accounts

-- the accounts after a slot in which these tasks ran
abbrev pub with_quanta : ℕ → List NameValue → List (NameValue × Account) → List (NameValue × Account)
with_quanta time names accounts = map (λ e. (e.0, (if has_run names e.0 then counted_at time e.1 else e.1))) accounts
