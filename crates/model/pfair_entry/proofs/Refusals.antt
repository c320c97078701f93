-- The first fault of a name and of a weight is the one of which their clauses speak, and what a log may have has none.
use Rattle.std.proofs.Common.{ℕ, zero, suc, add-zero, zero-add, subst, List, [], ◌∷◌, Option, None, Some, Bool, true, false, ◌≡◌, ◌∙◌, ◌+◌, ◌<◌, length, refl, sym, ap, arith, slice_index, nat_lt, ◌==◌, option_and_then}
use Rattle.std.proofs.lemmas.Bool.Decides.{nat_tests}
use Rattle.pfair_weight.specs.Name.{may_stand, IsTaskName, IsFaultOf as IsNameFaultOf}
use Rattle.pfair_weight.specs.Window.{IsFaultOf as IsWeightFaultOf}
use Rattle.pfair_weight.specs.declared.name.NameFault.{NameFault}
use Rattle.pfair_weight.specs.declared.name.NameFault.TheVariants as name
use Rattle.pfair_weight.specs.declared.weight.WeightFault.{WeightFault}
use Rattle.pfair_entry.specs.Entry.{Logged, IsEntry, IsWeighed, entry_fault}
use Rattle.pfair_entry.specs.Notice.{announced_fault, first_failing, name_fault, refusal, weight_fault, IsLoggable, IsNamed, IsWellSaid}
use Rattle.pfair_entry.specs.declared.entry.Announcement.{Announcement}
use Rattle.pfair_entry.specs.declared.entry.EntryFault.{EntryFault}
use Rattle.pfair_entry.specs.declared.notice.NoticeFault.TheVariants.{Entry}

-- ---- names

next : (i place : ℕ) → suc i + place ≡ i + suc place
next i place = omega arith

-- if each item passes, none fails
none_fails : (test : ℕ → ℕ → Bool) (place : ℕ) (items : List ℕ) → ((i : ℕ) → i < length items → test (i + place) (slice_index items i) ≡ true) → first_failing test place items ≡ None
none_fails test place [] h = refl
none_fails test place (x ∷ items) h =
    let here : test place x ≡ true = rw (zero-add place) at (h 0 (omega arith)) in
    rw here (none_fails test (suc place) items (λ i within. subst (λ n. test n (slice_index items i) ≡ true) (next i place) (h (suc i) (omega (arith, within)))))

-- the first that fails
first_fails : (test : ℕ → ℕ → Bool) (place : ℕ) (items : List ℕ) (at : ℕ) → at < length items → test (at + place) (slice_index items at) ≡ false
    → ((i : ℕ) → i < at → test (i + place) (slice_index items i) ≡ true) → first_failing test place items ≡ Some (at + place)
first_fails test place [] at within bad first = absurd (omega (arith, within))
first_fails test place (x ∷ items) zero within bad first = let here : test place x ≡ false = rw (zero-add place) at bad in rw here (ap Some (sym (zero-add place)))
first_fails test place (x ∷ items) (suc at) within bad first =
    let here : test place x ≡ true = rw (zero-add place) at (first 0 (omega arith)) in
    rw here (first_fails test (suc place) items at (omega (arith, within)) (subst (λ n. test n (slice_index items at) ≡ false) (next at place) bad) (λ i before. subst (λ n. test n (slice_index items i) ≡ true) (next i place) (first (suc i) (omega (arith, before))))
    ∙ ap Some (sym (next at place)))

pub no_name_fault : (bytes : List ℕ) → IsTaskName bytes → name_fault bytes ≡ None
no_name_fault bytes ok =
    let some : (length bytes == 0) ≡ false = grind (arith, nat_tests, ok.not_empty) in
    let short : nat_lt 16 (length bytes) ≡ false = grind (arith, nat_tests, ok.not_too_long) in
    let none = none_fails may_stand 0 bytes (λ i within. rw (add-zero i) (ok.each_may_stand i within)) in
    rw (some, short, none) refl

pub name_fault_is : (bytes : List ℕ) (f : NameFault) → IsNameFaultOf bytes f → name_fault bytes ≡ Some f
name_fault_is bytes name.Empty h = rw h refl
name_fault_is bytes name.TooLong h = grind (arith, nat_tests)
name_fault_is bytes (name.BadByte at) h =
    let some : (length bytes == 0) ≡ false = grind (arith, nat_tests, h.not_empty) in
    let short : nat_lt 16 (length bytes) ≡ false = grind (arith, nat_tests, h.not_too_long) in
    let first = first_fails may_stand 0 bytes at h.inside (rw (add-zero at) h.bad) (λ i before. rw (add-zero i) (h.first i before)) in
    rw (some, short, first, add-zero at) refl

-- ---- weights

pub weight_fault_is : (cost period : ℕ) (f : WeightFault) → IsWeightFaultOf cost period f → weight_fault cost period ≡ Some f
weight_fault_is cost period f h = grind (arith, nat_tests)

-- ---- what is announced

no_announced_fault : (a : Announcement) → IsNamed a → IsWeighed a → announced_fault a ≡ None
no_announced_fault a named weighed = grind (arith, no_name_fault)

-- ---- entries

no_entry_fault : (floor : ℕ) (s : Option (ℕ × Announcement)) → IsEntry (record { floor = floor; said = s }) → entry_fault (record { floor = floor; said = s }) ≡ None
no_entry_fault floor s e = grind (arith, nat_tests)

-- ---- the first of all

no_said_fault : (s : Option (ℕ × Announcement)) → IsWellSaid s → option_and_then (λ s. announced_fault s.1) s ≡ None
no_said_fault s well = grind (arith, no_announced_fault)

-- what a log may have is refused by no rule
pub no_refusal : (e : Logged) → IsLoggable e → refusal e ≡ None
no_refusal e h = rw (no_said_fault e.said h.well_said, no_entry_fault e.floor e.said h.entry) refl

-- what has a name and a weight is refused as an entry
pub entry_refused : (e : Logged) (f : EntryFault) → IsWellSaid e.said → entry_fault e ≡ Some f → refusal e ≡ Some (Entry f)
entry_refused e f well h = rw (no_said_fault e.said well, h) refl

-- the first fault of each
pub ruleset first_faults = (no_name_fault, name_fault_is, weight_fault_is, no_refusal, entry_refused)
