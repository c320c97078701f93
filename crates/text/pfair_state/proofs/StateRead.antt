-- The state of rows, from the first to the end.
use Rattle.pfair_state.proofs.Common.{decimal, flat_map, decimal_digit, length-map, map-append, Member, Delay, Carried, Table, fields_of, first_said, late_said, member_said, ran_said, said_before_end, said_of, first_row, late_row, member_rows, ran_rows, rows_before_end, state_rows, ℕ, ◌≡◌, arith, refl, ap, List, [], ◌∷◌, map, length-append, length-drop, Roster, AreLeftAt, IsBehindMembers, IsWritable, first_of, as_quantum, Row, First, End, ◌+◌, ◌<◌, ◌≤◌, sym, subst, ◌∙◌, ◌++◌, Option, Some, None, Result, Err, length, min, drop, slice_get, append_assoc, ArePlacesOf, IsFit, codes, MatchResult}
use Rattle.pfair_state.specs.declared.fault.ReadFault.{ReadFault}
use Rattle.pfair_state.specs.declared.fault.ReadFault.TheVariants.{Memory}
use Rattle.pfair_state.specs.declared.rows.FirstRow.{FirstRow}
use Rattle.pfair_state.proofs.MembersRead.{first_at}

-- The rows of a state say what the state has.

delays_say : (name : List ℕ) (delays : List Delay) → map fields_of (map (late_said name) delays) ≡ map (late_row name) delays
delays_say name [] = refl
delays_say name (d ∷ delays) = grind (arith, delays_say name delays)

members_say : (members : List Member) → map fields_of (flat_map member_said members) ≡ flat_map member_rows members
members_say [] = refl
members_say (m ∷ members) = grind (arith, members_say members, map-append, flat_map, delays_say)

ran_say : (table : Table) (places : List ℕ) → map fields_of (ran_said table places) ≡ ran_rows table places
ran_say [] places = refl
ran_say (p ∷ table) [] = refl
ran_say (p ∷ table) (k ∷ places) = grind (arith, ran_say table places)

first_says : (c : Carried) → fields_of (first_said c) ≡ first_row c
first_says c = let one : decimal 1 ≡ codes "1" = decimal_digit 1 (omega arith) in ap (λ form. codes "state" ∷ form ∷ decimal c.slot ∷ decimal c.machine.processors ∷ decimal c.machine.frame ∷ []) one

before_end_say : (c : Carried) → map fields_of (said_before_end c) ≡ rows_before_end c
before_end_say c = grind (arith, map-append, flat_map, members_say, ran_say, first_says)

pub rows_say : (c : Carried) → map fields_of (said_of c) ≡ state_rows c
rows_say c = grind (arith, before_end_say, length-map, map-append)

-- the number that a row says, if it is the last
abbrev pub as_end : Option Row → Option ℕ
as_end (Some (End rows)) = Some rows
as_end _ = None

-- the number of all rows, as the last one says it
abbrev pub count_of : Carried → ℕ
count_of c = min (length (said_before_end c) + 1) 18446744073709551615

abbrev pub last_of : Carried → List Row
last_of c = End (count_of c) ∷ []

-- what is behind the members
abbrev pub behind_members : Carried → List Row
behind_members c = ran_said c.table c.places ++ last_of c

pub ends_members : (c : Carried) → IsBehindMembers (behind_members c)
ends_members c = by c.table c.places
  where
    by : (table : Table) (places : List ℕ) → IsBehindMembers (ran_said table places ++ last_of c)
    by [] places = (refl, refl)
    by (p ∷ table) [] = (refl, refl)
    by (p ∷ table) (k ∷ places) = (refl, refl)

module _ (rows : List Row) (c : Carried) (is : rows ≡ said_of c) where
  begins : slice_get rows 0 ≡ Some (First (first_of c))
  begins = ap (λ (r : List Row). slice_get r 0) is

  pub members_there : drop 1 rows ≡ flat_map member_said c.members ++ behind_members c
  members_there = ap (drop 1) is ∙ append_assoc (flat_map member_said c.members) (ran_said c.table c.places) (last_of c)

  -- the last row is the only one behind the others
  pub ends : (end : ℕ) → drop end rows ≡ last_of c → length rows < 18446744073709551616 → (slice_get rows end ≡ Some (End (length rows))) × (length rows ≡ end + 1)
  ends end there few = grind (arith, first_at, length-append, none_left)
    where
      none_left : (xs : List Row) (n : ℕ) → drop n xs ≡ [] → length xs ≤ n
      none_left xs n nothing = (let same = ap length nothing in let short = length-drop n xs in omega (arith, same, short))

-- ---- what is read of the rows of a state that can be written

module _ (rows : List Row) (first : FirstRow) (there : slice_get rows 0 ≡ Some (First first)) (roster : Roster) (made : roster ≡ record { machine = record { processors = first.processors; frame = first.frame }; members = []; heard = 0; last_slot = None }) (c : Carried) (can : IsWritable c) (is : rows ≡ said_of c) where
  -- the first row is the state's
  first_is : first ≡ first_of c
  first_is = (let some = sym there ∙ begins rows c is in cc)

  slot_is : first.slot ≡ c.slot
  slot_is = ap (λ (f : FirstRow). f.slot) first_is

  machine_is : roster.machine ≡ c.machine
  machine_is = ap (λ (r : Roster). r.machine) made ∙ ap (λ (f : FirstRow). record { processors = f.processors; frame = f.frame }) first_is

  -- then its members can be restored
  pub by_members : {P : List Member → List Row → Type 0} → ((all : List Member) (behind : List Row) → roster.members ≡ [] → AreLeftAt first.slot roster.machine all → drop 1 rows ≡ flat_map member_said all ++ behind → IsBehindMembers behind → P all behind) → P c.members (behind_members c)
  by_members back = grind (arith, machine_is, slot_is, members_there, ends_members)

  module _ (at : ℕ) (now : Roster) (read : (drop at rows ≡ behind_members c) × (now ≡ record roster { members = c.members })) (state : Carried) (begun : state ≡ record { slot = first.slot; machine = now.machine; members = now.members; table = []; places = [] }) where
    state_machine : state.machine ≡ c.machine
    state_machine = ap (λ (s : Carried). s.machine) begun ∙ ap (λ (r : Roster). r.machine) read.1 ∙ machine_is

    -- then its quanta can be added
    pub by_quanta : {P : Table → List ℕ → List Row → Type 0} → ((table : Table) (places : List ℕ) (behind : List Row) → (state.table ≡ []) × (state.places ≡ []) → IsFit state.machine.processors table → ArePlacesOf state.machine.processors table places → drop at rows ≡ ran_said table places ++ behind → as_quantum (slice_get behind 0) ≡ None → P table places behind)
        → P c.table c.places (last_of c)
    by_quanta back = grind (arith, state_machine)

    -- and all of it is the state
    pub whole : (after : Carried) → after ≡ record state { table = c.table; places = c.places } → after ≡ c
    whole after grown = grind (arith, slot_is, state_machine)

-- if an allocation fails
pub memory : {A : Type 0} (P : A → Type 0) (r : Result A ReadFault) (f : ReadFault) → r ≡ Err f → f ≡ Memory → MatchResult r P (λ fault. fault ≡ Memory)
memory P r f is means = subst (λ x. MatchResult x P (λ fault. fault ≡ Memory)) (sym is) means
