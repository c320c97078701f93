-- What is restored of a state, row after row: members, their late releases, quanta.
use Rattle.pfair_state.proofs.Common.{ℕ, zero, suc, ◌+◌, ◌<◌, ◌≡◌, arith, refl, ◌∙◌, ap, List, [], ◌∷◌, ◌++◌, Some, None, length, drop, slice_get, Roster, Member, AreLeftAt, sym, subst, Machine, CanBeRestored, name_eq, append-nil, length-append, Delay, as_late, late_said, Row, Late, ◌≢◌, Bool, true, map, append_assoc, not, nat_list_eq_equiv, AllByRecursion, flat_map, length-map, NamesApart, IsBehindMembers, member_of, as_member, member_said, own_said, row_of, MemberRow, ◌%◌, can_add_row, with_row, Carried, Table, names_task, as_quantum, ran_said, Ran, false, ne_eqb, Pick, ArePlacesOf, IsFit, MemberIn, and_from, AllDiffer, is_used, IsRestoreFault}
use Rattle.pfair_weight.proofs.NamesApart.{apart_nil, apart_head, apart_tail}
use Rattle.pfair_admission.proofs.Restoring.{in_frame_more, left_more, named_more, room_more, in_turn}
use Rattle.pfair_state.specs.declared.rows.LateRow.{LateRow}
use Rattle.pfair_admission.specs.Laws.{HaveRoom}
use Rattle.pfair_admission.specs.Carried.{IsLeftAt}
use Rattle.std.proofs.lemmas.Bool.Decides.{nat_tests}
use Rattle.pfair_admission.specs.declared.member_state.RestoreFault.{RestoreFault}
use Rattle.pfair_admission.specs.declared.member_state.RestoreFault.TheVariants.{NotAdmitted, NotLeft, Memory}

-- What stands at a place of a list, and behind it.

module _ {A : Type 0} where
  next_at : (xs : List A) (at : ℕ) (x : A) (more : List A) → drop at xs ≡ x ∷ more → (slice_get xs at ≡ Some x) × (drop (suc at) xs ≡ more) × (at < length xs)
  next_at [] zero x more is = absurd (cc)
  next_at [] (suc at) x more is = absurd (cc)
  next_at (y ∷ xs) zero x more is = ((let same : y ≡ x = cc in ap Some same), (let rest : xs ≡ more = cc in rest), omega arith)
  next_at (y ∷ xs) (suc at) x more is = grind (arith, next_at xs at x more is)

  -- the first of those from a place on stands there, and the others behind it
  pub first_at : (xs : List A) (at : ℕ) (x : A) (more : List A) → drop at xs ≡ x ∷ more → (slice_get xs at ≡ Some x) × (drop (at + 1) xs ≡ more) × (at < length xs)
  first_at xs at x more is = grind (arith, next_at)

  -- nothing stands where none are left
  pub none_at : (xs : List A) (at : ℕ) → drop at xs ≡ [] → slice_get xs at ≡ None
  none_at [] at is = refl
  none_at (x ∷ xs) zero is = absurd (cc)
  none_at (x ∷ xs) (suc at) is = none_at xs at is

  -- what is behind some of those from a place on
  pub behind_some : (xs : List A) (at : ℕ) (some more : List A) → drop at xs ≡ some ++ more → drop (at + length some) xs ≡ more
  behind_some xs at [] more is = ap (λ n. drop n xs) (let n : at + 0 ≡ at = omega arith in n) ∙ is
  behind_some xs at (x ∷ some) more is = grind (arith, behind_some xs (at + 1) some more, first_at)

  -- and behind what stands there
  pub next_behind : (xs : List A) (at : ℕ) (more : List A) → drop at xs ≡ more → slice_get xs at ≡ slice_get more 0
  next_behind xs at [] is = none_at xs at is
  next_behind xs at (x ∷ more) is = (first_at xs at x more is).0

-- The members that a run can leave: none, and one more.

pub none_left : (slot : ℕ) (machine : Machine) → AreLeftAt slot machine []
none_left slot machine = record { named = apart_nil (λ (m : Member). m.name); room = omega arith; in_frame = tt; left = tt }

one_more : (machine : Machine) (slot : ℕ) (members : List Member) (m : Member) → CanBeRestored machine slot members m → AreLeftAt slot machine members → AreLeftAt slot machine (members ++ m ∷ [])
one_more machine slot members m restored all = record {
  named = named_more machine slot members m restored all.named;
  room = room_more machine slot members m restored;
  in_frame = in_frame_more machine slot members m restored all.in_frame;
  left = left_more machine slot members m restored all.left;
}

-- if it is restored
pub left_on : (slot : ℕ) (old new : Roster) (m : Member) → CanBeRestored old.machine slot old.members m → new ≡ record old { members = old.members ++ m ∷ [] }
    → AreLeftAt slot old.machine old.members → AreLeftAt slot new.machine new.members
left_on slot old new m restored is all = subst (λ (now : Roster). AreLeftAt slot now.machine now.members) (sym is) (one_more old.machine slot old.members m restored all)

-- what can be restored is refused for no other reason
pub out_of_memory : (machine : Machine) (slot : ℕ) (members : List Member) (m : Member) (why : RestoreFault) → IsRestoreFault machine slot members m why → CanBeRestored machine slot members m → why ≡ Memory
out_of_memory machine slot members m (NotAdmitted refusal) fault can = absurd (let both = sym fault ∙ can.admitted in cc)
out_of_memory machine slot members m NotLeft fault can = absurd (fault can.left)
out_of_memory machine slot members m Memory fault can = refl

-- The late releases of a task, read row after row.

module _ (rows : List Row) (from : ℕ) (name : List ℕ) where
  -- the delays that are left, where some were read
  pub record AreLeftOf (all done : List Delay) (behind : List Row) : Type 0 where
    pub left : List Delay
    pub whole : all ≡ done ++ left
    pub rows_are : drop (from + length done) rows ≡ map (late_said name) left ++ behind

  -- if the rows are those of any delays, these were read so far
  abbrev pub AreReadSoFar : List Delay → Type 0
  AreReadSoFar done = (all : List Delay) (behind : List Row) → drop from rows ≡ map (late_said name) all ++ behind → as_late (slice_get behind 0) ≡ None → AreLeftOf all done behind

  pub delays_begun : AreReadSoFar []
  delays_begun all behind is not_late = record { left = all; whole = refl; rows_are = ap (λ n. drop n rows) (let n : from + 0 ≡ from = omega arith in n) ∙ is }

  module _ (done : List Delay) (so_far : AreReadSoFar done) where
    -- a late release at that place is the first that is left
    late_at : (row : LateRow) (all : List Delay) (behind : List Row) → as_late (slice_get behind 0) ≡ None → AreLeftOf all done behind → slice_get rows (from + length done) ≡ Some (Late row)
        → (delay : Delay) × (more : List Delay) × (all ≡ done ++ delay ∷ more) × (row ≡ record { name = name; index = delay.index; by = delay.by }) × (drop (from + length done + 1) rows ≡ map (late_said name) more ++ behind)
    late_at row all behind not_late left at = by_left left.left left.whole behind left.rows_are not_late
      where
        by_left : (left : List Delay) → all ≡ done ++ left → (behind : List Row) → drop (from + length done) rows ≡ map (late_said name) left ++ behind → as_late (slice_get behind 0) ≡ None
            → (delay : Delay) × (more : List Delay) × (all ≡ done ++ delay ∷ more) × (row ≡ record { name = name; index = delay.index; by = delay.by }) × (drop (from + length done + 1) rows ≡ map (late_said name) more ++ behind)
        by_left [] whole behind is not_late = absurd (let late = ap as_late (sym (next_behind rows (from + length done) behind is) ∙ at) in cc)
        by_left (delay ∷ more) whole behind is not_late = grind (arith, first_at)

    pub delay_read : (row : LateRow) (after : List Delay) → slice_get rows (from + length done) ≡ Some (Late row) → after ≡ done ++ record { index = row.index; by = row.by } ∷ [] → AreReadSoFar after
    delay_read row after at grown all behind is not_late =
        let late = late_at row all behind not_late (so_far all behind is not_late) at in
        let same : record { index = row.index; by = row.by } ≡ late.0 = ap (λ (r : LateRow). record { index = r.index; by = r.by }) late.3 in
        let own : after ≡ done ++ late.0 ∷ [] = grown ∙ ap (λ (d : Delay). done ++ d ∷ []) same in
        let long : from + length after ≡ from + length done + 1 = (let one = ap length own ∙ length-append done (late.0 ∷ []) in omega (arith, one)) in
        record {
          left = late.1;
          whole = late.2 ∙ sym (append_assoc done (late.0 ∷ []) late.1) ∙ ap (λ (d : List Delay). d ++ late.1) (sym own);
          rows_are = ap (λ n. drop n rows) long ∙ late.4;
        }

    -- what isn't a late release of this task has nothing of it behind
    pub all_named : (row : LateRow) → slice_get rows (from + length done) ≡ Some (Late row) → row.name ≢ name → (all : List Delay) (behind : List Row) → drop from rows ≡ map (late_said name) all ++ behind → as_late (slice_get behind 0) ≡ None → ⊥
    all_named row at other all behind is not_late = (let late = late_at row all behind not_late (so_far all behind is not_late) at in other (ap (λ (r : LateRow). r.name) late.3))

    pub all_read : as_late (slice_get rows (from + length done)) ≡ None → (all : List Delay) (behind : List Row) → drop from rows ≡ map (late_said name) all ++ behind → as_late (slice_get behind 0) ≡ None → done ≡ all
    all_read none all behind is not_late = (let left = so_far all behind is not_late in by_left left.left left.whole left.rows_are)
      where
        by_left : (left : List Delay) → all ≡ done ++ left → drop (from + length done) rows ≡ map (late_said name) left ++ behind → done ≡ all
        by_left [] whole rows_are = sym (whole ∙ append-nil done)
        by_left (delay ∷ more) whole rows_are = absurd (let late = ap as_late (first_at rows (from + length done) (late_said name delay) (map (late_said name) more ++ behind) rows_are).0 in cc)

-- names that are compared as unequal are
pub other_name : (name other : List ℕ) (differ : Bool) → differ ≡ not (name_eq other name) → differ ≡ true → other ≢ name
other_name name other differ shown is same = grind (arith, nat_list_eq_equiv)

-- The members of a state, restored row after row.

pub middle : {A : Type 0} (P : A → Type 0) (xs ys : List A) (x : A) → AllByRecursion P (xs ++ x ∷ ys) → P x
middle P [] ys x h = h.0
middle P (y ∷ xs) ys x h = middle P xs ys x h.1

-- no late release stands before them
pub no_late : (more : List Member) (behind : List Row) → IsBehindMembers behind → as_late (slice_get (flat_map member_said more ++ behind) 0) ≡ None
no_late [] behind ends = ends.1
no_late (m ∷ more) behind ends = refl

module _ (rows : List Row) (slot : ℕ) (old : Roster) where
  -- the members that are left, where some were restored and the next row is at this place
  pub record AreToRestore (all : List Member) (behind : List Row) (now : Roster) (at : ℕ) : Type 0 where
    pub left : List Member
    pub whole : all ≡ now.members ++ left
    pub rows_are : drop at rows ≡ flat_map member_said left ++ behind
    pub rest : now ≡ record old { members = now.members }

  -- if the rows are those of any members that a run can leave, these were restored so far
  abbrev pub AreRestoredSoFar : Roster → ℕ → Type 0
  AreRestoredSoFar now at = (all : List Member) (behind : List Row) → old.members ≡ [] → AreLeftAt slot old.machine all → drop 1 rows ≡ flat_map member_said all ++ behind → IsBehindMembers behind → AreToRestore all behind now at

  pub members_begun : AreRestoredSoFar old 1
  members_begun all behind none left is ends = record { left = all; whole = ap (λ (ms : List Member). ms ++ all) (sym none); rows_are = is; rest = refl }

  module _ (now : Roster) (at : ℕ) (so_far : AreRestoredSoFar now at) where
    -- the first member that is left, and what is behind its row
    pub record IsNext (all : List Member) (behind : List Row) (row : MemberRow) : Type 0 where
      pub member : Member
      pub more : List Member
      pub whole : all ≡ now.members ++ member ∷ more
      pub row_is : row ≡ row_of member
      pub delays_are : drop (at + 1) rows ≡ map (late_said member.name) member.delays ++ (flat_map member_said more ++ behind)
      pub ends : as_late (slice_get (flat_map member_said more ++ behind) 0) ≡ None
      pub rest : now ≡ record old { members = now.members }

    next : (row : MemberRow) → slice_get rows at ≡ Some (MemberIn row) → (all : List Member) (behind : List Row) → IsBehindMembers behind → AreToRestore all behind now at → IsNext all behind row
    next row here all behind ends to = by_left to.left to.whole to.rows_are
      where
        by_left : (left : List Member) → all ≡ now.members ++ left → drop at rows ≡ flat_map member_said left ++ behind → IsNext all behind row
        by_left [] whole is = absurd (let member = ap as_member (sym (next_behind rows at behind is) ∙ here) in let none = ends.0 in cc)
        by_left (m ∷ more) whole is =
            let own : drop at rows ≡ own_said m ∷ (map (late_said m.name) m.delays ++ (flat_map member_said more ++ behind)) =
            is ∙ ap (λ (r : List Row). own_said m ∷ r) (append_assoc (map (late_said m.name) m.delays) (flat_map member_said more) behind) in
            let first = first_at rows at (own_said m) (map (late_said m.name) m.delays ++ (flat_map member_said more ++ behind)) own in
            record { member = m; more = more; whole = whole; row_is = (let it = first.0 in cc); delays_are = first.1; ends = no_late more behind ends; rest = to.rest }

    module _ (row : MemberRow) (here : slice_get rows at ≡ Some (MemberIn row)) (delays : List Delay)
        (read : (all : List Delay) (behind : List Row) → drop (at + 1) rows ≡ map (late_said row.name) all ++ behind → as_late (slice_get behind 0) ≡ None → delays ≡ all) where
      -- its row and its late releases are read
      member_is : (all : List Member) (behind : List Row) (n : IsNext all behind row) → member_of row delays ≡ n.member
      member_is all behind n =
          let named : drop (at + 1) rows ≡ map (late_said row.name) n.member.delays ++ (flat_map member_said n.more ++ behind) =
          n.delays_are ∙ ap (λ (r : MemberRow). map (late_said r.name) n.member.delays ++ (flat_map member_said n.more ++ behind)) (sym n.row_is) in
          let same : delays ≡ n.member.delays = read n.member.delays (flat_map member_said n.more ++ behind) named n.ends in
          let own = n.row_is in
          λ i. member_of (own i) (same i)

      -- so it can be restored
      pub can : (all : List Member) (behind : List Row) → old.members ≡ [] → AreLeftAt slot old.machine all → drop 1 rows ≡ flat_map member_said all ++ behind → IsBehindMembers behind → CanBeRestored now.machine slot now.members (member_of row delays)
      can all behind none left is ends =
          let n = next row here all behind ends (so_far all behind none left is ends) in
          let machine : now.machine ≡ old.machine = ap (λ (r : Roster). r.machine) n.rest in
          let named = subst (NamesApart (λ (m : Member). m.name)) n.whole left.named in
          let room = subst (HaveRoom old.machine) n.whole left.room in
          let divides = middle (λ (m : Member). old.machine.frame % m.weight.period ≡ 0) now.members n.more n.member (subst (AllByRecursion (λ (m : Member). old.machine.frame % m.weight.period ≡ 0)) n.whole left.in_frame) in
          let own = middle (IsLeftAt slot) now.members n.more n.member (subst (AllByRecursion (IsLeftAt slot)) n.whole left.left) in
          let there = in_turn old.machine slot now.members n.more n.member named room divides own in
          subst (λ (m : Member). CanBeRestored now.machine slot now.members m) (sym (member_is all behind n)) (subst (λ (m : Machine). CanBeRestored m slot now.members n.member) (sym machine) there)

      -- and the others are left then
      pub restored : (after : Roster) → after ≡ record now { members = now.members ++ member_of row delays ∷ [] } → AreRestoredSoFar after (at + 1 + length delays)
      restored after grown all behind none left is ends =
          let n = next row here all behind ends (so_far all behind none left is ends) in
          let same = member_is all behind n in
          let members : after.members ≡ now.members ++ n.member ∷ [] = ap (λ (r : Roster). r.members) grown ∙ ap (λ (m : Member). now.members ++ m ∷ []) same in
          let long : length delays ≡ length (map (late_said n.member.name) n.member.delays) = (let own = ap (λ (m : Member). length m.delays) same in own ∙ sym (length-map n.member.delays (late_said n.member.name))) in
          record {
            left = n.more;
            whole = n.whole ∙ sym (append_assoc now.members (n.member ∷ []) n.more) ∙ ap (λ (ms : List Member). ms ++ n.more) (sym members);
            rows_are = ap (λ k. drop (at + 1 + k) rows) long ∙ behind_some rows (at + 1) (map (late_said n.member.name) n.member.delays) (flat_map member_said n.more ++ behind) n.delays_are;
            rest = grown ∙ ap (λ (r : Roster). record r { members = now.members ++ member_of row delays ∷ [] }) n.rest ∙ ap (λ (ms : List Member). record old { members = ms }) (sym (ap (λ (r : Roster). r.members) grown));
          }

    -- where no member's row stands, all were restored
    pub all_restored : as_member (slice_get rows at) ≡ None → (all : List Member) (behind : List Row) → old.members ≡ [] → AreLeftAt slot old.machine all → drop 1 rows ≡ flat_map member_said all ++ behind → IsBehindMembers behind
        → (drop at rows ≡ behind) × (now ≡ record old { members = all })
    all_restored ended all behind none left is ends = (let to = so_far all behind none left is ends in by_left to.left to.whole to.rows_are to.rest)
      where
        by_left : (left : List Member) → all ≡ now.members ++ left → drop at rows ≡ flat_map member_said left ++ behind → now ≡ record old { members = now.members } → (drop at rows ≡ behind) × (now ≡ record old { members = all })
        by_left [] whole rows_are rest = (rows_are, rest ∙ ap (λ (ms : List Member). record old { members = ms }) (sym (whole ∙ append-nil now.members)))
        by_left (m ∷ more) whole rows_are rest =
            absurd (let there = ap as_member (first_at rows at (own_said m) (map (late_said m.name) m.delays ++ (flat_map member_said more ++ behind)) (rows_are ∙ ap (λ (r : List Row). own_said m ∷ r) (append_assoc (map (late_said m.name) m.delays) (flat_map member_said more) behind))).0 in cc)

-- The quanta of a state, added row after row.

-- ---- a row behind others

abbrev label : Pick → List ℕ
label p = p.name

name_is_new : (done : Table) (p : Pick) (more : Table) → NamesApart label (done ++ p ∷ more) → names_task p.name done ≡ false
name_is_new [] p more apart = refl
name_is_new (q ∷ done) p more apart =
    let other = middle (λ (y : Pick). name_eq q.name y.name ≡ false) done more p (apart_head label q (done ++ p ∷ more) apart) in
    grind (arith, name_is_new done p more (apart_tail label q (done ++ p ∷ more) apart), nat_list_eq_equiv, more, apart_tail)

place_is_new : (done : List ℕ) (k : ℕ) (more : List ℕ) → AllDiffer (done ++ k ∷ more) → is_used done k ≡ false
place_is_new [] k more differ = refl
place_is_new (j ∷ done) k more differ = (let other = middle (λ i. j ≢ i) done more k differ.0 in grind (arith, ne_eqb, place_is_new done k more differ.1))

-- it can be added to them
can_add : (c : Carried) (p : Pick) (k : ℕ) (more : Table) (others : List ℕ) → IsFit c.machine.processors (c.table ++ p ∷ more) → ArePlacesOf c.machine.processors (c.table ++ p ∷ more) (c.places ++ k ∷ others) → can_add_row c p k ≡ true
can_add c p k more others fit places = grind (arith, length-append, more, middle, others, and_from, nat_tests, name_is_new, place_is_new)

-- ---- quanta that are left

module _ (rows : List Row) (old : Carried) where
  pub record AreToAdd (table : Table) (places : List ℕ) (behind : List Row) (now : Carried) (at : ℕ) : Type 0 where
    pub left : Table
    pub left_places : List ℕ
    pub table_is : table ≡ now.table ++ left
    pub places_are : places ≡ now.places ++ left_places
    pub long : length left_places ≡ length left
    pub rows_are : drop at rows ≡ ran_said left left_places ++ behind
    pub rest : now ≡ record old { table = now.table; places = now.places }

  -- if the rows are those of any quanta that a slot can have, these were added so far
  abbrev pub AreAddedSoFar : ℕ → Carried → ℕ → Type 0
  AreAddedSoFar from now at = (table : Table) (places : List ℕ) (behind : List Row) → (old.table ≡ []) × (old.places ≡ []) → IsFit old.machine.processors table → ArePlacesOf old.machine.processors table places
      → drop from rows ≡ ran_said table places ++ behind → as_quantum (slice_get behind 0) ≡ None → AreToAdd table places behind now at

  pub quanta_begun : (from : ℕ) → AreAddedSoFar from old from
  quanta_begun from table places behind none fit are is ends = record {
    left = table;
    left_places = places;
    table_is = ap (λ (t : Table). t ++ table) (sym none.0);
    places_are = ap (λ (p : List ℕ). p ++ places) (sym none.1);
    long = are.one_each;
    rows_are = is;
    rest = refl;
  }

  module _ (from : ℕ) (now : Carried) (at : ℕ) (so_far : AreAddedSoFar from now at) where
    pub record IsNextQuantum (table : Table) (places : List ℕ) (behind : List Row) (x : Pick × ℕ) : Type 0 where
      pub more : Table
      pub others : List ℕ
      pub table_is : table ≡ now.table ++ x.0 ∷ more
      pub places_are : places ≡ now.places ++ x.1 ∷ others
      pub long : length others ≡ length more
      pub rows_are : drop (at + 1) rows ≡ ran_said more others ++ behind

    next_quantum : (x : Pick × ℕ) → slice_get rows at ≡ Some (Ran x.0 x.1) → (table : Table) (places : List ℕ) (behind : List Row) → as_quantum (slice_get behind 0) ≡ None → AreToAdd table places behind now at → IsNextQuantum table places behind x
    next_quantum x here table places behind ends to = by_left to.left to.left_places to.table_is to.places_are to.long to.rows_are
      where
        by_left : (left : Table) (left_places : List ℕ) → table ≡ now.table ++ left → places ≡ now.places ++ left_places → length left_places ≡ length left → drop at rows ≡ ran_said left left_places ++ behind → IsNextQuantum table places behind x
        by_left [] left_places table_is places_are long is = absurd (let there = ap as_quantum (sym (next_behind rows at behind is) ∙ here) in cc)
        by_left (p ∷ more) [] table_is places_are long is = absurd (omega (arith, long))
        by_left (p ∷ more) (k ∷ others) table_is places_are long is =
            let first = first_at rows at (Ran p k) (ran_said more others ++ behind) is in
            let same : Ran p k ≡ Ran x.0 x.1 = (let it = first.0 in cc) in
            let pick : p ≡ x.0 = cc in
            let place : k ≡ x.1 = cc in
            record { more = more; others = others; table_is = table_is ∙ ap (λ (q : Pick). now.table ++ q ∷ more) pick; places_are = places_are ∙ ap (λ j. now.places ++ j ∷ others) place; long = omega (arith, long); rows_are = first.1 }

    module _ (x : Pick × ℕ) (here : slice_get rows at ≡ Some (Ran x.0 x.1)) where
      -- the quantum at that place can be added
      pub can_be_added : (table : Table) (places : List ℕ) (behind : List Row) → (old.table ≡ []) × (old.places ≡ []) → IsFit old.machine.processors table → ArePlacesOf old.machine.processors table places → drop from rows ≡ ran_said table places ++ behind
          → as_quantum (slice_get behind 0) ≡ None → can_add_row now x.0 x.1 ≡ true
      can_be_added table places behind none fit are is ends =
          let to = so_far table places behind none fit are is ends in
          let n = next_quantum x here table places behind ends to in
          grind (arith, can_add)

      pub added : (after : Carried) → after ≡ with_row now x.0 x.1 → AreAddedSoFar from after (at + 1)
      added after grown table places behind none fit are is ends =
          let to = so_far table places behind none fit are is ends in
          let n = next_quantum x here table places behind ends to in
          let own = ap (λ (c : Carried). c.table) grown in
          let stand = ap (λ (c : Carried). c.places) grown in
          record {
            left = n.more;
            left_places = n.others;
            table_is = n.table_is ∙ sym (append_assoc now.table (x.0 ∷ []) n.more) ∙ ap (λ (t : Table). t ++ n.more) (sym own);
            places_are = n.places_are ∙ sym (append_assoc now.places (x.1 ∷ []) n.others) ∙ ap (λ (p : List ℕ). p ++ n.others) (sym stand);
            long = n.long;
            rows_are = n.rows_are;
            rest = grown ∙ ap (λ (c : Carried). record c { table = now.table ++ x.0 ∷ []; places = now.places ++ x.1 ∷ [] }) to.rest ∙ (λ i. record old { table = sym own i; places = sym stand i });
          }

    -- where no quantum's row stands, all were added
    pub all_added : as_quantum (slice_get rows at) ≡ None → (table : Table) (places : List ℕ) (behind : List Row) → (old.table ≡ []) × (old.places ≡ []) → IsFit old.machine.processors table → ArePlacesOf old.machine.processors table places
        → drop from rows ≡ ran_said table places ++ behind → as_quantum (slice_get behind 0) ≡ None → (drop at rows ≡ behind) × (now ≡ record old { table = table; places = places })
    all_added ended table places behind none fit are is ends = (let to = so_far table places behind none fit are is ends in by_left to.left to.left_places to.table_is to.places_are to.long to.rows_are to.rest)
      where
        by_left : (left : Table) (left_places : List ℕ) → table ≡ now.table ++ left → places ≡ now.places ++ left_places → length left_places ≡ length left → drop at rows ≡ ran_said left left_places ++ behind → now ≡ record old { table = now.table; places = now.places }
            → (drop at rows ≡ behind) × (now ≡ record old { table = table; places = places })
        by_left [] [] table_is places_are long is rest = grind (arith, table_is, append-nil, places_are, rest)
        by_left [] (k ∷ others) table_is places_are long is rest = absurd (omega (arith, long))
        by_left (p ∷ more) [] table_is places_are long is rest = absurd (omega (arith, long))
        by_left (p ∷ more) (k ∷ others) table_is places_are long is rest = absurd (let there = ap as_quantum (first_at rows at (Ran p k) (ran_said more others ++ behind) is).0 in cc)
