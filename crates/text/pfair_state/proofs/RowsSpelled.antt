-- The rows that are written of a state are spelled.
use Rattle.pfair_state.proofs.Common.{is_plain-name, is_plain-decimal, AllByRecursion, flat_map, take_more, get_or_from_slice_get, Member, Delay, IsState, Carried, Table, AreSpelled, IsSpelled, IsSpelledQuantum, IsWritable, first_said, late_said, member_said, own_said, ran_said, said_before_end, End, ℕ, ◌+◌, ◌<◌, ◌≡◌, ◌∙◌, ◌^◌, ap, arith, subst, sym, List, [], ◌∷◌, ◌++◌, min, length, slice_get, take, Some, Result, Ok, Err, OnOk, append-nil, lines_text, fields_of, line_of, Row, refl, Option, map, append_assoc, ◌==◌, parts, parts_at, length-slice_split}
use Rattle.std.proofs.SliceLists.{all_by_recursion_push}
use Rattle.pfair_admission.proofs.MemberLists.{each, each_map}
use Rattle.pfair_state.proofs.Spelled.{parts_of_line, parts_of_text}

-- Numbers and names stand in a line as they are.

pub ruleset plain_fields = (is_plain-decimal, is_plain-name)

pub on_ok : {A E P : Type 0} (r : Result A E) → P → OnOk r P
on_ok (Ok x) h = h
on_ok (Err e) h = tt

both_all : {A : Type 0} (P : A → Type 0) (xs ys : List A) → AllByRecursion P xs → AllByRecursion P ys → AllByRecursion P (xs ++ ys)
both_all P [] ys h g = g
both_all P (x ∷ xs) ys h g = (h.0, both_all P xs ys h.1 g)

all_flat : {A B : Type 0} (P : B → Type 0) (f : A → List B) (xs : List A) → AllByRecursion (λ x. AllByRecursion P (f x)) xs → AllByRecursion P (flat_map f xs)
all_flat P f [] h = tt
all_flat P f (x ∷ xs) h = both_all P (f x) (flat_map f xs) h.0 (all_flat P f xs h.1)

-- one element more of which it holds
pub more_taken : {A : Type 0} (P : A → Type 0) (xs : List A) (i : ℕ) (x : A) → i < length xs → slice_get xs i ≡ Some x → P x → AllByRecursion P (take i xs) → AllByRecursion P (take (i + 1) xs)
more_taken P xs i x inside at own all =
    let same = get_or_from_slice_get xs i x x at in
    subst (AllByRecursion P) (sym (take_more xs i x inside ∙ ap (λ y. take i xs ++ y ∷ []) same)) (all_by_recursion_push P (take i xs) x all own)

-- a member's row and those of its late releases
pub member_spelled : (m : Member) (name : List ℕ) (delays : List Delay) → name ≡ m.name → delays ≡ m.delays → IsSpelled (own_said m) → AllByRecursion (λ d. IsSpelled (late_said name d)) delays → AreSpelled (member_said m)
member_spelled m name delays named are own late =
    (own, each_map (λ (d : Delay). IsSpelled (late_said m.name d)) IsSpelled (late_said m.name) (λ d h. h) m.delays (subst (λ (p : List ℕ × List Delay). AllByRecursion (λ d. IsSpelled (late_said p.0 d)) p.1) (λ i. (named i, are i)) late))

ran_spelled : (table : Table) (places : List ℕ) → AllByRecursion IsSpelledQuantum table → AllByRecursion (λ k. k < 2 ^ 8) places → AreSpelled (ran_said table places)
ran_spelled [] places h g = tt
ran_spelled (p ∷ table) [] h g = tt
ran_spelled (p ∷ table) (k ∷ places) h g = ((h.0.0, h.0.1, g.0), ran_spelled table places h.1 g.1)

first_spelled : (c : Carried) → IsState c → IsSpelled (first_said c)
first_spelled c state = grind arith

-- so the state can be read
pub writable : (c : Carried) → IsState c → AllByRecursion (λ m. AreSpelled (member_said m)) c.members → AllByRecursion IsSpelledQuantum c.table → IsWritable c
writable c state members table =
    let few = state.processors.1 in
    let places = each (λ k. k < c.machine.processors) (λ k. k < 2 ^ 8) (λ k less. omega (arith, less, few)) c.places state.places.below in
    record {
      state = state;
      spelled = both_all IsSpelled (said_before_end c) (End (min (length (said_before_end c) + 1) 18446744073709551615) ∷ [])
          (first_spelled c state, both_all IsSpelled (flat_map member_said c.members) (ran_said c.table c.places) (all_flat IsSpelled member_said c.members members) (ran_spelled c.table c.places table places))
          (omega arith, tt);
    }

-- The rows of a text, read line after line.

-- the rows that are left, where some were read and this is the rest of the text
pub record AreLeft (rows done : List Row) (rest : List ℕ) : Type 0 where
  pub left : List Row
  pub all : rows ≡ done ++ left
  pub parts_are : parts_at 10 rest ≡ map line_of left ++ [] ∷ []
  pub spelled : AllByRecursion IsSpelled left

-- if the text is that of any rows, these were read so far
abbrev pub IsReadSoFar : (text : List ℕ) → (done : List Row) → (rest : List ℕ) → Type 0
IsReadSoFar text done rest = (rows : List Row) → AllByRecursion IsSpelled rows → text ≡ lines_text (map fields_of rows) → AreLeft rows done rest

pub begun : (text : List ℕ) → IsReadSoFar text [] text
begun text rows spelled is = record { left = rows; all = refl; parts_are = ap (parts_at 10) is ∙ parts_of_text rows spelled; spelled = spelled }

no_parts : (text : List ℕ) → parts_at 10 text ≡ [] → ⊥
no_parts text is = (let some = length-slice_split (λ b. b == 10) text in let none = ap length is in omega (arith, some, none))

-- a line is that of the first row left
first_line : (rows done : List Row) (rest line behind : List ℕ) → AreLeft rows done rest → parts_at 10 rest ≡ line ∷ parts_at 10 behind
    → (row : Row) × (more : List Row) × (rows ≡ done ++ row ∷ more) × (line ≡ line_of row) × (parts_at 10 behind ≡ map line_of more ++ [] ∷ []) × IsSpelled row × AllByRecursion IsSpelled more
first_line rows done rest line behind left cut = by_left left.left left.all left.parts_are left.spelled
  where
    by_left : (left : List Row) → rows ≡ done ++ left → parts_at 10 rest ≡ map line_of left ++ [] ∷ [] → AllByRecursion IsSpelled left
        → (row : Row) × (more : List Row) × (rows ≡ done ++ row ∷ more) × (line ≡ line_of row) × (parts_at 10 behind ≡ map line_of more ++ [] ∷ []) × IsSpelled row × AllByRecursion IsSpelled more
    by_left [] all parts_are spelled = absurd (no_parts behind (let same = sym cut ∙ parts_are in cc))
    by_left (row ∷ more) all parts_are spelled = grind (arith, parts_are)

module _ (text : List ℕ) (done : List Row) (rest line behind : List ℕ) (so_far : IsReadSoFar text done rest) (cut : parts_at 10 rest ≡ line ∷ parts_at 10 behind) (read : Option Row) (back : (row : Row) → IsSpelled row → parts line ≡ fields_of row → read ≡ Some row) where
  -- and it is read as that
  pub row_read : (row : Row) → read ≡ Some row → IsReadSoFar text (done ++ row ∷ []) behind
  row_read row is rows spelled text_is =
      let first = first_line rows done rest line behind (so_far rows spelled text_is) cut in
      let same : row ≡ first.0 = (let shown = back first.0 first.5 (ap parts first.3 ∙ parts_of_line first.0 first.5) in cc) in
      record {
        left = first.1;
        all = first.2 ∙ sym (append_assoc done (first.0 ∷ []) first.1) ∙ ap (λ (r : Row). (done ++ r ∷ []) ++ first.1) (sym same);
        parts_are = first.4;
        spelled = first.6;
      }

  pub none_read : ((row : Row) → read ≡ Some row → ⊥) → (rows : List Row) → AllByRecursion IsSpelled rows → text ≡ lines_text (map fields_of rows) → ⊥
  none_read none rows spelled text_is = grind (arith, first_line, parts_of_line)

-- behind the last line nothing is left
pub all_read : (text : List ℕ) (done : List Row) (rest : List ℕ) → IsReadSoFar text done rest → parts_at 10 rest ≡ rest ∷ []
    → (rows : List Row) → AllByRecursion IsSpelled rows → text ≡ lines_text (map fields_of rows) → (done ≡ rows) × (rest ≡ [])
all_read text done rest so_far cut rows spelled text_is = (let left = so_far rows spelled text_is in by_left left.left left.all left.parts_are)
  where
    by_left : (left : List Row) → rows ≡ done ++ left → parts_at 10 rest ≡ map line_of left ++ [] ∷ [] → (done ≡ rows) × (rest ≡ [])
    by_left [] all parts_are = (sym (all ∙ append-nil done), (let same = sym cut ∙ parts_are in cc))
    by_left (row ∷ []) all parts_are = absurd (let same = sym cut ∙ parts_are in cc)
    by_left (row ∷ next ∷ more) all parts_are = absurd (let same = sym cut ∙ parts_are in cc)
