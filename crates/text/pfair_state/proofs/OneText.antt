-- A state follows from its text: rows from lines, and the state from rows.
use Rattle.pfair_state.proofs.Common.{flat_map, decimal_injective, append_cancel_right, Delay, Carried, Table, lines_text, AreSpelled, IsBehindMembers, IsSpelled, StatesHaveOneText, as_late, fields_of, first_of, late_said, line_of, member_of, member_said, ran_said, row_of, said_of, slot_field, Row, First, Late, Ran, End, ℕ, ◌<◌, ◌≡◌, ◌^◌, refl, sym, ap, ◌∙◌, arith, List, [], ◌∷◌, ◌++◌, Option, Some, None, drop, length, map, slice_get, append_assoc, IfSome, parts, MemberOf}
use Rattle.pfair_state.specs.declared.rows.Row.TheVariants.{Member}
use Rattle.pfair_state.proofs.MembersRead.{no_late}
use Rattle.pfair_state.proofs.StateRead.{rows_say, behind_members, ends_members, members_there}
use Rattle.pfair_state.proofs.Spelled.{dash_is_no_number, parts_of_line, parts_of_text, same_member}

-- ---- a row from its fields

same_slot : (a b : Option ℕ) → IfSome a (λ t. t < 2 ^ 64) → IfSome b (λ t. t < 2 ^ 64) → slot_field a ≡ slot_field b → a ≡ b
same_slot None None h k e = refl
same_slot None (Some t) h k e = absurd (dash_is_no_number t k e)
same_slot (Some s) None h k e = absurd (dash_is_no_number s h (sym e))
same_slot (Some s) (Some t) h k e = ap Some (decimal_injective s t h k e)

same_row : (r s : Row) → IsSpelled r → IsSpelled s → fields_of r ≡ fields_of s → r ≡ s
same_row (First f) (First g) h k e = grind (arith, decimal_injective)
same_row (Member m) (Member n) h k e =
    let weight : m.weight ≡ n.weight = grind (arith, decimal_injective) in
    let freed_at = same_slot m.freed_at n.freed_at h.4 k.4 (cc) in
    ap Member (same_member m n (cc) weight (cc) (cc) (cc) freed_at h.2 k.2 h.3 k.3)
same_row (Late l) (Late o) h k e = grind (arith, decimal_injective)
same_row (Ran p i) (Ran q j) h k e = grind (arith, decimal_injective)
same_row (End m) (End n) h k e = grind (arith, decimal_injective)
same_row _ _ h k e = absurd cc

-- ---- rows from a text

from_lines : (rs ss : List Row) → AreSpelled rs → AreSpelled ss → map line_of rs ≡ map line_of ss → rs ≡ ss
from_lines [] [] h k e = refl
from_lines (r ∷ rs) (s ∷ ss) h k e =
    let line : line_of r ≡ line_of s = cc in
    let row = same_row r s h.0 k.0 (sym (parts_of_line r h.0) ∙ ap parts line ∙ parts_of_line s k.0) in
    grind (arith, from_lines rs ss h.1 k.1 cc)
from_lines _ _ h k e = absurd cc

from_text : (rs ss : List Row) → AreSpelled rs → AreSpelled ss → lines_text (map fields_of rs) ≡ lines_text (map fields_of ss) → rs ≡ ss
from_text rs ss h k e = grind (arith, from_lines, append_cancel_right, parts_of_text)

-- ---- a state from its rows

same_delays : (a b : List ℕ) (ds es : List Delay) (rs ss : List Row) → as_late (slice_get rs 0) ≡ None → as_late (slice_get ss 0) ≡ None
    → map (late_said a) ds ++ rs ≡ map (late_said b) es ++ ss → (ds ≡ es) × (rs ≡ ss)
same_delays a b [] [] rs ss none also e = (refl, e)
same_delays a b [] (d ∷ es) rs ss none also e = absurd (let late = ap (λ (l : List Row). as_late (slice_get l 0)) e in cc)
same_delays a b (c ∷ ds) [] rs ss none also e = absurd (let late = ap (λ (l : List Row). as_late (slice_get l 0)) e in cc)
same_delays a b (c ∷ ds) (d ∷ es) rs ss none also e = grind (arith, same_delays a b ds es rs ss none also cc)

same_members : (ms ns : List MemberOf) (rs ss : List Row) → IsBehindMembers rs → IsBehindMembers ss → flat_map member_said ms ++ rs ≡ flat_map member_said ns ++ ss → (ms ≡ ns) × (rs ≡ ss)
same_members [] [] rs ss ends also e = (refl, e)
same_members [] (n ∷ ns) rs ss ends also e = absurd (let none = ends.0 in cc)
same_members (m ∷ ms) [] rs ss ends also e = absurd (let none = also.0 in cc)
same_members (m ∷ ms) (n ∷ ns) rs ss ends also e =
    let own : row_of m ≡ row_of n = cc in
    let behind : (map (late_said m.name) m.delays ++ flat_map member_said ms) ++ rs ≡ (map (late_said n.name) n.delays ++ flat_map member_said ns) ++ ss = cc in
    let delays = same_delays m.name n.name m.delays n.delays (flat_map member_said ms ++ rs) (flat_map member_said ns ++ ss) (no_late ms rs ends) (no_late ns ss also)
    (sym (append_assoc (map (late_said m.name) m.delays) (flat_map member_said ms) rs) ∙ behind ∙ append_assoc (map (late_said n.name) n.delays) (flat_map member_said ns) ss) in
    let rest = same_members ms ns rs ss ends also delays.1 in
    ((λ i. member_of (own i) (delays.0 i) ∷ rest.0 i), rest.1)

same_ran : (t u : Table) (is js : List ℕ) (m n : ℕ) → length is ≡ length t → length js ≡ length u → ran_said t is ++ End m ∷ [] ≡ ran_said u js ++ End n ∷ [] → (t ≡ u) × (is ≡ js)
same_ran [] [] [] [] m n h k e = (refl, refl)
same_ran (p ∷ t) (q ∷ u) (i ∷ is) (j ∷ js) m n h k e = (let rest = same_ran t u is js m n (omega (arith, h)) (omega (arith, k)) cc in (cc, cc))
same_ran _ _ _ _ m n h k e = absurd (grind arith)

from_rows : (c d : Carried) → length c.places ≡ length c.table → length d.places ≡ length d.table → said_of c ≡ said_of d → c ≡ d
from_rows c d h k e =
    let first : first_of c ≡ first_of d = cc in
    let members = same_members c.members d.members (behind_members c) (behind_members d) (ends_members c) (ends_members d) (sym (members_there (said_of c) c refl) ∙ ap (drop 1) e ∙ members_there (said_of d) d refl) in
    grind (arith, same_ran)

pub one_text : StatesHaveOneText
one_text c d can also e = grind (arith, from_rows, from_text, rows_say)
