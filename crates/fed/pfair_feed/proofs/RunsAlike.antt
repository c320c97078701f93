-- Two runs whose followers hold what agrees have written texts of which one begins the other.
use Rattle.pfair_feed.proofs.Common.{cases_order, lines_text, replica_of, Replica, empty_replica, frontier, numbers_below, said, Course, IsOf, IsPrefixOf, Dispatch, HavePlannedAlike, IsWholePlan, Settings, Origin, Table, decisions, table, Output, Follow, news, HaveWrittenAlike, rows_in, AreTakenFrom, IsBegun, same_Some, ℕ, ◌<◌, ◌≡◌, inl, inr, refl, sym, ap, subst, ◌∙◌, arith, List, [], ◌∷◌, ◌++◌, length, map, Some, slice_get, suc, ◌≤◌, ◌⊎◌, max, lines_text-append, Decided, RunsWriteAlike, get_numbers, taken_of}
use Rattle.pfair_feed.proofs.Going.{even, so_many, rows_go_on}
use Rattle.pfair_feed.proofs.ScriptRows.{heads}
use Rattle.pfair_table.proofs.TableLaws.{one_table}

-- a list whose elements are the first of another
first_of_other : {A : Type 0} (xs ys : List A) → length xs ≤ length ys → ((t : ℕ) → t < length xs → slice_get xs t ≡ slice_get ys t) → IsPrefixOf xs ys
first_of_other [] ys h same = (ys, refl)
first_of_other (x ∷ xs) [] h same = absurd (omega arith)
first_of_other (x ∷ xs) (y ∷ ys) h same =
    let rest = first_of_other xs ys (omega arith) (λ t l. same (suc t) (omega arith)) in
    let first : x ≡ y = same_Some x y (same 0 (omega arith)) in
    (rest.0, λ i. first i ∷ rest.1 i)

pub rows_of_more : (o : Origin) (output : Output) (slot : ℕ) (ts us : List Table) (ds es : List (List Decided)) → length ts ≡ length ds → IsPrefixOf ts us → IsPrefixOf ds es
    → IsPrefixOf (rows_in o output slot ts ds) (rows_in o output slot us es)
rows_of_more o output slot ts us ds es same p q =
    (rows_in o output (max slot (length ts)) (ts ++ p.0) (ds ++ q.0), sym (rows_go_on o output slot ts p.0 ds q.0 same) ∙ (λ i. rows_in o output slot (p.1 i) (q.1 i)))

begins : (o : Origin) (output : Output) (slot : ℕ) (ts us : List Table) (ds es : List (List Decided)) → length ts ≡ length ds → length us ≡ length es → length ts ≤ length us
    → ((t : ℕ) → t < length ts → t < length us → slice_get ts t ≡ slice_get us t) → ((t : ℕ) → t < length ts → t < length us → slice_get ds t ≡ slice_get es t)
    → IsPrefixOf (rows_in o output slot ts ds) (rows_in o output slot us es)
begins o output slot ts us ds es same same' h tables decided = grind (arith, rows_of_more, first_of_other)

pub written_alike : (f g : Follow) → length f.dispatch.tables ≡ length f.dispatch.decided → length g.dispatch.tables ≡ length g.dispatch.decided → HavePlannedAlike f.dispatch g.dispatch → HaveWrittenAlike f g
written_alike f g same same' planned output settings origins agree slot = grind (arith, cases_order, shorter, longer)
  where
    shorter : length f.dispatch.tables ≤ length g.dispatch.tables → IsPrefixOf (rows_in f.dispatch.origin f.output slot f.dispatch.tables f.dispatch.decided) (rows_in g.dispatch.origin g.output slot g.dispatch.tables g.dispatch.decided)
    shorter h =
        let p = begins f.dispatch.origin f.output slot f.dispatch.tables g.dispatch.tables f.dispatch.decided g.dispatch.decided same same' h
        (λ t l m. (let a = planned settings origins agree t l m in a.0 ∙ sym a.1)) (λ t l m. (let a = planned settings origins agree t l m in a.2 ∙ sym a.3)) in
        (p.0, p.1 ∙ (λ i. rows_in (origins i) (output i) slot g.dispatch.tables g.dispatch.decided))

    longer : length g.dispatch.tables ≤ length f.dispatch.tables → IsPrefixOf (rows_in g.dispatch.origin g.output slot g.dispatch.tables g.dispatch.decided) (rows_in f.dispatch.origin f.output slot f.dispatch.tables f.dispatch.decided)
    longer h =
        let p = begins g.dispatch.origin g.output slot g.dispatch.tables f.dispatch.tables g.dispatch.decided f.dispatch.decided same' same h
        (λ t m l. (let a = planned settings origins agree t l m in a.1 ∙ sym a.0)) (λ t m l. (let a = planned settings origins agree t l m in a.3 ∙ sym a.2)) in
        (p.0, p.1 ∙ (λ i. rows_in (sym origins i) (sym output i) slot f.dispatch.tables f.dispatch.decided))

-- ---- whether one of two texts begins the other can be seen

abbrev Begin : List ℕ → List ℕ → Type 0
Begin xs ys = IsPrefixOf xs ys ⊎ IsPrefixOf ys xs

-- a byte more before both, and one less
more_begin : (x y : ℕ) (xs ys : List ℕ) → x ≡ y → Begin xs ys → Begin (x ∷ xs) (y ∷ ys)
more_begin x y xs ys e (inl p) = inl (p.0, λ i. e i ∷ p.1 i)
more_begin x y xs ys e (inr p) = inr (p.0, λ i. sym e i ∷ p.1 i)

less_begin : (x y : ℕ) (xs ys : List ℕ) → Begin (x ∷ xs) (y ∷ ys) → (x ≡ y) × Begin xs ys
less_begin x y xs ys (inl p) = (let h = heads x y (xs ++ p.0) ys p.1 in (h.0, inl (p.0, h.1)))
less_begin x y xs ys (inr p) = (let h = heads y x (ys ++ p.0) xs p.1 in (sym h.0, inr (p.0, h.1)))

begin_seen : (xs ys : List ℕ) → ((Begin xs ys → ⊥) → ⊥) → Begin xs ys
begin_seen [] ys f = inl (ys, refl)
begin_seen (x ∷ xs) [] f = inr (x ∷ xs, refl)
begin_seen (x ∷ xs) (y ∷ ys) f = elim (cases_order x y) [
  | inl e ↦ more_begin x y xs ys e (begin_seen xs ys (λ none. f (λ b. none (less_begin x y xs ys b).1)))
  | inr (inl less) ↦ absurd (f (λ b. (let e = (less_begin x y xs ys b).0 in absurd (omega (arith, e, less)))))
  | inr (inr more) ↦ absurd (f (λ b. (let e = (less_begin x y xs ys b).0 in absurd (omega (arith, e, more)))))
]

-- ---- what lines leave is of the settings; a double negation, since whether a line is a row isn't decided here

of_lines : (s : Settings) (lines : List (List ℕ)) (x y : Replica) → IsOf s x → AreTakenFrom lines x y → (IsOf s y → ⊥) → ⊥
of_lines s [] x y of t none = none (subst (λ (z : Replica). IsOf s z) (sym t) of)
of_lines s (line ∷ lines) x y of (mid, t, more) none =
    let left : IsOf s mid → ⊥ = λ kept. of_lines s lines mid y kept more none in
    left (subst (λ (z : Replica). IsOf s z) (sym (t.other (λ p n e at is. left (subst (λ (z : Replica). IsOf s z) (sym (t.row p n e at is)) (taken_of s x p n e of at.loggable.entry))))) of)

of_new : (o : Origin) (s : Settings) (capacity : ℕ) (f : Follow) → IsBegun o s capacity f → IsOf s (replica_of f.dispatch.replica)
of_new o s capacity f fresh =
    let none : IsOf s (empty_replica s.processors capacity) = grind arith in
    subst (λ (x : Replica). IsOf s x) (sym (ap (λ (c : Course). c.replica) fresh.course_is)) none

-- ---- whole plans of what agrees

inside_of : {A : Type 0} (f : ℕ → A) (n t : ℕ) (xs : List A) → xs ≡ map f (numbers_below n) → t < length xs → t < n
inside_of f n t xs e l = (let a = ap length e ∙ so_many f n in omega (arith, a, l))

module _ (d : Dispatch) (whole : IsWholePlan d) (t : ℕ) where
  planned_there : t < length d.tables → (t < frontier (replica_of d.replica)) × (slice_get d.tables t ≡ Some (table d.origin d.settings (said (replica_of d.replica)) t))
      × (slice_get d.decided t ≡ Some (decisions d.origin d.settings (said (replica_of d.replica)) t))
  planned_there l = grind (arith, inside_of, get_numbers)

planned_alike : (s : Settings) (c d : Dispatch) → c.settings ≡ s → IsWholePlan c → IsWholePlan d → IsOf s (replica_of c.replica) → IsOf s (replica_of d.replica) → HavePlannedAlike c d
planned_alike s c d set whole whole' of of' settings origins agree t l m =
    let here = planned_there c whole t l in
    let there = planned_there d whole' t m in
    grind (arith, one_table)

-- ---- the law

-- lines whose rows begin others
begin_text : (xs ys : List (List (List ℕ))) → IsPrefixOf xs ys → IsPrefixOf (lines_text xs) (lines_text ys)
begin_text xs ys p = (lines_text p.0, sym (lines_text-append xs p.0) ∙ ap lines_text p.1)

pub runs_write_alike : RunsWriteAlike
runs_write_alike o s capacity capacity' bytes bytes' rest rest' f g f' g' old new old' new' fresh fresh' output unwritten a b agree =
    begin_seen (news f g) (news f' g') (λ none.
    of_lines s a.lines (replica_of f.dispatch.replica) (replica_of g.dispatch.replica) (of_new o s capacity f fresh) a.fed.held_is (λ of.
    of_lines s b.lines (replica_of f'.dispatch.replica) (replica_of g'.dispatch.replica) (of_new o s capacity' f' fresh') b.fed.held_is (λ of'.
    none (alike of of'))))
  where
    alike : IsOf s (replica_of g.dispatch.replica) → IsOf s (replica_of g'.dispatch.replica) → Begin (news f g) (news f' g')
    alike of of' =
        let whole = a.fed.gone_on.caught_up.whole in
        let whole' = b.fed.gone_on.caught_up.whole in
        let planned = planned_alike s g.dispatch g'.dispatch (grind arith) whole whole' of of' in
        let rows = written_alike g g' (even g.dispatch whole) (even g'.dispatch whole') planned (grind arith) (grind arith) (grind arith) agree f.unwritten in
        grind (arith, begin_text)
