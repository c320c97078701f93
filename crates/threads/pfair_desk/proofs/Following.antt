-- What desks hold are entries of set cells, as they stand.
use Rattle.pfair_desk.proofs.Common.{◌≡◌, ℕ, zero, suc, List, [], ◌∷◌, ◌++◌, length, slice_get, Some, subst, One, Torn, Logged, IsEntry, Contents, only, contents_join, IsKey, arith, refl, inl, inr, Option, None, HeldBelow, Flat, entry_eq, entry_exact, Replica, sound_beginning, held, replica_of, DeskView, DeskState, state_of, learned, is_gained, gained_in_row, gained_in_rows, SameDesk, NoGapInRow, ◌+◌, ◌-◌, ◌<◌, ◌≤◌, Bool, false, cond, is_some, is_none, IsSome, sym, ap, ◌∙◌, Held, held_after, join_least, none_below, below_trans, not, ◌&&◌, IsReadByNumber}
use Rattle.std.specs.Prelude.{◌⊎◌, ◌≢◌}
use Rattle.std.specs.List.{AllByRecursion}
use Rattle.pfair_desk.specs.Steps.{State, Step, IsStep, Set, Get, Meet, empty_board, set_cell, with_cell, with_desk, after_get, after_step, after_steps, one_of, EachDeskBelow, DesksStayBelow, DesksAgree, DesksHoldReplicas}
use Rattle.std.proofs.lemmas.Option.{slice_get_cases}

-- A fact of each element of a list and its place.

-- one more element
pub each_snoc : {A : Type 0} (P : ℕ → A → Type 0) (xs : List A) (x : A) → ((k : ℕ) (y : A) → slice_get xs k ≡ Some y → P k y) → P (length xs) x → (k : ℕ) (y : A) → slice_get (xs ++ x ∷ []) k ≡ Some y → P k y
each_snoc P [] x old new zero y at = let e : x ≡ y = cc in subst (λ z. P 0 z) e new
each_snoc P [] x old new (suc k) y at = absurd (cc)
each_snoc P (z ∷ zs) x old new zero y at = old 0 y at
each_snoc P (z ∷ zs) x old new (suc k) y at = each_snoc (λ j. P (suc j)) zs x (λ j. old (suc j)) new k y at

-- contents that are below the set cells
abbrev UnderCells : Contents → (ℕ → ℕ → Option Logged) → Type 0
UnderCells held cells = (k n : ℕ) → HeldBelow (held k n) (one_of (cells k n))

-- setting a cell changes no cell that is set
set_keeps : (cells : ℕ → ℕ → Option Logged) (j m : ℕ) (e : Logged) (k n : ℕ) → HeldBelow (one_of (cells k n)) (one_of (set_cell cells j m e k n))
set_keeps cells j m e k n = grind arith

-- the entry of a cell is below the cells
only_below : (cells : ℕ → ℕ → Option Logged) (j m : ℕ) (e : Logged) → cells j m ≡ Some e → UnderCells (only j m e) cells
only_below cells j m e is k n = grind arith

read_below : (cells : ℕ → ℕ → Option Logged) (held : Contents) (j m : ℕ) → UnderCells held cells → UnderCells (with_cell held j m (cells j m)) cells
read_below cells held j m under k n = grind (arith, join_least entry_eq entry_exact, only_below, under k n)

with_below : (cells : ℕ → ℕ → Option Logged) (desks : ℕ → Contents) (d : ℕ) (held : Contents) → ((c : ℕ) → UnderCells (desks c) cells) → UnderCells held cells → (c : ℕ) → UnderCells (with_desk desks d held c) cells
with_below cells desks d held each under c k n = grind (arith, each c k n, under k n)

got_below : (b : State) (d k n : ℕ) → EachDeskBelow b → EachDeskBelow (after_get b d k n)
got_below b d k n each = with_below b.cells b.desks d (with_cell (b.desks d) k n (b.cells k n)) each (read_below b.cells (b.desks d) k n (each d))

step_below : (b : State) (step : Step) → EachDeskBelow b → EachDeskBelow (after_step b step)
step_below b (Set d k n e) each =
    got_below (record b { cells = set_cell b.cells k n e }) d k n
    (λ c i j. below_trans (b.desks c i j) (one_of (b.cells i j)) (one_of (set_cell b.cells k n e i j)) (each c i j) (set_keeps b.cells k n e i j))
step_below b (Get d k n) each = got_below b d k n each
step_below b (Meet d c) each =
    with_below b.cells b.desks d (contents_join (b.desks d) (b.desks c)) each
    (λ k n. join_least entry_eq entry_exact (b.desks d k n) (b.desks c k n) (one_of (b.cells k n)) (each d k n) (each c k n))

steps_below : (steps : List Step) (b : State) → EachDeskBelow b → EachDeskBelow (after_steps steps b)
steps_below [] b each = each
steps_below (step ∷ steps) b each = steps_below steps (after_step b step) (step_below b step each)

pub desks_stay_below : DesksStayBelow
desks_stay_below steps = steps_below steps empty_board (λ d k n. none_below _)

-- no set cell is torn
cell_whole : (o : Option Logged) → one_of o ≢ Some Torn
cell_whole o e = grind arith

pub desks_agree : DesksAgree
desks_agree steps c d processors capacity k n torn =
    let b = after_steps steps empty_board in
    let each = desks_stay_below steps in
    let below = join_least entry_eq entry_exact (b.desks c k n) (b.desks d k n) (one_of (b.cells k n)) (each c k n) (each d k n) Torn torn in
    grind (arith, cell_whole (b.cells k n))

-- each cell that is set is a key of the board, and its entry is stamped at or after its floor
abbrev CellsAreGood : ℕ → ℕ → (ℕ → ℕ → Option Logged) → Type 0
CellsAreGood processors capacity cells = (k n : ℕ) (e : Logged) → cells k n ≡ Some e → IsKey processors capacity k n × IsEntry e

set_good : (processors capacity : ℕ) (cells : ℕ → ℕ → Option Logged) (j m : ℕ) (e : Logged) → IsKey processors capacity j m × IsEntry e → CellsAreGood processors capacity cells → CellsAreGood processors capacity (set_cell cells j m e)
set_good processors capacity cells j m e new good k n f at = grind (arith, good k n f, good j m f)

step_good : (processors capacity : ℕ) (b : State) (step : Step) → IsStep processors capacity step → CellsAreGood processors capacity b.cells → CellsAreGood processors capacity (after_step b step).cells
step_good processors capacity b (Set d k n e) new good = set_good processors capacity b.cells k n e new good
step_good processors capacity b (Get d k n) new good = good
step_good processors capacity b (Meet d c) new good = good

steps_good : (processors capacity : ℕ) (steps : List Step) (b : State) → AllByRecursion (IsStep processors capacity) steps → CellsAreGood processors capacity b.cells → CellsAreGood processors capacity (after_steps steps b).cells
steps_good processors capacity [] b all good = good
steps_good processors capacity (step ∷ steps) b all good = steps_good processors capacity steps (after_step b step) all.1 (step_good processors capacity b step all.0 good)

-- the contents are the entry of the cell
held_cell : (c : Flat Logged) (o : Option Logged) → (one_of o ≡ Some c) ⊎ (one_of o ≡ Some Torn) → (e : Logged) × (o ≡ Some e) × (c ≡ One e)
held_cell c None (inl h) = absurd (cc)
held_cell c None (inr h) = absurd (cc)
held_cell c (Some e) is = (e, refl, grind arith)

pub desks_hold_replicas : DesksHoldReplicas
desks_hold_replicas processors capacity steps all d =
    let b = after_steps steps empty_board in
    let good = steps_good processors capacity steps empty_board all (λ k n e h. absurd (cc)) in
    let cell = λ (k n : ℕ) (c : Flat Logged) (h : b.desks d k n ≡ Some c). held_cell c (b.cells k n) (desks_stay_below steps d k n c h) in
    record {
      in_range = λ k n c h. (let t = cell k n c h in let key = (good k n t.0 t.1).0 in (key.row, key.first, key.last));
      stamped = λ k n e h. (let t = cell k n (One e) h in subst IsEntry (let same : t.0 ≡ e = (let back = t.2 in cc) in same) (good k n t.0 t.1).1);
    }

-- How many keys are newly held.

none_gained : (f g : Held Logged) → f ≡ g → (not (is_some f) && is_some g) ≡ false
none_gained f g is = grind arith

pub row_alike : (x y w z : Replica) (k n : ℕ) → ((j : ℕ) → 1 ≤ j → j ≤ n → is_gained x y k j ≡ is_gained w z k j) → gained_in_row x y k n ≡ gained_in_row w z k n
row_alike x y w z k zero at = refl
row_alike x y w z k (suc n) at = grind (arith, row_alike x y w z k n)

pub rows_alike : (x y z : Replica) (m : ℕ) → y.capacity ≡ z.capacity → ((k n : ℕ) → k < m → y.at k n ≡ z.at k n) → gained_in_rows x y m ≡ gained_in_rows x z m
rows_alike x y z zero same at = refl
rows_alike x y z (suc k) same at = grind (arith, row_alike, rows_alike x y z k same)

-- nothing is gained past the place where the two hold the same
pub row_rest : (x y : Replica) (k m d : ℕ) → ((j : ℕ) → m < j → y.at k j ≡ x.at k j) → gained_in_row x y k (m + d) ≡ gained_in_row x y k m
row_rest x y k m zero at = let none : m + 0 ≡ m = omega arith in ap (gained_in_row x y k) none
row_rest x y k m (suc d) at = let up : m + suc d ≡ suc (m + d) = omega arith in rw up (grind (arith, none_gained, row_rest x y k m d, at (suc (m + d))))

pub row_full : (x y : Replica) (k m c : ℕ) → m ≤ c → ((j : ℕ) → m < j → y.at k j ≡ x.at k j) → gained_in_row x y k c ≡ gained_in_row x y k m
row_full x y k m c le at = let whole : m + (c - m) ≡ c = omega arith in ap (gained_in_row x y k) (sym whole) ∙ row_rest x y k m (c - m) at

pub row_next : (x y : Replica) (k n : ℕ) → 1 ≤ n → gained_in_row x y k n ≡ gained_in_row x y k (n - 1) + cond (is_gained x y k n) 1 0
row_next x y k zero le = absurd (omega arith)
row_next x y k (suc n) le = grind arith

pub same_trans : (a b c : DeskView) → SameDesk a b → SameDesk b c → SameDesk a c
same_trans a b c p q = grind arith

-- one row after another
pub no_gap_on : (old now new : Replica) (row : ℕ) → ((n : ℕ) → now.at row n ≡ old.at row n) → ((k n : ℕ) → (k ≡ row → ⊥) → new.at k n ≡ now.at k n)
    → ((k : ℕ) → NoGapInRow old now k) → NoGapInRow now new row → (k : ℕ) → NoGapInRow old new k
no_gap_on old now new row same others before mine k = grind arith

pub same_learned : (d new : DeskView) (p m : ℕ) (e : Logged) → state_of new ≡ learned (state_of d) p m e → SameDesk d new
same_learned d new p m e is = grind arith

pub look_other : (d new : DeskView) (p m : ℕ) (e : Logged) → state_of new ≡ learned (state_of d) p m e → (k n : ℕ) → ((k ≡ p) × (n ≡ m) → ⊥)
    → held new.replica k n ≡ held d.replica k n
look_other d new p m e is k n apart = ap (λ (x : DeskState). x.replica.at k n) is ∙ held_after.other (replica_of d.replica) p m e k n apart

pub is_some_some : (h : Held Logged) (f : Flat Logged) → h ≡ Some f → IsSome h
is_some_some h f is = grind arith

-- what stays in a row that was looked at one number further
pub row_step : (old now new : Replica) (p m : ℕ) (f : Flat Logged) → 1 ≤ m → now.at p m ≡ old.at p m → new.at p m ≡ Some f → ((n : ℕ) → n < m → new.at p n ≡ now.at p n)
    → gained_in_row old new p m ≡ gained_in_row old now p (m - 1) + cond (is_none (now.at p m)) 1 0
row_step old now new p m f one same some below = grind (arith, row_alike, row_next)

-- nothing is gained at a number at which both hold the same
pub row_same : (old now : Replica) (p m : ℕ) → 1 ≤ m → now.at p m ≡ old.at p m → gained_in_row old now p m ≡ gained_in_row old now p (m - 1)
row_same old now p m one same = grind (arith, row_next)

-- each number of a sound beginning is held
pub beginning_held : IsReadByNumber → (x : Replica) (k j : ℕ) → 1 ≤ j → j < length (sound_beginning x k) + 1 → IsSome (x.at k j)
beginning_held law x k j first last = elim (slice_get_cases (sound_beginning x k) (j - 1)).1 [
  | inl t ↦ (let here : j - 1 + 1 ≡ j = omega arith in subst (λ n. IsSome (x.at k n)) here (is_some_some (x.at k (j - 1 + 1)) (One t.0) (law.entry x k (j - 1) t.0 t.2)))
  | inr t ↦ (let past = t.0 in absurd (omega arith))
]

pub none_of : (h : Held Logged) (b : Bool) → is_some h ≡ not b → b ≡ is_none h
none_of h b e = grind arith
