-- A run that fills its processor: two tasks of weight 1/2 that run by turns.
use Rattle.pfair_optimal.proofs.Common.{false≢true, Task, Subtask, is_among, same_task, same_subtask, Schedule, release, is_row, has_run, GoesFirst, ◌≡◌, ℕ, zero, suc, ◌+◌, ◌-◌, ◌*◌, ◌/◌, ◌<◌, ◌≤◌, true, false, [], ◌∷◌, arith, refl, sym, subst, ⊎_elim, ◌%◌}
use Rattle.pfair_optimal.specs.Laws.{SomeRunIsFull}
use Rattle.pfair_optimal.proofs.Past.{among_here, among_cases, task_exact, subtask_exact, ran_at, ran_by}

-- task k, and its subtask i
abbrev pub half : ℕ → Task
half k = record { name = k ∷ []; joined = 0 }

abbrev pub half_at : ℕ → ℕ → Subtask
half_at k i = record { task = half k; index = i }

-- who runs in slot t
abbrev pub turn : ℕ → Subtask
turn t = half_at (t % 2) (t / 2 + 1)

abbrev pub halves : Schedule
halves = record {
  processors = 1;
  frame = 2;
  weight = λ _. record { cost = 1; period = 2 };
  offset = λ a _. a.joined;
  table = λ t. turn t ∷ [];
  members = λ _. half 0 ∷ half 1 ∷ [];
  is_active = λ a _. is_among same_task (half 0 ∷ half 1 ∷ []) a;
}

-- a row is the one whose turn it is
row_is : (t : ℕ) (z : Subtask) → is_row halves t z ≡ true → z ≡ turn t
row_is t z row = ⊎_elim (λ e. e) (λ none. absurd (false≢true none)) (among_cases same_subtask subtask_exact (turn t) [] z row)

is_turn : (t : ℕ) (z : Subtask) → z ≡ turn t → is_row halves t z ≡ true
is_turn t z e = subst (λ w. is_row halves t w ≡ true) (sym e) (among_here same_subtask subtask_exact [] (turn t))

-- the turn of a subtask
turn_of : (k i : ℕ) → k < 2 → 1 ≤ i → half_at k i ≡ turn (2 * (i - 1) + k)
turn_of k i two first = grind arith

half_ran : (k i t : ℕ) → k < 2 → 1 ≤ i → 2 * (i - 1) + k < t → has_run halves (half_at k i) t ≡ true
half_ran k i t two first before = ran_by halves (half_at k i) (2 * (i - 1) + k) t before (is_turn (2 * (i - 1) + k) (half_at k i) (turn_of k i two first))

among_halves : (k : ℕ) → k < 2 → is_among same_task (half 0 ∷ half 1 ∷ []) (half k) ≡ true
among_halves zero two = refl
among_halves (suc zero) two = refl
among_halves (suc (suc k)) two = absurd (omega arith)

is_half : (a : Task) → is_among same_task (half 0 ∷ half 1 ∷ []) a ≡ true → (k : ℕ) × (k < 2) × (a ≡ half k)
is_half a h = ⊎_elim
    (λ e. (0, omega arith, e))
    (λ more. ⊎_elim (λ e. (1, omega arith, e)) (λ none. absurd (false≢true none)) (among_cases same_task task_exact (half 1) [] a more))
    (among_cases same_task task_exact (half 0) (half 1 ∷ []) a h)

-- who waits sees the one before it run
before_wait : (t k i : ℕ) → k < 2 → 1 ≤ i → release halves (half_at k i) ≤ t → has_run halves (half_at k i) (suc t) ≡ false → GoesFirst halves (turn t) (half_at k i)
before_wait t k i two first opened not_run = grind (arith, half_ran)

pub some_run : SomeRunIsFull
some_run = (halves, λ n. grind (arith, row_is, half_ran, among_halves, ran_at, is_half, before_wait), λ t. refl)
