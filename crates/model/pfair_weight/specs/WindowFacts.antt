-- Where windows lie: their ends by products in place of quotients, and beside those of the next subtask.
use Rattle.std.specs.Prelude.{ℕ, ◌≡◌, ◌+◌, ◌-◌, ◌*◌, ◌/◌, ◌%◌, ◌<◌, ◌≤◌, min, ◌↔◌, ◌==◌, true}
use Rattle.std.specs.Int.{div_ceil}
use Rattle.std.proofs.Common.{arith, inl, inr, ap, ◌∙◌, refl}
use Rattle.std.proofs.lemmas.Bool.{cases_lt}
use Rattle.std.proofs.Math.Nat.{le_refl, le-div_iff_mul-le, add-mul-div_right, add-mul-mod_self_right, div-lt_iff_lt-mul, mul-mod_left, mul-div_cancel}
use Rattle.std.proofs.lemmas.Grind.{div_ceil_times}
use Rattle.std.proofs.lemmas.Nat.{mul-le, div-add-mod'}
use Rattle.pfair_weight.specs.Window.{Share, IsWeight, release_of, deadline_of, b_bit_of, IsHeavy, group_deadline_of, cascade_end, starts_job_of}
use Rattle.std.proofs.lemmas.Bool.Decides.{nat_tests}

-- Facts about quotients that are rounded down and up.

-- from a product that is smaller, at one positive factor, the other factor is smaller
pub lt_of_mul : (a b d : ℕ) → a * d < b * d → a < b
lt_of_mul a b d h = elim (cases_lt a b) [ inl p ↦ p | inr q ↦ absurd (let m : b * d ≤ a * d = mul-le b d a d q (le_refl d) in omega arith) ]

-- rounded up, a quotient is at most m exactly if m divisors reach the dividend
pub div_ceil_le : (n d m : ℕ) → 0 < d → n ≤ m * d → div_ceil n d ≤ m
div_ceil_le n d m p h =
    let up : div_ceil n d * d < n + d = (div_ceil_times n d p).1 in
    let below : div_ceil n d < m + 1 = lt_of_mul (div_ceil n d) (m + 1) d (omega arith) in
    omega arith

pub le_div_ceil : (n d m : ℕ) → 0 < d → div_ceil n d ≤ m → n ≤ m * d
le_div_ceil n d m p h =
    let low : n ≤ div_ceil n d * d = (div_ceil_times n d p).0 in
    let more : div_ceil n d * d ≤ m * d = mul-le (div_ceil n d) d m d h (le_refl d) in
    omega arith

-- the same of a quotient that is rounded down
pub le_div : (n d m : ℕ) → 0 < d → m * d ≤ n → m ≤ n / d
le_div n d m p h = (le-div_iff_mul-le p).1 h

pub mul_le_of_div : (n d m : ℕ) → 0 < d → m ≤ n / d → m * d ≤ n
mul_le_of_div n d m p h = (le-div_iff_mul-le p).0 h

-- rounding up at d, and then up at another quotient of d, moves a number by at most d
pub rounded_twice : (c p q : ℕ) → 0 < p → 0 < q → div_ceil (div_ceil (c * q) p * p) q ≤ c + p
rounded_twice c p q hp hq =
    let up : div_ceil (c * q) p * p < c * q + p = (div_ceil_times (c * q) p hp).1 in
    let wide : p * 1 ≤ p * q = mul-le p 1 p q (le_refl p) hq in
    div_ceil_le (div_ceil (c * q) p * p) q (c + p) hq (omega arith)

pub div_ceil_rises : (m n d : ℕ) → 0 < d → m ≤ n → div_ceil m d ≤ div_ceil n d
div_ceil_rises m n d p h =
    let low : n ≤ div_ceil n d * d = (div_ceil_times n d p).0 in
    div_ceil_le m d (div_ceil n d) p (omega arith)

-- and by two such steps no number comes down
pub le_rounded_twice : (c p q : ℕ) → 0 < p → 0 < q → c ≤ div_ceil (div_ceil (c * q) p * p) q
le_rounded_twice c p q hp hq =
    let first : c * q ≤ div_ceil (c * q) p * p = (div_ceil_times (c * q) p hp).0 in
    let second : div_ceil (c * q) p * p ≤ div_ceil (div_ceil (c * q) p * p) q * q = (div_ceil_times (div_ceil (c * q) p * p) q hq).0 in
    let below : c < div_ceil (div_ceil (c * q) p * p) q + 1 = lt_of_mul c (div_ceil (div_ceil (c * q) p * p) q + 1) q (omega arith) in
    omega arith

-- a dividend that is a multiple of the divisor is not rounded
pub div_ceil_of_multiple : (m d : ℕ) → 0 < d → div_ceil (m * d) d ≡ m
div_ceil_of_multiple m d p =
    let up : div_ceil (m * d) d ≤ m = div_ceil_le (m * d) d m p (le_refl (m * d)) in
    let reached : m * d ≤ div_ceil (m * d) d * d = (div_ceil_times (m * d) d p).0 in
    let below : m < div_ceil (m * d) d + 1 = lt_of_mul m (div_ceil (m * d) d + 1) d (omega arith) in
    omega arith

-- a dividend that is k divisors more makes the quotient k more
pub div_ceil_more : (n k d : ℕ) → 0 < d → div_ceil (n + k * d) d ≡ div_ceil n d + k
div_ceil_more n k d p =
    let quotient : (n + k * d) / d ≡ n / d + k = add-mul-div_right n k p in
    let rest : (n + k * d) % d ≡ n % d = add-mul-mod_self_right n k d in
    let rounded : min 1 ((n + k * d) % d) ≡ min 1 (n % d) = ap (λ r. min 1 r) rest in
    omega arith

-- one multiple more
pub one_less : (i p : ℕ) → 1 ≤ i → (i - 1) * p + p ≡ i * p
one_less i p h =
    let back : i - 1 + 1 ≡ i = omega arith in
    let spread : (i - 1) * p + p ≡ (i - 1 + 1) * p = omega arith in
    spread ∙ ap (λ (n : ℕ). n * p) back

-- a window has opened by slot s
pub released : (w : Share) (i s : ℕ) → 0 < w.cost → (i - 1) * w.period < (s + 1) * w.cost → release_of w i 0 ≤ s
released w i s p h =
    let below : ((i - 1) * w.period) / w.cost < s + 1 = (div-lt_iff_lt-mul p).1 h in
    omega arith

pub of_released : (w : Share) (i s : ℕ) → 0 < w.cost → release_of w i 0 ≤ s → (i - 1) * w.period < (s + 1) * w.cost
of_released w i s p h = (div-lt_iff_lt-mul p).0 (omega arith)

-- a window closes after slot s
pub before_deadline : (w : Share) (i s : ℕ) → 0 < w.cost → s * w.cost < i * w.period → s < deadline_of w i 0
before_deadline w i s p h =
    elim (cases_lt s (deadline_of w i 0)) [
      | inl early ↦ early
      | inr late ↦ absurd (let reached : i * w.period ≤ s * w.cost = le_div_ceil (i * w.period) w.cost s p (omega arith) in omega arith)
    ]

pub of_before_deadline : (w : Share) (i s : ℕ) → 0 < w.cost → s < deadline_of w i 0 → s * w.cost < i * w.period
of_before_deadline w i s p h =
    elim (cases_lt (s * w.cost) (i * w.period)) [
      | inl early ↦ early
      | inr late ↦ absurd (let reached : div_ceil (i * w.period) w.cost ≤ s = div_ceil_le (i * w.period) w.cost s p late in omega arith)
    ]

-- a later subtask's window does not close earlier
pub deadline_rises : (w : Share) (i j : ℕ) → 0 < w.cost → i ≤ j → deadline_of w i 0 ≤ deadline_of w j 0
deadline_rises w i j p h =
    let low : j * w.period ≤ div_ceil (j * w.period) w.cost * w.cost = le_div_ceil (j * w.period) w.cost (div_ceil (j * w.period) w.cost) p (le_refl (div_ceil (j * w.period) w.cost)) in
    let wide : i * w.period ≤ j * w.period = mul-le i w.period j w.period h (le_refl w.period) in
    let up : div_ceil (i * w.period) w.cost ≤ div_ceil (j * w.period) w.cost = div_ceil_le (i * w.period) w.cost (div_ceil (j * w.period) w.cost) p (omega arith) in
    omega arith

-- a window is not empty
pub window_not_empty : (w : Share) (i theta : ℕ) → IsWeight w.cost w.period → 1 ≤ i → release_of w i theta < deadline_of w i theta
window_not_empty w i theta h first =
    let opens : ((i - 1) * w.period) / w.cost * w.cost ≤ (i - 1) * w.period = mul_le_of_div ((i - 1) * w.period) w.cost (((i - 1) * w.period) / w.cost) h.some_cost (le_refl (((i - 1) * w.period) / w.cost)) in
    let closes : i * w.period ≤ div_ceil (i * w.period) w.cost * w.cost = le_div_ceil (i * w.period) w.cost (div_ceil (i * w.period) w.cost) h.some_cost (le_refl (div_ceil (i * w.period) w.cost)) in
    let step : (i - 1) * w.period + w.period ≡ i * w.period = one_less i w.period first in
    let below : ((i - 1) * w.period) / w.cost < div_ceil (i * w.period) w.cost = lt_of_mul (((i - 1) * w.period) / w.cost) (div_ceil (i * w.period) w.cost) w.cost (omega arith) in
    omega arith

-- a later subtask's window opens later
pub release_rises : (w : Share) (i j theta : ℕ) → IsWeight w.cost w.period → 1 ≤ i → i < j → release_of w i theta < release_of w j theta
release_rises w i j theta h first less =
    let opens : ((i - 1) * w.period) / w.cost * w.cost ≤ (i - 1) * w.period = mul_le_of_div ((i - 1) * w.period) w.cost (((i - 1) * w.period) / w.cost) h.some_cost (le_refl (((i - 1) * w.period) / w.cost)) in
    let step : (i - 1) * w.period + w.period ≡ i * w.period = one_less i w.period first in
    let wide : i * w.period ≤ (j - 1) * w.period = mul-le i w.period (j - 1) w.period (omega arith) (le_refl w.period) in
    let below : ((i - 1) * w.period) / w.cost + 1 ≤ ((j - 1) * w.period) / w.cost = le_div ((j - 1) * w.period) w.cost (((i - 1) * w.period) / w.cost + 1) h.some_cost (omega arith) in
    omega arith

-- and closes later
pub deadline_rises_strictly : (w : Share) (i j theta : ℕ) → IsWeight w.cost w.period → i < j → deadline_of w i theta < deadline_of w j theta
deadline_rises_strictly w i j theta h less =
    let near : div_ceil (i * w.period) w.cost * w.cost < i * w.period + w.cost = (div_ceil_times (i * w.period) w.cost h.some_cost).1 in
    let closes : j * w.period ≤ div_ceil (j * w.period) w.cost * w.cost = (div_ceil_times (j * w.period) w.cost h.some_cost).0 in
    let wide : (i + 1) * w.period ≤ j * w.period = mul-le (i + 1) w.period j w.period (omega arith) (le_refl w.period) in
    let below : div_ceil (i * w.period) w.cost < div_ceil (j * w.period) w.cost = lt_of_mul (div_ceil (i * w.period) w.cost) (div_ceil (j * w.period) w.cost) w.cost (omega arith) in
    omega arith

-- a window reaches into the next one by its b-bit
pub windows_overlap : (w : Share) (i theta : ℕ) → release_of w (i + 1) theta + b_bit_of w i ≡ deadline_of w i theta
windows_overlap w i theta =
    let same : i + 1 - 1 ≡ i = omega arith in
    rw same (omega arith)

pub b_bit_at_most_one : (w : Share) (i : ℕ) → b_bit_of w i ≤ 1
b_bit_at_most_one w i = omega arith

-- slot s after the offset has seen the window open exactly if the share of s + 1 slots is more than i - 1 quanta
pub opened_by_share : (w : Share) (i theta s : ℕ) → 0 < w.cost → (release_of w i theta ≤ theta + s) ↔ ((i - 1) * w.period < (s + 1) * w.cost)
opened_by_share w i theta s p = (λ open_by. of_released w i s p (omega arith), λ share. let by : release_of w i 0 ≤ s = released w i s p share in omega arith)

-- slot s after the offset has not seen the window close exactly if the share of s slots is less than i quanta
pub not_closed_by_share : (w : Share) (i theta s : ℕ) → 0 < w.cost → (theta + s < deadline_of w i theta) ↔ (s * w.cost < i * w.period)
not_closed_by_share w i theta s p = (λ before. of_before_deadline w i s p (omega arith), λ share. let by : s < deadline_of w i 0 = before_deadline w i s p share in omega arith)

-- Where group deadlines lie.

-- a light weight has no group deadline
pub group_deadline_light : (w : Share) (i theta : ℕ) → 2 * w.cost < w.period → group_deadline_of w i theta ≡ 0
group_deadline_light w i theta light = grind (arith, nat_tests)

-- that of a weight of 1 is its deadline
pub group_deadline_whole : (w : Share) (i theta : ℕ) → IsWeight w.cost w.period → w.cost ≡ w.period → group_deadline_of w i theta ≡ deadline_of w i theta
group_deadline_whole w i theta h whole =
    let some : 0 < w.cost = h.some_cost in
    grind (arith, nat_tests)

-- that of a heavy weight below 1 is the end of its cascade
pub group_deadline_heavy : (w : Share) (i theta : ℕ) → w.period ≤ 2 * w.cost → w.cost < w.period → group_deadline_of w i theta ≡ theta + cascade_end w (div_ceil (i * w.period) w.cost)
group_deadline_heavy w i theta heavy below = grind (arith, nat_tests)

-- a cascade does not end before the window that leads to it, and ends a period after it at most
pub cascade_not_before : (w : Share) (close : ℕ) → w.cost < w.period → close ≤ cascade_end w close
cascade_not_before w close below =
    let idle : 0 < w.period - w.cost = omega arith in
    le_rounded_twice close w.period (w.period - w.cost) (omega arith) idle

pub cascade_near : (w : Share) (close : ℕ) → w.cost < w.period → cascade_end w close ≤ close + w.period
cascade_near w close below =
    let idle : 0 < w.period - w.cost = omega arith in
    rounded_twice close w.period (w.period - w.cost) (omega arith) idle

-- and that of a later window does not end earlier
pub cascade_rises : (w : Share) (from to : ℕ) → w.cost < w.period → from ≤ to → cascade_end w from ≤ cascade_end w to
cascade_rises w from to below h =
    let idle : 0 < w.period - w.cost = omega arith in
    let some : 0 < w.period = omega arith in
    let slots : div_ceil (from * (w.period - w.cost)) w.period ≤ div_ceil (to * (w.period - w.cost)) w.period =
    div_ceil_rises (from * (w.period - w.cost)) (to * (w.period - w.cost)) w.period some (mul-le from (w.period - w.cost) to (w.period - w.cost) h (le_refl (w.period - w.cost))) in
    div_ceil_rises (div_ceil (from * (w.period - w.cost)) w.period * w.period) (div_ceil (to * (w.period - w.cost)) w.period * w.period) (w.period - w.cost) idle
    (mul-le (div_ceil (from * (w.period - w.cost)) w.period) w.period (div_ceil (to * (w.period - w.cost)) w.period) w.period slots (le_refl w.period))

-- a group deadline lies by its kind of weight
pub by_kind : (w : Share) (G : Type 0) → IsWeight w.cost w.period → (2 * w.cost < w.period → G) → (w.cost ≡ w.period → G) → (w.period ≤ 2 * w.cost → w.cost < w.period → G) → G
by_kind w G h light whole heavy =
    elim (cases_lt (2 * w.cost) w.period) [
      | inl p ↦ light p
      | inr p ↦ elim (cases_lt w.cost w.period) [
        | inl q ↦ heavy p q
        | inr q ↦ whole (let at_most : w.cost ≤ w.period = h.at_most_one in omega arith)
      ]
    ]

-- a heavy weight's group deadline is not before the deadline
pub group_deadline_not_before : (w : Share) (i theta : ℕ) → IsWeight w.cost w.period → IsHeavy w → deadline_of w i theta ≤ group_deadline_of w i theta
group_deadline_not_before w i theta h is_heavy =
    by_kind w (deadline_of w i theta ≤ group_deadline_of w i theta) h
    (λ (light : 2 * w.cost < w.period). absurd (omega arith))
    (λ (whole : w.cost ≡ w.period). rw (group_deadline_whole w i theta h whole) (le_refl (deadline_of w i theta)))
    (λ (heavy : w.period ≤ 2 * w.cost) (below : w.cost < w.period).
    let ends : div_ceil (i * w.period) w.cost ≤ cascade_end w (div_ceil (i * w.period) w.cost) = cascade_not_before w (div_ceil (i * w.period) w.cost) below in
    rw (group_deadline_heavy w i theta heavy below) (omega arith))

-- and no group deadline is more than a period after the deadline
pub group_deadline_near : (w : Share) (i theta : ℕ) → IsWeight w.cost w.period → group_deadline_of w i theta ≤ deadline_of w i theta + w.period
group_deadline_near w i theta h =
    by_kind w (group_deadline_of w i theta ≤ deadline_of w i theta + w.period) h
    (λ (light : 2 * w.cost < w.period). rw (group_deadline_light w i theta light) (omega arith))
    (λ (whole : w.cost ≡ w.period). rw (group_deadline_whole w i theta h whole) (omega arith))
    (λ (heavy : w.period ≤ 2 * w.cost) (below : w.cost < w.period).
    let ends : cascade_end w (div_ceil (i * w.period) w.cost) ≤ div_ceil (i * w.period) w.cost + w.period = cascade_near w (div_ceil (i * w.period) w.cost) below in
    rw (group_deadline_heavy w i theta heavy below) (omega arith))

-- a later subtask's group deadline is not earlier
pub group_deadline_rises : (w : Share) (i j theta : ℕ) → IsWeight w.cost w.period → i ≤ j → group_deadline_of w i theta ≤ group_deadline_of w j theta
group_deadline_rises w i j theta h later =
    let closes : deadline_of w i 0 ≤ deadline_of w j 0 = deadline_rises w i j h.some_cost later in
    by_kind w (group_deadline_of w i theta ≤ group_deadline_of w j theta) h
    (λ (light : 2 * w.cost < w.period). rw (group_deadline_light w i theta light) (omega arith))
    (λ (whole : w.cost ≡ w.period). rw (group_deadline_whole w i theta h whole, group_deadline_whole w j theta h whole) (omega arith))
    (λ (heavy : w.period ≤ 2 * w.cost) (below : w.cost < w.period).
    let ends : cascade_end w (div_ceil (i * w.period) w.cost) ≤ cascade_end w (div_ceil (j * w.period) w.cost) =
    cascade_rises w (div_ceil (i * w.period) w.cost) (div_ceil (j * w.period) w.cost) below (omega arith) in
    rw (group_deadline_heavy w i theta heavy below, group_deadline_heavy w j theta heavy below) (omega arith))

-- Which subtasks a job has, and where its windows begin and end.

-- the first subtask after k jobs starts a job
pub starts_after_jobs : (w : Share) (k : ℕ) → starts_job_of w (k * w.cost + 1) ≡ true
starts_after_jobs w k =
    let at : k * w.cost + 1 - 1 ≡ k * w.cost = omega arith in
    rw (at, mul-mod_left k w.cost) refl

-- and each subtask that starts a job is one
pub starts_job_only : (w : Share) (i : ℕ) → 1 ≤ i → starts_job_of w i ≡ true → (k : ℕ) × (i ≡ k * w.cost + 1)
starts_job_only w i first starts =
    let none : (i - 1) % w.cost ≡ 0 = grind (arith, nat_tests) in
    let split : (i - 1) / w.cost * w.cost + (i - 1) % w.cost ≡ i - 1 = div-add-mod' (i - 1) w.cost in
    ((i - 1) / w.cost, omega arith)

-- a job's first subtask is released where its period begins
pub job_released : (w : Share) (k theta : ℕ) → 0 < w.cost → release_of w (k * w.cost + 1) theta ≡ theta + k * w.period
job_released w k theta p =
    let at : (k * w.cost + 1 - 1) * w.period ≡ (k * w.period) * w.cost =
    let back : k * w.cost + 1 - 1 ≡ k * w.cost = omega arith in ap (λ (n : ℕ). n * w.period) back ∙ omega arith in
    rw (at, mul-div_cancel (k * w.period) p) refl

-- its last subtask is due where the period ends
pub job_due : (w : Share) (k theta : ℕ) → 0 < w.cost → deadline_of w (k * w.cost) theta ≡ theta + k * w.period
job_due w k theta p =
    let at : (k * w.cost) * w.period ≡ (k * w.period) * w.cost = omega arith in
    let whole : div_ceil ((k * w.period) * w.cost) w.cost ≡ k * w.period = div_ceil_of_multiple (k * w.period) w.cost p in
    ap (λ (n : ℕ). theta + n) (ap (λ (n : ℕ). div_ceil n w.cost) at ∙ whole)

-- and does not reach into the next job
pub job_apart : (w : Share) (k : ℕ) → 0 < w.cost → b_bit_of w (k * w.cost) ≡ 0
job_apart w k p =
    let at : (k * w.cost) * w.period ≡ (k * w.period) * w.cost = omega arith in
    let whole : div_ceil ((k * w.period) * w.cost) w.cost ≡ k * w.period = div_ceil_of_multiple (k * w.period) w.cost p in
    let floor : ((k * w.period) * w.cost) / w.cost ≡ k * w.period = mul-div_cancel (k * w.period) p in
    let over : div_ceil ((k * w.period) * w.cost) w.cost - ((k * w.period) * w.cost) / w.cost ≡ 0 = omega arith in
    ap (λ (n : ℕ). div_ceil n w.cost - n / w.cost) at ∙ over

-- ---- k jobs later

closes_later : (w : Share) (i k : ℕ) → (i + k * w.cost) * w.period ≡ i * w.period + (k * w.period) * w.cost
closes_later w i k = omega arith

opens_later : (w : Share) (i k : ℕ) → 1 ≤ i → (i + k * w.cost - 1) * w.period ≡ (i - 1) * w.period + (k * w.period) * w.cost
opens_later w i k first =
    let before : i + k * w.cost - 1 ≡ i - 1 + k * w.cost = omega arith in
    ap (λ n. n * w.period) before ∙ closes_later w (i - 1) k

ceiling_later : (w : Share) (i k : ℕ) → 0 < w.cost → div_ceil ((i + k * w.cost) * w.period) w.cost ≡ div_ceil (i * w.period) w.cost + k * w.period
ceiling_later w i k p = ap (λ n. div_ceil n w.cost) (closes_later w i k) ∙ div_ceil_more (i * w.period) (k * w.period) w.cost p

-- a window lies k periods later
pub release_repeats : (w : Share) (i k theta : ℕ) → 0 < w.cost → 1 ≤ i → release_of w (i + k * w.cost) theta ≡ release_of w i theta + k * w.period
release_repeats w i k theta p first =
    let floor = add-mul-div_right ((i - 1) * w.period) (k * w.period) p in
    ap (λ n. theta + n / w.cost) (opens_later w i k first) ∙ omega arith

pub deadline_repeats : (w : Share) (i k theta : ℕ) → 0 < w.cost → deadline_of w (i + k * w.cost) theta ≡ deadline_of w i theta + k * w.period
deadline_repeats w i k theta p = (let ceiling = ceiling_later w i k p in omega arith)

pub b_bit_repeats : (w : Share) (i k : ℕ) → 0 < w.cost → b_bit_of w (i + k * w.cost) ≡ b_bit_of w i
b_bit_repeats w i k p =
    let ceiling = ceiling_later w i k p in
    let floor : ((i + k * w.cost) * w.period) / w.cost ≡ (i * w.period) / w.cost + k * w.period = ap (λ n. n / w.cost) (closes_later w i k) ∙ add-mul-div_right (i * w.period) (k * w.period) p in
    omega arith

-- so does the end of a cascade
cascade_later : (w : Share) (close k : ℕ) → w.cost < w.period → cascade_end w (close + k * w.period) ≡ cascade_end w close + k * w.period
cascade_later w close k below =
    let q = w.period - w.cost in
    let slots : div_ceil ((close + k * w.period) * q) w.period ≡ div_ceil (close * q) w.period + k * q =
    (let spread : (close + k * w.period) * q ≡ close * q + (k * q) * w.period = omega arith in ap (λ n. div_ceil n w.period) spread ∙ div_ceil_more (close * q) (k * q) w.period (omega arith)) in
    let spread : (div_ceil (close * q) w.period + k * q) * w.period ≡ div_ceil (close * q) w.period * w.period + (k * w.period) * q = omega arith in
    ap (λ n. div_ceil (n * w.period) q) slots ∙ ap (λ n. div_ceil n q) spread ∙ div_ceil_more (div_ceil (close * q) w.period * w.period) (k * w.period) q (omega arith)

-- and the group deadline of a heavy weight
pub group_deadline_repeats : (w : Share) (i k theta : ℕ) → IsWeight w.cost w.period → IsHeavy w → group_deadline_of w (i + k * w.cost) theta ≡ group_deadline_of w i theta + k * w.period
group_deadline_repeats w i k theta h is_heavy =
    let ceiling = ceiling_later w i k h.some_cost in
    by_kind w (group_deadline_of w (i + k * w.cost) theta ≡ group_deadline_of w i theta + k * w.period) h
    (λ (light : 2 * w.cost < w.period). absurd (omega arith))
    (λ (whole : w.cost ≡ w.period). rw (group_deadline_whole w (i + k * w.cost) theta h whole, group_deadline_whole w i theta h whole) (deadline_repeats w i k theta h.some_cost))
    (λ (heavy : w.period ≤ 2 * w.cost) (below : w.cost < w.period).
    let ends = ap (cascade_end w) ceiling ∙ cascade_later w (div_ceil (i * w.period) w.cost) k below in
    rw (group_deadline_heavy w (i + k * w.cost) theta heavy below, group_deadline_heavy w i theta heavy below) (omega arith))

-- and a job starts where one did
pub starts_job_repeats : (w : Share) (i k : ℕ) → 1 ≤ i → starts_job_of w (i + k * w.cost) ≡ starts_job_of w i
starts_job_repeats w i k first =
    let before : i + k * w.cost - 1 ≡ i - 1 + k * w.cost = omega arith in
    ap (λ n. n == 0) (ap (λ n. n % w.cost) before ∙ add-mul-mod_self_right (i - 1) k w.cost)
