-- Where cascades end, and how long a subtask holds its task's weight.
use Rattle.pfair_optimal.specs.Laws.{SharesFillWindows, SharesFitSlots, GroupDeadlinesEndCascades, BusyBoundsLast}
use Rattle.pfair_optimal.proofs.Common.{le_refl, div-lt_iff_lt-mul, Share, mul_le_of_div, b_bit_of, ◌≡◌, ℕ, ◌+◌, ◌-◌, ◌*◌, ◌/◌, ◌<◌, ◌≤◌, arith, div_ceil, mul-le, windows_overlap, cases_lt, IsWeight, one_less, release_of, deadline_of, fluid_of, share_of, total_before, zero, suc, min, ap, sym, inl, inr, ◌↔◌, release_rises, b_bit_at_most_one, IsHeavy, lt_of_mul, div_ceil_le, le_div_ceil, group_deadline_of, cascade_end, busy_bound_of, ◌∙◌, group_deadline_heavy, group_deadline_light}
use Rattle.std.proofs.lemmas.Grind.{div_ceil_times}

-- The ends of windows, by products.

-- a product that grows with its first factor
pub grow : (x y a : ℕ) → x ≤ y → x * a ≤ y * a
grow x y a h = mul-le x a y a h (le_refl a)

-- where the window of subtask i opens and closes, counted from the offset, and where the next one opens
abbrev pub opening : Share → ℕ → ℕ
opening w i = ((i - 1) * w.period) / w.cost

abbrev pub closing : Share → ℕ → ℕ
closing w i = div_ceil (i * w.period) w.cost

abbrev pub next_opening : Share → ℕ → ℕ
next_opening w i = (i * w.period) / w.cost

quotient_low : (n d : ℕ) → 0 < d → (n / d) * d ≤ n
quotient_low n d p = mul_le_of_div n d (n / d) p (le_refl (n / d))

quotient_high : (n d : ℕ) → 0 < d → n < (n / d + 1) * d
quotient_high n d p = (div-lt_iff_lt-mul p).0 (omega arith)

-- what pins down the ends of a window
pub record Pinned (w : Share) (i : ℕ) : Type 0 where
  pub opens_low : opening w i * w.cost ≤ (i - 1) * w.period
  pub opens_high : (i - 1) * w.period < opening w i * w.cost + w.cost
  pub closes_low : closing w i * w.cost < i * w.period + w.cost
  pub closes_high : i * w.period ≤ closing w i * w.cost
  pub next_low : next_opening w i * w.cost ≤ i * w.period
  pub next_high : i * w.period < next_opening w i * w.cost + w.cost

pub pinned : (w : Share) (i : ℕ) → 0 < w.cost → Pinned w i
pinned w i p = grind (arith, quotient_low, quotient_high, div_ceil_times)

-- the next subtask's window opens there
pub opening_next : (w : Share) (i : ℕ) → opening w (i + 1) ≡ next_opening w i
opening_next w i = grind arith

-- the next window opens where this one closes less the b-bit
pub b_bit_between : (w : Share) (i : ℕ) → next_opening w i + b_bit_of w i ≡ closing w i
b_bit_between w i = grind (arith, windows_overlap w i 0, opening_next w i)

-- Shares of slots in the fluid schedule.

-- nothing before the release
pub fluid_none : (w : Share) (i theta t : ℕ) → IsWeight w.cost w.period → t ≤ release_of w i theta → fluid_of w i theta t ≡ 0
fluid_none w i theta t h before = grind (arith, pinned, grow)

-- a whole quantum from the deadline on
pub fluid_whole : (w : Share) (i theta t : ℕ) → IsWeight w.cost w.period → 1 ≤ i → deadline_of w i theta ≤ t → fluid_of w i theta t ≡ w.period
fluid_whole w i theta t h first after = grind (arith, grow, pinned w i h.some_cost, one_less i w.period first)

-- a slot gives the cost at most
pub share_le_cost : (w : Share) (i theta v : ℕ) → share_of w i theta v ≤ w.cost
share_le_cost w i theta v =
    let more = grow (v + 1 - theta) (v - theta + 1) w.cost (omega arith) in
    omega arith

-- fluid rises while it is above the low mark and below the whole
part_rises : (p e x low y : ℕ) → 0 < e → 0 < p → y ≡ x + e → low < x + e → x < low + p → 0 < min p (y - low) - min p (x - low)
part_rises p e x low y some_e some_p is above below = omega arith

-- a slot gives something exactly if it lies in the window
pub share_in_window : (w : Share) (i theta v : ℕ) → IsWeight w.cost w.period → 1 ≤ i → (0 < share_of w i theta v) ↔ ((release_of w i theta ≤ v) × (v < deadline_of w i theta))
share_in_window w i theta v h first = (inside, some)
  where
    inside : 0 < share_of w i theta v → (release_of w i theta ≤ v) × (v < deadline_of w i theta)
    inside some = grind (arith, fluid_none, fluid_whole)

    some : (release_of w i theta ≤ v) × (v < deadline_of w i theta) → 0 < share_of w i theta v
    some (opened, still) =
        let ends = pinned w i h.some_cost in
        let low = grow (opening w i + 1) (v + 1 - theta) w.cost (omega arith) in
        let high = grow (v - theta + 1) (closing w i) w.cost (omega arith) in
        grind (arith, one_less, part_rises)

-- fluid never falls
pub fluid_rises : (w : Share) (i theta v : ℕ) → fluid_of w i theta v ≤ fluid_of w i theta (v + 1)
fluid_rises w i theta v = grind (arith, grow)

-- the shares before a time are the fluid
pub total_is_fluid : (w : Share) (i theta t : ℕ) → IsWeight w.cost w.period → total_before (share_of w i theta) t ≡ fluid_of w i theta t
total_is_fluid w i theta zero h = let none = fluid_none w i theta 0 h (omega arith) in sym none
total_is_fluid w i theta (suc t) h = grind (arith, fluid_rises, total_is_fluid w i theta t h)

-- at a time after the offset
part_at : (w : Share) (i theta t s : ℕ) → t ≡ theta + s → fluid_of w i theta t ≡ min w.period (s * w.cost - (i - 1) * w.period)
part_at w i theta t s is = let e : t - theta ≡ s = omega arith in ap (λ (n : ℕ). min w.period (n * w.cost - (i - 1) * w.period)) e

-- the share of the slot of the release
pub first_share : (w : Share) (i theta v : ℕ) → IsWeight w.cost w.period → v ≡ release_of w i theta → share_of w i theta v + (i - 1) * w.period ≡ opening w i * w.cost + w.cost
first_share w i theta v h is = grind (arith, pinned, fluid_none, part_at)

-- with b-bit 1 the share of the last slot
pub last_share : (w : Share) (i theta v : ℕ) → IsWeight w.cost w.period → 1 ≤ i → b_bit_of w i ≡ 1 → v + 1 ≡ deadline_of w i theta → share_of w i theta v + closing w i * w.cost ≡ i * w.period + w.cost
last_share w i theta v h first bit is =
    grind (arith, pinned, fluid_whole, part_at, b_bit_between, one_less, release_rises, opening_next, grow)

-- with b-bit 1 the share of the last slot and that of the next subtask's first slot are the cost together
pub shares_meet : (w : Share) (i theta v later u : ℕ) → IsWeight w.cost w.period → 1 ≤ i → b_bit_of w i ≡ 1 → v + 1 ≡ deadline_of w i theta → u ≡ release_of w (i + 1) later →
    share_of w i theta v + share_of w (i + 1) later u ≡ w.cost
shares_meet w i theta v later u h first bit close opens_at =
    grind (arith, last_share, first_share, opening_next, b_bit_between)

-- windows of subtasks that aren't neighbours don't meet
pub not_neighbours : (w : Share) (i j theta later : ℕ) → IsWeight w.cost w.period → 1 ≤ i → i + 1 < j → theta ≤ later → deadline_of w i theta ≤ release_of w j later
not_neighbours w i j theta later h first less after = grind (arith, release_rises, opening_next, b_bit_between, b_bit_at_most_one)

-- two subtasks of one task get at most the cost of a slot
pub shares_fit : (w : Share) (i j theta later v : ℕ) → IsWeight w.cost w.period → 1 ≤ i → i < j → theta ≤ later → share_of w i theta v + share_of w j later v ≤ w.cost
shares_fit w i j theta later v h first less after =
    let one = share_le_cost w i theta v in
    let other = share_le_cost w j later v in
    elim (cases_lt 0 (share_of w i theta v)) [
      | inr none ↦ omega arith
      | inl some ↦ elim (cases_lt 0 (share_of w j later v)) [
        | inr none ↦ omega arith
        | inl more ↦
            let a = (share_in_window w i theta v h first).0 some in
            let b = (share_in_window w j later v h (omega arith)).0 more in
            elim (cases_lt (i + 1) j) [
              | inl far ↦ absurd (let apart = not_neighbours w i j theta later h first far after in omega (arith, a, b))
              | inr near ↦
                  grind (arith, opening_next, b_bit_between, b_bit_at_most_one, shares_meet)
            ]
      ]
    ]

-- and of subtasks that aren't neighbours one gets nothing
pub no_three_shares : (w : Share) (i j theta later v : ℕ) → IsWeight w.cost w.period → 1 ≤ i → i + 1 < j → theta ≤ later → 0 < share_of w i theta v → share_of w j later v ≡ 0
no_three_shares w i j theta later v h first less after some =
    grind (arith, cases_lt 0 (share_of w j later v), share_in_window w i theta v h first, not_neighbours w i j theta later h first less after)

-- what a subtask with b-bit 1 has, of a weight e / (e + q): with a = d - i, i * q lies strictly between (a - 1) * e and a * e
pub record Wrapped (w : Share) (i a q : ℕ) : Type 0 where
  pub closes : a + i ≡ closing w i
  pub idle : q + w.cost ≡ w.period
  pub some_idle : 0 < q
  pub low : a * w.cost < i * q + w.cost
  pub high : i * q < a * w.cost

-- if the b-bit is 1 the weight is below 1
below_one : (w : Share) (i : ℕ) → IsWeight w.cost w.period → b_bit_of w i ≡ 1 → w.cost < w.period
below_one w i h bit = grind (arith, pinned, b_bit_between, lt_of_mul)

-- no subtask closes before its index
pub index_le_closing : (w : Share) (i : ℕ) → IsWeight w.cost w.period → i ≤ closing w i
index_le_closing w i h = grind (arith, lt_of_mul, grow w.cost w.period i h.at_most_one)

pub wrapped : (w : Share) (i : ℕ) → IsWeight w.cost w.period → b_bit_of w i ≡ 1 → Wrapped w i (closing w i - i) (w.period - w.cost)
wrapped w i h bit =
    let ends = pinned w i h.some_cost in
    let below = below_one w i h bit in
    let later = index_le_closing w i h in
    let close : (next_opening w i + 1) * w.cost ≡ closing w i * w.cost = let e : next_opening w i + 1 ≡ closing w i = omega arith in ap (λ (n : ℕ). n * w.cost) e in
    let whole : (closing w i - i + i) * w.cost ≡ closing w i * w.cost = let e : closing w i - i + i ≡ closing w i = omega arith in ap (λ (n : ℕ). n * w.cost) e in
    let parts : i * (w.period - w.cost + w.cost) ≡ i * w.period = let e : w.period - w.cost + w.cost ≡ w.period = omega arith in ap (λ (n : ℕ). i * n) e in
    let less = ends.closes_low in
    record {
      closes = omega arith;
      idle = omega arith;
      some_idle = omega arith;
      low = apart_low (closing w i - i) i (w.period - w.cost) w.cost (i * w.period) (closing w i * w.cost) parts whole less;
      high = apart_high (closing w i - i) i (w.period - w.cost) w.cost (i * w.period) (closing w i * w.cost) parts whole (omega arith);
    }
  where
    apart_low : (a i q e ip ce : ℕ) → i * (q + e) ≡ ip → (a + i) * e ≡ ce → ce < ip + e → a * e < i * q + e
    apart_low a i q e ip ce p c less = omega arith

    apart_high : (a i q e ip ce : ℕ) → i * (q + e) ≡ ip → (a + i) * e ≡ ce → ip < ce → i * q < a * e
    apart_high a i q e ip ce p c less = omega arith

-- the idle slots before a cascade's end
inner : (a i q e c p : ℕ) → a + i ≡ c → q + e ≡ p → 0 < p → a * e < i * q + e → i * q < a * e → div_ceil (c * q) p ≡ a
inner a i q e c p closes idle some low high =
    let slots : c * q ≡ (a + i) * q = ap (λ (n : ℕ). n * q) (sym closes) in
    let whole : a * p ≡ a * (q + e) = ap (λ (n : ℕ). a * n) (sym idle) in
    let most = div_ceil_le (c * q) p a some (omega arith) in
    let step : 0 < a → (a - 1) * p + p ≡ a * p = one_less a p in
    grind (arith, le_div_ceil (c * q) p (a - 1) some)

-- the cascade has ended by n - i slots after the deadline exactly if n idle slots are a whole number of costs more
cascade_ends : (w : Share) (i a q n : ℕ) → IsWeight w.cost w.period → Wrapped w i a q → (cascade_end w (closing w i) ≤ a + n) ↔ (a * w.cost ≤ n * q)
cascade_ends w i a q n h at = (from, to)
  where
    some : 0 < w.period
    some = omega arith

    idle_is : w.period - w.cost ≡ q
    idle_is = omega arith

    slots : div_ceil (closing w i * (w.period - w.cost)) w.period ≡ a
    slots = ap (λ (n : ℕ). div_ceil (closing w i * n) w.period) idle_is ∙ inner a i q w.cost (closing w i) w.period at.closes at.idle some at.low at.high

    end_is : cascade_end w (closing w i) ≡ div_ceil (a * w.period) q
    end_is = ap (λ (n : ℕ). div_ceil (n * w.period) (w.period - w.cost)) slots ∙ ap (λ (n : ℕ). div_ceil (a * w.period) n) idle_is

    period_is : a * w.period ≡ a * (q + w.cost)
    period_is = ap (λ (n : ℕ). a * n) (sym at.idle)

    from : cascade_end w (closing w i) ≤ a + n → a * w.cost ≤ n * q
    from ends =
        let is = end_is in
        let reach : a * w.period ≤ (a + n) * q = le_div_ceil (a * w.period) q (a + n) at.some_idle (omega arith) in
        let p = period_is in
        omega arith

    to : a * w.cost ≤ n * q → cascade_end w (closing w i) ≤ a + n
    to enough =
        let p = period_is in
        let reach : div_ceil (a * w.period) q ≤ a + n = div_ceil_le (a * w.period) q (a + n) at.some_idle (omega arith) in
        let is = end_is in
        omega arith

-- k tight slots more push the end of a cascade past them
pub cascade_after : (w : Share) (i k : ℕ) → IsWeight w.cost w.period → b_bit_of w i ≡ 1 → closing w (i + k) ≡ closing w i + k → b_bit_of w (i + k) ≡ 1 → closing w i + k < cascade_end w (closing w i)
cascade_after w i k h bit tight last = grind (arith, cascade_ends, wrapped w i h bit, wrapped w (i + k) h last)

-- and up to its end all slots are tight
pub cascade_tight : (w : Share) (i k : ℕ) → IsWeight w.cost w.period → b_bit_of w i ≡ 1 → closing w i + k < cascade_end w (closing w i) → (closing w (i + k) ≡ closing w i + k) × (b_bit_of w (i + k) ≡ 1)
cascade_tight w i k h bit before =
    let a = closing w i - i in
    let q = w.period - w.cost in
    let here = wrapped w i h bit in
    let ends = pinned w (i + k) h.some_cost in
    let parts : (i + k) * (q + w.cost) ≡ (i + k) * w.period = ap (λ (n : ℕ). (i + k) * n) here.idle in
    elim (cases_lt ((i + k) * q) (a * w.cost)) [
      | inr enough ↦ absurd (let ended = (cascade_ends w i a q (i + k) h here).1 enough in omega arith)
      | inl less ↦
          let not_before : i + k + a < closing w (i + k) + 1 = lt_of_mul (i + k + a) (closing w (i + k) + 1) w.cost (omega arith) in
          let opens : next_opening w (i + k) < i + k + a = lt_of_mul (next_opening w (i + k)) (i + k + a) w.cost (omega arith) in
          (omega arith, omega arith)
    ]

-- what opens before the cascade's end opens with no greater share than the next subtask
opens_less : (w : Share) (i k : ℕ) → IsWeight w.cost w.period → b_bit_of w i ≡ 1 → i < k → opening w k < cascade_end w (closing w i) → opening w k * w.cost + w.cost + i * w.period ≤ closing w i * w.cost + (k - 1) * w.period
opens_less w i k h bit later before =
    let a = closing w i - i in
    let q = w.period - w.cost in
    let m = k - 1 in
    let here = wrapped w i h bit in
    let grown = grow i m q (omega arith) in
    let parts : m * (q + w.cost) ≡ m * w.period = ap (λ (n : ℕ). m * n) here.idle in
    let own : i * (q + w.cost) ≡ i * w.period = ap (λ (n : ℕ). i * n) here.idle in
    let close : (a + i) * w.cost ≡ closing w i * w.cost = ap (λ (n : ℕ). n * w.cost) here.closes in
    elim (cases_lt (m * q) (a * w.cost)) [
      | inr enough ↦ absurd (
          let ended = (cascade_ends w i a q m h here).1 enough in
          let after : a + m < opening w k + 1 = lt_of_mul (a + m) (opening w k + 1) w.cost (omega arith) in
          omega arith)
      | inl less ↦
          let not_after : opening w k < a + m = lt_of_mul (opening w k) (a + m) w.cost (omega arith) in
          let up_to = grow (opening w k + 1) (a + m) w.cost (omega arith) in
          omega arith
    ]

-- a light weight's windows lie two slots apart at least
light_closes : (w : Share) (i k : ℕ) → IsWeight w.cost w.period → 2 * w.cost < w.period → 0 < k → closing w i + k < closing w (i + k)
light_closes w i k h light some =
    let here = pinned w i h.some_cost in
    let there = pinned w (i + k) h.some_cost in
    let wide = grow (2 * w.cost + 1) w.period k (omega arith) in
    let more = grow 1 k w.cost some in
    let up : closing w i + k < closing w (i + k) = lt_of_mul (closing w i + k) (closing w (i + k)) w.cost (omega arith) in
    up

light_opens : (w : Share) (i k : ℕ) → IsWeight w.cost w.period → 2 * w.cost < w.period → i + 1 < k → next_opening w i + 1 < opening w k
light_opens w i k h light later = grind (arith, pinned, grow, lt_of_mul)

-- k tight slots more push the busy bound past them
pub busy_after : (w : Share) (i k theta : ℕ) → IsWeight w.cost w.period → b_bit_of w i ≡ 1 → deadline_of w (i + k) theta ≡ deadline_of w i theta + k → b_bit_of w (i + k) ≡ 1 →
    deadline_of w i theta + k < busy_bound_of w i theta
busy_after w i k theta h bit tight last = grind (arith, light_closes, below_one, cascade_after, group_deadline_heavy)

-- the share of the slot of the release is one number at any offset
first_same : (w : Share) (i theta later v u : ℕ) → IsWeight w.cost w.period → v ≡ release_of w i theta → u ≡ release_of w i later → share_of w i theta v ≡ share_of w i later u
first_same w i theta later v u h one other = grind (arith, first_share)

-- what opens before the busy bound opens with no greater share than the next subtask
pub busy_opens : (w : Share) (i k theta later : ℕ) → IsWeight w.cost w.period → b_bit_of w i ≡ 1 → i < k → theta ≤ later → release_of w k later < busy_bound_of w i theta →
    share_of w k later (release_of w k later) ≤ share_of w (i + 1) theta (release_of w (i + 1) theta)
busy_opens w i k theta later h bit after offsets before =
    let next = opening_next w i in
    elim (cases_lt (i + 1) k) [
      | inr same ↦
          grind (arith, first_same)
      | inl far ↦ elim (cases_lt (2 * w.cost) w.period) [
        | inl light ↦ absurd (
            grind (arith, light_opens, group_deadline_light))
        | inr heavy ↦
            let below = below_one w i h bit in
            let group = group_deadline_heavy w i theta heavy below in
            let none : i + 0 ≡ i = omega arith in
            let whole = cascade_after w i 0 h bit (let e : closing w (i + 0) ≡ closing w i = ap (closing w) none in omega arith) (ap (b_bit_of w) none ∙ bit) in
            let less = opens_less w i k h bit after (omega arith) in
            grind (arith, first_share)
      ]
    ]

-- the group deadline of a heavy subtask with b-bit 1: up to there each slot is the last one of a next subtask with b-bit 1
pub group_deadline_tight : (w : Share) (i k theta : ℕ) → IsWeight w.cost w.period → IsHeavy w → b_bit_of w i ≡ 1 → deadline_of w i theta + k < group_deadline_of w i theta →
    (deadline_of w (i + k) theta ≡ deadline_of w i theta + k) × (b_bit_of w (i + k) ≡ 1)
group_deadline_tight w i k theta h heavy bit before = grind (arith, below_one, group_deadline_heavy, cascade_tight)

-- and the slot after it isn't
pub group_deadline_ends : (w : Share) (i k theta : ℕ) → IsWeight w.cost w.period → IsHeavy w → b_bit_of w i ≡ 1 → deadline_of w (i + k) theta ≡ deadline_of w i theta + k → b_bit_of w (i + k) ≡ 1 →
    deadline_of w i theta + k < group_deadline_of w i theta
group_deadline_ends w i k theta h heavy bit tight last = grind (arith, below_one, group_deadline_heavy, cascade_after)

-- ---- the laws

pub fill_windows : SharesFillWindows
fill_windows = record {
  at_most_cost = λ w i theta v h. share_le_cost w i theta v;
  in_window = share_in_window;
  whole = λ w i theta t h first after. total_is_fluid w i theta t h ∙ fluid_whole w i theta t h first after;
}

pub fit_slots : SharesFitSlots
fit_slots = record { two = shares_fit; neighbours = shares_meet; no_three = no_three_shares }

pub end_cascades : GroupDeadlinesEndCascades
end_cascades w i k theta h heavy bit = (group_deadline_tight w i k theta h heavy bit, λ tight. group_deadline_ends w i k theta h heavy bit tight.0 tight.1)

pub bounds_last : BusyBoundsLast
bounds_last = record { past_cascades = busy_after; first_shares = busy_opens }
