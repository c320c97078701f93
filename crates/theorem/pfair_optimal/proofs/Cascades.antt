-- The formula of the group deadline is the least time at which a cascade ends.
use Rattle.pfair_optimal.proofs.Common.{cases_lt, cases_eq, cases_order, Share, IsWeight, IsHeavy, lt_of_mul, div_ceil_of_multiple, one_less, release_of, deadline_of, b_bit_of, group_deadline_of, cascade_end, ◌≡◌, ℕ, ◌+◌, ◌-◌, ◌*◌, ◌<◌, ◌≤◌, arith, ap, sym, inl, inr, div_ceil, release_rises, deadline_rises_strictly, windows_overlap, b_bit_at_most_one, group_deadline_heavy}
use Rattle.pfair_optimal.specs.Laws.{EndsCascade, gap, three_slots, GroupDeadlinesAreLeast}
use Rattle.pfair_optimal.proofs.BusyBounds.{opening, closing, next_opening, pinned, index_le_closing, group_deadline_tight, group_deadline_ends}

-- ---- with b-bit 0

whole_slots : (d i a q e p : ℕ) → a + i ≡ d → q + e ≡ p → d * e ≡ i * p → d * q ≡ a * p
whole_slots d i a q e p closes idle whole =
    let parts : d * (q + e) ≡ d * p = ap (λ n. d * n) idle in
    let slots : (a + i) * p ≡ d * p = ap (λ n. n * p) closes in
    omega arith

-- a window that doesn't reach into the next one ends the cascade at its deadline
ends_there : (w : Share) (i : ℕ) → IsWeight w.cost w.period → w.cost < w.period → b_bit_of w i ≡ 0 → cascade_end w (closing w i) ≡ closing w i
ends_there w i h below bit =
    let ends = pinned w i h.some_cost in
    let later = index_le_closing w i h in
    let same : next_opening w i * w.cost ≡ closing w i * w.cost = (let e : next_opening w i ≡ closing w i = omega arith in ap (λ n. n * w.cost) e) in
    let slots = whole_slots (closing w i) i (closing w i - i) (w.period - w.cost) w.cost w.period (omega arith) (omega arith) (omega arith) in
    grind (arith, div_ceil, div_ceil_of_multiple)

-- ---- with b-bit 1

-- a heavy weight's windows have three slots at most
three_at_most : (w : Share) (i theta : ℕ) → IsWeight w.cost w.period → IsHeavy w → 1 ≤ i → deadline_of w i theta ≤ release_of w i theta + 3
three_at_most w i theta h heavy first =
    let ends = pinned w i h.some_cost in
    let one = one_less i w.period first in
    let short : closing w i < opening w i + 4 = lt_of_mul (closing w i) (opening w i + 4) w.cost (omega arith) in
    omega arith

module _ (w : Share) (i theta : ℕ) (h : IsWeight w.cost w.period) (heavy : IsHeavy w) (first : 1 ≤ i) (bit : b_bit_of w i ≡ 1) where
  -- the group deadline is after the deadline
  after : deadline_of w i theta < group_deadline_of w i theta
  after =
      let none : i + 0 ≡ i = omega arith in
      grind (arith, group_deadline_ends)

  -- the subtask that is due at the group deadline, or a slot later
  at_end : (n : ℕ) → 1 ≤ n → deadline_of w i theta + n ≡ group_deadline_of w i theta → EndsCascade w theta (group_deadline_of w i theta)
  at_end n some is =
      let before = group_deadline_tight w i (n - 1) theta h heavy bit (omega arith) in
      let next : i + (n - 1) + 1 ≡ i + n = omega arith in
      let opens = windows_overlap w (i + (n - 1)) theta in
      let same = ap (λ m. release_of w m theta) next in
      let rise = deadline_rises_strictly w (i + (n - 1)) (i + n) theta h (omega arith) in
      let short = three_at_most w (i + n) theta h heavy (omega arith) in
      elim (cases_eq (deadline_of w (i + n) theta) (group_deadline_of w i theta)) [
        | inr later ↦ three_slots (i + n) (omega arith) (omega (arith, later)) (omega (arith, later))
        | inl now ↦ gap (i + n) (omega arith) (sym now) (elim (cases_eq (b_bit_of w (i + n)) 1) [
          | inl one ↦ absurd (let more = group_deadline_ends w i n theta h heavy bit (omega arith) one in omega arith)
          | inr other ↦ (let small = b_bit_at_most_one w (i + n) in omega (arith, other))
        ])
      ]

  -- no cascade ends between the deadline and the group deadline
  none_between : (j u : ℕ) → deadline_of w i theta + j ≡ u → u < group_deadline_of w i theta → EndsCascade w theta u → ⊥
  none_between j u is before (gap k some due apart) =
      let tight = group_deadline_tight w i j theta h heavy bit (omega arith) in
      elim (cases_order k (i + j)) [
        | inl same ↦ (let e = ap (b_bit_of w) same in omega arith)
        | inr (inl less) ↦ (let rise = deadline_rises_strictly w k (i + j) theta h less in omega arith)
        | inr (inr more) ↦ (let rise = deadline_rises_strictly w (i + j) k theta h more in omega arith)
      ]
  none_between j u is before (three_slots k some due three) =
      let tight = group_deadline_tight w i j theta h heavy bit (omega arith) in
      let opens = windows_overlap w (i + j) theta in
      elim (cases_order k (i + j + 1)) [
        | inl same ↦ (let e = ap (λ m. release_of w m theta) same in omega arith)
        | inr (inl less) ↦ elim (cases_eq k (i + j)) [
          | inl at ↦ (let e = ap (λ m. deadline_of w m theta) at in omega arith)
          | inr other ↦ (let rise = deadline_rises_strictly w k (i + j) theta h (omega (arith, other)) in omega arith)
        ]
        | inr (inr more) ↦ (let rise = release_rises w (i + j + 1) k theta h (omega arith) more in omega arith)
      ]

-- ---- the law

pub group_deadlines_are_least : GroupDeadlinesAreLeast
group_deadlines_are_least w i theta h heavy below first = elim (cases_eq (b_bit_of w i) 1) [
  | inl bit ↦ record {
    not_before = (let late = after w i theta h heavy first bit in omega arith);
    ends = (let late = after w i theta h heavy first bit in at_end w i theta h heavy first bit (group_deadline_of w i theta - deadline_of w i theta) (omega arith) (omega arith));
    least = λ u from ends. elim (cases_lt u (group_deadline_of w i theta)) [
      | inr reached ↦ reached
      | inl before ↦ absurd (none_between w i theta h heavy first bit (u - deadline_of w i theta) u (omega arith) before ends)
    ];
  }
  | inr other ↦
      let none : b_bit_of w i ≡ 0 = omega (arith, other) in
      let formula = group_deadline_heavy w i theta heavy below in
      let there = ends_there w i h below none in
      record {
        not_before = omega arith;
        ends = gap i first (omega arith) none;
        least = λ u from ends. omega arith;
      }
]
