-- The shares that one task's subtasks have of a slot.
use Rattle.pfair_optimal.proofs.Common.{true≢false, cases_lt, cases_eq, lt_of_not-le, release_of, share_of, Task, Subtask, is_among, same_task, same_subtask, Schedule, release, deadline, busy_bound, IsRunBelow, IsFirstMiss, ◌≡◌, ℕ, suc, ◌+◌, ◌-◌, ◌<◌, ◌≤◌, true, false, cond, [], ◌∷◌, arith, ap, refl, sym, ◌∙◌, subst, inl, inr, ⊎_elim, ◌⊎◌, List, cases_Bool, lt-ltb, le-ltb, le_refl, zero, ◌*◌, Bool, nat_lt, mul-le}
use Rattle.pfair_optimal.proofs.BusyBounds.{share_in_window, shares_fit, shares_meet, no_three_shares, busy_opens}
use Rattle.pfair_optimal.proofs.Past.{among_here, among_more, task_exact, subtask_exact, ran_at, ran_more, offsets, release_joined, releases, deadlines, total, total_some, total_among, among_cases}
use Rattle.pfair_optimal.proofs.Reasons.{picks, reasons, is_full, In, picks_rows, reason_index, reason_cases, later_twice}
use Rattle.pfair_optimal.proofs.Holes.{is_served, AreHoles, IsUnserved, unserved, unserved_on, reached, served_some}
use Rattle.std.proofs.lemmas.Bool.Decides.{nat_tests}

-- a subtask's share of a slot, and the same if it is of the task
abbrev pub share : Schedule → Subtask → ℕ → ℕ
share x z v = share_of (x.weight z.task) z.index (x.offset z.task z.index) v

abbrev pub own_share : Schedule → Task → ℕ → Subtask → ℕ
own_share x a v z = cond (same_task z.task a) (share x z v) 0

-- the shares that a task's subtasks among the reasons have of a slot together
abbrev pub shares : Schedule → ℕ → Subtask → Task → ℕ → ℕ
shares x td missed a v = total (own_share x a v) (reasons x td missed)

abbrev pub subtask_of : Task → ℕ → Subtask
subtask_of a i = record { task = a; index = i }

-- what rises with the index is met at one index alone
rising_once : (f : ℕ → ℕ) → ((i j : ℕ) → 1 ≤ i → i < j → f i < f j) → (i j : ℕ) → 1 ≤ i → 1 ≤ j → f i ≡ f j → i ≡ j
rising_once f up i j first first' e = grind arith

-- what is above 0 is the task's own
pub own : (x : Schedule) (a : Task) (v : ℕ) (z : Subtask) → 0 < own_share x a v z → (z.task ≡ a) × (0 < share x z v)
own x a v z some = grind (arith, task_exact)

own_le : (x : Schedule) (a : Task) (v : ℕ) (z : Subtask) → own_share x a v z ≤ share x z v
own_le x a v z = grind arith

module _ (x : Schedule) {n : ℕ} (is : IsRunBelow x n) (td : ℕ) (within : td ≤ n) (missed : Subtask) (m : IsFirstMiss x td missed) where
  -- a share above 0 lies in the window
  pub share_inside : (z : Subtask) (v : ℕ) → 1 ≤ z.index → 0 < share x z v → (release x z ≤ v) × (v < deadline x z)
  share_inside z v first some = (share_in_window (x.weight z.task) z.index (x.offset z.task z.index) v (is.weights z.task) first).0 some

  -- if a task has a share, one of its subtasks has
  pub shares_some : (a : Task) (v : ℕ) → 0 < shares x td missed a v → (i : ℕ) × In (reasons x td missed) (subtask_of a i) × (0 < share x (subtask_of a i) v)
  shares_some a v some =
      let t = total_some same_subtask subtask_exact (own_share x a v) (reasons x td missed) some in
      let mine = own x a v t.0 t.2 in
      let is_it : t.0 ≡ subtask_of a t.0.index = λ i. record { task = mine.0 i; index = t.0.index } in
      (t.0.index, subst (λ z. In (reasons x td missed) z) is_it t.1, subst (λ z. 0 < share x z v) is_it mine.1)

  -- all shares of a task in a slot are those of the subtasks that have one
  shares_listed : (a : Task) (v : ℕ) (zs : List Subtask) → ((j : ℕ) → In (reasons x td missed) (subtask_of a j) → 0 < share x (subtask_of a j) v → In zs (subtask_of a j)) → shares x td missed a v ≤ total (own_share x a v) zs
  shares_listed a v zs only = total_among same_subtask subtask_exact (own_share x a v) (reasons x td missed) zs (later_twice x is td within missed m 0 (omega arith)) (λ z h some.
      (let mine = own x a v z some in
      let is_it : z ≡ subtask_of a z.index = λ k. record { task = mine.0 k; index = z.index } in
      subst (In zs) (sym is_it) (only z.index (subst (In (reasons x td missed)) is_it h) (subst (λ y. 0 < share x y v) is_it mine.1))))

  shares_one : (a : Task) (v i : ℕ) → ((j : ℕ) → In (reasons x td missed) (subtask_of a j) → 0 < share x (subtask_of a j) v → j ≡ i) → shares x td missed a v ≤ share x (subtask_of a i) v
  shares_one a v i only =
      let one = shares_listed a v (subtask_of a i ∷ []) (λ j h s. subst (λ k. In (subtask_of a i ∷ []) (subtask_of a k)) (sym (only j h s)) (among_here same_subtask subtask_exact [] (subtask_of a i))) in
      let le = own_le x a v (subtask_of a i) in
      omega arith

  shares_two : (a : Task) (v i j : ℕ) → ((k : ℕ) → In (reasons x td missed) (subtask_of a k) → 0 < share x (subtask_of a k) v → (k ≡ i) ⊎ (k ≡ j))
      → shares x td missed a v ≤ share x (subtask_of a i) v + share x (subtask_of a j) v
  shares_two a v i j only =
      let zs : List Subtask = subtask_of a i ∷ subtask_of a j ∷ [] in
      let here = among_here same_subtask subtask_exact (subtask_of a j ∷ []) (subtask_of a i) in
      let next = among_more same_subtask subtask_exact (subtask_of a i) (subtask_of a j ∷ []) (subtask_of a j) (among_here same_subtask subtask_exact [] (subtask_of a j)) in
      let two = shares_listed a v zs (λ k h s. ⊎_elim (λ e. subst (λ n. In zs (subtask_of a n)) (sym e) here) (λ e. subst (λ n. In zs (subtask_of a n)) (sym e) next) (only k h s)) in
      grind (arith, own_le)

  -- subtasks of a task that both have a share of a slot are neighbours
  near : (a : Task) (v i j : ℕ) → 1 ≤ i → 0 < share x (subtask_of a i) v → 0 < share x (subtask_of a j) v → j ≤ i + 1
  near a v i j first one other =
      elim (cases_lt (i + 1) j) [
        | inl far ↦ absurd (let none = no_three_shares (x.weight a) i j (x.offset a i) (x.offset a j) v (is.weights a) first far (offsets x is a i j first (omega arith)) one in omega arith)
        | inr close ↦ close
      ]

  two_fit : (a : Task) (v i j : ℕ) → 1 ≤ i → i < j → share x (subtask_of a i) v + share x (subtask_of a j) v ≤ (x.weight a).cost
  two_fit a v i j first less = shares_fit (x.weight a) i j (x.offset a i) (x.offset a j) v (is.weights a) first less (offsets x is a i j first (omega arith))

  -- a task's shares of one slot are at most its cost
  pub shares_le_cost : (a : Task) (v : ℕ) → shares x td missed a v ≤ (x.weight a).cost
  shares_le_cost a v =
      elim (cases_lt 0 (shares x td missed a v)) [
        | inr none ↦ omega arith
        | inl some ↦ (let t = shares_some a v some in with_one t.0 (reason_index x is td within missed m (subtask_of a t.0) t.1) t.2)
      ]
    where
      both : (i : ℕ) → 1 ≤ i → ((k : ℕ) → In (reasons x td missed) (subtask_of a k) → 0 < share x (subtask_of a k) v → (k ≡ i) ⊎ (k ≡ i + 1)) → shares x td missed a v ≤ (x.weight a).cost
      both i first only = (let two = shares_two a v i (i + 1) only in let fit = two_fit a v i (i + 1) first (omega arith) in omega arith)

      with_one : (i : ℕ) → 1 ≤ i → 0 < share x (subtask_of a i) v → shares x td missed a v ≤ (x.weight a).cost
      with_one i first one =
          elim (cases_lt 1 i) [
            | inr is_one ↦ both i first (λ k h s. (let low = reason_index x is td within missed m (subtask_of a k) h in grind (arith, low, near a v i k first one s)))
            | inl more ↦ elim (cases_lt 0 (share x (subtask_of a (i - 1)) v)) [
              | inr none ↦ both i first (λ k h s. (let low = reason_index x is td within missed m (subtask_of a k) h in grind (arith, near a v k i low s one, near a v i k first one s)))
              | inl also ↦ both (i - 1) (omega arith) (λ k h s. (let low = reason_index x is td within missed m (subtask_of a k) h in grind (arith, near a v k i low s one, near a v (i - 1) k (omega arith) also s)))
            ]
          ]

  -- in a hole that isn't the first of its block who is unserved has no share
  pub unserved_none : (a : Task) (s t : ℕ) → suc s ≡ t → t < td → is_full x td missed s ≡ false → is_full x td missed t ≡ false → is_served x td missed a t ≡ false → shares x td missed a t ≡ 0
  unserved_none a s t e less before hole alone =
      elim (cases_lt 0 (shares x td missed a t)) [
        | inr none ↦ omega arith
        | inl some ↦ absurd (
            let p = shares_some a t some in
            let inside = share_inside (subtask_of a p.0) t (reason_index x is td within missed m (subtask_of a p.0) p.1) p.2 in
            let left = unserved x is td within missed m (subtask_of a p.0) t less hole p.1 inside.0 inside.1 alone in
            true≢false (sym (left.first s e) ∙ before))
      ]

  -- who has a share holds its weight still
  pub shares_member : (a : Task) (t : ℕ) → t < td → 0 < shares x td missed a t → is_among same_task (x.members t) a ≡ true
  shares_member a t less some =
      let p = shares_some a t some in
      let first = reason_index x is td within missed m (subtask_of a p.0) p.1 in
      let inside = share_inside (subtask_of a p.0) t first p.2 in
      let joined = release_joined x is (subtask_of a p.0) first in
      ⊎_elim
      (λ e. is.active_members a t (omega arith) (is.active_since a t (td - 1) (omega arith) (omega arith) (omega arith) (subst (λ (w : Subtask). x.is_active w.task (td - 1) ≡ true) (sym e) m.miss.active)))
      (λ (q : (v : ℕ) × (v < td) × In (picks x td missed v) (subtask_of a p.0)).
      is.held (subtask_of a p.0) q.0 t (omega arith) (omega arith) (picks_rows x is td within missed m q.0 (subtask_of a p.0) q.2) (omega arith) (omega arith))
      (reason_cases x is td within missed m (subtask_of a p.0) p.1)

  -- who is unserved in a block's first slot u holds its weight in its full slot v, and its shares of both are at most its cost
  pub record IsLeft (a : Task) (u v : ℕ) : Type 0 where
    pub member : is_among same_task (x.members v) a ≡ true
    pub fits : shares x td missed a u + shares x td missed a v ≤ (x.weight a).cost

  pub left_over : (a : Task) (u v : ℕ) → u < v → v < td → AreHoles x is td within missed m u v → is_served x td missed a u ≡ false → 0 < shares x td missed a u → IsLeft a u v
  left_over a u v from to holes alone some =
      let p = shares_some a u some in
      by p.0 p.1 p.2 (reason_index x is td within missed m (subtask_of a p.0) p.1)
    where
      by : (i : ℕ) → In (reasons x td missed) (subtask_of a i) → 0 < share x (subtask_of a i) u → 1 ≤ i → IsLeft a u v
      by i h one first =
          let inside = share_inside (subtask_of a i) u first one in
          let here = unserved x is td within missed m (subtask_of a i) u (omega arith) (holes u (omega arith) from) h inside.0 inside.1 alone in
          let that = reached x is td within missed m (subtask_of a i) u v from (omega arith) holes h (ran_more x (subtask_of a i) u (suc u) (omega arith) here.ran) in
          let bound = that.bound here.due in
          let joined = release_joined x is (subtask_of a i) first in
          let row = ran_at x (subtask_of a i) u here.ran in
          record { member = is.held (subtask_of a i) row.0 v (omega arith) (omega arith) row.2 (omega arith) bound; fits = fits i h first here bound }
        where
          -- who has a share in v is released there
          released : (j : ℕ) → In (reasons x td missed) (subtask_of a j) → 0 < share x (subtask_of a j) v → release x (subtask_of a j) ≡ v
          released j k s =
              let inside = share_inside (subtask_of a j) v (reason_index x is td within missed m (subtask_of a j) k) s in
              elim (cases_lt (release x (subtask_of a j)) v) [
                | inr now ↦ omega arith
                | inl before ↦ absurd (
                    let still = unserved_on x is td within missed m a u (v - 1) v (omega arith) (omega arith) (omega arith) holes alone in
                    let left = unserved x is td within missed m (subtask_of a j) (v - 1) (omega arith) (holes (v - 1) (omega arith) (omega arith)) k (omega arith) (omega arith) still in
                    omega arith)
              ]

          fits : (i : ℕ) → In (reasons x td missed) (subtask_of a i) → 1 ≤ i → IsUnserved x is td within missed m (subtask_of a i) u → v < busy_bound x (subtask_of a i) → shares x td missed a u + shares x td missed a v ≤ (x.weight a).cost
          fits i h first here bound =
              let due = here.due in
              let last = shares_one a u i (λ j k s.
              (let low = reason_index x is td within missed m (subtask_of a j) k in
              let inside = share_inside (subtask_of a j) u low s in
              let other = unserved x is td within missed m (subtask_of a j) u (omega arith) (holes u (omega arith) from) k inside.0 inside.1 alone in
              rising_once (λ n. deadline x (subtask_of a n)) (deadlines x is a) j i low first (other.due ∙ sym due))) in
              elim (cases_lt 0 (shares x td missed a v)) [
                | inr none ↦ (let le = shares_le_cost a u in omega arith)
                | inl some_v ↦
                    let p = shares_some a v some_v in
                    let at = released p.0 p.1 p.2 in
                    let first_p = reason_index x is td within missed m (subtask_of a p.0) p.1 in
                    let inside = share_inside (subtask_of a p.0) v first_p p.2 in
                    let one = shares_one a v p.0 (λ j k s. rising_once (λ n. release x (subtask_of a n)) (releases x is a) j p.0 (reason_index x is td within missed m (subtask_of a j) k) first_p (released j k s ∙ sym at)) in
                    let after : i < p.0 = lt_of_not-le (λ le.
                    elim (cases_eq i p.0) [
                      | inl e ↦ (let same : deadline x (subtask_of a i) ≡ deadline x (subtask_of a p.0) = ap (λ (n : ℕ). deadline x (subtask_of a n)) e in omega arith)
                      | inr other ↦ (let up = deadlines x is a p.0 i first_p (omega (arith, le, other)) in omega arith)
                    ]) in
                    let le = busy_opens (x.weight a) i p.0 (x.offset a i) (x.offset a p.0) (is.weights a) here.bit after (offsets x is a i p.0 first (omega arith)) (omega arith) in
                    let meet = shares_meet (x.weight a) i (x.offset a i) u (x.offset a i) (release_of (x.weight a) (i + 1) (x.offset a i)) (is.weights a) first here.bit (omega arith) refl in
                    let moved : share x (subtask_of a p.0) (release x (subtask_of a p.0)) ≡ share x (subtask_of a p.0) v = ap (share x (subtask_of a p.0)) at in
                    omega arith
              ]

-- Blocks: holes, and the full slot that ends them. What a block's first slot leaves over is paid by its full slot.

-- the first slot of the block that slot n is in, which is n itself if the slot before it is full
abbrev pub start : Schedule → ℕ → Subtask → ℕ → ℕ
start x td missed zero = 0
start x td missed (suc n) = cond (is_full x td missed n) (suc n) (start x td missed n)

-- what the first slot of a block leaves over to its full slot
abbrev pub carry : Schedule → ℕ → Subtask → Task → ℕ → ℕ
carry x td missed a n = cond (nat_lt (start x td missed n) n) (cond (is_served x td missed a (start x td missed n)) 0 (shares x td missed a (start x td missed n))) 0

-- how many rows of the task are picked in a slot
abbrev pub picked : Schedule → ℕ → Subtask → Task → ℕ → ℕ
picked x td missed a t = total (λ z. cond (same_task z.task a) 1 0) (picks x td missed t)

carried : (s n : ℕ) (served : Bool) (w : ℕ) → 0 < cond (nat_lt s n) (cond served 0 w) 0 → (s < n) × (served ≡ false) × (cond (nat_lt s n) (cond served 0 w) 0 ≡ w)
carried s n served w some = grind (arith, nat_tests)

pays : (b : Bool) (s c cost : ℕ) → s ≤ cost → (0 < s → b ≡ true) → (0 < c → (b ≡ true) × (s + c ≤ cost)) → s + c ≤ cond b cost 0
pays b s c cost top held left = grind arith

module _ (x : Schedule) {n : ℕ} (is : IsRunBelow x n) (td : ℕ) (within : td ≤ n) (missed : Subtask) (m : IsFirstMiss x td missed) where
  pub start_le : (n : ℕ) → start x td missed n ≤ n
  start_le zero = omega arith
  start_le (suc n) = grind (arith, start_le n)

  -- from there to n all are holes
  pub start_holes : (n : ℕ) → AreHoles x is td within missed m (start x td missed n) n
  start_holes zero = λ u from to. absurd (omega (arith, to))
  start_holes (suc n) = grind (arith, start_holes n)

  -- what is left over, by cases
  carry_within : (a : Task) (n : ℕ) → start x td missed n < n → carry x td missed a n ≡ cond (is_served x td missed a (start x td missed n)) 0 (shares x td missed a (start x td missed n))
  carry_within a n less = ap (λ b. cond b (cond (is_served x td missed a (start x td missed n)) 0 (shares x td missed a (start x td missed n))) 0) (lt-ltb (start x td missed n) n less)

  carry_first : (a : Task) (n : ℕ) → n ≤ start x td missed n → carry x td missed a n ≡ 0
  carry_first a n le = ap (λ b. cond b (cond (is_served x td missed a (start x td missed n)) 0 (shares x td missed a (start x td missed n))) 0) (le-ltb (start x td missed n) n le)

  -- nothing is left over after a full slot
  pub carry_full : (a : Task) (n : ℕ) → is_full x td missed n ≡ true → carry x td missed a (suc n) ≡ 0
  carry_full a n full = carry_first a (suc n) (omega (arith, ap (λ b. cond b (suc n) (start x td missed n)) full))

  -- who is served has a row at least
  pub picked_some : (a : Task) (t : ℕ) → is_served x td missed a t ≡ true → 1 ≤ picked x td missed a t
  picked_some a t served =
      let p = served_some x is td within missed m a t served in
      let one : 1 ≤ cond (same_task p.0.task a) 1 0 = rw ((task_exact p.0.task a).1 p.2) (omega arith) in
      let le = total_among same_subtask subtask_exact (λ (z : Subtask). cond (same_task z.task a) 1 0) (p.0 ∷ []) (picks x td missed t) (refl, tt) (λ z h some.
      ⊎_elim (λ e. subst (λ y. In (picks x td missed t) y) (sym e) p.1) (λ none. absurd (true≢false (sym none))) (among_cases same_subtask subtask_exact p.0 [] z h)) in
      omega arith

  -- a hole: the rows picked there pay, or it is left over
  pub hole_pays : (a : Task) (n : ℕ) → n < td → is_full x td missed n ≡ false → shares x td missed a n + carry x td missed a n ≤ (x.weight a).period * picked x td missed a n + carry x td missed a (suc n)
  hole_pays a n less hole =
      let le = start_le n in
      let same : start x td missed (suc n) ≡ start x td missed n = ap (λ b. cond b (suc n) (start x td missed n)) hole in
      let next = carry_within a (suc n) (omega arith) in
      let moved : cond (is_served x td missed a (start x td missed (suc n))) 0 (shares x td missed a (start x td missed (suc n))) ≡ cond (is_served x td missed a (start x td missed n)) 0 (shares x td missed a (start x td missed n)) =
      ap (λ (s : ℕ). cond (is_served x td missed a s) 0 (shares x td missed a s)) same in
      let most = shares_le_cost x is td within missed m a n in
      let weight = (is.weights a).at_most_one in
      elim (cases_Bool (is_served x td missed a n)) [
        | inl served ↦
            let some = picked_some a n served in
            let pays = mul-le (x.weight a).period 1 (x.weight a).period (picked x td missed a n) (le_refl (x.weight a).period) some in
            grind (arith, cases_lt, carry_within, carry_first)
        | inr alone ↦ elim (cases_lt (start x td missed n) n) [
          | inl inside ↦
              let here = carry_within a n inside in
              let none = unserved_none x is td within missed m a (n - 1) n (omega arith) less (start_holes n (n - 1) (omega arith) (omega arith)) hole alone in
              omega arith
          | inr first ↦
              grind (arith, carry_first)
        ]
      ]

  -- a full slot: the cost of who holds its weight pays, and of others nothing is left
  pub full_pays : (a : Task) (n : ℕ) → n < td → shares x td missed a n + carry x td missed a n ≤ cond (is_among same_task (x.members n) a) (x.weight a).cost 0
  full_pays a n less =
      pays (is_among same_task (x.members n) a) (shares x td missed a n) (carry x td missed a n) (x.weight a).cost
      (shares_le_cost x is td within missed m a n) (shares_member x is td within missed m a n less) (λ some.
      (let first = start x td missed n in
      let c = carried first n (is_served x td missed a first) (shares x td missed a first) some in
      let p = left_over x is td within missed m a first n c.0 less (start_holes n) c.1 (omega (arith, c.2)) in
      (p.member, let fits = p.fits in omega (arith, c.2))))
