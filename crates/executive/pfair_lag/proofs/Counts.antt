-- Rising lists, and how many of their numbers lie below a time.
use Rattle.std.proofs.Common.{ltb, IsTrue, ◌↔◌, MatchOption}
use Rattle.pfair_lag.proofs.Common.{cases_lt, common_steps, ArePicks, Rises, quanta_before, ◌≡◌, ℕ, zero, suc, ◌+◌, ◌-◌, ◌<◌, ◌≤◌, List, [], ◌∷◌, length, get_or, arith, inl, inr, Share, IsWeight, deadline_of, InWindows, KeepsReleases, MeetsDeadlines, pick_of, LagWithin, LagBelowOne, LagAboveMinusOne, ◌*◌, mul-le, release_of, Bool, true, false, Option, Some, None, refl, sym, ap, subst, ◌∙◌, is_some, not, count_by-le-length, miss_index, IsMiss, IsFirstMiss, IsLate, IsFirstLate, OneFirstMiss, OneFirstLate, MissesAreOut, LateMissDeadlines}
use Rattle.std.proofs.lemmas.Int.{ints}
use Rattle.std.proofs.Math.Nat.{le_refl}
use Rattle.pfair_weight.specs.WindowFacts.{of_released, before_deadline, of_before_deadline, deadline_rises, window_not_empty}
use Rattle.pfair_lag.specs.declared.windows.Miss.{Miss}
use Rattle.pfair_lag.specs.declared.windows.Miss.TheVariants.{Early, Tardy, Unserved}

rises_to : (xs : List ℕ) (h : ℕ) → ArePicks xs h → (j k : ℕ) → j < k → k < length xs → get_or xs j 0 < get_or xs k 0
rises_to xs h p j zero below inside = absurd (omega arith)
rises_to xs h p j (suc k) below inside = grind (arith, rises_to xs h p j k, cases_lt)

pub rises : (xs : List ℕ) (h : ℕ) → ArePicks xs h → Rises xs
rises xs h p = rises_to xs h p

rises_rest : (x : ℕ) (xs : List ℕ) → Rises (x ∷ xs) → Rises xs
rises_rest x xs r j k below inside = r (suc j) (suc k) (omega arith) (omega arith)

quanta_yes : (x : ℕ) (xs : List ℕ) (t : ℕ) → x < t → quanta_before (x ∷ xs) t ≡ 1 + quanta_before xs t
quanta_yes x xs t h = grind (arith, common_steps)

quanta_no : (x : ℕ) (xs : List ℕ) (t : ℕ) → t ≤ x → quanta_before (x ∷ xs) t ≡ quanta_before xs t
quanta_no x xs t h = grind (arith, common_steps)

-- how many lie below a time is also the place of the first that does not
pub record AreBefore (xs : List ℕ) (t k : ℕ) : Type 0 where
  pub counted : get_or xs k 0 < t → k < quanta_before xs t
  pub below : k < quanta_before xs t → get_or xs k 0 < t

pub before_time : (xs : List ℕ) (t k : ℕ) → Rises xs → k < length xs → AreBefore xs t k
before_time [] t k r inside = absurd (omega arith)
before_time (x ∷ xs) t zero r inside =
    elim (cases_lt x t) [
      | inl early ↦ record { counted = λ _. omega (arith, quanta_yes x xs t early); below = λ _. early }
      | inr late ↦ record {
        counted = λ h. absurd (omega arith);
        below = λ h. absurd (
            let some : 0 < quanta_before xs t = omega (arith, quanta_no x xs t late) in
            let longer : 0 < length xs = omega (arith, count_by-le-length (λ s. ltb s t) xs) in
            let first = (before_time xs t 0 (rises_rest x xs r) longer).below some in
            let higher : x < get_or xs 0 0 = r 0 1 (omega arith) (omega arith) in
            omega (arith, first));
      }
    ]
before_time (x ∷ xs) t (suc k) r inside =
    let rest = before_time xs t k (rises_rest x xs r) (omega arith) in
    elim (cases_lt x t) [
      | inl early ↦ record { counted = λ h. omega (arith, rest.counted h, quanta_yes x xs t early); below = λ h. rest.below (omega (arith, quanta_yes x xs t early)) }
      | inr late ↦ record {
        counted = λ h. absurd (let higher : x < get_or xs k 0 = r 0 (suc k) (omega arith) inside in omega arith);
        below = λ h. rest.below (omega (arith, quanta_no x xs t late));
      }
    ]

-- no more lie below a time than there are
pub quanta_le : (xs : List ℕ) (t : ℕ) → quanta_before xs t ≤ length xs
quanta_le xs t = count_by-le-length (λ s. ltb s t) xs

-- the number at a place is at least the place
pub place_le : (xs : List ℕ) → Rises xs → (k : ℕ) → k < length xs → k ≤ get_or xs k 0
place_le xs r zero inside = omega arith
place_le xs r (suc k) inside = grind (arith, place_le xs r k (omega arith))

-- no more picks than slots
pub length_le : (xs : List ℕ) (h : ℕ) → ArePicks xs h → length xs ≤ h
length_le xs h p =
    elim (cases_lt 0 (length xs)) [
      | inl some ↦ (
          let last : length xs - 1 < length xs = omega arith in
          let high = place_le xs (rises xs h p) (length xs - 1) last in
          let below = (p (length xs - 1) last).below in
          omega arith)
      | inr none ↦ omega arith
    ]

-- a pick at time t is counted from the next time on
pub quanta_next_yes : (xs : List ℕ) (t : ℕ) → Rises xs → quanta_before xs t < length xs → get_or xs (quanta_before xs t) 0 ≡ t → quanta_before xs (t + 1) ≡ quanta_before xs t + 1
quanta_next_yes xs t r inside same =
    let more = (before_time xs (t + 1) (quanta_before xs t) r inside).counted (omega arith) in
    elim (cases_lt (quanta_before xs t + 1) (quanta_before xs (t + 1))) [
      | inl two ↦ absurd (
          let within : quanta_before xs t + 1 < length xs = omega (arith, quanta_le xs (t + 1)) in
          let low = (before_time xs (t + 1) (quanta_before xs t + 1) r within).below two in
          grind arith)
      | inr one ↦ omega arith
    ]

-- with no pick at time t the count stays
pub quanta_next_no : (xs : List ℕ) (t : ℕ) → Rises xs → (quanta_before xs t < length xs → get_or xs (quanta_before xs t) 0 ≡ t → ⊥) → quanta_before xs (t + 1) ≡ quanta_before xs t
quanta_next_no xs t r other =
    elim (cases_lt (quanta_before xs t) (quanta_before xs (t + 1))) [
      | inl more ↦ absurd (
          let within : quanta_before xs t < length xs = omega (arith, quanta_le xs (t + 1)) in
          let low = (before_time xs (t + 1) (quanta_before xs t) r within).below more in
          elim (cases_lt (get_or xs (quanta_before xs t) 0) t) [
            | inl early ↦ (let again = (before_time xs t (quanta_before xs t) r within).counted early in omega arith)
            | inr late ↦ other within (omega arith)
          ])
      | inr most ↦ elim (cases_lt (quanta_before xs (t + 1)) (quanta_before xs t)) [
        | inl fewer ↦ absurd (
            let within : quanta_before xs (t + 1) < length xs = omega (arith, quanta_le xs t) in
            let low = (before_time xs t (quanta_before xs (t + 1)) r within).below fewer in
            let again = (before_time xs (t + 1) (quanta_before xs (t + 1)) r within).counted (omega arith) in
            omega arith)
        | inr same ↦ omega arith
      ]
    ]

-- nothing was given before time 0
pub quanta_zero : (xs : List ℕ) → Rises xs → quanta_before xs 0 ≡ 0
quanta_zero xs r =
    elim (cases_lt 0 (quanta_before xs 0)) [
      | inl some ↦ absurd (
          let within : 0 < length xs = omega (arith, quanta_le xs 0) in
          let low = (before_time xs 0 0 r within).below some in
          omega arith)
      | inr none ↦ omega arith
    ]

-- Being in windows and staying within a lag of one are the same.

-- deadlines kept, by whole numbers: one more quantum would be ahead of the share
abbrev pub NeverBehind : Share → List ℕ → ℕ → Type 0
NeverBehind w picks horizon = (t : ℕ) → t ≤ horizon → t * w.cost < (quanta_before picks t + 1) * w.period

pub never_behind : (w : Share) (picks : List ℕ) (horizon : ℕ) → 0 < w.cost → ArePicks picks horizon → MeetsDeadlines w picks horizon → NeverBehind w picks horizon
never_behind w picks horizon p are met t within =
    elim (cases_lt (t * w.cost) ((quanta_before picks t + 1) * w.period)) [
      | inl early ↦ early
      | inr late ↦ absurd (
          let reached : deadline_of w (quanta_before picks t + 1) 0 ≤ t = elim (cases_lt t (deadline_of w (quanta_before picks t + 1) 0)) [
            | inl before ↦ absurd (let again = of_before_deadline w (quanta_before picks t + 1) t p before in omega arith)
            | inr after ↦ after
          ] in
          let has : quanta_before picks t + 1 ≤ length picks = met.served (quanta_before picks t + 1) (omega arith) (omega arith) in
          let ran = met.in_time (quanta_before picks t + 1) (omega arith) has in
          let place : quanta_before picks t + 1 - 1 ≡ quanta_before picks t = omega arith in
          let before : get_or picks (quanta_before picks t) 0 < t = (let at = rw place at ran in omega arith) in
          let counted = (before_time picks t (quanta_before picks t) (rises picks horizon are) (omega arith)).counted before in
          omega arith)
    ]

pub meets_deadlines : (w : Share) (picks : List ℕ) (horizon : ℕ) → 0 < w.cost → ArePicks picks horizon → NeverBehind w picks horizon → MeetsDeadlines w picks horizon
meets_deadlines w picks horizon p are never = record {
  in_time = λ i from to.
      let inside : i - 1 < length picks = omega arith in
      let below : pick_of picks i < horizon = (are (i - 1) inside).below in
      let most : quanta_before picks (pick_of picks i) ≤ i - 1 = elim (cases_lt (i - 1) (quanta_before picks (pick_of picks i))) [
        | inl more ↦ absurd (let itself = (before_time picks (pick_of picks i) (i - 1) (rises picks horizon are) inside).below more in omega arith)
        | inr right ↦ right
      ] in
      let here = never (pick_of picks i) (omega arith) in
      let wide : (quanta_before picks (pick_of picks i) + 1) * w.period ≤ i * w.period = mul-le _ _ _ _ (omega arith) (le_refl w.period) in
      before_deadline w i (pick_of picks i) p (omega arith);
  served = λ i from reached. elim (cases_lt (length picks) i) [
    | inl missing ↦ absurd (
        let here = never horizon (le_refl horizon) in
        let wide : (quanta_before picks horizon + 1) * w.period ≤ i * w.period = mul-le _ _ _ _ (omega (arith, quanta_le picks horizon)) (le_refl w.period) in
        grind (arith, before_deadline))
    | inr there ↦ there
  ];
}

pred_times : (n p : ℕ) → 0 < n → n * p ≡ (n - 1) * p + p
pred_times zero p h = absurd (omega arith)
pred_times (suc n) p h = let e : suc n - 1 ≡ n = omega arith in rw e (omega arith)

-- releases kept, by whole numbers: one quantum fewer is behind the share
abbrev pub NeverAhead : Share → List ℕ → ℕ → Type 0
NeverAhead w picks horizon = (t : ℕ) → t ≤ horizon → quanta_before picks t * w.period < t * w.cost + w.period

pub never_ahead : (w : Share) (picks : List ℕ) (horizon : ℕ) → IsWeight w.cost w.period → ArePicks picks horizon → KeepsReleases w picks → NeverAhead w picks horizon
never_ahead w picks horizon p are kept t within =
    elim (cases_lt 0 (quanta_before picks t)) [
      | inl some ↦ (
          let inside : quanta_before picks t - 1 < length picks = omega (arith, quanta_le picks t) in
          let before : get_or picks (quanta_before picks t - 1) 0 < t = (before_time picks t (quanta_before picks t - 1) (rises picks horizon are) inside).below (omega arith) in
          let opened = of_released w (quanta_before picks t) (get_or picks (quanta_before picks t - 1) 0) p.some_cost (kept (quanta_before picks t) some (omega arith)) in
          let wide : (get_or picks (quanta_before picks t - 1) 0 + 1) * w.cost ≤ t * w.cost = mul-le _ _ _ _ (omega arith) (le_refl w.cost) in
          grind (arith, pred_times))
      | inr none ↦ (let nothing : quanta_before picks t ≡ 0 = omega arith in rw nothing (omega (arith, p.some_cost, p.at_most_one)))
    ]

pub keeps_releases : (w : Share) (picks : List ℕ) (horizon : ℕ) → 0 < w.cost → ArePicks picks horizon → NeverAhead w picks horizon → KeepsReleases w picks
keeps_releases w picks horizon p are never i from to =
    let inside : i - 1 < length picks = omega arith in
    let below : pick_of picks i < horizon = (are (i - 1) inside).below in
    let counted : i - 1 < quanta_before picks (pick_of picks i + 1) = (before_time picks (pick_of picks i + 1) (i - 1) (rises picks horizon are) inside).counted (omega arith) in
    let here = never (pick_of picks i + 1) (omega arith) in
    grind (arith, mul-le, le_refl)

-- the same as lags
pub lag_below_one : (w : Share) (picks : List ℕ) (horizon : ℕ) → NeverBehind w picks horizon → LagBelowOne w picks horizon
lag_below_one w picks horizon never t within = let here = never t within in omega (arith, ints)

pub of_lag_below_one : (w : Share) (picks : List ℕ) (horizon : ℕ) → LagBelowOne w picks horizon → NeverBehind w picks horizon
of_lag_below_one w picks horizon lag t within = let here = lag t within in omega (arith, ints)

pub lag_above_minus_one : (w : Share) (picks : List ℕ) (horizon : ℕ) → NeverAhead w picks horizon → LagAboveMinusOne w picks horizon
lag_above_minus_one w picks horizon never t within = let here = never t within in omega (arith, ints)

pub of_lag_above_minus_one : (w : Share) (picks : List ℕ) (horizon : ℕ) → LagAboveMinusOne w picks horizon → NeverAhead w picks horizon
of_lag_above_minus_one w picks horizon lag t within = let here = lag t within in omega (arith, ints)

-- the theorem, both ways
pub lag_within : (w : Share) (picks : List ℕ) (horizon : ℕ) → IsWeight w.cost w.period → ArePicks picks horizon → InWindows w picks horizon → LagWithin w picks horizon
lag_within w picks horizon p are all = record {
  above = lag_above_minus_one w picks horizon (never_ahead w picks horizon p are all.releases);
  below = lag_below_one w picks horizon (never_behind w picks horizon p.some_cost are all.deadlines);
}

pub in_windows : (w : Share) (picks : List ℕ) (horizon : ℕ) → IsWeight w.cost w.period → ArePicks picks horizon → LagWithin w picks horizon → InWindows w picks horizon
in_windows w picks horizon p are lag = record {
  releases = keeps_releases w picks horizon p.some_cost are (of_lag_above_minus_one w picks horizon lag.above);
  deadlines = meets_deadlines w picks horizon p.some_cost are (of_lag_below_one w picks horizon lag.below);
}

-- the lag at one time, by whole numbers
pub record LagAt (cost period : ℕ) (picks : List ℕ) (t : ℕ) : Type 0 where
  pub ahead : quanta_before picks t * period < t * cost + period
  pub behind : t * cost < (quanta_before picks t + 1) * period

pub lag_at : (w : Share) (picks : List ℕ) (horizon t : ℕ) → LagWithin w picks horizon → t ≤ horizon → LagAt w.cost w.period picks t
lag_at w picks horizon t lag within = record { ahead = of_lag_above_minus_one w picks horizon lag.above t within; behind = of_lag_below_one w picks horizon lag.below t within }

pub from_lag_at : (w : Share) (picks : List ℕ) (horizon : ℕ) → ((t : ℕ) → t ≤ horizon → LagAt w.cost w.period picks t) → LagWithin w picks horizon
from_lag_at w picks horizon at = record {
  above = lag_above_minus_one w picks horizon (λ t within. (at t within).ahead);
  below = lag_below_one w picks horizon (λ t within. (at t within).behind);
}

-- the same for deadlines alone
pub lag_from_deadlines : (w : Share) (picks : List ℕ) (horizon : ℕ) → IsWeight w.cost w.period → ArePicks picks horizon → MeetsDeadlines w picks horizon → LagBelowOne w picks horizon
lag_from_deadlines w picks horizon p are met = lag_below_one w picks horizon (never_behind w picks horizon p.some_cost are met)

pub deadlines_from_lag : (w : Share) (picks : List ℕ) (horizon : ℕ) → IsWeight w.cost w.period → ArePicks picks horizon → LagBelowOne w picks horizon → MeetsDeadlines w picks horizon
deadlines_from_lag w picks horizon p are lag = meets_deadlines w picks horizon p.some_cost are (of_lag_below_one w picks horizon lag)

-- One subtask alone is the first that is out of its window.

not_both : (a b : ℕ) → a < b → b ≤ a → ⊥
not_both a b l m = omega arith

lower : (a b c : ℕ) → a < b → b ≤ c → a < c
lower a b c l m = omega arith

-- what a subtask that ran in its window is not
in_window : (w : Share) (picks : List ℕ) (horizon : ℕ) (m : Miss) → IsMiss w picks horizon m → miss_index m ≤ length picks → release_of w (miss_index m) 0 ≤ pick_of picks (miss_index m) → pick_of picks (miss_index m) < deadline_of w (miss_index m) 0 → ⊥
in_window w picks horizon (Early i slot) (first, ran, is, early) within released in_time = not_both slot (release_of w i 0) early (subst (λ s. release_of w i 0 ≤ s) (sym is) released)
in_window w picks horizon (Tardy i slot) (first, ran, is, late) within released in_time = not_both (pick_of picks i) (deadline_of w i 0) in_time (subst (λ s. deadline_of w i 0 ≤ s) is late)
in_window w picks horizon (Unserved i) (none, due) within released in_time = not_both (length picks) i none within

counted : (w : Share) (picks : List ℕ) (horizon : ℕ) (m : Miss) → IsMiss w picks horizon m → 1 ≤ miss_index m
counted w picks horizon (Early i slot) (first, ran, is, early) = first
counted w picks horizon (Tardy i slot) (first, ran, is, late) = first
counted w picks horizon (Unserved i) (none, due) = omega arith

not_earlier : (w : Share) (picks : List ℕ) (horizon : ℕ) (m n : Miss) → IsFirstMiss w picks horizon m → IsFirstMiss w picks horizon n → miss_index m < miss_index n → ⊥
not_earlier w picks horizon m n a b less = grind (arith, in_window)

early_or_tardy : (w : Share) (picks : List ℕ) (i slot j slot' : ℕ) → IsWeight w.cost w.period → i ≡ j → 1 ≤ i → slot ≡ pick_of picks i → slot < release_of w i 0 → slot' ≡ pick_of picks j → deadline_of w j 0 ≤ slot' → ⊥
early_or_tardy w picks i slot j slot' weight e first is early is' late = grind (arith, not_both, lower, window_not_empty)

same_miss : (w : Share) (picks : List ℕ) (horizon : ℕ) → IsWeight w.cost w.period → (m n : Miss) → miss_index m ≡ miss_index n → IsMiss w picks horizon m → IsMiss w picks horizon n → m ≡ n
same_miss w picks horizon weight (Early i s) (Early j t) e (first, ran, is, early) (first', ran', is', early') = grind arith
same_miss w picks horizon weight (Early i s) (Tardy j t) e (first, ran, is, early) (first', ran', is', late) = absurd (early_or_tardy w picks i s j t weight e first is early is' late)
same_miss w picks horizon weight (Early i s) (Unserved j) e (first, ran, is, early) (none, due) = absurd (not_both (length picks) j none (subst (λ k. k ≤ length picks) e ran))
same_miss w picks horizon weight (Tardy i s) (Early j t) e (first, ran, is, late) (first', ran', is', early) = absurd (early_or_tardy w picks j t i s weight (sym e) first' is' early is late)
same_miss w picks horizon weight (Tardy i s) (Tardy j t) e (first, ran, is, late) (first', ran', is', late') =
    let slots : s ≡ t = is ∙ ap (pick_of picks) e ∙ sym is' in λ k. Tardy (e k) (slots k)
same_miss w picks horizon weight (Tardy i s) (Unserved j) e (first, ran, is, late) (none, due) = absurd (not_both (length picks) j none (subst (λ k. k ≤ length picks) e ran))
same_miss w picks horizon weight (Unserved i) (Early j t) e (none, due) (first, ran, is, early) = absurd (not_both (length picks) i none (subst (λ k. k ≤ length picks) (sym e) ran))
same_miss w picks horizon weight (Unserved i) (Tardy j t) e (none, due) (first, ran, is, late) = absurd (not_both (length picks) i none (subst (λ k. k ≤ length picks) (sym e) ran))
same_miss w picks horizon weight (Unserved i) (Unserved j) e (none, due) (none', due') = ap Unserved e

same_index : (i j : ℕ) → (i < j → ⊥) → (j < i → ⊥) → i ≡ j
same_index i j f g = elim (cases_lt i j) [ inl l ↦ absurd (f l) | inr m ↦ elim (cases_lt j i) [ inl l ↦ absurd (g l) | inr n ↦ omega arith ] ]

pub one_first_miss : OneFirstMiss
one_first_miss w picks horizon m n weight a b = grind (arith, same_miss, same_index, not_earlier)

pub misses_are_out : MissesAreOut
misses_are_out w picks horizon (Early i slot) a inside = grind (arith, in_window)
misses_are_out w picks horizon (Tardy i slot) a inside =
    in_window w picks horizon (Tardy i slot) a.is_miss a.is_miss.1 (inside.releases i a.is_miss.0 a.is_miss.1) (inside.deadlines.in_time i a.is_miss.0 a.is_miss.1)
misses_are_out w picks horizon (Unserved i) a inside = grind (arith, not_both)

-- ---- late ones

late_index : (w : Share) (picks : List ℕ) (horizon : ℕ) (m : Miss) → IsLate w picks horizon m → 1 ≤ miss_index m
late_index w picks horizon (Early i slot) h = absurd h
late_index w picks horizon (Tardy i slot) (first, ran, is, late) = first
late_index w picks horizon (Unserved i) (none, due) = omega arith

in_time : (w : Share) (picks : List ℕ) (horizon : ℕ) (m : Miss) → IsLate w picks horizon m → miss_index m ≤ length picks → pick_of picks (miss_index m) < deadline_of w (miss_index m) 0 → ⊥
in_time w picks horizon (Early i slot) h within before = h
in_time w picks horizon (Tardy i slot) (first, ran, is, late) within before = not_both (pick_of picks i) (deadline_of w i 0) before (subst (λ s. deadline_of w i 0 ≤ s) is late)
in_time w picks horizon (Unserved i) (none, due) within before = not_both (length picks) i none within

late_not_earlier : (w : Share) (picks : List ℕ) (horizon : ℕ) (m n : Miss) → IsFirstLate w picks horizon m → IsFirstLate w picks horizon n → miss_index m < miss_index n → ⊥
late_not_earlier w picks horizon m n a b less = grind (arith, late_index, in_time)

same_late : (w : Share) (picks : List ℕ) (horizon : ℕ) → (m n : Miss) → miss_index m ≡ miss_index n → IsLate w picks horizon m → IsLate w picks horizon n → m ≡ n
same_late w picks horizon (Early i s) n e h k = absurd h
same_late w picks horizon (Tardy i s) (Early j t) e h k = absurd k
same_late w picks horizon (Tardy i s) (Tardy j t) e (first, ran, is, late) (first', ran', is', late') = grind arith
same_late w picks horizon (Tardy i s) (Unserved j) e (first, ran, is, late) (none, due) = absurd (not_both (length picks) j none (subst (λ k. k ≤ length picks) e ran))
same_late w picks horizon (Unserved i) (Early j t) e h k = absurd k
same_late w picks horizon (Unserved i) (Tardy j t) e (none, due) (first, ran, is, late) = absurd (not_both (length picks) i none (subst (λ k. k ≤ length picks) (sym e) ran))
same_late w picks horizon (Unserved i) (Unserved j) e h k = ap Unserved e

pub one_first_late : OneFirstLate
one_first_late w picks horizon m n a b = grind (arith, same_late, same_index, late_not_earlier)

pub late_miss_deadlines : LateMissDeadlines
late_miss_deadlines w picks horizon (Early i slot) a met = a.is_late
late_miss_deadlines w picks horizon (Tardy i slot) a met = grind (arith, in_time)
late_miss_deadlines w picks horizon (Unserved i) a met = grind (arith, late_index, not_both)

-- ---- none

-- if the first subtask that did not run is due after the horizon, each that is due by then ran
pub all_served : (w : Share) (picks : List ℕ) (horizon : ℕ) → 0 < w.cost → horizon < deadline_of w (length picks + 1) 0 → (i : ℕ) → 1 ≤ i → deadline_of w i 0 ≤ horizon → i ≤ length picks
all_served w picks horizon some later i from due = elim (cases_lt (length picks) i) [
  | inl missing ↦ absurd (let rises = deadline_rises w (length picks + 1) i some (omega arith) in omega arith)
  | inr ran ↦ ran
]

-- none was found exactly if there is none
pub none_found : (P : Type 0) (Q : Miss → Type 0) (found : Option Miss) (inside : Bool) → ((m : Miss) → Q m → P → ⊥) → is_some found ≡ not inside → MatchOption found P Q → IsTrue inside ↔ P
none_found P Q None true out e h = (λ _. h, λ _. refl)
none_found P Q None false out e h = absurd (cc)
none_found P Q (Some m) true out e h = absurd (cc)
none_found P Q (Some m) false out e h = (λ t. absurd (cc), λ inside. absurd (out m h inside))
