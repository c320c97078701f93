-- The slots in which a member runs are in its windows.
use Rattle.pfair_in_time.proofs.Common.{cases_lt, cases_eq, cases_Bool, length-append, get_or_push, get_or_append_left, numbers_below, Share, release_of, deadline_of, starts_job_of, deadline_rises, Among, Member, theta, is_departing, Settings, names_task, quanta, next_index, Story, world, table, ◌≡◌, ℕ, zero, suc, ◌+◌, ◌<◌, ◌≤◌, Bool, true, cond, List, [], ◌∷◌, ◌++◌, length, get_or, arith, ap, inl, inr, filter, false, drop, sym, ◌∙◌, nat_le, sum_by, count_by, None, ◌⊎◌, ArePicks, slots_since}
use Rattle.std.proofs.lemmas.List.Elements.{filter-append}
use Rattle.pfair_admission.specs.declared.delay.Delay.{Delay}
use Rattle.pfair_in_time.proofs.Worlds.{tables_before, runs, next_more, next_new, here, HaveWeights, index_after, runs_chosen}
use Rattle.pfair_in_time.proofs.AsRun.{IsLine}
use Rattle.pfair_in_time.proofs.Executive.{none, in_time, open_from}
use Rattle.std.proofs.Math.Logic.{⊎_map}

-- The numbers below a bound that pass a test.

module _ (f : ℕ → Bool) where
  abbrev pub passing : ℕ → List ℕ
  passing n = filter f (numbers_below n)

  passing_more : (n : ℕ) → passing (suc n) ≡ passing n ++ cond (f n) (n ∷ []) []
  passing_more n = filter-append f (numbers_below n) (n ∷ [])

  pub one_more : (n : ℕ) → length (passing (suc n)) ≡ length (passing n) + cond (f n) 1 0
  one_more n = grind (arith, passing_more, length-append)

  pub fewer_before : (m n : ℕ) → m ≤ n → length (passing m) ≤ length (passing n)
  fewer_before m zero le = (let e : m ≡ 0 = omega arith in let same = ap (λ k. length (passing k)) e in omega arith)
  fewer_before m (suc n) le =
      elim (cases_eq m (suc n)) [
        | inl e ↦ (let same = ap (λ k. length (passing k)) e in omega arith)
        | inr other ↦ (let before = fewer_before m n (omega (arith, other)) in let more = one_more n in omega arith)
      ]

  -- the number at a place: it is below the bound, passes, and has as many before it as the place says
  pub record IsPassing (n place : ℕ) : Type 0 where
    pub below : get_or (passing n) place 0 < n
    pub passes : f (get_or (passing n) place 0) ≡ true
    pub before : length (passing (get_or (passing n) place 0)) ≡ place

  pub at_place : (n place : ℕ) → place < length (passing n) → IsPassing n place
  at_place zero place less = absurd (omega arith)
  at_place (suc n) place less = grind (arith, at_place n place, cases_lt, passing_more, get_or_append_left, cases_Bool, one_more, get_or_push)

  pub passing_rise : (n : ℕ) → ArePicks (passing n) n
  passing_rise n place inside = grind (arith, at_place, cases_lt, fewer_before)

-- whether a member runs in a slot that is counted from its joining
abbrev pub runs_at : Settings → Story → Member → ℕ → Bool
runs_at s x m slot = names_task m.name (table None s x (m.joined + slot))

-- all such slots up to slot t
abbrev pub slots_of : Settings → Story → ℕ → Member → List ℕ
slots_of s x t m = passing (runs_at s x m) (slots_since t m)

-- its quanta are as many as such slots
pub quanta_passing : (s : Settings) (x : Story) (m : Member) (slot : ℕ) → quanta (tables_before s x (m.joined + slot)) m ≡ length (passing (runs_at s x m) slot)
quanta_passing s x m zero = (let new = next_new s x (m.joined + 0) m (omega arith) in omega arith)
quanta_passing s x m (suc slot) =
    let more = next_more s x (m.joined + slot) m (omega arith) in
    let before = quanta_passing s x m slot in
    let passes = one_more (runs_at s x m) slot in
    let at : suc (m.joined + slot) ≡ m.joined + suc slot = omega arith in
    grind arith

-- without delays the offset is the joining slot
pub no_offset : (m : Member) (i : ℕ) → m.delays ≡ [] → theta m i ≡ m.joined
no_offset m i e = ap (λ ds. m.joined + sum_by (λ (d : Delay). d.by) (filter (λ (d : Delay). nat_le d.index i) ds)) e ∙ omega arith

-- all its subtasks have that offset
abbrev pub IsUndelayed : Member → Type 0
IsUndelayed m = (i : ℕ) → theta m i ≡ m.joined

pub no_offset_all : (m : Member) → m.delays ≡ [] → IsUndelayed m
no_offset_all m e i = no_offset m i e

-- a subtask that runs in a slot counted from the joining does so in its window
pub record IsKept (m : Member) (slot index : ℕ) : Type 0 where
  pub before_deadline : slot < deadline_of m.weight index 0
  pub released : (m.early ≡ false) ⊎ (starts_job_of m.weight index ≡ true) → release_of m.weight index 0 ≤ slot

module _ (s : Settings) (x : Story) (frame : 0 < s.frame) (weights : HaveWeights x) where
  pub kept_at : (t slot : ℕ) (m l : Member) → Among (world None s x (m.joined + slot)) l → IsLine s x (m.joined + slot) t l m → IsUndelayed m → runs_at s x m slot ≡ true
      → IsKept m slot (1 + length (passing (runs_at s x m) slot))
  kept_at t slot m l h line undelayed ran = record {
    before_deadline = (
        let early = in_time s x frame weights (m.joined + slot) l h named in
        let same = ap (λ (w : Share). deadline_of w l.next (theta l l.next)) line.weight in
        let is = ap (λ i. deadline_of m.weight i 0) next in
        grind arith);
    released = λ e. from (open_from (m.joined + slot) l (runs_chosen s x (m.joined + slot) l h named).0
        (⊎_map (λ early. sym line.early ∙ early) (λ starts. (λ i. starts_job_of (sym line.weight i) (next i)) ∙ starts) e));
  }
    where
      named : runs s x (m.joined + slot) l ≡ true
      named = ap (λ n. names_task n (table None s x (m.joined + slot))) (sym line.name) ∙ ran

      own : next_index (tables_before s x (m.joined + slot)) l ≡ next_index (tables_before s x (m.joined + slot)) m
      own = ap (λ n. 1 + count_by (names_task n) (drop l.joined (tables_before s x (m.joined + slot)))) (sym line.name) ∙ ap (λ j. 1 + count_by (names_task m.name) (drop j (tables_before s x (m.joined + slot)))) (sym line.joined)

      next : l.next ≡ 1 + length (passing (runs_at s x m) slot)
      next = (here s x weights (m.joined + slot) l h).next ∙ own ∙ ap (λ n. 1 + n) (quanta_passing s x m slot)

      from : release_of l.weight l.next (theta l l.next) ≤ m.joined + slot → release_of m.weight (1 + length (passing (runs_at s x m) slot)) 0 ≤ slot
      from since =
          let same = ap (λ (w : Share). release_of w l.next (theta l l.next)) line.weight in
          let is = ap (λ i. release_of m.weight i 0) next in
          let joined = line.joined in
          omega arith

  pub served : (t : ℕ) (m : Member) → Among (world None s x t) m → is_departing m ≡ false → IsUndelayed m → (i : ℕ) → 1 ≤ i → deadline_of m.weight i 0 ≤ slots_since t m → i ≤ length (slots_of s x t m)
  served t m h active undelayed i first due =
      elim (cases_lt (length (slots_of s x t m)) i) [
        | inr has ↦ has
        | inl missing ↦ absurd (
            let at = here s x weights t m h in
            let joined = at.by_now in
            let late = none s x frame weights t m h active in
            let offset = undelayed (index_after s x t m) in
            let now : m.joined + slots_since t m ≡ suc t = omega arith in
            let ran = quanta_passing s x m (slots_since t m) in
            let same = ap (λ u. quanta (tables_before s x u) m) now in
            let index : index_after s x t m ≡ 1 + length (slots_of s x t m) = omega arith in
            let is = ap (λ k. deadline_of m.weight k 0) index in
            let rise = deadline_rises m.weight (1 + length (slots_of s x t m)) i at.sound.weight.some_cost (omega arith) in
            omega arith)
      ]
