-- The executive as a run: who is which task, and with which offsets in the end.
use Rattle.pfair_in_time.proofs.Common.{cases_eq, Share, release_of, Among, Member, theta, is_departing, Settings, Story, world, Descends, IsSound, find, list_any, true≢false, cases_lt, cases_Bool, NamesApart, apart_head, apart_tail, name_itself, name_eq, Key, among_map, map_among, among_all, next_key, member_named, eligible, named_world, any_among, index_of, apart_map, ◌≡◌, ℕ, zero, suc, ◌<◌, ◌≤◌, true, cond, Some, arith, ap, refl, sym, ◌∙◌, subst, inl, inr, ◌⊎◌, None, Bool, false, List, [], ◌∷◌, Option, not, ◌&&◌, map, ◌↔◌, first_names, Task, Subtask, Schedule, is_among, NoneTwice, same_task, same_subtask, is_row, has_run, task_exact, subtask_exact, ran_at, ran_by, ran_more, false_from_ne_true, found_own}
use Rattle.pfair_in_time.proofs.Worlds.{runs, IsHere, on, on_next, same_member, here, came_from, goes_to, HaveWeights, keys_at, keys_apart, chosen_member, runs_chosen, chosen_runs, next_new, any_from_among}

-- One incarnation over many slots.

-- n in slot t, or after what is decided for slot t, is the incarnation that m is in slot u
pub record IsLine (s : Settings) (x : Story) (u t : ℕ) (m n : Member) : Type 0 where
  pub name : n.name ≡ m.name
  pub weight : n.weight ≡ m.weight
  pub early : n.early ≡ m.early
  pub joined : n.joined ≡ m.joined
  pub same : u ≡ t → m ≡ n
  pub next : m.next ≤ n.next
  pub ran : u < t → runs s x u m ≡ true → m.next < n.next
  pub rises : (i : ℕ) → theta m i ≤ theta n i
  pub stays : (i : ℕ) → (i < m.next) ⊎ (release_of m.weight i (theta m i) ≤ u) → theta n i ≡ theta m i
  -- what ran in slot u stays too
  pub stays_run : (i : ℕ) → u < t → runs s x u m ≡ true → i ≤ m.next → theta n i ≡ theta m i
  pub departing : is_departing m ≡ true → is_departing n ≡ true

line_itself : (s : Settings) (x : Story) (t : ℕ) (m : Member) → IsLine s x t t m m
line_itself s x t m = record {
  name = refl;
  weight = refl;
  early = refl;
  joined = refl;
  same = λ _. refl;
  next = omega arith;
  ran = λ less _. absurd (omega arith);
  rises = λ i. omega arith;
  stays = λ i _. refl;
  stays_run = λ i less _ _. absurd (omega arith);
  departing = λ d. d;
}

-- over one boundary
line_next : (s : Settings) (x : Story) (t : ℕ) (m n : Member) → IsHere s x t m → Descends (suc t) (on s x t m) n → IsLine s x t (suc t) m n
line_next s x t m n at d = record {
  name = d.name;
  weight = d.weight;
  early = d.early;
  joined = d.joined;
  same = λ e. absurd (omega arith);
  next = (let more = on_next s x t m at in let same = d.next in omega arith);
  ran = λ _ e. one_more e;
  rises = d.rises;
  stays = λ i h. d.stays i (still i h);
  stays_run = λ i _ e le. d.stays i (inl (let up = one_more e in let same = d.next in omega arith));
  departing = λ e. ap is_departing (d.departing e) ∙ e;
}
  where
    one_more : runs s x t m ≡ true → m.next < n.next
    one_more e =
        let c : cond {A = ℕ} (runs s x t m) 1 0 ≡ 1 = ap (λ b. cond {A = ℕ} b 1 0) e in
        let more = on_next s x t m at in
        let same = d.next in
        omega arith

    still : (i : ℕ) → (i < m.next) ⊎ (release_of m.weight i (theta m i) ≤ t) → (i < (on s x t m).next) ⊎ (release_of m.weight i (theta m i) < suc t)
    still i (inl ran) = inl (let more = on_next s x t m at in omega arith)
    still i (inr released) = inr (omega arith)

line_on : (s : Settings) (x : Story) (u v t : ℕ) (l m n : Member) → u ≤ v → v < t → IsLine s x u v l m → IsLine s x v t m n → IsLine s x u t l n
line_on s x u v t l m n le later a b =
    elim (cases_eq u v) [
      | inl e ↦ subst (λ (p : ℕ × Member). IsLine s x p.0 t p.1 n) (λ i. (sym e i, sym (a.same e) i)) b
      | inr other ↦ (let less : u < v = omega (arith, le, other) in record {
        name = b.name ∙ a.name;
        weight = b.weight ∙ a.weight;
        early = b.early ∙ a.early;
        joined = b.joined ∙ a.joined;
        same = λ e. absurd (omega arith);
        next = (let one = a.next in let next = b.next in omega arith);
        ran = λ _ e. (let one = a.ran less e in let next = b.next in omega arith);
        rises = λ i. (let one = a.rises i in let more = b.rises i in omega arith);
        stays = λ i h. b.stays i (still i (a.stays i h) h) ∙ a.stays i h;
        stays_run = λ i _ e le. b.stays i (inl (let one = a.ran less e in omega arith)) ∙ a.stays_run i less e le;
        departing = λ e. b.departing (a.departing e);
      })
    ]
  where
    still : (i : ℕ) → theta m i ≡ theta l i → (i < l.next) ⊎ (release_of l.weight i (theta l i) ≤ u) → (i < m.next) ⊎ (release_of m.weight i (theta m i) ≤ v)
    still i same (inl ran) = inl (let one = a.next in omega arith)
    still i same (inr released) = inr (subst (λ (w : Share). release_of w i (theta m i) ≤ v) (sym a.weight) (let e = same in omega arith))

module _ (s : Settings) (x : Story) (weights : HaveWeights x) where
  -- back to each slot since it joined
  pub back_to : (t u : ℕ) (n : Member) → Among (world None s x t) n → n.joined ≤ u → u ≤ t → (m : Member) × Among (world None s x u) m × IsLine s x u t m n
  back_to zero u n h joined le = let e : 0 ≡ u = omega arith in (n, subst (λ k. Among (world None s x k) n) e h, subst (λ k. IsLine s x u k n n) (sym e) (line_itself s x u n))
  back_to (suc t) u n h joined le =
      elim (cases_eq u (suc t)) [
        | inl e ↦ (n, subst (λ k. Among (world None s x k) n) (sym e) h, subst (λ k. IsLine s x u k n n) e (line_itself s x u n))
        | inr other ↦ elim (came_from s x weights t n h) [
          | inl p ↦
              let q = back_to t u p.0 p.1 (let j = p.2.joined in omega arith) (omega (arith, other)) in
              (q.0, q.1, line_on s x u t (suc t) q.0 p.0 n (omega (arith, other)) (omega arith) q.2 (line_next s x t p.0 n (here s x weights t p.0 p.1) p.2))
          | inr new ↦ absurd (let j = new.joined in omega (arith, other))
        ]
      ]

  -- the same, of a member that is known
  pub line_of : (t u : ℕ) (m n : Member) → Among (world None s x u) m → Among (world None s x t) n → u ≤ t → n.name ≡ m.name → n.joined ≡ m.joined → IsLine s x u t m n
  line_of t u m n from to le name joined =
      let now = (here s x weights u m from).by_now in
      let p = back_to t u n to (omega arith) le in
      let same : p.0 ≡ m = same_member s x u p.0 m p.1 from (sym p.2.name ∙ name) in
      subst (λ l. IsLine s x u t l n) same p.2

  -- on to each later slot, unless it is freed by then
  pub record IsGone (u t : ℕ) (m n : Member) : Type 0 where
    pub slot : ℕ  -- in which what it ran counts still
    pub since : u < slot
    pub line : IsLine s x u slot m n
    pub sound : IsSound s.frame n
    pub freed_at : ℕ
    pub freed : n.freed_at ≡ Some freed_at
    pub by_then : freed_at ≤ t

  pub on_to : (t u : ℕ) (m : Member) → Among (world None s x u) m → u ≤ t → ((n : Member) × Among (world None s x t) n × IsLine s x u t m n) ⊎ ((n : Member) × IsGone u t m n)
  on_to zero u m h le = let e : u ≡ 0 = omega arith in inl (m, subst (λ k. Among (world None s x k) m) e h, subst (λ k. IsLine s x u k m m) e (line_itself s x u m))
  on_to (suc t) u m h le =
      elim (cases_eq u (suc t)) [
        | inl e ↦ inl (m, subst (λ k. Among (world None s x k) m) e h, subst (λ k. IsLine s x u k m m) e (line_itself s x u m))
        | inr other ↦ elim (on_to t u m h (omega (arith, other))) [
          | inr (n, gone) ↦ inr (n, record { slot = gone.slot; since = gone.since; line = gone.line; sound = gone.sound; freed_at = gone.freed_at; freed = gone.freed; by_then = (let b = gone.by_then in omega arith) })
          | inl (n, i, line) ↦
              let on_from = λ (l : Member) (d : Descends (suc t) (on s x t n) l). line_on s x u t (suc t) m n l (omega (arith, other)) (omega arith) line (line_next s x t n l (here s x weights t n i) d) in
              elim (goes_to s x weights t n i) [
                | inl p ↦ inl (p.0, p.1, on_from p.0 p.2)
                | inr p ↦ inr (p.0, record { slot = suc t; since = omega (arith, other); line = on_from p.0 p.1.descends; sound = p.1.sound; freed_at = p.1.slot; freed = p.1.freed; by_then = p.1.by_now })
              ]
        ]
      ]

-- ---- among a list, by a test or not

module _ {A : Type 0} (same : A → A → Bool) (exact : (a b : A) → (same a b ≡ true) ↔ (a ≡ b)) where
  pub test_among : (xs : List A) (x : A) → Among xs x → is_among same xs x ≡ true
  test_among xs x h = any_from_among (same x) xs x h ((exact x x).1 refl)

  pub among_test : (xs : List A) (x : A) → is_among same xs x ≡ true → Among xs x
  among_test xs x h = let p = any_among (same x) xs h in subst (λ y. Among xs y) (sym ((exact x p.0).0 p.2)) p.1

-- ---- tasks

abbrev pub task_of : Member → Task
task_of m = record { name = m.name; joined = m.joined }

abbrev pub subtask_of : Member → Subtask
subtask_of m = record { task = task_of m; index = m.next }

abbrev pub is_task : Task → Member → Bool
is_task a m = same_task (task_of m) a

-- the member that is a task, if one is
pub find_task : (a : Task) (ms : List Member)
    → ((m : Member) × (find (is_task a) ms ≡ Some m) × Among ms m × (task_of m ≡ a)) ⊎ ((find (is_task a) ms ≡ None) × ((m : Member) → Among ms m → task_of m ≡ a → ⊥))
find_task a [] = inr (refl, λ m h e. h)
find_task a (m ∷ ms) = elim (cases_Bool (is_task a m)) [
  | inl is ↦ inl (m, ap (λ b. cond b (Some m) (find (is_task a) ms)) is, inl refl, (task_exact (task_of m) a).0 is)
  | inr not_it ↦ grind (arith, find_task a ms, here, task_exact)
]

-- the task as it is in the last slot below n that has it
abbrev pub or_else : Option Member → Option Member → Option Member
or_else (Some m) rest = Some m
or_else None rest = rest

abbrev pub last_of : Settings → Story → ℕ → Task → Option Member
last_of s x zero a = None
last_of s x (suc n) a = or_else (find (is_task a) (world None s x n)) (last_of s x n a)

abbrev pub weight_in : Option Member → Share
weight_in None = record { cost = 1; period = 1 }
weight_in (Some m) = m.weight

abbrev pub offset_in : Task → Option Member → ℕ → ℕ
offset_in a None i = a.joined
offset_in a (Some m) i = theta m i

abbrev pub joined_in : Option Member → ℕ
joined_in None = 0
joined_in (Some m) = m.joined

abbrev pub row_of : List Member → Key → Subtask
row_of members k = record { task = record { name = k.name; joined = joined_in (member_named members k.name) }; index = index_of (member_named members k.name) }

abbrev pub is_running : Task → Member → Bool
is_running a m = is_task a m && not (is_departing m)

abbrev pub as_run : Settings → Story → ℕ → Schedule
as_run s x n = record {
  processors = s.processors;
  frame = s.frame;
  weight = λ a. weight_in (last_of s x n a);
  offset = λ a i. offset_in a (last_of s x n a) i;
  table = λ t. map (row_of (world None s x t)) (keys_at s x t);
  members = λ t. map task_of (world None s x t);
  is_active = λ a t. list_any (is_running a) (world None s x t);
}

-- ---- rows

row_is : (s : Settings) (x : Story) (t : ℕ) (m : Member) → Among (world None s x t) m → row_of (world None s x t) (next_key m) ≡ subtask_of m
row_is s x t m h =
    ap (λ (o : Option Member). record { task = record { name = m.name; joined = joined_in o }; index = index_of o }) (found_own (world None s x t) (named_world s x t) m h)

pub row_member : (s : Settings) (x : Story) (n t : ℕ) (z : Subtask) → is_row (as_run s x n) t z ≡ true → (m : Member) × Among (world None s x t) m × (runs s x t m ≡ true) × (z ≡ subtask_of m)
row_member s x n t z row =
    let p = among_map (row_of (world None s x t)) (keys_at s x t) z (among_test same_subtask subtask_exact (map (row_of (world None s x t)) (keys_at s x t)) z row) in
    grind (arith, chosen_member, named_world, chosen_runs, row_is)

pub member_row : (s : Settings) (x : Story) (n t : ℕ) (m : Member) → Among (world None s x t) m → runs s x t m ≡ true → is_row (as_run s x n) t (subtask_of m) ≡ true
member_row s x n t m h named =
    test_among same_subtask subtask_exact (map (row_of (world None s x t)) (keys_at s x t)) (subtask_of m)
    (subst (λ z. Among (map (row_of (world None s x t)) (keys_at s x t)) z) (row_is s x t m h) (map_among (row_of (world None s x t)) (keys_at s x t) (next_key m) (runs_chosen s x t m h named).1))

once_named : (zs : List Subtask) → NamesApart (λ (z : Subtask). z.task.name) zs → NoneTwice same_subtask zs
once_named [] apart = tt
once_named (z ∷ zs) apart = (
  false_from_ne_true (is_among same_subtask zs z) (λ twice.
      let apart_from = apart_head (λ (y : Subtask). y.task.name) z zs apart in
      let other = among_all (λ (y : Subtask). name_eq z.task.name y.task.name ≡ false) zs apart_from z (among_test same_subtask subtask_exact zs z twice) in
      true≢false (sym (name_itself z.task.name) ∙ other)),
  once_named zs (apart_tail (λ (y : Subtask). y.task.name) z zs apart),
)

pub rows_apart : (s : Settings) (x : Story) (n t : ℕ) → NoneTwice same_subtask ((as_run s x n).table t)
rows_apart s x n t = once_named ((as_run s x n).table t)
    (apart_map (λ (k : Key). k.name) (λ (z : Subtask). z.task.name) (row_of (world None s x t)) (λ k. refl) (keys_at s x t) (first_names s.processors (eligible t (world None s x t)) (keys_apart s x t)))

module _ (s : Settings) (x : Story) (weights : HaveWeights x) where
  -- ---- in the end

  last_line : (n u : ℕ) (m : Member) → Among (world None s x u) m → u < n → (l : Member) × (v : ℕ) × (last_of s x n (task_of m) ≡ Some l) × Among (world None s x v) l × (u ≤ v) × IsLine s x u v m l
  last_line zero u m h less = absurd (omega arith)
  last_line (suc n) u m h less = elim (find_task (task_of m) (world None s x n)) [
    | inl p ↦ (
      p.0,
      n,
      ap (λ o. or_else o (last_of s x n (task_of m))) p.1,
      p.2,
      omega arith,
      line_of s x weights n u m p.0 h p.2 (omega arith) (ap (λ (a : Task). a.name) p.3) (ap (λ (a : Task). a.joined) p.3),
    )
    | inr none ↦ grind (arith, last_line n u m h, cases_eq)
  ]

  -- the weight, and the offsets that don't change any more, are those that stand in the end
  pub record IsFinal (n u : ℕ) (m : Member) : Type 0 where
    pub weight : (as_run s x n).weight (task_of m) ≡ m.weight
    pub rises : (i : ℕ) → theta m i ≤ (as_run s x n).offset (task_of m) i
    pub stays : (i : ℕ) → (i < m.next) ⊎ (release_of m.weight i (theta m i) ≤ u) → (as_run s x n).offset (task_of m) i ≡ theta m i
    pub stays_run : (i : ℕ) → runs s x u m ≡ true → i ≤ m.next → (as_run s x n).offset (task_of m) i ≡ theta m i

  pub final : (n u : ℕ) (m : Member) → Among (world None s x u) m → u < n → IsFinal n u m
  final n u m h less =
      let p = last_line n u m h less in
      by p.0 p.1 p.2 p.3 p.4 p.5
    where
      by : (l : Member) (v : ℕ) → last_of s x n (task_of m) ≡ Some l → Among (world None s x v) l → u ≤ v → IsLine s x u v m l → IsFinal n u m
      by l v e there le line = record {
        weight = ap weight_in e ∙ line.weight;
        rises = λ i. (let at = offset i in let up = line.rises i in omega arith);
        stays = λ i frozen. offset i ∙ line.stays i frozen;
        stays_run = λ i named low. grind (arith, cases_eq, same_member);
      }
        where
          offset : (i : ℕ) → (as_run s x n).offset (task_of m) i ≡ theta l i
          offset i = ap (λ (o : Option Member). offset_in (task_of m) o i) e

  -- ---- what ran

  pub next_counted : (t : ℕ) (m : Member) → Among (world None s x t) m → 1 ≤ m.next
  next_counted t m h = let e = (here s x weights t m h).next in omega arith

  -- all subtasks before the next one ran
  pub all_before_ran : (n t : ℕ) (m : Member) (i : ℕ) → Among (world None s x t) m → 1 ≤ i → i < m.next → has_run (as_run s x n) (record { task = task_of m; index = i }) t ≡ true
  all_before_ran n zero m i h first less = absurd (
      let at = here s x weights 0 m h in
      grind (arith, next_new))
  all_before_ran n (suc t) m i h first less =
      elim (came_from s x weights t m h) [
        | inr new ↦ absurd (let one = new.next in omega arith)
        | inl p ↦
            let l = p.0 in
            let task_is : task_of l ≡ task_of m = λ j. record { name = sym p.2.name j; joined = sym p.2.joined j } in
            let more = on_next s x t l (here s x weights t l p.1) in
            let next = p.2.next in
            subst (λ a. has_run (as_run s x n) (record { task = a; index = i }) (suc t) ≡ true) task_is
            (elim (cases_lt i l.next) [
              | inl before ↦ ran_more (as_run s x n) (record { task = task_of l; index = i }) t (suc t) (omega arith) (all_before_ran n t l i p.1 first before)
              | inr last ↦ elim (cases_Bool (runs s x t l)) [
                | inl e ↦
                    let c : cond {A = ℕ} (runs s x t l) 1 0 ≡ 1 = ap (λ b. cond {A = ℕ} b 1 0) e in
                    let at : l.next ≡ i = omega arith in
                    ran_by (as_run s x n) (record { task = task_of l; index = i }) t (suc t) (omega arith)
                    (subst (λ k. is_row (as_run s x n) t (record { task = task_of l; index = k }) ≡ true) at (member_row s x n t l p.1 e))
                | inr e ↦ absurd (let c : cond {A = ℕ} (runs s x t l) 1 0 ≡ 0 = ap (λ b. cond {A = ℕ} b 1 0) e in omega arith)
              ]
            ])
      ]

  -- and none from the next one on
  pub none_after_ran : (n t : ℕ) (m : Member) (i : ℕ) → Among (world None s x t) m → m.next ≤ i → has_run (as_run s x n) (record { task = task_of m; index = i }) t ≡ true → ⊥
  none_after_ran n t m i h le ran =
      let p = ran_at (as_run s x n) (record { task = task_of m; index = i }) t ran in
      let q = row_member s x n p.0 (record { task = task_of m; index = i }) p.2 in
      let less = p.1 in
      let name = ap (λ (z : Subtask). z.task.name) q.3 in
      let joined = ap (λ (z : Subtask). z.task.joined) q.3 in
      let index : i ≡ q.0.next = ap (λ (z : Subtask). z.index) q.3 in
      let line = line_of s x weights t p.0 q.0 m q.1 h (omega arith) name joined in
      grind arith
