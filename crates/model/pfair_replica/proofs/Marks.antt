-- Sound beginnings and their marks, below which replicas that agree say the same.
use Rattle.pfair_replica.proofs.Common.{leb-true, le-leb, none-some, cond_some, One, Held, below_itself, below_trans, below_antisym, join_first, join_second, join_least, join_comm, join_assoc, join_idem, Logged, entry_eq, entry_exact, goes_on, run_from, last_floor, IsLeastJoin, IsRun, IsLongestRun, ℕ, zero, suc, ◌+◌, ◌-◌, ◌≤◌, ◌≡◌, refl, ap, ◌∙◌, arith, List, [], ◌∷◌, ◌++◌, length, Some, Flat, Replica, Below, Untorn, sound_beginning, IsReadByNumber, BeginningsGrow, ◌<◌, inl, inr, slice_get, ne_eqb, IsStamped, Among, map_among, flat_same, IsReplica, Agree, mark, frontier, numbers_below, said_by, said_in, said, sym, subst, min, map, flat_map, fold, cases_eq, cases_lt, map-append, IsLeastMark, ⊎_elim, ◌⊎◌, add-one, Torn, held_join, IsAgreement}
use Rattle.std.proofs.lemmas.List.Sums.{fold-append}

-- The laws of the join; and runs: that a sound beginning is the longest one, and how runs go on.

pub least_join : IsLeastJoin
least_join = record {
  itself = λ x k n. below_itself (x.at k n);
  trans = λ x y z f g k n. below_trans (x.at k n) (y.at k n) (z.at k n) (f k n) (g k n);
  antisym = λ x y f g i k n. below_antisym entry_eq entry_exact (x.at k n) (y.at k n) (f k n) (g k n) i;
  first = λ x y k n. join_first entry_eq entry_exact (x.at k n) (y.at k n);
  second = λ x y k n. join_second entry_eq entry_exact (x.at k n) (y.at k n);
  least = λ x y z f g k n. join_least entry_eq entry_exact (x.at k n) (y.at k n) (z.at k n) (f k n) (g k n);
  comm = λ x y i k n. join_comm entry_eq entry_exact (x.at k n) (y.at k n) i;
  assoc = λ x y z i. record { processors = x.processors; capacity = x.capacity; at = λ k n. join_assoc entry_eq entry_exact (x.at k n) (y.at k n) (z.at k n) i };
  idem = λ x i. record { processors = x.processors; capacity = x.capacity; at = λ k n. join_idem entry_eq entry_exact (x.at k n) i };
}

-- the entry that goes on a run is held, and its floor isn't lower
going : (c : Held Logged) (floor : ℕ) (e : Logged) → goes_on c floor ≡ Some e → (c ≡ Some (One e)) × (floor ≤ e.floor)
going c floor e on = grind (arith, none-some, cond_some, leb-true)

module _ (row : ℕ → Held Logged) where
  pub run_is_run : (left n floor : ℕ) → IsRun row n floor (run_from row left n floor)
  run_is_run zero n floor = tt
  run_is_run (suc left) n floor = grind (arith, going, run_is_run left (suc n))

  -- a run has no more entries than are left
  pub run_room : (left n floor : ℕ) → length (run_from row left n floor) ≤ left
  run_room zero n floor = omega arith
  run_room (suc left) n floor = grind (arith, run_room left (suc n))

  -- if no entry goes on, the run ends
  pub run_ends : (left n floor : ℕ) → ((e : Logged) → row n ≡ Some (One e) → floor ≤ e.floor → ⊥) → run_from row left n floor ≡ []
  run_ends left n floor none = grind (arith, going)

  -- one entry more
  pub run_more : (es : List Logged) (n floor m : ℕ) (e : Logged) → IsRun row n floor es → m ≡ n + length es → row m ≡ Some (One e) → last_floor floor es ≤ e.floor → IsRun row n floor (es ++ e ∷ [])
  run_more [] n floor m e run at held on = (ap row (let here : n ≡ m = omega arith in here) ∙ held, on, tt)
  run_more (d ∷ es) n floor m e run at held on = (run.0, run.1, run_more es (suc n) d.floor m e run.2 (omega (arith, at)) held on)

  -- a run that has room begins the longest one, which goes on from where it ends
  pub run_begins : (es : List Logged) (n floor left total m : ℕ) → IsRun row n floor es → total ≡ length es + left → m ≡ n + length es → es ++ run_from row left m (last_floor floor es) ≡ run_from row total n floor
  run_begins [] n floor left total m run sum at = grind arith
  run_begins (e ∷ es) n floor left zero m run sum at = absurd (omega arith)
  run_begins (e ∷ es) n floor left (suc total) m run sum at = grind (arith, le-leb, run_begins es (suc n) e.floor left total m run.2)

  -- it has room if the row holds no later number
  run_short : (last : ℕ) → ((n : ℕ) (e : Logged) → row n ≡ Some (One e) → n ≤ last) → (es : List Logged) (n floor : ℕ) → n ≤ suc last → IsRun row n floor es → n + length es ≤ suc last
  run_short last within [] n floor room run = omega arith
  run_short last within (e ∷ es) n floor room run = grind (arith, run_short last within es (suc n) e.floor)

  -- a run's floors never fall
  run_rises : (es : List Logged) (n floor : ℕ) → IsRun row n floor es → floor ≤ last_floor floor es
  run_rises [] n floor run = omega arith
  run_rises (e ∷ es) n floor run = let low = run.1 in let more = run_rises es (suc n) e.floor run.2 in omega (arith, low, more)

  pub longer_rises : (es rest : List Logged) (n floor : ℕ) → IsRun row n floor (es ++ rest) → last_floor floor es ≤ last_floor floor (es ++ rest)
  longer_rises [] rest n floor run = run_rises rest n floor run
  longer_rises (e ∷ es) rest n floor run = longer_rises es rest (suc n) e.floor run.2

pub last_more : (es : List Logged) (floor : ℕ) (e : Logged) → last_floor floor (es ++ e ∷ []) ≡ e.floor
last_more [] floor e = refl
last_more (d ∷ es) floor e = last_more es d.floor e

pub longest_run : IsLongestRun
longest_run x r k = (
  run_is_run (x.at k) x.capacity 1 0,
  λ es run.
      (let short = run_short (x.at k) x.capacity (λ n e p. (r.in_range k n (One e) p).2) es 1 0 (omega arith) run in
      let left = x.capacity - length es in
      (run_from (x.at k) left (1 + length es) (last_floor 0 es), run_begins (x.at k) es 1 0 left x.capacity (1 + length es) run (omega (arith, short)) refl)),
)

-- The entries of sound beginnings, read by their numbers, and kept by a replica that holds more.

entry_in : (row : ℕ → Held Logged) (es : List Logged) (n floor i m : ℕ) (e : Logged) → m ≡ n + i → IsRun row n floor es → slice_get es i ≡ Some e → row m ≡ Some (One e)
entry_in row [] n floor i m e at run is = absurd (cc)
entry_in row (d ∷ es) n floor zero m e at run is = (let here : m ≡ n = omega (arith, at) in let one : d ≡ e = cc in ap row here ∙ run.0 ∙ ap (λ l. Some (One l)) one)
entry_in row (d ∷ es) n floor (suc i) m e at run is = entry_in row es (suc n) d.floor i m e (omega (arith, at)) run.2 is

pub read_by_number : IsReadByNumber
read_by_number = record {
  entry = λ x k i e is. entry_in (x.at k) (sound_beginning x k) 1 0 i (i + 1) e (omega arith) (run_is_run (x.at k) x.capacity 1 0) is;
  within = λ x k. run_room (x.at k) x.capacity 1 0;
}

pub some_at : {A : Type 0} (xs : List A) (i : ℕ) → i < length xs → (x : A) × (slice_get xs i ≡ Some x)
some_at [] i h = absurd (omega (arith, h))
some_at (x ∷ xs) zero h = (x, refl)
some_at (x ∷ xs) (suc i) h = some_at xs i (omega (arith, h))

-- the entry at a place of a sound beginning is held
pub entry_there : (x : Replica) (k i : ℕ) → i < length (sound_beginning x k) → (e : Logged) × (slice_get (sound_beginning x k) i ≡ Some e) × (x.at k (i + 1) ≡ Some (One e))
entry_there x k i h = (let e = some_at (sound_beginning x k) i h in (e.0, e.1, read_by_number.entry x k i e.0 e.1))

pub entry_is : (x : Replica) (k i : ℕ) (e : Logged) → i < length (sound_beginning x k) → x.at k (i + 1) ≡ Some (One e) → slice_get (sound_beginning x k) i ≡ Some e
entry_is x k i e h held =
    let there = entry_there x k i h in
    grind arith

-- what is below something that has nothing torn is there too, unchanged
pub held_within : (x y : Replica) → Below x y → Untorn y → (k n : ℕ) (c : Flat Logged) → x.at k n ≡ Some c → y.at k n ≡ Some c
held_within x y below untorn k n c e = elim (below k n c e) [ inl h ↦ h | inr h ↦ absurd (untorn k n h) ]

-- a run whose entries are kept stays one
pub kept_run : (row now : ℕ → Held Logged) (es : List Logged) (n floor : ℕ) → ((m : ℕ) (e : Logged) → n ≤ m → m < n + length es → row m ≡ Some (One e) → now m ≡ Some (One e)) → IsRun row n floor es → IsRun now n floor es
kept_run row now [] n floor kept run = tt
kept_run row now (e ∷ es) n floor kept run = (kept n e (omega arith) (omega arith) run.0, run.1, kept_run row now es (suc n) e.floor (λ m f low high. kept m f (omega arith) (omega arith)) run.2)

pub beginnings_grow : BeginningsGrow
beginnings_grow x y r below untorn k =
    (longest_run y r k).1 (sound_beginning x k)
    (kept_run (x.at k) (y.at k) (sound_beginning x k) 1 0 (λ m e low high. held_within x y below untorn k m (One e)) (run_is_run (x.at k) x.capacity 1 0))

-- Below both frontiers, replicas that agree say the same; and a replica that holds more has marks that are no lower.

-- ---- agreement at a key

pub same_at : (x y : Replica) → Agree x y → (k n : ℕ) (e f : Logged) → x.at k n ≡ Some (One e) → y.at k n ≡ Some (One f) → e ≡ f
same_at x y agree k n e f p q = grind (arith, entry_exact)

-- ---- runs

-- an entry with a later stamp says nothing at t
said_late : (t k n : ℕ) (e : Logged) → IsStamped e → t < e.floor → said_by t k n e.said ≡ []
said_late t k n e stamped late = grind (arith, ne_eqb)

-- each entry of a row is stamped at or after its floor
abbrev Stamped : (ℕ → Held Logged) → Type 0
Stamped row = (n : ℕ) (e : Logged) → row n ≡ Some (One e) → IsStamped e

-- a run whose floors are past t says nothing at t
late_run : (row : ℕ → Held Logged) → Stamped row → (t k : ℕ) (es : List Logged) (n floor : ℕ) → IsRun row n floor es → t < floor → said_in t k n es ≡ []
late_run row stamped t k [] n floor run late = refl
late_run row stamped t k (e ∷ es) n floor run late = grind (arith, said_late, late_run row stamped t k es (suc n) e.floor run.2)

-- two rows whose entries are the same, if both hold one
abbrev Alike : (ℕ → Held Logged) → (ℕ → Held Logged) → Type 0
Alike r q = (n : ℕ) (e f : Logged) → r n ≡ Some (One e) → q n ≡ Some (One f) → e ≡ f

-- the announcements at t, below the ends of both runs
same_run : (r q : ℕ → Held Logged) → Stamped r → Stamped q → Alike r q → (t k : ℕ) (es fs : List Logged) (n floor : ℕ) → IsRun r n floor es → IsRun q n floor fs → t < last_floor floor es → t < last_floor floor fs → said_in t k n es ≡ said_in t k n fs
same_run r q sr sq alike t k [] fs n floor re rf h g = sym (late_run q sq t k fs n floor rf h)
same_run r q sr sq alike t k (e ∷ es) [] n floor re rf h g = late_run r sr t k (e ∷ es) n floor re g
same_run r q sr sq alike t k (e ∷ es) (f ∷ fs) n floor re rf h g = grind (arith, same_run r q sr sq alike t k es fs (suc n) e.floor re.2)

-- ---- the frontier

-- the least of some numbers is at most each
below_least : (t a : ℕ) (xs : List ℕ) → t < fold min a xs → (t < a) × ((x : ℕ) → Among xs x → t < x)
below_least t a [] h = (h, λ x i. absurd i)
below_least t a (x ∷ xs) h = grind (arith, below_least t (min a x) xs h)

least_le : {A : Type 0} (f g : A → ℕ) (a b : ℕ) (xs : List A) → a ≤ b → ((x : A) → f x ≤ g x) → fold min a (map f xs) ≤ fold min b (map g xs)
least_le f g a b [] le h = le
least_le f g a b (x ∷ xs) le h = least_le f g (min a (f x)) (min b (g x)) xs (let here = h x in omega (arith, le, here)) h

-- below both frontiers, replicas of as many processors that agree say the same
pub same_said : (x y : Replica) → IsReplica x → IsReplica y → x.processors ≡ y.processors → Agree x y → (t : ℕ) → t < frontier x → t < frontier y → said x t ≡ said y t
same_said x y rx ry same agree t h g =
    flat_same (λ k. said_in t k 1 (sound_beginning x k)) (λ k. said_in t k 1 (sound_beginning y k)) (numbers_below x.processors)
    (λ k i. same_run (x.at k) (y.at k) (λ n e p. (rx.stamped k n e p).stamped) (λ n e p. (ry.stamped k n e p).stamped) (same_at x y agree k) t k (sound_beginning x k) (sound_beginning y k) 1 0
    (run_is_run (x.at k) x.capacity 1 0) (run_is_run (y.at k) y.capacity 1 0)
    ((below_least t (mark x 0) (map (mark x) (numbers_below x.processors)) h).1 (mark x k) (map_among (mark x) (numbers_below x.processors) k i))
    ((below_least t (mark y 0) (map (mark y) (numbers_below y.processors)) g).1 (mark y k) (map_among (mark y) (numbers_below y.processors) k (subst (λ m. Among (numbers_below m) k) same i))))
    ∙ ap (λ m. flat_map (λ k. said_in t k 1 (sound_beginning y k)) (numbers_below m)) same

-- ---- a replica that holds more

pub mark_le : (x y : Replica) → IsReplica y → Below x y → Untorn y → (k : ℕ) → mark x k ≤ mark y k
mark_le x y ry below untorn k =
    let grown = beginnings_grow x y ry below untorn k in
    subst (λ (es : List Logged). mark x k ≤ last_floor 0 es) grown.1
    (longer_rises (y.at k) (sound_beginning x k) grown.0 1 0 (subst (IsRun (y.at k) 1 0) (sym grown.1) (run_is_run (y.at k) y.capacity 1 0)))

pub frontier_le : (x y : Replica) → IsReplica y → x.processors ≡ y.processors → Below x y → Untorn y → frontier x ≤ frontier y
frontier_le x y ry same below untorn = grind (arith, least_le, mark_le)

-- if one is below the other, and that has nothing torn, they agree
pub below_agree : (x y : Replica) → Below x y → Untorn y → Agree x y
below_agree x y below untorn k n = grind (arith, held_within, entry_exact)

-- The frontier is the least of the marks.

-- one more of the numbers of which the least is sought
least_more : (f : ℕ → ℕ) (a k : ℕ) → fold min a (map f (numbers_below (k + 1))) ≡ min (fold min a (map f (numbers_below k))) (f k)
least_more f a k = grind (arith, add-one, map-append, fold-append)

module _ (f : ℕ → ℕ) (a : ℕ) where
  least_next : (m : ℕ) → fold min a (map f (numbers_below (suc m))) ≡ min (fold min a (map f (numbers_below m))) (f m)
  least_next m = subst (λ (q : ℕ). fold min a (map f (numbers_below q)) ≡ min (fold min a (map f (numbers_below m))) (f m)) (add-one m) (least_more f a m)

  at_most_each : (m k : ℕ) → k < m → fold min a (map f (numbers_below m)) ≤ f k
  at_most_each zero k h = absurd (omega (arith, h))
  at_most_each (suc m) k h = grind (arith, least_next, cases_eq, at_most_each m k)

  one_of_them : (m : ℕ) → (fold min a (map f (numbers_below m)) ≡ a) ⊎ ((k : ℕ) × (k < m) × (fold min a (map f (numbers_below m)) ≡ f k))
  one_of_them zero = inl refl
  one_of_them (suc m) =
      let next = least_next m in
      elim (cases_lt (f m) (fold min a (map f (numbers_below m)))) [
        | inl lower ↦ inr (m, omega arith, omega (arith, next, lower))
        | inr higher ↦ grind (arith, one_of_them m, fold)
      ]

pub least_mark : IsLeastMark
least_mark = record {
  below = λ x k h. at_most_each (mark x) (mark x 0) x.processors k h;
  reached = λ x some. ⊎_elim (λ first. (0, omega (arith, some), first)) (λ k. k) (one_of_them (mark x) (mark x 0) x.processors);
}

-- When replicas agree.

torn_first : (b : Held Logged) → held_join entry_eq (Some Torn) b ≡ Some Torn
torn_first b = grind arith

pub agreement : IsAgreement
agreement x y = grind (arith, torn_first, same_at, entry_exact)
