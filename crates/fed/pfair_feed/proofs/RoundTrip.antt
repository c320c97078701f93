-- Lines that have the rows of a script leave the script.
use Rattle.pfair_feed.proofs.Common.{appends-more, AllByRecursion, and_parts, leb-true, ltb-true, Logged, Below, Replica, empty_replica, run_of, Course, run, Settings, AreTakenFrom, IsTakenFrom, AreAmong, BringsNothing, HasScheduleOf, Among, IsPlaced, IsScript, Placed, placed_in, replica_with_room, row_of, rows_of, HaveTheRows, line, Output, header_of, Appends, replica_of, news, ℕ, ◌+◌, ◌<◌, ◌≤◌, ◌≡◌, inl, inr, refl, sym, ap, subst, ◌∙◌, arith, List, [], ◌∷◌, map, Some, None, ◌++◌, ◌⊎◌, One, taken, LoggedRun, capacity_of, contents_of, replica_of_logs, entry_eq, entry_exact, text_of, HeldBelow, below_antisym, EachEntryHasItsRow, EventsLeaveTheLeast, IsBroughtBelow, EntriesAreTheirRows, EntriesGiveTheirSchedule, OrderIsNothing, WholeText, FedEntriesGiveTheirText, all_among, among_all, among_map, map_among}
use Rattle.pfair_feed.proofs.ScriptRows.{all_placed, at_logs, entries_are_lines, in_logs, schedule_with_room, lines_are_one}
use Rattle.pfair_table.specs.declared.run.Event.{Event}
use Rattle.pfair_table.specs.declared.run.Event.TheVariants.{Take}
use Rattle.pfair_feed.proofs.Going.{rows_go_on, whole_texts}
use Rattle.pfair_admission.proofs.MemberLists.{each, each_map}

-- the contents after some entries
abbrev pub held_after : Replica → List Placed → Replica
held_after x [] = x
held_after x (e ∷ es) = held_after (taken x e.0 e.1 e.2) es

pub taken_all : (x y : Replica) (es : List Placed) → AllByRecursion IsPlaced es → AreTakenFrom (map row_of es) x y → y ≡ held_after x es
taken_all x y [] all t = t
taken_all x y (e ∷ es) all t = taken_all t.0 y es all.1 t.2 ∙ ap (λ (r : Replica). held_after r es) (t.1.row e.0 e.1 e.2 all.0 refl)

abbrev pub event_of : Placed → Event
event_of e = Take e.0 e.1 e.2

pub run_held : (s : Settings) (c : Course) (es : List Placed) → (run s c (map event_of es)).replica ≡ held_after c.replica es
run_held s c [] = refl
run_held s c (e ∷ es) = run_held s (record c { replica = taken c.replica e.0 e.1 e.2 }) es

-- ---- lists of the same entries

among_each : (P : Placed → Type 0) (es fs : List Placed) → AllByRecursion P fs → AreAmong es fs → AllByRecursion P es
among_each P es fs all among = each (λ e. Among fs e) P (λ e i. among_all P fs all e i) es among

pub all_from_map : (P : Event → Type 0) (es : List Placed) → AllByRecursion P (map event_of es) → AllByRecursion (λ e. P (event_of e)) es
all_from_map P [] a = tt
all_from_map P (e ∷ es) a = (a.0, all_from_map P es a.1)

-- ---- what some entries leave is the least that has them

module _ (least : EventsLeaveTheLeast) (s : Settings) (capacity : ℕ) (es : List Placed) where
  pub brought_all : AllByRecursion (λ e. IsBroughtBelow s capacity (held_after (empty_replica s.processors capacity) es) (event_of e)) es
  brought_all =
      subst (λ (x : Replica). AllByRecursion (λ e. IsBroughtBelow s capacity x (event_of e)) es) (run_held s _ es)
      (all_from_map (IsBroughtBelow s capacity (run_of s capacity (map event_of es)).replica) es (least None s capacity (map event_of es)).0)

  pub below_all : (y : Replica) → AllByRecursion (λ e. IsBroughtBelow s capacity y (event_of e)) es → Below (held_after (empty_replica s.processors capacity) es) y
  below_all y brought =
      subst (λ (x : Replica). Below x y) (run_held s _ es) ((least None s capacity (map event_of es)).1 y (each_map (λ e. IsBroughtBelow s capacity y (event_of e)) (IsBroughtBelow s capacity y) event_of (λ e b. b) es brought))

below_after : EventsLeaveTheLeast → (s : Settings) (capacity : ℕ) (es fs : List Placed) → AreAmong es fs
    → Below (held_after (empty_replica s.processors capacity) es) (held_after (empty_replica s.processors capacity) fs)
below_after least s capacity es fs among =
    let y : Replica = held_after (empty_replica s.processors capacity) fs in
    below_all least s capacity es y (among_each (λ e. IsBroughtBelow s capacity y (event_of e)) es fs (brought_all least s capacity fs) among)

-- ---- the law

same_shape : (x : Replica) (k n : ℕ) (e : _) → ((taken x k n e).processors ≡ x.processors) × ((taken x k n e).capacity ≡ x.capacity)
same_shape x k n e = grind arith

pub shape_after : (x : Replica) (es : List Placed) → ((held_after x es).processors ≡ x.processors) × ((held_after x es).capacity ≡ x.capacity)
shape_after x [] = (refl, refl)
shape_after x (e ∷ es) = grind (arith, same_shape, shape_after (taken x e.0 e.1 e.2) es)

pub same_replica : (x y : Replica) → x.processors ≡ y.processors → x.capacity ≡ y.capacity → Below x y → Below y x → x ≡ y
same_replica x y p c below above = λ i. record { processors = p i; capacity = c i; at = λ k n. below_antisym entry_eq entry_exact (x.at k n) (y.at k n) (below k n) (above k n) i }

pub order_is_nothing : EventsLeaveTheLeast → OrderIsNothing
order_is_nothing least processors capacity es fs y z all_es all_fs es_fs fs_es ty tz =
    let s : Settings = record { processors = processors; frame = 1; slots = 1 } in
    let start : Replica = empty_replica processors capacity in
    let left = shape_after (empty_replica processors capacity) es in
    let right = shape_after (empty_replica processors capacity) fs in
    taken_all (empty_replica processors capacity) y es all_es ty
    ∙ same_replica (held_after (empty_replica processors capacity) es) (held_after (empty_replica processors capacity) fs) (left.0 ∙ sym right.0) (left.1 ∙ sym right.1)
    (below_after least s capacity es fs es_fs) (below_after least s capacity fs es fs_es)
    ∙ sym (taken_all (empty_replica processors capacity) z fs all_fs tz)

-- ---- the whole text

pub text_is_whole : WholeText
text_is_whole bytes rest f g old new first none fed = grind (arith, whole_texts)

-- ---- entries that are those of a script

module _ (least : EventsLeaveTheLeast) (run : LoggedRun) (script : IsScript run) (capacity : ℕ) (room : capacity_of run.logs ≤ capacity) where
  abbrev all_entries : List Placed
  all_entries = placed_in 0 run.logs

  -- a key of the script is one of its replica's
  pub keyed : (e : Placed) → Among all_entries e → (e.0 < run.settings.processors) × (1 ≤ e.1) × (e.1 ≤ capacity)
  keyed e i =
      let h = in_logs 0 run.logs e.0 e.1 e.2 i in
      grind arith

  at_key : (e : Placed) → Among all_entries e → contents_of run.logs e.0 e.1 ≡ Some (One e.2)
  at_key e i =
      let h = in_logs 0 run.logs e.0 e.1 e.2 i in
      grind arith

  held_there : (es : List Placed) → AreAmong es all_entries → AreAmong all_entries es → held_after (empty_replica run.settings.processors capacity) es ≡ replica_with_room capacity run
  held_there es es_all all_es =
      let y = held_after (empty_replica run.settings.processors capacity) es in
      let shape = shape_after (empty_replica run.settings.processors capacity) es in
      same_replica y (replica_with_room capacity run) (shape.0 ∙ sym script.logged.one_each) shape.1
      (below_all least run.settings capacity es (replica_with_room capacity run)
      (among_each (λ e. IsBroughtBelow run.settings capacity (replica_with_room capacity run) (event_of e)) es all_entries
      (all_among (λ e. IsBroughtBelow run.settings capacity (replica_with_room capacity run) (event_of e)) all_entries (λ e i. above e i)) es_all))
      (λ k n. below k n)
    where
      above : (e : Placed) → Among all_entries e → e.0 < run.settings.processors → 1 ≤ e.1 → e.1 ≤ capacity → HeldBelow (Some (One e.2)) (contents_of run.logs e.0 e.1)
      above e i k one many c same = inl (at_key e i ∙ same)

      below : (k n : ℕ) → HeldBelow (contents_of run.logs k n) ((held_after (empty_replica run.settings.processors capacity) es).at k n)
      below k n = elim (at_logs 0 run.logs k n) [
        | inl none ↦ (λ c some. absurd (let e : None ≡ Some c = sym none ∙ some in cc e))
        | inr some ↦
            (let e : Placed = (k, n, some.0) in
            let here : Among all_entries e = subst (λ (j : ℕ). Among all_entries (j, n, some.0)) (let j_is : 0 + k ≡ k = omega arith in j_is) some.5 in
            let key = keyed e here in
            let brought = among_all (λ f. IsBroughtBelow run.settings capacity (held_after (empty_replica run.settings.processors capacity) es) (event_of f)) es (brought_all least run.settings capacity es) e
            (among_all (λ f. Among es f) all_entries all_es e here) in
            subst (λ h. HeldBelow h ((held_after (empty_replica run.settings.processors capacity) es).at k n)) (sym some.1) (brought key.0 key.1 key.2))
      ]

  script_there : held_after (empty_replica run.settings.processors capacity) all_entries ≡ replica_with_room capacity run
  script_there = grind (arith, held_there, all_among)

-- ---- lines

-- what entries leave is taken from their rows
same_placed : EachEntryHasItsRow → (e f : Placed) → IsPlaced e → IsPlaced f → row_of e ≡ row_of f → e ≡ f
same_placed law e f p q same = (let h = law e.0 e.1 e.2 f.0 f.1 f.2 p q same in λ i. (h.0 i, h.1 i, h.2 i))

rows_taken : EachEntryHasItsRow → (x : Replica) (es : List Placed) → AllByRecursion IsPlaced es → AreTakenFrom (map row_of es) x (held_after x es)
rows_taken law x [] all = refl
rows_taken law x (e ∷ es) all = (
  taken x e.0 e.1 e.2,
  record {
    row = λ p n d at same. ap (λ (f : Placed). taken x f.0 f.1 f.2) (same_placed law e (p, n, d) all.0 at same);
    other = λ none. absurd (none e.0 e.1 e.2 all.0 refl);
  },
  rows_taken law (taken x e.0 e.1 e.2) es all.1,
)

pub entries_are_their_rows : EventsLeaveTheLeast → EachEntryHasItsRow → EntriesAreTheirRows
entries_are_their_rows least law run script = (
  entries_are_lines run script,
  λ capacity held room.
      (let start : Replica = empty_replica run.settings.processors capacity in
      let es : List Placed = placed_in 0 run.logs in
      let placed = all_placed run script in
      let there = script_there least run script capacity room in (
        λ t. taken_all start held es placed t ∙ there,
        λ same. subst (λ (x : Replica). AreTakenFrom (rows_of run.logs) start x) (sym (same ∙ sym there)) (rows_taken law start es placed),
      )),
)

-- nothing is taken at another key
taken_nowhere : (x : Replica) (k n : ℕ) (e : Logged) (processors capacity : ℕ) → x.processors ≡ processors → x.capacity ≡ capacity
    → (processors ≤ k) ⊎ ((n ≡ 0) ⊎ (capacity < n)) → taken x k n e ≡ x
taken_nowhere x k n e processors capacity p c elsewhere = grind (arith, and_parts, ltb-true, leb-true)

-- The entries whose rows some lines have: what the lines bring is what these leave.
record AreReadAs (processors capacity : ℕ) (all : List Placed) (lines : List (List ℕ)) (x y : Replica) : Type 0 where
  pub es : List Placed
  pub among : AreAmong es all
  pub left : y ≡ held_after x es
  pub there : (e : Placed) → IsPlaced e → e.0 < processors → 1 ≤ e.1 → e.1 ≤ capacity → Among lines (row_of e) → Among es e

module _ (law : EachEntryHasItsRow) (processors capacity : ℕ) (all : List Placed) (placed : AllByRecursion IsPlaced all) where
  -- no row of an entry at a key brings nothing
  brings_some : (e : Placed) → IsPlaced e → e.0 < processors → 1 ≤ e.1 → e.1 ≤ capacity → (line : List ℕ) → row_of e ≡ line → BringsNothing processors capacity line → ⊥
  brings_some e p k one many line same (inl none) = none e.0 e.1 e.2 p (sym same)
  brings_some e p k one many line same (inr there) = grind (arith, same_placed)

  left_nothing : (line : List ℕ) (x mid : Replica) → x.processors ≡ processors → x.capacity ≡ capacity → BringsNothing processors capacity line → IsTakenFrom line x mid → mid ≡ x
  left_nothing line x mid p c (inl none) t = t.other none
  left_nothing line x mid p c (inr there) t = grind (arith, t.row, taken_nowhere)

  one_more : (line : List ℕ) (lines : List (List ℕ)) (x mid y : Replica) (e : Placed) → Among all e → line ≡ row_of e → mid ≡ taken x e.0 e.1 e.2
      → AreReadAs processors capacity all lines mid y → AreReadAs processors capacity all (line ∷ lines) x y
  one_more line lines x mid y e i same held rest = record {
    es = e ∷ rest.es;
    among = (i, rest.among);
    left = rest.left ∙ ap (λ (r : Replica). held_after r rest.es) held;
    there = λ f p k one many i'. grind (arith, same_placed, among_all);
  }

  no_more : (line : List ℕ) (lines : List (List ℕ)) (x mid y : Replica) → BringsNothing processors capacity line → mid ≡ x
      → AreReadAs processors capacity all lines mid y → AreReadAs processors capacity all (line ∷ lines) x y
  no_more line lines x mid y nothing held rest = grind (arith, held_after, brings_some, rest.there)

  read_as : (lines : List (List ℕ)) (x y : Replica) → AllByRecursion (λ line. Among (map row_of all) line ⊎ BringsNothing processors capacity line) lines
      → x.processors ≡ processors → x.capacity ≡ capacity → AreTakenFrom lines x y → AreReadAs processors capacity all lines x y
  read_as [] x y each p c t = record { es = []; among = tt; left = t; there = λ e placed k one many i. absurd i }
  read_as (line ∷ lines) x y each p c (mid, t, more) = elim each.0 [
    | inl row ↦
        (let h = among_map row_of all line row in
        let held : mid ≡ taken x h.0.0 h.0.1 h.0.2 = t.row h.0.0 h.0.1 h.0.2 (among_all IsPlaced all placed h.0 h.1) h.2 in
        let shape = shape_after x (h.0 ∷ []) in
        one_more line lines x mid y h.0 h.1 h.2 held
        (read_as lines mid y each.1 (ap (λ (r : Replica). r.processors) held ∙ shape.0 ∙ p) (ap (λ (r : Replica). r.capacity) held ∙ shape.1 ∙ c) more))
    | inr nothing ↦
        (let held = left_nothing line x mid p c nothing t in
        no_more line lines x mid y nothing held
        (read_as lines mid y each.1 (ap (λ (r : Replica). r.processors) held ∙ p) (ap (λ (r : Replica). r.capacity) held ∙ c) more))
  ]

pub entries_give_their_schedule : EventsLeaveTheLeast → EachEntryHasItsRow → EntriesGiveTheirSchedule
entries_give_their_schedule least law run capacity lines held script room have t =
    let es : List Placed = placed_in 0 run.logs in
    let placed = all_placed run script in
    let read = read_as law run.settings.processors capacity es placed lines (empty_replica run.settings.processors capacity) held have.each refl refl t in
    let all : AreAmong es read.es =
    all_among (λ e. Among read.es e) es
    (λ e i. (let key = keyed least run script capacity room e i in
    read.there e (among_all IsPlaced es placed e i) key.0 key.1 key.2 (row_there e i))) in
    let same : held ≡ replica_with_room capacity run = read.left ∙ held_there least run script capacity room read.es read.among all in
    (same, subst (λ (x : Replica). HasScheduleOf run x) (sym same) (schedule_with_room run capacity room))
  where
    row_there : (e : Placed) → Among (placed_in 0 run.logs) e → Among lines (row_of e)
    row_there e i = among_all (λ row. Among lines row) (rows_of run.logs) have.all (row_of e) (map_among row_of (placed_in 0 run.logs) e i)

-- ---- bytes that have the rows of a script give its text

pub fed_entries_give_their_text : EntriesGiveTheirSchedule → FedEntriesGiveTheirText
fed_entries_give_their_text schedule run capacity bytes rest lines f g before begun after script room fresh unwritten are have head fed =
    let same = (lines_are_one bytes lines fed.lines rest rest are fed.are_lines).0 in
    let gave = schedule run capacity fed.lines (replica_of g.dispatch.replica) script room
    (subst (λ (ls : List (List ℕ)). HaveTheRows run.settings.processors capacity (rows_of run.logs) ls) same have)
    (subst (λ (x : Replica). AreTakenFrom fed.lines x (replica_of g.dispatch.replica)) (ap (λ (c : Course). c.replica) fresh.course_is) fed.fed.held_is) in
    let set : g.dispatch.settings ≡ run.settings = fed.fed.gone_on.grown.settings_are ∙ fresh.settings_are in
    let out : g.output ≡ f.output = fed.fed.gone_on.output_is in
    let text : line (header_of f.output) ++ news f g ≡ text_of f.output run.settings (replica_of_logs run.logs) =
    ap (λ (o : Output). line (header_of o) ++ news f g) (sym out) ∙ text_is_whole bytes rest f g begun after (ap (λ (c : Course). c.origin) fresh.course_is) unwritten fed
    ∙ (λ i. text_of (out i) (set i) (replica_of g.dispatch.replica)) ∙ gave.1.texts_are f.output in
    (subst (λ (l : List ℕ). Appends before after l) text (appends-more before begun after (line (header_of f.output)) (news f g) head fed.fed.gone_on.written), gave.1)

-- what most functions of `laws` say
pub ruleset most_laws = (rows_go_on, whole_texts, text_is_whole, order_is_nothing, entries_give_their_schedule)
