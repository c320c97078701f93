-- How far a selection has come over the turns, and its steps.
use Rattle.pfair_ready.proofs.Common.{AllByRecursion, filter, list_any, Less, Equal, is_lt, is_eq, eq_by_cmp, ordering_reverse, tied_itself, Equal-is, find, is_sorted, put, get-entries, entries-insert, entries_sorted, get-insert, get-remove, get-retain_keys, same_map, IsPermutation, leb-true, Key, NameValue, name_cmp, name_eq, Queue, released, without, ◌≡◌, ℕ, ◌≤◌, Bool, true, false, cond, not, List, [], ◌∷◌, ◌++◌, map, refl, sym, ap, subst, ◌∙◌, Option, Some, None, arith, nat_le, ◌&&◌, Ordering, map_push, All-contains, true≢false, and_parts, pd2_cmp, first_by_rank, keys_total, keys_exact, IsSplit, less_of, split_more, Calendar, Date, HasTurn, IsCovered, IsNoted, IsKeyIn, All-from_recursion, PopsGreatest, Turn, is_due, is_turn_of, turn_cmp, turn_of, ◌+◌, ◌<◌, inl, inr, length, min, Contains, by_rank_of_split, IsTaskName, name_of, name_back, ◌||◌, T, length-append, IsPermutation-sym, length_permutation, each_trivial, all_map}
use Rattle.std.specs.FinMap.Entries.{below_all}
use Rattle.std.proofs.lemmas.List.Folds.{list_any-append}
use Rattle.pfair_ready.proofs.Names.{names_total, names_exact, tied_names}
use Rattle.pfair_ready.proofs.WaitingLemmas.{chosen, chosen_put}
use Rattle.pfair_ready.proofs.CalendarLemmas.{covered_less, covered_popped, still_there, due_of, own_turn, popped_turns, same_order, top_number}
use Rattle.std.specs.FinMap as finmap

-- What is released of what a map holds.

first_so : (a b : Bool) → T (a && b) → T a
first_so a b h = grind arith

second_so : (a b : Bool) → T (a && b) → T b
second_so a b h = grind arith

less_so : (r : Ordering) → T (is_lt r) → r ≡ Less
less_so r h = grind arith

greater_apart : (r s : Ordering) → r ≡ ordering_reverse s → s ≡ Less → is_eq r ≡ false
greater_apart r s e f = rw e (rw f refl)

-- in a sorted list each entry is found under its name
module _ {X : Type 0} where
  past_head : (e : NameValue × X) (es fs : List (NameValue × X)) → T (below_all name_cmp e.0 fs) → AllByRecursion (λ f. find name_cmp f.0 es ≡ Some f.1) fs → AllByRecursion (λ f. find name_cmp f.0 (e ∷ es) ≡ Some f.1) fs
  past_head e es [] below h = tt
  past_head e es (f ∷ fs) below h = grind (arith, greater_apart, names_total, less_so, first_so, second_so, past_head e es fs)

  pub each_found : (es : List (NameValue × X)) → T (is_sorted name_cmp es) → AllByRecursion (λ e. find name_cmp e.0 es ≡ Some e.1) es
  each_found [] h = tt
  each_found (e ∷ es) h = (
    ap (λ r. cond (is_eq r) (Some e.1) (find name_cmp e.0 es)) (tied_itself names_total e.0),
    past_head e es es (first_so (below_all name_cmp e.0 es) (is_sorted name_cmp es) h) (each_found es (second_so (below_all name_cmp e.0 es) (is_sorted name_cmp es) h)),
  )

-- a key is held and released
pub record IsReleased (slot : ℕ) (m : Queue) (k : Key) : Type 0 where
  pub name : NameValue
  pub release : ℕ
  pub at : finmap.get m name ≡ Some (release, k)
  pub due : release ≤ slot

each_of : (slot : ℕ) (m : Queue) (es : List (NameValue × (ℕ × Key))) → AllByRecursion (λ e. finmap.get m e.0 ≡ Some e.1) es → AllByRecursion (IsReleased slot m) (map (λ e. e.1) (filter (λ e. nat_le e.0 slot) (map (λ e. e.1) es)))
each_of slot m [] h = tt
each_of slot m (e ∷ es) h =
    let l : List (ℕ × Key) = filter (λ e. nat_le e.0 slot) (map (λ e. e.1) es) in
    elim (nat_le e.1.0 slot) as (λ b. nat_le e.1.0 slot ≡ b → AllByRecursion (IsReleased slot m) (map (λ e. e.1) (cond b (e.1 ∷ l) l))) [
      | true ↦ λ t. (record { name = e.0; release = e.1.0; at = h.0; due = leb-true e.1.0 slot t }, each_of slot m es h.1)
      | false ↦ λ _. each_of slot m es h.1
    ] refl

found_gets : (m : Queue) (es : List (NameValue × (ℕ × Key))) → AllByRecursion (λ e. find name_cmp e.0 (finmap.entries m) ≡ Some e.1) es → AllByRecursion (λ e. finmap.get m e.0 ≡ Some e.1) es
found_gets m [] h = tt
found_gets m (e ∷ es) h = (get-entries m e.0 ∙ h.0, found_gets m es h.1)

-- each released key is held under some name
pub each_released : (slot : ℕ) (m : Queue) → AllByRecursion (IsReleased slot m) (released slot m)
each_released slot m = each_of slot m (finmap.entries m) (found_gets m (finmap.entries m) (each_found (finmap.entries m) (entries_sorted m)))

-- one more that is released
pub released_insert : (slot : ℕ) (m : Queue) (name : NameValue) (r : ℕ) (k : Key) → finmap.get m name ≡ None → nat_le r slot ≡ true → IsPermutation (k ∷ released slot m) (released slot (finmap.insert m name (r, k)))
released_insert slot m name r k none due =
    let passes : ℕ × Key → Bool = λ e. nat_le e.0 slot in
    let es : List (NameValue × (ℕ × Key)) = finmap.entries m in
    let l : List (ℕ × Key) = filter passes (map (λ e. e.1) es) in
    let put_in : IsPermutation (chosen passes (λ e. e.1) ((name, (r, k)) ∷ es)) (chosen passes (λ e. e.1) (put name_cmp name (r, k) es)) =
    chosen_put passes (λ e. e.1) name (r, k) es (sym (get-entries m name) ∙ none) in
    subst (λ fs. IsPermutation (k ∷ released slot m) (chosen passes (λ e. e.1) fs)) (sym (entries-insert names_total m name (r, k)))
    (subst (λ b. IsPermutation (map (λ e. e.1) (cond b ((r, k) ∷ l) l)) (chosen passes (λ e. e.1) (put name_cmp name (r, k) es))) due put_in)

-- what is taken out can be put back
pub put_back : (m n : Queue) (name : NameValue) (v : ℕ × Key) → finmap.get m name ≡ Some v → n ≡ finmap.remove m name → m ≡ finmap.insert n name v
put_back m n name v there gone =
    same_map names_total names_exact _ _ (λ q.
    elim (eq_by_cmp name_cmp q name) as (λ b. eq_by_cmp name_cmp q name ≡ b → finmap.get m q ≡ cond b (Some v) (cond b None (finmap.get m q))) [
      | true ↦ λ t. ap (finmap.get m) (names_exact q name ((Equal-is (name_cmp q name)).0 t)) ∙ there
      | false ↦ λ _. refl
    ] refl
    ∙ sym (get-insert names_total n name v q ∙ ap (λ (o : Option (ℕ × Key)). cond (eq_by_cmp name_cmp q name) (Some v) o) (ap (λ (x : Queue). finmap.get x q) gone ∙ get-remove names_total m name q)))

not_there : (m : Queue) (name : NameValue) → finmap.get (finmap.remove m name) name ≡ None
not_there m name = get-remove names_total m name name ∙ ap (λ r. cond (is_eq r) None (finmap.get m name)) (tied_itself names_total name)

-- a released key that is taken out was one of the released
pub released_remove : (slot : ℕ) (m n : Queue) (name : NameValue) (r : ℕ) (k : Key) → finmap.get m name ≡ Some (r, k) → nat_le r slot ≡ true → n ≡ finmap.remove m name → IsPermutation (k ∷ released slot n) (released slot m)
released_remove slot m n name r k there due gone =
    subst (λ x. IsPermutation (k ∷ released slot n) (released slot x)) (sym (put_back m n name (r, k) there gone))
    (released_insert slot n name r k (ap (λ (x : Queue). finmap.get x name) gone ∙ not_there m name) due)

-- the names of no keys are let go
pub without_none : (m : Queue) → without [] m ≡ m
without_none m = same_map names_total names_exact _ _ (λ q. get-retain_keys m (λ _. true) q (λ _ _. refl))

any_of_tied : (keys : List Key) (q x : NameValue) → name_cmp q x ≡ Equal → not (list_any (λ k. name_eq x k.name) keys) ≡ not (list_any (λ k. name_eq q k.name) keys)
any_of_tied keys q x t = ap (λ n. not (list_any (λ k. name_eq n k.name) keys)) (sym (names_exact q x t))

pub get_without : (keys : List Key) (m : Queue) (q : NameValue) → finmap.get (without keys m) q ≡ cond (not (list_any (λ k. name_eq q k.name) keys)) (finmap.get m q) None
get_without keys m q = get-retain_keys m (λ name. not (list_any (λ k. name_eq name k.name) keys)) q (any_of_tied keys q)

one_of_two : {A : Type 0} (a b c : Bool) (x y : A) → c ≡ (a || (b || false)) → cond (not c) x y ≡ cond b y (cond (not a) x y)
one_of_two a b c x y e = grind arith

-- one more name is let go
pub without_push : (keys : List Key) (k : Key) (m : Queue) → without (keys ++ k ∷ []) m ≡ finmap.remove (without keys m) k.name
without_push keys k m =
    same_map names_total names_exact _ _ (λ q.
    get_without (keys ++ k ∷ []) m q
    ∙ one_of_two (list_any (λ l. name_eq q l.name) keys) (name_eq q k.name) (list_any (λ l. name_eq q l.name) (keys ++ k ∷ [])) (finmap.get m q) None (list_any-append (λ l. name_eq q l.name) keys (k ∷ []))
    ∙ sym (get-remove names_total (without keys m) k.name q
    ∙ ap (λ (o : Option (ℕ × Key)). cond (eq_by_cmp name_cmp q k.name) None o) (get_without keys m q)
    ∙ ap (λ b. cond b None (cond (not (list_any (λ l. name_eq q l.name) keys)) (finmap.get m q) None)) (tied_names q k.name)))

pub record IsTaking (slot m room : ℕ) (start held : Queue) (dates : Calendar) (turns : List Turn) (first : List Key) : Type 0 where
  -- what is given, and what is released of what waits still
  pub split : IsSplit keys_total (released slot start) first (released slot held)
  pub left : held ≡ without first start
  pub covered : IsCovered slot held dates turns
  -- the calendar has later dates alone, so what is released has a turn
  pub later : (d : Date) → IsNoted dates d → slot < d.release
  pub few : length first ≤ m
  pub counted : length first + length turns ≤ room

none_in_empty : {A : Type 0} (xs : List A) (x : A) → length xs ≡ 0 → Contains xs x → ⊥
none_in_empty xs x e c = let within = c.1 in omega arith

no_elements : {A : Type 0} (xs : List A) → AllByRecursion (λ _. ⊥) xs → xs ≡ []
no_elements [] h = refl
no_elements (x ∷ xs) h = absurd h.0

-- at the start nothing is given
pub taking_none : (slot m : ℕ) (start : Queue) (dates : Calendar) (turns : List Turn)
    → IsCovered slot start dates turns → ((d : Date) → IsNoted dates d → slot < d.release) → IsTaking slot m (length turns) start start dates turns []
taking_none slot m start dates turns c later =
    record {
      split = grind (arith, each_trivial);
      left = sym (without_none start);
      covered = c;
      later = later;
      few = omega arith;
      counted = omega arith;
    }

module _ (slot m room : ℕ) (start held : Queue) (dates : Calendar) (turns : List Turn) (first : List Key) (t : IsTaking slot m room start held dates turns first) where
  -- what waits and is released has a turn
  has_turn : (q : NameValue) (r : ℕ) (k : Key) → finmap.get held q ≡ Some (r, k) → r ≤ slot → HasTurn turns k
  has_turn q r k at due =
      elim (t.covered.covered q r k at) [
        | inl there ↦ let later : slot < r = t.later (record { release = r; hint = there.0; key = k }) there.1 in absurd (omega arith)
        | inr both ↦ both.1
      ]

  no_released : length turns ≡ 0 → (k : Key) → IsReleased slot held k → ⊥
  no_released empty k w = let turn = has_turn w.name w.release k w.at w.due in none_in_empty turns (turn_of k turn.hint) empty turn.there

  -- if m are given, or there is no turn left, what is given is the first m
  pub first_taken : (length first < m → length turns ≡ 0) → first ≡ first_by_rank pd2_cmp m (released slot start)
  first_taken empty =
      by_rank_of_split keys_total (released slot start) first (released slot held) t.split m t.few
      (λ less. no_elements (released slot held) (all_map (IsReleased slot held) (λ _. ⊥) (released slot held) (no_released (empty less)) (each_released slot held)))

  module _ (top : Turn) (turns' : List Turn) (p : IsPermutation turns (top ∷ turns')) (greatest : PopsGreatest turn_cmp turns top turns') where
    -- a turn of a key stands for its name
    named_by : (k : Key) (hint : ℕ) → IsTaskName k.name → top ≡ turn_of k hint → name_of top.name.0 ≡ k.name
    named_by k hint named same = ap (λ (x : Turn). name_of x.name.0) same ∙ name_back k.name named

    -- the turn of a key that doesn't wait any more covers nothing
    pub taking_dead : is_due top slot (finmap.get held (name_of top.name.0)) ≡ false → IsTaking slot m room start held dates turns' first
    taking_dead dead =
        record {
          split = t.split;
          left = t.left;
          covered = covered_popped slot held dates turns turns' top p (popped_turns top p greatest t.covered.sound) (λ q r k hint at due named same.
              let own : finmap.get held (name_of top.name.0) ≡ Some (r, k) = ap (finmap.get held) (named_by k hint named same ∙ t.covered.named q r k at) ∙ at in
              true≢false (sym (due_of k hint slot r due) ∙ ap (λ (x : Turn). is_due x slot (Some (r, k))) (sym same) ∙ ap (is_due top slot) (sym own) ∙ dead)) t.covered;
          later = t.later;
          few = t.few;
          counted = let c = t.counted in let l = length_permutation turns (top ∷ turns') p in omega arith;
        }

    -- no key that waits still is the one that is given
    after_top : (key : Key) → key.name ≡ name_of top.name.0 → IsTaskName key.name → top ≡ turn_of key top.hint → (k : Key) → IsReleased slot (finmap.remove held (name_of top.name.0)) k → pd2_cmp key k ≡ Less
    after_top key own named is k w =
        let kept = still_there held (name_of top.name.0) w.name (w.release, k) w.at in
        let turn = has_turn w.name w.release k kept.1 w.due in
        let apart : k.name ≡ key.name → ⊥ = λ same. kept.0 (sym (t.covered.named w.name w.release k kept.1) ∙ same ∙ own) in
        let least : is_lt (turn_cmp top (turn_of k turn.hint)) ≡ false =
        All-contains (λ (y : Turn). is_lt (turn_cmp top y) ≡ false) turns (turn_of k turn.hint) (All-from_recursion (λ (y : Turn). is_lt (turn_cmp top y) ≡ false) turns (greatest t.covered.sound.order).1) turn.there in
        let not_before : is_lt (pd2_cmp k key) ≡ false = ap is_lt (same_order k key top.hint turn.hint turn.named named apart) ∙ subst (λ (x : Turn). is_lt (turn_cmp x (turn_of k turn.hint)) ≡ false) is least in
        let not_same : is_eq (pd2_cmp k key) ≡ false =
        elim (is_eq (pd2_cmp k key)) as (λ b. is_eq (pd2_cmp k key) ≡ b → b ≡ false) [
          | true ↦ λ v. absurd (apart (ap (λ (x : Key). x.name) (keys_exact k key ((Equal-is (pd2_cmp k key)).0 v))))
          | false ↦ λ _. refl
        ] refl in
        less_of keys_total (pd2_cmp k key) (pd2_cmp key k) (keys_total.antisymm k key) not_before not_same

    -- a key that is due is given, and waits no more
    pub taking_live : (key : Key) (held' : Queue) → held' ≡ finmap.remove held (name_of top.name.0) → length first < m → IsKeyIn held (name_of top.name.0) key → is_due top slot (finmap.get held (name_of top.name.0)) ≡ true → IsTaking slot m room start held' dates turns' (first ++ key ∷ [])
    taking_live key held' taken few at live =
        let due : (nat_le at.0 slot ≡ true) × (is_turn_of key top ≡ true) = and_parts (nat_le at.0 slot) (is_turn_of key top) (ap (is_due top slot) (sym at.1) ∙ live) in
        let own : key.name ≡ name_of top.name.0 = t.covered.named (name_of top.name.0) at.0 key at.1 in
        let named : IsTaskName key.name = (has_turn (name_of top.name.0) at.0 key at.1 (leb-true at.0 slot due.0)).named in
        let is : top ≡ turn_of key top.hint = own_turn top key (top_number top p t.covered.sound) own due.1 in
        let rest : Queue = finmap.remove held (name_of top.name.0) in
        let moved : IsPermutation (key ∷ released slot rest) (released slot held) = released_remove slot held rest (name_of top.name.0) at.0 key at.1 due.0 refl in
        subst (λ (h : Queue). IsTaking slot m room start h dates turns' (first ++ key ∷ [])) (sym taken) (record {
          split =
              split_more keys_total (released slot start) first (released slot held) (released slot rest) key t.split
              (IsPermutation-sym (key ∷ released slot rest) (released slot held) moved)
              (all_map (IsReleased slot rest) (λ k. pd2_cmp key k ≡ Less) (released slot rest) (after_top key own named is) (each_released slot rest));
          left = ap (λ x. finmap.remove x (name_of top.name.0)) t.left ∙ ap (finmap.remove (without first start)) (sym own) ∙ sym (without_push first key start);
          covered = covered_popped slot rest dates turns turns' top p (popped_turns top p greatest t.covered.sound) (λ q r k hint got _ called same.
              let kept = still_there held (name_of top.name.0) q (r, k) got in
              kept.0 (sym (named_by k hint called same ∙ t.covered.named q r k kept.1))) (covered_less slot held (name_of top.name.0) dates turns t.covered);
          later = t.later;
          few = omega (arith, length-append first (key ∷ []));
          counted = let c = t.counted in omega (arith, length-append first (key ∷ []), length_permutation turns (top ∷ turns') p);
        })

-- room for as many as there are and are wanted
pub room_for : (m n least room : ℕ) → least ≡ min m n → least ≤ room → min m n ≤ room
room_for m n least room l fits = omega arith

-- the keys of a list with one more
pub one_more : {T : Type 0} (key : T → Key) (xs ys : List T) (x : T) (k : Key) → ys ≡ xs ++ x ∷ [] → key x ≡ k → map key ys ≡ map key xs ++ k ∷ []
one_more key xs ys x k pushed of = ap (map key) pushed ∙ map_push key xs x ∙ ap (λ (l : Key). map key xs ++ l ∷ []) of
