-- The numbers of members and the names that lead to them, and what the ledger keeps of them.
use Rattle.std.proofs.Common.{filter, is_some, position, ◌^◌}
use Rattle.pfair_admission.specs.declared.members.Members.TheInside.{Inside}
use Rattle.pfair_admission.proofs.Common.{Roster, AllByRecursion, IsDistinct, keys_of, values_of, lookup, all_by_recursion_push, nat_tests, same_Some, none-some, slice_get-get_or, insert_entry, set_value_at, NameValue, name_eq, Member, is_named, member_named, NoneFreed, has_number, is_there, IsFound, IsNamedIn, IsNumberOf, IsOnly, IsRegister, Numbered, ◌≡◌, ℕ, zero, suc, ◌+◌, ◌<◌, Bool, true, false, cond, List, [], ◌∷◌, ◌++◌, Option, IfSome, Some, None, refl, sym, ap, subst, ◌∙◌, arith, nat_eq, not, slice_get, whole, CanJoin, common_steps, sum_by_push, with_value_at, filter-append, units_of, Admitted, arrival, claimed, earlier_of, IsNotBefore, NoneFreedBefore, listed, IsLedger, IsUnswept, Ledger, Membership, length-append, map-append, LONGEST_DELAY, LAST_SLOT, last_offset, carried, CanBeCarried, EachBounded, ◌*◌, ◌≤◌, length, map, take, roster_of, bytes_decides, position-Some}
use Rattle.pfair_admission.proofs.MemberLists.{each, each_kept, both, claimed_present, first_earlier, not_before_own, present_all, claimed_carried, claimed_part, take_one, each_map}
use Rattle.pfair_admission.proofs.Deciding.{IsLike, admitted_new, admitted_room, claimed_written, filter_all, first_at, first_written, values_written, others_named}
use Rattle.pfair_order.proofs.RankLemmas.{at_each}

-- The numbers of members, and the names that lead to them.

abbrev pub Names : Type 0
Names = List (NameValue × ℕ)

pub same_name : (name other : NameValue) → name_eq name other ≡ true → name ≡ other
same_name name other = (bytes_decides name other).0

-- ---- look-ups

pub lookup_append : {K V : Type 0} (test : K → Bool) (es : List (K × V)) (e : K × V) (v : V) → lookup test es ≡ Some v → lookup test (es ++ e ∷ []) ≡ Some v
lookup_append test [] e v h = absurd (none-some v h)
lookup_append test (x ∷ es) e v h = grind (arith, lookup_append test es e v)

-- a number that isn't given yet
pub fresh : (admitted : ℕ) (es : Numbered) → AllByRecursion (λ e. e.0 < admitted) es → lookup (nat_eq admitted) es ≡ None
fresh admitted [] h = refl
fresh admitted (e ∷ es) h = grind (arith, nat_tests, fresh admitted es h.1)

lookup_fresh : (admitted : ℕ) (m : Member) (es : Numbered) → AllByRecursion (λ e. e.0 < admitted) es → lookup (nat_eq admitted) (es ++ (admitted, m) ∷ []) ≡ Some m
lookup_fresh admitted m [] h = let same : nat_eq admitted admitted ≡ true = grind (arith, nat_tests) in ap (λ b. cond b (Some m) None) same
lookup_fresh admitted m (e ∷ es) h = grind (arith, nat_tests, lookup_fresh admitted m es h.1)

lookup_kept : (test : NameValue → Bool) (q : ℕ → Bool) (names : Names) (v : ℕ) → lookup test names ≡ Some v → q v ≡ true → lookup test (filter (λ e. q e.1) names) ≡ Some v
lookup_kept test q [] v h kept = absurd (none-some v h)
lookup_kept test q (e ∷ names) v h kept = grind (arith, same_Some, lookup_kept test q names v)

lookup_absent : (k : ℕ) (q : ℕ × Member → Bool) (es : Numbered) → AllByRecursion (λ n. nat_eq k n ≡ false) (keys_of es) → lookup (nat_eq k) (filter q es) ≡ None
lookup_absent k q [] h = refl
lookup_absent k q (e ∷ es) h = grind (arith, lookup_absent k q es h.1)

lookup_filtered : (k : ℕ) (q : ℕ × Member → Bool) (es : Numbered) (m : Member) → IsDistinct nat_eq (keys_of es) → lookup (nat_eq k) (filter q es) ≡ Some m → lookup (nat_eq k) es ≡ Some m
unfolding IsDistinct
lookup_filtered k q [] m unique h = absurd (none-some m h)
lookup_filtered k q (e ∷ es) m unique h =
    let absent : e.0 ≡ k → lookup (nat_eq k) (filter q es) ≡ None = λ is. lookup_absent k q es (subst (λ n. AllByRecursion (λ x. nat_eq n x ≡ false) (keys_of es)) is unique.0) in
    let rest : lookup (nat_eq k) (filter q es) ≡ Some m → lookup (nat_eq k) es ≡ Some m = lookup_filtered k q es m unique.1 in
    grind (arith, nat_tests, none-some)

-- ---- who is found

-- if the name leads nowhere nobody has it
none_named : (counts : Member → Bool) (name : NameValue) (names : Names) (es : Numbered) → AllByRecursion (IsNamedIn counts names) es → lookup (name_eq name) names ≡ None → member_named (filter counts (values_of es)) name ≡ None
none_named counts name names [] h none = refl
none_named counts name names (e ∷ es) h none =
    let own : counts e.1 ≡ true → is_named name e.1 ≡ true → ⊥ = λ there named. none-some e.0 (sym none ∙ ap (λ n. lookup (name_eq n) names) (same_name name e.1.name named) ∙ h.0 there) in
    grind (arith, none_named counts name names es h.1 none)

number_of : (es : Numbered) (names : Names) (name : NameValue) (number : ℕ) → AllByRecursion (λ e. IsNumberOf es e.0 e.1) names → lookup (name_eq name) names ≡ Some number → IsNumberOf es name number
number_of es [] name number h at = absurd (none-some number at)
number_of es (e ∷ names) name number h at =
    let here : name_eq name e.0 ≡ true → Some e.1 ≡ Some number → IsNumberOf es name number = λ same is. subst (λ n. IsNumberOf es n number) (sym (same_name name e.0 same)) (subst (IsNumberOf es e.0) (same_Some e.1 number is) h.0) in
    grind (arith, number_of es names name number h.1, lookup)

-- the number of one that counts is that of its name
pub number_at : (counts : Member → Bool) (names : Names) (es : Numbered) (place : ℕ) (x : Member) → AllByRecursion (IsNamedIn counts names) es → slice_get (values_of es) place ≡ Some x → counts x ≡ true → slice_get (keys_of es) place ≡ lookup (name_eq x.name) names
number_at counts names [] place x h at there = absurd (none-some x at)
number_at counts names (e ∷ es) zero x h at there = grind (arith, same_Some)
number_at counts names (e ∷ es) (suc place) x h at there = number_at counts names es place x h.1 at there

differs_at : (k : ℕ) (ns : List ℕ) (place number : ℕ) → AllByRecursion (λ n. nat_eq k n ≡ false) ns → slice_get ns place ≡ Some number → nat_eq k number ≡ false
differs_at k [] place number h at = absurd (none-some number at)
differs_at k (n ∷ ns) zero number h at = subst (λ x. nat_eq k x ≡ false) (same_Some n number at) h.0
differs_at k (n ∷ ns) (suc place) number h at = differs_at k ns place number h.1 at

-- a number is at one place
pub one_place : (ns : List ℕ) (number place other : ℕ) → IsDistinct nat_eq ns → slice_get ns place ≡ Some number → slice_get ns other ≡ Some number → other ≡ place
unfolding IsDistinct
one_place [] number place other unique here there = absurd (none-some number here)
one_place (n ∷ ns) number zero zero unique here there = refl
one_place (n ∷ ns) number zero (suc other) unique here there =
    let is : n ≡ number = same_Some n number here in
    let differ : nat_eq n number ≡ false = differs_at n ns other number unique.0 there in absurd (grind (arith, nat_tests))
one_place (n ∷ ns) number (suc place) zero unique here there =
    let is : n ≡ number = same_Some n number there in
    let differ : nat_eq n number ≡ false = differs_at n ns place number unique.0 here in absurd (grind (arith, nat_tests))
one_place (n ∷ ns) number (suc place) (suc other) unique here there = ap suc (one_place ns number place other unique.1 here there)

key_at : (ns : List ℕ) (number place : ℕ) → position (nat_eq number) ns ≡ Some place → slice_get ns place ≡ Some number
key_at ns number place at =
    let found = position-Some (nat_eq number) ns place number at in
    grind (arith, nat_tests, slice_get-get_or)

pub values_at : (es : Numbered) (number : ℕ) (o : Option ℕ) → IfSome o (λ i. slice_get (values_of es) i ≡ lookup (nat_eq number) es) → (i : ℕ) → o ≡ Some i → slice_get (values_of es) i ≡ lookup (nat_eq number) es
values_at es number o at i is = grind (arith, none-some, same_Some)

-- what a look-up finds
pub found_none : (counts : Member → Bool) (admitted : ℕ) (es : Numbered) (names : Names) (name : NameValue) → IsRegister counts admitted es names → lookup (name_eq name) names ≡ None → IsFound counts name (values_of es) None
found_none counts admitted es names name r none = none_named counts name names es r.found none

pub found_at : (counts : Member → Bool) (admitted : ℕ) (es : Numbered) (names : Names) (name : NameValue) (number place : ℕ) → IsRegister counts admitted es names → lookup (name_eq name) names ≡ Some number
    → slice_get (keys_of es) place ≡ Some number → slice_get (values_of es) place ≡ lookup (nat_eq number) es → IsFound counts name (values_of es) (Some place)
found_at counts admitted es names name number place r leads key value =
    let who = number_of es names name number r.named leads in (
      who.member,
      record {
        at = value ∙ who.at;
        named = (bytes_decides name who.member.name).1 (sym who.named);
        only = λ other x at there named.
            one_place (keys_of es) number place other r.unique key
            (number_at counts names es other x r.found at there ∙ ap (λ n. lookup (name_eq n) names) (sym (same_name name x.name named)) ∙ leads);
      },
    )

pub found_some : (counts : Member → Bool) (admitted : ℕ) (es : Numbered) (names : Names) (name : NameValue) (number : ℕ) (place : Option ℕ) → IsRegister counts admitted es names → lookup (name_eq name) names ≡ Some number
    → place ≡ position (nat_eq number) (keys_of es) → ((i : ℕ) → place ≡ Some i → slice_get (values_of es) i ≡ lookup (nat_eq number) es) → is_some place ≡ is_some (lookup (nat_eq number) es) → IsFound counts name (values_of es) place
found_some counts admitted es names name number None r leads is value found =
    let who = number_of es names name number r.named leads in
    let no = found ∙ ap (λ (o : Option Member). is_some o) who.at in absurd (cc)
found_some counts admitted es names name number (Some place) r leads is value found = found_at counts admitted es names name number place r leads (key_at (keys_of es) number place (sym is)) (value place refl)

-- the number and the member of an entry
pub parts_at : (es : Numbered) (i : ℕ) (e : ℕ × Member) → slice_get es i ≡ Some e → (slice_get (keys_of es) i ≡ Some e.0) × (slice_get (values_of es) i ≡ Some e.1)
parts_at [] i e at = absurd (none-some e at)
parts_at (d ∷ es) zero e at = (ap (λ (x : ℕ × Member). Some x.0) (same_Some d e at), ap (λ (x : ℕ × Member). Some x.1) (same_Some d e at))
parts_at (d ∷ es) (suc i) e at = parts_at es i e at

-- who counts and has the name is the only one
pub only_at : (counts : Member → Bool) (admitted : ℕ) (es : Numbered) (names : Names) (name : NameValue) (place number : ℕ) (x : Member) → IsRegister counts admitted es names → slice_get es place ≡ Some (number, x) → counts x ≡ true → x.name ≡ name
    → IsOnly counts name (values_of es) place x
only_at counts admitted es names name place number x r at there same =
    let parts = parts_at es place (number, x) at in
    let leads = sym (number_at counts names es place x r.found parts.1 there) ∙ parts.0 in
    record {
      at = parts.1;
      named = (bytes_decides name x.name).1 (sym same);
      only = λ other y at_other there_too named.
          one_place (keys_of es) number place other r.unique parts.0
          (number_at counts names es other y r.found at_other there_too ∙ ap (λ n. lookup (name_eq n) names) (sym (same_name name y.name named) ∙ sym same) ∙ leads);
    }

-- ---- one more

renamed : (name : NameValue) (admitted : ℕ) (es es' : Numbered) (names : Names) → IsNumberOf es' name admitted → ((n : NameValue) (k : ℕ) → IsNumberOf es n k → IsNumberOf es' n k)
    → AllByRecursion (λ e. IsNumberOf es e.0 e.1) names → AllByRecursion (λ e. IsNumberOf es' e.0 e.1) (insert_entry name_eq names name admitted)
renamed name admitted es es' [] new keeps h = (new, tt)
renamed name admitted es es' (e ∷ names) new keeps h = grind (arith, same_name, each, renamed name admitted es es' names new keeps h.1)

-- each name but that of the newcomer leads where it led
still_named : (counts : Member → Bool) (name : NameValue) (admitted : ℕ) (names names' : Names) (es : Numbered)
    → ((q : NameValue) → lookup (name_eq q) names' ≡ cond (name_eq name q) (Some admitted) (lookup (name_eq q) names))
    → member_named (filter counts (values_of es)) name ≡ None → AllByRecursion (IsNamedIn counts names) es → AllByRecursion (IsNamedIn counts names') es
still_named counts name admitted names names' [] updates none h = tt
still_named counts name admitted names names' (e ∷ es) updates none h = grind (arith, none-some, still_named counts name admitted names names' es updates)

-- a newcomer gets the next number
pub register_more : (counts : Member → Bool) (admitted : ℕ) (es es' : Numbered) (names names' : Names) (m : Member) → IsRegister counts admitted es names → member_named (filter counts (values_of es)) m.name ≡ None
    → es' ≡ es ++ (admitted, m) ∷ [] → IsDistinct nat_eq (keys_of es') → names' ≡ insert_entry name_eq names m.name admitted
    → ((q : NameValue) → lookup (name_eq q) names' ≡ cond (name_eq m.name q) (Some admitted) (lookup (name_eq q) names)) → IsRegister counts (admitted + 1) es' names'
register_more counts admitted es es' names names' m r none made unique entered updates =
    let more : Numbered = es ++ (admitted, m) ∷ [] in
    let new : IsNumberOf more m.name admitted = record { member = m; at = lookup_fresh admitted m es r.numbered; named = refl } in
    let own : IsNamedIn counts names' (admitted, m) = λ _. updates m.name ∙ ap (λ b. cond b (Some admitted) (lookup (name_eq m.name) names)) ((bytes_decides m.name m.name).1 refl) in
    record {
      numbered = grind (arith, all_by_recursion_push, each);
      unique = unique;
      named = subst (λ (l : Numbered). AllByRecursion (λ e. IsNumberOf l e.0 e.1) names') (sym made)
          (subst (λ (l : Names). AllByRecursion (λ e. IsNumberOf more e.0 e.1) l) (sym entered)
          (renamed m.name admitted es more names new (λ n k is. record { member = is.member; at = lookup_append (nat_eq k) es (admitted, m) is.member is.at; named = is.named }) r.named));
      found = subst (AllByRecursion (IsNamedIn counts names')) (sym made)
          (all_by_recursion_push (IsNamedIn counts names') es (admitted, m) (still_named counts m.name admitted names names' es updates none r.found) own);
    }

-- ---- some go

later : (es : Numbered) (e x : ℕ × Member) → has_number x.0 es ≡ true → has_number x.0 (e ∷ es) ≡ true
later es e x has = elim (nat_eq x.0 e.0) as (λ b. is_some (cond b (Some e.1) (lookup (nat_eq x.0) es)) ≡ true) [ true ↦ refl | false ↦ has ]

has_itself : (es : Numbered) → AllByRecursion (λ e. has_number e.0 es ≡ true) es
has_itself [] = tt
has_itself (e ∷ es) = grind (arith, nat_tests, each, later, has_itself es)

still_number : (counts : Member → Bool) (es : Numbered) (name : NameValue) (k : ℕ) (o : Option Member) → IsDistinct nat_eq (keys_of es) → lookup (nat_eq k) (filter (λ e. counts e.1) es) ≡ o → is_some o ≡ true → IsNumberOf es name k → IsNumberOf (filter (λ e. counts e.1) es) name k
still_number counts es name k o unique at some is = grind (arith, same_Some, lookup_filtered)

pub register_kept : (counts : Member → Bool) (admitted : ℕ) (es es' : Numbered) (names names' : Names) → IsRegister counts admitted es names → es' ≡ filter (λ e. counts e.1) es → IsDistinct nat_eq (keys_of es')
    → names' ≡ filter (λ e. has_number e.1 es') names → IsRegister (λ _. true) admitted es' names'
register_kept counts admitted es es' names names' r made unique entered = by (sym made) entered
  where
    kept : Numbered
    kept = filter (λ e. counts e.1) es

    by : kept ≡ es' → names' ≡ filter (λ e. has_number e.1 es') names → IsRegister (λ _. true) admitted es' names'
    by same is =
        let few : names' ≡ filter (λ e. has_number e.1 kept) names = is ∙ ap (λ (l : Numbered). filter (λ (e : NameValue × ℕ). has_number e.1 l) names) (sym same) in
        subst (λ (l : Numbered). IsRegister (λ _. true) admitted l names') same (subst (IsRegister (λ _. true) admitted kept) (sym few) (record {
          numbered = each_kept (λ e. e.0 < admitted) (λ e. e.0 < admitted) (λ e. counts e.1) (λ e _ less. less) es r.numbered;
          unique = subst (λ (l : Numbered). IsDistinct nat_eq (keys_of l)) (sym same) unique;
          named = each_kept (λ e. IsNumberOf es e.0 e.1) (λ e. IsNumberOf kept e.0 e.1) (λ e. has_number e.1 kept) (λ e has is. still_number counts es e.0 e.1 (lookup (nat_eq e.1) kept) r.unique refl has is) names r.named;
          found = both (λ e. lookup (name_eq e.1.name) names ≡ Some e.0) (λ e. has_number e.0 kept ≡ true) (IsNamedIn (λ _. true) (filter (λ e. has_number e.1 kept) names))
              (λ e leads has _. lookup_kept (name_eq e.1.name) (λ k. has_number k kept) names e.0 leads has) kept
              (each_kept (IsNamedIn counts names) (λ e. lookup (name_eq e.1.name) names ≡ Some e.0) (λ e. counts e.1) (λ e there leads. leads there) es r.found) (has_itself kept);
        }))

pub values_kept : (counts : Member → Bool) (es : Numbered) → values_of (filter (λ e. counts e.1) es) ≡ filter counts (values_of es)
values_kept counts [] = refl
values_kept counts (e ∷ es) = grind (arith, values_kept counts es)

-- if nobody is gone all are named
all_named : (t : ℕ) (names : Names) (es : Numbered) → NoneFreed t (values_of es) → AllByRecursion (IsNamedIn (is_there t) names) es → AllByRecursion (IsNamedIn (λ _. true) names) es
all_named t names [] none h = tt
all_named t names (e ∷ es) none h = (λ _. h.0 (ap not none.0), all_named t names es none.1 h.1)

pub register_all : (t admitted : ℕ) (es : Numbered) (names : Names) → NoneFreed t (values_of es) → IsRegister (is_there t) admitted es names → IsRegister (λ _. true) admitted es names
register_all t admitted es names none r = record { numbered = r.numbered; unique = r.unique; named = r.named; found = all_named t names es none r.found }

-- ---- one is written

keys_written : (es : Numbered) (place : ℕ) (n : Member) → keys_of (set_value_at es place n) ≡ keys_of es
keys_written [] place n = refl
keys_written (e ∷ es) zero n = refl
keys_written (e ∷ es) (suc place) n = ap (λ (l : List ℕ). e.0 ∷ l) (keys_written es place n)

each_written : (P : ℕ × Member → Type 0) (es : Numbered) (place : ℕ) (m n : Member) → slice_get (values_of es) place ≡ Some m → ((k : ℕ) → P (k, m) → P (k, n)) → AllByRecursion P es → AllByRecursion P (set_value_at es place n)
each_written P [] place m n at to h = tt
each_written P (e ∷ es) zero m n at to h = (to e.0 (subst (λ (x : Member). P (e.0, x)) (same_Some e.1 m at) h.0), h.1)
each_written P (e ∷ es) (suc place) m n at to h = (h.0, each_written P es place m n at to h.1)

number_written : (es : Numbered) (place : ℕ) (m n : Member) (name : NameValue) (k : ℕ) → slice_get (values_of es) place ≡ Some m → n.name ≡ m.name → IsNumberOf es name k → IsNumberOf (set_value_at es place n) name k
number_written [] place m n name k at same is = absurd (none-some m at)
number_written (e ∷ es) zero m n name k at same is = grind (arith, same_Some)
number_written (e ∷ es) (suc place) m n name k at same is = grind (arith, number_written es place m n name k at same)

pub register_written : (counts : Member → Bool) (admitted : ℕ) (es : Numbered) (names : Names) (place : ℕ) (m n : Member) → IsRegister counts admitted es names → slice_get (values_of es) place ≡ Some m → counts m ≡ true → n.name ≡ m.name
    → IsRegister counts admitted (set_value_at es place n) names
register_written counts admitted es names place m n r at there same = record {
  numbered = each_written (λ e. e.0 < admitted) es place m n at (λ k less. less) r.numbered;
  unique = subst (IsDistinct nat_eq) (sym (keys_written es place n)) r.unique;
  named = each (λ e. IsNumberOf es e.0 e.1) (λ e. IsNumberOf (set_value_at es place n) e.0 e.1) (λ e is. number_written es place m n e.0 e.1 at same is) names r.named;
  found = each_written (IsNamedIn counts names) es place m n at (λ k leads _. ap (λ name. lookup (name_eq name) names) same ∙ leads there) r.found;
}

-- What the ledger keeps when a member is written.

-- a member that is written, and keeps its name and its weight: its units are free if it no longer counts
pub ledger_changed : (counts : Member → Bool) (a : Ledger) (place claim : ℕ) (first : Option ℕ) (m n : Member) → IsLedger counts a → slice_get (listed a) place ≡ Some m → counts m ≡ true → n.name ≡ m.name → n.weight ≡ m.weight
    → claim + cond (counts n) 0 (units_of m.weight a.frame) ≡ a.claim → NoneFreedBefore first (listed a) → IsNotBefore first n.freed_at → IsLedger counts (record a { members = with_value_at a.members place n; claim = claim; first_freeing = first })
ledger_changed counts a place claim first m n k at there name weight sum none own =
    let was = claimed_written counts a.frame (listed a) place m n at there weight in
    let values = ap (λ (l : List Member). claimed a.frame (filter counts l)) (values_written a.members.entries place n) in
    record {
      register = register_written counts a.admitted a.members.entries a.names.entries place m n k.register at there name;
      few_processors = k.few_processors;
      short_frame = k.short_frame;
      room = omega (arith, sum, k.room);
      total = omega (arith, was, values, sum, k.total);
      first = subst (NoneFreedBefore first) (sym (values_written a.members.entries place n)) (first_written first (listed a) place n none own);
    }

-- and its freeing slot
pub ledger_written : (counts : Member → Bool) (a : Ledger) (place : ℕ) (m n : Member) → IsLedger counts a → slice_get (listed a) place ≡ Some m → counts m ≡ true → counts n ≡ true → IsLike m n → IsLedger counts (record a { members = with_value_at a.members place n })
ledger_written counts a place m n k at there still like =
    let held = ap (λ b. cond b 0 (units_of m.weight a.frame)) still in
    ledger_changed counts a place a.claim a.first_freeing m n k at there like.name like.weight (omega (arith, held)) k.first
    (subst (IsNotBefore a.first_freeing) (sym like.freed_at) (first_at a.first_freeing (listed a) place m k.first at))

-- ---- a member that stands behind all others

pub values_pushed : (es es' : Numbered) (k : ℕ) (m : Member) → es' ≡ es ++ (k, m) ∷ [] → values_of es' ≡ values_of es ++ m ∷ []
values_pushed es es' k m made = grind (arith, common_steps)

pub ledger_joined : (counts : Member → Bool) (a b : Ledger) (m : Member) → CanJoin counts a m
    → b.members.entries ≡ a.members.entries ++ (a.admitted, m) ∷ [] → IsDistinct nat_eq (keys_of b.members.entries) → b.names.entries ≡ insert_entry name_eq a.names.entries m.name a.admitted
    → ((q : List ℕ) → lookup (name_eq q) b.names.entries ≡ cond (name_eq m.name q) (Some a.admitted) (lookup (name_eq q) a.names.entries))
    → IsLedger counts (record a { members = b.members; names = b.names; admitted = a.admitted + 1; claim = a.claim + units_of m.weight a.frame; first_freeing = earlier_of a.first_freeing m.freed_at })
ledger_joined counts a b m can made unique entered updates =
    let k = can.kept in
    let values = values_pushed a.members.entries b.members.entries a.admitted m made in
    let all = ap (λ (ms : List Member). claimed a.frame (filter counts ms)) values ∙ ap (claimed a.frame) (filter-append counts (listed a) (m ∷ []))
    ∙ ap (λ b. claimed a.frame (filter counts (listed a) ++ cond b (m ∷ []) [])) can.counted ∙ sum_by_push (λ (x : Member). units_of x.weight a.frame) (filter counts (listed a)) m in
    record {
      register = register_more counts a.admitted a.members.entries b.members.entries a.names.entries b.names.entries m k.register can.free made unique entered updates;
      few_processors = k.few_processors;
      short_frame = k.short_frame;
      room = can.room;
      total = omega (arith, all, k.total);
      first = grind (arith, all_by_recursion_push, first_earlier, not_before_own);
    }

pub can_join : (counts : Member → Bool) (a : Ledger) (m : Member) → IsLedger counts a → a.admitted + 1 < 2 ^ 64 → counts m ≡ true → Admitted ≡ arrival (whole a).machine (filter counts (listed a)) m.name m.weight → CanJoin counts a m
can_join counts a m k numbers counted is = grind (arith, admitted_room, admitted_new)

-- ---- before and after a boundary

-- if nobody is freed all count
pub kept_less : (t : ℕ) (a : Ledger) → NoneFreed t (listed a) → IsLedger (λ _. true) a → IsLedger (is_there t) a
kept_less t a none k = grind (arith, filter_all, present_all, each)

-- with the claim of all
pub unswept_all : (t : ℕ) (a : Ledger) → IsLedger (λ _. true) a → IsUnswept t a
unswept_all t a k = grind (arith, filter_all, claimed_present, each)

-- with the claim of those that are left
pub unswept_rest : (t : ℕ) (a : Ledger) → IsLedger (is_there t) a → IsUnswept t a
unswept_rest t a k = grind (arith, claimed_present)

-- The members of a next run, numbered anew.

-- the first members are carried
pub record AreCarried (r : Roster) (place : ℕ) (next : Ledger) : Type 0 where
  pub members : listed next ≡ map carried (take place r.members)
  pub processors : next.processors ≡ r.machine.processors
  pub frame : next.frame ≡ r.machine.frame
  pub admitted : next.admitted ≡ place
  pub numbers : next.admitted ≡ length (listed next)
  pub kept : IsLedger (λ _. true) next

-- ---- no name stands twice

key_there : (es : Numbered) (place : ℕ) (x : Member) → slice_get (values_of es) place ≡ Some x → (k : ℕ) × (slice_get (keys_of es) place ≡ Some k)
key_there [] place x at = absurd (none-some x at)
key_there (e ∷ es) zero x at = (e.0, refl)
key_there (e ∷ es) (suc place) x at = key_there es place x at

same_place : (admitted : ℕ) (es : Numbered) (names : Names) (place other : ℕ) (x y : Member) → IsRegister (λ _. true) admitted es names → slice_get (values_of es) place ≡ Some x → slice_get (values_of es) other ≡ Some y → is_named x.name y ≡ true → other ≡ place
same_place admitted es names place other x y r here there named =
    let key = key_there es place x here in
    let leads = sym (number_at (λ _. true) names es place x r.found here refl) ∙ key.1 in
    one_place (keys_of es) key.0 place other r.unique key.1
    (number_at (λ _. true) names es other y r.found there refl ∙ ap (λ n. lookup (name_eq n) names) (sym (same_name x.name y.name named)) ∙ leads)

carried_from : (ms : List Member) (place i : ℕ) (y : Member) → slice_get (map carried (take place ms)) i ≡ Some y → (z : Member) × ((slice_get ms i ≡ Some z) × ((carried z ≡ y) × (i < place)))
carried_from [] zero i y at = absurd (none-some y at)
carried_from [] (suc place) i y at = absurd (none-some y at)
carried_from (m ∷ ms) zero i y at = absurd (none-some y at)
carried_from (m ∷ ms) (suc place) zero y at = (m, (refl, (same_Some (carried m) y at, omega arith)))
carried_from (m ∷ ms) (suc place) (suc i) y at = grind (arith, carried_from ms place i y at)

unnamed : (admitted : ℕ) (es : Numbered) (names : Names) (place : ℕ) (m : Member) → IsRegister (λ _. true) admitted es names → slice_get (values_of es) place ≡ Some m
    → member_named (filter (λ _. true) (map carried (take place (values_of es)))) m.name ≡ None
unnamed admitted es names place m r here = grind (arith, others_named, map, carried_from, same_place)

-- ---- one more is carried

pub carried_joins : (i : Inside) (next : Ledger) (place : ℕ) (m n : Member) → IsLedger (λ _. true) i.ledger → slice_get (listed i.ledger) place ≡ Some m → n ≡ carried m → place + 1 < 2 ^ 64 → AreCarried (roster_of i) place next → CanJoin (λ _. true) next n
carried_joins i next place m n k here is few s =
    let a = i.ledger in
    rw is (record {
      kept = s.kept;
      numbers = omega (arith, few, s.admitted);
      counted = refl;
      free = ap (λ (l : List Member). member_named (filter (λ _. true) l) m.name) s.members ∙ unnamed a.admitted a.members.entries a.names.entries place m k.register here;
      room = grind (arith, claimed_part, filter_all, claimed_carried);
    })

pub carried_more : (r : Roster) (next after : Ledger) (place : ℕ) (m n : Member) → slice_get r.members place ≡ Some m → n ≡ carried m → AreCarried r place next → whole after ≡ record (whole next) { members = listed next ++ n ∷ [] }
    → after.admitted + length (listed next) ≡ next.admitted + length (listed after) → IsLedger (λ _. true) after → AreCarried r (place + 1) after
carried_more r next after place m n here is s all numbers kept =
    let ms : List Member = r.members in
    let members = ap (λ (x : Membership). x.members) all in
    let longer = ap (λ (l : List Member). length l) members in
    record {
      members =
          members ∙ (λ i. s.members i ++ is i ∷ [])
          ∙ sym (ap (map carried) (take_one ms place m here) ∙ map-append carried (take place ms) (m ∷ []));
      processors = ap (λ (x : Membership). x.machine.processors) all ∙ s.processors;
      frame = ap (λ (x : Membership). x.machine.frame) all ∙ s.frame;
      admitted = omega (arith, longer, length-append (listed next) (n ∷ []), numbers, s.admitted);
      numbers = omega (arith, numbers, s.numbers);
      kept = kept;
    }

-- ---- who can be carried

pub able_at : (ms : List Member) (place : ℕ) (m : Member) → slice_get ms place ≡ Some m → AllByRecursion CanBeCarried ms → CanBeCarried m
able_at ms place m at able = at_each CanBeCarried ms place m able at

-- all are listed
pub all_listed : (es : Numbered) (n : ℕ) → n ≡ length es → take n (values_of es) ≡ values_of es
all_listed es n is = grind (arith, common_steps)

-- all are carried
pub all_carried : (i : Inside) (r : Roster) (place : ℕ) (next : Ledger) → roster_of i ≡ r → place ≡ length i.ledger.members.entries → AreCarried r place next → listed next ≡ map carried r.members
all_carried i r place next view end s = grind (arith, common_steps)

-- with no announcement counted the offsets are within the last slot of a boundary
pub bounded_carried : (ms : List Member) → AllByRecursion CanBeCarried ms → EachBounded 0 (map carried ms)
bounded_carried ms able = each_map CanBeCarried (λ (m : Member). last_offset m ≤ LAST_SLOT + LONGEST_DELAY * 0) carried (λ m k. (let fits = k.offset in omega (arith, fits))) ms able
