-- The accounts of a book, and the book that they show.
use Rattle.pfair_lag.proofs.Common.{option_map, Share, Tally, Book, tally_of, entered_after, left, slot_more, recorded, tally_shown, entered_shown, IsSound, IsKept, EachFits, counted_at, with_quantum, with_quanta, ◌≡◌, ℕ, zero, suc, ◌+◌, ◌-◌, ◌*◌, ◌<◌, ◌≤◌, Bool, true, false, cond, not, List, [], ◌∷◌, ◌++◌, map, length, take, get_or, Option, Some, None, refl, sym, ap, subst, ◌∙◌, arith, slice_get, filter, is_some, lookup, bytes_decides, mul-le, nothing, START, Account, NameValue, name_eq, has_run, ◌^◌, ◌||◌, position, ◌&&◌, count_by, keys_of, values_of, remove_entry, nat_list_eq_equiv, NamesApart, name_at, sum_by-cons, Enter, Leave, Record, Stay, slot_passed, tally_in, CountsSinceEntering}
use Rattle.std.specs.List.{AllByRecursion, IsDistinct}
use Rattle.std.proofs.lemmas.Bool.Decides.{nat_tests}
use Rattle.std.proofs.lemmas.List.{take_more, map_push}
use Rattle.std.proofs.lemmas.List.Folds.{list_any-append}
use Rattle.std.proofs.lemmas.Option.{none-some, same_Some}
use Rattle.std.proofs.SliceLists.{all_by_recursion_push}
use Rattle.indexmap.specs.IndexMap.{set_value_at}
use Rattle.pfair_weight.specs.declared.window.TheConstants.{MAX_INDEX}
use Rattle.pfair_lag.specs.declared.TheConstants.{MAX_HORIZON}

abbrev pub Accounts : Type 0
Accounts = List (NameValue × Account)

-- the book that accounts show at a time
abbrev pub book_shown : ℕ → Accounts → Book
book_shown time es = record { time = time - START; entered = entered_shown time es }

pub is_some-map : {A B : Type 0} (f : A → B) (o : Option A) → is_some (option_map f o) ≡ is_some o
is_some-map f None = refl
is_some-map f (Some x) = refl

-- ---- what the book has under a name

found_shown : (time : ℕ) (name : NameValue) (es : Accounts) → lookup (name_eq name) (entered_shown time es) ≡ option_map (tally_shown time) (lookup (name_eq name) es)
found_shown time name [] = refl
found_shown time name (e ∷ es) = grind (arith, found_shown time name es)

pub tally_kept : (time : ℕ) (es : Accounts) (name : NameValue) (book : Book) → book_shown time es ≡ book → tally_of name book ≡ option_map (tally_shown time) (lookup (name_eq name) es)
tally_kept time es name book is = ap (tally_of name) (sym is) ∙ found_shown time name es

-- whether a task is entered, by a search of the accounts
pub contained : (time : ℕ) (es : Accounts) (name : NameValue) (book : Book) (b : Bool) → book_shown time es ≡ book → b ≡ is_some (lookup (name_eq name) es) → is_some (tally_of name book) ≡ b
contained time es name book b is found = ap is_some (tally_kept time es name book is) ∙ is_some-map (tally_shown time) (lookup (name_eq name) es) ∙ sym found

sound_at : (time : ℕ) (name : NameValue) (es : Accounts) (a : Account) → AllByRecursion (λ e. IsSound time e.1) es → lookup (name_eq name) es ≡ Some a → IsSound time a
sound_at time name [] a h e = absurd (none-some a e)
sound_at time name (x ∷ es) a h e = grind (arith, sound_at time name es a h.1, lookup, same_Some)

pub sound_found : (time : ℕ) (name : NameValue) (es : Accounts) (a : Account) → IsKept time es → lookup (name_eq name) es ≡ Some a → IsSound time a
sound_found time name es a kept e = sound_at time name es a kept.each e

-- ---- entering

module _ (slots ran : ℕ) (name : NameValue) (weight : Share) where
  pub entered_there : (book : Book) → is_some (tally_of name book) ≡ true → book ≡ entered_after slots ran name weight book
  entered_there book e = grind arith

  abbrev pub account_new : ℕ → Account
  account_new time = record { weight = weight; since = time - slots; last = time; ran = ran }

  pub entered_new : (time : ℕ) (es es' : Accounts) (book : Book)
      → slots ≤ START → IsKept time es → book_shown time es ≡ book → is_some (tally_of name book) ≡ false → es' ≡ es ++ (name, account_new time) ∷ []
      → book_shown time es' ≡ entered_after slots ran name weight book
  entered_new time es es' book before kept is none added = grind (arith, map_push)

  sound_new : (time : ℕ) → START ≤ time → slots ≤ START → ran ≤ MAX_INDEX → weight.cost * (slots + MAX_HORIZON) < 2 ^ 63 → IsSound time (account_new time)
  sound_new time begun before few fits = record { since = omega arith; past = omega arith; counted = omega arith; fits = (let le = mul-le weight.cost (START + MAX_HORIZON - (time - slots)) weight.cost (slots + MAX_HORIZON) (omega arith) (omega arith) in omega (arith, le, fits)) }

  pub kept_new : (time : ℕ) (es es' : Accounts) → IsKept time es → slots ≤ START → ran ≤ MAX_INDEX → weight.cost * (slots + MAX_HORIZON) < 2 ^ 63
      → IsDistinct name_eq (keys_of es') → es' ≡ es ++ (name, account_new time) ∷ [] → IsKept time es'
  kept_new time es es' kept before few fits unique added = grind (arith, all_by_recursion_push, sound_new)

-- ---- leaving

others_all : {X : Type 0} (name : NameValue) (es : List (NameValue × X)) → AllByRecursion (λ n. name_eq name n ≡ false) (keys_of es) → filter (λ (e : NameValue × X). not (name_eq name e.0)) es ≡ es
others_all name [] apart = refl
others_all {X} name (e ∷ es) apart = grind (arith, others_all name es apart.1)

-- to take out the entry of a name is to keep all others
removed : {X : Type 0} (name : NameValue) (es : List (NameValue × X)) → IsDistinct name_eq (keys_of es) → remove_entry (name_eq name) es ≡ filter (λ (e : NameValue × X). not (name_eq name e.0)) es
unfolding IsDistinct
removed name [] unique = refl
removed {X} name (e ∷ es) unique =
    (elim (name_eq name e.0) as (λ b. name_eq name e.0 ≡ b → cond b es (e ∷ remove_entry (name_eq name) es) ≡ cond (not b) (e ∷ filter (λ (e : NameValue × X). not (name_eq name e.0)) es) (filter (λ (e : NameValue × X). not (name_eq name e.0)) es)) [
      | true ↦ λ found.
          let is : name ≡ e.0 = (bytes_decides name e.0).0 found in
          sym (others_all name es (subst (λ (k : NameValue). AllByRecursion (λ n. name_eq k n ≡ false) (keys_of es)) (sym is) unique.0))
      | false ↦ λ other. ap (λ l. e ∷ l) (removed name es unique.1)
    ]) refl

shown_filter : (time : ℕ) (p : NameValue → Bool) (es : Accounts) → entered_shown time (filter (λ (e : NameValue × Account). p e.0) es) ≡ filter (λ (e : NameValue × Tally). p e.0) (entered_shown time es)
shown_filter time p [] = refl
shown_filter time p (e ∷ es) = grind (arith, shown_filter time p es)

pub left_shown : (time : ℕ) (es es' : Accounts) (name : NameValue) (book : Book) → book_shown time es ≡ book → IsKept time es → es' ≡ remove_entry (name_eq name) es → book_shown time es' ≡ left name book
left_shown time es es' name book is kept gone =
    let shown : entered_shown time es' ≡ filter (λ (e : NameValue × Tally). not (name_eq name e.0)) (entered_shown time es) =
    ap (entered_shown time) (gone ∙ removed name es kept.unique) ∙ shown_filter time (λ n. not (name_eq name n)) es in
    let fewer : book_shown time es' ≡ left name (book_shown time es) = λ i. record { time = time - START; entered = shown i } in
    fewer ∙ ap (left name) is

all_removed : (P : NameValue × Account → Type 0) (name : NameValue) (es : Accounts) → AllByRecursion P es → AllByRecursion P (remove_entry (name_eq name) es)
all_removed P name [] h = tt
all_removed P name (e ∷ es) h = grind (arith, all_removed P name es h.1)

pub kept_left : (time : ℕ) (es es' : Accounts) (name : NameValue) → IsKept time es → IsDistinct name_eq (keys_of es') → es' ≡ remove_entry (name_eq name) es → IsKept time es'
kept_left time es es' name kept unique gone = grind (arith, all_removed)

-- ---- a quantum

pub fits_at : (es : Accounts) (i : ℕ) (a : Account) → EachFits es → slice_get (values_of es) i ≡ Some a → a.ran ≤ a.last
fits_at [] i a h e = absurd (none-some a e)
fits_at (x ∷ es) zero a h e = subst (λ (a : Account). a.ran ≤ a.last) (same_Some x.1 a e) h.0
fits_at (x ∷ es) (suc i) a h e = fits_at es i a h.1 e

entry_at : {K V : Type 0} (es : List (K × V)) (i : ℕ) (k : K) (v : V) → slice_get (keys_of es) i ≡ Some k → slice_get (values_of es) i ≡ Some v → slice_get es i ≡ Some (k, v)
entry_at [] i k v e f = absurd (none-some k e)
entry_at (e' ∷ es) zero k v e f = λ j. Some (same_Some e'.0 k e j, same_Some e'.1 v f j)
entry_at (e' ∷ es) (suc i) k v e f = entry_at es i k v e f

abbrev changed : NameValue → (Account → Account) → Accounts → Accounts
changed name f es = map (λ (e : NameValue × Account). (e.0, cond (name_eq name e.0) (f e.1) e.1)) es

others_stay : (name : NameValue) (f : Account → Account) (es : Accounts) → AllByRecursion (λ n. name_eq name n ≡ false) (keys_of es) → changed name f es ≡ es
others_stay name f [] apart = refl
others_stay name f (e ∷ es) apart = ap (λ b. (e.0, cond b (f e.1) e.1) ∷ changed name f es) apart.0 ∙ ap (λ (l : Accounts). e ∷ l) (others_stay name f es apart.1)

apart_at : (k : NameValue) (es : Accounts) (i : ℕ) (name : NameValue) (a : Account) → AllByRecursion (λ n. name_eq k n ≡ false) (keys_of es) → slice_get es i ≡ Some (name, a) → name_eq k name ≡ false
apart_at k [] i name a apart e = absurd (none-some (name, a) e)
apart_at k (x ∷ es) zero name a apart e = subst (λ n. name_eq k n ≡ false) (ap (λ (p : NameValue × Account). p.0) (same_Some x (name, a) e)) apart.0
apart_at k (x ∷ es) (suc i) name a apart e = apart_at k es i name a apart.1 e

-- to write an account at its place is to change the account of its name
written : (es : Accounts) (i : ℕ) (name : NameValue) (a : Account) (f : Account → Account) → IsDistinct name_eq (keys_of es) → slice_get es i ≡ Some (name, a) → set_value_at es i (f a) ≡ changed name f es
unfolding IsDistinct
written [] i name a f unique e = absurd (none-some (name, a) e)
written (x ∷ es) zero name a f unique e =
    let is : x ≡ (name, a) = same_Some x (name, a) e in
    let key : x.0 ≡ name = ap (λ (p : NameValue × Account). p.0) is in
    let apart : AllByRecursion (λ n. name_eq name n ≡ false) (keys_of es) = subst (λ (k : NameValue). AllByRecursion (λ n. name_eq k n ≡ false) (keys_of es)) key unique.0 in
    ap (λ (b : Account). (x.0, f b) ∷ es) (sym (ap (λ (p : NameValue × Account). p.1) is))
    ∙ ap (λ b. (x.0, cond b (f x.1) x.1) ∷ es) (sym ((bytes_decides name x.0).1 (sym key)))
    ∙ ap (λ (l : Accounts). (x.0, cond (name_eq name x.0) (f x.1) x.1) ∷ l) (sym (others_stay name f es apart))
written (x ∷ es) (suc i) name a f unique e =
    let apart : name_eq name x.0 ≡ false = nat_list_eq_equiv.symm name x.0 ∙ apart_at x.0 es i name a unique.0 e in
    ap (λ (l : Accounts). x ∷ l) (written es i name a f unique.1 e)
    ∙ ap (λ b. (x.0, cond b (f x.1) x.1) ∷ changed name f es) (sym apart)

pub quantum_written : (time : ℕ) (es : Accounts) (name : NameValue) (i : ℕ) (a b : Account) → IsDistinct name_eq (keys_of es) → position (name_eq name) (keys_of es) ≡ Some i → slice_get (values_of es) i ≡ Some a → b ≡ counted_at time a → set_value_at es i b ≡ with_quantum time name es
quantum_written time es name i a b unique at there is =
    ap (set_value_at es i) is ∙ written es i name a (counted_at time) unique (entry_at es i name a (name_at (keys_of es) name i at) there)

-- a stranger changes nothing
stranger : (name : NameValue) (f : Account → Account) (es : Accounts) → lookup (name_eq name) es ≡ None → changed name f es ≡ es
stranger name f [] none = refl
stranger name f (e ∷ es) none = grind (arith, stranger name f es, lookup, none-some)

pub quantum_of_stranger : (time : ℕ) (es : Accounts) (name : NameValue) (place : Option ℕ) → ((i : ℕ) → place ≡ Some i → ⊥) → is_some place ≡ is_some (lookup (name_eq name) es) → es ≡ with_quantum time name es
quantum_of_stranger time es name (Some i) none same = absurd (none i refl)
quantum_of_stranger time es name None none same = sym (stranger name (counted_at time) es (nothing (lookup (name_eq name) es) (sym same)))

-- ---- a slot

pub no_quanta : (time : ℕ) (es : Accounts) → es ≡ with_quanta time [] es
no_quanta time [] = refl
no_quanta time (e ∷ es) = ap (λ (l : Accounts). e ∷ l) (no_quanta time es)

once_again : (time : ℕ) (a : Account) → counted_at time (counted_at time a) ≡ counted_at time a
once_again time a = grind (arith, nat_tests)

one_more : (time : ℕ) (a : Account) (b c d : Bool) → d ≡ (b || (c || false)) → cond c (counted_at time (cond b (counted_at time a) a)) (cond b (counted_at time a) a) ≡ cond d (counted_at time a) a
one_more time a true true d e = once_again time a ∙ ap (λ v. cond v (counted_at time a) a) (sym e)
one_more time a true false d e = ap (λ v. cond v (counted_at time a) a) (sym e)
one_more time a false true d e = ap (λ v. cond v (counted_at time a) a) (sym e)
one_more time a false false d e = ap (λ v. cond v (counted_at time a) a) (sym e)

swapped : (a b : NameValue) → name_eq a b ≡ name_eq b a
swapped a b = nat_list_eq_equiv.symm a b

-- one quantum after others
pub quanta_push : (time : ℕ) (names : List NameValue) (name : NameValue) (es : Accounts) → with_quantum time name (with_quanta time names es) ≡ with_quanta time (names ++ name ∷ []) es
quanta_push time names name [] = refl
quanta_push time names name (e ∷ es) = grind (arith, list_any-append, swapped, quanta_push time names name es)

fits_counted : (time : ℕ) (a : Account) → a.ran ≤ a.last → (counted_at time a).ran ≤ (counted_at time a).last
fits_counted time a h = grind (arith, nat_tests)

pub fits_quanta : (time : ℕ) (names : List NameValue) (es : Accounts) → EachFits es → EachFits (with_quanta time names es)
fits_quanta time names [] h = tt
fits_quanta time names (e ∷ es) h = grind (arith, fits_counted, fits_quanta time names es h.1)

pub each_fits : (time : ℕ) (es : Accounts) → AllByRecursion (λ e. IsSound time e.1) es → EachFits es
each_fits time [] h = tt
each_fits time (e ∷ es) h = (let s = h.0.counted in omega (arith, s), each_fits time es h.1)

-- the names of one pick more
pub names_more : {P : Type 0} (f : P → NameValue) (ps : List P) (i : ℕ) (p : P) → i < length ps → get_or ps i p ≡ p → map f (take (i + 1) ps) ≡ map f (take i ps) ++ f p ∷ []
names_more f ps i p within is = ap (map f) (take_more ps i p within) ∙ map_push f (take i ps) (get_or ps i p) ∙ ap (λ x. map f (take i ps) ++ f x ∷ []) is

counted_new : (time : ℕ) (a : Account) → IsSound time a → counted_at (time + 1) a ≡ record a { last = time + 1; ran = a.ran + 1 }
counted_new time a s = grind (arith, nat_tests)

slot_shown : (time : ℕ) (a : Account) (b : Bool) → IsSound time a → tally_shown (time + 1) (cond b (counted_at (time + 1) a) a) ≡ record (tally_shown time a) { slots = time - a.since + 1; ran = a.ran + cond b 1 0 }
slot_shown time a true s = grind (arith, counted_new)
slot_shown time a false s = grind arith

recorded_entries : (time : ℕ) (names : List NameValue) (es : Accounts) → AllByRecursion (λ e. IsSound time e.1) es → entered_shown (time + 1) (with_quanta (time + 1) names es) ≡ map (λ (e : NameValue × Tally). (e.0, slot_more names e.0 e.1)) (entered_shown time es)
recorded_entries time names [] h = refl
recorded_entries time names (e ∷ es) h = grind (arith, slot_shown, recorded_entries time names es h.1)

pub recorded_shown : (time : ℕ) (es es' : Accounts) (names : List NameValue) (book : Book) → book_shown time es ≡ book → IsKept time es → es' ≡ with_quanta (time + 1) names es → book_shown (time + 1) es' ≡ recorded names book
recorded_shown time es es' names book is kept made = grind (arith, recorded_entries)

keys_quanta : (time : ℕ) (names : List NameValue) (es : Accounts) → keys_of (with_quanta time names es) ≡ keys_of es
keys_quanta time names [] = refl
keys_quanta time names (e ∷ es) = ap (λ (l : List NameValue). e.0 ∷ l) (keys_quanta time names es)

sound_quanta : (time : ℕ) (names : List NameValue) (es : Accounts) → AllByRecursion (λ e. IsSound time e.1) es → AllByRecursion (λ e. IsSound (time + 1) e.1) (with_quanta (time + 1) names es)
sound_quanta time names [] h = tt
sound_quanta time names (e ∷ es) h = grind (arith, counted_new, sound_quanta time names es h.1)

pub kept_recorded : (time : ℕ) (es es' : Accounts) (names : List NameValue) → IsKept time es → time - START < MAX_HORIZON → es' ≡ with_quanta (time + 1) names es → IsKept (time + 1) es'
kept_recorded time es es' names kept room made = subst (IsKept (time + 1)) (sym made) (record {
  begun = omega arith;
  short = omega arith;
  unique = subst (λ (ks : List NameValue). IsDistinct name_eq ks) (sym (keys_quanta (time + 1) names es)) kept.unique;
  each = sound_quanta time names es kept.each;
})

-- ---- names in order

name_at_place : (time : ℕ) (es : Accounts) (i : ℕ) → option_map (λ (e : NameValue × Account). e.0) (slice_get es i) ≡ option_map (λ (e : NameValue × Tally). e.0) (slice_get (entered_shown time es) i)
name_at_place time [] i = refl
name_at_place time (e ∷ es) zero = refl
name_at_place time (e ∷ es) (suc i) = name_at_place time es i

pub name_shown : (time : ℕ) (es : Accounts) (i : ℕ) (book : Book) → book_shown time es ≡ book → option_map (λ (e : NameValue × Account). e.0) (slice_get es i) ≡ option_map (λ (e : NameValue × Tally). e.0) (slice_get book.entered i)
name_shown time es i book is = name_at_place time es i ∙ ap (λ (b : Book). option_map (λ (e : NameValue × Tally). e.0) (slice_get b.entered i)) is

keys_shown : (time : ℕ) (es : Accounts) → map (λ (e : NameValue × Tally). e.0) (entered_shown time es) ≡ keys_of es
keys_shown time [] = refl
keys_shown time (e ∷ es) = ap (λ (l : List NameValue). e.0 ∷ l) (keys_shown time es)

pub names_apart : (time : ℕ) (es : Accounts) (book : Book) → book_shown time es ≡ book → IsKept time es → NamesApart (λ (e : NameValue × Tally). e.0) book.entered
names_apart time es book is kept = subst (λ (ks : List NameValue). IsDistinct name_eq ks) (sym (keys_shown time es) ∙ ap (λ (b : Book). map (λ (e : NameValue × Tally). e.0) b.entered) is) kept.unique

length_entered : (time : ℕ) (es : Accounts) → length (entered_shown time es) ≡ length es
length_entered time [] = refl
length_entered time (e ∷ es) = ap suc (length_entered time es)

pub length_shown : (time : ℕ) (es : Accounts) (book : Book) → book_shown time es ≡ book → length es ≡ length book.entered
length_shown time es book is = sym (length_entered time es) ∙ ap (λ (b : Book). length b.entered) is

-- A book counts for each task the slots since it was entered.

abbrev Entries : Type 0
Entries = List (NameValue × Tally)

-- ---- entering

found_push : (name other : NameValue) (t : Tally) (es : Entries) → lookup (name_eq name) (es ++ (other, t) ∷ []) ≡ cond (is_some (lookup (name_eq name) es)) (lookup (name_eq name) es) (cond (name_eq name other) (Some t) None)
found_push name other t [] = refl
found_push name other t (e ∷ es) = grind (arith, found_push name other t es)

abbrev fresh : (slots ran : ℕ) → Share → Tally
fresh slots ran weight = record { weight = weight; slots = slots; ran = ran }

found_or_new : (o : Option Tally) (b : Bool) (t : Tally) → cond (is_some o) o (cond b (Some t) None) ≡ cond (b && not (is_some o)) (Some t) o
found_or_new None true t = refl
found_or_new None false t = refl
found_or_new (Some x) true t = refl
found_or_new (Some x) false t = refl

-- a name that is there is not entered anew
there_already : (name other : NameValue) (book : Book) (t : Tally) → is_some (tally_of other book) ≡ true → tally_of name book ≡ cond (name_eq name other && not (is_some (tally_of name book))) (Some t) (tally_of name book)
there_already name other book t there = grind (arith, bytes_decides)

found_entered : (name other : NameValue) (slots ran : ℕ) (weight : Share) (book : Book)
    → tally_of name (entered_after slots ran other weight book) ≡ cond (name_eq name other && not (is_some (tally_of name book))) (Some (fresh slots ran weight)) (tally_of name book)
found_entered name other slots ran weight book = grind (arith, there_already, found_push, found_or_new)

-- ---- leaving

found_left : (name other : NameValue) (es : Entries) → lookup (name_eq name) (filter (λ (e : NameValue × Tally). not (name_eq other e.0)) es) ≡ cond (name_eq name other) None (lookup (name_eq name) es)
found_left name other [] = elim (name_eq name other) as (λ b. let e : Option Tally = None in e ≡ cond b e e) [ true ↦ refl | false ↦ refl ]
found_left name other (e ∷ es) = grind (arith, found_left name other es, lookup, bytes_decides)

-- ---- a slot

found_recorded : (names : List NameValue) (name : NameValue) (es : Entries) → lookup (name_eq name) (map (λ (e : NameValue × Tally). (e.0, slot_more names e.0 e.1)) es) ≡ option_map (slot_more names name) (lookup (name_eq name) es)
found_recorded names name [] = refl
found_recorded names name (e ∷ es) = grind (arith, found_recorded names name es, lookup, bytes_decides)

slot_counted : (names : List NameValue) (name : NameValue) (s : Stay) → slot_more names name (tally_in name s) ≡ tally_in name (slot_passed names s)
slot_counted names name s =
    let slots : s.slots_before + length s.slots + 1 ≡ s.slots_before + length (names ∷ s.slots) = omega arith in
    let cons : count_by (λ l. has_run l name) (names ∷ s.slots) ≡ cond (has_run names name) 1 0 + count_by (λ l. has_run l name) s.slots = sum_by-cons (λ l. cond (has_run l name) 1 0) names s.slots in
    grind arith

counted_slot : (names : List NameValue) (name : NameValue) (o : Option Stay) → option_map (slot_more names name) (option_map (tally_in name) o) ≡ option_map (tally_in name) (option_map (slot_passed names) o)
counted_slot names name None = refl
counted_slot names name (Some s) = ap Some (slot_counted names name s)

-- ---- any calls

new_stay : (name : NameValue) (b : Bool) (slots ran : ℕ) (weight : Share) (o : Option Stay)
    → cond b (Some (fresh slots ran weight)) (option_map (tally_in name) o) ≡ option_map (tally_in name) (cond b (Some (record { weight = weight; slots_before = slots; ran_before = ran; slots = [] })) o)
new_stay name true slots ran weight o = grind arith
new_stay name false slots ran weight o = refl

no_stay : (name : NameValue) (b : Bool) (o : Option Stay) → cond b None (option_map (tally_in name) o) ≡ option_map (tally_in name) (cond b None o)
no_stay name true o = refl
no_stay name false o = refl

pub counts_since_entering : CountsSinceEntering
counts_since_entering name [] = refl
counts_since_entering name (Enter slots ran other weight ∷ before) = grind (arith, counts_since_entering name before, is_some-map, found_entered, new_stay)
counts_since_entering name (Leave other ∷ before) =
    grind (arith, found_left, no_stay, counts_since_entering name before)
counts_since_entering name (Record names ∷ before) =
    grind (arith, found_recorded, counted_slot, counts_since_entering name before)
