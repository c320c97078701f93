use Rattle.pfair_table.proofs.Common.{AllByRecursion, get_or-map, length-map, map-append, take-map, take_more, Pick, places_after, places_in, IsFit, as_tables, last_or, Table, apart_nil, ℕ, zero, suc, ◌<◌, ◌≤◌, ◌≡◌, ◌∙◌, refl, sym, ap, subst, arith, get_or, List, [], ◌∷◌, ◌++◌, length, map, take, Vec, Global, None, rules, vec_len}
use Rattle.pfair_table.proofs.Alike.{last_fit, last_places, next_are}
use Rattle.pfair_table.proofs.planned.Run.of_tables.Goals.{After-new}
use Rattle.pfair_table.proofs.planned.Run.of_tables.Goals as goal

-- what holds of all holds of the first, and of each
all_take : {A : Type 0} (P : A → Type 0) (n : ℕ) (xs : List A) → AllByRecursion P xs → AllByRecursion P (take n xs)
all_take P zero xs all = tt
all_take P (suc n) [] all = tt
all_take P (suc n) (x ∷ xs) all = (all.0, all_take P n xs all.1)

all_at : {A : Type 0} (P : A → Type 0) (n : ℕ) (xs : List A) (d : A) → n < length xs → AllByRecursion P xs → P (get_or xs n d)
all_at P n [] d within all = absurd (omega (arith, within))
all_at P zero (x ∷ xs) d within all = all.0
all_at P (suc n) (x ∷ xs) d within all = all_at P n xs d (omega (arith, within)) all.1

-- the tables, and those before the slot
abbrev all : After-new → List Table
all c = as_tables c.args.tables

abbrev sofar : After-new → List Table
sofar c = take c.loop-slot.slot (all c)

within : (c : After-new) → c.loop-slot.slot < length (all c)
within c =
    let long : length c.args.tables.items ≡ vec_len c.args.tables = search rules in
    omega (arith, long, length-map c.args.tables.items (λ (v : Vec Pick Global). v.items), c.len-slot-end.ensures, c.loop-slot-test.true)

before : (c : After-new) → c.last_of-before.result.now ≡ last_or [] (sofar c)
before c =
    c.last_of-before.ensures
    ∙ ap (last_or []) (sym (take-map (λ (v : Vec Pick Global). v.items) c.loop-slot.slot c.deref.result.now) ∙ ap (λ (vs : List (Vec Pick Global)). take c.loop-slot.slot (map (λ v. v.items) vs)) c.deref.ensures.value)

there : (c : After-new) → c.last_of-there.result.now ≡ last_or [] (places_in None (sofar c))
there c = c.last_of-there.ensures ∙ ap (λ (vs : List (Vec ℕ Global)). last_or [] (map (λ v. v.items) vs)) c.deref-in-loop-slot.ensures.value ∙ ap (last_or []) c.loop-slot.invariant

here : (c : After-new) → c.deref-in-loop-slot-2.result.now ≡ get_or (all c) c.loop-slot.slot []
here c =
    let inside : c.loop-slot.slot < length c.args.tables.items = omega (arith, length-map c.args.tables.items (λ (v : Vec Pick Global). v.items), within c) in
    c.deref-in-loop-slot-2.ensures.value ∙ ap (λ (v : Vec Pick Global). v.items) c.index.ensures ∙ sym (get_or-map (λ (v : Vec Pick Global). v.items) c.args.tables.items c.loop-slot.slot c.index.result.now [] inside)

fit : (c : After-new) → AllByRecursion (IsFit 64) (sofar c)
fit c = all_take (IsFit 64) c.loop-slot.slot (all c) c.requires

pub places_beside-requires-clause-before : goal.places_beside-requires-clause-before
places_beside-requires-clause-before c = subst (IsFit 64) (sym (before c)) (last_fit 64 [] (sofar c) (omega arith, apart_nil (λ (p : Pick). p.name)) (fit c))

pub places_beside-requires-clause-below : goal.places_beside-requires-clause-below
places_beside-requires-clause-below c = subst (AllByRecursion (λ k. k < 64)) (sym (there c)) (last_places 64 [] [] (record { one_each = refl; below = tt; differ = tt }) (sofar c) (fit c)).below

pub places_beside-requires-clause-rows : goal.places_beside-requires-clause-rows
places_beside-requires-clause-rows c = subst (λ (rows : Table). length rows ≤ 64) (sym (here c)) (all_at (IsFit 64) c.loop-slot.slot (all c) [] (within c) c.requires).0

pub loop-slot-preserved : goal.loop-slot-preserved
loop-slot-preserved c =
    let at = (goal.at.loop-slot-preserved c).After-new in
    let next : c.in_ok-next.next.items ≡ places_after (last_or [] (sofar at)) (last_or [] (places_in None (sofar at))) (get_or (all at) c.loop-slot.slot [])
    = c.in_ok-next.ensures ∙ (λ i. places_after (before at i) (there at i) (here at i)) in
    ap (map (λ (v : Vec ℕ Global). v.items)) c.in_ok-push.ensures.items ∙ map-append (λ (v : Vec ℕ Global). v.items) c.loop-slot.places.items _
    ∙ (λ i. c.loop-slot.invariant i ++ next i ∷ [])
    ∙ sym (next_are None (sofar at) (get_or (all at) c.loop-slot.slot [])) ∙ ap (places_in None) (sym (take_more (all at) c.loop-slot.slot [] (within at)))
