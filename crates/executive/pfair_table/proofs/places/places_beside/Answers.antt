use Rattle.pfair_table.proofs.Common.{AllByRecursion, kept_places, all_kept, filled, all_among, among_all, ℕ, ◌≡◌, ◌<◌, ◌∙◌, sym, ap, subst, arith, List, Option, length, IfOk, common_steps}
use Rattle.pfair_table.proofs.PlacesKept.{kept_among, kept_long}
use Rattle.pfair_table.proofs.places.places_beside.Goals.{After-deref, then-before-le-FEW_ROWS+else-loop-pick-test, else-before-le-FEW_ROWS+else-loop-pick-else-before-le-FEW_ROWS-test}
use Rattle.pfair_table.proofs.places.places_beside.Goals as goal

kept_are : (c : After-deref) → c.deref.result.now ≡ kept_places c.args.before.now c.args.places.now c.args.table.now
kept_are c =
    c.deref.ensures.value
    ∙ elim c.if-before-le-FEW_ROWS.branch [
      | then-before-le-FEW_ROWS+else-loop-pick-test w ↦ grind (arith, common_steps)
      | else-before-le-FEW_ROWS+else-loop-pick-else-before-le-FEW_ROWS-test w ↦ grind (arith, common_steps)
    ]

pub fill_places-requires-clause-below : goal.fill_places-requires-clause-below
fill_places-requires-clause-below c =
    subst (λ (kept : List (Option ℕ)). AllByRecursion (λ k. k < 64) (all_kept kept)) (sym (kept_are c))
    (all_among (λ k. k < 64) (all_kept (kept_places c.args.before.now c.args.places.now c.args.table.now))
    (λ k h. among_all (λ k. k < 64) c.args.places.now c.requires.below k (kept_among c.args.before.now c.args.places.now c.args.table.now k h)))

pub fill_places-requires-clause-rows : goal.fill_places-requires-clause-rows
fill_places-requires-clause-rows c =
    omega (arith, c.requires.rows, ap length (kept_are c), kept_long c.args.before.now c.args.places.now c.args.table.now)

pub returns : goal.returns
returns c = subst (λ (kept : List (Option ℕ)). IfOk c.fill_places.result (λ here. here.items ≡ filled (all_kept kept) kept)) (kept_are (goal.at.returns c).After-deref) c.fill_places.ensures
