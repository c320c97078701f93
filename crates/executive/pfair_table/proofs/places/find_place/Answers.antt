use Rattle.pfair_table.proofs.Common.{nil_from_length, Pick, Table, place_of, ℕ, ◌≡◌, refl, sym, ap, ◌∙◌, arith, inl, inr, List, [], ◌∷◌, length, Some, None, if◌then◌else◌, Name, Iter}
use Rattle.std.specs.declared.iter.Zip.{Zip}
use Rattle.pfair_table.proofs.places.find_place.Goals as goal

-- without places a table has none for a task
no_places : (rows : Table) (places : List ℕ) (name : Name) → length places ≡ 0 → place_of rows places name ≡ None
no_places [] places name e = refl
no_places (p ∷ rows) [] name e = refl
no_places (p ∷ rows) (k ∷ places) name e = absurd (omega (arith, e))

pub loop-pick-init : goal.loop-pick-init
loop-pick-init c =
    ap (λ (z : Zip (Iter Pick) (Iter ℕ)). place_of z.a.rest.now z.b.rest.now c.args.name.now) c.into_iter-pick-iterator.ensures.into_iter_gives
    ∙ (λ i. place_of (c.zip-pick-items.ensures.first i).rest.now (c.zip-pick-items.ensures.second i).rest.now c.args.name.now)
    ∙ (λ i. place_of (c.iter.ensures.rest i) (c.iter-2.ensures.rest i) c.args.name.now)

pub returns-then-eq : goal.returns-then-eq
returns-then-eq c =
    ap (λ b. if b then Some c.in-Some.place.now else place_of c.next.new.self.a.rest.now c.next.new.self.b.rest.now c.args.name.now) (sym c.if-eq.true ∙ c.eq.ensures)
    ∙ (λ i. place_of (sym c.in-Some.ensures.steps.0 i) (sym c.in-Some.ensures.steps.1 i) c.args.name.now) ∙ c.loop-pick.invariant

pub loop-pick-preserved : goal.loop-pick-preserved
loop-pick-preserved c =
    ap (λ b. if b then Some c.in-Some.place.now else place_of c.next.new.self.a.rest.now c.next.new.self.b.rest.now c.args.name.now) (sym c.if-eq.false ∙ c.eq.ensures)
    ∙ (λ i. place_of (sym c.in-Some.ensures.steps.0 i) (sym c.in-Some.ensures.steps.1 i) c.args.name.now) ∙ c.loop-pick.invariant

pub returns : goal.returns
returns c =
    (elim c.in-None.ensures.steps [
      | inl t ↦ ap (λ rows. place_of rows c.loop-pick.pick-iterator.b.rest.now c.args.name.now) (sym (nil_from_length c.loop-pick.pick-iterator.a.rest.now t.1.0))
      | inr t ↦ sym (no_places c.loop-pick.pick-iterator.a.rest.now c.loop-pick.pick-iterator.b.rest.now c.args.name.now t.1.0)
    ]) ∙ c.loop-pick.invariant
