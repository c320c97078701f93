use Rattle.pfair_replica.proofs.Common.{false≢true, cases_eq, cases_lt, option_and_then, nat_cmp, get, HeldBelow, none_below, Row, held, ℕ, ◌≡◌, sym, ap, subst, arith, true, rules, ⊎_elim, refl}
use Rattle.pfair_replica.proofs.replica.Replica.le.Goals as goal

pub returns-then-not-row_le : goal.returns-then-not-row_le
returns-then-not-row_le c = rw (← c.self.view_is, ← c.other.view_is) (
  λ t. absurd (false≢true t),
  λ h. (let yes : c.row_le.result ≡ true = c.row_le.ensures.1 (h c.loop-processor.processor) in absurd (search rules)),
)

pub loop-processor-preserved : goal.loop-processor-preserved
loop-processor-preserved c = λ k below. ⊎_elim
    (λ same. subst (λ (q : ℕ). (n : ℕ) → HeldBelow (held c.args.self.now q n) (held c.args.other.now q n)) (sym same)
    (rw (← c.self.view_is, ← c.other.view_is) (c.row_le.ensures.0 (search rules))))
    (λ ne. c.loop-processor.invariant k (omega (arith, ne, below)))
    (cases_eq k c.loop-processor.processor)

pub returns : goal.returns
returns c = (
  λ t k n. ⊎_elim
      (λ row. c.loop-processor.invariant k (omega (arith, row)) n)
      (λ past. rw (← c.self.view_is) (subst (λ o. HeldBelow o (held c.args.other.now k n)) (sym (ap (option_and_then (λ (r : Row). get nat_cmp r n)) (c.self.invariant.rows.full.beyond k past))) (none_below (held c.args.other.now k n))))
      (cases_lt k c.self.inside.processors),
  λ h. refl,
)
