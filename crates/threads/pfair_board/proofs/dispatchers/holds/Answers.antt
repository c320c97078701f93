use Rattle.pfair_board.proofs.Common.{ReplicaRows, replica_of, ◌∙◌, sym, subst, true≢false, Below}
use Rattle.pfair_board.proofs.dispatchers.holds.Goals.{then-is_ok, else-is_ok}
use Rattle.pfair_board.proofs.dispatchers.holds.Goals as goal

pub returns-then-le : goal.returns-then-le
returns-then-le g c =
    let held_is = c.replica-held.ensures.value in
    elim c.if-is_ok.branch [
      | then-is_ok b ↦ (
        λ yes. (
          sym c.is_ok.ensures.value ∙ b.if-is_ok.true,
          subst (λ (h : ReplicaRows). Below (replica_of h) (replica_of c.args.replica.now)) held_is (b.le.ensures.0 (sym b.value-is ∙ c.if-le.true)),
          subst (λ (h : ReplicaRows). Below (replica_of c.args.replica.now) (replica_of h)) held_is (c.le-then-le.ensures.0 yes),
        ),
        λ holds. c.le-then-le.ensures.1 (subst (λ (h : ReplicaRows). Below (replica_of c.args.replica.now) (replica_of h)) (sym held_is) holds.2),
      )
      | else-is_ok b ↦ absurd (true≢false (sym c.if-le.true ∙ (b.value-is ∙ b.if-is_ok.false)))
    ]

pub returns-else-le : goal.returns-else-le
returns-else-le g c =
    let held_is = c.replica-held.ensures.value in (
      λ yes. absurd (true≢false (sym yes ∙ c.if-le.false)),
      λ holds. elim c.if-is_ok.branch [
        | then-is_ok b ↦ b.value-is ∙ b.le.ensures.1 (subst (λ (h : ReplicaRows). Below (replica_of h) (replica_of c.args.replica.now)) (sym held_is) holds.1)
        | else-is_ok b ↦ absurd (true≢false (sym holds.0 ∙ (sym c.is_ok.ensures.value ∙ b.if-is_ok.false)))
      ],
    )
