use Rattle.pfair_table.proofs.Common.{drop_all, append-nil, drop_more, Some, None, all_kept, filled, ℕ, ◌+◌, ◌++◌, ◌∙◌, sym, ap, subst, arith, drop, List, [], ◌∷◌, Option}
use Rattle.pfair_table.proofs.PlacesKept.{kept_count}
use Rattle.pfair_table.proofs.Filling.{AreFilledSoFar, AreUsedSoFar, used_start, used_other, used_kept, used_end, filled_kept, filled_free, next_row, least_taken, room_left}
use Rattle.pfair_table.proofs.places.fill_places.Goals.{in-Some, in_default, in-Some-row, in-None}
use Rattle.pfair_table.proofs.places.fill_places.Goals as goal

pub loop-kept_place-init : goal.loop-kept_place-init
loop-kept_place-init c = used_start c.args.kept.now c.requires.below

pub overflow_shl-in_use : goal.overflow_shl-in_use
overflow_shl-in_use c =
    let rest : List (Option ℕ) = drop (c.loop-kept_place.kept_place-index + 1) c.args.kept.now in
    let here : AreUsedSoFar c.loop-kept_place.in_use (Some c.in-Some.place ∷ rest) c.args.kept.now =
    subst (λ (others : List (Option ℕ)). AreUsedSoFar c.loop-kept_place.in_use others c.args.kept.now)
    (drop_more c.args.kept.now c.loop-kept_place.kept_place-index None c.loop-kept_place-test.true ∙ ap (λ (o : Option ℕ). o ∷ rest) c.in-Some.is) c.loop-kept_place.invariant in
    here.below.0

pub loop-kept_place-preserved : goal.loop-kept_place-preserved
loop-kept_place-preserved c =
    let rest : List (Option ℕ) = drop (c.loop-kept_place.kept_place-index + 1) c.args.kept.now in
    let more = drop_more c.args.kept.now c.loop-kept_place.kept_place-index None c.loop-kept_place-test.true in
    elim c.match-kept_place.branch [
      | in-Some w ↦ subst (λ n. AreUsedSoFar n rest c.args.kept.now) (sym w.in_use-is)
          (used_kept c.loop-kept_place.in_use w.in-Some.place rest c.args.kept.now
          (subst (λ (others : List (Option ℕ)). AreUsedSoFar c.loop-kept_place.in_use others c.args.kept.now) (more ∙ ap (λ (o : Option ℕ). o ∷ rest) w.in-Some.is) c.loop-kept_place.invariant))
      | in_default w ↦ subst (λ n. AreUsedSoFar n rest c.args.kept.now) (sym w.in_use-is)
          (used_other c.loop-kept_place.in_use rest c.args.kept.now
          (subst (λ (others : List (Option ℕ)). AreUsedSoFar c.loop-kept_place.in_use others c.args.kept.now) (more ∙ ap (λ (o : Option ℕ). o ∷ rest) w.in_default.is) c.loop-kept_place.invariant))
    ]

pub loop-row-init : goal.loop-row-init
loop-row-init c = record {
  used = all_kept c.args.kept.now;
  in_use =
      used_end c.loop-kept_place.in_use c.args.kept.now
      (subst (λ (rest : List (Option ℕ)). AreUsedSoFar c.loop-kept_place.in_use rest c.args.kept.now) (drop_all c.loop-kept_place.kept_place-index c.args.kept.now c.loop-kept_place-test.false) c.loop-kept_place.invariant);
  fits = grind arith;
  so_far = ap (λ (ps : List ℕ). ps ++ filled (all_kept c.args.kept.now) c.args.kept.now) (c.reserve.ensures.items ∙ c.clear.ensures.items);
  room = omega (arith, kept_count c.args.kept.now, c.requires.rows);
}

pub overflow_shl-in_use-in-None : goal.overflow_shl-in_use-in-None
overflow_shl-in_use-in-None c =
    let here = next_row c.args.kept.now c.loop-row-test.true c.in-None.is c.loop-row.invariant in
    (least_taken c.loop-row.in_use here.used c.trailing_ones-least.result c.trailing_ones-least.ensures here.fits here.in_use (room_left _ _ _ _ here)).3

pub loop-row-preserved : goal.loop-row-preserved
loop-row-preserved c =
    let rest : List (Option ℕ) = drop (c.loop-row.row-index + 1) c.args.kept.now in
    let whole : List ℕ = filled (all_kept c.args.kept.now) c.args.kept.now in
    let places : List ℕ = c.loop-row.places.items in
    subst (λ (ps : List ℕ). AreFilledSoFar c.match-row.in_use ps rest whole) (sym c.in_ok-push.ensures.items)
    (elim c.match-row.branch [
      | in-Some-row w ↦
          (let here = next_row c.args.kept.now c.loop-row-test.true w.in-Some-row.is c.loop-row.invariant in
          subst (λ n. AreFilledSoFar n (places ++ c.match-row.place ∷ []) rest whole) (sym w.in_use-is)
          (subst (λ k. AreFilledSoFar c.loop-row.in_use (places ++ k ∷ []) rest whole) (sym w.place-is) (filled_kept c.loop-row.in_use places w.in-Some-row.place rest whole here)))
      | in-None w ↦
          (let here = next_row c.args.kept.now c.loop-row-test.true w.in-None.is c.loop-row.invariant in
          let least = least_taken c.loop-row.in_use here.used w.trailing_ones-least.result w.trailing_ones-least.ensures here.fits here.in_use (room_left c.loop-row.in_use places rest whole here) in
          subst (λ n. AreFilledSoFar n (places ++ c.match-row.place ∷ []) rest whole) (sym w.in_use-is)
          (filled_free c.loop-row.in_use _ places c.match-row.place rest whole here (w.place-is ∙ least.0) least.1 least.2))
    ])

pub returns : goal.returns
returns c =
    let whole : List ℕ = filled (all_kept c.args.kept.now) c.args.kept.now in
    let here : AreFilledSoFar c.loop-row.in_use c.loop-row.places.items [] whole =
    subst (λ (rest : List (Option ℕ)). AreFilledSoFar c.loop-row.in_use c.loop-row.places.items rest whole) (drop_all c.loop-row.row-index c.args.kept.now c.loop-row-test.false) c.loop-row.invariant in
    sym (append-nil c.loop-row.places.items) ∙ here.so_far
