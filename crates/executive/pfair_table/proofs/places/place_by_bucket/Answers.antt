use Rattle.pfair_table.proofs.Common.{slice_get-get_or, name_exact, Pick, ℕ, ◌-◌, ◌<◌, ◌∙◌, sym, ap, arith, length, get_or, Some, ◌≢◌, slice_index}
use Rattle.pfair_table.proofs.Filling.{none_by_bucket, place_by_row}
use Rattle.pfair_table.proofs.places.place_by_bucket.Goals as goal

pub returns-then-end-eq0 : goal.returns-then-end-eq0
returns-then-end-eq0 c = none_by_bucket c.args.table.now c.args.ends.now c.args.places.now c.args.name.now c.requires.of (ap (slice_index c.args.ends.now) (sym c.bucket_of.ensures.value) ∙ c.if-end-eq0.true)

pub returns-then-eq : goal.returns-then-eq
returns-then-eq c =
    let row : ℕ = get_or c.args.ends.now c.bucket_of.result 0 - 1 in
    let some : get_or c.args.ends.now c.bucket_of.result 0 ≢ 0 = c.if-end-eq0.false in
    let le = c.requires.of.within c.bucket_of.result in
    let inside : row < length c.args.table.now = omega (arith, some, le) in
    c.place_of_row.ensures
    ∙ place_by_row c.args.table.now c.args.places.now c.args.name.now row c.index-table-row.result c.requires.once
    (slice_get-get_or c.args.table.now row c.index-table-row.result inside ∙ ap Some (sym c.index-table-row.is))
    (ap (λ (p : Pick). p.name) c.index-table-row.is ∙ name_exact (get_or c.args.table.now row c.index-table-row.result).name c.args.name.now (sym c.eq.ensures ∙ c.if-eq.true))
