use Rattle.std.proofs.Common.{ℕ, ◌≡◌, ◌+◌, ◌∷◌, ◌++◌, [], map, ap, arith, ◌∙◌}
use Rattle.std.proofs.lemmas.List.{flat_map_more}
use Rattle.std.proofs.lemmas.List.FromFn.{map-range_with_len_more}
use Rattle.std.specs.List.{range_with_len}
use Rattle.pfair_text.specs.Rows.{line, lines_text, text_so_far}
use Rattle.pfair_reports.specs.Runs.{header, window_row}
use Rattle.pfair_weight.specs.Window.{Share, Position}
use Rattle.pfair_reports.proofs.window_rows.windows_table.Goals as goal

-- one more row
table-more : (w : Share) (n : ℕ) → lines_text (header ∷ map (window_row w) (range_with_len 1 n)) ++ line (window_row w (n + 1))
    ≡ lines_text (header ∷ map (window_row w) (range_with_len 1 (n + 1)))
table-more w n =
    rw (map-range_with_len_more (window_row w) 1 n (n + 1) (omega arith)) (flat_map_more line [] (header ∷ map (window_row w) (range_with_len 1 n)) (window_row w (n + 1)))

pub add_window-requires-clause-offset : goal.add_window-requires-clause-offset
add_window-requires-clause-offset c = ap (λ (p : Position). p.theta) c.loop.invariant.2

pub advance-requires : goal.advance-requires
advance-requires c = let at = ap (λ (p : Position). p.index) c.loop.invariant.2 in omega (arith, at, c.requires)

pub loop-preserved : goal.loop-preserved
loop-preserved c = (
  c.in_ok-add_window.ensures.open,
  c.in_ok-add_window.ensures.text ∙ ap (λ (p : Position). text_so_far c.loop.table ++ line (window_row p.weight p.index)) c.loop.invariant.2
      ∙ ap (λ text. text ++ line (window_row c.args.weight (c.loop.counter + 1))) c.loop.invariant.1 ∙ table-more c.args.weight c.loop.counter,
  c.advance.ensures ∙ ap (λ (p : Position). record p { index = p.index + 1 }) c.loop.invariant.2,
)
