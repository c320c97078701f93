use Rattle.pfair_file.proofs.Common.{common_steps, document, empty_logs, entries_at, table_view, Members, FileFault, Memory, Some, Ok, Err, ◌≢◌, refl, rules, get_or-map, length-map, map-set, Logged, lists_of, closed, ℕ, List, ◌≡◌, ◌∙◌, ◌<◌, length, get_or, arith, set, Vec, Global}
use Rattle.std.proofs.lemmas.List.Edits.{map_over_more}
use Rattle.std.specs.Vec.{with_item}
use Rattle.pfair_file.specs.Documents.{script_of_file}
use Rattle.pfair_file.specs.Keys.{settings_of, version_of}
use Rattle.pfair_table.specs.Table.{Settings}
use Rattle.std.specs.Prelude.{IfErr}
use Rattle.pfair_file.proofs.CommandFacts.{err_is}
use Rattle.pfair_file.proofs.TableFacts.{closed-all-short, texts}
use Rattle.pfair_file.proofs.document.read_file.Goals as goal

-- one more log is written
logs-written : (logs : Vec (Vec Logged Global) Global) (i : ℕ) (old new : Vec Logged Global) (f : List Logged → List Logged) → i < length logs.items
    → old ≡ get_or logs.items i old → new.items ≡ f old.items
    → (lists_of (with_item logs i new).items ≡ set (lists_of logs.items) i (f old.items)) × (old.items ≡ get_or (lists_of logs.items) i old.items)
logs-written logs i old new f within at written = grind (arith, map-set, get_or-map)

pub loop-i-preserved : goal.loop-i-preserved
loop-i-preserved c =
    let same = c.loop-i.invariant.1 in
    let within : c.loop-i.i < length c.loop-i.logs.items = omega arith in
    let size = length-map c.add_entries.new.logs.items (λ (l : Vec Logged Global). l.items) in
    let first : c.loop-i.i < length (lists_of c.add_entries.new.logs.items) = omega arith in
    let step = logs-written c.loop-i.logs c.loop-i.i c.index_mut.result.now c.close_log.new.log (closed c.slots-slots.result) within c.index_mut.ensures.value c.in_ok-close_log.ensures in (
      step.0 ∙ map_over_more (closed c.slots-slots.result) (lists_of c.add_entries.new.logs.items) (lists_of c.loop-i.logs.items) c.loop-i.i c.index_mut.result.now.items first c.loop-i.invariant.0 step.1,
      c.loop-i.invariant.1,
      c.loop-i.invariant.2,
    )

pub unreachable-requires : goal.unreachable-requires
unreachable-requires c = grind (arith, common_steps, closed-all-short)

-- what refuses the entries refuses the file
refused_by_entries : (bytes : List ℕ) (table : Members) (version : ℕ) (settings : Settings) (fault : FileFault) → document bytes ≡ Some table → version_of table ≡ Ok version → settings_of table ≡ Ok settings
    → entries_at version (empty_logs settings.processors) table ≡ Err fault → script_of_file bytes ≡ Err fault
refused_by_entries bytes table version settings fault a b d refused = rw (a, b, d, refused) refl

pub returns-in_err-add_entries-clause-fault : goal.returns-in_err-add_entries-clause-fault
returns-in_err-add_entries-clause-fault c =
    let table = table_view c.in-Ok.table in
    let is : document c.args.bytes.now ≡ Some table = grind (arith, texts) in
    let entries : c.in_err-add_entries.field-0.0 ≢ Memory → entries_at c.in_ok-version.version (empty_logs c.in_ok-settings.settings.processors) table ≡ Err c.in_err-add_entries.field-0.0 = search rules in
    err_is (λ r. IfErr r (λ f. f ≢ Memory → script_of_file c.args.bytes.now ≡ Err f)) _ _ c.from_residual-in_err-add_entries.ensures.1
    (λ other. refused_by_entries _ table c.in_ok-version.version c.in_ok-settings.settings _ is (search rules) (search rules) (entries other))

pub returns-clause-ok : goal.returns-clause-ok
returns-clause-ok c = grind (arith, common_steps, texts)
