use Rattle.std.proofs.Common.{OnOk}
use Rattle.pfair_file.proofs.Common.{length-map, get_or-map, map-set, Members, table_view, Logged, lists_of, longer_log, with_entry, FileFault, ℕ, Result, Ok, ◌≡◌, ◌∙◌, ◌<◌, [], length, set, sym, ap, arith, get_or, Vec, Global, common_steps, made_at, Made, ◌-◌, Option, refl, notice_at}
use Rattle.pfair_entry.specs.Notice.{checked}
use Rattle.pfair_entry.specs.declared.entry.Announcement.{Announcement}
use Rattle.pfair_file.specs.Keys.{natural_at, number_at}
use Rattle.pfair_file.specs.declared.field.Field.TheVariants as field
use Rattle.pfair_file.proofs.tables.add_entry.Goals.{then-len-ge-MOST_ENTRIES, else-len-ge-MOST_ENTRIES}
use Rattle.pfair_file.proofs.tables.add_entry.Goals as goal

-- the log of a processor, in the words of the spec
log_there : (logs : Vec (Vec Logged Global) Global) (i : ℕ) (log : Vec Logged Global) → i < length logs.items → log ≡ get_or logs.items i log → get_or (lists_of logs.items) i [] ≡ log.items
log_there logs i log within at = get_or-map (λ l. l.items) logs.items i log [] within ∙ ap (λ (l : Vec Logged Global). l.items) (sym at)

-- if its log is longer by what the table makes
longer_there : (logs : Vec (Vec Logged Global) Global) (version place : ℕ) (table : Members) (made : Made) (log new : Vec Logged Global)
    → made.processor < length logs.items → log ≡ get_or logs.items made.processor log
    → made_at version (length (lists_of logs.items)) place table ≡ Ok made → (r : Result (Unit {0}) FileFault)
    → OnOk r (longer_log made.processor log.items made.entry ≡ Ok new.items)
    → OnOk r (with_entry version place (lists_of logs.items) table ≡ Ok (lists_of (set logs.items made.processor new)))
longer_there logs version place table made log new within at read r longer = grind (arith, log_there, map-set)

-- what a table makes, by its keys
made_of : (version processors place : ℕ) (table : Members) (processor floor : ℕ) (said : Option (ℕ × Announcement))
    → number_at table place field.Processor 0 (processors - 1) ≡ Ok processor → natural_at table place field.Floor ≡ Ok floor → notice_at version place table ≡ Ok said
    → made_at version processors place table ≡ Ok (record { processor = processor; entry = checked (record { floor = floor; said = said }) })
made_of version processors place table processor floor said a b d = rw (a, b, d) refl

pub returns-in-Ok-clause-ok : goal.returns-in-Ok-clause-ok
returns-in-Ok-clause-ok c = elim c.if-len-ge-MOST_ENTRIES.branch [
  | then-len-ge-MOST_ENTRIES w ↦ (let full = sym w.made-is ∙ c.in-Ok.is in absurd (cc))
  | else-len-ge-MOST_ENTRIES w ↦ (let made : Made = record { processor = c.in_ok-processor.processor; entry = w.checked_entry-made.result } in
      let within : made.processor < length c.args.logs.now.items = grind (arith, common_steps) in
      let read : made_at c.args.version (length (lists_of c.args.logs.now.items)) c.args.place (table_view c.args.table.now) ≡ Ok made = grind (arith, made_of, length-map) in
      let entry : made.entry ≡ Ok c.in-Ok.entry = sym w.made-is ∙ c.in-Ok.is in
      let longer : OnOk c.ok_or.result (longer_log made.processor c.index_mut-log.result.now.items made.entry ≡ Ok c.push.new.self.items) = grind (arith, common_steps, entry, w.if-len-ge-MOST_ENTRIES.false) in
      longer_there c.args.logs.now c.args.version c.args.place (table_view c.args.table.now) made c.index_mut-log.result.now c.push.new.self within c.index_mut-log.ensures.value read c.ok_or.result longer)
]
