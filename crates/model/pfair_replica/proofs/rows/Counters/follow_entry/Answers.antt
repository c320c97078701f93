use Rattle.pfair_replica.proofs.Common.{false≢true, slice_get_read, held_in, refl, sym, ◌∙◌}
use Rattle.pfair_replica.proofs.Following.{left_by_entry, room_by_entry, entry_torn, entry_untorn}
use Rattle.pfair_replica.proofs.rows.Counters.follow_entry.Goals as goal

pub part_left-part-requires : goal.part_left-part-requires
part_left-part-requires c =
    left_by_entry c.args.capacity c.args.processor c.args.number (held_in c.args.rows.now) c.args.self.now.beginnings.items c.args.self.now.torn c.requires.before c.index.result.now
    (slice_get_read c.args.self.now.beginnings.items _ c.args.processor c.index.result.now refl c.requires.row c.index.ensures)

pub carried_on-requires-clause-room : goal.carried_on-requires-clause-room
carried_on-requires-clause-room c =
    room_by_entry c.args.capacity c.args.processor c.args.number (held_in c.args.rows.now) c.args.self.now.beginnings.items c.args.self.now.torn c.requires.before c.index.result.now c.part_left-part.result
    (slice_get_read c.args.self.now.beginnings.items _ c.args.processor c.index.result.now refl c.requires.row c.index.ensures) c.part_left-part.ensures.shorter

pub returns-then-is_torn-clause-counters : goal.returns-then-is_torn-clause-counters
returns-then-is_torn-clause-counters c =
    rw c.put.ensures.beginnings (entry_torn c.args.capacity c.args.processor c.args.number (held_in c.args.rows.now) c.args.self.now.beginnings.items c.args.self.now.torn c.requires.before c.carried_on.result c.requires.row
    c.carried_on.ensures c.earlier-self.result (c.is_torn.ensures.0 c.if-is_torn.true) (rw c.put.ensures.torn at c.earlier-self.ensures))

pub returns-else-is_torn-clause-counters : goal.returns-else-is_torn-clause-counters
returns-else-is_torn-clause-counters c =
    rw (c.put.ensures.beginnings, c.put.ensures.torn) (entry_untorn c.args.capacity c.args.processor c.args.number (held_in c.args.rows.now) c.args.self.now.beginnings.items c.args.self.now.torn c.requires.before c.carried_on.result c.requires.row
    c.carried_on.ensures (λ torn. false≢true (sym c.if-is_torn.false ∙ c.is_torn.ensures.1 torn)))
