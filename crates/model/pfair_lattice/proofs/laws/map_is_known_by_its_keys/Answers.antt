use Rattle.pfair_lattice.specs.Laws.{exact_cmp}
use Rattle.pfair_lattice.specs.Entries.{entries_from_get}
use Rattle.pfair_lattice.proofs.laws.map_is_known_by_its_keys.Goals as goal

pub returns : goal.returns
returns g c = entries_from_get g.met.K.Ord.total (exact_cmp g.K.PartialEq.eq g.K.Ord.cmp g.met.K.Exact.exact g.met.K.Ord.matches_eq)
