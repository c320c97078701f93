-- The queue of a ready structure: the release and the key of each name.
use Rattle.std.specs.declared.cmp.Ordering.{Ordering}
use Rattle.std.specs.Ordering.{nat_cmp}
use Rattle.std.specs.Cmp.Lexicographic.{slice_cmp}
pub use Rattle.pfair_weight.specs.Name.{NameValue, name_eq}
use Rattle.std.specs.Prelude.{ℕ, List, map, filter, nat_le, not, refl}
use Rattle.std.specs.List.{list_any}
use Rattle.std.specs.Coded.{Coded, code_by, coded×, coded_ℕ, coded_list}
use Rattle.pfair_order.specs.declared.Key.{Key}
use Rattle.pfair_order.specs.Order.{key_code}
use Rattle.std.specs.FinMap as finmap

-- Names and their order, as the maps use them: by the bytes, a proper prefix first.

abbrev pub name_cmp : NameValue → NameValue → Ordering
name_cmp = slice_cmp nat_cmp

-- from names to the release and the key
abbrev pub Queue : Type 0
Queue = finmap.FinMap name_cmp (ℕ × Key)

-- the keys that are released by the slot
abbrev pub released : ℕ → Queue → List Key
released slot held = map (λ e. e.1) (filter (λ e. nat_le e.0 slot) (finmap.values held))

-- the queue when what it has under the names of the keys goes
abbrev pub without : List Key → Queue → Queue
without keys held = finmap.retain_keys held (λ name. not (list_any (λ k. name_eq name k.name) keys))

-- such a map is stored as its entries
abbrev pub queue_code : Coded Queue
queue_code = finmap.code (coded_list coded_ℕ) (coded× coded_ℕ key_code)

-- what a ready structure is: a slot, and its queue
pub record Content : Type 0 where
  pub now : ℕ
  pub held : Queue

-- such a content is stored as its slot and its entries
abbrev pub content_code : Coded Content
content_code =
    code_by (ℕ × Queue)
    (coded× coded_ℕ queue_code)
    (λ c. (c.now, c.held))
    (λ p. record { now = p.0; held = p.1 })
    (λ _. refl)
