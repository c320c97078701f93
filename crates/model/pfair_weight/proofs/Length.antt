-- The length of a name, by the number that its bytes spell, the first of them the lowest, with the zeros after it.
use Rattle.pfair_weight.proofs.Common.{slice_cmp, nat_cmp, ordering_then, may_stand, IsTaskName, before_zero, with_zeros, IsPadded, ℕ, zero, suc, ◌≡◌, ◌+◌, ◌-◌, ◌<◌, ◌≤◌, true, false, List, [], ◌∷◌, ◌++◌, length, get_or, sym, ap, ◌∙◌, subst, arith, replicate, slice_index, nat_tests, common_steps, w128, byte_worth, from_le_bytes, leading_zeros, sum_through, leading_top, pow_pos, pow-suc, ◌*◌, ◌/◌, ◌^◌, take, refl, ◌==◌, drop, Equal, nat_list_cmp_total, tied_itself, drop-replicate}
use Rattle.std.proofs.lemmas.Bool.{ne_eqb, cases_lt}
use Rattle.std.proofs.Math.Pow.{pow-add, pow_mono}
use Rattle.std.proofs.Math.Seq.{take-append_seam}
use Rattle.pfair_weight.specs.declared.name.TaskName.TheInside.{Inside}

-- Names, and the bytes that store them.

-- each of these is a byte, and not 0
abbrev pub AreBytes : List ℕ → Type 0
AreBytes [] = Unit {0}
AreBytes (byte ∷ bytes) = (0 < byte) × (byte < 256) × AreBytes bytes

-- what may stand in a name is a byte, and not 0
some_byte : (place byte : ℕ) → may_stand place byte ≡ true → (0 < byte) × (byte < 256)
some_byte place byte h = grind (arith, nat_tests)

bytes_from : (bytes : List ℕ) (from : ℕ) → ((place : ℕ) → place < length bytes → may_stand (from + place) (slice_index bytes place) ≡ true) → AreBytes bytes
bytes_from [] from h = tt
bytes_from (byte ∷ bytes) from h =
    let here = some_byte (from + 0) byte (h 0 (omega arith)) in (
      here.0,
      here.1,
      bytes_from bytes (suc from) (λ place within.
          (let next : from + suc place ≡ suc from + place = omega arith in
          subst (λ (at : ℕ). may_stand at (slice_index bytes place) ≡ true) next (h (suc place) (omega arith)))),
    )

pub name_bytes : (name : List ℕ) → IsTaskName name → AreBytes name
name_bytes name h = bytes_from name 0 (λ place within. subst (λ (at : ℕ). may_stand at (slice_index name place) ≡ true) (let same : place ≡ 0 + place = omega arith in same) (h.each_may_stand place within))

-- bytes that were looked at one by one
pub is_name : (bytes : List ℕ) (place : ℕ) → (length bytes == 0) ≡ false → length bytes ≤ 16 → ((k : ℕ) → k < place → may_stand k (get_or bytes k 0) ≡ true) → length bytes ≤ place → IsTaskName bytes
is_name bytes place some short each all = grind (arith, nat_tests)

-- ---- the name in the bytes

zeros_alone : (n : ℕ) → before_zero (replicate n 0) ≡ []
zeros_alone n = grind arith

pub read_back : (name : List ℕ) (n : ℕ) → AreBytes name → before_zero (name ++ replicate n 0) ≡ name
read_back [] n h = zeros_alone n
read_back (byte ∷ name) n h = grind (arith, ne_eqb, read_back name n h.2)

module _ (name after : List ℕ) (named : IsTaskName name) (same : after ≡ name) where
  stored : after ++ drop (length name) (replicate 16 0) ≡ with_zeros name
  stored = ap (λ l. l ++ drop (length name) (replicate 16 0)) same ∙ ap (λ l. name ++ l) (drop-replicate (length name) 16 0)

  pub name_stored : before_zero (after ++ drop (length name) (replicate 16 0)) ≡ name
  name_stored = ap before_zero stored ∙ read_back name (16 - length name) (name_bytes name named)

  pub is_padded : IsPadded (record { bytes = after ++ drop (length name) (replicate 16 0) })
  is_padded = record { named = subst IsTaskName (sym name_stored) named; padded_with_zeros = stored ∙ ap with_zeros (sym name_stored) }

-- ---- the order

pub zeros_order : (a b : List ℕ) (m n : ℕ) → AreBytes a → AreBytes b → length a + m ≡ length b + n → slice_cmp nat_cmp (a ++ replicate m 0) (b ++ replicate n 0) ≡ slice_cmp nat_cmp a b
zeros_order [] [] m n h k fits = subst (λ (j : ℕ). slice_cmp nat_cmp (replicate m 0) (replicate j 0) ≡ Equal) (let same : m ≡ n = omega arith in same) (tied_itself nat_list_cmp_total (replicate m 0))
zeros_order [] (y ∷ b) zero n h k fits = absurd (omega arith)
zeros_order [] (y ∷ b) (suc m) n h k fits = grind (arith, nat_tests)
zeros_order (x ∷ a) [] m zero h k fits = absurd (omega arith)
zeros_order (x ∷ a) [] m (suc n) h k fits = grind (arith, nat_tests)
zeros_order (x ∷ a) (y ∷ b) m n h k fits = ap (ordering_then (nat_cmp x y)) (zeros_order a b m n h.2 k.2 (omega arith))

-- the number that bytes spell, the first of them the lowest
abbrev spelled : List ℕ → ℕ
spelled [] = 0
spelled (byte ∷ bytes) = byte + 256 * spelled bytes

-- ---- it is what the bytes are read as

pub first_apart : (f : ℕ → ℕ) (k : ℕ) → sum_through f (suc k) ≡ f 0 + sum_through (λ i. f (suc i)) k
first_apart f zero = refl
first_apart f (suc k) = let before = first_apart f k in omega (arith, before)

raised : (byte i : ℕ) → byte_worth (suc i) byte ≡ 256 * byte_worth i byte
raised byte zero = omega arith
raised byte (suc i) =
    let same : byte * (256 ^ suc i * 256) ≡ 256 * (byte * 256 ^ suc i) = omega arith in
    ap (λ n. byte * n) (pow-suc 256 (suc i)) ∙ same

all_raised : (bytes : List ℕ) (k : ℕ) → sum_through (λ i. byte_worth (suc i) (slice_index bytes i)) k ≡ 256 * sum_through (λ i. byte_worth i (slice_index bytes i)) k
all_raised bytes zero = raised (slice_index bytes 0) 0
all_raised bytes (suc k) = grind (arith, raised, all_raised bytes k)

read_as : (bytes : List ℕ) (k : ℕ) → length bytes ≡ suc k → sum_through (λ i. byte_worth i (slice_index bytes i)) k ≡ spelled bytes
read_as [] k fits = absurd (omega (arith, fits))
read_as (byte ∷ []) zero fits = let alone : byte ≡ byte + 256 * 0 = omega arith in alone
read_as (byte ∷ next ∷ bytes) zero fits = absurd (omega (arith, fits))
read_as (byte ∷ bytes) (suc k) fits =
    first_apart (λ i. byte_worth i (slice_index (byte ∷ bytes) i)) k
    ∙ ap (λ n. byte + n) (all_raised bytes k ∙ ap (λ n. 256 * n) (read_as bytes k (omega (arith, fits))))

-- ---- its size

-- 256 to the k, by which the bytes of a number count
abbrev powers : ℕ → ℕ
powers k = 2 ^ (8 * k)

next_power : (k : ℕ) → powers (suc k) ≡ 256 * powers k
next_power k = let same : 8 * suc k ≡ 8 + 8 * k = omega arith in ap (λ m. 2 ^ m) same ∙ pow-add 2 8 (8 * k)

zeros_spell : (m : ℕ) → spelled (replicate m 0) ≡ 0
zeros_spell zero = refl
zeros_spell (suc m) = let before = zeros_spell m in omega (arith, before)

-- with as many zeros as one likes after the bytes, it is below 256 to their number
above : (bytes : List ℕ) (m : ℕ) → AreBytes bytes → spelled (bytes ++ replicate m 0) < powers (length bytes)
above [] m h = omega (arith, zeros_spell m)
above (byte ∷ bytes) m h = grind (arith, next_power, above bytes m h.2)

-- and not below 256 to one less
below : (byte : ℕ) (bytes : List ℕ) (m : ℕ) → AreBytes (byte ∷ bytes) → powers (length bytes) ≤ spelled ((byte ∷ bytes) ++ replicate m 0)
below byte [] m h = let some = h.0 in omega (arith, some)
below byte (next ∷ bytes) m h = grind (arith, next_power, below next bytes m h.2)

-- ---- the length

-- a number of k + 1 bytes, the highest not 0: what its leading zeros leave of 16 bytes
zeros_before : (n k : ℕ) → k ≤ 15 → n < 2 ^ 128 → powers k ≤ n → n < powers (suc k) → 16 - leading_zeros w128 n / 8 ≡ suc k
zeros_before n k few fits from to =
    let some = pow_pos (8 * k) in
    let top = leading_top 128 n (omega (arith, some, from)) fits in
    grind (arith, pow_mono, cases_lt)

fits : (k n : ℕ) → k ≤ 16 → n < powers k → n < 2 ^ 128
fits k n few h = grind (arith, pow_mono, common_steps)

-- what is read from the bytes of a name has 16 less its length of zero bytes before it
length_by_zeros : (name : List ℕ) (m : ℕ) → IsTaskName name → length (name ++ replicate m 0) ≡ 16 → 16 - leading_zeros w128 (from_le_bytes w128 (name ++ replicate m 0)) / 8 ≡ length name
length_by_zeros [] m named long = absurd (let some = named.not_empty in omega (arith, some))
length_by_zeros (byte ∷ bytes) m named long =
    let few = named.not_too_long in
    let are = name_bytes (byte ∷ bytes) named in
    let to = above (byte ∷ bytes) m are in
    (λ i. 16 - leading_zeros w128 (read_as ((byte ∷ bytes) ++ replicate m 0) 15 long i) / 8)
    ∙ zeros_before (spelled ((byte ∷ bytes) ++ replicate m 0)) (length bytes) (omega (arith, few)) (fits (suc (length bytes)) _ (omega (arith, few)) (omega (arith, to))) (below byte bytes m are) (omega (arith, to))

pub name_length : (a : Inside) → IsPadded a → length a.bytes ≡ 16 → 16 - leading_zeros w128 (from_le_bytes w128 a.bytes) / 8 ≡ length (before_zero a.bytes)
name_length a p long = grind (arith, length_by_zeros)

-- ---- the bytes of a name

pub name_taken : (a : Inside) → IsPadded a → take (length (before_zero a.bytes)) a.bytes ≡ before_zero a.bytes
name_taken a p = ap (λ bytes. take (length (before_zero a.bytes)) bytes) p.padded_with_zeros ∙ take-append_seam (before_zero a.bytes) (replicate (16 - length (before_zero a.bytes)) 0)
