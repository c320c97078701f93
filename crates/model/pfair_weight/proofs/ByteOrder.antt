-- The order of names, by the numbers that their bytes spell, the first of them the highest.
use Rattle.pfair_weight.proofs.Common.{w128, byte_at, byte_worth, bytes_high_first, from_be_bytes, to_be_bytes, sum_through, slice_cmp, nat_cmp, ordering_then, MatchOrdering, pow-suc, div-mul-add, mul-add-lt, IsTaskName, before_zero, with_zeros, ℕ, zero, suc, ◌≡◌, ◌+◌, ◌-◌, ◌*◌, ◌/◌, ◌^◌, ◌<◌, List, [], ◌∷◌, ◌++◌, length, refl, sym, ap, subst, ◌∙◌, arith, replicate, slice_index, nat_tests, ◌%◌, length-append, Greater, ranked, length-replicate}
use Rattle.std.specs.declared.cmp.Ordering.{Ordering}
use Rattle.pfair_weight.specs.Name.{number_of, name_of, IsNumber}
use Rattle.pfair_weight.proofs.Length.{first_apart, AreBytes, name_bytes, read_back, zeros_order}

-- each of these is a byte
abbrev Small : List ℕ → Type 0
Small [] = Unit {0}
Small (byte ∷ bytes) = (byte < 256) × Small bytes

-- the number that bytes spell after a number
abbrev spelled : ℕ → List ℕ → ℕ
spelled n [] = n
spelled n (byte ∷ bytes) = spelled (n * 256 + byte) bytes

-- ---- it is what the bytes are read as

abbrev worth : List ℕ → ℕ
worth [] = 0
worth (byte ∷ bytes) = byte_worth (length bytes) byte + worth bytes

by_power : (k byte : ℕ) → byte_worth k byte ≡ byte * 256 ^ k
by_power k byte = grind arith

spelled_worth : (n : ℕ) (bytes : List ℕ) → spelled n bytes ≡ n * 256 ^ length bytes + worth bytes
spelled_worth n [] = omega arith
spelled_worth n (byte ∷ bytes) =
    let rest = spelled_worth (n * 256 + byte) bytes in
    let power = pow-suc 256 (length bytes) in
    let first = by_power (length bytes) byte in
    let spread : (n * 256 + byte) * 256 ^ length bytes ≡ n * (256 ^ length bytes * 256) + byte * 256 ^ length bytes = omega arith in
    grind arith

one_on : (k i : ℕ) → suc k - suc i ≡ k - i
one_on k i = omega arith

read_as : (bytes : List ℕ) (k : ℕ) → length bytes ≡ suc k → sum_through (λ i. byte_worth (k - i) (slice_index bytes i)) k ≡ worth bytes
read_as [] k fits = absurd (omega (arith, fits))
read_as (byte ∷ []) zero fits = omega arith
read_as (byte ∷ next ∷ bytes) zero fits = absurd (omega (arith, fits))
read_as (byte ∷ bytes) (suc k) fits =
    let long : suc k - 0 ≡ length bytes = omega (arith, fits) in
    let rest : length bytes ≡ suc k = omega (arith, fits) in
    first_apart (λ i. byte_worth (suc k - i) (slice_index (byte ∷ bytes) i)) k
    ∙ (λ j. byte_worth (long j) byte + sum_through (λ i. byte_worth (one_on k i j) (slice_index bytes i)) k)
    ∙ ap (λ n. byte_worth (length bytes) byte + n) (read_as bytes k rest)

read : (bytes : List ℕ) → length bytes ≡ 16 → from_be_bytes w128 bytes ≡ spelled 0 bytes
read bytes long = let all = spelled_worth 0 bytes in read_as bytes 15 long ∙ omega (arith, all)

-- ---- the order

less : (xs ys : List ℕ) (m n : ℕ) → length xs ≡ length ys → Small xs → Small ys → m < n → spelled m xs < spelled n ys
less [] [] m n long h k before = before
less [] (y ∷ ys) m n long h k before = absurd (omega (arith, long))
less (x ∷ xs) [] m n long h k before = absurd (omega (arith, long))
less (x ∷ xs) (y ∷ ys) m n long h k before = grind (arith, less xs ys)

is_greater : (m n : ℕ) → n < m → nat_cmp m n ≡ Greater
is_greater m n after = grind (arith, nat_tests, after)

module _ (x y n : ℕ) (xs ys : List ℕ) (fits : length xs ≡ length ys) (h : Small (x ∷ xs)) (k : Small (y ∷ ys)) where
  by_first : nat_cmp (spelled (n * 256 + x) xs) (spelled (n * 256 + x) ys) ≡ slice_cmp nat_cmp xs ys → (r : Ordering) → MatchOrdering r (x < y) (x ≡ y) (y < x)
      → nat_cmp (spelled (n * 256 + x) xs) (spelled (n * 256 + y) ys) ≡ ordering_then r (slice_cmp nat_cmp xs ys)
  by_first rest r before = grind (arith, less, slice_cmp, is_greater)

ordered : (xs ys : List ℕ) (n : ℕ) → length xs ≡ length ys → Small xs → Small ys → nat_cmp (spelled n xs) (spelled n ys) ≡ slice_cmp nat_cmp xs ys
ordered [] [] n long h k = grind (arith, nat_tests)
ordered [] (y ∷ ys) n long h k = absurd (omega (arith, long))
ordered (x ∷ xs) [] n long h k = absurd (omega (arith, long))
ordered (x ∷ xs) (y ∷ ys) n long h k = grind (arith, by_first, ranked, ordered xs ys)

-- ---- names

small_zeros : (m : ℕ) → Small (replicate m 0)
small_zeros zero = tt
small_zeros (suc m) = (omega arith, small_zeros m)

small : (name : List ℕ) (m : ℕ) → AreBytes name → Small (name ++ replicate m 0)
small [] m h = small_zeros m
small (byte ∷ name) m h = (h.1, small name m h.2)

with_zeros_long : (name : List ℕ) → IsTaskName name → length (with_zeros name) ≡ 16
with_zeros_long name named = let few = named.not_too_long in omega (arith, length-append name (replicate (16 - length name) 0), length-replicate {A = ℕ} (16 - length name) 0)

names_order : (a b : List ℕ) → IsTaskName a → IsTaskName b → nat_cmp (number_of a) (number_of b) ≡ slice_cmp nat_cmp a b
unfolding number_of
names_order a b p q = grind (arith, read, ordered, zeros_order, small, name_bytes, with_zeros_long)

-- numbers are in the order of their names
pub numbers_order : (m n : ℕ) → IsNumber m → IsNumber n → nat_cmp m n ≡ slice_cmp nat_cmp (name_of m) (name_of n)
numbers_order m n p q = (λ i. nat_cmp (sym p.same i) (sym q.same i)) ∙ names_order (name_of m) (name_of n) p.named q.named

-- ---- back from the number

worth_less : (bytes : List ℕ) → Small bytes → worth bytes < 256 ^ length bytes
worth_less [] h = omega arith
worth_less (byte ∷ bytes) h =
    let rest = worth_less bytes h.1 in
    let all = mul-add-lt byte (256 ^ length bytes) (worth bytes) 256 h.0 rest in
    omega (arith, all, by_power (length bytes) byte, pow-suc 256 (length bytes))

-- what comes before the bytes
before : (m : ℕ) (bytes : List ℕ) → Small bytes → spelled m bytes / 256 ^ length bytes ≡ m
before m bytes h = ap (λ n. n / 256 ^ length bytes) (spelled_worth m bytes) ∙ div-mul-add m (256 ^ length bytes) (worth bytes) (worth_less bytes h)

first_byte : (m byte : ℕ) (bytes : List ℕ) → byte < 256 → Small bytes → byte_at (length bytes) (spelled (m * 256 + byte) bytes) ≡ byte
first_byte m byte [] fits h = omega (arith, fits)
first_byte m byte (next ∷ bytes) fits h = ap (λ n. n % 256) (before (m * 256 + byte) (next ∷ bytes) h) ∙ omega (arith, fits)

written : (m : ℕ) (bytes : List ℕ) → Small bytes → bytes_high_first (length bytes) (spelled m bytes) ≡ bytes
written m [] h = refl
written m (byte ∷ bytes) h = grind (arith, written (m * 256 + byte) bytes h.1, bytes_high_first, first_byte)

-- the bytes of a name's number
pub number_bytes : (name : List ℕ) → IsTaskName name → to_be_bytes w128 (number_of name) ≡ with_zeros name
unfolding number_of
number_bytes name named =
    let long = with_zeros_long name named in
    ap (to_be_bytes w128) (read (with_zeros name) long)
    ∙ subst (λ k. bytes_high_first k (spelled 0 (with_zeros name)) ≡ with_zeros name) long (written 0 (with_zeros name) (small name (16 - length name) (name_bytes name named)))

pub name_back : (name : List ℕ) → IsTaskName name → name_of (number_of name) ≡ name
unfolding name_of
name_back name named = ap before_zero (number_bytes name named) ∙ read_back name (16 - length name) (name_bytes name named)

pub is_number : (name : List ℕ) → IsTaskName name → IsNumber (number_of name)
is_number name named = record { named = subst IsTaskName (sym (name_back name named)) named; same = ap number_of (name_back name named) }
