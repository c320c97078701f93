-- Names of tasks: what they may be, how they are stored, and their order.
use Rattle.std.specs.Prelude.{ℕ, ◌≡◌, ◌<◌, ◌≤◌, ◌==◌, Bool, true, false, nat_le, nat_eq, ◌&&◌, ◌||◌, List, length, map, slice_index, [], ◌-◌, ◌∷◌, ◌++◌, replicate, if◌then◌else◌, ◌↔◌, position, slice_get, Some}
use Rattle.std.specs.List.{IsDistinct}
use Rattle.std.specs.Cmp.Lexicographic.{pointwise, slice_cmp, bytes_decides, texts_ties}
use Rattle.pfair_weight.specs.declared.name.NameFault.{NameFault}
use Rattle.pfair_weight.specs.declared.name.NameFault.TheVariants.{Empty, TooLong, BadByte}
use Rattle.std.proofs.Common.{ap, sym, arith, refl, ◌∙◌, get_or}
use Rattle.pfair_weight.specs.declared.name.TaskName.TheInside.{Inside}
use Rattle.std.specs.Int.{w128, from_be_bytes, to_be_bytes}
use Rattle.std.specs.Ordering.{nat_cmp, is_eq}
use Rattle.std.specs.declared.cmp.Ordering.TheVariants.{Less, Equal}
use Rattle.std.proofs.lemmas.List.Quantifiers.{position-Some}
use Rattle.std.proofs.lemmas.Option.{slice_get-get_or}
use Rattle.std.proofs.lemmas.Cmp.{nat_list_cmp_total, tied_itself, nat_cmp_total}
use Rattle.std.proofs.lemmas.Bool.Decides.{nat_tests}

-- What a task name may be.

-- a name, as a contract sees it: its bytes
abbrev pub NameValue : Type 0
NameValue = List ℕ

-- the same bytes
abbrev pub name_eq : NameValue → NameValue → Bool
name_eq = pointwise nat_eq

-- no two have one name
abbrev pub NamesApart : {A : Type 0} → (A → NameValue) → List A → Type 0
NamesApart name xs = IsDistinct name_eq (map name xs)

abbrev pub is_letter : ℕ → Bool
is_letter byte = nat_le 97 byte && nat_le byte 122

abbrev pub is_digit : ℕ → Bool
is_digit byte = nat_le 48 byte && nat_le byte 57

-- whether this byte may stand at this place of a name: a letter, and after the first place also a digit or an underscore
abbrev pub may_stand : ℕ → ℕ → Bool
may_stand place byte = is_letter byte || (nat_le 1 place && (is_digit byte || byte == 95))

-- a task name: 1 to 16 bytes that may stand where they do
pub record IsTaskName (bytes : List ℕ) : Type 0 where
  pub not_empty : 0 < length bytes
  pub not_too_long : length bytes ≤ 16
  pub each_may_stand : (place : ℕ) → place < length bytes → may_stand place (slice_index bytes place) ≡ true

-- the first byte that may not stand where it does, in a text of 1 to 16 bytes
pub record IsFirstBadByte (bytes : List ℕ) (at : ℕ) : Type 0 where
  pub not_empty : 0 < length bytes
  pub not_too_long : length bytes ≤ 16
  pub inside : at < length bytes
  pub bad : may_stand at (slice_index bytes at) ≡ false
  pub first : (place : ℕ) → place < at → may_stand place (slice_index bytes place) ≡ true

-- When each refusal of a name comes, the first that applies, and under which number it is reported.

abbrev pub IsFaultOf : List ℕ → NameFault → Type 0
IsFaultOf bytes Empty = bytes ≡ []
IsFaultOf bytes TooLong = 16 < length bytes
IsFaultOf bytes (BadByte at) = IsFirstBadByte bytes at

abbrev pub name_fault_number : NameFault → ℕ
name_fault_number Empty = 1
name_fault_number TooLong = 2
name_fault_number (BadByte at) = 3

-- How a name's bytes are stored: 16 bytes, with zeros after the name.

-- the bytes before the first zero
abbrev pub before_zero : List ℕ → List ℕ
before_zero [] = []
before_zero (byte ∷ bytes) = if byte == 0 then [] else byte ∷ before_zero bytes

-- the bytes, and zeros up to 16
abbrev pub with_zeros : List ℕ → List ℕ
with_zeros bytes = bytes ++ replicate (16 - length bytes) 0

abbrev pub unpadded : Inside → List ℕ
unpadded a = before_zero a.bytes

pub record IsPadded (a : Inside) : Type 0 where
  pub named : IsTaskName (before_zero a.bytes)
  pub padded_with_zeros : a.bytes ≡ with_zeros (before_zero a.bytes)

abbrev pub padded : List ℕ → Inside
padded bytes = record { bytes = with_zeros bytes }

pub padded-unpadded : (a : Inside) → IsPadded a → padded (unpadded a) ≡ a
padded-unpadded a p = let of_bytes : List ℕ → Inside = λ bytes. record { bytes = bytes } in ap of_bytes (sym p.padded_with_zeros)

-- The number of a name: its bytes and zeros up to 16 as one number, the first byte the highest.

-- a name's number
unfoldable pub number_of : NameValue → ℕ
number_of name = from_be_bytes w128 (with_zeros name)

-- and back
unfoldable pub name_of : ℕ → NameValue
name_of number = before_zero (to_be_bytes w128 number)

-- a name has this number
pub record IsNumber (number : ℕ) : Type 0 where
  pub named : IsTaskName (name_of number)
  pub same : number_of (name_of number) ≡ number

-- The order of names, and when they are equal.

-- names are equal exactly if their bytes are identical
pub identical_names : (a b : List ℕ) → (pointwise nat_eq a b ≡ true) ↔ (a ≡ b)
identical_names a b = bytes_decides a b

-- and tied nowhere else
pub tied_names : (a b : List ℕ) → (slice_cmp nat_cmp a b ≡ Equal) ↔ (a ≡ b)
tied_names a b = (
  (λ tied. (bytes_decides a b).0 (texts_ties a b ∙ ap is_eq tied)),
  (λ same. rw same (tied_itself nat_list_cmp_total b)),
)

-- the place that is found for a name is its own
pub name_at : (names : List (List ℕ)) (name : List ℕ) (i : ℕ) → position (pointwise nat_eq name) names ≡ Some i → slice_get names i ≡ Some name
name_at names name i e =
    let found = position-Some (pointwise nat_eq name) names i name e in
    slice_get-get_or names i name found.0 ∙ ap Some (sym ((bytes_decides name (get_or names i name)).0 found.1))

-- a byte ties with itself
tied_byte : (x : ℕ) → nat_cmp x x ≡ Equal
tied_byte x = tied_itself nat_cmp_total x

-- a proper prefix goes first
pub prefix_goes_first : (a b : List ℕ) → 0 < length b → slice_cmp nat_cmp a (a ++ b) ≡ Less
prefix_goes_first [] [] some = absurd (omega arith)
prefix_goes_first [] (y ∷ b) some = refl
prefix_goes_first (x ∷ a) b some = rw (tied_byte x) (prefix_goes_first a b some)

-- else the first byte that differs decides
pub first_byte_decides : (a b c : List ℕ) (x y : ℕ) → x < y → slice_cmp nat_cmp (a ++ (x ∷ b)) (a ++ (y ∷ c)) ≡ Less
first_byte_decides [] b c x y less =
    let smaller : nat_cmp x y ≡ Less = grind (arith, nat_tests) in
    rw smaller refl
first_byte_decides (z ∷ a) b c x y less = rw (tied_byte z) (first_byte_decides a b c x y less)
