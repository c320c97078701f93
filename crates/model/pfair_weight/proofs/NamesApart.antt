-- Lists in which no two have one name.
use Rattle.pfair_weight.proofs.Common.{bytes_decides, NameValue, name_eq, NamesApart, ◌≡◌, true, false, List, [], ◌∷◌, ◌++◌, length, ◌<◌, sym, subst, ◌∙◌, arith, ◌≢◌, Bool, cond, map, filter, AllPairs, get_or-map, length-map, map_push}
use Rattle.std.specs.List.{AllByRecursion, IsDistinct}
use Rattle.std.proofs.SliceLists.{all_by_recursion_push}
use Rattle.std.proofs.lemmas.Map.Made.{AllPairs-from_IsDistinct, IsDistinct-from_AllPairs}

module _ {A : Type 0} (name : A → NameValue) where
  others : (P : NameValue → Type 0) (xs : List A) → AllByRecursion P (map name xs) → AllByRecursion (λ x. P (name x)) xs
  others P [] h = tt
  others P (x ∷ xs) h = (h.0, others P xs h.1)

  names : (P : NameValue → Type 0) (xs : List A) → AllByRecursion (λ x. P (name x)) xs → AllByRecursion P (map name xs)
  names P [] h = tt
  names P (x ∷ xs) h = (h.0, names P xs h.1)

  others_filter : (P : NameValue → Type 0) (p : A → Bool) (xs : List A) → AllByRecursion P (map name xs) → AllByRecursion P (map name (filter p xs))
  others_filter P p [] h = tt
  others_filter P p (x ∷ xs) h = grind (arith, others_filter P p xs h.1)

  pub apart_nil : NamesApart name []
  unfolding IsDistinct
  apart_nil = tt

  -- the first one's name is no other's
  pub apart_head : (x : A) (xs : List A) → NamesApart name (x ∷ xs) → AllByRecursion (λ y. name_eq (name x) (name y) ≡ false) xs
  unfolding IsDistinct
  apart_head x xs a = others (λ n. name_eq (name x) n ≡ false) xs a.0

  pub apart_tail : (x : A) (xs : List A) → NamesApart name (x ∷ xs) → NamesApart name xs
  unfolding IsDistinct
  apart_tail x xs a = a.1

  pub apart_cons : (x : A) (xs : List A) → AllByRecursion (λ y. name_eq (name x) (name y) ≡ false) xs → NamesApart name xs → NamesApart name (x ∷ xs)
  unfolding IsDistinct
  apart_cons x xs h a = (names (λ n. name_eq (name x) n ≡ false) xs h, a)

  pub apart_filter : (p : A → Bool) (xs : List A) → NamesApart name xs → NamesApart name (filter p xs)
  unfolding IsDistinct
  apart_filter p [] a = tt
  apart_filter p (x ∷ xs) a =
      elim (p x) as (λ b. NamesApart name (cond b (x ∷ filter p xs) (filter p xs))) [
        | true ↦ (others_filter (λ n. name_eq (name x) n ≡ false) p xs a.0, apart_filter p xs a.1)
        | false ↦ apart_filter p xs a.1
      ]

  -- one more, whose name no other has
  pub apart_push : (xs : List A) (y : A) → AllByRecursion (λ x. name_eq (name x) (name y) ≡ false) xs → NamesApart name xs → NamesApart name (xs ++ y ∷ [])
  unfolding IsDistinct
  apart_push [] y h a = (tt, tt)
  apart_push (x ∷ xs) y h a = grind (arith, map_push, all_by_recursion_push, apart_push xs y h.1 a.1)

  pub pairs_from_apart : (xs : List A) → NamesApart name xs → AllPairs (λ x y. name x ≢ name y) xs
  pairs_from_apart xs a i j d earlier within same =
      AllPairs-from_IsDistinct bytes_decides (map name xs) a i j (name d) earlier (omega (arith, length-map xs name, within))
      (get_or-map name xs i d (name d) (omega arith) ∙ same ∙ sym (get_or-map name xs j d (name d) within))

  pub apart_from_pairs : (xs : List A) → AllPairs (λ x y. name x ≢ name y) xs → NamesApart name xs
  unfolding IsDistinct
  apart_from_pairs [] pairs = tt
  apart_from_pairs (x ∷ xs) pairs =
      IsDistinct-from_AllPairs bytes_decides (map name (x ∷ xs)) (λ i j d earlier within same.
      let inside : j < length (x ∷ xs) = omega (arith, length-map (x ∷ xs) name, within) in
      pairs i j x earlier inside (sym (get_or-map name (x ∷ xs) i x d (omega (arith, inside))) ∙ same ∙ get_or-map name (x ∷ xs) j x d inside))

-- the same names in another list
pub apart_map : {A B : Type 0} (name : A → NameValue) (label : B → NameValue) (f : A → B) → ((x : A) → label (f x) ≡ name x) → (xs : List A) → NamesApart name xs → NamesApart label (map f xs)
apart_map {A} name label f same xs a = subst (IsDistinct name_eq) (sym (kept xs)) a
  where
    kept : (xs : List A) → map label (map f xs) ≡ map name xs
    kept [] = λ i. []
    kept (x ∷ xs) = λ i. same x i ∷ kept xs i
