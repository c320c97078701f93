-- What a key holds, by functions: the join and the order at one key.
use Rattle.std.specs.Prelude.{◌≡◌, ◌≢◌, ◌⊎◌, refl, ◌↔◌, Bool, true, Option, Some, None, if◌then◌else◌}
use Rattle.std.proofs.Common.{sym, ◌∙◌, subst, ⊎_elim, ap, false, inl, inr, cond}
use Rattle.pfair_lattice.specs.Order.{IsOrder, IsLeastUpperBound, OptionBelow, OptionJoins}
use Rattle.pfair_lattice.specs.declared.join_map.Flat.{Flat}
use Rattle.pfair_lattice.specs.declared.join_map.Flat.TheVariants.{One, Torn}
use Rattle.std.proofs.lemmas.Bool.{true≢false}
use Rattle.std.proofs.lemmas.Option.{none-some}

-- One content, or the mark that two different ones met.

-- the same content, or torn on the right
abbrev pub FlatBelow : {T : Type 0} → Flat T → Flat T → Type 0
FlatBelow a Torn = Unit {0}
FlatBelow a (One y) = a ≡ One y

-- the common content if they are equal, else torn
abbrev pub FlatJoins : {T : Type 0} → Flat T → Flat T → Flat T → Type 0
FlatJoins a b c = ((a ≡ b) × (c ≡ a)) ⊎ ((a ≢ b) × (c ≡ Torn))

module _ {T : Type 0} where
  pub FlatBelow-refl : (a : Flat T) → FlatBelow a a
  FlatBelow-refl Torn = tt
  FlatBelow-refl (One x) = refl

  pub FlatBelow-trans : (a b c : Flat T) → FlatBelow a b → FlatBelow b c → FlatBelow a c
  FlatBelow-trans a b Torn p q = tt
  FlatBelow-trans a b (One z) p q = subst (λ (v : Flat T). FlatBelow a v) q p

  pub FlatBelow-antisymm : (a b : Flat T) → FlatBelow a b → FlatBelow b a → a ≡ b
  FlatBelow-antisymm Torn Torn p q = refl
  FlatBelow-antisymm (One x) Torn p q = sym q
  FlatBelow-antisymm a (One y) p q = p

  pub flat_order : IsOrder (FlatBelow {T = T})
  flat_order = record { reflexive = FlatBelow-refl; transitive = FlatBelow-trans; antisymmetric = FlatBelow-antisymm }

  both_below : (a b w : Flat T) → a ≢ b → FlatBelow a w → FlatBelow b w → FlatBelow Torn w
  both_below a b Torn ne p q = tt
  both_below a b (One z) ne p q = absurd (ne (p ∙ sym q))

  pub flat_least : (a b c : Flat T) → FlatJoins a b c → IsLeastUpperBound FlatBelow a b c
  flat_least a b c j = ⊎_elim
      (λ s. record {
        above_first = subst (λ (v : Flat T). FlatBelow a v) (sym s.1) (FlatBelow-refl a);
        above_second = subst (λ (v : Flat T). FlatBelow b v) (sym (s.1 ∙ s.0)) (FlatBelow-refl b);
        least = λ w p q. subst (λ (v : Flat T). FlatBelow v w) (sym s.1) p;
      })
      (λ d. record {
        above_first = subst (λ (v : Flat T). FlatBelow a v) (sym d.1) tt;
        above_second = subst (λ (v : Flat T). FlatBelow b v) (sym d.1) tt;
        least = λ w p q. subst (λ (v : Flat T). FlatBelow v w) (sym d.1) (both_below a b w d.0 p q);
      })
      j

-- what a key holds, if it is held at all
abbrev pub Held : Type 0 → Type 0
Held T = Option (Flat T)

-- two contents at one key, by a test of sameness
abbrev pub flat_join : {T : Type 0} → (T → T → Bool) → Flat T → Flat T → Flat T
flat_join same (One a) (One b) = if same a b then One a else Torn
flat_join same (One a) Torn = Torn
flat_join same Torn y = Torn

-- if one side holds the key, its content
abbrev pub held_join : {T : Type 0} → (T → T → Bool) → Held T → Held T → Held T
held_join same None y = y
held_join same (Some x) None = Some x
held_join same (Some x) (Some y) = Some (flat_join same x y)

-- a key that is held is held there too, with the same content or torn
abbrev pub HeldBelow : {T : Type 0} → Held T → Held T → Type 0
HeldBelow {T} x y = (c : Flat T) → x ≡ Some c → (y ≡ Some c) ⊎ (y ≡ Some Torn)

-- `same` tells contents apart exactly
pub record IsExact {T : Type 0} (same : T → T → Bool) : Type 0 where
  pub alike : (a b : T) → same a b ≡ true → a ≡ b
  pub itself : (a : T) → same a a ≡ true

-- the join at one key is this function, and the least that is above both sides
pub record IsHeldJoin {T : Type 0} (same : T → T → Bool) : Type 0 where
  pub joins : (a b c : Held T) → OptionJoins FlatJoins a b c → c ≡ held_join same a b
  pub below : (a b : Held T) → OptionBelow FlatBelow a b ↔ HeldBelow a b
  pub order : IsOrder (HeldBelow {T = T})
  pub least : (a b : Held T) → IsLeastUpperBound HeldBelow a b (held_join same a b)
  pub commutative : (a b : Held T) → held_join same a b ≡ held_join same b a
  pub associative : (a b c : Held T) → held_join same (held_join same a b) c ≡ held_join same a (held_join same b c)
  pub idempotent : (a : Held T) → held_join same a a ≡ a

-- The join at one key is the least that is above both sides, and so commutative, associative and idempotent; and it is the join that maps make.

one_not_torn : {T : Type 0} (x : T) → One x ≡ Torn → ⊥
one_not_torn x e = cc

-- the one content, or else d
abbrev content_or : {T : Type 0} → T → Flat T → T
content_or d Torn = d
content_or d (One x) = x

abbrev held_or : {T : Type 0} → T → Held T → T
held_or d None = d
held_or d (Some c) = content_or d c

pub below_itself : {T : Type 0} (x : Held T) → HeldBelow x x
below_itself x c e = inl e

pub below_trans : {T : Type 0} (x y z : Held T) → HeldBelow x y → HeldBelow y z → HeldBelow x z
below_trans x y z f g c e = elim (f c e) [
  | inl h ↦ g c h
  | inr h ↦ elim (g Torn h) [ inl k ↦ inr k | inr k ↦ inr k ]
]

pub none_below : {T : Type 0} (z : Held T) → HeldBelow None z
none_below z c e = absurd (none-some c e)

module _ {T : Type 0} (same : T → T → Bool) (exact : IsExact same) where
  -- what is above both is above the join
  pub join_least : (x y z : Held T) → HeldBelow x z → HeldBelow y z → HeldBelow (held_join same x y) z
  join_least None y z f g = g
  join_least (Some x) None z f g = f
  join_least (Some (One a)) (Some (One b)) z f g = by (same a b) refl
    where
      both : same a b ≡ false → (z ≡ Some (One a)) ⊎ (z ≡ Some Torn) → (z ≡ Some (One b)) ⊎ (z ≡ Some Torn) → z ≡ Some Torn
      both e (inl p) (inl q) = (let h : a ≡ b = ap (held_or a) (sym p ∙ q) in absurd (true≢false (sym (exact.itself a) ∙ ap (same a) h ∙ e)))
      both e (inl p) (inr q) = q
      both e (inr p) q = p

      by : (t : Bool) → same a b ≡ t → HeldBelow (Some (cond t (One a) Torn)) z
      by true e = f
      by false e = λ c h. (let t : z ≡ Some Torn = both e (f (One a) refl) (g (One b) refl) in inr t)
  join_least (Some (One a)) (Some Torn) z f g = g
  join_least (Some Torn) (Some y) z f g = f

  -- the join is above its first side
  pub join_first : (x y : Held T) → HeldBelow x (held_join same x y)
  join_first None y = none_below y
  join_first (Some x) None = below_itself (Some x)
  join_first (Some (One a)) (Some (One b)) = by (same a b)
    where
      by : (t : Bool) → HeldBelow (Some (One a)) (Some (cond t (One a) Torn))
      by true = below_itself (Some (One a))
      by false = λ c h. inr refl
  join_first (Some (One a)) (Some Torn) = λ c h. inr refl
  join_first (Some Torn) (Some y) = λ c h. inr refl

  -- and above its second
  pub join_second : (x y : Held T) → HeldBelow y (held_join same x y)
  join_second None y = below_itself y
  join_second (Some x) None = none_below (Some x)
  join_second (Some (One a)) (Some (One b)) = by (same a b) refl
    where
      by : (t : Bool) → same a b ≡ t → HeldBelow (Some (One b)) (Some (cond t (One a) Torn))
      by true e = λ c h. inl (ap (λ v. Some (One v)) (exact.alike a b e) ∙ h)
      by false e = λ c h. inr refl
  join_second (Some (One a)) (Some Torn) = below_itself (Some Torn)
  join_second (Some Torn) (Some y) = λ c h. inr refl

  -- two that are below each other are one
  pub below_antisym : (x y : Held T) → HeldBelow x y → HeldBelow y x → x ≡ y
  below_antisym None None f g = refl
  below_antisym None (Some y) f g = elim (g y refl) [ inl h ↦ h | inr h ↦ absurd (none-some Torn h) ]
  below_antisym (Some x) None f g = elim (f x refl) [ inl h ↦ sym h | inr h ↦ absurd (none-some Torn h) ]
  below_antisym (Some x) (Some y) f g = elim (f x refl) [
    | inl h ↦ sym h
    | inr h ↦ elim (g y refl) [ inl k ↦ k | inr k ↦ k ∙ sym h ]
  ]

  pub join_comm : (x y : Held T) → held_join same x y ≡ held_join same y x
  join_comm x y = below_antisym _ _ (join_least x y _ (join_second y x) (join_first y x)) (join_least y x _ (join_second x y) (join_first x y))

  pub join_idem : (x : Held T) → held_join same x x ≡ x
  join_idem x = below_antisym _ _ (join_least x x x (below_itself x) (below_itself x)) (join_first x x)

  pub join_assoc : (x y z : Held T) → held_join same (held_join same x y) z ≡ held_join same x (held_join same y z)
  join_assoc x y z =
      let xy = held_join same x y in
      let yz = held_join same y z in
      below_antisym (held_join same xy z) (held_join same x yz)
      (join_least xy z (held_join same x yz)
      (join_least x y (held_join same x yz) (join_first x yz) (below_trans y yz (held_join same x yz) (join_first y z) (join_second x yz)))
      (below_trans z yz (held_join same x yz) (join_second y z) (join_second x yz)))
      (join_least x yz (held_join same xy z)
      (below_trans x xy (held_join same xy z) (join_first x y) (join_first xy z))
      (join_least y z (held_join same xy z) (below_trans y xy (held_join same xy z) (join_second x y) (join_first xy z)) (join_second xy z)))

  -- the joins that maps make are these
  flat_joins : (a b c : Flat T) → FlatJoins a b c → c ≡ flat_join same a b
  flat_joins Torn b c (inl h) = h.1
  flat_joins Torn b c (inr h) = h.1
  flat_joins (One a) Torn c (inl h) = absurd (one_not_torn a h.0)
  flat_joins (One a) Torn c (inr h) = h.1
  flat_joins (One a) (One b) c h = by (same a b) refl h
    where
      by : (t : Bool) → same a b ≡ t → FlatJoins (One a) (One b) c → c ≡ cond t (One a) Torn
      by true e (inl k) = k.1
      by true e (inr k) = absurd (k.0 (ap One (exact.alike a b e)))
      by false e (inl k) = (let s : a ≡ b = ap (content_or a) k.0 in absurd (true≢false (sym (exact.itself a) ∙ ap (same a) s ∙ e)))
      by false e (inr k) = k.1

  pub joins_held : (a b c : Held T) → OptionJoins FlatJoins a b c → c ≡ held_join same a b
  joins_held None b c j = j
  joins_held (Some v) None c j = j
  joins_held (Some v) (Some w) None j = absurd j
  joins_held (Some v) (Some w) (Some u) j = ap Some (flat_joins v w u j)

module _ {T : Type 0} where
  -- and so is the order
  flat_below : (v w : Flat T) → FlatBelow v w → HeldBelow (Some v) (Some w)
  flat_below v Torn h c e = inr refl
  flat_below v (One y) h c e = inl (ap Some (sym h) ∙ e)

  pub below_held : (a b : Held T) → OptionBelow FlatBelow a b → HeldBelow a b
  below_held None b h = none_below b
  below_held (Some v) None h = absurd h
  below_held (Some v) (Some w) h = flat_below v w h

  same_below : (v : Flat T) → FlatBelow v v
  same_below Torn = tt
  same_below (One x) = refl

  pub held_below : (a b : Held T) → HeldBelow a b → OptionBelow FlatBelow a b
  held_below None b h = tt
  held_below (Some v) b h = elim (h v refl) [
    | inl e ↦ subst (λ (c : Held T). OptionBelow FlatBelow (Some v) c) (sym e) (same_below v)
    | inr e ↦ subst (λ (c : Held T). OptionBelow FlatBelow (Some v) c) (sym e) tt
  ]
