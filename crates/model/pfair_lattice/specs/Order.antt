-- Orders and joins.
use Rattle.std.specs.Prelude.{◌≡◌, ◌↔◌, ◌⊎◌, refl, Option, None, Some}
use Rattle.std.proofs.Common.{subst, sym, ap, ⊎_elim}

-- `below` is an order
pub record IsOrder {X : Type 0} (below : X → X → Type 0) : Type 0 where
  pub reflexive : (x : X) → below x x
  pub transitive : (x y z : X) → below x y → below y z → below x z
  pub antisymmetric : (x y : X) → below x y → below y x → x ≡ y

-- z is the least of what is above both x and y
pub record IsLeastUpperBound {X : Type 0} (below : X → X → Type 0) (x y z : X) : Type 0 where
  pub above_first : below x z
  pub above_second : below y z
  pub least : (w : X) → below x w → below y w → below z w

-- `now` is `old` with a part of `other` joined in, and joining `other` again gives what joining it to `old` gives
pub record IsPartlyJoined {X : Type 0} (below : X → X → Type 0) (joins : X → X → X → Type 0) (old other now : X) : Type 0 where
  pub kept : below old now
  pub within : (w : X) → below old w → below other w → below now w
  pub again : (z : X) → joins now other z → joins old other z

-- an order, and a relation that finds its least upper bounds: z is x joined with y
pub record IsJoin {X : Type 0} (below : X → X → Type 0) (joins : X → X → X → Type 0) : Type 0 where
  pub order : IsOrder below
  pub least : (x y z : X) → joins x y z → IsLeastUpperBound below x y z

-- a join doesn't depend on which side comes first
abbrev pub IsCommutative : {X : Type 0} → (X → X → X → Type 0) → Type 0
IsCommutative {X} joins = (x y a b : X) → joins x y a → joins y x b → a ≡ b

-- nor on how three are grouped
abbrev pub IsAssociative : {X : Type 0} → (X → X → X → Type 0) → Type 0
IsAssociative {X} joins = (x y z xy yz a b : X) → joins x y xy → joins xy z a → joins y z yz → joins x yz b → a ≡ b

-- a value joined with itself is itself
abbrev pub IsIdempotent : {X : Type 0} → (X → X → X → Type 0) → Type 0
IsIdempotent {X} joins = (x z : X) → joins x x z → z ≡ x

-- two values have one join at most
abbrev pub IsSingle : {X : Type 0} → (X → X → X → Type 0) → Type 0
IsSingle {X} joins = (x y a b : X) → joins x y a → joins x y b → a ≡ b

-- what was joined in changes nothing when it is joined in again
abbrev pub IsAbsorbing : {X : Type 0} → (X → X → X → Type 0) → Type 0
IsAbsorbing {X} joins = (x y z w : X) → joins x y z → joins z y w → w ≡ z

-- x is below y exactly if their join is y
abbrev pub IsOrderOfJoin : {X : Type 0} → (X → X → Type 0) → (X → X → X → Type 0) → Type 0
IsOrderOfJoin {X} below joins = (x y z : X) → joins x y z → (below x y ↔ (z ≡ y))

module _ {X : Type 0} {below : X → X → Type 0} where
  -- there is one least upper bound
  pub least_unique : IsOrder below → (x y a b : X) → IsLeastUpperBound below x y a → IsLeastUpperBound below x y b → a ≡ b
  least_unique o x y a b p q = o.antisymmetric a b (p.least b q.above_first q.above_second) (q.least a p.above_first p.above_second)

  pub least_flip : (x y z : X) → IsLeastUpperBound below x y z → IsLeastUpperBound below y x z
  least_flip x y z p = record { above_first = p.above_second; above_second = p.above_first; least = λ w h k. p.least w k h }

  module _ {joins : X → X → X → Type 0} where
    pub commutes : IsJoin below joins → IsCommutative joins
    commutes l x y a b p q = least_unique l.order x y a b (l.least x y a p) (least_flip y x b (l.least y x b q))

    pub associates : IsJoin below joins → IsAssociative joins
    associates l x y z xy yz a b p q r s =
        let o = l.order in
        let p' = l.least x y xy p in
        let q' = l.least xy z a q in
        let r' = l.least y z yz r in
        let s' = l.least x yz b s in
        let x_b : below x b = s'.above_first in
        let y_b : below y b = o.transitive y yz b r'.above_first s'.above_second in
        let z_b : below z b = o.transitive z yz b r'.above_second s'.above_second in
        let x_a : below x a = o.transitive x xy a p'.above_first q'.above_first in
        let y_a : below y a = o.transitive y xy a p'.above_second q'.above_first in
        let z_a : below z a = q'.above_second in
        o.antisymmetric a b (q'.least b (p'.least b x_b y_b) z_b) (s'.least a x_a (r'.least a y_a z_a))

    pub idempotent : IsJoin below joins → IsIdempotent joins
    idempotent l x z p =
        let p' = l.least x x z p in
        l.order.antisymmetric z x (p'.least x (l.order.reflexive x) (l.order.reflexive x)) p'.above_first

    -- nothing joined in yet
    pub partly_none : IsJoin below joins → (x y : X) → IsPartlyJoined below joins x y x
    partly_none l x y = record { kept = l.order.reflexive x; within = λ w h k. h; again = λ z h. h }

    -- all joined in
    pub partly_all : IsJoin below joins → (x y z : X) → joins x y z → IsPartlyJoined below joins x y z
    partly_all l x y z p =
        let p' = l.least x y z p in
        record {
          kept = p'.above_first;
          within = λ w h k. p'.least w h k;
          again = λ d h.
              let h' = l.least z y d h in
              let e : z ≡ d = l.order.antisymmetric z d h'.above_first (h'.least z (l.order.reflexive z) p'.above_second) in
              subst (λ (v : X). joins x y v) e p;
        }

-- What two maps hold at one key, compared and joined.

-- what is there on the left is there on the right, and below
abbrev pub OptionBelow : {X : Type 0} → (X → X → Type 0) → Option X → Option X → Type 0
OptionBelow below None b = Unit {0}
OptionBelow below (Some v) None = ⊥
OptionBelow below (Some v) (Some w) = below v w

-- what either side has, and their join if both do
abbrev pub OptionJoins : {X : Type 0} → (X → X → X → Type 0) → Option X → Option X → Option X → Type 0
OptionJoins joins None b c = c ≡ b
OptionJoins joins (Some v) None c = c ≡ Some v
OptionJoins joins (Some v) (Some w) None = ⊥
OptionJoins joins (Some v) (Some w) (Some u) = joins v w u

-- all three are there, and R holds of them
abbrev pub OptionAll : {X : Type 0} → (X → X → X → Type 0) → Option X → Option X → Option X → Type 0
OptionAll R None b c = ⊥
OptionAll R (Some v) None c = ⊥
OptionAll R (Some v) (Some w) None = ⊥
OptionAll R (Some v) (Some w) (Some u) = R v w u

-- as it was, or joined, or partly joined if both sides have something
abbrev pub OptionPartly : {X : Type 0} → (X → X → X → Type 0) → (X → X → X → Type 0) → Option X → Option X → Option X → Type 0
OptionPartly joins partly a b c = (c ≡ a) ⊎ (OptionJoins joins a b c ⊎ OptionAll partly a b c)

-- what is there on the right is missing on the left, or has no place in what is there
abbrev pub OptionOutgrows : {X : Type 0} → (X → X → Type 0) → Option X → Option X → Type 0
OptionOutgrows outgrows a None = ⊥
OptionOutgrows outgrows None (Some w) = Unit {0}
OptionOutgrows outgrows (Some v) (Some w) = outgrows v w

module _ {X : Type 0} {below : X → X → Type 0} where
  option_refl : IsOrder below → (a : Option X) → OptionBelow below a a
  option_refl o None = tt
  option_refl o (Some v) = o.reflexive v

  option_trans : IsOrder below → (a b c : Option X) → OptionBelow below a b → OptionBelow below b c → OptionBelow below a c
  option_trans o None b c p q = tt
  option_trans o (Some u) None c p q = absurd p
  option_trans o (Some u) (Some v) None p q = absurd q
  option_trans o (Some u) (Some v) (Some w) p q = o.transitive u v w p q

  option_antisymm : IsOrder below → (a b : Option X) → OptionBelow below a b → OptionBelow below b a → a ≡ b
  option_antisymm o None None p q = refl
  option_antisymm o None (Some w) p q = absurd q
  option_antisymm o (Some v) None p q = absurd p
  option_antisymm o (Some v) (Some w) p q = ap Some (o.antisymmetric v w p q)

  pub option_order : IsOrder below → IsOrder (OptionBelow below)
  option_order o = record { reflexive = option_refl o; transitive = option_trans o; antisymmetric = option_antisymm o }

  module _ {joins : X → X → X → Type 0} where
    option_least : IsJoin below joins → (a b c : Option X) → OptionJoins joins a b c → IsLeastUpperBound (OptionBelow below) a b c
    option_least l None b c j = record {
      above_first = tt;
      above_second = subst (λ (d : Option X). OptionBelow below b d) (sym j) (option_refl l.order b);
      least = λ w p q. subst (λ (d : Option X). OptionBelow below d w) (sym j) q;
    }
    option_least l (Some v) None c j = record {
      above_first = subst (λ (d : Option X). OptionBelow below (Some v) d) (sym j) (l.order.reflexive v);
      above_second = tt;
      least = λ w p q. subst (λ (d : Option X). OptionBelow below d w) (sym j) p;
    }
    option_least l (Some v) (Some w) None j = absurd j
    option_least l (Some v) (Some w) (Some u) j =
        let p = l.least v w u j in
        record {
          above_first = p.above_first;
          above_second = p.above_second;
          least = elim [
            | None ↦ (λ h k. absurd h)
            | Some z ↦ (λ h k. p.least z h k)
          ];
        }

    pub option_join : IsJoin below joins → IsJoin (OptionBelow below) (OptionJoins joins)
    option_join l = record { order = option_order l.order; least = option_least l }

    module _ {partly : X → X → X → Type 0} (l : IsJoin below joins) (resumes : (x y z : X) → partly x y z → IsPartlyJoined below joins x y z) where
      all_partly : (a b c : Option X) → OptionAll partly a b c → IsPartlyJoined (OptionBelow below) (OptionJoins joins) a b c
      all_partly None b c h = absurd h
      all_partly (Some v) None c h = absurd h
      all_partly (Some v) (Some w) None h = absurd h
      all_partly (Some v) (Some w) (Some u) h =
          let p = resumes v w u h in
          record {
            kept = p.kept;
            within = elim [
              | None ↦ (λ f k. absurd f)
              | Some z ↦ (λ f k. p.within z f k)
            ];
            again = elim [
              | None ↦ (λ f. absurd f)
              | Some z ↦ (λ f. p.again z f)
            ];
          }

      pub option_resumes : (a b c : Option X) → OptionPartly joins partly a b c → IsPartlyJoined (OptionBelow below) (OptionJoins joins) a b c
      option_resumes a b c h = ⊎_elim
          (λ e. subst (λ (d : Option X). IsPartlyJoined (OptionBelow below) (OptionJoins joins) a b d) (sym e) (partly_none (option_join l) a b))
          (λ k. ⊎_elim (λ j. partly_all (option_join l) a b c j) (λ q. all_partly a b c q) k)
          h
