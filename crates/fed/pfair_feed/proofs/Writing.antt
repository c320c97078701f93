-- Texts that are sent piece by piece.
use Rattle.std.proofs.Common.{flat_map}
use Rattle.pfair_replica.proofs.TornKeys.{flat_more, flat_next}
use Rattle.pfair_feed.proofs.Common.{append-nil, appends-more, Appends, cases_lt, length-append, take-append-le, take_all, TakesPrefix, numbers_below, ℕ, zero, suc, ◌+◌, ◌≡◌, ◌<◌, inl, inr, sym, ap, subst, ◌∙◌, arith, List, [], ◌++◌, append_assoc, length, take, Option, Result, Ok, Err, OnErr, OnOk, take-append-add}

-- a prefix of the first part
pub prefix_first : (old new : Option (List ℕ)) (xs ys : List ℕ) → TakesPrefix old new xs → TakesPrefix old new (xs ++ ys)
prefix_first old new xs ys (n, few, took) = (
  n,
  (let size = length-append xs ys in omega (arith, size, few)),
  subst (λ (l : List ℕ). Appends old new l) (sym (take-append-le n xs ys few)) took,
)

-- a prefix of the second part, behind the first
pub prefix_behind : (old mid new : Option (List ℕ)) (xs ys : List ℕ) → Appends old mid xs → TakesPrefix mid new ys → TakesPrefix old new (xs ++ ys)
prefix_behind old mid new xs ys first (n, few, took) = (
  length xs + n,
  (let size = length-append xs ys in omega (arith, size, few)),
  subst (λ (l : List ℕ). Appends old new l) (sym (take-append-add xs ys n)) (appends-more old mid new xs (take n ys) first took),
)

pub on_err : {T E P : Type 0} (r : Result T E) → P → OnErr r P
on_err (Ok x) p = tt
on_err (Err e) p = p

-- all of a text went out, or a prefix
pub all_or_cut : {T E : Type 0} (r : Result T E) (old new : Option (List ℕ)) (text : List ℕ) → OnOk r (Appends old new text) → OnErr r (TakesPrefix old new text) → TakesPrefix old new text
all_or_cut (Ok x) old new text all cut = (length text, omega arith, subst (λ (l : List ℕ). Appends old new l) (sym (take_all (length text) text (omega arith))) all)
all_or_cut (Err e) old new text all cut = cut

-- ---- a line for each number

-- the text of one number, and those behind it
flat_on : (f : ℕ → List ℕ) (m n : ℕ) → m < n → (rest : List ℕ) × (flat_map f (numbers_below n) ≡ flat_map f (numbers_below m) ++ (f m ++ rest))
flat_on f m zero h = absurd (omega arith)
flat_on f m (suc n) h = elim (cases_lt m n) [
  | inl less ↦
      (let t = flat_on f m n less in (
        t.0 ++ f n,
        flat_more f n ∙ ap (λ l. l ++ f n) t.1 ∙ append_assoc (flat_map f (numbers_below m)) (f m ++ t.0) (f n) ∙ ap (λ l. flat_map f (numbers_below m) ++ l) (append_assoc (f m) t.0 (f n)),
      ))
  | inr more ↦ (let e : n ≡ m = omega (arith, h, more) in ([], grind (arith, flat_more, append-nil, e)))
]

-- a prefix of one part of a text, behind what stands before it
cut_in : (old mid new : Option (List ℕ)) (before line rest whole : List ℕ) → Appends old mid before → TakesPrefix mid new line → whole ≡ before ++ (line ++ rest) → TakesPrefix old new whole
cut_in old mid new before line rest whole first cut is = rw is (prefix_behind old mid new before (line ++ rest) first (prefix_first mid new line rest cut))

-- of the text of one number, behind those of the numbers before
pub cut_short : (f : ℕ → List ℕ) (m n : ℕ) (old mid new : Option (List ℕ)) (line : List ℕ) → m < n → f m ≡ line → Appends old mid (flat_map f (numbers_below m)) → TakesPrefix mid new line
    → TakesPrefix old new (flat_map f (numbers_below n))
cut_short f m n old mid new line h is first cut =
    let t = flat_on f m n h in
    cut_in old mid new (flat_map f (numbers_below m)) line t.0 (flat_map f (numbers_below n)) first cut (t.1 ∙ ap (λ l. flat_map f (numbers_below m) ++ (l ++ t.0)) is)

-- if that text is again one for each number
module _ (f g : ℕ → List ℕ) (m i j : ℕ) (same : f m ≡ flat_map g (numbers_below j)) where
  pub cut_inside : (n : ℕ) (old mid new : Option (List ℕ)) (line : List ℕ) → m < n → i < j → g i ≡ line → Appends old mid (flat_map f (numbers_below m) ++ flat_map g (numbers_below i))
      → TakesPrefix mid new line → TakesPrefix old new (flat_map f (numbers_below n))
  cut_inside n old mid new line h l is first cut =
      let t = flat_on f m n h in
      let u = flat_on g i j l in
      let before = flat_map f (numbers_below m) in
      let here = flat_map g (numbers_below i) in
      cut_in old mid new (before ++ here) line (u.0 ++ t.0) (flat_map f (numbers_below n)) first cut
      (t.1 ∙ ap (λ l. before ++ (l ++ t.0)) (same ∙ u.1 ∙ ap (λ l. here ++ (l ++ u.0)) is) ∙ ap (λ l. before ++ l) (append_assoc here (line ++ u.0) t.0 ∙ ap (λ l. here ++ l) (append_assoc line u.0 t.0))
      ∙ sym (append_assoc before here (line ++ (u.0 ++ t.0))))

  pub all_inside : i ≡ j → flat_map f (numbers_below m) ++ flat_map g (numbers_below i) ≡ flat_map f (numbers_below (m + 1))
  all_inside e = grind (arith, flat_next, same, e)
