-- The fields of a row are those of what it says, and of nothing else.
use Rattle.pfair_entry_row.proofs.Common.{join_with_byte, position_or_len, slice_split_at, slice_split_first, slice_split_none, HasNoComma, HasNone, ℕ, List, [], ◌∷◌, ◌≡◌, ◌<◌, ◌≤◌, ◌+◌, ◌==◌, arith, length, cond, ltb, Option, Some, None, fails_before_first, nat_tests, common_steps, parts, decimal, is_plain-decimal, ◌^◌, true, is_plain, ◌≢◌, ap, ◌∙◌, sym, Ok, Err, join_with_byte-slice_split, Logged, Announcement, Arrive, Depart, Late, dash, truth, announced_fields, said_fields, entry_fields, entry_row, IsSayable, IsSpelled, IsSpelledOut, Bool, false, refl, SaysNothing, ◌-◌, take, drop, subst, Result, MatchResult, parts_at, texts, both_ways, IsAscii-decimal, parse-decimal, decimal_injective, said_texts, Notes}
use Rattle.std.proofs.lemmas.List.{get_or-take}
use Rattle.std.proofs.lemmas.List.Folds.{list_any_at}
use Rattle.std.specs.Result.{result_ok}
use Rattle.std.specs.Str.{IsUtf8}
use Rattle.std.specs.Str.Parse.{ParsesUnsigned}
use Rattle.std.proofs.lemmas.Str.{IsUtf8-from_ascii}
use Rattle.pfair_entry_row.specs.declared.line.Fields.{Fields}

-- Fields between commas.

-- no field has a comma
abbrev pub HaveNoCommas : List (List ℕ) → Type 0
HaveNoCommas [] = Unit {0}
HaveNoCommas (f ∷ fs) = HasNoComma f × HaveNoCommas fs

-- the parts of fields that were joined by commas are these fields
pub parts-join : (first : List ℕ) (rest : List (List ℕ)) → HasNoComma first → HaveNoCommas rest → parts (join_with_byte 44 (first ∷ rest)) ≡ first ∷ rest
parts-join first [] h more = slice_split_none (λ b. b == 44) first h
parts-join first (next ∷ rest) h more = grind (arith, slice_split_at, parts-join next rest more.0 more.1)

-- ---- where a text is cut

module _ (separator : ℕ) where
  -- the first separator, or the end
  abbrev pub first_of : List ℕ → ℕ
  first_of text = position_or_len (λ b. b == separator) text

  none_before : (text : List ℕ) → HasNone separator (take (first_of text) text)
  none_before text k d inside = grind (arith, common_steps, get_or-take, fails_before_first)

  -- if a place is found, it is that of the first separator
  place_is : (text : List ℕ) (at : ℕ) (r : Option ℕ) → r ≡ cond (ltb (first_of text) (length text)) (Some (first_of text)) None → r ≡ Some at → (first_of text ≡ at) × (first_of text < length text)
  place_is text at r found is = (grind (arith, nat_tests), grind (arith, nat_tests))

  pub no_place : (text : List ℕ) (r : Option ℕ) → r ≡ cond (ltb (first_of text) (length text)) (Some (first_of text)) None → r ≡ None → length text ≤ first_of text
  no_place text r found is = grind (arith, nat_tests)

  -- what is cut at a place that was found
  pub cut_there : (text : List ℕ) (at : ℕ) (r : Option ℕ) → r ≡ cond (ltb (first_of text) (length text)) (Some (first_of text)) None → r ≡ Some at
      → HasNone separator (take at text) × (parts_at separator text ≡ take at text ∷ parts_at separator (take (length text - (at + 1)) (drop (at + 1) text)))
  cut_there text at r found is = grind (arith, place_is, common_steps, none_before, slice_split_first)

-- What stands in a field as it is has no comma: numbers and words.

-- what is plain has no comma
pub no_comma-plain : (bytes : List ℕ) → is_plain bytes ≡ true → HasNoComma bytes
no_comma-plain bytes plain k d inside = grind (arith, both_ways, list_any_at)

pub no_comma-decimal : (n : ℕ) → n < 2 ^ 64 → HasNoComma (decimal n)
no_comma-decimal n small = no_comma-plain (decimal n) (is_plain-decimal n small)

-- Numbers as they are written.

-- a decimal number is text
pub IsUtf8-decimal : (field : List ℕ) (n : ℕ) → n < 2 ^ 64 → field ≡ decimal n → IsUtf8 field
IsUtf8-decimal field n small e = subst IsUtf8 (sym e) (IsUtf8-from_ascii (decimal n) (IsAscii-decimal n small))

-- what is parsed of a decimal number
pub parsed-decimal : {E : Type 0} (field : List ℕ) (r : Result ℕ E) (n : ℕ) → n < 2 ^ 64 → field ≡ decimal n → ParsesUnsigned 64 10 field r → result_ok r ≡ Some n
parsed-decimal field r n small e h = ap result_ok (parse-decimal 64 n field r small small e h)

-- what is no text is no number
pub no_text : {T E : Type 0} (P : T → Type 0) (Q : E → Type 0) (field : List ℕ) (r : Result T E) → MatchResult r P (λ e. ¬ (IsUtf8 field) × Q e) → result_ok r ≡ None → (n : ℕ) → n < 2 ^ 64 → field ≢ decimal n
no_text P Q field (Ok s) cases none n small e = cc
no_text P Q field (Err f) cases none n small e = absurd (cases.0 (IsUtf8-decimal field n small e))

some_is : {x y : ℕ} → Some x ≡ Some y → x ≡ y
some_is e = cc

not_both : (o : Option ℕ) (n : ℕ) → o ≡ None → o ≡ Some n → ⊥
not_both o n none some = cc

-- what was read of the text of a number is that number
pub read_is : {E : Type 0} (text : List ℕ) (r : Result ℕ E) (number n : ℕ) → n < 2 ^ 64 → text ≡ decimal n → ParsesUnsigned 64 10 text r → result_ok r ≡ Some number → number ≡ n
read_is text r number n small e h is = some_is (sym is ∙ parsed-decimal text r n small e h)

pub not_read : {E : Type 0} (text : List ℕ) (r : Result ℕ E) (n : ℕ) → n < 2 ^ 64 → text ≡ decimal n → ParsesUnsigned 64 10 text r → result_ok r ≢ None
not_read text r n small e h none = not_both (result_ok r) n none (parsed-decimal text r n small e h)

-- ---- no field has a comma

no_comma-dash : HasNoComma dash
no_comma-dash = no_comma-plain dash refl

no_comma-truth : (b : Bool) → HasNoComma (truth b)
no_comma-truth true = no_comma-plain (truth true) refl
no_comma-truth false = no_comma-plain (truth false) refl

announced_no_commas : (a : Announcement) → IsSpelled a → HaveNoCommas (announced_fields a)
announced_no_commas (Arrive name weight early) h = grind (arith, no_comma-plain, no_comma-decimal, no_comma-truth, no_comma-dash)
announced_no_commas (Depart name) h = grind (arith, no_comma-plain, no_comma-dash)
announced_no_commas (Late name index by) h = grind (arith, no_comma-plain, no_comma-dash, no_comma-decimal)

said_no_commas : (s : Option (ℕ × Announcement)) → IsSpelledOut s → HaveNoCommas (said_fields s)
said_no_commas None h = grind (arith, no_comma-dash)
said_no_commas (Some s) h = (no_comma-decimal s.0 h.0, announced_no_commas s.1 h.1)

-- the parts of a row are its fields
pub parts-entry_row : (p n : ℕ) (e : Logged) → IsSayable p n e → parts (entry_row p n e) ≡ entry_fields p n e
parts-entry_row p n e h =
    parts-join (decimal p) (decimal n ∷ decimal e.floor ∷ said_fields e.said) (no_comma-decimal p h.processor_fits)
    (no_comma-decimal n h.number_fits, (no_comma-decimal e.floor h.floor_fits, said_no_commas e.said h.spelled))

pub entry_row-parts : (row : List ℕ) (p n : ℕ) (e : Logged) → parts row ≡ entry_fields p n e → row ≡ entry_row p n e
entry_row-parts row p n e h = sym (join_with_byte-slice_split 44 row) ∙ ap (λ fs. join_with_byte 44 fs) h

-- ---- there are eleven

announced_seven : (a : Announcement) → length (announced_fields a) ≡ 7
announced_seven (Arrive name weight early) = refl
announced_seven (Depart name) = refl
announced_seven (Late name index by) = refl

said_eight : (s : Option (ℕ × Announcement)) → length (said_fields s) ≡ 8
said_eight None = refl
said_eight (Some s) = let seven = announced_seven s.1 in omega arith

pub eleven : (p n : ℕ) (e : Logged) → length (entry_fields p n e) ≡ 11
eleven p n e = let eight = said_eight e.said in omega arith

-- ---- field by field

-- a row of these fields says this
pub record Says (f : Fields) (p n : ℕ) (e : Logged) : Type 0 where
  pub processor : f.processor.now ≡ decimal p
  pub number : f.number.now ≡ decimal n
  pub floor : f.floor.now ≡ decimal e.floor
  pub said : said_texts f ≡ said_fields e.said

pub says : (row : List ℕ) (f : Fields) (p n : ℕ) (e : Logged) → parts row ≡ texts f → IsSayable p n e → row ≡ entry_row p n e → Says f p n e
says row f p n e cut sayable is = grind (arith, parts-entry_row)

-- ---- different contents have different rows

pub truth_injective : (a b : Bool) → truth a ≡ truth b → a ≡ b
truth_injective true true e = refl
truth_injective false false e = refl
truth_injective _ _ e = absurd (cc)

announced_injective : (a b : Announcement) → IsSpelled a → IsSpelled b → announced_fields a ≡ announced_fields b → a ≡ b
announced_injective (Arrive n w a) (Arrive m v b) h k e = grind (arith, decimal_injective, truth_injective)
announced_injective (Depart n) (Depart m) h k e = let en : n ≡ m = cc in ap Depart en
announced_injective (Late n i d) (Late m j c) h k e = grind (arith, decimal_injective)
announced_injective _ _ h k e = absurd (grind arith)

dash_is_no_kind : (a : Announcement) (rest : List (List ℕ)) → dash ∷ rest ≢ announced_fields a
dash_is_no_kind (Arrive name weight early) rest e = cc
dash_is_no_kind (Depart name) rest e = cc
dash_is_no_kind (Late name index by) rest e = cc

said_injective : (s t : Option (ℕ × Announcement)) → IsSpelledOut s → IsSpelledOut t → said_fields s ≡ said_fields t → s ≡ t
said_injective None None h k e = refl
said_injective None (Some t) h k e = absurd (grind (arith, dash_is_no_kind))
said_injective (Some s) None h k e = absurd (grind (arith, dash_is_no_kind))
said_injective (Some s) (Some t) h k e = grind (arith, decimal_injective, announced_injective)

-- equal contents
pub record Same (p n : ℕ) (e : Logged) (q m : ℕ) (f : Logged) : Type 0 where
  pub processor : p ≡ q
  pub number : n ≡ m
  pub entry : e ≡ f

-- ---- what is not read is not said

pub no_floor : (row : List ℕ) (f : Fields) → parts row ≡ texts f → ((m : ℕ) → m < 2 ^ 64 → f.floor.now ≢ decimal m) → SaysNothing row
no_floor row f cut none p n e h is = none e.floor h.floor_fits (says row f p n e cut h is).floor

-- and what is read is said
pub is_said : (row : List ℕ) (f : Fields) (p n : ℕ) (e : Logged) → parts row ≡ texts f → p < 2 ^ 64 → n < 2 ^ 64 → e.floor < 2 ^ 64
    → f.processor.now ≡ decimal p → f.number.now ≡ decimal n → f.floor.now ≡ decimal e.floor → Notes f e.said → IsSayable p n e × (row ≡ entry_row p n e)
is_said row f p n e cut p_fits n_fits floor_fits p_is n_is floor_is said = grind (arith, entry_row-parts)

pub entry_row_injective : (p n : ℕ) (e : Logged) (q m : ℕ) (f : Logged) → IsSayable p n e → IsSayable q m f → entry_row p n e ≡ entry_row q m f → Same p n e q m f
entry_row_injective p n e q m f h k is =
    let same : entry_fields p n e ≡ entry_fields q m f = sym (parts-entry_row p n e h) ∙ ap parts is ∙ parts-entry_row q m f k in
    let ef = decimal_injective e.floor f.floor h.floor_fits k.floor_fits cc in
    let es = said_injective e.said f.said h.spelled k.spelled cc in
    record {
      processor = decimal_injective p q h.processor_fits k.processor_fits cc;
      number = decimal_injective n m h.number_fits k.number_fits cc;
      entry = λ i. record { floor = ef i; said = es i };
    }
