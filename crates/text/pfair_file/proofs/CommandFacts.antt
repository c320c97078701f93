-- How a command over a task file ends, whatever it writes.
use Rattle.pfair_file.proofs.Common.{arith, ℕ, List, Option, None, Some, Result, Ok, Err, ◌≡◌, refl, subst, sym, IfSome, IsErrAnd, Appends, Keeps}
use Rattle.pfair_text.specs.Rows.{TakesPrefix}
use Rattle.pfair_file.specs.ProgramFaults.{IsCommandOf, TakesOneFile}
use Rattle.pfair_file.specs.declared.program_fault.ProgramFault.{ProgramFault}
use Rattle.pfair_file.specs.declared.program_fault.ProgramFault.TheVariants.{WriteFailed}

-- what holds of the answer with the only fault holds of the answer
pub err_is : {T F : Type 0} (P : Result T F → Type 0) (r : Result T F) (own : F) → IsErrAnd r (λ e. e ≡ own) → P (Err own) → P r
err_is P (Ok x) own is p = absurd is
err_is P (Err e) own is p = subst (λ f. P (Err f)) (sym is) p

-- what is not written to
kept : (o : Option (List ℕ)) → Keeps o o
kept None = tt
kept (Some bytes) = refl

-- what was taken of a file before a fault that is passed on
pub taken_by : {A T : Type 0} {given left : Option (List ℕ)} {e : ProgramFault} → TakesOneFile {T = A} (Err e) given left → (r : Result T ProgramFault) → IsErrAnd r (λ f. f ≡ e) → TakesOneFile r given left
taken_by {T = T} {given = given} {left = left} {e = e} taken r is = grind (arith, err_is)

module _ {T : Type 0} {IsOutput : List ℕ → (List ℕ → Type 0) → Type 0} {IsFault : Option (List ℕ) → ProgramFault → Type 0} {given left before : Option (List ℕ)} where
  -- because of the file,
  pub ends_refused : {A : Type 0} {e : ProgramFault} → TakesOneFile {T = A} (Err e) given left → IsFault given e → ¬ IsFault given WriteFailed → (r : Result T ProgramFault) → IsErrAnd r (λ f. f ≡ e)
      → IsCommandOf IsOutput IsFault r given left before before
  ends_refused {e = e} taken refused other r is = grind (arith, err_is, taken_by, kept)

  -- or after it was read and run, well
  module _ {A : Type 0} {a : A} (taken : TakesOneFile (Ok a) given left) where
    pub ends_well : {after : Option (List ℕ)} {shown : List ℕ} (x : T) → ((P : List ℕ → Type 0) → P shown → IfSome given (λ bytes. IsOutput bytes P)) → Appends before after shown
        → IsCommandOf IsOutput IsFault (Ok x) given left before after
    ends_well x made sent = grind arith

    -- or by its writer
    pub ends_cut : {after : Option (List ℕ)} {shown : List ℕ} (r : Result T ProgramFault) → IsErrAnd r (λ e. e ≡ WriteFailed) → ((P : List ℕ → Type 0) → P shown → IfSome given (λ bytes. IsOutput bytes P)) → TakesPrefix before after shown
        → IsCommandOf IsOutput IsFault r given left before after
    ends_cut r is made sent = grind (arith, err_is)
