-- What the other note owns is copied into the first one.
use Rattle.pfair_desk.proofs.Common.{Agrees, noted, shared, ◌≡◌, ℕ, List, [], ◌∷◌, refl, IfSome, Val, fst∗, Fml, flft, sem, ‵, ◌⊛◌, ◌$◌, ◌∵◌, !, qed, move, keep, split, fsplit, fjoin, use1, RattleType}
use mir.Syntax.{a_type, named}
use mir.Val.{vptr, vunit}
use mir.MapTy.{inst_fn}
use base.Logic.{SProp, emp, via, apply∗, guard_i, all, all_e}
use base.Fml.{ftrue}
use types.Kit.{raw, given, later, by, split3, join, fsplit3, learn, use0, use2, await, rewrite, feq_i}
use types.Run.{of_opd, returns, enter, unit_lit}
use types.ByLocal.{alloc_all, pass_all, free_all, look_at, sets}
use contract.Monad.{fact, fact_i, fact_use}
use contract.BorrowLft.{◌⊑◌}
use contract.Running.{tables}
use denote.Exit.{yes}
use denote.RattleType.{owns}
use denote.Signature.{types_at, plain}
use denote.Builtin.{RefOf}
use denote.Ref.{mut_vals, mut_Tells, shr_vals, shr_Tells}
use denote.Steps.{nothing, heard}
use denote.Param.{param, layouts}
use denote.Triple.Walked.{Stays, stay_dropped, walk_of, Goes-dropped, stay_ref, Goes-ref}
use Rattle.std.proofs.raw_atomic.Walks.{proved, leaves}
use Rattle.once_cell.proofs.Notes as notes
use Rattle.pfair_desk.proofs.Peeks.{Note, note_knows, noted_shared}
use Rattle.pfair_desk.specs.contracts.board.learn.{ended, clauses}
use Rattle.pfair_desk.specs.contracts.board.learn.Key.{name as #self}
use Rattle.pfair_desk.proofs.board.learn.Statement.{statement}
use Rattle.pfair_desk.proofs.board.learn.Code as code

pub learn_spec : {M : Type 1} → statement M
learn_spec 𝓤 𝓛 𝓜 𝓡 wired T L =
    let H = 𝓛.H in let 𝓣 = tables 𝓤 H 𝓜 𝓡 𝓡.env in let R : RattleType = param 0 T in let En = ended T in let S : RattleType = Note R in
    let inst = layouts (a_type ∷ []) (T, tt) in let fn = inst_fn inst code.function in let c = clauses T 𝓛 𝓜.mem 𝓡.returns in
    let other = RefOf (1 ∷ []) tt (plain (λ _. S)) (λ _. tt) in let hs : Stays En.signature.params En.kept = (stay_ref (0 ∷ []) tt (plain (λ _. S)), (stay_dropped other yes, tt)) in
    proved 𝓛 En hs c 𝓜 𝓡 (Goes-ref 𝓛 3 0 tt (plain (λ _. S)), (Goes-dropped 𝓛 3 other yes (λ κs x f. refl), tt)) (#self inst) fn (code.unfolded 𝓤 H 𝓜 𝓡 wired (T, tt))
    (λ κs. (mut_vals, (shr_vals, tt))) (λ κs. (mut_Tells (named 0) κs.0 S, (shr_Tells (named 1) κs.1.0 S, tt))) (λ κs qs bounds a gh are.
    let b = a.0.ref_ptr.0 in let o = a.0.ref_ptr.1 in let n = a.0.now in let ν = a.0.ghost_name in let b' = a.1.0.ref_ptr.0 in let o' = a.1.0.ref_ptr.1 in let n' = a.1.0.now in
    let κ = κs.0 in let q = qs.0 in let κ' = κs.1.0 in let q' = qs.1.0 in let γ = n.cell in let So : Type 0 = IfSome n'.known (Agrees n.known) in
    let Shuts = notes.Shuts 𝓛 R κ q b o ν in let N : Fml = noted R γ n.known in let N' : Fml = noted R γ n'.known in
    let m : S.Denot = record { marker = n.marker; cell = γ; known = shared n.known n'.known } in
    let y : (walk_of 𝓛 En hs c).Ghost = ((κs, qs, bounds, a, (vptr b o ∷ [], (vptr b' o' ∷ [], tt))), gh) in let Post : Val → SProp 𝓤 = (walk_of 𝓛 En hs c).post y in
    qed 𝓛 (((‵ (flft κ q) ⊛ ‵ (flft κ' q') ⊛ ‵ (flft κs.1.1.0 qs.1.1.0) ⊛ ‵ ftrue) ⊛ ‵ (owns (types_at En.signature.params κs) a y.0.4)) ∷ raw (fact 𝓤 (κs.1.1.0 ⊑ T.lives)) ∷ raw (fact 𝓤 (n'.cell ≡ γ)) ∷ []) ∵
    move ! (2 ∷ []) $ heard ! (n'.cell ≡ γ) (λ same. split ! $ split3 ! $ move ! (3 ∷ []) $ fsplit3 ! $ fsplit ! $ move ! (1 ∷ 4 ∷ []) $
    enter ! 𝓣.C 𝓣.Λ fn (vptr b o ∷ vptr b' o' ∷ []) Post $ alloc_all ! (λ l. pass_all ! refl ((tt, tt), ((tt, tt), tt)) $
    -- [the first note's borrow; its token; its address; the other note's `&`; nothing; that one's token; the bound's token]
    use2 𝓛 (later (‵ N ⊛ raw (all 𝓤 Shuts))) (notes.note_opens 𝓛 R κ q b o ν n) $ await ! tt $ split ! $
    move ! (3 ∷ []) $ fsplit ! $ move ! (1 ∷ 6 ∷ []) $
    use2 𝓛 (later (‵ (noted R n'.cell n'.known) ⊛ ‵ (flft κ' q'))) (note_knows R 𝓛 n' b' o' κ' q') $ await ! tt $ split ! $ rewrite ! 0 (λ (j : ℕ). ‵ (noted R j n'.known)) same refl $
    use1 𝓛 (‵ N' ⊛ ‵ N') (notes.noted_twice 𝓛 R γ n'.known) $ split ! $ move ! (4 ∷ 0 ∷ []) $
    use2 𝓛 (given So (‵ N)) (fact_use 𝓤 So (notes.noted_agree 𝓛 R γ n.known n'.known) (λ so. via 𝓤 _ (fst∗ 𝓤 (sem 𝓛 N) (sem 𝓛 N')) (guard_i 𝓤 So (sem 𝓛 N) so))) $ learn ! (λ so.
    use2 𝓛 (‵ (noted R γ m.known)) (noted_shared R 𝓛 γ n.known n'.known) $
    -- [what it knows now; the other's token; the other's address; the way back; its address; nothing; the bound's token]
    move ! (3 ∷ []) $ use1 𝓛 (raw (Shuts m)) (all_e 𝓤 Shuts m) $ move ! (1 ∷ 0 ∷ []) $ use2 𝓛 (later (‵ (notes.lent 𝓛 R κ q b o ν m) ⊛ ‵ (flft κ q))) (apply∗ 𝓤 (sem 𝓛 (noted R γ m.known)) _) $ await ! tt $ split ! $
    move ! (4 ∷ 0 ∷ []) $ fjoin ! $ nothing ! $ nothing ! $ fjoin ! $ move ! (1 ∷ 0 ∷ []) $ fjoin ! $ move ! (2 ∷ 5 ∷ []) $ join ! $ move ! (2 ∷ 0 ∷ []) $ join ! $
    sets ! (of_opd ! (unit_lit !)) refl (tt, tt) $ feq_i ! (List Val) (vunit ∷ []) (vunit ∷ []) refl $
    use0 𝓛 (raw (fact 𝓤 So)) (fact_i 𝓤 So (emp 𝓤) so) $ use0 𝓛 (raw (fact 𝓤 (m.known ≡ m.known))) (fact_i 𝓤 (m.known ≡ m.known) (emp 𝓤) refl) $ join ! $ use0 𝓛 (raw (fact 𝓤 (γ ≡ γ))) (fact_i 𝓤 (γ ≡ γ) (emp 𝓤) refl) $ join ! $
    returns ! (look_at ! 0 refl) $ free_all ! refl $ keep ! (2 ∷ 3 ∷ 1 ∷ 0 ∷ []) $ by ! (leaves 𝓛 En hs c y vunit tt (m, (tt, tt)) (tt, (tt, tt)))))))
