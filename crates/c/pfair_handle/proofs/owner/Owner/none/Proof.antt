-- `none` owns nothing but its handle of the heap.
use Rattle.pfair_handle.proofs.Common.{Slot, plain, Val, vint, ent, emp, ftrue, fsep, WpFn, Item, ‵, raw, ◌⊛◌, ◌$◌, ◌∵◌, !, qed, by, move, drop, join, split, fsplit, fjoin, fpack, feq_i, suffices, done, lit, no_more, and_then, returns, enter, agg, alloc_all, pass_all, free_all, look_at, get, sets, tables, yes, RattleType, Valss, null_ptr, ptr_val, nothing, says, Stays, stay_dropped, walk_of, ends_at, Goes-dropped, handle_tells, List, [], ◌∷◌, ◌++◌, refl, sym, subst, within, shape, proved_at, None, and_tt, lit<, w64}
use denote.Struct.Owning.{to}
use Rattle.std.specs.contracts.alloc.Global as Heap
use Rattle.pfair_handle.proofs.AsBox.{E}
use Rattle.pfair_handle.proofs.Values.{both}
use Rattle.pfair_handle.specs.contracts.owner.Owner as Owner
use Rattle.pfair_handle.specs.contracts.owner.Owner.none as F
use Rattle.pfair_handle.specs.contracts.owner.Owner.none.Key.{name as #self}
use Rattle.pfair_handle.proofs.owner.Owner.none.Statement.{statement}
use Rattle.pfair_handle.proofs.owner.Owner.none.Code as code

pub none_spec : {M : Type 1} → statement M
none_spec 𝓤 𝓛 𝓜 𝓡 wired =
    let H = 𝓛.H in let 𝓣 = tables 𝓤 H 𝓜 𝓡 𝓡.env in let c = F.clauses 𝓛 𝓜.mem 𝓡.returns in let From : Slot 0 = plain (λ _. Heap.the_row) in let stayed : Stays (F.ended).signature.params (F.ended).kept = (stay_dropped From yes, tt) in let Z : RattleType = Heap.the_row in
    proved_at 𝓛 F.ended stayed c 𝓜 𝓡 (Goes-dropped 𝓛 0 From yes (λ κs x f. refl), tt) #self code.function (code.unfolded 𝓤 H 𝓜 𝓡 wired) (λ z are.
    let a = z.0.3.0 in let Post = (walk_of 𝓛 F.ended stayed c).post z in
    qed 𝓛 ((‵ ftrue ⊛ ‵ (fsep (Z.own_val a z.0.4.0) ftrue)) ∷ raw (emp 𝓤) ∷ []) ∵ split ! $ drop ! $ fsplit ! $ handle_tells E.al ! a z.0.4.0 (λ h ea fits.
    let p : Val = vint w64 0 in let v : Val = both p h in let made : (Owner.the_row).Denot = record { at = null_ptr; alloc = a; kept = None } in
    let Γ : List (Item 𝓤) = ‵ (Z.own_val a (h ∷ [])) ∷ [] in move ! (1 ∷ 2 ∷ []) $ drop ! $ drop ! $
    by ! (subst (λ (us : List Val). ent 𝓤 (types.Kit.⋆ 𝓛 Γ) (WpFn 𝓤 H 𝓣.C 𝓣.Λ code.function (us ++ []) Post)) (sym ea)
    (qed 𝓛 Γ ∵ enter ! 𝓣.C 𝓣.Λ code.function (h ∷ []) _ $ alloc_all ! (λ ls. pass_all ! refl (fits, tt) $
    sets ! (agg ! (and_then ! (lit ! tt) (and_then ! (get ! refl) (no_more !)))) refl (and_tt _ fits.0, (record { fits = lit< tt }, (fits.1, tt))) $
    returns ! (look_at ! 0 refl) $ free_all ! refl $
    nothing ! $ nothing ! $ move ! (2 ∷ 0 ∷ []) $ fjoin ! $ feq_i ! (List Val) (p ∷ []) (ptr_val null_ptr ∷ []) refl $ fjoin ! $ feq_i ! (List Val) (v ∷ []) (v ∷ []) refl $ fjoin ! $
    fpack ! (Valss (shape Owner.the_type).fields) (within (shape Owner.the_type) (to Owner.the_type made) (v ∷ [])) (p ∷ [], (h ∷ [], tt)) $ fjoin ! $
    suffices ! _ (ends_at 𝓛 F.ended stayed c z v made (tt, tt) (tt, tt)) $ says ! refl $
    nothing ! $ nothing ! $ fjoin ! $ join ! $ nothing ! $ join ! $ done !)))))
