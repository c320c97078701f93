-- `into_loose` moves two fields, and what they own goes with them.
use Rattle.pfair_handle.proofs.Common.{Slot, plain, Val, ent, id⊢, ftrue, fsep, WpFn, fact, tables, Item, ‵, raw, ◌⊛◌, ◌$◌, ◌∵◌, !, qed, by, move, drop, use1, join, split, fsplit, fjoin, suffices, done, rewrite, whole, sub, agg, stop, fld, no_more, and_then, of_opd, returns, enter, alloc_all, pass_all, free_all, look_at, get, get_in, sets, yes, heard, nothing, type_at, says, Stays, stay_dropped, walk_of, ends_at, Goes-dropped, box_out, box_in, Kept, is_kept, proved_at, D, B, word, box_typed, refl, sym, subst, List, [], ◌∷◌, ◌++◌, ◌≡◌, true≢false, None, Some, true}
use Rattle.pfair_handle.specs.contracts.owner.Owner.{the_row as From-row}
use Rattle.pfair_handle.specs.contracts.owner.Served.{the_row as Served}
use Rattle.pfair_handle.proofs.AsBox.{E}
use Rattle.pfair_handle.specs.contracts.owner.Owner.into_loose as F
use Rattle.pfair_handle.specs.contracts.owner.Owner.into_loose.Key.{name as #self}
use Rattle.pfair_handle.proofs.owner.Owner.into_loose.Statement.{statement}
use Rattle.pfair_handle.proofs.owner.Owner.into_loose.Code as code

-- what is kept, if something is
some_of : (k : Kept) → is_kept k ≡ true → (x : Served.Denot) × (k ≡ Some x)
some_of None e = absurd (true≢false (sym e))
some_of (Some x) e = (x, refl)

pub into_loose_spec : {M : Type 1} → statement M
into_loose_spec 𝓤 𝓛 𝓜 𝓡 wired =
    let H = 𝓛.H in let 𝓣 = tables 𝓤 H 𝓜 𝓡 𝓡.env in let c = F.clauses 𝓛 𝓜.mem 𝓡.returns in let From : Slot 0 = plain (λ _. From-row) in let stayed : Stays (F.ended).signature.params (F.ended).kept = (stay_dropped From yes, tt) in
    proved_at 𝓛 F.ended stayed c 𝓜 𝓡 (Goes-dropped 𝓛 0 From yes (λ κs x f. refl), tt) #self code.function (code.unfolded 𝓤 H 𝓜 𝓡 wired) (λ z are.
    let Post = (walk_of 𝓛 F.ended stayed c).post z in
    let To = type_at (F.signature).result tt in
    qed 𝓛 ((‵ ftrue ⊛ ‵ (fsep (From-row.own_val z.0.3.0 z.0.4.0) ftrue)) ∷ raw (fact 𝓤 (is_kept z.0.3.0.kept ≡ true)) ∷ []) ∵ move ! (1 ∷ []) $ heard ! (is_kept z.0.3.0.kept ≡ true) (λ full.
    let got = some_of z.0.3.0.kept full in
    let v : D E = record { ptr = z.0.3.0.at; alloc = z.0.3.0.alloc; value = got.0 } in
    let made : To.Denot = record { at = v.ptr; alloc = v.alloc; value = v.value } in
    split ! $ drop ! $ fsplit ! $
    rewrite ! 0 (λ (k : Kept). ‵ (From-row.own_val (record { at = z.0.3.0.at; alloc = z.0.3.0.alloc; kept = k }) z.0.4.0)) got.1 refl $ use1 𝓛 (‵ ((B E).own_val v z.0.4.0)) (id⊢ 𝓤 _) $
    box_out E ! v z.0.4.0 (λ b o hv e ws fa. box_in E ! v b o v.value e refl $ use1 𝓛 (‵ (To.own_val made (word E hv b o ∷ []))) (id⊢ 𝓤 _) $ move ! (1 ∷ 2 ∷ []) $ drop ! $ drop ! $
    let w = word E hv b o in
    let Γ : List (Item 𝓤) = ‵ (To.own_val made (w ∷ [])) ∷ [] in
    by ! (subst (λ (us : List Val). ent 𝓤 (types.Kit.⋆ 𝓛 Γ) (WpFn 𝓤 H 𝓣.C 𝓣.Λ code.function (us ++ []) Post)) (sym ws)
    (qed 𝓛 Γ ∵ enter ! 𝓣.C 𝓣.Λ code.function (w ∷ []) _ $ alloc_all ! (λ ls. pass_all ! refl (box_typed E hv b o fa, tt) $
    sets ! (of_opd ! (get_in ! (fld ! refl (stop !)) (sub ! 0 refl (whole !)))) refl (tt, tt) $ sets ! (of_opd ! (get_in ! (fld ! refl (stop !)) (sub ! 1 refl (whole !)))) refl fa $ sets ! (of_opd ! (get ! refl)) refl (tt, tt) $
    sets ! (agg ! (and_then ! (get ! refl) (and_then ! (get ! refl) (no_more !)))) refl (box_typed E hv b o fa) $ returns ! (look_at ! 0 refl) $ free_all ! refl $
    suffices ! _ (ends_at 𝓛 F.ended stayed c z w made (tt, tt) (tt, tt)) $ says ! got.1 $
    nothing ! $ nothing ! $ fjoin ! $ join ! $ nothing ! $ join ! $ done !))))))
