-- One entry more of a log is taken.
use Rattle.pfair_c.proofs.Common.{◌≡◌, ◌∙◌, ◌+◌, ℕ, zero, suc, ◌<◌, ◌∷◌, [], List, false, length, take, get_or, ap, sym, refl, subst, arith, slice_get, get_or_from_slice_get, Replica, all_taken, untaken, AreOfLog, Bool, true, if◌then◌else◌, with_entry, ReplicaRows, has_key, taken, met, one_more, Taking, one_taken, IsRefusal, IsRefusedAt}
use Rattle.pfair_lattice.specs.declared.join_map.Flat.TheVariants.{One, Torn as TornContent}
use Rattle.std.specs.declared.option.Option.TheVariants.{None, Some}
use Rattle.pfair_lattice.specs.Held.{Held}
use Rattle.pfair_entry.specs.Entry.{Logged, entry_exact}
use Rattle.pfair_replica.specs.Faults.{IsTakenAs}
use Rattle.pfair_replica.specs.declared.answer.Taken.{Taken}
use Rattle.pfair_replica.specs.declared.answer.Taken.TheVariants.{New, Known, Torn}
use Rattle.pfair_c.specs.Entries.{logged_of, IsMeant}
use Rattle.pfair_c.specs.declared.entry.PfairEntry.{PfairEntry}
use Rattle.pfair_c.specs.declared.take.PfairTakenLog.{PfairTakenLog}

-- ---- keys are those of the shape, which stays

keeps_if : (b : Bool) (x : Replica) (k n : ℕ) (e : Logged) (j m : ℕ) → has_key (if b then with_entry x k n e else x) j m ≡ has_key x j m
keeps_if true x k n e j m = refl
keeps_if false x k n e j m = refl

same-keys : (k n : ℕ) (es : List PfairEntry) (s : Taking) (j m : ℕ) → has_key (all_taken k n es s).replica j m ≡ has_key s.replica j m
same-keys k n [] s j m = refl
same-keys k n (e ∷ more) s j m = same-keys k (suc n) more (one_taken k n e s) j m ∙ keeps_if (has_key s.replica k n) s.replica k n (logged_of e) j m

-- ---- the last of them

one-taken-more : (k n : ℕ) (es : List PfairEntry) (s : Taking) (i j : ℕ) (d : PfairEntry) → i < length es → j ≡ n + i
    → all_taken k n (take (suc i) es) s ≡ one_taken k j (get_or es i d) (all_taken k n (take i es) s)
one-taken-more k n [] s i j d inside at = absurd (omega arith)
one-taken-more k n (a ∷ es) s zero j d inside at = grind arith
one-taken-more k n (a ∷ es) s (suc i) j d inside at = grind (arith, one-taken-more k (suc n) es (one_taken k n a s) i j d)

pub of-log-more : (x : Replica) (k n : ℕ) (es : List PfairEntry) (i j : ℕ) (d : PfairEntry) → i < length es → j ≡ n + i
    → AreOfLog x k n (take i es) → IsMeant (get_or es i d) → has_key x k j ≡ true → AreOfLog x k n (take (suc i) es)
of-log-more x k n [] i j d inside at before meant key = absurd (omega arith)
of-log-more x k n (a ∷ es) zero j d inside at before meant key =
    let here : n ≡ j = omega arith in
    (meant, ap (has_key x k) here ∙ key, tt)
of-log-more x k n (a ∷ es) (suc i) j d inside at before meant key =
    (before.0, before.1, of-log-more x k (suc n) es i j d (omega arith) (omega arith) before.2 meant key)

-- ---- a step of the loop

pub next-taking : (k first i j : ℕ) (es : List PfairEntry) (d : PfairEntry) (x now next : Replica) (c counted : PfairTakenLog) (how : Taken)
    → i < length es → j ≡ first + i
    → record { replica = now; counted = c } ≡ all_taken k first (take i es) (untaken x)
    → next ≡ taken now k j (logged_of (get_or es i d)) → how ≡ met (now.at k j) (logged_of (get_or es i d)) → counted ≡ one_more how c
    → record { replica = next; counted = counted } ≡ all_taken k first (take (i + 1) es) (untaken x)
next-taking k first i j es d x now next c counted how inside at before held_is how_is counted_is = grind (arith, one-taken-more)

pub same-key : (k first i j : ℕ) (es : List PfairEntry) (x now : Replica) (c : PfairTakenLog)
    → record { replica = now; counted = c } ≡ all_taken k first (take i es) (untaken x)
    → has_key now k j ≡ true → has_key x k j ≡ true
same-key k first i j es x now c before key =
    sym (same-keys k first (take i es) (untaken x) k j) ∙ ap (λ (s : Taking). has_key s.replica k j) (sym before) ∙ key

-- one more is counted
pub counted-more : (how : Taken) (c d : PfairTakenLog) (i : ℕ) → d ≡ one_more how c → c.taken ≡ i → c.fresh + c.known + c.torn ≡ c.taken
    → (d.taken ≡ i + 1) × (d.fresh + d.known + d.torn ≡ d.taken)
counted-more how c d i is at sum = grind arith

-- ---- what is refused

pub refused-at : (x : ReplicaRows) (k n : ℕ) (es : List PfairEntry) (i j place answer : ℕ) (d : PfairEntry) → i < length es → j ≡ n → place ≡ i
    → IsRefusal x k j (get_or es i d) answer → IsRefusedAt x k n es place answer
refused-at x k n es i j place answer d inside at same refused =
    let within : place < length es = omega arith in (
      within,
      λ e is.
          (let found : get_or es i d ≡ e = get_or_from_slice_get es i e d (ap (slice_get es) (sym same) ∙ is) in
          subst (λ (a : PfairEntry). IsRefusal x k n a answer) found (subst (λ m. IsRefusal x k m (get_or es i d) answer) at refused)),
    )

-- ---- what an entry meets

pub met-is : (h : Held Logged) (e : Logged) (how : Taken) → IsTakenAs h e how → how ≡ met h e
met-is None e New is = grind arith
met-is (Some c) e New is = grind arith
met-is None e Known is = grind arith
met-is (Some (One f)) e Known is = grind (arith, entry_exact.itself)
met-is (Some TornContent) e Known is = grind arith
met-is None e Torn is = grind arith
met-is (Some (One f)) e Torn is = grind (arith, entry_exact.alike)
met-is (Some TornContent) e Torn is = grind arith
