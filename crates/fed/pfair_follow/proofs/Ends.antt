-- What a follower that was new comes to, by what it holds.
use Rattle.std.proofs.Common.{ℕ, zero, suc, Bool, false, ◌≡◌, ◌≤◌, ◌<◌, refl, sym, ap, subst, ◌∙◌, arith, inl, inr, List, ◌∷◌, ◌++◌, length, append_assoc, Option, None, Some, Result, Ok, Err, IfErr, IsErrOf, OnOk, [], true, ⊎_elim, append-nil, IfOk, IfSome, map, min}
use Rattle.std.proofs.lemmas.Bool.{false≢true}
use Rattle.std.specs.List.{list_any}
use Rattle.std.specs.Io.KnownBytes.{Appends, Consumes, IsAtEnd}
use Rattle.pfair_text.specs.Rows.{line, lines_text}
use Rattle.pfair_replica.specs.Replica.{replica_of, Replica, empty_replica, frontier, has_torn, numbers_below, said}
use Rattle.pfair_table.specs.Events.{Course}
use Rattle.pfair_table.specs.Table.{Origin, Settings, plan, plan_decisions}
use Rattle.pfair_feed.specs.declared.output.Output.{Output}
use Rattle.pfair_feed.specs.Follow.{Follow, IsPlannedOut, news, header_of, rows_in, IsStopOf}
use Rattle.pfair_feed.specs.Laws.{text_of, WholeText, EntriesGiveTheirSchedule, LinesAreOne, HasScheduleOf, HaveTheRows, rows_of}
use Rattle.pfair_feed.specs.Feeding.{AreFedBytes, AreTakenFrom, AreWelcome, IsCaughtUp, IsFedTo, IsLeft}
use Rattle.pfair_file.specs.declared.program_fault.ProgramFault.{ProgramFault}
use Rattle.pfair_feed.proofs.Going.{planned, whole_start}
use Rattle.pfair_follow.specs.Runs.{AreBrought, AreTakenAll, HasReachedLast, IsEndOf, IsFed, IsFedEndOf, IsFedShort, IsFollowed, IsFresh, IsSettled, IsSettledBelow, IsShort, head_from, rows_of_plan, text_from, is_refused, HasLeft, IsEndOfLeaving, IsNoneLeft, IsTextLeft, HasScript, IsScriptStalled, IsScriptWritten, OfItsScript}
use Rattle.pfair_table.specs.NextRun.{left_by, start_after, left_over}
use Rattle.pfair_table.specs.Refinement.{Dispatch, course_of}
use Rattle.pfair_state.specs.Rows.{state_text}
use Rattle.pfair_follow.specs.declared.fault.FollowFault.{FollowFault}
use Rattle.pfair_table.specs.Script.{LoggedRun, replica_of_logs}
use Rattle.pfair_file.specs.declared.program_fault.ProgramFault.TheVariants.{Memory, ReadFailed, Row, Stalled, WriteFailed}
use Rattle.pfair_entry_row.specs.declared.fault.RowFault.TheVariants.{NoRow}
use Rattle.pfair_table.proofs.Scripts.{capacity_short}

-- one text behind another
appends_more : (u v w : Option (List ℕ)) (a b : List ℕ) → Appends u v a → Appends v w b → Appends u w (a ++ b)
appends_more None v w a b p q = tt
appends_more (Some xs) None w a b p q = absurd p
appends_more (Some xs) (Some ys) None a b p q = q
appends_more (Some xs) (Some ys) (Some zs) a b p q = q ∙ ap (λ l. l ++ b) p ∙ append_assoc xs a b

-- ---- what is written

-- of a run that begins there, with all planned that is settled
plan_rows : (o : Origin) (slot : ℕ) (f g : Follow) (bytes rest : List ℕ) (old new : Option (List ℕ)) → f.dispatch.origin ≡ o → f.unwritten ≡ slot → AreFedBytes bytes f g old new rest
    → news f g ≡ rows_of_plan o f.output slot f.dispatch.settings (replica_of g.dispatch.replica)
plan_rows o slot f g bytes rest old new begins unwritten fed =
    let whole = fed.fed.gone_on.caught_up.whole in
    let origin : g.dispatch.origin ≡ o = fed.fed.gone_on.grown.origin_is ∙ begins in
    let set : g.dispatch.settings ≡ f.dispatch.settings = fed.fed.gone_on.grown.settings_are in
    (λ i. lines_text (rows_in (origin i) f.output (unwritten i) (whole.tables_are i) (whole.decided_are i)))
    ∙ ap (λ (b : Origin). lines_text (rows_in o f.output slot (plan b g.dispatch.settings (replica_of g.dispatch.replica)) (plan_decisions b g.dispatch.settings (replica_of g.dispatch.replica)))) origin
    ∙ ap (λ (t : Settings). rows_of_plan o f.output slot t (replica_of g.dispatch.replica)) set

-- of a follower that has written nothing before the first slot whose rows it writes
whole_text : WholeText → (o : Origin) (slot : ℕ) (f g : Follow) (bytes rest : List ℕ) (old new : Option (List ℕ)) → f.dispatch.origin ≡ o → f.unwritten ≡ slot → AreFedBytes bytes f g old new rest
    → head_from o f.output slot ++ news f g ≡ text_from o f.output slot f.dispatch.settings (replica_of g.dispatch.replica)
whole_text law None zero f g bytes rest old new begins unwritten fed =
    let out : g.output ≡ f.output = fed.fed.gone_on.output_is in
    let set : g.dispatch.settings ≡ f.dispatch.settings = fed.fed.gone_on.grown.settings_are in
    ap (λ (o : Output). line (header_of o) ++ news f g) (sym out)
    ∙ law bytes rest f g old new begins unwritten fed
    ∙ (λ i. text_of (out i) (set i) (replica_of g.dispatch.replica))
whole_text law None (suc slot) f g bytes rest old new begins unwritten fed = plan_rows None (suc slot) f g bytes rest old new begins unwritten fed
whole_text law (Some c) slot f g bytes rest old new begins unwritten fed = plan_rows (Some c) slot f g bytes rest old new begins unwritten fed

-- ---- what is torn

none_such : {A : Type 0} (p : A → Bool) → ((x : A) → p x ≡ false) → (xs : List A) → list_any p xs ≡ false
none_such p fails [] = refl
none_such p fails (x ∷ xs) = rw (fails x) (none_such p fails xs)

nothing_torn : (processors capacity : ℕ) → has_torn (empty_replica processors capacity) ≡ false
nothing_torn processors capacity = none_such _ (λ k. none_such _ (λ n. refl) (numbers_below capacity)) (numbers_below processors)

-- ---- a new follower

module _ (f : Follow) (fresh : IsFresh f) where
  holds_none : replica_of f.dispatch.replica ≡ empty_replica f.dispatch.settings.processors 4096
  holds_none = ap (λ (c : Course). c.replica) fresh

  pub caught_up : IsCaughtUp f
  caught_up = record {
    whole = whole_start f.dispatch.origin f.dispatch f.dispatch.settings 4096 fresh;
    all_written = (let none : length f.dispatch.tables ≡ 0 = ap (λ (c : Course). length c.tables) fresh in omega (arith, none));
  }

  -- it has room for the logs of the settings
  welcome_all : (bytes rest : List ℕ) → AreWelcome f.dispatch.replica.processors f.dispatch.replica.capacity bytes rest → AreWelcome f.dispatch.settings.processors 4096 bytes rest
  welcome_all bytes rest welcome =
      let processors : f.dispatch.replica.processors ≡ f.dispatch.settings.processors = ap (λ (x : Replica). x.processors) holds_none in
      let capacity : f.dispatch.replica.capacity ≡ 4096 = ap (λ (x : Replica). x.capacity) holds_none in
      subst (λ (n : ℕ). AreWelcome f.dispatch.settings.processors n bytes rest) capacity (subst (λ (n : ℕ). AreWelcome n f.dispatch.replica.capacity bytes rest) processors welcome)

  -- ---- how a run ends

  module _ (law : WholeText) (is_strict to_last : Bool) (g : Follow) (given left before after : Option (List ℕ)) where
    module _ (input : IsFed is_strict to_last f g given left before after) where
      fed : IsFedTo is_strict to_last given left f g input.begun after
      fed = input.fed

      -- it was read to its end, if the run doesn't end with its last slot
      at_end : (to_last ≡ true → IsPlannedOut g → ⊥) → IsAtEnd left × (fed.more ≡ [])
      at_end goes_on = ⊎_elim (λ e. e) (λ last. absurd (goes_on last.0 last.1)) fed.end

      consumed : (to_last ≡ true → IsPlannedOut g → ⊥) → Consumes given left fed.bytes
      consumed goes_on = subst (λ (l : List ℕ). Consumes given left l) (ap (λ (l : List ℕ). fed.bytes ++ l) (at_end goes_on).1 ∙ append-nil fed.bytes) fed.read

      brought : AreBrought f.dispatch.settings fed.bytes (replica_of g.dispatch.replica)
      brought = record {
        lines = fed.fed.lines;
        rest = fed.rest;
        are_lines = fed.fed.are_lines;
        taken = subst (λ (x : Replica). AreTakenFrom fed.fed.lines x (replica_of g.dispatch.replica)) holds_none fed.fed.fed.held_is;
      }

      sound : has_torn (replica_of g.dispatch.replica) ≡ false
      sound = fed.fed.fed.gone_on.sound (ap has_torn holds_none ∙ nothing_torn f.dispatch.settings.processors 4096)

      written : Appends before after (text_from f.dispatch.origin f.output f.unwritten f.dispatch.settings (replica_of g.dispatch.replica))
      written =
          subst (λ (text : List ℕ). Appends before after text) (whole_text law f.dispatch.origin f.unwritten f g fed.bytes fed.rest input.begun after refl refl fed.fed)
          (appends_more before input.begun after (head_from f.dispatch.origin f.output f.unwritten) (news f g) input.head fed.fed.fed.gone_on.written)

      settled : IsPlannedOut g → IsSettled f.dispatch.settings (replica_of g.dispatch.replica)
      settled many =
          let as_many = planned g.dispatch fed.fed.fed.gone_on.caught_up.whole in
          subst (λ (s : Settings). s.slots ≤ frontier (replica_of g.dispatch.replica)) fed.fed.fed.gone_on.grown.settings_are (omega (arith, as_many, many))

      settled_below : length g.dispatch.tables < g.dispatch.settings.slots → IsSettledBelow f.dispatch.settings (length g.dispatch.tables) (replica_of g.dispatch.replica)
      settled_below few =
          let as_many = planned g.dispatch fed.fed.fed.gone_on.caught_up.whole in
          (omega (arith, as_many, few), subst (λ (s : Settings). length g.dispatch.tables < s.slots) fed.fed.fed.gone_on.grown.settings_are few)

      followed : (P : Replica → Type 0) → (to_last ≡ true → IsPlannedOut g → ⊥) → P (replica_of g.dispatch.replica) → IsFollowed f P given left before after
      followed P goes_on p = record {
        bytes = fed.bytes;
        replica = replica_of g.dispatch.replica;
        consumed = consumed goes_on;
        at_end = (at_end goes_on).0;
        brought = brought;
        sound = sound;
        settled = p;
        written = written;
      }

      -- if all slots are planned
      pub all_settled : to_last ≡ false → IsPlannedOut g → IsFollowed f (IsSettled f.dispatch.settings) given left before after
      all_settled on many = followed (IsSettled f.dispatch.settings) (λ last _. false≢true (sym on ∙ last)) (settled many)

      pub taken_all : to_last ≡ false → is_strict ≡ true → AreTakenAll f.dispatch.settings given left
      taken_all on is = record {
        bytes = fed.bytes;
        rest = fed.rest;
        consumed = consumed (λ last _. false≢true (sym on ∙ last));
        welcome = welcome_all fed.bytes fed.rest (fed.welcome is);
      }

      pub reached_last : (P : Replica → Type 0) → IsPlannedOut g → P (replica_of g.dispatch.replica) → HasReachedLast f is_strict P given left before after
      reached_last P many p = record {
        bytes = fed.bytes;
        more = fed.more;
        rest = fed.rest;
        replica = replica_of g.dispatch.replica;
        consumed = fed.read;
        brought = brought;
        sound = sound;
        settled = settled many;
        welcome = λ is. welcome_all fed.bytes fed.rest (fed.welcome is);
        written = written;
        holds = p;
      }

    -- if some are not
    short : (fault : ProgramFault) → IsFedShort is_strict to_last f g given left before after fault → IsShort f given left before after fault
    short fault (is, few, input) =
        (length g.dispatch.tables, is, followed input (IsSettledBelow f.dispatch.settings (length g.dispatch.tables)) (λ last many. omega (arith, few, many)) (settled_below input few))

    pub ended : (fault : ProgramFault) → IsFedEndOf is_strict to_last f g given left before after fault → IsEndOf f given left before after fault
    ended fault (inl unread) = inl unread
    ended fault (inr (inl stopped)) = inr (inl (g, stopped))
    ended fault (inr (inr end)) = inr (inr (short fault end))

-- ---- answers

pub on_ok_then : {T F A B : Type 0} (r : Result T F) → OnOk r A → (A → B) → OnOk r B
on_ok_then (Ok x) a f = f a
on_ok_then (Err e) a f = tt

pub on_both : {T F A B C : Type 0} (r : Result T F) → OnOk r A → OnOk r B → (A → B → C) → OnOk r C
on_both (Ok x) a b f = f a b
on_both (Err e) a b f = tt

pub if_err_then : {T F : Type 0} {A B : F → Type 0} (r : Result T F) → IfErr r A → ((e : F) → A e → B e) → IfErr r B
if_err_then (Ok x) a f = tt
if_err_then (Err e) a f = f e a

pub err_as : {T F A : Type 0} {B : F → Type 0} (r : Result T F) (e : F) → IsErrOf r e → IfErr r B → ((f : F) → B f → f ≡ e → A) → A
err_as {T} {F} (Ok x) e is b f = absurd (cc is)
err_as {T} {F} (Err d) e is b f = f d b (same d is)
  where
    of : F → Result T F → F
    of d (Ok x) = d
    of d (Err c) = c

    same : (d : F) → ◌≡◌ {A = Result T F} (Err d) (Err e) → d ≡ e
    same d is = ap (of d) is

-- The state that a run leaves, by what was brought.

-- the next run of a finished dispatcher begins with what it left
pub left_there : {T : Type 0} (items : T → List ℕ) (d next : Dispatch) (r : Result T FollowFault) → course_of next ≡ start_after d
    → IfSome next.origin (λ c. IfOk r (λ text. items text ≡ state_text c)) → IfOk r (λ text. items text ≡ state_text (left_by d))
left_there items d next r course is =
    subst (λ (o : Origin). IfSome o (λ c. IfOk r (λ text. items text ≡ state_text c))) (ap (λ (c : Course). c.origin) course) is

pub no_memory : {T : Type 0} {P Q : FollowFault → Type 0} (r : Result T FollowFault) → IfErr r P → ((e : FollowFault) → P e → Q e) → IfErr r Q
no_memory (Ok x) h f = tt
no_memory (Err e) h f = f e h

module _ (law : WholeText) (f : Follow) (fresh : IsFresh f) (g : Follow) (is_strict : Bool) (given left before after : Option (List ℕ))
    (fed : IsFed is_strict true f g given left before after) (d : Dispatch) (same : d ≡ g.dispatch) where
  same_state : state_text (left_by d) ≡ state_text (left_over f.dispatch.origin f.dispatch.settings (said (replica_of g.dispatch.replica)) f.dispatch.settings.slots)
  same_state =
      let grown = fed.fed.fed.fed.gone_on.grown in
      ap (λ (e : Dispatch). state_text (left_by e)) same
      ∙ ap (λ (o : Origin). state_text (left_over o g.dispatch.settings (said (replica_of g.dispatch.replica)) g.dispatch.settings.slots)) grown.origin_is
      ∙ ap (λ (s : Settings). state_text (left_over f.dispatch.origin s (said (replica_of g.dispatch.replica)) s.slots)) grown.settings_are

  pub has_left : {T : Type 0} (items : T → List ℕ) (r : Result T FollowFault) → IsPlannedOut g → IfOk r (λ text. items text ≡ state_text (left_by d))
      → IfOk r (λ text. HasLeft f is_strict given left before after (items text))
  has_left items (Ok text) many is = reached_last f fresh law is_strict true g given left before after fed (IsTextLeft f (items text)) many (is ∙ same_state)
  has_left items (Err e) many is = tt

  pub has_left_none : {T : Type 0} (r : Result T FollowFault) → IfErr r (IsNoneLeft d) → IfErr r (IsEndOfLeaving f is_strict given left before after)
  has_left_none (Ok text) is = tt
  has_left_none (Err e) is = inr (g, fed, subst (λ (x : Dispatch). IsNoneLeft x e) same is)

pub no_refusal : {T : Type 0} (d : Dispatch) (is_strict : Bool) (r : Result T FollowFault) → IfErr r (IsNoneLeft d) → IfErr r (λ e. is_strict ≡ false → is_refused e ≡ false)
no_refusal d is_strict (Ok text) is = tt
no_refusal d is_strict (Err e) (inl is) = λ lenient. ap is_refused is
no_refusal d is_strict (Err e) (inr (next, is, why)) = λ lenient. ap is_refused is

-- What is written of the rows of a script is the script's own text.

-- all that the reader had to give was read
all_read : (given left : Option (List ℕ)) (bytes : List ℕ) → Consumes given left bytes → IsAtEnd left → (P : List ℕ → Type 0) → P bytes → IfSome given P
all_read None left bytes consumed ended P p = tt
all_read (Some xs) None bytes consumed ended P p = absurd consumed
all_read (Some xs) (Some ys) bytes consumed ended P p = subst P (sym (consumed ∙ ap (λ l. bytes ++ l) ended ∙ append-nil bytes)) p

-- a text by the schedule alone
same_text : (output : Output) (slot : ℕ) (script : LoggedRun) (replica : Replica) → HasScheduleOf script replica → text_from None output slot script.settings replica ≡ text_from None output slot script.settings (replica_of_logs script.logs)
same_text output zero script replica has = has.texts_are output
same_text output (suc slot) script replica has =
    λ i. lines_text (rows_in None output (suc slot) (has.plan_is i) (map (λ t. has.decisions_are t i) (numbers_below (min (has.frontier_is i) script.settings.slots))))

module _ (gives : EntriesGiveTheirSchedule) (one : LinesAreOne) (f : Follow) (given left before after : Option (List ℕ)) where
  abbrev Kept : (Replica → Type 0) → LoggedRun → Type 0
  Kept P script = (replica : Replica) × P replica × HasScheduleOf script replica × Appends before after (text_from None f.output f.unwritten script.settings (replica_of_logs script.logs))

  -- the contents have the schedule of the script, whose text was written
  of_script : (P : Replica → Type 0) → IsFollowed f P given left before after → OfItsScript f given (Kept P)
  of_script P followed =
      all_read given left followed.bytes followed.consumed followed.at_end
      (λ bytes. (script : LoggedRun) → HasScript f bytes script → Kept P script)
      (λ script has.
      (let same = (one followed.bytes has.lines followed.brought.lines has.rest followed.brought.rest has.are_lines followed.brought.are_lines).0 in
      let gave = gives script 4096 followed.brought.lines followed.replica has.is_script (capacity_short script.logs has.is_script.logged.short)
      (subst (λ (s : Settings). HaveTheRows s.processors 4096 (rows_of script.logs) followed.brought.lines) (sym has.settings_are)
      (subst (λ (ls : List (List ℕ)). HaveTheRows f.dispatch.settings.processors 4096 (rows_of script.logs) ls) same has.have_rows))
      (subst (λ (s : Settings). AreTakenFrom followed.brought.lines (empty_replica s.processors 4096) followed.replica) (sym has.settings_are) followed.brought.taken) in (
        followed.replica,
        followed.settled,
        gave.1,
        subst (λ (text : List ℕ). Appends before after text)
            (ap (λ (o : Origin). text_from o f.output f.unwritten f.dispatch.settings followed.replica) has.first
            ∙ ap (λ (s : Settings). text_from None f.output f.unwritten s followed.replica) (sym has.settings_are) ∙ same_text f.output f.unwritten script followed.replica gave.1) followed.written,
      )))

  -- of each script
  each_script : (P Q : LoggedRun → Type 0) → ((script : LoggedRun) → script.settings ≡ f.dispatch.settings → P script → Q script) → OfItsScript f given P → OfItsScript f given Q
  each_script P Q to = by given
    where
      by : (given : Option (List ℕ)) → OfItsScript f given P → OfItsScript f given Q
      by None p = tt
      by (Some bytes) p = λ script has. to script has.settings_are (p script has)

  pub writes_its_script : IsFollowed f (IsSettled f.dispatch.settings) given left before after → OfItsScript f given (λ script. IsScriptWritten f script before after)
  writes_its_script followed =
      each_script (Kept (IsSettled f.dispatch.settings)) (λ script. IsScriptWritten f script before after)
      (λ script settings kept. record {
        settled = subst (λ (n : ℕ). script.settings.slots ≤ n) kept.2.frontier_is (subst (λ (s : Settings). s.slots ≤ frontier kept.0) (sym settings) kept.1);
        written = kept.3;
      })
      (of_script (IsSettled f.dispatch.settings) followed)

  stalls_as_its_script : (slot : ℕ) → IsFollowed f (IsSettledBelow f.dispatch.settings slot) given left before after → OfItsScript f given (λ script. IsScriptStalled f slot script before after)
  stalls_as_its_script slot followed =
      each_script (Kept (IsSettledBelow f.dispatch.settings slot)) (λ script. IsScriptStalled f slot script before after)
      (λ script settings kept. record {
        slot_is = kept.1.0 ∙ kept.2.frontier_is;
        short = subst (λ (s : Settings). slot < s.slots) (sym settings) kept.1.1;
        written = kept.3;
      })
      (of_script (IsSettledBelow f.dispatch.settings slot) followed)

  -- no line, and no reader, is at fault so
  no_stall : (kept : List ℕ) (next : Option ℕ) (e : ProgramFault) (f g : Follow) (v w : Option (List ℕ)) → IsLeft kept next e f g v w → (slot : ℕ) → e ≡ Stalled slot → ⊥
  no_stall kept next e f g v w (inl (inl (is, none), unchanged, keeps)) slot same = absurd (let h : ReadFailed ≡ Stalled slot = sym is ∙ same in cc h)
  no_stall kept next e f g v w (inl (inr (inl (is, byte, at, inside)), unchanged, keeps)) slot same = absurd (let h : Memory ≡ Stalled slot = sym is ∙ same in cc h)
  no_stall kept next e f g v w (inl (inr (inr (is, ended, long)), unchanged, keeps)) slot same = absurd (let h : Row NoRow ≡ Stalled slot = sym is ∙ same in cc h)
  no_stall kept next e f g v w (inr (ended, short, failed)) slot same = elim failed.cause [
    | inl row ↦ absurd (let h : Row row.0 ≡ Stalled slot = sym row.1 ∙ same in cc h)
    | inr stopped ↦ absurd (subst (λ (d : ProgramFault). IsStopOf f g stopped.processor stopped.number stopped.entry d) same stopped.stop)
  ]

  pub stalls : (fault : ProgramFault) → IsEndOf f given left before after fault → (slot : ℕ) → fault ≡ Stalled slot → OfItsScript f given (λ script. IsScriptStalled f slot script before after)
  stalls fault (inl (kept, inl (memory, none))) slot e = absurd (let h : Memory ≡ Stalled slot = sym memory ∙ e in cc h)
  stalls fault (inl (kept, inr (failed, cut))) slot e = absurd (let h : WriteFailed ≡ Stalled slot = sym failed ∙ e in cc h)
  stalls fault (inr (inl (g, at))) slot e = absurd (no_stall _ _ fault at.stopped.mid g at.stopped.reached after at.stopped.left slot e)
  stalls fault (inr (inr (there, is, followed))) slot e =
      let both : Stalled there ≡ Stalled slot = sym is ∙ e in
      let same : there ≡ slot = cc both in
      stalls_as_its_script slot (subst (λ (n : ℕ). IsFollowed f (IsSettledBelow f.dispatch.settings n) given left before after) same followed)
