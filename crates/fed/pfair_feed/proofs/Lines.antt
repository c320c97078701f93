-- Lines that are fed, byte after byte, where only the first bytes of the open line are kept.
use Rattle.pfair_feed.proofs.Common.{Keeps, TakesPrefix, Logged, replica_of, held, Replica, frontier, has_torn, with_entry, Follow, IsSameRun, IsStopOf, news, IsGrown, HasFailed, HasStood, IsCaughtUp, IsFedLine, IsTakenFrom, and_parts, ltb-true, arith, ℕ, ◌≡◌, ◌≢◌, refl, sym, ap, subst, ◌∙◌, List, Option, Ok, true, false, inl, inr, ◌≤◌, Bool, length, min, None, Some, ◌⊎◌, if◌then◌else◌, taken, ProgramFault, WriteFailed, Memory, is_refusal, One, AllByRecursion, flat_map, Consumes, IsAtEnd, cases_lt, append-nil, length-append, length-drop, length-take, take_all, take-append-le, SameShape, IsPlannedOut, AreFedBytes, AreLines, AreTakenFrom, IsFedTo, IsLeft, IsStopped, IsWelcome, ended, question, suc, ◌+◌, ◌<◌, [], ◌∷◌, ◌++◌, take, drop, get_or, Result, Err, append_assoc, slice_get, IsErrAnd, Keeps-refl, flat_map-append, ◌&&◌, not, nat_lt, drop-cons, IfErr, held_after, has_key, NoSuchProcessor, NumberOutOfRange, Row, ReadFailed, Consumes-nil, Consumes-trans, RowsAreShort}
use Rattle.pfair_entry_row.specs.Row.{IsReadingOf, Reading, entry_row, IsEntryAt}
use Rattle.pfair_feed.proofs.Going.{stays, longer, planned, gone_trans}
use Rattle.pfair_feed.proofs.ScriptRows.{all_append}

-- What a line that is read brings.

-- ---- what a fault leaves

-- if an allocation fails, the entry may be taken or not; otherwise it is
held_left : (line : List ℕ) (x y z : Replica) (e : ProgramFault) → (z ≡ y → IsTakenFrom line x z) → (e ≢ Memory → z ≡ y) → (e ≡ Memory → (z ≡ x) ⊎ (z ≡ y)) → (z ≡ x) ⊎ IsTakenFrom line x z
held_left line x y z Memory t offered wanted = grind (arith, wanted, t)
held_left line x y z fault t offered wanted = inr (t (offered (λ e. absurd (cc e))))

stood_taken : (line : List ℕ) (f g : Follow) (p n : ℕ) (e : Logged) (fault : ProgramFault) → (replica_of g.dispatch.replica ≡ taken (replica_of f.dispatch.replica) p n e → IsTakenFrom line (replica_of f.dispatch.replica) (replica_of g.dispatch.replica))
    → IsSameRun f g → g.unwritten ≡ f.unwritten → IsStopOf f g p n e fault → (fault ≢ Memory → replica_of g.dispatch.replica ≡ taken (replica_of f.dispatch.replica) p n e) → HasStood line f g
stood_taken line f g p n e fault row run unwritten stop offered = grind (arith, held_left)

-- nothing changed
pub fed_none : (line : List ℕ) (f g : Follow) (v w : Option (List ℕ)) → IsCaughtUp f → g ≡ f → Keeps v w → IsTakenFrom line (replica_of f.dispatch.replica) (replica_of f.dispatch.replica) → IsFedLine line f g v w
fed_none line f g v w caught same k held =
    subst (λ (h : Follow). IsFedLine line f h v w) (sym same) (record { held_is = held; gone_on = stays f v w caught k })

-- ---- keys that are refused

unchanged : (f g : Follow) (p n : ℕ) (e : Logged) (fault : ProgramFault) → is_refusal fault ≡ true → IsStopOf f g p n e fault → g ≡ f
unchanged f g p n e NoSuchProcessor is stop = stop.1
unchanged f g p n e NumberOutOfRange is stop = stop.2
unchanged f g p n e (Row fault) is stop = absurd stop
unchanged f g p n e fault is stop = absurd (cc is)

not_refused : (fault other : ProgramFault) → is_refusal fault ≡ true → is_refusal other ≡ false → fault ≢ other
not_refused fault other is is_not same = absurd (let h : false ≡ true = sym is_not ∙ ap is_refusal (sym same) ∙ is in cc h)

-- ---- the row of an entry that is held already

-- an entry that is held already changes nothing
taken_known : (x : Replica) (k n : ℕ) (e : Logged) → x.at k n ≡ Some (One e) → taken x k n e ≡ x
taken_known x k n e here = by (has_key x k n)
  where
    by : (b : Bool) → (if b then with_entry x k n e else x) ≡ x
    by false = refl
    by true = held_after.known x k n e here

-- as many slots are planned as the contents settle, and no fewer afterwards
as_before : (f g : Follow) (p n : ℕ) (e : Logged) → IsCaughtUp f → held f.dispatch.replica p n ≡ Some (One e) → replica_of g.dispatch.replica ≡ taken (replica_of f.dispatch.replica) p n e
    → IsGrown (record f.dispatch { replica = g.dispatch.replica }) g.dispatch
    → (length f.dispatch.tables ≡ min (frontier (replica_of g.dispatch.replica)) g.dispatch.settings.slots) × (length f.dispatch.tables ≤ length g.dispatch.tables)
as_before f g p n e caught here left grown =
    let settled : frontier (replica_of g.dispatch.replica) ≡ frontier (replica_of f.dispatch.replica) = ap frontier (left ∙ taken_known (replica_of f.dispatch.replica) p n e here) in
    grind (arith, planned, longer)

-- no allocation is asked for
no_memory : (f g : Follow) (p n : ℕ) (e : Logged) → IsCaughtUp f → held f.dispatch.replica p n ≡ Some (One e) → IsGrown (record f.dispatch { replica = g.dispatch.replica }) g.dispatch
    → IsStopOf f g p n e Memory → ⊥
no_memory f g p n e caught here grown (key, inl (none, rest)) = absurd (let h : None ≡ Some (One e) = sym none ∙ here in cc h)
no_memory f g p n e caught here grown (key, inr (left, able, inl stuck)) =
    let parts = and_parts (not (has_torn (replica_of g.dispatch.replica))) (nat_lt (length g.dispatch.tables) (frontier (replica_of g.dispatch.replica)) && nat_lt (length g.dispatch.tables) g.dispatch.settings.slots) stuck.1 in
    let more = and_parts (nat_lt (length g.dispatch.tables) (frontier (replica_of g.dispatch.replica))) (nat_lt (length g.dispatch.tables) g.dispatch.settings.slots) parts.1 in
    let a = ltb-true (length g.dispatch.tables) (frontier (replica_of g.dispatch.replica)) more.0 in
    let b = ltb-true (length g.dispatch.tables) g.dispatch.settings.slots more.1 in
    let was = as_before f g p n e caught here left grown in
    grind arith
no_memory f g p n e caught here grown (key, inr (left, able, inr due)) = grind (arith, planned, as_before)

-- ---- the follower stops at the entry whose row a line is

module _ (line : List ℕ) (f g : Follow) (p n : ℕ) (e : Logged) (r : Reading) (fault : ProgramFault) (ok : r ≡ Ok (p, n, e)) (reading : IsReadingOf line r)
    (back : (q m : ℕ) (d : Logged) → IsEntryAt q m d → line ≡ entry_row q m d → r ≡ Ok (q, m, d)) (stop : IsStopOf f g p n e fault) where
  is_row : IsEntryAt p n e × (line ≡ entry_row p n e)
  is_row = (rw ok at reading).ok

  taken_so : (x y : Replica) → y ≡ taken x p n e → IsTakenFrom line x y
  taken_so x y held = grind (arith, is_row, back)

  pub failed_at : (v w : Option (List ℕ)) → IsSameRun f g → g.unwritten ≡ f.unwritten → (fault ≢ Memory → replica_of g.dispatch.replica ≡ taken (replica_of f.dispatch.replica) p n e)
      → (fault ≢ WriteFailed → Keeps v w) → (fault ≡ WriteFailed → TakesPrefix v w (news f g)) → HasFailed line fault f g v w
  failed_at v w run unwritten offered nothing cut = record {
    cause = inr (record { processor = p; number = n; entry = e; is_entry = is_row.0; row_is = is_row.1; stop = stop });
    taken_is = λ other. taken_so (replica_of f.dispatch.replica) (replica_of g.dispatch.replica) (offered other);
    stood = stood_taken line f g p n e fault (taken_so (replica_of f.dispatch.replica) (replica_of g.dispatch.replica)) run unwritten stop offered;
    nothing = nothing;
    cut = cut;
  }

  pub refused_line : (v w : Option (List ℕ)) → IsCaughtUp f → is_refusal fault ≡ true → (fault ≢ Memory → replica_of g.dispatch.replica ≡ taken (replica_of f.dispatch.replica) p n e)
      → (fault ≢ WriteFailed → Keeps v w) → (g ≡ f) × IsFedLine line f g v w
  refused_line v w caught refused offered nothing =
      let stays_so : g ≡ f = unchanged f g p n e fault refused stop in
      let held : replica_of f.dispatch.replica ≡ taken (replica_of f.dispatch.replica) p n e = ap (λ (h : Follow). replica_of h.dispatch.replica) (sym stays_so) ∙ offered (not_refused fault Memory refused refl) in
      (stays_so, fed_none line f g v w caught stays_so (nothing (not_refused fault WriteFailed refused refl)) (taken_so (replica_of f.dispatch.replica) (replica_of f.dispatch.replica) held))

  -- if it is held already, no allocation is asked for
  pub repeat_wants_none : IsCaughtUp f → IsGrown (record f.dispatch { replica = g.dispatch.replica }) g.dispatch
      → (q m : ℕ) (d : Logged) → IsEntryAt q m d → line ≡ entry_row q m d → held f.dispatch.replica q m ≡ Some (One d) → fault ≡ Memory → ⊥
  repeat_wants_none caught grown q m d at row here memory = grind (arith, no_memory, back)

-- ---- how bytes are cut into lines

lines_none : AreLines [] [] []
lines_none = record { bytes_are = refl; whole = tt; open_end = tt }

module _ (bytes : List ℕ) (lines : List (List ℕ)) (rest : List ℕ) (a : AreLines bytes lines rest) where
  -- a byte inside a line
  lines_inside : (byte : ℕ) → byte ≢ 10 → AreLines (bytes ++ byte ∷ []) lines (rest ++ byte ∷ [])
  lines_inside byte inside = grind (arith, append_assoc, flat_map, rest, all_append)

  -- the end of a line
  lines_end : AreLines (bytes ++ 10 ∷ []) (lines ++ rest ∷ []) []
  lines_end = grind (arith, append_assoc, flat_map, rest, append-nil, flat_map-append, all_append)

-- ---- a line of which the first bytes are kept

-- all of it is kept, or more than any row has
kept_all : (rest : List ℕ) → (take 257 rest ≡ rest) ⊎ ((257 < length rest) × (length (take 257 rest) ≡ 257))
kept_all rest = elim (cases_lt 257 (length rest)) [
  | inl more ↦ inr (more, (let s = length-take 257 rest in omega (arith, s, more)))
  | inr less ↦ inl (take_all 257 rest (omega (arith, less)))
]

pub kept_pushed : (rest kept kept' : List ℕ) (byte : ℕ) → kept ≡ take 257 rest → length kept ≤ 256 → kept' ≡ kept ++ byte ∷ [] → kept' ≡ take 257 (rest ++ byte ∷ [])
kept_pushed rest kept kept' byte k few pushed = elim (kept_all rest) [
  | inl whole ↦
      (let size = length-append rest (byte ∷ []) in
      let same = ap length (k ∙ whole) in
      pushed ∙ ap (λ l. l ++ byte ∷ []) (k ∙ whole) ∙ sym (take_all 257 (rest ++ byte ∷ []) (omega (arith, size, few, same))))
  | inr cut ↦ absurd (let same = ap length k in let size = cut.1 in omega (arith, same, size, few))
]

pub kept_full : (rest kept : List ℕ) (byte : ℕ) → kept ≡ take 257 rest → 256 < length kept → kept ≡ take 257 (rest ++ byte ∷ [])
kept_full rest kept byte k full = k ∙ sym (take-append-le 257 rest (byte ∷ []) (let same = ap length k in let size = length-take 257 rest in omega (arith, same, size, full)))

module _ (short : RowsAreShort) where
  -- what is longer than any row brings nothing
  pub long_line : (line : List ℕ) (x : Replica) → 256 < length line → IsTakenFrom line x x
  long_line line x long = grind arith

  -- as much is taken from a line as from what is kept of it
  taken_whole : (rest : List ℕ) (x y : Replica) → IsTakenFrom (take 257 rest) x y → IsTakenFrom rest x y
  taken_whole rest x y t = elim (kept_all rest) [
    | inl whole ↦ subst (λ (l : List ℕ). IsTakenFrom l x y) whole t
    | inr cut ↦ grind (arith, rest, long_line)
  ]

  -- neither a row nor the question is longer than what is kept
  welcome_whole : (p c : ℕ) (rest : List ℕ) → IsWelcome p c (take 257 rest) → IsWelcome p c rest
  welcome_whole p c rest w = elim (kept_all rest) [
    | inl whole ↦ subst (λ (l : List ℕ). IsWelcome p c l) whole w
    | inr cut ↦ absurd (few w cut.1)
  ]
    where
      few : IsWelcome p c (take 257 rest) → length (take 257 rest) ≢ 257
      few (inl row) size = absurd (let s = short row.processor row.number row.entry row.is_entry in let l = ap length row.row_is in omega (arith, s, l, size))
      few (inr asks) size = absurd (let l = ap length asks in omega (arith, l, size))

-- ---- what was read and fed

taken_more : (lines : List (List ℕ)) (line : List ℕ) (x y z : Replica) → AreTakenFrom lines x y → IsTakenFrom line y z → AreTakenFrom (lines ++ line ∷ []) x z
taken_more [] line x y z a t = (z, subst (λ (r : Replica). IsTakenFrom line r z) a t, refl)
taken_more (l ∷ lines) line x y z a t = (a.0, a.1, taken_more lines line a.0 y z a.2 t)

-- if a byte was read
not_reading : (kept : List ℕ) (byte : ℕ) (e : ProgramFault) (f g : Follow) (v w : Option (List ℕ)) → IsLeft kept (Some byte) e f g v w → e ≢ ReadFailed
not_reading kept byte e f g v w (inl unfed) same = grind arith
not_reading kept byte e f g v w (inr (ended, short, failed)) same = grind arith

-- the next byte of those that are left
pub next_left : (xs : List ℕ) (i : ℕ) → i < length xs → drop i xs ≡ get_or xs i 0 ∷ drop (i + 1) xs
next_left xs i h = drop-cons xs i 0 h ∙ ap (λ n. get_or xs i 0 ∷ drop n xs) (let e : suc i ≡ i + 1 = omega arith in e)

pub few_taken : (n : ℕ) (xs : List ℕ) → length xs ≤ 4096 → length (take n xs) ≤ 4096
few_taken n xs few = let size = length-take n xs in omega (arith, size, few)

-- What a run has fed of the bytes that a reader gave: all but the last of them; and it has kept the first of the line that is open.
pub record IsFedBut (is_strict : Bool) (more : List ℕ) (given left : Option (List ℕ)) (kept : List ℕ) (before after : Follow) (old new : Option (List ℕ)) : Type 0 where
  pub bytes : List ℕ
  pub rest : List ℕ
  pub read : Consumes given left (bytes ++ more)
  pub kept_is : kept ≡ take 257 rest
  pub fed : AreFedBytes bytes before after old new rest
  pub shape : SameShape before.dispatch.replica after.dispatch.replica
  pub welcome : is_strict ≡ true → AllByRecursion (IsWelcome before.dispatch.replica.processors before.dispatch.replica.capacity) fed.lines

module _ (s : Bool) (given : Option (List ℕ)) (before : Follow) (u : Option (List ℕ)) where
  -- at the start
  pub fed_nothing : (kept : List ℕ) → IsCaughtUp before → kept ≡ [] → IsFedBut s [] given given kept before before u u
  fed_nothing kept caught none = record {
    bytes = [];
    rest = [];
    read = Consumes-nil given;
    kept_is = none;
    fed = record { lines = []; are_lines = lines_none; fed = record { held_is = refl; gone_on = stays before u u caught (Keeps-refl u) } };
    shape = (refl, refl);
    welcome = λ is. tt;
  }

  module _ (kept : List ℕ) (f : Follow) (v : Option (List ℕ)) where
    -- the reader has given more
    pub read_more : (left left' : Option (List ℕ)) (piece : List ℕ) → IsFedBut s [] given left kept before f u v → Consumes left left' piece → IsFedBut s piece given left' kept before f u v
    read_more left left' piece a c = record {
      bytes = a.bytes;
      rest = a.rest;
      read = Consumes-trans given left left' a.bytes piece (subst (λ (l : List ℕ). Consumes given left l) (append-nil a.bytes) a.read) c;
      kept_is = a.kept_is;
      fed = a.fed;
      shape = a.shape;
      welcome = a.welcome;
    }

    module _ (left : Option (List ℕ)) where
      pub same_more : (more more' : List ℕ) → more ≡ more' → IsFedBut s more given left kept before f u v → IsFedBut s more' given left kept before f u v
      same_more more more' e a = subst (λ (l : List ℕ). IsFedBut s l given left kept before f u v) e a

      -- a byte inside a line
      pub fed_byte : (byte : ℕ) (more kept' : List ℕ) → byte ≢ 10 → IsFedBut s (byte ∷ more) given left kept before f u v
          → ((rest : List ℕ) → kept ≡ take 257 rest → kept' ≡ take 257 (rest ++ byte ∷ [])) → IsFedBut s more given left kept' before f u v
      fed_byte byte more kept' inside a k = record {
        bytes = a.bytes ++ byte ∷ [];
        rest = a.rest ++ byte ∷ [];
        read = subst (λ (l : List ℕ). Consumes given left l) (sym (append_assoc a.bytes (byte ∷ []) more)) a.read;
        kept_is = k a.rest a.kept_is;
        fed = record { lines = a.fed.lines; are_lines = lines_inside a.bytes a.fed.lines a.rest a.fed.are_lines byte inside; fed = a.fed.fed };
        shape = a.shape;
        welcome = a.welcome;
      }

      -- the end of a line
      pub fed_line : RowsAreShort → (byte : ℕ) (more line kept' : List ℕ) (g : Follow) (w : Option (List ℕ)) → byte ≡ 10 → line ≡ kept → kept' ≡ [] → IsFedBut s (byte ∷ more) given left kept before f u v
          → IsFedLine line f g v w → SameShape f.dispatch.replica g.dispatch.replica → (s ≡ true → IsWelcome f.dispatch.replica.processors f.dispatch.replica.capacity line) → IsFedBut s more given left kept' before g u w
      fed_line short byte more line kept' g w end is none a fed shape welcome = record {
        bytes = a.bytes ++ 10 ∷ [];
        rest = [];
        read = subst (λ (l : List ℕ). Consumes given left l) (ap (λ b. a.bytes ++ b ∷ more) end ∙ sym (append_assoc a.bytes (10 ∷ []) more)) a.read;
        kept_is = none;
        fed = record {
          lines = a.fed.lines ++ a.rest ∷ [];
          are_lines = lines_end a.bytes a.fed.lines a.rest a.fed.are_lines;
          fed = record {
            held_is = taken_more a.fed.lines a.rest (replica_of before.dispatch.replica) (replica_of f.dispatch.replica) (replica_of g.dispatch.replica) a.fed.fed.held_is
                (taken_whole short a.rest (replica_of f.dispatch.replica) (replica_of g.dispatch.replica)
                (subst (λ (l : List ℕ). IsTakenFrom l (replica_of f.dispatch.replica) (replica_of g.dispatch.replica)) (is ∙ a.kept_is) fed.held_is));
            gone_on = gone_trans before f g u v w a.fed.fed.gone_on fed.gone_on;
          };
        };
        shape = (a.shape.0 ∙ shape.0, a.shape.1 ∙ shape.1);
        welcome = λ strict. all_append (IsWelcome before.dispatch.replica.processors before.dispatch.replica.capacity) a.fed.lines (a.rest ∷ []) (a.welcome strict) (last (welcome strict), tt);
      }
        where
          last : IsWelcome f.dispatch.replica.processors f.dispatch.replica.capacity line → IsWelcome before.dispatch.replica.processors before.dispatch.replica.capacity a.rest
          last here =
              welcome_whole short before.dispatch.replica.processors before.dispatch.replica.capacity a.rest
              (subst (λ (l : List ℕ). IsWelcome before.dispatch.replica.processors before.dispatch.replica.capacity l) (is ∙ a.kept_is)
              (subst (λ (n : ℕ). IsWelcome before.dispatch.replica.processors n line) (sym a.shape.1) (subst (λ (n : ℕ). IsWelcome n f.dispatch.replica.capacity line) (sym a.shape.0) here)))

      -- a fault at a byte of a piece
      pub stopped_in : (piece line : List ℕ) (i byte : ℕ) (e : ProgramFault) (g : Follow) (w : Option (List ℕ)) → i < length piece → length piece ≤ 4096 → get_or piece i 0 ≡ byte → line ≡ kept
          → IsFedBut s (drop i piece) given left kept before f u v → IsLeft line (Some byte) e f g v w → (is_refusal e ≡ true → line ≢ question) → (bytes : List ℕ) × Consumes given left bytes × IsStopped bytes e before g u w
      stopped_in piece line i byte e g w inside few at is a is_left asked = (
        a.bytes ++ drop i piece,
        a.read,
        record {
          fed = a.bytes;
          more = drop i piece;
          rest = a.rest;
          mid = f;
          reached = v;
          bytes_are = refl;
          near = (let size = length-drop i piece in omega (arith, size, few));
          all_read = λ same. absurd (not_reading line byte e f g v w is_left same);
          are_fed = a.fed;
          left = subst (λ (next : Option ℕ). IsLeft (take 257 a.rest) next e f g v w) (ap (λ b. Some b) (sym at) ∙ sym (ap (λ (l : List ℕ). slice_get l 0) (next_left piece i inside)))
              (subst (λ (l : List ℕ). IsLeft l (Some byte) e f g v w) (is ∙ a.kept_is) is_left);
          asked = λ refused same. asked refused (is ∙ a.kept_is ∙ ap (take 257) same);
        },
      )

-- ---- whole inputs

-- what has been fed, at its end
pub fed_to : (s to_last : Bool) (more : List ℕ) (given left : Option (List ℕ)) (kept : List ℕ) (f g : Follow) (u w : Option (List ℕ)) → IsFedBut s more given left kept f g u w
    → (IsAtEnd left × (more ≡ [])) ⊎ ((to_last ≡ true) × IsPlannedOut g) → IsFedTo s to_last given left f g u w
fed_to s to_last more given left kept f g u w a end = record {
  bytes = a.bytes;
  more = more;
  rest = a.rest;
  read = a.read;
  fed = a.fed;
  end = end;
  welcome = λ is. record { lines = a.fed.lines; are_lines = a.fed.are_lines; each = a.welcome is };
}

-- the fault that a function passes on
pub if_err : {T E : Type 0} (P : E → Type 0) (r : Result T E) (own : E) → IsErrAnd r (λ e. e ≡ own) → P own → IfErr r P
if_err P (Ok x) own is p = absurd is
if_err P (Err e) own is p = subst P (sym is) p
