-- What lines bring to a follower, and what is written of it.
use Rattle.std.specs.Prelude.{ℕ, Bool, false, true, ◌≡◌, ◌≢◌, ◌≤◌, ◌<◌, ◌⊎◌, List, [], ◌∷◌, ◌++◌, length, max, take, slice_get, Option, Some, None, ◌+◌, nat_le, codes, if◌then◌else◌}
use Rattle.std.specs.List.{AllByRecursion, flat_map}
use Rattle.std.specs.Io.KnownBytes.{Appends, Consumes, IsAtEnd, Keeps}
use Rattle.pfair_entry.specs.Entry.{Logged}
use Rattle.pfair_entry_row.specs.Row.{entry_row, IsEntryAt, IsRowFaultOf}
use Rattle.pfair_replica.specs.Replica.{replica_of, taken, Replica, has_torn, held, numbers_below, sound_beginning}
use Rattle.pfair_table.specs.Refinement.{IsWholePlan}
use Rattle.pfair_text.specs.Rows.{TakesPrefix}
use Rattle.pfair_entry_row.specs.declared.fault.RowFault.{RowFault}
use Rattle.pfair_entry_row.specs.declared.fault.RowFault.TheVariants.{NoRow}
use Rattle.pfair_file.specs.ProgramFaults.{is_refusal}
use Rattle.pfair_file.specs.declared.program_fault.ProgramFault.{ProgramFault}
use Rattle.pfair_file.specs.declared.program_fault.ProgramFault.TheVariants.{Memory, ReadFailed, Row, WriteFailed}
use Rattle.pfair_feed.specs.Follow.{Follow, IsGrown, IsPlannedOut, IsStopOf, news, missing_of}
use Rattle.std.specs.Fmt.{decimal}
use Rattle.pfair_lattice.specs.Held.{Held}
use Rattle.pfair_lattice.specs.declared.join_map.Flat.TheVariants.{One, Torn}
use Rattle.pfair_entry.specs.declared.entry.Announcement.{Announcement}

-- ---- lines

-- a line with its end
abbrev pub ended : List ℕ → List ℕ
ended line = line ++ 10 ∷ []

-- no line ends in it
abbrev pub IsOneLine : List ℕ → Type 0
IsOneLine bytes = AllByRecursion (λ b. b ≢ 10) bytes

-- the bytes are these lines, and then the beginning of one
pub record AreLines (bytes : List ℕ) (lines : List (List ℕ)) (rest : List ℕ) : Type 0 where
  pub bytes_are : bytes ≡ flat_map ended lines ++ rest
  pub whole : AllByRecursion IsOneLine lines
  pub open_end : IsOneLine rest

-- ---- the contents

-- the entry whose row a line is, is taken; any other line brings nothing
pub record IsTakenFrom (line : List ℕ) (before after : Replica) : Type 0 where
  pub row : (processor number : ℕ) (e : Logged) → IsEntryAt processor number e → line ≡ entry_row processor number e → after ≡ taken before processor number e
  pub other : ((processor number : ℕ) (e : Logged) → IsEntryAt processor number e → line ≢ entry_row processor number e) → after ≡ before

-- line by line
abbrev pub AreTakenFrom : List (List ℕ) → Replica → Replica → Type 0
AreTakenFrom [] before after = after ≡ before
AreTakenFrom (line ∷ lines) before after = (mid : Replica) × IsTakenFrom line before mid × AreTakenFrom lines mid after

-- ---- what is planned and written

-- the plan is whole, and the rows of all of it are written
pub record IsCaughtUp (f : Follow) : Type 0 where
  pub whole : IsWholePlan f.dispatch
  pub all_written : length f.dispatch.tables ≤ f.unwritten

-- more is planned and written: the writer has gained the rows of what is new, and nothing has become torn
pub record HasGoneOn (before after : Follow) (old new : Option (List ℕ)) : Type 0 where
  pub output_is : after.output ≡ before.output
  pub grown : IsGrown (record before.dispatch { replica = after.dispatch.replica }) after.dispatch
  pub caught_up : IsCaughtUp after
  pub unwritten_is : after.unwritten ≡ max before.unwritten (length after.dispatch.tables)
  pub sound : has_torn (replica_of before.dispatch.replica) ≡ false → has_torn (replica_of after.dispatch.replica) ≡ false
  pub written : Appends old new (news before after)

pub record IsFedLine (line : List ℕ) (before after : Follow) (old new : Option (List ℕ)) : Type 0 where
  pub held_is : IsTakenFrom line (replica_of before.dispatch.replica) (replica_of after.dispatch.replica)
  pub gone_on : HasGoneOn before after old new

pub record AreFedLines (lines : List (List ℕ)) (before after : Follow) (old new : Option (List ℕ)) : Type 0 where
  pub held_is : AreTakenFrom lines (replica_of before.dispatch.replica) (replica_of after.dispatch.replica)
  pub gone_on : HasGoneOn before after old new

-- these bytes were fed, up to a line that is still open
pub record AreFedBytes (bytes : List ℕ) (before after : Follow) (old new : Option (List ℕ)) (rest : List ℕ) : Type 0 where
  pub lines : List (List ℕ)
  pub are_lines : AreLines bytes lines rest
  pub fed : AreFedLines lines before after old new

-- ---- lines that no one refuses

-- the row of an entry at a key of so many logs with room for so many entries
pub record IsRowAt (processors capacity : ℕ) (line : List ℕ) : Type 0 where
  pub processor : ℕ
  pub number : ℕ
  pub entry : Logged
  pub is_entry : IsEntryAt processor number entry
  pub row_is : line ≡ entry_row processor number entry
  pub key : (processor < processors) × (1 ≤ number) × (number ≤ capacity)

-- the line `?`
abbrev pub question : List ℕ
question = 63 ∷ []

abbrev pub IsWelcome : (processors capacity : ℕ) → List ℕ → Type 0
IsWelcome processors capacity line = IsRowAt processors capacity line ⊎ (line ≡ question)

-- each line of these bytes is such a row or the question
pub record AreWelcome (processors capacity : ℕ) (bytes rest : List ℕ) : Type 0 where
  pub lines : List (List ℕ)
  pub are_lines : AreLines bytes lines rest
  pub each : AllByRecursion (IsWelcome processors capacity) lines

-- ---- inputs

-- What was fed of the bytes that a reader gave: all to its end; or, if the run ends with its last slot, those up to the line with which all
-- slots were planned. In a strict run no line of them is refused.
pub record IsFedTo (is_strict to_last : Bool) (given left : Option (List ℕ)) (before after : Follow) (old new : Option (List ℕ)) : Type 0 where
  pub bytes : List ℕ
  pub more : List ℕ
  pub rest : List ℕ
  pub read : Consumes given left (bytes ++ more)
  pub fed : AreFedBytes bytes before after old new rest
  pub end : (IsAtEnd left × (more ≡ [])) ⊎ ((to_last ≡ true) × IsPlannedOut after)
  pub welcome : is_strict ≡ true → AreWelcome before.dispatch.replica.processors before.dispatch.replica.capacity bytes rest

-- ---- faults

-- the line is the row of an entry at which the follower stops so
pub record IsRowOfStop (f g : Follow) (line : List ℕ) (fault : ProgramFault) : Type 0 where
  pub processor : ℕ
  pub number : ℕ
  pub entry : Logged
  pub is_entry : IsEntryAt processor number entry
  pub row_is : line ≡ entry_row processor number entry
  pub stop : IsStopOf f g processor number entry fault

-- why a line is not taken, and what the follower is then: the line is no entry's row, or the follower stops at its entry
abbrev pub IsCauseIn : (f g : Follow) → List ℕ → ProgramFault → Type 0
IsCauseIn f g line e = ((fault : RowFault) × (e ≡ Row fault) × IsRowFaultOf line fault × (g ≡ f)) ⊎ IsRowOfStop f g line e

-- What stands of a follower after a fault at a line: more may be planned, no row counts as written, and the contents are as before, or with the
-- entry whose row the line is.
pub record HasStood (line : List ℕ) (before after : Follow) : Type 0 where
  pub output_is : after.output ≡ before.output
  pub unwritten_is : after.unwritten ≡ before.unwritten
  pub grown : IsGrown (record before.dispatch { replica = after.dispatch.replica }) after.dispatch
  pub held_is : (replica_of after.dispatch.replica ≡ replica_of before.dispatch.replica) ⊎ IsTakenFrom line (replica_of before.dispatch.replica) (replica_of after.dispatch.replica)

-- a line was fed, and a fault came: the writer was not written to, or it failed and has a part of what is new
pub record HasFailed (line : List ℕ) (e : ProgramFault) (before after : Follow) (old new : Option (List ℕ)) : Type 0 where
  pub cause : IsCauseIn before after line e
  pub taken_is : e ≢ Memory → IsTakenFrom line (replica_of before.dispatch.replica) (replica_of after.dispatch.replica)
  pub stood : HasStood line before after
  pub nothing : e ≢ WriteFailed → Keeps old new
  pub cut : e ≡ WriteFailed → TakesPrefix old new (news before after)

-- The next byte, if there is one, shows that no line was fed: the reader failed, or an allocation for a byte inside a line, or the line that
-- ends is longer than any row.
abbrev pub IsUnfed : (kept : List ℕ) → (next : Option ℕ) → ProgramFault → Type 0
IsUnfed kept next e =
    ((e ≡ ReadFailed) × (next ≡ None))
    ⊎ ((e ≡ Memory) × (byte : ℕ) × (next ≡ Some byte) × (byte ≢ 10))
    ⊎ ((e ≡ Row NoRow) × (next ≡ Some 10) × (256 < length kept))

-- what a fault leaves at a line that is kept so far: all is as before, or the line has ended, and was fed
abbrev pub IsLeft : (kept : List ℕ) → (next : Option ℕ) → ProgramFault → (before after : Follow) → (old new : Option (List ℕ)) → Type 0
IsLeft kept next e before after old new =
    (IsUnfed kept next e × (after ≡ before) × Keeps old new) ⊎ ((next ≡ Some 10) × (length kept ≤ 256) × HasFailed kept e before after old new)

-- What had been fed of some bytes when a fault came: all of them if the reader failed, else all but a part of what one read gave. The
-- question is never refused.
pub record IsStopped (bytes : List ℕ) (e : ProgramFault) (before after : Follow) (old new : Option (List ℕ)) : Type 0 where
  pub fed : List ℕ
  pub more : List ℕ
  pub rest : List ℕ
  pub mid : Follow
  pub reached : Option (List ℕ)
  pub bytes_are : bytes ≡ fed ++ more
  pub near : length more ≤ 4096
  pub all_read : e ≡ ReadFailed → more ≡ []
  pub are_fed : AreFedBytes fed before mid old reached rest
  pub left : IsLeft (take 257 rest) (slice_get more 0) e mid after reached new
  pub asked : is_refusal e ≡ true → rest ≢ question

-- The complaints about logs that are short, and about what a run drops.

-- the line of a key, behind a word
abbrev pub key_line : (word : List ℕ) (processor number : ℕ) → List ℕ
key_line word processor number = word ++ (decimal processor ++ (codes "," ++ (decimal number ++ 10 ∷ [])))

-- where a number is missing of a log
abbrev pub missing_lines : (processor : ℕ) → Option ℕ → List ℕ
missing_lines processor None = []
missing_lines processor (Some number) = key_line (codes "missing ") processor number

-- a line for each log of which an entry would settle more, in order of processors
abbrev pub missing_text : Follow → List ℕ
missing_text f = flat_map (λ processor. missing_lines processor (missing_of f.dispatch.settings (replica_of f.dispatch.replica) processor)) (numbers_below f.dispatch.settings.processors)

-- ---- what a run drops

-- something is stamped after the last of so many slots
abbrev pub is_late : (slots : ℕ) → Option (ℕ × Announcement) → Bool
is_late slots None = false
is_late slots (Some said) = nat_le slots said.0

-- of an entry that is held, its announcement is
abbrev pub is_past : (slots : ℕ) → Held Logged → Bool
is_past slots None = false
is_past slots (Some Torn) = false
is_past slots (Some (One e)) = is_late slots e.said

-- the line of an entry, if the run drops its announcement
abbrev pub dropped_line : Follow → (processor number : ℕ) → List ℕ
dropped_line f processor number = if is_past f.dispatch.settings.slots (held f.dispatch.replica processor number) then key_line (codes "dropped ") processor number else []

-- those of the entries of a log's sound beginning
abbrev pub dropped_of : Follow → (processor : ℕ) → List ℕ
dropped_of f processor = flat_map (λ n. dropped_line f processor (n + 1)) (numbers_below (length (sound_beginning (replica_of f.dispatch.replica) processor)))

-- those of all logs, in order of processors
abbrev pub dropped_text : Follow → List ℕ
dropped_text f = flat_map (dropped_of f) (numbers_below f.dispatch.settings.processors)
