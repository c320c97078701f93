-- What the fields of a row hold, as an entry that no rule has looked at.
use Rattle.std.specs.Prelude.{ℕ, ◌≡◌, ◌≢◌, List, [], ◌∷◌, Option}
use Rattle.pfair_entry.specs.Entry.{Logged}
use Rattle.pfair_entry.specs.Notice.{announced, unchecked}
use Rattle.pfair_entry.specs.declared.entry.Announcement.{Announcement}
use Rattle.pfair_entry.specs.declared.notice.Kind.{Kind}
use Rattle.pfair_entry.specs.declared.notice.Kind.TheVariants.{Arrive, Depart, Late}
use Rattle.pfair_entry.specs.declared.notice.Change.{Change}
use Rattle.pfair_entry_row.specs.declared.line.Fields.{Fields}
use Rattle.pfair_entry_row.specs.declared.line.Line.{Line}
use Rattle.pfair_entry_row.specs.Row.{dash, announced_fields, said_fields, IsSpelled, IsSpelledOut}

abbrev pub logged : Line → Logged
logged l = unchecked l.floor l.notice

-- ---- what the fields from the kind on, and from the stamp on, are the text of

abbrev pub announced_texts : Fields → List (List ℕ)
announced_texts f = f.kind.now ∷ f.name.now ∷ f.cost.now ∷ f.period.now ∷ f.early.now ∷ f.index.now ∷ f.by.now ∷ []

abbrev pub Announces : Fields → Change → Type 0
Announces f c = IsSpelled (announced f.name.now c) × (announced_texts f ≡ announced_fields (announced f.name.now c))

abbrev pub AnnouncesNothing : Fields → Type 0
AnnouncesNothing f = (a : Announcement) → IsSpelled a → announced_texts f ≢ announced_fields a

abbrev pub said_texts : Fields → List (List ℕ)
said_texts f = f.at.now ∷ announced_texts f

abbrev pub Notes : Fields → Option (ℕ × Announcement) → Type 0
Notes f s = IsSpelledOut s × (said_texts f ≡ said_fields s)

abbrev pub NotesNothing : Fields → Type 0
NotesNothing f = (s : Option (ℕ × Announcement)) → IsSpelledOut s → said_texts f ≢ said_fields s

-- nothing beside the kind
pub record AreDashes (f : Fields) : Type 0 where
  pub at : f.at.now ≡ dash
  pub name : f.name.now ≡ dash
  pub cost : f.cost.now ≡ dash
  pub period : f.period.now ≡ dash
  pub early : f.early.now ≡ dash
  pub index : f.index.now ≡ dash
  pub by : f.by.now ≡ dash

-- nothing in the fields that a kind doesn't have
abbrev pub HasNoWeight : Fields → Type 0
HasNoWeight f = (f.cost.now ≡ dash) × (f.period.now ≡ dash) × (f.early.now ≡ dash)

abbrev pub HasNoDelay : Fields → Type 0
HasNoDelay f = (f.index.now ≡ dash) × (f.by.now ≡ dash)

abbrev pub HasNoOthers : Kind → Fields → Type 0
HasNoOthers Arrive f = HasNoDelay f
HasNoOthers Depart f = HasNoWeight f × HasNoDelay f
HasNoOthers Late f = HasNoWeight f
