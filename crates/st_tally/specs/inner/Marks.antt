-- An invariant of a representation, which no reader has to believe: what the marks of pages say of their rows' labels.
use Rattle.std.specs.Prelude.{◌≡◌, ℕ, ◌+◌, ◌-◌, ◌<◌, ◌≤◌, Bool, false, cond, IfSome, IsTrue, List, [], ◌∷◌, Option, None, length}
use Rattle.std.specs.Prelude.{get_or, map}
use Rattle.st_text.specs.Texts.{Text}
use Rattle.st_index.specs.declared.row.Row.{Row}
use Rattle.st_index.specs.inner.Entries.{EntryValue}
use Rattle.st_tally.specs.inner.Pages.{NodeValue, entries_of_pages}
use Rattle.st_tally.specs.declared.marks.Marks.{Marks}
use Rattle.st_tally.specs.declared.page_marks.PageMarks.{PageMarks}
use Rattle.st_key.specs.declared.point.Point.{Point}
use Rattle.st_box.specs.declared.query.Query.{Query}
use Rattle.st_box.specs.Query.{is_inside}
use Rattle.st_tally.specs.declared.spots.Spot.{Spot}
use Rattle.st_tally.specs.inner.Spots.{IsSpotOf}

-- the list has this at this place
abbrev pub HasAt : {X : Type 0} → List X → ℕ → X → Type 0
HasAt xs i x = (i < length xs) × (x ≡ get_or xs i x)

-- labels keep their numbers
abbrev pub Keeps : (old new : List Text) → Type 0
Keeps old new = (i : ℕ) (l : Text) → HasAt old i l → HasAt new i l

-- a number below 65,535 says that the entry has one row, at the point of this spot, and one below 512 is the number of the
-- row's label
abbrev pub IsMark : {A : Type 0} → List Text → EntryValue A → (number week : ℕ) → Spot → Type 0
IsMark {A} labels e number week spot = number < 65535
    → (row : Row A) × (e.rows ≡ row ∷ []) × IsSpotOf week spot row.point × (number < 512 → HasAt labels number row.label)

-- what stands at this place is such a mark of the entry
abbrev pub IsMarkedAt : {A : Type 0} → List Text → PageMarks → ℕ → EntryValue A → Type 0
IsMarkedAt labels p i e = (number : ℕ) (spot : Spot) → HasAt p.numbers i number → HasAt p.spots i spot → IsMark labels e number p.week spot

-- each entry has such a mark, at the same place
abbrev pub AreMarks : {A : Type 0} → List Text → List (EntryValue A) → PageMarks → Type 0
AreMarks {A} labels es p = (i : ℕ) (e : EntryValue A) → HasAt es i e → IsMarkedAt labels p i e

-- a truth tells whether the row of the entry that has this mark is inside; where there is none, it is true
abbrev pub IsTested : Query → PageMarks → ℕ → Bool → Type 0
IsTested q p i inside = (number : ℕ) (spot : Spot) → HasAt p.numbers i number → HasAt p.spots i spot
    → (inside ≡ false → number < 65535) × (number < 65535 → (point : Point) → IsSpotOf p.week spot point → inside ≡ is_inside q point)

-- each of these tells it of the entry at its place
abbrev pub AreTested : {A : Type 0} → Query → List (EntryValue A) → PageMarks → List Bool → Type 0
AreTested {A} q es p insides = (i : ℕ) (e : EntryValue A) → HasAt es i e → IsTested q p i (get_or insides i false)

-- none are known
abbrev pub HasNone : PageMarks → Type 0
HasNone p = p.known ≡ false

-- the marks of each page that are known are those of its entries
abbrev pub AreMarkedBy : {A : Type 0} → List Text → List PageMarks → List (NodeValue A) → Type 0
AreMarkedBy {A} labels pages kids = (i : ℕ) (p : PageMarks) (v : NodeValue A) → HasAt pages i p → IsTrue p.known → HasAt kids i v
    → AreMarks labels (entries_of_pages v.pages) p

abbrev pub AreMarked : {A : Type 0} → Marks A → List (NodeValue A) → Type 0
AreMarked m kids = AreMarkedBy m.labels.items m.pages.items kids

-- nothing differs, except at this place
abbrev pub DifferAt : {X : Type 0} → ℕ → (old new : List X) → Type 0
DifferAt {X} at old new = (i : ℕ) (x : X) → (i ≡ at → ⊥) → HasAt new i x → HasAt old i x

-- the pages at this place have these entries
abbrev pub HaveEntriesAt : {A : Type 0} → List (NodeValue A) → ℕ → List (EntryValue A) → Type 0
HaveEntriesAt {A} nodes at entries = (v : NodeValue A) → HasAt nodes at v → entries_of_pages v.pages ≡ entries

-- where nodes differ at this place alone, the new marks are the new nodes' if the old ones are the old nodes'
abbrev pub StayMarked : {A : Type 0} → ℕ → (marks others : Marks A) → (old new : List (NodeValue A)) → Type 0
StayMarked at marks others old new = DifferAt at old new → AreMarked marks old → AreMarked others new

-- no mark differs, except at this place
abbrev pub DifferInMarks : ℕ → (old new : PageMarks) → Type 0
DifferInMarks at old new = DifferAt at old.numbers new.numbers × DifferAt at old.spots new.spots × (new.week ≡ old.week)

-- something comes in at this place
abbrev pub OpensAt : {X : Type 0} → ℕ → (old new : List X) → Type 0
OpensAt {X} at old new = (i : ℕ) (x : X) → HasAt new i x → (i < at → HasAt old i x) × (at < i → HasAt old (i - 1) x)

-- what stands at this place goes
abbrev pub ClosesAt : {X : Type 0} → ℕ → (old new : List X) → Type 0
ClosesAt {X} at old new = (i : ℕ) (x : X) → HasAt new i x → (i < at → HasAt old i x) × (at ≤ i → HasAt old (i + 1) x)

-- whether the label of this number is found true; without a label it is not
abbrev pub verdict_on : (Text → Bool) → List Text → ℕ → Bool
verdict_on judges labels number = get_or (map judges labels) number false

-- each verdict that is known is that on the label of its number
abbrev pub AreKnown : (Text → Bool) → List Text → List (Option Bool) → Type 0
AreKnown judges labels found = (number : ℕ) → IfSome (get_or found number None) (λ verdict. verdict ≡ verdict_on judges labels number)

-- how many of the rows tallied by the numbers of their labels have a label that is found true
unfoldable pub tallied : (Text → Bool) → List Text → List ℕ → ℕ
tallied judges [] ns = 0
tallied judges (l ∷ ls) [] = 0
tallied judges (l ∷ ls) (n ∷ ns) = cond (judges l) n 0 + tallied judges ls ns

-- the number, with what was tallied since, makes up the count
abbrev pub MakeUp : (Text → Bool) → List Text → (number count : ℕ) → (old new : List ℕ) → Type 0
MakeUp judges labels number count old new = number + tallied judges labels new ≡ count + tallied judges labels old
