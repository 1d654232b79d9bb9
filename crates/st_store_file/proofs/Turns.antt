-- A turn of a copy.
use Rattle.std.proofs.Common.{◌≡◌, ◌≢◌, ◌∙◌, ℕ, Bool, true, false, List, length, refl, ap}
use Rattle.std.specs.Prelude.{Option, Some}
use Rattle.st_journal.specs.declared.record.Record.{Record}

-- a copy that is not as long as the last turn left it is not known
pub unknown : (is_known : Bool) (left : Option ℕ) (found : ℕ) (old : List Record) → (is_known ≡ true → left ≡ Some found) → found ≡ length old
    → left ≢ Some (length old) → is_known ≡ false
unknown true left found old known long other = absurd (other (known refl ∙ ap Some long))
unknown false left found old known long other = refl
