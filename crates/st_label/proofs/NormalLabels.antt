-- The normal forms of labels are labels.
use Rattle.std.proofs.Common.{◌≡◌, ◌≤◌, ℕ, List, Bool, length, refl, sym, ap, ◌∙◌, arith}
use Rattle.st_label.specs.Tree.{Tree, holds}
use Rattle.st_label.specs.Grammar.{Reads}
use Rattle.st_label.specs.Refusals.{max_depth}
use Rattle.st_label.specs.Reading.{reading, is_true, IsLabel}
use Rattle.st_label.specs.Normal.{normal, normal_text, tree_text}
use Rattle.st_label.proofs.Places.{is_label, reading_is}
use Rattle.st_label.proofs.Shrinks.{normal_reads, reads_true}
use Rattle.st_label.proofs.Stable.{normal_again}

-- by the tree that the label reads as
pub label_normal : (text : List ℕ) (r : Tree) → IsLabel text → r ≡ reading text → IsLabel (tree_text (normal r)) × (normal r ≡ reading (tree_text (normal r)))
label_normal text r is same =
    let reads : Reads max_depth text r = rw same is.reads in
    let again = normal_reads reads in
    let short = is.short in
    (is_label (tree_text (normal r)) (normal r) (omega (arith, again.1)) again.0, sym (reading_is (tree_text (normal r)) (normal r) again.0))

pub normal_is_label : (label : List ℕ) → IsLabel label → IsLabel (normal_text label)
normal_is_label label is = (label_normal label (reading label) is refl).0

pub normal_reading : (label : List ℕ) → IsLabel label → reading (normal_text label) ≡ normal (reading label)
normal_reading label is = sym (label_normal label (reading label) is refl).1

pub normal_truth : (label : List ℕ) (has : List ℕ → Bool) → IsLabel label → is_true has (normal_text label) ≡ is_true has label
normal_truth label has is = ap (holds has) (normal_reading label is) ∙ reads_true max_depth label (reading label) has is.reads

pub normal_idempotent : (label : List ℕ) → IsLabel label → normal_text (normal_text label) ≡ normal_text label
normal_idempotent label is = ap (λ r. tree_text (normal r)) (normal_reading label is) ∙ ap tree_text (normal_again max_depth label (reading label) is.reads)

pub normal_short : (label : List ℕ) → IsLabel label → length (normal_text label) ≤ length label
normal_short label is = (normal_reads is.reads).1
