-- Judgements: what a borrowed one says, and which ones are of changes.
use Rattle.std.specs.Prelude.{◌≡◌, true}
use Rattle.st_dir.specs.Directory.{Directory}
use Rattle.st_core.specs.declared.asked.Asked.{Asked}
use Rattle.st_core.specs.declared.judged.Judged.{Judged}
use Rattle.st_core.specs.declared.judged.JudgedRef.{JudgedRef}
use Rattle.st_core.specs.Step.{judge, asks_for_change}

abbrev pub judgement : {A : Type 0} → JudgedRef A → Judged A
judgement (JudgedRef.Unheard refusal) = Judged.Unheard refusal
judgement (JudgedRef.Heard asker request refusal) = Judged.Heard asker.now request.now refusal

-- by this directory, some change was judged so
abbrev pub JudgesChange : {A : Type 0} → Directory A → Judged A → Type 0
JudgesChange {A} d judged = (asked : Asked A) × (asks_for_change asked ≡ true) × (judge d asked ≡ judged)
