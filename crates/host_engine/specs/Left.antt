-- What is left of the attempt in hand.
use Rattle.std.specs.Prelude.{◌≡◌, ℕ, List, [], length, Option, Some, None}
use Rattle.raid_base.specs.Steps.{Steps, answer}
use Rattle.raid_base.specs.declared.cells.Content.{Content}
use Rattle.attempts.specs.Taking.{Finish}
use Rattle.host_read.specs.declared.read_try.ReadTry.{ReadTry}
use Rattle.host_read.specs.Tries as reads
use Rattle.host_write.specs.declared.write_try.WriteTry.{WriteTry}
use Rattle.host_write.specs.Tries as writes
use Rattle.rebuild_txn.specs.declared.mend_try.MendTry.{MendTry}
use Rattle.rebuild_txn.specs.Tries as rebuilds
use Rattle.stripe_recovery.specs.declared.recover_try.RecoverTry.{RecoverTry}
use Rattle.stripe_recovery.specs.Tries as recoveries
use Rattle.host_engine.specs.declared.attempt.Attempt.{Attempt}
use Rattle.host_engine.specs.declared.attempt.Kind.{Kind}
use Rattle.host_engine.specs.declared.attempt.Kind.TheVariants.{Reading, Writing, Recovering, Mending}
use Rattle.host_engine.specs.declared.attempt.Kept.{Kept}
use Rattle.host_engine.specs.declared.attempt.Kept.TheVariants.{Nothing, Contents}
use Rattle.host_engine.specs.declared.duty.Duty.{Duty}
use Rattle.host_engine.specs.declared.duty.Duty.TheVariants as duties
use Rattle.histories.specs.Plain.{contents_in}
use Rattle.histories.specs.Progress.{Work, Trying, Losing, Fitting, no_steps}

-- of each kind, and nothing is left where none was begun
abbrev pub read_left : Option ReadTry → Steps Finish
read_left None = no_steps
read_left (Some try) = reads.left try

abbrev pub write_left : Option WriteTry → List (List ℕ) → Steps Finish
write_left None blocks = no_steps
write_left (Some try) blocks = writes.left try blocks

abbrev pub recovery_left : Option RecoverTry → Steps Finish
recovery_left None = no_steps
recovery_left (Some try) = recoveries.left try

abbrev pub mend_left : Option MendTry → Steps Finish
mend_left None = no_steps
mend_left (Some try) = rebuilds.left try

abbrev pub left_of : Kind → Attempt → List (List ℕ) → Steps Finish
left_of Reading attempt blocks = read_left attempt.reading.value
left_of Writing attempt blocks = write_left attempt.writing.value blocks
left_of Recovering attempt blocks = recovery_left attempt.recovering.value
left_of Mending attempt blocks = mend_left attempt.mending.value

abbrev pub left : Attempt → List (List ℕ) → Steps Finish
left attempt blocks = left_of attempt.kind attempt blocks

-- a write has as many blocks as it writes
abbrev pub FitsWrite : Option WriteTry → List (List ℕ) → Type 0
FitsWrite None blocks = Unit {0}
FitsWrite (Some try) blocks = length blocks ≡ writes.block_count try

abbrev pub SuitsKind : Kind → Attempt → List (List ℕ) → Type 0
SuitsKind Reading attempt blocks = Unit {0}
SuitsKind Writing attempt blocks = FitsWrite attempt.writing.value blocks
SuitsKind Recovering attempt blocks = Unit {0}
SuitsKind Mending attempt blocks = Unit {0}

abbrev pub Suits : Attempt → List (List ℕ) → Type 0
Suits attempt blocks = SuitsKind attempt.kind attempt blocks

-- what a job keeps of it: a read does not hang on blocks
abbrev pub contents_kept : Kept → Attempt → List Content
contents_kept Nothing attempt = []
contents_kept Contents attempt = contents_in (answer (left attempt []))

-- what a host has in hand
abbrev pub work_in : Duty → Attempt → List (List ℕ) → Work
work_in duties.Trying attempt blocks = Trying (left attempt blocks)
work_in (duties.Losing bay) attempt blocks = Losing bay
work_in (duties.Fitting bay) attempt blocks = Fitting bay

abbrev pub SuitsWork : Option Duty → Attempt → List (List ℕ) → Type 0
SuitsWork None attempt blocks = Unit {0}
SuitsWork (Some duties.Trying) attempt blocks = Suits attempt blocks
SuitsWork (Some (duties.Losing bay)) attempt blocks = Unit {0}
SuitsWork (Some (duties.Fitting bay)) attempt blocks = Unit {0}
