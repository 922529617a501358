-- How an attempt begins, and what it gives.
use Rattle.std.proofs.Common.{◌≡◌, ℕ, ◌+◌, ◌≤◌, true, false, List, [], ◌∷◌, length, drop, Option, Some, None, refl, sym, ap, subst, ◌∙◌, arith}
use Rattle.std.proofs.lemmas.Bool.{leb-true}
use Rattle.std.proofs.lemmas.List.{length-take-le, length-drop}
use Rattle.raid_base.specs.declared.names.Name.{Name}
use Rattle.raid_base.specs.declared.jobs.Task.{Task}
use Rattle.raid_base.specs.declared.jobs.Task.TheVariants as tasks
use Rattle.raid_base.specs.declared.jobs.RowPart.{RowPart}
use Rattle.attempts.specs.Parts.{blocks_in}
use Rattle.raid_base.specs.declared.messages.Errand.{Errand}
use Rattle.raid_base.specs.Steps.{answer, draws}
use Rattle.attempts.specs.Accesses.{access_of}
use Rattle.attempts.specs.Taking.{Access, Row, Taken}
use Rattle.attempts.specs.Puts.{Puts}
use Rattle.host_write.specs.declared.stages.WriteStage.{WriteStage}
use Rattle.host_write.specs.declared.stages.WriteStage.TheVariants.{ClaimParity, ClaimWanted, ClaimSmall, ShareUntil, ShareAfter, Confirm, Draw, PutData, PutParity, Finish, Release}
use Rattle.host_write.specs.Stages.{is_kept, is_settled}
use Rattle.host_write.specs.Left as write_left
use Rattle.attempts.specs.declared.Repair.{Repair}
use Rattle.attempts.specs.declared.Rescue.{Rescue}
use Rattle.attempts.specs.declared.Hold.{Hold}
use Rattle.rebuild_txn.specs.declared.stages.MendStage.{MendStage}
use Rattle.rebuild_txn.specs.declared.stages.MendStage.TheVariants as mends
use Rattle.rebuild_txn.specs.Stages as mend_stages
use Rattle.rebuild_txn.specs.Left as mend_left
use Rattle.stripe_recovery.specs.declared.stages.RecoverStage.{RecoverStage}
use Rattle.stripe_recovery.specs.declared.stages.RecoverStage.TheVariants as recovers
use Rattle.stripe_recovery.specs.Stages as recover_stages
use Rattle.stripe_recovery.specs.Left as recover_left
use Rattle.host_read.specs.declared.read_try.ReadTry.{ReadTry}
use Rattle.host_read.proofs.ReadLemmas.{draws-left as read-draws}
use Rattle.host_write.specs.declared.write_try.WriteTry.{WriteTry}
use Rattle.host_write.proofs.DrawnLemmas.{draws-left as write-draws}
use Rattle.rebuild_txn.specs.declared.mend_try.MendTry.{MendTry}
use Rattle.stripe_recovery.specs.declared.recover_try.RecoverTry.{RecoverTry}
use Rattle.script_text.specs.Script.{Script}
use Rattle.host_engine.specs.declared.attempt.Attempt.{Attempt}
use Rattle.host_engine.specs.declared.attempt.Kind.{Kind}
use Rattle.host_engine.specs.declared.attempt.Kind.TheVariants.{Reading, Writing, Recovering, Mending}
use Rattle.host_engine.specs.declared.attempt.Kept.TheVariants.{Contents}
use Rattle.host_engine.specs.Left as lefts
use Rattle.histories.specs.Plain.{task_blocks, task_count, is_held_task, AreTaskParts, contents_in}

-- a write has as many blocks as its parts
pub suits-write : (script : Script) (task : Task) (object : Name) (first from count : ℕ) (n : ℕ) (parts : List RowPart) (k : ℕ) → task ≡ tasks.Write object first from count →
    is_held_task (length script.blocks) task ≡ true → AreTaskParts n task parts → k ≡ blocks_in parts → length (task_blocks script task) ≡ k
suits-write script task object first from count n parts k is held sound counted =
    let within : from + count ≤ length script.blocks = leb-true (from + count) (length script.blocks) (sym (ap (is_held_task (length script.blocks)) is) ∙ held) in
    let total : blocks_in parts ≡ count = sound.total ∙ ap task_count is in
    ap (λ (t : Task). length (task_blocks script t)) is ∙ length-take-le count (drop from script.blocks) (omega (arith, within, length-drop from script.blocks)) ∙ sym (counted ∙ total)

-- a write reads nothing
pub nothing-read : (stage : WriteStage) (a : Access) (t : Taken) (rows : List Row) (puts : Puts) (es : List Errand) (n : ℕ) (parts : List RowPart)
    → is_kept stage n parts (length es) t rows puts ≡ true → is_settled stage ≡ true → contents_in (answer (write_left.left_of stage a t rows puts es)) ≡ []
nothing-read ClaimParity a t rows puts [] n parts k h = cc
nothing-read ClaimWanted a t rows puts [] n parts k h = cc
nothing-read ClaimSmall a t rows puts [] n parts k h = cc
nothing-read ShareUntil a t rows puts [] n parts k h = cc
nothing-read ShareAfter a t rows puts [] n parts k h = cc
nothing-read Confirm a t rows puts [] n parts k h = cc
nothing-read Draw a t rows puts [] n parts k h = cc
nothing-read (PutData m row) a t rows puts [] n parts k h = cc
nothing-read (PutParity m row) a t rows puts [] n parts k h = cc
nothing-read (Finish m) a t rows puts [] n parts k h = refl
nothing-read (Release cause) a t rows puts [] n parts k h = refl
nothing-read ClaimParity a t rows puts (x ∷ es) n parts k h = refl
nothing-read ClaimWanted a t rows puts (x ∷ es) n parts k h = refl
nothing-read ClaimSmall a t rows puts (x ∷ es) n parts k h = refl
nothing-read ShareUntil a t rows puts (x ∷ es) n parts k h = refl
nothing-read ShareAfter a t rows puts (x ∷ es) n parts k h = refl
nothing-read Confirm a t rows puts (x ∷ es) n parts k h = refl
nothing-read Draw a t rows puts (x ∷ es) n parts k h = cc
nothing-read (PutData m row) a t rows puts (x ∷ es) n parts k h = refl
nothing-read (PutParity m row) a t rows puts (x ∷ es) n parts k h = refl
nothing-read (Finish m) a t rows puts (x ∷ es) n parts k h = refl
nothing-read (Release cause) a t rows puts (x ∷ es) n parts k h = refl

-- nor does a rebuild
pub nothing-mended : (stage : MendStage) (m : Repair) (holds : List Hold) (es : List Errand) (held : ℕ) → mend_stages.is_kept stage (length es) held ≡ true →
    contents_in (answer (mend_left.left_of stage m holds es)) ≡ []
nothing-mended mends.Claiming m holds [] held k = cc
nothing-mended mends.Confirming m holds [] held k = cc
nothing-mended mends.Putting m holds [] held k = cc
nothing-mended (mends.Releasing why) m holds [] held k = refl
nothing-mended mends.Claiming m holds (x ∷ es) held k = refl
nothing-mended mends.Confirming m holds (x ∷ es) held k = refl
nothing-mended mends.Putting m holds (x ∷ es) held k = refl
nothing-mended (mends.Releasing why) m holds (x ∷ es) held k = refl

-- nor a recovery
pub nothing-recovered : (stage : RecoverStage) (r : Rescue) (t : Taken) (es : List Errand) → recover_stages.is_kept stage (length es) t ≡ true →
    contents_in (answer (recover_left.left_of stage r t es)) ≡ []
nothing-recovered recovers.Parity r t [] k = cc
nothing-recovered recovers.Units r t [] k = cc
nothing-recovered recovers.Confirming r t [] k = cc
nothing-recovered (recovers.Putting n lost) r t [] k = cc
nothing-recovered (recovers.Closing n lost) r t [] k = refl
nothing-recovered (recovers.Releasing why) r t [] k = refl
nothing-recovered recovers.Parity r t (x ∷ es) k = refl
nothing-recovered recovers.Units r t (x ∷ es) k = refl
nothing-recovered recovers.Confirming r t (x ∷ es) k = refl
nothing-recovered (recovers.Putting n lost) r t (x ∷ es) k = refl
nothing-recovered (recovers.Closing n lost) r t (x ∷ es) k = refl
nothing-recovered (recovers.Releasing why) r t (x ∷ es) k = refl

-- no read or write is to draw a number before it asks or ends
pub read-still : (room : Option ReadTry) → draws (lefts.read_left room) ≡ false
read-still None = refl
read-still (Some now) = read-draws now.stage (access_of now.job []) now.taken now.queue _ now.kept now.awake

pub write-still : (room : Option WriteTry) (blocks : List (List ℕ)) → draws (lefts.write_left room blocks) ≡ false
write-still None blocks = refl
write-still (Some now) blocks = write-draws now.stage (access_of now.job blocks) now.taken now.confirmed now.puts now.queue _ _ now.kept now.awake

-- all but a read give no contents
pub nothing-written : (room : Option WriteTry) (blocks : List (List ℕ)) → contents_in (answer (lefts.write_left room blocks)) ≡ []
nothing-written None blocks = refl
nothing-written (Some now) blocks = nothing-read now.stage (access_of now.job blocks) now.taken now.confirmed now.puts now.queue _ _ now.kept now.awake

pub nothing-restored : (room : Option RecoverTry) → contents_in (answer (lefts.recovery_left room)) ≡ []
nothing-restored None = refl
nothing-restored (Some now) = nothing-recovered now.stage now.job now.taken now.queue now.kept

pub nothing-rebuilt : (room : Option MendTry) → contents_in (answer (lefts.mend_left room)) ≡ []
nothing-rebuilt None = refl
nothing-rebuilt (Some now) = nothing-mended now.stage now.job now.holds.items now.queue (length now.holds.items) now.kept

-- so contents do not hang on the blocks
contents-of-kind : (kind : Kind) (attempt : Attempt) (blocks : List (List ℕ)) →
    contents_in (answer (lefts.left_of kind attempt [])) ≡ contents_in (answer (lefts.left_of kind attempt blocks))
contents-of-kind Reading attempt blocks = refl
contents-of-kind Writing attempt blocks = nothing-written attempt.writing.value [] ∙ sym (nothing-written attempt.writing.value blocks)
contents-of-kind Recovering attempt blocks = refl
contents-of-kind Mending attempt blocks = refl

pub same-contents : (attempt : Attempt) (blocks : List (List ℕ)) → lefts.contents_kept Contents attempt ≡ contents_in (answer (lefts.left attempt blocks))
same-contents attempt blocks = contents-of-kind attempt.kind attempt blocks

-- one of this kind that has not ended
pub open-kind : (kind : Kind) (attempt : Attempt) → attempt.kind ≡ kind → ((blocks : List (List ℕ)) → answer (lefts.left attempt blocks) ≡ None) →
    answer (lefts.left_of kind attempt []) ≡ None
open-kind kind attempt is asks = subst (λ (k : Kind). answer (lefts.left_of k attempt []) ≡ None) is (asks [])
