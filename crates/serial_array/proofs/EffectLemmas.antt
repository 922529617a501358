-- What the effect of a result may change.
use Rattle.std.proofs.Common.{◌≡◌, refl, ℕ, ◌-◌, ◌&&◌, Bool, true, false, cond, Option, Some, None}
use Rattle.raid_base.specs.declared.numbers.RowNo.{RowNo}
use Rattle.raid_base.specs.declared.cells.Content.{Content}
use Rattle.raid_base.specs.declared.cells.Content.TheVariants.{Lost}
use Rattle.raid_base.specs.declared.jobs.Task.{Task}
use Rattle.raid_base.specs.declared.jobs.JobEnd.{JobEnd}
use Rattle.raid_base.specs.declared.jobs.JobEnd.TheVariants as ends
use Rattle.raid_base.specs.Cells.{has_unit}
use Rattle.virtual_objects.specs.Objects.{Address, place}
use Rattle.script_text.specs.Script.{Script}
use Rattle.serial_array.specs.Serial.{Array, is_within, Written, written_by, new_content, with_written, is_place, recovered_by, with_lost_at, effect}
use Rattle.serial_array.specs.Ordered.{touches_written, touches_lost, touches_by, EffectsTouch}

-- a block stays where it isn't touched, and hangs on no array where it is
abbrev Changes : Bool → (Array → Array) → Address → Type 0
Changes touched change address = ((array : Array) → touched ≡ false → change array address ≡ array address) × ((x y : Array) → touched ≡ true → change x address ≡ change y address)

chosen : (b : Bool) (content : Content) (address : Address) → Changes b (λ array at. cond b content (array at)) address
chosen true content address = ((λ array off. absurd (let bad : true ≡ false = off in cc)), (λ x y on. refl))
chosen false content address = ((λ array off. refl), (λ x y on. absurd (let bad : false ≡ true = on in cc)))

kept : (address : Address) → Changes false (λ array. array) address
kept address = ((λ array off. refl), (λ x y on. absurd (let bad : false ≡ true = on in cc)))

written-changes : (script : Script) (w : Option Written) (is_made : ℕ → Bool) (address : Address) → Changes (touches_written w is_made address) (with_written script w is_made) address
written-changes script None is_made address = kept address
written-changes script (Some w) is_made address =
    chosen (is_within w.object w.first w.count address && is_made (address.block - w.first)) (new_content script w.first w.from address.block) address

lost-changes : (script : Script) (row : Option RowNo) (lost : Option ℕ) (address : Address) → Changes (touches_lost script row lost address) (with_lost_at script row lost) address
lost-changes script (Some row) (Some unit) address = chosen (is_place row unit (place script.n script.objects address)) Lost address
lost-changes script (Some row) None address = kept address
lost-changes script None lost address = kept address

effect-changes : (script : Script) (task : Task) (ended : JobEnd) (address : Address) → Changes (touches_by script task ended address) (effect script task ended) address
effect-changes script task (ends.Wrote n) address = written-changes script (written_by task) (λ block. true) address
effect-changes script task (ends.Part n made cause) address = written-changes script (written_by task) (has_unit made) address
effect-changes script task (ends.Recovered n closed lost) address = lost-changes script (recovered_by task) lost address
effect-changes script task _ address = kept address

pub effects_touch : EffectsTouch
effects_touch script e address =
    let changes = effect-changes script e.job.task e.ended address in
    record { leaves = changes.0; gives = changes.1 }
