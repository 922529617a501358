-- Calls by their ids, and what a host's stop is.
use Rattle.std.specs.Prelude.{◌≡◌, List, Some}
use Rattle.raid_base.specs.declared.numbers.HostNo.{HostNo}
use Rattle.raid_base.specs.declared.numbers.RowNo.{RowNo}
use Rattle.raid_base.specs.declared.numbers.Number.{Number}
use Rattle.raid_base.specs.declared.messages.How.TheVariants.{Seize}
use Rattle.raid_base.specs.declared.messages.Request.TheVariants.{Claim}
use Rattle.raid_base.specs.declared.messages.Call.{Call}
use Rattle.raid_base.specs.declared.jobs.Cause.{Cause}
use Rattle.raid_base.specs.declared.jobs.Cause.TheVariants as causes
use Rattle.histories.specs.Calls.{Happened, id_of}

-- some of these calls has this id
abbrev pub HasId : Number → List Call → Type 0
HasId id calls = Happened (λ (call : Call). id_of call.ask.what ≡ Some id) calls

-- a host gave up its job where it stopped
abbrev pub IsQuit : Cause → Type 0
IsQuit causes.Quit = Unit {0}
IsQuit _ = ⊥

-- a recovery of this host has this id
abbrev pub IsSeizure : HostNo → Number → Call → Type 0
IsSeizure host id call = (call.ask.host ≡ host) × (row : RowNo) × (mask : _) × (want : _) × (call.ask.what ≡ Claim row id Seize mask want)
