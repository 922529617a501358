-- A host of a script, with room for all that it may still ask and read.
use Rattle.std.specs.Prelude.{ℕ, ◌+◌, ◌≤◌}
use Rattle.std.specs.Vec.{vec_len, vec_capacity}
use Rattle.raid_base.specs.declared.numbers.HostNo.{HostNo}
use Rattle.script_text.specs.Script.{Script}
use Rattle.script_text.specs.Ranges.{IsScript}
use Rattle.histories.specs.Progress.{Progress}
use Rattle.histories.specs.Bounds.{Keeps}
use Rattle.host_engine.specs.Stands.{Stands}
use Rattle.host_engine.specs.declared.host.Host.{Host}

pub record IsReady (now : Host) : Type 0 where
  pub script : Script
  pub host : HostNo
  pub p : Progress
  pub requests : ℕ
  pub contents : ℕ
  pub ranges : IsScript script
  pub stands : Stands script host now p
  pub keeps : Keeps script p requests contents
  pub calls : vec_len now.transcript + requests ≤ vec_capacity now.transcript
  pub reads : contents ≤ vec_capacity now.contents
