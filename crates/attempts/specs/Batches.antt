-- Errands of one kind, as their constructors see them.
use Rattle.std.specs.Prelude.{List, ◌++◌, Option}
use Rattle.raid_base.specs.declared.numbers.BayNo.{BayNo}
use Rattle.raid_base.specs.declared.numbers.RowNo.{RowNo}
use Rattle.raid_base.specs.declared.numbers.Number.{Number}
use Rattle.raid_base.specs.declared.messages.Errand.{Errand}
use Rattle.attempts.specs.Releases.{releases}

-- releases with one id and one number for all
pub record Releases : Type 0 where
  pub id : Number
  pub number : Option Number
  pub errands : List Errand

-- the releases of a row's slots too
abbrev pub with_releases : Releases → RowNo → List BayNo → Releases
with_releases r row bays = record r { errands = r.errands ++ releases r.id row r.number bays }

-- puts to one row with one number
pub record CellPuts : Type 0 where
  pub id : Number
  pub row : RowNo
  pub number : Number
  pub errands : List Errand
