-- The units that the code is to read or write, as the steps see them.
use Rattle.std.specs.Prelude.{ℕ, List}
use Rattle.attempts.specs.Taking.{Access}
use Rattle.attempts.specs.declared.assignment.Assignment.{Assignment}

-- with the blocks to write
abbrev pub access_of : Assignment → List (List ℕ) → Access
access_of job blocks = record { mode = job.mode; n = job.n; id = job.id; parts = job.parts.items; blocks = blocks }
