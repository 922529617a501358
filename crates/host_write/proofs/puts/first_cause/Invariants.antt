use Rattle.std.proofs.Common.{◌≡◌, ℕ, List, drop}
use Rattle.attempts.specs.Accesses.{access_of}
use Rattle.attempts.specs.Puts.{first_cause}
use Rattle.host_write.proofs.puts.first_cause.Given as goal

abbrev pub invariant-loop-trouble : goal.invariant-loop-trouble
invariant-loop-trouble l = (blocks : List (List ℕ)) → first_cause (access_of l.job blocks) l.made (drop l.trouble-index l.troubles) ≡ first_cause (access_of l.job blocks) l.made l.troubles
