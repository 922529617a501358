use Rattle.attempts.proofs.OnceReads.{reads-once}
use Rattle.attempts.proofs.OnceWrites.{writes-once}
use Rattle.attempts.proofs.OnceRepairs.{mends-once, recoveries-once}
use Rattle.attempts.proofs.laws.attempts_ask_once.Goals as goal

pub returns : goal.returns
returns c = (reads-once, writes-once, λ m least within. mends-once m least, recoveries-once)
