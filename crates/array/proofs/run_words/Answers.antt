use Rattle.std.proofs.Common.{refl}
use Rattle.array.proofs.run_words.Goals as goal

pub returns-clause-ran : goal.returns-clause-ran
returns-clause-ran g c = record {
  outcome = c.in_ok-outcome.outcome;
  sim = c.in_ok-outcome.ensures.sim;
  run = c.in_ok-outcome.ensures.run;
  load = c.in_ok-outcome.ensures.load;
  others = c.in_ok-outcome.ensures.others;
  status_is = refl;
}
