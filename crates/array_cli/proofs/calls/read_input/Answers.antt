use Rattle.std.proofs.Common.{ap, sym, length, ◌∙◌, arith, rules}
use Rattle.array_cli.proofs.Shortness.{jobs-short}
use Rattle.array_cli.proofs.calls.read_input.Goals as goal

pub total-weight-requires-clause-few : goal.total-weight-requires-clause-few
total-weight-requires-clause-few g c =
    let script = c.in-Ok-read_script.script in
    omega (arith, jobs-short script, ap length (sym c.as_slice.ensures.value ∙ c.in-Ok-read_script.ensures.script.1), c.in-Ok.ensures.few)

pub returns-clause-read : goal.returns-clause-read
returns-clause-read g c =
    let script = c.in-Ok-read_script.script in
    record {
      read = search rules;
      few = search rules;
      jobs = omega (arith, jobs-short script, ap length (sym c.as_slice.ensures.value ∙ c.in-Ok-read_script.ensures.script.1), c.in-Ok.ensures.few);
    }
