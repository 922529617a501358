use Rattle.std.proofs.Common.{map, string_bytes, ap, ◌≡◌, ◌∙◌}
use Rattle.std.proofs.lemmas.Result.{IfErr-weaker}
use Rattle.clap.specs.Words.{App, app_of, takes}
use Rattle.array_cli.specs.CommandLine.{command_line}
use Rattle.array_cli.proofs.CommandLineLemmas.{refused-so}
use Rattle.array_cli.proofs.words.parse.Goals as goal

pub returns-clause-refused : goal.returns-clause-refused
returns-clause-refused c =
    let line_is : app_of c.in_ok-command_line.field-0 ≡ command_line = c.in_ok-command_line.ensures in
    let words = map string_bytes c.args.words.now in
    IfErr-weaker c.try_get_matches_from.result _ _ (λ error memory. refused-so words _ (λ is. memory (ap (λ (a : App). takes a words) line_is ∙ is))) c.try_get_matches_from.ensures.passes
