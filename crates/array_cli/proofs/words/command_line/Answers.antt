use Rattle.std.proofs.Common.{rules, ap, ap₂, codes, true, ◌≡◌, ◌∙◌}
use Rattle.std.proofs.lemmas.Result.{IfOk-weaker}
use Rattle.clap.specs.Words.{App, Rule, Shape, app_of, new_rule, rule_of, with_rule, with_subcommand}
use Rattle.clap.specs.Simple.{app_of_fields, on_top}
use Rattle.array_cli.specs.CommandLine.{load, program}
use Rattle.array_cli.proofs.words.command_line.Goals as goal

abbrev jobs : Rule
jobs = record (new_rule (codes "jobs")) { required = true }

pub returns : goal.returns
returns c =
    let jobs_is : rule_of c.required-jobs.result ≡ jobs = search rules in
    let load_is : app_of c.in_ok-load.load ≡ load = c.in_ok-load.ensures.shape (search rules) ∙ ap₂ with_rule c.new-2.ensures.app jobs_is in
    let program_is : app_of c.disable_help_subcommand.result ≡ program =
    ap app_of_fields c.disable_help_subcommand.ensures
    ∙ ap (λ (a : App). on_top (λ (s : Shape). record s { disable_help_subcommand = true }) a) (ap app_of_fields c.disable_help_flag.ensures
    ∙ ap (λ (a : App). on_top (λ (s : Shape). record s { disable_help_flag = true }) a) (ap app_of_fields c.no_binary_name.ensures
    ∙ ap (λ (a : App). on_top (λ (s : Shape). record s { no_binary_name = true }) a) c.new-3.ensures.app)) in
    let sim_is = c.in_ok-subcommand.ensures.shape (search rules) ∙ ap₂ with_subcommand program_is (ap (λ (a : App). a.top) c.new-4.ensures.app) in
    let run_is = c.in_ok-subcommand-2.ensures.shape (search rules) ∙ ap₂ with_subcommand sim_is (ap (λ (a : App). a.top) c.new-5.ensures.app) in
    IfOk-weaker c.subcommand-3.result _ _ (λ line added. added.shape (search rules) ∙ ap₂ with_subcommand run_is (ap (λ (a : App). a.top) load_is)) c.subcommand-3.ensures
