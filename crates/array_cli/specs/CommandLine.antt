-- The command line as clap reads it.
use Rattle.std.specs.Prelude.{true, codes}
use Rattle.clap.specs.Simple.{App, on_top, new_app, new_rule, new_shape, with_rule, with_subcommand}

-- sim and run have no arguments
abbrev pub load : App
load = with_rule (new_app (codes "load")) (record (new_rule (codes "jobs")) { required = true })

-- the program has no flags and no help of its own
abbrev pub program : App
program = on_top (λ shape. record shape { no_binary_name = true; disable_help_flag = true; disable_help_subcommand = true }) (new_app (codes "array"))

-- sim and run, without arguments, and load with a number of jobs
abbrev pub command_line : App
command_line = with_subcommand (with_subcommand (with_subcommand program (new_shape (codes "sim"))) (new_shape (codes "run"))) load.top
