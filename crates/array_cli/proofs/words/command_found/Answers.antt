use Rattle.std.proofs.Common.{◌≡◌, ◌∙◌, ◌≤◌, ℕ, List, Bor, Some, None, length, map, option_map, string_bytes, ap, sym, arith}
use Rattle.std.proofs.lemmas.List.{length-map}
use Rattle.array_cli.proofs.CommandLineLemmas.{none-met, one-met, other-met, two-met}
use Rattle.array_cli.proofs.words.command_found.Goals as goal

pub returns-in_err-name : goal.returns-in_err-name
returns-in_err-name c =
    let words = map string_bytes c.args.words.now in
    c.from_residual.ensures ∙ none-met words c.args.matches.now c.subcommand.result c.subcommand.ensures.name c.subcommand.ensures.rows c.requires c.in_err-name.was

pub returns-in-len1 : goal.returns-in-len1
returns-in-len1 c =
    let words = map string_bytes c.args.words.now in
    let count : length words ≡ 1 = omega (arith, c.in-len1.len_at_least, c.in-len1.len_below, length-map c.args.words.now string_bytes) in
    c.read_word.ensures ∙ one-met words c.args.matches.now c.subcommand.result c.subcommand.ensures.name c.subcommand.ensures.rows c.requires
    (c.in_ok-name.name, c.in_ok-name.arguments) c.in_ok-name.was count

pub returns-in_err-get_str-in-len2 : goal.returns-in_err-get_str-in-len2
returns-in_err-get_str-in-len2 c =
    let words = map string_bytes c.args.words.now in
    let count : length words ≡ 2 = omega (arith, c.in-len2.len_at_least, c.in-len2.len_below, length-map c.args.words.now string_bytes) in
    let number = ap (option_map (λ (s : Bor (List ℕ)). s.now)) (sym c.in_err-get_str-in-len2.was) ∙ c.get_str.ensures in
    c.from_residual-in_err-get_str-in-len2.ensures
    ∙ two-met words c.args.matches.now c.subcommand.result c.subcommand.ensures.name c.subcommand.ensures.rows c.requires
    (c.in_ok-name.name, c.in_ok-name.arguments) c.in_ok-name.was count None number

pub returns-in_ok-get_str-in-len2 : goal.returns-in_ok-get_str-in-len2
returns-in_ok-get_str-in-len2 c =
    let words = map string_bytes c.args.words.now in
    let count : length words ≡ 2 = omega (arith, c.in-len2.len_at_least, c.in-len2.len_below, length-map c.args.words.now string_bytes) in
    let number = ap (option_map (λ (s : Bor (List ℕ)). s.now)) (sym c.in_ok-get_str-in-len2.was) ∙ c.get_str.ensures in
    c.read_load.ensures ∙ two-met words c.args.matches.now c.subcommand.result c.subcommand.ensures.name c.subcommand.ensures.rows c.requires
    (c.in_ok-name.name, c.in_ok-name.arguments) c.in_ok-name.was count (Some c.in_ok-get_str-in-len2.field-0.now) number

pub returns-in_default-2 : goal.returns-in_default-2
returns-in_default-2 c =
    let words = map string_bytes c.args.words.now in
    let many : 3 ≤ length words = omega (arith, c.in_default.len_at_least, length-map c.args.words.now string_bytes) in
    other-met words c.args.matches.now c.subcommand.result c.subcommand.ensures.name c.subcommand.ensures.rows c.requires (λ one. omega arith) (λ two. omega arith)
