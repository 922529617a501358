-- A script has no more jobs than its text has bytes.
use Rattle.std.proofs.Common.{◌≤◌, List, [], ◌∷◌, ◌++◌, length, map, arith, length-append}
use Rattle.std.specs.Prelude.{codes, flat_map}
use Rattle.std.proofs.lemmas.List.{length-map}
use Rattle.text_lines.specs.Lines.{line, joined}
use Rattle.script_text.specs.Script.{Script, HostJobs}
use Rattle.script_text.specs.Ranges.{all_jobs}
use Rattle.script_text.specs.Text.{Words, head_lines, object_words, host_lines, job_words, turn_words, script_lines, script_text}

lines-long : (lines : List Words) → length lines ≤ length (flat_map line lines)
lines-long [] = omega arith
lines-long (words ∷ lines) =
    omega (arith, length-append (line words) (flat_map line lines), length-append (joined words) (10 ∷ []), lines-long lines)

hosts-long : (script : Script) (hosts : List HostJobs) → length (flat_map (λ (host : HostJobs). host.jobs) hosts) ≤ length (flat_map (host_lines script) hosts)
hosts-long script [] = omega arith
hosts-long script (host ∷ hosts) =
    omega (
      arith,
      length-append host.jobs (flat_map (λ (h : HostJobs). h.jobs) hosts),
      length-append (host_lines script host) (flat_map (host_lines script) hosts),
      length-map host.jobs (job_words script),
      hosts-long script hosts,
    )

pub jobs-short : (script : Script) → length (all_jobs script) ≤ length (script_text script)
unfolding script_text
jobs-short script =
    let front : List Words = head_lines script ++ map object_words script.objects in
    let hosts : List Words = flat_map (host_lines script) script.hosts in
    let turns : List Words = map turn_words script.turns in
    omega (
      arith,
      lines-long (script_lines script),
      length-append (front ++ hosts ++ turns) ((codes "end" ∷ []) ∷ []),
      length-append (front ++ hosts) turns,
      length-append front hosts,
      hosts-long script script.hosts,
    )
