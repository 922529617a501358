-- The lines that a script was told by so far.
use Rattle.std.proofs.Common.{◌≡◌, ℕ, ◌+◌, ◌-◌, ◌^◌, ◌<◌, ◌≤◌, Bool, true, false, List, [], ◌∷◌, ◌++◌, length, map, take, drop, Option, Some, None, refl, sym, ap, ◌∙◌, arith, subst, decimal}
use Rattle.std.specs.Prelude.{codes}
use Rattle.std.specs.List.{flat_map}
use Rattle.std.proofs.lemmas.List.{append-nil, append_assoc, map-append, length-append, drop-append-le, take-append-le, length-drop, take_all, drop_at, take_at}
use Rattle.std.proofs.lemmas.List.Concat.{flat_map-append}
use Rattle.raid_base.specs.declared.messages.Turn.{Turn}
use Rattle.raid_base.specs.declared.jobs.Job.{Job}
use Rattle.raid_base.specs.declared.jobs.Task.{Task}
use Rattle.raid_base.specs.declared.jobs.Task.TheVariants.{Read, Write, Recover, Lose, Fit, Rebuild}
use Rattle.virtual_objects.specs.Objects.{Object}
use Rattle.text_lines.specs.Blocks.{block_text}
use Rattle.script_text.specs.Script.{Script, HostJobs, blocks_of}
use Rattle.script_text.specs.Text.{Words, head_lines, host_lines, job_words, object_words, quit_words, script_lines, task_words, turn_words}
use Rattle.script_text.specs.Ranges.{InOrder, WritesFrom, all_written, blocks_written}
use Rattle.script_text.specs.declared.lines.Stage.{Stage}
use Rattle.script_text.specs.declared.lines.Stage.TheVariants.{Raid, Devices, Rows, Order, Patience, Tries, Body, Turns, Ended}
use Rattle.script_text.specs.Faults.{with_job}
use Rattle.script_text.proofs.Keeps.{written-append, written-cons}

abbrev pub body_lines : Script → List Words
body_lines s = head_lines s ++ map object_words s.objects ++ flat_map (host_lines s) s.hosts ++ map turn_words s.turns

-- the lines so far, where this may come next
abbrev pub said_lines : Stage → Script → List Words
said_lines Raid s = []
said_lines Devices s = take 1 (head_lines s)
said_lines Rows s = take 2 (head_lines s)
said_lines Order s = take 3 (head_lines s)
said_lines Patience s = take 4 (head_lines s)
said_lines Tries s = take 5 (head_lines s)
said_lines Body s = body_lines s
said_lines Turns s = body_lines s
said_lines Ended s = script_lines s

-- an object more, where there are no hosts and turns
pub object-line-more : (h os hs ts : List Words) (o : Words) → hs ≡ [] → ts ≡ [] → h ++ (os ++ o ∷ []) ++ hs ++ ts ≡ (h ++ os ++ hs ++ ts) ++ o ∷ []
object-line-more h os hs ts o e f = rw (e, f) (simp (append_assoc, append-nil))

-- lines more of hosts, where there are no turns
pub host-line-more : (h os hs ts : List Words) (o : Words) → ts ≡ [] → h ++ os ++ (hs ++ o ∷ []) ++ ts ≡ (h ++ os ++ hs ++ ts) ++ o ∷ []
host-line-more h os hs ts o f = rw f (simp (append_assoc, append-nil))

pub turn-line-more : (h os hs ts : List Words) (o : Words) → h ++ os ++ hs ++ (ts ++ o ∷ []) ≡ (h ++ os ++ hs ++ ts) ++ o ∷ []
turn-line-more h os hs ts o = simp append_assoc

-- blocks more behind those of a task leave its words
task-grow : (a b : Script) (more : List (List ℕ)) (at : ℕ) (task : Task) → b.blocks ≡ a.blocks ++ more → WritesFrom at task → at + blocks_written task ≤ length a.blocks → task_words a task ≡ task_words b task
task-grow a b more at (Read object first count) e w l = refl
task-grow a b more at (Write object first from count) e w l =
    let start : from ≡ at = w in
    let room : count ≤ length (drop from a.blocks) = omega (arith, length-drop from a.blocks, start, l) in
    let same : take count (drop from a.blocks) ≡ take count (drop from b.blocks) =
    sym (take-append-le count (drop from a.blocks) more room) ∙ ap (λ bs. take count bs) (sym (drop-append-le from a.blocks more (omega (arith, start, l)))) ∙ ap (λ bs. take count (drop from bs)) (sym e) in
    ap (λ bs. codes "write" ∷ object ∷ decimal first ∷ map block_text bs) same
task-grow a b more at (Recover row) e w l = refl
task-grow a b more at (Lose bay) e w l = refl
task-grow a b more at (Fit bay) e w l = refl
task-grow a b more at (Rebuild bay) e w l = refl

jobs-grow : (a b : Script) (more : List (List ℕ)) (at : ℕ) (jobs : List Job) → b.blocks ≡ a.blocks ++ more → InOrder at jobs → at + all_written jobs ≤ length a.blocks → map (job_words a) jobs ≡ map (job_words b) jobs
jobs-grow a b more at [] e o l = refl
jobs-grow a b more at (job ∷ jobs) e o l =
    let c = written-cons job jobs in
    ap (λ ws. (quit_words job.quit ++ ws) ∷ map (job_words a) jobs) (task-grow a b more at job.task e o.0 (omega (arith, c, l)))
    ∙ ap (λ ls. job_words b job ∷ ls) (jobs-grow a b more (at + blocks_written job.task) jobs e o.1 (omega (arith, c, l)))

pub order-parts : (at : ℕ) (xs ys : List Job) → InOrder at (xs ++ ys) → InOrder at xs × InOrder (at + all_written xs) ys
order-parts at [] ys o = (tt, subst (λ (n : ℕ). InOrder n ys) (omega arith) o)
order-parts at (job ∷ jobs) ys o =
    let rest = order-parts (at + blocks_written job.task) jobs ys o.1 in
    ((o.0, rest.0), subst (λ (n : ℕ). InOrder n ys) (let c = written-cons job jobs in omega (arith, c)) rest.1)

abbrev jobs_in_all : List HostJobs → List Job
jobs_in_all hosts = flat_map (λ (host : HostJobs). host.jobs) hosts

pub lines-grow : (a b : Script) (more : List (List ℕ)) (at : ℕ) (hosts : List HostJobs) → b.blocks ≡ a.blocks ++ more → InOrder at (jobs_in_all hosts) → at + all_written (jobs_in_all hosts) ≤ length a.blocks → flat_map (host_lines a) hosts ≡ flat_map (host_lines b) hosts
lines-grow a b more at [] e o l = refl
lines-grow a b more at (host ∷ hosts) e o l =
    let parts = order-parts at host.jobs (jobs_in_all hosts) o in
    let sums = written-append host.jobs (jobs_in_all hosts) in
    ap (λ ls. ((codes "host" ∷ decimal host.host.0 ∷ []) ∷ ls) ++ flat_map (host_lines a) hosts) (jobs-grow a b more at host.jobs e parts.0 (omega (arith, sums, l)))
    ∙ ap (λ ls. host_lines b host ++ ls) (lines-grow a b more (at + all_written host.jobs) hosts e parts.1 (omega (arith, sums, l)))

-- the line of the job that was added
pub lines-push : (b : Script) (job : Job) (host : HostJobs) (hosts : List HostJobs) → flat_map (host_lines b) (with_job job (host ∷ hosts)) ≡ flat_map (host_lines b) (host ∷ hosts) ++ job_words b job ∷ []
lines-push b job host [] =
    ap (λ ls. ((codes "host" ∷ decimal host.host.0 ∷ []) ∷ ls) ++ []) (map-append (job_words b) host.jobs (job ∷ []))
    ∙ append-nil (((codes "host" ∷ decimal host.host.0 ∷ []) ∷ map (job_words b) host.jobs) ++ job_words b job ∷ [])
    ∙ ap (λ ls. ls ++ job_words b job ∷ []) (sym (append-nil ((codes "host" ∷ decimal host.host.0 ∷ []) ∷ map (job_words b) host.jobs)))
lines-push b job host (next ∷ more) =
    ap (λ ls. host_lines b host ++ ls) (lines-push b job next more) ∙ sym (append_assoc (host_lines b host) (flat_map (host_lines b) (next ∷ more)) (job_words b job ∷ []))

-- a write's own blocks stand behind all others
pub own-blocks : (blocks more : List (List ℕ)) → take (length more) (drop (length blocks) (blocks ++ more)) ≡ more
own-blocks blocks more = ap (λ bs. take (length more) bs) (drop_at blocks more (length blocks) refl) ∙ take_all (length more) more (omega arith)
