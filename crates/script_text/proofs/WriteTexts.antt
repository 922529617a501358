-- The text of a script, in the pieces that are written.
use Rattle.std.proofs.Common.{◌≡◌, ℕ, List, [], ◌∷◌, ◌++◌, map, Option, Some, None, sym, ◌∙◌, ap, refl, append_assoc, decimal}
use Rattle.std.specs.Prelude.{codes}
use Rattle.std.specs.List.{flat_map}
use Rattle.std.proofs.lemmas.List.{append-nil}
use Rattle.std.proofs.lemmas.List.Concat.{flat_map-append}
use Rattle.raid_base.specs.declared.jobs.Job.{Job}
use Rattle.raid_base.specs.declared.jobs.Task.{Task}
use Rattle.raid_base.specs.declared.jobs.Task.TheVariants.{Read, Write, Recover, Lose, Fit, Rebuild}
use Rattle.text_lines.specs.Lines.{line, spaced}
use Rattle.text_lines.specs.Blocks.{block_text}
use Rattle.raid_base.specs.declared.numbers.RowNo.{RowNo}
use Rattle.raid_base.specs.declared.messages.Turn.{Turn}
use Rattle.virtual_objects.specs.Objects.{Object}
use Rattle.text_lines.proofs.LineLemmas.{lines_are, line_nil, spaced_map, lines_map, lines_flat}
use Rattle.script_text.specs.Script.{Script, HostJobs, blocks_of}
use Rattle.script_text.specs.Text.{head_lines, host_lines, mode_word, job_words, object_words, quit_prefix, quit_words, script_text, task_words, turn_words}

pub head_is : (script : Script) (n r m p t : List ℕ) → n ≡ decimal script.n → r ≡ decimal script.rows → m ≡ mode_word script.mode → p ≡ decimal script.patience → t ≡ decimal script.tries → codes "raid 1\ndevices " ++ (n ++ (codes "\nrows " ++ (r ++ (codes "\nmode " ++ (m ++ (codes "\npatience " ++ (p ++ (codes "\ntries " ++ (t ++ codes "\n"))))))))) ≡ flat_map line (head_lines script)
head_is script n r m p t ne re me pe te = rw (ne, re, me, pe, te) (sym (lines_are (head_lines script)))

pub object_is : (object : Object) (name : List ℕ) (rows : List RowNo) → name ≡ object.name → rows ≡ object.rows → (codes "object " ++ (name ++ [])) ++ (flat_map (λ (row : RowNo). spaced (decimal row.0)) rows ++ (10 ∷ [])) ≡ line (object_words object)
object_is object name rows n r =
    ap (λ t. codes "object " ++ t) (ap (λ t. t ++ (flat_map (λ (row : RowNo). spaced (decimal row.0)) rows ++ (10 ∷ []))) (append-nil name ∙ n) ∙ ap (λ t. object.name ++ t) (ap (λ (rs : List RowNo). flat_map (λ (row : RowNo). spaced (decimal row.0)) rs ++ (10 ∷ [])) r ∙ spaced_map (λ (row : RowNo). decimal row.0) object.rows))
    ∙ sym (line_nil (object_words object))

pub write_is : (object : List ℕ) (first : ℕ) (blocks : List (List ℕ)) → (codes "write " ++ (object ++ spaced (decimal first))) ++ (flat_map (λ (block : List ℕ). spaced (block_text block)) blocks ++ (10 ∷ [])) ≡ line (codes "write" ∷ object ∷ decimal first ∷ map block_text blocks)
write_is object first blocks =
    ap (λ t. codes "write " ++ t) (append_assoc object (spaced (decimal first)) (flat_map (λ (block : List ℕ). spaced (block_text block)) blocks ++ (10 ∷ [])) ∙ ap (λ t. object ++ (32 ∷ (decimal first ++ t))) (spaced_map block_text blocks))
    ∙ sym (line_nil (codes "write" ∷ object ∷ decimal first ∷ map block_text blocks))

quit_line : (requests : ℕ) (word : List ℕ) (words : List (List ℕ)) → quit_prefix (Some requests) ++ line (word ∷ words) ≡ line (codes "quit" ∷ decimal requests ∷ word ∷ words)
quit_line requests word words =
    ap (λ t. codes "quit " ++ t) (append_assoc (decimal requests) (32 ∷ []) (line (word ∷ words)) ∙ ap (λ t. decimal requests ++ (32 ∷ t)) (line_nil (word ∷ words)))
    ∙ sym (line_nil (codes "quit" ∷ decimal requests ∷ word ∷ words))

job_is_at : (script : Script) (quit : Option ℕ) (task : Task) → quit_prefix quit ++ line (task_words script task) ≡ line (quit_words quit ++ task_words script task)
job_is_at script None task = refl
job_is_at script (Some k) (Read object first count) = quit_line k (codes "read") (object ∷ decimal first ∷ decimal count ∷ [])
job_is_at script (Some k) (Write object first from count) = quit_line k (codes "write") (object ∷ decimal first ∷ map block_text (blocks_of script from count))
job_is_at script (Some k) (Recover row) = quit_line k (codes "recover") (decimal row.0 ∷ [])
job_is_at script (Some k) (Lose bay) = quit_line k (codes "lose") (decimal bay.0 ∷ [])
job_is_at script (Some k) (Fit bay) = quit_line k (codes "fit") (decimal bay.0 ∷ [])
job_is_at script (Some k) (Rebuild bay) = quit_line k (codes "rebuild") (decimal bay.0 ∷ [])

pub job_is : (script : Script) (job : Job) → quit_prefix job.quit ++ line (task_words script job.task) ≡ line (job_words script job)
job_is script job = job_is_at script job.quit job.task

pub host_is : (script : Script) (host : HostJobs) (number : ℕ) (jobs : List Job) → number ≡ host.host.0 → jobs ≡ host.jobs → line (codes "host" ∷ decimal number ∷ []) ++ flat_map (λ (job : Job). line (job_words script job)) jobs ≡ flat_map line (host_lines script host)
host_is script host number jobs n j =
    rw (n, j) (ap (λ t. line (codes "host" ∷ decimal host.host.0 ∷ []) ++ t) (sym (lines_map (job_words script) host.jobs)))

five : (a b c d e : List (List (List ℕ))) → flat_map line (a ++ b ++ c ++ d ++ e) ≡ flat_map line a ++ (flat_map line b ++ (flat_map line c ++ (flat_map line d ++ flat_map line e)))
five a b c d e = simp (flat_map-append, append_assoc)

pub script_is : (script : Script) (objects : List Object) (hosts : List HostJobs) (turns : List Turn) → objects ≡ script.objects → hosts ≡ script.hosts → turns ≡ script.turns → flat_map line (head_lines script) ++ (flat_map (λ (object : Object). line (object_words object)) objects ++ (flat_map (λ (host : HostJobs). flat_map line (host_lines script host)) hosts ++ (flat_map (λ (turn : Turn). line (turn_words turn)) turns ++ codes "end\n"))) ≡ script_text script
unfolding script_text
script_is script objects hosts turns o h t =
    rw (o, h, t) (sym (five (head_lines script) (map object_words script.objects) (flat_map (host_lines script) script.hosts) (map turn_words script.turns) ((codes "end" ∷ []) ∷ [])
    ∙ ap (λ x. flat_map line (head_lines script) ++ (x ++ (flat_map line (flat_map (host_lines script) script.hosts) ++ (flat_map line (map turn_words script.turns) ++ codes "end\n")))) (lines_map object_words script.objects)
    ∙ ap (λ x. flat_map line (head_lines script) ++ (flat_map (λ (object : Object). line (object_words object)) script.objects ++ (x ++ (flat_map line (map turn_words script.turns) ++ codes "end\n")))) (lines_flat (host_lines script) script.hosts)
    ∙ ap (λ x. flat_map line (head_lines script) ++ (flat_map (λ (object : Object). line (object_words object)) script.objects ++ (flat_map (λ (host : HostJobs). flat_map line (host_lines script host)) script.hosts ++ (x ++ codes "end\n")))) (lines_map turn_words script.turns)))
