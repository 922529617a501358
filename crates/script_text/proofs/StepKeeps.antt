-- A line without a fault: the lines so far and it are those of the script behind it.
use Rattle.std.proofs.Common.{◌≡◌, ℕ, ◌+◌, ◌-◌, ◌^◌, ◌<◌, ◌≤◌, Bool, true, false, ◌&&◌, ◌||◌, not, eqb, ltb, leb, List, [], ◌∷◌, ◌++◌, length, map, take, drop, Option, Some, None, refl, sym, ap, ◌∙◌, arith, subst, decimal, lit<, lit≤}
use Rattle.std.specs.Prelude.{codes}
use Rattle.std.specs.List.{All, flat_map, list_all}
use Rattle.std.proofs.lemmas.Bool.{and_parts, cond_both, ltb-true, leb-true, eqb-true, or_cases}
use Rattle.std.proofs.lemmas.List.{append-nil, append_assoc, map-append, length-append, length-map}
use Rattle.std.proofs.lemmas.List.Concat.{flat_map-append}
use Rattle.std.proofs.lemmas.List.Elements.{All-nil}
use Rattle.raid_base.specs.declared.names.Name.{Name}
use Rattle.raid_base.specs.declared.messages.Mode.{Mode}
use Rattle.raid_base.specs.declared.messages.Mode.TheVariants.{Lock, Order as OrderMode}
use Rattle.raid_base.specs.declared.messages.Turn.{Turn}
use Rattle.raid_base.specs.declared.numbers.RowNo.{RowNo}
use Rattle.raid_base.specs.declared.jobs.Job.{Job}
use Rattle.raid_base.specs.Names.{IsNameText, is_name, is_text}
use Rattle.virtual_objects.specs.Objects.{Object}
use Rattle.text_lines.specs.Blocks.{IsBlock, block_text}
use Rattle.text_lines.specs.Numbers.{is_number}
use Rattle.script_text.specs.Script.{Script, HostJobs, blocks_of}
use Rattle.script_text.specs.Text.{Words, head_lines, host_lines, job_words, mode_word, object_words, quit_words, script_lines, task_words, turn_words}
use Rattle.script_text.specs.Ranges.{IsQuit, IsScript}
use Rattle.script_text.specs.declared.lines.Stage.{Stage}
use Rattle.script_text.specs.declared.lines.Stage.TheVariants.{Raid, Devices, Rows, Order, Patience, Tries, Body, Turns, Ended}
use Rattle.script_text.specs.Forms.{Form, RaidLine, DevicesLine, RowsLine, ModeLine, PatienceLine, TriesLine, ObjectLine, HostLine, JobLine, TurnLine, EndLine, NoLine, Work, Reads, Writes, Recovers, Loses, Fits, Rebuilds, block_of, end_form, form_at, host_form, is_block, job_form, job_of, mode_form, mode_of, object_form, object_or_job, only_number, quit_form, raid_form, turn_form, two_numbers, value, with_number, with_numbers, words, work_of}
use Rattle.script_text.specs.Faults.{Said, after, are_names_right, blocks_in, fault_of, has_host, is_allowed, is_from_to, is_in_range, is_operators, last_number, quit_in_range, row_numbers, task_of, with_job, with_work, work_in_range}
use Rattle.script_text.proofs.JobSteps.{judged-fine}
use Rattle.script_text.proofs.LineSteps.{rows-below-all}
use Rattle.script_text.proofs.Keeps.{FitsIn, head-is-script, head_script, host-keeps, job-keeps, object-keeps, turn-keeps}
use Rattle.script_text.proofs.SaidLines.{body_lines, said_lines, object-line-more, host-line-more, turn-line-more, lines-grow, lines-push, own-blocks}
use Rattle.script_text.proofs.Says.{Spells, blocks-are, labelled-says, object-says, only-says, rows-are, text-is, two-says, value-is, work-says}

-- no objects, hosts and turns yet
abbrev IsHead : Script → Type 0
IsHead s = s ≡ head_script s.n s.rows s.mode s.patience s.tries

abbrev pub Fresh : Stage → Script → Type 0
Fresh Raid s = IsHead s
Fresh Devices s = IsHead s
Fresh Rows s = IsHead s
Fresh Order s = IsHead s
Fresh Patience s = IsHead s
Fresh Tries s = IsHead s
Fresh Body s = s.turns ≡ []
Fresh Turns s = Unit {0}
Fresh Ended s = Unit {0}

-- the script so far is a script
pub record Keeps (stage : Stage) (s : Script) : Type 0 where
  pub script : IsScript s
  pub fresh : Fresh stage s

-- and so it is behind a line
pub record Goes (stage : Stage) (s : Script) (text : List ℕ) (said : Said) : Type 0 where
  pub keeps : Keeps said.stage said.script
  pub lines : said_lines said.stage said.script ≡ said_lines stage s ++ words text ∷ []

abbrev pub Fine : Stage → Script → List ℕ → Form → Type 0
Fine stage s text form = fault_of s form ≡ None → Goes stage s text (after s form)

no-line : (stage : Stage) (s : Script) (text : List ℕ) → Fine stage s text NoLine
no-line stage s text e = absurd (cc e)

from-to : (least most n : ℕ) → is_from_to least most n ≡ true → (least ≤ n) × (n ≤ most)
from-to least most n h = let p = and_parts _ _ h in (leb-true _ _ p.0, leb-true _ _ p.1)

raid-goes : (s : Script) (text : List ℕ) → Keeps Raid s → Fine Raid s text (raid_form text)
raid-goes s text k =
    cond_both (is_text text (codes "raid 1")) _ _ (Fine Raid s text)
    (λ t e. record { keeps = record { script = k.script; fresh = k.fresh }; lines = ap (λ x. words x ∷ []) (sym (text-is text (codes "raid 1") t)) })
    (λ t. no-line Raid s text)

devices-goes : (s : Script) (text : List ℕ) → Keeps Devices s → Fine Devices s text (form_at Devices s text)
devices-goes s text k =
    labelled-says (codes "devices") (λ n. DevicesLine n) (words text) (Fine Devices s text) (no-line Devices s text)
    (λ w h n e.
    let r = from-to 3 16 (value w) (judged-fine _ true true e).0 in
    record {
      keeps = record { script = head-is-script (value w) 1 Lock 0 1 r.0 r.1 (lit≤ tt) (lit≤ tt) (lit< tt) (lit≤ tt) (lit≤ tt); fresh = refl };
      lines = ap (λ ws. (codes "raid" ∷ codes "1" ∷ []) ∷ ws ∷ []) (sym (h ∙ ap (λ d. codes "devices" ∷ d ∷ []) (value-is w n (omega (arith, r.1)))));
    })

rows-goes : (s : Script) (text : List ℕ) → Keeps Rows s → Fine Rows s text (form_at Rows s text)
rows-goes s text k =
    labelled-says (codes "rows") (λ n. RowsLine n) (words text) (Fine Rows s text) (no-line Rows s text)
    (λ w h n e.
    let r = from-to 1 4096 (value w) (judged-fine _ true true e).0 in
    record {
      keeps = record { script = head-is-script s.n (value w) Lock 0 1 k.script.devices_least k.script.devices_most r.0 r.1 (lit< tt) (lit≤ tt) (lit≤ tt); fresh = refl };
      lines = ap (λ ws. (codes "raid" ∷ codes "1" ∷ []) ∷ (codes "devices" ∷ decimal s.n ∷ []) ∷ ws ∷ []) (sym (h ∙ ap (λ d. codes "rows" ∷ d ∷ []) (value-is w n (omega (arith, r.1)))));
    })

mode-one : (s : Script) (text : List ℕ) (mode : Mode) → Keeps Order s → words text ≡ codes "mode" ∷ mode_word mode ∷ [] → Goes Order s text (after s (ModeLine mode))
mode-one s text mode k h =
    let i = k.script in
    let same : record s { mode = mode } ≡ head_script s.n s.rows mode s.patience s.tries = ap (λ (x : Script). record x { mode = mode }) k.fresh in
    record {
      keeps = record { script = subst IsScript (sym same) (head-is-script s.n s.rows mode s.patience s.tries i.devices_least i.devices_most i.rows_least i.rows_most i.patience i.tries_least i.tries_most); fresh = same };
      lines = ap (λ ws. (codes "raid" ∷ codes "1" ∷ []) ∷ (codes "devices" ∷ decimal s.n ∷ []) ∷ (codes "rows" ∷ decimal s.rows ∷ []) ∷ ws ∷ []) (sym h);
    }

mode-goes : (s : Script) (text : List ℕ) → Keeps Order s → Fine Order s text (form_at Order s text)
mode-goes s text k =
    cond_both (is_text text (codes "mode lock")) _ _ (λ (o : Option Mode). Fine Order s text (mode_form o))
    (λ t e. mode-one s text Lock k (ap words (text-is text (codes "mode lock") t)))
    (λ t. cond_both (is_text text (codes "mode order")) _ _ (λ (o : Option Mode). Fine Order s text (mode_form o))
    (λ u e. mode-one s text OrderMode k (ap words (text-is text (codes "mode order") u)))
    (λ u. no-line Order s text))

patience-goes : (s : Script) (text : List ℕ) → Keeps Patience s → Fine Patience s text (form_at Patience s text)
patience-goes s text k =
    labelled-says (codes "patience") (λ n. PatienceLine n) (words text) (Fine Patience s text) (no-line Patience s text)
    (λ w h n e.
    let i = k.script in
    let low = ltb-true (value w) (2 ^ 40) (judged-fine _ true true e).0 in
    let same : record s { patience = value w } ≡ head_script s.n s.rows s.mode (value w) s.tries = ap (λ (x : Script). record x { patience = value w }) k.fresh in
    record {
      keeps = record { script = subst IsScript (sym same) (head-is-script s.n s.rows s.mode (value w) s.tries i.devices_least i.devices_most i.rows_least i.rows_most low i.tries_least i.tries_most); fresh = same };
      lines = ap (λ ws. (codes "raid" ∷ codes "1" ∷ []) ∷ (codes "devices" ∷ decimal s.n ∷ []) ∷ (codes "rows" ∷ decimal s.rows ∷ []) ∷ (codes "mode" ∷ mode_word s.mode ∷ []) ∷ ws ∷ [])
          (sym (h ∙ ap (λ d. codes "patience" ∷ d ∷ []) (value-is w n (omega (arith, low)))));
    })

tries-goes : (s : Script) (text : List ℕ) → Keeps Tries s → Fine Tries s text (form_at Tries s text)
tries-goes s text k =
    labelled-says (codes "tries") (λ n. TriesLine n) (words text) (Fine Tries s text) (no-line Tries s text)
    (λ w h n e.
    let i = k.script in
    let r = from-to 1 64 (value w) (judged-fine _ true true e).0 in
    let same : record s { tries = value w } ≡ head_script s.n s.rows s.mode s.patience (value w) = ap (λ (x : Script). record x { tries = value w }) k.fresh in
    let whole : body_lines (record s { tries = value w }) ≡ body_lines (head_script s.n s.rows s.mode s.patience (value w)) = ap body_lines same in
    record {
      keeps = record { script = subst IsScript (sym same) (head-is-script s.n s.rows s.mode s.patience (value w) i.devices_least i.devices_most i.rows_least i.rows_most i.patience r.0 r.1); fresh = ap (λ (x : Script). x.turns) same };
      lines = whole ∙ ap (λ ws. (codes "raid" ∷ codes "1" ∷ []) ∷ (codes "devices" ∷ decimal s.n ∷ []) ∷ (codes "rows" ∷ decimal s.rows ∷ []) ∷ (codes "mode" ∷ mode_word s.mode ∷ []) ∷ (codes "patience" ∷ decimal s.patience ∷ []) ∷ ws ∷ [])
          (sym (h ∙ ap (λ d. codes "tries" ∷ d ∷ []) (value-is w n (omega (arith, r.1)))));
    })

-- the jobs of all hosts write the same blocks, whatever else is added
lines-kept : (a b : Script) → IsScript a → b.blocks ≡ a.blocks → flat_map (host_lines a) a.hosts ≡ flat_map (host_lines b) a.hosts
lines-kept a b i e = lines-grow a b [] 0 a.hosts (e ∙ sym (append-nil a.blocks)) i.blocks_whose (let all = i.blocks_all in omega (arith, all))

object-goes : (s : Script) (text : List ℕ) → Keeps Body s → s.hosts ≡ [] → Fine Body s text (object_form (words text))
object-goes s text k no_hosts =
    object-says (words text) (Fine Body s text) (no-line Body s text)
    (λ name rows h n some all e.
    let i = k.script in
    let fine = judged-fine _ _ true e in
    let few = and_parts (ltb (length s.objects) 64) _ fine.0 in
    let numbers = map value rows in
    let object : Object = record { name = name; rows = row_numbers numbers } in
    let more : Script = record s { objects = s.objects ++ object ∷ [] } in
    let made : ℕ → RowNo = λ row. record { 0 = row } in
    let row_texts : rows ≡ map (λ (row : RowNo). decimal row.0) (row_numbers numbers) = rows-are rows s.rows (omega (arith, i.rows_most)) all few.1 in
    let lines : head_lines s ++ map object_words (s.objects ++ object ∷ []) ++ flat_map (host_lines more) s.hosts ++ map turn_words s.turns ≡ body_lines s ++ words text ∷ [] =
    ap (λ ls. head_lines s ++ ls ++ flat_map (host_lines more) s.hosts ++ map turn_words s.turns) (map-append object_words s.objects (object ∷ []))
    ∙ ap (λ ls. head_lines s ++ (map object_words s.objects ++ object_words object ∷ []) ++ ls ++ map turn_words s.turns) (sym (lines-kept s more i refl))
    ∙ object-line-more (head_lines s) (map object_words s.objects) (flat_map (host_lines s) s.hosts) (map turn_words s.turns) (object_words object) (ap (λ hs. flat_map (host_lines s) hs) no_hosts) (ap (λ ts. map turn_words ts) k.fresh)
    ∙ ap (λ ws. body_lines s ++ ws ∷ []) (sym (h ∙ ap (λ ws. codes "object" ∷ name ∷ ws) row_texts)) in
    record {
      keeps = record {
        script = object-keeps s name (row_numbers numbers) i n (ltb-true _ _ few.0) (omega (arith, length-map numbers made, length-map rows value, some)) (rows-below-all numbers s.rows few.1) fine.1;
        fresh = k.fresh;
      };
      lines = lines;
    })

host-goes : (s : Script) (text w : List ℕ) → Keeps Body s → words text ≡ codes "host" ∷ w ∷ [] → is_number w ≡ true → Fine Body s text (HostLine (value w))
host-goes s text w k h n e =
    let i = k.script in
    let fine = and_parts (ltb (value w) 16) _ (judged-fine _ true true e).0 in
    let low : value w < 16 = ltb-true _ _ fine.0 in
    let host : HostJobs = record { host = record { 0 = value w }; jobs = [] } in
    let more : Script = record s { hosts = s.hosts ++ host ∷ [] } in
    let lines : head_lines s ++ map object_words s.objects ++ flat_map (host_lines more) (s.hosts ++ host ∷ []) ++ map turn_words s.turns ≡ body_lines s ++ words text ∷ [] =
    ap (λ ls. head_lines s ++ map object_words s.objects ++ ls ++ map turn_words s.turns) (flat_map-append (host_lines more) s.hosts (host ∷ []))
    ∙ ap (λ ls. head_lines s ++ map object_words s.objects ++ (ls ++ (codes "host" ∷ decimal (value w) ∷ []) ∷ []) ++ map turn_words s.turns) (sym (lines-kept s more i refl))
    ∙ host-line-more (head_lines s) (map object_words s.objects) (flat_map (host_lines s) s.hosts) (map turn_words s.turns) (codes "host" ∷ decimal (value w) ∷ []) (ap (λ ts. map turn_words ts) k.fresh)
    ∙ ap (λ ws. body_lines s ++ ws ∷ []) (sym (h ∙ ap (λ d. codes "host" ∷ d ∷ []) (value-is w n (omega (arith, low))))) in
    record { keeps = record { script = host-keeps s (value w) i low fine.1; fresh = k.fresh }; lines = lines }

turn-goes : (s : Script) (text v w : List ℕ) → IsScript s → words text ≡ codes "turn" ∷ v ∷ w ∷ [] → is_number v ≡ true → is_number w ≡ true → Fine Turns s text (TurnLine (value v) (value w))
turn-goes s text v w i h a b e =
    let fine = judged-fine (ltb (value v) 16 && ltb (value w) (2 ^ 40)) (has_host s.hosts (value v)) true e in
    let ranges = and_parts (ltb (value v) 16) (ltb (value w) (2 ^ 40)) fine.0 in
    let host_low : value v < 16 = ltb-true _ _ ranges.0 in
    let low : value w < 2 ^ 40 = ltb-true _ _ ranges.1 in
    let turn : Turn = record { host = record { 0 = value v }; moment = value w } in
    let more : Script = record s { turns = s.turns ++ turn ∷ [] } in
    let lines : head_lines s ++ map object_words s.objects ++ flat_map (host_lines more) s.hosts ++ map turn_words (s.turns ++ turn ∷ []) ≡ body_lines s ++ words text ∷ [] =
    ap (λ ls. head_lines s ++ map object_words s.objects ++ flat_map (host_lines more) s.hosts ++ ls) (map-append turn_words s.turns (turn ∷ []))
    ∙ ap (λ ls. head_lines s ++ map object_words s.objects ++ ls ++ (map turn_words s.turns ++ turn_words turn ∷ [])) (sym (lines-kept s more i refl))
    ∙ turn-line-more (head_lines s) (map object_words s.objects) (flat_map (host_lines s) s.hosts) (map turn_words s.turns) (turn_words turn)
    ∙ ap (λ ws. body_lines s ++ ws ∷ []) (sym (h ∙ ap (λ d. codes "turn" ∷ d ∷ w ∷ []) (value-is v a (omega (arith, host_low))) ∙ ap (λ d. codes "turn" ∷ decimal (value v) ∷ d ∷ []) (value-is w b (omega (arith, low))))) in
    record { keeps = record { script = turn-keeps s (value v) (value w) i low fine.1; fresh = tt }; lines = lines }

quit-fits : (quit : Option ℕ) → quit_in_range quit ≡ true → IsQuit quit
quit-fits None h = tt
quit-fits (Some requests) h = from-to 1 (2 ^ 20) requests h

-- a job that fits in, whose words these are
job-core : (s : Script) (text : List ℕ) (quit : Option ℕ) (work : Work) (host : HostJobs) (hosts : List HostJobs) → s.hosts ≡ host ∷ hosts → Keeps Body s → FitsIn s quit work
    → quit_words quit ++ task_words (with_work s quit work) (task_of (length s.blocks) work) ≡ words text → Goes Body s text (after s (JobLine quit work))
job-core s text quit work host hosts e k f h =
    let i = k.script in
    let job : Job = record { task = task_of (length s.blocks) work; quit = quit } in
    let more : Script = with_work s quit work in
    let all = i.blocks_all in
    let grown : flat_map (host_lines s) s.hosts ≡ flat_map (host_lines more) s.hosts = lines-grow s more (blocks_in work) 0 s.hosts refl i.blocks_whose (omega (arith, all)) in
    let pushed : flat_map (host_lines more) (with_job job s.hosts) ≡ flat_map (host_lines more) s.hosts ++ job_words more job ∷ [] =
    subst (λ (hs : List HostJobs). flat_map (host_lines more) (with_job job hs) ≡ flat_map (host_lines more) hs ++ job_words more job ∷ []) (sym e) (lines-push more job host hosts) in
    let lines : head_lines s ++ map object_words s.objects ++ flat_map (host_lines more) (with_job job s.hosts) ++ map turn_words s.turns ≡ body_lines s ++ words text ∷ [] =
    ap (λ ls. head_lines s ++ map object_words s.objects ++ ls ++ map turn_words s.turns) pushed
    ∙ ap (λ ls. head_lines s ++ map object_words s.objects ++ (ls ++ job_words more job ∷ []) ++ map turn_words s.turns) (sym grown)
    ∙ host-line-more (head_lines s) (map object_words s.objects) (flat_map (host_lines s) s.hosts) (map turn_words s.turns) (job_words more job) (ap (λ ts. map turn_words ts) k.fresh)
    ∙ ap (λ ws. body_lines s ++ ws ∷ []) h in
    record { keeps = record { script = job-keeps s quit work host hosts e i f; fresh = k.fresh }; lines = lines }

-- what a job without a fault tells
record JobFine (s : Script) (quit : Option ℕ) (work : Work) : Type 0 where
  quits : quit_in_range quit ≡ true
  works : work_in_range s work ≡ true
  allowed : (not (is_operators work) || eqb (last_number s.hosts) 0) ≡ true

job-fine-of : (s : Script) (quit : Option ℕ) (work : Work) → fault_of s (JobLine quit work) ≡ None → JobFine s quit work
job-fine-of s quit work e =
    let fine = judged-fine _ true (not (is_operators work) || eqb (last_number s.hosts) 0) e in
    let parts = and_parts (quit_in_range quit) _ fine.0 in
    record { quits = parts.0; works = parts.1; allowed = fine.2 }

job-goes : (s : Script) (text : List ℕ) (quit : Option ℕ) (host : HostJobs) (hosts : List HostJobs) (word : List ℕ) (rest : Words) → s.hosts ≡ host ∷ hosts → Keeps Body s
    → (quit_in_range quit ≡ true → words text ≡ quit_words quit ++ (word ∷ rest)) → Fine Body s text (job_of quit (work_of word rest))
job-goes s text quit host hosts word rest e k h =
    let P : Option Work → Type 0 = λ o. Fine Body s text (job_of quit o) in
    let core = λ (work : Work) (f : FitsIn s quit work) (ws : task_words (with_work s quit work) (task_of (length s.blocks) work) ≡ word ∷ rest) (q : quit_in_range quit ≡ true).
    job-core s text quit work host hosts e k f (ap (λ x. quit_words quit ++ x) ws ∙ sym (h q)) in
    work-says word rest P (record {
      none = no-line Body s text;
      reads = λ name v w is rs n a b fault.
          let fine = job-fine-of s quit (Reads name (value v) (value w)) fault in
          let ranges = and_parts (ltb (value v) (2 ^ 20)) _ fine.works in
          let count = from-to 1 120 (value w) ranges.1 in
          let low : value v < 2 ^ 20 = ltb-true _ _ ranges.0 in
          core (Reads name (value v) (value w))
          (record { task = record { name = n; low = low; some = count.0; few = count.1 }; quits = quit-fits quit fine.quits; blocks = All-nil IsBlock; whose = tt; many = refl })
          (ap (λ d. codes "read" ∷ name ∷ d ∷ decimal (value w) ∷ []) (sym (value-is v a (omega (arith, low)))) ∙ ap (λ d. codes "read" ∷ name ∷ v ∷ d ∷ []) (sym (value-is w b (omega (arith, count.1))))
          ∙ ap (λ ws. codes "read" ∷ ws) (sym rs) ∙ ap (λ x. x ∷ rest) (sym is))
          fine.quits;
      writes = λ name v blocks is rs n a some all fault.
          let fine = job-fine-of s quit (Writes name (value v) blocks) fault in
          let ranges = and_parts (ltb (value v) (2 ^ 20)) _ fine.works in
          let low : value v < 2 ^ 20 = ltb-true _ _ ranges.0 in
          let few : length blocks ≤ 120 = leb-true _ _ ranges.1 in
          let are = blocks-are blocks all in
          let long : length (map block_of blocks) ≡ length blocks = length-map blocks block_of in
          let own : take (length blocks) (drop (length s.blocks) (s.blocks ++ map block_of blocks)) ≡ map block_of blocks =
          ap (λ m. take m (drop (length s.blocks) (s.blocks ++ map block_of blocks))) (sym long) ∙ own-blocks s.blocks (map block_of blocks) in
          core (Writes name (value v) blocks)
          (record { task = record { name = n; low = low; some = some; few = few }; quits = quit-fits quit fine.quits; blocks = are.1; whose = refl; many = long })
          (ap (λ bs. codes "write" ∷ name ∷ decimal (value v) ∷ map block_text bs) own ∙ ap (λ ws. codes "write" ∷ name ∷ decimal (value v) ∷ ws) (sym are.0)
          ∙ ap (λ d. codes "write" ∷ name ∷ d ∷ blocks) (sym (value-is v a (omega (arith, low)))) ∙ ap (λ ws. codes "write" ∷ ws) (sym rs) ∙ ap (λ x. x ∷ rest) (sym is))
          fine.quits;
      recovers = λ w is rs n fault.
          let fine = job-fine-of s quit (Recovers (value w)) fault in
          let low : value w < s.rows = ltb-true _ _ fine.works in
          core (Recovers (value w)) (record { task = low; quits = quit-fits quit fine.quits; blocks = All-nil IsBlock; whose = tt; many = refl })
          (ap (λ d. codes "recover" ∷ d ∷ []) (sym (value-is w n (let most = k.script.rows_most in omega (arith, low, most)))) ∙ ap (λ ws. codes "recover" ∷ ws) (sym rs) ∙ ap (λ x. x ∷ rest) (sym is))
          fine.quits;
      loses = λ w is rs n fault.
          let fine = job-fine-of s quit (Loses (value w)) fault in
          let low : value w < s.n = ltb-true _ _ fine.works in
          core (Loses (value w)) (record { task = (eqb-true _ _ fine.allowed, low); quits = quit-fits quit fine.quits; blocks = All-nil IsBlock; whose = tt; many = refl })
          (ap (λ d. codes "lose" ∷ d ∷ []) (sym (value-is w n (let most = k.script.devices_most in omega (arith, low, most)))) ∙ ap (λ ws. codes "lose" ∷ ws) (sym rs) ∙ ap (λ x. x ∷ rest) (sym is))
          fine.quits;
      fits = λ w is rs n fault.
          let fine = job-fine-of s quit (Fits (value w)) fault in
          let low : value w < s.n = ltb-true _ _ fine.works in
          core (Fits (value w)) (record { task = (eqb-true _ _ fine.allowed, low); quits = quit-fits quit fine.quits; blocks = All-nil IsBlock; whose = tt; many = refl })
          (ap (λ d. codes "fit" ∷ d ∷ []) (sym (value-is w n (let most = k.script.devices_most in omega (arith, low, most)))) ∙ ap (λ ws. codes "fit" ∷ ws) (sym rs) ∙ ap (λ x. x ∷ rest) (sym is))
          fine.quits;
      rebuilds = λ w is rs n fault.
          let fine = job-fine-of s quit (Rebuilds (value w)) fault in
          let low : value w < s.n = ltb-true _ _ fine.works in
          core (Rebuilds (value w)) (record { task = (eqb-true _ _ fine.allowed, low); quits = quit-fits quit fine.quits; blocks = All-nil IsBlock; whose = tt; many = refl })
          (ap (λ d. codes "rebuild" ∷ d ∷ []) (sym (value-is w n (let most = k.script.devices_most in omega (arith, low, most)))) ∙ ap (λ ws. codes "rebuild" ∷ ws) (sym rs) ∙ ap (λ x. x ∷ rest) (sym is))
          fine.quits;
    })

quit-goes : (s : Script) (text : List ℕ) (host : HostJobs) (hosts : List HostJobs) (rest : Words) → s.hosts ≡ host ∷ hosts → Keeps Body s → words text ≡ codes "quit" ∷ rest → Fine Body s text (quit_form rest)
quit-goes s text host hosts [] e k h = no-line Body s text
quit-goes s text host hosts (requests ∷ []) e k h = no-line Body s text
quit-goes s text host hosts (requests ∷ word ∷ rest) e k h =
    cond_both (is_number requests) _ _ (Fine Body s text)
    (λ n. job-goes s text (Some (value requests)) host hosts word rest e k
    (λ q. h ∙ ap (λ d. codes "quit" ∷ d ∷ word ∷ rest) (value-is requests n (let r = from-to 1 (2 ^ 20) (value requests) q in omega (arith, r.1)))))
    (λ n. no-line Body s text)

job-form-goes : (s : Script) (text : List ℕ) (host : HostJobs) (hosts : List HostJobs) (ws : Words) → s.hosts ≡ host ∷ hosts → Keeps Body s → words text ≡ ws → Fine Body s text (job_form ws)
job-form-goes s text host hosts [] e k h = no-line Body s text
job-form-goes s text host hosts (word ∷ rest) e k h =
    cond_both (is_text word (codes "quit")) _ _ (Fine Body s text)
    (λ t. quit-goes s text host hosts rest e k (h ∙ ap (λ x. x ∷ rest) (text-is word (codes "quit") t)))
    (λ t. job-goes s text None host hosts word rest e k (λ q. h))

other-goes : (s : Script) (text : List ℕ) (hosts : List HostJobs) → s.hosts ≡ hosts → Keeps Body s → Fine Body s text (object_or_job hosts (words text))
other-goes s text [] e k = object-goes s text k e
other-goes s text (host ∷ hosts) e k = job-form-goes s text host hosts (words text) e k refl

-- a turn, the end, or another line
turn-form-goes : (s : Script) (text : List ℕ) (ws : Words) (other : Form) → IsScript s → words text ≡ ws → Fine Turns s text other → Fine Turns s text (turn_form ws other)
turn-form-goes s text [] other i h o = o
turn-form-goes s text (word ∷ rest) other i h o =
    cond_both (is_text word (codes "turn")) _ _ (Fine Turns s text)
    (λ t. two-says rest (λ (p : Option (ℕ × ℕ)). Fine Turns s text (with_numbers NoLine (λ host moment. TurnLine host moment) p)) (no-line Turns s text)
    (λ v w rs a b. turn-goes s text v w i (h ∙ ap (λ x. x ∷ rest) (text-is word (codes "turn") t) ∙ ap (λ x. codes "turn" ∷ x) rs) a b))
    (λ t. cond_both (is_text word (codes "end")) _ _ (Fine Turns s text)
    (λ u. end-goes rest (h ∙ ap (λ x. x ∷ rest) (text-is word (codes "end") u)))
    (λ u. o))
  where
    end-goes : (rest : Words) → words text ≡ codes "end" ∷ rest → Fine Turns s text (end_form rest)
    end-goes [] ends e = record { keeps = record { script = i; fresh = tt }; lines = ap (λ ws. body_lines s ++ ws ∷ []) (sym ends) }
    end-goes (next ∷ more) ends e = no-line Turns s text e

host-form-goes : (s : Script) (text : List ℕ) (ws : Words) (other : Form) → Keeps Body s → words text ≡ ws → Fine Body s text other → Fine Body s text (host_form ws other)
host-form-goes s text [] other k h o = o
host-form-goes s text (word ∷ rest) other k h o =
    cond_both (is_text word (codes "host")) _ _ (Fine Body s text)
    (λ t. only-says rest (λ (p : Option ℕ). Fine Body s text (with_number NoLine (λ host. HostLine host) p)) (no-line Body s text)
    (λ w rs n. host-goes s text w k (h ∙ ap (λ x. x ∷ rest) (text-is word (codes "host") t) ∙ ap (λ x. codes "host" ∷ x) rs) n))
    (λ t. o)

body-turn : (s : Script) (text : List ℕ) (form : Form) → Fine Turns s text form → Fine Body s text form
body-turn s text form f e = record { keeps = (f e).keeps; lines = (f e).lines }

turn-body : (s : Script) (text : List ℕ) (form : Form) → Fine Body s text form → Fine Turns s text form
turn-body s text form f e = record { keeps = (f e).keeps; lines = (f e).lines }

-- each line without a fault goes on
pub line-goes : (stage : Stage) (s : Script) (text : List ℕ) → Keeps stage s → Fine stage s text (form_at stage s text)
line-goes Raid s text k = raid-goes s text k
line-goes Devices s text k = devices-goes s text k
line-goes Rows s text k = rows-goes s text k
line-goes Order s text k = mode-goes s text k
line-goes Patience s text k = patience-goes s text k
line-goes Tries s text k = tries-goes s text k
line-goes Body s text k =
    host-form-goes s text (words text) (turn_form (words text) (object_or_job s.hosts (words text))) k refl
    (body-turn s text (turn_form (words text) (object_or_job s.hosts (words text))) (turn-form-goes s text (words text) (object_or_job s.hosts (words text)) k.script refl
    (turn-body s text (object_or_job s.hosts (words text)) (other-goes s text s.hosts refl k))))
line-goes Turns s text k = turn-form-goes s text (words text) NoLine k.script refl (no-line Turns s text)
line-goes Ended s text k = no-line Ended s text
