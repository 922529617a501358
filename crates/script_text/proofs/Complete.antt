-- A script's text has no fault and tells the script; and a text without a fault is a script's.
use Rattle.std.proofs.Common.{◌≡◌, ℕ, ◌+◌, ◌<◌, ◌≤◌, Bool, true, false, cond, List, [], ◌∷◌, ◌++◌, length, map, take, Option, Some, None, Result, Ok, Err, refl, sym, ap, ◌∙◌, arith, subst}
use Rattle.std.specs.Prelude.{◌↔◌, IfOk, codes}
use Rattle.std.specs.List.{All, Contains, flat_map, join_with_byte}
use Rattle.std.proofs.lemmas.List.{append-nil, append_assoc, take_all}
use Rattle.std.proofs.lemmas.List.Concat.{flat_map-append}
use Rattle.std.proofs.lemmas.List.Elements.{All-nil, All-cons, All-contains}
use Rattle.std.proofs.lemmas.List.Splits.{join_with_byte-slice_split}
use Rattle.raid_base.specs.declared.messages.Turn.{Turn}
use Rattle.raid_base.specs.declared.numbers.HostNo.{HostNo}
use Rattle.raid_base.specs.declared.status.Kind.{Kind}
use Rattle.raid_base.specs.declared.status.Kind.TheVariants.{Tail}
use Rattle.text_lines.specs.Lines.{line}
use Rattle.script_text.specs.Script.{Script, HostJobs, host_numbers}
use Rattle.script_text.specs.Text.{Words, head_lines, host_lines, object_words, script_lines, script_text, turn_words}
use Rattle.script_text.specs.Ranges.{IsScript, Rise, all_jobs, all_written}
use Rattle.script_text.specs.declared.lines.Stage.{Stage}
use Rattle.script_text.specs.declared.lines.Stage.TheVariants.{Raid, Devices, Rows, Order, Patience, Tries, Body, Turns, Ended}
use Rattle.script_text.specs.declared.read.ScriptFault.{ScriptFault}
use Rattle.script_text.specs.declared.read.ScriptFault.TheVariants.{Bad}
use Rattle.script_text.specs.Forms.{form_at, words}
use Rattle.script_text.specs.Faults.{Said, after, fault_from, fault_in, fault_of, form_of, is_ended, last_fault, line_fault, nothing_said, or_next, pieces}
use Rattle.script_text.proofs.Says.{line-words}
use Rattle.script_text.proofs.SaidLines.{said_lines}
use Rattle.script_text.proofs.StepKeeps.{Keeps, line-goes}
use Rattle.script_text.proofs.Reading.{pieces-some, read-none}
use Rattle.script_text.proofs.Runs.{Behind, Runs, runs-append, runs-behind, script_from}
use Rattle.script_text.proofs.RunHead.{end-run, head-runs, objects-run, turns-run, with_objects, with_turns}
use Rattle.script_text.proofs.RunHosts.{hosts-run, with_hosts}

low-hosts : (from : ℕ) (hosts : List HostNo) → Rise from hosts → All (λ (host : HostNo). host.0 < 16) hosts
low-hosts from [] r = All-nil _
low-hosts from (host ∷ hosts) r = All-cons (λ (h : HostNo). h.0 < 16) host hosts r.1 (low-hosts (host.0 + 1) hosts r.2)

abbrev ended_with : Script → Said
ended_with s = record { stage = Ended; script = s }

-- all lines of a script, one after another
script-runs : (s : Script) → IsScript s → Runs nothing_said (script_lines s) (ended_with s)
script-runs s i =
    let jobs = all_written (all_jobs s) in
    let all = i.blocks_all in
    let turns = turns-run Body s [] s.turns tt i.turns (λ number c. All-contains (λ (h : HostNo). h.0 < 16) (host_numbers s) number (low-hosts 0 (host_numbers s) i.hosts) c) in
    let whole : take (0 + jobs) s.blocks ≡ s.blocks = take_all (0 + jobs) s.blocks (omega (arith, all)) in
    let hosts_at : List (List ℕ) → Said = λ bs. record { stage = Body; script = record s { blocks = bs; turns = [] } } in
    let hosts = hosts-run s [] s.hosts 0 i refl i.jobs i.blocks_whose (omega (arith, all)) in
    let hosts_all : Runs (with_hosts s [] 0) (flat_map (host_lines s) s.hosts) (with_turns Body s []) = subst (λ (said : Said). Runs (with_hosts s [] 0) (flat_map (host_lines s) s.hosts) said) (ap hosts_at whole) hosts in
    let last = with_turns turns.0 s s.turns in
    let head_objects = runs-append nothing_said (with_objects s []) (with_objects s s.objects) (head_lines s) (map object_words s.objects) (head-runs s i) (objects-run s [] s.objects i refl) in
    let to_hosts = runs-append nothing_said (with_hosts s [] 0) (with_turns Body s []) (head_lines s ++ map object_words s.objects) (flat_map (host_lines s) s.hosts) head_objects hosts_all in
    let to_turns = runs-append nothing_said (with_turns Body s []) last (head_lines s ++ map object_words s.objects ++ flat_map (host_lines s) s.hosts) (map turn_words s.turns) to_hosts turns.2 in
    runs-append nothing_said last (ended_with s) (head_lines s ++ map object_words s.objects ++ flat_map (host_lines s) s.hosts ++ map turn_words s.turns) ((codes "end" ∷ []) ∷ []) to_turns (ended_with s, end-run turns.0 s s.turns turns.1, refl)

text-behind : (s : Script) (rest : List ℕ) → IsScript s → Behind nothing_said (ended_with s) 1 (script_text s ++ rest) rest
unfolding script_text
text-behind s rest i = runs-behind nothing_said (ended_with s) (script_lines s) 1 rest (script-runs s i)

-- behind the end nothing may stand
nothing-more : (s : Script) (number : ℕ) (ps : List (List ℕ)) → 0 < length ps → fault_from (ended_with s) number ps ≡ None → ps ≡ [] ∷ []
nothing-more s number [] l e = absurd (omega arith)
nothing-more s number ([] ∷ []) l e = refl
nothing-more s number ((byte ∷ bytes) ∷ []) l e = cc e
nothing-more s number (text ∷ next ∷ more) l e = cc e

no-rest : (s : Script) (number : ℕ) (rest : List ℕ) → fault_from (ended_with s) number (pieces rest) ≡ None → rest ≡ []
no-rest s number rest e = sym (join_with_byte-slice_split 10 rest) ∙ ap (join_with_byte 10) (nothing-more s number (pieces rest) (pieces-some rest) e)

pub text-no-fault : (s : Script) (bytes : List ℕ) → IsScript s → bytes ≡ script_text s → fault_in bytes ≡ None
text-no-fault s bytes i e =
    let behind = text-behind s [] i in
    ap fault_in (e ∙ sym (append-nil (script_text s))) ∙ behind.faults

pub one-text : (a b : Script) (rest : List ℕ) → IsScript a → IsScript b → script_text b ≡ script_text a ++ rest → (a ≡ b) × (rest ≡ [])
one-text a b rest i j e =
    let left = text-behind a rest i in
    let right = text-behind b [] j in
    let none : fault_from (ended_with a) left.later (pieces rest) ≡ None = sym left.faults ∙ ap fault_in (sym e) ∙ text-no-fault b (script_text b) j refl in
    let empty : rest ≡ [] = no-rest a left.later rest none in
    let first : script_from nothing_said (pieces (script_text a ++ rest)) ≡ a = left.script ∙ ap (λ t. script_from (ended_with a) (pieces t)) empty in
    let second : script_from nothing_said (pieces (script_text b)) ≡ b = ap (λ t. script_from nothing_said (pieces t)) (sym (append-nil (script_text b))) ∙ right.script in
    (sym first ∙ ap (λ t. script_from nothing_said (pieces t)) (sym e) ∙ second, empty)

-- what was read is the script of the text, and no fault is told of it
pub same-read : (bytes : List ℕ) (r : Result Script ScriptFault) → IfOk r (λ script. IsScript script × (bytes ≡ script_text script)) → (script : Script) → IsScript script → bytes ≡ script_text script → IfOk r (λ read. read ≡ script)
same-read bytes (Ok read) h script i e = (one-text read script [] h.0 i (sym e ∙ h.1 ∙ sym (append-nil (script_text read)))).0
same-read bytes (Err fault) h script i e = tt

pub no-fault-read : (bytes : List ℕ) (r : Result Script ScriptFault) → ((line : ℕ) → (kind : Kind) → r ≡ Err (Bad line kind) → fault_in bytes ≡ Some (line, kind)) → (script : Script) → IsScript script → bytes ≡ script_text script → (line : ℕ) → (kind : Kind) → r ≡ Err (Bad line kind) → ⊥
no-fault-read bytes r h script i e line kind is = let none : None ≡ Some (line, kind) = sym (text-no-fault script bytes i e) ∙ h line kind is in cc none

-- a text without a fault is a script's
next-none : (number : ℕ) (o : Option Kind) (more : Option (ℕ × Kind)) → or_next number o more ≡ None → (o ≡ None) × (more ≡ None)
next-none number None more e = (refl, e)
next-none number (Some kind) more e = cc e

fine-line : (ended : Bool) (fault : Option Kind) → cond ended (Some Tail) fault ≡ None → fault ≡ None
fine-line true fault e = cc e
fine-line false fault e = e

last-none : (stage : Stage) (text : List ℕ) → last_fault stage text ≡ None → (stage ≡ Ended) × (text ≡ [])
last-none Ended [] e = (refl, refl)
last-none Ended (byte ∷ bytes) e = cc e
last-none Raid text e = cc e
last-none Devices text e = cc e
last-none Rows text e = cc e
last-none Order text e = cc e
last-none Patience text e = cc e
last-none Tries text e = cc e
last-none Body text e = cc e
last-none Turns text e = cc e

abbrev IsTextOf : List ℕ → Type 0
IsTextOf bytes = (script : Script) × IsScript script × (bytes ≡ script_text script)

last-whole : (stage : Stage) (s : Script) (text : List ℕ) → Keeps stage s → stage ≡ Ended → text ≡ [] → IsTextOf (flat_map line (said_lines stage s) ++ text)
unfolding script_text
last-whole stage s text k e t = (s, k.script, ap (λ x. flat_map line (said_lines stage s) ++ x) t ∙ append-nil (flat_map line (said_lines stage s)) ∙ ap (λ x. flat_map line (said_lines x s)) e)

no-fault-in : (said : Said) (number : ℕ) (ps : List (List ℕ)) → Keeps said.stage said.script → 0 < length ps → fault_from said number ps ≡ None → IsTextOf (flat_map line (said_lines said.stage said.script) ++ join_with_byte 10 ps)
no-fault-in said number [] k l e = absurd (omega arith)
no-fault-in said number (text ∷ []) k l e =
    let last = last-none said.stage text (next-none number (last_fault said.stage text) None e).0 in
    last-whole said.stage said.script text k last.0 last.1
no-fault-in said number (text ∷ next ∷ more) k l e =
    let s = said.script in
    let form = form_at said.stage s text in
    let behind = join_with_byte 10 (next ∷ more) in
    let parts = next-none number (line_fault said text) (fault_from (after s form) (number + 1) (next ∷ more)) e in
    let on = line-goes said.stage s text k (fine-line (is_ended said.stage) (fault_of s form) parts.0) in
    let rest = no-fault-in (after s form) (number + 1) (next ∷ more) on.keeps (omega arith) parts.1 in
    let so_far = flat_map line (said_lines said.stage s) in
    let lines : flat_map line (said_lines (after s form).stage (after s form).script) ≡ so_far ++ (text ++ 10 ∷ []) =
    ap (λ ls. flat_map line ls) on.lines ∙ flat_map-append line (said_lines said.stage s) (words text ∷ []) ∙ ap (λ t. so_far ++ t) (append-nil (line (words text)) ∙ line-words text) in
    let same : so_far ++ (text ++ 10 ∷ behind) ≡ flat_map line (said_lines (after s form).stage (after s form).script) ++ behind =
    ap (λ t. so_far ++ t) (sym (append_assoc text (10 ∷ []) behind)) ∙ sym (append_assoc so_far (text ++ 10 ∷ []) behind) ∙ ap (λ t. t ++ behind) (sym lines) in
    (rest.0, rest.1, same ∙ rest.2)

pub no-fault-text : (bytes : List ℕ) → (fault_in bytes ≡ None) ↔ ((script : Script) × IsScript script × (bytes ≡ script_text script))
no-fault-text bytes = (
  λ e. subst (λ (t : List ℕ). (script : Script) × IsScript script × (t ≡ script_text script)) (join_with_byte-slice_split 10 bytes) (no-fault-in nothing_said 1 (pieces bytes) (read-none bytes).keeps (pieces-some bytes) e),
  λ h. text-no-fault h.0 bytes h.1 h.2,
)
