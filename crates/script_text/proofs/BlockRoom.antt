-- A line's blocks are fewer than its bytes.
use Rattle.std.proofs.Common.{◌≡◌, ℕ, ◌+◌, ◌<◌, ◌≤◌, Bool, true, false, ◌&&◌, eqb, List, [], ◌∷◌, ◌++◌, length, map, Option, Some, None, refl, sym, ap, ◌∙◌, arith, subst}
use Rattle.std.specs.Prelude.{codes}
use Rattle.std.specs.List.{count_by}
use Rattle.std.proofs.lemmas.Bool.{cond_both}
use Rattle.std.proofs.lemmas.List.{length-append, length-map}
use Rattle.std.proofs.lemmas.List.Sums.{count_by-le-length}
use Rattle.std.proofs.lemmas.List.Splits.{length-slice_split}
use Rattle.raid_base.specs.declared.messages.Mode.{Mode}
use Rattle.raid_base.specs.Names.{is_name, is_text}
use Rattle.text_lines.specs.Numbers.{is_number}
use Rattle.script_text.specs.Script.{Script, HostJobs}
use Rattle.script_text.specs.Text.{Words}
use Rattle.script_text.specs.declared.lines.Stage.{Stage}
use Rattle.script_text.specs.declared.lines.Stage.TheVariants.{Raid, Devices, Rows, Order, Patience, Tries, Body, Turns, Ended}
use Rattle.script_text.specs.Forms.{Form, RaidLine, DevicesLine, RowsLine, ModeLine, PatienceLine, TriesLine, ObjectLine, HostLine, JobLine, TurnLine, EndLine, NoLine, Work, Reads, Writes, Recovers, Loses, Fits, Rebuilds, block_of, end_form, form_at, host_form, job_form, job_of, labelled, mode_form, mode_of, object_form, object_or_job, only_number, quit_form, raid_form, turn_form, two_numbers, value, with_number, with_numbers, words, work_of}
use Rattle.script_text.specs.Faults.{after, blocks_in}
use Rattle.script_text.proofs.Says.{Spells, labelled-says, object-says, only-says, two-says, work-says}

abbrev load_of : Work → ℕ
load_of (Reads name first count) = 0
load_of (Writes name first blocks) = length blocks
load_of (Recovers row) = 0
load_of (Loses bay) = 0
load_of (Fits bay) = 0
load_of (Rebuilds bay) = 0

-- how many blocks a line adds
abbrev load : Form → ℕ
load RaidLine = 0
load (DevicesLine n) = 0
load (RowsLine n) = 0
load (ModeLine mode) = 0
load (PatienceLine n) = 0
load (TriesLine n) = 0
load (ObjectLine name rows) = 0
load (HostLine n) = 0
load (JobLine quit work) = load_of work
load (TurnLine h m) = 0
load EndLine = 0
load NoLine = 0

load-work : (work : Work) → length (blocks_in work) ≡ load_of work
load-work (Reads name first count) = refl
load-work (Writes name first blocks) = length-map blocks block_of
load-work (Recovers row) = refl
load-work (Loses bay) = refl
load-work (Fits bay) = refl
load-work (Rebuilds bay) = refl

load-after : (s : Script) (form : Form) → length (after s form).script.blocks ≤ length s.blocks + load form
load-after s RaidLine = omega arith
load-after s (DevicesLine n) = omega arith
load-after s (RowsLine n) = omega arith
load-after s (ModeLine mode) = omega arith
load-after s (PatienceLine n) = omega arith
load-after s (TriesLine n) = omega arith
load-after s (ObjectLine name rows) = omega arith
load-after s (HostLine n) = omega arith
load-after s (JobLine quit work) = omega (arith, length-append s.blocks (blocks_in work), load-work work)
load-after s (TurnLine h m) = omega arith
load-after s EndLine = omega arith
load-after s NoLine = omega arith

job-load : (quit : Option ℕ) (word : List ℕ) (rest : Words) → load (job_of quit (work_of word rest)) ≤ length rest
job-load quit word rest =
    work-says word rest (λ (o : Option Work). load (job_of quit o) ≤ length rest) (record {
      none = omega arith;
      reads = λ name v w is rs n a b. omega arith;
      writes = λ name v blocks is rs n a some all. omega (arith, ap length rs);
      recovers = λ w is rs n. omega arith;
      loses = λ w is rs n. omega arith;
      fits = λ w is rs n. omega arith;
      rebuilds = λ w is rs n. omega arith;
    })

quit-load : (rest : Words) → load (quit_form rest) ≤ length rest
quit-load [] = omega arith
quit-load (requests ∷ []) = omega arith
quit-load (requests ∷ word ∷ rest) =
    let job = job-load (Some (value requests)) word rest in
    cond_both (is_number requests) _ _ (λ (f : Form). load f ≤ length (requests ∷ word ∷ rest)) (λ e. omega (arith, job)) (λ e. omega arith)

job-form-load : (ws : Words) → load (job_form ws) + 1 ≤ length ws + 1
job-form-load [] = omega arith
job-form-load (word ∷ rest) =
    let job = job-load None word rest in
    let quit = quit-load rest in
    cond_both (is_text word (codes "quit")) _ _ (λ (f : Form). load f + 1 ≤ length (word ∷ rest) + 1) (λ e. omega (arith, quit)) (λ e. omega (arith, job))

none-load : (n : ℕ) (f : Form) → f ≡ NoLine → load f ≤ n
none-load n f e = subst (λ (g : Form). load g ≤ n) (sym e) (omega arith)

object-load : (ws : Words) → load (object_form ws) ≤ 0
object-load ws = object-says ws (λ (f : Form). load f ≤ 0) (omega arith) (λ name rows h n some all. omega arith)

other-load : (n : ℕ) (hosts : List HostJobs) (ws : Words) → length ws ≤ n → load (object_or_job hosts ws) ≤ n
other-load n [] ws l = omega (arith, object-load ws)
other-load n (host ∷ hosts) ws l = omega (arith, job-form-load ws)

turn-load : (n : ℕ) (ws : Words) (other : Form) → load other ≤ n → load (turn_form ws other) ≤ n
turn-load n [] other l = l
turn-load n (word ∷ rest) other l =
    cond_both (is_text word (codes "turn")) _ _ (λ (f : Form). load f ≤ n)
    (λ e. two-says rest (λ (p : Option (ℕ × ℕ)). load (with_numbers NoLine (λ host moment. TurnLine host moment) p) ≤ n) (omega arith) (λ v w rs a b. omega arith))
    (λ e. cond_both (is_text word (codes "end")) _ _ (λ (f : Form). load f ≤ n) (λ u. ends rest) (λ u. l))
  where
    ends : (more : Words) → load (end_form more) ≤ n
    ends [] = omega arith
    ends (next ∷ more) = omega arith

host-load : (n : ℕ) (ws : Words) (other : Form) → load other ≤ n → load (host_form ws other) ≤ n
host-load n [] other l = l
host-load n (word ∷ rest) other l =
    cond_both (is_text word (codes "host")) _ _ (λ (f : Form). load f ≤ n)
    (λ e. only-says rest (λ (p : Option ℕ). load (with_number NoLine (λ host. HostLine host) p) ≤ n) (omega arith) (λ w rs a. omega arith))
    (λ e. l)

labelled-load : (label : List ℕ) (make : ℕ → Form) (ws : Words) (n : ℕ) → ((m : ℕ) → load (make m) ≡ 0) → load (labelled label make ws) ≤ n
labelled-load label make ws n h = labelled-says label make ws (λ (f : Form). load f ≤ n) (omega arith) (λ w l m. omega (arith, h (value w)))

mode-load : (n : ℕ) (o : Option Mode) → load (mode_form o) ≤ n
mode-load n None = omega arith
mode-load n (Some mode) = omega arith

form-load : (stage : Stage) (s : Script) (text : List ℕ) → load (form_at stage s text) ≤ length (words text)
form-load Raid s text = cond_both (is_text text (codes "raid 1")) _ _ (λ (f : Form). load f ≤ length (words text)) (λ e. omega arith) (λ e. omega arith)
form-load Devices s text = labelled-load (codes "devices") (λ n. DevicesLine n) (words text) _ (λ m. refl)
form-load Rows s text = labelled-load (codes "rows") (λ n. RowsLine n) (words text) _ (λ m. refl)
form-load Order s text = mode-load _ (mode_of text)
form-load Patience s text = labelled-load (codes "patience") (λ n. PatienceLine n) (words text) _ (λ m. refl)
form-load Tries s text = labelled-load (codes "tries") (λ n. TriesLine n) (words text) _ (λ m. refl)
form-load Body s text = host-load _ (words text) _ (turn-load _ (words text) _ (other-load _ s.hosts (words text) (omega arith)))
form-load Turns s text = turn-load _ (words text) NoLine (omega arith)
form-load Ended s text = omega arith

-- with the byte that ends the line there is room for all its blocks
pub blocks-room : (stage : Stage) (s : Script) (text : List ℕ) → length (after s (form_at stage s text)).script.blocks ≤ length s.blocks + (length text + 1)
blocks-room stage s text =
    let p : ℕ → Bool = λ byte. eqb byte 32 in
    omega (arith, load-after s (form_at stage s text), form-load stage s text, length-slice_split p text, count_by-le-length p text)
