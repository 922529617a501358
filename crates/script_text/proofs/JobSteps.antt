-- What a job's line does to a script.
use Rattle.std.proofs.Common.{◌≡◌, ℕ, ◌⊎◌, inl, inr, Bool, true, false, ◌&&◌, ◌||◌, not, eqb, List, [], ◌∷◌, ◌++◌, length, Option, Some, None, refl, sym, ap, ◌∙◌, subst}
use Rattle.std.proofs.lemmas.Bool.{and_from, and_parts, eq-eqb, ne_eqb, or_left, or_right}
use Rattle.raid_base.specs.declared.jobs.Job.{Job}
use Rattle.raid_base.specs.declared.jobs.Task.{Task}
use Rattle.raid_base.specs.declared.status.Kind.{Kind}
use Rattle.raid_base.specs.declared.status.Kind.TheVariants.{Range, Name, Operator}
use Rattle.script_text.specs.Script.{Script, HostJobs}
use Rattle.script_text.specs.declared.lines.Stage.TheVariants.{Body}
use Rattle.script_text.specs.Forms.{Form, JobLine, Work, Reads, Writes, Recovers, Loses, Fits, Rebuilds}
use Rattle.script_text.specs.Faults.{Said, after, are_names_right, blocks_in, fault_of, is_allowed, is_operators, judged, last_number, quit_in_range, task_of, with_job, with_work, work_in_range}
use Rattle.script_text.specs.Steps.{with_host}

pub judged-none : (a b c : Bool) → a ≡ true → b ≡ true → c ≡ true → judged a b c ≡ None
judged-none a b c x y z = rw (x, y, z) refl

pub judged-range : (a b c : Bool) → a ≡ false → judged a b c ≡ Some Range
judged-range a b c x = rw x refl

pub judged-name : (a b c : Bool) → a ≡ true → b ≡ false → judged a b c ≡ Some Name
judged-name a b c x y = rw (x, y) refl

pub judged-operator : (a b c : Bool) → a ≡ true → b ≡ true → c ≡ false → judged a b c ≡ Some Operator
judged-operator a b c x y z = rw (x, y, z) refl

pub judged-fine : (a b c : Bool) → judged a b c ≡ None → (a ≡ true) × (b ≡ true) × (c ≡ true)
judged-fine true true true e = (refl, refl, refl)
judged-fine true true false e = cc e
judged-fine true false c e = cc e
judged-fine false b c e = cc e

pub last-push : (hosts : List HostJobs) (host : HostJobs) → last_number (hosts ++ host ∷ []) ≡ host.host.0
last-push [] host = refl
last-push (first ∷ []) host = refl
last-push (first ∷ next ∷ more) host = last-push (next ∷ more) host

pub job-push : (job : Job) (hosts : List HostJobs) (host : HostJobs) → with_job job (hosts ++ host ∷ []) ≡ hosts ++ record { host = host.host; jobs = host.jobs ++ job ∷ [] } ∷ []
job-push job [] host = refl
job-push job (first ∷ []) host = refl
job-push job (first ∷ next ∷ more) host = ap (λ hs. first ∷ hs) (job-push job (next ∷ more) host)

pub range-same : (script : Script) (host : HostJobs) (work : Work) → work_in_range (with_host script host) work ≡ work_in_range script work
range-same script host (Reads name first count) = refl
range-same script host (Writes name first blocks) = refl
range-same script host (Recovers row) = refl
range-same script host (Loses bay) = refl
range-same script host (Fits bay) = refl
range-same script host (Rebuilds bay) = refl

pub job-operator : (script : Script) (host : HostJobs) (quit : Option ℕ) (work : Work) → quit_in_range quit ≡ true → work_in_range script work ≡ true → is_operators work ≡ true → (host.host.0 ≡ 0 → ⊥) → Some Operator ≡ fault_of (with_host script host) (JobLine quit work)
job-operator script host quit work q r o n =
    let not_first : eqb (last_number (script.hosts ++ host ∷ [])) 0 ≡ false = ap (λ k. eqb k 0) (last-push script.hosts host) ∙ ne_eqb _ _ n in
    sym (judged-operator _ _ _ (and_from _ _ q (range-same script host work ∙ r)) refl (rw (o, not_first) refl))

pub job-allowed : (script : Script) (host : HostJobs) (work : Work) → (is_operators work ≡ false) ⊎ (host.host.0 ≡ 0) → (not (is_operators work) || eqb (last_number (script.hosts ++ host ∷ [])) 0) ≡ true
job-allowed script host work (inl e) = or_left _ _ (ap not e)
job-allowed script host work (inr e) = or_right _ _ (ap (λ k. eqb k 0) (last-push script.hosts host) ∙ eq-eqb _ _ e)

pub job-fine : (script : Script) (host : HostJobs) (quit : Option ℕ) (work : Work) → quit_in_range quit ≡ true → work_in_range script work ≡ true → (is_operators work ≡ false) ⊎ (host.host.0 ≡ 0) → None ≡ fault_of (with_host script host) (JobLine quit work)
job-fine script host quit work q r o = sym (judged-none _ _ _ (and_from _ _ q (range-same script host work ∙ r)) refl (job-allowed script host work o))

-- a job without a fault is in range
pub job-ranges : (script : Script) (host : HostJobs) (quit : Option ℕ) (work : Work) (r : Option Kind) → r ≡ fault_of (with_host script host) (JobLine quit work) → r ≡ None → (quit_in_range quit ≡ true) × (work_in_range script work ≡ true)
job-ranges script host quit work r e n =
    let fine = judged-fine _ (are_names_right (with_host script host) (JobLine quit work)) (is_allowed (with_host script host) (JobLine quit work)) (sym e ∙ n) in
    let parts = and_parts (quit_in_range quit) _ fine.0 in
    (parts.0, sym (range-same script host work) ∙ parts.1)

-- what stands behind the job's line
pub job-after : (script : Script) (host more : HostJobs) (quit told : Option ℕ) (work : Work) (task : Task) (blocks : List (List ℕ)) (hosts : List HostJobs)
    → blocks ≡ script.blocks ++ blocks_in work → task ≡ task_of (length script.blocks) work → told ≡ quit → more ≡ record { host = host.host; jobs = host.jobs ++ record { task = task; quit = told } ∷ [] } → hosts ≡ script.hosts ++ more ∷ []
    → after (with_host script host) (JobLine quit work) ≡ record { stage = Body; script = record script { hosts = hosts; blocks = blocks } }
job-after script host more quit told work task blocks hosts b t q m h =
    let made : Job = record { task = task_of (length script.blocks) work; quit = quit } in
    let with_made : Task → Option ℕ → List HostJobs = λ x y. script.hosts ++ record { host = host.host; jobs = host.jobs ++ record { task = x; quit = y } ∷ [] } ∷ [] in
    let tasks : with_made task told ≡ with_made (task_of (length script.blocks) work) told = ap (λ x. with_made x told) t in
    let quits : with_made (task_of (length script.blocks) work) told ≡ with_made (task_of (length script.blocks) work) quit = ap (λ y. with_made (task_of (length script.blocks) work) y) q in
    let all : with_job made (script.hosts ++ host ∷ []) ≡ hosts = job-push made script.hosts host ∙ sym quits ∙ sym tasks ∙ ap (λ (x : HostJobs). script.hosts ++ x ∷ []) (sym m) ∙ sym h in
    let at : List HostJobs → List (List ℕ) → Said = λ hs bs. record { stage = Body; script = record script { hosts = hs; blocks = bs } } in
    ap (λ hs. at hs (script.blocks ++ blocks_in work)) all ∙ ap (λ bs. at hosts bs) (sym b)

pub host-same : (script : Script) (host view : HostJobs) (form : Form) (r : Option Kind) → r ≡ fault_of (with_host script (record { host = view.host; jobs = host.jobs })) form → view ≡ host → r ≡ fault_of (with_host script host) form
host-same script host view form r e v = e ∙ ap (λ (h : HostJobs). fault_of (with_host script (record { host = h.host; jobs = host.jobs })) form) v

-- the same, where the script's fields are known by a view of it
pub job-after-view : (script view : Script) (host more : HostJobs) (quit told : Option ℕ) (work : Work) (task : Task) (blocks : List (List ℕ)) (hosts : List HostJobs) → view ≡ script
    → blocks ≡ view.blocks ++ blocks_in work → task ≡ task_of (length script.blocks) work → told ≡ quit → more ≡ record { host = host.host; jobs = host.jobs ++ record { task = task; quit = told } ∷ [] } → hosts ≡ view.hosts ++ more ∷ []
    → after (with_host script host) (JobLine quit work) ≡ record { stage = Body; script = record view { hosts = hosts; blocks = blocks } }
job-after-view script view host more quit told work task blocks hosts v b t q m h =
    let now : Said = record { stage = Body; script = record view { hosts = hosts; blocks = blocks } } in
    subst (λ (s : Script). after (with_host s host) (JobLine quit work) ≡ now) v
    (job-after view host more quit told work task blocks hosts b (t ∙ ap (λ (s : Script). task_of (length s.blocks) work) (sym v)) q m h)
