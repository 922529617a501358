-- What a report tells of each result keeps its range.
use Rattle.std.proofs.Common.{◌≡◌, refl, sym, ap, subst, ◌∙◌, ℕ, ◌+◌, ◌^◌, ◌<◌, ◌≤◌, Bool, false, IsSome, List, [], ◌∷◌, length, Option, Some, None, arith}
use Rattle.std.specs.List.{AllByRecursion}
use Rattle.std.proofs.lemmas.List.Elements.{All-from_recursion}
use Rattle.raid_base.specs.declared.numbers.HostNo.{HostNo}
use Rattle.raid_base.specs.declared.numbers.BayNo.{BayNo}
use Rattle.raid_base.specs.declared.numbers.Number.{Number}
use Rattle.raid_base.specs.declared.cells.Content.{Content}
use Rattle.raid_base.specs.declared.messages.Call.{Call}
use Rattle.raid_base.specs.declared.jobs.Task.{Task}
use Rattle.raid_base.specs.declared.jobs.Task.TheVariants as tasks
use Rattle.raid_base.specs.declared.jobs.Cause.{Cause}
use Rattle.raid_base.specs.declared.jobs.Cause.TheVariants as causes
use Rattle.raid_base.specs.declared.jobs.Ended.{Ended}
use Rattle.raid_base.specs.declared.jobs.Ended.TheVariants as closes
use Rattle.raid_base.specs.declared.jobs.JobEnd.{JobEnd}
use Rattle.raid_base.specs.declared.jobs.JobEnd.TheVariants as ends
use Rattle.attempts.specs.Discipline.{IsNumber}
use Rattle.script_text.specs.Script.{Script}
use Rattle.script_text.specs.Ranges.{IsScript, IsTask}
use Rattle.report_text.specs.Ranges.{IsNo, IsBay, IsUnit, IsCause, IsContent, IsEnd}
use Rattle.report_text.specs.Views.{task_blocks, flag_count}
use Rattle.report_text.specs.Told.{cause_told, end_told}
use Rattle.histories.specs.Causes.{AreTries, MeetsCause}
use Rattle.histories.specs.Endings.{contents_due, IsFilled}
use Rattle.histories.specs.Plain.{task_count}
use Rattle.histories.specs.Progress.{Ending, quit_end, is_spent}
use Rattle.histories.specs.Smallness.{wants_numbers, HasNumbers}
use Rattle.histories.specs.Torn.{IsLostRightly}
use Rattle.serial_array.specs.Serial as serial
use Rattle.array_cli.proofs.told.CallRanges.{CallIn}
use Rattle.array_cli.proofs.told.CauseRanges.{cause-in}
use Rattle.array_cli.proofs.told.ContentRanges.{EndingIn}
use Rattle.array_cli.proofs.told.HostEnds.{PlainIn, EndsIn}
use Rattle.array_cli.proofs.told.JobRanges.{EndTold}
use Rattle.array_cli.proofs.told.NumberEnds.{EndsSo, HasClosed}

no-contents : (all : List Content) → length all ≡ 0 → all ≡ []
no-contents [] e = refl
no-contents (c ∷ all) e = absurd (omega (arith, e))

no-number : (n : Number) → IsNumber n → IsNo n
no-number n is = let least : 1 ≤ n.0 = is.least in let most : n.0 < 2 ^ 62 = is.most in record { low = least; high = omega (arith, most) }

module _ (script : Script) (is : IsScript script) (history : List Call) (host : HostNo) where
  -- what is known of an ending
  pub record Known (e : Ending) : Type 0 where
    pub ends : EndsIn script host e
    pub filled : IsFilled e
    pub met : MeetsCause script history host e e.ended
    pub numbers : HasNumbers e
    pub calls : AllByRecursion (CallIn script) e.calls
    pub reads : EndingIn script is e
    pub closed : IsSome (serial.number_of e.ended) → HasClosed script is host e
    pub lost : IsLostRightly script history e e.job.task e.ended

  module _ (e : Ending) (k : Known e) where
    bay-in : (bay : BayNo) → bay.0 < script.n → IsBay bay
    bay-in bay below = let most : script.n ≤ 16 = is.devices_most in record { low = omega arith; high = omega (arith, below, most) }

    abbrev Told : JobEnd → Type 0
    Told ended = IsEnd (end_told ended) e.contents (flag_count ended (task_blocks e.job.task))

    -- how its last attempt closed
    closed-read : (n : Number) → (x : Ended) → ends.Read n ≡ quit_end e.tries x → EndsSo e.job.task x → EndsSo e.job.task (closes.Read n)
    closed-read n (closes.Read m) same so = let own : m ≡ n = cc in subst (λ (y : Number). EndsSo e.job.task (closes.Read y)) own so
    closed-read n (closes.Wrote m) same so = absurd (cc)
    closed-read n (closes.Part m made cause) same so = absurd (cc)
    closed-read n (closes.Recovered m closed lost) same so = absurd (cc)
    closed-read n (closes.Refused cause) same so = absurd (cc)
    closed-read n closes.Mended same so = absurd (cc)

    closed-wrote : (n : Number) → (x : Ended) → ends.Wrote n ≡ quit_end e.tries x → EndsSo e.job.task x → EndsSo e.job.task (closes.Wrote n)
    closed-wrote n (closes.Wrote m) same so = let own : m ≡ n = cc in subst (λ (y : Number). EndsSo e.job.task (closes.Wrote y)) own so
    closed-wrote n (closes.Read m) same so = absurd (cc)
    closed-wrote n (closes.Part m made cause) same so = absurd (cc)
    closed-wrote n (closes.Recovered m closed lost) same so = absurd (cc)
    closed-wrote n (closes.Refused cause) same so = absurd (cc)
    closed-wrote n closes.Mended same so = absurd (cc)

    closed-part : (n : Number) (made : ℕ) (cause : Cause) → (x : Ended) → ends.Part n made cause ≡ quit_end e.tries x → EndsSo e.job.task x → EndsSo e.job.task (closes.Part n made cause)
    closed-part n made cause (closes.Part m flags why) same so =
        let own : m ≡ n = cc in
        let its : flags ≡ made = cc in
        let reason : why ≡ cause = cc in
        subst (λ (y : Number). EndsSo e.job.task (closes.Part y made cause)) own
        (subst (λ (y : ℕ). EndsSo e.job.task (closes.Part m y cause)) its (subst (λ (y : Cause). EndsSo e.job.task (closes.Part m flags y)) reason so))
    closed-part n made cause (closes.Read m) same so = absurd (cc)
    closed-part n made cause (closes.Wrote m) same so = absurd (cc)
    closed-part n made cause (closes.Recovered m closed lost) same so = absurd (cc)
    closed-part n made cause (closes.Refused why) same so = absurd (cc)
    closed-part n made cause closes.Mended same so = absurd (cc)

    closed-recovered : (n : Number) (closed : Bool) (lost : Option ℕ) → (x : Ended) → ends.Recovered n closed lost ≡ quit_end e.tries x → EndsSo e.job.task x →
        EndsSo e.job.task (closes.Recovered n closed lost)
    closed-recovered n closed lost (closes.Recovered m shut unit) same so =
        let own : m ≡ n = cc in
        let its : shut ≡ closed = cc in
        let which : unit ≡ lost = cc in
        subst (λ (y : Number). EndsSo e.job.task (closes.Recovered y closed lost)) own
        (subst (λ (y : Bool). EndsSo e.job.task (closes.Recovered m y lost)) its (subst (λ (y : Option ℕ). EndsSo e.job.task (closes.Recovered m shut y)) which so))
    closed-recovered n closed lost (closes.Read m) same so = absurd (cc)
    closed-recovered n closed lost (closes.Wrote m) same so = absurd (cc)
    closed-recovered n closed lost (closes.Part m made cause) same so = absurd (cc)
    closed-recovered n closed lost (closes.Refused why) same so = absurd (cc)
    closed-recovered n closed lost closes.Mended same so = absurd (cc)

    some-number : (n : Number) (ended : JobEnd) → e.ended ≡ ended → serial.number_of ended ≡ Some n → IsSome (serial.number_of e.ended)
    some-number n ended at some = subst (λ (o : Option Number). IsSome o) (sym (ap serial.number_of at ∙ some)) refl

    -- a read
    read-told : (n : Number) → e.ended ≡ ends.Read n → (task : Task) → e.job.task ≡ task → IsTask script host task → EndsSo task (closes.Read n) → Told (ends.Read n)
    read-told n at (tasks.Read object first count) same own so =
        let full : length e.contents ≡ count = k.filled ∙ ap (λ (x : JobEnd). contents_due x (task_count e.job.task)) at ∙ ap task_count same in
        let some : 1 ≤ count = own.some in
        let few : count ≤ 120 = own.few in
        (no-number n so.1, record { each = All-from_recursion IsContent e.contents (k.reads n at); some = omega (arith, full, some); few = omega (arith, full, few) }, refl)
    read-told n at (tasks.Write object first from count) same own so = absurd so.0
    read-told n at (tasks.Recover row) same own so = absurd so.0
    read-told n at (tasks.Lose bay) same own so = absurd so.0
    read-told n at (tasks.Fit bay) same own so = absurd so.0
    read-told n at (tasks.Rebuild bay) same own so = absurd so.0

    -- any other gives no contents
    none-read : (ended : JobEnd) → e.ended ≡ ended → contents_due ended (task_count e.job.task) ≡ 0 → e.contents ≡ []
    none-read ended at none = no-contents e.contents (k.filled ∙ ap (λ (x : JobEnd). contents_due x (task_count e.job.task)) at ∙ none)

    unspent : (b : Bool) → (x : JobEnd) → e.ended ≡ x → wants_numbers x ≡ b → b ≡ false
    unspent b x at is_b = sym is_b ∙ ap wants_numbers (sym at) ∙ k.numbers

    met-by : (ended : JobEnd) → e.ended ≡ ended → MeetsCause script history host e ended
    met-by ended at = subst (λ (x : JobEnd). MeetsCause script history host e x) at k.met

    -- a part
    part-told : (n : Number) (made : ℕ) (cause : Cause) → e.ended ≡ ends.Part n made cause → (task : Task) → e.job.task ≡ task → IsTask script host task →
        EndsSo task (closes.Part n made cause) → Told (ends.Part n made cause)
    part-told n made cause at (tasks.Write object first from count) same own so =
        let why : IsCause (cause_told cause) =
        cause-in script is history host e cause k.calls (met-by (ends.Part n made cause) at) (unspent (is_spent cause) (ends.Part n made cause) at refl) in
        subst (λ (t : Task). IsEnd (end_told (ends.Part n made cause)) e.contents (flag_count (ends.Part n made cause) (task_blocks t))) (sym same)
        (no-number n so.1, record { some = own.some; few = own.few; within = so.0 }, why, none-read (ends.Part n made cause) at refl)
    part-told n made cause at (tasks.Read object first count) same own so = absurd so.0
    part-told n made cause at (tasks.Recover row) same own so = absurd so.0
    part-told n made cause at (tasks.Lose bay) same own so = absurd so.0
    part-told n made cause at (tasks.Fit bay) same own so = absurd so.0
    part-told n made cause at (tasks.Rebuild bay) same own so = absurd so.0

    -- a recovery
    unit-in : (lost : Option ℕ) → ((unit : ℕ) → lost ≡ Some unit → unit + 1 < script.n) → IsUnit lost
    unit-in None named = tt
    unit-in (Some unit) named =
        let below = named unit refl in let most : script.n ≤ 16 = is.devices_most in record { low = omega arith; high = omega (arith, below, most) }

    recovered-told : (n : Number) (closed : Bool) (lost : Option ℕ) → e.ended ≡ ends.Recovered n closed lost → (task : Task) → e.job.task ≡ task →
        EndsSo task (closes.Recovered n closed lost) → IsLostRightly script history e task (ends.Recovered n closed lost) → Told (ends.Recovered n closed lost)
    recovered-told n closed lost at (tasks.Recover row) same so rightly =
        ((no-number n so.1, unit-in lost rightly.named), none-read (ends.Recovered n closed lost) at refl, refl)
    recovered-told n closed lost at (tasks.Read object first count) same so rightly = absurd so.0
    recovered-told n closed lost at (tasks.Write object first from count) same so rightly = absurd so.0
    recovered-told n closed lost at (tasks.Lose bay) same so rightly = absurd so.0
    recovered-told n closed lost at (tasks.Fit bay) same so rightly = absurd so.0
    recovered-told n closed lost at (tasks.Rebuild bay) same so rightly = absurd so.0

    -- a job that was given up
    few-tries : (tries : ℕ) (cause : Cause) → AreTries script.tries tries cause → tries ≤ 64
    few-tries tries (causes.Busy holder) are = let most : script.tries ≤ 64 = is.tries_most in omega (arith, are, most)
    few-tries tries (causes.Late above) are = let most : script.tries ≤ 64 = is.tries_most in omega (arith, are, most)
    few-tries tries (causes.Young note) are = let most : script.tries ≤ 64 = is.tries_most in omega (arith, are, most)
    few-tries tries (causes.Behind floor) are = let most : script.tries ≤ 64 = is.tries_most in omega (arith, are, most)
    few-tries tries (causes.Fault bay) are = let most : script.tries ≤ 64 = is.tries_most in omega (arith, are, most)
    few-tries tries (causes.Broken first second) are = let most : script.tries ≤ 64 = is.tries_most in omega (arith, are, most)
    few-tries tries (causes.Gone bay) are = let most : script.tries ≤ 64 = is.tries_most in omega (arith, are, most)
    few-tries tries (causes.Changed row) are = let most : script.tries ≤ 64 = is.tries_most in omega (arith, are, most)
    few-tries tries (causes.Released row) are = let most : script.tries ≤ 64 = is.tries_most in omega (arith, are, most)
    few-tries tries (causes.Seized row) are = let most : script.tries ≤ 64 = is.tries_most in omega (arith, are, most)
    few-tries tries (causes.Spent seen) are = let most : script.tries ≤ 64 = is.tries_most in omega (arith, are, most)
    few-tries tries causes.Quit are = let most : script.tries ≤ 64 = is.tries_most in omega (arith, are, most)

    plain-by : (ended : JobEnd) → e.ended ≡ ended → PlainIn script ended
    plain-by ended at = subst (PlainIn script) at k.ends.plain

    gave-told : (tries : ℕ) (cause : Cause) → e.ended ≡ ends.Gave tries cause → Told (ends.Gave tries cause)
    gave-told tries cause at =
        let met = met-by (ends.Gave tries cause) at in (
          (
            record { low = plain-by (ends.Gave tries cause) at; high = few-tries tries cause met.2 },
            cause-in script is history host e cause k.calls met.0 (unspent (is_spent cause) (ends.Gave tries cause) at refl),
          ),
          none-read (ends.Gave tries cause) at refl,
          refl,
        )

    by : (ended : JobEnd) → e.ended ≡ ended → Told ended
    by (ends.Read n) at =
        let c = k.closed (some-number n (ends.Read n) at refl) in read-told n at e.job.task refl k.ends.task (closed-read n c.closed (sym at ∙ c.ended) c.so)
    by (ends.Wrote n) at =
        let c = k.closed (some-number n (ends.Wrote n) at refl) in
        (no-number n (closed-wrote n c.closed (sym at ∙ c.ended) c.so).1, none-read (ends.Wrote n) at refl, refl)
    by (ends.Part n made cause) at =
        let c = k.closed (some-number n (ends.Part n made cause) at refl) in
        part-told n made cause at e.job.task refl k.ends.task (closed-part n made cause c.closed (sym at ∙ c.ended) c.so)
    by (ends.Recovered n closed lost) at =
        let c = k.closed (some-number n (ends.Recovered n closed lost) at refl) in
        recovered-told n closed lost at e.job.task refl (closed-recovered n closed lost c.closed (sym at ∙ c.ended) c.so)
        (subst (λ (x : JobEnd). IsLostRightly script history e e.job.task x) at k.lost)
    by ends.Lost at = (tt, none-read ends.Lost at refl, refl)
    by ends.Fitted at = (tt, none-read ends.Fitted at refl, refl)
    by ends.Rebuilt at = (tt, none-read ends.Rebuilt at refl, refl)
    by (ends.Gave tries cause) at = gave-told tries cause at
    by (ends.StillMissing bay) at = (bay-in bay (plain-by (ends.StillMissing bay) at), none-read (ends.StillMissing bay) at refl, refl)
    by (ends.NotLost bay) at = (bay-in bay (plain-by (ends.NotLost bay) at), none-read (ends.NotLost bay) at refl, refl)
    by (ends.NotFitted bay) at = (bay-in bay (plain-by (ends.NotFitted bay) at), none-read (ends.NotFitted bay) at refl, refl)
    by ends.NoObject at = (tt, none-read ends.NoObject at refl, refl)
    by (ends.PastEnd blocks) at =
        let most = plain-by (ends.PastEnd blocks) at in (record { low = omega arith; high = most }, none-read (ends.PastEnd blocks) at refl, refl)
    by (ends.TooManyRows rows) at =
        let most = plain-by (ends.TooManyRows rows) at in (record { low = omega arith; high = most }, none-read (ends.TooManyRows rows) at refl, refl)

    pub end-told : EndTold e
    end-told = by e.ended refl
