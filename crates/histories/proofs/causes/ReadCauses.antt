-- The causes of reads.
use Rattle.std.proofs.Common.{◌≡◌, inl, inr, refl, sym, subst, ℕ, Bool, true, false, if◌then◌else◌, List, [], ◌∷◌, ◌++◌, Option, Some, None, Result, Ok, Err}
use Rattle.std.specs.List.{AllByRecursion}
use Rattle.raid_base.specs.declared.numbers.BayNo.{BayNo}
use Rattle.raid_base.specs.declared.numbers.HostNo.{HostNo}
use Rattle.raid_base.specs.declared.numbers.RowNo.{RowNo}
use Rattle.raid_base.specs.declared.numbers.Number.{Number}
use Rattle.raid_base.specs.declared.numbers.Spent.{Spent}
use Rattle.raid_base.specs.declared.messages.Mode.{Mode}
use Rattle.raid_base.specs.declared.messages.Mode.TheVariants.{Lock, Order}
use Rattle.raid_base.specs.declared.messages.Request.{Request}
use Rattle.raid_base.specs.declared.messages.Request.TheVariants.{Share, Release}
use Rattle.raid_base.specs.declared.messages.Reply.{Reply}
use Rattle.raid_base.specs.declared.messages.Reply.TheVariants as replies
use Rattle.raid_base.specs.declared.messages.Errand.{Errand}
use Rattle.raid_base.specs.declared.messages.Grant.{Grant}
use Rattle.raid_base.specs.declared.messages.Call.{Call}
use Rattle.raid_base.specs.declared.jobs.Cause.TheVariants as causes
use Rattle.raid_base.specs.declared.jobs.Ended.TheVariants as ends
use Rattle.raid_base.specs.declared.jobs.RowPart.{RowPart}
use Rattle.raid_base.specs.declared.jobs.Task.{Task}
use Rattle.raid_base.specs.declared.jobs.Task.TheVariants as tasks
use Rattle.raid_base.specs.Fits.{fits, fits_release}
use Rattle.raid_base.specs.Replies.{is_done}
use Rattle.raid_base.specs.Steps.{Steps, bind, run, draws, Walk, Through, Stopped}
use Rattle.stripe_layout.specs.Placement.{parity_bay, bays_of, units_in, units_out}
use Rattle.attempts.specs.Taking.{Access, Finish, Row, Rows, no_rows, Taken, begun, row_ended, with_parity, with_wanted, with_other, lacks, behind_from, why, shares}
use Rattle.attempts.specs.Releases.{releases, read_releases}
use Rattle.attempts.specs.Reading.{sharing, read_refused, row_readers, numbered_releases, first_row, freeing, read_freed, read_drawn, read_numbered, row_shared, parity_shared, share_rest, wanted_shared, read_rows, read_steps}
use Rattle.attempts.proofs.RoomLemmas.{all-append}
use Rattle.script_text.specs.Script.{Script}
use Rattle.histories.specs.Progress.{access}
use Rattle.histories.specs.Calls.{Happened}
use Rattle.histories.specs.Causes.{IsReadOrWrite, IsRead, IsReleaseIn}
use Rattle.histories.proofs.causes.CauseLemmas.{Stands, IsReply, what-asked, Caused, caused-walk, run-quiet, released-quiet, caused-draw, some-none, MissingTold, none-missing, FinishStands, refuses, BehindRightly, behind-rightly, caused-takes, shares-take}

-- a read is a read or a write
read-plain : (task : Task) → IsRead task → IsReadOrWrite task
read-plain (tasks.Read object first count) reads = tt
read-plain (tasks.Write object first from count) reads = absurd reads
read-plain (tasks.Recover row) reads = absurd reads
read-plain (tasks.Rebuild bay) reads = absurd reads
read-plain (tasks.Lose bay) reads = absurd reads
read-plain (tasks.Fit bay) reads = absurd reads

-- a release with a number
abbrev IsNumbered : Errand → Type 0
IsNumbered e = (row : RowNo) × (id : Number) × (n : Number) × (e.request ≡ Release row id (Some n))

-- the first row of which a reader was gone, if any, was so in these calls
abbrev ReaderGone : List Call → Option RowNo → Type 0
ReaderGone calls None = Unit {0}
ReaderGone calls (Some row) = Happened (IsReleaseIn row) calls

gone-more : (calls : List Call) (call : Call) (o : Option RowNo) → ReaderGone calls o → ReaderGone (call ∷ calls) o
gone-more calls call None g = tt
gone-more calls call (Some row) g = inr g

freed-first : (calls : List Call) (call : Call) (o : Option RowNo) (row : RowNo) (id n : Number) → call.ask.what ≡ Release row id (Some n) → (life : ℕ) → call.answer.reply ≡ replies.NoNote life
    → ReaderGone calls o → ReaderGone (call ∷ calls) (first_row o (Release row id (Some n)))
freed-first calls call None row id n asked life same g = inl (id, n, asked, (life, same))
freed-first calls call (Some first) row id n asked life same g = inr g

freed-by : (calls : List Call) (call : Call) (o : Option RowNo) (row : RowNo) (id n : Number) → call.ask.what ≡ Release row id (Some n) → (r : Reply) → call.answer.reply ≡ r → fits_release r ≡ true
    → ReaderGone calls o → ReaderGone (call ∷ calls) (if is_done r then o else first_row o (Release row id (Some n)))
freed-by calls call o row id n asked replies.Done same fit g = gone-more calls call o g
freed-by calls call o row id n asked (replies.NoNote life) same fit g = freed-first calls call o row id n asked life same g
freed-by calls call o row id n asked (replies.Granted cell read_no write_no last life seized) same fit g = cc
freed-by calls call o row id n asked (replies.Busy holder) same fit g = cc
freed-by calls call o row id n asked (replies.Late above) same fit g = cc
freed-by calls call o row id n asked (replies.Young note) same fit g = cc
freed-by calls call o row id n asked (replies.Missing floor) same fit g = cc
freed-by calls call o row id n asked (replies.Held cell) same fit g = cc
freed-by calls call o row id n asked replies.Fault same fit g = cc
freed-by calls call o row id n asked replies.Emptied same fit g = cc
freed-by calls call o row id n asked replies.Fitted same fit g = cc

freed : (calls : List Call) (call : Call) (o : Option RowNo) (e : Errand) → IsNumbered e → IsReply e call → ReaderGone calls o
    → ReaderGone (call ∷ calls) (if is_done call.answer.reply then o else first_row o e.request)
freed calls call o e num is g =
    let at : e.request ≡ Release num.0 num.1 (Some num.2) = num.3 in
    let asked : call.ask.what ≡ e.request = what-asked is in
    subst (λ (what : Request). call.ask.what ≡ what → fits what call.answer.reply ≡ true → ReaderGone (call ∷ calls) (if is_done call.answer.reply then o else first_row o what)) (sym at)
    (λ told fit. freed-by calls call o num.0 num.1 num.2 told call.answer.reply refl fit g) asked is.fit

are-numbered : (row : RowNo) (id n : Number) (bays : List BayNo) → AllByRecursion IsNumbered (releases id row (Some n) bays)
are-numbered row id n [] = tt
are-numbered row id n (bay ∷ bays) = ((row, id, n, refl), are-numbered row id n bays)

module _ (script : Script) (host : HostNo) (S : List Call → Number → Type 0) (task : Task) (reads : IsRead task) (id : Number) (parts : List RowPart) (blocks : List (List ℕ)) where
  abbrev a : Access
  a = access script id parts blocks

  plain : IsReadOrWrite task
  plain = read-plain task reads

  abbrev Ending : List Call → Finish → Type 0
  Ending = FinishStands script host S task

  -- the end
  all-numbered : (n : Number) (rows : List Row) → AllByRecursion IsNumbered (numbered_releases a n rows)
  all-numbered n [] = tt
  all-numbered n (row ∷ rows) =
      all-append IsNumbered (releases id row.part.row (Some n) (row_readers script.n row)) (numbered_releases a n rows)
      (are-numbered row.part.row id n (row_readers script.n row)) (all-numbered n rows)

  frees : script.mode ≡ Lock → (n : Number) (rows : List Row) (calls : List Call) → Caused host S Ending calls (read_drawn a rows (Ok n))
  frees lock n rows calls =
      caused-walk host S Ending IsNumbered ReaderGone freeing (read_freed a n rows) (λ o. tt)
      (λ e cs o call p g is. freed cs call o e p is g) ended (λ e cs o call p g is stop. absurd (some-none stop))
      (numbered_releases a n rows) calls None (all-numbered n rows) tt where
        ended : (cs : List Call) (o : Option RowNo) → ReaderGone cs o → Caused host S Ending cs (read_freed a n rows (Through o))
        ended cs None g = tt
        ended cs (Some row) g = (lock, reads, g)

  quiet : (rows : List Row) (d : Result Number Spent) → draws (read_drawn a rows d) ≡ false
  quiet rows (Ok n) = run-quiet freeing (numbered_releases a n rows) None (read_freed a n rows) ended where
    ended : (o : Option RowNo) → draws (read_freed a n rows (Through o)) ≡ false
    ended None = refl
    ended (Some row) = refl
  quiet rows (Err spent) = released-quiet (read_releases a rows) (ends.Refused (causes.Spent spent.seen))

  draw-caused : script.mode ≡ Lock → (rows : List Row) (calls : List Call) → Caused host S Ending calls (read_numbered Lock a rows)
  draw-caused lock rows calls =
      caused-draw host S Ending calls (read_drawn a rows) (quiet rows) (λ n. frees lock n rows calls)
      (λ spent none. refuses script host S task (read_releases a rows) (causes.Spent spent.seen) calls none)

  numbered : (mode : Mode) → script.mode ≡ mode → (rows : List Row) (calls : List Call) → Caused host S Ending calls (read_numbered mode a rows)
  numbered Order same rows calls = tt
  numbered Lock same rows calls = draw-caused same rows calls

  -- shares
  stops : (calls : List Call) (taken : Taken) (e : Errand) (r : Reply) → Stands script host S task calls (why (behind_from script.mode id) taken e r) → Caused host S Ending calls (read_refused a taken e r)
  stops calls taken e r s = refuses script host S task (read_releases a (taken.before ++ taken.row ∷ [])) (why (behind_from script.mode id) taken e r) calls s

  rightly : (row : RowNo) → BehindRightly script host S task (behind_from script.mode id) (Share row id true)
  rightly row = behind-rightly script host S task script.mode refl plain id (Share row id true) refl

  shares-caused : (keep : Option Grant → Row → Row) (f : Walk Taken → Steps Finish)
      → ((calls : List Call) (taken : Taken) → MissingTold taken.missing calls → Caused host S Ending calls (f (Through taken)))
      → ((calls : List Call) (taken : Taken) (e : Errand) (r : Reply) → Stands script host S task calls (why (behind_from script.mode id) taken e r) → Caused host S Ending calls (f (Stopped taken e r)))
      → (row : RowNo) (bays : List BayNo) (calls : List Call) (taken : Taken) → MissingTold taken.missing calls
      → Caused host S Ending calls (bind (run (sharing a keep) (shares id row bays) taken) f)
  shares-caused keep f on off row bays calls taken missed =
      caused-takes script host S task (behind_from script.mode id) f off keep (λ cs t. Unit {0}) (λ cs t call bay o g k. tt) (λ cs t m k. on cs t m)
      (shares id row bays) calls taken (shares-take script host S task (behind_from script.mode id) id row (rightly row) bays) missed tt

  module _ (rest : Rows → Steps Finish) (rest_caused : (calls : List Call) (done : Rows) → MissingTold done.missing calls → Caused host S Ending calls (rest done)) where
    others : (calls : List Call) (taken : Taken) → MissingTold taken.missing calls → Caused host S Ending calls (parity_shared a rest (Through taken))
    others calls taken missed =
        shares-caused with_other (row_shared a rest) (λ cs t m. rest_caused cs (row_ended t) m) stops
        taken.row.part.row (bays_of script.n taken.row.part.row (units_out script.n taken.row.part.mask)) calls taken missed

    shares-rest : (b : Bool) (calls : List Call) (taken : Taken) → MissingTold taken.missing calls → Caused host S Ending calls (share_rest a rest taken b)
    shares-rest false calls taken missed = rest_caused calls (row_ended taken) missed
    shares-rest true calls taken missed =
        shares-caused with_parity (parity_shared a rest) others stops taken.row.part.row (parity_bay script.n taken.row.part.row ∷ []) calls taken missed

  rows-caused : (left : List RowPart) (calls : List Call) (done : Rows) → MissingTold done.missing calls → Caused host S Ending calls (read_rows a left done)
  rows-caused [] calls done missed = numbered script.mode refl done.rows calls
  rows-caused (part ∷ left) calls done missed =
      shares-caused with_wanted (wanted_shared a (read_rows a left))
      (λ cs t m. shares-rest (read_rows a left) (rows-caused left) (lacks t.row.wanted) cs t m) stops
      part.row (bays_of script.n part.row (units_in script.n part.mask)) calls (begun part done) missed

  pub reads_caused : Caused host S Ending [] (read_steps a)
  reads_caused = rows-caused parts [] no_rows none-missing
