-- The cause that a result gives keeps its range, since it stands in the calls of the job.
use Rattle.std.proofs.Common.{◌≡◌, inl, inr, ◌^◌, ◌<◌, ◌≤◌, false, List, [], ◌∷◌, Some, refl, sym, ap, subst, ◌∙◌, arith}
use Rattle.std.specs.List.{AllByRecursion}
use Rattle.raid_base.specs.declared.numbers.BayNo.{BayNo}
use Rattle.raid_base.specs.declared.numbers.HostNo.{HostNo}
use Rattle.raid_base.specs.declared.numbers.RowNo.{RowNo}
use Rattle.raid_base.specs.declared.numbers.Number.{Number}
use Rattle.raid_base.specs.declared.messages.Call.{Call}
use Rattle.raid_base.specs.declared.messages.Note.{Note}
use Rattle.raid_base.specs.declared.messages.Request.{Request}
use Rattle.raid_base.specs.declared.messages.Request.TheVariants as requests
use Rattle.raid_base.specs.declared.messages.Reply.{Reply}
use Rattle.raid_base.specs.declared.messages.Reply.TheVariants as replies
use Rattle.raid_base.specs.declared.jobs.Task.{Task}
use Rattle.raid_base.specs.declared.jobs.Task.TheVariants as tasks
use Rattle.raid_base.specs.declared.jobs.Cause.{Cause}
use Rattle.raid_base.specs.declared.jobs.Cause.TheVariants as causes
use Rattle.attempts.specs.Numbering.{ShowsNumber}
use Rattle.attempts.specs.Discipline.{IsAskable}
use Rattle.script_text.specs.Script.{Script}
use Rattle.script_text.specs.Ranges.{IsScript}
use Rattle.report_text.specs.Ranges.{IsFloor, IsBay, IsRow, IsHolder, IsCause}
use Rattle.report_text.specs.Told.{note_told, cause_told}
use Rattle.histories.specs.Calls.{Happened, HappenedAfter, Answers}
use Rattle.histories.specs.Causes.{IsCauseIn, IsGone, IsChanged, IsMissingAt, IsLackingAt, IsMendClaim, IsBare, IsLacking, IsFloorFrom, IsReleaseIn, IsPutIn}
use Rattle.histories.specs.Torn.{IsMissing}
use Rattle.histories.specs.Progress.{Ending, is_spent}
use Rattle.array_cli.proofs.told.HolderSlots.{NamesSo}
use Rattle.array_cli.proofs.told.CallRanges.{IsOne, CallIn}

module _ (script : Script) (is : IsScript script) where
  -- what is told by one of the calls
  told-by : (X : Type 0) (P : Call → Type 0) → ((call : Call) → CallIn script call → P call → X) → (calls : List Call) → AllByRecursion (CallIn script) calls → Happened P calls → X
  told-by X P tells [] all h = absurd h
  told-by X P tells (call ∷ calls) all (inl p) = tells call all.0 p
  told-by X P tells (call ∷ calls) all (inr h) = told-by X P tells calls all.1 h

  told-after : (X : Type 0) (P Q : Call → Type 0) → ((call : Call) (calls : List Call) → CallIn script call → AllByRecursion (CallIn script) calls → P call → Happened Q calls → X) →
      (calls : List Call) → AllByRecursion (CallIn script) calls → HappenedAfter P Q calls → X
  told-after X P Q tells [] all h = absurd h
  told-after X P Q tells (call ∷ calls) all (inl p) = tells call calls all.0 all.1 p.0 p.1
  told-after X P Q tells (call ∷ calls) all (inr h) = told-after X P Q tells calls all.1 h

  -- Parts of a call
  bay-in : (call : Call) (bay : BayNo) → CallIn script call → call.bay ≡ bay → IsBay bay
  bay-in call bay c same =
      let below : call.bay.0 < script.n = c.asked.bay in
      let at : call.bay.0 ≡ bay.0 = ap (λ (b : BayNo). b.0) same in
      let most : script.n ≤ 16 = is.devices_most in
      record { low = omega arith; high = omega (arith, below, at, most) }

  low-row : (row : RowNo) → row.0 < script.rows → IsRow row
  low-row row below = let most : script.rows ≤ 4096 = is.rows_most in record { low = omega arith; high = omega (arith, below, most) }

  askable : (call : Call) (what : Request) → CallIn script call → call.ask.what ≡ what → IsAskable script.rows what
  askable call what c same = subst (IsAskable script.rows) same c.asked.request

  floor-in : (n : Number) → n.0 < 2 ^ 26 → IsFloor n
  floor-in n less = record { low = omega arith; high = omega (arith, less) }

  shows : (call : Call) (reply : Reply) (n : Number) → CallIn script call → call.answer.reply ≡ reply → ShowsNumber reply n → IsFloor n
  shows call reply n c same shown = floor-in n (c.shown n (subst (λ (r : Reply). ShowsNumber r n) (sym same) shown))

  holder-in : (note : Note) → IsOne note.host note.id → IsHolder (note_told note)
  holder-in note one =
      let few : note.host.0 < 16 = one.0 in
      let least : 1 ≤ note.id.0 = one.1.least in
      let most : note.id.0 < 2 ^ 62 = one.1.most in
      record {
        host = record { low = omega arith; high = omega (arith, few) };
        id = record { low = least; high = omega (arith, most) };
        origin = refl;
        mask = refl;
        moment = refl;
      }

  named-in : (call : Call) (reply : Reply) → CallIn script call → call.answer.reply ≡ reply → NamesSo IsOne reply
  named-in call reply c same = subst (NamesSo IsOne) same c.names

  -- Causes
  gone-in : (host : HostNo) (bay : BayNo) (task : Task) (calls : List Call) → AllByRecursion (CallIn script) calls → IsGone script host bay task calls → IsBay bay
  gone-in host bay (tasks.Rebuild target) calls all (inl h) =
      told-by (IsBay bay) (λ call. IsMendClaim bay call × IsMissing call) (λ call c p. bay-in call bay c p.0.0) calls all h
  gone-in host bay (tasks.Rebuild target) calls all (inr (apart, h)) =
      told-by (IsBay bay) (λ call. IsMendClaim bay call × IsBare call) (λ call c p. bay-in call bay c p.0.0) calls all h
  gone-in host bay (tasks.Recover row) calls all (apart, at, h) =
      told-by (IsBay bay) (IsLacking script.n row) (λ call c p. bay-in call bay c (p.0.0 ∙ sym at)) calls all h
  gone-in host bay (tasks.Read object first count) calls all h = absurd h
  gone-in host bay (tasks.Write object first from count) calls all h = absurd h
  gone-in host bay (tasks.Lose at) calls all h = absurd h
  gone-in host bay (tasks.Fit at) calls all h = absurd h

  changed-in : (task : Task) (row : RowNo) (calls : List Call) → AllByRecursion (CallIn script) calls → IsChanged script task row calls → IsRow row
  changed-in task row [] all h = absurd h
  changed-in task row (call ∷ calls) all (inr h) = changed-in task row calls all.1 h
  changed-in task row (call ∷ calls) all (inl (own, inl ((at, id, want, what, badly), later))) =
      low-row row (askable call (requests.Confirm row id want) all.0 what).0
  changed-in task row (call ∷ calls) all (inl (own, inr (((at, id, want, what), found), later))) =
      low-row row (askable call (requests.Confirm row id want) all.0 what).0

  broken-in : (task : Task) (first second : BayNo) (calls : List Call) → AllByRecursion (CallIn script) calls → HappenedAfter (IsLackingAt script task second) (IsMissingAt first) calls →
      IsBay first × IsBay second
  broken-in task first second calls all h =
      told-after (IsBay first × IsBay second) (IsLackingAt script task second) (IsMissingAt first)
      (λ call earlier c rest p q. (told-by (IsBay first) (IsMissingAt first) (λ other d m. bay-in other first d m.0) earlier rest q, bay-in call second c p.0.0)) calls all h

  pub cause-in : (history : List Call) (host : HostNo) (e : Ending) (cause : Cause) → AllByRecursion (CallIn script) e.calls → IsCauseIn script history host e cause → is_spent cause ≡ false → IsCause (cause_told cause)
  cause-in history host e (causes.Busy holder) all h left =
      told-by (IsHolder (note_told holder)) (Answers (replies.Busy holder)) (λ call c p. holder-in holder (named-in call (replies.Busy holder) c p)) e.calls all h
  cause-in history host e (causes.Late above) all h left =
      told-by (IsFloor above) (Answers (replies.Late above)) (λ call c p. shows call (replies.Late above) above c p refl) e.calls all h
  cause-in history host e (causes.Young note) all h left =
      told-by (IsHolder (note_told note)) (Answers (replies.Young note)) (λ call c p. holder-in note (named-in call (replies.Young note) c p)) e.calls all h
  cause-in history host e (causes.Behind floor) all h left =
      told-by (IsFloor floor) (IsFloorFrom floor) (λ call c p. shows call (replies.Missing floor) floor c p.0 refl) e.calls all h.2
  cause-in history host e (causes.Fault bay) all h left =
      told-by (IsBay bay) (λ call. (call.bay ≡ bay) × Answers replies.Fault call) (λ call c p. bay-in call bay c p.0) e.calls all h
  cause-in history host e (causes.Broken first second) all h left = broken-in e.job.task first second e.calls all h.0
  cause-in history host e (causes.Gone bay) all h left = gone-in host bay e.job.task e.calls all h
  cause-in history host e (causes.Changed row) all h left = changed-in e.job.task row e.calls all h
  cause-in history host e (causes.Released row) all h left =
      told-by (IsRow row) (IsReleaseIn row) (λ call c p. low-row row (askable call (requests.Release row p.0 (Some p.1)) c p.2).0) e.calls all h.2
  cause-in history host e (causes.Seized row) all h left =
      told-by (IsRow row) (IsPutIn row) (λ call c p. low-row row (askable call (requests.Put row p.0 p.1 p.2) c p.3).0) e.calls all h
  cause-in history host e (causes.Spent seen) all h left = absurd (cc)
  cause-in history host e causes.Quit all h left = tt
