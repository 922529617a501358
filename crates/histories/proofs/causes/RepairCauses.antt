-- The causes of rebuilds and recoveries.
use Rattle.std.proofs.Common.{◌≡◌, inl, inr, refl, sym, ap, subst, ◌∙◌, ℕ, ◌==◌, Bool, true, false, if◌then◌else◌, not, ◌&&◌, List, [], ◌∷◌, ◌++◌, Option, Some, None, Result, Ok, Err, IfSome, is_none, option_map}
use Rattle.std.specs.Prelude.{is_some}
use Rattle.std.specs.List.{AllByRecursion}
use Rattle.std.proofs.lemmas.Bool.{eq-eqb}
use Rattle.raid_base.specs.declared.numbers.BayNo.{BayNo}
use Rattle.raid_base.specs.declared.numbers.HostNo.{HostNo}
use Rattle.raid_base.specs.declared.numbers.RowNo.{RowNo}
use Rattle.raid_base.specs.declared.numbers.Number.{Number}
use Rattle.raid_base.specs.declared.numbers.Spent.{Spent}
use Rattle.raid_base.specs.declared.cells.Cell.{Cell}
use Rattle.raid_base.specs.declared.messages.How.TheVariants.{Mend, Seize}
use Rattle.raid_base.specs.declared.messages.Request.{Request}
use Rattle.raid_base.specs.declared.messages.Request.TheVariants.{Claim}
use Rattle.raid_base.specs.declared.messages.Reply.{Reply}
use Rattle.raid_base.specs.declared.messages.Reply.TheVariants as replies
use Rattle.raid_base.specs.declared.messages.Errand.{Errand}
use Rattle.raid_base.specs.declared.messages.Grant.{Grant}
use Rattle.raid_base.specs.declared.messages.Call.{Call}
use Rattle.raid_base.specs.declared.jobs.Cause.{Cause}
use Rattle.raid_base.specs.declared.jobs.Cause.TheVariants as causes
use Rattle.raid_base.specs.declared.jobs.Ended.TheVariants as ends
use Rattle.raid_base.specs.declared.jobs.Task.{Task}
use Rattle.raid_base.specs.declared.jobs.Task.TheVariants as tasks
use Rattle.raid_base.specs.Fits.{fits, fits_confirm, fits_put}
use Rattle.raid_base.specs.Replies.{grant_of, is_held, is_missing}
use Rattle.raid_base.specs.Steps.{bind, Through, Stopped, run, draws}
use Rattle.stripe_layout.specs.Placement.{parity_bay, bays_of, units}
use Rattle.attempts.specs.declared.Repair.{Repair}
use Rattle.attempts.specs.declared.Rescue.{Rescue}
use Rattle.attempts.specs.declared.Hold.{Hold}
use Rattle.attempts.specs.Taking.{Finish, Row, Taken, no_rows, begun, refusal, with_grant, with_parity, with_wanted, why, claim, claims, confirm}
use Rattle.attempts.specs.Releases.{end_as, parity_granted, released_steps, refused_steps}
use Rattle.attempts.specs.Puts.{put}
use Rattle.attempts.specs.Mending.{is_at, with_hold, good_grant, hold_of, mending, mend_why, mend_releases, without_target, mended_cell, on_done, put_cause, mend_putting, mend_put, mend_numbered, is_shown, mend_drawn, mend_confirmed, mend_confirming, mend_claimed, mend_steps}
use Rattle.attempts.specs.Recovery.{whole_part, unseized_data, unseized_parity, granted_data, give_back, recover_refused, Verdict, Leaves, Sums, verdict, recovered_parity, recover_putting, closing, recover_put, recover_by, recover_drawn, recover_confirmed, is_as_before, stays_unless, stays, recover_confirming, units_seized, seize_units, parity_seized, recover_steps}
use Rattle.script_text.specs.Script.{Script}
use Rattle.histories.specs.Calls.{Happened}
use Rattle.histories.specs.Causes.{IsMendClaim, IsGranted, IsLacking, is_held_well, HasOwnCause}
use Rattle.histories.proofs.causes.CauseLemmas.{IsHeldBadlyAfter, Stands, IsReply, bay-asked, what-asked, IsTake, Caused, caused-go, caused-walk, caused-one, released-quiet, caused-draw, claim-takes, MissingTold, none-missing, missing-more, grant-there, ParityTold, parity-more, passed, any-errands, FinishStands, releases-caused, refuses, BehindRightly, never-behind, refusal-stands, unrefused-plain, else-stands, caused-takes, caused-parity, claims-take}

-- a put that was not done
module _ (script : Script) (host : HostNo) (S : List Call → Number → Type 0) (task : Task) (row : RowNo) (id n : Number) (cell : Cell) (bay : BayNo) where
  pub put-stopped : (calls : List Call) (call : Call) → IsReply (put id row n cell bay) call → on_done tt (put id row n cell bay) call.answer.reply ≡ None
      → Stands script host S task (call ∷ calls) (put_cause row (put id row n cell bay) call.answer.reply)
  put-stopped calls call is stop = by call.answer.reply refl is.fit stop where
    by : (r : Reply) → call.answer.reply ≡ r → fits_put r ≡ true → on_done tt (put id row n cell bay) r ≡ None → Stands script host S task (call ∷ calls) (put_cause row (put id row n cell bay) r)
    by (replies.NoNote life) same fit stop = inl (id, n, cell, what-asked is, (life, same))
    by replies.Fault same fit stop = inl (bay-asked is, same)
    by replies.Done same fit stop = cc
    by (replies.Granted shown read_no write_no last life seized) same fit stop = cc
    by (replies.Busy holder) same fit stop = cc
    by (replies.Late above) same fit stop = cc
    by (replies.Young note) same fit stop = cc
    by (replies.Missing floor) same fit stop = cc
    by (replies.Held shown) same fit stop = cc
    by replies.Emptied same fit stop = cc
    by replies.Fitted same fit stop = cc

-- a confirm that is not held
pub held-badly : (n : ℕ) (row : RowNo) (id : Number) (earlier : List Call) (call : Call) → IsReply (confirm id row false (parity_bay n row)) call → is_held call.answer.reply ≡ false
    → IsHeldBadlyAfter n row earlier call
held-badly n row id earlier call is no_hold =
    ((bay-asked is, id, false, what-asked is, by call.answer.reply is.fit no_hold), λ e. cc) where
      by : (r : Reply) → fits_confirm false r ≡ true → is_held r ≡ false → is_held_well false r ≡ false
      by (replies.Held cell) fit e = cc
      by (replies.NoNote life) fit e = refl
      by replies.Fault fit e = refl
      by replies.Done fit e = refl
      by (replies.Granted shown read_no write_no last life seized) fit e = refl
      by (replies.Busy holder) fit e = refl
      by (replies.Late above) fit e = refl
      by (replies.Young note) fit e = refl
      by (replies.Missing floor) fit e = refl
      by replies.Emptied fit e = refl
      by replies.Fitted fit e = refl

pub step-none : (b : Bool) (u : Unit {0}) → (if b then Some u else None) ≡ None → b ≡ false
step-none true u e = cc
step-none false u e = refl

pub step-some : (P : Unit {0} → Type 0) (b : Bool) (u : Unit {0}) → P u → IfSome (if b then Some u else None) P
step-some P true u p = p
step-some P false u p = tt

-- Rebuilds
module _ (script : Script) (host : HostNo) (S : List Call → Number → Type 0) (target : BayNo) (id : Number) (row : RowNo) where
  abbrev m : Repair
  m = record { n = script.n; id = id; row = row; target = target }

  abbrev Ending : List Call → Finish → Type 0
  Ending = FinishStands script host S (tasks.Rebuild target)

  abbrev CauseStands : List Call → Cause → Type 0
  CauseStands = Stands script host S (tasks.Rebuild target)

  mend-floor : (what : Request) → BehindRightly script host S (tasks.Rebuild target) None what
  mend-floor what = never-behind script host S (tasks.Rebuild target) (λ plain. plain) what

  mended : (es : List Errand) (calls : List Call) → Caused host S Ending calls (released_steps es ends.Mended)
  mended es calls = releases-caused script host S (tasks.Rebuild target) ends.Mended (λ calls call i. tt) es calls tt

  mend-refuses : (es : List Errand) (cause : Cause) (calls : List Call) → CauseStands calls cause → Caused host S Ending calls (refused_steps es cause)
  mend-refuses = refuses script host S (tasks.Rebuild target)

  mend-puts : (holds : List Hold) (n : Number) (shown : Bool) (calls : List Call) → Caused host S Ending calls (mend_numbered m holds n shown)
  mend-puts holds n true calls = mended (mend_releases m holds) calls
  mend-puts holds n false calls =
      caused-one host S Ending mend_putting (mend_put m holds) (put id row n (mended_cell m holds) target) calls tt tt
      (λ call is. passed (λ u. Caused host S Ending (call ∷ calls) (mend_put m holds (Through u)))
      (on_done tt (put id row n (mended_cell m holds) target) call.answer.reply) (λ u. mended (mend_releases m (without_target m holds)) (call ∷ calls)))
      (λ call is stop. mend-refuses (mend_releases m holds) (put_cause row (put id row n (mended_cell m holds) target) call.answer.reply) (call ∷ calls)
      (put-stopped script host S (tasks.Rebuild target) row id n (mended_cell m holds) target calls call is stop))

  -- no draw follows
  mend-quiet : (holds : List Hold) (n : Number) (shown : Bool) → draws (mend_numbered m holds n shown) ≡ false
  mend-quiet holds n true = released-quiet (mend_releases m holds) ends.Mended
  mend-quiet holds n false = refl

  drawn-quiet : (holds : List Hold) (d : Result Number Spent) → draws (mend_drawn m holds d) ≡ false
  drawn-quiet holds (Ok n) = mend-quiet holds n (is_shown target holds)
  drawn-quiet holds (Err spent) = released-quiet (mend_releases m holds) (ends.Refused (causes.Spent spent.seen))

  mend-draws : (holds : List Hold) (calls : List Call) → Caused host S Ending calls (mend_confirmed m holds (Through tt))
  mend-draws holds calls =
      caused-draw host S Ending calls (mend_drawn m holds) (drawn-quiet holds) (λ n. mend-puts holds n (is_shown target holds) calls)
      (λ spent none. mend-refuses (mend_releases m holds) (causes.Spent spent.seen) calls none)

  -- the confirm of the parity
  abbrev mend_confirm : Errand
  mend_confirm = confirm id row false (parity_bay script.n row)

  mend-confirms : (holds : List Hold) (calls : List Call) → MissingTold None calls → Happened (IsGranted script.n row) calls → Caused host S Ending calls (mend_claimed m (Through holds))
  mend-confirms holds calls missed granted = caused-one host S Ending mend_confirming (mend_confirmed m holds) mend_confirm calls tt tt on off where
    on : (call : Call) → IsReply mend_confirm call → IfSome (mend_confirming.step tt mend_confirm call.answer.reply) (λ u. Caused host S Ending (call ∷ calls) (mend_confirmed m holds (Through u)))
    on call is =
        step-some (λ u. Caused host S Ending (call ∷ calls) (mend_confirmed m holds (Through u))) (is_held call.answer.reply) tt
        (mend-draws holds (call ∷ calls))

    off : (call : Call) → IsReply mend_confirm call → mend_confirming.step tt mend_confirm call.answer.reply ≡ None → Caused host S Ending (call ∷ calls) (mend_confirmed m holds (Stopped tt mend_confirm call.answer.reply))
    off call is stop =
        mend-refuses (mend_releases m holds) (mend_why mend_confirm call.answer.reply (causes.Changed row)) (call ∷ calls)
        (else-stands script host S (tasks.Rebuild target) (call ∷ calls) (refusal None None (parity_bay script.n row) call.answer.reply) (causes.Changed row)
        (refusal-stands script host S (tasks.Rebuild target) calls mend_confirm call is None None (mend-floor mend_confirm.request) missed)
        (λ none. inl (unrefused-plain script host S (tasks.Rebuild target) calls mend_confirm call is None None (mend-floor mend_confirm.request) missed none, inl (held-badly script.n row id calls call is (step-none (is_held call.answer.reply) tt stop), granted))))

  -- the claims
  abbrev mend_claim : BayNo → Errand
  mend_claim bay = claim id row Mend 0 true bay

  -- so it claims
  abbrev IsMending : Errand → Type 0
  IsMending e = e.request ≡ Claim row id Mend 0 true

  mending-takes : (e : Errand) → IsMending e → IsTake e.request
  mending-takes e is = subst IsTake (sym is) (claim-takes row id Mend 0 true)

  bare-told : (bay : BayNo) (calls : List Call) (call : Call) → IsMendClaim bay call → (cell : Option Cell) (grant : Grant) → grant.cell ≡ cell → grant_of call.answer.reply ≡ Some grant
      → (b : Bool) → is_at bay target ≡ b → (if is_none cell && not b then None else Some (record { bay = bay; grant = grant })) ≡ (let o : Option Hold = None in o)
      → CauseStands (call ∷ calls) (causes.Gone bay)
  bare-told bay calls call at None grant none same true e stop = cc
  bare-told bay calls call at None grant none same false e stop = inr (differ, inl (at, (grant, same, ap is_some none))) where
    differ : target ≡ bay → ⊥
    differ eq = let t : is_at bay target ≡ true = eq-eqb bay.0 target.0 (ap (λ (b : BayNo). b.0) (sym eq)) in cc
  bare-told bay calls call at (Some cell) grant none same b e stop = cc

  gone-told : (e : Errand) (calls : List Call) (call : Call) → IsMendClaim e.bay call → (r : Reply) → call.answer.reply ≡ r → IsTake e.request → fits e.request r ≡ true
      → refusal None None e.bay r ≡ None → hold_of m e.bay r ≡ None → CauseStands (call ∷ calls) (causes.Gone e.bay)
  gone-told e calls call at (replies.Granted cell read_no write_no last life seized) same t fit none stop =
      bare-told e.bay calls call at cell (record { cell = cell; last = last; life = life; seized = seized }) refl (ap grant_of same) (is_at e.bay target) refl stop
  gone-told e calls call at (replies.Missing floor) same t fit none stop = inl (inl (at, (floor, same)))
  gone-told e calls call at (replies.Busy holder) same t fit none stop = cc
  gone-told e calls call at (replies.Late above) same t fit none stop = cc
  gone-told e calls call at (replies.Young note) same t fit none stop = cc
  gone-told e calls call at replies.Fault same t fit none stop = cc
  gone-told e calls call at (replies.Held cell) same t fit none stop = let h : fits e.request (replies.Held cell) ≡ false = t.held cell in cc
  gone-told e calls call at (replies.NoNote life) same t fit none stop = let h : fits e.request (replies.NoNote life) ≡ false = t.unnoted life in cc
  gone-told e calls call at replies.Done same t fit none stop = let h : fits e.request replies.Done ≡ false = t.done in cc
  gone-told e calls call at replies.Emptied same t fit none stop = let h : fits e.request replies.Emptied ≡ false = t.emptied in cc
  gone-told e calls call at replies.Fitted same t fit none stop = let h : fits e.request replies.Fitted ≡ false = t.fitted in cc

  hold-none : (holds : List Hold) (o : Option Hold) → option_map (λ (hold : Hold). holds ++ hold ∷ []) o ≡ None → o ≡ None
  hold-none holds None e = refl
  hold-none holds (Some hold) e = cc

  claim-stopped : (e : Errand) (calls : List Call) (holds : List Hold) (call : Call) → IsMending e → MissingTold None calls → IsReply e call
      → (mending m).step holds e call.answer.reply ≡ None → Caused host S Ending (call ∷ calls) (mend_claimed m (Stopped holds e call.answer.reply))
  claim-stopped e calls holds call mends missed is stop =
      mend-refuses (mend_releases m (with_hold holds e.bay (grant_of call.answer.reply))) (mend_why e call.answer.reply (causes.Gone e.bay)) (call ∷ calls)
      (else-stands script host S (tasks.Rebuild target) (call ∷ calls) (refusal None None e.bay call.answer.reply) (causes.Gone e.bay)
      (refusal-stands script host S (tasks.Rebuild target) calls e call is None None (mend-floor e.request) missed)
      (λ none. gone-told e calls call (bay-asked is, row, id, what-asked is ∙ mends) call.answer.reply refl (mending-takes e mends) is.fit none (hold-none holds (hold_of m e.bay call.answer.reply) stop)))

  grant-told : (bay : BayNo) (r : Reply) (hold : Hold) → hold_of m bay r ≡ Some hold → (grant : Grant) × (grant_of r ≡ Some grant)
  grant-told bay r hold e = by (grant_of r) refl e where
    by : (o : Option Grant) → grant_of r ≡ o → good_grant m bay o ≡ Some hold → (grant : Grant) × (grant_of r ≡ Some grant)
    by None same e = cc
    by (Some grant) same e = (grant, same)

  -- so far no claim found a slot missing, and the parity was granted
  abbrev Claimed : List Call → Type 0
  Claimed calls = MissingTold None calls × Happened (IsGranted script.n row) calls

  hold-kept : (e : Errand) (calls : List Call) (holds : List Hold) (call : Call) → Claimed calls → (o : Option Hold) → hold_of m e.bay call.answer.reply ≡ o
      → IfSome (option_map (λ (hold : Hold). holds ++ hold ∷ []) o) (λ hs. Claimed (call ∷ calls))
  hold-kept e calls holds call i None same = tt
  hold-kept e calls holds call i (Some hold) same =
      let g = grant-told e.bay call.answer.reply hold same in
      (missing-more None calls call (grant-there call g.0 g.1) i.0, inr i.1)

  rest-claimed : (bays : List BayNo) (calls : List Call) (holds : List Hold) → Claimed calls
      → Caused host S Ending calls (bind (run (mending m) (claims id row Mend true bays) holds) (mend_claimed m))
  rest-claimed bays calls holds claimed =
      caused-walk host S Ending IsMending (λ cs hs. Claimed cs) (mending m) (mend_claimed m) (λ hs. tt)
      (λ e cs hs call p i is. hold-kept e cs hs call i (hold_of m e.bay call.answer.reply) refl)
      (λ cs hs i. mend-confirms hs cs i.0 i.1) (λ e cs hs call p i is stop. claim-stopped e cs hs call p i.0 is stop)
      (claims id row Mend true bays) calls holds (mends bays) claimed where
        mends : (bs : List BayNo) → AllByRecursion IsMending (claims id row Mend true bs)
        mends [] = tt
        mends (b ∷ bs) = (refl, mends bs)

  pub mends_caused : Caused host S Ending [] (mend_steps m)
  mends_caused = (
    tt,
    λ call is. caused-go host S Ending (λ holds. Claimed (call ∷ [])) (call ∷ []) ((mending m).step [] (mend_claim (parity_bay script.n row)) call.answer.reply)
        (λ holds. run (mending m) (claims id row Mend true (bays_of script.n row (units script.n))) holds) _ (mend_claimed m)
        (granted call is (hold_of m (parity_bay script.n row) call.answer.reply) refl)
        (λ holds i. rest-claimed (bays_of script.n row (units script.n)) (call ∷ []) holds i)
        (claim-stopped (mend_claim (parity_bay script.n row)) [] [] call refl none-missing is),
  ) where
    granted : (call : Call) → IsReply (mend_claim (parity_bay script.n row)) call → (o : Option Hold) → hold_of m (parity_bay script.n row) call.answer.reply ≡ o
        → IfSome (option_map (λ (hold : Hold). [] ++ hold ∷ []) o) (λ holds. Claimed (call ∷ []))
    granted call is None same = tt
    granted call is (Some hold) same =
        let g = grant-told (parity_bay script.n row) call.answer.reply hold same in
        (missing-more None [] call (grant-there call g.0 g.1) none-missing, inl ((bay-asked is, id, Mend, 0, true, what-asked is), g.0, g.1))

-- Recoveries
module _ (script : Script) (host : HostNo) (S : List Call → Number → Type 0) (id : Number) (row : RowNo) where
  abbrev r : Rescue
  r = record { n = script.n; host = host; id = id; row = row }

  abbrev Recovers : List Call → Finish → Type 0
  Recovers = FinishStands script host S (tasks.Recover row)

  recover-floor : (what : Request) → BehindRightly script host S (tasks.Recover row) None what
  recover-floor what = never-behind script host S (tasks.Recover row) (λ plain. plain) what

  recovered : (line : Row) (n : Number) (lost : Option ℕ) (calls : List Call) → Caused host S Recovers calls (recover_put r line n lost (Through tt))
  recovered line n lost calls =
      caused-walk host S Recovers (λ e. Unit {0}) (λ cs u. Unit {0}) (closing n lost) (end_as (ends.Recovered n true lost)) (λ u. refl)
      (λ e cs u call p i is. tt) (λ cs u i. tt) (λ e cs u call p i is stop. tt) (give_back r (granted_data r line)) calls tt (any-errands (give_back r (granted_data r line))) tt

  recover-refuses : (line : Row) (cause : Cause) (calls : List Call) → Stands script host S (tasks.Recover row) calls cause → Caused host S Recovers calls (recover_refused r line cause)
  recover-refuses line cause calls s = refuses script host S (tasks.Recover row) (give_back r (unseized_data r line ++ unseized_parity r line.parity)) cause calls s

  recover-puts : (line : Row) (n : Number) (v : Verdict) (calls : List Call) → Caused host S Recovers calls (recover_by r line n v)
  recover-puts line n Leaves calls =
      releases-caused script host S (tasks.Recover row) (ends.Recovered n true None) (λ cs call i. tt) (give_back r (granted_data r line ++ parity_granted script.n row line.parity)) calls tt
  recover-puts line n (Sums lost) calls =
      caused-one host S Recovers (recover_putting r lost) (recover_put r line n lost) (put id row n (recovered_parity line lost) (parity_bay script.n row)) calls tt tt
      (λ call is. passed (λ u. Caused host S Recovers (call ∷ calls) (recover_put r line n lost (Through u)))
      (on_done tt (put id row n (recovered_parity line lost) (parity_bay script.n row)) call.answer.reply) (λ u. recovered line n lost (call ∷ calls)))
      (λ call is stop. refuses script host S (tasks.Recover row) (give_back r (unseized_data r line))
      (put_cause row (put id row n (recovered_parity line lost) (parity_bay script.n row)) call.answer.reply) (call ∷ calls)
      (put-stopped script host S (tasks.Recover row) row id n (recovered_parity line lost) (parity_bay script.n row) calls call is stop))

  -- no draw follows
  by-quiet : (line : Row) (n : Number) (v : Verdict) → draws (recover_by r line n v) ≡ false
  by-quiet line n Leaves = released-quiet (give_back r (granted_data r line ++ parity_granted script.n row line.parity)) (ends.Recovered n true None)
  by-quiet line n (Sums lost) = refl

  recover-quiet : (line : Row) (d : Result Number Spent) → draws (recover_drawn r line d) ≡ false
  recover-quiet line (Ok n) = by-quiet line n (verdict r line)
  recover-quiet line (Err spent) = released-quiet (give_back r (unseized_data r line ++ unseized_parity r line.parity)) (ends.Refused (causes.Spent spent.seen))

  recover-draws : (taken : Taken) (calls : List Call) → Caused host S Recovers calls (recover_confirmed r taken (Through tt))
  recover-draws taken calls =
      let line : Row = taken.row in
      caused-draw host S Recovers calls (recover_drawn r line) (recover-quiet line) (λ n. recover-puts line n (verdict r line) calls)
      (λ spent none. recover-refuses line (causes.Spent spent.seen) calls none)

  -- the confirm of the parity
  abbrev recover_confirm : Errand
  recover_confirm = confirm id row false (parity_bay script.n row)

  not-missing : (reply : Reply) (floor : Number) → reply ≡ replies.Missing floor → is_missing reply ≡ false → ⊥
  not-missing reply floor same e = let h : is_missing reply ≡ true = ap is_missing same in cc

  changed-told : (calls : List Call) (call : Call) → IsReply recover_confirm call → (HasOwnCause script (tasks.Recover row) calls call → ⊥) → (o : Option Grant) → ParityTold script.n row o calls → is_as_before o call.answer.reply ≡ false
      → Stands script host S (tasks.Recover row) (call ∷ calls) (causes.Changed row)
  changed-told calls call is own (Some grant) told e = inl (own, inl (held-badly script.n row id calls call is e, told))
  changed-told calls call is own None told e =
      inl (own, inr (((bay-asked is, id, false, what-asked is), λ miss. not-missing call.answer.reply miss.0 miss.1 e), told))

  stay-none : (o : Option Cause) (b : Bool) → stays_unless o b ≡ false → o ≡ None → b ≡ false
  stay-none None b e none = e
  stay-none (Some cause) b e none = cc

  recover-confirms : (calls : List Call) (taken : Taken) → MissingTold taken.missing calls → ParityTold script.n row taken.row.parity calls → Caused host S Recovers calls (units_seized r (Through taken))
  recover-confirms calls taken missed told =
      caused-one host S Recovers (recover_confirming taken) (recover_confirmed r taken) recover_confirm calls tt tt
      (λ call is. step-some (λ u. Caused host S Recovers (call ∷ calls) (recover_confirmed r taken (Through u))) (stays taken (parity_bay script.n row) call.answer.reply) tt
      (recover-draws taken (call ∷ calls)))
      (λ call is stop. recover-refuses taken.row _ (call ∷ calls)
      (else-stands script host S (tasks.Recover row) (call ∷ calls) (refusal None taken.missing (parity_bay script.n row) call.answer.reply) (causes.Changed row)
      (refusal-stands script host S (tasks.Recover row) calls recover_confirm call is None taken.missing (recover-floor recover_confirm.request) missed)
      (λ none. changed-told calls call is
      (unrefused-plain script host S (tasks.Recover row) calls recover_confirm call is None taken.missing (recover-floor recover_confirm.request) missed none) taken.row.parity told
      (stay-none (refusal None taken.missing (parity_bay script.n row) call.answer.reply) (is_as_before taken.row.parity call.answer.reply)
      (step-none (stays taken (parity_bay script.n row) call.answer.reply) tt stop) none))))

  seizes : (calls : List Call) (taken : Taken) → MissingTold taken.missing calls → ParityTold script.n row taken.row.parity calls → Caused host S Recovers calls (seize_units r taken)
  seizes calls taken missed told =
      caused-takes script host S (tasks.Recover row) None (units_seized r) (λ cs t e reply s. recover-refuses t.row (why None t e reply) cs s)
      with_wanted (λ cs t. ParityTold script.n row t.row.parity cs) (λ cs t call bay o g told. more cs t call bay o told) (λ cs t missed told. recover-confirms cs t missed told)
      (claims id row Seize true (bays_of script.n row (units script.n))) calls taken
      (claims-take script host S (tasks.Recover row) None id row Seize true (recover-floor (Claim row id Seize 0 true)) (bays_of script.n row (units script.n)))
      missed told where
        more : (cs : List Call) (t : Taken) (call : Call) (bay : BayNo) (o : Option Grant) → ParityTold script.n row t.row.parity cs → ParityTold script.n row (with_grant with_wanted t bay o).row.parity (call ∷ cs)
        more cs t call bay (Some grant) told = parity-more script.n row t.row.parity cs call told
        more cs t call bay None told = parity-more script.n row t.row.parity cs call told

  lacking : (calls : List Call) (taken : Taken) → Happened (IsLacking script.n row) calls → MissingTold taken.missing calls → ParityTold script.n row taken.row.parity calls → (b : Bool) → (host.0 == 0) ≡ b
      → Caused host S Recovers calls (if b then seize_units r taken else recover_refused r taken.row (causes.Gone (parity_bay script.n row)))
  lacking calls taken gone missed told true e = seizes calls taken missed told
  lacking calls taken gone missed told false e = recover-refuses taken.row (causes.Gone (parity_bay script.n row)) calls (other, refl, gone) where
    other : host.0 ≡ 0 → ⊥
    other eq = let t : (host.0 == 0) ≡ true = eq-eqb host.0 0 eq in cc

  abbrev first_taken : Taken
  first_taken = begun (whole_part r) no_rows

  parity-seized : (call : Call) (o : Option Grant) → MissingTold (with_grant with_parity first_taken (parity_bay script.n row) o).missing (call ∷ []) → ParityTold script.n row o (call ∷ [])
      → Caused host S Recovers (call ∷ []) (parity_seized r (Through (with_grant with_parity first_taken (parity_bay script.n row) o)))
  parity-seized call (Some grant) missed told = seizes (call ∷ []) (with_grant with_parity first_taken (parity_bay script.n row) (Some grant)) missed told
  parity-seized call None missed told = lacking (call ∷ []) (with_grant with_parity first_taken (parity_bay script.n row) None) told missed told (host.0 == 0) refl

  pub recoveries_caused : Caused host S Recovers [] (recover_steps r)
  recoveries_caused =
      caused-parity script host S (tasks.Recover row) None (parity_seized r) (λ cs t e reply s. recover-refuses t.row (why None t e reply) cs s)
      row id Seize 0 true [] first_taken (recover-floor (Claim row id Seize 0 true)) none-missing parity-seized
