-- Where no reply refuses an attempt no cause stands in its calls.
use Rattle.std.proofs.Common.{◌≡◌, ◌≢◌, inl, inr, refl, sym, ap, subst, ◌∙◌, ℕ, ◌≤◌, ◌==◌, ◌&&◌, ◌||◌, nat_le, Bool, true, false, if◌then◌else◌, List, [], ◌∷◌, Option, Some, None, is_some, arith}
use Rattle.std.specs.List.{AllByRecursion}
use Rattle.std.proofs.lemmas.Bool.Decides.{nat_tests}
use Rattle.raid_base.specs.declared.numbers.BayNo.{BayNo}
use Rattle.raid_base.specs.declared.numbers.HostNo.{HostNo}
use Rattle.raid_base.specs.declared.numbers.RowNo.{RowNo}
use Rattle.raid_base.specs.declared.numbers.Number.{Number}
use Rattle.raid_base.specs.declared.messages.Mode.{Mode}
use Rattle.raid_base.specs.declared.messages.Mode.TheVariants.{Order}
use Rattle.raid_base.specs.declared.messages.Request.{Request}
use Rattle.raid_base.specs.declared.messages.Request.TheVariants.{Share, Claim, Confirm, Put, Release, Lose, Fit}
use Rattle.raid_base.specs.declared.messages.Reply.{Reply}
use Rattle.raid_base.specs.declared.messages.Reply.TheVariants as replies
use Rattle.raid_base.specs.declared.messages.Grant.{Grant}
use Rattle.raid_base.specs.declared.messages.Call.{Call}
use Rattle.raid_base.specs.declared.jobs.Cause.{Cause}
use Rattle.raid_base.specs.declared.jobs.Cause.TheVariants as causes
use Rattle.raid_base.specs.declared.jobs.Task.{Task}
use Rattle.raid_base.specs.declared.jobs.Task.TheVariants as tasks
use Rattle.raid_base.specs.Fits.{fits, fits_confirm, fits_put, fits_release}
use Rattle.raid_base.specs.Replies.{grant_of, is_missing, is_fault}
use Rattle.slot_rules.specs.Laws.{is_refused}
use Rattle.attempts.specs.Taking.{behind_from, is_behind, broken, refusal}
use Rattle.script_text.specs.Script.{Script}
use Rattle.histories.specs.Calls.{Happened, HappenedAfter, id_of, IsClaim, Answers}
use Rattle.histories.specs.Progress.{is_spent}
use Rattle.histories.specs.Causes.{IsFloorFrom, IsReadOrWrite, IsMissingAt, IsLackingAt, IsGone, is_held_well, IsFound, IsGranted, IsLacking, IsReleaseIn, IsPutIn}
use Rattle.histories.specs.Completeness.{missing_in, is_unnoted, is_undue, IsDue, MeetsNone, AreUnrefused, MeetNoRefusal, PlainCallsAreUnrefused}
use Rattle.histories.proofs.causes.CauseLemmas.{IsHeldBadlyAfter, HasChanged, Stands, AnySeen}

-- each reply fits its request
abbrev pub IsFit : Call → Type 0
IsFit call = fits call.ask.what call.answer.reply ≡ true

abbrev pub AreFit : List Call → Type 0
AreFit calls = AllByRecursion IsFit calls

-- A reply that does not refuse has no cause by the rules of attempts, from its id on
put-none : (least : Option Number) (missing : Option BayNo) (bay : BayNo) (r : Reply) → fits_put r ≡ true → (is_unnoted r || is_fault r) ≡ false → refusal least missing bay r ≡ None
put-none least missing bay replies.Done fit m = refl
put-none least missing bay (replies.NoNote life) fit m = cc
put-none least missing bay replies.Fault fit m = cc
put-none least missing bay (replies.Granted cell read_no write_no last life seized) fit m = cc
put-none least missing bay (replies.Busy holder) fit m = cc
put-none least missing bay (replies.Late above) fit m = cc
put-none least missing bay (replies.Young note) fit m = cc
put-none least missing bay (replies.Missing floor) fit m = cc
put-none least missing bay (replies.Held cell) fit m = cc
put-none least missing bay replies.Emptied fit m = cc
put-none least missing bay replies.Fitted fit m = cc

release-none : (least : Option Number) (missing : Option BayNo) (bay : BayNo) (r : Reply) → fits_release r ≡ true → refusal least missing bay r ≡ None
release-none least missing bay replies.Done fit = refl
release-none least missing bay (replies.NoNote life) fit = refl
release-none least missing bay replies.Fault fit = cc
release-none least missing bay (replies.Granted cell read_no write_no last life seized) fit = cc
release-none least missing bay (replies.Busy holder) fit = cc
release-none least missing bay (replies.Late above) fit = cc
release-none least missing bay (replies.Young note) fit = cc
release-none least missing bay (replies.Missing floor) fit = cc
release-none least missing bay (replies.Held cell) fit = cc
release-none least missing bay replies.Emptied fit = cc
release-none least missing bay replies.Fitted fit = cc

operator-none : (what : Request) (least : Option Number) (missing : Option BayNo) (bay : BayNo) (r : Reply) → fits what r ≡ true → id_of what ≡ None → refusal least missing bay r ≡ None
operator-none Lose least missing bay replies.Emptied fit e = refl
operator-none Lose least missing bay replies.Done fit e = cc
operator-none Lose least missing bay (replies.NoNote life) fit e = cc
operator-none Lose least missing bay replies.Fault fit e = cc
operator-none Lose least missing bay (replies.Granted cell read_no write_no last life seized) fit e = cc
operator-none Lose least missing bay (replies.Busy holder) fit e = cc
operator-none Lose least missing bay (replies.Late above) fit e = cc
operator-none Lose least missing bay (replies.Young note) fit e = cc
operator-none Lose least missing bay (replies.Missing floor) fit e = cc
operator-none Lose least missing bay (replies.Held cell) fit e = cc
operator-none Lose least missing bay replies.Fitted fit e = cc
operator-none Fit least missing bay replies.Fitted fit e = refl
operator-none Fit least missing bay replies.Done fit e = cc
operator-none Fit least missing bay (replies.NoNote life) fit e = cc
operator-none Fit least missing bay replies.Fault fit e = cc
operator-none Fit least missing bay (replies.Granted cell read_no write_no last life seized) fit e = cc
operator-none Fit least missing bay (replies.Busy holder) fit e = cc
operator-none Fit least missing bay (replies.Late above) fit e = cc
operator-none Fit least missing bay (replies.Young note) fit e = cc
operator-none Fit least missing bay (replies.Missing floor) fit e = cc
operator-none Fit least missing bay (replies.Held cell) fit e = cc
operator-none Fit least missing bay replies.Emptied fit e = cc
operator-none (Share row id want) least missing bay r fit e = cc
operator-none (Claim row id how mask want) least missing bay r fit e = cc
operator-none (Confirm row id want) least missing bay r fit e = cc
operator-none (Put row id n cell) least missing bay r fit e = cc
operator-none (Release row id n) least missing bay r fit e = cc

record Heard (mode : Mode) (missing : Option BayNo) (bay : BayNo) (what : Request) (r : Reply) : Type 0 where
  least : Option Number
  none : refusal least missing bay r ≡ None
  of : (id : Number) → id_of what ≡ Some id → least ≡ behind_from mode id

same-least : (mode : Mode) (mine id : Number) → Some mine ≡ Some id → behind_from mode mine ≡ behind_from mode id
same-least mode mine id e = let same : mine ≡ id = cc in ap (behind_from mode) same

heard : (mode : Mode) (earlier : List Call) (bay : BayNo) (what : Request) (r : Reply) → fits what r ≡ true → MeetsNone mode earlier bay what r → Heard mode (missing_in earlier) bay what r
heard mode earlier bay (Share row id want) r fit m = record { least = behind_from mode id; none = m; of = λ other e. same-least mode id other e }
heard mode earlier bay (Claim row id how mask want) r fit m = record { least = behind_from mode id; none = m; of = λ other e. same-least mode id other e }
heard mode earlier bay (Confirm row id want) r fit m = record { least = behind_from mode id; none = m.0; of = λ other e. same-least mode id other e }
heard mode earlier bay (Put row id n cell) r fit m =
    record { least = behind_from mode id; none = put-none (behind_from mode id) (missing_in earlier) bay r fit m; of = λ other e. same-least mode id other e }
heard mode earlier bay (Release row id n) r fit m =
    record { least = behind_from mode id; none = release-none (behind_from mode id) (missing_in earlier) bay r fit; of = λ other e. same-least mode id other e }
heard mode earlier bay Lose r fit m = record { least = None; none = operator-none Lose None (missing_in earlier) bay r fit refl; of = λ other e. absurd (cc) }
heard mode earlier bay Fit r fit m = record { least = None; none = operator-none Fit None (missing_in earlier) bay r fit refl; of = λ other e. absurd (cc) }

-- another missing bay refuses, and so does a floor from the id on
one-bay : (least : Option Number) (first bay : BayNo) (floor : Number) → refusal least (Some first) bay (replies.Missing floor) ≡ None → first ≡ bay
one-bay least first bay floor e = by (is_behind least floor) (first.0 == bay.0) refl e where
  by : (b c : Bool) → (first.0 == bay.0) ≡ c → (if b then Some (causes.Behind floor) else (if c then None else Some (causes.Broken first bay))) ≡ None → first ≡ bay
  by true c same e = absurd (cc)
  by false true same e = let one : first.0 ≡ bay.0 = grind (arith, nat_tests) in ap (λ (k : ℕ). record { 0 = k }) one
  by false false same e = absurd (cc)

floor-refuses : (id floor : Number) (missing : Option BayNo) (bay : BayNo) → id.0 ≤ floor.0 → refusal (Some id) missing bay (replies.Missing floor) ≡ None → ⊥
floor-refuses id floor missing bay le e = by (nat_le id.0 floor.0) refl e where
  by : (b : Bool) → nat_le id.0 floor.0 ≡ b → (if b then Some (causes.Behind floor) else broken missing bay) ≡ None → ⊥
  by true t e = cc
  by false t e = grind (arith, nat_tests)

missing-of : (r : Reply) → is_missing r ≡ true → (floor : Number) × (r ≡ replies.Missing floor)
missing-of (replies.Missing floor) e = (floor, refl)
missing-of (replies.Granted cell read_no write_no last life seized) e = absurd (cc)
missing-of (replies.Busy holder) e = absurd (cc)
missing-of (replies.Late above) e = absurd (cc)
missing-of (replies.Young note) e = absurd (cc)
missing-of (replies.Held cell) e = absurd (cc)
missing-of (replies.NoNote life) e = absurd (cc)
missing-of replies.Done e = absurd (cc)
missing-of replies.Fault e = absurd (cc)
missing-of replies.Emptied e = absurd (cc)
missing-of replies.Fitted e = absurd (cc)

-- a grant is not missing
granted-there : (r : Reply) (grant : Grant) → grant_of r ≡ Some grant → is_missing r ≡ false
granted-there (replies.Granted cell read_no write_no last life seized) grant e = refl
granted-there (replies.Missing floor) grant e = cc
granted-there (replies.Busy holder) grant e = cc
granted-there (replies.Late above) grant e = cc
granted-there (replies.Young note) grant e = cc
granted-there (replies.Held cell) grant e = cc
granted-there (replies.NoNote life) grant e = cc
granted-there replies.Done grant e = cc
granted-there replies.Fault grant e = cc
granted-there replies.Emptied grant e = cc
granted-there replies.Fitted grant e = cc

-- what a confirm is answered that is due, where the claim was granted
held-due : (want seen : Bool) (least : Option Number) (missing : Option BayNo) (bay : BayNo) (r : Reply) → fits_confirm want r ≡ true → refusal least missing bay r ≡ None
    → (want ≡ true → seen ≡ true) → is_undue (want && seen) false r ≡ false → is_held_well want r ≡ false → ⊥
held-due true true least missing bay (replies.Held None) fit none h due bad = cc
held-due true false least missing bay (replies.Held None) fit none h due bad = let no : false ≡ true = h refl in cc
held-due true seen least missing bay (replies.Held (Some cell)) fit none h due bad = cc
held-due false seen least missing bay (replies.Held cell) fit none h due bad = cc
held-due want seen least missing bay (replies.NoNote life) fit none h due bad = cc
held-due want seen least missing bay (replies.Missing floor) fit none h due bad = cc
held-due want seen least missing bay replies.Fault fit none h due bad = cc
held-due want seen least missing bay (replies.Granted cell read_no write_no last life seized) fit none h due bad = cc
held-due want seen least missing bay (replies.Busy holder) fit none h due bad = cc
held-due want seen least missing bay (replies.Late above) fit none h due bad = cc
held-due want seen least missing bay (replies.Young note) fit none h due bad = cc
held-due want seen least missing bay replies.Done fit none h due bad = cc
held-due want seen least missing bay replies.Emptied fit none h due bad = cc
held-due want seen least missing bay replies.Fitted fit none h due bad = cc

-- and where it was missing
missing-due : (want due : Bool) (least : Option Number) (missing : Option BayNo) (bay : BayNo) (r : Reply) → fits_confirm want r ≡ true → refusal least missing bay r ≡ None
    → is_undue due true r ≡ false → ((floor : Number) → r ≡ replies.Missing floor → ⊥) → ⊥
missing-due want due least missing bay (replies.Missing floor) fit none h never = never floor refl
missing-due want due least missing bay (replies.Held cell) fit none h never = cc
missing-due want due least missing bay (replies.NoNote life) fit none h never = cc
missing-due want due least missing bay replies.Fault fit none h never = cc
missing-due want due least missing bay (replies.Granted cell read_no write_no last life seized) fit none h never = cc
missing-due want due least missing bay (replies.Busy holder) fit none h never = cc
missing-due want due least missing bay (replies.Late above) fit none h never = cc
missing-due want due least missing bay (replies.Young note) fit none h never = cc
missing-due want due least missing bay replies.Done fit none h never = cc
missing-due want due least missing bay replies.Emptied fit none h never = cc
missing-due want due least missing bay replies.Fitted fit none h never = cc

-- the claim of a slot among these calls, and whether it was missing
abbrev IsClaimed : BayNo → RowNo → Bool → Call → Type 0
IsClaimed bay row lacking call = IsClaim bay row call × (is_missing call.answer.reply ≡ lacking)

due-after : (bay : BayNo) (row : RowNo) (due lacking : Bool) (r : Reply) (calls : List Call) → AllByRecursion (IsDue bay row due r) calls → Happened (IsClaimed bay row lacking) calls
    → is_undue due lacking r ≡ false
due-after bay row due lacking r [] all h = absurd h
due-after bay row due lacking r (c ∷ cs) all (inl h) = subst (λ (b : Bool). is_undue due b r ≡ false) h.1 (all.0 h.0)
due-after bay row due lacking r (c ∷ cs) all (inr h) = due-after bay row due lacking r cs all.1 h

happened-map : (P Q : Call → Type 0) → ((call : Call) → P call → Q call) → (calls : List Call) → Happened P calls → Happened Q calls
happened-map P Q f [] h = h
happened-map P Q f (c ∷ cs) (inl h) = inl (f c h)
happened-map P Q f (c ∷ cs) (inr h) = inr (happened-map P Q f cs h)

module _ (mode : Mode) where
  abbrev Met : List Call → Call → Type 0
  Met earlier call = MeetsNone mode earlier call.bay call.ask.what call.answer.reply

  heard-by : (earlier : List Call) (call : Call) → IsFit call → Met earlier call → Heard mode (missing_in earlier) call.bay call.ask.what call.answer.reply
  heard-by earlier call fit m = heard mode earlier call.bay call.ask.what call.answer.reply fit m

  never : (P : Call → Type 0) → ((earlier : List Call) (call : Call) → IsFit call → Met earlier call → P call → ⊥) → (calls : List Call) → AreFit calls → AreUnrefused mode calls → Happened P calls → ⊥
  never P bad [] fit un h = h
  never P bad (c ∷ cs) fit un (inl p) = bad cs c fit.0 un.0 p
  never P bad (c ∷ cs) fit un (inr h) = never P bad cs fit.1 un.1 h

  never-after : (P Q : Call → Type 0)
      → ((earlier : List Call) (call : Call) → IsFit call → Met earlier call → AreFit earlier → AreUnrefused mode earlier → P call → Happened Q earlier → ⊥)
      → (calls : List Call) → AreFit calls → AreUnrefused mode calls → HappenedAfter P Q calls → ⊥
  never-after P Q bad [] fit un h = h
  never-after P Q bad (c ∷ cs) fit un (inl h) = bad cs c fit.0 un.0 fit.1 un.1 h.0 h.1
  never-after P Q bad (c ∷ cs) fit un (inr h) = never-after P Q bad cs fit.1 un.1 h

  -- a reply that refuses any share, claim or confirm
  no-reply : (bad : Reply) → ((least : Option Number) (missing : Option BayNo) (bay : BayNo) → refusal least missing bay bad ≡ None → ⊥)
      → (earlier : List Call) (call : Call) → IsFit call → Met earlier call → Answers bad call → ⊥
  no-reply bad refuses earlier call fit m same =
      let h : Heard mode (missing_in earlier) call.bay call.ask.what call.answer.reply = heard-by earlier call fit m in
      refuses h.least (missing_in earlier) call.bay (subst (λ (r : Reply). refusal h.least (missing_in earlier) call.bay r ≡ None) same h.none)

  no-floor : mode ≡ Order → (floor : Number) (earlier : List Call) (call : Call) → IsFit call → Met earlier call → IsFloorFrom floor call → ⊥
  no-floor order floor earlier call fit m f =
      let h : Heard mode (missing_in earlier) call.bay call.ask.what call.answer.reply = heard-by earlier call fit m in
      let least : h.least ≡ Some f.1 = h.of f.1 f.2 ∙ ap (λ (x : Mode). behind_from x f.1) order in
      let none : refusal h.least (missing_in earlier) call.bay (replies.Missing floor) ≡ None =
      subst (λ (r : Reply). refusal h.least (missing_in earlier) call.bay r ≡ None) f.0 h.none in
      floor-refuses f.1 floor (missing_in earlier) call.bay f.3 (subst (λ (o : Option Number). refusal o (missing_in earlier) call.bay (replies.Missing floor) ≡ None) least none)

  -- all that are missing are of one bay
  next-missing : (earlier : List Call) (call : Call) (first : BayNo) (floor : Number) → IsFit call → Met earlier call → missing_in earlier ≡ Some first → call.answer.reply ≡ replies.Missing floor → first ≡ call.bay
  next-missing earlier call first floor fit m was same =
      let h : Heard mode (missing_in earlier) call.bay call.ask.what call.answer.reply = heard-by earlier call fit m in
      let none : refusal h.least (missing_in earlier) call.bay (replies.Missing floor) ≡ None =
      subst (λ (r : Reply). refusal h.least (missing_in earlier) call.bay r ≡ None) same h.none in
      one-bay h.least first call.bay floor (subst (λ (o : Option BayNo). refusal h.least o call.bay (replies.Missing floor) ≡ None) was none)

  missing-there : (bay : BayNo) (earlier : List Call) (call : Call) → IsFit call → Met earlier call → (Happened (IsMissingAt bay) earlier → missing_in earlier ≡ Some bay)
      → (b : Bool) → is_missing call.answer.reply ≡ b → Happened (IsMissingAt bay) (call ∷ earlier) → (if b then Some call.bay else missing_in earlier) ≡ Some bay
  missing-there bay earlier call fit m rest true e (inl at) = ap (λ (x : BayNo). Some x) at.0
  missing-there bay earlier call fit m rest true e (inr before) =
      let now = missing-of call.answer.reply e in
      ap (λ (x : BayNo). Some x) (sym (next-missing earlier call bay now.0 fit m (rest before) now.1))
  missing-there bay earlier call fit m rest false e (inl at) = absurd (let t : is_missing call.answer.reply ≡ true = ap is_missing at.1.1 in cc)
  missing-there bay earlier call fit m rest false e (inr before) = rest before

  first-missing : (bay : BayNo) (calls : List Call) → AreFit calls → AreUnrefused mode calls → Happened (IsMissingAt bay) calls → missing_in calls ≡ Some bay
  first-missing bay [] fit un h = absurd h
  first-missing bay (c ∷ cs) fit un h = missing-there bay cs c fit.0 un.0 (first-missing bay cs fit.1 un.1) (is_missing c.answer.reply) refl h

  not-broken : (first second : BayNo) → first ≢ second → (earlier : List Call) (call : Call) → IsFit call → Met earlier call → AreFit earlier → AreUnrefused mode earlier
      → IsMissingAt second call → Happened (IsMissingAt first) earlier → ⊥
  not-broken first second apart earlier call fit m fits un now before =
      apart (next-missing earlier call first now.1.0 fit m (first-missing first earlier fits un before) now.1.1 ∙ now.0)

  -- a confirm is answered as is due
  confirm-due : (earlier : List Call) (call : Call) (row : RowNo) (id : Number) (want lacking : Bool) → call.ask.what ≡ Confirm row id want → Met earlier call
      → Happened (IsClaimed call.bay row lacking) earlier → is_undue (want && is_some (missing_in earlier)) lacking call.answer.reply ≡ false
  confirm-due earlier call row id want lacking asked m claimed =
      due-after call.bay row (want && is_some (missing_in earlier)) lacking call.answer.reply earlier
      (subst (λ (what : Request). MeetsNone mode earlier call.bay what call.answer.reply) asked m).1 claimed

  confirm-fits : (call : Call) (row : RowNo) (id : Number) (want : Bool) → call.ask.what ≡ Confirm row id want → IsFit call → fits_confirm want call.answer.reply ≡ true
  confirm-fits call row id want asked fit = subst (λ (what : Request). fits what call.answer.reply ≡ true) asked fit

  not-badly : (n : ℕ) (row : RowNo) (earlier : List Call) (call : Call) → IsFit call → Met earlier call → IsHeldBadlyAfter n row earlier call → Happened (IsGranted n row) earlier → ⊥
  not-badly n row earlier call fit m held granted =
      let bad = held.0 in
      let h : Heard mode (missing_in earlier) call.bay call.ask.what call.answer.reply = heard-by earlier call fit m in
      held-due bad.2 (is_some (missing_in earlier)) h.least (missing_in earlier) call.bay call.answer.reply (confirm-fits call row bad.1 bad.2 bad.3 fit) h.none held.1
      (confirm-due earlier call row bad.1 bad.2 false bad.3 m
      (happened-map (IsGranted n row) (IsClaimed call.bay row false)
      (λ claim g. ((g.0.0 ∙ sym bad.0, g.0.1, g.0.2, g.0.3, g.0.4, g.0.5), granted-there claim.answer.reply g.1 g.2)) earlier granted))
      bad.4

  not-found : (n : ℕ) (row : RowNo) (earlier : List Call) (call : Call) → IsFit call → Met earlier call → IsFound n row call → Happened (IsLacking n row) earlier → ⊥
  not-found n row earlier call fit m found lacking =
      let asked = found.0 in
      let h : Heard mode (missing_in earlier) call.bay call.ask.what call.answer.reply = heard-by earlier call fit m in
      missing-due asked.2 (asked.2 && is_some (missing_in earlier)) h.least (missing_in earlier) call.bay call.answer.reply (confirm-fits call row asked.1 asked.2 asked.3 fit) h.none
      (confirm-due earlier call row asked.1 asked.2 true asked.3 m
      (happened-map (IsLacking n row) (IsClaimed call.bay row true)
      (λ claim l. ((l.0.0 ∙ sym asked.0, l.0.1, l.0.2, l.0.3, l.0.4, l.0.5), ap is_missing l.1.1)) earlier lacking))
      (λ floor same. found.1 (floor, same))

  -- no note was gone
  not-released : (row : RowNo) (earlier : List Call) (call : Call) → IsFit call → Met earlier call → IsReleaseIn row call → ⊥
  not-released row earlier call fit m release =
      let noted : is_unnoted call.answer.reply ≡ false = subst (λ (what : Request). MeetsNone mode earlier call.bay what call.answer.reply) release.2 m in
      let gone : is_unnoted call.answer.reply ≡ true = ap is_unnoted release.3.1 in
      cc

  not-seized : (row : RowNo) (earlier : List Call) (call : Call) → IsFit call → Met earlier call → IsPutIn row call → ⊥
  not-seized row earlier call fit m p =
      let noted : (is_unnoted call.answer.reply || is_fault call.answer.reply) ≡ false = subst (λ (what : Request). MeetsNone mode earlier call.bay what call.answer.reply) p.3 m in
      let gone : (is_unnoted call.answer.reply || is_fault call.answer.reply) ≡ true = ap (λ (r : Reply). is_unnoted r || is_fault r) p.4.1 in
      cc

-- no cause stands in calls that were not refused, unless numbers are spent
not-gone : (script : Script) (host : HostNo) (bay : BayNo) (task : Task) (calls : List Call) → IsReadOrWrite task → IsGone script host bay task calls → ⊥
not-gone script host bay (tasks.Read object first count) calls plain h = h
not-gone script host bay (tasks.Write object first from count) calls plain h = h
not-gone script host bay (tasks.Recover row) calls plain h = plain
not-gone script host bay (tasks.Rebuild target) calls plain h = plain
not-gone script host bay (tasks.Lose at) calls plain h = plain
not-gone script host bay (tasks.Fit at) calls plain h = plain

not-changed : (script : Script) (task : Task) (row : RowNo) (calls : List Call) → AreFit calls → AreUnrefused script.mode calls → HasChanged script task row calls → ⊥
not-changed script task row [] fit un h = h
not-changed script task row (c ∷ cs) fit un (inl (own, inl h)) = not-badly script.mode script.n row cs c fit.0 un.0 h.0 h.1
not-changed script task row (c ∷ cs) fit un (inl (own, inr h)) = not-found script.mode script.n row cs c fit.0 un.0 h.0 h.1
not-changed script task row (c ∷ cs) fit un (inr h) = not-changed script task row cs fit.1 un.1 h

module _ (script : Script) (host : HostNo) (task : Task) (plain : IsReadOrWrite task) (calls : List Call) (fit : AreFit calls) (un : AreUnrefused script.mode calls) where
  pub none-stands : (cause : Cause) → is_spent cause ≡ false → Stands script host AnySeen task calls cause → ⊥
  none-stands (causes.Busy holder) e s = never script.mode (Answers (replies.Busy holder)) (no-reply script.mode (replies.Busy holder) (λ least missing bay none. cc)) calls fit un s
  none-stands (causes.Late above) e s = never script.mode (Answers (replies.Late above)) (no-reply script.mode (replies.Late above) (λ least missing bay none. cc)) calls fit un s
  none-stands (causes.Young note) e s = never script.mode (Answers (replies.Young note)) (no-reply script.mode (replies.Young note) (λ least missing bay none. cc)) calls fit un s
  none-stands (causes.Behind floor) e s = never script.mode (IsFloorFrom floor) (no-floor script.mode s.0 floor) calls fit un s.2
  none-stands (causes.Fault bay) e s =
      never script.mode (λ call. (call.bay ≡ bay) × Answers replies.Fault call)
      (λ earlier call f m p. no-reply script.mode replies.Fault (λ least missing at none. cc) earlier call f m p.1) calls fit un s
  none-stands (causes.Broken first second) e s =
      never-after script.mode (IsLackingAt script task second) (IsMissingAt first)
      (λ earlier call f m fits us now before. not-broken script.mode first second s.1 earlier call f m fits us now.0 before) calls fit un s.0
  none-stands (causes.Gone bay) e s = not-gone script host bay task calls plain s
  none-stands (causes.Changed row) e s = not-changed script task row calls fit un s
  none-stands (causes.Released row) e s = never script.mode (IsReleaseIn row) (not-released script.mode row) calls fit un s.2
  none-stands (causes.Seized row) e s = never script.mode (IsPutIn row) (not-seized script.mode row) calls fit un s
  none-stands (causes.Spent seen) e s = cc
  none-stands causes.Quit e s = s

-- A reply that is no refusal by the rules of slots refuses no attempt
plain-none : (least : Option Number) (missing : Option BayNo) (bay : BayNo) (r : Reply) → is_refused r ≡ false → refusal least missing bay r ≡ None
plain-none least missing bay (replies.Granted cell read_no write_no last life seized) e = refl
plain-none least missing bay (replies.Held cell) e = refl
plain-none least missing bay replies.Done e = refl
plain-none least missing bay replies.Emptied e = refl
plain-none least missing bay replies.Fitted e = refl
plain-none least missing bay (replies.Busy holder) e = cc
plain-none least missing bay (replies.Late above) e = cc
plain-none least missing bay (replies.Young note) e = cc
plain-none least missing bay (replies.Missing floor) e = cc
plain-none least missing bay (replies.NoNote life) e = cc
plain-none least missing bay replies.Fault e = cc

plain-there : (r : Reply) → is_refused r ≡ false → is_missing r ≡ false
plain-there (replies.Missing floor) e = cc
plain-there (replies.Granted cell read_no write_no last life seized) e = refl
plain-there (replies.Held cell) e = refl
plain-there replies.Done e = refl
plain-there replies.Emptied e = refl
plain-there replies.Fitted e = refl
plain-there (replies.Busy holder) e = refl
plain-there (replies.Late above) e = refl
plain-there (replies.Young note) e = refl
plain-there (replies.NoNote life) e = refl
plain-there replies.Fault e = refl

plain-noted : (r : Reply) → is_refused r ≡ false → (is_unnoted r ≡ false) × ((is_unnoted r || is_fault r) ≡ false)
plain-noted (replies.Granted cell read_no write_no last life seized) e = (refl, refl)
plain-noted (replies.Held cell) e = (refl, refl)
plain-noted replies.Done e = (refl, refl)
plain-noted replies.Emptied e = (refl, refl)
plain-noted replies.Fitted e = (refl, refl)
plain-noted (replies.Busy holder) e = absurd (cc)
plain-noted (replies.Late above) e = absurd (cc)
plain-noted (replies.Young note) e = absurd (cc)
plain-noted (replies.Missing floor) e = absurd (cc)
plain-noted (replies.NoNote life) e = absurd (cc)
plain-noted replies.Fault e = absurd (cc)

plain-due : (want : Bool) (r : Reply) → is_refused r ≡ false → is_undue (want && false) false r ≡ false
plain-due true (replies.Held cell) e = refl
plain-due false (replies.Held cell) e = refl
plain-due want (replies.Granted cell read_no write_no last life seized) e = refl
plain-due want replies.Done e = refl
plain-due want replies.Emptied e = refl
plain-due want replies.Fitted e = refl
plain-due want (replies.Busy holder) e = cc
plain-due want (replies.Late above) e = cc
plain-due want (replies.Young note) e = cc
plain-due want (replies.Missing floor) e = cc
plain-due want (replies.NoNote life) e = cc
plain-due want replies.Fault e = cc

plain-missing : (calls : List Call) → MeetNoRefusal calls → missing_in calls ≡ None
plain-missing [] plain = refl
plain-missing (c ∷ cs) plain =
    subst (λ (b : Bool). (if b then Some c.bay else missing_in cs) ≡ None) (sym (plain-there c.answer.reply plain.0)) (plain-missing cs plain.1)

all-due : (bay : BayNo) (row : RowNo) (want : Bool) (o : Option BayNo) → o ≡ None → (r : Reply) → is_refused r ≡ false → (calls : List Call) → MeetNoRefusal calls
    → AllByRecursion (IsDue bay row (want && is_some o) r) calls
all-due bay row want o none r e [] plain = tt
all-due bay row want o none r e (c ∷ cs) plain = (
  λ claims. subst (λ (b : Bool). is_undue (want && is_some o) b r ≡ false) (sym (plain-there c.answer.reply plain.0))
      (subst (λ (x : Option BayNo). is_undue (want && is_some x) false r ≡ false) (sym none) (plain-due want r e)),
  all-due bay row want o none r e cs plain.1,
)

plain-met : (mode : Mode) (earlier : List Call) (bay : BayNo) (what : Request) (r : Reply) → is_refused r ≡ false → MeetNoRefusal earlier → MeetsNone mode earlier bay what r
plain-met mode earlier bay (Share row id want) r e plain = plain-none (behind_from mode id) (missing_in earlier) bay r e
plain-met mode earlier bay (Claim row id how mask want) r e plain = plain-none (behind_from mode id) (missing_in earlier) bay r e
plain-met mode earlier bay (Confirm row id want) r e plain =
    (plain-none (behind_from mode id) (missing_in earlier) bay r e, all-due bay row want (missing_in earlier) (plain-missing earlier plain) r e earlier plain)
plain-met mode earlier bay (Put row id n cell) r e plain = (plain-noted r e).1
plain-met mode earlier bay (Release row id (Some n)) r e plain = (plain-noted r e).0
plain-met mode earlier bay (Release row id None) r e plain = tt
plain-met mode earlier bay Lose r e plain = tt
plain-met mode earlier bay Fit r e plain = tt

pub plain_calls_are_unrefused : PlainCallsAreUnrefused
plain_calls_are_unrefused mode [] plain = tt
plain_calls_are_unrefused mode (call ∷ earlier) plain =
    (plain-met mode earlier call.bay call.ask.what call.answer.reply plain.0 plain.1, plain_calls_are_unrefused mode earlier plain.1)
