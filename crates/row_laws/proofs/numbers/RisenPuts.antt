-- The number of each put is its host's, who has seen it. It is below the ids of all later attempts of the host.
use Rattle.std.proofs.Common.{◌≡◌, ◌⊎◌, inl, inr, refl, sym, ap, subst, ◌∙◌, ℕ, ◌%◌, ◌<◌, ◌≤◌, ◌==◌, Bool, true, false, List, [], ◌∷◌, Some, None, arith}
use Rattle.std.specs.List.{AllByRecursion}
use Rattle.std.proofs.lemmas.Bool.{eq-eqb}
use Rattle.std.proofs.lemmas.Bool.Decides.{nat_tests}
use Rattle.raid_base.specs.declared.numbers.HostNo.{HostNo}
use Rattle.raid_base.specs.declared.numbers.RowNo.{RowNo}
use Rattle.raid_base.specs.declared.numbers.Number.{Number}
use Rattle.raid_base.specs.declared.cells.Cell.{Cell}
use Rattle.raid_base.specs.declared.messages.Call.{Call}
use Rattle.raid_base.specs.declared.messages.Errand.{Errand}
use Rattle.raid_base.specs.declared.messages.Request.{Request}
use Rattle.raid_base.specs.declared.messages.Request.TheVariants.{Share, Claim, Confirm, Put, Release, Lose, Fit}
use Rattle.raid_base.specs.Steps.{Steps, next_errand, errand_of}
use Rattle.slot_rules.specs.Laws.{put_number}
use Rattle.attempts.specs.Taking.{Finish}
use Rattle.attempts.specs.Phases.{MayAsk, after_asking}
use Rattle.script_text.specs.Script.{Script}
use Rattle.script_text.specs.Ranges.{IsScript}
use Rattle.histories.specs.Calls.{Happened, row_of, id_of}
use Rattle.histories.specs.Hands.{past_of, Phased}
use Rattle.histories.specs.Progress.{Work, Trying, Progress, takes}
use Rattle.histories.specs.History.{IsHistory, IsNext, progress_at, if_taken}
use Rattle.histories.proofs.hands.PhasedHands.{phased}
use Rattle.row_laws.specs.Hands.{HasHand, calls_at}
use Rattle.histories.proofs.accesses.AccessTrees.{next-asked}
use Rattle.histories.proofs.accesses.AccessHosts.{asked-id}
use Rattle.histories.proofs.accesses.AccessIds.{all-apart, asker-few}
use Rattle.row_laws.proofs.hands.HandMoves.{Came, Stayed, Begun, Went, came, may-next, next-id}
use Rattle.row_laws.proofs.hands.HandMoves as moves
use Rattle.row_laws.proofs.owners.RowOwnersHands.{Asker, asker, happened-own}
use Rattle.row_laws.proofs.numbers.RisenDraws.{numbered}
use Rattle.row_laws.proofs.numbers.RisenHosts.{Fresh, NewWork, Next, takes-next}
use Rattle.histories.proofs.steps.SameNumbers.{same-host}

-- the number of a put leaves its host by 16, and its host has seen it
abbrev pub IsOwnNumber : Call → Type 0
IsOwnNumber call = (m : Number) → put_number call.ask.what ≡ Some m → m.0 % 16 ≡ call.ask.host.0

abbrev pub IsNumberSeen : HostNo → Number → Call → Type 0
IsNumberSeen host seen call = call.ask.host.0 ≡ host.0 → (m : Number) → put_number call.ask.what ≡ Some m → m.0 ≤ seen.0

-- a put of the host is of the attempt with this id, or its number is below it
abbrev pub IsOlder : HostNo → Number → Call → Type 0
IsOlder host id call = call.ask.host.0 ≡ host.0 → (m : Number) → put_number call.ask.what ≡ Some m → (id_of call.ask.what ≡ Some id) ⊎ (m.0 < id.0)

-- a put by this id
abbrev pub IsPutBy : Number → Call → Type 0
IsPutBy id call = (row : RowNo) × (m : Number) × (cell : Cell) × (call.ask.what ≡ Put row id m cell)

pub put-as : (what : Request) (m : Number) → put_number what ≡ Some m → (row : RowNo) × (id : Number) × (cell : Cell) × (what ≡ Put row id m cell)
put-as (Put row id n cell) m e = let same : n ≡ m = cc in (row, id, cell, ap (λ (x : Number). Put row id x cell) same)
put-as (Share row id want) m e = absurd (let bad : None ≡ Some m = e in cc)
put-as (Claim row id how mask want) m e = absurd (let bad : None ≡ Some m = e in cc)
put-as (Confirm row id want) m e = absurd (let bad : None ≡ Some m = e in cc)
put-as (Release row id n) m e = absurd (let bad : None ≡ Some m = e in cc)
put-as Lose m e = absurd (let bad : None ≡ Some m = e in cc)
put-as Fit m e = absurd (let bad : None ≡ Some m = e in cc)

seen-more : (host : HostNo) (seen later : Number) → seen.0 ≤ later.0 → (calls : List Call) → AllByRecursion (IsNumberSeen host seen) calls → AllByRecursion (IsNumberSeen host later) calls
seen-more host seen later le [] h = tt
seen-more host seen later le (call ∷ calls) h = (λ own m is. let low = h.0 own m is in omega (arith, le, low), seen-more host seen later le calls h.1)

all-older : (host : HostNo) (seen id : Number) → seen.0 < id.0 → (calls : List Call) → AllByRecursion (IsNumberSeen host seen) calls → AllByRecursion (IsOlder host id) calls
all-older host seen id above [] h = tt
all-older host seen id above (call ∷ calls) h = (λ own m is. inr (let low = h.0 own m is in omega (arith, above, low)), all-older host seen id above calls h.1)

-- an attempt that has put something is past its shares
put-late : (id : Number) (calls : List Call) → Happened (IsPutBy id) calls → 1 ≤ (past_of calls).phase
put-late id [] h = absurd h
put-late id (call ∷ calls) h = by call.ask.what h (put-late id calls)
  where
    by : (what : Request) → ((row : RowNo) × (m : Number) × (cell : Cell) × (what ≡ Put row id m cell)) ⊎ Happened (IsPutBy id) calls → (Happened (IsPutBy id) calls → 1 ≤ (past_of calls).phase) →
        1 ≤ (after_asking (past_of calls) call.bay what call.answer.reply).phase
    by (Share r k want) (inl put) before = absurd (let bad : Share r k want ≡ Put put.0 id put.1 put.2 = put.3 in cc)
    by (Share r k want) (inr put) before = before put
    by (Claim r k how mask want) (inl put) before = absurd (let bad : Claim r k how mask want ≡ Put put.0 id put.1 put.2 = put.3 in cc)
    by (Claim r k how mask want) (inr put) before = before put
    by (Confirm r k want) put before = omega arith
    by (Put r k n cell) put before = omega arith
    by (Release r k n) put before = omega arith
    by Lose (inl put) before = absurd (let bad : Lose ≡ Put put.0 id put.1 put.2 = put.3 in cc)
    by Lose (inr put) before = before put
    by Fit (inl put) before = absurd (let bad : Fit ≡ Put put.0 id put.1 put.2 = put.3 in cc)
    by Fit (inr put) before = before put

module _ (script : Script) (is : IsScript script) where
  -- the number of a put, where its host stood before it
  module _ (earlier : List Call) (call : Call) (along : IsHistory script earlier) (next : IsNext script earlier call) where
    asked-number : (m : Number) → put_number call.ask.what ≡ Some m → (m.0 ≤ (progress_at script call.ask.host earlier).seen.0) × (m.0 % 16 ≡ call.ask.host.0)
    asked-number m e =
        let put = put-as call.ask.what m e in
        let a : Asker script is earlier call = asker script is earlier call along next put.0 (ap (λ (w : Request). row_of w) put.3) in
        let x = numbered script is call.ask.host (progress_at script call.ask.host earlier) a.steps a.hand.hand in
        let may : MayAsk script.n a.hand.hand.id x.past call.bay (Put put.0 put.1 m put.2) =
        subst (λ (w : Request). MayAsk script.n a.hand.hand.id x.past call.bay w) put.3 (may-next script.n a.hand.hand.id x.past a.steps (errand_of call) x.keeps a.asked) in
        let has = x.number m may.2 in
        (has.low, has.own)

  pub puts-own : (history : List Call) → IsHistory script history → AllByRecursion IsOwnNumber history
  puts-own [] along = tt
  puts-own (call ∷ earlier) along = (λ m e. (asked-number earlier call along.0 along.1 m e).1, puts-own earlier along.0)

  module _ (host : HostNo) (earlier : List Call) (call : Call) (along : IsHistory script earlier) (next : IsNext script earlier call) where
    own-seen : call.ask.host ≡ host → IsNumberSeen host (progress_at script host earlier).seen call
    own-seen own same m e = subst (λ (x : HostNo). m.0 ≤ (progress_at script x earlier).seen.0) own (asked-number earlier call along next m e).0

    own-few : call.ask.host ≡ host → host.0 < 16
    own-few own = subst (λ (x : HostNo). x.0 < 16) own (asker-few script is earlier call next (all-apart script is earlier along))

    stands : (own : call.ask.host ≡ host) → Next script host (own-few own) (progress_at script host earlier).seen.0 (call ∷ calls_at script earlier host) (takes script host (progress_at script host earlier) call)
    stands own = takes-next script host (own-few own) (progress_at script host earlier).seen.0 (progress_at script host earlier) call (omega arith)

  pub puts-seen : (history : List Call) → IsHistory script history → (host : HostNo) → AllByRecursion (IsNumberSeen host (progress_at script host history).seen) history
  puts-seen [] along host = tt
  puts-seen (call ∷ earlier) along host = by (call.ask.host.0 == host.0) refl (puts-seen earlier along.0 host)
    where
      p : Progress
      p = progress_at script host earlier

      by : (b : Bool) → (call.ask.host.0 == host.0) ≡ b → AllByRecursion (IsNumberSeen host p.seen) earlier →
          AllByRecursion (IsNumberSeen host (if_taken script host p call b).seen) (call ∷ earlier)
      by true e before =
          let own : call.ask.host ≡ host = same-host call.ask.host host e in
          let next = stands host earlier call along.0 along.1 own in
          seen-more host p.seen (takes script host p call).seen next.high (call ∷ earlier) (own-seen host earlier call along.0 along.1 own, before)
      by false e before = (λ own. absurd (grind (arith, nat_tests)), before)

  -- all puts of the host before an attempt in hand are older, or its own
  pub puts-older : (history : List Call) → IsHistory script history → (host : HostNo) (steps : Steps Finish) (h : HasHand script history host steps) (e : Errand) → next_errand steps ≡ Some e →
      AllByRecursion (IsOlder host h.hand.id) history
  puts-older [] along host steps h e asked = tt
  puts-older (call ∷ earlier) along host steps h e asked =
      by (λ s hs es asks. puts-older earlier along.0 host s hs es asks) (came script is earlier call along.0 along.1 host steps h)
    where
      p : Progress
      p = progress_at script host earlier

      Before : Type 0
      Before = (s : Steps Finish) (hs : HasHand script earlier host s) (es : Errand) → next_errand s ≡ Some es → AllByRecursion (IsOlder host hs.hand.id) earlier

      named : id_of e.request ≡ Some h.hand.id
      named = next-id script is (call ∷ earlier) host steps h e asked

      -- a new attempt
      fresh-above : (work : Work) → work ≡ Trying steps → NewWork p.seen.0 work → p.seen.0 < h.hand.id.0
      fresh-above work was new_work = one (subst (NewWork p.seen.0) was new_work)
        where
          one : Fresh p.seen.0 steps → p.seen.0 < h.hand.id.0
          one f =
              let first : id_of e.request ≡ Some f.id = asked-id f.reading f.id e.request (next-asked f.reading f.id steps e f.each asked) in
              let both : Some f.id ≡ Some h.hand.id = sym first ∙ named in
              let same : f.id ≡ h.hand.id = cc in
              subst (λ (x : Number). p.seen.0 < x.0) same f.above

      begun-above : call.ask.host ≡ host → calls_at script (call ∷ earlier) host ≡ [] → p.seen.0 < h.hand.id.0
      begun-above own bare = by (call.ask.host.0 == host.0) refl bare h.work
        where
          by : (b : Bool) → (call.ask.host.0 == host.0) ≡ b → (if_taken script host p call b).calls ≡ [] → (if_taken script host p call b).work ≡ Trying steps → p.seen.0 < h.hand.id.0
          by true t none was = told (stands host earlier call along.0 along.1 own).work
            where
              told : ((takes script host p call).calls ≡ call ∷ p.calls) ⊎ NewWork p.seen.0 (takes script host p call).work → p.seen.0 < h.hand.id.0
              told (inl same) = absurd (let bad : [] ≡ call ∷ p.calls = sym none ∙ same in cc)
              told (inr new_work) = fresh-above (takes script host p call).work was new_work
          by false t none was =
              let same : (call.ask.host.0 == host.0) ≡ true = eq-eqb call.ask.host.0 host.0 (ap (λ (k : HostNo). k.0) own) in
              absurd (let bad : true ≡ false = sym same ∙ t in cc)

      by : Before → Came script is earlier call along.0 along.1 host steps h.hand.id h.hand.task (calls_at script (call ∷ earlier) host) → AllByRecursion (IsOlder host h.hand.id) (call ∷ earlier)
      by before (Stayed stays) = (
        λ own. absurd (let apart : (call.ask.host.0 == host.0) ≡ false = stays.other in grind (arith, nat_tests)),
        subst (λ (x : Number). AllByRecursion (IsOlder host x) earlier) stays.same_id (before steps stays.before e asked),
      )
      by before (Begun own bare) =
          all-older host p.seen h.hand.id (begun-above own bare) (call ∷ earlier) (own-seen host earlier call along.0 along.1 own, puts-seen earlier along.0 host)
      by before (Went goes) = (
        λ own m put. inl (moves.asked-id script is earlier host goes.steps goes.before call goes.asked ∙ ap (λ (x : Number). Some x) goes.same_id),
        subst (λ (x : Number). AllByRecursion (IsOlder host x) earlier) goes.same_id (before goes.steps goes.before (errand_of call) goes.asked),
      )

  -- No put has the id of an attempt that is about to share for its number
  all-apart-from : (id : Number) (host : HostNo) → id.0 % 16 ≡ host.0 → (history : List Call) → AllByRecursion IsOwnNumber history → AllByRecursion (IsOlder host id) history →
      (Happened (IsPutBy id) history → ⊥) → AllByRecursion (λ (c : Call). (m : Number) → put_number c.ask.what ≡ Some m → m.0 ≡ id.0 → ⊥) history
  all-apart-from id host own [] owns older none = tt
  all-apart-from id host own (call ∷ calls) owns older none = (
    λ m put same.
        let mine : m.0 % 16 ≡ call.ask.host.0 = owns.0 m put in
        let at : call.ask.host.0 ≡ host.0 = sym mine ∙ ap (λ (k : ℕ). k % 16) same ∙ own in
        by m put same (older.0 at m put),
    all-apart-from id host own calls owns.1 older.1 (λ h. none (inr h)),
  )
    where
      by : (m : Number) → put_number call.ask.what ≡ Some m → m.0 ≡ id.0 → (id_of call.ask.what ≡ Some id) ⊎ (m.0 < id.0) → ⊥
      by m put same (inr less) = omega (arith, same, less)
      by m put same (inl named) =
          let p = put-as call.ask.what m put in
          let both : Some p.1 ≡ Some id = sym (ap (λ (w : Request). id_of w) p.3) ∙ named in
          let one : p.1 ≡ id = cc in
          none (inl (p.0, m, p.2, subst (λ (x : Number). call.ask.what ≡ Put p.0 x m p.2) one p.3))

  module _ (history : List Call) (along : IsHistory script history) (host : HostNo) (steps : Steps Finish) (h : HasHand script history host steps) (call : Call)
      (asked : next_errand steps ≡ Some (errand_of call)) where
    none-put : (row : RowNo) (want : Bool) → call.ask.what ≡ Share row h.hand.id want → Happened (IsPutBy h.hand.id) history → ⊥
    none-put row want what put =
        let mine : Happened (IsPutBy h.hand.id) (calls_at script history host) =
        happened-own script is history along host steps h (errand_of call) asked (λ c k. ap (λ (w : Request). id_of w) k.3) put in
        let late : 1 ≤ (past_of (calls_at script history host)).phase = put-late h.hand.id (calls_at script history host) mine in
        let f : Phased script.n h.hand.id (calls_at script history host) steps = phased script is host (progress_at script host history) steps h.hand in
        let may : MayAsk script.n h.hand.id f.past call.bay (Share row h.hand.id want) =
        subst (λ (w : Request). MayAsk script.n h.hand.id f.past call.bay w) what (may-next script.n h.hand.id f.past steps (errand_of call) f.keeps asked) in
        let early = may.1 in
        let same = f.same.phase in
        omega (arith, late, early, same)

    pub puts-apart : (row : RowNo) (want : Bool) → call.ask.what ≡ Share row h.hand.id want →
        AllByRecursion (λ (c : Call). (m : Number) → put_number c.ask.what ≡ Some m → m.0 ≡ h.hand.id.0 → ⊥) history
    puts-apart row want what =
        all-apart-from h.hand.id host h.hand.own history (puts-own history along) (puts-older history along host steps h (errand_of call) asked) (none-put row want what)
