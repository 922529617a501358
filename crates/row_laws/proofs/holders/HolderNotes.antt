-- While an attempt that gives nothing back holds the parity of a row, the units that were granted to it keep their notes: after
-- a call of another host a note there is its own still, or a recovery has seized it, which may not close while the parity is held.
use Rattle.std.proofs.Common.{◌≡◌, ◌⊎◌, inl, inr, refl, sym, ap, subst, ◌∙◌, ℕ, ◌+◌, ◌-◌, ◌<◌, ◌==◌, Bool, true, false, List, [], ◌∷◌, Option, Some, None, IsSome, is_some, arith}
use Rattle.std.specs.List.{AllByRecursion}
use Rattle.std.proofs.lemmas.Bool.{eq-eqb}
use Rattle.raid_base.specs.declared.numbers.BayNo.{BayNo}
use Rattle.raid_base.specs.declared.numbers.HostNo.{HostNo}
use Rattle.raid_base.specs.declared.numbers.RowNo.{RowNo}
use Rattle.raid_base.specs.declared.numbers.Number.{Number}
use Rattle.raid_base.specs.declared.cells.Cell.{Cell}
use Rattle.raid_base.specs.declared.messages.How.{How}
use Rattle.raid_base.specs.declared.messages.How.TheVariants.{Seize, Mend}
use Rattle.raid_base.specs.declared.messages.Note.{Note}
use Rattle.raid_base.specs.declared.messages.Grant.{Grant}
use Rattle.raid_base.specs.declared.messages.Ask.{Ask}
use Rattle.raid_base.specs.declared.messages.Request.{Request}
use Rattle.raid_base.specs.declared.messages.Request.TheVariants.{Claim, Confirm, Put, Release}
use Rattle.raid_base.specs.declared.messages.Errand.{Errand}
use Rattle.raid_base.specs.declared.messages.Call.{Call}
use Rattle.raid_base.specs.declared.jobs.Task.{Task}
use Rattle.raid_base.specs.declared.jobs.Task.TheVariants as tasks
use Rattle.raid_base.specs.Replies.{grant_of}
use Rattle.raid_base.specs.Steps.{Steps, next_errand, errand_of}
use Rattle.slot_rules.specs.Rules.{note_id}
use Rattle.slot_rules.specs.Laws.{claimed_note}
use Rattle.stripe_layout.specs.Placement.{parity_bay, bay_of}
use Rattle.stripe_layout.specs.Layout.{IsLaidOut}
use Rattle.stripe_layout.proofs.LayoutLemmas.{laid_out}
use Rattle.attempts.specs.Taking.{Finish}
use Rattle.attempts.specs.Phases.{Slot, IsIn, MayAsk, MayPut, has_slot, is_due, after_asking}
use Rattle.attempts.specs.Recovery.{is_seized}
use Rattle.attempts.specs.Once.{AttemptsAskOnce, ClaimsAreOfTheirKind}
use Rattle.attempts.proofs.PhaseLemmas.{slot_on}
use Rattle.script_text.specs.Script.{Script}
use Rattle.script_text.specs.Ranges.{IsScript}
use Rattle.histories.specs.Calls.{Happened, IsClaim, id_of}
use Rattle.histories.specs.Hands.{past_of, Phased}
use Rattle.histories.specs.Progress.{Progress}
use Rattle.histories.specs.History.{progress_at, bay_at, IsHistory}
use Rattle.histories.proofs.hands.PhasedHands.{phased}
use Rattle.histories.specs.RowStates.{slot_at, cell_at}
use Rattle.row_laws.specs.Hands.{HasHand, calls_at}
use Rattle.histories.specs.Ids.{calls_with}
use Rattle.row_laws.specs.Holding.{HasNote, BlankNotesMend, IsRelease, GivesNothing, origin_of, IsOfOpenRecovery, HoldersKeepNotes}
use Rattle.row_laws.proofs.hands.HandMoves.{may-next, asked-id, Goes, Came, Stayed, Begun, Went, came}
use Rattle.row_laws.proofs.hands.SlotDoes.{IsGone, claimed-id}
use Rattle.row_laws.proofs.holders.HolderNotesTrees.{MayFind, Finds}
use Rattle.row_laws.proofs.holders.HolderNotesSlots.{IsGranted, grant_at, Claimed, Turned, Same, Taken, Filled, Freed, Closed, Cleared, Renewed, turned, IsMending, Found, claimed-by, found-cell, empty-bare, Confirmation, confirmation}
use Rattle.row_laws.proofs.holders.HolderNotesHands.{put-more, confirmed-late, Confirms, Before, Now, confirmed-by, claim-in, free_of, Finding, finds-next, finding-hand, claims-new, one-claim, claim-kind, mend-operator, parity-first, claim-row, FreeClaim, free-claim}
use Rattle.row_laws.proofs.holders.HolderNotesCalls.{Among, none-first, Asker, asker, asker-calls, calls-mine, in-history, mine-among, mends-operator, seizes-recover}
use Rattle.histories.proofs.steps.SameNumbers.{same-number}
use Rattle.row_laws.proofs.hands.HandClaims.{granted-claimed}
use Rattle.row_laws.proofs.owners.RowOwnersHands.{other-id}

claimed-origin : (ask : Ask) (id : Number) (mask : ℕ) (o : Option Note) → (claimed_note ask id mask o).origin ≡ origin_of id o
claimed-origin ask id mask None = refl
claimed-origin ask id mask (Some note) = refl

-- the note with an id
record Holder (id : Number) (o : Option Note) : Type 0 where
  note : Note
  stands : o ≡ Some note
  named : note.id ≡ id

holder : (id : Number) (o : Option Note) → HasNote id o → Holder id o
holder id None h = absurd h
holder id (Some note) h = record { note = note; stands = refl; named = h }

owned : (note : Note) (o : Option Note) (id : Number) → o ≡ Some note → note_id o id ≡ true → note.id ≡ id
owned note o id stands own = same-number note.id id (ap (λ (x : Option Note). note_id x id) (sym stands) ∙ own)

no-cell : (o : Option Cell) → o ≡ None → IsSome o → ⊥
no-cell None none there = absurd (let bad : false ≡ true = there in cc)
no-cell (Some cell) none there = absurd (cc)

all-in : {X : Type 0} (P : X → Type 0) (x : X) (xs : List X) → AllByRecursion P xs → IsIn x xs → P x
all-in P x [] all i = absurd i
all-in P x (y ∷ xs) all (inl same) = subst P same all.0
all-in P x (y ∷ xs) all (inr i) = all-in P x xs all.1 i

module _ (script : Script) (is : IsScript script) (once : AttemptsAskOnce) (kinds : ClaimsAreOfTheirKind) (blank : BlankNotesMend) (row : RowNo) (unit : ℕ) (below : row.0 < script.rows)
    (within : unit + 1 < script.n) where
  abbrev place : BayNo
  place = bay_of script.n row unit

  abbrev parity : BayNo
  parity = parity_bay script.n row

  abbrev note_on : List Call → BayNo → Option Note
  note_on history at = (slot_at script history at row).note

  laid : IsLaidOut script.n row
  laid = laid_out script.n row is.devices_least

  unit-within : unit < script.n - 1
  unit-within = let least = is.devices_least in omega (arith, within, least)

  places-differ : place ≡ parity → ⊥
  places-differ = laid.apart unit unit-within

  place-within : place.0 < script.n
  place-within = laid.units_in unit unit-within

  -- a claim of the unit that seized a note
  record IsTaking (id : Number) (call : Call) : Type 0 where
    at_place : call.bay ≡ place
    mask : ℕ
    want : Bool
    what : call.ask.what ≡ Claim row id Seize mask want
    grant : Grant
    granted : grant_of call.answer.reply ≡ Some grant
    seized : is_seized grant ≡ true

  taking-claim : (id : Number) (call : Call) → IsTaking id call → IsClaim place row call
  taking-claim id call t = (t.at_place, id, Seize, t.mask, t.want, t.what)

  taking-id : (id : Number) (call : Call) → IsTaking id call → id_of call.ask.what ≡ Some id
  taking-id id call t = ap (λ (w : Request). id_of w) t.what

  -- the note is of a recovery that seized it from another and may not close
  record Opened (history : List Call) (note : Note) : Type 0 where
    recovery : IsOfOpenRecovery script history row note
    took : Happened (IsTaking note.id) history

  record Noted (history : List Call) (id : Number) (seized : Option Note) : Type 0 where
    note : Note
    stands : note_on history place ≡ Some note
    origin : note.origin ≡ origin_of id seized
    whose : (note.id ≡ id) ⊎ Opened history note

  -- An open recovery that asks
  module _ (earlier : List Call) (call : Call) (along : IsHistory script (call ∷ earlier)) (note : Note) (o : Opened earlier note) where
    module _ (host : HostNo) (steps : Steps Finish) (before : HasHand script earlier host steps) (same : before.hand.id ≡ note.id) (asked : next_errand steps ≡ Some (errand_of call)) where
      abbrev calls : List Call
      calls = calls_at script earlier host

      abbrev p : Progress
      p = progress_at script host earlier

      phases : Phased script.n before.hand.id calls steps
      phases = phased script is host p steps before.hand

      may : MayAsk script.n before.hand.id phases.past call.bay call.ask.what
      may = may-next script.n before.hand.id phases.past steps (errand_of call) phases.keeps asked

      not-confirmed : IsIn row (past_of calls).confirmed → ⊥
      not-confirmed done = o.recovery.closing host steps before same done

      mine : calls_with before.hand.id earlier ≡ calls
      mine = asker-calls script is earlier call along host steps before asked

      taken : Among (IsTaking note.id) calls
      taken = mine-among script is once kinds earlier host steps before mine (IsTaking note.id) (λ c t. taking-id note.id c t ∙ ap (λ (n : Number). Some n) (sym same)) o.took

      -- it puts nothing
      puts-nothing : (id n : Number) (cell : Cell) → call.ask.what ≡ Put row id n cell → ⊥
      puts-nothing id n cell what =
          let m : MayAsk script.n before.hand.id phases.past call.bay (Put row id n cell) = subst (λ (w : Request). MayAsk script.n before.hand.id phases.past call.bay w) what may in
          let put : MayPut script.n phases.past (slot_on row call.bay) = m.3 in
          let granted : IsIn (slot_on row call.bay) (past_of calls).granted = subst (λ (xs : List Slot). IsIn (slot_on row call.bay) xs) phases.same.granted put.granted in
          let claimed : IsIn (slot_on row call.bay) phases.past.claimed = subst (λ (xs : List Slot). IsIn (slot_on row call.bay) xs) (sym phases.same.claimed) (granted-claimed (slot_on row call.bay) calls granted) in
          not-confirmed (subst (λ (xs : List RowNo). IsIn row xs) phases.same.confirmed
          (all-in (λ (claim : Slot). IsIn claim.row phases.past.confirmed) (slot_on row call.bay) phases.past.claimed put.confirmed claimed))

      -- it is a recovery of this row that has not confirmed it
      finding : Finds row host (past_of calls).granted (free_of calls) steps
      finding = by (seizes-recover script is once kinds earlier host steps before mine note.host note.id (sym same) o.recovery.seized)
        where
          by : (r : RowNo) × (before.hand.task ≡ tasks.Recover r) → Finds row host (past_of calls).granted (free_of calls) steps
          by (r, recovers) = on (subst (λ (x : RowNo). Finding x host calls steps) (sym here) (finding-hand script is once kinds host p.jobs p.row p.seen calls steps before.hand r recovers))
            where
              here : row ≡ r
              here = claim-row script is host once kinds p.jobs p.row p.seen calls steps before.hand r recovers taken.call place row taken.among (taking-claim note.id taken.call taken.is)

              on : Finding row host calls steps → Finds row host (past_of calls).granted (free_of calls) steps
              on (inl done) = absurd (not-confirmed done)
              on (inr finds) = finds

      may-find : MayFind row host (past_of calls).granted (free_of calls) call.bay call.ask.what
      may-find = finds-next row host (past_of calls).granted (free_of calls) steps call finding asked

      -- it does not give the unit back
      keeps-place : (id : Number) (n : Option Number) → call.bay ≡ place → call.ask.what ≡ Release row id n → ⊥
      keeps-place id n here what =
          let free : IsIn (slot_on row call.bay) (free_of calls) = subst (λ (w : Request). MayFind row host (past_of calls).granted (free_of calls) call.bay w) what may-find in
          let f : FreeClaim calls place row = free-claim calls place row (subst (λ (b : BayNo). IsIn (slot_on row b) (free_of calls)) here free) in
          let one : f.call ≡ taken.call =
          one-claim script is once kinds host p.jobs p.row p.seen calls steps before.hand place row f.call taken.call f.among taken.among f.claim (taking-claim note.id taken.call taken.is) in
          let both : Some f.grant ≡ Some taken.is.grant = sym f.granted ∙ ap (λ (c : Call). grant_of c.answer.reply) one ∙ taken.is.granted in
          let same_grant : f.grant ≡ taken.is.grant = cc in
          absurd (let bad : false ≡ true = sym f.free ∙ ap is_seized same_grant ∙ taken.is.seized in cc)

      -- it confirms a parity that was not granted only as the operator
      confirms-as-operator : (id : Number) (want : Bool) → call.ask.what ≡ Confirm row id want → has_slot (slot_on row call.bay) (past_of calls).granted ≡ false → host.0 ≡ 0
      confirms-as-operator id want what none = by (subst (λ (w : Request). MayFind row host (past_of calls).granted (free_of calls) call.bay w) what may-find)
        where
          by : (row ≡ row) × ((host.0 ≡ 0) ⊎ (has_slot (slot_on row call.bay) (past_of calls).granted ≡ true)) → host.0 ≡ 0
          by (same, inl operator) = operator
          by (same, inr there) = absurd (let bad : true ≡ false = sym there ∙ none in cc)

      confirms-at : (id : Number) (want : Bool) → call.ask.what ≡ Confirm row id want → call.bay ≡ parity
      confirms-at id want what =
          let m : MayAsk script.n before.hand.id phases.past call.bay (Confirm row id want) = subst (λ (w : Request). MayAsk script.n before.hand.id phases.past call.bay w) what may in m.2

  -- After a call
  module _ (earlier : List Call) (call : Call) (along : IsHistory script (call ∷ earlier)) where
    abbrev later : List Call
    later = call ∷ earlier

    abbrev CameAs : (host : HostNo) (steps : Steps Finish) (h : HasHand script later host steps) → Type 0
    CameAs host steps h = Came script is earlier call along.0 along.1 host steps h.hand.id h.hand.task (calls_at script later host)

    came-as : (host : HostNo) (steps : Steps Finish) (h : HasHand script later host steps) → CameAs host steps h
    came-as host steps h = came script is earlier call along.0 along.1 host steps h

    goes-id : (host : HostNo) (id : Number) (task : Task) (all : List Call) → Goes script is earlier call along.0 along.1 host id task all → id_of call.ask.what ≡ Some id
    goes-id host id task all g = asked-id script is earlier host g.steps g.before call g.asked ∙ ap (λ (n : Number). Some n) g.same_id

    module _ (host : HostNo) (steps : Steps Finish) (h : HasHand script later host steps) (x : Call) (among : IsIn x (calls_at script later host)) (holds : HasNote h.hand.id (note_on earlier parity)) where
      abbrev held : Holder h.hand.id (note_on earlier parity)
      held = holder h.hand.id (note_on earlier parity) holds

      -- the parity that another attempt holds is not confirmed
      module _ (note : Note) (apart : note.id ≡ h.hand.id → ⊥) (o : Opened earlier note) where
        module _ (other : HostNo) (s : Steps Finish) (k : HasHand script later other s) (same : k.hand.id ≡ note.id) where
          module _ (g : Goes script is earlier call along.0 along.1 other k.hand.id k.hand.task (calls_at script later other)) (id : Number) (want : Bool) (what : call.ask.what ≡ Confirm row id want) where
            abbrev before_id : g.before.hand.id ≡ note.id
            before_id = g.same_id ∙ same

            named : id ≡ note.id
            named =
                let both : Some id ≡ Some note.id = ap (λ (w : Request). id_of w) (sym what) ∙ goes-id other k.hand.id k.hand.task (calls_at script later other) g ∙ ap (λ (n : Number). Some n) same in
                cc

            seen : Confirmation script is parity row below earlier call id
            seen = confirmation script is parity row below earlier call along.1 id want (confirms-at earlier call along note o other g.steps g.before before_id g.asked id want what) what

            -- both would be the operator's
            two-operators : host.0 ≡ 0 → other.0 ≡ 0 → CameAs host steps h → ⊥
            two-operators mine yours (Stayed st) =
                let own : call.ask.host.0 ≡ host.0 = ap (λ (y : HostNo). y.0) g.own ∙ yours ∙ sym mine in
                absurd (let bad : true ≡ false = sym (eq-eqb call.ask.host.0 host.0 own) ∙ st.other in cc)
            two-operators mine yours (Begun own bare) = subst (λ (xs : List Call). IsIn x xs) bare among
            two-operators mine yours (Went gh) =
                let both : Some note.id ≡ Some h.hand.id =
                ap (λ (n : Number). Some n) (sym same) ∙ sym (goes-id other k.hand.id k.hand.task (calls_at script later other) g) ∙ goes-id host h.hand.id h.hand.task (calls_at script later host) gh in
                apart (cc)

            not-missing : has_slot (slot_on row call.bay) (past_of (calls_at script earlier other)).granted ≡ false → IsGone (bay_at script parity earlier) (slot_at script earlier parity row) → ⊥
            not-missing none (inl empty) =
                absurd (let bad : None ≡ Some held.note = sym (empty-bare script is parity row below earlier along.0 empty) ∙ held.stands in cc)
            not-missing none (inr bare) =
                let mended = blank script earlier is along.0 parity row held.note laid.parity_in below bare held.stands in
                two-operators
                (mends-operator script is once kinds later host steps h (calls-mine script is later along host steps h x among) parity row held.note held.named (inr mended.0))
                (confirms-as-operator earlier call along note o other g.steps g.before before_id g.asked id want what none)
                (came-as host steps h)

            not-due : (b : Bool) → has_slot (slot_on row call.bay) (past_of (calls_at script earlier other)).granted ≡ b → is_due b call.answer.reply ≡ true → ⊥
            not-due true e due = apart (sym named ∙ sym (owned held.note (note_on earlier parity) id held.stands (seen.held due)) ∙ held.named)
            not-due false e due = not-missing e (seen.missing due)

          not-closed : IsIn row (past_of (calls_at script later other)).confirmed → CameAs other s k → ⊥
          not-closed done (Stayed st) = o.recovery.closing other s st.before (st.same_id ∙ same) (subst (λ (xs : List Call). IsIn row (past_of xs).confirmed) st.calls done)
          not-closed done (Begun own bare) = subst (λ (xs : List Call). IsIn row (past_of xs).confirmed) bare done
          not-closed done (Went g) =
              by (confirmed-by row (past_of (calls_at script earlier other)) call.bay call.ask.what call.answer.reply (subst (λ (xs : List Call). IsIn row (past_of xs).confirmed) g.calls done))
            where
              by : Confirms row (past_of (calls_at script earlier other)) call.bay call.ask.what call.answer.reply → ⊥
              by (Before i) = o.recovery.closing other g.steps g.before (g.same_id ∙ same) i
              by (Now id want what due) = not-due g id want what (has_slot (slot_on row call.bay) (past_of (calls_at script earlier other)).granted) refl due

        open-kept : Opened later note
        open-kept = record {
          recovery = record { seized = inr o.recovery.seized; closing = λ other s k same done. not-closed other s k same done (came-as other s k) };
          took = inr o.took;
        }

      whose-kept : (note : Note) → (note.id ≡ h.hand.id) ⊎ Opened earlier note → (note.id ≡ h.hand.id) ⊎ Opened later note
      whose-kept note (inl own) = inl own
      whose-kept note (inr o) = by (note.id.0 == h.hand.id.0) refl
        where
          by : (b : Bool) → (note.id.0 == h.hand.id.0) ≡ b → (note.id ≡ h.hand.id) ⊎ Opened later note
          by true e = inl (same-number note.id h.hand.id e)
          by false e = inr (open-kept note (λ same. absurd (let bad : true ≡ false = sym (eq-eqb note.id.0 h.hand.id.0 (ap (λ (n : Number). n.0) same)) ∙ e in cc)) o)

      noted-kept : (seized : Option Note) → note_on later place ≡ note_on earlier place → Noted earlier h.hand.id seized → Noted later h.hand.id seized
      noted-kept seized stays noted = record { note = noted.note; stands = stays ∙ noted.stands; origin = noted.origin; whose = whose-kept noted.note noted.whose }

      -- the unit is seized
      seized-opens : (c : Claimed (bay_at script place earlier) place row call (bay_at script place later)) → (old : Note) → note_on earlier place ≡ Some old → c.how ≡ Seize →
          Opened later (claimed_note call.ask c.id c.mask (Some old))
      seized-opens c old stands seizing = record {
        recovery = record { seized = inl (refl, row, c.mask, c.want, what); closing = λ other s k same done. closes other s k same done (came-as other s k) };
        took = inl (record {
          at_place = c.place;
          mask = c.mask;
          want = c.want;
          what = what;
          grant = grant_at (bay_at script place earlier) (slot_at script earlier place row) c.want;
          granted = c.grant;
          seized = ap is_some stands;
        });
      }
        where
          what : call.ask.what ≡ Claim row c.id Seize c.mask c.want
          what = c.what ∙ ap (λ (y : How). Claim row c.id y c.mask c.want) seizing

          named : id_of call.ask.what ≡ Some c.id
          named = ap (λ (w : Request). id_of w) c.what

          closes : (other : HostNo) (s : Steps Finish) (k : HasHand script later other s) → k.hand.id ≡ c.id → IsIn row (past_of (calls_at script later other)).confirmed → CameAs other s k → ⊥
          closes other s k same done (Stayed st) = other-id script is earlier call along other k.hand.id st.other k.hand.own (named ∙ ap (λ (n : Number). Some n) (sym same))
          closes other s k same done (Begun own bare) = subst (λ (xs : List Call). IsIn row (past_of xs).confirmed) bare done
          closes other s k same done (Went g) =
              by (confirmed-by row (past_of (calls_at script earlier other)) call.bay call.ask.what call.answer.reply (subst (λ (xs : List Call). IsIn row (past_of xs).confirmed) g.calls done))
            where
              f : Phased script.n g.before.hand.id (calls_at script earlier other) g.steps
              f = phased script is other (progress_at script other earlier) g.steps g.before.hand

              may : MayAsk script.n g.before.hand.id f.past call.bay (Claim row c.id c.how c.mask c.want)
              may = subst (λ (w : Request). MayAsk script.n g.before.hand.id f.past call.bay w) c.what (may-next script.n g.before.hand.id f.past g.steps (errand_of call) f.keeps g.asked)

              by : Confirms row (past_of (calls_at script earlier other)) call.bay call.ask.what call.answer.reply → ⊥
              by (Before i) = let high = confirmed-late (calls_at script earlier other) row i in let low = f.same.phase in let first = may.1 in omega (arith, high, low, first)
              by (Now id want confirm due) = absurd (let bad : Claim row c.id c.how c.mask c.want ≡ Confirm row id want = sym c.what ∙ confirm in cc)

      -- a claim that found a note has handed it on
      noted-seized : (seized : Option Note) (c : Claimed (bay_at script place earlier) place row call (bay_at script place later)) → Noted earlier h.hand.id seized → Noted later h.hand.id seized
      noted-seized seized c noted = by c.free
        where
          by : (note_on earlier place ≡ None) ⊎ (c.how ≡ Seize) → Noted later h.hand.id seized
          by (inl free) = absurd (let bad : None ≡ Some noted.note = sym free ∙ noted.stands in cc)
          by (inr seizing) = record {
            note = claimed_note call.ask c.id c.mask (Some noted.note);
            stands = c.note ∙ ap (λ (o : Option Note). Some (claimed_note call.ask c.id c.mask o)) noted.stands;
            origin = noted.origin;
            whose = inr (seized-opens c noted.note noted.stands seizing);
          }

      -- a call of another host
      module _ (other : (call.ask.host.0 == host.0) ≡ false) (seized : Option Note) where
        apart-id : (id : Number) → id_of call.ask.what ≡ Some id → id ≡ h.hand.id → ⊥
        apart-id id named same = other-id script is earlier call along host h.hand.id other h.hand.own (named ∙ ap (λ (n : Number). Some n) same)

        -- a put by the note's id, or its release
        not-asked : (noted : Noted earlier h.hand.id seized) (id : Number) → id_of call.ask.what ≡ Some id → note_id (note_on earlier place) id ≡ true →
            (Opened earlier noted.note → (a : Asker script is earlier call) → a.before.hand.id ≡ noted.note.id → ⊥) → ⊥
        not-asked noted id named own never = by noted.whose
          where
            same : noted.note.id ≡ id
            same = owned noted.note (note_on earlier place) id noted.stands own

            a : Asker script is earlier call
            a = asker script is earlier call along id named

            by : (noted.note.id ≡ h.hand.id) ⊎ Opened earlier noted.note → ⊥
            by (inl mine) = apart-id id named (sym same ∙ mine)
            by (inr o) =
                let both : Some a.before.hand.id ≡ Some id = sym (asked-id script is earlier call.ask.host a.steps a.before call a.asked) ∙ named in
                let one : a.before.hand.id ≡ id = cc in
                never o a (one ∙ sym same)

        -- a blank unit is filled by the rebuild that claimed it alone, which is the operator's
        not-filled : (id n : Number) (cell : Cell) → call.ask.what ≡ Put row id n cell → note_id (note_on earlier place) id ≡ true → cell_at script earlier row place ≡ None → IsMending row x → ⊥
        not-filled id n cell what own bare mending = by (note_on earlier place) refl
          where
            named : id_of call.ask.what ≡ Some id
            named = ap (λ (w : Request). id_of w) what

            mine : host.0 ≡ 0
            mine =
                let q : Progress = progress_at script host later in
                mend-operator script host h.hand.task h.hand.is (claim-kind script is once kinds host q.jobs q.row q.seen q.calls steps h.hand x row mending.0 Mend mending.1 mending.2 among mending.3)

            by : (o : Option Note) → note_on earlier place ≡ o → ⊥
            by None none = absurd (let bad : false ≡ true = ap (λ (y : Option Note). note_id y id) (sym none) ∙ own in cc)
            by (Some note) stands =
                let a : Asker script is earlier call = asker script is earlier call along id named in
                let mended = blank script earlier is along.0 place row note place-within below bare stands in
                let both : Some a.before.hand.id ≡ Some id = sym (asked-id script is earlier call.ask.host a.steps a.before call a.asked) ∙ named in
                let one : a.before.hand.id ≡ id = cc in
                let yours : call.ask.host.0 ≡ 0 =
                mends-operator script is once kinds earlier call.ask.host a.steps a.before (asker-calls script is earlier call along call.ask.host a.steps a.before a.asked) place row note
                (owned note (note_on earlier place) id stands own ∙ sym one) mended.0 in
                let same : call.ask.host.0 ≡ host.0 = yours ∙ sym mine in
                absurd (let bad : true ≡ false = sym (eq-eqb call.ask.host.0 host.0 same) ∙ other in cc)

      -- what is said of the unit's slot
      record Asked (at : List Call) (calls : List Call) (grant : Grant) : Type 0 where
        among_them : IsIn x calls
        not_put : IsIn (slot_on row place) (past_of calls).put → ⊥
        cell : IsSome (cell_at script at row place)
        life : grant.life ≡ (bay_at script place at).life

      module _ (claim : IsClaim place row x) (grant : Grant) (granted : grant_of x.answer.reply ≡ Some grant) where
        -- the call is of another host
        module _ (other : (call.ask.host.0 == host.0) ≡ false) (calls : List Call) (s : Asked later calls grant) (before : Asked earlier calls grant → Noted earlier h.hand.id grant.seized) (was : Found script is place row below earlier x grant) where
          as-before : (cell_at script later row place ≡ cell_at script earlier row place) → ((bay_at script place later).life ≡ (bay_at script place earlier).life) → Asked earlier calls grant
          as-before cell life = record { among_them = s.among_them; not_put = s.not_put; cell = subst (λ (o : Option Cell). IsSome o) cell s.cell; life = s.life ∙ life }

          stayed-noted : Turned (bay_at script place earlier) place row call (bay_at script place later) → Noted later h.hand.id grant.seized
          stayed-noted (Same note cell empty life granted) = noted-kept grant.seized note (before (as-before cell life))
          stayed-noted (Taken c) = noted-seized grant.seized c (before (as-before c.cell c.life))
          stayed-noted (Filled here id n cell what own note there empty life) = absurd (by (cell_at script earlier row place) refl)
            where
              bare : cell_at script earlier row place ≡ None → IsSome (cell_at script earlier row place) ⊎ IsMending row x → ⊥
              bare none (inl old) = no-cell (cell_at script earlier row place) none old
              bare none (inr mending) = not-filled other grant.seized id n cell what own none mending

              by : (o : Option Cell) → cell_at script earlier row place ≡ o → ⊥
              by None none = bare none (was.cell (s.life ∙ life))
              by (Some old) is_there =
                  let noted = before (record { among_them = s.among_them; not_put = s.not_put; cell = subst (λ (o : Option Cell). IsSome o) (sym is_there) refl; life = s.life ∙ life }) in
                  not-asked other grant.seized noted id (ap (λ (w : Request). id_of w) what) own
                  (λ o a same. puts-nothing earlier call along noted.note o call.ask.host a.steps a.before same a.asked id n cell what)
          stayed-noted (Freed here id n what own note cell empty life) =
              let noted = before (as-before cell life) in
              absurd (not-asked other grant.seized noted id (ap (λ (w : Request). id_of w) what) own
              (λ o a same. keeps-place earlier call along noted.note o call.ask.host a.steps a.before same a.asked id n here what))
          stayed-noted (Closed was note cell empty life granted) = absurd (no-cell (cell_at script later row place) cell s.cell)
          stayed-noted (Cleared what note cell life) = absurd (no-cell (cell_at script later row place) cell s.cell)
          stayed-noted (Renewed what was note cell life) = absurd (no-cell (cell_at script later row place) cell s.cell)

        -- the attempt asked the call itself
        module _ (g : Goes script is earlier call along.0 along.1 host h.hand.id h.hand.task (calls_at script later host)) where
          abbrev own_calls : List Call
          own_calls = calls_at script earlier host

          own-claim : (c : Claimed (bay_at script place earlier) place row call (bay_at script place later)) → c.id ≡ h.hand.id
          own-claim c =
              let both : Some c.id ≡ Some h.hand.id = ap (λ (w : Request). id_of w) (sym c.what) ∙ goes-id host h.hand.id h.hand.task (calls_at script later host) g in
              cc

          -- it is the claim
          claimed-noted : call ≡ x → Noted later h.hand.id grant.seized
          claimed-noted one =
              let c : Claimed (bay_at script place earlier) place row call (bay_at script place later) =
              claimed-by script is place row below earlier call along.1 (subst (λ (y : Call). IsGranted place row y) (sym one) (claim, grant, granted)) in
              let both : Some (grant_at (bay_at script place earlier) (slot_at script earlier place row) c.want) ≡ Some grant = sym c.grant ∙ ap (λ (y : Call). grant_of y.answer.reply) one ∙ granted in
              let same : grant_at (bay_at script place earlier) (slot_at script earlier place row) c.want ≡ grant = cc in
              let seized : note_on earlier place ≡ grant.seized = ap (λ (y : Grant). y.seized) same in
              record {
                note = claimed_note call.ask c.id c.mask (note_on earlier place);
                stands = c.note;
                origin = claimed-origin call.ask c.id c.mask (note_on earlier place) ∙ ap (λ (n : Number). origin_of n (note_on earlier place)) (own-claim c) ∙ ap (origin_of h.hand.id) seized;
                whose = inl (claimed-id call.ask c.id c.mask (note_on earlier place) ∙ own-claim c);
              }

          -- it is a later one
          module _ (gives : GivesNothing steps (calls_at script later host)) (s : Asked later (calls_at script later host) grant) (i : IsIn x own_calls) (before : Asked earlier own_calls grant → Noted earlier h.hand.id grant.seized) where
            as-earlier : (cell_at script later row place ≡ cell_at script earlier row place) → ((bay_at script place later).life ≡ (bay_at script place earlier).life) → Asked earlier own_calls grant
            as-earlier cell life = record {
              among_them = i;
              not_put = λ j. s.not_put (subst (λ (xs : List Call). IsIn (slot_on row place) (past_of xs).put) (sym g.calls) (put-more call own_calls (slot_on row place) j));
              cell = subst (λ (o : Option Cell). IsSome o) cell s.cell;
              life = s.life ∙ life;
            }

            went-noted : Turned (bay_at script place earlier) place row call (bay_at script place later) → Noted later h.hand.id grant.seized
            went-noted (Same note cell empty life other) = noted-kept grant.seized note (before (as-earlier cell life))
            went-noted (Taken c) =
                let noted = before (as-earlier c.cell c.life) in
                record {
                  note = claimed_note call.ask c.id c.mask (Some noted.note);
                  stands = c.note ∙ ap (λ (o : Option Note). Some (claimed_note call.ask c.id c.mask o)) noted.stands;
                  origin = noted.origin;
                  whose = inl (own-claim c);
                }
            went-noted (Filled here id n cell what own note there empty life) =
                let put : IsIn (slot_on row place) (after_asking (past_of own_calls) call.bay (Put row id n cell) call.answer.reply).put = inl (ap (slot_on row) here) in
                let now : IsIn (slot_on row place) (past_of (call ∷ own_calls)).put = subst (λ (w : Request). IsIn (slot_on row place) (after_asking (past_of own_calls) call.bay w call.answer.reply).put) (sym what) put in
                absurd (s.not_put (subst (λ (xs : List Call). IsIn (slot_on row place) (past_of xs).put) (sym g.calls) now))
            went-noted (Freed here id n what own note cell empty life) =
                let release : IsRelease call.ask.what = subst IsRelease (sym what) tt in
                absurd (gives.so_far (subst (λ (xs : List Call). Happened (λ (c : Call). IsRelease c.ask.what) xs) (sym g.calls) (inl release)))
            went-noted (Closed was note cell empty life other) = absurd (no-cell (cell_at script later row place) cell s.cell)
            went-noted (Cleared what note cell life) = absurd (no-cell (cell_at script later row place) cell s.cell)
            went-noted (Renewed what was note cell life) = absurd (no-cell (cell_at script later row place) cell s.cell)

    -- the parity was the attempt's before
    module _ (host : HostNo) (steps : Steps Finish) (h : HasHand script later host steps) (x : Call) (among : IsIn x (calls_at script later host)) (claim : IsClaim place row x) (now : HasNote h.hand.id (note_on later parity)) where
      no-note : {X : Type 0} → note_on later parity ≡ None → X
      no-note none = absurd (subst (λ (o : Option Note). HasNote h.hand.id o) none now)

      not-claimed : Claimed (bay_at script parity earlier) parity row call (bay_at script parity later) → CameAs host steps h → ⊥
      not-claimed c came = by came
        where
          named : c.id ≡ h.hand.id
          named = sym (claimed-id call.ask c.id c.mask (note_on earlier parity)) ∙ subst (λ (o : Option Note). HasNote h.hand.id o) c.note now

          what : IsClaim parity row call
          what = (c.place, c.id, c.how, c.mask, c.want, c.what)

          earlier-claim : (g : Goes script is earlier call along.0 along.1 host h.hand.id h.hand.task (calls_at script later host)) → IsIn x (calls_at script earlier host) → ⊥
          earlier-claim g i =
              let q : Progress = progress_at script host earlier in
              let first : IsIn (slot_on row parity) (past_of q.calls).claimed =
              parity-first script is host place row places-differ q.jobs q.row q.seen q.calls g.steps g.before.hand (claim-in place row q.calls x i claim) in
              claims-new script is once kinds host q.jobs q.row q.seen q.calls g.steps g.before.hand call parity row g.asked what first

          by : CameAs host steps h → ⊥
          by (Stayed st) = other-id script is earlier call along host h.hand.id st.other h.hand.own (ap (λ (w : Request). id_of w) c.what ∙ ap (λ (n : Number). Some n) named)
          by (Begun own bare) = subst (λ (xs : List Call). IsIn x xs) bare among
          by (Went g) = on (subst (λ (xs : List Call). IsIn x xs) g.calls among)
            where
              on : (call ≡ x) ⊎ IsIn x (calls_at script earlier host) → ⊥
              on (inl same) = places-differ (sym claim.0 ∙ ap (λ (y : Call). y.bay) (sym same) ∙ c.place)
              on (inr i) = earlier-claim g i

      parity-before : Turned (bay_at script parity earlier) parity row call (bay_at script parity later) → CameAs host steps h → HasNote h.hand.id (note_on earlier parity)
      parity-before (Same note cell empty life other) came = subst (λ (o : Option Note). HasNote h.hand.id o) note now
      parity-before (Taken c) came = absurd (not-claimed c came)
      parity-before (Filled here id n cell what own note there empty life) came = no-note note
      parity-before (Freed here id n what own note cell empty life) came = no-note note
      parity-before (Closed was note cell empty life other) came = no-note note
      parity-before (Cleared what note cell life) came = no-note note
      parity-before (Renewed what was note cell life) came = no-note note

  -- Every history
  abbrev Holds : List Call → Type 0
  Holds history = (host : HostNo) (steps : Steps Finish) (h : HasHand script history host steps) → GivesNothing steps (calls_at script history host) → HasNote h.hand.id (note_on history parity) →
      (x : Call) (grant : Grant) → IsIn x (calls_at script history host) → IsClaim place row x → grant_of x.answer.reply ≡ Some grant →
      (IsIn (slot_on row place) (past_of (calls_at script history host)).put → ⊥) → IsSome (cell_at script history row place) → grant.life ≡ (bay_at script place history).life →
      Noted history h.hand.id grant.seized

  holds-first : Holds []
  holds-first host steps h gives parity_held x grant among claim granted not_put cell life = absurd (subst (λ (xs : List Call). IsIn x xs) (none-first script is host) among)

  holds-next : (earlier : List Call) (call : Call) (along : IsHistory script (call ∷ earlier)) → Holds earlier → Holds (call ∷ earlier)
  holds-next earlier call along rest host steps h gives parity_held x grant among claim granted not_put cell life = by (came-as earlier call along host steps h)
    where
      later : List Call
      later = call ∷ earlier

      holds : HasNote h.hand.id (note_on earlier parity)
      holds = parity-before earlier call along host steps h x among claim parity_held (turned script is parity row below earlier call along.1) (came-as earlier call along host steps h)

      by : CameAs earlier call along host steps h → Noted (call ∷ earlier) h.hand.id grant.seized
      by (Begun own bare) = absurd (subst (λ (xs : List Call). IsIn x xs) bare among)
      by (Stayed st) =
          stayed-noted earlier call along host steps h x among holds claim grant granted st.other (calls_at script earlier host)
          (record {
            among_them = before_among;
            not_put = λ j. not_put (subst (λ (xs : List Call). IsIn (slot_on row place) (past_of xs).put) (sym st.calls) j);
            cell = cell;
            life = life;
          })
          (λ a. subst (λ (n : Number). Noted earlier n grant.seized) st.same_id
          (rest host steps st.before (subst (λ (xs : List Call). GivesNothing steps xs) st.calls gives) (subst (λ (n : Number). HasNote n (note_on earlier parity)) (sym st.same_id) holds) x grant before_among
          claim granted a.not_put a.cell a.life))
          (found-cell script is place row below earlier along.0 x grant (in-history script is earlier along.0 host steps st.before x before_among) claim granted)
          (turned script is place row below earlier call along.1)
        where
          before_among : IsIn x (calls_at script earlier host)
          before_among = subst (λ (xs : List Call). IsIn x xs) st.calls among
      by (Went g) = on (subst (λ (xs : List Call). IsIn x xs) g.calls among)
        where
          gave : GivesNothing g.steps (calls_at script earlier host)
          gave = record {
            so_far = λ happened. gives.so_far (subst (λ (xs : List Call). Happened (λ (c : Call). IsRelease c.ask.what) xs) (sym g.calls) (inr happened));
            next = λ errand is_next release.
                let both : Some errand ≡ Some (errand_of call) = sym is_next ∙ g.asked in
                let same : errand ≡ errand_of call = cc in
                gives.so_far (subst (λ (xs : List Call). Happened (λ (c : Call). IsRelease c.ask.what) xs) (sym g.calls) (inl (subst (λ (e : Errand). IsRelease e.request) same release)));
          }

          on : (call ≡ x) ⊎ IsIn x (calls_at script earlier host) → Noted (call ∷ earlier) h.hand.id grant.seized
          on (inl same) = claimed-noted earlier call along host steps h x among holds claim grant granted g same
          on (inr i) =
              went-noted earlier call along host steps h x among holds claim grant granted g gives
              (record { among_them = among; not_put = not_put; cell = cell; life = life }) i
              (λ a. subst (λ (n : Number). Noted earlier n grant.seized) g.same_id
              (rest host g.steps g.before gave (subst (λ (n : Number). HasNote n (note_on earlier parity)) (sym g.same_id) holds) x grant i claim granted a.not_put a.cell a.life))
              (turned script is place row below earlier call along.1)

  holders-keep : (history : List Call) → IsHistory script history → Holds history
  holders-keep [] along = holds-first
  holders-keep (call ∷ earlier) along = holds-next earlier call along (holders-keep earlier along.0)

pub holders-keep-notes : AttemptsAskOnce → ClaimsAreOfTheirKind → BlankNotesMend → HoldersKeepNotes
holders-keep-notes once kinds blank script history is along host steps h gives row unit below within holds call grant among claim granted not_put cell life =
    let noted = holders-keep script is once kinds blank row unit below within history along host steps h gives holds call grant among claim granted not_put cell life in
    (noted.note, noted.stands, noted.origin, by noted.whose)
  where
    by : {note : Note} → (note.id ≡ h.hand.id) ⊎ Opened script is once kinds blank row unit below within history note → (note.id ≡ h.hand.id) ⊎ IsOfOpenRecovery script history row note
    by (inl own) = inl own
    by (inr o) = inr o.recovery
