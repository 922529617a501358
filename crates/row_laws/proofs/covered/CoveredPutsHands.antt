-- The attempt that puts a unit for a write, and the one that gives back a parity whose note came from that write.
use Rattle.std.proofs.Common.{◌≡◌, ◌⊎◌, inl, inr, refl, sym, ap, subst, ◌∙◌, ℕ, ◌+◌, ◌-◌, ◌/◌, ◌^◌, ◌<◌, ◌==◌, bit_and, true, false, List, [], ◌∷◌, Option, Some, arith}
use Rattle.std.proofs.Math.Nat.{zero-div}
use Rattle.raid_base.specs.declared.numbers.BayNo.{BayNo}
use Rattle.raid_base.specs.declared.numbers.HostNo.{HostNo}
use Rattle.raid_base.specs.declared.numbers.RowNo.{RowNo}
use Rattle.raid_base.specs.declared.numbers.Number.{Number}
use Rattle.raid_base.specs.declared.names.Name.{Name}
use Rattle.raid_base.specs.declared.cells.Cell.{Cell}
use Rattle.raid_base.specs.declared.messages.How.TheVariants.{Plain}
use Rattle.raid_base.specs.declared.messages.Note.{Note}
use Rattle.raid_base.specs.declared.messages.Grant.{Grant}
use Rattle.raid_base.specs.declared.messages.Request.{Request}
use Rattle.raid_base.specs.declared.messages.Request.TheVariants.{Put, Release}
use Rattle.raid_base.specs.declared.messages.Call.{Call}
use Rattle.raid_base.specs.declared.messages.Errand.{Errand}
use Rattle.raid_base.specs.declared.jobs.Task.{Task}
use Rattle.raid_base.specs.declared.jobs.Task.TheVariants as tasks
use Rattle.raid_base.specs.Cells.{has_unit}
use Rattle.raid_base.specs.Replies.{grant_of}
use Rattle.raid_base.specs.Steps.{Steps, Standing, settled, next_errand, errand_of}
use Rattle.stripe_layout.specs.Placement.{parity_bay, bay_of, bays_of}
use Rattle.stripe_layout.proofs.LayoutLemmas.{unit_apart}
use Rattle.attempts.specs.declared.Rescue.{Rescue}
use Rattle.attempts.specs.Taking.{Finish}
use Rattle.attempts.specs.Recovery.{recover_steps}
use Rattle.attempts.specs.Phases.{IsIn}
use Rattle.script_text.specs.Script.{Script, parts_of}
use Rattle.script_text.specs.Ranges.{IsScript}
use Rattle.histories.specs.Calls.{Happened, id_of, IsClaim, IsPut}
use Rattle.histories.specs.Torn.{ShowsLast, IsMissing}
use Rattle.histories.specs.Hands.{Led}
use Rattle.histories.specs.Progress.{Progress, attempt}
use Rattle.histories.specs.History.{IsHistory, progress_at}
use Rattle.row_laws.specs.Hands.{HasHand, calls_at, IsPutter, IsRecoveryOf, IsAnswered}
use Rattle.row_laws.specs.Laws.{IsParityClaim, IsWrite}
use Rattle.row_laws.proofs.hands.HandClaims.{kind_of, made-kind}
use Rattle.row_laws.proofs.owners.RowOwnersTrees.{Asking, next-asking, settled-asking, led-asking, AreAnswered, RecoverAsks, recoveries-ask}
use Rattle.row_laws.proofs.owners.RowOwnersHands.{happened-in, happened-own}
use Rattle.row_laws.proofs.owners.RowOwnersCalls.{some-of, unit-in}
use Rattle.row_laws.proofs.owners.OwnedPuts.{Aims, putter-or}
use Rattle.row_laws.proofs.hands.WriteMasks.{WriteAsks, PutsNothing, HasPutNothing, Asked, led-asked, AskedAfter, asked-one, parts_in, hand-asked, hand-asks, hand-masks}
use Rattle.row_laws.proofs.torn.RecoveryFinds.{HasSeized, FoundSound, FoundWhole, recovery-found}
use Rattle.row_laws.proofs.covered.CoveredPutsSlots.{IsMaskClaim}

-- Tasks by their kinds
pub recovers-alone : (row : RowNo) (task : Task) → IsRecoveryOf row task → IsPutter task → ⊥
recovers-alone row (tasks.Recover at) r p = p
recovers-alone row (tasks.Read object first count) r p = r
recovers-alone row (tasks.Write object first from count) r p = r
recovers-alone row (tasks.Rebuild bay) r p = r
recovers-alone row (tasks.Lose bay) r p = r
recovers-alone row (tasks.Fit bay) r p = r

-- a task that writes
pub record Writes (task : Task) : Type 0 where
  pub object : Name
  pub first : ℕ
  pub from : ℕ
  pub count : ℕ
  pub is : task ≡ tasks.Write object first from count

pub writing : (task : Task) → IsPutter task → Plain ≡ kind_of task → Writes task
writing (tasks.Write object first from count) p e = record { object = object; first = first; from = from; count = count; is = refl }
writing (tasks.Rebuild bay) p e = absurd (cc)
writing (tasks.Read object first count) p e = absurd p
writing (tasks.Recover at) p e = absurd p
writing (tasks.Lose bay) p e = absurd p
writing (tasks.Fit bay) p e = absurd p

-- Small facts
pub in-happened : (P : Call → Type 0) (c : Call) (calls : List Call) → IsIn c calls → P c → Happened P calls
in-happened P c [] i h = absurd i
in-happened P c (first ∷ rest) (inl same) h = inl (subst P (sym same) h)
in-happened P c (first ∷ rest) (inr i) h = inr (in-happened P c rest i h)

nothing-put : (at : BayNo) (row : RowNo) (id : Number) (calls : List Call) → HasPutNothing calls → Happened (IsPut at row id) calls → ⊥
nothing-put at row id [] none h = h
nothing-put at row id (call ∷ calls) none (inl (place, n, cell, what)) = subst PutsNothing what none.0
nothing-put at row id (call ∷ calls) none (inr h) = nothing-put at row id calls none.1 h

pub no-unit : (mask unit : ℕ) → mask ≡ 0 → has_unit mask unit ≡ true → ⊥
no-unit mask unit none has =
    let zero_has : has_unit 0 unit ≡ true = subst (λ (m : ℕ). has_unit m unit ≡ true) none has in
    let part : 0 / 2 ^ unit ≡ 0 = zero-div (2 ^ unit) in
    let bad : false ≡ true = subst (λ (x : ℕ). (bit_and x 1 == 1) ≡ true) part zero_has in
    absurd (cc)

module _ (script : Script) (is : IsScript script) (row : RowNo) (unit : ℕ) (inside : unit + 1 < script.n) (id : Number) where
  abbrev P : BayNo
  P = parity_bay script.n row

  abbrev U : BayNo
  U = bay_of script.n row unit

  pub units-aside : U ≡ P → ⊥
  units-aside same = let least = is.devices_least in absurd (unit_apart script.n row unit least (omega (arith, inside)) same)

  module _ (history : List Call) (along : IsHistory script history) (host : HostNo) (steps : Steps Finish) (h : HasHand script history host steps) (call : Call) (asked : next_errand steps ≡ Some (errand_of call))
      (write : IsWrite script.n row id history) (same : id ≡ h.hand.id) where
    abbrev Calls : List Call
    Calls = calls_at script history host

    abbrev Now : Progress
    Now = progress_at script host history

    own : {Q : Call → Type 0} → ((c : Call) → Q c → id_of c.ask.what ≡ Some id) → Happened Q history → Happened Q Calls
    own {Q} named happened = happened-own script is history along host steps h (errand_of call) asked (λ c q. named c q ∙ ap (λ (x : Number). Some x) same) happened

    -- what puts units with the id of a write is the write
    pub write-task : IsPutter h.hand.task → Writes h.hand.task
    write-task putter =
        let claims : Happened (IsParityClaim script.n row id) Calls = own (λ c q. ap (λ (w : Request). id_of w) q.3) write in
        let found = happened-in Calls claims in
        writing h.hand.task putter (made-kind script is history host steps h found.0 found.1 row id Plain found.2.1 found.2.2 found.2.3).0

    module _ (w : Writes h.hand.task) where
      abbrev Keeping : List Call → Errand → Type 0
      Keeping = WriteAsks script.n (parts_in (parts_of script w.object w.first w.count))

      asks-so : Keeping Calls (errand_of call)
      asks-so = hand-asks script is host (Now).jobs (Now).row (Now).seen Calls steps h.hand w.object w.first w.from w.count w.is (errand_of call) asked

      -- the unit that it puts is one of those with which it claims
      pub put-masked : (mask : ℕ) → Happened (IsMaskClaim P row id mask) history → (n : Number) (cell : Cell) → call.bay ≡ U → call.ask.what ≡ Put row id n cell → has_unit mask unit ≡ true
      put-masked mask claimed n cell place what =
          let claims : Happened (IsMaskClaim P row id mask) Calls = own (λ c q. ap (λ (x : Request). id_of x) q.3) claimed in
          let found = happened-in Calls claims in
          let a : AskedAfter Keeping Calls found.0 = hand-asked script is host (Now).jobs (Now).row (Now).seen Calls steps h.hand w.object w.first w.from w.count w.is found.0 found.1 in
          hand-masks script is host (Now).jobs (Now).row (Now).seen Calls steps h.hand w.object w.first w.from w.count w.is row mask unit
          (a.asks.claims row id found.2.1 mask found.2.2 found.2.3 found.2.0)
          (asks-so.puts row id n cell unit what place inside)

      write-keeps : Happened (IsPut U row id) Calls → (rid : Number) (k : Option Number) → call.ask.what ≡ Release row rid k → call.bay ≡ P → ⊥
      write-keeps puts rid k what place = nothing-put U row id Calls (asks-so.frees row rid k what place) puts

    -- an attempt with its id that has put the unit does not give the parity back
    pub own-keeps : Happened (IsPut U row id) history → (rid : Number) (k : Option Number) → call.ask.what ≡ Release row rid k → call.bay ≡ P → ⊥
    own-keeps put rid k what place = by (putter-or script host h.hand.id (Now).row h.hand.task)
      where
        puts : Happened (IsPut U row id) Calls
        puts = own (λ c q. ap (λ (x : Request). id_of x) q.3) put

        by : IsPutter h.hand.task ⊎ Asking (Aims script.n) [] (attempt script host h.hand.id (Now).row h.hand.task) → ⊥
        by (inl putter) = write-keeps (write-task putter) puts rid k what place
        by (inr aims) =
            let s : Steps Finish = attempt script host h.hand.id (Now).row h.hand.task in
            let now : Standing Finish = record { seen = (Now).seen; steps = steps } in
            let all : Asked (Aims script.n) Calls = led-asked (Aims script.n) host (settled host h.hand.id s) Calls now (settled-asking (Aims script.n) host h.hand.id [] s aims) h.hand.led in
            let found = happened-in Calls puts in
            let a : AskedAfter (Aims script.n) Calls found.0 = asked-one (Aims script.n) Calls all found.0 found.1 in
            units-aside (sym found.2.0 ∙ a.asks row id found.2.1 found.2.2 found.2.3)

  -- A recovery that seized the note
  module _ (history : List Call) (along : IsHistory script history) (host : HostNo) (steps : Steps Finish) (h : HasHand script history host steps) (call : Call) (asked : next_errand steps ≡ Some (errand_of call))
      (rid : Number) (k : Option Number) (what : call.ask.what ≡ Release row rid k) (place : call.bay ≡ P) where
    abbrev Made : List Call
    Made = calls_at script history host

    abbrev RescueOf : RowNo → Rescue
    RescueOf at = record { n = script.n; host = host; id = h.hand.id; row = at }

    abbrev Stand : Standing Finish
    Stand = record { seen = (progress_at script host history).seen; steps = steps }

    recovering : (at : RowNo) → h.hand.task ≡ tasks.Recover at → Led host (settled host h.hand.id (recover_steps (RescueOf at))) Made Stand
    recovering at task = subst (λ (t : Task). Led host (settled host h.hand.id (attempt script host h.hand.id (progress_at script host history).row t)) Made Stand) task h.hand.led

    -- it gives back what is of its row
    pub same-row : (at : RowNo) → h.hand.task ≡ tasks.Recover at → row ≡ at
    same-row at task =
        let r : Rescue = RescueOf at in
        let asks : RecoverAsks r Made (errand_of call) =
        next-asking (RecoverAsks r) Made steps (errand_of call)
        (led-asking (RecoverAsks r) host (settled host h.hand.id (recover_steps r)) Made Stand (settled-asking (RecoverAsks r) host h.hand.id [] (recover_steps r) (recoveries-ask r)) (recovering at task)) asked in
        (asks.frees row rid k what).0

    module _ (was : Note) (seized : HasSeized script.n row was Made) (has : has_unit was.mask unit ≡ true)
        (shown : (c : Call) (g : Grant) → IsIn c Made → IsClaim U row c → grant_of c.answer.reply ≡ Some g → g.last ≡ was.origin) where
      below : unit < script.n - 1
      below = omega (arith, inside)

      answered : AreAnswered script.n row [] Made → (c : Call) × IsIn c Made × IsAnswered U row c
      answered all = by (all U (unit-in script.n row unit 0 (script.n - 1) (omega arith) (omega (arith, inside))))
        where
          by : IsIn U (bays_of script.n row []) ⊎ Happened (IsAnswered U row) Made → (c : Call) × IsIn c Made × IsAnswered U row c
          by (inl i) = absurd i
          by (inr x) = happened-in Made x

      torn : FoundSound script.n row was Made → (c : Call) → IsIn c Made → IsAnswered U row c → ⊥
      torn (inl blank) c i a = no-unit was.mask unit blank has
      torn (inr sound) c i (claim, inr missing) =
          sound.0 unit below has (in-happened (λ x. IsClaim U row x × IsMissing x) c Made i (claim, missing))
      torn (inr sound) c i (claim, inl granted) =
          let g = some-of (grant_of c.answer.reply) granted in
          sound.1 unit below has (in-happened (λ x. IsClaim U row x × ShowsLast was.origin x) c Made i (claim, (g.0, g.1, shown c g.0 i claim g.1)))

      pub recovery-keeps : (at : RowNo) → h.hand.task ≡ tasks.Recover at → ⊥
      recovery-keeps at task = by (recovering row (task ∙ ap (λ (x : RowNo). tasks.Recover x) (sym (same-row at task))))
        where
          by : Led host (settled host h.hand.id (recover_steps (RescueOf row))) Made Stand → ⊥
          by led =
              let whole : FoundWhole (RescueOf row) was Made =
              recovery-found (RescueOf row) host h.hand.id Made Stand (errand_of call) led asked row rid k what place was seized in
              let a = answered whole.answered in
              torn whole.sound a.0 a.1 a.2
