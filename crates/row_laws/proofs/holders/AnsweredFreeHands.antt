-- The calls of an attempt in hand have its id, and claim the parity of a row before its units.
use Rattle.std.proofs.Common.{◌≡◌, ◌⊎◌, inl, inr, sym, subst, ◌∙◌, ℕ, ◌+◌, ◌<◌, Bool, List, [], ◌∷◌, Some, arith}
use Rattle.std.specs.List.{AllByRecursion}
use Rattle.raid_base.specs.declared.numbers.BayNo.{BayNo}
use Rattle.raid_base.specs.declared.numbers.HostNo.{HostNo}
use Rattle.raid_base.specs.declared.numbers.RowNo.{RowNo}
use Rattle.raid_base.specs.declared.numbers.Number.{Number}
use Rattle.raid_base.specs.declared.messages.How.{How}
use Rattle.raid_base.specs.declared.messages.Request.{Request}
use Rattle.raid_base.specs.declared.messages.Request.TheVariants.{Claim}
use Rattle.raid_base.specs.declared.messages.Call.{Call}
use Rattle.raid_base.specs.Steps.{Steps, Standing, settled, errand_of}
use Rattle.stripe_layout.specs.Placement.{parity_bay, bay_of}
use Rattle.stripe_layout.proofs.LayoutLemmas.{unit_apart}
use Rattle.attempts.specs.Taking.{Finish}
use Rattle.attempts.specs.Phases.{Slot, Past, IsIn, MayAsk, parity_slot}
use Rattle.script_text.specs.Script.{Script}
use Rattle.script_text.specs.Ranges.{IsScript}
use Rattle.histories.specs.Calls.{Happened, IsClaim, id_of}
use Rattle.histories.specs.Progress.{Progress, attempt}
use Rattle.histories.specs.Hands.{InHand, Led, Phased, past_of}
use Rattle.histories.proofs.hands.PhasedHands.{phased}
use Rattle.row_laws.proofs.hands.HandMoves.{may-id, may-next}
use Rattle.row_laws.proofs.holders.HolderNotesHands.{asked-claimed}

module _ (script : Script) (is : IsScript script) (host : HostNo) (p : Progress) (steps : Steps Finish) (h : InHand script host p.jobs p.row p.seen p.calls steps) where
  abbrev pub start : Standing Finish
  start = settled host h.id (attempt script host h.id p.row h.task)

  earlier-phased : (calls : List Call) (s : Standing Finish) → Led host start calls s → Phased script.n h.id calls s.steps
  earlier-phased calls s led =
      phased script is host (record p { seen = s.seen; calls = calls }) s.steps
      (record { task = h.task; first = h.first; is = h.is; tried = h.tried; id = h.id; own = h.own; least = h.least; most = h.most; led = led })

  -- all its calls have its id
  pub own-ids : (calls : List Call) (now : Standing Finish) → Led host start calls now → AllByRecursion (λ (call : Call). id_of call.ask.what ≡ Some h.id) calls
  own-ids [] now led = tt
  own-ids (call ∷ earlier) now (before, led, asked, fit, later) =
      let f : Phased script.n h.id earlier before.steps = earlier-phased earlier before led in
      (may-id script.n h.id f.past call.bay call.ask.what (may-next script.n h.id f.past before.steps (errand_of call) f.keeps asked), own-ids earlier before led)

  -- The parity is claimed before a unit
  module _ (row : RowNo) (unit : ℕ) (within : unit + 1 < script.n) where
    abbrev unit_bay : BayNo
    unit_bay = bay_of script.n row unit

    abbrev parity : Slot
    parity = parity_slot script.n row

    claimed-there : (past : Past) (bay : BayNo) (id : Number) (how : How) (mask : ℕ) (want : Bool) (what : Request) → bay ≡ unit_bay → what ≡ Claim row id how mask want →
        MayAsk script.n h.id past bay what → IsIn parity past.claimed
    claimed-there past bay id how mask want what place same may = by (subst (λ (w : Request). MayAsk script.n h.id past bay w) same may).2
      where
        by : (bay ≡ parity_bay script.n row) ⊎ IsIn parity past.claimed → IsIn parity past.claimed
        by (inl at) = absurd (let least = is.devices_least in unit_apart script.n row unit least (omega (arith, within)) (sym place ∙ at))
        by (inr claimed) = claimed

    pub parity-claimed : (calls : List Call) (now : Standing Finish) → Led host start calls now → Happened (IsClaim unit_bay row) calls → IsIn parity (past_of calls).claimed
    parity-claimed [] now led none = absurd none
    parity-claimed (call ∷ earlier) now (before, led, asked, fit, later) (inl (place, id, how, mask, want, what)) =
        let f : Phased script.n h.id earlier before.steps = earlier-phased earlier before led in
        asked-claimed (past_of earlier) call.bay call.ask.what call.answer.reply parity
        (subst (λ (slots : List Slot). IsIn parity slots) f.same.claimed
        (claimed-there f.past call.bay id how mask want call.ask.what place what (may-next script.n h.id f.past before.steps (errand_of call) f.keeps asked)))
    parity-claimed (call ∷ earlier) now (before, led, asked, fit, later) (inr happened) =
        asked-claimed (past_of earlier) call.bay call.ask.what call.answer.reply parity (parity-claimed earlier before led happened)
