-- The puts of an attempt in hand have one number.
use Rattle.std.proofs.Common.{◌≡◌, ℕ, List, [], ◌∷◌, Option, Some, None, Result, Ok, Err, refl, sym, subst, ◌∙◌}
use Rattle.std.specs.List.{AllByRecursion}
use Rattle.raid_base.specs.declared.numbers.HostNo.{HostNo}
use Rattle.raid_base.specs.declared.numbers.RowNo.{RowNo}
use Rattle.raid_base.specs.declared.numbers.Number.{Number}
use Rattle.raid_base.specs.declared.numbers.Spent.{Spent}
use Rattle.raid_base.specs.declared.cells.Cell.{Cell}
use Rattle.raid_base.specs.declared.messages.Call.{Call}
use Rattle.raid_base.specs.declared.messages.Errand.{Errand}
use Rattle.raid_base.specs.declared.messages.Reply.{Reply}
use Rattle.raid_base.specs.declared.messages.Request.{Request}
use Rattle.raid_base.specs.declared.messages.Request.TheVariants.{Put}
use Rattle.raid_base.specs.Numbers.{draw, seen_drawn, sees}
use Rattle.raid_base.specs.Steps.{Steps, Asks, Draws, Ends, Standing, settled, told, next_errand, errand_of}
use Rattle.attempts.specs.Taking.{Finish}
use Rattle.attempts.specs.Phases.{Past, IsIn, after, after_number, MayAsk, Keeps}
use Rattle.script_text.specs.Script.{Script}
use Rattle.script_text.specs.Ranges.{IsScript}
use Rattle.histories.specs.Hands.{Led, InHand, Phased, Any}
use Rattle.histories.specs.Progress.{Progress, attempt}
use Rattle.histories.specs.History.{progress_at}
use Rattle.histories.proofs.hands.PhasedHands.{phased}
use Rattle.row_laws.specs.Hands.{HasHand, calls_at}
use Rattle.row_laws.proofs.hands.HandMoves.{may-next}
use Rattle.row_laws.proofs.owners.OwnedPuts.{all-in}
use Rattle.row_laws.proofs.numbers.RisenDraws.{number-kept}

-- a put of the call has this number
abbrev PutsWith : Option Number → Call → Type 0
PutsWith o call = (row : RowNo) (id k : Number) (cell : Cell) → call.ask.what ≡ Put row id k cell → o ≡ Some k

-- without a number there was no put
none-with : (later : Option Number) (calls : List Call) → AllByRecursion (PutsWith None) calls → AllByRecursion (PutsWith later) calls
none-with later [] h = tt
none-with later (call ∷ calls) h = (λ row id k cell is. absurd (let bad : None ≡ Some k = h.0 row id k cell is in cc), none-with later calls h.1)

-- What is so of an attempt where it stands after its calls
record OneNumber (n : ℕ) (id : Number) (calls : List Call) (now : Standing Finish) : Type 0 where
  past : Past
  keeps : Keeps n id Any past now.steps
  alike : AllByRecursion (PutsWith past.number) calls

module _ (n : ℕ) (id : Number) (host : HostNo) where
  abbrev Stands : List Call → Number → Steps Finish → Type 0
  Stands calls seen s = OneNumber n id calls (record { seen = seen; steps = s })

  draws-one : (calls : List Call) (seen : Number) (k : Result Number Spent → Steps Finish) (d : Result Number Spent) → Stands calls seen (Draws k) → Stands calls (seen_drawn seen d) (k d)
  draws-one calls seen k (Ok m) h = record {
    past = after_number h.past (Ok m);
    keeps = h.keeps.2 (Ok m);
    alike = none-with (Some m) calls (subst (λ (o : Option Number). AllByRecursion (PutsWith o) calls) h.keeps.0 h.alike);
  }
  draws-one calls seen k (Err spent) h = record { past = after_number h.past (Err spent); keeps = h.keeps.2 (Err spent); alike = h.alike }

  settled-one : (calls : List Call) (seen : Number) (s : Steps Finish) → Stands calls seen s → OneNumber n id calls (settled host seen s)
  settled-one calls seen (Asks e t c k) h = h
  settled-one calls seen (Draws k) h = settled-one calls (seen_drawn seen (draw host seen)) (k (draw host seen)) (draws-one calls seen k (draw host seen) h)
  settled-one calls seen (Ends f) h = h

  told-one : (calls : List Call) (seen : Number) (call : Call) (s : Steps Finish) → Stands calls seen s → next_errand s ≡ Some (errand_of call) →
      OneNumber n id (call ∷ calls) (told host (record { seen = seen; steps = s }) call.answer.reply)
  told-one calls seen call (Asks e t c k) h asked =
      let is : e ≡ errand_of call = cc in
      let r : Reply = call.answer.reply in
      let may : MayAsk n id h.past call.bay call.ask.what = may-next n id h.past (Asks e t c k) (errand_of call) h.keeps asked in
      settled-one (call ∷ calls) (sees seen r) (k r)
      (record {
        past = after h.past (errand_of call) r;
        keeps = subst (λ (x : Errand). Keeps n id Any (after h.past x r) (k r)) is (h.keeps.1 r);
        alike = subst (λ (o : Option Number). AllByRecursion (PutsWith o) (call ∷ calls)) (sym (number-kept h.past call.bay call.ask.what r))
            (λ row by m cell put. (now row by m cell (subst (λ (w : Request). MayAsk n id h.past call.bay w) put may)), h.alike);
      })
    where
      now : (row : RowNo) (by m : Number) (cell : Cell) → MayAsk n id h.past call.bay (Put row by m cell) → h.past.number ≡ Some m
      now row by m cell may = may.2
  told-one calls seen call (Draws k) h asked = absurd (cc)
  told-one calls seen call (Ends f) h asked = absurd (cc)

  led-one : (start : Standing Finish) (calls : List Call) (now : Standing Finish) → OneNumber n id [] start → Led host start calls now → OneNumber n id calls now
  led-one start [] now h led = subst (λ (x : Standing Finish). OneNumber n id [] x) led h
  led-one start (call ∷ earlier) now h (before, led, asked, fit, later) =
      subst (λ (x : Standing Finish). OneNumber n id (call ∷ earlier) x) later (told-one earlier before.seen call before.steps (led-one start earlier before h led) asked)

module _ (script : Script) (is : IsScript script) (host : HostNo) (p : Progress) (steps : Steps Finish) (h : InHand script host p.jobs p.row p.seen p.calls steps) where
  abbrev Start : Standing Finish
  Start = settled host h.id (attempt script host h.id p.row h.task)

  begins-one : OneNumber script.n h.id [] (Start)
  begins-one =
      let first : InHand script host p.jobs p.row (Start).seen [] (Start).steps =
      record { task = h.task; first = h.first; is = h.is; tried = h.tried; id = h.id; own = h.own; least = h.least; most = h.most; led = refl } in
      let f : Phased script.n h.id [] (Start).steps = phased script is host (record p { seen = (Start).seen; calls = [] }) (Start).steps first in
      record { past = f.past; keeps = f.keeps; alike = tt }

  one-number : OneNumber script.n h.id p.calls (record { seen = p.seen; steps = steps })
  one-number = led-one script.n h.id host (Start) p.calls (record { seen = p.seen; steps = steps }) begins-one h.led

-- An attempt in hand that is about to put
module _ (script : Script) (is : IsScript script) (history : List Call) (host : HostNo) (steps : Steps Finish) (h : HasHand script history host steps) (call : Call) (asked : next_errand steps ≡ Some (errand_of call))
    (row : RowNo) (id n : Number) (cell : Cell) (what : call.ask.what ≡ Put row id n cell) where
  abbrev Now : Progress
  Now = progress_at script host history

  -- has put with the same number
  pub puts-alike : (c : Call) → IsIn c (calls_at script history host) → (at : RowNo) (by k : Number) (other : Cell) → c.ask.what ≡ Put at by k other → k ≡ n
  puts-alike c i at by k other put =
      let x : OneNumber script.n h.hand.id (Now).calls (record { seen = (Now).seen; steps = steps }) = one-number script is host (Now) steps h.hand in
      let may : MayAsk script.n h.hand.id x.past call.bay (Put row id n cell) =
      subst (λ (w : Request). MayAsk script.n h.hand.id x.past call.bay w) what (may-next script.n h.hand.id x.past steps (errand_of call) x.keeps asked) in
      let now : x.past.number ≡ Some n = may.2 in
      let then_was : x.past.number ≡ Some k = all-in (PutsWith x.past.number) c (Now).calls x.alike i at by k other put in
      let both : Some k ≡ Some n = sym then_was ∙ now in
      cc
