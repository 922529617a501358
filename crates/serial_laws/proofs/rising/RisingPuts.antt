-- Of an attempt in hand: its calls have its id, it puts a slot once and no slot that was missing, and what it puts has a number
-- above what it was shown.
use Rattle.std.proofs.Common.{◌≡◌, ◌⊎◌, inl, inr, refl, sym, ap, subst, ◌∙◌, ◌<◌, true, false, List, [], ◌∷◌, Option, Some, None, IsSome, arith, ◌≤◌}
use Rattle.raid_base.specs.declared.numbers.BayNo.{BayNo}
use Rattle.raid_base.specs.declared.numbers.HostNo.{HostNo}
use Rattle.raid_base.specs.declared.numbers.RowNo.{RowNo}
use Rattle.raid_base.specs.declared.numbers.Number.{Number}
use Rattle.raid_base.specs.declared.cells.Cell.{Cell}
use Rattle.raid_base.specs.declared.messages.Call.{Call}
use Rattle.raid_base.specs.declared.messages.Grant.{Grant}
use Rattle.raid_base.specs.declared.messages.How.TheVariants.{Plain}
use Rattle.raid_base.specs.declared.messages.Mode.TheVariants.{Order}
use Rattle.raid_base.specs.declared.messages.Reply.{Reply}
use Rattle.raid_base.specs.declared.messages.Reply.TheVariants.{Missing, NoNote, Done}
use Rattle.raid_base.specs.declared.messages.Request.{Request}
use Rattle.raid_base.specs.declared.messages.Request.TheVariants.{Share, Claim, Confirm, Put, Release, Lose, Fit}
use Rattle.raid_base.specs.Replies.{grant_of}
use Rattle.raid_base.specs.Steps.{Steps, next_errand, errand_of}
use Rattle.attempts.specs.Taking.{Finish}
use Rattle.attempts.specs.Numbering.{ShowsNumber}
use Rattle.attempts.specs.Phases.{Slot, IsIn, MayAsk, grants, after_asking, Past}
use Rattle.script_text.specs.Script.{Script}
use Rattle.script_text.specs.Ranges.{IsScript}
use Rattle.histories.specs.Calls.{Happened, id_of, IsClaim, IsPut, IsDone}
use Rattle.histories.specs.Torn.{IsMissing}
use Rattle.histories.specs.Hands.{InHand, Phased, past_of}
use Rattle.histories.specs.Progress.{Progress}
use Rattle.histories.specs.History.{progress_at}
use Rattle.histories.proofs.hands.PhasedHands.{phased}
use Rattle.row_laws.specs.Hands.{HasHand, calls_at}
use Rattle.row_laws.proofs.hands.HandClaims.{kind_of, Before, before-last, made-one, put-granted}
use Rattle.row_laws.proofs.hands.HandMoves.{may-id, may-next}
use Rattle.row_laws.proofs.holders.HolderNotesHands.{put-more}
use Rattle.row_laws.proofs.owners.OwnedPuts.{all-in}
use Rattle.row_laws.proofs.owners.RowOwnersHands.{happened-in}
use Rattle.row_laws.proofs.numbers.RisenDraws.{Numbered, IsNumber, Own, Drawn, numbered, number-least}

-- a slot that was granted was granted to a claim
granted-told : (at : BayNo) (row : RowNo) (calls : List Call) → IsIn (record { bay = at; row = row }) (past_of calls).granted → Happened (λ c. IsClaim at row c × IsSome (grant_of c.answer.reply)) calls
granted-told at row [] i = absurd i
granted-told at row (call ∷ calls) i = by call.ask.what refl i (λ j. granted-told at row calls j)
  where
    Told : Type 0
    Told = Happened (λ c. IsClaim at row c × IsSome (grant_of c.answer.reply)) (call ∷ calls)

    claimed : (r : RowNo) (o : Option Grant) → grant_of call.answer.reply ≡ o → (call.bay ≡ at → r ≡ row → IsClaim at row call) → IsIn (record { bay = at; row = row }) (grants o (record { bay = call.bay; row = r }) (past_of calls).granted) →
        (IsIn (record { bay = at; row = row }) (past_of calls).granted → Happened (λ c. IsClaim at row c × IsSome (grant_of c.answer.reply)) calls) → Told
    claimed r None e make i rest = inr (rest i)
    claimed r (Some grant) e make (inl same) rest =
        inl (make (ap (λ (s : Slot). s.bay) same) (ap (λ (s : Slot). s.row) same), subst (λ (o : Option Grant). IsSome o) (sym e) refl)
    claimed r (Some grant) e make (inr j) rest = inr (rest j)

    by : (what : Request) → call.ask.what ≡ what → IsIn (record { bay = at; row = row }) (after_asking (past_of calls) call.bay what call.answer.reply).granted →
        (IsIn (record { bay = at; row = row }) (past_of calls).granted → Happened (λ c. IsClaim at row c × IsSome (grant_of c.answer.reply)) calls) → Told
    by (Share r id want) e i rest = inr (rest i)
    by (Claim r id how mask want) e i rest =
        claimed r (grant_of call.answer.reply) refl (λ place here. (place, id, how, mask, want, e ∙ ap (λ (x : RowNo). Claim x id how mask want) here)) i rest
    by (Confirm r id want) e i rest = inr (rest i)
    by (Put r id n cell) e i rest = inr (rest i)
    by (Release r id n) e i rest = inr (rest i)
    by Lose e i rest = inr (rest i)
    by Fit e i rest = inr (rest i)

-- a put is among those of the calls
put-there : (at : BayNo) (row : RowNo) (id : Number) (calls : List Call) → Happened (IsPut at row id) calls → IsIn (record { bay = at; row = row }) (past_of calls).put
put-there at row id [] h = absurd h
put-there at row id (call ∷ calls) (inl (place, n, cell, what)) =
    subst (λ (w : Request). IsIn (record { bay = at; row = row }) (after_asking (past_of calls) call.bay w call.answer.reply).put) (sym what) (inl (ap (λ (b : BayNo). record { bay = b; row = row }) place))
put-there at row id (call ∷ calls) (inr h) = put-more call calls (record { bay = at; row = row }) (put-there at row id calls h)

put-of : (Q : Call → Type 0) (at : BayNo) (row : RowNo) (id : Number) (calls : List Call) → Happened (λ c. IsPut at row id c × Q c) calls → Happened (IsPut at row id) calls
put-of Q at row id [] h = h
put-of Q at row id (c ∷ calls) (inl h) = inl h.0
put-of Q at row id (c ∷ calls) (inr h) = inr (put-of Q at row id calls h)

module _ (script : Script) (is : IsScript script) (host : HostNo) (p : Progress) where
  calls-named-in : (seen : Number) (calls : List Call) (steps : Steps Finish) → (h : InHand script host p.jobs p.row seen calls steps) → (c : Call) → IsIn c calls → id_of c.ask.what ≡ Some h.id
  calls-named-in seen [] steps h c i = absurd i
  calls-named-in seen (call ∷ earlier) steps h c i =
      let b : Before script is host p earlier call h.id h.task = before-last script is host p seen call earlier steps h in
      by b i (λ j. calls-named-in b.seen earlier b.steps b.hand c j)
    where
      by : (b : Before script is host p earlier call h.id h.task) → (call ≡ c) ⊎ IsIn c earlier → (IsIn c earlier → id_of c.ask.what ≡ Some b.hand.id) → id_of c.ask.what ≡ Some h.id
      by b (inr j) rest = rest j ∙ ap (λ (x : Number). Some x) b.same_id
      by b (inl same) rest =
          let f : Phased script.n b.hand.id earlier b.steps = phased script is host (record p { seen = b.seen; calls = earlier }) b.steps b.hand in
          subst (λ (x : Call). id_of x.ask.what ≡ Some h.id) same
          (may-id script.n b.hand.id f.past call.bay call.ask.what (may-next script.n b.hand.id f.past b.steps (errand_of call) f.keeps b.asked) ∙ ap (λ (x : Number). Some x) b.same_id)

  -- a slot is put once
  put-new : (seen : Number) (call : Call) (earlier : List Call) (steps : Steps Finish) → InHand script host p.jobs p.row seen (call ∷ earlier) steps → (at : BayNo) (row : RowNo) (id other : Number) → IsPut at row id call →
      Happened (IsPut at row other) earlier → ⊥
  put-new seen call earlier steps h at row id other (place, n, cell, what) old =
      let b : Before script is host p earlier call h.id h.task = before-last script is host p seen call earlier steps h in
      let f : Phased script.n b.hand.id earlier b.steps = phased script is host (record p { seen = b.seen; calls = earlier }) b.steps b.hand in
      let may : MayAsk script.n b.hand.id f.past call.bay call.ask.what = may-next script.n b.hand.id f.past b.steps (errand_of call) f.keeps b.asked in
      let put : MayAsk script.n b.hand.id f.past at (Put row id n cell) =
      subst (λ (y : BayNo). MayAsk script.n b.hand.id f.past y (Put row id n cell)) place (subst (λ (w : Request). MayAsk script.n b.hand.id f.past call.bay w) what may) in
      put.3.once (subst (λ (slots : List Slot). IsIn (record { bay = at; row = row }) slots) (sym f.same.put) (put-there at row other earlier old))

  -- with one reply
  puts-once-in : (seen : Number) (calls : List Call) (steps : Steps Finish) → InHand script host p.jobs p.row seen calls steps → (at : BayNo) (row : RowNo) (id other : Number) (life : _) →
      Happened (λ c. IsPut at row id c × IsDone c) calls → Happened (λ c. IsPut at row other c × (c.answer.reply ≡ NoNote life)) calls → ⊥
  puts-once-in seen [] steps h at row id other life done gone = absurd done
  puts-once-in seen (call ∷ earlier) steps h at row id other life (inl (put, done)) (inl (again, gone)) = absurd (let bad : Done ≡ NoNote life = sym done ∙ gone in cc)
  puts-once-in seen (call ∷ earlier) steps h at row id other life (inl (put, done)) (inr old) =
      put-new seen call earlier steps h at row id other put (put-of (λ c. c.answer.reply ≡ NoNote life) at row other earlier old)
  puts-once-in seen (call ∷ earlier) steps h at row id other life (inr old) (inl (put, gone)) = put-new seen call earlier steps h at row other id put (put-of IsDone at row id earlier old)
  puts-once-in seen (call ∷ earlier) steps h at row id other life (inr done) (inr gone) =
      let b : Before script is host p earlier call h.id h.task = before-last script is host p seen call earlier steps h in
      puts-once-in b.seen earlier b.steps b.hand at row id other life done gone

module _ (script : Script) (is : IsScript script) (history : List Call) (host : HostNo) (steps : Steps Finish) (h : HasHand script history host steps) where
  abbrev Now : Progress
  Now = progress_at script host history

  pub calls-named : (c : Call) → IsIn c (calls_at script history host) → id_of c.ask.what ≡ Some h.hand.id
  calls-named = calls-named-in script is host Now (Now).seen (Now).calls steps h.hand

  pub puts-once : (at : BayNo) (row : RowNo) (id other : Number) (life : _) → Happened (λ c. IsPut at row id c × IsDone c) (calls_at script history host) →
      Happened (λ c. IsPut at row other c × (c.answer.reply ≡ NoNote life)) (calls_at script history host) → ⊥
  puts-once = puts-once-in script is host Now (Now).seen (Now).calls steps h.hand

  -- what was missing to its claim it does not put
  pub missing-unput : (at : BayNo) (row : RowNo) (id : Number) (c : Call) → IsIn c (calls_at script history host) → IsClaim at row c → IsMissing c → Happened (λ x. IsPut at row id x × IsDone x) (calls_at script history host) → ⊥
  missing-unput at row id c i claim (floor, said) put =
      let granted = granted-told at row (calls_at script history host) (put-granted script is host Now steps h.hand at row id (put-of IsDone at row id (calls_at script history host) put)) in
      let d = happened-in (calls_at script history host) granted in
      let same : c ≡ d.0 = made-one script is history host steps h at row c d.0 i d.1 (inr claim) (inr d.2.0) in
      let some : IsSome (grant_of c.answer.reply) = subst (λ (x : Call). IsSome (grant_of x.answer.reply)) (sym same) d.2.1 in
      let none : IsSome (grant_of (Missing floor)) = subst (λ (r : Reply). IsSome (grant_of r)) said some in
      absurd (let bad : false ≡ true = none in cc)

  -- what it puts next has a number that is its id, or is above that and above what it was shown
  put-numbered : (call : Call) → next_errand steps ≡ Some (errand_of call) → (row : RowNo) (id n : Number) (cell : Cell) → call.ask.what ≡ Put row id n cell →
      (past : Past) × IsNumber h.hand.id script.mode (kind_of h.hand.task) past (Now).calls n
  put-numbered call asked row id n cell what =
      let x : Numbered script.n h.hand.id script.mode (kind_of h.hand.task) host (Now).calls (record { seen = (Now).seen; steps = steps }) = numbered script is host Now steps h.hand in
      let may : MayAsk script.n h.hand.id x.past call.bay (Put row id n cell) =
      subst (λ (w : Request). MayAsk script.n h.hand.id x.past call.bay w) what (may-next script.n h.hand.id x.past steps (errand_of call) x.keeps asked) in
      (x.past, (x.number n may.2).is)

  pub id-least : (call : Call) → next_errand steps ≡ Some (errand_of call) → (row : RowNo) (id n : Number) (cell : Cell) → call.ask.what ≡ Put row id n cell → h.hand.id.0 ≤ n.0
  id-least call asked row id n cell what = number-least (put-numbered call asked row id n cell what).1

  pub number-above : (call : Call) → next_errand steps ≡ Some (errand_of call) → (row : RowNo) (id n : Number) (cell : Cell) → call.ask.what ≡ Put row id n cell → (c : Call) → IsIn c (calls_at script history host) →
      (k : Number) → ShowsNumber c.answer.reply k → (script.mode ≡ Order → kind_of h.hand.task ≡ Plain → k.0 < h.hand.id.0) → k.0 < n.0
  number-above call asked row id n cell what c i k shown late = let x = put-numbered call asked row id n cell what in by x.0 x.1
    where
      by : (past : Past) → IsNumber h.hand.id script.mode (kind_of h.hand.task) past (Now).calls n → k.0 < n.0
      by past (Own same order plain) = let less = late order plain in let one : n.0 ≡ h.hand.id.0 = ap (λ (y : Number). y.0) same in omega (arith, less, one)
      by past (Drawn later above all) = all-in (λ (y : Call). (m : Number) → ShowsNumber y.answer.reply m → m.0 < n.0) c (Now).calls all i k shown
