-- A history tells at which places of the journals a store has failed.
use Rattle.std.proofs.Common.{◌≡◌, ◌+◌, ◌<◌, ◌≤◌, Bool, true, false, eqb, ◌&&◌, List, [], ◌∷◌, ◌++◌, length, refl, sym, ap, subst, ◌∙◌, arith, eq-eqb, length-append, append_assoc}
use Rattle.std.proofs.lemmas.Bool.Decides.{nat_tests}
use Rattle.raid_base.specs.declared.numbers.BayNo.{BayNo}
use Rattle.raid_base.specs.declared.messages.Call.{Call}
use Rattle.raid_base.specs.Replies.{is_fault}
use Rattle.script_text.specs.Script.{Script}
use Rattle.histories.specs.History.{faults_in, IsHistory, answered, journal, entry_of}
use Rattle.histories.specs.Played.{Told}

journal_longer : (bay : BayNo) (call : Call) (earlier : List Call) → length (journal bay earlier) ≤ length (journal bay (call ∷ earlier))
journal_longer bay call earlier = go _ refl
  where
    go : (b : Bool) → eqb call.bay.0 bay.0 ≡ b → length (journal bay earlier) ≤ length (journal bay (call ∷ earlier))
    go true e = rw e (omega (arith, length-append (journal bay earlier) (entry_of call ∷ [])))
    go false e = rw e (omega arith)

journal_longest : (bay : BayNo) (later earlier : List Call) → length (journal bay earlier) ≤ length (journal bay (later ++ earlier))
journal_longest bay [] earlier = omega arith
journal_longest bay (call ∷ later) earlier = omega (arith, journal_longer bay call (later ++ earlier), journal_longest bay later earlier)

-- the fault of a call is found at its place, whatever came later
faults-told : (later earlier : List Call) (call : Call) → faults_in (later ++ call ∷ earlier) call.bay (length (journal call.bay earlier)) ≡ is_fault call.answer.reply
faults-told [] earlier call =
    let here : (eqb call.bay.0 call.bay.0 && eqb (length (journal call.bay earlier)) (length (journal call.bay earlier))) ≡ true = grind (arith, nat_tests) in
    rw here refl
faults-told (c ∷ later) earlier call = go _ refl (faults-told later earlier call)
  where
    here : eqb call.bay.0 call.bay.0 ≡ true
    here = eq-eqb _ _ refl

    longer : length (journal call.bay earlier) < length (journal call.bay (later ++ call ∷ earlier))
    longer =
        let one : length (journal call.bay (call ∷ earlier)) ≡ length (journal call.bay earlier) + 1 = rw here (length-append (journal call.bay earlier) (entry_of call ∷ [])) in
        omega (arith, one, journal_longest call.bay later (call ∷ earlier))

    go : (b : Bool) → (eqb c.bay.0 call.bay.0 && eqb (length (journal call.bay (later ++ call ∷ earlier))) (length (journal call.bay earlier))) ≡ b →
        faults_in (later ++ call ∷ earlier) call.bay (length (journal call.bay earlier)) ≡ is_fault call.answer.reply →
        faults_in (c ∷ later ++ call ∷ earlier) call.bay (length (journal call.bay earlier)) ≡ is_fault call.answer.reply
    go false e ih = rw e ih
    go true e ih = absurd (let more = longer in grind (arith, nat_tests))

told-in : (script : Script) (later history : List Call) → IsHistory script history → Told script (faults_in (later ++ history)) history
told-in script later [] h = tt
told-in script later (call ∷ earlier) h = (
  subst (λ (whole : List Call). Told script (faults_in whole) earlier) (append_assoc later (call ∷ []) earlier) (told-in script (later ++ call ∷ []) earlier h.0),
  h.1.replied ∙ ap (answered script earlier (record { bay = call.bay; ask = call.ask })) (sym (faults-told later earlier call)),
)

pub history-told : (script : Script) (history : List Call) → IsHistory script history → Told script (faults_in history) history
history-told script history h = told-in script [] history h
