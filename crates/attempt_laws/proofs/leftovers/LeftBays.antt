-- Refused attempts leave nothing.
use Rattle.std.proofs.Common.{◌≡◌, ◌⊎◌, inl, inr, ◌<◌, ◌==◌, Bool, true, false, List, [], ◌∷◌, Option, Some, None, refl, sym, ap, subst, ◌∙◌, arith}
use Rattle.std.proofs.lemmas.Bool.Decides.{nat_tests}
use Rattle.raid_base.specs.declared.numbers.BayNo.{BayNo}
use Rattle.raid_base.specs.declared.numbers.HostNo.{HostNo}
use Rattle.raid_base.specs.declared.numbers.RowNo.{RowNo}
use Rattle.raid_base.specs.declared.numbers.Number.{Number}
use Rattle.raid_base.specs.declared.messages.Mode.{Mode}
use Rattle.raid_base.specs.declared.messages.Note.{Note}
use Rattle.raid_base.specs.declared.messages.Call.{Call}
use Rattle.raid_base.specs.declared.messages.PutEnd.{PutEnd}
use Rattle.raid_base.specs.declared.messages.PutEnd.TheVariants.{Made, Unnoted, Failed}
use Rattle.raid_base.specs.declared.messages.Reply.{Reply}
use Rattle.raid_base.specs.declared.messages.Request.{Request}
use Rattle.raid_base.specs.declared.messages.Request.TheVariants.{Share, Claim, Confirm, Put, Release, Lose, Fit}
use Rattle.raid_base.specs.declared.jobs.Job.{Job}
use Rattle.raid_base.specs.Fits.{fits}
use Rattle.raid_base.specs.Replies.{is_fault, put_end}
use Rattle.raid_base.specs.Steps.{errand_of}
use Rattle.slot_rules.specs.declared.Reader.{Reader}
use Rattle.slot_rules.specs.Slots.{Slot, slot_of}
use Rattle.slot_rules.specs.Rules.{rule}
use Rattle.slot_rules.specs.Serving.{row_of}
use Rattle.slot_rules.specs.Laws.{is_row}
use Rattle.slot_rules.proofs.RuleLaws.{replies_fit_lem}
use Rattle.attempts.specs.Phases.{IsIn}
use Rattle.script_text.specs.Script.{Script}
use Rattle.script_text.specs.Ranges.{IsScript}
use Rattle.histories.specs.Calls.{Happened}
use Rattle.histories.specs.Progress.{Work, Trying, Losing, Fitting, Over, Progress, Ending, work_errand}
use Rattle.histories.specs.History.{IsHistory, IsNext, progress_at, endings_at, if_taken, bay_at, if_ruled}
use Rattle.histories.proofs.hands.Attempting.{sent-errand}
use Rattle.histories.specs.RowStates.{slot_at}
use Rattle.histories.specs.Leftovers.{HasId, IsSeizure}
use Rattle.histories.proofs.steps.LeftSlots.{Apart, HasNote, HasReader, ClaimedBy, SharedBy, Unputs, Frees, LetsRow, Its, Same, Bare, row-lets}
use Rattle.attempt_laws.proofs.leftovers.LeftHosts.{HasLeft, NewNote, NewReader, Covered, Mine, SafeWork, Safe, begins-safe, GonePut, Gone_by, Moves, Leaves_be, safe-be, work-safe}
use Rattle.attempt_laws.proofs.leftovers.UnderWay.{IsWorkLed, hands-led}
use Rattle.histories.proofs.steps.SameNumbers.{same-bay, same-host}
use Rattle.histories.proofs.steps.HostTasks.{host-tasks}
use Rattle.histories.proofs.steps.BayRows.{bay-rows, bay-mode, starts-first}

own-host : (a : HostNo) → (a.0 == a.0) ≡ true
own-host a = grind (arith, nat_tests)

own-row : (row : RowNo) → is_row row (Some row) ≡ true
own-row row = grind (arith, nat_tests)

module _ (script : Script) (is : IsScript script) where
  -- notes and readers of a host that stand
  abbrev pub N : HostNo → List Call → BayNo → RowNo → Number → Type 0
  N host history at row x = (note : Note) × (row.0 < script.rows) × ((slot_at script history at row).note ≡ Some note) × (note.host ≡ host) × (note.id ≡ x)

  abbrev pub R : HostNo → List Call → BayNo → RowNo → Number → Type 0
  R host history at row x = (reader : Reader) × (row.0 < script.rows) × IsIn reader (slot_at script history at row).readers × (reader.host ≡ host) × (reader.id ≡ x)

  abbrev pub S : HostNo → List Call → Number → Type 0
  S host history x = Happened (IsSeizure host x) history

  module _ (earlier : List Call) (call : Call) (next : IsNext script earlier call) where
    abbrev r : Reply
    r = call.answer.reply

    reply-is : call.answer.reply ≡ (rule (bay_at script call.bay earlier) call.ask (is_fault call.answer.reply)).reply
    reply-is = ap (λ (c : Call). c.answer.reply) next.replied

    pub fitted : fits call.ask.what call.answer.reply ≡ true
    fitted = ap (λ (x : Reply). fits call.ask.what x) reply-is ∙ replies_fit_lem (bay_at script call.bay earlier) call.ask (is_fault call.answer.reply)

    abbrev pub LotAt : BayNo → RowNo → Type 0
    LotAt at row = LetsRow script.mode call.ask row (slot_at script earlier at row) r (slot_at script (call ∷ earlier) at row)

    -- the slots of the bay that is asked
    ruled : (at : BayNo) (row : RowNo) → row.0 < script.rows → call.bay ≡ at →
        LetsRow script.mode call.ask row (slot_of (bay_at script at earlier) row) r (slot_of (rule (bay_at script at earlier) call.ask (is_fault call.answer.reply)).bay row)
    ruled at row below same =
        let rows = bay-rows script at earlier in
        let told : (rule (bay_at script at earlier) call.ask (is_fault call.answer.reply)).reply ≡ call.answer.reply =
        subst (λ (b : BayNo). (rule (bay_at script b earlier) call.ask (is_fault call.answer.reply)).reply ≡ call.answer.reply) same (sym reply-is) in
        subst (λ (m : Mode). LetsRow m call.ask row (slot_of (bay_at script at earlier) row) r (slot_of (rule (bay_at script at earlier) call.ask (is_fault call.answer.reply)).bay row))
        (bay-mode script at earlier)
        (subst (λ (x : Reply). LetsRow (bay_at script at earlier).mode call.ask row (slot_of (bay_at script at earlier) row) x (slot_of (rule (bay_at script at earlier) call.ask (is_fault call.answer.reply)).bay row))
        told (row-lets (bay_at script at earlier) call.ask (is_fault call.answer.reply) row (omega (arith, below, rows))))

    -- what becomes of a slot: its bay is asked, or it stays
    lot : (at : BayNo) (row : RowNo) → row.0 < script.rows → ((call.bay ≡ at) × LotAt at row) ⊎ (slot_at script (call ∷ earlier) at row ≡ slot_at script earlier at row)
    lot at row below = by (call.bay.0 == at.0) refl
      where
        by : (b : Bool) → (call.bay.0 == at.0) ≡ b →
            ((call.bay ≡ at) × LetsRow script.mode call.ask row (slot_at script earlier at row) r (slot_of (if_ruled (bay_at script at earlier) call b) row))
            ⊎ (slot_of (if_ruled (bay_at script at earlier) call b) row ≡ slot_at script earlier at row)
        by true e = inl (same-bay call.bay at e, ruled at row below (same-bay call.bay at e))
        by false e = inr refl

    apart-next : (at : BayNo) (row : RowNo) → row.0 < script.rows → Apart (slot_at script earlier at row) → Apart (slot_at script (call ∷ earlier) at row)
    apart-next at row below h = by (lot at row below)
      where
        one : LotAt at row → Apart (slot_at script (call ∷ earlier) at row)
        one (Its at_row lets) = lets.apart h
        one (Same e other) = subst Apart (sym e) h
        one (Bare n e) = subst Apart (sym e) (λ note x f i own. i)

        by : ((call.bay ≡ at) × LotAt at row) ⊎ (slot_at script (call ∷ earlier) at row ≡ slot_at script earlier at row) → Apart (slot_at script (call ∷ earlier) at row)
        by (inl l) = one l.1
        by (inr e) = subst Apart (sym e) h

    -- where a note comes from
    abbrev pub NoteFrom : BayNo → RowNo → Note → Type 0
    NoteFrom at row note = ((slot_at script earlier at row).note ≡ Some note) ⊎ ((call.bay ≡ at) × (row_of call.ask.what ≡ Some row) × ClaimedBy call.ask r note call.ask.what)

    pub note-from : (at : BayNo) (row : RowNo) → row.0 < script.rows → (note : Note) → (slot_at script (call ∷ earlier) at row).note ≡ Some note → NoteFrom at row note
    note-from at row below note f = by (lot at row below)
      where
        its : call.bay ≡ at → row_of call.ask.what ≡ Some row → ((slot_at script earlier at row).note ≡ Some note) ⊎ ClaimedBy call.ask r note call.ask.what → NoteFrom at row note
        its same at_row (inl h) = inl h
        its same at_row (inr c) = inr (same, at_row, c)

        one : call.bay ≡ at → LotAt at row → NoteFrom at row note
        one same (Its at_row lets) = its same at_row (lets.notes note f)
        one same (Same e other) = inl (ap (λ (s : Slot). s.note) (sym e) ∙ f)
        one same (Bare n e) = absurd (let bad : None ≡ Some note = ap (λ (s : Slot). s.note) (sym e) ∙ f in cc)

        by : ((call.bay ≡ at) × LotAt at row) ⊎ (slot_at script (call ∷ earlier) at row ≡ slot_at script earlier at row) → NoteFrom at row note
        by (inl l) = one l.0 l.1
        by (inr e) = inl (ap (λ (s : Slot). s.note) (sym e) ∙ f)

    abbrev pub ReaderFrom : BayNo → RowNo → Reader → Type 0
    ReaderFrom at row x =
        IsIn x (slot_at script earlier at row).readers ⊎ ((call.bay ≡ at) × (row_of call.ask.what ≡ Some row) × SharedBy script.mode call.ask r x call.ask.what)

    pub reader-from : (at : BayNo) (row : RowNo) → row.0 < script.rows → (x : Reader) → IsIn x (slot_at script (call ∷ earlier) at row).readers → ReaderFrom at row x
    reader-from at row below x f = by (lot at row below)
      where
        its : call.bay ≡ at → row_of call.ask.what ≡ Some row → IsIn x (slot_at script earlier at row).readers ⊎ SharedBy script.mode call.ask r x call.ask.what → ReaderFrom at row x
        its same at_row (inl h) = inl h
        its same at_row (inr c) = inr (same, at_row, c)

        one : call.bay ≡ at → LotAt at row → ReaderFrom at row x
        one same (Its at_row lets) = its same at_row (lets.readers x f)
        one same (Same e other) = inl (subst (λ (s : Slot). IsIn x s.readers) e f)
        one same (Bare n e) = absurd (subst (λ (s : Slot). IsIn x s.readers) e f)

        by : ((call.bay ≡ at) × LotAt at row) ⊎ (slot_at script (call ∷ earlier) at row ≡ slot_at script earlier at row) → ReaderFrom at row x
        by (inl l) = one l.0 l.1
        by (inr e) = inl (subst (λ (s : Slot). IsIn x s.readers) e f)

    claimed-host : (note : Note) (what : Request) → ClaimedBy call.ask r note what → note.host ≡ call.ask.host
    claimed-host note (Share row id want) c = absurd c
    claimed-host note (Claim row id how mask want) c = c.0
    claimed-host note (Confirm row id want) c = absurd c
    claimed-host note (Put row id n cell) c = absurd c
    claimed-host note (Release row id n) c = absurd c
    claimed-host note Lose c = absurd c
    claimed-host note Fit c = absurd c

    shared-host : (x : Reader) (what : Request) → SharedBy script.mode call.ask r x what → x.host ≡ call.ask.host
    shared-host x (Share row id want) c = c.1
    shared-host x (Claim row id how mask want) c = absurd c
    shared-host x (Confirm row id want) c = absurd c
    shared-host x (Put row id n cell) c = absurd c
    shared-host x (Release row id n) c = absurd c
    shared-host x Lose c = absurd c
    shared-host x Fit c = absurd c

    claimed-new : (note : Note) (what : Request) (at : BayNo) (row : RowNo) (x : Number) → call.bay ≡ at → row_of what ≡ Some row → note.id ≡ x → ClaimedBy call.ask r note what → NewNote call.bay what r at row x
    claimed-new note (Share row' id want) at row x same e own c = absurd c
    claimed-new note (Claim row' id how mask want) at row x same e own c = let there : row' ≡ row = cc in (same, there, sym c.1 ∙ own, c.2)
    claimed-new note (Confirm row' id want) at row x same e own c = absurd c
    claimed-new note (Put row' id n cell) at row x same e own c = absurd c
    claimed-new note (Release row' id n) at row x same e own c = absurd c
    claimed-new note Lose at row x same e own c = absurd c
    claimed-new note Fit at row x same e own c = absurd c

    shared-new : (reader : Reader) (what : Request) (at : BayNo) (row : RowNo) (x : Number) → call.bay ≡ at → row_of what ≡ Some row → reader.id ≡ x → SharedBy script.mode call.ask r reader what →
        NewReader script.mode call.bay what r at row x
    shared-new reader (Share row' id want) at row x same e own c = let there : row' ≡ row = cc in (same, there, sym c.2 ∙ own, c.3, c.0)
    shared-new reader (Claim row' id how mask want) at row x same e own c = absurd c
    shared-new reader (Confirm row' id want) at row x same e own c = absurd c
    shared-new reader (Put row' id n cell) at row x same e own c = absurd c
    shared-new reader (Release row' id n) at row x same e own c = absurd c
    shared-new reader Lose at row x same e own c = absurd c
    shared-new reader Fit at row x same e own c = absurd c

    own-bay : (a : BayNo) → (a.0 == a.0) ≡ true
    own-bay a = grind (arith, nat_tests)

    pub own-lot : (row : RowNo) → row.0 < script.rows → LotAt call.bay row
    own-lot row below =
        subst (λ (b : Bool). LetsRow script.mode call.ask row (slot_at script earlier call.bay row) r (slot_of (if_ruled (bay_at script call.bay earlier) call b) row))
        (sym (own-bay call.bay)) (ruled call.bay row below refl)

    -- nothing of the id stands there
    abbrev Empty : Number → RowNo → Type 0
    Empty id row = (HasNote id (slot_at script (call ∷ earlier) call.bay row) → ⊥) × (HasReader id (slot_at script (call ∷ earlier) call.bay row) → ⊥)

    -- a call of the host
    module _ (host : HostNo) (led : let p = progress_at script host earlier in IsWorkLed script host p.jobs p.calls p.seen p.work)
        (apart : (at : BayNo) (row : RowNo) → row.0 < script.rows → Apart (slot_at script earlier at row)) where
      abbrev N' : BayNo → RowNo → Number → Type 0
      N' at row x = N host (call ∷ earlier) at row x

      abbrev R' : BayNo → RowNo → Number → Type 0
      R' at row x = R host (call ∷ earlier) at row x

      freed : (row : RowNo) (id : Number) → row.0 < script.rows → row_of call.ask.what ≡ Some row → Frees r (slot_at script (call ∷ earlier) call.bay row) call.ask.what ⊎ Empty id row
      freed row id below at_row = by (own-lot row below)
        where
          by : LotAt call.bay row → Frees r (slot_at script (call ∷ earlier) call.bay row) call.ask.what ⊎ Empty id row
          by (Its same lets) = inl (lets.frees (apart call.bay row below))
          by (Same e other) = absurd (let bad : true ≡ false = sym (own-row row) ∙ ap (λ (x : Option RowNo). is_row row x) (sym at_row) ∙ other in cc)
          by (Bare n e) = inr (
            subst (λ (s : Slot). HasNote id s → ⊥) (sym e) (λ has. let bad : None ≡ Some has.0 = has.1 in cc),
            subst (λ (s : Slot). HasReader id s → ⊥) (sym e) (λ has. has.1),
          )

      unput : (p : PutEnd) (row : RowNo) (id : Number) → (row.0 < script.rows → Unputs id (slot_at script (call ∷ earlier) call.bay row) p ⊎ Empty id row) →
          GonePut script is host (N host earlier) (R host earlier) N' R' (S host earlier) (S host (call ∷ earlier)) p call.bay row id
      unput Made row id f = λ n. by n (f n.1)
        where
          by : N' call.bay row id → (HasNote id (slot_at script (call ∷ earlier) call.bay row) → ⊥) ⊎ Empty id row → ⊥
          by n (inl u) = u (n.0, n.2, n.4)
          by n (inr e) = e.0 (n.0, n.2, n.4)
      unput (Unnoted life) row id f = λ n. by n (f n.1)
        where
          by : N' call.bay row id → (HasNote id (slot_at script (call ∷ earlier) call.bay row) → ⊥) ⊎ Empty id row → ⊥
          by n (inl u) = u (n.0, n.2, n.4)
          by n (inr e) = e.0 (n.0, n.2, n.4)
      unput Failed row id f = tt

      let-go : (row : RowNo) (id : Number) → (row.0 < script.rows → Empty id row ⊎ Empty id row) → (N' call.bay row id → ⊥) × (R' call.bay row id → ⊥)
      let-go row id f = (λ n. note n (f n.1), λ x. reader x (f x.1))
        where
          note : N' call.bay row id → Empty id row ⊎ Empty id row → ⊥
          note n (inl e) = e.0 (n.0, n.2, n.4)
          note n (inr e) = e.0 (n.0, n.2, n.4)

          reader : R' call.bay row id → Empty id row ⊎ Empty id row → ⊥
          reader x (inl e) = e.1 (x.0, x.2, x.4)
          reader x (inr e) = e.1 (x.0, x.2, x.4)

      freed-as : (what : Request) → call.ask.what ≡ what → (row : RowNo) (id : Number) → row_of what ≡ Some row → row.0 < script.rows →
          Frees r (slot_at script (call ∷ earlier) call.bay row) what ⊎ Empty id row
      freed-as what same row id at_row below =
          subst (λ (w : Request). Frees r (slot_at script (call ∷ earlier) call.bay row) w ⊎ Empty id row) same (freed row id below (ap (λ (w : Request). row_of w) same ∙ at_row))

      gone : (what : Request) → call.ask.what ≡ what → Gone_by script is host (N host earlier) (R host earlier) N' R' (S host earlier) (S host (call ∷ earlier)) call.bay what r
      gone (Share row id want) same = tt
      gone (Claim row id how mask want) same = tt
      gone (Confirm row id want) same = tt
      gone (Put row id n cell) same = unput (put_end r) row id (λ below. freed-as (Put row id n cell) same row id refl below)
      gone (Release row id n) same = let-go row id (λ below. freed-as (Release row id n) same row id refl below)
      gone Lose same = tt
      gone Fit same = tt

      moves : call.ask.host ≡ host → Moves script is host (N host earlier) (R host earlier) N' R' (S host earlier) (S host (call ∷ earlier)) call.bay call.ask.what r
      moves own = record {
        notes = λ at row x n. note at row x n (note-from at row n.1 n.0 n.2);
        readers = λ at row x n. reader at row x n (reader-from at row n.1 n.0 n.2);
        gone = gone call.ask.what refl;
        stays = λ x h. inr h;
        seizes = λ row x mask want e. inl (own, row, mask, want, e);
      }
        where
          note : (at : BayNo) (row : RowNo) (x : Number) → (n : N' at row x) → NoteFrom at row n.0 → N host earlier at row x ⊎ NewNote call.bay call.ask.what r at row x
          note at row x n (inl f) = inl (n.0, n.1, f, n.3, n.4)
          note at row x n (inr c) = inr (claimed-new n.0 call.ask.what at row x c.0 c.1 n.4 c.2)

          reader : (at : BayNo) (row : RowNo) (x : Number) → (n : R' at row x) → ReaderFrom at row n.0 → R host earlier at row x ⊎ NewReader script.mode call.bay call.ask.what r at row x
          reader at row x n (inl f) = inl (n.0, n.1, f, n.3, n.4)
          reader at row x n (inr c) = inr (shared-new n.0 call.ask.what at row x c.0 c.1 n.4 c.2)

      others : (call.ask.host ≡ host → ⊥) → Leaves_be script is host (N host earlier) (R host earlier) N' R' (S host earlier) (S host (call ∷ earlier))
      others other = record {
        notes = λ at row x n. note at row x n (note-from at row n.1 n.0 n.2);
        readers = λ at row x n. reader at row x n (reader-from at row n.1 n.0 n.2);
        stays = λ x h. inr h;
      }
        where
          note : (at : BayNo) (row : RowNo) (x : Number) → (n : N' at row x) → NoteFrom at row n.0 → N host earlier at row x
          note at row x n (inl f) = (n.0, n.1, f, n.3, n.4)
          note at row x n (inr c) = absurd (other (sym (claimed-host n.0 call.ask.what c.2) ∙ n.3))

          reader : (at : BayNo) (row : RowNo) (x : Number) → (n : R' at row x) → ReaderFrom at row n.0 → R host earlier at row x
          reader at row x n (inl f) = (n.0, n.1, f, n.3, n.4)
          reader at row x n (inr c) = absurd (other (sym (shared-host n.0 call.ask.what c.2) ∙ n.3))

      asked-errand : work_errand (progress_at script call.ask.host earlier).work ≡ Some (errand_of call)
      asked-errand =
          sent-errand call.ask.host (progress_at script call.ask.host earlier).clock call.ask.moment (work_errand (progress_at script call.ask.host earlier).work) call.bay call.ask next.asked

      own-errand : (call.ask.host.0 == host.0) ≡ true → work_errand (progress_at script host earlier).work ≡ Some (errand_of call)
      own-errand own = subst (λ (x : HostNo). work_errand (progress_at script x earlier).work ≡ Some (errand_of call)) (same-host call.ask.host host own) asked-errand

      host-next : Safe script is host (N host earlier) (R host earlier) (S host earlier) (progress_at script host earlier) →
          Safe script is host N' R' (S host (call ∷ earlier)) (progress_at script host (call ∷ earlier))
      host-next s = by (call.ask.host.0 == host.0) refl
        where
          by : (b : Bool) → (call.ask.host.0 == host.0) ≡ b → Safe script is host N' R' (S host (call ∷ earlier)) (if_taken script host (progress_at script host earlier) call b)
          by true own =
              work-safe script is host (N host earlier) (R host earlier) N' R' (S host earlier) (S host (call ∷ earlier)) (progress_at script host earlier) call (progress_at script host earlier).work
              (own-errand own) fitted (moves (same-host call.ask.host host own)) s.sound led s.work
          by false own =
              safe-be script is host (N host earlier) (R host earlier) N' R' (S host earlier) (S host (call ∷ earlier))
              (others (λ same. let bad : true ≡ false = sym (own-host call.ask.host) ∙ ap (λ (x : HostNo). call.ask.host.0 == x.0) same ∙ own in cc))
              (progress_at script host earlier) s

  pub apart-at : (history : List Call) → IsHistory script history → (at : BayNo) (row : RowNo) → row.0 < script.rows → Apart (slot_at script history at row)
  apart-at [] h at row below = subst Apart (sym (starts-first script at row below)) (λ note x f i own. i)
  apart-at (call ∷ earlier) h at row below = apart-next earlier call h.1 at row below (apart-at earlier h.0 at row below)

  pub host-safe : (history : List Call) → IsHistory script history → (host : HostNo) → Safe script is host (N host history) (R host history) (S host history) (progress_at script host history)
  host-safe [] h host =
      begins-safe script is host (N host []) (R host []) (S host [])
      (host-tasks script is host)
      (λ at row x n. let bad : None ≡ Some n.0 = ap (λ (s : Slot). s.note) (sym (starts-first script at row n.1)) ∙ n.2 in cc)
      (λ at row x n. subst (λ (s : Slot). IsIn n.0 s.readers) (starts-first script at row n.1) n.2)
  host-safe (call ∷ earlier) h host = host-next earlier call h.1 host (hands-led script host earlier is h.0) (λ at row below. apart-at earlier h.0 at row below) (host-safe earlier h.0 host)

  -- what stands is of the attempt in hand, or covered
  module _ (history : List Call) (host : HostNo) where
    abbrev May : List Ending → List Call → Number → Type 0
    May endings calls x = HasId x calls ⊎ (HasLeft script host x endings ⊎ S host history x)

    may-cover : (endings : List Ending) (calls : List Call) (x : Number) → Covered script is host (N host history) (R host history) (S host history) endings x → May endings calls x
    may-cover endings calls x (inl h) = inr (inl h)
    may-cover endings calls x (inr h) = inr (inr h)

    may-hold : {P : Type 0} (endings : List Ending) (calls : List Call) (id : Number) (seizes : Bool) (held : List _) (at : BayNo) (row : RowNo) (x : Number) →
        (Mine script is host (N host history) (R host history) (S host history) id seizes held calls at row x × P) ⊎ Covered script is host (N host history) (R host history) (S host history) endings x →
        May endings calls x
    may-hold endings calls id seizes held at row x (inl m) = inl (subst (λ (y : Number). HasId y calls) (sym (m.0).own) (m.0).called)
    may-hold endings calls id seizes held at row x (inr c) = may-cover endings calls x c

    note-may : (jobs : List Job) (endings : List Ending) (calls : List Call) (seen : Number) (work : Work) → SafeWork script is host (N host history) (R host history) (S host history) jobs endings calls seen work →
        (at : BayNo) (row : RowNo) (x : Number) → N host history at row x → May endings calls x
    note-may [] endings calls seen (Trying steps) w at row x n = absurd w
    note-may (job ∷ jobs) endings calls seen (Trying steps) w at row x n = may-hold endings calls w.id (w.leaving).seizes w.held at row x ((w.has).notes at row x n)
    note-may jobs endings calls seen (Losing bay) w at row x n = may-cover endings calls x (w.notes at row x n)
    note-may jobs endings calls seen (Fitting bay) w at row x n = may-cover endings calls x (w.notes at row x n)
    note-may jobs endings calls seen Over w at row x n = may-cover endings calls x (w.notes at row x n)

    reader-may : (jobs : List Job) (endings : List Ending) (calls : List Call) (seen : Number) (work : Work) → SafeWork script is host (N host history) (R host history) (S host history) jobs endings calls seen work →
        (at : BayNo) (row : RowNo) (x : Number) → R host history at row x → May endings calls x
    reader-may [] endings calls seen (Trying steps) w at row x n = absurd w
    reader-may (job ∷ jobs) endings calls seen (Trying steps) w at row x n = may-hold endings calls w.id (w.leaving).seizes w.held at row x ((w.has).readers at row x n)
    reader-may jobs endings calls seen (Losing bay) w at row x n = may-cover endings calls x (w.readers at row x n)
    reader-may jobs endings calls seen (Fitting bay) w at row x n = may-cover endings calls x (w.readers at row x n)
    reader-may jobs endings calls seen Over w at row x n = may-cover endings calls x (w.readers at row x n)

-- the attempt of this host with this id is in hand, or may leave this, or is a recovery
abbrev pub MayStand : Script → List Call → HostNo → Number → Type 0
MayStand script history host id =
    HasId id (progress_at script host history).calls ⊎ (HasLeft script host id (endings_at script history host) ⊎ Happened (IsSeizure host id) history)

pub refused-leave : (script : Script) (history : List Call) → IsScript script → IsHistory script history → (at : BayNo) (row : RowNo) → at.0 < script.n → row.0 < script.rows →
    ((note : Note) → (slot_at script history at row).note ≡ Some note → MayStand script history note.host note.id)
    × ((reader : Reader) → IsIn reader (slot_at script history at row).readers → MayStand script history reader.host reader.id)
refused-leave script history is h at row within below = (
  λ note f.
      let p : Progress = progress_at script note.host history in
      note-may script is history note.host p.jobs p.endings p.calls p.seen p.work (host-safe script is history h note.host).work at row note.id (note, below, f, refl, refl),
  λ reader i.
      let p : Progress = progress_at script reader.host history in
      reader-may script is history reader.host p.jobs p.endings p.calls p.seen p.work (host-safe script is history h reader.host).work at row reader.id (reader, below, i, refl, refl),
)
