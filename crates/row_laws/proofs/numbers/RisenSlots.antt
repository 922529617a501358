-- What a call does to the numbers of a slot beside its note, or beside a reader.
use Rattle.std.proofs.Common.{◌≡◌, ◌⊎◌, inl, inr, refl, sym, ap, subst, ◌∙◌, ℕ, ◌<◌, ◌≤◌, Bool, true, false, List, [], ◌∷◌, find, Option, Some, None, IsSome, if◌then◌else◌, arith}
use Rattle.std.proofs.lemmas.Bool.Decides.{nat_tests}
use Rattle.raid_base.specs.declared.numbers.BayNo.{BayNo}
use Rattle.raid_base.specs.declared.numbers.RowNo.{RowNo}
use Rattle.raid_base.specs.declared.numbers.Number.{Number}
use Rattle.raid_base.specs.declared.messages.Call.{Call}
use Rattle.raid_base.specs.declared.messages.How.{How}
use Rattle.raid_base.specs.declared.messages.How.TheVariants.{Plain, Seize}
use Rattle.raid_base.specs.declared.messages.Mode.TheVariants.{Lock, Order}
use Rattle.raid_base.specs.declared.messages.Note.{Note}
use Rattle.raid_base.specs.declared.messages.Reply.{Reply}
use Rattle.raid_base.specs.declared.messages.Request.{Request}
use Rattle.raid_base.specs.declared.messages.Request.TheVariants.{Share, Claim}
use Rattle.raid_base.specs.Numbers.{number, greater}
use Rattle.raid_base.specs.Replies.{is_fault, grant_of}
use Rattle.slot_rules.specs.declared.Reader.{Reader}
use Rattle.slot_rules.specs.Slots.{Slot, Bay, slot_of}
use Rattle.slot_rules.specs.Rules.{granted, note_id, is_reader, other_readers}
use Rattle.slot_rules.specs.Laws.{claimed_note}
use Rattle.attempts.specs.Phases.{IsIn}
use Rattle.script_text.specs.Script.{Script}
use Rattle.script_text.specs.Ranges.{IsScript}
use Rattle.histories.specs.Calls.{row_of}
use Rattle.histories.specs.History.{IsHistory, bay_at}
use Rattle.histories.specs.RowStates.{slot_at}
use Rattle.histories.proofs.steps.LeftSlots.{HasReader, Lets, slot-lets}
use Rattle.row_laws.proofs.owners.RowOwnersCalls.{noted-by}
use Rattle.row_laws.proofs.hands.SlotMoves.{SlotMove, Kept, Touched, Lost, Fitted, outcome_at, moved}
use Rattle.row_laws.proofs.hands.SlotDoes.{Claims, Does, Refuses, Closes, Grants, Shows, Holds, Puts, Frees, Leaves, slot-does, claimed-id}
use Rattle.histories.proofs.steps.BayRows.{starts-first}

-- No reader stands beside a note, nor in a bay without a device.
pub record Clear (bay : Bay) (slot : Slot) : Type 0 where
  pub alone : (note : Note) → slot.note ≡ Some note → slot.readers ≡ []
  pub bare : bay.empty ≡ true → slot.readers ≡ []

-- the reader that is found
pub found-reader : (id : Number) (xs : List Reader) (reader : Reader) → find (is_reader id) xs ≡ Some reader → IsIn reader xs × (reader.id ≡ id)
found-reader id [] reader e = absurd (let bad : None ≡ Some reader = e in cc)
found-reader id (x ∷ xs) reader e = by (is_reader id x) refl e (found-reader id xs reader)
  where
    by : (b : Bool) → is_reader id x ≡ b → (if b then Some x else find (is_reader id) xs) ≡ Some reader → (find (is_reader id) xs ≡ Some reader → IsIn reader xs × (reader.id ≡ id)) →
        IsIn reader (x ∷ xs) × (reader.id ≡ id)
    by true own found rest =
        let same : x ≡ reader = cc in
        let at : x.id.0 ≡ id.0 = grind (arith, nat_tests) in
        (inl same, ap (λ (r : Reader). r.id) (sym same) ∙ ap (λ (k : ℕ). number k) at)
    by false own found rest = let more = rest found in (inr more.0, more.1)

-- its numbers and its note after a call
pub data NoteMove (old : Bay) (at : BayNo) (row : RowNo) (call : Call) (new : Bay) (note : Note) : Type 0 where
  -- nothing has changed
  Stood : (was : (slot_of old row).note ≡ Some note) (write : (slot_of new row).write_no ≡ (slot_of old row).write_no) (read : (slot_of new row).read_no ≡ (slot_of old row).read_no) →
      NoteMove old at row call new note
  -- a share was granted with an id that is not above the note's origin
  Shared : (was : (slot_of old row).note ≡ Some note) (write : (slot_of new row).write_no ≡ (slot_of old row).write_no) (place : call.bay ≡ at) (id : Number) (want : Bool)
      (what : call.ask.what ≡ Share row id want) (low : id.0 ≤ note.origin.0) (read : (slot_of new row).read_no ≡ greater (slot_of old row).read_no id) → NoteMove old at row call new note
  -- the call opened it
  Made : (place : call.bay ≡ at) (how : How) (mask : ℕ) (want : Bool) (what : call.ask.what ≡ Claim row note.id how mask want)
      (reply : call.answer.reply ≡ granted old (slot_of old row) want (slot_of old row).note) (left : claimed_note call.ask note.id mask (slot_of old row).note ≡ note)
      (write : (slot_of new row).write_no ≡ (slot_of old row).write_no) (read : (slot_of new row).read_no ≡ (slot_of old row).read_no) (free : ((slot_of old row).note ≡ None) ⊎ (how ≡ Seize))
      (late : how ≡ Plain → old.mode ≡ Order → ((slot_of old row).read_no.0 < note.id.0) × ((slot_of old row).write_no.0 < note.id.0)) → NoteMove old at row call new note

-- its write number beside a reader
pub data ReaderMove (old : Bay) (at : BayNo) (row : RowNo) (call : Call) (new : Bay) (id : Number) : Type 0 where
  Sat : (was : HasReader id (slot_of old row)) (write : (slot_of new row).write_no ≡ (slot_of old row).write_no) → ReaderMove old at row call new id
  Came : (place : call.bay ≡ at) (want : Bool) (what : call.ask.what ≡ Share row id want) (reply : call.answer.reply ≡ granted old (slot_of old row) want None)
      (write : (slot_of new row).write_no ≡ (slot_of old row).write_no) → ReaderMove old at row call new id

module _ (old : Bay) (at : BayNo) (row : RowNo) (call : Call) (new : Bay) where
  abbrev slot : Slot
  slot = slot_of old row

  -- the slot stays clear
  clear-by : new.empty ≡ old.empty → (what : Request) (reply : Reply) (left : Slot) → Does old call.ask slot what reply left → slot_of new row ≡ left → Clear old slot → Clear new left
  clear-by empty what reply left (Refuses r refused missing) now c = record { alone = c.alone; bare = λ e. c.bare (sym empty ∙ e) }
  clear-by empty what reply left (Closes there none) now c = record { alone = λ note bad. absurd (cc); bare = λ e. c.bare (sym empty ∙ e) }
  clear-by empty what reply left (Grants claims) now c =
      let none : left.readers ≡ [] = ap (λ (s : Slot). s.readers) claims.left ∙ claims.alone in
      record { alone = λ note is. none; bare = λ e. none }
  clear-by empty what reply left (Shows shares) now c = record {
    alone = λ note is. let was : slot.note ≡ Some note = sym shares.note_kept ∙ is in shares.beside note was ∙ c.alone note was;
    bare = λ e. absurd (let there : old.empty ≡ false = shares.there in let bad : true ≡ false = sym e ∙ empty ∙ there in cc);
  }
  clear-by empty what reply left (Holds own) now c = record { alone = c.alone; bare = λ e. c.bare (sym empty ∙ e) }
  clear-by empty what reply left (Puts own) now c = record { alone = λ note bad. absurd (cc); bare = λ e. c.bare (sym empty ∙ e) }
  clear-by empty what reply left (Frees own) now c = record { alone = λ note bad. absurd (cc); bare = λ e. c.bare (sym empty ∙ e) }
  clear-by empty what reply left (Leaves {id = id} free reader found) now c = record {
    alone = λ note is. ap (λ (xs : List Reader). other_readers id xs) (c.alone note is);
    bare = λ e. ap (λ (xs : List Reader). other_readers id xs) (c.bare (sym empty ∙ e));
  }

  clear-move : SlotMove old at row call new → Clear old slot → Clear new (slot_of new row)
  clear-move (Kept same empty life apart) c = record {
    alone = λ note is. ap (λ (s : Slot). s.readers) same ∙ c.alone note (sym (ap (λ (s : Slot). s.note) same) ∙ is);
    bare = λ e. ap (λ (s : Slot). s.readers) same ∙ c.bare (sym empty ∙ e);
  }
  clear-move (Touched place of reply same empty life) c =
      let o = outcome_at old row call in
      subst (λ (s : Slot). Clear new s) (sym same)
      (clear-by empty call.ask.what o.reply o.slot (slot-does old call.ask slot (is_fault call.answer.reply) call.ask.what row of) same c)
  clear-move (Lost place what was same empty life) c = record { alone = λ note is. ap (λ (s : Slot). s.readers) same; bare = λ e. ap (λ (s : Slot). s.readers) same }
  clear-move (Fitted place what was same empty life) c = record { alone = λ note is. ap (λ (s : Slot). s.readers) same; bare = λ e. ap (λ (s : Slot). s.readers) same }

  -- a note
  module _ (note : Note) (noted : (slot_of new row).note ≡ Some note) where
    abbrev Moves : Type 0
    Moves = NoteMove old at row call new note

    gone : (slot_of new row).note ≡ None → Moves
    gone none = absurd (let bad : None ≡ Some note = sym none ∙ noted in cc)

    stood : (slot_of new row) ≡ slot → Moves
    stood same = Stood (sym (ap (λ (s : Slot). s.note) same) ∙ noted) (ap (λ (s : Slot). s.write_no) same) (ap (λ (s : Slot). s.read_no) same)

    made : (r : RowNo) (id : Number) (how : How) (mask : ℕ) (want : Bool) (reply : Reply) (left : Slot) → Claims old call.ask slot id how mask want reply left → call.bay ≡ at → call.ask.what ≡ Claim row id how mask want →
        call.answer.reply ≡ reply → slot_of new row ≡ left → claimed_note call.ask id mask slot.note ≡ note → id ≡ note.id → Moves
    made r id how mask want reply left claims place what answered now same named =
        Made place how mask want (what ∙ ap (λ (x : Number). Claim row x how mask want) named) (answered ∙ claims.reply)
        (ap (λ (x : Number). claimed_note call.ask x mask slot.note) (sym named) ∙ same)
        (ap (λ (s : Slot). s.write_no) (now ∙ claims.left)) (ap (λ (s : Slot). s.read_no) (now ∙ claims.left)) claims.free
        (λ plain order.
        let above = claims.late plain order in
        let named_so : id.0 ≡ note.id.0 = ap (λ (x : Number). x.0) named in
        (omega (arith, above, named_so), omega (arith, above, named_so)))

    note-by : call.bay ≡ at → (what : Request) (reply : Reply) (left : Slot) → Does old call.ask slot what reply left → call.ask.what ≡ what → row_of what ≡ Some row → call.answer.reply ≡ reply →
        slot_of new row ≡ left → Clear old slot → Moves
    note-by place what reply left (Refuses r refused missing) e of answered now c = stood now
    note-by place what reply left (Closes there none) e of answered now c = gone (ap (λ (s : Slot). s.note) now)
    note-by place what reply left (Grants {row = r} {id} {how} {mask} {want} claims) e of answered now c =
        let here : r ≡ row = cc in
        let both : Some (claimed_note call.ask id mask slot.note) ≡ Some note = sym (ap (λ (s : Slot). s.note) (now ∙ claims.left)) ∙ noted in
        let same : claimed_note call.ask id mask slot.note ≡ note = cc in
        made r id how mask want reply left claims place (e ∙ ap (λ (x : RowNo). Claim x id how mask want) here) answered now same
        (sym (claimed-id call.ask id mask slot.note) ∙ ap (λ (x : Note). x.id) same)
    note-by place what reply left (Shows {row = r} {id} {want} shares) e of answered now c = by shares.read
      where
        was : slot.note ≡ Some note
        was = sym shares.note_kept ∙ sym (ap (λ (s : Slot). s.note) now) ∙ noted

        here : r ≡ row
        here = cc

        by : (left.read_no ≡ slot.read_no) ⊎ ((old.mode ≡ Order) × (left.read_no ≡ greater slot.read_no id)) → Moves
        by (inl same) = Stood was (ap (λ (s : Slot). s.write_no) now ∙ shares.write_kept) (ap (λ (s : Slot). s.read_no) now ∙ same)
        by (inr rises) =
            Shared was (ap (λ (s : Slot). s.write_no) now ∙ shares.write_kept) place id want (e ∙ ap (λ (x : RowNo). Share x id want) here) (shares.free note was).1
            (ap (λ (s : Slot). s.read_no) now ∙ rises.1)
    note-by place what reply left (Holds own) e of answered now c = stood now
    note-by place what reply left (Puts own) e of answered now c = gone (ap (λ (s : Slot). s.note) now)
    note-by place what reply left (Frees own) e of answered now c = gone (ap (λ (s : Slot). s.note) now)
    note-by place what reply left (Leaves {id = id} free reader found) e of answered now c =
        let was : slot.note ≡ Some note = sym (ap (λ (s : Slot). s.note) now) ∙ noted in
        let none : find (is_reader id) slot.readers ≡ None = ap (λ (xs : List Reader). find (is_reader id) xs) (c.alone note was) in
        absurd (let bad : None ≡ Some reader = sym none ∙ found in cc)

    note-move : SlotMove old at row call new → Clear old slot → Moves
    note-move (Kept same empty life apart) c = stood same
    note-move (Touched place of reply same empty life) c =
        let o = outcome_at old row call in
        note-by place call.ask.what o.reply o.slot (slot-does old call.ask slot (is_fault call.answer.reply) call.ask.what row of) refl of reply same c
    note-move (Lost place what was same empty life) c = gone (ap (λ (s : Slot). s.note) same)
    note-move (Fitted place what was same empty life) c = gone (ap (λ (s : Slot). s.note) same)

  -- a reader
  module _ (rid : Number) where
    abbrev Reads : Type 0
    Reads = ReaderMove old at row call new rid

    in-none : (x : Reader) (xs : List Reader) → xs ≡ [] → IsIn x xs → ⊥
    in-none x xs e i = subst (λ (ys : List Reader). IsIn x ys) e i

    sat : (left : Slot) → slot_of new row ≡ left → left.write_no ≡ slot.write_no → (x : Reader) → x.id ≡ rid → IsIn x slot.readers → Reads
    sat left now write x named i = Sat (x, i, named) (ap (λ (s : Slot). s.write_no) now ∙ write)

    not-noted : (note : Option Note) (id : Number) → slot.note ≡ note → note_id note id ≡ true → Clear old slot → slot.readers ≡ []
    not-noted note id e own c = let found = noted-by note id own in c.alone found.0 (e ∙ found.1)

    reader-by : call.bay ≡ at → (what : Request) (reply : Reply) (left : Slot) → Does old call.ask slot what reply left → call.ask.what ≡ what → row_of what ≡ Some row → call.answer.reply ≡ reply →
        slot_of new row ≡ left → Clear old slot → Lets old.mode call.ask what slot reply left → (x : Reader) → IsIn x left.readers → x.id ≡ rid → Reads
    reader-by place what reply left (Refuses r refused missing) e of answered now c lets x i named = sat left now refl x named i
    reader-by place what reply left (Closes there none) e of answered now c lets x i named = sat left now refl x named i
    reader-by place what reply left (Grants claims) e of answered now c lets x i named =
        absurd (in-none x left.readers (ap (λ (s : Slot). s.readers) claims.left ∙ claims.alone) i)
    reader-by place what reply left (Shows {row = r} {id} {want} shares) e of answered now c lets x i named = by (lets.readers x i)
      where
        here : r ≡ row
        here = cc

        by : IsIn x slot.readers ⊎ ((old.mode ≡ Lock) × (x.host ≡ call.ask.host) × (x.id ≡ id) × IsSome (grant_of reply)) → Reads
        by (inl sits) = sat left now shares.write_kept x named sits
        by (inr new_reader) =
            let own : id ≡ rid = sym new_reader.2 ∙ named in
            Came place want (e ∙ ap (λ (y : RowNo). Share y id want) here ∙ ap (λ (y : Number). Share row y want) own) (answered ∙ shares.reply)
            (ap (λ (s : Slot). s.write_no) now ∙ shares.write_kept)
    reader-by place what reply left (Holds own) e of answered now c lets x i named = sat left now refl x named i
    reader-by place what reply left (Puts {id = id} own) e of answered now c lets x i named = absurd (in-none x slot.readers (not-noted slot.note id refl own c) i)
    reader-by place what reply left (Frees own) e of answered now c lets x i named = sat left now refl x named i
    reader-by place what reply left (Leaves free reader found) e of answered now c lets x i named = by (lets.readers x i)
      where
        by : IsIn x slot.readers ⊎ ⊥ → Reads
        by (inl sits) = sat left now refl x named sits
        by (inr bad) = absurd bad

    reader-move : SlotMove old at row call new → Clear old slot → HasReader rid (slot_of new row) → Reads
    reader-move (Kept same empty life apart) c has = Sat (has.0, subst (λ (s : Slot). IsIn has.0 s.readers) same has.1, has.2) (ap (λ (s : Slot). s.write_no) same)
    reader-move (Touched place of reply same empty life) c has =
        let o = outcome_at old row call in
        reader-by place call.ask.what o.reply o.slot (slot-does old call.ask slot (is_fault call.answer.reply) call.ask.what row of) refl of reply same c
        (slot-lets old.mode call.ask slot old (is_fault call.answer.reply) call.ask.what refl row of) has.0 (subst (λ (s : Slot). IsIn has.0 s.readers) same has.1) has.2
    reader-move (Lost place what was same empty life) c has = absurd (in-none has.0 (slot_of new row).readers (ap (λ (s : Slot). s.readers) same) has.1)
    reader-move (Fitted place what was same empty life) c has = absurd (in-none has.0 (slot_of new row).readers (ap (λ (s : Slot). s.readers) same) has.1)

-- Along a history
module _ (script : Script) (is : IsScript script) (at : BayNo) (row : RowNo) (below : row.0 < script.rows) where
  pub clear-at : (history : List Call) → IsHistory script history → Clear (bay_at script at history) (slot_at script history at row)
  clear-at [] along = subst (λ (s : Slot). Clear (bay_at script at []) s) (sym (starts-first script at row below)) (record { alone = λ note bad. refl; bare = λ e. refl })
  clear-at (call ∷ earlier) along =
      clear-move (bay_at script at earlier) at row call (bay_at script at (call ∷ earlier)) (moved script is earlier call along.1 at row below) (clear-at earlier along.0)

  module _ (earlier : List Call) (call : Call) (along : IsHistory script (call ∷ earlier)) where
    pub note-moved : (note : Note) → (slot_at script (call ∷ earlier) at row).note ≡ Some note → NoteMove (bay_at script at earlier) at row call (bay_at script at (call ∷ earlier)) note
    note-moved note noted =
        note-move (bay_at script at earlier) at row call (bay_at script at (call ∷ earlier)) note noted (moved script is earlier call along.1 at row below) (clear-at earlier along.0)

    pub reader-moved : (id : Number) → HasReader id (slot_at script (call ∷ earlier) at row) → ReaderMove (bay_at script at earlier) at row call (bay_at script at (call ∷ earlier)) id
    reader-moved id has =
        reader-move (bay_at script at earlier) at row call (bay_at script at (call ∷ earlier)) id (moved script is earlier call along.1 at row below) (clear-at earlier along.0) has
