-- What a read has asked by its end: it shares and releases alone, and where it is done under locks each of its releases has its
-- number and was done.
use Rattle.std.proofs.Common.{◌≡◌, ◌⊎◌, inl, inr, refl, sym, ap, subst, ◌∙◌, ℕ, not, Bool, true, false, cond, if◌then◌else◌, ◌==◌, ◌&&◌, List, [], ◌∷◌, ◌++◌, Option, Some, None, Result, Ok, Err, arith}
use Rattle.std.specs.List.{AllByRecursion}
use Rattle.std.proofs.lemmas.Bool.Decides.{nat_tests}
use Rattle.raid_base.specs.declared.numbers.BayNo.{BayNo}
use Rattle.raid_base.specs.declared.numbers.HostNo.{HostNo}
use Rattle.raid_base.specs.declared.numbers.RowNo.{RowNo}
use Rattle.raid_base.specs.declared.numbers.Number.{Number}
use Rattle.raid_base.specs.declared.numbers.Spent.{Spent}
use Rattle.raid_base.specs.declared.messages.Call.{Call}
use Rattle.raid_base.specs.declared.messages.Errand.{Errand}
use Rattle.raid_base.specs.declared.messages.Grant.{Grant}
use Rattle.raid_base.specs.declared.messages.Mode.{Mode}
use Rattle.raid_base.specs.declared.messages.Mode.TheVariants.{Lock, Order}
use Rattle.raid_base.specs.declared.messages.Request.{Request}
use Rattle.raid_base.specs.declared.messages.Request.TheVariants.{Share, Claim, Confirm, Put, Release, Lose, Fit}
use Rattle.raid_base.specs.declared.messages.Reply.{Reply}
use Rattle.raid_base.specs.declared.messages.Reply.TheVariants.{Done}
use Rattle.raid_base.specs.declared.jobs.Cause.{Cause}
use Rattle.raid_base.specs.declared.jobs.Cause.TheVariants as causes
use Rattle.raid_base.specs.declared.jobs.Ended.{Ended}
use Rattle.raid_base.specs.declared.jobs.Ended.TheVariants as ends
use Rattle.raid_base.specs.declared.jobs.RowPart.{RowPart}
use Rattle.raid_base.specs.Numbers.{draw, seen_drawn, sees}
use Rattle.raid_base.specs.Replies.{grant_of, is_done}
use Rattle.raid_base.specs.Steps.{Steps, Asks, Draws, Ends, Standing, bind, go_on, Walk, Through, Stopped, run, settled, behind, next_errand, errand_of}
use Rattle.stripe_layout.specs.Placement.{parity_bay, bays_of, units_in, units_out}
use Rattle.attempts.specs.Taking.{Access, Finish, Row, Rows, no_rows, Taken, begun, row_ended, with_parity, with_wanted, with_other, lacks, behind_from, why, share, shares}
use Rattle.attempts.specs.Releases.{release, releases, refused_steps, read_holds, read_releases}
use Rattle.attempts.specs.Reading.{sharing, read_refused, row_readers, numbered_releases, first_row, freeing, read_freed, read_drawn, read_numbered, row_shared, parity_shared, share_rest, wanted_shared, read_rows, read_steps}
use Rattle.attempts.specs.Finishes.{IsNoRead}
use Rattle.attempts.specs.Phases.{Slot, IsIn, is_slot}
use Rattle.attempts.specs.Returns.{Holding, without_slot, claimed, held_after, Returns}
use Rattle.attempts.proofs.PhaseLemmas.{all-flat, IsRelease, row-releases}
use Rattle.attempts.proofs.RoomLemmas.{all-made}
use Rattle.histories.specs.Calls.{IsShare}
use Rattle.histories.specs.Hands.{Led}
use Rattle.row_laws.proofs.commits.OwnedCommits.{done-reply}

-- the requests of a read with this id
abbrev pub IsReading : Number → Request → Type 0
IsReading id (Share row by want) = by ≡ id
IsReading id (Claim row by how mask want) = ⊥
IsReading id (Confirm row by want) = ⊥
IsReading id (Put row by n cell) = ⊥
IsReading id (Release row by n) = by ≡ id
IsReading id Lose = ⊥
IsReading id Fit = ⊥

-- a release has this number and was done
abbrev pub IsFreedWith : Number → Call → Type 0
IsFreedWith n call = (row : RowNo) (id : Number) (o : Option Number) → call.ask.what ≡ Release row id o → (o ≡ Some n) × (call.answer.reply ≡ Done)

-- a read is done with this number: under stamps it is its id, and under locks all its releases have it and were done
pub record IsDoneWith (mode : Mode) (id : Number) (calls : List Call) (n : Number) : Type 0 where
  pub order : mode ≡ Order → n ≡ id
  pub lock : mode ≡ Lock → AllByRecursion (IsFreedWith n) calls

abbrev pub EndsReading : Mode → Number → List Call → Ended → Type 0
EndsReading mode id calls (ends.Read n) = IsDoneWith mode id calls n
EndsReading mode id calls (ends.Wrote n) = Unit {0}
EndsReading mode id calls (ends.Part n made cause) = Unit {0}
EndsReading mode id calls (ends.Refused cause) = Unit {0}
EndsReading mode id calls (ends.Recovered n closed lost) = Unit {0}
EndsReading mode id calls ends.Mended = Unit {0}

-- Whatever the calls: each request is one of a read, no read is done where the host stops, and the end is such
abbrev pub Reading : Mode → Number → List Call → Steps Finish → Type 0
Reading mode id calls (Ends f) = EndsReading mode id calls f.ended
Reading mode id calls (Draws k) = (d : Result Number Spent) → Reading mode id calls (k d)
Reading mode id calls (Asks e s c k) = IsReading id e.request × IsNoRead s × ((call : Call) → errand_of call ≡ e → Reading mode id (call ∷ calls) (k call.answer.reply))

module _ (mode : Mode) (id : Number) where
  pub settled-reading : (host : HostNo) (seen : Number) (calls : List Call) (s : Steps Finish) → Reading mode id calls s → Reading mode id calls (settled host seen s).steps
  settled-reading host seen calls (Asks e t c k) h = h
  settled-reading host seen calls (Draws k) h = settled-reading host (seen_drawn seen (draw host seen)) calls (k (draw host seen)) (h (draw host seen))
  settled-reading host seen calls (Ends f) h = h

  told-reading : (host : HostNo) (seen : Number) (calls : List Call) (call : Call) (s : Steps Finish) → Reading mode id calls s → next_errand s ≡ Some (errand_of call) →
      IsReading id call.ask.what × Reading mode id (call ∷ calls) (settled host seen (behind s call.answer.reply)).steps
  told-reading host seen calls call (Asks e t c k) h asked =
      let is : errand_of call ≡ e = cc in
      (subst (λ (x : Errand). IsReading id x.request) (sym is) h.0, settled-reading host seen (call ∷ calls) (k call.answer.reply) (h.2 call is))
  told-reading host seen calls call (Draws k) h asked = absurd (cc)
  told-reading host seen calls call (Ends f) h asked = absurd (cc)

  -- so it is where its calls have led
  pub led-reading : (host : HostNo) (start : Standing Finish) (calls : List Call) (now : Standing Finish) → Reading mode id [] start.steps → Led host start calls now →
      (AllByRecursion (λ (c : Call). IsReading id c.ask.what) calls) × Reading mode id calls now.steps
  led-reading host start [] now h led = (tt, subst (λ (x : Standing Finish). Reading mode id [] x.steps) led h)
  led-reading host start (call ∷ earlier) now h (before, led, asked, fit, later) =
      let so_far = led-reading host start earlier before h led in
      let next = told-reading host (sees before.seen call.answer.reply) earlier call before.steps so_far.1 asked in
      ((next.0, so_far.0), subst (λ (x : Standing Finish). Reading mode id (call ∷ earlier) x.steps) later next.1)

  go-reading : {A : Type 0} (calls : List Call) (o : Option A) (g : A → Steps (Walk A)) (s : Steps (Walk A)) (f : Walk A → Steps Finish) →
      ((a : A) → Reading mode id calls (bind (g a) f)) → Reading mode id calls (bind s f) → Reading mode id calls (bind (go_on o g s) f)
  go-reading calls (Some a) g s f on off = on a
  go-reading calls None g s f on off = off

release-reads : (id : Number) (what : Request) → IsRelease id what → IsReading id what
release-reads id (Share row by want) h = absurd h
release-reads id (Claim row by how mask want) h = absurd h
release-reads id (Confirm row by want) h = absurd h
release-reads id (Put row by n cell) h = absurd h
release-reads id (Release row by n) h = h
release-reads id Lose h = absurd h
release-reads id Fit h = absurd h

first-some : (o : Option RowNo) (row : RowNo) (id : Number) (k : Option Number) → first_row o (Release row id k) ≡ None → ⊥
first-some (Some first) row id k e = cc
first-some None row id k e = cc

module _ (a : Access) where
  abbrev Reads : List Call → Steps Finish → Type 0
  Reads calls s = Reading a.mode a.id calls s

  -- nothing was released
  abbrev NoneFreed : List Call → Type 0
  NoneFreed calls = (n : Number) → AllByRecursion (IsFreedWith n) calls

  shared-more : (row : RowNo) (bay : BayNo) (calls : List Call) (call : Call) → errand_of call ≡ share a.id row bay → NoneFreed calls → NoneFreed (call ∷ calls)
  shared-more row bay calls call is none n = (
    λ r by o what. absurd (let both : Share row a.id true ≡ Release r by o = sym (ap (λ (e : Errand). e.request) is) ∙ what in cc),
    none n,
  )

  -- The end
  refusing : (es : List Errand) → AllByRecursion (λ (e : Errand). IsRelease a.id e.request) es → (cause : Cause) (calls : List Call) → Reads calls (refused_steps es cause)
  refusing [] all cause calls = tt
  refusing (e ∷ es) all cause calls = (release-reads a.id e.request all.0, tt, λ call is. refusing es all.1 cause (call ∷ calls))

  refuses : (rows : List Row) (cause : Cause) (calls : List Call) → Reads calls (refused_steps (read_releases a rows) cause)
  refuses rows cause calls = refusing (read_releases a rows) (row-releases a.id None (read_holds a.mode a.n) rows) cause calls

  abbrev IsNumbered : Number → Request → Type 0
  IsNumbered n (Share row by want) = ⊥
  IsNumbered n (Claim row by how mask want) = ⊥
  IsNumbered n (Confirm row by want) = ⊥
  IsNumbered n (Put row by m cell) = ⊥
  IsNumbered n (Release row by o) = (by ≡ a.id) × (o ≡ Some n)
  IsNumbered n Lose = ⊥
  IsNumbered n Fit = ⊥

  are-numbered : (n : Number) (rows : List Row) → AllByRecursion (λ (e : Errand). IsNumbered n e.request) (numbered_releases a n rows)
  are-numbered n rows =
      all-flat (λ (e : Errand). IsNumbered n e.request) (λ (row : Row). releases a.id row.part.row (Some n) (row_readers a.n row))
      (λ row. all-made (λ (e : Errand). IsNumbered n e.request) (release a.id row.part.row (Some n)) (λ bay. (refl, refl)) (row_readers a.n row)) rows

  numbered-reads : (n : Number) (what : Request) → IsNumbered n what → IsReading a.id what
  numbered-reads n (Share row by want) h = absurd h
  numbered-reads n (Claim row by how mask want) h = absurd h
  numbered-reads n (Confirm row by want) h = absurd h
  numbered-reads n (Put row by m cell) h = absurd h
  numbered-reads n (Release row by o) h = h.0
  numbered-reads n Lose h = absurd h
  numbered-reads n Fit h = absurd h

  -- one release more, where no reader was gone
  freed-more : (n : Number) (what : Request) (o : Option RowNo) (calls : List Call) (call : Call) → IsNumbered n what → call.ask.what ≡ what → (o ≡ None → AllByRecursion (IsFreedWith n) calls) →
      (if is_done call.answer.reply then o else first_row o what) ≡ None → AllByRecursion (IsFreedWith n) (call ∷ calls)
  freed-more n (Share row by want) o calls call is asks all none = absurd is
  freed-more n (Claim row by how mask want) o calls call is asks all none = absurd is
  freed-more n (Confirm row by want) o calls call is asks all none = absurd is
  freed-more n (Put row by m cell) o calls call is asks all none = absurd is
  freed-more n Lose o calls call is asks all none = absurd is
  freed-more n Fit o calls call is asks all none = absurd is
  freed-more n (Release row by k) o calls call is asks all none = by_reply (is_done call.answer.reply) refl none
    where
      by_reply : (b : Bool) → is_done call.answer.reply ≡ b → (if b then o else first_row o (Release row by k)) ≡ None → AllByRecursion (IsFreedWith n) (call ∷ calls)
      by_reply true e left = (
        λ r id j what.
            (let both : Release row by k ≡ Release r id j = sym asks ∙ what in
            let same : k ≡ j = cc in
            (sym same ∙ is.1, done-reply call.answer.reply e)),
        all left,
      )
      by_reply false e left = absurd (first-some o row by k left)

  frees : (n : Number) (rows : List Row) → a.mode ≡ Lock → (es : List Errand) → AllByRecursion (λ (e : Errand). IsNumbered n e.request) es → (o : Option RowNo) (calls : List Call) →
      (o ≡ None → AllByRecursion (IsFreedWith n) calls) → Reads calls (bind (run freeing es o) (read_freed a n rows))
  frees n rows lock [] own None calls all = record { order = λ order. absurd (let bad : Order ≡ Lock = sym order ∙ lock in cc); lock = λ l. all refl }
  frees n rows lock [] own (Some row) calls all = tt
  frees n rows lock (e ∷ es) own o calls all = (
    numbered-reads n e.request own.0,
    tt,
    λ call is. frees n rows lock es own.1 (if is_done call.answer.reply then o else first_row o e.request) (call ∷ calls)
        (λ none. freed-more n e.request o calls call own.0 (ap (λ (x : Errand). x.request) is) all none),
  )

  drawn-reads : (rows : List Row) → a.mode ≡ Lock → (calls : List Call) → NoneFreed calls → (d : Result Number Spent) → Reads calls (read_drawn a rows d)
  drawn-reads rows lock calls none (Err spent) = refuses rows (causes.Spent spent.seen) calls
  drawn-reads rows lock calls none (Ok n) = frees n rows lock (numbered_releases a n rows) (are-numbered n rows) None calls (λ e. none n)

  ends-reads : (mode : Mode) → a.mode ≡ mode → (rows : List Row) (calls : List Call) → NoneFreed calls → Reads calls (read_numbered mode a rows)
  ends-reads Order same rows calls none = record { order = λ order. refl; lock = λ lock. absurd (let bad : Order ≡ Lock = sym same ∙ lock in cc) }
  ends-reads Lock same rows calls none = λ d. drawn-reads rows same calls none d

  -- Rows
  stops : (taken : Taken) (e : Errand) (r : Reply) (calls : List Call) → Reads calls (read_refused a taken e r)
  stops taken e r calls = refuses (taken.before ++ taken.row ∷ []) (why (behind_from a.mode a.id) taken e r) calls

  shares-read : (keep : Option Grant → Row → Row) (row : RowNo) (f : Walk Taken → Steps Finish) → ((taken : Taken) (calls : List Call) → NoneFreed calls → Reads calls (f (Through taken))) →
      ((taken : Taken) (e : Errand) (r : Reply) (calls : List Call) → Reads calls (f (Stopped taken e r))) → (bays : List BayNo) (taken : Taken) (calls : List Call) → NoneFreed calls →
      Reads calls (bind (run (sharing a keep) (shares a.id row bays) taken) f)
  shares-read keep row f on off [] taken calls none = on taken calls none
  shares-read keep row f on off (bay ∷ bays) taken calls none = (
    refl,
    tt,
    λ call is. go-reading a.mode a.id (call ∷ calls) ((sharing a keep).step taken (share a.id row bay) call.answer.reply) (λ b. run (sharing a keep) (shares a.id row bays) b)
        (Ends (Stopped taken (share a.id row bay) call.answer.reply)) f
        (λ b. shares-read keep row f on off bays b (call ∷ calls) (shared-more row bay calls call is none))
        (off taken (share a.id row bay) call.answer.reply (call ∷ calls)),
  )

  module _ (rest : Rows → Steps Finish) (on : (done : Rows) (calls : List Call) → NoneFreed calls → Reads calls (rest done)) where
    others-read : (taken : Taken) (calls : List Call) → NoneFreed calls → Reads calls (parity_shared a rest (Through taken))
    others-read taken calls none =
        shares-read with_other taken.row.part.row (row_shared a rest) (λ t cs m. on (row_ended t) cs m) (λ t e r cs. stops t e r cs)
        (bays_of a.n taken.row.part.row (units_out a.n taken.row.part.mask)) taken calls none

    rest-reads : (b : Bool) (taken : Taken) (calls : List Call) → NoneFreed calls → Reads calls (share_rest a rest taken b)
    rest-reads false taken calls none = on (row_ended taken) calls none
    rest-reads true taken calls none =
        shares-read with_parity taken.row.part.row (parity_shared a rest) (λ t cs m. others-read t cs m) (λ t e r cs. stops t e r cs) (parity_bay a.n taken.row.part.row ∷ []) taken calls none

  rows-read : (left : List RowPart) (done : Rows) (calls : List Call) → NoneFreed calls → Reads calls (read_rows a left done)
  rows-read [] done calls none = ends-reads a.mode refl done.rows calls none
  rows-read (part ∷ left) done calls none =
      shares-read with_wanted part.row (wanted_shared a (read_rows a left))
      (λ t cs m. rest-reads (read_rows a left) (λ d c o. rows-read left d c o) (lacks t.row.wanted) t cs m)
      (λ t e r cs. stops t e r cs)
      (bays_of a.n part.row (units_in a.n part.mask)) (begun part done) calls none

  pub reads-reading : Reading a.mode a.id [] (read_steps a)
  reads-reading = rows-read a.parts no_rows [] (λ n. tt)

-- What these calls hold
abbrev pub holds : Mode → List Call → List Holding
holds mode [] = []
holds mode (call ∷ earlier) = held_after mode (holds mode earlier) call.bay call.ask.what call.answer.reply

module _ (mode : Mode) (Q : List Holding → Finish → Type 0) where
  pub settled-returns : (host : HostNo) (seen : Number) (held : List Holding) (s : Steps Finish) → Returns mode Q held s → Returns mode Q held (settled host seen s).steps
  settled-returns host seen held (Asks e t c k) h = h
  settled-returns host seen held (Draws k) h = settled-returns host (seen_drawn seen (draw host seen)) held (k (draw host seen)) (h (draw host seen))
  settled-returns host seen held (Ends f) h = h

  told-returns : (host : HostNo) (seen : Number) (held : List Holding) (call : Call) (s : Steps Finish) → Returns mode Q held s → next_errand s ≡ Some (errand_of call) →
      Returns mode Q (held_after mode held call.bay call.ask.what call.answer.reply) (settled host seen (behind s call.answer.reply)).steps
  told-returns host seen held call (Asks e t c k) h asked =
      let is : e ≡ errand_of call = cc in
      settled-returns host seen (held_after mode held call.bay call.ask.what call.answer.reply) (k call.answer.reply)
      (subst (λ (x : Errand). Returns mode Q (held_after mode held x.bay x.request call.answer.reply) (k call.answer.reply)) is (h call.answer.reply))
  told-returns host seen held call (Draws k) h asked = absurd (cc)
  told-returns host seen held call (Ends f) h asked = absurd (cc)

  pub led-returns : (host : HostNo) (start : Standing Finish) (calls : List Call) (now : Standing Finish) → Returns mode Q [] start.steps → Led host start calls now → Returns mode Q (holds mode calls) now.steps
  led-returns host start [] now h led = subst (λ (x : Standing Finish). Returns mode Q [] x.steps) led h
  led-returns host start (call ∷ earlier) now h (before, led, asked, fit, later) =
      subst (λ (x : Standing Finish). Returns mode Q (holds mode (call ∷ earlier)) x.steps) later
      (told-returns host (sees before.seen call.answer.reply) (holds mode earlier) call before.steps (led-returns host start earlier before h led) asked)

-- a slot that is held
abbrev pub HasSlot : Slot → List Holding → Type 0
HasSlot slot [] = ⊥
HasSlot slot (h ∷ held) = (h.slot ≡ slot) ⊎ HasSlot slot held

slot-kept : (slot other : Slot) (held : List Holding) → is_slot slot other ≡ false → HasSlot slot held → HasSlot slot (without_slot other held)
slot-kept slot other [] apart i = absurd i
slot-kept slot other (h ∷ held) apart i = by (is_slot h.slot other) refl i (slot-kept slot other held apart)
  where
    by : (b : Bool) → is_slot h.slot other ≡ b → (h.slot ≡ slot) ⊎ HasSlot slot held → (HasSlot slot held → HasSlot slot (without_slot other held)) →
        HasSlot slot (cond (not b) (h ∷ without_slot other held) (without_slot other held))
    by true e (inl same) rest = absurd (let bad : true ≡ false = sym e ∙ ap (λ (x : Slot). is_slot x other) same ∙ apart in cc)
    by true e (inr j) rest = rest j
    by false e (inl same) rest = inl same
    by false e (inr j) rest = inr (rest j)

same-slots : (x y : Slot) → is_slot x y ≡ true → (y.bay ≡ x.bay) × (y.row ≡ x.row)
same-slots x y same = by (x.bay.0 == y.bay.0) (x.row.0 == y.row.0) refl refl same
  where
    by : (b c : Bool) → (x.bay.0 == y.bay.0) ≡ b → (x.row.0 == y.row.0) ≡ c → (b && c) ≡ true → (y.bay ≡ x.bay) × (y.row ≡ x.row)
    by true true e f t =
        let bays : y.bay.0 ≡ x.bay.0 = grind (arith, nat_tests) in
        let rows : y.row.0 ≡ x.row.0 = grind (arith, nat_tests) in
        (ap (λ (k : ℕ). record { 0 = k }) bays, ap (λ (k : ℕ). record { 0 = k }) rows)
    by true false e f t = absurd (cc)
    by false c e f t = absurd (cc)

-- a release of this slot
abbrev pub IsFreeing : BayNo → RowNo → Call → Type 0
IsFreeing at row call = (call.bay ≡ at) × (id : Number) × (o : Option Number) × (call.ask.what ≡ Release row id o)

-- Under locks a slot of which a share was granted is held, or it was released.
module _ (id : Number) (at : BayNo) (row : RowNo) where
  abbrev Here : Slot
  Here = record { bay = at; row = row }

  abbrev IsHeldOrFreed : List Call → Type 0
  IsHeldOrFreed calls = HasSlot (Here) (holds Lock calls) ⊎ ((d : Call) × IsIn d calls × IsFreeing at row d)

  held-new : (call : Call) (held : List Holding) (grant : Grant) → IsShare at row call → grant_of call.answer.reply ≡ Some grant →
      HasSlot (Here) (held_after Lock held call.bay call.ask.what call.answer.reply)
  held-new call held grant (place, by, want, what) granted =
      subst (λ (w : Request). HasSlot (Here) (held_after Lock held call.bay w call.answer.reply)) (sym what)
      (subst (λ (o : Option Grant). HasSlot (Here) (claimed (record { bay = call.bay; row = row }) o held)) (sym granted) (inl (ap (λ (b : BayNo). record { bay = b; row = row }) place)))

  claimed-keeps : (slot : Slot) (o : Option Grant) (held : List Holding) → HasSlot (Here) held → HasSlot (Here) (claimed slot o held)
  claimed-keeps slot None held i = i
  claimed-keeps slot (Some grant) held i = inr i

  more : (call : Call) (earlier : List Call) (w : Request) → call.ask.what ≡ w → IsReading id w → IsHeldOrFreed earlier → IsHeldOrFreed (call ∷ earlier)
  more call earlier w e is (inr (d, i, f)) = inr (d, inr i, f)
  more call earlier (Share r by want) e is (inl held) =
      inl (subst (λ (x : Request). HasSlot (Here) (held_after Lock (holds Lock earlier) call.bay x call.answer.reply)) (sym e)
      (claimed-keeps (record { bay = call.bay; row = r }) (grant_of call.answer.reply) (holds Lock earlier) held))
  more call earlier (Release r by o) e is (inl held) = decide (is_slot (Here) (record { bay = call.bay; row = r })) refl
    where
      decide : (b : Bool) → is_slot (Here) (record { bay = call.bay; row = r }) ≡ b → IsHeldOrFreed (call ∷ earlier)
      decide true same =
          let parts = same-slots (Here) (record { bay = call.bay; row = r }) same in
          inr (call, inl refl, (parts.0, by, o, e ∙ ap (λ (x : RowNo). Release x by o) parts.1))
      decide false apart =
          inl (subst (λ (x : Request). HasSlot (Here) (held_after Lock (holds Lock earlier) call.bay x call.answer.reply)) (sym e)
          (slot-kept (Here) (record { bay = call.bay; row = r }) (holds Lock earlier) apart held))
  more call earlier (Claim r by how mask want) e is (inl held) = absurd is
  more call earlier (Confirm r by want) e is (inl held) = absurd is
  more call earlier (Put r by n cell) e is (inl held) = absurd is
  more call earlier Lose e is (inl held) = absurd is
  more call earlier Fit e is (inl held) = absurd is

  pub given-back : (calls : List Call) → AllByRecursion (λ (c : Call). IsReading id c.ask.what) calls → (c : Call) (grant : Grant) → IsIn c calls → IsShare at row c → grant_of c.answer.reply ≡ Some grant →
      IsHeldOrFreed calls
  given-back [] reads c grant i shares granted = absurd i
  given-back (call ∷ earlier) reads c grant (inl same) shares granted =
      inl (held-new call (holds Lock earlier) grant (subst (λ (x : Call). IsShare at row x) (sym same) shares) (ap (λ (x : Call). grant_of x.answer.reply) same ∙ granted))
  given-back (call ∷ earlier) reads c grant (inr i) shares granted = more call earlier call.ask.what refl reads.0 (given-back earlier reads.1 c grant i shares granted)
