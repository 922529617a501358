-- Writes give back what they hold.
use Rattle.std.proofs.Common.{◌≡◌, ◌⊎◌, inl, inr, refl, sym, subst, ◌∙◌, ℕ, Bool, true, false, cond, List, [], ◌∷◌, ◌++◌, Option, Some, None, IfSome, option_map, Result, Ok, Err}
use Rattle.std.proofs.lemmas.List.{append-nil}
use Rattle.raid_base.specs.declared.numbers.BayNo.{BayNo}
use Rattle.raid_base.specs.declared.numbers.Number.{Number}
use Rattle.raid_base.specs.declared.numbers.Spent.{Spent}
use Rattle.raid_base.specs.declared.messages.How.TheVariants.{Plain}
use Rattle.raid_base.specs.declared.messages.Mode.{Mode}
use Rattle.raid_base.specs.declared.messages.Mode.TheVariants.{Lock, Order}
use Rattle.raid_base.specs.declared.messages.Request.{Request}
use Rattle.raid_base.specs.declared.messages.Request.TheVariants.{Share, Claim}
use Rattle.raid_base.specs.declared.messages.Reply.{Reply}
use Rattle.raid_base.specs.declared.messages.Errand.{Errand}
use Rattle.raid_base.specs.declared.messages.Grant.{Grant}
use Rattle.raid_base.specs.declared.cells.Cell.{Cell}
use Rattle.raid_base.specs.declared.jobs.Cause.{Cause}
use Rattle.raid_base.specs.declared.jobs.Cause.TheVariants as causes
use Rattle.raid_base.specs.declared.jobs.Ended.TheVariants as ends
use Rattle.raid_base.specs.declared.jobs.Plan.{Plan}
use Rattle.raid_base.specs.declared.jobs.Plan.TheVariants.{Full, Small, Reconstruct}
use Rattle.raid_base.specs.declared.jobs.RowPart.{RowPart}
use Rattle.raid_base.specs.Replies.{held_of, is_missing}
use Rattle.raid_base.specs.Steps.{Steps, ◌>>=◌, Walk, Through, Stopped, run}
use Rattle.stripe_layout.specs.Placement.{parity_bay, bay_of, units_in, units_out}
use Rattle.attempts.specs.Taking.{Access, Finish, finish, refused_by_quit, Row, fresh_row, Rows, no_rows, Taken, begun, row_ended, lacks, behind_from, refusal, why, with_grant, with_parity, with_wanted, with_other}
use Rattle.attempts.specs.Releases.{end_as, refused_steps, claims_granted, write_holds, write_releases}
use Rattle.attempts.specs.Reading.{row_readers}
use Rattle.attempts.specs.Puts.{plan_of, is_small_plan, Puts, no_puts, at_row, data_puts, putting_data, parity_put, putting_parity, with_trouble, trouble_of, first_cause, written_or}
use Rattle.attempts.specs.Writing.{write_stopped, finishing, reader_releases, write_end, write_last, parity_done, put_parity, data_done, put_rows, put_steps, write_drawn, write_numbered, held_row, confirmed_row, unrefused_row, row_or_change, confirming, confirm_cause, row_confirmed, confirm_rows, claiming, row_claimed, wanted_claims, claim_wanted, share_others, small_claimed, share_stopped, others_shared, claim_row, parity_claimed, parity_claim, claim_rows, write_steps}
use Rattle.attempts.specs.Phases.{Slot}
use Rattle.attempts.specs.Returns.{Holding, shared, claimed, HasLetGo, WritesReturn}
use Rattle.attempts.proofs.RoomLemmas.{parts_of}
use Rattle.attempts.proofs.TakenLemmas.{SoFar, so_far-more}
use Rattle.attempts.proofs.PhaseLemmas.{all-weaken, row-releases, slot_on}
use Rattle.attempts.proofs.ReturnLemmas.{Among, IsFreed, nothing-held, Walked, walked-more, readers-wanted, readers-other, claims-wanted, readers-all, readers-wanted_new, claims-wanted_new, readers-other_new, readers-parity_new, claims-parity_new, InRow, InRows, HeldIn, rows-more, rows-new, rows-freed, IfHeld, take-holds, gives-all-back, ReturnsIf, Any, returns-all, returns-any, returns-confirm, returns-one, returns-units, returns-until}

-- one row is put in another's place
rows-swap : (gives : Row → List BayNo) (before : List Row) (row later : Row) (left : List Row) (slot : Slot) → (InRow gives row slot → InRow gives later slot)
    → InRows gives (before ++ row ∷ left) slot → InRows gives ((before ++ later ∷ []) ++ left) slot
rows-swap gives [] row later left slot grows (inl i) = inl (grows i)
rows-swap gives [] row later left slot grows (inr i) = inr i
rows-swap gives (x ∷ before) row later left slot grows (inl i) = inl i
rows-swap gives (x ∷ before) row later left slot grows (inr i) = inr (rows-swap gives before row later left slot grows i)

some-map : {X Y : Type 0} (P : Y → Type 0) (f : X → Y) (o : Option X) → IfSome o (λ x. P (f x)) → IfSome (option_map f o) P
some-map P f None p = tt
some-map P f (Some x) p = p

some-weaken : {X : Type 0} (P Q : X → Type 0) → ((x : X) → P x → Q x) → (o : Option X) → IfSome o P → IfSome o Q
some-weaken P Q each None p = tt
some-weaken P Q each (Some x) p = each x p

-- what a write holds of a row
abbrev pub write_gives : ℕ → Mode → Row → List BayNo
write_gives n Lock row = row_readers n row
write_gives n Order row = claims_granted n row

module _ (a : Access) (P : Request → Reply → Type 0) (Q : List Holding → Finish → Type 0) (refused : (held : List Holding) (cause : Cause) → held ≡ [] → Q held (finish (ends.Refused cause)))
    (puts_return : (n : Number) (rows : List Row) (held : List Holding) → parts_of rows ≡ a.parts → HeldIn (write_gives a.n a.mode) rows held → ReturnsIf P a.mode Q held (put_steps a n rows)) where
  abbrev gives : Mode → Row → List BayNo
  gives = write_gives a.n

  abbrev Writes : List Holding → Steps Finish → Type 0
  Writes held s = ReturnsIf P a.mode Q held s

  abbrev Held : List Row → List Holding → Type 0
  Held rows held = HeldIn (gives a.mode) rows held

  refuses : (rows : List Row) (cause : Cause) (held : List Holding) → Held rows held → Writes held (refused_steps (write_releases a rows) cause)
  refuses rows cause held all =
      gives-all-back P a.mode Q a.id (λ h. ⊥) (λ u e r. u) refused_by_quit (λ _ _. []) (end_as (ends.Refused cause)) (λ held u none. refused held cause (nothing-held held none))
      (write_releases a rows) held tt (row-releases a.id None (write_holds a.mode a.n) rows)
      (all-weaken (λ (h : Holding). InRows (gives a.mode) rows h.slot) (λ (h : Holding). ⊥ ⊎ IsFreed (write_releases a rows) h.slot)
      (λ h i. inr (rows-freed (gives a.mode) a.id None (write_holds a.mode a.n) (each a.mode) rows h.slot i)) held all) where
        each : (mode : Mode) (row : Row) → Among (gives mode row) (write_holds mode a.n row)
        each Lock row = readers-all a.n row
        each Order row = λ bay i. i

  -- The lock point
  numbered-returns : (mode : Mode) (rows : List Row) (held : List Holding) → parts_of rows ≡ a.parts → Held rows held → Writes held (write_numbered mode a rows)
  numbered-returns Order rows held parts all = puts_return a.id rows held parts all
  numbered-returns Lock rows held parts all = given where
    given : (d : Result Number Spent) → Writes held (write_drawn a rows d)
    given (Ok n) = puts_return n rows held parts all
    given (Err spent) = refuses rows (causes.Spent spent.seen) held all

  -- Confirms
  -- a row of the same part that has the same slots
  abbrev IsSameRow : Row → Row → Type 0
  IsSameRow row later = (later.part ≡ row.part) × ((slot : Slot) → InRow (gives a.mode) row slot → InRow (gives a.mode) later slot)

  with-cell : (mode : Mode) (row : Row) (grant : Grant) (cell : Cell) (slot : Slot) → InRow (gives mode) (record row { parity = Some grant }) slot
      → InRow (gives mode) (record row { parity = Some (record grant { cell = Some cell }) }) slot
  with-cell Lock row grant cell slot i = i
  with-cell Order row grant cell slot i = i

  held-same : (row : Row) (grant : Grant) (want : Bool) (o : Option (Option Cell))
      → IfSome (held_row (record row { parity = Some grant }) grant want o) (IsSameRow (record row { parity = Some grant }))
  held-same row grant want None = tt
  held-same row grant true (Some None) = tt
  held-same row grant true (Some (Some cell)) = (refl, with-cell a.mode row grant cell)
  held-same row grant false (Some cell) = (refl, λ slot i. i)

  confirmed-same : (row : Row) (r : Reply) (o : Option Grant) → IfSome (confirmed_row (record row { parity = o }) r o) (IsSameRow (record row { parity = o }))
  confirmed-same row r None = one (is_missing r) where
    one : (b : Bool) → IfSome (cond b (Some (record row { parity = None })) None) (IsSameRow (record row { parity = None }))
    one true = (refl, λ slot i. i)
    one false = tt
  confirmed-same row r (Some grant) = held-same row grant (lacks row.others) (held_of r)

  unrefused-same : (row : Row) (r : Reply) (o : Option Cause) → IfSome (unrefused_row row r o) (IsSameRow row)
  unrefused-same row r (Some cause) = tt
  unrefused-same row r None = confirmed-same row r row.parity

  confirms-return : (rows left : List Row) (done : Rows) (held : List Holding) → SoFar a done.rows (parts_of left) → Held rows held → Held (done.rows ++ left) held
      → Writes held (confirm_rows a rows left done)
  confirms-return rows [] done held so_far all same =
      numbered-returns a.mode done.rows held (sym (append-nil (parts_of done.rows)) ∙ so_far) (subst (λ rows. Held rows held) (append-nil done.rows) same)
  confirms-return rows (row ∷ left) done held so_far all same =
      returns-confirm P a.mode Q (confirming a row) (row_confirmed a rows row (confirm_rows a rows left)) (parity_bay a.n row.part.row) row.part.row a.id (lacks row.others) held done
      (λ r. some-map (λ (done : Rows). Writes held (confirm_rows a rows left done)) (λ (later : Row). record done { rows = done.rows ++ later ∷ [] })
      (row_or_change (behind_from a.mode a.id) done.missing (parity_bay a.n row.part.row) row r)
      (some-weaken (IsSameRow row) (λ (later : Row). Writes held (confirm_rows a rows left (record done { rows = done.rows ++ later ∷ [] })))
      (λ later is. confirms-return rows left (record done { rows = done.rows ++ later ∷ [] }) held (so_far-more a done.rows later row.part (parts_of left) is.0 so_far) all
      (all-weaken (λ (h : Holding). InRows (gives a.mode) (done.rows ++ row ∷ left) h.slot) (λ (h : Holding). InRows (gives a.mode) ((done.rows ++ later ∷ []) ++ left) h.slot)
      (λ h i. rows-swap (gives a.mode) done.rows row later left h.slot (is.1 h.slot) i) held same))
      (row_or_change (behind_from a.mode a.id) done.missing (parity_bay a.n row.part.row) row r)
      (unrefused-same row r (refusal (behind_from a.mode a.id) done.missing (parity_bay a.n row.part.row) r))))
      (λ e r. refuses rows (confirm_cause a row done e r) held all)

  -- Claims
  -- a row in hand: which others were shared, what is left of its units, and what is held
  record Wanting (left : List RowPart) (part : RowPart) (os : List (Option Grant)) (us : List ℕ) (held : List Holding) (taken : Taken) : Type 0 where
    same : taken.row.part ≡ part
    others : taken.row.others ≡ os
    walked : Walked (units_in a.n taken.row.part.mask) taken.row.wanted us
    so_far : SoFar a taken.before (taken.row.part ∷ left)
    all : Held (taken.before ++ taken.row ∷ []) held

  wanted-grows : (mode : Mode) (o : Option Grant) (row : Row) (slot : Slot) → InRow (gives mode) row slot → InRow (gives mode) (with_wanted o row) slot
  wanted-grows Lock o row slot i = (i.0, readers-wanted a.n o row slot.bay i.1)
  wanted-grows Order o row slot i = (i.0, claims-wanted a.n o row slot.bay i.1)

  wanted-new : (mode : Mode) (grant : Grant) (row : Row) (part : RowPart) (u : ℕ) (us : List ℕ) → row.part ≡ part → Walked (units_in a.n row.part.mask) row.wanted (u ∷ us)
      → InRow (gives mode) (with_wanted (Some grant) row) (slot_on part.row (bay_of a.n part.row u))
  wanted-new Order grant row part u us same walked = claims-wanted_new a.n grant row part u us same walked
  wanted-new Lock grant row part u us same walked = readers-wanted_new a.n grant row part u us same walked

  wanted-kept : (left : List RowPart) (part : RowPart) (os : List (Option Grant)) (u : ℕ) (us : List ℕ) (held : List Holding) (taken : Taken) (o : Option Grant) → Wanting left part os (u ∷ us) held taken
      → Wanting left part os us (claimed (slot_on part.row (bay_of a.n part.row u)) o held) (with_grant with_wanted taken (bay_of a.n part.row u) o)
  wanted-kept left part os u us held taken None j = record {
    same = j.same;
    others = j.others;
    walked = walked-more (units_in a.n taken.row.part.mask) taken.row.wanted None u us j.walked;
    so_far = j.so_far;
    all = take-holds (gives a.mode) Lock taken.before taken.row (with_wanted None taken.row) (slot_on part.row (bay_of a.n part.row u)) None held (wanted-grows a.mode None taken.row) tt j.all;
  }
  wanted-kept left part os u us held taken (Some grant) j = record {
    same = j.same;
    others = j.others;
    walked = walked-more (units_in a.n taken.row.part.mask) taken.row.wanted (Some grant) u us j.walked;
    so_far = j.so_far;
    all =
        take-holds (gives a.mode) Lock taken.before taken.row (with_wanted (Some grant) taken.row) (slot_on part.row (bay_of a.n part.row u)) (Some grant) held (wanted-grows a.mode (Some grant) taken.row)
        (wanted-new a.mode grant taken.row part u us j.same j.walked) j.all;
  }

  -- the others
  record Othering (left : List RowPart) (part : RowPart) (us : List ℕ) (held : List Holding) (taken : Taken) : Type 0 where
    same : taken.row.part ≡ part
    walked : Walked (units_out a.n taken.row.part.mask) taken.row.others us
    so_far : SoFar a taken.before (taken.row.part ∷ left)
    all : Held (taken.before ++ taken.row ∷ []) held

  other-grows : (mode : Mode) (o : Option Grant) (row : Row) (slot : Slot) → InRow (gives mode) row slot → InRow (gives mode) (with_other o row) slot
  other-grows Lock o row slot i = (i.0, readers-other a.n o row slot.bay i.1)
  other-grows Order o row slot i = i

  other-new : (mode : Mode) (grant : Grant) (row : Row) (part : RowPart) (u : ℕ) (us : List ℕ) → row.part ≡ part → Walked (units_out a.n row.part.mask) row.others (u ∷ us)
      → IfHeld (Some grant) mode (InRow (gives mode) (with_other (Some grant) row) (slot_on part.row (bay_of a.n part.row u)))
  other-new Order grant row part u us same walked = tt
  other-new Lock grant row part u us same walked = readers-other_new a.n grant row part u us same walked

  other-kept : (left : List RowPart) (part : RowPart) (u : ℕ) (us : List ℕ) (held : List Holding) (taken : Taken) (o : Option Grant) → Othering left part (u ∷ us) held taken
      → Othering left part us (shared a.mode (slot_on part.row (bay_of a.n part.row u)) o held) (with_grant with_other taken (bay_of a.n part.row u) o)
  other-kept left part u us held taken None j = record {
    same = j.same;
    walked = walked-more (units_out a.n taken.row.part.mask) taken.row.others None u us j.walked;
    so_far = j.so_far;
    all = take-holds (gives a.mode) a.mode taken.before taken.row (with_other None taken.row) (slot_on part.row (bay_of a.n part.row u)) None held (other-grows a.mode None taken.row) tt j.all;
  }
  other-kept left part u us held taken (Some grant) j = record {
    same = j.same;
    walked = walked-more (units_out a.n taken.row.part.mask) taken.row.others (Some grant) u us j.walked;
    so_far = j.so_far;
    all =
        take-holds (gives a.mode) a.mode taken.before taken.row (with_other (Some grant) taken.row) (slot_on part.row (bay_of a.n part.row u)) (Some grant) held (other-grows a.mode (Some grant) taken.row)
        (other-new a.mode grant taken.row part u us j.same j.walked) j.all;
  }

  -- shared before the claims
  record Sharing (left : List RowPart) (part : RowPart) (us : List ℕ) (held : List Holding) (taken : Taken) : Type 0 where
    wanted : taken.row.wanted ≡ []
    others : Othering left part us held taken

  module _ (left : List RowPart) (rest : Rows → Steps Finish)
      (rest_returns : (done : Rows) (held : List Holding) → SoFar a done.rows left → Held done.rows held → Writes held (rest done)) where
    abbrev AtUnits : List (Option Grant) → List Holding → Taken → Type 0
    AtUnits os held taken = Wanting left taken.row.part os (units_in a.n taken.row.part.mask) held taken

    stopped-returns : (held : List Holding) (taken : Taken) (e : Errand) (r : Reply) → Held (taken.before ++ taken.row ∷ []) held → Writes held (write_stopped a taken e r)
    stopped-returns held taken e r all = refuses (taken.before ++ taken.row ∷ []) (why (behind_from a.mode a.id) taken e r) held all

    ended-returns : (held : List Holding) (taken : Taken) → SoFar a taken.before (taken.row.part ∷ left) → Held (taken.before ++ taken.row ∷ []) held → Writes held (rest (row_ended taken))
    ended-returns held taken so_far all = rest_returns (row_ended taken) held (so_far-more a taken.before taken.row taken.row.part left refl so_far) all

    -- a walk over the units, whatever follows
    claims-return : (want : Bool) (os : List (Option Grant)) (f : Walk Taken → Steps Finish)
        → ((part : RowPart) (held : List Holding) (taken : Taken) → Wanting left part os [] held taken → Writes held (f (Through taken)))
        → ((held : List Holding) (taken : Taken) (e : Errand) (r : Reply) → Held (taken.before ++ taken.row ∷ []) held → Writes held (f (Stopped taken e r)))
        → (held : List Holding) (taken : Taken) → AtUnits os held taken
        → Writes held (run (claiming a with_wanted) (wanted_claims a want taken.row.part) taken >>= f)
    claims-return want os f on off held taken j =
        let part : RowPart = taken.row.part in
        returns-units P a.mode Q Lock part.row (Claim part.row a.id Plain 0 want) (λ held bay r. refl) (behind_from a.mode a.id) with_wanted (bay_of a.n part.row) (Wanting left part os) f
        (λ u us held taken o j. wanted-kept left part os u us held taken o j)
        (λ held taken j. on part held taken j)
        (λ u us held taken e r j. off held taken e r j.all)
        (units_in a.n part.mask) held taken j

    claim-wanted : (want : Bool) (os : List (Option Grant)) (held : List Holding) (taken : Taken) → AtUnits os held taken → Writes held (claim_wanted a rest want taken)
    claim-wanted want os held taken j = claims-return want os (row_claimed a rest) (λ part held taken j. ended-returns held taken j.so_far j.all) stopped-returns held taken j

    share-others : (b : Bool) (part : RowPart) (held : List Holding) (taken : Taken) → Wanting left part [] [] held taken → Writes held (share_others a rest taken b)
    share-others false part held taken j = ended-returns held taken j.so_far j.all
    share-others true part held taken j =
        let part : RowPart = taken.row.part in
        returns-units P a.mode Q a.mode part.row (Share part.row a.id true) (λ held bay r. refl) (behind_from a.mode a.id) with_other (bay_of a.n part.row) (Othering left part) (row_claimed a rest)
        (λ u us held taken o j. other-kept left part u us held taken o j)
        (λ held taken j. ended-returns held taken j.so_far j.all)
        (λ u us held taken e r j. stopped-returns held taken e r j.all)
        (units_out a.n part.mask) held taken
        (record {
          same = refl;
          walked = subst (λ os. Walked (units_out a.n taken.row.part.mask) os (units_out a.n taken.row.part.mask)) (sym j.others) refl;
          so_far = j.so_far;
          all = j.all;
        })

    at-units : (os : List (Option Grant)) (held : List Holding) (taken : Taken) → taken.row.wanted ≡ [] → taken.row.others ≡ os → SoFar a taken.before (taken.row.part ∷ left)
        → Held (taken.before ++ taken.row ∷ []) held → AtUnits os held taken
    at-units os held taken none others so_far all = record {
      same = refl;
      others = others;
      walked = subst (λ ws. Walked (units_in a.n taken.row.part.mask) ws (units_in a.n taken.row.part.mask)) (sym none) refl;
      so_far = so_far;
      all = all;
    }

    share-stopped : (held : List Holding) (taken : Taken) (bay : BayNo) → taken.row.wanted ≡ [] → SoFar a taken.before (taken.row.part ∷ left) → Held (taken.before ++ taken.row ∷ []) held → (o : Option Cause)
        → Writes held (share_stopped a rest taken bay o)
    share-stopped held taken bay none so_far all (Some cause) = refuses (taken.before ++ taken.row ∷ []) cause held all
    share-stopped held taken bay none so_far all None =
        claim-wanted true (taken.row.others ++ None ∷ []) held (with_grant with_other taken bay None)
        (at-units (taken.row.others ++ None ∷ []) held (with_grant with_other taken bay None) none refl so_far
        (take-holds (gives a.mode) Order taken.before taken.row (with_other None taken.row) (slot_on taken.row.part.row bay) None held (other-grows a.mode None taken.row) tt all))

    claim-row : (held : List Holding) (taken : Taken) → taken.row.wanted ≡ [] → taken.row.others ≡ [] → SoFar a taken.before (taken.row.part ∷ left)
        → Held (taken.before ++ taken.row ∷ []) held → (o : Option Grant) (plan : Plan)
        → Writes held (claim_row a rest taken o plan)
    claim-row held taken wanted others so_far all None plan = claim-wanted false [] held taken (at-units [] held taken wanted others so_far all)
    claim-row held taken wanted others so_far all (Some grant) Full = claim-wanted false [] held taken (at-units [] held taken wanted others so_far all)
    claim-row held taken wanted others so_far all (Some grant) Small =
        claims-return true [] (small_claimed a rest) (λ part held taken j. share-others (lacks taken.row.wanted) part held taken j) stopped-returns held taken (at-units [] held taken wanted others so_far all)
    claim-row held taken wanted others so_far all (Some grant) Reconstruct =
        let part : RowPart = taken.row.part in
        returns-until P a.mode Q a.mode part.row (Share part.row a.id true) (λ held bay r. refl) with_other (bay_of a.n part.row) (Sharing left part) (others_shared a rest)
        (λ u us held taken grant j. record { wanted = j.wanted; others = other-kept left part u us held taken (Some grant) j.others })
        (λ held taken j. claim-wanted false taken.row.others held taken (at-units taken.row.others held taken j.wanted refl j.others.so_far j.others.all))
        (λ u us held taken e r j. share-stopped held taken e.bay j.wanted j.others.so_far j.others.all (refusal (behind_from a.mode a.id) taken.missing e.bay r))
        (units_out a.n part.mask) held taken
        (record {
          wanted = wanted;
          others = record {
            same = refl;
            walked = subst (λ os. Walked (units_out a.n taken.row.part.mask) os (units_out a.n taken.row.part.mask)) (sym others) refl;
            so_far = so_far;
            all = all;
          };
        })

    parity-new : (mode : Mode) (grant : Grant) (row : Row) → InRow (gives mode) (with_parity (Some grant) row) (slot_on row.part.row (parity_bay a.n row.part.row))
    parity-new Order grant row = claims-parity_new a.n grant row
    parity-new Lock grant row = readers-parity_new a.n grant row

    begun-row : (part : RowPart) (done : Rows) (held : List Holding) (o : Option Grant) → Held done.rows held
        → Held (done.rows ++ with_parity o (fresh_row part) ∷ []) held
    begun-row part done held o all =
        all-weaken (λ (h : Holding). InRows (gives a.mode) done.rows h.slot) (λ (h : Holding). InRows (gives a.mode) (done.rows ++ with_parity o (fresh_row part) ∷ []) h.slot)
        (λ h i. rows-more (gives a.mode) done.rows (with_parity o (fresh_row part)) h.slot i) held all

    row-returns : (part : RowPart) (done : Rows) (held : List Holding) → SoFar a done.rows (part ∷ left) → Held done.rows held
        → Writes held (run (claiming a with_parity) (parity_claim a part ∷ []) (begun part done) >>= parity_claimed a rest)
    row-returns part done held so_far all =
        returns-one P a.mode Q Lock part.row (Claim part.row a.id Plain part.mask (is_small_plan (plan_of a part))) (λ held bay r. refl) (behind_from a.mode a.id) with_parity
        (parity_claimed a rest) (parity_bay a.n part.row) held (begun part done) given
        (λ e r. stopped-returns held (begun part done) e r (begun-row part done held None all)) where
          given : (o : Option Grant) → Writes (claimed (slot_on part.row (parity_bay a.n part.row)) o held) (parity_claimed a rest (Through (with_grant with_parity (begun part done) (parity_bay a.n part.row) o)))
          given None =
              claim-row held (with_grant with_parity (begun part done) (parity_bay a.n part.row) None) refl refl so_far (begun-row part done held None all) None (plan_of a part)
          given (Some grant) =
              claim-row (claimed (slot_on part.row (parity_bay a.n part.row)) (Some grant) held) (with_grant with_parity (begun part done) (parity_bay a.n part.row) (Some grant)) refl refl so_far (
                rows-new (gives a.mode) done.rows (with_parity (Some grant) (fresh_row part)) (slot_on part.row (parity_bay a.n part.row)) (parity-new a.mode grant (fresh_row part)),
                begun-row part done held (Some grant) all,
              )
              (Some grant) (plan_of a part)

  pub rows-return : (left : List RowPart) (done : Rows) (held : List Holding) → SoFar a done.rows left → Held done.rows held → Writes held (claim_rows a left done)
  rows-return [] done held so_far all =
      confirms-return done.rows done.rows (record done { rows = [] }) held (sym (append-nil (parts_of done.rows)) ∙ so_far) all all
  rows-return (part ∷ left) done held so_far all =
      row-returns left (claim_rows a left) (λ done held so_far all. rows-return left done held so_far all) part done held so_far all

-- Refused, it holds nothing
module _ (a : Access) where
  abbrev LetsGo : List Holding → Steps Finish → Type 0
  LetsGo held s = ReturnsIf Any a.mode HasLetGo held s

  -- once it puts it is not refused any more
  written-ends : (held : List Holding) (n : Number) (made : List ℕ) (o : Option Cause) → HasLetGo held (finish (written_or n made o))
  written-ends held n made None = tt
  written-ends held n made (Some cause) = tt

  end-returns : (n : Number) (held : List Holding) (walk : Walk Puts) → LetsGo held (write_end a n walk)
  end-returns n held (Through puts) = written-ends held n puts.made (first_cause a puts.made puts.troubles)
  end-returns n held (Stopped puts e r) = written-ends held n puts.made (first_cause a puts.made puts.troubles)

  last-returns : (n : Number) (rows : List Row) (puts : Puts) (held : List Holding) → LetsGo held (write_last a n rows puts)
  last-returns n rows puts held = returns-any Any a.mode HasLetGo (finishing a n) (write_end a n) (end-returns n) (reader_releases a.mode a rows) held puts

  module _ (n : Number) (row : Row) (rest : Puts → Steps Finish) (rest_returns : (puts : Puts) (held : List Holding) → LetsGo held (rest puts)) where
    parity-returns : (held : List Holding) (walk : Walk Puts) → LetsGo held (parity_done row rest walk)
    parity-returns held (Through puts) = rest_returns puts held
    parity-returns held (Stopped puts e r) = rest_returns (with_trouble puts (trouble_of row e r)) held

    put-parity : (puts : Puts) (held : List Holding) (o : Option Grant) → LetsGo held (put_parity a n row rest puts o)
    put-parity puts held None = rest_returns puts held
    put-parity puts held (Some grant) = returns-any Any a.mode HasLetGo (putting_parity a n row) (parity_done row rest) parity-returns (parity_put a n row ∷ []) held puts

    data-returns : (held : List Holding) (walk : Walk Puts) → LetsGo held (data_done a n row rest walk)
    data-returns held (Through puts) = put-parity puts held row.parity
    data-returns held (Stopped puts e r) = rest_returns (with_trouble puts (trouble_of row e r)) held

  puts-return : (n : Number) (last : Puts → Steps Finish) → ((puts : Puts) (held : List Holding) → LetsGo held (last puts)) → (rows : List Row) (puts : Puts) (held : List Holding)
      → LetsGo held (put_rows a n last rows puts)
  puts-return n last end [] puts held = end puts held
  puts-return n last end (row ∷ rows) puts held =
      returns-any Any a.mode HasLetGo (putting_data a n row) (data_done a n row (put_rows a n last rows))
      (data-returns n row (put_rows a n last rows) (λ puts held. puts-return n last end rows puts held)) (data_puts a n row) held (at_row puts)

  put-steps : (n : Number) (rows : List Row) (held : List Holding) → LetsGo held (put_steps a n rows)
  put-steps n rows held = puts-return n (write_last a n rows) (last-returns n rows) rows no_puts held

pub writes_return : WritesReturn
writes_return a =
    returns-all a.mode HasLetGo [] (write_steps a)
    (rows-return a Any HasLetGo (λ held cause none. none) (λ n rows held parts all. put-steps a n rows held) a.parts no_rows [] refl tt)
