-- What attempts claim and share, and how they end where their host stops.
use Rattle.std.proofs.Common.{◌≡◌, ◌⊎◌, inl, inr, ℕ, ◌-◌, ◌<◌, ◌≤◌, ◌==◌, not, Bool, true, false, if◌then◌else◌, List, [], ◌∷◌, ◌++◌, map, flat_map, filter, Option, Some, None, IfSome, option_map, Result, Ok, Err, refl, sym, ap, subst, ◌∙◌}
use Rattle.std.specs.List.{AllByRecursion}
use Rattle.raid_base.specs.declared.numbers.BayNo.{BayNo}
use Rattle.raid_base.specs.declared.numbers.RowNo.{RowNo}
use Rattle.raid_base.specs.declared.numbers.Number.{Number}
use Rattle.raid_base.specs.declared.numbers.Spent.{Spent}
use Rattle.raid_base.specs.declared.messages.Mode.{Mode}
use Rattle.raid_base.specs.declared.messages.Mode.TheVariants.{Lock, Order}
use Rattle.raid_base.specs.declared.messages.How.{How}
use Rattle.raid_base.specs.declared.messages.How.TheVariants.{Plain, Mend, Seize}
use Rattle.raid_base.specs.declared.messages.Request.{Request}
use Rattle.raid_base.specs.declared.messages.Request.TheVariants.{Share, Claim, Confirm, Put, Release, Lose, Fit}
use Rattle.raid_base.specs.declared.messages.Reply.{Reply}
use Rattle.raid_base.specs.declared.messages.Errand.{Errand}
use Rattle.raid_base.specs.declared.messages.Grant.{Grant}
use Rattle.raid_base.specs.declared.jobs.Cause.{Cause}
use Rattle.raid_base.specs.declared.jobs.Cause.TheVariants as causes
use Rattle.raid_base.specs.declared.jobs.Ended.{Ended}
use Rattle.raid_base.specs.declared.jobs.Ended.TheVariants as ends
use Rattle.raid_base.specs.declared.jobs.Plan.{Plan}
use Rattle.raid_base.specs.declared.jobs.Plan.TheVariants.{Full, Small, Reconstruct}
use Rattle.raid_base.specs.declared.jobs.RowPart.{RowPart}
use Rattle.raid_base.specs.Cells.{has_unit}
use Rattle.raid_base.specs.Replies.{grant_of}
use Rattle.raid_base.specs.Steps.{Steps, Asks, Draws, Ends, bind, go_on, Walk, Through, Stopped, Phase, run}
use Rattle.stripe_layout.specs.Placement.{parity_bay, bay_of, bays_of, units, units_in, units_out, parity_first}
use Rattle.stripe_layout.proofs.LayoutLemmas.{unit_apart, unit_distinct}
use Rattle.attempts.specs.declared.Repair.{Repair}
use Rattle.attempts.specs.declared.Rescue.{Rescue}
use Rattle.attempts.specs.declared.Hold.{Hold}
use Rattle.attempts.specs.Taking.{Access, Finish, Row, Rows, no_rows, Taken, begun, row_ended, with_parity, with_wanted, with_other, with_grant, lacks, behind_from, grant_or_gap, refusal, taking, taking_until, why, share, shares, claim, claims, confirm}
use Rattle.attempts.specs.Releases.{releases, releasing, end_as, released_steps, refused_steps, read_holds, write_holds, read_releases, write_releases, others_granted, parity_granted}
use Rattle.attempts.specs.Reading.{sharing, read_refused, row_readers, numbered_releases, freeing, read_freed, read_drawn, read_numbered, row_shared, parity_shared, share_rest, wanted_shared, read_rows, read_steps}
use Rattle.attempts.specs.Puts.{plan_of, flags, part_by_quit, Puts, no_puts, at_row, put, data_put, data_puts, putting_data, parity_put, putting_parity, with_trouble, trouble_of}
use Rattle.attempts.specs.Writing.{write_stopped, finishing, reader_releases, write_end, write_last, parity_done, put_parity, data_done, put_rows, write_drawn, write_numbered, row_confirm, confirming, confirm_cause, row_confirmed, confirm_rows, claiming, row_claimed, wanted_claims, other_shares, claim_wanted, share_others, small_claimed, share_stopped, others_shared, claim_row, parity_claimed, parity_claim, claim_rows, write_steps}
use Rattle.attempts.specs.Mending.{mending, with_hold, mend_why, mend_releases, without_target, mended_cell, put_cause, mend_putting, mend_put, mend_numbered, is_shown, mend_drawn, mend_confirmed, mend_confirming, mend_claimed, mend_steps}
use Rattle.attempts.specs.Recovery.{whole_part, unseized_data, granted_data, unseized_parity, give_back, recover_refused, Verdict, Leaves, Sums, verdict, recovered_parity, recover_putting, closing, recover_put, recover_by, recover_drawn, recover_confirmed, recover_confirming, units_seized, seize_units, parity_taken, parity_seized, recover_steps}
use Rattle.attempts.specs.Phases.{IsIn, HasRow, RowsDiffer}
use Rattle.attempts.proofs.SoundLemmas.{units-all}

-- an attempt that seizes claims alone, and claims only by seizure
abbrev pub IfSeizes : Bool → How → Type 0
IfSeizes true how = how ≡ Seize
IfSeizes false how = Unit {0}

-- where it does not seize, its host's stop ends it refused, mended or done in part
abbrev pub StopsWell : Bool → Ended → Type 0
StopsWell true _ = Unit {0}
StopsWell false (ends.Read n) = ⊥
StopsWell false (ends.Wrote n) = ⊥
StopsWell false (ends.Part n made cause) = Unit {0}
StopsWell false (ends.Refused cause) = Unit {0}
StopsWell false (ends.Recovered n closed lost) = ⊥
StopsWell false ends.Mended = Unit {0}

refused-well : (seizes : Bool) (cause : Cause) → StopsWell seizes (ends.Refused cause)
refused-well true cause = tt
refused-well false cause = tt

-- W says which slots it claims: it shares none of these
module _ (W : BayNo → RowNo → Type 0) (seizes : Bool) where
  abbrev pub IsWell : BayNo → Request → Type 0
  IsWell bay (Share row id want) = (seizes ≡ false) × (W bay row → ⊥)
  IsWell bay (Claim row id how mask want) = W bay row × IfSeizes seizes how
  IsWell bay (Confirm row id want) = Unit {0}
  IsWell bay (Put row id n cell) = Unit {0}
  IsWell bay (Release row id n) = Unit {0}
  IsWell bay Lose = Unit {0}
  IsWell bay Fit = Unit {0}

  abbrev pub Walks : Steps Finish → Type 0
  Walks (Ends f) = Unit {0}
  Walks (Draws k) = (d : Result Number Spent) → Walks (k d)
  Walks (Asks e s c k) = IsWell e.bay e.request × StopsWell seizes s × ((r : Reply) → Walks (k r))

  abbrev pub AllWell : List Errand → Type 0
  AllWell es = AllByRecursion (λ (e : Errand). IsWell e.bay e.request) es

  well-map : {X : Type 0} (P : X → Type 0) (make : X → Errand) → ((x : X) → P x → IsWell (make x).bay (make x).request) → (xs : List X) → AllByRecursion P xs → AllWell (map make xs)
  well-map P make well [] all = tt
  well-map P make well (x ∷ xs) all = (well x all.0, well-map P make well xs all.1)

  well-append : (es ds : List Errand) → AllWell es → AllWell ds → AllWell (es ++ ds)
  well-append [] ds well more = more
  well-append (e ∷ es) ds well more = (well.0, well-append es ds well.1 more)

  well-flat : {X : Type 0} (make : X → List Errand) → ((x : X) → AllWell (make x)) → (xs : List X) → AllWell (flat_map make xs)
  well-flat make well [] = tt
  well-flat make well (x ∷ xs) = well-append (make x) (flat_map make xs) (well x) (well-flat make well xs)

  well-releases : (id : Number) (row : RowNo) (n : Option Number) (bays : List BayNo) → AllWell (releases id row n bays)
  well-releases id row n [] = tt
  well-releases id row n (bay ∷ bays) = (tt, well-releases id row n bays)

  module _ {A : Type 0} (I : A → Type 0) where
    abbrev pub IsWalked : Walk A → Type 0
    IsWalked (Through a) = I a
    IsWalked (Stopped a e r) = I a

    walks-go : (o : Option A) (g : A → Steps (Walk A)) (s : Steps (Walk A)) (f : Walk A → Steps Finish) → IfSome o I →
        ((a : A) → I a → Walks (bind (g a) f)) → Walks (bind s f) → Walks (bind (go_on o g s) f)
    walks-go (Some a) g s f i on off = on a i
    walks-go None g s f i on off = off

    pub walks-kept : (phase : Phase A) (f : Walk A → Steps Finish) → ((a : A) → StopsWell seizes (phase.stop a)) → ((a : A) (e : Errand) (r : Reply) → I a → IfSome (phase.step a e r) I) →
        ((walk : Walk A) → IsWalked walk → Walks (f walk)) → (es : List Errand) → AllWell es → (a : A) → I a → Walks (bind (run phase es a) f)
    walks-kept phase f stops kept on [] well a i = on (Through a) i
    walks-kept phase f stops kept on (e ∷ es) well a i = (
      well.0,
      stops a,
      λ r. walks-go (phase.step a e r) (λ b. run phase es b) (Ends (Stopped a e r)) f (kept a e r i)
          (λ b j. walks-kept phase f stops kept on es well.1 b j) (on (Stopped a e r) i),
    )

  any-some : {A : Type 0} (o : Option A) → IfSome o (λ a. Unit {0})
  any-some (Some a) = tt
  any-some None = tt

  pub walks-run : {A : Type 0} (phase : Phase A) (f : Walk A → Steps Finish) → ((a : A) → StopsWell seizes (phase.stop a)) → ((walk : Walk A) → Walks (f walk)) →
      (es : List Errand) → AllWell es → (a : A) → Walks (bind (run phase es a) f)
  walks-run {A} phase f stops on es well a = walks-kept (λ (x : A). Unit {0}) phase f stops (λ x e r i. any-some (phase.step x e r)) (λ walk i. on walk) es well a tt

  pub released-walks : (es : List Errand) (ended : Ended) → AllWell es → Walks (released_steps es ended)
  released-walks es ended well = walks-run releasing (end_as ended) (λ u. refused-well seizes causes.Quit) (λ walk. tt) es well tt

  pub refused-walks : (es : List Errand) (cause : Cause) → AllWell es → Walks (refused_steps es cause)
  refused-walks es cause well = released-walks es (ends.Refused cause) well

-- Reads claim nothing
abbrev pub NoSlot : BayNo → RowNo → Type 0
NoSlot bay row = ⊥

abbrev pub AnySlot : BayNo → RowNo → Type 0
AnySlot bay row = Unit {0}

module _ (a : Access) where
  abbrev Reads : Steps Finish → Type 0
  Reads s = Walks NoSlot false s

  read-shares : (row : RowNo) (bays : List BayNo) → AllWell NoSlot false (shares a.id row bays)
  read-shares row [] = tt
  read-shares row (bay ∷ bays) = ((refl, λ w. w), read-shares row bays)

  read-drawn-walks : (rows : List Row) (d : Result Number Spent) → Reads (read_drawn a rows d)
  read-drawn-walks rows (Ok n) =
      walks-run NoSlot false freeing (read_freed a n rows) (λ u. tt) (freed n) (numbered_releases a n rows)
      (well-flat NoSlot false (λ (row : Row). releases a.id row.part.row (Some n) (row_readers a.n row)) (λ row. well-releases NoSlot false a.id row.part.row (Some n) (row_readers a.n row)) rows) None
    where
      freed : (n : Number) (walk : Walk (Option RowNo)) → Reads (read_freed a n rows walk)
      freed n (Through None) = tt
      freed n (Through (Some row)) = tt
      freed n (Stopped row e r) = tt
  read-drawn-walks rows (Err spent) =
      refused-walks NoSlot false (read_releases a rows) (causes.Spent spent.seen)
      (well-flat NoSlot false (λ (row : Row). releases a.id row.part.row None (read_holds a.mode a.n row)) (λ row. well-releases NoSlot false a.id row.part.row None (read_holds a.mode a.n row)) rows)

  read-numbered-walks : (mode : Mode) (rows : List Row) → Reads (read_numbered mode a rows)
  read-numbered-walks Order rows = tt
  read-numbered-walks Lock rows = λ d. read-drawn-walks rows d

  read-stopped : (taken : Taken) (e : Errand) (r : Reply) → Reads (read_refused a taken e r)
  read-stopped taken e r =
      refused-walks NoSlot false (read_releases a (taken.before ++ taken.row ∷ [])) (why (behind_from a.mode a.id) taken e r)
      (well-flat NoSlot false (λ (row : Row). releases a.id row.part.row None (read_holds a.mode a.n row)) (λ row. well-releases NoSlot false a.id row.part.row None (read_holds a.mode a.n row)) (taken.before ++ taken.row ∷ []))

  module _ (rest : Rows → Steps Finish) (on : (rows : Rows) → Reads (rest rows)) where
    row-shares : (walk : Walk Taken) → Reads (row_shared a rest walk)
    row-shares (Through taken) = on (row_ended taken)
    row-shares (Stopped taken e r) = read-stopped taken e r

    parity-shares : (walk : Walk Taken) → Reads (parity_shared a rest walk)
    parity-shares (Stopped taken e r) = read-stopped taken e r
    parity-shares (Through taken) =
        walks-run NoSlot false (sharing a with_other) (row_shared a rest) (λ u. tt) row-shares
        (shares a.id taken.row.part.row (bays_of a.n taken.row.part.row (units_out a.n taken.row.part.mask)))
        (read-shares taken.row.part.row (bays_of a.n taken.row.part.row (units_out a.n taken.row.part.mask))) taken

    rest-shares : (taken : Taken) (lacking : Bool) → Reads (share_rest a rest taken lacking)
    rest-shares taken false = on (row_ended taken)
    rest-shares taken true =
        walks-run NoSlot false (sharing a with_parity) (parity_shared a rest) (λ u. tt) parity-shares
        (share a.id taken.row.part.row (parity_bay a.n taken.row.part.row) ∷ []) ((refl, λ w. w), tt) taken

    wanted-shares : (walk : Walk Taken) → Reads (wanted_shared a rest walk)
    wanted-shares (Stopped taken e r) = read-stopped taken e r
    wanted-shares (Through taken) = rest-shares taken (lacks taken.row.wanted)

  rows-read : (left : List RowPart) (done : Rows) → Reads (read_rows a left done)
  rows-read [] done = read-numbered-walks a.mode done.rows
  rows-read (part ∷ left) done =
      walks-run NoSlot false (sharing a with_wanted) (wanted_shared a (read_rows a left)) (λ u. tt) (wanted-shares (read_rows a left) (rows-read left))
      (shares a.id part.row (bays_of a.n part.row (units_in a.n part.mask))) (read-shares part.row (bays_of a.n part.row (units_in a.n part.mask))) (begun part done)

  pub reads-walk : Reads (read_steps a)
  reads-walk = rows-read a.parts no_rows

-- Writes: the slots of their wanted units, and the parities
in-filter : (q : ℕ → Bool) (P : ℕ → Type 0) (u : ℕ) (us : List ℕ) → AllByRecursion P us → IsIn u (filter q us) → (q u ≡ true) × P u
in-filter q P u [] all i = absurd i
in-filter q P u (x ∷ xs) all i = by (λ h. in-filter q P u xs all.1 h) (q x) refl i
  where
    by : (IsIn u (filter q xs) → (q u ≡ true) × P u) → (b : Bool) → q x ≡ b → IsIn u (if b then x ∷ filter q xs else filter q xs) → (q u ≡ true) × P u
    by more true e (inl same) = (ap q (sym same) ∙ e, subst P same all.0)
    by more true e (inr h) = more h
    by more false e h = more h

has-row : (part : RowPart) (row : RowNo) (parts : List RowPart) → IsIn part parts → part.row ≡ row → HasRow row parts
has-row part row [] i e = i
has-row part row (x ∷ xs) (inl same) e = inl (ap (λ (p : RowPart). p.row) same ∙ e)
has-row part row (x ∷ xs) (inr i) e = inr (has-row part row xs i e)

same-part : (part other : RowPart) (parts : List RowPart) → RowsDiffer parts → IsIn part parts → IsIn other parts → part.row ≡ other.row → part ≡ other
same-part part other [] d i j e = absurd i
same-part part other (x ∷ xs) d (inl h) (inl g) e = sym h ∙ g
same-part part other (x ∷ xs) d (inl h) (inr g) e = absurd (d.0 (has-row other x.row xs g (sym e ∙ ap (λ (p : RowPart). p.row) (sym h))))
same-part part other (x ∷ xs) d (inr h) (inl g) e = absurd (d.0 (has-row part x.row xs h (e ∙ ap (λ (p : RowPart). p.row) (sym g))))
same-part part other (x ∷ xs) d (inr h) (inr g) e = same-part part other xs d.1 h g e

-- a slot that a write claims
abbrev pub Claimed : Access → BayNo → RowNo → Type 0
Claimed a bay row = (part : RowPart) × IsIn part a.parts × (part.row ≡ row)
    × ((bay ≡ parity_bay a.n row) ⊎ ((unit : ℕ) × IsIn unit (units_in a.n part.mask) × (bay ≡ bay_of a.n row unit)))

module _ (a : Access) (three : 3 ≤ a.n) (differ : RowsDiffer a.parts) where
  abbrev Writes : Steps Finish → Type 0
  Writes s = Walks (Claimed a) false s

  abbrev Well : List Errand → Type 0
  Well es = AllWell (Claimed a) false es

  -- a row in hand is one of the parts
  abbrev Of : Taken → Type 0
  Of taken = IsIn taken.row.part a.parts

  wanted-well : (want : Bool) (part : RowPart) → IsIn part a.parts → (us : List ℕ) → ((u : ℕ) → IsIn u us → IsIn u (units_in a.n part.mask)) →
      Well (claims a.id part.row Plain want (bays_of a.n part.row us))
  wanted-well want part i [] among = tt
  wanted-well want part i (u ∷ us) among = (((part, i, refl, inr (u, among u (inl refl), refl)), tt), wanted-well want part i us (λ v j. among v (inr j)))

  apart : (part : RowPart) (u : ℕ) → IsIn part a.parts → IsIn u (units_out a.n part.mask) → Claimed a (bay_of a.n part.row u) part.row → ⊥
  apart part u i out c =
      let o = in-filter (λ unit. not (has_unit part.mask unit)) (λ unit. unit < a.n - 1) u (units a.n) (units-all a.n) out in
      let same : c.0 ≡ part = same-part c.0 part a.parts differ c.1 i c.2 in
      by same o.0 o.1 c.3
    where
      by : c.0 ≡ part → not (has_unit part.mask u) ≡ true → u < a.n - 1 →
          ((bay_of a.n part.row u ≡ parity_bay a.n part.row) ⊎ ((unit : ℕ) × IsIn unit (units_in a.n (c.0).mask) × (bay_of a.n part.row u ≡ bay_of a.n part.row unit))) → ⊥
      by same free below (inl e) = unit_apart a.n part.row u three below e
      by same free below (inr w) =
          let h = in-filter (has_unit (c.0).mask) (λ unit. unit < a.n - 1) w.0 (units a.n) (units-all a.n) w.1 in
          let one : u ≡ w.0 = unit_distinct a.n part.row u w.0 three below h.1 w.2 in
          let has : has_unit part.mask u ≡ true = ap (λ (p : RowPart). has_unit p.mask u) (sym same) ∙ ap (has_unit (c.0).mask) one ∙ h.0 in
          let bad : false ≡ true = ap (λ (b : Bool). not b) (sym has) ∙ free in
          cc

  others-well : (part : RowPart) → IsIn part a.parts → (us : List ℕ) → ((u : ℕ) → IsIn u us → IsIn u (units_out a.n part.mask)) → Well (shares a.id part.row (bays_of a.n part.row us))
  others-well part i [] among = tt
  others-well part i (u ∷ us) among = ((refl, apart part u i (among u (inl refl))), others-well part i us (λ v j. among v (inr j)))

  taken-kept : (keep : Option Grant → Row → Row) → ((g : Option Grant) (row : Row) → (keep g row).part ≡ row.part) → (taken : Taken) (bay : BayNo) (g : Option Grant) → Of taken → Of (with_grant keep taken bay g)
  taken-kept keep same taken bay (Some g) i = subst (λ (p : RowPart). IsIn p a.parts) (sym (same (Some g) taken.row)) i
  taken-kept keep same taken bay None i = subst (λ (p : RowPart). IsIn p a.parts) (sym (same None taken.row)) i

  step-kept : (keep : Option Grant → Row → Row) → ((g : Option Grant) (row : Row) → (keep g row).part ≡ row.part) → (taken : Taken) (e : Errand) (r : Reply) → Of taken →
      IfSome ((claiming a keep).step taken e r) Of
  step-kept keep same taken e r i = by (grant_or_gap (behind_from a.mode a.id) taken.missing e.bay r)
    where
      by : (o : Option (Option Grant)) → IfSome (option_map (with_grant keep taken e.bay) o) Of
      by None = tt
      by (Some g) = taken-kept keep same taken e.bay g i

  until-kept : (keep : Option Grant → Row → Row) → ((g : Option Grant) (row : Row) → (keep g row).part ≡ row.part) → (taken : Taken) (e : Errand) (r : Reply) → Of taken →
      IfSome ((taking_until keep).step taken e r) Of
  until-kept keep same taken e r i = by (grant_of r)
    where
      by : (o : Option Grant) → IfSome (option_map (λ (grant : Grant). with_grant keep taken e.bay (Some grant)) o) Of
      by None = tt
      by (Some g) = taken-kept keep same taken e.bay (Some g) i

  -- puts
  parted : (n : Number) (puts : Puts) → StopsWell false (part_by_quit n puts)
  parted n puts = by puts.answered
    where
      by : (b : Bool) → StopsWell false (if b then ends.Part n (flags puts.made) causes.Quit else ends.Refused causes.Quit)
      by true = tt
      by false = tt

  write-ends : (n : Number) (walk : Walk Puts) → Writes (write_end a n walk)
  write-ends n (Through puts) = tt
  write-ends n (Stopped puts e r) = tt

  readers-well : (mode : Mode) (rows : List Row) → Well (reader_releases mode a rows)
  readers-well Order rows = tt
  readers-well Lock rows =
      well-flat (Claimed a) false (λ (row : Row). releases a.id row.part.row None (bays_of a.n row.part.row (others_granted a.n row)))
      (λ row. well-releases (Claimed a) false a.id row.part.row None (bays_of a.n row.part.row (others_granted a.n row))) rows

  lasts : (n : Number) (rows : List Row) (puts : Puts) → Writes (write_last a n rows puts)
  lasts n rows puts = walks-run (Claimed a) false (finishing a n) (write_end a n) (parted n) (write-ends n) (reader_releases a.mode a rows) (readers-well a.mode rows) puts

  puts-well : (n : Number) (row : Row) (us : List ℕ) → Well (map (data_put a n row) us)
  puts-well n row [] = tt
  puts-well n row (u ∷ us) = (tt, puts-well n row us)

  module _ (n : Number) (rest : Puts → Steps Finish) (on : (puts : Puts) → Writes (rest puts)) (row : Row) where
    parity-ends : (walk : Walk Puts) → Writes (parity_done row rest walk)
    parity-ends (Through puts) = on puts
    parity-ends (Stopped puts e r) = on (with_trouble puts (trouble_of row e r))

    parity-puts : (puts : Puts) (grant : Option Grant) → Writes (put_parity a n row rest puts grant)
    parity-puts puts None = on puts
    parity-puts puts (Some grant) = walks-run (Claimed a) false (putting_parity a n row) (parity_done row rest) (parted n) parity-ends (parity_put a n row ∷ []) (tt, tt) puts

    data-ends : (walk : Walk Puts) → Writes (data_done a n row rest walk)
    data-ends (Through puts) = parity-puts puts row.parity
    data-ends (Stopped puts e r) = on (with_trouble puts (trouble_of row e r))

  rows-put : (n : Number) (all rows : List Row) (puts : Puts) → Writes (put_rows a n (write_last a n all) rows puts)
  rows-put n all [] puts = lasts n all puts
  rows-put n all (row ∷ rows) puts =
      walks-run (Claimed a) false (putting_data a n row) (data_done a n row (put_rows a n (write_last a n all) rows)) (parted n)
      (data-ends n (put_rows a n (write_last a n all) rows) (rows-put n all rows) row) (data_puts a n row) (puts-well n row _) (at_row puts)

  write-refuses : (rows : List Row) (cause : Cause) → Writes (refused_steps (write_releases a rows) cause)
  write-refuses rows cause =
      refused-walks (Claimed a) false (write_releases a rows) cause
      (well-flat (Claimed a) false (λ (row : Row). releases a.id row.part.row None (write_holds a.mode a.n row)) (λ row. well-releases (Claimed a) false a.id row.part.row None (write_holds a.mode a.n row)) rows)

  write-drawn-walks : (rows : List Row) (d : Result Number Spent) → Writes (write_drawn a rows d)
  write-drawn-walks rows (Ok n) = rows-put n rows rows no_puts
  write-drawn-walks rows (Err spent) = write-refuses rows (causes.Spent spent.seen)

  write-numbered-walks : (mode : Mode) (rows : List Row) → Writes (write_numbered mode a rows)
  write-numbered-walks Order rows = rows-put a.id rows rows no_puts
  write-numbered-walks Lock rows = λ d. write-drawn-walks rows d

  -- confirms
  row-confirms : (rows : List Row) (row : Row) (rest : Rows → Steps Finish) → ((done : Rows) → Writes (rest done)) → (walk : Walk Rows) → Writes (row_confirmed a rows row rest walk)
  row-confirms rows row rest on (Through done) = on done
  row-confirms rows row rest on (Stopped done e r) = write-refuses rows (confirm_cause a row done e r)

  confirms : (rows left : List Row) (done : Rows) → Writes (confirm_rows a rows left done)
  confirms rows [] done = write-numbered-walks a.mode done.rows
  confirms rows (row ∷ left) done =
      walks-run (Claimed a) false (confirming a row) (row_confirmed a rows row (confirm_rows a rows left)) (λ u. tt)
      (row-confirms rows row (confirm_rows a rows left) (confirms rows left)) (row_confirm a row ∷ []) (tt, tt) done

  -- claims
  write-stops : (taken : Taken) (e : Errand) (r : Reply) → Writes (write_stopped a taken e r)
  write-stops taken e r = write-refuses (taken.before ++ taken.row ∷ []) (why (behind_from a.mode a.id) taken e r)

  module _ (rest : Rows → Steps Finish) (on : (rows : Rows) → Writes (rest rows)) where
    row-claims : (walk : Walk Taken) → IsWalked (Claimed a) false Of walk → Writes (row_claimed a rest walk)
    row-claims (Through taken) i = on (row_ended taken)
    row-claims (Stopped taken e r) i = write-stops taken e r

    wanted-claimed : (want : Bool) (taken : Taken) → Of taken → Writes (claim_wanted a rest want taken)
    wanted-claimed want taken i =
        walks-kept (Claimed a) false Of (claiming a with_wanted) (row_claimed a rest) (λ u. tt) (step-kept with_wanted (λ g row. refl)) row-claims
        (wanted_claims a want taken.row.part) (wanted-well want taken.row.part i (units_in a.n taken.row.part.mask) (λ u j. j)) taken i

    others-claimed : (taken : Taken) (lacking : Bool) → Of taken → Writes (share_others a rest taken lacking)
    others-claimed taken false i = on (row_ended taken)
    others-claimed taken true i =
        walks-kept (Claimed a) false Of (claiming a with_other) (row_claimed a rest) (λ u. tt) (step-kept with_other (λ g row. refl)) row-claims
        (other_shares a taken.row.part) (others-well taken.row.part i (units_out a.n taken.row.part.mask) (λ u j. j)) taken i

    small-claims : (walk : Walk Taken) → IsWalked (Claimed a) false Of walk → Writes (small_claimed a rest walk)
    small-claims (Stopped taken e r) i = write-stops taken e r
    small-claims (Through taken) i = others-claimed taken (lacks taken.row.wanted) i

    share-stops : (taken : Taken) (bay : BayNo) (cause : Option Cause) → Of taken → Writes (share_stopped a rest taken bay cause)
    share-stops taken bay (Some cause) i = write-refuses (taken.before ++ taken.row ∷ []) cause
    share-stops taken bay None i = wanted-claimed true (with_grant with_other taken bay None) i

    others-share : (walk : Walk Taken) → IsWalked (Claimed a) false Of walk → Writes (others_shared a rest walk)
    others-share (Through taken) i = wanted-claimed false taken i
    others-share (Stopped taken e r) i = share-stops taken e.bay (refusal (behind_from a.mode a.id) taken.missing e.bay r) i

    row-begins : (taken : Taken) (grant : Option Grant) (plan : Plan) → Of taken → Writes (claim_row a rest taken grant plan)
    row-begins taken None plan i = wanted-claimed false taken i
    row-begins taken (Some grant) Full i = wanted-claimed false taken i
    row-begins taken (Some grant) Small i =
        walks-kept (Claimed a) false Of (claiming a with_wanted) (small_claimed a rest) (λ u. tt) (step-kept with_wanted (λ g row. refl)) small-claims
        (wanted_claims a true taken.row.part) (wanted-well true taken.row.part i (units_in a.n taken.row.part.mask) (λ u j. j)) taken i
    row-begins taken (Some grant) Reconstruct i =
        walks-kept (Claimed a) false Of (taking_until with_other) (others_shared a rest) (λ u. tt) (until-kept with_other (λ g row. refl)) others-share
        (other_shares a taken.row.part) (others-well taken.row.part i (units_out a.n taken.row.part.mask) (λ u j. j)) taken i

    parity-claims : (walk : Walk Taken) → IsWalked (Claimed a) false Of walk → Writes (parity_claimed a rest walk)
    parity-claims (Stopped taken e r) i = write-stops taken e r
    parity-claims (Through taken) i = row-begins taken taken.row.parity (plan_of a taken.row.part) i

  rows-claimed : (left : List RowPart) → ((part : RowPart) → IsIn part left → IsIn part a.parts) → (done : Rows) → Writes (claim_rows a left done)
  rows-claimed [] among done = confirms done.rows done.rows (record done { rows = [] })
  rows-claimed (part ∷ left) among done =
      let i = among part (inl refl) in
      walks-kept (Claimed a) false Of (claiming a with_parity) (parity_claimed a (claim_rows a left)) (λ u. tt) (step-kept with_parity (λ g row. refl))
      (parity-claims (claim_rows a left) (rows-claimed left (λ p j. among p (inr j)))) (parity_claim a part ∷ []) (((part, i, refl, inl refl), tt), tt) (begun part done) i

  pub writes-walk : Writes (write_steps a)
  writes-walk = rows-claimed a.parts (λ part i. i) no_rows

-- Rebuilds
module _ (m : Repair) where
  abbrev Mends : Steps Finish → Type 0
  Mends s = Walks AnySlot false s

  holds-well : (holds : List Hold) → AllWell AnySlot false (mend_releases m holds)
  holds-well holds = well-releases AnySlot false m.id m.row None _

  mend-puts : (holds : List Hold) (walk : Walk (Unit {0})) → Mends (mend_put m holds walk)
  mend-puts holds (Through u) = released-walks AnySlot false (mend_releases m (without_target m holds)) ends.Mended (holds-well (without_target m holds))
  mend-puts holds (Stopped u e r) = refused-walks AnySlot false (mend_releases m holds) (put_cause m.row e r) (holds-well holds)

  mends-numbered : (holds : List Hold) (n : Number) (shown : Bool) → Mends (mend_numbered m holds n shown)
  mends-numbered holds n true = released-walks AnySlot false (mend_releases m holds) ends.Mended (holds-well holds)
  mends-numbered holds n false =
      walks-run AnySlot false mend_putting (mend_put m holds) (λ u. tt) (mend-puts holds) (put m.id m.row n (mended_cell m holds) m.target ∷ []) (tt, tt) tt

  mends-drawn : (holds : List Hold) (d : Result Number Spent) → Mends (mend_drawn m holds d)
  mends-drawn holds (Err spent) = refused-walks AnySlot false (mend_releases m holds) (causes.Spent spent.seen) (holds-well holds)
  mends-drawn holds (Ok n) = mends-numbered holds n (is_shown m.target holds)

  mends-confirmed : (holds : List Hold) (walk : Walk (Unit {0})) → Mends (mend_confirmed m holds walk)
  mends-confirmed holds (Stopped u e r) = refused-walks AnySlot false (mend_releases m holds) (mend_why e r (causes.Changed m.row)) (holds-well holds)
  mends-confirmed holds (Through u) = λ d. mends-drawn holds d

  mends-claimed : (walk : Walk (List Hold)) → Mends (mend_claimed m walk)
  mends-claimed (Stopped holds e r) = refused-walks AnySlot false (mend_releases m (with_hold holds e.bay (grant_of r))) (mend_why e r (causes.Gone e.bay)) (holds-well (with_hold holds e.bay (grant_of r)))
  mends-claimed (Through holds) =
      walks-run AnySlot false mend_confirming (mend_confirmed m holds) (λ u. tt) (mends-confirmed holds) (confirm m.id m.row false (parity_bay m.n m.row) ∷ []) (tt, tt) tt

  mend-claims : (bays : List BayNo) → AllWell AnySlot false (claims m.id m.row Mend true bays)
  mend-claims [] = tt
  mend-claims (bay ∷ bays) = ((tt, tt), mend-claims bays)

  pub mends-walk : Mends (mend_steps m)
  mends-walk = walks-run AnySlot false (mending m) (mend_claimed m) (λ u. tt) mends-claimed (claims m.id m.row Mend true (parity_first m.n m.row)) (mend-claims (parity_first m.n m.row)) []

-- Recoveries
module _ (r : Rescue) where
  abbrev Seizes : Steps Finish → Type 0
  Seizes s = Walks AnySlot true s

  back-well : (bays : List BayNo) → AllWell AnySlot true (give_back r bays)
  back-well bays = well-releases AnySlot true r.id r.row None bays

  recover-refuses : (row : Row) (cause : Cause) → Seizes (recover_refused r row cause)
  recover-refuses row cause =
      refused-walks AnySlot true (give_back r (unseized_data r row ++ unseized_parity r row.parity)) cause (back-well (unseized_data r row ++ unseized_parity r row.parity))

  recover-puts : (n : Number) (row : Row) (lost : Option ℕ) (walk : Walk (Unit {0})) → Seizes (recover_put r row n lost walk)
  recover-puts n row lost (Stopped u e reply) = refused-walks AnySlot true (give_back r (unseized_data r row)) (put_cause r.row e reply) (back-well (unseized_data r row))
  recover-puts n row lost (Through u) =
      walks-run AnySlot true (closing n lost) (end_as (ends.Recovered n true lost)) (λ u. tt) (λ walk. tt) (give_back r (granted_data r row)) (back-well (granted_data r row)) tt

  recovers-by : (n : Number) (row : Row) (v : Verdict) → Seizes (recover_by r row n v)
  recovers-by n row Leaves =
      released-walks AnySlot true (give_back r (granted_data r row ++ parity_granted r.n r.row row.parity)) (ends.Recovered n true None)
      (back-well (granted_data r row ++ parity_granted r.n r.row row.parity))
  recovers-by n row (Sums lost) =
      walks-run AnySlot true (recover_putting r lost) (recover_put r row n lost) (λ u. tt) (recover-puts n row lost)
      (put r.id r.row n (recovered_parity row lost) (parity_bay r.n r.row) ∷ []) (tt, tt) tt

  recovers-drawn : (row : Row) (d : Result Number Spent) → Seizes (recover_drawn r row d)
  recovers-drawn row (Err spent) = recover-refuses row (causes.Spent spent.seen)
  recovers-drawn row (Ok n) = recovers-by n row (verdict r row)

  recovers-confirmed : (taken : Taken) (walk : Walk (Unit {0})) → Seizes (recover_confirmed r taken walk)
  recovers-confirmed taken (Stopped u e reply) = recover-refuses taken.row _
  recovers-confirmed taken (Through u) = λ d. recovers-drawn taken.row d

  seized : (walk : Walk Taken) → Seizes (units_seized r walk)
  seized (Stopped taken e reply) = recover-refuses taken.row (why None taken e reply)
  seized (Through taken) =
      walks-run AnySlot true (recover_confirming taken) (recover_confirmed r taken) (λ u. tt) (recovers-confirmed taken) (confirm r.id r.row false (parity_bay r.n r.row) ∷ []) (tt, tt) tt

  seize-claims : (bays : List BayNo) → AllWell AnySlot true (claims r.id r.row Seize true bays)
  seize-claims [] = tt
  seize-claims (bay ∷ bays) = ((tt, refl), seize-claims bays)

  seizes : (taken : Taken) → Seizes (seize_units r taken)
  seizes taken =
      walks-run AnySlot true (taking None with_wanted) (units_seized r) (λ u. tt) seized (claims r.id r.row Seize true (bays_of r.n r.row (units r.n)))
      (seize-claims (bays_of r.n r.row (units r.n))) taken

  lacking : (taken : Taken) (operator : Bool) → Seizes (if operator then seize_units r taken else recover_refused r taken.row (causes.Gone (parity_bay r.n r.row)))
  lacking taken true = seizes taken
  lacking taken false = recover-refuses taken.row (causes.Gone (parity_bay r.n r.row))

  takes-parity : (taken : Taken) (grant : Option Grant) → Seizes (parity_taken r taken grant)
  takes-parity taken (Some grant) = seizes taken
  takes-parity taken None = lacking taken (r.host.0 == 0)

  parity-seizes : (walk : Walk Taken) → Seizes (parity_seized r walk)
  parity-seizes (Stopped taken e reply) = recover-refuses taken.row (why None taken e reply)
  parity-seizes (Through taken) = takes-parity taken taken.row.parity

  pub recoveries-walk : Seizes (recover_steps r)
  recoveries-walk =
      walks-run AnySlot true (taking None with_parity) (parity_seized r) (λ u. tt) parity-seizes (claim r.id r.row Seize 0 true (parity_bay r.n r.row) ∷ []) ((tt, refl), tt) (begun (whole_part r) no_rows)
