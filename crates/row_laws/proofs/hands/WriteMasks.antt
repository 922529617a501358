-- What a write claims, puts and gives back: a claim of a parity has the mask of the write's part of that row, a unit that is put
-- is one of that mask, and a parity is given back only while nothing has been put.
use Rattle.std.proofs.Common.{◌≡◌, inl, inr, ◌∙◌, ◌+◌, ◌-◌, ◌<◌, ◌≤◌, ℕ, Bool, true, false, not, cond, List, [], ◌∷◌, ◌++◌, zip, Option, Some, None, IfSome, option_map, Result, Ok, Err, refl, sym, ap, subst, arith}
use Rattle.std.specs.List.{AllByRecursion}
use Rattle.raid_base.specs.declared.numbers.BayNo.{BayNo}
use Rattle.raid_base.specs.declared.numbers.HostNo.{HostNo}
use Rattle.raid_base.specs.declared.numbers.RowNo.{RowNo}
use Rattle.raid_base.specs.declared.numbers.Number.{Number}
use Rattle.raid_base.specs.declared.numbers.Spent.{Spent}
use Rattle.raid_base.specs.declared.names.Name.{Name}
use Rattle.raid_base.specs.declared.cells.Cell.{Cell}
use Rattle.raid_base.specs.declared.messages.Mode.{Mode}
use Rattle.raid_base.specs.declared.messages.Mode.TheVariants.{Lock, Order}
use Rattle.raid_base.specs.declared.messages.How.{How}
use Rattle.raid_base.specs.declared.messages.How.TheVariants.{Plain}
use Rattle.raid_base.specs.declared.messages.Call.{Call}
use Rattle.raid_base.specs.declared.messages.Errand.{Errand}
use Rattle.raid_base.specs.declared.messages.Grant.{Grant}
use Rattle.raid_base.specs.declared.messages.Request.{Request}
use Rattle.raid_base.specs.declared.messages.Request.TheVariants.{Claim, Put, Release}
use Rattle.raid_base.specs.declared.messages.Reply.{Reply}
use Rattle.raid_base.specs.declared.jobs.Cause.{Cause}
use Rattle.raid_base.specs.declared.jobs.Cause.TheVariants as causes
use Rattle.raid_base.specs.declared.jobs.Ended.TheVariants as ends
use Rattle.raid_base.specs.declared.jobs.Job.{Job}
use Rattle.raid_base.specs.declared.jobs.Plan.{Plan}
use Rattle.raid_base.specs.declared.jobs.Plan.TheVariants.{Full, Small, Reconstruct}
use Rattle.raid_base.specs.declared.jobs.RowPart.{RowPart}
use Rattle.raid_base.specs.declared.jobs.PartsFault.{PartsFault}
use Rattle.raid_base.specs.declared.jobs.Task.{Task}
use Rattle.raid_base.specs.declared.jobs.Task.TheVariants as tasks
use Rattle.raid_base.specs.Cells.{has_unit, plain_cell}
use Rattle.raid_base.specs.Replies.{grant_of, held_of, is_missing}
use Rattle.raid_base.specs.Steps.{Steps, Ends, Standing, bind, go_on, Walk, Through, Stopped, Phase, run, settled, next_errand, errand_of}
use Rattle.stripe_layout.specs.Placement.{parity_bay, bay_of, bays_of, units, units_in, units_out}
use Rattle.stripe_layout.proofs.LayoutLemmas.{unit_apart, unit_distinct}
use Rattle.attempts.specs.Taking.{Access, Finish, Row, Rows, no_rows, Taken, begun, row_ended, with_parity, with_wanted, with_other, with_grant, lacks, behind_from, refusal, unless, taking_until, why, share, claim, confirm}
use Rattle.attempts.specs.Releases.{release, releases, releasing, end_as, granted_of, refused_steps, write_holds, write_releases, others_granted}
use Rattle.attempts.specs.Puts.{wanted_units, plan_of, is_small_plan, block_at, new_parity, Puts, no_puts, at_row, data_put, data_puts, putting_data, parity_put, putting_parity, with_trouble, trouble_of}
use Rattle.attempts.specs.Writing.{write_stopped, finishing, reader_releases, write_end, write_last, parity_done, put_parity, data_done, put_rows, write_drawn, write_numbered, held_row, confirmed_row, unrefused_row, row_or_change, row_confirm, confirming, confirm_cause, row_confirmed, confirm_rows, claiming, row_claimed, wanted_claims, other_shares, claim_wanted, share_others, small_claimed, share_stopped, others_shared, claim_row, parity_claimed, parity_claim, claim_rows, write_steps}
use Rattle.attempts.specs.Phases.{IsIn, HasRow, RowsDiffer}
use Rattle.attempts.proofs.RoomLemmas.{all-append, all-map, all-made}
use Rattle.attempts.proofs.PhaseLemmas.{all-flat, any, Aside, units-aside}
use Rattle.attempts.proofs.SoundLemmas.{all-filter}
use Rattle.attempts.proofs.WriteSums.{units-known}
use Rattle.attempts.proofs.WritePhases.{all-granted}
use Rattle.script_text.specs.Script.{Script, parts_of, blocks_of}
use Rattle.script_text.specs.Ranges.{IsScript, IsTask}
use Rattle.histories.specs.Hands.{Led, InHand}
use Rattle.histories.specs.Progress.{access, attempt, write_of}
use Rattle.histories.proofs.hands.PhasedHands.{rows-differ, found-parts}
use Rattle.row_laws.proofs.owners.RowOwnersTrees.{Asking, next-asking, settled-asking, led-asking}

-- What a write asks
abbrev pub PutsNothing : Request → Type 0
PutsNothing (Put row id number cell) = ⊥
PutsNothing _ = Unit {0}

abbrev pub HasPutNothing : List Call → Type 0
HasPutNothing calls = AllByRecursion (λ (call : Call). PutsNothing call.ask.what) calls

-- one of these parts is of this row, with this mask
abbrev pub HasMask : List RowPart → RowNo → ℕ → Type 0
HasMask parts row mask = (part : RowPart) × IsIn part parts × (part.row ≡ row) × (part.mask ≡ mask)

-- and one wants this unit
abbrev pub WantsUnit : List RowPart → RowNo → ℕ → Type 0
WantsUnit parts row unit = (part : RowPart) × IsIn part parts × (part.row ≡ row) × (has_unit part.mask unit ≡ true)

-- after these calls, the newest first
pub record WriteAsks (n : ℕ) (parts : List RowPart) (calls : List Call) (e : Errand) : Type 0 where
  pub claims : (row : RowNo) (id : Number) (how : How) (mask : ℕ) (want : Bool) → e.request ≡ Claim row id how mask want → e.bay ≡ parity_bay n row → HasMask parts row mask
  pub puts : (row : RowNo) (id number : Number) (cell : Cell) (unit : ℕ) → e.request ≡ Put row id number cell → e.bay ≡ bay_of n row unit → unit + 1 < n → WantsUnit parts row unit
  pub frees : (row : RowNo) (id : Number) (number : Option Number) → e.request ≡ Release row id number → e.bay ≡ parity_bay n row → HasPutNothing calls

-- Where the rows of the parts differ, the unit that is put is of the mask that was claimed
pub has-row : (part : RowPart) (parts : List RowPart) → IsIn part parts → HasRow part.row parts
has-row part [] i = absurd i
has-row part (first ∷ parts) (inl same) = inl (ap (λ (p : RowPart). p.row) same)
has-row part (first ∷ parts) (inr i) = inr (has-row part parts i)

pub one-part : (parts : List RowPart) → RowsDiffer parts → (part other : RowPart) → IsIn part parts → IsIn other parts → part.row ≡ other.row → part ≡ other
one-part [] differ part other i j same = absurd i
one-part (first ∷ parts) differ part other (inl p) (inl q) same = sym p ∙ q
one-part (first ∷ parts) differ part other (inl p) (inr j) same =
    absurd (differ.0 (subst (λ (row : RowNo). HasRow row parts) (sym (ap (λ (x : RowPart). x.row) p ∙ same)) (has-row other parts j)))
one-part (first ∷ parts) differ part other (inr i) (inl q) same =
    absurd (differ.0 (subst (λ (row : RowNo). HasRow row parts) (same ∙ sym (ap (λ (x : RowPart). x.row) q)) (has-row part parts i)))
one-part (first ∷ parts) differ part other (inr i) (inr j) same = one-part parts differ.1 part other i j same

pub unit-masked : (parts : List RowPart) → RowsDiffer parts → (row : RowNo) (mask unit : ℕ) → HasMask parts row mask → WantsUnit parts row unit → has_unit mask unit ≡ true
unit-masked parts differ row mask unit (part, i, at, is) (other, j, beside, has) =
    let same : other ≡ part = one-part parts differ other part j i (beside ∙ sym at) in
    subst (λ (m : ℕ). has_unit m unit ≡ true) (ap (λ (p : RowPart). p.mask) same ∙ is) has

-- Walks: J is known of the calls, and I of what is in hand
module _ (P : List Call → Errand → Type 0) where
  abbrev pub Fine : (List Call → Type 0) → Errand → Type 0
  Fine J e = (calls : List Call) → J calls → P calls e × ((call : Call) → errand_of call ≡ e → J (call ∷ calls))

  module _ {A : Type 0} (J : List Call → Type 0) (I : A → Type 0) where
    ask-go : (calls : List Call) (o : Option A) (g : A → Steps (Walk A)) (s : Steps (Walk A)) (f : Walk A → Steps Finish)
        → IfSome o I → ((a : A) → I a → Asking P calls (bind (g a) f)) → Asking P calls (bind s f) → Asking P calls (bind (go_on o g s) f)
    ask-go calls (Some a) g s f i on off = on a i
    ask-go calls None g s f i on off = off

    pub ask-run : (phase : Phase A) (f : Walk A → Steps Finish) → ((a : A) (e : Errand) (r : Reply) → I a → IfSome (phase.step a e r) I)
        → ((calls : List Call) (a : A) → J calls → I a → Asking P calls (f (Through a)))
        → ((calls : List Call) (a : A) (e : Errand) (r : Reply) → J calls → I a → Asking P calls (f (Stopped a e r)))
        → (es : List Errand) → AllByRecursion (Fine J) es → (a : A) (calls : List Call) → J calls → I a → Asking P calls (bind (run phase es a) f)
    ask-run phase f keeps on off [] own a calls j i = on calls a j i
    ask-run phase f keeps on off (e ∷ es) own a calls j i = (
      (own.0 calls j).0,
      λ call is fit. ask-go (call ∷ calls) (phase.step a e call.answer.reply) (λ b. run phase es b) (Ends (Stopped a e call.answer.reply)) f (keeps a e call.answer.reply i)
          (λ b k. ask-run phase f keeps on off es own.1 b (call ∷ calls) ((own.0 calls j).1 call is) k)
          (off (call ∷ calls) a e call.answer.reply ((own.0 calls j).1 call is) i),
    )

-- Units that lie apart from the parity
module _ (n : ℕ) (row : RowNo) where
  abbrev Apart : BayNo → Type 0
  Apart bay = bay ≡ parity_bay n row → ⊥

  bays-apart : (us : List ℕ) → AllByRecursion (Aside n row) us → AllByRecursion Apart (bays_of n row us)
  bays-apart us all = all-map Apart (Aside n row) (bay_of n row) (λ u aside. aside) us all

  wanted-apart : (mask : ℕ) → AllByRecursion Apart (bays_of n row (units_in n mask))
  wanted-apart mask = bays-apart (units_in n mask) (all-filter (Aside n row) (has_unit mask) (units n) (units-aside n row))

  others-apart : (mask : ℕ) (grants : List (Option Grant)) → AllByRecursion Apart (bays_of n row (granted_of (zip (units_out n mask) grants)))
  others-apart mask grants =
      let out : AllByRecursion (Aside n row) (units_out n mask) = all-filter (Aside n row) (λ (u : ℕ). not (has_unit mask u)) (units n) (units-aside n row) in
      bays-apart (granted_of (zip (units_out n mask) grants)) (all-granted (Aside n row) (units_out n mask) grants out)

module _ (a : Access) (least : 3 ≤ a.n) where
  abbrev P : List Call → Errand → Type 0
  P = WriteAsks a.n a.parts

  abbrev Always : List Call → Type 0
  Always calls = Unit {0}

  -- an errand before any put, and one at any time
  abbrev Early : Errand → Type 0
  Early e = Fine P HasPutNothing e

  abbrev Late : Errand → Type 0
  Late e = Fine P Always e

  early : (e : Errand) → PutsNothing e.request → ((calls : List Call) → HasPutNothing calls → P calls e) → Early e
  early e none asks calls j = (asks calls j, λ call is. (subst (λ (x : Errand). PutsNothing x.request) (sym is) none, j))

  early-release : (row : RowNo) (bay : BayNo) → Early (release a.id row None bay)
  early-release row bay = early (release a.id row None bay) tt (λ calls j. record {
    claims = λ r id how mask want is at. absurd (cc);
    puts = λ r id k cell unit is at below. absurd (cc);
    frees = λ r id k is at. j;
  })

  early-share : (row : RowNo) (bay : BayNo) → Early (share a.id row bay)
  early-share row bay = early (share a.id row bay) tt (λ calls j. record {
    claims = λ r id how mask want is at. absurd (cc);
    puts = λ r id k cell unit is at below. absurd (cc);
    frees = λ r id k is at. absurd (cc);
  })

  early-confirm : (row : RowNo) (want : Bool) (bay : BayNo) → Early (confirm a.id row want bay)
  early-confirm row want bay = early (confirm a.id row want bay) tt (λ calls j. record {
    claims = λ r id how mask wanted is at. absurd (cc);
    puts = λ r id k cell unit is at below. absurd (cc);
    frees = λ r id k is at. absurd (cc);
  })

  early-claim : (row : RowNo) (want : Bool) (bay : BayNo) → Apart a.n row bay → Early (claim a.id row Plain 0 want bay)
  early-claim row want bay apart = early (claim a.id row Plain 0 want bay) tt (λ calls j. record {
    claims = λ r id how mask wanted is at.
        (let both : Claim row a.id Plain 0 want ≡ Claim r id how mask wanted = is in
        let same : row ≡ r = cc in
        absurd (apart (at ∙ ap (λ (x : RowNo). parity_bay a.n x) (sym same))));
    puts = λ r id k cell unit is at below. absurd (cc);
    frees = λ r id k is at. absurd (cc);
  })

  early-parity : (part : RowPart) → IsIn part a.parts → Early (parity_claim a part)
  early-parity part i = early (parity_claim a part) tt (λ calls j. record {
    claims = λ r id how mask wanted is at.
        (let both : Claim part.row a.id Plain part.mask (is_small_plan (plan_of a part)) ≡ Claim r id how mask wanted = is in
        let same : part.row ≡ r = cc in
        let masks : part.mask ≡ mask = cc in
        (part, i, same, masks));
    puts = λ r id k cell unit is at below. absurd (cc);
    frees = λ r id k is at. absurd (cc);
  })

  late-release : (row : RowNo) (bay : BayNo) → Apart a.n row bay → Late (release a.id row None bay)
  late-release row bay apart calls u = (
    record {
      claims = λ r id how mask want is at. absurd (cc);
      puts = λ r id k cell unit is at below. absurd (cc);
      frees = λ r id k is at.
          (let both : Release row a.id None ≡ Release r id k = is in
          let same : row ≡ r = cc in
          absurd (apart (at ∙ ap (λ (x : RowNo). parity_bay a.n x) (sym same))));
    },
    λ call is. tt,
  )

  -- Rows of its parts
  abbrev IsOf : Row → Type 0
  IsOf row = IsIn row.part a.parts

  abbrev AreOf : List Row → Type 0
  AreOf rows = AllByRecursion IsOf rows

  abbrev TakenOf : Taken → Type 0
  TakenOf taken = IsOf taken.row × AreOf taken.before

  abbrev Wants : Row → ℕ → Type 0
  Wants row u = (u < a.n - 1) × (has_unit row.part.mask u ≡ true)

  late-data : (n : Number) (row : Row) → IsOf row → (u : ℕ) → Wants row u → Late (data_put a n row u)
  late-data n row i u wants calls none = (
    record {
      claims = λ r id how mask want is at. absurd (cc);
      puts = λ r id k cell unit is at below.
          (let both : Put row.part.row a.id n (plain_cell (block_at a row.part u)) ≡ Put r id k cell = is in
          let same : row.part.row ≡ r = cc in
          let one : u ≡ unit = unit_distinct a.n row.part.row u unit least wants.0 (omega arith) (at ∙ ap (λ (x : RowNo). bay_of a.n x unit) (sym same)) in
          (row.part, i, same, subst (λ (v : ℕ). has_unit row.part.mask v ≡ true) one wants.1));
      frees = λ r id k is at. absurd (cc);
    },
    λ call is. tt,
  )

  late-parity : (n : Number) (row : Row) → Late (parity_put a n row)
  late-parity n row calls none = (
    record {
      claims = λ r id how mask want is at. absurd (cc);
      puts = λ r id k cell unit is at below.
          (let both : Put row.part.row a.id n (new_parity a row) ≡ Put r id k cell = is in
          let same : row.part.row ≡ r = cc in
          absurd (unit_apart a.n r unit least (omega arith) (sym at ∙ ap (λ (x : RowNo). parity_bay a.n x) same)));
      frees = λ r id k is at. absurd (cc);
    },
    λ call is. tt,
  )

  -- Releases
  early-releases : (rows : List Row) → AllByRecursion Early (write_releases a rows)
  early-releases rows =
      all-flat Early (λ (row : Row). releases a.id row.part.row None (write_holds a.mode a.n row))
      (λ row. all-made Early (release a.id row.part.row None) (early-release row.part.row) (write_holds a.mode a.n row)) rows

  late-readers : (mode : Mode) (rows : List Row) → AllByRecursion Late (reader_releases mode a rows)
  late-readers Order rows = tt
  late-readers Lock rows =
      all-flat Late (λ (row : Row). releases a.id row.part.row None (bays_of a.n row.part.row (others_granted a.n row)))
      (λ row. all-map Late (Apart a.n row.part.row) (release a.id row.part.row None) (late-release row.part.row) (bays_of a.n row.part.row (others_granted a.n row))
      (others-apart a.n row.part.row row.part.mask row.others)) rows

  -- Puts
  module _ (n : Number) where
    write-ends : (calls : List Call) (walk : Walk Puts) → Asking P calls (write_end a n walk)
    write-ends calls (Through puts) = tt
    write-ends calls (Stopped puts e r) = tt

    -- whatever the walk gives
    late-run : (phase : Phase Puts) (f : Walk Puts → Steps Finish) → ((calls : List Call) (walk : Walk Puts) → Asking P calls (f walk)) → (es : List Errand) → AllByRecursion Late es
        → (puts : Puts) (calls : List Call) → Asking P calls (bind (run phase es puts) f)
    late-run phase f on es fine puts calls =
        ask-run P Always (λ (p : Puts). Unit {0}) phase f (λ p e r u. any (phase.step p e r)) (λ cs p u v. on cs (Through p)) (λ cs p e r u v. on cs (Stopped p e r)) es fine puts calls tt tt

    lasts : (rows : List Row) (calls : List Call) (puts : Puts) → Asking P calls (write_last a n rows puts)
    lasts rows calls puts = late-run (finishing a n) (write_end a n) write-ends (reader_releases a.mode a rows) (late-readers a.mode rows) puts calls

    module _ (rest : Puts → Steps Finish) (on : (calls : List Call) (puts : Puts) → Asking P calls (rest puts)) (row : Row) (of : IsOf row) where
      parity-ends : (calls : List Call) (walk : Walk Puts) → Asking P calls (parity_done row rest walk)
      parity-ends calls (Through puts) = on calls puts
      parity-ends calls (Stopped puts e r) = on calls (with_trouble puts (trouble_of row e r))

      parity-puts : (calls : List Call) (puts : Puts) (grant : Option Grant) → Asking P calls (put_parity a n row rest puts grant)
      parity-puts calls puts None = on calls puts
      parity-puts calls puts (Some grant) = late-run (putting_parity a n row) (parity_done row rest) parity-ends (parity_put a n row ∷ []) (late-parity n row, tt) puts calls

      data-ends : (calls : List Call) (walk : Walk Puts) → Asking P calls (data_done a n row rest walk)
      data-ends calls (Through puts) = parity-puts calls puts row.parity
      data-ends calls (Stopped puts e r) = on calls (with_trouble puts (trouble_of row e r))

      late-puts : AllByRecursion Late (data_puts a n row)
      late-puts =
          all-map Late (Wants row) (data_put a n row) (late-data n row of) (granted_of (zip (wanted_units a row) row.wanted))
          (all-granted (Wants row) (wanted_units a row) row.wanted (units-known a.n (has_unit row.part.mask)))

    rows-put : (all rows : List Row) → AreOf rows → (calls : List Call) (puts : Puts) → Asking P calls (put_rows a n (write_last a n all) rows puts)
    rows-put all [] are calls puts = lasts all calls puts
    rows-put all (row ∷ rows) are calls puts =
        late-run (putting_data a n row) (data_done a n row (put_rows a n (write_last a n all) rows))
        (data-ends (put_rows a n (write_last a n all) rows) (rows-put all rows are.1) row are.0) (data_puts a n row)
        (late-puts (put_rows a n (write_last a n all) rows) (rows-put all rows are.1) row are.0) (at_row puts) calls

  -- A write that is refused, and one that has claimed
  write-refuses : (rows : List Row) (cause : Cause) (calls : List Call) → HasPutNothing calls → Asking P calls (refused_steps (write_releases a rows) cause)
  write-refuses rows cause calls none =
      ask-run P HasPutNothing (λ (u : Unit {0}). Unit {0}) releasing (end_as (ends.Refused cause)) (λ u e r i. tt) (λ cs u j i. tt) (λ cs u e r j i. tt)
      (write_releases a rows) (early-releases rows) tt calls none tt

  write-drawn : (rows : List Row) → AreOf rows → (calls : List Call) → HasPutNothing calls → (d : Result Number Spent) → Asking P calls (write_drawn a rows d)
  write-drawn rows are calls none (Err spent) = write-refuses rows (causes.Spent spent.seen) calls none
  write-drawn rows are calls none (Ok n) = rows-put n rows rows are calls no_puts

  write-numbers : (mode : Mode) (rows : List Row) → AreOf rows → (calls : List Call) → HasPutNothing calls → Asking P calls (write_numbered mode a rows)
  write-numbers Order rows are calls none = rows-put a.id rows rows are calls no_puts
  write-numbers Lock rows are calls none = write-drawn rows are calls none

  write-stops : (taken : Taken) (e : Errand) (r : Reply) (calls : List Call) → HasPutNothing calls → Asking P calls (write_stopped a taken e r)
  write-stops taken e r calls none = write-refuses (taken.before ++ taken.row ∷ []) (why (behind_from a.mode a.id) taken e r) calls none

  -- Confirms keep the parts
  module _ (row : Row) (of : IsOf row) where
    held-of : (grant : Grant) (want : Bool) (held : Option (Option Cell)) → IfSome (held_row row grant want held) IsOf
    held-of grant want None = tt
    held-of grant true (Some None) = tt
    held-of grant true (Some (Some cell)) = of
    held-of grant false (Some cell) = of

    there-of : (missing : Bool) → IfSome (cond missing (Some row) None) IsOf
    there-of true = of
    there-of false = tt

    confirmed-of : (r : Reply) (parity : Option Grant) → IfSome (confirmed_row row r parity) IsOf
    confirmed-of r None = there-of (is_missing r)
    confirmed-of r (Some grant) = held-of grant (lacks row.others) (held_of r)

    unrefused-of : (r : Reply) (cause : Option Cause) → IfSome (unrefused_row row r cause) IsOf
    unrefused-of r (Some cause) = tt
    unrefused-of r None = confirmed-of r row.parity

    more-of : (done : Rows) (o : Option Row) → AreOf done.rows → IfSome o IsOf → IfSome (option_map (λ (r : Row). record done { rows = done.rows ++ r ∷ [] }) o) (λ (rows : Rows). AreOf rows.rows)
    more-of done None are i = tt
    more-of done (Some r) are i = all-append IsOf done.rows (r ∷ []) are (i, tt)

    confirms-keep : (done : Rows) (e : Errand) (r : Reply) → AreOf done.rows → IfSome ((confirming a row).step done e r) (λ (rows : Rows). AreOf rows.rows)
    confirms-keep done e r are =
        more-of done (row_or_change (behind_from a.mode a.id) done.missing e.bay row r) are (unrefused-of r (refusal (behind_from a.mode a.id) done.missing e.bay r))

  confirms : (rows left : List Row) → AreOf left → (done : Rows) → AreOf done.rows → (calls : List Call) → HasPutNothing calls → Asking P calls (confirm_rows a rows left done)
  confirms rows [] still done are calls none = write-numbers a.mode done.rows are calls none
  confirms rows (row ∷ left) still done are calls none =
      ask-run P HasPutNothing (λ (d : Rows). AreOf d.rows) (confirming a row) (row_confirmed a rows row (confirm_rows a rows left)) (confirms-keep row still.0)
      (λ cs d j i. confirms rows left still.1 d i cs j) (λ cs d e r j i. write-refuses rows (confirm_cause a row d e r) cs j) (row_confirm a row ∷ [])
      (early-confirm row.part.row (lacks row.others) (parity_bay a.n row.part.row), tt) done calls none are

  -- Shares and claims keep the parts
  module _ (keep : Option Grant → Row → Row) (kept : (o : Option Grant) (row : Row) → IsOf row → IsOf (keep o row)) (taken : Taken) (e : Errand) (r : Reply) (of : TakenOf taken) where
    granted-of : (cause : Option Cause) (o : Option Grant) → IfSome (option_map (with_grant keep taken e.bay) (unless cause o)) TakenOf
    granted-of (Some cause) o = tt
    granted-of None None = (kept None taken.row of.0, of.1)
    granted-of None (Some grant) = (kept (Some grant) taken.row of.0, of.1)

    taking-keeps : IfSome ((claiming a keep).step taken e r) TakenOf
    taking-keeps = granted-of (refusal (behind_from a.mode a.id) taken.missing e.bay r) (grant_of r)

    shared-of : (o : Option Grant) → IfSome (option_map (λ (grant : Grant). with_grant keep taken e.bay (Some grant)) o) TakenOf
    shared-of None = tt
    shared-of (Some grant) = (kept (Some grant) taken.row of.0, of.1)

    until-keeps : IfSome ((taking_until keep).step taken e r) TakenOf
    until-keeps = shared-of (grant_of r)

  module _ (rest : Rows → Steps Finish) (on : (calls : List Call) (rows : Rows) → HasPutNothing calls → AreOf rows.rows → Asking P calls (rest rows)) where
    row-ends : (calls : List Call) (taken : Taken) → HasPutNothing calls → TakenOf taken → Asking P calls (rest (row_ended taken))
    row-ends calls taken none of = on calls (row_ended taken) none (all-append IsOf taken.before (taken.row ∷ []) of.1 (of.0, tt))

    early-wanted : (want : Bool) (part : RowPart) → AllByRecursion Early (wanted_claims a want part)
    early-wanted want part =
        all-map Early (Apart a.n part.row) (claim a.id part.row Plain 0 want) (early-claim part.row want) (bays_of a.n part.row (units_in a.n part.mask)) (wanted-apart a.n part.row part.mask)

    early-others : (part : RowPart) → AllByRecursion Early (other_shares a part)
    early-others part = all-made Early (share a.id part.row) (early-share part.row) (bays_of a.n part.row (units_out a.n part.mask))

    wanted-claimed : (want : Bool) (taken : Taken) → TakenOf taken → (calls : List Call) → HasPutNothing calls → Asking P calls (claim_wanted a rest want taken)
    wanted-claimed want taken of calls none =
        ask-run P HasPutNothing TakenOf (claiming a with_wanted) (row_claimed a rest) (taking-keeps with_wanted (λ o row i. i)) row-ends
        (λ cs t e r j i. write-stops t e r cs j) (wanted_claims a want taken.row.part) (early-wanted want taken.row.part) taken calls none of

    others-claimed : (taken : Taken) → TakenOf taken → (lacking : Bool) (calls : List Call) → HasPutNothing calls → Asking P calls (share_others a rest taken lacking)
    others-claimed taken of false calls none = row-ends calls taken none of
    others-claimed taken of true calls none =
        ask-run P HasPutNothing TakenOf (claiming a with_other) (row_claimed a rest) (taking-keeps with_other (λ o row i. i)) row-ends
        (λ cs t e r j i. write-stops t e r cs j) (other_shares a taken.row.part) (early-others taken.row.part) taken calls none of

    share-stops : (taken : Taken) → TakenOf taken → (bay : BayNo) (cause : Option Cause) (calls : List Call) → HasPutNothing calls → Asking P calls (share_stopped a rest taken bay cause)
    share-stops taken of bay (Some cause) calls none = write-refuses (taken.before ++ taken.row ∷ []) cause calls none
    share-stops taken of bay None calls none = wanted-claimed true (with_grant with_other taken bay None) of calls none

    row-begins : (taken : Taken) → TakenOf taken → (grant : Option Grant) (plan : Plan) (calls : List Call) → HasPutNothing calls → Asking P calls (claim_row a rest taken grant plan)
    row-begins taken of None plan calls none = wanted-claimed false taken of calls none
    row-begins taken of (Some grant) Full calls none = wanted-claimed false taken of calls none
    row-begins taken of (Some grant) Small calls none =
        ask-run P HasPutNothing TakenOf (claiming a with_wanted) (small_claimed a rest) (taking-keeps with_wanted (λ o row i. i)) (λ cs t j i. others-claimed t i (lacks t.row.wanted) cs j)
        (λ cs t e r j i. write-stops t e r cs j) (wanted_claims a true taken.row.part) (early-wanted true taken.row.part) taken calls none of
    row-begins taken of (Some grant) Reconstruct calls none =
        ask-run P HasPutNothing TakenOf (taking_until with_other) (others_shared a rest) (until-keeps with_other (λ o row i. i)) (λ cs t j i. wanted-claimed false t i cs j)
        (λ cs t e r j i. share-stops t i e.bay (refusal (behind_from a.mode a.id) t.missing e.bay r) cs j) (other_shares a taken.row.part) (early-others taken.row.part) taken calls none of

  rows-claimed : (left : List RowPart) → AllByRecursion (λ (part : RowPart). IsIn part a.parts) left → (done : Rows) → AreOf done.rows → (calls : List Call) → HasPutNothing calls
      → Asking P calls (claim_rows a left done)
  rows-claimed [] still done are calls none = confirms done.rows done.rows are (record done { rows = [] }) tt calls none
  rows-claimed (part ∷ left) still done are calls none =
      ask-run P HasPutNothing TakenOf (claiming a with_parity) (parity_claimed a (claim_rows a left)) (taking-keeps with_parity (λ o row i. i))
      (λ cs t j i. row-begins (claim_rows a left) (λ ds rows k own. rows-claimed left still.1 rows own ds k) t i t.row.parity (plan_of a t.row.part) cs j)
      (λ cs t e r j i. write-stops t e r cs j) (parity_claim a part ∷ []) (early-parity part still.0, tt) (begun part done) calls none (still.0, are)

-- each of these is among them
pub each-is-in : {A : Type 0} (xs : List A) → AllByRecursion (λ (x : A). IsIn x xs) xs
each-is-in xs = from xs (λ x i. i)
  where
    from : (ys : List _) → ((y : _) → IsIn y ys → IsIn y xs) → AllByRecursion (λ (x : _). IsIn x xs) ys
    from [] h = tt
    from (y ∷ ys) h = (h y (inl refl), from ys (λ z i. h z (inr i)))

pub writes-ask : (a : Access) → 3 ≤ a.n → Asking (WriteAsks a.n a.parts) [] (write_steps a)
writes-ask a least = rows-claimed a least a.parts (each-is-in a.parts) no_rows tt [] tt

-- Attempts in hand. What was asked after each of these calls
abbrev pub Asked : (List Call → Errand → Type 0) → List Call → Type 0
Asked P [] = Unit {0}
Asked P (call ∷ earlier) = P earlier (errand_of call) × Asked P earlier

module _ (P : List Call → Errand → Type 0) where
  pub led-asked : (host : HostNo) (start : Standing Finish) (calls : List Call) (now : Standing Finish) → Asking P [] start.steps → Led host start calls now → Asked P calls
  led-asked host start [] now h led = tt
  led-asked host start (call ∷ earlier) now h (before, led, asked, fit, later) =
      (next-asking P earlier before.steps (errand_of call) (led-asking P host start earlier before h led) asked, led-asked host start earlier before h led)

  -- one of the calls, after those before it
  pub record AskedAfter (calls : List Call) (call : Call) : Type 0 where
    pub before : List Call
    pub among : (other : Call) → IsIn other before → IsIn other calls
    pub asks : P before (errand_of call)

  pub asked-one : (calls : List Call) → Asked P calls → (call : Call) → IsIn call calls → AskedAfter calls call
  asked-one [] h call i = absurd i
  asked-one (first ∷ earlier) h call (inl same) =
      record { before = earlier; among = λ other i. inr i; asks = subst (λ (x : Call). P earlier (errand_of x)) same h.0 }
  asked-one (first ∷ earlier) h call (inr i) =
      let found = asked-one earlier h.1 call i in
      record { before = found.before; among = λ other j. inr (found.among other j); asks = found.asks }

-- the parts of a task to write
abbrev pub parts_in : Result (List RowPart) PartsFault → List RowPart
parts_in (Ok parts) = parts
parts_in (Err fault) = []

write-asks : (script : Script) → 3 ≤ script.n → (id : Number) (blocks : List (List ℕ)) (r : Result (List RowPart) PartsFault) →
    Asking (WriteAsks script.n (parts_in r)) [] (write_of script id blocks r)
write-asks script least id blocks (Ok parts) = writes-ask (access script id parts blocks) least
write-asks script least id blocks (Err fault) = tt

module _ (script : Script) (is : IsScript script) (host : HostNo) (jobs : List Job) (row : ℕ) (seen : Number) (calls : List Call) (steps : Steps Finish) (h : InHand script host jobs row seen calls steps)
    (object : Name) (first from count : ℕ) (writes : h.task ≡ tasks.Write object first from count) where
  abbrev Keeping : List Call → Errand → Type 0
  Keeping = WriteAsks script.n (parts_in (parts_of script object first count))

  abbrev Start : Steps Finish
  Start = attempt script host h.id row h.task

  begins-so : Asking Keeping [] (settled host h.id Start).steps
  begins-so =
      let begins : Asking Keeping [] Start =
      subst (λ (t : Task). Asking Keeping [] (attempt script host h.id row t)) (sym writes) (write-asks script is.devices_least h.id (blocks_of script from count) (parts_of script object first count)) in
      settled-asking Keeping host h.id [] Start begins

  -- each call of the attempt of a write, and its next errand
  pub hand-asked : (call : Call) → IsIn call calls → AskedAfter Keeping calls call
  hand-asked call i = asked-one Keeping calls (led-asked Keeping host (settled host h.id Start) calls (record { seen = seen; steps = steps }) begins-so h.led) call i

  pub hand-asks : (e : Errand) → next_errand steps ≡ Some e → Keeping calls e
  hand-asks e asked = next-asking Keeping calls steps e (led-asking Keeping host (settled host h.id Start) calls (record { seen = seen; steps = steps }) begins-so h.led) asked

  -- and the unit that it puts is of the mask with which it claims
  pub hand-masks : (at : RowNo) (mask unit : ℕ) → HasMask (parts_in (parts_of script object first count)) at mask → WantsUnit (parts_in (parts_of script object first count)) at unit
      → has_unit mask unit ≡ true
  hand-masks at mask unit masked wanted = unit-masked (parts_in (parts_of script object first count)) (by (parts_of script object first count) refl) at mask unit masked wanted
    where
      may : IsTask script host (tasks.Write object first from count)
      may = subst (IsTask script host) writes h.is

      by : (r : Result (List RowPart) PartsFault) → parts_of script object first count ≡ r → RowsDiffer (parts_in r)
      by (Ok parts) found = rows-differ parts (found-parts script is host h.id object first count parts may.some found).rows_apart
      by (Err fault) found = tt
