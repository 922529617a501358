-- What a write puts and commits, unit by unit: a unit that is put is one that a part of its row wants, with its block; and before a
-- parity is put, each unit that the part wants was put, or is committed with the parity, since it was missing or its note was gone.
use Rattle.std.proofs.Common.{◌≡◌, ◌⊎◌, inl, inr, ◌∙◌, ◌+◌, ◌-◌, ◌<◌, ◌≤◌, ◌==◌, ℕ, Bool, true, false, cond, List, [], ◌∷◌, ◌++◌, map, zip, Option, Some, None, IfSome, option_map, unwrap_or, Result, Ok, Err, refl, sym, ap, subst, arith}
use Rattle.std.proofs.lemmas.Bool.{eqb-true, eq-eqb}
use Rattle.std.specs.List.{AllByRecursion}
use Rattle.raid_base.specs.declared.numbers.BayNo.{BayNo}
use Rattle.raid_base.specs.declared.numbers.RowNo.{RowNo}
use Rattle.raid_base.specs.declared.numbers.Number.{Number}
use Rattle.raid_base.specs.declared.numbers.Spent.{Spent}
use Rattle.raid_base.specs.declared.cells.Cell.{Cell}
use Rattle.raid_base.specs.declared.cells.Content.TheVariants.{Bytes}
use Rattle.raid_base.specs.declared.messages.Mode.{Mode}
use Rattle.raid_base.specs.declared.messages.Mode.TheVariants.{Lock, Order}
use Rattle.raid_base.specs.declared.messages.How.TheVariants.{Plain}
use Rattle.raid_base.specs.declared.messages.Call.{Call}
use Rattle.raid_base.specs.declared.messages.Errand.{Errand}
use Rattle.raid_base.specs.declared.messages.Grant.{Grant}
use Rattle.raid_base.specs.declared.messages.Request.{Request}
use Rattle.raid_base.specs.declared.messages.Request.TheVariants.{Put}
use Rattle.raid_base.specs.declared.messages.Reply.{Reply}
use Rattle.raid_base.specs.declared.messages.Reply.TheVariants.{Granted, Busy, Late, Young, Missing, Held, NoNote, Done, Fault, Emptied, Fitted}
use Rattle.raid_base.specs.declared.jobs.Cause.{Cause}
use Rattle.raid_base.specs.declared.jobs.Cause.TheVariants as causes
use Rattle.raid_base.specs.declared.jobs.Ended.TheVariants as ends
use Rattle.raid_base.specs.declared.jobs.Plan.{Plan}
use Rattle.raid_base.specs.declared.jobs.Plan.TheVariants.{Full, Small, Reconstruct}
use Rattle.raid_base.specs.declared.jobs.RowPart.{RowPart}
use Rattle.raid_base.specs.Cells.{has_unit, plain_cell}
use Rattle.raid_base.specs.Fits.{fits, fits_claim}
use Rattle.raid_base.specs.Replies.{grant_of, held_of, is_missing, put_end}
use Rattle.raid_base.specs.Steps.{Commit, Steps, Ends, bind, Walk, Through, Stopped, run, errand_of}
use Rattle.stripe_layout.specs.Placement.{parity_bay, bay_of, bays_of, units, units_in, units_out}
use Rattle.stripe_layout.proofs.LayoutLemmas.{unit_apart, unit_back, unit_distinct}
use Rattle.attempts.specs.Taking.{Access, Finish, Row, Rows, no_rows, Taken, begun, row_ended, with_parity, with_wanted, with_other, with_grant, lacks, behind_from, refusal, unless, taking_until, why, share, claim, claims, confirm}
use Rattle.attempts.specs.Releases.{release, releases, releasing, end_as, granted_of, refused_steps, write_holds, write_releases, others_granted}
use Rattle.attempts.specs.Puts.{wanted_units, plan_of, block_at, new_parity, Puts, no_puts, at_row, with_made, with_left, life_in, granted_life, unit_of, data_put, data_put_by, unit_commit, putting_data, missing_units, parity_units, parity_put, putting_parity, with_trouble, trouble_of}
use Rattle.attempts.specs.Writing.{write_stopped, finishing, reader_releases, write_end, write_last, parity_done, put_parity, data_done, put_rows, write_drawn, write_numbered, held_row, confirmed_row, unrefused_row, row_or_change, row_confirm, confirming, confirm_cause, row_confirmed, confirm_rows, claiming, row_claimed, wanted_claims, other_shares, claim_wanted, share_others, small_claimed, share_stopped, others_shared, claim_row, parity_claimed, parity_claim, claim_rows, write_steps}
use Rattle.attempts.specs.Phases.{IsIn}
use Rattle.attempts.proofs.RoomLemmas.{all-append, all-map, all-made}
use Rattle.attempts.proofs.PhaseLemmas.{all-flat, all-weaken, any}
use Rattle.attempts.proofs.ReturnLemmas.{in-left, in-right, in-filter, in-map}
use Rattle.attempts.proofs.WriteSums.{Filled, filled-more, filled-weaken, all-both, units-known}
use Rattle.attempts.proofs.WritePhases.{all-granted}
use Rattle.histories.specs.Calls.{Happened, IsClaim, IsDone}
use Rattle.histories.specs.Torn.{IsMissing}
use Rattle.serial_laws.proofs.contents.CommittingTrees.{Committing, go-committing, run-committing}
use Rattle.row_laws.proofs.torn.RecoveryFinds.{in-units}
use Rattle.row_laws.proofs.hands.WriteMasks.{PutsNothing, each-is-in}
use Rattle.serial_laws.proofs.contents.ContentStates.{IsUnitPut, IsUnitGrant}
use Rattle.row_laws.proofs.effects.EffectsMade.{given-or-missing}

-- a unit was missing to its claim, or its put found no note, in another life than that of its grant
abbrev pub WasGone : ℕ → RowNo → ℕ → List Call → Type 0
WasGone n row unit calls =
    Happened (λ call. IsClaim (bay_of n row unit) row call × IsMissing call) calls
    ⊎ ((grant : Grant) × (life : ℕ) × (cell : Cell) × Happened (IsUnitGrant n row unit grant) calls
    × Happened (λ call. IsUnitPut n row unit cell call × (call.answer.reply ≡ NoNote life)) calls × (grant.life ≡ life → ⊥))

-- each unit that the part wants was put, with its block, or is committed now; and one that is committed now is wanted and was gone
pub record AreSettled (a : Access) (part : RowPart) (calls : List Call) (commits : List Commit) : Type 0 where
  pub wanted : (unit : ℕ) → unit + 1 < a.n → has_unit part.mask unit ≡ true →
      Happened (λ call. IsUnitPut a.n part.row unit (plain_cell (block_at a part unit)) call × IsDone call) calls
      ⊎ IsIn (record { row = part.row; unit = unit; content = Bytes (block_at a part unit) }) commits
  pub committed : AllByRecursion (λ (c : Commit). (c.row ≡ part.row) × (c.unit + 1 < a.n) × (has_unit part.mask c.unit ≡ true)
      × (c.content ≡ Bytes (block_at a part c.unit)) × WasGone a.n part.row c.unit calls) commits

-- a part of this row is among these
abbrev pub PartOf : List RowPart → RowNo → RowPart → Type 0
PartOf parts row part = IsIn part parts × (part.row ≡ row)

-- what a write puts: the block of a unit that a part of the row wants, or a parity once all that its part wants is settled
pub record WritePutsSo (a : Access) (calls : List Call) (e : Errand) (commits : List Commit) : Type 0 where
  pub data_put : (row : RowNo) (id k : Number) (cell : Cell) (unit : ℕ) → e.request ≡ Put row id k cell → e.bay ≡ bay_of a.n row unit → unit + 1 < a.n →
      (part : RowPart) × PartOf a.parts row part × (has_unit part.mask unit ≡ true) × (cell ≡ plain_cell (block_at a part unit))
  pub parity_put : (row : RowNo) (id k : Number) (cell : Cell) → e.request ≡ Put row id k cell → e.bay ≡ parity_bay a.n row →
      (part : RowPart) × PartOf a.parts row part × AreSettled a part calls commits

-- What was answered to the claim of a unit: a grant, or that it is missing
abbrev pub ClaimFound : ℕ → RowNo → List Call → ℕ → Option Grant → Type 0
ClaimFound n row calls unit None = Happened (λ call. IsClaim (bay_of n row unit) row call × IsMissing call) calls
ClaimFound n row calls unit (Some grant) = Happened (IsUnitGrant n row unit grant) calls

module _ (n : ℕ) (row : RowNo) (calls : List Call) where
  found-more : (call : Call) (unit : ℕ) (o : Option Grant) → ClaimFound n row calls unit o → ClaimFound n row (call ∷ calls) unit o
  found-more call unit None h = inr h
  found-more call unit (Some grant) h = inr h

  gone-more : (call : Call) (unit : ℕ) → WasGone n row unit calls → WasGone n row unit (call ∷ calls)
  gone-more call unit (inl h) = inl (inr h)
  gone-more call unit (inr (grant, life, cell, granted, put, other)) = inr (grant, life, cell, inr granted, inr put, other)

  -- the life of a unit that was granted is that of its grant
  found-life : (us : List ℕ) (os : List (Option Grant)) (left : List ℕ) → Filled (ClaimFound n row calls) us os left → (unit : ℕ) → IsIn unit (granted_of (zip us os)) →
      (grant : Grant) × Happened (IsUnitGrant n row unit grant) calls × (life_in unit (zip us os) ≡ grant.life)
  found-life [] os left f unit i = absurd i
  found-life (u ∷ us) [] left f unit i = absurd i
  found-life (u ∷ us) (None ∷ os) left f unit i = found-life us os left f.1 unit i
  found-life (u ∷ us) (Some found ∷ os) left f unit i = by (u == unit) refl i (λ j. found-life us os left f.1 unit j)
    where
      by : (b : Bool) → (u == unit) ≡ b → (u ≡ unit) ⊎ IsIn unit (granted_of (zip us os)) →
          (IsIn unit (granted_of (zip us os)) → (grant : Grant) × Happened (IsUnitGrant n row unit grant) calls × (life_in unit (zip us os) ≡ grant.life)) →
          (grant : Grant) × Happened (IsUnitGrant n row unit grant) calls × (cond b found.life (life_in unit (zip us os)) ≡ grant.life)
      by true e h more = (found, subst (λ (v : ℕ). Happened (IsUnitGrant n row v found) calls) (eqb-true u unit e) f.0, refl)
      by false e (inl same) more = absurd (let no : false ≡ true = sym e ∙ eq-eqb u unit same in cc)
      by false e (inr j) more = more j

  missing-gone : (Q R : ℕ → Type 0) → ((unit : ℕ) → Q unit → WasGone n row unit calls → R unit) → (us : List ℕ) (os : List (Option Grant)) (left : List ℕ) → Filled (ClaimFound n row calls) us os left →
      AllByRecursion Q us → AllByRecursion R (missing_units (zip us os))
  missing-gone Q R both [] os left f all = tt
  missing-gone Q R both (u ∷ us) [] left f all = tt
  missing-gone Q R both (u ∷ us) (Some grant ∷ os) left f all = missing-gone Q R both us os left f.1 all.1
  missing-gone Q R both (u ∷ us) (None ∷ os) left f all = (both u all.0 (inl f.0), missing-gone Q R both us os left f.1 all.1)

module _ (a : Access) (least : 3 ≤ a.n) where
  abbrev P : List Call → Errand → List Commit → Type 0
  P = WritePutsSo a

  -- errands that put nothing
  abbrev Free : Errand → Type 0
  Free e = (calls : List Call) (commits : List Commit) → P calls e commits

  free : (e : Errand) → PutsNothing e.request → Free e
  free e none calls commits = record {
    data_put = λ row id k cell unit is at below. absurd (subst PutsNothing is none);
    parity_put = λ row id k cell is at. absurd (subst PutsNothing is none);
  }

  -- a row that was taken: of a part, and each unit that it wants was answered
  abbrev IsTaken : List Call → Row → Type 0
  IsTaken calls row = IsIn row.part a.parts × Filled (ClaimFound a.n row.part.row calls) (units_in a.n row.part.mask) row.wanted []

  abbrev AreTaken : List Call → List Row → Type 0
  AreTaken calls rows = AllByRecursion (IsTaken calls) rows

  taken-more : (calls : List Call) (call : Call) (row : Row) → IsTaken calls row → IsTaken (call ∷ calls) row
  taken-more calls call row h = (
    h.0,
    filled-weaken (ClaimFound a.n row.part.row calls) (ClaimFound a.n row.part.row (call ∷ calls)) (found-more a.n row.part.row calls call) (units_in a.n row.part.mask) row.wanted [] h.1,
  )

  rows-more : (calls : List Call) (call : Call) (rows : List Row) → AreTaken calls rows → AreTaken (call ∷ calls) rows
  rows-more calls call rows h = all-weaken (IsTaken calls) (IsTaken (call ∷ calls)) (taken-more calls call) rows h

  -- Releases
  free-releases : (row : RowNo) (bays : List BayNo) → AllByRecursion Free (releases a.id row None bays)
  free-releases row bays = all-made Free (release a.id row None) (λ bay. free (release a.id row None bay) tt) bays

  free-holds : (rows : List Row) → AllByRecursion Free (write_releases a rows)
  free-holds rows = all-flat Free (λ (row : Row). releases a.id row.part.row None (write_holds a.mode a.n row)) (λ row. free-releases row.part.row (write_holds a.mode a.n row)) rows

  free-readers : (mode : Mode) (rows : List Row) → AllByRecursion Free (reader_releases mode a rows)
  free-readers Order rows = tt
  free-readers Lock rows =
      all-flat Free (λ (row : Row). releases a.id row.part.row None (bays_of a.n row.part.row (others_granted a.n row)))
      (λ row. free-releases row.part.row (bays_of a.n row.part.row (others_granted a.n row))) rows

  -- Puts
  module _ (n : Number) where
    write-ends : (calls : List Call) (walk : Walk Puts) → Committing P calls (write_end a n walk)
    write-ends calls (Through puts) = tt
    write-ends calls (Stopped puts e r) = tt

    lasts : (rows : List Row) (calls : List Call) (puts : Puts) → Committing P calls (write_last a n rows puts)
    lasts rows calls puts =
        run-committing P (λ cs (p : Puts). Unit {0}) (λ cs call p u. tt) (finishing a n) (write_end a n) (λ cs p e r u. tt) (λ cs p u. write-ends cs (Through p)) (λ cs p e r u. write-ends cs (Stopped p e r))
        (reader_releases a.mode a rows) (free-readers a.mode rows) puts calls tt

    -- of a row, with those that are left after it
    module _ (row : Row) (later : List Row) (rest : Puts → Steps Finish) (on : (calls : List Call) (puts : Puts) → AreTaken calls later → Committing P calls (rest puts)) where
      abbrev Given : List ℕ
      Given = granted_of (zip (wanted_units a row) row.wanted)

      abbrev IsPutDone : List Call → ℕ → Type 0
      IsPutDone calls u = Happened (λ call. IsUnitPut a.n row.part.row u (plain_cell (block_at a row.part u)) call × IsDone call) calls

      abbrev IsLeft : List Call → ℕ → Type 0
      IsLeft calls u = (u + 1 < a.n) × (has_unit row.part.mask u ≡ true) × WasGone a.n row.part.row u calls

      abbrev IsDue : ℕ → Type 0
      IsDue u = (u + 1 < a.n) × (has_unit row.part.mask u ≡ true) × IsIn u Given

      -- while these are to be put: the others are done, or left to the parity
      record Putting (us : List ℕ) (calls : List Call) (puts : Puts) : Type 0 where
        own : IsTaken calls row
        others : AreTaken calls later
        each : (u : ℕ) → IsIn u Given → IsIn u us ⊎ (IsPutDone calls u ⊎ IsIn u puts.left)
        gone : AllByRecursion (IsLeft calls) puts.left

      wanted-below : AllByRecursion (λ u. (u + 1 < a.n) × (has_unit row.part.mask u ≡ true)) (wanted_units a row)
      wanted-below =
          all-weaken (λ u. (u < a.n - 1) × (has_unit row.part.mask u ≡ true)) (λ u. (u + 1 < a.n) × (has_unit row.part.mask u ≡ true)) by (wanted_units a row) (units-known a.n (has_unit row.part.mask))
        where
          by : (u : ℕ) → (u < a.n - 1) × (has_unit row.part.mask u ≡ true) → (u + 1 < a.n) × (has_unit row.part.mask u ≡ true)
          by u (below, has) = (omega arith, has)

      all-due : AllByRecursion IsDue Given
      all-due =
          all-both (λ u. (u + 1 < a.n) × (has_unit row.part.mask u ≡ true)) (λ u. IsIn u Given) IsDue (λ u known i. (known.0, known.1, i)) Given
          (all-granted (λ u. (u + 1 < a.n) × (has_unit row.part.mask u ≡ true)) (wanted_units a row) row.wanted wanted-below) (each-is-in Given)

      left-more : (calls : List Call) (call : Call) (us : List ℕ) → AllByRecursion (IsLeft calls) us → AllByRecursion (IsLeft (call ∷ calls)) us
      left-more calls call us all = all-weaken (IsLeft calls) (IsLeft (call ∷ calls)) (λ u h. (h.0, h.1, gone-more a.n row.part.row calls call u h.2)) us all

      asks-data : (u : ℕ) → IsDue u → (calls : List Call) → IsTaken calls row → (commits : List Commit) → P calls (data_put a n row u) commits
      asks-data u due calls own commits =
          let inside : u + 1 < a.n = due.0 in
          record {
            data_put = λ r id k cell unit is at below.
                (let both : Put row.part.row a.id n (plain_cell (block_at a row.part u)) ≡ Put r id k cell = is in
                let same : row.part.row ≡ r = cc in
                let cells : plain_cell (block_at a row.part u) ≡ cell = cc in
                let one : u ≡ unit = unit_distinct a.n row.part.row u unit least (omega arith) (omega arith) (at ∙ ap (λ (x : RowNo). bay_of a.n x unit) (sym same)) in (
                  row.part,
                  (own.0, same),
                  subst (λ (v : ℕ). has_unit row.part.mask v ≡ true) one due.1,
                  sym cells ∙ ap (λ (v : ℕ). plain_cell (block_at a row.part v)) one,
                ));
            parity_put = λ r id k cell is at.
                (let both : Put row.part.row a.id n (plain_cell (block_at a row.part u)) ≡ Put r id k cell = is in
                let same : row.part.row ≡ r = cc in
                absurd (unit_apart a.n row.part.row u least (omega arith) (at ∙ ap (λ (x : RowNo). parity_bay a.n x) (sym same))));
          }

      is-unit : (u : ℕ) → u + 1 < a.n → unit_of a row (data_put a n row u) ≡ u
      is-unit u below = ap (λ (o : Option ℕ). unwrap_or o 0) (unit_back a.n row.part.row u least (omega arith))

      -- a put that is done, or whose unit is left to the parity
      module _ (u : ℕ) (us : List ℕ) (due : IsDue u) (calls : List Call) (call : Call) (is : errand_of call ≡ data_put a n row u) (puts : Puts) (p : Putting (u ∷ us) calls puts) where
        puts-this : IsUnitPut a.n row.part.row u (plain_cell (block_at a row.part u)) call
        puts-this = (ap (λ (x : Errand). x.bay) is, a.id, n, ap (λ (x : Errand). x.request) is)

        put-done : call.answer.reply ≡ Done → (blocks : List ℕ) → Putting us (call ∷ calls) (with_made puts blocks)
        put-done done blocks = record {
          own = taken-more calls call row p.own;
          others = rows-more calls call later p.others;
          each = λ v i. by v (p.each v i);
          gone = left-more calls call puts.left p.gone;
        }
          where
            by : (v : ℕ) → IsIn v (u ∷ us) ⊎ (IsPutDone calls v ⊎ IsIn v puts.left) → IsIn v us ⊎ (IsPutDone (call ∷ calls) v ⊎ IsIn v puts.left)
            by v (inl (inl same)) = inr (inl (subst (IsPutDone (call ∷ calls)) same (inl (puts-this, done))))
            by v (inl (inr i)) = inl i
            by v (inr (inl h)) = inr (inl (inr h))
            by v (inr (inr i)) = inr (inr i)

        was-gone : (life : ℕ) → call.answer.reply ≡ NoNote life → (life == granted_life a row u) ≡ false → WasGone a.n row.part.row u (call ∷ calls)
        was-gone life noted other =
            let found = found-life a.n row.part.row calls (wanted_units a row) row.wanted [] p.own.1 u due.2 in
            inr (
              found.0,
              life,
              plain_cell (block_at a row.part u),
              inr found.1,
              inl (puts-this, noted),
              λ same. (let no : false ≡ true = sym other ∙ eq-eqb life (granted_life a row u) (sym same ∙ sym found.2) in absurd (cc)),
            )

        put-left : (life : ℕ) → call.answer.reply ≡ NoNote life → (life == granted_life a row u) ≡ false → Putting us (call ∷ calls) (with_left puts row.part u)
        put-left life noted other = record {
          own = taken-more calls call row p.own;
          others = rows-more calls call later p.others;
          each = λ v i. by v (p.each v i);
          gone = all-append (IsLeft (call ∷ calls)) puts.left (u ∷ []) (left-more calls call puts.left p.gone) ((due.0, due.1, was-gone life noted other), tt);
        }
          where
            by : (v : ℕ) → IsIn v (u ∷ us) ⊎ (IsPutDone calls v ⊎ IsIn v puts.left) → IsIn v us ⊎ (IsPutDone (call ∷ calls) v ⊎ IsIn v (puts.left ++ u ∷ []))
            by v (inl (inl same)) = inr (inr (in-right v puts.left (u ∷ []) (inl same)))
            by v (inl (inr i)) = inl i
            by v (inr (inl h)) = inr (inl (inr h))
            by v (inr (inr i)) = inr (inr (in-left v puts.left (u ∷ []) i))

        put-answered : (r : Reply) → call.answer.reply ≡ r → IfSome (data_put_by a row puts u (put_end r)) (Putting us (call ∷ calls))
        put-answered Done e = put-done e _
        put-answered (NoNote life) e = one (life == granted_life a row u) refl
          where
            one : (b : Bool) → (life == granted_life a row u) ≡ b → IfSome (cond b None (Some (with_left puts row.part u))) (Putting us (call ∷ calls))
            one true same = tt
            one false other = put-left life e other
        put-answered (Granted cell read_no write_no last life seized) e = tt
        put-answered (Busy holder) e = tt
        put-answered (Late above) e = tt
        put-answered (Young note) e = tt
        put-answered (Missing floor) e = tt
        put-answered (Held cell) e = tt
        put-answered Fault e = tt
        put-answered Emptied e = tt
        put-answered Fitted e = tt

      -- all are put or left
      are-settled : (calls : List Call) (puts : Puts) → Putting [] calls puts → AreSettled a row.part calls (map (unit_commit a row) (parity_units a row puts))
      are-settled calls puts p = record {
        wanted = λ unit below has.
            by unit (given-or-missing (ClaimFound a.n row.part.row calls) (wanted_units a row) row.wanted p.own.1 unit (in-filter unit (has_unit row.part.mask) (units a.n) (in-units a.n unit (omega arith)) has));
        committed =
            all-map
            (λ (c : Commit). (c.row ≡ row.part.row) × (c.unit + 1 < a.n) × (has_unit row.part.mask c.unit ≡ true) × (c.content ≡ Bytes (block_at a row.part c.unit)) × WasGone a.n row.part.row c.unit calls)
            (IsLeft calls) (unit_commit a row) (λ u h. (refl, h.0, h.1, refl, h.2)) (parity_units a row puts)
            (all-append (IsLeft calls) (missing_units (zip (wanted_units a row) row.wanted)) puts.left
            (missing-gone a.n row.part.row calls (λ u. (u + 1 < a.n) × (has_unit row.part.mask u ≡ true)) (IsLeft calls) (λ u known gone. (known.0, known.1, gone))
            (wanted_units a row) row.wanted [] p.own.1 wanted-below) p.gone);
      }
        where
          left-in : (unit : ℕ) → IsIn unit (parity_units a row puts) → IsIn (unit_commit a row unit) (map (unit_commit a row) (parity_units a row puts))
          left-in unit i = in-map (unit_commit a row) unit (parity_units a row puts) i

          of-granted : (unit : ℕ) → IsIn unit [] ⊎ (IsPutDone calls unit ⊎ IsIn unit puts.left) → IsPutDone calls unit ⊎ IsIn (unit_commit a row unit) (map (unit_commit a row) (parity_units a row puts))
          of-granted unit (inl i) = absurd i
          of-granted unit (inr (inl h)) = inl h
          of-granted unit (inr (inr i)) = inr (left-in unit (in-right unit (missing_units (zip (wanted_units a row) row.wanted)) puts.left i))

          by : (unit : ℕ) → IsIn unit Given ⊎ IsIn unit (missing_units (zip (wanted_units a row) row.wanted)) →
              IsPutDone calls unit ⊎ IsIn (unit_commit a row unit) (map (unit_commit a row) (parity_units a row puts))
          by unit (inl i) = of-granted unit (p.each unit i)
          by unit (inr i) = inr (left-in unit (in-left unit (missing_units (zip (wanted_units a row) row.wanted)) puts.left i))

      asks-parity : (calls : List Call) (puts : Puts) → Putting [] calls puts → P calls (parity_put a n row) (map (unit_commit a row) (parity_units a row puts))
      asks-parity calls puts p = record {
        data_put = λ r id k cell unit is at below.
            (let both : Put row.part.row a.id n (new_parity a row) ≡ Put r id k cell = is in
            let same : row.part.row ≡ r = cc in
            absurd (unit_apart a.n r unit least (omega arith) (sym at ∙ ap (λ (x : RowNo). parity_bay a.n x) same)));
        parity_put = λ r id k cell is at.
            (let both : Put row.part.row a.id n (new_parity a row) ≡ Put r id k cell = is in
            let same : row.part.row ≡ r = cc in
            (row.part, (p.own.0, same), are-settled calls puts p));
      }

      parity-puts : (calls : List Call) (puts : Puts) → Putting [] calls puts → (grant : Option Grant) → Committing P calls (put_parity a n row rest puts grant)
      parity-puts calls puts p None = on calls puts p.others
      parity-puts calls puts p (Some grant) = (
        asks-parity calls puts p,
        λ call is fit.
            go-committing P (call ∷ calls) (λ (b : Puts). Unit {0}) ((putting_parity a n row).step puts (parity_put a n row) call.answer.reply) (λ b. run (putting_parity a n row) [] b)
            (Ends (Stopped puts (parity_put a n row) call.answer.reply)) (parity_done row rest) (any ((putting_parity a n row).step puts (parity_put a n row) call.answer.reply))
            (λ b u. on (call ∷ calls) b (rows-more calls call later p.others))
            (on (call ∷ calls) (with_trouble puts (trouble_of row (parity_put a n row) call.answer.reply)) (rows-more calls call later p.others)),
      )

      data-puts : (us : List ℕ) → AllByRecursion IsDue us → (puts : Puts) (calls : List Call) → Putting us calls puts
          → Committing P calls (bind (run (putting_data a n row) (map (data_put a n row) us) puts) (data_done a n row rest))
      data-puts [] due puts calls p = parity-puts calls puts p row.parity
      data-puts (u ∷ us) due puts calls p = (
        asks-data u due.0 calls p.own ((putting_data a n row).commits puts (data_put a n row u)),
        λ call is fit.
            go-committing P (call ∷ calls) (Putting us (call ∷ calls)) ((putting_data a n row).step puts (data_put a n row u) call.answer.reply) (λ b. run (putting_data a n row) (map (data_put a n row) us) b)
            (Ends (Stopped puts (data_put a n row u) call.answer.reply)) (data_done a n row rest)
            (subst (λ (v : ℕ). IfSome (data_put_by a row puts v (put_end call.answer.reply)) (Putting us (call ∷ calls))) (sym (is-unit u due.0.0))
            (put-answered u us due.0 calls call is puts p call.answer.reply refl))
            (λ b q. data-puts us due.1 b (call ∷ calls) q)
            (on (call ∷ calls) (with_trouble puts (trouble_of row (data_put a n row u) call.answer.reply)) (rows-more calls call later p.others)),
      )

    rows-put : (all rows : List Row) (calls : List Call) (puts : Puts) → AreTaken calls rows → Committing P calls (put_rows a n (write_last a n all) rows puts)
    rows-put all [] calls puts are = lasts all calls puts
    rows-put all (row ∷ rows) calls puts are =
        data-puts row rows (put_rows a n (write_last a n all) rows) (rows-put all rows) (granted_of (zip (wanted_units a row) row.wanted))
        (all-due row rows (put_rows a n (write_last a n all) rows) (rows-put all rows)) (at_row puts) calls
        (record { own = are.0; others = are.1; each = λ u i. inl i; gone = tt })

  -- A write that is refused, and one that has claimed
  write-refuses : (rows : List Row) (cause : Cause) (calls : List Call) → Committing P calls (refused_steps (write_releases a rows) cause)
  write-refuses rows cause calls =
      run-committing P (λ cs (u : Unit {0}). Unit {0}) (λ cs call u i. tt) releasing (end_as (ends.Refused cause)) (λ cs u e r i. tt) (λ cs u i. tt) (λ cs u e r i. tt)
      (write_releases a rows) (free-holds rows) tt calls tt

  write-drawn : (rows : List Row) (calls : List Call) → AreTaken calls rows → (d : Result Number Spent) → Committing P calls (write_drawn a rows d)
  write-drawn rows calls are (Err spent) = write-refuses rows (causes.Spent spent.seen) calls
  write-drawn rows calls are (Ok n) = rows-put n rows rows calls no_puts are

  write-numbers : (mode : Mode) (rows : List Row) (calls : List Call) → AreTaken calls rows → Committing P calls (write_numbered mode a rows)
  write-numbers Order rows calls are = rows-put a.id rows rows calls no_puts are
  write-numbers Lock rows calls are = write-drawn rows calls are

  write-stops : (taken : Taken) (e : Errand) (r : Reply) (calls : List Call) → Committing P calls (write_stopped a taken e r)
  write-stops taken e r calls = write-refuses (taken.before ++ taken.row ∷ []) (why (behind_from a.mode a.id) taken e r) calls

  -- Confirms keep what was taken
  module _ (calls : List Call) (row : Row) (own : IsTaken calls row) where
    held-taken : (grant : Grant) (want : Bool) (held : Option (Option Cell)) → IfSome (held_row row grant want held) (IsTaken calls)
    held-taken grant want None = tt
    held-taken grant true (Some None) = tt
    held-taken grant true (Some (Some cell)) = own
    held-taken grant false (Some cell) = own

    there-taken : (missing : Bool) → IfSome (cond missing (Some row) None) (IsTaken calls)
    there-taken true = own
    there-taken false = tt

    confirmed-taken : (r : Reply) (parity : Option Grant) → IfSome (confirmed_row row r parity) (IsTaken calls)
    confirmed-taken r None = there-taken (is_missing r)
    confirmed-taken r (Some grant) = held-taken grant (lacks row.others) (held_of r)

    unrefused-taken : (r : Reply) (cause : Option Cause) → IfSome (unrefused_row row r cause) (IsTaken calls)
    unrefused-taken r (Some cause) = tt
    unrefused-taken r None = confirmed-taken r row.parity

    more-taken : (done : Rows) (o : Option Row) → AreTaken calls done.rows → IfSome o (IsTaken calls)
        → IfSome (option_map (λ (r : Row). record done { rows = done.rows ++ r ∷ [] }) o) (λ (rows : Rows). AreTaken calls rows.rows)
    more-taken done None are i = tt
    more-taken done (Some r) are i = all-append (IsTaken calls) done.rows (r ∷ []) are (i, tt)

    confirms-keep : (done : Rows) (e : Errand) (r : Reply) → AreTaken calls done.rows → IfSome ((confirming a row).step done e r) (λ (rows : Rows). AreTaken calls rows.rows)
    confirms-keep done e r are =
        more-taken done (row_or_change (behind_from a.mode a.id) done.missing e.bay row r) are (unrefused-taken r (refusal (behind_from a.mode a.id) done.missing e.bay r))

  confirms : (rows left : List Row) (done : Rows) (calls : List Call) → AreTaken calls left → AreTaken calls done.rows → Committing P calls (confirm_rows a rows left done)
  confirms rows [] done calls still are = write-numbers a.mode done.rows calls are
  confirms rows (row ∷ left) done calls still are =
      run-committing P (λ cs (d : Rows). AreTaken cs (row ∷ left) × AreTaken cs d.rows) (λ cs call d i. (rows-more cs call (row ∷ left) i.0, rows-more cs call d.rows i.1)) (confirming a row)
      (row_confirmed a rows row (confirm_rows a rows left)) keeps (λ cs d i. confirms rows left d cs i.0.1 i.1) (λ cs d e r i. write-refuses rows (confirm_cause a row d e r) cs) (row_confirm a row ∷ [])
      (free (confirm a.id row.part.row (lacks row.others) (parity_bay a.n row.part.row)) tt, tt) done calls (still, are)
    where
      both : (cs : List Call) (o : Option Rows) → AreTaken cs (row ∷ left) → IfSome o (λ (d : Rows). AreTaken cs d.rows) → IfSome o (λ (d : Rows). AreTaken cs (row ∷ left) × AreTaken cs d.rows)
      both cs None i h = tt
      both cs (Some d) i h = (i, h)

      keeps : (cs : List Call) (d : Rows) (e : Errand) (r : Reply) → AreTaken cs (row ∷ left) × AreTaken cs d.rows
          → IfSome ((confirming a row).step d e r) (λ (d : Rows). AreTaken cs (row ∷ left) × AreTaken cs d.rows)
      keeps cs d e r i = both cs ((confirming a row).step d e r) i.0 (confirms-keep cs row i.0.0 d e r i.1)

  -- Shares and claims of a part's row: these of its units are still to be claimed
  module _ (part : RowPart) (among : IsIn part a.parts) where
    abbrev IsRow : List ℕ → List Call → Row → List Row → Type 0
    IsRow left calls row before = (row.part ≡ part) × Filled (ClaimFound a.n part.row calls) (units_in a.n part.mask) row.wanted left × AreTaken calls before

    abbrev Taking : List ℕ → List Call → Taken → Type 0
    Taking left calls taken = IsRow left calls taken.row taken.before

    taking-more : (left : List ℕ) (calls : List Call) (call : Call) (taken : Taken) → Taking left calls taken → Taking left (call ∷ calls) taken
    taking-more left calls call taken h = (
      h.0,
      filled-weaken (ClaimFound a.n part.row calls) (ClaimFound a.n part.row (call ∷ calls)) (found-more a.n part.row calls call) (units_in a.n part.mask) taken.row.wanted left h.1,
      rows-more calls call taken.before h.2,
    )

    -- the others and the parity leave the wanted ones as they are
    module _ (left : List ℕ) (keep : Option Grant → Row → Row) (kept : (calls : List Call) (o : Option Grant) (row : Row) (before : List Row) → IsRow left calls row before → IsRow left calls (keep o row) before)
        (calls : List Call) (taken : Taken) (e : Errand) (r : Reply) (h : Taking left calls taken) where
      granted-kept : (cause : Option Cause) (o : Option Grant) → IfSome (option_map (with_grant keep taken e.bay) (unless cause o)) (Taking left calls)
      granted-kept (Some cause) o = tt
      granted-kept None None = kept calls None taken.row taken.before h
      granted-kept None (Some grant) = kept calls (Some grant) taken.row taken.before h

      taking-keeps : IfSome ((claiming a keep).step taken e r) (Taking left calls)
      taking-keeps = granted-kept (refusal (behind_from a.mode a.id) taken.missing e.bay r) (grant_of r)

      shared-kept : (o : Option Grant) → IfSome (option_map (λ (grant : Grant). with_grant keep taken e.bay (Some grant)) o) (Taking left calls)
      shared-kept None = tt
      shared-kept (Some grant) = kept calls (Some grant) taken.row taken.before h

      until-keeps : IfSome ((taking_until keep).step taken e r) (Taking left calls)
      until-keeps = shared-kept (grant_of r)

    -- a claim of a unit that doesn't refuse was granted, or the unit is missing
    module _ (want : Bool) (u : ℕ) (us : List ℕ) (calls : List Call) (call : Call) (is : errand_of call ≡ claim a.id part.row Plain 0 want (bay_of a.n part.row u)) (taken : Taken) (h : Taking (u ∷ us) calls taken) where
      claims-this : IsClaim (bay_of a.n part.row u) part.row call
      claims-this = (ap (λ (x : Errand). x.bay) is, a.id, Plain, 0, want, ap (λ (x : Errand). x.request) is)

      one-more : (o : Option Grant) → ClaimFound a.n part.row (call ∷ calls) u o → IsRow us (call ∷ calls) (with_wanted o taken.row) taken.before
      one-more o found =
          let more = taking-more (u ∷ us) calls call taken h in
          (more.0, filled-more (ClaimFound a.n part.row (call ∷ calls)) (units_in a.n part.mask) taken.row.wanted o u us more.1 found, more.2)

      abbrev Claimed : Reply → Type 0
      Claimed r =
          IfSome (option_map (with_grant with_wanted taken (bay_of a.n part.row u)) (unless (refusal (behind_from a.mode a.id) taken.missing (bay_of a.n part.row u) r) (grant_of r))) (Taking us (call ∷ calls))

      unit-answered : (r : Reply) → call.answer.reply ≡ r → fits_claim Plain want r ≡ true → Claimed r
      unit-answered (Granted cell read_no write_no last life seized) e fit =
          one-more (Some (record { cell = cell; last = last; life = life; seized = seized })) (inl (claims-this, ap grant_of e))
      unit-answered (Missing floor) e fit = by (refusal (behind_from a.mode a.id) taken.missing (bay_of a.n part.row u) (Missing floor))
        where
          by : (cause : Option Cause) → IfSome (option_map (with_grant with_wanted taken (bay_of a.n part.row u)) (unless cause None)) (Taking us (call ∷ calls))
          by (Some cause) = tt
          by None = one-more None (inl (claims-this, (floor, e)))
      unit-answered (Busy holder) e fit = tt
      unit-answered (Late above) e fit = tt
      unit-answered (Young note) e fit = tt
      unit-answered Fault e fit = tt
      unit-answered (Held cell) e fit = absurd (cc)
      unit-answered (NoNote life) e fit = absurd (cc)
      unit-answered Done e fit = absurd (cc)
      unit-answered Emptied e fit = absurd (cc)
      unit-answered Fitted e fit = absurd (cc)

    units-claimed : (want : Bool) (f : Walk Taken → Steps Finish) → ((calls : List Call) (taken : Taken) → Taking [] calls taken → Committing P calls (f (Through taken)))
        → ((calls : List Call) (taken : Taken) (e : Errand) (r : Reply) → Committing P calls (f (Stopped taken e r))) → (us : List ℕ) (taken : Taken) (calls : List Call) → Taking us calls taken
        → Committing P calls (bind (run (claiming a with_wanted) (claims a.id part.row Plain want (bays_of a.n part.row us)) taken) f)
    units-claimed want f on off [] taken calls h = on calls taken h
    units-claimed want f on off (u ∷ us) taken calls h = (
      free (claim a.id part.row Plain 0 want (bay_of a.n part.row u)) tt calls [],
      λ call is fit.
          go-committing P (call ∷ calls) (Taking us (call ∷ calls)) ((claiming a with_wanted).step taken (claim a.id part.row Plain 0 want (bay_of a.n part.row u)) call.answer.reply)
          (λ t. run (claiming a with_wanted) (claims a.id part.row Plain want (bays_of a.n part.row us)) t)
          (Ends (Stopped taken (claim a.id part.row Plain 0 want (bay_of a.n part.row u)) call.answer.reply)) f
          (unit-answered want u us calls call is taken h call.answer.reply refl (subst (λ (w : Request). fits w call.answer.reply ≡ true) (ap (λ (x : Errand). x.request) is) fit))
          (λ t more. units-claimed want f on off us t (call ∷ calls) more)
          (off (call ∷ calls) taken (claim a.id part.row Plain 0 want (bay_of a.n part.row u)) call.answer.reply),
    )

    module _ (rest : Rows → Steps Finish) (on : (calls : List Call) (rows : Rows) → AreTaken calls rows.rows → Committing P calls (rest rows)) where
      row-ends : (calls : List Call) (taken : Taken) → Taking [] calls taken → Committing P calls (rest (row_ended taken))
      row-ends calls taken h = on calls (row_ended taken) (all-append (IsTaken calls) taken.before (taken.row ∷ []) h.2 (own, tt))
        where
          own : IsTaken calls taken.row
          own =
              subst (λ (p : RowPart). IsIn p a.parts × Filled (ClaimFound a.n p.row calls) (units_in a.n p.mask) taken.row.wanted []) (sym h.0) (among, h.1)

      free-others : (other : RowPart) → AllByRecursion Free (other_shares a other)
      free-others other = all-made Free (share a.id other.row) (λ bay. free (share a.id other.row bay) tt) (bays_of a.n other.row (units_out a.n other.mask))

      abbrev Fresh : List Call → Taken → Type 0
      Fresh = Taking (units_in a.n part.mask)

      wanted-claimed : (want : Bool) (taken : Taken) (calls : List Call) → Fresh calls taken → Committing P calls (claim_wanted a rest want taken)
      wanted-claimed want taken calls h =
          subst (λ (p : RowPart). Committing P calls (bind (run (claiming a with_wanted) (wanted_claims a want p) taken) (row_claimed a rest))) (sym h.0)
          (units-claimed want (row_claimed a rest) row-ends (λ cs t e r. write-stops t e r cs) (units_in a.n part.mask) taken calls h)

      others-claimed : (taken : Taken) (lacking : Bool) (calls : List Call) → Taking [] calls taken → Committing P calls (share_others a rest taken lacking)
      others-claimed taken false calls h = row-ends calls taken h
      others-claimed taken true calls h =
          run-committing P (Taking []) (taking-more []) (claiming a with_other) (row_claimed a rest) (taking-keeps [] with_other (λ cs o row before k. k)) row-ends
          (λ cs t e r k. write-stops t e r cs) (other_shares a taken.row.part) (free-others taken.row.part) taken calls h

      share-stops : (taken : Taken) (bay : BayNo) (cause : Option Cause) (calls : List Call) → Fresh calls taken → Committing P calls (share_stopped a rest taken bay cause)
      share-stops taken bay (Some cause) calls h = write-refuses (taken.before ++ taken.row ∷ []) cause calls
      share-stops taken bay None calls h = wanted-claimed true (with_grant with_other taken bay None) calls h

      row-begins : (taken : Taken) (grant : Option Grant) (plan : Plan) (calls : List Call) → Fresh calls taken → Committing P calls (claim_row a rest taken grant plan)
      row-begins taken None plan calls h = wanted-claimed false taken calls h
      row-begins taken (Some grant) Full calls h = wanted-claimed false taken calls h
      row-begins taken (Some grant) Small calls h =
          subst (λ (p : RowPart). Committing P calls (bind (run (claiming a with_wanted) (wanted_claims a true p) taken) (small_claimed a rest))) (sym h.0)
          (units-claimed true (small_claimed a rest) (λ cs t k. others-claimed t (lacks t.row.wanted) cs k) (λ cs t e r. write-stops t e r cs) (units_in a.n part.mask) taken calls h)
      row-begins taken (Some grant) Reconstruct calls h =
          run-committing P Fresh (taking-more (units_in a.n part.mask)) (taking_until with_other) (others_shared a rest) (until-keeps (units_in a.n part.mask) with_other (λ cs o row before k. k))
          (λ cs t k. wanted-claimed false t cs k) (λ cs t e r k. share-stops t e.bay (refusal (behind_from a.mode a.id) t.missing e.bay r) cs k)
          (other_shares a taken.row.part) (free-others taken.row.part) taken calls h

      row-claimed : (done : Rows) (calls : List Call) → AreTaken calls done.rows → Committing P calls (bind (run (claiming a with_parity) (parity_claim a part ∷ []) (begun part done)) (parity_claimed a rest))
      row-claimed done calls are =
          run-committing P Fresh (taking-more (units_in a.n part.mask)) (claiming a with_parity) (parity_claimed a rest) (taking-keeps (units_in a.n part.mask) with_parity (λ cs o row before k. k))
          (λ cs t k. row-begins t t.row.parity (plan_of a t.row.part) cs k) (λ cs t e r k. write-stops t e r cs) (parity_claim a part ∷ []) (free (parity_claim a part) tt, tt) (begun part done) calls (refl, refl, are)

  rows-claimed : (left : List RowPart) → AllByRecursion (λ (part : RowPart). IsIn part a.parts) left → (done : Rows) (calls : List Call) → AreTaken calls done.rows → Committing P calls (claim_rows a left done)
  rows-claimed [] still done calls are = confirms done.rows done.rows (record done { rows = [] }) calls are tt
  rows-claimed (part ∷ left) still done calls are = row-claimed part still.0 (claim_rows a left) (λ cs rows h. rows-claimed left still.1 rows cs h) done calls are

pub writes-settle : (a : Access) → 3 ≤ a.n → Committing (WritePutsSo a) [] (write_steps a)
writes-settle a least = rows-claimed a least a.parts (each-is-in a.parts) no_rows [] tt
