-- How reads end.
use Rattle.std.proofs.Common.{◌≡◌, refl, sym, ap, ◌∙◌, ℕ, ◌+◌, Bool, true, false, List, [], ◌∷◌, ◌++◌, Option, Some, None, IfSome, Result, Ok, Err, length, zip, option_map, arith, length-append}
use Rattle.std.proofs.lemmas.List.Sums.{sum_by-cons}
use Rattle.std.specs.List.{AllByRecursion}
use Rattle.std.proofs.lemmas.List.{append-nil, length-map}
use Rattle.raid_base.specs.declared.numbers.BayNo.{BayNo}
use Rattle.raid_base.specs.declared.numbers.RowNo.{RowNo}
use Rattle.raid_base.specs.declared.numbers.Number.{Number}
use Rattle.raid_base.specs.declared.numbers.Spent.{Spent}
use Rattle.raid_base.specs.declared.messages.Mode.{Mode}
use Rattle.raid_base.specs.declared.messages.Mode.TheVariants.{Lock, Order}
use Rattle.raid_base.specs.declared.messages.Reply.{Reply}
use Rattle.raid_base.specs.declared.messages.Errand.{Errand}
use Rattle.raid_base.specs.declared.messages.Grant.{Grant}
use Rattle.raid_base.specs.declared.jobs.Cause.{Cause}
use Rattle.raid_base.specs.declared.jobs.Cause.TheVariants as causes
use Rattle.raid_base.specs.declared.jobs.Ended.TheVariants as ends
use Rattle.raid_base.specs.declared.jobs.RowPart.{RowPart}
use Rattle.raid_base.specs.Steps.{Steps, Walk, Through, Stopped}
use Rattle.stripe_layout.specs.Placement.{parity_bay, bay_of, bays_of, units_in, units_out}
use Rattle.attempts.specs.Taking.{Access, Finish, Row, Rows, no_rows, Taken, begun, row_ended, lacks, behind_from, why, with_parity, with_wanted, with_other, with_grant, grant_or_gap, share, shares}
use Rattle.attempts.specs.Releases.{releasing, end_as, refused_steps, read_releases}
use Rattle.attempts.specs.Reading.{sharing, read_refused, read_finish, numbered_releases, freeing, read_freed, read_drawn, read_numbered, row_shared, parity_shared, share_rest, wanted_shared, read_rows, contents_of, row_contents, unit_content}
use Rattle.attempts.specs.Finishes.{Finishes, unit_count, IsReadEnd, ReadsFinish}
use Rattle.attempts.proofs.RoomLemmas.{parts_of, all-append}
use Rattle.attempts.proofs.TakenLemmas.{SoFar, so_far-more}
use Rattle.attempts.proofs.FinishLemmas.{finishes-run, finishes-units, finishes-kept}

one-more : (gs : List (Option Grant)) (g : Option Grant) → length (gs ++ g ∷ []) ≡ length gs + 1
one-more gs g = length-append gs (g ∷ [])

module _ (n : ℕ) where
  -- all wanted units of the row were answered
  abbrev IsFull : Row → Type 0
  IsFull row = length row.wanted ≡ length (units_in n row.part.mask)

  zip-full : (us : List ℕ) (gs : List (Option Grant)) → length gs ≡ length us → length (zip us gs) ≡ length us
  zip-full [] gs e = refl
  zip-full (u ∷ us) [] e = omega (arith, e)
  zip-full (u ∷ us) (g ∷ gs) e = let h : length (zip us gs) ≡ length us = zip-full us gs (omega (arith, e)) in omega (arith, h)

  row-full : (row : Row) → IsFull row → length (row_contents n row) ≡ length (units_in n row.part.mask)
  row-full row e = length-map (zip (units_in n row.part.mask) row.wanted) (unit_content row) ∙ zip-full (units_in n row.part.mask) row.wanted e

  contents-full : (rows : List Row) → AllByRecursion IsFull rows → length (contents_of n rows) ≡ unit_count n (parts_of rows)
  contents-full [] all = refl
  contents-full (row ∷ rows) all = omega (arith, length-append (row_contents n row) (contents_of n rows), row-full row all.0, contents-full rows all.1, sum_by-cons (λ (part : RowPart). length (units_in n part.mask)) row.part (parts_of rows))

module _ (a : Access) where
  abbrev IsEnd : Finish → Type 0
  IsEnd f = IsReadEnd (unit_count a.n a.parts) f.contents f.ended

  -- the rows so far are full
  pub record IsSoFar (done : List Row) (left : List RowPart) : Type 0 where
    pub parts : SoFar a done left
    pub full : AllByRecursion (IsFull a.n) done

  refused-ends : (es : List Errand) (cause : Cause) → Finishes IsEnd (refused_steps es cause)
  refused-ends es cause = finishes-run IsEnd releasing (end_as (ends.Refused cause)) (λ u. tt) (λ walk. refl) es tt

  finish-ends : (n : Number) (rows : List Row) → IsSoFar rows [] → IsEnd (read_finish a n rows)
  finish-ends n rows s = contents-full a.n rows s.full ∙ ap (unit_count a.n) (sym (append-nil (parts_of rows)) ∙ s.parts)

  freed-ends : (n : Number) (rows : List Row) → IsSoFar rows [] → (walk : Walk (Option RowNo)) → Finishes IsEnd (read_freed a n rows walk)
  freed-ends n rows s (Through None) = finish-ends n rows s
  freed-ends n rows s (Through (Some row)) = refl
  freed-ends n rows s (Stopped row e r) = finish-ends n rows s

  drawn-ends : (rows : List Row) → IsSoFar rows [] → (d : Result Number Spent) → Finishes IsEnd (read_drawn a rows d)
  drawn-ends rows s (Err spent) = refused-ends (read_releases a rows) (causes.Spent spent.seen)
  drawn-ends rows s (Ok n) = finishes-run IsEnd freeing (read_freed a n rows) (λ u. tt) (freed-ends n rows s) (numbered_releases a n rows) None

  numbered-ends : (mode : Mode) (rows : List Row) → IsSoFar rows [] → Finishes IsEnd (read_numbered mode a rows)
  numbered-ends Order rows s = finish-ends a.id rows s
  numbered-ends Lock rows s = λ d. drawn-ends rows s d

  stopped-ends : (taken : Taken) (e : Errand) (r : Reply) → Finishes IsEnd (read_refused a taken e r)
  stopped-ends taken e r = refused-ends (read_releases a (taken.before ++ taken.row ∷ [])) (why (behind_from a.mode a.id) taken e r)

  -- a row of this part is in hand, and these of its wanted units are left
  pub record IsSharing (part : RowPart) (left : List RowPart) (us : List ℕ) (taken : Taken) : Type 0 where
    pub row : taken.row.part ≡ part
    pub before : IsSoFar taken.before (part ∷ left)
    pub counted : length taken.row.wanted + length us ≡ length (units_in a.n part.mask)

  module _ (part : RowPart) (left : List RowPart) where
    wanted-kept : (u : ℕ) (us : List ℕ) (taken : Taken) (bay : BayNo) (o : Option (Option Grant)) → IsSharing part left (u ∷ us) taken →
        IfSome (option_map (with_grant with_wanted taken bay) o) (IsSharing part left us)
    wanted-kept u us taken bay None s = tt
    wanted-kept u us taken bay (Some (Some grant)) s = record { row = s.row; before = s.before; counted = omega (arith, s.counted, one-more taken.row.wanted (Some grant)) }
    wanted-kept u us taken bay (Some None) s = record { row = s.row; before = s.before; counted = omega (arith, s.counted, one-more taken.row.wanted None) }

    parity-kept : (taken : Taken) (bay : BayNo) (o : Option (Option Grant)) → IsSharing part left [] taken →
        IfSome (option_map (with_grant with_parity taken bay) o) (IsSharing part left [])
    parity-kept taken bay None s = tt
    parity-kept taken bay (Some (Some grant)) s = record { row = s.row; before = s.before; counted = s.counted }
    parity-kept taken bay (Some None) s = record { row = s.row; before = s.before; counted = s.counted }

    other-kept : (taken : Taken) (bay : BayNo) (o : Option (Option Grant)) → IsSharing part left [] taken →
        IfSome (option_map (with_grant with_other taken bay) o) (IsSharing part left [])
    other-kept taken bay None s = tt
    other-kept taken bay (Some (Some grant)) s = record { row = s.row; before = s.before; counted = s.counted }
    other-kept taken bay (Some None) s = record { row = s.row; before = s.before; counted = s.counted }

    row-done : (taken : Taken) → IsSharing part left [] taken → IsSoFar (taken.before ++ taken.row ∷ []) left
    row-done taken s =
        let full : IsFull a.n taken.row = (let e : length taken.row.wanted ≡ length (units_in a.n part.mask) = omega (arith, s.counted) in e ∙ ap (λ (p : RowPart). length (units_in a.n p.mask)) (sym s.row)) in
        record {
          parts = so_far-more a taken.before taken.row part left s.row s.before.parts;
          full = all-append (IsFull a.n) taken.before (taken.row ∷ []) s.before.full (full, tt);
        }

    module _ (rest : Rows → Steps Finish) (rest_ends : (done : Rows) → IsSoFar done.rows left → Finishes IsEnd (rest done)) where
      others-end : (taken : Taken) → IsSharing part left [] taken → Finishes IsEnd (parity_shared a rest (Through taken))
      others-end taken s =
          finishes-kept IsEnd (IsSharing part left []) (sharing a with_other) (row_shared a rest) (λ u. tt)
          (λ taken e r s. other-kept taken e.bay (grant_or_gap (behind_from a.mode a.id) taken.missing e.bay r) s)
          (λ taken s. rest_ends (row_ended taken) (row-done taken s)) stopped-ends
          (shares a.id taken.row.part.row (bays_of a.n taken.row.part.row (units_out a.n taken.row.part.mask))) taken s

      rest-ends : (b : Bool) (taken : Taken) → IsSharing part left [] taken → Finishes IsEnd (share_rest a rest taken b)
      rest-ends false taken s = rest_ends (row_ended taken) (row-done taken s)
      rest-ends true taken s =
          finishes-kept IsEnd (IsSharing part left []) (sharing a with_parity) (parity_shared a rest) (λ u. tt)
          (λ taken e r s. parity-kept taken e.bay (grant_or_gap (behind_from a.mode a.id) taken.missing e.bay r) s)
          others-end stopped-ends
          (share a.id taken.row.part.row (parity_bay a.n taken.row.part.row) ∷ []) taken s

  rows-end : (left : List RowPart) (done : Rows) → IsSoFar done.rows left → Finishes IsEnd (read_rows a left done)
  rows-end [] done s = numbered-ends a.mode done.rows s
  rows-end (part ∷ left) done s =
      finishes-units IsEnd (bay_of a.n part.row) (share a.id part.row) (IsSharing part left) (sharing a with_wanted) (wanted_shared a (read_rows a left)) (λ u. tt)
      (λ u us taken r s. wanted-kept part left u us taken (bay_of a.n part.row u) (grant_or_gap (behind_from a.mode a.id) taken.missing (bay_of a.n part.row u) r) s)
      (λ taken s. rest-ends part left (read_rows a left) (rows-end left) (lacks taken.row.wanted) taken s)
      stopped-ends
      (units_in a.n part.mask) (begun part done) (record { row = refl; before = s; counted = omega arith })

pub reads_finish : ReadsFinish
reads_finish a = rows-end a a.parts no_rows (record { parts = refl; full = tt })
