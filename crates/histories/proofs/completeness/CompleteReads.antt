-- A read whose replies do not refuse is done.
use Rattle.std.proofs.Common.{◌≡◌, refl, sym, subst, Bool, true, false, if◌then◌else◌, List, [], ◌∷◌, Option, Some, None, Result, Ok, Err, option_map}
use Rattle.std.specs.List.{AllByRecursion}
use Rattle.raid_base.specs.declared.numbers.BayNo.{BayNo}
use Rattle.raid_base.specs.declared.numbers.RowNo.{RowNo}
use Rattle.raid_base.specs.declared.numbers.Number.{Number}
use Rattle.raid_base.specs.declared.numbers.Spent.{Spent}
use Rattle.raid_base.specs.declared.messages.Mode.{Mode}
use Rattle.raid_base.specs.declared.messages.Mode.TheVariants.{Lock, Order}
use Rattle.raid_base.specs.declared.messages.Reply.{Reply}
use Rattle.raid_base.specs.declared.messages.Reply.TheVariants as replies
use Rattle.raid_base.specs.declared.messages.Errand.{Errand}
use Rattle.raid_base.specs.declared.messages.Grant.{Grant}
use Rattle.raid_base.specs.declared.jobs.JobEnd.{JobEnd}
use Rattle.raid_base.specs.declared.jobs.JobEnd.TheVariants as job_ends
use Rattle.raid_base.specs.declared.jobs.RowPart.{RowPart}
use Rattle.raid_base.specs.Replies.{is_done}
use Rattle.raid_base.specs.Steps.{Steps, bind, run, Walk, Through}
use Rattle.stripe_layout.specs.Placement.{parity_bay, bays_of, units_in, units_out}
use Rattle.attempts.specs.Taking.{Access, Finish, Row, Rows, no_rows, Taken, begun, row_ended, with_grant, with_parity, with_wanted, with_other, lacks, behind_from, shares}
use Rattle.attempts.specs.Releases.{releases, read_releases}
use Rattle.attempts.specs.Reading.{sharing, row_readers, numbered_releases, first_row, freeing, read_freed, read_drawn, read_numbered, row_shared, parity_shared, share_rest, wanted_shared, read_rows, read_steps}
use Rattle.attempts.proofs.RoomLemmas.{all-append}
use Rattle.histories.proofs.completeness.CompleteWalks.{Plainly, Has, plain-walk, taken, IsDoable, releases-doable, Takes, shares-take, Does, spent-does}

module _ (D : JobEnd → Type 0) (reads : (n : Number) → D (job_ends.Read n)) (a : Access) where
  all-doable : (n : Number) (rows : List Row) → AllByRecursion IsDoable (numbered_releases a n rows)
  all-doable n [] = tt
  all-doable n (row ∷ rows) =
      all-append IsDoable (releases a.id row.part.row (Some n) (row_readers a.n row)) (numbered_releases a n rows)
      (releases-doable a.id row.part.row (Some n) (row_readers a.n row)) (all-doable n rows)

  -- no reader was gone
  frees : (n : Number) (rows : List Row) → Plainly (Does D) (read_drawn a rows (Ok n))
  frees n rows =
      plain-walk (Does D) IsDoable (λ (o : Option RowNo). o ≡ None) freeing (read_freed a n rows)
      (λ e o r p none fit good. freed e o r (p r fit good) none) ended (numbered_releases a n rows) None (all-doable n rows) refl where
        freed : (e : Errand) (o : Option RowNo) (r : Reply) → r ≡ replies.Done → o ≡ None → (if is_done r then o else first_row o e.request) ≡ None
        freed e o r same none = subst (λ (x : Reply). (if is_done x then o else first_row o e.request) ≡ None) (sym same) none

        ended : (o : Option RowNo) → o ≡ None → Plainly (Does D) (read_freed a n rows (Through o))
        ended None none = λ tries numbers. reads n
        ended (Some row) none = cc

  drawn-does : (rows : List Row) (d : Result Number Spent) → Plainly (Does D) (read_drawn a rows d)
  drawn-does rows (Ok n) = frees n rows
  drawn-does rows (Err spent) = spent-does D (read_releases a rows) spent.seen

  numbered : (mode : Mode) (rows : List Row) → Plainly (Does D) (read_numbered mode a rows)
  numbered Order rows = λ tries numbers. reads a.id
  numbered Lock rows = λ d. drawn-does rows d

  -- each share is granted
  shares-plain : (keep : Option Grant → Row → Row) (f : Walk Taken → Steps Finish) → ((t : Taken) → Plainly (Does D) (f (Through t)))
      → (row : RowNo) (bays : List BayNo) (t : Taken) → Plainly (Does D) (bind (run (sharing a keep) (shares a.id row bays) t) f)
  shares-plain keep f on row bays t =
      plain-walk (Does D) Takes (λ x. Unit {0}) (sharing a keep) f
      (λ e x r p i fit good.
      taken e.request p (behind_from a.mode a.id) x.missing e.bay r fit good (λ o. Has (λ y. Unit {0}) (option_map (with_grant keep x e.bay) o)) (λ grant. tt))
      (λ x i. on x) (shares a.id row bays) t (shares-take a.id row bays) tt

  module _ (rest : Rows → Steps Finish) (rest_plain : (done : Rows) → Plainly (Does D) (rest done)) where
    others : (t : Taken) → Plainly (Does D) (parity_shared a rest (Through t))
    others t =
        shares-plain with_other (row_shared a rest) (λ x. rest_plain (row_ended x)) t.row.part.row
        (bays_of a.n t.row.part.row (units_out a.n t.row.part.mask)) t

    shares-rest : (b : Bool) (t : Taken) → Plainly (Does D) (share_rest a rest t b)
    shares-rest false t = rest_plain (row_ended t)
    shares-rest true t = shares-plain with_parity (parity_shared a rest) others t.row.part.row (parity_bay a.n t.row.part.row ∷ []) t

  rows-plain : (left : List RowPart) (done : Rows) → Plainly (Does D) (read_rows a left done)
  rows-plain [] done = numbered a.mode done.rows
  rows-plain (part ∷ left) done =
      shares-plain with_wanted (wanted_shared a (read_rows a left)) (λ x. shares-rest (read_rows a left) (rows-plain left) (lacks x.row.wanted) x)
      part.row (bays_of a.n part.row (units_in a.n part.mask)) (begun part done)

  pub reads_plain : Plainly (Does D) (read_steps a)
  reads_plain = rows-plain a.parts no_rows
