-- Reads keep the order.
use Rattle.std.proofs.Common.{◌≡◌, refl, subst, ℕ, ◌≤◌, Bool, true, false, List, [], ◌∷◌, ◌++◌, Option, Some, None, IfSome, Result, Ok, Err, arith}
use Rattle.raid_base.specs.declared.numbers.RowNo.{RowNo}
use Rattle.raid_base.specs.declared.numbers.Number.{Number}
use Rattle.raid_base.specs.declared.numbers.Spent.{Spent}
use Rattle.raid_base.specs.declared.messages.Mode.{Mode}
use Rattle.raid_base.specs.declared.messages.Mode.TheVariants.{Lock, Order}
use Rattle.raid_base.specs.declared.messages.Reply.{Reply}
use Rattle.raid_base.specs.declared.messages.Errand.{Errand}
use Rattle.raid_base.specs.declared.messages.Grant.{Grant}
use Rattle.raid_base.specs.declared.jobs.Cause.{Cause}
use Rattle.raid_base.specs.declared.jobs.Cause.TheVariants as causes
use Rattle.raid_base.specs.declared.jobs.Ended.TheVariants as ends
use Rattle.raid_base.specs.declared.jobs.RowPart.{RowPart}
use Rattle.raid_base.specs.Steps.{Steps, bind, Walk, Through, Stopped, run}
use Rattle.stripe_layout.specs.Placement.{parity_bay, bay_of, bays_of, units_in, units_out}
use Rattle.attempts.specs.Taking.{Access, Finish, Row, Rows, no_rows, Taken, begun, row_ended, lacks, behind_from, why, with_parity, with_wanted, with_other, share, shares}
use Rattle.attempts.specs.Releases.{releasing, end_as, refused_steps, read_holds, read_releases}
use Rattle.attempts.specs.Reading.{sharing, read_refused, row_readers, numbered_releases, freeing, read_freed, read_drawn, read_numbered, row_shared, parity_shared, share_rest, wanted_shared, read_rows}
use Rattle.attempts.specs.Phases.{Past, begins, number_of, after_number, Keeps, HasOnlyRead, ReadsKeepPhases}
use Rattle.attempts.proofs.PhaseLemmas.{row-releases, keeps-units, keeps-one, gives-back}

module _ (a : Access) where
  -- the end
  refuses : (p : Past) → p.claimed ≡ [] → p.put ≡ [] → (rows : List Row) (cause : Cause) → Keeps a.n a.id HasOnlyRead p (refused_steps (read_releases a rows) cause)
  refuses p claimed put rows cause =
      gives-back a.n a.id HasOnlyRead releasing (end_as (ends.Refused cause)) (read_releases a rows) p tt (row-releases a.id None (read_holds a.mode a.n) rows)
      (λ m walk. record { claimed = claimed; put = put })

  freed-keeps : (n : Number) (rows : List Row) (p : Past) → p.claimed ≡ [] → p.put ≡ [] → (walk : Walk (Option RowNo)) → Keeps a.n a.id HasOnlyRead p (read_freed a n rows walk)
  freed-keeps n rows p claimed put (Through None) = record { claimed = claimed; put = put }
  freed-keeps n rows p claimed put (Through (Some row)) = record { claimed = claimed; put = put }
  freed-keeps n rows p claimed put (Stopped row e r) = record { claimed = claimed; put = put }

  drawn-keeps : (rows : List Row) (d : Result Number Spent) (p : Past) → p.claimed ≡ [] → p.put ≡ [] → Keeps a.n a.id HasOnlyRead p (read_drawn a rows d)
  drawn-keeps rows (Err spent) p claimed put = refuses p claimed put rows (causes.Spent spent.seen)
  drawn-keeps rows (Ok n) p claimed put =
      gives-back a.n a.id HasOnlyRead freeing (read_freed a n rows) (numbered_releases a n rows) p None (row-releases a.id (Some n) (row_readers a.n) rows)
      (λ m walk. freed-keeps n rows (record p { phase = m }) claimed put walk)

  numbered-keeps : (mode : Mode) (rows : List Row) → Keeps a.n a.id HasOnlyRead (begins (number_of mode a.id)) (read_numbered mode a rows)
  numbered-keeps Order rows = record { claimed = refl; put = refl }
  numbered-keeps Lock rows = (refl, omega arith, after_draw) where
    after_draw : (d : Result Number Spent) → Keeps a.n a.id HasOnlyRead (after_number (begins None) d) (read_drawn a rows d)
    after_draw (Ok n) = drawn-keeps rows (Ok n) (record (begins None) { number = Some n; phase = 2 }) refl refl
    after_draw (Err spent) = drawn-keeps rows (Err spent) (record (begins None) { phase = 3 }) refl refl

  abbrev start : Past
  start = begins (number_of a.mode a.id)

  -- a row
  module _ (rest : Rows → Steps Finish) (rest_keeps : (done : Rows) → Keeps a.n a.id HasOnlyRead start (rest done)) where
    stopped-keeps : (taken : Taken) (e : Errand) (r : Reply) → Keeps a.n a.id HasOnlyRead start (read_refused a taken e r)
    stopped-keeps taken e r = refuses start refl refl (taken.before ++ taken.row ∷ []) (why (behind_from a.mode a.id) taken e r)

    shares-keep : (keep : Option Grant → Row → Row) (row : RowNo) (f : Walk Taken → Steps Finish)
        → ((taken : Taken) → Keeps a.n a.id HasOnlyRead start (f (Through taken)))
        → ((taken : Taken) (e : Errand) (r : Reply) → Keeps a.n a.id HasOnlyRead start (f (Stopped taken e r)))
        → (us : List ℕ) (taken : Taken) → Keeps a.n a.id HasOnlyRead start (bind (run (sharing a keep) (shares a.id row (bays_of a.n row us)) taken) f)
    shares-keep keep row f on off us taken =
        keeps-units a.n a.id HasOnlyRead (bay_of a.n row) (share a.id row) (λ us p taken. start ≡ p) (sharing a keep) f
        (λ u us p taken same. subst (λ (p : Past). (a.id ≡ a.id) × (p.phase ≤ 0)) same (refl, omega arith))
        (λ u us p taken r same. given ((sharing a keep).step taken (share a.id row (bay_of a.n row u)) r) same)
        (λ p taken same. subst (λ (p : Past). Keeps a.n a.id HasOnlyRead p (f (Through taken))) same (on taken))
        (λ u us p taken r same. subst (λ (p : Past). Keeps a.n a.id HasOnlyRead p (f (Stopped taken (share a.id row (bay_of a.n row u)) r))) same (off taken (share a.id row (bay_of a.n row u)) r))
        us start taken refl where
          given : {p : Past} (o : Option Taken) → start ≡ p → IfSome o (λ taken. start ≡ p)
          given None same = tt
          given (Some taken) same = same

    others-keep : (taken : Taken) → Keeps a.n a.id HasOnlyRead start (parity_shared a rest (Through taken))
    others-keep taken =
        shares-keep with_other taken.row.part.row (row_shared a rest) (λ taken. rest_keeps (row_ended taken)) stopped-keeps (units_out a.n taken.row.part.mask) taken

    rest-keeps : (b : Bool) (taken : Taken) → Keeps a.n a.id HasOnlyRead start (share_rest a rest taken b)
    rest-keeps false taken = rest_keeps (row_ended taken)
    rest-keeps true taken =
        keeps-one a.n a.id HasOnlyRead (sharing a with_parity) (parity_shared a rest) (share a.id taken.row.part.row (parity_bay a.n taken.row.part.row)) start taken
        (refl, omega arith)
        (λ r. given ((sharing a with_parity).step taken (share a.id taken.row.part.row (parity_bay a.n taken.row.part.row)) r))
        (λ r. stopped-keeps taken (share a.id taken.row.part.row (parity_bay a.n taken.row.part.row)) r) where
          given : (o : Option Taken) → IfSome o (λ taken. Keeps a.n a.id HasOnlyRead start (parity_shared a rest (Through taken)))
          given None = tt
          given (Some taken) = others-keep taken

    row-keeps : (walk : Walk Taken) → Keeps a.n a.id HasOnlyRead start (wanted_shared a rest walk)
    row-keeps (Stopped taken e r) = stopped-keeps taken e r
    row-keeps (Through taken) = rest-keeps (lacks taken.row.wanted) taken

  rows-keep : (left : List RowPart) (done : Rows) → Keeps a.n a.id HasOnlyRead start (read_rows a left done)
  rows-keep [] done = numbered-keeps a.mode done.rows
  rows-keep (part ∷ left) done =
      shares-keep (read_rows a left) (rows-keep left) with_wanted part.row (wanted_shared a (read_rows a left))
      (λ taken. row-keeps (read_rows a left) (rows-keep left) (Through taken))
      (λ taken e r. row-keeps (read_rows a left) (rows-keep left) (Stopped taken e r))
      (units_in a.n part.mask) (begun part done)

pub reads_keep_phases : ReadsKeepPhases
reads_keep_phases a = rows-keep a a.parts no_rows
