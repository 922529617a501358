-- A write whose replies do not refuse is done.
use Rattle.std.proofs.Common.{◌≡◌, refl, sym, subst, ℕ, Bool, true, false, List, [], ◌∷◌, ◌++◌, map, zip, Option, Some, None, Result, Ok, Err, option_map}
use Rattle.std.specs.List.{AllByRecursion}
use Rattle.raid_base.specs.declared.numbers.Number.{Number}
use Rattle.raid_base.specs.declared.numbers.Spent.{Spent}
use Rattle.raid_base.specs.declared.cells.Cell.{Cell}
use Rattle.raid_base.specs.declared.messages.Mode.{Mode}
use Rattle.raid_base.specs.declared.messages.Mode.TheVariants.{Lock, Order}
use Rattle.raid_base.specs.declared.messages.How.TheVariants.{Plain}
use Rattle.raid_base.specs.declared.messages.Reply.{Reply}
use Rattle.raid_base.specs.declared.messages.Reply.TheVariants as replies
use Rattle.raid_base.specs.declared.messages.Errand.{Errand}
use Rattle.raid_base.specs.declared.messages.Grant.{Grant}
use Rattle.raid_base.specs.declared.jobs.JobEnd.{JobEnd}
use Rattle.raid_base.specs.declared.jobs.JobEnd.TheVariants as job_ends
use Rattle.raid_base.specs.declared.jobs.Plan.{Plan}
use Rattle.raid_base.specs.declared.jobs.Plan.TheVariants.{Full, Small, Reconstruct}
use Rattle.raid_base.specs.declared.jobs.RowPart.{RowPart}
use Rattle.raid_base.specs.Cells.{plain_cell}
use Rattle.raid_base.specs.Fits.{fits}
use Rattle.raid_base.specs.Steps.{Steps, bind, run, Walk, Through}
use Rattle.stripe_layout.specs.Placement.{parity_bay, bay_of, bays_of, units_in, units_out}
use Rattle.slot_rules.specs.Laws.{is_refused}
use Rattle.attempts.specs.Taking.{Access, Finish, finish, Row, Rows, no_rows, Taken, begun, row_ended, with_grant, with_parity, with_wanted, with_other, lacks, behind_from, taking_until}
use Rattle.attempts.specs.Releases.{write_releases, granted_of}
use Rattle.attempts.specs.Puts.{plan_of, is_small_plan, Puts, no_puts, at_row, data_put, data_puts, putting_data, parity_put, putting_parity, new_parity, wanted_units, block_at, first_cause, written_or, Trouble}
use Rattle.attempts.specs.Writing.{finishing, reader_releases, write_end, write_last, parity_done, put_parity, data_done, put_rows, write_drawn, write_numbered, held_row, confirmed_row, confirming, row_confirm, row_confirmed, confirm_rows, claiming, row_claimed, wanted_claims, other_shares, claim_wanted, share_others, small_claimed, others_shared, claim_row, parity_claimed, parity_claim, claim_rows, write_steps}
use Rattle.attempts.proofs.RoomLemmas.{all-append}
use Rattle.histories.proofs.causes.CauseLemmas.{claim-takes, any-errands}
use Rattle.histories.proofs.completeness.CompleteWalks.{Plainly, Has, has-map, plain-walk, plain-one, granted, taken, held, IsDoable, put-doable, Takes, shares-take, claims-take, Does, spent-does}

-- a row of which no slot was missing
abbrev IsThere : Option Grant → Type 0
IsThere None = ⊥
IsThere (Some grant) = Unit {0}

record IsWhole (row : Row) : Type 0 where
  parity : IsThere row.parity
  others : lacks row.others ≡ false

record AreWhole (t : Taken) : Type 0 where
  before : AllByRecursion IsWhole t.before
  row : IsWhole t.row

lacks-none : (gs : List (Option Grant)) (grant : Grant) → lacks gs ≡ false → lacks (gs ++ Some grant ∷ []) ≡ false
lacks-none [] grant e = refl
lacks-none (None ∷ gs) grant e = cc
lacks-none (Some g ∷ gs) grant e = lacks-none gs grant e

module _ (D : JobEnd → Type 0) (wrote : (n : Number) → D (job_ends.Wrote n)) (a : Access) where
  -- puts: none met trouble
  abbrev IsSmooth : Puts → Type 0
  IsSmooth puts = puts.troubles ≡ []

  ends-well : (n : Number) (puts : Puts) → IsSmooth puts → Plainly (Does D) (write_end a n (Through puts))
  ends-well n puts smooth = subst (λ (ts : List Trouble). Does D (finish (written_or n puts.made (first_cause a puts.made ts)))) (sym smooth) (λ tries numbers. wrote n)

  last-plain : (n : Number) (rows : List Row) (puts : Puts) → IsSmooth puts → Plainly (Does D) (write_last a n rows puts)
  last-plain n rows puts smooth =
      plain-walk (Does D) (λ e. Unit {0}) IsSmooth (finishing a n) (write_end a n) (λ e x r p i fit good. i) (ends-well n)
      (reader_releases a.mode a rows) puts (any-errands (reader_releases a.mode a rows)) smooth

  puts-doable : (n : Number) (row : Row) (units : List ℕ) → AllByRecursion IsDoable (map (data_put a n row) units)
  puts-doable n row [] = tt
  puts-doable n row (unit ∷ units) = (put-doable row.part.row a.id n (plain_cell (block_at a row.part unit)) (bay_of a.n row.part.row unit), puts-doable n row units)

  module _ (n : Number) (rest : Puts → Steps Finish) (rest_plain : (puts : Puts) → IsSmooth puts → Plainly (Does D) (rest puts)) (row : Row) where
    parity-plain : (puts : Puts) → IsSmooth puts → (grant : Option Grant) → Plainly (Does D) (put_parity a n row rest puts grant)
    parity-plain puts smooth None = rest_plain puts smooth
    parity-plain puts smooth (Some grant) =
        plain-walk (Does D) IsDoable IsSmooth (putting_parity a n row) (parity_done row rest)
        (λ e x r p i fit good. subst (λ (y : Reply). Has IsSmooth ((putting_parity a n row).step x e y)) (sym (p r fit good)) i) rest_plain
        (parity_put a n row ∷ []) puts (put-doable row.part.row a.id n (new_parity a row) (parity_bay a.n row.part.row), tt) smooth

    data-plain : (puts : Puts) → IsSmooth puts → Plainly (Does D) (bind (run (putting_data a n row) (data_puts a n row) puts) (data_done a n row rest))
    data-plain puts smooth =
        plain-walk (Does D) IsDoable IsSmooth (putting_data a n row) (data_done a n row rest)
        (λ e x r p i fit good. subst (λ (y : Reply). Has IsSmooth ((putting_data a n row).step x e y)) (sym (p r fit good)) i)
        (λ x i. parity-plain x i row.parity) (data_puts a n row) puts (puts-doable n row (granted_of (zip (wanted_units a row) row.wanted))) smooth

  rows-put : (n : Number) (all rows : List Row) (puts : Puts) → IsSmooth puts → Plainly (Does D) (put_rows a n (write_last a n all) rows puts)
  rows-put n all [] puts smooth = last-plain n all puts smooth
  rows-put n all (row ∷ rows) puts smooth = data-plain n (put_rows a n (write_last a n all) rows) (rows-put n all rows) row (at_row puts) smooth

  drawn-does : (rows : List Row) (d : Result Number Spent) → Plainly (Does D) (write_drawn a rows d)
  drawn-does rows (Ok n) = rows-put n rows rows no_puts refl
  drawn-does rows (Err spent) = spent-does D (write_releases a rows) spent.seen

  numbered : (mode : Mode) (rows : List Row) → Plainly (Does D) (write_numbered mode a rows)
  numbered Order rows = rows-put a.id rows rows no_puts refl
  numbered Lock rows = λ d. drawn-does rows d

  -- confirms: the parity is held, and no cell is wanted
  held-well : (row : Row) (cell : Option Cell) (parity : Option Grant) → IsThere parity → lacks row.others ≡ false → Has (λ (x : Row). Unit {0}) (confirmed_row row (replies.Held cell) parity)
  held-well row cell None there e = absurd there
  held-well row cell (Some grant) there e = subst (λ (b : Bool). Has (λ (x : Row). Unit {0}) (held_row row grant b (Some cell))) (sym e) tt

  confirms-plain : (rows left : List Row) (done : Rows) → AllByRecursion IsWhole left → Plainly (Does D) (confirm_rows a rows left done)
  confirms-plain rows [] done whole = numbered a.mode done.rows
  confirms-plain rows (row ∷ left) done whole =
      plain-walk (Does D) (λ e. (r : Reply) → fits e.request r ≡ true → is_refused r ≡ false → (cell : Option Cell) × (r ≡ replies.Held cell)) (λ x. Unit {0}) (confirming a row)
      (row_confirmed a rows row (confirm_rows a rows left)) kept (λ x i. confirms-plain rows left x whole.1) (row_confirm a row ∷ []) done (holds, tt) tt where
        kept : (e : Errand) (x : Rows) (r : Reply) → ((r : Reply) → fits e.request r ≡ true → is_refused r ≡ false → (cell : Option Cell) × (r ≡ replies.Held cell)) → Unit {0}
            → fits e.request r ≡ true → is_refused r ≡ false → Has (λ y. Unit {0}) ((confirming a row).step x e r)
        kept e x r p i fit good =
            let h = p r fit good in
            subst (λ (y : Reply). Has (λ z. Unit {0}) ((confirming a row).step x e y)) (sym h.1)
            (has-map (λ (z : Row). record x { rows = x.rows ++ z ∷ [] }) (λ z. Unit {0}) (confirmed_row row (replies.Held h.0) row.parity)
            (held-well row h.0 row.parity (whole.0).parity (whole.0).others))

        holds : (r : Reply) → fits (row_confirm a row).request r ≡ true → is_refused r ≡ false → (cell : Option Cell) × (r ≡ replies.Held cell)
        holds r fit good = held (lacks row.others) r fit good (λ (y : Reply). (cell : Option Cell) × (y ≡ replies.Held cell)) (λ cell. (cell, refl))

  -- claims and shares: each is granted
  module _ (rest : Rows → Steps Finish) (rest_plain : (done : Rows) → AllByRecursion IsWhole done.rows → Plainly (Does D) (rest done)) where
    row-whole : (t : Taken) → AreWhole t → Plainly (Does D) (rest (row_ended t))
    row-whole t w = rest_plain (row_ended t) (all-append IsWhole t.before (t.row ∷ []) w.before (w.row, tt))

    wanted-plain : (want : Bool) (f : Walk Taken → Steps Finish) → ((t : Taken) → AreWhole t → Plainly (Does D) (f (Through t)))
        → (part : RowPart) (t : Taken) → AreWhole t → Plainly (Does D) (bind (run (claiming a with_wanted) (wanted_claims a want part) t) f)
    wanted-plain want f on part t w =
        plain-walk (Does D) Takes AreWhole (claiming a with_wanted) f
        (λ e x r p i fit good.
        taken e.request p (behind_from a.mode a.id) x.missing e.bay r fit good (λ o. Has AreWhole (option_map (with_grant with_wanted x e.bay) o))
        (λ grant. record { before = i.before; row = record { parity = (i.row).parity; others = (i.row).others } }))
        on (wanted_claims a want part) t (claims-take a.id part.row Plain want (bays_of a.n part.row (units_in a.n part.mask))) w

    claims-plain : (want : Bool) (t : Taken) → AreWhole t → Plainly (Does D) (claim_wanted a rest want t)
    claims-plain want t w = wanted-plain want (row_claimed a rest) row-whole t.row.part t w

    others-plain : (b : Bool) (t : Taken) → AreWhole t → Plainly (Does D) (share_others a rest t b)
    others-plain false t w = row-whole t w
    others-plain true t w =
        plain-walk (Does D) Takes AreWhole (claiming a with_other) (row_claimed a rest)
        (λ e x r p i fit good.
        taken e.request p (behind_from a.mode a.id) x.missing e.bay r fit good (λ o. Has AreWhole (option_map (with_grant with_other x e.bay) o))
        (λ grant. record { before = i.before; row = record { parity = (i.row).parity; others = lacks-none x.row.others grant (i.row).others } }))
        row-whole (other_shares a t.row.part) t (shares-take a.id t.row.part.row (bays_of a.n t.row.part.row (units_out a.n t.row.part.mask))) w

    row-plain : (t : Taken) → AreWhole t → (grant : Option Grant) (plan : Plan) → Plainly (Does D) (claim_row a rest t grant plan)
    row-plain t w None plan = claims-plain false t w
    row-plain t w (Some grant) Full = claims-plain false t w
    row-plain t w (Some grant) Small = wanted-plain true (small_claimed a rest) (λ x i. others-plain (lacks x.row.wanted) x i) t.row.part t w
    row-plain t w (Some grant) Reconstruct =
        plain-walk (Does D) Takes AreWhole (taking_until with_other) (others_shared a rest)
        (λ e x r p i fit good.
        granted e.request p r fit good (λ o. Has AreWhole (option_map (λ g. with_grant with_other x e.bay (Some g)) o))
        (λ g. record { before = i.before; row = record { parity = (i.row).parity; others = lacks-none x.row.others g (i.row).others } }))
        (λ x i. claims-plain false x i) (other_shares a t.row.part) t (shares-take a.id t.row.part.row (bays_of a.n t.row.part.row (units_out a.n t.row.part.mask))) w

  rows-plain : (left : List RowPart) (done : Rows) → AllByRecursion IsWhole done.rows → Plainly (Does D) (claim_rows a left done)
  rows-plain [] done whole = confirms-plain done.rows done.rows (record done { rows = [] }) whole
  rows-plain (part ∷ left) done whole =
      plain-one (Does D) (claiming a with_parity) (parity_claimed a (claim_rows a left)) (parity_claim a part) (begun part done)
      (λ r fit good.
      taken (parity_claim a part).request (claim-takes part.row a.id Plain part.mask (is_small_plan (plan_of a part))) (behind_from a.mode a.id) done.missing (parity_bay a.n part.row) r fit good
      (λ o. Has (λ b. Plainly (Does D) (parity_claimed a (claim_rows a left) (Through b))) (option_map (with_grant with_parity (begun part done) (parity_bay a.n part.row)) o))
      (λ grant. row-plain (claim_rows a left) (rows-plain left) (with_grant with_parity (begun part done) (parity_bay a.n part.row) (Some grant))
      (record { before = whole; row = record { parity = tt; others = refl } }) (Some grant) (plan_of a part)))

  pub writes_plain : Plainly (Does D) (write_steps a)
  writes_plain = rows-plain a.parts no_rows tt
