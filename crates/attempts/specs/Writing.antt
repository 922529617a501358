-- The attempt to write.
use Rattle.std.specs.Prelude.{Bool, true, false, if◌then◌else◌, List, [], ◌∷◌, ◌++◌, flat_map, Option, Some, None, option_map, unwrap_or, Result, Ok, Err}
use Rattle.raid_base.specs.declared.numbers.BayNo.{BayNo}
use Rattle.raid_base.specs.declared.numbers.Number.{Number}
use Rattle.raid_base.specs.declared.numbers.Spent.{Spent}
use Rattle.raid_base.specs.declared.messages.Mode.{Mode}
use Rattle.raid_base.specs.declared.messages.Mode.TheVariants.{Lock, Order}
use Rattle.raid_base.specs.declared.messages.How.TheVariants.{Plain}
use Rattle.raid_base.specs.declared.cells.Cell.{Cell}
use Rattle.raid_base.specs.declared.jobs.Cause.{Cause}
use Rattle.raid_base.specs.declared.jobs.Cause.TheVariants as causes
use Rattle.raid_base.specs.declared.jobs.Plan.{Plan}
use Rattle.raid_base.specs.declared.jobs.Plan.TheVariants.{Full, Small, Reconstruct}
use Rattle.raid_base.specs.declared.messages.Reply.{Reply}
use Rattle.raid_base.specs.declared.jobs.RowPart.{RowPart}
use Rattle.raid_base.specs.declared.messages.Errand.{Errand}
use Rattle.raid_base.specs.declared.messages.Grant.{Grant}
use Rattle.raid_base.specs.Replies.{held_of, is_missing}
use Rattle.raid_base.specs.Steps.{Steps, Ends, ◌>>=◌, drawn, Walk, Through, Stopped, Phase, run}
use Rattle.stripe_layout.specs.Placement.{parity_bay, bays_of, units_in, units_out}
use Rattle.attempts.specs.Taking.{Access, Finish, finish, harmless, Row, Rows, no_rows, Taken, begun, row_ended, with_parity, with_wanted, with_other, lacks, behind_from, refusal, with_grant, taking, why, taking_until, shares, claim, claims, confirm}
use Rattle.attempts.specs.Releases.{releases, refused_steps, others_granted, write_releases}
use Rattle.attempts.specs.Puts.{plan_of, is_small_plan, Puts, no_puts, at_row, part_by_quit, data_puts, putting_data, parity_put, putting_parity, with_trouble, trouble_of, written}

abbrev pub write_refused : Access → Taken → Cause → Steps Finish
write_refused a taken cause = refused_steps (write_releases a (taken.before ++ taken.row ∷ [])) cause

abbrev pub write_stopped : Access → Taken → Errand → Reply → Steps Finish
write_stopped a taken errand reply = write_refused a taken (why (behind_from a.mode a.id) taken errand reply)

-- Puts. Under locks the readers are given back at the end, in the order granted
abbrev pub finishing : Access → Number → Phase Puts
finishing a n = record { step = λ puts errand reply. Some puts; stop = part_by_quit n; commits = λ _ _. [] }

abbrev pub reader_releases : Mode → Access → List Row → List Errand
reader_releases Order a rows = []
reader_releases Lock a rows = flat_map (λ (row : Row). releases a.id row.part.row None (bays_of a.n row.part.row (others_granted a.n row))) rows

abbrev pub write_end : Access → Number → Walk Puts → Steps Finish
write_end a n (Through puts) = Ends (finish (written a n puts))
write_end a n (Stopped puts errand reply) = Ends (finish (written a n puts))

abbrev pub write_last : Access → Number → List Row → Puts → Steps Finish
write_last a n rows puts = do
  walk ← run (finishing a n) (reader_releases a.mode a rows) puts
  write_end a n walk

abbrev pub parity_done : Row → (Puts → Steps Finish) → Walk Puts → Steps Finish
parity_done row rest (Through puts) = rest puts
parity_done row rest (Stopped puts errand reply) = rest (with_trouble puts (trouble_of row errand reply))

-- the parity is put where it is there
abbrev pub put_parity : Access → Number → Row → (Puts → Steps Finish) → Puts → Option Grant → Steps Finish
put_parity a n row rest puts None = rest puts
put_parity a n row rest puts (Some grant) = do
  walk ← run (putting_parity a n row) (parity_put a n row ∷ []) puts
  parity_done row rest walk

-- a stopped row gets no further put
abbrev pub data_done : Access → Number → Row → (Puts → Steps Finish) → Walk Puts → Steps Finish
data_done a n row rest (Through puts) = put_parity a n row rest puts row.parity
data_done a n row rest (Stopped puts errand reply) = rest (with_trouble puts (trouble_of row errand reply))

-- row by row the data and then the parity
abbrev pub put_rows : Access → Number → (Puts → Steps Finish) → List Row → Puts → Steps Finish
put_rows a n last [] puts = last puts
put_rows a n last (row ∷ rows) puts = do
  walk ← run (putting_data a n row) (data_puts a n row) (at_row puts)
  data_done a n row (put_rows a n last rows) walk

abbrev pub put_steps : Access → Number → List Row → Steps Finish
put_steps a n rows = put_rows a n (write_last a n rows) rows no_puts

-- The lock point: under stamps the id is the number
abbrev pub write_drawn : Access → List Row → Result Number Spent → Steps Finish
write_drawn a rows (Ok n) = put_steps a n rows
write_drawn a rows (Err spent) = refused_steps (write_releases a rows) (causes.Spent spent.seen)

abbrev pub write_numbered : Mode → Access → List Row → Steps Finish
write_numbered Order a rows = put_steps a a.id rows
write_numbered Lock a rows = do
  d ← drawn
  write_drawn a rows d

-- Confirms. The rows confirmed so far, and the bay that was missing
-- a parity that was granted is held, with its cell where a share found a unit missing
abbrev pub held_row : Row → Grant → Bool → Option (Option Cell) → Option Row
held_row row grant want None = None
held_row row grant true (Some None) = None
held_row row grant true (Some (Some cell)) = Some (record row { parity = Some (record grant { cell = Some cell }) })
held_row row grant false (Some cell) = Some row

-- and one that was missing is missing
abbrev pub confirmed_row : Row → Reply → Option Grant → Option Row
confirmed_row row reply None = if is_missing reply then Some row else None
confirmed_row row reply (Some grant) = held_row row grant (lacks row.others) (held_of reply)

abbrev pub unrefused_row : Row → Reply → Option Cause → Option Row
unrefused_row row reply (Some cause) = None
unrefused_row row reply None = confirmed_row row reply row.parity

abbrev pub row_or_change : Option Number → Option BayNo → BayNo → Row → Reply → Option Row
row_or_change least missing bay row reply = unrefused_row row reply (refusal least missing bay reply)

abbrev pub confirm_step : Access → Row → Rows → Errand → Reply → Option Rows
confirm_step a row done errand reply =
    option_map (λ (r : Row). record done { rows = done.rows ++ r ∷ [] }) (row_or_change (behind_from a.mode a.id) done.missing errand.bay row reply)

abbrev pub confirming : Access → Row → Phase Rows
confirming a row = harmless (confirm_step a row)

abbrev pub row_confirm : Access → Row → Errand
row_confirm a row = confirm a.id row.part.row (lacks row.others) (parity_bay a.n row.part.row)

abbrev pub confirm_cause : Access → Row → Rows → Errand → Reply → Cause
confirm_cause a row done errand reply = unwrap_or (refusal (behind_from a.mode a.id) done.missing errand.bay reply) (causes.Changed row.part.row)

abbrev pub row_confirmed : Access → List Row → Row → (Rows → Steps Finish) → Walk Rows → Steps Finish
row_confirmed a rows row rest (Through done) = rest done
row_confirmed a rows row rest (Stopped done errand reply) = refused_steps (write_releases a rows) (confirm_cause a row done errand reply)

abbrev pub confirm_rows : Access → List Row → List Row → Rows → Steps Finish
confirm_rows a rows [] done = write_numbered a.mode a done.rows
confirm_rows a rows (row ∷ left) done = do
  walk ← run (confirming a row) (row_confirm a row ∷ []) done
  row_confirmed a rows row (confirm_rows a rows left) walk

abbrev pub confirm_steps : Access → Rows → Steps Finish
confirm_steps a claimed = confirm_rows a claimed.rows claimed.rows (record claimed { rows = [] })

-- Claims
abbrev pub claiming : Access → (Option Grant → Row → Row) → Phase Taken
claiming a keep = taking (behind_from a.mode a.id) keep

abbrev pub row_claimed : Access → (Rows → Steps Finish) → Walk Taken → Steps Finish
row_claimed a rest (Through taken) = rest (row_ended taken)
row_claimed a rest (Stopped taken errand reply) = write_stopped a taken errand reply

-- the claims of the wanted units, and the shares of the others
abbrev pub wanted_claims : Access → Bool → RowPart → List Errand
wanted_claims a want part = claims a.id part.row Plain want (bays_of a.n part.row (units_in a.n part.mask))

abbrev pub other_shares : Access → RowPart → List Errand
other_shares a part = shares a.id part.row (bays_of a.n part.row (units_out a.n part.mask))

abbrev pub claim_wanted : Access → (Rows → Steps Finish) → Bool → Taken → Steps Finish
claim_wanted a rest want taken = do
  walk ← run (claiming a with_wanted) (wanted_claims a want taken.row.part) taken
  row_claimed a rest walk

-- after small claims the others are shared where a wanted unit is missing
abbrev pub share_others : Access → (Rows → Steps Finish) → Taken → Bool → Steps Finish
share_others a rest taken false = rest (row_ended taken)
share_others a rest taken true = do
  walk ← run (claiming a with_other) (other_shares a taken.row.part) taken
  row_claimed a rest walk

abbrev pub small_claimed : Access → (Rows → Steps Finish) → Walk Taken → Steps Finish
small_claimed a rest (Stopped taken errand reply) = write_stopped a taken errand reply
small_claimed a rest (Through taken) = share_others a rest taken (lacks taken.row.wanted)

-- after shares the wanted units are claimed, with their cells where a share found a unit missing
abbrev pub share_stopped : Access → (Rows → Steps Finish) → Taken → BayNo → Option Cause → Steps Finish
share_stopped a rest taken bay (Some cause) = write_refused a taken cause
share_stopped a rest taken bay None = claim_wanted a rest true (with_grant with_other taken bay None)

abbrev pub others_shared : Access → (Rows → Steps Finish) → Walk Taken → Steps Finish
others_shared a rest (Through taken) = claim_wanted a rest false taken
others_shared a rest (Stopped taken errand reply) = share_stopped a rest taken errand.bay (refusal (behind_from a.mode a.id) taken.missing errand.bay reply)

abbrev pub claim_row : Access → (Rows → Steps Finish) → Taken → Option Grant → Plan → Steps Finish
claim_row a rest taken None plan = claim_wanted a rest false taken
claim_row a rest taken (Some grant) Full = claim_wanted a rest false taken
claim_row a rest taken (Some grant) Small = do
  walk ← run (claiming a with_wanted) (wanted_claims a true taken.row.part) taken
  small_claimed a rest walk
claim_row a rest taken (Some grant) Reconstruct = do
  walk ← run (taking_until with_other) (other_shares a taken.row.part) taken
  others_shared a rest walk

abbrev pub parity_claimed : Access → (Rows → Steps Finish) → Walk Taken → Steps Finish
parity_claimed a rest (Stopped taken errand reply) = write_stopped a taken errand reply
parity_claimed a rest (Through taken) = claim_row a rest taken taken.row.parity (plan_of a taken.row.part)

abbrev pub parity_claim : Access → RowPart → Errand
parity_claim a part = claim a.id part.row Plain part.mask (is_small_plan (plan_of a part)) (parity_bay a.n part.row)

-- row by row the parity is claimed, and then the wanted units
abbrev pub claim_rows : Access → List RowPart → Rows → Steps Finish
claim_rows a [] claimed = confirm_steps a claimed
claim_rows a (part ∷ parts) claimed = do
  walk ← run (claiming a with_parity) (parity_claim a part ∷ []) (begun part claimed)
  parity_claimed a (claim_rows a parts) walk

-- The write of some units.
abbrev pub write_steps : Access → Steps Finish
write_steps a = claim_rows a a.parts no_rows
