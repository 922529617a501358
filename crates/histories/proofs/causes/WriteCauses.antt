-- The causes of writes.
use Rattle.std.proofs.Common.{◌≡◌, is_some, inl, inr, refl, sym, ap, subst, ◌∙◌, ℕ, ◌==◌, Bool, true, false, if◌then◌else◌, List, [], ◌∷◌, ◌++◌, Option, Some, None, Result, Ok, Err, IfSome, option_map, map, zip}
use Rattle.std.specs.List.{AllByRecursion}
use Rattle.raid_base.specs.declared.numbers.BayNo.{BayNo}
use Rattle.raid_base.specs.declared.numbers.HostNo.{HostNo}
use Rattle.raid_base.specs.declared.numbers.RowNo.{RowNo}
use Rattle.raid_base.specs.declared.numbers.Number.{Number}
use Rattle.raid_base.specs.declared.numbers.Spent.{Spent}
use Rattle.raid_base.specs.declared.cells.Cell.{Cell}
use Rattle.raid_base.specs.declared.messages.Mode.{Mode}
use Rattle.raid_base.specs.declared.messages.Mode.TheVariants.{Lock, Order}
use Rattle.raid_base.specs.declared.messages.How.TheVariants.{Plain}
use Rattle.raid_base.specs.declared.messages.Request.{Request}
use Rattle.raid_base.specs.declared.messages.Request.TheVariants.{Share, Claim, Put}
use Rattle.raid_base.specs.declared.messages.Reply.{Reply}
use Rattle.raid_base.specs.declared.messages.Reply.TheVariants as replies
use Rattle.raid_base.specs.declared.messages.Errand.{Errand}
use Rattle.raid_base.specs.declared.messages.Grant.{Grant}
use Rattle.raid_base.specs.declared.messages.Call.{Call}
use Rattle.raid_base.specs.declared.jobs.Cause.{Cause}
use Rattle.raid_base.specs.declared.jobs.Cause.TheVariants as causes
use Rattle.raid_base.specs.declared.jobs.Ended.TheVariants as ends
use Rattle.raid_base.specs.declared.jobs.Plan.{Plan}
use Rattle.raid_base.specs.declared.jobs.Plan.TheVariants.{Full, Small, Reconstruct}
use Rattle.raid_base.specs.declared.jobs.RowPart.{RowPart}
use Rattle.raid_base.specs.declared.jobs.Task.{Task}
use Rattle.raid_base.specs.Fits.{fits, fits_put}
use Rattle.raid_base.specs.Replies.{grant_of, held_of, put_end}
use Rattle.raid_base.specs.Steps.{Steps, bind, run, draws, Through}
use Rattle.stripe_layout.specs.Placement.{parity_bay, bays_of, units_in, units_out}
use Rattle.attempts.specs.Taking.{Access, Finish, Row, Rows, no_rows, Taken, begun, row_ended, with_parity, with_wanted, with_other, with_grant, lacks, behind_from, refusal, unless, why, taking_until}
use Rattle.attempts.specs.Releases.{granted_of, write_releases}
use Rattle.attempts.specs.Puts.{wanted_units, new_parity, plan_of, is_small_plan, Trouble, Faulted, Robbed, Puts, no_puts, at_row, with_left, part_by_quit, flags, data_put, data_puts, data_put_by, granted_life, unit_of, putting_data, trouble_of, parity_put, parity_put_by, putting_parity, with_trouble, is_row_made, trouble_cause, or_else, first_cause, written_or}
use Rattle.attempts.specs.Writing.{write_stopped, finishing, reader_releases, write_end, write_last, parity_done, put_parity, data_done, put_rows, write_drawn, write_numbered, held_row, confirmed_row, unrefused_row, row_or_change, confirming, row_confirm, confirm_cause, row_confirmed, confirm_rows, claiming, row_claimed, wanted_claims, other_shares, claim_wanted, share_others, small_claimed, share_stopped, others_shared, claim_row, parity_claimed, parity_claim, claim_rows, write_steps}
use Rattle.attempts.proofs.RoomLemmas.{all-append}
use Rattle.attempts.proofs.PhaseLemmas.{all-weaken}
use Rattle.script_text.specs.Script.{Script}
use Rattle.histories.specs.Progress.{access}
use Rattle.histories.specs.Calls.{Happened, id_of, Answers}
use Rattle.histories.specs.Causes.{IsReadOrWrite, is_held_well, HasOwnCause, IsPutIn}
use Rattle.histories.specs.Torn.{IsMissing}
use Rattle.histories.specs.Completeness.{missing_in}
use Rattle.histories.proofs.causes.CauseLemmas.{missing-kept, missing-now, Stands, IsReply, bay-asked, what-asked, IsStopCause, Caused, caused-walk, caused-one, run-quiet, released-quiet, caused-draw, some-none, any-errands, GrantOrGap, take-told, MissingTold, none-missing, missing-more, missing-again, grant-there, with-missing, ParityTold, lacking-missing, parity-more, EndStands, FinishStands, refuses, BehindRightly, behind-rightly, refusal-stands, unrefused-plain, else-stands, Takes, caused-takes, caused-parity, shares-take, claims-take}

-- Puts
abbrev IsPutFor : RowNo → Errand → Type 0
IsPutFor row e = (id : Number) × (n : Number) × (cell : Cell) × (e.request ≡ Put row id n cell)

-- the trouble stands in these calls
abbrev TroubleTold : List Call → Trouble → Type 0
TroubleTold calls (Faulted bay) = Happened (λ call. (call.bay ≡ bay) × Answers replies.Fault call) calls
TroubleTold calls (Robbed part) = Happened (IsPutIn part.row) calls

abbrev PutsTold : List Call → Puts → Type 0
PutsTold calls puts = AllByRecursion (TroubleTold calls) puts.troubles

trouble-more : (calls : List Call) (call : Call) (t : Trouble) → TroubleTold calls t → TroubleTold (call ∷ calls) t
trouble-more calls call (Faulted bay) h = inr h
trouble-more calls call (Robbed part) h = inr h

puts-more : (calls : List Call) (call : Call) (puts : Puts) → PutsTold calls puts → PutsTold (call ∷ calls) puts
puts-more calls call puts h = all-weaken (TroubleTold calls) (TroubleTold (call ∷ calls)) (trouble-more calls call) puts.troubles h

one-trouble : (calls : List Call) (puts : Puts) (t : Trouble) → PutsTold calls puts → TroubleTold calls t → AllByRecursion (TroubleTold calls) (puts.troubles ++ t ∷ [])
one-trouble calls puts t h told = all-append (TroubleTold calls) puts.troubles (t ∷ []) h (told, tt)

is-put : (row : RowNo) (e : Errand) (call : Call) → IsPutFor row e → IsReply e call → (life : ℕ) → call.answer.reply ≡ replies.NoNote life → IsPutIn row call
is-put row e call p is life same =
    let asked : call.ask.what ≡ e.request = what-asked is in
    let at : e.request ≡ Put row p.0 p.1 p.2 = p.3 in
    (p.0, p.1, p.2, subst (λ (what : Request). call.ask.what ≡ what) at asked, (life, same))

put-fits : (row : RowNo) (e : Errand) (r : Reply) → IsPutFor row e → fits e.request r ≡ true → fits_put r ≡ true
put-fits row e r p fit = let at : e.request ≡ Put row p.0 p.1 p.2 = p.3 in subst (λ (what : Request). fits what r ≡ true) at fit

trouble-told : (row : Row) (e : Errand) (calls : List Call) (call : Call) → IsPutFor row.part.row e → IsReply e call → (call.answer.reply ≡ replies.Done → ⊥) → TroubleTold (call ∷ calls) (trouble_of row e call.answer.reply)
trouble-told row e calls call p is undone = by call.answer.reply refl (put-fits row.part.row e call.answer.reply p is.fit) where
  by : (r : Reply) → call.answer.reply ≡ r → fits_put r ≡ true → TroubleTold (call ∷ calls) (trouble_of row e r)
  by replies.Fault same fit = inl (bay-asked is, same)
  by (replies.NoNote life) same fit = inl (is-put row.part.row e call p is life same)
  by replies.Done same fit = absurd (undone same)
  by (replies.Granted cell read_no write_no last life seized) same fit = cc
  by (replies.Busy holder) same fit = cc
  by (replies.Late above) same fit = cc
  by (replies.Young note) same fit = cc
  by (replies.Missing floor) same fit = cc
  by (replies.Held cell) same fit = cc
  by replies.Emptied same fit = cc
  by replies.Fitted same fit = cc

-- where the host stops
parted : (n : Number) (puts : Puts) → IsStopCause (part_by_quit n puts)
parted n puts = by puts.answered where
  by : (b : Bool) → IsStopCause (if b then ends.Part n (flags puts.made) causes.Quit else ends.Refused causes.Quit)
  by true = refl
  by false = tt

-- Confirms. What is lacking was so before a grant
lacks-before : (gs : List (Option Grant)) (grant : Grant) → lacks (gs ++ Some grant ∷ []) ≡ true → lacks gs ≡ true
lacks-before [] grant e = cc
lacks-before (None ∷ gs) grant e = refl
lacks-before (Some g ∷ gs) grant e = lacks-before gs grant e

held-badly : (row : Row) (grant : Grant) (want : Bool) (r : Reply) → held_row row grant want (held_of r) ≡ None → is_held_well want r ≡ false
held-badly row grant true (replies.Held None) e = refl
held-badly row grant true (replies.Held (Some cell)) e = cc
held-badly row grant false (replies.Held cell) e = cc
held-badly row grant want (replies.NoNote life) e = refl
held-badly row grant want replies.Fault e = refl
held-badly row grant want replies.Done e = refl
held-badly row grant want (replies.Granted cell read_no write_no last life seized) e = refl
held-badly row grant want (replies.Busy holder) e = refl
held-badly row grant want (replies.Late above) e = refl
held-badly row grant want (replies.Young note) e = refl
held-badly row grant want (replies.Missing floor) e = refl
held-badly row grant want replies.Emptied e = refl
held-badly row grant want replies.Fitted e = refl

not-missing : (row : Row) (r : Reply) (floor : Number) → r ≡ replies.Missing floor → confirmed_row row r None ≡ None → ⊥
not-missing row r floor same e =
    let h : confirmed_row row (replies.Missing floor) None ≡ None = subst (λ (x : Reply). confirmed_row row x None ≡ None) same e in
    some-none h

module _ (script : Script) (host : HostNo) (S : List Call → Number → Type 0) (task : Task) (plain : IsReadOrWrite task) (id : Number) (parts : List RowPart) (blocks : List (List ℕ)) where
  abbrev a : Access
  a = access script id parts blocks

  abbrev Ending : List Call → Finish → Type 0
  Ending = FinishStands script host S task

  abbrev CauseStands : List Call → Cause → Type 0
  CauseStands = Stands script host S task

  abbrev least : Option Number
  least = behind_from script.mode id

  rightly : (what : Request) → id_of what ≡ Some id → BehindRightly script host S task least what
  rightly what of = behind-rightly script host S task script.mode refl plain id what of

  -- the end by the troubles
  one-told : (calls : List Call) (made : List ℕ) (t : Trouble) → TroubleTold calls t → IfSome (trouble_cause a made t) (CauseStands calls)
  one-told calls made (Faulted bay) h = h
  one-told calls made (Robbed part) h = by (is_row_made a made part) where
    by : (b : Bool) → IfSome (if b then None else Some (causes.Seized part.row)) (CauseStands calls)
    by true = tt
    by false = h

  either-told : (calls : List Call) (x y : Option Cause) → IfSome x (CauseStands calls) → IfSome y (CauseStands calls) → IfSome (or_else x y) (CauseStands calls)
  either-told calls None y h g = g
  either-told calls (Some cause) y h g = h

  first-told : (calls : List Call) (made : List ℕ) (ts : List Trouble) → AllByRecursion (TroubleTold calls) ts → IfSome (first_cause a made ts) (CauseStands calls)
  first-told calls made [] h = tt
  first-told calls made (t ∷ ts) h = either-told calls (trouble_cause a made t) (first_cause a made ts) (one-told calls made t h.0) (first-told calls made ts h.1)

  written-stands : (calls : List Call) (n : Number) (made : List ℕ) (o : Option Cause) → IfSome o (CauseStands calls) → EndStands script host S task calls (written_or n made o)
  written-stands calls n made None h = tt
  written-stands calls n made (Some cause) h = h

  lasts : (n : Number) (rows : List Row) (calls : List Call) (puts : Puts) → PutsTold calls puts → Caused host S Ending calls (write_last a n rows puts)
  lasts n rows calls puts told =
      caused-walk host S Ending (λ e. Unit {0}) PutsTold (finishing a n) (write_end a n) (parted n)
      (λ e cs p call u h is. puts-more cs call p h) (λ cs p h. written-stands cs n p.made (first_cause a p.made p.troubles) (first-told cs p.made p.troubles h))
      (λ e cs p call u h is stop. absurd (some-none stop)) (reader_releases script.mode a rows) calls puts (any-errands (reader_releases script.mode a rows)) told

  -- a row's puts
  module _ (n : Number) (rest : Puts → Steps Finish) (rest_caused : (calls : List Call) (puts : Puts) → PutsTold calls puts → Caused host S Ending calls (rest puts)) (row : Row) where
    troubled : (e : Errand) (calls : List Call) (puts : Puts) (call : Call) → IsPutFor row.part.row e → PutsTold calls puts → IsReply e call → (call.answer.reply ≡ replies.Done → ⊥)
        → Caused host S Ending (call ∷ calls) (rest (with_trouble puts (trouble_of row e call.answer.reply)))
    troubled e calls puts call p told is undone =
        rest_caused (call ∷ calls) (with_trouble puts (trouble_of row e call.answer.reply))
        (one-trouble (call ∷ calls) puts (trouble_of row e call.answer.reply) (puts-more calls call puts told) (trouble-told row e calls call p is undone))

    -- the parity
    parity-kept : (calls : List Call) (puts : Puts) (call : Call) (r : Reply) → PutsTold calls puts → IfSome (parity_put_by a row puts (put_end r)) (PutsTold (call ∷ calls))
    parity-kept calls puts call replies.Done told = puts-more calls call puts told
    parity-kept calls puts call (replies.NoNote life) told = tt
    parity-kept calls puts call replies.Fault told = tt
    parity-kept calls puts call (replies.Granted cell read_no write_no last life seized) told = tt
    parity-kept calls puts call (replies.Busy holder) told = tt
    parity-kept calls puts call (replies.Late above) told = tt
    parity-kept calls puts call (replies.Young note) told = tt
    parity-kept calls puts call (replies.Missing floor) told = tt
    parity-kept calls puts call (replies.Held cell) told = tt
    parity-kept calls puts call replies.Emptied told = tt
    parity-kept calls puts call replies.Fitted told = tt

    parity-undone : (puts : Puts) (r : Reply) → parity_put_by a row puts (put_end r) ≡ None → r ≡ replies.Done → ⊥
    parity-undone puts r stop done =
        some-none (subst (λ (x : Reply). parity_put_by a row puts (put_end x) ≡ None) done stop)

    puts-parity : (calls : List Call) (puts : Puts) → PutsTold calls puts → (grant : Option Grant) → Caused host S Ending calls (put_parity a n row rest puts grant)
    puts-parity calls puts told None = rest_caused calls puts told
    puts-parity calls puts told (Some grant) =
        caused-walk host S Ending (IsPutFor row.part.row) PutsTold (putting_parity a n row) (parity_done row rest) (parted n)
        (λ e cs p call u h is. parity-kept cs p call call.answer.reply h) (λ cs p h. rest_caused cs p h)
        (λ e cs p call u h is stop. troubled e cs p call u h is (parity-undone p call.answer.reply stop))
        (parity_put a n row ∷ []) calls puts ((id, n, new_parity a row, refl), tt) told

    -- the data
    data-kept : (e : Errand) (calls : List Call) (puts : Puts) (call : Call) (unit : ℕ) → IsPutFor row.part.row e → IsReply e call → PutsTold calls puts → (r : Reply) → call.answer.reply ≡ r
        → IfSome (data_put_by a row puts unit (put_end r)) (PutsTold (call ∷ calls))
    data-kept e calls puts call unit p is told replies.Done same = puts-more calls call puts told
    data-kept e calls puts call unit p is told (replies.NoNote life) same = by (life == granted_life a row unit) where
      by : (b : Bool) → IfSome (if b then None else Some (with_left puts row.part unit)) (PutsTold (call ∷ calls))
      by true = tt
      by false = one-trouble (call ∷ calls) puts (Robbed row.part) (puts-more calls call puts told) (inl (is-put row.part.row e call p is life same))
    data-kept e calls puts call unit p is told replies.Fault same = tt
    data-kept e calls puts call unit p is told (replies.Granted cell read_no write_no last life seized) same = tt
    data-kept e calls puts call unit p is told (replies.Busy holder) same = tt
    data-kept e calls puts call unit p is told (replies.Late above) same = tt
    data-kept e calls puts call unit p is told (replies.Young note) same = tt
    data-kept e calls puts call unit p is told (replies.Missing floor) same = tt
    data-kept e calls puts call unit p is told (replies.Held cell) same = tt
    data-kept e calls puts call unit p is told replies.Emptied same = tt
    data-kept e calls puts call unit p is told replies.Fitted same = tt

    data-undone : (puts : Puts) (unit : ℕ) (r : Reply) → data_put_by a row puts unit (put_end r) ≡ None → r ≡ replies.Done → ⊥
    data-undone puts unit r stop done =
        some-none (subst (λ (x : Reply). data_put_by a row puts unit (put_end x) ≡ None) done stop)

    are-puts : (us : List ℕ) → AllByRecursion (IsPutFor row.part.row) (map (data_put a n row) us)
    are-puts [] = tt
    are-puts (u ∷ us) = ((id, n, _, refl), are-puts us)

    puts-data : (calls : List Call) (puts : Puts) → PutsTold calls puts
        → Caused host S Ending calls (bind (run (putting_data a n row) (data_puts a n row) puts) (data_done a n row rest))
    puts-data calls puts told =
        caused-walk host S Ending (IsPutFor row.part.row) PutsTold (putting_data a n row) (data_done a n row rest) (parted n)
        (λ e cs p call u h is. data-kept e cs p call (unit_of a row e) u is h call.answer.reply refl) (λ cs p h. puts-parity cs p h row.parity)
        (λ e cs p call u h is stop. troubled e cs p call u h is (data-undone p (unit_of a row e) call.answer.reply stop))
        (data_puts a n row) calls puts (are-puts (granted_of (zip (wanted_units a row) row.wanted))) told

  puts-rows : (n : Number) (all rows : List Row) (calls : List Call) (puts : Puts) → PutsTold calls puts → Caused host S Ending calls (put_rows a n (write_last a n all) rows puts)
  puts-rows n all [] calls puts told = lasts n all calls puts told
  puts-rows n all (row ∷ rows) calls puts told =
      puts-data n (put_rows a n (write_last a n all) rows) (puts-rows n all rows) row calls (at_row puts) told

  -- no draw follows
  lasts-quiet : (n : Number) (all : List Row) (puts : Puts) → draws (write_last a n all puts) ≡ false
  lasts-quiet n all puts = run-quiet (finishing a n) (reader_releases a.mode a all) puts (write_end a n) (λ p. refl)

  parity-quiet : (n : Number) (row : Row) (rest : Puts → Steps Finish) → ((puts : Puts) → draws (rest puts) ≡ false) → (puts : Puts) (grant : Option Grant) → draws (put_parity a n row rest puts grant) ≡ false
  parity-quiet n row rest quiet puts None = quiet puts
  parity-quiet n row rest quiet puts (Some grant) = refl

  puts-quiet : (n : Number) (all rows : List Row) (puts : Puts) → draws (put_rows a n (write_last a n all) rows puts) ≡ false
  puts-quiet n all [] puts = lasts-quiet n all puts
  puts-quiet n all (row ∷ rows) puts =
      run-quiet (putting_data a n row) (data_puts a n row) (at_row puts) (data_done a n row (put_rows a n (write_last a n all) rows))
      (λ p. parity-quiet n row (put_rows a n (write_last a n all) rows) (puts-quiet n all rows) p row.parity)

  quiet : (rows : List Row) (d : Result Number Spent) → draws (write_drawn a rows d) ≡ false
  quiet rows (Ok n) = puts-quiet n rows rows no_puts
  quiet rows (Err spent) = released-quiet (write_releases a rows) (ends.Refused (causes.Spent spent.seen))

  draw-caused : (rows : List Row) (calls : List Call) → Caused host S Ending calls (write_numbered Lock a rows)
  draw-caused rows calls =
      caused-draw host S Ending calls (write_drawn a rows) (quiet rows) (λ n. puts-rows n rows rows calls no_puts tt)
      (λ spent none. refuses script host S task (write_releases a rows) (causes.Spent spent.seen) calls none)

  numbered : (mode : Mode) (rows : List Row) (calls : List Call) → Caused host S Ending calls (write_numbered mode a rows)
  numbered Order rows calls = puts-rows id rows rows calls no_puts tt
  numbered Lock rows calls = draw-caused rows calls

  -- Confirms. The parity of each row was claimed in these calls, and where another unit lacks some slot was missing
  abbrev OthersTold : List Call → Row → Type 0
  OthersTold calls row = lacks row.others ≡ true → is_some (missing_in calls) ≡ true

  abbrev RowTold : List Call → Row → Type 0
  RowTold calls row = ParityTold script.n row.part.row row.parity calls × OthersTold calls row

  row-more : (calls : List Call) (call : Call) (row : Row) → RowTold calls row → RowTold (call ∷ calls) row
  row-more calls call row told = (parity-more script.n row.part.row row.parity calls call told.0, λ e. missing-kept calls call (told.1 e))

  rows-more : (calls : List Call) (call : Call) (rows : List Row) → AllByRecursion (RowTold calls) rows → AllByRecursion (RowTold (call ∷ calls)) rows
  rows-more calls call rows h = all-weaken (RowTold calls) (RowTold (call ∷ calls)) (row-more calls call) rows h

  changed-told : (row : Row) (calls : List Call) (call : Call) → IsReply (row_confirm a row) call → (HasOwnCause script task calls call → ⊥) → (o : Option Grant) → ParityTold script.n row.part.row o calls
      → OthersTold calls row → confirmed_row row call.answer.reply o ≡ None → CauseStands (call ∷ calls) (causes.Changed row.part.row)
  changed-told row calls call is own (Some grant) told others stop =
      inl (own, inl (((bay-asked is, id, lacks row.others, what-asked is, held-badly row grant (lacks row.others) call.answer.reply stop), others), told))
  changed-told row calls call is own None told others stop =
      inl (own, inr (((bay-asked is, id, lacks row.others, what-asked is), λ miss. not-missing row call.answer.reply miss.0 miss.1 stop), told))

  confirm-stopped : (row : Row) (calls : List Call) (call : Call) (done : Rows) → IsReply (row_confirm a row) call → MissingTold done.missing calls → RowTold calls row
      → (confirming a row).step done (row_confirm a row) call.answer.reply ≡ None → CauseStands (call ∷ calls) (confirm_cause a row done (row_confirm a row) call.answer.reply)
  confirm-stopped row calls call done is missed told stop =
      else-stands script host S task (call ∷ calls) (refusal least done.missing (parity_bay script.n row.part.row) call.answer.reply) (causes.Changed row.part.row)
      (refusal-stands script host S task calls (row_confirm a row) call is least done.missing (rightly (row_confirm a row).request refl) missed)
      (λ none. changed-told row calls call is
      (unrefused-plain script host S task calls (row_confirm a row) call is least done.missing (rightly (row_confirm a row).request refl) missed none) row.parity told.0 told.1
      (unrefused (refusal least done.missing (parity_bay script.n row.part.row) call.answer.reply) stop none)) where
        no-row : (o : Option Row) → option_map (λ (r : Row). record done { rows = done.rows ++ r ∷ [] }) o ≡ None → o ≡ None
        no-row None e = refl
        no-row (Some r) e = cc

        unrefused : (o : Option Cause) → option_map (λ (r : Row). record done { rows = done.rows ++ r ∷ [] }) (unrefused_row row call.answer.reply o) ≡ None → o ≡ None
            → confirmed_row row call.answer.reply row.parity ≡ None
        unrefused None e none = no-row (confirmed_row row call.answer.reply row.parity) e
        unrefused (Some cause) e none = cc

  module _ (rows left : List Row)
      (goes_on : (calls : List Call) (done : Rows) → MissingTold done.missing calls → AllByRecursion (RowTold calls) left → Caused host S Ending calls (confirm_rows a rows left done)) where
    confirm-passed : (row : Row) (calls : List Call) (done : Rows) (call : Call) → IsReply (row_confirm a row) call → MissingTold done.missing calls → RowTold calls row → AllByRecursion (RowTold calls) left
        → (o : Option Row) → row_or_change least done.missing (parity_bay script.n row.part.row) row call.answer.reply ≡ o
        → IfSome (option_map (λ (r : Row). record done { rows = done.rows ++ r ∷ [] }) o) (λ d. Caused host S Ending (call ∷ calls) (confirm_rows a rows left d))
    confirm-passed row calls done call is missed own told None e = tt
    confirm-passed row calls done call is missed own told (Some r) e =
        goes_on (call ∷ calls) (record done { rows = done.rows ++ r ∷ [] }) (still row.parity refl own.0) (rows-more calls call left told) where
          still : (o : Option Grant) → row.parity ≡ o → ParityTold script.n row.part.row o calls → MissingTold done.missing (call ∷ calls)
          still None none lacking =
              missing-again done.missing calls call (missed.1 (parity_bay script.n row.part.row) (lacking-missing script.n row.part.row calls lacking) ∙ ap (λ (b : BayNo). Some b) (sym (bay-asked is))) missed
          still (Some grant) some granted = missing-more done.missing calls call there missed where
            unheld : (floor : Number) → (c : Option Cause) → unrefused_row row (replies.Missing floor) c ≡ None
            unheld floor None = ap (confirmed_row row (replies.Missing floor)) some
            unheld floor (Some cause) = refl

            there : IsMissing call → ⊥
            there miss =
                let passed : row_or_change least done.missing (parity_bay script.n row.part.row) row (replies.Missing miss.0) ≡ Some r =
                ap (row_or_change least done.missing (parity_bay script.n row.part.row) row) (sym miss.1) ∙ e in
                some-none (sym passed ∙ unheld miss.0 (refusal least done.missing (parity_bay script.n row.part.row) (replies.Missing miss.0)))

    confirms-row : (row : Row) (calls : List Call) (done : Rows) → MissingTold done.missing calls → RowTold calls row → AllByRecursion (RowTold calls) left
        → Caused host S Ending calls (confirm_rows a rows (row ∷ left) done)
    confirms-row row calls done missed told others =
        caused-one host S Ending (confirming a row) (row_confirmed a rows row (confirm_rows a rows left)) (row_confirm a row) calls done tt
        (λ call is. confirm-passed row calls done call is missed told others (row_or_change least done.missing (parity_bay script.n row.part.row) row call.answer.reply) refl)
        (λ call is stop. refuses script host S task (write_releases a rows) (confirm_cause a row done (row_confirm a row) call.answer.reply) (call ∷ calls)
        (confirm-stopped row calls call done is missed told stop))

  confirms : (rows left : List Row) (calls : List Call) (done : Rows) → MissingTold done.missing calls → AllByRecursion (RowTold calls) left → Caused host S Ending calls (confirm_rows a rows left done)
  confirms rows [] calls done missed told = numbered script.mode done.rows calls
  confirms rows (row ∷ left) calls done missed told = confirms-row rows left (confirms rows left) row calls done missed told.0 told.1

  -- Claims. What is known of the rows before and of the row in hand
  record Told (calls : List Call) (taken : Taken) : Type 0 where
    before : AllByRecursion (RowTold calls) taken.before
    row : RowTold calls taken.row

  told-more : (calls : List Call) (taken : Taken) (call : Call) → Told calls taken → Told (call ∷ calls) taken
  told-more calls taken call t = record { before = rows-more calls call taken.before t.before; row = row-more calls call taken.row t.row }

  told-wanted : (calls : List Call) (taken : Taken) (call : Call) (bay : BayNo) (o : Option Grant) → GrantOrGap taken.missing bay call.answer.reply o → Told calls taken → Told (call ∷ calls) (with_grant with_wanted taken bay o)
  told-wanted calls taken call bay (Some grant) g t = let u = told-more calls taken call t in record { before = u.before; row = u.row }
  told-wanted calls taken call bay None g t = let u = told-more calls taken call t in record { before = u.before; row = u.row }

  told-granted : (calls : List Call) (taken : Taken) (call : Call) (bay : BayNo) (grant : Grant) → Told calls taken → Told (call ∷ calls) (with_grant with_other taken bay (Some grant))
  told-granted calls taken call bay grant t =
      let u = told-more calls taken call t in
      record { before = u.before; row = ((u.row).0, λ e. (u.row).1 (lacks-before taken.row.others grant e)) }

  told-other : (calls : List Call) (taken : Taken) (call : Call) (bay : BayNo) (o : Option Grant) → GrantOrGap taken.missing bay call.answer.reply o → Told calls taken → Told (call ∷ calls) (with_grant with_other taken bay o)
  told-other calls taken call bay (Some grant) g t = told-granted calls taken call bay grant t
  told-other calls taken call bay None g t =
      let u = told-more calls taken call t in record { before = u.before; row = ((u.row).0, λ e. missing-now calls call g.0 g.1) }

  told-rows : (calls : List Call) (taken : Taken) → Told calls taken → AllByRecursion (RowTold calls) (row_ended taken).rows
  told-rows calls taken t = all-append (RowTold calls) taken.before (taken.row ∷ []) t.before (t.row, tt)

  stops : (calls : List Call) (taken : Taken) (e : Errand) (r : Reply) → CauseStands calls (why least taken e r) → Caused host S Ending calls (write_stopped a taken e r)
  stops calls taken e r s = refuses script host S task (write_releases a (taken.before ++ taken.row ∷ [])) (why least taken e r) calls s

  module _ (rest : Rows → Steps Finish) (rest_caused : (calls : List Call) (done : Rows) → MissingTold done.missing calls → AllByRecursion (RowTold calls) done.rows → Caused host S Ending calls (rest done)) where
    row-done : (calls : List Call) (taken : Taken) → MissingTold taken.missing calls → Told calls taken → Caused host S Ending calls (rest (row_ended taken))
    row-done calls taken missed t = rest_caused calls (row_ended taken) missed (told-rows calls taken t)

    claims-wanted : (want : Bool) (calls : List Call) (taken : Taken) → MissingTold taken.missing calls → Told calls taken → Caused host S Ending calls (claim_wanted a rest want taken)
    claims-wanted want calls taken missed t =
        caused-takes script host S task least (row_claimed a rest) stops with_wanted Told told-wanted row-done (wanted_claims a want taken.row.part) calls taken
        (claims-take script host S task least id taken.row.part.row Plain want (rightly (Claim taken.row.part.row id Plain 0 want) refl) (bays_of script.n taken.row.part.row (units_in script.n taken.row.part.mask)))
        missed t

    others-take : (part : RowPart) → AllByRecursion (Takes script host S task least) (other_shares a part)
    others-take part = shares-take script host S task least id part.row (rightly (Share part.row id true) refl) (bays_of script.n part.row (units_out script.n part.mask))

    shares-others : (lacking : Bool) (calls : List Call) (taken : Taken) → MissingTold taken.missing calls → Told calls taken → Caused host S Ending calls (share_others a rest taken lacking)
    shares-others false calls taken missed t = row-done calls taken missed t
    shares-others true calls taken missed t =
        caused-takes script host S task least (row_claimed a rest) stops with_other Told told-other row-done (other_shares a taken.row.part) calls taken (others-take taken.row.part) missed t

    -- a share of another unit that is missing ends the shares
    gap-of : (missing : Option BayNo) (bay : BayNo) (r : Reply) (o : Option Cause) (g : Option Grant) → IfSome (unless o g) (GrantOrGap missing bay r) → o ≡ None → g ≡ None → GrantOrGap missing bay r None
    gap-of missing bay r None None h e n = h
    gap-of missing bay r None (Some grant) h e n = cc
    gap-of missing bay r (Some cause) g h e n = cc

    share-ended : (e : Errand) (calls : List Call) (taken : Taken) (call : Call) → call.bay ≡ e.bay → MissingTold taken.missing calls → Told calls taken
        → (o : Option Cause) → IfSome o (CauseStands (call ∷ calls)) → (o ≡ None → GrantOrGap taken.missing e.bay call.answer.reply None)
        → Caused host S Ending (call ∷ calls) (share_stopped a rest taken e.bay o)
    share-ended e calls taken call at missed t (Some cause) s gap = refuses script host S task (write_releases a (taken.before ++ taken.row ∷ [])) cause (call ∷ calls) s
    share-ended e calls taken call at missed t None s gap =
        claims-wanted true (call ∷ calls) (with_grant with_other taken e.bay None) (with-missing script host S task with_other taken e.bay calls call at None (gap refl) missed)
        (told-other calls taken call e.bay None (gap refl) t)

    until-kept : (e : Errand) (calls : List Call) (taken : Taken) (call : Call) → MissingTold taken.missing calls → Told calls taken → (o : Option Grant) → grant_of call.answer.reply ≡ o
        → IfSome (option_map (λ grant. with_grant with_other taken e.bay (Some grant)) o) (λ t. MissingTold t.missing (call ∷ calls) × Told (call ∷ calls) t)
    until-kept e calls taken call missed t None same = tt
    until-kept e calls taken call missed t (Some grant) same = (missing-more taken.missing calls call (grant-there call grant same) missed, told-granted calls taken call e.bay grant t)

    no-grant : (taken : Taken) (bay : BayNo) (o : Option Grant) → option_map (λ grant. with_grant with_other taken bay (Some grant)) o ≡ None → o ≡ None
    no-grant taken bay None e = refl
    no-grant taken bay (Some grant) e = cc

    shares-until : (calls : List Call) (taken : Taken) → MissingTold taken.missing calls → Told calls taken
        → Caused host S Ending calls (bind (run (taking_until with_other) (other_shares a taken.row.part) taken) (others_shared a rest))
    shares-until calls taken missed t =
        caused-walk host S Ending (Takes script host S task least) (λ cs t. MissingTold t.missing cs × Told cs t) (taking_until with_other) (others_shared a rest) (λ t. tt)
        (λ e cs t call p i is. until-kept e cs t call i.0 i.1 (grant_of call.answer.reply) refl) (λ cs t i. claims-wanted false cs t i.0 i.1)
        (λ e cs t call p i is stop. share-ended e cs t call (bay-asked is) i.0 i.1 (refusal least t.missing e.bay call.answer.reply)
        (refusal-stands script host S task cs e call is least t.missing p.rightly i.0)
        (λ none. gap-of t.missing e.bay call.answer.reply (refusal least t.missing e.bay call.answer.reply) (grant_of call.answer.reply)
        (take-told e.request p.take least t.missing e.bay call.answer.reply is.fit) none (no-grant t e.bay (grant_of call.answer.reply) stop)))
        (other_shares a taken.row.part) calls taken (others-take taken.row.part) (missed, t)

    claims-row : (calls : List Call) (taken : Taken) → MissingTold taken.missing calls → Told calls taken → (grant : Option Grant) (plan : Plan) → Caused host S Ending calls (claim_row a rest taken grant plan)
    claims-row calls taken missed t None plan = claims-wanted false calls taken missed t
    claims-row calls taken missed t (Some grant) Full = claims-wanted false calls taken missed t
    claims-row calls taken missed t (Some grant) Small =
        caused-takes script host S task least (small_claimed a rest) stops with_wanted Told told-wanted (λ cs t m k. shares-others (lacks t.row.wanted) cs t m k) (wanted_claims a true taken.row.part) calls taken
        (claims-take script host S task least id taken.row.part.row Plain true (rightly (Claim taken.row.part.row id Plain 0 true) refl) (bays_of script.n taken.row.part.row (units_in script.n taken.row.part.mask)))
        missed t
    claims-row calls taken missed t (Some grant) Reconstruct = shares-until calls taken missed t

    claims-parity : (part : RowPart) (calls : List Call) (done : Rows) → MissingTold done.missing calls → AllByRecursion (RowTold calls) done.rows
        → Caused host S Ending calls (bind (run (claiming a with_parity) (parity_claim a part ∷ []) (begun part done)) (parity_claimed a rest))
    claims-parity part calls done missed told =
        caused-parity script host S task least (parity_claimed a rest) stops part.row id Plain part.mask (is_small_plan (plan_of a part)) calls (begun part done)
        (rightly (Claim part.row id Plain part.mask (is_small_plan (plan_of a part))) refl) missed on where
          on : (call : Call) (o : Option Grant) → MissingTold (with_grant with_parity (begun part done) (parity_bay script.n part.row) o).missing (call ∷ calls) → ParityTold script.n part.row o (call ∷ calls)
              → Caused host S Ending (call ∷ calls) (parity_claimed a rest (Through (with_grant with_parity (begun part done) (parity_bay script.n part.row) o)))
          on call (Some grant) m p =
              claims-row (call ∷ calls) (with_grant with_parity (begun part done) (parity_bay script.n part.row) (Some grant)) m (record { before = rows-more calls call done.rows told; row = (p, λ e. cc) }) (Some grant) (plan_of a part)
          on call None m p =
              claims-row (call ∷ calls) (with_grant with_parity (begun part done) (parity_bay script.n part.row) None) m (record { before = rows-more calls call done.rows told; row = (p, λ e. cc) }) None (plan_of a part)

  rows-caused : (left : List RowPart) (calls : List Call) (done : Rows) → MissingTold done.missing calls → AllByRecursion (RowTold calls) done.rows → Caused host S Ending calls (claim_rows a left done)
  rows-caused [] calls done missed told = confirms done.rows done.rows calls (record done { rows = [] }) missed told
  rows-caused (part ∷ left) calls done missed told = claims-parity (claim_rows a left) (rows-caused left) part calls done missed told

  pub writes_caused : Caused host S Ending [] (write_steps a)
  writes_caused = rows-caused parts [] no_rows none-missing tt
