-- A write whose puts are all done is no part.
use Rattle.std.proofs.Common.{◌≡◌, refl, sym, subst, Bool, true, false, List, [], ◌∷◌, ◌++◌, map, Option, Some, None, Result, Ok, Err}
use Rattle.std.specs.List.{AllByRecursion}
use Rattle.raid_base.specs.declared.numbers.BayNo.{BayNo}
use Rattle.raid_base.specs.declared.numbers.RowNo.{RowNo}
use Rattle.raid_base.specs.declared.numbers.Number.{Number}
use Rattle.raid_base.specs.declared.numbers.Spent.{Spent}
use Rattle.raid_base.specs.declared.cells.Cell.{Cell}
use Rattle.raid_base.specs.declared.messages.Mode.{Mode}
use Rattle.raid_base.specs.declared.messages.Mode.TheVariants.{Lock, Order}
use Rattle.raid_base.specs.declared.messages.Request.{Request}
use Rattle.raid_base.specs.declared.messages.Request.TheVariants.{Put}
use Rattle.raid_base.specs.declared.messages.Reply.{Reply}
use Rattle.raid_base.specs.declared.messages.Reply.TheVariants as replies
use Rattle.raid_base.specs.declared.messages.Errand.{Errand}
use Rattle.raid_base.specs.declared.messages.Grant.{Grant}
use Rattle.raid_base.specs.declared.jobs.Cause.{Cause}
use Rattle.raid_base.specs.declared.jobs.Cause.TheVariants as causes
use Rattle.raid_base.specs.declared.jobs.Ended.{Ended}
use Rattle.raid_base.specs.declared.jobs.Ended.TheVariants as ends
use Rattle.raid_base.specs.declared.jobs.Plan.{Plan}
use Rattle.raid_base.specs.declared.jobs.Plan.TheVariants.{Full, Small, Reconstruct}
use Rattle.raid_base.specs.declared.jobs.RowPart.{RowPart}
use Rattle.raid_base.specs.Steps.{Steps, Asks, Draws, Ends, bind, go_on, Walk, Through, Stopped, Phase, run}
use Rattle.attempts.specs.Taking.{Access, Finish, Row, Rows, no_rows, Taken, begun, row_ended, with_parity, with_wanted, with_other, with_grant, lacks, behind_from, refusal, taking_until, why}
use Rattle.attempts.specs.Releases.{releasing, end_as, refused_steps, write_releases}
use Rattle.attempts.specs.Reading.{read_steps}
use Rattle.attempts.specs.Puts.{plan_of, Puts, no_puts, at_row, data_put, data_puts, putting_data, parity_put, putting_parity, wanted_units, new_parity, first_cause, written_or}
use Rattle.attempts.specs.Releases.{granted_of}
use Rattle.attempts.specs.Writing.{finishing, reader_releases, write_end, write_last, parity_done, put_parity, data_done, put_rows, write_drawn, write_numbered, confirming, row_confirm, confirm_cause, row_confirmed, confirm_rows, claiming, row_claimed, wanted_claims, other_shares, claim_wanted, share_others, small_claimed, share_stopped, others_shared, claim_row, parity_claimed, parity_claim, claim_rows, write_steps}
use Rattle.attempts.specs.Finishes.{Finishes, unit_count, IsReadEnd}
use Rattle.attempts.proofs.ReadFinishes.{reads_finish}
use Rattle.raid_base.specs.declared.cells.Content.{Content}
use Rattle.std.specs.Prelude.{ℕ, zip}

-- a put is done
abbrev pub IsPutDone : Request → Reply → Type 0
IsPutDone (Put row id n cell) r = r ≡ replies.Done
IsPutDone _ r = Unit {0}

-- it is no part
abbrev pub IsNoPart : Ended → Type 0
IsNoPart (ends.Part n made cause) = ⊥
IsNoPart _ = Unit {0}

-- Whatever the numbers drawn, and the replies with which each put is done: it does not end as a part.
abbrev pub Wholly : Steps Finish → Type 0
Wholly (Ends f) = IsNoPart f.ended
Wholly (Draws k) = (d : Result Number Spent) → Wholly (k d)
Wholly (Asks e s c k) = (r : Reply) → IsPutDone e.request r → Wholly (k r)

-- Walks
whole-go : {A : Type 0} (o : Option A) (g : A → Steps (Walk A)) (s : Steps (Walk A)) (f : Walk A → Steps Finish) → ((a : A) → Wholly (bind (g a) f)) → Wholly (bind s f) → Wholly (bind (go_on o g s) f)
whole-go (Some a) g s f on off = on a
whole-go None g s f on off = off

whole-run : {A : Type 0} (phase : Phase A) (f : Walk A → Steps Finish) → ((walk : Walk A) → Wholly (f walk)) → (es : List Errand) (a : A) → Wholly (bind (run phase es a) f)
whole-run phase f on [] a = on (Through a)
whole-run phase f on (e ∷ es) a = λ r done.
    whole-go (phase.step a e r) (λ b. run phase es b) (Ends (Stopped a e r)) f (λ b. whole-run phase f on es b) (on (Stopped a e r))

refused-whole : (es : List Errand) (cause : Cause) → Wholly (refused_steps es cause)
refused-whole es cause = whole-run releasing (end_as (ends.Refused cause)) (λ walk. tt) es tt

-- a walk of puts: the reply is Done, and the value stays such
abbrev IsPutOf : Errand → Type 0
IsPutOf e = (row : RowNo) × (id : Number) × (n : Number) × (cell : Cell) × (e.request ≡ Put row id n cell)

abbrev IsThere : {A : Type 0} → (A → Type 0) → Option A → Type 0
IsThere I None = ⊥
IsThere I (Some a) = I a

module _ {A : Type 0} (I : A → Type 0) (phase : Phase A) (f : Walk A → Steps Finish) where
  done-go : (o : Option A) (g : A → Steps (Walk A)) (s : Steps (Walk A)) → IsThere I o → ((a : A) → I a → Wholly (bind (g a) f)) → Wholly (bind (go_on o g s) f)
  done-go (Some a) g s i on = on a i
  done-go None g s i on = absurd i

  put-run : ((a : A) (e : Errand) → I a → IsThere I (phase.step a e replies.Done)) → ((a : A) → I a → Wholly (f (Through a))) → (es : List Errand) → AllByRecursion IsPutOf es → (a : A) → I a →
      Wholly (bind (run phase es a) f)
  put-run kept on [] all a i = on a i
  put-run kept on (e ∷ es) all a i = λ r done.
      done-go (phase.step a e r) (λ b. run phase es b) (Ends (Stopped a e r))
      (subst (λ (x : Reply). IsThere I (phase.step a e x)) (sym (is-done r done)) (kept a e i)) (λ b j. put-run kept on es all.1 b j)
    where
      is-done : (r : Reply) → IsPutDone e.request r → r ≡ replies.Done
      is-done r done = let p = all.0 in subst (λ (what : Request). IsPutDone what r) p.4 done

module _ (a : Access) where
  -- no put met trouble
  abbrev IsSmooth : Puts → Type 0
  IsSmooth puts = puts.troubles ≡ []

  written-whole : (n : Number) (puts : Puts) → IsSmooth puts → Wholly (write_end a n (Through puts))
  written-whole n puts smooth = subst (λ (ts : List _). IsNoPart (written_or n puts.made (first_cause a puts.made ts))) (sym smooth) tt

  stopped-whole : (n : Number) (puts : Puts) (e : Errand) (r : Reply) → IsSmooth puts → Wholly (write_end a n (Stopped puts e r))
  stopped-whole n puts e r smooth = subst (λ (ts : List _). IsNoPart (written_or n puts.made (first_cause a puts.made ts))) (sym smooth) tt

  last-whole : (n : Number) (es : List Errand) (puts : Puts) → IsSmooth puts → Wholly (bind (run (finishing a n) es puts) (write_end a n))
  last-whole n [] puts smooth = written-whole n puts smooth
  last-whole n (e ∷ es) puts smooth = λ r done. last-whole n es puts smooth

  are-puts : (n : Number) (row : Row) (us : List ℕ) → AllByRecursion IsPutOf (map (data_put a n row) us)
  are-puts n row [] = tt
  are-puts n row (u ∷ us) = ((row.part.row, a.id, n, _, refl), are-puts n row us)

  module _ (n : Number) (rest : Puts → Steps Finish) (goes : (puts : Puts) → IsSmooth puts → Wholly (rest puts)) (row : Row) where
    parity-whole : (puts : Puts) → IsSmooth puts → (grant : Option Grant) → Wholly (put_parity a n row rest puts grant)
    parity-whole puts smooth None = goes puts smooth
    parity-whole puts smooth (Some grant) =
        put-run IsSmooth (putting_parity a n row) (parity_done row rest) (λ p e i. i) goes (parity_put a n row ∷ []) ((row.part.row, a.id, n, new_parity a row, refl), tt) puts smooth

    data-whole : (puts : Puts) → IsSmooth puts → Wholly (bind (run (putting_data a n row) (data_puts a n row) puts) (data_done a n row rest))
    data-whole puts smooth =
        put-run IsSmooth (putting_data a n row) (data_done a n row rest) (λ p e i. i) (λ p i. parity-whole p i row.parity) (data_puts a n row)
        (are-puts n row (granted_of (zip (wanted_units a row) row.wanted))) puts smooth

  rows-whole : (n : Number) (all rows : List Row) (puts : Puts) → IsSmooth puts → Wholly (put_rows a n (write_last a n all) rows puts)
  rows-whole n all [] puts smooth = last-whole n (reader_releases a.mode a all) puts smooth
  rows-whole n all (row ∷ rows) puts smooth = data-whole n (put_rows a n (write_last a n all) rows) (rows-whole n all rows) row (at_row puts) smooth

  drawn-whole : (rows : List Row) (d : Result Number Spent) → Wholly (write_drawn a rows d)
  drawn-whole rows (Ok n) = rows-whole n rows rows no_puts refl
  drawn-whole rows (Err spent) = refused-whole (write_releases a rows) (causes.Spent spent.seen)

  numbered-whole : (mode : Mode) (rows : List Row) → Wholly (write_numbered mode a rows)
  numbered-whole Order rows = rows-whole a.id rows rows no_puts refl
  numbered-whole Lock rows = λ d. drawn-whole rows d

  confirmed-whole : (rows : List Row) (row : Row) (rest : Rows → Steps Finish) → ((done : Rows) → Wholly (rest done)) → (walk : Walk Rows) → Wholly (row_confirmed a rows row rest walk)
  confirmed-whole rows row rest goes (Through now) = goes now
  confirmed-whole rows row rest goes (Stopped now e r) = refused-whole (write_releases a rows) (confirm_cause a row now e r)

  confirms-whole : (rows left : List Row) (done : Rows) → Wholly (confirm_rows a rows left done)
  confirms-whole rows [] done = numbered-whole a.mode done.rows
  confirms-whole rows (row ∷ left) done =
      whole-run (confirming a row) (row_confirmed a rows row (confirm_rows a rows left)) (confirmed-whole rows row (confirm_rows a rows left) (confirms-whole rows left)) (row_confirm a row ∷ []) done

  -- Claims
  module _ (rest : Rows → Steps Finish) (goes : (done : Rows) → Wholly (rest done)) where
    stops-whole : (taken : Taken) (cause : Cause) → Wholly (refused_steps (write_releases a (taken.before ++ taken.row ∷ [])) cause)
    stops-whole taken cause = refused-whole (write_releases a (taken.before ++ taken.row ∷ [])) cause

    row-whole : (walk : Walk Taken) → Wholly (row_claimed a rest walk)
    row-whole (Through taken) = goes (row_ended taken)
    row-whole (Stopped taken e r) = stops-whole taken (why (behind_from a.mode a.id) taken e r)

    wanted-whole : (want : Bool) (taken : Taken) → Wholly (claim_wanted a rest want taken)
    wanted-whole want taken = whole-run (claiming a with_wanted) (row_claimed a rest) row-whole (wanted_claims a want taken.row.part) taken

    others-whole : (taken : Taken) (lacking : Bool) → Wholly (share_others a rest taken lacking)
    others-whole taken false = goes (row_ended taken)
    others-whole taken true = whole-run (claiming a with_other) (row_claimed a rest) row-whole (other_shares a taken.row.part) taken

    small-whole : (walk : Walk Taken) → Wholly (small_claimed a rest walk)
    small-whole (Through taken) = others-whole taken (lacks taken.row.wanted)
    small-whole (Stopped taken e r) = stops-whole taken (why (behind_from a.mode a.id) taken e r)

    ended-whole : (taken : Taken) (bay : BayNo) (cause : Option Cause) → Wholly (share_stopped a rest taken bay cause)
    ended-whole taken bay (Some cause) = stops-whole taken cause
    ended-whole taken bay None = wanted-whole true (with_grant with_other taken bay None)

    shared-whole : (walk : Walk Taken) → Wholly (others_shared a rest walk)
    shared-whole (Through taken) = wanted-whole false taken
    shared-whole (Stopped taken e r) = ended-whole taken e.bay (refusal (behind_from a.mode a.id) taken.missing e.bay r)

    claims-whole : (taken : Taken) (grant : Option Grant) (plan : Plan) → Wholly (claim_row a rest taken grant plan)
    claims-whole taken None plan = wanted-whole false taken
    claims-whole taken (Some grant) Full = wanted-whole false taken
    claims-whole taken (Some grant) Small = whole-run (claiming a with_wanted) (small_claimed a rest) small-whole (wanted_claims a true taken.row.part) taken
    claims-whole taken (Some grant) Reconstruct = whole-run (taking_until with_other) (others_shared a rest) shared-whole (other_shares a taken.row.part) taken

    parities-whole : (walk : Walk Taken) → Wholly (parity_claimed a rest walk)
    parities-whole (Through taken) = claims-whole taken taken.row.parity (plan_of a taken.row.part)
    parities-whole (Stopped taken e r) = stops-whole taken (why (behind_from a.mode a.id) taken e r)

  all-whole : (left : List RowPart) (done : Rows) → Wholly (claim_rows a left done)
  all-whole [] done = confirms-whole done.rows done.rows (record done { rows = [] })
  all-whole (part ∷ left) done =
      whole-run (claiming a with_parity) (parity_claimed a (claim_rows a left)) (parities-whole (claim_rows a left) (all-whole left)) (parity_claim a part ∷ []) (begun part done)

  pub writes-whole : Wholly (write_steps a)
  writes-whole = all-whole a.parts no_rows

-- a read is none
read-whole : (count : ℕ) (read : List Content) (ended : Ended) → IsReadEnd count read ended → IsNoPart ended
read-whole count read (ends.Read n) h = tt
read-whole count read (ends.Wrote n) h = tt
read-whole count read (ends.Part n made cause) h = h
read-whole count read (ends.Refused cause) h = tt
read-whole count read (ends.Recovered n closed lost) h = tt
read-whole count read ends.Mended h = tt

finishes-whole : (count : ℕ) (s : Steps Finish) → Finishes (λ (f : Finish). IsReadEnd count f.contents f.ended) s → Wholly s
finishes-whole count (Ends f) h = read-whole count f.contents f.ended h
finishes-whole count (Draws k) h = λ d. finishes-whole count (k d) (h d)
finishes-whole count (Asks e s c k) h = λ r done. finishes-whole count (k r) (h.1 r)

pub reads-whole : (a : Access) → Wholly (read_steps a)
reads-whole a = finishes-whole (unit_count a.n a.parts) (read_steps a) (reads_finish a)
