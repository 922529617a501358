-- Writes are granted as many cells of a row as the plan for it reads.
use Rattle.std.proofs.Common.{◌≡◌, inl, inr, refl, sym, ap, subst, ◌∙◌, arith, ℕ, ◌+◌, ◌-◌, ◌≤◌, ◌&&◌, Bool, true, false, List, [], ◌∷◌, ◌++◌, zip, flat_map, length, Option, Some, None, is_some, is_none, IfSome, option_map, Result, Ok, Err}
use Rattle.std.specs.List.{AllByRecursion}
use Rattle.std.proofs.lemmas.List.{length-map}
use Rattle.std.proofs.lemmas.List.Elements.{recursion_from_All}
use Rattle.std.proofs.lemmas.Bool.Decides.{nat_tests}
use Rattle.raid_base.specs.declared.numbers.BayNo.{BayNo}
use Rattle.raid_base.specs.declared.numbers.RowNo.{RowNo}
use Rattle.raid_base.specs.declared.numbers.Number.{Number}
use Rattle.raid_base.specs.declared.numbers.Spent.{Spent}
use Rattle.raid_base.specs.declared.cells.Cell.{Cell}
use Rattle.raid_base.specs.declared.messages.Mode.{Mode}
use Rattle.raid_base.specs.declared.messages.Mode.TheVariants.{Lock, Order}
use Rattle.raid_base.specs.declared.messages.How.TheVariants.{Plain}
use Rattle.raid_base.specs.declared.messages.Reply.{Reply}
use Rattle.raid_base.specs.declared.messages.Reply.TheVariants as replies
use Rattle.raid_base.specs.declared.messages.Errand.{Errand}
use Rattle.raid_base.specs.declared.messages.Grant.{Grant}
use Rattle.raid_base.specs.declared.messages.Note.{Note}
use Rattle.raid_base.specs.declared.jobs.Cause.{Cause}
use Rattle.raid_base.specs.declared.jobs.Cause.TheVariants as causes
use Rattle.raid_base.specs.declared.jobs.Ended.{Ended}
use Rattle.raid_base.specs.declared.jobs.Ended.TheVariants as ends
use Rattle.raid_base.specs.declared.jobs.Plan.{Plan}
use Rattle.raid_base.specs.declared.jobs.Plan.TheVariants.{Full, Small, Reconstruct}
use Rattle.raid_base.specs.declared.jobs.RowPart.{RowPart}
use Rattle.raid_base.specs.Fits.{fits, fits_shown, fits_share, fits_claim, fits_confirm, fits_put, fits_release}
use Rattle.raid_base.specs.Replies.{grant_of}
use Rattle.raid_base.specs.Steps.{Steps, Asks, Draws, Ends, bind, go_on, Walk, Through, Stopped, Phase, run}
use Rattle.stripe_layout.specs.Placement.{parity_bay, bay_of, bays_of, units_in, units_out}
use Rattle.virtual_objects.specs.RowParts.{IsPart}
use Rattle.row_plans.specs.Laws.{reads}
use Rattle.attempts.specs.Taking.{Access, Finish, Row, Rows, no_rows, Taken, begun, row_ended, with_grant, with_parity, with_wanted, with_other, lacks, behind_from, refusal, grant_or_gap, taking_until, why, share, claim}
use Rattle.attempts.specs.Releases.{release, releases, releasing, end_as, refused_steps, write_holds, others_granted, write_releases, granted_of}
use Rattle.attempts.specs.Puts.{plan_of, is_small_plan, Puts, no_puts, at_row, data_put, data_puts, putting_data, parity_put, putting_parity, with_trouble, trouble_of, wanted_units, written}
use Rattle.attempts.specs.Writing.{finishing, reader_releases, write_end, write_last, parity_done, put_parity, data_done, put_rows, write_drawn, write_numbered, row_confirm, confirming, confirm_cause, row_confirmed, confirm_rows, claiming, row_claimed, wanted_claims, other_shares, claim_wanted, share_others, small_claimed, share_stopped, others_shared, claim_row, parity_claimed, parity_claim, claim_rows}
use Rattle.attempts.specs.Phases.{IsIn, HasRow, RowsDiffer}
use Rattle.attempts.proofs.RoomLemmas.{all-append, all-made, both-units}
use Rattle.histories.specs.Calls.{row_of, is_row}
use Rattle.histories.proofs.hands.PhasedHands.{rows-differ}
use Rattle.histories.proofs.steps.SameNumbers.{named-row}
use Rattle.attempt_laws.specs.Plans.{cells_granted, cells_after, whole_after, IsSoMany, GrantsSo, WritesReadLittle}

all-in : {X : Type 0} (P : X → Type 0) (x : X) (xs : List X) → AllByRecursion P xs → IsIn x xs → P x
all-in P x [] all i = absurd i
all-in P x (y ∷ xs) all (inl same) = subst P same all.0
all-in P x (y ∷ xs) all (inr i) = all-in P x xs all.1 i

differ : {X : Type 0} → false ≡ true → X
differ e = absurd (let bad : false ≡ true = e in cc)

first-true : (x y : Bool) → (x && y) ≡ true → x ≡ true
first-true true y e = refl
first-true false y e = e

any-some : {A : Type 0} (o : Option A) → IfSome o (λ a. Unit {0})
any-some (Some a) = tt
any-some None = tt

lacks-none : (gs : List (Option Grant)) (grant : Grant) → lacks gs ≡ false → lacks (gs ++ Some grant ∷ []) ≡ false
lacks-none [] grant e = refl
lacks-none (None ∷ gs) grant e = cc
lacks-none (Some g ∷ gs) grant e = lacks-none gs grant e

abbrev cells_of : Option Cell → ℕ
cells_of None = 0
cells_of (Some cell) = 1

-- Replies that grant no cell
unshown-none : (r : Reply) → fits_claim Plain false r ≡ true → cells_granted r ≡ 0
unshown-none (replies.Granted (Some cell) read_no write_no last life seized) fit = differ fit
unshown-none (replies.Granted None read_no write_no last life seized) fit = refl
unshown-none (replies.Busy holder) fit = refl
unshown-none (replies.Late above) fit = refl
unshown-none (replies.Young note) fit = refl
unshown-none (replies.Missing floor) fit = refl
unshown-none (replies.Held cell) fit = refl
unshown-none (replies.NoNote life) fit = refl
unshown-none replies.Done fit = refl
unshown-none replies.Fault fit = refl
unshown-none replies.Emptied fit = refl
unshown-none replies.Fitted fit = refl

confirm-none : (want : Bool) (r : Reply) → fits_confirm want r ≡ true → cells_granted r ≡ 0
confirm-none want (replies.Granted cell read_no write_no last life seized) fit = differ fit
confirm-none want (replies.Busy holder) fit = refl
confirm-none want (replies.Late above) fit = refl
confirm-none want (replies.Young note) fit = refl
confirm-none want (replies.Missing floor) fit = refl
confirm-none want (replies.Held cell) fit = refl
confirm-none want (replies.NoNote life) fit = refl
confirm-none want replies.Done fit = refl
confirm-none want replies.Fault fit = refl
confirm-none want replies.Emptied fit = refl
confirm-none want replies.Fitted fit = refl

put-none : (r : Reply) → fits_put r ≡ true → cells_granted r ≡ 0
put-none (replies.Granted cell read_no write_no last life seized) fit = differ fit
put-none (replies.Busy holder) fit = refl
put-none (replies.Late above) fit = refl
put-none (replies.Young note) fit = refl
put-none (replies.Missing floor) fit = refl
put-none (replies.Held cell) fit = refl
put-none (replies.NoNote life) fit = refl
put-none replies.Done fit = refl
put-none replies.Fault fit = refl
put-none replies.Emptied fit = refl
put-none replies.Fitted fit = refl

release-none : (r : Reply) → fits_release r ≡ true → cells_granted r ≡ 0
release-none (replies.Granted cell read_no write_no last life seized) fit = differ fit
release-none (replies.Busy holder) fit = refl
release-none (replies.Late above) fit = refl
release-none (replies.Young note) fit = refl
release-none (replies.Missing floor) fit = refl
release-none (replies.Held cell) fit = refl
release-none (replies.NoNote life) fit = refl
release-none replies.Done fit = refl
release-none replies.Fault fit = refl
release-none replies.Emptied fit = refl
release-none replies.Fitted fit = refl

-- Replies that refuse a share or a claim
abbrev IsRefusing : Reply → Type 0
IsRefusing (replies.Busy holder) = Unit {0}
IsRefusing (replies.Late above) = Unit {0}
IsRefusing (replies.Young note) = Unit {0}
IsRefusing replies.Fault = Unit {0}
IsRefusing _ = ⊥

-- what replies to shares and claims that want cells are: a cell, that the slot is missing, or a refusal
abbrev IsShowing : Reply → Type 0
IsShowing (replies.Granted cell read_no write_no last life seized) = is_some cell ≡ true
IsShowing (replies.Missing floor) = Unit {0}
IsShowing (replies.Busy holder) = Unit {0}
IsShowing (replies.Late above) = Unit {0}
IsShowing (replies.Young note) = Unit {0}
IsShowing replies.Fault = Unit {0}
IsShowing _ = ⊥

claim-shows : (r : Reply) → fits_claim Plain true r ≡ true → IsShowing r
claim-shows (replies.Granted cell read_no write_no last life seized) fit = first-true (is_some cell) (is_none seized) fit
claim-shows (replies.Busy holder) fit = tt
claim-shows (replies.Late above) fit = tt
claim-shows (replies.Young note) fit = tt
claim-shows (replies.Missing floor) fit = tt
claim-shows (replies.Held cell) fit = differ fit
claim-shows (replies.NoNote life) fit = differ fit
claim-shows replies.Done fit = differ fit
claim-shows replies.Fault fit = tt
claim-shows replies.Emptied fit = differ fit
claim-shows replies.Fitted fit = differ fit

share-shows : (r : Reply) → fits_share true r ≡ true → IsShowing r
share-shows (replies.Granted cell read_no write_no last life seized) fit = first-true (is_some cell) (is_none seized) fit
share-shows (replies.Busy holder) fit = tt
share-shows (replies.Late above) fit = tt
share-shows (replies.Young note) fit = tt
share-shows (replies.Missing floor) fit = tt
share-shows (replies.Held cell) fit = differ fit
share-shows (replies.NoNote life) fit = differ fit
share-shows replies.Done fit = differ fit
share-shows replies.Fault fit = tt
share-shows replies.Emptied fit = differ fit
share-shows replies.Fitted fit = differ fit

-- and such a refusal stops the walk
claim-refused : (a : Access) (keep : Option Grant → Row → Row) (t : Taken) (e : Errand) (r : Reply) → IsRefusing r → (claiming a keep).step t e r ≡ None
claim-refused a keep t e (replies.Busy holder) is = refl
claim-refused a keep t e (replies.Late above) is = refl
claim-refused a keep t e (replies.Young note) is = refl
claim-refused a keep t e replies.Fault is = refl
claim-refused a keep t e (replies.Granted cell read_no write_no last life seized) is = absurd is
claim-refused a keep t e (replies.Missing floor) is = absurd is
claim-refused a keep t e (replies.Held cell) is = absurd is
claim-refused a keep t e (replies.NoNote life) is = absurd is
claim-refused a keep t e replies.Done is = absurd is
claim-refused a keep t e replies.Emptied is = absurd is
claim-refused a keep t e replies.Fitted is = absurd is

share-refused : (t : Taken) (e : Errand) (r : Reply) → IsRefusing r → (taking_until with_other).step t e r ≡ None
share-refused t e (replies.Busy holder) is = refl
share-refused t e (replies.Late above) is = refl
share-refused t e (replies.Young note) is = refl
share-refused t e replies.Fault is = refl
share-refused t e (replies.Granted cell read_no write_no last life seized) is = absurd is
share-refused t e (replies.Missing floor) is = absurd is
share-refused t e (replies.Held cell) is = absurd is
share-refused t e (replies.NoNote life) is = absurd is
share-refused t e replies.Done is = absurd is
share-refused t e replies.Emptied is = absurd is
share-refused t e replies.Fitted is = absurd is

module _ (row : RowNo) (most : ℕ) where
  -- of a whole row, with so many cells granted of it
  abbrev So : ℕ → Steps Finish → Type 0
  So count s = GrantsSo most row true count s

  -- nothing is asked of a row in which a slot was missing
  lost : (count : ℕ) (s : Steps Finish) → GrantsSo most row false count s
  lost count (Ends f) = λ whole. differ whole
  lost count (Draws k) = λ d. lost count (k d)
  lost count (Asks e t c k) = (
    λ whole. differ whole,
    λ r fit. lost (cells_after (is_row row (row_of e.request)) r count) (k r),
  )

  maybe-lost : (whole : Bool) (count : ℕ) (s : Steps Finish) → So count s → GrantsSo most row whole count s
  maybe-lost true count s so = so
  maybe-lost false count s so = lost count s

  after-none : (of_row : Bool) (r : Reply) (count : ℕ) (s : Steps Finish) → cells_granted r ≡ 0 → So count s → GrantsSo most row (whole_after of_row r true) (cells_after of_row r count) s
  after-none true r count s none so =
      let same : count ≡ count + cells_granted r = omega (arith, none) in
      subst (λ (m : ℕ). GrantsSo most row (whole_after true r true) m s) same (maybe-lost (whole_after true r true) count s so)
  after-none false r count s none so = so

  -- an errand whose replies grant no cell of the row
  abbrev IsSilent : Errand → Type 0
  IsSilent e = (r : Reply) → fits e.request r ≡ true → (count : ℕ) (s : Steps Finish) → So count s →
      GrantsSo most row (whole_after (is_row row (row_of e.request)) r true) (cells_after (is_row row (row_of e.request)) r count) s

  -- one of another row
  silent-other : (e : Errand) → is_row row (row_of e.request) ≡ false → IsSilent e
  silent-other e apart = λ r fit count s so. subst (λ (b : Bool). GrantsSo most row (whole_after b r true) (cells_after b r count) s) (sym apart) so

  silent-confirm : (a : Access) (r : Row) → IsSilent (row_confirm a r)
  silent-confirm a of = λ r fit count s so. after-none (is_row row (row_of (row_confirm a of).request)) r count s (confirm-none (lacks of.others) r fit) so

  silent-release : (id : Number) (at : RowNo) (n : Option Number) (bay : BayNo) → IsSilent (release id at n bay)
  silent-release id at n bay = λ r fit count s so. after-none (is_row row (Some at)) r count s (release-none r fit) so

  silent-unshown : (id : Number) (at : RowNo) (mask : ℕ) (bay : BayNo) → IsSilent (claim id at Plain mask false bay)
  silent-unshown id at mask bay = λ r fit count s so. after-none (is_row row (Some at)) r count s (unshown-none r fit) so

  silent-data : (a : Access) (n : Number) (of : Row) (unit : ℕ) → IsSilent (data_put a n of unit)
  silent-data a n of unit = λ r fit count s so. after-none (is_row row (Some of.part.row)) r count s (put-none r fit) so

  silent-parity : (a : Access) (n : Number) (of : Row) → IsSilent (parity_put a n of)
  silent-parity a n of = λ r fit count s so. after-none (is_row row (Some of.part.row)) r count s (put-none r fit) so

  abbrev AllSilent : List Errand → Type 0
  AllSilent es = AllByRecursion IsSilent es

  silent-flat : {X : Type 0} (make : X → List Errand) → ((x : X) → AllSilent (make x)) → (xs : List X) → AllSilent (flat_map make xs)
  silent-flat make silent [] = tt
  silent-flat make silent (x ∷ xs) = all-append IsSilent (make x) (flat_map make xs) (silent x) (silent-flat make silent xs)

  silent-releases : (id : Number) (at : RowNo) (n : Option Number) (bays : List BayNo) → AllSilent (releases id at n bays)
  silent-releases id at n bays = all-made IsSilent (release id at n) (λ bay. silent-release id at n bay) bays

  -- Walks of such errands
  module _ {A : Type 0} (I : A → Type 0) (phase : Phase A) (f : Walk A → Steps Finish) where
    silent-go : (count : ℕ) (o : Option A) (g : A → Steps (Walk A)) (s : Steps (Walk A)) → IfSome o I → ((x : A) → I x → So count (bind (g x) f)) → So count (bind s f) → So count (bind (go_on o g s) f)
    silent-go count (Some x) g s i on off = on x i
    silent-go count None g s i on off = off

    silent-run : (count : ℕ) → ((x : A) → IsSoMany most count (phase.stop x)) → ((x : A) (e : Errand) (r : Reply) → I x → IfSome (phase.step x e r) I) → ((x : A) → I x → So count (f (Through x))) →
        ((x : A) (e : Errand) (r : Reply) → I x → So count (f (Stopped x e r))) → (es : List Errand) → AllSilent es → (x : A) → I x → So count (bind (run phase es x) f)
    silent-run count stops kept on off [] silent x i = on x i
    silent-run count stops kept on off (e ∷ es) silent x i = (
      λ whole. stops x,
      λ r fit. silent.0 r fit count (bind (go_on (phase.step x e r) (λ y. run phase es y) (Ends (Stopped x e r))) f)
          (silent-go count (phase.step x e r) (λ y. run phase es y) (Ends (Stopped x e r)) (kept x e r i) (λ y j. silent-run count stops kept on off es silent.1 y j) (off x e r i)),
    )

    -- A walk in which each errand shows a cell of the row
    abbrev Shows : Errand → Type 0
    Shows e = (is_row row (row_of e.request) ≡ true) × ((r : Reply) → fits e.request r ≡ true → IsShowing r)

    abbrev IsThere : Option A → Type 0
    IsThere None = ⊥
    IsThere (Some x) = I x

    there-go : (count : ℕ) (o : Option A) (g : A → Steps (Walk A)) (s : Steps (Walk A)) → IsThere o → ((x : A) → I x → So count (bind (g x) f)) → So count (bind (go_on o g s) f)
    there-go count (Some x) g s i on = on x i
    there-go count None g s i on = absurd i

    module _ (stops : (x : A) (count : ℕ) → count ≤ most → IsSoMany most count (phase.stop x))
        (takes : (x : A) (e : Errand) (cell : Cell) (read_no write_no last : Number) (life : ℕ) (seized : Option Note) → I x → IsThere (phase.step x e (replies.Granted (Some cell) read_no write_no last life seized)))
        (refused : (x : A) (e : Errand) (r : Reply) → IsRefusing r → phase.step x e r ≡ None)
        (off : (x : A) (e : Errand) (r : Reply) (count : ℕ) → IsRefusing r → count ≤ most → So count (f (Stopped x e r)))
        (upto : ℕ) (enough : upto ≤ most) (on : (x : A) → I x → So upto (f (Through x))) where
      abbrev goes : List Errand → A → Errand → Reply → Steps Finish
      goes es x e r = bind (go_on (phase.step x e r) (λ y. run phase es y) (Ends (Stopped x e r))) f

      showing-run : (es : List Errand) → AllByRecursion Shows es → (count : ℕ) → count + length es ≡ upto → (x : A) → I x → So count (bind (run phase es x) f)
      showing-run [] shows count counted x i = let same : upto ≡ count = omega (arith, counted) in subst (λ (m : ℕ). So m (f (Through x))) same (on x i)
      showing-run (e ∷ es) shows count counted x i = (
        λ whole. stops x count below,
        λ r fit. subst (λ (b : Bool). GrantsSo most row (whole_after b r true) (cells_after b r count) (goes es x e r)) (sym shows.0.0)
            (by r (shows.0.1 r fit) (λ y j. showing-run es shows.1 (count + 1) more y j)),
      )
        where
          below : count ≤ most
          below = omega (arith, counted, enough)

          more : count + 1 + length es ≡ upto
          more = omega (arith, counted)

          refuses : (r : Reply) → IsRefusing r → So count (goes es x e r)
          refuses r is = subst (λ (o : Option A). So count (bind (go_on o (λ y. run phase es y) (Ends (Stopped x e r))) f)) (sym (refused x e r is)) (off x e r count is below)

          by : (r : Reply) → IsShowing r → ((y : A) → I y → So (count + 1) (bind (run phase es y) f)) → GrantsSo most row (whole_after true r true) (cells_after true r count) (goes es x e r)
          by (replies.Granted (Some cell) read_no write_no last life seized) is next =
              there-go (count + 1) (phase.step x e (replies.Granted (Some cell) read_no write_no last life seized)) (λ y. run phase es y)
              (Ends (Stopped x e (replies.Granted (Some cell) read_no write_no last life seized))) (takes x e cell read_no write_no last life seized i) next
          by (replies.Granted None read_no write_no last life seized) is next = differ is
          by (replies.Missing floor) is next = lost (count + 0) (goes es x e (replies.Missing floor))
          by (replies.Busy holder) is next = after-none true (replies.Busy holder) count (goes es x e (replies.Busy holder)) refl (refuses (replies.Busy holder) tt)
          by (replies.Late above) is next = after-none true (replies.Late above) count (goes es x e (replies.Late above)) refl (refuses (replies.Late above) tt)
          by (replies.Young note) is next = after-none true (replies.Young note) count (goes es x e (replies.Young note)) refl (refuses (replies.Young note) tt)
          by replies.Fault is next = after-none true replies.Fault count (goes es x e replies.Fault) refl (refuses replies.Fault tt)
          by (replies.Held cell) is next = absurd is
          by (replies.NoNote life) is next = absurd is
          by replies.Done is next = absurd is
          by replies.Emptied is next = absurd is
          by replies.Fitted is next = absurd is

  -- At the full count any end will do
  just : (ended : Ended) → IsSoMany most most ended
  just (ends.Read n) = refl
  just (ends.Wrote n) = refl
  just (ends.Part n made cause) = refl
  just (ends.Refused cause) = omega arith
  just (ends.Recovered n closed lost) = refl
  just ends.Mended = refl

  even-run : {A : Type 0} (phase : Phase A) (f : Walk A → Steps Finish) → ((walk : Walk A) → So most (f walk)) → (es : List Errand) → AllSilent es → (x : A) → So most (bind (run phase es x) f)
  even-run {A} phase f on es silent x =
      silent-run (λ (y : A). Unit {0}) phase f most (λ y. just (phase.stop y)) (λ y e r i. any-some (phase.step y e r)) (λ y i. on (Through y)) (λ y e r i. on (Stopped y e r)) es silent x tt

  refused-so : (a : Access) (count : ℕ) → count ≤ most → (rows : List Row) (cause : Cause) → So count (refused_steps (write_releases a rows) cause)
  refused-so a count below rows cause =
      silent-run (λ (u : Unit {0}). Unit {0}) releasing (end_as (ends.Refused cause)) count (λ u. below) (λ u e r i. tt) (λ u i whole. below) (λ u e r i whole. below)
      (write_releases a rows)
      (silent-flat (λ (of : Row). releases a.id of.part.row None (write_holds a.mode a.n of)) (λ of. silent-releases a.id of.part.row None (write_holds a.mode a.n of)) rows)
      tt tt

  module _ (a : Access) where
    -- Puts
    end-so : (n : Number) (walk : Walk Puts) → So most (write_end a n walk)
    end-so n (Through puts) = λ whole. just (written a n puts)
    end-so n (Stopped puts e r) = λ whole. just (written a n puts)

    readers-silent : (mode : Mode) (rows : List Row) → AllSilent (reader_releases mode a rows)
    readers-silent Order rows = tt
    readers-silent Lock rows =
        silent-flat (λ (of : Row). releases a.id of.part.row None (bays_of a.n of.part.row (others_granted a.n of)))
        (λ of. silent-releases a.id of.part.row None (bays_of a.n of.part.row (others_granted a.n of))) rows

    last-so : (n : Number) (rows : List Row) (puts : Puts) → So most (write_last a n rows puts)
    last-so n rows puts = even-run (finishing a n) (write_end a n) (end-so n) (reader_releases a.mode a rows) (readers-silent a.mode rows) puts

    module _ (n : Number) (rest : Puts → Steps Finish) (goes : (puts : Puts) → So most (rest puts)) (of : Row) where
      parity-done-so : (walk : Walk Puts) → So most (parity_done of rest walk)
      parity-done-so (Through puts) = goes puts
      parity-done-so (Stopped puts e r) = goes (with_trouble puts (trouble_of of e r))

      parity-so : (puts : Puts) (grant : Option Grant) → So most (put_parity a n of rest puts grant)
      parity-so puts None = goes puts
      parity-so puts (Some grant) = even-run (putting_parity a n of) (parity_done of rest) parity-done-so (parity_put a n of ∷ []) (silent-parity a n of, tt) puts

      data-done-so : (walk : Walk Puts) → So most (data_done a n of rest walk)
      data-done-so (Through puts) = parity-so puts of.parity
      data-done-so (Stopped puts e r) = goes (with_trouble puts (trouble_of of e r))

      data-so : (puts : Puts) → So most (bind (run (putting_data a n of) (data_puts a n of) puts) (data_done a n of rest))
      data-so puts =
          even-run (putting_data a n of) (data_done a n of rest) data-done-so (data_puts a n of)
          (all-made IsSilent (data_put a n of) (λ unit. silent-data a n of unit) (granted_of (zip (wanted_units a of) of.wanted))) puts

    puts-so : (n : Number) (all rows : List Row) (puts : Puts) → So most (put_rows a n (write_last a n all) rows puts)
    puts-so n all [] puts = last-so n all puts
    puts-so n all (of ∷ rows) puts = data-so n (put_rows a n (write_last a n all) rows) (puts-so n all rows) of (at_row puts)

    drawn-so : (rows : List Row) (d : Result Number Spent) → So most (write_drawn a rows d)
    drawn-so rows (Ok n) = puts-so n rows rows no_puts
    drawn-so rows (Err spent) = refused-so a most (omega arith) rows (causes.Spent spent.seen)

    numbered-so : (mode : Mode) (rows : List Row) → So most (write_numbered mode a rows)
    numbered-so Order rows = puts-so a.id rows rows no_puts
    numbered-so Lock rows = λ d. drawn-so rows d

    -- Confirms
    confirmed-so : (rows : List Row) (of : Row) (rest : Rows → Steps Finish) → ((done : Rows) → So most (rest done)) → (walk : Walk Rows) → So most (row_confirmed a rows of rest walk)
    confirmed-so rows of rest goes (Through done) = goes done
    confirmed-so rows of rest goes (Stopped done e r) = refused-so a most (omega arith) rows (confirm_cause a of done e r)

    confirms-so : (rows left : List Row) (done : Rows) → So most (confirm_rows a rows left done)
    confirms-so rows [] done = numbered-so a.mode done.rows
    confirms-so rows (of ∷ left) done =
        even-run (confirming a of) (row_confirmed a rows of (confirm_rows a rows left)) (confirmed-so rows of (confirm_rows a rows left) (confirms-so rows left)) (row_confirm a of ∷ []) (silent-confirm a of, tt) done

    -- Claims and shares
    stopped-so : (count : ℕ) → count ≤ most → (t : Taken) (cause : Cause) → So count (refused_steps (write_releases a (t.before ++ t.row ∷ [])) cause)
    stopped-so count below t cause = refused-so a count below (t.before ++ t.row ∷ []) cause

    kept : (P : Taken → Type 0) (keep : Option Grant → Row → Row) (t : Taken) (bay : BayNo) (o : Option (Option Grant)) → ((g : Option Grant) → P (with_grant keep t bay g)) → IfSome (option_map (with_grant keep t bay) o) P
    kept P keep t bay None i = tt
    kept P keep t bay (Some g) i = i g

    kept-grant : (P : Taken → Type 0) (t : Taken) (bay : BayNo) (o : Option Grant) → ((g : Grant) → P (with_grant with_other t bay (Some g))) → IfSome (option_map (λ grant. with_grant with_other t bay (Some grant)) o) P
    kept-grant P t bay None i = tt
    kept-grant P t bay (Some g) i = i g

    -- the errands of another row
    abbrev IsOther : Taken → Type 0
    IsOther t = is_row row (Some t.row.part.row) ≡ false

    other-claims : (want : Bool) (part : RowPart) → is_row row (Some part.row) ≡ false → AllSilent (wanted_claims a want part)
    other-claims want part apart =
        all-made IsSilent (claim a.id part.row Plain 0 want) (λ bay. silent-other (claim a.id part.row Plain 0 want bay) apart) (bays_of a.n part.row (units_in a.n part.mask))

    other-shares : (part : RowPart) → is_row row (Some part.row) ≡ false → AllSilent (other_shares a part)
    other-shares part apart = all-made IsSilent (share a.id part.row) (λ bay. silent-other (share a.id part.row bay) apart) (bays_of a.n part.row (units_out a.n part.mask))

    parity-kept : (t : Taken) (bay : BayNo) (g : Option Grant) → IsOther t → IsOther (with_grant with_parity t bay g)
    parity-kept t bay None i = i
    parity-kept t bay (Some g) i = i

    wanted-kept : (t : Taken) (bay : BayNo) (g : Option Grant) → IsOther t → IsOther (with_grant with_wanted t bay g)
    wanted-kept t bay None i = i
    wanted-kept t bay (Some g) i = i

    other-kept : (t : Taken) (bay : BayNo) (g : Option Grant) → IsOther t → IsOther (with_grant with_other t bay g)
    other-kept t bay None i = i
    other-kept t bay (Some g) i = i

    -- A part of another row
    module _ (count : ℕ) (below : count ≤ most) (rest : Rows → Steps Finish) (goes : (done : Rows) → So count (rest done)) where
      other-wanted-so : (want : Bool) (t : Taken) → IsOther t → So count (claim_wanted a rest want t)
      other-wanted-so want t i =
          silent-run IsOther (claiming a with_wanted) (row_claimed a rest) count (λ x. below)
          (λ x e r j. kept IsOther with_wanted x e.bay (grant_or_gap (behind_from a.mode a.id) x.missing e.bay r) (λ g. wanted-kept x e.bay g j))
          (λ x j. goes (row_ended x)) (λ x e r j. stopped-so count below x (why (behind_from a.mode a.id) x e r))
          (wanted_claims a want t.row.part) (other-claims want t.row.part i) t i

      other-others-so : (t : Taken) → IsOther t → (lacking : Bool) → So count (share_others a rest t lacking)
      other-others-so t i false = goes (row_ended t)
      other-others-so t i true =
          silent-run IsOther (claiming a with_other) (row_claimed a rest) count (λ x. below)
          (λ x e r j. kept IsOther with_other x e.bay (grant_or_gap (behind_from a.mode a.id) x.missing e.bay r) (λ g. other-kept x e.bay g j))
          (λ x j. goes (row_ended x)) (λ x e r j. stopped-so count below x (why (behind_from a.mode a.id) x e r))
          (other_shares a t.row.part) (other-shares t.row.part i) t i

      other-stopped-so : (t : Taken) → IsOther t → (bay : BayNo) (cause : Option Cause) → So count (share_stopped a rest t bay cause)
      other-stopped-so t i bay (Some cause) = stopped-so count below t cause
      other-stopped-so t i bay None = other-wanted-so true (with_grant with_other t bay None) (other-kept t bay None i)

      other-row-so : (t : Taken) → IsOther t → (grant : Option Grant) (plan : Plan) → So count (claim_row a rest t grant plan)
      other-row-so t i None plan = other-wanted-so false t i
      other-row-so t i (Some grant) Full = other-wanted-so false t i
      other-row-so t i (Some grant) Small =
          silent-run IsOther (claiming a with_wanted) (small_claimed a rest) count (λ x. below)
          (λ x e r j. kept IsOther with_wanted x e.bay (grant_or_gap (behind_from a.mode a.id) x.missing e.bay r) (λ g. wanted-kept x e.bay g j))
          (λ x j. other-others-so x j (lacks x.row.wanted)) (λ x e r j. stopped-so count below x (why (behind_from a.mode a.id) x e r))
          (wanted_claims a true t.row.part) (other-claims true t.row.part i) t i
      other-row-so t i (Some grant) Reconstruct =
          silent-run IsOther (taking_until with_other) (others_shared a rest) count (λ x. below)
          (λ x e r j. kept-grant IsOther x e.bay (grant_of r) (λ g. other-kept x e.bay (Some g) j))
          (λ x j. other-wanted-so false x j) (λ x e r j. other-stopped-so x j e.bay (refusal (behind_from a.mode a.id) x.missing e.bay r))
          (other_shares a t.row.part) (other-shares t.row.part i) t i

      other-so : (part : RowPart) → is_row row (Some part.row) ≡ false → (done : Rows) → So count (bind (run (claiming a with_parity) (parity_claim a part ∷ []) (begun part done)) (parity_claimed a rest))
      other-so part apart done =
          silent-run IsOther (claiming a with_parity) (parity_claimed a rest) count (λ x. below)
          (λ x e r j. kept IsOther with_parity x e.bay (grant_or_gap (behind_from a.mode a.id) x.missing e.bay r) (λ g. parity-kept x e.bay g j))
          (λ x j. other-row-so x j x.row.parity (plan_of a x.row.part)) (λ x e r j. stopped-so count below x (why (behind_from a.mode a.id) x e r))
          (parity_claim a part ∷ []) (silent-other (parity_claim a part) apart, tt) (begun part done) apart

    -- The part of the row
    module _ (rest : Rows → Steps Finish) (goes : (done : Rows) → So most (rest done)) (part : RowPart) (here : is_row row (Some part.row) ≡ true)
        (counted : length (units_in a.n part.mask) ≡ part.count) where
      row-so : (walk : Walk Taken) → So most (row_claimed a rest walk)
      row-so (Through t) = goes (row_ended t)
      row-so (Stopped t e r) = stopped-so most (omega arith) t (why (behind_from a.mode a.id) t e r)

      -- claims without cells
      unshown-so : (t : Taken) → So most (claim_wanted a rest false t)
      unshown-so t =
          even-run (claiming a with_wanted) (row_claimed a rest) row-so (wanted_claims a false t.row.part)
          (all-made IsSilent (claim a.id t.row.part.row Plain 0 false) (λ bay. silent-unshown a.id t.row.part.row 0 bay) (bays_of a.n t.row.part.row (units_in a.n t.row.part.mask))) t

      bays-many : (us : List ℕ) → length (bays_of a.n part.row us) ≡ length us
      bays-many us = length-map us (bay_of a.n part.row)

      abbrev IsOwn : Taken → Type 0
      IsOwn t = t.row.part ≡ part

      -- small: the parity has shown its cell, and each wanted unit does
      abbrev IsSmall : Taken → Type 0
      IsSmall t = IsOwn t × (lacks t.row.wanted ≡ false)

      small-so : part.count + 1 ≡ most → (t : Taken) → IsSmall t → So 1 (bind (run (claiming a with_wanted) (wanted_claims a true t.row.part) t) (small_claimed a rest))
      small-so all t i =
          subst (λ (p : RowPart). So 1 (bind (run (claiming a with_wanted) (wanted_claims a true p) t) (small_claimed a rest))) (sym i.0)
          (showing-run IsSmall (claiming a with_wanted) (small_claimed a rest) (λ x count below. below)
          (λ x e cell read_no write_no last life seized j. (j.0, lacks-none x.row.wanted (record { cell = Some cell; last = last; life = life; seized = seized }) j.1))
          (claim-refused a with_wanted) (λ x e r count is below. stopped-so count below x (why (behind_from a.mode a.id) x e r))
          most (omega arith) (λ x j. subst (λ (b : Bool). So most (share_others a rest x b)) (sym j.1) (goes (row_ended x)))
          (wanted_claims a true part)
          (all-made (λ (e : Errand). (is_row row (row_of e.request) ≡ true) × ((r : Reply) → fits e.request r ≡ true → IsShowing r)) (claim a.id part.row Plain 0 true) (λ bay. (here, claim-shows)) (bays_of a.n part.row (units_in a.n part.mask)))
          1 many t i)
        where
          many : 1 + length (wanted_claims a true part) ≡ most
          many = omega (arith, length-map (bays_of a.n part.row (units_in a.n part.mask)) (claim a.id part.row Plain 0 true), bays-many (units_in a.n part.mask), counted, all)

      -- reconstruct: each of the others shows its cell
      shares-off : (x : Taken) (e : Errand) (r : Reply) (count : ℕ) → IsRefusing r → count ≤ most → So count (others_shared a rest (Stopped x e r))
      shares-off x e (replies.Busy holder) count is below = stopped-so count below x (causes.Busy holder)
      shares-off x e (replies.Late above) count is below = stopped-so count below x (causes.Late above)
      shares-off x e (replies.Young note) count is below = stopped-so count below x (causes.Young note)
      shares-off x e replies.Fault count is below = stopped-so count below x (causes.Fault e.bay)
      shares-off x e (replies.Granted cell read_no write_no last life seized) count is below = absurd is
      shares-off x e (replies.Missing floor) count is below = absurd is
      shares-off x e (replies.Held cell) count is below = absurd is
      shares-off x e (replies.NoNote life) count is below = absurd is
      shares-off x e replies.Done count is below = absurd is
      shares-off x e replies.Emptied count is below = absurd is
      shares-off x e replies.Fitted count is below = absurd is

      reconstruct-so : a.n - 1 - part.count ≡ most → (t : Taken) → IsOwn t → So 0 (bind (run (taking_until with_other) (other_shares a t.row.part) t) (others_shared a rest))
      reconstruct-so all t i =
          subst (λ (p : RowPart). So 0 (bind (run (taking_until with_other) (other_shares a p) t) (others_shared a rest))) (sym i)
          (showing-run (λ (x : Taken). Unit {0}) (taking_until with_other) (others_shared a rest) (λ x count below. below)
          (λ x e cell read_no write_no last life seized j. tt)
          share-refused shares-off
          most (omega arith) (λ x j. unshown-so x)
          (other_shares a part)
          (all-made (λ (e : Errand). (is_row row (row_of e.request) ≡ true) × ((r : Reply) → fits e.request r ≡ true → IsShowing r)) (share a.id part.row) (λ bay. (here, share-shows)) (bays_of a.n part.row (units_out a.n part.mask)))
          0 many t tt)
        where
          many : 0 + length (other_shares a part) ≡ most
          many = omega (arith, length-map (bays_of a.n part.row (units_out a.n part.mask)) (share a.id part.row), bays-many (units_out a.n part.mask), both-units a.n part.mask, counted, all)

      -- once the parity is granted
      granted-so : (plan : Plan) → reads plan (a.n - 1) part.count ≡ most → (cell : Option Cell) → fits_shown (is_small_plan plan) cell ≡ true → (t : Taken) → IsSmall t → (grant : Grant) →
          So (cells_of cell) (claim_row a rest t (Some grant) plan)
      granted-so Small all (Some cell) shown t i grant = small-so all t i
      granted-so Small all None shown t i grant = differ shown
      granted-so Full all None shown t i grant = subst (λ (m : ℕ). So m (claim_wanted a rest false t)) (sym all) (unshown-so t)
      granted-so Full all (Some cell) shown t i grant = differ shown
      granted-so Reconstruct all None shown t i grant = reconstruct-so all t i.0
      granted-so Reconstruct all (Some cell) shown t i grant = differ shown

      module _ (all : reads (plan_of a part) (a.n - 1) part.count ≡ most) (done : Rows) where
        abbrev claim_of : Errand
        claim_of = parity_claim a part

        abbrev then_of : Reply → Steps Finish
        then_of r = bind (go_on ((claiming a with_parity).step (begun part done) claim_of r) (λ x. run (claiming a with_parity) [] x) (Ends (Stopped (begun part done) claim_of r))) (parity_claimed a rest)

        refused-claim : (r : Reply) → IsRefusing r → cells_granted r ≡ 0 → GrantsSo most row (whole_after true r true) (cells_after true r 0) (then_of r)
        refused-claim r is none =
            after-none true r 0 (then_of r) none
            (subst (λ (o : Option Taken). So 0 (bind (go_on o (λ x. run (claiming a with_parity) [] x) (Ends (Stopped (begun part done) claim_of r))) (parity_claimed a rest)))
            (sym (claim-refused a with_parity (begun part done) claim_of r is)) (stopped-so 0 (omega arith) (begun part done) (why (behind_from a.mode a.id) (begun part done) claim_of r)))

        by : (r : Reply) → fits claim_of.request r ≡ true → GrantsSo most row (whole_after true r true) (cells_after true r 0) (then_of r)
        by (replies.Granted (Some cell) read_no write_no last life seized) fit =
            granted-so (plan_of a part) all (Some cell) (first-true (fits_shown (is_small_plan (plan_of a part)) (Some cell)) (is_none seized) fit)
            (with_grant with_parity (begun part done) (parity_bay a.n part.row) (Some (record { cell = Some cell; last = last; life = life; seized = seized }))) (refl, refl)
            (record { cell = Some cell; last = last; life = life; seized = seized })
        by (replies.Granted None read_no write_no last life seized) fit =
            granted-so (plan_of a part) all None (first-true (fits_shown (is_small_plan (plan_of a part)) None) (is_none seized) fit)
            (with_grant with_parity (begun part done) (parity_bay a.n part.row) (Some (record { cell = None; last = last; life = life; seized = seized }))) (refl, refl)
            (record { cell = None; last = last; life = life; seized = seized })
        by (replies.Missing floor) fit = lost 0 (then_of (replies.Missing floor))
        by (replies.Busy holder) fit = refused-claim (replies.Busy holder) tt refl
        by (replies.Late above) fit = refused-claim (replies.Late above) tt refl
        by (replies.Young note) fit = refused-claim (replies.Young note) tt refl
        by replies.Fault fit = refused-claim replies.Fault tt refl
        by (replies.Held cell) fit = differ fit
        by (replies.NoNote life) fit = differ fit
        by replies.Done fit = differ fit
        by replies.Emptied fit = differ fit
        by replies.Fitted fit = differ fit

        own-so : So 0 (bind (run (claiming a with_parity) (claim_of ∷ []) (begun part done)) (parity_claimed a rest))
        own-so = (λ whole. omega arith, λ r fit. subst (λ (b : Bool). GrantsSo most row (whole_after b r true) (cells_after b r 0) (then_of r)) (sym here) (by r fit))

    -- Row by row
    apart-row : (part : RowPart) → (part.row ≡ row → ⊥) → is_row row (Some part.row) ≡ false
    apart-row part apart = go (is_row row (Some part.row)) refl
      where
        go : (b : Bool) → is_row row (Some part.row) ≡ b → b ≡ false
        go true e = absurd (apart (let named : Some part.row ≡ Some row = named-row row (Some part.row) e in cc))
        go false e = refl

    after-so : (left : List RowPart) → (HasRow row left → ⊥) → (done : Rows) → So most (claim_rows a left done)
    after-so [] apart done = confirms-so done.rows done.rows (record done { rows = [] })
    after-so (part ∷ left) apart done =
        other-so most (omega arith) (claim_rows a left) (after-so left (λ h. apart (inr h))) part (apart-row part (λ e. apart (inl e))) done

    has-row : (part : RowPart) (parts : List RowPart) → IsIn part parts → HasRow part.row parts
    has-row part [] i = i
    has-row part (x ∷ parts) (inl same) = inl (ap (λ (p : RowPart). p.row) same)
    has-row part (x ∷ parts) (inr i) = inr (has-row part parts i)

    itself : (r : RowNo) → is_row r (Some r) ≡ true
    itself r = grind (arith, nat_tests)

    before-so : (left : List RowPart) → RowsDiffer left → (part : RowPart) → IsIn part left → part.row ≡ row → length (units_in a.n part.mask) ≡ part.count → reads (plan_of a part) (a.n - 1) part.count ≡ most →
        (done : Rows) → So 0 (claim_rows a left done)
    before-so [] differ part i own counted all done = absurd i
    before-so (x ∷ left) differ part (inl same) own counted all done =
        let here : x.row ≡ row = ap (λ (p : RowPart). p.row) same ∙ own in
        own-so (claim_rows a left) (after-so left (subst (λ (r : RowNo). HasRow r left → ⊥) here differ.0)) x
        (subst (λ (r : RowNo). is_row row (Some r) ≡ true) (sym here) (itself row))
        (subst (λ (p : RowPart). length (units_in a.n p.mask) ≡ p.count) (sym same) counted)
        (subst (λ (p : RowPart). reads (plan_of a p) (a.n - 1) p.count ≡ most) (sym same) all) done
    before-so (x ∷ left) differ part (inr i) own counted all done =
        other-so 0 (omega arith) (claim_rows a left) (before-so left differ.1 part i own counted all) x
        (apart-row x (λ e. differ.0 (subst (λ (r : RowNo). HasRow r left) (own ∙ sym e) (has-row part left i)))) done

pub writes_read_little : WritesReadLittle
writes_read_little a are part i =
    let each : IsPart a.n part = all-in (IsPart a.n) part a.parts (recursion_from_All (IsPart a.n) a.parts are.each) i in
    before-so part.row (reads (plan_of a part) (a.n - 1) part.count) a a.parts (rows-differ a.parts are.rows_apart) part i refl each.counted refl no_rows
