-- Before a write puts, under stamps its id is above each floor that it was shown; and none of its puts commits a unit twice.
use Rattle.std.proofs.Common.{◌≡◌, ◌∙◌, ◌+◌, ◌-◌, ◌<◌, ◌≤◌, ◌==◌, ℕ, Bool, true, false, List, [], ◌∷◌, ◌++◌, map, zip, filter, nat_le, zero, suc, ◌&&◌, if◌then◌else◌, Option, Some, None, option_map, unwrap_or, Result, Ok, Err, refl, sym, ap, subst, arith}
use Rattle.std.specs.List.{AllByRecursion, range_with_len}
use Rattle.std.proofs.lemmas.Bool.Decides.{nat_tests}
use Rattle.raid_base.specs.declared.numbers.BayNo.{BayNo}
use Rattle.raid_base.specs.declared.numbers.RowNo.{RowNo}
use Rattle.raid_base.specs.declared.numbers.Number.{Number}
use Rattle.raid_base.specs.declared.numbers.Spent.{Spent}
use Rattle.raid_base.specs.declared.cells.Cell.{Cell}
use Rattle.raid_base.specs.declared.messages.Mode.{Mode}
use Rattle.raid_base.specs.declared.messages.Mode.TheVariants.{Lock, Order}
use Rattle.raid_base.specs.declared.messages.How.TheVariants.{Plain}
use Rattle.raid_base.specs.declared.messages.Call.{Call}
use Rattle.raid_base.specs.declared.messages.Errand.{Errand}
use Rattle.raid_base.specs.declared.messages.Grant.{Grant}
use Rattle.raid_base.specs.declared.messages.Request.{Request}
use Rattle.raid_base.specs.declared.messages.Request.TheVariants.{Put}
use Rattle.raid_base.specs.declared.messages.Reply.{Reply}
use Rattle.raid_base.specs.declared.messages.Reply.TheVariants.{Missing}
use Rattle.raid_base.specs.declared.jobs.Cause.{Cause}
use Rattle.raid_base.specs.declared.jobs.Cause.TheVariants as causes
use Rattle.raid_base.specs.declared.jobs.Ended.TheVariants as ends
use Rattle.raid_base.specs.declared.jobs.Plan.{Plan}
use Rattle.raid_base.specs.declared.jobs.Plan.TheVariants.{Full, Small, Reconstruct}
use Rattle.raid_base.specs.declared.jobs.RowPart.{RowPart}
use Rattle.raid_base.specs.Cells.{has_unit, plain_cell}
use Rattle.raid_base.specs.Fits.{fits}
use Rattle.raid_base.specs.Replies.{grant_of, put_end}
use Rattle.raid_base.specs.Steps.{Commit, Steps, bind, Walk, Through, Stopped, run, errand_of}
use Rattle.stripe_layout.specs.Placement.{parity_bay, bays_of, units, units_in, units_out}
use Rattle.stripe_layout.proofs.LayoutLemmas.{unit_back}
use Rattle.attempts.specs.Taking.{Access, Finish, Row, Rows, no_rows, Taken, begun, row_ended, with_parity, with_wanted, with_other, with_grant, lacks, behind_from, broken, refusal, unless, taking_until, why, share, claim, confirm}
use Rattle.attempts.specs.Releases.{release, releases, releasing, end_as, granted_of, refused_steps, write_holds, write_releases, others_granted}
use Rattle.attempts.specs.Puts.{wanted_units, plan_of, block_at, new_parity, Puts, no_puts, at_row, with_made, with_left, granted_life, unit_of, data_put, block_no, data_put_by, unit_commit, putting_data, missing_units, parity_units, parity_put, putting_parity, with_trouble, trouble_of}
use Rattle.attempts.specs.Writing.{write_stopped, finishing, reader_releases, write_end, write_last, parity_done, put_parity, data_done, put_rows, write_drawn, write_numbered, unrefused_row, row_confirm, confirming, confirm_cause, row_confirmed, confirm_rows, claiming, row_claimed, wanted_claims, other_shares, claim_wanted, share_others, small_claimed, share_stopped, others_shared, claim_row, parity_claimed, parity_claim, claim_rows, write_steps}
use Rattle.attempts.proofs.RoomLemmas.{all-made}
use Rattle.attempts.proofs.PhaseLemmas.{all-flat, all-weaken}
use Rattle.attempts.proofs.WriteSums.{units-known}
use Rattle.attempts.proofs.WritePhases.{all-granted}
use Rattle.serial_laws.specs.Laws.{is_of}
use Rattle.serial_laws.proofs.contents.CommittingTrees.{Committing, run-committing}
use Rattle.serial_laws.proofs.contents.RecoveryCommits.{walk-committing}
use Rattle.row_laws.proofs.hands.WriteMasks.{PutsNothing}
use Rattle.raid_base.specs.Steps.{Phase}
use Rattle.raid_base.specs.declared.messages.PutEnd.{PutEnd}
use Rattle.raid_base.specs.declared.messages.PutEnd.TheVariants.{Made, Unnoted, Failed}

-- the floors that these calls were shown are below
abbrev pub FloorsBelow : ℕ → List Call → Type 0
FloorsBelow m calls = AllByRecursion (λ (c : Call). (floor : Number) → c.answer.reply ≡ Missing floor → floor.0 < m) calls

-- how many of these commits are of a unit
abbrev pub times : RowNo → ℕ → List Commit → ℕ
times row unit [] = 0
times row unit (commit ∷ commits) = (if is_of row unit commit then 1 else 0) + times row unit commits

-- at most one of them is
abbrev pub AreOnce : List Commit → Type 0
AreOnce commits = (row : RowNo) (unit : ℕ) → times row unit commits ≤ 1

-- before a write puts, under stamps its id is above the floors that it was shown; and a put commits no unit twice
pub record RisesSo (a : Access) (calls : List Call) (e : Errand) (commits : List Commit) : Type 0 where
  pub floors : (row : RowNo) (id k : Number) (cell : Cell) → e.request ≡ Put row id k cell → a.mode ≡ Order → FloorsBelow a.id.0 calls
  pub once : (row : RowNo) (id k : Number) (cell : Cell) → e.request ≡ Put row id k cell → AreOnce commits

pub one-least : (b : Bool) → (if b then 1 else 0) + 0 ≤ 1
one-least true = omega arith
one-least false = omega arith

-- How often a unit is among some
abbrev count : ℕ → List ℕ → ℕ
count v [] = 0
count v (u ∷ us) = (if u == v then 1 else 0) + count v us

count-append : (v : ℕ) (us vs : List ℕ) → count v (us ++ vs) ≡ count v us + count v vs
count-append v [] vs = omega arith
count-append v (u ∷ us) vs = let rest = count-append v us vs in omega (arith, rest)

count-filter : (v : ℕ) (p : ℕ → Bool) (us : List ℕ) → count v (filter p us) ≤ count v us
count-filter v p [] = omega arith
count-filter v p (u ∷ us) = by (p u) (count-filter v p us)
  where
    by : (b : Bool) → count v (filter p us) ≤ count v us → count v (if b then u ∷ filter p us else filter p us) ≤ (if u == v then 1 else 0) + count v us
    by true rest = omega (arith, rest)
    by false rest = omega (arith, rest)

count-past : (v k m : ℕ) → v < k → count v (range_with_len k m) ≡ 0
count-past v k zero less = refl
count-past v k (suc m) less = by (k == v) refl (count-past v (k + 1) m (omega (arith, less)))
  where
    by : (b : Bool) → (k == v) ≡ b → count v (range_with_len (k + 1) m) ≡ 0 → (if b then 1 else 0) + count v (range_with_len (k + 1) m) ≡ 0
    by true e rest = absurd (let same : k ≡ v = grind (arith, nat_tests) in omega (arith, same, less))
    by false e rest = omega (arith, rest)

count-range : (v k m : ℕ) → count v (range_with_len k m) ≤ 1
count-range v k zero = omega arith
count-range v k (suc m) = by (k == v) refl (count-range v (k + 1) m)
  where
    by : (b : Bool) → (k == v) ≡ b → count v (range_with_len (k + 1) m) ≤ 1 → (if b then 1 else 0) + count v (range_with_len (k + 1) m) ≤ 1
    by true e rest = let same : k ≡ v = grind (arith, nat_tests) in let none = count-past v (k + 1) m (omega (arith, same)) in omega (arith, none)
    by false e rest = omega (arith, rest)

-- those that were granted and those that are missing are apart
count-split : (v : ℕ) (us : List ℕ) (os : List (Option Grant)) → count v (missing_units (zip us os)) + count v (granted_of (zip us os)) ≤ count v us
count-split v [] os = omega arith
count-split v (u ∷ us) [] = omega arith
count-split v (u ∷ us) (None ∷ os) = let rest = count-split v us os in by (if u == v then 1 else 0) rest
  where
    by : (k : ℕ) → count v (missing_units (zip us os)) + count v (granted_of (zip us os)) ≤ count v us → (k + count v (missing_units (zip us os))) + count v (granted_of (zip us os)) ≤ k + count v us
    by k rest = omega (arith, rest)
count-split v (u ∷ us) (Some grant ∷ os) = let rest = count-split v us os in by (if u == v then 1 else 0) rest
  where
    by : (k : ℕ) → count v (missing_units (zip us os)) + count v (granted_of (zip us os)) ≤ count v us → count v (missing_units (zip us os)) + (k + count v (granted_of (zip us os))) ≤ k + count v us
    by k rest = omega (arith, rest)

module _ (a : Access) where
  abbrev P : List Call → Errand → List Commit → Type 0
  P = RisesSo a

  -- errands that put nothing
  abbrev Free : Errand → Type 0
  Free e = (calls : List Call) (commits : List Commit) → P calls e commits

  free : (e : Errand) → PutsNothing e.request → Free e
  free e none calls commits = record { floors = λ row id k cell is order. absurd (subst PutsNothing is none); once = λ row id k cell is. absurd (subst PutsNothing is none) }

  -- Floors: none is shown that its id is not above
  abbrev Floors : List Call → Type 0
  Floors calls = a.mode ≡ Order → FloorsBelow a.id.0 calls

  abbrev Fine : Reply → Type 0
  Fine r = (floor : Number) → r ≡ Missing floor → a.mode ≡ Order → floor.0 < a.id.0

  floors-more : (calls : List Call) (call : Call) → Fine call.answer.reply → Floors calls → Floors (call ∷ calls)
  floors-more calls call fine floors = λ order. (λ floor is. fine floor is order, floors order)

  -- what doesn't refuse is fine
  refusal-fine : (missing : Option BayNo) (bay : BayNo) (r : Reply) → refusal (behind_from a.mode a.id) missing bay r ≡ None → Fine r
  refusal-fine missing bay r stays floor is order =
      by (nat_le a.id.0 floor.0) refl
      (sym (ap (λ (m : Mode). refusal (behind_from m a.id) missing bay (Missing floor)) order) ∙ ap (λ (x : Reply). refusal (behind_from a.mode a.id) missing bay x) (sym is) ∙ stays)
    where
      by : (b : Bool) → nat_le a.id.0 floor.0 ≡ b → (if b then Some (causes.Behind floor) else broken missing bay) ≡ None → floor.0 < a.id.0
      by true e none = absurd (cc)
      by false e none = grind (arith, nat_tests)

  granted-fine : (r : Reply) (grant : Grant) → grant_of r ≡ Some grant → Fine r
  granted-fine r grant some floor is order = absurd (let bad : None ≡ Some grant = ap grant_of (sym is) ∙ some in cc)

  unless-none : {A B : Type 0} (f : A → B) (cause : Option Cause) (x : A) (b : B) → option_map f (unless cause x) ≡ Some b → cause ≡ None
  unless-none f (Some cause) x b e = absurd (cc)
  unless-none f None x b e = refl

  some-granted : {B : Type 0} (f : Grant → B) (o : Option Grant) (b : B) → option_map f o ≡ Some b → (grant : Grant) × (o ≡ Some grant)
  some-granted f None b e = absurd (cc)
  some-granted f (Some grant) b e = (grant, refl)

  claiming-fine : (keep : Option Grant → Row → Row) (taken : Taken) (e : Errand) (r : Reply) (b : Taken) → (claiming a keep).step taken e r ≡ Some b → Fine r
  claiming-fine keep taken e r b goes =
      refusal-fine taken.missing e.bay r (unless-none (with_grant keep taken e.bay) (refusal (behind_from a.mode a.id) taken.missing e.bay r) (grant_of r) b goes)

  until-fine : (keep : Option Grant → Row → Row) (taken : Taken) (e : Errand) (r : Reply) (b : Taken) → (taking_until keep).step taken e r ≡ Some b → Fine r
  until-fine keep taken e r b goes =
      let found = some-granted (λ (grant : Grant). with_grant keep taken e.bay (Some grant)) (grant_of r) b goes in
      granted-fine r found.0 found.1

  confirming-fine : (row : Row) (done : Rows) (e : Errand) (r : Reply) (b : Rows) → (confirming a row).step done e r ≡ Some b → Fine r
  confirming-fine row done e r b goes = refusal-fine done.missing e.bay r (by (refusal (behind_from a.mode a.id) done.missing e.bay r) goes)
    where
      by : (cause : Option Cause) → option_map (λ (x : Row). record done { rows = done.rows ++ x ∷ [] }) (unrefused_row row r cause) ≡ Some b → cause ≡ None
      by (Some cause) e = absurd (cc)
      by None e = refl

  -- a walk whose steps go on past what is fine alone
  run-floors : {A : Type 0} (phase : Phase A) (f : Walk A → Steps Finish) → ((x : A) (e : Errand) (r : Reply) (b : A) → phase.step x e r ≡ Some b → Fine r) →
      ((calls : List Call) (x : A) → Floors calls → Committing P calls (f (Through x))) →
      ((calls : List Call) (call : Call) (x : A) (e : Errand) → Floors calls → Committing P (call ∷ calls) (f (Stopped x e call.answer.reply))) →
      (es : List Errand) → AllByRecursion Free es → (x : A) (calls : List Call) → Floors calls → Committing P calls (bind (run phase es x) f)
  run-floors phase f fine on off [] own x calls h = on calls x h
  run-floors phase f fine on off (e ∷ es) own x calls h =
      walk-committing P phase f e es x calls (own.0 calls (phase.commits x e))
      (λ call is fit b goes. run-floors phase f fine on off es own.1 b (call ∷ calls) (floors-more calls call (fine x e call.answer.reply b goes) h))
      (λ call is fit none. off calls call x e h)

  -- Releases
  free-releases : (row : RowNo) (bays : List BayNo) → AllByRecursion Free (releases a.id row None bays)
  free-releases row bays = all-made Free (release a.id row None) (λ bay. free (release a.id row None bay) tt) bays

  free-holds : (rows : List Row) → AllByRecursion Free (write_releases a rows)
  free-holds rows = all-flat Free (λ (row : Row). releases a.id row.part.row None (write_holds a.mode a.n row)) (λ row. free-releases row.part.row (write_holds a.mode a.n row)) rows

  free-readers : (mode : Mode) (rows : List Row) → AllByRecursion Free (reader_releases mode a rows)
  free-readers Order rows = tt
  free-readers Lock rows =
      all-flat Free (λ (row : Row). releases a.id row.part.row None (bays_of a.n row.part.row (others_granted a.n row)))
      (λ row. free-releases row.part.row (bays_of a.n row.part.row (others_granted a.n row))) rows

  -- Puts
  module _ (n : Number) where
    write-ends : (calls : List Call) (walk : Walk Puts) → Committing P calls (write_end a n walk)
    write-ends calls (Through puts) = tt
    write-ends calls (Stopped puts e r) = tt

    lasts : (rows : List Row) (calls : List Call) (puts : Puts) → Committing P calls (write_last a n rows puts)
    lasts rows calls puts =
        run-committing P (λ cs (p : Puts). Unit {0}) (λ cs call p u. tt) (finishing a n) (write_end a n) (λ cs p e r u. tt) (λ cs p u. write-ends cs (Through p)) (λ cs p e r u. write-ends cs (Stopped p e r))
        (reader_releases a.mode a rows) (free-readers a.mode rows) puts calls tt

    -- of a row, with those that are left after it
    module _ (row : Row) (rest : Puts → Steps Finish) (on : (calls : List Call) (puts : Puts) → Floors calls → Committing P calls (rest puts)) where
      abbrev Gone : List ℕ
      Gone = missing_units (zip (wanted_units a row) row.wanted)

      -- no unit is twice among those that are missing, that are left, and that are to be put
      abbrev Apart : List ℕ → Puts → Type 0
      Apart us puts = (v : ℕ) → count v Gone + (count v puts.left + count v us) ≤ 1

      put-floors : (calls : List Call) (call : Call) (e : Errand) → errand_of call ≡ e → fits call.ask.what call.answer.reply ≡ true → (r : RowNo) (id k : Number) (cell : Cell) → e.request ≡ Put r id k cell → Floors calls →
          Floors (call ∷ calls)
      put-floors calls call e is fit r id k cell what h = floors-more calls call fine h
        where
          fine : Fine call.answer.reply
          fine floor said order =
              absurd (let bad : fits (Put r id k cell) (Missing floor) ≡ true =
              subst (λ (x : Reply). fits (Put r id k cell) x ≡ true) said (subst (λ (w : Request). fits w call.answer.reply ≡ true) (ap (λ (x : Errand). x.request) is ∙ what) fit) in cc)

      times-units : (r : RowNo) (v : ℕ) (us : List ℕ) → times r v (map (unit_commit a row) us) ≤ count v us
      times-units r v [] = omega arith
      times-units r v (u ∷ us) = by (row.part.row.0 == r.0) (u == v) (times-units r v us)
        where
          by : (same one : Bool) → times r v (map (unit_commit a row) us) ≤ count v us → (if same && one then 1 else 0) + times r v (map (unit_commit a row) us) ≤ (if one then 1 else 0) + count v us
          by true true rest = omega (arith, rest)
          by true false rest = omega (arith, rest)
          by false true rest = omega (arith, rest)
          by false false rest = omega (arith, rest)

      parity-once : (puts : Puts) → Apart [] puts → AreOnce (map (unit_commit a row) (parity_units a row puts))
      parity-once puts apart r v =
          let most = times-units r v (parity_units a row puts) in
          let parts = count-append v Gone puts.left in
          let few = apart v in
          omega (arith, most, parts, few)

      asks-data : (u : ℕ) (calls : List Call) (puts : Puts) → Floors calls → P calls (data_put a n row u) ((putting_data a n row).commits puts (data_put a n row u))
      asks-data u calls puts h = record { floors = λ r id k cell is order. h order; once = λ r id k cell is at v. one-least (is_of at v (unit_commit a row (unit_of a row (data_put a n row u)))) }

      asks-parity : (calls : List Call) (puts : Puts) → Apart [] puts → Floors calls → P calls (parity_put a n row) (map (unit_commit a row) (parity_units a row puts))
      asks-parity calls puts apart h = record { floors = λ r id k cell is order. h order; once = λ r id k cell is. parity-once puts apart }

      parity-puts : (calls : List Call) (puts : Puts) → Apart [] puts → Floors calls → (grant : Option Grant) → Committing P calls (put_parity a n row rest puts grant)
      parity-puts calls puts apart h None = on calls puts h
      parity-puts calls puts apart h (Some grant) =
          walk-committing P (putting_parity a n row) (parity_done row rest) (parity_put a n row) [] puts calls (asks-parity calls puts apart h)
          (λ call is fit b goes. on (call ∷ calls) b (put-floors calls call (parity_put a n row) is fit row.part.row a.id n (new_parity a row) refl h))
          (λ call is fit none. on (call ∷ calls) (with_trouble puts (trouble_of row (parity_put a n row) call.answer.reply)) (put-floors calls call (parity_put a n row) is fit row.part.row a.id n (new_parity a row) refl h))

      is-unit : (least : 3 ≤ a.n) (u : ℕ) → u + 1 < a.n → unit_of a row (data_put a n row u) ≡ u
      is-unit least u below = ap (λ (o : Option ℕ). unwrap_or o 0) (unit_back a.n row.part.row u least (omega arith))

      -- a put that goes on has made its unit, or leaves it to the parity
      apart-next : (u : ℕ) (us : List ℕ) (puts b : Puts) (end : PutEnd) → data_put_by a row puts u end ≡ Some b → Apart (u ∷ us) puts → Apart us b
      apart-next u us puts b Made goes apart v = let same : with_made puts (block_no a row.part u ∷ []) ≡ b = cc in subst (λ (x : Puts). count v Gone + (count v x.left + count v us) ≤ 1) same (made v)
        where
          made : (v : ℕ) → count v Gone + (count v puts.left + count v us) ≤ 1
          made v = let few = apart v in one (if u == v then 1 else 0) few
            where
              one : (k : ℕ) → count v Gone + (count v puts.left + (k + count v us)) ≤ 1 → count v Gone + (count v puts.left + count v us) ≤ 1
              one k few = omega (arith, few)
      apart-next u us puts b Failed goes apart v = absurd (cc)
      apart-next u us puts b (Unnoted life) goes apart v = by (life == granted_life a row u) goes
        where
          left : count v Gone + (count v (puts.left ++ u ∷ []) + count v us) ≤ 1
          left = let few = apart v in let parts = count-append v puts.left (u ∷ []) in one (if u == v then 1 else 0) few (count v (puts.left ++ u ∷ [])) parts
            where
              one : (k : ℕ) → count v Gone + (count v puts.left + (k + count v us)) ≤ 1 → (m : ℕ) → m ≡ count v puts.left + (k + 0) → count v Gone + (m + count v us) ≤ 1
              one k few m same = omega (arith, few, same)

          by : (c : Bool) → (if c then None else Some (with_left puts row.part u)) ≡ Some b → count v Gone + (count v b.left + count v us) ≤ 1
          by true e = absurd (cc)
          by false e = let same : with_left puts row.part u ≡ b = cc in subst (λ (x : Puts). count v Gone + (count v x.left + count v us) ≤ 1) same left

      module _ (least : 3 ≤ a.n) where
        data-puts : (us : List ℕ) → AllByRecursion (λ u. u + 1 < a.n) us → (puts : Puts) (calls : List Call) → Apart us puts → Floors calls →
            Committing P calls (bind (run (putting_data a n row) (map (data_put a n row) us) puts) (data_done a n row rest))
        data-puts [] below puts calls apart h = parity-puts calls puts apart h row.parity
        data-puts (u ∷ us) below puts calls apart h =
            walk-committing P (putting_data a n row) (data_done a n row rest) (data_put a n row u) (map (data_put a n row) us) puts calls (asks-data u calls puts h)
            (λ call is fit b goes. data-puts us below.1 b (call ∷ calls)
            (apart-next u us puts b (put_end call.answer.reply) (subst (λ (v : ℕ). data_put_by a row puts v (put_end call.answer.reply) ≡ Some b) (is-unit least u below.0) goes) apart)
            (put-floors calls call (data_put a n row u) is fit row.part.row a.id n (plain_cell (block_at a row.part u)) refl h))
            (λ call is fit none. on (call ∷ calls) (with_trouble puts (trouble_of row (data_put a n row u) call.answer.reply))
            (put-floors calls call (data_put a n row u) is fit row.part.row a.id n (plain_cell (block_at a row.part u)) refl h))

    module _ (least : 3 ≤ a.n) where
      wanted-below : (row : Row) → AllByRecursion (λ u. u + 1 < a.n) (wanted_units a row)
      wanted-below row =
          all-weaken (λ u. (u < a.n - 1) × (has_unit row.part.mask u ≡ true)) (λ u. u + 1 < a.n) by (wanted_units a row) (units-known a.n (has_unit row.part.mask))
        where
          by : (u : ℕ) → (u < a.n - 1) × (has_unit row.part.mask u ≡ true) → u + 1 < a.n
          by u (below, has) = omega (arith, below)

      apart-first : (row : Row) (v : ℕ) → count v (missing_units (zip (wanted_units a row) row.wanted)) + (0 + count v (granted_of (zip (wanted_units a row) row.wanted))) ≤ 1
      apart-first row v =
          let split = count-split v (wanted_units a row) row.wanted in
          let some = count-filter v (has_unit row.part.mask) (units a.n) in
          let one = count-range v 0 (a.n - 1) in
          omega (arith, split, some, one)

      rows-put : (all rows : List Row) (calls : List Call) (puts : Puts) → Floors calls → Committing P calls (put_rows a n (write_last a n all) rows puts)
      rows-put all [] calls puts h = lasts all calls puts
      rows-put all (row ∷ rows) calls puts h =
          data-puts row (put_rows a n (write_last a n all) rows) (rows-put all rows) least (granted_of (zip (wanted_units a row) row.wanted))
          (all-granted (λ u. u + 1 < a.n) (wanted_units a row) row.wanted (wanted-below row)) (at_row puts) calls (apart-first row) h

  -- A write that is refused, and one that has claimed
  write-refuses : (rows : List Row) (cause : Cause) (calls : List Call) → Committing P calls (refused_steps (write_releases a rows) cause)
  write-refuses rows cause calls =
      run-committing P (λ cs (u : Unit {0}). Unit {0}) (λ cs call u i. tt) releasing (end_as (ends.Refused cause)) (λ cs u e r i. tt) (λ cs u i. tt) (λ cs u e r i. tt)
      (write_releases a rows) (free-holds rows) tt calls tt

  write-stops : (taken : Taken) (e : Errand) (r : Reply) (calls : List Call) → Committing P calls (write_stopped a taken e r)
  write-stops taken e r calls = write-refuses (taken.before ++ taken.row ∷ []) (why (behind_from a.mode a.id) taken e r) calls

  module _ (least : 3 ≤ a.n) where
    write-drawn : (rows : List Row) (calls : List Call) → Floors calls → (d : Result Number Spent) → Committing P calls (write_drawn a rows d)
    write-drawn rows calls h (Err spent) = write-refuses rows (causes.Spent spent.seen) calls
    write-drawn rows calls h (Ok n) = rows-put n least rows rows calls no_puts h

    write-numbers : (mode : Mode) (rows : List Row) (calls : List Call) → Floors calls → Committing P calls (write_numbered mode a rows)
    write-numbers Order rows calls h = rows-put a.id least rows rows calls no_puts h
    write-numbers Lock rows calls h = write-drawn rows calls h

    confirms : (rows left : List Row) (done : Rows) (calls : List Call) → Floors calls → Committing P calls (confirm_rows a rows left done)
    confirms rows [] done calls h = write-numbers a.mode done.rows calls h
    confirms rows (row ∷ left) done calls h =
        run-floors (confirming a row) (row_confirmed a rows row (confirm_rows a rows left)) (confirming-fine row) (λ cs d i. confirms rows left d cs i)
        (λ cs call d e i. write-refuses rows (confirm_cause a row d e call.answer.reply) (call ∷ cs)) (row_confirm a row ∷ [])
        (free (confirm a.id row.part.row (lacks row.others) (parity_bay a.n row.part.row)) tt, tt) done calls h

  -- Shares and claims of a part's row
  module _ (part : RowPart) (rest : Rows → Steps Finish) (on : (calls : List Call) (rows : Rows) → Floors calls → Committing P calls (rest rows)) where
    free-others : (other : RowPart) → AllByRecursion Free (other_shares a other)
    free-others other = all-made Free (share a.id other.row) (λ bay. free (share a.id other.row bay) tt) (bays_of a.n other.row (units_out a.n other.mask))

    free-wanted : (want : Bool) (other : RowPart) → AllByRecursion Free (wanted_claims a want other)
    free-wanted want other = all-made Free (claim a.id other.row Plain 0 want) (λ bay. free (claim a.id other.row Plain 0 want bay) tt) (bays_of a.n other.row (units_in a.n other.mask))

    wanted-claimed : (want : Bool) (taken : Taken) (calls : List Call) → Floors calls → Committing P calls (claim_wanted a rest want taken)
    wanted-claimed want taken calls h =
        run-floors (claiming a with_wanted) (row_claimed a rest) (claiming-fine with_wanted) (λ cs t i. on cs (row_ended t) i) (λ cs call t e i. write-stops t e call.answer.reply (call ∷ cs))
        (wanted_claims a want taken.row.part) (free-wanted want taken.row.part) taken calls h

    others-claimed : (taken : Taken) (lacking : Bool) (calls : List Call) → Floors calls → Committing P calls (share_others a rest taken lacking)
    others-claimed taken false calls h = on calls (row_ended taken) h
    others-claimed taken true calls h =
        run-floors (claiming a with_other) (row_claimed a rest) (claiming-fine with_other) (λ cs t i. on cs (row_ended t) i) (λ cs call t e i. write-stops t e call.answer.reply (call ∷ cs))
        (other_shares a taken.row.part) (free-others taken.row.part) taken calls h

    share-stops : (taken : Taken) (bay : BayNo) (call : Call) (calls : List Call) → Floors calls → (cause : Option Cause) → refusal (behind_from a.mode a.id) taken.missing bay call.answer.reply ≡ cause →
        Committing P (call ∷ calls) (share_stopped a rest taken bay cause)
    share-stops taken bay call calls h (Some cause) e = write-refuses (taken.before ++ taken.row ∷ []) cause (call ∷ calls)
    share-stops taken bay call calls h None e =
        wanted-claimed true (with_grant with_other taken bay None) (call ∷ calls) (floors-more calls call (refusal-fine taken.missing bay call.answer.reply e) h)

    row-begins : (taken : Taken) (grant : Option Grant) (plan : Plan) (calls : List Call) → Floors calls → Committing P calls (claim_row a rest taken grant plan)
    row-begins taken None plan calls h = wanted-claimed false taken calls h
    row-begins taken (Some grant) Full calls h = wanted-claimed false taken calls h
    row-begins taken (Some grant) Small calls h =
        run-floors (claiming a with_wanted) (small_claimed a rest) (claiming-fine with_wanted) (λ cs t i. others-claimed t (lacks t.row.wanted) cs i) (λ cs call t e i. write-stops t e call.answer.reply (call ∷ cs))
        (wanted_claims a true taken.row.part) (free-wanted true taken.row.part) taken calls h
    row-begins taken (Some grant) Reconstruct calls h =
        run-floors (taking_until with_other) (others_shared a rest) (until-fine with_other) (λ cs t i. wanted-claimed false t cs i)
        (λ cs call t e i. share-stops t e.bay call cs i (refusal (behind_from a.mode a.id) t.missing e.bay call.answer.reply) refl)
        (other_shares a taken.row.part) (free-others taken.row.part) taken calls h

    row-claimed : (done : Rows) (calls : List Call) → Floors calls → Committing P calls (bind (run (claiming a with_parity) (parity_claim a part ∷ []) (begun part done)) (parity_claimed a rest))
    row-claimed done calls h =
        run-floors (claiming a with_parity) (parity_claimed a rest) (claiming-fine with_parity) (λ cs t i. row-begins t t.row.parity (plan_of a t.row.part) cs i)
        (λ cs call t e i. write-stops t e call.answer.reply (call ∷ cs)) (parity_claim a part ∷ []) (free (parity_claim a part) tt, tt) (begun part done) calls h

  module _ (least : 3 ≤ a.n) where
    rows-claimed : (left : List RowPart) → (done : Rows) (calls : List Call) → Floors calls → Committing P calls (claim_rows a left done)
    rows-claimed [] done calls h = confirms least done.rows done.rows (record done { rows = [] }) calls h
    rows-claimed (part ∷ left) done calls h = row-claimed part (claim_rows a left) (λ cs rows i. rows-claimed left rows cs i) done calls h

pub writes-rise : (a : Access) → 3 ≤ a.n → Committing (RisesSo a) [] (write_steps a)
writes-rise a least = rows-claimed a least a.parts no_rows [] (λ order. tt)
