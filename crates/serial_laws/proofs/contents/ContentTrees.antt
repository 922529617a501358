-- What rebuilds and recoveries put beside their sums: a rebuild puts its target alone and commits nothing, a recovery puts a block,
-- and a read puts nothing.
use Rattle.std.proofs.Common.{◌≡◌, ◌⊎◌, inl, inr, refl, sym, subst, ℕ, zero, suc, ◌==◌, ◌++◌, Bool, true, false, cond, List, [], ◌∷◌, length, Option, Some, None, IfSome, option_map, unwrap_or, Result, Ok, Err}
use Rattle.std.specs.List.{AllByRecursion}
use Rattle.raid_base.specs.declared.numbers.BayNo.{BayNo}
use Rattle.raid_base.specs.declared.numbers.HostNo.{HostNo}
use Rattle.raid_base.specs.declared.numbers.RowNo.{RowNo}
use Rattle.raid_base.specs.declared.numbers.Number.{Number}
use Rattle.raid_base.specs.declared.numbers.Spent.{Spent}
use Rattle.raid_base.specs.declared.cells.Cell.{Cell}
use Rattle.raid_base.specs.declared.messages.How.TheVariants.{Mend, Seize}
use Rattle.raid_base.specs.declared.messages.Call.{Call}
use Rattle.raid_base.specs.declared.messages.Errand.{Errand}
use Rattle.raid_base.specs.declared.messages.Grant.{Grant}
use Rattle.raid_base.specs.declared.messages.Request.TheVariants.{Put}
use Rattle.raid_base.specs.declared.messages.Reply.TheVariants.{Done}
use Rattle.raid_base.specs.declared.jobs.Cause.{Cause}
use Rattle.raid_base.specs.declared.jobs.Cause.TheVariants as causes
use Rattle.raid_base.specs.declared.jobs.Ended.{Ended}
use Rattle.raid_base.specs.declared.jobs.Ended.TheVariants as ends
use Rattle.raid_base.specs.declared.jobs.PartsFault.{PartsFault}
use Rattle.raid_base.specs.declared.jobs.RowPart.{RowPart}
use Rattle.raid_base.specs.declared.jobs.Task.{Task}
use Rattle.raid_base.specs.declared.jobs.Task.TheVariants as tasks
use Rattle.raid_base.specs.Cells.{zero_cell}
use Rattle.raid_base.specs.Replies.{grant_of, is_done}
use Rattle.raid_base.specs.Steps.{Commit, Steps, Asks, Draws, Ends, bind, go_on, Walk, Through, Stopped, Phase, run}
use Rattle.raid_xor.specs.Laws.{AreBlocks}
use Rattle.stripe_layout.specs.Placement.{parity_bay, bay_of, unit_at, units, parity_first}
use Rattle.degraded_plans.specs.Laws.{cell_of}
use Rattle.degraded_plans.proofs.SoundRows.{parity_blocks}
use Rattle.attempts.specs.declared.Repair.{Repair}
use Rattle.attempts.specs.declared.Rescue.{Rescue}
use Rattle.attempts.specs.declared.Hold.{Hold}
use Rattle.attempts.specs.Taking.{Access, Finish, Row, no_rows, Taken, begun, with_grant, with_parity, with_wanted, grant_or_gap, unless, refusal, taking, why, claim, claims, confirm}
use Rattle.attempts.specs.Reading.{cell_in, cells_in}
use Rattle.attempts.specs.Releases.{release, releases, releasing, end_as, released_steps, refused_steps, parity_granted}
use Rattle.attempts.specs.Puts.{put}
use Rattle.attempts.specs.Mending.{is_shown, with_hold, mending, mend_why, mend_releases, mended_cell, put_cause, mend_putting, mend_put, mend_numbered, mend_drawn, mend_confirming, mend_confirmed, mend_claimed, mend_steps}
use Rattle.attempts.specs.Recovery.{whole_part, unseized_data, unseized_parity, granted_data, give_back, recover_refused, Verdict, Leaves, Sums, verdict, recovered_parity, recover_putting, closing, recover_put, recover_by, recover_drawn, stays, recover_confirming, recover_confirmed, units_seized, seize_units, parity_taken, parity_seized, recover_steps}
use Rattle.attempts.specs.Phases.{Past, IsIn, after, after_asking, after_number, number_of, begins, Keeps, HasOnlyRead}
use Rattle.attempts.specs.Sound.{Cells, role_cell, cell_on, IsThis, GrantShows, IfPut, Showing}
use Rattle.attempts.proofs.RoomLemmas.{all-append, all-made}
use Rattle.attempts.proofs.SoundLemmas.{shows-units, shows-one, shows-any}
use Rattle.attempts.proofs.ReadPhases.{reads_keep_phases}
use Rattle.script_text.specs.Script.{Script, parts_of}
use Rattle.histories.specs.Progress.{access, attempt, read_of}
use Rattle.row_laws.proofs.owners.RowOwnersTrees.{Asking}
use Rattle.row_laws.proofs.owners.OwnedPuts.{none-put}
use Rattle.serial_laws.proofs.contents.CommittingTrees.{Committing}

-- Reads: no put
abbrev pub PutsNone : List Call → Errand → Type 0
PutsNone calls e = (row : RowNo) (id k : Number) (cell : Cell) → e.request ≡ Put row id k cell → ⊥

module _ (n : ℕ) (id : Number) where
  reading-none : (past : Past) (s : Steps Finish) → Keeps n id HasOnlyRead past s → (calls : List Call) → Asking PutsNone calls s
  reading-none past (Ends f) h calls = tt
  reading-none past (Draws k) h calls = λ d. reading-none (after_number past d) (k d) (h.2 d) calls
  reading-none past (Asks e stop commits k) h calls = (
    λ row by m cell is.
        (let first : IsIn (record { bay = e.bay; row = row }) (after_asking past e.bay e.request Done).put =
        subst (λ (w : _). IsIn (record { bay = e.bay; row = row }) (after_asking past e.bay w Done).put) (sym is) (inl refl) in
        none-put n id (after past e Done) (k Done) (h.1 Done) (record { bay = e.bay; row = row }) first),
    λ call is fit. reading-none (after past e call.answer.reply) (k call.answer.reply) (h.1 call.answer.reply) (call ∷ calls),
  )

reads-none : (script : Script) (id : Number) (r : Result (List RowPart) PartsFault) → Asking PutsNone [] (read_of script id r)
reads-none script id (Ok parts) =
    let a : Access = access script id parts [] in
    reading-none a.n a.id (begins (number_of a.mode a.id)) (read_of script id (Ok parts)) (reads_keep_phases a) []
reads-none script id (Err fault) = tt

-- an attempt that may put: a write, a rebuild or a recovery
pub data MayPut (task : Task) : Type 0 where
  Writes : (object : _) (first from count : ℕ) (is : task ≡ tasks.Write object first from count) → MayPut task
  Rebuilds : (bay : BayNo) (is : task ≡ tasks.Rebuild bay) → MayPut task
  Recovers : (row : RowNo) (is : task ≡ tasks.Recover row) → MayPut task

pub may-put-or : (script : Script) (host : HostNo) (id : Number) (row : ℕ) (task : Task) → MayPut task ⊎ Asking PutsNone [] (attempt script host id row task)
may-put-or script host id row (tasks.Write object first from count) = inl (Writes object first from count refl)
may-put-or script host id row (tasks.Rebuild bay) = inl (Rebuilds bay refl)
may-put-or script host id row (tasks.Recover at) = inl (Recovers at refl)
may-put-or script host id row (tasks.Read object first count) = inr (reads-none script id (parts_of script object first count))
may-put-or script host id row (tasks.Lose bay) = inr tt
may-put-or script host id row (tasks.Fit bay) = inr tt

-- Rebuilds: whatever a walk gives
module _ (P : List Call → Errand → List Commit → Type 0) where
  commit-go : {A : Type 0} (calls : List Call) (o : Option A) (g : A → Steps (Walk A)) (s : Steps (Walk A)) (f : Walk A → Steps Finish) →
      ((a : A) → Committing P calls (bind (g a) f)) → Committing P calls (bind s f) → Committing P calls (bind (go_on o g s) f)
  commit-go calls (Some a) g s f on off = on a
  commit-go calls None g s f on off = off

  commit-run : {A : Type 0} (phase : Phase A) (f : Walk A → Steps Finish) → ((calls : List Call) (walk : Walk A) → Committing P calls (f walk)) →
      (es : List Errand) → AllByRecursion (λ (e : Errand). (calls : List Call) (a : A) → P calls e (phase.commits a e)) es → (a : A) (calls : List Call) → Committing P calls (bind (run phase es a) f)
  commit-run phase f on [] so a calls = on calls (Through a)
  commit-run phase f on (e ∷ es) so a calls = (
    so.0 calls a,
    λ call is fit. commit-go (call ∷ calls) (phase.step a e call.answer.reply) (λ b. run phase es b) (Ends (Stopped a e call.answer.reply)) f
        (λ b. commit-run phase f on es so.1 b (call ∷ calls)) (on (call ∷ calls) (Stopped a e call.answer.reply)),
  )

-- a rebuild commits nothing, and puts its target
pub record MendPuts (m : Repair) (calls : List Call) (e : Errand) (commits : List Commit) : Type 0 where
  pub none : commits ≡ []
  pub target : (row : RowNo) (id k : Number) (cell : Cell) → e.request ≡ Put row id k cell → e.bay ≡ m.target

module _ (m : Repair) where
  abbrev Mends : Steps Finish → Type 0
  Mends s = (calls : List Call) → Committing (MendPuts m) calls s

  mend-released : (bays : List BayNo) (last : Ended) → Mends (released_steps (releases m.id m.row None bays) last)
  mend-released bays last calls =
      commit-run (MendPuts m) releasing (end_as last) (λ cs walk. tt) (releases m.id m.row None bays)
      (all-made (λ (e : Errand). (cs : List Call) (u : Unit {0}) → MendPuts m cs e []) (release m.id m.row None) (λ bay cs u. record { none = refl; target = λ row id k cell is. absurd (cc) }) bays) tt calls

  mend-refused : (holds : List Hold) (cause : Cause) → Mends (refused_steps (mend_releases m holds) cause)
  mend-refused holds cause calls = mend-released _ (ends.Refused cause) calls

  mend-puts : (holds : List Hold) (walk : Walk (Unit {0})) → Mends (mend_put m holds walk)
  mend-puts holds (Through u) calls = mend-released _ ends.Mended calls
  mend-puts holds (Stopped u e r) calls = mend-refused holds (put_cause m.row e r) calls

  mend-numbered : (holds : List Hold) (n : Number) (shown : Bool) → Mends (mend_numbered m holds n shown)
  mend-numbered holds n true calls = mend-released _ ends.Mended calls
  mend-numbered holds n false calls =
      commit-run (MendPuts m) mend_putting (mend_put m holds) (λ cs walk. mend-puts holds walk cs) (put m.id m.row n (mended_cell m holds) m.target ∷ [])
      ((λ cs u. record { none = refl; target = λ row id k cell is. refl }), tt) tt calls

  mend-drawn : (holds : List Hold) (d : Result Number Spent) → Mends (mend_drawn m holds d)
  mend-drawn holds (Err spent) calls = mend-refused holds (causes.Spent spent.seen) calls
  mend-drawn holds (Ok n) calls = mend-numbered holds n (is_shown m.target holds) calls

  mend-confirmed : (holds : List Hold) (walk : Walk (Unit {0})) → Mends (mend_confirmed m holds walk)
  mend-confirmed holds (Stopped u e r) calls = mend-refused holds (mend_why e r (causes.Changed m.row)) calls
  mend-confirmed holds (Through u) calls = λ d. mend-drawn holds d calls

  mend-claimed : (walk : Walk (List Hold)) → Mends (mend_claimed m walk)
  mend-claimed (Stopped holds e r) calls = mend-refused (with_hold holds e.bay (grant_of r)) (mend_why e r (causes.Gone e.bay)) calls
  mend-claimed (Through holds) calls =
      commit-run (MendPuts m) mend_confirming (mend_confirmed m holds) (λ cs walk. mend-confirmed holds walk cs) (confirm m.id m.row false (parity_bay m.n m.row) ∷ [])
      ((λ cs u. record { none = refl; target = λ row id k cell is. absurd (cc) }), tt) tt calls

  pub mends-put : Committing (MendPuts m) [] (mend_steps m)
  mends-put =
      commit-run (MendPuts m) (mending m) (mend_claimed m) (λ cs walk. mend-claimed walk cs) (claims m.id m.row Mend true (parity_first m.n m.row))
      (all-made (λ (e : Errand). (cs : List Call) (holds : List Hold) → MendPuts m cs e []) (claim m.id m.row Mend 0 true)
      (λ bay cs holds. record { none = refl; target = λ row id k cell is. absurd (cc) }) (parity_first m.n m.row)) [] []

-- Recoveries: the parity is a block where all cells are
long-at : (cells : List Cell) (unit : ℕ) → AreBlocks cells → length (cell_of cells unit).bytes ≡ 64
long-at [] unit blocks = refl
long-at (cell ∷ cells) zero blocks = blocks.0
long-at (cell ∷ cells) (suc unit) blocks = long-at cells unit blocks.1

long-on : (n : ℕ) (cells : Cells) (row : RowNo) (bay : BayNo) → AreBlocks (cells.parity row ∷ cells.units row) → length (cell_on n cells bay row).bytes ≡ 64
long-on n cells row bay blocks = by (unit_at n row bay)
  where
    by : (o : Option ℕ) → length (role_cell (cells.parity row) (cells.units row) o).bytes ≡ 64
    by None = blocks.0
    by (Some unit) = long-at (cells.units row) unit blocks.1

abbrev pub PutsBlock : Errand → List Commit → Type 0
PutsBlock e commits = IfPut (λ row cell. length cell.bytes ≡ 64) e.request

abbrev IsLong : Option Grant → Type 0
IsLong None = Unit {0}
IsLong (Some grant) = length (cell_in grant).bytes ≡ 64

module _ (r : Rescue) (cells : Cells) (blocks : AreBlocks (cells.parity r.row ∷ cells.units r.row)) where
  abbrev SumsUp : Steps Finish → Type 0
  SumsUp s = Showing r.n cells PutsBlock (λ (finish : Finish). Unit {0}) s

  given-back : (bays : List BayNo) (ended : Ended) → SumsUp (released_steps (give_back r bays) ended)
  given-back bays ended =
      shows-any r.n cells PutsBlock (λ (finish : Finish). Unit {0}) releasing (end_as ended) (give_back r bays) tt
      (all-made (λ (e : Errand). (u : Unit {0}) → PutsBlock e []) (release r.id r.row None) (λ at u. tt) bays)
      (λ walk. tt)

  refuses : (row : Row) (cause : Cause) → SumsUp (recover_refused r row cause)
  refuses row cause = given-back (unseized_data r row ++ unseized_parity r row.parity) (ends.Refused cause)

  abbrev AreLong : Row → Type 0
  AreLong row = AllByRecursion IsLong row.wanted

  all-long : (os : List (Option Grant)) → AllByRecursion IsLong os → AreBlocks (cells_in os)
  all-long [] long = tt
  all-long (None ∷ os) long = all-long os long.1
  all-long (Some grant ∷ os) long = (long.0, all-long os long.1)

  parity-long : (row : Row) (lost : Option ℕ) → AreLong row → length (recovered_parity row lost).bytes ≡ 64
  parity-long row None long = (parity_blocks (cells_in row.wanted) (all-long row.wanted long)).0
  parity-long row (Some unit) long = (parity_blocks (cells_in row.wanted) (all-long row.wanted long)).0

  has-put : (row : Row) (n : Number) (lost : Option ℕ) (walk : Walk (Unit {0})) → SumsUp (recover_put r row n lost walk)
  has-put row n lost (Stopped u e reply) = given-back (unseized_data r row) (ends.Refused (put_cause r.row e reply))
  has-put row n lost (Through u) =
      shows-any r.n cells PutsBlock (λ (finish : Finish). Unit {0}) (closing n lost) (end_as (ends.Recovered n true lost)) (give_back r (granted_data r row)) tt
      (all-made (λ (e : Errand). (u : Unit {0}) → PutsBlock e []) (release r.id r.row None) (λ at u. tt) (granted_data r row))
      (λ walk. tt)

  by-verdict : (row : Row) (n : Number) → AreLong row → (v : Verdict) → SumsUp (recover_by r row n v)
  by-verdict row n long Leaves = given-back (granted_data r row ++ parity_granted r.n r.row row.parity) (ends.Recovered n true None)
  by-verdict row n long (Sums lost) =
      shows-one r.n cells PutsBlock (λ (finish : Finish). Unit {0}) (recover_putting r lost) (recover_put r row n lost)
      (put r.id r.row n (recovered_parity row lost) (parity_bay r.n r.row)) tt
      (parity-long row lost long)
      (λ reply s. given (is_done reply))
      (λ reply s. has-put row n lost (Stopped tt (put r.id r.row n (recovered_parity row lost) (parity_bay r.n r.row)) reply))
    where
      given : (b : Bool) → IfSome (cond b (Some tt) None) (λ (u : Unit {0}). SumsUp (recover_put r row n lost (Through u)))
      given true = has-put row n lost (Through tt)
      given false = tt

  has-drawn : (row : Row) → AreLong row → (d : Result Number Spent) → SumsUp (recover_drawn r row d)
  has-drawn row long (Err spent) = refuses row (causes.Spent spent.seen)
  has-drawn row long (Ok n) = by-verdict row n long (verdict r row)

  confirms : (taken : Taken) → AreLong taken.row → SumsUp (units_seized r (Through taken))
  confirms taken long =
      shows-one r.n cells PutsBlock (λ (finish : Finish). Unit {0}) (recover_confirming taken) (recover_confirmed r taken)
      (confirm r.id r.row false (parity_bay r.n r.row)) tt tt
      (λ reply s. given (stays taken (parity_bay r.n r.row) reply))
      (λ reply s. refuses taken.row _)
    where
      given : (b : Bool) → IfSome (cond b (Some tt) None) (λ (u : Unit {0}). SumsUp (recover_confirmed r taken (Through u)))
      given true = λ d. has-drawn taken.row long d
      given false = tt

  shown-long : (cell : Cell) → length cell.bytes ≡ 64 → (o : Option Cell) → IsThis cell o → length (unwrap_or o zero_cell).bytes ≡ 64
  shown-long cell long None is = refl
  shown-long cell long (Some other) is = subst (λ (c : Cell). length c.bytes ≡ 64) (sym is) long

  unit-more : (taken : Taken) (bay : BayNo) → AreLong taken.row → (c : Option Cause) (o : Option Grant) → GrantShows (cell_on r.n cells bay r.row) o →
      IfSome (option_map (with_grant with_wanted taken bay) (unless c o)) (λ (t : Taken). AreLong t.row)
  unit-more taken bay long (Some cause) o s = tt
  unit-more taken bay long None None s = all-append IsLong taken.row.wanted (None ∷ []) long (tt, tt)
  unit-more taken bay long None (Some grant) s =
      all-append IsLong taken.row.wanted (Some grant ∷ []) long (shown-long (cell_on r.n cells bay r.row) (long-on r.n cells r.row bay blocks) grant.cell s, tt)

  seizes : (taken : Taken) → AreLong taken.row → SumsUp (seize_units r taken)
  seizes taken long =
      shows-units r.n cells PutsBlock (λ (finish : Finish). Unit {0}) (bay_of r.n r.row) (claim r.id r.row Seize 0 true) (λ us (t : Taken). AreLong t.row) (taking None with_wanted) (units_seized r)
      (λ u us t l. tt)
      (λ u us t reply l s. unit-more t (bay_of r.n r.row u) l (refusal None t.missing (bay_of r.n r.row u) reply) (grant_of reply) s.cell)
      confirms
      (λ u us t reply l s. refuses t.row (why None t (claim r.id r.row Seize 0 true (bay_of r.n r.row u)) reply))
      (units r.n) taken long

  takes-parity : (taken : Taken) → AreLong taken.row → (o : Option Grant) → SumsUp (parity_taken r taken o)
  takes-parity taken long (Some grant) = seizes taken long
  takes-parity taken long None = by (r.host.0 == 0)
    where
      by : (b : Bool) → SumsUp (cond b (seize_units r taken) (recover_refused r taken.row (causes.Gone (parity_bay r.n r.row))))
      by true = seizes taken long
      by false = refuses taken.row (causes.Gone (parity_bay r.n r.row))

  abbrev first_claim : Errand
  first_claim = claim r.id r.row Seize 0 true (parity_bay r.n r.row)

  abbrev first_taken : Taken
  first_taken = begun (whole_part r) no_rows

  pub recoveries-put-blocks : SumsUp (recover_steps r)
  recoveries-put-blocks =
      shows-one r.n cells PutsBlock (λ (finish : Finish). Unit {0}) (taking None with_parity) (parity_seized r) first_claim first_taken tt
      (λ reply s. given (grant_or_gap None first_taken.missing (parity_bay r.n r.row) reply))
      (λ reply s. refuses first_taken.row (why None first_taken first_claim reply))
    where
      given : (o : Option (Option Grant)) → IfSome (option_map (with_grant with_parity first_taken (parity_bay r.n r.row)) o) (λ (taken : Taken). SumsUp (parity_seized r (Through taken)))
      given None = tt
      given (Some None) = takes-parity (with_grant with_parity first_taken (parity_bay r.n r.row) None) tt None
      given (Some (Some grant)) = takes-parity (with_grant with_parity first_taken (parity_bay r.n r.row) (Some grant)) tt (Some grant)
