-- A read wants the cell of each slot that it shares, and no other attempt releases with a number.
use Rattle.std.proofs.Common.{◌≡◌, inl, inr, Bool, true, false, List, [], ◌∷◌, ◌++◌, map, flat_map, Option, Some, None, Result, Ok, Err, refl, subst}
use Rattle.std.specs.List.{AllByRecursion}
use Rattle.raid_base.specs.declared.numbers.BayNo.{BayNo}
use Rattle.raid_base.specs.declared.numbers.HostNo.{HostNo}
use Rattle.raid_base.specs.declared.numbers.RowNo.{RowNo}
use Rattle.raid_base.specs.declared.numbers.Number.{Number}
use Rattle.raid_base.specs.declared.numbers.Spent.{Spent}
use Rattle.raid_base.specs.declared.messages.Call.{Call}
use Rattle.raid_base.specs.declared.messages.Mode.{Mode}
use Rattle.raid_base.specs.declared.messages.Mode.TheVariants.{Lock, Order}
use Rattle.raid_base.specs.declared.messages.Request.{Request}
use Rattle.raid_base.specs.declared.messages.Request.TheVariants.{Share, Claim, Confirm, Put, Release, Lose, Fit}
use Rattle.raid_base.specs.declared.messages.Reply.{Reply}
use Rattle.raid_base.specs.declared.messages.Errand.{Errand}
use Rattle.raid_base.specs.declared.jobs.Cause.TheVariants as causes
use Rattle.raid_base.specs.declared.jobs.Ended.{Ended}
use Rattle.raid_base.specs.declared.jobs.Ended.TheVariants as ends
use Rattle.raid_base.specs.declared.jobs.RowPart.{RowPart}
use Rattle.raid_base.specs.declared.jobs.PartsFault.{PartsFault}
use Rattle.raid_base.specs.declared.jobs.Task.{Task}
use Rattle.raid_base.specs.declared.jobs.Task.TheVariants as tasks
use Rattle.raid_base.specs.Numbers.{draw, seen_drawn, sees}
use Rattle.raid_base.specs.Steps.{Steps, Asks, Draws, Ends, Standing, bind, go_on, Walk, Through, Stopped, Phase, run, settled, behind, next_errand, errand_of}
use Rattle.stripe_layout.specs.Placement.{parity_bay, bays_of, units_in, units_out}
use Rattle.attempts.specs.Taking.{Access, Finish, Row, Rows, no_rows, Taken, begun, row_ended, with_parity, with_wanted, with_other, lacks, behind_from, why, share, shares}
use Rattle.attempts.specs.Phases.{IsIn}
use Rattle.attempts.specs.Releases.{release, releases, releasing, end_as, released_steps, read_holds, read_releases}
use Rattle.attempts.specs.Reading.{sharing, read_refused, row_readers, numbered_releases, freeing, read_freed, read_drawn, read_numbered, row_shared, parity_shared, share_rest, wanted_shared, read_rows, read_steps}
use Rattle.script_text.specs.Script.{Script, parts_of}
use Rattle.histories.specs.Hands.{Led}
use Rattle.histories.specs.Progress.{Progress, access, attempt, read_of}
use Rattle.histories.specs.History.{progress_at}
use Rattle.row_laws.specs.Hands.{HasHand, calls_at}
use Rattle.histories.proofs.accesses.AccessTrees.{IsAsked, EachAsked, is_reading, attempt-asked}

-- the request of an attempt that reads or not
abbrev pub IsWanting : Bool → Request → Type 0
IsWanting reading (Share row by want) = reading ≡ true → want ≡ true
IsWanting reading (Claim row by how mask want) = Unit {0}
IsWanting reading (Confirm row by want) = Unit {0}
IsWanting reading (Put row by n cell) = Unit {0}
IsWanting reading (Release row by n) = reading ≡ false → n ≡ None
IsWanting reading Lose = Unit {0}
IsWanting reading Fit = Unit {0}

-- Whatever the replies and the numbers drawn: each request is such.
abbrev pub EachWanting : Bool → Steps Finish → Type 0
EachWanting reading (Ends f) = Unit {0}
EachWanting reading (Draws k) = (d : Result Number Spent) → EachWanting reading (k d)
EachWanting reading (Asks e s c k) = IsWanting reading e.request × ((r : Reply) → EachWanting reading (k r))

-- attempts that are no reads
asked-wants : (id : Number) (what : Request) → IsAsked false id what → IsWanting false what
asked-wants id (Share row by want) h = λ e. absurd (let bad : false ≡ true = e in cc)
asked-wants id (Claim row by how mask want) h = tt
asked-wants id (Confirm row by want) h = tt
asked-wants id (Put row by n cell) h = tt
asked-wants id (Release row by n) h = h.1
asked-wants id Lose h = tt
asked-wants id Fit h = tt

plain-wants : (id : Number) (s : Steps Finish) → EachAsked false id s → EachWanting false s
plain-wants id (Asks e t c k) h = (asked-wants id e.request h.0, λ r. plain-wants id (k r) (h.1 r))
plain-wants id (Draws k) h = λ d. plain-wants id (k d) (h d)
plain-wants id (Ends f) h = tt

-- Walks of reads
abbrev AllWant : List Errand → Type 0
AllWant es = AllByRecursion (λ (e : Errand). IsWanting true e.request) es

want-map : {X : Type 0} (make : X → Errand) → ((x : X) → IsWanting true (make x).request) → (xs : List X) → AllWant (map make xs)
want-map make own [] = tt
want-map make own (x ∷ xs) = (own x, want-map make own xs)

want-append : (es ds : List Errand) → AllWant es → AllWant ds → AllWant (es ++ ds)
want-append [] ds own more = more
want-append (e ∷ es) ds own more = (own.0, want-append es ds own.1 more)

want-flat : {X : Type 0} (make : X → List Errand) → ((x : X) → AllWant (make x)) → (xs : List X) → AllWant (flat_map make xs)
want-flat make own [] = tt
want-flat make own (x ∷ xs) = want-append (make x) (flat_map make xs) (own x) (want-flat make own xs)

want-shares : (id : Number) (row : RowNo) (bays : List BayNo) → AllWant (shares id row bays)
want-shares id row bays = want-map (share id row) (λ bay e. refl) bays

want-releases : (id : Number) (row : RowNo) (n : Option Number) (bays : List BayNo) → AllWant (releases id row n bays)
want-releases id row n bays = want-map (release id row n) (λ bay e. absurd (let bad : true ≡ false = e in cc)) bays

module _ {A : Type 0} where
  want-go : (o : Option A) (g : A → Steps (Walk A)) (s : Steps (Walk A)) (f : Walk A → Steps Finish) →
      ((a : A) → EachWanting true (bind (g a) f)) → EachWanting true (bind s f) → EachWanting true (bind (go_on o g s) f)
  want-go (Some a) g s f on off = on a
  want-go None g s f on off = off

  -- whatever the walk gives
  want-run : (phase : Phase A) (f : Walk A → Steps Finish) → ((walk : Walk A) → EachWanting true (f walk)) → (es : List Errand) → AllWant es → (a : A) → EachWanting true (bind (run phase es a) f)
  want-run phase f on [] own a = on (Through a)
  want-run phase f on (e ∷ es) own a =
      (own.0, λ r. want-go (phase.step a e r) (λ b. run phase es b) (Ends (Stopped a e r)) f (λ b. want-run phase f on es own.1 b) (on (Stopped a e r)))

want-released : (es : List Errand) (ended : Ended) → AllWant es → EachWanting true (released_steps es ended)
want-released es ended own = want-run releasing (end_as ended) (λ walk. tt) es own tt

module _ (a : Access) where
  want-read-releases : (rows : List Row) → AllWant (read_releases a rows)
  want-read-releases rows =
      want-flat (λ (row : Row). releases a.id row.part.row None (read_holds a.mode a.n row))
      (λ row. want-releases a.id row.part.row None (read_holds a.mode a.n row)) rows

  want-numbered : (n : Number) (rows : List Row) → AllWant (numbered_releases a n rows)
  want-numbered n rows =
      want-flat (λ (row : Row). releases a.id row.part.row (Some n) (row_readers a.n row))
      (λ row. want-releases a.id row.part.row (Some n) (row_readers a.n row)) rows

  freed : (n : Number) (rows : List Row) (walk : Walk (Option RowNo)) → EachWanting true (read_freed a n rows walk)
  freed n rows (Through None) = tt
  freed n rows (Through (Some row)) = tt
  freed n rows (Stopped row e r) = tt

  read-drawn : (rows : List Row) (d : Result Number Spent) → EachWanting true (read_drawn a rows d)
  read-drawn rows (Err spent) = want-released (read_releases a rows) (ends.Refused (causes.Spent spent.seen)) (want-read-releases rows)
  read-drawn rows (Ok n) = want-run freeing (read_freed a n rows) (freed n rows) (numbered_releases a n rows) (want-numbered n rows) None

  read-numbered : (mode : Mode) (rows : List Row) → EachWanting true (read_numbered mode a rows)
  read-numbered Order rows = tt
  read-numbered Lock rows = read-drawn rows

  read-stopped : (taken : Taken) (e : Errand) (r : Reply) → EachWanting true (read_refused a taken e r)
  read-stopped taken e r =
      want-released (read_releases a (taken.before ++ taken.row ∷ [])) (ends.Refused (why (behind_from a.mode a.id) taken e r))
      (want-read-releases (taken.before ++ taken.row ∷ []))

  module _ (rest : Rows → Steps Finish) (on : (rows : Rows) → EachWanting true (rest rows)) where
    row-shares : (walk : Walk Taken) → EachWanting true (row_shared a rest walk)
    row-shares (Through taken) = on (row_ended taken)
    row-shares (Stopped taken e r) = read-stopped taken e r

    parity-shares : (walk : Walk Taken) → EachWanting true (parity_shared a rest walk)
    parity-shares (Stopped taken e r) = read-stopped taken e r
    parity-shares (Through taken) =
        want-run (sharing a with_other) (row_shared a rest) row-shares
        (shares a.id taken.row.part.row (bays_of a.n taken.row.part.row (units_out a.n taken.row.part.mask)))
        (want-shares a.id taken.row.part.row (bays_of a.n taken.row.part.row (units_out a.n taken.row.part.mask))) taken

    rest-shares : (taken : Taken) (lacking : Bool) → EachWanting true (share_rest a rest taken lacking)
    rest-shares taken false = on (row_ended taken)
    rest-shares taken true =
        want-run (sharing a with_parity) (parity_shared a rest) parity-shares
        (share a.id taken.row.part.row (parity_bay a.n taken.row.part.row) ∷ []) (λ e. refl, tt) taken

    wanted-shares : (walk : Walk Taken) → EachWanting true (wanted_shared a rest walk)
    wanted-shares (Stopped taken e r) = read-stopped taken e r
    wanted-shares (Through taken) = rest-shares taken (lacks taken.row.wanted)

  rows-read : (left : List RowPart) (done : Rows) → EachWanting true (read_rows a left done)
  rows-read [] done = read-numbered a.mode done.rows
  rows-read (part ∷ left) done =
      want-run (sharing a with_wanted) (wanted_shared a (read_rows a left)) (wanted-shares (read_rows a left) (rows-read left))
      (shares a.id part.row (bays_of a.n part.row (units_in a.n part.mask)))
      (want-shares a.id part.row (bays_of a.n part.row (units_in a.n part.mask))) (begun part done)

  reads-want : EachWanting true (read_steps a)
  reads-want = rows-read a.parts no_rows

module _ (script : Script) (host : HostNo) (id : Number) where
  read-wants : (r : Result (List RowPart) PartsFault) → EachWanting true (read_of script id r)
  read-wants (Ok parts) = reads-want (access script id parts [])
  read-wants (Err fault) = tt

  -- an attempt of a task
  attempt-wants : (row : _) (task : Task) → EachWanting (is_reading task) (attempt script host id row task)
  attempt-wants row (tasks.Read object first count) = read-wants (parts_of script object first count)
  attempt-wants row (tasks.Write object first from count) =
      plain-wants id (attempt script host id row (tasks.Write object first from count)) (attempt-asked script host id row (tasks.Write object first from count))
  attempt-wants row (tasks.Recover at) = plain-wants id (attempt script host id row (tasks.Recover at)) (attempt-asked script host id row (tasks.Recover at))
  attempt-wants row (tasks.Rebuild bay) = plain-wants id (attempt script host id row (tasks.Rebuild bay)) (attempt-asked script host id row (tasks.Rebuild bay))
  attempt-wants row (tasks.Lose bay) = tt
  attempt-wants row (tasks.Fit bay) = tt

-- Along the calls of an attempt
module _ (reading : Bool) (host : HostNo) where
  settled-wants : (seen : Number) (s : Steps Finish) → EachWanting reading s → EachWanting reading (settled host seen s).steps
  settled-wants seen (Asks e t c k) h = h
  settled-wants seen (Draws k) h = settled-wants (seen_drawn seen (draw host seen)) (k (draw host seen)) (h (draw host seen))
  settled-wants seen (Ends f) h = h

  next-wants : (s : Steps Finish) (e : Errand) → EachWanting reading s → next_errand s ≡ Some e → IsWanting reading e.request
  next-wants (Asks first t c k) e h asked = let same : first ≡ e = cc in subst (λ (x : Errand). IsWanting reading x.request) same h.0
  next-wants (Draws k) e h asked = absurd (cc)
  next-wants (Ends f) e h asked = absurd (cc)

  behind-wants : (s : Steps Finish) (r : Reply) → EachWanting reading s → EachWanting reading (behind s r)
  behind-wants (Asks e t c k) r h = h.1 r
  behind-wants (Draws k) r h = h
  behind-wants (Ends f) r h = h

  led-wants : (start : Standing Finish) (calls : List Call) (now : Standing Finish) → EachWanting reading start.steps → Led host start calls now →
      EachWanting reading now.steps × AllByRecursion (λ (call : Call). IsWanting reading call.ask.what) calls
  led-wants start [] now h led = (subst (λ (x : Standing Finish). EachWanting reading x.steps) led h, tt)
  led-wants start (call ∷ earlier) now h (before, led, asked, fit, later) =
      let so_far = led-wants start earlier before h led in
      let next = settled-wants (sees before.seen call.answer.reply) (behind before.steps call.answer.reply) (behind-wants before.steps call.answer.reply so_far.0) in
      (subst (λ (x : Standing Finish). EachWanting reading x.steps) later next, (next-wants before.steps (errand_of call) so_far.0 asked, so_far.1))

all-want : (reading : Bool) (calls : List Call) → AllByRecursion (λ (call : Call). IsWanting reading call.ask.what) calls → (c : Call) → IsIn c calls → IsWanting reading c.ask.what
all-want reading [] h c i = absurd i
all-want reading (call ∷ calls) h c (inl same) = subst (λ (x : Call). IsWanting reading x.ask.what) same h.0
all-want reading (call ∷ calls) h c (inr i) = all-want reading calls h.1 c i

-- An attempt in hand that releases with a number next has wanted the cell of each slot that it shared.
pub shares-want : (script : Script) (history : List Call) (host : HostNo) (steps : Steps Finish) (h : HasHand script history host steps) (call : Call) → next_errand steps ≡ Some (errand_of call) →
    (row : RowNo) (by n : Number) → call.ask.what ≡ Release row by (Some n) → (c : Call) → IsIn c (calls_at script history host) → (r : RowNo) (id : Number) (want : Bool) → c.ask.what ≡ Share r id want → want ≡ true
shares-want script history host steps h call asked row by n what c i r id want shares = decide (is_reading h.hand.task) refl
  where
    p : Progress
    p = progress_at script host history

    all : EachWanting (is_reading h.hand.task) steps × AllByRecursion (λ (call : Call). IsWanting (is_reading h.hand.task) call.ask.what) (calls_at script history host)
    all =
        let s : Steps Finish = attempt script host h.hand.id p.row h.hand.task in
        led-wants (is_reading h.hand.task) host (settled host h.hand.id s) p.calls (record { seen = p.seen; steps = steps })
        (settled-wants (is_reading h.hand.task) host h.hand.id s (attempt-wants script host h.hand.id p.row h.hand.task)) h.hand.led

    decide : (b : Bool) → is_reading h.hand.task ≡ b → want ≡ true
    decide true e = subst (λ (w : Request). IsWanting (is_reading h.hand.task) w) shares (all-want (is_reading h.hand.task) p.calls all.1 c i) e
    decide false e =
        let none : Some n ≡ None = subst (λ (w : Request). IsWanting (is_reading h.hand.task) w) what (next-wants (is_reading h.hand.task) host steps (errand_of call) all.0 asked) e in
        absurd (cc)
