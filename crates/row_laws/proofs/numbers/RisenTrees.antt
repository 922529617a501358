-- A release with a number has the number that its attempt has drawn.
use Rattle.std.proofs.Common.{◌≡◌, Bool, true, false, List, [], ◌∷◌, ◌++◌, map, flat_map, Option, Some, None, Result, Ok, Err, refl, sym, subst, ◌∙◌}
use Rattle.std.specs.List.{AllByRecursion}
use Rattle.raid_base.specs.declared.numbers.BayNo.{BayNo}
use Rattle.raid_base.specs.declared.numbers.HostNo.{HostNo}
use Rattle.raid_base.specs.declared.numbers.RowNo.{RowNo}
use Rattle.raid_base.specs.declared.numbers.Number.{Number}
use Rattle.raid_base.specs.declared.numbers.Spent.{Spent}
use Rattle.raid_base.specs.declared.messages.Mode.{Mode}
use Rattle.raid_base.specs.declared.messages.Mode.TheVariants.{Lock, Order}
use Rattle.raid_base.specs.declared.messages.Request.{Request}
use Rattle.raid_base.specs.declared.messages.Request.TheVariants.{Share, Claim, Confirm, Put, Release, Lose, Fit}
use Rattle.raid_base.specs.declared.messages.Reply.{Reply}
use Rattle.raid_base.specs.declared.messages.Errand.{Errand}
use Rattle.raid_base.specs.declared.jobs.Cause.TheVariants as causes
use Rattle.raid_base.specs.declared.jobs.Ended.{Ended}
use Rattle.raid_base.specs.declared.jobs.Ended.TheVariants as ends
use Rattle.raid_base.specs.declared.jobs.RowPart.{RowPart}
use Rattle.raid_base.specs.declared.jobs.PartsFault.{PartsFault}
use Rattle.raid_base.specs.declared.jobs.Task.{Task}
use Rattle.raid_base.specs.declared.jobs.Task.TheVariants as tasks
use Rattle.raid_base.specs.Steps.{Steps, Asks, Draws, Ends, bind, go_on, Walk, Through, Stopped, Phase, run, next_errand}
use Rattle.stripe_layout.specs.Placement.{parity_bay, bays_of, units_in, units_out}
use Rattle.attempts.specs.Taking.{Access, Finish, Row, Rows, no_rows, Taken, begun, row_ended, with_parity, with_wanted, with_other, lacks, behind_from, why, share, shares}
use Rattle.attempts.specs.Releases.{release, releases, releasing, end_as, released_steps, read_holds, read_releases}
use Rattle.attempts.specs.Reading.{sharing, read_refused, row_readers, numbered_releases, freeing, read_freed, read_drawn, read_numbered, row_shared, parity_shared, share_rest, wanted_shared, read_rows, read_steps}
use Rattle.script_text.specs.Script.{Script, parts_of, blocks_of}
use Rattle.histories.specs.Progress.{access, attempt, read_of, write_of}
use Rattle.histories.proofs.accesses.AccessTrees.{IsAsked, EachAsked, writes-asked, mends-asked, recoveries-asked}

-- the number of an attempt after a draw
abbrev pub drawn_to : Option Number → Result Number Spent → Option Number
drawn_to number (Ok n) = Some n
drawn_to number (Err spent) = number

abbrev pub FreesWith : Option Number → Request → Type 0
FreesWith number (Release row by o) = (n : Number) → o ≡ Some n → number ≡ Some n
FreesWith number (Share row by want) = Unit {0}
FreesWith number (Claim row by how mask want) = Unit {0}
FreesWith number (Confirm row by want) = Unit {0}
FreesWith number (Put row by n cell) = Unit {0}
FreesWith number Lose = Unit {0}
FreesWith number Fit = Unit {0}

-- Whatever the replies and the numbers drawn: each release is such.
abbrev pub Frees : Option Number → Steps Finish → Type 0
Frees number (Ends f) = Unit {0}
Frees number (Draws k) = (d : Result Number Spent) → Frees (drawn_to number d) (k d)
Frees number (Asks e s c k) = FreesWith number e.request × ((r : Reply) → Frees number (k r))

-- Walks
module _ (number : Option Number) where
  abbrev AllFree : List Errand → Type 0
  AllFree es = AllByRecursion (λ (e : Errand). FreesWith number e.request) es

  free-map : {X : Type 0} (make : X → Errand) → ((x : X) → FreesWith number (make x).request) → (xs : List X) → AllFree (map make xs)
  free-map make own [] = tt
  free-map make own (x ∷ xs) = (own x, free-map make own xs)

  free-append : (es ds : List Errand) → AllFree es → AllFree ds → AllFree (es ++ ds)
  free-append [] ds own more = more
  free-append (e ∷ es) ds own more = (own.0, free-append es ds own.1 more)

  free-flat : {X : Type 0} (make : X → List Errand) → ((x : X) → AllFree (make x)) → (xs : List X) → AllFree (flat_map make xs)
  free-flat make own [] = tt
  free-flat make own (x ∷ xs) = free-append (make x) (flat_map make xs) (own x) (free-flat make own xs)

  free-shares : (id : Number) (row : RowNo) (bays : List BayNo) → AllFree (shares id row bays)
  free-shares id row bays = free-map (share id row) (λ bay. tt) bays

  free-releases : (id : Number) (row : RowNo) (bays : List BayNo) → AllFree (releases id row None bays)
  free-releases id row bays = free-map (release id row None) (λ bay n bad. absurd (cc)) bays

  module _ {A : Type 0} where
    free-go : (o : Option A) (g : A → Steps (Walk A)) (s : Steps (Walk A)) (f : Walk A → Steps Finish) →
        ((a : A) → Frees number (bind (g a) f)) → Frees number (bind s f) → Frees number (bind (go_on o g s) f)
    free-go (Some a) g s f on off = on a
    free-go None g s f on off = off

    -- whatever the walk gives
    free-run : (phase : Phase A) (f : Walk A → Steps Finish) → ((walk : Walk A) → Frees number (f walk)) → (es : List Errand) → AllFree es → (a : A) → Frees number (bind (run phase es a) f)
    free-run phase f on [] own a = on (Through a)
    free-run phase f on (e ∷ es) own a =
        (own.0, λ r. free-go (phase.step a e r) (λ b. run phase es b) (Ends (Stopped a e r)) f (λ b. free-run phase f on es own.1 b) (on (Stopped a e r)))

  free-released : (es : List Errand) (ended : Ended) → AllFree es → Frees number (released_steps es ended)
  free-released es ended own = free-run releasing (end_as ended) (λ walk. tt) es own tt

  -- attempts that are no reads release without a number
  asked-frees : (id : Number) (what : Request) → IsAsked false id what → FreesWith number what
  asked-frees id (Share row by want) h = tt
  asked-frees id (Claim row by how mask want) h = tt
  asked-frees id (Confirm row by want) h = tt
  asked-frees id (Put row by n cell) h = tt
  asked-frees id (Release row by o) h = λ n is. absurd (let bad : None ≡ Some n = sym (h.1 refl) ∙ is in cc)
  asked-frees id Lose h = tt
  asked-frees id Fit h = tt

plain-frees : (id : Number) (number : Option Number) (s : Steps Finish) → EachAsked false id s → Frees number s
plain-frees id number (Asks e t c k) h = (asked-frees number id e.request h.0, λ r. plain-frees id number (k r) (h.1 r))
plain-frees id number (Draws k) h = λ d. plain-frees id (drawn_to number d) (k d) (h d)
plain-frees id number (Ends f) h = tt

-- Reads
module _ (a : Access) where
  free-read-releases : (number : Option Number) (rows : List Row) → AllFree number (read_releases a rows)
  free-read-releases number rows =
      free-flat number (λ (row : Row). releases a.id row.part.row None (read_holds a.mode a.n row))
      (λ row. free-releases number a.id row.part.row (read_holds a.mode a.n row)) rows

  free-numbered : (n : Number) (rows : List Row) → AllFree (Some n) (numbered_releases a n rows)
  free-numbered n rows =
      free-flat (Some n) (λ (row : Row). releases a.id row.part.row (Some n) (row_readers a.n row))
      (λ row. free-map (Some n) (release a.id row.part.row (Some n)) (λ bay k is. is) (row_readers a.n row)) rows

  freed : (number : Option Number) (n : Number) (rows : List Row) (walk : Walk (Option RowNo)) → Frees number (read_freed a n rows walk)
  freed number n rows (Through None) = tt
  freed number n rows (Through (Some row)) = tt
  freed number n rows (Stopped row e r) = tt

  read-drawn : (number : Option Number) (rows : List Row) (d : Result Number Spent) → Frees (drawn_to number d) (read_drawn a rows d)
  read-drawn number rows (Err spent) = free-released number (read_releases a rows) (ends.Refused (causes.Spent spent.seen)) (free-read-releases number rows)
  read-drawn number rows (Ok n) = free-run (Some n) freeing (read_freed a n rows) (freed (Some n) n rows) (numbered_releases a n rows) (free-numbered n rows) None

  module _ (number : Option Number) where
    read-numbered : (mode : Mode) (rows : List Row) → Frees number (read_numbered mode a rows)
    read-numbered Order rows = tt
    read-numbered Lock rows = read-drawn number rows

    read-stopped : (taken : Taken) (e : Errand) (r : Reply) → Frees number (read_refused a taken e r)
    read-stopped taken e r =
        free-released number (read_releases a (taken.before ++ taken.row ∷ [])) (ends.Refused (why (behind_from a.mode a.id) taken e r))
        (free-read-releases number (taken.before ++ taken.row ∷ []))

    module _ (rest : Rows → Steps Finish) (on : (rows : Rows) → Frees number (rest rows)) where
      row-shares : (walk : Walk Taken) → Frees number (row_shared a rest walk)
      row-shares (Through taken) = on (row_ended taken)
      row-shares (Stopped taken e r) = read-stopped taken e r

      parity-shares : (walk : Walk Taken) → Frees number (parity_shared a rest walk)
      parity-shares (Stopped taken e r) = read-stopped taken e r
      parity-shares (Through taken) =
          free-run number (sharing a with_other) (row_shared a rest) row-shares
          (shares a.id taken.row.part.row (bays_of a.n taken.row.part.row (units_out a.n taken.row.part.mask)))
          (free-shares number a.id taken.row.part.row (bays_of a.n taken.row.part.row (units_out a.n taken.row.part.mask))) taken

      rest-shares : (taken : Taken) (lacking : Bool) → Frees number (share_rest a rest taken lacking)
      rest-shares taken false = on (row_ended taken)
      rest-shares taken true =
          free-run number (sharing a with_parity) (parity_shared a rest) parity-shares
          (share a.id taken.row.part.row (parity_bay a.n taken.row.part.row) ∷ []) (tt, tt) taken

      wanted-shares : (walk : Walk Taken) → Frees number (wanted_shared a rest walk)
      wanted-shares (Stopped taken e r) = read-stopped taken e r
      wanted-shares (Through taken) = rest-shares taken (lacks taken.row.wanted)

    rows-read : (left : List RowPart) (done : Rows) → Frees number (read_rows a left done)
    rows-read [] done = read-numbered a.mode done.rows
    rows-read (part ∷ left) done =
        free-run number (sharing a with_wanted) (wanted_shared a (read_rows a left)) (wanted-shares (read_rows a left) (rows-read left))
        (shares a.id part.row (bays_of a.n part.row (units_in a.n part.mask)))
        (free-shares number a.id part.row (bays_of a.n part.row (units_in a.n part.mask))) (begun part done)

    reads-free : Frees number (read_steps a)
    reads-free = rows-read a.parts no_rows

module _ (script : Script) (host : HostNo) (id : Number) (number : Option Number) where
  read-frees : (r : Result (List RowPart) PartsFault) → Frees number (read_of script id r)
  read-frees (Ok parts) = reads-free (access script id parts []) number
  read-frees (Err fault) = tt

  write-frees : (blocks : _) (r : Result (List RowPart) PartsFault) → Frees number (write_of script id blocks r)
  write-frees blocks (Ok parts) = plain-frees id number (write_of script id blocks (Ok parts)) (writes-asked (access script id parts blocks))
  write-frees blocks (Err fault) = tt

  -- an attempt of a task
  pub attempt-frees : (row : _) (task : Task) → Frees number (attempt script host id row task)
  attempt-frees row (tasks.Read object first count) = read-frees (parts_of script object first count)
  attempt-frees row (tasks.Write object first from count) = write-frees (blocks_of script from count) (parts_of script object first count)
  attempt-frees row (tasks.Recover at) =
      plain-frees id number (attempt script host id row (tasks.Recover at)) (recoveries-asked (record { n = script.n; host = host; id = id; row = at }))
  attempt-frees row (tasks.Rebuild bay) =
      plain-frees id number (attempt script host id row (tasks.Rebuild bay)) (mends-asked (record { n = script.n; id = id; row = record { 0 = row }; target = bay }))
  attempt-frees row (tasks.Lose bay) = tt
  attempt-frees row (tasks.Fit bay) = tt

-- what is asked next
pub next-frees : (number : Option Number) (s : Steps Finish) (e : Errand) → Frees number s → next_errand s ≡ Some e → FreesWith number e.request
next-frees number (Asks first t c k) e h asked = let same : first ≡ e = cc in subst (λ (x : Errand). FreesWith number x.request) same h.0
next-frees number (Draws k) e h asked = absurd (cc)
next-frees number (Ends f) e h asked = absurd (cc)
