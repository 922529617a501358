-- A read whose replies do not refuse shares each slot once, and under locks releases it once.
use Rattle.std.proofs.Common.{◌≡◌, ◌∙◌, sym, ap, refl, subst, ◌≤◌, Bool, true, false, ℕ, List, [], ◌∷◌, ◌++◌, zip, Option, Some, None, option_map, arith}
use Rattle.std.specs.List.{AllByRecursion}
use Rattle.std.proofs.lemmas.List.{append-nil}
use Rattle.raid_base.specs.declared.numbers.BayNo.{BayNo}
use Rattle.raid_base.specs.declared.numbers.RowNo.{RowNo}
use Rattle.raid_base.specs.declared.numbers.Number.{Number}
use Rattle.raid_base.specs.declared.messages.Mode.{Mode}
use Rattle.raid_base.specs.declared.messages.Mode.TheVariants.{Lock, Order}
use Rattle.raid_base.specs.declared.messages.Errand.{Errand}
use Rattle.raid_base.specs.declared.messages.Grant.{Grant}
use Rattle.raid_base.specs.declared.jobs.RowPart.{RowPart}
use Rattle.raid_base.specs.Steps.{Steps, Through, draws}
use Rattle.stripe_layout.specs.Placement.{bay_of, bays_of, units_in, units_out}
use Rattle.attempts.specs.Taking.{Access, Finish, Row, Rows, no_rows, Taken, begun, row_ended, with_grant, with_wanted, behind_from, share, shares}
use Rattle.attempts.specs.Releases.{releases, granted_of, others_granted, parity_granted}
use Rattle.attempts.specs.Reading.{sharing, row_readers, numbered_releases, freeing, read_freed, read_numbered, share_rest, wanted_shared, read_rows, read_steps}
use Rattle.attempts.specs.Phases.{RowsDiffer}
use Rattle.attempts.proofs.BayLemmas.{hits}
use Rattle.attempts.proofs.RoomLemmas.{parts_of, all-append}
use Rattle.attempts.proofs.TakenLemmas.{SoFar, so_far-more}
use Rattle.histories.proofs.causes.CauseLemmas.{share-takes, any-errands}
use Rattle.histories.proofs.completeness.CompleteWalks.{Has, taken}
use Rattle.attempt_laws.proofs.lone.LoneWalks.{Use, Untouched, Shared, Left, Sharing, Releasing, IsLetGo, Smooth, Leads, leads-append, smooth-walk, smooth-units, Runs, pick, turns, undrawn}
use Rattle.attempt_laws.proofs.lone.LoneRows.{Pairs, pairs-more, pairs-all, pairs-there, none-granted, Role, AtParity, AtWanted, AtOther, Elsewhere, IsAt, is_wanted, turn, role, has-role, all-once, advance, Stands, AllElse, OneAt, one-at, advance-else, stands-next, advance-stands, let-go}

-- the use of a slot once its row was read, and once it was released
abbrev pub read_use : Role → Use
read_use AtParity = Untouched
read_use AtWanted = Shared
read_use AtOther = Untouched
read_use Elsewhere = Untouched

abbrev pub freed_use : Role → Use
freed_use AtParity = Untouched
freed_use AtWanted = Left
freed_use AtOther = Untouched
freed_use Elsewhere = Untouched

module _ (a : Access) (least : 3 ≤ a.n) (at : BayNo) (row : RowNo) where
  abbrev Goes : Use → Steps Finish → Type 0
  Goes state s = Smooth a.mode a.id at row state s

  abbrev Leading : List Errand → Use → Use → Type 0
  Leading es u v = Leads a.mode a.id at row es u v

  abbrev role_in : RowPart → Role
  role_in part = role a.mode a.id a.n least at row part

  abbrev reads_as : RowPart → Use
  reads_as part = read_use (role_in part)

  abbrev frees_as : RowPart → Use
  frees_as part = freed_use (role_in part)

  abbrev Standing : (RowPart → Use) → List RowPart → Use → Type 0
  Standing F parts state = Stands a.mode a.id a.n least at row F parts state

  abbrev along : (RowPart → Use) → List RowPart → Use → Use
  along F parts state = advance a.mode a.id a.n least at row F parts state

  abbrev One : List RowPart → Type 0
  One parts = OneAt a.mode a.id a.n least at row parts

  wanted-once : (part : RowPart) → hits at (bays_of a.n part.row (units_in a.n part.mask)) ≤ 1
  wanted-once part = let h = all-once a.mode a.id a.n least at row part in omega (arith, h)

  -- shares of the wanted units
  shares-run : (r : RowNo) (bays : List BayNo) → Runs a.mode a.id at row r Sharing (shares a.id r bays) bays
  shares-run r [] = tt
  shares-run r (bay ∷ bays) = ((refl, refl, refl, refl), shares-run r bays)

  shares-lead : (part : RowPart) (u : Use) → (IsAt (role_in part) → u ≡ Untouched) →
      Leading (shares a.id part.row (bays_of a.n part.row (units_in a.n part.mask))) u (turn (role_in part) (reads_as part) u)
  shares-lead part u f =
      let is = has-role a.mode a.id a.n least at row part in
      let bays = bays_of a.n part.row (units_in a.n part.mask) in
      subst (Leading (shares a.id part.row bays) u) (ap (λ (b : Bool). pick b Shared u) is.wanted ∙ by (role_in part) f)
      (turns a.mode a.id at row part.row Sharing u (shares a.id part.row bays) bays (shares-run part.row bays) (wanted-once part)
      (λ e. f (there (role_in part) (sym is.wanted ∙ e))))
    where
      by : (r : Role) → (IsAt r → u ≡ Untouched) → pick (is_wanted r) Shared u ≡ turn r (read_use r) u
      by AtParity h = h tt
      by AtWanted h = refl
      by AtOther h = h tt
      by Elsewhere h = refl

      there : (r : Role) → is_wanted r ≡ true → IsAt r
      there AtParity e = tt
      there AtWanted e = tt
      there AtOther e = tt
      there Elsewhere e = cc

  -- a row that was read
  record IsRead (r : Row) : Type 0 where
    parity : r.parity ≡ None
    others : r.others ≡ []
    wanted : Pairs (units_in a.n r.part.mask) [] r.wanted

  readers-are : (r : Row) → IsRead r → row_readers a.n r ≡ bays_of a.n r.part.row (units_in a.n r.part.mask)
  readers-are r is =
      let bays : List BayNo = bays_of a.n r.part.row (units_in a.n r.part.mask) in
      let wanted : row_readers a.n r ≡ bays ++ parity_granted a.n r.part.row r.parity ++ bays_of a.n r.part.row (others_granted a.n r) =
      ap (λ (us : List ℕ). bays_of a.n r.part.row us ++ parity_granted a.n r.part.row r.parity ++ bays_of a.n r.part.row (others_granted a.n r)) (pairs-all (units_in a.n r.part.mask) r.wanted is.wanted) in
      let parity : (bays ++ parity_granted a.n r.part.row r.parity ++ bays_of a.n r.part.row (others_granted a.n r)) ≡ (bays ++ bays_of a.n r.part.row (others_granted a.n r)) =
      ap (λ (o : Option Grant). bays ++ parity_granted a.n r.part.row o ++ bays_of a.n r.part.row (others_granted a.n r)) is.parity
      ∙ ap (λ (xs : List BayNo). xs ++ bays_of a.n r.part.row (others_granted a.n r)) (append-nil bays) in
      let others : granted_of (zip (units_out a.n r.part.mask) r.others) ≡ [] =
      ap (λ (gs : List (Option Grant)). granted_of (zip (units_out a.n r.part.mask) gs)) is.others ∙ none-granted (units_out a.n r.part.mask) in
      let rest : (bays ++ bays_of a.n r.part.row (others_granted a.n r)) ≡ (bays ++ []) = ap (λ (us : List ℕ). bays ++ bays_of a.n r.part.row us) others in
      wanted ∙ parity ∙ rest ∙ append-nil bays

  -- releases under locks
  module _ (locks : a.mode ≡ Lock) (n : Number) where
    releases-run : (r : RowNo) (bays : List BayNo) → Runs a.mode a.id at row r Releasing (releases a.id r (Some n) bays) bays
    releases-run r [] = tt
    releases-run r (bay ∷ bays) = ((refl, refl, refl, refl), releases-run r bays)

    frees-lead : (part : RowPart) (u : Use) → (IsAt (role_in part) → u ≡ reads_as part) →
        Leading (releases a.id part.row (Some n) (bays_of a.n part.row (units_in a.n part.mask))) u (turn (role_in part) (frees_as part) u)
    frees-lead part u f =
        let is = has-role a.mode a.id a.n least at row part in
        let bays = bays_of a.n part.row (units_in a.n part.mask) in
        subst (Leading (releases a.id part.row (Some n) bays) u) (ap (λ (b : Bool). pick b Left u) is.wanted ∙ by (role_in part) f)
        (turns a.mode a.id at row part.row Releasing u (releases a.id part.row (Some n) bays) bays (releases-run part.row bays) (wanted-once part)
        (λ e. (there (role_in part) (sym is.wanted ∙ e) f, locks)))
      where
        by : (r : Role) → (IsAt r → u ≡ read_use r) → pick (is_wanted r) Left u ≡ turn r (freed_use r) u
        by AtParity h = h tt
        by AtWanted h = refl
        by AtOther h = h tt
        by Elsewhere h = refl

        there : (r : Role) → is_wanted r ≡ true → (IsAt r → u ≡ read_use r) → u ≡ Shared
        there AtParity e h = cc
        there AtWanted e h = h tt
        there AtOther e h = cc
        there Elsewhere e h = cc

    all-lead : (rows : List Row) (u : Use) → AllByRecursion IsRead rows → One (parts_of rows) → Standing reads_as (parts_of rows) u →
        Leading (numbered_releases a n rows) u (along frees_as (parts_of rows) u)
    all-lead [] u all one s = refl
    all-lead (r ∷ rows) u all one s =
        let v : Use = turn (role_in r.part) (frees_as r.part) u in
        leads-append a.mode a.id at row (releases a.id r.part.row (Some n) (row_readers a.n r)) (numbered_releases a n rows) u v (along frees_as (parts_of rows) v)
        (subst (λ (bays : List BayNo). Leading (releases a.id r.part.row (Some n) bays) u v) (sym (readers-are r all.0)) (frees-lead r.part u s.0))
        (all-lead rows v all.1 one.1 (stands-next a.mode a.id a.n least at row reads_as (frees_as r.part) r.part (parts_of rows) u one s))

  module _ (differ : RowsDiffer a.parts) where
    one-all : One a.parts
    one-all = one-at a.mode a.id a.n least at row a.parts differ

    -- what the shares make of the use, and what the releases do
    abbrev shared : Use
    shared = along reads_as a.parts Untouched

    shared-stands : Standing reads_as a.parts shared
    shared-stands = advance-stands a.mode a.id a.n least at row reads_as a.parts Untouched one-all

    shared-else : AllElse a.mode a.id a.n least at row a.parts → shared ≡ Untouched
    shared-else h = advance-else a.mode a.id a.n least at row reads_as a.parts Untouched h

    ends-shared : a.mode ≡ Order → IsLetGo a.mode a.id a.mode shared
    ends-shared stamps = let-go a.mode a.id a.n least at row reads_as (λ part i. free (role_in part) a.mode stamps) a.parts shared shared-stands shared-else
      where
        free : (r : Role) (m : Mode) → m ≡ Order → IsLetGo a.mode a.id m (read_use r)
        free AtParity m e = tt
        free AtWanted Order e = tt
        free AtWanted Lock e = cc
        free AtOther m e = tt
        free Elsewhere m e = tt

    ends-freed : IsLetGo a.mode a.id a.mode (along frees_as a.parts shared)
    ends-freed =
        let-go a.mode a.id a.n least at row frees_as (λ part i. free (role_in part)) a.parts (along frees_as a.parts shared)
        (advance-stands a.mode a.id a.n least at row frees_as a.parts shared one-all)
        (λ h. advance-else a.mode a.id a.n least at row frees_as a.parts shared h ∙ shared-else h)
      where
        free : (r : Role) → IsLetGo a.mode a.id a.mode (freed_use r)
        free AtParity = tt
        free AtWanted = tt
        free AtOther = tt
        free Elsewhere = tt

    freed : (n : Number) (rows : List Row) (v : Use) → IsLetGo a.mode a.id a.mode v → (o : Option RowNo) → Goes v (read_freed a n rows (Through o))
    freed n rows v free None = free
    freed n rows v free (Some r) = free

    numbered : (m : Mode) → a.mode ≡ m → (rows : List Row) → AllByRecursion IsRead rows → parts_of rows ≡ a.parts → Goes shared (read_numbered m a rows)
    numbered Order e rows all same = ends-shared e
    numbered Lock e rows all same = λ n.
        let v : Use = along frees_as a.parts shared in (
          undrawn freeing (read_freed a n rows) (still n) (numbered_releases a n rows) None,
          smooth-walk a.mode a.id at row (λ x. Unit {0}) (λ x. Unit {0}) freeing (read_freed a n rows) v (λ x y r p i fit good. tt) (λ o i. freed n rows v ends-freed o)
              (numbered_releases a n rows) shared None (any-errands (numbered_releases a n rows))
              (subst (λ (ps : List RowPart). Leading (numbered_releases a n rows) shared (along frees_as ps shared)) same
              (all-lead e n rows shared all (subst One (sym same) one-all) (subst (λ (ps : List RowPart). Standing reads_as ps shared) (sym same) shared-stands)))
              tt,
        )
      where
        still : (n : Number) (o : Option RowNo) → draws (read_freed a n rows (Through o)) ≡ false
        still n None = refl
        still n (Some r) = refl

    -- rows
    record IsReading (part : RowPart) (before : List Row) (left : List ℕ) (t : Taken) : Type 0 where
      part_is : t.row.part ≡ part
      before_is : t.before ≡ before
      parity : t.row.parity ≡ None
      others : t.row.others ≡ []
      wanted : Pairs (units_in a.n part.mask) left t.row.wanted

    row-ends : (part : RowPart) (before : List Row) (left : List RowPart) → AllByRecursion IsRead before → SoFar a before (part ∷ left) → (rest : Rows → Steps Finish) (v : Use) →
        ((done : Rows) → AllByRecursion IsRead done.rows → SoFar a done.rows left → Goes v (rest done)) →
        (t : Taken) → IsReading part before [] t → Goes v (wanted_shared a rest (Through t))
    row-ends part before left all so rest v on t is =
        subst (λ (b : Bool). Goes v (share_rest a rest t b)) (sym (pairs-there (units_in a.n part.mask) [] t.row.wanted is.wanted))
        (on (row_ended t) (all-append IsRead t.before (t.row ∷ []) (subst (AllByRecursion IsRead) (sym is.before_is) all) (now, tt))
        (so_far-more a t.before t.row part left is.part_is (subst (λ (rows : List Row). SoFar a rows (part ∷ left)) (sym is.before_is) so)))
      where
        now : IsRead t.row
        now = record {
          parity = is.parity;
          others = is.others;
          wanted = subst (λ (p : RowPart). Pairs (units_in a.n p.mask) [] t.row.wanted) (sym is.part_is) is.wanted;
        }

    rows-read : (left : List RowPart) (done : Rows) (u : Use) → One left → Standing (λ part. Untouched) left u → along reads_as left u ≡ shared →
        AllByRecursion IsRead done.rows → SoFar a done.rows left → Goes u (read_rows a left done)
    rows-read [] done u one s e all so = subst (λ (x : Use). Goes x (read_numbered a.mode a done.rows)) (sym e) (numbered a.mode refl done.rows all (sym (append-nil (parts_of done.rows)) ∙ so))
    rows-read (part ∷ left) done u one s e all so =
        let v : Use = turn (role_in part) (reads_as part) u in
        smooth-units a.mode a.id at row (bay_of a.n part.row) (share a.id part.row) (IsReading part done.rows) (sharing a with_wanted) (wanted_shared a (read_rows a left)) v
        (λ x xs t r j fit good.
        taken (share a.id part.row (bay_of a.n part.row x)).request (share-takes part.row a.id true) (behind_from a.mode a.id) t.missing (bay_of a.n part.row x) r fit good
        (λ o. Has (IsReading part done.rows xs) (option_map (with_grant with_wanted t (bay_of a.n part.row x)) o))
        (λ grant. record {
          part_is = j.part_is;
          before_is = j.before_is;
          parity = j.parity;
          others = j.others;
          wanted = pairs-more (units_in a.n part.mask) xs x t.row.wanted grant j.wanted;
        }))
        (λ t j. row-ends part done.rows left all so (read_rows a left) v
        (λ later alls sos. rows-read left later v one.1 (stands-next a.mode a.id a.n least at row (λ p. Untouched) (reads_as part) part left u one s) e alls sos) t j)
        (units_in a.n part.mask) u (begun part done) (shares-lead part u s.0)
        (record { part_is = refl; before_is = refl; parity = refl; others = refl; wanted = refl })

    untouched : (parts : List RowPart) → Standing (λ part. Untouched) parts Untouched
    untouched [] = tt
    untouched (part ∷ parts) = (λ i. refl, untouched parts)

    pub reads-smooth : Smooth a.mode a.id at row Untouched (read_steps a)
    reads-smooth = rows-read a.parts no_rows Untouched one-all (untouched a.parts) refl tt refl
