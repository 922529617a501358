-- A write whose replies do not refuse claims and shares each slot once, confirms and puts what it has claimed, and under
-- locks releases what it has shared.
use Rattle.std.proofs.Common.{◌≡◌, ◌∙◌, sym, ap, refl, subst, ◌≤◌, ◌+◌, Bool, true, false, ℕ, List, [], ◌∷◌, ◌++◌, map, zip, Option, Some, None, option_map, arith}
use Rattle.std.specs.List.{AllByRecursion}
use Rattle.std.proofs.lemmas.List.{append-nil}
use Rattle.raid_base.specs.declared.numbers.BayNo.{BayNo}
use Rattle.raid_base.specs.declared.numbers.RowNo.{RowNo}
use Rattle.raid_base.specs.declared.numbers.Number.{Number}
use Rattle.raid_base.specs.declared.cells.Cell.{Cell}
use Rattle.raid_base.specs.declared.messages.Mode.{Mode}
use Rattle.raid_base.specs.declared.messages.Mode.TheVariants.{Lock, Order}
use Rattle.raid_base.specs.declared.messages.How.TheVariants.{Plain}
use Rattle.raid_base.specs.declared.messages.Errand.{Errand}
use Rattle.raid_base.specs.declared.messages.Grant.{Grant}
use Rattle.raid_base.specs.declared.messages.Reply.{Reply}
use Rattle.raid_base.specs.declared.messages.Reply.TheVariants as replies
use Rattle.raid_base.specs.declared.jobs.Plan.{Plan}
use Rattle.raid_base.specs.declared.jobs.Plan.TheVariants.{Full, Small, Reconstruct}
use Rattle.raid_base.specs.declared.jobs.RowPart.{RowPart}
use Rattle.raid_base.specs.Cells.{plain_cell}
use Rattle.raid_base.specs.Steps.{Steps, Walk, Through, bind, run, draws}
use Rattle.stripe_layout.specs.Placement.{parity_bay, bay_of, bays_of, units_in, units_out}
use Rattle.attempts.specs.Taking.{Access, Finish, Row, Rows, no_rows, Taken, begun, row_ended, with_grant, with_parity, with_wanted, with_other, lacks, behind_from, taking_until, share, shares, claim, claims}
use Rattle.attempts.specs.Releases.{releases, granted_of, others_granted}
use Rattle.attempts.specs.Puts.{plan_of, is_small_plan, Puts, no_puts, at_row, data_put, data_puts, putting_data, parity_put, putting_parity, new_parity, wanted_units, block_at}
use Rattle.attempts.specs.Writing.{finishing, reader_releases, write_end, write_last, parity_done, put_parity, data_done, put_rows, put_steps, write_numbered, held_row, confirmed_row, confirming, row_confirm, row_confirmed, confirm_rows, claiming, row_claimed, wanted_claims, other_shares, claim_wanted, share_others, small_claimed, others_shared, claim_row, parity_claimed, parity_claim, claim_rows, write_steps}
use Rattle.attempts.specs.Phases.{RowsDiffer}
use Rattle.attempts.proofs.BayLemmas.{hits}
use Rattle.attempts.proofs.RoomLemmas.{parts_of, all-append}
use Rattle.attempts.proofs.TakenLemmas.{SoFar, so_far-more}
use Rattle.histories.proofs.causes.CauseLemmas.{share-takes, claim-takes, any-errands}
use Rattle.histories.proofs.completeness.CompleteWalks.{Has, has-map, granted, taken, held, IsDoable, put-doable}
use Rattle.attempt_laws.proofs.lone.LoneWalks.{Use, Untouched, Shared, Claimed, Left, Act, next, Sharing, Claiming, Confirming, Putting, Releasing, Fine, IsLetGo, Smooth, Leads, leads-append, smooth-walk, smooth-units, smooth-one, Runs, pick, turns, undrawn}
use Rattle.attempt_laws.proofs.lone.LoneRows.{IsThere, Pairs, pairs-more, pairs-all, pairs-there, none-granted, Role, AtParity, AtWanted, AtOther, Elsewhere, IsAt, is_parity, is_wanted, is_other, turn, role, HasRole, has-role, all-once, advance, Stands, AllElse, OneAt, one-at, advance-else, stands-next, advance-stands, let-go}

-- the use of a slot once its row was claimed, once it was put, and once its readers were released
abbrev pub other_use : Plan → Use
other_use Full = Untouched
other_use Small = Untouched
other_use Reconstruct = Shared

abbrev pub claim_use : Plan → Role → Use
claim_use plan AtParity = Claimed
claim_use plan AtWanted = Claimed
claim_use plan AtOther = other_use plan
claim_use plan Elsewhere = Untouched

abbrev pub put_use : Plan → Role → Use
put_use plan AtParity = Left
put_use plan AtWanted = Left
put_use plan AtOther = other_use plan
put_use plan Elsewhere = Untouched

abbrev pub other_end : Plan → Use
other_end Full = Untouched
other_end Small = Untouched
other_end Reconstruct = Left

abbrev pub end_use : Plan → Role → Use
end_use plan AtParity = Left
end_use plan AtWanted = Left
end_use plan AtOther = other_end plan
end_use plan Elsewhere = Untouched

-- the grants of the others
abbrev pub OthersAre : Plan → List ℕ → List (Option Grant) → Type 0
OthersAre Full us gs = gs ≡ []
OthersAre Small us gs = gs ≡ []
OthersAre Reconstruct us gs = Pairs us [] gs

abbrev pub others_of : Plan → List ℕ → List ℕ
others_of Full us = []
others_of Small us = []
others_of Reconstruct us = us

others-granted : (plan : Plan) (us : List ℕ) (gs : List (Option Grant)) → OthersAre plan us gs → granted_of (zip us gs) ≡ others_of plan us
others-granted Full us gs e = ap (λ (xs : List (Option Grant)). granted_of (zip us xs)) e ∙ none-granted us
others-granted Small us gs e = ap (λ (xs : List (Option Grant)). granted_of (zip us xs)) e ∙ none-granted us
others-granted Reconstruct us gs h = pairs-all us gs h

others-there : (plan : Plan) (us : List ℕ) (gs : List (Option Grant)) → OthersAre plan us gs → lacks gs ≡ false
others-there Full us gs e = ap lacks e
others-there Small us gs e = ap lacks e
others-there Reconstruct us gs h = pairs-there us [] gs h

module _ (a : Access) (least : 3 ≤ a.n) (at : BayNo) (row : RowNo) where
  abbrev Goes : Use → Steps Finish → Type 0
  Goes state s = Smooth a.mode a.id at row state s

  abbrev Leading : List Errand → Use → Use → Type 0
  Leading es u v = Leads a.mode a.id at row es u v

  abbrev Running : RowNo → Act → List Errand → List BayNo → Type 0
  Running r act es bays = Runs a.mode a.id at row r act es bays

  abbrev role_in : RowPart → Role
  role_in part = role a.mode a.id a.n least at row part

  abbrev claims_as : RowPart → Use
  claims_as part = claim_use (plan_of a part) (role_in part)

  abbrev puts_as : RowPart → Use
  puts_as part = put_use (plan_of a part) (role_in part)

  abbrev ends_as : RowPart → Use
  ends_as part = end_use (plan_of a part) (role_in part)

  abbrev Standing : (RowPart → Use) → List RowPart → Use → Type 0
  Standing F parts state = Stands a.mode a.id a.n least at row F parts state

  abbrev along : (RowPart → Use) → List RowPart → Use → Use
  along F parts state = advance a.mode a.id a.n least at row F parts state

  abbrev One : List RowPart → Type 0
  One parts = OneAt a.mode a.id a.n least at row parts

  abbrev Is : RowPart → Type 0
  Is part = HasRole a.mode a.id a.n least at row part (role_in part)

  its : (part : RowPart) → Is part
  its part = has-role a.mode a.id a.n least at row part

  abbrev parity_bays : RowPart → List BayNo
  parity_bays part = parity_bay a.n part.row ∷ []

  abbrev wanted_bays : RowPart → List BayNo
  wanted_bays part = bays_of a.n part.row (units_in a.n part.mask)

  abbrev other_bays : RowPart → List BayNo
  other_bays part = bays_of a.n part.row (units_out a.n part.mask)

  once : (part : RowPart) → hits at (parity_bays part) + hits at (wanted_bays part) + hits at (other_bays part) ≤ 1
  once part = all-once a.mode a.id a.n least at row part

  -- Errands of one part: those at its parity, at its wanted units, and at the others
  at-parity : (part : RowPart) (act : Act) (es : List Errand) (u : Use) → Running part.row act es (parity_bays part) → (is_parity (role_in part) ≡ true → Fine a.mode a.id act u) →
      Leading es u (pick (is_parity (role_in part)) (next act u) u)
  at-parity part act es u runs fine =
      let few = once part in
      subst (λ (b : Bool). Leading es u (pick b (next act u) u)) (its part).parity
      (turns a.mode a.id at row part.row act u es (parity_bays part) runs (omega (arith, few)) (λ e. fine (sym (its part).parity ∙ e)))

  at-wanted : (part : RowPart) (act : Act) (es : List Errand) (u : Use) → Running part.row act es (wanted_bays part) → (is_wanted (role_in part) ≡ true → Fine a.mode a.id act u) →
      Leading es u (pick (is_wanted (role_in part)) (next act u) u)
  at-wanted part act es u runs fine =
      let few = once part in
      subst (λ (b : Bool). Leading es u (pick b (next act u) u)) (its part).wanted
      (turns a.mode a.id at row part.row act u es (wanted_bays part) runs (omega (arith, few)) (λ e. fine (sym (its part).wanted ∙ e)))

  at-others : (part : RowPart) (act : Act) (es : List Errand) (u : Use) → Running part.row act es (other_bays part) → (is_other (role_in part) ≡ true → Fine a.mode a.id act u) →
      Leading es u (pick (is_other (role_in part)) (next act u) u)
  at-others part act es u runs fine =
      let few = once part in
      subst (λ (b : Bool). Leading es u (pick b (next act u) u)) (its part).other
      (turns a.mode a.id at row part.row act u es (other_bays part) runs (omega (arith, few)) (λ e. fine (sym (its part).other ∙ e)))

  shares-run : (r : RowNo) (bays : List BayNo) → Running r Sharing (shares a.id r bays) bays
  shares-run r [] = tt
  shares-run r (bay ∷ bays) = ((refl, refl, refl, refl), shares-run r bays)

  claims-run : (r : RowNo) (want : Bool) (bays : List BayNo) → Running r Claiming (claims a.id r Plain want bays) bays
  claims-run r want [] = tt
  claims-run r want (bay ∷ bays) = ((refl, refl, (refl, refl), refl), claims-run r want bays)

  releases-run : (r : RowNo) (bays : List BayNo) → Running r Releasing (releases a.id r None bays) bays
  releases-run r [] = tt
  releases-run r (bay ∷ bays) = ((refl, refl, refl, refl), releases-run r bays)

  puts-run : (n : Number) → (a.mode ≡ Order → n ≡ a.id) → (r : Row) (us : List ℕ) → Running r.part.row Putting (map (data_put a n r) us) (bays_of a.n r.part.row us)
  puts-run n own r [] = tt
  puts-run n own r (u ∷ us) = ((refl, refl, (refl, own), refl), puts-run n own r us)

  -- a row that was claimed
  record IsClaimed (r : Row) : Type 0 where
    parity : IsThere r.parity
    wanted : Pairs (units_in a.n r.part.mask) [] r.wanted
    others : OthersAre (plan_of a r.part) (units_out a.n r.part.mask) r.others

  -- The uses that the claims, the puts and the releases leave
  module _ (differ : RowsDiffer a.parts) where
    one-all : One a.parts
    one-all = one-at a.mode a.id a.n least at row a.parts differ

    abbrev claimed : Use
    claimed = along claims_as a.parts Untouched

    abbrev put_all : Use
    put_all = along puts_as a.parts claimed

    abbrev ended : Use
    ended = along ends_as a.parts put_all

    claimed-stands : Standing claims_as a.parts claimed
    claimed-stands = advance-stands a.mode a.id a.n least at row claims_as a.parts Untouched one-all

    put-stands : Standing puts_as a.parts put_all
    put-stands = advance-stands a.mode a.id a.n least at row puts_as a.parts claimed one-all

    put-else : AllElse a.mode a.id a.n least at row a.parts → put_all ≡ Untouched
    put-else h = advance-else a.mode a.id a.n least at row puts_as a.parts claimed h ∙ advance-else a.mode a.id a.n least at row claims_as a.parts Untouched h

    -- under stamps a reader may stay
    lets-go : a.mode ≡ Order → IsLetGo a.mode a.id a.mode put_all
    lets-go stamps = let-go a.mode a.id a.n least at row puts_as (λ part i. free (plan_of a part) (role_in part) a.mode stamps) a.parts put_all put-stands put-else
      where
        shared : (plan : Plan) (m : Mode) → m ≡ Order → IsLetGo a.mode a.id m (other_use plan)
        shared Full m e = tt
        shared Small m e = tt
        shared Reconstruct Order e = tt
        shared Reconstruct Lock e = cc

        free : (plan : Plan) (r : Role) (m : Mode) → m ≡ Order → IsLetGo a.mode a.id m (put_use plan r)
        free plan AtParity m e = tt
        free plan AtWanted m e = tt
        free plan AtOther m e = shared plan m e
        free plan Elsewhere m e = tt

    lets-go-all : IsLetGo a.mode a.id a.mode ended
    lets-go-all =
        let-go a.mode a.id a.n least at row ends_as (λ part i. free (plan_of a part) (role_in part)) a.parts ended
        (advance-stands a.mode a.id a.n least at row ends_as a.parts put_all one-all)
        (λ h. advance-else a.mode a.id a.n least at row ends_as a.parts put_all h ∙ put-else h)
      where
        other : (plan : Plan) → IsLetGo a.mode a.id a.mode (other_end plan)
        other Full = tt
        other Small = tt
        other Reconstruct = tt

        free : (plan : Plan) (r : Role) → IsLetGo a.mode a.id a.mode (end_use plan r)
        free plan AtParity = tt
        free plan AtWanted = tt
        free plan AtOther = other plan
        free plan Elsewhere = tt

    -- Releases of readers
    readers-lead : a.mode ≡ Lock → (part : RowPart) (plan : Plan) (u : Use) → (IsAt (role_in part) → u ≡ put_use plan (role_in part)) →
        Leading (releases a.id part.row None (bays_of a.n part.row (others_of plan (units_out a.n part.mask)))) u (turn (role_in part) (end_use plan (role_in part)) u)
    readers-lead locks part Full u f = by (role_in part) f
      where
        by : (r : Role) → (IsAt r → u ≡ put_use Full r) → u ≡ turn r (end_use Full r) u
        by AtParity h = h tt
        by AtWanted h = h tt
        by AtOther h = h tt
        by Elsewhere h = refl
    readers-lead locks part Small u f = by (role_in part) f
      where
        by : (r : Role) → (IsAt r → u ≡ put_use Small r) → u ≡ turn r (end_use Small r) u
        by AtParity h = h tt
        by AtWanted h = h tt
        by AtOther h = h tt
        by Elsewhere h = refl
    readers-lead locks part Reconstruct u f =
        subst (Leading (releases a.id part.row None (other_bays part)) u) (by (role_in part) f)
        (at-others part Releasing (releases a.id part.row None (other_bays part)) u (releases-run part.row (other_bays part)) (λ e. (there (role_in part) e f, locks)))
      where
        by : (r : Role) → (IsAt r → u ≡ put_use Reconstruct r) → pick (is_other r) Left u ≡ turn r (end_use Reconstruct r) u
        by AtParity h = h tt
        by AtWanted h = h tt
        by AtOther h = refl
        by Elsewhere h = refl

        there : (r : Role) → is_other r ≡ true → (IsAt r → u ≡ put_use Reconstruct r) → u ≡ Shared
        there AtParity e h = cc
        there AtWanted e h = cc
        there AtOther e h = h tt
        there Elsewhere e h = cc

    all-readers : a.mode ≡ Lock → (rows : List Row) (u : Use) → AllByRecursion IsClaimed rows → One (parts_of rows) → Standing puts_as (parts_of rows) u →
        Leading (reader_releases Lock a rows) u (along ends_as (parts_of rows) u)
    all-readers locks [] u all one s = refl
    all-readers locks (r ∷ rows) u all one s =
        let v : Use = turn (role_in r.part) (ends_as r.part) u in
        leads-append a.mode a.id at row (releases a.id r.part.row None (bays_of a.n r.part.row (others_granted a.n r))) (reader_releases Lock a rows) u v (along ends_as (parts_of rows) v)
        (subst (λ (us : List ℕ). Leading (releases a.id r.part.row None (bays_of a.n r.part.row us)) u v) (sym (others-granted (plan_of a r.part) (units_out a.n r.part.mask) r.others (all.0).others))
        (readers-lead locks r.part (plan_of a r.part) u s.0))
        (all-readers locks rows v all.1 one.1 (stands-next a.mode a.id a.n least at row puts_as (ends_as r.part) r.part (parts_of rows) u one s))

    -- the rows of the write
    abbrev All : List Row → Type 0
    All rows = AllByRecursion IsClaimed rows

    last-walk : (n : Number) (es : List Errand) (v : Use) → IsLetGo a.mode a.id a.mode v → Leading es put_all v → (puts : Puts) → Goes put_all (bind (run (finishing a n) es puts) (write_end a n))
    last-walk n es v free leads puts =
        smooth-walk a.mode a.id at row (λ x. Unit {0}) (λ x. Unit {0}) (finishing a n) (write_end a n) v (λ x y r p i fit good. tt) (λ x i. free) es put_all puts (any-errands es) leads tt

    last-smooth : (n : Number) (rows : List Row) → All rows → parts_of rows ≡ a.parts → (puts : Puts) → Goes put_all (write_last a n rows puts)
    last-smooth n rows all same puts = by a.mode refl
      where
        by : (m : Mode) → a.mode ≡ m → Goes put_all (bind (run (finishing a n) (reader_releases m a rows) puts) (write_end a n))
        by Order e = last-walk n [] put_all (lets-go e) refl puts
        by Lock e =
            last-walk n (reader_releases Lock a rows) ended lets-go-all
            (subst (λ (ps : List RowPart). Leading (reader_releases Lock a rows) put_all (along ends_as ps put_all)) same
            (all-readers e rows put_all all (subst One (sym same) one-all) (subst (λ (ps : List RowPart). Standing puts_as ps put_all) (sym same) put-stands))) puts

    -- Puts
    module _ (n : Number) (own : a.mode ≡ Order → n ≡ a.id) where
      put-turn : (plan : Plan) (r : Role) (u : Use) → (IsAt r → u ≡ claim_use plan r) → (let v : Use = pick (is_wanted r) Left u in pick (is_parity r) Left v) ≡ turn r (put_use plan r) u
      put-turn plan AtParity u h = refl
      put-turn plan AtWanted u h = refl
      put-turn plan AtOther u h = h tt
      put-turn plan Elsewhere u h = refl

      wanted-claimed : (plan : Plan) (r : Role) (u : Use) → (IsAt r → u ≡ claim_use plan r) → is_wanted r ≡ true → u ≡ Claimed
      wanted-claimed plan AtParity u h e = cc
      wanted-claimed plan AtWanted u h e = h tt
      wanted-claimed plan AtOther u h e = cc
      wanted-claimed plan Elsewhere u h e = cc

      parity-claimed : (plan : Plan) (r : Role) (u : Use) → (IsAt r → u ≡ claim_use plan r) → is_parity r ≡ true → pick (is_wanted r) Left u ≡ Claimed
      parity-claimed plan AtParity u h e = h tt
      parity-claimed plan AtWanted u h e = cc
      parity-claimed plan AtOther u h e = cc
      parity-claimed plan Elsewhere u h e = cc

      data-lead : (r : Row) (u : Use) → IsClaimed r → (IsAt (role_in r.part) → u ≡ claims_as r.part) → Leading (data_puts a n r) u (pick (is_wanted (role_in r.part)) Left u)
      data-lead r u is f =
          subst (λ (us : List ℕ). Leading (map (data_put a n r) us) u (pick (is_wanted (role_in r.part)) Left u)) (sym (pairs-all (units_in a.n r.part.mask) r.wanted is.wanted))
          (at-wanted r.part Putting (map (data_put a n r) (units_in a.n r.part.mask)) u (puts-run n own r (units_in a.n r.part.mask)) (wanted-claimed (plan_of a r.part) (role_in r.part) u f))

      parity-lead : (r : Row) (u : Use) → (IsAt (role_in r.part) → u ≡ claims_as r.part) →
          Leading (parity_put a n r ∷ []) (pick (is_wanted (role_in r.part)) Left u) (turn (role_in r.part) (puts_as r.part) u)
      parity-lead r u f =
          subst (Leading (parity_put a n r ∷ []) (pick (is_wanted (role_in r.part)) Left u)) (put-turn (plan_of a r.part) (role_in r.part) u f)
          (at-parity r.part Putting (parity_put a n r ∷ []) (pick (is_wanted (role_in r.part)) Left u) ((refl, refl, (refl, own), refl), tt) (parity-claimed (plan_of a r.part) (role_in r.part) u f))

      puts-doable : (r : Row) (us : List ℕ) → AllByRecursion IsDoable (map (data_put a n r) us)
      puts-doable r [] = tt
      puts-doable r (u ∷ us) = (put-doable r.part.row a.id n (plain_cell (block_at a r.part u)) (bay_of a.n r.part.row u), puts-doable r us)

      parity-smooth : (r : Row) (u : Use) (rest : Puts → Steps Finish) → (IsAt (role_in r.part) → u ≡ claims_as r.part) → ((puts : Puts) → Goes (turn (role_in r.part) (puts_as r.part) u) (rest puts)) →
          (puts : Puts) (grant : Option Grant) → IsThere grant → Goes (pick (is_wanted (role_in r.part)) Left u) (put_parity a n r rest puts grant)
      parity-smooth r u rest f on puts None there = absurd there
      parity-smooth r u rest f on puts (Some grant) there =
          smooth-walk a.mode a.id at row IsDoable (λ x. Unit {0}) (putting_parity a n r) (parity_done r rest) (turn (role_in r.part) (puts_as r.part) u)
          (λ e x y p i fit good. subst (λ (z : Reply). Has (λ w. Unit {0}) ((putting_parity a n r).step x e z)) (sym (p y fit good)) tt) (λ x i. on x)
          (parity_put a n r ∷ []) (pick (is_wanted (role_in r.part)) Left u) puts (put-doable r.part.row a.id n (new_parity a r) (parity_bay a.n r.part.row), tt) (parity-lead r u f) tt

      rows-put : (all rows : List Row) (u : Use) → All rows → One (parts_of rows) → Standing claims_as (parts_of rows) u → along puts_as (parts_of rows) u ≡ put_all →
          ((puts : Puts) → Goes put_all (write_last a n all puts)) → (puts : Puts) → Goes u (put_rows a n (write_last a n all) rows puts)
      rows-put all [] u is one s e last puts = subst (λ (x : Use). Goes x (write_last a n all puts)) (sym e) (last puts)
      rows-put all (r ∷ rows) u is one s e last puts =
          let v : Use = turn (role_in r.part) (puts_as r.part) u in
          smooth-walk a.mode a.id at row IsDoable (λ x. Unit {0}) (putting_data a n r) (data_done a n r (put_rows a n (write_last a n all) rows)) (pick (is_wanted (role_in r.part)) Left u)
          (λ x y z p i fit good. subst (λ (w : Reply). Has (λ q. Unit {0}) ((putting_data a n r).step y x w)) (sym (p z fit good)) tt)
          (λ x i.
          parity-smooth r u (put_rows a n (write_last a n all) rows) s.0
          (rows-put all rows v is.1 one.1 (stands-next a.mode a.id a.n least at row claims_as (puts_as r.part) r.part (parts_of rows) u one s) e last) x r.parity (is.0).parity)
          (data_puts a n r) u (at_row puts) (puts-doable r (granted_of (zip (wanted_units a r) r.wanted))) (data-lead r u is.0 s.0) tt

      puts-smooth : (rows : List Row) → All rows → parts_of rows ≡ a.parts → Goes claimed (put_steps a n rows)
      puts-smooth rows all same =
          rows-put rows rows claimed all (subst One (sym same) one-all) (subst (λ (ps : List RowPart). Standing claims_as ps claimed) (sym same) claimed-stands)
          (ap (λ (ps : List RowPart). along puts_as ps claimed) same) (last-smooth n rows all same) no_puts

    -- no further number is drawn
    last-still : (n : Number) (rows : List Row) (puts : Puts) → draws (write_last a n rows puts) ≡ false
    last-still n rows puts = undrawn (finishing a n) (write_end a n) (λ x. refl) (reader_releases a.mode a rows) puts

    parity-still : (n : Number) (r : Row) (rest : Puts → Steps Finish) → ((puts : Puts) → draws (rest puts) ≡ false) → (puts : Puts) (grant : Option Grant) → draws (put_parity a n r rest puts grant) ≡ false
    parity-still n r rest on puts None = on puts
    parity-still n r rest on puts (Some grant) = undrawn (putting_parity a n r) (parity_done r rest) on (parity_put a n r ∷ []) puts

    rows-still : (n : Number) (all rows : List Row) (puts : Puts) → draws (put_rows a n (write_last a n all) rows puts) ≡ false
    rows-still n all [] puts = last-still n all puts
    rows-still n all (r ∷ rows) puts =
        undrawn (putting_data a n r) (data_done a n r (put_rows a n (write_last a n all) rows))
        (λ x. parity-still n r (put_rows a n (write_last a n all) rows) (rows-still n all rows) x r.parity) (data_puts a n r) (at_row puts)

    numbered : (m : Mode) → a.mode ≡ m → (rows : List Row) → All rows → parts_of rows ≡ a.parts → Goes claimed (write_numbered m a rows)
    numbered Order e rows all same = puts-smooth a.id (λ stamps. refl) rows all same
    numbered Lock e rows all same = λ n. (rows-still n rows rows no_puts, puts-smooth n (λ stamps. let bad : Lock ≡ Order = sym e ∙ stamps in cc) rows all same)

    -- Confirms
    record AreDone (left : List RowPart) (done : Rows) : Type 0 where
      all : All done.rows
      so : SoFar a done.rows left

    confirm-lead : (r : Row) (u : Use) → (IsAt (role_in r.part) → u ≡ claims_as r.part) → Leading (row_confirm a r ∷ []) u u
    confirm-lead r u f =
        subst (Leading (row_confirm a r ∷ []) u) (same (is_parity (role_in r.part)))
        (at-parity r.part Confirming (row_confirm a r ∷ []) u ((refl, refl, refl, refl), tt) (λ e. there (plan_of a r.part) (role_in r.part) e f))
      where
        same : (b : Bool) → pick b u u ≡ u
        same true = refl
        same false = refl

        there : (plan : Plan) (ro : Role) → is_parity ro ≡ true → (IsAt ro → u ≡ claim_use plan ro) → u ≡ Claimed
        there plan AtParity e h = h tt
        there plan AtWanted e h = cc
        there plan AtOther e h = cc
        there plan Elsewhere e h = cc

    held-so : (r : Row) (cell : Option Cell) (parity : Option Grant) → IsThere parity → lacks r.others ≡ false → Has (λ (x : Row). x ≡ r) (confirmed_row r (replies.Held cell) parity)
    held-so r cell None there e = absurd there
    held-so r cell (Some grant) there e = subst (λ (b : Bool). Has (λ (x : Row). x ≡ r) (held_row r grant b (Some cell))) (sym e) refl

    confirms-smooth : (rows left : List Row) (done : Rows) → All left → Standing claims_as (parts_of left) claimed → AreDone (parts_of left) done → Goes claimed (confirm_rows a rows left done)
    confirms-smooth rows [] done all s so = numbered a.mode refl done.rows so.all (sym (append-nil (parts_of done.rows)) ∙ so.so)
    confirms-smooth rows (r ∷ left) done all s so =
        smooth-one a.mode a.id at row (confirming a r) (row_confirmed a rows r (confirm_rows a rows left)) (row_confirm a r) claimed claimed done (confirm-lead r claimed s.0)
        (λ y fit good.
        held (lacks r.others) y fit good (λ z. Has (λ b. Goes claimed (row_confirmed a rows r (confirm_rows a rows left) (Through b))) ((confirming a r).step done (row_confirm a r) z))
        (λ cell.
        has-map (λ (z : Row). record done { rows = done.rows ++ z ∷ [] }) (λ b. Goes claimed (confirm_rows a rows left b)) (confirmed_row r (replies.Held cell) r.parity)
        (has-is
        (confirms-smooth rows left (record done { rows = done.rows ++ r ∷ [] }) all.1 s.1
        (record { all = all-append IsClaimed done.rows (r ∷ []) so.all (all.0, tt); so = so_far-more a done.rows r r.part (parts_of left) refl so.so }))
        (confirmed_row r (replies.Held cell) r.parity) (held-so r cell r.parity (all.0).parity (others-there (plan_of a r.part) (units_out a.n r.part.mask) r.others (all.0).others)))))
      where
        has-is : Goes claimed (confirm_rows a rows left (record done { rows = done.rows ++ r ∷ [] })) → (o : Option Row) → Has (λ (x : Row). x ≡ r) o → Has (λ (z : Row). Goes claimed (confirm_rows a rows left (record done { rows = done.rows ++ z ∷ [] }))) o
        has-is goes-on None h = absurd h
        has-is goes-on (Some z) h = subst (λ (x : Row). Goes claimed (confirm_rows a rows left (record done { rows = done.rows ++ x ∷ [] }))) (sym h) goes-on

    -- Claims
    -- a row in hand: its parity is claimed, its others are these, and of the wanted units some are left
    record IsClaiming (part : RowPart) (before : List Row) (others : List (Option Grant) → Type 0) (left : List ℕ) (t : Taken) : Type 0 where
      part_is : t.row.part ≡ part
      before_is : t.before ≡ before
      parity : IsThere t.row.parity
      others_are : others t.row.others
      wanted : Pairs (units_in a.n part.mask) left t.row.wanted

    -- while its others are shared none is claimed yet
    record IsSharing (part : RowPart) (before : List Row) (left : List ℕ) (t : Taken) : Type 0 where
      part_is : t.row.part ≡ part
      before_is : t.before ≡ before
      parity : IsThere t.row.parity
      others_are : Pairs (units_out a.n part.mask) left t.row.others
      wanted : t.row.wanted ≡ []

    module _ (part : RowPart) (before : List Row) (left : List RowPart) (all : All before) (so : SoFar a before (part ∷ left)) (rest : Rows → Steps Finish) (v : Use)
        (on : (done : Rows) → All done.rows → SoFar a done.rows left → Goes v (rest done)) where
      row-done : (t : Taken) → IsClaiming part before (OthersAre (plan_of a part) (units_out a.n part.mask)) [] t → Goes v (rest (row_ended t))
      row-done t is =
          on (row_ended t) (all-append IsClaimed t.before (t.row ∷ []) (subst All (sym is.before_is) all) (now, tt))
          (so_far-more a t.before t.row part left is.part_is (subst (λ (rows : List Row). SoFar a rows (part ∷ left)) (sym is.before_is) so))
        where
          now : IsClaimed t.row
          now = record {
            parity = is.parity;
            wanted = subst (λ (p : RowPart). Pairs (units_in a.n p.mask) [] t.row.wanted) (sym is.part_is) is.wanted;
            others = subst (λ (p : RowPart). OthersAre (plan_of a p) (units_out a.n p.mask) t.row.others) (sym is.part_is) is.others_are;
          }

      -- the claims of the wanted units
      wanted-walk : (want : Bool) (u : Use) (f : Walk Taken → Steps Finish) (O : List (Option Grant) → Type 0) → Leading (claims a.id part.row Plain want (wanted_bays part)) u v →
          ((t : Taken) → IsClaiming part before O [] t → Goes v (f (Through t))) → (t : Taken) → IsClaiming part before O (units_in a.n part.mask) t →
          Goes u (bind (run (claiming a with_wanted) (wanted_claims a want part) t) f)
      wanted-walk want u f O leads ends t is =
          smooth-units a.mode a.id at row (bay_of a.n part.row) (claim a.id part.row Plain 0 want) (IsClaiming part before O) (claiming a with_wanted) f v
          (λ x xs y r j fit good.
          taken (claim a.id part.row Plain 0 want (bay_of a.n part.row x)).request (claim-takes part.row a.id Plain 0 want) (behind_from a.mode a.id) y.missing (bay_of a.n part.row x) r fit good
          (λ o. Has (IsClaiming part before O xs) (option_map (with_grant with_wanted y (bay_of a.n part.row x)) o))
          (λ grant. record {
            part_is = j.part_is;
            before_is = j.before_is;
            parity = j.parity;
            others_are = j.others_are;
            wanted = pairs-more (units_in a.n part.mask) xs x y.row.wanted grant j.wanted;
          }))
          ends (units_in a.n part.mask) u t leads is

      claims-walk : (want : Bool) (u : Use) → Leading (claims a.id part.row Plain want (wanted_bays part)) u v → (t : Taken) →
          IsClaiming part before (OthersAre (plan_of a part) (units_out a.n part.mask)) (units_in a.n part.mask) t → Goes u (claim_wanted a rest want t)
      claims-walk want u leads t is =
          subst (λ (p : RowPart). Goes u (bind (run (claiming a with_wanted) (wanted_claims a want p) t) (row_claimed a rest))) (sym is.part_is)
          (wanted-walk want u (row_claimed a rest) (OthersAre (plan_of a part) (units_out a.n part.mask)) leads row-done t is)

      small-done : (t : Taken) → IsClaiming part before (OthersAre (plan_of a part) (units_out a.n part.mask)) [] t → Goes v (small_claimed a rest (Through t))
      small-done t is = subst (λ (b : Bool). Goes v (share_others a rest t b)) (sym (pairs-there (units_in a.n part.mask) [] t.row.wanted is.wanted)) (row-done t is)

      small-walk : (u : Use) → Leading (claims a.id part.row Plain true (wanted_bays part)) u v → (t : Taken) →
          IsClaiming part before (OthersAre (plan_of a part) (units_out a.n part.mask)) (units_in a.n part.mask) t →
          Goes u (bind (run (claiming a with_wanted) (wanted_claims a true t.row.part) t) (small_claimed a rest))
      small-walk u leads t is =
          subst (λ (p : RowPart). Goes u (bind (run (claiming a with_wanted) (wanted_claims a true p) t) (small_claimed a rest))) (sym is.part_is)
          (wanted-walk true u (small_claimed a rest) (OthersAre (plan_of a part) (units_out a.n part.mask)) leads small-done t is)

      -- the shares of the others before them
      others-walk : plan_of a part ≡ Reconstruct → (u w : Use) → Leading (shares a.id part.row (other_bays part)) u w → Leading (claims a.id part.row Plain false (wanted_bays part)) w v →
          (t : Taken) → IsSharing part before (units_out a.n part.mask) t → Goes u (bind (run (taking_until with_other) (other_shares a t.row.part) t) (others_shared a rest))
      others-walk plan u w first then_claims t is =
          subst (λ (p : RowPart). Goes u (bind (run (taking_until with_other) (other_shares a p) t) (others_shared a rest))) (sym is.part_is)
          (smooth-units a.mode a.id at row (bay_of a.n part.row) (share a.id part.row) (IsSharing part before) (taking_until with_other) (others_shared a rest) w
          (λ x xs y r j fit good.
          granted (share a.id part.row (bay_of a.n part.row x)).request (share-takes part.row a.id true) r fit good
          (λ o. Has (IsSharing part before xs) (option_map (λ g. with_grant with_other y (bay_of a.n part.row x) (Some g)) o))
          (λ grant. record {
            part_is = j.part_is;
            before_is = j.before_is;
            parity = j.parity;
            others_are = pairs-more (units_out a.n part.mask) xs x y.row.others grant j.others_are;
            wanted = j.wanted;
          }))
          (λ y j.
          claims-walk false w then_claims y (record {
            part_is = j.part_is;
            before_is = j.before_is;
            parity = j.parity;
            others_are = subst (λ (p : Plan). OthersAre p (units_out a.n part.mask) y.row.others) (sym plan) j.others_are;
            wanted = subst (Pairs (units_in a.n part.mask) (units_in a.n part.mask)) (sym j.wanted) refl;
          }))
          (units_out a.n part.mask) u t first is)

    -- what a row's claims make of the use
    claim-turn : (plan : Plan) (r : Role) (u : Use) → (IsAt r → u ≡ Untouched) → other_use plan ≡ Untouched →
        (let w : Use = pick (is_parity r) Claimed u in pick (is_wanted r) Claimed w) ≡ turn r (claim_use plan r) u
    claim-turn plan AtParity u h e = refl
    claim-turn plan AtWanted u h e = refl
    claim-turn plan AtOther u h e = h tt ∙ sym e
    claim-turn plan Elsewhere u h e = refl

    share-turn : (r : Role) (u : Use) → (let w : Use = pick (is_parity r) Claimed u in let x : Use = pick (is_other r) Shared w in pick (is_wanted r) Claimed x) ≡ turn r (claim_use Reconstruct r) u
    share-turn AtParity u = refl
    share-turn AtWanted u = refl
    share-turn AtOther u = refl
    share-turn Elsewhere u = refl

    fresh-wanted : (r : Role) (u : Use) → (IsAt r → u ≡ Untouched) → is_wanted r ≡ true → pick (is_parity r) Claimed u ≡ Untouched
    fresh-wanted AtParity u h e = cc
    fresh-wanted AtWanted u h e = h tt
    fresh-wanted AtOther u h e = cc
    fresh-wanted Elsewhere u h e = cc

    fresh-other : (r : Role) (u : Use) → (IsAt r → u ≡ Untouched) → is_other r ≡ true → pick (is_parity r) Claimed u ≡ Untouched
    fresh-other AtParity u h e = cc
    fresh-other AtWanted u h e = cc
    fresh-other AtOther u h e = h tt
    fresh-other Elsewhere u h e = cc

    fresh-then : (r : Role) (u : Use) → (IsAt r → u ≡ Untouched) → is_wanted r ≡ true → pick (is_other r) Shared (pick (is_parity r) Claimed u) ≡ Untouched
    fresh-then AtParity u h e = cc
    fresh-then AtWanted u h e = h tt
    fresh-then AtOther u h e = cc
    fresh-then Elsewhere u h e = cc

    fresh-parity : (r : Role) (u : Use) → (IsAt r → u ≡ Untouched) → is_parity r ≡ true → u ≡ Untouched
    fresh-parity AtParity u h e = h tt
    fresh-parity AtWanted u h e = cc
    fresh-parity AtOther u h e = cc
    fresh-parity Elsewhere u h e = cc

    module _ (part : RowPart) (left : List RowPart) (done : Rows) (u : Use) (fresh : IsAt (role_in part) → u ≡ Untouched) (all : All done.rows) (so : SoFar a done.rows (part ∷ left))
        (rest : Rows → Steps Finish) (on : (later : Rows) → All later.rows → SoFar a later.rows left → Goes (turn (role_in part) (claims_as part) u) (rest later)) where
      abbrev first : Use
      first = pick (is_parity (role_in part)) Claimed u

      plain-lead : (want : Bool) → other_use (plan_of a part) ≡ Untouched → Leading (claims a.id part.row Plain want (wanted_bays part)) first (turn (role_in part) (claims_as part) u)
      plain-lead want none =
          subst (Leading (claims a.id part.row Plain want (wanted_bays part)) first) (claim-turn (plan_of a part) (role_in part) u fresh none)
          (at-wanted part Claiming (claims a.id part.row Plain want (wanted_bays part)) first (claims-run part.row want (wanted_bays part)) (fresh-wanted (role_in part) u fresh))

      shared-lead : plan_of a part ≡ Reconstruct → Leading (claims a.id part.row Plain false (wanted_bays part)) (pick (is_other (role_in part)) Shared first) (turn (role_in part) (claims_as part) u)
      shared-lead plan =
          subst (λ (p : Plan). Leading (claims a.id part.row Plain false (wanted_bays part)) (pick (is_other (role_in part)) Shared first) (turn (role_in part) (claim_use p (role_in part)) u)) (sym plan)
          (subst (Leading (claims a.id part.row Plain false (wanted_bays part)) (pick (is_other (role_in part)) Shared first)) (share-turn (role_in part) u)
          (at-wanted part Claiming (claims a.id part.row Plain false (wanted_bays part)) (pick (is_other (role_in part)) Shared first) (claims-run part.row false (wanted_bays part))
          (fresh-then (role_in part) u fresh)))

      -- the parity is granted
      parity-granted : (t : Taken) → t.row.part ≡ part → t.before ≡ done.rows → IsThere t.row.parity → t.row.wanted ≡ [] → t.row.others ≡ [] → (grant : Grant) (plan : Plan) → plan_of a part ≡ plan →
          Goes first (claim_row a rest t (Some grant) plan)
      parity-granted t part_is before_is there none_wanted none_others grant Full plan =
          claims-walk part done.rows left all so rest (turn (role_in part) (claims_as part) u) on false first (plain-lead false (ap other_use plan)) t
          (record {
            part_is = part_is;
            before_is = before_is;
            parity = there;
            others_are = subst (λ (p : Plan). OthersAre p (units_out a.n part.mask) t.row.others) (sym plan) none_others;
            wanted = subst (Pairs (units_in a.n part.mask) (units_in a.n part.mask)) (sym none_wanted) refl;
          })
      parity-granted t part_is before_is there none_wanted none_others grant Small plan =
          small-walk part done.rows left all so rest (turn (role_in part) (claims_as part) u) on first (plain-lead true (ap other_use plan)) t
          (record {
            part_is = part_is;
            before_is = before_is;
            parity = there;
            others_are = subst (λ (p : Plan). OthersAre p (units_out a.n part.mask) t.row.others) (sym plan) none_others;
            wanted = subst (Pairs (units_in a.n part.mask) (units_in a.n part.mask)) (sym none_wanted) refl;
          })
      parity-granted t part_is before_is there none_wanted none_others grant Reconstruct plan =
          others-walk part done.rows left all so rest (turn (role_in part) (claims_as part) u) on plan first (pick (is_other (role_in part)) Shared first)
          (at-others part Sharing (shares a.id part.row (other_bays part)) first (shares-run part.row (other_bays part)) (fresh-other (role_in part) u fresh)) (shared-lead plan) t
          (record {
            part_is = part_is;
            before_is = before_is;
            parity = there;
            others_are = subst (Pairs (units_out a.n part.mask) (units_out a.n part.mask)) (sym none_others) refl;
            wanted = none_wanted;
          })

      row-smooth : Goes u (bind (run (claiming a with_parity) (parity_claim a part ∷ []) (begun part done)) (parity_claimed a rest))
      row-smooth =
          smooth-one a.mode a.id at row (claiming a with_parity) (parity_claimed a rest) (parity_claim a part) u first (begun part done)
          (at-parity part Claiming (parity_claim a part ∷ []) u ((refl, refl, (refl, refl), refl), tt) (fresh-parity (role_in part) u fresh))
          (λ r fit good.
          taken (parity_claim a part).request (claim-takes part.row a.id Plain part.mask (is_small_plan (plan_of a part))) (behind_from a.mode a.id) done.missing (parity_bay a.n part.row) r fit good
          (λ o. Has (λ b. Goes first (parity_claimed a rest (Through b))) (option_map (with_grant with_parity (begun part done) (parity_bay a.n part.row)) o))
          (λ grant. parity-granted (with_grant with_parity (begun part done) (parity_bay a.n part.row) (Some grant)) refl refl tt refl refl grant (plan_of a part) refl))

    rows-claimed : (left : List RowPart) (done : Rows) (u : Use) → One left → Standing (λ part. Untouched) left u → along claims_as left u ≡ claimed → All done.rows → SoFar a done.rows left →
        Goes u (claim_rows a left done)
    rows-claimed [] done u one s e all so =
        subst (λ (x : Use). Goes x (confirm_rows a done.rows done.rows (record done { rows = [] }))) (sym e)
        (confirms-smooth done.rows done.rows (record done { rows = [] }) all (subst (λ (ps : List RowPart). Standing claims_as ps claimed) (sym same) claimed-stands) (record { all = tt; so = same }))
      where
        same : parts_of done.rows ≡ a.parts
        same = sym (append-nil (parts_of done.rows)) ∙ so
    rows-claimed (part ∷ left) done u one s e all so =
        row-smooth part left done u s.0 all so (claim_rows a left)
        (λ later alls sos.
        rows-claimed left later (turn (role_in part) (claims_as part) u) one.1 (stands-next a.mode a.id a.n least at row (λ p. Untouched) (claims_as part) part left u one s) e alls sos)

    untouched : (parts : List RowPart) → Standing (λ part. Untouched) parts Untouched
    untouched [] = tt
    untouched (part ∷ parts) = (λ i. refl, untouched parts)

    pub writes-smooth : Smooth a.mode a.id at row Untouched (write_steps a)
    writes-smooth = rows-claimed a.parts no_rows Untouched one-all (untouched a.parts) refl tt refl
