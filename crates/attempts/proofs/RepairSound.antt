-- Rebuilds put the cell that their slot had, and recoveries a parity that is sound.
use Rattle.std.proofs.Common.{◌≡◌, ◌∙◌, inl, inr, refl, sym, ap, subst, ℕ, ◌+◌, ◌-◌, ◌<◌, ◌≤◌, ◌==◌, ◌&&◌, not, Bool, true, false, cond, if◌then◌else◌, List, [], ◌∷◌, ◌++◌, append_assoc, append-nil, Option, Some, None, IfSome, is_none, option_map, unwrap_or, map, filter, zip, take, drop, slice_set, length, Result, Ok, Err, arith}
use Rattle.std.specs.List.{AllByRecursion}
use Rattle.std.proofs.lemmas.Bool.{eq-eqb, ne_eqb}
use Rattle.std.proofs.lemmas.Bool.Decides.{eqb_tells, nat_tests}
use Rattle.std.proofs.lemmas.List.{map-append, length-take-le, take-append-drop, take-set, drop-set, at_drop_more}
use Rattle.raid_base.specs.declared.numbers.BayNo.{BayNo}
use Rattle.raid_base.specs.declared.numbers.RowNo.{RowNo}
use Rattle.raid_base.specs.declared.numbers.Number.{Number}
use Rattle.raid_base.specs.declared.numbers.Spent.{Spent}
use Rattle.raid_base.specs.declared.cells.Cell.{Cell}
use Rattle.raid_base.specs.declared.cells.Content.TheVariants.{Lost}
use Rattle.raid_base.specs.declared.messages.How.TheVariants.{Mend, Seize}
use Rattle.raid_base.specs.declared.messages.Errand.{Errand}
use Rattle.raid_base.specs.declared.messages.Grant.{Grant}
use Rattle.raid_base.specs.declared.jobs.Cause.{Cause}
use Rattle.raid_base.specs.declared.jobs.Cause.TheVariants as causes
use Rattle.raid_base.specs.declared.jobs.Ended.{Ended}
use Rattle.raid_base.specs.declared.jobs.Ended.TheVariants as ends
use Rattle.raid_base.specs.Cells.{zero_cell, with_unit}
use Rattle.raid_base.specs.Replies.{grant_of, is_held, is_done}
use Rattle.raid_base.specs.Steps.{Steps, ◌>>=◌, Commit, Walk, Through, Stopped, run}
use Rattle.stripe_layout.specs.Placement.{bay, parity_bay, bay_of, bays_of, unit_at, units, parity_first}
use Rattle.stripe_layout.proofs.LayoutLemmas.{unit_at_parity, unit_apart, unit_back, unit_distinct, covered}
use Rattle.raid_xor.specs.Parities.{parity_of}
use Rattle.degraded_plans.specs.Missing.{missing_of}
use Rattle.degraded_plans.specs.Rows.{AreDataCells, IsSound}
use Rattle.degraded_plans.specs.Laws.{cell_of, others}
use Rattle.degraded_plans.proofs.SoundRows.{parity_sound, parity_blocks, lost_cell, lost_sound, AreData-front, AreData-back}
use Rattle.degraded_plans.proofs.Writes.{others_make}
use Rattle.attempts.specs.declared.Repair.{Repair}
use Rattle.attempts.specs.declared.Hold.{Hold}
use Rattle.attempts.specs.declared.Rescue.{Rescue}
use Rattle.attempts.specs.Taking.{Finish, Row, Taken, no_rows, begun, why, with_grant, with_parity, with_wanted, grant_or_gap, taking, claim, claims, confirm}
use Rattle.attempts.specs.Releases.{release, releases, releasing, end_as, released_steps, refused_steps, parity_granted}
use Rattle.attempts.specs.Reading.{cell_in, cells_in}
use Rattle.attempts.specs.Puts.{put}
use Rattle.attempts.specs.Mending.{is_at, is_bare, with_hold, good_grant, mending, mend_why, mend_releases, holds_but, cells_of, cell_at, is_shown, mended_unit, mended_cell, mend_putting, put_cause, mend_put, mend_numbered, mend_drawn, mend_confirmed, mend_confirming, mend_claimed}
use Rattle.attempts.specs.Recovery.{whole_part, unseized_data, unseized_parity, granted_data, give_back, recover_refused, missing_in, is_torn, Verdict, Leaves, Sums, hole_verdict, verdict_of, verdict, mark_lost, recovered_parity, lost_commits, recover_putting, closing, recover_put, recover_by, recover_drawn, recover_confirmed, stays, recover_confirming, units_seized, seize_units, parity_taken, parity_seized}
use Rattle.attempts.specs.Sound.{Cells, cell_on, IsSoundRow, IsThis, GrantShows, Showing, PutsCell, lost_units, PutsParity, IsDataRow, MendsRestore, RecoveriesMakeSound}
use Rattle.attempts.proofs.RoomLemmas.{all-append, all-made}
use Rattle.attempts.proofs.SoundLemmas.{shows-walk, shows-units, shows-one, shows-any, parity-on, unit-on, units-all, all-filter, units-on, whole-row, but, row-but, others-blocks, one-parity}
use Rattle.attempts.proofs.GotLemmas.{seize-gives, Took, took, range-ascends, gap-in, Got, got-next, no-gap, one-gap}

-- Bays, and those but one
abbrev bays_but : BayNo → List BayNo → List BayNo
bays_but at bays = filter (λ (other : BayNo). not (is_at other at)) bays

module _ (n : ℕ) (row : RowNo) (least : 3 ≤ n) where
  but-parity : (us : List ℕ) → AllByRecursion (λ unit. unit < n - 1) us → bays_but (parity_bay n row) (bays_of n row us) ≡ bays_of n row us
  but-parity [] all = refl
  but-parity (unit ∷ us) all = one (is_at (bay_of n row unit) (parity_bay n row)) (ne_eqb _ _ (λ e. unit_apart n row unit least all.0 (ap bay e))) (but-parity us all.1) where
    one : (b : Bool) → b ≡ false → bays_but (parity_bay n row) (bays_of n row us) ≡ bays_of n row us
        → cond (not b) (bay_of n row unit ∷ bays_but (parity_bay n row) (bays_of n row us)) (bays_but (parity_bay n row) (bays_of n row us)) ≡ bay_of n row unit ∷ bays_of n row us
    one true e rest = cc
    one false e rest = ap (λ (bays : List BayNo). bay_of n row unit ∷ bays) rest

  same-test : (other unit : ℕ) → other < n - 1 → unit < n - 1 → is_at (bay_of n row other) (bay_of n row unit) ≡ (other == unit)
  same-test other unit ho hu = elim (eqb_tells other unit) [
    | inl same ↦ eq-eqb _ _ (ap (λ u. (bay_of n row u).0) same.1) ∙ sym same.0
    | inr apart ↦ ne_eqb _ _ (λ e. apart.1 (unit_distinct n row other unit least ho hu (ap bay e))) ∙ sym apart.0
  ]

  but-unit : (unit : ℕ) → unit < n - 1 → (us : List ℕ) → AllByRecursion (λ other. other < n - 1) us → bays_but (bay_of n row unit) (bays_of n row us) ≡ bays_of n row (but unit us)
  but-unit unit hu [] all = refl
  but-unit unit hu (other ∷ us) all = one (is_at (bay_of n row other) (bay_of n row unit)) (other == unit) (same-test other unit all.0 hu) (but-unit unit hu us all.1) where
    one : (b c : Bool) → b ≡ c → bays_but (bay_of n row unit) (bays_of n row us) ≡ bays_of n row (but unit us)
        → cond (not b) (bay_of n row other ∷ bays_but (bay_of n row unit) (bays_of n row us)) (bays_but (bay_of n row unit) (bays_of n row us))
        ≡ bays_of n row (cond (not c) (other ∷ but unit us) (but unit us))
    one true true e rest = rest
    one false false e rest = ap (λ (bays : List BayNo). bay_of n row other ∷ bays) rest
    one true false e rest = cc
    one false true e rest = cc

  -- the parity stands first, and on no unit's bay
  first-but : bays_but (parity_bay n row) (parity_first n row) ≡ bays_of n row (units n)
  first-but = one (is_at (parity_bay n row) (parity_bay n row)) (eq-eqb _ _ refl) where
    one : (b : Bool) → b ≡ true
        → cond (not b) (parity_bay n row ∷ bays_but (parity_bay n row) (bays_of n row (units n))) (bays_but (parity_bay n row) (bays_of n row (units n))) ≡ bays_of n row (units n)
    one true e = but-parity (units n) (units-all n)
    one false e = cc

-- Rebuilds
module _ (m : Repair) (cells : Cells) (least : 3 ≤ m.n) (within : m.target.0 < m.n) (sound_row : IsSoundRow m.n cells m.row) where
  abbrev cell_here : BayNo → Cell
  cell_here at = cell_on m.n cells at m.row

  -- a slot that was granted has shown its cell, the target maybe not
  abbrev Known : Hold → Type 0
  Known hold = is_at hold.bay m.target ≡ false → cell_in hold.grant ≡ cell_here hold.bay

  abbrev bays_held : List Hold → List BayNo
  bays_held holds = map (λ (hold : Hold). hold.bay) holds

  held-but : (at : BayNo) (holds : List Hold) → bays_held (holds_but at holds) ≡ bays_but at (bays_held holds)
  held-but at [] = refl
  held-but at (hold ∷ holds) = one (is_at hold.bay at) (held-but at holds) where
    one : (b : Bool) → bays_held (holds_but at holds) ≡ bays_but at (bays_held holds)
        → bays_held (cond (not b) (hold ∷ holds_but at holds) (holds_but at holds)) ≡ cond (not b) (hold.bay ∷ bays_but at (bays_held holds)) (bays_but at (bays_held holds))
    one true rest = rest
    one false rest = ap (λ (bays : List BayNo). hold.bay ∷ bays) rest

  cells-but : (holds : List Hold) → AllByRecursion Known holds → cells_of (holds_but m.target holds) ≡ map cell_here (bays_but m.target (bays_held holds))
  cells-but [] all = refl
  cells-but (hold ∷ holds) all = one (is_at hold.bay m.target) refl (cells-but holds all.1) where
    one : (b : Bool) → is_at hold.bay m.target ≡ b → cells_of (holds_but m.target holds) ≡ map cell_here (bays_but m.target (bays_held holds))
        → cells_of (cond (not b) (hold ∷ holds_but m.target holds) (holds_but m.target holds))
        ≡ map cell_here (cond (not b) (hold.bay ∷ bays_but m.target (bays_held holds)) (bays_but m.target (bays_held holds)))
    one true e rest = rest
    one false e rest =
        ap (λ (cell : Cell). cell ∷ cells_of (holds_but m.target holds)) (all.0 e)
        ∙ ap (λ (rest : List Cell). cell_here hold.bay ∷ rest) rest

  -- the first cell on a bay
  abbrev found : BayNo → List BayNo → Cell
  found at [] = zero_cell
  found at (other ∷ bays) = if is_at other at then cell_here other else found at bays

  not-target : (at : BayNo) → is_at at m.target ≡ false → (other : BayNo) → is_at other at ≡ true → is_at other m.target ≡ false
  not-target at apart other same = grind (arith, nat_tests)

  cell-found : (at : BayNo) → is_at at m.target ≡ false → (holds : List Hold) → AllByRecursion Known holds → cell_at at holds ≡ found at (bays_held holds)
  cell-found at apart [] all = refl
  cell-found at apart (hold ∷ holds) all = one (is_at hold.bay at) refl (cell-found at apart holds all.1) where
    one : (b : Bool) → is_at hold.bay at ≡ b → cell_at at holds ≡ found at (bays_held holds)
        → cond b (cell_in hold.grant) (cell_at at holds) ≡ cond b (cell_here hold.bay) (found at (bays_held holds))
    one true e rest = all.0 (not-target at apart hold.bay e)
    one false e rest = rest

  -- the cell that is put
  abbrev data_cells : List Cell
  data_cells = cells.units m.row

  all-held : (holds : List Hold) → AllByRecursion Known holds → bays_held holds ≡ parity_first m.n m.row → m.target ≡ parity_bay m.n m.row
      → parity_of (cells_of (holds_but (parity_bay m.n m.row) holds)) ≡ cell_here m.target
  all-held holds known held same =
      ap (λ (at : BayNo). parity_of (cells_of (holds_but at holds))) (sym same)
      ∙ ap parity_of (cells-but holds known)
      ∙ ap (λ (at : BayNo). parity_of (map cell_here (bays_but at (bays_held holds)))) same
      ∙ ap (λ (bays : List BayNo). parity_of (map cell_here (bays_but (parity_bay m.n m.row) bays))) held
      ∙ ap (λ (bays : List BayNo). parity_of (map cell_here bays)) (first-but m.n m.row least)
      ∙ ap parity_of (units-on m.n cells m.row least (units m.n) (units-all m.n) ∙ whole-row m.n data_cells sound_row.count)
      ∙ one-parity (parity_of data_cells) (cells.parity m.row) data_cells ((parity_blocks data_cells sound_row.blocks.1).0, sound_row.blocks)
      (parity_sound data_cells sound_row.blocks.1 sound_row.sound.cells) sound_row.sound
      ∙ sym (parity-on m.n cells m.row)
      ∙ ap cell_here (sym same)

  parity-held : (holds : List Hold) → AllByRecursion Known holds → bays_held holds ≡ parity_first m.n m.row → is_at (parity_bay m.n m.row) m.target ≡ false
      → cell_at (parity_bay m.n m.row) holds ≡ cells.parity m.row
  parity-held holds known held apart =
      cell-found (parity_bay m.n m.row) apart holds known
      ∙ ap (found (parity_bay m.n m.row)) held
      ∙ one (is_at (parity_bay m.n m.row) (parity_bay m.n m.row)) (eq-eqb _ _ refl)
      ∙ parity-on m.n cells m.row where
        one : (b : Bool) → b ≡ true → cond b (cell_here (parity_bay m.n m.row)) (found (parity_bay m.n m.row) (bays_of m.n m.row (units m.n))) ≡ cell_here (parity_bay m.n m.row)
        one true e = refl
        one false e = cc

  known-but : (at : BayNo) (holds : List Hold) → AllByRecursion Known holds → AllByRecursion Known (holds_but at holds)
  known-but at holds all = all-filter Known (λ hold. not (is_at hold.bay at)) holds all

  others-held : (unit : ℕ) → unit < m.n - 1 → bay_of m.n m.row unit ≡ m.target → (holds : List Hold) → AllByRecursion Known holds → bays_held holds ≡ parity_first m.n m.row
      → cells_of (holds_but m.target (holds_but (parity_bay m.n m.row) holds)) ≡ others unit data_cells
  others-held unit below stands holds known held =
      cells-but (holds_but (parity_bay m.n m.row) holds) (known-but (parity_bay m.n m.row) holds known)
      ∙ ap (λ (bays : List BayNo). map cell_here (bays_but m.target bays))
      (held-but (parity_bay m.n m.row) holds ∙ ap (bays_but (parity_bay m.n m.row)) held ∙ first-but m.n m.row least)
      ∙ ap (λ (at : BayNo). map cell_here (bays_but at (bays_of m.n m.row (units m.n)))) (sym stands)
      ∙ ap (map cell_here) (but-unit m.n m.row least unit below (units m.n) (units-all m.n))
      ∙ units-on m.n cells m.row least (but unit (units m.n)) (all-filter (λ u. u < m.n - 1) (λ other. not (other == unit)) (units m.n) (units-all m.n))
      ∙ row-but m.n data_cells unit sound_row.count

  unit-held : (unit : ℕ) → unit < m.n - 1 → bay_of m.n m.row unit ≡ m.target → (holds : List Hold) → AllByRecursion Known holds → bays_held holds ≡ parity_first m.n m.row
      → missing_of (cell_at (parity_bay m.n m.row) holds) (cells_of (holds_but m.target (holds_but (parity_bay m.n m.row) holds))) unit ≡ cell_here m.target
  unit-held unit below stands holds known held =
      let apart : is_at (parity_bay m.n m.row) m.target ≡ false = ne_eqb _ _ (λ e. unit_apart m.n m.row unit least below (stands ∙ ap bay (sym e))) in
      let inside : unit < length data_cells = omega (arith, sound_row.count) in
      ap (λ (parity : Cell). missing_of parity (cells_of (holds_but m.target (holds_but (parity_bay m.n m.row) holds))) unit) (parity-held holds known held apart)
      ∙ ap (λ (rest : List Cell). missing_of (cells.parity m.row) rest unit) (others-held unit below stands holds known held)
      ∙ (others_make (cells.parity m.row) data_cells unit sound_row.blocks inside sound_row.sound).makes
      ∙ sym (unit-on m.n cells m.row unit least below)
      ∙ ap cell_here stands

  restored : (holds : List Hold) → AllByRecursion Known holds → bays_held holds ≡ parity_first m.n m.row → mended_cell m holds ≡ cell_here m.target
  restored holds known held = elim (covered m.n m.row m.target least within) [
    | inl same ↦ ap (mended_unit m holds) (ap (unit_at m.n m.row) same ∙ unit_at_parity m.n m.row) ∙ all-held holds known held same
    | inr h ↦
        ap (mended_unit m holds) (ap (unit_at m.n m.row) (sym h.1.stands) ∙ unit_back m.n m.row h.0 least h.1.unit_in)
        ∙ unit-held h.0 h.1.unit_in h.1.stands holds known held
  ]

  -- Walks
  abbrev Mends : Steps Finish → Type 0
  Mends s = Showing m.n cells (PutsCell m.n cells) (λ (finish : Finish). Unit {0}) s

  released-mends : (bays : List BayNo) (ended : Ended) → Mends (released_steps (releases m.id m.row None bays) ended)
  released-mends bays ended =
      shows-any m.n cells (PutsCell m.n cells) (λ (finish : Finish). Unit {0}) releasing (end_as ended) (releases m.id m.row None bays) tt
      (all-made (λ (e : Errand). (u : Unit {0}) → PutsCell m.n cells e []) (release m.id m.row None) (λ at u. record { cell = tt; committed = tt }) bays)
      (λ walk. tt)

  mend-refuses : (holds : List Hold) (cause : Cause) → Mends (refused_steps (mend_releases m holds) cause)
  mend-refuses holds cause = released-mends _ (ends.Refused cause)

  numbered-mends : (n : Number) (holds : List Hold) → AllByRecursion Known holds → bays_held holds ≡ parity_first m.n m.row → (b : Bool) → Mends (mend_numbered m holds n b)
  numbered-mends n holds known held true = released-mends _ ends.Mended
  numbered-mends n holds known held false =
      shows-one m.n cells (PutsCell m.n cells) (λ (finish : Finish). Unit {0}) mend_putting (mend_put m holds) (put m.id m.row n (mended_cell m holds) m.target) tt
      (record { cell = restored holds known held; committed = tt })
      (λ r s. given (is_done r))
      (λ r s. mend-refuses holds (put_cause m.row (put m.id m.row n (mended_cell m holds) m.target) r)) where
        given : (b : Bool) → IfSome (cond b (Some tt) None) (λ (u : Unit {0}). Mends (mend_put m holds (Through u)))
        given true = released-mends _ ends.Mended
        given false = tt

  drawn-mends : (holds : List Hold) → AllByRecursion Known holds → bays_held holds ≡ parity_first m.n m.row → (d : Result Number Spent) → Mends (mend_drawn m holds d)
  drawn-mends holds known held (Err spent) = mend-refuses holds (causes.Spent spent.seen)
  drawn-mends holds known held (Ok n) = numbered-mends n holds known held (is_shown m.target holds)

  claimed-mends : (holds : List Hold) → AllByRecursion Known holds → bays_held holds ≡ parity_first m.n m.row → Mends (mend_claimed m (Through holds))
  claimed-mends holds known held =
      shows-one m.n cells (PutsCell m.n cells) (λ (finish : Finish). Unit {0}) mend_confirming (mend_confirmed m holds) (confirm m.id m.row false (parity_bay m.n m.row)) tt
      (record { cell = tt; committed = tt })
      (λ r s. given (is_held r))
      (λ r s. mend-refuses holds (mend_why (confirm m.id m.row false (parity_bay m.n m.row)) r (causes.Changed m.row))) where
        given : (b : Bool) → IfSome (cond b (Some tt) None) (λ (u : Unit {0}). Mends (mend_confirmed m holds (Through u)))
        given true = λ d. drawn-mends holds known held d
        given false = tt

  -- the slots that were granted so far, and those that are left
  record Held (left : List BayNo) (holds : List Hold) : Type 0 where
    known : AllByRecursion Known holds
    bays : bays_held holds ++ left ≡ parity_first m.n m.row

  one-more : (at : BayNo) (left : List BayNo) (holds : List Hold) (grant : Grant) → Held (at ∷ left) holds → Known (record { bay = at; grant = grant })
      → Held left (holds ++ record { bay = at; grant = grant } ∷ [])
  one-more at left holds grant j known = record {
    known = all-append Known holds (record { bay = at; grant = grant } ∷ []) j.known (known, tt);
    bays =
        ap (λ (bays : List BayNo). bays ++ left) (map-append (λ (hold : Hold). hold.bay) holds (record { bay = at; grant = grant } ∷ []))
        ∙ append_assoc (bays_held holds) (at ∷ []) left
        ∙ j.bays;
  }

  shown-cell : (cell : Cell) (shown : Option Cell) (t : Bool) → IsThis cell shown → (is_none shown && not t) ≡ false → t ≡ false → unwrap_or shown zero_cell ≡ cell
  shown-cell cell None true is bare e = cc
  shown-cell cell None false is bare e = cc
  shown-cell cell (Some other) t is bare e = is

  claim-kept : (at : BayNo) (left : List BayNo) (holds : List Hold) → Held (at ∷ left) holds → (o : Option Grant) → GrantShows (cell_here at) o
      → IfSome (option_map (λ (hold : Hold). holds ++ hold ∷ []) (good_grant m at o)) (Held left)
  claim-kept at left holds j None s = tt
  claim-kept at left holds j (Some grant) s = one (is_bare m at grant) refl where
    one : (b : Bool) → is_bare m at grant ≡ b → IfSome (option_map (λ (hold : Hold). holds ++ hold ∷ []) (cond b None (Some (record { bay = at; grant = grant })))) (Held left)
    one true e = tt
    one false e = one-more at left holds grant j (λ apart. shown-cell (cell_here at) grant.cell (is_at at m.target) s e apart)

  mends : Mends (run (mending m) (claims m.id m.row Mend true (parity_first m.n m.row)) [] >>= mend_claimed m)
  mends =
      shows-walk m.n cells (PutsCell m.n cells) (λ (finish : Finish). Unit {0}) (claim m.id m.row Mend 0 true) Held (mending m) (mend_claimed m)
      (λ at left holds j. record { cell = tt; committed = tt })
      (λ at left holds r j s. claim-kept at left holds j (grant_of r) s.cell)
      (λ holds j. claimed-mends holds j.known (sym (append-nil (bays_held holds)) ∙ j.bays))
      (λ at left holds r j s. mend-refuses (with_hold holds at (grant_of r)) (mend_why (claim m.id m.row Mend 0 true at) r (causes.Gone at)))
      (parity_first m.n m.row) [] (record { known = tt; bays = refl })

pub rebuilds_restore : MendsRestore
rebuilds_restore m rows cells is sound = mends m cells is.least is.target sound

-- Recoveries
module _ (r : Rescue) (cells : Cells) (least : 3 ≤ r.n) (any_row : IsDataRow r.n cells r.row) where
  abbrev row_cells : List Cell
  row_cells = cells.units r.row

  abbrev Makes : Steps Finish → Type 0
  Makes s = Showing r.n cells (PutsParity r.n cells) (λ (finish : Finish). Unit {0}) s

  given-back : (bays : List BayNo) (ended : Ended) → Makes (released_steps (give_back r bays) ended)
  given-back bays ended =
      shows-any r.n cells (PutsParity r.n cells) (λ (finish : Finish). Unit {0}) releasing (end_as ended) (give_back r bays) tt
      (all-made (λ (e : Errand). (u : Unit {0}) → PutsParity r.n cells e []) (release r.id r.row None) (λ at u. record { cell = tt; committed = tt }) bays)
      (λ walk. tt)

  recover-refuses : (row : Row) (cause : Cause) → Makes (recover_refused r row cause)
  recover-refuses row cause = given-back (unseized_data r row ++ unseized_parity r row.parity) (ends.Refused cause)

  -- the parity that is put is sound
  abbrev SumsSoundly : Row → Verdict → Type 0
  SumsSoundly row Leaves = Unit {0}
  SumsSoundly row (Sums lost) = IsSound (recovered_parity row lost) (lost_units row_cells (lost_commits r lost))

  whole-sound : (row : Row) → cells_in row.wanted ≡ map (cell_of row_cells) (units r.n) → SumsSoundly row (Sums None)
  whole-sound row same =
      subst (λ (present : List Cell). IsSound (parity_of present) row_cells) (sym (same ∙ whole-row r.n row_cells any_row.count))
      (parity_sound row_cells any_row.blocks any_row.data_cells)

  -- a row, split at a unit
  split-row : (unit : ℕ) → unit < length row_cells → row_cells ≡ take unit row_cells ++ cell_of row_cells unit ∷ drop (unit + 1) row_cells
  split-row unit below = sym (take-append-drop unit row_cells) ∙ at_drop_more (λ (later : List Cell). take unit row_cells ++ later) row_cells unit zero_cell below

  lost-row : (unit : ℕ) → unit < length row_cells → take unit row_cells ++ lost_cell unit ∷ drop (unit + 1) row_cells ≡ slice_set row_cells unit (lost_cell unit)
  lost-row unit below =
      ap (λ (later : List Cell). take unit row_cells ++ later) (sym (drop-set row_cells unit (lost_cell unit) below))
      ∙ ap (λ (before : List Cell). before ++ drop unit (slice_set row_cells unit (lost_cell unit))) (sym (take-set row_cells unit (lost_cell unit)))
      ∙ take-append-drop unit (slice_set row_cells unit (lost_cell unit))

  given-up : (unit : ℕ) → unit < length row_cells
      → IsSound (record (parity_of (others unit row_cells)) { lost = with_unit (parity_of (others unit row_cells)).lost unit }) (slice_set row_cells unit (lost_cell unit))
  given-up unit below =
      let before : List Cell = take unit row_cells in
      let cell : Cell = cell_of row_cells unit in
      let later : List Cell = drop (unit + 1) row_cells in
      let whole : AreDataCells 0 (before ++ cell ∷ later) = subst (AreDataCells 0) (split-row unit below) any_row.data_cells in
      let sound = lost_sound before later (others-blocks row_cells unit any_row.blocks) (AreData-front 0 before (cell ∷ later) whole) (AreData-back 0 (length before) before (cell ∷ later) (omega arith) whole).1 in
      subst (λ (now : List Cell). IsSound (record (parity_of (others unit row_cells)) { lost = with_unit (parity_of (others unit row_cells)).lost unit }) now) (lost-row unit below)
      (subst (λ (k : ℕ). IsSound (record (parity_of (before ++ later)) { lost = with_unit (parity_of (before ++ later)).lost k }) (before ++ lost_cell k ∷ later))
      (length-take-le unit row_cells (omega arith)) sound)

  torn-sound : (row : Row) (unit : ℕ) → unit < r.n - 1 → cells_in row.wanted ≡ map (cell_of row_cells) (but unit (units r.n)) → SumsSoundly row (Sums (Some unit))
  torn-sound row unit below same =
      subst (λ (present : List Cell). IsSound (mark_lost (parity_of present) (Some unit)) (slice_set row_cells unit (lost_cell unit))) (sym (same ∙ row-but r.n row_cells unit any_row.count))
      (given-up unit (omega (arith, any_row.count)))

  verdict-sound : (row : Row) (missing : Option BayNo) → Got r.n cells r.row missing (units r.n) [] row.wanted → (o : Option Grant) → SumsSoundly row (verdict_of r row o)
  verdict-sound row missing got None = tt
  verdict-sound row missing got (Some grant) = hole (missing_in (zip (units r.n) row.wanted)) refl where
    hole : (o : Option ℕ) → missing_in (zip (units r.n) row.wanted) ≡ o → SumsSoundly row (hole_verdict r row o)
    hole None e = whole-sound row (no-gap r.n cells r.row least missing (units r.n) row.wanted (units-all r.n) got e)
    hole (Some unit) e = one (is_torn r row unit) where
      one : (b : Bool) → SumsSoundly row (cond b (Sums (Some unit)) Leaves)
      one true =
          torn-sound row unit (gap-in (λ u. u < r.n - 1) (units r.n) row.wanted unit e (units-all r.n))
          (one-gap r.n cells r.row least missing 0 (units r.n) row.wanted unit (range-ascends 0 (r.n - 1)) (units-all r.n) got e)
      one false = tt

  -- Walks
  put-makes : (row : Row) (n : Number) (lost : Option ℕ) (walk : Walk (Unit {0})) → Makes (recover_put r row n lost walk)
  put-makes row n lost (Stopped u e reply) = given-back (unseized_data r row) (ends.Refused (put_cause r.row e reply))
  put-makes row n lost (Through u) =
      shows-any r.n cells (PutsParity r.n cells) (λ (finish : Finish). Unit {0}) (closing n lost) (end_as (ends.Recovered n true lost)) (give_back r (granted_data r row)) tt
      (all-made (λ (e : Errand). (u : Unit {0}) → PutsParity r.n cells e []) (release r.id r.row None) (λ at u. record { cell = tt; committed = tt }) (granted_data r row))
      (λ walk. tt)

  by-makes : (row : Row) (n : Number) (v : Verdict) → SumsSoundly row v → Makes (recover_by r row n v)
  by-makes row n Leaves sound = given-back (granted_data r row ++ parity_granted r.n r.row row.parity) (ends.Recovered n true None)
  by-makes row n (Sums lost) sound =
      shows-one r.n cells (PutsParity r.n cells) (λ (finish : Finish). Unit {0}) (recover_putting r lost) (recover_put r row n lost)
      (put r.id r.row n (recovered_parity row lost) (parity_bay r.n r.row)) tt
      (record { cell = (refl, sound); committed = named lost })
      (λ reply s. given (is_done reply))
      (λ reply s. put-makes row n lost (Stopped tt (put r.id r.row n (recovered_parity row lost) (parity_bay r.n r.row)) reply)) where
        given : (b : Bool) → IfSome (cond b (Some tt) None) (λ (u : Unit {0}). Makes (recover_put r row n lost (Through u)))
        given true = put-makes row n lost (Through tt)
        given false = tt

        named : (lost : Option ℕ) → AllByRecursion (λ (c : Commit). c.content ≡ Lost) (lost_commits r lost)
        named None = tt
        named (Some unit) = (refl, tt)

  drawn-makes : (row : Row) (missing : Option BayNo) → Got r.n cells r.row missing (units r.n) [] row.wanted → (d : Result Number Spent) → Makes (recover_drawn r row d)
  drawn-makes row missing got (Err spent) = recover-refuses row (causes.Spent spent.seen)
  drawn-makes row missing got (Ok n) = by-makes row n (verdict r row) (verdict-sound row missing got row.parity)

  -- the units that were granted so far, and those that are left
  abbrev Seizing : List ℕ → Taken → Type 0
  Seizing left taken = Got r.n cells r.row taken.missing (units r.n) left taken.row.wanted

  confirm-makes : (taken : Taken) → Seizing [] taken → Makes (units_seized r (Through taken))
  confirm-makes taken got =
      shows-one r.n cells (PutsParity r.n cells) (λ (finish : Finish). Unit {0}) (recover_confirming taken) (recover_confirmed r taken)
      (confirm r.id r.row false (parity_bay r.n r.row)) tt
      (record { cell = tt; committed = tt })
      (λ reply s. given (stays taken (parity_bay r.n r.row) reply))
      (λ reply s. recover-refuses taken.row _) where
        given : (b : Bool) → IfSome (cond b (Some tt) None) (λ (u : Unit {0}). Makes (recover_confirmed r taken (Through u)))
        given true = λ d. drawn-makes taken.row taken.missing got d
        given false = tt

  unit-kept : (u : ℕ) (us : List ℕ) (taken : Taken) → Seizing (u ∷ us) taken → (o : Option (Option Grant)) → Took true (cell_on r.n cells (bay_of r.n r.row u) r.row) taken.missing (bay_of r.n r.row u) o
      → IfSome (option_map (with_grant with_wanted taken (bay_of r.n r.row u)) o) (Seizing us)
  unit-kept u us taken got None t = tt
  unit-kept u us taken got (Some None) t = got-next r.n cells r.row taken.missing (units r.n) us u taken.row.wanted None got t
  unit-kept u us taken got (Some (Some grant)) t = got-next r.n cells r.row taken.missing (units r.n) us u taken.row.wanted (Some grant) got t

  seize-makes : (taken : Taken) → Seizing (units r.n) taken → Makes (seize_units r taken)
  seize-makes taken got =
      shows-units r.n cells (PutsParity r.n cells) (λ (finish : Finish). Unit {0}) (bay_of r.n r.row) (claim r.id r.row Seize 0 true) Seizing (taking None with_wanted) (units_seized r)
      (λ u us taken got. record { cell = tt; committed = tt })
      (λ u us taken reply got s. unit-kept u us taken got (grant_or_gap None taken.missing (bay_of r.n r.row u) reply)
      (took true (cell_on r.n cells (bay_of r.n r.row u) r.row) None taken.missing (bay_of r.n r.row u) reply (seize-gives true reply s.fitting) s.cell))
      confirm-makes
      (λ u us taken reply got s. recover-refuses taken.row (why None taken (claim r.id r.row Seize 0 true (bay_of r.n r.row u)) reply))
      (units r.n) taken got

  parity-makes : (taken : Taken) → Seizing (units r.n) taken → (o : Option Grant) → Makes (parity_taken r taken o)
  parity-makes taken got (Some grant) = seize-makes taken got
  parity-makes taken got None = one (r.host.0 == 0) where
    one : (b : Bool) → Makes (cond b (seize_units r taken) (recover_refused r taken.row (causes.Gone (parity_bay r.n r.row))))
    one true = seize-makes taken got
    one false = recover-refuses taken.row (causes.Gone (parity_bay r.n r.row))

  abbrev first_claim : Errand
  first_claim = claim r.id r.row Seize 0 true (parity_bay r.n r.row)

  abbrev first_taken : Taken
  first_taken = begun (whole_part r) no_rows

  makes : Makes (run (taking None with_parity) (first_claim ∷ []) first_taken >>= parity_seized r)
  makes =
      shows-one r.n cells (PutsParity r.n cells) (λ (finish : Finish). Unit {0}) (taking None with_parity) (parity_seized r) first_claim first_taken
      (record { cell = tt; committed = tt })
      (λ reply s. given (grant_or_gap None first_taken.missing (parity_bay r.n r.row) reply))
      (λ reply s. recover-refuses first_taken.row (why None first_taken first_claim reply)) where
        given : (o : Option (Option Grant)) → IfSome (option_map (with_grant with_parity first_taken (parity_bay r.n r.row)) o) (λ (taken : Taken). Makes (parity_seized r (Through taken)))
        given None = tt
        given (Some None) = parity-makes (with_grant with_parity first_taken (parity_bay r.n r.row) None) refl None
        given (Some (Some grant)) = parity-makes (with_grant with_parity first_taken (parity_bay r.n r.row) (Some grant)) refl (Some grant)

pub recoveries_make_sound : RecoveriesMakeSound
recoveries_make_sound r rows cells is any_row = makes r cells is.least any_row
