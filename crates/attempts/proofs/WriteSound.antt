-- Writes keep rows sound.
use Rattle.std.proofs.Common.{◌≡◌, refl, sym, ap, subst, ◌∙◌, ℕ, ◌+◌, ◌-◌, ◌<◌, ◌≤◌, ◌==◌, ◌||◌, ◌&&◌, not, eqb, Bool, true, false, cond, List, [], ◌∷◌, ◌++◌, length, map, Option, Some, None, IfSome, option_map, unwrap_or, zip, Result, Ok, Err, arith}
use Rattle.std.specs.List.{AllByRecursion, All, IsDistinct}
use Rattle.std.proofs.lemmas.Bool.{cond-true, cond-false, eq-eqb}
use Rattle.std.proofs.lemmas.Bool.Decides.{nat_tests}
use Rattle.std.proofs.lemmas.List.Elements.{All-head, All-tail}
use Rattle.std.proofs.lemmas.Map.Keys.{IsDistinct-head, IsDistinct-tail}
use Rattle.raid_base.specs.declared.numbers.BayNo.{BayNo}
use Rattle.raid_base.specs.declared.numbers.Number.{Number}
use Rattle.raid_base.specs.declared.numbers.Spent.{Spent}
use Rattle.raid_base.specs.declared.cells.Cell.{Cell}
use Rattle.raid_base.specs.declared.jobs.Cause.{Cause}
use Rattle.raid_base.specs.declared.jobs.Cause.TheVariants as causes
use Rattle.raid_base.specs.declared.jobs.Ended.TheVariants as ends
use Rattle.raid_base.specs.declared.jobs.Plan.{Plan}
use Rattle.raid_base.specs.declared.jobs.Plan.TheVariants.{Full, Small, Reconstruct}
use Rattle.raid_base.specs.declared.jobs.RowPart.{RowPart}
use Rattle.raid_base.specs.declared.messages.How.TheVariants as hows
use Rattle.raid_base.specs.declared.messages.Mode.{Mode}
use Rattle.raid_base.specs.declared.messages.Mode.TheVariants.{Lock, Order}
use Rattle.raid_base.specs.declared.messages.Reply.{Reply}
use Rattle.raid_base.specs.declared.messages.Reply.TheVariants.{Granted, Busy, Late, Young, Missing, Held, NoNote, Done, Fault, Emptied, Fitted}
use Rattle.raid_base.specs.declared.messages.Errand.{Errand}
use Rattle.raid_base.specs.declared.messages.Grant.{Grant}
use Rattle.raid_base.specs.declared.messages.PutEnd.{PutEnd}
use Rattle.raid_base.specs.declared.messages.PutEnd.TheVariants.{Made, Unnoted, Failed}
use Rattle.raid_base.specs.Fits.{fits_share, fits_claim}
use Rattle.raid_base.specs.Replies.{grant_of, held_of, is_missing, put_end}
use Rattle.raid_base.specs.Cells.{zero_cell, plain_cell, has_unit, content_of}
use Rattle.raid_base.specs.Steps.{Steps, ◌>>=◌, Commit, Walk, Through, Stopped, run}
use Rattle.stripe_layout.specs.Placement.{bay, parity_bay, bay_of, bays_of, units_in, units_out}
use Rattle.stripe_layout.proofs.LayoutLemmas.{unit_back, unit_distinct}
use Rattle.virtual_objects.specs.Table.{numbers}
use Rattle.virtual_objects.specs.RowParts.{part_rows, IsPart, AreInTurn}
use Rattle.raid_xor.specs.Parities.{parity_of}
use Rattle.raid_xor.specs.Laws.{AreBlocks}
use Rattle.degraded_plans.specs.Rows.{IsSound}
use Rattle.degraded_plans.specs.Laws.{changed, cell_of}
use Rattle.attempts.specs.Taking.{Access, Finish, Row, Rows, no_rows, Taken, begun, row_ended, lacks, behind_from, refusal, is_behind, broken, with_grant, unless, taking_until, why, with_parity, with_wanted, with_other, share, claim}
use Rattle.attempts.specs.Parts.{blocks_in}
use Rattle.attempts.specs.Releases.{release, releases, releasing, end_as, refused_steps, granted_of, others_granted, write_holds, write_releases}
use Rattle.attempts.specs.Reading.{cell_in, cells_in, parity_in}
use Rattle.attempts.specs.Puts.{wanted_units, new_blocks, block_at, plan_of, folded, is_small_plan, goes_small, new_parity, Puts, no_puts, at_row, with_trouble, with_left, data_put, unit_of, granted_life, data_put_by, trouble_of, unit_commit, putting_data, missing_units, parity_units, parity_put, putting_parity}
use Rattle.attempts.specs.Writing.{write_stopped, finishing, reader_releases, write_end, write_last, parity_done, put_parity, data_done, put_rows, put_steps, write_drawn, write_numbered, held_row, confirmed_row, unrefused_row, confirming, row_confirm, confirm_cause, row_confirmed, confirm_rows, claiming, row_claimed, wanted_claims, other_shares, claim_wanted, share_others, small_claimed, share_stopped, others_shared, claim_row, parity_claimed, parity_claim, claim_rows}
use Rattle.attempts.specs.Sound.{Cells, cell_on, IsSoundRow, AreSoundRows, GrantShows, HeldShows, Showing, PutsCell, part_changes, written_units, written_parity, written_cells, IsWriting, WritesKeepRowsSound}
use Rattle.attempts.proofs.RoomLemmas.{all-append, all-map, all-made}
use Rattle.attempts.proofs.PartLemmas.{blocks-cons}
use Rattle.attempts.proofs.PhaseLemmas.{all-flat, both-some, weaken-some}
use Rattle.attempts.proofs.WritePhases.{all-granted}
use Rattle.attempts.proofs.SoundLemmas.{shows-walk, shows-units, shows-one, shows-any, parity-on, unit-on}
use Rattle.attempts.proofs.WriteSums.{all-both, units-known, Filled, filled-more, filled-weaken, Shown, Given, all-given, given-lacks, lacks-more, lacks-same, not-true, IsReady, ready-count, ready-blocks, ready-sound, wanted-cells, whole-parity, small-parity, none-out}

-- Which part a row is written by
module _ (a : Access) where
  record Picks (parts : List RowPart) (part : RowPart) : Type 0 where
    units : (cells : List Cell) → written_units a parts part.row cells ≡ changed cells (part_changes a part)
    parity : (p : Cell) (cells : List Cell) → written_parity a parts part.row p cells ≡ parity_of (changed cells (part_changes a part))

  picks-first : (part : RowPart) (parts : List RowPart) → Picks (part ∷ parts) part
  picks-first part parts = record {
    units = λ cells. cond-true (part.row.0 == part.row.0) (changed cells (part_changes a part)) (written_units a parts part.row cells) (eq-eqb part.row.0 part.row.0 refl);
    parity = λ p cells. cond-true (part.row.0 == part.row.0) (parity_of (changed cells (part_changes a part))) (written_parity a parts part.row p cells) (eq-eqb part.row.0 part.row.0 refl);
  }

  picks-later : (part : RowPart) (parts : List RowPart) (other : RowPart) → eqb part.row.0 other.row.0 ≡ false → Picks parts other → Picks (part ∷ parts) other
  picks-later part parts other apart picks = record {
    units = λ cells. cond-false (part.row.0 == other.row.0) (changed cells (part_changes a part)) (written_units a parts other.row cells) apart ∙ picks.units cells;
    parity = λ p cells. cond-false (part.row.0 == other.row.0) (parity_of (changed cells (part_changes a part))) (written_parity a parts other.row p cells) apart ∙ picks.parity p cells;
  }

  picks-rest : (part : RowPart) (parts others : List RowPart) → AllByRecursion (λ row. eqb part.row.0 row ≡ false) (numbers (part_rows others)) → AllByRecursion (Picks parts) others
      → AllByRecursion (Picks (part ∷ parts)) others
  picks-rest part parts [] apart picks = tt
  picks-rest part parts (other ∷ others) apart picks = (picks-later part parts other apart.0 picks.0, picks-rest part parts others apart.1 picks.1)

  picks-all : (parts : List RowPart) → IsDistinct eqb (numbers (part_rows parts)) → AllByRecursion (Picks parts) parts
  picks-all [] apart = tt
  picks-all (part ∷ parts) apart = (
    picks-first part parts,
    picks-rest part parts parts (IsDistinct-head eqb part.row.0 (numbers (part_rows parts)) apart)
        (picks-all parts (IsDistinct-tail eqb part.row.0 (numbers (part_rows parts)) apart)),
  )

-- Replies to shares and claims
-- a cell that is wanted is shown
abbrev ShownIf : Bool → Cell → Option Grant → Type 0
ShownIf want cell o = IfSome o (λ (grant : Grant). want ≡ true → grant.cell ≡ Some cell)

-- a slot that does not refuse though it is missing stands on the bay that was missing before, if any
abbrev GapIf : Option BayNo → BayNo → Option Cause → Option Grant → Type 0
GapIf missing at cause o = cause ≡ None → o ≡ None → IfSome missing (λ first. first ≡ at)

gap-same : (first at : BayNo) (b : Bool) (cause : Cause) → (first.0 == at.0) ≡ b → cond b None (Some cause) ≡ None → first ≡ at
gap-same first at true cause is e = let same : first.0 ≡ at.0 = grind (arith, nat_tests) in ap bay same
gap-same first at false cause is e = absurd (cc)

gap-missing : (missing : Option BayNo) (at : BayNo) (behind : Bool) (cause : Cause) → cond behind (Some cause) (broken missing at) ≡ None → IfSome missing (λ first. first ≡ at)
gap-missing missing at true cause e = absurd (cc)
gap-missing None at false cause e = tt
gap-missing (Some first) at false cause e = gap-same first at (first.0 == at.0) _ refl e

gap-of : (want : Bool) (least : Option Number) (missing : Option BayNo) (at : BayNo) (reply : Reply) → fits_claim hows.Plain want reply ≡ true
    → GapIf missing at (refusal least missing at reply) (grant_of reply)
gap-of want least missing at (Granted cell read_no write_no last life seized) fit e f = absurd (cc)
gap-of want least missing at (Busy holder) fit e f = absurd (cc)
gap-of want least missing at (Late above) fit e f = absurd (cc)
gap-of want least missing at (Young note) fit e f = absurd (cc)
gap-of want least missing at (Missing floor) fit e f = gap-missing missing at (is_behind least floor) _ e
gap-of want least missing at (Held cell) fit e f = absurd (cc)
gap-of want least missing at (NoNote life) fit e f = absurd (cc)
gap-of want least missing at Done fit e f = absurd (cc)
gap-of want least missing at Fault fit e f = absurd (cc)
gap-of want least missing at Emptied fit e f = absurd (cc)
gap-of want least missing at Fitted fit e f = absurd (cc)

shown-of : (want : Bool) (cell : Cell) (reply : Reply) → fits_claim hows.Plain want reply ≡ true → GrantShows cell (grant_of reply) → ShownIf want cell (grant_of reply)
shown-of want cell (Granted (Some other) read_no write_no last life seized) fit shows = λ e. ap (λ (c : Cell). Some c) shows
shown-of true cell (Granted None read_no write_no last life seized) fit shows = λ e. absurd (cc)
shown-of false cell (Granted None read_no write_no last life seized) fit shows = λ e. absurd (cc)
shown-of want cell (Busy holder) fit shows = tt
shown-of want cell (Late above) fit shows = tt
shown-of want cell (Young note) fit shows = tt
shown-of want cell (Missing floor) fit shows = tt
shown-of want cell (Held other) fit shows = tt
shown-of want cell (NoNote life) fit shows = tt
shown-of want cell Done fit shows = tt
shown-of want cell Fault fit shows = tt
shown-of want cell Emptied fit shows = tt
shown-of want cell Fitted fit shows = tt

-- a reply to a share is one to a claim
share-fits : (reply : Reply) → fits_share true reply ≡ fits_claim hows.Plain true reply
share-fits (Granted cell read_no write_no last life seized) = refl
share-fits (Busy holder) = refl
share-fits (Late above) = refl
share-fits (Young note) = refl
share-fits (Missing floor) = refl
share-fits (Held cell) = refl
share-fits (NoNote life) = refl
share-fits Done = refl
share-fits Fault = refl
share-fits Emptied = refl
share-fits Fitted = refl

-- a bay that is missing stays so
gap-stays : (first missing : Option BayNo) (at : BayNo) → IfSome first (λ b. missing ≡ Some b) → IfSome missing (λ b. b ≡ at) → IfSome first (λ b. Some at ≡ Some b)
gap-stays None missing at stays gap = tt
gap-stays (Some b) missing at stays gap = ap (λ (b : BayNo). Some b) (sym (subst (λ (o : Option BayNo). IfSome o (λ b. b ≡ at)) stays gap))

-- Plans
clash : (b : Bool) → b ≡ true → b ≡ false → ⊥
clash true e f = cc
clash false e f = cc

full-all : (d k : ℕ) (all some : Bool) → (k == d) ≡ all → cond all Full (cond some Small Reconstruct) ≡ Full → k ≡ d
full-all d k true some is e = grind (arith, nat_tests)
full-all d k false true is e = absurd (cc)
full-all d k false false is e = absurd (cc)

-- by the plan, and whether a wanted unit is missing, and another
goes-plan : (small wanted other : Bool) → small ≡ false → other ≡ false → ((small && not wanted) || other) ≡ false
goes-plan true wanted other e f = absurd (cc)
goes-plan false wanted true e f = absurd (cc)
goes-plan false wanted false e f = refl

goes-wanted : (small wanted other : Bool) → wanted ≡ true → other ≡ false → ((small && not wanted) || other) ≡ false
goes-wanted small false other e f = absurd (cc)
goes-wanted small true true e f = absurd (cc)
goes-wanted true true false e f = refl
goes-wanted false true false e f = refl

goes-whole : (small wanted other : Bool) → small ≡ true → wanted ≡ false → ((small && not wanted) || other) ≡ true
goes-whole false wanted other e f = absurd (cc)
goes-whole true true other e f = absurd (cc)
goes-whole true false other e f = refl

goes-other : (small wanted other : Bool) → other ≡ true → ((small && not wanted) || other) ≡ true
goes-other small wanted false e = absurd (cc)
goes-other true true true e = refl
goes-other true false true e = refl
goes-other false wanted true e = refl

-- The parts of a write, and what it makes of their rows
module _ (a : Access) (cells : Cells) where
  abbrev after_it : Cells
  after_it = written_cells a cells

  record Known (part : RowPart) : Type 0 where
    ready : IsReady a part (cells.parity part.row) (cells.units part.row)
    units : after_it.units part.row ≡ changed (cells.units part.row) (part_changes a part)
    parity : after_it.parity part.row ≡ parity_of (changed (cells.units part.row) (part_changes a part))

  known-all : (is : IsWriting a) (at : ℕ) (parts : List RowPart) → AllByRecursion (Picks a a.parts) parts → All (IsPart a.n) parts → AreInTurn at parts
      → at + blocks_in parts ≤ length a.blocks → AreSoundRows a.n cells parts → AllByRecursion Known parts
  known-all is at [] picks each turns room sound = tt
  known-all is at (part ∷ parts) picks each turns room sound =
      let begins : part.at ≡ at = turns.0 in
      let more : blocks_in (part ∷ parts) ≡ part.count + blocks_in parts = blocks-cons part parts in (
        record {
          ready = record {
            part_is = All-head (IsPart a.n) part parts each;
            long = is.blocks;
            room = omega arith;
            count = sound.0.count;
            blocks = sound.0.blocks;
            sound = sound.0.sound;
          };
          units = picks.0.units (cells.units part.row);
          parity = picks.0.parity (cells.parity part.row) (cells.units part.row);
        },
        known-all is (at + part.count) parts picks.1 (All-tail (IsPart a.n) part parts each) turns.1 (omega arith) sound.1,
      )

  known-sound : (part : RowPart) → Known part → IsSoundRow a.n after_it part.row
  known-sound part known =
      let written : List Cell = changed (cells.units part.row) (part_changes a part) in
      let before : Cell = cells.parity part.row in
      let olds : List Cell = cells.units part.row in
      record {
        count = ap length known.units ∙ ready-count a part before olds known.ready;
        blocks = subst (λ (us : List Cell). AreBlocks (after_it.parity part.row ∷ us)) (sym known.units)
            (subst (λ (p : Cell). AreBlocks (p ∷ written)) (sym known.parity) (ready-blocks a part before olds known.ready));
        sound = subst (λ (us : List Cell). IsSound (after_it.parity part.row) us) (sym known.units)
            (subst (λ (p : Cell). IsSound p written) (sym known.parity) (ready-sound a part before olds known.ready));
      }

  knowns-sound : (parts : List RowPart) → AllByRecursion Known parts → AreSoundRows a.n after_it parts
  knowns-sound [] all = tt
  knowns-sound (part ∷ parts) all = (known-sound part all.0, knowns-sound parts all.1)

  -- the parity that its grants make is the one that it then has
  abbrev Makes : Row → Type 0
  Makes row = new_parity a row ≡ after_it.parity row.part.row

  whole-way : (row : Row) → Known row.part → goes_small (plan_of a row.part) row ≡ false
      → Filled (Given (cell_of (cells.units row.part.row))) (units_out a.n row.part.mask) row.others [] → Makes row
  whole-way row known goes filled =
      ap (λ (b : Bool). cond b (folded (parity_in row) (wanted_units a row) row.wanted (new_blocks a row)) (parity_of (map plain_cell (new_blocks a row) ++ cells_in row.others))) goes
      ∙ whole-parity a row.part (cells.parity row.part.row) (cells.units row.part.row) known.ready row.others filled
      ∙ sym known.parity

  small-way : (row : Row) → Known row.part → goes_small (plan_of a row.part) row ≡ true → parity_in row ≡ cells.parity row.part.row
      → Filled (Given (cell_of (cells.units row.part.row))) (units_in a.n row.part.mask) row.wanted [] → Makes row
  small-way row known goes old filled =
      ap (λ (b : Bool). cond b (folded (parity_in row) (wanted_units a row) row.wanted (new_blocks a row)) (parity_of (map plain_cell (new_blocks a row) ++ cells_in row.others))) goes
      ∙ ap (λ (p : Cell). folded p (wanted_units a row) row.wanted (new_blocks a row)) old
      ∙ small-parity a row.part (cells.parity row.part.row) (cells.units row.part.row) known.ready row.wanted filled
      ∙ sym known.parity

  -- and its units that take blocks
  record IsWanted (part : RowPart) (u : ℕ) : Type 0 where
    below : u < a.n - 1
    cell : cell_of (after_it.units part.row) u ≡ plain_cell (block_at a part u)

  are-wanted : (part : RowPart) → Known part → AllByRecursion (IsWanted part) (units_in a.n part.mask)
  are-wanted part known =
      all-both (λ u. (u < a.n - 1) × (has_unit part.mask u ≡ true)) (λ u. cell_of (changed (cells.units part.row) (part_changes a part)) u ≡ plain_cell (block_at a part u)) (IsWanted part)
      (λ u in_row takes. record { below = in_row.0; cell = ap (λ (us : List Cell). cell_of us u) known.units ∙ takes })
      (units_in a.n part.mask) (units-known a.n (has_unit part.mask)) (wanted-cells a part (cells.parity part.row) (cells.units part.row) known.ready)

  module _ (least : 3 ≤ a.n) where
    abbrev Writes : Steps Finish → Type 0
    Writes s = Showing a.n cells (PutsCell a.n after_it) (λ (finish : Finish). Unit {0}) s

    -- Releases put nothing
    refuses : (rows : List Row) (cause : Cause) → Writes (refused_steps (write_releases a rows) cause)
    refuses rows cause =
        shows-any a.n cells (PutsCell a.n after_it) (λ (finish : Finish). Unit {0}) releasing (end_as (ends.Refused cause)) (write_releases a rows) tt
        (all-flat (λ (e : Errand). (b : Unit {0}) → PutsCell a.n after_it e []) (λ (row : Row). releases a.id row.part.row None (write_holds a.mode a.n row))
        (λ row. all-made (λ (e : Errand). (b : Unit {0}) → PutsCell a.n after_it e []) (release a.id row.part.row None) (λ at b. record { cell = tt; committed = tt })
        (write_holds a.mode a.n row)) rows)
        (λ walk. tt)

    -- The end
    end-writes : (n : Number) (walk : Walk Puts) → Writes (write_end a n walk)
    end-writes n (Through puts) = tt
    end-writes n (Stopped puts e r) = tt

    reader-releases : (mode : Mode) (rows : List Row) → AllByRecursion (λ (e : Errand). (b : Puts) → PutsCell a.n after_it e []) (reader_releases mode a rows)
    reader-releases Order rows = tt
    reader-releases Lock rows =
        all-flat (λ (e : Errand). (b : Puts) → PutsCell a.n after_it e []) (λ (row : Row). releases a.id row.part.row None (bays_of a.n row.part.row (others_granted a.n row)))
        (λ row. all-made (λ (e : Errand). (b : Puts) → PutsCell a.n after_it e []) (release a.id row.part.row None) (λ at b. record { cell = tt; committed = tt })
        (bays_of a.n row.part.row (others_granted a.n row))) rows

    last-writes : (n : Number) (rows : List Row) (puts : Puts) → Writes (write_last a n rows puts)
    last-writes n rows puts =
        shows-any a.n cells (PutsCell a.n after_it) (λ (finish : Finish). Unit {0}) (finishing a n) (write_end a n) (reader_releases a.mode a rows) puts
        (reader-releases a.mode rows) (λ walk. end-writes n walk)

    -- Puts
    -- a row whose parity, where it is granted, is made of its grants
    record IsSettled (row : Row) : Type 0 where
      known : Known row.part
      parity : IfSome row.parity (λ (grant : Grant). Makes row)

    unit-commits : (row : Row) (u : ℕ) → IsWanted row.part u → (unit_commit a row u).content ≡ content_of (cell_of (after_it.units row.part.row) u)
    unit-commits row u takes = ap content_of (sym takes.cell)

    missing-wanted : (P : ℕ → Type 0) (us : List ℕ) (os : List (Option Grant)) → AllByRecursion P us → AllByRecursion P (missing_units (zip us os))
    missing-wanted P [] os all = tt
    missing-wanted P (u ∷ us) [] all = tt
    missing-wanted P (u ∷ us) (Some grant ∷ os) all = missing-wanted P us os all.1
    missing-wanted P (u ∷ us) (None ∷ os) all = (all.0, missing-wanted P us os all.1)

    module _ (n : Number) (row : Row) (settled : IsSettled row) (rest : Puts → Steps Finish) (rest_writes : (puts : Puts) → Writes (rest puts)) where
      abbrev Left : Puts → Type 0
      Left puts = AllByRecursion (IsWanted row.part) puts.left

      is-unit : (u : ℕ) → IsWanted row.part u → unit_of a row (data_put a n row u) ≡ u
      is-unit u takes = ap (λ (o : Option ℕ). unwrap_or o 0) (unit_back a.n row.part.row u least takes.below)

      puts-unit : (u : ℕ) → IsWanted row.part u → (puts : Puts) → PutsCell a.n after_it (data_put a n row u) ((putting_data a n row).commits puts (data_put a n row u))
      puts-unit u takes puts = record {
        cell = sym (unit-on a.n after_it row.part.row u least takes.below ∙ takes.cell);
        committed = (
          subst (λ (v : ℕ). (unit_commit a row v).content ≡ content_of (cell_of (after_it.units row.part.row) v)) (sym (is-unit u takes)) (unit-commits row u takes),
          tt,
        );
      }

      left-kept : (puts : Puts) (u : ℕ) → IsWanted row.part u → Left puts → (end : PutEnd) → IfSome (data_put_by a row puts u end) Left
      left-kept puts u takes left Made = left
      left-kept puts u takes left Failed = tt
      left-kept puts u takes left (Unnoted life) = one (life == granted_life a row u) where
        one : (b : Bool) → IfSome (cond b None (Some (with_left puts row.part u))) Left
        one true = tt
        one false = all-append (IsWanted row.part) puts.left (u ∷ []) left (takes, tt)

      parity-done-writes : (walk : Walk Puts) → Writes (parity_done row rest walk)
      parity-done-writes (Through puts) = rest_writes puts
      parity-done-writes (Stopped puts e r) = rest_writes (with_trouble puts (trouble_of row e r))

      parity-writes : (puts : Puts) → Left puts → (o : Option Grant) → IfSome o (λ (grant : Grant). Makes row) → Writes (put_parity a n row rest puts o)
      parity-writes puts left None makes = rest_writes puts
      parity-writes puts left (Some grant) makes =
          shows-one a.n cells (PutsCell a.n after_it) (λ (finish : Finish). Unit {0}) (putting_parity a n row) (parity_done row rest) (parity_put a n row) puts
          (record {
            cell = makes ∙ sym (parity-on a.n after_it row.part.row);
            committed =
                all-map (λ (c : Commit). c.content ≡ content_of (cell_of (after_it.units c.row) c.unit)) (IsWanted row.part) (unit_commit a row) (unit-commits row) (parity_units a row puts)
                (all-append (IsWanted row.part) (missing_units (zip (wanted_units a row) row.wanted)) puts.left
                (missing-wanted (IsWanted row.part) (wanted_units a row) row.wanted (are-wanted row.part settled.known)) left);
          })
          (λ r s. given ((putting_parity a n row).step puts (parity_put a n row) r))
          (λ r s. parity-done-writes (Stopped puts (parity_put a n row) r)) where
            given : (o : Option Puts) → IfSome o (λ (b : Puts). Writes (parity_done row rest (Through b)))
            given None = tt
            given (Some b) = rest_writes b

      row-writes : (puts : Puts) (us : List ℕ) → AllByRecursion (IsWanted row.part) us → Left puts → Writes (run (putting_data a n row) (map (data_put a n row) us) puts >>= data_done a n row rest)
      row-writes puts us all left =
          shows-walk a.n cells (PutsCell a.n after_it) (λ (finish : Finish). Unit {0}) (data_put a n row) (λ us puts. AllByRecursion (IsWanted row.part) us × Left puts)
          (putting_data a n row) (data_done a n row rest)
          (λ u us puts j. puts-unit u j.0.0 puts)
          (λ u us puts r j s. both-some (λ (b : Puts). AllByRecursion (IsWanted row.part) us) Left ((putting_data a n row).step puts (data_put a n row u) r)
          (always us j.0.1 ((putting_data a n row).step puts (data_put a n row u) r))
          (subst (λ (v : ℕ). IfSome (data_put_by a row puts v (put_end r)) Left) (sym (is-unit u j.0.0)) (left-kept puts u j.0.0 j.1 (put_end r))))
          (λ puts j. parity-writes puts j.1 row.parity settled.parity)
          (λ u us puts r j s. rest_writes (with_trouble puts (trouble_of row (data_put a n row u) r)))
          us puts (all, left) where
            always : (us : List ℕ) → AllByRecursion (IsWanted row.part) us → (o : Option Puts) → IfSome o (λ (b : Puts). AllByRecursion (IsWanted row.part) us)
            always us all None = tt
            always us all (Some b) = all

    rows-write : (n : Number) (last : Puts → Steps Finish) → ((puts : Puts) → Writes (last puts)) → (left : List Row) → AllByRecursion IsSettled left → (puts : Puts)
        → Writes (put_rows a n last left puts)
    rows-write n last last_writes [] all puts = last_writes puts
    rows-write n last last_writes (row ∷ left) all puts =
        row-writes n row all.0 (put_rows a n last left) (λ puts. rows-write n last last_writes left all.1 puts) (at_row puts)
        (granted_of (zip (wanted_units a row) row.wanted))
        (all-granted (IsWanted row.part) (wanted_units a row) row.wanted (are-wanted row.part all.0.known)) tt

    puts-write : (n : Number) (rows : List Row) → AllByRecursion IsSettled rows → Writes (put_steps a n rows)
    puts-write n rows all = rows-write n (write_last a n rows) (λ puts. last-writes n rows puts) rows all no_puts

    -- The lock point
    drawn-writes : (rows : List Row) → AllByRecursion IsSettled rows → (d : Result Number Spent) → Writes (write_drawn a rows d)
    drawn-writes rows all (Ok n) = puts-write n rows all
    drawn-writes rows all (Err spent) = refuses rows (causes.Spent spent.seen)

    numbered-writes : (mode : Mode) (rows : List Row) → AllByRecursion IsSettled rows → Writes (write_numbered mode a rows)
    numbered-writes Order rows all = puts-write a.id rows all
    numbered-writes Lock rows all = λ d. drawn-writes rows all d

    -- Confirms
    -- the row once its parity is confirmed, with its cell where a share found a unit missing
    abbrev MakesOnce : Row → Grant → Bool → Type 0
    MakesOnce row grant true = Makes (record row { parity = Some (record grant { cell = Some (cells.parity row.part.row) }) })
    MakesOnce row grant false = Makes row

    record IsTaken (row : Row) : Type 0 where
      known : Known row.part
      parity : IfSome row.parity (λ (grant : Grant). MakesOnce row grant (lacks row.others))

    settled-none : (row : Row) → Known row.part → row.parity ≡ None → IsSettled row
    settled-none row known e = record { known = known; parity = subst (λ (o : Option Grant). IfSome o (λ (grant : Grant). Makes row)) (sym e) tt }

    settled-some : (row : Row) (grant : Grant) → Known row.part → row.parity ≡ Some grant → Makes row → IsSettled row
    settled-some row grant known e makes = record { known = known; parity = subst (λ (o : Option Grant). IfSome o (λ (grant : Grant). Makes row)) (sym e) makes }

    module _ (rows : List Row) (row : Row) (done : Rows) (taken : IsTaken row) (before : AllByRecursion IsSettled done.rows) (rest : Rows → Steps Finish)
        (rest_writes : (done : Rows) → AllByRecursion IsSettled done.rows → Writes (rest done)) where
      abbrev more : Row → Rows
      more r = record done { rows = done.rows ++ r ∷ [] }

      goes : (other : Row) → IsSettled other → Writes (rest (more other))
      goes other settled = rest_writes (more other) (all-append IsSettled done.rows (other ∷ []) before (settled, tt))

      goes-missing : (b : Bool) → row.parity ≡ None → IfSome (option_map more (cond b (Some row) None)) (λ (r : Rows). Writes (rest r))
      goes-missing true e = goes row (settled-none row taken.known e)
      goes-missing false e = tt

      goes-held : (grant : Grant) (want : Bool) (o : Option (Option Cell)) → row.parity ≡ Some grant → MakesOnce row grant want → HeldShows (cells.parity row.part.row) o
          → IfSome (option_map more (held_row row grant want o)) (λ (r : Rows). Writes (rest r))
      goes-held grant want None e makes shows = tt
      goes-held grant true (Some None) e makes shows = tt
      goes-held grant true (Some (Some cell)) e makes shows =
          let now : Row = record row { parity = Some (record grant { cell = Some cell }) } in
          goes now (record {
            known = taken.known;
            parity = subst (λ (cell : Cell). Makes (record row { parity = Some (record grant { cell = Some cell }) })) (sym shows) makes;
          })
      goes-held grant false (Some cell) e makes shows = goes row (settled-some row grant taken.known e makes)

      goes-confirmed : (reply : Reply) (o : Option Grant) → row.parity ≡ o → IfSome o (λ (grant : Grant). MakesOnce row grant (lacks row.others)) → HeldShows (cells.parity row.part.row) (held_of reply)
          → IfSome (option_map more (confirmed_row row reply o)) (λ (r : Rows). Writes (rest r))
      goes-confirmed reply None e makes shows = goes-missing (is_missing reply) e
      goes-confirmed reply (Some grant) e makes shows = goes-held grant (lacks row.others) (held_of reply) e makes shows

      goes-unrefused : (reply : Reply) (o : Option Cause) → HeldShows (cells.parity row.part.row) (held_of reply)
          → IfSome (option_map more (unrefused_row row reply o)) (λ (r : Rows). Writes (rest r))
      goes-unrefused reply (Some cause) shows = tt
      goes-unrefused reply None shows = goes-confirmed reply row.parity refl taken.parity shows

      confirm-one : Writes (run (confirming a row) (row_confirm a row ∷ []) done >>= row_confirmed a rows row rest)
      confirm-one =
          shows-one a.n cells (PutsCell a.n after_it) (λ (finish : Finish). Unit {0}) (confirming a row) (row_confirmed a rows row rest) (row_confirm a row) done
          (record { cell = tt; committed = tt })
          (λ reply s. goes-unrefused reply (refusal (behind_from a.mode a.id) done.missing (parity_bay a.n row.part.row) reply)
          (subst (λ (cell : Cell). HeldShows cell (held_of reply)) (parity-on a.n cells row.part.row) s.cell))
          (λ reply s. refuses rows (confirm_cause a row done (row_confirm a row) reply))

    confirms-write : (rows left : List Row) (done : Rows) → AllByRecursion IsTaken left → AllByRecursion IsSettled done.rows → Writes (confirm_rows a rows left done)
    confirms-write rows [] done all before = numbered-writes a.mode done.rows before
    confirms-write rows (row ∷ left) done all before =
        confirm-one rows row done all.0 before (confirm_rows a rows left) (λ done before. confirms-write rows left done all.1 before)

    -- Claims. What is known of a row that is taken
    taken-none : (row : Row) → Known row.part → row.parity ≡ None → IsTaken row
    taken-none row known e = record { known = known; parity = subst (λ (o : Option Grant). IfSome o (λ (grant : Grant). MakesOnce row grant (lacks row.others))) (sym e) tt }

    taken-some : (row : Row) (grant : Grant) (other : Bool) → Known row.part → row.parity ≡ Some grant → lacks row.others ≡ other → MakesOnce row grant other → IsTaken row
    taken-some row grant other known e lacking makes = record {
      known = known;
      parity =
          subst (λ (o : Option Grant). IfSome o (λ (grant : Grant). MakesOnce row grant (lacks row.others))) (sym e)
          (subst (λ (b : Bool). MakesOnce row grant b) (sym lacking) makes);
    }

    abbrev AreGiven : Row → List ℕ → List (Option Grant) → Type 0
    AreGiven row us os = Filled (Given (cell_of (cells.units row.part.row))) us os []

    taken-whole : (row : Row) (grant : Grant) → Known row.part → row.parity ≡ Some grant → goes_small (plan_of a row.part) row ≡ false
        → AreGiven row (units_out a.n row.part.mask) row.others → IsTaken row
    taken-whole row grant known e goes given =
        taken-some row grant false known e (given-lacks (cell_of (cells.units row.part.row)) (units_out a.n row.part.mask) row.others [] given) (whole-way row known goes given)

    taken-small : (row : Row) (grant : Grant) → Known row.part → row.parity ≡ Some grant → grant.cell ≡ Some (cells.parity row.part.row) → is_small_plan (plan_of a row.part) ≡ true
        → lacks row.others ≡ false → lacks row.wanted ≡ false → AreGiven row (units_in a.n row.part.mask) row.wanted → IsTaken row
    taken-small row grant known e cell plan others wanted given =
        taken-some row grant false known e others
        (small-way row known (goes-whole (is_small_plan (plan_of a row.part)) (lacks row.wanted) (lacks row.others) plan wanted)
        (ap (λ (o : Option Grant). unwrap_or (option_map cell_in o) zero_cell) e ∙ ap (λ (o : Option Cell). unwrap_or o zero_cell) cell) given)

    taken-late : (row : Row) (grant : Grant) → Known row.part → row.parity ≡ Some grant → lacks row.others ≡ true → AreGiven row (units_in a.n row.part.mask) row.wanted → IsTaken row
    taken-late row grant known e others given =
        taken-some row grant true known e others
        (small-way (record row { parity = Some (record grant { cell = Some (cells.parity row.part.row) }) }) known
        (goes-other (is_small_plan (plan_of a row.part)) (lacks row.wanted) (lacks row.others) others) refl given)

    -- a unit of a part, and one that is not
    abbrev IsOf : RowPart → ℕ → Type 0
    IsOf q u = (u < a.n - 1) × (has_unit q.mask u ≡ true)

    abbrev IsOut : RowPart → ℕ → Type 0
    IsOut q u = (u < a.n - 1) × (not (has_unit q.mask u) ≡ true)

    -- the bay that is missing has a unit of the part
    record HasGap (q : RowPart) (missing : Option BayNo) : Type 0 where
      unit : ℕ
      in_part : IsOf q unit
      stands : missing ≡ Some (bay_of a.n q.row unit)

    gap-apart : (q : RowPart) (missing : Option BayNo) (u : ℕ) → HasGap q missing → IsOut q u → missing ≡ Some (bay_of a.n q.row u) → ⊥
    gap-apart q missing u gap out e =
        let bays : bay_of a.n q.row gap.unit ≡ bay_of a.n q.row u = ap (λ (o : Option BayNo). unwrap_or o (bay 0)) (sym gap.stands ∙ e) in
        let same : gap.unit ≡ u = unit_distinct a.n q.row gap.unit u least gap.in_part.0 out.0 bays in
        not-true (has_unit q.mask u) (subst (λ (v : ℕ). has_unit q.mask v ≡ true) same gap.in_part.1) out.1

    shown-unit : (q : RowPart) (want : Bool) (u : ℕ) (r : Reply) → u < a.n - 1 → fits_claim hows.Plain want r ≡ true → GrantShows (cell_on a.n cells (bay_of a.n q.row u) q.row) (grant_of r)
        → ShownIf want (cell_of (cells.units q.row) u) (grant_of r)
    shown-unit q want u r below fit shows =
        shown-of want (cell_of (cells.units q.row) u) r fit (subst (λ (cell : Cell). GrantShows cell (grant_of r)) (unit-on a.n cells q.row u least below) shows)

    -- Claims of the wanted units: the parity and the others stay, and a bay that was missing before
    module _ (q : RowPart) (want : Bool) (parity : Option Grant) (others : List (Option Grant)) (first : Option BayNo) where
      abbrev ShownUnit : ℕ → Option Grant → Type 0
      ShownUnit u o = ShownIf want (cell_of (cells.units q.row) u) o

      record Claimed (us : List ℕ) (taken : Taken) : Type 0 where
        same : taken.row.part ≡ q
        before : AllByRecursion IsTaken taken.before
        parity_same : taken.row.parity ≡ parity
        others_same : taken.row.others ≡ others
        wanted : Filled ShownUnit (units_in a.n q.mask) taken.row.wanted us
        left : AllByRecursion (IsOf q) us
        stays : IfSome first (λ b. taken.missing ≡ Some b)
        gap : lacks taken.row.wanted ≡ true → HasGap q taken.missing

      claimed-more : (u : ℕ) (us : List ℕ) (taken : Taken) → Claimed (u ∷ us) taken → (c : Option Cause) (o : Option Grant) → ShownUnit u o → GapIf taken.missing (bay_of a.n q.row u) c o
          → IfSome (option_map (with_grant with_wanted taken (bay_of a.n q.row u)) (unless c o)) (Claimed us)
      claimed-more u us taken j (Some cause) o shown gap = tt
      claimed-more u us taken j None (Some grant) shown gap = record {
        same = j.same;
        before = j.before;
        parity_same = j.parity_same;
        others_same = j.others_same;
        wanted = filled-more ShownUnit (units_in a.n q.mask) taken.row.wanted (Some grant) u us j.wanted shown;
        left = j.left.1;
        stays = j.stays;
        gap = λ e. j.gap (sym (lacks-same taken.row.wanted grant) ∙ e);
      }
      claimed-more u us taken j None None shown gap = record {
        same = j.same;
        before = j.before;
        parity_same = j.parity_same;
        others_same = j.others_same;
        wanted = filled-more ShownUnit (units_in a.n q.mask) taken.row.wanted None u us j.wanted shown;
        left = j.left.1;
        stays = gap-stays first taken.missing (bay_of a.n q.row u) j.stays (gap refl refl);
        gap = λ e. record { unit = u; in_part = j.left.0; stands = refl };
      }

      claims-write : (f : Walk Taken → Steps Finish) → ((taken : Taken) → Claimed [] taken → Writes (f (Through taken)))
          → ((taken : Taken) (e : Errand) (r : Reply) → Writes (f (Stopped taken e r)))
          → (taken : Taken) → Claimed (units_in a.n q.mask) taken → Writes (run (claiming a with_wanted) (wanted_claims a want q) taken >>= f)
      claims-write f on off taken j =
          shows-units a.n cells (PutsCell a.n after_it) (λ (finish : Finish). Unit {0}) (bay_of a.n q.row) (claim a.id q.row hows.Plain 0 want) Claimed (claiming a with_wanted) f
          (λ u us taken j. record { cell = tt; committed = tt })
          (λ u us taken r j s. claimed-more u us taken j (refusal (behind_from a.mode a.id) taken.missing (bay_of a.n q.row u) r) (grant_of r)
          (shown-unit q want u r j.left.0.0 s.fitting s.cell)
          (gap-of want (behind_from a.mode a.id) taken.missing (bay_of a.n q.row u) r s.fitting))
          on
          (λ u us taken r j s. off taken (claim a.id q.row hows.Plain 0 want (bay_of a.n q.row u)) r)
          (units_in a.n q.mask) taken j

    -- of this very row, at the end
    at-row : (q : RowPart) (want : Bool) (parity : Option Grant) (others : List (Option Grant)) (first : Option BayNo) (taken : Taken)
        → Claimed q want parity others first [] taken → Claimed taken.row.part want parity others first [] taken
    at-row q want parity others first taken j = subst (λ (q : RowPart). Claimed q want parity others first [] taken) (sym j.same) j

    shown-cells : (row : Row) → Filled (λ u o. ShownIf true (cell_of (cells.units row.part.row) u) o) (units_in a.n row.part.mask) row.wanted [] → lacks row.wanted ≡ false
        → AreGiven row (units_in a.n row.part.mask) row.wanted
    shown-cells row filled none =
        all-given (cell_of (cells.units row.part.row)) (units_in a.n row.part.mask) row.wanted
        (filled-weaken (λ u o. ShownIf true (cell_of (cells.units row.part.row) u) o) (Shown (cell_of (cells.units row.part.row)))
        (λ u o shown. weaken-some (λ (grant : Grant). true ≡ true → grant.cell ≡ Some (cell_of (cells.units row.part.row) u)) (λ (grant : Grant). grant.cell ≡ Some (cell_of (cells.units row.part.row) u)) (λ grant h. h refl) o shown)
        (units_in a.n row.part.mask) row.wanted [] filled)
        none

    no-gap : (os : List (Option Grant)) → os ≡ [] → lacks os ≡ false
    no-gap os none = ap lacks none

    module _ (rest : Rows → Steps Finish) (rest_writes : (done : Rows) → AllByRecursion IsTaken done.rows → Writes (rest done)) where
      stopped-writes : (taken : Taken) (e : Errand) (r : Reply) → Writes (write_stopped a taken e r)
      stopped-writes taken e r = refuses (taken.before ++ taken.row ∷ []) (why (behind_from a.mode a.id) taken e r)

      ended-writes : (taken : Taken) → AllByRecursion IsTaken taken.before → IsTaken taken.row → Writes (rest (row_ended taken))
      ended-writes taken before row = rest_writes (row_ended taken) (all-append IsTaken taken.before (taken.row ∷ []) before (row, tt))

      claim-wanted-writes : (want : Bool) (parity : Option Grant) (others : List (Option Grant)) (first : Option BayNo) (taken : Taken)
          → Claimed taken.row.part want parity others first (units_in a.n taken.row.part.mask) taken
          → ((t : Taken) → Claimed t.row.part want parity others first [] t → t.row.part ≡ taken.row.part → IsTaken t.row) → Writes (claim_wanted a rest want taken)
      claim-wanted-writes want parity others first taken j done =
          claims-write taken.row.part want parity others first (row_claimed a rest)
          (λ t k. ended-writes t k.before (done t (at-row taken.row.part want parity others first t k) k.same)) stopped-writes taken j

      -- a row with its parity taken and no unit yet
      record AtUnits (taken : Taken) : Type 0 where
        known : Known taken.row.part
        before : AllByRecursion IsTaken taken.before
        wanted : taken.row.wanted ≡ []
        others : taken.row.others ≡ []
        parity : ShownIf (is_small_plan (plan_of a taken.row.part)) (cells.parity taken.row.part.row) taken.row.parity

      starts : (want : Bool) (taken : Taken) (parity : Option Grant) (others : List (Option Grant)) (first : Option BayNo) → AllByRecursion IsTaken taken.before → taken.row.wanted ≡ []
          → taken.row.parity ≡ parity → taken.row.others ≡ others → IfSome first (λ b. taken.missing ≡ Some b)
          → Claimed taken.row.part want parity others first (units_in a.n taken.row.part.mask) taken
      starts want taken parity others first before none e f stays = record {
        same = refl;
        before = before;
        parity_same = e;
        others_same = f;
        wanted =
            subst (λ (os : List (Option Grant)). Filled (λ u o. ShownIf want (cell_of (cells.units taken.row.part.row) u) o) (units_in a.n taken.row.part.mask) os (units_in a.n taken.row.part.mask))
            (sym none) refl;
        left = units-known a.n (has_unit taken.row.part.mask);
        stays = stays;
        gap = λ lacking. absurd (clash (lacks taken.row.wanted) lacking (no-gap taken.row.wanted none));
      }

      -- the parity is missing
      none-writes : (taken : Taken) → AtUnits taken → taken.row.parity ≡ None → Writes (claim_wanted a rest false taken)
      none-writes taken at e =
          claim-wanted-writes false None [] None taken (starts false taken None [] None at.before at.wanted e at.others tt)
          (λ t k same. taken-none t.row (subst Known (sym same) at.known) k.parity_same)

      -- all units are wanted
      full-writes : (taken : Taken) (grant : Grant) → AtUnits taken → taken.row.parity ≡ Some grant → plan_of a taken.row.part ≡ Full → Writes (claim_wanted a rest false taken)
      full-writes taken grant at e plan =
          claim-wanted-writes false (Some grant) [] None taken (starts false taken (Some grant) [] None at.before at.wanted e at.others tt) done where
            full : (row : Row) → Known row.part → row.parity ≡ Some grant → row.others ≡ [] → plan_of a row.part ≡ Full → IsTaken row
            full row known e none plan =
                taken-whole row grant known e
                (goes-plan (is_small_plan (plan_of a row.part)) (lacks row.wanted) (lacks row.others) (ap is_small_plan plan) (no-gap row.others none))
                (subst (λ (os : List (Option Grant)). AreGiven row (units_out a.n row.part.mask) os) (sym none)
                (none-out a.n row.part known.ready.part_is (full-all (a.n - 1) row.part.count (row.part.count == a.n - 1) _ refl plan)))

            done : (t : Taken) → Claimed t.row.part false (Some grant) [] None [] t → t.row.part ≡ taken.row.part → IsTaken t.row
            done t k same = full t.row (subst Known (sym same) at.known) k.parity_same k.others_same (ap (λ (q : RowPart). plan_of a q) same ∙ plan)

      -- Shares of the others where a wanted unit is missing
      module _ (q : RowPart) (parity : Option Grant) (wanted : List (Option Grant)) where
        record Sharing (us : List ℕ) (taken : Taken) : Type 0 where
          same : taken.row.part ≡ q
          before : AllByRecursion IsTaken taken.before
          parity_same : taken.row.parity ≡ parity
          wanted_same : taken.row.wanted ≡ wanted
          others : Filled (Given (cell_of (cells.units q.row))) (units_out a.n q.mask) taken.row.others us
          left : AllByRecursion (IsOut q) us

        abbrev SharingGap : List ℕ → Taken → Type 0
        SharingGap us taken = Sharing us taken × HasGap q taken.missing

        sharing-more : (u : ℕ) (us : List ℕ) (taken : Taken) (grant : Grant) → Sharing (u ∷ us) taken → Shown (cell_of (cells.units q.row)) u (Some grant)
            → Sharing us (with_grant with_other taken (bay_of a.n q.row u) (Some grant))
        sharing-more u us taken grant j shown = record {
          same = j.same;
          before = j.before;
          parity_same = j.parity_same;
          wanted_same = j.wanted_same;
          others = filled-more (Given (cell_of (cells.units q.row))) (units_out a.n q.mask) taken.row.others (Some grant) u us j.others shown;
          left = j.left.1;
        }

        gap-more : (u : ℕ) (us : List ℕ) (taken : Taken) → SharingGap (u ∷ us) taken → (c : Option Cause) (o : Option Grant) → ShownIf true (cell_of (cells.units q.row) u) o
            → GapIf taken.missing (bay_of a.n q.row u) c o → IfSome (option_map (with_grant with_other taken (bay_of a.n q.row u)) (unless c o)) (SharingGap us)
        gap-more u us taken j (Some cause) o shown gap = tt
        gap-more u us taken j None (Some grant) shown gap = (sharing-more u us taken grant j.0 (shown refl), j.1)
        gap-more u us taken j None None shown gap = absurd (gap-apart q taken.missing u j.1 j.0.left.0 (is-there taken.missing (gap refl refl) j.1.stands)) where
          is-there : (missing : Option BayNo) → IfSome missing (λ b. b ≡ bay_of a.n q.row u) → missing ≡ Some (bay_of a.n q.row j.1.unit) → missing ≡ Some (bay_of a.n q.row u)
          is-there None same e = absurd (cc)
          is-there (Some b) same e = ap (λ (b : BayNo). Some b) same

        until-more : (u : ℕ) (us : List ℕ) (taken : Taken) → Sharing (u ∷ us) taken → (o : Option Grant) → ShownIf true (cell_of (cells.units q.row) u) o
            → IfSome (option_map (λ (grant : Grant). with_grant with_other taken (bay_of a.n q.row u) (Some grant)) o) (Sharing us)
        until-more u us taken j None shown = tt
        until-more u us taken j (Some grant) shown = sharing-more u us taken grant j (shown refl)

      sharing-starts : (taken : Taken) (parity : Option Grant) → AllByRecursion IsTaken taken.before → taken.row.parity ≡ parity → taken.row.others ≡ []
          → Sharing taken.row.part parity taken.row.wanted (units_out a.n taken.row.part.mask) taken
      sharing-starts taken parity before e none = record {
        same = refl;
        before = before;
        parity_same = e;
        wanted_same = refl;
        others =
            subst (λ (os : List (Option Grant)). Filled (Given (cell_of (cells.units taken.row.part.row))) (units_out a.n taken.row.part.mask) os (units_out a.n taken.row.part.mask)) (sym none) refl;
        left = units-known a.n (λ u. not (has_unit taken.row.part.mask u));
      }

      share-others-writes : (taken : Taken) (grant : Grant) → Known taken.row.part → Claimed taken.row.part true (Some grant) [] None [] taken
          → is_small_plan (plan_of a taken.row.part) ≡ true → grant.cell ≡ Some (cells.parity taken.row.part.row) → (b : Bool) → lacks taken.row.wanted ≡ b → Writes (share_others a rest taken b)
      share-others-writes taken grant known k plan cell false lacking =
          ended-writes taken k.before
          (taken-small taken.row grant known k.parity_same cell plan (no-gap taken.row.others k.others_same) lacking (shown-cells taken.row k.wanted lacking))
      share-others-writes taken grant known k plan cell true lacking =
          let q : RowPart = taken.row.part in
          let ws : List (Option Grant) = taken.row.wanted in
          shows-units a.n cells (PutsCell a.n after_it) (λ (finish : Finish). Unit {0}) (bay_of a.n q.row) (share a.id q.row) (SharingGap q (Some grant) ws) (claiming a with_other) (row_claimed a rest)
          (λ u us t j. record { cell = tt; committed = tt })
          (λ u us t r j s. gap-more q (Some grant) ws u us t j (refusal (behind_from a.mode a.id) t.missing (bay_of a.n q.row u) r) (grant_of r)
          (shown-unit q true u r j.0.left.0.0 (sym (share-fits r) ∙ s.fitting) s.cell)
          (gap-of true (behind_from a.mode a.id) t.missing (bay_of a.n q.row u) r (sym (share-fits r) ∙ s.fitting)))
          (λ t j. ended-writes t j.0.before (done t j.0))
          (λ u us t r j s. stopped-writes t (share a.id q.row (bay_of a.n q.row u)) r)
          (units_out a.n q.mask) taken (sharing-starts taken (Some grant) k.before k.parity_same k.others_same, k.gap lacking) where
            whole : (row : Row) → Known row.part → row.parity ≡ Some grant → lacks row.wanted ≡ true → AreGiven row (units_out a.n row.part.mask) row.others → IsTaken row
            whole row known e lacking given =
                taken-whole row grant known e
                (goes-wanted (is_small_plan (plan_of a row.part)) (lacks row.wanted) (lacks row.others) lacking
                (given-lacks (cell_of (cells.units row.part.row)) (units_out a.n row.part.mask) row.others [] given)) given

            done : (t : Taken) → Sharing taken.row.part (Some grant) taken.row.wanted [] t → IsTaken t.row
            done t j =
                let here : Sharing t.row.part (Some grant) taken.row.wanted [] t = subst (λ (q : RowPart). Sharing q (Some grant) taken.row.wanted [] t) (sym j.same) j in
                whole t.row (subst Known (sym j.same) known) j.parity_same (ap lacks j.wanted_same ∙ lacking) here.others

      -- the old cells are read
      small-writes : (taken : Taken) (grant : Grant) → AtUnits taken → taken.row.parity ≡ Some grant → plan_of a taken.row.part ≡ Small
          → Writes (run (claiming a with_wanted) (wanted_claims a true taken.row.part) taken >>= small_claimed a rest)
      small-writes taken grant at e plan =
          let q : RowPart = taken.row.part in
          claims-write q true (Some grant) [] None (small_claimed a rest)
          (λ t k. share-others-writes t grant (subst Known (sym k.same) at.known) (at-row q true (Some grant) [] None t k)
          (ap (λ (q : RowPart). is_small_plan (plan_of a q)) k.same ∙ ap is_small_plan plan)
          (subst (λ (q : RowPart). grant.cell ≡ Some (cells.parity q.row)) (sym k.same) cell) (lacks t.row.wanted) refl)
          stopped-writes taken (starts true taken (Some grant) [] None at.before at.wanted e at.others tt) where
            cell : grant.cell ≡ Some (cells.parity taken.row.part.row)
            cell = subst (λ (o : Option Grant). ShownIf (is_small_plan (plan_of a taken.row.part)) (cells.parity taken.row.part.row) o) e at.parity (ap is_small_plan plan)

      -- the others are read, until one is missing
      share-stopped-writes : (taken : Taken) (grant : Grant) (u : ℕ) → Known taken.row.part → AllByRecursion IsTaken taken.before → taken.row.parity ≡ Some grant → taken.row.wanted ≡ []
          → IsOut taken.row.part u → (c : Option Cause) → Writes (share_stopped a rest taken (bay_of a.n taken.row.part.row u) c)
      share-stopped-writes taken grant u known before e none out (Some cause) = refuses (taken.before ++ taken.row ∷ []) cause
      share-stopped-writes taken grant u known before e none out None =
          let missing : Option BayNo = Some (bay_of a.n taken.row.part.row u) in
          let os : List (Option Grant) = taken.row.others ++ None ∷ [] in
          let now : Taken = with_grant with_other taken (bay_of a.n taken.row.part.row u) None in
          claim-wanted-writes true (Some grant) os missing now (starts true now (Some grant) os missing before none e refl refl)
          (λ t k same. taken-late t.row grant (subst Known (sym same) known) k.parity_same (ap lacks k.others_same ∙ lacks-more taken.row.others)
          (shown-cells t.row k.wanted (whole t (lacks t.row.wanted) refl k same))) where
            whole : (t : Taken) (b : Bool) → lacks t.row.wanted ≡ b
                → Claimed t.row.part true (Some grant) (taken.row.others ++ None ∷ []) (Some (bay_of a.n taken.row.part.row u)) [] t → t.row.part ≡ taken.row.part → lacks t.row.wanted ≡ false
            whole t false lacking k same = lacking
            whole t true lacking k same =
                absurd (gap-apart taken.row.part t.missing u (subst (λ (q : RowPart). HasGap q t.missing) same (k.gap lacking)) out k.stays)

      through-writes : (taken : Taken) (grant : Grant) → Known taken.row.part → plan_of a taken.row.part ≡ Reconstruct → Sharing taken.row.part (Some grant) [] [] taken
          → Writes (claim_wanted a rest false taken)
      through-writes taken grant known plan j =
          claim-wanted-writes false (Some grant) taken.row.others None taken (starts false taken (Some grant) taken.row.others None j.before j.wanted_same j.parity_same refl tt)
          (λ t k same. whole t.row (subst Known (sym same) known) k.parity_same (ap (λ (q : RowPart). plan_of a q) same ∙ plan)
          (subst (λ (os : List (Option Grant)). AreGiven t.row (units_out a.n t.row.part.mask) os) (sym k.others_same)
          (subst (λ (q : RowPart). Filled (Given (cell_of (cells.units q.row))) (units_out a.n q.mask) taken.row.others []) (sym same) j.others))) where
            whole : (row : Row) → Known row.part → row.parity ≡ Some grant → plan_of a row.part ≡ Reconstruct → AreGiven row (units_out a.n row.part.mask) row.others → IsTaken row
            whole row known e plan given =
                taken-whole row grant known e
                (goes-plan (is_small_plan (plan_of a row.part)) (lacks row.wanted) (lacks row.others) (ap is_small_plan plan)
                (given-lacks (cell_of (cells.units row.part.row)) (units_out a.n row.part.mask) row.others [] given)) given

      reconstruct-writes : (taken : Taken) (grant : Grant) → AtUnits taken → taken.row.parity ≡ Some grant → plan_of a taken.row.part ≡ Reconstruct
          → Writes (run (taking_until with_other) (other_shares a taken.row.part) taken >>= others_shared a rest)
      reconstruct-writes taken grant at e plan =
          let q : RowPart = taken.row.part in
          shows-units a.n cells (PutsCell a.n after_it) (λ (finish : Finish). Unit {0}) (bay_of a.n q.row) (share a.id q.row) (Sharing q (Some grant) []) (taking_until with_other) (others_shared a rest)
          (λ u us t j. record { cell = tt; committed = tt })
          (λ u us t r j s. until-more q (Some grant) [] u us t j (grant_of r) (shown-unit q true u r j.left.0.0 (sym (share-fits r) ∙ s.fitting) s.cell))
          (λ t j. through-writes t grant (subst Known (sym j.same) at.known) (ap (λ (q : RowPart). plan_of a q) j.same ∙ plan) (subst (λ (q : RowPart). Sharing q (Some grant) [] [] t) (sym j.same) j))
          (λ u us t r j s. stopped t u r us j)
          (units_out a.n q.mask) taken
          (subst (λ (ws : List (Option Grant)). Sharing taken.row.part (Some grant) ws (units_out a.n taken.row.part.mask) taken) at.wanted (sharing-starts taken (Some grant) at.before e at.others)) where
            stopped : (t : Taken) (u : ℕ) (r : Reply) (us : List ℕ) → Sharing taken.row.part (Some grant) [] (u ∷ us) t
                → Writes (others_shared a rest (Stopped t (share a.id taken.row.part.row (bay_of a.n taken.row.part.row u)) r))
            stopped t u r us j =
                let c : Option Cause = refusal (behind_from a.mode a.id) t.missing (bay_of a.n taken.row.part.row u) r in
                subst (λ (q : RowPart). Writes (share_stopped a rest t (bay_of a.n q.row u) c)) j.same
                (share-stopped-writes t grant u (subst Known (sym j.same) at.known) j.before j.parity_same j.wanted_same (subst (λ (q : RowPart). IsOut q u) (sym j.same) j.left.0) c)

      claim-row-writes : (taken : Taken) → AtUnits taken → (o : Option Grant) → taken.row.parity ≡ o → (plan : Plan) → plan_of a taken.row.part ≡ plan → Writes (claim_row a rest taken o plan)
      claim-row-writes taken at None e plan f = none-writes taken at e
      claim-row-writes taken at (Some grant) e Full f = full-writes taken grant at e f
      claim-row-writes taken at (Some grant) e Small f = small-writes taken grant at e f
      claim-row-writes taken at (Some grant) e Reconstruct f = reconstruct-writes taken grant at e f

      -- the parity of the row
      row-claims-write : (part : RowPart) → Known part → (done : Rows) → AllByRecursion IsTaken done.rows
          → Writes (run (claiming a with_parity) (parity_claim a part ∷ []) (begun part done) >>= parity_claimed a rest)
      row-claims-write part known done before =
          shows-one a.n cells (PutsCell a.n after_it) (λ (finish : Finish). Unit {0}) (claiming a with_parity) (parity_claimed a rest) (parity_claim a part) (begun part done)
          (record { cell = tt; committed = tt })
          (λ r s. given (refusal (behind_from a.mode a.id) done.missing (parity_bay a.n part.row) r) (grant_of r)
          (shown-of (is_small_plan (plan_of a part)) (cells.parity part.row) r s.fitting
          (subst (λ (cell : Cell). GrantShows cell (grant_of r)) (parity-on a.n cells part.row) s.cell)))
          (λ r s. stopped-writes (begun part done) (parity_claim a part) r) where
            begun-row : (o : Option Grant) → ShownIf (is_small_plan (plan_of a part)) (cells.parity part.row) o → AtUnits (with_grant with_parity (begun part done) (parity_bay a.n part.row) o)
            begun-row None shown = record { known = known; before = before; wanted = refl; others = refl; parity = tt }
            begun-row (Some grant) shown = record { known = known; before = before; wanted = refl; others = refl; parity = shown }

            given : (c : Option Cause) (o : Option Grant) → ShownIf (is_small_plan (plan_of a part)) (cells.parity part.row) o
                → IfSome (option_map (with_grant with_parity (begun part done) (parity_bay a.n part.row)) (unless c o)) (λ (taken : Taken). Writes (parity_claimed a rest (Through taken)))
            given (Some cause) o shown = tt
            given None o shown =
                let taken : Taken = with_grant with_parity (begun part done) (parity_bay a.n part.row) o in
                claim-row-writes taken (begun-row o shown) taken.row.parity refl (plan_of a taken.row.part) refl

    rows-claim : (parts : List RowPart) → AllByRecursion Known parts → (done : Rows) → AllByRecursion IsTaken done.rows → Writes (claim_rows a parts done)
    rows-claim [] known done before = confirms-write done.rows done.rows (record done { rows = [] }) before tt
    rows-claim (part ∷ parts) known done before =
        row-claims-write (claim_rows a parts) (λ done before. rows-claim parts known.1 done before) part known.0 done before

pub writes_keep_rows_sound : WritesKeepRowsSound
writes_keep_rows_sound a cells is sound =
    let known : AllByRecursion (Known a cells) a.parts =
    known-all a cells is 0 a.parts (picks-all a a.parts is.parts.rows_apart) is.parts.each is.parts.in_turn (let enough : blocks_in a.parts ≤ length a.blocks = is.enough in omega arith) sound in
    record { puts = rows-claim a cells is.least a.parts known no_rows tt; sound = knowns-sound a cells a.parts known }
