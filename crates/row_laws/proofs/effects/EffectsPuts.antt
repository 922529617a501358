-- What a write has committed, while it puts and at its end.
use Rattle.std.proofs.Common.{◌≡◌, ◌⊎◌, inl, inr, ◌+◌, ◌-◌, ◌<◌, ◌≤◌, ◌==◌, ℕ, Bool, true, false, cond, List, [], ◌∷◌, ◌++◌, map, zip, Option, Some, None, unwrap_or, refl, sym, ap, subst, arith}
use Rattle.std.specs.List.{AllByRecursion}
use Rattle.raid_base.specs.declared.numbers.BayNo.{BayNo}
use Rattle.raid_base.specs.declared.numbers.Number.{Number}
use Rattle.raid_base.specs.declared.messages.Errand.{Errand}
use Rattle.raid_base.specs.declared.messages.Grant.{Grant}
use Rattle.raid_base.specs.declared.messages.Reply.{Reply}
use Rattle.raid_base.specs.declared.messages.Reply.TheVariants.{Granted, Busy, Late, Young, Missing, Held, NoNote, Done, Fault, Emptied, Fitted}
use Rattle.raid_base.specs.declared.jobs.Cause.{Cause}
use Rattle.raid_base.specs.declared.jobs.Cause.TheVariants as causes
use Rattle.raid_base.specs.declared.jobs.Ended.TheVariants as ends
use Rattle.raid_base.specs.declared.jobs.RowPart.{RowPart}
use Rattle.raid_base.specs.Cells.{has_unit}
use Rattle.raid_base.specs.Replies.{is_fault, put_end}
use Rattle.raid_base.specs.Steps.{Commit, Steps, Ends, bind, go_on, Stopped, run}
use Rattle.stripe_layout.specs.Placement.{units_in}
use Rattle.stripe_layout.proofs.LayoutLemmas.{unit_back}
use Rattle.virtual_objects.specs.RowParts.{AreRowParts}
use Rattle.attempts.specs.Taking.{Access, Finish, Row, lacks}
use Rattle.attempts.specs.Releases.{granted_of}
use Rattle.attempts.specs.Puts.{wanted_units, block_no, Trouble, Faulted, Robbed, Puts, no_puts, at_row, with_made, with_trouble, with_left, flags, part_by_quit, data_put, unit_of, granted_life, data_put_by, trouble_of, unit_commit, putting_data, missing_units, parity_units, parity_put, parity_put_by, putting_parity, first_cause, written_or, written}
use Rattle.attempts.specs.Writing.{finishing, reader_releases, write_end, write_last, parity_done, put_parity, data_done, put_rows, put_steps}
use Rattle.attempts.specs.Phases.{IsIn}
use Rattle.attempts.proofs.RoomLemmas.{all-append, parts_of}
use Rattle.attempts.proofs.PhaseLemmas.{all-weaken}
use Rattle.attempts.proofs.ReturnLemmas.{in-left, in-right, in-map}
use Rattle.attempts.proofs.WritePhases.{all-granted}
use Rattle.attempts.proofs.WriteSums.{Filled, units-known}
use Rattle.histories.proofs.hands.PhasedHands.{rows-differ}
use Rattle.row_laws.specs.Effects.{done_after, Effecting, HasWrittenSo}
use Rattle.row_laws.proofs.effects.Effects.{run-effecting}
use Rattle.row_laws.proofs.effects.EffectsMade.{flag-made, made-flag, given-or-missing, none-missing, missing-all, IsWanted, wanted-in, Paired, paired-more, paired-nothing, paired-units, paired-only, made-committed, committed-made, IsMade, Blamed, blamed-more, blamed-new, blamed-made}

-- a row that was taken: of a part, each unit that it wants was answered, and where the parity is missing none of them is
abbrev pub IsKnown : Access → Row → Type 0
IsKnown a row = IsIn row.part a.parts × Filled (λ u o. Unit {0}) (units_in a.n row.part.mask) row.wanted [] × (row.parity ≡ None → lacks row.wanted ≡ false)

-- each part is still to come, or has its row
abbrev pub Covered : Access → List RowPart → List Row → Type 0
Covered a left rows = (part : RowPart) → IsIn part a.parts → IsIn part left ⊎ IsIn part (parts_of rows)

module _ (a : Access) (least : 3 ≤ a.n) (are : AreRowParts a.n a.parts) where
  abbrev Writes : List Commit → Steps Finish → Type 0
  Writes done s = Effecting (HasWrittenSo a) done s

  -- Ends
  part-so : (n : Number) (made : List ℕ) (done : List Commit) (cause : Cause) → Paired a made done → HasWrittenSo a done (ends.Part n (flags made) cause)
  part-so n made done cause pairs = record {
    tells = λ part unit i inside has. (
      λ flag. made-committed a are (rows-differ a.parts are.rows_apart) part unit (record { part_in = i; inside = inside; masked = has }) made done pairs (flag-made made (block_no a part unit) flag),
      λ committed.
          made-flag made (block_no a part unit)
          (committed-made a are (rows-differ a.parts are.rows_apart) part unit (record { part_in = i; inside = inside; masked = has }) made done pairs committed),
    );
    only = paired-only a made done pairs;
  }

  stops-so : (n : Number) (done : List Commit) (puts : Puts) → Paired a puts.made done → (puts.answered ≡ false → puts.made ≡ []) → HasWrittenSo a done (part_by_quit n puts)
  stops-so n done puts pairs quiet = by puts.answered refl
    where
      by : (b : Bool) → puts.answered ≡ b → HasWrittenSo a done (cond b (ends.Part n (flags puts.made) causes.Quit) (ends.Refused causes.Quit))
      by true e = part-so n puts.made done causes.Quit pairs
      by false e = record { tells = paired-nothing a done (subst (λ (made : List ℕ). Paired a made done) (quiet e) pairs); only = paired-only a puts.made done pairs }

  abbrev IsSettled : RowPart → Puts → Type 0
  IsSettled part puts = IsMade a puts.made part ⊎ Blamed a part puts.troubles

  -- with these rows still to be put
  record Putting (left : List Row) (done : List Commit) (puts : Puts) : Type 0 where
    pairs : Paired a puts.made done
    quiet : puts.answered ≡ false → puts.made ≡ []
    settled : (part : RowPart) → IsIn part a.parts → IsIn part (parts_of left) ⊎ IsSettled part puts

  written-so : (n : Number) (done : List Commit) (puts : Puts) → Putting [] done puts → HasWrittenSo a done (written a n puts)
  written-so n done puts p = by (first_cause a puts.made puts.troubles) refl
    where
      made : first_cause a puts.made puts.troubles ≡ None → (part : RowPart) → IsIn part [] ⊎ IsSettled part puts → IsMade a puts.made part
      made none part (inl i) = absurd i
      made none part (inr (inl m)) = m
      made none part (inr (inr h)) = blamed-made a puts.made part puts.troubles none h

      by : (o : Option Cause) → first_cause a puts.made puts.troubles ≡ o → HasWrittenSo a done (written_or n puts.made o)
      by (Some cause) e = part-so n puts.made done cause p.pairs
      by None e = record {
        tells = λ part unit i inside has.
            made-committed a are (rows-differ a.parts are.rows_apart) part unit (record { part_in = i; inside = inside; masked = has }) puts.made done p.pairs
            (made e part (p.settled part i) unit (wanted-in a part unit inside has));
        only = paired-only a puts.made done p.pairs;
      }

  module _ (n : Number) where
    lasts : (rows : List Row) (done : List Commit) (puts : Puts) → Putting [] done puts → Writes done (write_last a n rows puts)
    lasts rows done puts p =
        run-effecting (HasWrittenSo a) done (Putting [] done) (finishing a n) (write_end a n) (λ q h. stops-so n done q h.pairs h.quiet) (λ q e. refl) (λ q e r h. h)
        (λ q h. written-so n done q h) (λ q e r h. written-so n done q h) (reader_releases a.mode a rows) puts p

    -- of a row, with those that are left after it
    module _ (row : Row) (own : IsKnown a row) (later : List Row) (rest : Puts → Steps Finish) (on : (done : List Commit) (puts : Puts) → Putting later done puts → Writes done (rest puts)) where
      abbrev Given : List ℕ
      Given = granted_of (zip (wanted_units a row) row.wanted)

      -- while these are to be put: the others are made, or left to the parity
      record PuttingRow (us : List ℕ) (done : List Commit) (puts : Puts) : Type 0 where
        pairs : Paired a puts.made done
        quiet : puts.answered ≡ false → puts.made ≡ []
        settled : (part : RowPart) → IsIn part a.parts → ((row.part ≡ part) ⊎ IsIn part (parts_of later)) ⊎ IsSettled part puts
        each : (u : ℕ) → IsIn u Given → IsIn u us ⊎ (IsIn (block_no a row.part u) puts.made ⊎ IsIn u puts.left)
        blamed : (u : ℕ) → IsIn u puts.left → Blamed a row.part puts.troubles
        wanted : AllByRecursion (IsWanted a row.part) puts.left

      all-wanted : AllByRecursion (IsWanted a row.part) (wanted_units a row)
      all-wanted =
          all-weaken (λ u. (u < a.n - 1) × (has_unit row.part.mask u ≡ true)) (IsWanted a row.part) by (wanted_units a row) (units-known a.n (has_unit row.part.mask))
        where
          by : (u : ℕ) → (u < a.n - 1) × (has_unit row.part.mask u ≡ true) → IsWanted a row.part u
          by u (below, has) = record { part_in = own.0; inside = omega arith; masked = has }

      all-given : AllByRecursion (IsWanted a row.part) Given
      all-given = all-granted (IsWanted a row.part) (wanted_units a row) row.wanted all-wanted

      -- the row is through, or has a trouble
      row-ends : (us : List ℕ) (done : List Commit) (puts : Puts) → PuttingRow us done puts → IsSettled row.part puts → Putting later done puts
      row-ends us done puts p here = record { pairs = p.pairs; quiet = p.quiet; settled = λ part i. by part (p.settled part i) }
        where
          by : (part : RowPart) → ((row.part ≡ part) ⊎ IsIn part (parts_of later)) ⊎ IsSettled part puts → IsIn part (parts_of later) ⊎ IsSettled part puts
          by part (inl (inl same)) = inr (subst (λ (x : RowPart). IsSettled x puts) same here)
          by part (inl (inr i)) = inl i
          by part (inr s) = inr s

      more-troubled : (part : RowPart) (puts : Puts) (trouble : Trouble) → IsSettled part puts → IsSettled part (with_trouble puts trouble)
      more-troubled part puts trouble (inl m) = inl m
      more-troubled part puts trouble (inr h) = inr (blamed-more a part puts.troubles trouble h)

      its-trouble : (b : Bool) (bay : BayNo) → Blamed a row.part (cond b (Faulted bay) (Robbed row.part) ∷ [])
      its-trouble true bay = tt
      its-trouble false bay = inl refl

      troubled : (us : List ℕ) (done : List Commit) (puts : Puts) → PuttingRow us done puts → (e : Errand) (r : Reply) → Putting later done (with_trouble puts (trouble_of row e r))
      troubled us done puts p e r = record { pairs = p.pairs; quiet = λ no. absurd (cc); settled = λ part i. by part (p.settled part i) }
        where
          by : (part : RowPart) → ((row.part ≡ part) ⊎ IsIn part (parts_of later)) ⊎ IsSettled part puts → IsIn part (parts_of later) ⊎ IsSettled part (with_trouble puts (trouble_of row e r))
          by part (inl (inl same)) =
              inr (inr (subst (λ (x : RowPart). Blamed a x (puts.troubles ++ trouble_of row e r ∷ [])) same (blamed-new a row.part puts.troubles (trouble_of row e r) (its-trouble (is_fault r) e.bay))))
          by part (inl (inr i)) = inl i
          by part (inr s) = inr (more-troubled part puts (trouble_of row e r) s)

      more-made : (part : RowPart) (puts : Puts) (blocks : List ℕ) → IsSettled part puts → IsSettled part (with_made puts blocks)
      more-made part puts blocks (inl m) = inl (λ unit i. in-left (block_no a part unit) puts.made blocks (m unit i))
      more-made part puts blocks (inr h) = inr h

      -- the parity
      abbrev Gone : List ℕ
      Gone = missing_units (zip (wanted_units a row) row.wanted)

      gap-free : row.parity ≡ None → (puts : Puts) (done : List Commit) → PuttingRow [] done puts → IsSettled row.part puts
      gap-free none puts done p = by puts.left refl
        where
          made : puts.left ≡ [] → (unit : ℕ) → IsIn unit Given ⊎ IsIn unit Gone → IsIn (block_no a row.part unit) puts.made
          made nothing unit (inr i) = absurd (none-missing (wanted_units a row) row.wanted (own.2 none) unit i)
          made nothing unit (inl i) = elim (p.each unit i) [
            | inl j ↦ absurd j
            | inr j ↦ elim j [
              | inl m ↦ m
              | inr l ↦ absurd (subst (λ (us : List ℕ). IsIn unit us) nothing l)
            ]
          ]

          by : (left : List ℕ) → puts.left ≡ left → IsSettled row.part puts
          by [] e = inl (λ unit i. made e unit (given-or-missing (λ u o. Unit {0}) (wanted_units a row) row.wanted own.1 unit i))
          by (u ∷ us) e = inr (p.blamed u (subst (λ (vs : List ℕ). IsIn u vs) (sym e) (inl refl)))

      units-wanted : (puts : Puts) → AllByRecursion (IsWanted a row.part) puts.left → AllByRecursion (IsWanted a row.part) (parity_units a row puts)
      units-wanted puts all = all-append (IsWanted a row.part) Gone puts.left (missing-all (IsWanted a row.part) (wanted_units a row) row.wanted all-wanted) all

      abbrev Blocks : Puts → List ℕ
      Blocks puts = map (block_no a row.part) (parity_units a row puts)

      parity-made : (done : List Commit) (puts : Puts) → PuttingRow [] done puts →
          Putting later (done ++ map (unit_commit a row) (parity_units a row puts)) (with_made puts (map (block_no a row.part) (parity_units a row puts)))
      parity-made done puts p = record {
        pairs = paired-more a puts.made done (map (block_no a row.part) (parity_units a row puts)) (map (unit_commit a row) (parity_units a row puts)) p.pairs
            (paired-units a row.part (parity_units a row puts) (units-wanted puts p.wanted));
        quiet = λ no. absurd (cc);
        settled = λ part i. by part (p.settled part i);
      }
        where
          made : (unit : ℕ) → IsIn unit Given ⊎ IsIn unit Gone → IsIn (block_no a row.part unit) (puts.made ++ (Blocks puts))
          made unit (inr i) = in-right (block_no a row.part unit) puts.made (Blocks puts) (in-map (block_no a row.part) unit (parity_units a row puts) (in-left unit Gone puts.left i))
          made unit (inl i) = elim (p.each unit i) [
            | inl j ↦ absurd j
            | inr j ↦ elim j [
              | inl m ↦ in-left (block_no a row.part unit) puts.made (Blocks puts) m
              | inr l ↦ in-right (block_no a row.part unit) puts.made (Blocks puts) (in-map (block_no a row.part) unit (parity_units a row puts) (in-right unit Gone puts.left l))
            ]
          ]

          by : (part : RowPart) → ((row.part ≡ part) ⊎ IsIn part (parts_of later)) ⊎ IsSettled part puts → IsIn part (parts_of later) ⊎ IsSettled part (with_made puts (Blocks puts))
          by part (inl (inl same)) =
              inr (inl (subst (λ (x : RowPart). IsMade a (puts.made ++ (Blocks puts)) x) same (λ unit i. made unit (given-or-missing (λ u o. Unit {0}) (wanted_units a row) row.wanted own.1 unit i))))
          by part (inl (inr i)) = inl i
          by part (inr s) = inr (more-made part puts (Blocks puts) s)

      abbrev the_put : Errand
      the_put = parity_put a n row

      module _ (done : List Commit) (puts : Puts) (p : PuttingRow [] done puts) where
        parity-fails : (r : Reply) → Writes done (rest (with_trouble puts (trouble_of row the_put r)))
        parity-fails r = on done (with_trouble puts (trouble_of row the_put r)) (troubled [] done puts p the_put r)

        parity-answered : (r : Reply) → Writes (done_after r (map (unit_commit a row) (parity_units a row puts)) done)
            (bind (go_on (parity_put_by a row puts (put_end r)) (λ b. run (putting_parity a n row) [] b) (Ends (Stopped puts the_put r))) (parity_done row rest))
        parity-answered Done =
            on (done ++ map (unit_commit a row) (parity_units a row puts)) (with_made puts (map (block_no a row.part) (parity_units a row puts))) (parity-made done puts p)
        parity-answered (NoNote life) = parity-fails (NoNote life)
        parity-answered (Granted cell read_no write_no last life seized) = parity-fails (Granted cell read_no write_no last life seized)
        parity-answered (Busy holder) = parity-fails (Busy holder)
        parity-answered (Late above) = parity-fails (Late above)
        parity-answered (Young note) = parity-fails (Young note)
        parity-answered (Missing floor) = parity-fails (Missing floor)
        parity-answered (Held cell) = parity-fails (Held cell)
        parity-answered Fault = parity-fails Fault
        parity-answered Emptied = parity-fails Emptied
        parity-answered Fitted = parity-fails Fitted

        parity-puts : (grant : Option Grant) → row.parity ≡ grant → Writes done (put_parity a n row rest puts grant)
        parity-puts None none = on done puts (row-ends [] done puts p (gap-free none puts done p))
        parity-puts (Some grant) some = (stops-so n done puts p.pairs p.quiet, λ r fit. parity-answered r)

      -- the data
      abbrev goes-on : List ℕ → Puts → Steps Finish
      goes-on us puts = bind (run (putting_data a n row) (map (data_put a n row) us) puts) (data_done a n row rest)

      is-unit : (u : ℕ) → u + 1 < a.n → unit_of a row (data_put a n row u) ≡ u
      is-unit u below = ap (λ (o : Option ℕ). unwrap_or o 0) (unit_back a.n row.part.row u least (omega arith))

      unit-made : (u : ℕ) (us : List ℕ) → IsWanted a row.part u → (done : List Commit) (puts : Puts) → PuttingRow (u ∷ us) done puts →
          PuttingRow us (done ++ unit_commit a row u ∷ []) (with_made puts (block_no a row.part u ∷ []))
      unit-made u us is done puts p = record {
        pairs = paired-more a puts.made done (block_no a row.part u ∷ []) (unit_commit a row u ∷ []) p.pairs (paired-units a row.part (u ∷ []) (is, tt));
        quiet = λ no. absurd (cc);
        settled = λ part i. by part (p.settled part i);
        each = λ v i. one v (p.each v i);
        blamed = p.blamed;
        wanted = p.wanted;
      }
        where
          by : (part : RowPart) → ((row.part ≡ part) ⊎ IsIn part (parts_of later)) ⊎ IsSettled part puts →
              ((row.part ≡ part) ⊎ IsIn part (parts_of later)) ⊎ IsSettled part (with_made puts (block_no a row.part u ∷ []))
          by part (inl h) = inl h
          by part (inr s) = inr (more-made part puts (block_no a row.part u ∷ []) s)

          one : (v : ℕ) → IsIn v (u ∷ us) ⊎ (IsIn (block_no a row.part v) puts.made ⊎ IsIn v puts.left) →
              IsIn v us ⊎ (IsIn (block_no a row.part v) (puts.made ++ block_no a row.part u ∷ []) ⊎ IsIn v puts.left)
          one v (inl (inl same)) = inr (inl (in-right (block_no a row.part v) puts.made (block_no a row.part u ∷ []) (inl (ap (block_no a row.part) same))))
          one v (inl (inr i)) = inl i
          one v (inr (inl i)) = inr (inl (in-left (block_no a row.part v) puts.made (block_no a row.part u ∷ []) i))
          one v (inr (inr i)) = inr (inr i)

      unit-left : (u : ℕ) (us : List ℕ) → IsWanted a row.part u → (done : List Commit) (puts : Puts) → PuttingRow (u ∷ us) done puts → PuttingRow us done (with_left puts row.part u)
      unit-left u us is done puts p = record {
        pairs = p.pairs;
        quiet = λ no. absurd (cc);
        settled = λ part i. by part (p.settled part i);
        each = λ v i. one v (p.each v i);
        blamed = λ v i. blamed-new a row.part puts.troubles (Robbed row.part) (inl refl);
        wanted = all-append (IsWanted a row.part) puts.left (u ∷ []) p.wanted (is, tt);
      }
        where
          by : (part : RowPart) → ((row.part ≡ part) ⊎ IsIn part (parts_of later)) ⊎ IsSettled part puts →
              ((row.part ≡ part) ⊎ IsIn part (parts_of later)) ⊎ IsSettled part (with_left puts row.part u)
          by part (inl h) = inl h
          by part (inr (inl m)) = inr (inl m)
          by part (inr (inr h)) = inr (inr (blamed-more a part puts.troubles (Robbed row.part) h))

          one : (v : ℕ) → IsIn v (u ∷ us) ⊎ (IsIn (block_no a row.part v) puts.made ⊎ IsIn v puts.left) →
              IsIn v us ⊎ (IsIn (block_no a row.part v) puts.made ⊎ IsIn v (puts.left ++ u ∷ []))
          one v (inl (inl same)) = inr (inr (in-right v puts.left (u ∷ []) (inl same)))
          one v (inl (inr i)) = inl i
          one v (inr (inl i)) = inr (inl i)
          one v (inr (inr i)) = inr (inr (in-left v puts.left (u ∷ []) i))

      module _ (u : ℕ) (us : List ℕ) (is : IsWanted a row.part u) (done : List Commit) (puts : Puts) (p : PuttingRow (u ∷ us) done puts)
          (next : (done : List Commit) (puts : Puts) → PuttingRow us done puts → Writes done (goes-on us puts)) where
        abbrev Answered : Reply → Option Puts → Steps Finish
        Answered r o = bind (go_on o (λ b. run (putting_data a n row) (map (data_put a n row) us) b) (Ends (Stopped puts (data_put a n row u) r))) (data_done a n row rest)

        unit-fails : (r : Reply) → Writes done (rest (with_trouble puts (trouble_of row (data_put a n row u) r)))
        unit-fails r = on done (with_trouble puts (trouble_of row (data_put a n row u) r)) (troubled (u ∷ us) done puts p (data_put a n row u) r)

        unit-answered : (r : Reply) → Writes (done_after r (unit_commit a row u ∷ []) done) (Answered r (data_put_by a row puts u (put_end r)))
        unit-answered Done = next (done ++ unit_commit a row u ∷ []) (with_made puts (block_no a row.part u ∷ [])) (unit-made u us is done puts p)
        unit-answered (NoNote life) = one (life == granted_life a row u)
          where
            one : (b : Bool) → Writes done (Answered (NoNote life) (cond b None (Some (with_left puts row.part u))))
            one true = unit-fails (NoNote life)
            one false = next done (with_left puts row.part u) (unit-left u us is done puts p)
        unit-answered (Granted cell read_no write_no last life seized) = unit-fails (Granted cell read_no write_no last life seized)
        unit-answered (Busy holder) = unit-fails (Busy holder)
        unit-answered (Late above) = unit-fails (Late above)
        unit-answered (Young note) = unit-fails (Young note)
        unit-answered (Missing floor) = unit-fails (Missing floor)
        unit-answered (Held cell) = unit-fails (Held cell)
        unit-answered Fault = unit-fails Fault
        unit-answered Emptied = unit-fails Emptied
        unit-answered Fitted = unit-fails Fitted

        unit-puts : (r : Reply) → Writes (done_after r (unit_commit a row (unit_of a row (data_put a n row u)) ∷ []) done)
            (Answered r (data_put_by a row puts (unit_of a row (data_put a n row u)) (put_end r)))
        unit-puts r =
            subst (λ (v : ℕ). Writes (done_after r (unit_commit a row v ∷ []) done) (Answered r (data_put_by a row puts v (put_end r)))) (sym (is-unit u is.inside)) (unit-answered r)

      data-puts : (us : List ℕ) → AllByRecursion (IsWanted a row.part) us → (done : List Commit) (puts : Puts) → PuttingRow us done puts → Writes done (goes-on us puts)
      data-puts [] all done puts p = parity-puts done puts p row.parity refl
      data-puts (u ∷ us) all done puts p = (stops-so n done puts p.pairs p.quiet, λ r fit. unit-puts u us all.0 done puts p (λ more q h. data-puts us all.1 more q h) r)

    rows-put : (all rows : List Row) → AllByRecursion (IsKnown a) rows → (done : List Commit) (puts : Puts) → Putting rows done puts → Writes done (put_rows a n (write_last a n all) rows puts)
    rows-put all [] known done puts p = lasts all done puts p
    rows-put all (row ∷ rows) known done puts p =
        data-puts row known.0 rows (put_rows a n (write_last a n all) rows) (λ more q h. rows-put all rows known.1 more q h) (granted_of (zip (wanted_units a row) row.wanted))
        (all-given row known.0 rows (put_rows a n (write_last a n all) rows) (λ more q h. rows-put all rows known.1 more q h)) done (at_row puts)
        (record { pairs = p.pairs; quiet = p.quiet; settled = p.settled; each = λ u i. inl i; blamed = λ u i. absurd i; wanted = tt })

    pub puts-tell : (rows : List Row) → AllByRecursion (IsKnown a) rows → Covered a [] rows → Writes [] (put_steps a n rows)
    puts-tell rows known covered =
        rows-put rows rows known [] no_puts (record { pairs = tt; quiet = λ e. refl; settled = λ part i. by part (covered part i) })
      where
        by : (part : RowPart) → IsIn part [] ⊎ IsIn part (parts_of rows) → IsIn part (parts_of rows) ⊎ IsSettled part no_puts
        by part (inl i) = absurd i
        by part (inr i) = inl i
