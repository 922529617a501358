-- Reads and writes keep their phases, claim plainly, and end as no part where each put is done.
use Rattle.std.proofs.Common.{◌≡◌, refl, subst, ℕ, ◌≤◌, List, [], Option, Some, None, Result, Ok, Err}
use Rattle.raid_base.specs.declared.numbers.BayNo.{BayNo}
use Rattle.raid_base.specs.declared.numbers.HostNo.{HostNo}
use Rattle.raid_base.specs.declared.numbers.RowNo.{RowNo}
use Rattle.raid_base.specs.declared.numbers.Number.{Number}
use Rattle.raid_base.specs.declared.numbers.Spent.{Spent}
use Rattle.raid_base.specs.declared.names.Name.{Name}
use Rattle.raid_base.specs.declared.messages.How.TheVariants.{Plain}
use Rattle.raid_base.specs.declared.messages.Errand.{Errand}
use Rattle.raid_base.specs.declared.messages.Reply.{Reply}
use Rattle.raid_base.specs.declared.messages.Request.{Request}
use Rattle.raid_base.specs.declared.messages.Request.TheVariants.{Share, Claim, Confirm, Put, Release, Lose, Fit}
use Rattle.raid_base.specs.declared.jobs.RowPart.{RowPart}
use Rattle.raid_base.specs.declared.jobs.PartsFault.{PartsFault}
use Rattle.raid_base.specs.declared.jobs.Task.{Task}
use Rattle.raid_base.specs.declared.jobs.Task.TheVariants as tasks
use Rattle.raid_base.specs.Steps.{Steps, Asks, Draws, Ends, next_errand, behind}
use Rattle.attempts.specs.Taking.{Access, Finish}
use Rattle.attempts.specs.Phases.{IsIn, Past, begins, number_of, MayAsk, after, after_number, Keeps, HasOnlyRead, HasWritten}
use Rattle.attempts.specs.Phases as phases
use Rattle.attempts.specs.Once.{ClaimsSo, EachClaims}
use Rattle.attempts.specs.Reading.{read_steps}
use Rattle.attempts.specs.Writing.{write_steps}
use Rattle.attempts.proofs.OnceClaims.{claims_are_of_their_kind}
use Rattle.attempts.proofs.ReadPhases.{reads_keep_phases}
use Rattle.attempts.proofs.WritePhases.{writes_keep_phases}
use Rattle.script_text.specs.Script.{Script, parts_of, blocks_of}
use Rattle.script_text.specs.Ranges.{IsScript, IsTask}
use Rattle.histories.specs.Causes.{IsReadOrWrite}
use Rattle.histories.specs.Progress.{access, attempt, read_of, write_of}
use Rattle.histories.proofs.hands.PhasedHands.{found-parts, rows-differ}
use Rattle.attempt_laws.proofs.calm.CalmTrees.{IsPutDone, IsNoPart, Wholly, writes-whole, reads-whole}

abbrev pub on : BayNo → RowNo → phases.Slot
on bay row = record { bay = bay; row = row }

module _ (id : Number) where
  -- what it may ask: it claims plainly and in the first phase, and puts once what was granted
  abbrev pub MayCalm : Past → BayNo → Request → Type 0
  MayCalm past bay (Share row by want) = Unit {0}
  MayCalm past bay (Claim row by how mask want) = (by ≡ id) × (how ≡ Plain)
  MayCalm past bay (Confirm row by want) = past.phase ≤ 1
  MayCalm past bay (Put row by n cell) = (by ≡ id) × (past.phase ≤ 2) × IsIn (on bay row) past.granted × (IsIn (on bay row) past.put → ⊥)
  MayCalm past bay (Release row by n) = by ≡ id
  MayCalm past bay Lose = ⊥
  MayCalm past bay Fit = ⊥

  -- Whatever the numbers drawn, and the replies with which each put is done
  abbrev pub Calmly : Past → Steps Finish → Type 0
  Calmly past (Ends f) = IsNoPart f.ended
  Calmly past (Draws k) = (past.phase ≤ 1) × ((d : Result Number Spent) → Calmly (after_number past d) (k d))
  Calmly past (Asks e s c k) = MayCalm past e.bay e.request × ((r : Reply) → IsPutDone e.request r → Calmly (after past e r) (k r))

  may-calm : (n : ℕ) (past : Past) (bay : BayNo) (what : Request) → MayAsk n id past bay what → ClaimsSo n Plain bay what → MayCalm past bay what
  may-calm n past bay (Share row by want) may so = tt
  may-calm n past bay (Claim row by how mask want) may so = (may.0, so.0)
  may-calm n past bay (Confirm row by want) may so = may.1
  may-calm n past bay (Put row by number cell) may so = (may.0, may.1, (may.3).granted, (may.3).once)
  may-calm n past bay (Release row by number) may so = may
  may-calm n past bay Lose may so = absurd may
  may-calm n past bay Fit may so = absurd may

  calm-all : (n : ℕ) (Q : Past → Finish → Type 0) (past : Past) (s : Steps Finish) → Keeps n id Q past s → EachClaims n Plain s → Wholly s → Calmly past s
  calm-all n Q past (Ends f) k c w = w
  calm-all n Q past (Draws k) h c w = (h.1, λ d. calm-all n Q (after_number past d) (k d) (h.2 d) (c d) (w d))
  calm-all n Q past (Asks e s o k) h c w = (
    may-calm n past e.bay e.request h.0 c.0,
    λ r done. calm-all n Q (after past e r) (k r) (h.1 r) (c.1 r) (w r done),
  )

  -- the steps that stand behind the reply to a call
  pub record Told (past : Past) (steps : Steps Finish) (e : Errand) (r : Reply) : Type 0 where
    pub may : MayCalm past e.bay e.request
    pub calm : IsPutDone e.request r → Calmly (after past e r) (behind steps r)

  pub told-calm : (past : Past) (steps : Steps Finish) (e : Errand) (r : Reply) → Calmly past steps → next_errand steps ≡ Some e → Told past steps e r
  told-calm past (Asks e s c k) x r h is =
      let same : e ≡ x = cc in
      subst (λ (y : Errand). Told past (Asks e s c k) y r) same (record { may = h.0; calm = λ done. h.1 r done })
  told-calm past (Draws k) x r h is = absurd (cc)
  told-calm past (Ends f) x r h is = absurd (cc)

-- an attempt to read or to write
pub record Begun (id : Number) (s : Steps Finish) : Type 0 where
  pub number : Option Number
  pub calm : Calmly id (begins number) s

module _ (script : Script) (is : IsScript script) (host : HostNo) (id : Number) where
  reads-begin : (r : Result (List RowPart) PartsFault) → Begun id (read_of script id r)
  reads-begin (Err fault) = record { number = None; calm = tt }
  reads-begin (Ok parts) =
      let a : Access = access script id parts [] in
      record { number = number_of a.mode a.id; calm = calm-all id a.n HasOnlyRead (begins (number_of a.mode a.id)) (read_steps a) (reads_keep_phases a) (claims_are_of_their_kind.0 a) (reads-whole a) }

  writes-begin : (object : Name) (first count : ℕ) (blocks : List (List ℕ)) → 1 ≤ count → (r : Result (List RowPart) PartsFault) → parts_of script object first count ≡ r → Begun id (write_of script id blocks r)
  writes-begin object first count blocks some (Err fault) ok = record { number = None; calm = tt }
  writes-begin object first count blocks some (Ok parts) ok =
      let a : Access = access script id parts blocks in
      let sound = found-parts script is host id object first count parts some ok in
      record {
        number = number_of a.mode a.id;
        calm = calm-all id a.n HasWritten (begins (number_of a.mode a.id)) (write_steps a) (writes_keep_phases a is.devices_least (rows-differ parts sound.rows_apart))
            (claims_are_of_their_kind.1 a) (writes-whole a);
      }

  pub attempt-begins : (row : ℕ) (task : Task) → IsReadOrWrite task → IsTask script host task → Begun id (attempt script host id row task)
  attempt-begins row (tasks.Read object first count) plain aim = reads-begin (parts_of script object first count)
  attempt-begins row (tasks.Write object first from count) plain aim = writes-begin object first count (blocks_of script from count) aim.some (parts_of script object first count) refl
  attempt-begins row (tasks.Recover at) plain aim = absurd plain
  attempt-begins row (tasks.Lose bay) plain aim = absurd plain
  attempt-begins row (tasks.Fit bay) plain aim = absurd plain
  attempt-begins row (tasks.Rebuild bay) plain aim = absurd plain
