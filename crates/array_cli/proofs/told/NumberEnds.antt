-- A result with a number is of the task that gives it, and what it tells keeps its range.
use Rattle.std.proofs.Common.{◌≡◌, refl, subst, inl, inr, ℕ, ◌+◌, ◌-◌, ◌<◌, ◌≤◌, true, IsSome, List, [], ◌∷◌, Option, Some, None, Result, Ok, Err, arith}
use Rattle.std.specs.List.{AllByRecursion, sum_by}
use Rattle.std.proofs.lemmas.List.Sums.{sum_by-cons}
use Rattle.std.proofs.lemmas.List.Elements.{recursion_from_All}
use Rattle.std.proofs.lemmas.Nat.{pow_below}
use Rattle.raid_base.specs.declared.numbers.HostNo.{HostNo}
use Rattle.raid_base.specs.declared.numbers.Number.{Number}
use Rattle.raid_base.specs.declared.numbers.Spent.{Spent}
use Rattle.raid_base.specs.declared.names.Name.{Name}
use Rattle.raid_base.specs.declared.messages.Mode.{Mode}
use Rattle.raid_base.specs.declared.messages.Mode.TheVariants.{Lock, Order}
use Rattle.raid_base.specs.declared.messages.Call.{Call}
use Rattle.raid_base.specs.declared.messages.Reply.{Reply}
use Rattle.raid_base.specs.declared.jobs.Task.{Task}
use Rattle.raid_base.specs.declared.jobs.Task.TheVariants as tasks
use Rattle.raid_base.specs.declared.jobs.RowPart.{RowPart}
use Rattle.raid_base.specs.declared.jobs.PartsFault.{PartsFault}
use Rattle.raid_base.specs.declared.jobs.Ended.{Ended}
use Rattle.raid_base.specs.declared.jobs.Ended.TheVariants as ends
use Rattle.raid_base.specs.Numbers.{draw, seen_drawn, sees}
use Rattle.raid_base.specs.Steps.{Steps, Asks, Draws, Ends, Standing, settled, behind}
use Rattle.raid_base.specs.Cells.{has_unit}
use Rattle.stripe_layout.specs.Placement.{units_in}
use Rattle.virtual_objects.specs.RowParts.{IsPart, AreInTurn, ArePartsOf}
use Rattle.attempts.specs.Discipline.{IsNumber, IsNumberIfAny, IsDrawn}
use Rattle.attempts.specs.Phases.{IsIn, number_of}
use Rattle.attempts.specs.Puts.{block_no}
use Rattle.attempts.specs.Taking.{Access, Finish}
use Rattle.attempts.proofs.WriteSums.{units-known}
use Rattle.script_text.specs.Script.{Script, parts_of, blocks_of}
use Rattle.script_text.specs.Ranges.{IsScript, IsTask}
use Rattle.histories.specs.Hands.{Led}
use Rattle.histories.specs.Progress.{Ending, access, read_of, write_of, attempt, quit_end}
use Rattle.histories.specs.History.{IsHistory, endings_at}
use Rattle.histories.proofs.bounds.BoundsTries.{draw-within}
use Rattle.row_laws.proofs.effects.EffectsMade.{block-below}
use Rattle.row_laws.proofs.numbers.NumberTrees.{HasNumber, TellsNumber, reads-number, writes-number, mends-number, recoveries-number}
use Rattle.row_laws.proofs.numbers.RisenTrees.{drawn_to}
use Rattle.row_laws.proofs.owners.OwnedPuts.{all-in}
use Rattle.serial_array.specs.Serial as serial
use Rattle.serial_laws.proofs.results.Stories.{Story, HowEnded, Finished, Halted, stories}
use Rattle.serial_laws.proofs.serial.Placed.{are-parts}
use Rattle.array_cli.proofs.told.ClosingTrees.{Closes, ReadCloses, MendCloses, RecoverCloses, reads-close, mends-close, recoveries-close}
use Rattle.array_cli.proofs.told.ClosingWrites.{WriteCloses, IsFit, AreFit, writes-close}

-- what is so of each of a list
pub all-of : {X : Type 0} (P : X → Type 0) (xs : List X) → ((x : X) → IsIn x xs → P x) → AllByRecursion P xs
all-of P [] h = tt
all-of P (x ∷ xs) h = (h x (inl refl), all-of P xs (λ y among. h y (inr among)))

-- Numbers
abbrev pub NumberIn : Ended → Type 0
NumberIn (ends.Read n) = IsNumber n
NumberIn (ends.Wrote n) = IsNumber n
NumberIn (ends.Part n made cause) = IsNumber n
NumberIn (ends.Recovered n closed lost) = IsNumber n
NumberIn (ends.Refused cause) = Unit {0}
NumberIn ends.Mended = Unit {0}

its-number : (number : Option Number) (n : Number) → IsNumberIfAny number → number ≡ Some n → IsNumber n
its-number None n is e = absurd (cc)
its-number (Some m) n is e = let same : m ≡ n = cc in subst IsNumber same is

number-in : (number : Option Number) → IsNumberIfAny number → (ended : Ended) → HasNumber number ended → NumberIn ended
number-in number is (ends.Read n) h = its-number number n is h
number-in number is (ends.Wrote n) h = its-number number n is h
number-in number is (ends.Part n made cause) h = its-number number n is h
number-in number is (ends.Recovered n closed lost) h = its-number number n is h
number-in number is (ends.Refused cause) h = tt
number-in number is ends.Mended h = tt

drawn-in : (number : Option Number) (d : Result Number Spent) → IsNumberIfAny number → IsDrawn d → IsNumberIfAny (drawn_to number d)
drawn-in number (Ok n) is drawn = drawn
drawn-in number (Err spent) is drawn = is

-- what is told as the number of an attempt is one
numbers-close : (number : Option Number) (s : Steps Finish) → IsNumberIfAny number → TellsNumber number s → Closes NumberIn s
numbers-close number (Ends f) is h = number-in number is f.ended h
numbers-close number (Draws k) is h = λ d drawn. numbers-close (drawn_to number d) (k d) (drawn-in number d is drawn) (h d)
numbers-close number (Asks e stop commits k) is h = (number-in number is stop h.0, λ r. numbers-close number (k r) is (h.1 r))

-- both
both : (P Q : Ended → Type 0) (s : Steps Finish) → Closes P s → Closes Q s → Closes (λ (x : Ended). P x × Q x) s
both P Q (Ends f) p q = (p, q)
both P Q (Draws k) p q = λ d is. both P Q (k d) (p d is) (q d is)
both P Q (Asks e stop commits k) p q = ((p.0, q.0), λ r. both P Q (k r) (p.1 r) (q.1 r))

-- where the calls of an attempt have led
module _ (Q : Ended → Type 0) (host : HostNo) where
  settled-closes : (seen : Number) (s : Steps Finish) → Closes Q s → Closes Q (settled host seen s).steps
  settled-closes seen (Asks e t c k) h = h
  settled-closes seen (Draws k) h = settled-closes (seen_drawn seen (draw host seen)) (k (draw host seen)) (h (draw host seen) (draw-within host seen))
  settled-closes seen (Ends f) h = h

  behind-closes : (s : Steps Finish) (r : Reply) → Closes Q s → Closes Q (behind s r)
  behind-closes (Asks e t c k) r h = h.1 r
  behind-closes (Draws k) r h = h
  behind-closes (Ends f) r h = h

  led-closes : (start : Standing Finish) (calls : List Call) (now : Standing Finish) → Closes Q start.steps → Led host start calls now → Closes Q now.steps
  led-closes start [] now h led = subst (λ (x : Standing Finish). Closes Q x.steps) led h
  led-closes start (call ∷ earlier) now h (before, led, asked, fit, later) =
      subst (λ (x : Standing Finish). Closes Q x.steps) later
      (settled-closes (sees before.seen call.answer.reply) (behind before.steps call.answer.reply)
      (behind-closes before.steps call.answer.reply (led-closes start earlier before h led)))

-- Tasks
abbrev pub TaskCloses : Task → Ended → Type 0
TaskCloses (tasks.Read object first count) ended = ReadCloses ended
TaskCloses (tasks.Write object first from count) ended = WriteCloses count ended
TaskCloses (tasks.Recover row) ended = RecoverCloses ended
TaskCloses (tasks.Lose bay) ended = MendCloses ended
TaskCloses (tasks.Fit bay) ended = MendCloses ended
TaskCloses (tasks.Rebuild bay) ended = MendCloses ended

abbrev pub EndsSo : Task → Ended → Type 0
EndsSo task ended = TaskCloses task ended × NumberIn ended

module _ (script : Script) (is : IsScript script) (host : HostNo) where
  mode-number : (id : Number) → IsNumber id → (mode : Mode) → IsNumberIfAny (number_of mode id)
  mode-number id own Order = own
  mode-number id own Lock = tt

  -- Parts. Each block of a part is one of the job's
  abbrev counted : List RowPart → ℕ
  counted parts = sum_by (λ (part : RowPart). part.count) parts

  part-within : (at : ℕ) (parts : List RowPart) (part : RowPart) → AreInTurn at parts → IsIn part parts → part.at + part.count ≤ at + counted parts
  part-within at [] part turn among = absurd among
  part-within at (first ∷ parts) part turn (inl same) =
      let more : counted (first ∷ parts) ≡ first.count + counted parts = sum_by-cons (λ (p : RowPart). p.count) first parts in
      let own : first.at ≡ at = turn.0 in
      subst (λ (p : RowPart). p.at + p.count ≤ at + counted (first ∷ parts)) same (omega (arith, own, more))
  part-within at (first ∷ parts) part turn (inr later) =
      let more : counted (first ∷ parts) ≡ first.count + counted parts = sum_by-cons (λ (p : RowPart). p.count) first parts in
      let rest : part.at + part.count ≤ at + first.count + counted parts = part-within (at + first.count) parts part turn.1 later in
      omega (arith, rest, more)

  part-fits : (a : Access) (count : ℕ) (part : RowPart) → IsPart a.n part → part.at + part.count ≤ count → AreFit a count part
  part-fits a count part own within =
      all-of (IsFit a count part) (units_in a.n part.mask) (λ u among.
      let known = all-in (λ (v : ℕ). (v < a.n - 1) × (has_unit part.mask v ≡ true)) u (units_in a.n part.mask) (units-known a.n (has_unit part.mask)) among in
      let below : block_no a part u < part.at + part.count = block-below a part own u among in
      (known.0, pow_below (block_no a part u) count (omega (arith, below, within))))

  parts-fit : (id : Number) (object : Name) (first count : ℕ) (blocks : List (List ℕ)) (parts : List RowPart) → 1 ≤ count → parts_of script object first count ≡ Ok parts →
      AllByRecursion (AreFit (access script id parts blocks) count) parts
  parts-fit id object first count blocks parts some ok =
      let are : ArePartsOf script.n script.objects object first count parts = are-parts script is object first count parts some ok in
      let each : AllByRecursion (IsPart script.n) parts = recursion_from_All (IsPart script.n) parts are.sound.each in
      all-of (AreFit (access script id parts blocks) count) parts (λ part among.
      let within : part.at + part.count ≤ 0 + counted parts = part-within 0 parts part are.sound.in_turn among in
      let all : counted parts ≡ count = are.total in
      part-fits (access script id parts blocks) count part (all-in (IsPart script.n) part parts each among) (omega (arith, within, all)))

  -- Attempts
  reads-so : (id : Number) → IsNumber id → (r : Result (List RowPart) PartsFault) → Closes (λ (x : Ended). ReadCloses x × NumberIn x) (read_of script id r)
  reads-so id own (Ok parts) =
      let a : Access = access script id parts [] in
      both ReadCloses NumberIn (read_of script id (Ok parts)) (reads-close a) (numbers-close (number_of script.mode id) (read_of script id (Ok parts)) (mode-number id own script.mode) (reads-number a))
  reads-so id own (Err fault) = (tt, tt)

  writes-so : (id : Number) → IsNumber id → (object : Name) (first from count : ℕ) → 1 ≤ count → (r : Result (List RowPart) PartsFault) → parts_of script object first count ≡ r →
      Closes (λ (x : Ended). WriteCloses count x × NumberIn x) (write_of script id (blocks_of script from count) r)
  writes-so id own object first from count some (Ok parts) ok =
      let a : Access = access script id parts (blocks_of script from count) in
      both (WriteCloses count) NumberIn (write_of script id (blocks_of script from count) (Ok parts))
      (writes-close a is.devices_least count (parts-fit id object first count (blocks_of script from count) parts some ok))
      (numbers-close (number_of script.mode id) (write_of script id (blocks_of script from count) (Ok parts)) (mode-number id own script.mode) (writes-number a))
  writes-so id own object first from count some (Err fault) ok = (tt, tt)

  attempts-so : (id : Number) → IsNumber id → (row : ℕ) (task : Task) → IsTask script host task → Closes (EndsSo task) (attempt script host id row task)
  attempts-so id own row (tasks.Read object first count) aim = reads-so id own (parts_of script object first count)
  attempts-so id own row (tasks.Write object first from count) aim = writes-so id own object first from count aim.some (parts_of script object first count) refl
  attempts-so id own row (tasks.Recover at) aim =
      let s : Steps Finish = attempt script host id row (tasks.Recover at) in
      both RecoverCloses NumberIn s (recoveries-close (record { n = script.n; host = host; id = id; row = at }))
      (numbers-close None s tt (recoveries-number (record { n = script.n; host = host; id = id; row = at })))
  attempts-so id own row (tasks.Rebuild bay) aim =
      let s : Steps Finish = attempt script host id row (tasks.Rebuild bay) in
      both MendCloses NumberIn s (mends-close (record { n = script.n; id = id; row = record { 0 = row }; target = bay }))
      (numbers-close None s tt (mends-number (record { n = script.n; id = id; row = record { 0 = row }; target = bay })))
  attempts-so id own row (tasks.Lose bay) aim = (tt, tt)
  attempts-so id own row (tasks.Fit bay) aim = (tt, tt)

  -- how the last attempt of a job closed that has a result with a number
  pub record HasClosed (e : Ending) : Type 0 where
    pub closed : Ended
    pub ended : e.ended ≡ quit_end e.tries closed
    pub so : EndsSo e.job.task closed

  story-closes : (history : List Call) (e : Ending) → Story script history host e → HasClosed e
  story-closes history e s = by s.how
    where
      task : s.hand.task ≡ e.job.task
      task = let first : Some e.job.task ≡ Some s.hand.task = s.hand.first in cc

      steps : Closes (EndsSo e.job.task) s.steps
      steps =
          subst (λ (t : Task). Closes (EndsSo t) s.steps) task
          (led-closes (EndsSo s.hand.task) host (settled host s.hand.id (attempt script host s.hand.id s.row s.hand.task)) e.calls (record { seen = s.seen; steps = s.steps })
          (settled-closes (EndsSo s.hand.task) host s.hand.id (attempt script host s.hand.id s.row s.hand.task)
          (attempts-so s.hand.id (record { least = s.hand.least; most = s.hand.most }) s.row s.hand.task s.hand.is)) s.hand.led)

      by : HowEnded s.steps e → HasClosed e
      by (Finished f at ended contents) = record { closed = f.ended; ended = ended; so = subst (Closes (EndsSo e.job.task)) at steps }
      by (Halted errand stop commits go at ended contents) = record { closed = stop; ended = ended; so = (subst (Closes (EndsSo e.job.task)) at steps).0 }

  pub has-closed : (history : List Call) → IsHistory script history → (e : Ending) → IsIn e (endings_at script history host) → IsSome (serial.number_of e.ended) → HasClosed e
  has-closed history along e among has =
      story-closes history e (all-in (λ (x : Ending). IsSome (serial.number_of x.ended) → Story script history host x) e (endings_at script history host) (stories script history is along host) among has)
