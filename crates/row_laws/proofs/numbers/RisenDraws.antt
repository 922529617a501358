-- The number of an attempt in hand: its id, or one that was drawn above all that its calls were shown.
use Rattle.std.proofs.Common.{◌≡◌, inl, inr, ℕ, ◌+◌, ◌%◌, ◌<◌, ◌≤◌, true, false, List, [], ◌∷◌, Option, Some, None, Result, Ok, Err, refl, sym, ap, subst, ◌∙◌, arith}
use Rattle.std.specs.List.{AllByRecursion}
use Rattle.raid_base.specs.declared.numbers.BayNo.{BayNo}
use Rattle.raid_base.specs.declared.numbers.HostNo.{HostNo}
use Rattle.raid_base.specs.declared.numbers.Number.{Number}
use Rattle.raid_base.specs.declared.numbers.Spent.{Spent}
use Rattle.raid_base.specs.declared.names.Name.{Name}
use Rattle.raid_base.specs.declared.messages.Call.{Call}
use Rattle.raid_base.specs.declared.messages.Errand.{Errand}
use Rattle.raid_base.specs.declared.messages.Note.{Note}
use Rattle.raid_base.specs.declared.messages.How.{How}
use Rattle.raid_base.specs.declared.messages.How.TheVariants.{Plain}
use Rattle.raid_base.specs.declared.messages.Mode.{Mode}
use Rattle.raid_base.specs.declared.messages.Mode.TheVariants.{Lock, Order}
use Rattle.raid_base.specs.declared.messages.Request.{Request}
use Rattle.raid_base.specs.declared.messages.Request.TheVariants.{Share, Claim, Confirm, Put, Release, Lose, Fit}
use Rattle.raid_base.specs.declared.messages.Reply.{Reply}
use Rattle.raid_base.specs.declared.messages.Reply.TheVariants.{Granted, Busy, Late, Young, Missing, Held, NoNote, Done, Fault, Emptied, Fitted}
use Rattle.raid_base.specs.declared.jobs.Task.{Task}
use Rattle.raid_base.specs.declared.jobs.Task.TheVariants as tasks
use Rattle.raid_base.specs.declared.jobs.RowPart.{RowPart}
use Rattle.raid_base.specs.declared.jobs.PartsFault.{PartsFault}
use Rattle.raid_base.specs.Fits.{fits, fits_put, fits_release}
use Rattle.raid_base.specs.Numbers.{greater, draw, seen_drawn, sees_note, sees}
use Rattle.raid_base.specs.Steps.{Steps, Asks, Draws, Ends, Standing, settled, told, next_errand, errand_of, Commit}
use Rattle.raid_base.specs.declared.jobs.Ended.{Ended}
use Rattle.attempts.specs.Taking.{Access, Finish}
use Rattle.attempts.specs.Numbering.{IsOrigin, ShowsNumber}
use Rattle.attempts.specs.Phases.{Past, begins, number_of, after, after_asking, after_number, MayAsk, Keeps, HasOnlyRead, HasWritten, HasRepaired}
use Rattle.attempts.specs.Mending.{mend_steps}
use Rattle.attempts.specs.Recovery.{recover_steps}
use Rattle.attempts.specs.declared.Repair.{Repair}
use Rattle.attempts.specs.declared.Rescue.{Rescue}
use Rattle.attempts.proofs.NumberingLemmas.{draws-above}
use Rattle.attempts.proofs.ReadPhases.{reads_keep_phases}
use Rattle.attempts.proofs.WritePhases.{writes_keep_phases}
use Rattle.attempts.proofs.RepairPhases.{rebuilds_keep_phases, recoveries_keep_phases}
use Rattle.script_text.specs.Script.{Script, parts_of, blocks_of}
use Rattle.script_text.specs.Ranges.{IsScript, IsTask}
use Rattle.histories.specs.Progress.{Progress, access, attempt, no_steps, read_of, write_of}
use Rattle.histories.specs.Hands.{Led, InHand, Any}
use Rattle.histories.proofs.hands.PhasedHands.{found-parts, rows-differ}
use Rattle.histories.proofs.accesses.AccessHosts.{note-covers, reply-covers}
use Rattle.row_laws.proofs.hands.HandClaims.{kind_of}
use Rattle.row_laws.proofs.hands.HandMoves.{may-next}
use Rattle.row_laws.proofs.numbers.RisenTrees.{Frees, attempt-frees}
use Rattle.row_laws.proofs.numbers.NumberTrees.{TellsNumber, reads-number, writes-number, mends-number, recoveries-number}

-- all that these calls were shown is below
abbrev pub ShownBelow : ℕ → List Call → Type 0
ShownBelow m calls = AllByRecursion (λ (c : Call). (k : Number) → ShowsNumber c.answer.reply k → k.0 < m) calls

pub shown-more : (m later : ℕ) → m ≤ later → (calls : List Call) → ShownBelow m calls → ShownBelow later calls
shown-more m later le [] h = tt
shown-more m later le (c ∷ calls) h = (λ k s. let low = h.0 k s in omega (arith, le, low), shown-more m later le calls h.1)

-- What a reply shows is seen
origin-seen : (seen : Number) (o : Option Note) (n : Number) → IsOrigin o n → n.0 ≤ (sees_note seen o).0
origin-seen seen None n is = absurd is
origin-seen seen (Some note) n is = let same = ap (λ (x : Number). x.0) is in omega (arith, same)

pub shown-seen : (seen : Number) (r : Reply) (n : Number) → ShowsNumber r n → n.0 ≤ (sees seen r).0
shown-seen seen (Granted cell read_no write_no last life seized) n (inl is) =
    let same = ap (λ (x : Number). x.0) is in let more = note-covers (greater seen (greater read_no write_no)) seized in omega (arith, same, more)
shown-seen seen (Granted cell read_no write_no last life seized) n (inr (inl is)) =
    let same = ap (λ (x : Number). x.0) is in let more = note-covers (greater seen (greater read_no write_no)) seized in omega (arith, same, more)
shown-seen seen (Granted cell read_no write_no last life seized) n (inr (inr is)) = origin-seen (greater seen (greater read_no write_no)) seized n is
shown-seen seen (Late above) n is = let same = ap (λ (x : Number). x.0) is in omega (arith, same)
shown-seen seen (Missing floor) n is = let same = ap (λ (x : Number). x.0) is in omega (arith, same)
shown-seen seen (Busy holder) n is = absurd is
shown-seen seen (Young note) n is = absurd is
shown-seen seen (Held cell) n is = absurd is
shown-seen seen (NoNote life) n is = absurd is
shown-seen seen Done n is = absurd is
shown-seen seen Fault n is = absurd is
shown-seen seen Emptied n is = absurd is
shown-seen seen Fitted n is = absurd is

-- replies to puts and releases show no number
put-shows-none : (r : Reply) → fits_put r ≡ true → (k : Number) → ShowsNumber r k → ⊥
put-shows-none (Granted cell read_no write_no last life seized) fit k s = let bad : false ≡ true = fit in cc
put-shows-none (Late above) fit k s = let bad : false ≡ true = fit in cc
put-shows-none (Missing floor) fit k s = let bad : false ≡ true = fit in cc
put-shows-none (Busy holder) fit k s = s
put-shows-none (Young note) fit k s = s
put-shows-none (Held cell) fit k s = s
put-shows-none (NoNote life) fit k s = s
put-shows-none Done fit k s = s
put-shows-none Fault fit k s = s
put-shows-none Emptied fit k s = s
put-shows-none Fitted fit k s = s

release-shows-none : (r : Reply) → fits_release r ≡ true → (k : Number) → ShowsNumber r k → ⊥
release-shows-none (Granted cell read_no write_no last life seized) fit k s = let bad : false ≡ true = fit in cc
release-shows-none (Late above) fit k s = let bad : false ≡ true = fit in cc
release-shows-none (Missing floor) fit k s = let bad : false ≡ true = fit in cc
release-shows-none (Busy holder) fit k s = s
release-shows-none (Young note) fit k s = s
release-shows-none (Held cell) fit k s = s
release-shows-none (NoNote life) fit k s = s
release-shows-none Done fit k s = s
release-shows-none Fault fit k s = s
release-shows-none Emptied fit k s = s
release-shows-none Fitted fit k s = s

-- what is asked once a number was drawn
record LateAsk (past : Past) (bay : BayNo) (what : Request) (r : Reply) : Type 0 where
  late : 2 ≤ (after_asking past bay what r).phase
  none : (k : Number) → ShowsNumber r k → ⊥

late-asks : (n : ℕ) (id : Number) (past : Past) (bay : BayNo) (what : Request) (r : Reply) → MayAsk n id past bay what → 2 ≤ past.phase → fits what r ≡ true → LateAsk past bay what r
late-asks n id past bay (Share row by want) r may late fit = absurd (let early = may.1 in omega (arith, early, late))
late-asks n id past bay (Claim row by how mask want) r may late fit = absurd (let early = may.1 in omega (arith, early, late))
late-asks n id past bay (Confirm row by want) r may late fit = absurd (let early = may.1 in omega (arith, early, late))
late-asks n id past bay (Put row by m cell) r may late fit = record { late = omega arith; none = put-shows-none r fit }
late-asks n id past bay (Release row by m) r may late fit = record { late = omega arith; none = release-shows-none r fit }
late-asks n id past bay Lose r may late fit = absurd may
late-asks n id past bay Fit r may late fit = absurd may

pub number-kept : (past : Past) (bay : BayNo) (what : Request) (r : Reply) → (after_asking past bay what r).number ≡ past.number
number-kept past bay (Share row by want) r = refl
number-kept past bay (Claim row by how mask want) r = refl
number-kept past bay (Confirm row by want) r = refl
number-kept past bay (Put row by m cell) r = refl
number-kept past bay (Release row by m) r = refl
number-kept past bay Lose r = refl
number-kept past bay Fit r = refl

-- its number is its id, under stamps, or was drawn above its id and all that its calls were shown
pub data IsNumber (id : Number) (mode : Mode) (kind : How) (past : Past) (calls : List Call) (m : Number) : Type 0 where
  Own : (is : m ≡ id) (order : mode ≡ Order) (plain : kind ≡ Plain) → IsNumber id mode kind past calls m
  Drawn : (late : 2 ≤ past.phase) (above : id.0 < m.0) (shown : ShownBelow m.0 calls) → IsNumber id mode kind past calls m

-- Numbers. That of an attempt is not below its id
pub number-least : {id : Number} {mode : Mode} {kind : How} {past : _} {calls : List Call} {m : Number} → IsNumber id mode kind past calls m → id.0 ≤ m.0
number-least (Own is order plain) = let same = ap (λ (x : Number). x.0) is in omega (arith, same)
number-least (Drawn late above shown) = omega (arith, above)

pub record HasNumber (id : Number) (mode : Mode) (kind : How) (host : HostNo) (past : Past) (calls : List Call) (seen m : Number) : Type 0 where
  pub is : IsNumber id mode kind past calls m
  pub low : m.0 ≤ seen.0
  pub own : m.0 % 16 ≡ host.0

-- What is so of an attempt where it stands after its calls
pub record Numbered (n : ℕ) (id : Number) (mode : Mode) (kind : How) (host : HostNo) (calls : List Call) (now : Standing Finish) : Type 0 where
  pub past : Past
  pub keeps : Keeps n id Any past now.steps
  pub frees : Frees past.number now.steps
  pub tells : TellsNumber past.number now.steps
  pub low : id.0 ≤ now.seen.0
  pub shown : ShownBelow (now.seen.0 + 1) calls
  pub number : (m : Number) → past.number ≡ Some m → HasNumber id mode kind host past calls now.seen m

module _ (n : ℕ) (id : Number) (mode : Mode) (kind : How) (host : HostNo) (few : host.0 < 16) where
  abbrev Stands : List Call → Number → Steps Finish → Type 0
  Stands calls seen s = Numbered n id mode kind host calls (record { seen = seen; steps = s })

  pub draws-numbered : (calls : List Call) (seen : Number) (k : Result Number Spent → Steps Finish) (d : Result Number Spent) → draw host seen ≡ d → Stands calls seen (Draws k) →
      Stands calls (seen_drawn seen d) (k d)
  draws-numbered calls seen k (Ok m) e h =
      let drawn = draws-above host seen m few e in
      let above : seen.0 < m.0 = drawn.above in
      let low : id.0 ≤ seen.0 = h.low in
      let below : ShownBelow m.0 calls = shown-more (seen.0 + 1) m.0 (omega (arith, above)) calls h.shown in
      record {
        past = after_number h.past (Ok m);
        keeps = h.keeps.2 (Ok m);
        frees = h.frees (Ok m);
        tells = h.tells (Ok m);
        low = omega (arith, above, low);
        shown = shown-more m.0 (m.0 + 1) (omega arith) calls below;
        number = λ j is.
            let same : m ≡ j = cc in
            subst (λ (x : Number). HasNumber id mode kind host (after_number h.past (Ok m)) calls m x) same
            (record { is = Drawn (omega arith) (omega (arith, above, low)) below; low = omega arith; own = drawn.own });
      }
  draws-numbered calls seen k (Err spent) e h = record {
    past = after_number h.past (Err spent);
    keeps = h.keeps.2 (Err spent);
    frees = h.frees (Err spent);
    tells = h.tells (Err spent);
    low = h.low;
    shown = h.shown;
    number = λ j is. absurd (let bad : None ≡ Some j = sym h.keeps.0 ∙ is in cc);
  }

  settled-numbered : (calls : List Call) (seen : Number) (s : Steps Finish) → Stands calls seen s → Numbered n id mode kind host calls (settled host seen s)
  settled-numbered calls seen (Asks e t c k) h = h
  settled-numbered calls seen (Draws k) h = settled-numbered calls (seen_drawn seen (draw host seen)) (k (draw host seen)) (draws-numbered calls seen k (draw host seen) refl h)
  settled-numbered calls seen (Ends f) h = h

  pub told-number : (calls : List Call) (seen : Number) (call : Call) (past : Past) → MayAsk n id past call.bay call.ask.what → fits call.ask.what call.answer.reply ≡ true → (m : Number) →
      HasNumber id mode kind host past calls seen m → HasNumber id mode kind host (after past (errand_of call) call.answer.reply) (call ∷ calls) (sees seen call.answer.reply) m
  told-number calls seen call past may fit m h = record { is = by h.is; low = let low = h.low in let more = reply-covers seen call.answer.reply in omega (arith, low, more); own = h.own }
    where
      by : IsNumber id mode kind past calls m → IsNumber id mode kind (after past (errand_of call) call.answer.reply) (call ∷ calls) m
      by (Own is order plain) = Own is order plain
      by (Drawn late above shown) =
          let ask : LateAsk past call.bay call.ask.what call.answer.reply = late-asks n id past call.bay call.ask.what call.answer.reply may late fit in
          Drawn ask.late above (λ k s. absurd (ask.none k s), shown)

  -- a reply leaves the number as it is
  pub told-stands : (calls : List Call) (seen : Number) (call : Call) (e : Errand) (stop : Ended) (commits : List Commit) (k : Reply → Steps Finish) →
      (h : Numbered n id mode kind host calls (record { seen = seen; steps = Asks e stop commits k })) → e ≡ errand_of call → fits call.ask.what call.answer.reply ≡ true →
      (x : Numbered n id mode kind host (call ∷ calls) (record { seen = sees seen call.answer.reply; steps = k call.answer.reply })) × (x.past.number ≡ h.past.number)
  told-stands calls seen call e stop commits k h is fit =
      let r : Reply = call.answer.reply in
      let may : MayAsk n id h.past call.bay call.ask.what = may-next n id h.past (Asks e stop commits k) (errand_of call) h.keeps (ap (λ (x : Errand). Some x) is) in
      let more : seen.0 ≤ (sees seen r).0 = reply-covers seen r in
      let low : id.0 ≤ seen.0 = h.low in (
        record {
          past = after h.past (errand_of call) r;
          keeps = subst (λ (x : Errand). Keeps n id Any (after h.past x r) (k r)) is (h.keeps.1 r);
          frees = subst (λ (o : Option Number). Frees o (k r)) (sym (number-kept h.past call.bay call.ask.what r)) (h.frees.1 r);
          tells = subst (λ (o : Option Number). TellsNumber o (k r)) (sym (number-kept h.past call.bay call.ask.what r)) (h.tells.1 r);
          low = omega (arith, more, low);
          shown = (λ j s. let le = shown-seen seen r j s in omega (arith, le), shown-more (seen.0 + 1) ((sees seen r).0 + 1) (omega (arith, more)) calls h.shown);
          number = λ m has. told-number calls seen call h.past may fit m (h.number m (sym (number-kept h.past call.bay call.ask.what r) ∙ has));
        },
        number-kept h.past call.bay call.ask.what r,
      )

  told-numbered : (calls : List Call) (seen : Number) (call : Call) (s : Steps Finish) → Stands calls seen s → next_errand s ≡ Some (errand_of call) → fits call.ask.what call.answer.reply ≡ true →
      Numbered n id mode kind host (call ∷ calls) (told host (record { seen = seen; steps = s }) call.answer.reply)
  told-numbered calls seen call (Asks e t c k) h asked fit =
      let is : e ≡ errand_of call = cc in
      settled-numbered (call ∷ calls) (sees seen call.answer.reply) (k call.answer.reply) (told-stands calls seen call e t c k h is fit).0
  told-numbered calls seen call (Draws k) h asked fit = absurd (cc)
  told-numbered calls seen call (Ends f) h asked fit = absurd (cc)

  led-numbered : (start : Standing Finish) (calls : List Call) (now : Standing Finish) → Numbered n id mode kind host [] start → Led host start calls now → Numbered n id mode kind host calls now
  led-numbered start [] now h led = subst (λ (x : Standing Finish). Numbered n id mode kind host [] x) led h
  led-numbered start (call ∷ earlier) now h (before, led, asked, fit, later) =
      subst (λ (x : Standing Finish). Numbered n id mode kind host (call ∷ earlier) x) later
      (told-numbered earlier before.seen call before.steps (led-numbered start earlier before h led) asked fit)

-- at the begin of an attempt
weakened : (n : ℕ) (id : Number) (Q : Past → Finish → Type 0) (past : Past) (s : Steps Finish) → Keeps n id Q past s → Keeps n id Any past s
weakened n id Q past (Asks e t c k) h = (h.0, λ r. weakened n id Q (after past e r) (k r) (h.1 r))
weakened n id Q past (Draws k) h = (h.0, h.1, λ d. weakened n id Q (after_number past d) (k d) (h.2 d))
weakened n id Q past (Ends f) h = tt

stamped : (mode : Mode) (id m : Number) → number_of mode id ≡ Some m → (m ≡ id) × (mode ≡ Order)
stamped Order id m e = let same : id ≡ m = cc in (sym same, refl)
stamped Lock id m e = absurd (cc)

module _ (script : Script) (is : IsScript script) (host : HostNo) (few : host.0 < 16) (id : Number) (own : id.0 % 16 ≡ host.0) where
  begins-numbered : (kind : How) (number : Option Number) (s : Steps Finish) → Keeps script.n id Any (begins number) s → Frees number s → TellsNumber number s →
      ((m : Number) → number ≡ Some m → (m ≡ id) × (script.mode ≡ Order) × (kind ≡ Plain)) → Numbered script.n id script.mode kind host [] (settled host id s)
  begins-numbered kind number s keeps frees tells owns =
      settled-numbered script.n id script.mode kind host few [] id s (record {
        past = begins number;
        keeps = keeps;
        frees = frees;
        tells = tells;
        low = omega arith;
        shown = tt;
        number = λ m e.
            let o = owns m e in
            record { is = Own o.0 o.1 o.2; low = (let same : m.0 ≡ id.0 = ap (λ (x : Number). x.0) o.0 in omega (arith, same)); own = ap (λ (x : Number). x.0 % 16) o.0 ∙ own };
      })

  none-own : (kind : How) (m : Number) → None ≡ Some m → (m ≡ id) × (script.mode ≡ Order) × (kind ≡ Plain)
  none-own kind m e = absurd (cc)

  stamp-own : (m : Number) → number_of script.mode id ≡ Some m → (m ≡ id) × (script.mode ≡ Order) × (Plain ≡ Plain)
  stamp-own m e = let o = stamped script.mode id m e in (o.0, o.1, refl)

  reads-numbered : (row : ℕ) (object : Name) (first count : ℕ) (r : Result (List RowPart) PartsFault) → parts_of script object first count ≡ r →
      ((o : Option Number) → Frees o (read_of script id r)) → Numbered script.n id script.mode Plain host [] (settled host id (read_of script id r))
  reads-numbered row object first count (Ok parts) e frees =
      let a : Access = access script id parts [] in
      begins-numbered Plain (number_of a.mode a.id) (read_of script id (Ok parts))
      (weakened a.n a.id HasOnlyRead (begins (number_of a.mode a.id)) (read_of script id (Ok parts)) (reads_keep_phases a)) (frees (number_of a.mode a.id)) (reads-number a) stamp-own
  reads-numbered row object first count (Err fault) e frees = begins-numbered Plain None no_steps tt tt tt (none-own Plain)

  writes-numbered : (row : ℕ) (object : Name) (first count : ℕ) (blocks : List (List ℕ)) → 1 ≤ count → (r : Result (List RowPart) PartsFault) → parts_of script object first count ≡ r →
      ((o : Option Number) → Frees o (write_of script id blocks r)) → Numbered script.n id script.mode Plain host [] (settled host id (write_of script id blocks r))
  writes-numbered row object first count blocks some (Ok parts) e frees =
      let a : Access = access script id parts blocks in
      let sound = found-parts script is host id object first count parts some e in
      begins-numbered Plain (number_of a.mode a.id) (write_of script id blocks (Ok parts))
      (weakened a.n a.id HasWritten (begins (number_of a.mode a.id)) (write_of script id blocks (Ok parts)) (writes_keep_phases a is.devices_least (rows-differ parts sound.rows_apart)))
      (frees (number_of a.mode a.id)) (writes-number a) stamp-own
  writes-numbered row object first count blocks some (Err fault) e frees = begins-numbered Plain None no_steps tt tt tt (none-own Plain)

  pub attempt-numbered : (row : ℕ) (task : Task) → IsTask script host task → Numbered script.n id script.mode (kind_of task) host [] (settled host id (attempt script host id row task))
  attempt-numbered row (tasks.Read object first count) aim =
      reads-numbered row object first count (parts_of script object first count) refl (λ o. attempt-frees script host id o row (tasks.Read object first count))
  attempt-numbered row (tasks.Write object first from count) aim =
      writes-numbered row object first count (blocks_of script from count) aim.some (parts_of script object first count) refl
      (λ o. attempt-frees script host id o row (tasks.Write object first from count))
  attempt-numbered row (tasks.Recover at) aim =
      let r : Rescue = record { n = script.n; host = host; id = id; row = at } in
      begins-numbered (kind_of (tasks.Recover at)) None (recover_steps r) (weakened r.n r.id HasRepaired (begins None) (recover_steps r) (recoveries_keep_phases r))
      (attempt-frees script host id None row (tasks.Recover at)) (recoveries-number r) (none-own (kind_of (tasks.Recover at)))
  attempt-numbered row (tasks.Rebuild bay) aim =
      let m : Repair = record { n = script.n; id = id; row = record { 0 = row }; target = bay } in
      begins-numbered (kind_of (tasks.Rebuild bay)) None (mend_steps m) (weakened m.n m.id HasRepaired (begins None) (mend_steps m) (rebuilds_keep_phases m is.devices_least aim.1))
      (attempt-frees script host id None row (tasks.Rebuild bay)) (mends-number m) (none-own (kind_of (tasks.Rebuild bay)))
  attempt-numbered row (tasks.Lose bay) aim = begins-numbered Plain None no_steps tt tt tt (none-own Plain)
  attempt-numbered row (tasks.Fit bay) aim = begins-numbered Plain None no_steps tt tt tt (none-own Plain)

-- an attempt in hand is so
pub numbered : (script : Script) → IsScript script → (host : HostNo) (p : Progress) (steps : Steps Finish) → (h : InHand script host p.jobs p.row p.seen p.calls steps) →
    Numbered script.n h.id script.mode (kind_of h.task) host p.calls (record { seen = p.seen; steps = steps })
numbered script is host p steps h =
    let own : h.id.0 % 16 ≡ host.0 = h.own in
    let few : host.0 < 16 = omega (arith, own) in
    led-numbered script.n h.id script.mode (kind_of h.task) host few (settled host h.id (attempt script host h.id p.row h.task)) p.calls (record { seen = p.seen; steps = steps })
    (attempt-numbered script is host few h.id own p.row h.task h.is) h.led
