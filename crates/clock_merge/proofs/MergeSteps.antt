-- One line of a merge: it is the next entry of its bay, and the next call of its host.
use Rattle.std.proofs.Common.{◌≡◌, inl, inr, ℕ, ◌<◌, ◌==◌, Bool, true, false, if◌then◌else◌, List, [], ◌∷◌, ◌++◌, refl, sym, ap, subst, ◌∙◌, arith, append_assoc}
use Rattle.std.specs.List.{AllByRecursion, slice_index_or}
use Rattle.raid_base.specs.declared.numbers.HostNo.{HostNo}
use Rattle.raid_base.specs.declared.numbers.BayNo.{BayNo}
use Rattle.raid_base.specs.declared.messages.Call.{Call}
use Rattle.raid_base.specs.declared.messages.Entry.{Entry}
use Rattle.stripe_layout.specs.Placement.{bay}
use Rattle.script_text.specs.Script.{Script}
use Rattle.histories.specs.Progress.{Progress}
use Rattle.histories.specs.History.{if_taken, progress_at, clock_at, entry_of, journal, transcript}
use Rattle.histories.specs.Asked.{AreAsked}
use Rattle.clock_merge.specs.Merge.{Line, entries_at, IsBefore, RiseFrom, Ticks}
use Rattle.clock_merge.specs.Tied.{entries_of, calls_at, call_of}
use Rattle.clock_merge.proofs.LineLemmas.{same-bay, same-host, same-test, other-test, same-heads, same-tails, entries-here, host-here, call-here, call-there, all-at, all-of, all-calls, before-all}
use Rattle.clock_merge.proofs.HostRuns.{RunsOn, Grows, clocks-rise}

-- the line of a call
abbrev pub line_of : Call → Line
line_of call = record { bay = call.bay; entry = entry_of call }

module _ (script : Script) (journals : List (List Entry)) (transcripts : HostNo → List Call) where
  -- the clocks of what is left of a bay's journal tick from where the bay stands
  pub record BayLeft (k : ℕ) (before : List Entry) (clock : ℕ) (entries : List Entry) : Type 0 where
    pub whole : before ++ entries ≡ slice_index_or journals k []
    pub end : ℕ
    pub ticks : Ticks clock entries end

  -- what is left of a host's transcript goes on from where the host stands, and is tied to the entries that are left
  pub record HostLeft (host : HostNo) (before : List Call) (p : Progress) (entries : ℕ → List Entry) (left : List Call) : Type 0 where
    pub whole : before ++ left ≡ transcripts host
    pub tied : (k : ℕ) → k < script.n → entries_of host (entries k) ≡ calls_at (bay k) left
    pub runs : RunsOn script host p left
    pub grows : AllByRecursion Grows left

  abbrev pub BayStands : ℕ → List Call → List Line → Type 0
  BayStands k history lines = BayLeft k (journal (bay k) history) (clock_at (bay k) history) (entries_at (bay k) lines)

  abbrev pub HostStands : HostNo → List Call → List Line → List Call → Type 0
  HostStands host history lines left = HostLeft host (transcript host history) (progress_at script host history) (λ k. entries_at (bay k) lines) left

  -- where calls stand before these lines
  pub record Along (history : List Call) (lines : List Line) : Type 0 where
    pub is : AreAsked script history
    pub bays : (k : ℕ) → k < script.n → BayStands k history lines
    pub hosts : (host : HostNo) → (left : List Call) × HostStands host history lines left

  -- The next call
  module _ (history : List Call) (line : Line) (lines : List Line) (rise : RiseFrom line lines) (inside : line.bay.0 < script.n) where
    abbrev Host : HostNo
    Host = line.entry.ask.host

    pub record NextCall (left : List Call) : Type 0 where
      pub call : Call
      pub rest : List Call
      pub is : left ≡ call ∷ rest
      pub same : line_of call ≡ line

    own-entries : (left : List Call) → HostStands Host history (line ∷ lines) left → line.entry ∷ entries_of Host (entries_at line.bay lines) ≡ calls_at line.bay left
    own-entries left stands =
        sym (host-here Host line.entry (entries_at line.bay lines) (same-test Host.0))
        ∙ ap (λ (es : List Entry). entries_of Host es) (sym (entries-here line.bay line lines (same-test line.bay.0)))
        ∙ stands.tied line.bay.0 inside

    -- it is no call at another bay
    never-other : (call : Call) (rest : List Call) → HostStands Host history (line ∷ lines) (call ∷ rest) → (call.bay.0 == line.bay.0) ≡ false → ⊥
    never-other call rest stands e = by before-call where
      above : call.answer.clock < line.entry.clock
      above =
          let all = all-calls (λ (entry : Entry). call.answer.clock < entry.clock) line.bay rest
          (clocks-rise script Host (progress_at script Host history) call rest stands.runs stands.grows.1) in
          let is : line.entry ∷ entries_of Host (entries_at line.bay lines) ≡ calls_at line.bay rest = own-entries (call ∷ rest) stands ∙ call-there line.bay call rest e in
          (subst (λ (es : List Entry). AllByRecursion (λ (entry : Entry). call.answer.clock < entry.clock) es) (sym is) all).0

      entries-other : entries_at call.bay (line ∷ lines) ≡ entries_at call.bay lines
      entries-other = ap (λ (b : Bool). if b then line.entry ∷ entries_at call.bay lines else entries_at call.bay lines) (other-test call.bay.0 line.bay.0 e)

      before-call : IsBefore line (line_of call)
      before-call =
          let P : Entry → Type 0 = λ entry. IsBefore line (record { bay = call.bay; entry = entry }) in
          let all : AllByRecursion P (entries_of Host (entries_at call.bay lines)) =
          all-of P Host (entries_at call.bay lines) (all-at (IsBefore line) call.bay lines (before-all line lines rise)) in
          let is : entries_of Host (entries_at call.bay lines) ≡ entry_of call ∷ calls_at call.bay rest =
          ap (λ (es : List Entry). entries_of Host es) (sym entries-other) ∙ stands.tied call.bay.0 stands.runs.1 ∙ call-here call.bay call rest (same-test call.bay.0) in
          (subst (λ (es : List Entry). AllByRecursion P es) is all).0

      by : IsBefore line (line_of call) → ⊥
      by (inl less) = omega (arith, less, above)
      by (inr same) = omega (arith, same.0, above)

    -- the next line is that of the host's next call
    pub next-call : (left : List Call) → HostStands Host history (line ∷ lines) left → NextCall left
    next-call [] stands = absurd (let bad : line.entry ∷ entries_of Host (entries_at line.bay lines) ≡ [] = own-entries [] stands in cc)
    next-call (call ∷ rest) stands = by (call.bay.0 == line.bay.0) refl where
      by : (b : Bool) → (call.bay.0 == line.bay.0) ≡ b → NextCall (call ∷ rest)
      by true e =
          let entry : line.entry ≡ entry_of call = same-heads line.entry (entry_of call) (entries_of Host (entries_at line.bay lines)) (calls_at line.bay rest)
          (own-entries (call ∷ rest) stands ∙ call-here line.bay call rest e) in
          record {
            call = call;
            rest = rest;
            is = refl;
            same = ap (λ (at : BayNo). record { bay = at; entry = entry_of call }) (same-bay call.bay line.bay e) ∙ ap (λ (e : Entry). record { bay = line.bay; entry = e }) (sym entry);
          }
      by false e = absurd (never-other call rest stands e)

  -- Its answer
  module _ (history : List Call) (call : Call) (rest : List Call) (lines : List Line) (along : Along history (line_of call ∷ lines))
      (own : HostStands call.ask.host history (line_of call ∷ lines) (call ∷ rest)) (inside : call.bay.0 < script.n) where
    there : BayStands call.bay.0 history (line_of call ∷ lines)
    there = along.bays call.bay.0 inside

    ticked : Ticks (clock_at call.bay history) (entry_of call ∷ entries_at call.bay lines) there.end
    ticked = subst (λ (es : List Entry). Ticks (clock_at call.bay history) es there.end) (entries-here call.bay (line_of call) lines (same-test call.bay.0)) there.ticks

    -- each bay
    bay-stands : (k : ℕ) → k < script.n → BayStands k (call ∷ history) lines
    bay-stands k below = by (call.bay.0 == k) (along.bays k below) where
      by : (b : Bool) → BayLeft k (journal (bay k) history) (clock_at (bay k) history) (if b then entry_of call ∷ entries_at (bay k) lines else entries_at (bay k) lines) →
          BayLeft k (if b then journal (bay k) history ++ entry_of call ∷ [] else journal (bay k) history)
          (if b then call.answer.clock else clock_at (bay k) history) (entries_at (bay k) lines)
      by true old = record {
        whole = append_assoc (journal (bay k) history) (entry_of call ∷ []) (entries_at (bay k) lines) ∙ old.whole;
        end = old.end;
        ticks = old.ticks.1;
      }
      by false old = old

    -- each host
    tied-rest : (host : HostNo) (b : Bool) (es : List Entry) (k : ℕ) → (call.ask.host.0 == host.0) ≡ true →
        entries_of host (if b then entry_of call ∷ es else es) ≡ (if b then entry_of call ∷ calls_at (bay k) rest else calls_at (bay k) rest) → entries_of host es ≡ calls_at (bay k) rest
    tied-rest host true es k mine e = same-tails (entry_of call) (entry_of call) (entries_of host es) (calls_at (bay k) rest) (sym (host-here host (entry_of call) es mine) ∙ e)
    tied-rest host false es k mine e = e

    tied-other : (host : HostNo) (b : Bool) (es : List Entry) → (call.ask.host.0 == host.0) ≡ false → entries_of host (if b then entry_of call ∷ es else es) ≡ entries_of host es
    tied-other host true es mine = ap (λ (h : Bool). if h then entry_of call ∷ entries_of host es else entries_of host es) mine
    tied-other host false es mine = refl

    host-stands : (host : HostNo) → (left : List Call) × HostStands host (call ∷ history) lines left
    host-stands host = by (call.ask.host.0 == host.0) refl where
      by : (b : Bool) → (call.ask.host.0 == host.0) ≡ b →
          (left : List Call) × HostLeft host (if b then transcript host history ++ call ∷ [] else transcript host history) (if_taken script host (progress_at script host history) call b)
          (λ k. entries_at (bay k) lines) left
      by true mine =
          let old : HostStands host history (line_of call ∷ lines) (call ∷ rest) =
          subst (λ (h : HostNo). HostStands h history (line_of call ∷ lines) (call ∷ rest)) (same-host call.ask.host host mine) own in (
            rest,
            record {
              whole = append_assoc (transcript host history) (call ∷ []) rest ∙ old.whole;
              tied = λ k below. tied-rest host (call.bay.0 == k) (entries_at (bay k) lines) k mine (old.tied k below);
              runs = old.runs.3;
              grows = old.grows.1;
            },
          )
      by false mine =
          let found = along.hosts host in
          let old = found.1 in (
            found.0,
            record {
              whole = old.whole;
              tied = λ k below. sym (tied-other host (call.bay.0 == k) (entries_at (bay k) lines) mine) ∙ old.tied k below;
              runs = old.runs;
              grows = old.grows;
            },
          )

    pub along-call : Along (call ∷ history) lines
    along-call = record { is = (along.is, record { asked = own.runs.2; clocked = ticked.0 }); bays = bay-stands; hosts = host-stands }

  -- the next line is answered
  pub along-line : (history : List Call) (line : Line) (lines : List Line) → RiseFrom line lines → line.bay.0 < script.n → Along history (line ∷ lines) → Along (call_of line ∷ history) lines
  along-line history line lines rise inside along =
      let found = along.hosts line.entry.ask.host in
      let next = next-call history line lines rise inside found.0 found.1 in
      let own : HostStands line.entry.ask.host history (line ∷ lines) (next.call ∷ next.rest) =
      subst (λ (left : List Call). HostStands line.entry.ask.host history (line ∷ lines) left) next.is found.1 in
      subst (λ (l : Line). Along history (l ∷ lines) → HostStands l.entry.ask.host history (l ∷ lines) (next.call ∷ next.rest) → l.bay.0 < script.n → Along (call_of l ∷ history) lines) next.same
      (λ a h i. along-call history next.call next.rest lines a h i)
      along own inside
