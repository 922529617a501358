-- Attempts that were shown the cells of a table: what they may put and commit next.
use Rattle.std.proofs.Common.{◌≡◌, inl, inr, refl, ℕ, true, List, [], ◌∷◌, Some, subst}
use Rattle.std.specs.List.{AllByRecursion}
use Rattle.raid_base.specs.declared.numbers.HostNo.{HostNo}
use Rattle.raid_base.specs.declared.numbers.RowNo.{RowNo}
use Rattle.raid_base.specs.declared.numbers.Number.{Number}
use Rattle.raid_base.specs.declared.messages.Call.{Call}
use Rattle.raid_base.specs.declared.messages.Errand.{Errand}
use Rattle.raid_base.specs.Fits.{fits}
use Rattle.raid_base.specs.Numbers.{draw, seen_drawn, sees}
use Rattle.raid_base.specs.Steps.{Steps, Asks, Draws, Ends, Standing, Commit, settled, behind, next_errand, commits_next, errand_of}
use Rattle.attempts.specs.Taking.{Finish}
use Rattle.attempts.specs.Phases.{IsIn}
use Rattle.attempts.specs.Sound.{Cells, Shows, Showing}
use Rattle.histories.specs.Calls.{row_of}
use Rattle.histories.specs.Hands.{Led}
use Rattle.serial_laws.proofs.contents.ContentStates.{IsShownOf, AreShownIn}

-- all of them were shown these cells
abbrev pub AreShown : ℕ → Cells → List Call → Type 0
AreShown n cells calls = AllByRecursion (IsShownOf n cells) calls

module _ (n : ℕ) (cells : Cells) (P : Errand → List Commit → Type 0) (Q : Finish → Type 0) where
  pub next-showing : (s : Steps Finish) (e : Errand) → Showing n cells P Q s → next_errand s ≡ Some e → P e (commits_next s)
  next-showing (Asks first t c k) e h asked = let same : first ≡ e = cc in subst (λ (x : Errand). P x c) same h.0
  next-showing (Draws k) e h asked = absurd (cc)
  next-showing (Ends f) e h asked = absurd (cc)

  pub settled-showing : (host : HostNo) (seen : Number) (s : Steps Finish) → Showing n cells P Q s → Showing n cells P Q (settled host seen s).steps
  settled-showing host seen (Asks e t c k) h = h
  settled-showing host seen (Draws k) h = settled-showing host (seen_drawn seen (draw host seen)) (k (draw host seen)) (h (draw host seen))
  settled-showing host seen (Ends f) h = h

  told-showing : (host : HostNo) (seen : Number) (call : Call) (s : Steps Finish) → Showing n cells P Q s → next_errand s ≡ Some (errand_of call) → fits call.ask.what call.answer.reply ≡ true →
      IsShownOf n cells call → Showing n cells P Q (settled host seen (behind s call.answer.reply)).steps
  told-showing host seen call (Asks e t c k) h asked fit shown =
      let is : errand_of call ≡ e = cc in
      let shows : Shows n cells (errand_of call) call.answer.reply = record { fitting = fit; cell = shown } in
      settled-showing host seen (k call.answer.reply) (h.1 call.answer.reply (subst (λ (x : Errand). Shows n cells x call.answer.reply) is shows))
  told-showing host seen call (Draws k) h asked fit shown = absurd (cc)
  told-showing host seen call (Ends f) h asked fit shown = absurd (cc)

  -- so it is where its calls have led
  pub led-showing : (host : HostNo) (start : Standing Finish) (calls : List Call) (now : Standing Finish) → Showing n cells P Q start.steps → Led host start calls now → AreShown n cells calls →
      Showing n cells P Q now.steps
  led-showing host start [] now h led shown = subst (λ (x : Standing Finish). Showing n cells P Q x.steps) led h
  led-showing host start (call ∷ earlier) now h (before, led, asked, fit, later) shown =
      subst (λ (x : Standing Finish). Showing n cells P Q x.steps) later
      (told-showing host (sees before.seen call.answer.reply) call before.steps (led-showing host start earlier before h led shown.1) asked fit shown.0)

-- where all calls are of the row
pub all-of-row : (n : ℕ) (cells : Cells) (row : RowNo) (calls : List Call) → ((call : Call) → IsIn call calls → row_of call.ask.what ≡ Some row) → AreShownIn n row cells calls → AreShown n cells calls
all-of-row n cells row [] of shown = tt
all-of-row n cells row (call ∷ calls) of shown = (shown.0 (of call (inl refl)), all-of-row n cells row calls (λ c i. of c (inr i)) shown.1)

-- what was shown of one of them
pub shown-one : (n : ℕ) (cells : Cells) (row : RowNo) (calls : List Call) → AreShownIn n row cells calls → (call : Call) → IsIn call calls → row_of call.ask.what ≡ Some row → IsShownOf n cells call
shown-one n cells row [] shown call i of = absurd i
shown-one n cells row (first ∷ calls) shown call (inl same) of =
    subst (λ (c : Call). row_of c.ask.what ≡ Some row → IsShownOf n cells c) same shown.0 of
shown-one n cells row (first ∷ calls) shown call (inr i) of = shown-one n cells row calls shown.1 call i of

-- all of them were shown so, for each was
pub each-shown : (n : ℕ) (cells : Cells) (calls : List Call) → ((call : Call) → IsIn call calls → IsShownOf n cells call) → AreShown n cells calls
each-shown n cells [] h = tt
each-shown n cells (call ∷ calls) h = (h call (inl refl), each-shown n cells calls (λ c i. h c (inr i)))

-- the reply to each of them fits
pub led-fits : (host : HostNo) (start : Standing Finish) (calls : List Call) (now : Standing Finish) → Led host start calls now → (call : Call) → IsIn call calls → fits call.ask.what call.answer.reply ≡ true
led-fits host start [] now led call i = absurd i
led-fits host start (first ∷ earlier) now (before, led, asked, fit, later) call (inl same) = subst (λ (c : Call). fits c.ask.what c.answer.reply ≡ true) same fit
led-fits host start (first ∷ earlier) now (before, led, asked, fit, later) call (inr i) = led-fits host start earlier before led call i
