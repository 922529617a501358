-- Trees by what each request is after the calls before it, and by what a Done to it commits.
use Rattle.std.proofs.Common.{◌≡◌, true, List, [], ◌∷◌, Option, Some, None, IfSome, Result, subst}
use Rattle.std.specs.List.{AllByRecursion}
use Rattle.raid_base.specs.declared.numbers.HostNo.{HostNo}
use Rattle.raid_base.specs.declared.numbers.Number.{Number}
use Rattle.raid_base.specs.declared.numbers.Spent.{Spent}
use Rattle.raid_base.specs.declared.messages.Call.{Call}
use Rattle.raid_base.specs.declared.messages.Errand.{Errand}
use Rattle.raid_base.specs.declared.messages.Reply.{Reply}
use Rattle.raid_base.specs.Fits.{fits}
use Rattle.raid_base.specs.Numbers.{draw, seen_drawn, sees}
use Rattle.raid_base.specs.Steps.{Commit, Steps, Asks, Draws, Ends, Standing, bind, go_on, Walk, Through, Stopped, Phase, run, settled, behind, next_errand, commits_next, errand_of}
use Rattle.attempts.specs.Taking.{Finish}
use Rattle.histories.specs.Hands.{Led}

-- Whatever the replies that fit, and the numbers drawn: each request is P of the calls before it, the newest first, and of what a Done to it commits.
abbrev pub Committing : {A : Type 0} → (List Call → Errand → List Commit → Type 0) → List Call → Steps A → Type 0
Committing P calls (Ends f) = Unit {0}
Committing P calls (Draws k) = (d : Result Number Spent) → Committing P calls (k d)
Committing P calls (Asks e s c k) = P calls e c × ((call : Call) → errand_of call ≡ e → fits call.ask.what call.answer.reply ≡ true → Committing P (call ∷ calls) (k call.answer.reply))

-- Walks
module _ (P : List Call → Errand → List Commit → Type 0) where
  pub next-committing : (calls : List Call) (s : Steps Finish) (e : Errand) → Committing P calls s → next_errand s ≡ Some e → P calls e (commits_next s)
  next-committing calls (Asks first t c k) e h asked = let same : first ≡ e = cc in subst (λ (x : Errand). P calls x c) same h.0
  next-committing calls (Draws k) e h asked = absurd (cc)
  next-committing calls (Ends f) e h asked = absurd (cc)

  pub settled-committing : (host : HostNo) (seen : Number) (calls : List Call) (s : Steps Finish) → Committing P calls s → Committing P calls (settled host seen s).steps
  settled-committing host seen calls (Asks e t c k) h = h
  settled-committing host seen calls (Draws k) h = settled-committing host (seen_drawn seen (draw host seen)) calls (k (draw host seen)) (h (draw host seen))
  settled-committing host seen calls (Ends f) h = h

  told-committing : (host : HostNo) (seen : Number) (calls : List Call) (call : Call) (s : Steps Finish) → Committing P calls s → next_errand s ≡ Some (errand_of call) →
      fits call.ask.what call.answer.reply ≡ true → Committing P (call ∷ calls) (settled host seen (behind s call.answer.reply)).steps
  told-committing host seen calls call (Asks e t c k) h asked fit =
      let is : errand_of call ≡ e = cc in
      settled-committing host seen (call ∷ calls) (k call.answer.reply) (h.1 call is fit)
  told-committing host seen calls call (Draws k) h asked fit = absurd (cc)
  told-committing host seen calls call (Ends f) h asked fit = absurd (cc)

  -- so it is where its calls have led
  pub led-committing : (host : HostNo) (start : Standing Finish) (calls : List Call) (now : Standing Finish) → Committing P [] start.steps → Led host start calls now → Committing P calls now.steps
  led-committing host start [] now h led = subst (λ (x : Standing Finish). Committing P [] x.steps) led h
  led-committing host start (call ∷ earlier) now h (before, led, asked, fit, later) =
      subst (λ (x : Standing Finish). Committing P (call ∷ earlier) x.steps) later
      (told-committing host (sees before.seen call.answer.reply) earlier call before.steps (led-committing host start earlier before h led) asked fit)

  module _ {A : Type 0} where
    -- a walk goes on, with what is known then, or stops
    pub go-committing : (calls : List Call) (I : A → Type 0) (o : Option A) (g : A → Steps (Walk A)) (s : Steps (Walk A)) (f : Walk A → Steps Finish)
        → IfSome o I → ((a : A) → I a → Committing P calls (bind (g a) f)) → Committing P calls (bind s f) → Committing P calls (bind (go_on o g s) f)
    go-committing calls I (Some a) g s f i on off = on a i
    go-committing calls I None g s f i on off = off

    -- errands that may always be asked, in a phase that keeps what is known
    pub run-committing : (I : List Call → A → Type 0) → ((calls : List Call) (call : Call) (a : A) → I calls a → I (call ∷ calls) a) → (phase : Phase A) (f : Walk A → Steps Finish)
        → ((calls : List Call) (a : A) (e : Errand) (r : Reply) → I calls a → IfSome (phase.step a e r) (I calls))
        → ((calls : List Call) (a : A) → I calls a → Committing P calls (f (Through a)))
        → ((calls : List Call) (a : A) (e : Errand) (r : Reply) → I calls a → Committing P calls (f (Stopped a e r)))
        → (es : List Errand) → AllByRecursion (λ (e : Errand). (calls : List Call) (commits : List Commit) → P calls e commits) es
        → (a : A) (calls : List Call) → I calls a → Committing P calls (bind (run phase es a) f)
    run-committing I grows phase f keeps on off [] own a calls i = on calls a i
    run-committing I grows phase f keeps on off (e ∷ es) own a calls i = (
      own.0 calls (phase.commits a e),
      λ call is fit. go-committing (call ∷ calls) (I (call ∷ calls)) (phase.step a e call.answer.reply) (λ b. run phase es b) (Ends (Stopped a e call.answer.reply)) f
          (keeps (call ∷ calls) a e call.answer.reply (grows calls call a i))
          (λ b j. run-committing I grows phase f keeps on off es own.1 b (call ∷ calls) j)
          (off (call ∷ calls) a e call.answer.reply (grows calls call a i)),
    )
