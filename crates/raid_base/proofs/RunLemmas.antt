-- What a reply leaves of a walk.
use Rattle.std.proofs.Common.{◌≡◌, ◌<◌, List, [], ◌∷◌, Option, Some, None, slice_get, length, drop, refl, ap, arith}
use Rattle.raid_base.specs.declared.messages.Reply.{Reply}
use Rattle.raid_base.specs.declared.messages.Errand.{Errand}
use Rattle.raid_base.specs.Steps.{Steps, Ends, behind, next_errand, answer, bind, go_on, Walk, Through, Stopped, Phase, run}
use Rattle.raid_base.specs.First.{first_errand}

module _ {A B : Type 0} where
  behind-run : (phase : Phase A) (es : List Errand) (a : A) (f : Walk A → Steps B) (r : Reply) (o : Option A) → 0 < length es → phase.step a (first_errand es) r ≡ o
      → behind (bind (run phase es a) f) r ≡ bind (go_on o (λ b. run phase (drop 1 es) b) (Ends (Stopped a (first_errand es) r))) f
  behind-run phase [] a f r o h e = absurd (omega arith)
  behind-run phase (x ∷ es) a f r o h e = ap (λ o. bind (go_on o (λ b. run phase es b) (Ends (Stopped a x r))) f) e

  pub behind-run-some : (phase : Phase A) (es : List Errand) (a : A) (f : Walk A → Steps B) (r : Reply) (b : A) → 0 < length es → phase.step a (first_errand es) r ≡ Some b
      → behind (bind (run phase es a) f) r ≡ bind (run phase (drop 1 es) b) f
  behind-run-some phase es a f r b h e = behind-run phase es a f r (Some b) h e

  pub behind-run-last : (phase : Phase A) (es : List Errand) (a : A) (f : Walk A → Steps B) (r : Reply) (b : A) → length es ≡ 1 → phase.step a (first_errand es) r ≡ Some b
      → behind (bind (run phase es a) f) r ≡ f (Through b)
  behind-run-last phase [] a f r b h e = absurd (omega arith)
  behind-run-last phase (x ∷ []) a f r b h e = behind-run-some phase (x ∷ []) a f r b (omega arith) e
  behind-run-last phase (x ∷ y ∷ es) a f r b h e = absurd (omega arith)

  pub behind-run-none : (phase : Phase A) (es : List Errand) (a : A) (f : Walk A → Steps B) (r : Reply) → 0 < length es → phase.step a (first_errand es) r ≡ None
      → behind (bind (run phase es a) f) r ≡ f (Stopped a (first_errand es) r)
  behind-run-none phase es a f r h e = behind-run phase es a f r None h e

  pub next_errand-run : (phase : Phase A) (es : List Errand) (a : A) (f : Walk A → Steps B) → 0 < length es
      → next_errand (bind (run phase es a) f) ≡ slice_get es 0
  next_errand-run phase [] a f h = absurd (omega arith)
  next_errand-run phase (x ∷ es) a f h = refl

  pub next_errand-run-end : (phase : Phase A) (es : List Errand) (a : A) (f : Walk A → Steps B)
      → next_errand (f (Through a)) ≡ None → next_errand (bind (run phase es a) f) ≡ slice_get es 0
  next_errand-run-end phase [] a f h = h
  next_errand-run-end phase (x ∷ es) a f h = refl

module _ {A B : Type 0} where
  pub answer-run : (phase : Phase A) (es : List Errand) (a : A) (f : Walk A → Steps B) → 0 < length es → answer (bind (run phase es a) f) ≡ None
  answer-run phase [] a f h = absurd (omega arith)
  answer-run phase (x ∷ es) a f h = refl

  pub run-none : (phase : Phase A) (es : List Errand) (a : A) (f : Walk A → Steps B) → length es ≡ 0 → bind (run phase es a) f ≡ f (Through a)
  run-none phase [] a f h = refl
  run-none phase (x ∷ es) a f h = absurd (omega arith)

pub ruleset ends_run = (answer-run, run-none)

pub ruleset told_run = (behind-run-some, behind-run-last, behind-run-none, next_errand-run)

pub ruleset last_run = (next_errand-run-end, next_errand-run)
