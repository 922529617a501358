-- What steps keep to, part by part.
use Rattle.std.proofs.Common.{ℕ, zero, suc, ◌+◌, ◌≤◌, List, [], ◌∷◌, Option, Some, None, IfSome, length, arith}
use Rattle.std.specs.List.{AllByRecursion}
use Rattle.raid_base.specs.declared.messages.Reply.{Reply}
use Rattle.raid_base.specs.declared.messages.Errand.{Errand}
use Rattle.raid_base.specs.Steps.{Steps, Asks, Draws, Ends, bind, go_on, Walk, Through, Stopped, Phase, run}
use Rattle.attempts.specs.Discipline.{Obeys}

module _ {B : Type 0} (P : Errand → Type 0) (Q : B → Type 0) where
  -- more room is fine
  pub obeys-more : (n m : ℕ) (s : Steps B) → n ≤ m → Obeys P Q n s → Obeys P Q m s
  obeys-more n m (Ends a) le h = h
  obeys-more n m (Draws k) le h = λ d is. obeys-more n m (k d) le (h d is)
  obeys-more zero m (Asks e s c k) le h = absurd h
  obeys-more (suc n) zero (Asks e s c k) le h = absurd (omega arith)
  obeys-more (suc n) (suc m) (Asks e s c k) le h = (h.0, λ r. obeys-more n m (k r) (omega arith) (h.1 r))

module _ {A B : Type 0} (P : Errand → Type 0) (Q : B → Type 0) (I : A → Type 0) where
  -- a reply goes on, or stops
  obeys_go : (n : ℕ) (o : Option A) (g : A → Steps (Walk A)) (s : Steps (Walk A)) (f : Walk A → Steps B)
      → IfSome o I → ((a : A) → I a → Obeys P Q n (bind (g a) f)) → Obeys P Q n (bind s f) → Obeys P Q n (bind (go_on o g s) f)
  obeys_go n (Some a) g s f i on off = on a i
  obeys_go n None g s f i on off = off

  -- a walk whose replies keep I, and what follows it
  pub obeys-run : (phase : Phase A) (f : Walk A → Steps B) (m : ℕ)
      → ((a : A) (e : Errand) (r : Reply) → I a → IfSome (phase.step a e r) I)
      → ((a : A) → I a → Obeys P Q m (f (Through a)))
      → ((a : A) (e : Errand) (r : Reply) → I a → Obeys P Q m (f (Stopped a e r)))
      → (es : List Errand) (a : A) (room : ℕ) → length es + m ≤ room → AllByRecursion P es → I a → Obeys P Q room (bind (run phase es a) f)
  obeys-run phase f m kept on off [] a room le all i = obeys-more P Q m room (f (Through a)) (omega arith) (on a i)
  obeys-run phase f m kept on off (e ∷ es) a zero le all i = absurd (omega arith)
  obeys-run phase f m kept on off (e ∷ es) a (suc room) le all i =
      let less : length es + m ≤ room = omega arith in (
        all.0,
        λ r. obeys_go room (phase.step a e r) (λ b. run phase es b) (Ends (Stopped a e r)) f (kept a e r i)
            (λ b ib. obeys-run phase f m kept on off es b room less all.1 ib)
            (obeys-more P Q m room (f (Stopped a e r)) (omega arith) (off a e r i)),
      )

module _ {A B : Type 0} (P : Errand → Type 0) (Q : B → Type 0) where
  -- a walk of one errand
  pub obeys-one : (phase : Phase A) (f : Walk A → Steps B) (m : ℕ) (e : Errand) (a : A) (room : ℕ) → 1 + m ≤ room → P e
      → ((r : Reply) → IfSome (phase.step a e r) (λ b. Obeys P Q m (f (Through b))))
      → ((r : Reply) → Obeys P Q m (f (Stopped a e r)))
      → Obeys P Q room (bind (run phase (e ∷ []) a) f)
  obeys-one phase f m e a zero le is on off = absurd (omega arith)
  obeys-one phase f m e a (suc room) le is on off =
      let less : m ≤ room = omega arith in (
        is,
        λ r. obeys_go P Q (λ b. Obeys P Q m (f (Through b))) room (phase.step a e r) (λ b. run phase [] b) (Ends (Stopped a e r)) f (on r)
            (λ b ok. obeys-more P Q m room (f (Through b)) less ok)
            (obeys-more P Q m room (f (Stopped a e r)) less (off r)),
      )
