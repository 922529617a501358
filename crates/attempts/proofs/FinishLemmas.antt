-- Walks, and what follows their ends.
use Rattle.std.proofs.Common.{ℕ, List, [], ◌∷◌, Option, Some, None, IfSome, map}
use Rattle.raid_base.specs.declared.numbers.BayNo.{BayNo}
use Rattle.raid_base.specs.declared.messages.Reply.{Reply}
use Rattle.raid_base.specs.declared.messages.Errand.{Errand}
use Rattle.raid_base.specs.Steps.{Steps, Ends, bind, go_on, Walk, Through, Stopped, Phase, run}
use Rattle.attempts.specs.Finishes.{IsNoRead, Finishes}

any : {A : Type 0} (o : Option A) → IfSome o (λ a. Unit {0})
any (Some a) = tt
any None = tt

module _ {A B : Type 0} (Q : B → Type 0) where
  finishes-go : (J : A → Type 0) (o : Option A) (g : A → Steps (Walk A)) (s : Steps (Walk A)) (f : Walk A → Steps B)
      → IfSome o J → ((a : A) → J a → Finishes Q (bind (g a) f)) → Finishes Q (bind s f) → Finishes Q (bind (go_on o g s) f)
  finishes-go J (Some a) g s f i on off = on a i
  finishes-go J None g s f i on off = off

  -- whatever the walk gives
  pub finishes-run : (phase : Phase A) (f : Walk A → Steps B) → ((a : A) → IsNoRead (phase.stop a)) → ((walk : Walk A) → Finishes Q (f walk)) → (es : List Errand) (a : A) → Finishes Q (bind (run phase es a) f)
  finishes-run phase f stops on [] a = on (Through a)
  finishes-run phase f stops on (e ∷ es) a = (
    stops a,
    λ r. finishes-go (λ b. Unit {0}) (phase.step a e r) (λ b. run phase es b) (Ends (Stopped a e r)) f
        (any (phase.step a e r)) (λ b i. finishes-run phase f stops on es b) (on (Stopped a e r)),
  )

  -- over errands of some units, with what is known before each of them
  pub finishes-units : (place : ℕ → BayNo) (make : BayNo → Errand) (J : List ℕ → A → Type 0) (phase : Phase A) (f : Walk A → Steps B) → ((a : A) → IsNoRead (phase.stop a))
      → ((u : ℕ) (us : List ℕ) (a : A) (r : Reply) → J (u ∷ us) a → IfSome (phase.step a (make (place u)) r) (J us))
      → ((a : A) → J [] a → Finishes Q (f (Through a)))
      → ((a : A) (e : Errand) (r : Reply) → Finishes Q (f (Stopped a e r)))
      → (us : List ℕ) (a : A) → J us a → Finishes Q (bind (run phase (map make (map place us)) a) f)
  finishes-units place make J phase f stops kept on off [] a j = on a j
  finishes-units place make J phase f stops kept on off (u ∷ us) a j = (
    stops a,
    λ r. finishes-go (J us) (phase.step a (make (place u)) r) (λ b. run phase (map make (map place us)) b) (Ends (Stopped a (make (place u)) r)) f
        (kept u us a r j) (λ b jb. finishes-units place make J phase f stops kept on off us b jb) (off a (make (place u)) r),
  )

  -- over any errands, with what each reply keeps
  pub finishes-kept : (I : A → Type 0) (phase : Phase A) (f : Walk A → Steps B) → ((a : A) → IsNoRead (phase.stop a))
      → ((a : A) (e : Errand) (r : Reply) → I a → IfSome (phase.step a e r) I)
      → ((a : A) → I a → Finishes Q (f (Through a)))
      → ((a : A) (e : Errand) (r : Reply) → Finishes Q (f (Stopped a e r)))
      → (es : List Errand) (a : A) → I a → Finishes Q (bind (run phase es a) f)
  finishes-kept I phase f stops kept on off [] a i = on a i
  finishes-kept I phase f stops kept on off (e ∷ es) a i = (
    stops a,
    λ r. finishes-go I (phase.step a e r) (λ b. run phase es b) (Ends (Stopped a e r)) f
        (kept a e r i) (λ b ib. finishes-kept I phase f stops kept on off es b ib) (off a e r),
  )
