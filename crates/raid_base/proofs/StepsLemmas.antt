-- Laws of steps, call by call.
use Rattle.std.proofs.Common.{◌≡◌, ℕ, zero, suc, ◌+◌, ◌≤◌, List, [], ◌∷◌, ◌++◌, Option, Some, None, length, ap, ◌∙◌, subst, arith}
use Rattle.raid_base.specs.declared.numbers.HostNo.{HostNo}
use Rattle.raid_base.specs.declared.messages.Errand.{Errand}
use Rattle.raid_base.specs.declared.messages.Call.{Call}
use Rattle.raid_base.specs.Steps.{Steps, Asks, Draws, Ends, next_errand, answer, bind, Walk, Stopped, Phase, go_on, run, Standing, told, errand_of, Leads, Follows, EndsWithin}

module _ {A : Type 0} where
  -- one more call
  pub leads-told : (host : HostNo) (now : Standing A) (calls : List Call) (later : Standing A) (c : Call)
      → Leads host now calls later → next_errand later.steps ≡ Some (errand_of c) → Leads host now (calls ++ c ∷ []) (told host later c.answer.reply)
  leads-told host now [] later c l h = (ap (λ s. next_errand s.steps) l ∙ h, ap (λ s. told host s c.answer.reply) l)
  leads-told host now (x ∷ xs) later c l h = (l.0, leads-told host (told host now x.answer.reply) xs later c l.1 h)

  -- to the end
  pub follows-leads : (host : HostNo) (now : Standing A) (calls : List Call) (later : Standing A) (a : A)
      → Leads host now calls later → answer later.steps ≡ Some a → Follows host now calls a
  follows-leads host now [] later a l h = ap (λ s. answer s.steps) l ∙ h
  follows-leads host now (x ∷ xs) later a l h = (l.0, follows-leads host (told host now x.answer.reply) xs later a l.1 h)

  -- a smaller bound is a bound
  pub within-more : (n m : ℕ) (s : Steps A) → n ≤ m → EndsWithin n s → EndsWithin m s
  within-more n m (Ends a) le h = tt
  within-more n m (Draws k) le h = λ d. within-more n m (k d) le (h d)
  within-more zero m (Asks e s c k) le h = absurd h
  within-more (suc n) zero (Asks e s c k) le h = absurd (omega arith)
  within-more (suc n) (suc m) (Asks e s c k) le h = λ r. within-more n m (k r) (omega arith) (h r)

module _ {A B : Type 0} where
  pub within-bind : (n m : ℕ) (s : Steps A) (f : A → Steps B) → EndsWithin n s → ((a : A) → EndsWithin m (f a)) → EndsWithin (n + m) (bind s f)
  within-bind n m (Ends a) f h g = within-more m (n + m) (f a) (omega arith) (g a)
  within-bind n m (Draws k) f h g = λ d. within-bind n m (k d) f (h d) g
  within-bind zero m (Asks e s c k) f h g = absurd h
  within-bind (suc n) m (Asks e s c k) f h g =
      let same : suc (n + m) ≡ suc n + m = omega arith in
      subst (λ x. EndsWithin x (bind (Asks e s c k) f)) same (λ r. within-bind n m (k r) f (h r) g)

module _ {A : Type 0} where
  within_go : (n : ℕ) (o : Option A) (f : A → Steps (Walk A)) (s : Steps (Walk A)) → ((a : A) → EndsWithin n (f a)) → EndsWithin n s → EndsWithin n (go_on o f s)
  within_go n (Some a) f s h g = h a
  within_go n None f s h g = g

  -- a walk asks no more than its errands
  pub within-run : (phase : Phase A) (es : List Errand) (a : A) → EndsWithin (length es) (run phase es a)
  within-run phase [] a = tt
  within-run phase (e ∷ es) a = λ r. within_go (length es) (phase.step a e r) (λ b. run phase es b) (Ends (Stopped a e r)) (λ b. within-run phase es b) tt
