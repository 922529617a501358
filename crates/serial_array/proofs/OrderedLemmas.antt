-- Results in the order of their numbers are serial.
use Rattle.std.proofs.Common.{◌≡◌, ◌∙◌, ap, subst, refl, ℕ, ◌<◌, ◌≤◌, ◌⊎◌, inl, inr, arith, nat_le, Bool, true, false, cond, List, [], ◌∷◌, Option, Some, None, IsSome}
use Rattle.std.specs.Prelude.{IsPermutation}
use Rattle.std.specs.List.{AllByRecursion}
use Rattle.std.proofs.lemmas.Bool.{leb-true, leb-false, lt-ltb, le-ltb, cases_lt}
use Rattle.std.proofs.lemmas.List.Sorted.{IsPermutation-refl, IsPermutation-trans, IsPermutation-cons, IsPermutation-middle}
use Rattle.raid_base.specs.declared.numbers.Number.{Number}
use Rattle.script_text.specs.Script.{Script}
use Rattle.serial_array.specs.Serial.{Reported, Array, zero_array, effect, Agrees, Runs, number_of, IsAbove, RiseFrom, Rise}
use Rattle.serial_array.specs.Ordered.{number_or, number_in, inserted, in_order, below, array_after, AreApart, AgreesBelow, ResultsAreSerial}

-- What holds of each of some results holds of each once they are in order.
all-inserted : (P : Reported → Type 0) (e : Reported) (es : List Reported) → P e → AllByRecursion P es → AllByRecursion P (inserted e es)
all-inserted P e [] p ps = (p, tt)
all-inserted P e (next ∷ es) p ps = by (nat_le (number_in e) (number_in next)) (all-inserted P e es p ps.1)
  where
    by : (b : Bool) → AllByRecursion P (inserted e es) → AllByRecursion P (cond b (e ∷ next ∷ es) (next ∷ inserted e es))
    by true rest = (p, ps)
    by false rest = (ps.0, rest)

pub all-in-order : (P : Reported → Type 0) (es : List Reported) → AllByRecursion P es → AllByRecursion P (in_order es)
all-in-order P [] ps = tt
all-in-order P (e ∷ es) ps = all-inserted P e (in_order es) ps.0 (all-in-order P es ps.1)

all-both : (P Q R : Reported → Type 0) (es : List Reported) → ((e : Reported) → P e → Q e → R e) → AllByRecursion P es → AllByRecursion Q es → AllByRecursion R es
all-both P Q R [] f ps qs = tt
all-both P Q R (e ∷ es) f ps qs = (f e ps.0 qs.0, all-both P Q R es f ps.1 qs.1)

-- They are the same results.
inserted-same : (e : Reported) (es : List Reported) → IsPermutation (inserted e es) (e ∷ es)
inserted-same e [] = IsPermutation-refl (e ∷ [])
inserted-same e (next ∷ es) = by (nat_le (number_in e) (number_in next)) (inserted-same e es)
  where
    by : (b : Bool) → IsPermutation (inserted e es) (e ∷ es) → IsPermutation (cond b (e ∷ next ∷ es) (next ∷ inserted e es)) (e ∷ next ∷ es)
    by true rest = IsPermutation-refl (e ∷ next ∷ es)
    by false rest =
        IsPermutation-trans (next ∷ inserted e es) (next ∷ e ∷ es) (e ∷ next ∷ es)
        (IsPermutation-cons next (inserted e es) (e ∷ es) rest)
        (IsPermutation-middle (next ∷ []) e es)

pub in-order-same : (es : List Reported) → IsPermutation (in_order es) es
in-order-same [] = IsPermutation-refl []
in-order-same (e ∷ es) =
    IsPermutation-trans (inserted e (in_order es)) (e ∷ in_order es) (e ∷ es)
    (inserted-same e (in_order es))
    (IsPermutation-cons e (in_order es) es (in-order-same es))

abbrev pub IsOver : ℕ → Reported → Type 0
IsOver n e = n < number_in e

-- each has a lower number than all behind it
abbrev pub Ascend : List Reported → Type 0
Ascend [] = Unit {0}
Ascend (e ∷ es) = AllByRecursion (IsOver (number_in e)) es × Ascend es

all-over : (low high : ℕ) (es : List Reported) → low < high → AllByRecursion (IsOver high) es → AllByRecursion (IsOver low) es
all-over low high [] less over = tt
all-over low high (e ∷ es) less over = ((let more : high < number_in e = over.0 in omega arith), all-over low high es less over.1)

abbrev IsOther : Reported → Reported → Type 0
IsOther e other = number_in other ≡ number_in e → ⊥

is-lower : (e next : Reported) → nat_le (number_in e) (number_in next) ≡ true → IsOther e next → number_in e < number_in next
is-lower e next test other = by (cases_lt (number_in e) (number_in next)) (leb-true (number_in e) (number_in next) test)
  where
    by : (number_in e < number_in next) ⊎ (number_in next ≤ number_in e) → number_in e ≤ number_in next → number_in e < number_in next
    by (inl less) most = less
    by (inr more) most = absurd (other (let same : number_in next ≡ number_in e = omega arith in same))

inserted-ascend : (e : Reported) (es : List Reported) → AllByRecursion (IsOther e) es → Ascend es → Ascend (inserted e es)
inserted-ascend e [] others ascend = (tt, tt)
inserted-ascend e (next ∷ es) others ascend = by (nat_le (number_in e) (number_in next)) refl (inserted-ascend e es others.1 ascend.1)
  where
    by : (b : Bool) → nat_le (number_in e) (number_in next) ≡ b → Ascend (inserted e es) → Ascend (cond b (e ∷ next ∷ es) (next ∷ inserted e es))
    by true test rest =
        let less : number_in e < number_in next = is-lower e next test others.0 in
        ((less, all-over (number_in e) (number_in next) es less ascend.0), ascend)
    by false test rest =
        (all-inserted (IsOver (number_in next)) e es (leb-false (number_in e) (number_in next) test) ascend.0, rest)

pub in-order-ascend : (es : List Reported) → AreApart es → Ascend (in_order es)
in-order-ascend [] apart = tt
in-order-ascend (e ∷ es) apart =
    inserted-ascend e (in_order es) (all-in-order (IsOther e) es apart.0) (in-order-ascend es apart.1)

-- So their numbers rise.
above : (low high : Option Number) → IsSome low → IsSome high → number_or low < number_or high → IsAbove low high
above (Some low) (Some high) is has less = less
above (Some low) None is has less = absurd (let bad : false ≡ true = has in cc)
above None high is has less = absurd (let bad : false ≡ true = is in cc)

rise-from : (e : Reported) (es : List Reported) → AllByRecursion (λ (other : Reported). IsSome (number_of other.ended)) (e ∷ es) → Ascend (e ∷ es) → RiseFrom e es
rise-from e [] have ascend = have.0
rise-from e (next ∷ es) have ascend =
    (above (number_of e.ended) (number_of next.ended) have.0 have.1.0 ascend.0.0, rise-from next es have.1 ascend.1)

rise-all : (es : List Reported) → AllByRecursion (λ (other : Reported). IsSome (number_of other.ended)) es → Ascend es → Rise es
rise-all [] have ascend = tt
rise-all (e ∷ es) have ascend = rise-from e es have ascend

-- A result is among those below a number, or it is not.
not-below : (n : ℕ) (e : Reported) (es : List Reported) → n ≤ number_in e → below n (e ∷ es) ≡ below n es
not-below n e es most = ap (λ (b : Bool). cond b (e ∷ below n es) (below n es)) (le-ltb (number_in e) n most)

none-below : (n : ℕ) (es : List Reported) → AllByRecursion (IsOver n) es → below n es ≡ []
none-below n [] over = refl
none-below n (e ∷ es) over = not-below n e es (let more : n < number_in e = over.0 in omega arith) ∙ none-below n es over.1

first-below : (n : ℕ) (e : Reported) (es : List Reported) → number_in e < n → below n (e ∷ es) ≡ e ∷ below n es
first-below n e es less = ap (λ (b : Bool). cond b (e ∷ below n es) (below n es)) (lt-ltb (number_in e) n less)

-- it agrees with what those of these leave that have lower numbers, from this array on
abbrev AgreesFrom : Script → Array → List Reported → Reported → Type 0
AgreesFrom script array es e = Agrees e.job.task (array_after script array (below (number_in e) es)) e.ended e.contents

-- Each takes its effect in turn.
pub runs-ascending : (script : Script) (array : Array) (es : List Reported) → Ascend es → AllByRecursion (AgreesFrom script array es) es →
    Runs script array es (array_after script array es)
runs-ascending script array [] ascend agree = λ address. refl
runs-ascending script array (e ∷ es) ascend agree = (first, runs-ascending script (effect script e.job.task e.ended array) es ascend.1 rest)
  where
    alone : below (number_in e) (e ∷ es) ≡ []
    alone = not-below (number_in e) e es (omega arith) ∙ none-below (number_in e) es ascend.0

    first : Agrees e.job.task array e.ended e.contents
    first = subst (λ (lower : List Reported). Agrees e.job.task (array_after script array lower) e.ended e.contents) alone agree.0

    rest : AllByRecursion (AgreesFrom script (effect script e.job.task e.ended array) es) es
    rest =
        all-both (IsOver (number_in e)) (AgreesFrom script array (e ∷ es)) (AgreesFrom script (effect script e.job.task e.ended array) es) es
        (λ other over agrees. subst (λ (lower : List Reported). Agrees other.job.task (array_after script array lower) other.ended other.contents) (first-below (number_in other) e es over) agrees)
        ascend.0 agree.1

pub results_are_serial : ResultsAreSerial
results_are_serial script all have apart agree = record {
  same = in-order-same all;
  rise = rise-all (in_order all) (all-in-order (λ (e : Reported). IsSome (number_of e.ended)) all have) (in-order-ascend all apart);
  runs = runs-ascending script zero_array (in_order all) (in-order-ascend all apart) (all-in-order (AgreesBelow script all) all agree);
}
