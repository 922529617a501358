-- The last of some results in order that touches a block leaves it the newest of the contents that its unit has taken.
use Rattle.std.proofs.Common.{◌≡◌, ◌⊎◌, inl, inr, refl, sym, ap, subst, ◌∙◌, ℕ, ◌<◌, ◌≤◌, Bool, true, false, cond, if◌then◌else◌, List, [], ◌∷◌, filter, arith}
use Rattle.std.specs.Prelude.{nat_lt}
use Rattle.std.specs.List.{AllByRecursion}
use Rattle.std.proofs.lemmas.List.Elements.{recursion_from_All, filter_passes}
use Rattle.raid_base.specs.declared.cells.Content.{Content}
use Rattle.raid_base.specs.declared.cells.Content.TheVariants.{Bytes}
use Rattle.raid_base.specs.Cells.{zeros}
use Rattle.virtual_objects.specs.Objects.{Address}
use Rattle.attempts.specs.Phases.{IsIn}
use Rattle.attempts.proofs.PhaseLemmas.{all-weaken}
use Rattle.attempts.proofs.ReturnLemmas.{in-filter, in-filtered}
use Rattle.attempts.proofs.SoundLemmas.{all-filter}
use Rattle.script_text.specs.Script.{Script}
use Rattle.serial_array.specs.Serial.{Reported, Array, zero_array, effect}
use Rattle.serial_array.specs.Ordered.{number_in, below, array_after, touches}
use Rattle.serial_array.proofs.EffectLemmas.{effects_touch}
use Rattle.serial_array.proofs.OrderedLemmas.{IsOver, Ascend}
use Rattle.serial_laws.specs.Rising.{Taken, AreRising}
use Rattle.serial_laws.specs.Seen.{newest_below}
use Rattle.row_laws.proofs.owners.OwnedPuts.{all-in}

-- Lists
pub passes : {X : Type 0} (test : X → Bool) (x : X) (xs : List X) → IsIn x (filter test xs) → test x ≡ true
passes test x xs among = all-in (λ y. test y ≡ true) x (filter test xs) (recursion_from_All (λ y. test y ≡ true) (filter test xs) (filter_passes test xs)) among

-- the content of the newest of these, and all zeros where there is none
abbrev pub newest : List Taken → Content
newest [] = Bytes zeros
newest (t ∷ ts) = t.content

-- those with a number below this
abbrev pub low_taken : ℕ → Taken → Bool
low_taken n t = nat_lt t.number.0 n

abbrev pub taken_below : ℕ → List Taken → List Taken
taken_below n ts = filter (low_taken n) ts

abbrev low_result : ℕ → Reported → Bool
low_result n e = nat_lt (number_in e) n

pub newest-below : (n : ℕ) (ts : List Taken) → newest (taken_below n ts) ≡ newest_below n ts
newest-below n [] = refl
newest-below n (t ∷ ts) = by (nat_lt t.number.0 n) (newest-below n ts)
  where
    by : (b : Bool) → newest (taken_below n ts) ≡ newest_below n ts → newest (cond b (t ∷ taken_below n ts) (taken_below n ts)) ≡ (if b then t.content else newest_below n ts)
    by true rest = refl
    by false rest = rest

pub rising-below : (n : ℕ) (ts : List Taken) → AreRising ts → AreRising (taken_below n ts)
rising-below n [] rising = tt
rising-below n (t ∷ ts) rising = by (nat_lt t.number.0 n) (all-filter (λ (x : Taken). x.number.0 < t.number.0) (low_taken n) ts rising.0) (rising-below n ts rising.1)
  where
    by : (b : Bool) → AllByRecursion (λ (x : Taken). x.number.0 < t.number.0) (taken_below n ts) → AreRising (taken_below n ts) → AreRising (cond b (t ∷ taken_below n ts) (taken_below n ts))
    by true all rest = (all, rest)
    by false all rest = rest

pub ascend-below : (n : ℕ) (es : List Reported) → Ascend es → Ascend (below n es)
ascend-below n [] ascend = tt
ascend-below n (e ∷ es) ascend = by (nat_lt (number_in e) n) (all-filter (IsOver (number_in e)) (low_result n) es ascend.0) (ascend-below n es ascend.1)
  where
    by : (b : Bool) → AllByRecursion (IsOver (number_in e)) (below n es) → Ascend (below n es) → Ascend (cond b (e ∷ below n es) (below n es))
    by true all rest = (all, rest)
    by false all rest = rest

module _ (script : Script) (address : Address) where
  abbrev IsUntouched : Reported → Type 0
  IsUntouched e = touches script e address ≡ false

  abbrev IsEarlier : ℕ → Reported → Type 0
  IsEarlier n e = touches script e address ≡ true → number_in e ≤ n

  -- the last of some results that touches the block, and what it leaves there
  record Last (es : List Reported) (content : Content) : Type 0 where
    result : Reported
    among : IsIn result es
    touched : touches script result address ≡ true
    value : content ≡ effect script result.job.task result.ended zero_array address
    latest : AllByRecursion (IsEarlier (number_in result)) es

  abbrev Settled : Array → List Reported → Content → Type 0
  Settled array es content = (AllByRecursion IsUntouched es × (content ≡ array address)) ⊎ Last es content

  -- no result touches the block, or one is the last that does
  settles : (array : Array) (es : List Reported) → Ascend es → Settled array es (array_after script array es address)
  settles array [] ascend = inl (tt, refl)
  settles array (e ∷ es) ascend = by (settles (effect script e.job.task e.ended array) es ascend.1) (touches script e address) refl
    where
      Left : Content
      Left = array_after script (effect script e.job.task e.ended array) es address

      by : Settled (effect script e.job.task e.ended array) es Left → (b : Bool) → touches script e address ≡ b → Settled array (e ∷ es) Left
      by (inr l) b is =
          let less : number_in e < number_in l.result = all-in (IsOver (number_in e)) l.result es ascend.0 l.among in
          let most : number_in e ≤ number_in l.result = omega (arith, less) in
          inr (record { result = l.result; among = inr l.among; touched = l.touched; value = l.value; latest = ((λ on. most), l.latest) })
      by (inl quiet) true is =
          let own : number_in e ≤ number_in e = omega arith in
          inr (record {
            result = e;
            among = inl refl;
            touched = is;
            value = quiet.1 ∙ (effects_touch script e address).gives array zero_array is;
            latest = ((λ on. own), all-weaken IsUntouched (IsEarlier (number_in e)) (λ other off on. absurd (let bad : false ≡ true = sym off ∙ on in cc)) es quiet.0);
          })
      by (inl quiet) false is = inl ((is, quiet.0), quiet.1 ∙ (effects_touch script e address).leaves array is)

  -- what these results give the block are these contents, with their numbers
  pub record AreTaken (es : List Reported) (ts : List Taken) : Type 0 where
    pub gives : (e : Reported) → IsIn e es → touches script e address ≡ true →
        (t : Taken) × IsIn t ts × (t.number.0 ≡ number_in e) × (effect script e.job.task e.ended zero_array address ≡ t.content)
    pub given : (t : Taken) → IsIn t ts → (e : Reported) × IsIn e es × (touches script e address ≡ true) × (number_in e ≡ t.number.0)

  pub leaves-newest : (es : List Reported) (ts : List Taken) → Ascend es → AreRising ts → AreTaken es ts → array_after script zero_array es address ≡ newest ts
  leaves-newest es ts ascend rising are = by ts rising are (settles zero_array es ascend)
    where
      After : Content
      After = array_after script zero_array es address

      by : (ts : List Taken) → AreRising ts → AreTaken es ts → Settled zero_array es After → After ≡ newest ts
      by [] rising are (inl quiet) = quiet.1
      by [] rising are (inr l) = absurd ((are.gives l.result l.among l.touched).1)
      by (t ∷ ts) rising are (inl quiet) =
          let g = are.given t (inl refl) in
          let off : touches script g.0 address ≡ false = all-in IsUntouched g.0 es quiet.0 g.1 in
          absurd (let bad : false ≡ true = sym off ∙ g.2 in cc)
      by (t ∷ ts) rising are (inr l) = of-taken (are.gives l.result l.among l.touched)
        where
          of-taken : (x : Taken) × IsIn x (t ∷ ts) × (x.number.0 ≡ number_in l.result) × (effect script l.result.job.task l.result.ended zero_array address ≡ x.content) → After ≡ t.content
          of-taken (x, inl same, number, value) = l.value ∙ value ∙ ap (λ (y : Taken). y.content) (sym same)
          of-taken (x, inr later, number, value) =
              let g = are.given t (inl refl) in
              let less : x.number.0 < t.number.0 = all-in (λ (y : Taken). y.number.0 < t.number.0) x ts rising.0 later in
              let most : number_in g.0 ≤ number_in l.result = all-in (IsEarlier (number_in l.result)) g.0 es l.latest g.1 g.2 in
              let one : number_in g.0 ≡ t.number.0 = g.3 in
              absurd (omega (arith, less, most, one, number))

  -- so it is of those with lower numbers
  pub taken-below : (n : ℕ) (es : List Reported) (ts : List Taken) → AreTaken es ts → AreTaken (below n es) (taken_below n ts)
  taken-below n es ts are = record {
    gives = λ e among on.
        let g = are.gives e (in-filtered e (low_result n) es among) on in
        let low : nat_lt (number_in e) n ≡ true = passes (low_result n) e es among in
        (g.0, in-filter g.0 (low_taken n) ts g.1 (subst (λ (k : ℕ). nat_lt k n ≡ true) (sym g.2) low), g.2, g.3);
    given = λ t among.
        let g = are.given t (in-filtered t (low_taken n) ts among) in
        let low : nat_lt t.number.0 n ≡ true = passes (low_taken n) t ts among in
        (g.0, in-filter g.0 (low_result n) es g.1 (subst (λ (k : ℕ). nat_lt k n ≡ true) (sym g.3) low), g.2, g.3);
  }
