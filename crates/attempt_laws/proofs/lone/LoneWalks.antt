-- What an attempt does to one slot where no reply refuses: it shares or claims the slot once, confirms and puts it while it
-- has claimed it, and releases it while it has shared it.
use Rattle.std.proofs.Common.{◌≡◌, ◌∙◌, sym, ap, refl, subst, ◌==◌, ◌&&◌, ◌||◌, ◌≤◌, ◌+◌, Bool, true, false, ℕ, cond, List, [], ◌∷◌, ◌++◌, map, Option, Some, None, Ok, arith}
use Rattle.std.specs.List.{AllByRecursion}
use Rattle.raid_base.specs.declared.numbers.BayNo.{BayNo}
use Rattle.raid_base.specs.declared.numbers.RowNo.{RowNo}
use Rattle.raid_base.specs.declared.numbers.Number.{Number}
use Rattle.raid_base.specs.declared.messages.Mode.{Mode}
use Rattle.raid_base.specs.declared.messages.Mode.TheVariants.{Lock, Order}
use Rattle.raid_base.specs.declared.messages.How.TheVariants.{Plain}
use Rattle.raid_base.specs.declared.messages.Request.{Request}
use Rattle.raid_base.specs.declared.messages.Request.TheVariants.{Share, Claim, Confirm, Put, Release, Lose, Fit}
use Rattle.raid_base.specs.declared.messages.Reply.{Reply}
use Rattle.raid_base.specs.declared.messages.Errand.{Errand}
use Rattle.raid_base.specs.Fits.{fits}
use Rattle.raid_base.specs.Steps.{Steps, Asks, Draws, Ends, bind, go_on, draws, Walk, Through, Stopped, Phase, run}
use Rattle.slot_rules.specs.Laws.{is_refused, is_row}
use Rattle.slot_rules.specs.Serving.{row_of}
use Rattle.attempts.specs.Taking.{Finish}
use Rattle.attempts.proofs.BayLemmas.{hits}
use Rattle.histories.proofs.completeness.CompleteWalks.{Has}

-- What an attempt has done with a slot so far
pub data Use : Type 0 where
  Untouched : Use
  Shared : Use
  Claimed : Use
  Left : Use

-- the kinds of requests
pub data Act : Type 0 where
  Sharing : Act
  Claiming : Act
  Confirming : Act
  Putting : Act
  Releasing : Act
  Other : Act

abbrev pub act_of : Request → Act
act_of (Share row by want) = Sharing
act_of (Claim row by how mask want) = Claiming
act_of (Confirm row by want) = Confirming
act_of (Put row by n cell) = Putting
act_of (Release row by n) = Releasing
act_of Lose = Other
act_of Fit = Other

-- what an act makes of the use
abbrev pub next : Act → Use → Use
next Sharing state = Shared
next Claiming state = Claimed
next Confirming state = state
next Putting state = Left
next Releasing state = Left
next Other state = state

abbrev pub used : Bool → Use → Request → Use
used true state what = next (act_of what) state
used false state what = state

-- this use, or the one before
abbrev pub pick : Bool → Use → Use → Use
pick true to state = to
pick false to state = state

-- a bay stands in a list
abbrev pub has : BayNo → List BayNo → Bool
has at [] = false
has at (b ∷ bs) = (b.0 == at.0) || has at bs

-- and so as often as once, or never
pub has-hits : (at : BayNo) (bs : List BayNo) → has at bs ≡ true → 1 ≤ hits at bs
has-hits at [] e = absurd (let bad : false ≡ true = e in cc)
has-hits at (b ∷ bs) e = by (b.0 == at.0) (has-hits at bs) e
  where
    by : (p : Bool) → (has at bs ≡ true → 1 ≤ hits at bs) → (p || has at bs) ≡ true → 1 ≤ cond p 1 0 + hits at bs
    by true more f = omega arith
    by false more f = let h = more f in omega (arith, h)

no-hits : (at : BayNo) (bs : List BayNo) → hits at bs ≤ 0 → has at bs ≡ false
no-hits at bs few = by (has at bs) (has-hits at bs)
  where
    by : (p : Bool) → (p ≡ true → 1 ≤ hits at bs) → p ≡ false
    by true h = let one = h refl in absurd (omega (arith, one, few))
    by false h = refl

module _ (mode : Mode) (id : Number) where
  -- when an act is fine
  abbrev pub Fine : Act → Use → Type 0
  Fine Sharing state = state ≡ Untouched
  Fine Claiming state = state ≡ Untouched
  Fine Confirming state = state ≡ Claimed
  Fine Putting state = state ≡ Claimed
  Fine Releasing state = (state ≡ Shared) × (mode ≡ Lock)
  Fine Other state = ⊥

  -- it is the attempt's own request, and under stamps it puts under its id
  abbrev pub IsOwn : Request → Type 0
  IsOwn (Share row by want) = by ≡ id
  IsOwn (Claim row by how mask want) = (by ≡ id) × (how ≡ Plain)
  IsOwn (Confirm row by want) = by ≡ id
  IsOwn (Put row by n cell) = (by ≡ id) × (mode ≡ Order → n ≡ id)
  IsOwn (Release row by n) = by ≡ id
  IsOwn Lose = ⊥
  IsOwn Fit = ⊥

  -- nothing is held of the slot
  abbrev pub IsLetGo : Mode → Use → Type 0
  IsLetGo m Untouched = Unit {0}
  IsLetGo m Claimed = ⊥
  IsLetGo m Left = Unit {0}
  IsLetGo Order Shared = Unit {0}
  IsLetGo Lock Shared = ⊥

  module _ (at : BayNo) (row : RowNo) where
    -- a request of this slot
    abbrev pub is_mine : BayNo → Request → Bool
    is_mine bay what = (bay.0 == at.0) && is_row row (row_of what)

    -- Whatever the replies that fit and do not refuse, and whatever the numbers drawn: each request is the attempt's own, and
    -- fine where it is of the slot; no two numbers are drawn in a row; and at the end nothing is held of the slot.
    abbrev pub Smooth : Use → Steps Finish → Type 0
    Smooth state (Ends f) = IsLetGo mode state
    Smooth state (Draws k) = (n : Number) → (draws (k (Ok n)) ≡ false) × Smooth state (k (Ok n))
    Smooth state (Asks e s c k) =
        IsOwn e.request × (is_mine e.bay e.request ≡ true → Fine (act_of e.request) state)
        × ((r : Reply) → fits e.request r ≡ true → is_refused r ≡ false → Smooth (used (is_mine e.bay e.request) state e.request) (k r))

    -- these requests are fine one after another, and lead from this use to that
    abbrev pub Leads : List Errand → Use → Use → Type 0
    Leads [] state later = state ≡ later
    Leads (e ∷ es) state later =
        IsOwn e.request × (is_mine e.bay e.request ≡ true → Fine (act_of e.request) state) × Leads es (used (is_mine e.bay e.request) state e.request) later

    pub leads-append : (es fs : List Errand) (u v w : Use) → Leads es u v → Leads fs v w → Leads (es ++ fs) u w
    leads-append [] fs u v w h g = subst (λ (x : Use). Leads fs x w) (sym h) g
    leads-append (e ∷ es) fs u v w h g = (h.0, h.1, leads-append es fs (used (is_mine e.bay e.request) u e.request) v w h.2 g)

    -- Walks
    module _ {A : Type 0} where
      smooth-go : (J : A → Type 0) (u : Use) (o : Option A) (g : A → Steps (Walk A)) (s : Steps (Walk A)) (f : Walk A → Steps Finish) → Has J o →
          ((a : A) → J a → Smooth u (bind (g a) f)) → Smooth u (bind (go_on o g s) f)
      smooth-go J u (Some a) g s f h on = on a h
      smooth-go J u None g s f h on = absurd h

      -- over any errands
      pub smooth-walk : (P : Errand → Type 0) (I : A → Type 0) (phase : Phase A) (f : Walk A → Steps Finish) (v : Use) →
          ((e : Errand) (a : A) (r : Reply) → P e → I a → fits e.request r ≡ true → is_refused r ≡ false → Has I (phase.step a e r)) →
          ((a : A) → I a → Smooth v (f (Through a))) →
          (es : List Errand) (u : Use) (a : A) → AllByRecursion P es → Leads es u v → I a → Smooth u (bind (run phase es a) f)
      smooth-walk P I phase f v kept on [] u a all h i = subst (λ (x : Use). Smooth x (f (Through a))) (sym h) (on a i)
      smooth-walk P I phase f v kept on (e ∷ es) u a all h i = (
        h.0,
        h.1,
        λ r fit good. smooth-go I (used (is_mine e.bay e.request) u e.request) (phase.step a e r) (λ b. run phase es b) (Ends (Stopped a e r)) f
            (kept e a r all.0 i fit good)
            (λ b ib. smooth-walk P I phase f v kept on es (used (is_mine e.bay e.request) u e.request) b all.1 h.2 ib),
      )

      -- over those of some units, with what is known while some are left
      pub smooth-units : (place : ℕ → BayNo) (make : BayNo → Errand) (J : List ℕ → A → Type 0) (phase : Phase A) (f : Walk A → Steps Finish) (v : Use) →
          ((x : ℕ) (xs : List ℕ) (a : A) (r : Reply) → J (x ∷ xs) a → fits (make (place x)).request r ≡ true → is_refused r ≡ false → Has (J xs) (phase.step a (make (place x)) r)) →
          ((a : A) → J [] a → Smooth v (f (Through a))) →
          (us : List ℕ) (u : Use) (a : A) → Leads (map make (map place us)) u v → J us a → Smooth u (bind (run phase (map make (map place us)) a) f)
      smooth-units place make J phase f v kept on [] u a h j = subst (λ (x : Use). Smooth x (f (Through a))) (sym h) (on a j)
      smooth-units place make J phase f v kept on (x ∷ xs) u a h j =
          let e : Errand = make (place x) in (
            h.0,
            h.1,
            λ r fit good. smooth-go (J xs) (used (is_mine e.bay e.request) u e.request) (phase.step a e r) (λ b. run phase (map make (map place xs)) b) (Ends (Stopped a e r)) f
                (kept x xs a r j fit good)
                (λ b jb. smooth-units place make J phase f v kept on xs (used (is_mine e.bay e.request) u e.request) b h.2 jb),
          )

      -- of one errand
      pub smooth-one : (phase : Phase A) (f : Walk A → Steps Finish) (e : Errand) (u v : Use) (a : A) → Leads (e ∷ []) u v →
          ((r : Reply) → fits e.request r ≡ true → is_refused r ≡ false → Has (λ b. Smooth v (f (Through b))) (phase.step a e r)) →
          Smooth u (bind (run phase (e ∷ []) a) f)
      smooth-one phase f e u v a h on = (
        h.0,
        h.1,
        λ r fit good. smooth-go (λ b. Smooth v (f (Through b))) (used (is_mine e.bay e.request) u e.request) (phase.step a e r) (λ b. run phase [] b) (Ends (Stopped a e r)) f
            (on r fit good)
            (λ b ok. subst (λ (x : Use). Smooth x (f (Through b))) (sym h.2) ok),
      )

    -- Errands of one kind in a row, one for each of some bays
    abbrev pub Made : RowNo → Act → Errand → BayNo → Type 0
    Made r act e b = (e.bay ≡ b) × (row_of e.request ≡ Some r) × IsOwn e.request × (act_of e.request ≡ act)

    abbrev pub Runs : RowNo → Act → List Errand → List BayNo → Type 0
    Runs r act [] [] = Unit {0}
    Runs r act [] (b ∷ bs) = ⊥
    Runs r act (e ∷ es) [] = ⊥
    Runs r act (e ∷ es) (b ∷ bs) = Made r act e b × Runs r act es bs

    mine-is : (r : RowNo) (act : Act) (e : Errand) (b : BayNo) → Made r act e b → is_mine e.bay e.request ≡ ((b.0 == at.0) && (r.0 == row.0))
    mine-is r act e b m = ap (λ (x : BayNo). (x.0 == at.0) && is_row row (row_of e.request)) m.0 ∙ ap (λ (o : Option RowNo). (b.0 == at.0) && is_row row o) m.1

    -- none of them is of this slot
    pub passes : (r : RowNo) (act : Act) (u : Use) (es : List Errand) (bs : List BayNo) → Runs r act es bs → (has at bs && (r.0 == row.0)) ≡ false → Leads es u u
    passes r act u [] [] h e = refl
    passes r act u [] (b ∷ bs) h e = absurd h
    passes r act u (x ∷ es) [] h e = absurd h
    passes r act u (x ∷ es) (b ∷ bs) h e =
        let split = apart (b.0 == at.0) (has at bs) (r.0 == row.0) e in
        let mine : is_mine x.bay x.request ≡ false = mine-is r act x b h.0 ∙ split.0 in (
          (h.0).2,
          λ m. absurd (let bad : true ≡ false = sym m ∙ mine in cc),
          subst (λ (f : Bool). Leads es (used f u x.request) u) (sym mine) (passes r act u es bs h.1 split.1),
        )
      where
        apart : (p q s : Bool) → ((p || q) && s) ≡ false → ((p && s) ≡ false) × ((q && s) ≡ false)
        apart true true true f = absurd (let bad : true ≡ false = f in cc)
        apart true false true f = absurd (let bad : true ≡ false = f in cc)
        apart false true true f = absurd (let bad : true ≡ false = f in cc)
        apart false false true f = (refl, refl)
        apart true true false f = (refl, refl)
        apart true false false f = (refl, refl)
        apart false true false f = (refl, refl)
        apart false false false f = (refl, refl)

    -- one at most is
    pub turns : (r : RowNo) (act : Act) (u : Use) (es : List Errand) (bs : List BayNo) → Runs r act es bs → hits at bs ≤ 1 →
        ((has at bs && (r.0 == row.0)) ≡ true → Fine act u) → Leads es u (pick (has at bs && (r.0 == row.0)) (next act u) u)
    turns r act u [] [] h few fine = refl
    turns r act u [] (b ∷ bs) h few fine = absurd h
    turns r act u (x ∷ es) [] h few fine = absurd h
    turns r act u (x ∷ es) (b ∷ bs) h few fine = by (turns r act u es bs h.1) (b.0 == at.0) (r.0 == row.0) refl refl few fine
      where
        nothing : (q : Bool) → (q && false) ≡ false
        nothing true = refl
        nothing false = refl

        by : (hits at bs ≤ 1 → ((has at bs && (r.0 == row.0)) ≡ true → Fine act u) → Leads es u (pick (has at bs && (r.0 == row.0)) (next act u) u)) →
            (p s : Bool) → (b.0 == at.0) ≡ p → (r.0 == row.0) ≡ s → cond p 1 0 + hits at bs ≤ 1 → (((p || has at bs) && s) ≡ true → Fine act u) →
            Leads (x ∷ es) u (pick ((p || has at bs) && s) (next act u) u)
        by more true true e f less ready =
            let mine : is_mine x.bay x.request ≡ true = mine-is r act x b h.0 ∙ ap (λ (y : Bool). y && (r.0 == row.0)) e ∙ f in
            let rest = passes r act (next act u) es bs h.1 (ap (λ (y : Bool). y && (r.0 == row.0)) (no-hits at bs (omega (arith, less)))) in (
              (h.0).2,
              λ m. subst (λ (k : Act). Fine k u) (sym (h.0).3) (ready refl),
              subst (λ (y : Bool). Leads es (used y u x.request) (next act u)) (sym mine) (subst (λ (k : Act). Leads es (next k u) (next act u)) (sym (h.0).3) rest),
            )
        by more false true e f less ready =
            let mine : is_mine x.bay x.request ≡ false = mine-is r act x b h.0 ∙ ap (λ (y : Bool). y && (r.0 == row.0)) e in
            let same : (has at bs && (r.0 == row.0)) ≡ (has at bs && true) = ap (λ (y : Bool). has at bs && y) f in
            let rest = more (omega (arith, less)) (λ y. ready (sym same ∙ y)) in (
              (h.0).2,
              λ m. absurd (let bad : true ≡ false = sym m ∙ mine in cc),
              subst (λ (y : Bool). Leads es (used y u x.request) (pick (has at bs && true) (next act u) u)) (sym mine)
                  (subst (λ (y : Bool). Leads es u (pick (has at bs && y) (next act u) u)) f rest),
            )
        by more p false e f less ready = subst (λ (y : Bool). Leads (x ∷ es) u (pick y (next act u) u)) (sym (nothing (p || has at bs)))
            (passes r act u (x ∷ es) (b ∷ bs) h (ap (λ (y : Bool). ((b.0 == at.0) || has at bs) && y) f ∙ nothing ((b.0 == at.0) || has at bs)))

-- no number is drawn at the head of a walk
pub undrawn : {A : Type 0} (phase : Phase A) (f : Walk A → Steps Finish) → ((a : A) → draws (f (Through a)) ≡ false) → (es : List Errand) (a : A) →
    draws (bind (run phase es a) f) ≡ false
undrawn phase f on [] a = on a
undrawn phase f on (e ∷ es) a = refl
