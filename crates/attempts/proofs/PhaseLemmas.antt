-- Walks that keep the order of an attempt.
use Rattle.std.proofs.Common.{◌≡◌, ◌⊎◌, inl, inr, sym, ap, refl, subst, ◌∙◌, ℕ, zero, suc, ◌+◌, ◌≤◌, ◌-◌, ◌||◌, ◌&&◌, ◌==◌, Bool, true, false, List, [], ◌∷◌, Option, Some, None, IfSome, map, flat_map, arith}
use Rattle.std.specs.List.{AllByRecursion, range_with_len}
use Rattle.std.proofs.lemmas.Bool.{eqb-true, eq-eqb, ne_eqb}
use Rattle.std.proofs.lemmas.Nat.{mod_below}
use Rattle.raid_base.specs.declared.numbers.BayNo.{BayNo}
use Rattle.raid_base.specs.declared.numbers.RowNo.{RowNo}
use Rattle.raid_base.specs.declared.numbers.Number.{Number}
use Rattle.raid_base.specs.declared.messages.Request.{Request}
use Rattle.raid_base.specs.declared.messages.Request.TheVariants.{Share, Claim, Confirm, Put, Release, Lose, Fit}
use Rattle.raid_base.specs.declared.messages.Reply.{Reply}
use Rattle.raid_base.specs.declared.messages.Errand.{Errand}
use Rattle.raid_base.specs.declared.messages.Grant.{Grant}
use Rattle.raid_base.specs.Steps.{Steps, Ends, bind, go_on, Walk, Through, Stopped, Phase, run}
use Rattle.stripe_layout.specs.Placement.{bay, parity_at, parity_bay, bay_of, units}
use Rattle.stripe_layout.proofs.Wrapping.{wrap_apart}
use Rattle.attempts.specs.Taking.{Row}
use Rattle.attempts.specs.Releases.{releases}
use Rattle.attempts.specs.Phases.{Slot, is_slot, has_slot, parity_slot, IsIn, Past, MayAsk, grants, after_asking, after, Keeps}
use Rattle.attempts.proofs.RoomLemmas.{all-append}

-- Lists
pub all-weaken : {X : Type 0} (P Q : X → Type 0) → ((x : X) → P x → Q x) → (xs : List X) → AllByRecursion P xs → AllByRecursion Q xs
all-weaken P Q h [] all = tt
all-weaken P Q h (x ∷ xs) all = (h x all.0, all-weaken P Q h xs all.1)

pub all-flat : {X Y : Type 0} (P : Y → Type 0) (f : X → List Y) → ((x : X) → AllByRecursion P (f x)) → (xs : List X) → AllByRecursion P (flat_map f xs)
all-flat P f h [] = tt
all-flat P f h (x ∷ xs) = all-append P (f x) (flat_map f xs) (h x) (all-flat P f h xs)

pub in-grants : (slot : Slot) (o : Option Grant) (other : Slot) (slots : List Slot) → IsIn slot slots → IsIn slot (grants o other slots)
in-grants slot None other slots i = i
in-grants slot (Some grant) other slots i = inr i

pub both-some : {X : Type 0} (P Q : X → Type 0) (o : Option X) → IfSome o P → IfSome o Q → IfSome o (λ x. P x × Q x)
both-some P Q None p q = tt
both-some P Q (Some x) p q = (p, q)

pub weaken-some : {X : Type 0} (P Q : X → Type 0) → ((x : X) → P x → Q x) → (o : Option X) → IfSome o P → IfSome o Q
weaken-some P Q h None p = tt
weaken-some P Q h (Some x) p = h x p

pub any : {A : Type 0} (o : Option A) → IfSome o (λ a. Unit {0})
any (Some a) = tt
any None = tt

-- Slots
abbrev pub slot_on : RowNo → BayNo → Slot
slot_on row bay = record { bay = bay; row = row }

abbrev row_no : ℕ → RowNo
row_no k = record { 0 = k }

both-hold : (x y : Bool) → x ≡ true → y ≡ true → (x && y) ≡ true
both-hold true y one two = two
both-hold false y one two = one

first-holds : (x y : Bool) → (x && y) ≡ true → x ≡ true
first-holds true y both = refl
first-holds false y both = both

second-holds : (x y : Bool) → (x && y) ≡ true → y ≡ true
second-holds true y both = both
second-holds false true both = refl
second-holds false false both = both

first-fails : (x y : Bool) → x ≡ false → (x && y) ≡ false
first-fails true y fails = absurd (cc)
first-fails false y fails = refl

second-fails : (x y : Bool) → y ≡ false → (x && y) ≡ false
second-fails true y fails = fails
second-fails false y fails = refl

slot-itself : (slot : Slot) → is_slot slot slot ≡ true
slot-itself slot = both-hold (slot.bay.0 == slot.bay.0) (slot.row.0 == slot.row.0) (eq-eqb slot.bay.0 slot.bay.0 refl) (eq-eqb slot.row.0 slot.row.0 refl)

slot-equal : (x y : Slot) → is_slot x y ≡ true → y ≡ x
slot-equal x y is =
    let bay_same : y.bay.0 ≡ x.bay.0 = sym (eqb-true x.bay.0 y.bay.0 (first-holds (x.bay.0 == y.bay.0) (x.row.0 == y.row.0) is)) in
    let row_same : y.row.0 ≡ x.row.0 = sym (eqb-true x.row.0 y.row.0 (second-holds (x.bay.0 == y.bay.0) (x.row.0 == y.row.0) is)) in
    ap (λ (k : ℕ). slot_on y.row (bay k)) bay_same ∙ ap (λ (k : ℕ). slot_on (row_no k) x.bay) row_same

pub row-apart : (x y : Slot) → (x.row ≡ y.row → ⊥) → is_slot x y ≡ false
row-apart x y apart = second-fails (x.bay.0 == y.bay.0) (x.row.0 == y.row.0) (ne_eqb x.row.0 y.row.0 (λ same. apart (ap row_no same)))

pub bay-apart : (x y : Slot) → (x.bay ≡ y.bay → ⊥) → is_slot x y ≡ false
bay-apart x y apart = first-fails (x.bay.0 == y.bay.0) (x.row.0 == y.row.0) (ne_eqb x.bay.0 y.bay.0 (λ same. apart (ap bay same)))

either-first : (x y : Bool) → x ≡ true → (x || y) ≡ true
either-first true y is = refl
either-first false y is = absurd (cc)

either-second : (x y : Bool) → y ≡ true → (x || y) ≡ true
either-second true y is = refl
either-second false y is = is

either-of : (x y : Bool) → (x || y) ≡ true → (x ≡ true) ⊎ (y ≡ true)
either-of true y is = inl refl
either-of false y is = inr is

-- a slot is found where it is
pub in-has : (slot : Slot) (slots : List Slot) → IsIn slot slots → has_slot slot slots ≡ true
in-has slot [] i = absurd i
in-has slot (other ∷ slots) (inl same) = either-first (is_slot slot other) (has_slot slot slots) (subst (λ (x : Slot). is_slot slot x ≡ true) (sym same) (slot-itself slot))
in-has slot (other ∷ slots) (inr i) = either-second (is_slot slot other) (has_slot slot slots) (in-has slot slots i)

pub has-in : (slot : Slot) (slots : List Slot) → has_slot slot slots ≡ true → IsIn slot slots
has-in slot [] has = absurd (cc)
has-in slot (other ∷ slots) has = elim (either-of (is_slot slot other) (has_slot slot slots) has) [
  | inl same ↦ inl (slot-equal slot other same)
  | inr further ↦ inr (has-in slot slots further)
]

-- another slot in front changes nothing
pub has-behind : (slot other : Slot) (slots : List Slot) (b : Bool) → is_slot slot other ≡ false → has_slot slot slots ≡ b → has_slot slot (other ∷ slots) ≡ b
has-behind slot other slots b apart has = ap (λ (c : Bool). c || has_slot slot slots) apart ∙ has

pub has-grants : (slot : Slot) (o : Option Grant) (other : Slot) (slots : List Slot) (b : Bool) → is_slot slot other ≡ false → has_slot slot slots ≡ b
    → has_slot slot (grants o other slots) ≡ b
has-grants slot None other slots b apart has = has
has-grants slot (Some grant) other slots b apart has = has-behind slot other slots b apart has

pub has-none : (slot : Slot) (slots : List Slot) → AllByRecursion (λ (other : Slot). is_slot slot other ≡ false) slots → has_slot slot slots ≡ false
has-none slot [] all = refl
has-none slot (other ∷ slots) all = has-behind slot other slots false all.0 (has-none slot slots all.1)

-- the slots of a row's units are not its parity's
abbrev pub Aside : ℕ → RowNo → ℕ → Type 0
Aside n row u = bay_of n row u ≡ parity_bay n row → ⊥

pub range-aside : (n : ℕ) (row : RowNo) (first count : ℕ) → first + count ≤ n - 1 → AllByRecursion (Aside n row) (range_with_len first count)
range-aside n row first zero le = tt
range-aside n row first (suc count) le = (
  λ same. wrap_apart n (parity_at n row) first (omega (arith, mod_below row.0 n (omega arith))) (omega arith) (ap (λ (bay : BayNo). bay.0) same),
  range-aside n row (first + 1) count (omega arith),
)

pub units-aside : (n : ℕ) (row : RowNo) → AllByRecursion (Aside n row) (units n)
units-aside n row = range-aside n row 0 (n - 1) (omega arith)

pub aside-slot : (n : ℕ) (row : RowNo) (u : ℕ) → Aside n row u → is_slot (parity_slot n row) (slot_on row (bay_of n row u)) ≡ false
aside-slot n row u aside = bay-apart (parity_slot n row) (slot_on row (bay_of n row u)) (λ same. aside (sym same))

-- Releases
abbrev pub IsRelease : Number → Request → Type 0
IsRelease id (Share row by want) = ⊥
IsRelease id (Claim row by how mask want) = ⊥
IsRelease id (Confirm row by want) = ⊥
IsRelease id (Put row by number cell) = ⊥
IsRelease id (Release row by number) = by ≡ id
IsRelease id Lose = ⊥
IsRelease id Fit = ⊥

release-may : (n : ℕ) (id : Number) (p : Past) (bay : BayNo) (q : Request) → IsRelease id q → MayAsk n id p bay q
release-may n id p bay (Share row by want) is = absurd is
release-may n id p bay (Claim row by how mask want) is = absurd is
release-may n id p bay (Confirm row by want) is = absurd is
release-may n id p bay (Put row by number cell) is = absurd is
release-may n id p bay (Release row by number) is = is
release-may n id p bay Lose is = absurd is
release-may n id p bay Fit is = absurd is

release-after : (id : Number) (p : Past) (bay : BayNo) (q : Request) (r : Reply) → IsRelease id q → after_asking p bay q r ≡ record p { phase = 3 }
release-after id p bay (Share row by want) r is = absurd is
release-after id p bay (Claim row by how mask want) r is = absurd is
release-after id p bay (Confirm row by want) r is = absurd is
release-after id p bay (Put row by number cell) r is = absurd is
release-after id p bay (Release row by number) r is = refl
release-after id p bay Lose r is = absurd is
release-after id p bay Fit r is = absurd is

pub are-releases : (id : Number) (row : RowNo) (n : Option Number) (bays : List BayNo) → AllByRecursion (λ (e : Errand). IsRelease id e.request) (releases id row n bays)
are-releases id row n [] = tt
are-releases id row n (bay ∷ bays) = (refl, are-releases id row n bays)

pub row-releases : (id : Number) (n : Option Number) (gives : Row → List BayNo) (rows : List Row)
    → AllByRecursion (λ (e : Errand). IsRelease id e.request) (flat_map (λ (row : Row). releases id row.part.row n (gives row)) rows)
row-releases id n gives rows =
    all-flat (λ (e : Errand). IsRelease id e.request) (λ (row : Row). releases id row.part.row n (gives row)) (λ row. are-releases id row.part.row n (gives row)) rows

-- Walks
module _ {A B : Type 0} (n : ℕ) (id : Number) (Q : Past → B → Type 0) where
  keeps-go : (J : A → Type 0) (p : Past) (o : Option A) (g : A → Steps (Walk A)) (s : Steps (Walk A)) (f : Walk A → Steps B)
      → IfSome o J → ((a : A) → J a → Keeps n id Q p (bind (g a) f)) → Keeps n id Q p (bind s f) → Keeps n id Q p (bind (go_on o g s) f)
  keeps-go J p (Some a) g s f i on off = on a i
  keeps-go J p None g s f i on off = off

  -- over errands made of some places
  pub keeps-walk : {X : Type 0} (make : X → Errand) (J : List X → Past → A → Type 0) (phase : Phase A) (f : Walk A → Steps B)
      → ((x : X) (xs : List X) (p : Past) (a : A) → J (x ∷ xs) p a → MayAsk n id p (make x).bay (make x).request)
      → ((x : X) (xs : List X) (p : Past) (a : A) (r : Reply) → J (x ∷ xs) p a → IfSome (phase.step a (make x) r) (J xs (after p (make x) r)))
      → ((p : Past) (a : A) → J [] p a → Keeps n id Q p (f (Through a)))
      → ((x : X) (xs : List X) (p : Past) (a : A) (r : Reply) → J (x ∷ xs) p a → Keeps n id Q (after p (make x) r) (f (Stopped a (make x) r)))
      → (xs : List X) (p : Past) (a : A) → J xs p a → Keeps n id Q p (bind (run phase (map make xs) a) f)
  keeps-walk make J phase f may kept on off [] p a j = on p a j
  keeps-walk make J phase f may kept on off (x ∷ xs) p a j = (
    may x xs p a j,
    λ r. keeps-go (J xs (after p (make x) r)) (after p (make x) r) (phase.step a (make x) r) (λ b. run phase (map make xs) b) (Ends (Stopped a (make x) r)) f
        (kept x xs p a r j)
        (λ b jb. keeps-walk make J phase f may kept on off xs (after p (make x) r) b jb)
        (off x xs p a r j),
  )

  -- and over those of some units
  pub keeps-units : (place : ℕ → BayNo) (make : BayNo → Errand) (J : List ℕ → Past → A → Type 0) (phase : Phase A) (f : Walk A → Steps B)
      → ((u : ℕ) (us : List ℕ) (p : Past) (a : A) → J (u ∷ us) p a → MayAsk n id p (make (place u)).bay (make (place u)).request)
      → ((u : ℕ) (us : List ℕ) (p : Past) (a : A) (r : Reply) → J (u ∷ us) p a → IfSome (phase.step a (make (place u)) r) (J us (after p (make (place u)) r)))
      → ((p : Past) (a : A) → J [] p a → Keeps n id Q p (f (Through a)))
      → ((u : ℕ) (us : List ℕ) (p : Past) (a : A) (r : Reply) → J (u ∷ us) p a → Keeps n id Q (after p (make (place u)) r) (f (Stopped a (make (place u)) r)))
      → (us : List ℕ) (p : Past) (a : A) → J us p a → Keeps n id Q p (bind (run phase (map make (map place us)) a) f)
  keeps-units place make J phase f may kept on off [] p a j = on p a j
  keeps-units place make J phase f may kept on off (u ∷ us) p a j = (
    may u us p a j,
    λ r. keeps-go (J us (after p (make (place u)) r)) (after p (make (place u)) r) (phase.step a (make (place u)) r) (λ b. run phase (map make (map place us)) b)
        (Ends (Stopped a (make (place u)) r)) f
        (kept u us p a r j)
        (λ b jb. keeps-units place make J phase f may kept on off us (after p (make (place u)) r) b jb)
        (off u us p a r j),
  )

  -- of one errand
  pub keeps-one : (phase : Phase A) (f : Walk A → Steps B) (e : Errand) (p : Past) (a : A) → MayAsk n id p e.bay e.request
      → ((r : Reply) → IfSome (phase.step a e r) (λ b. Keeps n id Q (after p e r) (f (Through b))))
      → ((r : Reply) → Keeps n id Q (after p e r) (f (Stopped a e r)))
      → Keeps n id Q p (bind (run phase (e ∷ []) a) f)
  keeps-one phase f e p a may on off = (
    may,
    λ r. keeps-go (λ b. Keeps n id Q (after p e r) (f (Through b))) (after p e r) (phase.step a e r) (λ b. run phase [] b) (Ends (Stopped a e r)) f (on r) (λ b ok. ok) (off r),
  )

  -- releases alone, whatever is answered
  pub gives-back : (phase : Phase A) (f : Walk A → Steps B) (es : List Errand) (p : Past) (a : A) → AllByRecursion (λ (e : Errand). IsRelease id e.request) es
      → ((m : ℕ) (walk : Walk A) → Keeps n id Q (record p { phase = m }) (f walk)) → Keeps n id Q p (bind (run phase es a) f)
  gives-back phase f [] p a all on = on p.phase (Through a)
  gives-back phase f (e ∷ es) p a all on = (
    release-may n id p e.bay e.request all.0,
    λ r. subst (λ (q : Past). Keeps n id Q q (bind (go_on (phase.step a e r) (λ b. run phase es b) (Ends (Stopped a e r))) f)) (sym (release-after id p e.bay e.request r all.0))
        (keeps-go (λ b. Unit {0}) (record p { phase = 3 }) (phase.step a e r) (λ b. run phase es b) (Ends (Stopped a e r)) f (any (phase.step a e r))
        (λ b i. gives-back phase f es (record p { phase = 3 }) b all.1 (λ m walk. on m walk))
        (on 3 (Stopped a e r))),
  )
