-- Walks that take each slot once.
use Rattle.std.proofs.Common.{◌≡◌, inl, inr, refl, sym, ap, subst, ◌∙◌, ℕ, zero, suc, ◌+◌, ◌-◌, ◌<◌, ◌≤◌, not, Bool, true, false, cond, List, [], ◌∷◌, map, flat_map, filter, Option, Some, None, IfSome, option_map, arith}
use Rattle.std.specs.List.{AllByRecursion, range_with_len}
use Rattle.raid_base.specs.declared.numbers.BayNo.{BayNo}
use Rattle.raid_base.specs.declared.numbers.RowNo.{RowNo}
use Rattle.raid_base.specs.declared.numbers.Number.{Number}
use Rattle.raid_base.specs.declared.messages.How.{How}
use Rattle.raid_base.specs.declared.messages.Request.{Request}
use Rattle.raid_base.specs.declared.messages.Request.TheVariants.{Share, Claim, Confirm, Put, Release, Lose, Fit}
use Rattle.raid_base.specs.declared.messages.Reply.{Reply}
use Rattle.raid_base.specs.declared.messages.Errand.{Errand}
use Rattle.raid_base.specs.declared.messages.Grant.{Grant}
use Rattle.raid_base.specs.declared.jobs.Ended.{Ended}
use Rattle.raid_base.specs.declared.jobs.RowPart.{RowPart}
use Rattle.raid_base.specs.Cells.{has_unit}
use Rattle.raid_base.specs.Replies.{grant_of}
use Rattle.raid_base.specs.Steps.{Steps, Ends, bind, go_on, Walk, Through, Stopped, Phase, run}
use Rattle.stripe_layout.specs.Placement.{parity_bay, bay_of, bays_of, units, units_in, units_out}
use Rattle.stripe_layout.proofs.LayoutLemmas.{unit_distinct}
use Rattle.attempts.specs.Taking.{Finish, Row, Taken, with_grant, grant_or_gap, taking, taking_until, share, claim}
use Rattle.attempts.specs.Releases.{release, releases, releasing, end_as, released_steps}
use Rattle.attempts.specs.Phases.{Slot, IsIn, HasRow, RowsDiffer}
use Rattle.attempts.specs.Once.{with_taken, MayTake, Once}
use Rattle.attempts.proofs.RoomLemmas.{all-made}
use Rattle.attempts.proofs.TakenLemmas.{KeepsPart}
use Rattle.attempts.proofs.PhaseLemmas.{slot_on, any, all-weaken, all-flat, Aside, units-aside}

-- Bays that differ
-- the bay is none of these
abbrev pub IsOther : BayNo → List BayNo → Type 0
IsOther bay bays = AllByRecursion (λ (other : BayNo). bay ≡ other → ⊥) bays

-- each two of them
abbrev pub Apart : List BayNo → Type 0
Apart [] = Unit {0}
Apart (bay ∷ bays) = IsOther bay bays × Apart bays

-- none of the first is one of the others
abbrev pub AreOthers : List BayNo → List BayNo → Type 0
AreOthers bays others = AllByRecursion (λ (bay : BayNo). IsOther bay others) bays

all-both : {X : Type 0} (P Q : X → Type 0) (xs : List X) → AllByRecursion P xs → AllByRecursion Q xs → AllByRecursion (λ x. P x × Q x) xs
all-both P Q [] p q = tt
all-both P Q (x ∷ xs) p q = ((p.0, q.0), all-both P Q xs p.1 q.1)

pub others-none : (bays : List BayNo) → AreOthers bays []
others-none [] = tt
others-none (bay ∷ bays) = (tt, others-none bays)

-- also apart from a bay in front of the others
pub others-more : (bay : BayNo) (bays others : List BayNo) → IsOther bay bays → AreOthers bays others → AreOthers bays (bay ∷ others)
others-more bay bays others apart all =
    all-both (λ (x : BayNo). x ≡ bay → ⊥) (λ (x : BayNo). IsOther x others) bays
    (all-weaken (λ (x : BayNo). bay ≡ x → ⊥) (λ (x : BayNo). x ≡ bay → ⊥) (λ x apart same. apart (sym same)) bays apart) all

module _ (n : ℕ) (row : RowNo) where
  other-kept : (bay : BayNo) (test : ℕ → Bool) (us : List ℕ) → IsOther bay (bays_of n row us) → IsOther bay (bays_of n row (filter test us))
  other-kept bay test [] all = tt
  other-kept bay test (u ∷ us) all = one (test u) (other-kept bay test us all.1) where
    one : (b : Bool) → IsOther bay (bays_of n row (filter test us)) → IsOther bay (bays_of n row (cond b (u ∷ filter test us) (filter test us)))
    one true rest = (all.0, rest)
    one false rest = rest

  apart-kept : (test : ℕ → Bool) (us : List ℕ) → Apart (bays_of n row us) → Apart (bays_of n row (filter test us))
  apart-kept test [] all = tt
  apart-kept test (u ∷ us) all = one (test u) (apart-kept test us all.1) where
    one : (b : Bool) → Apart (bays_of n row (filter test us)) → Apart (bays_of n row (cond b (u ∷ filter test us) (filter test us)))
    one true rest = (other-kept (bay_of n row u) test us all.0, rest)
    one false rest = rest

  -- two tests that no unit passes both
  parted : (f g : ℕ → Bool) → ((u : ℕ) → f u ≡ true → g u ≡ true → ⊥) → (us : List ℕ) → Apart (bays_of n row us)
      → AreOthers (bays_of n row (filter f us)) (bays_of n row (filter g us))
  parted f g never [] all = tt
  parted f g never (u ∷ us) all = two (f u) (g u) (never u) (parted f g never us all.1) where
    two : (x y : Bool) → (x ≡ true → y ≡ true → ⊥) → AreOthers (bays_of n row (filter f us)) (bays_of n row (filter g us))
        → AreOthers (bays_of n row (cond x (u ∷ filter f us) (filter f us))) (bays_of n row (cond y (u ∷ filter g us) (filter g us)))
    two true true clash rest = absurd (clash refl refl)
    two true false clash rest = (other-kept (bay_of n row u) g us all.0, rest)
    two false true clash rest =
        others-more (bay_of n row u) (bays_of n row (filter f us)) (bays_of n row (filter g us)) (other-kept (bay_of n row u) f us all.0) rest
    two false false clash rest = rest

  parity-other : (us : List ℕ) → AllByRecursion (Aside n row) us → IsOther (parity_bay n row) (bays_of n row us)
  parity-other [] all = tt
  parity-other (u ∷ us) all = (λ same. all.0 (sym same), parity-other us all.1)

  module _ (least : 3 ≤ n) where
    range-other : (u first count : ℕ) → u < first → first + count ≤ n - 1 → IsOther (bay_of n row u) (bays_of n row (range_with_len first count))
    range-other u first zero less le = tt
    range-other u first (suc count) less le =
        (λ same. apart (unit_distinct n row u first least (omega arith) (omega arith) same), range-other u (first + 1) count (omega arith) (omega arith)) where
          apart : u ≡ first → ⊥
          apart same = absurd (omega arith)

    range-apart : (first count : ℕ) → first + count ≤ n - 1 → Apart (bays_of n row (range_with_len first count))
    range-apart first zero le = tt
    range-apart first (suc count) le = (range-other first (first + 1) count (omega arith) (omega arith), range-apart (first + 1) count (omega arith))

    pub units-apart : Apart (bays_of n row (units n))
    units-apart = range-apart 0 (n - 1) (omega arith)

    pub parity-units : IsOther (parity_bay n row) (bays_of n row (units n))
    parity-units = parity-other (units n) (units-aside n row)

    module _ (mask : ℕ) where
      never-both : (b : Bool) → b ≡ true → not b ≡ true → ⊥
      never-both true is out = absurd (cc)
      never-both false is out = absurd (cc)

      pub wanted-apart : Apart (bays_of n row (units_in n mask))
      wanted-apart = apart-kept (has_unit mask) (units n) units-apart

      pub unwanted-apart : Apart (bays_of n row (units_out n mask))
      unwanted-apart = apart-kept (λ unit. not (has_unit mask unit)) (units n) units-apart

      pub parity-wanted : IsOther (parity_bay n row) (bays_of n row (units_in n mask))
      parity-wanted = other-kept (parity_bay n row) (has_unit mask) (units n) parity-units

      pub parity-unwanted : IsOther (parity_bay n row) (bays_of n row (units_out n mask))
      parity-unwanted = other-kept (parity_bay n row) (λ unit. not (has_unit mask unit)) (units n) parity-units

      pub wanted-others : AreOthers (bays_of n row (units_in n mask)) (bays_of n row (units_out n mask))
      wanted-others = parted (has_unit mask) (λ unit. not (has_unit mask unit)) (λ u is out. never-both (has_unit mask u) is out) (units n) units-apart

      pub unwanted-others : AreOthers (bays_of n row (units_out n mask)) (bays_of n row (units_in n mask))
      unwanted-others = parted (λ unit. not (has_unit mask unit)) (has_unit mask) (λ u out is. never-both (has_unit mask u) is out) (units n) units-apart

-- Slots that were not taken
still-free : (slot other : Slot) (slots : List Slot) → (other ≡ slot → ⊥) → (IsIn slot slots → ⊥) → IsIn slot (other ∷ slots) → ⊥
still-free slot other slots apart free (inl same) = apart same
still-free slot other slots apart free (inr i) = free i

abbrev pub AreFree : RowNo → List BayNo → List Slot → Type 0
AreFree row bays slots = AllByRecursion (λ (bay : BayNo). IsIn (slot_on row bay) slots → ⊥) bays

free-more : (row : RowNo) (bay : BayNo) (bays : List BayNo) (slots : List Slot) → IsOther bay bays → AreFree row bays slots → AreFree row bays (slot_on row bay ∷ slots)
free-more row bay [] slots apart free = tt
free-more row bay (other ∷ bays) slots apart free = (
  still-free (slot_on row other) (slot_on row bay) slots (λ same. apart.0 (ap (λ (s : Slot). s.bay) same)) free.0,
  free-more row bay bays slots apart.1 free.1,
)

-- no slot of these parts' rows was taken
abbrev pub AreAhead : List RowPart → List Slot → Type 0
AreAhead left slots = AllByRecursion (λ (slot : Slot). HasRow slot.row left → ⊥) slots

pub row-free : (part : RowPart) (left : List RowPart) (slots : List Slot) (bay : BayNo) → AreAhead (part ∷ left) slots → IsIn (slot_on part.row bay) slots → ⊥
row-free part left [] bay ahead i = i
row-free part left (slot ∷ slots) bay ahead (inl same) = ahead.0 (inl (sym (ap (λ (s : Slot). s.row) same)))
row-free part left (slot ∷ slots) bay ahead (inr i) = row-free part left slots bay ahead.1 i

-- What is known while slots of a row are taken: which bays come now and which may come later, and the parts whose rows
-- are ahead.
pub record Stands (left : List RowPart) (row : RowNo) (now later : List BayNo) (slots : List Slot) : Type 0 where
  pub free : AreFree row now slots
  pub apart : Apart now
  pub later_free : AreFree row later slots
  pub others : AreOthers now later
  pub ahead : AreAhead left slots
  pub once : HasRow row left → ⊥

-- the next slot is taken
pub take-one : (left : List RowPart) (row : RowNo) (bay : BayNo) (now later : List BayNo) (slots : List Slot) → Stands left row (bay ∷ now) later slots
    → Stands left row now later (slot_on row bay ∷ slots)
take-one left row bay now later slots s = record {
  free = free-more row bay now slots s.apart.0 s.free.1;
  apart = s.apart.1;
  later_free = free-more row bay later slots s.others.0 s.later_free;
  others = s.others.1;
  ahead = (s.once, s.ahead);
  once = s.once;
}

-- the later bays come now
pub go-later : (left : List RowPart) (row : RowNo) (now later : List BayNo) (slots : List Slot) → Apart later → Stands left row now later slots → Stands left row later [] slots
go-later left row now later slots apart s = record {
  free = s.later_free;
  apart = apart;
  later_free = tt;
  others = others-none later;
  ahead = s.ahead;
  once = s.once;
}

-- and the first of them alone
pub go-first : (left : List RowPart) (row : RowNo) (now : List BayNo) (bay : BayNo) (later : List BayNo) (slots : List Slot) → IsOther bay later
    → Stands left row now (bay ∷ later) slots → Stands left row (bay ∷ []) later slots
go-first left row now bay later slots apart s = record {
  free = (s.later_free.0, tt);
  apart = (tt, tt);
  later_free = s.later_free.1;
  others = (apart, tt);
  ahead = s.ahead;
  once = s.once;
}

-- a row begins
pub begin-row : (part : RowPart) (left : List RowPart) (now later : List BayNo) (slots : List Slot) → RowsDiffer (part ∷ left) → AreAhead (part ∷ left) slots
    → Apart now → AreOthers now later → Stands left part.row now later slots
begin-row part left now later slots differ ahead apart others = record {
  free = all-free now;
  apart = apart;
  later_free = all-free later;
  others = others;
  ahead = all-weaken (λ (slot : Slot). HasRow slot.row (part ∷ left) → ⊥) (λ (slot : Slot). HasRow slot.row left → ⊥) (λ slot out i. out (inr i)) slots ahead;
  once = differ.0;
} where
  all-free : (bays : List BayNo) → AreFree part.row bays slots
  all-free [] = tt
  all-free (bay ∷ bays) = (λ i. row-free part left slots bay ahead i, all-free bays)

-- the only row
pub begin-only : (row : RowNo) (now later : List BayNo) → Apart now → AreOthers now later → Stands [] row now later []
begin-only row now later apart others = record {
  free = all-free now;
  apart = apart;
  later_free = all-free later;
  others = others;
  ahead = tt;
  once = λ i. i;
} where
  all-free : (bays : List BayNo) → AreFree row bays []
  all-free [] = tt
  all-free (bay ∷ bays) = (λ i. i, all-free bays)

-- The part in hand stays the same
module _ (part : RowPart) (keep : Option Grant → Row → Row) (keeps : KeepsPart keep) where
  pub part-granted : (taken : Taken) (bay : BayNo) (grant : Option Grant) → taken.row.part ≡ part → (with_grant keep taken bay grant).row.part ≡ part
  part-granted taken bay (Some grant) same = keeps.part (Some grant) taken.row ∙ same
  part-granted taken bay None same = keeps.part None taken.row ∙ same

  part-kept : (taken : Taken) (bay : BayNo) (o : Option (Option Grant)) → taken.row.part ≡ part
      → IfSome (option_map (with_grant keep taken bay) o) (λ (t : Taken). t.row.part ≡ part)
  part-kept taken bay (Some grant) same = part-granted taken bay grant same
  part-kept taken bay None same = tt

  part-until : (taken : Taken) (bay : BayNo) (o : Option Grant) → taken.row.part ≡ part
      → IfSome (option_map (λ (grant : Grant). with_grant keep taken bay (Some grant)) o) (λ (t : Taken). t.row.part ≡ part)
  part-until taken bay (Some grant) same = part-granted taken bay (Some grant) same
  part-until taken bay None same = tt

  pub taking-part : (least : Option Number) (taken : Taken) (e : Errand) (r : Reply) → taken.row.part ≡ part
      → IfSome ((taking least keep).step taken e r) (λ (t : Taken). t.row.part ≡ part)
  taking-part least taken e r same = part-kept taken e.bay (grant_or_gap least taken.missing e.bay r) same

  pub until-part : (taken : Taken) (e : Errand) (r : Reply) → taken.row.part ≡ part → IfSome ((taking_until keep).step taken e r) (λ (t : Taken). t.row.part ≡ part)
  until-part taken e r same = part-until taken e.bay (grant_of r) same

-- Walks
-- an errand that takes the slot of this row on its bay
pub record TakesSlot (row : RowNo) (make : BayNo → Errand) : Type 0 where
  pub may : (bay : BayNo) (slots : List Slot) → (IsIn (slot_on row bay) slots → ⊥) → MayTake slots (make bay).bay (make bay).request
  pub takes : (bay : BayNo) (slots : List Slot) → with_taken slots (make bay).bay (make bay).request ≡ slot_on row bay ∷ slots

pub share-takes : (id : Number) (row : RowNo) → TakesSlot row (share id row)
share-takes id row = record { may = λ bay slots free. free; takes = λ bay slots. refl }

pub claim-takes : (id : Number) (row : RowNo) (how : How) (mask : ℕ) (want : Bool) → TakesSlot row (claim id row how mask want)
claim-takes id row how mask want = record { may = λ bay slots free. free; takes = λ bay slots. refl }

once-go : {A : Type 0} (V : A → Type 0) (slots : List Slot) (o : Option A) (g : A → Steps (Walk A)) (s : Steps (Walk A)) (f : Walk A → Steps Finish)
    → IfSome o V → ((a : A) → V a → Once slots (bind (g a) f)) → Once slots (bind s f) → Once slots (bind (go_on o g s) f)
once-go V slots (Some a) g s f v on off = on a v
once-go V slots None g s f v on off = off

-- over the slots of a row that come now, whatever follows
module _ {A : Type 0} (V : A → Type 0) (left : List RowPart) (row : RowNo) (later : List BayNo) (make : BayNo → Errand) (takes : TakesSlot row make) (phase : Phase A)
    (f : Walk A → Steps Finish) (kept : (a : A) (e : Errand) (r : Reply) → V a → IfSome (phase.step a e r) V)
    (on : (slots : List Slot) (a : A) → V a → Stands left row [] later slots → Once slots (f (Through a)))
    (off : (now : List BayNo) (slots : List Slot) (a : A) (bay : BayNo) (r : Reply) → V a → Stands left row now later slots → Once slots (f (Stopped a (make bay) r))) where
  pub once-take : (now : List BayNo) (slots : List Slot) (a : A) → V a → Stands left row now later slots → Once slots (bind (run phase (map make now) a) f)
  once-take [] slots a v s = on slots a v s
  once-take (bay ∷ now) slots a v s = (
    takes.may bay slots s.free.0,
    λ r. subst (λ (more : List Slot). Once more (bind (go_on (phase.step a (make bay) r) (λ b. run phase (map make now) b) (Ends (Stopped a (make bay) r))) f)) (sym (takes.takes bay slots))
        (once-go V (slot_on row bay ∷ slots) (phase.step a (make bay) r) (λ b. run phase (map make now) b) (Ends (Stopped a (make bay) r)) f (kept a (make bay) r v)
        (λ b vb. once-take now (slot_on row bay ∷ slots) b vb (take-one left row bay now later slots s))
        (off now (slot_on row bay ∷ slots) a bay r v (take-one left row bay now later slots s))),
  )

-- of one slot alone
pub once-one : {A : Type 0} (V : A → Type 0) (row : RowNo) (make : BayNo → Errand) → TakesSlot row make → (phase : Phase A) (f : Walk A → Steps Finish) (bay : BayNo)
    (slots : List Slot) (a : A) → (IsIn (slot_on row bay) slots → ⊥) → ((r : Reply) → IfSome (phase.step a (make bay) r) V)
    → ((b : A) → V b → Once (slot_on row bay ∷ slots) (f (Through b)))
    → ((r : Reply) → Once (slot_on row bay ∷ slots) (f (Stopped a (make bay) r)))
    → Once slots (bind (run phase (make bay ∷ []) a) f)
once-one V row make takes phase f bay slots a free kept on off = (
  takes.may bay slots free,
  λ r. subst (λ (more : List Slot). Once more (bind (go_on (phase.step a (make bay) r) (λ b. run phase [] b) (Ends (Stopped a (make bay) r))) f)) (sym (takes.takes bay slots))
      (once-go V (slot_on row bay ∷ slots) (phase.step a (make bay) r) (λ b. run phase [] b) (Ends (Stopped a (make bay) r)) f (kept r) (λ b vb. on b vb) (off r)),
)

-- a request that takes nothing
abbrev pub IsIdle : Request → Type 0
IsIdle (Share row by want) = ⊥
IsIdle (Claim row by how mask want) = ⊥
IsIdle (Confirm row by want) = Unit {0}
IsIdle (Put row by number cell) = Unit {0}
IsIdle (Release row by number) = Unit {0}
IsIdle Lose = Unit {0}
IsIdle Fit = Unit {0}

idle-may : (slots : List Slot) (bay : BayNo) (q : Request) → IsIdle q → MayTake slots bay q
idle-may slots bay (Share row by want) is = absurd is
idle-may slots bay (Claim row by how mask want) is = absurd is
idle-may slots bay (Confirm row by want) is = tt
idle-may slots bay (Put row by number cell) is = tt
idle-may slots bay (Release row by number) is = tt
idle-may slots bay Lose is = tt
idle-may slots bay Fit is = tt

idle-takes : (slots : List Slot) (bay : BayNo) (q : Request) → IsIdle q → with_taken slots bay q ≡ slots
idle-takes slots bay (Share row by want) is = absurd is
idle-takes slots bay (Claim row by how mask want) is = absurd is
idle-takes slots bay (Confirm row by want) is = refl
idle-takes slots bay (Put row by number cell) is = refl
idle-takes slots bay (Release row by number) is = refl
idle-takes slots bay Lose is = refl
idle-takes slots bay Fit is = refl

abbrev pub AreIdle : List Errand → Type 0
AreIdle es = AllByRecursion (λ (e : Errand). IsIdle e.request) es

pub idle-releases : (id : Number) (row : RowNo) (n : Option Number) (bays : List BayNo) → AreIdle (releases id row n bays)
idle-releases id row n bays = all-made (λ (e : Errand). IsIdle e.request) (release id row n) (λ bay. tt) bays

pub idle-map : {X : Type 0} (make : X → Errand) → ((x : X) → IsIdle (make x).request) → (xs : List X) → AreIdle (map make xs)
idle-map make idle xs = all-made (λ (e : Errand). IsIdle e.request) make idle xs

pub idle-flat : {X : Type 0} (make : X → List Errand) → ((x : X) → AreIdle (make x)) → (xs : List X) → AreIdle (flat_map make xs)
idle-flat make idle xs = all-flat (λ (e : Errand). IsIdle e.request) make idle xs

module _ (slots : List Slot) where
  -- over such errands, whatever the walk gives
  pub once-idle : {A : Type 0} (phase : Phase A) (f : Walk A → Steps Finish) → ((walk : Walk A) → Once slots (f walk)) → (es : List Errand) → AreIdle es → (a : A)
      → Once slots (bind (run phase es a) f)
  once-idle phase f on [] idle a = on (Through a)
  once-idle phase f on (e ∷ es) idle a = (
    idle-may slots e.bay e.request idle.0,
    λ r. subst (λ (more : List Slot). Once more (bind (go_on (phase.step a e r) (λ b. run phase es b) (Ends (Stopped a e r))) f)) (sym (idle-takes slots e.bay e.request idle.0))
        (once-go (λ b. Unit {0}) slots (phase.step a e r) (λ b. run phase es b) (Ends (Stopped a e r)) f (any (phase.step a e r)) (λ b u. once-idle phase f on es idle.1 b)
        (on (Stopped a e r))),
  )

  pub once-released : (es : List Errand) (ended : Ended) → AreIdle es → Once slots (released_steps es ended)
  once-released es ended idle = once-idle releasing (end_as ended) (λ walk. tt) es idle tt
