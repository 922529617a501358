-- Entries, calls and lines of one bay or one host, and what holds of all of them.
use Rattle.std.proofs.Common.{◌≡◌, inl, inr, ℕ, ◌<◌, ◌==◌, Bool, true, false, if◌then◌else◌, List, [], ◌∷◌, refl, ap, subst, ◌∙◌, arith, eq-eqb}
use Rattle.std.specs.List.{AllByRecursion}
use Rattle.std.proofs.lemmas.Bool.Decides.{nat_tests}
use Rattle.raid_base.specs.declared.numbers.HostNo.{HostNo}
use Rattle.raid_base.specs.declared.numbers.BayNo.{BayNo}
use Rattle.raid_base.specs.declared.messages.Call.{Call}
use Rattle.raid_base.specs.declared.messages.Entry.{Entry}
use Rattle.histories.specs.History.{entry_of}
use Rattle.clock_merge.specs.Merge.{Line, entries_at, IsBefore, RiseFrom, Rise}
use Rattle.clock_merge.specs.Tied.{entries_of, calls_at}

-- Numbers of bays and hosts
pub same-bay : (a b : BayNo) → (a.0 == b.0) ≡ true → a ≡ b
same-bay a b e = let same : a.0 ≡ b.0 = grind (arith, nat_tests) in ap (λ (k : ℕ). record { 0 = k }) same

pub same-host : (a b : HostNo) → (a.0 == b.0) ≡ true → a ≡ b
same-host a b e = let same : a.0 ≡ b.0 = grind (arith, nat_tests) in ap (λ (k : ℕ). record { 0 = k }) same

pub same-test : (n : ℕ) → (n == n) ≡ true
same-test n = eq-eqb n n refl

pub other-test : (m n : ℕ) → (m == n) ≡ false → (n == m) ≡ false
other-test m n e = by (n == m) refl where
  by : (b : Bool) → (n == m) ≡ b → (n == m) ≡ false
  by true is = absurd (grind (arith, nat_tests))
  by false is = is

-- Heads and tails of equal lists
pub same-heads : {A : Type 0} (x y : A) (xs ys : List A) → x ∷ xs ≡ y ∷ ys → x ≡ y
same-heads {A} x y xs ys e = ap (λ (l : List A). head l) e where
  head : List A → A
  head [] = x
  head (z ∷ zs) = z

pub same-tails : {A : Type 0} (x y : A) (xs ys : List A) → x ∷ xs ≡ y ∷ ys → xs ≡ ys
same-tails {A} x y xs ys e = ap (λ (l : List A). tail l) e where
  tail : List A → List A
  tail [] = []
  tail (z ∷ zs) = zs

-- The first line, entry or call is of the bay or host, or not
pub entries-here : (bay : BayNo) (line : Line) (lines : List Line) → (line.bay.0 == bay.0) ≡ true → entries_at bay (line ∷ lines) ≡ line.entry ∷ entries_at bay lines
entries-here bay line lines e = ap (λ (b : Bool). if b then line.entry ∷ entries_at bay lines else entries_at bay lines) e

pub entries-there : (bay : BayNo) (line : Line) (lines : List Line) → (line.bay.0 == bay.0) ≡ false → entries_at bay (line ∷ lines) ≡ entries_at bay lines
entries-there bay line lines e = ap (λ (b : Bool). if b then line.entry ∷ entries_at bay lines else entries_at bay lines) e

pub host-here : (host : HostNo) (entry : Entry) (entries : List Entry) → (entry.ask.host.0 == host.0) ≡ true → entries_of host (entry ∷ entries) ≡ entry ∷ entries_of host entries
host-here host entry entries e = ap (λ (b : Bool). if b then entry ∷ entries_of host entries else entries_of host entries) e

pub host-there : (host : HostNo) (entry : Entry) (entries : List Entry) → (entry.ask.host.0 == host.0) ≡ false → entries_of host (entry ∷ entries) ≡ entries_of host entries
host-there host entry entries e = ap (λ (b : Bool). if b then entry ∷ entries_of host entries else entries_of host entries) e

pub call-here : (bay : BayNo) (call : Call) (calls : List Call) → (call.bay.0 == bay.0) ≡ true → calls_at bay (call ∷ calls) ≡ entry_of call ∷ calls_at bay calls
call-here bay call calls e = ap (λ (b : Bool). if b then entry_of call ∷ calls_at bay calls else calls_at bay calls) e

pub call-there : (bay : BayNo) (call : Call) (calls : List Call) → (call.bay.0 == bay.0) ≡ false → calls_at bay (call ∷ calls) ≡ calls_at bay calls
call-there bay call calls e = ap (λ (b : Bool). if b then entry_of call ∷ calls_at bay calls else calls_at bay calls) e

-- What holds of all
pub all-weaker : {X : Type 0} (P Q : X → Type 0) → ((x : X) → P x → Q x) → (xs : List X) → AllByRecursion P xs → AllByRecursion Q xs
all-weaker P Q weaker [] all = tt
all-weaker P Q weaker (x ∷ xs) all = (weaker x all.0, all-weaker P Q weaker xs all.1)

-- of all lines, so of all entries of a bay
pub all-at : (P : Line → Type 0) (bay : BayNo) (lines : List Line) → AllByRecursion P lines → AllByRecursion (λ (entry : Entry). P (record { bay = bay; entry = entry })) (entries_at bay lines)
all-at P bay [] all = tt
all-at P bay (line ∷ lines) all = by (line.bay.0 == bay.0) refl (all-at P bay lines all.1) where
  Q : Entry → Type 0
  Q = λ entry. P (record { bay = bay; entry = entry })

  by : (b : Bool) → (line.bay.0 == bay.0) ≡ b → AllByRecursion (λ (entry : Entry). P (record { bay = bay; entry = entry })) (entries_at bay lines) →
      AllByRecursion (λ (entry : Entry). P (record { bay = bay; entry = entry })) (if b then line.entry ∷ entries_at bay lines else entries_at bay lines)
  by true e rest = (subst (λ (at : BayNo). P (record { bay = at; entry = line.entry })) (same-bay line.bay bay e) all.0, rest)
  by false e rest = rest

-- of all entries, so of those of a host
pub all-of : (P : Entry → Type 0) (host : HostNo) (entries : List Entry) → AllByRecursion P entries → AllByRecursion P (entries_of host entries)
all-of P host [] all = tt
all-of P host (entry ∷ entries) all = by (entry.ask.host.0 == host.0) (all-of P host entries all.1) where
  by : (b : Bool) → AllByRecursion P (entries_of host entries) → AllByRecursion P (if b then entry ∷ entries_of host entries else entries_of host entries)
  by true rest = (all.0, rest)
  by false rest = rest

-- of all calls, so of those at a bay
pub all-calls : (P : Entry → Type 0) (bay : BayNo) (calls : List Call) → AllByRecursion (λ (call : Call). P (entry_of call)) calls → AllByRecursion P (calls_at bay calls)
all-calls P bay [] all = tt
all-calls P bay (call ∷ calls) all = by (call.bay.0 == bay.0) (all-calls P bay calls all.1) where
  by : (b : Bool) → AllByRecursion P (calls_at bay calls) → AllByRecursion P (if b then entry_of call ∷ calls_at bay calls else calls_at bay calls)
  by true rest = (all.0, rest)
  by false rest = rest

-- of the calls at each bay, so of all
pub all-bays : (P : Entry → Type 0) (n : ℕ) (calls : List Call) → AllByRecursion (λ (call : Call). call.bay.0 < n) calls →
    ((bay : BayNo) → bay.0 < n → AllByRecursion P (calls_at bay calls)) → AllByRecursion (λ (call : Call). P (entry_of call)) calls
all-bays P n [] within all = tt
all-bays P n (call ∷ calls) within all = (first, all-bays P n calls within.1 (λ bay below. later bay (call.bay.0 == bay.0) (all bay below))) where
  first : P (entry_of call)
  first = (subst (λ (entries : List Entry). AllByRecursion P entries) (call-here call.bay call calls (same-test call.bay.0)) (all call.bay within.0)).0

  later : (bay : BayNo) (b : Bool) → AllByRecursion P (if b then entry_of call ∷ calls_at bay calls else calls_at bay calls) → AllByRecursion P (calls_at bay calls)
  later bay true both = both.1
  later bay false both = both

-- The order of lines
pub before-before : (x y z : Line) → IsBefore x y → IsBefore y z → IsBefore x z
before-before x y z (inl less) (inl more) = inl (omega arith)
before-before x y z (inl less) (inr same) = let equal = same.0 in inl (omega (arith, equal, less))
before-before x y z (inr same) (inl more) = let equal = same.0 in inl (omega (arith, equal, more))
before-before x y z (inr same) (inr also) = inr (same.0 ∙ also.0, omega (arith, same.1, also.1))

pub never-both : (x y : Line) → IsBefore x y → IsBefore y x → ⊥
never-both x y (inl less) (inl more) = omega arith
never-both x y (inl less) (inr same) = omega (arith, less, same.0)
never-both x y (inr same) (inl more) = omega (arith, more, same.0)
never-both x y (inr same) (inr also) = omega (arith, same.1, also.1)

after-all : (x y : Line) (lines : List Line) → IsBefore x y → RiseFrom y lines → AllByRecursion (IsBefore x) lines
after-all x y [] before rise = tt
after-all x y (z ∷ lines) before rise = let next = before-before x y z before rise.0 in (next, after-all x z lines next rise.1)

-- a line is before all that rise from it
pub before-all : (x : Line) (lines : List Line) → RiseFrom x lines → AllByRecursion (IsBefore x) lines
before-all x [] rise = tt
before-all x (y ∷ lines) rise = (rise.0, after-all x y lines rise.0 rise.1)

pub rise-later : (x : Line) (lines : List Line) → RiseFrom x lines → Rise lines
rise-later x [] rise = tt
rise-later x (y ∷ lines) rise = rise.1

-- a line is before the first entry of a bay in what rises from it
pub before-first : (x : Line) (bay : BayNo) (entry : Entry) (entries : List Entry) (lines : List Line) → RiseFrom x lines → entries_at bay lines ≡ entry ∷ entries →
    IsBefore x (record { bay = bay; entry = entry })
before-first x bay entry entries lines rise is =
    (subst (λ (es : List Entry). AllByRecursion (λ (e : Entry). IsBefore x (record { bay = bay; entry = e })) es) is (all-at (IsBefore x) bay lines (before-all x lines rise))).0
