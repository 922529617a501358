-- The numbers of results in a list: results whose numbers rise are apart, and so are those of hosts that are.
use Rattle.std.proofs.Common.{◌≡◌, refl, sym, ap, subst, ◌∙◌, ℕ, ◌+◌, ◌%◌, ◌<◌, ◌≤◌, is_some, IsSome, if◌then◌else◌, List, [], ◌∷◌, ◌++◌, flat_map, Option, Some, None, arith, append-nil}
use Rattle.std.specs.List.{AllByRecursion}
use Rattle.std.proofs.lemmas.List.Elements.{filter-append}
use Rattle.raid_base.specs.declared.numbers.HostNo.{HostNo}
use Rattle.raid_base.specs.declared.numbers.Number.{Number}
use Rattle.attempts.proofs.RoomLemmas.{all-append}
use Rattle.script_text.specs.Ranges as ranges
use Rattle.serial_array.specs.Serial.{Reported, number_of, numbered, IsAbove, RiseFrom, Rise}
use Rattle.serial_array.specs.Ordered.{number_or, number_in, AreApart}

-- all numbers are below this, at most this, or leave this host by 16
abbrev pub AllUnder : ℕ → List Reported → Type 0
AllUnder n rs = AllByRecursion (λ (r : Reported). number_in r < n) rs

abbrev pub AllTo : ℕ → List Reported → Type 0
AllTo n rs = AllByRecursion (λ (r : Reported). number_in r ≤ n) rs

abbrev pub AllOwn : HostNo → List Reported → Type 0
AllOwn host rs = AllByRecursion (λ (r : Reported). number_in r % 16 ≡ host.0) rs

-- results of a host, with numbers that rise up to this
pub record AreRising (host : HostNo) (top : ℕ) (rs : List Reported) : Type 0 where
  pub rise : Rise rs
  pub low : AllTo top rs
  pub own : AllOwn host rs

-- a further number of the host, above those of these results
pub record IsFurther (host : HostNo) (top : ℕ) (rs : List Reported) (m : Number) : Type 0 where
  pub above : AllUnder m.0 rs
  pub low : m.0 ≤ top
  pub own : m.0 % 16 ≡ host.0

pub to-more : (low high : ℕ) → low ≤ high → (rs : List Reported) → AllTo low rs → AllTo high rs
to-more low high le [] h = tt
to-more low high le (r ∷ rs) h = (let first = h.0 in omega (arith, le, first), to-more low high le rs h.1)

pub under-next : (top n : ℕ) → top < n → (rs : List Reported) → AllTo top rs → AllUnder n rs
under-next top n less [] h = tt
under-next top n less (r ∷ rs) h = (let first = h.0 in omega (arith, less, first), under-next top n less rs h.1)

pub rising-more : (host : HostNo) (low high : ℕ) (rs : List Reported) → low ≤ high → AreRising host low rs → AreRising host high rs
rising-more host low high rs le h = record { rise = h.rise; low = to-more low high le rs h.low; own = h.own }

-- One more result
above-of : (o later : Option Number) (m : Number) → IsSome o → number_or o < m.0 → later ≡ Some m → IsAbove o later
above-of None later m some less is = absurd (cc some)
above-of (Some k) None m some less is = absurd (cc)
above-of (Some k) (Some j) m some less is = let same : j ≡ m = cc in subst (λ (x : Number). k.0 < x.0) (sym same) less

from-with : (x : Reported) (xs : List Reported) (r : Reported) (m : Number) → RiseFrom x xs → AllUnder m.0 (x ∷ xs) → number_of r.ended ≡ Some m → RiseFrom x (xs ++ r ∷ [])
from-with x [] r m rise under is = (above-of (number_of x.ended) (number_of r.ended) m rise under.0 is, ap (λ (o : Option Number). is_some o) is)
from-with x (y ∷ ys) r m rise under is = (rise.0, from-with y ys r m rise.1 under.1 is)

rise-with : (rs : List Reported) (r : Reported) (m : Number) → Rise rs → AllUnder m.0 rs → number_of r.ended ≡ Some m → Rise (rs ++ r ∷ [])
rise-with [] r m rise under is = ap (λ (o : Option Number). is_some o) is
rise-with (x ∷ xs) r m rise under is = from-with x xs r m rise under is

number-is : (r : Reported) (m : Number) → number_of r.ended ≡ Some m → number_in r ≡ m.0
number-is r m is = ap (λ (o : Option Number). number_or o) is

rising-one : (host : HostNo) (top : ℕ) (rs : List Reported) (r : Reported) (m : Number) → AreRising host top rs → number_of r.ended ≡ Some m → IsFurther host top rs m →
    AreRising host top (rs ++ r ∷ [])
rising-one host top rs r m h is further =
    let same : number_in r ≡ m.0 = number-is r m is in
    record {
      rise = rise-with rs r m h.rise further.above is;
      low = all-append (λ (x : Reported). number_in x ≤ top) rs (r ∷ []) h.low (let le : m.0 ≤ top = further.low in omega (arith, le, same), tt);
      own = all-append (λ (x : Reported). number_in x % 16 ≡ host.0) rs (r ∷ []) h.own (ap (λ (k : ℕ). k % 16) same ∙ further.own, tt);
    }

-- those with a number, with one result more
pub rising-with : (host : HostNo) (top : ℕ) (rs : List Reported) (r : Reported) → AreRising host top (numbered rs) →
    ((m : Number) → number_of r.ended ≡ Some m → IsFurther host top (numbered rs) m) → AreRising host top (numbered (rs ++ r ∷ []))
rising-with host top rs r h due =
    subst (λ (xs : List Reported). AreRising host top xs) (sym (filter-append (λ (e : Reported). is_some (number_of e.ended)) rs (r ∷ []))) (by (number_of r.ended) refl)
  where
    by : (o : Option Number) → number_of r.ended ≡ o → AreRising host top (numbered rs ++ (if is_some o then r ∷ [] else []))
    by None is = subst (λ (xs : List Reported). AreRising host top xs) (sym (append-nil (numbered rs))) h
    by (Some m) is = rising-one host top (numbered rs) r m h is (due m is)

-- Numbers that rise are apart
less-of : (o later : Option Number) → IsAbove o later → number_or o < number_or later
less-of None later h = absurd h
less-of (Some k) None h = absurd h
less-of (Some k) (Some j) h = h

abbrev AllOver : ℕ → List Reported → Type 0
AllOver n rs = AllByRecursion (λ (r : Reported). n < number_in r) rs

over-less : (low high : ℕ) → low < high → (rs : List Reported) → AllOver high rs → AllOver low rs
over-less low high less [] h = tt
over-less low high less (r ∷ rs) h = (let first = h.0 in omega (arith, less, first), over-less low high less rs h.1)

from-over : (x : Reported) (xs : List Reported) → RiseFrom x xs → AllOver (number_in x) xs
from-over x [] h = tt
from-over x (y ∷ ys) h =
    let less : number_in x < number_in y = less-of (number_of x.ended) (number_of y.ended) h.0 in
    (less, over-less (number_in x) (number_in y) less ys (from-over y ys h.1))

abbrev AllOthers : ℕ → List Reported → Type 0
AllOthers n rs = AllByRecursion (λ (r : Reported). number_in r ≡ n → ⊥) rs

over-others : (n : ℕ) (rs : List Reported) → AllOver n rs → AllOthers n rs
over-others n [] h = tt
over-others n (r ∷ rs) h = (λ same. let less = h.0 in omega (arith, less, same), over-others n rs h.1)

from-apart : (x : Reported) (xs : List Reported) → RiseFrom x xs → AreApart (x ∷ xs)
from-apart x [] h = (tt, tt)
from-apart x (y ∷ ys) h = (over-others (number_in x) (y ∷ ys) (from-over x (y ∷ ys) h), from-apart y ys h.1)

pub rise-apart : (rs : List Reported) → Rise rs → AreApart rs
rise-apart [] h = tt
rise-apart (x ∷ xs) h = from-apart x xs h

-- Results of several hosts
abbrev AllFrom : ℕ → List Reported → Type 0
AllFrom from rs = AllByRecursion (λ (r : Reported). from ≤ number_in r % 16) rs

from-more : (low high : ℕ) → low ≤ high → (rs : List Reported) → AllFrom high rs → AllFrom low rs
from-more low high le [] h = tt
from-more low high le (r ∷ rs) h = (let first = h.0 in omega (arith, le, first), from-more low high le rs h.1)

own-from : (host : HostNo) (from : ℕ) → from ≤ host.0 → (rs : List Reported) → AllOwn host rs → AllFrom from rs
own-from host from le [] h = tt
own-from host from le (r ∷ rs) h = (let first = h.0 in omega (arith, le, first), own-from host from le rs h.1)

other-rest : (host : HostNo) (n : ℕ) → n % 16 ≡ host.0 → (rs : List Reported) → AllFrom (host.0 + 1) rs → AllOthers n rs
other-rest host n own [] h = tt
other-rest host n own (r ∷ rs) h =
    (λ same. let least = h.0 in let rest : number_in r % 16 ≡ host.0 = ap (λ (k : ℕ). k % 16) same ∙ own in omega (arith, least, rest), other-rest host n own rs h.1)

apart-with : (host : HostNo) (xs ys : List Reported) → AllOwn host xs → AllFrom (host.0 + 1) ys → AreApart xs → AreApart ys → AreApart (xs ++ ys)
apart-with host [] ys own least a b = b
apart-with host (x ∷ xs) ys own least a b = (
  all-append (λ (r : Reported). number_in r ≡ number_in x → ⊥) xs ys a.0 (other-rest host (number_in x) own.0 ys least),
  apart-with host xs ys own.1 least a.1 b,
)

module _ (results : HostNo → List Reported) where
  -- the results of each host are so
  abbrev pub AreOwn : Type 0
  AreOwn = (host : HostNo) → host.0 < 16 → Rise (numbered (results host)) × AllOwn host (numbered (results host))

  split : (host : HostNo) (hosts : List HostNo) → numbered (flat_map results (host ∷ hosts)) ≡ numbered (results host) ++ numbered (flat_map results hosts)
  split host hosts = filter-append (λ (e : Reported). is_some (number_of e.ended)) (results host) (flat_map results hosts)

  hosts-from : AreOwn → (from : ℕ) (hosts : List HostNo) → ranges.Rise from hosts → AllFrom from (numbered (flat_map results hosts))
  hosts-from are from [] rise = tt
  hosts-from are from (host ∷ hosts) rise =
      let le : from ≤ host.0 = rise.0 in
      subst (λ (rs : List Reported). AllFrom from rs) (sym (split host hosts))
      (all-append (λ (r : Reported). from ≤ number_in r % 16) (numbered (results host)) (numbered (flat_map results hosts))
      (own-from host from le (numbered (results host)) (are host rise.1).1)
      (from-more from (host.0 + 1) (omega (arith, le)) (numbered (flat_map results hosts)) (hosts-from are (host.0 + 1) hosts rise.2)))

  pub hosts-apart : AreOwn → (from : ℕ) (hosts : List HostNo) → ranges.Rise from hosts → AreApart (numbered (flat_map results hosts))
  hosts-apart are from [] rise = tt
  hosts-apart are from (host ∷ hosts) rise =
      subst (λ (rs : List Reported). AreApart rs) (sym (split host hosts))
      (apart-with host (numbered (results host)) (numbered (flat_map results hosts)) (are host rise.1).1 (hosts-from are (host.0 + 1) hosts rise.2)
      (rise-apart (numbered (results host)) (are host rise.1).0) (hosts-apart are (host.0 + 1) hosts rise.2))
