-- Journals and what hosts asked, after one entry more.
use Rattle.std.proofs.Common.{◌≡◌, ◌≢◌, ℕ, max, eqb, Bool, true, false, if◌then◌else◌, List, [], ◌∷◌, ◌++◌, refl, sym, ap, ◌∙◌, subst, arith, eq-eqb, ne_eqb, Option, Some, None}
use Rattle.raid_base.specs.declared.messages.Call.{Call}
use Rattle.raid_base.specs.declared.messages.Entry.{Entry}
use Rattle.rack_turns.specs.declared.view.Held.{Held}
use Rattle.rack_turns.specs.Views.{entries_of, calls_at, entry_of, call_of, greatest_clock, clock_after}

abbrev if-has : Bool → Entry → List Entry → List Entry
if-has b e es = if b then e ∷ es else es

more : (b : Bool) (x e : Entry) (xs ys : List Entry) → xs ≡ ys ++ e ∷ [] → if-has b x xs ≡ if-has b x ys ++ e ∷ []
more true x e xs ys same = ap (λ (l : List Entry). x ∷ l) same
more false x e xs ys same = same

as-many : (b : Bool) (x : Entry) (xs ys : List Entry) → xs ≡ ys → if-has b x xs ≡ if-has b x ys
as-many true x xs ys same = ap (λ (l : List Entry). x ∷ l) same
as-many false x xs ys same = same

-- an entry of the host is its last one
pub entries-own : (host : ℕ) (es : List Entry) (e : Entry) → e.ask.host.0 ≡ host → entries_of host (es ++ e ∷ []) ≡ entries_of host es ++ e ∷ []
entries-own host [] e own = subst (λ (b : Bool). if-has b e [] ≡ e ∷ []) (sym (eq-eqb e.ask.host.0 host own)) refl
entries-own host (x ∷ es) e own = more (eqb x.ask.host.0 host) x e (entries_of host (es ++ e ∷ [])) (entries_of host es) (entries-own host es e own)

-- an entry of another host is none of the host's
pub entries-other : (host : ℕ) (es : List Entry) (e : Entry) → e.ask.host.0 ≢ host → entries_of host (es ++ e ∷ []) ≡ entries_of host es
entries-other host [] e other = subst (λ (b : Bool). if-has b e [] ≡ []) (sym (ne_eqb e.ask.host.0 host other)) refl
entries-other host (x ∷ es) e other = as-many (eqb x.ask.host.0 host) x (entries_of host (es ++ e ∷ [])) (entries_of host es) (entries-other host es e other)

-- a call at the bay is its last one
pub calls-own : (bay : ℕ) (cs : List Call) (e : Entry) → calls_at bay (cs ++ call_of bay e ∷ []) ≡ calls_at bay cs ++ e ∷ []
calls-own bay [] e = subst (λ (b : Bool). if-has b e [] ≡ e ∷ []) (sym (eq-eqb bay bay refl)) refl
calls-own bay (c ∷ cs) e = more (eqb c.bay.0 bay) (entry_of c) e (calls_at bay (cs ++ call_of bay e ∷ [])) (calls_at bay cs) (calls-own bay cs e)

-- a call at another bay is none of the bay's
pub calls-other : (bay other : ℕ) (cs : List Call) (e : Entry) → bay ≢ other → calls_at other (cs ++ call_of bay e ∷ []) ≡ calls_at other cs
calls-other bay other [] e apart = subst (λ (b : Bool). if-has b e [] ≡ []) (sym (ne_eqb bay other apart)) refl
calls-other bay other (c ∷ cs) e apart = as-many (eqb c.bay.0 other) (entry_of c) (calls_at other (cs ++ call_of bay e ∷ [])) (calls_at other cs) (calls-other bay other cs e apart)

-- the clock after one entry more is its own
pub clock-snoc : (clock : ℕ) (es : List Entry) (e : Entry) → clock_after clock (es ++ e ∷ []) ≡ e.clock
clock-snoc clock [] e = refl
clock-snoc clock (x ∷ es) e = clock-snoc x.clock es e

-- the greatest clock is this one or the greatest before
pub greatest-snoc : (cs : List Call) (c : Call) → greatest_clock (cs ++ c ∷ []) ≡ max (greatest_clock cs) c.answer.clock
greatest-snoc [] c = omega arith
greatest-snoc (x ∷ cs) c = let rest : greatest_clock (cs ++ c ∷ []) ≡ max (greatest_clock cs) c.answer.clock = greatest-snoc cs c in omega (arith, rest)

abbrev last_or : Entry → List Entry → Entry
last_or e [] = e
last_or e (x ∷ xs) = last_or x xs

last-snoc : (d : Entry) (es : List Entry) (e : Entry) → last_or d (es ++ e ∷ []) ≡ e
last-snoc d [] e = refl
last-snoc d (x ∷ es) e = last-snoc x es e

-- two lists that are the same have the same last entry
pub same-last : (xs ys : List Entry) (a b : Entry) → xs ++ a ∷ [] ≡ ys ++ b ∷ [] → a ≡ b
same-last xs ys a b same = sym (last-snoc a xs a) ∙ (ap (last_or a) same ∙ last-snoc a ys b)

abbrev turn_bay : ℕ → Option Held → ℕ
turn_bay d None = d
turn_bay d (Some h) = h.bay

abbrev turn_journal : List Entry → Option Held → List Entry
turn_journal d None = d
turn_journal d (Some h) = h.journal

-- one turn is of one bay
pub same-bay : (h i : Held) → Some h ≡ Some i → h.bay ≡ i.bay
same-bay h i same = ap (turn_bay 0) same

-- and has one journal
pub same-journal : (h i : Held) → Some h ≡ Some i → h.journal ≡ i.journal
same-journal h i same = ap (turn_journal []) same

abbrev seat_or : ℕ → Option ℕ → ℕ
seat_or d None = d
seat_or d (Some n) = n

-- one seat
pub same-seat : (i j : ℕ) → Some i ≡ Some j → i ≡ j
same-seat i j same = ap (seat_or 0) same
