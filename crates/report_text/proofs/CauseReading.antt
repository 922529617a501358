-- Causes: what is spelled so is read, and what is read is spelled so.
use Rattle.std.proofs.Common.{◌≡◌, ℕ, zero, suc, ◌+◌, ◌-◌, ◌^◌, ◌<◌, ◌≤◌, Bool, true, false, cond, List, [], ◌∷◌, ◌++◌, Option, Some, None, option_map, refl, sym, ap, ◌∙◌, subst, arith, decimal, append-nil, lit<}
use Rattle.std.specs.Prelude.{codes}
use Rattle.std.specs.Option.{option_or}
use Rattle.raid_base.specs.Names.{is_text}
use Rattle.raid_base.specs.declared.numbers.BayNo.{BayNo}
use Rattle.raid_base.specs.declared.numbers.RowNo.{RowNo}
use Rattle.raid_base.specs.declared.numbers.Number.{Number}
use Rattle.raid_base.specs.declared.messages.Note.{Note}
use Rattle.raid_base.specs.declared.jobs.Cause.{Cause}
use Rattle.raid_base.specs.declared.jobs.Cause.TheVariants as causes
use Rattle.text_lines.specs.Lines.{joined, spaced}
use Rattle.report_text.specs.Report.{cause_words}
use Rattle.report_text.specs.Ranges.{IsWithin, IsNo, IsFloor, IsBay, IsRow, IsHolder, IsCause}
use Rattle.report_text.specs.Reading.{behind, number_within, number_before, number_behind, pair_behind, holder, holder_behind, bay_behind, row_behind, floor_behind, number_cause, bay_cause, row_cause, cause_of}
use Rattle.report_text.proofs.ReadingWords.{same-some, never-some, mapped, number_within-again, number_before-again, number_behind-takes, pair_behind-takes}
use Rattle.report_text.proofs.ContentReading.{is_text-takes}

-- words of a line, from the right
abbrev pub glued : List (List ℕ) → List ℕ
glued [] = []
glued (word ∷ []) = word
glued (word ∷ after ∷ words) = word ++ 32 ∷ glued (after ∷ words)

pub joined-glued : (words : List (List ℕ)) → joined words ≡ glued words
joined-glued [] = refl
joined-glued (word ∷ []) = append-nil word
joined-glued (word ∷ after ∷ words) = ap (λ t. word ++ 32 ∷ t) (joined-glued (after ∷ words))

-- one of two readings
pub alt : {X : Type 0} (P : Type 0) (a b : Option X) (x : X) → option_or a b ≡ Some x → (a ≡ Some x → P) → (b ≡ Some x → P) → P
alt P None b x e f g = g e
alt P (Some y) b x e f g = f e

-- a reading of this form
pub leaf : {A X : Type 0} (P : X → Type 0) (o : Option A) (f : A → X) (x : X) → option_map f o ≡ Some x → ((a : A) → o ≡ Some a → P (f a)) → P x
leaf P None f x e so = never-some x (P x) e
leaf P (Some a) f x e so = subst P (same-some (f a) x e) (so a refl)

-- one word
pub whole : {X : Type 0} (P : X → Type 0) (b : Bool) (y x : X) (rest : Option X) → cond b (Some y) rest ≡ Some x → (b ≡ true → P y) → (rest ≡ Some x → P x) → P x
whole P true y x rest e f g = subst P (same-some y x e) (f refl)
whole P false y x rest e f g = g e

holder-is : (note : Note) → IsHolder note → holder note.host.0 note.id.0 ≡ note
holder-is note h =
    let of : Number → ℕ → ℕ → Note = λ o m t. record { host = note.host; id = note.id; origin = o; mask = m; moment = t } in
    ap (λ o. of o 0 0) (sym h.origin) ∙ ap (λ m. of note.origin m 0) (sym h.mask) ∙ ap (λ t. of note.origin note.mask t) (sym h.moment)

pub cause_of-again : (cause : Cause) → IsCause cause → cause_of (glued (cause_words cause)) ≡ Some cause
unfolding cause_of number_cause bay_cause row_cause holder_behind bay_behind row_behind floor_behind pair_behind number_behind behind
cause_of-again (causes.Busy note) h = rw (number_before-again 0 15 note.host.0 (decimal note.id.0) (lit< tt) h.host, number_within-again 1 (2 ^ 62 - 1) note.id.0 (lit< tt) h.id) (ap (λ n. Some (causes.Busy n)) (holder-is note h))
cause_of-again (causes.Late above) h = rw (number_within-again 0 (2 ^ 62 - 1) above.0 (lit< tt) h) refl
cause_of-again (causes.Young note) h = rw (number_before-again 0 15 note.host.0 (decimal note.id.0) (lit< tt) h.host, number_within-again 1 (2 ^ 62 - 1) note.id.0 (lit< tt) h.id) (ap (λ n. Some (causes.Young n)) (holder-is note h))
cause_of-again (causes.Behind floor) h = rw (number_within-again 0 (2 ^ 62 - 1) floor.0 (lit< tt) h) refl
cause_of-again (causes.Fault bay) h = rw (number_within-again 0 15 bay.0 (lit< tt) h) refl
cause_of-again (causes.Broken first second) h = rw (number_before-again 0 15 first.0 (decimal second.0) (lit< tt) h.0, number_within-again 0 15 second.0 (lit< tt) h.1) refl
cause_of-again (causes.Gone bay) h = rw (number_within-again 0 15 bay.0 (lit< tt) h) refl
cause_of-again (causes.Changed row) h = rw (number_within-again 0 4095 row.0 (lit< tt) h) refl
cause_of-again (causes.Released row) h = rw (number_within-again 0 4095 row.0 (lit< tt) h) refl
cause_of-again (causes.Seized row) h = rw (number_within-again 0 4095 row.0 (lit< tt) h) refl
cause_of-again (causes.Spent seen) h = rw (number_within-again 0 (2 ^ 62 - 1) seen.0 (lit< tt) h) refl
cause_of-again causes.Quit h = refl

pub bay_behind-takes : (piece text : List ℕ) (bay : BayNo) → bay_behind piece text ≡ Some bay → IsBay bay × (text ≡ piece ++ decimal bay.0)
unfolding bay_behind
bay_behind-takes piece text bay e = leaf (λ (b : BayNo). IsBay b × (text ≡ piece ++ decimal b.0)) (number_behind piece 0 15 text) (λ n. record { 0 = n }) bay e (λ n q. number_behind-takes piece 0 15 n text (lit< tt) q)

row_behind-takes : (piece text : List ℕ) (row : RowNo) → row_behind piece text ≡ Some row → IsRow row × (text ≡ piece ++ decimal row.0)
unfolding row_behind
row_behind-takes piece text row e = leaf (λ (r : RowNo). IsRow r × (text ≡ piece ++ decimal r.0)) (number_behind piece 0 4095 text) (λ n. record { 0 = n }) row e (λ n q. number_behind-takes piece 0 4095 n text (lit< tt) q)

floor_behind-takes : (piece text : List ℕ) (floor : Number) → floor_behind piece text ≡ Some floor → IsFloor floor × (text ≡ piece ++ decimal floor.0)
unfolding floor_behind
floor_behind-takes piece text floor e = leaf (λ (f : Number). IsFloor f × (text ≡ piece ++ decimal f.0)) (number_behind piece 0 (2 ^ 62 - 1) text) (λ n. record { 0 = n }) floor e (λ n q. number_behind-takes piece 0 (2 ^ 62 - 1) n text (lit< tt) q)

holder_behind-takes : (piece text : List ℕ) (note : Note) → holder_behind piece text ≡ Some note → IsHolder note × (text ≡ piece ++ (decimal note.host.0 ++ 32 ∷ decimal note.id.0))
unfolding holder_behind
holder_behind-takes piece text note e =
    leaf (λ (n : Note). IsHolder n × (text ≡ piece ++ (decimal n.host.0 ++ 32 ∷ decimal n.id.0))) (pair_behind piece 1 (2 ^ 62 - 1) text) (λ (found : ℕ × ℕ). holder found.0 found.1) note e
    (λ found q. let reads = pair_behind-takes piece 1 (2 ^ 62 - 1) found.0 found.1 text (lit< tt) q in
    let high = reads.first_high in
    (record { host = record { low = omega arith; high = high }; id = reads.range; origin = refl; mask = refl; moment = refl }, reads.text_is))

-- a cause that the text is
abbrev pub SpellsCause : List ℕ → Cause → Type 0
SpellsCause text cause = IsCause cause × (text ≡ glued (cause_words cause))

number_cause-takes : (text : List ℕ) (cause : Cause) → number_cause text ≡ Some cause → SpellsCause text cause
unfolding number_cause
number_cause-takes text cause e =
    let P = SpellsCause text in
    alt (P cause) _ _ cause e (λ q. leaf P (holder_behind (codes "busy ") text) causes.Busy cause q (λ a r. holder_behind-takes (codes "busy ") text a r)) λ f.
    alt (P cause) _ _ cause f (λ q. leaf P (holder_behind (codes "young ") text) causes.Young cause q (λ a r. holder_behind-takes (codes "young ") text a r)) λ g.
    alt (P cause) _ _ cause g (λ q. leaf P (floor_behind (codes "late ") text) causes.Late cause q (λ a r. floor_behind-takes (codes "late ") text a r)) λ h.
    alt (P cause) _ _ cause h (λ q. leaf P (floor_behind (codes "behind ") text) causes.Behind cause q (λ a r. floor_behind-takes (codes "behind ") text a r)) λ i.
    leaf P (floor_behind (codes "spent ") text) causes.Spent cause i (λ a r. floor_behind-takes (codes "spent ") text a r)

bay_cause-takes : (text : List ℕ) (cause : Cause) → bay_cause text ≡ Some cause → SpellsCause text cause
unfolding bay_cause
bay_cause-takes text cause e =
    let P = SpellsCause text in
    alt (P cause) _ _ cause e (λ q. leaf P (bay_behind (codes "fault ") text) causes.Fault cause q (λ a r. bay_behind-takes (codes "fault ") text a r)) λ f.
    alt (P cause) _ _ cause f (λ q. leaf P (bay_behind (codes "gone ") text) causes.Gone cause q (λ a r. bay_behind-takes (codes "gone ") text a r)) λ g.
    leaf P (pair_behind (codes "broken ") 0 15 text) (λ (found : ℕ × ℕ). causes.Broken (record { 0 = found.0 }) (record { 0 = found.1 })) cause g
    (λ found r. let reads = pair_behind-takes (codes "broken ") 0 15 found.0 found.1 text (lit< tt) r in
    let high = reads.first_high in
    ((record { low = omega arith; high = high }, reads.range), reads.text_is))

row_cause-takes : (text : List ℕ) (cause : Cause) → row_cause text ≡ Some cause → SpellsCause text cause
unfolding row_cause
row_cause-takes text cause e =
    let P = SpellsCause text in
    alt (P cause) _ _ cause e (λ q. leaf P (row_behind (codes "changed ") text) causes.Changed cause q (λ a r. row_behind-takes (codes "changed ") text a r)) λ f.
    alt (P cause) _ _ cause f (λ q. leaf P (row_behind (codes "released ") text) causes.Released cause q (λ a r. row_behind-takes (codes "released ") text a r)) λ g.
    leaf P (row_behind (codes "seized ") text) causes.Seized cause g (λ a r. row_behind-takes (codes "seized ") text a r)

pub cause_of-takes : (text : List ℕ) (cause : Cause) → cause_of text ≡ Some cause → SpellsCause text cause
unfolding cause_of
cause_of-takes text cause e =
    let P = SpellsCause text in
    whole P (is_text text (codes "quit")) causes.Quit cause _ e (λ q. (tt, is_text-takes text (codes "quit") q)) λ f.
    alt (P cause) _ _ cause f (λ g. alt (P cause) _ _ cause g (number_cause-takes text cause) (bay_cause-takes text cause)) (row_cause-takes text cause)
