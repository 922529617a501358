-- A fault is told of the first line that begins no script's text with those before it.
use Rattle.std.proofs.Common.{◌≡◌, ◌≢◌, ◌⊎◌, inl, inr, ℕ, zero, suc, ◌+◌, ◌<◌, Bool, true, false, cond, eqb, List, [], ◌∷◌, ◌++◌, length, Option, Some, None, refl, sym, ap, ◌∙◌, arith, subst}
use Rattle.std.specs.Prelude.{◌↔◌, codes}
use Rattle.std.specs.List.{All, flat_map}
use Rattle.std.proofs.lemmas.Bool.{eqb-true, cond-true}
use Rattle.std.proofs.lemmas.List.{append-nil, append_assoc, length-append}
use Rattle.std.proofs.lemmas.List.Concat.{flat_map-append}
use Rattle.std.proofs.lemmas.List.Elements.{All-nil, All-cons, All-head, All-tail, All-push}
use Rattle.raid_base.specs.declared.status.Kind.{Kind}
use Rattle.raid_base.specs.declared.status.Kind.TheVariants.{Shape, End, Tail}
use Rattle.text_lines.specs.Lines.{IsLine, line}
use Rattle.script_text.specs.Script.{Script}
use Rattle.script_text.specs.Text.{Words, script_lines, script_text}
use Rattle.script_text.specs.Ranges.{IsScript}
use Rattle.script_text.specs.declared.lines.Stage.{Stage}
use Rattle.script_text.specs.declared.lines.Stage.TheVariants.{Raid, Devices, Rows, Order, Patience, Tries, Body, Turns, Ended}
use Rattle.script_text.specs.Forms.{Form, RaidLine, DevicesLine, RowsLine, ModeLine, PatienceLine, TriesLine, ObjectLine, HostLine, JobLine, TurnLine, EndLine, NoLine, form_at, words}
use Rattle.script_text.specs.Faults.{Said, after, are_names_right, fault_from, fault_in, fault_of, form_of, is_allowed, is_ended, is_in_range, judged, last_fault, line_fault, nothing_said, or_next, pieces}
use Rattle.script_text.specs.Beginnings.{BeginsScript, IsFirstBad, IsScriptText, ended}
use Rattle.script_text.proofs.Says.{line-words}
use Rattle.script_text.proofs.SaidLines.{said_lines}
use Rattle.script_text.proofs.StepKeeps.{Keeps, line-goes}
use Rattle.script_text.proofs.Reading.{fault-line, line-fault, pieces-last, pieces-line, pieces-some, read-none}
use Rattle.script_text.proofs.Complete.{text-no-fault}

-- the lines so far are the first of the script that they tell
said-first : (stage : Stage) (s : Script) → (more : List Words) × (script_lines s ≡ said_lines stage s ++ more)
said-first Raid s = (script_lines s, refl)
said-first Devices s = (_, refl)
said-first Rows s = (_, refl)
said-first Order s = (_, refl)
said-first Patience s = (_, refl)
said-first Tries s = (_, refl)
said-first Body s = ((codes "end" ∷ []) ∷ [], refl)
said-first Turns s = ((codes "end" ∷ []) ∷ [], refl)
said-first Ended s = ([], sym (append-nil (script_lines s)))

begins-said : (stage : Stage) (s : Script) (front : List ℕ) → IsScript s → flat_map line (said_lines stage s) ≡ front → BeginsScript front
unfolding script_text
begins-said stage s front i e =
    let parts = said-first stage s in
    let rest = flat_map line parts.0 in
    (rest, (s, i, ap (λ t. t ++ rest) (sym e) ∙ sym (flat_map-append line (said_lines stage s) parts.0) ∙ ap (λ ls. flat_map line ls) (sym parts.1)))

whole-said : (stage : Stage) (s : Script) (front : List ℕ) → IsScript s → flat_map line (said_lines stage s) ≡ front → stage ≡ Ended → IsScriptText front
unfolding script_text
whole-said stage s front i e ends = (s, i, sym e ∙ ap (λ x. flat_map line (said_lines x s)) ends)

ended-push : (before : List (List ℕ)) (text rest : List ℕ) → ended (before ++ text ∷ []) ++ rest ≡ ended before ++ (text ++ 10 ∷ rest)
ended-push before text rest =
    ap (λ t. t ++ rest) (flat_map-append (λ (l : List ℕ). l ++ 10 ∷ []) before (text ∷ []))
    ∙ append_assoc (ended before) ((text ++ 10 ∷ []) ++ []) rest
    ∙ ap (λ t. ended before ++ t) (ap (λ t. t ++ rest) (append-nil (text ++ 10 ∷ [])) ∙ append_assoc text (10 ∷ []) rest)

-- a text has no byte that ends a line, or a first one
abbrev Cut : List ℕ → Type 0
Cut text = IsLine text ⊎ ((front : List ℕ) × (behind : List ℕ) × IsLine front × (text ≡ front ++ 10 ∷ behind))

cut-behind : (byte : ℕ) (bytes : List ℕ) → byte ≢ 10 → Cut bytes → Cut (byte ∷ bytes)
cut-behind byte bytes n (inl h) = inl (All-cons (λ (b : ℕ). b ≢ 10) byte bytes n h)
cut-behind byte bytes n (inr c) = inr (byte ∷ c.0, c.1, All-cons (λ (b : ℕ). b ≢ 10) byte c.0 n c.2, ap (λ t. byte ∷ t) c.3)

cut-at : (byte : ℕ) (bytes : List ℕ) (b : Bool) → eqb byte 10 ≡ b → Cut bytes → Cut (byte ∷ bytes)
cut-at byte bytes true e c = inr ([], bytes, All-nil (λ (b : ℕ). b ≢ 10), ap (λ x. x ∷ bytes) (eqb-true byte 10 e))
cut-at byte bytes false e c = cut-behind byte bytes (λ same. cc (sym e ∙ ap (λ x. eqb x 10) same)) c

cut : (text : List ℕ) → Cut text
cut [] = inl (All-nil (λ (b : ℕ). b ≢ 10))
cut (byte ∷ bytes) = cut-at byte bytes (eqb byte 10) refl (cut bytes)

no-line-end : (front behind : List ℕ) → IsLine (front ++ 10 ∷ behind) → ⊥
no-line-end [] behind h = All-head (λ (b : ℕ). b ≢ 10) 10 behind h refl
no-line-end (byte ∷ front) behind h = no-line-end front behind (All-tail (λ (b : ℕ). b ≢ 10) byte (front ++ 10 ∷ behind) h)

-- these lines are read, and what is told of a text that goes on with them
record StandsAt (bytes : List ℕ) (said : Said) (number : ℕ) (before : List (List ℕ)) (rest : List ℕ) : Type 0 where
  keeps : Keeps said.stage said.script
  lines : All IsLine before
  count : number ≡ length before + 1
  text : bytes ≡ ended before ++ rest
  told : flat_map line (said_lines said.stage said.script) ≡ ended before
  reach : (tail : List ℕ) → fault_in (ended before ++ tail) ≡ fault_from said number (pieces tail)

line-here : (said : Said) (number : ℕ) (text behind : List ℕ) → IsLine text → fault_from said number (pieces (text ++ 10 ∷ behind)) ≡ or_next number (line_fault said text) (fault_from (after said.script (form_of said text)) (number + 1) (pieces behind))
line-here said number text behind h =
    ap (λ ps. fault_from said number ps) (pieces-line (text ++ 10 ∷ behind) text behind refl h) ∙ fault-line said number text (pieces behind) (pieces-some behind)

last-here : (said : Said) (number : ℕ) (text : List ℕ) → IsLine text → fault_from said number (pieces text) ≡ or_next number (last_fault said.stage text) None
last-here said number text h = ap (λ ps. fault_from said number ps) (pieces-last text h)

fine-line : (ended : Bool) (fault : Option Kind) → cond ended (Some Tail) fault ≡ None → fault ≡ None
fine-line true fault e = cc e
fine-line false fault e = e

-- one line more
stands-on : (bytes : List ℕ) (said : Said) (number : ℕ) (before : List (List ℕ)) (rest text behind : List ℕ) → StandsAt bytes said number before rest → rest ≡ text ++ 10 ∷ behind → IsLine text → line_fault said text ≡ None
    → StandsAt bytes (after said.script (form_of said text)) (number + 1) (before ++ text ∷ []) behind
stands-on bytes said number before rest text behind at e h fine =
    let s = said.script in
    let form = form_at said.stage s text in
    let on = line-goes said.stage s text at.keeps (fine-line (is_ended said.stage) (fault_of s form) fine) in
    let count = at.count in
    record {
      keeps = on.keeps;
      lines = All-push IsLine before text at.lines h;
      count = omega (arith, count, length-append before (text ∷ []));
      text = at.text ∙ ap (λ t. ended before ++ t) e ∙ sym (ended-push before text behind);
      told = ap (λ ls. flat_map line ls) on.lines ∙ flat_map-append line (said_lines said.stage s) (words text ∷ [])
          ∙ ap (λ t. flat_map line (said_lines said.stage s) ++ t) (append-nil (line (words text)) ∙ line-words text)
          ∙ ap (λ t. t ++ (text ++ 10 ∷ [])) at.told ∙ sym (ended-push before text []) ∙ append-nil (ended (before ++ text ∷ []));
      reach = λ tail. ap fault_in (ended-push before text tail) ∙ at.reach (text ++ 10 ∷ tail) ∙ line-here said number text tail h
          ∙ ap (λ k. or_next number k (fault_from (after s form) (number + 1) (pieces tail))) fine;
    }

-- no line with a fault goes on
bad-here : (bytes : List ℕ) (said : Said) (number : ℕ) (before : List (List ℕ)) (rest next : List ℕ) (kind : Kind) → StandsAt bytes said number before rest → IsLine next → line_fault said next ≡ Some kind → BeginsScript (ended (before ++ next ∷ [])) → ⊥
bad-here bytes said number before rest next kind at h fault b =
    let behind = b.0 in
    let found : fault_in (ended (before ++ next ∷ []) ++ behind) ≡ Some (number, kind) =
    ap fault_in (ended-push before next behind) ∙ at.reach (next ++ 10 ∷ behind) ∙ line-here said number next behind h
    ∙ ap (λ k. or_next number k (fault_from (after said.script (form_of said next)) (number + 1) (pieces behind))) fault in
    let none : None ≡ Some (number, kind) = sym (text-no-fault b.1.0 (ended (before ++ next ∷ []) ++ behind) b.1.1 b.1.2) ∙ found in
    cc none

-- before the end line there is no whole text
not-whole : (bytes : List ℕ) (said : Said) (number : ℕ) (before : List (List ℕ)) (rest : List ℕ) → StandsAt bytes said number before rest → last_fault said.stage [] ≡ Some End → IsScriptText (ended before) → ⊥
not-whole bytes said number before rest at fault w =
    let found : fault_in (ended before ++ []) ≡ Some (number, End) = at.reach [] ∙ last-here said number [] (All-nil (λ (b : ℕ). b ≢ 10)) ∙ ap (λ k. or_next number k None) fault in
    let none : None ≡ Some (number, End) = sym (text-no-fault w.0 (ended before) w.1 w.2) ∙ ap fault_in (sym (append-nil (ended before))) ∙ found in
    cc none

-- a line's own fault is neither of the end's
abbrev IsLineKind : Option Kind → Type 0
IsLineKind fault = (fault ≢ Some Tail) × (fault ≢ Some End)

judged-kind : (a b c : Bool) → IsLineKind (judged a b c)
judged-kind true true true = (λ e. cc e, λ e. cc e)
judged-kind true true false = (λ e. cc e, λ e. cc e)
judged-kind true false c = (λ e. cc e, λ e. cc e)
judged-kind false b c = (λ e. cc e, λ e. cc e)

fault-kind : (s : Script) (form : Form) → IsLineKind (fault_of s form)
fault-kind s NoLine = (λ e. cc e, λ e. cc e)
fault-kind s RaidLine = judged-kind true true true
fault-kind s (DevicesLine n) = judged-kind (is_in_range s (DevicesLine n)) true true
fault-kind s (RowsLine rows) = judged-kind (is_in_range s (RowsLine rows)) true true
fault-kind s (ModeLine mode) = judged-kind true true true
fault-kind s (PatienceLine patience) = judged-kind (is_in_range s (PatienceLine patience)) true true
fault-kind s (TriesLine tries) = judged-kind (is_in_range s (TriesLine tries)) true true
fault-kind s (ObjectLine name rows) = judged-kind (is_in_range s (ObjectLine name rows)) (are_names_right s (ObjectLine name rows)) true
fault-kind s (HostLine host) = judged-kind (is_in_range s (HostLine host)) true true
fault-kind s (JobLine quit work) = judged-kind (is_in_range s (JobLine quit work)) true (is_allowed s (JobLine quit work))
fault-kind s (TurnLine host moment) = judged-kind (is_in_range s (TurnLine host moment)) (are_names_right s (TurnLine host moment)) true
fault-kind s EndLine = judged-kind true true true

-- where the end line was, and where it was not
stage-both : (stage : Stage) → ((stage ≡ Ended) × (is_ended stage ≡ true)) ⊎ (is_ended stage ≡ false)
stage-both Ended = inl (refl, refl)
stage-both Raid = inr refl
stage-both Devices = inr refl
stage-both Rows = inr refl
stage-both Order = inr refl
stage-both Patience = inr refl
stage-both Tries = inr refl
stage-both Body = inr refl
stage-both Turns = inr refl

last-end : (stage : Stage) (text : List ℕ) → is_ended stage ≡ false → last_fault stage text ≡ Some End
last-end Ended text e = cc e
last-end Raid text e = refl
last-end Devices text e = refl
last-end Rows text e = refl
last-end Order text e = refl
last-end Patience text e = refl
last-end Tries text e = refl
last-end Body text e = refl
last-end Turns text e = refl

last-tail : (stage : Stage) (text : List ℕ) (kind : Kind) → stage ≡ Ended → last_fault stage text ≡ Some kind → kind ≡ Tail
last-tail Ended [] kind e f = cc f
last-tail Ended (byte ∷ bytes) kind e f = cc f
last-tail Raid text kind e f = cc e
last-tail Devices text kind e f = cc e
last-tail Rows text kind e f = cc e
last-tail Order text kind e f = cc e
last-tail Patience text kind e f = cc e
last-tail Tries text kind e f = cc e
last-tail Body text kind e f = cc e
last-tail Turns text kind e f = cc e

-- what the kind tells of the end
record Tells (kind : Kind) (before : List (List ℕ)) (rest : List ℕ) : Type 0 where
  tail : (kind ≡ Tail) ↔ IsScriptText (ended before)
  ends : (kind ≡ End) ↔ (IsLine rest × (kind ≢ Tail))

tells-tail : (kind : Kind) (before : List (List ℕ)) (rest : List ℕ) → kind ≡ Tail → IsScriptText (ended before) → Tells kind before rest
tells-tail kind before rest t w = record {
  tail = (λ e. w, λ h. t);
  ends = (λ e. absurd (cc (sym e ∙ t)), λ h. absurd (h.1 t));
}

tells-end : (kind : Kind) (before : List (List ℕ)) (rest : List ℕ) → kind ≡ End → IsLine rest → (IsScriptText (ended before) → ⊥) → Tells kind before rest
tells-end kind before rest e h w = record {
  tail = (λ t. absurd (cc (sym e ∙ t)), λ x. absurd (w x));
  ends = (λ x. (h, λ t. cc (sym e ∙ t)), λ x. e);
}

tells-line : (kind : Kind) (before : List (List ℕ)) (rest : List ℕ) → kind ≢ Tail → kind ≢ End → (IsLine rest → ⊥) → (IsScriptText (ended before) → ⊥) → Tells kind before rest
tells-line kind before rest t e h w = record {
  tail = (λ x. absurd (t x), λ x. absurd (w x));
  ends = (λ x. absurd (e x), λ x. absurd (h x.0));
}

last-tells : (bytes : List ℕ) (said : Said) (number : ℕ) (before : List (List ℕ)) (rest : List ℕ) (kind : Kind) → StandsAt bytes said number before rest → IsLine rest → last_fault said.stage rest ≡ Some kind
    → ((said.stage ≡ Ended) × (is_ended said.stage ≡ true)) ⊎ (is_ended said.stage ≡ false) → Tells kind before rest
last-tells bytes said number before rest kind at h f (inl e) =
    tells-tail kind before rest (last-tail said.stage rest kind e.0 f) (whole-said said.stage said.script (ended before) at.keeps.script at.told e.0)
last-tells bytes said number before rest kind at h f (inr e) =
    let same : Some End ≡ Some kind = sym (last-end said.stage rest e) ∙ f in
    tells-end kind before rest (cc same) h (not-whole bytes said number before rest at (last-end said.stage [] e))

line-tells : (bytes : List ℕ) (said : Said) (number : ℕ) (before : List (List ℕ)) (rest text behind : List ℕ) (kind : Kind) → StandsAt bytes said number before rest → rest ≡ text ++ 10 ∷ behind → line_fault said text ≡ Some kind
    → ((said.stage ≡ Ended) × (is_ended said.stage ≡ true)) ⊎ (is_ended said.stage ≡ false) → Tells kind before rest
line-tells bytes said number before rest text behind kind at e f (inl ends) =
    let same : Some Tail ≡ Some kind = sym (cond-true (is_ended said.stage) (Some Tail) (fault_of said.script (form_of said text)) ends.1) ∙ f in
    tells-tail kind before rest (cc same) (whole-said said.stage said.script (ended before) at.keeps.script at.told ends.0)
line-tells bytes said number before rest text behind kind at e f (inr going) =
    let own : fault_of said.script (form_of said text) ≡ Some kind = sym (line-fault said.stage said.script text going) ∙ f in
    let kinds = fault-kind said.script (form_of said text) in
    tells-line kind before rest (λ t. kinds.0 (own ∙ ap (λ k. Some k) t)) (λ t. kinds.1 (own ∙ ap (λ k. Some k) t))
    (λ h. no-line-end text behind (subst IsLine e h)) (not-whole bytes said number before rest at (last-end said.stage [] going))

bad-from : (bytes : List ℕ) (said : Said) (number found : ℕ) (before : List (List ℕ)) (rest : List ℕ) (kind : Kind) → StandsAt bytes said number before rest → number ≡ found
    → ((next more : List ℕ) → IsLine next → rest ≡ next ++ 10 ∷ more → line_fault said next ≡ Some kind) → Tells kind before rest → IsFirstBad found kind bytes
bad-from bytes said number found before rest kind at n f t = record {
  before = before;
  rest = rest;
  lines = at.lines;
  count = sym n ∙ at.count;
  text = at.text;
  begins = begins-said said.stage said.script (ended before) at.keeps.script at.told;
  bad = λ next more h e b. bad-here bytes said number before rest next kind at h (f next more h e) b;
  tail = t.tail;
  ends = t.ends;
}

same-line : (rest text behind next more : List ℕ) → IsLine text → IsLine next → rest ≡ text ++ 10 ∷ behind → rest ≡ next ++ 10 ∷ more → text ≡ next
same-line rest text behind next more h k e f =
    let same : text ∷ pieces behind ≡ next ∷ pieces more = sym (pieces-line rest text behind e h) ∙ pieces-line rest next more f k in
    cc same

place_of : Option (ℕ × Kind) → ℕ
place_of None = 0
place_of (Some fault) = fault.0

kind_of : Option (ℕ × Kind) → Kind
kind_of None = Shape
kind_of (Some fault) = fault.1

fault-here : (number : ℕ) (fault : Option Kind) (next : Option (ℕ × Kind)) (found : ℕ) (kind : Kind) → or_next number fault next ≡ Some (found, kind) → ((number ≡ found) × (fault ≡ Some kind)) ⊎ ((fault ≡ None) × (next ≡ Some (found, kind)))
unfolding place_of kind_of
fault-here number None next found kind e = inr (refl, e)
fault-here number (Some k) next found kind e = inl (ap place_of e, ap (λ o. Some (kind_of o)) e)

last-bad : (bytes : List ℕ) (said : Said) (number : ℕ) (before : List (List ℕ)) (rest : List ℕ) (found : ℕ) (kind : Kind) → StandsAt bytes said number before rest → IsLine rest → fault_from said number (pieces rest) ≡ Some (found, kind) → IsFirstBad found kind bytes
last-bad bytes said number before rest found kind at h e =
    by-place (fault-here number (last_fault said.stage rest) None found kind (sym (last-here said number rest h) ∙ e))
  where
    by-place : ((number ≡ found) × (last_fault said.stage rest ≡ Some kind)) ⊎ ((last_fault said.stage rest ≡ None) × ((let o : Option (ℕ × Kind) = None in o) ≡ Some (found, kind))) → IsFirstBad found kind bytes
    by-place (inl here) =
        bad-from bytes said number found before rest kind at here.0
        (λ next more k f. absurd (no-line-end next more (subst IsLine f h)))
        (last-tells bytes said number before rest kind at h here.1 (stage-both said.stage))
    by-place (inr later) = absurd (cc later.1)

line-bad : (bytes : List ℕ) (said : Said) (number : ℕ) (before : List (List ℕ)) (rest text behind : List ℕ) (found : ℕ) (kind : Kind) → StandsAt bytes said number before rest → IsLine text → rest ≡ text ++ 10 ∷ behind
    → number ≡ found → line_fault said text ≡ Some kind → IsFirstBad found kind bytes
line-bad bytes said number before rest text behind found kind at h e n f =
    bad-from bytes said number found before rest kind at n
    (λ next more k g. ap (line_fault said) (sym (same-line rest text behind next more h k e g)) ∙ f)
    (line-tells bytes said number before rest text behind kind at e f (stage-both said.stage))

-- at a line that is ended, where the next lines are known
line-or-next : (bytes : List ℕ) (said : Said) (number : ℕ) (before : List (List ℕ)) (rest text behind : List ℕ) (found : ℕ) (kind : Kind) → StandsAt bytes said number before rest → IsLine text → rest ≡ text ++ 10 ∷ behind
    → (StandsAt bytes (after said.script (form_of said text)) (number + 1) (before ++ text ∷ []) behind → fault_from (after said.script (form_of said text)) (number + 1) (pieces behind) ≡ Some (found, kind) → IsFirstBad found kind bytes)
    → ((number ≡ found) × (line_fault said text ≡ Some kind)) ⊎ ((line_fault said text ≡ None) × (fault_from (after said.script (form_of said text)) (number + 1) (pieces behind) ≡ Some (found, kind))) → IsFirstBad found kind bytes
line-or-next bytes said number before rest text behind found kind at h e on (inl here) = line-bad bytes said number before rest text behind found kind at h e here.0 here.1
line-or-next bytes said number before rest text behind found kind at h e on (inr later) = on (stands-on bytes said number before rest text behind at e h later.0) later.1

-- from here on, in a text shorter than the room
first-bad-in : (room : ℕ) (bytes : List ℕ) (said : Said) (number : ℕ) (before : List (List ℕ)) (rest : List ℕ) (found : ℕ) (kind : Kind) → length rest < room → StandsAt bytes said number before rest → Cut rest → fault_from said number (pieces rest) ≡ Some (found, kind) → IsFirstBad found kind bytes
first-bad-in zero bytes said number before rest found kind l at c e = absurd (omega (arith, l))
first-bad-in (suc room) bytes said number before rest found kind l at (inl h) e = last-bad bytes said number before rest found kind at h e
first-bad-in (suc room) bytes said number before rest found kind l at (inr c) e =
    let text = c.0 in
    let behind = c.1 in
    let said_next = after said.script (form_of said text) in
    let long = ap length c.3 ∙ length-append text (10 ∷ behind) in
    line-or-next bytes said number before rest text behind found kind at c.2 c.3
    (λ at_next f. first-bad-in room bytes said_next (number + 1) (before ++ text ∷ []) behind found kind (omega (arith, long, l)) at_next (cut behind) f)
    (fault-here number (line_fault said text) (fault_from said_next (number + 1) (pieces behind)) found kind (sym (line-here said number text behind c.2) ∙ ap (λ t. fault_from said number (pieces t)) (sym c.3) ∙ e))

pub first-bad : (bytes : List ℕ) (found : ℕ) (kind : Kind) → fault_in bytes ≡ Some (found, kind) → IsFirstBad found kind bytes
first-bad bytes found kind e =
    first-bad-in (length bytes + 1) bytes nothing_said 1 [] bytes found kind (omega arith)
    (record { keeps = (read-none bytes).keeps; lines = All-nil IsLine; count = refl; text = refl; told = refl; reach = λ tail. refl }) (cut bytes) e
