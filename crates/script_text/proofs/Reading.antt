-- Reading a text line by line.
use Rattle.std.proofs.Common.{◌≡◌, ◌≢◌, ℕ, ◌+◌, ◌*◌, ◌<◌, ◌≤◌, Bool, true, false, cond, eqb, List, [], ◌∷◌, ◌++◌, length, Option, Some, None, Result, Ok, Err, refl, sym, ap, ◌∙◌, arith, subst, lit<, lit≤}
use Rattle.std.specs.List.{All, flat_map, slice_split}
use Rattle.std.proofs.lemmas.Bool.{cond-true, cond-false, eq-eqb, ne_eqb}
use Rattle.std.proofs.lemmas.List.{append-nil, append_assoc, length-append}
use Rattle.std.proofs.lemmas.List.Concat.{flat_map-append}
use Rattle.std.proofs.lemmas.List.Elements.{All-weaker}
use Rattle.std.proofs.lemmas.List.Splits.{slice_split_at, slice_split_none, length-slice_split}
use Rattle.raid_base.specs.declared.messages.Mode.TheVariants.{Lock}
use Rattle.raid_base.specs.declared.status.Kind.{Kind}
use Rattle.raid_base.specs.declared.status.Kind.TheVariants.{Shape, End, Tail}
use Rattle.text_lines.specs.Lines.{IsLine, line}
use Rattle.script_text.specs.Script.{Script, HostJobs}
use Rattle.script_text.specs.Text.{Words, script_lines, script_text}
use Rattle.script_text.specs.Ranges.{IsScript}
use Rattle.script_text.specs.declared.lines.Stage.{Stage}
use Rattle.script_text.specs.declared.lines.Stage.TheVariants.{Raid, Devices, Rows, Order, Patience, Tries, Body, Turns, Ended}
use Rattle.script_text.specs.Forms.{Form, NoLine, form_at, object_or_job, words}
use Rattle.script_text.specs.Faults.{Said, after, fault_from, fault_in, fault_of, form_of, is_ended, last_fault, least_script, line_fault, nothing_said, or_next, pieces}
use Rattle.script_text.specs.Steps.{FaultIs, Steps, fault_at}
use Rattle.script_text.specs.declared.lines.LineFault.{LineFault}
use Rattle.script_text.specs.declared.lines.LineFault.TheVariants.{Bad as BadLine, NoMemory as NoMemoryLine}
use Rattle.script_text.specs.declared.read.ScriptFault.{ScriptFault}
use Rattle.script_text.specs.declared.read.ScriptFault.TheVariants.{Bad}
use Rattle.script_text.proofs.Says.{line-words}
use Rattle.script_text.proofs.BlockRoom.{blocks-room}
use Rattle.script_text.proofs.Keeps.{head-is-script}
use Rattle.script_text.proofs.SaidLines.{said_lines}
use Rattle.script_text.proofs.StepKeeps.{Keeps, line-goes}

not-end : (text : List ℕ) → IsLine text → All (λ (byte : ℕ). eqb byte 10 ≡ false) text
not-end text h = All-weaker (λ (byte : ℕ). byte ≢ 10) (λ (byte : ℕ). eqb byte 10 ≡ false) (λ byte n. ne_eqb byte 10 n) text h

pub pieces-line : (left text rest : List ℕ) → left ≡ text ++ 10 ∷ rest → IsLine text → pieces left ≡ text ∷ pieces rest
pieces-line left text rest e h = ap pieces e ∙ slice_split_at (λ (byte : ℕ). eqb byte 10) text 10 rest (not-end text h) refl

pub pieces-last : (left : List ℕ) → IsLine left → pieces left ≡ left ∷ []
pieces-last left h = slice_split_none (λ (byte : ℕ). eqb byte 10) left (not-end left h)

pub pieces-some : (text : List ℕ) → 0 < length (pieces text)
pieces-some text = omega (arith, length-slice_split (λ (byte : ℕ). eqb byte 10) text)

pub fault-line : (said : Said) (number : ℕ) (text : List ℕ) (more : List (List ℕ)) → 0 < length more → fault_from said number (text ∷ more) ≡ or_next number (line_fault said text) (fault_from (after said.script (form_of said text)) (number + 1) more)
fault-line said number text [] l = absurd (omega arith)
fault-line said number text (next ∷ more) l = refl

-- an empty line has no form
empty-in : (s : Script) (hosts : List HostJobs) → object_or_job hosts (words []) ≡ NoLine
empty-in s [] = refl
empty-in s (host ∷ hosts) = refl

empty-line : (stage : Stage) (s : Script) → form_at stage s [] ≡ NoLine
empty-line Raid s = refl
empty-line Devices s = refl
empty-line Rows s = refl
empty-line Order s = refl
empty-line Patience s = refl
empty-line Tries s = refl
empty-line Body s = empty-in s s.hosts
empty-line Turns s = refl
empty-line Ended s = refl

some-text : (stage : Stage) (s : Script) (text : List ℕ) → fault_of s (form_at stage s text) ≡ None → 0 < length text
some-text stage s [] e = let shape : fault_of s (form_at stage s []) ≡ Some Shape = ap (fault_of s) (empty-line stage s) in absurd (cc (sym shape ∙ e))
some-text stage s (byte ∷ text) e = omega arith

abbrev said_at : Stage → Script → Said
said_at stage s = record { stage = stage; script = s }

-- so much of the text is read, and this is left
pub record IsReadTo (bytes : List ℕ) (stage : Stage) (s : Script) (number : ℕ) (left : List ℕ) : Type 0 where
  pub keeps : Keeps stage s
  pub text : bytes ≡ flat_map line (said_lines stage s) ++ left
  pub faults : fault_in bytes ≡ fault_from (said_at stage s) number (pieces left)
  pub counted : 2 * number + length left ≤ length bytes + 2
  pub blocks : length s.blocks + length left ≤ length bytes

pub read-none : (bytes : List ℕ) → IsReadTo bytes Raid (least_script 3 1) 1 bytes
read-none bytes = record {
  keeps = record { script = head-is-script 3 1 Lock 0 1 (lit≤ tt) (lit≤ tt) (lit≤ tt) (lit≤ tt) (lit< tt) (lit≤ tt) (lit≤ tt); fresh = refl };
  text = refl;
  faults = refl;
  counted = omega arith;
  blocks = omega arith;
}

-- what is told of a line that is not the one behind the end
pub line-fault : (stage : Stage) (s : Script) (text : List ℕ) → is_ended stage ≡ false → line_fault (said_at stage s) text ≡ fault_of s (form_at stage s text)
line-fault stage s text e = cond-false _ _ _ e

told : (bytes : List ℕ) (stage : Stage) (s : Script) (number : ℕ) (left text rest : List ℕ) → IsReadTo bytes stage s number left → left ≡ text ++ 10 ∷ rest → IsLine text
    → fault_in bytes ≡ or_next number (line_fault (said_at stage s) text) (fault_from (after s (form_at stage s text)) (number + 1) (pieces rest))
told bytes stage s number left text rest r e h = r.faults ∙ ap (λ ps. fault_from (said_at stage s) number ps) (pieces-line left text rest e h) ∙ fault-line (said_at stage s) number text (pieces rest) (pieces-some rest)

-- one more line is read
pub read-line : (bytes : List ℕ) (stage next : Stage) (s later : Script) (number : ℕ) (left text rest : List ℕ) → IsReadTo bytes stage s number left → is_ended stage ≡ false → left ≡ text ++ 10 ∷ rest → IsLine text
    → fault_of s (form_at stage s text) ≡ None → after s (form_at stage s text) ≡ said_at next later → IsReadTo bytes next later (number + 1) rest
read-line bytes stage next s later number left text rest r n e h fine goes =
    let form = form_at stage s text in
    let on = line-goes stage s text r.keeps fine in
    let some = some-text stage s text fine in
    let room = blocks-room stage s text in
    let long = ap length e ∙ length-append text (10 ∷ rest) in
    let counted = r.counted in
    let blocks = r.blocks in
    let same_blocks : length (after s form).script.blocks ≡ length later.blocks = ap (λ (said : Said). length said.script.blocks) goes in
    record {
      keeps = subst (λ (said : Said). Keeps said.stage said.script) goes on.keeps;
      text = r.text ∙ ap (λ t. flat_map line (said_lines stage s) ++ t) (e ∙ sym (append_assoc text (10 ∷ []) rest) ∙ ap (λ t. t ++ rest) (sym (line-words text)))
          ∙ sym (append_assoc (flat_map line (said_lines stage s)) (line (words text)) rest)
          ∙ ap (λ t. t ++ rest) (ap (λ t. flat_map line (said_lines stage s) ++ t) (sym (append-nil (line (words text)))) ∙ sym (flat_map-append line (said_lines stage s) (words text ∷ [])) ∙ ap (λ ls. flat_map line ls) (sym on.lines))
          ∙ ap (λ (said : Said). flat_map line (said_lines said.stage said.script) ++ rest) goes;
      faults = told bytes stage s number left text rest r e h ∙ ap (λ k. or_next number k (fault_from (after s form) (number + 1) (pieces rest))) (line-fault stage s text n ∙ fine) ∙ ap (λ said. fault_from said (number + 1) (pieces rest)) goes;
      counted = omega (arith, counted, long, some);
      blocks = omega (arith, blocks, long, room, same_blocks);
    }

pub bad-line : (bytes : List ℕ) (stage : Stage) (s : Script) (number : ℕ) (left text rest : List ℕ) (kind : Kind) → IsReadTo bytes stage s number left → is_ended stage ≡ false → left ≡ text ++ 10 ∷ rest → IsLine text
    → fault_of s (form_at stage s text) ≡ Some kind → fault_in bytes ≡ Some (number, kind)
bad-line bytes stage s number left text rest kind r n e h fault =
    told bytes stage s number left text rest r e h ∙ ap (λ k. or_next number k (fault_from (after s (form_at stage s text)) (number + 1) (pieces rest))) (line-fault stage s text n ∙ fault)

pub tail-line : (bytes : List ℕ) (stage : Stage) (s : Script) (number : ℕ) (left text rest : List ℕ) → IsReadTo bytes stage s number left → is_ended stage ≡ true → left ≡ text ++ 10 ∷ rest → IsLine text
    → fault_in bytes ≡ Some (number, Tail)
tail-line bytes stage s number left text rest r n e h =
    told bytes stage s number left text rest r e h ∙ ap (λ k. or_next number k (fault_from (after s (form_at stage s text)) (number + 1) (pieces rest))) (cond-true (is_ended stage) _ _ n)

last-told : (bytes : List ℕ) (stage : Stage) (s : Script) (number : ℕ) (left : List ℕ) → IsReadTo bytes stage s number left → IsLine left → fault_in bytes ≡ or_next number (last_fault stage left) None
last-told bytes stage s number left r h = r.faults ∙ ap (λ ps. fault_from (said_at stage s) number ps) (pieces-last left h)

end-in : (stage : Stage) (left : List ℕ) → is_ended stage ≡ false → last_fault stage left ≡ Some End
end-in Raid left e = refl
end-in Devices left e = refl
end-in Rows left e = refl
end-in Order left e = refl
end-in Patience left e = refl
end-in Tries left e = refl
end-in Body left e = refl
end-in Turns left e = refl
end-in Ended left e = cc e

pub bad-end : (bytes : List ℕ) (stage : Stage) (s : Script) (number : ℕ) (left : List ℕ) → IsReadTo bytes stage s number left → IsLine left → is_ended stage ≡ false → fault_in bytes ≡ Some (number, End)
bad-end bytes stage s number left r h e = last-told bytes stage s number left r h ∙ ap (λ k. or_next number k None) (end-in stage left e)

tail-in : (stage : Stage) (left : List ℕ) → is_ended stage ≡ true → 0 < length left → last_fault stage left ≡ Some Tail
tail-in Ended [] e l = absurd (omega arith)
tail-in Ended (byte ∷ bytes) e l = refl
tail-in Raid left e l = cc e
tail-in Devices left e l = cc e
tail-in Rows left e l = cc e
tail-in Order left e l = cc e
tail-in Patience left e l = cc e
tail-in Tries left e l = cc e
tail-in Body left e l = cc e
tail-in Turns left e l = cc e

pub bad-tail : (bytes : List ℕ) (stage : Stage) (s : Script) (number : ℕ) (left : List ℕ) → IsReadTo bytes stage s number left → IsLine left → is_ended stage ≡ true → 0 < length left → fault_in bytes ≡ Some (number, Tail)
bad-tail bytes stage s number left r h e l = last-told bytes stage s number left r h ∙ ap (λ k. or_next number k None) (tail-in stage left e l)

whole-in : (bytes : List ℕ) (stage : Stage) (s : Script) (number : ℕ) (left : List ℕ) → is_ended stage ≡ true → left ≡ [] → IsReadTo bytes stage s number left → IsScript s × (bytes ≡ script_text s)
unfolding script_text
whole-in bytes Ended s number left e n r = (r.keeps.script, r.text ∙ ap (λ t. flat_map line (script_lines s) ++ t) n ∙ append-nil (flat_map line (script_lines s)))
whole-in bytes Raid s number left e n r = cc e
whole-in bytes Devices s number left e n r = cc e
whole-in bytes Rows s number left e n r = cc e
whole-in bytes Order s number left e n r = cc e
whole-in bytes Patience s number left e n r = cc e
whole-in bytes Tries s number left e n r = cc e
whole-in bytes Body s number left e n r = cc e
whole-in bytes Turns s number left e n r = cc e

no-bytes : (left : List ℕ) → length left ≡ 0 → left ≡ []
no-bytes [] e = refl
no-bytes (byte ∷ bytes) e = absurd (omega arith)

pub read-whole : (bytes : List ℕ) (stage : Stage) (s : Script) (number : ℕ) (left : List ℕ) → is_ended stage ≡ true → length left ≡ 0 → IsReadTo bytes stage s number left → IsScript s × (bytes ≡ script_text s)
read-whole bytes stage s number left e n r = whole-in bytes stage s number left e (no-bytes left n) r

-- what a fault tells
pub bad-told : {A : Type 0} (bytes : List ℕ) (number : ℕ) (kind : Kind) → fault_in bytes ≡ Some (number, kind) → (other : ℕ) (another : Kind) → (let r : Result A ScriptFault = Err (Bad number kind) in r ≡ Err (Bad other another)) → fault_in bytes ≡ Some (other, another)
bad-told bytes number kind f other another e =
    let numbers : number ≡ other = cc in
    let kinds : kind ≡ another = cc in
    f ∙ ap (λ n. Some (n, kind)) numbers ∙ ap (λ k. Some (other, k)) kinds

told-in : {A : Type 0} (bytes : List ℕ) (number : ℕ) (s : Script) (form : Form) (fault : LineFault) → FaultIs s form fault → ((kind : Kind) → fault_of s form ≡ Some kind → fault_in bytes ≡ Some (number, kind))
    → (other : ℕ) (another : Kind) → (let r : Result A ScriptFault = Err (fault_at number fault) in r ≡ Err (Bad other another)) → fault_in bytes ≡ Some (other, another)
told-in {A} bytes number s form (BadLine kind) f in_bytes other another e = bad-told {A = A} bytes number kind (in_bytes kind f) other another e
told-in bytes number s form NoMemoryLine f in_bytes other another e = cc e

pub line-told : {A : Type 0} (bytes : List ℕ) (number : ℕ) (s later : Script) (form : Form) (fault : LineFault) (r : Result Stage LineFault) (answer : ScriptFault) → Steps s later r form → r ≡ Err fault → answer ≡ fault_at number fault
    → ((kind : Kind) → fault_of s form ≡ Some kind → fault_in bytes ≡ Some (number, kind))
    → (other : ℕ) (another : Kind) → (let q : Result A ScriptFault = Err answer in q ≡ Err (Bad other another)) → fault_in bytes ≡ Some (other, another)
line-told {A} bytes number s later form fault r answer st e t in_bytes other another q =
    let at : Steps s later (Err fault) form = subst (λ (x : Result Stage LineFault). Steps s later x form) e st in
    let same : (let r : Result A ScriptFault = Err (fault_at number fault) in r ≡ Err (Bad other another)) = ap (λ x. Err x) (sym t) ∙ q in
    told-in {A = A} bytes number s form fault at in_bytes other another same

pub steps-fine : (old later : Script) (r : Result Stage LineFault) (form : Form) (next : Stage) → Steps old later r form → r ≡ Ok next → (fault_of old form ≡ None) × (after old form ≡ said_at next later)
steps-fine old later r form next s e = let at : Steps old later (Ok next) form = subst (λ (x : Result Stage LineFault). Steps old later x form) e s in at
