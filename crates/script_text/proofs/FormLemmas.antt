-- The forms of words.
use Rattle.std.proofs.Common.{◌≡◌, ℕ, ◌<◌, Bool, true, false, ◌&&◌, List, [], ◌∷◌, ltb, length, map, Option, Some, None, Result, refl, subst, sym, ap, ◌∙◌, arith}
use Rattle.std.specs.Prelude.{codes}
use Rattle.std.specs.Borrow.{Bor}
use Rattle.std.specs.List.{list_all}
use Rattle.std.proofs.lemmas.Bool.{and_from, cond-true, cond-false, lt-ltb}
use Rattle.raid_base.specs.Names.{is_name, is_text}
use Rattle.text_lines.specs.Numbers.{is_number}
use Rattle.script_text.specs.Script.{Script}
use Rattle.script_text.specs.declared.lines.Stage.{Stage}
use Rattle.script_text.specs.declared.lines.LineFault.{LineFault}
use Rattle.script_text.specs.Steps.{Steps}
use Rattle.script_text.specs.Forms.{Form, HostLine, ObjectLine, NoLine, TurnLine, Work, Writes, end_form, host_form, only_number, turn_form, two_numbers, with_number, with_numbers, words_behind, is_block, job_of, object_form, quit_form, value, words, work_of, write_work}
use Rattle.script_text.proofs.WordTexts.{words-some}

pub write-is : (name first : List ℕ) (text : List ℕ) → is_name name ≡ true → is_number first ≡ true → list_all is_block (words text) ≡ true → write_work (name ∷ first ∷ words text) ≡ Some (Writes name (value first) (words text))
write-is name first text n f b = cond-true _ _ _ (and_from _ _ (and_from _ _ (and_from _ _ n f) (lt-ltb _ _ (words-some text))) b)

pub object-is : (word name text : List ℕ) → is_text word (codes "object") ≡ true → is_name name ≡ true → list_all is_number (words text) ≡ true → object_form (word ∷ name ∷ words text) ≡ ObjectLine name (map value (words text))
object-is word name text w n b = cond-true _ _ _ (and_from _ _ (and_from _ _ (and_from _ _ w n) (lt-ltb _ _ (words-some text))) b)

pub quit-none : (requests word : List ℕ) (more : List (List ℕ)) → is_number requests ≡ false → quit_form (requests ∷ word ∷ more) ≡ NoLine
quit-none requests word more e = cond-false _ _ _ e

pub quit-is : (requests word : List ℕ) (more : List (List ℕ)) → is_number requests ≡ true → quit_form (requests ∷ word ∷ more) ≡ job_of (Some (value requests)) (work_of word more)
quit-is requests word more e = cond-true _ _ _ e

pub object-words : (line : List ℕ) (rest b : Option (Bor (List ℕ))) (t w v x : Bor (List ℕ)) → words line ≡ w.now ∷ words_behind rest → rest ≡ Some t → words t.now ≡ v.now ∷ words_behind b → b ≡ Some x
    → is_text w.now (codes "object") ≡ true → is_name v.now ≡ true → list_all is_number (words x.now) ≡ true → object_form (words line) ≡ ObjectLine v.now (map value (words x.now))
object-words line rest b t w v x l r tw bx o n all =
    ap object_form (l ∙ ap (λ y. w.now ∷ words_behind y) r ∙ ap (λ y. w.now ∷ y) tw ∙ ap (λ y. w.now ∷ v.now ∷ words_behind y) bx) ∙ object-is w.now v.now x.now o n all

-- the lines of a body and of turns, by their first word
pub turn-line : (line : List ℕ) (w : Bor (List ℕ)) (rest : Option (Bor (List ℕ))) (other : Form) → words line ≡ w.now ∷ words_behind rest → is_text w.now (codes "turn") ≡ true → with_numbers NoLine TurnLine (two_numbers (words_behind rest)) ≡ turn_form (words line) other
turn-line line w rest other l t = sym (ap (λ ws. turn_form ws other) l ∙ cond-true _ _ _ t)

pub end-line : (line : List ℕ) (w : Bor (List ℕ)) (rest : Option (Bor (List ℕ))) (other : Form) → words line ≡ w.now ∷ words_behind rest → is_text w.now (codes "turn") ≡ false → is_text w.now (codes "end") ≡ true → end_form (words_behind rest) ≡ turn_form (words line) other
end-line line w rest other l t e = sym (ap (λ ws. turn_form ws other) l ∙ cond-false _ _ _ t ∙ cond-true _ _ _ e)

pub other-line : (line : List ℕ) (w : Bor (List ℕ)) (rest : Option (Bor (List ℕ))) (other : Form) → words line ≡ w.now ∷ words_behind rest → is_text w.now (codes "turn") ≡ false → is_text w.now (codes "end") ≡ false → other ≡ turn_form (words line) other
other-line line w rest other l t e = sym (ap (λ ws. turn_form ws other) l ∙ cond-false _ _ _ t ∙ cond-false _ _ _ e)

pub host-line : (line : List ℕ) (w : Bor (List ℕ)) (rest : Option (Bor (List ℕ))) (other : Form) → words line ≡ w.now ∷ words_behind rest → is_text w.now (codes "host") ≡ true → with_number NoLine HostLine (only_number (words_behind rest)) ≡ host_form (words line) other
host-line line w rest other l h = sym (ap (λ ws. host_form ws other) l ∙ cond-true _ _ _ h)

pub no-host-line : (line : List ℕ) (w : Bor (List ℕ)) (rest : Option (Bor (List ℕ))) (other : Form) → words line ≡ w.now ∷ words_behind rest → is_text w.now (codes "host") ≡ false → other ≡ host_form (words line) other
no-host-line line w rest other l h = sym (ap (λ ws. host_form ws other) l ∙ cond-false _ _ _ h)

pub steps-along : (old later : Script) (r : Result Stage LineFault) (f g : Form) → Steps old later r f → f ≡ g → Steps old later r g
steps-along old later r f g s e = subst (λ (form : Form). Steps old later r form) e s
