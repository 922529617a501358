-- What words are where a line has a form.
use Rattle.std.proofs.Common.{◌≡◌, ℕ, ◌+◌, ◌-◌, ◌^◌, ◌<◌, ◌≤◌, min, Bool, true, false, ◌&&◌, cond, eqb, ltb, List, [], ◌∷◌, ◌++◌, length, map, Option, Some, None, refl, sym, ap, ◌∙◌, arith, subst, decimal}
use Rattle.std.specs.Prelude.{codes}
use Rattle.std.proofs.lemmas.List.Elements.{All-nil, All-cons}
use Rattle.std.specs.List.{All, flat_map, list_all, slice_split, join_with_byte}
use Rattle.std.proofs.lemmas.Bool.{and_parts, cond_both, ltb-true}
use Rattle.std.proofs.lemmas.List.{append-nil}
use Rattle.std.proofs.lemmas.List.Splits.{join_with_byte-slice_split}
use Rattle.std.proofs.lemmas.Slice.Eq.{bytes_eq-Decides}
use Rattle.raid_base.specs.declared.numbers.RowNo.{RowNo}
use Rattle.raid_base.specs.Names.{is_name, is_text}
use Rattle.text_lines.specs.Blocks.{IsBlock, block_text}
use Rattle.text_lines.specs.Lines.{joined, line, spaced}
use Rattle.text_lines.specs.Numbers.{is_number, number_of}
use Rattle.text_lines.proofs.NumberLemmas.{text_of_read}
use Rattle.script_text.specs.Forms.{Form, NoLine, ObjectLine, Work, Reads, Writes, Recovers, Loses, Fits, Rebuilds, block_of, is_block, labelled, number, object_form, pair, only_number, read_work, two_numbers, value, with_number, with_numbers, words, work_of, write_work}
use Rattle.script_text.specs.Faults.{row_numbers}
use Rattle.script_text.proofs.WordTexts.{block-of-word, words-some}

-- words joined are the text that they are the words of
join-is : (words : List (List ℕ)) → joined words ≡ join_with_byte 32 words
join-is [] = refl
join-is (word ∷ []) = append-nil word
join-is (word ∷ next ∷ more) = ap (λ t. word ++ (32 ∷ t)) (join-is (next ∷ more))

pub joined-words : (text : List ℕ) → joined (words text) ≡ text
joined-words text = join-is (words text) ∙ join_with_byte-slice_split 32 text

pub line-words : (text : List ℕ) → line (words text) ≡ text ++ 10 ∷ []
line-words text = ap (λ t. t ++ (10 ∷ [])) (joined-words text)

pub text-is : (a b : List ℕ) → is_text a b ≡ true → a ≡ b
text-is a b h = (bytes_eq-Decides a b).0 h

-- a number's word, where it is in some range
pub value-is : (word : List ℕ) → is_number word ≡ true → value word < 2 ^ 64 - 1 → word ≡ decimal (value word)
value-is word h l = text_of_read word (value word) (2 ^ 64 - 1) (omega arith) h refl l

pub number-says : (word : List ℕ) (P : Option ℕ → Type 0) → P None → (is_number word ≡ true → P (Some (value word))) → P (number word)
number-says word P none some = cond_both (is_number word) _ _ P some (λ e. none)

pub only-says : (words : List (List ℕ)) (P : Option ℕ → Type 0) → P None → ((w : List ℕ) → words ≡ w ∷ [] → is_number w ≡ true → P (Some (value w))) → P (only_number words)
only-says [] P none some = none
only-says (w ∷ []) P none some = cond_both (is_number w) _ _ P (λ e. some w refl e) (λ e. none)
only-says (w ∷ v ∷ more) P none some = none

two-in : (v : List ℕ) (words : List (List ℕ)) (b : Bool) (P : Option (ℕ × ℕ) → Type 0) → is_number v ≡ b → P None
    → ((w : List ℕ) → words ≡ w ∷ [] → is_number v ≡ true → is_number w ≡ true → P (Some (value v, value w))) → P (two_numbers (v ∷ words))
two-in v words false P e none some = rw e none
two-in v words true P e none some = rw e (only-says words (λ (o : Option ℕ). P (pair (Some (value v)) o)) none (λ w h n. some w h e n))

pub two-says : (words : List (List ℕ)) (P : Option (ℕ × ℕ) → Type 0) → P None
    → ((v w : List ℕ) → words ≡ v ∷ w ∷ [] → is_number v ≡ true → is_number w ≡ true → P (Some (value v, value w))) → P (two_numbers words)
two-says [] P none some = none
two-says (v ∷ words) P none some = two-in v words _ P refl none (λ w h n m. some v w (ap (λ ws. v ∷ ws) h) n m)

-- a label and a number
pub labelled-says : (label : List ℕ) (make : ℕ → Form) (words : List (List ℕ)) (P : Form → Type 0) → P NoLine
    → ((w : List ℕ) → words ≡ label ∷ w ∷ [] → is_number w ≡ true → P (make (value w))) → P (labelled label make words)
labelled-says label make [] P none some = none
labelled-says label make (word ∷ rest) P none some =
    cond_both (is_text word label) _ _ P
    (λ t. only-says rest (λ (o : Option ℕ). P (with_number NoLine make o)) none (λ w h n. some w (ap (λ x. x ∷ rest) (text-is word label t) ∙ ap (λ ws. label ∷ ws) h) n))
    (λ t. none)

-- words that are all numbers in a range are the texts of these
pub rows-are : (words : List (List ℕ)) (end : ℕ) → end ≤ 2 ^ 16 → list_all is_number words ≡ true → list_all (λ (row : ℕ). ltb row end) (map value words) ≡ true → words ≡ map (λ (row : RowNo). decimal row.0) (row_numbers (map value words))
rows-are [] end l n r = refl
rows-are (word ∷ words) end l n r =
    let ns = and_parts (is_number word) _ n in
    let rs = and_parts (ltb (value word) end) _ r in
    let low : value word < end = ltb-true _ _ rs.0 in
    ap (λ w. w ∷ words) (value-is word ns.0 (omega arith)) ∙ ap (λ ws. decimal (value word) ∷ ws) (rows-are words end l ns.1 rs.1)

-- words that are all blocks are the texts of these
pub blocks-are : (words : List (List ℕ)) → list_all is_block words ≡ true → (words ≡ map block_text (map block_of words)) × All IsBlock (map block_of words)
blocks-are [] h = (refl, All-nil IsBlock)
blocks-are (word ∷ words) h =
    let parts = and_parts (is_block word) _ h in
    let here = block-of-word word parts.0 in
    let more = blocks-are words parts.1 in
    (ap (λ w. w ∷ words) here.1 ∙ ap (λ ws. block_text (block_of word) ∷ ws) more.0, All-cons IsBlock (block_of word) (map block_of words) here.0 more.1)

-- an object's line
pub object-says : (words : List (List ℕ)) (P : Form → Type 0) → P NoLine
    → ((name : List ℕ) (rows : List (List ℕ)) → words ≡ codes "object" ∷ name ∷ rows → is_name name ≡ true → 0 < length rows → list_all is_number rows ≡ true → P (ObjectLine name (map value rows))) → P (object_form words)
object-says [] P none some = none
object-says (word ∷ []) P none some = none
object-says (word ∷ name ∷ rows) P none some =
    cond_both (is_text word (codes "object") && is_name name && ltb 0 (length rows) && list_all is_number rows) _ _ P
    (λ e.
    let a = and_parts _ _ e in
    let b = and_parts _ _ a.0 in
    let c = and_parts _ _ b.0 in
    some name rows (ap (λ w. w ∷ name ∷ rows) (text-is word (codes "object") c.0)) c.1 (ltb-true _ _ b.1) a.1)
    (λ e. none)

-- the words of a job's work, which is a read, a write, or a number
pub record Spells (word : List ℕ) (rest : List (List ℕ)) (P : Option Work → Type 0) : Type 0 where
  pub none : P None
  pub reads : (name v w : List ℕ) → word ≡ codes "read" → rest ≡ name ∷ v ∷ w ∷ [] → is_name name ≡ true → is_number v ≡ true → is_number w ≡ true → P (Some (Reads name (value v) (value w)))
  pub writes : (name v : List ℕ) (blocks : List (List ℕ)) → word ≡ codes "write" → rest ≡ name ∷ v ∷ blocks → is_name name ≡ true → is_number v ≡ true → 0 < length blocks → list_all is_block blocks ≡ true → P (Some (Writes name (value v) blocks))
  pub recovers : (w : List ℕ) → word ≡ codes "recover" → rest ≡ w ∷ [] → is_number w ≡ true → P (Some (Recovers (value w)))
  pub loses : (w : List ℕ) → word ≡ codes "lose" → rest ≡ w ∷ [] → is_number w ≡ true → P (Some (Loses (value w)))
  pub fits : (w : List ℕ) → word ≡ codes "fit" → rest ≡ w ∷ [] → is_number w ≡ true → P (Some (Fits (value w)))
  pub rebuilds : (w : List ℕ) → word ≡ codes "rebuild" → rest ≡ w ∷ [] → is_number w ≡ true → P (Some (Rebuilds (value w)))

reads-in : (word : List ℕ) (rest : List (List ℕ)) (P : Option Work → Type 0) → Spells word rest P → word ≡ codes "read" → P (read_work rest)
reads-in word [] P s e = s.none
reads-in word (name ∷ rest) P s e =
    cond_both (is_name name) _ _ P
    (λ n. two-says rest (λ (o : Option (ℕ × ℕ)). P (with_numbers None (λ first count. Some (Reads name first count)) o)) s.none
    (λ v w h a b. s.reads name v w e (ap (λ ws. name ∷ ws) h) n a b))
    (λ n. s.none)

writes-in : (word : List ℕ) (rest : List (List ℕ)) (P : Option Work → Type 0) → Spells word rest P → word ≡ codes "write" → P (write_work rest)
writes-in word [] P s e = s.none
writes-in word (name ∷ []) P s e = s.none
writes-in word (name ∷ v ∷ blocks) P s e =
    cond_both (is_name name && is_number v && ltb 0 (length blocks) && list_all is_block blocks) _ _ P
    (λ h.
    let a = and_parts _ _ h in
    let b = and_parts _ _ a.0 in
    let c = and_parts _ _ b.0 in
    s.writes name v blocks e refl c.0 c.1 (ltb-true _ _ b.1) a.1)
    (λ h. s.none)

pub work-says : (word : List ℕ) (rest : List (List ℕ)) (P : Option Work → Type 0) → Spells word rest P → P (work_of word rest)
work-says word rest P s =
    let numbered : (make : ℕ → Work) → ((w : List ℕ) → rest ≡ w ∷ [] → is_number w ≡ true → P (Some (make (value w)))) → P (with_number None (λ n. Some (make n)) (only_number rest)) =
    λ make some. only-says rest (λ (o : Option ℕ). P (with_number None (λ n. Some (make n)) o)) s.none some in
    cond_both (is_text word (codes "read")) _ _ P (λ t. reads-in word rest P s (text-is word (codes "read") t)) (λ t.
    cond_both (is_text word (codes "write")) _ _ P (λ t. writes-in word rest P s (text-is word (codes "write") t)) (λ t.
    cond_both (is_text word (codes "recover")) _ _ P (λ t. numbered (λ n. Recovers n) (λ w h n. s.recovers w (text-is word (codes "recover") t) h n)) (λ t.
    cond_both (is_text word (codes "lose")) _ _ P (λ t. numbered (λ n. Loses n) (λ w h n. s.loses w (text-is word (codes "lose") t) h n)) (λ t.
    cond_both (is_text word (codes "fit")) _ _ P (λ t. numbered (λ n. Fits n) (λ w h n. s.fits w (text-is word (codes "fit") t) h n)) (λ t.
    cond_both (is_text word (codes "rebuild")) _ _ P (λ t. numbered (λ n. Rebuilds n) (λ w h n. s.rebuilds w (text-is word (codes "rebuild") t) h n)) (λ t. s.none))))))
