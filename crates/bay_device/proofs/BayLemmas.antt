-- What a bay keeps from ask to ask, and what it shows.
use Rattle.std.proofs.Common.{◌≡◌, ◌∙◌, ℕ, ◌+◌, ◌-◌, ◌<◌, ◌≤◌, Result, Ok, Err, OnOk, is_err, Bool, true, false, if◌then◌else◌, List, [], ◌∷◌, ◌++◌, length, drop, slice_index_or, slice_set, Option, Some, None, is_some, is_none, refl, ap, sym, subst, arith}
use Rattle.std.proofs.lemmas.List.{get_or_default, drop-drop, drop-set-lt}
use Rattle.raid_base.specs.declared.cells.Cell.{Cell}
use Rattle.raid_base.specs.declared.messages.Ask.{Ask}
use Rattle.raid_base.specs.declared.messages.Entry.{Entry}
use Rattle.raid_base.specs.declared.messages.Reply.{Reply}
use Rattle.raid_base.specs.declared.numbers.RowNo.{RowNo}
use Rattle.raid_base.specs.Cells.{zeros}
use Rattle.raid_base.specs.Counts.{HasCause}
use Rattle.raid_base.specs.Fits.{fits}
use Rattle.raid_base.specs.Replies.{is_fault}
use Rattle.slot_rules.specs.Slots.{Bay}
use Rattle.slot_rules.specs.Rules.{rule}
use Rattle.slot_rules.specs.Replay.{Replays, next_clock}
use Rattle.slot_rules.specs.Tables.{Table, with_blocks, lost_of}
use Rattle.slot_rules.proofs.RuleLaws.{replies_fit_lem}
use Rattle.slot_rules.proofs.Handlings.{cell-there}
use Rattle.bay_device.proofs.KeepLemmas.{rule_keeps}
use Rattle.bay_device.proofs.JournalLemmas.{IsRuled, replays-more, faults-more}
use Rattle.bay_device.specs.Handling.{IsHandledSomehow, RisesByFaults, cell_of_row}

pub somehow-fits : (ask : Ask) (reply : Reply) (old new : Table) → IsHandledSomehow ask reply old new → fits ask.what reply ≡ true
somehow-fits ask reply old new s = ap (fits ask.what) s.is.reply_is ∙ replies_fit_lem (with_blocks old s.blocks) ask (is_fault reply)

pub somehow-life : (ask : Ask) (reply : Reply) (old new : Table) → IsHandledSomehow ask reply old new → new.state.life ≤ old.state.life + 1
somehow-life ask reply old new s =
    let k : (rule (with_blocks old s.blocks) ask (is_fault reply)).bay.life ≤ old.state.life + 1 = (rule_keeps (with_blocks old s.blocks) ask (is_fault reply)).life in
    let e : new.state.life ≡ (rule (with_blocks old s.blocks) ask (is_fault reply)).bay.life = ap (λ (b : Bay). b.life) s.is.bay_is in
    omega arith

pub somehow-mode : (ask : Ask) (reply : Reply) (old new : Table) → IsHandledSomehow ask reply old new → (new.state.mode ≡ old.state.mode) × (new.state.patience ≡ old.state.patience)
somehow-mode ask reply old new s =
    let k = rule_keeps (with_blocks old s.blocks) ask (is_fault reply) in
    (ap (λ (b : Bay). b.mode) s.is.bay_is ∙ k.mode, ap (λ (b : Bay). b.patience) s.is.bay_is ∙ k.patience)

pub lives-more : (life later len more : ℕ) (ok : Bool) → later ≤ life + 1 → life ≤ len → more ≡ (if ok then len + 1 else len) → ok ≡ true → later ≤ more
lives-more life later len more true l k e h = omega arith
lives-more life later len more false l k e h = cc

pub pushed-replays : (journal pushed : List Entry) (first : Bay) (start : ℕ) (bay : Bay) (clock now : ℕ) (ask : Ask) (reply : Reply) (later : Bay)
    → now ≡ next_clock clock ask → pushed ≡ journal ++ (record { ask = ask; clock = now; reply = reply }) ∷ []
    → Replays first start journal bay clock → IsRuled ask reply bay later → Replays first start pushed later now
pushed-replays journal pushed first start bay clock now ask reply later c p r is =
    let e : journal ++ (record { ask = ask; clock = next_clock clock ask; reply = reply }) ∷ [] ≡ pushed =
    ap (λ (t : ℕ). journal ++ (record { ask = ask; clock = t; reply = reply }) ∷ []) (sym c) ∙ sym p in
    subst (λ (t : ℕ). Replays first start pushed later t) (sym c)
    (subst (λ (j : List Entry). Replays first start j later (next_clock clock ask)) e (replays-more journal first start bay clock ask reply later r is))

pub pushed-faults : (journal pushed : List Entry) (entry : Entry) (opening before now : ℕ) → pushed ≡ journal ++ entry ∷ [] → HasCause before now (is_fault entry.reply)
    → RisesByFaults journal opening before → RisesByFaults pushed opening now
pushed-faults journal pushed entry opening before now p cause r =
    subst (λ (j : List Entry). RisesByFaults j opening now) (sym p) (faults-more journal entry opening before now cause r)

-- what is looked at
cell_some : (cell : Option Cell) → is_none cell ≡ false → is_some cell ≡ true
cell_some None h = cc
cell_some (Some cell) h = refl

pub look-shows : (table : Table) (blocks : List (List ℕ)) (row : RowNo) (bytes : List ℕ) (lost : ℕ) → row.0 < length table.slots → length table.slots ≤ length blocks
    → is_none (cell_of_row (with_blocks table blocks) row) ≡ false → bytes ≡ slice_index_or blocks row.0 zeros → lost ≡ lost_of (cell_of_row (with_blocks table blocks) row)
    → Some (record { bytes = bytes; lost = lost }) ≡ cell_of_row (with_blocks table blocks) row
look-shows table blocks row bytes lost l le some b m =
    let e : bytes ≡ slice_index_or blocks row.0 [] = b ∙ get_or_default blocks row.0 zeros [] (omega arith) in
    ap (λ (x : List ℕ). Some (record { bytes = x; lost = lost })) e
    ∙ ap (λ (x : ℕ). Some (record { bytes = slice_index_or blocks row.0 []; lost = x })) m
    ∙ sym (cell-there table blocks row l (cell_some (cell_of_row (with_blocks table blocks) row) some))

-- what holds where a result is no error
pub on-ok : {T E : Type 0} (result : Result T E) (P : Type 0) → is_err result ≡ false → OnOk result P → P
on-ok (Ok x) P h p = p
on-ok (Err e) P h p = cc

-- blocks that agree from one place on agree from each later one on
pub drop-later : (xs ys : List (List ℕ)) (i n : ℕ) → i ≤ n → drop i xs ≡ drop i ys → drop n xs ≡ drop n ys
drop-later xs ys i n le e =
    let same : i + (n - i) ≡ n = omega (arith, le) in
    ap (λ (k : ℕ). drop k xs) (sym same) ∙ sym (drop-drop (n - i) i xs) ∙ ap (λ (zs : List (List ℕ)). drop (n - i) zs) e ∙ drop-drop (n - i) i ys ∙ ap (λ (k : ℕ). drop k ys) same

-- and so they do behind a block that was written
pub cleared-on : (blocks earlier later : List (List ℕ)) (i : ℕ) (bytes : List ℕ) → drop i blocks ≡ drop i earlier → later ≡ slice_set blocks i bytes → drop (i + 1) later ≡ drop (i + 1) earlier
cleared-on blocks earlier later i bytes e written =
    ap (λ (xs : List (List ℕ)). drop (i + 1) xs) written ∙ drop-set-lt (i + 1) blocks i bytes (omega arith) ∙ drop-later blocks earlier i (i + 1) (omega arith) e
