use Rattle.std.proofs.Common.{◌≡◌, ◌≤◌, ◌<◌, ◌∙◌, sym, refl, ap, arith, length, true, false, cond, leb, Option, Some, None}
use Rattle.std.proofs.lemmas.Bool.{le-leb, lt-leb}
use Rattle.raid_base.specs.declared.cells.Content.{Content}
use Rattle.report_text.specs.Reading.{all_contents, words_of}
use Rattle.report_text.proofs.ContentReading.{contents-turn, contents-stop, contents-end, contents-none, counted, counted-none, with_front-nil, shorter}
use Rattle.report_text.proofs.reading.contents.read_contents.Goals as goal

pub loop-word-init : goal.loop-word-init
loop-word-init c = rw c.new-contents.ensures.items (with_front-nil (all_contents (words_of c.args.text.now)))

pub returns-in_default-read_content : goal.returns-in_default-read_content
returns-in_default-read_content c =
    counted-none c.args.text.now (contents-stop _ c.loop-word.left.now c.in-Some.word.now c.in-Some.rest.now c.loop-word.contents.items c.loop-word.invariant c.in-Some.ensures (sym c.in_default-read_content.is ∙ c.read_content.ensures))

pub loop-word-smaller : goal.loop-word-smaller
loop-word-smaller c = shorter c.loop-word.left.now c.in-Some.word.now c.in-Some.rest.now c.in-Some.ensures

pub loop-word-preserved : goal.loop-word-preserved
loop-word-preserved c =
    contents-turn _ c.loop-word.left.now c.in-Some.word.now c.in-Some.rest.now c.loop-word.contents.items c.push_content.new.contents.items c.in-Some-read_content.content c.loop-word.invariant c.in-Some.ensures c.in-Some-read_content.ensures c.in_ok-push_content.ensures

pub returns-in_default-read_content-2 : goal.returns-in_default-read_content-2
returns-in_default-read_content-2 c =
    counted-none c.args.text.now (contents-none _ c.loop-word.left.now c.loop-word.contents.items c.loop-word.invariant (rw c.in_default.is at c.take_word.ensures) (sym c.in_default-read_content-2.is ∙ c.read_content-2.ensures))

pub returns-then-len-gt-MOST_BLOCKS : goal.returns-then-len-gt-MOST_BLOCKS
returns-then-len-gt-MOST_BLOCKS c =
    let all = contents-end _ c.loop-word.left.now c.loop-word.contents.items c.push_content-2.new.contents.items c.in-Some-read_content-2.content c.loop-word.invariant (rw c.in_default.is at c.take_word.ensures) c.in-Some-read_content-2.ensures c.in_ok-push_content-2.ensures in
    counted c.args.text.now c.push_content-2.new.contents.items false all (lt-leb _ 120 (omega (arith, c.len.ensures)))

pub returns : goal.returns
returns c =
    let all = contents-end _ c.loop-word.left.now c.loop-word.contents.items c.push_content-2.new.contents.items c.in-Some-read_content-2.content c.loop-word.invariant (rw c.in_default.is at c.take_word.ensures) c.in-Some-read_content-2.ensures c.in_ok-push_content-2.ensures in
    counted c.args.text.now c.push_content-2.new.contents.items true all (le-leb _ 120 (omega (arith, c.len.ensures)))
