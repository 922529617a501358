-- What a host has seen never falls, and covers what it was shown.
use Rattle.std.proofs.Common.{◌≡◌, inl, inr, ℕ, ◌+◌, ◌*◌, ◌/◌, ◌%◌, ◌^◌, ◌<◌, ◌≤◌, Bool, true, false, [], ◌∷◌, Option, Some, None, Result, Ok, Err, refl, sym, ap, subst, ◌∙◌, arith}
use Rattle.std.specs.Prelude.{nat_lt, ok_or, if◌then◌else◌}
use Rattle.std.proofs.lemmas.Bool.Decides.{nat_tests}
use Rattle.raid_base.specs.declared.numbers.HostNo.{HostNo}
use Rattle.raid_base.specs.declared.numbers.Number.{Number}
use Rattle.raid_base.specs.declared.numbers.Spent.{Spent}
use Rattle.raid_base.specs.declared.messages.Note.{Note}
use Rattle.raid_base.specs.declared.messages.Reply.{Reply}
use Rattle.raid_base.specs.declared.messages.Reply.TheVariants.{Granted, Busy, Late, Young, Missing, Held, NoNote, Done, Fault, Emptied, Fitted}
use Rattle.raid_base.specs.Numbers.{number, greater, least_above, draw, seen_drawn, sees_note, sees}
use Rattle.raid_base.specs.Least.{IsLeastAbove}
use Rattle.raid_base.specs.Steps.{Steps, Asks, Draws, Ends, Standing, settled, behind, told}
use Rattle.raid_base.proofs.LeastLemmas.{least_above-least}
use Rattle.attempts.specs.Taking.{Finish}
use Rattle.attempts.specs.Numbering.{IsOrigin, ShowsNumber, CoversSeen, SeenCovers, DrawsAreAbove}

-- Draws
least-exceeds : (host floor : ℕ) (b : Bool) → nat_lt (floor % 16) host ≡ b → floor < (if b then 16 * (floor / 16) + host else 16 * (floor / 16) + 16 + host)
least-exceeds host floor true e = let below : floor % 16 < host = grind (arith, nat_tests) in omega arith
least-exceeds host floor false e = omega arith

-- the number that is drawn, below the end
record IsDrawnNumber (m : ℕ) (n : Number) : Type 0 where
  is : n.0 ≡ m
  most : m < 2 ^ 62

abbrev value : ℕ → Result Number Spent → ℕ
value m (Ok n) = n.0
value m (Err spent) = m

drawn-as : (m : ℕ) (n : Number) (spent : Spent) (b : Bool) → nat_lt m (2 ^ 62) ≡ b → ok_or (if b then Some (number m) else None) spent ≡ Ok n → IsDrawnNumber m n
drawn-as m n spent true e drawn = record { is = sym (ap (value m) drawn); most = grind (arith, nat_tests) }
drawn-as m n spent false e drawn = absurd (cc)

draw-as : (host : HostNo) (seen n : Number) → draw host seen ≡ Ok n → IsDrawnNumber (least_above host.0 seen.0) n
draw-as host seen n drawn = drawn-as (least_above host.0 seen.0) n (record { seen = seen }) _ refl drawn

pub draws-above : DrawsAreAbove
draws-above host seen n less drawn =
    let drawn_is : IsDrawnNumber (least_above host.0 seen.0) n = draw-as host seen n drawn in
    let least : IsLeastAbove host.0 seen.0 (least_above host.0 seen.0) = least_above-least host.0 seen.0 less in
    record {
      above = omega (arith, drawn_is.is, least.is.above);
      own = ap (λ (k : ℕ). k % 16) drawn_is.is ∙ least.is.leaves;
      most = omega (arith, drawn_is.is, drawn_is.most);
    }

drawn-covers : (host : HostNo) (seen : Number) (d : Result Number Spent) → draw host seen ≡ d → seen.0 ≤ (seen_drawn seen d).0
drawn-covers host seen (Ok n) drawn = omega (arith, (draw-as host seen n drawn).is, least-exceeds host.0 seen.0 _ refl)
drawn-covers host seen (Err spent) drawn = omega arith

-- Nothing that was seen is lost
settled-covers : {A : Type 0} (host : HostNo) (seen : Number) (s : Steps A) → seen.0 ≤ (settled host seen s).seen.0
settled-covers host seen (Asks e t c k) = omega arith
settled-covers host seen (Draws k) =
    omega (arith, drawn-covers host seen (draw host seen) refl, settled-covers host (seen_drawn seen (draw host seen)) (k (draw host seen)))
settled-covers host seen (Ends a) = omega arith

note-covers : (seen : Number) (o : Option Note) → seen.0 ≤ (sees_note seen o).0
note-covers seen None = omega arith
note-covers seen (Some note) = omega arith

reply-covers : (seen : Number) (r : Reply) → seen.0 ≤ (sees seen r).0
reply-covers seen (Granted cell read_no write_no last life seized) = omega (arith, note-covers (greater seen (greater read_no write_no)) seized)
reply-covers seen (Late above) = omega arith
reply-covers seen (Missing floor) = omega arith
reply-covers seen (Busy holder) = omega arith
reply-covers seen (Young note) = omega arith
reply-covers seen (Held cell) = omega arith
reply-covers seen (NoNote life) = omega arith
reply-covers seen Done = omega arith
reply-covers seen Fault = omega arith
reply-covers seen Emptied = omega arith
reply-covers seen Fitted = omega arith

-- What is shown is seen
origin-seen : (seen : Number) (o : Option Note) (n : Number) → IsOrigin o n → n.0 ≤ (sees_note seen o).0
origin-seen seen None n is = absurd is
origin-seen seen (Some note) n is = omega (arith, ap (λ (x : Number). x.0) is)

reply-shown : (seen : Number) (r : Reply) (n : Number) → ShowsNumber r n → n.0 ≤ (sees seen r).0
reply-shown seen (Granted cell read_no write_no last life seized) n (inl is) =
    omega (arith, ap (λ (x : Number). x.0) is, note-covers (greater seen (greater read_no write_no)) seized)
reply-shown seen (Granted cell read_no write_no last life seized) n (inr (inl is)) =
    omega (arith, ap (λ (x : Number). x.0) is, note-covers (greater seen (greater read_no write_no)) seized)
reply-shown seen (Granted cell read_no write_no last life seized) n (inr (inr is)) = origin-seen (greater seen (greater read_no write_no)) seized n is
reply-shown seen (Late above) n is = omega (arith, ap (λ (x : Number). x.0) is)
reply-shown seen (Missing floor) n is = omega (arith, ap (λ (x : Number). x.0) is)
reply-shown seen (Busy holder) n is = absurd is
reply-shown seen (Young note) n is = absurd is
reply-shown seen (Held cell) n is = absurd is
reply-shown seen (NoNote life) n is = absurd is
reply-shown seen Done n is = absurd is
reply-shown seen Fault n is = absurd is
reply-shown seen Emptied n is = absurd is
reply-shown seen Fitted n is = absurd is

pub seen-covers : SeenCovers
seen-covers host now [] later leads = record { kept = subst (λ (x : Standing Finish). now.seen.0 ≤ x.seen.0) leads (omega arith); shown = tt }
seen-covers host now (c ∷ calls) later leads =
    let next : Standing Finish = told host now c.answer.reply in
    let rest : CoversSeen next calls later = seen-covers host next calls later leads.1 in
    let settles : (sees now.seen c.answer.reply).0 ≤ next.seen.0 = settled-covers host (sees now.seen c.answer.reply) (behind now.steps c.answer.reply) in
    record {
      kept = omega (arith, reply-covers now.seen c.answer.reply, settles, rest.kept);
      shown = (λ n is. omega (arith, reply-shown now.seen c.answer.reply n is, settles, rest.kept), rest.shown);
    }
