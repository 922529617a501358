use Rattle.std.proofs.Common.{◌≡◌, ◌≤◌, ◌<◌, ◌+◌, ◌++◌, ◌∷◌, [], ℕ, vec_len, is_ok, ap, ◌∙◌, arith}
use Rattle.std.specs.Vec.{vec_capacity}
use Rattle.raid_base.specs.Calls.{Entry}
use Rattle.raid_base.proofs.ExchangeLemmas.{fits-kept}
use Rattle.bay_device.proofs.BayLemmas.{lives-more, somehow-fits, somehow-life, pushed-replays, pushed-faults}
use Rattle.bay_device.proofs.bay.Bay.handle.Goals as goal

pub invariant_of-self-clause-lives : goal.invariant_of-self-clause-lives
invariant_of-self-clause-lives g c =
    let more : c.serve-reply.new.slots.state.life ≤ c.args.self.now.slots.state.life + 1 =
    somehow-life c.args.ask.now c.serve-reply.result c.args.self.now.slots c.serve-reply.new.slots c.serve-reply.ensures.somehow in
    let room : vec_len c.args.self.now.journal < vec_capacity c.args.self.now.journal = omega (arith, c.requires.room, c.args.self.now.reserved) in
    lives-more c.args.self.now.slots.state.life c.serve-reply.new.slots.state.life (vec_len c.args.self.now.journal) (vec_len c.push.new.self) (is_ok c.push.result) more c.args.self.now.lives c.push.ensures.len (c.push.ensures.succeeds room)

pub of-entry-requires : goal.of-entry-requires
of-entry-requires g c = record {
  kept = fits-kept c.args.ask.now.what c.serve-reply.result
      (somehow-fits c.args.ask.now c.serve-reply.result c.args.self.now.slots c.serve-reply.new.slots c.serve-reply.ensures.somehow);
}

pub returns-clause-fits : goal.returns-clause-fits
returns-clause-fits g c = somehow-fits c.args.ask.now c.serve-reply.result c.args.self.now.slots c.serve-reply.new.slots c.serve-reply.ensures.somehow

pub returns-clause-replays : goal.returns-clause-replays
returns-clause-replays g c = λ told first start r.
    let line : Entry = record { ask = c.args.ask.now; clock = c.max-clock.result + 1; reply = c.serve-reply.result } in
    let pushed : c.push.new.self.items ≡ c.args.self.now.journal.items ++ line ∷ [] =
    c.in-Ok.ensures.items ∙ ap (λ (e : Entry). c.args.self.now.journal.items ++ e ∷ []) c.of-entry.ensures in
    pushed-replays c.args.self.now.journal.items c.push.new.self.items first start _ c.args.self.now.clock _ c.args.ask.now c.serve-reply.result _ (ap (λ (n : ℕ). n + 1) c.max-clock.ensures) pushed r
    (let t = c.serve-reply.ensures.told told in record { says = t.reply_is; leaves = t.bay_is })

pub returns-clause-faults : goal.returns-clause-faults
returns-clause-faults g c = λ opening r.
    let line : Entry = record { ask = c.args.ask.now; clock = c.max-clock.result + 1; reply = c.serve-reply.result } in
    let pushed : c.push.new.self.items ≡ c.args.self.now.journal.items ++ line ∷ [] =
    c.in-Ok.ensures.items ∙ ap (λ (e : Entry). c.args.self.now.journal.items ++ e ∷ []) c.of-entry.ensures in
    pushed-faults c.args.self.now.journal.items c.push.new.self.items line opening _ _ pushed c.serve-reply.ensures.cause r
