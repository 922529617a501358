use Rattle.std.proofs.Common.{◌≡◌, ℕ, ◌-◌, List, length, take, drop, refl, sym, ap, ◌∙◌, subst}
use Rattle.std.proofs.Math.Seq.{take-length}
use Rattle.std.proofs.lemmas.List.{length-drop}
use Rattle.raid_base.specs.Steps.{told}
use Rattle.host_engine.specs.Left.{left, Suits}
use Rattle.histories.specs.Plain.{first_blocks}
use Rattle.host_engine.proofs.host.Host.hear.Goals as goal

pub returns : goal.returns
returns c =
    let numbers = c.args.self.now.numbers in
    let jobs = c.args.self.now.jobs.now in
    let from = c.args.self.now.job in
    let tail : take (length jobs - from) (drop from jobs) ≡ drop from jobs = ap (λ (k : ℕ). take k (drop from jobs)) (sym (length-drop from jobs)) ∙ take-length (drop from jobs) in
    let blocks = c.first_blocks-blocks.ensures ∙ ap (first_blocks c.args.self.now.script.now) tail in
    let was = c.args.self.now.attempt in
    let now = c.take.new.self in
    record {
      told = record {
        in_hand = c.requires.trying;
        still_in_hand = c.requires.trying;
        steps = subst (λ (bs : List (List ℕ)). record { seen = c.take.new.numbers.seen; steps = left now bs } ≡ told numbers.host (record { seen = numbers.seen; steps = left was bs }) c.args.reply.now)
            blocks c.take.ensures.steps;
        suits = subst (λ (bs : List (List ℕ)). Suits now bs) blocks c.take.ensures.suits;
        ends = c.end.ensures;
        draws_for = c.take.ensures.host;
        number = refl;
        plays = refl;
        listed = refl;
        job = refl;
        asked = refl;
        tries = refl;
        row = refl;
        gone = refl;
        clock = refl;
        results = refl;
        contents = refl;
        transcript = refl;
      };
    }
