use Rattle.std.proofs.Common.{refl, subst, ℕ, Option}
use Rattle.std.specs.Prelude.{find}
use Rattle.raid_base.specs.declared.numbers.HostNo.{HostNo}
use Rattle.script_text.specs.Script.{host_numbers}
use Rattle.schedule_play.specs.Plays.{IsFound, waits}
use Rattle.schedule_play.specs.World.{turn_by}
use Rattle.schedule_play.proofs.PlayLemmas.{turned-found, turned-ended, turned-ready, asked-found, asked-ended, found-other, found-nobody, same-number}
use Rattle.schedule_play.proofs.KeepLemmas.{keeps-nothing}
use Rattle.schedule_play.proofs.world.World.turn.Goals as goal

pub returns-then-eq-clause-turned : goal.returns-then-eq-clause-turned
returns-then-eq-clause-turned g c script history shows =
    turned-found c.args.self.now c.turn_at.new.self c.in-Some.place c.args.moment c.in-Some.found (find (waits script history c.args.host.0) (host_numbers script))
    (subst (λ (r : Option (ℕ × HostNo)). IsFound c.args.self.now.hosts.items (find (waits script history c.args.host.0) (host_numbers script)) r) c.in-Some.is
    (c.first_waiting.ensures script history shows)) c.turn_at.ensures.turned (turn_by c.args.host c.args.moment) (same-number _ _ c.if-eq.ensures) refl script history shows

pub returns-then-eq-clause-asked : goal.returns-then-eq-clause-asked
returns-then-eq-clause-asked g c script history shows =
    asked-found c.args.self.now c.in-Some.place c.args.moment c.in-Some.found c.args.host (find (waits script history c.args.host.0) (host_numbers script)) c.turn_at.result
    (subst (λ (r : Option (ℕ × HostNo)). IsFound c.args.self.now.hosts.items (find (waits script history c.args.host.0) (host_numbers script)) r) c.in-Some.is
    (c.first_waiting.ensures script history shows)) c.turn_at.ensures.asked (same-number _ _ c.if-eq.ensures) script history shows

pub returns-then-eq-clause-ready : goal.returns-then-eq-clause-ready
returns-then-eq-clause-ready g c =
    (turned-ready c.args.self.now c.turn_at.new.self c.requires.ready (turn_by c.args.host c.args.moment)
    (λ script history shows.
    turned-found c.args.self.now c.turn_at.new.self c.in-Some.place c.args.moment c.in-Some.found (find (waits script history c.args.host.0) (host_numbers script))
    (subst (λ (r : Option (ℕ × HostNo)). IsFound c.args.self.now.hosts.items (find (waits script history c.args.host.0) (host_numbers script)) r) c.in-Some.is
    (c.first_waiting.ensures script history shows)) c.turn_at.ensures.turned (turn_by c.args.host c.args.moment) (same-number _ _ c.if-eq.ensures) refl script history shows)).0

pub returns-else-eq-clause-turned : goal.returns-else-eq-clause-turned
returns-else-eq-clause-turned g c script history shows =
    turned-ended c.args.self.now c.requires.ready (turn_by c.args.host c.args.moment) c.requires.host script history shows
    (found-other c.args.self.now.hosts.items (find (waits script history c.args.host.0) (host_numbers script)) c.in-Some.place c.in-Some.found c.args.host
    (subst (λ (r : Option (ℕ × HostNo)). IsFound c.args.self.now.hosts.items (find (waits script history c.args.host.0) (host_numbers script)) r) c.in-Some.is
    (c.first_waiting.ensures script history shows)) c.if-eq.ensures)

pub returns-else-eq-clause-asked : goal.returns-else-eq-clause-asked
returns-else-eq-clause-asked g c script history shows =
    asked-ended c.args.self.now c.requires.ready c.args.host c.args.moment c.requires.host script history shows
    (found-other c.args.self.now.hosts.items (find (waits script history c.args.host.0) (host_numbers script)) c.in-Some.place c.in-Some.found c.args.host
    (subst (λ (r : Option (ℕ × HostNo)). IsFound c.args.self.now.hosts.items (find (waits script history c.args.host.0) (host_numbers script)) r) c.in-Some.is
    (c.first_waiting.ensures script history shows)) c.if-eq.ensures)

pub returns-in-None-clause-turned : goal.returns-in-None-clause-turned
returns-in-None-clause-turned g c script history shows =
    turned-ended c.args.self.now c.requires.ready (turn_by c.args.host c.args.moment) c.requires.host script history shows
    (found-nobody c.args.host (subst (λ (r : Option (ℕ × HostNo)). IsFound c.args.self.now.hosts.items (find (waits script history c.args.host.0) (host_numbers script)) r) c.in-None.is
    (c.first_waiting.ensures script history shows)))

pub returns-in-None-clause-asked : goal.returns-in-None-clause-asked
returns-in-None-clause-asked g c script history shows =
    asked-ended c.args.self.now c.requires.ready c.args.host c.args.moment c.requires.host script history shows
    (found-nobody c.args.host (subst (λ (r : Option (ℕ × HostNo)). IsFound c.args.self.now.hosts.items (find (waits script history c.args.host.0) (host_numbers script)) r) c.in-None.is
    (c.first_waiting.ensures script history shows)))

pub returns-else-eq-clause-keeps : goal.returns-else-eq-clause-keeps
returns-else-eq-clause-keeps g c = keeps-nothing c.args.self.now

pub returns-in-None-clause-keeps : goal.returns-in-None-clause-keeps
returns-in-None-clause-keeps g c = keeps-nothing c.args.self.now
