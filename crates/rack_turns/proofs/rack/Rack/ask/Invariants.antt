use Rattle.rack_turns.specs.Passes.{IsPassOf, HasMetSome}
use Rattle.rack_turns.proofs.rack.Rack.ask.Given as goal

abbrev pub invariant-loop : goal.invariant-loop
invariant-loop g l = IsPassOf l.self l.pass × HasMetSome l.bay.0 l.initial.pass l.pass
