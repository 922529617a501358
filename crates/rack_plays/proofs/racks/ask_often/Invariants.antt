use Rattle.std.proofs.Common.{◌≡◌}
use Rattle.rack_turns.specs.Passes.{IsPassOf, is_first}
use Rattle.rack_plays.proofs.racks.ask_often.Given as goal

abbrev pub invariant-loop : goal.invariant-loop
invariant-loop g l = IsPassOf l.rack l.pass × (is_first l.pass ≡ is_first l.initial.pass)
