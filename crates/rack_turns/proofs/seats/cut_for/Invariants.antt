use Rattle.rack_turns.proofs.seats.cut_for.Given as goal

abbrev pub ghosts-cut : goal.ghosts-cut
ghosts-cut g a = record { host = a._host.0; quota = a._quota }
