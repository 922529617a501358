-- The numbers that the program exits with.
use Rattle.std.specs.Prelude.{ℕ}
use Rattle.raid_base.specs.declared.status.Status.{Status}
use Rattle.raid_base.specs.declared.status.Status.TheVariants.{Done, Words, ReadFault, TooLong, BadScript, TooMuch, TooFewStores, TooSmall, StoreFault, WriteFault, Memory}

-- 0 where the run is done, and from 2 on another for each other end
abbrev pub exit_number : Status → ℕ
exit_number Done = 0
exit_number Words = 2
exit_number ReadFault = 3
exit_number TooLong = 4
exit_number (BadScript _ _) = 5
exit_number (TooMuch _) = 6
exit_number (TooFewStores _ _) = 7
exit_number (TooSmall _) = 8
exit_number (StoreFault _) = 9
exit_number WriteFault = 10
exit_number Memory = 11
