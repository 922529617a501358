-- What a reply says.
use Rattle.std.specs.Prelude.{Option, Some, None, Bool, true, false}
use Rattle.raid_base.specs.declared.cells.Cell.{Cell}
use Rattle.raid_base.specs.declared.messages.Grant.{Grant}
use Rattle.raid_base.specs.declared.messages.PutEnd.{PutEnd}
use Rattle.raid_base.specs.declared.messages.PutEnd.TheVariants.{Made, Unnoted, Failed}
use Rattle.raid_base.specs.declared.messages.Reply.{Reply}
use Rattle.raid_base.specs.declared.messages.Reply.TheVariants.{Granted, Missing, Held, NoNote, Done, Fault}

-- what it grants
abbrev pub grant_of : Reply → Option Grant
grant_of (Granted cell read_no write_no last life seized) = Some (record { cell = cell; last = last; life = life; seized = seized })
grant_of _ = None

-- the cell that a confirm shows, which may have none
abbrev pub held_of : Reply → Option (Option Cell)
held_of (Held cell) = Some cell
held_of _ = None

abbrev pub is_held : Reply → Bool
is_held (Held cell) = true
is_held _ = false

abbrev pub is_missing : Reply → Bool
is_missing (Missing floor) = true
is_missing _ = false

abbrev pub is_done : Reply → Bool
is_done Done = true
is_done _ = false

abbrev pub is_fault : Reply → Bool
is_fault Fault = true
is_fault _ = false

-- what became of a put
abbrev pub put_end : Reply → PutEnd
put_end Done = Made
put_end (NoNote life) = Unnoted life
put_end _ = Failed
