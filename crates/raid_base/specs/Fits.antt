-- Which replies fit a request.
use Rattle.std.specs.Prelude.{Option, is_none, is_some, Bool, true, false, ◌&&◌, ◌||◌}
use Rattle.raid_base.specs.declared.messages.How.{How}
use Rattle.raid_base.specs.declared.messages.How.TheVariants.{Plain, Seize, Mend}
use Rattle.raid_base.specs.declared.cells.Cell.{Cell}
use Rattle.raid_base.specs.declared.messages.Request.{Request}
use Rattle.raid_base.specs.declared.messages.Request.TheVariants.{Share, Claim, Confirm, Put, Release, Lose, Fit}
use Rattle.raid_base.specs.declared.messages.Reply.{Reply}
use Rattle.raid_base.specs.declared.messages.Reply.TheVariants.{Granted, Busy, Late, Young, Missing, Held, NoNote, Done, Fault, Emptied, Fitted}

-- a cell comes only where it is wanted
abbrev pub fits_want : Bool → Option Cell → Bool
fits_want want cell = want || is_none cell

-- and there it always comes
abbrev pub fits_shown : Bool → Option Cell → Bool
fits_shown true cell = is_some cell
fits_shown false cell = is_none cell

abbrev pub fits_share : Bool → Reply → Bool
fits_share want (Granted cell read_no write_no last life seized) = fits_shown want cell && is_none seized
fits_share want (Missing floor) = true
fits_share want (Busy holder) = true
fits_share want (Late above) = true
fits_share want Fault = want
fits_share want _ = false

abbrev pub fits_claim : How → Bool → Reply → Bool
fits_claim Plain want (Granted cell read_no write_no last life seized) = fits_shown want cell && is_none seized
fits_claim Mend want (Granted cell read_no write_no last life seized) = fits_want want cell && is_none seized
fits_claim Seize want (Granted cell read_no write_no last life seized) = fits_shown want cell
fits_claim Plain want (Late above) = true
fits_claim Plain want (Busy holder) = true
fits_claim Mend want (Busy holder) = true
fits_claim Seize want (Young note) = true
fits_claim how want (Missing floor) = true
fits_claim how want Fault = want
fits_claim how want _ = false

abbrev pub fits_confirm : Bool → Reply → Bool
fits_confirm want (Held cell) = fits_want want cell
fits_confirm want (Missing floor) = true
fits_confirm want (NoNote life) = true
fits_confirm want Fault = want
fits_confirm want _ = false

abbrev pub fits_put : Reply → Bool
fits_put Done = true
fits_put (NoNote life) = true
fits_put Fault = true
fits_put _ = false

abbrev pub fits_release : Reply → Bool
fits_release Done = true
fits_release (NoNote life) = true
fits_release _ = false

abbrev pub fits_lose : Reply → Bool
fits_lose Emptied = true
fits_lose _ = false

abbrev pub fits_fit : Reply → Bool
fits_fit Fitted = true
fits_fit _ = false

-- the reply is one that a bay may give to the request
abbrev pub fits : Request → Reply → Bool
fits (Share row id want) reply = fits_share want reply
fits (Claim row id how mask want) reply = fits_claim how want reply
fits (Confirm row id want) reply = fits_confirm want reply
fits (Put row id number cell) reply = fits_put reply
fits (Release row id number) reply = fits_release reply
fits Lose reply = fits_lose reply
fits Fit reply = fits_fit reply
