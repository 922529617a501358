-- How a request and its reply are kept together.
use Rattle.std.specs.Prelude.{◌≡◌, Some, None, Bool, true, false, refl}
use Rattle.std.proofs.Common.{ap, ◌∙◌}
use Rattle.raid_base.specs.declared.messages.Request.{Request}
use Rattle.raid_base.specs.declared.messages.Request.TheVariants as requests
use Rattle.raid_base.specs.declared.messages.Reply.{Reply}
use Rattle.raid_base.specs.declared.messages.Reply.TheVariants as replies
use Rattle.raid_base.specs.declared.exchange.Asked.{Asked}
use Rattle.raid_base.specs.declared.exchange.Asked.TheVariants as asked
use Rattle.raid_base.specs.declared.exchange.Brief.{Brief}
use Rattle.raid_base.specs.declared.exchange.Brief.TheVariants as briefs
use Rattle.raid_base.specs.declared.exchange.Exchange.{Exchange}
use Rattle.raid_base.specs.declared.exchange.Exchange.TheVariants as exchanges

-- a reply that shows no cell
abbrev pub is_brief : Reply → Bool
is_brief (replies.Granted cell read_no write_no last life seized) = false
is_brief (replies.Held cell) = false
is_brief _ = true

-- the two can be kept together: what is answered to a put or a release shows no cell
abbrev pub are_kept : Request → Reply → Bool
are_kept (requests.Put row id number cell) reply = is_brief reply
are_kept (requests.Release row id number) reply = is_brief reply
are_kept _ reply = true

abbrev pub request_asked : Asked → Request
request_asked (asked.Share want row id) = requests.Share row id want
request_asked (asked.Claim how want mask row id) = requests.Claim row id how mask want
request_asked (asked.Confirm want row id) = requests.Confirm row id want
request_asked asked.Lose = requests.Lose
request_asked asked.Fit = requests.Fit

abbrev pub reply_in_brief : Brief → Reply
reply_in_brief (briefs.Busy holder) = replies.Busy holder
reply_in_brief (briefs.Late above) = replies.Late above
reply_in_brief (briefs.Young note) = replies.Young note
reply_in_brief (briefs.Missing floor) = replies.Missing floor
reply_in_brief (briefs.NoNote life) = replies.NoNote life
reply_in_brief briefs.Done = replies.Done
reply_in_brief briefs.Fault = replies.Fault
reply_in_brief briefs.Emptied = replies.Emptied
reply_in_brief briefs.Fitted = replies.Fitted

abbrev pub in_brief : Reply → Brief
in_brief (replies.Busy holder) = briefs.Busy holder
in_brief (replies.Late above) = briefs.Late above
in_brief (replies.Young note) = briefs.Young note
in_brief (replies.Missing floor) = briefs.Missing floor
in_brief (replies.NoNote life) = briefs.NoNote life
in_brief replies.Done = briefs.Done
in_brief replies.Fault = briefs.Fault
in_brief replies.Emptied = briefs.Emptied
in_brief replies.Fitted = briefs.Fitted
in_brief _ = briefs.Done

-- the request of an exchange
abbrev pub request_of : Exchange → Request
request_of (exchanges.Put row id number reply cell) = requests.Put row id number cell
request_of (exchanges.Release row id number reply) = requests.Release row id number
request_of (exchanges.Granted life what read_no write_no last cell) = request_asked what
request_of (exchanges.Seized host mask life what read_no write_no last id origin moment cell) = request_asked what
request_of (exchanges.Held what cell) = request_asked what
request_of (exchanges.Other what reply) = request_asked what

-- its reply
abbrev pub reply_of : Exchange → Reply
reply_of (exchanges.Put row id number reply cell) = reply_in_brief reply
reply_of (exchanges.Release row id number reply) = reply_in_brief reply
reply_of (exchanges.Granted life what read_no write_no last cell) = replies.Granted cell read_no write_no last life None
reply_of (exchanges.Seized host mask life what read_no write_no last id origin moment cell) =
    replies.Granted cell read_no write_no last life (Some (record { host = host; mask = mask; id = id; origin = origin; moment = moment }))
reply_of (exchanges.Held what cell) = replies.Held cell
reply_of (exchanges.Other what reply) = reply_in_brief reply

abbrev pub answered : Asked → Reply → Exchange
answered what (replies.Granted cell read_no write_no last life None) = exchanges.Granted life what read_no write_no last cell
answered what (replies.Granted cell read_no write_no last life (Some note)) =
    exchanges.Seized note.host note.mask life what read_no write_no last note.id note.origin note.moment cell
answered what (replies.Held cell) = exchanges.Held what cell
answered what reply = exchanges.Other what (in_brief reply)

-- a request and its reply as one
abbrev pub exchange_of : Request → Reply → Exchange
exchange_of (requests.Put row id number cell) reply = exchanges.Put row id number (in_brief reply) cell
exchange_of (requests.Release row id number) reply = exchanges.Release row id number (in_brief reply)
exchange_of (requests.Share row id want) reply = answered (asked.Share want row id) reply
exchange_of (requests.Claim row id how mask want) reply = answered (asked.Claim how want mask row id) reply
exchange_of (requests.Confirm row id want) reply = answered (asked.Confirm want row id) reply
exchange_of requests.Lose reply = answered asked.Lose reply
exchange_of requests.Fit reply = answered asked.Fit reply

-- what is kept
pub record Kept (request : Request) (reply : Reply) : Type 0 where
  pub request_is : request_of (exchange_of request reply) ≡ request
  pub reply_is : reply_of (exchange_of request reply) ≡ reply

brief-back : (brief : Brief) → in_brief (reply_in_brief brief) ≡ brief
brief-back (briefs.Busy holder) = refl
brief-back (briefs.Late above) = refl
brief-back (briefs.Young note) = refl
brief-back (briefs.Missing floor) = refl
brief-back (briefs.NoNote life) = refl
brief-back briefs.Done = refl
brief-back briefs.Fault = refl
brief-back briefs.Emptied = refl
brief-back briefs.Fitted = refl

answered-brief : (what : Asked) (brief : Brief) → answered what (reply_in_brief brief) ≡ exchanges.Other what brief
answered-brief what (briefs.Busy holder) = refl
answered-brief what (briefs.Late above) = refl
answered-brief what (briefs.Young note) = refl
answered-brief what (briefs.Missing floor) = refl
answered-brief what (briefs.NoNote life) = refl
answered-brief what briefs.Done = refl
answered-brief what briefs.Fault = refl
answered-brief what briefs.Emptied = refl
answered-brief what briefs.Fitted = refl

asked-back : (what : Asked) (reply : Reply) → exchange_of (request_asked what) reply ≡ answered what reply
asked-back (asked.Share want row id) reply = refl
asked-back (asked.Claim how want mask row id) reply = refl
asked-back (asked.Confirm want row id) reply = refl
asked-back asked.Lose reply = refl
asked-back asked.Fit reply = refl

-- an exchange is that of its request and its reply
pub exchange-back : (exchange : Exchange) → exchange_of (request_of exchange) (reply_of exchange) ≡ exchange
exchange-back (exchanges.Put row id number reply cell) = ap (λ (b : Brief). exchanges.Put row id number b cell) (brief-back reply)
exchange-back (exchanges.Release row id number reply) = ap (λ (b : Brief). exchanges.Release row id number b) (brief-back reply)
exchange-back (exchanges.Granted life what read_no write_no last cell) = asked-back what (replies.Granted cell read_no write_no last life None)
exchange-back (exchanges.Seized host mask life what read_no write_no last id origin moment cell) =
    asked-back what (replies.Granted cell read_no write_no last life (Some (record { host = host; mask = mask; id = id; origin = origin; moment = moment })))
exchange-back (exchanges.Held what cell) = asked-back what (replies.Held cell)
exchange-back (exchanges.Other what reply) = asked-back what (reply_in_brief reply) ∙ answered-brief what reply
