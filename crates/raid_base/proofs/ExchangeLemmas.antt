-- A request and its reply, kept together and taken apart again.
use Rattle.std.proofs.Common.{◌≡◌, Some, None, true, refl, ap, ◌∙◌, ℕ}
use Rattle.raid_base.specs.declared.messages.Request.{Request}
use Rattle.raid_base.specs.declared.messages.Request.TheVariants as requests
use Rattle.raid_base.specs.declared.messages.Reply.{Reply}
use Rattle.raid_base.specs.declared.messages.Reply.TheVariants as replies
use Rattle.raid_base.specs.declared.exchange.Asked.{Asked}
use Rattle.raid_base.specs.declared.exchange.Asked.TheVariants as asked
use Rattle.raid_base.specs.declared.exchange.Exchange.{Exchange}
use Rattle.raid_base.specs.declared.numbers.BayNo.{BayNo}
use Rattle.raid_base.specs.declared.numbers.HostNo.{HostNo}
use Rattle.raid_base.specs.Calls.{Entry, Call}
use Rattle.raid_base.specs.Exchanges.{is_brief, are_kept, request_asked, reply_in_brief, in_brief, answered, exchange_of, request_of, reply_of, Kept}
use Rattle.raid_base.specs.Fits.{fits, fits_put, fits_release}

reply-in-brief : (reply : Reply) → is_brief reply ≡ true → reply_in_brief (in_brief reply) ≡ reply
reply-in-brief (replies.Granted cell read_no write_no last life seized) is = cc is
reply-in-brief (replies.Held cell) is = cc is
reply-in-brief (replies.Busy holder) is = refl
reply-in-brief (replies.Late above) is = refl
reply-in-brief (replies.Young note) is = refl
reply-in-brief (replies.Missing floor) is = refl
reply-in-brief (replies.NoNote life) is = refl
reply-in-brief replies.Done is = refl
reply-in-brief replies.Fault is = refl
reply-in-brief replies.Emptied is = refl
reply-in-brief replies.Fitted is = refl

answered-request : (what : Asked) (reply : Reply) → request_of (answered what reply) ≡ request_asked what
answered-request what (replies.Granted cell read_no write_no last life None) = refl
answered-request what (replies.Granted cell read_no write_no last life (Some note)) = refl
answered-request what (replies.Held cell) = refl
answered-request what (replies.Busy holder) = refl
answered-request what (replies.Late above) = refl
answered-request what (replies.Young note) = refl
answered-request what (replies.Missing floor) = refl
answered-request what (replies.NoNote life) = refl
answered-request what replies.Done = refl
answered-request what replies.Fault = refl
answered-request what replies.Emptied = refl
answered-request what replies.Fitted = refl

answered-reply : (what : Asked) (reply : Reply) → reply_of (answered what reply) ≡ reply
answered-reply what (replies.Granted cell read_no write_no last life None) = refl
answered-reply what (replies.Granted cell read_no write_no last life (Some note)) = refl
answered-reply what (replies.Held cell) = refl
answered-reply what (replies.Busy holder) = refl
answered-reply what (replies.Late above) = refl
answered-reply what (replies.Young note) = refl
answered-reply what (replies.Missing floor) = refl
answered-reply what (replies.NoNote life) = refl
answered-reply what replies.Done = refl
answered-reply what replies.Fault = refl
answered-reply what replies.Emptied = refl
answered-reply what replies.Fitted = refl

-- both are kept
pub exchange-keeps : (request : Request) (reply : Reply) → are_kept request reply ≡ true → Kept request reply
exchange-keeps (requests.Put row id number cell) reply kept = record { request_is = refl; reply_is = reply-in-brief reply kept }
exchange-keeps (requests.Release row id number) reply kept = record { request_is = refl; reply_is = reply-in-brief reply kept }
exchange-keeps (requests.Share row id want) reply kept =
    record { request_is = answered-request (asked.Share want row id) reply; reply_is = answered-reply (asked.Share want row id) reply }
exchange-keeps (requests.Claim row id how mask want) reply kept =
    record { request_is = answered-request (asked.Claim how want mask row id) reply; reply_is = answered-reply (asked.Claim how want mask row id) reply }
exchange-keeps (requests.Confirm row id want) reply kept =
    record { request_is = answered-request (asked.Confirm want row id) reply; reply_is = answered-reply (asked.Confirm want row id) reply }
exchange-keeps requests.Lose reply kept = record { request_is = answered-request asked.Lose reply; reply_is = answered-reply asked.Lose reply }
exchange-keeps requests.Fit reply kept = record { request_is = answered-request asked.Fit reply; reply_is = answered-reply asked.Fit reply }

-- what is shown of a request and its reply
module _ (request : Request) (reply : Reply) (exchange : Exchange) (is : exchange ≡ exchange_of request reply) (kept : are_kept request reply ≡ true) where
  shown-request : request_of exchange ≡ request
  shown-request = ap request_of is ∙ (exchange-keeps request reply kept).request_is

  shown-reply : reply_of exchange ≡ reply
  shown-reply = ap reply_of is ∙ (exchange-keeps request reply kept).reply_is

  pub entry-shows : (host : HostNo) (asked moment clock : ℕ) → let line : Entry = record { ask = record { host = host; clock = asked; moment = moment; what = request_of exchange }; clock = clock; reply = reply_of exchange } in
      line ≡ record { ask = record { host = host; clock = asked; moment = moment; what = request }; clock = clock; reply = reply }
  entry-shows host asked moment clock =
      ap (λ (r : Request). record { ask = record { host = host; clock = asked; moment = moment; what = r }; clock = clock; reply = reply_of exchange }) shown-request
      ∙ ap (λ (r : Reply). record { ask = record { host = host; clock = asked; moment = moment; what = request }; clock = clock; reply = r }) shown-reply

  pub call-shows : (bay : BayNo) (host : HostNo) (asked moment clock : ℕ) → let line : Call = record { bay = bay; ask = record { host = host; clock = asked; moment = moment; what = request_of exchange }; answer = record { clock = clock; reply = reply_of exchange } } in
      line ≡ record { bay = bay; ask = record { host = host; clock = asked; moment = moment; what = request }; answer = record { clock = clock; reply = reply } }
  call-shows bay host asked moment clock =
      ap (λ (r : Request). record { bay = bay; ask = record { host = host; clock = asked; moment = moment; what = r }; answer = record { clock = clock; reply = reply_of exchange } }) shown-request
      ∙ ap (λ (r : Reply). record { bay = bay; ask = record { host = host; clock = asked; moment = moment; what = request }; answer = record { clock = clock; reply = r } }) shown-reply

put-brief : (reply : Reply) → fits_put reply ≡ true → is_brief reply ≡ true
put-brief (replies.Granted cell read_no write_no last life seized) is = cc is
put-brief (replies.Held cell) is = cc is
put-brief (replies.Busy holder) is = refl
put-brief (replies.Late above) is = refl
put-brief (replies.Young note) is = refl
put-brief (replies.Missing floor) is = refl
put-brief (replies.NoNote life) is = refl
put-brief replies.Done is = refl
put-brief replies.Fault is = refl
put-brief replies.Emptied is = refl
put-brief replies.Fitted is = refl

release-brief : (reply : Reply) → fits_release reply ≡ true → is_brief reply ≡ true
release-brief (replies.Granted cell read_no write_no last life seized) is = cc is
release-brief (replies.Held cell) is = cc is
release-brief (replies.Busy holder) is = refl
release-brief (replies.Late above) is = refl
release-brief (replies.Young note) is = refl
release-brief (replies.Missing floor) is = refl
release-brief (replies.NoNote life) is = refl
release-brief replies.Done is = refl
release-brief replies.Fault is = cc
release-brief replies.Emptied is = refl
release-brief replies.Fitted is = refl

-- a request and a reply that fits it can be kept together
pub fits-kept : (request : Request) (reply : Reply) → fits request reply ≡ true → are_kept request reply ≡ true
fits-kept (requests.Put row id number cell) reply fitting = put-brief reply fitting
fits-kept (requests.Release row id number) reply fitting = release-brief reply fitting
fits-kept (requests.Share row id want) reply fitting = refl
fits-kept (requests.Claim row id how mask want) reply fitting = refl
fits-kept (requests.Confirm row id want) reply fitting = refl
fits-kept requests.Lose reply fitting = refl
fits-kept requests.Fit reply fitting = refl
