-- Units take contents by puts of owners, and by puts of parities.
use Rattle.std.proofs.Common.{◌≡◌, inl, inr, refl, sym, subst, ℕ, ◌+◌, ◌<◌, Bool, true, false, if◌then◌else◌, List, [], ◌∷◌, Some}
use Rattle.std.specs.List.{AllByRecursion}
use Rattle.raid_base.specs.declared.numbers.HostNo.{HostNo}
use Rattle.raid_base.specs.declared.numbers.RowNo.{RowNo}
use Rattle.raid_base.specs.declared.numbers.Number.{Number}
use Rattle.raid_base.specs.declared.cells.Cell.{Cell}
use Rattle.raid_base.specs.declared.messages.Call.{Call}
use Rattle.raid_base.specs.declared.messages.Reply.{Reply}
use Rattle.raid_base.specs.declared.messages.Reply.TheVariants.{Granted, Busy, Late, Young, Missing, Held, NoNote, Done, Fault, Emptied, Fitted}
use Rattle.raid_base.specs.declared.messages.Request.{Request}
use Rattle.raid_base.specs.declared.messages.Request.TheVariants.{Share, Claim, Confirm, Put, Release, Lose, Fit}
use Rattle.raid_base.specs.Numbers.{sees}
use Rattle.raid_base.specs.Replies.{is_done}
use Rattle.raid_base.specs.Steps.{Commit, Standing, settled, behind, commits_next, errand_of}
use Rattle.stripe_layout.specs.Placement.{parity_bay}
use Rattle.attempts.specs.Taking.{Finish}
use Rattle.script_text.specs.Script.{Script}
use Rattle.script_text.specs.Ranges.{IsScript}
use Rattle.histories.specs.Calls.{IsDone}
use Rattle.histories.specs.Hands.{Led, HasWork}
use Rattle.histories.specs.Progress.{Work, Trying, Losing, Fitting, Over, Progress, attempt, work_errand}
use Rattle.histories.specs.History.{progress_at, IsHistory}
use Rattle.histories.proofs.hands.Attempting.{hand-at, asked-errand}
use Rattle.row_laws.specs.Laws.{commits_in}
use Rattle.row_laws.specs.Commits.{IsGiven, CommitsAreOfOwners}
use Rattle.row_laws.proofs.commits.CommitTrees.{CommitsUnit, CommitsSo, EachCommits, settled-commits, behind-commits, next-commits, attempt-commits}
use Rattle.row_laws.proofs.owners.OwnedPuts.{puts_are_of_owners}

pub done-reply : (r : Reply) → is_done r ≡ true → r ≡ Done
done-reply Done e = refl
done-reply (Granted cell read_no write_no last life seized) e = absurd (cc)
done-reply (Busy holder) e = absurd (cc)
done-reply (Late above) e = absurd (cc)
done-reply (Young note) e = absurd (cc)
done-reply (Missing floor) e = absurd (cc)
done-reply (Held cell) e = absurd (cc)
done-reply (NoNote life) e = absurd (cc)
done-reply Fault e = absurd (cc)
done-reply Emptied e = absurd (cc)
done-reply Fitted e = absurd (cc)

-- along the calls of an attempt
led-commits : (n : ℕ) (host : HostNo) (start : Standing Finish) (calls : List Call) (now : Standing Finish) → EachCommits n start.steps → Led host start calls now → EachCommits n now.steps
led-commits n host start [] now h led = subst (λ (x : Standing Finish). EachCommits n x.steps) led h
led-commits n host start (call ∷ earlier) now h (before, led, asked, fit, later) =
    subst (λ (x : Standing Finish). EachCommits n x.steps) later
    (settled-commits n host (sees before.seen call.answer.reply) (behind before.steps call.answer.reply)
    (behind-commits n before.steps call.answer.reply (led-commits n host start earlier before h led)))

module _ (script : Script) (is : IsScript script) (earlier : List Call) (call : Call) (along : IsHistory script (call ∷ earlier)) (done : IsDone call) where
  abbrev Given : List Commit → Type 0
  Given commits = AllByRecursion (IsGiven script earlier call) commits

  of-unit : (row : RowNo) (id number : Number) (cell : Cell) → call.ask.what ≡ Put row id number cell → (commits : List Commit) → CommitsUnit script.n call.bay row cell commits → Given commits
  of-unit row id number cell what commits (unit, below, place, same) =
      subst Given (sym same) (
        record {
          unit = below;
          done = done;
          whose = inl (record {
            id = id;
            number = number;
            cell = cell;
            place = place;
            put = what;
            content = refl;
            owns = λ within. puts_are_of_owners script earlier call is along row unit id within below (place, number, cell, what) done;
          });
        },
        tt,
      )

  of-row : (row : RowNo) (id number : Number) (cell : Cell) → call.ask.what ≡ Put row id number cell → call.bay ≡ parity_bay script.n row → (commits : List Commit) →
      AllByRecursion (λ (c : Commit). (c.row ≡ row) × (c.unit + 1 < script.n)) commits → Given commits
  of-row row id number cell what place [] h = tt
  of-row row id number cell what place (c ∷ commits) h = (
    record {
      unit = h.0.1;
      done = done;
      whose = inr (
        id,
        (
          subst (λ (r : RowNo). call.bay ≡ parity_bay script.n r) (sym h.0.0) place,
          number,
          cell,
          subst (λ (r : RowNo). call.ask.what ≡ Put r id number cell) (sym h.0.0) what,
        ),
      );
    },
    of-row row id number cell what place commits h.1,
  )

  of-request : (what : Request) → call.ask.what ≡ what → (commits : List Commit) → CommitsSo script.n call.bay what commits → Given commits
  of-request (Put row id number cell) same commits (inl none) = subst Given (sym none) tt
  of-request (Put row id number cell) same commits (inr (inl h)) = of-unit row id number cell same commits h
  of-request (Put row id number cell) same commits (inr (inr h)) = of-row row id number cell same h.0 commits h.1
  of-request (Share row id want) same commits none = subst Given (sym none) tt
  of-request (Claim row id how mask want) same commits none = subst Given (sym none) tt
  of-request (Confirm row id want) same commits none = subst Given (sym none) tt
  of-request (Release row id number) same commits none = subst Given (sym none) tt
  of-request Lose same commits none = subst Given (sym none) tt
  of-request Fit same commits none = subst Given (sym none) tt

  of-work : (work : Work) → (let p : Progress = progress_at script call.ask.host earlier in HasWork script call.ask.host p.jobs p.row p.seen p.calls work) → work_errand work ≡ Some (errand_of call) →
      Given (commits_in work)
  of-work (Trying steps) h asked =
      let p : Progress = progress_at script call.ask.host earlier in
      let start : Standing Finish = settled call.ask.host h.id (attempt script call.ask.host h.id p.row h.task) in
      let first : EachCommits script.n start.steps =
      settled-commits script.n call.ask.host h.id (attempt script call.ask.host h.id p.row h.task) (attempt-commits script is call.ask.host h.id p.row h.task h.is) in
      let each : EachCommits script.n steps = led-commits script.n call.ask.host start p.calls (record { seen = p.seen; steps = steps }) first h.led in
      of-request call.ask.what refl (commits_next steps) (next-commits script.n steps (errand_of call) each asked)
  of-work (Losing bay) h asked = tt
  of-work (Fitting bay) h asked = tt
  of-work Over h asked = tt

pub commits_are_of_owners : CommitsAreOfOwners
commits_are_of_owners script earlier call is along = by (is_done call.answer.reply) refl
  where
    by : (b : Bool) → is_done call.answer.reply ≡ b → AllByRecursion (IsGiven script earlier call) (if b then commits_in (progress_at script call.ask.host earlier).work else [])
    by true e =
        of-work script is earlier call along (done-reply call.answer.reply e) (progress_at script call.ask.host earlier).work (hand-at script is call.ask.host earlier along.0) (asked-errand script earlier call along.1)
    by false e = tt
