-- What a reply leaves of a walk over shares or claims.
use Rattle.std.proofs.Common.{◌≡◌, ◌<◌, List, Option, Some, None, length, drop, refl, ap, option_map, unwrap_or}
use Rattle.raid_base.specs.declared.numbers.BayNo.{BayNo}
use Rattle.raid_base.specs.declared.numbers.Number.{Number}
use Rattle.raid_base.specs.declared.jobs.Cause.{Cause}
use Rattle.raid_base.specs.declared.jobs.Cause.TheVariants as causes
use Rattle.raid_base.specs.declared.messages.Reply.{Reply}
use Rattle.raid_base.specs.declared.messages.Errand.{Errand}
use Rattle.raid_base.specs.declared.messages.Grant.{Grant}
use Rattle.raid_base.specs.Replies.{grant_of}
use Rattle.raid_base.specs.First.{first_errand}
use Rattle.raid_base.specs.Steps.{Steps, behind, bind, Walk, Through, Stopped, run}
use Rattle.raid_base.proofs.RunLemmas.{behind-run-some, behind-run-last, behind-run-none}
use Rattle.attempts.specs.Taking.{Row, Taken, refusal, unless, with_grant, taking, why}

pub before-kept : (keep : Option Grant → Row → Row) (t : Taken) (bay : BayNo) (g : Option Grant) → (with_grant keep t bay g).before ≡ t.before
before-kept keep t bay (Some g) = refl
before-kept keep t bay None = refl

module _ {B : Type 0} where
  -- a reply that does not refuse is kept
  pub taking-some : (least : Option Number) (keep : Option Grant → Row → Row) (es : List Errand) (t : Taken) (f : Walk Taken → Steps B) (r : Reply)
      → 0 < length es → refusal least t.missing (first_errand es).bay r ≡ None
      → behind (bind (run (taking least keep) es t) f) r ≡ bind (run (taking least keep) (drop 1 es) (with_grant keep t (first_errand es).bay (grant_of r))) f
  taking-some least keep es t f r h e =
      behind-run-some (taking least keep) es t f r (with_grant keep t (first_errand es).bay (grant_of r)) h
      (ap (λ o. option_map (with_grant keep t (first_errand es).bay) (unless o (grant_of r))) e)

  pub taking-last : (least : Option Number) (keep : Option Grant → Row → Row) (es : List Errand) (t : Taken) (f : Walk Taken → Steps B) (r : Reply)
      → length es ≡ 1 → refusal least t.missing (first_errand es).bay r ≡ None
      → behind (bind (run (taking least keep) es t) f) r ≡ f (Through (with_grant keep t (first_errand es).bay (grant_of r)))
  taking-last least keep es t f r h e =
      behind-run-last (taking least keep) es t f r (with_grant keep t (first_errand es).bay (grant_of r)) h
      (ap (λ o. option_map (with_grant keep t (first_errand es).bay) (unless o (grant_of r))) e)

  pub taking-none : (least : Option Number) (keep : Option Grant → Row → Row) (es : List Errand) (t : Taken) (f : Walk Taken → Steps B) (r : Reply) (cause : Cause)
      → 0 < length es → refusal least t.missing (first_errand es).bay r ≡ Some cause
      → behind (bind (run (taking least keep) es t) f) r ≡ f (Stopped t (first_errand es) r)
  taking-none least keep es t f r cause h e =
      behind-run-none (taking least keep) es t f r h
      (ap (λ o. option_map (with_grant keep t (first_errand es).bay) (unless o (grant_of r))) e)

pub why-cause : (least : Option Number) (t : Taken) (errand : Errand) (r : Reply) (cause : Cause) → refusal least t.missing errand.bay r ≡ Some cause → why least t errand r ≡ cause
why-cause least t errand r cause e = ap (λ o. unwrap_or o causes.Quit) e
