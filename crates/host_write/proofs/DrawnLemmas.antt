-- Where a write draws a number and where it does not.
use Rattle.std.proofs.Common.{◌≡◌, ℕ, List, [], ◌∷◌, true, false, length, refl, ap, sym, ◌∙◌}
use Rattle.raid_base.specs.declared.numbers.HostNo.{HostNo}
use Rattle.raid_base.specs.declared.numbers.Number.{Number}
use Rattle.raid_base.specs.declared.jobs.RowPart.{RowPart}
use Rattle.raid_base.specs.declared.jobs.Cause.{Cause}
use Rattle.raid_base.specs.declared.messages.Errand.{Errand}
use Rattle.raid_base.specs.Steps.{Steps, draws, settled}
use Rattle.raid_base.proofs.DrawLemmas.{settled-asks, settled-draws}
use Rattle.attempts.specs.Taking.{Access, Finish as Outcome, Row, Taken}
use Rattle.attempts.specs.Puts.{Puts}
use Rattle.host_write.specs.declared.stages.WriteStage.{WriteStage}
use Rattle.host_write.specs.declared.stages.WriteStage.TheVariants.{ClaimParity, ClaimWanted, ClaimSmall, ShareUntil, ShareAfter, Confirm, Draw, PutData, PutParity, Finish, Release}
use Rattle.host_write.specs.Stages.{is_kept, is_settled}
use Rattle.host_write.specs.Left.{left_of}

pub draws-left : (stage : WriteStage) (a : Access) (t : Taken) (rows : List Row) (puts : Puts) (es : List Errand) (n : ℕ) (parts : List RowPart)
    → is_kept stage n parts (length es) t rows puts ≡ true → is_settled stage ≡ true → draws (left_of stage a t rows puts es) ≡ false
draws-left ClaimParity a t rows puts [] n parts k h = cc
draws-left ClaimWanted a t rows puts [] n parts k h = cc
draws-left ClaimSmall a t rows puts [] n parts k h = cc
draws-left ShareUntil a t rows puts [] n parts k h = cc
draws-left ShareAfter a t rows puts [] n parts k h = cc
draws-left Confirm a t rows puts [] n parts k h = cc
draws-left Draw a t rows puts [] n parts k h = cc
draws-left (PutData m row) a t rows puts [] n parts k h = cc
draws-left (PutParity m row) a t rows puts [] n parts k h = cc
draws-left (Finish m) a t rows puts [] n parts k h = refl
draws-left (Release cause) a t rows puts [] n parts k h = refl
draws-left ClaimParity a t rows puts (x ∷ es) n parts k h = refl
draws-left ClaimWanted a t rows puts (x ∷ es) n parts k h = refl
draws-left ClaimSmall a t rows puts (x ∷ es) n parts k h = refl
draws-left ShareUntil a t rows puts (x ∷ es) n parts k h = refl
draws-left ShareAfter a t rows puts (x ∷ es) n parts k h = refl
draws-left Confirm a t rows puts (x ∷ es) n parts k h = refl
draws-left Draw a t rows puts (x ∷ es) n parts k h = cc
draws-left (PutData m row) a t rows puts (x ∷ es) n parts k h = refl
draws-left (PutParity m row) a t rows puts (x ∷ es) n parts k h = refl
draws-left (Finish m) a t rows puts (x ∷ es) n parts k h = refl
draws-left (Release cause) a t rows puts (x ∷ es) n parts k h = refl

pub draws-finished : (a : Access) (t : Taken) (rows : List Row) (puts : Puts) (es : List Errand) (m : Number) → draws (left_of (Finish m) a t rows puts es) ≡ false
draws-finished a t rows puts [] m = refl
draws-finished a t rows puts (x ∷ es) m = refl

pub draws-released : (a : Access) (t : Taken) (rows : List Row) (puts : Puts) (es : List Errand) (cause : Cause) → draws (left_of (Release cause) a t rows puts es) ≡ false
draws-released a t rows puts [] cause = refl
draws-released a t rows puts (x ∷ es) cause = refl

pub ruleset settles = (draws-left, settled-asks, settled-draws)

-- where nothing is drawn the steps stand as they are
pub stands : (host : HostNo) (seen : Number) (s s' : Steps Outcome) → s' ≡ s → draws s' ≡ false → record { seen = seen; steps = s' } ≡ settled host seen s
stands host seen s s' e h = sym (settled-asks host seen s' h) ∙ ap (settled host seen) e
