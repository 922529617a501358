-- The rows of a read, one after another.
use Rattle.std.proofs.Common.{◌≡◌, ◌<◌, ◌+◌, ℕ, List, [], ◌∷◌, true, false, length, drop, get_or, refl, ap, sym, ◌∙◌}
use Rattle.std.proofs.lemmas.List.{at_drop_more}
use Rattle.raid_base.specs.declared.jobs.RowPart.{RowPart}
use Rattle.raid_base.specs.declared.jobs.Ended.{Ended}
use Rattle.raid_base.specs.declared.numbers.Number.{Number}
use Rattle.raid_base.specs.declared.numbers.RowNo.{RowNo}
use Rattle.std.specs.Prelude.{Option, Some, None}
use Rattle.raid_base.specs.declared.messages.Errand.{Errand}
use Rattle.raid_base.specs.Steps.{Steps, draws, settled, bind, run}
use Rattle.raid_base.proofs.DrawLemmas.{draws-run, settled-asks, settled-draws}
use Rattle.stripe_layout.specs.Placement.{bays_of, units_in}
use Rattle.attempts.specs.Taking.{Access, Row, Rows, Taken, begun, with_wanted, shares}
use Rattle.attempts.specs.Releases.{releasing, end_as}
use Rattle.attempts.specs.Reading.{sharing, wanted_shared, read_rows, freeing, read_freed}
use Rattle.host_read.specs.Left.{rest_of, left_of}
use Rattle.host_read.specs.Stages.{is_kept, is_settled}
use Rattle.host_read.specs.declared.stages.ReadStage.{ReadStage}
use Rattle.host_read.specs.declared.stages.ReadStage.TheVariants.{Wanted, Parity, Others, Drawing, Freeing, Releasing}
use Rattle.raid_base.specs.declared.jobs.Ended.TheVariants.{Refused}
use Rattle.raid_base.specs.declared.numbers.HostNo.{HostNo}

pub row_begins : (a : Access) (done : Rows) (i : ℕ) (d part : RowPart) (t : Taken) (es : List Errand)
    → i < length a.parts → part ≡ get_or a.parts i d → t ≡ begun part done → es ≡ shares a.id part.row (bays_of a.n part.row (units_in a.n part.mask)) → length done.rows ≡ i
    → bind (run (sharing a with_wanted) es t) (wanted_shared a (rest_of a t)) ≡ read_rows a (drop i a.parts) done
row_begins a done i d part t es h is begins asks many =
    ap (λ xs. bind (run (sharing a with_wanted) xs t) (wanted_shared a (rest_of a t))) asks
    ∙ ap (λ u. bind (run (sharing a with_wanted) (shares a.id part.row (bays_of a.n part.row (units_in a.n part.mask))) u) (wanted_shared a (rest_of a u))) begins
    ∙ ap (λ k. bind (run (sharing a with_wanted) (shares a.id part.row (bays_of a.n part.row (units_in a.n part.mask))) (begun part done)) (wanted_shared a (read_rows a (drop (k + 1) a.parts)))) many
    ∙ ap (λ p. read_rows a (p ∷ drop (i + 1) a.parts) done) is
    ∙ sym (at_drop_more (λ ps. read_rows a ps done) a.parts i d h)

-- giving back draws nothing
pub draws-released : (es : List Errand) (w : Ended) → draws (bind (run releasing es tt) (end_as w)) ≡ false
draws-released [] w = refl
draws-released (x ∷ es) w = refl

pub draws-freed : (a : Access) (n : Number) (rows : List Row) (es : List Errand) (lost : Option RowNo) → draws (bind (run freeing es lost) (read_freed a n rows)) ≡ false
draws-freed a n rows [] None = refl
draws-freed a n rows [] (Some row) = refl
draws-freed a n rows (x ∷ es) lost = refl

pub ruleset draws_nothing = (draws-run, draws-released, draws-freed)

pub draws-left : (stage : ReadStage) (a : Access) (t : Taken) (es : List Errand) (parts : ℕ) → is_kept stage parts (length es) t ≡ true → is_settled stage ≡ true
    → draws (left_of stage a t es) ≡ false
draws-left Wanted a t [] parts k h = cc
draws-left Parity a t [] parts k h = cc
draws-left Others a t [] parts k h = cc
draws-left Wanted a t (x ∷ es) parts k h = refl
draws-left Parity a t (x ∷ es) parts k h = refl
draws-left Others a t (x ∷ es) parts k h = refl
draws-left Drawing a t es parts k h = cc
draws-left (Freeing n row) a t es parts k h = draws-freed a n t.before es row
draws-left (Releasing cause) a t es parts k h = draws-released es (Refused cause)

pub ruleset settles = (draws-left, settled-asks, settled-draws)

module _ {A : Type 0} where
  -- where nothing is drawn the steps stand as they are
  pub stands : (host : HostNo) (seen : Number) (s s' : Steps A) → s' ≡ s → draws s ≡ false → record { seen = seen; steps = s' } ≡ settled host seen s
  stands host seen s s' e h = sym (settled-asks host seen s h ∙ ap (λ x. record { seen = seen; steps = x }) (sym e))
