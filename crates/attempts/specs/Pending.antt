-- The errands that a queue keeps in one of its forms.
use Rattle.std.specs.Prelude.{List, [], map}
use Rattle.raid_base.specs.declared.numbers.BayNo.{BayNo}
use Rattle.raid_base.specs.declared.messages.Request.{Request}
use Rattle.raid_base.specs.declared.messages.Errand.{Errand}
use Rattle.attempts.specs.declared.queue.Errands.{Errands}
use Rattle.attempts.specs.declared.queue.Errands.TheVariants.{Nothing, Each, Puts, Released}

-- one request to each of these bays
abbrev pub asked_of_each : Request → List BayNo → List Errand
asked_of_each request bays = map (λ (bay : BayNo). record { bay = bay; request = request }) bays

abbrev pub errands_in : Errands → List Errand
errands_in Nothing = []
errands_in (Each request bays) = asked_of_each request bays.items
errands_in (Puts puts) = puts.errands
errands_in (Released releases) = releases.errands
