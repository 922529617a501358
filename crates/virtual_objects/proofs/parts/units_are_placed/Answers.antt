use Rattle.virtual_objects.proofs.PlaceLemmas.{are_places}
use Rattle.virtual_objects.proofs.parts.units_are_placed.Goals as goal

pub returns : goal.returns
returns c = are_places
