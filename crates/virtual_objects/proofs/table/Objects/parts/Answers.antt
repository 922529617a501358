use Rattle.std.proofs.Common.{◌≡◌, sym, arith, ◌-◌}
use Rattle.virtual_objects.proofs.PlaceLemmas.{granted_sound}
use Rattle.virtual_objects.proofs.table.Objects.parts.Goals as goal

pub returns-in-Some-clause-parts : goal.returns-in-Some-clause-parts
returns-in-Some-clause-parts c =
    let units : c.from-units.result ≡ c.args.self.now.n - 1 = (let v = c.devices.ensures.value in omega arith) in
    (granted_sound (λ parts. parts.items) c.parts_in.result c.args.self.now c.args.name.now c.in-Some.rows.now c.args.first c.args.count c.from-units.result
    c.devices.ensures.objects c.requires.count_least units (sym c.in-Some.ensures.value) c.parts_in.ensures).0

pub returns-in-Some-clause-below : goal.returns-in-Some-clause-below
returns-in-Some-clause-below c =
    let units : c.from-units.result ≡ c.args.self.now.n - 1 = (let v = c.devices.ensures.value in omega arith) in
    (granted_sound (λ parts. parts.items) c.parts_in.result c.args.self.now c.args.name.now c.in-Some.rows.now c.args.first c.args.count c.from-units.result
    c.devices.ensures.objects c.requires.count_least units (sym c.in-Some.ensures.value) c.parts_in.ensures).1
