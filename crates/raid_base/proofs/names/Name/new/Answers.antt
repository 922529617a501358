use Rattle.std.proofs.Common.{◌≡◌, ◌∙◌, ap, sym, length, take, replicate, ◌-◌}
use Rattle.std.proofs.Math.Seq.{take-append_seam}
use Rattle.raid_base.specs.Names.{filled, is_name}
use Rattle.raid_base.proofs.names.Name.new.Goals as goal

pub invariant_of-result : goal.invariant_of-result
invariant_of-result c =
    let text = c.args.text.now in
    let back : take (length text) c.filled.result ≡ text = rw c.filled.ensures (take-append_seam text (replicate (16 - length text) 0)) in
    (ap length back, c.filled.ensures ∙ ap filled (sym back), ap is_name back ∙ (cc))
