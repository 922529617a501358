use Rattle.std.proofs.Common.{◌<◌, Some, length, ap, sym, ◌∙◌}
use Rattle.attempts.specs.Accesses.{access_of}
use Rattle.host_write.proofs.TryLemmas.{has-errand, quits-left, stop_of}
use Rattle.host_write.proofs.write_try.WriteTry.quit.Goals as goal

pub returns-in-ClaimParity : goal.returns-in-ClaimParity
returns-in-ClaimParity c = λ blocks.
    let w = c.args.self.now in
    let some : 0 < length w.queue = has-errand w.stage (access_of w.job c.requires.0) w.taken w.confirmed w.puts w.queue w.job.n w.job.parts.items w.kept w.awake c.requires.1 in
    ap (λ s. Some (stop_of s w.puts)) (sym c.in-ClaimParity.is) ∙ quits-left w.stage (access_of w.job blocks) w.taken w.confirmed w.puts w.queue some w.awake

pub returns-in-ClaimWanted : goal.returns-in-ClaimWanted
returns-in-ClaimWanted c = λ blocks.
    let w = c.args.self.now in
    let some : 0 < length w.queue = has-errand w.stage (access_of w.job c.requires.0) w.taken w.confirmed w.puts w.queue w.job.n w.job.parts.items w.kept w.awake c.requires.1 in
    ap (λ s. Some (stop_of s w.puts)) (sym c.in-ClaimWanted.is) ∙ quits-left w.stage (access_of w.job blocks) w.taken w.confirmed w.puts w.queue some w.awake

pub returns-in-ClaimSmall : goal.returns-in-ClaimSmall
returns-in-ClaimSmall c = λ blocks.
    let w = c.args.self.now in
    let some : 0 < length w.queue = has-errand w.stage (access_of w.job c.requires.0) w.taken w.confirmed w.puts w.queue w.job.n w.job.parts.items w.kept w.awake c.requires.1 in
    ap (λ s. Some (stop_of s w.puts)) (sym c.in-ClaimSmall.is) ∙ quits-left w.stage (access_of w.job blocks) w.taken w.confirmed w.puts w.queue some w.awake

pub returns-in-ShareUntil : goal.returns-in-ShareUntil
returns-in-ShareUntil c = λ blocks.
    let w = c.args.self.now in
    let some : 0 < length w.queue = has-errand w.stage (access_of w.job c.requires.0) w.taken w.confirmed w.puts w.queue w.job.n w.job.parts.items w.kept w.awake c.requires.1 in
    ap (λ s. Some (stop_of s w.puts)) (sym c.in-ShareUntil.is) ∙ quits-left w.stage (access_of w.job blocks) w.taken w.confirmed w.puts w.queue some w.awake

pub returns-in-ShareAfter : goal.returns-in-ShareAfter
returns-in-ShareAfter c = λ blocks.
    let w = c.args.self.now in
    let some : 0 < length w.queue = has-errand w.stage (access_of w.job c.requires.0) w.taken w.confirmed w.puts w.queue w.job.n w.job.parts.items w.kept w.awake c.requires.1 in
    ap (λ s. Some (stop_of s w.puts)) (sym c.in-ShareAfter.is) ∙ quits-left w.stage (access_of w.job blocks) w.taken w.confirmed w.puts w.queue some w.awake

pub returns-in-Confirm : goal.returns-in-Confirm
returns-in-Confirm c = λ blocks.
    let w = c.args.self.now in
    let some : 0 < length w.queue = has-errand w.stage (access_of w.job c.requires.0) w.taken w.confirmed w.puts w.queue w.job.n w.job.parts.items w.kept w.awake c.requires.1 in
    ap (λ s. Some (stop_of s w.puts)) (sym c.in-Confirm.is) ∙ quits-left w.stage (access_of w.job blocks) w.taken w.confirmed w.puts w.queue some w.awake

pub returns-in-PutData : goal.returns-in-PutData
returns-in-PutData c = λ blocks.
    let w = c.args.self.now in
    let some : 0 < length w.queue = has-errand w.stage (access_of w.job c.requires.0) w.taken w.confirmed w.puts w.queue w.job.n w.job.parts.items w.kept w.awake c.requires.1 in
    ap (λ e. Some e) c.part_by_quit.ensures ∙ ap (λ s. Some (stop_of s w.puts)) (sym c.in-PutData.is) ∙ quits-left w.stage (access_of w.job blocks) w.taken w.confirmed w.puts w.queue some w.awake

pub returns-in-PutParity : goal.returns-in-PutParity
returns-in-PutParity c = λ blocks.
    let w = c.args.self.now in
    let some : 0 < length w.queue = has-errand w.stage (access_of w.job c.requires.0) w.taken w.confirmed w.puts w.queue w.job.n w.job.parts.items w.kept w.awake c.requires.1 in
    ap (λ e. Some e) c.part_by_quit-in-PutParity.ensures ∙ ap (λ s. Some (stop_of s w.puts)) (sym c.in-PutParity.is) ∙ quits-left w.stage (access_of w.job blocks) w.taken w.confirmed w.puts w.queue some w.awake

pub returns-in-Finish : goal.returns-in-Finish
returns-in-Finish c = λ blocks.
    let w = c.args.self.now in
    let some : 0 < length w.queue = has-errand w.stage (access_of w.job c.requires.0) w.taken w.confirmed w.puts w.queue w.job.n w.job.parts.items w.kept w.awake c.requires.1 in
    ap (λ e. Some e) c.part_by_quit-in-Finish.ensures ∙ ap (λ s. Some (stop_of s w.puts)) (sym c.in-Finish.is) ∙ quits-left w.stage (access_of w.job blocks) w.taken w.confirmed w.puts w.queue some w.awake

pub returns-in-Release : goal.returns-in-Release
returns-in-Release c = λ blocks.
    let w = c.args.self.now in
    let some : 0 < length w.queue = has-errand w.stage (access_of w.job c.requires.0) w.taken w.confirmed w.puts w.queue w.job.n w.job.parts.items w.kept w.awake c.requires.1 in
    ap (λ s. Some (stop_of s w.puts)) (sym c.in-Release.is) ∙ quits-left w.stage (access_of w.job blocks) w.taken w.confirmed w.puts w.queue some w.awake
