use Rattle.std.proofs.Common.{◌≡◌, [], Option, None, sym, subst, ◌∙◌}
use Rattle.raid_base.specs.Steps.{answer}
use Rattle.host_read.specs.declared.read_try.ReadTry.{ReadTry}
use Rattle.host_write.specs.declared.write_try.WriteTry.{WriteTry}
use Rattle.stripe_recovery.specs.declared.recover_try.RecoverTry.{RecoverTry}
use Rattle.rebuild_txn.specs.declared.mend_try.MendTry.{MendTry}
use Rattle.host_engine.specs.Left.{read_left, write_left, recovery_left, mend_left}
use Rattle.host_engine.specs.declared.attempt.Kind.TheVariants.{Reading, Writing, Recovering, Mending}
use Rattle.host_engine.proofs.AttemptLemmas.{open-kind}
use Rattle.host_engine.proofs.attempt.Attempt.quit.Goals as goal

pub quit-requires : goal.quit-requires
quit-requires c = subst (λ (r : Option ReadTry). answer (read_left r) ≡ None) (sym c.deref.ensures ∙ c.in-Some.is) (open-kind Reading c.args.self.now c.in-Reading.is c.requires)

pub unreachable-requires : goal.unreachable-requires
unreachable-requires c = cc (subst (λ (r : Option ReadTry). answer (read_left r) ≡ None) (sym c.deref.ensures ∙ c.in-None.is) (open-kind Reading c.args.self.now c.in-Reading.is c.requires))

pub quit-requires-in-Some-deref : goal.quit-requires-in-Some-deref
quit-requires-in-Some-deref c = ([], subst (λ (r : Option WriteTry). answer (write_left r []) ≡ None) (sym c.deref-in-Writing.ensures ∙ c.in-Some-deref.is) (open-kind Writing c.args.self.now c.in-Writing.is c.requires))

pub unreachable-requires-in-None-deref : goal.unreachable-requires-in-None-deref
unreachable-requires-in-None-deref c = cc (subst (λ (r : Option WriteTry). answer (write_left r []) ≡ None) (sym c.deref-in-Writing.ensures ∙ c.in-None-deref.is) (open-kind Writing c.args.self.now c.in-Writing.is c.requires))

pub quit-requires-in-Some-deref-2 : goal.quit-requires-in-Some-deref-2
quit-requires-in-Some-deref-2 c = subst (λ (r : Option RecoverTry). answer (recovery_left r) ≡ None) (sym c.deref-in-Recovering.ensures ∙ c.in-Some-deref-2.is) (open-kind Recovering c.args.self.now c.in-Recovering.is c.requires)

pub unreachable-requires-in-None-deref-2 : goal.unreachable-requires-in-None-deref-2
unreachable-requires-in-None-deref-2 c = cc (subst (λ (r : Option RecoverTry). answer (recovery_left r) ≡ None) (sym c.deref-in-Recovering.ensures ∙ c.in-None-deref-2.is) (open-kind Recovering c.args.self.now c.in-Recovering.is c.requires))

pub quit-requires-in-Some-deref-3 : goal.quit-requires-in-Some-deref-3
quit-requires-in-Some-deref-3 c = subst (λ (r : Option MendTry). answer (mend_left r) ≡ None) (sym c.deref-in-Mending.ensures ∙ c.in-Some-deref-3.is) (open-kind Mending c.args.self.now c.in-Mending.is c.requires)

pub unreachable-requires-in-None-deref-3 : goal.unreachable-requires-in-None-deref-3
unreachable-requires-in-None-deref-3 c = cc (subst (λ (r : Option MendTry). answer (mend_left r) ≡ None) (sym c.deref-in-Mending.ensures ∙ c.in-None-deref-3.is) (open-kind Mending c.args.self.now c.in-Mending.is c.requires))
