use Rattle.std.proofs.Common.{◌≡◌, Some, ap, ◌∙◌, refl}
use Rattle.host_engine.specs.declared.duty.Duty.TheVariants as duties
use Rattle.host_engine.proofs.TakeLemmas.{kept-sent, same-sent, noted-call, may-hear, takes-all, loses-as, fits-as}
use Rattle.host_engine.proofs.host.Host.heard.Goals as goal

pub note-requires-clause-kept : goal.note-requires-clause-kept
note-requires-clause-kept c = kept-sent c.args.self.now c.args.moment c.args.answer.now c.requires.ready c.args.bay c.args.ask.now c.requires.sent

pub tell-requires-clause-ready : goal.tell-requires-clause-ready
tell-requires-clause-ready c =
    may-hear c.args.self.now c.note.new.self c.args.moment c.args.answer.now c.requires.ready (record { bay = c.args.bay; ask = c.args.ask.now; answer = c.args.answer.now }) refl c.note.ensures.noted

pub tell-requires-clause-trying : goal.tell-requires-clause-trying
tell-requires-clause-trying c =
    let held : c.note.new.self.duty ≡ Some c.in-Some-Trying.field-0 = c.in-Some-Trying.is in
    let one : c.in-Some-Trying.field-0 ≡ duties.Trying = rw held at c.in-Some-Trying.field-0-is in
    held ∙ ap Some one

pub returns-in-Some-Trying : goal.returns-in-Some-Trying
returns-in-Some-Trying c = λ sent is.
    let called = same-sent c.args.self.now c.args.moment c.args.bay c.args.ask.now sent c.requires.sent is in
    takes-all c.args.self.now c.note.new.self c.tell.new.self c.args.moment c.args.answer.now sent c.note.ensures.noted
    (noted-call c.args.self.now.transcript.items _ c.args.answer.now c.args.bay c.args.ask.now sent c.note.ensures.call called) c.note.ensures.room c.tell.ensures.room c.tell.ensures.stands

pub returns-in-Some-Losing : goal.returns-in-Some-Losing
returns-in-Some-Losing c = λ sent is.
    let held : c.note.new.self.duty ≡ Some c.in-Some-Losing.field-0 = c.in-Some-Losing.is in
    let one : c.in-Some-Losing.field-0 ≡ duties.Losing c.in-Some-Losing.bay = rw held at c.in-Some-Losing.field-0-is in
    let called = same-sent c.args.self.now c.args.moment c.args.bay c.args.ask.now sent c.requires.sent is in
    takes-all c.args.self.now c.note.new.self c.change.new.self c.args.moment c.args.answer.now sent c.note.ensures.noted
    (noted-call c.args.self.now.transcript.items _ c.args.answer.now c.args.bay c.args.ask.now sent c.note.ensures.call called) c.note.ensures.room c.change.ensures.room
    (λ script host p s. loses-as script host c.note.new.self c.change.new.self p c.args.answer.now.reply c.in-Some-Losing.bay s
    (held ∙ ap Some one) (c.change.ensures.stands script host p s.counts))

pub returns-in-Some-Fitting : goal.returns-in-Some-Fitting
returns-in-Some-Fitting c = λ sent is.
    let held : c.note.new.self.duty ≡ Some c.in-Some-Fitting.field-0 = c.in-Some-Fitting.is in
    let one : c.in-Some-Fitting.field-0 ≡ duties.Fitting c.in-Some-Fitting.bay = rw held at c.in-Some-Fitting.field-0-is in
    let called = same-sent c.args.self.now c.args.moment c.args.bay c.args.ask.now sent c.requires.sent is in
    takes-all c.args.self.now c.note.new.self c.change-in-Some-Fitting.new.self c.args.moment c.args.answer.now sent c.note.ensures.noted
    (noted-call c.args.self.now.transcript.items _ c.args.answer.now c.args.bay c.args.ask.now sent c.note.ensures.call called) c.note.ensures.room c.change-in-Some-Fitting.ensures.room
    (λ script host p s. fits-as script host c.note.new.self c.change-in-Some-Fitting.new.self p c.args.answer.now.reply c.in-Some-Fitting.bay s
    (held ∙ ap Some one) (c.change-in-Some-Fitting.ensures.stands script host p s.counts))
