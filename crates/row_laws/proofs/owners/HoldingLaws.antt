-- The laws of notes and their holders, put together.
use Rattle.attempts.specs.Once.{AttemptsAskOnce}
use Rattle.attempts.proofs.OnceReads.{reads-once}
use Rattle.attempts.proofs.OnceWrites.{writes-once}
use Rattle.attempts.proofs.OnceRepairs.{mends-once, recoveries-once}
use Rattle.attempts.proofs.OnceClaims.{claims_are_of_their_kind}
use Rattle.row_laws.specs.Holding.{AnsweredAreFree, HoldersKeepNotes, PuttersOwnRows}
use Rattle.row_laws.proofs.notes.BlankNotes.{blank_notes_mend}
use Rattle.row_laws.proofs.holders.AnsweredFree as free
use Rattle.row_laws.proofs.holders.HolderNotes.{holders-keep-notes}
use Rattle.row_laws.proofs.owners.RowOwners as owners

attempts_ask_once : AttemptsAskOnce
attempts_ask_once = (reads-once, writes-once, λ m least within. mends-once m least, recoveries-once)

pub answered_are_free : AnsweredAreFree
answered_are_free = free.answered_are_free attempts_ask_once claims_are_of_their_kind

pub holders_keep_notes : HoldersKeepNotes
holders_keep_notes = holders-keep-notes attempts_ask_once claims_are_of_their_kind blank_notes_mend

pub putters_own_rows : PuttersOwnRows
putters_own_rows = owners.putters_own_rows blank_notes_mend answered_are_free holders_keep_notes claims_are_of_their_kind
