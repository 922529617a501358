-- Who owns a row.
pub mod HoldingLaws
pub mod OwnedPuts
pub mod RowOwners
pub mod RowOwnersCalls
pub mod RowOwnersHands
pub mod RowOwnersOthers
pub mod RowOwnersSlots
pub mod RowOwnersTasks
pub mod RowOwnersTrees
