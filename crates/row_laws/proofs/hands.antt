-- What a call does to hands and to slots.
pub mod HandClaims
pub mod HandMoves
pub mod SlotDoes
pub mod SlotMoves
pub mod WriteMasks
