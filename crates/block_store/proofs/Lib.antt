mod Among
mod Kept
