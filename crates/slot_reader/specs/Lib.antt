pub mod SlotTurns
