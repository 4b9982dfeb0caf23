pub mod ContentTurns
pub mod LocalTurns
