mod Plain
mod Lobby
