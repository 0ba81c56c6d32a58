mod Alone
mod Pieces
