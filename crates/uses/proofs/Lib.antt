mod Contours
mod Pieces
mod Rules
mod Sets
