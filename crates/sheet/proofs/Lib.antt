-- The laws of what is carried through the input, for the functions' proofs.
mod Carrying
