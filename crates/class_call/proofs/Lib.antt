-- The laws that the functions' proofs cite.
pub mod Ways
pub mod FigureWays
pub mod DesignationWays
