pub mod FurtherMoves
pub mod LinesOf
