pub mod FormColumns
pub mod ReadingColumns
pub mod Pieces
pub mod ReadingLaw
pub mod LineLengths
pub mod LineColumns
pub mod LinesRead
pub mod LineDigits
