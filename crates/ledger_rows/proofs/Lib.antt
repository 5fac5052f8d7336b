pub mod DeckBytes
pub mod StorageCells
pub mod PartPictures
pub mod FromCellsRows
pub mod PageBytes
pub mod PagesRead
pub mod PocketsRead
pub mod CodesRead
