pub mod Marks
pub mod Fields
pub mod OperandCuts
pub mod NearMarks
mod SharedMarks
mod LaneLemmas
mod PlaneLanes
mod FlagCopies
mod PlaneLemmas
mod PlaneStretches
mod PlaneWords
pub mod NearCodes
pub mod MarkRows
pub mod SizeLemmas
pub mod PageLemmas
