pub mod ConnectingLemmas
pub mod DamageLemmas
pub mod FollowedLemmas
pub mod StopLemmas
pub mod UndamagedLemmas
