pub mod Lists
pub mod Places
pub mod RankOrder
pub mod Shown
pub mod Kept
pub mod Standings
