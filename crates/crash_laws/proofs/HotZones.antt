pub mod AtomsShown
pub mod Recoveries
pub mod SameTexts
pub mod ZoneCalls
pub mod ZoneEnd
pub mod ZoneFaults
pub mod ZoneFrames
pub mod ZoneImages
