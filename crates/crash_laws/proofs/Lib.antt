pub mod HeaderAreas
pub mod HotZones
