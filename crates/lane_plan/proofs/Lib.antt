pub mod PlanAligned
pub mod PlanBegins
pub mod PlanCourse
pub mod PlanEnds
pub mod PlanMoves
pub mod PlanSizes
