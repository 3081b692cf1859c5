pub mod BlockLaws
pub mod Blocks
pub mod BytesLaws
pub mod Numbers
pub mod PieceLaws
pub mod RowLaws
pub mod UnderWay
pub mod UnderWayLaws
