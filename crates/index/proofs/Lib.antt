pub mod RunLaws
pub mod SuchLaws
pub mod BucketLaws
pub mod ListLaws
pub mod IndexLaws
pub mod HeadLaws
