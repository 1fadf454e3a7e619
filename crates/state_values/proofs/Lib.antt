pub mod Ordering
pub mod ValueRules
pub mod BlendRules
