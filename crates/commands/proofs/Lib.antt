pub mod ValueLaws
pub mod RuledLaws
