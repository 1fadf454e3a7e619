pub mod Judging
pub mod WriterLaws
