pub mod Examples
pub mod OwnSource
pub mod TokenExamples
