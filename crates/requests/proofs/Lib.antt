pub mod NoQuestions
pub mod NoRequests
