pub mod Stores
pub mod Fields
pub mod Handing
mod Used
pub mod Refused
pub mod StudyPromise
pub mod EditPromise
pub mod OneSaid
pub mod RecordAnswers
pub mod Answers
pub mod HostEngines
pub mod RecordEdits
pub mod HostEdits
pub mod HostCalls
