pub mod Passing
pub mod Telling
pub mod Sending
pub mod FewPairs
pub mod TreeAnswers
pub mod Limits
pub mod Lines
pub mod Numbered
pub mod Listed
pub mod Judged
pub mod Storing
pub mod Certificates
pub mod Encodings
pub mod Secrets
pub mod Simulating
pub mod OneFetch
pub mod Compared
pub mod ComparedFiles
pub mod Preparing
pub mod Sampled
mod Admissions
mod OneRule
mod OneCertificate
mod OneExchange
mod OneFinding
mod Leaks
mod OneAnswer
mod Apart
mod Printed
mod Complete
mod Refusals
