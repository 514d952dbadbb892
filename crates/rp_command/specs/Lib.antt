-- What contracts of the command line cite: what each command takes and makes of the words, and the words of a job.
pub mod Values
pub mod Commands
pub mod Jobs
pub mod Listed
