pub mod Escaped
pub mod Numbers
pub mod Ended
pub mod Replayed
pub mod Judged
pub mod Reaching
