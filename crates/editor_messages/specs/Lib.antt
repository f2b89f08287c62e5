pub mod Changes
pub mod Methods
pub mod Numbers
