pub mod NumberList
pub mod Reading
